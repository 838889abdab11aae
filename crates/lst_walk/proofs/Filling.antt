-- The cells of a row or a patch, one after the other.
use Rattle.std.proofs.Common.{◌≡◌, ℕ, ◌+◌, ◌<◌, ◌≤◌, List, [], ◌∷◌, ◌++◌, length, get_or, refl, sym, ap, ◌∙◌, arith, length-append, length-set, get_or-set_other}
use Rattle.std.proofs.lemmas.List.{ext_get_or}
use Rattle.std.proofs.lemmas.Grind.{get_or-set_at}
use Rattle.std.proofs.lemmas.Option.{get_or_from_slice_get}
use mathlib.Core.Logic.{dite}
use native.Mathlib.Decide.{dec_lt}
use Rattle.std.specs.Prelude.{Option, Some, None, slice_get, slice_set}
use Rattle.lst_model.specs.Cells.{Cell}
use Rattle.lst_rule.specs.declared.view.View.{View}
use Rattle.lst_rule.specs.declared.store.Store.{Store}
use Rattle.lst_rule.specs.Seats.{Sitting}
use Rattle.lst_rule.specs.Copies.{Version}
use Rattle.lst_rule.specs.Watching.{Watched}
use Rattle.lst_rule.specs.TailLoads.{LoadsTail}
use Rattle.lst_walk.specs.Readers.{IsReader, IsAt}
use Rattle.lst_walk.specs.Walks.{Fills, Merges}
use Rattle.lst_rule.proofs.Watching.{watched_same}
use Rattle.lst_walk.proofs.Reading.{watched_on}
use Rattle.lst_rule.proofs.Finds.{loads_none, loads_join}
use Rattle.lst_walk.proofs.Lists.{take_more, take_whole}

module _ {A : Type 0} (store : Store) (s tail : ℕ) (target : Version → List A) where
  pub fills_start : (seat : Sitting) (items : List A) → items ≡ [] → IsReader store seat s → Fills store seat.view seat s tail 0 items target
  fills_start seat items none reader = record { reader = reader; watched = watched_same seat.view s; loads = loads_none (λ t. t ≡ tail) seat.view seat.view s refl; count = ap length none; made = λ c at. none }

  pub fills_next : (v : View) (a b : Sitting) (k : ℕ) (items more : List A) (x : A) → Fills store v a s tail k items target → IsReader store b s → Watched a.view b.view s → LoadsTail a.view b.view s tail → more ≡ items ++ x ∷ [] → ((c : Version) → IsAt v s tail c → slice_get (target c) k ≡ Some x)
      → Fills store v b s tail (k + 1) more target
  fills_next v a b k items more x fills reader watched loads is at = record {
    reader = reader;
    watched = watched_on v a.view b.view s fills.watched watched;
    loads = loads_join (λ t. t ≡ tail) v a.view b.view s fills.loads loads;
    count = ap length is ∙ (length-append items (x ∷ []) ∙ (let e = fills.count in omega arith));
    made = λ c here. is ∙ take_more items (target c) k x (fills.made c here) (at c here);
  }

  pub fills_whole : (v : View) (seat : Sitting) (k : ℕ) (items : List A) → Fills store v seat s tail k items target → (c : Version) → IsAt v s tail c → length (target c) ≤ k → items ≡ target c
  fills_whole v seat k items fills c at high = fills.made c at ∙ take_whole (target c) k high

module _ (store : Store) (s tail : ℕ) (target : Version → List (Option Cell)) where
  pub merges_start : (seat : Sitting) (patch : List (Option Cell)) → IsReader store seat s → Merges store seat.view seat s tail 0 patch patch target
  merges_start seat patch reader = record { reader = reader; watched = watched_same seat.view s; loads = loads_none (λ t. t ≡ tail) seat.view seat.view s refl; count = refl; made = λ c at i low. absurd (omega arith); rest = λ i low. refl }

  pub merges_next : (v : View) (a b : Sitting) (k : ℕ) (patch now : List (Option Cell)) (x : Option Cell) → Merges store v a s tail k patch now target → IsReader store b s → Watched a.view b.view s → LoadsTail a.view b.view s tail → k < length patch → ((c : Version) → IsAt v s tail c → slice_get (target c) k ≡ Some x)
      → Merges store v b s tail (k + 1) patch (slice_set now k x) target
  merges_next v a b k patch now x merges reader watched loads low at = record {
    reader = reader;
    watched = watched_on v a.view b.view s merges.watched watched;
    loads = loads_join (λ t. t ≡ tail) v a.view b.view s merges.loads loads;
    count = length-set now k x ∙ merges.count;
    made = λ c here i below. dite (dec_lt i k) (λ before. get_or-set_other now k i x None (omega arith) ∙ merges.made c here i before)
        (λ after. let e : i ≡ k = omega arith in get_or-set_at now k i x None e (let n = merges.count in omega arith) ∙ (sym (get_or_from_slice_get (target c) k x None (at c here)) ∙ ap (λ (j : ℕ). get_or (target c) j None) (sym e)));
    rest = λ i above. get_or-set_other now k i x None (omega arith) ∙ merges.rest i (omega arith);
  }

  -- it leaves the next cell as it was
  pub merges_same : (v : View) (seat : Sitting) (k : ℕ) (patch now : List (Option Cell)) → Merges store v seat s tail k patch now target → ((c : Version) → IsAt v s tail c → slice_get (target c) k ≡ Some (get_or now k None)) → Merges store v seat s tail (k + 1) patch now target
  merges_same v seat k patch now merges at = record {
    reader = merges.reader;
    watched = merges.watched;
    loads = merges.loads;
    count = merges.count;
    made = λ c here i below. dite (dec_lt i k) (λ before. merges.made c here i before)
        (λ after. let e : i ≡ k = omega arith in ap (λ (j : ℕ). get_or now j None) e ∙ (sym (get_or_from_slice_get (target c) k (get_or now k None) None (at c here)) ∙ ap (λ (j : ℕ). get_or (target c) j None) (sym e)));
    rest = λ i above. merges.rest i (omega arith);
  }

  pub merges_whole : (v : View) (seat : Sitting) (k : ℕ) (patch now : List (Option Cell)) → Merges store v seat s tail k patch now target → (c : Version) → IsAt v s tail c → length (target c) ≡ length patch → length patch ≤ k → now ≡ target c
  merges_whole v seat k patch now merges c at wide high = ext_get_or None now (target c) (merges.count ∙ sym wide) (λ i low. merges.made c at i (let n = merges.count in omega arith))
