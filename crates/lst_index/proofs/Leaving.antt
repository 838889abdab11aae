-- What a placing leaves of the words that a view knows.
use Rattle.std.proofs.Common.{◌≡◌, ℕ, ◌<◌, ◌≤◌, List, true, Option, Some, IfSome, Result, Ok, Err, OnOk, sym, subst, ap, ◌∙◌, arith, inl, inr, ⊎_elim}
use Rattle.lst_layout.specs.declared.limits.Limits.{Limits}
use Rattle.lst_layout.specs.Words.{Words, shown}
use Rattle.lst_core_state.specs.declared.known.Placing.{Placing}
use Rattle.lst_core_state.specs.Cells.{record_count}
use Rattle.lst_core_state.specs.Index.{size}
use Rattle.lst_rule.specs.declared.view.View.{View}
use Rattle.lst_rule.specs.Rule.{knows, hosts}
use Rattle.lst_rule.specs.Learned.{Possible, Kept}
use Rattle.lst_rule.proofs.Knowing.{whole_words}
use Rattle.lst_rule.specs.declared.store.Store.{Store}
use Rattle.lst_rule.specs.Seats.{Sitting}
use Rattle.lst_rule.specs.declared.records.RecordId.{RecordId}
use Rattle.lst_index.specs.Searches.{Ended}
use Rattle.lst_index.specs.Placings.{HasRecord, HasNone, drawn_words, claimed_words, PlacedAnew, Leaves, LeavesFull}
use Rattle.lst_index.specs.Visits.{Draws, Claims, Places}
use Rattle.lst_index.proofs.Ending.{ended_absent}
use Rattle.lst_index.proofs.Visiting.{if_some}

pub ok_then : {T E P Q : Type 0} → (o : Result T E) → (P → Q) → OnOk o P → OnOk o Q
ok_then (Ok x) f p = f p
ok_then (Err x) f p = p

pub draws_as : (u v w : View) (s key : ℕ) → v.limits ≡ u.limits → v.words ≡ u.words → Draws v w s key → Draws u w s key
draws_as u v w s key limits same d = record {
  number = d.number;
  low = subst (λ (l : Limits). d.number < record_count l) limits d.low;
  next = (λ i. (shown (sym limits i) (sym same i)).counter) ∙ d.next;
  hand = d.hand;
  words = d.words ∙ (λ i. drawn_words (limits i) (same i) d.number key);
  index = subst (λ (l : Limits). (shown l w.words).index ≡ (shown l u.words).index) limits (d.index ∙ ap (λ (ws : List ℕ). (shown v.limits ws).index) same);
}

-- the words and limits of another view
pub leaves_as : (l m : Limits) (ws xs now : List ℕ) (key r : ℕ) → m ≡ l → xs ≡ ws → Leaves m xs now key r → Leaves l ws now key r
leaves_as l m ws xs now key r same e h = subst (λ (z : Limits). Leaves z ws now key r) same (subst (λ (z : List ℕ). Leaves m z now key r) e h)

pub full_as : (l m : Limits) (ws xs now : List ℕ) (key : ℕ) → m ≡ l → xs ≡ ws → LeavesFull m xs now key → LeavesFull l ws now key
full_as l m ws xs now key same e h = subst (λ (z : Limits). LeavesFull z ws now key) same (subst (λ (z : List ℕ). LeavesFull m z now key) e h)

-- a run that was found to end without the key: the index has no record with it
pub ended_none : (v : View) (s key : ℕ) → hosts v s ≡ true → v.whole ≡ true → Ended v s key → HasNone v.limits v.words key
ended_none v s key hosted whole e = subst (λ (ws : List ℕ). HasNone v.limits ws key) (sym (e.allowed.whole whole)) (ended_absent v s key hosted e)

-- ---- one position, after a look, u to v

module _ (u v : View) (s key : ℕ) (limits : v.limits ≡ u.limits) (whole_is : v.whole ≡ u.whole) (kept : Kept u v) (placing : (knows v s).placing ≡ (knows u s).placing) where
  free_still : (knows u s).placing.hand ≡ 0 → (knows v s).placing.hand ≡ 0
  free_still free = ap (λ (p : Placing). p.hand) placing ∙ free

  -- and a comparison, w
  module _ (w : View) (o : Option RecordId) (after : Kept v w) where
    pub found_leaves : IfSome o (λ r. v.whole ≡ true → HasRecord v.limits v.words key r.number) → IfSome o (λ r. u.whole ≡ true → (knows u s).placing.hand ≡ 0 → Leaves u.limits u.words w.words key r.number)
    found_leaves h = if_some o (λ r had whole free. leaves_as u.limits v.limits u.words v.words w.words key r.number limits (kept.words whole) (inl (after.words (whole_is ∙ whole), had (whole_is ∙ whole)))) h

  -- a free position, where the run ends
  module _ (hosted : hosts v s ≡ true) (ended : Ended v s key) where
    -- and each record is drawn
    pub refused_full : (b : View) → Kept v b → (v.whole ≡ true → record_count v.limits ≤ (shown v.limits v.words).counter) → u.whole ≡ true → LeavesFull u.limits u.words b.words key
    refused_full b after full whole = full_as u.limits v.limits u.words v.words b.words key limits (kept.words whole) record {
      none = ended_none v s key hosted (whole_is ∙ whole) ended;
      full = full (whole_is ∙ whole);
      same = after.words (whole_is ∙ whole);
    }

    -- or one is drawn, b, and claims the position, w
    module _ (b w : View) (at : ℕ) (short : at < size u.limits) (same : b.limits ≡ v.limits) (sure : b.whole ≡ v.whole) (free_at : u.whole ≡ true → (shown u.limits u.words).index at ≡ 0) (draws : v.whole ≡ true → (knows v s).placing.hand ≡ 0 → Draws v b s key) where
      at_before : u.whole ≡ true → (shown v.limits v.words).index at ≡ 0
      at_before whole = (λ i. (shown (limits i) (kept.words whole i)).index at) ∙ free_at whole

      at_then : u.whole ≡ true → (knows u s).placing.hand ≡ 0 → (shown b.limits b.words).index at ≡ 0
      at_then whole free = let d = draws (whole_is ∙ whole) (free_still free) in
          ap (λ (l : Limits). (shown l b.words).index at) same ∙ (ap (λ (f : ℕ → ℕ). f at) d.index ∙ at_before whole)

      placed_anew : (r : ℕ) → u.whole ≡ true → Draws v b s key → Claims b w s at r → PlacedAnew v.limits v.words w.words key r
      placed_anew r whole d c = let is : d.number ≡ r = (let e = d.hand in let f = c.hand in omega arith) in record {
        none = ended_none v s key hosted (whole_is ∙ whole) ended;
        low = subst (λ (n : ℕ). n < record_count v.limits) is d.low;
        next = d.next ∙ is;
        position = at;
        short = subst (λ (l : Limits). at < size l) (sym limits) short;
        empty = at_before whole;
        words = c.words ∙ (λ i. claimed_words (same i) ((d.words ∙ ap (λ (n : ℕ). drawn_words v.limits v.words n key) is) i) at r);
      }

      pub settled_leaves : (o : Option RecordId) → IfSome o (λ r. b.whole ≡ true → (shown b.limits b.words).index at ≡ 0 → Claims b w s at r.number) → IfSome o (λ r. u.whole ≡ true → (knows u s).placing.hand ≡ 0 → Leaves u.limits u.words w.words key r.number)
      settled_leaves o h = if_some o (λ r claims whole free. leaves_as u.limits v.limits u.words v.words w.words key r.number limits (kept.words whole)
          (inr (placed_anew r.number whole (draws (whole_is ∙ whole) (free_still free)) (claims (sure ∙ (whole_is ∙ whole)) (at_then whole free))))) h

-- ---- the whole placing

module _ (store : Store) (v : View) (seat : Sitting) (s key n : ℕ) (p : Places store v seat s key n) where
  pub place_leaves : (now : List ℕ) (o : Option RecordId) (found : RecordId) → o ≡ Some found
      → IfSome o (λ r. seat.view.whole ≡ true → (knows seat.view s).placing.hand ≡ 0 → Leaves seat.view.limits seat.view.words now key r.number) → v.whole ≡ true → Leaves v.limits v.words now key found.number
  place_leaves now o found is h whole = let t = p.rests whole in leaves_as v.limits seat.view.limits v.words seat.view.words now key found.number p.works.view.limits t.words
      (subst (λ (z : Option RecordId). IfSome z (λ r. seat.view.whole ≡ true → (knows seat.view s).placing.hand ≡ 0 → Leaves seat.view.limits seat.view.words now key r.number)) is h (p.works.view.whole ∙ whole) t.free)

  pub place_full : (now : List ℕ) → (seat.view.whole ≡ true → LeavesFull seat.view.limits seat.view.words now key) → v.whole ≡ true → LeavesFull v.limits v.words now key
  place_full now h whole = let t = p.rests whole in full_as v.limits seat.view.limits v.words seat.view.words now key p.works.view.limits t.words (h (p.works.view.whole ∙ whole))

-- ---- a key that has a record

-- it has no other
module _ (v : View) (p : Possible v) (whole : v.whole ≡ true) (key r : ℕ) (had : HasRecord v.limits v.words key r) where
  pub had_once : (n : ℕ) → HasRecord v.limits v.words key n → n ≡ r
  had_once n h = let a = whole_words v p.words p.known p.merger p.allowed whole in let w : Words = shown v.limits v.words in
      let e = h.1 in let f = had.1 in
      let same : h.0 ≡ had.0 = a.sound.index.one h.0 had.0 (omega arith) (omega arith) ((ap w.keys (omega arith) ∙ h.2) ∙ sym (ap w.keys (omega arith) ∙ had.2)) in
      let g = ap w.index same in omega arith

  stands : HasNone v.limits v.words key → ⊥
  stands none = let e = had.1 in none had.0 (omega arith) (ap (shown v.limits v.words).keys (omega arith) ∙ had.2)

  -- it gets it, and nothing is stored
  pub placed_again : (now : List ℕ) (n : ℕ) → Leaves v.limits v.words now key n → (n ≡ r) × (now ≡ v.words)
  placed_again now n h = ⊎_elim (λ (t : (now ≡ v.words) × HasRecord v.limits v.words key n). (had_once n t.1, t.0)) (λ (q : PlacedAnew v.limits v.words now key n). absurd (stands q.none)) h

  pub never_full : (now : List ℕ) → LeavesFull v.limits v.words now key → ⊥
  never_full now h = stands h.none
