-- A loop over the tails of a range that folds those that are seen into an array.
use Rattle.std.proofs.Common.{◌≡◌, ◌≢◌, ◌⊎◌, ℕ, zero, suc, ◌+◌, ◌*◌, ◌%◌, ◌<◌, ◌≤◌, List, [], ◌∷◌, Bool, true, false, cond, eqb, ◌&&◌, Contains, length, refl, sym, subst, ap, ◌∙◌, arith, inl, inr, ⊎_elim, true≢false, eq-eqb, ne_eqb, eqb-true}
use Rattle.std.specs.Prelude.{Option, unwrap_or, slice_index}
use mathlib.Core.Logic.{dite}
use native.Mathlib.Decide.{ℕ_discrete}
use Rattle.lst_layout.specs.declared.TheConstants.{RANGE_RECORDS}
use Rattle.lst_layout.specs.declared.limits.Limits.{Limits}
use Rattle.lst_layout.specs.Words.{shown}
use Rattle.lst_bits.specs.Times.{time_of}
use Rattle.lst_core_state.specs.Lists.{Has}
use Rattle.lst_core_state.specs.declared.facts.Fact.{Fact}
use Rattle.lst_core_state.specs.Cells.{range_of, record_of, slot_of}
use Rattle.lst_core_state.specs.Sound.{FactsOf}
use Rattle.lst_core_state.proofs.Decoded.{both_say}
use Rattle.lst_pages.specs.Frames.{tps_in, stamp_in}
use Rattle.lst_rule.specs.declared.view.View.{View}
use Rattle.lst_rule.specs.Rule.{knows, hosts}
use Rattle.lst_rule.specs.Learned.{Possible}
use Rattle.lst_rule.specs.Copies.{Version, fact_of, tails_of, IsVersionOf, AreKnown, AreVersionsOf}
use Rattle.lst_rule.specs.Seen.{sees}
use Rattle.lst_rule.specs.Laws.{KeptBy}
use Rattle.lst_rule.proofs.Seeing.{same_sees}
use Rattle.lst_walk.specs.Pages.{IsPageOf}
use Rattle.lst_walk.specs.Walks.{IsCellOf}
use Rattle.lst_walk.specs.Numbered.{HasNoTail, KnowsChain, TellsTails, number_from, number_at_slot, numbers_from, told_at}
use Rattle.lst_walk.specs.Folding.{IsTold, IsUntold, changed_by, FoldsTails, FoldsStay, FoldsAreNumbers}
use Rattle.lst_walk.proofs.Chained.{chains_stay_known}
use Rattle.lst_walk.proofs.Sighted.{facts_now}
use Rattle.lst_walk.proofs.Ranged.{one_version}
use Rattle.lst_walk.proofs.Arrays.{arrays_are_folds}
use Rattle.lst_walk.proofs.Entered.{folds_on_pages}

-- ---- a later view

pub folds_stay : FoldsStay
folds_stay u v w s range column low zero first numbers kept limits f = f
folds_stay u v w s range column low (suc m) first numbers kept limits f = (
  f.0,
  folds_stay u v w s range column low m first f.0 kept limits f.1,
  ⊎_elim
      (λ (q : (c : Version) × IsTold v s range (low + suc m) c × (numbers ≡ changed_by column c f.0)). inl (
        q.0,
        record {
          at = q.1.at;
          is = subst (λ (l : Limits). IsVersionOf l (RANGE_RECORDS * range + slot_of q.0.encoding) q.0) (sym limits) q.1.is;
          known = kept.facts (fact_of q.0) q.1.known;
          seen = same_sees (knows v s) (knows w s) s q.0.writer kept.alike ∙ q.1.seen;
        },
        q.2,
      ))
      (λ (q : IsUntold u v s (low + suc m) × (numbers ≡ f.0)). inr ((λ c known at. same_sees (knows v s) (knows w s) s c.writer kept.alike ∙ q.0 c known at), q.1))
      f.2,
)

-- ---- what was told

no_version : Version
no_version = record { tail = 0; writer = 0; encoding = 0; back = 0; values = [] }

module _ (u v : View) (s range column low : ℕ) (first : List ℕ) where
  abbrev One : ℕ → List ℕ → List ℕ → Type 0
  One m before numbers = ((c : Version) × IsTold v s range (low + suc m) c × (numbers ≡ changed_by column c before)) ⊎ (IsUntold u v s (low + suc m) × (numbers ≡ before))

  was_told : (m : ℕ) (before numbers : List ℕ) → One m before numbers → Bool
  was_told m before numbers (inl q) = true
  was_told m before numbers (inr q) = false

  its_version : (m : ℕ) (before numbers : List ℕ) → One m before numbers → Version
  its_version m before numbers (inl q) = q.0
  its_version m before numbers (inr q) = no_version

  told_of : (m : ℕ) (numbers : List ℕ) → FoldsTails u v s range column low first m numbers → ℕ → Bool
  told_of zero numbers f t = false
  told_of (suc m) numbers f t = cond (eqb t (low + suc m)) (was_told m f.0 numbers f.2) (told_of m f.0 f.1 t)

  version_of : (m : ℕ) (numbers : List ℕ) → FoldsTails u v s range column low first m numbers → ℕ → Version
  version_of zero numbers f t = no_version
  version_of (suc m) numbers f t = cond (eqb t (low + suc m)) (its_version m f.0 numbers f.2) (version_of m f.0 f.1 t)

  -- the last one, and those before it
  last_told : (m : ℕ) (numbers : List ℕ) (f : FoldsTails u v s range column low first (suc m) numbers) (t : ℕ) → t ≡ low + suc m → told_of (suc m) numbers f t ≡ was_told m f.0 numbers f.2
  unfolding told_of
  last_told m numbers f t e = ap (λ (b : Bool). cond b (was_told m f.0 numbers f.2) (told_of m f.0 f.1 t)) (eq-eqb t (low + suc m) e)

  last_version : (m : ℕ) (numbers : List ℕ) (f : FoldsTails u v s range column low first (suc m) numbers) (t : ℕ) → t ≡ low + suc m → version_of (suc m) numbers f t ≡ its_version m f.0 numbers f.2
  unfolding version_of
  last_version m numbers f t e = ap (λ (b : Bool). cond b (its_version m f.0 numbers f.2) (version_of m f.0 f.1 t)) (eq-eqb t (low + suc m) e)

  earlier_told : (m : ℕ) (numbers : List ℕ) (f : FoldsTails u v s range column low first (suc m) numbers) (t : ℕ) → t ≢ low + suc m → told_of (suc m) numbers f t ≡ told_of m f.0 f.1 t
  unfolding told_of
  earlier_told m numbers f t ne = ap (λ (b : Bool). cond b (was_told m f.0 numbers f.2) (told_of m f.0 f.1 t)) (ne_eqb t (low + suc m) ne)

  earlier_version : (m : ℕ) (numbers : List ℕ) (f : FoldsTails u v s range column low first (suc m) numbers) (t : ℕ) → t ≢ low + suc m → version_of (suc m) numbers f t ≡ version_of m f.0 f.1 t
  unfolding version_of
  earlier_version m numbers f t ne = ap (λ (b : Bool). cond b (its_version m f.0 numbers f.2) (version_of m f.0 f.1 t)) (ne_eqb t (low + suc m) ne)

  one_told : (m : ℕ) (before numbers : List ℕ) (q : One m before numbers) → was_told m before numbers q ≡ true → IsTold v s range (low + suc m) (its_version m before numbers q)
  unfolding was_told its_version
  one_told m before numbers (inl q) e = q.1
  one_told m before numbers (inr q) e = absurd (true≢false (sym e))

  one_untold : (m : ℕ) (before numbers : List ℕ) (q : One m before numbers) → was_told m before numbers q ≡ false → IsUntold u v s (low + suc m)
  unfolding was_told
  one_untold m before numbers (inl q) e = absurd (true≢false e)
  one_untold m before numbers (inr q) e = q.0

  one_numbers : (m : ℕ) (before numbers : List ℕ) (q : One m before numbers) → numbers ≡ cond (was_told m before numbers q) (changed_by column (its_version m before numbers q) before) before
  unfolding was_told its_version
  one_numbers m before numbers (inl q) = q.2
  one_numbers m before numbers (inr q) = q.1

  is_told : (m : ℕ) (numbers : List ℕ) (f : FoldsTails u v s range column low first m numbers) (t : ℕ) → low < t → t ≤ low + m → told_of m numbers f t ≡ true → IsTold v s range t (version_of m numbers f t)
  is_told zero numbers f t some most e = absurd (omega arith)
  is_told (suc m) numbers f t some most e = dite (ℕ_discrete t (low + suc m))
      (λ last. subst (λ (c : Version). IsTold v s range t c) (sym (last_version m numbers f t last)) (subst (λ (x : ℕ). IsTold v s range x (its_version m f.0 numbers f.2)) (sym last) (one_told m f.0 numbers f.2 (sym (last_told m numbers f t last) ∙ e))))
      (λ ne. subst (λ (c : Version). IsTold v s range t c) (sym (earlier_version m numbers f t ne)) (is_told m f.0 f.1 t some (omega arith) (sym (earlier_told m numbers f t ne) ∙ e)))

  is_untold : (m : ℕ) (numbers : List ℕ) (f : FoldsTails u v s range column low first m numbers) (t : ℕ) → low < t → t ≤ low + m → told_of m numbers f t ≡ false → IsUntold u v s t
  is_untold zero numbers f t some most e = absurd (omega arith)
  is_untold (suc m) numbers f t some most e = dite (ℕ_discrete t (low + suc m))
      (λ last. subst (IsUntold u v s) (sym last) (one_untold m f.0 numbers f.2 (sym (last_told m numbers f t last) ∙ e)))
      (λ ne. is_untold m f.0 f.1 t some (omega arith) (sym (earlier_told m numbers f t ne) ∙ e))

  -- a loop looks only at the tails that it goes over
  loop_same : (told other : ℕ → Bool) (version that : ℕ → Version) (m : ℕ) → ((t : ℕ) → low < t → t ≤ low + m → (told t ≡ other t) × (version t ≡ that t)) → numbers_from told version column low first m ≡ numbers_from other that column low first m
  loop_same told other version that zero same = refl
  loop_same told other version that (suc m) same = let q = same (low + suc m) (omega arith) (omega arith) in let rest = loop_same told other version that m (λ t some most. same t some (omega arith)) in
      λ i. cond (q.0 i) (changed_by column (q.1 i) (rest i)) (rest i)

  loop_is : (m : ℕ) (numbers : List ℕ) (f : FoldsTails u v s range column low first m numbers) → numbers ≡ numbers_from (told_of m numbers f) (version_of m numbers f) column low first m
  loop_is zero numbers f = f
  loop_is (suc m) numbers f = let told : ℕ → Bool = told_of (suc m) numbers f in let version : ℕ → Version = version_of (suc m) numbers f in
      let before : f.0 ≡ numbers_from told version column low first m = loop_is m f.0 f.1 ∙ loop_same (told_of m f.0 f.1) told (version_of m f.0 f.1) version m (λ t some most. (sym (earlier_told m numbers f t (λ e. omega arith)), sym (earlier_version m numbers f t (λ e. omega arith)))) in
      one_numbers m f.0 numbers f.2 ∙ (λ i. cond (sym (last_told m numbers f (low + suc m) refl) i) (changed_by column (sym (last_version m numbers f (low + suc m) refl) i) (before i)) (before i))

-- ---- the version of a copy at a tail

copied_at : (l : Limits) (facts : List Fact) (rec t : ℕ) (cs : List Version) → AreKnown facts cs → AreVersionsOf l rec cs → Has t (tails_of cs) → (c : Version) × Contains facts (fact_of c) × IsVersionOf l rec c × (c.tail ≡ t)
copied_at l facts rec t [] known are none = absurd none
copied_at l facts rec t (c ∷ cs) known are (inl e) = (c, known.0, are.0, sym e)
copied_at l facts rec t (c ∷ cs) known are (inr i) = copied_at l facts rec t cs known.1 are.1 i

-- ---- the numbers

module _ (u w : View) (s range column m i : ℕ) (copy : List Version) (frame : ℕ → ℕ) (first numbers : List ℕ) (page : IsPageOf w (RANGE_RECORDS * range + i) column frame) (p : Possible u) (has : HasNoTail u s) (hosted : hosts w s ≡ true) (limits : w.limits ≡ u.limits) (kept : KeptBy (knows u s) (knows w s))
    (short : column < w.limits.columns) (few : i < RANGE_RECORDS) (within : i < length first) (chain : KnowsChain u s (RANGE_RECORDS * range + i) copy) (all : (t : ℕ) → Has t (tails_of copy) → t ≤ range * w.limits.tails + tps_in frame + m)
    (f : FoldsTails u w s range column (range * w.limits.tails + tps_in frame) first m numbers) (is : slice_index first i ≡ number_at_slot frame page.right.entries.values i) (timely : time_of (stamp_in frame i) ≤ (knows w s).begin) where
  abbrev rec : ℕ
  rec = RANGE_RECORDS * range + i

  abbrev base : ℕ
  base = range * w.limits.tails + tps_in frame

  abbrev told : ℕ → Bool
  told = told_of u w s range column base first m numbers f

  abbrev version : ℕ → Version
  version = version_of u w s range column base first m numbers f

  range_is : range_of rec ≡ range
  range_is = omega (arith, few)

  slot_is : rec % 256 ≡ i
  slot_is = omega (arith, few)

  stays : HasNoTail w s × KnowsChain w s rec copy
  stays = chains_stay_known u w s rec copy p page.now has hosted limits kept chain

  facts : FactsOf w.limits (shown w.limits page.now.words) (knows w s).facts
  facts = facts_now w s rec copy page.now stays.0 stays.1

  told_is : (t : ℕ) → base < t → t ≤ base + m → told_at told version i t ≡ true → IsTold w s range t (version t) × (slot_of (version t).encoding ≡ i)
  told_is t some most e = let both = both_say (told t) (eqb (slot_of (version t).encoding) i) e in (is_told u w s range column base first m numbers f t some most both.0, eqb-true (slot_of (version t).encoding) i both.1)

  else_is : (c : Version) → base < c.tail → c.tail ≤ base + m → told_at told version i c.tail ≡ false → Has c.tail (tails_of copy) → Contains (knows w s).facts (fact_of c) → sees (knows w s) s c.writer ≡ false
  else_is c some most e on known = choose (told c.tail) refl
    where
      there : (d : Version) × Contains (knows u s).facts (fact_of d) × IsVersionOf u.limits rec d × (d.tail ≡ c.tail)
      there = copied_at u.limits (knows u s).facts rec c.tail copy chain.is.chain.known chain.is.chain.whole on

      fact : Contains (knows w s).facts (fact_of there.0)
      fact = kept.facts (fact_of there.0) there.1

      same : c ≡ there.0
      same = one_version w.limits (shown w.limits page.now.words) c there.0 (facts (fact_of c) known) (facts (fact_of there.0) fact) (sym there.3)

      choose : (b : Bool) → told c.tail ≡ b → sees (knows w s) s c.writer ≡ false
      choose false none = ap (λ (x : Version). sees (knows w s) s x.writer) same ∙ is_untold u w s range column base first m numbers f c.tail some most none there.0 there.1 there.3
      choose true taken = absurd (true≢false (sym (λ j. taken j && eq-eqb (slot_of (version c.tail).encoding) i slot j) ∙ e))
        where
          q : IsTold w s range c.tail (version c.tail)
          q = is_told u w s range column base first m numbers f c.tail some most taken

          one : version c.tail ≡ there.0
          one = one_version w.limits (shown w.limits page.now.words) (version c.tail) there.0 (facts (fact_of (version c.tail)) q.known) (facts (fact_of there.0) fact) (q.at ∙ sym there.3)

          here : record_of w.limits.tails (version c.tail).tail (version c.tail).encoding ≡ rec
          here = (λ j. record_of (limits j).tails (one j).tail (one j).encoding) ∙ there.2.here

          slot : slot_of (version c.tail).encoding ≡ i
          slot = let a = q.is.here in omega (arith, a, here)

  tells : TellsTails w s rec base m copy (told_at told version i) version
  tells = record {
    all = all;
    at = λ t some most e. (told_is t some most e).0.at;
    is = λ t some most e. subst (λ (n : ℕ). IsVersionOf w.limits (RANGE_RECORDS * range + n) (version t)) (told_is t some most e).1 (told_is t some most e).0.is;
    known = λ t some most e. (told_is t some most e).0.known;
    seen = λ t some most e. (told_is t some most e).0.seen;
    else = else_is;
  }

  base_is : range_of rec * w.limits.tails + tps_in frame ≡ base
  base_is = ap (λ (r : ℕ). r * w.limits.tails + tps_in frame) range_is

  cell : (c : Option ℕ) × IsCellOf w s rec column c × (number_from (told_at told version i) version column (range_of rec * w.limits.tails + tps_in frame) (number_at_slot frame page.right.entries.values (rec % 256)) m ≡ unwrap_or c 0)
  cell = folds_on_pages w s rec column m copy frame (told_at told version i) version page stays.0 short stays.1 (subst (λ (n : ℕ). time_of (stamp_in frame n) ≤ (knows w s).begin) (sym slot_is) timely)
      (subst (λ (b : ℕ). TellsTails w s rec b m copy (told_at told version i) version) (sym base_is) tells)

  array_number : (c : Option ℕ) × IsCellOf w s rec column c × (slice_index numbers i ≡ unwrap_or c 0)
  array_number = (
    cell.0,
    cell.1,
    ap (λ (xs : List ℕ). slice_index xs i) (loop_is u w s range column base first m numbers f)
        ∙ (arrays_are_folds told version column base first m i within
        ∙ (ap (λ (x : ℕ). number_from (told_at told version i) version column base x m) is
        ∙ (sym (λ j. number_from (told_at told version i) version column (base_is j) (number_at_slot frame page.right.entries.values (slot_is j)) m)
        ∙ cell.2))),
  )

pub folds_are_numbers : FoldsAreNumbers
folds_are_numbers u w s range column m i copy frame first numbers page p has hosted limits kept short few within chain all f is timely = array_number u w s range column m i copy frame first numbers page p has hosted limits kept short few within chain all f is timely
