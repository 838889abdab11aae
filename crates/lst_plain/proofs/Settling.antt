-- The records at a list of places are settled one by one.
use Rattle.std.proofs.Common.{◌≡◌, ℕ, suc, ◌+◌, ◌<◌, ◌≤◌, Bool, true, false, cond, not, List, [], ◌∷◌, length, get_or, set, map, refl, sym, ap, ◌∙◌, subst, arith, get_or-set_same, get_or-set_other, length-set, ⊎_elim}
use Rattle.std.proofs.lemmas.Bool.{eq-eqb, cases_lt}
use Rattle.std.proofs.lemmas.List.{get_or_default}
use Rattle.std.proofs.Math.Seq.{map-set_same}
use Rattle.std.specs.Prelude.{Option, Some, None, ◌&&◌}
use Rattle.std.specs.List.{Contains}
use Rattle.lst_plain.specs.declared.versions.Pending.{Pending}
use Rattle.lst_plain.specs.Rows.{Kept, fresh, newest, settled, settled_row, settled_beside, is_held}
use Rattle.lst_plain.proofs.Opening.{at_each, apart}
use Rattle.lst_plain.proofs.Ending.{held_settled}
use Rattle.lst_plain.proofs.Keeping.{early_settled}

-- settling changes nothing of a record that the session does not hold
pub settled-else : (time : Option ℕ) (s : ℕ) (kept : Kept) → is_held kept.pending s ≡ false → settled time s kept ≡ kept
settled-else time s kept else = at kept.pending else
  where
    at : (pending : Option Pending) → is_held pending s ≡ false → settled_beside pending time s kept ≡ kept
    at None is = refl
    at (Some pending) is = ap (λ b. cond b (settled_row time kept pending) kept) is

released : (time : Option ℕ) (s : ℕ) (kept : Kept) → is_held (settled time s kept).pending s ≡ false
released time s kept = held_settled time s s kept ∙ ap (λ b. is_held kept.pending s && not b) (eq-eqb s s refl) ∙ none (is_held kept.pending s)
  where
    none : (b : Bool) → (b && false) ≡ false
    none true = refl
    none false = refl

-- after one place is settled, settling all comes to the same
pub map-settled : (time : Option ℕ) (s place : ℕ) (records : List Kept) → map (settled time s) (set records place (settled time s (get_or records place (fresh 0)))) ≡ map (settled time s) records
map-settled time s place records = map-set_same (settled time s) records place (settled time s (get_or records place (fresh 0))) (fresh 0)
    (settled-else time s (settled time s (get_or records place (fresh 0))) (released time s (get_or records place (fresh 0))))

-- where no record is held, settling all changes nothing
pub none-settled : (time : Option ℕ) (s : ℕ) (records : List Kept) → ((place : ℕ) (kept : Kept) → place < length records → is_held (get_or records place kept).pending s ≡ false) → map (settled time s) records ≡ records
none-settled time s [] none = refl
none-settled time s (kept ∷ records) none =
    ap (λ k. k ∷ map (settled time s) records) (settled-else time s kept (none 0 kept (omega arith)))
    ∙ ap (λ ks. kept ∷ ks) (none-settled time s records (λ place d low. none (suc place) d (omega arith)))

-- what is left to settle: the places from an index on have all records that the session holds
pub record IsLeft (time : Option ℕ) (s : ℕ) (old records : List Kept) (places : List ℕ) (index : ℕ) : Type 0 where
  pub size : length records ≡ length old
  pub rest : map (settled time s) records ≡ map (settled time s) old
  pub held : (place : ℕ) (kept : Kept) → place < length records → is_held (get_or records place kept).pending s ≡ true → (k : ℕ) × (index ≤ k) × (k < length places) × (get_or places k 0 ≡ place)
  pub early : (t place : ℕ) (kept : Kept) → time ≡ Some t → place < length records → newest (get_or records place kept).versions ≤ t

pub left_at_first : (time : Option ℕ) (s : ℕ) (records : List Kept) (places : List ℕ)
    → ((place : ℕ) (kept : Kept) → place < length records → is_held (get_or records place kept).pending s ≡ true → Contains places place)
    → ((t place : ℕ) (kept : Kept) → time ≡ Some t → place < length records → newest (get_or records place kept).versions ≤ t) → IsLeft time s records records places 0
left_at_first time s records places noted early = record {
  size = refl;
  rest = refl;
  held = λ place kept low is. let at = noted place kept low is in (at.0, omega arith, at.1, sym (get_or_default places at.0 place 0 at.1) ∙ at.2);
  early = early;
}

pub left_after : (time : Option ℕ) (s : ℕ) (old records : List Kept) (places : List ℕ) (index place : ℕ) → get_or places index 0 ≡ place → place < length records → IsLeft time s old records places index
    → IsLeft time s old (set records place (settled time s (get_or records place (fresh 0)))) places (index + 1)
left_after time s old records places index place at low left =
    let new : Kept = settled time s (get_or records place (fresh 0)) in
    let same = length-set records place (settled time s (get_or records place (fresh 0))) in
    record {
      size = same ∙ left.size;
      rest = map-settled time s place records ∙ left.rest;
      held = λ other kept. at_each (λ other. other < length (set records place (settled time s (get_or records place (fresh 0)))) → is_held (get_or (set records place (settled time s (get_or records place (fresh 0)))) other kept).pending s ≡ true
          → (k : ℕ) × (index + 1 ≤ k) × (k < length places) × (get_or places k 0 ≡ other)) place
          (λ _ is. let none : false ≡ true = sym (ap (λ (k : Kept). is_held k.pending s) (get_or-set_same records place (settled time s (get_or records place (fresh 0))) kept low) ∙ released time s (get_or records place (fresh 0))) ∙ is in absurd (cc))
          (λ other else inside is.
          let old_held = left.held other kept (omega (arith, same)) (sym (ap (λ (k : Kept). is_held k.pending s) (get_or-set_other records place other (settled time s (get_or records place (fresh 0))) kept (apart other place else))) ∙ is) in
          (old_held.0, later old_held.0 other (apart other place else) old_held.1 old_held.3, old_held.2, old_held.3))
          other;
      early = λ t other kept is. at_each (λ other. other < length (set records place (settled time s (get_or records place (fresh 0)))) → newest (get_or (set records place (settled time s (get_or records place (fresh 0)))) other kept).versions ≤ t) place
          (λ _. subst (λ (k : Kept). newest k.versions ≤ t) (sym (get_or-set_same records place (settled time s (get_or records place (fresh 0))) kept low))
          (early_settled time s t (get_or records place (fresh 0)) (left.early t place (fresh 0) is low) (λ u now. let both : Some u ≡ Some t = sym now ∙ is in let one : u ≡ t = cc in omega arith)))
          (λ other else inside. subst (λ (k : Kept). newest k.versions ≤ t) (sym (get_or-set_other records place other (settled time s (get_or records place (fresh 0))) kept (apart other place else))) (left.early t other kept is (omega (arith, same))))
          other;
    }
  where
    later : (k other : ℕ) → (other ≡ place → ⊥) → index ≤ k → get_or places k 0 ≡ other → index + 1 ≤ k
    later k other apart low is = ⊎_elim (λ (above : index < k). omega arith) (λ (below : k ≤ index). let same : k ≡ index = omega arith in absurd (apart (sym is ∙ ap (λ i. get_or places i 0) same ∙ at))) (cases_lt index k)

pub left_none : (time : Option ℕ) (s : ℕ) (old records : List Kept) (places : List ℕ) (index : ℕ) → length places ≤ index → IsLeft time s old records places index → records ≡ map (settled time s) old
left_none time s old records places index done left = sym (none-settled time s records (λ place kept low. none place kept low (is_held (get_or records place kept).pending s) refl)) ∙ left.rest
  where
    none : (place : ℕ) (kept : Kept) → place < length records → (b : Bool) → is_held (get_or records place kept).pending s ≡ b → b ≡ false
    none place kept low true is = let at = left.held place kept low is in absurd (omega (arith, at.1, at.2))
    none place kept low false is = refl
