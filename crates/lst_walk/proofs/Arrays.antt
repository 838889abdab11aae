-- Copies that are cut, and arrays of numbers.
use Rattle.std.proofs.Common.{◌≡◌, ℕ, zero, suc, ◌+◌, ◌*◌, ◌<◌, ◌≤◌, List, [], ◌∷◌, ◌++◌, Bool, true, false, cond, eqb, ◌&&◌, length, refl, sym, ap, ◌∙◌, arith, inl, inr, eq-eqb, ne_eqb}
use Rattle.std.specs.Prelude.{slice_index, slice_set}
use mathlib.Core.Logic.{dite}
use native.Mathlib.Decide.{ℕ_discrete, dec_lt}
use Rattle.std.proofs.lemmas.List.{get_or-set_same, get_or-set_other, length-set}
use Rattle.lst_layout.specs.declared.limits.Limits.{Limits}
use Rattle.lst_core_state.specs.Lists.{Has, above}
use Rattle.lst_core_state.specs.Cells.{range_of, slot_of}
use Rattle.lst_core_state.proofs.Functions.{either}
use Rattle.lst_rule.specs.Copies.{Version, tails_of, Leads}
use Rattle.lst_walk.specs.Numbered.{AreOver, AreUpTo, number_by, number_from, CopiesAreCut, numbers_from, told_at, ArraysAreFolds}

-- ---- a copy is cut at any number

over_next : (low : ℕ) (c : Version) (cs : List Version) → low < c.tail → AreOver low cs → AreOver low (c ∷ cs)
over_next low c cs some above t (inl e) = omega arith
over_next low c cs some above t (inr i) = above t i

pub leads_low : (l : Limits) (range n : ℕ) (cs : List Version) → Leads l range n cs → (t : ℕ) → Has t (tails_of cs) → t ≤ range * l.tails + n
leads_low l range n [] leads t none = absurd none
leads_low l range n (c ∷ cs) leads t (inl e) = let is = leads.2 in omega arith
leads_low l range n (c ∷ cs) leads t (inr i) = let h = leads_low l range c.back cs leads.4 t i in let less = leads.3 in omega arith

pub cut : (l : Limits) (range n low : ℕ) (copy : List Version) → Leads l range n copy → (newer : List Version) × (older : List Version) × (copy ≡ newer ++ older) × AreOver low newer × AreUpTo low older
cut l range n low [] leads = ([], [], refl, (λ t i. absurd i), (λ t i. absurd i))
cut l range n low (c ∷ cs) leads = dite (dec_lt low c.tail)
    (λ some. let q = cut l range c.back low cs leads.4 in (c ∷ q.0, q.1, ap (λ (xs : List Version). c ∷ xs) q.2, over_next low c q.0 some q.3, q.4))
    (λ not. ([], c ∷ cs, refl, (λ t i. absurd i), (λ t i. let h = leads_low l range n (c ∷ cs) leads t i in let is = leads.2 in le_of_not low c.tail t not (omega arith))))
  where
    le_of_not : (a b t : ℕ) → ¬ (a < b) → t ≤ b → t ≤ a
    le_of_not a b t h low = grind (arith, h, low)

pub copies_are_cut : CopiesAreCut
copies_are_cut l facts rec n low copy chain = cut l (range_of rec) n low copy chain.leads

-- ---- an array of numbers

length-numbers_from : (told : ℕ → Bool) (version : ℕ → Version) (column low : ℕ) (numbers : List ℕ) (m : ℕ) → length (numbers_from told version column low numbers m) ≡ length numbers
length-numbers_from told version column low numbers zero = refl
length-numbers_from told version column low numbers (suc m) = either (λ (xs : List ℕ). length xs ≡ length numbers) (told (low + suc m))
    (slice_set (numbers_from told version column low numbers m) (slot_of (version (low + suc m)).encoding) (number_by column (version (low + suc m)) (slice_index (numbers_from told version column low numbers m) (slot_of (version (low + suc m)).encoding))))
    (numbers_from told version column low numbers m)
    (λ _. length-set (numbers_from told version column low numbers m) (slot_of (version (low + suc m)).encoding) _ ∙ length-numbers_from told version column low numbers m)
    (λ _. length-numbers_from told version column low numbers m)

pub arrays_are_folds : ArraysAreFolds
arrays_are_folds told version column low numbers zero i short = refl
arrays_are_folds told version column low numbers (suc m) i short = step (told (low + suc m)) (arrays_are_folds told version column low numbers m i short) (length-numbers_from told version column low numbers m)
  where
    t : ℕ
    t = low + suc m

    step : (b : Bool) → slice_index (numbers_from told version column low numbers m) i ≡ number_from (told_at told version i) version column low (slice_index numbers i) m → length (numbers_from told version column low numbers m) ≡ length numbers
        → slice_index (cond b (slice_set (numbers_from told version column low numbers m) (slot_of (version (low + suc m)).encoding) (number_by column (version (low + suc m)) (slice_index (numbers_from told version column low numbers m) (slot_of (version (low + suc m)).encoding)))) (numbers_from told version column low numbers m)) i
        ≡ cond (b && eqb (slot_of (version (low + suc m)).encoding) i) (number_by column (version (low + suc m)) (number_from (told_at told version i) version column low (slice_index numbers i) m)) (number_from (told_at told version i) version column low (slice_index numbers i) m)
    step false rest wide = rest
    step true rest wide = dite (ℕ_discrete (slot_of (version (low + suc m)).encoding) i)
        (λ e. let xs : List ℕ = numbers_from told version column low numbers m in let c : Version = version (low + suc m) in let at : i ≡ slot_of c.encoding = sym e in let there : slot_of c.encoding < length xs = omega (arith, wide) in
        ap (slice_index (slice_set xs (slot_of c.encoding) (number_by column c (slice_index xs (slot_of c.encoding))))) at ∙ (get_or-set_same xs (slot_of c.encoding) (number_by column c (slice_index xs (slot_of c.encoding))) 0 there
        ∙ (ap (number_by column c) (ap (slice_index xs) e ∙ rest) ∙ sym (ap (λ (b : Bool). cond b (number_by column c (number_from (told_at told version i) version column low (slice_index numbers i) m)) (number_from (told_at told version i) version column low (slice_index numbers i) m)) (eq-eqb (slot_of c.encoding) i e)))))
        (λ ne. let xs : List ℕ = numbers_from told version column low numbers m in let c : Version = version (low + suc m) in
        get_or-set_other xs (slot_of c.encoding) i (number_by column c (slice_index xs (slot_of c.encoding))) 0 (λ e. ne (sym e))
        ∙ (rest ∙ sym (ap (λ (b : Bool). cond b (number_by column c (number_from (told_at told version i) version column low (slice_index numbers i) m)) (number_from (told_at told version i) version column low (slice_index numbers i) m)) (ne_eqb (slot_of c.encoding) i ne))))
