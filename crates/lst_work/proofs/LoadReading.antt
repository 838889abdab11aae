-- The numbers in the last replies.
use Rattle.std.proofs.Common.{◌≡◌, ℕ, suc, ◌+◌, ◌-◌, List, [], ◌∷◌, ◌++◌, length, length-append, get_or, Option, Some, sym, ap, ◌∙◌, arith}
use Rattle.lst_model.specs.declared.replies.Reply.{Reply}
use Rattle.lst_model.specs.declared.replies.Reply.TheVariants.{Begun, Ended, Sum, Count}
use Rattle.lst_work.specs.Loaded.{TellsTotals}

behind : {A : Type 0} (xs ys : List A) (i : ℕ) (d : A) → get_or (xs ++ ys) (length xs + i) d ≡ get_or ys i d
behind {A} [] ys i d = let e : 0 + i ≡ i = omega arith in ap (λ (k : ℕ). get_or ys k d) e
behind {A} (x ∷ xs) ys i d = let e : length (x ∷ xs) + i ≡ suc (length xs + i) = omega arith in ap (λ (k : ℕ). get_or (x ∷ xs ++ ys) k d) e ∙ behind xs ys i d

abbrev last_four : ℕ → ℕ → ℕ → List (Option ℕ × Reply)
last_four begin rows total = (Some 0, Begun begin) ∷ (Some 0, Count rows) ∷ (Some 0, Sum total) ∷ (Some 0, Ended begin) ∷ []

module _ (replies : List (Option ℕ × Reply)) (rows total : ℕ) (t : TellsTotals replies rows total) where
  long : length replies ≡ length t.front + 4
  long = ap length t.is ∙ length-append t.front (last_four t.begin rows total)

  count_there : (d : Option ℕ × Reply) → get_or replies (length replies - 3) d ≡ (Some 0, Count rows)
  count_there d =
      let l = long in let e : length replies - 3 ≡ length t.front + 1 = omega arith in
      ap (λ (k : ℕ). get_or replies k d) e ∙ (ap (λ (rs : List (Option ℕ × Reply)). get_or rs (length t.front + 1) d) t.is ∙ behind t.front (last_four t.begin rows total) 1 d)

  sum_there : (d : Option ℕ × Reply) → get_or replies (length replies - 2) d ≡ (Some 0, Sum total)
  sum_there d =
      let l = long in let e : length replies - 2 ≡ length t.front + 2 = omega arith in
      ap (λ (k : ℕ). get_or replies k d) e ∙ (ap (λ (rs : List (Option ℕ × Reply)). get_or rs (length t.front + 2) d) t.is ∙ behind t.front (last_four t.begin rows total) 2 d)

same_count : (a b : ℕ) → Count a ≡ Count b → a ≡ b
same_count a b e = cc

same_sum : (a b : ℕ) → Sum a ≡ Sum b → a ≡ b
same_sum a b e = cc

-- replies tell two numbers alone
pub same_totals : (replies : List (Option ℕ × Reply)) (rows total count sum : ℕ) → TellsTotals replies rows total → TellsTotals replies count sum → (rows ≡ count) × (total ≡ sum)
same_totals replies rows total count sum x y = let d : Option ℕ × Reply = (Some 0, Count 0) in (
  same_count rows count (ap (λ (p : Option ℕ × Reply). p.1) (sym (count_there replies rows total x d) ∙ count_there replies count sum y d)),
  same_sum total sum (ap (λ (p : Option ℕ × Reply). p.1) (sym (sum_there replies rows total x d) ∙ sum_there replies count sum y d)),
)
