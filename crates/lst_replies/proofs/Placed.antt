-- The words of a line by their places.
use Rattle.std.proofs.Common.{◌≡◌, ℕ, Bool, true, false, not, List, [], ◌∷◌, length, get_or, codes, decimal, bytes_eq, None, option_map, Bor, refl, sym, ap, ◌∙◌, arith}
use Rattle.std.proofs.lemmas.Bool.{cond-true, cond-false}
use Rattle.lst_model.specs.declared.replies.Reply.TheVariants.{Merged, NothingNew, NoFrame}
use Rattle.lst_replies.specs.Reading.{texts, number32, number64, with_both, stamp_in, merge_reply}

pub two_words : (ws : List (Bor (List ℕ))) (d : Bor (List ℕ)) → length ws ≡ 2 → texts ws ≡ (get_or ws 0 d).now ∷ (get_or ws 1 d).now ∷ []
two_words [] d e = absurd (omega arith)
two_words (a ∷ []) d e = absurd (omega arith)
two_words (a ∷ b ∷ []) d e = refl
two_words (a ∷ b ∷ x ∷ xs) d e = absurd (omega arith)

pub four_words : (ws : List (Bor (List ℕ))) (d : Bor (List ℕ)) → length ws ≡ 4 → texts ws ≡ (get_or ws 0 d).now ∷ (get_or ws 1 d).now ∷ (get_or ws 2 d).now ∷ (get_or ws 3 d).now ∷ []
four_words [] d e = absurd (omega arith)
four_words (a ∷ []) d e = absurd (omega arith)
four_words (a ∷ b ∷ []) d e = absurd (omega arith)
four_words (a ∷ b ∷ x ∷ []) d e = absurd (omega arith)
four_words (a ∷ b ∷ x ∷ y ∷ []) d e = refl
four_words (a ∷ b ∷ x ∷ y ∷ z ∷ zs) d e = absurd (omega arith)

pub not_four : (time : ℕ) (ws : List (Bor (List ℕ))) → (length ws ≡ 4 → ⊥) → stamp_in time (texts ws) ≡ None
not_four time [] other = refl
not_four time (a ∷ []) other = refl
not_four time (a ∷ b ∷ []) other = refl
not_four time (a ∷ b ∷ x ∷ []) other = refl
not_four time (a ∷ b ∷ x ∷ y ∷ []) other = absurd (other refl)
not_four time (a ∷ b ∷ x ∷ y ∷ z ∷ zs) other = refl

-- a test for another text than the one that was written, by what it was answered
pub differs : (word made text : List ℕ) (r : Bool) → r ≡ not (bytes_eq word made) → made ≡ text → r ≡ true → bytes_eq word text ≡ false
differs word made text r e same told = by_value (bytes_eq word text) (sym (ap (λ t. not (bytes_eq word t)) same) ∙ sym e ∙ told)
  where
    by_value : (b : Bool) → not b ≡ true → b ≡ false
    by_value true f = absurd cc
    by_value false f = refl

pub agrees : (word made text : List ℕ) (r : Bool) → r ≡ not (bytes_eq word made) → made ≡ text → r ≡ false → bytes_eq word text ≡ true
agrees word made text r e same told = by_value (bytes_eq word text) (sym (ap (λ t. not (bytes_eq word t)) same) ∙ sym e ∙ told)
  where
    by_value : (b : Bool) → not b ≡ false → b ≡ true
    by_value true f = refl
    by_value false f = absurd cc

module _ (time : ℕ) (ws : List (Bor (List ℕ))) (d : Bor (List ℕ)) (four : length ws ≡ 4) where
  pub stamp_other : bytes_eq (get_or ws 0 d).now (decimal time) ≡ false → stamp_in time (texts ws) ≡ None
  stamp_other e = ap (stamp_in time) (four_words ws d four) ∙ cond-false _ _ _ e

  pub stamp_told : bytes_eq (get_or ws 0 d).now (decimal time) ≡ true
      → stamp_in time (texts ws) ≡ with_both (λ (session : ℕ) (rest : ℕ × ℕ). record { session = session; number = rest.0; begin = rest.1 }) (number32 (get_or ws 1 d).now) (with_both (λ (number begin : ℕ). (number, begin)) (number32 (get_or ws 2 d).now) (number64 (get_or ws 3 d).now))
  stamp_told e = ap (stamp_in time) (four_words ws d four) ∙ cond-true _ _ _ e

-- what a test for a text was answered
pub tested : (word made text : List ℕ) (r v : Bool) → r ≡ bytes_eq word made → made ≡ text → r ≡ v → bytes_eq word text ≡ v
tested word made text r v e same told = sym (ap (bytes_eq word) same) ∙ sym e ∙ told

module _ (ws : List (Bor (List ℕ))) (d : Bor (List ℕ)) (two : length ws ≡ 2) where
  pub merge_first : bytes_eq (get_or ws 0 d).now (codes "merged") ≡ true → merge_reply (texts ws) ≡ option_map (λ n. Merged n) (number32 (get_or ws 1 d).now)
  merge_first e = ap merge_reply (two_words ws d two) ∙ cond-true _ _ _ e

  pub merge_second : bytes_eq (get_or ws 0 d).now (codes "merged") ≡ false → bytes_eq (get_or ws 0 d).now (codes "idle") ≡ true → merge_reply (texts ws) ≡ option_map (λ n. NothingNew n) (number32 (get_or ws 1 d).now)
  merge_second e f = ap merge_reply (two_words ws d two) ∙ cond-false _ _ _ e ∙ cond-true _ _ _ f

  pub merge_third : bytes_eq (get_or ws 0 d).now (codes "merged") ≡ false → bytes_eq (get_or ws 0 d).now (codes "idle") ≡ false → bytes_eq (get_or ws 0 d).now (codes "noframe") ≡ true → merge_reply (texts ws) ≡ option_map (λ n. NoFrame n) (number32 (get_or ws 1 d).now)
  merge_third e f g = ap merge_reply (two_words ws d two) ∙ cond-false _ _ _ e ∙ cond-false _ _ _ f ∙ cond-true _ _ _ g

  pub merge_none : bytes_eq (get_or ws 0 d).now (codes "merged") ≡ false → bytes_eq (get_or ws 0 d).now (codes "idle") ≡ false → bytes_eq (get_or ws 0 d).now (codes "noframe") ≡ false → merge_reply (texts ws) ≡ None
  merge_none e f g = ap merge_reply (two_words ws d two) ∙ cond-false _ _ _ e ∙ cond-false _ _ _ f ∙ cond-false _ _ _ g
