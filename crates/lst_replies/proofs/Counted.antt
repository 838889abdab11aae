-- What a report is, by the number of its commits.
use Rattle.std.proofs.Common.{◌≡◌, ℕ, ◌+◌, Bool, true, false, ◌&&◌, List, length, Option, Ok, Err, refl, sym, ap, ◌∙◌}
use Rattle.std.proofs.lemmas.Bool.{cond-true, cond-false, eqb-true, eq-eqb}
use Rattle.lst_model.specs.declared.replies.Reply.{Reply}
use Rattle.lst_replies.specs.declared.reports.Stamp.{Stamp}
use Rattle.lst_replies.specs.Reading.{after_stamps}

both_hold : (a b : Bool) → a ≡ true → b ≡ true → (a && b) ≡ true
both_hold a b e f = ap (λ x. x && b) e ∙ f

not_both : (a b : Bool) → (a ≡ true → b ≡ true → ⊥) → (a && b) ≡ false
not_both true true h = absurd (h refl refl)
not_both true false h = refl
not_both false b h = refl

pub stamps_whole : (replies : List (Option ℕ × Reply)) (count : ℕ) (stamps history : List Stamp) (left : ℕ) → history ≡ stamps → length history ≡ count → left ≡ count
    → after_stamps replies count stamps left ≡ Ok (record { replies = replies; history = history })
stamps_whole replies count stamps history left e f g =
    ap (λ s. after_stamps replies count s left) (sym e) ∙ cond-true _ _ _ (both_hold _ _ (eq-eqb (length history) count f) (eq-eqb left count g))

pub stamps_short : (replies : List (Option ℕ × Reply)) (count : ℕ) (stamps history : List Stamp) (left m n : ℕ) → history ≡ stamps → (length history ≡ count → left ≡ count → ⊥) → m ≡ length replies → n ≡ length history
    → after_stamps replies count stamps left ≡ Err (m + 2 + n)
stamps_short replies count stamps history left m n e h f g =
    ap (λ s. after_stamps replies count s left) (sym e)
    ∙ cond-false _ _ _ (not_both _ _ (λ p q. h (eqb-true (length history) count p) (eqb-true left count q)))
    ∙ ap (λ k. Err (k + 2 + length history)) (sym f) ∙ ap (λ k. Err (m + 2 + k)) (sym g)
