-- Tests that decide facts.
use Rattle.std.proofs.Common.{◌≡◌, ◌↔◌, IsTrue, Bool, true, false}

module _ {A : Type 0} where
  pub is_true : A → IsTrue true ↔ A
  is_true a = ((λ e. a), (λ h. cc))

  pub is_false : ¬ A → IsTrue false ↔ A
  is_false wrong = ((λ e. absurd (cc e)), (λ a. absurd (wrong a)))

  pub passes : (b : Bool) → b ≡ true → IsTrue b ↔ A → A
  passes b is decides = decides.0 is

  pub refuses : (b : Bool) → b ≡ false → IsTrue b ↔ A → ¬ A
  refuses b is decides a = absurd (cc (is, decides.1 a))
