-- What a test of an open transaction and a written key decides of the transaction and the write themselves.
use Rattle.std.proofs.Common.{◌≡◌, ◌↔◌, ℕ, ◌∙◌, Bool, IsTrue, Option, Some, None, IfSome, option_map, sym}
use Rattle.std.proofs.lemmas.Option.{same_Some, none-some}
use Rattle.lst_model.specs.declared.acts.Write.{Write}
use Rattle.lst_replies.specs.declared.states.Transaction.{Transaction}
use Rattle.lst_replies.specs.Runs.{key_of}
use Rattle.lst_legal_runs.specs.declared.outlines.OpenOutline.{OpenOutline}
use Rattle.lst_legal_runs.specs.Outlines.{outline_of_open}

pub at_write : (b : Bool) (P : Transaction → Write → Type 0) (transaction : Option Transaction) (write : Option Write) (current : Option OpenOutline) (key : Option ℕ) (outline : OpenOutline) (number : ℕ)
    → current ≡ option_map outline_of_open transaction → current ≡ Some outline → key ≡ key_of write → key ≡ Some number
    → ((t : Transaction) (w : Write) → outline ≡ outline_of_open t → number ≡ w.key → IsTrue b ↔ P t w)
    → IsTrue b ↔ IfSome transaction (λ t. IfSome write (λ w. P t w))
at_write b P None write current key outline number is here key_is key_here decides = absurd (none-some outline (sym is ∙ here))
at_write b P (Some t) None current key outline number is here key_is key_here decides = absurd (none-some number (sym key_is ∙ key_here))
at_write b P (Some t) (Some w) current key outline number is here key_is key_here decides =
    decides t w (same_Some outline (outline_of_open t) (sym here ∙ is)) (same_Some number w.key (sym key_here ∙ key_is))
