use Rattle.std.proofs.Common.{◌≡◌, ◌↔◌, IsTrue, refl, ℕ, List, subst}
use Rattle.lst_model.specs.declared.commits.Commit.{Commit}
use Rattle.lst_model.specs.declared.lines.Call.{Call}
use Rattle.lst_model.specs.declared.lines.Call.TheVariants.{Begin, AsOf, Get, Insert, Update, Delete, Sum, Count, Scan, Find, Abort, Commit as CommitCall}
use Rattle.lst_model.specs.declared.replies.Reply.{Reply}
use Rattle.lst_replies.specs.Explained.{TimeIsBounded}
use Rattle.lst_legal_runs.proofs.floors.is_time_bounded.Goals as goal

module _ (history : List Commit) (floor : ℕ) (reply : Reply) where
  other_call : (call : Call) → (call ≡ Begin → ⊥) → ((time : ℕ) → call ≡ AsOf time → ⊥) → TimeIsBounded history floor CommitCall reply ≡ TimeIsBounded history floor call reply
  other_call Begin begins names = absurd (begins refl)
  other_call (AsOf time) begins names = absurd (names time refl)
  other_call (Get key) begins names = refl
  other_call (Insert key row) begins names = refl
  other_call (Update key patch) begins names = refl
  other_call (Delete key) begins names = refl
  other_call (Sum column) begins names = refl
  other_call Count begins names = refl
  other_call Scan begins names = refl
  other_call (Find column value) begins names = refl
  other_call CommitCall begins names = refl
  other_call Abort begins names = refl

pub returns-in_default : goal.returns-in_default
returns-in_default c =
    subst (λ (A : Type 0). IsTrue c.is_commit_bounded.result ↔ A)
    (other_call c.args.history.now c.args.floor c.args.reply.now c.args.call.now c.in_default.not-Begin c.in_default.not-AsOf)
    (c.is_commit_bounded.ensures c.args.history.now)
