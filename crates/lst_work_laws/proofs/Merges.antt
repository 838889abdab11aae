-- The replies to merges.
use Rattle.std.proofs.Common.{◌≡◌, ℕ, List, [], ◌∷◌, true, refl}
use Rattle.std.specs.List.{AllByRecursion}
use Rattle.lst_model.specs.declared.lines.Line.{Line}
use Rattle.lst_model.specs.declared.lines.Line.TheVariants.{Phase, Merge, Call}
use Rattle.lst_model.specs.declared.replies.Reply.{Reply}
use Rattle.lst_model.specs.declared.replies.Reply.TheVariants.{Merged as MergedReply, NothingNew, NoFrame}
use Rattle.lst_rule.specs.declared.view.View.{View}
use Rattle.lst_replies.specs.ReplyKinds.{can_answer_merge}
use Rattle.lst_session.specs.Lines.{MergeLeaves}
use Rattle.lst_work_laws.specs.Merges.{Merging}

answers_by : (v w : View) (range column : ℕ) (reply : Reply) → MergeLeaves v w range column reply → can_answer_merge reply ≡ true
answers_by v w range column (MergedReply tps) x = refl
answers_by v w range column (NothingNew tps) x = refl
answers_by v w range column (NoFrame session) x = refl
answers_by v w range column reply x = absurd x

-- each is one that answers a merge
pub merging_answers : (lines : List Line) (replies : List Reply) (v w : View) → Merging lines replies v w → AllByRecursion (λ (reply : Reply). can_answer_merge reply ≡ true) replies
merging_answers [] [] v w x = tt
merging_answers [] (reply ∷ replies) v w x = absurd x
merging_answers (Phase ∷ lines) replies v w x = absurd x
merging_answers (Call session call ∷ lines) replies v w x = absurd x
merging_answers (Merge range column ∷ lines) [] v w x = absurd x
merging_answers (Merge range column ∷ lines) (reply ∷ replies) v w x = (answers_by v x.0 range column reply x.1, merging_answers lines replies x.0 w x.2)
