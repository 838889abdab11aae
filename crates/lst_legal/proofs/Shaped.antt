-- What the shape of the replies, and lines that fit, give of a run.
use Rattle.std.proofs.Common.{◌≡◌, ℕ, ◌<◌, true, List, [], ◌∷◌, Option, None, IfSome, refl}
use Rattle.std.specs.List.{All}
use Rattle.std.proofs.lemmas.List.Elements.{All-nil, All-cons, All-head, All-tail}
use Rattle.lst_model.specs.declared.lines.Line.{Line}
use Rattle.lst_model.specs.declared.lines.Line.TheVariants.{Phase, Merge, Call}
use Rattle.lst_model.specs.declared.replies.Reply.{Reply}
use Rattle.lst_model.specs.declared.replies.Reply.TheVariants.{Begun, Done, Row, Absent, Committed, Ended, Aborted, Sum, Count, Rows, Keys, Refused, Merged, NothingNew, NoFrame, Silent}
use Rattle.lst_legal.specs.Judged.{AreSessionsBelow}
use Rattle.lst_replies.specs.Runs.{Answered, answered, run_of, commit_time, speaker_of}
use Rattle.lst_replies.specs.ReplyKinds.{HaveReplyShape, can_answer_merge}
use Rattle.lst_legal_runs.specs.Places.{AreWithin}
use Rattle.lst_legal_runs.specs.Gathering.{CommitsNothing}

abbrev Told : Type 0
Told = Option ℕ × Reply

no_commit : (reply : Reply) → can_answer_merge reply ≡ true → commit_time reply ≡ None
no_commit (Begun time) can = refl
no_commit Done can = refl
no_commit (Row row) can = refl
no_commit Absent can = refl
no_commit (Committed time) can = absurd (cc)
no_commit (Ended time) can = refl
no_commit Aborted can = refl
no_commit (Sum total) can = refl
no_commit (Count rows) can = refl
no_commit (Rows list) can = refl
no_commit (Keys list) can = refl
no_commit (Refused cause) can = refl
no_commit (Merged tps) can = refl
no_commit (NothingNew tps) can = refl
no_commit (NoFrame session) can = refl
no_commit Silent can = refl

pub commits_of_calls : (lines : List Line) (replies : List (Option ℕ × Reply)) → HaveReplyShape lines replies → All CommitsNothing (run_of lines replies)
commits_of_calls [] replies shape = All-nil CommitsNothing
commits_of_calls (Phase ∷ lines) [] shape = All-cons CommitsNothing (answered Phase Silent) (run_of lines []) tt (commits_of_calls lines [] shape)
commits_of_calls (Phase ∷ lines) (reply ∷ replies) shape = All-cons CommitsNothing (answered Phase Silent) (run_of lines (reply ∷ replies)) tt (commits_of_calls lines (reply ∷ replies) shape)
commits_of_calls (Merge range column ∷ lines) [] shape = All-nil CommitsNothing
commits_of_calls (Merge range column ∷ lines) (reply ∷ replies) shape = All-cons CommitsNothing (answered (Merge range column) reply.1) (run_of lines replies) (no_commit reply.1 shape.0.kind) (commits_of_calls lines replies shape.1)
commits_of_calls (Call session call ∷ lines) [] shape = All-nil CommitsNothing
commits_of_calls (Call session call ∷ lines) (reply ∷ replies) shape = All-cons CommitsNothing (answered (Call session call) reply.1) (run_of lines replies) tt (commits_of_calls lines replies shape.1)

module _ (sessions : ℕ) where
  abbrev Below : Line → Type 0
  Below line = IfSome (speaker_of line) (λ session. session < sessions)

  abbrev Within : Answered → Type 0
  Within one = IfSome (speaker_of one.line) (λ session. session < sessions)

  pub within_lines : (lines : List Line) (replies : List (Option ℕ × Reply)) → AreSessionsBelow sessions lines → AreWithin sessions (run_of lines replies)
  within_lines [] replies below = All-nil Within
  within_lines (Phase ∷ lines) replies below = All-cons Within (answered Phase Silent) (run_of lines replies) tt (within_lines lines replies (All-tail Below Phase lines below))
  within_lines (Merge range column ∷ lines) [] below = All-nil Within
  within_lines (Merge range column ∷ lines) (reply ∷ replies) below = All-cons Within (answered (Merge range column) reply.1) (run_of lines replies) tt (within_lines lines replies (All-tail Below (Merge range column) lines below))
  within_lines (Call session call ∷ lines) [] below = All-nil Within
  within_lines (Call session call ∷ lines) (reply ∷ replies) below = All-cons Within (answered (Call session call) reply.1) (run_of lines replies) (All-head Below (Call session call) lines below) (within_lines lines replies (All-tail Below (Call session call) lines below))
