-- What answers a call, and why the answers of a transaction whose reads are in place stay at its serial place.
use Rattle.std.specs.Prelude.{◌≡◌, ◌⊎◌, ℕ, ◌-◌, List, Bool, true, Option, IsSome, IsNone, IfSome}
use Rattle.lst_model.specs.declared.acts.Write.{Write}
use Rattle.lst_model.specs.declared.commits.Commit.{Commit}
use Rattle.lst_model.specs.declared.lines.Call.{Call as CallKind}
use Rattle.lst_model.specs.declared.lines.Call.TheVariants.{Get, Insert, Update, Delete, Sum, Count, Scan, Find}
use Rattle.lst_model.specs.declared.replies.Reply.{Reply}
use Rattle.lst_model.specs.declared.replies.Reply.TheVariants.{Refused, Keys, Sum as SumReply, Count as CountReply, Rows as RowsReply}
use Rattle.lst_model.specs.declared.replies.Cause.TheVariants.{Exists, Missing}
use Rattle.lst_model.specs.Cells.{Cell}
use Rattle.lst_model.specs.Tables.{Rows, row_of}
use Rattle.lst_model.specs.Histories.{snapshot}
use Rattle.lst_replies.specs.Runs.{write_of}
use Rattle.lst_replies.specs.Explained.{TellsSight}
use Rattle.lst_serial_laws.specs.Places.{IsInPlace}

-- a write that is refused for its key has read it: there is a row, or none
abbrev pub TellsKey : Option (List Cell) → Reply → Type 0
TellsKey row (Refused Exists) = IsSome row
TellsKey row (Refused Missing) = IsNone row
TellsKey row reply = Unit {0}

-- what a call has read is told as this table has it: rows, keys and numbers, and of a write whether its key is there
abbrev pub IsAnsweredBy : Rows → CallKind → Reply → Type 0
IsAnsweredBy sight call reply = TellsSight sight call reply × IfSome (write_of call) (λ write. TellsKey (row_of sight write.key) reply)

-- what the call read, if it was answered so, is among what was read: keys, or all
abbrev pub IsCovered : (ℕ → Bool) → Bool → CallKind → Reply → Type 0
IsCovered reads all (Get key) reply = (reads key ≡ true) ⊎ (all ≡ true)
IsCovered reads all (Insert key row) reply = (reads key ≡ true) ⊎ (all ≡ true)
IsCovered reads all (Update key patch) reply = (reads key ≡ true) ⊎ (all ≡ true)
IsCovered reads all (Delete key) reply = (reads key ≡ true) ⊎ (all ≡ true)
IsCovered reads all (Sum column) (SumReply total) = all ≡ true
IsCovered reads all Count (CountReply rows) = all ≡ true
IsCovered reads all Scan (RowsReply list) = all ≡ true
IsCovered reads all (Find column value) (Keys list) = all ≡ true
IsCovered reads all call reply = Unit {0}

-- a read that the transaction's snapshot answers is answered alike as of the time before the commit, where what was read is in place
abbrev pub AnswersStay : Type 0
AnswersStay = (reads : ℕ → Bool) (all : Bool) (history : List Commit) (begin time : ℕ) (own : List Write) (call : CallKind) (reply : Reply)
    → IsInPlace reads all history begin time → IsCovered reads all call reply
    → IsAnsweredBy (snapshot history begin own) call reply → IsAnsweredBy (snapshot history (time - 1) own) call reply
