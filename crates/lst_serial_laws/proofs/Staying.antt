-- Answers of a transaction whose reads are in place.
use Rattle.std.proofs.Common.{◌≡◌, ◌⊎◌, ⊎_elim, ℕ, ◌-◌, List, Bool, true, sym, subst, ap, ◌∙◌}
use Rattle.std.specs.Prelude.{Option}
use Rattle.lst_model.specs.declared.acts.Write.{Write}
use Rattle.lst_model.specs.declared.commits.Commit.{Commit}
use Rattle.lst_model.specs.declared.lines.Call.{Call as CallKind}
use Rattle.lst_model.specs.declared.lines.Call.TheVariants.{Begin, AsOf, Get, Insert, Update, Delete, Sum, Count, Scan, Find, Commit as CommitCall, Abort}
use Rattle.lst_model.specs.declared.replies.Reply.{Reply}
use Rattle.lst_model.specs.declared.replies.Reply.TheVariants.{Row, Absent, Keys, Sum as SumReply, Count as CountReply, Rows as RowsReply}
use Rattle.lst_model.specs.Cells.{Cell}
use Rattle.lst_model.specs.Tables.{Rows, row_of}
use Rattle.lst_model.specs.Histories.{snapshot}
use Rattle.lst_replies.specs.Explained.{TellsSight}
use Rattle.lst_serial_laws.specs.Places.{IsInPlace}
use Rattle.lst_serial_laws.proofs.Placing.{places_answer_keys, places_answer_all}
use Rattle.lst_serial_laws.specs.Answers.{TellsKey, IsAnsweredBy, IsCovered, AnswersStay}

module _ (reads : ℕ → Bool) (all : Bool) (history : List Commit) (begin time : ℕ) (own : List Write) (placed : IsInPlace reads all history begin time) where
  abbrev then : Rows
  then = snapshot history begin own

  abbrev now : Rows
  now = snapshot history (time - 1) own

  whole : all ≡ true → snapshot history (time - 1) own ≡ snapshot history begin own
  whole e = (places_answer_all reads history begin time (subst (λ (b : Bool). IsInPlace reads b history begin time) e placed) own).table

  row : (key : ℕ) → (reads key ≡ true) ⊎ (all ≡ true) → row_of (snapshot history (time - 1) own) key ≡ row_of (snapshot history begin own) key
  row key covered = ⊎_elim
      (λ (was : reads key ≡ true). (places_answer_keys reads all history begin time placed own key was).row)
      (λ (e : all ≡ true). ap (λ (table : Rows). row_of table key) (whole e))
      covered

  key_stays : (key : ℕ) (reply : Reply) → (reads key ≡ true) ⊎ (all ≡ true) → TellsKey (row_of then key) reply → TellsKey (row_of now key) reply
  key_stays key reply covered told = subst (λ (r : Option (List Cell)). TellsKey r reply) (sym (row key covered)) told

  whole_stays : (call : CallKind) (reply : Reply) → all ≡ true → TellsSight then call reply → TellsSight now call reply
  whole_stays call reply e told = subst (λ (table : Rows). TellsSight table call reply) (sym (whole e)) told

  get_stays : (key : ℕ) (reply : Reply) → (reads key ≡ true) ⊎ (all ≡ true) → TellsSight then (Get key) reply → TellsSight now (Get key) reply
  get_stays key (Row cells) covered told = row key covered ∙ told
  get_stays key Absent covered told = row key covered ∙ told
  get_stays key reply covered told = tt

  sum_stays : (column : ℕ) (reply : Reply) → IsCovered reads all (Sum column) reply → TellsSight then (Sum column) reply → TellsSight now (Sum column) reply
  sum_stays column (SumReply total) covered told = whole_stays (Sum column) (SumReply total) covered told
  sum_stays column reply covered told = tt

  count_stays : (reply : Reply) → IsCovered reads all Count reply → TellsSight then Count reply → TellsSight now Count reply
  count_stays (CountReply rows) covered told = whole_stays Count (CountReply rows) covered told
  count_stays reply covered told = tt

  scan_stays : (reply : Reply) → IsCovered reads all Scan reply → TellsSight then Scan reply → TellsSight now Scan reply
  scan_stays (RowsReply list) covered told = whole_stays Scan (RowsReply list) covered told
  scan_stays reply covered told = tt

  find_stays : (column value : ℕ) (reply : Reply) → IsCovered reads all (Find column value) reply → TellsSight then (Find column value) reply → TellsSight now (Find column value) reply
  find_stays column value (Keys list) covered told = whole_stays (Find column value) (Keys list) covered told
  find_stays column value reply covered told = tt

  stays : (call : CallKind) (reply : Reply) → IsCovered reads all call reply → IsAnsweredBy then call reply → IsAnsweredBy now call reply
  stays (Get key) reply covered told = (get_stays key reply covered told.0, tt)
  stays (Insert key cells) reply covered told = (tt, key_stays key reply covered told.1)
  stays (Update key patch) reply covered told = (tt, key_stays key reply covered told.1)
  stays (Delete key) reply covered told = (tt, key_stays key reply covered told.1)
  stays (Sum column) reply covered told = (sum_stays column reply covered told.0, tt)
  stays Count reply covered told = (count_stays reply covered told.0, tt)
  stays Scan reply covered told = (scan_stays reply covered told.0, tt)
  stays (Find column value) reply covered told = (find_stays column value reply covered told.0, tt)
  stays Begin reply covered told = (tt, tt)
  stays (AsOf named) reply covered told = (tt, tt)
  stays CommitCall reply covered told = (tt, tt)
  stays Abort reply covered told = (tt, tt)

pub answers_stay : AnswersStay
answers_stay reads all history begin time own call reply placed covered told = stays reads all history begin time own placed call reply covered told
