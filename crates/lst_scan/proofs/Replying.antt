-- The table that a crew's transaction sees is the machine's.
use Rattle.std.proofs.Common.{◌≡◌, ℕ, ◌<◌, Bool, true, false, not, refl, sym, ap, ◌∙◌}
use Rattle.std.specs.Cmp.{nat_cmp_total}
use Rattle.std.specs.FinMap.{same_map, nat_cmp-IsAntisymmetric}
use Rattle.lst_model.specs.declared.replies.Reply.{Reply}
use Rattle.lst_model.specs.declared.replies.Reply.TheVariants as reply
use Rattle.lst_model.specs.declared.replies.Cause.TheVariants.{NotIndexed}
use Rattle.lst_model.specs.Tables.{Rows, sum_of, count_of, scan_of, find_of}
use Rattle.lst_machine.specs.State.{Opened}
use Rattle.lst_machine.specs.Writes.{sight_of}
use Rattle.lst_machine.specs.Calls.{in_open, refused_or, where_true, is_indexed, call_reply, store_after}
use Rattle.lst_model.specs.declared.lines.Call.{Call}
use Rattle.lst_model.specs.declared.lines.Call.TheVariants as call
use Rattle.lst_refinement.specs.Effects.{begins_or_ends}
use Rattle.lst_rule.specs.declared.view.View.{View}
use Rattle.lst_rule.specs.Rule.{knows}
use Rattle.lst_rule.specs.Learned.{Possible}
use Rattle.lst_rule.specs.Watching.{Watched}
use Rattle.lst_session.specs.Crews.{store_told, Answers}
use Rattle.lst_session.proofs.Paged.{still_answers}
use Rattle.lst_scan.proofs.Leaving.{readers_only_look}
use Rattle.lst_session.proofs.Crewed.{IsCrewView, crew_view, opened_some, watched_told}
use Rattle.lst_session.proofs.Getting.{sight_is}
use Rattle.lst_scan.specs.Scans.{table_seen}
use Rattle.lst_scan.specs.Replies.{AnswersScans, CrewsAnswerScans}
use Rattle.lst_scan.proofs.Seeing.{row_seen}

module _ (v w : View) (s : ℕ) (crew : IsCrewView v) (p : Possible v) (low : s < v.limits.sessions) (opened : (knows v s).is_open ≡ true) (watched : Watched v w s) where
  table_is : sight_of v.limits (store_told v) s (knows v s).begin ≡ table_seen (knows v s)
  table_is = same_map nat_cmp_total nat_cmp-IsAntisymmetric (sight_of v.limits (store_told v) s (knows v s).begin) (table_seen (knows v s)) (λ key. sight_is v crew p s low opened key ∙ sym (row_seen (knows v s) key))

  -- whatever is asked about it
  by_table : (answer : Rows → Reply) → answer (table_seen (knows v s)) ≡ in_open ((store_told v).opened s) (λ (t : Opened). answer (sight_of v.limits (store_told v) s t.begin))
  by_table answer = ap answer (sym table_is) ∙ (λ i. in_open (sym (opened_some v s low opened) i) (λ (t : Opened). answer (sight_of v.limits (store_told v) s t.begin)))

  whole : (c : Call) (answer : Reply) → begins_or_ends c ≡ false → answer ≡ call_reply v.limits (store_told v) s c → store_after v.limits (store_told v) s c ≡ store_told v → Answers v w s c answer
  whole c answer neither is same = let looks = (readers_only_look v w s low watched).0 in still_answers v w s low looks.called c answer (record { reply = is; next = watched_told v w s watched crew.whole ∙ sym same; limits = watched.learns.limits }) looks.pins neither

  pub answers_scans : AnswersScans v w s
  answers_scans = record {
    sum = λ column. whole (call.Sum column) (reply.Sum (sum_of (table_seen (knows v s)) column)) refl (by_table (λ table. reply.Sum (sum_of table column))) refl;
    count = whole call.Count (reply.Count (count_of (table_seen (knows v s)))) refl (by_table (λ table. reply.Count (count_of table))) refl;
    rows = whole call.Scan (reply.Rows (scan_of (table_seen (knows v s)))) refl (by_table (λ table. reply.Rows (scan_of table))) refl;
    found = λ column number indexed. whole (call.Find column number) (reply.Keys (find_of (table_seen (knows v s)) column number)) refl
        (ap (λ (b : Bool). refused_or (where_true (not b) NotIndexed) (reply.Keys (find_of (table_seen (knows v s)) column number))) (sym indexed)
        ∙ by_table (λ table. refused_or (where_true (not (is_indexed v.limits column)) NotIndexed) (reply.Keys (find_of table column number)))) refl;
  }

pub crews_answer_scans : CrewsAnswerScans
crews_answer_scans store crew seat s is tells p low opened watched = answers_scans crew.seat.view seat.view s (crew_view store crew is tells) p low opened watched
