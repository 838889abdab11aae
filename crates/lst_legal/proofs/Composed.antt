-- A report's rules, from those over its run.
use Rattle.std.proofs.Common.{◌≡◌, ◌↔◌, IsTrue, Bool, List, subst}
use Rattle.lst_layout.specs.declared.limits.Limits.{Limits}
use Rattle.lst_model.specs.declared.lines.Line.{Line}
use Rattle.lst_replies.specs.declared.reports.Report.{Report}
use Rattle.lst_replies.specs.Runs.{Answered, run_of}
use Rattle.lst_replies.specs.ReplyKinds.{HaveReplyShape}
use Rattle.lst_replies.specs.Levels.{StateIsToldAtAnyLevel}
use Rattle.lst_replies.specs.Legal.{IsLegalReport, FollowsRules}
use Rattle.lst_legal_runs.specs.declared.levels.Level.{Level}
use Rattle.lst_legal_runs.specs.declared.levels.Level.TheVariants.{Snapshot, Serializable}
use Rattle.lst_legal.specs.Judged.{IsJudged, IsLegalAt}
use Rattle.lst_serial_laws.specs.Legal.{IsLegalSerialReport}

module _ (b : Bool) (limits : Limits) (lines : List Line) (report : Report) (run : List Answered) where
  legal_is : HaveReplyShape lines report.replies → run ≡ run_of lines report.replies → IsTrue b ↔ IsJudged Snapshot limits run report.history → IsTrue b ↔ IsLegalReport limits lines report
  legal_is shape is decides =
      let judged = subst (λ (r : List Answered). IsTrue b ↔ IsJudged Snapshot limits r report.history) is decides in (
        (λ sure. let j = judged.0 sure in let rules = j.all.rules in
            (j.history, record { shape = shape; matches = j.matches; times = rules.times; reads = rules.reads; refusals = rules.refusals; writes = rules.writes; conflicts = rules.conflicts; fullness = rules.fullness; merges = rules.merges })),
        (λ legal. judged.1 (record {
          history = legal.0;
          matches = legal.1.matches;
          all = record {
            rules = record { times = legal.1.times; reads = legal.1.reads; refusals = legal.1.refusals; writes = legal.1.writes; conflicts = legal.1.conflicts; fullness = legal.1.fullness; merges = legal.1.merges };
            added = tt;
          };
        })),
      )

  wide_rules : HaveReplyShape lines report.replies → (j : IsJudged Serializable limits (run_of lines report.replies) report.history) → FollowsRules StateIsToldAtAnyLevel limits lines report j.history
  wide_rules shape j =
      let rules = j.all.rules in
      record { shape = shape; matches = j.matches; times = rules.times; reads = rules.reads; refusals = rules.refusals; writes = rules.writes; conflicts = rules.conflicts; fullness = rules.fullness; merges = rules.merges }

  legal_serial_is : HaveReplyShape lines report.replies → run ≡ run_of lines report.replies → IsTrue b ↔ IsJudged Serializable limits run report.history → IsTrue b ↔ IsLegalSerialReport limits lines report
  legal_serial_is shape is decides =
      let judged = subst (λ (r : List Answered). IsTrue b ↔ IsJudged Serializable limits r report.history) is decides in (
        (λ sure. let j = judged.0 sure in
            (j.history, record { rules = wide_rules shape j; places = j.all.added.places; stales = j.all.added.stales })),
        (λ legal. let rules = legal.1.rules in judged.1 (record {
          history = legal.0;
          matches = rules.matches;
          all = record {
            rules = record { times = rules.times; reads = rules.reads; refusals = rules.refusals; writes = rules.writes; conflicts = rules.conflicts; fullness = rules.fullness; merges = rules.merges };
            added = record { places = legal.1.places; stales = legal.1.stales };
          };
        })),
      )

  pub legal_at_is : (level : Level) → HaveReplyShape lines report.replies → run ≡ run_of lines report.replies → IsTrue b ↔ IsJudged level limits run report.history → IsTrue b ↔ IsLegalAt level limits lines report
  legal_at_is Snapshot shape is decides = legal_is shape is decides
  legal_at_is Serializable shape is decides = legal_serial_is shape is decides
