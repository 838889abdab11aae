use Rattle.std.proofs.Common.{sym, subst}
use Rattle.lst_report.specs.Claims.{Explains}
use Rattle.lst_report.proofs.Claimed.{part_fault, whole_part, no_report}
use Rattle.lst_report.proofs.claims.fault_without_report.Goals.{in-Ok, in-Err}
use Rattle.lst_report.proofs.claims.fault_without_report.Goals as goal

pub returns : goal.returns
returns c =
    elim c.match-parse.branch [
      | in-Ok w ↦ subst (Explains c.args.limits.now c.args.bytes.now) (sym w.result-is) (no_report c.args.limits.now c.args.bytes.now c.args.count w.in-Ok.field-0 c.requires.unmarked w.in-Ok.ensures.ok)
      | in-Err w ↦ subst (Explains c.args.limits.now c.args.bytes.now) (sym w.result-is)
          (part_fault c.args.limits.now c.args.bytes.now c.args.bytes.now w.in-Err.fault (whole_part c.args.limits.now c.args.bytes.now c.args.count c.requires.unmarked) w.in-Err.ensures.fault w.in-Err.ensures.own)
    ]
