use Rattle.std.proofs.Common.{arith}
use Rattle.lst_replies.proofs.Outcomes.{tells_found, tells_only, tells_bad}
use Rattle.lst_replies.proofs.parse.parse_report.Goals as goal

pub returns-clause-found : goal.returns-clause-found
returns-clause-found c = tells_found c.args.columns (omega (arith, c.requires)) c.args.bytes.now c.parse_text.result c.parse_text.ensures

pub returns-clause-only : goal.returns-clause-only
returns-clause-only c = tells_only c.args.columns (omega (arith, c.requires)) c.args.bytes.now c.parse_text.result c.parse_text.ensures

pub returns-clause-bad : goal.returns-clause-bad
returns-clause-bad c = tells_bad c.args.columns (omega (arith, c.requires)) c.args.bytes.now c.parse_text.result c.parse_text.ensures
