use Rattle.std.proofs.lemmas.Result.{IfErr-weaker}
use Rattle.lst_script.specs.Scripts.{Explains, NamesFaultOfLine}
use Rattle.lst_script.proofs.OwnFaults.{explained_own}
use Rattle.lst_script.proofs.Versions.{answers_named, answers_fault, named_none}
use Rattle.lst_script.proofs.parsing.parse_named.Goals as goal

pub returns-clause-only_ok : goal.returns-clause-only_ok
returns-clause-only_ok c = answers_named c.args.limits.now c.args.bytes.now c.read_text.result c.read_text.ensures.ok c.read_text.ensures.fault

pub returns-clause-only_fault : goal.returns-clause-only_fault
returns-clause-only_fault c = answers_fault c.args.limits.now c.args.bytes.now c.read_text.result (named_none c.args.limits.now c.args.bytes.now c.read_text.result c.read_text.ensures.ok) c.read_text.ensures.fault

pub returns-clause-own : goal.returns-clause-own
returns-clause-own c = IfErr-weaker c.read_text.result (Explains c.args.limits.now c.args.bytes.now) NamesFaultOfLine (explained_own c.args.limits.now c.args.bytes.now) c.read_text.ensures.fault
