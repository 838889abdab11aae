use Rattle.std.proofs.Common.{◌≡◌, ℕ, List, Bor, true, sym, ap, ◌∙◌}
use Rattle.lst_script.specs.Texts.{texts, line_words}
use Rattle.lst_script.specs.Faults.{is_skipped}
use Rattle.std.proofs.lemmas.Result.{IfOk-from_err}
use Rattle.lst_script.specs.declared.faults.ScriptFault.TheVariants as faults
use Rattle.lst_script.specs.Scripts.{Explains}
use Rattle.lst_script.specs.Reading.{IsStart}
use Rattle.lst_script.proofs.Versions.{err_is}
use Rattle.lst_script.proofs.Starting.{begin, pass, too_long}
use Rattle.lst_script.proofs.parsing.find_start.Goals as goal

pub returns-then-line-gt-LONGEST_LINE-clause-fault : goal.returns-then-line-gt-LONGEST_LINE-clause-fault
returns-then-line-gt-LONGEST_LINE-clause-fault c = λ limits. too_long c.args.bytes.now c.loop-line.rest.now c.loop-line.before c.loop-line.invariant c.split_line.result.0.now c.split_line.result.1.now c.split_line.ensures.lines limits c.if-line-gt-LONGEST_LINE.true

pub loop-line-preserved : goal.loop-line-preserved
loop-line-preserved c =
    let line = c.split_line.result.0.now in
    let words : texts c.deref.result.now ≡ line_words line = ap (λ (slices : List (Bor (List ℕ))). texts slices) c.deref.ensures.value ∙ c.in_ok-split_words.ensures in
    let skipped : is_skipped (line_words line) ≡ true = ap (λ (ws : List (List ℕ)). is_skipped ws) (sym words) ∙ c.in_default.ensures in
    pass c.args.bytes.now c.loop-line.rest.now c.loop-line.before c.loop-line.invariant line c.split_line.result.1.now c.split_line.ensures.lines c.split_line.ensures.shorter c.if-line-gt-LONGEST_LINE.false skipped

pub returns-in_err-split_words-clause-ok : goal.returns-in_err-split_words-clause-ok
returns-in_err-split_words-clause-ok c = IfOk-from_err c.from_residual.result (λ start. IsStart c.args.bytes.now start.rest.now start.before start.is_header) c.from_residual.ensures.0

pub returns-in_err-split_words-clause-fault : goal.returns-in_err-split_words-clause-fault
returns-in_err-split_words-clause-fault c = λ limits. err_is (Explains limits c.args.bytes.now) c.from_residual.result faults.OutOfMemory c.from_residual.ensures.1 tt

pub returns-then-line-gt-LONGEST_LINE-clause-ok : goal.returns-then-line-gt-LONGEST_LINE-clause-ok
returns-then-line-gt-LONGEST_LINE-clause-ok c = tt

pub returns-in-Some-clause-fault : goal.returns-in-Some-clause-fault
returns-in-Some-clause-fault c = λ limits. tt

pub returns-clause-fault : goal.returns-clause-fault
returns-clause-fault c = λ limits. tt

pub loop-line-init : goal.loop-line-init
loop-line-init c = begin c.args.bytes.now
