use Rattle.std.proofs.Common.{◌≡◌, ◌+◌, ◌-◌, length, take, drop, Err, sym, ap, subst, ◌∙◌, arith, length-drop}
use Rattle.std.proofs.lemmas.List.{take_all}
use Rattle.lst_replies.specs.ReportTexts.{IsFirstFault}
use Rattle.lst_report.specs.Claims.{HasBadReport}
use Rattle.lst_report.proofs.Claimed.{fault_few, bad_report}
use Rattle.lst_report.proofs.claims.read_parts.Goals as goal

pub overflow_add-result-in-Err-Bad : goal.overflow_add-result-in-Err-Bad
overflow_add-result-in-Err-Bad c =
    let at = c.requires.mark in
    let text = c.args.bytes.now in
    let behind = c.args.mark.behind in
    let whole : take (length text - behind) (drop behind text) ≡ drop behind text = take_all (length text - behind) (drop behind text) (omega (arith, length-drop behind text)) in
    let fault = subst (λ part. IsFirstFault c.args.limits.now.columns part c.in-Err-Bad.line) whole (c.parse_report.ensures.bad c.in-Err-Bad.line (c.in-Err-Bad.is ∙ ap Err c.in-Err-Bad.field-0-is)) in
    let few = fault_few c.args.limits.now.columns (drop behind text) c.in-Err-Bad.line fault in
    record { fits = omega (arith, few, at.within, at.order, at.few, length-drop behind text, c.in-Err-Bad.line-is) }

pub returns-in-Err-Bad-clause-fault : goal.returns-in-Err-Bad-clause-fault
returns-in-Err-Bad-clause-fault c =
    let text = c.args.bytes.now in
    let behind = c.args.mark.behind in
    let whole : take (length text - behind) (drop behind text) ≡ drop behind text = take_all (length text - behind) (drop behind text) (omega (arith, length-drop behind text)) in
    let fault = subst (λ part. IsFirstFault c.args.limits.now.columns part c.in-Err-Bad.line) whole (c.parse_report.ensures.bad c.in-Err-Bad.line (c.in-Err-Bad.is ∙ ap Err c.in-Err-Bad.field-0-is)) in
    subst (λ line. HasBadReport c.args.limits.now text (c.args.mark.lines + 1 + line)) (sym c.in-Err-Bad.line-is)
    (bad_report c.args.limits.now text c.args.mark c.in_ok-script.script c.in-Err-Bad.line c.requires.mark c.in_ok-script.ensures.ok fault)
