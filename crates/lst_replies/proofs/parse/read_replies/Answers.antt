use Rattle.std.proofs.Common.{◌+◌, refl, sym, ◌∙◌}
use Rattle.lst_replies.specs.Reading.{reply_of}
use Rattle.lst_replies.proofs.Fronts.{front_first, front_more, front_none, front_all}
use Rattle.lst_replies.proofs.parse.read_replies.Goals as goal

pub loop-line-preserved : goal.loop-line-preserved
loop-line-preserved c =
    rw c.in_ok-push.ensures.ok (front_more (λ place line. reply_of c.args.columns line) 0 c.args.lines.now c.loop-line.replies c.loop-line.line-index (0 + c.loop-line.line-index) _ (c.in-Some.session, c.in-Some.reply) c.loop-line-test.true refl (sym c.in_ok-session.ensures ∙ c.in-Some.is) c.loop-line.invariant)

pub loop-line-init : goal.loop-line-init
loop-line-init c = rw c.new-replies.ensures (front_first (λ place line. reply_of c.args.columns line) 0 c.args.lines.now)

pub returns-in_default : goal.returns-in_default
returns-in_default c =
    sym (front_none (λ place line. reply_of c.args.columns line) 0 c.args.lines.now c.loop-line.replies c.loop-line.line-index (0 + c.loop-line.line-index) _ c.loop-line-test.true refl (sym c.in_ok-session.ensures ∙ c.in_default.is) c.loop-line.invariant)

pub returns : goal.returns
returns c = sym (front_all (λ place line. reply_of c.args.columns line) 0 c.args.lines.now c.loop-line.replies c.loop-line.line-index c.loop-line-test.false c.loop-line.invariant)
