use Rattle.std.proofs.Common.{◌+◌, sym, ap, ◌∙◌, arith}
use Rattle.lst_replies.specs.Reading.{texts, stamp_in, stamp_of}
use Rattle.lst_replies.proofs.Fronts.{front_first, front_more, front_none, front_all}
use Rattle.lst_replies.proofs.parse.read_stamps.Goals as goal

pub loop-place-init : goal.loop-place-init
loop-place-init c = rw c.new-stamps.ensures (front_first stamp_of 1 c.args.lines.now)

pub returns-in_default : goal.returns-in_default
returns-in_default c =
    sym (front_none stamp_of 1 c.args.lines.now c.loop-place.stamps c.loop-place.place (c.loop-place.place + 1) _ c.loop-place-test.true (omega arith)
    (sym (ap (λ words. stamp_in (c.loop-place.place + 1) (texts words)) c.deref.ensures.value ∙ ap (stamp_in (c.loop-place.place + 1)) c.in_ok-split_words.ensures) ∙ sym c.stamp_in.ensures ∙ c.in_default.is) c.loop-place.invariant)

pub loop-place-preserved : goal.loop-place-preserved
loop-place-preserved c =
    rw c.in_ok-push.ensures.ok (front_more stamp_of 1 c.args.lines.now c.loop-place.stamps c.loop-place.place (c.loop-place.place + 1) _ c.in-Some.stamp c.loop-place-test.true (omega arith)
    (sym (c.in-Some.ensures ∙ ap (λ words. stamp_in (c.loop-place.place + 1) (texts words)) c.deref.ensures.value ∙ ap (stamp_in (c.loop-place.place + 1)) c.in_ok-split_words.ensures)) c.loop-place.invariant)

pub returns : goal.returns
returns c = sym (front_all stamp_of 1 c.args.lines.now c.loop-place.stamps c.loop-place.place c.loop-place-test.false c.loop-place.invariant)
