use Rattle.std.proofs.Common.{◌∙◌, ◌/◌, ap, sym, arith, ◌++◌}
use Rattle.lst_historic.specs.Numbers.{spelled}
use Rattle.lst_historic.proofs.Spelled.{spelled_more, spelled-low}
use Rattle.lst_historic.proofs.numbers.push_long_number.Goals as goal

pub loop-rest-preserved : goal.loop-rest-preserved
loop-rest-preserved c =
    ap (λ text. text ++ spelled (c.loop-rest.rest / 128)) c.in_ok-push.ensures.items
    ∙ spelled_more c.loop-rest.out.items (c.args.out.now.items ++ spelled c.args.number) c.loop-rest.rest c.loop-rest-test.true c.loop-rest.invariant

pub returns : goal.returns
returns c =
    c.in_ok-push-2.ensures.items
    ∙ ap (λ text. c.loop-rest.out.items ++ text) (sym (spelled-low c.loop-rest.rest c.loop-rest-test.false))
    ∙ c.loop-rest.invariant
