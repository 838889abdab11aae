use Rattle.std.proofs.Common.{◌≡◌, ◌+◌, subst, length, arith}
use Rattle.lst_layout.specs.declared.place.Place.TheVariants.{StateWord}
use Rattle.lst_core_state.specs.declared.events.Event.TheVariants.{State}
use Rattle.lst_rule.specs.Rule.{knows}
use Rattle.lst_rule.specs.Learned.{Made}
use Rattle.lst_rule.proofs.steps.step_state.Goals as goal

pub returns-clause-made : goal.returns-clause-made
returns-clause-made c = let k = knows c.args.seat.now.view c.args.s in
    subst (Made c.args.seat.now.view c.store_event.new.seat.view (State c.args.s) (StateWord c.args.s k.number)) (let e : length k.seen + 1 + 1 ≡ length k.seen + 2 = omega arith in e) c.store_event.ensures.made
