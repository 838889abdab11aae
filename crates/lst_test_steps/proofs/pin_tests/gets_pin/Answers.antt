use Rattle.lst_retire.proofs.Trios.{trio_learns}
use Rattle.lst_test_steps.proofs.pin_tests.gets_pin.Goals as goal

pub returns-then-may_pin : goal.returns-then-may_pin
returns-then-may_pin c = record { trio = trio_learns _ _ _ _ c.requires.trio c.pin.ensures.seat c.args.s _ c.requires.low c.pin.ensures.pins.view }
