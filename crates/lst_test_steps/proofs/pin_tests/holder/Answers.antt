use Rattle.lst_retire.proofs.Trios.{trio_asks}
use Rattle.lst_test_steps.proofs.pin_tests.holder.Goals as goal

pub returns : goal.returns
returns c = record { trio = trio_asks _ _ _ _ c.requires.trio c.first_holder.ensures.seat c.args.epoch c.first_holder.result c.first_holder.ensures.none c.first_holder.ensures.some }
