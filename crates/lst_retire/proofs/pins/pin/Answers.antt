use Rattle.lst_retire.proofs.Pinning.{pin_ready, pins}
use Rattle.lst_retire.proofs.pins.pin.Goals as goal

pub step_pin-requires-clause-stands : goal.step_pin-requires-clause-stands
step_pin-requires-clause-stands c = pin_ready _ _ _ _ c.requires.host c.load_epoch-epoch.ensures.looked c.load_epoch-epoch.ensures.least

pub returns-clause-pins : goal.returns-clause-pins
returns-clause-pins c = pins _ _ _ _ _ c.load_epoch-epoch.ensures.looked c.step_pin.ensures.view c.step_pin.ensures.made
