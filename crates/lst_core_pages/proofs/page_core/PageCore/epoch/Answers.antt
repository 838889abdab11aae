use Rattle.lst_core_pages.specs.Cells.{Cells}
use Rattle.lst_layout.specs.declared.place.Place.TheVariants.{EpochWord}
use Rattle.lst_core_pages.proofs.Readings.{word_read}
use Rattle.lst_core_pages.proofs.page_core.PageCore.epoch.Goals as goal

pub returns : goal.returns
returns c = let m : Cells = record { limits = c.self.inside.layout.limits; row = c.self.inside.words.items; hands = c.self.inside.hands.items; tails = c.self.inside.tails.items; queue = c.self.inside.queue } in
    word_read m c.args.self.now c.self.view_is c.self.invariant EpochWord tt c.epoch.result c.index.result.now c.epoch.ensures.address c.index.ensures
