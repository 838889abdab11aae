use Rattle.lst_core_pages.specs.Cells.{Cells}
use Rattle.lst_layout.specs.declared.place.Place.TheVariants.{DirectoryWord}
use Rattle.lst_core_pages.proofs.Readings.{word_read, directory_low}
use Rattle.lst_core_pages.proofs.page_core.PageCore.frame_of.Goals as goal

pub overflow_cast-result : goal.overflow_cast-result
overflow_cast-result c = let m : Cells = record { limits = c.self.inside.layout.limits; row = c.self.inside.words.items; hands = c.self.inside.hands.items; tails = c.self.inside.tails.items; queue = c.self.inside.queue } in
    let at = word_read m c.args.self.now c.self.view_is c.self.invariant (DirectoryWord c.args.range c.args.column) c.requires c.directory.result c.index.result.now c.directory.ensures.address c.index.ensures in
    let low = directory_low m c.args.self.now c.self.view_is c.self.invariant c.args.range c.args.column c.index.result.now c.requires at in record { fits = low.1 }

pub returns-clause-frame : goal.returns-clause-frame
returns-clause-frame c = let m : Cells = record { limits = c.self.inside.layout.limits; row = c.self.inside.words.items; hands = c.self.inside.hands.items; tails = c.self.inside.tails.items; queue = c.self.inside.queue } in
    word_read m c.args.self.now c.self.view_is c.self.invariant (DirectoryWord c.args.range c.args.column) c.requires c.directory.result c.index.result.now c.directory.ensures.address c.index.ensures

pub returns-clause-low : goal.returns-clause-low
returns-clause-low c = let m : Cells = record { limits = c.self.inside.layout.limits; row = c.self.inside.words.items; hands = c.self.inside.hands.items; tails = c.self.inside.tails.items; queue = c.self.inside.queue } in
    let at = word_read m c.args.self.now c.self.view_is c.self.invariant (DirectoryWord c.args.range c.args.column) c.requires c.directory.result c.index.result.now c.directory.ensures.address c.index.ensures in
    (directory_low m c.args.self.now c.self.view_is c.self.invariant c.args.range c.args.column c.index.result.now c.requires at).0
