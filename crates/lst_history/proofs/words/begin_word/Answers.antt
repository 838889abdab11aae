use Rattle.lst_layout.specs.declared.place.Place.{Place}
use Rattle.lst_layout.specs.declared.place.Place.TheVariants.{BeginWord}
use Rattle.lst_history.proofs.Looks.{look_reads, look_finds, looked_there, layout_limits}
use Rattle.lst_history.proofs.words.begin_word.Goals as goal

pub returns-clause-reads : goal.returns-clause-reads
returns-clause-reads c = let p : Place = BeginWord c.args.session c.args.number in look_reads c.args.store.now c.args.seat.now c.load.new.seat c.args.s c.load.result p c.requires.reader c.load.ensures.seat c.requires.within tt
    (looked_there c.layout.result.now c.args.seat.now.view (layout_limits c.args.store.now c.args.seat.now.view c.layout.result.now c.requires.reader.seat_of.limits c.layout.ensures) p c.requires.within c.load.new.seat.view c.args.s c.transactions-address.result c.load.result c.transactions-address.ensures.address c.load.ensures.looked)

pub returns-clause-word : goal.returns-clause-word
returns-clause-word c = let p : Place = BeginWord c.args.session c.args.number in look_finds c.args.store.now c.args.seat.now c.load.new.seat c.args.s c.load.result p c.requires.reader c.load.ensures.seat c.requires.within tt
    (looked_there c.layout.result.now c.args.seat.now.view (layout_limits c.args.store.now c.args.seat.now.view c.layout.result.now c.requires.reader.seat_of.limits c.layout.ensures) p c.requires.within c.load.new.seat.view c.args.s c.transactions-address.result c.load.result c.transactions-address.ensures.address c.load.ensures.looked)
