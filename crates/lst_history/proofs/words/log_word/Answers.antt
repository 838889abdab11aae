use Rattle.lst_layout.specs.declared.place.Place.{Place}
use Rattle.lst_layout.specs.declared.place.Place.TheVariants.{LogWord}
use Rattle.lst_history.proofs.Looks.{look_reads, look_finds, looked_there, layout_limits, within_layout}
use Rattle.lst_history.proofs.Naming.{log_within}
use Rattle.lst_history.proofs.words.log_word.Goals as goal

pub log-address-requires : goal.log-address-requires
log-address-requires c = within_layout c.layout.result.now c.args.seat.now.view (layout_limits c.args.store.now c.args.seat.now.view c.layout.result.now c.requires.reader.seat_of.limits c.layout.ensures) (LogWord c.args.time)
    (log_within c.args.seat.now.view c.consider.ensures c.requires.reader.whole c.args.time c.requires.time.0 c.requires.time.1)

pub returns-clause-reads : goal.returns-clause-reads
returns-clause-reads c = let p : Place = LogWord c.args.time in let within = log_within c.args.seat.now.view c.consider.ensures c.requires.reader.whole c.args.time c.requires.time.0 c.requires.time.1 in look_reads c.args.store.now c.args.seat.now c.load.new.seat c.args.s c.load.result p c.requires.reader c.load.ensures.seat within tt
    (looked_there c.layout.result.now c.args.seat.now.view (layout_limits c.args.store.now c.args.seat.now.view c.layout.result.now c.requires.reader.seat_of.limits c.layout.ensures) p within c.load.new.seat.view c.args.s c.log-address.result c.load.result c.log-address.ensures.address c.load.ensures.looked)

pub returns-clause-word : goal.returns-clause-word
returns-clause-word c = let p : Place = LogWord c.args.time in let within = log_within c.args.seat.now.view c.consider.ensures c.requires.reader.whole c.args.time c.requires.time.0 c.requires.time.1 in look_finds c.args.store.now c.args.seat.now c.load.new.seat c.args.s c.load.result p c.requires.reader c.load.ensures.seat within tt
    (looked_there c.layout.result.now c.args.seat.now.view (layout_limits c.args.store.now c.args.seat.now.view c.layout.result.now c.requires.reader.seat_of.limits c.layout.ensures) p within c.load.new.seat.view c.args.s c.log-address.result c.load.result c.log-address.ensures.address c.load.ensures.looked)
