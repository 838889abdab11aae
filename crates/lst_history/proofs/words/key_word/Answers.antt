use Rattle.lst_layout.specs.declared.place.Place.TheVariants.{KeyWord}
use Rattle.lst_history.proofs.Looks.{look_reads}
use Rattle.lst_history.proofs.words.key_word.Goals as goal

pub returns-clause-reads : goal.returns-clause-reads
returns-clause-reads c = look_reads c.args.store.now c.args.seat.now c.load_key.new.seat c.args.s c.load_key.result (KeyWord c.args.rec) c.requires.reader c.load_key.ensures.seat c.requires.within tt c.load_key.ensures.looked
