use Rattle.lst_walk.proofs.Reading.{reader_on}
use Rattle.lst_scan.proofs.KeyWords.{key_watched, key_found}
use Rattle.lst_scan.proofs.records.key_of.Goals as goal

pub returns-clause-reader : goal.returns-clause-reader
returns-clause-reader c = let r = c.requires.reader in
    reader_on c.args.store.now c.args.seat.now c.load_key.new.seat c.args.s r (key_watched c.args.seat.now.view c.load_key.new.seat.view c.args.s c.args.rec.number c.load_key.result r.host r.opened c.requires.free c.load_key.ensures.looked) c.load_key.ensures.seat

pub returns-clause-watched : goal.returns-clause-watched
returns-clause-watched c = let r = c.requires.reader in key_watched c.args.seat.now.view c.load_key.new.seat.view c.args.s c.args.rec.number c.load_key.result r.host r.opened c.requires.free c.load_key.ensures.looked

pub returns-clause-key : goal.returns-clause-key
returns-clause-key c = let r = c.requires.reader in key_found c.args.seat.now.view c.load_key.new.seat.view c.args.s c.args.rec.number c.load_key.result r.host r.opened c.requires.free c.load_key.ensures.looked
