use Rattle.lst_walk.proofs.Meanings.{encoded, act_found, nulls_found, encoding_found}
use Rattle.lst_walk.proofs.placed.encoding_from.Goals as goal

pub unpack_encoding-requires : goal.unpack_encoding-requires
unpack_encoding-requires c = encoded c.args.seat.now.view c.args.s c.args.tail c.args.store.now.layout.limits c.requires.reader.seat_of.limits c.args.store.now.layout.valid.columns.1 c.word_from.result c.word_from.ensures.word c.requires.version.0 c.requires.version.1

pub returns-clause-act : goal.returns-clause-act
returns-clause-act c = act_found c.args.seat.now.view c.args.s c.args.tail c.args.store.now.layout.limits c.requires.reader.seat_of.limits c.args.store.now.layout.valid.columns.1 c.word_from.result c.unpack_encoding.result c.unpack_encoding.ensures.encoding c.word_from.ensures.word

pub returns-clause-nulls : goal.returns-clause-nulls
returns-clause-nulls c = nulls_found c.args.seat.now.view c.args.s c.args.tail c.args.store.now.layout.limits c.requires.reader.seat_of.limits c.args.store.now.layout.valid.columns.1 c.word_from.result c.unpack_encoding.result c.unpack_encoding.ensures.encoding c.word_from.ensures.word

pub returns-clause-is : goal.returns-clause-is
returns-clause-is c = encoding_found c.args.seat.now.view c.args.s c.args.tail c.args.store.now.layout.limits c.requires.reader.seat_of.limits c.args.store.now.layout.valid.columns.1 c.word_from.result c.unpack_encoding.result c.unpack_encoding.ensures.encoding c.word_from.ensures.word
