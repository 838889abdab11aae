use Rattle.std.proofs.Common.{◌≤◌, refl, subst, sym}
use Rattle.lst_layout.specs.declared.limits.Limits.{Limits}
use Rattle.lst_bits.specs.declared.encodings.Encoding.{Encoding}
use Rattle.lst_bits.specs.Encodings.{IsMaskOf}
use Rattle.lst_merge.proofs.Statuses.{tail_merger}
use Rattle.lst_merge.proofs.Reading.{inspects_word, has_encoded, has_word, has_mask}
use Rattle.lst_merge.proofs.tails.encoding_of.Goals as goal

pub unpack_encoding-requires : goal.unpack_encoding-requires
unpack_encoding-requires c = has_word c.args.seat.now.view c.load_cell_from.new.seat.view _ c.args.tail.identifier 1 c.load_cell_from.result (tail_merger c.args.store.now c.args.seat.now c.args.tail c.requires.seat c.requires.tail) c.requires.host c.load_cell_from.ensures.looked c.requires.settled
    (subst (λ (l : Limits). l.columns ≤ 8) (sym c.requires.seat.limits) c.args.store.now.layout.valid.columns.1) refl

pub returns-clause-inspects : goal.returns-clause-inspects
returns-clause-inspects c = inspects_word c.args.seat.now.view c.load_cell_from.new.seat.view _ c.args.tail.identifier 1 c.load_cell_from.result (tail_merger c.args.store.now c.args.seat.now c.args.tail c.requires.seat c.requires.tail) c.requires.host c.load_cell_from.ensures.looked

pub returns-clause-encoding : goal.returns-clause-encoding
returns-clause-encoding c = has_encoded c.args.seat.now.view c.load_cell_from.new.seat.view _ c.args.tail.identifier 1 c.load_cell_from.result (tail_merger c.args.store.now c.args.seat.now c.args.tail c.requires.seat c.requires.tail) c.requires.host c.load_cell_from.ensures.looked refl c.unpack_encoding.result c.unpack_encoding.ensures.encoding

pub returns-clause-mask : goal.returns-clause-mask
returns-clause-mask c = subst (λ (e : Encoding). IsMaskOf c.args.seat.now.view.limits.columns e.kind e.mask) (sym c.unpack_encoding.ensures.encoding)
    (has_mask c.args.seat.now.view c.load_cell_from.new.seat.view _ c.args.tail.identifier 1 c.load_cell_from.result (tail_merger c.args.store.now c.args.seat.now c.args.tail c.requires.seat c.requires.tail) c.requires.host c.load_cell_from.ensures.looked c.requires.settled refl)
