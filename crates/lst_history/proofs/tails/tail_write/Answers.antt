use Rattle.std.proofs.Common.{ℕ, ◌≡◌, ◌+◌, ◌-◌, ◌*◌, ◌/◌, ◌≤◌, sym, ap, subst, ◌∙◌}
use Rattle.lst_layout.specs.declared.limits.Limits.{Limits}
use Rattle.lst_layout.specs.Words.{Words}
use Rattle.lst_bits.specs.declared.encodings.Encoding.{Encoding}
use Rattle.lst_bits.specs.Encodings.{encoding_of}
use Rattle.lst_core_state.specs.Cells.{listed}
use Rattle.lst_core_state.specs.State.{record_in, act_in}
use Rattle.lst_history.specs.Peeks.{words_in, Reads}
use Rattle.lst_model.specs.Cells.{cells_of}
use Rattle.lst_bits.specs.Encodings.{kind_code, IsEncodingWord}
use Rattle.lst_core_state.specs.Cells.{act_with, IsCell}
use Rattle.lst_rule.proofs.Encoded.{cell_encoded, act_is}
use Rattle.lst_history.proofs.Looks.{reads_on, same_words}
use Rattle.lst_history.proofs.Naming.{cell_is}
use Rattle.lst_history.proofs.Values.{record_is}
use Rattle.lst_history.proofs.tails.tail_write.Goals as goal

pub cell_word-requires-clause-reader : goal.cell_word-requires-clause-reader
cell_word-requires-clause-reader c = c.requires.reader

pub key_word-requires-clause-reader : goal.key_word-requires-clause-reader
key_word-requires-clause-reader c = c.cell_word.ensures.reads.reader

pub act-requires-clause-reader : goal.act-requires-clause-reader
act-requires-clause-reader c = c.key_word.ensures.reads.reader

pub unpack_encoding-encoding-requires : goal.unpack_encoding-encoding-requires
unpack_encoding-encoding-requires c = let w : Words = words_in c.args.seat.now.view in let l : Limits = c.args.seat.now.view.limits in let t : ℕ = c.args.tail in
    let few : l.columns ≤ 8 = subst (λ (k : Limits). k.columns ≤ 8) (sym c.requires.reader.seat_of.limits) c.args.store.now.layout.valid.columns.1 in
    subst IsEncodingWord (sym c.cell_word.ensures.word) (cell_encoded l.columns (w.cells t 1) (λ k. w.cells t (3 + k)) few (cell_is c.args.seat.now.view c.consider.ensures c.requires.reader.whole t c.requires.stored))

pub returns-clause-reads : goal.returns-clause-reads
returns-clause-reads c = reads_on c.args.store.now c.args.seat.now c.cell_word.new.seat c.act.new.seat c.args.s c.cell_word.ensures.reads (reads_on c.args.store.now c.cell_word.new.seat c.key_word.new.seat c.act.new.seat c.args.s c.key_word.ensures.reads c.act.ensures.reads)

pub returns-clause-write : goal.returns-clause-write
returns-clause-write c = let w : Words = words_in c.args.seat.now.view in let l : Limits = c.args.seat.now.view.limits in let t : ℕ = c.args.tail in
    let few : l.columns ≤ 8 = subst (λ (k : Limits). k.columns ≤ 8) (sym c.requires.reader.seat_of.limits) c.args.store.now.layout.valid.columns.1 in
    let cell : IsCell l.columns (w.cells t 1) (λ k. w.cells t (3 + k)) = cell_is c.args.seat.now.view c.consider.ensures c.requires.reader.whole t c.requires.stored in
    let both : Reads c.args.store.now c.args.seat.now c.key_word.new.seat c.args.s = reads_on c.args.store.now c.args.seat.now c.cell_word.new.seat c.key_word.new.seat c.args.s c.cell_word.ensures.reads c.key_word.ensures.reads in
    let encoding : c.unpack_encoding-encoding.result ≡ encoding_of (w.cells t 1) = c.unpack_encoding-encoding.ensures.encoding ∙ ap encoding_of c.cell_word.ensures.word in
    let slot : ℕ = c.unpack_encoding-encoding.result.slot in
    let key : c.key_word.result ≡ w.keys (record_in l w.cells t) = c.key_word.ensures.word ∙ (ap (λ (z : Words). z.keys (256 * ((t - 1) / c.limits.result.now.tails) + slot)) (same_words c.args.store.now c.args.seat.now c.cell_word.new.seat c.args.s c.cell_word.ensures.reads)
    ∙ ap w.keys (ap (λ (k : Limits). 256 * ((t - 1) / k.tails) + slot) c.limits.ensures ∙ record_is l.tails t (w.cells t 1) slot (ap (λ (e : Encoding). e.slot) encoding))) in
    let made : c.act.result ≡ act_in l w.cells t = c.act.ensures.act ∙ ((λ i. act_with (kind_code (encoding i).kind) (encoding i).mask (cells_of (encoding i).nulls 0 (listed ((same_words c.args.store.now c.args.seat.now c.key_word.new.seat c.args.s both i).cells t) 3 (both.limits i).columns)))
    ∙ sym (act_is l.columns (w.cells t 1) (λ k. w.cells t (3 + k)) few cell (listed (w.cells t) 3 l.columns))) in
    λ i. record { key = key i; act = made i }
