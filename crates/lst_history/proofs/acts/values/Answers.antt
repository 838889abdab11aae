use Rattle.std.proofs.Common.{ℕ, ◌≡◌, ◌+◌, [], ◌∷◌, ◌++◌, length, ap, ◌∙◌, arith}
use Rattle.lst_layout.specs.Words.{Words}
use Rattle.lst_history.specs.Peeks.{words_in}
use Rattle.lst_history.proofs.Looks.{reads_same, reads_on, same_words}
use Rattle.lst_history.proofs.Values.{listed_more}
use Rattle.lst_history.proofs.acts.values.Goals as goal

pub cell_word-requires-clause-reader : goal.cell_word-requires-clause-reader
cell_word-requires-clause-reader c = c.loop-column.invariant.0.reader

pub returns-clause-reads : goal.returns-clause-reads
returns-clause-reads c = c.loop-column.invariant.0

pub loop-column-init : goal.loop-column-init
loop-column-init c = (reads_same c.args.store.now c.args.seat.now c.args.s c.requires.reader, c.new-cells.ensures, ap length c.new-cells.ensures)

pub loop-column-preserved : goal.loop-column-preserved
loop-column-preserved c = let k : ℕ = c.loop-column.column in let word : ℕ → ℕ = (words_in c.args.seat.now.view).cells c.args.tail in
    let here : c.cell_word.result ≡ word (3 + k) = c.cell_word.ensures.word ∙ ap (λ (w : Words). w.cells c.args.tail (3 + k)) (same_words c.args.store.now c.args.seat.now c.loop-column.seat c.args.s c.loop-column.invariant.0) in (
      reads_on c.args.store.now c.args.seat.now c.loop-column.seat c.cell_word.new.seat c.args.s c.loop-column.invariant.0 c.cell_word.ensures.reads,
      c.push.ensures.items ∙ ((λ i. c.loop-column.invariant.1 i ++ here i ∷ []) ∙ listed_more word 3 k),
      let n = c.loop-column.invariant.2 in let m = c.push.ensures.len in omega arith,
    )
