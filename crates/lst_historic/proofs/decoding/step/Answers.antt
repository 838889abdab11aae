use Rattle.std.proofs.Common.{true, false, drop, subst, sym, ap, ◌∙◌, ◌≡◌, get_or, Bool, arith}
use Rattle.std.specs.Prelude.{Option, Some, None, IsSome, slice_get, ℕ}
use Rattle.lst_historic.specs.Reading.{cell_behind}
use Rattle.lst_historic.specs.Decoding.{IsStep}
use Rattle.lst_historic.proofs.Decoded.{step_unchanged, slice_of}
use Rattle.lst_historic.proofs.decoding.step.Goals as goal

pub returns-then-not-changed-clause-step : goal.returns-then-not-changed-clause-step
returns-then-not-changed-clause-step c =
    let rest = drop c.args.place c.args.bytes.now in
    subst (λ (b : Bool). IsStep c.args.cells.now.items c.args.cells.now.items c.args.column b c.args.emptied rest rest) (sym c.if-not-changed.true)
    (step_unchanged c.args.cells.now.items c.args.column c.args.emptied rest c.requires.column
    (λ old here. subst (λ (b : Bool). IsSome (cell_behind b c.args.emptied old rest)) c.if-not-changed.true (c.requires.read old here)))

pub cell_in-cell-requires : goal.cell_in-cell-requires
cell_in-cell-requires c =
    let rest = drop c.args.place c.args.bytes.now in
    let old = get_or c.as_slice.result.now c.args.column None in
    subst (λ (b : Bool). IsSome (cell_behind b c.args.emptied old rest)) c.if-not-changed.false
    (c.requires.read old (slice_of c.as_slice.result.now c.args.cells.now.items c.args.column None c.as_slice.ensures.value c.requires.column))

pub returns-clause-step : goal.returns-clause-step
returns-clause-step c =
    let rest = drop c.args.place c.args.bytes.now in
    let old = get_or c.as_slice.result.now c.args.column None in
    record {
      old = old;
      cell = c.cell_in-cell.result.0;
      here = slice_of c.as_slice.result.now c.args.cells.now.items c.args.column None c.as_slice.ensures.value c.requires.column;
      read = c.cell_in-cell.ensures ∙ ap (λ (b : Bool). cell_behind b c.args.emptied old rest) (sym c.if-not-changed.false);
      set = c.set.ensures;
    }
