use Rattle.std.proofs.Common.{arith}
use Rattle.std.proofs.lemmas.Grind.{common_steps}
use Rattle.std.proofs.Common.{◌≡◌, ◌+◌, drop, position, Some, set, false, sym, ap, ◌∙◌}
use Rattle.std.proofs.lemmas.List.{take_rest, length-set}
use Rattle.lst_script.specs.Pairs.{is_equals, cell_of_value, is_set}
use Rattle.lst_line_list.proofs.Packing.{refilled}
use Rattle.lst_script.proofs.Pairing.{is_pair}
use Rattle.lst_script.proofs.pairs.set_pair.Goals as goal

pub returns : goal.returns
returns c =
    let names = c.args.names.now in
    let before = c.args.changes.now.items in
    let word = c.args.word.now in
    let end = c.in-Some.end in
    let column = c.in-Some-column_with_name.column in
    let cell = c.in-Some-value.cell in
    let at : position is_equals word ≡ Some end = sym c.in-Some.ensures in
    let value : cell_of_value (drop (end + 1) word) ≡ Some cell = ap cell_of_value (sym (take_rest word (end + 1))) ∙ (sym c.value.ensures ∙ c.in-Some-value.is) in
    let free : is_set before column ≡ false = rw (← c.as_mut_slice-slots.ensures.value) (sym c.is_some.ensures ∙ c.if-is_some.false) in (
      (column, cell),
      is_pair names before word end column cell at (sym c.in-Some-column_with_name.ensures.is) value,
      free,
      rw c.as_mut_slice-slots.ensures.value (refilled before (set before column (Some cell)) (length-set before column (Some cell))),
    )

pub returns-in_default-value : goal.returns-in_default-value
returns-in_default-value c = grind (arith, common_steps)
