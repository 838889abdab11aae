use Rattle.std.proofs.Common.{◌∙◌, not, eqb, ap}
use Rattle.std.specs.Prelude.{is_some}
use Rattle.std.specs.List.{list_any}
use Rattle.lst_line_list.specs.Packed.{patch_of}
use Rattle.lst_line_list.proofs.Packing.{any_bit}
use Rattle.lst_line_list.proofs.packed.PackedPatch.sets_some.Goals as goal

pub returns : goal.returns
returns c = ap (λ n. not (eqb n 0)) c.self.invariant.sets ∙ (any_bit is_some (patch_of c.self.inside.set c.self.inside.nulls c.self.inside.numbers.items) ∙ ap (list_any is_some) c.self.view_is)
