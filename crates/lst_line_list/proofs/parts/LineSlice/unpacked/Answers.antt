use Rattle.std.proofs.Common.{◌++◌, ◌∷◌, [], ◌∙◌, List, ap, sym}
use Rattle.lst_model.specs.declared.lines.Line.{Line}
use Rattle.lst_line_list.proofs.Slicing.{one_taken}
use Rattle.lst_line_list.proofs.parts.LineSlice.unpacked.Goals as goal

pub loop-place-preserved : goal.loop-place-preserved
loop-place-preserved c = c.in_ok-push.ensures.items ∙ (ap (λ (ls : List Line). ls ++ c.line.result ∷ []) c.loop-place.invariant ∙ sym (one_taken c.args.self.now c.loop-place.place c.line.result c.line.ensures))
