use Rattle.std.proofs.Common.{◌++◌, ◌∷◌, [], ℕ, List, ap, ◌∙◌, append_assoc}
use Rattle.lst_model.specs.declared.lines.Line.{Line}
use Rattle.lst_script.specs.Heads.{columns_of}
use Rattle.lst_script.specs.Canonical.{canonical_line, lines_text}
use Rattle.lst_script.proofs.Appended.{one_more}
use Rattle.lst_script.proofs.printing.push_lines.Goals as goal

pub loop-place-preserved : goal.loop-place-preserved
loop-place-preserved c =
    let columns = columns_of c.args.heads in
    one_more (λ (line : Line). canonical_line columns line ++ 10 ∷ []) c.args.script.now c.loop-place.place c.put_line.new.line c.loop-place.bytes.items _
    (c.args.bytes.now.items ++ lines_text columns c.args.script.now) c.put_line.ensures
    (c.in_ok-push.ensures.items ∙ (ap (λ (text : List ℕ). text ++ 10 ∷ []) c.in_ok-push_line.ensures ∙ append_assoc c.loop-place.bytes.items (canonical_line columns c.put_line.new.line) (10 ∷ [])))
    c.loop-place.invariant
