use Rattle.std.proofs.Common.{List, ◌∷◌, [], ◌++◌, ap, ◌∙◌}
use Rattle.lst_line_list.specs.declared.kinds.Kept.{Kept}
use Rattle.lst_model.specs.declared.lines.Line.{Line}
use Rattle.lst_line_list.proofs.Behind.{are_kept, are_told}
use Rattle.lst_line_list.proofs.list.LineList.push.Goals as goal

pub invariant_of-self-2 : goal.invariant_of-self-2
invariant_of-self-2 c = are_kept c.in_ok-one.one c.args.line c.self.inside.numbers.items _ c.in_ok-one.ensures.ok c.self.inside.kept.items _ c.self.invariant
    (c.push_reserved.ensures.items ∙ ap (λ (ks : List Kept). ks ++ c.in_ok-one.one ∷ []) c.in_ok-make_room.ensures.same)

pub returns-clause-ok : goal.returns-clause-ok
returns-clause-ok c = are_told c.in_ok-one.one c.args.line c.self.inside.numbers.items _ c.in_ok-one.ensures.ok c.self.inside.kept.items _ c.self.invariant
    (c.push_reserved.ensures.items ∙ ap (λ (ks : List Kept). ks ++ c.in_ok-one.one ∷ []) c.in_ok-make_room.ensures.same)
    ∙ ap (λ (ls : List Line). ls ++ c.args.line ∷ []) c.self.view_is
