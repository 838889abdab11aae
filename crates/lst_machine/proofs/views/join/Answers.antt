use Rattle.std.proofs.Common.{◌≡◌, List, refl, sym, ◌∙◌, subst}
use Rattle.std.specs.List.{insert}
use Rattle.lst_model.specs.declared.acts.Write.{Write}
use Rattle.lst_model.specs.Histories.{joined}
use Rattle.lst_machine.proofs.views.join.Goals as goal

pub returns : goal.returns
returns c =
    c.in_ok-insert.ensures.items
    ∙ subst (λ (ws : List Write). insert ws c.place_behind-place.result c.args.new ≡ joined ws c.args.new) c.as_slice.ensures.value (sym (c.place_behind-place.ensures.joins c.args.new refl))
