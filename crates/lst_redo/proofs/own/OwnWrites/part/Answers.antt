use Rattle.std.proofs.Common.{◌≡◌, ◌∙◌, ℕ, List, [], get_or, set, ap}
use Rattle.std.specs.List.{remove}
use Rattle.lst_model.specs.declared.acts.Write.{Write}
use Rattle.lst_redo.proofs.Places.{set_set}
use Rattle.lst_redo.proofs.own.OwnWrites.part.Goals as goal

pub returns : goal.returns
returns c =
    let own : List (List Write) = c.args.self.now in
    let s : ℕ = c.args.session in
    c.put.ensures ∙ ap (λ (o : List (List Write)). set o s c.from_items.result) c.take.ensures.left ∙ set_set own s [] c.from_items.result
    ∙ ap (λ (ws : List Write). set own s ws) (c.from_items.ensures ∙ c.remove.ensures.items ∙ ap (λ (l : List Write). remove l c.args.place) (c.into_items-items.ensures ∙ c.take.ensures.taken))
