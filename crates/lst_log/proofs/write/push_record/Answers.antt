use Rattle.std.proofs.Common.{◌++◌, ◌∷◌, [], ◌∙◌, List, ℕ, ap, append_assoc}
use Rattle.lst_log.specs.Format.{body}
use Rattle.lst_log.proofs.write.push_record.Goals as goal

pub returns : goal.returns
returns c =
    let bytes = body c.args.columns c.args.commit.now in
    c.in_ok-push_body.ensures ∙ ap (λ (t : List ℕ). t ++ bytes) c.in_ok-push.ensures.items ∙ append_assoc c.args.text.now.items (1 ∷ []) bytes
