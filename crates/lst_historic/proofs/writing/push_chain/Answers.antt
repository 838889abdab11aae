use Rattle.std.proofs.Common.{◌≡◌, ◌∙◌, ◌++◌, length, ap, append_assoc}
use Rattle.std.specs.Prelude.{None}
use Rattle.lst_historic.specs.Numbers.{spelled}
use Rattle.lst_historic.specs.Blocks.{versions_text}
use Rattle.lst_historic.specs.Moves.{moves, made_of}
use Rattle.lst_historic.proofs.Turning.{made-times}
use Rattle.lst_historic.proofs.writing.push_chain.Goals as goal

pub returns-clause-text : goal.returns-clause-text
returns-clause-text c =
    let made = made_of None (moves c.args.steps.now) in
    let text = versions_text c.args.columns 0 None made in
    c.in_ok-push_versions.ensures.text
    ∙ ap (λ o. o ++ text) (c.in_ok-push_number.ensures ∙ ap (λ n. c.args.out.now.items ++ spelled n) (c.times_in.ensures ∙ made-times None (moves c.args.steps.now)))
    ∙ append_assoc c.args.out.now.items (spelled (length made)) text
