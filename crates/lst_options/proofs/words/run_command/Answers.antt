use Rattle.std.proofs.Common.{ap, ◌∙◌, codes}
use Rattle.std.proofs.lemmas.Result.{IfOk-weaker}
use Rattle.clap.specs.Words.{App, with_rule}
use Rattle.lst_options.specs.Words.{option}
use Rattle.lst_options.proofs.words.run_command.Goals as goal

pub returns : goal.returns
returns c =
    let one = c.in_ok-command.ensures ∙ ap (λ (a : App). with_rule a (option (codes "columns"))) c.bare_command-command.ensures in
    let two = c.in_ok-command-2.ensures ∙ ap (λ (a : App). with_rule a (option (codes "ranges"))) one in
    let three = c.in_ok-command-3.ensures ∙ ap (λ (a : App). with_rule a (option (codes "tails"))) two in
    let four = c.in_ok-command-4.ensures ∙ ap (λ (a : App). with_rule a (option (codes "sessions"))) three in
    let five = c.in_ok-command-5.ensures ∙ ap (λ (a : App). with_rule a (option (codes "txns"))) four in
    let six = c.in_ok-command-6.ensures ∙ ap (λ (a : App). with_rule a (option (codes "spare"))) five in
    IfOk-weaker c.with_option-7.result _ _ (λ more is. is ∙ ap (λ (a : App). with_rule a (option (codes "index"))) six) c.with_option-7.ensures
