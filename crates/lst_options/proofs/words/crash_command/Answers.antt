use Rattle.std.proofs.Common.{ap, ◌∙◌, codes}
use Rattle.std.proofs.lemmas.Result.{IfOk-weaker}
use Rattle.clap.specs.Words.{App, with_rule}
use Rattle.lst_options.specs.Words.{option}
use Rattle.lst_options.proofs.words.crash_command.Goals as goal

pub returns : goal.returns
returns c =
    let one = c.in_ok-command-2.ensures ∙ ap (λ (a : App). with_rule a (option (codes "stop"))) c.in_ok-command.ensures in
    let two = c.in_ok-command-3.ensures ∙ ap (λ (a : App). with_rule a (option (codes "torn"))) one in
    IfOk-weaker c.with_option-3.result _ _ (λ more is. is ∙ ap (λ (a : App). with_rule a (option (codes "bytes"))) two) c.with_option-3.ensures
