use Rattle.std.proofs.Common.{ap, ◌∙◌, codes}
use Rattle.std.proofs.lemmas.Result.{IfOk-weaker}
use Rattle.clap.specs.Words.{App, with_rule}
use Rattle.lst_options.specs.Words.{option}
use Rattle.lst_options.proofs.words.level_command.Goals as goal

pub returns : goal.returns
returns c = IfOk-weaker c.with_option.result _ _ (λ more is. is ∙ ap (λ (a : App). with_rule a (option (codes "level"))) c.in_ok-command.ensures) c.with_option.ensures
