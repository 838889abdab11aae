use Rattle.std.proofs.Common.{◌≡◌, ap, ◌∙◌, rules}
use Rattle.std.proofs.lemmas.Result.{IfOk-weaker}
use Rattle.clap.specs.Words.{app_of, rule_of, with_rule}
use Rattle.lst_options.specs.Words.{option}
use Rattle.lst_options.proofs.words.with_option.Goals as goal

pub returns : goal.returns
returns c =
    let rule_is : rule_of c.action-argument.result ≡ option c.args.name.now = search rules in
    IfOk-weaker c.arg.result _ _ (λ more adds. adds.shape (search rules) ∙ ap (with_rule (app_of c.args.command)) rule_is) c.arg.ensures
