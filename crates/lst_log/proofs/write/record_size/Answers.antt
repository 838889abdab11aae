use Rattle.std.proofs.Common.{◌+◌, ◌*◌, ◌∙◌, List, length, ap, sym}
use Rattle.lst_model.specs.declared.acts.Write.{Write}
use Rattle.lst_log.proofs.Sizes.{record_length}
use Rattle.lst_log.proofs.write.record_size.Goals as goal

pub returns-clause-size : goal.returns-clause-size
returns-clause-size c = ap (λ (ws : List Write). 21 + length ws * (11 + 8 * c.args.columns)) c.items.ensures ∙ sym (record_length c.args.columns c.args.commit.now c.requires.record)
