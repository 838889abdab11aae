use Rattle.std.proofs.Common.{List, subst}
use Rattle.std.specs.Prelude.{◌↔◌, IsTrue}
use Rattle.lst_model.specs.declared.acts.Write.{Write}
use Rattle.lst_log.specs.Format.{HasRecord}
use Rattle.lst_log.proofs.read.is_record.Goals as goal

pub returns : goal.returns
returns c =
    let k = c.args.commit.now in
    subst (λ (ws : List Write). IsTrue c.has_record.result ↔ HasRecord c.args.columns (record { session = k.session; number = k.number; begin = k.begin; writes = ws })) c.items.ensures c.has_record.ensures
