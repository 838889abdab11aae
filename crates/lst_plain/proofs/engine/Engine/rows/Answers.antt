use Rattle.std.proofs.Common.{◌≡◌, ℕ}
use Rattle.std.proofs.lemmas.Result.{IfOk-weaker}
use Rattle.lst_layout.specs.declared.limits.Limits.{Limits}
use Rattle.lst_model.specs.Tables.{Rows, row_of, scan_of}
use Rattle.lst_machine.specs.State.{Store}
use Rattle.lst_machine.specs.Writes.{sight_of}
use Rattle.lst_plain.specs.Rows.{kept_of, row_seen}
use Rattle.lst_plain.specs.Telling.{StoreTells}
use Rattle.lst_plain.specs.EngineOf.{engine_of}
use Rattle.lst_plain.proofs.Scanned.{rows_seen}
use Rattle.lst_plain.proofs.engine.Engine.rows.Goals as goal

pub returns : goal.returns
returns c = IfOk-weaker c.rows.result
    (λ rows. (table : Rows) → ((key : ℕ) → row_of table key ≡ row_seen (kept_of c.args.self.now.records key) c.args.session c.args.transaction.begin) → rows ≡ scan_of table)
    (λ rows. (limits : Limits) (store : Store) → StoreTells (engine_of c.args.self.now) limits store → rows ≡ scan_of (sight_of limits store c.args.session c.args.transaction.begin))
    (λ rows listed limits store told. rows_seen (engine_of c.args.self.now) limits store told c.args.session c.requires.within c.args.self.now.whole c.args.transaction c.requires.open rows listed)
    c.rows.ensures
