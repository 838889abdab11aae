use Rattle.std.proofs.Common.{subst, sym}
use Rattle.lst_work.specs.Loaded.{TellsTotals}
use Rattle.lst_work.proofs.Adding.{numbers_told, sum_there, loaded_as}
use Rattle.lst_work.proofs.loading.load_told.Goals as goal

pub rows_told-requires : goal.rows_told-requires
rows_told-requires c = subst (λ rs. (x : _) × (y : _) × TellsTotals rs x y) (sym c.items.ensures)
    (numbers_told c.args.seed c.args.keys c.args.sessions c.args.layout.now c.args.report.now c.args.total c.args.store.now c.args.crew.now c.requires.some c.requires.few c.requires.hosts c.requires.limits c.requires.worked)

pub sum_made-requires : goal.sum_made-requires
sum_made-requires c = sum_there c.args.seed c.args.keys c.args.sessions c.args.layout.now c.args.report.now c.args.total c.args.store.now c.args.crew.now c.requires.some c.requires.few c.requires.hosts c.requires.limits c.requires.worked

pub returns : goal.returns
returns c = loaded_as c.args.seed c.args.keys c.args.sessions c.args.layout.now c.args.report.now c.args.total c.args.store.now c.args.crew.now c.requires.some c.requires.few c.requires.hosts c.requires.limits c.requires.worked
    _ (subst (λ rs. (y : _) × TellsTotals rs c.rows_told.result y) c.items.ensures c.rows_told.ensures) c.sum_made.ensures
