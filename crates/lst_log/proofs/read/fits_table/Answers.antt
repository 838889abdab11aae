use Rattle.std.proofs.Common.{sym, subst}
use Rattle.std.specs.Prelude.{◌↔◌, IsTrue}
use Rattle.lst_model.specs.declared.acts.Act.{Act}
use Rattle.lst_log.specs.Format.{FitsTable}
use Rattle.lst_log.proofs.Rows.{row_fits}
use Rattle.lst_log.proofs.read.fits_table.Goals as goal

pub returns-in-Put : goal.returns-in-Put
returns-in-Put c =
    subst (λ (a : Act). IsTrue c.is_width.result ↔ FitsTable c.args.columns a) (sym c.in-Put.is)
    (row_fits c.is_width.result _ c.numbers.result.now c.args.columns c.numbers.ensures.numbers c.is_width.ensures.low c.is_width.ensures.width)
