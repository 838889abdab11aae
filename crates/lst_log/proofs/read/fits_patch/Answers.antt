use Rattle.std.proofs.Common.{refl}
use Rattle.lst_log.proofs.Rows.{patch_fits}
use Rattle.lst_log.proofs.read.fits_patch.Goals as goal

pub returns : goal.returns
returns c =
    patch_fits c.sets_some.result c.args.patch.now c.numbers.result.now c.args.columns c.numbers.ensures.numbers c.is_patch_width.ensures.low (c.if-not-is_patch_width.ensures.width.0 refl) c.sets_some.ensures.some
