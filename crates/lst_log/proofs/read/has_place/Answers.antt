use Rattle.std.proofs.Common.{sym, subst, arith}
use Rattle.lst_log.specs.Format.{FitsTable, IsOfTable}
use Rattle.lst_log.proofs.Rows.{row_has_place, patch_has_place}
use Rattle.lst_log.proofs.read.has_place.Goals as goal

pub returns-in-Put : goal.returns-in-Put
returns-in-Put c = record {
  key = omega (arith, c.ranges.key.fits);
  act = subst (FitsTable c.args.columns) (sym c.in-Put.is)
      (row_has_place _ c.numbers.result.now c.args.columns c.numbers.ensures.numbers c.is_width.ensures.low (subst (IsOfTable c.args.columns) c.in-Put.is c.requires));
}

pub returns-in-Set : goal.returns-in-Set
returns-in-Set c = record {
  key = omega (arith, c.ranges.key.fits);
  act = subst (FitsTable c.args.columns) (sym c.in-Set.is)
      (patch_has_place _ c.numbers-in-Set.result.now c.args.columns c.numbers-in-Set.ensures.numbers c.is_patch_width.ensures.low (subst (IsOfTable c.args.columns) c.in-Set.is c.requires));
}
