-- What is kept for merges, as lists.
use Rattle.lst_plain.specs.declared.lineage.Lineage.{Lineage}
use Rattle.lst_plain.specs.Lineages.{LineageState}

abbrev pub lineage_of : Lineage → LineageState
lineage_of lineage = record { tps = lineage.tps.items; holders = lineage.holders.items }
