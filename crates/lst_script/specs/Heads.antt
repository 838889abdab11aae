-- How the reader is told what a script calls its columns.
use Rattle.lst_script.specs.declared.columns.Heads.{Heads}
use Rattle.lst_script.specs.declared.columns.Heads.TheVariants.{Numbered, Named}
use Rattle.lst_script.specs.Columns.{Columns, numbered, named}

abbrev pub columns_of : Heads → Columns
columns_of (Numbered count) = numbered count
columns_of (Named names) = named names.now
