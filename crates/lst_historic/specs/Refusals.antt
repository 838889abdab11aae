-- Why a block tells no table as of a time.
use Rattle.std.specs.Prelude.{ℕ, ◌<◌, List}
use Rattle.lst_historic.specs.declared.historic.TableRefused.{TableRefused}
use Rattle.lst_historic.specs.declared.historic.TableRefused.TheVariants.{Late, OutOfMemory}
use Rattle.lst_historic.specs.Places.{IsBuiltAt}

-- a time is late behind the one at which the block was built
abbrev pub IsRefusalOf : List ℕ → ℕ → TableRefused → Type 0
IsRefusalOf bytes time (Late until) = IsBuiltAt bytes until × (until < time)
IsRefusalOf bytes time OutOfMemory = Unit {0}
