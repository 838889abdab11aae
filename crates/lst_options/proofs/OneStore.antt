-- Words name the limits of one store at most, those of one table, one load, one time, one level and one disk at most.
use Rattle.std.proofs.Common.{◌≡◌, List, Option, Some, codes, sym, ap, ◌∙◌}
use Rattle.clap.specs.Words.{Text}
use Rattle.lst_layout.specs.declared.limits.Limits.{Limits}
use Rattle.lst_layout.specs.Limits.{default_limits}
use Rattle.lst_options.specs.declared.as_of.AsOfOptions.{AsOfOptions}
use Rattle.lst_options.specs.declared.crash.CrashOptions.{CrashOptions}
use Rattle.lst_options.specs.declared.crash.DiskOptions.{DiskOptions}
use Rattle.lst_options.specs.declared.level.LevelOptions.{LevelOptions}
use Rattle.lst_options.specs.declared.load.LoadNumbers.{LoadNumbers}
use Rattle.lst_options.specs.Options.{GivesAsOf, GivesCrash, GivesDisk, GivesLevel, GivesLimits, GivesLoad, NamesAsOf, NamesCrash, NamesLevel, NamesLimits, NamesLoad, NamesTable, index_or}

same_value : {X : Type 0} (o : Option X) (a b : X) → o ≡ Some a → o ≡ Some b → a ≡ b
same_value o a b first second = let same : Some a ≡ Some b = sym first ∙ second in cc

same_limits : (a b : Limits) → a.columns ≡ b.columns → a.ranges ≡ b.ranges → a.tails ≡ b.tails → a.sessions ≡ b.sessions → a.txns ≡ b.txns → a.spare ≡ b.spare → a.indexed ≡ b.indexed → a ≡ b
same_limits a b columns ranges tails sessions txns spare indexed = λ i. record {
  columns = columns i;
  ranges = ranges i;
  tails = tails i;
  sessions = sessions i;
  txns = txns i;
  spare = spare i;
  indexed = indexed i;
}

-- values give one limit each
pub gives_one : (value : Text → Option Text) (a b : Limits) → GivesLimits value a → GivesLimits value b → a ≡ b
gives_one value a b first second =
    let columns = same_value _ a.columns b.columns first.columns second.columns in
    same_limits a b columns
    (same_value _ a.ranges b.ranges first.ranges second.ranges)
    (same_value _ a.tails b.tails first.tails second.tails)
    (same_value _ a.sessions b.sessions first.sessions second.sessions)
    (same_value _ a.txns b.txns first.txns second.txns)
    (same_value _ a.spare b.spare first.spare second.spare)
    (same_value (index_or b.columns (value (codes "index"))) a.indexed b.indexed (ap (λ columns. index_or columns (value (codes "index"))) (sym columns) ∙ first.indexed) second.indexed)

pub names_one : (words : List Text) (a b : Limits) → NamesLimits words a → NamesLimits words b → a ≡ b
names_one words a b first second = gives_one _ a b first.gives second.gives

-- ---- a table

pub names_one_table : (words : List Text) (a b : Limits) → NamesTable words a → NamesTable words b → a ≡ b
names_one_table words a b first second =
    let columns : a.columns ≡ b.columns = same_value _ a.columns b.columns first.gives.columns second.gives.columns in
    first.gives.others ∙ ap (λ n. record default_limits { columns = n }) columns ∙ sym second.gives.others

-- ---- a load

same_load : (a b : LoadNumbers) → a.seed ≡ b.seed → a.keys ≡ b.keys → a.sessions ≡ b.sessions → a ≡ b
same_load a b seed keys sessions = λ i. record { seed = seed i; keys = keys i; sessions = sessions i }

gives_one_load : (value : Text → Option Text) (a b : LoadNumbers) → GivesLoad value a → GivesLoad value b → a ≡ b
gives_one_load value a b first second =
    same_load a b (same_value _ a.seed b.seed first.seed second.seed) (same_value _ a.keys b.keys first.keys second.keys) (same_value _ a.sessions b.sessions first.sessions second.sessions)

pub names_one_load : (words : List Text) (a b : LoadNumbers) → NamesLoad words a → NamesLoad words b → a ≡ b
names_one_load words a b first second = gives_one_load _ a b first.gives second.gives

-- ---- a time

same_as_of : (a b : AsOfOptions) → a.limits ≡ b.limits → a.time ≡ b.time → a ≡ b
same_as_of a b limits time = λ i. record { limits = limits i; time = time i }

gives_one_as_of : (value : Text → Option Text) (a b : AsOfOptions) → GivesAsOf value a → GivesAsOf value b → a ≡ b
gives_one_as_of value a b first second = same_as_of a b (gives_one value a.limits b.limits first.limits second.limits) (same_value _ a.time b.time first.time second.time)

pub names_one_as_of : (words : List Text) (a b : AsOfOptions) → NamesAsOf words a → NamesAsOf words b → a ≡ b
names_one_as_of words a b first second = gives_one_as_of _ a b first.gives second.gives

-- ---- a level

same_level : (a b : LevelOptions) → a.limits ≡ b.limits → a.level ≡ b.level → a ≡ b
same_level a b limits level = λ i. record { limits = limits i; level = level i }

gives_one_level : (value : Text → Option Text) (a b : LevelOptions) → GivesLevel value a → GivesLevel value b → a ≡ b
gives_one_level value a b first second = same_level a b (gives_one value a.limits b.limits first.limits second.limits) (same_value _ a.level b.level first.level second.level)

pub names_one_level : (words : List Text) (a b : LevelOptions) → NamesLevel words a → NamesLevel words b → a ≡ b
names_one_level words a b first second = gives_one_level _ a b first.gives second.gives

-- ---- a disk

same_disk : (a b : DiskOptions) → a.stop ≡ b.stop → a.torn ≡ b.torn → a.bytes ≡ b.bytes → a ≡ b
same_disk a b stop torn bytes = λ i. record { stop = stop i; torn = torn i; bytes = bytes i }

same_crash : (a b : CrashOptions) → a.limits ≡ b.limits → a.disk ≡ b.disk → a ≡ b
same_crash a b limits disk = λ i. record { limits = limits i; disk = disk i }

gives_one_disk : (value : Text → Option Text) (a b : DiskOptions) → GivesDisk value a → GivesDisk value b → a ≡ b
gives_one_disk value a b first second =
    same_disk a b (same_value _ a.stop b.stop first.stop second.stop) (same_value _ a.torn b.torn first.torn second.torn) (same_value _ a.bytes b.bytes first.bytes second.bytes)

gives_one_crash : (value : Text → Option Text) (a b : CrashOptions) → GivesCrash value a → GivesCrash value b → a ≡ b
gives_one_crash value a b first second = same_crash a b (gives_one value a.limits b.limits first.limits second.limits) (gives_one_disk value a.disk b.disk first.disk second.disk)

pub names_one_crash : (words : List Text) (a b : CrashOptions) → NamesCrash words a → NamesCrash words b → a ≡ b
names_one_crash words a b first second = gives_one_crash _ a b first.gives second.gives
