use Rattle.std.specs.Prelude.{Some, true, codes}
use Rattle.clap.specs.Simple.{on_top}
use Rattle.clap.specs.Words.{App, Rule, Text, new_app, new_rule, with_rule}
use Rattle.clap.specs.declared.builder.ArgAction.TheVariants.{Set}

-- The options of a store, with a time, a level or a disk, of a table and of a load as clap is told them, and the words that it then takes.
-- an option with a name behind two hyphens, which takes one value
abbrev pub option : Text → Rule
option name = record (new_rule name) { long = Some name; action = Some Set }

-- a command without options, and without flags for help and the version
abbrev pub bare : App
bare = on_top (λ s. record s { disable_help_flag = true; disable_version_flag = true }) (new_app (codes "lstore"))

-- the options of a store. The first word of a line, the command's name, isn't looked at
abbrev pub run_options : App
run_options = with_rule (with_rule (with_rule (with_rule (with_rule (with_rule (with_rule bare (option (codes "columns"))) (option (codes "ranges"))) (option (codes "tails"))) (option (codes "sessions"))) (option (codes "txns"))) (option (codes "spare"))) (option (codes "index"))

-- the options of a store, and a time
abbrev pub as_of_options : App
as_of_options = with_rule run_options (option (codes "time"))

-- the options of a store, and a level
abbrev pub level_options : App
level_options = with_rule run_options (option (codes "level"))

-- the options of a store, and a disk
abbrev pub crash_options : App
crash_options = with_rule (with_rule (with_rule run_options (option (codes "stop"))) (option (codes "torn"))) (option (codes "bytes"))

-- the options of a table
abbrev pub table_options : App
table_options = with_rule bare (option (codes "columns"))

-- the options of a load
abbrev pub load_options : App
load_options = with_rule (with_rule (with_rule bare (option (codes "seed"))) (option (codes "keys"))) (option (codes "sessions"))
