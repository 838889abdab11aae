use Rattle.std.proofs.Common.{◌≡◌, [], IfOk, IfSome, map, string_bytes, subst}
use Rattle.std.specs.Prelude.{◌↔◌, IsSome}
use Rattle.clap.specs.Words.{App, fault_of, found_of, matches_of, rows_of}
use Rattle.lst_options.proofs.words.level_matches.Goals as goal

pub returns-clause-rows : goal.returns-clause-rows
returns-clause-rows c =
    subst (λ (app : App). IfOk c.parsed.result (λ found. IfSome found (λ matches. rows_of (found_of matches) ≡ matches_of app (map string_bytes c.args.words.now)))) c.in_ok-level_command.ensures c.parsed.ensures.rows

pub returns-clause-taken : goal.returns-clause-taken
returns-clause-taken c =
    subst (λ (app : App). IfOk c.parsed.result (λ found. IsSome found ↔ (fault_of app (map string_bytes c.args.words.now) ≡ []))) c.in_ok-level_command.ensures c.parsed.ensures.taken
