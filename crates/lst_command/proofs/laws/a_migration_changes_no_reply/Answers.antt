use Rattle.std.proofs.Common.{◌≡◌, ℕ, List, sym, ap, subst, ◌∙◌}
use Rattle.lst_script.specs.Texts.{text_lines}
use Rattle.lst_script.specs.Scripts.{IsNamed}
use Rattle.lst_script.proofs.Versions.{one_script}
use Rattle.lst_script.proofs.Migrated.{read_again}
use Rattle.lst_command.specs.Owed.{run_text}
use Rattle.lst_command.proofs.laws.a_migration_changes_no_reply.Goals as goal

pub returns : goal.returns
returns c limits input text valid owed script other is is_other =
    let again : IsNamed limits text owed.named = subst (λ (found : List ℕ). IsNamed limits found owed.named) (sym owed.is_text) (read_again limits input owed.named valid owed.is_named) in
    let first : script ≡ owed.named.script = one_script limits (text_lines input) script owed.named.script is (owed.named.names, owed.is_named) in
    let second : other ≡ owed.named.script = one_script limits (text_lines text) other owed.named.script is_other (owed.named.names, again) in
    ap (run_text limits) (second ∙ sym first)
