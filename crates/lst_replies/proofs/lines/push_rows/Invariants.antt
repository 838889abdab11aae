use Rattle.std.proofs.Common.{◌≡◌, ◌++◌, flat_map, drop}
use Rattle.lst_replies.specs.Texts.{entry_text}
use Rattle.lst_replies.proofs.lines.push_rows.Given as goal

abbrev pub invariant-loop-entry : goal.invariant-loop-entry
invariant-loop-entry l = l.text ++ flat_map entry_text (drop l.entry-index l.rows) ≡ l.initial.text ++ flat_map entry_text l.rows
