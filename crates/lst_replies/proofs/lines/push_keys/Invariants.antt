use Rattle.std.proofs.Common.{◌≡◌, ◌++◌, flat_map, drop}
use Rattle.lst_replies.specs.Texts.{key_text}
use Rattle.lst_replies.proofs.lines.push_keys.Given as goal

abbrev pub invariant-loop-key : goal.invariant-loop-key
invariant-loop-key l = l.text ++ flat_map key_text (drop l.key-index l.keys) ≡ l.initial.text ++ flat_map key_text l.keys
