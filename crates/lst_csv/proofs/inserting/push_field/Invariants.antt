use Rattle.std.proofs.Common.{◌≡◌, ◌+◌, ◌≤◌, ◌++◌, length, take, vec_len, vec_capacity}
use Rattle.lst_script.proofs.Digits.{AreDigits}
use Rattle.lst_csv.proofs.inserting.push_field.Given as goal

abbrev pub invariant-loop-byte : goal.invariant-loop-byte
invariant-loop-byte l = AreDigits (take l.byte-index l.field) l.value × (l.bytes.items ≡ l.initial.bytes.items ++ take l.byte-index l.field) × (vec_len l.bytes + length l.field ≤ vec_capacity l.bytes + l.byte-index)
