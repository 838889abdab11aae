use Rattle.std.proofs.Common.{◌≡◌, ◌≤◌, length, take}
use Rattle.lst_script.proofs.fronts.behind_word.Given as goal

abbrev pub invariant-loop-place : goal.invariant-loop-place
invariant-loop-place l = (take l.place l.text ≡ take l.place l.word) × (l.place ≤ length l.word)
