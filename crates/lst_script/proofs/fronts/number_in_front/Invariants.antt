use Rattle.std.proofs.Common.{◌-◌, ◌≤◌, take}
use Rattle.lst_script.proofs.Digits.{AreDigits}
use Rattle.lst_script.proofs.fronts.number_in_front.Given as goal

abbrev pub invariant-loop-count : goal.invariant-loop-count
invariant-loop-count l = AreDigits (take l.count l.text) l.value × (l.count ≤ l.end)

abbrev pub decreases-loop-count : goal.decreases-loop-count
decreases-loop-count l = l.end - l.count
