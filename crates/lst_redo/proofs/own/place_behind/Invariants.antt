use Rattle.std.proofs.Common.{◌≡◌, ◌<◌, ◌≤◌, length, get_or}
use Rattle.lst_model.specs.declared.acts.Write.{Write}
use Rattle.lst_redo.proofs.own.place_behind.Given as goal

abbrev pub invariant-loop-place : goal.invariant-loop-place
invariant-loop-place l = (l.place ≤ length l.writes) × ((new : Write) → new.key ≡ l.key → l.place < length l.writes → new.key < (get_or l.writes l.place new).key)

abbrev pub decreases-loop-place : goal.decreases-loop-place
decreases-loop-place l = l.place
