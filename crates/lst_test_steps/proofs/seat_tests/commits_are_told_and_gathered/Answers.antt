use Rattle.lst_test_steps.proofs.Parted.{heard_own}
use Rattle.lst_test_steps.proofs.seat_tests.commits_are_told_and_gathered.Goals as goal

pub tell-note-requires-clause-some : goal.tell-note-requires-clause-some
tell-note-requires-clause-some g c = (0, c.has_seen.ensures)

pub commits-requires-2-clause-own : goal.commits-requires-2-clause-own
commits-requires-2-clause-own g c = heard_own c.in_ok-store.store 1 c.in_ok-store.second c.hear.new.seat c.tell-note.result.seat.view c.in_ok-store.ensures.second c.hear.ensures.seat c.hear.ensures.hears
