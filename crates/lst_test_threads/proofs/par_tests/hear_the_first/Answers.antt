use Rattle.std.proofs.Common.{List, get_or, subst, arith}
use Rattle.lst_rule.specs.Learned.{Possible}
use Rattle.lst_session.specs.declared.session.Session.{Session}
use Rattle.lst_session.specs.Parting.{IsPass}
use Rattle.lst_work.proofs.SeenAlike.{phases_see_alike}
use Rattle.lst_test_threads.proofs.par_tests.hear_the_first.Goals as goal

pub returns-clause-alike : goal.returns-clause-alike
returns-clause-alike c t low = let first : Session = c.index-as_slice-0.result in let ready = c.requires.ready 0 first c.requires.some in let seen = c.requires.seen first in
    phases_see_alike c.args.store.now c.args.sessions.now c.next_phase.new.sessions 0 first t c.next_phase.ensures.next c.requires.some
    record { seat_of = ready.seat_of; host = ready.host; own = ready.own } (c.requires.alone first) (subst (λ (xs : List Session). Possible (get_or xs 0 first).seat.view) c.as_slice.ensures c.consider.ensures) (omega arith)
