use Rattle.std.proofs.Common.{◌≡◌, ℕ, ◌<◌, ◌≤◌, List, eqb, length, get_or, sym, subst, ap, ◌∙◌, arith}
use Rattle.lst_core_state.specs.declared.known.Known.{Known}
use Rattle.lst_rule.specs.declared.store.Store.{Store}
use Rattle.lst_rule.specs.declared.view.View.{View}
use Rattle.lst_rule.specs.Rule.{knows}
use Rattle.lst_session.specs.declared.passes.Merger.{Merger}
use Rattle.lst_session.specs.declared.session.Session.{Session}
use Rattle.lst_session.specs.Parting.{IsAlone, IsParted, known_by}
use Rattle.lst_session.proofs.Recounting.{hosts_all}
use Rattle.lst_work.proofs.Totalling.{some_session}
use Rattle.lst_test_threads.proofs.par_tests.parted_by_phase.Goals as goal

first_alone : (store : Store) (v : View) (sessions : List Session) (merger : Merger) → IsParted store v sessions merger → 0 < v.limits.sessions → (none : Session) → IsAlone (get_or sessions 0 none)
first_alone store v sessions merger parted some none s = let from = parted.each 0 none some in from.part.hosted s ∙ ap (eqb s) (sym from.number)

first_seen : (store : Store) (v : View) (sessions : List Session) (merger : Merger) → IsParted store v sessions merger → 0 < v.limits.sessions → (time : ℕ) → time ≤ length (knows v 0).seen → (none : Session) → time ≤ length (known_by (get_or sessions 0 none)).seen
first_seen store v sessions merger parted some time few none = let from = parted.each 0 none some in
    subst (λ (k : Known). time ≤ length k.seen) (sym (ap (λ (n : ℕ). knows (get_or sessions 0 none).seat.view n) from.number ∙ from.part.knows_same)) few

pub seen-count-requires : goal.seen-count-requires
seen-count-requires c = c.requires.hosted 0 (some_session c.args.store.now c.args.crew c.requires)

pub part-requires-clause-all : goal.part-requires-clause-all
part-requires-clause-all c = hosts_all c.args.store.now c.args.crew c.requires

pub hear_the_first-requires-clause-some : goal.hear_the_first-requires-clause-some
hear_the_first-requires-clause-some c = let some = some_session c.args.store.now c.args.crew c.requires in let count = c.in-Ok.ensures.parted.count in omega arith

pub hear_the_first-requires-clause-alone : goal.hear_the_first-requires-clause-alone
hear_the_first-requires-clause-alone c none = first_alone c.args.store.now c.args.crew.seat.view _ _ c.in-Ok.ensures.parted (some_session c.args.store.now c.args.crew c.requires) none

pub hear_the_first-requires-clause-seen : goal.hear_the_first-requires-clause-seen
hear_the_first-requires-clause-seen c none = first_seen c.args.store.now c.args.crew.seat.view _ _ c.in-Ok.ensures.parted (some_session c.args.store.now c.args.crew c.requires) c.args.time
    (let is = c.seen-count.ensures.is in let late = c.if-count-time.false in omega arith) none
