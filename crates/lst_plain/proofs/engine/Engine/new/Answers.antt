use Rattle.std.proofs.Common.{ℕ, List, sym, subst, rules}
use Rattle.lst_machine.specs.State.{opening_store}
use Rattle.lst_plain.specs.Rows.{Kept}
use Rattle.lst_plain.specs.Sessions.{SessionState}
use Rattle.lst_plain.specs.Telling.{StoreTells}
use Rattle.lst_plain.proofs.Founding.{new_engine, tells_opening}
use Rattle.lst_plain.proofs.engine.Engine.new.Goals as goal

pub returns-clause-opening : goal.returns-clause-opening
returns-clause-opening c =
    let first = tells_opening c.args.layout.now.limits in
    let second = subst (λ (sessions : List SessionState). StoreTells (record (new_engine c.args.layout.now.limits) { sessions = sessions }) c.args.layout.now.limits opening_store) (sym c.in_ok-sessions.ensures) first in
    let third = subst (λ (accepted : List ℕ). StoreTells (record (new_engine c.args.layout.now.limits) { sessions = c.in_ok-sessions.sessions.items; accepted = accepted }) c.args.layout.now.limits opening_store) (sym (c.in_ok-accepted.ensures.items_if_clones_equal (λ y e. search rules))) second in
    subst (λ (records : List Kept). StoreTells (record (new_engine c.args.layout.now.limits) { sessions = c.in_ok-sessions.sessions.items; accepted = c.in_ok-accepted.accepted.items; records = records }) c.args.layout.now.limits opening_store) (sym c.new.ensures) third
