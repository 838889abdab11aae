use Rattle.std.proofs.Common.{◌≡◌, sym, ap, ◌∙◌, subst}
use Rattle.lst_machine.specs.Parts.{Parts, state_in, IsWhole}
use Rattle.lst_machine.proofs.Founding.{new_parts, opening_shows, whole_new}
use Rattle.lst_machine.proofs.machine.Machine.new.Goals as goal

pub invariant_of-result : goal.invariant_of-result
invariant_of-result c =
    let parts : record { history = c.new.result; placed = c.new-2.result.items; ranges = c.in_ok-ranges.ranges.items; sessions = c.in_ok-sessions.sessions.items; swaps = c.new-3.result.items } ≡ new_parts c.args.layout.now.limits.ranges c.args.layout.now.limits.sessions =
    (λ i. record { history = c.new.ensures i; placed = c.new-2.ensures.items i; ranges = c.in_ok-ranges.ensures i; sessions = c.in_ok-sessions.ensures i; swaps = c.new-3.ensures.items i }) in
    record { whole = subst (λ (p : Parts). IsWhole c.args.layout.now.limits p) (sym parts) (whole_new c.args.layout.now.limits c.args.layout.now.valid) }

pub returns-clause-opening : goal.returns-clause-opening
returns-clause-opening c =
    let parts : record { history = c.new.result; placed = c.new-2.result.items; ranges = c.in_ok-ranges.ranges.items; sessions = c.in_ok-sessions.sessions.items; swaps = c.new-3.result.items } ≡ new_parts c.args.layout.now.limits.ranges c.args.layout.now.limits.sessions =
    (λ i. record { history = c.new.ensures i; placed = c.new-2.ensures.items i; ranges = c.in_ok-ranges.ensures i; sessions = c.in_ok-sessions.ensures i; swaps = c.new-3.ensures.items i }) in
    ap state_in parts ∙ opening_shows c.args.layout.now.limits.ranges c.args.layout.now.limits.sessions
