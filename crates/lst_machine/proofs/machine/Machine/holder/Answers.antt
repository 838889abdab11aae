use Rattle.std.proofs.Common.{◌≡◌, ℕ, sym, ◌∙◌, subst, arith}
use Rattle.std.specs.Prelude.{None}
use Rattle.lst_machine.specs.Merges.{holds_frame, lowest_where}
use Rattle.lst_machine.specs.Machines.{store_of, pages_of}
use Rattle.lst_machine.proofs.Lowest.{lowest-next, lowest-found}
use Rattle.lst_machine.proofs.machine.Machine.holder.Goals as goal

pub returns-then-holds_frame : goal.returns-then-holds_frame
returns-then-holds_frame c = sym (lowest-found (holds_frame c.args.self.now.limits (store_of c.args.self.now) (pages_of c.args.self.now)) c.loop-session.session c.args.self.now.limits.sessions c.loop-session.invariant (sym c.holds_frame.ensures ∙ c.if-holds_frame.true) c.loop-session-test.true)

pub loop-session-preserved : goal.loop-session-preserved
loop-session-preserved c = lowest-next (holds_frame c.args.self.now.limits (store_of c.args.self.now) (pages_of c.args.self.now)) c.loop-session.session c.loop-session.invariant (sym c.holds_frame.ensures ∙ c.if-holds_frame.false)

pub returns : goal.returns
returns c =
    let all : c.loop-session.session ≡ c.args.self.now.limits.sessions = omega (arith, c.loop-session-test.false) in
    sym (subst (λ (n : ℕ). lowest_where (holds_frame c.args.self.now.limits (store_of c.args.self.now) (pages_of c.args.self.now)) n ≡ None) all c.loop-session.invariant)
