use Rattle.std.proofs.Common.{◌≡◌, ℕ, ◌<◌, true, List, [], ◌∷◌, ◌++◌, length, set, refl, sym, ap, ◌∙◌, arith}
use Rattle.std.proofs.lemmas.Bool.{eqb-true}
use Rattle.std.proofs.lemmas.List.{length-append}
use Rattle.std.specs.Prelude.{None, ◌==◌}
use Rattle.lst_model.specs.declared.acts.Write.{Write}
use Rattle.lst_model.specs.declared.commits.Commit.{Commit}
use Rattle.lst_model.specs.declared.replies.Reply.TheVariants.{Committed}
use Rattle.lst_machine.specs.Parts.{SessionState, new_session, session_of, state_in, IsWhole}
use Rattle.lst_machine.specs.Machines.{parts_of, state_of}
use Rattle.lst_machine.proofs.Founding.{whole_history, whole_committed}
use Rattle.lst_machine.proofs.Showing.{committed_shows}
use Rattle.lst_machine.proofs.Viewing.{element}
use Rattle.lst_machine.proofs.Answering.{commit_idle, commit_ended, commit_written}
use Rattle.lst_machine.proofs.machine.Machine.commit.Goals as goal

empty : (writes : List Write) → (length writes == 0) ≡ true → [] ≡ writes
empty [] is = refl
empty (write ∷ writes) is = let none = eqb-true _ _ is in absurd (omega (arith, none))

pub returns-in_default-clause-ok : goal.returns-in_default-clause-ok
returns-in_default-clause-ok c =
    let done = commit_idle c.args.self.now.limits (state_of c.args.self.now) c.args.session c.in_default.ensures in
    (c.refused.ensures ∙ done.0, done.1)

pub returns-then-is_empty-clause-ok : goal.returns-then-is_empty-clause-ok
returns-then-is_empty-clause-ok c =
    let none = empty c.in_ok-writes.writes.items (ap (λ (n : ℕ). n == 0) (sym c.in_ok-writes.writes.ok.0) ∙ sym c.is_empty.ensures ∙ c.if-is_empty.true) in
    let done = commit_ended c.args.self.now.limits (state_of c.args.self.now) c.args.session (record { begin = c.in-Some.transaction.begin; read_only = c.in-Some.transaction.read_only }) c.in-Some.ensures (none ∙ c.in_ok-writes.ensures) in
    (done.0, c.in_ok-close.ensures.ok ∙ done.1)

pub invariant_of-self : goal.invariant_of-self
invariant_of-self c = record { whole = whole_history c.args.self.now.limits (parts_of c.args.self.now) c.push.new.self c.args.self.now.whole }

pub invariant_of-self-2 : goal.invariant_of-self-2
invariant_of-self-2 c = record { whole = whole_committed c.args.self.now.limits (parts_of c.args.self.now) c.args.session c.commit.new.self c.push.new.self c.args.self.now.whole }

pub returns-clause-ok : goal.returns-clause-ok
returns-clause-ok c =
    let whole : IsWhole c.args.self.now.limits (parts_of c.args.self.now) = c.args.self.now.whole in
    let within : c.args.session < length c.args.self.now.sessions.items = omega (arith, whole.sessions, c.requires) in
    let old = element c.args.self.now.sessions.items c.args.session c.index_mut.result.now new_session within c.index_mut.ensures.value in
    let here = element c.args.self.now.sessions.items c.args.session c.index.result.now new_session within c.index.ensures in
    let number = c.begins.ensures ∙ ap (λ (x : SessionState). x.begins) here in
    let made : Commit = record { session = c.args.session; number = (session_of c.args.self.now.sessions.items c.args.session).begins; begin = c.in-Some.transaction.begin; writes = c.in_ok-writes.writes.items } in
    let history : c.push.new.self ≡ c.args.self.now.history ++ made ∷ [] =
    c.in_ok-push.ensures.ok
    ∙ ap (λ (ws : List Write). c.args.self.now.history ++ record { session = c.args.session; number = c.begins.result; begin = c.in-Some.transaction.begin; writes = ws } ∷ []) c.from_items.ensures
    ∙ ap (λ (n : ℕ). c.args.self.now.history ++ record { session = c.args.session; number = n; begin = c.in-Some.transaction.begin; writes = c.in_ok-writes.writes.items } ∷ []) number in
    let done = commit_written c.args.self.now.limits (state_of c.args.self.now) c.args.session (record { begin = c.in-Some.transaction.begin; read_only = c.in-Some.transaction.read_only }) c.in-Some.ensures c.in_ok-writes.writes.items c.in_ok-writes.ensures (ap (λ (n : ℕ). n == 0) (sym c.in_ok-writes.writes.ok.0) ∙ sym c.is_empty.ensures ∙ c.if-is_empty.false) in
    let count = length-append c.args.self.now.history (made ∷ []) in (
      ap Committed (c.clock.ensures ∙ ap length history ∙ count) ∙ done.0,
      (λ i. state_in (record (parts_of c.args.self.now) { history = history i; sessions = set c.args.self.now.sessions.items c.args.session ((c.commit.ensures ∙ ap (λ (x : SessionState). record x { opened = None; swaps_at_begin = 0 }) old) i) }))
          ∙ committed_shows (parts_of c.args.self.now) c.args.session within made ∙ done.1,
    )
