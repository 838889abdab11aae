use Rattle.std.proofs.Common.{◌≡◌, ℕ, ◌<◌, Err, true, refl, sym, subst, ap, ◌∙◌, inl}
use Rattle.lst_core_state.specs.declared.known.Known.{Known}
use Rattle.lst_core_state.specs.State.{rank}
use Rattle.lst_rule.specs.Rule.{knows, hosts}
use Rattle.lst_txn.specs.declared.ends.TurnFault.{TurnFault}
use Rattle.lst_txn.specs.Transactions.{HoldsTurn, Commits}
use Rattle.lst_txn.proofs.Refusing.{ok_err, hosts_on, own_on}
use Rattle.lst_session.proofs.Refusals.{busy_idle, idle_free, some_writes, no_writes}
use Rattle.lst_session.proofs.commits.end.Goals as goal

pub has_writes-requires : goal.has_writes-requires
has_writes-requires c = c.requires.host

pub begin-time-requires-clause-host : goal.begin-time-requires-clause-host
begin-time-requires-clause-host c = c.requires.host

pub begin-time-requires-clause-is_open : goal.begin-time-requires-clause-is_open
begin-time-requires-clause-is_open c = c.requires.opened

pub abort-requires-clause-seat : goal.abort-requires-clause-seat
abort-requires-clause-seat c = c.requires.seat

pub abort-requires-clause-host : goal.abort-requires-clause-host
abort-requires-clause-host c = c.requires.host

pub abort-requires-clause-own : goal.abort-requires-clause-own
abort-requires-clause-own c = c.requires.own

pub abort-requires-clause-free : goal.abort-requires-clause-free
abort-requires-clause-free c = idle_free _ c.requires.idle

pub take_turn-requires-clause-seat : goal.take_turn-requires-clause-seat
take_turn-requires-clause-seat c = c.requires.seat

pub take_turn-requires-clause-host : goal.take_turn-requires-clause-host
take_turn-requires-clause-host c = c.requires.host

pub take_turn-requires-clause-own : goal.take_turn-requires-clause-own
take_turn-requires-clause-own c = c.requires.own

pub take_turn-requires-clause-free : goal.take_turn-requires-clause-free
take_turn-requires-clause-free c = idle_free _ c.requires.idle

pub abort-requires-clause-pinned : goal.abort-requires-clause-pinned
abort-requires-clause-pinned c = c.requires.pinned

pub take_turn-requires-clause-writes : goal.take_turn-requires-clause-writes
take_turn-requires-clause-writes c = λ _. some_writes _ _ c.has_writes.ensures c.if-not-has_writes.false

pub returns-then-not-has_writes-clause-seat : goal.returns-then-not-has_writes-clause-seat
returns-then-not-has_writes-clause-seat c = c.abort.ensures.seat

pub returns-then-not-has_writes-clause-ok : goal.returns-then-not-has_writes-clause-ok
returns-then-not-has_writes-clause-ok c = (no_writes _ _ c.has_writes.ensures c.if-not-has_writes.true, c.begin-time.ensures, c.in-Ok.ensures.ok)

pub returns-then-not-has_writes-clause-busy : goal.returns-then-not-has_writes-clause-busy
returns-then-not-has_writes-clause-busy c = λ same. absurd (ok_err _ _ _ _ same)

pub returns-then-not-has_writes-clause-opened : goal.returns-then-not-has_writes-clause-opened
returns-then-not-has_writes-clause-opened c = ok_err _ _ _ _

pub commit-time-requires-clause-seat : goal.commit-time-requires-clause-seat
commit-time-requires-clause-seat c = c.take_turn.ensures.seat

pub commit-time-requires-clause-host : goal.commit-time-requires-clause-host
commit-time-requires-clause-host c = subst (λ (t : ℕ). hosts c.take_turn.new.seat.view t ≡ true) (sym c.in-Ok-take_turn.ensures.ok.0) (hosts_on _ _ _ _ _ c.in-Ok-take_turn.ensures.ok.1 c.requires.host)

pub commit-time-requires-clause-own : goal.commit-time-requires-clause-own
commit-time-requires-clause-own c = subst (λ (t : ℕ). t < c.take_turn.new.seat.view.limits.sessions) (sym c.in-Ok-take_turn.ensures.ok.0) (own_on _ _ _ _ _ c.in-Ok-take_turn.ensures.ok.1 c.requires.own)

pub commit-time-requires-clause-turn : goal.commit-time-requires-clause-turn
commit-time-requires-clause-turn c = subst (λ (t : ℕ). HoldsTurn (knows c.take_turn.new.seat.view t)) (sym c.in-Ok-take_turn.ensures.ok.0) (inl (ap (λ (k : Known). rank k.turn) c.in-Ok-take_turn.ensures.ok.1.now))

pub unpin-requires-clause-seat : goal.unpin-requires-clause-seat
unpin-requires-clause-seat c = c.commit-time.ensures.seat

pub unpin-requires-clause-host : goal.unpin-requires-clause-host
unpin-requires-clause-host c = hosts_on _ _ _ _ _ (subst (λ (t : ℕ). Commits c.take_turn.new.seat.view c.commit-time.new.seat.view t c.commit-time.result) c.in-Ok-take_turn.ensures.ok.0 c.commit-time.ensures.commits).view (hosts_on _ _ _ _ _ c.in-Ok-take_turn.ensures.ok.1 c.requires.host)

pub unpin-requires-clause-own : goal.unpin-requires-clause-own
unpin-requires-clause-own c = own_on _ _ _ _ _ (subst (λ (t : ℕ). Commits c.take_turn.new.seat.view c.commit-time.new.seat.view t c.commit-time.result) c.in-Ok-take_turn.ensures.ok.0 c.commit-time.ensures.commits).view (own_on _ _ _ _ _ c.in-Ok-take_turn.ensures.ok.1 c.requires.own)

pub unpin-requires-clause-pinned : goal.unpin-requires-clause-pinned
unpin-requires-clause-pinned c = subst (λ (n : ℕ). 0 < n) (sym (ap (λ (k : Known). k.pages.session.pin) (subst (λ (t : ℕ). Commits c.take_turn.new.seat.view c.commit-time.new.seat.view t c.commit-time.result) c.in-Ok-take_turn.ensures.ok.0 c.commit-time.ensures.commits).view.now ∙ ap (λ (k : Known). k.pages.session.pin) c.in-Ok-take_turn.ensures.ok.1.now)) (c.requires.pinned.1 c.requires.opened)

pub returns-in-Ok-take_turn-clause-seat : goal.returns-in-Ok-take_turn-clause-seat
returns-in-Ok-take_turn-clause-seat c = c.unpin.ensures.seat

pub returns-in-Ok-take_turn-clause-ok : goal.returns-in-Ok-take_turn-clause-ok
returns-in-Ok-take_turn-clause-ok c = (some_writes _ _ c.has_writes.ensures c.if-not-has_writes.false, record { between = c.take_turn.new.seat.view; takes = c.in-Ok-take_turn.ensures.ok.1; words = c.in-Ok-take_turn.ensures.words; committed = c.commit-time.new.seat.view; commits = subst (λ (t : ℕ). Commits c.take_turn.new.seat.view c.commit-time.new.seat.view t c.commit-time.result) c.in-Ok-take_turn.ensures.ok.0 c.commit-time.ensures.commits; unpins = c.unpin.ensures.unpins })

pub returns-in-Ok-take_turn-clause-busy : goal.returns-in-Ok-take_turn-clause-busy
returns-in-Ok-take_turn-clause-busy c = λ same. absurd (ok_err _ _ _ _ same)

pub returns-in-Ok-take_turn-clause-opened : goal.returns-in-Ok-take_turn-clause-opened
returns-in-Ok-take_turn-clause-opened c = ok_err _ _ _ _

pub returns-in-Err-Busy-clause-seat : goal.returns-in-Err-Busy-clause-seat
returns-in-Err-Busy-clause-seat c = c.take_turn.ensures.seat

pub returns-in-Err-Busy-clause-ok : goal.returns-in-Err-Busy-clause-ok
returns-in-Err-Busy-clause-ok c = tt

pub returns-in-Err-Busy-clause-busy : goal.returns-in-Err-Busy-clause-busy
returns-in-Err-Busy-clause-busy c = λ _. let h = c.in-Err-Busy.ensures.busy (ap (λ (f : TurnFault). Err f) c.in-Err-Busy.field-0-is) in record { writes = some_writes _ _ c.has_writes.ensures c.if-not-has_writes.false; view = h.0; kept = h.1; other = λ crew. c.in-Err-Busy.ensures.crew crew (ap (λ (f : TurnFault). Err f) c.in-Err-Busy.field-0-is) }

pub returns-in-Err-Busy-clause-opened : goal.returns-in-Err-Busy-clause-opened
returns-in-Err-Busy-clause-opened c = busy_idle _ _ refl
