use Rattle.std.proofs.Common.{ℕ, ◌<◌, List, [], length, set, map, ap, sym, ◌∙◌, subst, arith}
use Rattle.std.specs.Prelude.{None, unwrap_or}
use Rattle.std.specs.List.{Contains}
use Rattle.lst_plain.specs.Rows.{Kept, settled}
use Rattle.lst_plain.specs.Sessions.{SessionState, new_session}
use Rattle.lst_plain.specs.Engines.{session_of, IsWhole}
use Rattle.lst_plain.specs.EngineOf.{engine_of}
use Rattle.lst_machine.proofs.Viewing.{element}
use Rattle.lst_plain.proofs.Keeping.{contained, whole_ended}
use Rattle.lst_plain.proofs.engine.Engine.end.Goals as goal

pub settle_all-requires-clause-within : goal.settle_all-requires-clause-within
settle_all-requires-clause-within c =
    let whole : IsWhole (engine_of c.args.self.now) = c.args.self.now.whole in
    let within : c.args.session < length c.args.self.now.sessions.items = omega (arith, whole.sessions, c.requires.within) in
    let old = element c.args.self.now.sessions.items c.args.session c.index_mut-state.result.now new_session within c.index_mut-state.ensures.value in
    λ place contains. whole.written c.args.session place (subst (λ places. Contains places place) (c.written.ensures ∙ ap (λ (state : SessionState). state.written) old) contains)

pub settle_all-requires-clause-noted : goal.settle_all-requires-clause-noted
settle_all-requires-clause-noted c =
    let whole : IsWhole (engine_of c.args.self.now) = c.args.self.now.whole in
    let within : c.args.session < length c.args.self.now.sessions.items = omega (arith, whole.sessions, c.requires.within) in
    let old = element c.args.self.now.sessions.items c.args.session c.index_mut-state.result.now new_session within c.index_mut-state.ensures.value in
    λ place kept low is. subst (λ places. Contains places place) (sym (c.written.ensures ∙ ap (λ (state : SessionState). state.written) old))
    (contained (session_of (engine_of c.args.self.now) c.args.session).written place (whole.noted c.args.session place kept c.requires.within low is))

pub invariant_of-self : goal.invariant_of-self
invariant_of-self c =
    let whole : IsWhole (engine_of c.args.self.now) = c.args.self.now.whole in
    let within : c.args.session < length c.args.self.now.sessions.items = omega (arith, whole.sessions, c.requires.within) in
    let old = element c.args.self.now.sessions.items c.args.session c.index_mut-state.result.now new_session within c.index_mut-state.ensures.value in
    let closed = c.close.ensures ∙ ap (λ (state : SessionState). record state { transaction = None; written = [] }) old in
    let ended = whole_ended (engine_of c.args.self.now) c.args.session c.args.time whole within c.requires.opened c.requires.next in
    let by_session = subst (λ (state : SessionState). IsWhole (record (engine_of c.args.self.now) { clock = unwrap_or c.args.time c.args.self.now.clock; sessions = set c.args.self.now.sessions.items c.args.session state; records = map (settled c.args.time c.args.session) c.args.self.now.records })) (sym closed) ended in
    let by_records = subst (λ (records : List Kept). IsWhole (record (engine_of c.args.self.now) { clock = unwrap_or c.args.time c.args.self.now.clock; sessions = set c.args.self.now.sessions.items c.args.session c.close.new.self; records = records })) (sym c.settle_all.ensures) by_session in
    record { whole = subst (λ (clock : ℕ). IsWhole (record (engine_of c.args.self.now) { clock = clock; sessions = set c.args.self.now.sessions.items c.args.session c.close.new.self; records = c.settle_all.new.records })) (sym c.unwrap_or-self.ensures) by_records }
