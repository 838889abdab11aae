use Rattle.std.proofs.Common.{◌≡◌, ℕ, ◌+◌, ◌/◌, ◌<◌, true, false, List, length, get_or, set, ap, sym, refl, ◌∙◌, subst, arith}
use Rattle.std.proofs.lemmas.List.{set-get_or}
use Rattle.std.specs.Prelude.{None, Result, Ok, Err, OnOk, OnErr, is_err}
use Rattle.lst_plain.specs.Rows.{Kept, fresh, is_held, with_pending, settled}
use Rattle.lst_plain.specs.Sessions.{SessionState, new_session, noted_places}
use Rattle.lst_plain.specs.Engines.{EngineState, session_of, IsWhole}
use Rattle.lst_plain.specs.Steps.{kept_at, with_write}
use Rattle.lst_plain.specs.EngineOf.{engine_of}
use Rattle.lst_machine.proofs.Viewing.{element}
use Rattle.lst_plain.proofs.Keeping.{dropped, free_none, whole_written}
use Rattle.lst_plain.proofs.engine.Engine.accept.Goals as goal

at_ok : {T E P : Type 0} (r : Result T E) → false ≡ is_err r → OnOk r P → P
at_ok (Ok x) is p = p
at_ok (Err e) is p = absurd (cc)

at_err : {T E P : Type 0} (r : Result T E) → true ≡ is_err r → OnErr r P → P
at_err (Ok x) is p = absurd (cc)
at_err (Err e) is p = p

pub returns-then-is_err-clause-err : goal.returns-then-is_err-clause-err
returns-then-is_err-clause-err c =
    let sessions = ap (set c.args.self.now.sessions.items c.args.session) (at_err _ c.if-is_err.ensures.value c.note.ensures.err ∙ c.index_mut-state.ensures.value)
    ∙ set-get_or c.args.self.now.sessions.items c.args.session c.index_mut-state.result.now in
    let kept = element c.args.self.now.records c.args.place c.at.result.now (fresh 0) c.requires.place c.at.ensures in
    let else : is_held (get_or c.args.self.now.records c.args.place (fresh 0)).pending c.args.session ≡ false =
    ap (λ (k : Kept). is_held k.pending c.args.session) (sym kept) ∙ sym c.is_held-is_held.ensures ∙ at_err _ c.if-is_err.ensures.value c.note.ensures.new in
    let none = free_none (get_or c.args.self.now.records c.args.place (fresh 0)) c.args.session c.args.begin c.requires.free else in
    let records = c.settle.ensures ∙ ap (λ (rs : List Kept). set rs c.args.place (settled None c.args.session (get_or rs c.args.place (fresh 0)))) c.in_ok-hold.ensures.ok
    ∙ dropped c.args.self.now.records c.args.place c.args.session (record { session = c.args.session; number = c.begins-number.result; row = c.args.row }) refl none c.requires.place in
    ap (λ (sessions : List SessionState). record (engine_of c.args.self.now) { sessions = sessions; records = c.settle.new.self }) sessions
    ∙ ap (λ (records : List Kept). record (engine_of c.args.self.now) { records = records }) records

pub invariant_of-self-then-is_err : goal.invariant_of-self-then-is_err
invariant_of-self-then-is_err c =
    let sessions = ap (set c.args.self.now.sessions.items c.args.session) (at_err _ c.if-is_err.ensures.value c.note.ensures.err ∙ c.index_mut-state.ensures.value)
    ∙ set-get_or c.args.self.now.sessions.items c.args.session c.index_mut-state.result.now in
    let kept = element c.args.self.now.records c.args.place c.at.result.now (fresh 0) c.requires.place c.at.ensures in
    let else : is_held (get_or c.args.self.now.records c.args.place (fresh 0)).pending c.args.session ≡ false =
    ap (λ (k : Kept). is_held k.pending c.args.session) (sym kept) ∙ sym c.is_held-is_held.ensures ∙ at_err _ c.if-is_err.ensures.value c.note.ensures.new in
    let none = free_none (get_or c.args.self.now.records c.args.place (fresh 0)) c.args.session c.args.begin c.requires.free else in
    let records = c.settle.ensures ∙ ap (λ (rs : List Kept). set rs c.args.place (settled None c.args.session (get_or rs c.args.place (fresh 0)))) c.in_ok-hold.ensures.ok
    ∙ dropped c.args.self.now.records c.args.place c.args.session (record { session = c.args.session; number = c.begins-number.result; row = c.args.row }) refl none c.requires.place in
    record {
      whole = subst (λ (engine : EngineState). IsWhole engine)
          (sym (ap (λ (sessions : List SessionState). record (engine_of c.args.self.now) { sessions = sessions; records = c.settle.new.self }) sessions
          ∙ ap (λ (records : List Kept). record (engine_of c.args.self.now) { records = records }) records))
          c.args.self.now.whole;
    }

pub invariant_of-self-2 : goal.invariant_of-self-2
invariant_of-self-2 c =
    let whole : IsWhole (engine_of c.args.self.now) = c.args.self.now.whole in
    let within : c.args.session < length c.args.self.now.sessions.items = omega (arith, whole.sessions, c.requires.within) in
    let range : c.args.place / 256 < length c.args.self.now.accepted.items = omega (arith, whole.ranges, whole.records, c.requires.place) in
    let old = element c.args.self.now.sessions.items c.args.session c.index_mut-state.result.now new_session within c.index_mut-state.ensures.value in
    let kept = element c.args.self.now.records c.args.place c.at.result.now (fresh 0) c.requires.place c.at.ensures in
    let held = c.is_held-is_held.ensures ∙ ap (λ (k : Kept). is_held k.pending c.args.session) kept in
    let state = at_ok _ c.if-is_err.ensures.value c.note.ensures.ok
    ∙ ap (λ (state : SessionState). record state { written = noted_places c.is_held-is_held.result state.written c.args.place }) old
    ∙ ap (λ b. record (session_of (engine_of c.args.self.now) c.args.session) { written = noted_places b (session_of (engine_of c.args.self.now) c.args.session).written c.args.place }) held in
    let number = c.begins-number.ensures ∙ ap (λ (state : SessionState). state.begins) old in
    let records = c.in_ok-hold.ensures.ok ∙ ap (λ (n : ℕ). set c.args.self.now.records c.args.place (with_pending (kept_at (engine_of c.args.self.now) c.args.place) (record { session = c.args.session; number = n; row = c.args.row }))) number in
    let count = element c.args.self.now.accepted.items (c.args.place / 256) c.index_mut.result.now 0 range c.index_mut.ensures.value in
    record {
      whole = subst (λ (engine : EngineState). IsWhole engine)
          (sym (ap (λ (state : SessionState). record (engine_of c.args.self.now) { sessions = set c.args.self.now.sessions.items c.args.session state; records = c.hold.new.self; accepted = set c.args.self.now.accepted.items (c.args.place / 256) (c.index_mut.result.now + 1) }) state
          ∙ ap (λ (records : List Kept). record (with_write (engine_of c.args.self.now) c.args.session c.args.place c.args.row) { records = records; accepted = set c.args.self.now.accepted.items (c.args.place / 256) (c.index_mut.result.now + 1) }) records
          ∙ ap (λ (n : ℕ). record (with_write (engine_of c.args.self.now) c.args.session c.args.place c.args.row) { accepted = set c.args.self.now.accepted.items (c.args.place / 256) (n + 1) }) count))
          (whole_written (engine_of c.args.self.now) c.args.session c.args.place c.args.begin c.args.row whole within c.requires.place c.requires.few c.requires.free);
    }
