use Rattle.std.proofs.Common.{◌+◌, ◌<◌, length, set, ap, sym, ◌∙◌, subst, arith}
use Rattle.std.specs.Prelude.{Some}
use Rattle.lst_machine.specs.declared.answers.Transaction.{Transaction}
use Rattle.lst_plain.specs.Sessions.{SessionState, new_session}
use Rattle.lst_plain.specs.Engines.{IsWhole}
use Rattle.lst_plain.specs.EngineOf.{engine_of}
use Rattle.lst_machine.proofs.Viewing.{element}
use Rattle.lst_plain.proofs.Keeping.{whole_begun}
use Rattle.lst_plain.proofs.engine.Engine.open.Goals as goal

pub invariant_of-self : goal.invariant_of-self
invariant_of-self c =
    let whole : IsWhole (engine_of c.args.self.now) = c.args.self.now.whole in
    let within : c.args.session < length c.args.self.now.sessions.items = omega (arith, whole.sessions, c.requires.within) in
    let transaction : Transaction = record { begin = c.args.begin; read_only = c.args.read_only } in
    let old = element c.args.self.now.sessions.items c.args.session c.index_mut.result.now new_session within c.index_mut.ensures.value in
    let new = c.open.ensures ∙ ap (λ (state : SessionState). record state { begins = state.begins + 1; transaction = Some (record { begin = c.args.begin; read_only = c.args.read_only }) }) old in
    record {
      whole = subst (λ (state : SessionState). IsWhole (record (engine_of c.args.self.now) { sessions = set c.args.self.now.sessions.items c.args.session state })) (sym new)
          (whole_begun (engine_of c.args.self.now) c.args.session (record { begin = c.args.begin; read_only = c.args.read_only }) whole within c.requires.free);
    }
