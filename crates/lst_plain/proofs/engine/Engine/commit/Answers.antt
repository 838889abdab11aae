use Rattle.std.proofs.Common.{◌≡◌, ℕ, ◌<◌, true, false, List, [], ◌∷◌, length, refl, ap, sym, ◌∙◌, subst, arith}
use Rattle.std.proofs.lemmas.Bool.{eqb-true}
use Rattle.std.specs.Prelude.{◌==◌}
use Rattle.lst_model.specs.declared.lines.Call.TheVariants.{Commit}
use Rattle.lst_machine.specs.Calls.{store_after}
use Rattle.lst_plain.specs.Sessions.{SessionState, new_session}
use Rattle.lst_plain.specs.Engines.{EngineState, IsWhole}
use Rattle.lst_plain.specs.Telling.{StoreTells}
use Rattle.lst_plain.specs.EngineOf.{engine_of}
use Rattle.lst_machine.proofs.Viewing.{element}
use Rattle.lst_plain.proofs.Keeping.{few_commits}
use Rattle.lst_plain.proofs.Answering.{commit_empty, commit_some}
use Rattle.lst_plain.proofs.engine.Engine.commit.Goals as goal

empty : (places : List ℕ) → (length places == 0) ≡ true → places ≡ []
empty [] is = refl
empty (place ∷ places) is = let none = eqb-true _ _ is in absurd (omega (arith, none))

some : (places : List ℕ) → (length places == 0) ≡ false → 0 < length places
some [] is = absurd (cc)
some (place ∷ places) is = omega arith

pub returns-then-is_empty-clause-answers : goal.returns-then-is_empty-clause-answers
returns-then-is_empty-clause-answers c = λ limits store told.
    let whole : IsWhole (engine_of c.args.self.now) = c.args.self.now.whole in
    let within : c.args.session < length c.args.self.now.sessions.items = omega (arith, whole.sessions, c.requires) in
    let old = element c.args.self.now.sessions.items c.args.session c.index.result.now new_session within c.index.ensures in
    let places = c.written.ensures ∙ ap (λ (state : SessionState). state.written) old in
    let none = sym places ∙ empty c.written.result.now (sym c.is_empty.ensures ∙ c.if-is_empty.true) in
    let done = commit_empty (engine_of c.args.self.now) limits store told c.args.session c.requires c.args.self.now.whole c.in-Some.transaction (sym c.in-Some.ensures) none in
    (done.0, subst (λ (engine : EngineState). StoreTells engine limits (store_after limits store c.args.session Commit)) (sym c.end.ensures) done.1)

pub overflow_add-time : goal.overflow_add-time
overflow_add-time c = record { fits = few_commits (engine_of c.args.self.now) c.args.self.now.whole }

pub returns-clause-answers : goal.returns-clause-answers
returns-clause-answers c = λ limits store told.
    let whole : IsWhole (engine_of c.args.self.now) = c.args.self.now.whole in
    let within : c.args.session < length c.args.self.now.sessions.items = omega (arith, whole.sessions, c.requires) in
    let old = element c.args.self.now.sessions.items c.args.session c.index.result.now new_session within c.index.ensures in
    let places = c.written.ensures ∙ ap (λ (state : SessionState). state.written) old in
    let more = subst (λ (places : List ℕ). 0 < length places) places (some c.written.result.now (sym c.is_empty.ensures ∙ c.if-is_empty.false)) in
    let done = commit_some (engine_of c.args.self.now) limits store told c.args.session c.requires c.args.self.now.whole c.in-Some.transaction (sym c.in-Some.ensures) more in
    (done.0, subst (λ (engine : EngineState). StoreTells engine limits (store_after limits store c.args.session Commit)) (sym c.end-2.ensures) done.1)
