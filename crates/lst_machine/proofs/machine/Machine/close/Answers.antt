use Rattle.std.proofs.Common.{◌<◌, ◌++◌, [], ◌∷◌, List, length, set, ap, ◌∙◌, arith}
use Rattle.std.proofs.lemmas.List.{set-get_or}
use Rattle.std.specs.Prelude.{None, Result, Ok, Err, OnOk, OnErr}
use Rattle.lst_machine.specs.Parts.{SessionState, new_session, state_in, IsWhole}
use Rattle.lst_machine.specs.Machines.{parts_of}
use Rattle.lst_machine.proofs.Founding.{whole_session}
use Rattle.lst_machine.proofs.Showing.{closed_shows}
use Rattle.lst_machine.proofs.Viewing.{element}
use Rattle.lst_machine.proofs.machine.Machine.close.Goals as goal

on_ok : {T E P Q : Type 0} (r : Result T E) → (P → Q) → OnOk r P → OnOk r Q
on_ok (Ok x) f p = f p
on_ok (Err e) f p = p

on_err : {T E P Q : Type 0} (r : Result T E) → (P → Q) → OnErr r P → OnErr r Q
on_err (Ok x) f p = p
on_err (Err e) f p = f p

pub invariant_of-self : goal.invariant_of-self
invariant_of-self c = record { whole = whole_session c.args.self.now.limits (parts_of c.args.self.now) c.args.session c.close.new.self c.args.self.now.whole }

pub returns-clause-ok : goal.returns-clause-ok
returns-clause-ok c =
    let whole : IsWhole c.args.self.now.limits (parts_of c.args.self.now) = c.args.self.now.whole in
    let within : c.args.session < length c.args.self.now.sessions.items = omega (arith, whole.sessions, c.requires) in
    let old = element c.args.self.now.sessions.items c.args.session c.index_mut.result.now new_session within c.index_mut.ensures.value in
    on_ok c.close.result
    (λ closed. ap (λ (x : SessionState). state_in (record (parts_of c.args.self.now) { sessions = set c.args.self.now.sessions.items c.args.session x }))
    (closed ∙ ap (λ (x : SessionState). record x { opened = None; swaps_at_begin = 0; closed = x.closed ++ x.begins ∷ [] }) old)
    ∙ closed_shows (parts_of c.args.self.now) c.args.session within)
    c.close.ensures.ok

pub returns-clause-err : goal.returns-clause-err
returns-clause-err c = on_err c.close.result
    (λ same. ap (λ (xs : List SessionState). state_in (record (parts_of c.args.self.now) { sessions = xs }))
    (ap (set c.args.self.now.sessions.items c.args.session) (same ∙ c.index_mut.ensures.value) ∙ set-get_or c.args.self.now.sessions.items c.args.session c.index_mut.result.now))
    c.close.ensures.err
