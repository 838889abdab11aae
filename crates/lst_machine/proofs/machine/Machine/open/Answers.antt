use Rattle.std.proofs.Common.{◌≡◌, ℕ, ◌+◌, ◌<◌, length, set, ap, ◌∙◌, arith}
use Rattle.std.specs.Prelude.{Some}
use Rattle.lst_machine.specs.Parts.{SessionState, new_session, session_of, state_in, IsWhole}
use Rattle.lst_machine.specs.Machines.{parts_of, store_of}
use Rattle.lst_machine.proofs.Founding.{whole_session, few_begins}
use Rattle.lst_machine.proofs.Showing.{opened_shows}
use Rattle.lst_machine.proofs.Viewing.{element}
use Rattle.lst_machine.proofs.machine.Machine.open.Goals as goal

pub open-requires : goal.open-requires
open-requires c =
    let whole : IsWhole c.args.self.now.limits (parts_of c.args.self.now) = c.args.self.now.whole in
    let within : c.args.session < length c.args.self.now.sessions.items = omega (arith, whole.sessions, c.requires.within) in
    let old = element c.args.self.now.sessions.items c.args.session c.index_mut.result.now new_session within c.index_mut.ensures.value in
    let few = few_begins c.args.self.now.limits (store_of c.args.self.now) c.args.session c.requires.free in
    let same : c.index_mut.result.now.begins ≡ (session_of c.args.self.now.sessions.items c.args.session).begins = ap (λ (x : SessionState). x.begins) old in
    let most = whole.valid.txns.1 in
    omega (arith, few, same, most)

pub invariant_of-self : goal.invariant_of-self
invariant_of-self c = record { whole = whole_session c.args.self.now.limits (parts_of c.args.self.now) c.args.session c.open.new.self c.args.self.now.whole }

pub returns-clause-opens : goal.returns-clause-opens
returns-clause-opens c =
    let whole : IsWhole c.args.self.now.limits (parts_of c.args.self.now) = c.args.self.now.whole in
    let within : c.args.session < length c.args.self.now.sessions.items = omega (arith, whole.sessions, c.requires.within) in
    let old = element c.args.self.now.sessions.items c.args.session c.index_mut.result.now new_session within c.index_mut.ensures.value in
    let count : c.len-swaps.result ≡ length c.args.self.now.swaps.items = c.len-swaps.ensures ∙ c.args.self.now.swaps.ok.0 in
    ap (λ (x : SessionState). state_in (record (parts_of c.args.self.now) { sessions = set c.args.self.now.sessions.items c.args.session x }))
    (c.open.ensures
    ∙ ap (λ (x : SessionState). record x { begins = x.begins + 1; opened = Some (record { begin = c.args.begin; read_only = c.args.read_only }); swaps_at_begin = c.len-swaps.result }) old
    ∙ ap (λ (n : ℕ). record (session_of c.args.self.now.sessions.items c.args.session) { begins = (session_of c.args.self.now.sessions.items c.args.session).begins + 1; opened = Some (record { begin = c.args.begin; read_only = c.args.read_only }); swaps_at_begin = n }) count)
    ∙ opened_shows (parts_of c.args.self.now) c.args.session within c.args.begin c.args.read_only
