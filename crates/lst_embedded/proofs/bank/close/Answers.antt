use Rattle.std.proofs.Common.{◌≡◌, ℕ, List, length, true, refl, sym, subst, rules}
use Rattle.std.specs.Prelude.{Ok, Err}
use Rattle.std.specs.List.{All}
use Rattle.std.specs.Result.{result_or}
use Rattle.lst_model.specs.declared.commits.Commit.{Commit}
use Rattle.lst_session.specs.Calls.{Begins}
use Rattle.lst_session.specs.Crews.{IsCrewOf, store_told}
use Rattle.lst_session.specs.Parting.{IsPass, IsGathered}
use Rattle.lst_session.specs.Passes.{IsReady}
use Rattle.lst_session.specs.declared.crew.Crew.{Crew}
use Rattle.lst_session.specs.declared.session.Session.{Session}
use Rattle.lst_embedded.specs.declared.transactions.Stop.TheVariants.{Close}
use Rattle.lst_embedded.proofs.Going.{if_or}
use Rattle.lst_embedded.proofs.Gathering.{together, pass_together, ready_together, session_zero, books_closed}
use Rattle.lst_embedded.proofs.bank.close.Goals as goal

pub gather-requires-clause-sessions : goal.gather-requires-clause-sessions
gather-requires-clause-sessions c =
    let store = c.args.store.now in let staff = c.args.staff in let sessions = c.from_vec-sessions.result in
    let put : Ok tt ≡ result_or c.insert.result (Err Close) = search rules in let put_first : Ok tt ≡ result_or c.insert-2.result (Err Close) = search rules in
    let is = together Close tt staff c.into_vec-sessions.result.items c.insert.new.self.items c.insert-2.new.self.items sessions c.insert.result c.insert-2.result c.into_vec-sessions.ensures put c.insert.ensures.items put_first c.insert-2.ensures.items c.from_vec-sessions.ensures in
    subst (All (IsPass store)) (sym is) (pass_together store 25 staff c.requires.staff)

pub history-requires : goal.history-requires
history-requires c =
    let store = c.args.store.now in let staff = c.args.staff in let sessions = c.from_vec-sessions.result in
    let put : Ok tt ≡ result_or c.insert.result (Err Close) = search rules in let put_first : Ok tt ≡ result_or c.insert-2.result (Err Close) = search rules in
    let is = together Close tt staff c.into_vec-sessions.result.items c.insert.new.self.items c.insert-2.new.self.items sessions c.insert.result c.insert-2.result c.into_vec-sessions.ensures put c.insert.ensures.items put_first c.insert-2.ensures.items c.from_vec-sessions.ensures in
    let crew = c.in_ok-crew.crew in let found : Ok crew ≡ result_or c.gather.result (Err Close) = search rules in
    let crew_of = if_or (λ (crew : Crew). All (IsReady store) sessions → IsCrewOf store crew) c.gather.result Close crew found c.gather.ensures.crew (subst (All (IsReady store)) (sym is) (ready_together store 25 staff c.requires.staff)) in
    record { crew = crew_of }

pub sum-total-requires-clause-reader : goal.sum-total-requires-clause-reader
sum-total-requires-clause-reader c =
    let w = c.history.new.self.seat.view in let x = c.as_of.new.self.seat.view in let history = c.in_ok-history.history in let size : c.len-end.result ≡ length history = search rules in
    let begun : Ok c.in_ok-or-3.field-0 ≡ result_or c.as_of.result (Err Close) = search rules in
    let opens = (if_or (λ (b : ℕ). (b ≡ c.len-end.result) × ((clock : ℕ) × Begins w x 0 clock c.len-end.result true)) c.as_of.result Close c.in_ok-or-3.field-0 begun c.as_of.ensures.ok).1 in
    let zero = session_zero c.args.store.now c.as_of.new.self c.requires.bank c.as_of.ensures.crew in
    record { seat_of = c.as_of.ensures.crew.seat_of; host = c.as_of.ensures.crew.hosted 0 zero; own = zero; opened = opens.1.begun.is_open }

pub returns : goal.returns
returns c =
    let store = c.args.store.now in let staff = c.args.staff in let sessions = c.from_vec-sessions.result in
    let put : Ok tt ≡ result_or c.insert.result (Err Close) = search rules in let put_first : Ok tt ≡ result_or c.insert-2.result (Err Close) = search rules in
    let is = together Close tt staff c.into_vec-sessions.result.items c.insert.new.self.items c.insert-2.new.self.items sessions c.insert.result c.insert-2.result c.into_vec-sessions.ensures put c.insert.ensures.items put_first c.insert-2.ensures.items c.from_vec-sessions.ensures in
    let crew = c.in_ok-crew.crew in let found : Ok crew ≡ result_or c.gather.result (Err Close) = search rules in
    let crew_of = if_or (λ (crew : Crew). All (IsReady store) sessions → IsCrewOf store crew) c.gather.result Close crew found c.gather.ensures.crew (subst (All (IsReady store)) (sym is) (ready_together store 25 staff c.requires.staff)) in
    let w = c.history.new.self.seat.view in let x = c.as_of.new.self.seat.view in let history = c.in_ok-history.history in let size : c.len-end.result ≡ length history = search rules in
    let begun : Ok c.in_ok-or-3.field-0 ≡ result_or c.as_of.result (Err Close) = search rules in
    let opens = (if_or (λ (b : ℕ). (b ≡ c.len-end.result) × ((clock : ℕ) × Begins w x 0 clock c.len-end.result true)) c.as_of.result Close c.in_ok-or-3.field-0 begun c.as_of.ensures.ok).1 in
    let m = staff.merger.seat.view in let gathered = subst (λ (ss : List Session). IsGathered ss m crew.seat.view) is (if_or (λ (crew : Crew). IsGathered sessions m crew.seat.view) c.gather.result Close crew found c.gather.ensures.gathered) in
    let read : Ok history ≡ result_or c.history.result (Err Close) = search rules in
    let history_is = if_or (λ (all : List Commit). all ≡ (store_told w).history) c.history.result Close history read c.history.ensures.ok in
    books_closed store crew m staff c.requires.bank crew_of c.consider.ensures gathered c.requires.staff w x history opens.0 c.history.ensures.told history_is c.history.ensures.session
    (subst (λ (n : ℕ). Begins w x 0 opens.0 n true) size opens.1) record { history = history; audits = c.args.audits; total = c.sum-total.result } refl c.requires.count c.requires.read c.sum-total.ensures.sum
