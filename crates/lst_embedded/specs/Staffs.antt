-- The bank once it is opened, and its staff: whose the sessions are, and what each has done.
use Rattle.std.specs.Prelude.{◌≡◌, ℕ, List, ◌∷◌, length, slice_index_or}
use Rattle.std.specs.List.{AllByRecursion}
use Rattle.lst_model.specs.declared.commits.Commit.{Commit}
use Rattle.lst_core_state.specs.State.{mine}
use Rattle.lst_rule.specs.Rule.{crew as opening_view}
use Rattle.lst_rule.specs.declared.store.Store.{Store}
use Rattle.lst_session.specs.Crews.{IsCrewOf}
use Rattle.lst_session.specs.Parting.{known_by, IsMergerOf}
use Rattle.lst_session.specs.Passes.{IsReady}
use Rattle.lst_session.specs.declared.crew.Crew.{Crew}
use Rattle.lst_session.specs.declared.session.Session.{Session}
use Rattle.lst_embedded.specs.declared.bank.Staff.{Staff}
use Rattle.lst_embedded.specs.Deeds.{IsOpening, IsMove}
use Rattle.lst_embedded.specs.Doing.{IsBank, AreAuditors}

-- a new store with its crew
pub record IsOpened (store : Store) (crew : Crew) : Type 0 where
  pub bank : IsBank store
  pub crew_of : IsCrewOf store crew
  pub view : crew.seat.view ≡ opening_view store.layout.limits

-- the session has the number s, and so many commits in all, each of the kind
pub record HasInAll (P : List Commit → Commit → Type 0) (s n : ℕ) (session : Session) : Type 0 where
  pub number : session.number ≡ s
  pub count : length (mine s (known_by session)) ≡ n
  pub each : AllByRecursion (P (known_by session).seen) (mine s (known_by session))

-- each teller has made so many transfers, and the first auditor has opened all accounts
pub record IsStaffed (store : Store) (transfers : ℕ) (staff : Staff) : Type 0 where
  pub first_ready : IsReady store staff.first
  pub first : HasInAll IsMove 0 transfers staff.first
  pub second_ready : IsReady store staff.second
  pub second : HasInAll IsMove 1 transfers staff.second
  pub auditors : AreAuditors store staff.auditors
  pub banker : (none : Session) → HasInAll IsOpening 2 8 (slice_index_or staff.auditors 0 none)
  pub other : (none : Session) → HasInAll IsOpening 3 0 (slice_index_or staff.auditors 1 none)
  pub merger_of : IsMergerOf store staff.merger

-- all its sessions
abbrev pub sessions_of : Staff → List Session
sessions_of staff = staff.first ∷ staff.second ∷ staff.auditors
