-- What those leave to whom a seat or sessions are lent.
use Rattle.std.proofs.Common.{◌≡◌, ℕ, ◌<◌, ◌++◌, List, length, take, drop, sym, ap, ◌∙◌}
use Rattle.std.proofs.Math.Seq.{take-append_seam}
use Rattle.lst_core_state.specs.declared.known.Placing.{Placing}
use Rattle.lst_rule.specs.declared.view.View.{View}
use Rattle.lst_rule.specs.declared.store.Store.{Store}
use Rattle.lst_rule.specs.Rule.{knows}
use Rattle.lst_rule.specs.Seats.{Sitting}
use Rattle.lst_rule.specs.Stores.{IsSeatOf}
use Rattle.lst_rule.specs.Watching.{Watched}
use Rattle.lst_session.specs.declared.session.Session.{Session}
use Rattle.lst_session.specs.declared.crew.Crew.{Crew}
use Rattle.lst_session.specs.Calls.{OnlyLooks, FindsNoneFull}
use Rattle.lst_session.specs.Crews.{IsCrewOf, TellsState, state_told}
use Rattle.lst_session.specs.Lending.{as_left}
use Rattle.lst_session.specs.Passes.{IsReady}
use Rattle.lst_session.proofs.Growing.{watched_steps, watched_hands, watched_room, steps_called}
use Rattle.lst_session.proofs.Answering.{ready}
use Rattle.lst_session.proofs.Crewed.{watched_idle, watched_crew, watched_told, crew_view, told_by}
use Rattle.lst_session.proofs.Keeping.{crew_on}
use Rattle.lst_session.proofs.Paged.{state_stays}
use Rattle.lst_session.proofs.Pinned.{look_pinned}

-- ---- a seat

-- a session that only looked
pub only_looked : (v w : View) (s : ℕ) → s < v.limits.sessions → Watched v w s → OnlyLooks v w s × FindsNoneFull v w s
only_looked v w s own watched = let steps = watched_steps v w s watched own in let hands = watched_hands v w s watched in (
  record {
    called = steps_called v w s steps;
    same = steps.stays.same;
    pins = steps.stays.pins;
    lists = record { drawn = ap (λ (p : Placing). p.drawn) hands.placing; latched = hands.latched; done = steps.stays.done };
  },
  watched_room v w s watched,
)

-- is ready if it was
pub ready_still : (store : Store) (session : Session) (seat : Sitting) → IsReady store session → IsSeatOf store seat → Watched session.seat.view seat.view session.number → IsReady store (record session { seat = seat })
ready_still store session seat is of watched = ready store session seat is of watched.learns.hosted (watched_idle (knows session.seat.view session.number) (knows seat.view session.number) watched.watches is.idle)
    (look_pinned session.seat.view seat.view session.number is.pinned (only_looked session.seat.view seat.view session.number is.own watched).0)

-- and so is its crew between two calls
pub crew_still : (store : Store) (crew : Crew) (seat : Sitting) (s : ℕ) → IsCrewOf store crew → IsSeatOf store seat → s < crew.seat.view.limits.sessions → Watched crew.seat.view seat.view s
    → IsCrewOf store (record crew { seat = seat }) × (TellsState crew.seat.view → TellsState seat.view × (state_told seat.view ≡ state_told crew.seat.view))
crew_still store crew seat s is of low watched = (
  crew_on store crew seat s is of low (only_looked crew.seat.view seat.view s low watched).0.called (watched_idle (knows crew.seat.view s) (knows seat.view s) watched.watches (is.idle s low))
      (look_pinned crew.seat.view seat.view s (is.pinned s low) (only_looked crew.seat.view seat.view s low watched).0),
  λ tells. told_by seat.view (λ same. same) (watched_crew crew.seat.view seat.view s watched (crew_view store crew is tells) low, state_stays crew.seat.view seat.view s low (only_looked crew.seat.view seat.view s low watched).0 (watched_told crew.seat.view seat.view s watched tells.whole)),
)

-- ---- sessions

-- others in their place that are as many are what is left
pub as_left_is : (sessions left : List Session) → length left ≡ length sessions → as_left sessions left ≡ left
as_left_is sessions left same = ap (λ (n : ℕ). take n (left ++ drop (length left) sessions)) (sym same) ∙ take-append_seam left (drop (length left) sessions)
