-- A crew that takes stock of all words, and whose session only looks after that, is a crew still; and what the history is that it reads.
use Rattle.std.proofs.Common.{◌≡◌, ℕ, ◌<◌, List, true, refl, sym, subst, ap, ◌∙◌, arith}
use mathlib.Core.Logic.{dite}
use native.Mathlib.Decide.{ℕ_discrete}
use Rattle.lst_layout.specs.declared.limits.Limits.{Limits}
use Rattle.lst_layout.specs.Words.{shown}
use Rattle.lst_model.specs.declared.commits.Commit.{Commit}
use Rattle.lst_model.specs.Histories.{Extends}
use Rattle.lst_core_state.specs.State.{commits_of, mine, history_of}
use Rattle.lst_rule.specs.declared.store.Store.{Store}
use Rattle.lst_rule.specs.declared.view.View.{View}
use Rattle.lst_rule.specs.Rule.{knows, hosts, Allowed}
use Rattle.lst_rule.specs.Seats.{Sitting}
use Rattle.lst_rule.specs.Stores.{IsSeatOf}
use Rattle.lst_rule.specs.Surveys.{HostsAll, Surveyed}
use Rattle.lst_rule.proofs.Knowing.{is_seen, knows_own}
use Rattle.lst_rule.proofs.Surveying.{survey_same, survey_seat}
use Rattle.lst_refinement.specs.Crews.{IsIdle, IsPinnedWhereOpen}
use Rattle.lst_history.specs.Peeks.{words_in, Recounts}
use Rattle.lst_session.specs.declared.crew.Crew.{Crew}
use Rattle.lst_rule.specs.PageSteps.{stock_of}
use Rattle.lst_session.specs.Crews.{IsCrewOf, TellsState, TakesStock, IsHistoryOfAll, state_told}
use Rattle.lst_session.proofs.Paged.{state_stays}
use Rattle.lst_session.proofs.Keeping.{spares_still, crew_on}
use Rattle.lst_session.proofs.Pinned.{look_pinned}
use Rattle.lst_session.proofs.Peeking.{only_looks, idle_still, told_still, tells_still}

-- ---- a crew hosts everybody

pub hosts_all : (store : Store) (crew : Crew) → IsCrewOf store crew → HostsAll crew.seat.view
hosts_all store crew of s low = dite (ℕ_discrete s crew.seat.view.limits.sessions)
    (λ is. subst (λ (t : ℕ). hosts crew.seat.view t ≡ true) (sym is) of.merger)
    (λ ne. of.hosted s (omega arith))

-- ---- the crew after it took stock

crew_between : (store : Store) (crew : Crew) (b : View) → IsCrewOf store crew → Surveyed crew.seat.view b → IsCrewOf store (record crew { seat = record crew.seat { view = b } })
crew_between store crew b of t = record {
  seat_of = survey_seat store crew.seat (record crew.seat { view = b }) of.seat_of refl t;
  hosted = subst (λ (v : View). (s : ℕ) → s < v.limits.sessions → hosts v s ≡ true) (sym t.now) of.hosted;
  merger = subst (λ (v : View). hosts v v.limits.sessions ≡ true) (sym t.now) of.merger;
  idle = subst (λ (v : View). (s : ℕ) → s < v.limits.sessions → IsIdle (knows v s)) (sym t.now) of.idle;
  pinned = subst (λ (v : View). (s : ℕ) → s < v.limits.sessions → IsPinnedWhereOpen (knows v s)) (sym t.now) of.pinned;
  spares = spares_still crew.seat.view b crew.spares.items (ap stock_of t.now) of.spares;
}

module _ (v w : View) (s : ℕ) (r : Recounts v w s) where
  pub takes_stock : TakesStock v w s
  takes_stock = record { between = r.between; surveyed = r.surveyed; looks = only_looks r.between w s r.peeks }

  between_whole : r.between.whole ≡ true
  between_whole = ap (λ (u : View). u.whole) r.surveyed.now

  pub recount_told : s < v.limits.sessions → v.whole ≡ true → state_told w ≡ state_told v
  recount_told low whole = state_stays r.between w s (subst (λ (u : View). s < u.limits.sessions) (sym r.surveyed.now) low) (only_looks r.between w s r.peeks) (told_still r.between w s r.peeks between_whole) ∙ ap state_told (survey_same v r.between r.surveyed whole)

  pub recount_tells : TellsState v → TellsState w
  recount_tells tells = tells_still r.between w s r.peeks between_whole (subst TellsState (sym (survey_same v r.between r.surveyed tells.whole)) tells)

  -- ---- the history

  allowed : Allowed v r.surveyed.words r.surveyed.known r.surveyed.merger
  allowed = r.surveyed.allowed

  limits_are : w.limits ≡ v.limits
  limits_are = r.peeks.learns.limits ∙ ap (λ (u : View). u.limits) r.surveyed.now

  words_are : w.words ≡ r.surveyed.words
  words_are = r.peeks.kept.words between_whole ∙ ap (λ (u : View). u.words) r.surveyed.now

  -- it is that of the state that was met
  pub all_of : HostsAll v → (all : List Commit) → all ≡ history_of w.limits (words_in w) → IsHistoryOfAll v all
  all_of host all is = record {
    seen = λ t low. subst (λ (h : List Commit). Extends h (knows v t).seen) (sym same) (is_seen v r.surveyed.words r.surveyed.known r.surveyed.merger allowed t (host t (omega arith)));
    mine = λ t low. ap (commits_of t) same ∙ (sym (allowed.sound.views t low).own ∙ ap (mine t) (sym (knows_own v r.surveyed.words r.surveyed.known r.surveyed.merger allowed t (host t (omega arith)) (λ e. omega arith))));
  }
    where
      same : all ≡ history_of v.limits (shown v.limits r.surveyed.words)
      same = is ∙ (λ i. history_of (limits_are i) (shown (limits_are i) (words_are i)))

pub recount_crew : (store : Store) (crew : Crew) (n : Sitting) (s : ℕ) → IsCrewOf store crew → IsSeatOf store n → s < crew.seat.view.limits.sessions → Recounts crew.seat.view n.view s → IsCrewOf store (record crew { seat = n })
recount_crew store crew n s of seat low r = let between = crew_between store crew r.between of r.surveyed in
    let few : s < r.between.limits.sessions = subst (λ (l : Limits). s < l.sessions) (sym (ap (λ (u : View). u.limits) r.surveyed.now)) low in
    crew_on store (record crew { seat = record crew.seat { view = r.between } }) n s between seat few (only_looks r.between n.view s r.peeks).called (idle_still r.between n.view s r.peeks (between.idle s few))
    (look_pinned r.between n.view s (between.pinned s few) (only_looks r.between n.view s r.peeks))
