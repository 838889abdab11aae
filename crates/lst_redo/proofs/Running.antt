-- Commits that are run again on a crew, one after another.
use Rattle.std.proofs.Common.{◌≡◌, ℕ, suc, ◌+◌, ◌<◌, List, [], ◌∷◌, ◌++◌, length, take, drop, get_or, sym, ap, ◌∙◌, subst, arith}
use Rattle.std.proofs.Math.Seq.{split_at, take-suc}
use Rattle.std.specs.List.{AllByRecursion}
use Rattle.lst_layout.specs.declared.limits.Limits.{Limits}
use Rattle.lst_model.specs.declared.commits.Commit.{Commit}
use Rattle.lst_machine.specs.State.{Store, State, opening, opening_store}
use Rattle.lst_machine.specs.Machine.{state_after}
use Rattle.lst_snapshots.specs.Replays.{IsRecovered}
use Rattle.lst_replay_laws.specs.Again.{after_again, after_all_again}
use Rattle.lst_replay_laws.specs.Rests.{IsRested, MeetsLimit}
use Rattle.lst_replay_laws.specs.Runs.{HasWrites, IsFullAt}
use Rattle.lst_replay_laws.specs.Laws.{OpeningRests, RestsAgain}
use Rattle.lst_replay_laws.proofs.Lists.{all_at}
use Rattle.lst_replay_laws.proofs.Runs.{may_follow, after_more, runs_more}
use Rattle.lst_rule.specs.declared.store.Store.{Store as Table}
use Rattle.lst_session.specs.declared.crew.Crew.{Crew}
use Rattle.lst_session.specs.Crews.{IsCrewOf, TellsState, store_told, state_told}
use Rattle.lst_redo.specs.Recoveries.{HasRunAgain, MayRun}
use Rattle.lst_redo.specs.Scripts.{lines_of}
use Rattle.lst_redo.proofs.Scripts.{again_told}

-- on a new crew none was run
pub none_ran : OpeningRests → (table : Table) (limits : Limits) (crew : Crew) → IsCrewOf table crew → crew.seat.view.limits ≡ limits → TellsState crew.seat.view → state_told crew.seat.view ≡ opening → HasRunAgain table limits [] crew
none_ran law table limits crew of same tells told = record {
  crew_of = of;
  limits_are = same;
  tells = tells;
  told = ap (λ (st : State). st.store) told;
  state = told;
  runs = tt;
  rested = subst (λ (st : State). IsRested limits [] st.store) (sym told) (law limits);
}

module _ (table : Table) (limits : Limits) (front rest commits : List Commit) (c : Commit) (crew : Crew) (split : commits ≡ front ++ c ∷ rest) (recovered : IsRecovered commits)
    (writes : AllByRecursion (HasWrites limits.columns) commits) (ran : HasRunAgain table limits front crew) where
  has : HasWrites limits.columns c
  has = all_at (HasWrites limits.columns) front c rest (subst (AllByRecursion (HasWrites limits.columns)) split writes)

  -- the next one may run
  pub may_run : MayRun crew.seat.view c
  may_run = record {
    tells = ran.tells;
    front = front;
    rested = subst (λ (l : Limits). IsRested l front (store_told crew.seat.view)) (sym ran.limits_are) ran.rested;
    may = may_follow front c rest commits split recovered;
    writes = subst (λ (l : Limits). HasWrites l.columns c) (sym ran.limits_are) has;
  }

  free_here : ¬ MeetsLimit crew.seat.view.limits (store_told crew.seat.view) c → ¬ MeetsLimit limits (after_all_again limits opening_store front) c
  free_here free meets = free (subst (λ (l : Limits). MeetsLimit l (store_told crew.seat.view) c) (sym ran.limits_are) (subst (λ (st : Store). MeetsLimit limits st c) (sym ran.told) meets))

  -- where it meets no limit it has run
  pub ran_more : RestsAgain → (later : Crew) → IsCrewOf table later → later.seat.view.limits ≡ crew.seat.view.limits → TellsState later.seat.view
      → store_told later.seat.view ≡ after_again crew.seat.view.limits (store_told crew.seat.view) c → state_told later.seat.view ≡ state_after crew.seat.view.limits (state_told crew.seat.view) (lines_of c) → ¬ MeetsLimit crew.seat.view.limits (store_told crew.seat.view) c → HasRunAgain table limits (front ++ c ∷ []) later
  ran_more law later of same tells told state free =
      let is : store_told later.seat.view ≡ after_again limits (after_all_again limits opening_store front) c = told ∙ (λ i. after_again (ran.limits_are i) (ran.told i) c) in
      record {
        crew_of = of;
        limits_are = same ∙ ran.limits_are;
        tells = tells;
        told = is ∙ sym (after_more limits opening_store front c);
        state = again_told crew.seat.view later.seat.view limits opening front c ran.limits_are ran.state state;
        runs = runs_more limits opening_store front c ran.runs (free_here free);
        rested = subst (IsRested limits (front ++ c ∷ [])) (sym is)
            (law limits front c (after_all_again limits opening_store front) (subst (IsRested limits front) ran.told ran.rested) (may_follow front c rest commits split recovered) has.order has.some (free_here free));
      }

  -- else it is the first that meets one
  pub full_at : MeetsLimit crew.seat.view.limits (store_told crew.seat.view) c → (time : ℕ) → time ≡ length front + 1 → IsFullAt limits commits time
  full_at meets time is = record {
    front = front;
    commit = c;
    rest = rest;
    split = split;
    place = is;
    before = ran.runs;
    meets = subst (λ (st : Store). MeetsLimit limits st c) ran.told (subst (λ (l : Limits). MeetsLimit l (store_told crew.seat.view) c) ran.limits_are meets);
  }

pub commit_at : (cs : List Commit) (i : ℕ) (c : Commit) → i < length cs → c ≡ get_or cs i c → cs ≡ take i cs ++ c ∷ drop (suc i) cs
commit_at cs i c low is = split_at cs i c low ∙ ap (λ (x : Commit). take i cs ++ x ∷ drop (suc i) cs) (sym is)

pub run_more : (cs : List Commit) (i : ℕ) (c : Commit) → i < length cs → c ≡ get_or cs i c → take i cs ++ c ∷ [] ≡ take (i + 1) cs
run_more cs i c low is = ap (λ (x : Commit). take i cs ++ x ∷ []) is ∙ sym (take-suc cs i c low) ∙ ap (λ (n : ℕ). take n cs) (let e : suc i ≡ i + 1 = omega arith in e)
