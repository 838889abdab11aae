-- A journal that was opened: the commits of its records are run again.
use Rattle.std.proofs.Common.{◌≡◌, ℕ, suc, ◌<◌, ◌≤◌, Bool, true, false, cond, Option, Some, None, List, [], ◌∷◌, ◌++◌, length, replicate, refl, sym, ap, ◌∙◌, subst, arith}
use Rattle.std.specs.List.{AllByRecursion}
use Rattle.lst_layout.specs.declared.limits.Limits.{Limits}
use Rattle.lst_model.specs.declared.acts.Act.{Act}
use Rattle.lst_model.specs.declared.acts.Act.TheVariants.{Put, Set, Del}
use Rattle.lst_model.specs.declared.acts.Write.{Write}
use Rattle.lst_model.specs.declared.commits.Commit.{Commit}
use Rattle.lst_model.specs.Lines.{CallFits}
use Rattle.lst_snapshots.specs.Replays.{numbered_at, numbered_from, IsRecovered}
use Rattle.lst_replay_laws.specs.Again.{call_of}
use Rattle.lst_core_state.specs.declared.known.Known.{Known}
use Rattle.lst_model.specs.declared.lines.Line.{Line}
use Rattle.lst_machine.specs.State.{Opened, opening}
use Rattle.lst_machine.specs.Machine.{state_after}
use Rattle.lst_refinement.specs.Telling.{opened_of}
use Rattle.lst_replay_laws.specs.Counts.{IsCounted, SameCommits}
use Rattle.lst_replay_laws.specs.Rests.{HasRoomFor}
use Rattle.lst_replay_laws.specs.Runs.{HasWrites, IsFullAt}
use Rattle.lst_replay_laws.proofs.Runs.{again_are_same, again_is_counted, numbered_are_same, same_have_room}
use Rattle.lst_log.specs.Format.{FitsTable, IsWrite, HasRecord}
use Rattle.lst_log.specs.Journals.{StandsFor, HasOneList}
use Rattle.lst_log.specs.Logs.{Keeps}
use Rattle.lst_log.specs.declared.log.Log.{Log}
use Rattle.lst_redo.specs.Recoveries.{HasRunAgain}
use Rattle.lst_redo.specs.Scripts.{lines_of, lines_again}
use Rattle.lst_rule.specs.declared.store.Store.{Store as Table}
use Rattle.lst_rule.specs.declared.view.View.{View}
use Rattle.lst_rule.specs.Rule.{knows}
use Rattle.lst_session.specs.declared.crew.Crew.{Crew}
use Rattle.lst_session.specs.Crews.{store_told}
use Rattle.lst_session.proofs.Crewed.{opened_is}
use Rattle.lst_redo.specs.Openings.{HasOpened, IsTooFull}
use Rattle.lst_redo.proofs.Lists.{own_opened}

-- ---- the commits of records can be run again

fits_call : (columns : ℕ) (key : ℕ) (act : Act) → FitsTable columns act → CallFits columns (call_of (record { key = key; act = act }))
fits_call columns key (Put row) fits = fits.0
fits_call columns key (Set patch) fits = fits.0
fits_call columns key Del fits = tt

fit_calls : (columns : ℕ) (ws : List Write) → AllByRecursion (IsWrite columns) ws → AllByRecursion (λ (w : Write). CallFits columns (call_of w)) ws
fit_calls columns [] all = tt
fit_calls columns (w ∷ ws) all = (fits_call columns w.key w.act all.0.act, fit_calls columns ws all.1)

some_writes : (ws : List Write) → 0 < length ws → ws ≡ [] → ⊥
some_writes ws some none = let long = ap length none in omega (arith, some, long)

have_writes : (columns : ℕ) (time : ℕ) (cs : List Commit) → AllByRecursion (HasRecord columns) cs → AllByRecursion (HasWrites columns) (numbered_from time cs)
have_writes columns time [] all = tt
have_writes columns time (c ∷ cs) all = (record { order = all.0.order; some = some_writes c.writes all.0.some; fit = fit_calls columns c.writes all.0.writes }, have_writes columns (suc time) cs all.1)

-- numbering them again changes nothing
numbered_again : (time : ℕ) (cs : List Commit) → numbered_from time (numbered_from time cs) ≡ numbered_from time cs
numbered_again time [] = refl
numbered_again time (c ∷ cs) = ap (λ (ds : List Commit). numbered_at time c ∷ ds) (numbered_again (suc time) cs)

-- and it changes no line
lines_numbered : (time : ℕ) (cs : List Commit) → lines_again (numbered_from time cs) ≡ lines_again cs
lines_numbered time [] = refl
lines_numbered time (c ∷ cs) = ap (λ (ls : List Line). lines_of c ++ ls) (lines_numbered (suc time) cs)

recovered_again : (cs : List Commit) → IsRecovered cs → IsRecovered (numbered_from 1 cs)
recovered_again cs recovered front c rest split = recovered front c rest (sym (numbered_again 1 cs) ∙ split)

-- a session without an open transaction
shut : (k : Known) → opened_of k ≡ None → k.is_open ≡ false
shut k e = at k.is_open e
  where
    at : (b : Bool) → cond {A = Option Opened} b (Some (record { begin = k.begin; read_only = k.read_only })) None ≡ None → b ≡ false
    at true some = cc
    at false none = refl

-- ---- what was read of a disk, with its log

module _ {D : Type 0} (content : D → List ℕ) (images : D → List ℕ → Type 0) (limits : Limits) (old : D) (log : Log D) (read : List Commit)
    (found : (commits : List Commit) × StandsFor limits.columns (content old) commits × Keeps content images commits log × (read ≡ numbered_from 1 commits)) where
  pub is_recovered : IsRecovered read
  is_recovered = subst (λ (cs : List Commit). IsRecovered cs) (sym found.3) (recovered_again found.0 found.1.recovered)

  pub has_writes : AllByRecursion (HasWrites limits.columns) read
  has_writes = subst (λ (cs : List Commit). AllByRecursion (HasWrites limits.columns) cs) (sym found.3) (have_writes limits.columns 1 found.0 found.1.lists.each)

  ran_of : (store : Table) (crew : Crew) → HasRunAgain store limits read crew → HasRunAgain store limits (numbered_from 1 found.0) crew
  ran_of store crew ran = subst (λ (cs : List Commit). HasRunAgain store limits cs crew) found.3 ran

  pub has_opened : (store : Table) (crew : Crew) (own : List (List Write)) (failed : Bool) → log.columns ≡ limits.columns → limits.columns ≤ 8 → store.layout.limits ≡ limits → HasRunAgain store limits read crew → own ≡ replicate limits.sessions []
      → (commits : List Commit) × HasOpened content images limits old commits (record { log = log; store = store; crew = crew; own = own; failed = failed })
  has_opened store crew own failed columns few layout ran none =
      let ran_now = ran_of store crew ran in
      let v : View = crew.seat.view in (
        found.0,
        record {
          stood = found.1;
          journal = record {
            keeps = found.2;
            columns = columns ∙ ap (λ (l : Limits). l.columns) (sym layout);
            few = subst (λ (n : ℕ). n ≤ 8) (sym columns) few;
            crew_of = ran.crew_of;
            tells = ran.tells;
            same = subst (λ (h : List Commit). SameCommits h found.0) (sym ran_now.rested.history) (again_are_same found.0 1);
            counted = subst (λ (l : Limits). IsCounted l (store_told v)) (sym ran_now.limits_are) (subst (IsCounted limits) (sym ran_now.told) (again_is_counted limits (numbered_from 1 found.0) ran_now.runs));
            own = own_opened v own (none ∙ ap (λ (l : Limits). replicate l.sessions []) (sym ran_now.limits_are)) (λ t below. shut (knows v t) (sym (opened_is v t below) ∙ ran_now.rested.opened t));
          };
          ran = ran_now;
          state = ran_now.state ∙ ap (state_after limits opening) (lines_numbered 1 found.0);
        },
      )

  pub too_full : (time : ℕ) → IsFullAt limits read time → IsTooFull limits (content old) time
  too_full time full = record {
    commits = found.0;
    stands = found.1;
    full = subst (λ (cs : List Commit). IsFullAt limits cs time) found.3 full;
  }

  pub has_room : HasOneList → (commits : List Commit) → StandsFor limits.columns (content old) commits → HasRoomFor limits commits → HasRoomFor limits read
  has_room one commits stands room =
      subst (λ (cs : List Commit). HasRoomFor limits cs) (sym found.3)
      (same_have_room limits found.0 (numbered_from 1 found.0) (numbered_are_same found.0 1)
      (subst (λ (cs : List Commit). HasRoomFor limits cs) (one limits.columns (content old) commits found.0 stands found.1) room))
