-- The report of a script on which all sessions of a new store have worked.
use Rattle.std.proofs.Common.{◌≡◌, ℕ, ◌<◌, List, [], ◌∷◌, eqb, length, map, get_or, refl, sym, subst, ap, ◌∙◌, arith, true≢false}
use Rattle.std.specs.Prelude.{Option}
use Rattle.std.proofs.lemmas.Bool.{eq-eqb}
use Rattle.std.proofs.lemmas.List.Folds.{list_any_at}
use Rattle.std.specs.List.{All}
use Rattle.lst_layout.specs.declared.layout.Layout.{Layout}
use Rattle.lst_layout.specs.declared.limits.Limits.{Limits}
use Rattle.lst_history.specs.Commits.{without_writes}
use Rattle.lst_model.specs.declared.commits.Commit.{Commit}
use Rattle.lst_model.specs.declared.lines.Line.{Line}
use Rattle.lst_model.specs.declared.replies.Reply.{Reply}
use Rattle.lst_model.specs.Lines.{LineFits}
use Rattle.lst_core_state.specs.declared.known.Known.{Known}
use Rattle.lst_rule.specs.declared.store.Store.{Store}
use Rattle.lst_rule.specs.Rule.{knows, crew as opening_view}
use Rattle.lst_replies.specs.declared.reports.Report.{Report}
use Rattle.lst_replies.specs.declared.reports.Stamp.{Stamp}
use Rattle.lst_replies.specs.Legal.{stamp_of}
use Rattle.lst_legal_runs.specs.declared.levels.Level.{Level}
use Rattle.lst_replies.specs.Runs.{Answered, run_of}
use Rattle.lst_session.specs.declared.crew.Crew.{Crew}
use Rattle.lst_session.specs.declared.passes.Merger.{Merger}
use Rattle.lst_session.specs.declared.session.Session.{Session}
use Rattle.lst_session.specs.Crews.{IsCrewOf, store_told}
use Rattle.lst_session.specs.Parting.{known_by, IsMergerOf, IsMissing, IsGathered}
use Rattle.lst_session.specs.Passes.{IsReady}
use Rattle.lst_work_laws.specs.Legal.{HaveDoneNothing, AreTogether, WorkedScriptIsLegal}
use Rattle.lst_work_laws.specs.Whole.{AreAll}
use Rattle.lst_work_laws.specs.Keeping.{EachEnds, IsLegalUnder}
use Rattle.lst_work_laws.specs.Worked.{HaveSeenTheHistory, IsWorkedAt}
use Rattle.lst_work_laws.specs.Works.{SessionWorks, MergerWorks, Works}
use Rattle.lst_work_laws.proofs.Lists.{element}
use Rattle.lst_work_laws.proofs.Together.{together}
use Rattle.lst_work_laws.proofs.Worked.{works_looked, merger_as}
use Rattle.lst_work.specs.Reporting.{KnowTheOpening, IsReported}

-- no session is missing among all of a store
pub none_missing : (store : Store) (sessions : List Session) (l : Limits) (missing : ℕ) → AreAll store sessions → l ≡ store.layout.limits → IsMissing sessions l.sessions missing → ⊥
none_missing store sessions l missing all limits x =
    let low : missing < length sessions = (let a = all.count in let b = ap (λ (k : Limits). k.sessions) limits in let h = x.session in omega arith) in
    let d : Session = element sessions missing low in
    true≢false (sym (list_any_at (λ (session : Session). eqb session.number missing) sessions missing d low (eq-eqb (get_or sessions missing d).number missing (all.number missing d low))) ∙ x.none)

-- they are passes, and ready
pub all_ready : (store : Store) (sessions : List Session) → AreAll store sessions → All (IsReady store) sessions
all_ready store sessions all s d low = all.ready s d low

-- ---- the report

-- a commit without its writes has the same stamp
pub stamps_bare : (commits : List Commit) → map stamp_of (map without_writes commits) ≡ map stamp_of commits
stamps_bare [] = refl
stamps_bare (commit ∷ commits) = ap (λ (stamps : List Stamp). stamp_of commit ∷ stamps) (stamps_bare commits)

module _ (law : WorkedScriptIsLegal) (level : Level) (layout : Layout) (lines : List Line) (store : Store) (old new : List Session) (first last : Merger) (replies : List (Option ℕ × Reply)) (gathered crew : Crew) (report : Report)
    (opened : store.layout ≡ layout) (nothing : HaveDoneNothing store old first.seat.view) (knew : KnowTheOpening layout.limits old first.seat.view)
    (fits : All (LineFits layout.limits.sessions layout.limits.ranges layout.limits.columns) lines)
    (all : AreAll store new) (works : Works store lines old new first.seat.view last.seat.view replies) (ends : EachEnds level (run_of lines replies) old new) (merger : IsMergerOf store last)
    (together_in : IsGathered new last.seat.view gathered.seat.view) (gathered_of : IsCrewOf store gathered) (r : IsReported store replies gathered report crew) (seen : HaveSeenTheHistory crew.seat.view) where
  works_told : Works store lines old new first.seat.view last.seat.view report.replies
  works_told = subst (λ (rs : List (Option ℕ × Reply)). Works store lines old new first.seat.view last.seat.view rs) (sym r.tells) works

  ends_told : EachEnds level (run_of lines report.replies) old new
  ends_told = subst (λ (rs : List (Option ℕ × Reply)). EachEnds level (run_of lines rs) old new) (sym r.tells) ends

  limits_are : store.layout.limits ≡ layout.limits
  limits_are = ap (λ (x : Layout). x.limits) opened

  fits_store : All (LineFits store.layout.limits.sessions store.layout.limits.ranges store.layout.limits.columns) lines
  fits_store = subst (λ (l : Limits). All (LineFits l.sessions l.ranges l.columns) lines) (sym limits_are) fits

  in_old : (s : ℕ) → s < layout.limits.sessions → s < length old
  in_old s low = let e = nothing.all.count in let f = ap (λ (l : Limits). l.sessions) limits_are in omega arith

  in_new : (s : ℕ) → s < layout.limits.sessions → s < length new
  in_new s low = let e = all.count in let f = ap (λ (l : Limits). l.sessions) limits_are in omega arith

  t : AreTogether store new last.seat.view crew.seat.view
  t = together store new last.seat.view gathered crew all merger.seat_of.limits together_in gathered_of r.crew_of r.stock r.whole store.layout.valid.sessions.0 r.history

  abbrev run : List Answered
  run = run_of lines report.replies

  session_works : (s : ℕ) → s < layout.limits.sessions → SessionWorks layout.limits run s (knows (opening_view layout.limits) s) (knows crew.seat.view s)
  session_works s low = let d : Session = element new s (in_new s low) in
      subst (λ (l : Limits). SessionWorks l run s (knows (opening_view layout.limits) s) (knows crew.seat.view s)) limits_are
      (works_looked store.layout.limits run s (knows (opening_view layout.limits) s) (known_by (get_or new s d)) (knows crew.seat.view s)
      (subst (λ (k : Known). SessionWorks store.layout.limits run s k (known_by (get_or new s d))) (knew.each s d (in_old s low)) (works_told.sessions s d (in_old s low)))
      (t.looked s d (in_new s low)))

  merger_works : MergerWorks layout.limits run (opening_view layout.limits) crew.seat.view
  merger_works = subst (λ (l : Limits). MergerWorks l run (opening_view layout.limits) crew.seat.view) limits_are
      (merger_as store.layout.limits run first.seat.view last.seat.view (opening_view layout.limits) crew.seat.view
      (sym knew.merger_limits) (t.limits ∙ sym merger.seat_of.limits) (sym knew.merger) t.merger works_told.merger)

  pub is_worked : IsWorkedAt level layout lines report store crew
  is_worked = record {
    opened = opened;
    crew_of = r.crew_of;
    whole = r.whole;
    seen = seen;
    legal = subst (λ (l : Limits). IsLegalUnder level l lines report (store_told crew.seat.view).history) limits_are
        (law level store lines old new first.seat.view last.seat.view crew.seat.view report nothing all fits_store works_told ends_told t r.possible r.stamps);
    sessions = session_works;
    merger = merger_works;
  }
