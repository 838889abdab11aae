-- Lines that were run, once their commits were written together.
use Rattle.std.proofs.Common.{◌≡◌, ◌↔◌, ℕ, suc, ◌+◌, ◌<◌, ◌≤◌, Bool, true, false, List, [], ◌∷◌, ◌++◌, length, Option, Some, None, Result, Ok, Err, refl, sym, ap, ◌∙◌, subst, inl, arith, append-nil, length-append, true≢false}
use Rattle.std.specs.Prelude.{OnOk, IsErr}
use Rattle.lst_disk.specs.Disk.{overwritten, LeavesOnly}
use Rattle.lst_model.specs.declared.commits.Commit.{Commit}
use Rattle.lst_model.specs.declared.lines.Line.{Line}
use Rattle.lst_log.specs.Format.{journal, IsBatchOf}
use Rattle.lst_log.specs.Journals.{AllMayFollow, StandsFor, StandsForOrAll}
use Rattle.lst_log.specs.Logs.{Keeps, AreStaged}
use Rattle.lst_log.specs.Stores.{CountsCalls}
use Rattle.lst_log.specs.declared.log.Log.{Log}
use Rattle.lst_log.proofs.Moments.{weakened, one_after}
use Rattle.lst_session.specs.Crews.{IsCrewOf}
use Rattle.lst_redo.specs.declared.journal.Kept.{Kept}
use Rattle.lst_redo.specs.declared.journal.Redo.{Redo}
use Rattle.lst_redo.specs.declared.together.RunFault.{RunFault}
use Rattle.lst_redo.specs.declared.together.RunFault.TheVariants.{Disk}
use Rattle.lst_redo.specs.Journals.{view_of, IsJournalOf, IsCrewFor}
use Rattle.lst_redo.specs.Ahead.{AreRun, CountsRun, AreWritten, HasRun, IsAhead}
use Rattle.lst_redo.proofs.Crewing.{crew_for, journal_of}
use Rattle.lst_redo.proofs.Committing.{crew_with_log}

-- an empty batch is of no commits
pub none_made : (columns : ℕ) (made : List Commit) (batch : List ℕ) → IsBatchOf columns made batch → length batch ≡ 0 → made ≡ []
none_made columns [] batch is none = refl
none_made columns (c ∷ made) batch is none = absurd (omega (arith, none, ap length is.bytes, length-append (journal columns (c ∷ made)) (0 ∷ [])))

counts_as : {T E : Type 0} (before after : Option ℕ) (w : Result T E) (S : Type 0) (r : Result S RunFault) → (IsErr w → IsErr r) → (IsErr r → IsErr w) → CountsCalls 4 before after w → CountsCalls 4 before after r
counts_as None after w S r to from x = x
counts_as (Some left) after w S r to from x = ((λ e. x.0.0 (from e), λ few. to (x.0.1 few)), x.1)

counts_run : {T : Type 0} (made : List Commit) (before after : Option ℕ) (r : Result T RunFault) → ¬ (made ≡ []) → CountsCalls 4 before after r → CountsRun made before after r
counts_run [] before after r some x = absurd (some refl)
counts_run (c ∷ made) before after r some x = x

are_written : (made : List Commit) (columns end : ℕ) (old new : List ℕ) → ¬ (made ≡ []) → new ≡ overwritten old end (journal columns made ++ 0 ∷ []) → AreWritten made columns end old new
are_written [] columns end old new some is = absurd (some refl)
are_written (c ∷ made) columns end old new some is = is

some_made : (columns : ℕ) (made : List Commit) (batch : List ℕ) → IsBatchOf columns made batch → 0 < length batch → ¬ (made ≡ [])
some_made columns [] batch is some = λ e. omega (arith, some, ap length is)
some_made columns (c ∷ made) batch is some = λ e. let n = ap length e in omega (arith, n)

pub sound_not_failed : {T : Type 0} (failed : Bool) (x : T) → failed ≡ false → (failed ≡ true) ↔ (◌≡◌ {A = Result T RunFault} (Ok x) (Err Disk))
sound_not_failed failed x sound = (λ e. absurd (true≢false (sym e ∙ sound)), λ e. absurd (ok_not x Disk e))
  where
    ok_not : {T : Type 0} (x : T) (f : RunFault) → ◌≡◌ {A = Result T RunFault} (Ok x) (Err f) → ⊥
    ok_not x f e = cc

abbrev done : {T : Type 0} → T → Result T RunFault
done x = Ok x

abbrev failure : (T : Type 0) → RunFault → Result T RunFault
failure T f = Err f

is_fine : {U E : Type 0} (w : Result U E) (u : U) → w ≡ Ok u → ¬ IsErr w
is_fine w u is e = absurd (true≢false (sym (subst IsErr is e)))

is_wrong : {U E : Type 0} (w : Result U E) (f : E) → w ≡ Err f → IsErr w
is_wrong w f is = subst IsErr (sym is) refl

module _ {D : Type 0} (content : D → List ℕ) (images : D → List ℕ → Type 0) (clock : D → ℕ) (images_since : D → ℕ → List ℕ → Type 0) (room_calls room_bytes : D → ℕ) (calls_left : D → Option ℕ) (faults : D → ℕ)
    (before mid : Redo D) (lines : List Line) (answers : List Kept) (made : List Commit) (batch : List ℕ)
    (runs : AreRun before.log.columns before.log.end (length (content before.log.disk)) (view_of before) [] lines answers (view_of mid) made)
    (ahead : IsAhead content images clock images_since room_calls room_bytes calls_left faults before mid made batch) where
  -- while the lines are run a crash leaves what the journal stands for
  runs_still : (commits : List Commit) → IsJournalOf content images commits before → LeavesOnly clock images_since before.log.disk mid.log.disk (StandsForOrAll before.log.columns commits made)
  runs_still commits journal = weakened clock images_since before.log.disk mid.log.disk (images before.log.disk) (StandsForOrAll before.log.columns commits made)
      (λ image left. inl (subst (λ (bytes : List ℕ). StandsFor before.log.columns bytes commits) (sym (journal.keeps.lasts image left)) journal.keeps.stands)) ahead.room.run

  -- none was made
  pub ran_none : {T : Type 0} (x : T) → length batch ≡ 0 → HasRun content images clock images_since calls_left before mid lines answers made (Ok x)
  ran_none x none =
      let is : made ≡ [] = none_made mid.log.columns made batch ahead.staged.is_batch none in record {
        runs = runs;
        stands = λ commits journal.
            let all : commits ≡ commits ++ made = sym (append-nil commits) ∙ ap (λ (cs : List Commit). commits ++ cs) (sym is) in
            journal_of content images mid (commits ++ made) (subst (λ (cs : List Commit). Keeps content images cs mid.log) all (ahead.keeps commits journal.keeps)) (ahead.crew commits (crew_for content images before commits journal));
        any_moment = runs_still;
        written = subst (λ (cs : List Commit). AreWritten cs before.log.columns before.log.end (content before.log.disk) (content mid.log.disk)) (sym is) ahead.room.same;
        calls = subst (λ (cs : List Commit). CountsRun cs (calls_left before.log.disk) (calls_left mid.log.disk) (done x)) (sym is) ahead.room.left;
      }

  crew_failed : (failed : Bool) (commits : List Commit) → IsCrewFor commits mid → IsCrewFor commits (record mid { failed = failed })
  crew_failed failed commits crew = record { columns = crew.columns; few = crew.few; crew_of = crew.crew_of; tells = crew.tells; same = crew.same; counted = crew.counted; own = crew.own }

  -- they were written, or the disk failed
  module _ (log : Log D) (some : 0 < length batch) (columns : log.columns ≡ mid.log.columns)
      (any_moment : (so_far commits : List Commit) → Keeps content images so_far mid.log → AreStaged content room_calls room_bytes commits batch mid.log → AllMayFollow so_far commits
      → LeavesOnly clock images_since mid.log.disk log.disk (StandsForOrAll mid.log.columns so_far commits)) where
    at_any_moment : (commits : List Commit) → IsJournalOf content images commits before → LeavesOnly clock images_since before.log.disk log.disk (StandsForOrAll before.log.columns commits made)
    at_any_moment commits journal =
        let writes = any_moment commits made (ahead.keeps commits journal.keeps) ahead.staged (ahead.follow commits (crew_for content images before commits journal)) in
        one_after clock images_since before.log.disk mid.log.disk log.disk (StandsForOrAll before.log.columns commits made) (runs_still commits journal)
        (subst (λ (n : ℕ). LeavesOnly clock images_since mid.log.disk log.disk (StandsForOrAll n commits made)) ahead.columns writes)

    counted : {T E : Type 0} (w : Result (Unit {0}) E) (r : Result T RunFault) → (IsErr w → IsErr r) → (IsErr r → IsErr w) → CountsCalls 4 (calls_left mid.log.disk) (calls_left log.disk) w
        → CountsRun made (calls_left before.log.disk) (calls_left log.disk) r
    counted {T} w r to from left = counts_run made (calls_left before.log.disk) (calls_left log.disk) r (some_made mid.log.columns made batch ahead.staged.is_batch some)
        (subst (λ (b : Option ℕ). CountsCalls 4 b (calls_left log.disk) r) ahead.room.left (counts_as (calls_left mid.log.disk) (calls_left log.disk) w T r to from left))

    pub ran_ok : {T E : Type 0} (w : Result (Unit {0}) E) (failed : Bool) (x : T) (u : Unit {0}) → w ≡ Ok u
        → ((so_far commits : List Commit) → Keeps content images so_far mid.log → AreStaged content room_calls room_bytes commits batch mid.log → AllMayFollow so_far commits → Keeps content images (so_far ++ commits) log)
        → ((commits : List Commit) → AreStaged content room_calls room_bytes commits batch mid.log → content log.disk ≡ overwritten (content mid.log.disk) mid.log.end (journal mid.log.columns commits ++ 0 ∷ []))
        → CountsCalls 4 (calls_left mid.log.disk) (calls_left log.disk) w → HasRun content images clock images_since calls_left before (record mid { log = log; failed = failed }) lines answers made (done x)
    ran_ok w failed x u is kept written left = record {
      runs = runs;
      stands = λ commits journal.
          let crew = crew_for content images before commits journal in
          journal_of content images (record mid { log = log; failed = failed }) (commits ++ made) (kept commits made (ahead.keeps commits journal.keeps) ahead.staged (ahead.follow commits crew))
          (crew_with_log (record mid { failed = failed }) log mid.own (commits ++ made) columns refl (crew_failed failed (commits ++ made) (ahead.crew commits crew)));
      any_moment = at_any_moment;
      written = are_written made before.log.columns before.log.end (content before.log.disk) (content log.disk) (some_made mid.log.columns made batch ahead.staged.is_batch some)
          (written made ahead.staged ∙ (λ i. overwritten (ahead.room.same i) (ahead.end i) (journal (ahead.columns i) made ++ 0 ∷ [])));
      calls = counted w (done x) (λ e. absurd (is_fine w u is e)) (λ e. absurd (is_fine (done x) x refl e)) left;
    }

    pub ran_err : {E : Type 0} (T : Type 0) (w : Result (Unit {0}) E) (failed : Bool) (f : E) → w ≡ Err f → CountsCalls 4 (calls_left mid.log.disk) (calls_left log.disk) w
        → HasRun content images clock images_since calls_left before (record mid { log = log; failed = failed }) lines answers made (failure T Disk)
    ran_err T w failed f is left = record {
      runs = runs;
      stands = λ commits journal. tt;
      any_moment = at_any_moment;
      written = tt;
      calls = counted w (failure T Disk) (λ e. is_wrong (failure T Disk) Disk refl) (λ e. is_wrong w f is) left;
    }
