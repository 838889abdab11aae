-- The front of a run, with more lines behind it; and the runs of whole scripts.
use Rattle.std.proofs.Common.{◌≡◌, ℕ, ◌<◌, ◌≤◌, max, List, [], ◌∷◌, ◌++◌, Bool, true, false, ◌||◌, cond, map, Option, Some, None, IfSome, refl, sym, subst, ap, ◌∙◌, arith}
use Rattle.std.specs.List.{filter, filter_map, list_any, cons_option, AllByRecursion}
use Rattle.std.proofs.lemmas.List.Elements.{filter-append, filter_map-append}
use Rattle.std.proofs.lemmas.List.Folds.{list_any-append}
use Rattle.lst_layout.specs.declared.limits.Limits.{Limits}
use Rattle.lst_model.specs.declared.lines.Line.{Line}
use Rattle.lst_model.specs.declared.lines.Line.TheVariants.{Phase, Merge, Call}
use Rattle.lst_model.specs.declared.lines.Call.{Call as CallKind}
use Rattle.lst_model.specs.declared.replies.Reply.{Reply}
use Rattle.lst_model.specs.declared.replies.Reply.TheVariants.{Silent}
use Rattle.lst_replies.specs.Runs.{Answered, answered, run_of, is_by, is_phase, speaker_of, commit_time, commit_times}
use Rattle.lst_replies.specs.States.{greatest, times_told, time_told, ended_phases}
use Rattle.lst_work_laws.specs.Runs.{CanRun}
use Rattle.lst_work_laws.specs.Laws.{phase_run}
use Rattle.lst_work_laws.proofs.Floors.{more_low}

-- ---- lists

greatest-append : (xs ys : List ℕ) → greatest (xs ++ ys) ≡ max (greatest xs) (greatest ys)
greatest-append [] ys = omega arith
greatest-append (x ∷ xs) ys = let h = greatest-append xs ys in omega arith

-- ---- more lines behind the front of a run

pub times_on : (s : ℕ) (front before : List Answered) → greatest (times_told s (front ++ before)) ≡ max (greatest (times_told s front)) (greatest (times_told s before))
times_on s front before =
    ap (λ (ones : List Answered). greatest (filter_map (λ (one : Answered). time_told one.reply) ones)) (filter-append (is_by s) front before)
    ∙ (ap greatest (filter_map-append (λ (one : Answered). time_told one.reply) (filter (is_by s) front) (filter (is_by s) before)) ∙ greatest-append (times_told s front) (times_told s before))

pub commits_on : (front before : List Answered) → greatest (commit_times (front ++ before)) ≡ max (greatest (commit_times front)) (greatest (commit_times before))
commits_on front before = ap greatest (filter_map-append (λ (one : Answered). commit_time one.reply) front before) ∙ greatest-append (commit_times front) (commit_times before)

or_none : (a b : Bool) → b ≡ false → (a || b) ≡ a
or_none true b e = refl
or_none false b e = e

neither : (a b : Bool) → (a || b) ≡ false → a ≡ false
neither true b e = e
neither false b e = refl

-- lines that end no phase leave the phases that have ended
pub ended_on : (front before : List Answered) → list_any (λ one. is_phase one.line) before ≡ false → ended_phases (front ++ before) ≡ ended_phases front
ended_on [] [] none = refl
ended_on [] (one ∷ before) none = ap (λ (b : Bool). cond b (one ∷ ended_phases before) []) none
ended_on (first ∷ front) before none =
    ap (λ (b : Bool). cond b (first ∷ ended_phases (front ++ before)) []) (list_any-append (λ one. is_phase one.line) (first ∷ front) before ∙ or_none (list_any (λ one. is_phase one.line) (first ∷ front)) (list_any (λ one. is_phase one.line) before) none)
    ∙ ap (λ (ones : List Answered). cond (list_any (λ one. is_phase one.line) (first ∷ front)) (first ∷ ones) []) (ended_on front before none)

less_low : (told : Option ℕ) (xs ys : List ℕ) (b : ℕ) → (greatest xs ≤ b → greatest ys ≤ b) → greatest (cons_option told xs) ≤ b → greatest (cons_option told ys) ≤ b
less_low None xs ys b less h = less h
less_low (Some time) xs ys b less h = let g = less (omega arith) in omega arith

-- the phases that have ended have no later commits than the whole front
pub ended_low : (front : List Answered) (b : ℕ) → greatest (commit_times front) ≤ b → greatest (commit_times (ended_phases front)) ≤ b
ended_low [] b h = h
ended_low (one ∷ front) b h = by_test (list_any (λ other. is_phase other.line) (one ∷ front)) (ended_low front b)
  where
    by_test : (t : Bool) → (greatest (commit_times front) ≤ b → greatest (commit_times (ended_phases front)) ≤ b) → greatest (commit_times (cond t (one ∷ ended_phases front) [])) ≤ b
    by_test true rest = less_low (commit_time one.reply) (commit_times front) (commit_times (ended_phases front)) b rest h
    by_test false rest = omega arith

-- ---- bounds on commit times, line by line

abbrev pub CommitsLow : ℕ → Answered → Type 0
CommitsLow b one = IfSome (commit_time one.reply) (λ time. time ≤ b)

head_low : (told : Option ℕ) (times : List ℕ) (b : ℕ) → greatest (cons_option told times) ≤ b → IfSome told (λ time. time ≤ b) × (greatest times ≤ b)
head_low None times b h = (tt, h)
head_low (Some time) times b h = (omega arith, omega arith)

pub low_each : (b : ℕ) (run : List Answered) → greatest (commit_times run) ≤ b → AllByRecursion (CommitsLow b) run
low_each b [] h = tt
low_each b (one ∷ run) h = let x = head_low (commit_time one.reply) (commit_times run) b h in (x.0, low_each b run x.1)

pub low_all : (b : ℕ) (run : List Answered) → AllByRecursion (CommitsLow b) run → greatest (commit_times run) ≤ b
low_all b [] all = omega arith
low_all b (one ∷ run) all = more_low (commit_time one.reply) (commit_times run) b all.0 (low_all b run all.1)

-- ---- the lines of a phase

module _ (l : Limits) where
  -- who calls is a session of the store
  pub spoken : (lines : List Line) (replies : List (Option ℕ × Reply)) (before : List Answered) (session : ℕ) (call : CallKind) (reply : Reply) (after : List Answered) → AllByRecursion (CanRun l) lines
      → phase_run lines replies ≡ before ++ answered (Call session call) reply ∷ after → session < l.sessions
  spoken [] replies [] session call reply after all e = absurd (cc)
  spoken [] replies (b ∷ before) session call reply after all e = absurd (cc)
  spoken (line ∷ lines) [] [] session call reply after all e = absurd (cc)
  spoken (line ∷ lines) [] (b ∷ before) session call reply after all e = absurd (cc)
  spoken (line ∷ lines) (first ∷ replies) [] session call reply after all e =
      let same : answered line first.1 ≡ answered (Call session call) reply = cc in (subst (CanRun l) (ap (λ (one : Answered). one.line) same) all.0).fits.0
  spoken (line ∷ lines) (first ∷ replies) (b ∷ before) session call reply after all e = let others : phase_run lines replies ≡ before ++ answered (Call session call) reply ∷ after = cc in spoken lines replies before session call reply after all.1 others

  unended : (lines : List Line) (replies : List (Option ℕ × Reply)) → AllByRecursion (CanRun l) lines → list_any (λ one. is_phase one.line) (phase_run lines replies) ≡ false
  unended [] replies all = refl
  unended (line ∷ lines) [] all = refl
  unended (Phase ∷ lines) (reply ∷ replies) all = absurd all.0.within
  unended (Merge range column ∷ lines) (reply ∷ replies) all = unended lines replies all.1
  unended (Call session call ∷ lines) (reply ∷ replies) all = unended lines replies all.1

  -- no phase ends before a line of a phase
  pub unended_before : (lines : List Line) (replies : List (Option ℕ × Reply)) (before rest : List Answered) → AllByRecursion (CanRun l) lines → phase_run lines replies ≡ before ++ rest → list_any (λ one. is_phase one.line) before ≡ false
  unended_before lines replies before rest all e =
      neither (list_any (λ one. is_phase one.line) before) (list_any (λ one. is_phase one.line) rest)
      (sym (list_any-append (λ one. is_phase one.line) before rest) ∙ (sym (ap (list_any (λ one. is_phase one.line)) e) ∙ unended lines replies all))

  -- the run of a phase is that of its lines in a script
  pub run_last : (lines : List Line) (replies : List (Option ℕ × Reply)) → AllByRecursion (CanRun l) lines → run_of lines replies ≡ phase_run lines replies
  run_last [] replies all = refl
  run_last (Phase ∷ lines) replies all = absurd all.0.within
  run_last (Merge range column ∷ lines) [] all = refl
  run_last (Merge range column ∷ lines) (reply ∷ replies) all = ap (λ (ones : List Answered). answered (Merge range column) reply.1 ∷ ones) (run_last lines replies all.1)
  run_last (Call session call ∷ lines) [] all = refl
  run_last (Call session call ∷ lines) (reply ∷ replies) all = ap (λ (ones : List Answered). answered (Call session call) reply.1 ∷ ones) (run_last lines replies all.1)

  pub run_then : (lines more : List Line) (replies others : List (Option ℕ × Reply)) → AllByRecursion (CanRun l) lines → map (λ reply. reply.0) replies ≡ map speaker_of lines
      → run_of (lines ++ Phase ∷ more) (replies ++ others) ≡ phase_run lines replies ++ answered Phase Silent ∷ run_of more others
  run_then [] more [] others all e = refl
  run_then [] more (reply ∷ replies) others all e = absurd (cc)
  run_then (Phase ∷ lines) more replies others all e = absurd all.0.within
  run_then (Merge range column ∷ lines) more [] others all e = absurd (cc)
  run_then (Merge range column ∷ lines) more (reply ∷ replies) others all e = let rest : map (λ r. r.0) replies ≡ map speaker_of lines = cc in ap (λ (ones : List Answered). answered (Merge range column) reply.1 ∷ ones) (run_then lines more replies others all.1 rest)
  run_then (Call session call ∷ lines) more [] others all e = absurd (cc)
  run_then (Call session call ∷ lines) more (reply ∷ replies) others all e = let rest : map (λ r. r.0) replies ≡ map speaker_of lines = cc in ap (λ (ones : List Answered). answered (Call session call) reply.1 ∷ ones) (run_then lines more replies others all.1 rest)
