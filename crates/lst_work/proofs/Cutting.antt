-- A script that is cut at its ends of phases.
use Rattle.std.proofs.Common.{◌≡◌, ⊎_elim, true, false, ℕ, ◌+◌, ◌-◌, ◌<◌, ◌≤◌, List, Option, [], ◌∷◌, ◌++◌, length, take, get_or, slice_range, refl, sym, subst, ap, ◌∙◌, arith, append_assoc, append-nil, take-add, drop, get_or-take, get_or-drop, length-take}
use Rattle.std.specs.List.{All, AllByRecursion, filter}
use Rattle.std.proofs.lemmas.Bool.{cases_eq}
use Rattle.std.proofs.lemmas.List.{take_more, get_or_default}
use Rattle.std.proofs.lemmas.List.Elements.{recursion_from_All, filter-append}
use Rattle.lst_walk.proofs.Lists.{take_whole}
use Rattle.lst_layout.specs.declared.limits.Limits.{Limits}
use Rattle.lst_model.specs.declared.lines.Line.{Line}
use Rattle.lst_model.specs.declared.lines.Line.TheVariants.{Phase, Merge, Call}
use Rattle.lst_model.specs.declared.replies.Reply.{Reply}
use Rattle.lst_model.specs.Lines.{LineFits}
use Rattle.lst_model.specs.declared.replies.Reply.TheVariants.{Silent}
use Rattle.lst_replies.specs.Runs.{Answered, answered, is_by, is_phase, run_of}
use Rattle.lst_replies.specs.ReplyKinds.{HaveReplyShape}
use Rattle.lst_legal_runs.specs.declared.levels.Level.{Level}
use Rattle.lst_legal_runs.specs.declared.levels.Level.TheVariants.{Snapshot, Serializable}
use Rattle.lst_serial.specs.Keys.{has}
use Rattle.lst_session.specs.Parting.{known_by}
use Rattle.lst_work_laws.specs.Lines.{session_told}
use Rattle.lst_work_laws.specs.Laws.{own_run}
use Rattle.lst_work_laws.specs.Keeping.{Pass, EndAll, EachEnds, Keeps, KeepsReads, CarriesOn}
use Rattle.lst_work_laws.proofs.Fronts.{run_last}
use Rattle.lst_work_laws.proofs.Lists.{element}
use Rattle.lst_work_laws.proofs.Scripting.{shape_through}
use Rattle.lst_work_laws.proofs.Telling.{extends_on, same_told}
use Rattle.lst_work_laws.proofs.Weaving.{own_part}
use Rattle.lst_work.specs.Reads.{pass_of}
use Rattle.lst_work.specs.declared.reads.Reads.{Reads}
use Rattle.lst_work.proofs.Running.{carries_join}
use Rattle.lst_rule.specs.declared.store.Store.{Store}
use Rattle.lst_rule.specs.declared.view.View.{View}
use Rattle.lst_session.specs.declared.session.Session.{Session}
use Rattle.lst_session.specs.declared.passes.Merger.{Merger}
use Rattle.lst_session.specs.Parting.{IsMergerOf}
use Rattle.lst_work_laws.specs.Runs.{IsWithinPhase}
use Rattle.lst_work_laws.specs.Runs.{CanRun}
use Rattle.lst_work_laws.specs.Whole.{AreAll, IsPhase}
use Rattle.lst_work_laws.specs.Phases.{Hears, HaveHeard, RunThrough, script_of, HaveRunThrough}
use Rattle.lst_work.specs.Parts.{AreWithin, EndsAt, pass_at, AllCarryOn, IsPhaseAt, IsUnread, AreUnread, IsPart, AreThrough, AreBetween}

-- ---- lists

-- a longer front of the lines: the shorter one, the line behind it, and the lines up to the end of the longer one
pub longer_front : (lines : List Line) (n m : ℕ) (line : Line) → n < length lines → n + 1 ≤ m → line ≡ get_or lines n line → line ≡ Phase
    → take m lines ≡ take n lines ++ Phase ∷ slice_range lines (n + 1) m
longer_front lines n m line inside up is end =
    let whole : n + 1 + (m - (n + 1)) ≡ m = omega arith in
    ap (λ (k : ℕ). take k lines) (sym whole) ∙ (take-add (n + 1) (m - (n + 1)) lines
    ∙ (ap (λ (ls : List Line). ls ++ slice_range lines (n + 1) m) (take_more lines n line inside ∙ ap (λ (l : Line). take n lines ++ l ∷ []) (sym is ∙ end))
    ∙ append_assoc (take n lines) (Phase ∷ []) (slice_range lines (n + 1) m)))

-- one more phase at the end of a script
pub script_on : (first : List Line) (later : List (List Line)) (next : List Line) → script_of first (later ++ next ∷ []) ≡ script_of first later ++ Phase ∷ next
script_on first [] next = refl
script_on first (one ∷ later) next = ap (λ (ls : List Line). first ++ Phase ∷ ls) (script_on one later next) ∙ sym (append_assoc first (Phase ∷ script_of one later) (Phase ∷ next))

-- ---- which lines may run

all_push : (P : List Line → Type 0) (xs : List (List Line)) (x : List Line) → AllByRecursion P xs → P x → AllByRecursion P (xs ++ x ∷ [])
all_push P [] x all last = (last, tt)
all_push P (y ∷ ys) x all last = (all.0, all_push P ys x all.1 last)

-- the lines between two places, where no phase ends between them
pub cut_can : (l : Limits) (lines : List Line) (a b : ℕ) → All (LineFits l.sessions l.ranges l.columns) lines → b ≤ length lines → AreWithin lines a b → All (CanRun l) (slice_range lines a b)
cut_can l lines a b fits most within i d low =
    let long = length-take (b - a) (drop a lines) in
    let e : get_or (slice_range lines a b) i d ≡ get_or lines (a + i) d = get_or-take (b - a) (drop a lines) i d (omega arith) ∙ get_or-drop a lines i d in
    subst (CanRun l) (sym e) record { fits = fits (a + i) d (omega arith); within = within (a + i) d (omega arith) (omega arith) }

-- ---- phases

run_through_on : (store : Store) (phase next : List Line) (later : List (List Line)) (old now heard new : List Session) (m k n : View) (replies fresh : List (Option ℕ × Reply)) → RunThrough store phase later old now m k replies → AreAll store now
    → HaveHeard now heard → AreAll store heard → IsPhase next heard new k n fresh → RunThrough store phase (later ++ next ∷ []) old new m n (replies ++ fresh)
run_through_on store phase next [] old now heard new m k n replies fresh x a h b r = (now, heard, k, (replies, fresh, refl, x, a, h, b, r))
run_through_on store phase next (one ∷ later) old now heard new m k n replies fresh x a h b r = (
  x.0,
  x.1,
  x.2,
  (
    x.3.0,
    x.3.1 ++ fresh,
    ap (λ (rs : List (Option ℕ × Reply)). rs ++ fresh) x.3.2 ∙ append_assoc x.3.0 x.3.1 fresh,
    x.3.3,
    x.3.4,
    x.3.5,
    x.3.6,
    run_through_on store one next later x.1 now heard new x.2 k n x.3.1 fresh x.3.7 a h b r,
  ),
)

-- ---- what each session keeps along its own lines

-- a script and more lines behind it, with their replies
run_on : (xs ys : List Line) (rs qs : List (Option ℕ × Reply)) → HaveReplyShape xs rs → run_of (xs ++ ys) (rs ++ qs) ≡ run_of xs rs ++ run_of ys qs
run_on [] ys [] qs x = refl
run_on [] ys (r ∷ rs) qs x = absurd x
run_on (Phase ∷ xs) ys rs qs x = ap (λ (ones : List Answered). answered Phase Silent ∷ ones) (run_on xs ys rs qs x)
run_on (Merge range column ∷ xs) ys [] qs x = absurd x
run_on (Merge range column ∷ xs) ys (r ∷ rs) qs x = ap (λ (ones : List Answered). answered (Merge range column) r.1 ∷ ones) (run_on xs ys rs qs x.1)
run_on (Call session call ∷ xs) ys [] qs x = absurd x
run_on (Call session call ∷ xs) ys (r ∷ rs) qs x = ap (λ (ones : List Answered). answered (Call session call) r.1 ∷ ones) (run_on xs ys rs qs x.1)

-- hearing reads nothing
hears_carries : (level : Level) (s : ℕ) (a b : Session) (r : Reads) → a.number ≡ s → Hears a b → CarriesOn level s [] (pass_of a r) (pass_of b r)
hears_carries level s a b r is h state own kept = subst (λ (lines : List Answered). Keeps level state s lines (pass_of b r)) (sym (append-nil own)) record {
  told = same_told a.number (known_by a) (known_by b) h.same ∙ kept.told;
  ends = λ history goes. kept.ends history (extends_on (known_by a).seen (known_by b).seen history h.seen goes);
  reads = kept.reads;
}

module _ (store : Store) (level : Level) (old : List Session) (all : AreAll store old) where
  -- a session's own lines of a phase
  own_lines : (lines : List Line) (new : List Session) (m n : View) (replies : List (Option ℕ × Reply)) (s : ℕ) → s < length old → AllByRecursion (CanRun store.layout.limits) lines → IsPhase lines old new m n replies
      → own_run (length old) s lines replies ≡ filter (is_by s) (run_of lines replies)
  own_lines lines new m n replies s low can phase =
      sym (own_part (length old) s lines replies low phase.speakers) ∙ ap (filter (is_by s)) (sym (run_last store.layout.limits lines replies can))

  carries_first : (lines : List Line) (new : List Session) (reads more : List Reads) (m n : View) (replies : List (Option ℕ × Reply)) → AllByRecursion (CanRun store.layout.limits) lines → IsPhaseAt level lines old new reads more m n replies
      → AllCarryOn level (λ s. filter (is_by s) (run_of lines replies)) old new reads more
  carries_first lines new reads more m n replies can x s d r low =
      subst (λ (own : List Answered). CarriesOn level s own (pass_at old reads s d r) (pass_at new more s d r)) (own_lines lines new m n replies s low can x.phase) (x.carries s d r low)

-- a phase behind the lines so far, and the end of one between them
module _ (store : Store) (level : Level) (front next : List Line) (old now heard new : List Session) (reads kept more : List Reads) (k n : View) (replies fresh : List (Option ℕ × Reply)) (first : AreAll store old) (ready : AreAll store now)
    (shape : HaveReplyShape front replies) (x : AllCarryOn level (λ s. filter (is_by s) (run_of front replies)) old now reads kept)
    (hears : HaveHeard now heard) (among : AreAll store heard) (can : AllByRecursion (CanRun store.layout.limits) next) (phase : IsPhaseAt level next heard new kept more k n fresh) where
  carries_on : AllCarryOn level (λ s. filter (is_by s) (run_of (front ++ Phase ∷ next) (replies ++ fresh))) old new reads more
  carries_on s d r low =
      let inside : s < length now = subst (λ (c : ℕ). s < c) (first.count ∙ sym ready.count) low in
      let there : s < length heard = subst (λ (c : ℕ). s < c) (sym hears.count) inside in
      let lines : run_of (front ++ Phase ∷ next) (replies ++ fresh) ≡ run_of front replies ++ answered Phase Silent ∷ run_of next fresh = run_on front (Phase ∷ next) replies fresh shape in
      let own : filter (is_by s) (run_of (front ++ Phase ∷ next) (replies ++ fresh)) ≡ filter (is_by s) (run_of front replies) ++ filter (is_by s) (run_of next fresh) =
      ap (filter (is_by s)) lines ∙ filter-append (is_by s) (run_of front replies) (answered Phase Silent ∷ run_of next fresh) in
      let hearing : CarriesOn level s [] (pass_at now kept s d r) (pass_at heard kept s d r) =
      hears_carries level s (get_or now s d) (get_or heard s d) (get_or kept s r) (ready.number s d inside) (hears.hears s d inside) in
      subst (λ (ls : List Answered). CarriesOn level s ls (pass_at old reads s d r) (pass_at new more s d r)) (sym own)
      (carries_join level s (filter (is_by s) (run_of front replies)) (filter (is_by s) (run_of next fresh)) (pass_at old reads s d r) (pass_at now kept s d r) (pass_at new more s d r) (x s d r low)
      (carries_join level s [] (filter (is_by s) (run_of next fresh)) (pass_at now kept s d r) (pass_at heard kept s d r) (pass_at new more s d r) hearing
      (carries_first store level heard among next new kept more k n fresh can phase s d r there)))

-- sessions that have read nothing keep nothing along no lines
unread_keeps : (level : Level) (s : ℕ) (a : Session) (r : Reads) → IsUnread r → Keeps level (session_told (known_by a)) s [] (pass_of a r)
unread_keeps level s a r none = record { told = refl; ends = no_line; reads = by_level level }
  where
    no_line : EndAll level (session_told (known_by a)) s [] (known_by a).seen
    no_line history goes [] call reply after e = absurd (cc)
    no_line history goes (b ∷ before) call reply after e = absurd (cc)

    by_level : (level : Level) → KeepsReads level [] (has r.keys) r.all
    by_level Snapshot = tt
    by_level Serializable = (none.keys, none.all)

-- the first phase
pub through_first : (store : Store) (level : Level) (lines : List Line) (old now : List Session) (reads more : List Reads) (m k : View) (replies : List (Option ℕ × Reply)) (n : ℕ) → AreAll store old → length more ≡ length now
    → IsPart store level lines 0 n old now reads more m k replies → AreThrough store level lines old now reads more m k replies n
through_first store level lines old now reads more m k replies n before long part = record {
  all = part.all;
  count = part.all.count ∙ sym before.count;
  most = part.most;
  through = record {
    first = slice_range lines 0 n;
    later = [];
    parted = ap (λ (i : ℕ). take i lines) (let e : n ≡ n - 0 = omega arith in e);
    can = recursion_from_All (CanRun store.layout.limits) (slice_range lines 0 n) part.can;
    cans = tt;
    run = part.phase.phase;
  };
  carries = subst (λ (ls : List Line). AllCarryOn level (λ s. filter (is_by s) (run_of ls replies)) old now reads more) (ap (λ (i : ℕ). take i lines) (let e : n - 0 ≡ n = omega arith in e))
      (carries_first store level old before (slice_range lines 0 n) now reads more m k replies (recursion_from_All (CanRun store.layout.limits) (slice_range lines 0 n) part.can) part.phase);
  long = long;
  ends = part.ends;
}

module _ (store : Store) (level : Level) (lines : List Line) (old now : List Session) (reads kept : List Reads) (m k : View) (replies : List (Option ℕ × Reply)) (n : ℕ) (x : AreThrough store level lines old now reads kept m k replies n) where
  -- one phase more, from behind its end up to the place `end`
  pub through_on : (end : ℕ) (heard new : List Session) (more : List Reads) (j : View) (fresh longer : List (Option ℕ × Reply)) → AreAll store old → n < length lines → HaveHeard now heard → AreAll store heard → length more ≡ length new
      → IsPart store level lines (n + 1) end heard new kept more k j fresh → longer ≡ replies ++ fresh → AreThrough store level lines old new reads more m j longer end
  through_on end heard new more j fresh longer first inside hears among long part grows = record {
    all = part.all;
    count = part.all.count ∙ (sym x.all.count ∙ x.count);
    most = part.most;
    through = record {
      first = x.through.first;
      later = x.through.later ++ slice_range lines (n + 1) end ∷ [];
      parted = longer_front lines n end Phase inside part.up (sym (x.ends inside Phase)) refl
          ∙ (ap (λ (ls : List Line). ls ++ Phase ∷ slice_range lines (n + 1) end) x.through.parted
          ∙ sym (script_on x.through.first x.through.later (slice_range lines (n + 1) end)));
      can = x.through.can;
      cans = all_push (AllByRecursion (CanRun store.layout.limits)) x.through.later (slice_range lines (n + 1) end) x.through.cans (recursion_from_All (CanRun store.layout.limits) (slice_range lines (n + 1) end) part.can);
      run = subst (RunThrough store x.through.first (x.through.later ++ slice_range lines (n + 1) end ∷ []) old new m j) (sym grows)
          (run_through_on store x.through.first (slice_range lines (n + 1) end) x.through.later old now heard new m k j replies fresh x.through.run x.all hears among part.phase.phase);
    };
    carries = subst (λ (ls : List Line). AllCarryOn level (λ s. filter (is_by s) (run_of ls longer)) old new reads more) (sym (longer_front lines n end Phase inside part.up (sym (x.ends inside Phase)) refl))
        (subst (λ (rs : List (Option ℕ × Reply)). AllCarryOn level (λ s. filter (is_by s) (run_of (take n lines ++ Phase ∷ slice_range lines (n + 1) end) rs)) old new reads more) (sym grows)
        (carries_on store level (take n lines) (slice_range lines (n + 1) end) old now heard new reads kept more k j replies fresh first x.all
        (subst (λ (ls : List Line). HaveReplyShape ls replies) (sym x.through.parted) (shape_through store x.through.first x.through.later old now m k replies first x.all x.through.can x.through.cans x.through.run))
        x.carries hears among (recursion_from_All (CanRun store.layout.limits) (slice_range lines (n + 1) end) part.can) part.phase));
    long = long;
    ends = part.ends;
  }

  pub through_all : length lines ≤ n → HaveRunThrough store lines old now m k replies
  through_all past = subst (λ (ls : List Line). HaveRunThrough store ls old now m k replies) (take_whole lines n past) x.through

  pub ends_all : length lines ≤ n → AreUnread reads → length reads ≡ length old → EachEnds level (run_of lines replies) old now
  ends_all past none as_many s d low =
      let r : Reads = element reads s (subst (λ (c : ℕ). s < c) (sym as_many) low) in
      let kept_all = x.carries s d r low (session_told (known_by (get_or old s d))) [] (unread_keeps level s (get_or old s d) (get_or reads s r) (none s r (subst (λ (c : ℕ). s < c) (sym as_many) low))) in
      subst (λ (ls : List Line). EndAll level (session_told (known_by (get_or old s d))) s (filter (is_by s) (run_of ls replies)) (known_by (get_or now s d)).seen) (take_whole lines n past) kept_all.ends

-- ---- the end of a phase

phase_is : (line : Line) → is_phase line ≡ true → line ≡ Phase
phase_is Phase e = refl
phase_is (Merge range column) e = absurd (cc)
phase_is (Call session call) e = absurd (cc)

not_phase : (line : Line) → is_phase line ≡ false → IsWithinPhase line
not_phase Phase e = absurd (cc)
not_phase (Merge range column) e = tt
not_phase (Call session call) e = tt

pub ends_at : (lines : List Line) (n : ℕ) (line : Line) → n < length lines → line ≡ get_or lines n line → is_phase line ≡ true → EndsAt lines n
ends_at lines n line inside is e d = get_or_default lines n d line inside ∙ (sym is ∙ phase_is line e)

pub within_on : (lines : List Line) (start n : ℕ) (line : Line) → AreWithin lines start n → n < length lines → line ≡ get_or lines n line → is_phase line ≡ false → AreWithin lines start (n + 1)
within_on lines start n line before inside is e i d from low = ⊎_elim
    (λ (same : i ≡ n). subst (λ (j : ℕ). IsWithinPhase (get_or lines j d)) (sym same) (subst IsWithinPhase (is ∙ get_or_default lines n line d inside) (not_phase line e)))
    (λ (ne : ¬ (i ≡ n)). before i d from (grind (arith, ne, low))) (cases_eq i n)

-- ---- as the program has them

-- the phase from one place to the next was run
pub part_is : (store : Store) (level : Level) (lines phase : List Line) (start end : ℕ) (old new : List Session) (reads more : List Reads) (m n : View) (replies : List (Option ℕ × Reply)) → All (LineFits store.layout.limits.sessions store.layout.limits.ranges store.layout.limits.columns) lines
    → start ≤ end → end ≤ length lines → AreWithin lines start end → (end < length lines → EndsAt lines end) → phase ≡ slice_range lines start end → AreAll store new → IsPhaseAt level phase old new reads more m n replies
    → IsPart store level lines start end old new reads more m n replies
part_is store level lines phase start end old new reads more m n replies fits up most within ends is all ran = record {
  up = up;
  most = most;
  can = cut_can store.layout.limits lines start end fits most within;
  all = all;
  phase = subst (λ (ls : List Line). IsPhaseAt level ls old new reads more m n replies) is ran;
  ends = ends;
}

pub between_first : (store : Store) (level : Level) (lines : List Line) (old now : List Session) (reads more : List Reads) (before after : Merger) (replies : List (Option ℕ × Reply)) (n : ℕ) → AreAll store old → IsMergerOf store after → length more ≡ length now
    → IsPart store level lines 0 n old now reads more before.seat.view after.seat.view replies → AreBetween store level lines old now reads more before after replies n
between_first store level lines old now reads more before after replies n all ready long part = record { through = through_first store level lines old now reads more before.seat.view after.seat.view replies n all long part; ready = ready }

pub between_on : (store : Store) (level : Level) (lines : List Line) (old now heard new : List Session) (reads kept more : List Reads) (before after next : Merger) (replies fresh longer : List (Option ℕ × Reply)) (n end : ℕ) → AreAll store old
    → AreBetween store level lines old now reads kept before after replies n → n < length lines → HaveHeard now heard → AreAll store heard → IsMergerOf store next → length more ≡ length new
    → IsPart store level lines (n + 1) end heard new kept more after.seat.view next.seat.view fresh → longer ≡ replies ++ fresh → AreBetween store level lines old new reads more before next longer end
between_on store level lines old now heard new reads kept more before after next replies fresh longer n end first x inside hears among ready long part grows = record {
  through = through_on store level lines old now reads kept before.seat.view after.seat.view replies n x.through end heard new more next.seat.view fresh longer first inside hears among long part grows;
  ready = ready;
}

pub between_all : (store : Store) (level : Level) (lines : List Line) (old now : List Session) (reads kept : List Reads) (before after : Merger) (replies : List (Option ℕ × Reply)) (n : ℕ) → AreBetween store level lines old now reads kept before after replies n → length lines ≤ n
    → HaveRunThrough store lines old now before.seat.view after.seat.view replies
between_all store level lines old now reads kept before after replies n x past = through_all store level lines old now reads kept before.seat.view after.seat.view replies n x.through past

pub between_ends : (store : Store) (level : Level) (lines : List Line) (old now : List Session) (reads kept : List Reads) (before after : Merger) (replies : List (Option ℕ × Reply)) (n : ℕ) → AreBetween store level lines old now reads kept before after replies n → length lines ≤ n
    → AreUnread reads → length reads ≡ length old → EachEnds level (run_of lines replies) old now
between_ends store level lines old now reads kept before after replies n x past none as_many = ends_all store level lines old now reads kept before.seat.view after.seat.view replies n x.through past none as_many
