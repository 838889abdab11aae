-- A legal report fits: what its replies and its commits tell is bounded by the script.
use Rattle.std.proofs.Common.{◌≡◌, ℕ, ◌+◌, ◌-◌, ◌<◌, ◌≤◌, ◌^◌, Bool, true, false, ◌&&◌, ◌||◌, ◌==◌, cond, is_some, List, [], ◌∷◌, ◌++◌, length, map, get_or, Option, Some, None, refl, sym, ap, subst, ◌∙◌, arith}
use Rattle.std.specs.Prelude.{All, IfSome, IsSomeAnd, IsTrue, slice_get}
use Rattle.std.specs.List.{AllByRecursion, count_by, fold, filter_map, cons_option}
use Rattle.std.proofs.lemmas.Bool.{eqb-true, eqb-false, ne_eqb, and_parts, eq-eqb, or_right}
use Rattle.std.proofs.lemmas.List.{length-map, length-append}
use Rattle.std.proofs.lemmas.List.Elements.{All-from_recursion, recursion_from_All}
use Rattle.std.proofs.lemmas.List.Sums.{count_by-le-length}
use Rattle.std.proofs.lemmas.Map.Steps.{le-length_from_below}
use Rattle.std.proofs.lemmas.Option.{none-some, slice_get_within, slice_get-get_or}
use Rattle.std.proofs.ByRecursion.{All-weaker}
use Rattle.std.proofs.lemmas.Cmp.{nat_eq_equiv}
use Rattle.std.proofs.lemmas.Map.Views.{list_any-from_Contains}
use Rattle.lst_layout.specs.declared.limits.Limits.{Limits}
use Rattle.lst_model.specs.declared.acts.Write.{Write}
use Rattle.lst_model.specs.declared.commits.Commit.{Commit}
use Rattle.lst_model.specs.declared.lines.Line.{Line}
use Rattle.lst_model.specs.declared.lines.Line.TheVariants.{Phase, Merge, Call}
use Rattle.lst_model.specs.declared.lines.Call.{Call as CallKind}
use Rattle.lst_model.specs.declared.lines.Call.TheVariants.{Begin, AsOf, Get, Insert, Update, Delete, Sum, Count, Scan, Find, Commit as CommitCall}
use Rattle.lst_model.specs.declared.replies.Reply.{Reply}
use Rattle.lst_model.specs.declared.replies.Reply.TheVariants.{Begun, Done, Row, Absent, Committed, Ended, Aborted, Sum as SumReply, Count as CountReply, Rows as RowsReply, Keys, Refused, Merged, NothingNew, NoFrame, Silent}
use Rattle.lst_model.specs.declared.acts.Act.TheVariants.{Put, Set, Del}
use Rattle.lst_model.specs.Cells.{Cell}
use Rattle.lst_model.specs.Tables.{row_of, count_of}
use Rattle.lst_model.specs.declared.replies.Cause.{Cause}
use Rattle.lst_model.specs.declared.replies.Cause.TheVariants.{Idle, Future, Newer, Unfinished, Stale}
use Rattle.lst_replies.specs.declared.reports.Stamp.{Stamp}
use Rattle.lst_replies.specs.declared.reports.Report.{Report}
use Rattle.lst_replies.specs.declared.states.Transaction.{Transaction}
use Rattle.lst_replies.specs.declared.states.SessionState.{SessionState}
use Rattle.lst_replies.specs.Runs.{Answered, answered, run_of, write_of, key_of, key_written, is_by, is_begun, is_accepted, commit_time, commit_times}
use Rattle.lst_replies.specs.ReplyKinds.{can_answer, can_answer_merge, begins}
use Rattle.lst_replies.specs.ReportTexts.{CellFits, RowFits, EntryFits, CauseFits, CallReplyFits, MergeReplyFits, ReplyFits, StampFits, ReportFits}
use Rattle.lst_replies.specs.States.{state_of, sight_of, commit_of, floor_of}
use Rattle.lst_replies.specs.Explained.{commit_at, has_write_on, TimeIsBounded, TellsSight, state_cause, open_cause, cause_by_state, EndsBy, EndIsExact, WriteIsAnswered, HasAccepted, ConflictIsExplained, merged_after, last_merged}
use Rattle.lst_replies.specs.Legal.{IsLegal, stamp_of}
use Rattle.lst_report.proofs.Numbers.{CallHolds, LineHolds}
use Rattle.lst_report.proofs.Placed.{IsAt, each_place, in_front, run_lines, run_short, HasKind, run_kinds, IsReplied, each_reply, HasPlace, any_place}
use Rattle.lst_report.proofs.Opened.{is_among, StandsAt, WriteHolds, TransactionHolds, BeginHolds, OneIsHeld, state_holds, row_stands}
use Rattle.lst_report.proofs.Tabled.{few_rows, scan_fits, find_fits, sum_low}

-- the keys on which lines of a run ask for writes
abbrev written_keys : List Answered → List ℕ
written_keys run = filter_map (λ (one : Answered). key_written one.line) run

keys_few : (run : List Answered) → length (written_keys run) ≤ length run
keys_few [] = omega arith
keys_few (one ∷ run) = by (key_written one.line) (keys_few run)
  where
    by : (key : Option ℕ) → length (written_keys run) ≤ length run → length (cons_option key (written_keys run)) ≤ length (one ∷ run)
    by None few = omega (arith, few)
    by (Some key) few = omega (arith, few)

key_among : (before : List Answered) (one : Answered) (after : List Answered) (key : ℕ) → key_written one.line ≡ Some key → is_among (written_keys (before ++ one ∷ after)) key ≡ true
key_among [] one after key e =
    subst (λ (found : Option ℕ). is_among (cons_option found (written_keys after)) key ≡ true) (sym e) (ap (λ b. b || is_among (written_keys after) key) (eq-eqb key key refl))
key_among (first ∷ before) one after key e = by (key_written first.line) (key_among before one after key e)
  where
    by : (other : Option ℕ) → is_among (written_keys (before ++ one ∷ after)) key ≡ true → is_among (cons_option other (written_keys (before ++ one ∷ after))) key ≡ true
    by None there = there
    by (Some other) there = or_right (key == other) (is_among (written_keys (before ++ one ∷ after)) key) there

-- a place at which this commit time was answered
record IsTimePlace (run : List Answered) (time : ℕ) : Type 0 where
  before : List Answered
  one : Answered
  after : List Answered
  place : IsAt run before one after
  told : commit_time one.reply ≡ Some time

place_behind : (first : Answered) (run : List Answered) (time : ℕ) → IsTimePlace run time → IsTimePlace (first ∷ run) time
place_behind first run time later = record {
  before = first ∷ later.before;
  one = later.one;
  after = later.after;
  place = ap (λ (rest : List Answered). first ∷ rest) later.place;
  told = later.told;
}

time_place : (run : List Answered) (time : ℕ) → is_among (commit_times run) time ≡ true → IsTimePlace run time
time_place [] time is = absurd (cc)
time_place (one ∷ run) time is = by (commit_time one.reply) refl is (λ there. place_behind one run time (time_place run time there))
  where
    here : (other : ℕ) (same : Bool) → (time == other) ≡ same → commit_time one.reply ≡ Some other → (same || is_among (commit_times run) time) ≡ true → (is_among (commit_times run) time ≡ true → IsTimePlace (one ∷ run) time) → IsTimePlace (one ∷ run) time
    here other true same told there later = record { before = []; one = one; after = run; place = refl; told = told ∙ ap (λ n. Some n) (sym (eqb-true time other same)) }
    here other false same told there later = later there

    by : (found : Option ℕ) → commit_time one.reply ≡ found → is_among (cons_option found (commit_times run)) time ≡ true → (is_among (commit_times run) time ≡ true → IsTimePlace (one ∷ run) time) → IsTimePlace (one ∷ run) time
    by None told there later = later there
    by (Some other) told there later = here other (time == other) refl told there later

times_few : (run : List Answered) → length (commit_times run) ≤ length run
times_few [] = omega arith
times_few (one ∷ run) = by (commit_time one.reply) (times_few run)
  where
    by : (told : Option ℕ) → length (commit_times run) ≤ length run → length (cons_option told (commit_times run)) ≤ length (one ∷ run)
    by None few = omega (arith, few)
    by (Some time) few = omega (arith, few)

committed : (reply : Reply) (time : ℕ) → commit_time reply ≡ Some time → reply ≡ Committed time
committed (Committed other) time e = let same : other ≡ time = cc in ap (λ (n : ℕ). Committed n) same
committed reply time e = absurd (cc)

commit_within : (history : List Commit) (time : ℕ) (commit : Commit) → commit_at history time ≡ Some commit → time ≤ length history
commit_within history time commit e = by (time == 0) refl e
  where
    by : (b : Bool) → (time == 0) ≡ b → cond b None (slice_get history (time - 1)) ≡ Some commit → time ≤ length history
    by true none is = absurd (none-some commit is)
    by false some is = omega (arith, slice_get_within history (time - 1) commit is)

-- the commit at a place
commit_there : (history : List Commit) (place : ℕ) (d : Commit) → place < length history → commit_at history (place + 1) ≡ Some (get_or history place d)
commit_there history place d low =
    ap (λ (b : Bool). cond b None (slice_get history (place + 1 - 1))) (ne_eqb (place + 1) 0 (λ e. absurd (omega arith)))
    ∙ ap (slice_get history) (omega arith) ∙ slice_get-get_or history place d low

-- ---- under a history for which the report is legal

module _ (limits : Limits) (lines : List Line) (report : Report) (history : List Commit) (held : AllByRecursion (LineHolds limits) lines) (few : length lines < 2 ^ 32) (legal : IsLegal limits lines report history) where
  abbrev run : List Answered
  run = run_of lines report.replies

  abbrev keys : List ℕ
  keys = written_keys run

  abbrev columns : ℕ
  columns = limits.columns

  abbrev Kind : Answered → Type 0
  Kind one = HasKind one.line one.reply

  abbrev Held : Answered → Type 0
  Held one = LineHolds limits one.line

  kinds : AllByRecursion Kind run
  kinds = run_kinds lines report.replies legal.shape

  all_held : AllByRecursion Held run
  all_held = run_lines (LineHolds limits) lines report.replies held

  short : length run < 2 ^ 32
  short = omega (arith, few, run_short lines report.replies)

  -- ---- how long the history is

  time_there : (time : ℕ) → 0 < time → time ≤ length history → is_among (commit_times run) time ≡ true
  time_there time some low = list_any-from_Contains nat_eq_equiv time (commit_times run) (legal.matches.told time some low)

  each_time : (time : ℕ) → time < length history + 1 → is_among (0 ∷ commit_times run) time ≡ true
  each_time time low = by (time == 0) refl
    where
      by : (b : Bool) → (time == 0) ≡ b → (b || is_among (commit_times run) time) ≡ true
      by true none = refl
      by false some =
          let other : ¬ (time ≡ 0) = eqb-false time 0 some in
          time_there time (omega (arith, other)) (omega (arith, low))

  top_low : length history ≤ length run
  top_low =
      let all : length history + 1 ≤ length (0 ∷ commit_times run) = le-length_from_below (0 ∷ commit_times run) (length history + 1) each_time in
      omega (arith, all, times_few run)

  -- ---- at the place of a call

  record IsPlaced (before : List Answered) (session : ℕ) (call : CallKind) (reply : Reply) (after : List Answered) : Type 0 where
    kind : can_answer call reply ≡ true
    asks : CallHolds limits session call
    short : length before < 2 ^ 32

  abbrev IsAtCall : List Answered → ℕ → CallKind → Reply → List Answered → Type 0
  IsAtCall before session call reply after = IsAt run before (answered (Call session call) reply) after

  placed : (before : List Answered) (session : ℕ) (call : CallKind) (reply : Reply) (after : List Answered) → IsAtCall before session call reply after → IsPlaced before session call reply after
  placed before session call reply after at = record {
    kind = (in_front Kind before (answered (Call session call) reply) after run at kinds).1;
    asks = (in_front Held before (answered (Call session call) reply) after run at all_held).1;
    short = omega (arith, short, ap (λ (r : List Answered). length r) at, length-append before (answered (Call session call) reply ∷ after));
  }

  -- a begin is no later than the last commit
  begun_low : (floor : ℕ) (call : CallKind) (reply : Reply) → can_answer call reply ≡ true → TimeIsBounded history floor call reply → BeginHolds columns keys (length history) reply
  begun_low floor Begin (Begun time) can bounded = bounded.1
  begun_low floor (AsOf named) (Begun time) can bounded = bounded.1
  begun_low floor call (Begun time) can bounded = absurd (cc)
  begun_low floor call reply can bounded = tt

  abbrev OneHeld : Answered → Type 0
  OneHeld one = OneIsHeld columns keys (length history) one.line one.reply

  one_held : (before : List Answered) (line : Line) (reply : Reply) (after : List Answered) → IsAt run before (answered line reply) after → OneIsHeld columns keys (length history) line reply
  one_held before Phase reply after at = tt
  one_held before (Merge range column) reply after at = tt
  one_held before (Call session call) reply after at =
      let is = placed before session call reply after at in
      (writes is, begun_low (floor_of session before) call reply is.kind (legal.times before session call reply after at))
    where
      writes : IsPlaced before session call reply after → (write : Write) → write_of call ≡ Some write → WriteHolds columns keys write
      writes is write e =
          let fits = is.asks.write write e in
          let among = key_among before (answered (Call session call) reply) after write.key (ap (λ (w : Option Write). key_of w) e) in
          ((fits.0, subst (λ (r : List Answered). is_among (written_keys r) write.key ≡ true) (sym at) among), fits.1)

  ones_held : AllByRecursion OneHeld run
  ones_held = each_place OneHeld run (λ before one after at. one_held before one.line one.reply after at)

  abbrev Opened : ℕ → Transaction → Type 0
  Opened count transaction = TransactionHolds columns keys (length history) count transaction

  -- an open transaction at a place
  opened : (before : List Answered) (one : Answered) (after : List Answered) (session : ℕ) (transaction : Transaction) → IsAt run before one after → (state_of session before).current ≡ Some transaction → Opened (length before) transaction
  opened before one after session transaction at is =
      let state = state_holds columns keys (length history) session before (in_front OneHeld before one after run at ones_held).0 in
      subst (λ (current : Option Transaction). IfSome current (Opened (length before))) is state.current

  -- ---- the commits

  record CommitHolds (commit : Commit) : Type 0 where
    session : commit.session < 2 ^ 32
    number : commit.number < 2 ^ 32
    begin : commit.begin < 2 ^ 32
    writes : AllByRecursion (WriteHolds columns keys) commit.writes

  -- what a call that is told a commit time has entered
  entered : (before : List Answered) (session : ℕ) (call : CallKind) (time : ℕ) (after : List Answered) → IsAtCall before session call (Committed time) after
      → (transaction : Transaction) × ((state_of session before).current ≡ Some transaction) × (commit_at history time ≡ Some (commit_of session transaction))
  entered before session call time after at = by (state_of session before).current refl (legal.matches.entered before session call (Committed time) after at)
    where
      by : (current : Option Transaction) → (state_of session before).current ≡ current → IsSomeAnd current (λ transaction. commit_at history time ≡ Some (commit_of session transaction))
          → (transaction : Transaction) × ((state_of session before).current ≡ Some transaction) × (commit_at history time ≡ Some (commit_of session transaction))
      by None none is = absurd is
      by (Some transaction) same is = (transaction, same, is)

  commit_holds : (before : List Answered) (line : Line) (reply : Reply) (after : List Answered) (time : ℕ) (commit : Commit) → IsAt run before (answered line reply) after → commit_time reply ≡ Some time → commit_at history time ≡ Some commit → CommitHolds commit
  commit_holds before Phase reply after time commit at told is =
      let silent : reply ≡ Silent = (in_front Kind before (answered Phase reply) after run at kinds).1 in
      absurd (none-some time (ap (λ (r : Reply). commit_time r) (sym silent) ∙ told))
  commit_holds before (Merge range column) reply after time commit at told is = absurd (no_merge reply (in_front Kind before (answered (Merge range column) reply) after run at kinds).1 told)
    where
      no_merge : (reply : Reply) → can_answer_merge reply ≡ true → commit_time reply ≡ Some time → ⊥
      no_merge (Merged tps) can e = none-some time e
      no_merge (NothingNew tps) can e = none-some time e
      no_merge (NoFrame session) can e = none-some time e
      no_merge reply can e = absurd (cc)
  commit_holds before (Call session call) reply after time commit at told is =
      let there : IsAtCall before session call (Committed time) after = subst (λ (r : Reply). IsAtCall before session call r after) (committed reply time told) at in
      let place = placed before session call (Committed time) after there in
      let one = entered before session call time after there in
      let own = opened before (answered (Call session call) (Committed time)) after session one.0 there one.1 in
      let both : Some (commit_of session one.0) ≡ Some commit = sym one.2 ∙ is in
      let same : commit_of session one.0 ≡ commit = cc both in
      subst CommitHolds same record {
        session = place.asks.below;
        number = omega (arith, own.number, place.short);
        begin = omega (arith, own.begin, top_low, short);
        writes = own.writes;
      }

  commits_hold : AllByRecursion CommitHolds history
  commits_hold = recursion_from_All CommitHolds history each
    where
      each : (k : ℕ) (d : Commit) → k < length history → CommitHolds (get_or history k d)
      each k d low =
          let told = time_place run (k + 1) (time_there (k + 1) (omega arith) (omega (arith, low))) in
          commit_holds told.before told.one.line told.one.reply told.after (k + 1) (get_or history k d) told.place told.told (commit_there history k d low)

  abbrev OwnWrites : Commit → Type 0
  OwnWrites commit = AllByRecursion (WriteHolds columns keys) commit.writes

  history_writes : AllByRecursion OwnWrites history
  history_writes = All-weaker CommitHolds OwnWrites (λ commit holds. holds.writes) history commits_hold

  stands : (count : ℕ) (transaction : Transaction) → Opened count transaction → (key : ℕ) → IfSome (row_of (sight_of history transaction) key) (StandsAt columns keys key)
  stands count transaction own key = row_stands columns keys history transaction history_writes own.writes key

  -- ---- replies to calls

  record IsOpen (before : List Answered) (session : ℕ) : Type 0 where
    transaction : Transaction
    current : (state_of session before).current ≡ Some transaction
    holds : Opened (length before) transaction

  cause_open : (state : SessionState) (call : CallKind) → begins call ≡ false → cause_by_state limits state call ≡ open_cause (is_some (write_of call)) state.current
  cause_open state Begin plain = absurd (cc)
  cause_open state (AsOf time) plain = absurd (cc)
  cause_open state call plain = refl

  -- a call that begins nothing, and that the session's state doesn't refuse, is made in an open transaction
  open_at : (before : List Answered) (session : ℕ) (call : CallKind) (reply : Reply) (after : List Answered) → IsAtCall before session call reply after → state_cause reply ≡ None → begins call ≡ false → IsOpen before session
  open_at before session call reply after at calm plain = by (state_of session before).current refl (sym calm ∙ (legal.refusals before session call reply after at).refusal ∙ cause_open (state_of session before) call plain)
    where
      by : (current : Option Transaction) → (state_of session before).current ≡ current → None ≡ open_cause (is_some (write_of call)) (state_of session before).current → IsOpen before session
      by None none idle = absurd (none-some Idle (idle ∙ ap (open_cause (is_some (write_of call))) none))
      by (Some transaction) same idle = record { transaction = transaction; current = same; holds = opened before (answered (Call session call) reply) after session transaction at same }

  -- what a read tells of its sight
  sight_told : (before : List Answered) (session : ℕ) (call : CallKind) (reply : Reply) (after : List Answered) → IsAtCall before session call reply after → (own : IsOpen before session) → TellsSight (sight_of history own.transaction) call reply
  sight_told before session call reply after at own =
      subst (λ (current : Option Transaction). IfSome current (λ transaction. TellsSight (sight_of history transaction) call reply)) own.current (legal.reads before session call reply after at).sight

  few_keys : length keys < 2 ^ 32
  few_keys = omega (arith, keys_few run, short)

  row_fits : (before : List Answered) (session key : ℕ) (row : List Cell) (after : List Answered) → IsAtCall before session (Get key) (Row row) after → RowFits columns row
  row_fits before session key row after at =
      let own = open_at before session (Get key) (Row row) after at refl refl in
      let at_key = subst (λ (found : Option (List Cell)). IfSome found (StandsAt columns keys key)) (sight_told before session (Get key) (Row row) after at own) (stands (length before) own.transaction own.holds key) in
      record { width = at_key.1.0; cells = All-from_recursion CellFits row at_key.1.1 }

  sum_fits : (before : List Answered) (session column total : ℕ) (after : List Answered) → IsAtCall before session (Sum column) (SumReply total) after → total < 2 ^ 128
  sum_fits before session column total after at =
      let own = open_at before session (Sum column) (SumReply total) after at refl refl in
      let low = sum_low columns keys (sight_of history own.transaction) (stands (length before) own.transaction own.holds) column few_keys in
      subst (λ n. n < 2 ^ 128) (sym (sight_told before session (Sum column) (SumReply total) after at own)) low

  count_fits : (before : List Answered) (session rows : ℕ) (after : List Answered) → IsAtCall before session Count (CountReply rows) after → rows < 2 ^ 64
  count_fits before session rows after at =
      let own = open_at before session Count (CountReply rows) after at refl refl in
      let low : count_of (sight_of history own.transaction) ≤ length keys = few_rows columns keys (sight_of history own.transaction) (stands (length before) own.transaction own.holds) in
      let same : rows ≡ count_of (sight_of history own.transaction) = sight_told before session Count (CountReply rows) after at own in
      omega (arith, low, few_keys, same)

  list_fits : (before : List Answered) (session : ℕ) (list : List (ℕ × List Cell)) (after : List Answered) → IsAtCall before session Scan (RowsReply list) after → All (EntryFits columns) list
  list_fits before session list after at =
      let own = open_at before session Scan (RowsReply list) after at refl refl in
      subst (All (EntryFits columns)) (sym (sight_told before session Scan (RowsReply list) after at own))
      (scan_fits columns keys (sight_of history own.transaction) (stands (length before) own.transaction own.holds))

  keys_fit : (before : List Answered) (session column value : ℕ) (list : List ℕ) (after : List Answered) → IsAtCall before session (Find column value) (Keys list) after → All (λ key. key < 2 ^ 64) list
  keys_fit before session column value list after at =
      let own = open_at before session (Find column value) (Keys list) after at refl refl in
      subst (All (λ key. key < 2 ^ 64)) (sym (sight_told before session (Find column value) (Keys list) after at own))
      (find_fits columns keys (sight_of history own.transaction) (stands (length before) own.transaction own.holds) column value)

  -- ---- ends

  ends_low : (begin : ℕ) (writes : List Write) (time : ℕ) → EndsBy begin writes (Ended time) → time ≡ begin
  ends_low begin [] time ends = cc
  ends_low begin (write ∷ writes) time ends = absurd (apart ends.0 ends.1)
    where
      apart : (other : ℕ) → Ended time ≡ Committed other → ⊥
      apart other same = absurd cc

  never_stale : (begin : ℕ) (writes : List Write) (time : ℕ) → EndsBy begin writes (Refused (Stale time)) → ⊥
  never_stale begin [] time ends = absurd cc
  never_stale begin (write ∷ writes) time ends = apart ends.0 ends.1
    where
      apart : (other : ℕ) → Refused (Stale time) ≡ Committed other → ⊥
      apart other same = absurd cc

  end_told : (before : List Answered) (session : ℕ) (reply : Reply) (after : List Answered) → IsAtCall before session CommitCall reply after → (own : IsOpen before session) → EndsBy own.transaction.begin own.transaction.writes reply
  end_told before session reply after at own =
      subst (λ (current : Option Transaction). EndIsExact current CommitCall reply) own.current (legal.refusals before session CommitCall reply after at).end

  ended_fits : (before : List Answered) (session time : ℕ) (after : List Answered) → IsAtCall before session CommitCall (Ended time) after → time < 2 ^ 64
  ended_fits before session time after at =
      let own = open_at before session CommitCall (Ended time) after at refl refl in
      let same = ends_low own.transaction.begin own.transaction.writes time (end_told before session (Ended time) after at own) in
      omega (arith, same, own.holds.begin, top_low, short)

  committed_fits : (before : List Answered) (session : ℕ) (call : CallKind) (time : ℕ) (after : List Answered) → IsAtCall before session call (Committed time) after → time < 2 ^ 64
  committed_fits before session call time after at =
      let one = entered before session call time after at in
      omega (arith, commit_within history time (commit_of session one.0) one.2, top_low, short)

  no_stale : (before : List Answered) (session time : ℕ) (after : List Answered) → IsAtCall before session CommitCall (Refused (Stale time)) after → ⊥
  no_stale before session time after at =
      let own = open_at before session CommitCall (Refused (Stale time)) after at refl refl in
      never_stale own.transaction.begin own.transaction.writes time (end_told before session (Refused (Stale time)) after at own)

  -- ---- conflicts

  module _ (before : List Answered) (session : ℕ) (call : CallKind) (after : List Answered) (write : Write) (asks : write_of call ≡ Some write) (plain : begins call ≡ false) where
    newer_fits : (time : ℕ) → IsAtCall before session call (Refused (Newer time)) after → time < 2 ^ 64
    newer_fits time at = by (commit_at history time) refl there.1
      where
        own : IsOpen before session
        own = open_at before session call (Refused (Newer time)) after at refl plain

        there : WriteIsAnswered history own.transaction write (Refused (Newer time))
        there =
            let one = subst (λ (current : Option Transaction). IfSome current (λ transaction. IfSome (write_of call) (λ w. WriteIsAnswered history transaction w (Refused (Newer time))))) own.current (legal.writes before session call (Refused (Newer time)) after at) in
            subst (λ (asked : Option Write). IfSome asked (λ w. WriteIsAnswered history own.transaction w (Refused (Newer time)))) asks one

        by : (found : Option Commit) → commit_at history time ≡ found → IsSomeAnd found (λ commit. IsTrue (has_write_on write.key commit)) → time < 2 ^ 64
        by None none is = absurd is
        by (Some commit) same is = omega (arith, commit_within history time commit same, top_low, short)

    unfinished_fits : (other number : ℕ) → IsAtCall before session call (Refused (Unfinished other number)) after → (other < 2 ^ 32) × (number < 2 ^ 32)
    unfinished_fits other number at = ((placed way.before other way.call Done way.after way.place).asks.below, by (state_of other way.before).current refl way.transaction)
      where
        own : IsOpen before session
        own = open_at before session call (Refused (Unfinished other number)) after at refl plain

        way : HasAccepted run other number write.key
        way =
            let one = subst (λ (current : Option Transaction). IfSome current (λ transaction. IfSome (write_of call) (λ w. ConflictIsExplained history run session transaction w (Refused (Unfinished other number))))) own.current (legal.conflicts before session call (Refused (Unfinished other number)) after at) in
            let two = subst (λ (asked : Option Write). IfSome asked (λ w. ConflictIsExplained history run session own.transaction w (Refused (Unfinished other number)))) asks one in
            two.accepted

        by : (current : Option Transaction) → (state_of other way.before).current ≡ current → IsSomeAnd current (λ transaction. transaction.number ≡ number) → number < 2 ^ 32
        by None none is = absurd is
        by (Some transaction) same is =
            let own = opened way.before (answered (Call other way.call) Done) way.after other transaction way.place same in
            omega (arith, is, own.number, (placed way.before other way.call Done way.after way.place).short)

  -- ---- every reply to a call

  cause_fits : (before : List Answered) (session : ℕ) (call : CallKind) (cause : Cause) (after : List Answered) → can_answer call (Refused cause) ≡ true → IsAtCall before session call (Refused cause) after → CauseFits cause
  cause_fits before session (AsOf named) (Future clock) after can at =
      let low : clock ≤ length history = (legal.times before session (AsOf named) (Refused (Future clock)) after at).1 in
      omega (arith, low, top_low, short)
  cause_fits before session call (Future clock) after can at = absurd (cc)
  cause_fits before session (Insert key row) (Newer time) after can at = newer_fits before session (Insert key row) after (record { key = key; act = Put row }) refl refl time at
  cause_fits before session (Update key patch) (Newer time) after can at = newer_fits before session (Update key patch) after (record { key = key; act = Set patch }) refl refl time at
  cause_fits before session (Delete key) (Newer time) after can at = newer_fits before session (Delete key) after (record { key = key; act = Del }) refl refl time at
  cause_fits before session call (Newer time) after can at = absurd (cc)
  cause_fits before session (Insert key row) (Unfinished other number) after can at = unfinished_fits before session (Insert key row) after (record { key = key; act = Put row }) refl refl other number at
  cause_fits before session (Update key patch) (Unfinished other number) after can at = unfinished_fits before session (Update key patch) after (record { key = key; act = Set patch }) refl refl other number at
  cause_fits before session (Delete key) (Unfinished other number) after can at = unfinished_fits before session (Delete key) after (record { key = key; act = Del }) refl refl other number at
  cause_fits before session call (Unfinished other number) after can at = absurd (cc)
  cause_fits before session CommitCall (Stale time) after can at = absurd (no_stale before session time after at)
  cause_fits before session call (Stale time) after can at = absurd (cc)
  cause_fits before session call cause after can at = tt

  call_fits : (before : List Answered) (session : ℕ) (call : CallKind) (reply : Reply) (after : List Answered) → can_answer call reply ≡ true → IsAtCall before session call reply after → CallReplyFits columns reply
  call_fits before session call (Begun time) after can at =
      let low : time ≤ length history = (one_held before (Call session call) (Begun time) after at).1 in
      omega (arith, low, top_low, short)
  call_fits before session (Get key) (Row row) after can at = row_fits before session key row after at
  call_fits before session call (Row row) after can at = absurd (cc)
  call_fits before session call (Committed time) after can at = committed_fits before session call time after at
  call_fits before session CommitCall (Ended time) after can at = ended_fits before session time after at
  call_fits before session call (Ended time) after can at = absurd (cc)
  call_fits before session (Sum column) (SumReply total) after can at = sum_fits before session column total after at
  call_fits before session call (SumReply total) after can at = absurd (cc)
  call_fits before session Count (CountReply rows) after can at = count_fits before session rows after at
  call_fits before session call (CountReply rows) after can at = absurd (cc)
  call_fits before session Scan (RowsReply list) after can at = list_fits before session list after at
  call_fits before session call (RowsReply list) after can at = absurd (cc)
  call_fits before session (Find column value) (Keys list) after can at = keys_fit before session column value list after at
  call_fits before session call (Keys list) after can at = absurd (cc)
  call_fits before session call (Refused cause) after can at = cause_fits before session call cause after can at
  call_fits before session call Done after can at = tt
  call_fits before session call Absent after can at = tt
  call_fits before session call Aborted after can at = tt
  call_fits before session call reply after can at = absurd (cc)

  -- ---- replies to merges

  merged_low : (before : List Answered) (range column tps : ℕ) (after : List Answered) → IsAt run before (answered (Merge range column) (Merged tps)) after → tps ≤ length run
  merged_low before range column tps after at =
      let low : tps ≤ count_by is_accepted run = (legal.merges before range column (Merged tps) after at).1 in
      omega (arith, low, count_by-le-length is_accepted run)

  abbrev MergedLow : Line → Reply → Type 0
  MergedLow (Merge range column) (Merged tps) = tps ≤ length run
  MergedLow line reply = Unit {0}

  one_merged : (before : List Answered) (line : Line) (reply : Reply) (after : List Answered) → IsAt run before (answered line reply) after → MergedLow line reply
  one_merged before (Merge range column) (Merged tps) after at = merged_low before range column tps after at
  one_merged before (Merge range column) reply after at = tt
  one_merged before line reply after at = tt

  merged_step : (range column last : ℕ) (line : Line) (reply : Reply) → last ≤ length run → MergedLow line reply → merged_after range column last (answered line reply) ≤ length run
  merged_step range column last (Merge other place) (Merged tps) low one = by (other == range && place == column)
    where
      by : (b : Bool) → cond b tps last ≤ length run
      by true = one
      by false = low
  merged_step range column last (Merge other place) reply low one = low
  merged_step range column last line reply low one = low

  last_low : (range column last : ℕ) (before : List Answered) → last ≤ length run → AllByRecursion (λ one. MergedLow one.line one.reply) before → fold (merged_after range column) last before ≤ length run
  last_low range column last [] low all = low
  last_low range column last (one ∷ before) low all = last_low range column (merged_after range column last one) before (merged_step range column last one.line one.reply low all.0) all.1

  nothing_new_low : (before : List Answered) (range column tps : ℕ) (after : List Answered) → IsAt run before (answered (Merge range column) (NothingNew tps)) after → tps ≤ length run
  nothing_new_low before range column tps after at =
      let all = each_place (λ one. MergedLow one.line one.reply) run (λ front one rest there. one_merged front one.line one.reply rest there) in
      let low : last_merged range column before ≤ length run = last_low range column 0 before (omega arith) (in_front (λ one. MergedLow one.line one.reply) before (answered (Merge range column) (NothingNew tps)) after run at all).0 in
      let same : tps ≡ last_merged range column before = legal.merges before range column (NothingNew tps) after at in
      omega (arith, low, same)

  holder_low : (before : List Answered) (range column session : ℕ) (after : List Answered) → IsAt run before (answered (Merge range column) (NoFrame session)) after → session < 2 ^ 32
  holder_low before range column session after at = by place.one.line place.one.reply (and_parts (is_by session place.one) (is_begun place.one.reply) place.passes).0 place.at
    where
      place : HasPlace (λ one. is_by session one && is_begun one.reply) run
      place = any_place (λ one. is_by session one && is_begun one.reply) run (legal.merges before range column (NoFrame session) after at).1

      by : (line : Line) (reply : Reply) → is_by session (answered line reply) ≡ true → IsAt run place.before (answered line reply) place.after → session < 2 ^ 32
      by Phase reply is there = absurd (cc)
      by (Merge other place) reply is there = absurd (cc)
      by (Call other call) reply is there =
          let same : other ≡ session = eqb-true other session is in
          subst (λ s. s < 2 ^ 32) same (placed place.before other call reply place.after there).asks.below

  merge_fits : (before : List Answered) (range column : ℕ) (reply : Reply) (after : List Answered) → can_answer_merge reply ≡ true → IsAt run before (answered (Merge range column) reply) after → MergeReplyFits reply
  merge_fits before range column (Merged tps) after can at = omega (arith, merged_low before range column tps after at, short)
  merge_fits before range column (NothingNew tps) after can at = omega (arith, nothing_new_low before range column tps after at, short)
  merge_fits before range column (NoFrame session) after can at = holder_low before range column session after at
  merge_fits before range column reply after can at = absurd (cc)

  -- ---- the report

  abbrev Replied : Answered → Type 0
  Replied one = IsReplied (ReplyFits columns) one.line one.reply

  one_fits : (before : List Answered) (line : Line) (reply : Reply) (after : List Answered) → IsAt run before (answered line reply) after → IsReplied (ReplyFits columns) line reply
  one_fits before Phase reply after at = tt
  one_fits before (Merge range column) reply after at = merge_fits before range column reply after (in_front Kind before (answered (Merge range column) reply) after run at kinds).1 at
  one_fits before (Call session call) reply after at =
      let place = placed before session call reply after at in
      (place.asks.below, call_fits before session call reply after place.kind at)

  stamps_fit : (commits : List Commit) → AllByRecursion CommitHolds commits → AllByRecursion StampFits (map stamp_of commits)
  stamps_fit [] hold = tt
  stamps_fit (commit ∷ commits) hold = (record { session = hold.0.session; number = hold.0.number; begin = omega (arith, hold.0.begin) }, stamps_fit commits hold.1)

  pub report_fits : ReportFits limits.columns report
  report_fits = record {
    replies = All-from_recursion (ReplyFits columns) report.replies
        (each_reply (ReplyFits columns) lines report.replies legal.shape (each_place Replied run (λ before one after at. one_fits before one.line one.reply after at)));
    history = subst (All StampFits) legal.matches.named (All-from_recursion StampFits (map stamp_of history) (stamps_fit history commits_hold));
    few = omega (arith, top_low, short, length-map history stamp_of, ap (λ (stamps : List Stamp). length stamps) legal.matches.named);
  }
