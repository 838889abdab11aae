-- Why a report is legal at the serializable level where each commit's reads are in place.
use Rattle.std.proofs.Common.{◌≡◌, ⊎_elim, ◌⊎◌, inl, ℕ, ◌-◌, ◌<◌, ◌≤◌, List, [], ◌∷◌, ◌++◌, Bool, true, false, ◌||◌, cond, eqb, length, Option, Some, None, IfSome, refl, sym, subst, ap, ◌∙◌}
use Rattle.std.specs.Prelude.{IsSomeAnd, IsTrue}
use Rattle.std.specs.List.{AllByRecursion, list_any, filter}
use Rattle.std.proofs.lemmas.Bool.{eq-eqb, eqb-true, and_parts}
use Rattle.std.proofs.lemmas.Option.{same_Some}
use Rattle.std.proofs.lemmas.List.Folds.{list_any-append}
use Rattle.lst_layout.specs.declared.limits.Limits.{Limits}
use Rattle.lst_model.specs.declared.acts.Write.{Write}
use Rattle.lst_model.specs.declared.commits.Commit.{Commit}
use Rattle.lst_model.specs.declared.lines.Line.{Line}
use Rattle.lst_model.specs.declared.lines.Line.TheVariants.{Phase, Merge, Call}
use Rattle.lst_model.specs.declared.lines.Call.{Call as CallKind}
use Rattle.lst_model.specs.declared.lines.Call.TheVariants.{Begin, AsOf, Get, Insert, Update, Delete, Sum, Count, Scan, Find, Commit as CommitCall, Abort}
use Rattle.lst_model.specs.declared.replies.Reply.{Reply}
use Rattle.lst_model.specs.declared.replies.Reply.TheVariants.{Committed, Refused, Sum as SumReply, Count as CountReply, Rows as RowsReply, Keys}
use Rattle.lst_model.specs.declared.replies.Cause.TheVariants.{Exists, Missing}
use Rattle.lst_model.specs.Tables.{Rows, row_of}
use Rattle.lst_model.specs.Histories.{snapshot}
use Rattle.lst_replies.specs.declared.reports.Report.{Report}
use Rattle.lst_replies.specs.declared.states.Transaction.{Transaction}
use Rattle.lst_replies.specs.declared.states.SessionState.{SessionState}
use Rattle.lst_replies.specs.Runs.{Answered, answered, AtEachCall, run_of, names, write_of, is_by}
use Rattle.lst_replies.specs.States.{after_line, after_call, state_from, state_of, unbegun, sight_of, commit_of}
use Rattle.lst_replies.specs.Explained.{commit_at, is_numbered, TellsSight, WriteIsAnswered}
use Rattle.lst_replies.specs.Levels.{StateIsToldAtAnyLevel}
use Rattle.lst_replies.specs.Legal.{FollowsRules}
use Rattle.lst_replies.proofs.Shapes.{KindOf, kinds_of}
use Rattle.lst_serial_laws.specs.Places.{IsInPlace}
use Rattle.lst_serial_laws.specs.Answers.{TellsKey, IsAnsweredBy, IsCovered}
use Rattle.lst_serial_laws.specs.Legal.{IsCommitOf, IsAtSerialPlace, lines_since_begin, key_named, reads_table}
use Rattle.lst_serial_laws.specs.Ends.{is_key_named, is_table_read, CommitIsPlaced, EndsInPlace, EndsAreLegal}
use Rattle.lst_serial_laws.proofs.Staying.{answers_stay}
use Rattle.lst_serial_laws.proofs.Numbers.{split_middle, place_of, in_range, state_on, numbered_from, StaysOpen, stays_open, since_line}

-- ---- one line

-- nothing is asked of a commit time
commits_tell : (sight : Rows) (call : CallKind) (time : ℕ) → IsAnsweredBy sight call (Committed time)
commits_tell sight Begin time = (tt, tt)
commits_tell sight (AsOf at) time = (tt, tt)
commits_tell sight (Get key) time = (tt, tt)
commits_tell sight (Insert key row) time = (tt, tt)
commits_tell sight (Update key patch) time = (tt, tt)
commits_tell sight (Delete key) time = (tt, tt)
commits_tell sight (Sum column) time = (tt, tt)
commits_tell sight Count time = (tt, tt)
commits_tell sight Scan time = (tt, tt)
commits_tell sight (Find column value) time = (tt, tt)
commits_tell sight CommitCall time = (tt, tt)
commits_tell sight Abort time = (tt, tt)

key_tells : (history : List Commit) (t : Transaction) (write : Write) (reply : Reply) → WriteIsAnswered history t write reply → TellsKey (row_of (sight_of history t) write.key) reply
key_tells history t write (Refused Exists) told = told
key_tells history t write (Refused Missing) told = told
key_tells history t write (Refused cause) told = tt
key_tells history t write reply told = tt

keys_tell : (history : List Commit) (t : Transaction) (write : Option Write) (reply : Reply) → IfSome write (λ w. WriteIsAnswered history t w reply) → IfSome write (λ w. TellsKey (row_of (sight_of history t) w.key) reply)
keys_tell history t None reply told = tt
keys_tell history t (Some write) reply told = key_tells history t write reply told

-- one of these lines passes the test where one in the middle of them does
any_middle : (p : Answered → Bool) (front : List Answered) (one : Answered) (rest : List Answered) → p one ≡ true → list_any p (front ++ one ∷ rest) ≡ true
any_middle p front one rest passes = list_any-append p front (one ∷ rest) ∙ last (list_any p front) (p one) (list_any p rest) passes
  where
    last : (a b c : Bool) → b ≡ true → (a || (b || c)) ≡ true
    last true b c e = refl
    last false true c e = refl
    last false false c e = absurd (cc)

-- what a line reads is covered where it is one of the lines
module _ (s : ℕ) (front rest : List Answered) where
  key_covered : (call : CallKind) (reply : Reply) (key : ℕ) → names key (key_named (Call s call)) ≡ true → is_key_named (front ++ answered (Call s call) reply ∷ rest) key ≡ true
  key_covered call reply key named = any_middle (λ one. names key (key_named one.line)) front (answered (Call s call) reply) rest named

  table_covered : (call : CallKind) (reply : Reply) → reads_table reply ≡ true → is_table_read (front ++ answered (Call s call) reply ∷ rest) ≡ true
  table_covered call reply read = any_middle (λ one. reads_table one.reply) front (answered (Call s call) reply) rest read

  covered : (call : CallKind) (reply : Reply) → IsCovered (is_key_named (front ++ answered (Call s call) reply ∷ rest)) (is_table_read (front ++ answered (Call s call) reply ∷ rest)) call reply
  covered Begin reply = tt
  covered (AsOf at) reply = tt
  covered (Get key) reply = inl (key_covered (Get key) reply key (eq-eqb key key refl))
  covered (Insert key row) reply = inl (key_covered (Insert key row) reply key (eq-eqb key key refl))
  covered (Update key patch) reply = inl (key_covered (Update key patch) reply key (eq-eqb key key refl))
  covered (Delete key) reply = inl (key_covered (Delete key) reply key (eq-eqb key key refl))
  covered (Sum column) (SumReply total) = table_covered (Sum column) (SumReply total) refl
  covered (Sum column) reply = tt
  covered Count (CountReply rows) = table_covered Count (CountReply rows) refl
  covered Count reply = tt
  covered Scan (RowsReply list) = table_covered Scan (RowsReply list) refl
  covered Scan reply = tt
  covered (Find column value) (Keys list) = table_covered (Find column value) (Keys list) refl
  covered (Find column value) reply = tt
  covered CommitCall reply = tt
  covered Abort reply = tt

-- ---- the line of a commit

-- only a call is answered with a commit time
call_of_line : (line : Line) (time : ℕ) → KindOf line (Committed time) → (s : ℕ) × (call : CallKind) × (line ≡ Call s call)
call_of_line Phase time kind = absurd (cc)
call_of_line (Merge range column) time kind = absurd (cc)
call_of_line (Call s call) time kind = (s, call, refl)

kind_here : (before : List Answered) (one : Answered) (after : List Answered) → AllByRecursion (λ (one : Answered). KindOf one.line one.reply) (before ++ one ∷ after) → KindOf one.line one.reply
kind_here [] one after all = all.0
kind_here (b ∷ before) one after all = kind_here before one after all.1

-- the commit at a time, which is this session's and has this number
record IsEntry (history : List Commit) (s number time : ℕ) : Type 0 where
  commit : Commit
  at : commit_at history time ≡ Some commit
  session : commit.session ≡ s
  number_is : commit.number ≡ number
  some : 0 < time
  few : time ≤ length history

entry_of : (history : List Commit) (s number time : ℕ) → IsCommitOf history s number time → IsEntry history s number time
entry_of history s number time is = by_commit (commit_at history time) refl is
  where
    by_commit : (o : Option Commit) → commit_at history time ≡ o → IsSomeAnd o (λ commit. IsTrue (is_numbered s number commit)) → IsEntry history s number time
    by_commit None e is = absurd is
    by_commit (Some c) e is =
        let both = and_parts (eqb c.session s) (eqb c.number number) is in let within = in_range history time c e in
        record {
          commit = c;
          at = e;
          session = eqb-true c.session s both.0;
          number_is = eqb-true c.number number both.1;
          some = within.0;
          few = within.1;
        }

-- ---- a report

module _ (limits : Limits) (lines : List Line) (report : Report) (history : List Commit) (rules : FollowsRules StateIsToldAtAnyLevel limits lines report history)
    (ends : AtEachCall (λ before session call reply. EndsInPlace history before session (state_of session before).current reply) (run_of lines report.replies)) where
  abbrev run : List Answered
  run = run_of lines report.replies

  -- the line that is told the commit at a time: the session's, with its transaction of this number
  record IsTold (s number time : ℕ) : Type 0 where
    before : List Answered
    call : CallKind
    after : List Answered
    place : run ≡ before ++ answered (Call s call) (Committed time) ∷ after
    transaction : Transaction
    opened : (state_of s before).current ≡ Some transaction
    numbered : transaction.number ≡ number

  told_by : (s number time : ℕ) (entry : IsEntry history s number time) (t : ℕ) (call : CallKind) (before after : List Answered) → run ≡ before ++ answered (Call t call) (Committed time) ∷ after
      → (current : Option Transaction) → (state_of t before).current ≡ current → IsSomeAnd current (λ transaction. commit_at history time ≡ Some (commit_of t transaction)) → IsTold s number time
  told_by s number time entry t call before after place None opened at = absurd at
  told_by s number time entry t call before after place (Some x) opened at =
      let same : entry.commit ≡ commit_of t x = same_Some entry.commit (commit_of t x) (sym entry.at ∙ at) in
      let is : t ≡ s = sym (ap (λ (c : Commit). c.session) same) ∙ entry.session in
      record {
        before = before;
        call = call;
        after = after;
        place = subst (λ (k : ℕ). run ≡ before ++ answered (Call k call) (Committed time) ∷ after) is place;
        transaction = x;
        opened = subst (λ (k : ℕ). (state_of k before).current ≡ Some x) is opened;
        numbered = sym (ap (λ (c : Commit). c.number) same) ∙ entry.number_is;
      }

  told_of : (s number time : ℕ) → IsEntry history s number time → IsTold s number time
  told_of s number time entry =
      let has = rules.matches.told time entry.some entry.few in
      let p = place_of run time has.0 has.1 has.2 in
      let l = call_of_line p.line time (kind_here p.before (answered p.line (Committed time)) p.after (subst (AllByRecursion (λ (one : Answered). KindOf one.line one.reply)) p.place (kinds_of lines report.replies rules.shape))) in
      let place : run ≡ p.before ++ answered (Call l.0 l.1) (Committed time) ∷ p.after = p.place ∙ ap (λ (line : Line). p.before ++ answered line (Committed time) ∷ p.after) l.2 in
      told_by s number time entry l.0 l.1 p.before p.after place (state_of l.0 p.before).current refl (rules.matches.entered p.before l.0 l.1 (Committed time) p.after place)

  -- ---- a line of a transaction, and the line of its commit

  module _ (before : List Answered) (s : ℕ) (call : CallKind) (reply : Reply) (after : List Answered) (place : run ≡ before ++ answered (Call s call) reply ∷ after)
      (x : Transaction) (opened : (state_of s before).current ≡ Some x) (time : ℕ) (told : IsTold s x.number time) where
    abbrev one : Answered
    one = answered (Call s call) reply

    abbrev last : Answered
    last = answered (Call s told.call) (Committed time)

    own : (c : CallKind) (r : Reply) → is_by s (answered (Call s c) r) ≡ true
    own c r = eq-eqb s s refl

    numbered_at : (front : List Answered) (t : Transaction) → (state_of s front).current ≡ Some t → t.number ≡ (state_of s front).begun
    numbered_at front t is = subst (λ (c : Option Transaction). IfSome c (λ transaction. transaction.number ≡ (state_of s front).begun)) is (numbered_from s front unbegun tt)

    -- it doesn't stand behind the commit, which closed the transaction
    not_behind : (rest : List Answered) → before ≡ told.before ++ last ∷ rest → ⊥
    not_behind rest e = (stays_open s rest closed x tt still same).opened
      where
        closed : SessionState
        closed = record { begun = (state_of s told.before).begun; current = None }

        closes : after_line s last (state_of s told.before) ≡ closed
        closes = ap (λ (b : Bool). cond b (after_call told.call (Committed time) (state_of s told.before)) (state_of s told.before)) (own told.call (Committed time))

        still : (state_from closed s rest).current ≡ Some x
        still = ap (λ (st : SessionState). (state_from st s rest).current) (sym closes) ∙ (ap (λ (st : SessionState). st.current) (sym (state_on unbegun s told.before (last ∷ rest))) ∙ (ap (λ (front : List Answered). (state_of s front).current) (sym e) ∙ opened))

        same : x.number ≡ (state_of s told.before).begun
        same = sym told.numbered ∙ numbered_at told.before told.transaction told.opened

    -- before the commit it is one of the lines since the begin
    ahead : (middle : List Answered) → told.before ≡ before ++ one ∷ middle → IsAnsweredBy (snapshot history (time - 1) x.writes) call reply
    ahead middle e =
        let reads = is_key_named (lines_since_begin s told.before) in let all = is_table_read (lines_since_begin s told.before) in
        answers_stay reads all history told.transaction.begin time x.writes call reply placed (subst (λ (lines : List Answered). IsCovered (is_key_named lines) (is_table_read lines) call reply) (sym since) (covered s (lines_since_begin s before) (filter (is_by s) middle) call reply)) answers
      where
        still : (state_from (state_of s before) s (one ∷ middle)).current ≡ Some told.transaction
        still = ap (λ (st : SessionState). st.current) (sym (state_on unbegun s before (one ∷ middle))) ∙ (ap (λ (front : List Answered). (state_of s front).current) (sym e) ∙ told.opened)

        stays : StaysOpen s (one ∷ middle) (state_of s before) told.transaction.begin
        stays = stays_open s (one ∷ middle) (state_of s before) told.transaction (numbered_from s before unbegun tt) still (told.numbered ∙ numbered_at before x opened)

        same : x.begin ≡ told.transaction.begin
        same = subst (λ (c : Option Transaction). IsSomeAnd c (λ transaction. transaction.begin ≡ told.transaction.begin)) opened stays.opened

        since : lines_since_begin s told.before ≡ lines_since_begin s before ++ one ∷ filter (is_by s) middle
        since = ap (lines_since_begin s) e ∙ since_line s before one middle (own call reply) stays.none

        placed : IsInPlace (is_key_named (lines_since_begin s told.before)) (is_table_read (lines_since_begin s told.before)) history told.transaction.begin time
        placed = subst (λ (c : Option Transaction). CommitIsPlaced history told.before s c (Committed time)) told.opened (ends told.before s told.call (Committed time) told.after told.place).placed

        answers : IsAnsweredBy (snapshot history told.transaction.begin x.writes) call reply
        answers = subst (λ (begin : ℕ). IsAnsweredBy (snapshot history begin x.writes) call reply) same (
          subst (λ (c : Option Transaction). IfSome c (λ transaction. TellsSight (sight_of history transaction) call reply)) opened (rules.reads before s call reply after place).sight,
          keys_tell history x (write_of call) reply (subst (λ (c : Option Transaction). IfSome c (λ transaction. IfSome (write_of call) (λ write. WriteIsAnswered history transaction write reply))) opened (rules.writes before s call reply after place)),
        )

    at_place : IsAnsweredBy (snapshot history (time - 1) x.writes) call reply
    at_place = ⊎_elim
        (λ (behind : (rest : List Answered) × (before ≡ told.before ++ last ∷ rest)). absurd (not_behind behind.0 behind.1))
        (λ (other : (one ≡ last) ⊎ ((middle : List Answered) × (told.before ≡ before ++ one ∷ middle) × (after ≡ middle ++ last ∷ told.after))). ⊎_elim
        (λ (same : one ≡ last). subst (λ (r : Reply). IsAnsweredBy (snapshot history (time - 1) x.writes) call r) (sym (ap (λ (o : Answered). o.reply) same)) (commits_tell (snapshot history (time - 1) x.writes) call time))
        (λ (more : (middle : List Answered) × (told.before ≡ before ++ one ∷ middle) × (after ≡ middle ++ last ∷ told.after)). ahead more.0 more.1)
        other)
        (split_middle before one after told.before last told.after (sym place ∙ told.place))

  places : AtEachCall (λ before session call reply. IsAtSerialPlace history session (state_of session before).current call reply) run
  places before s call reply after place = by_current (state_of s before).current refl
    where
      by_current : (current : Option Transaction) → (state_of s before).current ≡ current → IsAtSerialPlace history s current call reply
      by_current None opened = tt
      by_current (Some x) opened = λ time is. at_place before s call reply after place x opened time (told_of s x.number time (entry_of history s x.number time is))

pub ends_are_legal : EndsAreLegal
ends_are_legal limits lines report history rules ends = record {
  rules = rules;
  places = places limits lines report history rules ends;
  stales = λ before session call reply after place. (ends before session call reply after place).stale;
}
