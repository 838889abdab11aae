-- No commit time is told twice.
use Rattle.std.proofs.Common.{◌≡◌, ◌≢◌, ℕ, ◌+◌, ◌<◌, ◌≤◌, List, [], ◌∷◌, ◌++◌, Bool, true, false, ◌||◌, ◌&&◌, is_some, eqb, cond, length, Option, Some, None, IfSome, refl, sym, subst, ap, ◌∙◌, arith, append_assoc, append-nil, length-append}
use Rattle.std.specs.Prelude.{IsSomeAnd}
use Rattle.std.specs.List.{AllPairs, AllByRecursion, Contains, cons_option, count_by, filter, list_any}
use Rattle.std.proofs.lemmas.List.Elements.{All-from_recursion}
use Rattle.std.proofs.lemmas.Bool.{eq-eqb, eqb-true, eqb-false}
use Rattle.std.proofs.lemmas.List.Sums.{sum_by-cons}
use Rattle.std.proofs.lemmas.Map.Views.{Contains-from_any}
use Rattle.lst_probe.proofs.Counting.{distinct_are_few}
use Rattle.std.proofs.lemmas.List.Kept.{AllPairs-cons}
use Rattle.lst_model.specs.declared.commits.Commit.{Commit}
use Rattle.lst_model.specs.declared.lines.Line.{Line}
use Rattle.lst_model.specs.declared.lines.Line.TheVariants.{Phase, Merge, Call}
use Rattle.lst_model.specs.declared.lines.Call.{Call as CallKind}
use Rattle.lst_model.specs.declared.replies.Reply.{Reply}
use Rattle.lst_model.specs.declared.replies.Reply.TheVariants.{Begun, Done, Committed, Ended, Aborted, Merged, NothingNew, NoFrame}
use Rattle.lst_replies.specs.declared.states.Transaction.{Transaction}
use Rattle.lst_replies.specs.declared.states.SessionState.{SessionState}
use Rattle.lst_replies.specs.Runs.{Answered, answered, run_of, is_by, write_of, commit_time, commit_times, names, speaker_of}
use Rattle.lst_replies.specs.States.{after_call, after_line, state_from, state_of, unbegun, commit_of}
use Rattle.lst_replies.specs.Explained.{commit_at}
use Rattle.lst_replies.specs.ReplyKinds.{can_answer_merge, HaveReplyShape}
use Rattle.lst_replies.specs.Legal.{IsEntered}
use Rattle.lst_work_laws.specs.Laws.{commit_told, commits_told}
use Rattle.lst_serial_laws.proofs.Numbers.{state_on, line_keeps, written, in_range}

-- ---- only calls commit

abbrev IsOfCall : Line → Reply → Type 0
IsOfCall (Call session call) reply = Unit {0}
IsOfCall line reply = commit_time reply ≡ None

merge_none : (reply : Reply) → can_answer_merge reply ≡ true → commit_time reply ≡ None
merge_none (Merged tps) e = refl
merge_none (NothingNew tps) e = refl
merge_none (NoFrame session) e = refl
merge_none reply e = absurd (cc)

pub calls_commit : (lines : List Line) (replies : List (Option ℕ × Reply)) → HaveReplyShape lines replies → AllByRecursion (λ (one : Answered). IsOfCall one.line one.reply) (run_of lines replies)
calls_commit [] replies x = tt
calls_commit (Phase ∷ lines) replies x = (refl, calls_commit lines replies x)
calls_commit (Merge range column ∷ lines) [] x = absurd x
calls_commit (Merge range column ∷ lines) (reply ∷ replies) x = (merge_none reply.1 x.0.kind, calls_commit lines replies x.1)
calls_commit (Call session call ∷ lines) [] x = absurd x
calls_commit (Call session call ∷ lines) (reply ∷ replies) x = (tt, calls_commit lines replies x.1)

-- ---- numbers rise

-- the open transaction, if any, has a number above this one; so will each later one
pub record IsAbove (n : ℕ) (state : SessionState) : Type 0 where
  pub begun : n ≤ state.begun
  pub current : IfSome state.current (λ transaction. n < transaction.number)

-- the open transaction has been begun
abbrev IsBegun : SessionState → Type 0
IsBegun state = IfSome state.current (λ transaction. transaction.number ≤ state.begun)

above_call : (n : ℕ) (call : CallKind) (reply : Reply) (state : SessionState) → IsAbove n state → IsAbove n (after_call call reply state)
above_call n call (Begun time) state h = let low = h.begun in record { begun = omega arith; current = omega arith }
above_call n call Done state h = record { begun = h.begun; current = written (λ k. n < k) (write_of call) state.current h.current }
above_call n call (Committed time) state h = record { begun = h.begun; current = tt }
above_call n call (Ended time) state h = record { begun = h.begun; current = tt }
above_call n call Aborted state h = record { begun = h.begun; current = tt }
above_call n call reply state h = h

begun_call : (call : CallKind) (reply : Reply) (state : SessionState) → IsBegun state → IsBegun (after_call call reply state)
begun_call call (Begun time) state h = omega arith
begun_call call Done state h = written (λ k. k ≤ state.begun) (write_of call) state.current h
begun_call call (Committed time) state h = tt
begun_call call (Ended time) state h = tt
begun_call call Aborted state h = tt
begun_call call reply state h = h

all_begun : (s : ℕ) (front : List Answered) (state : SessionState) → IsBegun state → IsBegun (state_from state s front)
all_begun s [] state h = h
all_begun s (one ∷ front) state h = all_begun s front (after_line s one state) (line_keeps IsBegun begun_call s one state h)

-- a commit closes the transaction of its session
closing : (n s : ℕ) (call : CallKind) (time : ℕ) (state : SessionState) → n ≤ state.begun → IsAbove n (after_line s (answered (Call s call) (Committed time)) state)
closing n s call time state low = subst (λ (b : Bool). IsAbove n (cond b (after_call call (Committed time) state) state)) (sym (eq-eqb s s refl)) record { begun = low; current = tt }

-- ---- along a run

module _ (history : List Commit) where
  -- the commit times of a run behind this front are entered
  abbrev pub EnteredBehind : List Answered → List Answered → Type 0
  EnteredBehind front run = (before : List Answered) (session : ℕ) (call : CallKind) (reply : Reply) (after : List Answered) → run ≡ before ++ answered (Call session call) reply ∷ after → IsEntered history (front ++ before) session call reply

  shifted : (front : List Answered) (one : Answered) (run : List Answered) → EnteredBehind front (one ∷ run) → EnteredBehind (front ++ one ∷ []) run
  shifted front one run x before session call reply after e =
      subst (λ (ones : List Answered). IsEntered history ones session call reply) (sym (append_assoc front (one ∷ []) before)) (x (one ∷ before) session call reply after (ap (λ (ones : List Answered). one ∷ ones) e))

  -- the first line of a run, where it tells a commit time
  record HasCommit (front : List Answered) (one : Answered) (time : ℕ) : Type 0 where
    session : ℕ
    call : CallKind
    is : one ≡ answered (Call session call) (Committed time)
    transaction : Transaction
    current : (state_of session front).current ≡ Some transaction
    at : commit_at history time ≡ Some (commit_of session transaction)

  committed : (reply : Reply) (time : ℕ) → commit_time reply ≡ Some time → reply ≡ Committed time
  committed (Committed other) time e = let same : other ≡ time = cc in ap (λ (n : ℕ). Committed n) same
  committed reply time e = absurd (cc)

  first_commit : (front : List Answered) (one : Answered) (run : List Answered) (time : ℕ) → EnteredBehind front (one ∷ run) → IsOfCall one.line one.reply → commit_time one.reply ≡ Some time → HasCommit front one time
  first_commit front one run time x of e = by_line one.line refl of
    where
      by_current : (session : ℕ) (call : CallKind) → one ≡ answered (Call session call) (Committed time) → (current : Option Transaction) → (state_of session front).current ≡ current
          → IsSomeAnd current (λ transaction. commit_at history time ≡ Some (commit_of session transaction)) → HasCommit front one time
      by_current session call is None same h = absurd h
      by_current session call is (Some transaction) same h = record { session = session; call = call; is = is; transaction = transaction; current = same; at = h }

      by_line : (line : Line) → one.line ≡ line → IsOfCall line one.reply → HasCommit front one time
      by_line Phase is none = absurd (cc (none, e))
      by_line (Merge range column) is none = absurd (cc (none, e))
      by_line (Call session call) is none =
          let whole : one ≡ answered (Call session call) (Committed time) = ap (λ (line : Line). answered line one.reply) is ∙ ap (answered (Call session call)) (committed one.reply time e) in
          by_current session call whole (state_of session front).current refl
          (subst (λ (ones : List Answered). IsSomeAnd (state_of session ones).current (λ transaction. commit_at history time ≡ Some (commit_of session transaction))) (append-nil front)
          (x [] session call (Committed time) run (ap (λ (o : Answered). o ∷ run) whole)))

  -- a later commit of the same session has a higher number, and so another time
  apart : (front : List Answered) (one : Answered) (s number time : ℕ) (transaction : Transaction) → transaction.number ≡ number → commit_at history time ≡ Some (commit_of s transaction) → IsAbove number (state_of s front) → HasCommit front one time → ⊥
  apart front one s number time transaction is at above x =
      let same : Some (commit_of s transaction) ≡ Some (commit_of x.session x.transaction) = sym at ∙ x.at in
      let commits : commit_of s transaction ≡ commit_of x.session x.transaction = cc same in
      let session : s ≡ x.session = ap (λ (c : Commit). c.session) commits in let numbers : transaction.number ≡ x.transaction.number = ap (λ (c : Commit). c.number) commits in
      let current : (state_of s front).current ≡ Some x.transaction = ap (λ (n : ℕ). (state_of n front).current) session ∙ x.current in
      let higher : number < x.transaction.number = subst (λ (o : Option Transaction). IfSome o (λ t. number < t.number)) current above.current in omega arith

  later_apart : (front run : List Answered) (s number time : ℕ) (transaction : Transaction) → transaction.number ≡ number → commit_at history time ≡ Some (commit_of s transaction) → IsAbove number (state_of s front)
      → AllByRecursion (λ (one : Answered). IsOfCall one.line one.reply) run → EnteredBehind front run → AllByRecursion (λ other. time ≢ other) (commit_times run)
  later_apart front [] s number time transaction is at above calls x = tt
  later_apart front (one ∷ run) s number time transaction is at above calls x =
      by_time (commit_time one.reply) refl
      (later_apart (front ++ one ∷ []) run s number time transaction is at (subst (IsAbove number) (sym (state_on unbegun s front (one ∷ []))) (line_keeps (IsAbove number) (above_call number) s one (state_of s front) above)) calls.1 (shifted front one run x))
    where
      by_time : (told : Option ℕ) → commit_time one.reply ≡ told → AllByRecursion (λ other. time ≢ other) (commit_times run) → AllByRecursion (λ other. time ≢ other) (cons_option told (commit_times run))
      by_time None e rest = rest
      by_time (Some other) e rest =
          ((λ same. apart front one s number time transaction is at above (first_commit front one run time x calls.0 (e ∙ ap (λ (n : ℕ). Some n) (sym same)))), rest)

  pub once_behind : (front run : List Answered) → AllByRecursion (λ (one : Answered). IsOfCall one.line one.reply) run → EnteredBehind front run → AllPairs (λ time other. time ≢ other) (commit_times run)
  once_behind front [] calls x = λ i j d below inside. absurd (omega arith)
  once_behind front (one ∷ run) calls x = by_time (commit_time one.reply) refl (once_behind (front ++ one ∷ []) run calls.1 (shifted front one run x))
    where
      by_time : (told : Option ℕ) → commit_time one.reply ≡ told → AllPairs (λ time other. time ≢ other) (commit_times run) → AllPairs (λ time other. time ≢ other) (cons_option told (commit_times run))
      by_time None e rest = rest
      by_time (Some time) e rest =
          let c = first_commit front one run time x calls.0 e in
          let begun : c.transaction.number ≤ (state_of c.session front).begun = subst (λ (o : Option Transaction). IfSome o (λ t. t.number ≤ (state_of c.session front).begun)) c.current (all_begun c.session front unbegun tt) in
          let closed : IsAbove c.transaction.number (after_line c.session (answered (Call c.session c.call) (Committed time)) (state_of c.session front)) = closing c.transaction.number c.session c.call time (state_of c.session front) begun in
          AllPairs-cons (λ time other. time ≢ other) time (commit_times run)
          (All-from_recursion (λ other. time ≢ other) (commit_times run)
          (later_apart (front ++ one ∷ []) run c.session c.transaction.number time c.transaction refl c.at
          (subst (IsAbove c.transaction.number) (sym (state_on unbegun c.session front (one ∷ []))) (subst (λ (o : Answered). IsAbove c.transaction.number (after_line c.session o (state_of c.session front))) (sym c.is) closed))
          calls.1 (shifted front one run x)))
          rest

-- ---- every time is told

pub times_within : (history : List Commit) (front run : List Answered) → AllByRecursion (λ (one : Answered). IsOfCall one.line one.reply) run → EnteredBehind history front run → AllByRecursion (λ time. (0 < time) × (time ≤ length history)) (commit_times run)
times_within history front [] calls x = tt
times_within history front (one ∷ run) calls x = by_time (commit_time one.reply) refl (times_within history (front ++ one ∷ []) run calls.1 (shifted history front one run x))
  where
    by_time : (told : Option ℕ) → commit_time one.reply ≡ told → AllByRecursion (λ time. (0 < time) × (time ≤ length history)) (commit_times run) → AllByRecursion (λ time. (0 < time) × (time ≤ length history)) (cons_option told (commit_times run))
    by_time None e rest = rest
    by_time (Some time) e rest = let c = first_commit history front one run time x calls.0 e in (in_range history time (commit_of c.session c.transaction) c.at, rest)

differ : (time : ℕ) (times : List ℕ) → list_any (eqb time) times ≡ false → AllByRecursion (λ other. time ≢ other) times
differ time [] e = tt
differ time (other ∷ times) e = by_test (eqb time other) refl e (differ time times)
  where
    by_test : (b : Bool) → eqb time other ≡ b → (b || list_any (eqb time) times) ≡ false → (list_any (eqb time) times ≡ false → AllByRecursion (λ other. time ≢ other) times) → AllByRecursion (λ other. time ≢ other) (other ∷ times)
    by_test true is e rest = absurd (cc)
    by_test false is e rest = (eqb-false time other is, rest e)

below_next : (n : ℕ) (times : List ℕ) → AllByRecursion (λ time. (0 < time) × (time ≤ n)) times → AllByRecursion (λ time. time < n + 1) times
below_next n [] all = tt
below_next n (time ∷ times) all = let low = all.0.1 in (omega arith, below_next n times all.1)

above_none : (n : ℕ) (times : List ℕ) → AllByRecursion (λ time. (0 < time) × (time ≤ n)) times → AllByRecursion (λ time. 0 ≢ time) times
above_none n [] all = tt
above_none n (time ∷ times) all = let some = all.0.0 in ((λ e. absurd (omega arith)), above_none n times all.1)

-- different times from 1 on, as many as there are, are all of them
pub all_told : (times : List ℕ) (n : ℕ) → AllPairs (λ time other. time ≢ other) times → AllByRecursion (λ time. (0 < time) × (time ≤ n)) times → n ≤ length times → (time : ℕ) → 0 < time → time ≤ n → Contains times time
all_told times n once within many time some low = by_test (list_any (eqb time) times) refl
  where
    by_test : (b : Bool) → list_any (eqb time) times ≡ b → Contains times time
    by_test true is = Contains-from_any {eq = eqb} (λ x y e. eqb-true x y e) time times is
    by_test false is =
        let few = distinct_are_few (n + 1) (0 ∷ time ∷ times)
        (All-from_recursion (λ (t : ℕ). t < n + 1) (0 ∷ time ∷ times) (omega arith, (omega arith, below_next n times within)))
        (AllPairs-cons (λ (t other : ℕ). t ≢ other) 0 (time ∷ times) (All-from_recursion (λ (other : ℕ). 0 ≢ other) (time ∷ times) ((λ e. absurd (omega arith)), above_none n times within))
        (AllPairs-cons (λ (t other : ℕ). t ≢ other) time times (All-from_recursion (λ (other : ℕ). time ≢ other) times (differ time times is)) once)) in
        absurd (omega arith)

-- ---- commits, counted

-- a call that is answered with a commit time
abbrev pub is_commit_line : Answered → Bool
is_commit_line one = is_some (speaker_of one.line) && is_some (commit_time one.reply)

pub commit_spoken : (one : Answered) → is_commit_line one ≡ true → (t : ℕ) × (speaker_of one.line ≡ Some t)
commit_spoken one e = by_speaker (speaker_of one.line) refl e
  where
    by_speaker : (speaker : Option ℕ) → speaker_of one.line ≡ speaker → (is_some speaker && is_some (commit_time one.reply)) ≡ true → (t : ℕ) × (speaker_of one.line ≡ Some t)
    by_speaker None is e = absurd (cc)
    by_speaker (Some t) is e = (t, is)

told_once : (s : ℕ) (speaker told : Option ℕ) (current : Option Transaction) → names s speaker ≡ true → length (commit_told s told current) ≤ cond {A = ℕ} (is_some speaker && is_some told) 1 0
told_once s None told current e = absurd (cc)
told_once s (Some t) None current e = omega arith
told_once s (Some t) (Some time) None e = omega arith
told_once s (Some t) (Some time) (Some transaction) e = omega arith

pub told_few : (s : ℕ) (state : SessionState) (run : List Answered) → length (commits_told s state (filter (is_by s) run)) ≤ count_by is_commit_line (filter (is_by s) run)
told_few s state [] = omega arith
told_few s state (one ∷ run) = by_test (is_by s one) refl (λ st. told_few s st run)
  where
    by_test : (b : Bool) → is_by s one ≡ b → ((st : SessionState) → length (commits_told s st (filter (is_by s) run)) ≤ count_by is_commit_line (filter (is_by s) run))
        → length (commits_told s state (cond b (one ∷ filter (is_by s) run) (filter (is_by s) run))) ≤ count_by is_commit_line (cond b (one ∷ filter (is_by s) run) (filter (is_by s) run))
    by_test true is rest =
        let a = told_once s (speaker_of one.line) (commit_time one.reply) state.current is in let h = rest (after_line s one state) in
        let b = length-append (commit_told s (commit_time one.reply) state.current) (commits_told s (after_line s one state) (filter (is_by s) run)) in
        let c = sum_by-cons (λ (x : Answered). cond {A = ℕ} (is_commit_line x) 1 0) one (filter (is_by s) run) in omega arith
    by_test false is rest = rest state

pub commits_few : (run : List Answered) → count_by is_commit_line run ≤ length (commit_times run)
commits_few [] = omega arith
commits_few (one ∷ run) =
    let h = commits_few run in let c = sum_by-cons (λ (x : Answered). cond {A = ℕ} (is_commit_line x) 1 0) one run in
    let a = by_time (is_some (speaker_of one.line)) (commit_time one.reply) (commit_times run) in omega arith
  where
    by_time : (b : Bool) (told : Option ℕ) (times : List ℕ) → cond {A = ℕ} (b && is_some told) 1 0 + length times ≤ length (cons_option told times)
    by_time true None times = omega arith
    by_time true (Some time) times = omega arith
    by_time false None times = omega arith
    by_time false (Some time) times = omega arith
