-- A transaction in a run, by its number: its lines stand between its begin and its end.
use Rattle.std.proofs.Common.{◌≡◌, ⊎_elim, ◌⊎◌, inl, inr, ℕ, zero, suc, ◌+◌, ◌-◌, ◌<◌, ◌≤◌, List, [], ◌∷◌, ◌++◌, Bool, true, false, ◌||◌, ◌&&◌, eqb, cond, length, Option, Some, None, IfSome, refl, sym, subst, ap, ◌∙◌, arith, append-nil, append_assoc}
use Rattle.std.specs.Prelude.{IsSomeAnd, slice_get, slice_index_or}
use Rattle.std.specs.List.{filter, list_any, fold, cons_option}
use Rattle.std.proofs.lemmas.Bool.{eqb-false}
use Rattle.std.proofs.lemmas.Option.{slice_get_within}
use Rattle.std.proofs.lemmas.List.Sums.{fold-append}
use Rattle.lst_model.specs.declared.acts.Write.{Write}
use Rattle.lst_model.specs.declared.commits.Commit.{Commit}
use Rattle.lst_model.specs.declared.lines.Line.{Line}
use Rattle.lst_model.specs.declared.lines.Line.TheVariants.{Phase, Merge, Call}
use Rattle.lst_model.specs.declared.lines.Call.{Call as CallKind}
use Rattle.lst_model.specs.declared.replies.Reply.{Reply}
use Rattle.lst_model.specs.declared.replies.Reply.TheVariants.{Begun, Done, Committed, Ended, Aborted}
use Rattle.lst_replies.specs.declared.states.Transaction.{Transaction}
use Rattle.lst_replies.specs.declared.states.SessionState.{SessionState}
use Rattle.lst_replies.specs.Runs.{Answered, answered, is_by, is_begun, write_of, commit_time, commit_times}
use Rattle.lst_replies.specs.Explained.{commit_at}
use Rattle.lst_replies.specs.States.{with_write, after_call, after_line, state_from}
use Rattle.lst_serial_laws.specs.Legal.{lines_since_begin}

-- ---- places in a run

-- an element of two lists with one more between them
pub split_middle : {X : Type 0} (xs : List X) (p : X) (ys before : List X) (one : X) (after : List X) → xs ++ p ∷ ys ≡ before ++ one ∷ after
    → ((rest : List X) × (xs ≡ before ++ one ∷ rest)) ⊎ ((p ≡ one) ⊎ ((middle : List X) × (before ≡ xs ++ p ∷ middle) × (ys ≡ middle ++ one ∷ after)))
split_middle [] p ys [] one after e = let same : p ≡ one = cc in inr (inl same)
split_middle [] p ys (b ∷ before) one after e = let same : p ≡ b = cc in let others : ys ≡ before ++ one ∷ after = cc in inr (inr (before, ap (λ z. z ∷ before) (sym same), others))
split_middle (x ∷ xs) p ys [] one after e = let same : x ≡ one = cc in inl (xs, ap (λ z. z ∷ xs) same)
split_middle (x ∷ xs) p ys (b ∷ before) one after e =
    let first : x ≡ b = cc in let others : xs ++ p ∷ ys ≡ before ++ one ∷ after = cc in
    ⊎_elim (λ h. inl (h.0, cc (first, h.1))) (λ h. inr (⊎_elim (λ g. inl g) (λ g. inr (g.0, cc (first, g.1), g.2)) h)) (split_middle xs p ys before one after others)

-- a line that is answered with this commit time
pub record IsPlace (run : List Answered) (time : ℕ) : Type 0 where
  pub before : List Answered
  pub line : Line
  pub after : List Answered
  pub place : run ≡ before ++ answered line (Committed time) ∷ after

commit_says : (reply : Reply) (time : ℕ) → commit_time reply ≡ Some time → reply ≡ Committed time
commit_says (Committed other) time e = ap Committed (some_is other time e)
  where
    some_is : (a b : ℕ) → Some a ≡ Some b → a ≡ b
    some_is a b e = cc
commit_says reply time e = cc

pub place_of : (run : List Answered) (time k : ℕ) → k < length (commit_times run) → slice_index_or (commit_times run) k time ≡ time → IsPlace run time
place_of [] time k low is = absurd (omega arith)
place_of (one ∷ run) time k low is = by_reply (commit_time one.reply) refl k low is (λ i less same. place_of run time i less same)
  where
    further : IsPlace run time → IsPlace (one ∷ run) time
    further p = record { before = one ∷ p.before; line = p.line; after = p.after; place = ap (λ ones. one ∷ ones) p.place }

    by_reply : (o : Option ℕ) → commit_time one.reply ≡ o → (k : ℕ) → k < length (cons_option o (commit_times run)) → slice_index_or (cons_option o (commit_times run)) k time ≡ time
        → ((i : ℕ) → i < length (commit_times run) → slice_index_or (commit_times run) i time ≡ time → IsPlace run time) → IsPlace (one ∷ run) time
    by_reply None e k low is rest = further (rest k low is)
    by_reply (Some told) e zero low is rest = record {
      before = [];
      line = one.line;
      after = run;
      place = ap (λ (r : Reply). answered one.line r ∷ run) (commit_says one.reply time (e ∙ ap (λ (t : ℕ). Some t) is));
    }
    by_reply (Some told) e (suc i) low is rest = further (rest i (omega arith) is)

-- ---- the commit at a time

pub in_range : (history : List Commit) (time : ℕ) (one : Commit) → commit_at history time ≡ Some one → (0 < time) × (time ≤ length history)
in_range history time one at = by_test (eqb time 0) refl at
  where
    by_test : (b : Bool) → eqb time 0 ≡ b → cond b None (slice_get history (time - 1)) ≡ Some one → (0 < time) × (time ≤ length history)
    by_test true is at = absurd (cc)
    by_test false is at = let other = eqb-false time 0 is in let low = slice_get_within history (time - 1) one at in (omega arith, omega arith)

-- ---- the state of a session along a run

pub state_on : (state : SessionState) (s : ℕ) (front before : List Answered) → state_from state s (front ++ before) ≡ state_from (state_from state s front) s before
state_on state s [] before = refl
state_on state s (one ∷ front) before = state_on (after_line s one state) s front before

-- what each call keeps, a line keeps
pub line_keeps : (P : SessionState → Type 0) → ((call : CallKind) (reply : Reply) (state : SessionState) → P state → P (after_call call reply state)) → (s : ℕ) (one : Answered) (state : SessionState) → P state → P (after_line s one state)
line_keeps P keeps s one state h = by_line one.line
  where
    by_test : (b : Bool) (call : CallKind) → P (cond b (after_call call one.reply state) state)
    by_test true call = keeps call one.reply state h
    by_test false call = h

    by_line : (line : Line) → P (after_line s (answered line one.reply) state)
    by_line Phase = h
    by_line (Merge range column) = h
    by_line (Call t call) = by_test (is_by s (answered (Call t call) one.reply)) call

pub written : (P : ℕ → Type 0) (write : Option Write) (current : Option Transaction) → IfSome current (λ transaction. P transaction.number) → IfSome (with_write write current) (λ transaction. P transaction.number)
written P None current h = h
written P (Some write) None h = h
written P (Some write) (Some transaction) h = h

-- ---- numbers

-- the open transaction, if any, is the one that was begun last
abbrev pub IsNumbered : SessionState → Type 0
IsNumbered state = IfSome state.current (λ transaction. transaction.number ≡ state.begun)

numbered_call : (call : CallKind) (reply : Reply) (state : SessionState) → IsNumbered state → IsNumbered (after_call call reply state)
numbered_call call (Begun time) state h = refl
numbered_call call Done state h = written (λ k. k ≡ state.begun) (write_of call) state.current h
numbered_call call (Committed time) state h = tt
numbered_call call (Ended time) state h = tt
numbered_call call Aborted state h = tt
numbered_call call reply state h = h

pub numbered_from : (s : ℕ) (run : List Answered) (state : SessionState) → IsNumbered state → IsNumbered (state_from state s run)
numbered_from s [] state h = h
numbered_from s (one ∷ run) state h = numbered_from s run (after_line s one state) (line_keeps IsNumbered numbered_call s one state h)

low_call : (n : ℕ) (call : CallKind) (reply : Reply) (state : SessionState) → n ≤ state.begun → n ≤ (after_call call reply state).begun
low_call n call (Begun time) state h = omega arith
low_call n call Done state h = h
low_call n call (Committed time) state h = h
low_call n call (Ended time) state h = h
low_call n call Aborted state h = h
low_call n call reply state h = h

-- as many transactions are begun later on, or more
begun_low : (n s : ℕ) (run : List Answered) (state : SessionState) → n ≤ state.begun → n ≤ (state_from state s run).begun
begun_low n s [] state h = h
begun_low n s (one ∷ run) state h = begun_low n s run (after_line s one state) (line_keeps (λ st. n ≤ st.begun) (low_call n) s one state h)

-- ---- the lines of a transaction

-- a line of the session that is answered with a begin
abbrev begins : ℕ → Answered → Bool
begins s one = is_by s one && is_begun one.reply

-- in these lines the session begins no transaction, and it came to them with one open that has this begin
pub record StaysOpen (s : ℕ) (run : List Answered) (state : SessionState) (begin : ℕ) : Type 0 where
  pub none : list_any (begins s) run ≡ false
  pub opened : IsSomeAnd state.current (λ transaction. transaction.begin ≡ begin)

unwritten : (begin : ℕ) (write : Option Write) (current : Option Transaction) → IsSomeAnd (with_write write current) (λ transaction. transaction.begin ≡ begin) → IsSomeAnd current (λ transaction. transaction.begin ≡ begin)
unwritten begin None current h = h
unwritten begin (Some write) None h = h
unwritten begin (Some write) (Some transaction) h = h

abbrev StaysBehind : ℕ → List Answered → Transaction → Type 0
StaysBehind s run t = (state : SessionState) → IsNumbered state → (state_from state s run).current ≡ Some t → t.number ≡ state.begun → StaysOpen s run state t.begin

-- where the transaction that is open behind them has the number that was begun last before them, it was open all along
pub stays_open : (s : ℕ) (run : List Answered) (state : SessionState) (t : Transaction) → IsNumbered state → (state_from state s run).current ≡ Some t → t.number ≡ state.begun → StaysOpen s run state t.begin
stays_open s [] state t numbered opened same = record { none = refl; opened = subst (λ (c : Option Transaction). IsSomeAnd c (λ transaction. transaction.begin ≡ t.begin)) (sym opened) refl }
stays_open s (one ∷ run) state t numbered opened same = by_line one.line one.reply opened (λ st. stays_open s run st t)
  where
    by_reply : (call : CallKind) (reply : Reply) → (state_from (after_call call reply state) s run).current ≡ Some t → StaysBehind s run t → (is_begun reply || list_any (begins s) run) ≡ false × IsSomeAnd state.current (λ transaction. transaction.begin ≡ t.begin)
    by_reply call (Begun time) opened rest =
        let more = begun_low (state.begun + 1) s run (after_call call (Begun time) state) (omega arith) in
        let last : t.number ≡ (state_from (after_call call (Begun time) state) s run).begun = subst (λ (c : Option Transaction). IfSome c (λ transaction. transaction.number ≡ (state_from (after_call call (Begun time) state) s run).begun)) opened (numbered_from s run (after_call call (Begun time) state) refl) in
        absurd (omega arith)
    by_reply call Done opened rest =
        let x = rest (after_call call Done state) (numbered_call call Done state numbered) opened same in
        (x.none, unwritten t.begin (write_of call) state.current x.opened)
    by_reply call (Committed time) opened rest = absurd (rest (after_call call (Committed time) state) tt opened same).opened
    by_reply call (Ended time) opened rest = absurd (rest (after_call call (Ended time) state) tt opened same).opened
    by_reply call Aborted opened rest = absurd (rest (after_call call Aborted state) tt opened same).opened
    by_reply call reply opened rest = let x = rest state numbered opened same in (x.none, x.opened)

    by_test : (b : Bool) (call : CallKind) (reply : Reply) → (state_from (cond b (after_call call reply state) state) s run).current ≡ Some t → StaysBehind s run t → ((b && is_begun reply) || list_any (begins s) run) ≡ false × IsSomeAnd state.current (λ transaction. transaction.begin ≡ t.begin)
    by_test true call reply opened rest = by_reply call reply opened rest
    by_test false call reply opened rest = let x = rest state numbered opened same in (x.none, x.opened)

    by_line : (line : Line) (reply : Reply) → (state_from (after_line s (answered line reply) state) s run).current ≡ Some t → StaysBehind s run t → StaysOpen s (answered line reply ∷ run) state t.begin
    by_line Phase reply opened rest = let x = rest state numbered opened same in record { none = x.none; opened = x.opened }
    by_line (Merge range column) reply opened rest = let x = rest state numbered opened same in record { none = x.none; opened = x.opened }
    by_line (Call speaker call) reply opened rest = let x = by_test (is_by s (answered (Call speaker call) reply)) call reply opened rest in record { none = x.0; opened = x.1 }

-- ---- the lines since a begin

abbrev since : ℕ → List Answered → Answered → List Answered
since s lines one = cond (is_by s one) (cond (is_begun one.reply) [] (lines ++ one ∷ [])) lines

pub since_push : (s : ℕ) (front : List Answered) (one : Answered) → lines_since_begin s (front ++ one ∷ []) ≡ cond (is_by s one) (cond (is_begun one.reply) [] (lines_since_begin s front ++ one ∷ [])) (lines_since_begin s front)
since_push s front one = fold-append (since s) [] front (one ∷ [])

-- where the session begins nothing in them, its own lines are put behind
since_on : (s : ℕ) (run lines : List Answered) → list_any (begins s) run ≡ false → fold (since s) lines run ≡ lines ++ filter (is_by s) run
since_on s [] lines none = sym (append-nil lines)
since_on s (one ∷ run) lines none = by_test (is_by s one) (is_begun one.reply) none (λ more. since_on s run more)
  where
    by_test : (b c : Bool) → ((b && c) || list_any (begins s) run) ≡ false → ((more : List Answered) → list_any (begins s) run ≡ false → fold (since s) more run ≡ more ++ filter (is_by s) run)
        → fold (since s) (cond b (cond c [] (lines ++ one ∷ [])) lines) run ≡ lines ++ cond b (one ∷ filter (is_by s) run) (filter (is_by s) run)
    by_test true true none rest = absurd (cc)
    by_test true false none rest = rest (lines ++ one ∷ []) none ∙ append_assoc lines (one ∷ []) (filter (is_by s) run)
    by_test false c none rest = rest lines none

-- a line of the session behind which it begins nothing is among them
pub since_line : (s : ℕ) (before : List Answered) (one : Answered) (middle : List Answered) → is_by s one ≡ true → list_any (begins s) (one ∷ middle) ≡ false
    → lines_since_begin s (before ++ one ∷ middle) ≡ lines_since_begin s before ++ one ∷ filter (is_by s) middle
since_line s before one middle own none =
    fold-append (since s) [] before (one ∷ middle)
    ∙ (since_on s (one ∷ middle) (lines_since_begin s before) none
    ∙ ap (λ (b : Bool). lines_since_begin s before ++ cond b (one ∷ filter (is_by s) middle) (filter (is_by s) middle)) own)

-- the lines of other sessions are not among them
since_own : (s : ℕ) (run lines : List Answered) → fold (since s) lines (filter (is_by s) run) ≡ fold (since s) lines run
since_own s [] lines = refl
since_own s (one ∷ run) lines = by_test (is_by s one) (λ more. since_own s run more) refl
  where
    by_test : (b : Bool) → ((more : List Answered) → fold (since s) more (filter (is_by s) run) ≡ fold (since s) more run)
        → is_by s one ≡ b → fold (since s) lines (cond b (one ∷ filter (is_by s) run) (filter (is_by s) run)) ≡ fold (since s) (since s lines one) run
    by_test true rest e = rest (since s lines one)
    by_test false rest e = rest lines ∙ ap (λ (b : Bool). fold (since s) (cond b (cond (is_begun one.reply) [] (lines ++ one ∷ [])) lines) run) (sym e)

pub own_since : (s : ℕ) (run : List Answered) → lines_since_begin s (filter (is_by s) run) ≡ lines_since_begin s run
own_since s run = since_own s run []
