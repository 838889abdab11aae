-- No write of a generated script is refused for another session's line, or for want of place.
use Rattle.std.proofs.Common.{◌≡◌, ℕ, zero, suc, ◌+◌, ◌-◌, ◌*◌, ◌/◌, ◌%◌, ◌<◌, ◌≤◌, Bool, true, false, not, ◌&&◌, cond, eqb, List, [], ◌∷◌, ◌++◌, Option, Some, None, IfSome, refl, sym, ap, subst, ◌∙◌, arith}
use Rattle.std.specs.Prelude.{is_some}
use Rattle.std.specs.List.{count_by}
use Rattle.std.proofs.lemmas.Bool.{and_parts}
use Rattle.std.proofs.lemmas.List.Sums.{sum_by-append, sum_by-cons}
use Rattle.lst_layout.specs.declared.limits.Limits.{Limits}
use Rattle.lst_model.specs.declared.acts.Write.{Write}
use Rattle.lst_model.specs.declared.commits.Commit.{Commit}
use Rattle.lst_model.specs.declared.lines.Line.{Line}
use Rattle.lst_model.specs.declared.lines.Line.TheVariants.{Phase, Merge, Call}
use Rattle.lst_model.specs.declared.lines.Call.{Call as CallKind}
use Rattle.lst_model.specs.declared.lines.Call.TheVariants.{Begin, AsOf, Get, Insert, Update, Delete, Sum, Count, Scan, Find, Commit as CommitCall, Abort}
use Rattle.lst_model.specs.declared.replies.Reply.{Reply}
use Rattle.lst_model.specs.declared.replies.Reply.TheVariants.{Refused}
use Rattle.lst_model.specs.declared.replies.Cause.TheVariants.{Latched, Unfinished, TableFull, TailFull}
use Rattle.lst_replies.specs.declared.states.Transaction.{Transaction}
use Rattle.lst_replies.specs.Runs.{Answered, answered, AtEachCall, key_written, write_of, is_insert_call, is_insert, is_accepted, may_take_record, takes_no_record, is_done}
use Rattle.lst_replies.specs.States.{state_of}
use Rattle.lst_replies.specs.Explained.{ConflictIsExplained, FullnessIsExplained}
use Rattle.lst_replies.specs.ReplyKinds.{can_answer}
use Rattle.lst_replies.specs.Legal.{AtEachWrite}
use Rattle.lst_work_laws.proofs.Mergers.{all_at}
use Rattle.lst_script.specs.Counted.{LineWritesOwn, is_write}
use Rattle.lst_script.specs.Generated.{insert_lines, transfer_lines, merge_lines, final_lines, Course, moves, transfer_at, moved_lines, course_at, inserts, transfers, generated}
use Rattle.lst_work.proofs.Lists.{Has}
use Rattle.lst_work.proofs.Lining.{IsFree}
use Rattle.lst_work.proofs.LoadWalking.{lines_in}
use Rattle.lst_work.proofs.Owning.{LinesOwn, write_owned, no_latch, not_in_the_way}

-- ---- counts

pub count_lines : (p : Line → Bool) (run : List Answered) → count_by (λ (one : Answered). p one.line) run ≡ count_by p (lines_in run)
count_lines p [] = refl
count_lines p (one ∷ run) =
    sum_by-cons (λ (x : Answered). cond {A = ℕ} (p x.line) 1 0) one run ∙ (ap (λ (m : ℕ). cond {A = ℕ} (p one.line) 1 0 + m) (count_lines p run) ∙ sym (sum_by-cons (λ (x : Line). cond {A = ℕ} (p x) 1 0) one.line (lines_in run)))

one_le : (a b : Bool) → (a ≡ true → b ≡ true) → cond {A = ℕ} a 1 0 ≤ cond {A = ℕ} b 1 0
one_le false false h = omega arith
one_le false true h = omega arith
one_le true true h = omega arith
one_le true false h = absurd (never (h refl))
  where
    never : false ≡ true → ⊥
    never e = cc

count_le : (p q : Answered → Bool) → ((x : Answered) → p x ≡ true → q x ≡ true) → (xs : List Answered) → count_by p xs ≤ count_by q xs
count_le p q h [] = omega arith
count_le p q h (x ∷ xs) =
    let a = sum_by-cons (λ (y : Answered). cond {A = ℕ} (p y) 1 0) x xs in let b = sum_by-cons (λ (y : Answered). cond {A = ℕ} (q y) 1 0) x xs in
    let one = one_le (p x) (q x) (h x) in let rest = count_le p q h xs in omega arith

count_at : (p : Answered → Bool) (before : List Answered) (one : Answered) (after : List Answered) → count_by p (before ++ one ∷ after) ≡ count_by p before + (cond {A = ℕ} (p one) 1 0 + count_by p after)
count_at p before one after = sum_by-append (λ (y : Answered). cond {A = ℕ} (p y) 1 0) before (one ∷ after) ∙ ap (λ (m : ℕ). count_by p before + m) (sum_by-cons (λ (y : Answered). cond {A = ℕ} (p y) 1 0) one after)

abbrev inserting : Answered → Bool
inserting one = is_insert one.line

abbrev writing : Answered → Bool
writing one = is_write one.line

taking_inserts : (one : Answered) → may_take_record one ≡ true → inserting one ≡ true
taking_inserts one e = (and_parts (is_insert one.line) (not (takes_no_record one.reply)) e).0

written_line : (line : Line) → is_some (key_written line) ≡ true → is_write line ≡ true
written_line Phase e = cc
written_line (Merge range column) e = cc
written_line (Call s (Insert key row)) e = refl
written_line (Call s (Update key patch)) e = refl
written_line (Call s (Delete key)) e = refl
written_line (Call s Begin) e = cc
written_line (Call s (AsOf time)) e = cc
written_line (Call s (Get key)) e = cc
written_line (Call s (Sum column)) e = cc
written_line (Call s Count) e = cc
written_line (Call s Scan) e = cc
written_line (Call s (Find column value)) e = cc
written_line (Call s CommitCall) e = cc
written_line (Call s Abort) e = cc

accepted_writes : (one : Answered) → is_accepted one ≡ true → writing one ≡ true
accepted_writes one e = written_line one.line (and_parts (is_some (key_written one.line)) (is_done one.reply) e).0

full_inserts : (call : CallKind) → can_answer call (Refused TableFull) ≡ true → is_insert_call call ≡ true
full_inserts (Insert key row) e = refl
full_inserts (Update key patch) e = cc
full_inserts (Delete key) e = cc
full_inserts Begin e = cc
full_inserts (AsOf time) e = cc
full_inserts (Get key) e = cc
full_inserts (Sum column) e = cc
full_inserts Count e = cc
full_inserts Scan e = cc
full_inserts (Find column value) e = cc
full_inserts CommitCall e = cc
full_inserts Abort e = cc

-- an insert that found the table full took no record
fewer_taken : (run before after : List Answered) (s : ℕ) (call : CallKind) → run ≡ before ++ answered (Call s call) (Refused TableFull) ∷ after → is_insert_call call ≡ true → count_by may_take_record run + 1 ≤ count_by inserting run
fewer_taken run before after s call place insert =
    let one : Answered = answered (Call s call) (Refused TableFull) in
    let a = ap (count_by may_take_record) place ∙ count_at may_take_record before one after in
    let b = ap (count_by inserting) place ∙ count_at inserting before one after in
    let x : cond {A = ℕ} (inserting one) 1 0 ≡ 1 = ap (λ (t : Bool). cond {A = ℕ} t 1 0) insert in
    let y : cond {A = ℕ} (may_take_record one) 1 0 ≡ 0 = none (is_insert_call call) in
    let f = count_le may_take_record inserting taking_inserts before in let g = count_le may_take_record inserting taking_inserts after in omega arith
  where
    none : (b : Bool) → cond {A = ℕ} (b && false) 1 0 ≡ 0
    none true = refl
    none false = refl

module _ (l : Limits) (n : ℕ) (run : List Answered) (history : List Commit) (own : LinesOwn n run)
    (kinds : AtEachCall (λ before s call reply. can_answer call reply ≡ true) run)
    (conflicts : AtEachWrite (λ before s t w reply. ConflictIsExplained history run s t w reply) run)
    (fullness : AtEachWrite (λ before s t w reply. FullnessIsExplained l history run before s t w reply) run)
    (room : count_by inserting run ≤ 256 * l.ranges) (tails : count_by writing run < l.tails) where
  free_by : (before : List Answered) (s : ℕ) (call : CallKind) (after : List Answered) (t : Transaction) (w : Write) → Has n s w.key → (reply : Reply) → run ≡ before ++ answered (Call s call) reply ∷ after
      → ConflictIsExplained history run s t w reply → FullnessIsExplained l history run before s t w reply → IsFree reply
  free_by before s call after t w has (Refused Latched) place c f = no_latch n s w.key has run own c
  free_by before s call after t w has (Refused (Unfinished j number)) place c f = not_in_the_way n s w.key has run history t.begin j number own c
  free_by before s call after t w has (Refused TableFull) place c f =
      let insert = full_inserts call (kinds before s call (Refused TableFull) after place) in let few = fewer_taken run before after s call place insert in let full : 256 * l.ranges ≤ count_by may_take_record run = f.1 in absurd (omega arith)
  free_by before s call after t w has (Refused TailFull) place c f = let few = count_le is_accepted writing accepted_writes run in let full : l.tails ≤ count_by is_accepted run = f in absurd (omega arith)
  free_by before s call after t w has reply place c f = tt

  pub all_free : AtEachCall (λ before s call reply. IfSome (state_of s before).current (λ (t : Transaction). IfSome (write_of call) (λ (w : Write). IsFree reply))) run
  all_free before s call reply after place =
      by_both (state_of s before).current (write_of call)
      (write_owned n s call (all_at (λ (one : Answered). LineWritesOwn n one.line) before (answered (Call s call) reply) after (subst (LinesOwn n) place own)))
      (conflicts before s call reply after place) (fullness before s call reply after place)
    where
      by_both : (c : Option Transaction) (o : Option Write) → IfSome o (λ (w : Write). Has n s w.key) → IfSome c (λ t. IfSome o (λ w. ConflictIsExplained history run s t w reply))
          → IfSome c (λ t. IfSome o (λ w. FullnessIsExplained l history run before s t w reply)) → IfSome c (λ (t : Transaction). IfSome o (λ (w : Write). IsFree reply))
      by_both None o has c f = tt
      by_both (Some t) None has c f = tt
      by_both (Some t) (Some w) has c f = free_by before s call after t w has reply place c f

-- ---- the inserts of a generated script

module _ (keys n : ℕ) where
  abbrev count : List Line → ℕ
  count lines = count_by is_insert lines

  joined_count : (xs ys : List Line) → count (xs ++ ys) ≡ count xs + count ys
  joined_count xs ys = sum_by-append (λ (line : Line). cond {A = ℕ} (is_insert line) 1 0) xs ys

  then_count : (x : Line) (ys : List Line) → count (x ∷ ys) ≡ cond {A = ℕ} (is_insert x) 1 0 + count ys
  then_count x ys = sum_by-cons (λ (line : Line). cond {A = ℕ} (is_insert line) 1 0) x ys

  inserted : (step : ℕ) → count (inserts keys n step) ≡ step
  inserted zero = refl
  inserted (suc step) =
      let one : count (insert_lines (step % n) (step + 1)) ≡ 1 = refl in
      joined_count (inserts keys n step) (insert_lines (step % n) (step + 1)) ∙ omega (arith, inserted step, one)

  moved : (step : ℕ) (before : Course) → count (moved_lines keys n step before) ≡ 0
  moved step before = either (moves keys n step)
    where
      either : (b : Bool) → count (cond b (transfer_lines (transfer_at keys n step before)) []) ≡ 0
      either true = refl
      either false = refl

  merged : (range : ℕ) (b : Bool) → count (cond b (Merge range 0 ∷ []) []) ≡ 0
  merged range true = refl
  merged range false = refl

  transferred : (seed step : ℕ) → count (transfers keys n seed step) ≡ 0
  transferred seed zero = refl
  transferred seed (suc step) =
      let before = course_at keys n seed step in
      let whole = joined_count (transfers keys n seed step) (moved_lines keys n step before ++ merge_lines keys (step + 1)) in
      let parts = joined_count (moved_lines keys n step before) (merge_lines keys (step + 1)) in
      let m : count (merge_lines keys (step + 1)) ≡ 0 = merged (((step + 1) / 64 - 1) % ((keys + 255) / 256)) (eqb ((step + 1) % 64) 0) in
      whole ∙ omega (arith, parts, m, moved step before, transferred seed step)

  pub inserts_counted : (seed : ℕ) → count_by is_insert (generated keys n seed) ≡ keys
  inserts_counted seed =
      let one = joined_count (inserts keys n keys) (Phase ∷ (transfers keys n seed keys ++ Phase ∷ final_lines)) in
      let two = then_count Phase (transfers keys n seed keys ++ Phase ∷ final_lines) in
      let three = joined_count (transfers keys n seed keys) (Phase ∷ final_lines) in
      let four : count (Phase ∷ final_lines) ≡ 0 = refl in
      omega (arith, one, two, three, four, inserted keys, transferred seed keys)
