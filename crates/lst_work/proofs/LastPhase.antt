-- The last phase of a generated script: it counts and adds up all that was committed.
use Rattle.std.proofs.Common.{◌≡◌, ℕ, zero, suc, ◌<◌, ◌≤◌, max, Bool, true, cond, List, [], ◌∷◌, ◌++◌, length, Option, Some, refl, sym, ap, subst, ◌∙◌, arith, append_assoc}
use Rattle.std.specs.Prelude.{slice_index_or}
use Rattle.std.specs.List.{AllByRecursion, Contains, list_any}
use Rattle.std.proofs.lemmas.Bool.{or_right}
use Rattle.lst_layout.specs.declared.limits.Limits.{Limits}
use Rattle.lst_model.specs.declared.commits.Commit.{Commit}
use Rattle.lst_model.specs.declared.lines.Line.{Line}
use Rattle.lst_model.specs.declared.lines.Line.TheVariants.{Phase, Merge, Call}
use Rattle.lst_model.specs.declared.lines.Call.TheVariants.{Begin, Count, Sum, Commit as CommitCall}
use Rattle.lst_model.specs.declared.replies.Reply.{Reply}
use Rattle.lst_model.specs.declared.replies.Reply.TheVariants.{Begun, Ended, Sum as SumReply, Count as CountReply, Silent}
use Rattle.lst_model.specs.Histories.{table_at}
use Rattle.lst_model.specs.Tables.{count_of, sum_of}
use Rattle.lst_replies.specs.declared.states.SessionState.{SessionState}
use Rattle.lst_replies.specs.Runs.{Answered, answered, AtEachCall, commit_times, is_phase, run_of}
use Rattle.lst_replies.specs.States.{unbegun, state_from, state_of, greatest, ended_phases, floor_of}
use Rattle.lst_replies.specs.Explained.{TimeIsBounded, ReadIsAnswered, StateIsTold}
use Rattle.lst_replies.specs.ReplyKinds.{HaveReplyShape, can_answer, can_answer_merge}
use Rattle.lst_serial_laws.proofs.Numbers.{state_on}
use Rattle.lst_work_laws.proofs.Fronts.{commits_on}
use Rattle.lst_script.specs.Generated.{final_lines}

-- ---- replies to the parts of a script

pub record Parts (xs ys : List Line) (replies : List (Option ℕ × Reply)) : Type 0 where
  pub front : List (Option ℕ × Reply)
  pub back : List (Option ℕ × Reply)
  pub is : replies ≡ front ++ back
  pub shape : HaveReplyShape ys back
  pub run : run_of (xs ++ ys) replies ≡ run_of xs front ++ run_of ys back

pub parted : (xs ys : List Line) (replies : List (Option ℕ × Reply)) → HaveReplyShape (xs ++ ys) replies → Parts xs ys replies
parted [] ys replies shape = record { front = []; back = replies; is = refl; shape = shape; run = refl }
parted (Phase ∷ xs) ys replies shape = let p = parted xs ys replies shape in record { front = p.front; back = p.back; is = p.is; shape = p.shape; run = ap (λ ones. answered Phase Silent ∷ ones) p.run }
parted (Merge range column ∷ xs) ys [] shape = absurd shape
parted (Merge range column ∷ xs) ys (reply ∷ replies) shape = let p = parted xs ys replies shape.1 in
    record { front = reply ∷ p.front; back = p.back; is = ap (λ rs. reply ∷ rs) p.is; shape = p.shape; run = ap (λ ones. answered (Merge range column) reply.1 ∷ ones) p.run }
parted (Call session call ∷ xs) ys [] shape = absurd shape
parted (Call session call ∷ xs) ys (reply ∷ replies) shape = let p = parted xs ys replies shape.1 in
    record { front = reply ∷ p.front; back = p.back; is = ap (λ rs. reply ∷ rs) p.is; shape = p.shape; run = ap (λ ones. answered (Call session call) reply.1 ∷ ones) p.run }

-- the four replies of the last phase
pub record Four (replies : List (Option ℕ × Reply)) : Type 0 where
  pub one : Reply
  pub two : Reply
  pub three : Reply
  pub four : Reply
  pub is : replies ≡ (Some 0, one) ∷ (Some 0, two) ∷ (Some 0, three) ∷ (Some 0, four) ∷ []

pair_is : (reply : Option ℕ × Reply) → reply.0 ≡ Some 0 → reply ≡ (Some 0, reply.1)
pair_is reply e = ap (λ (o : Option ℕ). (o, reply.1)) e

pub four_of : (replies : List (Option ℕ × Reply)) → HaveReplyShape (Phase ∷ final_lines) replies → Four replies
four_of [] shape = absurd shape
four_of (a ∷ []) shape = absurd shape.1
four_of (a ∷ b ∷ []) shape = absurd shape.1.1
four_of (a ∷ b ∷ c ∷ []) shape = absurd shape.1.1.1
four_of (a ∷ b ∷ c ∷ d ∷ []) shape = record {
  one = a.1;
  two = b.1;
  three = c.1;
  four = d.1;
  is = ap (λ (x : Option ℕ × Reply). x ∷ b ∷ c ∷ d ∷ []) (pair_is a shape.0.session) ∙ (ap (λ (x : Option ℕ × Reply). (Some 0, a.1) ∷ x ∷ c ∷ d ∷ []) (pair_is b shape.1.0.session)
      ∙ (ap (λ (x : Option ℕ × Reply). (Some 0, a.1) ∷ (Some 0, b.1) ∷ x ∷ d ∷ []) (pair_is c shape.1.1.0.session) ∙ ap (λ (x : Option ℕ × Reply). (Some 0, a.1) ∷ (Some 0, b.1) ∷ (Some 0, c.1) ∷ x ∷ []) (pair_is d shape.1.1.1.0.session)));
}
four_of (a ∷ b ∷ c ∷ d ∷ e ∷ rest) shape = absurd shape.1.1.1.1

-- ---- the floor

abbrev ends : Answered → Bool
ends one = is_phase one.line

any_phase : (front : List Answered) → list_any ends (front ++ answered Phase Silent ∷ []) ≡ true
any_phase [] = refl
any_phase (one ∷ front) = or_right (ends one) (list_any ends (front ++ answered Phase Silent ∷ [])) (any_phase front)

ended_whole : (front : List Answered) → ended_phases (front ++ answered Phase Silent ∷ []) ≡ front ++ answered Phase Silent ∷ []
ended_whole [] = refl
ended_whole (one ∷ front) =
    ap (λ (b : Bool). cond b (one ∷ ended_phases (front ++ answered Phase Silent ∷ [])) []) (any_phase (one ∷ front)) ∙ ap (λ (ones : List Answered). one ∷ ones) (ended_whole front)

le_greatest : (ts : List ℕ) (t k : ℕ) → k < length ts → slice_index_or ts k t ≡ t → t ≤ greatest ts
le_greatest [] t k low is = absurd (omega arith)
le_greatest (x ∷ ts) t zero low is = omega arith
le_greatest (x ∷ ts) t (suc k) low is = let h = le_greatest ts t k (omega arith) is in omega arith

-- ---- what they tell

abbrev pub final_run : ℕ → ℕ → ℕ → ℕ → List Answered
final_run begin rows total time =
    answered (Call 0 Begin) (Begun begin) ∷ answered (Call 0 Count) (CountReply rows) ∷ answered (Call 0 (Sum 0)) (SumReply total) ∷ answered (Call 0 CommitCall) (Ended time) ∷ []

pub record Totals (history : List Commit) (begin rows total time : ℕ) : Type 0 where
  pub counted : rows ≡ count_of (table_at history (length history))
  pub added : total ≡ sum_of (table_at history (length history)) 0
  pub same : time ≡ begin

module _ (l : Limits) (run : List Answered) (history : List Commit) (front : List Answered) (begin rows total time : ℕ)
    (parts : run ≡ (front ++ answered Phase Silent ∷ []) ++ final_run begin rows total time)
    (told : (time : ℕ) → 0 < time → time ≤ length history → Contains (commit_times run) time)
    (times : AtEachCall (λ before session call reply. TimeIsBounded history (floor_of session before) call reply) run)
    (reads : AtEachCall (λ before session call reply. ReadIsAnswered l history (state_of session before).current call reply) run)
    (refusals : AtEachCall (λ before session call reply. StateIsTold l (state_of session before) call reply) run) where
  abbrev ended : List Answered
  ended = front ++ answered Phase Silent ∷ []

  all_low : length history ≤ greatest (commit_times ended)
  all_low = by_length (length history) refl
    where
      whole : greatest (commit_times run) ≡ max (greatest (commit_times ended)) 0
      whole = ap (λ (ones : List Answered). greatest (commit_times ones)) parts ∙ commits_on ended (final_run begin rows total time)

      by_length : (m : ℕ) → length history ≡ m → m ≤ greatest (commit_times ended)
      by_length zero e = omega arith
      by_length (suc m) e = let has = told (suc m) (omega arith) (omega arith) in let h = le_greatest (commit_times run) (suc m) has.0 has.1 has.2 in let w = whole in omega arith

  bounded : (greatest (commit_times ended) ≤ begin) × (begin ≤ length history)
  bounded =
      let t = times ended 0 Begin (Begun begin) (answered (Call 0 Count) (CountReply rows) ∷ answered (Call 0 (Sum 0)) (SumReply total) ∷ answered (Call 0 CommitCall) (Ended time) ∷ []) parts in
      let e : greatest (commit_times (ended_phases ended)) ≡ greatest (commit_times ended) = ap (λ (ones : List Answered). greatest (commit_times ones)) (ended_whole front) in
      let low : floor_of 0 ended ≤ begin = t.0 in (omega arith, t.1)

  begin_is : begin ≡ length history
  begin_is = let a = all_low in let b = bounded in let x = b.0 in let y = b.1 in omega arith

  abbrev first : Answered
  first = answered (Call 0 Begin) (Begun begin)

  abbrev second : Answered
  second = answered (Call 0 Count) (CountReply rows)

  abbrev third : Answered
  third = answered (Call 0 (Sum 0)) (SumReply total)

  abbrev fourth : Answered
  fourth = answered (Call 0 CommitCall) (Ended time)

  counts : ReadIsAnswered l history (state_from (state_of 0 ended) 0 (first ∷ [])).current Count (CountReply rows)
  counts = subst (λ (st : SessionState). ReadIsAnswered l history st.current Count (CountReply rows)) (state_on unbegun 0 ended (first ∷ []))
      (reads (ended ++ first ∷ []) 0 Count (CountReply rows) (third ∷ fourth ∷ []) (parts ∙ sym (append_assoc ended (first ∷ []) (second ∷ third ∷ fourth ∷ []))))

  adds : ReadIsAnswered l history (state_from (state_of 0 ended) 0 (first ∷ second ∷ [])).current (Sum 0) (SumReply total)
  adds = subst (λ (st : SessionState). ReadIsAnswered l history st.current (Sum 0) (SumReply total)) (state_on unbegun 0 ended (first ∷ second ∷ []))
      (reads (ended ++ first ∷ second ∷ []) 0 (Sum 0) (SumReply total) (fourth ∷ []) (parts ∙ sym (append_assoc ended (first ∷ second ∷ []) (third ∷ fourth ∷ []))))

  closes : StateIsTold l (state_from (state_of 0 ended) 0 (first ∷ second ∷ third ∷ [])) CommitCall (Ended time)
  closes = subst (λ (st : SessionState). StateIsTold l st CommitCall (Ended time)) (state_on unbegun 0 ended (first ∷ second ∷ third ∷ []))
      (refusals (ended ++ first ∷ second ∷ third ∷ []) 0 CommitCall (Ended time) [] (parts ∙ sym (append_assoc ended (first ∷ second ∷ third ∷ []) (fourth ∷ []))))

  ended_time : (a b : ℕ) → Ended a ≡ Ended b → a ≡ b
  ended_time a b e = cc

  pub totals : Totals history begin rows total time
  totals = record {
    counted = counts.sight ∙ ap (λ (b : ℕ). count_of (table_at history b)) begin_is;
    added = adds.sight ∙ ap (λ (b : ℕ). sum_of (table_at history b) 0) begin_is;
    same = ended_time time begin closes.end;
  }
