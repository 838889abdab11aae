-- The floors, one more line at a time.
use Rattle.std.proofs.Common.{◌≡◌, ℕ, max, Bool, true, false, cond, ◌||◌, List, [], ◌∷◌, ◌++◌, Option, Some, None, refl, sym, ap, ◌∙◌, arith}
use Rattle.std.specs.List.{filter, filter_map, list_any}
use Rattle.std.proofs.lemmas.List.{append-nil}
use Rattle.std.proofs.lemmas.List.Elements.{filter-append, filter_map-append}
use Rattle.std.proofs.lemmas.List.Folds.{list_any-append}
use Rattle.lst_replies.specs.Runs.{Answered, is_by, is_phase, commit_time, commit_times}
use Rattle.lst_replies.specs.States.{greatest, time_told, times_told, ended_phases}
use Rattle.lst_legal_runs.specs.declared.floors.Floors.{Floors}
use Rattle.lst_legal_runs.specs.Marks.{number_at}
use Rattle.lst_legal_runs.specs.Floors.{AreFloors, max_with}

-- ---- the greatest of some times

greatest-push : (times : List ℕ) (time : ℕ) → greatest (times ++ time ∷ []) ≡ max (greatest times) time
greatest-push [] time = omega arith
greatest-push (first ∷ times) time = let h = greatest-push times time in omega arith

greatest_more : (times : List ℕ) (time : Option ℕ) (all : List ℕ) → all ≡ times ++ filter_map (λ (t : Option ℕ). t) (time ∷ []) → greatest all ≡ max_with (greatest times) time
greatest_more times None all is = ap greatest (is ∙ append-nil times)
greatest_more times (Some time) all is = ap greatest is ∙ greatest-push times time

filtered_one : {X : Type 0} (h : X → Option ℕ) (x : X) → filter_map h (x ∷ []) ≡ filter_map (λ (t : Option ℕ). t) (h x ∷ [])
filtered_one h x = refl

pub greatest_mapped : {X : Type 0} (h : X → Option ℕ) (xs : List X) (x : X) → greatest (filter_map h (xs ++ x ∷ [])) ≡ max_with (greatest (filter_map h xs)) (h x)
greatest_mapped h xs x = greatest_more (filter_map h xs) (h x) (filter_map h (xs ++ x ∷ [])) (filter_map-append h xs (x ∷ []) ∙ ap (λ rest. filter_map h xs ++ rest) (filtered_one h x))

-- ---- the front up to the last end of a phase

pub ended-phase : (front : List Answered) (one : Answered) → is_phase one.line ≡ true → ended_phases (front ++ one ∷ []) ≡ front ++ one ∷ []
ended-phase [] one is = ap (λ (b : Bool). cond (b || false) (one ∷ []) []) is
ended-phase (first ∷ front) one is =
    ap (λ (b : Bool). cond b (first ∷ ended_phases (front ++ one ∷ [])) []) (has_end (first ∷ front))
    ∙ ap (λ rest. first ∷ rest) (ended-phase front one is)
  where
    or_last : (b c : Bool) → c ≡ true → (b || (c || false)) ≡ true
    or_last true c e = refl
    or_last false true e = refl
    or_last false false e = absurd (cc)

    has_end : (xs : List Answered) → list_any (λ other. is_phase other.line) (xs ++ one ∷ []) ≡ true
    has_end xs = list_any-append (λ other. is_phase other.line) xs (one ∷ []) ∙ or_last (list_any (λ other. is_phase other.line) xs) (is_phase one.line) is

pub ended-other : (front : List Answered) (one : Answered) → is_phase one.line ≡ false → ended_phases (front ++ one ∷ []) ≡ ended_phases front
ended-other [] one is = ap (λ (b : Bool). cond (b || false) (one ∷ []) []) is
ended-other (first ∷ front) one is =
    ap (λ (b : Bool). cond b (first ∷ ended_phases (front ++ one ∷ [])) []) (same_end (first ∷ front))
    ∙ ap (λ rest. cond (list_any (λ other. is_phase other.line) (first ∷ front)) (first ∷ rest) []) (ended-other front one is)
  where
    or_last : (b c : Bool) → c ≡ false → (b || (c || false)) ≡ b
    or_last true c e = refl
    or_last false true e = absurd (cc)
    or_last false false e = refl

    same_end : (xs : List Answered) → list_any (λ other. is_phase other.line) (xs ++ one ∷ []) ≡ list_any (λ other. is_phase other.line) xs
    same_end xs = list_any-append (λ other. is_phase other.line) xs (one ∷ []) ∙ or_last (list_any (λ other. is_phase other.line) xs) (is_phase one.line) is

-- ---- one line on

told_more : (session : ℕ) (front : List Answered) (one : Answered) → greatest (times_told session (front ++ one ∷ [])) ≡ cond (is_by session one) (max_with (greatest (times_told session front)) (time_told one.reply)) (greatest (times_told session front))
told_more session front one = by_test (is_by session one) refl
  where
    by_test : (b : Bool) → is_by session one ≡ b → greatest (times_told session (front ++ one ∷ [])) ≡ cond b (max_with (greatest (times_told session front)) (time_told one.reply)) (greatest (times_told session front))
    by_test true is =
        ap (λ kept. greatest (filter_map (λ one. time_told one.reply) kept)) (filter-append (is_by session) front (one ∷ []) ∙ ap (λ (b : Bool). filter (is_by session) front ++ cond b (one ∷ []) []) is)
        ∙ greatest_mapped (λ one. time_told one.reply) (filter (is_by session) front) one
    by_test false is =
        ap (λ kept. greatest (filter_map (λ one. time_told one.reply) kept)) (filter-append (is_by session) front (one ∷ []) ∙ ap (λ (b : Bool). filter (is_by session) front ++ cond b (one ∷ []) []) is ∙ append-nil (filter (is_by session) front))

-- what a line makes of the floors
pub record Passes (old new : Floors) (one : Answered) : Type 0 where
  pub told : (session : ℕ) → number_at new.told session 0 0 ≡ cond (is_by session one) (max_with (number_at old.told session 0 0) (time_told one.reply)) (number_at old.told session 0 0)
  pub ended : new.ended ≡ cond (is_phase one.line) old.latest old.ended
  pub latest : new.latest ≡ max_with old.latest (commit_time one.reply)
  pub silent : is_phase one.line ≡ true → commit_time one.reply ≡ None

pub floors_pass : (old new : Floors) (one : Answered) → Passes old new one → (front : List Answered) → AreFloors old front → AreFloors new (front ++ one ∷ [])
floors_pass old new one passes front are = record {
  told = λ session. passes.told session ∙ ap (λ n. cond (is_by session one) (max_with n (time_told one.reply)) n) (are.told session) ∙ sym (told_more session front one);
  ended = by_phase (is_phase one.line) refl;
  latest = passes.latest ∙ ap (λ n. max_with n (commit_time one.reply)) are.latest ∙ sym (greatest_mapped (λ one. commit_time one.reply) front one);
}
  where
    by_phase : (b : Bool) → is_phase one.line ≡ b → new.ended ≡ greatest (commit_times (ended_phases (front ++ one ∷ [])))
    by_phase true is =
        passes.ended ∙ ap (λ (b : Bool). cond b old.latest old.ended) is ∙ are.latest
        ∙ ap (λ (t : Option ℕ). max_with (greatest (commit_times front)) t) (sym (passes.silent is))
        ∙ sym (greatest_mapped (λ one. commit_time one.reply) front one)
        ∙ ap (λ xs. greatest (commit_times xs)) (sym (ended-phase front one is))
    by_phase false is =
        passes.ended ∙ ap (λ (b : Bool). cond b old.latest old.ended) is ∙ are.ended
        ∙ ap (λ xs. greatest (commit_times xs)) (sym (ended-other front one is))
