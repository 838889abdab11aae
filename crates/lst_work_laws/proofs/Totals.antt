-- What the lines of all sessions make together.
use Rattle.std.proofs.Common.{◌≡◌, ℕ, ◌+◌, ◌<◌, ◌≤◌, List, [], ◌∷◌, Bool, true, false, cond, eqb, length, get_or, Option, Some, IfSome, refl, sym, subst, ap, ◌∙◌, arith}
use Rattle.std.specs.List.{filter, count_by, sum_by, AllByRecursion}
use Rattle.std.proofs.lemmas.Bool.{eqb-true, eqb-false, ne_eqb}
use Rattle.std.proofs.lemmas.Grind.{get_or_after_one}
use Rattle.std.proofs.lemmas.List.Sums.{sum_by-cons}
use Rattle.lst_layout.specs.declared.limits.Limits.{Limits}
use Rattle.lst_model.specs.declared.lines.Line.{Line}
use Rattle.lst_model.specs.declared.lines.Line.TheVariants.{Phase, Merge, Call}
use Rattle.lst_model.specs.declared.replies.Reply.{Reply}
use Rattle.lst_model.specs.Lines.{LineFits}
use Rattle.lst_replies.specs.Runs.{Answered, answered, run_of, names, is_by, speaker_of, is_accepted, may_take_record}
use Rattle.lst_session.specs.declared.session.Session.{Session}

-- ---- lines that pass a test, session by session

module _ (p : Answered → Bool) where
  -- how many lines of the session k pass, and of those after it, one for each element of the list
  abbrev spread : List Answered → ℕ → List Session → ℕ
  spread run k [] = 0
  spread run k (x ∷ xs) = count_by p (filter (is_by k) run) + spread run (k + 1) xs

  spread_none : (k : ℕ) (xs : List Session) → spread [] k xs ≡ 0
  spread_none k [] = refl
  spread_none k (x ∷ xs) = let h = spread_none (k + 1) xs in omega arith

  own_counts : (k : ℕ) (one : Answered) (run : List Answered) → is_by k one ≡ true → count_by p (filter (is_by k) (one ∷ run)) ≡ cond {A = ℕ} (p one) 1 0 + count_by p (filter (is_by k) run)
  own_counts k one run is = ap (λ (t : Bool). count_by p (cond t (one ∷ filter (is_by k) run) (filter (is_by k) run))) is ∙ sum_by-cons (λ (x : Answered). cond {A = ℕ} (p x) 1 0) one (filter (is_by k) run)

  not_counted : (k : ℕ) (one : Answered) (run : List Answered) → is_by k one ≡ false → count_by p (filter (is_by k) (one ∷ run)) ≡ count_by p (filter (is_by k) run)
  not_counted k one run is = ap (λ (t : Bool). count_by p (cond t (one ∷ filter (is_by k) run) (filter (is_by k) run))) is

  fails : (one : Answered) (run : List Answered) (k : ℕ) (xs : List Session) → p one ≡ false → spread (one ∷ run) k xs ≡ spread run k xs
  fails one run k [] fault = refl
  fails one run k (x ∷ xs) fault = let h = fails one run (k + 1) xs fault in let e = by_test (is_by k one) refl in omega arith
    where
      by_test : (b : Bool) → is_by k one ≡ b → count_by p (filter (is_by k) (one ∷ run)) ≡ count_by p (filter (is_by k) run)
      by_test true is =
          let a = own_counts k one run is in let b : cond {A = ℕ} (p one) 1 0 ≡ 0 = ap (λ (t : Bool). cond {A = ℕ} t 1 0) fault in omega arith
      by_test false is = not_counted k one run is

  module _ (one : Answered) (run : List Answered) (t : ℕ) (by : speaker_of one.line ≡ Some t) where
    other : (k : ℕ) → ¬ (t ≡ k) → count_by p (filter (is_by k) (one ∷ run)) ≡ count_by p (filter (is_by k) run)
    other k fault = not_counted k one run (ap (names k) by ∙ ne_eqb t k fault)

    before_all : (k : ℕ) (xs : List Session) → t < k → spread (one ∷ run) k xs ≡ spread run k xs
    before_all k [] low = refl
    before_all k (x ∷ xs) low = let h = before_all (k + 1) xs (omega arith) in let e = other k (λ is. absurd (omega arith)) in omega arith

    among : (k : ℕ) (xs : List Session) → p one ≡ true → k ≤ t → t < k + length xs → spread (one ∷ run) k xs ≡ 1 + spread run k xs
    among k [] passes low high = absurd (omega arith)
    among k (x ∷ xs) passes low high = by_test (eqb t k) refl (λ above. among (k + 1) xs passes above (omega arith))
      where
        by_test : (b : Bool) → eqb t k ≡ b → (k + 1 ≤ t → spread (one ∷ run) (k + 1) xs ≡ 1 + spread run (k + 1) xs) → spread (one ∷ run) k (x ∷ xs) ≡ 1 + spread run k (x ∷ xs)
        by_test true is rest =
            let same = eqb-true t k is in
            let e : count_by p (filter (is_by k) (one ∷ run)) ≡ 1 + count_by p (filter (is_by k) run) = own_counts k one run (ap (names k) by ∙ is) ∙ ap (λ (b : Bool). cond {A = ℕ} b 1 0 + count_by p (filter (is_by k) run)) passes in
            let h = before_all (k + 1) xs (omega arith) in omega arith
        by_test false is rest = let fault = eqb-false t k is in let h = rest (omega arith) in let e = other k fault in omega arith

  module _ (spoken : (one : Answered) → p one ≡ true → (t : ℕ) × (speaker_of one.line ≡ Some t)) where
    pub spread_all : (xs : List Session) (run : List Answered) → AllByRecursion (λ (one : Answered). IfSome (speaker_of one.line) (λ t. t < length xs)) run → spread run 0 xs ≡ count_by p run
    spread_all xs [] all = spread_none 0 xs
    spread_all xs (one ∷ run) all = by_test (p one) refl (spread_all xs run all.1)
      where
        by_test : (b : Bool) → p one ≡ b → spread run 0 xs ≡ count_by p run → spread (one ∷ run) 0 xs ≡ count_by p (one ∷ run)
        by_test true passes rest =
            let t = spoken one passes in let low : t.0 < length xs = subst (λ (o : Option ℕ). IfSome o (λ s. s < length xs)) t.1 all.0 in
            let a = among one run t.0 t.1 0 xs passes (omega arith) (omega arith) in
            let b : count_by p (one ∷ run) ≡ 1 + count_by p run = sum_by-cons (λ (x : Answered). cond {A = ℕ} (p x) 1 0) one run ∙ ap (λ (b : Bool). cond {A = ℕ} b 1 0 + count_by p run) passes in
            omega arith
        by_test false fault rest =
            let a = fails one run 0 xs fault in
            let b = sum_by-cons (λ (x : Answered). cond {A = ℕ} (p x) 1 0) one run in let c : cond {A = ℕ} (p one) 1 0 ≡ 0 = ap (λ (b : Bool). cond {A = ℕ} b 1 0) fault in
            omega arith

  -- ---- sums over sessions

  pub sum_same : (f : Session → ℕ) (run : List Answered) (k : ℕ) (xs : List Session) → ((i : ℕ) (d : Session) → i < length xs → f (get_or xs i d) ≡ count_by p (filter (is_by (k + i)) run)) → sum_by f xs ≡ spread run k xs
  sum_same f run k [] each = refl
  sum_same f run k (x ∷ xs) each =
      let first : f x ≡ count_by p (filter (is_by k) run) = subst (λ (n : ℕ). f x ≡ count_by p (filter (is_by n) run)) (omega arith) (each 0 x (omega arith)) in
      let rest = sum_same f run (k + 1) xs (λ i d low. ap f (get_or_after_one (x ∷ xs) i d) ∙ subst (λ (n : ℕ). f (get_or (x ∷ xs) (1 + i) d) ≡ count_by p (filter (is_by n) run)) (omega arith) (each (1 + i) d (omega arith))) in
      let e = sum_by-cons f x xs in omega arith

  pub sum_low : (f : Session → ℕ) (run : List Answered) (k : ℕ) (xs : List Session) → ((i : ℕ) (d : Session) → i < length xs → f (get_or xs i d) ≤ count_by p (filter (is_by (k + i)) run)) → sum_by f xs ≤ spread run k xs
  sum_low f run k [] each = omega arith
  sum_low f run k (x ∷ xs) each =
      let first : f x ≤ count_by p (filter (is_by k) run) = subst (λ (n : ℕ). f x ≤ count_by p (filter (is_by n) run)) (omega arith) (each 0 x (omega arith)) in
      let rest = sum_low f run (k + 1) xs (λ i d low. subst (λ (n : ℕ). n ≤ count_by p (filter (is_by (k + 1 + i)) run)) (sym (ap f (get_or_after_one (x ∷ xs) i d)))
      (subst (λ (n : ℕ). f (get_or (x ∷ xs) (1 + i) d) ≤ count_by p (filter (is_by n) run)) (omega arith) (each (1 + i) d (omega arith)))) in
      let e = sum_by-cons f x xs in omega arith

-- ---- who is counted

pub accepted_spoken : (one : Answered) → is_accepted one ≡ true → (t : ℕ) × (speaker_of one.line ≡ Some t)
accepted_spoken one e = by_line one.line one.reply e
  where
    by_line : (line : Line) (reply : Reply) → is_accepted (answered line reply) ≡ true → (t : ℕ) × (speaker_of line ≡ Some t)
    by_line Phase reply e = absurd (cc)
    by_line (Merge range column) reply e = absurd (cc)
    by_line (Call t call) reply e = (t, refl)

pub record_spoken : (one : Answered) → may_take_record one ≡ true → (t : ℕ) × (speaker_of one.line ≡ Some t)
record_spoken one e = by_line one.line one.reply e
  where
    by_line : (line : Line) (reply : Reply) → may_take_record (answered line reply) ≡ true → (t : ℕ) × (speaker_of line ≡ Some t)
    by_line Phase reply e = absurd (cc)
    by_line (Merge range column) reply e = absurd (cc)
    by_line (Call t call) reply e = (t, refl)

-- ---- who speaks in a script

module _ (n : ℕ) where
  abbrev IsWithin : Line → Type 0
  IsWithin line = IfSome (speaker_of line) (λ t. t < n)

  pub all_within : (l : Limits) (lines : List Line) → l.sessions ≡ n → AllByRecursion (λ line. LineFits l.sessions l.ranges l.columns line) lines → AllByRecursion IsWithin lines
  all_within l [] is all = tt
  all_within l (Phase ∷ lines) is all = (tt, all_within l lines is all.1)
  all_within l (Merge range column ∷ lines) is all = (tt, all_within l lines is all.1)
  all_within l (Call t call ∷ lines) is all = (subst (λ (m : ℕ). t < m) is all.0.0, all_within l lines is all.1)

  pub run_within : (lines : List Line) (replies : List (Option ℕ × Reply)) → AllByRecursion IsWithin lines → AllByRecursion (λ (one : Answered). IfSome (speaker_of one.line) (λ t. t < n)) (run_of lines replies)
  run_within [] replies all = tt
  run_within (Phase ∷ lines) replies all = (tt, run_within lines replies all.1)
  run_within (Merge range column ∷ lines) [] all = tt
  run_within (Merge range column ∷ lines) (reply ∷ replies) all = (tt, run_within lines replies all.1)
  run_within (Call t call ∷ lines) [] all = tt
  run_within (Call t call ∷ lines) (reply ∷ replies) all = (all.0, run_within lines replies all.1)
