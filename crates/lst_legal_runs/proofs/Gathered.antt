-- The commits that a run tells, one more line at a time.
use Rattle.std.proofs.Common.{◌≡◌, ◌≢◌, ℕ, zero, suc, ◌+◌, ◌-◌, ◌<◌, ◌≤◌, Bool, true, false, cond, eqb, List, [], ◌∷◌, ◌++◌, length, get_or, set, map, replicate, Option, Some, None, IfSome, refl, sym, ap, ◌∙◌, subst, arith, ◌⊎◌, inl, inr, ⊎_elim}
use Rattle.std.specs.Prelude.{slice_get, IsSomeAnd}
use Rattle.std.specs.List.{Contains, AllPairs, cons_option}
use Rattle.std.proofs.lemmas.Bool.{eqb-true, eqb-false, ne_eqb}
use Rattle.std.proofs.lemmas.List.{append-nil, get_or-set_same, get_or-set_other, length-set, length-map, length-append, length-replicate, get_or_past, get_or-map, same_lists, get_or_default, get_or_append_left, get_or_at}
use Rattle.std.proofs.lemmas.List.Elements.{filter_map-append, Contains-append_left, Contains-push, Contains-push_cases, Contains-get_or, All-from_get_or}
use Rattle.std.proofs.lemmas.List.Quantifiers.{all_pairs_push}
use Rattle.std.proofs.lemmas.Option.{same_Some, none-some, slice_get_within, get_or_from_slice_get, slice_get_cases}
use Rattle.lst_model.specs.declared.commits.Commit.{Commit}
use Rattle.lst_model.specs.declared.lines.Line.{Line}
use Rattle.lst_model.specs.declared.lines.Line.TheVariants.{Phase, Merge, Call}
use Rattle.lst_model.specs.declared.lines.Call.{Call as CallKind}
use Rattle.lst_model.specs.declared.replies.Reply.{Reply}
use Rattle.lst_model.specs.Histories.{StandByKey, AreByKey}
use Rattle.lst_replies.specs.declared.reports.Stamp.{Stamp}
use Rattle.lst_replies.specs.declared.states.Transaction.{Transaction}
use Rattle.lst_replies.specs.Runs.{Answered, answered, commit_time, commit_times}
use Rattle.lst_replies.specs.States.{state_of, commit_of}
use Rattle.lst_replies.specs.Explained.{commit_at}
use Rattle.lst_replies.specs.Legal.{stamp_of, IsEntered}
use Rattle.lst_legal_runs.specs.Places.{AtEach, IfCall}
use Rattle.lst_legal_runs.specs.Gathering.{IsTold, HasSlot, IsEnteredIn, AreGathered, CanEnter}
use Rattle.lst_legal_runs.proofs.Splits.{at_each_push, calls_of}

-- ---- the commit at a time

at_suc : (history : List Commit) (place : ℕ) → commit_at history (place + 1) ≡ slice_get history place
at_suc history place =
    ap (λ (b : Bool). cond b None (slice_get history (place + 1 - 1))) (ne_eqb (place + 1) 0 (λ e. absurd (omega arith)))
    ∙ ap (slice_get history) (omega arith)

-- a time that has a commit
record IsAt (history : List Commit) (time : ℕ) (commit : Commit) : Type 0 where
  place : ℕ
  is : time ≡ place + 1
  here : slice_get history place ≡ Some commit

is_at : (history : List Commit) (time : ℕ) (commit : Commit) → commit_at history time ≡ Some commit → IsAt history time commit
is_at history time commit e = by_test (eqb time 0) refl e
  where
    by_test : (b : Bool) → eqb time 0 ≡ b → cond b None (slice_get history (time - 1)) ≡ Some commit → IsAt history time commit
    by_test true is h = absurd (none-some commit h)
    by_test false is h =
        let above : ¬ (time ≡ 0) = eqb-false time 0 is in
        record { place = time - 1; is = omega arith; here = h }

-- ---- the times of commits

times_silent : (front : List Answered) (one : Answered) → commit_time one.reply ≡ None → commit_times (front ++ one ∷ []) ≡ commit_times front
times_silent front one silent =
    filter_map-append (λ one. commit_time one.reply) front (one ∷ [])
    ∙ ap (λ (t : Option ℕ). commit_times front ++ cons_option t []) silent ∙ append-nil (commit_times front)

times_told : (front : List Answered) (one : Answered) (rest : List Answered) (time : ℕ) → commit_time one.reply ≡ Some time → commit_times (front ++ one ∷ rest) ≡ commit_times front ++ time ∷ commit_times rest
times_told front one rest time told =
    filter_map-append (λ one. commit_time one.reply) front (one ∷ rest)
    ∙ ap (λ (t : Option ℕ). commit_times front ++ cons_option t (commit_times rest)) told

-- ---- slots

module _ (slots : List (Option Commit)) (place : ℕ) (commit : Commit) where
  slot_here : place < length slots → get_or (set slots place (Some commit)) place None ≡ Some commit
  slot_here below = get_or-set_same slots place (Some commit) None below

  slot_cases : (other : ℕ) (found : Commit) → place < length slots → get_or (set slots place (Some commit)) other None ≡ Some found → ((other ≡ place) × (found ≡ commit)) ⊎ (get_or slots other None ≡ Some found)
  slot_cases other found below e = by_test (eqb other place) refl
    where
      by_test : (b : Bool) → eqb other place ≡ b → ((other ≡ place) × (found ≡ commit)) ⊎ (get_or slots other None ≡ Some found)
      by_test true is =
          let same : other ≡ place = eqb-true other place is in
          inl (same, sym (same_Some commit found (sym (slot_here below) ∙ subst (λ (n : ℕ). get_or (set slots place (Some commit)) n None ≡ Some found) same e)))
      by_test false is = inr (sym (get_or-set_other slots place other (Some commit) None (eqb-false other place is)) ∙ e)

  slot_kept : (other : ℕ) (found : Commit) → get_or slots place None ≡ None → get_or slots other None ≡ Some found → get_or (set slots place (Some commit)) other None ≡ Some found
  slot_kept other found free e =
      get_or-set_other slots place other (Some commit) None (λ same. none-some found (sym free ∙ subst (λ (n : ℕ). get_or slots n None ≡ Some found) same e)) ∙ e

  has_kept : (time : ℕ) (found : Commit) → get_or slots place None ≡ None → HasSlot slots time found → HasSlot (set slots place (Some commit)) time found
  has_kept time found free has = record { place = has.place; is = has.is; here = slot_kept has.place found free has.here }

-- ---- nothing yet

abbrev pub no_slots : ℕ → List (Option Commit)
no_slots count = replicate count None

all_none : (count place : ℕ) → get_or (no_slots count) place None ≡ None
all_none zero place = refl
all_none (suc count) zero = refl
all_none (suc count) (suc place) = all_none count place

module _ (run : List Answered) (stamps : List Stamp) where
  none_yet : (place : ℕ) (commit : Commit) → get_or (no_slots (length stamps)) place None ≡ Some commit → ⊥
  none_yet place commit e = none-some commit (sym (all_none (length stamps) place) ∙ e)

  pub gathered_none : (slots : List (Option Commit)) → slots ≡ no_slots (length stamps) → AreGathered run stamps slots []
  gathered_none slots is = subst (λ (ss : List (Option Commit)). AreGathered run stamps ss []) (sym is) (record {
    size = length-replicate (length stamps) none_here;
    entered = none;
    named = λ place commit d e. absurd (none_yet place commit e);
    found = λ place commit e. absurd (none_yet place commit e);
    kept = λ time has. absurd (omega (arith, has.1));
    once = λ i j d less below. absurd (omega arith);
    only = λ history told place commit e. absurd (none_yet place commit e);
    ordered = λ place commit e. absurd (none_yet place commit e);
  })
    where
      none_here : Option Commit
      none_here = None

      none : AtEach (IsEnteredIn (no_slots (length stamps))) []
      none [] one after e = absurd (cc)
      none (b ∷ before) one after e = absurd (cc)

  -- ---- a line that tells no commit

  entered_silent : (slots : List (Option Commit)) (front : List Answered) (line : Line) (reply : Reply) → commit_time reply ≡ None → IsEnteredIn slots front (answered line reply)
  entered_silent slots front Phase reply silent = tt
  entered_silent slots front (Merge range column) reply silent = tt
  entered_silent slots front (Call session call) reply silent =
      subst (λ (t : Option ℕ). IfSome t (λ time. IsSomeAnd (state_of session front).current (λ transaction. HasSlot slots time (commit_of session transaction)))) (sym silent) tt

  pub gathered_silent : (slots : List (Option Commit)) (front : List Answered) (one : Answered) → commit_time one.reply ≡ None → AreGathered run stamps slots front → AreGathered run stamps slots (front ++ one ∷ [])
  gathered_silent slots front one silent are =
      let same : commit_times front ≡ commit_times (front ++ one ∷ []) = sym (times_silent front one silent) in
      record {
        size = are.size;
        entered = at_each_push (IsEnteredIn slots) front one are.entered (entered_silent slots front one.line one.reply silent);
        named = are.named;
        found = λ place commit e. subst (λ (ts : List ℕ). Contains ts (place + 1)) same (are.found place commit e);
        kept = λ time has. are.kept time (subst (λ (ts : List ℕ). Contains ts time) (sym same) has);
        once = subst (AllPairs (λ time other. time ≢ other)) same are.once;
        only = are.only;
        ordered = are.ordered;
      }

  -- ---- a line that tells one

  module _ (slots : List (Option Commit)) (front rest : List Answered) (session : ℕ) (call : CallKind) (reply : Reply) (time : ℕ) (transaction : Transaction) where
    -- what any history that matches has there
    told_at : run ≡ front ++ answered (Call session call) reply ∷ rest → commit_time reply ≡ Some time → (state_of session front).current ≡ Some transaction
        → (history : List Commit) → IsTold run stamps history → commit_at history time ≡ Some (commit_of session transaction)
    told_at is tells opened history told =
        let here = told.entered front session call reply rest is in
        let timed : IsSomeAnd (state_of session front).current (λ t. commit_at history time ≡ Some (commit_of session t)) =
        subst (λ (t : Option ℕ). IfSome t (λ time. IsSomeAnd (state_of session front).current (λ transaction. commit_at history time ≡ Some (commit_of session transaction)))) tells here in
        subst (λ (o : Option Transaction). IsSomeAnd o (λ t. commit_at history time ≡ Some (commit_of session t))) opened timed

    pub gathered_more : run ≡ front ++ answered (Call session call) reply ∷ rest → commit_time reply ≡ Some time → (state_of session front).current ≡ Some transaction → StandByKey transaction.writes
        → AreGathered run stamps slots front → CanEnter slots stamps time (stamp_of (commit_of session transaction))
        → AreGathered run stamps (set slots (time - 1) (Some (commit_of session transaction))) (front ++ answered (Call session call) reply ∷ [])
    gathered_more is tells opened stands are can =
        let same : time - 1 ≡ can.place = omega (arith, can.is) in
        subst (λ (n : ℕ). AreGathered run stamps (set slots n (Some commit)) (front ++ answered (Call session call) reply ∷ [])) (sym same) (more can (subst (λ (n : ℕ). can.place < n) (sym are.size) can.within))
      where
        commit : Commit
        commit = commit_of session transaction

        all_times : commit_times (front ++ answered (Call session call) reply ∷ []) ≡ commit_times front ++ time ∷ []
        all_times = times_told front (answered (Call session call) reply) [] time tells

        more : (can : CanEnter slots stamps time (stamp_of commit)) → can.place < length slots → AreGathered run stamps (set slots can.place (Some commit)) (front ++ answered (Call session call) reply ∷ [])
        more can below = record {
          size = length-set slots can.place (Some commit) ∙ are.size;
          entered = at_each_push (IsEnteredIn (set slots can.place (Some commit))) front (answered (Call session call) reply)
              (λ before one after e. kept_entered before one.line one.reply (are.entered before one after e))
              entered_here;
          named = λ place found d e. ⊎_elim (λ h. ap stamp_of h.1 ∙ sym (can.named d) ∙ ap (λ n. get_or stamps n d) (sym h.0)) (λ h. are.named place found d h) (slot_cases slots can.place commit place found below e);
          found = λ place found e. subst (λ (ts : List ℕ). Contains ts (place + 1)) (sym all_times)
              (⊎_elim (λ h. subst (Contains (commit_times front ++ time ∷ [])) (can.is ∙ ap (λ n. n + 1) (sym h.0)) (Contains-push (commit_times front) time)) (λ h. Contains-append_left (commit_times front) (time ∷ []) (place + 1) (are.found place found h)) (slot_cases slots can.place commit place found below e));
          kept = λ other has. ⊎_elim
              (λ h. let old = are.kept other h in (old.0, has_kept slots can.place commit other old.0 can.free old.1))
              (λ h. (commit, record { place = can.place; is = sym h ∙ can.is; here = slot_here slots can.place commit below }))
              (Contains-push_cases (commit_times front) time other (subst (λ (ts : List ℕ). Contains ts other) all_times has));
          once = subst (AllPairs (λ time other. time ≢ other)) (sym all_times) (all_pairs_push (λ time other. time ≢ other) (commit_times front) time are.once (λ k d k_below same. apart (subst (Contains (commit_times front)) same (Contains-get_or (commit_times front) k d k_below))));
          only = λ history told place found e. ⊎_elim
              (λ h. subst (λ (c : Commit). slice_get history place ≡ Some c) (sym h.1) (subst (λ (n : ℕ). slice_get history n ≡ Some commit) (sym h.0) (sym (at_suc history can.place) ∙ ap (commit_at history) (sym can.is) ∙ told_at is tells opened history told)))
              (λ h. are.only history told place found h)
              (slot_cases slots can.place commit place found below e);
          ordered = λ place found e. ⊎_elim (λ h. subst (λ (c : Commit). StandByKey c.writes) (sym h.1) stands) (λ h. are.ordered place found h) (slot_cases slots can.place commit place found below e);
        }
          where
            apart : ¬ (Contains (commit_times front) time)
            apart has =
                let old = are.kept time has in
                let here : get_or slots can.place None ≡ Some old.0 = subst (λ (n : ℕ). get_or slots n None ≡ Some old.0) (omega (arith, old.1.is, can.is)) old.1.here in
                none-some old.0 (sym can.free ∙ here)

            kept_entered : (before : List Answered) (line : Line) (told : Reply) → IsEnteredIn slots before (answered line told) → IsEnteredIn (set slots can.place (Some commit)) before (answered line told)
            kept_entered before Phase told h = tt
            kept_entered before (Merge range column) told h = tt
            kept_entered before (Call speaker other) told h = by_time (commit_time told) h
              where
                by_state : (t : ℕ) (current : Option Transaction) → IsSomeAnd current (λ transaction. HasSlot slots t (commit_of speaker transaction)) → IsSomeAnd current (λ transaction. HasSlot (set slots can.place (Some commit)) t (commit_of speaker transaction))
                by_state t None k = k
                by_state t (Some tr) k = has_kept slots can.place commit t (commit_of speaker tr) can.free k

                by_time : (t : Option ℕ) → IfSome t (λ time. IsSomeAnd (state_of speaker before).current (λ transaction. HasSlot slots time (commit_of speaker transaction))) → IfSome t (λ time. IsSomeAnd (state_of speaker before).current (λ transaction. HasSlot (set slots can.place (Some commit)) time (commit_of speaker transaction)))
                by_time None k = tt
                by_time (Some t) k = by_state t (state_of speaker before).current k

            entered_here : IsEnteredIn (set slots can.place (Some commit)) front (answered (Call session call) reply)
            entered_here =
                subst (λ (t : Option ℕ). IfSome t (λ time. IsSomeAnd (state_of session front).current (λ transaction. HasSlot (set slots can.place (Some commit)) time (commit_of session transaction)))) (sym tells)
                (subst (λ (o : Option Transaction). IsSomeAnd o (λ transaction. HasSlot (set slots can.place (Some commit)) time (commit_of session transaction))) (sym opened)
                (record { place = can.place; is = can.is; here = slot_here slots can.place commit below }))

    -- where a history matches, the commit can be entered
    pub can_enter : run ≡ front ++ answered (Call session call) reply ∷ rest → commit_time reply ≡ Some time → (state_of session front).current ≡ Some transaction
        → AreGathered run stamps slots front → (history : List Commit) → IsTold run stamps history → CanEnter slots stamps time (stamp_of (commit_of session transaction))
    can_enter is tells opened are history told =
        let at = is_at history time (commit_of session transaction) (told_at is tells opened history told) in
        let below : at.place < length history = slice_get_within history at.place (commit_of session transaction) at.here in
        let size : length stamps ≡ length history = sym (ap length told.named) ∙ length-map history stamp_of in
        record {
          place = at.place;
          is = at.is;
          within = omega arith;
          free = is_free at (get_or slots at.place None) refl;
          named = λ none. ap (λ ss. get_or ss at.place none) (sym told.named) ∙ get_or-map stamp_of history at.place (commit_of session transaction) none below ∙ ap stamp_of (get_or_from_slice_get history at.place (commit_of session transaction) (commit_of session transaction) at.here);
        }
      where
        is_free : (at : IsAt history time (commit_of session transaction)) (o : Option Commit) → get_or slots at.place None ≡ o → get_or slots at.place None ≡ None
        is_free at None e = e
        is_free at (Some c) e =
            let has : Contains (commit_times front) time = subst (Contains (commit_times front)) (sym at.is) (are.found at.place c e) in
            absurd (twice has)
          where
            all_times : commit_times run ≡ commit_times front ++ time ∷ commit_times rest
            all_times = ap commit_times is ∙ times_told front (answered (Call session call) reply) rest time tells

            twice : ¬ (Contains (commit_times front) time)
            twice has =
                let once = subst (AllPairs (λ time other. time ≢ other)) all_times told.once in
                let early : get_or (commit_times front ++ time ∷ commit_times rest) has.0 time ≡ time = get_or_append_left (commit_times front) (time ∷ commit_times rest) time has.0 has.1 ∙ has.2 in
                let late : get_or (commit_times front ++ time ∷ commit_times rest) (length (commit_times front)) time ≡ time = get_or_at (commit_times front) time (commit_times rest) time (length (commit_times front)) refl in
                once has.0 (length (commit_times front)) time has.1 (omega (arith, length-append (commit_times front) (time ∷ commit_times rest))) (early ∙ sym late)

    -- where a history matches, the session has an open transaction
    pub no_open : run ≡ front ++ answered (Call session call) reply ∷ rest → commit_time reply ≡ Some time → (state_of session front).current ≡ None → (history : List Commit) → ¬ (IsTold run stamps history)
    no_open is tells closed history told =
        let here = told.entered front session call reply rest is in
        let timed : IsSomeAnd (state_of session front).current (λ t. commit_at history time ≡ Some (commit_of session t)) =
        subst (λ (t : Option ℕ). IfSome t (λ time. IsSomeAnd (state_of session front).current (λ transaction. commit_at history time ≡ Some (commit_of session transaction)))) tells here in
        subst (λ (o : Option Transaction). IsSomeAnd o (λ t. commit_at history time ≡ Some (commit_of session t))) closed timed

  -- ---- all lines

  -- a history that matches has just the commits that were found
  pub told_is : (slots : List (Option Commit)) → AreGathered run stamps slots run → (history : List Commit) → IsTold run stamps history → map (λ commit. Some commit) history ≡ slots
  told_is slots are history told =
      let size : length stamps ≡ length history = sym (ap length told.named) ∙ length-map history stamp_of in
      same_lists (map (λ commit. Some commit) history) slots (length-map history (λ commit. Some commit) ∙ sym size ∙ sym are.size)
      (λ k d below.
      let k_below : k < length history = omega (arith, length-map history (λ (commit : Commit). Some commit)) in
      let has = are.kept (k + 1) (told.told (k + 1) (omega arith) (omega arith)) in
      let here : get_or slots k None ≡ Some has.0 = subst (λ (n : ℕ). get_or slots n None ≡ Some has.0) (omega (arith, has.1.is)) has.1.here in
      let found : slice_get history k ≡ Some has.0 = are.only history told k has.0 here in
      get_or-map (λ commit. Some commit) history k has.0 d k_below ∙ ap (λ c. Some c) (get_or_from_slice_get history k has.0 has.0 found) ∙ sym here ∙ get_or_default slots k None d (omega (arith, are.size)))

  slot_of : (slots : List (Option Commit)) (commits : List Commit) → map (λ commit. Some commit) commits ≡ slots → (k : ℕ) (d : Commit) → k < length commits → get_or slots k None ≡ Some (get_or commits k d)
  slot_of slots commits is k d below = ap (λ ss. get_or ss k None) (sym is) ∙ get_or-map (λ commit. Some commit) commits k d None below

  slot_within : (slots : List (Option Commit)) (commits : List Commit) → map (λ commit. Some commit) commits ≡ slots → (k : ℕ) (c : Commit) → get_or slots k None ≡ Some c → slice_get commits k ≡ Some c
  slot_within slots [] is k c e = absurd (none-some c (ap (λ ss. get_or ss k None) is ∙ e))
  slot_within slots (x ∷ xs) is k c e = within (slice_get_cases (x ∷ xs) k).1
    where
      within : ((y : Commit) × (k < length (x ∷ xs)) × (slice_get (x ∷ xs) k ≡ Some y) × (get_or (x ∷ xs) k y ≡ y)) ⊎ ((length (x ∷ xs) ≤ k) × (slice_get (x ∷ xs) k ≡ None)) → slice_get (x ∷ xs) k ≡ Some c
      within (inl h) = h.2 ∙ ap (λ z. Some z) (sym h.3) ∙ sym (slot_of slots (x ∷ xs) is k h.0 h.1) ∙ e
      within (inr h) = absurd (none-some c (sym (get_or_past slots k None (omega (arith, h.0, ap length is, length-map (x ∷ xs) (λ (commit : Commit). Some commit)))) ∙ e))

  pub gathered_told : (slots : List (Option Commit)) (commits : List Commit) → AreGathered run stamps slots run → map (λ commit. Some commit) commits ≡ slots → IsTold run stamps commits
  gathered_told slots commits are is =
      let size : length commits ≡ length slots = sym (length-map commits (λ commit. Some commit)) ∙ ap length is in
      record {
        named = same_lists (map stamp_of commits) stamps (length-map commits stamp_of ∙ size ∙ are.size)
            (λ k d below.
            let k_below : k < length commits = omega (arith, length-map commits stamp_of) in
            named_at k d k_below (slice_get commits k) refl);
        entered = calls_of (IsEntered commits) run (λ before one after e. entered_now before one.line one.reply (are.entered before one after e));
        told = λ time above most.
            told_time time above most (slice_get commits (time - 1)) refl;
        once = are.once;
      }
    where
      size : length commits ≡ length slots
      size = sym (length-map commits (λ commit. Some commit)) ∙ ap length is

      named_at : (k : ℕ) (d : Stamp) → k < length commits → (o : Option Commit) → slice_get commits k ≡ o → get_or (map stamp_of commits) k d ≡ get_or stamps k d
      named_at k d below None e = absurd (past k below e)
        where
          past : (k : ℕ) → k < length commits → slice_get commits k ≡ None → ⊥
          past k below e = from (slice_get_cases commits k).1
            where
              from : ((y : Commit) × (k < length commits) × (slice_get commits k ≡ Some y) × (get_or commits k y ≡ y)) ⊎ ((length commits ≤ k) × (slice_get commits k ≡ None)) → ⊥
              from (inl h) = none-some h.0 (sym e ∙ h.2)
              from (inr h) = absurd (omega (arith, h.0))
      named_at k d below (Some c) e =
          let at : get_or commits k c ≡ c = get_or_from_slice_get commits k c c e in
          get_or-map stamp_of commits k c d below ∙ ap stamp_of at ∙ are.named k c d (slot_of slots commits is k c below ∙ ap (λ z. Some z) at)

      told_time : (time : ℕ) → 0 < time → time ≤ length commits → (o : Option Commit) → slice_get commits (time - 1) ≡ o → Contains (commit_times run) time
      told_time time above most None e = from (slice_get_cases commits (time - 1)).1
        where
          from : ((y : Commit) × (time - 1 < length commits) × (slice_get commits (time - 1) ≡ Some y) × (get_or commits (time - 1) y ≡ y)) ⊎ ((length commits ≤ time - 1) × (slice_get commits (time - 1) ≡ None)) → Contains (commit_times run) time
          from (inl h) = absurd (none-some h.0 (sym e ∙ h.2))
          from (inr h) = absurd (omega (arith, h.0))
      told_time time above most (Some c) e =
          let below : time - 1 < length commits = omega arith in
          let at : get_or commits (time - 1) c ≡ c = get_or_from_slice_get commits (time - 1) c c e in
          subst (Contains (commit_times run)) (omega arith) (are.found (time - 1) c (slot_of slots commits is (time - 1) c below ∙ ap (λ z. Some z) at))

      entered_now : (before : List Answered) (line : Line) (reply : Reply) → IsEnteredIn slots before (answered line reply) → IfCall (λ session call told. IsEntered commits before session call told) line reply
      entered_now before Phase reply h = tt
      entered_now before (Merge range column) reply h = tt
      entered_now before (Call session call) reply h = by_time (commit_time reply) h
        where
          by_state : (t : ℕ) (current : Option Transaction) → IsSomeAnd current (λ transaction. HasSlot slots t (commit_of session transaction)) → IsSomeAnd current (λ transaction. commit_at commits t ≡ Some (commit_of session transaction))
          by_state t None k = k
          by_state t (Some tr) k = ap (commit_at commits) k.is ∙ at_suc commits k.place ∙ slot_within slots commits is k.place (commit_of session tr) k.here

          by_time : (t : Option ℕ) → IfSome t (λ time. IsSomeAnd (state_of session before).current (λ transaction. HasSlot slots time (commit_of session transaction))) → IfSome t (λ time. IsSomeAnd (state_of session before).current (λ transaction. commit_at commits time ≡ Some (commit_of session transaction)))
          by_time None k = tt
          by_time (Some t) k = by_state t (state_of session before).current k

  pub gathered_ordered : (slots : List (Option Commit)) (commits : List Commit) → AreGathered run stamps slots run → map (λ commit. Some commit) commits ≡ slots → AreByKey commits
  gathered_ordered slots [] are is = λ k d below. absurd (omega arith)
  gathered_ordered slots (x ∷ xs) are is =
      All-from_get_or (λ commit. StandByKey commit.writes) (x ∷ xs) x (λ k below. are.ordered k (get_or (x ∷ xs) k x) (slot_of slots (x ∷ xs) is k x below))

  pub same_commits : (one other : List Commit) → map (λ commit. Some commit) one ≡ map (λ commit. Some commit) other → one ≡ other
  same_commits [] [] e = refl
  same_commits [] (y ∷ ys) e = absurd (cc)
  same_commits (x ∷ xs) [] e = absurd (cc)
  same_commits (x ∷ xs) (y ∷ ys) e =
      let first : x ≡ y = cc in
      let others : map (λ (commit : Commit). Some commit) xs ≡ map (λ (commit : Commit). Some commit) ys = cc in
      cc (first, same_commits xs ys others)
