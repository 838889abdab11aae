-- In a generated script each session can do all its lines.
use Rattle.std.proofs.Common.{◌≡◌, ◌≢◌, inl, inr, ℕ, zero, suc, ◌+◌, ◌-◌, ◌/◌, ◌%◌, ◌<◌, ◌≤◌, Bool, true, false, cond, eqb, List, [], ◌∷◌, ◌++◌, length, set, replicate, Option, Some, None, refl, sym, ap, subst, ◌∙◌, arith, append-nil, add-one}
use Rattle.std.specs.Prelude.{nat_lt}
use Rattle.std.proofs.lemmas.Bool.{cases_Bool, eqb-true, eqb-false, leb-true, leb-false}
use Rattle.std.proofs.lemmas.List.{length-set}
use Rattle.std.proofs.lemmas.Nat.{mod_below}
use Rattle.lst_model.specs.Cells.{Cell}
use Rattle.lst_model.specs.declared.acts.Act.TheVariants.{Put, Set}
use Rattle.lst_model.specs.declared.acts.Write.{Write}
use Rattle.lst_model.specs.declared.lines.Line.{Line}
use Rattle.lst_model.specs.declared.lines.Line.TheVariants.{Phase, Merge}
use Rattle.lst_model.specs.declared.lines.Call.{Call as CallKind}
use Rattle.lst_model.specs.declared.lines.Call.TheVariants.{Begin, Insert, Update, Sum, Count, Commit}
use Rattle.lst_model.specs.Histories.{acts_on, row_from, joined}
use Rattle.lst_model.specs.Soundness.{Fits}
use Rattle.lst_model.proofs.Folds.{row_from-append}
use Rattle.lst_model.proofs.Joining.{acts_on-joined}
use Rattle.lst_script.specs.declared.generating.Transfer.{Transfer}
use Rattle.lst_script.specs.Generated.{next_state, draw_of, insert_lines, transfer_lines, merge_lines, final_lines, settled, Course, own_keys, moves, transfer_at, course_behind, moved_lines, course_at, inserts, transfers, generated, AreBalances}
use Rattle.lst_script.proofs.Transferring.{transfer_is, moves_some, moves_not}
use Rattle.lst_script.proofs.Counting.{balanced_at}
use Rattle.lst_work.specs.Scripted.{Doing, nothing_done, with_committed, doing_behind}
use Rattle.lst_work.proofs.Lists.{acts_in, acts_in-append, Has}
use Rattle.lst_work.proofs.Going.{Goes, goes_on, behind_on}
use Rattle.lst_work.proofs.Speaking.{all_done, CanAll, own_goes, own_behind, other_goes, other_behind}
use Rattle.lst_work.proofs.Balancing.{row_with, row_at, put_write, set_write, row_there, row_other, row_replicate, row_replicate_none, row_more, set_row}

-- between two transactions, of which the session has begun at most so many: its keys have these balances
pub record Holds (n j : ℕ) (bound : ℕ) (bs : List ℕ) (d : Doing) : Type 0 where
  pub closed : d.current ≡ None
  pub begun : d.begun ≤ bound
  pub rows : (key : ℕ) → Has n j key → row_from None (acts_in key d.done) ≡ row_at bs key

later : (n j bound more : ℕ) (bs : List ℕ) (d : Doing) → bound ≤ more → Holds n j bound bs d → Holds n j more bs d
later n j bound more bs d low h = record { closed = h.closed; begun = let b = h.begun in omega arith; rows = h.rows }

-- one transaction more on a key's row
row_then : (key : ℕ) (done : List (List Write)) (own : List Write) → row_from None (acts_in key (done ++ own ∷ [])) ≡ row_from (row_from None (acts_in key done)) (acts_on key own)
row_then key done own =
    ap (row_from None) (acts_in-append key done (own ∷ []) ∙ ap (λ acts. acts_in key done ++ acts) (append-nil (acts_on key own))) ∙ row_from-append None (acts_in key done) (acts_on key own)

-- ---- an insert

abbrev insert_calls : ℕ → List CallKind
insert_calls key = Begin ∷ Insert key (Some 1000 ∷ []) ∷ Commit ∷ []

put_row : (m key : ℕ) → row_from (row_at (replicate m 1000) key) (acts_on key (put_write (m + 1) 1000 ∷ [])) ≡ row_at (replicate (suc m) 1000) key
put_row m key = elim (cases_Bool (eqb (m + 1) key)) [
  | inl here ↦ let is : m + 1 ≡ key = eqb-true (m + 1) key here in
      ap (λ (b : Bool). row_from (row_at (replicate m 1000) key) (cond b (Put (Some 1000 ∷ []) ∷ []) [])) here
      ∙ sym (row_replicate (suc m) key (omega arith) (omega arith))
  | inr other ↦ ap (λ (b : Bool). row_from (row_at (replicate m 1000) key) (cond b (Put (Some 1000 ∷ []) ∷ []) [])) other ∙ sym (row_more m key (λ is. eqb-false (m + 1) key other (sym is)))
]

no_row_fits : (r : Option (List Cell)) (row : List Cell) → r ≡ None → Fits r (Put row)
no_row_fits None row e = tt
no_row_fits (Some x) row e = cc

some_row_fits : (r : Option (List Cell)) (x : List Cell) (patch : List (Option Cell)) → r ≡ Some x → Fits r (Set patch)
some_row_fits None x patch e = cc
some_row_fits (Some y) x patch e = tt

module _ (txns n j : ℕ) where
  insert_can : (m bound : ℕ) (d : Doing) → bound < txns → Has n j (m + 1) → Holds n j bound (replicate m 1000) d → CanAll txns n j (insert_calls (m + 1)) d
  insert_can m bound d room has h = (
    (h.closed, let b = h.begun in omega arith),
    (
      record {
        own = [];
        is = refl;
        has = has;
        fits = no_row_fits _ (Some 1000 ∷ []) (ap (row_from None) (append-nil (acts_in (m + 1) d.done)) ∙ (h.rows (m + 1) has ∙ row_replicate_none m (m + 1) (omega arith)));
      },
      ((put_write (m + 1) 1000 ∷ [], refl), tt),
    ),
  )

  insert_own : (m bound : ℕ) (d : Doing) → Holds n j bound (replicate m 1000) d → Holds n j (bound + 1) (replicate (suc m) 1000) (all_done (insert_calls (m + 1)) d)
  insert_own m bound d h = record {
    closed = refl;
    begun = let b = h.begun in omega arith;
    rows = λ key has. row_then key d.done (put_write (m + 1) 1000 ∷ []) ∙ (ap (λ (r : Option (List Cell)). row_from r (acts_on key (put_write (m + 1) 1000 ∷ []))) (h.rows key has) ∙ put_row m key);
  }

  insert_other : (m bound : ℕ) (d : Doing) → ¬ Has n j (m + 1) → Holds n j bound (replicate m 1000) d → Holds n j (bound + 1) (replicate (suc m) 1000) d
  insert_other m bound d other h = record {
    closed = h.closed;
    begun = let b = h.begun in omega arith;
    rows = λ key has. h.rows key has ∙ sym (row_more m key (λ is. other (subst (Has n j) is has)));
  }

  -- ---- a transfer

  abbrev transfer_calls : Transfer → List CallKind
  transfer_calls t = Begin ∷ Update t.from (Some (Some t.left) ∷ []) ∷ Update t.to (Some (Some t.made) ∷ []) ∷ Sum 0 ∷ Commit ∷ []

  abbrev first : Transfer → Write
  first t = set_write t.from t.left

  abbrev second : Transfer → Write
  second t = set_write t.to t.made

  committed_joined : (own : List Write) (w : Write) (done : List (List Write)) → with_committed (Some (joined own w)) done ≡ done ++ joined own w ∷ []
  committed_joined [] w done = refl
  committed_joined (x ∷ xs) w done = by_order (nat_lt w.key x.key)
    where
      by_order : (b : Bool) → with_committed (Some (cond b (w ∷ x ∷ xs) (x ∷ joined xs w))) done ≡ done ++ cond b (w ∷ x ∷ xs) (x ∷ joined xs w) ∷ []
      by_order true = refl
      by_order false = refl

  acts_of_both : (key : ℕ) (t : Transfer) → acts_on key (joined (first t ∷ []) (second t)) ≡ acts_on key (first t ∷ []) ++ acts_on key (second t ∷ [])
  acts_of_both key t = acts_on-joined key 0 (first t ∷ []) (second t) (omega arith, tt)

  record IsBetween (keys : ℕ) (bs : List ℕ) (t : Transfer) : Type 0 where
    size : length bs ≡ keys
    some_from : 0 < t.from
    low_from : t.from ≤ keys
    some_to : 0 < t.to
    low_to : t.to ≤ keys

  transfer_row : (keys : ℕ) (bs : List ℕ) (t : Transfer) (key : ℕ) → IsBetween keys bs t → row_from (row_at bs key) (acts_on key (joined (first t ∷ []) (second t))) ≡ row_at (settled bs t) key
  transfer_row keys bs t key i =
      ap (row_from (row_at bs key)) (acts_of_both key t) ∙ (row_from-append (row_at bs key) (acts_on key (first t ∷ [])) (acts_on key (second t ∷ []))
      ∙ (ap (λ (r : Option (List Cell)). row_from r (acts_on key (second t ∷ []))) (set_row bs t.from t.left key i.some_from (let s = i.size in let a = i.low_from in omega arith))
      ∙ set_row (set bs (t.from - 1) t.left) t.to t.made key i.some_to (let s = i.size in let a = i.low_to in let l = length-set bs (t.from - 1) t.left in omega arith)))

  transfer_can : (keys bound : ℕ) (bs : List ℕ) (t : Transfer) (d : Doing) → IsBetween keys bs t → bound < txns → Has n j t.from → Has n j t.to → Holds n j bound bs d → CanAll txns n j (transfer_calls t) d
  transfer_can keys bound bs t d i room from to h =
      let one = row_there bs t.from i.some_from (let s = i.size in let a = i.low_from in omega arith) in
      let other = row_there (set bs (t.from - 1) t.left) t.to i.some_to (let s = i.size in let a = i.low_to in let l = length-set bs (t.from - 1) t.left in omega arith) in (
        (h.closed, let b = h.begun in omega arith),
        (
          record {
            own = [];
            is = refl;
            has = from;
            fits = some_row_fits _ (row_with one.0) (Some (Some t.left) ∷ []) (ap (row_from None) (append-nil (acts_in t.from d.done)) ∙ (h.rows t.from from ∙ one.1));
          },
          (
            record {
              own = first t ∷ [];
              is = refl;
              has = to;
              fits = some_row_fits _ (row_with other.0) (Some (Some t.made) ∷ []) (row_from-append None (acts_in t.to d.done) (acts_on t.to (first t ∷ []))
                  ∙ (ap (λ (r : Option (List Cell)). row_from r (acts_on t.to (first t ∷ []))) (h.rows t.to to) ∙ (set_row bs t.from t.left t.to i.some_from (let s = i.size in let a = i.low_from in omega arith) ∙ other.1)));
            },
            ((joined (first t ∷ []) (second t), refl), ((joined (first t ∷ []) (second t), refl), tt)),
          ),
        ),
      )

  transfer_own : (keys bound : ℕ) (bs : List ℕ) (t : Transfer) (d : Doing) → IsBetween keys bs t → Holds n j bound bs d → Holds n j (bound + 1) (settled bs t) (all_done (transfer_calls t) d)
  transfer_own keys bound bs t d i h = record {
    closed = refl;
    begun = let b = h.begun in omega arith;
    rows = λ key has. ap (λ (done : List (List Write)). row_from None (acts_in key done)) (committed_joined (first t ∷ []) (second t) d.done)
        ∙ (row_then key d.done (joined (first t ∷ []) (second t)) ∙ (ap (λ (r : Option (List Cell)). row_from r (acts_on key (joined (first t ∷ []) (second t)))) (h.rows key has) ∙ transfer_row keys bs t key i));
  }

  transfer_other : (keys bound : ℕ) (bs : List ℕ) (t : Transfer) (d : Doing) → IsBetween keys bs t → ¬ Has n j t.from → ¬ Has n j t.to → Holds n j bound bs d → Holds n j (bound + 1) (settled bs t) d
  transfer_other keys bound bs t d i from to h = record {
    closed = h.closed;
    begun = let b = h.begun in omega arith;
    rows = λ key has. h.rows key has ∙ sym (row_other (set bs (t.from - 1) t.left) key t.to t.made i.some_to (λ is. to (subst (Has n j) (sym is) has))
        ∙ row_other bs key t.from t.left i.some_from (λ is. from (subst (Has n j) (sym is) has)));
  }

-- ---- the whole script

abbrev final_calls : List CallKind
final_calls = Begin ∷ Count ∷ Sum 0 ∷ Commit ∷ []

-- a session goes through some lines, and has these balances behind them
pub record Through (txns n j bound : ℕ) (bs : List ℕ) (lines : List Line) (d : Doing) : Type 0 where
  pub goes : Goes txns n j d lines
  pub holds : Holds n j bound bs (doing_behind j lines d)

module _ (txns n j : ℕ) where
  through_on : (bound more : ℕ) (bs cs : List ℕ) (xs ys : List Line) (d : Doing) → Through txns n j bound bs xs d → Through txns n j more cs ys (doing_behind j xs d) → Through txns n j more cs (xs ++ ys) d
  through_on bound more bs cs xs ys d one two = record {
    goes = goes_on txns n j xs ys d one.goes two.goes;
    holds = subst (Holds n j more cs) (sym (behind_on txns n j xs ys d)) two.holds;
  }

  insert_through : (t m bound : ℕ) (d : Doing) → bound < txns → Has n t (m + 1) → Holds n j bound (replicate m 1000) d → Through txns n j (bound + 1) (replicate (suc m) 1000) (insert_lines t (m + 1)) d
  insert_through t m bound d room has h = elim (cases_Bool (eqb t j)) [
    | inl own ↦ let is : t ≡ j = eqb-true t j own in record {
      goes = own_goes txns n j t is (insert_calls (m + 1)) d (insert_can txns n j m bound d room (sym is ∙ has) h);
      holds = subst (Holds n j (bound + 1) (replicate (suc m) 1000)) (sym (own_behind txns n j t is (insert_calls (m + 1)) d)) (insert_own txns n j m bound d h);
    }
    | inr other ↦ record {
      goes = other_goes txns n j t (eqb-false t j other) (insert_calls (m + 1)) d;
      holds = subst (Holds n j (bound + 1) (replicate (suc m) 1000)) (sym (other_behind txns n j t (eqb-false t j other) (insert_calls (m + 1)) d)) (insert_other txns n j m bound d (λ mine. eqb-false t j other (has ∙ sym mine)) h);
    }
  ]

  inserts_through : (keys step : ℕ) → step ≤ txns → Through txns n j step (replicate step 1000) (inserts keys n step) nothing_done
  inserts_through keys zero room = record { goes = tt; holds = record { closed = refl; begun = omega arith; rows = λ key has. none key } }
    where
      none : (key : ℕ) → None ≡ row_at (replicate 0 1000) key
      none zero = refl
      none (suc i) = refl
  inserts_through keys (suc step) room =
      let before = inserts_through keys step (omega arith) in
      through_on step (suc step) (replicate step 1000) (replicate (suc step) 1000) (inserts keys n step) (insert_lines (step % n) (step + 1)) nothing_done before
      (subst (λ (b : ℕ). Through txns n j b (replicate (suc step) 1000) (insert_lines (step % n) (step + 1)) (doing_behind j (inserts keys n step) nothing_done)) (add-one step)
      (insert_through (step % n) step step (doing_behind j (inserts keys n step) nothing_done) (omega arith) (ap (λ m. m % n) (omega arith)) before.holds))

  module _ (keys : ℕ) (hosts : 0 < n) where
    between : (step : ℕ) (before : Course) → 2 ≤ length (own_keys keys n step) → AreBalances keys before.balances → IsBetween txns n j keys before.balances (transfer_at keys n step before)
    between step before two are = let is = transfer_is n (step % n) keys (draw_of (next_state before.state)) before.balances (mod_below step n hosts) two are in
        record { size = are.each; some_from = is.from.some; low_from = is.from.within; some_to = is.to.some; low_to = is.to.within }

    moved_through : (step bound : ℕ) (before : Course) (d : Doing) → bound < txns → AreBalances keys before.balances → Holds n j bound before.balances d
        → Through txns n j (bound + 1) (course_behind keys n step before).balances (moved_lines keys n step before) d
    moved_through step bound before d room are h = elim (cases_Bool (moves keys n step)) [
      | inl some ↦
          let two : 2 ≤ length (own_keys keys n step) = leb-true 2 (length (own_keys keys n step)) some in
          let m = moves_some keys n step before two in
          let t = transfer_at keys n step before in
          let is = transfer_is n (step % n) keys (draw_of (next_state before.state)) before.balances (mod_below step n hosts) two are in
          let i = between step before two are in
          subst (λ (ls : List Line). Through txns n j (bound + 1) (course_behind keys n step before).balances ls d) (sym m.0)
          (subst (λ (c : Course). Through txns n j (bound + 1) c.balances (transfer_lines t) d) (sym m.1)
          (elim (cases_Bool (eqb t.session j)) [
            | inl own ↦ let same : t.session ≡ j = eqb-true t.session j own in record {
              goes = own_goes txns n j t.session same (transfer_calls txns n j t) d (transfer_can txns n j keys bound before.balances t d i room (sym same ∙ sym is.from.owner) (sym same ∙ sym is.to.owner) h);
              holds = subst (Holds n j (bound + 1) (settled before.balances t)) (sym (own_behind txns n j t.session same (transfer_calls txns n j t) d)) (transfer_own txns n j keys bound before.balances t d i h);
            }
            | inr other ↦ let no_one : t.session ≢ j = eqb-false t.session j other in record {
              goes = other_goes txns n j t.session no_one (transfer_calls txns n j t) d;
              holds = subst (Holds n j (bound + 1) (settled before.balances t)) (sym (other_behind txns n j t.session no_one (transfer_calls txns n j t) d))
                  (transfer_other txns n j keys bound before.balances t d i (λ mine. no_one (sym (mine ∙ is.from.owner))) (λ mine. no_one (sym (mine ∙ is.to.owner))) h);
            }
          ]))
      | inr few ↦
          let m = moves_not keys n step before (leb-false 2 (length (own_keys keys n step)) few) in
          subst (λ (ls : List Line). Through txns n j (bound + 1) (course_behind keys n step before).balances ls d) (sym m.0)
          (subst (λ (c : Course). Through txns n j (bound + 1) c.balances [] d) (sym m.1) (record { goes = tt; holds = later n j bound (bound + 1) before.balances d (omega arith) h }))
    ]

    merge_through : (bound range : ℕ) (bs : List ℕ) (b : Bool) (d : Doing) → Holds n j bound bs d → Through txns n j bound bs (cond b (Merge range 0 ∷ []) []) d
    merge_through bound range bs true d h = record { goes = tt; holds = h }
    merge_through bound range bs false d h = record { goes = tt; holds = h }

    transfers_through : (seed step : ℕ) (d : Doing) → keys + step ≤ txns → Holds n j keys (replicate keys 1000) d → Through txns n j (keys + step) (course_at keys n seed step).balances (transfers keys n seed step) d
    transfers_through seed zero d room h = record { goes = tt; holds = later n j keys (keys + 0) (replicate keys 1000) d (omega arith) h }
    transfers_through seed (suc step) d room h =
        let front = transfers_through seed step d (omega arith) h in
        let c = course_at keys n seed step in
        let now = doing_behind j (transfers keys n seed step) d in
        let moved = moved_through step (keys + step) c now (omega arith) (balanced_at keys n hosts seed step) front.holds in
        let bs = (course_behind keys n step c).balances in
        let merged = merge_through (keys + step + 1) (((step + 1) / 64 - 1) % ((keys + 255) / 256)) bs (eqb ((step + 1) % 64) 0) (doing_behind j (moved_lines keys n step c) now) moved.holds in
        subst (λ (b : ℕ). Through txns n j b bs (transfers keys n seed (suc step)) d) (omega arith)
        (through_on (keys + step) (keys + step + 1) c.balances bs (transfers keys n seed step) (moved_lines keys n step c ++ merge_lines keys (step + 1)) d front
        (through_on (keys + step + 1) (keys + step + 1) bs bs (moved_lines keys n step c) (merge_lines keys (step + 1)) now moved merged))

    final_through : (bound : ℕ) (bs : List ℕ) (d : Doing) → bound < txns → Holds n j bound bs d → Through txns n j (bound + 1) bs final_lines d
    final_through bound bs d room h = elim (cases_Bool (eqb 0 j)) [
      | inl own ↦ let is : 0 ≡ j = eqb-true 0 j own in record {
        goes = own_goes txns n j 0 is final_calls d ((h.closed, let b = h.begun in omega arith), (([], refl), (([], refl), (([], refl), tt))));
        holds = subst (Holds n j (bound + 1) bs) (sym (own_behind txns n j 0 is final_calls d)) (record { closed = refl; begun = let b = h.begun in omega arith; rows = h.rows });
      }
      | inr other ↦ record {
        goes = other_goes txns n j 0 (eqb-false 0 j other) final_calls d;
        holds = subst (Holds n j (bound + 1) bs) (sym (other_behind txns n j 0 (eqb-false 0 j other) final_calls d)) (later n j bound (bound + 1) bs d (omega arith) h);
      }
    ]

    phase_through : (bound : ℕ) (bs : List ℕ) (lines : List Line) (d : Doing) → Through txns n j bound bs lines d → Through txns n j bound bs (Phase ∷ lines) d
    phase_through bound bs lines d t = record { goes = t.goes; holds = t.holds }

    pub generated_through : (seed : ℕ) → keys + keys < txns → Through txns n j (keys + keys + 1) (course_at keys n seed keys).balances (generated keys n seed) nothing_done
    generated_through seed room =
        let bs = (course_at keys n seed keys).balances in
        let one = inserts_through keys keys (omega arith) in
        let d = doing_behind j (inserts keys n keys) nothing_done in
        let two = transfers_through seed keys d (omega arith) one.holds in
        let final = final_through (keys + keys) bs (doing_behind j (transfers keys n seed keys) d) room two.holds in
        through_on keys (keys + keys + 1) (replicate keys 1000) bs (inserts keys n keys) (Phase ∷ (transfers keys n seed keys ++ Phase ∷ final_lines)) nothing_done one
        (phase_through (keys + keys + 1) bs (transfers keys n seed keys ++ Phase ∷ final_lines) d
        (through_on (keys + keys) (keys + keys + 1) bs bs (transfers keys n seed keys) (Phase ∷ final_lines) d two
        (phase_through (keys + keys + 1) bs final_lines (doing_behind j (transfers keys n seed keys) d) final)))
