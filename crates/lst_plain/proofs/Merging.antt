-- A merge is answered by what is kept of sessions and pages.
use Rattle.std.proofs.Common.{◌≡◌, ◌≢◌, ℕ, suc, ◌+◌, ◌*◌, ◌/◌, ◌<◌, ◌≤◌, Bool, true, false, cond, not, List, [], ◌∷◌, length, get_or, set, refl, sym, ap, ◌∙◌, subst, arith, ⊎_elim, get_or-set_same, get_or-set_other, zero-add}
use Rattle.std.proofs.lemmas.Bool.{eqb-true, eq-eqb, ne_eqb, lt-ltb, le-ltb, le-leb, lt-leb, cases_lt}
use Rattle.std.proofs.lemmas.List.{get_or-map}
use Rattle.std.proofs.lemmas.Nat.{div-mul-add, mul-add-lt}
use Rattle.std.proofs.Math.Nat.{mul_comm}
use Rattle.std.specs.Prelude.{Option, Some, None, is_some, ◌==◌, ◌&&◌, ◌||◌, nat_lt, nat_le}
use Rattle.std.specs.List.{AllByRecursion}
use Rattle.lst_layout.specs.declared.limits.Limits.{Limits}
use Rattle.lst_model.specs.declared.replies.Reply.{Reply}
use Rattle.lst_model.specs.declared.replies.Reply.TheVariants.{Merged, NothingNew, NoFrame}
use Rattle.lst_machine.specs.State.{Accepted, Store, Pages}
use Rattle.lst_machine.specs.Writes.{put, put_in}
use Rattle.lst_machine.specs.Merges.{is_settled, settled_count, holds_frame, lowest_where, merge_reply, merge_reply_at, swapped_where, pages_after_merge}
use Rattle.lst_machine.proofs.Lowest.{lowest-same}
use Rattle.lst_plain.specs.Telling.{is_by}
use Rattle.lst_plain.specs.Lineages.{HolderState, LineageState, holder_of, new_holder, swapped_holder, one_more, are_as_many, is_behind, lesser, least_first, tails_before, with_swap, IsWide}
use Rattle.lst_plain.specs.Pages.{is_open_by, one_later, first_where, WriteTells, IsSince, SwapsTell, HolderTells, PagesTell}
use Rattle.lst_plain.proofs.Firsts.{all_from, first-same, first-either, settled-before}
use Rattle.lst_plain.proofs.Opening.{at_each, put-same, put-else, apart}

-- ---- places of pages

pub page_low : (range column ranges columns : ℕ) → range < ranges → column < columns → range * columns + column < ranges * columns
page_low range column ranges columns low in_row = subst (λ (n : ℕ). range * columns + column < n) (mul_comm columns ranges) (mul-add-lt range columns column ranges low in_row)

page_range : (range column columns : ℕ) → column < columns → (range * columns + column) / columns ≡ range
page_range range column columns low = div-mul-add range columns column low

page_column : (range column other columns : ℕ) → range * columns + column ≡ range * columns + other → column ≡ other
page_column range column other columns same = omega (arith, same)

nothing_at : (tps settled : ℕ) (holder : Option ℕ) → (settled == tps) ≡ true → merge_reply_at tps settled holder ≡ NothingNew settled
nothing_at tps settled None is = ap (λ b. cond b (NothingNew settled) (Merged settled)) is
nothing_at tps settled (Some session) is = ap (λ b. cond b (NothingNew settled) (NoFrame session)) is

module _ (lineage : LineageState) (limits : Limits) (wide : IsWide limits lineage) (store : Store) (pages : Pages) (tells : PagesTell lineage limits (record { store = store; pages = pages })) where
  -- ---- the tails before the first one of an open transaction

  module _ (range : ℕ) (in_range : range < limits.ranges) where
    abbrev writes : List Accepted
    writes = store.accepted range

    -- whether a write is one of the open transaction of a session below a number
    abbrev open_below : ℕ → Accepted → Bool
    open_below k w = nat_lt w.session k && is_open_by store w.session w

    false_and : (a b : Bool) → a ≡ false → (a && b) ≡ false
    false_and true b is = absurd (cc)
    false_and false b is = refl

    and-false : (a b : Bool) → b ≡ false → (a && b) ≡ false
    and-false true b is = is
    and-false false b is = refl

    or-false : (a b : Bool) → b ≡ false → (a || b) ≡ a
    or-false true b is = refl
    or-false false b is = is

    below_next : (k : ℕ) (w : Accepted) → open_below (suc k) w ≡ (open_below k w || is_open_by store k w)
    below_next k w = step (w.session == k) refl
      where
        step : (b : Bool) → (w.session == k) ≡ b → open_below (suc k) w ≡ (open_below k w || is_open_by store k w)
        step true is =
            let same : w.session ≡ k = eqb-true _ _ is in
            ap (λ b. b && is_open_by store w.session w) (lt-ltb w.session (suc k) (omega (arith, same)))
            ∙ ap (λ j. is_open_by store j w) same
            ∙ sym (ap (λ b. b || is_open_by store k w) (false_and (nat_lt w.session k) (is_open_by store w.session w) (le-ltb w.session k (omega (arith, same)))))
        step false is =
            let other : w.session ≢ k = apart w.session k is in
            let others : nat_lt w.session (suc k) ≡ nat_lt w.session k = by_order other in
            ap (λ b. b && is_open_by store w.session w) others
            ∙ sym (or-false (open_below k w) (is_open_by store k w) (and-false (is_some (store.opened k)) (is_by k (store.begins k) w) (ap (λ b. b && w.number == store.begins k) is)))
          where
            by_order : w.session ≢ k → nat_lt w.session (suc k) ≡ nat_lt w.session k
            by_order other = ⊎_elim
                (λ (low : w.session < k). lt-ltb w.session (suc k) (omega (arith, low)) ∙ sym (lt-ltb w.session k low))
                (λ (high : k ≤ w.session). le-ltb w.session (suc k) (omega (arith, high, other)) ∙ sym (le-ltb w.session k high))
                (cases_lt w.session k)

    all_next : (k : ℕ) (ws : List Accepted) → AllByRecursion (λ w. open_below (suc k) w ≡ (open_below k w || is_open_by store k w)) ws
    all_next k [] = tt
    all_next k (w ∷ ws) = (below_next k w, all_next k ws)

    first_next : (k : ℕ) → first_where (open_below (suc k)) writes ≡ lesser (first_where (open_below k) writes) (first_where (is_open_by store k) writes)
    first_next k = first-same (open_below (suc k)) (λ w. open_below k w || is_open_by store k w) writes (all_next k writes) ∙ first-either (open_below k) (is_open_by store k) writes

    least_is : (holders : List HolderState) (k least : ℕ) → ((i : ℕ) → i < length holders → get_or (holder_of holders i).firsts range 0 ≡ first_where (is_open_by store (k + i)) writes)
        → least ≡ first_where (open_below k) writes → least_first least holders range ≡ first_where (open_below (k + length holders)) writes
    least_is [] k least each is = is ∙ ap (λ n. first_where (open_below n) writes) (let same : k ≡ k + 0 = omega arith in same)
    least_is (holder ∷ holders) k least each is =
        least_is holders (suc k) (lesser least (get_or holder.firsts range 0))
        (λ i low. each (suc i) (omega (arith, low)) ∙ ap (λ n. first_where (is_open_by store n) writes) (let same : k + suc i ≡ suc k + i = omega arith in same))
        ((λ i. lesser (is i) ((each 0 (omega arith) ∙ ap (λ n. first_where (is_open_by store n) writes) (let same : k + 0 ≡ k = omega arith in same)) i)) ∙ sym (first_next k))
        ∙ ap (λ n. first_where (open_below n) writes) (let same : suc k + length holders ≡ k + suc (length holders) = omega arith in same)

    none_below : (ws : List Accepted) → 0 ≡ first_where (open_below 0) ws
    none_below [] = refl
    none_below (w ∷ ws) = sym (ap (λ n. cond (nat_lt w.session 0 && is_open_by store w.session w) 1 (one_later n)) (sym (none_below ws))
        ∙ ap (λ b. cond b 1 0) (false_and (nat_lt w.session 0) (is_open_by store w.session w) (le-ltb w.session 0 (omega arith))))

    open_is : (b c : Bool) → b ≡ not c → c ≡ not b
    open_is true true is = absurd (cc)
    open_is true false is = refl
    open_is false true is = refl
    open_is false false is = absurd (cc)

    unsettled : (w : Accepted) → WriteTells limits store w → open_below limits.sessions w ≡ not (is_settled store w)
    unsettled w is = ap (λ b. b && is_open_by store w.session w) (lt-ltb w.session limits.sessions is.low) ∙ open_is (is_settled store w) (is_open_by store w.session w) is.settled

    pub settled_is : settled_count store range ≡ tails_before (least_first 0 lineage.holders range) (length (store.accepted range))
    settled_is =
        settled-before (is_settled store) writes
        ∙ ap (λ n. tails_before n (length writes)) (sym
        (least_is lineage.holders 0 0
        (λ i low. let same = wide.sessions in (tells.holders i (omega (arith, low, same))).firsts range in_range ∙ ap (λ n. first_where (is_open_by store n) writes) (sym (zero-add i)))
        (none_below writes)
        ∙ ap (λ n. first_where (open_below n) writes) (zero-add (length lineage.holders) ∙ wide.sessions)
        ∙ first-same (open_below limits.sessions) (λ w. not (is_settled store w)) writes
        (all_from (WriteTells limits store) (λ w. open_below limits.sessions w ≡ not (is_settled store w)) writes unsettled (tells.writes range))))

  -- ---- who holds a frame

  behind : (s : ℕ) (swaps : Option ℕ) → SwapsTell swaps limits (record { store = store; pages = pages }) s → are_as_many limits.spare swaps ≡ holds_frame limits store pages s
  behind s None closed = ap (λ o. is_some o && nat_le (pages.swaps_at_begin s + limits.spare) pages.swaps) (sym closed)
  behind s (Some n) since = step (⊎_elim
      (λ (low : n < limits.spare). let exact = since.exact low in
      lt-leb limits.spare n low ∙ sym (lt-leb (pages.swaps_at_begin s + limits.spare) pages.swaps (omega (arith, low, exact))))
      (λ (high : limits.spare ≤ n). let few = since.few in let least = since.least in
      le-leb limits.spare n high ∙ sym (le-leb (pages.swaps_at_begin s + limits.spare) pages.swaps (omega (arith, high, few, least))))
      (cases_lt n limits.spare))
    where
      step : nat_le limits.spare n ≡ nat_le (pages.swaps_at_begin s + limits.spare) pages.swaps → nat_le limits.spare n ≡ holds_frame limits store pages s
      step same = same ∙ ap (λ b. b && nat_le (pages.swaps_at_begin s + limits.spare) pages.swaps) (sym since.is_open)

  pub lowest_is : lowest_where (λ s. is_behind limits.spare (holder_of lineage.holders s)) limits.sessions ≡ lowest_where (holds_frame limits store pages) limits.sessions
  lowest_is = lowest-same (λ s. is_behind limits.spare (holder_of lineage.holders s)) (holds_frame limits store pages) limits.sessions
      (λ s low. behind s (holder_of lineage.holders s).swaps (tells.holders s low).swaps)

  -- ---- a page is swapped

  module _ (range column tps : ℕ) (in_range : range < limits.ranges) (in_row : column < limits.columns) where
    abbrev swapped : Pages
    swapped = record pages { tps = put_in pages.tps range column tps; swaps = pages.swaps + 1 }

    abbrev page : ℕ
    page = range * limits.columns + column

    since_swap : (s : ℕ) (swaps : Option ℕ) → SwapsTell swaps limits (record { store = store; pages = pages }) s → SwapsTell (one_more limits.spare swaps) limits (record { store = store; pages = swapped }) s
    since_swap s None closed = closed
    since_swap s (Some n) since = ⊎_elim
        (λ (low : n < limits.spare). subst (λ b. IsSince (cond b (n + 1) n) limits (record { store = store; pages = swapped }) s) (sym (lt-ltb n limits.spare low))
        (let exact = since.exact low in record {
          is_open = since.is_open;
          few = omega (arith, low);
          least = omega (arith, exact);
          exact = λ _. omega (arith, exact);
        }))
        (λ (high : limits.spare ≤ n). subst (λ b. IsSince (cond b (n + 1) n) limits (record { store = store; pages = swapped }) s) (sym (le-ltb n limits.spare high))
        (let least = since.least in record {
          is_open = since.is_open;
          few = since.few;
          least = omega (arith, least);
          exact = λ low. absurd (omega (arith, low, high));
        }))
        (cases_lt n limits.spare)

    tps_swapped : (r c : ℕ) → r < limits.ranges → c < limits.columns → put_in pages.tps range column tps r c ≡ get_or (set lineage.tps page tps) (r * limits.columns + c) 0
    tps_swapped = at_each (λ r. (c : ℕ) → r < limits.ranges → c < limits.columns → put_in pages.tps range column tps r c ≡ get_or (set lineage.tps page tps) (r * limits.columns + c) 0) range
        (at_each (λ c. range < limits.ranges → c < limits.columns → put_in pages.tps range column tps range c ≡ get_or (set lineage.tps page tps) (range * limits.columns + c) 0) column
        (λ _ _. ap (λ (f : ℕ → ℕ). f column) (put-same pages.tps range (put (pages.tps range) column tps)) ∙ put-same (pages.tps range) column tps
        ∙ sym (get_or-set_same lineage.tps page tps 0 (let low = page_low range column limits.ranges limits.columns in_range in_row in let same = wide.pages in omega (arith, low, same))))
        (λ c other _ low. ap (λ (f : ℕ → ℕ). f c) (put-same pages.tps range (put (pages.tps range) column tps)) ∙ put-else (pages.tps range) column c tps other
        ∙ tells.tps range c in_range low
        ∙ sym (get_or-set_other lineage.tps page (range * limits.columns + c) tps 0 (λ same. apart c column other (page_column range c column limits.columns same)))))
        (λ r other c r_low c_low. ap (λ (f : ℕ → ℕ). f c) (put-else pages.tps range r (put (pages.tps range) column tps) other)
        ∙ tells.tps r c r_low c_low
        ∙ sym (get_or-set_other lineage.tps page (r * limits.columns + c) tps 0
        (λ same. apart r range other (sym (page_range r c limits.columns c_low) ∙ ap (λ n. n / limits.columns) same ∙ page_range range column limits.columns in_row))))

    pub pages_swapped : PagesTell (with_swap lineage page tps limits.spare) limits (record { store = store; pages = swapped })
    pages_swapped = record {
      tps = tps_swapped;
      holders = λ s low. subst (λ (h : HolderState). HolderTells h limits (record { store = store; pages = swapped }) s)
          (sym (get_or-map (swapped_holder limits.spare) lineage.holders s (new_holder 0) (new_holder 0) (let same = wide.sessions in omega (arith, low, same))))
          (record {
            swaps = since_swap s (holder_of lineage.holders s).swaps (tells.holders s low).swaps;
            firsts = (tells.holders s low).firsts;
          });
      writes = tells.writes;
    }

  -- ---- the three answers

  module _ (range column accepted : ℕ) (in_range : range < limits.ranges) (in_row : column < limits.columns) (count : length (store.accepted range) ≡ accepted) where
    abbrev settled : ℕ
    settled = tails_before (least_first 0 lineage.holders range) accepted

    counted : settled_count store range ≡ settled
    counted = settled_is range in_range ∙ ap (tails_before (least_first 0 lineage.holders range)) count

    reply_is : (holder : Option ℕ) → lowest_where (λ s. is_behind limits.spare (holder_of lineage.holders s)) limits.sessions ≡ holder
        → merge_reply limits store pages range column ≡ merge_reply_at (get_or lineage.tps (range * limits.columns + column) 0) settled holder
    reply_is holder is = λ i. merge_reply_at (tells.tps range column in_range in_row i) (counted i) ((sym lowest_is ∙ is) i)

    pub nothing_new : get_or lineage.tps (range * limits.columns + column) 0 ≡ settled
        → (NothingNew settled ≡ merge_reply limits store pages range column) × PagesTell lineage limits (record { store = store; pages = pages_after_merge limits store pages range column })
    nothing_new same =
        let holder : Option ℕ = lowest_where (λ s. is_behind limits.spare (holder_of lineage.holders s)) limits.sessions in
        let reply = reply_is holder refl ∙ nothing_at (get_or lineage.tps (range * limits.columns + column) 0) settled holder (eq-eqb settled (get_or lineage.tps (range * limits.columns + column) 0) (sym same)) in
        (sym reply, subst (λ (r : Reply). PagesTell lineage limits (record { store = store; pages = swapped_where r pages range column })) (sym reply) tells)

    other : get_or lineage.tps (range * limits.columns + column) 0 ≢ settled → (settled == get_or lineage.tps (range * limits.columns + column) 0) ≡ false
    other else = ne_eqb settled (get_or lineage.tps (range * limits.columns + column) 0) (λ e. else (sym e))

    pub no_frame : get_or lineage.tps (range * limits.columns + column) 0 ≢ settled → (s : ℕ) → lowest_where (λ s. is_behind limits.spare (holder_of lineage.holders s)) limits.sessions ≡ Some s
        → (NoFrame s ≡ merge_reply limits store pages range column) × PagesTell lineage limits (record { store = store; pages = pages_after_merge limits store pages range column })
    no_frame else s is =
        let reply = reply_is (Some s) is ∙ ap (λ b. cond b (NothingNew settled) (NoFrame s)) (other else) in
        (sym reply, subst (λ (r : Reply). PagesTell lineage limits (record { store = store; pages = swapped_where r pages range column })) (sym reply) tells)

    pub merged : get_or lineage.tps (range * limits.columns + column) 0 ≢ settled → lowest_where (λ s. is_behind limits.spare (holder_of lineage.holders s)) limits.sessions ≡ None
        → (Merged settled ≡ merge_reply limits store pages range column) × PagesTell (with_swap lineage (range * limits.columns + column) settled limits.spare) limits (record { store = store; pages = pages_after_merge limits store pages range column })
    merged else is =
        let reply = reply_is None is ∙ ap (λ b. cond b (NothingNew settled) (Merged settled)) (other else) in (
          sym reply,
          subst (λ (r : Reply). PagesTell (with_swap lineage (range * limits.columns + column) settled limits.spare) limits (record { store = store; pages = swapped_where r pages range column })) (sym reply)
              (pages_swapped range column settled in_range in_row),
        )
