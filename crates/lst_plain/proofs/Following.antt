-- What is kept for merges follows the calls of sessions.
use Rattle.std.proofs.Common.{◌≡◌, ℕ, zero, suc, ◌+◌, ◌<◌, ◌≤◌, Bool, true, false, cond, not, List, [], ◌∷◌, ◌++◌, length, get_or, set, replicate, refl, sym, ap, ◌∙◌, subst, arith, get_or-set_same, get_or-set_other}
use Rattle.std.proofs.lemmas.Bool.{eqb-true, eq-eqb, ne_eqb}
use Rattle.std.specs.Prelude.{Option, Some, None, is_some, ◌==◌, ◌&&◌, ◌||◌}
use Rattle.std.specs.List.{AllByRecursion}
use Rattle.lst_layout.specs.declared.limits.Limits.{Limits}
use Rattle.lst_model.specs.declared.acts.Act.{Act}
use Rattle.lst_model.specs.declared.commits.Commit.{Commit}
use Rattle.lst_machine.specs.State.{Accepted, Opened, Store, Pages, State}
use Rattle.lst_machine.specs.Writes.{put, put_in, time_of, range_of}
use Rattle.lst_machine.specs.Merges.{is_settled}
use Rattle.lst_machine.specs.Calls.{with_opened, with_closed, with_accepted}
use Rattle.lst_plain.specs.Telling.{is_by}
use Rattle.lst_plain.specs.Lineages.{HolderState, LineageState, holder_of, new_holder, begun_holder, ended_holder, noted_firsts, noted_holder, with_begun, with_ended, with_tail, IsWide}
use Rattle.lst_plain.specs.Pages.{is_open_by, first_where, WriteTells, SwapsTell, HolderTells, PagesTell}
use Rattle.lst_plain.proofs.Firsts.{not_zero, all_from, all-append, first-same, first-none, first-append}
use Rattle.lst_plain.proofs.Opening.{at_each, put-same, put-else, apart}
use Rattle.lst_machine.proofs.Appending.{or_last, time-append}

-- what is kept of a session once one is changed
holder_here : (holders : List HolderState) (s : ℕ) (new : HolderState) → s < length holders → holder_of (set holders s new) s ≡ new
holder_here holders s new low = get_or-set_same holders s new (new_holder 0) low

holder_else : (holders : List HolderState) (s j : ℕ) (new : HolderState) → (j == s) ≡ false → holder_of (set holders s new) j ≡ holder_of holders j
holder_else holders s j new other = get_or-set_other holders s j new (new_holder 0) (apart j s other)

and-false : (a b : Bool) → b ≡ false → (a && b) ≡ false
and-false true b is = is
and-false false b is = refl

swaps_same : (swaps : Option ℕ) (limits : Limits) (state other : State) (s : ℕ) → other.store.opened s ≡ state.store.opened s → other.pages.swaps_at_begin s ≡ state.pages.swaps_at_begin s → other.pages.swaps ≡ state.pages.swaps
    → SwapsTell swaps limits state s → SwapsTell swaps limits other s
swaps_same None limits state other s opened begin swaps tells = opened ∙ tells
swaps_same (Some n) limits state other s opened begin swaps tells = record {
  is_open = ap is_some opened ∙ tells.is_open;
  few = tells.few;
  least = let least = tells.least in omega (arith, least, begin, swaps);
  exact = λ low. let exact = tells.exact low in omega (arith, exact, begin, swaps);
}

-- ---- a key is placed

pub pages_placed : (lineage : LineageState) (limits : Limits) (store : Store) (pages : Pages) (placed : List ℕ) → PagesTell lineage limits (record { store = store; pages = pages })
    → PagesTell lineage limits (record { store = record store { placed = placed }; pages = pages })
pages_placed lineage limits store pages placed tells = record {
  tps = tells.tps;
  holders = λ s low. let here = tells.holders s low in record {
    swaps = swaps_same (holder_of lineage.holders s).swaps limits (record { store = store; pages = pages }) (record { store = record store { placed = placed }; pages = pages }) s refl refl refl here.swaps;
    firsts = here.firsts;
  };
  writes = λ range. all_from (WriteTells limits store) (WriteTells limits (record store { placed = placed })) (store.accepted range)
      (λ w tells. record { low = tells.low; begun = tells.begun; settled = tells.settled }) (tells.writes range);
}

module _ (lineage : LineageState) (limits : Limits) (wide : IsWide limits lineage) (store : Store) (pages : Pages) (tells : PagesTell lineage limits (record { store = store; pages = pages })) (s : ℕ) (low : s < limits.sessions) where
  within : s < length lineage.holders
  within = let same = wide.sessions in omega (arith, low, same)

  -- ---- a transaction begins

  module _ (begin : ℕ) (read_only : Bool) (closed : store.opened s ≡ None) where
    abbrev begun : Store
    begun = with_opened store s begin read_only

    abbrev since : Pages
    since = record pages { swaps_at_begin = put pages.swaps_at_begin s pages.swaps }

    opened_here : begun.opened s ≡ Some (record { begin = begin; read_only = read_only })
    opened_here = put-same store.opened s (Some (record { begin = begin; read_only = read_only }))

    -- its number is new
    not_own : (w : Accepted) → w.number ≤ store.begins w.session → is_by s (begun.begins s) w ≡ false
    not_own w few = step (w.session == s) refl
      where
        step : (b : Bool) → (w.session == s) ≡ b → (b && w.number == begun.begins s) ≡ false
        step true same =
            let number = put-same store.begins s (store.begins s + 1) in
            let old : store.begins w.session ≡ store.begins s = ap store.begins (eqb-true _ _ same) in
            ne_eqb w.number (begun.begins s) (λ e. absurd (omega (arith, number, old, few, e)))
        step false other = refl

    same_open : (j : ℕ) (w : Accepted) → w.number ≤ store.begins w.session → is_open_by begun j w ≡ is_open_by store j w
    same_open j w few = at_each (λ j. is_open_by begun j w ≡ is_open_by store j w) s
        (and-false (is_some (begun.opened s)) (is_by s (begun.begins s) w) (not_own w few) ∙ sym (ap (λ o. is_some o && is_by s (store.begins s) w) closed))
        (λ j other. (λ i. is_some (put-else store.opened s j (Some (record { begin = begin; read_only = read_only })) other i) && is_by j (put-else store.begins s j (store.begins s + 1) other i) w))
        j

    grown : (j : ℕ) → store.begins j ≤ begun.begins j
    grown = at_each (λ j. store.begins j ≤ begun.begins j) s
        (let number = put-same store.begins s (store.begins s + 1) in omega (arith, number))
        (λ j other. let number = put-else store.begins s j (store.begins s + 1) other in omega (arith, number))

    firsts_begun : (j range : ℕ) → first_where (is_open_by store j) (store.accepted range) ≡ first_where (is_open_by begun j) (store.accepted range)
    firsts_begun j range = first-same (is_open_by store j) (is_open_by begun j) (store.accepted range)
        (all_from (WriteTells limits store) (λ w. is_open_by store j w ≡ is_open_by begun j w) (store.accepted range) (λ w is. sym (same_open j w is.begun)) (tells.writes range))

    pub pages_begun : PagesTell (with_begun lineage s) limits (record { store = begun; pages = since })
    pages_begun = record {
      tps = tells.tps;
      holders = at_each (λ j. j < limits.sessions → HolderTells (holder_of (with_begun lineage s).holders j) limits (record { store = begun; pages = since }) j) s
          (λ _. subst (λ (h : HolderState). HolderTells h limits (record { store = begun; pages = since }) s) (sym (holder_here lineage.holders s (begun_holder (holder_of lineage.holders s)) within))
          (record {
            swaps = let at = put-same pages.swaps_at_begin s pages.swaps in record {
              is_open = ap is_some opened_here;
              few = omega arith;
              least = omega (arith, at);
              exact = λ _. omega (arith, at);
            };
            firsts = λ range in_range. (tells.holders s low).firsts range in_range ∙ firsts_begun s range;
          }))
          (λ j other low. subst (λ (h : HolderState). HolderTells h limits (record { store = begun; pages = since }) j) (sym (holder_else lineage.holders s j (begun_holder (holder_of lineage.holders s)) other))
          (let here = tells.holders j low in record {
            swaps = swaps_same (holder_of lineage.holders j).swaps limits (record { store = store; pages = pages }) (record { store = begun; pages = since }) j
                (put-else store.opened s j (Some (record { begin = begin; read_only = read_only })) other) (put-else pages.swaps_at_begin s j pages.swaps other) refl here.swaps;
            firsts = λ range in_range. here.firsts range in_range ∙ firsts_begun j range;
          }));
      writes = λ range. all_from (WriteTells limits store) (WriteTells limits begun) (store.accepted range)
          (λ w is. record {
            low = is.low;
            begun = let more = grown w.session in let few = is.begun in omega (arith, more, few);
            settled = is.settled ∙ ap not (sym (same_open w.session w is.begun));
          }) (tells.writes range);
    }

  -- ---- a transaction ends: its writes are settled, and all others are as before

  module _ (history : List Commit) (closed : ℕ → ℕ → Bool) where
    abbrev ended : Store
    ended = record store { history = history; opened = put store.opened s None; closed = closed }

    abbrev forgotten : Pages
    forgotten = record pages { swaps_at_begin = put pages.swaps_at_begin s 0 }

    module _ (settles : (w : Accepted) → is_settled ended w ≡ (is_by s (store.begins s) w || is_settled store w)) where
      none_open : (w : Accepted) → is_open_by ended s w ≡ false
      none_open w = ap (λ o. is_some o && is_by s (store.begins s) w) (put-same store.opened s None)

      else_open : (j : ℕ) (w : Accepted) → (j == s) ≡ false → is_open_by ended j w ≡ is_open_by store j w
      else_open j w other = ap (λ o. is_some o && is_by j (store.begins j) w) (put-else store.opened s j None other)

      -- a write that isn't of the ended transaction
      still_open : (w : Accepted) → is_by s (store.begins s) w ≡ false → is_open_by ended w.session w ≡ is_open_by store w.session w
      still_open w else = at_each (λ j. is_by j (store.begins j) w ≡ is_by j (store.begins j) w → is_open_by ended j w ≡ is_open_by store j w) s
          (λ _. none_open w ∙ sym (and-false (is_some (store.opened s)) (is_by s (store.begins s) w) else))
          (λ j other _. else_open j w other)
          w.session refl

      -- and one that is
      own_ended : (w : Accepted) → is_by s (store.begins s) w ≡ true → is_open_by ended w.session w ≡ false
      own_ended w own = step (w.session == s) refl own
        where
          step : (b : Bool) → (w.session == s) ≡ b → (b && w.number == store.begins s) ≡ true → is_open_by ended w.session w ≡ false
          step true same is = ap (λ j. is_open_by ended j w) (eqb-true w.session s same) ∙ none_open w
          step false other is = absurd (cc)

      write_ended : (w : Accepted) → WriteTells limits store w → WriteTells limits ended w
      write_ended w is = record { low = is.low; begun = is.begun; settled = settles w ∙ step (is_by s (store.begins s) w) refl }
        where
          step : (b : Bool) → is_by s (store.begins s) w ≡ b → (b || is_settled store w) ≡ not (is_open_by ended w.session w)
          step true own = ap not (sym (own_ended w own))
          step false else = is.settled ∙ ap not (sym (still_open w else))

      no_firsts : (n range : ℕ) → ◌≡◌ {A = ℕ} (get_or (replicate n 0) range 0) 0
      no_firsts zero range = refl
      no_firsts (suc n) zero = refl
      no_firsts (suc n) (suc range) = no_firsts n range

      none_all : (ws : List Accepted) → AllByRecursion (λ w. is_open_by ended s w ≡ false) ws
      none_all [] = tt
      none_all (w ∷ ws) = (none_open w, none_all ws)

      else_all : (j : ℕ) → (j == s) ≡ false → (ws : List Accepted) → AllByRecursion (λ w. is_open_by store j w ≡ is_open_by ended j w) ws
      else_all j other [] = tt
      else_all j other (w ∷ ws) = (sym (else_open j w other), else_all j other ws)

      pub pages_ended : PagesTell (with_ended lineage s) limits (record { store = ended; pages = forgotten })
      pages_ended = record {
        tps = tells.tps;
        holders = at_each (λ j. j < limits.sessions → HolderTells (holder_of (with_ended lineage s).holders j) limits (record { store = ended; pages = forgotten }) j) s
            (λ _. subst (λ (h : HolderState). HolderTells h limits (record { store = ended; pages = forgotten }) s) (sym (holder_here lineage.holders s (ended_holder (holder_of lineage.holders s)) within))
            (record {
              swaps = put-same store.opened s None;
              firsts = λ range in_range. no_firsts (length (holder_of lineage.holders s).firsts) range ∙ sym (first-none (is_open_by ended s) (store.accepted range) (none_all (store.accepted range)));
            }))
            (λ j other low. subst (λ (h : HolderState). HolderTells h limits (record { store = ended; pages = forgotten }) j) (sym (holder_else lineage.holders s j (ended_holder (holder_of lineage.holders s)) other))
            (let here = tells.holders j low in record {
              swaps = swaps_same (holder_of lineage.holders j).swaps limits (record { store = store; pages = pages }) (record { store = ended; pages = forgotten }) j
                  (put-else store.opened s j None other) (put-else pages.swaps_at_begin s j 0 other) refl here.swaps;
              firsts = λ range in_range. here.firsts range in_range ∙ first-same (is_open_by store j) (is_open_by ended j) (store.accepted range) (else_all j other (store.accepted range));
            }));
        writes = λ range. all_from (WriteTells limits store) (WriteTells limits ended) (store.accepted range) write_ended (tells.writes range);
      }

  or_else : (a b c : Bool) → ((a || b) || c) ≡ (a || (b || c))
  or_else true b c = refl
  or_else false b c = refl

  -- without a commit
  closes : (w : Accepted) → is_settled (with_closed store s) w ≡ (is_by s (store.begins s) w || is_settled store w)
  closes w =
      ap (λ c. c || is_some (time_of store.history w.session w.number)) (closed_is w.session w.number)
      ∙ or_else (is_by s (store.begins s) w) (store.closed w.session w.number) (is_some (time_of store.history w.session w.number))
    where
      closed_is : (j n : ℕ) → put_in store.closed s (store.begins s) true j n ≡ ((j == s && n == store.begins s) || store.closed j n)
      closed_is j n = at_tests (j == s) refl (n == store.begins s) refl
        where
          at_tests : (a : Bool) → (j == s) ≡ a → (b : Bool) → (n == store.begins s) ≡ b → put_in store.closed s (store.begins s) true j n ≡ ((a && b) || store.closed j n)
          at_tests true ja true nb = rw (ja, nb) refl
          at_tests true ja false nb = rw (ja, nb) (ap (λ k. store.closed k n) (sym (eqb-true j s ja)))
          at_tests false ja b nb = rw ja refl

  pub pages_closed : PagesTell (with_ended lineage s) limits (record { store = with_closed store s; pages = record pages { swaps_at_begin = put pages.swaps_at_begin s 0 } })
  pages_closed = pages_ended store.history (put_in store.closed s (store.begins s) true) closes

  -- with one
  module _ (commit : Commit) (by_session : commit.session ≡ s) (by_number : commit.number ≡ store.begins s) where
    some_last : (time : Option ℕ) (b : Bool) (last : ℕ) → is_some (or_last time b last) ≡ (b || is_some time)
    some_last (Some time) true last = refl
    some_last (Some time) false last = refl
    some_last None true last = refl
    some_last None false last = refl

    turned : (a b : ℕ) (t : Bool) → (b == a) ≡ t → (a == b) ≡ t
    turned a b true is = eq-eqb a b (sym (eqb-true b a is))
    turned a b false is = ne_eqb a b (λ e. apart b a is (sym e))

    moved : (a b c : Bool) → (a || (b || c)) ≡ (b || (a || c))
    moved true true c = refl
    moved true false c = refl
    moved false true c = refl
    moved false false c = refl

    commits : (w : Accepted) → is_settled (record store { history = store.history ++ commit ∷ []; opened = put store.opened s None }) w ≡ (is_by s (store.begins s) w || is_settled store w)
    commits w =
        ap (λ t. store.closed w.session w.number || is_some t) (time-append store.history commit w.session w.number)
        ∙ ap (λ b. store.closed w.session w.number || b) (some_last (time_of store.history w.session w.number) (commit.session == w.session && commit.number == w.number) (length store.history + 1))
        ∙ ap (λ b. store.closed w.session w.number || (b || is_some (time_of store.history w.session w.number))) by_writer
        ∙ moved (store.closed w.session w.number) (is_by s (store.begins s) w) (is_some (time_of store.history w.session w.number))
      where
        by_writer : (commit.session == w.session && commit.number == w.number) ≡ is_by s (store.begins s) w
        by_writer = (λ i. turned commit.session w.session (w.session == commit.session) refl i && turned commit.number w.number (w.number == commit.number) refl i)
            ∙ (λ i. w.session == by_session i && w.number == by_number i)

    pub pages_committed : PagesTell (with_ended lineage s) limits (record { store = record store { history = store.history ++ commit ∷ []; opened = put store.opened s None }; pages = record pages { swaps_at_begin = put pages.swaps_at_begin s 0 } })
    pages_committed = pages_ended (store.history ++ commit ∷ []) store.closed commits

  -- ---- a write is accepted

  module _ (opened : Opened) (is_open : store.opened s ≡ Some opened) (not_closed : store.closed s (store.begins s) ≡ false) (not_committed : time_of store.history s (store.begins s) ≡ None) (key : ℕ) (act : Act) where
    abbrev new : Accepted
    new = record { session = s; number = store.begins s; write = record { key = key; act = act } }

    abbrev at : ℕ
    at = range_of store.placed key

    abbrev written : Store
    written = with_accepted store s key act

    some : is_some (store.opened s) ≡ true
    some = ap is_some is_open

    own : is_by s (store.begins s) new ≡ true
    own = ap (λ b. b && store.begins s == store.begins s) (eq-eqb s s refl) ∙ eq-eqb (store.begins s) (store.begins s) refl

    open_here : is_open_by store s new ≡ true
    open_here = ap (λ b. b && is_by s (store.begins s) new) some ∙ own

    unsettled : is_settled store new ≡ false
    unsettled = ap (λ b. b || is_some (time_of store.history s (store.begins s))) not_closed ∙ ap is_some not_committed

    else_write : (j : ℕ) → (j == s) ≡ false → is_open_by store j new ≡ false
    else_write j other = and-false (is_some (store.opened j)) (is_by j (store.begins j) new) (ap (λ b. b && store.begins s == store.begins j) (ne_eqb s j (λ e. apart j s other (sym e))))

    weaker : (ws : List Accepted) → AllByRecursion (WriteTells limits store) ws → AllByRecursion (WriteTells limits written) ws
    weaker ws all = all_from (WriteTells limits store) (WriteTells limits written) ws (λ w is. record { low = is.low; begun = is.begun; settled = is.settled }) all

    zero_or : (n : ℕ) → cond (n == 0) 0 n ≡ n
    zero_or zero = refl
    zero_or (suc n) = ap (λ t. cond t 0 (suc n)) (not_zero n)

    first_else : (j : ℕ) → (j == s) ≡ false → (range : ℕ) → first_where (is_open_by store j) (store.accepted range) ≡ first_where (is_open_by written j) (written.accepted range)
    first_else j other = at_each (λ range. first_where (is_open_by store j) (store.accepted range) ≡ first_where (is_open_by store j) (written.accepted range)) at
        (sym (ap (first_where (is_open_by store j)) (put-same store.accepted at (store.accepted at ++ new ∷ []))
        ∙ first-append (is_open_by store j) (store.accepted at) new
        ∙ ap (λ b. cond (first_where (is_open_by store j) (store.accepted at) == 0) (cond b (suc (length (store.accepted at))) 0) (first_where (is_open_by store j) (store.accepted at))) (else_write j other)
        ∙ zero_or (first_where (is_open_by store j) (store.accepted at))))
        (λ range elsewhere. ap (first_where (is_open_by store j)) (sym (put-else store.accepted at range (store.accepted at ++ new ∷ []) elsewhere)))

    module _ (tail : ℕ) (last : tail ≡ suc (length (store.accepted at))) (in_limits : at < limits.ranges) where
      abbrev firsts : List ℕ
      firsts = (holder_of lineage.holders s).firsts

      wide_here : at < length firsts
      wide_here = let same = wide.ranges s low in let inside = in_limits in omega (arith, same, inside)

      noted_here : get_or (noted_firsts firsts at tail) at 0 ≡ cond (get_or firsts at 0 == 0) tail (get_or firsts at 0)
      noted_here = step (get_or firsts at 0 == 0)
        where
          step : (b : Bool) → get_or (cond b (set firsts at tail) firsts) at 0 ≡ cond b tail (get_or firsts at 0)
          step true = get_or-set_same firsts at tail 0 wide_here
          step false = refl

      noted_else : (range : ℕ) → (range == at) ≡ false → get_or (noted_firsts firsts at tail) range 0 ≡ get_or firsts range 0
      noted_else range other = step (get_or firsts at 0 == 0)
        where
          step : (b : Bool) → get_or (cond b (set firsts at tail) firsts) range 0 ≡ get_or firsts range 0
          step true = get_or-set_other firsts at range tail 0 (apart range at other)
          step false = refl

      first_own : (range : ℕ) → range < limits.ranges → get_or (noted_firsts firsts at tail) range 0 ≡ first_where (is_open_by written s) (written.accepted range)
      first_own = at_each (λ range. range < limits.ranges → get_or (noted_firsts firsts at tail) range 0 ≡ first_where (is_open_by store s) (written.accepted range)) at
          (λ inside. noted_here
          ∙ ap (λ n. cond (n == 0) tail n) ((tells.holders s low).firsts at inside)
          ∙ ap (λ n. cond (first_where (is_open_by store s) (store.accepted at) == 0) n (first_where (is_open_by store s) (store.accepted at))) last
          ∙ sym (ap (first_where (is_open_by store s)) (put-same store.accepted at (store.accepted at ++ new ∷ []))
          ∙ first-append (is_open_by store s) (store.accepted at) new
          ∙ ap (λ b. cond (first_where (is_open_by store s) (store.accepted at) == 0) (cond b (suc (length (store.accepted at))) 0) (first_where (is_open_by store s) (store.accepted at))) open_here))
          (λ range other inside. noted_else range other ∙ (tells.holders s low).firsts range inside ∙ ap (first_where (is_open_by store s)) (sym (put-else store.accepted at range (store.accepted at ++ new ∷ []) other)))

      pub pages_accepted : PagesTell (with_tail lineage s at tail) limits (record { store = written; pages = pages })
      pages_accepted = record {
        tps = tells.tps;
        holders = at_each (λ j. j < limits.sessions → HolderTells (holder_of (with_tail lineage s at tail).holders j) limits (record { store = written; pages = pages }) j) s
            (λ _. subst (λ (h : HolderState). HolderTells h limits (record { store = written; pages = pages }) s) (sym (holder_here lineage.holders s (noted_holder (holder_of lineage.holders s) at tail) within))
            (record {
              swaps = swaps_same (holder_of lineage.holders s).swaps limits (record { store = store; pages = pages }) (record { store = written; pages = pages }) s refl refl refl (tells.holders s low).swaps;
              firsts = first_own;
            }))
            (λ j other low. subst (λ (h : HolderState). HolderTells h limits (record { store = written; pages = pages }) j) (sym (holder_else lineage.holders s j (noted_holder (holder_of lineage.holders s) at tail) other))
            (let here = tells.holders j low in record {
              swaps = swaps_same (holder_of lineage.holders j).swaps limits (record { store = store; pages = pages }) (record { store = written; pages = pages }) j refl refl refl here.swaps;
              firsts = λ range in_range. here.firsts range in_range ∙ first_else j other range;
            }));
        writes = at_each (λ range. AllByRecursion (WriteTells limits written) (written.accepted range)) at
            (subst (AllByRecursion (WriteTells limits written)) (sym (put-same store.accepted at (store.accepted at ++ new ∷ [])))
            (all-append (WriteTells limits written) (store.accepted at) new (weaker (store.accepted at) (tells.writes at))
            (record { low = low; begun = omega arith; settled = unsettled ∙ ap not (sym open_here) })))
            (λ range other. subst (AllByRecursion (WriteTells limits written)) (sym (put-else store.accepted at range (store.accepted at ++ new ∷ []) other)) (weaker (store.accepted range) (tells.writes range)));
      }
