-- What a changed part of a machine makes of the state that it shows.
use Rattle.std.proofs.Common.{◌≡◌, ℕ, ◌+◌, ◌<◌, Bool, true, false, cond, List, [], ◌∷◌, ◌++◌, length, set, refl, sym, ap, ◌∙◌, get_or-set_same, get_or-set_other}
use Rattle.std.proofs.lemmas.Bool.{eqb-true, eq-eqb, ne_eqb}
use Rattle.std.proofs.lemmas.List.{length-append}
use Rattle.std.specs.Prelude.{Some, None, slice_index_or, ◌==◌, ◌&&◌, ◌||◌}
use Rattle.lst_model.specs.declared.commits.Commit.{Commit}
use Rattle.lst_machine.specs.declared.parts.Swap.{Swap}
use Rattle.lst_machine.specs.State.{Accepted}
use Rattle.lst_machine.specs.Writes.{put, put_in}
use Rattle.lst_machine.specs.Parts.{SessionState, new_session, Parts, session_of, range_in, has_number, tps_after, state_in}
use Rattle.lst_machine.specs.Machines.{opens, closes, commits, accepts, swaps}

unlike : (a b : ℕ) → (a == b) ≡ false → a ≡ b → ⊥
unlike a b other same = let both : true ≡ false = sym (eq-eqb a b same) ∙ other in cc

-- a function of the elements of a list, once one of them is changed
module _ {A : Type 0} (xs : List A) (k : ℕ) (low : k < length xs) (new d : A) where
  pub set_changes : {B : Type 0} (f : A → B) (j : ℕ) → f (slice_index_or (set xs k new) j d) ≡ put (λ (i : ℕ). f (slice_index_or xs i d)) k (f new) j
  set_changes f j = step (j == k) refl
    where
      step : (b : Bool) → (j == k) ≡ b → f (slice_index_or (set xs k new) j d) ≡ put (λ (i : ℕ). f (slice_index_or xs i d)) k (f new) j
      step true is =
          ap (λ (i : ℕ). f (slice_index_or (set xs k new) i d)) (eqb-true j k is)
          ∙ ap f (get_or-set_same xs k new d low)
          ∙ sym (ap (λ b. cond b (f new) (f (slice_index_or xs j d))) is)
      step false is =
          ap f (get_or-set_other xs k j new d (unlike j k is))
          ∙ sym (ap (λ b. cond b (f new) (f (slice_index_or xs j d))) is)

  pub set_keeps : {B : Type 0} (f : A → B) → f new ≡ f (slice_index_or xs k d) → (j : ℕ) → f (slice_index_or (set xs k new) j d) ≡ f (slice_index_or xs j d)
  set_keeps f same j = step (j == k) refl
    where
      step : (b : Bool) → (j == k) ≡ b → f (slice_index_or (set xs k new) j d) ≡ f (slice_index_or xs j d)
      step true is =
          ap (λ (i : ℕ). f (slice_index_or (set xs k new) i d)) (eqb-true j k is)
          ∙ ap f (get_or-set_same xs k new d low) ∙ same
          ∙ sym (ap (λ (i : ℕ). f (slice_index_or xs i d)) (eqb-true j k is))
      step false is = ap f (get_or-set_other xs k j new d (unlike j k is))

-- one more number
pub number_pushed : (numbers : List ℕ) (new number : ℕ) → has_number number (numbers ++ new ∷ []) ≡ cond (number == new) true (has_number number numbers)
number_pushed [] new number = step (new == number) refl
  where
    step : (b : Bool) → (new == number) ≡ b → (b || false) ≡ cond (number == new) true false
    step true is = sym (ap (λ b. cond b true false) (eq-eqb number new (sym (eqb-true new number is))))
    step false is = sym (ap (λ b. cond b true false) (ne_eqb number new (λ e. unlike new number is (sym e))))
number_pushed (first ∷ numbers) new number = step (first == number) (number_pushed numbers new number)
  where
    step : (b : Bool) → has_number number (numbers ++ new ∷ []) ≡ cond (number == new) true (has_number number numbers)
        → (b || has_number number (numbers ++ new ∷ [])) ≡ cond (number == new) true (b || has_number number numbers)
    step true rest = either (number == new)
      where
        either : (t : Bool) → true ≡ cond t true true
        either true = refl
        either false = refl
    step false rest = rest

-- one more swap
pub swap_pushed : (tps : ℕ) (swaps : List Swap) (swap : Swap) (range column : ℕ)
    → tps_after tps (swaps ++ swap ∷ []) range column ≡ cond (swap.range == range && swap.column == column) swap.tps (tps_after tps swaps range column)
swap_pushed tps [] swap range column = refl
swap_pushed tps (first ∷ swaps) swap range column = swap_pushed (cond (first.range == range && first.column == column) first.tps tps) swaps swap range column

-- ---- a session's part is changed

module _ (parts : Parts) (s : ℕ) (low : s < length parts.sessions) where
  abbrev old : SessionState
  old = session_of parts.sessions s

  pub opened_shows : (begin : ℕ) (read_only : Bool)
      → state_in (record parts { sessions = set parts.sessions s (record old { begins = old.begins + 1; opened = Some (record { begin = begin; read_only = read_only }); swaps_at_begin = length parts.swaps }) }) ≡ opens (state_in parts) s begin read_only
  opened_shows begin read_only =
      let new : SessionState = record old { begins = old.begins + 1; opened = Some (record { begin = begin; read_only = read_only }); swaps_at_begin = length parts.swaps } in
      λ i. record {
        store = record {
          history = parts.history;
          placed = parts.placed;
          accepted = λ range. range_in parts.ranges range;
          begins = λ t. set_changes parts.sessions s low new new_session (λ (x : SessionState). x.begins) t i;
          opened = λ t. set_changes parts.sessions s low new new_session (λ (x : SessionState). x.opened) t i;
          closed = λ t n. set_keeps parts.sessions s low new new_session (λ (x : SessionState). has_number n x.closed) refl t i;
        };
        pages = record {
          tps = λ range column. tps_after 0 parts.swaps range column;
          swaps = length parts.swaps;
          swaps_at_begin = λ t. set_changes parts.sessions s low new new_session (λ (x : SessionState). x.swaps_at_begin) t i;
        };
      }

  module _ (new : SessionState) (longer : new.closed ≡ old.closed ++ old.begins ∷ []) where
    closed_changes : (t n : ℕ) → has_number n (session_of (set parts.sessions s new) t).closed ≡ put_in (λ t n. has_number n (session_of parts.sessions t).closed) s old.begins true t n
    closed_changes t n = step (t == s) refl
      where
        step : (b : Bool) → (t == s) ≡ b → has_number n (session_of (set parts.sessions s new) t).closed ≡ (cond b (put (λ (n : ℕ). has_number n (session_of parts.sessions s).closed) old.begins true) (λ (n : ℕ). has_number n (session_of parts.sessions t).closed)) n
        step true is =
            ap (λ (t : ℕ). has_number n (session_of (set parts.sessions s new) t).closed) (eqb-true t s is)
            ∙ ap (λ (x : SessionState). has_number n x.closed) (get_or-set_same parts.sessions s new new_session low)
            ∙ ap (has_number n) longer
            ∙ number_pushed old.closed old.begins n
        step false is = ap (λ (x : SessionState). has_number n x.closed) (get_or-set_other parts.sessions s t new new_session (unlike t s is))

  pub closed_shows : state_in (record parts { sessions = set parts.sessions s (record old { opened = None; swaps_at_begin = 0; closed = old.closed ++ old.begins ∷ [] }) }) ≡ closes (state_in parts) s
  closed_shows =
      let new : SessionState = record old { opened = None; swaps_at_begin = 0; closed = old.closed ++ old.begins ∷ [] } in
      λ i. record {
        store = record {
          history = parts.history;
          placed = parts.placed;
          accepted = λ range. range_in parts.ranges range;
          begins = λ t. set_keeps parts.sessions s low new new_session (λ (x : SessionState). x.begins) refl t i;
          opened = λ t. set_changes parts.sessions s low new new_session (λ (x : SessionState). x.opened) t i;
          closed = λ t n. closed_changes new refl t n i;
        };
        pages = record {
          tps = λ range column. tps_after 0 parts.swaps range column;
          swaps = length parts.swaps;
          swaps_at_begin = λ t. set_changes parts.sessions s low new new_session (λ (x : SessionState). x.swaps_at_begin) t i;
        };
      }

  pub committed_shows : (commit : Commit) → state_in (record parts { history = parts.history ++ commit ∷ []; sessions = set parts.sessions s (record old { opened = None; swaps_at_begin = 0 }) }) ≡ commits (state_in parts) s commit
  committed_shows commit =
      let new : SessionState = record old { opened = None; swaps_at_begin = 0 } in
      λ i. record {
        store = record {
          history = parts.history ++ commit ∷ [];
          placed = parts.placed;
          accepted = λ range. range_in parts.ranges range;
          begins = λ t. set_keeps parts.sessions s low new new_session (λ (x : SessionState). x.begins) refl t i;
          opened = λ t. set_changes parts.sessions s low new new_session (λ (x : SessionState). x.opened) t i;
          closed = λ t n. set_keeps parts.sessions s low new new_session (λ (x : SessionState). has_number n x.closed) refl t i;
        };
        pages = record {
          tps = λ range column. tps_after 0 parts.swaps range column;
          swaps = length parts.swaps;
          swaps_at_begin = λ t. set_changes parts.sessions s low new new_session (λ (x : SessionState). x.swaps_at_begin) t i;
        };
      }

-- ---- a write is accepted

pub accepted_shows : (parts : Parts) (range : ℕ) (write : Accepted) → range < length parts.ranges
    → state_in (record parts { ranges = set parts.ranges range (range_in parts.ranges range ++ write ∷ []) }) ≡ accepts (state_in parts) range write
accepted_shows parts range write low = λ i. record {
  store = record {
    history = parts.history;
    placed = parts.placed;
    accepted = λ r. set_changes parts.ranges range low (range_in parts.ranges range ++ write ∷ []) [] (λ (writes : List Accepted). writes) r i;
    begins = λ t. (session_of parts.sessions t).begins;
    opened = λ t. (session_of parts.sessions t).opened;
    closed = λ t n. has_number n (session_of parts.sessions t).closed;
  };
  pages = (state_in parts).pages;
}

-- ---- a page is swapped

pub swapped_shows : (parts : Parts) (swap : Swap) → state_in (record parts { swaps = parts.swaps ++ swap ∷ [] }) ≡ swaps (state_in parts) swap.range swap.column swap.tps
swapped_shows parts swap = λ i. record {
  store = (state_in parts).store;
  pages = record {
    tps = λ r c. tps_changes r c i;
    swaps = more i;
    swaps_at_begin = λ t. (session_of parts.sessions t).swaps_at_begin;
  };
}
  where
    more : length (parts.swaps ++ swap ∷ []) ≡ length parts.swaps + 1
    more = length-append parts.swaps (swap ∷ [])

    tps_changes : (r c : ℕ) → tps_after 0 (parts.swaps ++ swap ∷ []) r c ≡ put_in (λ r c. tps_after 0 parts.swaps r c) swap.range swap.column swap.tps r c
    tps_changes r c = swap_pushed 0 parts.swaps swap r c ∙ step (r == swap.range) refl (c == swap.column) refl
      where
        turned : (a b : ℕ) (t : Bool) → (b == a) ≡ t → (a == b) ≡ t
        turned a b true is = eq-eqb a b (sym (eqb-true b a is))
        turned a b false is = ne_eqb a b (λ e. unlike b a is (sym e))

        step : (a : Bool) → (r == swap.range) ≡ a → (b : Bool) → (c == swap.column) ≡ b
            → cond (swap.range == r && swap.column == c) swap.tps (tps_after 0 parts.swaps r c) ≡ put_in (λ r c. tps_after 0 parts.swaps r c) swap.range swap.column swap.tps r c
        step true ra true cb = rw (turned swap.range r true ra, turned swap.column c true cb, ra, cb) refl
        step true ra false cb = rw (turned swap.range r true ra, turned swap.column c false cb, ra, cb) (ap (λ (k : ℕ). tps_after 0 parts.swaps k c) (eqb-true r swap.range ra))
        step false ra b cb = rw (turned swap.range r false ra, ra) refl
