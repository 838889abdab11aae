-- A write is accepted.
use Rattle.std.proofs.Common.{◌≡◌, ℕ, ◌+◌, ◌/◌, ◌<◌, ◌≤◌, Bool, true, false, cond, not, List, [], ◌∷◌, ◌++◌, length, get_or, set, refl, sym, ap, ◌∙◌, subst, arith, get_or-set_same, get_or-set_other, length-append}
use Rattle.std.proofs.lemmas.Bool.{eqb-true, eq-eqb, ltb-false}
use Rattle.std.proofs.lemmas.List.{length-map}
use Rattle.std.specs.Prelude.{Option, Some, None, is_some, unwrap_or, MatchOption, nat_lt, ◌==◌, ◌&&◌, ◌||◌}
use Rattle.lst_layout.specs.declared.limits.Limits.{Limits}
use Rattle.lst_model.specs.declared.acts.Act.{Act}
use Rattle.lst_model.specs.declared.replies.Cause.TheVariants.{Newer, Unfinished}
use Rattle.lst_model.specs.Cells.{Cell}
use Rattle.lst_model.specs.Histories.{row_after, row_from}
use Rattle.lst_model.proofs.Folds.{row_from-append}
use Rattle.lst_machine.specs.State.{Accepted, Opened, Store}
use Rattle.lst_machine.specs.Writes.{place_of, range_of, time_of, last_where}
use Rattle.lst_machine.specs.Calls.{with_accepted}
use Rattle.lst_plain.specs.declared.versions.Pending.{Pending}
use Rattle.lst_plain.specs.Rows.{Kept, fresh, newest, row_at, row_seen, conflict_in, conflict_beside, with_pending, keys_of, kept_of, is_held}
use Rattle.lst_plain.specs.Sessions.{SessionState, new_session, noted_places}
use Rattle.lst_plain.specs.Engines.{EngineState, session_of}
use Rattle.lst_plain.specs.Steps.{with_write}
use Rattle.lst_plain.specs.Telling.{own_acts, acts_by, is_by, has_write, is_live, is_apart, last_settled, accepted_on, IsReached, IsPending, KeyTells, SessionTells, StoreTells}
use Rattle.lst_plain.proofs.Placing.{at_place, kept-at, kept-key, kept-set, keys-set}
use Rattle.lst_machine.proofs.Appending.{last-append}
use Rattle.lst_plain.proofs.Acting.{acts_by-append, has_write-append, last-same, ends}
use Rattle.lst_plain.proofs.Seeing.{beside}
use Rattle.lst_plain.proofs.Opening.{at_each, put-same, put-else, apart, pending_same}

pub and-left : (a b : Bool) → a ≡ false → (a && b) ≡ false
and-left a b is = ap (λ x. x && b) is

pub and-right : (a b : Bool) → b ≡ false → (a && b) ≡ false
and-right true b is = is
and-right false b is = refl

-- where nothing is in the way of a session, the pending row is its own
pub free_own : (kept : Kept) (s begin : ℕ) → conflict_in kept s begin ≡ None → (pending : Pending) → kept.pending ≡ Some pending → pending.session ≡ s
free_own kept s begin free pending is = at_test (pending.session == s) refl
  where
    none : conflict_beside (Some pending) (newest kept.versions) s begin ≡ None
    none = ap (λ p. conflict_beside p (newest kept.versions) s begin) (sym is) ∙ free

    at_test : (b : Bool) → (pending.session == s) ≡ b → pending.session ≡ s
    at_test true same = eqb-true _ _ same
    at_test false else = let both : Some (Unfinished pending.session pending.number) ≡ None = ap (λ b. cond b None (Some (Unfinished pending.session pending.number))) (sym else) ∙ none in absurd (cc)

pub free_not_held : (kept : Kept) (s begin : ℕ) → conflict_in kept s begin ≡ None → (j : ℕ) → (s == j) ≡ false → is_held kept.pending j ≡ false
free_not_held kept s begin free j else = at kept.pending refl
  where
    at : (pending : Option Pending) → kept.pending ≡ pending → is_held pending j ≡ false
    at None is = refl
    at (Some pending) is = ap (λ p. p == j) (free_own kept s begin free pending is) ∙ else

module _ (store : Store) (s key : ℕ) (act : Act) (reached : IsReached store) where
  abbrev write : Accepted
  write = record { session = s; number = store.begins s; write = record { key = key; act = act } }

  abbrev range : ℕ
  range = range_of store.placed key

  abbrev after : Store
  after = with_accepted store s key act

  on_here : accepted_on after key ≡ accepted_on store key ++ write ∷ []
  on_here = put-same store.accepted range (store.accepted range ++ write ∷ [])

  -- what doesn't see the write is read of each range as before
  read_range : {A : Type 0} (read : List Accepted → A) → ((writes : List Accepted) → read (writes ++ write ∷ []) ≡ read writes) → (other : ℕ) → read (after.accepted other) ≡ read (store.accepted other)
  read_range read blind = at_each (λ other. read (after.accepted other) ≡ read (store.accepted other)) range
      (ap read (put-same store.accepted range (store.accepted range ++ write ∷ [])) ∙ blind (store.accepted range))
      (λ other else. ap read (put-else store.accepted range other (store.accepted range ++ write ∷ []) else))

  acts_else : (session number k : ℕ) → (is_by session number write && key == k) ≡ false → (other : ℕ) → acts_by session number k (after.accepted other) ≡ acts_by session number k (store.accepted other)
  acts_else session number k else other = read_range (acts_by session number k)
      (λ writes. acts_by-append session number k writes (write ∷ []) ∙ ap (λ b. acts_by session number k writes ++ cond b (act ∷ []) []) else ∙ ends (acts_by session number k writes)) other

  last_else : (test : Accepted → Bool) → test write ≡ false → (other : ℕ) → last_where test (after.accepted other) ≡ last_where test (store.accepted other)
  last_else test fails other = read_range (last_where test) (λ writes. last-append test writes write ∙ ap (λ b. cond b (Some write) (last_where test writes)) fails) other

  own_else : (j k : ℕ) → (s == j && key == k) ≡ false → own_acts after j k ≡ own_acts store j k
  own_else j k else = acts_else j (store.begins j) k (both (s == j) (key == k) else) (range_of store.placed k)
    where
      both : (a b : Bool) → (a && b) ≡ false → ((a && store.begins s == store.begins j) && b) ≡ false
      both true true is = absurd (cc)
      both true false is = and-right (store.begins s == store.begins j) false refl
      both false b is = refl

  by_itself : is_by s (store.begins s) write ≡ true
  by_itself = ap (λ b. b && store.begins s == store.begins s) (eq-eqb s s refl) ∙ eq-eqb (store.begins s) (store.begins s) refl

  own_here : own_acts after s key ≡ own_acts store s key ++ act ∷ []
  own_here = ap (acts_by s (store.begins s) key) on_here ∙ acts_by-append s (store.begins s) key (accepted_on store key) (write ∷ [])
      ∙ ap (λ b. own_acts store s key ++ cond b (act ∷ []) []) (ap (λ b. b && key == key) by_itself ∙ eq-eqb key key refl)

  -- the record of another key tells the same
  pub key_else : (kept : Kept) (k : ℕ) → (key == k) ≡ false → KeyTells kept store k → KeyTells kept after k
  key_else kept k else tells = record {
    rows = tells.rows;
    rising = tells.rising;
    early = tells.early;
    others = λ j is free. own_else j k (and-right (s == j) (key == k) else) ∙ tells.others j is free;
    pending = λ pending is. pending_same store after k kept.versions pending refl refl (own_else pending.session k (and-right (s == pending.session) (key == k) else))
        (last_else (is_live store k) (and-left (key == k) (not (store.closed s (store.begins s))) else) (range_of store.placed k)) (tells.pending pending is);
    last = subst (λ (last : Option Accepted). MatchOption last (newest kept.versions ≡ 0) (λ w. time_of store.history w.session w.number ≡ Some (newest kept.versions)))
        (sym (last_else (λ w. is_live store k w && is_apart kept.pending w) (and-left (is_live store k write) (is_apart kept.pending write) (and-left (key == k) (not (store.closed s (store.begins s))) else)) (range_of store.placed k)))
        tells.last;
  }

  module _ (opened : Opened) (is_open : store.opened s ≡ Some opened) (kept : Kept) (tells : KeyTells kept store key) (free : conflict_in kept s opened.begin ≡ None) where
    own_pending : (pending : Pending) → kept.pending ≡ Some pending → pending.session ≡ s
    own_pending = free_own kept s opened.begin free

    not_held : (j : ℕ) → (s == j) ≡ false → is_held kept.pending j ≡ false
    not_held = free_not_held kept s opened.begin free

    -- no version is later than the begin
    no_later : newest kept.versions ≤ opened.begin
    no_later = at kept.pending refl
      where
        by_test : (b : Bool) → nat_lt opened.begin (newest kept.versions) ≡ b → cond b (Some (Newer (newest kept.versions))) None ≡ None → newest kept.versions ≤ opened.begin
        by_test true is none = absurd (cc)
        by_test false is none = ltb-false _ _ is

        at : (pending : Option Pending) → kept.pending ≡ pending → newest kept.versions ≤ opened.begin
        at None is = by_test (nat_lt opened.begin (newest kept.versions)) refl (ap (λ p. conflict_beside p (newest kept.versions) s opened.begin) (sym is) ∙ free)
        at (Some pending) is =
            let held = tells.pending pending is in
            let begun : Some held.opened ≡ Some opened = sym held.is_open ∙ ap store.opened (own_pending pending is) ∙ is_open in
            let one : held.opened ≡ opened = cc in
            subst (λ (o : Opened). newest kept.versions ≤ o.begin) one held.early

    -- without a pending row, the session has no acts on the key
    settled_same : (pending : Option Pending) → kept.pending ≡ pending
        → last_where (λ w. is_live store key w && is_apart (Some (record { session = s; number = store.begins s; row = None })) w) (accepted_on store key) ≡ last_settled store key pending
    settled_same None is = last-same s (store.begins s) key _ _ (accepted_on store key) (tells.others s (ap is_some is_open) (ap (λ p. is_held p s) is)) (λ w else. by_parts (is_by s (store.begins s) w) (w.write.key == key) (not (store.closed w.session w.number)) else)
      where
        by_parts : (a b c : Bool) → (a && b) ≡ false → ((b && c) && not a) ≡ ((b && c) && true)
        by_parts true true c else = absurd (cc)
        by_parts true false c else = refl
        by_parts false b c else = refl
    settled_same (Some pending) is =
        let held = tells.pending pending is in
        let same : pending.session ≡ s = own_pending pending is in
        ap (λ (n : ℕ). last_where (λ w. is_live store key w && not (is_by s n w)) (accepted_on store key)) (ap store.begins (sym same) ∙ held.number)
        ∙ ap (λ (j : ℕ). last_where (λ w. is_live store key w && not (is_by j pending.number w)) (accepted_on store key)) (sym same)

    pub key_here : (row : Option (List Cell)) → row ≡ row_after (row_seen kept s opened.begin) act → KeyTells (with_pending kept (record { session = s; number = store.begins s; row = row })) after key
    key_here row is_row = record {
      rows = tells.rows;
      rising = tells.rising;
      early = tells.early;
      others = λ j is other. own_else j key (and-left (s == j) (key == key) other) ∙ tells.others j is (not_held j other);
      pending = λ pending is.
          let made : Some (record { session = s; number = store.begins s; row = row }) ≡ Some pending = is in
          let one : record { session = s; number = store.begins s; row = row } ≡ pending = cc in
          subst (λ (p : Pending). IsPending after key kept.versions p) one (record {
            opened = opened;
            is_open = is_open;
            number = refl;
            early = no_later;
            written = λ none. let some : own_acts store s key ++ act ∷ [] ≡ [] = sym own_here ∙ none in not_nil act (own_acts store s key) some;
            row = ap (row_from (row_at kept.versions opened.begin)) own_here
                ∙ row_from-append (row_at kept.versions opened.begin) (own_acts store s key) (act ∷ [])
                ∙ ap (λ seen. row_after seen act) (beside kept store key tells s opened is_open kept.pending refl)
                ∙ sym is_row;
            rival = write;
            is_last = ap (last_where (is_live store key)) on_here ∙ last-append (is_live store key) (accepted_on store key) write
                ∙ ap (λ b. cond b (Some write) (last_where (is_live store key) (accepted_on store key)))
                (ap (λ b. b && not (store.closed s (store.begins s))) (eq-eqb key key refl) ∙ ap not (reached.open_not_closed s (ap is_some is_open)));
            by_session = refl;
            by_number = refl;
          });
      last = subst (λ (last : Option Accepted). MatchOption last (newest kept.versions ≡ 0) (λ w. time_of store.history w.session w.number ≡ Some (newest kept.versions)))
          (sym (last_else (λ w. is_live store key w && not (is_by s (store.begins s) w)) (and-right (is_live store key write) (not (is_by s (store.begins s) write)) (ap not by_itself)) range
          ∙ settled_same kept.pending refl))
          tells.last;
    }
      where
        not_nil : {A : Type 0} (x : A) (xs : List A) → xs ++ x ∷ [] ≡ [] → ⊥
        not_nil x [] e = absurd (cc)
        not_nil x (y ∷ ys) e = absurd (cc)

  pub reached_accepted : (place : ℕ) → place_of store.placed key ≡ Some place → IsReached after
  reached_accepted place is_at = record {
    home = λ other k. at_each (λ other. has_write k (after.accepted other) ≡ true → (place : ℕ) × (place_of store.placed k ≡ Some place) × (place / 256 ≡ other)) range
        (λ is. at_write k (has_write k (store.accepted range)) refl (key == k) refl (sym (has_write-append k (store.accepted range) write) ∙ sym (ap (has_write k) (put-same store.accepted range (store.accepted range ++ write ∷ []))) ∙ is))
        (λ other else is. reached.home other k (sym (ap (has_write k) (put-else store.accepted range other (store.accepted range ++ write ∷ []) else)) ∙ is))
        other;
    distinct = reached.distinct;
    unused = λ session number other k low. acts_else session number k (and-left (is_by session number write) (key == k) (not_by session number low (s == session) refl)) other ∙ reached.unused session number other k low;
    not_closed = reached.not_closed;
    not_committed = reached.not_committed;
    open_not_closed = reached.open_not_closed;
    open_not_committed = reached.open_not_committed;
    open_begun = reached.open_begun;
  }
    where
      range_is : range_of store.placed key ≡ place / 256
      range_is = ap (λ p. unwrap_or p 0 / 256) is_at

      at_write : (k : ℕ) (before : Bool) → has_write k (store.accepted range) ≡ before → (here : Bool) → (key == k) ≡ here → (has_write k (store.accepted range) || key == k) ≡ true → (place : ℕ) × (place_of store.placed k ≡ Some place) × (place / 256 ≡ range)
      at_write k true was here same is = reached.home range k was
      at_write k false was true same is = subst (λ (k : ℕ). (place : ℕ) × (place_of store.placed k ≡ Some place) × (place / 256 ≡ range)) (eqb-true key k same) (place, is_at, sym range_is)
      at_write k false was false same is = absurd (let none : false ≡ true = sym (ap (λ b. b || key == k) was ∙ same) ∙ is in cc)

      not_by : (session number : ℕ) → store.begins session < number → (b : Bool) → (s == session) ≡ b → (s == session && store.begins s == number) ≡ false
      not_by session number low true same = and-right (s == session) (store.begins s == number) (apart_numbers (store.begins s == number) refl)
        where
          apart_numbers : (b : Bool) → (store.begins s == number) ≡ b → b ≡ false
          apart_numbers true e = let one : store.begins s ≡ number = eqb-true _ _ e in let two : store.begins s ≡ store.begins session = ap store.begins (eqb-true s session same) in absurd (omega arith)
          apart_numbers false e = refl
      not_by session number low false other = and-left (s == session) (store.begins s == number) other

pub swapped : (j s : ℕ) → (j == s) ≡ false → (s == j) ≡ false
swapped j s other = at_test (s == j) refl
  where
    at_test : (b : Bool) → (s == j) ≡ b → b ≡ false
    at_test true same = let is : true ≡ false = sym (eq-eqb j s (sym (eqb-true s j same))) ∙ other in cc
    at_test false else = refl

module _ (engine : EngineState) (limits : Limits) (store : Store) (told : StoreTells engine limits store) (s : ℕ) (low : s < limits.sessions) (within : s < length engine.sessions)
    (opened : Opened) (is_open : store.opened s ≡ Some opened) (key place : ℕ) (is_at : place_of (keys_of engine.records) key ≡ Some place) (in_range : place / 256 < length engine.accepted)
    (free : conflict_in (get_or engine.records place (fresh 0)) s opened.begin ≡ None) (act : Act) (row : Option (List Cell)) (is_row : row ≡ row_after (row_seen (get_or engine.records place (fresh 0)) s opened.begin) act) where
  abbrev kept : Kept
  kept = get_or engine.records place (fresh 0)

  abbrev made : Pending
  made = record { session = s; number = (session_of engine s).begins; row = row }

  abbrev later : Store
  later = with_accepted store s key act

  kept_is : kept_of engine.records key ≡ kept
  kept_is = kept-at engine.records key place (fresh 0) is_at

  told_kept : KeyTells kept store key
  told_kept = subst (λ (k : Kept). KeyTells k store key) kept_is (told.keys key)

  at_list : place_of store.placed key ≡ Some place
  at_list = ap (λ keys. place_of keys key) told.placed ∙ is_at

  place_low : place < length engine.records
  place_low = let found = (at_place (keys_of engine.records) key place is_at).0 in omega (arith, length-map engine.records (λ (k : Kept). k.key))

  number_is : store.begins s ≡ (session_of engine s).begins
  number_is = (told.sessions s low).begins

  key_is : kept.key ≡ key
  key_is = ap (λ (k : Kept). k.key) (sym kept_is) ∙ kept-key engine.records key

  pending_here : KeyTells (with_pending kept made) later key
  pending_here = subst (λ (n : ℕ). KeyTells (with_pending kept (record { session = s; number = n; row = row })) later key) number_is
      (key_here store s key act told.reached opened is_open kept told_kept free row is_row)

  keys_tell : (k : ℕ) → KeyTells (kept_of (set engine.records place (with_pending kept made)) k) later k
  keys_tell k = subst (λ (kept : Kept). KeyTells kept later k) (sym (kept-set engine.records key place (with_pending kept made) k is_at key_is)) (at_test (key == k) refl)
    where
      at_test : (b : Bool) → (key == k) ≡ b → KeyTells (cond b (with_pending kept made) (kept_of engine.records k)) later k
      at_test true same = subst (λ (k : ℕ). KeyTells (with_pending kept made) later k) (eqb-true key k same) pending_here
      at_test false else = key_else store s key act told.reached (kept_of engine.records k) k else (told.keys k)

  counts_tell : (range : ℕ) → range < limits.ranges → length (later.accepted range) ≡ get_or (set engine.accepted (place / 256) (get_or engine.accepted (place / 256) 0 + 1)) range 0
  counts_tell = at_each (λ range. range < limits.ranges → length (later.accepted range) ≡ get_or (set engine.accepted (place / 256) (get_or engine.accepted (place / 256) 0 + 1)) range 0) (place / 256)
      (λ under. ap length put-there ∙ length-append (store.accepted (place / 256)) (write store s key act told.reached ∷ []) ∙ ap (λ n. n + 1) (told.counts (place / 256) under)
      ∙ sym (get_or-set_same engine.accepted (place / 256) (get_or engine.accepted (place / 256) 0 + 1) 0 in_range))
      (λ range else under. ap length (put-else store.accepted (range_of store.placed key) range (store.accepted (range_of store.placed key) ++ write store s key act told.reached ∷ []) (ap (λ r. range == r) range_is ∙ else)) ∙ told.counts range under
      ∙ sym (get_or-set_other engine.accepted (place / 256) range (get_or engine.accepted (place / 256) 0 + 1) 0 (apart range (place / 256) else)))
    where
      range_is : range_of store.placed key ≡ place / 256
      range_is = ap (λ p. unwrap_or p 0 / 256) at_list

      put-there : later.accepted (place / 256) ≡ store.accepted (place / 256) ++ write store s key act told.reached ∷ []
      put-there = subst (λ (r : ℕ). later.accepted r ≡ store.accepted r ++ write store s key act told.reached ∷ []) range_is
          (put-same store.accepted (range_of store.placed key) (store.accepted (range_of store.placed key) ++ write store s key act told.reached ∷ []))

  pub tells_accepted : StoreTells (with_write engine s place row) limits later
  tells_accepted = record {
    same_limits = told.same_limits;
    clock = told.clock;
    placed = told.placed ∙ sym (keys-set engine.records place (with_pending kept made) (fresh 0) refl);
    counts = counts_tell;
    sessions = at_each (λ j. j < limits.sessions → SessionTells (session_of (with_write engine s place row) j) later j) s
        (λ _. let here = told.sessions s low in subst (λ (state : SessionState). SessionTells state later s)
        (sym (get_or-set_same engine.sessions s (record (session_of engine s) { written = noted_places (is_held kept.pending s) (session_of engine s).written place }) new_session within))
        (record { begins = here.begins; opened = here.opened }))
        (λ j other under. let there = told.sessions j under in subst (λ (state : SessionState). SessionTells state later j)
        (sym (get_or-set_other engine.sessions s j (record (session_of engine s) { written = noted_places (is_held kept.pending s) (session_of engine s).written place }) new_session (apart j s other)))
        (record { begins = there.begins; opened = there.opened }));
    keys = keys_tell;
    reached = reached_accepted store s key act told.reached place at_list;
  }
