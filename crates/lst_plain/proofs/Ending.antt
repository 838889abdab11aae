-- A session's transaction ends, with a commit or without one.
use Rattle.std.proofs.Common.{◌≡◌, ℕ, ◌+◌, ◌<◌, ◌≤◌, Bool, true, false, cond, not, List, [], ◌∷◌, ◌++◌, length, map, refl, sym, ap, ◌∙◌, subst, arith, ⊎_elim, get_or-set_same, get_or-set_other, length-append, le-leb}
use Rattle.std.proofs.lemmas.Bool.{eqb-true, eq-eqb, lt-leb, cases_lt}
use Rattle.std.proofs.lemmas.List.{take-append-le, take_all}
use Rattle.std.specs.Prelude.{Option, Some, None, is_some, MatchOption, ◌==◌, ◌&&◌, ◌||◌}
use Rattle.lst_layout.specs.declared.limits.Limits.{Limits}
use Rattle.lst_model.specs.declared.acts.Write.{Write}
use Rattle.lst_model.specs.declared.commits.Commit.{Commit}
use Rattle.lst_model.specs.Tables.{row_of}
use Rattle.lst_model.specs.Histories.{acts_on, all_acts_on, row_from, table_at}
use Rattle.lst_model.proofs.Folds.{row_from-append, get_table_at, all_acts_on-append}
use Rattle.lst_machine.specs.State.{Accepted, Opened, Store}
use Rattle.lst_machine.specs.Writes.{put, put_in, time_of}
use Rattle.lst_machine.specs.Calls.{with_closed, with_commit}
use Rattle.lst_plain.specs.declared.versions.Version.{Version}
use Rattle.lst_plain.specs.declared.versions.Pending.{Pending}
use Rattle.lst_plain.specs.Rows.{Kept, newest, row_at, settled, settled_row, settled_beside, keys_of, kept_of, is_held}
use Rattle.lst_plain.specs.Sessions.{SessionState, new_session}
use Rattle.lst_plain.specs.Engines.{EngineState, session_of}
use Rattle.lst_plain.specs.Steps.{with_end}
use Rattle.lst_plain.specs.Telling.{own_acts, is_by, is_live, is_apart, last_settled, accepted_on, IsReached, KeyTells, SessionTells, StoreTells}
use Rattle.lst_plain.proofs.Timed.{row-append, row-late, newest-append, rising-append}
use Rattle.lst_plain.proofs.Placing.{settled-key, kept-map}
use Rattle.lst_machine.proofs.Appending.{or_last, time-append}
use Rattle.lst_plain.proofs.Acting.{ends, last-same, last-equal}
use Rattle.lst_plain.proofs.Opening.{at_each, put-same, put-else, apart, pending_same}
use Rattle.lst_plain.proofs.Accepting.{and-left, swapped}

-- whose record the pending row is
held_by : (kept : Kept) (pending : Pending) (session : ℕ) (b : Bool) → kept.pending ≡ Some pending → (pending.session == session) ≡ b → is_held kept.pending session ≡ b
held_by kept pending session b is same = ap (λ p. is_held p session) is ∙ same

module _ (store : Store) (s : ℕ) (opened : Opened) (is_open : store.opened s ≡ Some opened) (reached : IsReached store) where
  abbrev gone : ℕ → Option Opened
  gone = put store.opened s None

  gone_else : (j : ℕ) → (j == s) ≡ false → gone j ≡ store.opened j
  gone_else j other = put-else store.opened s j None other

  not_gone : (j : ℕ) → is_some (gone j) ≡ true → (j == s) ≡ false
  not_gone j is = at_test (j == s) refl
    where
      at_test : (b : Bool) → (j == s) ≡ b → b ≡ false
      at_test true same = let none : false ≡ true = sym (ap is_some (ap gone (eqb-true j s same) ∙ put-same store.opened s None)) ∙ is in absurd (cc)
      at_test false other = refl

  still_open : (j : ℕ) → is_some (gone j) ≡ true → is_some (store.opened j) ≡ true
  still_open j is = sym (ap is_some (gone_else j (not_gone j is))) ∙ is

  open_here : is_some (store.opened s) ≡ true
  open_here = ap is_some is_open

  -- a transaction that is still open has no acts on a key whose pending row is the session's
  others_of_held : (kept : Kept) (key : ℕ) (pending : Pending) → KeyTells kept store key → kept.pending ≡ Some pending → (pending.session == s) ≡ true → (j : ℕ) → is_some (gone j) ≡ true → own_acts store j key ≡ []
  others_of_held kept key pending tells is same j live = tells.others j (still_open j live) (held_by kept pending j false is (ap (λ p. p == j) (eqb-true pending.session s same) ∙ swapped j s (not_gone j live)))

  -- Without a commit

  abbrev closed_after : ℕ → ℕ → Bool
  closed_after = put_in store.closed s (store.begins s) true

  closed_is : (j n : ℕ) → closed_after j n ≡ ((j == s && n == store.begins s) || store.closed j n)
  closed_is j n = at_tests (j == s) refl (n == store.begins s) refl
    where
      at_tests : (a : Bool) → (j == s) ≡ a → (b : Bool) → (n == store.begins s) ≡ b → closed_after j n ≡ ((a && b) || store.closed j n)
      at_tests true ja true nb = rw (ja, nb) refl
      at_tests true ja false nb = rw (ja, nb) (ap (λ k. store.closed k n) (sym (eqb-true j s ja)))
      at_tests false ja b nb = rw ja refl

  abbrev closed : Store
  closed = with_closed store s

  live_is : (key : ℕ) (w : Accepted) → is_live closed key w ≡ (w.write.key == key && not (is_by s (store.begins s) w || store.closed w.session w.number))
  live_is key w = ap (λ c. w.write.key == key && not c) (closed_is w.session w.number)

  -- where the session has no acts on the key, the same writes are live
  live_same : (key : ℕ) (w : Accepted) → (is_by s (store.begins s) w && w.write.key == key) ≡ false → is_live closed key w ≡ is_live store key w
  live_same key w else = live_is key w ∙ by_parts (is_by s (store.begins s) w) (w.write.key == key) (store.closed w.session w.number) else
    where
      by_parts : (a b c : Bool) → (a && b) ≡ false → (b && not (a || c)) ≡ (b && not c)
      by_parts true true c else = absurd (cc)
      by_parts true false c else = refl
      by_parts false b c else = refl

  key_closed_else : (kept : Kept) (key : ℕ) → is_held kept.pending s ≡ false → KeyTells kept store key → KeyTells kept closed key
  key_closed_else kept key else tells =
      let none : own_acts store s key ≡ [] = tells.others s open_here else in
      record {
        rows = tells.rows;
        rising = tells.rising;
        early = tells.early;
        others = λ j is free. tells.others j (still_open j is) free;
        pending = λ pending is.
            let other : (pending.session == s) ≡ false = sym (ap (λ p. is_held p s) is) ∙ else in
            pending_same store closed key kept.versions pending (gone_else pending.session other) refl refl
            (last-same s (store.begins s) key (is_live closed key) (is_live store key) (accepted_on store key) none (live_same key)) (tells.pending pending is);
        last = subst (λ (last : Option Accepted). MatchOption last (newest kept.versions ≡ 0) (λ w. time_of store.history w.session w.number ≡ Some (newest kept.versions)))
            (sym (last-same s (store.begins s) key (λ w. is_live closed key w && is_apart kept.pending w) (λ w. is_live store key w && is_apart kept.pending w) (accepted_on store key) none
            (λ w other. ap (λ b. b && is_apart kept.pending w) (live_same key w other)))) tells.last;
      }

  key_closed_here : (kept : Kept) (key : ℕ) (pending : Pending) → kept.pending ≡ Some pending → (pending.session == s) ≡ true → KeyTells kept store key → KeyTells (record kept { pending = None }) closed key
  key_closed_here kept key pending is same tells =
      let held = tells.pending pending is in
      record {
        rows = tells.rows;
        rising = tells.rising;
        early = tells.early;
        others = λ j live free. others_of_held kept key pending tells is same j live;
        pending = λ other none. let both : None ≡ Some other = none in absurd (cc);
        last = subst (λ (last : Option Accepted). MatchOption last (newest kept.versions ≡ 0) (λ w. time_of store.history w.session w.number ≡ Some (newest kept.versions)))
            (sym (last-equal (λ w. is_live closed key w && true) (λ w. is_live store key w && is_apart kept.pending w) (accepted_on store key)
            (λ w. ap (λ b. b && true) (live_is key w) ∙ by_parts (is_by s (store.begins s) w) (w.write.key == key) (store.closed w.session w.number)
            ∙ ap (λ (n : ℕ). is_live store key w && not (is_by s n w)) (ap store.begins (sym (eqb-true pending.session s same)) ∙ held.number)
            ∙ ap (λ (j : ℕ). is_live store key w && not (is_by j pending.number w)) (sym (eqb-true pending.session s same))
            ∙ ap (λ p. is_live store key w && is_apart p w) (sym is)))) tells.last;
      }
    where
      by_parts : (a b c : Bool) → ((b && not (a || c)) && true) ≡ ((b && not c) && not a)
      by_parts true true true = refl
      by_parts true true false = refl
      by_parts true false c = refl
      by_parts false true true = refl
      by_parts false true false = refl
      by_parts false false c = refl

  pub key_closed : (kept : Kept) (key : ℕ) → KeyTells kept store key → KeyTells (settled None s kept) closed key
  key_closed kept key tells = at kept.pending refl
    where
      at_test : (pending : Pending) → kept.pending ≡ Some pending → (b : Bool) → (pending.session == s) ≡ b → KeyTells (cond b (record kept { pending = None }) kept) closed key
      at_test pending is true same = key_closed_here kept key pending is same tells
      at_test pending is false else = key_closed_else kept key (held_by kept pending s false is else) tells

      at : (pending : Option Pending) → kept.pending ≡ pending → KeyTells (settled_beside pending None s kept) closed key
      at None is = key_closed_else kept key (ap (λ p. is_held p s) is) tells
      at (Some pending) is = at_test pending is (pending.session == s) refl

  pub reached_closed : IsReached closed
  reached_closed = record {
    home = reached.home;
    distinct = reached.distinct;
    unused = reached.unused;
    not_closed = λ j n low. closed_is j n ∙ ap (λ b. b || store.closed j n) (later j n low (j == s) refl (n == store.begins s) refl) ∙ reached.not_closed j n low;
    not_committed = reached.not_committed;
    open_not_closed = λ j is. closed_is j (store.begins j) ∙ ap (λ b. b || store.closed j (store.begins j)) (and-left (j == s) (store.begins j == store.begins s) (not_gone j is)) ∙ reached.open_not_closed j (still_open j is);
    open_not_committed = λ j is. reached.open_not_committed j (still_open j is);
    open_begun = λ j begun is. reached.open_begun j begun (sym (gone_else j (not_gone j (ap is_some is))) ∙ is);
  }
    where
      later : (j n : ℕ) → store.begins j < n → (a : Bool) → (j == s) ≡ a → (b : Bool) → (n == store.begins s) ≡ b → (a && b) ≡ false
      later j n low true ja true nb = let one : n ≡ store.begins s = eqb-true _ _ nb in let two : store.begins j ≡ store.begins s = ap store.begins (eqb-true j s ja) in absurd (omega arith)
      later j n low true ja false nb = refl
      later j n low false ja b nb = refl

  -- With a commit of the own writes

  module _ (write : Write) (writes : List Write) (own : (key : ℕ) → acts_on key (write ∷ writes) ≡ own_acts store s key) where
    abbrev commit : Commit
    commit = record { session = s; number = store.begins s; begin = opened.begin; writes = write ∷ writes }

    abbrev committed : Store
    committed = with_commit store s opened (write ∷ writes)

    longer : length (store.history ++ commit ∷ []) ≡ length store.history + 1
    longer = length-append store.history (commit ∷ [])

    old_rows : (key time : ℕ) → time ≤ length store.history → row_of (table_at (store.history ++ commit ∷ []) time) key ≡ row_of (table_at store.history time) key
    old_rows key time low = get_table_at (store.history ++ commit ∷ []) time key ∙ ap (λ commits. row_from None (all_acts_on key commits)) (take-append-le time store.history (commit ∷ []) low) ∙ sym (get_table_at store.history time key)

    new_row : (kept : Kept) (key : ℕ) → KeyTells kept store key → row_of (table_at (store.history ++ commit ∷ []) (length store.history + 1)) key ≡ row_from (row_at kept.versions (length store.history)) (own_acts store s key)
    new_row kept key tells =
        get_table_at (store.history ++ commit ∷ []) (length store.history + 1) key
        ∙ ap (λ commits. row_from None (all_acts_on key commits)) (take_all (length store.history + 1) (store.history ++ commit ∷ []) (omega (arith, longer)))
        ∙ ap (row_from None) (all_acts_on-append key store.history (commit ∷ []))
        ∙ row_from-append None (all_acts_on key store.history) (acts_on key (write ∷ writes) ++ [])
        ∙ ap (λ acts. row_from (row_from None (all_acts_on key store.history)) acts) (ends (acts_on key (write ∷ writes)) ∙ own key)
        ∙ ap (λ row. row_from row (own_acts store s key))
        (ap (λ commits. row_from None (all_acts_on key commits)) (sym (take_all (length store.history) store.history (omega arith)))
        ∙ sym (get_table_at store.history (length store.history) key)
        ∙ tells.rows (length store.history) (omega arith))

    -- the rows of a record tell each time, where they tell the last one
    rows_then : (kept : Kept) (versions : List Version) (key : ℕ) → ((time : ℕ) → time ≤ length store.history → row_at versions time ≡ row_at kept.versions time) → KeyTells kept store key
        → row_from (row_at kept.versions (length store.history)) (own_acts store s key) ≡ row_at versions (length store.history + 1)
        → (time : ℕ) → time ≤ length (store.history ++ commit ∷ []) → row_of (table_at (store.history ++ commit ∷ []) time) key ≡ row_at versions time
    rows_then kept versions key same tells last time low = ⊎_elim
        (λ (before : time < length store.history + 1). let early : time ≤ length store.history = omega arith in old_rows key time early ∙ tells.rows time early ∙ sym (same time early))
        (λ (after : length store.history + 1 ≤ time). let at : length store.history + 1 ≡ time = omega (arith, longer) in
        subst (λ (t : ℕ). row_of (table_at (store.history ++ commit ∷ []) t) key ≡ row_at versions t) at (new_row kept key tells ∙ last))
        (cases_lt time (length store.history + 1))

    time_kept : (j n : ℕ) (t : ℕ) → time_of store.history j n ≡ Some t → time_of (store.history ++ commit ∷ []) j n ≡ Some t
    time_kept j n t is = time-append store.history commit j n ∙ ap (λ time. or_last time (s == j && store.begins s == n) (length store.history + 1)) is

    time_none : (j n : ℕ) → time_of store.history j n ≡ None → (s == j && store.begins s == n) ≡ false → time_of (store.history ++ commit ∷ []) j n ≡ None
    time_none j n is else = time-append store.history commit j n ∙ ap (λ time. or_last time (s == j && store.begins s == n) (length store.history + 1)) is ∙ ap (λ b. cond b (Some (length store.history + 1)) None) else

    last_kept : (last : Option Accepted) (versions : List Version) → MatchOption last (newest versions ≡ 0) (λ w. time_of store.history w.session w.number ≡ Some (newest versions))
        → MatchOption last (newest versions ≡ 0) (λ w. time_of (store.history ++ commit ∷ []) w.session w.number ≡ Some (newest versions))
    last_kept None versions old = old
    last_kept (Some w) versions old = time_kept w.session w.number (newest versions) old

    key_committed_else : (kept : Kept) (key : ℕ) → is_held kept.pending s ≡ false → KeyTells kept store key → KeyTells kept committed key
    key_committed_else kept key else tells =
        record {
          rows = rows_then kept kept.versions key (λ time low. refl) tells
              (ap (row_from (row_at kept.versions (length store.history))) (tells.others s open_here else)
              ∙ row-late kept.versions (length store.history) (length store.history + 1) tells.rising tells.early (let early = tells.early in omega arith));
          rising = tells.rising;
          early = let early = tells.early in omega (arith, longer);
          others = λ j is free. tells.others j (still_open j is) free;
          pending = λ pending is. pending_same store committed key kept.versions pending (gone_else pending.session (sym (ap (λ p. is_held p s) is) ∙ else)) refl refl refl (tells.pending pending is);
          last = last_kept (last_settled store key kept.pending) kept.versions tells.last;
        }

    key_committed_here : (kept : Kept) (key : ℕ) (pending : Pending) → kept.pending ≡ Some pending → (pending.session == s) ≡ true → KeyTells kept store key
        → KeyTells (record kept { versions = kept.versions ++ record { time = length store.history + 1; row = pending.row } ∷ []; pending = None }) committed key
    key_committed_here kept key pending is same tells =
        let held = tells.pending pending is in
        let begun : Some held.opened ≡ Some opened = sym held.is_open ∙ ap store.opened (eqb-true pending.session s same) ∙ is_open in
        let one : held.opened ≡ opened = cc in
        let version : Version = record { time = length store.history + 1; row = pending.row } in
        let began : held.opened.begin ≤ length store.history = reached.open_begun pending.session held.opened held.is_open in
        record {
          rows = rows_then kept (kept.versions ++ record { time = length store.history + 1; row = pending.row } ∷ []) key
              (λ time low. row-append None kept.versions (record { time = length store.history + 1; row = pending.row }) time ∙ ap (λ b. cond b pending.row (row_at kept.versions time)) (lt-leb (length store.history + 1) time (omega arith)))
              tells
              (ap (λ row. row_from row (own_acts store s key)) (row-late kept.versions (length store.history) held.opened.begin tells.rising tells.early held.early)
              ∙ ap (λ j. row_from (row_at kept.versions held.opened.begin) (own_acts store j key)) (sym (eqb-true pending.session s same))
              ∙ held.row
              ∙ sym (row-append None kept.versions (record { time = length store.history + 1; row = pending.row }) (length store.history + 1)
              ∙ ap (λ b. cond b pending.row (row_at kept.versions (length store.history + 1))) (le-leb (length store.history + 1) (length store.history + 1) (omega arith))));
          rising = rising-append kept.versions (record { time = length store.history + 1; row = pending.row }) tells.rising (let early = tells.early in omega arith);
          early = let last = newest-append kept.versions (record { time = length store.history + 1; row = pending.row }) in omega (arith, last, longer);
          others = λ j live free. others_of_held kept key pending tells is same j live;
          pending = λ other none. let both : None ≡ Some other = none in absurd (cc);
          last = subst (λ (last : Option Accepted). MatchOption last (newest (kept.versions ++ record { time = length store.history + 1; row = pending.row } ∷ []) ≡ 0)
              (λ w. time_of (store.history ++ commit ∷ []) w.session w.number ≡ Some (newest (kept.versions ++ record { time = length store.history + 1; row = pending.row } ∷ []))))
              (sym (last-equal (λ w. is_live store key w && true) (is_live store key) (accepted_on store key) (λ w. and-true (is_live store key w)) ∙ held.is_last))
              (ap (λ j. time_of (store.history ++ commit ∷ []) j held.rival.number) (held.by_session ∙ eqb-true pending.session s same)
              ∙ ap (time_of (store.history ++ commit ∷ []) s) (held.by_number ∙ sym held.number ∙ ap store.begins (eqb-true pending.session s same))
              ∙ time-append store.history commit s (store.begins s)
              ∙ ap (λ time. or_last time (s == s && store.begins s == store.begins s) (length store.history + 1)) (reached.open_not_committed s open_here)
              ∙ ap (λ b. cond b (Some (length store.history + 1)) None) (ap (λ b. b && store.begins s == store.begins s) (eq-eqb s s refl) ∙ eq-eqb (store.begins s) (store.begins s) refl)
              ∙ ap Some (sym (newest-append kept.versions (record { time = length store.history + 1; row = pending.row }))));
        }
      where
        and-true : (b : Bool) → (b && true) ≡ b
        and-true true = refl
        and-true false = refl

    pub key_committed : (kept : Kept) (key : ℕ) → KeyTells kept store key → KeyTells (settled (Some (length store.history + 1)) s kept) committed key
    key_committed kept key tells = at kept.pending refl
      where
        at_test : (pending : Pending) → kept.pending ≡ Some pending → (b : Bool) → (pending.session == s) ≡ b → KeyTells (cond b (settled_row (Some (length store.history + 1)) kept pending) kept) committed key
        at_test pending is true same = key_committed_here kept key pending is same tells
        at_test pending is false else = key_committed_else kept key (held_by kept pending s false is else) tells

        at : (pending : Option Pending) → kept.pending ≡ pending → KeyTells (settled_beside pending (Some (length store.history + 1)) s kept) committed key
        at None is = key_committed_else kept key (ap (λ p. is_held p s) is) tells
        at (Some pending) is = at_test pending is (pending.session == s) refl

    pub reached_committed : IsReached committed
    reached_committed = record {
      home = reached.home;
      distinct = reached.distinct;
      unused = reached.unused;
      not_closed = reached.not_closed;
      not_committed = λ j n low. time_none j n (reached.not_committed j n low) (later j n low (s == j) refl (store.begins s == n) refl);
      open_not_closed = λ j is. reached.open_not_closed j (still_open j is);
      open_not_committed = λ j is. time_none j (store.begins j) (reached.open_not_committed j (still_open j is)) (and-left (s == j) (store.begins s == store.begins j) (swapped j s (not_gone j is)));
      open_begun = λ j begun is. let early = reached.open_begun j begun (sym (gone_else j (not_gone j (ap is_some is))) ∙ is) in omega (arith, longer);
    }
      where
        later : (j n : ℕ) → store.begins j < n → (a : Bool) → (s == j) ≡ a → (b : Bool) → (store.begins s == n) ≡ b → (a && b) ≡ false
        later j n low true ja true nb = let one : store.begins s ≡ n = eqb-true _ _ nb in let two : store.begins s ≡ store.begins j = ap store.begins (eqb-true s j ja) in absurd (omega arith)
        later j n low true ja false nb = refl
        later j n low false ja b nb = refl

keys-settled : (time : Option ℕ) (s : ℕ) (records : List Kept) → keys_of (map (settled time s) records) ≡ keys_of records
keys-settled time s [] = refl
keys-settled time s (kept ∷ records) = ap (λ k. k ∷ keys_of (map (settled time s) records)) (settled-key time s kept) ∙ ap (λ keys. kept.key ∷ keys) (keys-settled time s records)

-- a session's end takes its pending rows and leaves the others'
pub held_settled : (time : Option ℕ) (s j : ℕ) (kept : Kept) → is_held (settled time s kept).pending j ≡ (is_held kept.pending j && not (j == s))
held_settled time s j kept = at time kept.pending refl
  where
    dropped : (time : Option ℕ) (pending : Pending) → is_held (settled_row time kept pending).pending j ≡ false
    dropped None pending = refl
    dropped (Some t) pending = refl

    by_tests : (a b : Bool) (p : ℕ) → (p == s) ≡ false → (p == j) ≡ a → (j == s) ≡ b → a ≡ (a && not b)
    by_tests true true p else pj js = let is : true ≡ false = sym (eq-eqb p s (eqb-true p j pj ∙ eqb-true j s js)) ∙ else in absurd (cc)
    by_tests true false p else pj js = refl
    by_tests false b p else pj js = refl

    of_owner : (p : ℕ) → (p == s) ≡ true → (b : Bool) → (p == j) ≡ b → (b && not (j == s)) ≡ false
    of_owner p same true pj = ap not (eq-eqb j s (sym (eqb-true p j pj) ∙ eqb-true p s same))
    of_owner p same false pj = refl

    at_test : (time : Option ℕ) (pending : Pending) → kept.pending ≡ Some pending → (b : Bool) → (pending.session == s) ≡ b → is_held (cond b (settled_row time kept pending) kept).pending j ≡ (pending.session == j && not (j == s))
    at_test time pending is true same = dropped time pending ∙ sym (of_owner pending.session same (pending.session == j) refl)
    at_test time pending is false else = ap (λ p. is_held p j) is ∙ by_tests (pending.session == j) (j == s) pending.session else refl refl

    at : (time : Option ℕ) (pending : Option Pending) → kept.pending ≡ pending → is_held (settled_beside pending time s kept).pending j ≡ (is_held pending j && not (j == s))
    at time None is = ap (λ p. is_held p j) is
    at time (Some pending) is = at_test time pending is (pending.session == s) refl

-- the sessions tell a store in which the session's transaction has ended
sessions_ended : (engine : EngineState) (limits : Limits) (store : Store) → StoreTells engine limits store → (s : ℕ) → s < limits.sessions → s < length engine.sessions → (time : Option ℕ)
    → (after : Store) → ((j : ℕ) → after.begins j ≡ store.begins j) → ((j : ℕ) → after.opened j ≡ put store.opened s None j)
    → (j : ℕ) → j < limits.sessions → SessionTells (session_of (with_end engine s time) j) after j
sessions_ended engine limits store told s low within time after begins opened = at_each (λ j. j < limits.sessions → SessionTells (session_of (with_end engine s time) j) after j) s
    (λ under. let here = told.sessions s low in subst (λ (state : SessionState). SessionTells state after s)
    (sym (get_or-set_same engine.sessions s (record (session_of engine s) { transaction = None; written = [] }) new_session within))
    (record { begins = begins s ∙ here.begins; opened = opened s ∙ put-same store.opened s None }))
    (λ j other under. let there = told.sessions j under in subst (λ (state : SessionState). SessionTells state after j)
    (sym (get_or-set_other engine.sessions s j (record (session_of engine s) { transaction = None; written = [] }) new_session (apart j s other)))
    (record { begins = begins j ∙ there.begins; opened = opened j ∙ put-else store.opened s j None other ∙ there.opened }))

pub tells_closed : (engine : EngineState) (limits : Limits) (store : Store) → StoreTells engine limits store → (s : ℕ) → s < limits.sessions → s < length engine.sessions
    → (opened : Opened) → store.opened s ≡ Some opened
    → StoreTells (with_end engine s None) limits (with_closed store s)
tells_closed engine limits store told s low within opened is_open = record {
  same_limits = told.same_limits;
  clock = told.clock;
  placed = told.placed ∙ sym (keys-settled None s engine.records);
  counts = told.counts;
  sessions = sessions_ended engine limits store told s low within None (with_closed store s) (λ j. refl) (λ j. refl);
  keys = λ key. subst (λ (kept : Kept). KeyTells kept (with_closed store s) key) (sym (kept-map (settled None s) (settled-key None s) (λ k. refl) engine.records key))
      (key_closed store s opened is_open told.reached (kept_of engine.records key) key (told.keys key));
  reached = reached_closed store s opened is_open told.reached;
}

pub tells_committed : (engine : EngineState) (limits : Limits) (store : Store) → StoreTells engine limits store → (s : ℕ) → s < limits.sessions → s < length engine.sessions
    → (opened : Opened) → store.opened s ≡ Some opened
    → (write : Write) (writes : List Write) → ((key : ℕ) → acts_on key (write ∷ writes) ≡ own_acts store s key)
    → StoreTells (with_end engine s (Some (engine.clock + 1))) limits (with_commit store s opened (write ∷ writes))
tells_committed engine limits store told s low within opened is_open write writes own = subst (λ (c : ℕ). StoreTells (with_end engine s (Some (c + 1))) limits (with_commit store s opened (write ∷ writes))) told.clock
    (record {
      same_limits = told.same_limits;
      clock = length-append store.history (commit store s opened is_open told.reached write writes own ∷ []);
      placed = told.placed ∙ sym (keys-settled (Some (length store.history + 1)) s engine.records);
      counts = told.counts;
      sessions = sessions_ended engine limits store told s low within (Some (length store.history + 1)) (with_commit store s opened (write ∷ writes)) (λ j. refl) (λ j. refl);
      keys = λ key. subst (λ (kept : Kept). KeyTells kept (with_commit store s opened (write ∷ writes)) key) (sym (kept-map (settled (Some (length store.history + 1)) s) (settled-key (Some (length store.history + 1)) s) (λ k. refl) engine.records key))
          (key_committed store s opened is_open told.reached write writes own (kept_of engine.records key) key (told.keys key));
      reached = reached_committed store s opened is_open told.reached write writes own;
    })
