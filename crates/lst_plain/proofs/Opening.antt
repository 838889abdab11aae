-- A session opens a transaction.
use Rattle.std.proofs.Common.{◌≡◌, ℕ, ◌+◌, ◌<◌, ◌≤◌, Bool, true, false, cond, List, [], length, refl, sym, ap, ◌∙◌, subst, arith, get_or-set_same, get_or-set_other}
use Rattle.std.proofs.lemmas.Bool.{eqb-true, eq-eqb}
use Rattle.std.specs.Prelude.{Some, None, is_some, ◌==◌}
use Rattle.lst_layout.specs.declared.limits.Limits.{Limits}
use Rattle.lst_model.specs.Histories.{row_from}
use Rattle.lst_machine.specs.State.{Opened, Store}
use Rattle.lst_machine.specs.Writes.{put, range_of, time_of, rival_of}
use Rattle.lst_machine.specs.Calls.{with_opened}
use Rattle.lst_machine.specs.declared.answers.Transaction.{Transaction}
use Rattle.lst_plain.specs.declared.versions.Version.{Version}
use Rattle.lst_plain.specs.declared.versions.Pending.{Pending}
use Rattle.lst_plain.specs.Rows.{Kept, row_at, is_held, kept_of}
use Rattle.lst_plain.specs.Sessions.{SessionState, new_session}
use Rattle.lst_plain.specs.Engines.{EngineState, session_of}
use Rattle.lst_plain.specs.Steps.{with_transaction}
use Rattle.lst_machine.specs.Transactions.{opened_as}
use Rattle.lst_plain.specs.Telling.{own_acts, acts_by, accepted_on, IsReached, IsPending, KeyTells, SessionTells, StoreTells}

-- what holds at one number and at each other one
pub at_each : (P : ℕ → Type 0) (s : ℕ) → P s → ((j : ℕ) → (j == s) ≡ false → P j) → (j : ℕ) → P j
at_each P s here else j = at_test (j == s) refl
  where
    at_test : (b : Bool) → (j == s) ≡ b → P j
    at_test true same = subst P (sym (eqb-true j s same)) here
    at_test false other = else j other

pub put-same : {A : Type 0} (f : ℕ → A) (s : ℕ) (new : A) → put f s new s ≡ new
put-same f s new = ap (λ b. cond b new (f s)) (eq-eqb s s refl)

pub put-else : {A : Type 0} (f : ℕ → A) (s j : ℕ) (new : A) → (j == s) ≡ false → put f s new j ≡ f j
put-else f s j new other = ap (λ b. cond b new (f j)) other

pub apart : (j s : ℕ) → (j == s) ≡ false → j ≡ s → ⊥
apart j s other same = let is : true ≡ false = sym (eq-eqb j s same) ∙ other in cc

-- a pending row stays so in a store that agrees on its transaction and on the writes of its key
pub pending_same : (store other : Store) (key : ℕ) (versions : List Version) (pending : Pending) → other.opened pending.session ≡ store.opened pending.session → other.begins pending.session ≡ store.begins pending.session
    → own_acts other pending.session key ≡ own_acts store pending.session key → rival_of other key ≡ rival_of store key → IsPending store key versions pending → IsPending other key versions pending
pending_same store other key versions pending opened begins acts rival held = record {
  opened = held.opened;
  is_open = opened ∙ held.is_open;
  number = begins ∙ held.number;
  early = held.early;
  written = λ none. held.written (sym acts ∙ none);
  row = ap (row_from (row_at versions held.opened.begin)) acts ∙ held.row;
  rival = held.rival;
  is_last = rival ∙ held.is_last;
  by_session = held.by_session;
  by_number = held.by_number;
}

module _ (store : Store) (s : ℕ) (transaction : Transaction) (closed : store.opened s ≡ None) (reached : IsReached store) where
  abbrev after : Store
  after = with_opened store s transaction.begin transaction.read_only

  number_here : after.begins s ≡ store.begins s + 1
  number_here = put-same store.begins s (store.begins s + 1)

  number_else : (j : ℕ) → (j == s) ≡ false → after.begins j ≡ store.begins j
  number_else j other = put-else store.begins s j (store.begins s + 1) other

  opened_here : after.opened s ≡ Some (record { begin = transaction.begin; read_only = transaction.read_only })
  opened_here = put-same store.opened s (Some (record { begin = transaction.begin; read_only = transaction.read_only }))

  opened_else : (j : ℕ) → (j == s) ≡ false → after.opened j ≡ store.opened j
  opened_else j other = put-else store.opened s j (Some (record { begin = transaction.begin; read_only = transaction.read_only })) other

  grown : (j : ℕ) → store.begins j ≤ after.begins j
  grown = at_each (λ j. store.begins j ≤ after.begins j) s (omega (arith, number_here)) (λ j other. omega (arith, number_else j other))

  not_here : (session : ℕ) (opened : Opened) → store.opened session ≡ Some opened → (session == s) ≡ false
  not_here session opened is = at_test (session == s) refl
    where
      at_test : (b : Bool) → (session == s) ≡ b → b ≡ false
      at_test true same = let both : Some opened ≡ None = sym is ∙ ap store.opened (eqb-true session s same) ∙ closed in absurd (cc)
      at_test false other = refl

  pub key_opened : (kept : Kept) (key : ℕ) → KeyTells kept store key → KeyTells kept after key
  key_opened kept key tells = record {
    rows = tells.rows;
    rising = tells.rising;
    early = tells.early;
    others = at_each (λ j. is_some (after.opened j) ≡ true → is_held kept.pending j ≡ false → own_acts after j key ≡ []) s
        (λ is free. ap (λ n. acts_by s n key (accepted_on store key)) number_here ∙ reached.unused s (store.begins s + 1) (range_of store.placed key) key (omega arith))
        (λ j other is free. ap (λ n. acts_by j n key (accepted_on store key)) (number_else j other) ∙ tells.others j (sym (ap is_some (opened_else j other)) ∙ is) free);
    pending = λ pending is.
        let held = tells.pending pending is in
        let other = not_here pending.session held.opened held.is_open in
        pending_same store after key kept.versions pending (opened_else pending.session other) (number_else pending.session other)
        (ap (λ n. acts_by pending.session n key (accepted_on store key)) (number_else pending.session other)) refl held;
    last = tells.last;
  }

  pub reached_opened : transaction.begin ≤ length store.history → IsReached after
  reached_opened early = record {
    home = reached.home;
    distinct = reached.distinct;
    unused = λ session number range key low. let up = grown session in reached.unused session number range key (omega arith);
    not_closed = λ session number low. let up = grown session in reached.not_closed session number (omega arith);
    not_committed = λ session number low. let up = grown session in reached.not_committed session number (omega arith);
    open_not_closed = at_each (λ j. is_some (after.opened j) ≡ true → store.closed j (after.begins j) ≡ false) s
        (λ is. ap (store.closed s) number_here ∙ reached.not_closed s (store.begins s + 1) (omega arith))
        (λ j other is. ap (store.closed j) (number_else j other) ∙ reached.open_not_closed j (sym (ap is_some (opened_else j other)) ∙ is));
    open_not_committed = at_each (λ j. is_some (after.opened j) ≡ true → time_of store.history j (after.begins j) ≡ None) s
        (λ is. ap (time_of store.history s) number_here ∙ reached.not_committed s (store.begins s + 1) (omega arith))
        (λ j other is. ap (time_of store.history j) (number_else j other) ∙ reached.open_not_committed j (sym (ap is_some (opened_else j other)) ∙ is));
    open_begun = at_each (λ j. (opened : Opened) → after.opened j ≡ Some opened → opened.begin ≤ length store.history) s
        (λ opened is. let both : Some (record { begin = transaction.begin; read_only = transaction.read_only }) ≡ Some opened = sym opened_here ∙ is in
        let one : record { begin = transaction.begin; read_only = transaction.read_only } ≡ opened = cc in
        subst (λ (o : Opened). o.begin ≤ length store.history) one early)
        (λ j other opened is. reached.open_begun j opened (sym (opened_else j other) ∙ is));
  }

pub tells_opened : (engine : EngineState) (limits : Limits) (store : Store) (s : ℕ) (transaction : Transaction) → StoreTells engine limits store → s < limits.sessions → s < length engine.sessions
    → (session_of engine s).transaction ≡ None → transaction.begin ≤ length store.history → StoreTells (with_transaction engine s transaction) limits (with_opened store s transaction.begin transaction.read_only)
tells_opened engine limits store s transaction told low within closed early =
    let here = told.sessions s low in
    let none : store.opened s ≡ None = here.opened ∙ ap opened_as closed in
    record {
      same_limits = told.same_limits;
      clock = told.clock;
      placed = told.placed;
      counts = told.counts;
      sessions = at_each (λ j. j < limits.sessions → SessionTells (session_of (with_transaction engine s transaction) j) (with_opened store s transaction.begin transaction.read_only) j) s
          (λ _. subst (λ (state : SessionState). SessionTells state (with_opened store s transaction.begin transaction.read_only) s)
          (sym (get_or-set_same engine.sessions s (record (session_of engine s) { begins = (session_of engine s).begins + 1; transaction = Some transaction }) new_session within))
          (record {
            begins = put-same store.begins s (store.begins s + 1) ∙ ap (λ n. n + 1) here.begins;
            opened = put-same store.opened s (Some (record { begin = transaction.begin; read_only = transaction.read_only }));
          }))
          (λ j other under. let there = told.sessions j under in
          subst (λ (state : SessionState). SessionTells state (with_opened store s transaction.begin transaction.read_only) j)
          (sym (get_or-set_other engine.sessions s j (record (session_of engine s) { begins = (session_of engine s).begins + 1; transaction = Some transaction }) new_session (apart j s other)))
          (record {
            begins = put-else store.begins s j (store.begins s + 1) other ∙ there.begins;
            opened = put-else store.opened s j (Some (record { begin = transaction.begin; read_only = transaction.read_only })) other ∙ there.opened;
          }));
      keys = λ key. key_opened store s transaction none told.reached (kept_of engine.records key) key (told.keys key);
      reached = reached_opened store s transaction none told.reached early;
    }
