-- Each call keeps the counts, and a store's limits have room for its commits.
use Rattle.std.proofs.Common.{◌≡◌, ℕ, ◌+◌, ◌*◌, ◌<◌, ◌≤◌, Bool, true, false, cond, not, List, [], ◌∷◌, ◌++◌, length, refl, sym, ap, ◌∙◌, subst, arith, length-append, eq-eqb, ne_eqb}
use Rattle.std.proofs.lemmas.Bool.{leb-false}
use Rattle.std.specs.Prelude.{Option, Some, None, is_some, is_none, nat_lt, nat_le, ◌==◌, ◌&&◌}
use Rattle.std.specs.List.{AllByRecursion}
use mathlib.Core.Logic.{dite}
use native.Mathlib.Decide.{ℕ_discrete}
use Rattle.lst_layout.specs.declared.limits.Limits.{Limits}
use Rattle.lst_model.specs.declared.acts.Act.{Act}
use Rattle.lst_model.specs.declared.acts.Act.TheVariants.{Put, Set, Del}
use Rattle.lst_model.specs.declared.acts.Write.{Write}
use Rattle.lst_model.specs.declared.commits.Commit.{Commit}
use Rattle.lst_model.specs.declared.lines.Call.TheVariants.{Begin, AsOf, Get, Insert, Update, Delete, Sum, Count, Scan, Find, Commit as CommitCall, Abort}
use Rattle.lst_model.specs.declared.replies.Cause.{Cause}
use Rattle.lst_model.specs.declared.replies.Cause.TheVariants.{Active, Spent, Future, ReadOnly, Missing, TableFull, TailFull}
use Rattle.lst_model.specs.Tables.{row_of}
use Rattle.lst_model.specs.Histories.{acts_on}
use Rattle.lst_model.proofs.Folds.{all_acts_on-append}
use Rattle.lst_machine.specs.State.{Accepted, Opened, Store}
use Rattle.lst_machine.specs.Writes.{put, is_placed, with_key, range_of, conflict_of, accepted_below, own_writes, sight_of}
use Rattle.lst_machine.specs.Calls.{first_of, where_true, begin_refusal, as_of_refusal, with_opened, opened_unless, with_placed, with_accepted, with_closed, with_commit, accepted_unless, placed_unless, early_insert_refusal, late_insert_refusal, change_refusal, is_range_full, after_insert, after_change, after_commit, after_abort}
use Rattle.lst_machine.proofs.Places.{key_placed}
use Rattle.lst_machine.proofs.Acting.{all_map, all_push, acts_none, gathered_acts, put_here, put_else, flat_none}
use Rattle.lst_replay_laws.specs.Again.{commits_by, placed_by, placed_by_all, keys_written}
use Rattle.lst_replay_laws.specs.Counts.{IsCounted, SameCommits, OpeningIsCounted, CallsAreCounted, CountedHasRoom}
use Rattle.lst_replay_laws.proofs.Lists.{counted, uncounted, commits_by-append}
use Rattle.lst_replay_laws.proofs.Keys.{with_key_stays}
use Rattle.lst_replay_laws.proofs.Missing.{at_most}

pub opening_is_counted : OpeningIsCounted
opening_is_counted limits = record {
  sessions = tt;
  begun = λ s. omega arith;
  most = λ s. omega arith;
  room = omega arith;
  written = λ key e. refl;
  accepted = λ range. tt;
}

first_none : (cause : Option Cause) (causes : List (Option Cause)) → first_of (cause ∷ causes) ≡ None → (cause ≡ None) × (first_of causes ≡ None)
first_none None causes e = (refl, e)
first_none (Some cause) causes e = cc

unrefused : (b : Bool) (cause : Cause) → where_true b cause ≡ None → b ≡ false
unrefused true cause e = cc
unrefused false cause e = refl

none_for : (o : Option Opened) → is_some o ≡ false → o ≡ None
none_for None e = refl
none_for (Some t) e = absurd (cc)

clash : {A : Type 0} (b : Bool) → b ≡ true → b ≡ false → A
clash b e f = let no : true ≡ false = sym e ∙ f in absurd (cc)

module _ (limits : Limits) (store : Store) (s : ℕ) (known : s < limits.sessions) (is : IsCounted limits store) where
  fewer_commits : (t : ℕ) → commits_by t store.history ≤ store.begins t
  fewer_commits t = let low = is.begun t in omega (arith, low)

  -- ---- a begin

  opened_more : (begin : ℕ) (read_only : Bool) → store.begins s < limits.txns → IsCounted limits (with_opened store s begin read_only)
  opened_more begin read_only low = record {
    sessions = is.sessions;
    begun = λ t. dite (ℕ_discrete t s)
        (λ e. let more : put store.begins s (store.begins s + 1) t ≡ store.begins s + 1 = ap (put store.begins s (store.begins s + 1)) e ∙ put_here store.begins s (store.begins s + 1) in
        let one = counted (is_some (put store.opened s (Some (record { begin = begin; read_only = read_only })) t)) (ap is_some (ap (put store.opened s (Some (record { begin = begin; read_only = read_only }))) e ∙ put_here store.opened s (Some (record { begin = begin; read_only = read_only })))) in
        let few = subst (λ (x : ℕ). commits_by x store.history ≤ store.begins s) (sym e) (fewer_commits s) in omega (arith, more, one, few))
        (λ other. let same : put store.begins s (store.begins s + 1) t ≡ store.begins t = put_else store.begins s (store.begins s + 1) t other in
        subst (λ (o : Option Opened). commits_by t store.history + cond (is_some o) 1 0 ≤ put store.begins s (store.begins s + 1) t) (sym (put_else store.opened s (Some (record { begin = begin; read_only = read_only })) t other))
        (subst (λ (n : ℕ). commits_by t store.history + cond (is_some (store.opened t)) 1 0 ≤ n) (sym same) (is.begun t)));
    most = λ t. dite (ℕ_discrete t s)
        (λ e. subst (λ (x : ℕ). put store.begins s (store.begins s + 1) x ≤ limits.txns) (sym e) (subst (λ (n : ℕ). n ≤ limits.txns) (sym (put_here store.begins s (store.begins s + 1))) (omega (arith, low))))
        (λ other. subst (λ (n : ℕ). n ≤ limits.txns) (sym (put_else store.begins s (store.begins s + 1) t other)) (is.most t));
    room = is.room;
    written = is.written;
    accepted = is.accepted;
  }

  opened_by : (time : ℕ) (read_only : Bool) (refusal : Option Cause) → (refusal ≡ None → store.begins s < limits.txns) → IsCounted limits (opened_unless refusal store s time read_only)
  opened_by time read_only None free = opened_more time read_only (free refl)
  opened_by time read_only (Some cause) free = is

  not_spent : begin_refusal limits store s ≡ None → store.begins s < limits.txns
  not_spent e =
      let one = first_none (where_true (is_some (store.opened s)) Active) (where_true (nat_le limits.txns (store.begins s)) Spent ∷ []) e in
      let two = first_none (where_true (nat_le limits.txns (store.begins s)) Spent) [] one.1 in
      leb-false _ _ (unrefused (nat_le limits.txns (store.begins s)) Spent two.0)

  -- ---- an end

  closed_counted : (closed : ℕ → ℕ → Bool) → IsCounted limits (record store { opened = put store.opened s None; closed = closed })
  closed_counted closed = record {
    sessions = is.sessions;
    begun = λ t. dite (ℕ_discrete t s)
        (λ e. let none = uncounted (is_some (put store.opened s None t)) (ap is_some (ap (put store.opened s None) e ∙ put_here store.opened s None)) in let few = fewer_commits t in omega (arith, none, few))
        (λ other. subst (λ (o : Option Opened). commits_by t store.history + cond (is_some o) 1 0 ≤ store.begins t) (sym (put_else store.opened s None t other)) (is.begun t));
    most = is.most;
    room = is.room;
    written = is.written;
    accepted = is.accepted;
  }

  own_placed : (key : ℕ) → is_placed store.placed key ≡ false → acts_on key (own_writes limits store s) ≡ []
  own_placed key none = gathered_acts s (store.begins s) key [] (accepted_below store.accepted limits.ranges) tt
      ∙ flat_none s (store.begins s) key store.accepted limits.ranges (λ range. acts_none s (store.begins s) key (store.accepted range)
      (all_map (λ a placed e f g. clash (is_placed store.placed a.write.key) placed (ap (is_placed store.placed) g ∙ none)) (store.accepted range) (is.accepted range)))

  module _ (transaction : Opened) (is_open : store.opened s ≡ Some transaction) where
    committed : (writes : List Write) → own_writes limits store s ≡ writes → IsCounted limits (with_commit store s transaction writes)
    committed [] e = closed_counted (with_closed store s).closed
    committed (w ∷ ws) e =
        let c : Commit = record { session = s; number = store.begins s; begin = transaction.begin; writes = w ∷ ws } in record {
          sessions = all_push (λ (c : Commit). c.session + 1 ≤ limits.sessions) store.history c is.sessions (omega (arith, known));
          begun = λ t. dite (ℕ_discrete t s)
              (λ same. let none = uncounted (is_some (put store.opened s None t)) (ap is_some (ap (put store.opened s None) same ∙ put_here store.opened s None)) in
              let all = commits_by-append t store.history c in let one = counted (s == t) (eq-eqb s t (sym same)) in
              let was = counted (is_some (store.opened t)) (ap is_some (ap store.opened same ∙ is_open)) in let few = is.begun t in omega (arith, none, all, one, was, few))
              (λ other. let all = commits_by-append t store.history c in let none = uncounted (s == t) (ne_eqb s t (λ e. other (sym e))) in
              let few = subst (λ (o : Option Opened). commits_by t store.history + cond (is_some o) 1 0 ≤ store.begins t) (sym (put_else store.opened s None t other)) (is.begun t) in omega (arith, all, none, few));
          most = is.most;
          room = is.room;
          written = λ key none. all_acts_on-append key store.history (c ∷ []) ∙ (λ i. is.written key none i ++ ((ap (acts_on key) (sym e) ∙ own_placed key none) i ++ []));
          accepted = is.accepted;
        }

  commit_counted : (o : Option Opened) → store.opened s ≡ o → IsCounted limits (after_commit limits store s o)
  commit_counted None e = is
  commit_counted (Some transaction) e = committed transaction e (own_writes limits store s) refl

  abort_counted : (o : Option Opened) → IsCounted limits (after_abort store s o)
  abort_counted None = is
  abort_counted (Some transaction) = closed_counted (with_closed store s).closed

-- ---- a write

accepted_counted : (limits : Limits) (store : Store) (s key : ℕ) (act : Act) → IsCounted limits store → is_placed store.placed key ≡ true → IsCounted limits (with_accepted store s key act)
accepted_counted limits store s key act is placed = record {
  sessions = is.sessions;
  begun = is.begun;
  most = is.most;
  room = is.room;
  written = is.written;
  accepted = λ r. dite (ℕ_discrete r range)
      (λ e. subst (λ (y : ℕ). Placed (put store.accepted range more y)) (sym e) (subst Placed (sym (put_here store.accepted range more)) (all_push (λ (a : Accepted). is_placed store.placed a.write.key ≡ true) (store.accepted range) made (is.accepted range) placed)))
      (λ other. subst Placed (sym (put_else store.accepted range more r other)) (is.accepted r));
}
  where
    range : ℕ
    range = range_of store.placed key

    made : Accepted
    made = record { session = s; number = store.begins s; write = record { key = key; act = act } }

    more : List Accepted
    more = store.accepted range ++ made ∷ []

    Placed : List Accepted → Type 0
    Placed xs = AllByRecursion (λ (a : Accepted). is_placed store.placed a.write.key ≡ true) xs

placed_counted : (limits : Limits) (store : Store) (key : ℕ) → IsCounted limits store → (not (is_placed store.placed key) && nat_le (256 * limits.ranges) (length store.placed)) ≡ false → IsCounted limits (with_placed store key)
placed_counted limits store key is free = record {
  sessions = is.sessions;
  begun = is.begun;
  most = is.most;
  room = at (is_placed store.placed key) free;
  written = λ q none. is.written q (before q none);
  accepted = λ r. all_map (λ a placed. with_key_stays store.placed key a.write.key placed) (store.accepted r) (is.accepted r);
}
  where
    at : (b : Bool) → (not b && nat_le (256 * limits.ranges) (length store.placed)) ≡ false → length (cond b store.placed (store.placed ++ key ∷ [])) ≤ 256 * limits.ranges
    at true e = is.room
    at false e = let low = leb-false _ _ e in let more = length-append store.placed (key ∷ []) in omega (arith, low, more)

    before : (q : ℕ) → is_placed (with_key store.placed key) q ≡ false → is_placed store.placed q ≡ false
    before q none = was (is_placed store.placed q) refl
      where
        was : (b : Bool) → is_placed store.placed q ≡ b → b ≡ false
        was true e = clash (is_placed (with_key store.placed key) q) (with_key_stays store.placed key q e) none
        was false e = refl

double_not : (b : Bool) → not b ≡ false → b ≡ true
double_not true e = refl
double_not false e = absurd (cc)

change_counted : (limits : Limits) (store : Store) (s key : ℕ) (act : Act) (o : Option Opened) → IsCounted limits store → IsCounted limits (after_change limits store s o key act)
change_counted limits store s key act None is = is
change_counted limits store s key act (Some transaction) is = at (change_refusal limits store s transaction key) refl
  where
    at : (refusal : Option Cause) → change_refusal limits store s transaction key ≡ refusal → IsCounted limits (accepted_unless refusal store s key act)
    at (Some cause) e = is
    at None e =
        let one = first_none (where_true transaction.read_only ReadOnly) (where_true (not (is_placed store.placed key)) Missing ∷ conflict_of store s transaction.begin key ∷ where_true (is_none (row_of (sight_of limits store s transaction.begin) key)) Missing ∷ where_true (is_range_full limits store key) TailFull ∷ []) e in
        let two = first_none (where_true (not (is_placed store.placed key)) Missing) (conflict_of store s transaction.begin key ∷ where_true (is_none (row_of (sight_of limits store s transaction.begin) key)) Missing ∷ where_true (is_range_full limits store key) TailFull ∷ []) one.1 in
        accepted_counted limits store s key act is (double_not (is_placed store.placed key) (unrefused (not (is_placed store.placed key)) Missing two.0))

insert_counted : (limits : Limits) (store : Store) (s key : ℕ) (act : Act) (o : Option Opened) → IsCounted limits store → IsCounted limits (after_insert limits store s o key act)
insert_counted limits store s key act None is = is
insert_counted limits store s key act (Some transaction) is = at (early_insert_refusal limits store transaction key) refl
  where
    late : Option Cause
    late = late_insert_refusal limits (with_placed store key) s transaction key

    by_late : IsCounted limits (with_placed store key) → (refusal : Option Cause) → IsCounted limits (accepted_unless refusal (with_placed store key) s key act)
    by_late wide None = accepted_counted limits (with_placed store key) s key act wide (key_placed store.placed key)
    by_late wide (Some cause) = wide

    at : (early : Option Cause) → early_insert_refusal limits store transaction key ≡ early → IsCounted limits (accepted_unless (first_of (early ∷ late ∷ [])) (placed_unless early store key) s key act)
    at (Some cause) e = is
    at None e =
        let one = first_none (where_true transaction.read_only ReadOnly) (where_true (not (is_placed store.placed key) && nat_le (256 * limits.ranges) (length store.placed)) TableFull ∷ []) e in
        let two = first_none (where_true (not (is_placed store.placed key) && nat_le (256 * limits.ranges) (length store.placed)) TableFull) [] one.1 in
        by_late (placed_counted limits store key is (unrefused (not (is_placed store.placed key) && nat_le (256 * limits.ranges) (length store.placed)) TableFull two.0)) (first_of (late ∷ []))

-- ---- calls

pub calls_are_counted : CallsAreCounted
calls_are_counted limits store s Begin known is = opened_by limits store s known is (length store.history) false (begin_refusal limits store s) (not_spent limits store s known is)
calls_are_counted limits store s (AsOf time) known is = opened_by limits store s known is time true (as_of_refusal limits store s time)
    (λ e. not_spent limits store s known is (first_none (begin_refusal limits store s) (where_true (nat_lt (length store.history) time) (Future (length store.history)) ∷ []) e).0)
calls_are_counted limits store s (Get key) known is = is
calls_are_counted limits store s (Insert key row) known is = insert_counted limits store s key (Put row) (store.opened s) is
calls_are_counted limits store s (Update key patch) known is = change_counted limits store s key (Set patch) (store.opened s) is
calls_are_counted limits store s (Delete key) known is = change_counted limits store s key Del (store.opened s) is
calls_are_counted limits store s (Sum column) known is = is
calls_are_counted limits store s Count known is = is
calls_are_counted limits store s Scan known is = is
calls_are_counted limits store s (Find column number) known is = is
calls_are_counted limits store s CommitCall known is = commit_counted limits store s known is (store.opened s) refl
calls_are_counted limits store s Abort known is = abort_counted limits store s known is (store.opened s)

-- ---- room

pub same_by : (s : ℕ) (H L : List Commit) → SameCommits H L → commits_by s H ≡ commits_by s L
same_by s [] [] same = refl
same_by s [] (d ∷ L) same = absurd same
same_by s (c ∷ H) [] same = absurd same
same_by s (c ∷ H) (d ∷ L) same = λ i. cond (same.0 i == s) 1 0 + same_by s H L same.2 i

pub same_keys : (placed : List ℕ) (H L : List Commit) → SameCommits H L → placed_by_all placed H ≡ placed_by_all placed L
same_keys placed [] [] same = refl
same_keys placed [] (d ∷ L) same = absurd same
same_keys placed (c ∷ H) [] same = absurd same
same_keys placed (c ∷ H) (d ∷ L) same = ap (λ (ws : List Write). placed_by_all (placed_by placed ws) H) same.1 ∙ same_keys (placed_by placed d.writes) H L same.2

pub same_sessions : (n : ℕ) (H L : List Commit) → SameCommits H L → AllByRecursion (λ (c : Commit). c.session + 1 ≤ n) H → AllByRecursion (λ (c : Commit). c.session + 1 ≤ n) L
same_sessions n [] [] same all = tt
same_sessions n [] (d ∷ L) same all = absurd same
same_sessions n (c ∷ H) [] same all = absurd same
same_sessions n (c ∷ H) (d ∷ L) same all = (subst (λ (x : ℕ). x + 1 ≤ n) same.0 all.0, same_sessions n H L same.2 all.1)

pub counted_has_room : CountedHasRoom
counted_has_room limits store commits is same = record {
  sessions = same_sessions limits.sessions store.history commits same is.sessions;
  each = λ s. let few = is.begun s in let most = is.most s in let by = same_by s store.history commits same in omega (arith, few, most, by);
  keys = let few = at_most store.placed store.history is.written in let room = is.room in let all : length (keys_written store.history) ≡ length (keys_written commits) = ap length (same_keys [] store.history commits same) in omega (arith, few, room, all);
  writes = omega arith;
}
