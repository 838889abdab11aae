-- What a session sees of a key, and what is in the way of its write, read from the key's record.
use Rattle.std.proofs.Common.{◌≡◌, ℕ, ◌*◌, ◌/◌, ◌<◌, ◌≤◌, Bool, true, false, cond, List, [], length, refl, sym, ap, ◌∙◌, arith}
use Rattle.std.proofs.lemmas.Bool.{eqb-true}
use Rattle.std.specs.Prelude.{Option, Some, None, is_some, unwrap_or, MatchOption, nat_lt, ◌==◌, ◌&&◌}
use Rattle.lst_layout.specs.declared.limits.Limits.{Limits}
use Rattle.lst_model.specs.declared.replies.Cause.TheVariants.{Newer, Unfinished}
use Rattle.lst_model.specs.Tables.{row_of}
use Rattle.lst_model.specs.Histories.{acts_on, row_from, table_at}
use Rattle.lst_model.proofs.Folds.{get_all_applied}
use Rattle.lst_machine.specs.State.{Accepted, Opened, Store}
use Rattle.lst_machine.specs.Writes.{place_of, range_of, time_of, conflict_at, conflict_with, conflict_of, accepted_below, own_writes, sight_of}
use Rattle.lst_plain.specs.declared.versions.Pending.{Pending}
use Rattle.lst_plain.specs.Rows.{Kept, row_at, newest, is_held, row_beside, row_seen, conflict_beside, conflict_in}
use Rattle.lst_plain.specs.Telling.{accepted_on, own_acts, has_write, is_live, is_apart, last_settled, IsReached, IsPending, KeyTells}
use Rattle.lst_plain.proofs.Placing.{at_place}
use Rattle.lst_plain.proofs.Acting.{acts_by-none, acts_on-gathered, acts_below, last-equal}

-- a range that is not a key's has no write on it
pub no_write : (store : Store) → IsReached store → (range key : ℕ) → (range ≡ range_of store.placed key → ⊥) → has_write key (store.accepted range) ≡ false
no_write store reached range key apart = at_test (has_write key (store.accepted range)) refl
  where
    at_test : (b : Bool) → has_write key (store.accepted range) ≡ b → b ≡ false
    at_test true is = let home = reached.home range key is in absurd (apart (sym (ap (λ place. unwrap_or place 0 / 256) home.1 ∙ home.2)))
    at_test false is = refl

-- nor has any range one on a key that is not placed
pub no_write_unplaced : (store : Store) → IsReached store → (range key : ℕ) → place_of store.placed key ≡ None → has_write key (store.accepted range) ≡ false
no_write_unplaced store reached range key none = at_test (has_write key (store.accepted range)) refl
  where
    at_test : (b : Bool) → has_write key (store.accepted range) ≡ b → b ≡ false
    at_test true is = let home = reached.home range key is in let both : ◌≡◌ {A = Option ℕ} None (Some home.0) = sym none ∙ home.1 in absurd (cc)
    at_test false is = refl

pub range_low : (placed : List ℕ) (key ranges : ℕ) → 0 < ranges → length placed ≤ 256 * ranges → range_of placed key < ranges
range_low placed key ranges some few = at (place_of placed key) refl
  where
    at : (place : Option ℕ) → place_of placed key ≡ place → unwrap_or place 0 / 256 < ranges
    at None is = omega arith
    at (Some place) is = let low : place < length placed = (at_place placed key place is).0 in omega arith

-- the own writes of a session, key by key
pub own_by_key : (limits : Limits) (store : Store) → IsReached store → 0 < limits.ranges → length store.placed ≤ 256 * limits.ranges → (session key : ℕ) → acts_on key (own_writes limits store session) ≡ own_acts store session key
own_by_key limits store reached some few session key =
    acts_on-gathered session (store.begins session) key [] (accepted_below store.accepted limits.ranges) tt
    ∙ acts_below session (store.begins session) key store.accepted (range_of store.placed key) limits.ranges
    (λ range apart. acts_by-none session (store.begins session) key (store.accepted range) (no_write store reached range key apart))
    (range_low store.placed key limits.ranges some few)

same_session : (p q : ℕ) → (p == q) ≡ true → p ≡ q
same_session p q is = eqb-true p q is

module _ (kept : Kept) (store : Store) (key : ℕ) (tells : KeyTells kept store key) (session : ℕ) (opened : Opened) (is_open : store.opened session ≡ Some opened) where
  some : is_some (store.opened session) ≡ true
  some = ap is_some is_open

  own_row : (pending : Pending) → IsPending store key kept.versions pending → pending.session ≡ session → row_from (row_at kept.versions opened.begin) (own_acts store session key) ≡ pending.row
  own_row pending held same =
      let begun : Some held.opened ≡ Some opened = sym held.is_open ∙ ap store.opened same ∙ is_open in
      let one : held.opened ≡ opened = cc in
      ap (λ (o : Opened). row_from (row_at kept.versions o.begin) (own_acts store session key)) (sym one)
      ∙ ap (λ s. row_from (row_at kept.versions held.opened.begin) (own_acts store s key)) (sym same)
      ∙ held.row

  -- the row that the own acts make
  pub beside : (pending : Option Pending) → kept.pending ≡ pending → row_from (row_at kept.versions opened.begin) (own_acts store session key) ≡ row_beside pending (row_at kept.versions opened.begin) session
  beside None is = ap (row_from (row_at kept.versions opened.begin)) (tells.others session some (ap (λ p. is_held p session) is))
  beside (Some pending) is = at_test (pending.session == session) refl
    where
      at_test : (b : Bool) → (pending.session == session) ≡ b → row_from (row_at kept.versions opened.begin) (own_acts store session key) ≡ cond b pending.row (row_at kept.versions opened.begin)
      at_test true same = own_row pending (tells.pending pending is) (same_session _ _ same)
      at_test false other = ap (row_from (row_at kept.versions opened.begin)) (tells.others session some (ap (λ p. is_held p session) is ∙ other))

  -- the row of the key that the session sees
  pub sight_is : (limits : Limits) → IsReached store → 0 < limits.ranges → length store.placed ≤ 256 * limits.ranges → row_of (sight_of limits store session opened.begin) key ≡ row_seen kept session opened.begin
  sight_is limits reached ranges few =
      get_all_applied (table_at store.history opened.begin) (own_writes limits store session) key
      ∙ ap (λ row. row_from row (acts_on key (own_writes limits store session))) (tells.rows opened.begin (reached.open_begun session opened is_open))
      ∙ ap (row_from (row_at kept.versions opened.begin)) (own_by_key limits store reached ranges few session key)
      ∙ beside kept.pending refl

  live : (a : Bool) → (a && true) ≡ a
  live true = refl
  live false = refl

  not_below : (b : ℕ) → nat_lt b 0 ≡ false
  not_below b = grind arith

  by_last : (last : Option Accepted) → MatchOption last (newest kept.versions ≡ 0) (λ write. time_of store.history write.session write.number ≡ Some (newest kept.versions))
      → conflict_with store.history session opened.begin last ≡ conflict_beside None (newest kept.versions) session opened.begin
  by_last None old = ap (λ b. cond b (Some (Newer 0)) None) (sym (not_below opened.begin)) ∙ ap (λ time. cond (nat_lt opened.begin time) (Some (Newer time)) None) (sym old)
  by_last (Some rival) old = ap (conflict_at session opened.begin rival) old

  conflict : IsReached store → (pending : Option Pending) → kept.pending ≡ pending → conflict_of store session opened.begin key ≡ conflict_beside pending (newest kept.versions) session opened.begin
  conflict reached None is =
      ap (conflict_with store.history session opened.begin)
      (last-equal (is_live store key) (λ w. is_live store key w && is_apart kept.pending w) (accepted_on store key) (λ w. sym (live (is_live store key w)) ∙ ap (λ p. is_live store key w && is_apart p w) (sym is)))
      ∙ by_last (last_settled store key kept.pending) tells.last
  conflict reached (Some pending) is =
      let held = tells.pending pending is in
      ap (conflict_with store.history session opened.begin) held.is_last
      ∙ ap (conflict_at session opened.begin held.rival)
      (ap (λ s. time_of store.history s held.rival.number) held.by_session
      ∙ ap (time_of store.history pending.session) (held.by_number ∙ sym held.number)
      ∙ reached.open_not_committed pending.session (ap is_some held.is_open))
      ∙ ap (λ s. cond (s == session) None (Some (Unfinished s held.rival.number))) held.by_session
      ∙ ap (λ n. cond (pending.session == session) None (Some (Unfinished pending.session n))) held.by_number

  -- what is in the way of the session's write
  pub conflict_is : IsReached store → conflict_of store session opened.begin key ≡ conflict_in kept session opened.begin
  conflict_is reached = conflict reached kept.pending refl
