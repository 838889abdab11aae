-- New rows that one transaction puts into a new store.
use Rattle.std.proofs.Common.{◌≡◌, ◌⊎◌, ℕ, ◌+◌, ◌*◌, ◌<◌, ◌≤◌, Bool, true, false, cond, List, [], ◌∷◌, ◌++◌, length, refl, sym, ap, ◌∙◌, subst, arith, inl, inr, append_assoc, append-nil, length-append, ne_eqb, eq-eqb}
use Rattle.std.proofs.lemmas.Bool.{leb-true}
use Rattle.std.specs.Prelude.{Option, Some, None, is_some, unwrap_or, nat_le, not, ◌/◌, ◌&&◌}
use Rattle.std.specs.List.{AllByRecursion}
use Rattle.std.specs.Ordering.{nat_cmp}
use Rattle.std.specs.FinMap.{get-empty}
use mathlib.Core.Logic.{dite}
use native.Mathlib.Decide.{ℕ_discrete}
use Rattle.lst_layout.specs.declared.limits.Limits.{Limits}
use Rattle.lst_model.specs.declared.acts.Act.{Act}
use Rattle.lst_model.specs.declared.acts.Act.TheVariants.{Put, Set, Del}
use Rattle.lst_model.specs.declared.acts.Write.{Write}
use Rattle.lst_model.specs.declared.commits.Commit.{Commit}
use Rattle.lst_model.specs.declared.lines.Call.TheVariants.{Begin, Insert, Commit as CommitCall}
use Rattle.lst_model.specs.declared.replies.Reply.TheVariants.{Begun, Done, Refused}
use Rattle.lst_model.specs.declared.replies.Cause.{Cause}
use Rattle.lst_model.specs.declared.replies.Cause.TheVariants.{Spent, ReadOnly, Exists, Newer, Unfinished, TableFull, TailFull}
use Rattle.lst_model.specs.Cells.{Cell}
use Rattle.lst_model.specs.Tables.{no_rows, row_of}
use Rattle.lst_model.specs.Histories.{acts_on, row_from, snapshot, StandFrom, StandByKey}
use Rattle.lst_model.specs.Soundness.{Fits}
use Rattle.lst_model.proofs.Folds.{get_all_applied}
use Rattle.lst_machine.specs.State.{Accepted, Opened, Store, opening_store}
use Rattle.lst_machine.specs.Writes.{put, place_of, is_placed, with_key, range_of, conflict_of, conflict_with, conflict_at, sight_of, time_of, rival_of}
use Rattle.lst_machine.specs.Calls.{first_of, where_true, refused_or, in_open, with_placed, with_accepted, accepted_unless, placed_unless, early_insert_refusal, insert_refusal, is_range_full, after_insert, after_commit, with_commit, call_reply, store_after}
use Rattle.lst_machine.proofs.Places.{with_last, next, place-cons, place-append}
use Rattle.lst_machine.proofs.Acting.{put_here, put_else}
use Rattle.lst_snapshots.specs.Replays.{MayFollow, FollowsLater}
use Rattle.lst_replay_laws.specs.Again.{call_of, after_writes, after_begun, placed_by}
use Rattle.lst_replay_laws.specs.Rests.{IsUnderWay, begun_behind}
use Rattle.lst_replay_laws.specs.Puts.{IsPut, ArePutsFrom, HasRoomForRows, one_commit, PutsAreCommitted}
use Rattle.lst_replay_laws.proofs.Keys.{placed_by-split}
use Rattle.lst_replay_laws.proofs.Steps.{opening_rests, begins_again, writes_again, commits_again}

-- ---- puts by rising key

abbrev AllBelow : ℕ → List Write → Type 0
AllBelow key ws = AllByRecursion (λ (w : Write). w.key < key) ws

-- each is a put, of a key above those before it
put_at : (low : ℕ) (own : List Write) (w : Write) (rest : List Write) → ArePutsFrom low (own ++ w ∷ rest) → (low ≤ w.key) × IsPut w.act × AllBelow w.key own
put_at low [] w rest puts = (puts.1, puts.0, tt)
put_at low (x ∷ own) w rest puts =
    let behind = put_at (x.key + 1) own w rest puts.2 in let here = puts.1 in let above = behind.0 in
    (omega (arith, here, above), behind.1, (omega (arith, above), behind.2))

stand_from : (low from : ℕ) (ws : List Write) → from ≤ low → ArePutsFrom low ws → StandFrom from ws
stand_from low from [] few puts = tt
stand_from low from (w ∷ ws) few puts = (let here = puts.1 in omega (arith, few, here), stand_from (w.key + 1) w.key ws (omega arith) puts.2)

none_on : (key : ℕ) (ws : List Write) → AllBelow key ws → acts_on key ws ≡ []
none_on key [] below = refl
none_on key (w ∷ ws) below = ap (λ b. cond b (w.act ∷ acts_on key ws) (acts_on key ws)) (ne_eqb w.key key (λ e. let low = below.0 in omega (arith, low, e))) ∙ none_on key ws below.1

absent_fits : (row : Option (List Cell)) (act : Act) → row ≡ None → IsPut act → Fits row act
absent_fits None (Put cells) none is = tt
absent_fits None (Set patch) none is = absurd is
absent_fits None Del none is = absurd is
absent_fits (Some old) act none is = absurd (cc)

-- a commit of puts may be the first
puts_may_follow : (c : Commit) → c.begin ≡ 0 → ArePutsFrom 0 c.writes → MayFollow [] c
puts_may_follow c first puts = record {
  begin = omega (arith, first);
  apart = λ before earlier between e over. absurd (nothing before earlier between e);
  numbers = λ before earlier between e same. absurd (nothing before earlier between e);
  fits = λ own w rest split.
      let at = put_at 0 own w rest (subst (ArePutsFrom 0) split puts) in
      absent_fits _ w.act (snapshot_is c.begin first own w.key at.2) at.1;
}
  where
    nothing : (before : List Commit) (earlier : Commit) (between : List Commit) → ◌≡◌ {A = List Commit} [] (before ++ earlier ∷ between) → ⊥
    nothing before earlier between e = let long = ap length e in let parts = length-append before (earlier ∷ between) in omega (arith, long, parts)

    snapshot_is : (begin : ℕ) → begin ≡ 0 → (own : List Write) (key : ℕ) → AllBelow key own → row_of (snapshot [] begin own) key ≡ None
    snapshot_is begin e own key below = ap (λ n. row_of (snapshot [] n own) key) e ∙ get_all_applied no_rows own key ∙ ap (row_from (row_of no_rows key)) (none_on key own below) ∙ get-empty nat_cmp key

-- ---- the keys that they place

unplaced : (placed : List ℕ) (key : ℕ) → AllByRecursion (λ (k : ℕ). k < key) placed → place_of placed key ≡ None
unplaced [] key below = refl
unplaced (k ∷ placed) key below = place-cons k placed key
    ∙ ap (λ b. cond b (Some 0) (next (place_of placed key))) (ne_eqb k key (λ e. let low = below.0 in omega (arith, low, e)))
    ∙ ap next (unplaced placed key below.1)

all_last : (P : ℕ → Type 0) (xs : List ℕ) (x : ℕ) → AllByRecursion P xs → P x → AllByRecursion P (xs ++ x ∷ [])
all_last P [] x all is = (is, tt)
all_last P (y ∷ xs) x all is = (all.0, all_last P xs x all.1 is)

all_lower : (low high : ℕ) (xs : List ℕ) → low ≤ high → AllByRecursion (λ (k : ℕ). k < low) xs → AllByRecursion (λ (k : ℕ). k < high) xs
all_lower low high [] le all = tt
all_lower low high (x ∷ xs) le all = (let here = all.0 in omega (arith, here, le), all_lower low high xs le all.1)

-- ---- what an insert is answered

abbrev refusal_by : Option Cause → Option Cause → Option Cause → Bool → Option Cause
refusal_by early conflict exists full = first_of (early ∷ first_of (conflict ∷ exists ∷ where_true full TailFull ∷ []) ∷ [])

-- where it is accepted, there was no cause
accepted_none : (early conflict exists : Option Cause) (full : Bool) → refused_or (refusal_by early conflict exists full) Done ≡ Done → (early ≡ None) × (refusal_by early conflict exists full ≡ None)
accepted_none (Some cause) conflict exists full e = absurd (cc)
accepted_none None (Some cause) exists full e = absurd (cc)
accepted_none None None (Some cause) full e = absurd (cc)
accepted_none None None None true e = absurd (cc)
accepted_none None None None false e = (refl, refl)

-- a full range is told where its range is full
full_told : (early conflict exists : Option Cause) (full : Bool) → (early ≡ Some TailFull → ⊥) → (conflict ≡ Some TailFull → ⊥) → (exists ≡ Some TailFull → ⊥)
    → refused_or (refusal_by early conflict exists full) Done ≡ Refused TailFull → full ≡ true
full_told (Some cause) conflict exists full not_early not_conflict not_there e = let same : cause ≡ TailFull = cc e in absurd (not_early (ap Some same))
full_told None (Some cause) exists full not_early not_conflict not_there e = let same : cause ≡ TailFull = cc e in absurd (not_conflict (ap Some same))
full_told None None (Some cause) full not_early not_conflict not_there e = let same : cause ≡ TailFull = cc e in absurd (not_there (ap Some same))
full_told None None None true not_early not_conflict not_there e = refl
full_told None None None false not_early not_conflict not_there e = absurd (cc)

not_early : (read_only crowded : Bool) → first_of (where_true read_only ReadOnly ∷ where_true crowded TableFull ∷ []) ≡ Some TailFull → ⊥
not_early true crowded e = cc
not_early false true e = cc
not_early false false e = cc

not_there : (is : Bool) → where_true is Exists ≡ Some TailFull → ⊥
not_there true e = cc
not_there false e = cc

not_conflict : (history : List Commit) (s begin : ℕ) (rival : Option Accepted) → conflict_with history s begin rival ≡ Some TailFull → ⊥
not_conflict history s begin None e = cc
not_conflict history s begin (Some rival) e = by_time (time_of history rival.session rival.number) e
  where
    by_late : (late : Bool) (time : ℕ) → cond late (Some (Newer time)) None ≡ Some TailFull → ⊥
    by_late true time e = cc
    by_late false time e = cc

    by_own : (own : Bool) → cond own None (Some (Unfinished rival.session rival.number)) ≡ Some TailFull → ⊥
    by_own true e = cc
    by_own false e = cc

    by_time : (time : Option ℕ) → conflict_at s begin rival time ≡ Some TailFull → ⊥
    by_time (Some time) e = by_late _ time e
    by_time None e = by_own _ e

-- ---- one row more

-- a range has as many accepted writes as keys, which fill one range after the other
abbrev Few : ℕ → (ℕ → List Accepted) → Type 0
Few n accepted = (r : ℕ) → (length (accepted r) ≡ 0) ⊎ (length (accepted r) + 256 * r ≤ n)

record Made (limits : Limits) (s : ℕ) (low : ℕ) (done : List Write) (store : Store) : Type 0 where
  under_way : IsUnderWay limits [] s done store
  long : length store.placed ≡ length done
  below : AllByRecursion (λ (k : ℕ). k < low) store.placed
  few : Few (length done) store.accepted

module _ (limits : Limits) (s : ℕ) (low : ℕ) (done : List Write) (store : Store) (key : ℕ) (row : List Cell) (made : Made limits s low done store) (over : low ≤ key) where
  abbrev w : Write
  w = record { key = key; act = Put row }

  abbrev t : Opened
  t = begun_behind []

  abbrev wide : Store
  wide = with_placed store key

  unplaced_yet : place_of store.placed key ≡ None
  unplaced_yet = unplaced store.placed key (all_lower low key store.placed over made.below)

  placed_is : wide.placed ≡ store.placed ++ key ∷ []
  placed_is = ap (λ p. cond (is_some p) store.placed (store.placed ++ key ∷ [])) unplaced_yet

  range_is : range_of wide.placed key ≡ length done / 256
  range_is = ap (λ p. range_of p key) placed_is
      ∙ ap (λ p. unwrap_or p 0 / 256) (place-append store.placed key key ∙ (λ i. with_last (unplaced_yet i) (eq-eqb key key refl i) (length store.placed)))
      ∙ ap (λ n. n / 256) made.long

  reply_is : call_reply limits store s (Insert key row) ≡ refused_or (insert_refusal limits store s t key) Done
  reply_is = ap (λ o. in_open o (λ transaction. refused_or (insert_refusal limits store s transaction key) Done)) made.under_way.opened

  abbrev crowded : Bool
  crowded = not (is_placed store.placed key) && nat_le (256 * limits.ranges) (length store.placed)

  abbrev early : Option Cause
  early = early_insert_refusal limits store t key

  abbrev conflict : Option Cause
  conflict = conflict_of wide s t.begin key

  abbrev there : Option Cause
  there = where_true (is_some (row_of (sight_of limits wide s t.begin) key)) Exists

  after_is : call_reply limits store s (Insert key row) ≡ Done → store_after limits store s (Insert key row) ≡ with_accepted wide s key (Put row)
  after_is answered =
      let none = accepted_none early conflict there (is_range_full limits wide key) (sym reply_is ∙ answered) in
      ap (λ o. after_insert limits store s o key (Put row)) made.under_way.opened
      ∙ (λ i. accepted_unless (none.1 i) (placed_unless (none.0 i) store key) s key (Put row))

  full_is : call_reply limits store s (Insert key row) ≡ Refused TailFull → limits.tails ≤ length (store.accepted (length done / 256))
  full_is answered = subst (λ (r : ℕ). limits.tails ≤ length (store.accepted r)) range_is
      (leb-true _ _ (full_told early conflict there (is_range_full limits wide key) (not_early t.read_only crowded) (not_conflict store.history s t.begin (rival_of wide key)) (not_there (is_some (row_of (sight_of limits wide s t.begin) key))) (sym reply_is ∙ answered)))

  more_few : (n : ℕ) (accepted : ℕ → List Accepted) (a : Accepted) → n ≡ length done → Few n accepted → Few (n + 1) (put accepted (n / 256) (accepted (n / 256) ++ a ∷ []))
  more_few n accepted a e few r = dite (ℕ_discrete r (n / 256))
      (λ same. subst (λ (x : ℕ). (length (put accepted (n / 256) (accepted (n / 256) ++ a ∷ []) x) ≡ 0) ⊎ (length (put accepted (n / 256) (accepted (n / 256) ++ a ∷ []) x) + 256 * x ≤ n + 1)) (sym same) (inr (here (few (n / 256)))))
      (λ other. subst (λ (xs : List Accepted). (length xs ≡ 0) ⊎ (length xs + 256 * r ≤ n + 1)) (sym (put_else accepted (n / 256) (accepted (n / 256) ++ a ∷ []) r other)) (still (few r)))
    where
      here : (length (accepted (n / 256)) ≡ 0) ⊎ (length (accepted (n / 256)) + 256 * (n / 256) ≤ n) → length (put accepted (n / 256) (accepted (n / 256) ++ a ∷ []) (n / 256)) + 256 * (n / 256) ≤ n + 1
      here (inl none) = let put_is = ap length (put_here accepted (n / 256) (accepted (n / 256) ++ a ∷ [])) in let more = length-append (accepted (n / 256)) (a ∷ []) in omega (arith, put_is, more, none)
      here (inr some) = let put_is = ap length (put_here accepted (n / 256) (accepted (n / 256) ++ a ∷ [])) in let more = length-append (accepted (n / 256)) (a ∷ []) in omega (arith, put_is, more, some)

      still : (length (accepted r) ≡ 0) ⊎ (length (accepted r) + 256 * r ≤ n) → (length (accepted r) ≡ 0) ⊎ (length (accepted r) + 256 * r ≤ n + 1)
      still (inl none) = inl none
      still (inr some) = inr (omega (arith, some))

  -- the range of the next key isn't full
  room_left : (whole : ℕ) → length done < whole → HasRoomForRows limits whole → limits.tails ≤ length (store.accepted (length done / 256)) → ⊥
  room_left whole fewer room full = at room.tails (made.few (length done / 256))
    where
      at : (whole ≤ limits.tails) ⊎ (256 ≤ limits.tails) → (length (store.accepted (length done / 256)) ≡ 0) ⊎ (length (store.accepted (length done / 256)) + 256 * (length done / 256) ≤ length done) → ⊥
      at (inl tails) (inl none) = omega (arith, fewer, full, tails, none)
      at (inl tails) (inr some) = omega (arith, fewer, full, tails, some)
      at (inr tails) (inl none) = omega (arith, fewer, full, tails, none)
      at (inr tails) (inr some) = omega (arith, fewer, full, tails, some)

  made_next : call_reply limits store s (Insert key row) ≡ Done → IsUnderWay limits [] s (done ++ w ∷ []) (store_after limits store s (Insert key row)) → Made limits s (key + 1) (done ++ w ∷ []) (store_after limits store s (Insert key row))
  made_next answered is = record {
    under_way = is;
    long = ap length now ∙ length-append store.placed (key ∷ []) ∙ (let was = made.long in let more = length-append done (w ∷ []) in omega (arith, was, more));
    below = subst (AllByRecursion (λ (k : ℕ). k < key + 1)) (sym now) (all_last (λ (k : ℕ). k < key + 1) store.placed key (all_lower low (key + 1) store.placed (omega (arith, over)) made.below) (omega arith));
    few = subst (λ (n : ℕ). Few n (store_after limits store s (Insert key row)).accepted) (let more = length-append done (w ∷ []) in omega (arith, more))
        (subst (λ (later : Store). Few (length done + 1) later.accepted) (sym (after_is answered))
        (subst (λ (r : ℕ). Few (length done + 1) (put store.accepted r (store.accepted r ++ new ∷ []))) (sym range_is) (more_few (length done) store.accepted new refl made.few)));
  }
    where
      new : Accepted
      new = record { session = s; number = store.begins s; write = w }

      now : (store_after limits store s (Insert key row)).placed ≡ store.placed ++ key ∷ []
      now = ap (λ (later : Store). later.placed) (after_is answered) ∙ placed_is

-- ---- all rows

module _ (later : FollowsLater) (limits : Limits) (s : ℕ) (writes : List Write) (known : s < limits.sessions) (some : 0 < limits.txns) (puts : ArePutsFrom 0 writes) (room : HasRoomForRows limits (length writes)) where
  abbrev c : Commit
  c = record { session = s; number = 1; begin = 0; writes = writes }

  may : MayFollow [] c
  may = puts_may_follow c refl puts

  by_key : StandByKey writes
  by_key = stand_from 0 0 writes (omega arith) puts

  step : (low : ℕ) (done : List Write) (key : ℕ) (act : Act) (rest : List Write) (store : Store) → IsPut act → low ≤ key → writes ≡ done ++ record { key = key; act = act } ∷ rest → Made limits s low done store
      → Made limits s (key + 1) (done ++ record { key = key; act = act } ∷ []) (store_after limits store s (call_of (record { key = key; act = act })))
  step low done key (Set patch) rest store put over split made = absurd put
  step low done key Del rest store put over split made = absurd put
  step low done key (Put row) rest store put over split made = at (writes_again later limits [] c done w rest store may by_key split made.under_way)
    where
      w : Write
      w = record { key = key; act = Put row }

      fewer : length done < length writes
      fewer = let parts = ap length split ∙ length-append done (w ∷ rest) in omega (arith, parts)

      at : ((call_reply limits store s (Insert key row) ≡ Done) × IsUnderWay limits [] s (done ++ record { key = key; act = Put row } ∷ []) (store_after limits store s (Insert key row)))
          ⊎ (((call_reply limits store s (Insert key row) ≡ Refused TableFull) × (256 * limits.ranges < length (placed_by [] (done ++ record { key = key; act = Put row } ∷ []))))
          ⊎ ((call_reply limits store s (Insert key row) ≡ Refused TailFull) × (limits.tails ≤ 0 + length done)))
          → Made limits s (key + 1) (done ++ record { key = key; act = Put row } ∷ []) (store_after limits store s (Insert key row))
      at (inl answered) = made_next limits s low done store key row made over answered.0 answered.1
      at (inr (inl full)) =
          let keys = ap length (placed_by-split [] done (record { key = key; act = Put row } ∷ []) ∙ ap (λ p. with_key p key) (sym made.under_way.placed) ∙ placed_is limits s low done store key row made over) in
          let one = length-append store.placed (key ∷ []) in let was = made.long in let most = room.keys in let many = full.1 in
          absurd (omega (arith, keys, one, was, most, many, fewer))
      at (inr (inr full)) = absurd (room_left limits s low done store key row made over (length writes) fewer room (full_is limits s low done store key row made over full.0))

  all_made : (low : ℕ) (done ws : List Write) (store : Store) → writes ≡ done ++ ws → ArePutsFrom low ws → Made limits s low done store → IsUnderWay limits [] s (done ++ ws) (after_writes limits store s ws)
  all_made low done [] store split are made = subst (λ (ws : List Write). IsUnderWay limits [] s ws store) (sym (append-nil done)) made.under_way
  all_made low done (w ∷ ws) store split are made = subst (λ (xs : List Write). IsUnderWay limits [] s xs (after_writes limits store s (w ∷ ws))) (append_assoc done (w ∷ []) ws)
      (all_made (w.key + 1) (done ++ w ∷ []) ws (store_after limits store s (call_of w)) (split ∙ sym (append_assoc done (w ∷ []) ws)) are.2 (step low done w.key w.act ws store are.0 are.1 split made))

  begun : IsUnderWay limits [] s [] (store_after limits opening_store s Begin)
  begun = at (begins_again limits [] opening_store s known (opening_rests limits))
    where
      at : ((call_reply limits opening_store s Begin ≡ Begun 0) × (0 < limits.txns) × IsUnderWay limits [] s [] (store_after limits opening_store s Begin))
          ⊎ ((call_reply limits opening_store s Begin ≡ Refused Spent) × (limits.txns ≤ 0)) → IsUnderWay limits [] s [] (store_after limits opening_store s Begin)
      at (inl is) = is.2
      at (inr spent) = let none = spent.1 in absurd (omega (arith, none, some))

  whole : IsUnderWay limits [] s writes (after_begun limits opening_store s writes)
  whole = all_made 0 [] writes (store_after limits opening_store s Begin) refl puts (record {
    under_way = begun;
    long = ap length begun.placed;
    below = subst (AllByRecursion (λ (k : ℕ). k < 0)) (sym begun.placed) tt;
    few = λ r. inl (let few = begun.few r in omega (arith, few));
  })

committed : (limits : Limits) (s : ℕ) (writes : List Write) (store : Store) → IsUnderWay limits [] s writes store → (store_after limits store s CommitCall).history ≡ one_commit s writes
committed limits s [] store is = ap (λ o. (after_commit limits store s o).history) is.opened ∙ ap (λ own. (with_commit store s (begun_behind []) own).history) is.own ∙ is.history
committed limits s (w ∷ ws) store is =
    (commits_again limits [] (record { session = s; number = 1; begin = 0; writes = w ∷ ws }) store (λ e. omega (arith, ap length e)) is).1.history

pub puts_are_committed : FollowsLater → PutsAreCommitted
puts_are_committed later limits s writes known some puts room =
    committed limits s writes (after_begun limits opening_store s writes) (whole later limits s writes known some puts room)
