-- Lists of commits run again whole.
use Rattle.std.proofs.Common.{lt_of_not-le, ◌≡◌, ℕ, zero, suc, ◌+◌, ◌*◌, ◌≤◌, List, [], ◌∷◌, ◌++◌, length, take, refl, sym, ap, ◌∙◌, subst, arith, inl, append_assoc, append-nil, ◌<◌}
use Rattle.std.specs.List.{AllByRecursion}
use Rattle.lst_layout.specs.declared.limits.Limits.{Limits}
use Rattle.lst_model.specs.declared.acts.Write.{Write}
use Rattle.lst_model.specs.declared.commits.Commit.{Commit}
use Rattle.lst_model.specs.Tables.{Rows, no_rows, all_applied}
use Rattle.lst_model.specs.Histories.{replayed}
use Rattle.lst_machine.specs.State.{Store, opening_store}
use Rattle.lst_snapshots.specs.Replays.{numbered_at, numbered_from, IsRecovered, MayFollow, SameWrites, FollowsLater}
use Rattle.lst_model.specs.declared.lines.Call.TheVariants.{Begin, Commit as CommitCall}
use Rattle.lst_machine.specs.Calls.{store_after}
use Rattle.lst_replay_laws.specs.Again.{call_of, writes_in, after_writes, after_again, after_all_again, again_behind}
use Rattle.lst_replay_laws.specs.Rests.{IsRested, HasRoomFor, MeetsLimit}
use Rattle.lst_replay_laws.specs.Counts.{IsCounted, SameCommits}
use Rattle.lst_replay_laws.specs.Runs.{HasWrites, RunsAgain, RecoveredRests, RoomRunsAgain, FullIsOne, FullIsNotRun, RoomGrows, SameTables, AgainAreSame, NumberedAreSame, SameHaveWrites, SameGrows, SameHaveRoom, AgainIsCounted}
use Rattle.lst_replay_laws.proofs.Steps.{opening_rests}
use Rattle.lst_replay_laws.proofs.Counted.{opening_is_counted, calls_are_counted, same_by, same_keys, same_sessions}
use Rattle.lst_replay_laws.proofs.Rooms.{rests_again, room_meets_none}

-- ---- lists

pub numbered_split : (time : ℕ) (ds more : List Commit) (c : Commit) → numbered_from time (ds ++ c ∷ more) ≡ numbered_from time ds ++ numbered_at (length ds + time) c ∷ numbered_from (suc (length ds + time)) more
numbered_split time [] more c = ap (λ (t : ℕ). numbered_at t c ∷ numbered_from (suc t) more) (omega arith)
numbered_split time (d ∷ ds) more c =
    ap (λ (cs : List Commit). numbered_at time d ∷ cs) (numbered_split (suc time) ds more c ∙ ap (λ (t : ℕ). numbered_from (suc time) ds ++ numbered_at t c ∷ numbered_from (suc t) more) (omega arith))

-- each commit of a recovered history may follow those before it
pub may_follow : (front : List Commit) (c : Commit) (rest commits : List Commit) → commits ≡ front ++ c ∷ rest → IsRecovered commits → MayFollow front c
may_follow front c rest commits split recovered = recovered (numbered_from 1 front) (numbered_at (length front + 1) c) (numbered_from (suc (length front + 1)) rest) (ap (numbered_from 1) split ∙ numbered_split 1 front rest c)

-- one commit more
pub after_more : (limits : Limits) (store : Store) (front : List Commit) (c : Commit) → after_all_again limits store (front ++ c ∷ []) ≡ after_again limits (after_all_again limits store front) c
after_more limits store [] c = refl
after_more limits store (d ∷ front) c = after_more limits (after_again limits store d) front c

pub runs_more : (limits : Limits) (store : Store) (front : List Commit) (c : Commit) → RunsAgain limits store front → ¬ MeetsLimit limits (after_all_again limits store front) c → RunsAgain limits store (front ++ c ∷ [])
runs_more limits store [] c runs free = (free, tt)
runs_more limits store (d ∷ front) c runs free = (runs.0, runs_more limits (after_again limits store d) front c runs.1 free)

-- ---- a recovered history

module _ (later : FollowsLater) (limits : Limits) (columns : ℕ) where
  rests_from : (front rest commits : List Commit) (store : Store) → commits ≡ front ++ rest → IsRecovered commits → AllByRecursion (HasWrites columns) rest → IsRested limits front store → RunsAgain limits store rest
      → IsRested limits (front ++ rest) (after_all_again limits store rest)
  rests_from front [] commits store split recovered all is runs = subst (λ (cs : List Commit). IsRested limits cs store) (sym (append-nil front)) is
  rests_from front (c ∷ rest) commits store split recovered all is runs =
      let may = may_follow front c rest commits split recovered in
      let next = rests_again later limits front c store is may all.0.order all.0.some runs.0 in
      subst (λ (cs : List Commit). IsRested limits cs (after_all_again limits store (c ∷ rest))) (append_assoc front (c ∷ []) rest)
      (rests_from (front ++ c ∷ []) rest commits (after_again limits store c) (split ∙ sym (append_assoc front (c ∷ []) rest)) recovered all.1 next runs.1)

  runs_from : (front rest commits : List Commit) (store : Store) → commits ≡ front ++ rest → IsRecovered commits → AllByRecursion (HasWrites columns) rest → IsRested limits front store → HasRoomFor limits commits
      → RunsAgain limits store rest
  runs_from front [] commits store split recovered all is room = tt
  runs_from front (c ∷ rest) commits store split recovered all is room =
      let may = may_follow front c rest commits split recovered in
      let free : ¬ MeetsLimit limits store c = room_meets_none later limits front c rest store is may all.0.order (subst (HasRoomFor limits) split room) in
      let next = rests_again later limits front c store is may all.0.order all.0.some free in
      (free, runs_from (front ++ c ∷ []) rest commits (after_again limits store c) (split ∙ sym (append_assoc front (c ∷ []) rest)) recovered all.1 next room)

pub recovered_rests : FollowsLater → RecoveredRests
recovered_rests later limits columns commits recovered all runs = rests_from later limits columns [] commits commits opening_store refl recovered all (opening_rests limits) runs

pub room_runs_again : FollowsLater → RoomRunsAgain
room_runs_again later limits columns commits recovered all room = runs_from later limits columns [] commits commits opening_store refl recovered all (opening_rests limits) room

-- ---- the first that meets a limit

module _ (limits : Limits) where
  not_run : (store : Store) (front : List Commit) (c : Commit) (rest : List Commit) → MeetsLimit limits (after_all_again limits store front) c → RunsAgain limits store (front ++ c ∷ rest) → ⊥
  not_run store [] c rest meets runs = runs.0 meets
  not_run store (d ∷ front) c rest meets runs = not_run (after_again limits store d) front c rest meets runs.1

  one_full : (store : Store) (xs ys : List Commit) (c d : Commit) (more others : List Commit) → xs ++ c ∷ more ≡ ys ++ d ∷ others → RunsAgain limits store xs → RunsAgain limits store ys
      → MeetsLimit limits (after_all_again limits store xs) c → MeetsLimit limits (after_all_again limits store ys) d → length xs ≡ length ys
  one_full store [] [] c d more others e a b meets too = refl
  one_full store [] (y ∷ ys) c d more others e a b meets too = let same : c ≡ y = cc in absurd (b.0 (subst (MeetsLimit limits store) same meets))
  one_full store (x ∷ xs) [] c d more others e a b meets too = let same : d ≡ x = cc in absurd (a.0 (subst (MeetsLimit limits store) same too))
  one_full store (x ∷ xs) (y ∷ ys) c d more others e a b meets too =
      let same : y ≡ x = cc in
      let tails : xs ++ c ∷ more ≡ ys ++ d ∷ others = cc in
      ap suc (one_full (after_again limits store x) xs ys c d more others tails a.1
      (subst (λ (z : Commit). RunsAgain limits (after_again limits store z) ys) same b.1) meets
      (subst (λ (z : Commit). MeetsLimit limits (after_all_again limits (after_again limits store z) ys) d) same too))

pub full_is_one : FullIsOne
full_is_one limits commits time other x y =
    x.place ∙ ap (λ (n : ℕ). n + 1) (one_full limits opening_store x.front y.front x.commit y.commit x.rest y.rest (sym x.split ∙ y.split) x.before y.before x.meets y.meets) ∙ sym y.place

pub full_is_not_run : FullIsNotRun
full_is_not_run limits commits time x runs = not_run limits opening_store x.front x.commit x.rest x.meets (subst (RunsAgain limits opening_store) x.split runs)

-- ---- room

all_below : (few many : ℕ) → few ≤ many → (cs : List Commit) → AllByRecursion (λ (c : Commit). c.session + 1 ≤ few) cs → AllByRecursion (λ (c : Commit). c.session + 1 ≤ many) cs
all_below few many low [] all = tt
all_below few many low (c ∷ cs) all = (let here = all.0 in omega (arith, here, low), all_below few many low cs all.1)

pub room_grows : RoomGrows
room_grows large small commits at_least room = record {
  sessions = all_below small.sessions large.sessions at_least.sessions commits room.sessions;
  each = λ s. let few = room.each s in let more = at_least.txns in omega (arith, few, more);
  keys = let few = room.keys in let more = at_least.ranges in omega (arith, few, more);
  writes = let few = room.writes in let more = at_least.tails in omega (arith, few, more);
}

-- ---- the same commits

same_replay : (table : Rows) (n : ℕ) (H L : List Commit) → SameWrites H L → replayed table (take n H) ≡ replayed table (take n L)
same_replay table zero H L same = refl
same_replay table (suc n) [] [] same = refl
same_replay table (suc n) [] (d ∷ L) same = absurd same
same_replay table (suc n) (c ∷ H) [] same = absurd same
same_replay table (suc n) (c ∷ H) (d ∷ L) same =
    ap (λ (ws : List Write). replayed (all_applied table ws) (take n H)) same.0 ∙ same_replay (all_applied table d.writes) n H L same.1

pub same_tables : SameTables
same_tables history commits time same = same_replay no_rows time history commits same

again_same_commits : (front : List Commit) (time : ℕ) (cs : List Commit) → SameCommits (again_behind front (numbered_from time cs)) cs
again_same_commits front time [] = tt
again_same_commits front time (c ∷ cs) = (refl, refl, again_same_commits (front ++ numbered_at time c ∷ []) (suc time) cs)

pub again_are_same : AgainAreSame
again_are_same commits time = again_same_commits [] time commits

pub same_have_writes : SameHaveWrites
same_have_writes [] [] same = tt
same_have_writes [] (d ∷ L) same = absurd same
same_have_writes (c ∷ H) [] same = absurd same
same_have_writes (c ∷ H) (d ∷ L) same = (same.1, same_have_writes H L same.2)

pub same_grows : SameGrows
same_grows [] [] c d same session writes = (session, writes, tt)
same_grows [] (y ∷ L) c d same session writes = absurd same
same_grows (x ∷ H) [] c d same session writes = absurd same
same_grows (x ∷ H) (y ∷ L) c d same session writes = (same.0, same.1, same_grows H L c d same.2 session writes)

numbered_are_same_from : (cs : List Commit) (time : ℕ) → SameCommits cs (numbered_from time cs)
numbered_are_same_from [] time = tt
numbered_are_same_from (c ∷ cs) time = (refl, refl, numbered_are_same_from cs (suc time))

pub numbered_are_same : NumberedAreSame
numbered_are_same commits time = numbered_are_same_from commits time

same_count : (H L : List Commit) → SameCommits H L → writes_in H ≡ writes_in L
same_count [] [] same = refl
same_count [] (d ∷ L) same = absurd same
same_count (c ∷ H) [] same = absurd same
same_count (c ∷ H) (d ∷ L) same = λ i. length (same.1 i) + same_count H L same.2 i

pub same_have_room : SameHaveRoom
same_have_room limits H L same room = record {
  sessions = same_sessions limits.sessions H L same room.sessions;
  each = λ s. let few = room.each s in let by = same_by s H L same in omega (arith, few, by);
  keys = let few = room.keys in subst (λ (keys : List ℕ). length keys ≤ 256 * limits.ranges) (same_keys [] H L same) few;
  writes = let few = room.writes in let by = same_count H L same in omega (arith, few, by);
}

-- ---- counts

module _ (limits : Limits) (s : ℕ) (known : s < limits.sessions) where
  writes_counted : (store : Store) (ws : List Write) → IsCounted limits store → IsCounted limits (after_writes limits store s ws)
  writes_counted store [] is = is
  writes_counted store (w ∷ ws) is = writes_counted (store_after limits store s (call_of w)) ws (calls_are_counted limits store s (call_of w) known is)

commit_again_counted : (limits : Limits) (store : Store) (c : Commit) → c.session < limits.sessions → IsCounted limits store → IsCounted limits (after_again limits store c)
commit_again_counted limits store c known is =
    let begun = calls_are_counted limits store c.session Begin known is in
    let made = writes_counted limits c.session known (store_after limits store c.session Begin) c.writes begun in
    calls_are_counted limits (after_writes limits (store_after limits store c.session Begin) c.session c.writes) c.session CommitCall known made

counted_from : (limits : Limits) (store : Store) (cs : List Commit) → RunsAgain limits store cs → IsCounted limits store → IsCounted limits (after_all_again limits store cs)
counted_from limits store [] runs is = is
counted_from limits store (c ∷ cs) runs is = counted_from limits (after_again limits store c) cs runs.1 (commit_again_counted limits store c (lt_of_not-le (λ beyond. runs.0 (inl beyond))) is)

pub again_is_counted : AgainIsCounted
again_is_counted limits commits runs = counted_from limits opening_store commits runs (opening_is_counted limits)
