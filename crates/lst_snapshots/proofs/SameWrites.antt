-- A commit that may stand behind a history may stand behind each list with the same sessions and writes at the same times.
use Rattle.std.proofs.Common.{◌≡◌, ℕ, zero, suc, ◌+◌, ◌≤◌, ◌<◌, List, [], ◌∷◌, ◌++◌, length, take, refl, sym, ◌∙◌, ap, subst, arith}
use Rattle.std.specs.Prelude.{◌⊎◌}
use Rattle.lst_model.specs.declared.acts.Write.{Write}
use Rattle.lst_model.specs.declared.commits.Commit.{Commit}
use Rattle.lst_model.specs.Tables.{Rows, no_rows, all_applied, row_of}
use Rattle.lst_model.specs.Histories.{replayed, acts_on}
use Rattle.lst_model.specs.Soundness.{Fits, IsApart}
use Rattle.lst_snapshots.specs.Replays.{numbered_at, numbered_from, SameWrites, FollowsOver}

same_length : (H L : List Commit) → SameWrites H L → length H ≡ length L
same_length [] [] same = refl
same_length [] (d ∷ L) same = absurd same
same_length (c ∷ H) [] same = absurd same
same_length (c ∷ H) (d ∷ L) same = ap suc (same_length H L same.1)

same_numbered : (time : ℕ) (H L : List Commit) → SameWrites H L → SameWrites H (numbered_from time L)
same_numbered time [] [] same = tt
same_numbered time [] (d ∷ L) same = absurd same
same_numbered time (c ∷ H) [] same = absurd same
same_numbered time (c ∷ H) (d ∷ L) same = (same.0, same_numbered (suc time) H L same.1)

-- the same table at each time
same_replay : (table : Rows) (n : ℕ) (H L : List Commit) → SameWrites H L → replayed table (take n H) ≡ replayed table (take n L)
same_replay table zero H L same = refl
same_replay table (suc n) [] [] same = refl
same_replay table (suc n) [] (d ∷ L) same = absurd same
same_replay table (suc n) (c ∷ H) [] same = absurd same
same_replay table (suc n) (c ∷ H) (d ∷ L) same =
    ap (λ (ws : List Write). replayed (all_applied table ws) (take n H)) same.0 ∙ same_replay (all_applied table d.writes) n H L same.1

-- a commit of the one list stands at its time in the other
record StandsIn (H before between : List Commit) (earlier : Commit) : Type 0 where
  front : List Commit
  other : Commit
  rest : List Commit
  split : H ≡ front ++ other ∷ rest
  as_long : length front ≡ length before
  writes : other.writes ≡ earlier.writes

stands_in : (H before between : List Commit) (earlier : Commit) → SameWrites H (before ++ earlier ∷ between) → StandsIn H before between earlier
stands_in [] [] between earlier same = absurd same
stands_in [] (b ∷ before) between earlier same = absurd same
stands_in (c ∷ H) [] between earlier same = record { front = []; other = c; rest = H; split = refl; as_long = refl; writes = same.0 }
stands_in (c ∷ H) (b ∷ before) between earlier same =
    let found = stands_in H before between earlier same.1 in
    record { front = c ∷ found.front; other = found.other; rest = found.rest; split = ap (λ (cs : List Commit). c ∷ cs) found.split; as_long = ap suc found.as_long; writes = found.writes }

-- the number of a numbered commit is its time
number_at : (time : ℕ) (L before between : List Commit) (earlier : Commit) → numbered_from time L ≡ before ++ earlier ∷ between → (earlier.number ≡ length before + time) × (length before < length L)
number_at time [] [] between earlier e = absurd (cc)
number_at time [] (b ∷ before) between earlier e = absurd (cc)
number_at time (d ∷ L) [] between earlier e =
    let head : numbered_at time d ≡ earlier = cc in
    (sym (ap (λ (c : Commit). c.number) head) ∙ omega arith, omega arith)
number_at time (d ∷ L) (b ∷ before) between earlier e =
    let tail : numbered_from (suc time) L ≡ before ++ earlier ∷ between = cc in
    let more = number_at (suc time) L before between earlier tail in
    (more.0 ∙ omega arith, omega (arith, more.1))

pub follows_over : FollowsOver
follows_over H L c same follows =
    let N = numbered_from 1 L in
    let numbered : SameWrites H N = same_numbered 1 H L same in
    record {
      begin = subst (λ (n : ℕ). c.begin ≤ n) (same_length H N numbered) follows.begin;
      apart = λ before earlier between split overlaps.
          let found = stands_in H before between earlier (subst (SameWrites H) split numbered) in
          let apart : IsApart found.other c = follows.apart found.front found.other found.rest found.split (subst (λ (n : ℕ). c.begin < n + 1) (sym found.as_long) overlaps) in
          λ key. subst (λ (ws : List Write). (acts_on key ws ≡ []) ⊎ (acts_on key c.writes ≡ [])) found.writes (apart key);
      numbers = λ before earlier between split session.
          let place = number_at 1 L before between earlier split in
          omega (arith, place.0, place.1);
      fits = λ own write rest split.
          subst (λ (table : Rows). Fits (row_of (all_applied table own) write.key) write.act) (same_replay no_rows c.begin H N numbered) (follows.fits own write rest split);
    }
