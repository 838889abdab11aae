-- What a transaction sees that is run again, and that its rival is not in the way.
use Rattle.std.proofs.Common.{◌≡◌, ℕ, suc, ◌+◌, ◌≤◌, Bool, true, false, cond, List, [], ◌∷◌, ◌++◌, length, refl, sym, ap, ◌∙◌, subst, arith, eq-eqb, inl, inr, ◌⊎◌}
use Rattle.std.proofs.lemmas.Bool.{ltb-true}
use Rattle.std.proofs.lemmas.List.{take_all}
use Rattle.std.specs.Prelude.{Option, Some, None, nat_lt, ◌==◌, ◌&&◌}
use Rattle.std.specs.List.{AllByRecursion}
use Rattle.std.specs.Ordering.{nat_cmp}
use Rattle.std.specs.FinMap.{get-empty}
use Rattle.lst_model.specs.declared.acts.Write.{Write}
use Rattle.lst_model.specs.declared.commits.Commit.{Commit}
use Rattle.lst_model.specs.declared.replies.Cause.TheVariants.{Newer, Unfinished}
use Rattle.lst_model.specs.Tables.{Rows, no_rows, all_applied, row_of}
use Rattle.lst_model.specs.Histories.{replayed, snapshot, acts_on, all_acts_on, row_from}
use Rattle.lst_model.specs.Soundness.{Fits}
use Rattle.lst_model.proofs.Folds.{get_all_applied, get_replayed}
use Rattle.lst_machine.specs.State.{Accepted}
use Rattle.lst_machine.specs.Writes.{time_of, last_where, conflict_at, conflict_with, is_placed}
use Rattle.lst_machine.proofs.Ordering.{last_passes}
use Rattle.lst_snapshots.specs.Replays.{numbered_at, numbered_from, MayFollow, FollowsLater}
use Rattle.lst_replay_laws.specs.Again.{all_again, placed_by, keys_written}
use Rattle.lst_replay_laws.specs.Rests.{IsCommitted}
use Rattle.lst_replay_laws.proofs.Lists.{again-length, again-replayed, numbered-replayed}
use Rattle.lst_replay_laws.proofs.Keys.{unwritten, unwritten_all, placed_front}

-- the rows that the transaction sees: those of all the commits, and then its own writes
pub seen_again : (commits : List Commit) (own : List Write) → snapshot (all_again commits) (length commits) own ≡ all_applied (replayed no_rows commits) own
seen_again commits own = ap (λ (table : Rows). all_applied table own)
    (ap (replayed no_rows) (take_all (length commits) (all_again commits) (let long = again-length [] commits in omega (arith, long))) ∙ again-replayed no_rows [] commits)

-- the next write of a commit that may follow fits them
pub fits_again : FollowsLater → (commits : List Commit) (c : Commit) (done : List Write) (w : Write) (rest : List Write) → MayFollow commits c → c.writes ≡ done ++ w ∷ rest → Fits (row_of (all_applied (replayed no_rows commits) done) w.key) w.act
fits_again follows_later commits c done w rest may split =
    let numbered : List Commit = numbered_from 1 commits in
    let later = follows_later numbered (numbered_at (length commits + 1) c) may in
    subst (λ (table : Rows). Fits (row_of (all_applied table done) w.key) w.act)
    (ap (replayed no_rows) (take_all (length numbered) numbered (omega arith)) ∙ numbered-replayed no_rows 1 commits)
    (later.fits done w rest split)

-- a key that has no record has no row
pub unplaced_is_absent : (commits : List Commit) (done : List Write) (q : ℕ) → is_placed (placed_by (keys_written commits) done) q ≡ false → row_of (all_applied (replayed no_rows commits) done) q ≡ None
unplaced_is_absent commits done q none =
    get_all_applied (replayed no_rows commits) done q
    ∙ ap (λ row. row_from row (acts_on q done)) (get_replayed no_rows commits q ∙ ap (λ row. row_from row (all_acts_on q commits)) (get-empty nat_cmp q))
    ∙ (λ i. row_from (row_from None (unwritten_all [] commits q (placed_front (keys_written commits) done q none) i)) (unwritten (keys_written commits) done q none i))

-- ---- conflicts

time_low : (history : List Commit) (s n time : ℕ) → time_of history s n ≡ Some time → time ≤ length history
time_low [] s n time e = absurd (cc)
time_low (first ∷ history) s n time e = at (first.session == s && first.number == n) refl (time_of history s n) refl (time_low history s n)
  where
    at : (b : Bool) → (first.session == s && first.number == n) ≡ b → (o : Option ℕ) → time_of history s n ≡ o → ((t : ℕ) → time_of history s n ≡ Some t → t ≤ length history) → time ≤ suc (length history)
    at true is o f low = let here : time_of (first ∷ history) s n ≡ Some 1 = rw is refl in let g : 1 ≡ time = cc (here, e) in omega arith
    at false is (Some t) f low = let here : time_of (first ∷ history) s n ≡ Some (t + 1) = rw (is, f) refl in let g : t + 1 ≡ time = cc (here, e) in let l = low t f in omega arith
    at false is None f low = let here : time_of (first ∷ history) s n ≡ None = rw (is, f) refl in absurd (cc (here, e))

-- no rival is in the way of a transaction that began at the last commit, where each write is committed or its own
pub none_in_way : (history : List Commit) (s begin : ℕ) (f : Accepted → Bool) (xs : List Accepted) → length history ≤ begin
    → AllByRecursion (λ (a : Accepted). IsCommitted history a.session a.number ⊎ (a.session ≡ s)) xs → conflict_with history s begin (last_where f xs) ≡ None
none_in_way history s begin f xs late all = at (last_where f xs) refl
  where
    clear : (r : Accepted) → IsCommitted history r.session r.number ⊎ (r.session ≡ s) → (o : Option ℕ) → time_of history r.session r.number ≡ o → conflict_at s begin r o ≡ None
    clear r is (Some time) e = before (nat_lt begin time) refl
      where
        before : (b : Bool) → nat_lt begin time ≡ b → cond b (Some (Newer time)) None ≡ None
        before true low = let below = ltb-true _ _ low in let few = time_low history r.session r.number time e in absurd (omega (arith, below, few, late))
        before false low = refl
    clear r (inl is) None e = let no : None ≡ Some is.0 = sym e ∙ is.1 in absurd (cc)
    clear r (inr is) None e = ap (λ b. cond b None (Some (Unfinished r.session r.number))) (eq-eqb r.session s is)

    at : (o : Option Accepted) → last_where f xs ≡ o → conflict_with history s begin o ≡ None
    at None e = refl
    at (Some r) e = let has = last_passes (λ (a : Accepted). IsCommitted history a.session a.number ⊎ (a.session ≡ s)) f xs all r e in clear r has.0 (time_of history r.session r.number) refl
