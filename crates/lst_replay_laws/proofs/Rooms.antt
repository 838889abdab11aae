-- A whole commit run again, and room for all.
use Rattle.std.proofs.Common.{lt_of_not-le, ◌≡◌, ◌⊎◌, ℕ, ◌+◌, ◌*◌, ◌<◌, ◌≤◌, List, [], ◌∷◌, ◌++◌, length, refl, sym, ap, ◌∙◌, subst, arith, inl, inr, append_assoc, append-nil, length-append}
use Rattle.lst_layout.specs.declared.limits.Limits.{Limits}
use Rattle.lst_model.specs.declared.acts.Write.{Write}
use Rattle.lst_model.specs.declared.commits.Commit.{Commit}
use Rattle.lst_model.specs.declared.lines.Call.TheVariants.{Begin}
use Rattle.lst_model.specs.declared.replies.Reply.{Reply}
use Rattle.lst_model.specs.declared.replies.Reply.TheVariants.{Begun, Done, Refused}
use Rattle.lst_model.specs.declared.replies.Cause.TheVariants.{Spent, TableFull, TailFull}
use Rattle.lst_model.specs.Histories.{StandByKey}
use Rattle.lst_machine.specs.State.{Store}
use Rattle.lst_machine.specs.Calls.{call_reply, store_after}
use Rattle.lst_snapshots.specs.Replays.{MayFollow, FollowsLater}
use Rattle.lst_replay_laws.specs.Again.{call_of, after_writes, after_begun, after_again, commits_by, placed_by, placed_by_all, keys_written, writes_in}
use Rattle.lst_replay_laws.specs.Rests.{IsRested, IsUnderWay, IsFull, HasRoomFor}
use Rattle.lst_replay_laws.specs.Laws.{RestsAgain, RestedHasRoom, RoomMeetsNone}
use Rattle.lst_replay_laws.proofs.Lists.{all_at, commits_by-more, writes_in-split}
use Rattle.lst_replay_laws.proofs.Keys.{placed_by-split, placed_by_all-split, placed_by-length, placed_by_all-length}
use Rattle.lst_replay_laws.proofs.Steps.{begins_again, writes_again, commits_again}

not_full : (r : Reply) → r ≡ Done → IsFull r → ⊥
not_full r e full = subst IsFull e full

is_full : (r : Reply) → (r ≡ Refused TableFull) ⊎ (r ≡ Refused TailFull) → IsFull r
is_full r (inl e) = subst IsFull (sym e) tt
is_full r (inr e) = subst IsFull (sym e) tt

module _ (later : FollowsLater) (limits : Limits) (commits : List Commit) (c : Commit) (may : MayFollow commits c) (by_key : StandByKey c.writes) where
  abbrev s : ℕ
  s = c.session

  -- the writes are made one after the other, where none of them finds anything full
  made : (front ws : List Write) (store : Store) → c.writes ≡ front ++ ws → IsUnderWay limits commits s front store
      → ((done : List Write) (w : Write) (rest : List Write) → ws ≡ done ++ w ∷ rest → IsFull (call_reply limits (after_writes limits store s done) s (call_of w)) → ⊥)
      → IsUnderWay limits commits s (front ++ ws) (after_writes limits store s ws)
  made front [] store split is none = subst (λ (ws : List Write). IsUnderWay limits commits s ws store) (sym (append-nil front)) is
  made front (w ∷ ws) store split is none = at (made (front ++ w ∷ []) ws (store_after limits store s (call_of w)) (split ∙ sym (append_assoc front (w ∷ []) ws)))
      (writes_again later limits commits c front w ws store may by_key split is)
    where
      at : (IsUnderWay limits commits s (front ++ w ∷ []) (store_after limits store s (call_of w))
          → ((done : List Write) (x : Write) (rest : List Write) → ws ≡ done ++ x ∷ rest → IsFull (call_reply limits (after_writes limits (store_after limits store s (call_of w)) s done) s (call_of x)) → ⊥)
          → IsUnderWay limits commits s ((front ++ w ∷ []) ++ ws) (after_writes limits (store_after limits store s (call_of w)) s ws))
          → ((call_reply limits store s (call_of w) ≡ Done) × IsUnderWay limits commits s (front ++ w ∷ []) (store_after limits store s (call_of w)))
          ⊎ (((call_reply limits store s (call_of w) ≡ Refused TableFull) × (256 * limits.ranges < length (placed_by (keys_written commits) (front ++ w ∷ []))))
          ⊎ ((call_reply limits store s (call_of w) ≡ Refused TailFull) × (limits.tails ≤ writes_in commits + length front)))
          → IsUnderWay limits commits s (front ++ w ∷ ws) (after_writes limits store s (w ∷ ws))
      at rest_made (inl done) = subst (λ (xs : List Write). IsUnderWay limits commits s xs (after_writes limits store s (w ∷ ws))) (append_assoc front (w ∷ []) ws)
          (rest_made done.1 (λ more x rest e full. none (w ∷ more) x rest (ap (λ (xs : List Write). w ∷ xs) e) full))
      at rest_made (inr (inl full)) = absurd (none [] w ws refl (is_full _ (inl full.0)))
      at rest_made (inr (inr full)) = absurd (none [] w ws refl (is_full _ (inr full.0)))

  -- where there is room for all, none does
  module _ (more : List Commit) (room : HasRoomFor limits (commits ++ c ∷ more)) where
    keys_fit : (front : List Write) (w : Write) (rest : List Write) → c.writes ≡ front ++ w ∷ rest → length (placed_by (keys_written commits) (front ++ w ∷ [])) ≤ 256 * limits.ranges
    keys_fit front w rest split =
        let one = placed_by-length (placed_by (keys_written commits) (front ++ w ∷ [])) rest in
        let two = placed_by_all-length (placed_by (keys_written commits) c.writes) more in
        let joined : placed_by (placed_by (keys_written commits) (front ++ w ∷ [])) rest ≡ placed_by (keys_written commits) c.writes = sym (placed_by-split (keys_written commits) (front ++ w ∷ []) rest) ∙ ap (placed_by (keys_written commits)) (append_assoc front (w ∷ []) rest ∙ sym split) in
        let whole : keys_written (commits ++ c ∷ more) ≡ placed_by_all (placed_by (keys_written commits) c.writes) more = placed_by_all-split [] commits (c ∷ more) in
        let same = ap length joined in let all = ap length whole in let fit = room.keys in
        omega (arith, one, two, same, all, fit)

    writes_fit : (front : List Write) (w : Write) (rest : List Write) → c.writes ≡ front ++ w ∷ rest → writes_in commits + length front < limits.tails
    writes_fit front w rest split =
        let all = writes_in-split commits c more in
        let parts = ap length split ∙ length-append front (w ∷ rest) in let fit = room.writes in
        omega (arith, all, parts, fit)

    never : (front done : List Write) (w : Write) (rest : List Write) (store : Store) → c.writes ≡ front ++ (done ++ w ∷ rest) → IsUnderWay limits commits s front store → IsFull (call_reply limits (after_writes limits store s done) s (call_of w)) → ⊥
    never front [] w rest store split is full = at (writes_again later limits commits c front w rest store may by_key split is)
      where
        at : ((call_reply limits store s (call_of w) ≡ Done) × IsUnderWay limits commits s (front ++ w ∷ []) (store_after limits store s (call_of w)))
            ⊎ (((call_reply limits store s (call_of w) ≡ Refused TableFull) × (256 * limits.ranges < length (placed_by (keys_written commits) (front ++ w ∷ []))))
            ⊎ ((call_reply limits store s (call_of w) ≡ Refused TailFull) × (limits.tails ≤ writes_in commits + length front))) → ⊥
        at (inl done) = not_full _ done.0 full
        at (inr (inl f)) = let fit = keys_fit front w rest split in let big = f.1 in omega (arith, fit, big)
        at (inr (inr f)) = let fit = writes_fit front w rest split in let big = f.1 in omega (arith, fit, big)
    never front (d ∷ done) w rest store split is full = at
        (λ on. never (front ++ d ∷ []) done w rest (store_after limits store s (call_of d)) (split ∙ sym (append_assoc front (d ∷ []) (done ++ w ∷ rest))) on full)
        (writes_again later limits commits c front d (done ++ w ∷ rest) store may by_key split is)
      where
        at : (IsUnderWay limits commits s (front ++ d ∷ []) (store_after limits store s (call_of d)) → ⊥)
            → ((call_reply limits store s (call_of d) ≡ Done) × IsUnderWay limits commits s (front ++ d ∷ []) (store_after limits store s (call_of d)))
            ⊎ (((call_reply limits store s (call_of d) ≡ Refused TableFull) × (256 * limits.ranges < length (placed_by (keys_written commits) (front ++ d ∷ []))))
            ⊎ ((call_reply limits store s (call_of d) ≡ Refused TailFull) × (limits.tails ≤ writes_in commits + length front))) → ⊥
        at rest_never (inl made) = rest_never made.1
        at rest_never (inr (inl f)) = let fit = keys_fit front d (done ++ w ∷ rest) split in let big = f.1 in omega (arith, fit, big)
        at rest_never (inr (inr f)) = let fit = writes_fit front d (done ++ w ∷ rest) split in let big = f.1 in omega (arith, fit, big)

spent_not : (r : Reply) (n : ℕ) → r ≡ Begun n → r ≡ Refused Spent → ⊥
spent_not r n e f = let no : Begun n ≡ Refused Spent = sym e ∙ f in cc

pub rests_again : FollowsLater → RestsAgain
rests_again later limits commits c store is may by_key some free = at (begins_again limits commits store c.session (lt_of_not-le (λ beyond. free (inl beyond))) is)
  where
    at : ((call_reply limits store c.session Begin ≡ Begun (length commits)) × (commits_by c.session commits < limits.txns) × IsUnderWay limits commits c.session [] (store_after limits store c.session Begin))
        ⊎ ((call_reply limits store c.session Begin ≡ Refused Spent) × (limits.txns ≤ commits_by c.session commits)) → IsRested limits (commits ++ c ∷ []) (after_again limits store c)
    at (inl begun) = (commits_again limits commits c (after_begun limits store c.session c.writes) some
        (made later limits commits c may by_key [] c.writes (store_after limits store c.session Begin) refl begun.2 (λ done w rest e full. free (inr (inr (record { done = done; write = w; rest = rest; split = e; full = full })))))).1
    at (inr spent) = absurd (free (inr (inl spent.0)))

known_by : (limits : Limits) (commits : List Commit) (c : Commit) (more : List Commit) → HasRoomFor limits (commits ++ c ∷ more) → c.session < limits.sessions
known_by limits commits c more room = let low = all_at (λ (d : Commit). d.session + 1 ≤ limits.sessions) commits c more room.sessions in omega (arith, low)

pub rested_has_room : RestedHasRoom
rested_has_room limits commits store is = record {
  sessions = is.sessions;
  each = is.each;
  keys = subst (λ (keys : List ℕ). length keys ≤ 256 * limits.ranges) is.placed is.room;
  writes = omega arith;
}

pub room_meets_none : FollowsLater → RoomMeetsNone
room_meets_none later limits commits c more store is may by_key room (inl beyond) =
    let low = all_at (λ (d : Commit). d.session + 1 ≤ limits.sessions) commits c more room.sessions in omega (arith, low, beyond)
room_meets_none later limits commits c more store is may by_key room (inr (inl spent)) = at (begins_again limits commits store c.session (known_by limits commits c more room) is)
  where
    at : ((call_reply limits store c.session Begin ≡ Begun (length commits)) × (commits_by c.session commits < limits.txns) × IsUnderWay limits commits c.session [] (store_after limits store c.session Begin))
        ⊎ ((call_reply limits store c.session Begin ≡ Refused Spent) × (limits.txns ≤ commits_by c.session commits)) → ⊥
    at (inl begun) = spent_not _ (length commits) begun.0 spent
    at (inr f) = let most = room.each c.session in let one = commits_by-more commits c more in let high = f.1 in omega (arith, most, one, high)
room_meets_none later limits commits c more store is may by_key room (inr (inr found)) = at (begins_again limits commits store c.session (known_by limits commits c more room) is)
  where
    at : ((call_reply limits store c.session Begin ≡ Begun (length commits)) × (commits_by c.session commits < limits.txns) × IsUnderWay limits commits c.session [] (store_after limits store c.session Begin))
        ⊎ ((call_reply limits store c.session Begin ≡ Refused Spent) × (limits.txns ≤ commits_by c.session commits)) → ⊥
    at (inl begun) = never later limits commits c may by_key more room [] found.done found.write found.rest (store_after limits store c.session Begin) found.split begun.2 found.full
    at (inr f) = let most = room.each c.session in let one = commits_by-more commits c more in let high = f.1 in omega (arith, most, one, high)
