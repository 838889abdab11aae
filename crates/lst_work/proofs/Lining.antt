-- One line of a session that can do it: it isn't refused.
use Rattle.std.proofs.Common.{◌≡◌, ℕ, ◌+◌, ◌<◌, ◌≤◌, Bool, true, false, ◌&&◌, List, [], ◌∷◌, ◌++◌, length, map, Option, Some, None, IfSome, refl, sym, ap, subst, ◌∙◌, arith, append-nil}
use Rattle.std.specs.Prelude.{nat_le, is_some, IsSome, IsNone}
use Rattle.std.proofs.lemmas.Bool.{lt-leb}
use Rattle.std.proofs.lemmas.List.{map-append}
use Rattle.lst_layout.specs.declared.limits.Limits.{Limits}
use Rattle.lst_model.specs.Cells.{Cell}
use Rattle.lst_model.specs.declared.acts.Act.TheVariants.{Put, Set}
use Rattle.lst_model.specs.declared.acts.Write.{Write}
use Rattle.lst_model.specs.declared.commits.Commit.{Commit}
use Rattle.lst_model.specs.declared.lines.Call.{Call as CallKind}
use Rattle.lst_model.specs.declared.lines.Call.TheVariants.{Begin, AsOf, Get, Insert, Update, Delete, Sum, Count, Scan, Find, Commit as CommitCall, Abort}
use Rattle.lst_model.specs.declared.replies.Reply.{Reply}
use Rattle.lst_model.specs.declared.replies.Reply.TheVariants.{Begun, Done, Committed, Ended, Sum as SumReply, Count as CountReply, Refused}
use Rattle.lst_model.specs.declared.replies.Cause.TheVariants.{Idle, Active, ReadOnly, Spent, Future, Missing, Exists, TableFull, Latched, Newer, Unfinished, TailFull, NotIndexed, Stale}
use Rattle.lst_model.specs.Histories.{Extends, joined}
use Rattle.lst_model.specs.Soundness.{Fits}
use Rattle.lst_machine.specs.Calls.{first_of, where_true}
use Rattle.lst_core_state.specs.State.{commits_of}
use Rattle.lst_replies.specs.declared.states.Transaction.{Transaction}
use Rattle.lst_replies.specs.declared.states.SessionState.{SessionState}
use Rattle.lst_replies.specs.Runs.{commit_time, write_of}
use Rattle.lst_replies.specs.States.{after_call, commit_of, with_write as telling}
use Rattle.lst_replies.specs.Explained.{WriteIsAnswered, EndsBy, EndIsExact, state_cause, begin_cause, open_cause}
use Rattle.lst_replies.specs.ReplyKinds.{can_answer}
use Rattle.lst_work_laws.specs.Lines.{Tells}
use Rattle.lst_work_laws.specs.Laws.{commit_told}
use Rattle.lst_work.specs.Scripted.{Doing, with_own, with_write, with_committed, doing_after_call}
use Rattle.lst_work.proofs.Lists.{writes_in, Has, CommitsOwn}
use Rattle.lst_work.proofs.Going.{Can}
use Rattle.lst_work.proofs.Seeing.{Sees, sees_on, begun_behind, row_seen, not_newer}

-- ---- where a session is

-- no transaction is open, or the one that the session is told has the writes of the script
abbrev pub Opens : ℕ → List Commit → Option Transaction → Option (List Write) → Type 0
Opens j seen None None = Unit {0}
Opens j seen (Some t) (Some own) = Sees j seen t own
Opens j seen None (Some own) = ⊥
Opens j seen (Some t) None = ⊥

-- the session j, which is told that state and has seen that history, has done what its lines say
pub record Follows (j : ℕ) (d : Doing) (state : SessionState) (seen : List Commit) : Type 0 where
  pub begun : state.begun ≡ d.begun
  pub done : map writes_in (commits_of j seen) ≡ d.done
  pub opens : Opens j seen state.current d.current

-- the reply doesn't refuse a write for another session's line, or for want of place
abbrev pub IsFree : Reply → Type 0
IsFree (Refused Latched) = ⊥
IsFree (Refused (Unfinished session number)) = ⊥
IsFree (Refused TableFull) = ⊥
IsFree (Refused TailFull) = ⊥
IsFree reply = Unit {0}

abbrev pub EndsAs : Option (List Write) → ℕ → Reply → Type 0
EndsAs None time reply = ⊥
EndsAs (Some []) time reply = reply ≡ Ended time
EndsAs (Some (write ∷ own)) time reply = reply ≡ Committed time

-- the reply to a line that isn't refused
abbrev pub Succeeds : CallKind → Doing → Reply → Type 0
Succeeds Begin d reply = (time : ℕ) × (reply ≡ Begun time)
Succeeds (Insert key row) d reply = reply ≡ Done
Succeeds (Update key patch) d reply = reply ≡ Done
Succeeds (Sum column) d reply = (total : ℕ) × (reply ≡ SumReply total)
Succeeds Count d reply = (rows : ℕ) × (reply ≡ CountReply rows)
Succeeds CommitCall d reply = (time : ℕ) × EndsAs d.current time reply
Succeeds call d reply = ⊥

-- ---- a begin

begun_reply : (reply : Reply) → can_answer Begin reply ≡ true → state_cause reply ≡ None → (time : ℕ) × (reply ≡ Begun time)
begun_reply (Begun time) kind none = (time, refl)
begun_reply (Refused Active) kind none = cc
begun_reply (Refused Spent) kind none = cc
begun_reply (Refused Idle) kind none = cc
begun_reply (Refused ReadOnly) kind none = cc
begun_reply (Refused (Future clock)) kind none = cc
begun_reply (Refused Missing) kind none = cc
begun_reply (Refused Exists) kind none = cc
begun_reply (Refused TableFull) kind none = cc
begun_reply (Refused Latched) kind none = cc
begun_reply (Refused (Newer time)) kind none = cc
begun_reply (Refused (Unfinished session number)) kind none = cc
begun_reply (Refused TailFull) kind none = cc
begun_reply (Refused NotIndexed) kind none = cc
begun_reply (Refused (Stale time)) kind none = cc
begun_reply reply kind none = cc

inserted_reply : (key : ℕ) (row : List Cell) (reply : Reply) → can_answer (Insert key row) reply ≡ true → state_cause reply ≡ None → IsFree reply
    → ((time : ℕ) → reply ≡ Refused (Newer time) → ⊥) → (reply ≡ Refused Exists → ⊥) → reply ≡ Done
inserted_reply key row Done kind none free newer there = refl
inserted_reply key row (Refused Active) kind none free newer there = cc
inserted_reply key row (Refused Spent) kind none free newer there = cc
inserted_reply key row (Refused Idle) kind none free newer there = cc
inserted_reply key row (Refused ReadOnly) kind none free newer there = cc
inserted_reply key row (Refused (Future clock)) kind none free newer there = cc
inserted_reply key row (Refused Missing) kind none free newer there = cc
inserted_reply key row (Refused Exists) kind none free newer there = absurd (there refl)
inserted_reply key row (Refused TableFull) kind none free newer there = absurd free
inserted_reply key row (Refused Latched) kind none free newer there = absurd free
inserted_reply key row (Refused (Newer time)) kind none free newer there = absurd (newer time refl)
inserted_reply key row (Refused (Unfinished session number)) kind none free newer there = absurd free
inserted_reply key row (Refused TailFull) kind none free newer there = absurd free
inserted_reply key row (Refused NotIndexed) kind none free newer there = cc
inserted_reply key row (Refused (Stale time)) kind none free newer there = cc
inserted_reply key row reply kind none free newer there = cc

updated_reply : (key : ℕ) (patch : List (Option Cell)) (reply : Reply) → can_answer (Update key patch) reply ≡ true → state_cause reply ≡ None → IsFree reply
    → ((time : ℕ) → reply ≡ Refused (Newer time) → ⊥) → (reply ≡ Refused Missing → ⊥) → reply ≡ Done
updated_reply key patch Done kind none free newer there = refl
updated_reply key patch (Refused Active) kind none free newer there = cc
updated_reply key patch (Refused Spent) kind none free newer there = cc
updated_reply key patch (Refused Idle) kind none free newer there = cc
updated_reply key patch (Refused ReadOnly) kind none free newer there = cc
updated_reply key patch (Refused (Future clock)) kind none free newer there = cc
updated_reply key patch (Refused Missing) kind none free newer there = absurd (there refl)
updated_reply key patch (Refused Exists) kind none free newer there = cc
updated_reply key patch (Refused TableFull) kind none free newer there = absurd free
updated_reply key patch (Refused Latched) kind none free newer there = absurd free
updated_reply key patch (Refused (Newer time)) kind none free newer there = absurd (newer time refl)
updated_reply key patch (Refused (Unfinished session number)) kind none free newer there = absurd free
updated_reply key patch (Refused TailFull) kind none free newer there = absurd free
updated_reply key patch (Refused NotIndexed) kind none free newer there = cc
updated_reply key patch (Refused (Stale time)) kind none free newer there = cc
updated_reply key patch reply kind none free newer there = cc

summed_reply : (column : ℕ) (reply : Reply) → can_answer (Sum column) reply ≡ true → state_cause reply ≡ None → (total : ℕ) × (reply ≡ SumReply total)
summed_reply column (SumReply total) kind none = (total, refl)
summed_reply column (Refused Active) kind none = cc
summed_reply column (Refused Spent) kind none = cc
summed_reply column (Refused Idle) kind none = cc
summed_reply column (Refused ReadOnly) kind none = cc
summed_reply column (Refused (Future clock)) kind none = cc
summed_reply column (Refused Missing) kind none = cc
summed_reply column (Refused Exists) kind none = cc
summed_reply column (Refused TableFull) kind none = cc
summed_reply column (Refused Latched) kind none = cc
summed_reply column (Refused (Newer time)) kind none = cc
summed_reply column (Refused (Unfinished session number)) kind none = cc
summed_reply column (Refused TailFull) kind none = cc
summed_reply column (Refused NotIndexed) kind none = cc
summed_reply column (Refused (Stale time)) kind none = cc
summed_reply column reply kind none = cc

counted_reply : (reply : Reply) → can_answer Count reply ≡ true → state_cause reply ≡ None → (rows : ℕ) × (reply ≡ CountReply rows)
counted_reply (CountReply rows) kind none = (rows, refl)
counted_reply (Refused Active) kind none = cc
counted_reply (Refused Spent) kind none = cc
counted_reply (Refused Idle) kind none = cc
counted_reply (Refused ReadOnly) kind none = cc
counted_reply (Refused (Future clock)) kind none = cc
counted_reply (Refused Missing) kind none = cc
counted_reply (Refused Exists) kind none = cc
counted_reply (Refused TableFull) kind none = cc
counted_reply (Refused Latched) kind none = cc
counted_reply (Refused (Newer time)) kind none = cc
counted_reply (Refused (Unfinished session number)) kind none = cc
counted_reply (Refused TailFull) kind none = cc
counted_reply (Refused NotIndexed) kind none = cc
counted_reply (Refused (Stale time)) kind none = cc
counted_reply reply kind none = cc

-- ---- what a line leaves

pub record Passed (j : ℕ) (call : CallKind) (reply : Reply) (d : Doing) (state : SessionState) (new : List Commit) : Type 0 where
  pub succeeds : Succeeds call d reply
  pub follows : Follows j (doing_after_call call d) (after_call call reply state) new

pub closed_of : (j : ℕ) (seen : List Commit) (c : Option Transaction) (o : Option (List Write)) → o ≡ None → Opens j seen c o → c ≡ None
closed_of j seen None None e h = refl
closed_of j seen (Some t) None e h = absurd h
closed_of j seen None (Some own) e h = absurd h
closed_of j seen (Some t) (Some own) e h = cc

record Opened (j : ℕ) (seen : List Commit) (c : Option Transaction) (own : List Write) : Type 0 where
  pub t : Transaction
  pub is : c ≡ Some t
  pub sees : Sees j seen t own

open_of : (j : ℕ) (seen : List Commit) (c : Option Transaction) (o : Option (List Write)) (own : List Write) → o ≡ Some own → Opens j seen c o → Opened j seen c own
open_of j seen None None own e h = cc
open_of j seen None (Some x) own e h = absurd h
open_of j seen (Some t) None own e h = cc
open_of j seen (Some t) (Some x) own e h = record { t = t; is = refl; sees = subst (λ (o : Option (List Write)). Opens j seen (Some t) o) e h }

no_put : (r : Option (List Cell)) (row : List Cell) → IsSome r → Fits r (Put row) → ⊥
no_put None row some fits = cc
no_put (Some old) row some fits = absurd fits

no_set : (r : Option (List Cell)) (patch : List (Option Cell)) → IsNone r → Fits r (Set patch) → ⊥
no_set None patch none fits = absurd fits
no_set (Some old) patch none fits = cc

module _ (l : Limits) (n j : ℕ) (d : Doing) (state : SessionState) (old new : List Commit) (e : Extends new old) (owns : CommitsOwn n new) (f : Follows j d state old) where
  abbrev Told : CallKind → Reply → Type 0
  Told call reply = (floor : ℕ) → floor ≤ length old → Tells l new floor state call reply

  abbrev Mine : Reply → Type 0
  Mine reply = commits_of j new ≡ commits_of j old ++ commit_told j (commit_time reply) state.current

  -- a reply that tells no commit
  same_by : (reply : Reply) → commit_time reply ≡ None → Mine reply → commits_of j new ≡ commits_of j old
  same_by reply none mine = mine ∙ (ap (λ (o : Option ℕ). commits_of j old ++ commit_told j o state.current) none ∙ append-nil (commits_of j old))

  opens_on : (c : Option Transaction) (o : Option (List Write)) → commits_of j new ≡ commits_of j old → Opens j old c o → Opens j new c o
  opens_on None None same h = tt
  opens_on (Some t) (Some own) same h = sees_on j old new t own e same h
  opens_on None (Some own) same h = absurd h
  opens_on (Some t) None same h = absurd h

  -- a line that changes nothing
  still : commits_of j new ≡ commits_of j old → Follows j d state new
  still same = record { begun = f.begun; done = ap (map writes_in) same ∙ f.done; opens = opens_on state.current d.current same f.opens }

  -- ---- a begin

  begun_passed : (time : ℕ) → Told Begin (Begun time) → Mine (Begun time) → Passed j Begin (Begun time) d state new
  begun_passed time told mine = let times = (told (length old) (omega arith)).times in let same = same_by (Begun time) refl mine in record {
    succeeds = (time, refl);
    follows = record {
      begun = ap (λ x. x + 1) f.begun;
      done = ap (map writes_in) same ∙ f.done;
      opens = record { writes = refl; free = refl; begin = times.1; upto = begun_behind j time old new e same times.0 };
    };
  }

  begin_passes : (reply : Reply) → Can l.txns n j Begin d → can_answer Begin reply ≡ true → Told Begin reply → Mine reply → Passed j Begin reply d state new
  begin_passes reply can kind told mine =
      let closed = closed_of j old state.current d.current can.0 f.opens in
      let low : state.begun < l.txns = subst (λ (k : ℕ). k < l.txns) (sym f.begun) can.1 in
      let none : begin_cause l state ≡ None =
      ap (λ (c : Option Transaction). first_of (where_true (is_some c) Active ∷ where_true (nat_le l.txns state.begun) Spent ∷ [])) closed
      ∙ ap (λ (b : Bool). first_of (None ∷ where_true b Spent ∷ [])) (lt-leb l.txns state.begun low) in
      let r = begun_reply reply kind ((told 0 (omega arith)).refusals.refusal ∙ none) in
      subst (λ (q : Reply). Passed j Begin q d state new) (sym r.1)
      (begun_passed r.0 (subst (λ (q : Reply). Told Begin q) r.1 told) (subst (λ (q : Reply). Mine q) r.1 mine))

  -- ---- reads

  open_none : (own : List Write) (o : Opened j old state.current own) → (writes : Bool) → open_cause writes state.current ≡ None
  open_none own o writes = ap (open_cause writes) o.is ∙ (ap (λ (b : Bool). where_true (writes && b) ReadOnly) o.sees.free ∙ never writes)
    where
      never : (b : Bool) → where_true (b && false) ReadOnly ≡ None
      never true = refl
      never false = refl

  sum_passes : (column : ℕ) (reply : Reply) → Can l.txns n j (Sum column) d → can_answer (Sum column) reply ≡ true → Told (Sum column) reply → Mine reply → Passed j (Sum column) reply d state new
  sum_passes column reply can kind told mine =
      let o = open_of j old state.current d.current can.0 can.1 f.opens in
      let r = summed_reply column reply kind ((told 0 (omega arith)).refusals.refusal ∙ open_none can.0 o false) in
      subst (λ (q : Reply). Passed j (Sum column) q d state new) (sym r.1)
      record { succeeds = (r.0, refl); follows = still (same_by (SumReply r.0) refl (subst (λ (q : Reply). Mine q) r.1 mine)) }

  count_passes : (reply : Reply) → Can l.txns n j Count d → can_answer Count reply ≡ true → Told Count reply → Mine reply → Passed j Count reply d state new
  count_passes reply can kind told mine =
      let o = open_of j old state.current d.current can.0 can.1 f.opens in
      let r = counted_reply reply kind ((told 0 (omega arith)).refusals.refusal ∙ open_none can.0 o false) in
      subst (λ (q : Reply). Passed j Count q d state new) (sym r.1)
      record { succeeds = (r.0, refl); follows = still (same_by (CountReply r.0) refl (subst (λ (q : Reply). Mine q) r.1 mine)) }

  -- ---- writes

  -- a write that was accepted joins those of the transaction
  written : (w : Write) (own : List Write) → d.current ≡ Some own → Opened j old state.current own → commits_of j new ≡ commits_of j old
      → Follows j (with_write w d) (record state { current = telling (Some w) state.current }) new
  written w own is o same = let s = sees_on j old new o.t own e same o.sees in record {
    begun = f.begun;
    done = ap (map writes_in) same ∙ f.done;
    opens = subst (λ (c : Option Transaction). Opens j new (telling (Some w) c) (with_own w d.current)) (sym o.is)
        (subst (λ (x : Option (List Write)). Opens j new (telling (Some w) (Some o.t)) (with_own w x)) (sym is)
        record { writes = ap (λ (ws : List Write). joined ws w) s.writes; free = s.free; begin = s.begin; upto = s.upto });
  }

  answered_at : (w : Write) (own : List Write) (o : Opened j old state.current own) (reply : Reply) → IfSome state.current (λ t. WriteIsAnswered new t w reply) → WriteIsAnswered new o.t w reply
  answered_at w own o reply h = subst (λ (c : Option Transaction). IfSome c (λ t. WriteIsAnswered new t w reply)) o.is h

  free_at : (own : List Write) (o : Opened j old state.current own) (reply : Reply) → IfSome state.current (λ (t : Transaction). IsFree reply) → IsFree reply
  free_at own o reply h = subst (λ (c : Option Transaction). IfSome c (λ (t : Transaction). IsFree reply)) o.is h

  never_newer : (w : Write) (own : List Write) (o : Opened j old state.current own) → Has n j w.key → (reply : Reply) → Mine reply → WriteIsAnswered new o.t w reply → (time : ℕ) → reply ≡ Refused (Newer time) → ⊥
  never_newer w own o has reply mine h time is =
      let same = same_by (Refused (Newer time)) refl (subst (λ (q : Reply). Mine q) is mine) in
      let told : WriteIsAnswered new o.t w (Refused (Newer time)) = subst (λ (q : Reply). WriteIsAnswered new o.t w q) is h in
      not_newer n j old new o.t own e owns o.sees time w.key same has told.0 told.1

  insert_passes : (key : ℕ) (row : List Cell) (reply : Reply) → Can l.txns n j (Insert key row) d → can_answer (Insert key row) reply ≡ true → IfSome state.current (λ (t : Transaction). IsFree reply)
      → Told (Insert key row) reply → Mine reply → Passed j (Insert key row) reply d state new
  insert_passes key row reply can kind free told mine =
      let w : Write = record { key = key; act = Put row } in
      let o = open_of j old state.current d.current can.own can.is f.opens in
      let t0 = told 0 (omega arith) in
      let h = answered_at w can.own o reply t0.writes in
      let r = inserted_reply key row reply kind (t0.refusals.refusal ∙ open_none can.own o true) (free_at can.own o reply free) (never_newer w can.own o can.has reply mine h)
      (λ is. no_put _ row (subst (λ (r : Option (List Cell)). IsSome r) (row_seen n j old new o.t can.own e owns o.sees key d.done f.done can.has) (subst (λ (q : Reply). WriteIsAnswered new o.t w q) is h)) can.fits) in
      subst (λ (q : Reply). Passed j (Insert key row) q d state new) (sym r)
      record { succeeds = refl; follows = written w can.own can.is o (same_by Done refl (subst (λ (q : Reply). Mine q) r mine)) }

  update_passes : (key : ℕ) (patch : List (Option Cell)) (reply : Reply) → Can l.txns n j (Update key patch) d → can_answer (Update key patch) reply ≡ true → IfSome state.current (λ (t : Transaction). IsFree reply)
      → Told (Update key patch) reply → Mine reply → Passed j (Update key patch) reply d state new
  update_passes key patch reply can kind free told mine =
      let w : Write = record { key = key; act = Set patch } in
      let o = open_of j old state.current d.current can.own can.is f.opens in
      let t0 = told 0 (omega arith) in
      let h = answered_at w can.own o reply t0.writes in
      let r = updated_reply key patch reply kind (t0.refusals.refusal ∙ open_none can.own o true) (free_at can.own o reply free) (never_newer w can.own o can.has reply mine h)
      (λ is. no_set _ patch (subst (λ (r : Option (List Cell)). IsNone r) (row_seen n j old new o.t can.own e owns o.sees key d.done f.done can.has) (subst (λ (q : Reply). WriteIsAnswered new o.t w q) is h)) can.fits) in
      subst (λ (q : Reply). Passed j (Update key patch) q d state new) (sym r)
      record { succeeds = refl; follows = written w can.own can.is o (same_by Done refl (subst (λ (q : Reply). Mine q) r mine)) }

  -- ---- an end

  ended : (time : ℕ) → d.current ≡ Some [] → Mine (Ended time) → Passed j CommitCall (Ended time) d state new
  ended time is mine = let same = same_by (Ended time) refl mine in record {
    succeeds = (time, subst (λ (x : Option (List Write)). EndsAs x time (Ended time)) (sym is) refl);
    follows = record { begun = f.begun; done = ap (map writes_in) same ∙ (f.done ∙ sym (ap (λ (x : Option (List Write)). with_committed x d.done) is)); opens = tt };
  }

  committed : (time : ℕ) (w : Write) (own : List Write) → d.current ≡ Some (w ∷ own) → Opened j old state.current (w ∷ own) → Mine (Committed time) → Passed j CommitCall (Committed time) d state new
  committed time w own is o mine =
      let more : commits_of j new ≡ commits_of j old ++ commit_of j o.t ∷ [] = mine ∙ ap (λ (c : Option Transaction). commits_of j old ++ commit_told j (Some time) c) o.is in record {
        succeeds = (time, subst (λ (x : Option (List Write)). EndsAs x time (Committed time)) (sym is) refl);
        follows = record {
          begun = f.begun;
          done = ap (map writes_in) more ∙ (map-append writes_in (commits_of j old) (commit_of j o.t ∷ []) ∙ (ap (λ (ws : List (List Write)). ws ++ o.t.writes ∷ []) f.done
              ∙ (ap (λ (ws : List Write). d.done ++ ws ∷ []) o.sees.writes ∙ sym (ap (λ (x : Option (List Write)). with_committed x d.done) is))));
          opens = tt;
        };
      }

  by_writes : (own : List Write) (reply : Reply) → d.current ≡ Some own → Opened j old state.current own → (begin : ℕ) → EndsBy begin own reply → Mine reply → Passed j CommitCall reply d state new
  by_writes [] reply is o begin ends mine = subst (λ (q : Reply). Passed j CommitCall q d state new) (sym ends) (ended begin is (subst (λ (q : Reply). Mine q) ends mine))
  by_writes (w ∷ own) reply is o begin ends mine = subst (λ (q : Reply). Passed j CommitCall q d state new) (sym ends.1) (committed ends.0 w own is o (subst (λ (q : Reply). Mine q) ends.1 mine))

  commit_passes : (reply : Reply) → Can l.txns n j CommitCall d → EndIsExact state.current CommitCall reply → Mine reply → Passed j CommitCall reply d state new
  commit_passes reply can ends mine =
      let o = open_of j old state.current d.current can.0 can.1 f.opens in
      let exact : EndIsExact (Some o.t) CommitCall reply = subst (λ (c : Option Transaction). EndIsExact c CommitCall reply) o.is ends in
      by_writes can.0 reply can.1 o o.t.begin (subst (λ (ws : List Write). EndsBy o.t.begin ws reply) o.sees.writes exact) mine

  -- ---- any of them

  pub call_passes : (call : CallKind) (reply : Reply) → Can l.txns n j call d → can_answer call reply ≡ true → IfSome state.current (λ (t : Transaction). IfSome (write_of call) (λ (w : Write). IsFree reply))
      → EndIsExact state.current call reply → Told call reply → Mine reply → Passed j call reply d state new
  call_passes Begin reply can kind free ends told mine = begin_passes reply can kind told mine
  call_passes (Insert key row) reply can kind free ends told mine = insert_passes key row reply can kind free told mine
  call_passes (Update key patch) reply can kind free ends told mine = update_passes key patch reply can kind free told mine
  call_passes (Sum column) reply can kind free ends told mine = sum_passes column reply can kind told mine
  call_passes Count reply can kind free ends told mine = count_passes reply can kind told mine
  call_passes CommitCall reply can kind free ends told mine = commit_passes reply can ends mine
  call_passes (AsOf time) reply can kind free ends told mine = absurd can
  call_passes (Get key) reply can kind free ends told mine = absurd can
  call_passes (Delete key) reply can kind free ends told mine = absurd can
  call_passes Scan reply can kind free ends told mine = absurd can
  call_passes (Find column value) reply can kind free ends told mine = absurd can
  call_passes Abort reply can kind free ends told mine = absurd can

-- nothing of its own was done
pub follows_on : (j : ℕ) (d : Doing) (state : SessionState) (old new : List Commit) → Extends new old → commits_of j new ≡ commits_of j old → Follows j d state old → Follows j d state new
follows_on j d state old new e same f = record { begun = f.begun; done = ap (map writes_in) same ∙ f.done; opens = opens_same state.current d.current f.opens }
  where
    opens_same : (c : Option Transaction) (o : Option (List Write)) → Opens j old c o → Opens j new c o
    opens_same None None h = tt
    opens_same (Some t) (Some own) h = sees_on j old new t own e same h
    opens_same None (Some own) h = absurd h
    opens_same (Some t) None h = absurd h
