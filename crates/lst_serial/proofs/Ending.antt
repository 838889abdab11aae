-- A commit that was checked is at its serial place, and one that is stale leaves its transaction open.
use Rattle.std.proofs.Common.{◌≡◌, ℕ, ◌+◌, ◌<◌, ◌≤◌, List, [], ◌∷◌, ◌++◌, Bool, true, length, refl, sym, subst, ap, ◌∙◌, arith, append_assoc, Result, Ok, Err}
use Rattle.std.specs.Prelude.{Some, None}
use Rattle.lst_model.specs.declared.acts.Write.{Write}
use Rattle.lst_model.specs.declared.commits.Commit.{Commit}
use Rattle.lst_model.specs.Histories.{Extends}
use Rattle.lst_core_state.specs.declared.facts.Find.TheVariants.{FreshClock}
use Rattle.lst_layout.specs.declared.place.Place.TheVariants.{CommitWord}
use Rattle.lst_core_state.specs.Writes.{commit}
use Rattle.lst_core_state.specs.declared.events.Event.TheVariants.{Give}
use Rattle.lst_rule.specs.declared.view.View.{View}
use Rattle.lst_rule.specs.Rule.{knows}
use Rattle.lst_rule.specs.Learned.{Made}
use Rattle.lst_rule.specs.declared.store.Store.{Store}
use Rattle.lst_session.specs.declared.kinds.Outcome.{Outcome}
use Rattle.lst_session.specs.declared.kinds.Outcome.TheVariants.{Committed, Ended}
use Rattle.lst_session.specs.declared.session.Session.{Session}
use Rattle.lst_session.specs.Passes.{IsReady}
use Rattle.lst_session.specs.Calls.{Ends, OnlyLooks, FindsNoneFull, FindsHeld}
use Rattle.lst_session.specs.Held.{HasSeenHistory, LooksStill, TakesTurn, CommitsNext}
use Rattle.lst_session.proofs.Growing.{none_full_on}
use Rattle.lst_session.proofs.Spending.{looks_same}
use Rattle.lst_session.proofs.Waiting.{held_looks, same_commit, commits_after}
use Rattle.lst_serial.proofs.Looking.{looks_on, still_same, still_on, takes_after, fresh_still, found_after}
use Rattle.lst_serial.specs.declared.keys.KeySet.{KeySet}
use Rattle.lst_serial.specs.declared.kinds.SerialCommit.{SerialCommit}
use Rattle.lst_serial.specs.declared.kinds.SerialEnd.{SerialEnd}
use Rattle.lst_serial.specs.declared.kinds.SerialEnd.TheVariants.{Idle, Stale}
use Rattle.lst_serial.specs.Waits.{Concludes, IsWaiting}
use Rattle.lst_serial.specs.Keys.{has}
use Rattle.lst_serial_laws.specs.Places.{IsInPlace}
use Rattle.lst_serial.specs.Serials.{IsStaleAt, SpendsOnCommit, GivesBackStale, CommitsInPlace, FindsStale}
use Rattle.lst_serial_laws.proofs.Placing.{unchanged_is_placed}

module _ (v held w : View) (s : ℕ) (keys : KeySet) (all : Bool) (time : ℕ) (takes : TakesTurn v held s) (whole : HasSeenHistory held s) where
  begin_is : (knows held s).begin ≡ (knows v s).begin
  begin_is = takes.looks.same.transaction.begin

  pub commits_in_place : SpendsOnCommit held w s keys all time → CommitsInPlace v w s keys all time
  commits_in_place p = record {
    commits = commits_after v p.asked w s looks room time p.commits.commits;
    held = held;
    takes = takes;
    whole = whole;
    unchanged = p.unchanged;
    next = next;
    seen = seen;
    place = λ history longer. subst (λ (b : ℕ). IsInPlace (has keys) all history b time) begin_is
        (subst (λ (t : ℕ). IsInPlace (has keys) all history (knows held s).begin t) (sym next)
        (subst (λ (h : List Commit). IsInPlace (has keys) all h (knows held s).begin (length (knows held s).seen + 1)) (sym (longer_is history longer))
        (unchanged_is_placed (has keys) all (knows held s).seen one longer.0 (knows held s).begin p.unchanged)));
  }
    where
      looks : OnlyLooks v p.asked s
      looks = looks_on v held p.asked s takes.looks p.still.looks

      room : FindsNoneFull v p.asked s
      room = none_full_on v held p.asked s takes.room p.still.room

      one : Commit
      one = commit s (knows v s).number (knows v s).begin (knows v s).own

      next : time ≡ length (knows held s).seen + 1
      next = p.commits.next ∙ ap (λ (h : List Commit). length h + 1) p.still.seen

      seen : (knows w s).seen ≡ (knows held s).seen ++ one ∷ []
      seen = p.commits.seen ∙ (λ i. p.still.seen i ++ same_commit v p.asked w s looks room i ∷ [])

      longer_is : (history : List Commit) → (longer : Extends history (knows w s).seen) → history ≡ (knows held s).seen ++ one ∷ longer.0
      longer_is history longer = longer.1 ∙ (ap (λ (h : List Commit). h ++ longer.0) seen ∙ append_assoc (knows held s).seen (one ∷ []) longer.0)

  pub finds_stale : 0 < length (knows v s).own → GivesBackStale held w s keys all time → FindsStale v w s keys all time
  finds_stale wrote g = record {
    looks = looks_on v held w s takes.looks g.still.looks;
    wrote = wrote;
    held = held;
    takes = takes;
    whole = whole;
    stale = g.stale;
    asked = g.asked;
    asks = g.asks;
    gives = g.gives;
    still = g.still;
    fresh = fresh_still v held w s takes g.still;
    room = none_full_on v held w s takes.room g.still.room;
  }

-- ---- after tries in vain

some_writes : (xs : List Write) → 0 < length xs → ¬ (xs ≡ [])
some_writes [] some e = absurd (omega arith)
some_writes (x ∷ xs) some e = cc

pub no_writes : (xs : List Write) → length xs ≤ 0 → xs ≡ []
no_writes [] none = refl
no_writes (x ∷ xs) none = absurd (omega arith)

pub not_tried : (store : Store) (before : Session) → IsReady store before → (knows before.seat.view before.number).is_open ≡ true → IsWaiting store before before
not_tried store before ready opened = record {
  ready = ready;
  number = refl;
  opened = opened;
  looks = looks_same before.seat.view before.number;
  room = (still_same before.seat.view before.number).room;
  unwritten = λ e. refl;
}

module _ (store : Store) (before session next : Session) (a : IsWaiting store before session) where
  pub waiting_on : IsReady store next → next.number ≡ session.number → FindsHeld session.seat.view next.seat.view session.number → IsWaiting store before next
  waiting_on ready number h = record {
    ready = ready;
    number = number ∙ a.number;
    opened = ap (λ (s : ℕ). (knows next.seat.view s).is_open) number ∙ (h.same.transaction.is_open ∙ a.opened);
    looks = looks_on before.seat.view session.seat.view next.seat.view before.number a.looks (held_looks session.seat.view next.seat.view before.number held);
    room = none_full_on before.seat.view session.seat.view next.seat.view before.number a.room held.room;
    unwritten = λ e. absurd (some_writes (knows session.seat.view before.number).own held.wrote (a.looks.same.own ∙ e));
  }
    where
      held : FindsHeld session.seat.view next.seat.view before.number
      held = subst (λ (s : ℕ). FindsHeld session.seat.view next.seat.view s) a.number h

  module _ (keys : KeySet) (all : Bool) where
    abbrev u : View
    u = before.seat.view

    abbrev v : View
    v = session.seat.view

    abbrev w : View
    w = next.seat.view

    abbrev s : ℕ
    s = before.number

    concluded : (end : Result Outcome SerialEnd) → Concludes session.seat.view next.seat.view before.number keys all end → Concludes before.seat.view next.seat.view before.number keys all end
    concluded (Ok (Committed time)) c = record {
      commits = commits_after u v w s a.looks a.room time c.commits;
      held = c.held;
      takes = takes_after u v c.held s a.looks a.room c.takes;
      whole = c.whole;
      unchanged = c.unchanged;
      next = c.next;
      seen = c.seen ∙ ap (λ (one : Commit). (knows c.held s).seen ++ one ∷ []) (same_commit u v w s a.looks a.room);
      place = λ history longer. subst (λ (b : ℕ). IsInPlace (has keys) all history b time) a.looks.same.transaction.begin (c.place history longer);
    }
    concluded (Ok (Ended time)) c = subst (λ (x : View). Concludes x w s keys all (Ok (Ended time))) (a.unwritten (sym a.looks.same.own ∙ c.1)) c
    concluded (Err Idle) c = c
    concluded (Err (Stale time)) c = record {
      looks = looks_on u v w s a.looks c.looks;
      wrote = subst (λ (ws : List Write). 0 < length ws) a.looks.same.own c.wrote;
      held = c.held;
      takes = takes_after u v c.held s a.looks a.room c.takes;
      whole = c.whole;
      stale = c.stale;
      asked = c.asked;
      asks = c.asks;
      gives = c.gives;
      still = c.still;
      fresh = found_after u v w s (FreshClock (length (knows w s).seen)) a.looks c.fresh;
      room = none_full_on u v w s a.room c.room;
    }

    pub end_after : (end : Result Outcome SerialEnd) → Concludes session.seat.view next.seat.view session.number keys all end → Concludes before.seat.view next.seat.view before.number keys all end
    end_after end c = concluded end (subst (λ (t : ℕ). Concludes session.seat.view next.seat.view t keys all end) a.number c)

-- the answers, read off what came of it
module _ (v w : View) (s : ℕ) (keys : KeySet) (all : Bool) (result : Result Outcome SerialEnd) (c : Concludes v w s keys all result) where
  pub end_committed : (time : ℕ) → result ≡ Ok (Committed time) → CommitsInPlace v w s keys all time
  end_committed time is = subst (Concludes v w s keys all) is c

  pub end_ended : (time : ℕ) → result ≡ Ok (Ended time) → (time ≡ (knows v s).begin) × ((knows v s).own ≡ []) × Ends v w s
  end_ended time is = subst (Concludes v w s keys all) is c

  pub end_stale : (time : ℕ) → result ≡ Err (Stale time) → FindsStale v w s keys all time
  end_stale time is = subst (Concludes v w s keys all) is c

  pub end_opened : ¬ (result ≡ Err Idle)
  end_opened is = subst (Concludes v w s keys all) is c

-- what comes of a try that ends the transaction
module _ (v w : View) (s : ℕ) (keys : KeySet) (all : Bool) where
  pub concludes : (outcome : Outcome) (result : Result Outcome SerialCommit) → result ≡ Ok outcome
      → ((time : ℕ) → result ≡ Ok (Committed time) → CommitsInPlace v w s keys all time)
      → ((time : ℕ) → result ≡ Ok (Ended time) → (time ≡ (knows v s).begin) × ((knows v s).own ≡ []) × Ends v w s)
      → Concludes v w s keys all (Ok outcome)
  concludes (Committed time) result is committed ended = committed time is
  concludes (Ended time) result is committed ended = ended time is

-- ---- with the turn in hand

module _ (v asked w : View) (s t : ℕ) (keys : KeySet) (all : Bool) (time : ℕ) (same : t ≡ s) (still : LooksStill v asked s) where
  pub gives_back : LooksStill asked w t → Made asked w (Give t) CommitWord 0 → IsStaleAt (knows v s) keys all (Some time) → GivesBackStale v w s keys all time
  gives_back back gives stale = record {
    asked = asked;
    asks = still;
    stale = stale;
    gives = subst (λ (n : ℕ). Made asked w (Give n) CommitWord 0) same gives;
    still = still_on v asked w s still (subst (λ (n : ℕ). LooksStill asked w n) same back);
  }

  pub spends : IsStaleAt (knows v s) keys all None → CommitsNext asked w t time → SpendsOnCommit v w s keys all time
  spends unchanged commits = record { asked = asked; still = still; unchanged = unchanged; commits = subst (λ (n : ℕ). CommitsNext asked w n time) same commits }

module _ (v held w : View) (s t : ℕ) (keys : KeySet) (all : Bool) (same : t ≡ s) (takes : TakesTurn v held s) (whole : HasSeenHistory held s) where
  pub settled_commit : (time : ℕ) → SpendsOnCommit held w t keys all time → CommitsInPlace v w s keys all time
  settled_commit time p = commits_in_place v held w s keys all time takes whole (subst (λ (n : ℕ). SpendsOnCommit held w n keys all time) same p)

  pub settled_stale : 0 < length (knows v s).own → (time : ℕ) → GivesBackStale held w t keys all time → FindsStale v w s keys all time
  settled_stale wrote time g = finds_stale v held w s keys all time takes whole wrote (subst (λ (n : ℕ). GivesBackStale held w n keys all time) same g)
