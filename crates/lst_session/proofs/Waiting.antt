-- What comes of tries to commit that find the commit word held, and of the one after them.
use Rattle.std.proofs.Common.{◌≡◌, ℕ, zero, suc, ◌<◌, List, [], ◌∷◌, ◌++◌, true, false, length, Option, Result, Ok, Err, IfOk, OnErr, refl, sym, subst, ap, ◌∙◌, arith, append_assoc}
use Rattle.lst_model.specs.declared.acts.Write.{Write}
use Rattle.lst_model.specs.declared.commits.Commit.{Commit}
use Rattle.lst_model.specs.Cells.{Cell}
use Rattle.lst_core_state.specs.Writes.{commit}
use Rattle.lst_core_state.specs.declared.known.Known.{Known}
use Rattle.lst_core_state.specs.declared.facts.Find.{Find}
use Rattle.lst_core_state.proofs.Histories.{starts_trans, starts_length}
use Rattle.lst_rule.specs.declared.view.View.{View}
use Rattle.lst_rule.specs.declared.store.Store.{Store}
use Rattle.lst_rule.specs.Rule.{knows}
use Rattle.lst_rule.proofs.Learning.{learns_on}
use Rattle.lst_txn.specs.declared.ends.Idle.{Idle}
use Rattle.lst_session.specs.declared.kinds.Outcome.{Outcome}
use Rattle.lst_session.specs.declared.kinds.Outcome.TheVariants.{Committed, Ended}
use Rattle.lst_session.specs.declared.session.Session.{Session}
use Rattle.lst_session.specs.Calls.{Called, SameLists, Gets, OnlyLooks, FindsNoneFull, FindsHeld, Commits}
use Rattle.lst_session.specs.Passes.{IsReady}
use Rattle.lst_session.specs.Waits.{TriesInVain, Concludes, ConcludesAtLast, IsWaiting}
use Rattle.lst_session.proofs.Growing.{none_full_on}
use Rattle.lst_session.proofs.Keeping.{called_same}

-- ---- two calls, one after the other

pub called_on : (u v w : View) (s : ℕ) → Called u v s → Called v w s → Called u w s
called_on u v w s a b = record {
  learns = learns_on u v w s (knows v s) (knows w s) a.learns b.learns;
  seen = starts_trans (knows w s).seen (knows v s).seen (knows u s).seen b.seen a.seen;
  facts = λ f h. b.facts f (a.facts f h);
  finds = (a.finds.0 ++ b.finds.0, b.finds.1 ∙ (ap (λ (fs : List Find). fs ++ b.finds.0) a.finds.1 ∙ append_assoc (knows u s).finds a.finds.0 b.finds.0));
}

pub lists_on : (u k m : Known) → SameLists u k → SameLists k m → SameLists u m
lists_on u k m a b = record { drawn = b.drawn ∙ a.drawn; latched = b.latched ∙ a.latched; done = b.done ∙ a.done }

pub get_called : (v w : View) (s key : ℕ) (result : Result (Option (List Cell)) Idle) → IfOk result (λ row. ((knows v s).is_open ≡ true) × Gets v w s key row) → OnErr result (((knows v s).is_open ≡ false) × (w ≡ v)) → Called v w s
get_called v w s key (Ok row) ok err = ok.1.called
get_called v w s key (Err none) ok err = called_same v w s err.1

-- ---- calls that only look, and then the commit

-- a commit word that was found held was looked at
pub held_looks : (v w : View) (s : ℕ) → FindsHeld v w s → OnlyLooks v w s
held_looks v w s h = record { called = h.called; same = h.same; pins = h.pins; lists = h.lists }

module _ (u v w : View) (s : ℕ) (a : OnlyLooks u v s) (room : FindsNoneFull u v s) where
  pub same_commit : commit s (knows v s).number (knows v s).begin (knows v s).own ≡ commit s (knows u s).number (knows u s).begin (knows u s).own
  same_commit = λ i. commit s (a.same.transaction.number i) (a.same.transaction.begin i) (a.same.own i)

  pub commits_after : (time : ℕ) → Commits v w s time → Commits u w s time
  commits_after time b = record {
    called = called_on u v w s a.called b.called;
    lists = lists_on (knows u s) (knows v s) (knows w s) a.lists b.lists;
    ended = record { number = b.ended.number ∙ a.same.transaction.number; is_open = b.ended.is_open };
    unpinned = record { pins = b.unpinned.pins ∙ a.pins.pins; pin = b.unpinned.pin };
    order = let o = b.order in record {
      over = o.over;
      called = called_on u v o.over s a.called o.called;
      ended = record { number = o.ended.number ∙ a.same.transaction.number; is_open = o.ended.is_open };
      pins = record { pins = o.pins.pins ∙ a.pins.pins; pin = o.pins.pin ∙ a.pins.pin };
      unpins = o.unpins;
    };
    wrote = subst (λ (ws : List Write). 0 < length ws) a.same.own b.wrote;
    own = b.own;
    above = (let h = starts_length (knows v s).seen (knows u s).seen a.called.seen in let above = b.above in omega arith);
    before = b.before;
    place = b.place;
    seen = b.seen ∙ ap (λ (c : Commit). b.before ++ c ∷ []) same_commit;
    mine = b.mine ∙ λ i. a.same.mine i ++ same_commit i ∷ [];
    room = none_full_on u v w s room b.room;
  }

some_writes : (xs : List Write) → 0 < length xs → ¬ (xs ≡ [])
some_writes [] some e = absurd (omega arith)
some_writes (x ∷ xs) some e = cc

-- ---- tries in vain, and then the end

pub commits_at_last : (v m w : View) (s time n : ℕ) → TriesInVain v m s n → Commits m w s time → Commits v w s time
commits_at_last v m w s time zero same c = subst (λ (x : View). Commits x w s time) same c
commits_at_last v m w s time (suc n) t c = commits_at_last v t.0 w s time n t.1 (commits_after t.0 m w s (held_looks t.0 m s t.2) t.2.room time c)

-- without writes no try is in vain
none_in_vain : (v m : View) (s n : ℕ) → TriesInVain v m s n → (knows m s).own ≡ [] → m ≡ v
none_in_vain v m s zero same none = same
none_in_vain v m s (suc n) t none = absurd (some_writes (knows t.0 s).own t.2.wrote (sym t.2.same.own ∙ none))

concludes_at_last : (v m w : View) (s n : ℕ) (outcome : Outcome) → TriesInVain v m s n → Concludes m w s outcome → Concludes v w s outcome
concludes_at_last v m w s n (Committed time) tried c = commits_at_last v m w s time n tried c
concludes_at_last v m w s n (Ended time) tried c = subst (λ (x : View). Concludes x w s (Ended time)) (none_in_vain v m s n tried c.1) c

pub at_last : (v m w : View) (s n : ℕ) (outcome : Outcome) → TriesInVain v m s n → Concludes m w s outcome → ConcludesAtLast v w s outcome
at_last v m w s n outcome tried c = record { concludes = concludes_at_last v m w s n outcome tried c; vain = n; last = m; tried = tried; at_last = c }

-- ---- of sessions

pub at_once : (before after : Session) (outcome : Outcome) → Concludes before.seat.view after.seat.view before.number outcome → ConcludesAtLast before.seat.view after.seat.view before.number outcome
at_once before after outcome c = at_last before.seat.view before.seat.view after.seat.view before.number 0 outcome refl c

pub end_after : (store : Store) (before session after : Session) (outcome : Outcome) → IsWaiting store before session → Concludes session.seat.view after.seat.view session.number outcome
    → ConcludesAtLast before.seat.view after.seat.view before.number outcome
end_after store before session after outcome a c = at_last before.seat.view session.seat.view after.seat.view before.number a.vain outcome a.tried
    (subst (λ (s : ℕ). Concludes session.seat.view after.seat.view s outcome) a.number c)

-- one more was in vain
module _ (store : Store) (before session after : Session) (ready : IsReady store after) (number : after.number ≡ session.number) where
  open_still : (knows session.seat.view session.number).is_open ≡ true → FindsHeld session.seat.view after.seat.view session.number → (knows after.seat.view after.number).is_open ≡ true
  open_still opened held = ap (λ (s : ℕ). (knows after.seat.view s).is_open) number ∙ (held.same.transaction.is_open ∙ opened)

  pub waiting_on : IsWaiting store before session → FindsHeld session.seat.view after.seat.view session.number → IsWaiting store before after
  waiting_on a held = record {
    ready = ready;
    number = number ∙ a.number;
    opened = open_still a.opened held;
    vain = suc a.vain;
    tried = (session.seat.view, a.tried, subst (λ (s : ℕ). FindsHeld session.seat.view after.seat.view s) a.number held);
  }

-- none was tried yet
pub not_tried : (store : Store) (before : Session) → IsReady store before → (knows before.seat.view before.number).is_open ≡ true → IsWaiting store before before
not_tried store before ready opened = record { ready = ready; number = refl; opened = opened; vain = 0; tried = refl }
