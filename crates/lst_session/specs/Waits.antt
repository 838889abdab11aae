-- A commit that tries again while the commit word is held.
use Rattle.std.specs.Prelude.{◌≡◌, ℕ, zero, suc, [], true}
use Rattle.lst_rule.specs.declared.view.View.{View}
use Rattle.lst_rule.specs.Rule.{knows}
use Rattle.lst_rule.specs.declared.store.Store.{Store}
use Rattle.lst_session.specs.declared.kinds.Outcome.{Outcome}
use Rattle.lst_session.specs.declared.kinds.Outcome.TheVariants.{Committed, Ended}
use Rattle.lst_session.specs.declared.session.Session.{Session}
use Rattle.lst_session.specs.Calls.{Commits, Ends, FindsHeld}
use Rattle.lst_session.specs.Passes.{IsReady}

-- so many tries, one after another, found the commit word held
abbrev pub TriesInVain : View → View → ℕ → ℕ → Type 0
TriesInVain v w s zero = w ≡ v
TriesInVain v w s (suc n) = (u : View) × TriesInVain v u s n × FindsHeld u w s

-- the transaction is the commit at the time; or it had no writes and is over, and the time is its begin
abbrev pub Concludes : View → View → ℕ → Outcome → Type 0
Concludes v w s (Committed time) = Commits v w s time
Concludes v w s (Ended time) = (time ≡ (knows v s).begin) × ((knows v s).own ≡ []) × Ends v w s

-- that came of the whole call; and it came of the last try, before which some were in vain
pub record ConcludesAtLast (v w : View) (s : ℕ) (outcome : Outcome) : Type 0 where
  pub concludes : Concludes v w s outcome
  pub vain : ℕ
  pub last : View
  pub tried : TriesInVain v last s vain
  pub at_last : Concludes last w s outcome

-- a session that was as before has tried in vain, and is ready to try again
pub record IsWaiting (store : Store) (before session : Session) : Type 0 where
  pub ready : IsReady store session
  pub number : session.number ≡ before.number
  pub opened : (knows session.seat.view session.number).is_open ≡ true
  pub vain : ℕ
  pub tried : TriesInVain before.seat.view session.seat.view before.number vain
