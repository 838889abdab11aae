-- A commit at the serializable level that tries again while the commit word is held.
use Rattle.std.specs.Prelude.{◌≡◌, ℕ, [], true, Bool, Result, Ok, Err}
use Rattle.lst_rule.specs.declared.view.View.{View}
use Rattle.lst_rule.specs.Rule.{knows}
use Rattle.lst_rule.specs.declared.store.Store.{Store}
use Rattle.lst_session.specs.declared.kinds.Outcome.{Outcome}
use Rattle.lst_session.specs.declared.kinds.Outcome.TheVariants.{Committed, Ended}
use Rattle.lst_session.specs.declared.session.Session.{Session}
use Rattle.lst_session.specs.Calls.{Ends, OnlyLooks, FindsNoneFull}
use Rattle.lst_session.specs.Passes.{IsReady}
use Rattle.lst_serial.specs.declared.keys.KeySet.{KeySet}
use Rattle.lst_serial.specs.declared.kinds.SerialEnd.{SerialEnd}
use Rattle.lst_serial.specs.declared.kinds.SerialEnd.TheVariants.{Idle, Stale}
use Rattle.lst_serial.specs.Serials.{CommitsInPlace, FindsStale}

-- what came of the open transaction
abbrev pub Concludes : View → View → ℕ → KeySet → Bool → Result Outcome SerialEnd → Type 0
Concludes v w s keys all (Ok (Committed time)) = CommitsInPlace v w s keys all time
Concludes v w s keys all (Ok (Ended time)) = (time ≡ (knows v s).begin) × ((knows v s).own ≡ []) × Ends v w s
Concludes v w s keys all (Err Idle) = ⊥
Concludes v w s keys all (Err (Stale time)) = FindsStale v w s keys all time

-- a session that was as before has only found the commit word held, and is ready to try again. Without writes it has not yet tried
pub record IsWaiting (store : Store) (before session : Session) : Type 0 where
  pub ready : IsReady store session
  pub number : session.number ≡ before.number
  pub opened : (knows session.seat.view session.number).is_open ≡ true
  pub looks : OnlyLooks before.seat.view session.seat.view before.number
  pub room : FindsNoneFull before.seat.view session.seat.view before.number
  pub unwritten : (knows before.seat.view before.number).own ≡ [] → session.seat.view ≡ before.seat.view
