-- The machine's answer to a call about all rows, and the store part after it.
use Rattle.std.proofs.Common.{◌≡◌, ℕ, refl}
use Rattle.lst_layout.specs.declared.limits.Limits.{Limits}
use Rattle.lst_model.specs.declared.lines.Call.{Call}
use Rattle.lst_model.specs.declared.lines.Call.TheVariants.{Begin, AsOf, Get, Insert, Update, Delete, Sum, Count, Scan, Find, Commit, Abort}
use Rattle.lst_model.specs.declared.replies.Cause.TheVariants.{NotIndexed}
use Rattle.lst_machine.specs.State.{Store}
use Rattle.lst_machine.specs.Writes.{sight_of}
use Rattle.lst_machine.specs.Calls.{in_open, refused_or, where_true, call_reply, store_after}
use Rattle.lst_machine.specs.Scans.{IsScan, scan_answer, lacks_index}

module _ (limits : Limits) (store : Store) (session : ℕ) where
  pub scan_reply : (call : Call) → IsScan call
      → call_reply limits store session call ≡ in_open (store.opened session) (λ transaction. refused_or (where_true (lacks_index limits call) NotIndexed) (scan_answer (sight_of limits store session transaction.begin) call))
  scan_reply Begin is = absurd is
  scan_reply (AsOf time) is = absurd is
  scan_reply (Get key) is = absurd is
  scan_reply (Insert key row) is = absurd is
  scan_reply (Update key patch) is = absurd is
  scan_reply (Delete key) is = absurd is
  scan_reply (Sum column) is = refl
  scan_reply Count is = refl
  scan_reply Scan is = refl
  scan_reply (Find column number) is = refl
  scan_reply Commit is = absurd is
  scan_reply Abort is = absurd is

  pub scan_keeps : (call : Call) → IsScan call → store_after limits store session call ≡ store
  scan_keeps Begin is = absurd is
  scan_keeps (AsOf time) is = absurd is
  scan_keeps (Get key) is = absurd is
  scan_keeps (Insert key row) is = absurd is
  scan_keeps (Update key patch) is = absurd is
  scan_keeps (Delete key) is = absurd is
  scan_keeps (Sum column) is = refl
  scan_keeps Count is = refl
  scan_keeps Scan is = refl
  scan_keeps (Find column number) is = refl
  scan_keeps Commit is = absurd is
  scan_keeps Abort is = absurd is
