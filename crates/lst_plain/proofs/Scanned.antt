-- What the machine answers to questions about all rows, read from an engine that tells its state.
use Rattle.std.proofs.Common.{◌≡◌, ℕ, ◌*◌, ◌<◌, ◌≤◌, Bool, true, false, cond, List, [], ◌∷◌, length, refl, sym, ap, ◌∙◌, subst, arith}
use Rattle.std.proofs.lemmas.List.{length-map}
use Rattle.std.specs.Prelude.{Some, None}
use Rattle.std.specs.List.{list_any}
use Rattle.std.specs.Ordering.{nat_cmp}
use Rattle.std.specs.Map.{lookup, keys_of}
use Rattle.std.specs.BTreeMap.{BTreeMap, is_at, keys}
use Rattle.lst_layout.specs.declared.limits.Limits.{Limits}
use Rattle.lst_model.specs.declared.lines.Call.{Call}
use Rattle.lst_model.specs.declared.replies.Reply.{Reply}
use Rattle.lst_model.specs.declared.replies.Reply.TheVariants.{Refused}
use Rattle.lst_model.specs.declared.replies.Cause.TheVariants.{Idle, NotIndexed}
use Rattle.lst_model.specs.Cells.{Cell}
use Rattle.lst_model.specs.Tables.{Rows, row_of, scan_of}
use Rattle.lst_machine.specs.State.{Store}
use Rattle.lst_machine.specs.Writes.{sight_of}
use Rattle.lst_machine.specs.Calls.{in_open, refused_or, where_true, call_reply, store_after}
use Rattle.lst_machine.specs.Scans.{IsScan, scan_answer, lacks_index}
use Rattle.lst_machine.proofs.Scanning.{scan_reply, scan_keeps}
use Rattle.lst_machine.specs.declared.answers.Transaction.{Transaction}
use Rattle.lst_plain.specs.Rows.{Kept, kept_of, row_seen}
use Rattle.lst_plain.specs.Engines.{EngineState, session_of, IsWhole}
use Rattle.lst_machine.specs.Transactions.{opened_as}
use Rattle.lst_plain.specs.Telling.{StoreTells}
use Rattle.lst_plain.specs.Places.{IsIndexed}
use Rattle.lst_plain.proofs.Acting.{or-false}
use Rattle.lst_plain.proofs.Placing.{kept-absent}
use Rattle.lst_plain.proofs.Seeing.{sight_is}

-- a key without a place has no row
no_place : (q : ℕ) (es : List (ℕ × ℕ)) → list_any (is_at (nat_cmp q)) (keys_of es) ≡ false → lookup (is_at (nat_cmp q)) es ≡ None
no_place q [] none = refl
no_place q (e ∷ es) none =
    let parts = or-false (is_at (nat_cmp q) e.0) (list_any (is_at (nat_cmp q)) (keys_of es)) none in
    ap (λ b. cond b (Some e.1) (lookup (is_at (nat_cmp q)) es)) parts.0 ∙ no_place q es parts.1

pub covered : (places : BTreeMap ℕ ℕ) (records : List Kept) → IsIndexed places records → (s begin q : ℕ) → list_any (is_at (nat_cmp q)) (keys places) ≡ false → row_seen (kept_of records q) s begin ≡ None
covered places records indexed s begin q none = ap (λ (kept : Kept). row_seen kept s begin) (kept-absent records q (sym (indexed q) ∙ no_place q places.entries none))

module _ (engine : EngineState) (limits : Limits) (store : Store) (told : StoreTells engine limits store) (s : ℕ) (low : s < engine.limits.sessions) (whole : IsWhole engine) where
  low_limits : s < limits.sessions
  low_limits = subst (λ (l : Limits). s < l.sessions) told.same_limits low

  pub scan_idle : (call : Call) → IsScan call → (session_of engine s).transaction ≡ None → Refused Idle ≡ call_reply limits store s call
  scan_idle call scans none =
      sym (scan_reply limits store s call scans
      ∙ ap (λ o. in_open o (λ transaction. refused_or (where_true (lacks_index limits call) NotIndexed) (scan_answer (sight_of limits store s transaction.begin) call)))
      ((told.sessions s low_limits).opened ∙ ap opened_as none))

  module _ (transaction : Transaction) (is_open : (session_of engine s).transaction ≡ Some transaction) where
    opened : store.opened s ≡ Some (record { begin = transaction.begin; read_only = transaction.read_only })
    opened = (told.sessions s low_limits).opened ∙ ap opened_as is_open

    scan_open : (call : Call) → IsScan call → (b : Bool) → lacks_index engine.limits call ≡ b → call_reply limits store s call ≡ refused_or (where_true b NotIndexed) (scan_answer (sight_of limits store s transaction.begin) call)
    scan_open call scans b lacks =
        scan_reply limits store s call scans
        ∙ ap (λ o. in_open o (λ transaction. refused_or (where_true (lacks_index limits call) NotIndexed) (scan_answer (sight_of limits store s transaction.begin) call))) opened
        ∙ ap (λ b. refused_or (where_true b NotIndexed) (scan_answer (sight_of limits store s transaction.begin) call)) (ap (λ (l : Limits). lacks_index l call) (sym told.same_limits) ∙ lacks)

    pub scan_lacks : (call : Call) → IsScan call → lacks_index engine.limits call ≡ true → Refused NotIndexed ≡ call_reply limits store s call
    scan_lacks call scans lacks = sym (scan_open call scans true lacks)

    pub scan_told : (call : Call) → IsScan call → lacks_index engine.limits call ≡ false → (answer : Reply) → answer ≡ scan_answer (sight_of limits store s transaction.begin) call → answer ≡ call_reply limits store s call
    scan_told call scans lacks answer same = same ∙ sym (scan_open call scans false lacks)

    pub rows_seen : (rows : List (ℕ × List Cell))
        → ((table : Rows) → ((key : ℕ) → row_of table key ≡ row_seen (kept_of engine.records key) s transaction.begin) → rows ≡ scan_of table) → rows ≡ scan_of (sight_of limits store s transaction.begin)
    rows_seen rows listed = listed (sight_of limits store s transaction.begin)
        (λ key. sight_is (kept_of engine.records key) store key (told.keys key) s (record { begin = transaction.begin; read_only = transaction.read_only }) opened limits told.reached some_ranges few_placed)
      where
        some_ranges : 0 < limits.ranges
        some_ranges = subst (λ (l : Limits). 0 < l.ranges) told.same_limits whole.valid.ranges.0

        few_placed : length store.placed ≤ 256 * limits.ranges
        few_placed = subst (λ (l : Limits). length store.placed ≤ 256 * l.ranges) told.same_limits
            (let all = ap length told.placed in let same = length-map engine.records (λ (kept : Kept). kept.key) in let fits = whole.records in omega (arith, all, same, fits))

  -- the store part is as before
  pub scan_answered : (call : Call) → IsScan call → (answer : Reply) → answer ≡ call_reply limits store s call → (answer ≡ call_reply limits store s call) × StoreTells engine limits (store_after limits store s call)
  scan_answered call scans answer same = (same, subst (λ (st : Store). StoreTells engine limits st) (sym (scan_keeps limits store s call scans)) told)
