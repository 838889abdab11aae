-- After each call of a session, what is kept for merges tells the machine's next state.
use Rattle.std.proofs.Common.{◌≡◌, ℕ, suc, ◌/◌, ◌<◌, Bool, true, false, cond, not, List, [], ◌∷◌, ◌++◌, length, refl, sym, ap, ◌∙◌, subst, arith}
use Rattle.std.proofs.lemmas.Bool.{eq-eqb}
use Rattle.std.proofs.lemmas.List.{length-append}
use Rattle.std.specs.Prelude.{Option, Some, None, is_some, is_none, unwrap_or, ◌==◌}
use Rattle.lst_layout.specs.declared.limits.Limits.{Limits}
use Rattle.lst_model.specs.declared.acts.Act.{Act}
use Rattle.lst_model.specs.declared.acts.Act.TheVariants.{Put, Set, Del}
use Rattle.lst_model.specs.declared.acts.Write.{Write}
use Rattle.lst_model.specs.declared.lines.Line.TheVariants as line
use Rattle.lst_model.specs.declared.lines.Call.{Call}
use Rattle.lst_model.specs.declared.lines.Call.TheVariants as call
use Rattle.lst_model.specs.declared.replies.Reply.{Reply}
use Rattle.lst_model.specs.declared.replies.Reply.TheVariants.{Begun, Done, Keys, Aborted}
use Rattle.lst_model.specs.declared.replies.Cause.{Cause}
use Rattle.lst_model.specs.declared.replies.Cause.TheVariants.{Active, ReadOnly, Missing, TailFull, NotIndexed}
use Rattle.lst_model.specs.Cells.{Cell}
use Rattle.lst_model.specs.Tables.{row_of, find_of}
use Rattle.lst_machine.specs.State.{Accepted, Opened, Store, Pages}
use Rattle.lst_machine.specs.Writes.{place_of, is_placed, with_key, range_of, conflict_of, sight_of, own_writes, time_of}
use Rattle.lst_machine.specs.Calls.{first_of, where_true, refused_or, in_open, begin_refusal, as_of_refusal, row_reply, is_indexed, is_range_full, early_insert_refusal, insert_refusal, change_refusal, with_placed, placed_unless, with_accepted, accepted_unless, after_insert, after_change, end_reply, with_commit, after_commit, after_abort, opened_unless, call_reply, store_after}
use Rattle.lst_machine.specs.Merges.{begun_unless, ended_where}
use Rattle.lst_machine.specs.Machine.{next}
use Rattle.lst_plain.specs.declared.engine.Tail.{Tail}
use Rattle.lst_plain.specs.Telling.{IsReached}
use Rattle.lst_plain.specs.Tails.{key_of}
use Rattle.lst_plain.specs.Lineages.{LineageState, with_newest, with_tail, followed, IsWide}
use Rattle.lst_plain.specs.Pages.{PagesTell}
use Rattle.lst_plain.proofs.Opening.{put-same}
use Rattle.lst_machine.proofs.Places.{with_last, place-append}
use Rattle.lst_plain.proofs.Following.{pages_placed, pages_begun, pages_closed, pages_committed, pages_accepted}

first_rest : (cause : Option Cause) (causes : List (Option Cause)) → first_of (cause ∷ causes) ≡ None → (cause ≡ None) × (first_of causes ≡ None)
first_rest None causes is = (refl, is)
first_rest (Some cause) causes is = absurd (cc)

where_none : (b : Bool) (cause : Cause) → where_true b cause ≡ None → b ≡ false
where_none true cause is = absurd (cc)
where_none false cause is = refl

-- a key that was placed has a place
placed_now : (placed : List ℕ) (key : ℕ) → (place : ℕ) × (place_of (with_key placed key) key ≡ Some place)
placed_now placed key = step (place_of placed key) refl
  where
    step : (found : Option ℕ) → place_of placed key ≡ found → (place : ℕ) × (place_of (cond (is_some found) placed (placed ++ key ∷ [])) key ≡ Some place)
    step (Some place) is = (place, is)
    step None is = (
      length placed,
      place-append placed key key ∙ ap (λ p. with_last p (key == key) (length placed)) is ∙ ap (λ b. cond b (Some (length placed)) None) (eq-eqb key key refl),
    )

place_is : (found : Option ℕ) → not (is_some found) ≡ false → (place : ℕ) × (found ≡ Some place)
place_is (Some place) is = (place, refl)
place_is None is = absurd (cc)

-- the last tail of the range of a key that has a place
abbrev pub IsNewest : Limits → Store → ℕ → Option Tail → Type 0
IsNewest limits store key newest = (place : ℕ) → place_of store.placed key ≡ Some place
    → (newest ≡ Some (record { range = place / 256; number = length (store.accepted (place / 256)) })) × (place / 256 < limits.ranges)

-- a write to a placed key is accepted
written_follows : (lineage : LineageState) (limits : Limits) (wide : IsWide limits lineage) (store : Store) (pages : Pages) → PagesTell lineage limits (record { store = store; pages = pages })
    → (s : ℕ) → s < limits.sessions → (opened : Opened) → store.opened s ≡ Some opened → store.closed s (store.begins s) ≡ false → time_of store.history s (store.begins s) ≡ None
    → (key : ℕ) (act : Act) (place : ℕ) → place_of store.placed key ≡ Some place → (newest : Option Tail) → IsNewest limits (with_accepted store s key act) key newest
    → PagesTell (with_newest lineage s newest) limits (record { store = with_accepted store s key act; pages = pages })
written_follows lineage limits wide store pages tells s low opened is_open not_closed not_committed key act place is newest newest_is =
    let at : range_of store.placed key ≡ place / 256 = ap (λ (o : Option ℕ). unwrap_or o 0 / 256) is in
    let new : Accepted = record { session = s; number = store.begins s; write = record { key = key; act = act } } in
    let found = newest_is place is in
    let last : length ((with_accepted store s key act).accepted (range_of store.placed key)) ≡ suc (length (store.accepted (range_of store.placed key))) =
    ap length (put-same store.accepted (range_of store.placed key) (store.accepted (range_of store.placed key) ++ record { session = s; number = store.begins s; write = record { key = key; act = act } } ∷ []))
    ∙ (let more = length-append (store.accepted (range_of store.placed key)) (record { session = s; number = store.begins s; write = record { key = key; act = act } } ∷ []) in omega (arith, more)) in
    let inside : range_of store.placed key < limits.ranges = subst (λ (r : ℕ). r < limits.ranges) (sym at) found.1 in
    subst (λ (n : Option Tail). PagesTell (with_newest lineage s n) limits (record { store = with_accepted store s key act; pages = pages })) (sym found.0)
    (subst (λ (r : ℕ). PagesTell (with_tail lineage s r (length ((with_accepted store s key act).accepted r))) limits (record { store = with_accepted store s key act; pages = pages })) at
    (pages_accepted lineage limits wide store pages tells s low opened is_open not_closed not_committed key act (length ((with_accepted store s key act).accepted (range_of store.placed key))) last inside))

module _ (lineage : LineageState) (limits : Limits) (wide : IsWide limits lineage) (store : Store) (pages : Pages) (tells : PagesTell lineage limits (record { store = store; pages = pages })) (reached : IsReached store) (s : ℕ) (low : s < limits.sessions) (newest : Option Tail) where
  begins : (refusal : Option Cause) (time begin : ℕ) (read_only : Bool) → (refusal ≡ None → store.opened s ≡ None)
      → PagesTell (followed lineage s newest (refused_or refusal (Begun time))) limits (record { store = opened_unless refusal store s begin read_only; pages = begun_unless refusal pages s })
  begins None time begin read_only closed = pages_begun lineage limits wide store pages tells s low begin read_only (closed refl)
  begins (Some cause) time begin read_only closed = tells

  not_open : (opened : Option Opened) → is_some opened ≡ false → opened ≡ None
  not_open None is = refl
  not_open (Some opened) is = absurd (cc)

  begin_closed : begin_refusal limits store s ≡ None → store.opened s ≡ None
  begin_closed free = not_open (store.opened s) (where_none (is_some (store.opened s)) Active (first_rest _ _ free).0)

  got : (row : Option (List Cell)) → PagesTell (followed lineage s newest (row_reply row)) limits (record { store = store; pages = pages })
  got None = tells
  got (Some row) = tells

  get : (key : ℕ) (opened : Option Opened) → PagesTell (followed lineage s newest (in_open opened (λ transaction. row_reply (row_of (sight_of limits store s transaction.begin) key)))) limits (record { store = store; pages = pages })
  get key None = tells
  get key (Some transaction) = got (row_of (sight_of limits store s transaction.begin) key)

  -- answers that no change goes with
  told : (answer : Opened → Reply) → ((transaction : Opened) → followed lineage s newest (answer transaction) ≡ lineage) → (opened : Option Opened)
      → PagesTell (followed lineage s newest (in_open opened answer)) limits (record { store = store; pages = pages })
  told answer same None = tells
  told answer same (Some transaction) = subst (λ (l : LineageState). PagesTell l limits (record { store = store; pages = pages })) (sym (same transaction)) tells

  refused_same : (b : Bool) (cause : Cause) (answer : Reply) → followed lineage s newest answer ≡ lineage → followed lineage s newest (refused_or (where_true b cause) answer) ≡ lineage
  refused_same true cause answer same = refl
  refused_same false cause answer same = same

  inserted : (key : ℕ) (act : Act) (opened : Opened) → store.opened s ≡ Some opened → (early refusal : Option Cause) → (refusal ≡ None → early ≡ None)
      → IsNewest limits (accepted_unless refusal (placed_unless early store key) s key act) key newest
      → PagesTell (followed lineage s newest (refused_or refusal Done)) limits (record { store = accepted_unless refusal (placed_unless early store key) s key act; pages = pages })
  inserted key act opened is_open None None free newest_is =
      let some = ap is_some is_open in
      let place = placed_now store.placed key in
      written_follows lineage limits wide (with_placed store key) pages (pages_placed lineage limits store pages (with_key store.placed key) tells) s low opened is_open
      (reached.open_not_closed s some) (reached.open_not_committed s some) key act place.0 place.1 newest newest_is
  inserted key act opened is_open None (Some cause) free newest_is = pages_placed lineage limits store pages (with_key store.placed key) tells
  inserted key act opened is_open (Some early) None free newest_is = let none : Some early ≡ None = free refl in absurd (cc)
  inserted key act opened is_open (Some early) (Some cause) free newest_is = tells

  insert : (key : ℕ) (act : Act) (opened : Option Opened) → store.opened s ≡ opened → IsNewest limits (after_insert limits store s opened key act) key newest
      → PagesTell (followed lineage s newest (in_open opened (λ transaction. refused_or (insert_refusal limits store s transaction key) Done))) limits (record { store = after_insert limits store s opened key act; pages = pages })
  insert key act None is_open newest_is = tells
  insert key act (Some transaction) is_open newest_is =
      inserted key act transaction is_open (early_insert_refusal limits store transaction key) (insert_refusal limits store s transaction key) (λ free. (first_rest _ _ free).0) newest_is

  changed : (key : ℕ) (act : Act) (opened : Opened) → store.opened s ≡ Some opened → (refusal : Option Cause) → (refusal ≡ None → not (is_placed store.placed key) ≡ false)
      → IsNewest limits (accepted_unless refusal store s key act) key newest
      → PagesTell (followed lineage s newest (refused_or refusal Done)) limits (record { store = accepted_unless refusal store s key act; pages = pages })
  changed key act opened is_open None placed newest_is =
      let some = ap is_some is_open in
      let place = place_is (place_of store.placed key) (placed refl) in
      written_follows lineage limits wide store pages tells s low opened is_open (reached.open_not_closed s some) (reached.open_not_committed s some) key act place.0 place.1 newest newest_is
  changed key act opened is_open (Some cause) placed newest_is = tells

  change : (key : ℕ) (act : Act) (opened : Option Opened) → store.opened s ≡ opened → IsNewest limits (after_change limits store s opened key act) key newest
      → PagesTell (followed lineage s newest (in_open opened (λ transaction. refused_or (change_refusal limits store s transaction key) Done))) limits (record { store = after_change limits store s opened key act; pages = pages })
  change key act None is_open newest_is = tells
  change key act (Some transaction) is_open newest_is =
      let unplaced : Option Cause = where_true (not (is_placed store.placed key)) Missing in
      let later : List (Option Cause) = conflict_of store s transaction.begin key ∷ where_true (is_none (row_of (sight_of limits store s transaction.begin) key)) Missing ∷ where_true (is_range_full limits store key) TailFull ∷ [] in
      changed key act transaction is_open (change_refusal limits store s transaction key)
      (λ free. where_none (not (is_placed store.placed key)) Missing (first_rest unplaced later (first_rest (where_true transaction.read_only ReadOnly) (unplaced ∷ later) free).1).0) newest_is

  ended : (opened : Opened) (own : List Write) → PagesTell (followed lineage s newest (end_reply store opened own)) limits (record { store = with_commit store s opened own; pages = ended_where (Some opened) pages s })
  ended opened [] = pages_closed lineage limits wide store pages tells s low
  ended opened (write ∷ writes) =
      pages_committed lineage limits wide store pages tells s low (record { session = s; number = store.begins s; begin = opened.begin; writes = write ∷ writes }) refl refl

  commit : (opened : Option Opened) → PagesTell (followed lineage s newest (in_open opened (λ transaction. end_reply store transaction (own_writes limits store s)))) limits (record { store = after_commit limits store s opened; pages = ended_where opened pages s })
  commit None = tells
  commit (Some transaction) = ended transaction (own_writes limits store s)

  abort : (opened : Option Opened) → PagesTell (followed lineage s newest (in_open opened (λ transaction. Aborted))) limits (record { store = after_abort store s opened; pages = ended_where opened pages s })
  abort None = tells
  abort (Some transaction) = pages_closed lineage limits wide store pages tells s low

  pub pages_follow : (c : Call) → ((key : ℕ) → key_of c ≡ Some key → IsNewest limits (store_after limits store s c) key newest)
      → PagesTell (followed lineage s newest (call_reply limits store s c)) limits (next limits (record { store = store; pages = pages }) (line.Call s c))
  pages_follow call.Begin newest_is = begins (begin_refusal limits store s) (length store.history) (length store.history) false begin_closed
  pages_follow (call.AsOf time) newest_is = begins (as_of_refusal limits store s time) time time true (λ free. begin_closed (first_rest _ _ free).0)
  pages_follow (call.Get key) newest_is = get key (store.opened s)
  pages_follow (call.Insert key row) newest_is = insert key (Put row) (store.opened s) refl (newest_is key refl)
  pages_follow (call.Update key patch) newest_is = change key (Set patch) (store.opened s) refl (newest_is key refl)
  pages_follow (call.Delete key) newest_is = change key Del (store.opened s) refl (newest_is key refl)
  pages_follow (call.Sum column) newest_is = told _ (λ transaction. refl) (store.opened s)
  pages_follow call.Count newest_is = told _ (λ transaction. refl) (store.opened s)
  pages_follow call.Scan newest_is = told _ (λ transaction. refl) (store.opened s)
  pages_follow (call.Find column number) newest_is = told _ (λ transaction. refused_same (not (is_indexed limits column)) NotIndexed (Keys (find_of (sight_of limits store s transaction.begin) column number)) refl) (store.opened s)
  pages_follow call.Commit newest_is = commit (store.opened s)
  pages_follow call.Abort newest_is = abort (store.opened s)
