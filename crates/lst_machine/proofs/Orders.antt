-- Whether a merge comes before a transaction that is aborted at once or after it, the machine's state is the same.
use Rattle.std.proofs.Common.{◌≡◌, ◌≢◌, ℕ, suc, ◌+◌, ◌≤◌, Bool, true, false, cond, List, [], ◌∷◌, ◌++◌, Option, Some, None, length, refl, sym, ap, ◌∙◌, subst, arith}
use Rattle.std.specs.Prelude.{take_while, is_some, nat_le, ◌||◌, ◌&&◌}
use Rattle.std.proofs.lemmas.List.Sums.{take_while-cons}
use mathlib.Core.Logic.{dite}
use native.Mathlib.Decide.{ℕ_discrete}
use Rattle.lst_layout.specs.declared.limits.Limits.{Limits}
use Rattle.lst_model.specs.declared.acts.Act.{Act}
use Rattle.lst_model.specs.declared.acts.Act.TheVariants.{Put, Set, Del}
use Rattle.lst_model.specs.declared.acts.Write.{Write}
use Rattle.lst_model.specs.declared.lines.Line.{Line}
use Rattle.lst_model.specs.declared.lines.Line.TheVariants as line
use Rattle.lst_model.specs.declared.lines.Call.TheVariants.{Begin, AsOf, Get, Insert, Update, Delete, Sum, Count, Scan, Find, Commit, Abort}
use Rattle.lst_model.specs.declared.lines.Call.{Call}
use Rattle.lst_model.specs.declared.replies.Reply.{Reply}
use Rattle.lst_model.specs.declared.replies.Reply.TheVariants.{Merged}
use Rattle.lst_model.specs.declared.replies.Cause.{Cause}
use Rattle.lst_machine.specs.State.{Accepted, Opened, Store, Pages, State, opening}
use Rattle.lst_machine.specs.Writes.{put, put_in, time_of, own_writes, range_of}
use Rattle.lst_machine.specs.Calls.{begin_refusal, as_of_refusal, with_opened, with_closed, with_commit, accepted_unless, placed_unless, insert_refusal, early_insert_refusal, change_refusal, opened_unless, after_abort, after_insert, after_change, after_commit, store_after}
use Rattle.lst_machine.specs.Merges.{is_settled, holds_frame, lowest_where, merge_reply, merge_reply_at, swapped_where, begun_unless, ended_where, pages_after_call}
use Rattle.lst_machine.specs.Machine.{next, state_after}
use Rattle.lst_machine.proofs.Acting.{put_here, put_else}
use Rattle.lst_machine.specs.Orders.{aborted_transaction, OrderIsForgotten}

-- ---- functions that change at one place

-- what is set back
put_back : {A : Type 0} (f : ℕ → A) (s : ℕ) (x z : A) → f s ≡ z → put (put f s x) s z ≡ f
put_back f s x z is = λ i t. dite (ℕ_discrete t s)
    (λ e. subst (λ (y : ℕ). put (put f s x) s z y ≡ f y) (sym e) (put_here (put f s x) s z ∙ sym is))
    (λ other. put_else (put f s x) s z t other ∙ put_else f s x t other) i

-- ---- what is so after every script

-- each write is of a transaction that has begun
abbrev AreBegun : (ℕ → ℕ) → List Accepted → Type 0
AreBegun begins [] = Unit {0}
AreBegun begins (w ∷ ws) = (w.number ≤ begins w.session) × AreBegun begins ws

record IsReached (state : State) : Type 0 where
  begun : (range : ℕ) → AreBegun state.store.begins (state.store.accepted range)
  forgotten : (s : ℕ) → state.store.opened s ≡ None → state.pages.swaps_at_begin s ≡ 0

begun_more : (f g : ℕ → ℕ) (ws : List Accepted) → ((t : ℕ) → f t ≤ g t) → AreBegun f ws → AreBegun g ws
begun_more f g [] least are = tt
begun_more f g (w ∷ ws) least are = (let a = are.0 in let b = least w.session in omega arith, begun_more f g ws least are.1)

begun_add : (f : ℕ → ℕ) (ws : List Accepted) (w : Accepted) → w.number ≤ f w.session → AreBegun f ws → AreBegun f (ws ++ w ∷ [])
begun_add f [] w few are = (few, tt)
begun_add f (x ∷ ws) w few are = (are.0, begun_add f ws w few are.1)

least_put : (f : ℕ → ℕ) (s t : ℕ) → f t ≤ put f s (f s + 1) t
least_put f s t = dite (ℕ_discrete t s)
    (λ e. subst (λ (y : ℕ). f y ≤ put f s (f s + 1) y) (sym e) (let h = put_here f s (f s + 1) in omega arith))
    (λ other. let h = put_else f s (f s + 1) t other in omega arith)

-- a swap leaves what the machine keeps of begins
swaps_stay : (pages : Pages) (range column : ℕ) (answer : Reply) → (swapped_where answer pages range column).swaps_at_begin ≡ pages.swaps_at_begin
swaps_stay pages range column (Merged tps) = refl
swaps_stay pages range column answer = refl

module _ (limits : Limits) (store : Store) (pages : Pages) (is : IsReached (record { store = store; pages = pages })) where
  begins_reached : (s begin : ℕ) (read_only : Bool) (refusal : Option Cause) → IsReached (record { store = opened_unless refusal store s begin read_only; pages = begun_unless refusal pages s })
  begins_reached s begin read_only None = record {
    begun = λ range. begun_more store.begins (put store.begins s (store.begins s + 1)) (store.accepted range) (least_put store.begins s) (is.begun range);
    forgotten = λ t none. dite (ℕ_discrete t s)
        (λ e. let some = put_here store.opened s (Some (record { begin = begin; read_only = read_only })) in
        let other = subst (λ (y : ℕ). put store.opened s (Some (record { begin = begin; read_only = read_only })) y ≡ None) e none in cc)
        (λ ne. put_else pages.swaps_at_begin s pages.swaps t ne ∙ is.forgotten t (sym (put_else store.opened s (Some (record { begin = begin; read_only = read_only })) t ne) ∙ none));
  }
  begins_reached s begin read_only (Some cause) = is

  placed_reached : (key : ℕ) (early : Option Cause) → IsReached (record { store = placed_unless early store key; pages = pages })
  placed_reached key None = record { begun = is.begun; forgotten = is.forgotten }
  placed_reached key (Some cause) = is

  accepted_reached : (s key : ℕ) (act : Act) (refusal : Option Cause) → IsReached (record { store = accepted_unless refusal store s key act; pages = pages })
  accepted_reached s key act None = let at = range_of store.placed key in
      let write : Accepted = record { session = s; number = store.begins s; write = record { key = key; act = act } } in record {
        begun = λ range. dite (ℕ_discrete range at)
            (λ e. subst (λ (y : ℕ). AreBegun store.begins (put store.accepted at (store.accepted at ++ write ∷ []) y)) (sym e)
            (subst (AreBegun store.begins) (sym (put_here store.accepted at (store.accepted at ++ write ∷ []))) (begun_add store.begins (store.accepted at) write (omega arith) (is.begun at))))
            (λ ne. subst (AreBegun store.begins) (sym (put_else store.accepted at (store.accepted at ++ write ∷ []) range ne)) (is.begun range));
        forgotten = is.forgotten;
      }
  accepted_reached s key act (Some cause) = is

  ends_forgotten : (s t : ℕ) → put store.opened s None t ≡ None → put pages.swaps_at_begin s 0 t ≡ 0
  ends_forgotten s t none = dite (ℕ_discrete t s)
      (λ e. subst (λ (y : ℕ). put pages.swaps_at_begin s 0 y ≡ 0) (sym e) (put_here pages.swaps_at_begin s 0))
      (λ ne. put_else pages.swaps_at_begin s 0 t ne ∙ is.forgotten t (sym (put_else store.opened s None t ne) ∙ none))

  closed_reached : (s : ℕ) (transaction : Opened) → IsReached (record { store = with_closed store s; pages = ended_where (Some transaction) pages s })
  closed_reached s transaction = record { begun = is.begun; forgotten = ends_forgotten s }

  aborted_reached : (s : ℕ) (opened : Option Opened) → IsReached (record { store = after_abort store s opened; pages = ended_where opened pages s })
  aborted_reached s None = is
  aborted_reached s (Some transaction) = closed_reached s transaction

  ended_reached : (s : ℕ) (transaction : Opened) (writes : List Write) → IsReached (record { store = with_commit store s transaction writes; pages = ended_where (Some transaction) pages s })
  ended_reached s transaction [] = closed_reached s transaction
  ended_reached s transaction (write ∷ writes) = record { begun = is.begun; forgotten = ends_forgotten s }

  committed_reached : (s : ℕ) (opened : Option Opened) → IsReached (record { store = after_commit limits store s opened; pages = ended_where opened pages s })
  committed_reached s None = is
  committed_reached s (Some transaction) = ended_reached s transaction (own_writes limits store s)

  swapped_reached : (range column : ℕ) (answer : Reply) → IsReached (record { store = store; pages = swapped_where answer pages range column })
  swapped_reached range column answer = record { begun = is.begun; forgotten = λ s none. ap (λ (f : ℕ → ℕ). f s) (swaps_stay pages range column answer) ∙ is.forgotten s none }

module _ (limits : Limits) (store : Store) (pages : Pages) (is : IsReached (record { store = store; pages = pages })) (s : ℕ) where
  inserted_reached : (opened : Option Opened) (key : ℕ) (act : Act) → IsReached (record { store = after_insert limits store s opened key act; pages = pages })
  inserted_reached None key act = is
  inserted_reached (Some transaction) key act = let early = early_insert_refusal limits store transaction key in
      accepted_reached limits (placed_unless early store key) pages (placed_reached limits store pages is key early) s key act (insert_refusal limits store s transaction key)

  changed_reached : (opened : Option Opened) (key : ℕ) (act : Act) → IsReached (record { store = after_change limits store s opened key act; pages = pages })
  changed_reached None key act = is
  changed_reached (Some transaction) key act = accepted_reached limits store pages is s key act (change_refusal limits store s transaction key)

  called_reached : (call : Call) → IsReached (record { store = store_after limits store s call; pages = pages_after_call limits store pages s call })
  called_reached Begin = begins_reached limits store pages is s (length store.history) false (begin_refusal limits store s)
  called_reached (AsOf time) = begins_reached limits store pages is s time true (as_of_refusal limits store s time)
  called_reached (Get key) = is
  called_reached (Insert key row) = inserted_reached (store.opened s) key (Put row)
  called_reached (Update key patch) = changed_reached (store.opened s) key (Set patch)
  called_reached (Delete key) = changed_reached (store.opened s) key Del
  called_reached (Sum column) = is
  called_reached Count = is
  called_reached Scan = is
  called_reached (Find column number) = is
  called_reached Commit = committed_reached limits store pages is s (store.opened s)
  called_reached Abort = aborted_reached limits store pages is s (store.opened s)

module _ (limits : Limits) where
  next_reached : (state : State) (l : Line) → IsReached state → IsReached (next limits state l)
  next_reached state line.Phase is = is
  next_reached state (line.Merge range column) is = swapped_reached limits state.store state.pages is range column (merge_reply limits state.store state.pages range column)
  next_reached state (line.Call s call) is = called_reached limits state.store state.pages is s call

  all_reached : (state : State) (script : List Line) → IsReached state → IsReached (state_after limits state script)
  all_reached state [] is = is
  all_reached state (l ∷ ls) is = all_reached (next limits state l) ls (next_reached state l is)

  after_append : (state : State) (one other : List Line) → state_after limits state (one ++ other) ≡ state_after limits (state_after limits state one) other
  after_append state [] other = refl
  after_append state (l ∷ ls) other = after_append (next limits state l) ls other

-- ---- a transaction that begins and ends at once

-- begun where there is none in the way, and then ended
abbrev both_store : Option Cause → Store → ℕ → Store
both_store refusal store s = after_abort (opened_unless refusal store s (length store.history) false) s ((opened_unless refusal store s (length store.history) false).opened s)

abbrev both_pages : Option Cause → Store → Pages → ℕ → Pages
both_pages refusal store pages s = ended_where ((opened_unless refusal store s (length store.history) false).opened s) (begun_unless refusal pages s) s

module _ (store : Store) (s : ℕ) (none : store.opened s ≡ None) where
  opened_now : put store.opened s (Some (record { begin = length store.history; read_only = false })) s ≡ Some (record { begin = length store.history; read_only = false })
  opened_now = put_here store.opened s (Some (record { begin = length store.history; read_only = false }))

  -- the pages are as before
  pages_back : (refusal : Option Cause) (pages : Pages) → pages.swaps_at_begin s ≡ 0 → both_pages refusal store pages s ≡ pages
  pages_back None pages zero = (λ i. ended_where (opened_now i) (begun_unless None pages s) s) ∙ (λ i. record pages { swaps_at_begin = put_back pages.swaps_at_begin s pages.swaps 0 zero i })
  pages_back (Some cause) pages zero = λ i. ended_where (none i) pages s

  -- what a merge asks of the store is answered as before
  closed_else : (f : ℕ → ℕ → Bool) (j n m : ℕ) → (j ≡ s → n ≢ m) → put_in f s m true j n ≡ f j n
  closed_else f j n m apart = dite (ℕ_discrete j s)
      (λ e. subst (λ (x : ℕ). put_in f s m true x n ≡ f x n) (sym e) (ap (λ (g : ℕ → Bool). g n) (put_here f s (put (f s) m true)) ∙ put_else (f s) m true n (apart e)))
      (λ other. ap (λ (g : ℕ → Bool). g n) (put_else f s (put (f s) m true) j other))

  abbrev begun : Store
  begun = with_opened store s (length store.history) false

  settled_same : (w : Accepted) → w.number ≤ store.begins w.session → is_settled (with_closed begun s) w ≡ is_settled store w
  settled_same w few = ap (λ (b : Bool). b || is_some (time_of store.history w.session w.number))
      (closed_else store.closed w.session w.number (put store.begins s (store.begins s + 1) s)
      (λ e f. let h = put_here store.begins s (store.begins s + 1) in let g = subst (λ (t : ℕ). w.number ≤ store.begins t) e few in omega arith))

  as_many : {A : Type 0} (b : Bool) (w : A) (xs ys : List A) → length xs ≡ length ys → length (cond b (w ∷ xs) []) ≡ length (cond b (w ∷ ys) [])
  as_many true w xs ys same = ap suc same
  as_many false w xs ys same = refl

  all_settled : (ws : List Accepted) → AreBegun store.begins ws → length (take_while (is_settled (with_closed begun s)) ws) ≡ length (take_while (is_settled store) ws)
  all_settled [] are = refl
  all_settled (w ∷ ws) are = ap length (take_while-cons (is_settled (with_closed begun s)) w ws)
      ∙ ((λ i. length (cond (settled_same w are.0 i) (w ∷ take_while (is_settled (with_closed begun s)) ws) []))
      ∙ (as_many (is_settled store w) w (take_while (is_settled (with_closed begun s)) ws) (take_while (is_settled store) ws) (all_settled ws are.1)
      ∙ sym (ap length (take_while-cons (is_settled store) w ws))))

  holders_same : (limits : Limits) (pages : Pages) → holds_frame limits (with_closed begun s) pages ≡ holds_frame limits store pages
  holders_same limits pages = λ i t. is_some (put_back store.opened s (Some (record { begin = length store.history; read_only = false })) None none i t) && nat_le (pages.swaps_at_begin t + limits.spare) pages.swaps

  closed_reply : (limits : Limits) (pages : Pages) (range column : ℕ) → AreBegun store.begins (store.accepted range)
      → merge_reply limits (with_closed begun s) pages range column ≡ merge_reply limits store pages range column
  closed_reply limits pages range column are = λ i. merge_reply_at (pages.tps range column) (all_settled (store.accepted range) are i) (lowest_where (holders_same limits pages i) limits.sessions)

  reply_back : (refusal : Option Cause) (limits : Limits) (pages : Pages) (range column : ℕ) → AreBegun store.begins (store.accepted range)
      → merge_reply limits (both_store refusal store s) pages range column ≡ merge_reply limits store pages range column
  reply_back None limits pages range column are = (λ i. merge_reply limits (after_abort begun s (opened_now i)) pages range column) ∙ closed_reply limits pages range column are
  reply_back (Some cause) limits pages range column are = λ i. merge_reply limits (after_abort store s (none i)) pages range column

-- ---- either order

module _ (limits : Limits) (state : State) (s range column : ℕ) (is : IsReached state) (none : state.store.opened s ≡ None) where
  abbrev store : Store
  store = state.store

  abbrev pages : Pages
  pages = state.pages

  abbrev refusal : Option Cause
  refusal = begin_refusal limits store s

  abbrev answer : Reply
  answer = merge_reply limits store pages range column

  merged_first : both_pages refusal store (swapped_where answer pages range column) s ≡ swapped_where answer pages range column
  merged_first = pages_back store s none refusal (swapped_where answer pages range column) (ap (λ (f : ℕ → ℕ). f s) (swaps_stay pages range column answer) ∙ is.forgotten s none)

  merged_last : swapped_where (merge_reply limits (both_store refusal store s) (both_pages refusal store pages s) range column) (both_pages refusal store pages s) range column ≡ swapped_where answer pages range column
  merged_last = (λ i. let same = pages_back store s none refusal pages (is.forgotten s none) i in swapped_where (merge_reply limits (both_store refusal store s) same range column) same range column)
      ∙ (λ i. swapped_where (reply_back store s none refusal limits pages range column (is.begun range) i) pages range column)

  orders_agree : state_after limits state (line.Merge range column ∷ aborted_transaction s) ≡ state_after limits state (aborted_transaction s ++ line.Merge range column ∷ [])
  orders_agree = λ i. record { store = both_store refusal store s; pages = (merged_first ∙ sym merged_last) i }

pub order_is_forgotten : OrderIsForgotten
order_is_forgotten limits script s range column none =
    after_append limits opening script (line.Merge range column ∷ aborted_transaction s)
    ∙ (orders_agree limits (state_after limits opening script) s range column (all_reached limits opening script record { begun = λ r. tt; forgotten = λ t none. refl }) none
    ∙ sym (after_append limits opening script (aborted_transaction s ++ line.Merge range column ∷ [])))
