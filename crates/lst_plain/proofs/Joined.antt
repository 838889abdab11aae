-- The store part and the page part together: what a line is answered, and what is told after it.
use Rattle.std.proofs.Common.{◌≡◌, ◌≢◌, ℕ, ◌+◌, ◌*◌, ◌/◌, ◌<◌, Bool, true, false, cond, List, length, get_or, set, refl, sym, ap, ◌∙◌, subst, arith, length-set, get_or-set_same, get_or-set_other}
use Rattle.std.proofs.lemmas.List.{length-map, length-replicate, get_or-map}
use Rattle.std.specs.Prelude.{Option, Some, None, unwrap_or, ◌==◌}
use Rattle.lst_layout.specs.declared.limits.Limits.{Limits}
use Rattle.lst_model.specs.declared.lines.Line.TheVariants as line
use Rattle.lst_model.specs.declared.lines.Call.{Call}
use Rattle.lst_model.specs.declared.replies.Reply.{Reply}
use Rattle.lst_model.specs.declared.replies.Reply.TheVariants.{Begun, Done, Committed, Ended, Aborted, Merged, NothingNew, NoFrame}
use Rattle.lst_machine.specs.State.{State}
use Rattle.lst_machine.specs.Writes.{place_of}
use Rattle.lst_machine.specs.Calls.{call_reply, store_after}
use Rattle.lst_machine.specs.Merges.{lowest_where}
use Rattle.lst_machine.specs.Machine.{reply, next}
use Rattle.lst_plain.specs.declared.engine.Tail.{Tail}
use Rattle.lst_plain.specs.Rows.{Kept, keys_of}
use Rattle.lst_plain.specs.Engines.{EngineState, IsWhole}
use Rattle.lst_plain.specs.Telling.{StoreTells}
use Rattle.lst_plain.specs.Tails.{key_of, tail_at, tail_of}
use Rattle.lst_plain.specs.Lineages.{HolderState, LineageState, holder_of, new_holder, begun_holder, ended_holder, noted_firsts, noted_holder, with_holder, with_newest, with_swap, swapped_holder, is_behind, least_first, tails_before, followed, IsWide}
use Rattle.lst_plain.specs.Pages.{PagesTell}
use Rattle.lst_plain.specs.Plains.{StateTells}
use Rattle.lst_plain.proofs.Opening.{at_each, apart}
use Rattle.lst_plain.proofs.Placing.{at_place}
use Rattle.lst_plain.proofs.Answered.{IsNewest, pages_follow}
use Rattle.lst_plain.proofs.Merging.{nothing_new, no_frame, merged}

-- ---- lengths stay

module _ (limits : Limits) (lineage : LineageState) (wide : IsWide limits lineage) where
  wide_holder : (s : ℕ) (new : HolderState) → s < limits.sessions → length new.firsts ≡ limits.ranges → IsWide limits (with_holder lineage s new)
  wide_holder s new low same = record {
    pages = wide.pages;
    sessions = length-set lineage.holders s new ∙ wide.sessions;
    ranges = at_each (λ j. j < limits.sessions → length (holder_of (set lineage.holders s new) j).firsts ≡ limits.ranges) s
        (λ _. ap (λ (h : HolderState). length h.firsts) (get_or-set_same lineage.holders s new (new_holder 0) (let all = wide.sessions in omega (arith, all, low))) ∙ same)
        (λ j other in_limits. ap (λ (h : HolderState). length h.firsts) (get_or-set_other lineage.holders s j new (new_holder 0) (apart j s other)) ∙ wide.ranges j in_limits);
  }

  noted_length : (firsts : List ℕ) (range tail : ℕ) → length (noted_firsts firsts range tail) ≡ length firsts
  noted_length firsts range tail = step (get_or firsts range 0 == 0)
    where
      step : (b : Bool) → length (cond b (set firsts range tail) firsts) ≡ length firsts
      step true = length-set firsts range tail
      step false = refl

  wide_newest : (s : ℕ) → s < limits.sessions → (newest : Option Tail) → IsWide limits (with_newest lineage s newest)
  wide_newest s low None = wide
  wide_newest s low (Some tail) = wide_holder s (noted_holder (holder_of lineage.holders s) tail.range tail.number) low (noted_length (holder_of lineage.holders s).firsts tail.range tail.number ∙ wide.ranges s low)

  wide_ended : (s : ℕ) → s < limits.sessions → IsWide limits (with_holder lineage s (ended_holder (holder_of lineage.holders s)))
  wide_ended s low = wide_holder s (ended_holder (holder_of lineage.holders s)) low (length-replicate (length (holder_of lineage.holders s).firsts) 0 ∙ wide.ranges s low)

  pub wide_followed : (s : ℕ) → s < limits.sessions → (newest : Option Tail) (answer : Reply) → IsWide limits (followed lineage s newest answer)
  wide_followed s low newest (Begun time) = wide_holder s (begun_holder (holder_of lineage.holders s)) low (wide.ranges s low)
  wide_followed s low newest Done = wide_newest s low newest
  wide_followed s low newest (Committed time) = wide_ended s low
  wide_followed s low newest (Ended time) = wide_ended s low
  wide_followed s low newest Aborted = wide_ended s low
  wide_followed s low newest answer = wide

  pub wide_swapped : (page tps spare : ℕ) → IsWide limits (with_swap lineage page tps spare)
  wide_swapped page tps spare = record {
    pages = length-set lineage.tps page tps ∙ wide.pages;
    sessions = length-map lineage.holders (swapped_holder spare) ∙ wide.sessions;
    ranges = λ s low. ap (λ (h : HolderState). length h.firsts) (get_or-map (swapped_holder spare) lineage.holders s (new_holder 0) (new_holder 0) (let all = wide.sessions in omega (arith, all, low))) ∙ wide.ranges s low;
  }

-- ---- the last tail of a key's range

pub tail_low : (engine : EngineState) → IsWhole engine → (key : Option ℕ) (tail : Tail) → tail_of engine key ≡ Some tail → tail.range < engine.limits.ranges
tail_low engine whole None tail is = absurd (cc)
tail_low engine whole (Some key) tail is = at (place_of (keys_of engine.records) key) refl is
  where
    at : (found : Option ℕ) → place_of (keys_of engine.records) key ≡ found → tail_at engine.accepted found ≡ Some tail → tail.range < engine.limits.ranges
    at None found none = absurd (cc)
    at (Some place) found some =
        let range : place / 256 ≡ tail.range = ap (λ (o : Option Tail). (unwrap_or o tail).range) some in
        let low = (at_place (keys_of engine.records) key place found).0 in
        let all = length-map engine.records (λ (kept : Kept). kept.key) in
        let fits = whole.records in
        omega (arith, range, low, all, fits)

newest_told : (engine : EngineState) (limits : Limits) (state : State) → IsWhole engine → StoreTells engine limits state.store → (key : ℕ) (newest : Option Tail) → newest ≡ tail_of engine (Some key) → IsNewest limits state.store key newest
newest_told engine limits state whole told key newest is = λ place at.
    let found : place_of (keys_of engine.records) key ≡ Some place = ap (λ keys. place_of keys key) (sym told.placed) ∙ at in
    let low = (at_place (keys_of engine.records) key place found).0 in
    let all = length-map engine.records (λ (kept : Kept). kept.key) in
    let fits = whole.records in
    let same : engine.limits.ranges ≡ limits.ranges = ap (λ (l : Limits). l.ranges) told.same_limits in
    let inside : place / 256 < limits.ranges = omega (arith, low, all, fits, same) in
    (is ∙ ap (tail_at engine.accepted) found ∙ ap (λ n. Some (record { range = place / 256; number = n })) (sym (told.counts (place / 256) inside)), inside)

-- ---- a call is answered

pub call_told : (before after : EngineState) (lineage : LineageState) (limits : Limits) (state : State) → IsWhole after → IsWide before.limits lineage → StateTells before lineage limits state
    → (s : ℕ) → s < before.limits.sessions → (call : Call) (answer : Reply) → (answer ≡ call_reply limits state.store s call) × StoreTells after limits (store_after limits state.store s call)
    → (newest : Option Tail) → newest ≡ tail_of after (key_of call) → (then : LineageState) → then ≡ followed lineage s newest answer
    → (answer ≡ reply limits state (line.Call s call)) × StateTells after then limits (next limits state (line.Call s call))
call_told before after lineage limits state whole wide told s low call answer done newest newest_is then then_is =
    let wide_here : IsWide limits lineage = subst (λ (l : Limits). IsWide l lineage) told.store.same_limits wide in
    let low_here : s < limits.sessions = subst (λ (l : Limits). s < l.sessions) told.store.same_limits low in
    let pages = pages_follow lineage limits wide_here state.store state.pages told.pages told.store.reached s low_here newest call
    (λ key written. newest_told after limits (next limits state (line.Call s call)) whole done.1 key newest (newest_is ∙ ap (tail_of after) written)) in (
      done.0,
      record {
        store = done.1;
        pages = subst (λ (l : LineageState). PagesTell l limits (next limits state (line.Call s call))) (sym (then_is ∙ ap (followed lineage s newest) done.0)) pages;
      },
    )

-- ---- a merge is answered

module _ (engine : EngineState) (lineage : LineageState) (whole : IsWhole engine) (wide : IsWide engine.limits lineage) (limits : Limits) (state : State) (told : StateTells engine lineage limits state)
    (range column : ℕ) (in_range : range < engine.limits.ranges) (in_row : column < engine.limits.columns) where
  wide_here : IsWide limits lineage
  wide_here = subst (λ (l : Limits). IsWide l lineage) told.store.same_limits wide

  low : range < limits.ranges
  low = subst (λ (l : Limits). range < l.ranges) told.store.same_limits in_range

  row : column < limits.columns
  row = subst (λ (l : Limits). column < l.columns) told.store.same_limits in_row

  abbrev pub settled_tps : ℕ
  settled_tps = tails_before (least_first 0 lineage.holders range) (get_or engine.accepted range 0)

  abbrev pub page : ℕ
  page = range * engine.limits.columns + column

  page_is : page ≡ range * limits.columns + column
  page_is = ap (λ (l : Limits). range * l.columns + column) told.store.same_limits

  tps_is : get_or lineage.tps page 0 ≡ get_or lineage.tps (range * limits.columns + column) 0
  tps_is = ap (λ p. get_or lineage.tps p 0) page_is

  holder_is : (found : Option ℕ) → lowest_where (λ s. is_behind engine.limits.spare (holder_of lineage.holders s)) engine.limits.sessions ≡ found → lowest_where (λ s. is_behind limits.spare (holder_of lineage.holders s)) limits.sessions ≡ found
  holder_is found is = subst (λ (l : Limits). lowest_where (λ s. is_behind l.spare (holder_of lineage.holders s)) l.sessions ≡ found) told.store.same_limits is

  pub merge_nothing : get_or lineage.tps page 0 ≡ settled_tps → (NothingNew settled_tps ≡ reply limits state (line.Merge range column)) × StateTells engine lineage limits (next limits state (line.Merge range column))
  merge_nothing same =
      let done = nothing_new lineage limits wide_here state.store state.pages told.pages range column (get_or engine.accepted range 0) low row (told.store.counts range low) (sym tps_is ∙ same) in
      (done.0, record { store = told.store; pages = done.1 })

  pub merge_no_frame : get_or lineage.tps page 0 ≢ settled_tps → (s : ℕ) → lowest_where (λ s. is_behind engine.limits.spare (holder_of lineage.holders s)) engine.limits.sessions ≡ Some s
      → (NoFrame s ≡ reply limits state (line.Merge range column)) × StateTells engine lineage limits (next limits state (line.Merge range column))
  merge_no_frame else s is =
      let done = no_frame lineage limits wide_here state.store state.pages told.pages range column (get_or engine.accepted range 0) low row (told.store.counts range low) (λ same. else (tps_is ∙ same)) s (holder_is (Some s) is) in
      (done.0, record { store = told.store; pages = done.1 })

  pub merge_done : get_or lineage.tps page 0 ≢ settled_tps → lowest_where (λ s. is_behind engine.limits.spare (holder_of lineage.holders s)) engine.limits.sessions ≡ None
      → (Merged settled_tps ≡ reply limits state (line.Merge range column)) × StateTells engine (with_swap lineage page settled_tps engine.limits.spare) limits (next limits state (line.Merge range column))
  merge_done else is =
      let done = merged lineage limits wide_here state.store state.pages told.pages range column (get_or engine.accepted range 0) low row (told.store.counts range low) (λ same. else (tps_is ∙ same)) (holder_is None is) in (
        done.0,
        record {
          store = told.store;
          pages = subst (λ (l : Limits). PagesTell (with_swap lineage (range * l.columns + column) settled_tps l.spare) limits (next limits state (line.Merge range column))) (sym told.store.same_limits) done.1;
        },
      )
