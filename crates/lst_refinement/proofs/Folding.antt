-- A record whose accepted writes are folded needs no tail record.
use Rattle.std.proofs.Common.{◌≡◌, ℕ, zero, suc, ◌+◌, ◌-◌, ◌*◌, ◌/◌, ◌%◌, ◌<◌, ◌≤◌, Bool, true, false, cond, nat_lt, eqb, eqb-true, ◌&&◌, List, [], ◌∷◌, length, take, get_or, refl, sym, subst, ap, ◌∙◌, arith, inl, inr}
use Rattle.std.specs.Prelude.{Option, Some, slice_get, unwrap_or}
use Rattle.std.proofs.lemmas.Option.{same_Some, slice_get-get_or}
use Rattle.std.proofs.lemmas.List.{get_or_at, get_or_append_left}
use mathlib.Core.Logic.{dite}
use native.Mathlib.Decide.{ℕ_discrete, dec_lt}
use Rattle.lst_layout.specs.declared.limits.Limits.{Limits}
use Rattle.lst_layout.specs.Frames.{lineage_place}
use Rattle.lst_bits.specs.Times as times
use Rattle.lst_machine.specs.State.{Accepted}
use Rattle.lst_machine.specs.Writes as machine
use Rattle.lst_core_state.specs.Lists.{Has, Links}
use Rattle.lst_core_state.specs.Cells.{record_count, range_of, slot_of, tail_range, record_of}
use Rattle.lst_core_state.specs.State.{Words, Core, state_at, record_in, back_in, head_of, line}
use Rattle.lst_core_state.specs.Sound.{Drawn}
use Rattle.lst_core_state.proofs.Decoded.{both_say}
use Rattle.lst_core_state.proofs.CellsKept.{tail_at-some, tail_range-is}
use Rattle.lst_pages.specs.declared.tails.PageTail.{PageTail}
use Rattle.lst_pages.specs.declared.entries.Entry.{Entry}
use Rattle.lst_pages.specs.Lists.{Every}
use Rattle.lst_pages.specs.Tails.{touches_column, touches}
use Rattle.lst_pages.specs.Entries.{blank, entry_by, folded}
use Rattle.lst_pages.specs.Frames.{tps_in, stamp_in}
use Rattle.lst_pages.specs.Chains.{Told}
use Rattle.lst_pages.specs.Pages.{IsRightPage}
use Rattle.lst_pages.specs.Settled.{tail_in, settled_tails}
use Rattle.lst_pages.specs.StateLaws.{AreNumbered}
use Rattle.lst_pages.specs.Sound.{IsPage}
use Rattle.lst_pages.specs.Known.{PagesSound, pages_in}
use Rattle.lst_pages.proofs.Growing.{settled_says}
use Rattle.lst_pages.proofs.Numbering.{settled_are_numbered}
use Rattle.lst_pages.proofs.Safety.{sound_known}
use Rattle.lst_pages.specs.Runs.{tps_known}
use Rattle.lst_refinement.specs.Crews.{IsCrew}
use Rattle.lst_refinement.specs.Telling.{accepted_at, accepted_first, told, pages_told, told_state}
use Rattle.lst_refinement.specs.Folding.{IsEndedBy, IsFolded, NeedsNoTail}
use Rattle.lst_refinement.specs.Laws.{FoldedKeysNeedNoTail, FoldedTablesNeedNoTail, StampedNeedsNoTail}
use Rattle.lst_refinement.proofs.Counts.{length-accepted}
use Rattle.lst_refinement.proofs.Keys.{key_place}
use Rattle.lst_refinement.proofs.Owns.{undrawn_blank}
use Rattle.lst_refinement.proofs.PageParts.{within_is}
use Rattle.lst_refinement.proofs.Timed.{timed}

-- ---- lists

-- the writes of a range by place
accepted_is : (l : Limits) (w : Words) (range n i : ℕ) (default : Accepted) → i < n → get_or (accepted_first l w range n) i default ≡ accepted_at l w (range * l.tails + suc i)
accepted_is l w range zero i default low = absurd (omega arith)
accepted_is l w range (suc n) i default low = let long = length-accepted l w range n in dite (ℕ_discrete i n)
    (λ e. get_or_at (accepted_first l w range n) (accepted_at l w (range * l.tails + suc n)) [] default i (omega arith) ∙ ap (λ (k : ℕ). accepted_at l w (range * l.tails + suc k)) (sym e))
    (λ ne. get_or_append_left (accepted_first l w range n) (accepted_at l w (range * l.tails + suc n) ∷ []) default i (omega arith) ∙ accepted_is l w range n i default (omega arith))

get_accepted : (l : Limits) (w : Words) (range n i : ℕ) → i < n → slice_get (accepted_first l w range n) i ≡ Some (accepted_at l w (range * l.tails + suc i))
get_accepted l w range n i low = let write : Accepted = accepted_at l w (range * l.tails + suc i) in
    slice_get-get_or (accepted_first l w range n) i write (let long = length-accepted l w range n in omega arith) ∙ ap Some (accepted_is l w range n i write low)

-- what holds of each of the first tails by number holds of them all
every_told : (P : PageTail → Type 0) (a : ℕ → PageTail) (n p : ℕ) (ts : List PageTail) → Told a n ts → ((k : ℕ) → n < k → k ≤ n + length ts → P (a k)) → Every P (take p ts)
every_told P a n zero ts told each = tt
every_told P a n (suc p) [] told each = tt
every_told P a n (suc p) (t ∷ ts) told each = (subst P (sym told.0) (each (suc n) (omega arith) (omega arith)), every_told P a (suc n) p ts told.1 (λ k low high. each k (omega arith) (omega arith)))

-- an entry is of no later time than the tails that make it
folded_early : (p : PageTail → Bool) (c time : ℕ) (e : Entry) (ts : List PageTail) → e.time ≤ time → Every (λ t. p t ≡ true → t.time ≤ time) ts → (folded p c e ts).time ≤ time
folded_early p c time e [] early each = early
folded_early p c time e (t ∷ ts) early each = folded_early p c time (cond (p t) (entry_by c t) e) ts (at_test (p t) refl) each.1
  where
    at_test : (b : Bool) → p t ≡ b → (cond b (entry_by c t) e).time ≤ time
    at_test true is = each.0 is
    at_test false is = early

-- a chain that begins somewhere has its first tail
has_first : (back : ℕ → ℕ) (head : ℕ) (ts : List ℕ) → Links back head ts → 0 < head → Has head ts
has_first back head [] links some = absurd (let none : head ≡ 0 = links in omega arith)
has_first back head (t ∷ ts) links some = inl links.0

-- a tail's record
record_at : (tails range t e : ℕ) → tail_range tails t ≡ range → record_of tails t e ≡ 256 * range + slot_of e
unfolding record_of
record_at tails range t e is = ap (λ (r : ℕ). 256 * r + slot_of e) is

-- ---- one record

module _ (c : Core) (crew : IsCrew c) (pages : PagesSound c) (rec column time : ℕ) (below : rec < record_count c.limits) (short : column < c.limits.columns) where
  abbrev l : Limits
  l = c.limits

  abbrev w : Words
  w = c.words

  abbrev range : ℕ
  range = range_of rec

  abbrev slot : ℕ
  slot = rec % 256

  abbrev at : ℕ → ℕ
  at i = range * c.limits.tails + suc i

  page : IsPage l range column
  page = (omega arith, short)

  abbrev words : ℕ → ℕ
  words = w.frames (w.directory range column)

  abbrev tails : List PageTail
  tails = settled_tails l w range

  -- the TPS that is told is the page's
  tps_is : (pages_told c).tps range column ≡ tps_in words
  tps_is = within_is l range column (tps_known c.merger.pages.stock range column) 0 page ∙ ((sound_known (pages_in c) pages.pages).old range column page).1 lineage_place (omega arith)

  -- a write that was ended by the time has no later time
  ended_early : (t : ℕ) → 0 < w.cells t 0 → IsEndedBy (told c) time (accepted_at l w t) → state_at w t - 1 ≤ time
  ended_early t some ended = by_state (state_at w t) refl ended
    where
      by_state : (state : ℕ) → state_at w t ≡ state → IsEndedBy (told c) time (accepted_at l w t) → state_at w t - 1 ≤ time
      by_state zero is ended = omega arith
      by_state (suc zero) is ended = omega arith
      by_state (suc (suc k)) is (inl closed) = let one : state_at w t ≡ 1 = eqb-true (state_at w t) 1 closed in omega arith
      by_state (suc (suc k)) is (inr (committed, at_time, early)) =
          let same : suc k ≡ committed = same_Some (suc k) committed (sym (timed c crew t some (suc k) (omega arith) (let e : state_at w t ≡ suc k + 1 = omega arith in e)) ∙ at_time) in omega arith

  -- each accepted write on the record is folded
  module _ (each : (i : ℕ) → i < w.counts range → record_in l w.cells (at i) ≡ rec → IsFolded (told_state c) range column time i (accepted_at l w (at i))) where
    -- the newest version is one of them
    head_low : (h : ℕ) → w.heads rec / 2 ≡ h → h ≤ tps_in words
    head_low zero is = omega arith
    head_low (suc i) is = let line_is = crew.sound.versions.lines rec below in
        let head : head_of l rec (w.heads rec) ≡ at i = tail_at-some l.tails range (w.heads rec / 2) (omega arith) ∙ (omega arith) in
        let on : Has (at i) (line l w rec) = has_first (back_in l w.cells) (at i) (line l w rec) (subst (λ (t : ℕ). Links (back_in l w.cells) t (line l w rec)) head line_is.links) (omega arith) in
        let here : record_in l w.cells (at i) ≡ rec = line_is.here (at i) on in
        let drawn : Drawn l w.counts range (at i) = subst (λ (r : ℕ). Drawn l w.counts (range_of r) (at i)) here (crew.sound.versions.stored (at i) (line_is.stored (at i) on)).drawn in
        let few = drawn.1 in let told_low = (each i (omega arith) here).folded in let tps = tps_is in omega arith

    -- a settled tail that touches the record's column is one of them
    tail_early : (n : ℕ) → 0 < n → n ≤ length tails → touches column slot (tail_in l w (range * l.tails + n)) ≡ true → (tail_in l w (range * l.tails + n)).time ≤ time
    tail_early zero some few touched = absurd (omega arith)
    tail_early (suc i) some few touched = let numbered : AreNumbered l w range = settled_are_numbered l w range in let stored = (settled_says w (at i) (numbered.each (suc i) (omega arith) few)).0 in let most = numbered.few in
        let tail : PageTail = tail_in l w (at i) in
        let on = both_say (eqb tail.slot slot) (touches_column column tail.kind tail.mask) (both_say (nat_lt 0 tail.time) (eqb tail.slot slot && touches_column column tail.kind tail.mask) touched).1 in
        let same : slot_of (w.cells (at i) 1) ≡ slot = eqb-true tail.slot slot on.0 in
        let here : record_in l w.cells (at i) ≡ rec = record_at l.tails range (at i) (w.cells (at i) 1) (tail_range-is l.tails range (at i) (omega arith) (omega arith)) ∙ (omega arith) in
        let drawn : i < w.counts range = dite (dec_lt i (w.counts range)) (λ h. h) (λ no. let blank_there = undrawn_blank c crew range (at i) (grind (arith, no)) (omega arith) in absurd (omega arith)) in
        ended_early (at i) stored (each i drawn here).ended

    stamp_early : times.time_of (stamp_in words slot) ≤ time
    stamp_early = let right : IsRightPage column tails words = pages.pages.right range column page in
        let told_entry = ap (λ (e : Entry). e.time) (right.entries.each slot (omega arith)).told in
        let early = folded_early (touches column slot) column time blank (take (tps_in words) tails) (omega arith)
        (every_told (λ t. touches column slot t ≡ true → t.time ≤ time) (λ n. tail_in l w (range * l.tails + n)) 0 (tps_in words) tails (settled_are_numbered l w range).told (λ n some few. tail_early n some (omega arith))) in
        omega arith

    pub needs_none : NeedsNoTail w rec column time
    needs_none = record { folded = head_low (w.heads rec / 2) refl; early = stamp_early }

pub folded_keys_need_no_tail : FoldedKeysNeedNoTail
folded_keys_need_no_tail c crew pages rec column time below placed short each = let range : ℕ = range_of rec in let at : ℕ → ℕ = (λ i. range * c.limits.tails + suc i) in
    let here : machine.range_of (told c).placed (c.words.keys rec) ≡ range = ap (λ (place : Option ℕ). unwrap_or place 0 / 256) (key_place c crew rec below placed) in
    needs_none c crew pages rec column time below short (λ i low on. subst (λ (r : ℕ). IsFolded (told_state c) r column time i (accepted_at c.limits c.words (at i))) here
    (each i (accepted_at c.limits c.words (at i)) (ap (λ (r : ℕ). slice_get ((told c).accepted r) i) here ∙ get_accepted c.limits c.words range (c.words.counts range) i low) (ap c.words.keys on)))

pub folded_tables_need_no_tail : FoldedTablesNeedNoTail
folded_tables_need_no_tail c crew pages rec column time below short each = let range : ℕ = range_of rec in
    needs_none c crew pages rec column time below short (λ i low on. each range i (accepted_at c.limits c.words (range * c.limits.tails + suc i)) (omega arith) (get_accepted c.limits c.words range (c.words.counts range) i low))

pub stamped_needs_no_tail : StampedNeedsNoTail
stamped_needs_no_tail a b stamped rec column time needs = subst (λ (w : Words). NeedsNoTail w rec column time) (sym stamped.rest) (record { folded = needs.folded; early = needs.early })
