-- What postings say in every sound state.
use Rattle.std.proofs.Common.{◌≡◌, ⊎_elim, inl, inr, ℕ, ◌+◌, ◌-◌, ◌<◌, refl, sym, subst, ap, ◌∙◌, arith}
use mathlib.Core.Logic.{dite}
use native.Mathlib.Decide.{ℕ_discrete, dec_lt}
use Rattle.lst_layout.specs.declared.limits.Limits.{Limits}
use Rattle.lst_model.specs.Histories.{all_acts_on}
use Rattle.lst_probe.proofs.Empty.{entries_leave_empty, runs_end}
use Rattle.lst_core_state.specs.Lists.{Has}
use Rattle.lst_core_state.specs.Cells.{tail_count}
use Rattle.lst_core_state.specs.Postings.{postings_size, value_first, value_position, IsAlike}
use Rattle.lst_core_state.specs.State.{Words, line, record_in, writes_of}
use Rattle.lst_core_state.specs.Sound.{InHand}
use Rattle.lst_core_state.specs.Laws.{ChainsAreHistory, AbsentIsUnwritten, PostingsHaveRoom, VersionsAreShown, PostingsAreTails, MarkedArePosted, EndsAreMarked, UnpostedMayBePosted}
use Rattle.lst_core_state.proofs.PostingsKept.{tails_low, value_low, ends_unposted}
use Rattle.lst_core_state.proofs.Sightings.{history_front, chain_history, absent_line}

-- fewer tails than positions
pub postings_have_room : PostingsHaveRoom
postings_have_room c sound column value = let l : Limits = c.limits in let w : Words = c.words in
    let empty = entries_leave_empty (w.postings column) (postings_size l) (tail_count l) (tails_low l sound.sized)
    (λ q _. dite (ℕ_discrete (w.postings column q) 0) (λ z. omega arith) (λ ne. (sound.versions.stored (w.postings column q) (sound.postings.filled column q (omega arith)).stored).few))
    (λ p q _ _ some e. sound.postings.once column p q some e) in
    runs_end (w.postings column) (postings_size l) (value_first l value) empty.0 (value_low l sound.sized value) empty.1 empty.2

pub versions_are_shown : VersionsAreShown
versions_are_shown c sound column value k low indexed short empty r t in_records on number is = let l : Limits = c.limits in let w : Words = c.words in
    let p = sound.postings.chained r in_records t on column low indexed number in
    let at : p.position ≡ value_position l value p.reached.offset = p.reached.is ∙ ap (λ (x : ℕ). value_position l x p.reached.offset) is in
    let some : 0 < w.postings column (value_position l value p.reached.offset) = subst (λ (q : ℕ). 0 < w.postings column q) at p.some in
    let before : p.reached.offset < k = dite (dec_lt p.reached.offset k) (λ h. h) (λ late. dite (ℕ_discrete p.reached.offset k)
    (λ e. absurd (let f : w.postings column (value_position l value p.reached.offset) ≡ w.postings column (value_position l value k) = ap (λ (i : ℕ). w.postings column (value_position l value i)) e in omega arith))
    (λ ne. absurd (let f = p.reached.filled k (grind (arith, late, ne)) in let g : w.postings column (value_position l (w.cells t (3 + column)) k) ≡ w.postings column (value_position l value k) = ap (λ (x : ℕ). w.postings column (value_position l x k)) is in omega arith))) in
    (p.reached.offset, before, some, subst (λ (q : ℕ). IsAlike l w.cells column r value (w.postings column q)) at (p.alike.0, p.alike.1 ∙ is))

pub postings_are_tails : PostingsAreTails
postings_are_tails c sound column q some = let l : Limits = c.limits in let w : Words = c.words in let t : ℕ = w.postings column q in let k = sound.postings.filled column q some in let s = sound.versions.stored t k.stored in record {
  posting = k;
  low = s.low;
  placed = s.index;
  place = ⊎_elim
      (λ (on : Has t (line l w (record_in l w.cells t))). inl on)
      (λ (h : InHand l c.known t). let hand = sound.versions.hands h.0 h.1 in let held = hand.holds (hand.some h.3) in
      inr (h.0, h.1, h.2, let here : record_in l w.cells t ≡ (c.known h.0).hold.latch - 1 = ap (record_in l w.cells) (sym h.2) ∙ hand.here h.3 in omega arith))
      s.place;
}

pub marked_are_posted : MarkedArePosted
marked_are_posted c sound s low held column bit = ((sound.postings.marks s low).posted column held bit).1

pub ends_are_marked : EndsAreMarked
ends_are_marked l w h column n whole number low passes empty = ends_unposted l w h column n whole number low passes empty

pub unposted_may_be_posted : UnpostedMayBePosted
unposted_may_be_posted c sound s low held column n indexed short bit clear facts = let m = sound.postings.marks s low in let q = m.found column held bit in (
  (q.0, indexed),
  record {
    number = q.1;
    reached = record { offset = n; short = short; is = refl; filled = λ i h. let f = (facts i h).1 in subst (λ (y : ℕ). 0 < y) (sym f.1) f.0 };
    unposted = m.unposted column held bit clear;
  },
)

-- ---- chains and the history

pub chains_are_history : ChainsAreHistory
chains_are_history c sound b low r in_records placed = let w : Words = c.words in sym (ap (all_acts_on (w.keys r)) (history_front w.clock b w.log w.begins (writes_of c.limits w) low) ∙ chain_history c sound b r in_records placed low)

pub absent_is_unwritten : AbsentIsUnwritten
absent_is_unwritten c sound b low k none = let w : Words = c.words in ap (all_acts_on k) (history_front w.clock b w.log w.begins (writes_of c.limits w) low) ∙ absent_line c sound b k none
