-- Where a session may make a step, its numbers fit their words.
use Rattle.std.proofs.Common.{◌≡◌, ℕ, ◌+◌, ◌-◌, ◌*◌, ◌/◌, ◌<◌, ◌≤◌, ◌^◌, true, length, refl, sym, subst, ap, ◌∙◌, arith, inl}
use mathlib.Core.Logic.{dite}
use native.Mathlib.Decide.{ℕ_discrete}
use Rattle.lst_layout.specs.declared.limits.Limits.{Limits}
use Rattle.lst_core_state.specs.Lists.{Has}
use Rattle.lst_core_state.specs.declared.known.Known.{Known}
use Rattle.lst_core_state.specs.declared.events.Event.{Event}
use Rattle.lst_core_state.specs.Cells.{range_of, tail_at}
use Rattle.lst_core_state.specs.State.{Words, Core, line, back_in, head_of}
use Rattle.lst_core_state.specs.Step.{IsWithin, Enabled}
use Rattle.lst_core_state.specs.Sound.{Sound}
use Rattle.lst_core_state.proofs.CellsKept.{tail_at-some}
use Rattle.lst_core_state.proofs.Room.{seen_few}
use Rattle.lst_core_state.specs.Numbers.{numbers_of, Allows}
use Rattle.lst_core_state.specs.Bounds.{IsWritable}
use Rattle.lst_core_state.proofs.Numbered.{enabled_allows}
use Rattle.lst_core_state.proofs.Bounds.{begin_fits, tail_fits, head_fits, rows_few, tails_few}
use Rattle.lst_core_state.proofs.Lists.{first_link}

module _ (c : Core) (sound : Sound c) (s : ℕ) (low : s < c.limits.sessions) where
  abbrev L : Limits
  L = c.limits

  abbrev W : Words
  W = c.words

  abbrev v : Known
  v = c.known s

  head_low : 0 < v.hold.latch → v.hold.head < 2 ^ 32
  head_low held = let k = sound.versions.hands s low in let r : ℕ = v.hold.latch - 1 in let first = k.low in let L' = sound.versions.lines r (omega arith) in let half : W.heads r / 2 ≡ v.hold.head = (let h = k.latched held in omega arith) in let top = tails_few L sound.sized in
      dite (ℕ_discrete v.hold.head 0) (λ f. omega arith) (λ f.
      let at : head_of L r (W.heads r) ≡ range_of r * L.tails + v.hold.head = ap (tail_at L.tails (range_of r)) half ∙ tail_at-some L.tails (range_of r) v.hold.head (omega arith) in
      let q = first_link (back_in L W.cells) (head_of L r (W.heads r)) (line L W r) L'.links (omega arith) in
      let has : Has (head_of L r (W.heads r)) (line L W r) = subst (Has (head_of L r (W.heads r))) (sym q.1) (inl refl) in
      let bound = (sound.versions.stored (head_of L r (W.heads r)) (L'.stored (head_of L r (W.heads r)) has)).few in omega arith)

  whole_low : v.hold.is_whole ≡ true → (range_of (v.hold.latch - 1) * L.tails < v.hold.tail) × (v.hold.tail ≤ range_of (v.hold.latch - 1) * L.tails + L.tails) × (0 < v.hold.latch)
  whole_low whole = let k = sound.versions.hands s low in let some = k.some whole in let d = k.counted some in (d.0, d.1, k.holds some)

  pub writable : (e : Event) → IsWithin L e → Enabled L v e → IsWritable L (numbers_of v) e
  writable e within ok = let fits : Allows L (numbers_of v) e = enabled_allows L sound.sized v e within ok in let q = seen_few c sound s low in let rows = rows_few L sound.sized in let txns = sound.sized.txns.1 in record {
    seen = (let a = q.0 in omega arith);
    number = (let a = q.1 in omega arith);
    begin = begin_fits L (numbers_of v) e fits;
    hold = (sound.versions.hands s low).low;
    head = head_fits L (numbers_of v) e fits head_low;
    tail = tail_fits L (numbers_of v) e fits whole_low;
  }

  pub numbers_few : (v.number ≤ L.txns) × (length v.seen < 2 ^ 32)
  numbers_few = let q = seen_few c sound s low in let rows = rows_few L sound.sized in (q.1, (let a = q.0 in omega arith))
