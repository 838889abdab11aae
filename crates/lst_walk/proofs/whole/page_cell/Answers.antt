use Rattle.std.proofs.Common.{ℕ, ◌≤◌, cond, refl, sym, ap, subst, ◌∙◌, le-leb, arith}
use Rattle.std.specs.Prelude.{Bool}
use Rattle.lst_bits.specs.Times.{time_of}
use Rattle.lst_core_state.specs.declared.known.Known.{Known}
use Rattle.lst_walk.specs.declared.pages.Entry.{Entry}
use Rattle.lst_walk.specs.Packed.{skims_on}
use Rattle.lst_walk.specs.Pages.{Takes}
use Rattle.lst_walk.proofs.Paging.{takes}
use Rattle.lst_walk.proofs.Straight.{taken_packs, tells_cell}
use Rattle.lst_walk.proofs.whole.page_cell.Goals as goal
use Rattle.lst_walk.proofs.whole.page_cell.Goals.{After-unpack_time-time}

-- what the words that were found say
abbrev entry : After-unpack_time-time → Entry
entry c = record { frame = c.look-found.result.frame; until = c.look-found.result.tps; is_present = c.unpack_time-time.result.1 }

-- where the time is at most the begin, the entry may be used from the TPS on
timely : (c : After-unpack_time-time) → c.unpack_time-time.result.0 ≤ c.args.begin → Takes c.args.seat.now.view c.look-found.new.seat.view c.args.s c.args.rec.number c.args.column (entry c)
timely c early = let looks = c.look-found.ensures.looks in let same = c.requires.begin ∙ sym (ap (λ (k : Known). k.begin) c.look-found.ensures.skims.watched.watches.is) in
    let low = subst (λ (n : ℕ). n ≤ c.args.begin) c.unpack_time-time.ensures.time early in
    takes c.args.seat.now.view looks.taken looks.told c.look-found.new.seat.view c.args.s c.args.rec.number c.args.column c.look-found.result.frame c.look-found.result.tps c.look-found.result.stamp c.requires.reader.host c.requires.reader.own looks.page looks.lineage looks.time
    (entry c) refl (sym (ap (λ (b : Bool). cond b c.look-found.result.tps 0) (le-leb (time_of c.look-found.result.stamp) _ (subst (λ (n : ℕ). time_of c.look-found.result.stamp ≤ n) same low)))) c.unpack_time-time.ensures.present

pub numbered_cell-requires-clause-frame : goal.numbered_cell-requires-clause-frame
numbered_cell-requires-clause-frame c = (timely (goal.at.numbered_cell-requires-clause-frame c).After-unpack_time-time c.if-time-begin.true).low

pub numbered_cell-requires-clause-packed : goal.numbered_cell-requires-clause-packed
numbered_cell-requires-clause-packed c = let at = (goal.at.numbered_cell-requires-clause-packed c).After-unpack_time-time in let t = timely at c.if-time-begin.true in (t.page.right.entries.values, taken_packs c.args.seat.now.view c.look-found.new.seat.view c.args.s c.args.rec.number c.args.column (entry at) t)

pub returns-then-time-begin-clause-skims : goal.returns-then-time-begin-clause-skims
returns-then-time-begin-clause-skims c = skims_on c.args.seat.now.view c.look-found.new.seat.view c.numbered_cell.new.seat.view c.args.s c.look-found.ensures.skims c.numbered_cell.ensures.skims

pub returns-then-time-begin-clause-told : goal.returns-then-time-begin-clause-told
returns-then-time-begin-clause-told c = let at = (goal.at.returns-then-time-begin-clause-told c).After-unpack_time-time in
    tells_cell c.args.seat.now.view c.look-found.new.seat.view c.numbered_cell.new.seat.view c.args.s c.args.rec.number c.args.number c.args.column (entry at) c.numbered_cell.result (timely at c.if-time-begin.true) (let below = c.if-number-found.true in omega arith) (let below = c.if-number-found.true in omega arith) c.if-is_present.true c.numbered_cell.ensures.skims.watched c.numbered_cell.ensures.cell
