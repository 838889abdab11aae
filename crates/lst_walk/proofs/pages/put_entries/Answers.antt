use Rattle.std.proofs.Common.{List, length, sym, ap, subst, arith, not, ◌∙◌}
use Rattle.lst_walk.specs.declared.pages.Entry.{Entry}
use Rattle.lst_walk.specs.Taking.{TakesAll}
use Rattle.lst_core_state.specs.declared.known.Known.{Known}
use Rattle.lst_rule.specs.Rule.{knows}
use Rattle.lst_rule.proofs.Watching.{same_pins}
use Rattle.lst_walk.proofs.Loading.{pin_none, pin_some}
use Rattle.lst_layout.specs.declared.layout.Layout.{Layout}
use Rattle.lst_walk.proofs.Rowing.{takes_none, takes_next, takes_blank}
use Rattle.lst_walk.proofs.pages.put_entries.Goals as goal

pub loop-column-init : goal.loop-column-init
loop-column-init c = takes_none c.args.store.now c.args.seat.now c.args.s c.args.rec.number c.args.entries.now (ap length c.requires.blank) c.requires.reader

pub loop-column-preserved : goal.loop-column-preserved
loop-column-preserved c = takes_next c.args.store.now c.args.seat.now.view c.loop-column.seat c.taken.new.seat c.args.s c.args.rec.number c.loop-column.column c.loop-column.entries c.taken.result (let l = ap (λ (y : Layout). y.limits.columns) c.layout.ensures in let t = c.loop-column-test.true in let few = c.args.store.now.layout.valid.columns.1 in omega arith)
    c.loop-column.invariant c.taken.ensures.reader c.taken.ensures.skims (λ pinned. c.taken.ensures.takes) (λ free. absurd (let some = pin_some c.pinned.result (knows c.args.seat.now.view c.args.s).pages.session.pin c.pinned.ensures (c.is_none.ensures ∙ ap (λ b. not b) c.if-is_none.false) in let same = (same_pins (knows c.args.seat.now.view c.args.s) (knows c.loop-column.seat.view c.args.s) c.loop-column.invariant.skims.watched.watches).pin in omega arith))

pub returns-then-is_none-clause-takes : goal.returns-then-is_none-clause-takes
returns-then-is_none-clause-takes c = subst (λ (es : List Entry). TakesAll c.args.store.now c.args.seat.now.view c.args.seat.now c.args.s c.args.rec.number c.args.store.now.layout.limits.columns es) (sym c.requires.blank) (takes_blank c.args.store.now c.args.seat.now c.args.s c.args.rec.number c.args.store.now.layout.limits.columns c.requires.reader
    (pin_none c.pinned.result (knows c.args.seat.now.view c.args.s).pages.session.pin c.pinned.ensures (c.is_none.ensures ∙ ap (λ b. not b) c.if-is_none.true)))

pub taken-requires-clause-pinned : goal.taken-requires-clause-pinned
taken-requires-clause-pinned c = let some = pin_some c.pinned.result (knows c.args.seat.now.view c.args.s).pages.session.pin c.pinned.ensures (c.is_none.ensures ∙ ap (λ b. not b) c.if-is_none.false) in let same = (same_pins (knows c.args.seat.now.view c.args.s) (knows c.loop-column.seat.view c.args.s) c.loop-column.invariant.skims.watched.watches).pin in omega arith

pub taken-requires-clause-begin : goal.taken-requires-clause-begin
taken-requires-clause-begin c = c.begin-begin.ensures ∙ sym (ap (λ (k : Known). k.begin) c.loop-column.invariant.skims.watched.watches.is)

pub pinned-requires : goal.pinned-requires
pinned-requires c = c.requires.reader.host

pub returns-then-is_none-clause-reader : goal.returns-then-is_none-clause-reader
returns-then-is_none-clause-reader c = c.requires.reader

pub begin-begin-requires-clause-host : goal.begin-begin-requires-clause-host
begin-begin-requires-clause-host c = c.requires.reader.host

pub begin-begin-requires-clause-is_open : goal.begin-begin-requires-clause-is_open
begin-begin-requires-clause-is_open c = c.requires.reader.opened

pub taken-requires-clause-reader : goal.taken-requires-clause-reader
taken-requires-clause-reader c = c.loop-column.invariant.reader

pub taken-requires-clause-rec : goal.taken-requires-clause-rec
taken-requires-clause-rec c = c.requires.rec

pub returns-clause-reader : goal.returns-clause-reader
returns-clause-reader c = c.loop-column.invariant.reader
