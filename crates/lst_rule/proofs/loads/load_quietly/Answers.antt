use Rattle.std.proofs.Common.{ap, sym, ◌∙◌, arith}
use Rattle.lst_layout.specs.Areas.{words_of}
use Rattle.lst_rule.specs.declared.view.View.{View}
use Rattle.lst_rule.proofs.Looking.{loads, word_low, loads_ready, loads_found, loads_looked, loads_still}
use Rattle.lst_rule.proofs.Acting.{still_seat}
use Rattle.lst_rule.proofs.loads.load_quietly.Goals as goal

pub load_word-requires-clause-table : goal.load_word-requires-clause-table
load_word-requires-clause-table c = (
  ap (λ z. z.table) c.seat.view_is ∙ c.requires.seat.table,
  (let a = word_low _ _ _ _ _ _ (loads c.args.store.now c.args.seat.now _ _ _ _ _ c.requires.seat (ap (λ z. z.view) c.seat.view_is) c.requires.host c.requires.place c.requires.address c.seat.invariant.3) in let b = c.args.store.now.wide in let d = ap words_of c.requires.seat.limits in omega arith),
)

pub load_word-requires-clause-ready : goal.load_word-requires-clause-ready
load_word-requires-clause-ready c = loads_ready _ _ _ _ _ _ (loads c.args.store.now c.args.seat.now _ _ _ _ _ c.requires.seat (ap (λ z. z.view) c.seat.view_is) c.requires.host c.requires.place c.requires.address c.seat.invariant.3)

pub invariant_of-seat : goal.invariant_of-seat
invariant_of-seat c = (
  c.load_word.ensures.table.2 ∙ c.seat.invariant.0,
  c.seat.invariant.1 ∙ sym (ap (λ (v : View). v.limits) c.load_word.ensures.told.0.now),
  c.seat.invariant.2 ∙ sym (ap (λ (v : View). v.hosts) c.load_word.ensures.told.0.now),
  loads_still _ _ _ _ _ _ (loads c.args.store.now c.args.seat.now _ _ _ _ _ c.requires.seat (ap (λ z. z.view) c.seat.view_is) c.requires.host c.requires.place c.requires.address c.seat.invariant.3) c.load_word.new.seat.me.0 c.load_word.result c.load_word.ensures.told c.requires.quiet,
)

pub returns-clause-seat : goal.returns-clause-seat
returns-clause-seat c = still_seat _ _ _ _ _ _ c.requires.seat (c.load_word.ensures.table.0 ∙ ap (λ z. z.table) c.seat.view_is)
    (loads_found _ _ _ _ _ _ (loads c.args.store.now c.args.seat.now _ _ _ _ _ c.requires.seat (ap (λ z. z.view) c.seat.view_is) c.requires.host c.requires.place c.requires.address c.seat.invariant.3) c.load_word.new.seat.me.0 c.load_word.result c.load_word.ensures.told).0

pub returns-clause-looked : goal.returns-clause-looked
returns-clause-looked c = loads_looked _ _ _ _ _ _ (loads c.args.store.now c.args.seat.now _ _ _ _ _ c.requires.seat (ap (λ z. z.view) c.seat.view_is) c.requires.host c.requires.place c.requires.address c.seat.invariant.3) c.load_word.new.seat.me.0 c.load_word.result c.load_word.ensures.told
