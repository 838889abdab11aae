use Rattle.std.proofs.Common.{ap, sym, ◌∙◌, arith}
use Rattle.lst_layout.specs.Areas.{words_of}
use Rattle.lst_core_state.specs.Numbers.{numbers_look}
use Rattle.lst_rule.specs.declared.view.View.{View}
use Rattle.lst_rule.proofs.Looking.{loads, word_low, loads_ready, loads_found, loads_looked, loads_tell, loads_read, loads_low}
use Rattle.lst_rule.proofs.Acting.{still_seat}
use Rattle.lst_rule.proofs.loads.load_noted.Goals as goal

pub load_word-found-requires-clause-table : goal.load_word-found-requires-clause-table
load_word-found-requires-clause-table c = (
  ap (λ z. z.table) c.seat.view_is ∙ c.requires.seat.table,
  (let a = word_low _ _ _ _ _ _ (loads c.args.store.now c.args.seat.now _ _ _ _ _ c.requires.seat (ap (λ z. z.view) c.seat.view_is) c.requires.host c.requires.place c.requires.address c.seat.invariant.3) in let b = c.args.store.now.wide in let d = ap words_of c.requires.seat.limits in omega arith),
)

pub load_word-found-requires-clause-ready : goal.load_word-found-requires-clause-ready
load_word-found-requires-clause-ready c = loads_ready _ _ _ _ _ _ (loads c.args.store.now c.args.seat.now _ _ _ _ _ c.requires.seat (ap (λ z. z.view) c.seat.view_is) c.requires.host c.requires.place c.requires.address c.seat.invariant.3)

pub index_mut-requires : goal.index_mut-requires
index_mut-requires c = let a = loads_low _ _ _ _ _ _ (loads c.args.store.now c.args.seat.now _ _ _ _ _ c.requires.seat (ap (λ z. z.view) c.seat.view_is) c.requires.host c.requires.place c.requires.address c.seat.invariant.3) in let e = c.seat.inside.numbers.ok.0 in omega arith

pub invariant_of-seat : goal.invariant_of-seat
invariant_of-seat c = (
  c.load_word-found.ensures.table.2 ∙ c.seat.invariant.0,
  c.seat.invariant.1 ∙ sym (ap (λ (v : View). v.limits) c.load_word-found.ensures.told.0.now),
  c.seat.invariant.2 ∙ sym (ap (λ (v : View). v.hosts) c.load_word-found.ensures.told.0.now),
  loads_tell _ _ _ _ _ _ (loads c.args.store.now c.args.seat.now _ _ _ _ _ c.requires.seat (ap (λ z. z.view) c.seat.view_is) c.requires.host c.requires.place c.requires.address c.seat.invariant.3) c.load_word-found.new.seat.me.0 c.load_word-found.result c.load_word-found.ensures.told c.look.new.now
      (c.look.ensures ∙ (λ j. numbers_look (sym c.requires.seat.limits j) c.load_word-found.result (loads_read _ _ _ _ _ _ (loads c.args.store.now c.args.seat.now _ _ _ _ _ c.requires.seat (ap (λ z. z.view) c.seat.view_is) c.requires.host c.requires.place c.requires.address c.seat.invariant.3) c.index_mut.result.now c.index_mut.ensures.value j) c.args.place)),
)

pub returns-clause-seat : goal.returns-clause-seat
returns-clause-seat c = still_seat _ _ _ _ _ _ c.requires.seat (c.load_word-found.ensures.table.0 ∙ ap (λ z. z.table) c.seat.view_is)
    (loads_found _ _ _ _ _ _ (loads c.args.store.now c.args.seat.now _ _ _ _ _ c.requires.seat (ap (λ z. z.view) c.seat.view_is) c.requires.host c.requires.place c.requires.address c.seat.invariant.3) c.load_word-found.new.seat.me.0 c.load_word-found.result c.load_word-found.ensures.told).0

pub returns-clause-looked : goal.returns-clause-looked
returns-clause-looked c = loads_looked _ _ _ _ _ _ (loads c.args.store.now c.args.seat.now _ _ _ _ _ c.requires.seat (ap (λ z. z.view) c.seat.view_is) c.requires.host c.requires.place c.requires.address c.seat.invariant.3) c.load_word-found.new.seat.me.0 c.load_word-found.result c.load_word-found.ensures.told
