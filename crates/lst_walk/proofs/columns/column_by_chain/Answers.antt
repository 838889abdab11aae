use Rattle.std.proofs.Common.{sym, ap, ◌∙◌}
use Rattle.lst_core_state.specs.declared.known.Known.{Known}
use Rattle.lst_rule.proofs.Finds.{loads_none}
use Rattle.lst_walk.specs.Chains.{IsTailOf}
use Rattle.lst_walk.proofs.Ahead.{loads_then}
use Rattle.lst_walk.proofs.Reading.{watched_on}
use Rattle.lst_walk.proofs.Walking.{cell_start}
use Rattle.lst_walk.proofs.columns.column_by_chain.Goals as goal

pub column_from-requires-clause-begin : goal.column_from-requires-clause-begin
column_from-requires-clause-begin c = c.requires.begin ∙ sym (ap (λ (k : Known). k.begin) c.head-number.ensures.watched.watches.is)

pub column_from-requires-clause-walk : goal.column_from-requires-clause-walk
column_from-requires-clause-walk c = (
  c.args.seat.now.view,
  record {
    host = c.requires.reader.host;
    opened = c.requires.reader.opened;
    walk = cell_start c.args.store.now c.args.seat.now.view c.head-number.new.seat c.args.s c.args.rec.number c.head-number.result c.consider.ensures c.requires.reader.host c.requires.reader.opened c.head-number.ensures.reader c.head-number.ensures.watched c.head-number.ensures.possible c.head-number.ensures.chain c.args.c;
  },
)

pub returns-clause-watched : goal.returns-clause-watched
returns-clause-watched c = watched_on c.args.seat.now.view c.head-number.new.seat.view c.column_from.new.seat.view c.args.s c.head-number.ensures.watched c.column_from.ensures.watched

pub returns-clause-cell : goal.returns-clause-cell
returns-clause-cell c = (c.column_from.ensures.told c.args.seat.now.view record {
  host = c.requires.reader.host;
  opened = c.requires.reader.opened;
  walk = cell_start c.args.store.now c.args.seat.now.view c.head-number.new.seat c.args.s c.args.rec.number c.head-number.result c.consider.ensures c.requires.reader.host c.requires.reader.opened c.head-number.ensures.reader c.head-number.ensures.watched c.head-number.ensures.possible c.head-number.ensures.chain c.args.c;
}).cell

pub returns-clause-walk : goal.returns-clause-walk
returns-clause-walk c = (c.column_from.ensures.told c.args.seat.now.view record {
  host = c.requires.reader.host;
  opened = c.requires.reader.opened;
  walk = cell_start c.args.store.now c.args.seat.now.view c.head-number.new.seat c.args.s c.args.rec.number c.head-number.result c.consider.ensures c.requires.reader.host c.requires.reader.opened c.head-number.ensures.reader c.head-number.ensures.watched c.head-number.ensures.possible c.head-number.ensures.chain c.args.c;
}).walk

pub returns-clause-saves : goal.returns-clause-saves
returns-clause-saves c = let looked = c.head-number.ensures.looked in record {
  headed = c.head-number.new.seat.view;
  word = looked.0;
  head = looked.1;
  quiet = λ none. c.column_from.ensures.quiet (looked.2 ∙ none) ∙ ap (λ (k : Known). k.finds) looked.1.view.now;
}

pub returns-clause-loads : goal.returns-clause-loads
returns-clause-loads c = loads_then c.args.seat.now.view c.head-number.new.seat.view c.column_from.new.seat.view c.args.s c.args.rec.number
    (loads_none (IsTailOf c.head-number.new.seat.view c.args.s c.args.rec.number) c.args.seat.now.view c.head-number.new.seat.view c.args.s (ap (λ (k : Known). k.finds) c.head-number.ensures.looked.1.view.now))
    c.column_from.ensures.loads c.column_from.ensures.watched
