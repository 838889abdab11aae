use Rattle.std.proofs.Common.{codes}
use Rattle.lst_script.proofs.VerbNames.{names_it, other, names_none}
use Rattle.lst_script.proofs.verbs.verb_of.Goals as goal

pub returns-then-eq : goal.returns-then-eq
returns-then-eq c = names_it c.args.word.now c.as_slice.result.now (codes "begin") c.eq.result c.as_slice.ensures c.eq.ensures c.if-eq.true

pub returns-then-eq-2 : goal.returns-then-eq-2
returns-then-eq-2 c = names_it c.args.word.now c.as_slice-else-eq.result.now (codes "asof") c.eq-else-eq.result c.as_slice-else-eq.ensures c.eq-else-eq.ensures c.if-eq-2.true

pub returns-then-eq-3 : goal.returns-then-eq-3
returns-then-eq-3 c = names_it c.args.word.now c.as_slice-else-eq-2.result.now (codes "get") c.eq-else-eq-2.result c.as_slice-else-eq-2.ensures c.eq-else-eq-2.ensures c.if-eq-3.true

pub returns-then-eq-4 : goal.returns-then-eq-4
returns-then-eq-4 c = names_it c.args.word.now c.as_slice-else-eq-3.result.now (codes "insert") c.eq-else-eq-3.result c.as_slice-else-eq-3.ensures c.eq-else-eq-3.ensures c.if-eq-4.true

pub returns-then-eq-5 : goal.returns-then-eq-5
returns-then-eq-5 c = names_it c.args.word.now c.as_slice-else-eq-4.result.now (codes "update") c.eq-else-eq-4.result c.as_slice-else-eq-4.ensures c.eq-else-eq-4.ensures c.if-eq-5.true

pub returns-then-eq-6 : goal.returns-then-eq-6
returns-then-eq-6 c = names_it c.args.word.now c.as_slice-else-eq-5.result.now (codes "delete") c.eq-else-eq-5.result c.as_slice-else-eq-5.ensures c.eq-else-eq-5.ensures c.if-eq-6.true

pub returns-then-eq-7 : goal.returns-then-eq-7
returns-then-eq-7 c = names_it c.args.word.now c.as_slice-else-eq-6.result.now (codes "sum") c.eq-else-eq-6.result c.as_slice-else-eq-6.ensures c.eq-else-eq-6.ensures c.if-eq-7.true

pub returns-then-eq-8 : goal.returns-then-eq-8
returns-then-eq-8 c = names_it c.args.word.now c.as_slice-else-eq-7.result.now (codes "count") c.eq-else-eq-7.result c.as_slice-else-eq-7.ensures c.eq-else-eq-7.ensures c.if-eq-8.true

pub returns-then-eq-9 : goal.returns-then-eq-9
returns-then-eq-9 c = names_it c.args.word.now c.as_slice-else-eq-8.result.now (codes "scan") c.eq-else-eq-8.result c.as_slice-else-eq-8.ensures c.eq-else-eq-8.ensures c.if-eq-9.true

pub returns-then-eq-10 : goal.returns-then-eq-10
returns-then-eq-10 c = names_it c.args.word.now c.as_slice-else-eq-9.result.now (codes "find") c.eq-else-eq-9.result c.as_slice-else-eq-9.ensures c.eq-else-eq-9.ensures c.if-eq-10.true

pub returns-then-eq-11 : goal.returns-then-eq-11
returns-then-eq-11 c = names_it c.args.word.now c.as_slice-else-eq-10.result.now (codes "commit") c.eq-else-eq-10.result c.as_slice-else-eq-10.ensures c.eq-else-eq-10.ensures c.if-eq-11.true

pub returns-then-eq-12 : goal.returns-then-eq-12
returns-then-eq-12 c = names_it c.args.word.now c.as_slice-else-eq-11.result.now (codes "abort") c.eq-else-eq-11.result c.as_slice-else-eq-11.ensures c.eq-else-eq-11.ensures c.if-eq-12.true

pub returns-else-eq-12 : goal.returns-else-eq-12
returns-else-eq-12 c = names_none c.args.word.now (other c.args.word.now c.as_slice.result.now (codes "begin") c.eq.result c.as_slice.ensures c.eq.ensures c.if-eq.false) (other c.args.word.now c.as_slice-else-eq.result.now (codes "asof") c.eq-else-eq.result c.as_slice-else-eq.ensures c.eq-else-eq.ensures c.if-eq-2.false) (other c.args.word.now c.as_slice-else-eq-2.result.now (codes "get") c.eq-else-eq-2.result c.as_slice-else-eq-2.ensures c.eq-else-eq-2.ensures c.if-eq-3.false) (other c.args.word.now c.as_slice-else-eq-3.result.now (codes "insert") c.eq-else-eq-3.result c.as_slice-else-eq-3.ensures c.eq-else-eq-3.ensures c.if-eq-4.false) (other c.args.word.now c.as_slice-else-eq-4.result.now (codes "update") c.eq-else-eq-4.result c.as_slice-else-eq-4.ensures c.eq-else-eq-4.ensures c.if-eq-5.false) (other c.args.word.now c.as_slice-else-eq-5.result.now (codes "delete") c.eq-else-eq-5.result c.as_slice-else-eq-5.ensures c.eq-else-eq-5.ensures c.if-eq-6.false) (other c.args.word.now c.as_slice-else-eq-6.result.now (codes "sum") c.eq-else-eq-6.result c.as_slice-else-eq-6.ensures c.eq-else-eq-6.ensures c.if-eq-7.false) (other c.args.word.now c.as_slice-else-eq-7.result.now (codes "count") c.eq-else-eq-7.result c.as_slice-else-eq-7.ensures c.eq-else-eq-7.ensures c.if-eq-8.false) (other c.args.word.now c.as_slice-else-eq-8.result.now (codes "scan") c.eq-else-eq-8.result c.as_slice-else-eq-8.ensures c.eq-else-eq-8.ensures c.if-eq-9.false) (other c.args.word.now c.as_slice-else-eq-9.result.now (codes "find") c.eq-else-eq-9.result c.as_slice-else-eq-9.ensures c.eq-else-eq-9.ensures c.if-eq-10.false) (other c.args.word.now c.as_slice-else-eq-10.result.now (codes "commit") c.eq-else-eq-10.result c.as_slice-else-eq-10.ensures c.eq-else-eq-10.ensures c.if-eq-11.false) (other c.args.word.now c.as_slice-else-eq-11.result.now (codes "abort") c.eq-else-eq-11.result c.as_slice-else-eq-11.ensures c.eq-else-eq-11.ensures c.if-eq-12.false)
