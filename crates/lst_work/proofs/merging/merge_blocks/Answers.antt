use Rattle.std.proofs.Common.{◌<◌, length, sym, subst, rules, arith}
use Rattle.std.specs.List.{All}
use Rattle.std.proofs.lemmas.List.Elements.{All-drop}
use Rattle.lst_work_laws.specs.Runs.{CanRun}
use Rattle.lst_work.specs.Blocks.{block_length}
use Rattle.lst_work.proofs.InBlocks.{cut_sizes}
use Rattle.lst_work.proofs.Merges.{merging_blocks_on}
use Rattle.lst_work.proofs.merging.merge_blocks.Goals as goal

pub merge_block-requires-clause-places : goal.merge_block-requires-clause-places
merge_block-requires-clause-places g c = let f = c.first_block.ensures in let s = cut_sizes c.loop-rest.rest.now c.first_block.result.1.now c.first_block.result.0.now (search rules) f.first f.rest in
    let p = c.loop-rest.invariant.2 in let q = c.requires.places in let r = s.1 in omega arith

pub overflow_add-place : goal.overflow_add-place
overflow_add-place g c = let f = c.first_block.ensures in let s = cut_sizes c.loop-rest.rest.now c.first_block.result.1.now c.first_block.result.0.now (search rules) f.first f.rest in
    let p = c.loop-rest.invariant.2 in let q = c.requires.places in let r = s.1 in record { fits = omega arith }

pub loop-rest-smaller : goal.loop-rest-smaller
loop-rest-smaller g c = let f = c.first_block.ensures in let s = cut_sizes c.loop-rest.rest.now c.first_block.result.1.now c.first_block.result.0.now (search rules) f.first f.rest in
    let q = s.0 in let r = s.1 in omega arith

pub loop-rest-preserved : goal.loop-rest-preserved
loop-rest-preserved g c = let e = c.in_ok-merge_block.ensures in let f = c.first_block.ensures in let x = c.loop-rest.invariant in
    let some : 0 < length c.loop-rest.rest.now = search rules in let s = cut_sizes c.loop-rest.rest.now c.first_block.result.1.now c.first_block.result.0.now some f.first f.rest in (
      merging_blocks_on c.args.store.now c.args.lines.now c.loop-rest.rest.now c.first_block.result.1.now c.first_block.result.0.now c.args.merger.now c.loop-rest.merger c.merge_block.new.merger c.args.queue.now c.loop-rest.queue c.merge_block.new.queue x.0 some f.first f.rest e.merger e.merged,
      subst (All (CanRun c.args.store.now.layout.limits)) (sym f.rest) (All-drop (CanRun c.args.store.now.layout.limits) block_length c.loop-rest.rest.now x.1),
      (let p = x.2 in let r = s.1 in omega arith),
    )

pub merge_block-requires-clause-merger : goal.merge_block-requires-clause-merger
merge_block-requires-clause-merger g c = c.loop-rest.invariant.0.ready

pub returns-in_err-merge_block-clause-merger : goal.returns-in_err-merge_block-clause-merger
returns-in_err-merge_block-clause-merger g c = c.in_err-merge_block.ensures.merger

pub returns-clause-merger : goal.returns-clause-merger
returns-clause-merger g c = c.loop-rest.invariant.0.ready
