use Rattle.std.proofs.Common.{◌<◌, length, refl, sym, subst, rules, arith}
use Rattle.std.specs.List.{All}
use Rattle.std.proofs.lemmas.List.Elements.{All-drop, All-take}
use Rattle.lst_work_laws.specs.Runs.{CanRun}
use Rattle.lst_work.specs.Blocks.{block_length}
use Rattle.lst_work.proofs.InBlocks.{cut_sizes}
use Rattle.lst_work.proofs.Running.{running_blocks_first, running_blocks_on}
use Rattle.lst_work.proofs.workers.run_blocks.Goals as goal

pub loop-rest-init : goal.loop-rest-init
loop-rest-init g c = (running_blocks_first c.args.store.now c.args.lines.now c.args.worker.now c.requires.ready, c.requires.can, refl)

pub run_block-requires-clause-can : goal.run_block-requires-clause-can
run_block-requires-clause-can g c = subst (All (CanRun c.args.store.now.layout.limits)) (sym c.first_block.ensures.first) (All-take (CanRun c.args.store.now.layout.limits) block_length c.loop-rest.rest.now c.loop-rest.invariant.1)

pub run_block-requires-clause-places : goal.run_block-requires-clause-places
run_block-requires-clause-places g c = let f = c.first_block.ensures in let s = cut_sizes c.loop-rest.rest.now c.first_block.result.1.now c.first_block.result.0.now (search rules) f.first f.rest in
    let p = c.loop-rest.invariant.2 in let q = c.requires.places in let r = s.1 in omega arith

pub overflow_add-place : goal.overflow_add-place
overflow_add-place g c = let f = c.first_block.ensures in let s = cut_sizes c.loop-rest.rest.now c.first_block.result.1.now c.first_block.result.0.now (search rules) f.first f.rest in
    let p = c.loop-rest.invariant.2 in let q = c.requires.places in let r = s.1 in record { fits = omega arith }

pub loop-rest-smaller : goal.loop-rest-smaller
loop-rest-smaller g c = let f = c.first_block.ensures in let s = cut_sizes c.loop-rest.rest.now c.first_block.result.1.now c.first_block.result.0.now (search rules) f.first f.rest in
    let q = s.0 in let r = s.1 in omega arith

pub loop-rest-preserved : goal.loop-rest-preserved
loop-rest-preserved g c = let e = c.in_ok-run_block.ensures in let f = c.first_block.ensures in let x = c.loop-rest.invariant in
    let some : 0 < length c.loop-rest.rest.now = search rules in let s = cut_sizes c.loop-rest.rest.now c.first_block.result.1.now c.first_block.result.0.now some f.first f.rest in (
      running_blocks_on c.args.store.now c.args.lines.now c.loop-rest.rest.now c.first_block.result.1.now c.first_block.result.0.now c.args.worker.now c.loop-rest.worker c.run_block.new.worker x.0 some f.first f.rest e.ready e.number e.ran,
      subst (All (CanRun c.args.store.now.layout.limits)) (sym f.rest) (All-drop (CanRun c.args.store.now.layout.limits) block_length c.loop-rest.rest.now x.1),
      (let p = x.2 in let r = s.1 in omega arith),
    )
