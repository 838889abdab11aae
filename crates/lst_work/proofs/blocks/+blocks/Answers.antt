use Rattle.std.proofs.Common.{◌≡◌, ◌+◌, List, ◌∷◌, ◌++◌, length, sym, subst, rules, arith}
use Rattle.std.specs.List.{All}
use Rattle.std.proofs.lemmas.List.Elements.{All-take, All-drop}
use Rattle.lst_model.specs.Lines.{LineFits}
use Rattle.lst_work.specs.declared.blocks.Block.{Block}
use Rattle.lst_work.specs.Blocks.{block_length, AreAsLong, AreInBlockOrder}
use Rattle.lst_work.proofs.BlockOrders.{no_blocks, some_lines, long_first, long_others, in_order_on}
use Rattle.lst_work.proofs.InBlocks.{cut_sizes}
use Rattle.lst_work.proofs.blocks.+blocks.Goals as goal

pub order_blocks-returns-in_default-clause-order :
    goal.order_blocks-returns-in_default-clause-order
order_blocks-returns-in_default-clause-order g t c =
    no_blocks c.args.sessions c.args.lines.now c.args.blocks.now c.args.places.now c.requires.long c.in_default.ensures.cases c.requires.room

pub order_blocks-split_at_mut-first-requires :
    goal.order_blocks-split_at_mut-first-requires
order_blocks-split_at_mut-first-requires g t c =
    let f = c.first_block.ensures in let r = c.requires.room in let s = (cut_sizes c.args.lines.now c.first_block.result.1.now c.first_block.result.0.now (some_lines c.args.sessions c.args.lines.now c.in-Some.block.now c.in-Some.others.now (subst (AreAsLong c.args.sessions c.args.lines.now) c.in-Some.ensures.cases.0 c.requires.long)) f.first f.rest).1 in omega arith

pub order_blocks-order_block-requires-clause-fits :
    goal.order_blocks-order_block-requires-clause-fits
order_blocks-order_block-requires-clause-fits g t c =
    let fits = c.requires.fits in (fits.0, fits.1, subst (All (LineFits c.args.sessions fits.0 fits.1)) (sym c.first_block.ensures.first) (All-take (LineFits c.args.sessions fits.0 fits.1) block_length c.args.lines.now fits.2))

pub order_blocks-order_block-requires-clause-long :
    goal.order_blocks-order_block-requires-clause-long
order_blocks-order_block-requires-clause-long g t c =
    let f = c.first_block.ensures in long_first c.args.sessions c.args.lines.now c.first_block.result.0.now c.first_block.result.1.now c.in-Some.block.now c.in-Some.others.now f.first f.rest (subst (AreAsLong c.args.sessions c.args.lines.now) c.in-Some.ensures.cases.0 c.requires.long)

pub order_blocks-order_beside-requires-clause-fits :
    goal.order_blocks-order_beside-requires-clause-fits
order_blocks-order_beside-requires-clause-fits g t c κs within =
    let fits = c.requires.fits in (fits.0, fits.1, subst (All (LineFits c.args.sessions fits.0 fits.1)) (sym c.first_block.ensures.first) (All-take (LineFits c.args.sessions fits.0 fits.1) block_length c.args.lines.now fits.2))

pub order_blocks-order_beside-requires-clause-long :
    goal.order_blocks-order_beside-requires-clause-long
order_blocks-order_beside-requires-clause-long g t c κs within =
    let f = c.first_block.ensures in long_first c.args.sessions c.args.lines.now c.first_block.result.0.now c.first_block.result.1.now c.in-Some.block.now c.in-Some.others.now f.first f.rest (subst (AreAsLong c.args.sessions c.args.lines.now) c.in-Some.ensures.cases.0 c.requires.long)

pub order_blocks-order_beside-requires-clause-others_wide :
    goal.order_blocks-order_beside-requires-clause-others_wide
order_blocks-order_beside-requires-clause-others_wide g t c κs within =
    All-drop (λ block. length block.queues.items ≡ c.args.sessions + 1) 1 (c.in-Some.block.now ∷ c.in-Some.others.now) (subst (All (λ block. length block.queues.items ≡ c.args.sessions + 1)) c.in-Some.ensures.cases.0 c.requires.wide)

pub order_blocks-order_beside-requires-clause-others_fit :
    goal.order_blocks-order_beside-requires-clause-others_fit
order_blocks-order_beside-requires-clause-others_fit g t c κs within =
    let fits = c.requires.fits in (fits.0, fits.1, subst (All (LineFits c.args.sessions fits.0 fits.1)) (sym c.first_block.ensures.rest) (All-drop (LineFits c.args.sessions fits.0 fits.1) block_length c.args.lines.now fits.2))

pub order_blocks-order_beside-requires-clause-others_long :
    goal.order_blocks-order_beside-requires-clause-others_long
order_blocks-order_beside-requires-clause-others_long g t c κs within =
    let f = c.first_block.ensures in long_others c.args.sessions c.args.lines.now c.first_block.result.0.now c.first_block.result.1.now c.in-Some.block.now c.in-Some.others.now f.first f.rest (subst (AreAsLong c.args.sessions c.args.lines.now) c.in-Some.ensures.cases.0 c.requires.long)

pub order_blocks-order_beside-requires-clause-others_room :
    goal.order_blocks-order_beside-requires-clause-others_room
order_blocks-order_beside-requires-clause-others_room g t c κs within =
    let f = c.first_block.ensures in let r = c.requires.room in let b = c.split_at_mut-first.ensures.back_len in let s = (cut_sizes c.args.lines.now c.first_block.result.1.now c.first_block.result.0.now (some_lines c.args.sessions c.args.lines.now c.in-Some.block.now c.in-Some.others.now (subst (AreAsLong c.args.sessions c.args.lines.now) c.in-Some.ensures.cases.0 c.requires.long)) f.first f.rest).1 in omega arith

pub order_blocks-returns-then-is_empty-clause-order :
    goal.order_blocks-returns-then-is_empty-clause-order
order_blocks-returns-then-is_empty-clause-order g t c =
    let f = c.first_block.ensures in let long = (subst (AreAsLong c.args.sessions c.args.lines.now) c.in-Some.ensures.cases.0 c.requires.long) in
    subst (λ (bs : List Block). AreInBlockOrder c.args.sessions c.args.lines.now bs (c.order_block.new.places ++ c.split_at_mut-first.result.1.now)) (sym c.in-Some.ensures.cases.0)
    (in_order_on c.args.sessions c.args.lines.now c.first_block.result.0.now c.first_block.result.1.now c.in-Some.block.now c.in-Some.others.now f.first f.rest c.order_block.new.places c.split_at_mut-first.result.1.now c.order_block.ensures.order
    (no_blocks c.args.sessions c.first_block.result.1.now c.in-Some.others.now c.split_at_mut-first.result.1.now (long_others c.args.sessions c.args.lines.now c.first_block.result.0.now c.first_block.result.1.now c.in-Some.block.now c.in-Some.others.now f.first f.rest long) (search rules) (let r = c.requires.room in let b = c.split_at_mut-first.ensures.back_len in let s = (cut_sizes c.args.lines.now c.first_block.result.1.now c.first_block.result.0.now (some_lines c.args.sessions c.args.lines.now c.in-Some.block.now c.in-Some.others.now (subst (AreAsLong c.args.sessions c.args.lines.now) c.in-Some.ensures.cases.0 c.requires.long)) f.first f.rest).1 in omega arith)))

pub order_blocks-returns-else-is_empty-clause-order :
    goal.order_blocks-returns-else-is_empty-clause-order
order_blocks-returns-else-is_empty-clause-order g t c =
    let f = c.first_block.ensures in
    subst (λ (bs : List Block). AreInBlockOrder c.args.sessions c.args.lines.now bs (c.order_beside.new.first ++ c.order_beside.new.rest)) (sym c.in-Some.ensures.cases.0)
    (in_order_on c.args.sessions c.args.lines.now c.first_block.result.0.now c.first_block.result.1.now c.in-Some.block.now c.in-Some.others.now f.first f.rest c.order_beside.new.first c.order_beside.new.rest c.order_beside.ensures.order c.order_beside.ensures.others_order)
