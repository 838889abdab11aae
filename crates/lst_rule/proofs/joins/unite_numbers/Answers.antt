use Rattle.std.proofs.Common.{cond, get_or, false, ap, length, ◌∙◌, arith, ⊎_elim, inl, inr}
use Rattle.std.proofs.lemmas.List.{get_or_default}
use Rattle.lst_core_state.specs.declared.numbers.Numbers.{Numbers}
use Rattle.lst_rule.proofs.Changing.{united_step, united_end, length-united_first}
use Rattle.lst_rule.proofs.joins.unite_numbers.Goals as goal

pub index-requires : goal.index-requires
index-requires c = let a = c.shortest-end.ensures.low.0 in let l = c.len.ensures in let e = c.args.numbers.now.ok.0 in let f = c.loop-s.numbers.ok.0 in
    let g = ap length c.loop-s.invariant ∙ length-united_first c.loop-s.s c.args.hosted.now c.args.numbers.now.items c.args.others.now in let t = c.loop-s-test.true in omega arith

pub index_mut-requires : goal.index_mut-requires
index_mut-requires c = let a = c.shortest-end.ensures.low.0 in let l = c.len.ensures in let e = c.args.numbers.now.ok.0 in let f = c.loop-s.numbers.ok.0 in
    let g = ap length c.loop-s.invariant ∙ length-united_first c.loop-s.s c.args.hosted.now c.args.numbers.now.items c.args.others.now in let t = c.loop-s-test.true in omega arith

pub returns : goal.returns
returns c = let t = c.loop-s-test.false in let l = c.len.ensures in let e = c.args.numbers.now.ok.0 in
    c.loop-s.invariant ∙ united_end c.loop-s.s c.args.hosted.now c.args.numbers.now.items c.args.others.now
    (⊎_elim (λ p. inl (omega arith)) (λ q. inr (⊎_elim (λ p. inl (omega arith)) (λ p. inr (omega arith)) q)) c.shortest-end.ensures.is)

pub loop-s-preserved : goal.loop-s-preserved
loop-s-preserved c = let a = c.shortest-end.ensures.low in let t = c.loop-s-test.true in
    united_step c.loop-s.s c.args.hosted.now c.args.numbers.now.items c.args.others.now c.loop-s.numbers.items c.index.result.now c.chosen.result c.loop-s.invariant
    (let l = c.len.ensures in let e = c.args.numbers.now.ok.0 in let g = ap length c.loop-s.invariant ∙ length-united_first c.loop-s.s c.args.hosted.now c.args.numbers.now.items c.args.others.now in let b = a.0 in omega arith)
    (let b = a.1 in omega arith) (let b = a.2 in omega arith)
    (c.chosen.ensures ∙ ap (λ (n : Numbers). cond (get_or c.args.hosted.now c.loop-s.s false) n c.index.result.now) (get_or_default c.args.others.now c.loop-s.s _ c.index.result.now (let b = a.2 in omega arith))
    ∙ ap (λ (n : Numbers). cond (get_or c.args.hosted.now c.loop-s.s false) (get_or c.args.others.now c.loop-s.s c.index.result.now) n) c.index.ensures)
