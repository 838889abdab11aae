use Rattle.std.proofs.Common.{◌≡◌, ℕ, ◌++◌, List, length, set, replicate, drop, ap, ◌∙◌, arith}
use Rattle.std.proofs.lemmas.List.Edits.{fill_more}
use Rattle.lst_plain.proofs.Firsts.{filled}
use Rattle.lst_plain.proofs.holder.clear.Goals as goal

pub loop-place-preserved : goal.loop-place-preserved
loop-place-preserved c =
    ap (λ (ns : List ℕ). set ns c.loop-place.place 0) c.loop-place.invariant
    ∙ fill_more c.loop-place.place 0 c.args.numbers.now (omega (arith, c.loop-place-test.true))

pub returns : goal.returns
returns c =
    let all : c.loop-place.place ≡ length c.args.numbers.now = omega (arith, c.loop-place-test.false) in
    c.loop-place.invariant ∙ ap (λ n. replicate n 0 ++ drop n c.args.numbers.now) all ∙ filled c.args.numbers.now
