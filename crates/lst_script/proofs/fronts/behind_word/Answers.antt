use Rattle.std.proofs.Common.{◌≡◌, length, get_or, arith, rules}
use Rattle.std.proofs.lemmas.List.{take_more_same}
use Rattle.lst_script.proofs.Beginnings.{word_here}
use Rattle.lst_script.proofs.fronts.behind_word.Goals as goal

pub loop-place-preserved : goal.loop-place-preserved
loop-place-preserved c =
    let text = c.args.text.now in
    let word = c.args.word.now in
    let i = c.loop-place.place in
    let e : get_or text i 0 ≡ get_or word i 0 = search rules in
    (take_more_same text word i 0 (omega arith) (omega arith) c.loop-place.invariant.0 e, omega arith)

pub returns : goal.returns
returns c = word_here c.args.text.now c.args.word.now _ (omega arith) (rw (let e : c.loop-place.place ≡ length c.args.word.now = omega arith in e) at c.loop-place.invariant.0)
