use Rattle.std.proofs.Common.{◌+◌, ◌<◌, List, length, get_or, refl, sym, subst, arith}
use Rattle.std.proofs.lemmas.List.Elements.{Contains-get_or}
use Rattle.lst_plain.specs.Rows.{Kept}
use Rattle.lst_plain.proofs.Settling.{IsLeft, left_after, left_none}
use Rattle.lst_plain.proofs.calls.settle_all.Goals as goal

pub settle-requires-clause-within : goal.settle-requires-clause-within
settle-requires-clause-within c =
    let inside = c.requires.within (get_or c.args.places.now c.loop-place.place-index 0) (Contains-get_or c.args.places.now c.loop-place.place-index 0 c.loop-place-test.true) in
    let same = c.loop-place.invariant.size in
    omega (arith, inside, same)

pub loop-place-preserved : goal.loop-place-preserved
loop-place-preserved c =
    let inside = c.requires.within (get_or c.args.places.now c.loop-place.place-index 0) (Contains-get_or c.args.places.now c.loop-place.place-index 0 c.loop-place-test.true) in
    let same = c.loop-place.invariant.size in
    let low : get_or c.args.places.now c.loop-place.place-index 0 < length c.loop-place.records = omega (arith, inside, same) in
    subst (λ (records : List Kept). IsLeft c.args.time c.args.session c.args.records.now records c.args.places.now (c.loop-place.place-index + 1)) (sym c.settle.ensures)
    (left_after c.args.time c.args.session c.args.records.now c.loop-place.records c.args.places.now c.loop-place.place-index (get_or c.args.places.now c.loop-place.place-index 0) refl low c.loop-place.invariant)

pub returns : goal.returns
returns c = left_none c.args.time c.args.session c.args.records.now c.loop-place.records c.args.places.now c.loop-place.place-index c.loop-place-test.false c.loop-place.invariant
