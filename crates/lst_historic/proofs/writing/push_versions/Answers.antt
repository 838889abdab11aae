use Rattle.std.proofs.Common.{◌≡◌, ◌∙◌, ◌+◌, ◌++◌, ◌∷◌, false, true, drop, get_or, ap, subst, sym, List, arith}
use Rattle.std.specs.Prelude.{Option, None}
use Rattle.lst_snapshots.specs.declared.versions.Version.{Version}
use Rattle.lst_snapshots.specs.Versions.{version_at}
use Rattle.lst_historic.specs.Blocks.{versions_text}
use Rattle.lst_historic.specs.Moves.{moves, move_of, made_of, goes_on}
use Rattle.lst_historic.specs.Decoding.{shown}
use Rattle.lst_historic.proofs.Written.{at_step, no_step, step_followed, step_ended, IsOnVersion, version_first, version_next, version_end}
use Rattle.lst_historic.proofs.writing.push_versions.Goals as goal

pub loop-place-init : goal.loop-place-init
loop-place-init c = version_first c.args.columns c.clear.new.cells.items (made_of None (moves c.args.steps.now)) c.args.out.now.items c.clear.ensures

pub loop-place-preserved-then-goes_on : goal.loop-place-preserved-then-goes_on
loop-place-preserved-then-goes_on c =
    let step = c.index-steps-place.result in
    let place = c.loop-place.place in
    let ms = moves c.args.steps.now in
    let at = at_step c.args.steps.now place step c.loop-place-test.true (sym c.index-steps-place.is) in
    let on : true ≡ goes_on step.time (drop (place + 1) ms) = sym c.if-goes_on.true ∙ c.goes_on.ensures in
    let left : made_of (shown c.change-is_some.result c.change-is_some.new.cells.items) (drop (place + 1) ms) ≡ made_of (shown c.loop-place.is_some c.loop-place.row.items) (drop place ms) =
    ap (λ r. made_of r (drop (place + 1) ms)) c.change-is_some.ensures ∙ sym (step_followed place ms (move_of step) (shown c.loop-place.is_some c.loop-place.row.items) at on) in
    subst (λ (vs : List Version). IsOnVersion c.args.columns c.loop-place.base.items c.loop-place.at vs (made_of None ms) c.loop-place.out.items (c.args.out.now.items ++ versions_text c.args.columns 0 None (made_of None ms))) (sym left) c.loop-place.invariant

pub loop-place-preserved : goal.loop-place-preserved
loop-place-preserved c =
    let step = c.index-steps-place.result in
    let place = c.loop-place.place in
    let ms = moves c.args.steps.now in
    let row = (shown c.change-is_some.result c.change-is_some.new.cells.items) in
    let at = at_step c.args.steps.now place step c.loop-place-test.true (sym c.index-steps-place.is) in
    let off : false ≡ goes_on step.time (drop (place + 1) ms) = sym c.if-goes_on.false ∙ c.goes_on.ensures in
    let made : made_of (shown c.loop-place.is_some c.loop-place.row.items) (drop place ms) ≡ version_at step.time row ∷ made_of row (drop (place + 1) ms) =
    step_ended place ms (move_of step) (shown c.loop-place.is_some c.loop-place.row.items) at off ∙ ap (λ r. version_at step.time r ∷ made_of r (drop (place + 1) ms)) (sym c.change-is_some.ensures) in
    version_next c.args.columns c.loop-place.base.items c.rebase.new.cells.items c.loop-place.at (made_of (shown c.loop-place.is_some c.loop-place.row.items) (drop place ms)) (made_of None ms) c.loop-place.out.items c.push_version.new.out.items
    (c.args.out.now.items ++ versions_text c.args.columns 0 None (made_of None ms)) step.time row (made_of row (drop (place + 1) ms))
    made c.in_ok-push_version.ensures.text c.in_ok-push_version.ensures.numbers c.rebase.ensures c.loop-place.invariant

pub returns : goal.returns
returns c =
    let ms = moves c.args.steps.now in
    let none = ap (made_of (shown c.loop-place.is_some c.loop-place.row.items)) (no_step c.args.steps.now c.loop-place.place c.loop-place-test.false) in
    let ended = version_end c.args.columns c.loop-place.base.items c.loop-place.at (made_of (shown c.loop-place.is_some c.loop-place.row.items) (drop c.loop-place.place ms)) (made_of None ms) c.loop-place.out.items (c.args.out.now.items ++ versions_text c.args.columns 0 None (made_of None ms)) none c.loop-place.invariant in
    record { numbers = ended.1; text = ended.0 }
