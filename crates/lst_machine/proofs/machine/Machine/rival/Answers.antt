use Rattle.std.proofs.Common.{◌≡◌, ◌<◌, List, [], not, length, get_or, ap, ◌∙◌, subst, arith}
use Rattle.std.proofs.lemmas.List.{take_all}
use Rattle.std.specs.Prelude.{option_map, ◌&&◌, ◌==◌}
use Rattle.lst_machine.specs.State.{Accepted}
use Rattle.lst_machine.specs.Writes.{last_where, range_of}
use Rattle.lst_machine.specs.Parts.{author_of, range_in}
use Rattle.lst_machine.specs.Machines.{store_of}
use Rattle.lst_machine.proofs.Viewing.{element, author_next}
use Rattle.lst_machine.proofs.machine.Machine.rival.Goals as goal

pub loop-write-preserved : goal.loop-write-preserved
loop-write-preserved c =
    let here : c.items-write-items.result.now ≡ range_in c.args.self.now.ranges.items (range_of c.args.self.now.placed.items c.args.key) =
    c.items-write-items.ensures ∙ element c.args.self.now.ranges.items c.range_of.result c.index.result.now [] c.range_of.ensures.low c.index.ensures ∙ ap (range_in c.args.self.now.ranges.items) c.range_of.ensures.range in
    author_next (λ (other : Accepted). other.write.key == c.args.key && not ((store_of c.args.self.now).closed other.session other.number)) (range_in c.args.self.now.ranges.items (range_of c.args.self.now.placed.items c.args.key))
    c.loop-write.write-index c.write-item.result c.loop-write.rival c.rival_after-rival.result
    (subst (λ (xs : List Accepted). c.loop-write.write-index < length xs) here c.loop-write-test.true) (subst (λ (xs : List Accepted). c.write-item.result ≡ get_or xs c.loop-write.write-index c.write-item.result) here c.write-item.is)
    c.loop-write.invariant c.rival_after-rival.ensures

pub returns : goal.returns
returns c =
    let here : c.items-write-items.result.now ≡ range_in c.args.self.now.ranges.items (range_of c.args.self.now.placed.items c.args.key) =
    c.items-write-items.ensures ∙ element c.args.self.now.ranges.items c.range_of.result c.index.result.now [] c.range_of.ensures.low c.index.ensures ∙ ap (range_in c.args.self.now.ranges.items) c.range_of.ensures.range in
    let past = c.loop-write-test.false in
    let count = ap length here in
    c.loop-write.invariant ∙ ap (λ xs. option_map author_of (last_where (λ (other : Accepted). other.write.key == c.args.key && not ((store_of c.args.self.now).closed other.session other.number)) xs))
    (take_all c.loop-write.write-index (range_in c.args.self.now.ranges.items (range_of c.args.self.now.placed.items c.args.key)) (omega (arith, past, count)))
