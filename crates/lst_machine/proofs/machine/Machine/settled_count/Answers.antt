use Rattle.std.proofs.Common.{◌≡◌, ◌+◌, ◌<◌, List, [], length, drop, get_or, refl, sym, ap, ◌∙◌, subst, arith, zero-add}
use Rattle.std.proofs.lemmas.List.{drop_all}
use Rattle.std.specs.Prelude.{take_while, is_some, ◌||◌}
use Rattle.lst_machine.specs.declared.parts.Author.{Author}
use Rattle.lst_machine.specs.State.{Accepted}
use Rattle.lst_machine.specs.Writes.{time_of}
use Rattle.lst_machine.specs.Merges.{is_settled, settled_count}
use Rattle.lst_machine.specs.Parts.{range_in, IsWhole}
use Rattle.lst_machine.specs.Machines.{parts_of, store_of}
use Rattle.lst_machine.proofs.Viewing.{element, left, count_stop, count_more}
use Rattle.lst_machine.proofs.machine.Machine.settled_count.Goals as goal

pub loop-write-init : goal.loop-write-init
loop-write-init c = record { rest = zero-add _; count = refl }

pub returns-then-not-is_settled : goal.returns-then-not-is_settled
returns-then-not-is_settled c =
    let whole : IsWhole c.args.self.now.limits (parts_of c.args.self.now) = c.args.self.now.whole in
    let within : c.args.range < length c.args.self.now.ranges.items = omega (arith, whole.ranges, c.requires) in
    let here : c.items-write-items.result.now ≡ range_in c.args.self.now.ranges.items c.args.range = c.items-write-items.ensures ∙ element c.args.self.now.ranges.items c.args.range c.index.result.now [] within c.index.ensures in
    let xs = range_in c.args.self.now.ranges.items c.args.range in
    let i = c.loop-write.write-index in
    let w = c.write-item.result in
    let low : i < length xs = subst (λ (xs : List Accepted). c.loop-write.write-index < length xs) here c.loop-write-test.true in
    let item : w ≡ get_or xs i w = subst (λ (xs : List Accepted). c.write-item.result ≡ get_or xs c.loop-write.write-index c.write-item.result) here c.write-item.is in
    let settled = c.is_settled.ensures ∙ ap (λ (a : Author). (store_of c.args.self.now).closed a.session a.number || is_some (time_of c.args.self.now.history a.session a.number)) c.author.ensures in
    count_stop (is_settled (store_of c.args.self.now)) (drop i xs) (drop (i + 1) xs) w c.loop-write.count (settled_count (store_of c.args.self.now) c.args.range) (left xs i w low item) (sym settled ∙ c.if-not-is_settled.true) c.loop-write.invariant.rest

pub overflow_add-count : goal.overflow_add-count
overflow_add-count c =
    let whole : IsWhole c.args.self.now.limits (parts_of c.args.self.now) = c.args.self.now.whole in
    let within : c.args.range < length c.args.self.now.ranges.items = omega (arith, whole.ranges, c.requires) in
    let here : c.items-write-items.result.now ≡ range_in c.args.self.now.ranges.items c.args.range = c.items-write-items.ensures ∙ element c.args.self.now.ranges.items c.args.range c.index.result.now [] within c.index.ensures in
    let xs = range_in c.args.self.now.ranges.items c.args.range in
    let i = c.loop-write.write-index in
    let w = c.write-item.result in
    let low : i < length xs = subst (λ (xs : List Accepted). c.loop-write.write-index < length xs) here c.loop-write-test.true in
    let item : w ≡ get_or xs i w = subst (λ (xs : List Accepted). c.write-item.result ≡ get_or xs c.loop-write.write-index c.write-item.result) here c.write-item.is in
    let settled = c.is_settled.ensures ∙ ap (λ (a : Author). (store_of c.args.self.now).closed a.session a.number || is_some (time_of c.args.self.now.history a.session a.number)) c.author.ensures in
    let few = whole.few c.args.range in
    let most = whole.valid.tails.1 in
    let count = c.loop-write.invariant.count in
    record { fits = omega (arith, few, most, count, low) }

pub loop-write-preserved : goal.loop-write-preserved
loop-write-preserved c =
    let whole : IsWhole c.args.self.now.limits (parts_of c.args.self.now) = c.args.self.now.whole in
    let within : c.args.range < length c.args.self.now.ranges.items = omega (arith, whole.ranges, c.requires) in
    let here : c.items-write-items.result.now ≡ range_in c.args.self.now.ranges.items c.args.range = c.items-write-items.ensures ∙ element c.args.self.now.ranges.items c.args.range c.index.result.now [] within c.index.ensures in
    let xs = range_in c.args.self.now.ranges.items c.args.range in
    let i = c.loop-write.write-index in
    let w = c.write-item.result in
    let low : i < length xs = subst (λ (xs : List Accepted). c.loop-write.write-index < length xs) here c.loop-write-test.true in
    let item : w ≡ get_or xs i w = subst (λ (xs : List Accepted). c.write-item.result ≡ get_or xs c.loop-write.write-index c.write-item.result) here c.write-item.is in
    let settled = c.is_settled.ensures ∙ ap (λ (a : Author). (store_of c.args.self.now).closed a.session a.number || is_some (time_of c.args.self.now.history a.session a.number)) c.author.ensures in
    record {
      rest = count_more (is_settled (store_of c.args.self.now)) (drop i xs) (drop (i + 1) xs) w c.loop-write.count (settled_count (store_of c.args.self.now) c.args.range) (left xs i w low item) (sym settled ∙ c.if-not-is_settled.false) c.loop-write.invariant.rest;
      count = let count = c.loop-write.invariant.count in omega (arith, count);
    }

pub returns : goal.returns
returns c =
    let whole : IsWhole c.args.self.now.limits (parts_of c.args.self.now) = c.args.self.now.whole in
    let within : c.args.range < length c.args.self.now.ranges.items = omega (arith, whole.ranges, c.requires) in
    let here : c.items-write-items.result.now ≡ range_in c.args.self.now.ranges.items c.args.range = c.items-write-items.ensures ∙ element c.args.self.now.ranges.items c.args.range c.index.result.now [] within c.index.ensures in
    let past = c.loop-write-test.false in
    let long = ap length here in
    let none = ap (λ xs. length (take_while (is_settled (store_of c.args.self.now)) xs)) (drop_all c.loop-write.write-index (range_in c.args.self.now.ranges.items c.args.range) (omega (arith, past, long))) in
    let rest = c.loop-write.invariant.rest in
    omega (arith, none, rest)
