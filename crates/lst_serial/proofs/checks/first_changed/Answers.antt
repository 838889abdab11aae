use Rattle.std.proofs.Common.{◌≡◌, ℕ, ◌+◌, ◌<◌, [], ◌∷◌, ◌++◌, List, length, drop, slice_index_or, subst, ap}
use Rattle.std.proofs.lemmas.List.{drop_more}
use Rattle.std.proofs.lemmas.Map.Iter.{rest_more, rest_all}
use Rattle.std.specs.Map.Iter.{deref}
use Rattle.lst_rule.specs.Rule.{knows}
use Rattle.lst_session.proofs.Growing.{begun_early}
use Rattle.lst_serial.specs.Searches.{StaysLeast}
use Rattle.lst_serial.proofs.Checking.{search_starts, search_none, search_on}
use Rattle.lst_serial.proofs.checks.first_changed.Goals as goal

pub loop-key-init : goal.loop-key-init
loop-key-init c = search_starts c.args.store.now c.args.session.now c.args.keys.now c.requires.held

pub loop-key-preserved : goal.loop-key-preserved
loop-key-preserved c =
    let few = c.args.keys.now.few.items in
    let tree = c.args.keys.now.keys.keys in
    let k = knows c.loop-key.session.seat.view c.loop-key.session.number in
    search_on c.args.store.now c.args.session.now c.loop-key.session c.args.keys.now (drop c.loop-key.key-index few ++ tree) c.loop-key.least c.loop-key.invariant
    c.least_with-least.new.session c.least_with-least.ensures.held c.least_with-least.ensures.number c.least_with-least.ensures.looks
    (slice_index_or few c.loop-key.key-index 0) (drop (c.loop-key.key-index + 1) few ++ tree)
    (ap (λ (xs : List ℕ). xs ++ tree) (drop_more few c.loop-key.key-index 0 (subst (λ (xs : List ℕ). c.loop-key.key-index < length xs) c.as_slice-key-items.ensures.value c.loop-key-test.true)))
    c.least_with-least.result
    (subst (λ (xs : List ℕ). StaysLeast k.seen k.begin (slice_index_or xs c.loop-key.key-index 0) c.loop-key.least c.least_with-least.result) c.as_slice-key-items.ensures.value c.least_with-least.ensures.least)

pub loop-other-preserved : goal.loop-other-preserved
loop-other-preserved c =
    let more : c.loop-other.other-iterator ≡ c.in-Some.other.now ∷ c.next.new.self = rest_more (deref {X = ℕ}) c.loop-other.other-iterator c.next.new.self c.next.result c.in-Some.other c.in-Some.is c.next.ensures.steps in
    search_on c.args.store.now c.args.session.now c.loop-other.session c.args.keys.now c.loop-other.other-iterator c.loop-other.least c.loop-other.invariant
    c.least_with-least-in-loop-other.new.session c.least_with-least-in-loop-other.ensures.held c.least_with-least-in-loop-other.ensures.number c.least_with-least-in-loop-other.ensures.looks
    c.in-Some.other.now c.next.new.self more c.least_with-least-in-loop-other.result c.least_with-least-in-loop-other.ensures.least

pub returns-in-None-least-clause-stale : goal.returns-in-None-least-clause-stale
returns-in-None-least-clause-stale c =
    let none : c.loop-other.other-iterator ≡ [] = rest_all (deref {X = ℕ}) c.loop-other.other-iterator c.next.new.self c.next.result c.in-None.is c.next.ensures.steps in
    search_none c.args.store.now c.args.session.now c.loop-other.session c.args.keys.now c.loop-other.other-iterator c.loop-other.least c.loop-other.invariant none c.in-None-least.is
    (begun_early c.args.session.now.seat.view c.args.session.now.number c.consider.ensures c.requires.held.holder.host c.requires.held.holder.on)

pub least_with-least-requires : goal.least_with-least-requires
least_with-least-requires c = record { held = c.loop-key.invariant.held }

pub least_with-least-requires-in-loop-other : goal.least_with-least-requires-in-loop-other
least_with-least-requires-in-loop-other c = record { held = c.loop-other.invariant.held }

pub returns-in-None-least-clause-held : goal.returns-in-None-least-clause-held
returns-in-None-least-clause-held c = c.loop-other.invariant.held

pub returns-in-None-least-clause-number : goal.returns-in-None-least-clause-number
returns-in-None-least-clause-number c = c.loop-other.invariant.number

pub returns-in-None-least-clause-looks : goal.returns-in-None-least-clause-looks
returns-in-None-least-clause-looks c = c.loop-other.invariant.still
