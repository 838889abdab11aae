use Rattle.std.proofs.Common.{◌≡◌, ◌+◌, ◌<◌, ◌≤◌, ◌++◌, ◌∷◌, List, length, take, drop, sym, ap, ◌∙◌, arith}
use Rattle.std.proofs.lemmas.List.{drop_all}
use Rattle.lst_model.specs.declared.acts.Write.{Write}
use Rattle.lst_model.specs.Histories.{joined}
use Rattle.lst_machine.proofs.Viewing.{left, taken, joins_here, joins_later}
use Rattle.lst_machine.proofs.views.place_behind.Goals as goal

pub returns-then-key-writes-clause-joins : goal.returns-then-key-writes-clause-joins
returns-then-key-writes-clause-joins c = λ new same.
    let i = c.loop-place.place in
    let w = c.index-writes-place.result in
    let low = c.loop-place-test.true in
    let sooner : new.key < w.key = let key_is = same in let before = c.if-key-writes.true in let read = ap (λ (x : Write). x.key) c.index-writes-place.is in omega (arith, key_is, before, read) in
    joins_here c.args.writes.now (drop (i + 1) c.args.writes.now) w new i (left c.args.writes.now i w low c.index-writes-place.is) sooner (c.loop-place.invariant new same)

pub loop-place-preserved : goal.loop-place-preserved
loop-place-preserved c = λ new same.
    let i = c.loop-place.place in
    let w = c.index-writes-place.result in
    let low = c.loop-place-test.true in
    let later : w.key ≤ new.key = let key_is = same in let before = c.if-key-writes.false in let read = ap (λ (x : Write). x.key) c.index-writes-place.is in omega (arith, key_is, before, read) in
    joins_later c.args.writes.now (drop (i + 1) c.args.writes.now) w new i (left c.args.writes.now i w low c.index-writes-place.is) (taken c.args.writes.now i w low c.index-writes-place.is) later (c.loop-place.invariant new same)

pub returns-clause-joins : goal.returns-clause-joins
returns-clause-joins c = λ new same.
    let all : length c.args.writes.now ≡ c.loop-place.place = omega (arith, c.loop-place-test.false) in
    let none = drop_all c.loop-place.place c.args.writes.now (omega (arith, all)) in
    c.loop-place.invariant new same
    ∙ ap (λ (ws : List Write). take c.loop-place.place c.args.writes.now ++ joined ws new) none
    ∙ ap (λ (ws : List Write). take c.loop-place.place c.args.writes.now ++ new ∷ ws) (sym none)
    ∙ ap (λ n. take n c.args.writes.now ++ new ∷ drop n c.args.writes.now) (sym all)
