use Rattle.std.proofs.Common.{ℕ, ◌-◌, ◌≤◌, List, get_or, sym, subst, arith}
use Rattle.lst_model.specs.declared.acts.Write.{Write}
use Rattle.lst_redo.proofs.Joins.{joined_at}
use Rattle.lst_redo.proofs.Places.{get_or_other}
use Rattle.lst_redo.proofs.own.place_behind.Goals as goal

pub returns-else-key-writes-clause-joins : goal.returns-else-key-writes-clause-joins
returns-else-key-writes-clause-joins c = λ new same.
    let ws : List Write = c.args.writes.now in
    let place : ℕ = c.loop-place.place in
    let found : Write = c.index-writes-place.result in
    joined_at 0 ws place new c.requires c.loop-place.invariant.0
    (λ some. subst (λ (w : Write). w.key ≤ new.key) (get_or_other ws (place - 1) found new (omega (arith, some, c.loop-place.invariant.0)))
    (subst (λ (k : ℕ). (get_or ws (place - 1) found).key ≤ k) (sym same) c.if-key-writes.false))
    (λ low. c.loop-place.invariant.1 new same low)

pub returns-after-loop-place-clause-joins : goal.returns-after-loop-place-clause-joins
returns-after-loop-place-clause-joins c = λ new same.
    joined_at 0 c.args.writes.now c.loop-place.place new c.requires c.loop-place.invariant.0
    (λ some. absurd (omega (arith, some, c.loop-place-test.false)))
    (λ low. c.loop-place.invariant.1 new same low)
