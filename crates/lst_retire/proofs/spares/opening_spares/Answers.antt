use Rattle.std.proofs.Common.{◌+◌, subst, sym, arith}
use Rattle.lst_retire.proofs.Opening.{FirstSpares, first_next, first_few, first_all, opening_are}
use Rattle.lst_core_state.specs.declared.pages.Retired.{Retired}
use Rattle.std.proofs.Common.{List}
use Rattle.lst_retire.proofs.spares.opening_spares.Goals as goal

pub push-requires : goal.push-requires
push-requires c = (omega arith, (let few = first_few _ _ _ _ c.loop-k.invariant in let low = c.loop-k-test.true in let top = c.requires.spare.1 in omega arith))

pub loop-k-preserved : goal.loop-k-preserved
loop-k-preserved c = subst (λ (rs : List Retired). FirstSpares c.page_count-first.result c.args.limits.now.spare (c.loop-k.k + 1) rs) (sym c.push.ensures.items) (first_next _ _ _ _ c.loop-k-test.true c.loop-k.invariant)

pub returns-clause-spares : goal.returns-clause-spares
returns-clause-spares c = first_all c.args.limits.now _ _ _ c.page_count-first.ensures.count c.loop-k-test.false c.loop-k.invariant

pub returns-clause-crew : goal.returns-clause-crew
returns-clause-crew c = opening_are _ _ (first_all c.args.limits.now _ _ _ c.page_count-first.ensures.count c.loop-k-test.false c.loop-k.invariant)
