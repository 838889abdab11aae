use Rattle.std.proofs.Common.{◌≡◌, ◌+◌, ◌<◌, List, ◌∷◌, [], ◌++◌, length, get_or, arith, sym, subst, rules}
use Rattle.std.specs.Prelude.{Ok, Err}
use Rattle.std.specs.Result.{result_or}
use Rattle.lst_embedded.specs.declared.audits.Audit.{Audit}
use Rattle.lst_embedded.specs.declared.transactions.Stop.TheVariants.{Close}
use Rattle.lst_embedded.specs.Doing.{HaveAudited}
use Rattle.lst_embedded.proofs.Going.{kept_or}
use Rattle.lst_embedded.proofs.Looking.{first_early, first_alike, audit_read, audited_looked, auditors_still, summed_ready, audited_on}
use Rattle.lst_embedded.proofs.audits.audit_all.Goals as goal

pub par_sum-total-requires-clause-alike : goal.par_sum-total-requires-clause-alike
par_sum-total-requires-clause-alike g c κs within =
    let auditors = c.loop-round.invariant.auditors in let a = c.loop-round.auditors in let first = c.index-as_slice-0.result in let is : first ≡ get_or a 0 first = search rules in
    let some : 0 < length a = (let two = auditors.count in omega (arith, two)) in
    first_alike a first some is c.args.store.now c.next_phase.new.sessions c.seen-time.result auditors c.next_phase.ensures.next c.consider.ensures c.seen-time.ensures

pub loop-round-preserved : goal.loop-round-preserved
loop-round-preserved g c =
    let store = c.args.store.now in let x = c.loop-round in let a = x.auditors in let b = c.next_phase.new.sessions in let d = c.par_sum-total.new.sessions in
    let auditors = x.invariant.auditors in let next = c.next_phase.ensures.next in let summed = c.par_sum-total.ensures.sessions in
    let first = c.index-as_slice-0.result in let is : first ≡ get_or a 0 first = search rules in
    let some : 0 < length a = (let two = auditors.count in omega (arith, two)) in
    let looked = audited_looked store a b d next summed in
    let audit : Audit = record { time = c.seen-time.result; total = c.par_sum-total.result } in
    let pushed : Ok tt ≡ result_or c.push.result (Err Close) = search rules in
    let items : c.push.new.self.items ≡ x.audits.items ++ audit ∷ [] = kept_or {B = List Audit} c.push.result Close tt _ _ _ pushed c.push.ensures.items in
    subst (λ (audits : List Audit). HaveAudited store c.args.auditors.now d c.merge.new.self audits (x.round + 1)) (sym items)
    (audited_on store c.args.auditors.now a d x.merger c.merge.new.self x.audits.items audit x.round x.invariant (auditors_still store a d auditors looked (summed_ready store b d summed)) looked
    (audit_read store a b d c.seen-time.result c.par_sum-total.result auditors next summed (first_early a first some is c.seen-time.result c.seen-time.ensures) c.par_sum-total.ensures.sum) c.merge.ensures.merger)
