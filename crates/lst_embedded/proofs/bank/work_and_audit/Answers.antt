use Rattle.std.proofs.Common.{sym, subst, rules}
use Rattle.std.specs.Prelude.{IfOk, OnOk}
use Rattle.lst_embedded.specs.declared.bank.Staff.{Staff}
use Rattle.lst_embedded.specs.Deeds.{IsMove}
use Rattle.lst_embedded.specs.Doing.{HasDone, HaveAudited}
use Rattle.lst_embedded.specs.Staffs.{IsStaffed}
use Rattle.lst_embedded.proofs.Staffing.{staff_worked_and}
use Rattle.lst_embedded.proofs.bank.work_and_audit.Goals as goal

pub returns-clause-staff : goal.returns-clause-staff
returns-clause-staff g c =
    let store = c.args.store.now in let a = c.args.staff.now in let w = c.join_mut-worked in
    let b : Staff = record { first = w.new.f.1.now; second = w.new.f.2.now; auditors = w.new.g.3.now; merger = w.new.g.4.now } in
    let on : OnOk w.result.0 (HasDone store IsMove a.first b.first 25 × HasDone store IsMove a.second b.second 25) = search rules in
    let audited : IfOk w.result.1 (λ audits. HaveAudited store a.auditors b.auditors b.merger audits.items 10) = search rules in
    subst (λ result. OnOk result (IsStaffed store 25 b)) (sym c.and.ensures) (staff_worked_and (λ audits. audits.items) store a b c.requires.staff w.result.0 on w.result.1 audited)
