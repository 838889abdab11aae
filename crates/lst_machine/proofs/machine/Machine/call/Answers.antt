use Rattle.std.proofs.Common.{◌≡◌, refl, sym, ap, subst}
use Rattle.std.proofs.lemmas.Result.{IfOk-weaker}
use Rattle.lst_model.specs.declared.acts.Act.{Act}
use Rattle.lst_model.specs.declared.acts.Act.TheVariants.{Set, Del}
use Rattle.lst_model.specs.declared.lines.Line.TheVariants as line
use Rattle.lst_model.specs.declared.lines.Call.{Call}
use Rattle.lst_model.specs.declared.lines.Call.TheVariants as call
use Rattle.lst_machine.specs.Calls.{call_reply}
use Rattle.lst_machine.specs.Machines.{store_of, AnswersLine, AnswersChange}
use Rattle.lst_machine.proofs.machine.Machine.call.Goals as goal

pub returns-in-Get-clause-ok : goal.returns-in-Get-clause-ok
returns-in-Get-clause-ok c = IfOk-weaker c.get.result
    (λ reply. reply ≡ call_reply c.args.self.now.limits (store_of c.args.self.now) c.args.session (call.Get c.in-Get.key))
    (λ reply. AnswersLine c.args.self.now c.args.self.now (line.Call c.args.session c.args.call.now) reply)
    (λ reply is. subst (λ (k : Call). AnswersLine c.args.self.now c.args.self.now (line.Call c.args.session k) reply) (sym c.in-Get.is) (is, refl))
    c.get.ensures

pub returns-in-Update-clause-ok : goal.returns-in-Update-clause-ok
returns-in-Update-clause-ok c = IfOk-weaker c.change.result
    (λ reply. AnswersChange c.args.self.now c.change.new.self c.args.session c.in-Update.key (Set c.copied.result) reply)
    (λ reply. AnswersLine c.args.self.now c.change.new.self (line.Call c.args.session c.args.call.now) reply)
    (λ reply changed. subst (λ (k : Call). AnswersLine c.args.self.now c.change.new.self (line.Call c.args.session k) reply) (sym c.in-Update.is)
    (subst (λ (act : Act). AnswersChange c.args.self.now c.change.new.self c.args.session c.in-Update.key act reply) (ap Set c.copied.ensures) changed))
    c.change.ensures.ok

pub returns-in-Delete-clause-ok : goal.returns-in-Delete-clause-ok
returns-in-Delete-clause-ok c = IfOk-weaker c.change-in-Delete.result
    (λ reply. AnswersChange c.args.self.now c.change-in-Delete.new.self c.args.session c.in-Delete.key Del reply)
    (λ reply. AnswersLine c.args.self.now c.change-in-Delete.new.self (line.Call c.args.session c.args.call.now) reply)
    (λ reply changed. subst (λ (k : Call). AnswersLine c.args.self.now c.change-in-Delete.new.self (line.Call c.args.session k) reply) (sym c.in-Delete.is) changed)
    c.change-in-Delete.ensures.ok
