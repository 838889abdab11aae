use Rattle.std.proofs.Common.{◌≡◌, ◌↔◌, ◌∙◌, IsTrue, ℕ, not, ◌&&◌, sym, ap, subst}
use Rattle.std.specs.List.{list_any}
use Rattle.lst_replies.specs.Runs.{is_by, may_take_latch}
use Rattle.lst_legal_runs.specs.declared.outlines.OpenOutline.{OpenOutline}
use Rattle.lst_model.specs.declared.replies.Reply.{Reply}
use Rattle.lst_model.specs.declared.replies.Reply.TheVariants.{Refused}
use Rattle.lst_model.specs.declared.replies.Cause.TheVariants.{Latched, Unfinished}
use Rattle.lst_replies.specs.Explained.{ConflictIsExplained, IsInTheWay}
use Rattle.lst_legal_runs.proofs.conflicts.Conflicts.explains.Goals as goal

pub returns-in-Latched : goal.returns-in-Latched
returns-in-Latched c = λ history run transaction write conflicts outline key.
    let session = c.args.session in
    let reply_is : c.args.reply.now ≡ Refused Latched = c.in-Refused.is ∙ ap Refused c.in-Latched.is in
    let any : c.may_have_taken.result ≡ list_any (λ one. not (is_by session one) && may_take_latch write.key one) run =
    c.may_have_taken.ensures history run conflicts ∙ ap (λ (k : ℕ). list_any (λ one. not (is_by session one) && may_take_latch k one) run) key in
    subst (λ (r : Reply). IsTrue c.may_have_taken.result ↔ ConflictIsExplained history run session transaction write r) (sym reply_is) ((λ e. sym any ∙ e), (λ e. any ∙ e))

pub returns-in-Unfinished : goal.returns-in-Unfinished
returns-in-Unfinished c = λ history run transaction write conflicts outline key.
    let session = c.args.session in
    let other = c.in-Unfinished.other in
    let number = c.in-Unfinished.number in
    let reply_is : c.args.reply.now ≡ Refused (Unfinished other number) = c.in-Refused.is ∙ ap Refused c.in-Unfinished.is in
    let way : IsTrue c.is_in_the_way.result ↔ IsInTheWay history run session write.key transaction.begin other number =
    subst (λ (k : ℕ). IsTrue c.is_in_the_way.result ↔ IsInTheWay history run session k transaction.begin other number) key
    (subst (λ (o : OpenOutline). IsTrue c.is_in_the_way.result ↔ IsInTheWay history run session c.args.key o.begin other number) outline (c.is_in_the_way.ensures history run conflicts)) in
    subst (λ (r : Reply). IsTrue c.is_in_the_way.result ↔ ConflictIsExplained history run session transaction write r) (sym reply_is) way
