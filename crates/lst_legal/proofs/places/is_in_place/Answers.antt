use Rattle.std.proofs.Common.{sym, ◌∙◌}
use Rattle.lst_legal.proofs.Serials.{unopened_told, unseen_told, seen_told}
use Rattle.lst_legal_runs.proofs.Deciding.{is_true}
use Rattle.lst_legal.proofs.places.is_in_place.Goals as goal

pub returns-then-not-is_open : goal.returns-then-not-is_open
returns-then-not-is_open c = λ at state is current. is_true (unopened_told c.args.snapshots.now at state c.args.call.now c.args.reply.now (sym current ∙ c.if-not-is_open.true))

pub returns-in_default : goal.returns-in_default
returns-in_default c = λ at state is current. is_true (unseen_told c.args.snapshots.now at c.args.sight.now state c.args.call.now c.args.reply.now is c.in_default.is)

pub returns : goal.returns
returns c = λ at state is current.
    seen_told c.args.snapshots.now at c.args.sight.now state c.args.call.now c.args.reply.now c.in-Some.sight c.is_answered_by.result is (sym current ∙ c.if-not-is_open.false) c.in-Some.is c.is_answered_by.ensures
