use Rattle.std.proofs.Common.{◌≡◌, List, map, ap, ◌∙◌}
use Rattle.std.proofs.lemmas.Result.{IfOk-weaker}
use Rattle.lst_model.specs.declared.commits.Commit.{Commit}
use Rattle.lst_core_state.specs.State.{history_of}
use Rattle.lst_rule.specs.declared.view.View.{View}
use Rattle.lst_rule.specs.Rule.{knows}
use Rattle.lst_history.specs.Commits.{without_writes}
use Rattle.lst_history.specs.Peeks.{words_in}
use Rattle.lst_history.proofs.Recounting.{stock_reader, recounts, same_history}
use Rattle.lst_history.proofs.bare.history_without_writes.Goals as goal

pub recount_bare-all-requires : goal.recount_bare-all-requires
recount_bare-all-requires c = record { reader = stock_reader c.args.store.now c.args.seat.now c.survey.new.seat c.args.s c.survey.ensures.seat c.survey.ensures.surveyed c.requires.all c.requires.own c.requires.rec c.requires.turn }

pub returns-clause-seat : goal.returns-clause-seat
returns-clause-seat c = c.recount_bare-all.ensures.reads.reader.seat_of

pub returns-clause-ok : goal.returns-clause-ok
returns-clause-ok c = let b : View = c.survey.new.seat.view in let w : View = c.recount_bare-all.new.seat.view in IfOk-weaker c.recount_bare-all.result (λ all. all ≡ map without_writes (history_of b.limits (words_in b))) (λ all. all ≡ map without_writes (history_of w.limits (words_in w)))
    (λ all is. is ∙ ap (map without_writes) (same_history c.args.store.now c.survey.new.seat c.recount_bare-all.new.seat c.args.s c.recount_bare-all.ensures.reads)) c.recount_bare-all.ensures.ok

pub returns-clause-seen : goal.returns-clause-seen
returns-clause-seen c = let b : View = c.survey.new.seat.view in let w : View = c.recount_bare-all.new.seat.view in let seen : List Commit = (knows w c.args.s).seen in IfOk-weaker c.recount_bare-all.result (λ _. seen ≡ history_of b.limits (words_in b)) (λ _. seen ≡ history_of w.limits (words_in w))
    (λ _ is. is ∙ same_history c.args.store.now c.survey.new.seat c.recount_bare-all.new.seat c.args.s c.recount_bare-all.ensures.reads) c.recount_bare-all.ensures.seen

pub returns-clause-looks : goal.returns-clause-looks
returns-clause-looks c = recounts c.args.store.now c.args.seat.now c.survey.new.seat c.recount_bare-all.new.seat c.args.s c.survey.ensures.surveyed c.recount_bare-all.ensures.reads c.consider.ensures
