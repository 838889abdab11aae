use Rattle.std.proofs.Common.{◌≡◌, arith}
use Rattle.std.proofs.lemmas.Result.{IfOk-weaker}
use Rattle.lst_core_state.specs.State.{history_of}
use Rattle.lst_rule.specs.declared.view.View.{View}
use Rattle.lst_history.specs.Peeks.{words_in}
use Rattle.lst_session.specs.Crews.{IsHistoryOfAll}
use Rattle.lst_session.proofs.Recounting.{hosts_all, takes_stock, recount_told, recount_tells, all_of, recount_crew}
use Rattle.lst_session.proofs.crew.Crew.history.Goals as goal

pub history-requires-clause-all : goal.history-requires-clause-all
history-requires-clause-all c = hosts_all c.args.store.now c.args.self.now c.requires.crew

pub history-requires-clause-own : goal.history-requires-clause-own
history-requires-clause-own c = let some = c.consider.ensures.allowed.sound.sized.sessions.0 in omega arith

pub history-requires-clause-rec : goal.history-requires-clause-rec
history-requires-clause-rec c = (c.requires.crew.idle 0 (let some = c.consider.ensures.allowed.sound.sized.sessions.0 in omega arith)).rec

pub history-requires-clause-turn : goal.history-requires-clause-turn
history-requires-clause-turn c = (c.requires.crew.idle 0 (let some = c.consider.ensures.allowed.sound.sized.sessions.0 in omega arith)).turn

pub returns-clause-crew : goal.returns-clause-crew
returns-clause-crew c = recount_crew c.args.store.now c.args.self.now c.history.new.seat 0 c.requires.crew c.history.ensures.seat (let some = c.consider.ensures.allowed.sound.sized.sessions.0 in omega arith) c.history.ensures.looks

pub returns-clause-whole : goal.returns-clause-whole
returns-clause-whole c = c.history.ensures.looks.whole

pub returns-clause-all : goal.returns-clause-all
returns-clause-all c = let v : View = c.args.self.now.seat.view in let w : View = c.history.new.seat.view in IfOk-weaker c.history.result (λ all. all ≡ history_of w.limits (words_in w)) (λ all. IsHistoryOfAll v all)
    (all_of v w 0 c.history.ensures.looks (hosts_all c.args.store.now c.args.self.now c.requires.crew)) c.history.ensures.ok

pub returns-clause-session : goal.returns-clause-session
returns-clause-session c = takes_stock c.args.self.now.seat.view c.history.new.seat.view 0 c.history.ensures.looks

pub returns-clause-told : goal.returns-clause-told
returns-clause-told c = recount_told c.args.self.now.seat.view c.history.new.seat.view 0 c.history.ensures.looks (let some = c.consider.ensures.allowed.sound.sized.sessions.0 in omega arith)

pub returns-clause-tells : goal.returns-clause-tells
returns-clause-tells c = recount_tells c.args.self.now.seat.view c.history.new.seat.view 0 c.history.ensures.looks
