use Rattle.std.proofs.Common.{refl, sym, ◌∙◌}
use Rattle.lst_model.specs.declared.lines.Call.TheVariants.{Get}
use Rattle.lst_machine.specs.Calls.{row_reply}
use Rattle.lst_session.proofs.Crewed.{crew_view, told_by}
use Rattle.lst_session.proofs.Getting.{get_answers}
use Rattle.lst_session.proofs.Keeping.{crew_on}
use Rattle.lst_session.proofs.Paged.{still_answers}
use Rattle.lst_session.proofs.Pinned.{get_pinned}
use Rattle.lst_session.proofs.Promising.{gets, still_idle}
use Rattle.lst_session.proofs.Saving.{get_saves}
use Rattle.lst_session.proofs.crew.Crew.get.Goals as goal

pub is_open-requires : goal.is_open-requires
is_open-requires c = c.requires.crew.hosted c.args.s c.requires.session

pub read-requires-clause-host : goal.read-requires-clause-host
read-requires-clause-host c = c.requires.crew.hosted c.args.s c.requires.session

pub returns-clause-crew : goal.returns-clause-crew
returns-clause-crew c = let hosted = c.requires.crew.hosted c.args.s c.requires.session in let is_open = sym c.is_open.ensures ∙ c.if-not-is_open.false in
    crew_on c.args.store.now c.args.self.now c.read.new.seat c.args.s c.requires.crew c.read.ensures.seat c.requires.session
    (gets c.args.self.now.seat.view c.read.new.seat.view c.args.s c.args.key hosted c.consider.ensures c.requires.session c.read.result is_open c.read.ensures.reads).called
    (still_idle c.args.self.now.seat.view c.read.new.seat.view c.args.s c.args.key hosted c.consider.ensures c.requires.session c.read.result is_open c.read.ensures.reads (c.requires.crew.idle c.args.s c.requires.session))
    (get_pinned c.args.self.now.seat.view c.read.new.seat.view c.args.s (c.requires.crew.pinned c.args.s c.requires.session) c.args.key c.read.result
    (gets c.args.self.now.seat.view c.read.new.seat.view c.args.s c.args.key hosted c.consider.ensures c.requires.session c.read.result is_open c.read.ensures.reads))

pub returns-clause-machine : goal.returns-clause-machine
returns-clause-machine c tells = let hosted = c.requires.crew.hosted c.args.s c.requires.session in let is_open = sym c.is_open.ensures ∙ c.if-not-is_open.false in
    let got = gets c.args.self.now.seat.view c.read.new.seat.view c.args.s c.args.key hosted c.consider.ensures c.requires.session c.read.result is_open c.read.ensures.reads in
    told_by c.read.new.seat.view (λ a. still_answers c.args.self.now.seat.view c.read.new.seat.view c.args.s c.requires.session got.called (Get c.args.key) (row_reply c.read.result) a got.pins refl)
    (get_answers c.args.self.now.seat.view c.read.new.seat.view c.args.s c.args.key c.read.result (crew_view c.args.store.now c.args.self.now c.requires.crew tells) c.consider.ensures c.requires.session (sym c.is_open.ensures ∙ c.if-not-is_open.false) c.read.ensures.reads)

pub returns-clause-ok : goal.returns-clause-ok
returns-clause-ok c = let is_open = sym c.is_open.ensures ∙ c.if-not-is_open.false in
    (is_open, gets c.args.self.now.seat.view c.read.new.seat.view c.args.s c.args.key (c.requires.crew.hosted c.args.s c.requires.session) c.consider.ensures c.requires.session c.read.result is_open c.read.ensures.reads)

pub returns-clause-saves : goal.returns-clause-saves
returns-clause-saves c tells is_open folded = get_saves c.args.self.now.seat.view c.read.new.seat.view c.args.s c.args.key (crew_view c.args.store.now c.args.self.now c.requires.crew tells) c.consider.ensures c.requires.session
    (c.requires.crew.pinned c.args.s c.requires.session) is_open folded c.read.result c.read.ensures.reads
