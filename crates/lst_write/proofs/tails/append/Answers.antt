use Rattle.std.proofs.Common.{ℕ, ◌+◌, ◌*◌, ap, ◌∙◌, sym, ◌<◌, List, Bool, false, slice_index_or, subst, arith}
use Rattle.lst_layout.specs.declared.layout.Layout.{Layout}
use Rattle.lst_layout.specs.declared.limits.Limits.{Limits}
use Rattle.lst_core_state.specs.State.{name_of}
use Rattle.lst_write.specs.Cells.{encoding_of, IsActFor}
use Rattle.lst_write.proofs.Whole.{filled, start_enabled, start_stands, appended}
use Rattle.lst_core_state.specs.declared.known.Known.{Known}
use Rattle.lst_write.proofs.tails.append.Goals as goal

pub step_store_cell-requires-clause-enabled : goal.step_store_cell-requires-clause-enabled
step_store_cell-requires-clause-enabled c = start_enabled c.args.seat.now.view c.store_words.new.seat.view c.args.s c.args.rec.number c.args.head c.in_ok-number.number c.args.act.now (filled _ _ _ c.args.s c.args.rec.number c.args.head c.in_ok-number.number c.args.store.now.layout.limits.columns c.encoding-encoding.result c.args.act.now (ap (λ (l : Limits). l.columns) (sym c.requires.seat.limits)) (c.encoding-encoding.ensures ∙ ap (λ (l : Layout). encoding_of l.limits.columns c.args.rec.number c.args.act.now) c.layout.ensures) c.in_ok-number.ensures.ok c.store_words.ensures.view c.store_words.ensures.draft c.store_words.ensures.words) c.requires.own c.requires.host c.requires.act c.requires.fits c.pack_start-start.result (c.pack_start-start.ensures.word ∙ ap (λ (n : ℕ). 1 + 2 * name_of c.args.s n) c.number.ensures.is)

pub step_store_cell-requires-clause-stands : goal.step_store_cell-requires-clause-stands
step_store_cell-requires-clause-stands c = start_stands c.args.seat.now.view c.store_words.new.seat.view c.args.s c.args.rec.number c.args.head c.in_ok-number.number c.args.act.now (filled _ _ _ c.args.s c.args.rec.number c.args.head c.in_ok-number.number c.args.store.now.layout.limits.columns c.encoding-encoding.result c.args.act.now (ap (λ (l : Limits). l.columns) (sym c.requires.seat.limits)) (c.encoding-encoding.ensures ∙ ap (λ (l : Layout). encoding_of l.limits.columns c.args.rec.number c.args.act.now) c.layout.ensures) c.in_ok-number.ensures.ok c.store_words.ensures.view c.store_words.ensures.draft c.store_words.ensures.words) c.requires.own c.requires.host c.requires.act c.requires.fits c.pack_start-start.result

pub returns-clause-ok : goal.returns-clause-ok
returns-clause-ok c = appended c.args.seat.now.view c.store_words.new.seat.view c.args.s c.args.rec.number c.args.head c.in_ok-number.number c.args.act.now (filled _ _ _ c.args.s c.args.rec.number c.args.head c.in_ok-number.number c.args.store.now.layout.limits.columns c.encoding-encoding.result c.args.act.now (ap (λ (l : Limits). l.columns) (sym c.requires.seat.limits)) (c.encoding-encoding.ensures ∙ ap (λ (l : Layout). encoding_of l.limits.columns c.args.rec.number c.args.act.now) c.layout.ensures) c.in_ok-number.ensures.ok c.store_words.ensures.view c.store_words.ensures.draft c.store_words.ensures.words) c.requires.own c.requires.host c.requires.act c.requires.fits c.step_store_cell.new.seat.view c.pack_start-start.result _ (c.pack_start-start.ensures.word ∙ ap (λ (n : ℕ). 1 + 2 * name_of c.args.s n) c.number.ensures.is) c.step_store_cell.ensures.made

pub draw-requires-clause-seat : goal.draw-requires-clause-seat
draw-requires-clause-seat c = c.requires.seat

pub draw-requires-clause-host : goal.draw-requires-clause-host
draw-requires-clause-host c = c.requires.host

pub draw-requires-clause-own : goal.draw-requires-clause-own
draw-requires-clause-own c = c.requires.own

pub draw-requires-clause-latch : goal.draw-requires-clause-latch
draw-requires-clause-latch c = c.requires.latch

pub draw-requires-clause-judged : goal.draw-requires-clause-judged
draw-requires-clause-judged c = c.requires.judged

pub store_words-requires-clause-seat : goal.store_words-requires-clause-seat
store_words-requires-clause-seat c = c.in_ok-number.ensures.seat

pub store_words-requires-clause-host : goal.store_words-requires-clause-host
store_words-requires-clause-host c = ap (λ (bs : List Bool). slice_index_or bs c.args.s false) c.in_ok-number.ensures.ok.view.hosted ∙ c.requires.host

pub store_words-requires-clause-own : goal.store_words-requires-clause-own
store_words-requires-clause-own c = subst (λ (l : Limits). c.args.s < l.sessions) (sym c.in_ok-number.ensures.ok.view.limits) c.requires.own

pub store_words-requires-clause-tail : goal.store_words-requires-clause-tail
store_words-requires-clause-tail c = subst (λ (k : Known). 0 < k.hold.tail) (sym c.in_ok-number.ensures.ok.view.now) (let some = c.in_ok-number.ensures.ok.some in omega arith)

pub store_words-requires-clause-blank : goal.store_words-requires-clause-blank
store_words-requires-clause-blank c = ap (λ (k : Known). k.hold.is_whole) c.in_ok-number.ensures.ok.view.now

pub store_words-requires-clause-act : goal.store_words-requires-clause-act
store_words-requires-clause-act c = subst (λ (l : Limits). IsActFor l.columns c.args.act.now) c.requires.seat.limits c.requires.act

pub number-requires : goal.number-requires
number-requires c = ap (λ (bs : List Bool). slice_index_or bs c.args.s false) (filled _ _ _ c.args.s c.args.rec.number c.args.head c.in_ok-number.number c.args.store.now.layout.limits.columns c.encoding-encoding.result c.args.act.now (ap (λ (l : Limits). l.columns) (sym c.requires.seat.limits)) (c.encoding-encoding.ensures ∙ ap (λ (l : Layout). encoding_of l.limits.columns c.args.rec.number c.args.act.now) c.layout.ensures) c.in_ok-number.ensures.ok c.store_words.ensures.view c.store_words.ensures.draft c.store_words.ensures.words).view.hosted ∙ c.requires.host

pub step_store_cell-requires-clause-seat : goal.step_store_cell-requires-clause-seat
step_store_cell-requires-clause-seat c = c.store_words.ensures.seat

pub step_store_cell-requires-clause-host : goal.step_store_cell-requires-clause-host
step_store_cell-requires-clause-host c = ap (λ (bs : List Bool). slice_index_or bs c.args.s false) (filled _ _ _ c.args.s c.args.rec.number c.args.head c.in_ok-number.number c.args.store.now.layout.limits.columns c.encoding-encoding.result c.args.act.now (ap (λ (l : Limits). l.columns) (sym c.requires.seat.limits)) (c.encoding-encoding.ensures ∙ ap (λ (l : Layout). encoding_of l.limits.columns c.args.rec.number c.args.act.now) c.layout.ensures) c.in_ok-number.ensures.ok c.store_words.ensures.view c.store_words.ensures.draft c.store_words.ensures.words).view.hosted ∙ c.requires.host

pub step_store_cell-requires-clause-own : goal.step_store_cell-requires-clause-own
step_store_cell-requires-clause-own c = subst (λ (l : Limits). c.args.s < l.sessions) (sym (filled _ _ _ c.args.s c.args.rec.number c.args.head c.in_ok-number.number c.args.store.now.layout.limits.columns c.encoding-encoding.result c.args.act.now (ap (λ (l : Limits). l.columns) (sym c.requires.seat.limits)) (c.encoding-encoding.ensures ∙ ap (λ (l : Layout). encoding_of l.limits.columns c.args.rec.number c.args.act.now) c.layout.ensures) c.in_ok-number.ensures.ok c.store_words.ensures.view c.store_words.ensures.draft c.store_words.ensures.words).view.limits) c.requires.own

pub returns-clause-seat : goal.returns-clause-seat
returns-clause-seat c = c.step_store_cell.ensures.seat

pub returns-clause-err : goal.returns-clause-err
returns-clause-err c = tt

pub returns-in_err-number-clause-seat : goal.returns-in_err-number-clause-seat
returns-in_err-number-clause-seat c = c.in_err-number.ensures.seat
