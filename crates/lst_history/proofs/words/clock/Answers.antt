use Rattle.std.proofs.Common.{ℕ, List, sym, ap, ◌∙◌}
use Rattle.lst_core_state.specs.declared.known.Known.{Known}
use Rattle.lst_core_state.specs.State.{history_of}
use Rattle.lst_layout.specs.Words.{shown}
use Rattle.lst_layout.specs.declared.place.Place.TheVariants.{ClockWord}
use Rattle.lst_history.proofs.Looks.{look_reads}
use Rattle.lst_history.proofs.words.clock.Goals as goal

pub returns-clause-reads : goal.returns-clause-reads
returns-clause-reads c = look_reads c.args.store.now c.args.seat.now c.load_clock.new.seat c.args.s c.load_clock.result ClockWord c.requires.reader c.load_clock.ensures.seat tt tt c.load_clock.ensures.clocked.looked

pub returns-clause-seen : goal.returns-clause-seen
returns-clause-seen c = let all = c.load_clock.ensures.clocked in let v = c.args.seat.now.view in ap (λ (k : Known). k.seen) all.view.now ∙ (all.history ∙ ap (λ (ws : List ℕ). history_of v.limits (shown v.limits ws)) (sym (all.looked.met.made.told.allowed.whole c.requires.reader.whole)))
