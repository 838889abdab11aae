use Rattle.std.proofs.Common.{ℕ, ◌+◌, ◌*◌, ◌%◌, sym, subst, ◌∙◌, arith, eqb-true}
use Rattle.std.proofs.lemmas.Bool.{eqb-false}
use Rattle.lst_layout.specs.declared.place.Place.TheVariants.{HeadWord}
use Rattle.lst_core_state.specs.declared.events.Event.TheVariants.{Latch}
use Rattle.lst_rule.specs.Learned.{Made}
use Rattle.lst_write.specs.Holding.{Latches}
use Rattle.lst_write.proofs.Latching.{record_low, may_latch, latch_won, latch_taken, latch_free, latch_keeps, word_few}
use Rattle.lst_write.proofs.latches.latch.Goals as goal

pub step_latch-requires-clause-within : goal.step_latch-requires-clause-within
step_latch-requires-clause-within c = (c.requires.own, record_low _ _ _ c.consider.ensures c.requires.host c.requires.placed)

pub step_latch-requires-clause-stands : goal.step_latch-requires-clause-stands
step_latch-requires-clause-stands c = may_latch _ _ _ c.requires.host c.requires.placed

pub unpack_head-head-requires : goal.unpack_head-head-requires
unpack_head-head-requires c = word_few _ _ _ _ _ _ c.requires.host c.step_latch.ensures.met

pub returns-then-latched-clause-err : goal.returns-then-latched-clause-err
returns-then-latched-clause-err c = let y : ℕ = c.step_latch.result in latch_taken _ _ _ _ _ _ c.requires.host c.step_latch.ensures.met (eqb-true (y % 2) 1 (sym c.unpack_head-head.ensures.latched ∙ c.if-latched.true))

pub returns-else-latched-clause-ok : goal.returns-else-latched-clause-ok
returns-else-latched-clause-ok c = let y : ℕ = c.step_latch.result in let odd = eqb-false (y % 2) 1 (sym c.unpack_head-head.ensures.latched ∙ c.if-latched.false) in
    subst (λ (h : ℕ). Latches c.args.seat.now.view c.step_latch.new.seat.view c.args.s c.args.rec.number h) (sym c.unpack_head-head.ensures.head) (latch_won _ _ _ _ _ _ c.requires.host c.step_latch.ensures.met (omega arith))

pub returns-then-latched-clause-kept : goal.returns-then-latched-clause-kept
returns-then-latched-clause-kept c = let y : ℕ = c.step_latch.result in latch_keeps _ _ _ _ _ c.step_latch.ensures.met (eqb-true (y % 2) 1 (sym c.unpack_head-head.ensures.latched ∙ c.if-latched.true))

pub returns-then-latched-clause-crew : goal.returns-then-latched-clause-crew
returns-then-latched-clause-crew c free = let y : ℕ = c.step_latch.result in absurd (latch_free _ _ _ _ _ _ c.requires.host c.step_latch.ensures.met (record_low _ _ _ c.consider.ensures c.requires.host c.requires.placed) free
    (eqb-true (y % 2) 1 (sym c.unpack_head-head.ensures.latched ∙ c.if-latched.true)))

pub returns-else-latched-clause-word : goal.returns-else-latched-clause-word
returns-else-latched-clause-word c = subst (λ (h : ℕ). Made c.args.seat.now.view c.step_latch.new.seat.view (Latch c.args.s c.args.rec.number) (HeadWord c.args.rec.number) (2 * h + 1)) (sym c.unpack_head-head.ensures.head) c.step_latch.ensures.met.made
