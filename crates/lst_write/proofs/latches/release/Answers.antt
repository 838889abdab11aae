use Rattle.std.proofs.Common.{sym, ◌<◌, ◌≡◌, ℕ, ◌+◌, ◌-◌, ◌*◌, subst, arith}
use Rattle.lst_layout.specs.declared.place.Place.TheVariants.{HeadWord}
use Rattle.lst_core_state.specs.declared.known.Hold.{Hold}
use Rattle.lst_core_state.specs.declared.events.Event.TheVariants.{Release}
use Rattle.lst_rule.specs.Learned.{Made}
use Rattle.lst_write.proofs.Freeing.{release_frees}
use Rattle.lst_write.proofs.latches.release.Goals as goal

pub returns-clause-word : goal.returns-clause-word
returns-clause-word c = let rec : ℕ = c.args.rec.number in let same : rec + 1 - 1 ≡ rec = omega arith in
    subst (λ (r : ℕ). Made c.args.seat.now.view c.step_release.new.seat.view (Release c.args.s) (HeadWord r) (2 * c.args.head)) same (subst (λ (h : Hold). Made c.args.seat.now.view c.step_release.new.seat.view (Release c.args.s) (HeadWord (h.latch - 1)) (2 * h.head)) c.requires.latch c.step_release.ensures.made)

pub returns-clause-free : goal.returns-clause-free
returns-clause-free c = release_frees _ _ _ _ _ c.requires.host c.requires.own (subst (λ (h : Hold). 0 < h.latch) (sym c.requires.latch) (omega arith)) c.step_release.ensures.made
