use Rattle.std.proofs.Common.{ℕ, List, sym, ap, subst, ◌∙◌}
use Rattle.std.proofs.lemmas.Result.{IfOk-weaker}
use Rattle.lst_layout.specs.declared.limits.Limits.{Limits}
use Rattle.lst_machine.specs.State.{State}
use Rattle.lst_model.specs.declared.commits.Commit.{Commit}
use Rattle.lst_model.specs.Soundness.{IsSound}
use Rattle.lst_session.specs.Crews.{store_told}
use Rattle.lst_historic.specs.Blocks.{AreWide}
use Rattle.lst_past.specs.Past.{past_text}
use Rattle.lst_crash.proofs.Histories.{sound_told, wide_told}
use Rattle.lst_command.proofs.looking.past_of.Goals as goal

pub print_past-requires-clause-sound : goal.print_past-requires-clause-sound
print_past-requires-clause-sound c = subst IsSound (sym c.in_ok-history.ensures.ok) (sound_told c.history.new.self.seat.view c.consider.ensures c.history.ensures.whole)

pub print_past-requires-clause-wide : goal.print_past-requires-clause-wide
print_past-requires-clause-wide c =
    let same = c.history.ensures.crew.seat_of.limits ∙ sym c.requires.crew.seat_of.limits in
    let width = ap (λ (l : Limits). l.columns) same ∙ c.requires.width in
    subst (AreWide c.args.columns) (sym c.in_ok-history.ensures.ok) (subst (λ (n : ℕ). AreWide n (store_told c.history.new.self.seat.view).history) width (wide_told c.history.new.self.seat.view))

pub returns-clause-limits : goal.returns-clause-limits
returns-clause-limits c = c.history.ensures.crew.seat_of.limits ∙ sym c.requires.crew.seat_of.limits

pub returns-clause-told : goal.returns-clause-told
returns-clause-told c = c.history.ensures.told c.requires.tells.whole

pub returns-clause-text : goal.returns-clause-text
returns-clause-text c = IfOk-weaker c.print_past.result _ _ (λ text is.
    is ∙ ap (λ (h : List Commit). past_text c.args.columns h c.args.time) (c.in_ok-history.ensures.ok ∙ ap (λ (s : State). s.store.history) (c.history.ensures.told c.requires.tells.whole)))
    c.print_past.ensures
