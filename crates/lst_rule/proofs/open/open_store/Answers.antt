use Rattle.std.proofs.Common.{◌≡◌, sym, ap, subst, ◌∙◌}
use Rattle.lst_layout.specs.Words.{IsOpening}
use Rattle.lst_rule.specs.declared.view.View.{View}
use Rattle.lst_rule.specs.Rule.{crew}
use Rattle.lst_rule.proofs.Opening.{opens}
use Rattle.lst_rule.specs.Seats.{Tells}
use Rattle.lst_rule.proofs.Opens.{crew_tells}
use Rattle.lst_rule.proofs.open.open_store.Goals as goal

pub of_words-requires : goal.of_words-requires
of_words-requires c = opens c.args.layout.now.limits c.args.layout.now.valid c.as_slice.result.now (subst (IsOpening c.args.layout.now.limits) (sym c.as_slice.ensures.value) c.in_ok-words.ensures)

pub invariant_of-seat : goal.invariant_of-seat
invariant_of-seat c = let v : View = crew c.args.layout.now.limits in let view : c.in_ok-table.place.me.0 ≡ v = ap (λ m. m.0) c.in_ok-table.ensures.4 in (
  ap (λ m. m.1) c.in_ok-table.ensures.4,
  sym (ap (λ (u : View). u.limits) view),
  c.in_ok-hosted.ensures ∙ sym (ap (λ (u : View). u.hosts) view),
  subst (λ (u : View). Tells u c.in_ok-numbers.numbers.items) (sym view) (crew_tells c.args.layout.now.limits c.args.layout.now.valid c.in_ok-words.words.items c.in_ok-words.ensures c.in_ok-numbers.numbers.items c.in_ok-numbers.ensures),
)
