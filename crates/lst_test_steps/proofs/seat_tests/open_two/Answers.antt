use Rattle.std.proofs.Common.{◌≡◌, ap, ◌∙◌}
use Rattle.lst_layout.specs.declared.limits.Limits.{Limits}
use Rattle.lst_rule.specs.declared.view.View.{View}
use Rattle.lst_test_steps.proofs.Parted.{first_own, second_own}
use Rattle.lst_test_steps.proofs.seat_tests.open_two.Goals as goal

pub returns-clause-first : goal.returns-clause-first
returns-clause-first c = let two : c.in_ok-store.seat.view.limits.sessions ≡ 2 = ap (λ (u : View). u.limits.sessions) c.in_ok-store.ensures.crew ∙ ap (λ (l : Limits). l.sessions) c.in-Ok.ensures.layout in
    first_own c.in_ok-store.store c.in_ok-store.seat.view c.in-Ok.layout.limits c.in-Ok-part.seats c.in-Ok-part.merger c.in_ok-store.ensures.crew two c.in-Ok-part.ensures.parts c.into_vec-items.result.items c.pop.new.self.items c.pop-2.new.self.items c.in-Some-Some.first c.in-Some-Some.second c.into_vec-items.ensures c.in-Some-Some.ensures.items c.in-Some-Some.ensures'.items

pub returns-clause-second : goal.returns-clause-second
returns-clause-second c = let two : c.in_ok-store.seat.view.limits.sessions ≡ 2 = ap (λ (u : View). u.limits.sessions) c.in_ok-store.ensures.crew ∙ ap (λ (l : Limits). l.sessions) c.in-Ok.ensures.layout in
    second_own c.in_ok-store.store c.in_ok-store.seat.view c.in-Ok.layout.limits c.in-Ok-part.seats c.in-Ok-part.merger c.in_ok-store.ensures.crew two c.in-Ok-part.ensures.parts c.into_vec-items.result.items c.pop.new.self.items c.pop-2.new.self.items c.in-Some-Some.first c.in-Some-Some.second c.into_vec-items.ensures c.in-Some-Some.ensures.items c.in-Some-Some.ensures'.items
