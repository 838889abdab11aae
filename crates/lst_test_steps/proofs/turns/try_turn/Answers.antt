use Rattle.std.proofs.Common.{◌≡◌, ◌<◌, ℕ, Bool, true, false, List, slice_index_or, refl, sym, subst, ap, ◌∙◌}
use Rattle.lst_layout.specs.declared.limits.Limits.{Limits}
use Rattle.lst_core_state.specs.declared.known.Known.{Known}
use Rattle.lst_core_state.specs.declared.known.Stage.TheVariants.{Away}
use Rattle.lst_core_state.specs.Step.{took}
use Rattle.lst_rule.specs.Rule.{knows, hosts}
use Rattle.lst_rule.specs.Learned.{Learns}
use Rattle.lst_rule.proofs.Learning.{learns_then}
use Rattle.lst_test_steps.proofs.turns.try_turn.Goals as goal

pub give_back-requires-clause-host : goal.give_back-requires-clause-host
give_back-requires-clause-host c =
    let low : c.args.s < c.args.store.now.layout.limits.sessions = subst (λ (l : Limits). c.args.s < l.sessions) c.requires.crew.seat_of.limits c.requires.out.low in
    subst (λ (n : ℕ). hosts c.take_turn.new.seat.view n ≡ true) (sym c.in-Ok.ensures.ok.0)
    (ap (λ (bs : List Bool). slice_index_or bs c.args.s false) c.in-Ok.ensures.hosted ∙ c.requires.crew.hosted c.args.s low)

pub returns-in-Ok-clause-out : goal.returns-in-Ok-clause-out
returns-in-Ok-clause-out c =
    let old = c.args.seat.now.view in
    let mid = c.take_turn.new.seat.view in
    let new = c.give_back.new.seat.view in
    let gives = subst (λ (n : ℕ). Learns mid new n (record (knows mid n) { turn = Away })) c.in-Ok.ensures.ok.0 c.give_back.ensures.view in record {
      now = record (took (knows old c.args.s)) { turn = Away };
      view = learns_then old mid new c.args.s (took (knows old c.args.s)) (λ (k : Known). record k { turn = Away }) c.in-Ok.ensures.ok.1 gives;
      free = (refl, c.requires.out.at.1);
      hand = c.requires.out.hand;
    }
