-- What a session has seen is sound.
use Rattle.std.proofs.Common.{◌≡◌, sym, subst, arith}
use Rattle.lst_model.specs.Soundness.{IsSound}
use Rattle.lst_core_state.specs.declared.known.Known.{Known}
use Rattle.lst_core_state.proofs.Statements.{histories_are_sound}
use Rattle.lst_core_state.specs.State.{state_over}
use Rattle.lst_rule.specs.Rule.{knows}
use Rattle.lst_rule.proofs.Knowing.{knows_own}
use Rattle.lst_session.specs.Laws.{SeenIsSound}

pub seen_is_sound : SeenIsSound
seen_is_sound v s p hosted own = let same : knows v s ≡ p.known s = knows_own v p.words p.known p.merger p.allowed s hosted (λ e. omega arith) in
    subst (λ (k : Known). IsSound k.seen) (sym same) ((histories_are_sound (state_over v.limits p.words p.known p.merger) p.allowed.sound).seen s own)
