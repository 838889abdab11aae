use Rattle.std.proofs.Common.{◌≡◌, ◌≢◌, ◌+◌, ◌*◌, ◌<◌, arith, rules, sym, ap, ◌∙◌, refl, get_or-set_other}
use mathlib.Core.Logic.{dite}
use native.Mathlib.Decide.{dec_lt}
use Rattle.std.proofs.lemmas.Grind.{get_or-set_at}
use Rattle.lst_pack.specs.Forms.{number_at}
use Rattle.lst_pack.proofs.Numbers.{number_in_word}
use Rattle.lst_pack.proofs.widths.read_bytes.Goals as goal

pub loop-k-preserved : goal.loop-k-preserved
loop-k-preserved g c = record {
  long = search rules;
  done = λ p low.
      dite (dec_lt p (c.loop-turn.turn * 8 + c.loop-k.k))
      (λ (before : p < c.loop-turn.turn * 8 + c.loop-k.k).
      let ne : p ≢ c.loop-turn.turn * 8 + c.loop-k.k = omega arith in rw get_or-set_other (c.loop-k.invariant.done p before))
      (λ past.
      let here : p ≡ c.loop-turn.turn * 8 + c.loop-k.k = omega (arith, past) in
      get_or-set_at c.loop-k.bytes (c.loop-turn.turn * 8 + c.loop-k.k) p _ 0 here (omega (arith, c.loop-k.invariant.long))
      ∙ sym (number_in_word c.args.words.now c.args.from 8 8 c.loop-turn.turn c.loop-k.k refl (omega arith) (omega arith))
      ∙ ap (λ n. number_at c.args.words.now c.args.from 8 n) (sym here));
}
