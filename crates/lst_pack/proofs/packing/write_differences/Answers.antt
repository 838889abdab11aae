use Rattle.std.proofs.Common.{◌≡◌, ◌≢◌, ◌+◌, ◌*◌, ◌/◌, ◌%◌, ◌^◌, ◌-◌, ◌<◌, slice_index, arith, ◌∙◌, sym, ap, get_or-set_other}
use mathlib.Core.Logic.{dite}
use native.Mathlib.Decide.{dec_lt}
use Rattle.std.proofs.lemmas.Grind.{common_steps, get_or-set_at}
use Rattle.lst_pack.proofs.Numbers.{per_word}
use Rattle.lst_pack.proofs.Written.{reference_written}
use Rattle.lst_pack.proofs.packing.write_differences.Goals as goal

pub loop-turn-preserved : goal.loop-turn-preserved
loop-turn-preserved g c =
    let per = per_word g.row.WIDTH c.requires.whole in
    record {
      long = grind (arith, common_steps);
      first = grind (arith, common_steps);
      base = grind (arith, common_steps);
      differences = λ t k low few. dite (dec_lt t c.loop-turn.turn)
          (λ (h : t < c.loop-turn.turn). let ne : 2 + t ≢ 2 + c.loop-turn.turn = omega arith in rw get_or-set_other (c.loop-turn.invariant.differences t k h few))
          (λ past. let e : t ≡ c.loop-turn.turn = omega (arith, past) in
          let s = get_or-set_at c.loop-turn.out (2 + c.loop-turn.turn) (2 + t) c.word_of_differences.result 0 (omega arith) (omega arith) in
          ap (λ n. n / 2 ^ (k * g.row.WIDTH) % 2 ^ g.row.WIDTH) s ∙ c.word_of_differences.ensures k few ∙ ap (λ n. slice_index c.args.values.now (n * (64 / g.row.WIDTH) + k) - c.args.least) (sym e));
    }

pub returns-clause-packs : goal.returns-clause-packs
returns-clause-packs g c = let per = per_word g.row.WIDTH c.requires.whole in
    reference_written c.loop-turn.out c.args.values.now g.row.WIDTH c.args.least c.requires.whole c.loop-turn.invariant.first c.loop-turn.invariant.long c.told-values c.loop-turn.invariant.base
    per.2 c.requires.least.bound c.fits-values (λ t k h. c.loop-turn.invariant.differences t k (omega arith))
