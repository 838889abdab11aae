use Rattle.std.proofs.Common.{arith, ◌∙◌, sym}
use Rattle.lst_pack.proofs.Written.{dictionary_written}
use Rattle.lst_pack.proofs.packing.write_dictionary.Goals as goal

pub returns-clause-packs : goal.returns-clause-packs
returns-clause-packs c = dictionary_written c.loop-turn.out c.args.known.now c.args.values.now c.args.size c.requires.few c.loop-turn.invariant.first c.loop-turn.invariant.long c.told-values
    c.loop-turn.invariant.known (λ t k h. c.loop-turn.invariant.codes t k (omega arith))

pub returns-clause-sorted : goal.returns-clause-sorted
returns-clause-sorted c = record {
  rising = λ code next order low. let a = c.loop-turn.invariant.known code (omega arith) in let b = c.loop-turn.invariant.known next low in let r = c.requires.known.rising code next order low in omega arith;
  used = λ code low. let s = c.requires.known.standing code low in (s.0, s.1, s.2 ∙ sym (c.loop-turn.invariant.known code low));
}
