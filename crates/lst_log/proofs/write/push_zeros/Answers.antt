use Rattle.std.proofs.Common.{◌≡◌, ◌++◌, ◌∙◌, ◌+◌, ◌-◌, ℕ, suc, List, ap, arith, append_assoc, replicate}
use Rattle.std.specs.List.{flat_map}
use Rattle.lst_log.specs.Format.{word}
use Rattle.lst_log.proofs.write.push_zeros.Goals as goal

pub loop-preserved : goal.loop-preserved
loop-preserved c =
    let left : ℕ = c.args.columns - (c.loop.counter + 1) in
    let rest : List ℕ = flat_map word (replicate left 0) in
    let k : suc left ≡ c.args.columns - c.loop.counter = omega (arith, c.loop-test.true) in
    let pushed : c.extend_from_slice.new.self.items ≡ c.loop.text.items ++ word 0 = c.in_ok-extend_from_slice.ensures.items ∙ ap (λ (bytes : List ℕ). c.loop.text.items ++ bytes) c.to_be_bytes.ensures in
    ap (λ (text : List ℕ). text ++ rest) pushed ∙ append_assoc c.loop.text.items (word 0) rest ∙ ap (λ (n : ℕ). c.loop.text.items ++ flat_map word (replicate n 0)) k ∙ c.loop.invariant
