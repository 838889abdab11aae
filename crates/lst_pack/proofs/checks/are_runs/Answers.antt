use Rattle.std.proofs.Common.{◌≡◌, ◌-◌, ◌*◌, arith, sym, ◌∙◌, slice_index, eqb-true, eq-eqb, true≢false}
use Rattle.lst_pack.proofs.Runs.{run_before}
use Rattle.lst_pack.proofs.Checking.{end_low}
use Rattle.lst_pack.proofs.checks.are_runs.Goals as goal

pub returns-then-words-run : goal.returns-then-words-run
returns-then-words-run c = (λ no. absurd (true≢false (sym no)), λ are. let high = end_low c.args.words.now c.args.runs c.loop-run.run c.loop-run.end are (omega arith) c.loop-run.invariant.none c.loop-run.invariant.some in absurd (omega arith))

pub returns : goal.returns
returns c = let words = c.args.words.now in let runs = c.args.runs in
    let e : c.loop-run.end ≡ slice_index words (2 * runs) = c.loop-run.invariant.some (runs - 1) (omega arith) ∙ run_before words runs (omega arith) in (
      (λ is. record { some = omega arith; few = omega arith; begins = c.loop-run.invariant.begins (omega arith); rising = λ run low. c.loop-run.invariant.rising run (omega arith); last = sym e ∙ eqb-true c.loop-run.end 256 is }),
      (λ are. eq-eqb c.loop-run.end 256 (e ∙ are.last)),
    )
