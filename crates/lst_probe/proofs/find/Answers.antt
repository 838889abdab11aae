use Rattle.std.proofs.Common.{◌≡◌, ℕ, ◌+◌, ◌-◌, ◌<◌, ◌≤◌, false, bit_and, get_or, length, subst, arith, pos_of_ne-zero}
use Rattle.lst_probe.specs.Run.{run_position, Passes}
use Rattle.lst_probe.proofs.Runs.{run_position-mask, passes_next, none_empty}
use Rattle.lst_probe.proofs.find.Goals as goal

pub returns-then-word-eq0 : goal.returns-then-word-eq0
returns-then-word-eq0 g c = (record { offset = c.loop-offset.offset; short = c.loop-offset-test.true; is = run_position-mask (length c.args.positions.now) c.args.from c.loop-offset.offset c.requires.power; passes = c.loop-offset.invariant }, c.if-word-eq0.true)

pub returns-then-same : goal.returns-then-same
returns-then-same g c = (
  record { offset = c.loop-offset.offset; short = c.loop-offset-test.true; is = run_position-mask (length c.args.positions.now) c.args.from c.loop-offset.offset c.requires.power; passes = c.loop-offset.invariant },
  pos_of_ne-zero c.if-word-eq0.false,
  c.if-same.ensures,
)

pub loop-offset-preserved : goal.loop-offset-preserved
loop-offset-preserved g c = let at : bit_and (c.args.from + c.loop-offset.offset) (length c.args.positions.now - 1) ≡ run_position (length c.args.positions.now) c.args.from c.loop-offset.offset = run_position-mask (length c.args.positions.now) c.args.from c.loop-offset.offset c.requires.power in
    passes_next (λ position. get_or c.args.positions.now position 0) (λ word. goal.T-post g c.args.same word false) (length c.args.positions.now) c.args.from c.loop-offset.offset c.loop-offset.invariant
    (subst (λ (position : ℕ). 0 < get_or c.args.positions.now position 0) at (pos_of_ne-zero c.if-word-eq0.false))
    (subst (λ (position : ℕ). goal.T-post g c.args.same (get_or c.args.positions.now position 0) false) at (c.if-same.ensures))

pub unreachable-requires : goal.unreachable-requires
unreachable-requires g c = let all : Passes (λ position. get_or c.args.positions.now position 0) (λ word. goal.T-post g c.args.same word false) (length c.args.positions.now) c.args.from (length c.args.positions.now) = (λ i h. c.loop-offset.invariant i (let g : length c.args.positions.now ≤ c.loop-offset.offset = c.loop-offset-test.false in omega (arith, h))) in
    let filled : 0 < get_or c.args.positions.now c.requires.empty.0 0 = none_empty (λ position. get_or c.args.positions.now position 0) (λ word. goal.T-post g c.args.same word false) (length c.args.positions.now) c.args.from c.requires.start all c.requires.empty.0 c.requires.empty.1 in
    let empty : get_or c.args.positions.now c.requires.empty.0 0 ≡ 0 = c.requires.empty.2 in omega arith
