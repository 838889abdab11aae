use Rattle.std.proofs.Common.{arith}
use Rattle.lst_historic.proofs.Decoded.{on_first, on_within, on_more, on_last}
use Rattle.lst_historic.proofs.decoding.long_number_in.Goals as goal

pub loop-at-init : goal.loop-at-init
loop-at-init c = on_first c.args.bytes.now c.args.place c.requires

pub overflow_mul-result : goal.overflow_mul-result
overflow_mul-result c = record { fits = (on_last c.args.bytes.now c.args.place c.loop-at.at c.loop-at.number c.loop-at.scale c.from-byte.result c.loop-at.invariant c.from-byte.ensures c.if-byte-lt128.true).part }

pub overflow_add-result : goal.overflow_add-result
overflow_add-result c = record { fits = (on_last c.args.bytes.now c.args.place c.loop-at.at c.loop-at.number c.loop-at.scale c.from-byte.result c.loop-at.invariant c.from-byte.ensures c.if-byte-lt128.true).sum }

pub returns-then-byte-lt128 : goal.returns-then-byte-lt128
returns-then-byte-lt128 c = (on_last c.args.bytes.now c.args.place c.loop-at.at c.loop-at.number c.loop-at.scale c.from-byte.result c.loop-at.invariant c.from-byte.ensures c.if-byte-lt128.true).read

pub overflow_mul-number : goal.overflow_mul-number
overflow_mul-number c = record { fits = (on_more c.args.bytes.now c.args.place c.loop-at.at c.loop-at.number c.loop-at.scale c.from-byte.result c.loop-at.invariant c.from-byte.ensures c.if-byte-lt128.false).part }

pub overflow_add-number : goal.overflow_add-number
overflow_add-number c = record { fits = (on_more c.args.bytes.now c.args.place c.loop-at.at c.loop-at.number c.loop-at.scale c.from-byte.result c.loop-at.invariant c.from-byte.ensures c.if-byte-lt128.false).sum }

pub overflow_mul-scale : goal.overflow_mul-scale
overflow_mul-scale c = record { fits = (on_more c.args.bytes.now c.args.place c.loop-at.at c.loop-at.number c.loop-at.scale c.from-byte.result c.loop-at.invariant c.from-byte.ensures c.if-byte-lt128.false).wide }

pub loop-at-preserved : goal.loop-at-preserved
loop-at-preserved c = (on_more c.args.bytes.now c.args.place c.loop-at.at c.loop-at.number c.loop-at.scale c.from-byte.result c.loop-at.invariant c.from-byte.ensures c.if-byte-lt128.false).next

pub returns : goal.returns
returns c = let low = on_within c.args.bytes.now c.args.place c.loop-at.at c.loop-at.number c.loop-at.scale c.loop-at.invariant in absurd (omega (arith, low, c.loop-at-test.false))
