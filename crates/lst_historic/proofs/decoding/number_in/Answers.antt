use Rattle.std.proofs.Common.{length, ◌+◌, ◌<◌, arith}
use Rattle.lst_historic.proofs.Decoded.{word_within, read_one, second_within, read_two, third_within, read_three}
use Rattle.lst_historic.proofs.decoding.number_in.Goals as goal

pub bounds-bytes-place : goal.bounds-bytes-place
bounds-bytes-place c = word_within c.args.bytes.now c.args.place c.requires

pub overflow_add-result : goal.overflow_add-result
overflow_add-result c = let low : c.args.place < length c.args.bytes.now = word_within c.args.bytes.now c.args.place c.requires in record { fits = omega arith }

pub returns-then-first-lt128 : goal.returns-then-first-lt128
returns-then-first-lt128 c = read_one c.args.bytes.now c.args.place c.from-first.result c.requires c.from-first.ensures c.if-first-lt128.true

pub bounds-bytes-place-2 : goal.bounds-bytes-place-2
bounds-bytes-place-2 c = second_within c.args.bytes.now c.args.place c.from-first.result c.requires c.from-first.ensures c.if-first-lt128.false

pub returns-then-second-lt128 : goal.returns-then-second-lt128
returns-then-second-lt128 c = read_two c.args.bytes.now c.args.place c.from-first.result c.requires c.from-first.ensures c.from-second.result c.if-first-lt128.false c.from-second.ensures c.if-second-lt128.true

pub bounds-bytes-place-3 : goal.bounds-bytes-place-3
bounds-bytes-place-3 c = third_within c.args.bytes.now c.args.place c.from-first.result c.requires c.from-first.ensures c.from-second.result c.if-first-lt128.false c.from-second.ensures c.if-second-lt128.false

pub returns-then-third-lt128 : goal.returns-then-third-lt128
returns-then-third-lt128 c =
    read_three c.args.bytes.now c.args.place c.from-first.result c.requires c.from-first.ensures c.from-second.result c.from-third.result c.if-first-lt128.false c.from-second.ensures c.if-second-lt128.false c.from-third.ensures c.if-third-lt128.true
