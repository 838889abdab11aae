use Rattle.std.proofs.Common.{◌≡◌, ◌+◌, ◌≤◌, drop, subst, sym, ap, ◌∙◌, arith, List}
use Rattle.std.specs.Prelude.{Some, IsSome}
use Rattle.lst_model.specs.Cells.{Cell}
use Rattle.lst_snapshots.specs.Versions.{version_at}
use Rattle.lst_historic.specs.Numbers.{word_at}
use Rattle.lst_historic.specs.Reading.{row_behind}
use Rattle.lst_historic.specs.Decoding.{shown}
use Rattle.lst_historic.proofs.Loops.{all_left, none_left, next}
use Rattle.lst_historic.proofs.Decoded.{some_unless, is_got, version_some, version_of, found_of}
use Rattle.lst_historic.proofs.decoding.row_in.Goals as goal

pub number_in-count-requires : goal.number_in-count-requires
number_in-count-requires c =
    let v = c.requires.some in
    some_unless (word_at (drop c.args.place c.args.bytes.now)) (λ none. none_left c.args.columns c.args.until c.args.time v.versions v.rest (drop c.args.place c.args.bytes.now) v.few v.text none)

pub loop-init : goal.loop-init
loop-init c = record {
  left = λ versions rest low few fits text.
      all_left c.args.columns c.args.until c.args.time versions rest (drop c.args.place c.args.bytes.now) (drop c.number_in-count.result.1 c.args.bytes.now) c.number_in-count.result.0 few fits text c.number_in-count.ensures;
  base = sym c.clear.ensures;
}

pub number_in-gap-requires : goal.number_in-gap-requires
number_in-gap-requires c =
    let v = c.requires.some in
    let row = shown c.loop.is_some c.loop.cells.items in
    let some = version_some c.args.columns c.args.until c.args.time v.versions v.rest c.loop.counter c.number_in-count.result.0 c.loop.now row (drop c.loop.at c.args.bytes.now) c.requires.few v.built c.loop-test.true (c.loop.invariant.left v.versions v.rest v.built v.few v.fits v.text) in
    let version = version_of c.args.columns c.args.until c.loop.now row (drop c.loop.at c.args.bytes.now) some in
    is_got (word_at (drop c.loop.at c.args.bytes.now)) (version.gap, version.behind) version.gap-read

pub overflow_add-later : goal.overflow_add-later
overflow_add-later c =
    let v = c.requires.some in
    let row = shown c.loop.is_some c.loop.cells.items in
    let some = version_some c.args.columns c.args.until c.args.time v.versions v.rest c.loop.counter c.number_in-count.result.0 c.loop.now row (drop c.loop.at c.args.bytes.now) c.requires.few v.built c.loop-test.true (c.loop.invariant.left v.versions v.rest v.built v.few v.fits v.text) in
    let found = found_of c.args.columns c.args.until c.loop.now c.number_in-gap.result.0 row (drop c.loop.at c.args.bytes.now) (drop c.number_in-gap.result.1 c.args.bytes.now) some c.number_in-gap.ensures in
    let within : c.loop.now + c.number_in-gap.result.0 ≤ c.args.until = found.within in
    let built = v.built in
    record { fits = omega (arith, within, built) }

pub returns-then-later-time : goal.returns-then-later-time
returns-then-later-time c = λ versions rest low few fits text.
    let row = shown c.loop.is_some c.loop.cells.items in
    let left = c.loop.invariant.left versions rest low few fits text in
    let some = version_some c.args.columns c.args.until c.args.time versions rest c.loop.counter c.number_in-count.result.0 c.loop.now row (drop c.loop.at c.args.bytes.now) c.requires.few low c.loop-test.true left in
    let found = found_of c.args.columns c.args.until c.loop.now c.number_in-gap.result.0 row (drop c.loop.at c.args.bytes.now) (drop c.number_in-gap.result.1 c.args.bytes.now) some c.number_in-gap.ensures in
    c.row_of.ensures
    ∙ (next c.args.columns c.args.until c.args.time versions rest c.loop.counter c.number_in-count.result.0 c.loop.now row (version_at (c.loop.now + c.number_in-gap.result.0) found.new) (drop c.loop.at c.args.bytes.now) found.end
    c.requires.few low c.loop-test.true left found.read).late c.if-later-time.true

pub row_behind_in-present-requires-clause-read : goal.row_behind_in-present-requires-clause-read
row_behind_in-present-requires-clause-read c =
    let v = c.requires.some in
    let row = shown c.loop.is_some c.loop.cells.items in
    let some = version_some c.args.columns c.args.until c.args.time v.versions v.rest c.loop.counter c.number_in-count.result.0 c.loop.now row (drop c.loop.at c.args.bytes.now) c.requires.few v.built c.loop-test.true (c.loop.invariant.left v.versions v.rest v.built v.few v.fits v.text) in
    let found = found_of c.args.columns c.args.until c.loop.now c.number_in-gap.result.0 row (drop c.loop.at c.args.bytes.now) (drop c.number_in-gap.result.1 c.args.bytes.now) some c.number_in-gap.ensures in
    subst (λ (base : List Cell). IsSome (row_behind base (drop c.number_in-gap.result.1 c.args.bytes.now))) c.loop.invariant.base found.some

pub loop-preserved : goal.loop-preserved
loop-preserved c = record {
  left = λ versions rest low few fits text.
      let row = shown c.loop.is_some c.loop.cells.items in
      let new = shown c.row_behind_in-present.result.0 c.row_behind_in-present.new.cells.items in
      let end = drop c.row_behind_in-present.result.1 c.args.bytes.now in
      let left = c.loop.invariant.left versions rest low few fits text in
      let some = version_some c.args.columns c.args.until c.args.time versions rest c.loop.counter c.number_in-count.result.0 c.loop.now row (drop c.loop.at c.args.bytes.now) c.requires.few low c.loop-test.true left in
      let found = found_of c.args.columns c.args.until c.loop.now c.number_in-gap.result.0 row (drop c.loop.at c.args.bytes.now) (drop c.number_in-gap.result.1 c.args.bytes.now) some c.number_in-gap.ensures in
      let read = found.found new end (c.row_behind_in-present.ensures.read ∙ ap (λ (base : List Cell). row_behind base (drop c.number_in-gap.result.1 c.args.bytes.now)) (sym c.loop.invariant.base)) in
      (next c.args.columns c.args.until c.args.time versions rest c.loop.counter c.number_in-count.result.0 c.loop.now row (version_at (c.loop.now + c.number_in-gap.result.0) new) (drop c.loop.at c.args.bytes.now) end
      c.requires.few low c.loop-test.true left read).early (omega (arith, c.if-later-time.false));
  base = c.row_behind_in-present.ensures.base;
}
