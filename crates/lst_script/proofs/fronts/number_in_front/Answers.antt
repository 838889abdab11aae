use Rattle.std.proofs.Common.{◌≡◌, get_or, true, arith, rules}
use Rattle.std.specs.Char.{is_ascii_digit}
use Rattle.lst_script.proofs.Digits.{AreDigits-more}
use Rattle.lst_script.proofs.Beginnings.{few_small, digit_small, begins_with_digits}
use Rattle.lst_script.proofs.fronts.number_in_front.Goals as goal

pub overflow_mul-value : goal.overflow_mul-value
overflow_mul-value c =
    let small = few_small c.args.text.now c.loop-count.count c.loop-count.value (omega (arith, c.loop-count.invariant.1, c.loop-count-test.true, c.min-end.ensures)) (omega (arith, c.loop-count-test.true, c.min-end.ensures)) c.loop-count.invariant.0 in
    omega (arith, small)

pub overflow_add-value : goal.overflow_add-value
overflow_add-value c =
    let small = few_small c.args.text.now c.loop-count.count c.loop-count.value (omega (arith, c.loop-count.invariant.1, c.loop-count-test.true, c.min-end.ensures)) (omega (arith, c.loop-count-test.true, c.min-end.ensures)) c.loop-count.invariant.0 in
    let is_digit : is_ascii_digit (get_or c.args.text.now c.loop-count.count 0) ≡ true = search rules in
    let digit = digit_small (get_or c.args.text.now c.loop-count.count 0) is_digit in
    omega (arith, small, digit, c.digit_of-in-loop-count.ensures.value is_digit)

pub loop-count-preserved : goal.loop-count-preserved
loop-count-preserved c =
    let text = c.args.text.now in
    let i = c.loop-count.count in
    let is_digit : is_ascii_digit (get_or text i 0) ≡ true = search rules in
    let small = few_small text i c.loop-count.value (omega (arith, c.loop-count-test.true, c.min-end.ensures)) (omega (arith, c.loop-count-test.true, c.min-end.ensures)) c.loop-count.invariant.0 in
    (rw (c.digit_of-in-loop-count.ensures.value is_digit) (AreDigits-more text i c.loop-count.value (omega (arith, c.loop-count-test.true, c.min-end.ensures)) is_digit c.loop-count.invariant.0 (omega (arith, digit_small (get_or text i 0) is_digit, small))), omega (arith, c.loop-count-test.true))

pub returns : goal.returns
returns c = begins_with_digits c.args.text.now c.loop-count.count c.loop-count.value (omega (arith, c.loop-count.invariant.1, c.min-end.ensures)) (omega (arith, c.if-count-eq0.false)) (omega (arith, c.loop-count.invariant.1, c.min-end.ensures)) c.loop-count.invariant.0
