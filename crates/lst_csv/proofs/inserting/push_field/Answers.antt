use Rattle.std.proofs.Common.{◌≡◌, ◌<◌, ◌≤◌, ◌++◌, ℕ, List, decimal, get_or, length, true, refl, sym, ap, subst, ◌∙◌, rules, arith}
use Rattle.std.specs.Char.{is_ascii_digit}
use Rattle.lst_script.proofs.Beginnings.{few_small, digit_small}
use Rattle.lst_script.proofs.Digits.{AreDigits, AreDigits-more, number_of-other, number_of-whole}
use Rattle.std.proofs.lemmas.List.{append-nil, take_all}
use Rattle.lst_csv.proofs.ReadFields.{no_value}
use Rattle.lst_csv.proofs.Copied.{one_copied, all_copied}
use Rattle.lst_csv.proofs.inserting.push_field.Goals as goal

pub overflow_mul-value : goal.overflow_mul-value
overflow_mul-value c =
    let few : length c.args.field.now ≤ 19 = c.if-field-gt-SAFE_DIGITS.false in
    let small = few_small c.args.field.now c.loop-byte.byte-index c.loop-byte.value (omega (arith, c.loop-byte-test.true)) (omega (arith, c.loop-byte-test.true, few)) c.loop-byte.invariant.0 in
    omega (arith, small)

pub overflow_add-value : goal.overflow_add-value
overflow_add-value c =
    let few : length c.args.field.now ≤ 19 = c.if-field-gt-SAFE_DIGITS.false in
    let small = few_small c.args.field.now c.loop-byte.byte-index c.loop-byte.value (omega (arith, c.loop-byte-test.true)) (omega (arith, c.loop-byte-test.true, few)) c.loop-byte.invariant.0 in
    let is_digit : is_ascii_digit (get_or c.args.field.now c.loop-byte.byte-index 0) ≡ true = sym c.if-not-is_ascii_digit.ensures.value in
    let digit = digit_small (get_or c.args.field.now c.loop-byte.byte-index 0) is_digit in
    omega (arith, small, digit, c.from.ensures)

pub loop-byte-preserved : goal.loop-byte-preserved
loop-byte-preserved c =
    let field = c.args.field.now in
    let i = c.loop-byte.byte-index in
    let few : length field ≤ 19 = c.if-field-gt-SAFE_DIGITS.false in
    let small = few_small field i c.loop-byte.value (omega (arith, c.loop-byte-test.true)) (omega (arith, c.loop-byte-test.true, few)) c.loop-byte.invariant.0 in
    let is_digit : is_ascii_digit (get_or field i 0) ≡ true = sym c.if-not-is_ascii_digit.ensures.value in (
      rw (c.from.ensures) (AreDigits-more field i c.loop-byte.value c.loop-byte-test.true is_digit c.loop-byte.invariant.0 (omega (arith, digit_small (get_or field i 0) is_digit, small))),
      one_copied field c.make_room.new.bytes.items c.loop-byte.bytes.items c.push_reserved.new.self.items i (get_or field i 0) c.loop-byte-test.true refl c.loop-byte.invariant.1 c.push_reserved.ensures.items,
      omega (arith, c.push_reserved.ensures.len, c.push_reserved.ensures.capacity, c.loop-byte.invariant.2),
    )

pub returns-clause-text : goal.returns-clause-text
returns-clause-text c =
    let field = c.args.field.now in
    let some : 0 < length field = search rules in
    let lead : get_or field 0 0 ≡ 48 → ⊥ = c.if-field-eq48.false in
    all_copied field c.make_room.new.bytes.items c.loop-byte.bytes.items c.loop-byte.byte-index c.loop-byte.value some lead c.loop-byte-test.false c.loop-byte.invariant.0 c.loop-byte.invariant.1
    ∙ ap (λ (text : List ℕ). text ++ decimal c.loop-byte.value) c.make_room.ensures.same

pub returns-then-is_empty-clause-read : goal.returns-then-is_empty-clause-read
returns-then-is_empty-clause-read c = c.push_parsed.ensures.read

pub returns-then-is_empty-clause-text : goal.returns-then-is_empty-clause-text
returns-then-is_empty-clause-text c = c.push_parsed.ensures.text

pub returns-then-not-is_ascii_digit-clause-text : goal.returns-then-not-is_ascii_digit-clause-text
returns-then-not-is_ascii_digit-clause-text c = tt

pub overflow_sub-byte : goal.overflow_sub-byte
overflow_sub-byte c = c.if-not-is_ascii_digit.ensures.cases.0

pub bounds-field-byte-index : goal.bounds-field-byte-index
bounds-field-byte-index c = c.loop-byte-test.true

pub loop-byte-init : goal.loop-byte-init
loop-byte-init c = (record { digits = refl; value_is = refl; fits = omega arith }, sym (append-nil c.make_room.new.bytes.items), omega (arith, c.in_ok-make_room.ensures.room))

pub returns-clause-read : goal.returns-clause-read
returns-clause-read c =
    let field = c.args.field.now in
    let some : 0 < length field = search rules in
    let few = c.if-field-gt-SAFE_DIGITS.false in
    sym (number_of-whole field c.loop-byte.value some (omega (arith, few)) (subst (λ (bytes : List ℕ). AreDigits bytes c.loop-byte.value) (take_all c.loop-byte.byte-index field c.loop-byte-test.false) c.loop-byte.invariant.0))

pub returns-then-not-is_ascii_digit-clause-read : goal.returns-then-not-is_ascii_digit-clause-read
returns-then-not-is_ascii_digit-clause-read c = sym (number_of-other c.args.field.now c.loop-byte.byte-index c.loop-byte-test.true (sym c.if-not-is_ascii_digit.ensures.value))

pub returns-in_err-make_room-clause-read : goal.returns-in_err-make_room-clause-read
returns-in_err-make_room-clause-read c = no_value _ _ _ _ c.from_residual.ensures.0

pub returns-in_err-make_room-clause-text : goal.returns-in_err-make_room-clause-text
returns-in_err-make_room-clause-text c = no_value _ _ _ _ c.from_residual.ensures.0
