use Rattle.std.proofs.Common.{◌≡◌, ◌^◌, ◌<◌, Ok, sym, ap, ◌∙◌, subst, arith, decimal}
use Rattle.std.proofs.lemmas.Fmt.{parse-decimal_wide, IsAscii-decimal_wide}
use Rattle.std.proofs.lemmas.Str.{IsUtf8-from_ascii}
use Rattle.std.proofs.lemmas.Slice.Eq.{bytes_eq-Decides}
use Rattle.std.specs.Str.{IsUtf8}
use Rattle.lst_replies.proofs.Decimals.{number_of-none, number_of-written}
use Rattle.lst_replies.proofs.numbers.read_number.Goals as goal

pub returns-in_default : goal.returns-in_default
returns-in_default c = sym (number_of-none (2 ^ 128) c.args.word.now (λ n below written.
    c.in_default.ensures.cases.0 (subst IsUtf8 (sym written) (IsUtf8-from_ascii (decimal n) (IsAscii-decimal_wide n (omega arith))))))

pub returns-in_default-parse : goal.returns-in_default-parse
returns-in_default-parse c = sym (number_of-none (2 ^ 128) c.args.word.now (λ n below written.
    c.in_default-parse.not-Ok n (parse-decimal_wide 128 n c.in-Ok.text.now c.parse.result below (omega arith) (c.in-Ok.ensures.cases.0 ∙ written) c.parse.ensures.value.0)))

pub returns-then-eq : goal.returns-then-eq
returns-then-eq c =
    let printed : c.as_bytes.result.now ≡ c.args.word.now = (bytes_eq-Decides c.as_bytes.result.now c.args.word.now).0 (sym c.if-eq.ensures) in
    let written : c.args.word.now ≡ decimal c.in-Ok-parse.number = sym printed ∙ c.as_bytes.ensures.value ∙ c.format.ensures.text in
    let below : c.in-Ok-parse.number < 2 ^ 128 = omega (arith, c.in-Ok-parse.ensures.value.0.0.1, c.in-Ok-parse.ensures.value.0.1) in
    sym (number_of-written (2 ^ 128) c.in-Ok-parse.number c.args.word.now below (omega arith) written)

pub returns-else-eq : goal.returns-else-eq
returns-else-eq c = sym (number_of-none (2 ^ 128) c.args.word.now (λ n below written.
    let read : c.parse.result ≡ Ok n = parse-decimal_wide 128 n c.in-Ok.text.now c.parse.result below (omega arith) (c.in-Ok.ensures.cases.0 ∙ written) c.parse.ensures.value.0 in
    let same : c.in-Ok-parse.number ≡ n = cc (read, c.in-Ok-parse.is) in
    let printed : c.as_bytes.result.now ≡ c.args.word.now = c.as_bytes.ensures.value ∙ c.format.ensures.text ∙ ap decimal same ∙ sym written in
    let yes = (bytes_eq-Decides c.as_bytes.result.now c.args.word.now).1 printed in
    cc (yes, c.if-eq.ensures)))
