use Rattle.std.proofs.Common.{ℕ, List, drop, ◌++◌, ◌∙◌, sym, ap, arith, rules}
use Rattle.std.proofs.lemmas.Fmt.{decimal_digit, length-decimal-le}
use Rattle.lst_replies.proofs.backward.write_few.Goals as goal

pub write_digits-requires : goal.write_digits-requires
write_digits-requires c = search (rules, length-decimal-le 10)

pub returns-clause-room : goal.returns-clause-room
returns-clause-room c = omega (arith, length-decimal-le 10)

pub returns-then-number-lt10-clause-written : goal.returns-then-number-lt10-clause-written
returns-then-number-lt10-clause-written c = c.write_byte.ensures.written ∙ ap (λ (digits : List ℕ). digits ++ drop c.args.end c.args.buffer.now) (sym (decimal_digit c.args.number c.if-number-lt10.true))
