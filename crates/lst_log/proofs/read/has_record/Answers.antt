use Rattle.std.proofs.Common.{sym, ◌∙◌, arith, true≢false}
use Rattle.std.proofs.lemmas.Bool.Decides.{nat_tests}
use Rattle.lst_snapshots.proofs.Sounding.{by_key-true, true-by_key}
use Rattle.lst_log.proofs.read.has_record.Goals as goal

pub returns-then-not-stands_by_key : goal.returns-then-not-stands_by_key
returns-then-not-stands_by_key c =
    (λ f. absurd (true≢false (sym f)), λ has. absurd (true≢false (sym (true-by_key c.args.writes.now has.order) ∙ sym c.stands_by_key.ensures ∙ c.if-not-stands_by_key.true)))

pub returns : goal.returns
returns c = (
  λ t. record {
    session = omega (arith, c.ranges.session.fits);
    number = omega (arith, c.ranges.number.fits);
    begin = omega (arith, c.ranges.begin.fits);
    some = grind (arith, nat_tests, c.is_empty.ensures, c.if-is_empty.false);
    few = omega (arith, c.if-writes.false);
    order = by_key-true c.args.writes.now (sym c.stands_by_key.ensures ∙ c.if-not-stands_by_key.false);
    writes = c.all_fit.ensures.0 t;
  },
  λ has. c.all_fit.ensures.1 has.writes,
)
