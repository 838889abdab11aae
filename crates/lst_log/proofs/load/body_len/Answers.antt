use Rattle.std.proofs.Common.{ℕ, ◌-◌, drop, refl, ap, arith}
use Rattle.lst_log.proofs.Loads.{too_short, no_head, too_long, length_is}
use Rattle.lst_log.proofs.load.body_len.Goals as goal

pub returns-then-left-lt20-clause-none : goal.returns-then-left-lt20-clause-none
returns-then-left-lt20-clause-none g c = too_short c.args.columns (g.D.Disk.content c.args.disk.now) c.args.at (c.size.result - c.args.at) (ap (λ (n : ℕ). n - c.args.at) c.size.ensures) c.if-left-lt20.true

pub returns-in_default-clause-none : goal.returns-in_default-clause-none
returns-in_default-clause-none g c = no_head c.args.columns (drop c.args.at (g.D.Disk.content c.args.disk.now)) c.load.new.into 20 refl c.in_ok-load.ensures.bytes c.in_default.ensures

pub returns-then-left-len-clause-none : goal.returns-then-left-len-clause-none
returns-then-left-len-clause-none g c =
    let behind = drop c.args.at (g.D.Disk.content c.args.disk.now) in
    too_long c.args.columns (g.D.Disk.content c.args.disk.now) c.args.at (c.size.result - c.args.at) _ (ap (λ (n : ℕ). n - c.args.at) c.size.ensures) c.if-left-len.true
    (length_is c.args.columns behind c.load.new.into 20 refl c.in_ok-load.ensures.bytes ((c.in-Some.field-0-0-0, c.in-Some.field-0-0-1, c.in-Some.field-0-0-2, c.in-Some.count), c.in-Some.field-0-1.now) c.in-Some.ensures _ refl)

pub returns-clause-some : goal.returns-clause-some
returns-clause-some g c =
    let behind = drop c.args.at (g.D.Disk.content c.args.disk.now) in (
      omega (arith, c.if-left-len.false, c.size.ensures, c.requires.within),
      length_is c.args.columns behind c.load.new.into 20 refl c.in_ok-load.ensures.bytes ((c.in-Some.field-0-0-0, c.in-Some.field-0-0-1, c.in-Some.field-0-0-2, c.in-Some.count), c.in-Some.field-0-1.now) c.in-Some.ensures _ refl,
    )
