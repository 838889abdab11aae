use Rattle.std.proofs.Common.{◌/◌, ap, ℕ, arith}
use Rattle.lst_layout.specs.Words.{shown}
use Rattle.lst_core.proofs.Chaining.{head_some, head_none, newest_few, fits_tail}
use Rattle.lst_core.proofs.chains.newest.Goals as goal

pub overflow_cast-result-else-number-eq0 : goal.overflow_cast-result-else-number-eq0
overflow_cast-result-else-number-eq0 c = let l = c.args.layout.now.limits in let word = (shown l c.args.words.now).heads c.args.rec in let is = head_some l c.args.rec word (c.head-number.result / 2) (ap (λ (x : ℕ). x / 2) c.head-number.ensures) c.if-number-eq0.false in
    let low = fits_tail l c.args.layout.now.valid _ (newest_few l c.args.words.now c.requires.read c.args.rec c.requires.rec) in omega arith

pub returns-then-number-eq0 : goal.returns-then-number-eq0
returns-then-number-eq0 c = let l = c.args.layout.now.limits in head_none l c.args.rec ((shown l c.args.words.now).heads c.args.rec) (c.head-number.result / 2) (ap (λ (x : ℕ). x / 2) c.head-number.ensures) c.if-number-eq0.true

pub returns-else-number-eq0 : goal.returns-else-number-eq0
returns-else-number-eq0 c = let l = c.args.layout.now.limits in head_some l c.args.rec ((shown l c.args.words.now).heads c.args.rec) (c.head-number.result / 2) (ap (λ (x : ℕ). x / 2) c.head-number.ensures) c.if-number-eq0.false
