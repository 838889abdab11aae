use Rattle.std.proofs.Common.{◌≡◌, ℕ, ◌+◌, ◌*◌, ◌^◌, ◌≤◌, slice_index, sym, ap, ◌∙◌, arith}
use Rattle.lst_scan.specs.Paged.{entries_add}
use Rattle.lst_scan.proofs.Adding.{values_added}
use Rattle.lst_scan.proofs.Sheets.{sum_added, sum_few}
use Rattle.lst_scan.proofs.paged.with_entries.Goals.{Joined-walked, then-walked, else-walked}
use Rattle.lst_scan.proofs.paged.with_entries.Goals as goal

entries_are : (c : Joined-walked) → c.if-walked.entries ≡ entries_add c.args.begin (slice_index c.args.values.now) c.args.times.now 256
entries_are c = elim c.if-walked.branch [
  | then-walked w ↦ w.entries-is ∙ (w.sum_all-entries.ensures ∙ values_added c.args.begin c.args.values.now c.args.times.now c.told-values (c.requires.others w.if-walked.true))
  | else-walked w ↦ w.entries-is ∙ (w.sum_where-entries.ensures ∙ sum_added c.args.begin c.args.values.now c.args.times.now c.told-values c.told-times (λ k. record { fits = c.fits-values k }))
]

entries_few : (c : Joined-walked) → c.if-walked.entries ≤ 2 ^ 64 * 256
entries_few c = let most = sum_few c.args.begin c.args.values.now c.args.times.now c.told-values c.told-times (λ k. record { fits = c.fits-values k }) in
    let same = entries_are c ∙ sym (sum_added c.args.begin c.args.values.now c.args.times.now c.told-values c.told-times (λ k. record { fits = c.fits-values k })) in omega arith

pub overflow_add-result : goal.overflow_add-result
overflow_add-result c = let few = c.requires.few in let most = entries_few c.before.before in record { fits = omega arith }

pub returns-clause-sum : goal.returns-clause-sum
returns-clause-sum c = ap (λ (n : ℕ). c.args.walked.total + n) (entries_are c.before.before)

pub returns-clause-few : goal.returns-clause-few
returns-clause-few c = let few = c.requires.few in let most = entries_few c.before.before in omega arith
