use Rattle.std.proofs.Common.{ℕ, ◌*◌, sym, subst, ap, ◌∙◌}
use Rattle.lst_layout.specs.declared.layout.Layout.{Layout}
use Rattle.lst_model.specs.Tables.{Rows, sum_of}
use Rattle.lst_core_state.specs.Cells.{record_count}
use Rattle.lst_rule.specs.Rule.{knows}
use Rattle.lst_scan.specs.Savings.{SavesPart}
use Rattle.lst_scan.specs.Scans.{table_seen, between}
use Rattle.lst_scan.proofs.Seeing.{place_of, places_of, all_rows}
use Rattle.lst_scan.proofs.sums.sum.Goals as goal

pub returns-clause-sum : goal.returns-clause-sum
returns-clause-sum c = let v = c.args.seat.now.view in let r = c.requires.reader in
    let place = place_of v c.args.s c.consider.ensures r.host r.opened in let places = places_of v c.args.s c.consider.ensures r.host r.opened in
    c.sum_part.ensures.sum place places
    ∙ (ap (λ (n : ℕ). sum_of (between place 0 n (table_seen (knows v c.args.s))) c.args.c) (ap (λ (l : Layout). 256 * l.limits.ranges) c.layout.ensures ∙ ap record_count (sym r.seat_of.limits))
    ∙ ap (λ (t : Rows). sum_of t c.args.c) (all_rows v c.args.s c.consider.ensures r.host place places))

pub returns-clause-saves : goal.returns-clause-saves
returns-clause-saves c = subst (λ (n : ℕ). SavesPart c.args.seat.now.view c.sum_part.new.seat.view c.args.s c.args.c 0 n) (ap (λ (l : Layout). 256 * l.limits.ranges) c.layout.ensures) c.sum_part.ensures.saves
