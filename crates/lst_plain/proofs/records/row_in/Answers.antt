use Rattle.std.proofs.Common.{sym, ap, ◌∙◌}
use Rattle.lst_plain.specs.Rows.{Kept, row_seen}
use Rattle.lst_plain.proofs.Placing.{kept-at, kept-absent}
use Rattle.lst_plain.proofs.records.row_in.Goals as goal

pub returns-in-Some : goal.returns-in-Some
returns-in-Some c =
    let place = sym (c.in-Some.ensures.value ∙ c.requires c.args.key) in
    let kept = kept-at c.args.records.now c.args.key c.in-Some.place.now c.index-records-place.result place in
    c.row.ensures ∙ ap (λ (k : Kept). row_seen k c.args.session c.args.begin) (c.index-records-place.is ∙ sym kept)

pub returns-in-None : goal.returns-in-None
returns-in-None c = sym (ap (λ (k : Kept). row_seen k c.args.session c.args.begin) (kept-absent c.args.records.now c.args.key (sym (c.in-None.ensures.value ∙ c.requires c.args.key))))
