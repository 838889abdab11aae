use Rattle.std.proofs.Common.{ap, ◌∙◌}
use Rattle.std.specs.Prelude.{unwrap_or}
use Rattle.std.specs.BTreeMap.{get, is_at}
use Rattle.lst_legal_runs.specs.Marks.{triple_cmp, are_same}
use Rattle.lst_legal_runs.proofs.Marking.{is_at-triple, number_set}
use Rattle.lst_legal_runs.proofs.marks.Marks.set.Goals as goal

pub returns : goal.returns
returns c = λ x y z.
    ap (λ o. unwrap_or o 0) (c.in_ok-insert.ensures.updates.0 (x, y, z))
    ∙ number_set (is_at (triple_cmp (c.args.first, c.args.second, c.args.third)) (x, y, z)) (are_same c.args.first c.args.second c.args.third x y z) c.args.number (get triple_cmp c.args.self.now.numbers (x, y, z))
    (is_at-triple c.args.first c.args.second c.args.third x y z)
