use Rattle.std.proofs.Common.{rules, sym, ◌∙◌}
use Rattle.lst_pack.proofs.Reading.{same_page, as_runs}
use Rattle.lst_pack.proofs.Runs.{in_one}
use Rattle.lst_pack.proofs.whole.unpack.Goals as goal

pub returns-in-3 : goal.returns-in-3
returns-in-3 c = λ values p. let q = as_runs c.args.words.now values p (search rules) in
    same_page c.unpack_runs.new.out values (search rules) q.full
    (λ place low. let one = in_one c.args.words.now _ place q.has low in c.unpack_runs.ensures place one.0 one.1 ∙ sym (q.stands place low one.0 one.1))
