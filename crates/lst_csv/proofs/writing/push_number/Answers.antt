use Rattle.std.proofs.Common.{ℕ, List, ◌++◌, sym, ap, ◌∙◌}
use Rattle.std.proofs.lemmas.Result.{on_ok_weaker}
use Rattle.lst_csv.proofs.Written.{number_plain}
use Rattle.lst_csv.proofs.writing.push_number.Goals as goal

pub returns : goal.returns
returns c = on_ok_weaker c.push_number.result (λ more. more ∙ ap (λ (text : List ℕ). c.args.bytes.now.items ++ text) (sym (number_plain c.args.number c.ranges.number.fits))) c.push_number.ensures
