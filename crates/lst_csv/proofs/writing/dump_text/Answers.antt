use Rattle.std.proofs.Common.{rules}
use Rattle.lst_csv.proofs.writing.dump_text.Goals as goal

pub returns : goal.returns
returns c = search rules
