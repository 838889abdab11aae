use Rattle.std.proofs.Common.{rules}
use Rattle.lst_pages.proofs.frames.is_entry.Goals as goal

pub returns-then-is_number : goal.returns-then-is_number
returns-then-is_number c = search rules
