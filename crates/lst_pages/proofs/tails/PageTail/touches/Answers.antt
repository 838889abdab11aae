use Rattle.std.proofs.Common.{rules}
use Rattle.lst_pages.proofs.tails.PageTail.touches.Goals as goal

pub returns-in-Put : goal.returns-in-Put
returns-in-Put c = search rules
