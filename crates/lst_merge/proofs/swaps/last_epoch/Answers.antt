use Rattle.std.proofs.Common.{sym, ◌∙◌}
use Rattle.lst_merge.proofs.Swapping.{latest_of, latest_none}
use Rattle.lst_merge.proofs.swaps.last_epoch.Goals as goal

pub returns-in-Some : goal.returns-in-Some
returns-in-Some c = latest_of _ _ c.in-Some.last c.deref.ensures.0 (sym (c.copied.ensures ∙ c.last.ensures.value) ∙ c.in-Some.is)

pub returns-in-None : goal.returns-in-None
returns-in-None c = latest_none _ _ c.deref.ensures.0 (sym (c.copied.ensures ∙ c.last.ensures.value) ∙ c.in-None.is)
