use Rattle.lst_rule.proofs.Paging.{frame_loaded}
use Rattle.lst_rule.proofs.page_loads.load_frame.Goals as goal

pub returns-clause-loaded : goal.returns-clause-loaded
returns-clause-loaded c = frame_loaded _ _ _ _ _ _ c.requires.host c.requires.place c.load_quietly.ensures.looked
