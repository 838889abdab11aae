use Rattle.lst_pages.proofs.Keeps.{settle_keeps, tails_keep}
use Rattle.lst_pages.proofs.Safety.{keeps, others_free}
use Rattle.lst_pages.proofs.laws.steps_keep_soundness.Goals as goal

pub returns-clause-step : goal.returns-clause-step
returns-clause-step c = keeps

pub returns-clause-settle : goal.returns-clause-settle
returns-clause-settle c = settle_keeps

pub returns-clause-tails : goal.returns-clause-tails
returns-clause-tails c = tails_keep

pub returns-clause-others : goal.returns-clause-others
returns-clause-others c = others_free
