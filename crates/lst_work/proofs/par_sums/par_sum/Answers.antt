use Rattle.std.proofs.Common.{◌≡◌, List, sym, subst, ap, ◌∙◌}
use Rattle.lst_model.specs.Histories.{table_at}
use Rattle.lst_model.specs.Tables.{sum_of}
use Rattle.lst_session.specs.declared.session.Session.{Session}
use Rattle.lst_session.specs.Parting.{seen_at}
use Rattle.lst_session.proofs.Lent.{as_left_is}
use Rattle.lst_work.specs.ParSums.{HaveSummed}
use Rattle.lst_work.proofs.par_sums.par_sum.Goals as goal

pub returns-clause-sessions : goal.returns-clause-sessions
returns-clause-sessions g c = let summed = subst (λ (ss : List Session). HaveSummed c.args.store.now ss c.sum_all.new.sessions) c.as_mut_slice.ensures.sessions c.sum_all.ensures.sessions in
    subst (HaveSummed c.args.store.now c.args.sessions.now) (sym (as_left_is c.args.sessions.now c.sum_all.new.sessions summed.count)) summed
