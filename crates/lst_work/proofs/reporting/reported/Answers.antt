use Rattle.std.proofs.Common.{map, refl, ap, ◌∙◌}
use Rattle.lst_replies.specs.Legal.{stamp_of}
use Rattle.lst_session.specs.Crews.{store_told}
use Rattle.lst_work.proofs.Reports.{stamps_bare}
use Rattle.lst_work.proofs.Totalling.{still_seen}
use Rattle.lst_work.proofs.reporting.reported.Goals as goal

pub returns-clause-reported : goal.returns-clause-reported
returns-clause-reported c = record {
  crew_of = c.commits.ensures.crew;
  whole = c.commits.ensures.whole;
  possible = c.consider.ensures;
  stock = c.commits.ensures.session;
  history = c.in_ok-commits.ensures.all;
  tells = refl;
  stamps = c.in_ok-history.ensures ∙ (ap (map stamp_of) c.in_ok-commits.ensures.ok ∙ stamps_bare (store_told c.commits.new.self.seat.view).history);
}

pub returns-clause-seen : goal.returns-clause-seen
returns-clause-seen c seen = still_seen c.args.store.now c.args.crew _ c.commits.ensures.crew c.commits.ensures.session c.consider.ensures c.commits.ensures.whole c.commits.ensures.told seen
