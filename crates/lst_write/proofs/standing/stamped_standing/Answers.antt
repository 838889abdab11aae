use Rattle.std.proofs.Common.{sym, subst, ◌/◌, ◌%◌}
use Rattle.lst_core_state.specs.declared.facts.Fact.TheVariants.{CommitAt}
use Rattle.lst_write.specs.declared.standing.Standing.{Standing}
use Rattle.lst_write.specs.Standings.{IsStanding}
use Rattle.lst_write.proofs.Keeping.{kept, still_hosts, still_on}
use Rattle.lst_write.proofs.Verdicts.{stamped_stands}
use Rattle.lst_write.proofs.standing.stamped_standing.Goals as goal

pub returns-clause-stands : goal.returns-clause-stands
returns-clause-stands c rec d stamped = let W = c.look_until.ensures.watched in
    subst (λ (a : Standing). IsStanding c.args.seat.now.view c.look_until.new.seat.view c.args.s rec d a) (sym c.committed_standing.ensures)
    (stamped_stands _ _ _ rec c.args.time d c.consider.ensures (still_hosts _ _ _ W c.requires.host) (still_on _ _ _ W c.requires.on) c.look_until.ensures.seen
    ((kept _ _ _ W).facts (CommitAt c.args.time (d.writer % 16) (d.writer / 16)) stamped))
