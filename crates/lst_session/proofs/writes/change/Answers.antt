use Rattle.std.proofs.Common.{◌<◌, refl, sym, subst, inl}
use Rattle.lst_layout.specs.declared.limits.Limits.{Limits}
use Rattle.lst_core_state.specs.Cells.{record_count}
use Rattle.lst_session.proofs.Tried.{changed}
use Rattle.lst_session.proofs.writes.change.Goals as goal

pub returns-in-Some-clause-changes : goal.returns-in-Some-clause-changes
returns-in-Some-clause-changes c = let e = c.in-Some.ensures in changed c.args.seat.now.view c.try_write.new.seat.view c.args.s c.args.key c.args.act.now c.in_default.ensures.ok c.try_write.result record {
  between = c.find.new.seat.view;
  rec = c.in-Some.rec.number;
  finds = record { works = e.works; kept = e.kept; keeps = e.keeps; low = subst (λ (l : Limits). c.in-Some.rec.number < record_count l) (sym c.requires.seat.limits) e.some.0; placed = e.some.1 };
  tries = c.try_write.ensures.tries;
}

pub returns-in-None-clause-changes : goal.returns-in-None-clause-changes
returns-in-None-clause-changes c = let e = c.in-None.ensures in (c.in_default.ensures.ok, inl (refl, record { works = e.works; kept = e.kept; keeps = e.keeps; ended = e.none; unseen = e.unseen }))
