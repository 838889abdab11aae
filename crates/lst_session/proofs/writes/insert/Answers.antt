use Rattle.std.proofs.Common.{◌<◌, refl, sym, subst}
use Rattle.lst_layout.specs.declared.limits.Limits.{Limits}
use Rattle.lst_core_state.specs.Cells.{record_count}
use Rattle.lst_session.proofs.Tried.{inserted}
use Rattle.lst_session.proofs.writes.insert.Goals as goal

pub returns-in-Ok-clause-inserts : goal.returns-in-Ok-clause-inserts
returns-in-Ok-clause-inserts c = let e = c.in-Ok.ensures in inserted c.args.seat.now.view c.try_write.new.seat.view c.args.s c.args.key c.args.act.now c.in_default.ensures.ok c.try_write.result record {
  between = c.place.new.seat.view;
  rec = c.in-Ok.rec.number;
  places = record { works = e.works; drew = e.drew; after_look = e.after_look refl; free = e.free; low = subst (λ (l : Limits). c.in-Ok.rec.number < record_count l) (sym c.requires.seat.limits) e.ok.0; placed = e.ok.1; words = e.words };
  tries = c.try_write.ensures.tries;
}
