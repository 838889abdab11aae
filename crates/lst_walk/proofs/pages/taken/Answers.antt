use Rattle.std.proofs.Common.{cond, nat_le, refl, sym, ap, ◌∙◌}
use Rattle.lst_core_state.specs.declared.known.Known.{Known}
use Rattle.lst_walk.proofs.Paging.{takes}
use Rattle.lst_walk.proofs.pages.taken.Goals as goal

pub returns-clause-takes : goal.returns-clause-takes
returns-clause-takes c = let looks = c.look-found.ensures.looks in takes c.args.seat.now.view looks.taken looks.told c.look-found.new.seat.view c.args.s c.args.rec.number c.args.column c.look-found.result.frame c.look-found.result.tps c.look-found.result.stamp c.requires.reader.host c.requires.reader.own looks.page looks.lineage looks.time
    record { frame = c.look-found.result.frame; until = c.until.result; is_present = c.unpack_time-time.result.1 } refl (c.until.ensures ∙ λ i. cond (nat_le (c.unpack_time-time.ensures.time i) ((c.requires.begin ∙ sym (ap (λ (k : Known). k.begin) c.look-found.ensures.skims.watched.watches.is)) i)) c.look-found.result.tps 0) c.unpack_time-time.ensures.present
