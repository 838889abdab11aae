-- The crew stays one where the merger alone learns something: for tests that call the parts of a merge by hand.
use Rattle.std.proofs.Common.{ℕ, ◌<◌, List, Bool, false, slice_index_or, sym, subst, ap, ◌∙◌, arith}
use Rattle.lst_layout.specs.declared.limits.Limits.{Limits}
use Rattle.lst_core_state.specs.declared.known.Known.{Known}
use Rattle.lst_core_state.specs.declared.pages.MergerFrames.{MergerFrames}
use Rattle.lst_core_state.specs.declared.pages.Retired.{Retired}
use Rattle.lst_rule.specs.declared.store.Store.{Store}
use Rattle.lst_rule.specs.declared.view.View.{View}
use Rattle.lst_rule.specs.Learned.{Learns}
use Rattle.lst_rule.specs.Stores.{IsSeatOf}
use Rattle.lst_rule.specs.Spares.{AreSpares}
use Rattle.lst_merge.specs.Inspections.{Inspects}
use Rattle.lst_merge.proofs.Ending.{stock_inspected}
use Rattle.lst_refinement.specs.Crews.{IsIdle, IsPinnedWhereOpen}
use Rattle.lst_session.specs.declared.crew.Crew.{Crew}
use Rattle.lst_session.specs.Crews.{IsCrewOf}

pub crew_learned : (store : Store) (crew new : Crew) (k : Known) → IsCrewOf store crew → IsSeatOf store new.seat → Learns crew.seat.view new.seat.view crew.seat.view.limits.sessions k → AreSpares new.seat.view new.spares.items → IsCrewOf store new
crew_learned store crew new k of seat view spares = record {
  seat_of = seat;
  hosted = λ t low. ap (λ (hs : List Bool). slice_index_or hs t false) view.hosted ∙ of.hosted t (before t low);
  merger = (λ i. slice_index_or (view.hosted i) (view.limits i).sessions false) ∙ of.merger;
  idle = λ t low. subst IsIdle (sym (view.others t (let few = before t low in λ e. omega arith))) (of.idle t (before t low));
  pinned = λ t low. subst IsPinnedWhereOpen (sym (view.others t (let few = before t low in λ e. omega arith))) (of.pinned t (before t low));
  spares = spares;
}
  where
    before : (t : ℕ) → t < new.seat.view.limits.sessions → t < crew.seat.view.limits.sessions
    before t low = subst (λ (l : Limits). t < l.sessions) view.limits low

-- looks of the merger leave its stock of frames
pub spares_looked : (v w : View) (spares : List Retired) → Inspects v w v.limits.sessions → AreSpares v spares → AreSpares w spares
spares_looked v w spares inspects are = let same = stock_inspected v w inspects in record {
  retired = are.retired ∙ ap (λ (m : MergerFrames). m.retired) (sym same);
  idle = ap (λ (m : MergerFrames). m.waiting) same ∙ are.idle;
}
