use Rattle.std.proofs.Common.{◌≡◌, ℕ, ◌+◌, List, ◌++◌, length, take, replicate, get_or, sym, subst, ap, ◌∙◌, length-append}
use Rattle.std.proofs.lemmas.List.{length-map, length-replicate}
use Rattle.std.proofs.Math.Seq.{take-append_seam}
use Rattle.lst_layout.specs.declared.layout.Layout.{Layout}
use Rattle.lst_model.specs.Lines.{LineFits}
use Rattle.lst_session.specs.declared.session.Session.{Session}
use Rattle.lst_work.specs.declared.workers.Worker.{Worker}
use Rattle.lst_work.specs.Workers.{AreReady, HaveRun}
use Rattle.lst_work.specs.Blocks.{joined, parts_at, AreAsLong, AreInBlockOrder}
use Rattle.lst_work.specs.Merges.{merge_parts}
use Rattle.lst_work.specs.Orders.{placeholder}
use Rattle.lst_work.specs.declared.reads.Reads.{Reads}
use Rattle.lst_work.specs.Parts.{AllCarryOn}
use Rattle.lst_work.specs.Hiring.{HaveSaid, sessions_of, reads_of, said_in}
use Rattle.lst_work_laws.specs.Laws.{own_run}
use Rattle.lst_work_laws.specs.Whole.{AreAll, IsPhase}
use Rattle.lst_work.proofs.Growing.{grown_as, grown_from}
use Rattle.lst_work.proofs.Merges.{fresh_merging, fresh_long}
use Rattle.lst_work.proofs.Wholes.{written, ready_first, wide, all_after, have_said, as_many, as_long, in_order, phase_is, phase_carries}
use Rattle.lst_work.proofs.scripts.phase_onto.Goals as goal

pub try_phase-requires-clause-ready : goal.try_phase-requires-clause-ready
try_phase-requires-clause-ready g c κs within = subst (AreReady c.args.store.now) (sym c.as_mut_slice.ensures.value)
    (ready_first c.args.store.now c.args.lines.now c.args.level c.args.sessions.items c.args.reads.items c.in_ok-workers.workers.items c.in_ok-workers.workers.items c.requires.all c.in_ok-workers.ensures)

pub dismissed-requires : goal.dismissed-requires
dismissed-requires g c =
    let items = c.in_ok-workers.workers.items in let last = c.try_phase.new.workers in let lines = c.args.lines.now in let queue = c.try_phase.new.queue in
    let value = c.as_mut_slice.ensures.value in let ends = c.in_ok-try_phase.ensures in
    let long : length last ≡ length items = c.try_phase.auto.workers ∙ ap length value in
    let after = written items last c.in_ok-workers.workers.len long (sym c.as_mut_slice.ensures.len ∙ ap length value) in
    let ran = subst (λ (ws : List Worker). HaveRun lines ws last) value ends.ran in
    let merged = fresh_long lines c.args.merger.now c.try_phase.new.merger c.empty_queue-queue.result queue ends.merged c.empty_queue-queue.ensures.none in
    record {
      said = subst (λ (ws : List Worker). HaveSaid ws (length queue.parts.items)) (sym after)
          (have_said c.args.store.now lines c.args.level c.args.sessions.items c.args.reads.items items last c.requires.all c.in_ok-workers.ensures ran long ends.ready (merge_parts queue) (as_many c.args.store.now lines c.args.level c.args.sessions.items c.args.reads.items items last c.requires.all c.in_ok-workers.ensures ran long ends.ready c.requires.can (merge_parts queue) merged));
    }

pub order_phase-requires-clause-wide : goal.order_phase-requires-clause-wide
order_phase-requires-clause-wide g c κs within =
    let items = c.in_ok-workers.workers.items in let last = c.try_phase.new.workers in let lines = c.args.lines.now in let queue = c.try_phase.new.queue in
    let value = c.as_mut_slice.ensures.value in let ends = c.in_ok-try_phase.ensures in
    let long : length last ≡ length items = c.try_phase.auto.workers ∙ ap length value in
    let after = written items last c.in_ok-workers.workers.len long (sym c.as_mut_slice.ensures.len ∙ ap length value) in
    let ran = subst (λ (ws : List Worker). HaveRun lines ws last) value ends.ran in
    λ k d low. c.in_ok-sessions.ensures.wide k d low ∙ ap (λ (n : ℕ). n + 1) (ap length after ∙ (wide c.args.store.now lines c.args.level c.args.sessions.items c.args.reads.items items last c.requires.all c.in_ok-workers.ensures ran long ends.ready ∙ ap (λ (y : Layout). y.limits.sessions) (sym c.layout.ensures)))

pub order_phase-requires-clause-fits : goal.order_phase-requires-clause-fits
order_phase-requires-clause-fits g c κs within = (
  c.args.store.now.layout.limits.ranges,
  c.args.store.now.layout.limits.columns,
  (λ k d low. subst (λ (y : Layout). LineFits y.limits.sessions c.args.store.now.layout.limits.ranges c.args.store.now.layout.limits.columns (get_or c.args.lines.now k d)) (sym c.layout.ensures) (c.requires.can k d low).fits),
)

pub order_phase-requires-clause-long : goal.order_phase-requires-clause-long
order_phase-requires-clause-long g c κs within =
    let items = c.in_ok-workers.workers.items in let last = c.try_phase.new.workers in let lines = c.args.lines.now in let queue = c.try_phase.new.queue in
    let value = c.as_mut_slice.ensures.value in let ends = c.in_ok-try_phase.ensures in
    let long : length last ≡ length items = c.try_phase.auto.workers ∙ ap length value in
    let after = written items last c.in_ok-workers.workers.len long (sym c.as_mut_slice.ensures.len ∙ ap length value) in
    let ran = subst (λ (ws : List Worker). HaveRun lines ws last) value ends.ran in
    let e = c.in_ok-sessions.ensures in
    let parts : (q : ℕ) → parts_at c.in_ok-sessions.blocks.items q ≡ said_in last (merge_parts queue) q = (λ q. e.parts q ∙ ap (λ (ws : List Worker). said_in ws (merge_parts queue) q) after) in
    let merged = fresh_long lines c.args.merger.now c.try_phase.new.merger c.empty_queue-queue.result queue ends.merged c.empty_queue-queue.ensures.none in
    subst (λ (y : Layout). AreAsLong y.limits.sessions lines c.in_ok-sessions.blocks.items) (sym c.layout.ensures) (as_long c.args.store.now lines c.args.level c.args.sessions.items c.args.reads.items items last c.requires.all c.in_ok-workers.ensures ran long ends.ready c.requires.can (merge_parts queue) merged c.in_ok-sessions.blocks.items parts)

pub order_phase-requires-clause-room : goal.order_phase-requires-clause-room
order_phase-requires-clause-room g c κs within =
    ap length c.in_ok-try_phase.ensures.room ∙ (length-append c.args.replies.now.items (replicate (length c.args.lines.now) placeholder)
    ∙ (ap (λ (n : ℕ). n + length (replicate (length c.args.lines.now) placeholder)) (sym (c.len-earlier.ensures ∙ c.args.replies.now.ok.0))
    ∙ ap (λ (n : ℕ). c.len-earlier.result + n) (length-replicate (length c.args.lines.now) placeholder)))

pub returns-clause-all : goal.returns-clause-all
returns-clause-all g c =
    let items = c.in_ok-workers.workers.items in let last = c.try_phase.new.workers in let lines = c.args.lines.now in let queue = c.try_phase.new.queue in
    let value = c.as_mut_slice.ensures.value in let ends = c.in_ok-try_phase.ensures in
    let long : length last ≡ length items = c.try_phase.auto.workers ∙ ap length value in
    let after = written items last c.in_ok-workers.workers.len long (sym c.as_mut_slice.ensures.len ∙ ap length value) in
    let ran = subst (λ (ws : List Worker). HaveRun lines ws last) value ends.ran in
    subst (AreAll c.args.store.now) (sym (c.in_ok-sessions.ensures.sessions ∙ ap sessions_of after)) (all_after c.args.store.now lines c.args.level c.args.sessions.items c.args.reads.items items last c.requires.all c.in_ok-workers.ensures ran long ends.ready)

pub returns-clause-long : goal.returns-clause-long
returns-clause-long g c = let e = c.in_ok-sessions.ensures in
    ap length e.reads ∙ (length-map _ (λ (w : Worker). w.reads) ∙ (sym (length-map _ (λ (w : Worker). w.session)) ∙ sym (ap length e.sessions)))

pub returns-clause-phase : goal.returns-clause-phase
returns-clause-phase g c =
    let items = c.in_ok-workers.workers.items in let last = c.try_phase.new.workers in let lines = c.args.lines.now in let queue = c.try_phase.new.queue in
    let value = c.as_mut_slice.ensures.value in let ends = c.in_ok-try_phase.ensures in
    let long : length last ≡ length items = c.try_phase.auto.workers ∙ ap length value in
    let after = written items last c.in_ok-workers.workers.len long (sym c.as_mut_slice.ensures.len ∙ ap length value) in
    let ran = subst (λ (ws : List Worker). HaveRun lines ws last) value ends.ran in
    let e = c.in_ok-sessions.ensures in
    let parts : (q : ℕ) → parts_at c.in_ok-sessions.blocks.items q ≡ said_in last (merge_parts queue) q = (λ q. e.parts q ∙ ap (λ (ws : List Worker). said_in ws (merge_parts queue) q) after) in
    let merges = fresh_merging lines c.args.merger.now c.try_phase.new.merger c.empty_queue-queue.result queue ends.merged c.empty_queue-queue.ensures.none in
    let x = grown_from _ _ c.order_phase.new.replies.items c.args.replies.now.items
    (ap (take c.len-earlier.result) ends.room ∙ (ap (λ (n : ℕ). take n (c.args.replies.now.items ++ replicate (length lines) placeholder)) (c.len-earlier.ensures ∙ c.args.replies.now.ok.0) ∙ take-append_seam c.args.replies.now.items (replicate (length lines) placeholder))) c.order_phase.ensures in
    let ordered = subst (λ (y : Layout). AreInBlockOrder y.limits.sessions lines c.in_ok-sessions.blocks.items x.added) c.layout.ensures x.so in
    let in_order_now = in_order c.args.store.now lines c.args.level c.args.sessions.items c.args.reads.items items last c.requires.all c.in_ok-workers.ensures ran long ends.ready (merge_parts queue) c.in_ok-sessions.blocks.items x.added parts ordered in
    grown_as _ c.args.replies.now.items c.order_phase.new.replies.items _ x record {
      phase = subst (λ (ss : List Session). IsPhase lines c.args.sessions.items ss c.args.merger.now.seat.view c.try_phase.new.merger.seat.view x.added) (sym (e.sessions ∙ ap sessions_of after))
          (phase_is c.args.store.now lines c.args.level c.args.sessions.items c.args.reads.items items last c.requires.all c.in_ok-workers.ensures ran long ends.ready c.args.merger.now.seat.view c.try_phase.new.merger.seat.view (joined (merge_parts queue)) x.added merges in_order_now);
      carries = subst (λ (ss : List Session). AllCarryOn c.args.level (λ s. own_run (length c.args.sessions.items) s lines x.added) c.args.sessions.items ss c.args.reads.items c.in_ok-sessions.reads.items) (sym (e.sessions ∙ ap sessions_of after))
          (subst (λ (rs : List Reads). AllCarryOn c.args.level (λ s. own_run (length c.args.sessions.items) s lines x.added) c.args.sessions.items (sessions_of last) c.args.reads.items rs) (sym (e.reads ∙ ap reads_of after))
          (phase_carries c.args.store.now lines c.args.level c.args.sessions.items c.args.reads.items items last c.requires.all c.in_ok-workers.ensures ran long ends.ready (joined (merge_parts queue)) x.added in_order_now));
    }
