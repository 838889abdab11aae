-- A merge of the crew: the crew stays one, and where it tells a state of the machine, the answer is the machine's, and it tells the next state.
use Rattle.std.proofs.Common.{◌≡◌, ℕ, ◌+◌, ◌<◌, ◌≤◌, List, Bool, false, slice_index_or, refl, sym, subst, ap, ◌∙◌, arith}
use Rattle.std.specs.Prelude.{None}
use Rattle.lst_layout.specs.declared.limits.Limits.{Limits}
use Rattle.lst_layout.specs.Words.{Words}
use Rattle.lst_model.specs.declared.lines.Line.TheVariants as line
use Rattle.lst_model.specs.declared.replies.Reply.{Reply}
use Rattle.lst_machine.specs.Merges as machine
use Rattle.lst_core_state.specs.declared.known.Known.{Known}
use Rattle.lst_core_state.specs.declared.pages.MergerFrames.{MergerFrames}
use Rattle.lst_core_state.specs.State.{Core}
use Rattle.lst_pages.specs.Sound.{IsPage}
use Rattle.lst_pages.specs.State.{oldest_epoch}
use Rattle.lst_pages.specs.Step.{lets_go}
use Rattle.lst_pages.specs.Runs.{tps_known}
use Rattle.lst_rule.specs.declared.store.Store.{Store}
use Rattle.lst_rule.specs.declared.view.View.{View}
use Rattle.lst_rule.specs.Rule.{knows}
use Rattle.lst_rule.specs.Learned.{Possible}
use Rattle.lst_rule.specs.PageSteps.{stock_of}
use Rattle.lst_rule.specs.Stores.{IsSeatOf}
use Rattle.lst_rule.specs.Spares.{AreSpares}
use Rattle.lst_session.specs.declared.kinds.Merge.{Merge}
use Rattle.lst_session.specs.declared.kinds.Merge.TheVariants.{Merged, Idle, NoFrame}
use Rattle.lst_session.specs.Merges.{OnlyPages, Merges}
use Rattle.lst_refinement.specs.Crews.{IsIdle, IsPinnedWhereOpen, IsPinnedCrew}
use Rattle.lst_refinement.specs.Effects.{SamePinEach, TellAlike}
use Rattle.lst_refinement.specs.Laws.{IsMergedTo, pin_lets_go}
use Rattle.lst_core_state.specs.Cells.{record_count}
use Rattle.lst_core_state.specs.Index.{is_placed}
use Rattle.lst_refinement.specs.Telling.{told, pages_told, told_pages}
use Rattle.lst_refinement.proofs.Merging.{nothing_new_is_told, no_frame_is_told, swaps_are_told}
use Rattle.lst_refinement.proofs.Openings.{transactions_are_told}
use Rattle.lst_refinement.proofs.Others.{other_areas_tell_nothing}
use Rattle.lst_session.specs.declared.crew.Crew.{Crew}
use Rattle.lst_session.specs.declared.passes.Merger.{Merger}
use Rattle.lst_session.specs.Parting.{IsMergerOf}
use Rattle.lst_session.specs.Crews.{words_of, IsCrewOf, TellsState, AnswersLine, store_told, pages_known}
use Rattle.lst_session.specs.Lines.{MergeLeaves}
use Rattle.lst_session.specs.Replies.{merge_reply}
use Rattle.lst_session.proofs.Crewed.{IsCrewView, allowed_whole, core_of, hosted_all, known_is, is_crew, told_is, stock_is, pages_is, told_on, same_known}

-- ---- what every merge leaves

module _ (v w : View) (range column : ℕ) (answer : Merge) (m : Merges v w range column answer) where
  -- a session knows what it knew
  pub session_still : (t : ℕ) → t < v.limits.sessions → knows w t ≡ knows v t
  session_still t low = m.learns.view.others t (λ e. omega arith)

  pub same_limits : w.limits ≡ v.limits
  same_limits = m.learns.view.limits

  pub low_before : (t : ℕ) → t < w.limits.sessions → t < v.limits.sessions
  low_before t low = subst (λ (l : Limits). t < l.sessions) m.learns.view.limits low

-- the crew is one still
pub crew_merged : (store : Store) (crew new : Crew) (range column : ℕ) (answer : Merge) → IsCrewOf store crew → IsSeatOf store new.seat → new.seat.view.hosts ≡ crew.seat.view.hosts → AreSpares new.seat.view new.spares.items
    → Merges crew.seat.view new.seat.view range column answer → IsCrewOf store new
crew_merged store crew new range column answer of seat hosted spares m = let v : View = crew.seat.view in let w : View = new.seat.view in record {
  seat_of = seat;
  hosted = λ t low. ap (λ (hs : List Bool). slice_index_or hs t false) hosted ∙ of.hosted t (low_before v w range column answer m t low);
  merger = (λ i. slice_index_or (hosted i) (same_limits v w range column answer m i).sessions false) ∙ of.merger;
  idle = λ t low. let few = low_before v w range column answer m t low in subst IsIdle (sym (session_still v w range column answer m t few)) (of.idle t few);
  pinned = λ t low. let few = low_before v w range column answer m t low in subst IsPinnedWhereOpen (sym (session_still v w range column answer m t few)) (of.pinned t few);
  spares = spares;
}

-- and so is the merger
pub merger_merged : (store : Store) (old new : Merger) (range column : ℕ) (answer : Merge) → IsMergerOf store old → IsSeatOf store new.seat → new.seat.view.hosts ≡ old.seat.view.hosts → AreSpares new.seat.view new.spares.items
    → Merges old.seat.view new.seat.view range column answer → IsMergerOf store new
merger_merged store old new range column answer of seat hosted spares m = record {
  seat_of = seat;
  host = (λ i. slice_index_or (hosted i) (same_limits old.seat.view new.seat.view range column answer m i).sessions false) ∙ of.host;
  spares = spares;
}

-- ---- what the machine says

only_alike : (a b : Words) → OnlyPages a b → TellAlike a b
only_alike a b e = record {
  clock = ap (λ (x : Words). x.clock) e;
  counter = ap (λ (x : Words). x.counter) e;
  log = ap (λ (x : Words). x.log) e;
  begins = ap (λ (x : Words). x.begins) e;
  states = ap (λ (x : Words). x.states) e;
  keys = ap (λ (x : Words). x.keys) e;
  counts = ap (λ (x : Words). x.counts) e;
  cells = ap (λ (x : Words). x.cells) e;
}

module _ (v w : View) (crew : IsCrewView v) (p : Possible v) (pinned : (s : ℕ) → s < v.limits.sessions → IsPinnedWhereOpen (knows v s)) (waiting : (stock_of v).waiting ≡ None) (range column : ℕ) (page : IsPage v.limits range column) where
  abbrev c : Core
  c = core_of v crew p

  pub is_pinned_crew : IsPinnedCrew (core_of v crew p)
  is_pinned_crew = record {
    crew = is_crew v crew p;
    pages = (allowed_whole v crew p).pages;
    retired = ap (λ (m : MergerFrames). m.waiting) (sym (stock_is v crew p)) ∙ waiting;
    pinned = λ s low. subst IsPinnedWhereOpen (known_is v crew p s low) (pinned s low);
  }

  lets_go_is : (s : ℕ) → s < v.limits.sessions → pin_lets_go (core_of v crew p) s ≡ lets_go (knows v s).pages.session.pin (oldest_epoch (stock_of v).retired)
  lets_go_is s low = λ i. lets_go (sym (known_is v crew p s low) i).pages.session.pin (oldest_epoch (sym (stock_is v crew p) i).retired)

  module _ (answer : Merge) (m : Merges v w range column answer) where
    each : SamePinEach v.limits.sessions p.known (knows w)
    each s low = ap (λ (k : Known). k.pages.session.pin) (session_still v w range column answer m s low ∙ known_is v crew p s low)

    -- the store part stays
    store_stays : store_told w ≡ store_told v
    store_stays = told_on v w v.limits.sessions _ m.learns.view (words_of w) refl ∙ (other_areas_tell_nothing v.limits (words_of v) (words_of w) (knows w) (only_alike (words_of v) (words_of w) (m.words crew.whole))
        ∙ transactions_are_told v.limits (words_of v) (knows v) (knows w) (λ s low. same_known (knows v s) (knows w s) (session_still v w range column answer m s low)))

    tells : TellsState w
    tells = let same = m.learns.view in let is = m.words crew.whole in record {
      whole = same.whole ∙ crew.whole;
      records = subst (λ (l : Limits). (words_of w).counter ≤ record_count l) (sym same.limits) (subst (λ (n : ℕ). n ≤ record_count v.limits) (sym (ap (λ (x : Words). x.counter) is)) crew.records);
      placed = λ r low. (λ i. is_placed (same.limits i) (is i).index r) ∙ crew.placed r (subst (λ (x : Words). r < x.counter) is low);
      tails = λ q low. subst (λ (l : Limits). (words_of w).counts q ≤ l.tails) (sym same.limits) (subst (λ (x : Words). x.counts q ≤ v.limits.tails) (sym is) (crew.tails q (subst (λ (l : Limits). q < l.ranges) same.limits low)));
    }

    -- from what the law says at the state of the core
    answered : (reply : Reply) → IsMergedTo (core_of v crew p) range column (knows w) (stock_of w) reply → AnswersLine v w (line.Merge range column) reply
    answered reply is = record {
      is = sym is.reply ∙ (λ i. machine.merge_reply v.limits (sym (told_is v crew p) i) (sym (pages_is v crew p) i) range column);
      then = λ i. record { store = store_stays i; pages = (here ∙ (λ j. machine.pages_after_merge v.limits (sym (told_is v crew p) j) (sym (pages_is v crew p) j) range column)) i };
      limits = m.learns.view.limits;
    }
      where
        here : pages_known w ≡ machine.pages_after_merge v.limits (told (core_of v crew p)) (pages_told (core_of v crew p)) range column
        here = ap (λ (l : Limits). told_pages l (knows w) (stock_of w)) m.learns.view.limits ∙ is.next

  tps_is : tps_known (stock_of v) range column ≡ tps_known p.merger.pages.stock range column
  tps_is = ap (λ (m : MergerFrames). tps_known m range column) (stock_is v crew p)

  merged_as : (answer : Merge) → Merges v w range column answer → IsMergedTo (core_of v crew p) range column (knows w) (stock_of w) (merge_reply answer)
  merged_as (Merged n) m = let x = m.is in swaps_are_told (core_of v crew p) is_pinned_crew range column n (knows w) (stock_of w) page (x.whole crew.whole)
      (λ e. let more = x.more in let same = tps_is in absurd (omega arith))
      (λ s low. lets_go_is s low ∙ x.free s low (hosted_all v crew p s (omega arith)))
      (each (Merged n) m)
      record { here = x.tps; others = λ r q inside apart. x.others r q inside (λ e. apart e.0 e.1) ∙ ap (λ (o : MergerFrames). tps_known o r q) (stock_is v crew p); epoch = x.once.epoch ∙ ap (λ (o : MergerFrames). o.epoch + 1) (stock_is v crew p) }
  merged_as (Idle n) m = let x = m.is in nothing_new_is_told (core_of v crew p) (is_crew v crew p) range column n (knows w) (stock_of w) page (x.whole crew.whole) (sym tps_is ∙ sym x.tps)
      (each (Idle n) m)
      record { tps = λ r q inside. ap (λ (o : MergerFrames). tps_known o r q) (x.stock ∙ (stock_is v crew p)); epoch = ap (λ (o : MergerFrames). o.epoch) (x.stock ∙ (stock_is v crew p)) }
  merged_as (NoFrame s) m = let x = m.is in no_frame_is_told (core_of v crew p) is_pinned_crew range column x.run.end s (knows w) (stock_of w) page (x.whole crew.whole)
      (λ e. let more = x.more in let same = tps_is in let from = x.is_run.tps in absurd (omega arith))
      x.low
      (lets_go_is s x.low ∙ x.holds.oldest (hosted_all v crew p s (let low = x.low in omega arith)))
      (λ t few. let low = x.low in lets_go_is t (omega arith) ∙ x.before t few (hosted_all v crew p t (omega arith)))
      (each (NoFrame s) m)
      record { tps = λ r q inside. x.tps r q ∙ ap (λ (o : MergerFrames). tps_known o r q) (stock_is v crew p); epoch = x.epoch ∙ ap (λ (o : MergerFrames). o.epoch) (stock_is v crew p) }

  pub merge_answers : (answer : Merge) → Merges v w range column answer → TellsState w × AnswersLine v w (line.Merge range column) (merge_reply answer)
  merge_answers answer m = (tells answer m, answered answer m (merge_reply answer) (merged_as answer m))

-- what a merge says as a line
pub merge_leaves : (v w : View) (range column : ℕ) (answer : Merge) → Merges v w range column answer → MergeLeaves v w range column (merge_reply answer)
merge_leaves v w range column (Merged tps) m = m
merge_leaves v w range column (Idle tps) m = m
merge_leaves v w range column (NoFrame s) m = m
