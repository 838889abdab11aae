-- What stays between the calls of a merge.
use Rattle.std.proofs.Common.{◌≡◌, ◌≢◌, ℕ, ◌+◌, ◌*◌, ◌<◌, ◌≤◌, List, [], ◌∷◌, ◌++◌, Bool, true, false, length, refl, sym, subst, ap, ◌∙◌, arith, inl, inr, slice_set, slice_index_or}
use Rattle.lst_layout.specs.declared.TheConstants.{FRAME_WORDS}
use Rattle.lst_layout.specs.declared.limits.Limits.{Limits}
use Rattle.lst_layout.specs.declared.place.Place.TheVariants.{EpochWord, DirectoryWord, FrameWord}
use Rattle.lst_layout.specs.Addresses.{IsWithin, address}
use Rattle.lst_layout.specs.Areas.{words_of}
use Rattle.lst_layout.specs.Functions.{put_in}
use Rattle.lst_layout.specs.Words.{shown}
use Rattle.lst_core_state.specs.declared.facts.Find.{Find}
use Rattle.lst_core_state.specs.declared.facts.Find.TheVariants.{UnfinishedVersion, CountedTails, EmptyStart}
use Rattle.lst_core_state.specs.declared.known.Known.{Known}
use Rattle.lst_core_state.specs.declared.pages.MergerFrames.{MergerFrames}
use Rattle.lst_core_state.specs.declared.pages.Retired.{Retired}
use Rattle.lst_pages.specs.Lists.{Every}
use Rattle.lst_pages.specs.Settled.{settled_tails}
use Rattle.lst_pages.specs.Sound.{IsPage}
use Rattle.lst_pages.specs.State.{oldest_epoch}
use Rattle.lst_pages.specs.Step.{lets_go}
use Rattle.lst_pages.specs.Runs.{tps_known}
use Rattle.lst_retire.specs.Frames.{FindsFree, FindsHeld, let_go_by}
use Rattle.lst_rule.proofs.Stocks.{stock_now}
use Rattle.lst_rule.specs.declared.view.View.{View}
use Rattle.lst_rule.specs.Rule.{knows, hosts}
use Rattle.lst_rule.specs.Learned.{Possible, Kept}
use Rattle.lst_rule.specs.PageSteps.{with_stock, StockIs, stock_of, swapped, raised}
use Rattle.lst_rule.proofs.Learning.{kept_on}
use Rattle.lst_session.specs.declared.kinds.Merge.TheVariants.{Merged, Idle, NoFrame}
use Rattle.lst_merge.specs.declared.runs.Run.{Run}
use Rattle.lst_merge.specs.Inspections.{merger_of, Inspects}
use Rattle.lst_merge.specs.Runs.{AreSettled, StopsAt, IsRun}
use Rattle.lst_merge.specs.Builds.{frames_stored, words_stored, Builds}
use Rattle.lst_merge.specs.Swaps.{latest_epoch, Swaps}
use Rattle.lst_session.specs.Merges.{MergerLearns, settled_count, LetsGo, MergesTo, Merges}
use Rattle.lst_merge.proofs.Ending.{stock_inspected, finds_stay}
use Rattle.lst_session.proofs.MergerLearnt.{learnt_inspected, learnt_stock, learnt_on, learnt_finds}
use Rattle.lst_merge.proofs.Settling.{settled_more}
use Rattle.lst_session.proofs.MergeShown.{pages_same, pages_only, merge_shows, merge_frames}
use Rattle.lst_merge.proofs.Storing.{stored_retired, stored_held, stored_epoch}

-- ---- while the stock alone changes

-- tails that are known to be settled stay so
settled_kept : (v w : View) (m : MergerFrames) (range p n : ℕ) → StockIs v w m → AreSettled v.limits (merger_of v) range p n → AreSettled w.limits (merger_of w) range p n
settled_kept v w m range p n a settled = subst (λ (z : Limits × Known). AreSettled z.0 z.1 range p n) (λ i. (sym a.limits i, (sym a.now ∙ ap (λ (l : Limits). knows w l.sessions) (sym a.limits)) i))
    (λ i above below. let h = settled i above below in (h.0, settled_more (merger_of v) (with_stock (merger_of v) m) (range * v.limits.tails + i) h.0 (λ f g. g) (omega arith) h.1))

-- a look for a free frame changes no page
free_tps : (v w : View) (f range column : ℕ) → FindsFree v w f → tps_known (stock_of w) range column ≡ tps_known (stock_of v) range column
free_tps v w f range column a = ap (λ (m : MergerFrames). tps_known m range column) (stock_now v w (let_go_by (stock_of v) v.limits.sessions) a.view)

-- ---- what was found stays so

-- a find that ends a run
stops_stay : (l : Limits) (u v w : Known) (range n : ℕ) (more : List Find) → w.finds ≡ v.finds ++ more → StopsAt l u v range n → StopsAt l u w range n
stops_stay l u v w range n more is (inl h) = inl (h.0, finds_stay u v w (CountedTails range h.0) more is h.1, h.2)
stops_stay l u v w range n more is (inr (inl h)) = inr (inl (finds_stay u v w (EmptyStart (range * l.tails + n)) more is h))
stops_stay l u v w range n more is (inr (inr h)) = inr (inr (h.0, h.1, h.2, finds_stay u v w (UnfinishedVersion h.0 (range * l.tails + n) h.1 h.2 0) more is h.3))

-- the end of a run, in the words that the view knew before
run_whole : (v a : View) (r c : ℕ) (run : Run) (i : Inspects v a v.limits.sessions) → IsRun v a r c run → v.whole ≡ true → run.end ≡ settled_count v r
run_whole v a r c run i is whole = is.whole (i.view.whole ∙ whole) ∙ (λ j. length (settled_tails (i.view.limits j) (shown (i.view.limits j) (i.kept.words whole j)) r))

-- pins
module _ (v a : View) (i : Inspects v a v.limits.sessions) (s : ℕ) where
  hosts_found : hosts v s ≡ true → hosts a s ≡ true
  hosts_found its = ap (λ (hs : List Bool). slice_index_or hs s false) i.view.hosted ∙ its

  module _ (low : s < v.limits.sessions) where
    pin_still : (knows a s).pages.session.pin ≡ (knows v s).pages.session.pin
    pin_still = ap (λ (k : Known). k.pages.session.pin) (i.view.others s (λ e. omega arith))

    free_known : (pin : ℕ) → (hosts a s ≡ true → pin ≡ (knows a s).pages.session.pin) → lets_go pin (oldest_epoch (stock_of a).retired) ≡ true → LetsGo v s
    free_known pin own free its = sym (λ j. lets_go ((own (hosts_found its) ∙ pin_still) j) (oldest_epoch (stock_inspected v a i j).retired)) ∙ free

-- ---- between the calls

-- the run is found
module _ (v a : View) (r c : ℕ) (run : Run) (hosted : hosts v v.limits.sessions ≡ true) (page : IsPage v.limits r c) (i : Inspects v a v.limits.sessions) (is : IsRun v a r c run) where
  -- and a free frame
  module _ (b : View) (f : ℕ) (frees : FindsFree a b f) where
    freed_limits : b.limits ≡ v.limits
    freed_limits = frees.view.limits ∙ i.view.limits

    freed_still : (q d : ℕ) → tps_known (stock_of b) q d ≡ tps_known (stock_of v) q d
    freed_still q d = free_tps a b f q d frees ∙ ap (λ (m : MergerFrames). tps_known m q d) (stock_inspected v a i)

    pub freed_settled : AreSettled b.limits (merger_of b) r run.tps run.end
    freed_settled = settled_kept a b (let_go_by (stock_of a) a.limits.sessions) r run.tps run.end frees.view (subst (λ (l : Limits). AreSettled l (merger_of a) r run.tps run.end) (sym i.view.limits) is.settled)

    -- and the page is built
    module _ (d : View) (builds : Builds b d r c f run.end) where
      built_limits : d.limits ≡ v.limits
      built_limits = builds.stores.view.limits ∙ (builds.inspects.view.limits ∙ freed_limits)

      built_stock : stock_of d ≡ frames_stored (let_go_by (stock_of v) a.limits.sessions) f builds.page FRAME_WORDS
      built_stock = stock_now builds.between d (frames_stored (stock_of builds.between) f builds.page FRAME_WORDS) builds.stores.view
          ∙ ap (λ (m : MergerFrames). frames_stored m f builds.page FRAME_WORDS) (stock_inspected b builds.between builds.inspects ∙ (stock_now a b (let_go_by (stock_of a) a.limits.sessions) frees.view ∙ ap (λ (m : MergerFrames). let_go_by m a.limits.sessions) (stock_inspected v a i)))

      built_epoch : (stock_of d).epoch ≡ (stock_of v).epoch
      built_epoch = ap (λ (m : MergerFrames). m.epoch) built_stock ∙ stored_epoch (let_go_by (stock_of v) a.limits.sessions) f builds.page FRAME_WORDS

      built_retired : (stock_of d).retired ≡ (stock_of v).retired
      built_retired = ap (λ (m : MergerFrames). m.retired) built_stock ∙ stored_retired (let_go_by (stock_of v) a.limits.sessions) f builds.page FRAME_WORDS

      built_held : (stock_of d).held ≡ (stock_of v).held
      built_held = ap (λ (m : MergerFrames). m.held) built_stock ∙ stored_held (let_go_by (stock_of v) a.limits.sessions) f builds.page FRAME_WORDS

      -- and takes the page's place
      module _ (w : View) (p : Possible v) (swaps : Swaps d w r c f) (more : run.tps < run.end) where
        last_learnt : MergerLearns a w
        last_learnt = learnt_on a b w (learnt_stock a b _ frees.view) (learnt_on b builds.between w (learnt_inspected b builds.between builds.inspects) (learnt_on builds.between d w (learnt_stock builds.between d _ builds.stores.view) (learnt_stock d w _ swaps.view)))

        all_learnt : MergerLearns v w
        all_learnt = learnt_on v a w (learnt_inspected v a i) last_learnt

        module _ (whole : v.whole ≡ true) where
          found_whole : a.whole ≡ true
          found_whole = i.view.whole ∙ whole

          freed_whole : b.whole ≡ true
          freed_whole = frees.view.whole ∙ found_whole

          between_whole : builds.between.whole ≡ true
          between_whole = builds.inspects.view.whole ∙ freed_whole

          built_whole : d.whole ≡ true
          built_whole = builds.stores.view.whole ∙ between_whole

          between_words : builds.between.words ≡ v.words
          between_words = builds.inspects.kept.words freed_whole ∙ (frees.looks.looks.kept.words found_whole ∙ i.kept.words whole)

          built_words : d.words ≡ words_stored v.limits v.words f builds.page FRAME_WORDS
          built_words = builds.stores.words between_whole ∙ (λ j. words_stored ((builds.inspects.view.limits ∙ freed_limits) j) (between_words j) f builds.page FRAME_WORDS)

          last_words : w.words ≡ slice_set (slice_set (words_stored v.limits v.words f builds.page FRAME_WORDS) (address v.limits (DirectoryWord r c)) f) (address v.limits EpochWord) ((stock_of v).epoch + 1)
          last_words = swaps.words built_whole ∙ (λ j. slice_set (slice_set (built_words j) (address (built_limits j) (DirectoryWord r c)) f) (address (built_limits j) EpochWord) (built_epoch j + 1))

          wide : length v.words ≡ words_of v.limits
          wide = ap length (p.allowed.whole whole) ∙ p.allowed.wide

          within : (n : ℕ) → n < FRAME_WORDS → IsWithin v.limits (FrameWord f n)
          within n low = subst (λ (l : Limits). IsWithin l (FrameWord f n)) freed_limits (frees.within n 0 low)

          last_shows : shown w.limits w.words ≡ record (shown v.limits v.words) { epoch = (stock_of v).epoch + 1; directory = put_in (shown v.limits v.words).directory r c f; frames = (shown w.limits w.words).frames }
          last_shows = merge_shows v.limits v.words wide f builds.page within r c ((stock_of v).epoch + 1) page (shown w.limits w.words) (λ j. shown ((swaps.view.limits ∙ built_limits) j) (last_words j))

          last_frames : (g i : ℕ) → g ≢ f → (shown w.limits w.words).frames g i ≡ (shown v.limits v.words).frames g i
          last_frames g i ne = merge_frames v.limits v.words wide f builds.page within r c ((stock_of v).epoch + 1) page (shown w.limits w.words) (λ j. shown ((swaps.view.limits ∙ built_limits) j) (last_words j)) g i ne

        merges_to : MergesTo v w r c run.end
        merges_to = record {
          run = run;
          frame = f;
          found = a;
          freed = b;
          built = d;
          inspects = i;
          is_run = is;
          end = refl;
          frees = frees;
          builds = builds;
          swaps = swaps;
          more = subst (λ (n : ℕ). n < run.end) is.tps more;
          tps = swaps.tps ∙ builds.is.tps;
          others = λ q e its other. swaps.others q e (subst (λ (l : Limits). IsPage l q e) (sym built_limits) its) other ∙ (builds.old q e (subst (λ (l : Limits). IsPage l q e) (sym freed_limits) its) ∙ freed_still q e);
          listed = swaps.listed;
          once = record { epoch = swaps.once.epoch ∙ ap (λ (e : ℕ). e + 1) built_epoch; rises = swaps.once.rises ∙ ap (λ (rs : List Retired). latest_epoch rs + 1) built_retired; latest = swaps.once.latest };
          held = ap (λ (m : MergerFrames). m.held) (stock_now d w (raised (swapped d.limits (stock_of d) r c)) swaps.view) ∙ built_held;
          stops = stops_stay v.limits (merger_of v) (merger_of a) (merger_of w) r (run.end + 1) last_learnt.finds (learnt_finds a w last_learnt) is.stops;
          whole = run_whole v a r c run i is;
          free = λ s low. free_known v a i s low (frees.looks.found s) (frees.looks.looks.own s (subst (λ (l : Limits). s < l.sessions) (sym i.view.limits) low)) (frees.looks.free s (subst (λ (l : Limits). s < l.sessions) (sym i.view.limits) low));
          words = last_shows;
          frames = last_frames;
        }

        pub merges : Merges v w r c (Merged run.end)
        merges = record {
          learns = all_learnt;
          words = λ whole. pages_only (shown v.limits v.words) (shown w.limits w.words) _ _ _ (last_shows whole);
          is = merges_to;
        }

  -- the run has no tail
  pub has_nothing : run.end ≡ run.tps → Merges v a r c (Idle run.tps)
  has_nothing none = record {
    learns = learnt_inspected v a i;
    words = λ whole. pages_same (shown v.limits v.words) (shown a.limits a.words) (λ j. shown (i.view.limits j) (i.kept.words whole j));
    is = record {
      inspects = i;
      tps = is.tps;
      stock = stock_inspected v a i;
      stops = subst (λ (n : ℕ). StopsAt v.limits (merger_of v) (merger_of a) r (n + 1)) none is.stops;
      whole = λ whole. sym none ∙ run_whole v a r c run i is whole;
    };
  }

  -- no frame is free
  module _ (w : View) (s : ℕ) (held : FindsHeld a w s) (more : run.tps < run.end) where
    held_learnt : MergerLearns a w
    held_learnt = learnt_stock a w _ held.view

    held_kept : Kept v w
    held_kept = kept_on v a w i.view.whole i.kept held.looks.looks.kept

    held_limits : w.limits ≡ v.limits
    held_limits = held.view.limits ∙ i.view.limits

    held_stock : stock_of w ≡ (let m : MergerFrames = let_go_by (stock_of a) s in record m { held = m.held ++ s ∷ [] })
    held_stock = stock_now a w _ held.view

    held_low : s < v.limits.sessions
    held_low = subst (λ (l : Limits). s < l.sessions) i.view.limits held.looks.low

    held_pin : hosts v s ≡ true → held.looks.found s ≡ (knows v s).pages.session.pin
    held_pin its = held.looks.looks.own s (omega arith) (hosts_found v a i s its) ∙ pin_still v a i s held_low

    held_epoch : (stock_of w).epoch ≡ (stock_of v).epoch
    held_epoch = ap (λ (m : MergerFrames). m.epoch) held_stock ∙ ap (λ (m : MergerFrames). m.epoch) (stock_inspected v a i)

    pub lacks_frame : Merges v w r c (NoFrame s)
    lacks_frame = record {
      learns = learnt_on v a w (learnt_inspected v a i) held_learnt;
      words = λ whole. pages_same (shown v.limits v.words) (shown w.limits w.words) (λ j. shown (held_limits j) (held_kept.words whole j));
      is = record {
        run = run;
        found = a;
        inspects = i;
        is_run = is;
        more = more;
        held = held;
        low = held_low;
        tps = λ q d. ap (λ (m : MergerFrames). tps_known m q d) held_stock ∙ ap (λ (m : MergerFrames). tps_known m q d) (stock_inspected v a i);
        epoch = held_epoch;
        retired = ap (λ (m : MergerFrames). m.retired) held_stock ∙ ap (λ (m : MergerFrames). m.retired) (stock_inspected v a i);
        swaps = subst (λ (z : Limits × ℕ). z.0.spare ≤ z.1) (λ j. (held_limits j, held_epoch j)) held.swaps;
        kept = held_kept;
        stops = stops_stay v.limits (merger_of v) (merger_of a) (merger_of w) r (run.end + 1) held_learnt.finds (learnt_finds a w held_learnt) is.stops;
        whole = run_whole v a r c run i is;
        before = λ t low. free_known v a i t (let top = held_low in omega arith) (held.looks.found t) (held.looks.looks.own t (omega arith)) (held.looks.free t low);
        holds = record {
          oldest = λ its. sym (λ j. lets_go (held_pin its j) (oldest_epoch (stock_inspected v a i j).retired)) ∙ held.looks.holds;
          each = λ its. subst (λ (z : ℕ × MergerFrames). Every (λ q. lets_go z.0 q.epoch ≡ false) z.1.retired) (λ j. (held_pin its j, stock_inspected v a i j)) held.all;
        };
      };
    }
