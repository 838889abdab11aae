-- A page that is built is right.
use Rattle.std.proofs.Common.{◌≡◌, ◌≢◌, ℕ, suc, ◌+◌, ◌-◌, ◌*◌, ◌<◌, ◌≤◌, List, [], ◌∷◌, true, Some, None, cond, length, take, drop, sym, subst, ap, ◌∙◌, arith, slice_index, slice_index_or}
use Rattle.std.proofs.lemmas.List.{length-drop}
use mathlib.Core.Logic.{dite}
use native.Mathlib.Decide.{ℕ_discrete}
use Rattle.lst_layout.specs.declared.TheConstants.{RANGE_RECORDS, FRAME_VALUES, FRAME_WORDS}
use Rattle.lst_layout.specs.declared.limits.Limits.{Limits}
use Rattle.lst_layout.specs.Areas.{frame_count}
use Rattle.lst_layout.specs.Frames.{time_place, null_place, null_bit}
use Rattle.lst_layout.specs.Words.{Words, shown}
use Rattle.lst_bits.specs.Times.{time_of, is_present}
use Rattle.lst_model.specs.Cells.{cell_of}
use Rattle.lst_core_state.specs.declared.known.Known.{Known}
use Rattle.lst_core_state.specs.declared.pages.MergerFrames.{MergerFrames}
use Rattle.lst_pack.specs.Forms.{Packs, IsPacked}
use Rattle.lst_pages.specs.declared.entries.Entry.{Entry}
use Rattle.lst_pages.specs.declared.tails.PageTail.{PageTail}
use Rattle.lst_pages.specs.Chains.{Told}
use Rattle.lst_pages.specs.Entries.{folded}
use Rattle.lst_pages.specs.Frames.{tps_in, packed_in, entry_in, HasEntries}
use Rattle.lst_pages.specs.Pages.{IsRightPage}
use Rattle.lst_pages.specs.Tails.{touches}
use Rattle.lst_pages.proofs.Lists.{listed-same}
use Rattle.lst_pages.proofs.Pages.{right_same, build_right, entries-told}
use Rattle.lst_pages.specs.Lists.{HasFirst}
use Rattle.lst_pages.specs.Step.{IsClear}
use Rattle.lst_pages.specs.StateLaws.{AreNumbered}
use Rattle.lst_pages.specs.Runs.{frame_known, page_known, tps_known}
use Rattle.lst_pages.specs.Settled.{tail_in, is_settled, settled_tails}
use Rattle.lst_pages.specs.Sound.{IsPage}
use Rattle.lst_pages.proofs.Numbering.{settled_are_numbered}
use Rattle.lst_rule.specs.declared.view.View.{View}
use Rattle.lst_rule.specs.Rule.{knows, hosts, Allowed}
use Rattle.lst_rule.specs.Learned.{Possible, Kept}
use Rattle.lst_rule.specs.PageSteps.{with_stock, StockIs, stock_of}
use Rattle.lst_layout.specs.declared.place.Place.TheVariants.{DirectoryWord}
use Rattle.lst_rule.specs.Stores.{Looked}
use Rattle.lst_rule.proofs.Learning.{kept_on}
use Rattle.lst_rule.proofs.Paging.{stock_is, directory_is, pages_known, pages_safe}
use Rattle.lst_rule.proofs.Stocks.{stock_now, stock_then, still_hosts, is_unused}
use Rattle.lst_merge.specs.Inspections.{merger_of, Inspects}
use Rattle.lst_merge.specs.Runs.{KnowsSettled, AreSettled}
use Rattle.lst_merge.specs.Pages.{AreEntriesIn, AreAbsentZero, AreKnown, FoldsRun}
use Rattle.lst_merge.specs.Builds.{IsFree, frames_stored, StoresFrame, MayReplace, Builds}
use Rattle.lst_merge.proofs.Ending.{inspects_join, inspects_host, stock_inspected}
use Rattle.lst_merge.proofs.Folding.{told_drop, told_same}
use Rattle.lst_merge.proofs.Inspecting.{inspects_still}
use Rattle.lst_merge.proofs.Settling.{settles_as, settled_more}
use Rattle.lst_merge.proofs.Storing.{stored_retired, stored_waiting, stored_held, stored_directory, stored_built, stored_words, stored_others}

-- ---- entries of a page that is known

-- the words of a frame alone tell its entries
pub entries_same : (words others : ℕ → ℕ) (es : ℕ → Entry) → ((n : ℕ) → n < FRAME_WORDS → others n ≡ words n) → AreEntriesIn others es → AreEntriesIn words es
entries_same words others es same are values packed i low = let stamp = same (time_place i) (omega arith) in let nulls = same (null_place i) (omega arith) in
    are values (subst (λ (ws : List ℕ). Packs ws values) (sym (listed-same words others FRAME_VALUES (RANGE_RECORDS + 1) (λ n above below. same n (omega arith)))) packed) i low
    ∙ (λ k. record { cell = cond (is_present (stamp k)) (Some (cell_of (nulls k) (null_bit i) (slice_index values i))) None; time = time_of (stamp k) })

-- and whether the values of absent ones are 0
absent_same : (words others : ℕ → ℕ) → ((n : ℕ) → n < FRAME_WORDS → others n ≡ words n) → AreAbsentZero others → AreAbsentZero words
absent_same words others same zero values packed i low absent =
    zero values (subst (λ (ws : List ℕ). Packs ws values) (sym (listed-same words others FRAME_VALUES (RANGE_RECORDS + 1) (λ n above below. same n (omega arith)))) packed) i low (ap is_present (same (time_place i) (omega arith)) ∙ absent)

module _ (v : View) (p : Possible v) (hosted : hosts v v.limits.sessions ≡ true) (r c : ℕ) (page : IsPage v.limits r c) where
  abbrev m : MergerFrames
  m = stock_of v

  -- the page that the merger knows is right
  pub known_right : (words : List ℕ) (known : ℕ → Known) (merger : Known) → Allowed v words known merger → IsRightPage c (settled_tails v.limits (shown v.limits words) r) (frame_known (stock_of v) (page_known (stock_of v) r c))
  known_right words known merger may = subst (λ (q : MergerFrames). IsRightPage c (settled_tails v.limits (shown v.limits words) r) (frame_known q (page_known q r c))) (sym (stock_is v words known merger may hosted))
      ((pages_known v words known merger may).old r c page).0

  -- and so are words that are the same
  pub known_says : (words : ℕ → ℕ) → ((n : ℕ) → n < FRAME_WORDS → words n ≡ frame_known (stock_of v) (page_known (stock_of v) r c) n) → IsRightPage c (settled_tails v.limits (shown v.limits p.words) r) words
  known_says words same = right_same c (settled_tails v.limits (shown v.limits p.words) r) (frame_known m (page_known m r c)) words same (known_right p.words p.known p.merger p.allowed)

  -- so their values are packed
  pub known_packed : (words : ℕ → ℕ) → ((n : ℕ) → n < FRAME_WORDS → words n ≡ frame_known (stock_of v) (page_known (stock_of v) r c) n) → IsPacked (packed_in words)
  known_packed words same = let right = known_says words same in (right.entries.values, right.entries.packed)

  -- no page has a free frame
  pub free_apart : (f : ℕ) → IsFree v f → page_known (stock_of v) r c ≢ f
  free_apart f free e = (is_unused v f hosted free.0 free.1).unlisted p.words p.known p.merger p.allowed r c page (sym (directory_is v p.words p.known p.merger p.allowed hosted r c page) ∙ e)

  -- which is a frame of the store
  pub free_low : (f : ℕ) → IsFree v f → f < frame_count v.limits
  free_low f free = ((pages_safe v p.words p.known p.merger p.allowed).unlisted f 0 0 (subst (λ (q : MergerFrames). HasFirst (λ s. s.frame ≡ f) q.retired × IsClear v.limits q) (stock_is v p.words p.known p.merger p.allowed hosted) free)).0

  pub frames_long : length (stock_of v).frames ≡ frame_count v.limits
  frames_long = ap (λ (q : MergerFrames). length q.frames) (stock_is v p.words p.known p.merger p.allowed hosted) ∙ p.allowed.pages.pages.sized.each_frame

  pub frames_wide : (f : ℕ) → f < frame_count v.limits → length (slice_index_or (stock_of v).frames f []) ≡ FRAME_WORDS
  frames_wide f low = ap (λ (q : MergerFrames). length (slice_index_or q.frames f [])) (stock_is v p.words p.known p.merger p.allowed hosted) ∙ p.allowed.pages.pages.sized.each_word f low

-- ---- the tails of a run in a state that a view allows

module _ (w : View) (words : List ℕ) (known : ℕ → Known) (merger : Known) (may : Allowed w words known merger) (hosted : hosts w w.limits.sessions ≡ true) (r : ℕ) where
  abbrev W : Words
  W = shown w.limits words

  known_told : (n : ℕ) (ts : List PageTail) → AreKnown w.limits (merger_of w) r n ts → Told (λ (k : ℕ). tail_in w.limits (shown w.limits words) (r * w.limits.tails + k)) n ts
  known_told n [] a = tt
  known_told n (t ∷ ts) a = (sym (settles_as w words known merger may w.limits.sessions hosted (r * w.limits.tails + suc n) t a.0).is, known_told (suc n) ts a.1)

  known_each : (n : ℕ) (ts : List PageTail) → AreKnown w.limits (merger_of w) r n ts → (k : ℕ) → n < k → k ≤ n + length ts → is_settled (shown w.limits words) (r * w.limits.tails + k) ≡ true
  known_each n [] a k above below = absurd (omega arith)
  known_each n (t ∷ ts) a k above below = dite (ℕ_discrete k (suc n))
      (λ e. subst (λ (j : ℕ). is_settled W (r * w.limits.tails + j) ≡ true) (sym e) (settles_as w words known merger may w.limits.sessions hosted (r * w.limits.tails + suc n) t a.0).settled)
      (λ ne. known_each (suc n) ts a.1 k (omega arith) (omega arith))

  -- they are the settled tails after number n
  pub known_taken : (n : ℕ) (ts : List PageTail) → AreKnown w.limits (merger_of w) r n ts → n ≤ length (settled_tails w.limits (shown w.limits words) r) → n + length ts ≤ w.limits.tails
      → (n + length ts ≤ length (settled_tails w.limits (shown w.limits words) r)) × (take (length ts) (drop n (settled_tails w.limits (shown w.limits words) r)) ≡ ts)
  known_taken n ts a low few = let all : List PageTail = settled_tails w.limits W r in let numbered : AreNumbered w.limits W r = settled_are_numbered w.limits W r in
      let most : n + length ts ≤ length all = numbered.more n (n + length ts) low few (λ k above below. known_each n ts a k above below) in
      let left : length (drop n all) ≡ length all - n = length-drop n all in
      (most, told_same (λ (k : ℕ). tail_in w.limits W (r * w.limits.tails + k)) n (drop n all) ts (told_drop (λ (k : ℕ). tail_in w.limits W (r * w.limits.tails + k)) 0 n n all (omega arith) numbered.told) (known_told n ts a) (omega arith))

-- ---- the build

known_on : (l : Limits) (u v : Known) (r n : ℕ) (ts : List PageTail) → ((t : ℕ) (tail : PageTail) → KnowsSettled u t tail → KnowsSettled v t tail) → AreKnown l u r n ts → AreKnown l v r n ts
known_on l u v r n [] f a = tt
known_on l u v r n (t ∷ ts) f a = (f (r * l.tails + suc n) t a.0, known_on l u v r (suc n) ts f a.1)

module _ (v a b w : View) (r c f tps end : ℕ) (es fs : ℕ → Entry) (page : ℕ → ℕ) (hosted : hosts v v.limits.sessions ≡ true) (is : IsPage v.limits r c) (p : Possible v) (free : IsFree v f)
    (still : StockIs v a (stock_of v)) (kept : Kept v a) (entries : AreEntriesIn (frame_known (stock_of v) (page_known (stock_of v) r c)) es)
    (inspects : Inspects a b a.limits.sessions) (run : FoldsRun a.limits (merger_of b) r c tps end es fs) (stores : StoresFrame b w f FRAME_WORDS page)
    (lineage : tps_in page ≡ end) (has : HasEntries page fs) (absent : AreAbsentZero page) (at : tps ≡ tps_known (stock_of v) r c) (few : end ≤ v.limits.tails) where
  abbrev old : ℕ → ℕ
  old = frame_known (stock_of v) (page_known (stock_of v) r c)

  looked : Inspects v b v.limits.sessions
  looked = inspects_join v a b (inspects_still v a v.limits.sessions still kept) inspects

  same_stock : stock_of b ≡ stock_of v
  same_stock = stock_inspected v b looked

  stock_stored : stock_of w ≡ frames_stored (stock_of v) f page FRAME_WORDS
  stock_stored = stock_now b w (frames_stored (stock_of b) f page FRAME_WORDS) stores.view ∙ ap (λ (m : MergerFrames). frames_stored m f page FRAME_WORDS) same_stock

  low : f < frame_count v.limits
  low = free_low v p hosted r c is f free

  there : f < length (stock_of v).frames
  there = let e = frames_long v p hosted r c is in let h = low in omega arith

  wide : length (slice_index_or (stock_of v).frames f []) ≡ FRAME_WORDS
  wide = frames_wide v p hosted r c is f low

  new_words : (n : ℕ) → n < FRAME_WORDS → frame_known (stock_of w) f n ≡ page n
  new_words n short = ap (λ (m : MergerFrames). frame_known m f n) stock_stored ∙ stored_words (stock_of v) f page there wide FRAME_WORDS (omega arith) n short

  same_page : (q d : ℕ) → page_known (stock_of w) q d ≡ page_known (stock_of v) q d
  same_page q d = ap (λ (m : MergerFrames). page_known m q d) stock_stored ∙ ap (λ (rows : List (List ℕ)). slice_index_or (slice_index_or rows q []) d 0) (stored_directory (stock_of v) f page FRAME_WORDS)

  -- no page's frame is stored into
  kept_words : (q d : ℕ) → IsPage v.limits q d → (n : ℕ) → frame_known (stock_of w) (page_known (stock_of w) q d) n ≡ frame_known (stock_of v) (page_known (stock_of v) q d) n
  kept_words q d its n = (λ i. frame_known (stock_stored i) (same_page q d i) n) ∙ stored_others (stock_of v) f page there wide FRAME_WORDS (omega arith) (page_known (stock_of v) q d) n (free_apart v p hosted q d its f free)

  old_words : (n : ℕ) → frame_known (stock_of w) (page_known (stock_of w) r c) n ≡ frame_known (stock_of v) (page_known (stock_of v) r c) n
  old_words n = kept_words r c is n

  limits_w : w.limits ≡ v.limits
  limits_w = stores.view.limits ∙ looked.view.limits

  there_host : hosts w w.limits.sessions ≡ true
  there_host = ap (λ (l : Limits). hosts w l.sessions) stores.view.limits ∙ still_hosts b w (frames_stored (stock_of b) f page FRAME_WORDS) stores.view b.limits.sessions (inspects_host v b looked hosted)

  -- the merger's facts are those of b
  merger_last : (t : ℕ) (tail : PageTail) → KnowsSettled (merger_of b) t tail → KnowsSettled (merger_of w) t tail
  merger_last t tail k = subst (λ (m : Known). KnowsSettled m t tail) (sym stores.view.now ∙ ap (λ (l : Limits). knows w l.sessions) (sym stores.view.limits))
      (settled_more (merger_of b) (with_stock (merger_of b) (frames_stored (stock_of b) f page FRAME_WORDS)) t tail (λ e h. h) (omega arith) k)

  tails_known : AreKnown w.limits (merger_of w) r tps run.tails
  tails_known = subst (λ (l : Limits). AreKnown l (merger_of w) r tps run.tails) (still.limits ∙ sym limits_w) (known_on a.limits (merger_of b) (merger_of w) r tps run.tails merger_last run.known)

  module _ (words : List ℕ) (known : ℕ → Known) (merger : Known) (may : Allowed w words known merger) where
    abbrev ts : List PageTail
    ts = settled_tails w.limits (shown w.limits words) r

    right_old : IsRightPage c (settled_tails w.limits (shown w.limits words) r) (frame_known (stock_of v) (page_known (stock_of v) r c))
    right_old = right_same c ts (frame_known (stock_of w) (page_known (stock_of w) r c)) old (λ n short. sym (old_words n))
        (subst (λ (m : MergerFrames). IsRightPage c ts (frame_known m (page_known m r c))) (sym (stock_is w words known merger may there_host)) ((pages_known w words known merger may).old r c (subst (λ (l : Limits). IsPage l r c) (sym limits_w) is)).0)

    taken : (tps + length run.tails ≤ length (settled_tails w.limits (shown w.limits words) r)) × (take (length run.tails) (drop tps (settled_tails w.limits (shown w.limits words) r)) ≡ run.tails)
    taken = let settled = right_old.settled in let long = run.long in let most : end ≤ w.limits.tails = subst (λ (l : Limits). end ≤ l.tails) (sym limits_w) few in
        known_taken w words known merger may there_host r tps run.tails tails_known (omega arith) (omega arith)

    right_page : IsRightPage c (settled_tails w.limits (shown w.limits words) r) page
    right_page = let values : List ℕ = right_old.entries.values in let long = run.long in let most = taken.0 in
        build_right c (length run.tails) ts old page values right_old right_old.entries.packed (omega arith) (omega arith)
        (entries-told page fs (λ i. folded (touches c i) c (entry_in old (slice_index values i) i) (take (length run.tails) (drop (tps_in old) ts))) (λ i short. run.folds i short
        ∙ ((λ k. folded (touches c i) c (entries values right_old.entries.packed i short k) (sym taken.1 k)) ∙ ap (λ (n : ℕ). folded (touches c i) c (entry_in old (slice_index values i) i) (take (length run.tails) (drop n ts))) at)) has)

    pub right_built : IsRightPage c (settled_tails w.limits (shown w.limits words) r) (frame_known (stock_of w) f)
    right_built = right_same c ts page (frame_known (stock_of w) f) new_words right_page

  tps_built : tps_in (frame_known (stock_of w) f) ≡ end
  tps_built = new_words 0 (omega arith) ∙ lineage

  tps_old : tps_known (stock_of w) r c ≡ tps_known (stock_of v) r c
  tps_old = old_words 0

  built : (stock_of w).built ≡ Some f
  built = ap (λ (m : MergerFrames). m.built) stock_stored ∙ stored_built (stock_of v) f page FRAME_WORDS (omega arith)

  pub builds : Builds v w r c f end
  builds = record {
    between = b;
    inspects = looked;
    page = page;
    stores = stores;
    is = record { built = built; tps = tps_built; zero = absent_same (frame_known (stock_of w) f) page (λ n short. sym (new_words n short)) absent; right = right_built };
    old = λ q d its. kept_words q d its 0;
    spares = λ spares are. record {
      retired = are.retired ∙ sym (ap (λ (m : MergerFrames). m.retired) stock_stored ∙ stored_retired (stock_of v) f page FRAME_WORDS);
      idle = ap (λ (m : MergerFrames). m.waiting) stock_stored ∙ (stored_waiting (stock_of v) f page FRAME_WORDS ∙ are.idle);
    };
    held = ap (λ (m : MergerFrames). m.held) stock_stored ∙ stored_held (stock_of v) f page FRAME_WORDS;
  }

  pub ready : tps < end → MayReplace w r c f
  ready more words known merger may = record {
    built = built;
    right = right_built words known merger may;
    more = let before = tps_old in let after = tps_built in omega arith;
    few = let after = tps_built in let e = ap (λ (l : Limits). l.tails) limits_w in omega arith;
  }

-- ---- the page is loaded

module _ (v u : View) (r c x : ℕ) (looked : Looked v u v.limits.sessions (DirectoryWord r c) x) (is : x ≡ page_known (stock_of v) r c) where
  found_still : StockIs v u (stock_of v)
  found_still = looked.view

  pub found_host : hosts v v.limits.sessions ≡ true → hosts u u.limits.sessions ≡ true
  found_host hosted = ap (λ (l : Limits). hosts u l.sessions) found_still.limits ∙ still_hosts v u (stock_of v) found_still v.limits.sessions hosted

  pub found_low : x < frame_count v.limits → x < frame_count u.limits
  found_low low = subst (λ (l : Limits). x < frame_count l) (sym found_still.limits) low

  pub found_words : (words : List ℕ) → ((n : ℕ) → n < FRAME_WORDS → slice_index words n ≡ frame_known (stock_of u) x n) → (n : ℕ) → n < FRAME_WORDS → slice_index words n ≡ frame_known (stock_of v) (page_known (stock_of v) r c) n
  found_words words found n low = found n low ∙ (λ i. frame_known (stock_now v u (stock_of v) found_still i) (is i) n)

  pub found_view : (w : View) → StockIs u w (stock_of u) → StockIs v w (stock_of v)
  found_view w view = stock_then v u w (stock_of v) (λ m. m) found_still view

  pub found_kept : (w : View) → Kept u w → Kept v w
  found_kept w kept = kept_on v u w found_still.whole looked.kept kept

-- nothing was learnt since
module _ (v a : View) (still : StockIs v a (stock_of v)) where
  still_merger : merger_of a ≡ merger_of v
  still_merger = ap (λ (l : Limits). knows a l.sessions) still.limits ∙ still.now

  pub still_host : hosts v v.limits.sessions ≡ true → hosts a a.limits.sessions ≡ true
  still_host hosted = ap (λ (l : Limits). hosts a l.sessions) still.limits ∙ still_hosts v a (stock_of v) still v.limits.sessions hosted

  pub still_page : (r c : ℕ) → IsPage v.limits r c → IsPage a.limits r c
  still_page r c page = subst (λ (l : Limits). IsPage l r c) (sym still.limits) page

  pub still_few : (n : ℕ) → n ≤ v.limits.tails → n ≤ a.limits.tails
  still_few n few = subst (λ (l : Limits). n ≤ l.tails) (sym still.limits) few

  pub still_settled : (r p n : ℕ) → AreSettled v.limits (merger_of v) r p n → AreSettled a.limits (merger_of a) r p n
  still_settled r p n settled = subst (λ (z : Limits × Known). AreSettled z.0 z.1 r p n) (λ i. (sym still.limits i, sym still_merger i)) settled

-- the frame may be stored into after looks
module _ (v a b : View) (still : StockIs v a (stock_of v)) (inspects : Inspects a b a.limits.sessions) where
  looked_limits : b.limits ≡ v.limits
  looked_limits = inspects.view.limits ∙ still.limits

  looked_stock : stock_of b ≡ stock_of v
  looked_stock = stock_inspected a b inspects ∙ stock_now v a (stock_of v) still

  pub build_host : hosts v v.limits.sessions ≡ true → hosts b b.limits.sessions ≡ true
  build_host hosted = inspects_host a b inspects (still_host v a still hosted)

  pub build_free : (f : ℕ) → IsFree v f → IsFree b f
  build_free f free = subst (λ (z : Limits × MergerFrames). HasFirst (λ s. s.frame ≡ f) z.1.retired × IsClear z.0 z.1) (λ i. (sym looked_limits i, sym looked_stock i)) free

  pub build_low : (p : Possible v) (f r c : ℕ) → hosts v v.limits.sessions ≡ true → IsPage v.limits r c → IsFree v f → f < frame_count b.limits
  build_low p f r c hosted page free = subst (λ (l : Limits). f < frame_count l) (sym looked_limits) (free_low v p hosted r c page f free)
