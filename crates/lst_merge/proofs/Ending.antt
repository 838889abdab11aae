-- The end of a run.
use Rattle.std.proofs.Common.{◌≡◌, ◌⊎◌, ⊎_elim, ℕ, suc, ◌+◌, ◌*◌, ◌^◌, ◌<◌, ◌≤◌, List, ◌++◌, Bool, true, false, length, Contains, sym, subst, ap, ◌∙◌, arith, inl, inr, true≢false, Option, Some, None, slice_index_or, mul-le-mul_right, suc-mul, append_assoc}
use Rattle.std.specs.Prelude.{is_some, IfSome, IfNone}
use mathlib.Core.Logic.{dite}
use native.Mathlib.Decide.{ℕ_discrete, dec_lt}
use Rattle.std.proofs.lemmas.List.Elements.{Contains-append_left, Contains-append_right}
use Rattle.lst_layout.specs.Areas.{frame_count}
use Rattle.lst_layout.specs.Limits.{IsValid}
use Rattle.lst_layout.specs.declared.limits.Limits.{Limits}
use Rattle.lst_layout.specs.declared.layout.Layout.{Layout}
use Rattle.lst_layout.specs.declared.place.Place.TheVariants.{TailCounter, DirectoryWord}
use Rattle.lst_layout.specs.Words.{Words, shown}
use Rattle.lst_layout.proofs.Lows.{tail_within}
use Rattle.lst_core_state.specs.declared.facts.Fact.{Fact}
use Rattle.lst_core_state.specs.declared.facts.Find.{Find}
use Rattle.lst_core_state.specs.declared.facts.Find.TheVariants.{CountedTails}
use Rattle.lst_core_state.specs.declared.known.Known.{Known}
use Rattle.lst_core_state.specs.Cells.{tail_count, range_of}
use Rattle.lst_core_state.specs.State.{record_in}
use Rattle.lst_pages.specs.Runs.{frame_known, page_known, tps_known}
use Rattle.lst_pages.specs.Settled.{is_settled, settled_tails}
use Rattle.lst_pages.specs.Sound.{IsPage}
use Rattle.lst_pages.specs.StateLaws.{AreNumbered}
use Rattle.lst_pages.proofs.Growing.{settled_says}
use Rattle.lst_pages.proofs.Numbering.{settled_are_numbered}
use Rattle.lst_pages.specs.declared.tails.PageTail.{PageTail}
use Rattle.lst_rule.specs.declared.store.Store.{Store}
use Rattle.lst_rule.specs.declared.view.View.{View}
use Rattle.lst_rule.specs.Rule.{knows, hosts, Allowed}
use Rattle.lst_rule.specs.Learned.{Possible}
use Rattle.lst_rule.specs.PageSteps.{stock_of, FrameLoaded}
use Rattle.lst_rule.specs.Seats.{Sitting}
use Rattle.lst_rule.specs.Statuses.{FoundSince}
use Rattle.lst_rule.specs.Stores.{IsSeatOf, Looked}
use Rattle.lst_rule.proofs.Asking.{looked_words}
use Rattle.lst_rule.proofs.Knowing.{whole_words}
use Rattle.lst_rule.proofs.Paging.{directory_is, pages_known, stock_is, pages_safe}
use Rattle.lst_merge.specs.Inspections.{merger_of, Inspects}
use Rattle.lst_merge.specs.Runs.{KnowsSettled, HasSettled, SettledAt, AreSettled, Unsettled, IsUnsettledIn, FoundUnsettled, IsRun}
use Rattle.lst_merge.proofs.Inspecting.{inspects_on, inspects_still, inspects_counter, counter_found, facts_stay}
use Rattle.lst_merge.proofs.Settling.{settles_as, settled_stays, seen_stays, has_stays}

-- ---- the page's frame

module _ (v u : View) (s r c x : ℕ) (e : s ≡ v.limits.sessions) (hosted : hosts v v.limits.sessions ≡ true) (page : IsPage v.limits r c) (looked : Looked v u s (DirectoryWord r c) x) where
  pub frame_low : x < frame_count v.limits
  frame_low = let t = looked.met.made.told in subst (λ (f : ℕ). f < frame_count v.limits) looked.met.found (t.allowed.pages.pages.places.low r c page)

  pub frame_is : x ≡ page_known (stock_of v) r c
  frame_is = let t = looked.met.made.told in sym looked.met.found ∙ sym (directory_is v t.words t.known t.merger t.allowed hosted r c page)

  pub frame_looked : Looked v u v.limits.sessions (DirectoryWord r c) x
  frame_looked = subst (λ (j : ℕ). Looked v u j (DirectoryWord r c) x) e looked

  pub inspects_page : Inspects v u v.limits.sessions
  inspects_page = inspects_still v u v.limits.sessions frame_looked.view looked.kept

-- a frame's number fits
pub frame_fits : (l : Limits) (f : ℕ) → IsValid l → f < frame_count l → f < 2 ^ 32
frame_fits l f valid low = let m : l.ranges * l.columns ≤ 64 * l.columns = mul-le-mul_right {m = l.ranges} {n = 64} l.columns valid.ranges.1 in let columns = valid.columns.1 in let spare = valid.spare.1 in omega arith

-- ---- its TPS

module _ (v u w : View) (s r c f x : ℕ) (e : s ≡ v.limits.sessions) (hosted : hosts v v.limits.sessions ≡ true) (page : IsPage v.limits r c)
    (looked : Looked v u v.limits.sessions (DirectoryWord r c) f) (is : f ≡ page_known (stock_of v) r c) (loaded : FrameLoaded u w s f 0 x) where
  stock_still : stock_of u ≡ stock_of v
  stock_still = ap (λ (l : Limits). (knows u l.sessions).pages.stock) looked.view.limits ∙ ap (λ (k : Known). k.pages.stock) looked.view.now

  pub tps_is : x ≡ tps_known (stock_of v) r c
  tps_is = loaded.own (e ∙ ap (λ (l : Limits). l.sessions) (sym looked.view.limits))
      ∙ (ap (λ (j : ℕ). frame_known (knows u j).pages.stock f 0) (e ∙ ap (λ (l : Limits). l.sessions) (sym looked.view.limits))
      ∙ (λ i. frame_known (stock_still i) (is i) 0))

  pub tps_low : x ≤ v.limits.tails
  tps_low = let t = looked.met.made.told in let listed = (pages_safe v t.words t.known t.merger t.allowed).listed r c page in
      let same : (shown v.limits t.words).frames ((shown v.limits t.words).directory r c) 0 ≡ x = sym (((pages_known v t.words t.known t.merger t.allowed).old r c page).1 0 (omega arith))
      ∙ (ap (λ m. tps_known m r c) (sym (stock_is v t.words t.known t.merger t.allowed hosted)) ∙ sym tps_is) in let few = listed.few in omega arith

  pub inspects_tps : Inspects v w v.limits.sessions
  inspects_tps = inspects_on v u w v.limits.sessions (inspects_still v u v.limits.sessions looked.view looked.kept)
      (subst (Inspects u w) e (inspects_still u w s loaded.looked.view loaded.looked.kept))

-- ---- ranges

same_range : (tails r q n : ℕ) → r * tails < q * tails + n → q * tails + n ≤ r * tails + tails → 0 < n → n ≤ tails → r ≡ q
same_range tails r q n low high some few = dite (dec_lt r q)
    (λ less. let m : suc r * tails ≤ q * tails = mul-le-mul_right {m = suc r} {n = q} tails less in let g = suc-mul r tails in absurd (omega arith))
    (λ not. dite (dec_lt q r)
    (λ more. let m : suc q * tails ≤ r * tails = mul-le-mul_right {m = suc q} {n = r} tails more in let g = suc-mul q tails in absurd (omega arith))
    (λ same. omega arith))

pub tail_few : (l : Limits) (range n : ℕ) → range < l.ranges → 0 < n → n ≤ l.tails → (0 < range * l.tails + n) × (range * l.tails + n ≤ tail_count l)
tail_few l range n low some few = let q = tail_within l range n 0 record { in_range = low; some = some; few = few; in_cell = omega arith } in (q.0, q.1)

-- ---- finds

pub finds_stay : (u v w : Known) (f : Find) (more : List Find) → w.finds ≡ v.finds ++ more → FoundSince u v f → FoundSince u w f
finds_stay u v w f more is found = (found.0 ++ more, is ∙ (ap (λ (fs : List Find). fs ++ more) found.1 ∙ append_assoc u.finds found.0 more), Contains-append_left found.0 more f found.2)

pub found_after : (u v w : Known) (f : Find) (more : List Find) → v.finds ≡ u.finds ++ more → FoundSince v w f → FoundSince u w f
found_after u v w f more is found = (more ++ found.0, found.1 ∙ (ap (λ (fs : List Find). fs ++ found.0) is ∙ append_assoc u.finds more found.0), Contains-append_right more found.0 f found.2)

unsettled_after : (u v w : Known) (t : ℕ) (more : List Find) → v.finds ≡ u.finds ++ more → FoundUnsettled v w t → FoundUnsettled u w t
unsettled_after u v w t more is (inl found) = inl (found_after u v w _ more is found)
unsettled_after u v w t more is (inr found) = inr (found.0, found.1, found.2, found_after u v w _ more is found.3)

-- ---- inspections of the merger

module _ (v a b : View) (first : Inspects v a v.limits.sessions) (next : Inspects a b a.limits.sessions) where
  pub inspects_join : Inspects v b v.limits.sessions
  inspects_join = inspects_on v a b v.limits.sessions first (subst (λ (l : Limits). Inspects a b l.sessions) first.view.limits next)

module _ (a b : View) (i : Inspects a b a.limits.sessions) where
  pub merger_later : knows b a.limits.sessions ≡ merger_of b
  merger_later = ap (λ (l : Limits). knows b l.sessions) (sym i.view.limits)

  pub merger_has : (t : ℕ) → HasSettled (merger_of a) t → HasSettled (merger_of b) t
  merger_has t h = subst (λ (k : Known). HasSettled k t) merger_later (has_stays a b a.limits.sessions i t h)

  pub merger_knows : (t : ℕ) (tail : PageTail) → KnowsSettled (merger_of a) t tail → KnowsSettled (merger_of b) t tail
  merger_knows t tail k = subst (λ (m : Known). KnowsSettled m t tail) merger_later (settled_stays a b a.limits.sessions i t tail k)

  pub merger_facts : (f : Fact) → Contains (merger_of a).facts f → Contains (merger_of b).facts f
  merger_facts f h = subst (λ (m : Known). Contains m.facts f) merger_later (facts_stay a b a.limits.sessions i f h)

  pub merger_seen : length (merger_of a).seen ≤ length (merger_of b).seen
  merger_seen = subst (λ (m : Known). length (merger_of a).seen ≤ length m.seen) merger_later (seen_stays a b a.limits.sessions i)

  pub merger_finds : (merger_of b).finds ≡ (merger_of a).finds ++ i.finds
  merger_finds = ap (λ (k : Known). k.finds) (sym merger_later) ∙ ap (λ (k : Known). k.finds) i.view.now

  pub stock_inspected : stock_of b ≡ stock_of a
  stock_inspected = ap (λ (k : Known). k.pages.stock) (sym merger_later) ∙ ap (λ (k : Known). k.pages.stock) i.view.now

  pub inspects_host : hosts a a.limits.sessions ≡ true → hosts b b.limits.sessions ≡ true
  inspects_host hosted = ap (λ (l : Limits). hosts b l.sessions) i.view.limits ∙ (ap (λ (hs : List Bool). slice_index_or hs a.limits.sessions false) i.view.hosted ∙ hosted)

  pub same_shown : b.whole ≡ true → shown b.limits b.words ≡ shown a.limits a.words
  same_shown whole = λ j. shown (i.view.limits j) (i.kept.words (sym i.view.whole ∙ whole) j)

-- ---- what the loop keeps

-- the tail counter of the range was loaded since v, and found as this
pub record WasCounted (v w : View) (range count : ℕ) : Type 0 where
  pub found : FoundSince (merger_of v) (merger_of w) (CountedTails range count)
  pub words : w.whole ≡ true → (shown w.limits w.words).counts range ≡ count

pub counted_first : (v u w : View) (s range x : ℕ) → s ≡ u.limits.sessions → Inspects v u v.limits.sessions → Looked u w s (TailCounter range) x → WasCounted v w range x
counted_first v u w s range x e first k = let i : Inspects u w s = inspects_counter u w s range x k in let j : Inspects u w u.limits.sessions = subst (Inspects u w) e i in record {
  found = found_after (merger_of v) (merger_of u) (merger_of w) (CountedTails range x) first.finds (merger_finds v u first)
      (subst (λ (z : Known × Known). FoundSince z.0 z.1 (CountedTails range x)) (λ m. (ap (knows u) e m, (ap (knows w) e ∙ merger_later u w j) m)) (counter_found u w s range x k));
  words = λ whole. ap (λ (W : Words). W.counts range) (looked_words u w s x (TailCounter range) k whole) ∙ k.met.found;
}

pub counted_stays : (v a b : View) (range count : ℕ) → Inspects a b a.limits.sessions → WasCounted v a range count → WasCounted v b range count
counted_stays v a b range count i was = record {
  found = finds_stay (merger_of v) (merger_of a) (merger_of b) (CountedTails range count) i.finds (merger_finds a b i) was.found;
  words = λ whole. ap (λ (W : Words). W.counts range) (same_shown a b i whole) ∙ was.words (sym i.view.whole ∙ whole);
}

pub record EndsOn (store : Store) (v : View) (seat : Sitting) (range column tps count n : ℕ) : Type 0 where
  pub is : IsSeatOf store seat
  pub inspects : Inspects v seat.view v.limits.sessions
  pub at : tps ≡ tps_known (stock_of v) range column
  pub from : tps ≤ n
  pub few : n ≤ v.limits.tails
  pub settled : AreSettled v.limits (merger_of seat.view) range tps n
  pub counted : WasCounted v seat.view range count

pub ends_first : (store : Store) (v : View) (a b : Sitting) (s range column tps x : ℕ) → s ≡ a.view.limits.sessions → Inspects v a.view v.limits.sessions → tps ≡ tps_known (stock_of v) range column → tps ≤ v.limits.tails → IsSeatOf store b → Looked a.view b.view s (TailCounter range) x
    → EndsOn store v b range column tps x tps
ends_first store v a b s range column tps x e first at few is k = record {
  is = is;
  inspects = inspects_join v a.view b.view first (subst (Inspects a.view b.view) e (inspects_counter a.view b.view s range x k));
  at = at;
  from = omega arith;
  few = few;
  settled = λ i above below. absurd (omega arith);
  counted = counted_first v a.view b.view s range x e first k;
}

module _ (store : Store) (v : View) (a : Sitting) (range column tps count n : ℕ) (on : EndsOn store v a range column tps count n) where
  pub ends_host : hosts v v.limits.sessions ≡ true → hosts a.view a.view.limits.sessions ≡ true
  ends_host hosted = inspects_host v a.view on.inspects hosted

  pub same_tails : store.layout.limits.tails ≡ v.limits.tails
  same_tails = ap (λ (l : Limits). l.tails) (sym on.is.limits ∙ on.inspects.view.limits)

  pub last_low : (layout : Layout) (last : ℕ) → layout ≡ store.layout → last ≤ layout.limits.tails → last ≤ v.limits.tails
  last_low layout last is low = subst (λ (t : ℕ). last ≤ t) (ap (λ (y : Layout). y.limits.tails) is ∙ same_tails) low

  pub last_full : (layout : Layout) (last : ℕ) → layout ≡ store.layout → (count ≤ last) ⊎ (layout.limits.tails ≤ last) → (count ≤ last) ⊎ (v.limits.tails ≤ last)
  last_full layout last is full = subst (λ (t : ℕ). (count ≤ last) ⊎ (t ≤ last)) (ap (λ (y : Layout). y.limits.tails) is ∙ same_tails) full

  module _ (b : Sitting) (is : IsSeatOf store b) (i : Inspects a.view b.view a.view.limits.sessions) where
    pub ends_next : n < v.limits.tails → HasSettled (merger_of b.view) (range * store.layout.limits.tails + (n + 1)) → EndsOn store v b range column tps count (n + 1)
    ends_next low settled = record {
      is = is;
      inspects = inspects_join v a.view b.view on.inspects i;
      at = on.at;
      from = let from = on.from in omega arith;
      few = omega arith;
      settled = λ m above below. dite (ℕ_discrete m (n + 1))
          (λ e. subst (λ (z : ℕ × ℕ). HasSettled (merger_of b.view) (range * z.0 + z.1)) (λ j. (same_tails j, sym e j)) settled)
          (λ ne. merger_has a.view b.view i (range * v.limits.tails + m) (on.settled m above (omega arith)));
      counted = counted_stays v a.view b.view range count i on.counted;
    }

    pub ends_kept : EndsOn store v b range column tps count n
    ends_kept = record {
      is = is;
      inspects = inspects_join v a.view b.view on.inspects i;
      at = on.at;
      from = on.from;
      few = on.few;
      settled = λ m above below. merger_has a.view b.view i (range * v.limits.tails + m) (on.settled m above below);
      counted = counted_stays v a.view b.view range count i on.counted;
    }

  -- ---- how many tails are settled, where the view knows each word

  module _ (hosted : hosts v v.limits.sessions ≡ true) (page : IsPage v.limits range column) (p : Possible a.view) where
    abbrev W : Words
    W = shown a.view.limits a.view.words

    there : hosts a.view a.view.limits.sessions ≡ true
    there = ends_host hosted

    module _ (whole : a.view.whole ≡ true) where
      may : Allowed a.view a.view.words p.known p.merger
      may = whole_words a.view p.words p.known p.merger p.allowed whole

      numbered : AreNumbered a.view.limits W range
      numbered = settled_are_numbered a.view.limits W range

      tps_settled : tps ≤ length (settled_tails a.view.limits W range)
      tps_settled = let old = ((pages_known a.view a.view.words p.known p.merger may).old range column (subst (λ (l : Limits). IsPage l range column) (sym on.inspects.view.limits) page)).0.settled in
          let same : tps_known p.merger.pages.stock range column ≡ tps = ap (λ m. tps_known m range column) (sym (stock_is a.view a.view.words p.known p.merger may there) ∙ stock_inspected v a.view on.inspects) ∙ sym on.at in omega arith

      same_limit : a.view.limits.tails ≡ v.limits.tails
      same_limit = ap (λ (l : Limits). l.tails) on.inspects.view.limits

      settled_least : n ≤ length (settled_tails a.view.limits W range)
      settled_least = let few = on.few in let e = same_limit in numbered.more tps n tps_settled (omega arith)
          (λ k above below. let h = on.settled k above below in subst (λ (t : ℕ). is_settled W (range * t + k) ≡ true) (sym same_limit)
          (settles_as a.view a.view.words p.known p.merger may a.view.limits.sessions there (range * v.limits.tails + k) h.0 h.1).settled)

      settled_most : (is_settled W (range * v.limits.tails + (n + 1)) ≡ true → ⊥) → n ≡ length (settled_tails a.view.limits W range)
      settled_most none = dite (dec_lt n (length (settled_tails a.view.limits W range)))
          (λ more. absurd (none (subst (λ (t : ℕ). is_settled W (range * t + (n + 1)) ≡ true) same_limit (numbered.each (n + 1) (omega arith) (omega arith)))))
          (λ not. let least = settled_least in omega arith)

      -- none is beyond the tail counter
      settled_drawn : range < v.limits.ranges → count ≤ n → n < v.limits.tails → is_settled W (range * v.limits.tails + (n + 1)) ≡ true → ⊥
      settled_drawn low drawn short so = let t : ℕ = range * v.limits.tails + (n + 1) in let some = (settled_says W t so).0 in
          let stored = (may.sound.versions.stored t some).drawn in let e = same_limit in
          let r : ℕ = range_of (record_in a.view.limits W.cells t) in
          let tails : ℕ = v.limits.tails in
          let here = subst (λ (m : ℕ). (r * m < t) × (t ≤ r * m + m) × (t ≤ r * m + W.counts r)) same_limit stored in
          let same : r ≡ range = same_range tails r range (n + 1) here.0 here.1 (omega arith) (omega arith) in
          let last : t ≤ range * tails + W.counts range = subst (λ (q : ℕ). t ≤ q * tails + W.counts q) same here.2 in
          let counts : W.counts range ≡ count = on.counted.words whole in absurd (omega arith)

    pub run_at_last : (last : ℕ) → (count ≤ last) ⊎ (v.limits.tails ≤ last) → last ≤ n → IsRun v a.view range column record { tps = tps; end = n }
    run_at_last last full past = record {
      tps = on.at;
      from = on.from;
      few = on.few;
      settled = on.settled;
      stops = inl (count, on.counted.found, ⊎_elim (λ (h : count ≤ last). inl (omega arith)) (λ (h : v.limits.tails ≤ last). inr (omega arith)) full);
      whole = λ whole. dite (dec_lt n v.limits.tails)
          (λ short. settled_most whole (λ yes. settled_drawn whole page.0 (⊎_elim (λ (h : count ≤ last). omega arith) (λ (h : v.limits.tails ≤ last). absurd (omega arith)) full) short yes))
          (λ not. let least = settled_least whole in let most = (numbered whole).few in let e = same_limit whole in let few = on.few in omega arith);
    }

    pub run_at_stop : FoundUnsettled (merger_of v) (merger_of a.view) (range * v.limits.tails + (n + 1)) → IsUnsettledIn a.view (range * v.limits.tails + (n + 1)) → IsRun v a.view range column record { tps = tps; end = n }
    run_at_stop found unsettled = record {
      tps = on.at;
      from = on.from;
      few = on.few;
      settled = on.settled;
      stops = inr found;
      whole = λ whole. settled_most whole (λ yes. true≢false (sym yes ∙ unsettled whole));
    }

pub run_stops : (store : Store) (v : View) (a b : Sitting) (range column tps count n : ℕ) → EndsOn store v a range column tps count n → IsSeatOf store b → Inspects a.view b.view a.view.limits.sessions → hosts v v.limits.sessions ≡ true → IsPage v.limits range column → Possible b.view
    → Unsettled a.view b.view (range * store.layout.limits.tails + (n + 1)) → IsRun v b.view range column record { tps = tps; end = n }
run_stops store v a b range column tps count n on is i hosted page p unsettled = let here = subst (λ (t : ℕ). Unsettled a.view b.view (range * t + (n + 1))) (same_tails store v a range column tps count n on) unsettled in
    run_at_stop store v b range column tps count n (ends_kept store v a range column tps count n on b is i) hosted page p
    (unsettled_after (merger_of v) (merger_of a.view) (merger_of b.view) (range * v.limits.tails + (n + 1)) on.inspects.finds (merger_finds v a.view on.inspects) here.found) here.words

-- ---- an answer that may be none

pub some_then : (P : ℕ → Type 0) (x : Option ℕ) → is_some x ≡ true → IfSome x P → (time : ℕ) × P time
some_then P None e h = absurd (true≢false (sym e))
some_then P (Some time) e h = (time, h)

pub none_then : (P : Type 0) (x : Option ℕ) → is_some x ≡ false → IfNone x P → P
none_then P None e h = h
none_then P (Some time) e h = absurd (true≢false e)

pub settled_at : (k : Known) (t u time : ℕ) → t ≡ u → (time < 2 ^ 63) × SettledAt k t time → HasSettled k u
settled_at k t u time e h = (h.1.0, subst (λ (z : ℕ). KnowsSettled k z h.1.0) e h.1.2)
