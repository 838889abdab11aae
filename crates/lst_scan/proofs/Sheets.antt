-- Scans of a range by the page of a column.
use Rattle.std.proofs.Common.{◌≡◌, ℕ, zero, suc, ◌+◌, ◌-◌, ◌*◌, ◌/◌, ◌%◌, ◌<◌, ◌≤◌, List, [], ◌∷◌, ◌++◌, Bool, true, false, cond, ◌&&◌, le-leb, length, sum, take, count_by, slice_index, slice_index_or, get_or, Fits, w64, refl, sym, subst, ap, ◌∙◌, arith, true≢false}
use Rattle.std.specs.Prelude.{Option, Some, None, unwrap_or, slice_set}
use Rattle.std.proofs.lemmas.List.{take_more, take_all, get_or-set_same, get_or-set_other, length-set}
use Rattle.std.proofs.lemmas.List.Sums.{sum_by-cons, sum_by-append}
use lib.Lanes.{sum_l}
use Rattle.lst_layout.specs.declared.TheConstants.{RANGE_RECORDS, FRAME_TIMES}
use Rattle.lst_layout.specs.declared.limits.Limits.{Limits}
use Rattle.lst_layout.specs.declared.place.Place.{Place}
use Rattle.lst_layout.specs.declared.place.Place.TheVariants.{HeadWord, FrameWord}
use Rattle.lst_layout.specs.Addresses as layout
use Rattle.lst_layout.specs.Areas.{frame_count}
use Rattle.lst_layout.specs.Words.{shown}
use Rattle.lst_layout.proofs.Functions.{get-listed, length-listed}
use Rattle.std.proofs.lemmas.Grind.{same_number_lists}
use Rattle.lst_bits.specs.Heads.{IsHeadWord}
use Rattle.lst_bits.specs.Times.{time_of, is_present}
use Rattle.lst_kernel.specs.Entries.{is_seen, seen_values, lane_of}
use Rattle.lst_kernel.proofs.Sums.{seen_up_to, one_more, at_end, all_low}
use Rattle.lst_model.specs.Cells.{Cell, number_at}
use Rattle.lst_model.specs.Tables.{Rows, count_of}
use Rattle.lst_core_state.specs.declared.known.Known.{Known}
use Rattle.lst_core_state.specs.declared.pages.PageKnown.{PageKnown}
use Rattle.lst_core_state.specs.Cells.{record_count, range_of}
use Rattle.lst_core_state.specs.State.{state_over}
use Rattle.lst_pack.specs.Forms.{Packs, IsPacked}
use Rattle.lst_pages.specs.Frames.{tps_in, stamp_in, packed_in}
use Rattle.lst_pages.specs.Pages.{IsRightPage}
use Rattle.lst_pages.specs.Runs.{IsReadable}
use Rattle.lst_pages.specs.Known.{pages_in}
use Rattle.lst_pages.specs.Settled.{settled_tails}
use Rattle.lst_pages.specs.State.{hand_of}
use Rattle.lst_rule.specs.declared.runs.Run.TheVariants.{Times, Heads}
use Rattle.lst_rule.specs.declared.view.View.{View}
use Rattle.lst_rule.specs.declared.store.Store.{Store}
use Rattle.lst_rule.specs.Rule.{knows, hosts}
use Rattle.lst_rule.specs.Learned.{Possible}
use Rattle.lst_rule.specs.Seats.{Sitting}
use Rattle.lst_rule.specs.Stores.{IsSeatOf, Looked}
use Rattle.lst_rule.specs.PageSteps.{FrameLoaded}
use Rattle.lst_rule.specs.Runs.{LoadsRun, FrameRun, HeadRun}
use Rattle.lst_rule.proofs.Paging.{hand_is_readable}
use Rattle.lst_rule.specs.Loads.{ChainFound}
use Rattle.lst_rule.specs.Watching.{Watched, IsWatched}
use Rattle.lst_rule.proofs.Watching.{watched_same, watches_join, watchers_keep}
use Rattle.lst_walk.specs.Readers.{IsReader}
use Rattle.lst_walk.specs.Packed.{Skims, skims_on, packed_of, packed_words}
use Rattle.lst_walk.specs.Pages.{IsPageOf}
use Rattle.lst_walk.specs.Patches.{cell_in}
use Rattle.lst_walk.specs.Walks.{IsCellOf, CellWalk, Serves}
use Rattle.lst_walk.specs.Chains.{CellAhead, CellBy}
use Rattle.lst_walk.proofs.Ahead.{ahead_stays, ahead_low}
use Rattle.lst_walk.proofs.Reading.{reader_on, looked_watched, looked_possible}
use Rattle.lst_walk.proofs.Loading.{frame_skims}
use Rattle.lst_walk.proofs.Meanings.{head_found}
use Rattle.lst_walk.proofs.Walking.{cell_start, cell_stays}
use Rattle.lst_walk.proofs.Paging.{page_shows, page_absent}
use Rattle.lst_scan.specs.Scans.{table_seen, IsRowOn, IsCellOn, Places, between}
use Rattle.lst_scan.specs.Paged.{stamps_of, IsInHand, HasPage, HasValues, entries_add}
use Rattle.lst_scan.proofs.Loops.{Scans, scans_start, scans_next}
use Rattle.lst_scan.proofs.Parts.{total, total_none, total_split}
use Rattle.lst_scan.proofs.Seeing.{cell_on, same_table, places_stay, weight_of, total_on, number_weight, one_weight, no_weight}

-- ---- many loads

hosted_by : (v w : View) (s : ℕ) → Watched v w s → hosts v s ≡ true → hosts w s ≡ true
hosted_by v w s watched host = ap (λ (hs : List Bool). slice_index_or hs s false) watched.learns.hosted ∙ host

module _ (s : ℕ) (at : ℕ → View) (place : ℕ → Place) (x : ℕ → ℕ) (n : ℕ) (each : (i : ℕ) → i < n → Looked (at i) (at (i + 1)) s (place i) (x i)) (host : hosts (at 0) s ≡ true)
    (inside : (i : ℕ) → i < n → layout.IsWithin (at 0).limits (place i)) (is : (i : ℕ) → IsWatched (place i)) where
  pub looks_watched : (i : ℕ) → i ≤ n → Watched (at 0) (at i) s
  looks_watched zero few = watched_same (at 0) s
  looks_watched (suc i) few = let before = looks_watched i (omega arith) in let next : i + 1 ≡ suc i = omega arith in
      subst (λ (j : ℕ). Watched (at 0) (at j) s) next (watches_join (at 0) (at i) (at (i + 1)) s before
      (looked_watched (at i) (at (i + 1)) s (x i) (place i) (hosted_by (at 0) (at i) s before host) (subst (λ (l : Limits). layout.IsWithin l (place i)) (sym before.learns.limits) (inside i (omega arith))) (is i) (each i (omega arith))))

pub times_skim : (v w : View) (s f : ℕ) (found : ℕ → ℕ) → hosts v s ≡ true → f < frame_count v.limits → LoadsRun (Times f) found v s RANGE_RECORDS w → FrameRun v w s f FRAME_TIMES found → Skims v w s
times_skim v w s f found host low loads is = record {
  watched = subst (λ (u : View). Watched u w s) loads.first (subst (λ (u : View). Watched (loads.between 0) u s) loads.last
      (looks_watched s loads.between (λ i. FrameWord f (FRAME_TIMES + i)) found RANGE_RECORDS loads.each (subst (λ (u : View). hosts u s ≡ true) (sym loads.first) host)
      (λ i short. (subst (λ (u : View). f < frame_count u.limits) (sym loads.first) low, (omega arith))) (λ i. tt) RANGE_RECORDS (omega arith)));
  finds = ap (λ (k : Known). k.finds) is.view.now;
}

pub heads_skim : (v w : View) (s range : ℕ) (found : ℕ → ℕ) → hosts v s ≡ true → range < v.limits.ranges → LoadsRun (Heads range) found v s RANGE_RECORDS w → HeadRun v w s → Skims v w s
heads_skim v w s range found host low loads is = record {
  watched = subst (λ (u : View). Watched u w s) loads.first (subst (λ (u : View). Watched (loads.between 0) u s) loads.last
      (looks_watched s loads.between (λ i. HeadWord (RANGE_RECORDS * range + i)) found RANGE_RECORDS loads.each (subst (λ (u : View). hosts u s ≡ true) (sym loads.first) host)
      (λ i short. subst (λ (u : View). RANGE_RECORDS * range + i < record_count u.limits) (sym loads.first) (omega arith)) (λ i. tt) RANGE_RECORDS (omega arith)));
  finds = ap (λ (k : Known). k.finds) is.view.now;
}

-- ---- the page in hand

pub hand_low : (v : View) (s range column frame : ℕ) → Possible v → hosts v s ≡ true → s < v.limits.sessions → IsInHand v s range column frame → frame < frame_count v.limits
hand_low v s range column frame p host low has = (hand_is_readable v p.words p.known p.merger p.allowed s host low frame has.1.page has.1.in_hand).frame

-- its packed words
pub hand_packed : (v : View) (s range column frame : ℕ) → Possible v → hosts v s ≡ true → s < v.limits.sessions → IsInHand v s range column frame → IsPacked (packed_words v s frame)
hand_packed v s range column frame p host low has = let r = hand_is_readable v p.words p.known p.merger p.allowed s host low frame has.1.page has.1.in_hand in
    (r.right.entries.values, subst (λ (ws : List ℕ). Packs ws r.right.entries.values) (sym (ap packed_of has.1.in_hand)) r.right.entries.packed)

-- it stays in hand where nothing is learnt
abbrev pub hand_kept : (v w : View) (s range column frame : ℕ) → knows w s ≡ knows v s → IsInHand v s range column frame → IsInHand w s range column frame
hand_kept v w s range column frame same has = (has.0, record { page = has.1.page; in_hand = ap (λ (k : Known). hand_of k.pages.session frame) same ∙ has.1.in_hand; names = has.1.names; tps = has.1.tps }, has.2)

pub stamps_skim : (v a w : View) (s frame tps : ℕ) (found : ℕ → ℕ) → hosts v s ≡ true → frame < frame_count v.limits → FrameLoaded v a s frame 0 tps → LoadsRun (Times frame) found a s RANGE_RECORDS w → FrameRun a w s frame FRAME_TIMES found → Skims v w s
stamps_skim v a w s frame tps found host low lineage loads run = let va : Skims v a s = frame_skims v a s frame 0 tps lineage host low (omega arith) in
    skims_on v a w s va (times_skim a w s frame found (hosted_by v a s va.watched host) (subst (λ (l : Limits). frame < frame_count l) (sym va.watched.learns.limits) low) loads run)

stamps_are : (stamps : List ℕ) (words : ℕ → ℕ) → length stamps ≡ RANGE_RECORDS → ((i : ℕ) → i < RANGE_RECORDS → slice_index stamps i ≡ words (FRAME_TIMES + i)) → stamps ≡ stamps_of words
stamps_are stamps words wide are = same_number_lists stamps (stamps_of words) (wide ∙ sym (length-listed words FRAME_TIMES RANGE_RECORDS)) (λ i low. are i (omega arith) ∙ sym (get-listed words FRAME_TIMES RANGE_RECORDS i 0 (omega arith)))

-- its TPS was loaded, and then its time words
module _ (v a w : View) (s range column frame tps : ℕ) (stamps : List ℕ) (low : s < v.limits.sessions) (low_a : s < a.limits.sessions) (has : IsInHand v s range column frame) (lineage : FrameLoaded v a s frame 0 tps) (wide : length stamps ≡ RANGE_RECORDS) (found : FrameRun a w s frame FRAME_TIMES (slice_index stamps)) where
  in_hand_a : hand_of (knows a s).pages.session frame ≡ Some has.1.page
  in_hand_a = ap (λ (k : Known). hand_of k.pages.session frame) lineage.looked.view.now ∙ has.1.in_hand

  pub stamps_loaded : HasPage w s range column tps stamps
  stamps_loaded = record {
    frame = frame;
    keeps = record {
      page = has.1.page;
      in_hand = ap (λ (k : Known). hand_of k.pages.session frame) found.view.now ∙ in_hand_a;
      names = has.1.names;
      tps = lineage.in_hand low has.1.page has.1.in_hand;
    };
    some = (let a : tps ≡ tps_in (slice_index has.1.page.words) = lineage.in_hand low has.1.page has.1.in_hand in let b = has.1.tps in let c = has.2 in omega arith);
    are = stamps_are stamps (slice_index has.1.page.words) wide (λ i short. found.in_hand low_a has.1.page in_hand_a i short);
  }

  -- and its values were unpacked
  pub stamps_values : (values : List ℕ) → ((others : List ℕ) → Packs (packed_words v s frame) others → values ≡ others) → HasValues stamps_loaded values
  unfolding stamps_loaded
  stamps_values values unpacked others packs = unpacked others (subst (λ (ws : List ℕ). Packs ws others) (sym (ap packed_of has.1.in_hand)) packs)

-- ---- what the page tells

and_true : (b : Bool) → (b && true) ≡ b
and_true true = refl
and_true false = refl

module _ (store : Store) (h : Sitting) (s range column tps : ℕ) (stamps : List ℕ) (p : Possible h.view) (reader : IsReader store h s) (low : range < store.layout.limits.ranges) (short : column < store.layout.limits.columns) (page : HasPage h.view s range column tps stamps)
    (heads : ℕ → ℕ) (w : View) (run : LoadsRun (Heads range) heads h.view s RANGE_RECORDS w) where
  abbrev v : View
  v = h.view

  abbrev record_at : ℕ → ℕ
  record_at i = RANGE_RECORDS * range + i

  -- ---- the views between

  abbrev IsHere : View → Type 0
  IsHere u = Possible u × Watched v u s × ((knows u s).pages ≡ (knows v s).pages)

  inside : (i : ℕ) → i < RANGE_RECORDS → (u : View) → IsHere u → record_at i < record_count u.limits
  inside i few u here = subst (λ (l : Limits). record_at i < record_count l) (sym (here.1.learns.limits ∙ reader.seat_of.limits)) (omega arith)

  next_here : (i : ℕ) → i < RANGE_RECORDS → IsHere (run.between i) → IsHere (run.between (i + 1))
  next_here i few here = let looked : Looked (run.between i) (run.between (i + 1)) s (HeadWord (record_at i)) (heads i) = run.each i few in (
    looked_possible (run.between i) (run.between (i + 1)) s (heads i) (HeadWord (record_at i)) looked,
    watches_join v (run.between i) (run.between (i + 1)) s here.1 (looked_watched (run.between i) (run.between (i + 1)) s (heads i) (HeadWord (record_at i)) (hosted_by v (run.between i) s here.1 reader.host) (inside i few (run.between i) here) tt looked),
    ap (λ (k : Known). k.pages) looked.view.now ∙ here.2,
  )

  here_at : (i : ℕ) → i ≤ RANGE_RECORDS → IsHere (run.between i)
  here_at zero few = subst (λ (u : View). IsHere u) (sym run.first) (p, watched_same v s, refl)
  here_at (suc i) few = let next : i + 1 ≡ suc i = omega arith in subst (λ (j : ℕ). IsHere (run.between j)) next (next_here i (omega arith) (here_at i (omega arith)))

  -- from one of them to the last one the session has only looked
  rest_watched : (n i : ℕ) → n + i ≡ RANGE_RECORDS → Watched (run.between i) w s
  rest_watched zero i end = let here : i ≡ RANGE_RECORDS = omega arith in subst (λ (u : View). Watched (run.between i) u s) (ap run.between here ∙ run.last) (watched_same (run.between i) s)
  rest_watched (suc n) i end = let here : IsHere (run.between i) = here_at i (omega arith) in watches_join (run.between i) (run.between (i + 1)) w s
      (looked_watched (run.between i) (run.between (i + 1)) s (heads i) (HeadWord (record_at i)) (hosted_by v (run.between i) s here.1 reader.host) (inside i (omega arith) (run.between i) here) tt (run.each i (omega arith)))
      (rest_watched n (i + 1) (omega arith))

  end_watched : (i : ℕ) → i ≤ RANGE_RECORDS → Watched (run.between i) w s
  end_watched i few = rest_watched (RANGE_RECORDS - i) i (omega arith)

  -- a seat of the store with such a view
  abbrev seat_at : View → Sitting
  seat_at u = record { table = store.table.shared.table_id; view = u; note_time = 0 }

  reader_at : (u : View) → IsHere u → IsReader store (seat_at u) s
  reader_at u here = let same : u.limits ≡ store.layout.limits = here.1.learns.limits ∙ reader.seat_of.limits in reader_on store h (seat_at u) s reader here.1 record {
    table = refl;
    limits = same;
    sized = here.0.allowed.sized ∙ ap (λ (l : Limits). l.sessions + 1) same;
    low = λ t on. subst (λ (l : Limits). t ≤ l.sessions) same (here.0.allowed.low t on);
  }

  -- ---- a record whose indirection word was loaded

  module _ (i : ℕ) (few : i < RANGE_RECORDS) where
    abbrev a : View
    a = run.between i

    abbrev b : View
    b = run.between (i + 1)

    abbrev rec : ℕ
    rec = RANGE_RECORDS * range + i

    here_a : IsHere (run.between i)
    here_a = here_at i (omega arith)

    here_b : IsHere (run.between (i + 1))
    here_b = here_at (i + 1) (omega arith)

    reader_b : IsReader store (seat_at (run.between (i + 1))) s
    reader_b = reader_at (run.between (i + 1)) here_b

    chain : ChainFound store.layout.limits (knows (run.between (i + 1)) s) s (RANGE_RECORDS * range + i) (heads i / 2)
    chain = head_found a b s rec (heads i) store.layout.limits (here_a.1.learns.limits ∙ reader.seat_of.limits) (run.each i few).view.limits (hosted_by v a s here_a.1 reader.host) (omega arith) (run.each i few)

    abbrev walk : CellWalk store h.view (seat_at (run.between (i + 1))) s (RANGE_RECORDS * range + i) column (heads i / 2)
    walk = cell_start store v (seat_at b) s rec (heads i / 2) p reader.host reader.opened reader_b here_b.1 here_b.0 chain column

    -- a walk from the number that it was found to have may begin later
    head_ahead : (e : Sitting) → e.view ≡ w → IsReader store e s → CellAhead store h.view e s (RANGE_RECORDS * range + i) column (heads i / 2)
    head_ahead e at here = record {
      host = reader.host;
      opened = reader.opened;
      walk = cell_stays store v (seat_at b) e s rec column (heads i / 2) walk (subst (λ (u : View). Watched b u s) (sym at) (end_watched (i + 1) (omega arith))) here;
    }

    -- ---- where the page tells of it

    module _ (folded : heads i / 2 ≤ tps) (early : time_of (slice_index stamps i) ≤ (knows h.view s).begin) where
      abbrev words : ℕ → ℕ
      words = slice_index page.keeps.page.words

      hand_b : hand_of (knows (run.between (i + 1)) s).pages.session page.frame ≡ Some page.keeps.page
      hand_b = ap (λ (q : PageKnown). hand_of q.session page.frame) here_b.2 ∙ page.keeps.in_hand

      readable : IsReadable (pages_in (state_over (run.between (i + 1)).limits here_b.0.words here_b.0.known here_b.0.merger)) page.frame page.keeps.page
      readable = hand_is_readable b here_b.0.words here_b.0.known here_b.0.merger here_b.0.allowed s reader_b.host reader_b.own page.frame page.keeps.page hand_b

      here_range : page.keeps.page.range ≡ range_of (RANGE_RECORDS * range + i)
      here_range = page.keeps.names.0 ∙ (omega arith)

      abbrev is_page : IsPageOf (run.between (i + 1)) (RANGE_RECORDS * range + i) column (slice_index page.keeps.page.words)
      is_page = record {
        now = here_b.0;
        right = subst (λ (r : ℕ). IsRightPage column (settled_tails b.limits (shown b.limits here_b.0.words) r) words) here_range (subst (λ (c : ℕ). IsRightPage c (settled_tails b.limits (shown b.limits here_b.0.words) page.keeps.page.range) words) page.keeps.names.1 readable.right);
      }

      slot_is : (RANGE_RECORDS * range + i) % 256 ≡ i
      slot_is = omega arith

      stamp_is : slice_index stamps i ≡ stamp_in (slice_index page.keeps.page.words) ((RANGE_RECORDS * range + i) % 256)
      stamp_is = ap (λ (xs : List ℕ). slice_index xs i) page.are ∙ (get-listed words FRAME_TIMES RANGE_RECORDS i 0 few ∙ ap (λ (n : ℕ). stamp_in words n) (sym slot_is))

      abbrev serves : Serves h.view (run.between (i + 1)) s (RANGE_RECORDS * range + i) column (walk.passed ++ walk.versions) record { frame = page.frame; until = tps; is_present = is_present (slice_index stamps i) }
      serves = record {
        between = b;
        before = here_b.1;
        after = watched_same b s;
        words = words;
        page = is_page;
        head = walk.passes.head;
        copied = walk.passes.copy;
        is = record { until = page.keeps.tps; timely = subst (λ (n : ℕ). time_of n ≤ (knows v s).begin) stamp_is early; present = ap (λ (n : ℕ). is_present n) stamp_is };
        low = readable.frame;
        in_hand = record { page = page.keeps.page; in_hand = hand_b; same = λ n few. refl };
      }

      -- ---- what it tells

      abbrev values : List ℕ
      values = is_page.right.entries.values

      pub told_values : List ℕ
      told_values = is_page.right.entries.values

      pub told_packed : Packs (packed_in (slice_index page.keeps.page.words)) told_values
      unfolding told_values
      told_packed = is_page.right.entries.packed

      pub told_cell : IsCellOn (knows h.view s) (RANGE_RECORDS * range + i) column (cond (is_present (slice_index stamps i)) (Some (slice_index told_values i)) None)
      unfolding told_values
      told_cell = cell_on v s rec column (cond (is_present (slice_index stamps i)) (Some (slice_index values i)) None) (choose (is_present (slice_index stamps i)) refl)
        where
          choose : (there : Bool) → is_present (slice_index stamps i) ≡ there → IsCellOf v s rec column (cond there (Some (slice_index values i)) None)
          choose true there = subst (λ (n : ℕ). IsCellOf v s rec column (Some (slice_index values n))) slot_is (page_shows store v (seat_at b) s rec column (heads i / 2) record { frame = page.frame; until = tps; is_present = is_present (slice_index stamps i) } reader.host reader.opened short walk serves folded there)
          choose false there = page_absent store v (seat_at b) s rec column (heads i / 2) record { frame = page.frame; until = tps; is_present = is_present (slice_index stamps i) } reader.host reader.opened short walk serves folded there

-- ---- walks from the numbers that indirection words were found to have

-- those of the range's records may begin
abbrev pub AreAhead : (store : Store) (v : View) (seat : Sitting) (s range column : ℕ) → (ℕ → ℕ) → Type 0
AreAhead store v seat s range column heads = (i : ℕ) → i < RANGE_RECORDS → CellAhead store v seat s (RANGE_RECORDS * range + i) column (heads i / 2)

pub ahead_start : (store : Store) (h e : Sitting) (s range column tps : ℕ) (stamps : List ℕ) → Possible h.view → IsReader store h s → range < store.layout.limits.ranges → column < store.layout.limits.columns → HasPage h.view s range column tps stamps
    → (heads : ℕ → ℕ) (w : View) → LoadsRun (Heads range) heads h.view s RANGE_RECORDS w → e.view ≡ w → IsReader store e s → AreAhead store h.view e s range column heads
ahead_start store h e s range column tps stamps p reader low short page heads w run at here i few = head_ahead store h s range column tps stamps p reader low short page heads w run i few e at here

-- after further looks they still may
pub ahead_on : (store : Store) (v : View) (a b : Sitting) (s range column : ℕ) (heads : ℕ → ℕ) → AreAhead store v a s range column heads → Watched a.view b.view s → IsReader store b s → AreAhead store v b s range column heads
ahead_on store v a b s range column heads ahead more reader i few = ahead_stays store v a b s (RANGE_RECORDS * range + i) column (heads i / 2) more reader (ahead i few)

-- the words are packed as they should be
pub ahead_packed : (store : Store) (v : View) (seat : Sitting) (s range column : ℕ) (heads : ℕ → ℕ) → AreAhead store v seat s range column heads → (i : ℕ) → i < RANGE_RECORDS → IsHeadWord (heads i)
ahead_packed store v seat s range column heads ahead i few = let low = ahead_low store v seat s (RANGE_RECORDS * range + i) column (heads i / 2) (ahead i few) in let valid = store.layout.valid.tails.1 in omega arith

-- a number that a word was unpacked to is where such a walk may begin
pub ahead_at : (store : Store) (v : View) (seat : Sitting) (s range column : ℕ) (heads : ℕ → ℕ) → AreAhead store v seat s range column heads → (i n : ℕ) → i < RANGE_RECORDS → n ≡ heads i / 2 → CellAhead store v seat s (RANGE_RECORDS * range + i) column n
ahead_at store v seat s range column heads ahead i n few is = subst (λ (m : ℕ). CellAhead store v seat s (RANGE_RECORDS * range + i) column m) (sym is) (ahead i few)

-- and what it found is the cell of a row
pub ahead_cell : (store : Store) (v w : View) (a : Sitting) (s range column : ℕ) (heads : ℕ → ℕ) → AreAhead store v a s range column heads → (i n : ℕ) → i < RANGE_RECORDS → n ≡ heads i / 2 → (found : Option ℕ)
    → ((u : View) → CellAhead store u a s (RANGE_RECORDS * range + i) column n → CellBy u w s (RANGE_RECORDS * range + i) column found) → IsCellOn (knows v s) (RANGE_RECORDS * range + i) column found
ahead_cell store v w a s range column heads ahead i n few is found told = cell_on v s (RANGE_RECORDS * range + i) column found (told v (ahead_at store v a s range column heads ahead i n few is)).cell

-- ---- what entries add

pub add_none : (begin : ℕ) (value : ℕ → ℕ) (times : List ℕ) → entries_add begin value times 0 ≡ 0
unfolding entries_add
add_none begin value times = refl

pub add_more : (begin : ℕ) (value : ℕ → ℕ) (times : List ℕ) (n : ℕ) → entries_add begin value times (n + 1) ≡ entries_add begin value times n + lane_of begin (value n) (slice_index times n)
unfolding entries_add
add_more begin value times n = let next : n + 1 ≡ suc n = omega arith in ap (λ (m : ℕ). entries_add begin value times m) next ∙ more
  where
    more : entries_add begin value times (suc n) ≡ entries_add begin value times n + lane_of begin (value n) (slice_index times n)
    more = refl

-- a later entry doesn't count
add_same : (begin : ℕ) (value : ℕ → ℕ) (times : List ℕ) (i x n : ℕ) → n ≤ i → entries_add begin value (slice_set times i x) n ≡ entries_add begin value times n
add_same begin value times i x zero low = add_none begin value (slice_set times i x) ∙ sym (add_none begin value times)
add_same begin value times i x (suc n) low = let next : suc n ≡ n + 1 = omega arith in
    ap (λ (m : ℕ). entries_add begin value (slice_set times i x) m) next ∙ (add_more begin value (slice_set times i x) n ∙ ((λ j. add_same begin value times i x n (omega arith) j + lane_of begin (value n) (get_or-set_other times i n x 0 (omega arith) j))
    ∙ (sym (add_more begin value times n) ∙ ap (λ (m : ℕ). entries_add begin value times m) (sym next))))

-- once one more time word was put
pub add_put : (begin : ℕ) (value : ℕ → ℕ) (times : List ℕ) (i x : ℕ) → i < length times → entries_add begin value (slice_set times i x) (i + 1) ≡ entries_add begin value times i + lane_of begin (value i) x
add_put begin value times i x low = add_more begin value (slice_set times i x) i ∙ (λ j. add_same begin value times i x i (omega arith) j + lane_of begin (value i) (get_or-set_same times i x 0 low j))

-- an entry of the begin or earlier adds what is there
lane_told : (begin value stamp : ℕ) → time_of stamp ≤ begin → lane_of begin value stamp ≡ cond (is_present stamp) value 0
lane_told begin value stamp early = ap (λ (b : Bool). cond b value 0) ((λ i. is_present stamp && le-leb (time_of stamp) begin early i) ∙ and_true (is_present stamp))

pub lane_none : (begin value : ℕ) → lane_of begin value 0 ≡ 0
lane_none begin value = refl

-- ---- by lanes

module _ (begin : ℕ) (values times : List ℕ) (wide : length values ≡ 256) (long : length times ≡ 256) (fits : (k : ℕ) → Fits w64 (get_or values k 0)) where
  added_up_to : (i : ℕ) → i ≤ 256 → entries_add begin (slice_index values) times i ≡ sum_l (seen_up_to begin values times i)
  added_up_to zero few = add_none begin (slice_index values) times
  added_up_to (suc i) few = let next : suc i ≡ i + 1 = omega arith in
      ap (λ (m : ℕ). entries_add begin (slice_index values) times m) next ∙ (add_more begin (slice_index values) times i ∙ (ap (λ (n : ℕ). n + lane_of begin (slice_index values i) (slice_index times i)) (added_up_to i (omega arith))
      ∙ (sym (one_more begin values times (wide ∙ sym long) (omega arith) fits i (omega arith)) ∙ ap (λ (m : ℕ). sum_l (seen_up_to begin values times m)) (sym next))))

  pub sum_added : sum (seen_values begin values times) ≡ entries_add begin (slice_index values) times 256
  sum_added = sym (at_end begin values times (wide ∙ sym long) (omega arith) fits 256 (omega arith)) ∙ sym (added_up_to 256 (omega arith))

  pub sum_few : sum (seen_values begin values times) ≤ 18446744073709551616 * 256
  sum_few = all_low begin values times (wide ∙ sym long) (omega arith) fits

module _ (begin : ℕ) (times : List ℕ) (long : length times ≡ 256) where
  counted_up_to : (i : ℕ) → i ≤ 256 → entries_add begin (λ (slot : ℕ). 1) times i ≡ count_by (is_seen begin) (take i times)
  counted_up_to zero few = add_none begin (λ (slot : ℕ). 1) times
  counted_up_to (suc i) few = let next : suc i ≡ i + 1 = omega arith in let x = slice_index times i in
      let one : count_by (is_seen begin) (x ∷ []) ≡ lane_of begin 1 x = sum_by-cons (λ (w : ℕ). cond (is_seen begin w) 1 0) x [] ∙ (omega arith) in
      let both : count_by (is_seen begin) (take (i + 1) times) ≡ count_by (is_seen begin) (take i times) + count_by (is_seen begin) (x ∷ []) =
      ap (count_by (is_seen begin)) (take_more times i 0 (omega arith)) ∙ sum_by-append (λ (w : ℕ). cond (is_seen begin w) 1 0) (take i times) (x ∷ []) in
      let before = counted_up_to i (omega arith) in
      ap (λ (m : ℕ). entries_add begin (λ (slot : ℕ). 1) times m) next ∙ (add_more begin (λ (slot : ℕ). 1) times i ∙ ((λ j. before j + sym one j) ∙ (sym both ∙ ap (λ (m : ℕ). count_by (is_seen begin) (take m times)) (sym next))))

  pub count_added : count_by (is_seen begin) times ≡ entries_add begin (λ (slot : ℕ). 1) times 256
  count_added = ap (count_by (is_seen begin)) (sym (take_all 256 times (omega arith))) ∙ sym (counted_up_to 256 (omega arith))

-- ---- record by record

-- the number is the total over the rows on the n records from `low` on
abbrev pub Covers : View → (s : ℕ) → (List Cell → ℕ) → (low n number : ℕ) → Type 0
Covers v s weight low n number = (place : ℕ → ℕ) → Places (knows v s) place → number ≡ total weight (between place low (low + n) (table_seen (knows v s)))

pub covers_none : (v : View) (s : ℕ) (weight : List Cell → ℕ) (low : ℕ) → Covers v s weight low 0 0
covers_none v s weight low place places = sym (total_none weight place (table_seen (knows v s)) low (low + 0) (λ key row at a b. omega arith))

pub covers_start : (v : View) (s : ℕ) (weight : List Cell → ℕ) (low begin : ℕ) (value : ℕ → ℕ) (times : List ℕ) → Covers v s weight low 0 (0 + entries_add begin value times 0)
covers_start v s weight low begin value times place places = (λ i. 0 + add_none begin value times i) ∙ covers_none v s weight low place places

pub covers_next : (v : View) (s : ℕ) (weight : List Cell → ℕ) (low n number more : ℕ) → Possible v → hosts v s ≡ true → (row : Option (List Cell)) → IsRowOn (knows v s) (low + n) row → more ≡ weight_of weight row → Covers v s weight low n number → Covers v s weight low (n + 1) (number + more)
covers_next v s weight low n number more p host row on is covers place places = let next : low + n + 1 ≡ low + (n + 1) = omega arith in
    let here : total weight (between place (low + n) (low + (n + 1)) (table_seen (knows v s))) ≡ weight_of weight row =
    subst (λ (m : ℕ). total weight (between place (low + n) m (table_seen (knows v s))) ≡ weight_of weight row) next (total_on v s p host place places weight (low + n) row on) in
    let before = covers place places in
    let all = total_split weight place (table_seen (knows v s)) low (low + n) (low + (n + 1)) (omega arith) (omega arith) in omega arith

-- what a part of the table comes to after looks is what it came to before them
pub part_before : (v w : View) (s : ℕ) (weight : List Cell → ℕ) (low high number : ℕ) → Possible v → hosts v s ≡ true → (knows v s).is_open ≡ true → Watched v w s → ((place : ℕ → ℕ) → Places (knows w s) place → number ≡ total weight (between place low high (table_seen (knows w s))))
    → (place : ℕ → ℕ) → Places (knows v s) place → number ≡ total weight (between place low high (table_seen (knows v s)))
part_before v w s weight low high number p host is_on watched part place places = let kept = watchers_keep v w s p host is_on watched in
    part place (places_stay (knows v s) (knows w s) kept place places) ∙ ap (λ (t : Rows). total weight (between place low high t)) (same_table (knows v s) (knows w s) kept.alike)

-- and so it is with a count
pub count_before : (v w : View) (s low high number : ℕ) → Possible v → hosts v s ≡ true → (knows v s).is_open ≡ true → Watched v w s → ((place : ℕ → ℕ) → Places (knows w s) place → number ≡ count_of (between place low high (table_seen (knows w s))))
    → (place : ℕ → ℕ) → Places (knows v s) place → number ≡ count_of (between place low high (table_seen (knows v s)))
count_before v w s low high number p host is_on watched part place places = let kept = watchers_keep v w s p host is_on watched in
    part place (places_stay (knows v s) (knows w s) kept place places) ∙ ap (λ (t : Rows). count_of (between place low high t)) (same_table (knows v s) (knows w s) kept.alike)

-- a cell's weights
number_of_entry : (there : Bool) (value : ℕ) → unwrap_or (cond there (Some value) None) 0 ≡ cond there value 0
number_of_entry true value = refl
number_of_entry false value = refl

pub told_number : (column begin value stamp : ℕ) (row : Option (List Cell)) → time_of stamp ≤ begin → cond (is_present stamp) (Some value) None ≡ cell_in column row → lane_of begin value stamp ≡ weight_of (number_at column) row
told_number column begin value stamp row early is = lane_told begin value stamp early ∙ (sym (number_of_entry (is_present stamp) value) ∙ number_weight column row (cond (is_present stamp) (Some value) None) is)

row_of_entry : (there : Bool) (column value : ℕ) (row : Option (List Cell)) → cond there (Some value) None ≡ cell_in column row → cond there 1 0 ≡ weight_of (λ _. 1) row
row_of_entry true column value row is = sym (one_weight column row (Some value) is refl)
row_of_entry false column value row is = sym (no_weight column row None is (λ some. true≢false (sym some)))

pub told_row : (column begin value stamp : ℕ) (row : Option (List Cell)) → time_of stamp ≤ begin → cond (is_present stamp) (Some value) None ≡ cell_in column row → lane_of begin 1 stamp ≡ weight_of (λ _. 1) row
told_row column begin value stamp row early is = lane_told begin 1 stamp early ∙ row_of_entry (is_present stamp) column value row is

-- ---- the loop

one_more_times : (n bound : ℕ) → (n + 1) * bound ≡ n * bound + bound
one_more_times n bound = omega arith

sum_parts : (number before lane found more after : ℕ) → more ≡ number + found → after ≡ before + lane → (number + before) + (lane + found) ≡ more + after
sum_parts number before lane found more after e f = omega arith

-- the session has only looked since the view was v, and has come to the record `slot`: of each before it counted at most the bound
pub record Walks (store : Store) (v : View) (seat : Sitting) (s bound slot number : ℕ) : Type 0 where
  pub scans : Scans store v seat s
  pub few : slot ≤ 256
  pub most : number ≤ slot * bound

pub walks_start : (store : Store) (h b : Sitting) (s bound : ℕ) → Possible h.view → IsReader store h s → Skims h.view b.view s → IsSeatOf store b → Walks store h.view b s bound 0 0
walks_start store h b s bound p reader skims seat_of = record {
  scans = scans_next store h.view h b s (scans_start store h s p reader) (reader_on store h b s reader skims.watched seat_of) skims.watched;
  few = omega arith;
  most = omega arith;
}

-- the page told of a record
pub walks_told : (store : Store) (v : View) (a b : Sitting) (s bound slot number more : ℕ) → b ≡ a → more ≡ number → slot < 256 → Walks store v a s bound slot number → Walks store v b s bound (slot + 1) more
walks_told store v a b s bound slot number more same is short walks = subst (λ (x : Sitting). Walks store v x s bound (slot + 1) more) (sym same) record {
  scans = walks.scans;
  few = omega arith;
  most = (let m = walks.most in let d : (slot + 1) * bound ≡ slot * bound + bound = one_more_times slot bound in omega arith);
}

-- a record was walked
pub walks_walked : (store : Store) (v : View) (a b d : Sitting) (s bound slot number more found : ℕ) → b ≡ d → more ≡ number + found → found ≤ bound → slot < 256 → IsReader store d s → Watched a.view d.view s → Walks store v a s bound slot number → Walks store v b s bound (slot + 1) more
walks_walked store v a b d s bound slot number more found same is few short reader watched walks = subst (λ (x : Sitting). Walks store v x s bound (slot + 1) more) (sym same) record {
  scans = scans_next store v a d s walks.scans reader watched;
  few = omega arith;
  most = (let m = walks.most in let d : (slot + 1) * bound ≡ slot * bound + bound = one_more_times slot bound in omega arith);
}

-- one more record, of which the page and the walk come to its weight
pub covers_put : (v : View) (s : ℕ) (weight : List Cell → ℕ) (low n number more begin : ℕ) (value : ℕ → ℕ) (times puts : List ℕ) (x found : ℕ) → n < length times → Possible v → hosts v s ≡ true → (row : Option (List Cell)) → IsRowOn (knows v s) (low + n) row
    → lane_of begin (value n) x + found ≡ weight_of weight row → more ≡ number + found → puts ≡ slice_set times n x → Covers v s weight low n (number + entries_add begin value times n) → Covers v s weight low (n + 1) (more + entries_add begin value puts (n + 1))
covers_put v s weight low n number more begin value times puts x found short p host row on is added put covers =
    let put_is : entries_add begin value puts (n + 1) ≡ entries_add begin value times n + lane_of begin (value n) x = ap (λ (xs : List ℕ). entries_add begin value xs (n + 1)) put ∙ add_put begin value times n x short in
    let same : (number + entries_add begin value times n) + (lane_of begin (value n) x + found) ≡ more + entries_add begin value puts (n + 1) = sum_parts number (entries_add begin value times n) (lane_of begin (value n) x) found more (entries_add begin value puts (n + 1)) added put_is in
    subst (λ (m : ℕ). Covers v s weight low (n + 1) m) same (covers_next v s weight low n (number + entries_add begin value times n) (lane_of begin (value n) x + found) p host row on is covers)

-- a place of a list that is as long once a word was put there
pub put_short : (times puts : List ℕ) (n x : ℕ) → n < 256 → length puts ≡ 256 → puts ≡ slice_set times n x → n < length times
put_short times puts n x few long put = let same : length puts ≡ length times = ap length put ∙ length-set times n x in omega arith
