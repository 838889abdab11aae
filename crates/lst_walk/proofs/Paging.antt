-- A walk for a cell that may end in the column's page.
use Rattle.std.proofs.Common.{◌≡◌, ℕ, ◌+◌, ◌*◌, ◌/◌, ◌%◌, ◌<◌, ◌≤◌, List, [], ◌++◌, Bool, true, false, cond, nat_le, leb-true, le-leb, refl, sym, subst, ap, ◌∙◌, arith, inl, inr, ⊎_elim, slice_index, slice_index_or}
use Rattle.std.specs.Prelude.{Option, None, Some}
use mathlib.Core.Logic.{dite}
use native.Mathlib.Decide.{ℕ_discrete}
use Rattle.lst_layout.specs.declared.TheConstants.{FRAME_TIMES}
use Rattle.lst_layout.specs.declared.limits.Limits.{Limits}
use Rattle.lst_layout.specs.declared.place.Place.TheVariants.{HeadWord}
use Rattle.lst_layout.specs.Areas.{frame_count}
use Rattle.lst_layout.specs.Words.{shown}
use Rattle.lst_bits.specs.Times.{time_of, is_present}
use Rattle.lst_model.specs.Histories.{row_from}
use Rattle.lst_core_state.specs.declared.known.Known.{Known}
use Rattle.lst_core_state.specs.Cells.{range_of}
use Rattle.lst_core_state.specs.State.{state_over}
use Rattle.lst_pack.specs.Forms.{Packs, IsPacked}
use Rattle.lst_pages.specs.Frames.{tps_in, stamp_in}
use Rattle.lst_pages.specs.Pages.{IsRightPage}
use Rattle.lst_pages.specs.Runs.{IsReadable}
use Rattle.lst_pages.specs.Known.{pages_in}
use Rattle.lst_pages.specs.Settled.{settled_tails}
use Rattle.lst_rule.specs.declared.view.View.{View}
use Rattle.lst_rule.specs.declared.store.Store.{Store}
use Rattle.lst_rule.specs.Rule.{knows, hosts}
use Rattle.lst_rule.specs.Learned.{Possible}
use Rattle.lst_rule.specs.Seats.{Sitting}
use Rattle.lst_rule.specs.Stores.{Looked}
use Rattle.lst_rule.specs.PageSteps.{PageLooked, FrameLoaded}
use Rattle.lst_rule.proofs.Paging.{hand_is_readable}
use Rattle.lst_rule.specs.Copies.{Version, Leads}
use Rattle.lst_rule.specs.Seen.{seen_acts}
use Rattle.lst_rule.specs.Watching.{HasInHand, Watched}
use Rattle.lst_rule.proofs.Watching.{watched_same, same_pins}
use Rattle.lst_rule.specs.TailLoads.{LoadsOf, LoadsTail}
use Rattle.lst_walk.specs.Readers.{IsReader, IsAt, Resolves}
use Rattle.lst_walk.specs.Patches.{cell_in}
use Rattle.lst_walk.specs.Packed.{packed_words, Skims, skims_on}
use Rattle.lst_walk.specs.Pages.{is_told, IsPageOf, MayUse, ReadsPage, Takes, IsAbove, SavesCell}
use Rattle.lst_walk.specs.declared.pages.Entry.{Entry}
use Rattle.lst_walk.specs.Walks.{IsSightOf, IsCellOf, WalksCell, Tells, CellWalk, Serves, PageWalk}
use Rattle.lst_walk.proofs.Reading.{watched_on}
use Rattle.lst_rule.proofs.Finds.{loads_none, loads_join, loads_past, loads_tail}
use Rattle.lst_walk.proofs.Resolving.{copy_later, passes_later}
use Rattle.lst_walk.proofs.Walking.{cell_next, cell_stays, copy_same, stays_same}
use Rattle.lst_walk.proofs.Loading.{page_skims, frame_skims, frame_word, hand_stays, packed_same}
use Rattle.lst_walk.proofs.Using.{entry_absent, entry_number}

-- ---- a page is taken in hand, and looked at

is_usable : (b : Bool) (tps : ℕ) → 0 < cond b tps 0 → b ≡ true
is_usable true tps some = refl
is_usable false tps some = absurd (omega arith)

module _ (v a b w : View) (s rec column f tps stamp : ℕ) (hosted : hosts v s ≡ true) (low : s < v.limits.sessions) (looked : PageLooked v a s (rec / 256) column f) (lineage : FrameLoaded a b s f 0 tps) (time : FrameLoaded b w s f (FRAME_TIMES + rec % 256) stamp) where
  abbrev words : ℕ → ℕ
  words = slice_index looked.page.words

  va : Skims v a s
  va = page_skims v a s (rec / 256) column f hosted low looked

  hosted_a : hosts a s ≡ true
  hosted_a = ap (λ (hs : List Bool). slice_index_or hs s false) va.watched.learns.hosted ∙ hosted

  low_a : s < a.limits.sessions
  low_a = subst (λ (l : Limits). s < l.sessions) (sym va.watched.learns.limits) low

  now : Possible a
  now = record { words = _; known = _; merger = _; allowed = looked.met.made.told.after }

  readable : IsReadable (pages_in (state_over a.limits now.words now.known now.merger)) f looked.page
  readable = hand_is_readable a now.words now.known now.merger now.allowed s hosted_a low_a f looked.page looked.in_hand

  ab : Skims a b s
  ab = frame_skims a b s f 0 tps lineage hosted_a readable.frame (omega arith)

  hosted_b : hosts b s ≡ true
  hosted_b = ap (λ (hs : List Bool). slice_index_or hs s false) ab.watched.learns.hosted ∙ hosted_a

  low_b : s < b.limits.sessions
  low_b = subst (λ (l : Limits). s < l.sessions) (sym ab.watched.learns.limits) low_a

  pub frame_low_a : f < frame_count a.limits
  frame_low_a = readable.frame

  pub frame_low_b : f < frame_count b.limits
  frame_low_b = subst (λ (l : Limits). f < frame_count l) (sym ab.watched.learns.limits) frame_low_a

  bw : Skims b w s
  bw = frame_skims b w s f (FRAME_TIMES + rec % 256) stamp time hosted_b frame_low_b (omega arith)

  hand_a : HasInHand (knows a s).pages.session f words
  hand_a = record { page = looked.page; in_hand = looked.in_hand; same = λ n short. refl }

  hand_b : HasInHand (knows b s).pages.session f words
  hand_b = hand_stays a b s f words ab.watched hand_a

  tps_is : tps ≡ tps_in words
  tps_is = frame_word a b s f 0 tps lineage words low_a hand_a (omega arith)

  stamp_is : stamp ≡ stamp_in words (rec % 256)
  stamp_is = frame_word b w s f (FRAME_TIMES + rec % 256) stamp time words low_b hand_b (omega arith)

  pub taken_skims : Skims v w s
  taken_skims = skims_on v a w s va (skims_on a b w s ab bw)

  same_begin : (knows w s).begin ≡ (knows v s).begin
  same_begin = ap (λ (k : Known). k.begin) taken_skims.watched.watches.is

  page_of : IsPageOf a rec column words
  page_of = record {
    now = now;
    right = subst (λ (r : ℕ). IsRightPage column (settled_tails a.limits (shown a.limits now.words) r) words) looked.names.0 (subst (λ (c : ℕ). IsRightPage c (settled_tails a.limits (shown a.limits now.words) looked.page.range) words) looked.names.1 readable.right);
  }

  pub takes : (entry : Entry) → entry.frame ≡ f → entry.until ≡ cond (nat_le (time_of stamp) (knows w s).begin) tps 0 → entry.is_present ≡ is_present stamp → Takes v w s rec column entry
  takes entry frame until present = record {
    reads = record { before = v; taken = a; told = b; timed = w; first = watched_same v s; frame = f; page = looked; tps = tps; lineage = lineage; stamp = stamp; time = time; last = watched_same w s };
    first = va.watched;
    last = watched_on a b w s ab.watched bw.watched;
    words = words;
    page = page_of;
    low = subst (λ (g : ℕ). g < frame_count w.limits) (sym frame) (subst (λ (l : Limits). f < frame_count l) (sym bw.watched.learns.limits) frame_low_b);
    in_hand = subst (λ (g : ℕ). HasInHand (knows w s).pages.session g words) (sym frame) (hand_stays b w s f words bw.watched hand_b);
    usable = λ some. let test : nat_le (time_of stamp) (knows w s).begin ≡ true = is_usable (nat_le (time_of stamp) (knows w s).begin) tps (subst (λ (n : ℕ). 0 < n) until some) in record {
      until = until ∙ (ap (λ (e : Bool). cond e tps 0) test ∙ tps_is);
      timely = subst (λ (n : ℕ). time_of n ≤ (knows v s).begin) stamp_is (subst (λ (n : ℕ). time_of stamp ≤ n) same_begin (leb-true (time_of stamp) (knows w s).begin test));
      present = present ∙ ap (λ (n : ℕ). is_present n) stamp_is;
    };
    timely = λ early. until ∙ ap (λ (e : Bool). cond e tps 0) (le-leb (time_of stamp) (knows w s).begin (subst (λ (n : ℕ). time_of stamp ≤ n) (sym same_begin) early));
  }

-- ---- the entry of a walk

-- with further looks the page may still be used
pub serves_later : (v w x : View) (s rec column : ℕ) (copy : List Version) (entry : Entry) → Watched w x s → Serves v w s rec column copy entry → Serves v x s rec column copy entry
serves_later v w x s rec column copy entry more is = record {
  between = is.between;
  before = is.before;
  after = watched_on is.between w x s is.after more;
  words = is.words;
  page = is.page;
  head = is.head;
  copied = is.copied;
  is = is.is;
  low = subst (λ (l : Limits). entry.frame < frame_count l) (sym more.learns.limits) is.low;
  in_hand = hand_stays w x s entry.frame is.words more is.in_hand;
}

abbrev pub reads_later : (v w x : View) (s rec column : ℕ) → Watched w x s → ReadsPage v w s rec column → ReadsPage v x s rec column
reads_later v w x s rec column more is = record {
  before = is.before;
  taken = is.taken;
  told = is.told;
  timed = is.timed;
  first = is.first;
  frame = is.frame;
  page = is.page;
  tps = is.tps;
  lineage = is.lineage;
  stamp = is.stamp;
  time = is.time;
  last = watched_on is.timed w x s is.last more;
}

pub page_start : (store : Store) (v : View) (h e : Sitting) (s rec column head : ℕ) (entry : Entry) → CellWalk store v h s rec column head → (word : ℕ) → Looked v h.view s (HeadWord rec) word → head ≡ word / 2 → IsReader store e s → Skims h.view e.view s
    → (0 < (knows h.view s).pages.session.pin → Takes h.view e.view s rec column entry) → ((knows h.view s).pages.session.pin ≡ 0 → entry.until ≡ 0) → PageWalk store v e s rec column head entry
page_start store v h e s rec column head entry walk word looked head_is reader skims takes none = let still : CellWalk store v e s rec column head = cell_stays store v h e s rec column head walk skims.watched reader in record {
  walk = still;
  serves = λ some. subst (λ (cs : List Version). Serves v e.view s rec column cs entry) (stays_same store v h e s rec column head walk skims.watched reader) (dite (ℕ_discrete (knows h.view s).pages.session.pin 0)
      (λ free. absurd (let z = none free in omega arith))
      (λ pinned. serves_by (takes (omega arith)) some));
  saves = λ pinned. let t : Takes h.view e.view s rec column entry = takes (let same = (same_pins (knows v s) (knows h.view s) walk.watched.watches).pin in omega arith) in record {
    headed = h.view;
    word = word;
    head = looked;
    page = t.reads;
    until = λ early. t.timely (subst (λ (n : ℕ). time_of t.reads.stamp ≤ n) (sym same_begin) early);
    past = loads_none (IsAbove v rec entry.until) v e.view s (skims.finds ∙ ap (λ (k : Known). k.finds) looked.view.now);
    quiet = inl (head_is, skims.finds ∙ ap (λ (k : Known). k.finds) looked.view.now);
  };
}
  where
    same_begin : (knows h.view s).begin ≡ (knows v s).begin
    same_begin = ap (λ (k : Known). k.begin) walk.watched.watches.is

    serves_by : Takes h.view e.view s rec column entry → 0 < entry.until → Serves v e.view s rec column (walk.passed ++ walk.versions) entry
    serves_by t some = record {
      between = t.reads.taken;
      before = watched_on v h.view t.reads.taken s walk.watched t.first;
      after = t.last;
      words = t.words;
      page = t.page;
      head = walk.passes.head;
      copied = copy_later h.view h.view t.reads.taken s rec [] t.first walk.passes.head (walk.passed ++ walk.versions) walk.passes.copy;
      is = let u = t.usable some in record { until = u.until; timely = subst (λ (n : ℕ). time_of (stamp_in t.words (rec % 256)) ≤ n) same_begin u.timely; present = u.present };
      low = t.low;
      in_hand = t.in_hand;
    }

-- ---- a version is passed

-- its tail record is above the entry's number
pub above_here : (store : Store) (v : View) (a : Sitting) (s rec column n range t : ℕ) → range ≡ rec / 256 → t ≡ range * store.layout.limits.tails + n → (entry : Entry) → PageWalk store v a s rec column n entry → entry.until < n → IsAbove v rec entry.until t
above_here store v a s rec column n range t range_is tail_is entry walk high = subst (λ (l : Limits). range_of rec * l.tails + entry.until < t) (sym walk.walk.reader.seat_of.limits ∙ walk.walk.watched.learns.limits)
    (subst (λ (r : ℕ). r * store.layout.limits.tails + entry.until < t) range_is (omega arith))

pub page_next : (store : Store) (v : View) (a b d : Sitting) (s rec n range t m : ℕ) → hosts v s ≡ true → (knows v s).is_open ≡ true → 0 < n → range ≡ rec / 256 → t ≡ range * store.layout.limits.tails + n → (column : ℕ) (entry : Entry) → PageWalk store v a s rec column n entry → entry.until < n
    → Watched a.view b.view s → ((c : Version) → IsAt a.view s t c → Tells (knows a.view s) s c store.layout.limits.columns column None) → Resolves a.view b.view s range n → IsReader store d s → Watched b.view d.view s
    → ((c : Version) → IsAt a.view s t c → m ≡ c.back) → ((c : Version) → IsAt a.view s t c → is_told (knows a.view s) s column c ≡ false) → LoadsTail a.view b.view s t → (u : ℕ) → u ≡ t → LoadsTail b.view d.view s u → PageWalk store v d s rec column m entry
page_next store v a b d s rec n range t m host opened some range_is tail_is column entry walk high seen tells resolves reader bd back leaves held u same below =
    let ad : Watched a.view d.view s = watched_on a.view b.view d.view s seen bd in
    let next : CellWalk store v d s rec column m = cell_next store v a b d s rec n range t m host opened some range_is tail_is column walk.walk seen tells resolves reader bd back leaves in record {
      walk = next;
      serves = λ usable. serves_later v a.view d.view s rec column (next.passed ++ next.versions) entry ad
          (subst (λ (cs : List Version). Serves v a.view s rec column cs entry) (copy_same store v a b d s rec n range t m host opened some range_is tail_is column walk.walk seen tells resolves reader bd back leaves) (walk.serves usable));
      saves = λ pinned. let q = walk.saves pinned in record {
        headed = q.headed;
        word = q.word;
        head = q.head;
        page = reads_later q.headed a.view d.view s rec column ad q.page;
        until = q.until;
        past = loads_join (IsAbove v rec entry.until) v a.view d.view s q.past (loads_past a.view d.view s t (IsAbove v rec entry.until) (above_here store v a s rec column n range t range_is tail_is entry walk high) (loads_tail a.view b.view d.view s u t same held below));
        quiet = inr (⊎_elim (λ (h : (n ≡ q.word / 2) × ((knows a.view s).finds ≡ (knows v s).finds)). let e = h.0 in omega arith) (λ (h : entry.until < q.word / 2). h) q.quiet);
      };
    }

-- ---- the ways out

module _ (store : Store) (v : View) (a b : Sitting) (s rec column n : ℕ) (entry : Entry) (walk : PageWalk store v a s rec column n entry) (ab : Watched a.view b.view s) where
  -- past the entry's number nothing was to be saved
  pub page_held : entry.until < n → (range t : ℕ) → range ≡ rec / 256 → t ≡ range * store.layout.limits.tails + n → LoadsTail a.view b.view s t → 0 < (knows v s).pages.session.pin → SavesCell v b.view s rec column
  page_held high range t range_is tail_is held pinned = let q = walk.saves pinned in record {
    headed = q.headed;
    word = q.word;
    head = q.head;
    page = reads_later q.headed a.view b.view s rec column ab q.page;
    soon = λ early. subst (λ (m : ℕ). LoadsOf v b.view s (IsAbove v rec m)) (q.until early) (loads_join (IsAbove v rec entry.until) v a.view b.view s q.past (loads_past a.view b.view s t (IsAbove v rec entry.until) (above_here store v a s rec column n range t range_is tail_is entry walk high) held));
    quiet = λ low early. absurd (let e = q.until early in ⊎_elim (λ (h : (n ≡ q.word / 2) × ((knows a.view s).finds ≡ (knows v s).finds)). let f = h.0 in omega arith) (λ (h : entry.until < q.word / 2). omega arith) q.quiet);
  }

  -- where nothing is found from there on
  pub page_saved : (knows b.view s).finds ≡ (knows a.view s).finds → 0 < (knows v s).pages.session.pin → SavesCell v b.view s rec column
  page_saved same pinned = let q = walk.saves pinned in record {
    headed = q.headed;
    word = q.word;
    head = q.head;
    page = reads_later q.headed a.view b.view s rec column ab q.page;
    soon = λ early. subst (λ (m : ℕ). LoadsOf v b.view s (IsAbove v rec m)) (q.until early) (loads_join (IsAbove v rec entry.until) v a.view b.view s q.past (loads_none (IsAbove v rec entry.until) a.view b.view s same));
    quiet = λ low early. let e = q.until early in ⊎_elim (λ (h : (n ≡ q.word / 2) × ((knows a.view s).finds ≡ (knows v s).finds)). same ∙ h.1) (λ (h : entry.until < q.word / 2). absurd (omega arith)) q.quiet;
  }

pub page_ended : (store : Store) (v : View) (a : Sitting) (s rec column n : ℕ) (entry : Entry) → PageWalk store v a s rec column n entry → 0 < (knows v s).pages.session.pin → SavesCell v a.view s rec column
page_ended store v a s rec column n entry walk pinned = page_saved store v a a s rec column n entry walk (watched_same a.view s) refl pinned

module _ (store : Store) (v : View) (a : Sitting) (s rec column n : ℕ) (entry : Entry) (host : hosts v s ≡ true) (opened : (knows v s).is_open ≡ true) (short : column < store.layout.limits.columns) (walk : CellWalk store v a s rec column n) (serves : Serves v a.view s rec column (walk.passed ++ walk.versions) entry) (usable : n ≤ entry.until) where
  abbrev values : List ℕ
  values = serves.page.right.entries.values

  packs : Packs (packed_words a.view s entry.frame) values
  packs = subst (λ (ws : List ℕ). Packs ws values) (sym (packed_same (knows a.view s).pages.session entry.frame serves.words serves.in_hand)) serves.page.right.entries.packed

  pub page_packed : IsPacked (packed_words a.view s entry.frame)
  page_packed = (values, packs)

  pub page_low : entry.frame < frame_count a.view.limits
  page_low = serves.low

  limits_is : serves.between.limits ≡ store.layout.limits
  limits_is = sym serves.after.learns.limits ∙ walk.reader.seat_of.limits

  abbrev may : MayUse (knows v s) serves.between s rec column n walk.passed walk.versions serves.words
  may = record {
    page = serves.page;
    head = serves.head;
    copy = serves.copied;
    leads = subst (λ (l : Limits). Leads l (range_of rec) n walk.versions) (sym limits_is) walk.chain.leads;
    above_leaves = walk.left;
    low = let e = serves.is.until in omega arith;
    timely = serves.is.timely;
  }

  sight : IsSightOf (knows v s) rec (seen_acts (knows v s) s (walk.passed ++ walk.versions))
  sight = subst (λ acts. IsSightOf (knows v s) rec acts) walk.whole walk.sees

  short_there : column < serves.between.limits.columns
  short_there = subst (λ (l : Limits). column < l.columns) (sym limits_is) short

  by_presence : (b : Bool) → is_present (stamp_in serves.words (rec % 256)) ≡ b → cond b (Some (slice_index values (rec % 256))) None ≡ cell_in column (row_from None (seen_acts (knows v s) s (walk.passed ++ walk.versions)))
  by_presence true is = sym (entry_number v serves.between s rec column n walk.passed walk.versions serves.words walk.possible host opened serves.before short_there may sight is)
  by_presence false is = sym (ap (cell_in column) (entry_absent v serves.between s rec column n walk.passed walk.versions serves.words walk.possible host opened serves.before short_there may sight is))

  -- the cell, where there is a row
  pub page_shows : entry.is_present ≡ true → IsCellOf v s rec column (Some (slice_index serves.page.right.entries.values (rec % 256)))
  page_shows there = (seen_acts (knows v s) s (walk.passed ++ walk.versions), sight, ap (λ (b : Bool). cond b (Some (slice_index values (rec % 256))) None) (sym there ∙ serves.is.present) ∙ by_presence (is_present (stamp_in serves.words (rec % 256))) refl)

  -- and where there is none
  pub page_absent : entry.is_present ≡ false → IsCellOf v s rec column None
  page_absent none = (seen_acts (knows v s) s (walk.passed ++ walk.versions), sight, ap (λ (b : Bool). cond b (Some (slice_index values (rec % 256))) None) (sym none ∙ serves.is.present) ∙ by_presence (is_present (stamp_in serves.words (rec % 256))) refl)

  pub page_used : (result : Option ℕ) → ((vs : List ℕ) → Packs (packed_words a.view s entry.frame) vs → result ≡ cond entry.is_present (Some (slice_index vs (rec % 256))) None) → IsCellOf v s rec column result
  page_used result is = (seen_acts (knows v s) s (walk.passed ++ walk.versions), sight, is values packs ∙ (ap (λ (b : Bool). cond b (Some (slice_index values (rec % 256))) None) serves.is.present ∙ by_presence (is_present (stamp_in serves.words (rec % 256))) refl))

  pub page_walked : (b : View) (result : Option ℕ) → Watched a.view b s → WalksCell v b s rec column result
  page_walked b result ab = (
    walk.passed,
    walk.versions,
    passes_later v a.view b s rec walk.passed ab walk.versions walk.passes,
    inr (inr record { between = serves.between; before = serves.before; after = watched_on serves.between a.view b s serves.after ab; number = n; words = serves.words; frame = entry.frame; in_hand = hand_stays a.view b s entry.frame serves.words ab serves.in_hand; may = may }),
  )
