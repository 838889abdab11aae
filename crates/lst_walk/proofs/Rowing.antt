-- A walk for a row whose columns are filled by pages.
use Rattle.std.proofs.Common.{zero, suc, ◌∷◌, ◌≡◌, ◌⊎◌, ℕ, ◌+◌, ◌*◌, ◌/◌, ◌%◌, ◌<◌, ◌≤◌, List, [], ◌++◌, Bool, true, false, cond, ◌||◌, refl, sym, subst, ap, ◌∙◌, arith, inl, inr, ⊎_elim, append-nil, length, map, slice_index, slice_index_or, slice_set, true≢false, length-set, get_or-set_same, get_or-set_other}
use Rattle.std.specs.Prelude.{Option, None, Some, is_some, unwrap_or, slice_get}
use Rattle.std.specs.List.{list_all}
use Rattle.std.proofs.lemmas.Option.{slice_get-get_or}
use mathlib.Core.Logic.{dite}
use native.Mathlib.Decide.{ℕ_discrete}
use Rattle.lst_layout.specs.declared.limits.Limits.{Limits}
use Rattle.lst_layout.specs.declared.place.Place.TheVariants.{HeadWord}
use Rattle.lst_layout.specs.Areas.{frame_count}
use Rattle.lst_bits.specs.Times.{time_of, is_present}
use Rattle.lst_model.specs.Cells.{Cell}
use Rattle.lst_model.specs.Histories.{row_from}
use Rattle.lst_core_state.specs.declared.known.Known.{Known}
use Rattle.lst_core_state.specs.Cells.{range_of}
use Rattle.lst_pack.specs.Forms.{Packs, IsPacked}
use Rattle.lst_pages.specs.Frames as frames
use Rattle.lst_pages.specs.Frames.{stamp_in}
use Rattle.lst_pages.specs.Rows.{column_of}
use Rattle.lst_rule.specs.declared.view.View.{View}
use Rattle.lst_rule.specs.declared.store.Store.{Store}
use Rattle.lst_rule.specs.Rule.{knows, hosts}
use Rattle.lst_rule.specs.Seats.{Sitting}
use Rattle.lst_rule.specs.Stores.{Looked}
use Rattle.lst_rule.specs.Copies.{Version, Leads}
use Rattle.lst_rule.specs.Seen.{seen_acts}
use Rattle.lst_rule.specs.Watching.{Watched}
use Rattle.lst_rule.proofs.Watching.{same_pins}
use Rattle.lst_rule.specs.TailLoads.{LoadsOf, LoadsTail}
use Rattle.lst_walk.specs.Readers.{IsReader, IsAt, Resolves}
use Rattle.lst_walk.specs.Packed.{packed_words, Skims, skims_same, skims_on}
use Rattle.lst_walk.specs.Pages.{is_told, MayUse, UsesPage, Takes, IsAbove, SavesByPages}
use Rattle.lst_walk.specs.Taking.{entry_at, no_entry, TakesAll}
use Rattle.lst_walk.specs.declared.pages.Entry.{Entry}
use Rattle.lst_walk.specs.declared.rows.Visit.TheVariants.{Older}
use Rattle.lst_walk.specs.Walks.{IsSightOf, IsRowOf, WalksRow, UsedPage, MakeColumn, Visited, Leaves, RowWalk, Serves}
use Rattle.lst_walk.specs.Filling.{IsPast, SavingRow, RowPages, GoesOn, HasNoRow, FillWalk, SetsColumn}
use Rattle.lst_rule.proofs.Copying.{chain_stays}
use Rattle.lst_walk.proofs.Reading.{watched_on, facts_on}
use Rattle.lst_rule.proofs.Finds.{loads_none, loads_join, loads_weaker, loads_tail, loads_past}
use Rattle.lst_walk.proofs.Resolving.{copy_later, passes_later}
use Rattle.lst_walk.proofs.Chains.{wide_row, whole_decided}
use Rattle.lst_walk.proofs.Walking.{used_on, row_next, row_copy_same, row_stays, row_stays_same}
use Rattle.lst_walk.proofs.Loading.{hand_stays, packed_same}
use Rattle.lst_walk.proofs.Paging.{serves_later, reads_later}
use Rattle.lst_walk.proofs.Using.{entry_absent, entry_present}
use Rattle.lst_walk.proofs.Lists.{set_known, column_other, column_some, row_all, some_unset, still_unset}

-- ---- the pages of all columns are taken in hand

unfoldable pub takes_earlier : (u v w : View) (s rec column : ℕ) (entry : Entry) → Watched u v s → Takes v w s rec column entry → Takes u w s rec column entry
takes_earlier u v w s rec column entry first t = record {
  reads = record {
    before = t.reads.before;
    taken = t.reads.taken;
    told = t.reads.told;
    timed = t.reads.timed;
    first = watched_on u v t.reads.before s first t.reads.first;
    frame = t.reads.frame;
    page = t.reads.page;
    tps = t.reads.tps;
    lineage = t.reads.lineage;
    stamp = t.reads.stamp;
    time = t.reads.time;
    last = t.reads.last;
  };
  first = watched_on u v t.reads.taken s first t.first;
  last = t.last;
  words = t.words;
  page = t.page;
  low = t.low;
  in_hand = t.in_hand;
  usable = λ some. let q = t.usable some in record { until = q.until; timely = subst (λ (n : ℕ). time_of (stamp_in t.words (rec % 256)) ≤ n) same_begin q.timely; present = q.present };
  timely = λ early. t.timely (subst (λ (n : ℕ). time_of t.reads.stamp ≤ n) (sym same_begin) early);
}
  where
    same_begin : (knows v s).begin ≡ (knows u s).begin
    same_begin = ap (λ (k : Known). k.begin) first.watches.is

unfoldable pub takes_later : (v w x : View) (s rec column : ℕ) (entry : Entry) → Watched w x s → Takes v w s rec column entry → Takes v x s rec column entry
takes_later v w x s rec column entry more t = record {
  reads = reads_later v w x s rec column more t.reads;
  first = t.first;
  last = watched_on t.reads.taken w x s t.last more;
  words = t.words;
  page = t.page;
  low = subst (λ (l : Limits). entry.frame < frame_count l) (sym more.learns.limits) t.low;
  in_hand = hand_stays w x s entry.frame t.words more t.in_hand;
  usable = t.usable;
  timely = t.timely;
}

pub takes_none : (store : Store) (seat : Sitting) (s rec : ℕ) (entries : List Entry) → length entries ≡ 8 → IsReader store seat s → TakesAll store seat.view seat s rec 0 entries
takes_none store seat s rec entries wide reader = record { reader = reader; skims = skims_same seat.view s; wide = wide; takes = λ some column low. absurd (omega arith); none = λ free column low. absurd (omega arith) }

pub takes_next : (store : Store) (v : View) (a b : Sitting) (s rec k : ℕ) (entries : List Entry) (entry : Entry) → k < 8 → TakesAll store v a s rec k entries → IsReader store b s → Skims a.view b.view s
    → (0 < (knows a.view s).pages.session.pin → Takes a.view b.view s rec k entry) → ((knows a.view s).pages.session.pin ≡ 0 → entry.until ≡ 0) → TakesAll store v b s rec (k + 1) (slice_set entries k entry)
takes_next store v a b s rec k entries entry few all reader skims takes none = let pin = (same_pins (knows v s) (knows a.view s) all.skims.watched.watches).pin in let low : k < length entries = (let w = all.wide in omega arith) in record {
  reader = reader;
  skims = skims_on v a.view b.view s all.skims skims;
  wide = length-set entries k entry ∙ all.wide;
  takes = λ some column below. dite (ℕ_discrete column k)
      (λ e. subst (λ (c : ℕ). Takes v b.view s rec c (entry_at (slice_set entries k entry) c)) (sym e) (subst (λ (x : Entry). Takes v b.view s rec k x) (sym (get_or-set_same entries k entry no_entry low)) (takes_earlier v a.view b.view s rec k entry all.skims.watched (takes (omega arith)))))
      (λ ne. subst (λ (x : Entry). Takes v b.view s rec column x) (sym (get_or-set_other entries k column entry no_entry ne)) (takes_later v a.view b.view s rec column (entry_at entries column) skims.watched (all.takes some column (omega arith))));
  none = λ free column below. dite (ℕ_discrete column k)
      (λ e. ap (λ (c : ℕ). (entry_at (slice_set entries k entry) c).until) e ∙ (ap (λ (x : Entry). x.until) (get_or-set_same entries k entry no_entry low) ∙ none (pin ∙ free)))
      (λ ne. ap (λ (x : Entry). x.until) (get_or-set_other entries k column entry no_entry ne) ∙ all.none free column (omega arith));
}

-- of a session without a pin no entry is used
abbrev AreBlank : List Entry → Type 0
AreBlank [] = Unit {0}
AreBlank (x ∷ xs) = (x.until ≡ 0) × AreBlank xs

blank_at : (xs : List Entry) (column : ℕ) → AreBlank xs → (entry_at xs column).until ≡ 0
blank_at [] column blank = refl
blank_at (x ∷ xs) zero blank = blank.0
blank_at (x ∷ xs) (suc column) blank = blank_at xs column blank.1

pub takes_blank : (store : Store) (seat : Sitting) (s rec k : ℕ) → IsReader store seat s → (knows seat.view s).pages.session.pin ≡ 0
    → TakesAll store seat.view seat s rec k (no_entry ∷ no_entry ∷ no_entry ∷ no_entry ∷ no_entry ∷ no_entry ∷ no_entry ∷ no_entry ∷ [])
takes_blank store seat s rec k reader free = record {
  reader = reader;
  skims = skims_same seat.view s;
  wide = refl;
  takes = λ some column low. absurd (omega arith);
  none = λ same column low. blank_at (no_entry ∷ no_entry ∷ no_entry ∷ no_entry ∷ no_entry ∷ no_entry ∷ no_entry ∷ no_entry ∷ []) column (refl, (refl, (refl, (refl, (refl, (refl, (refl, (refl, tt))))))));
}

-- a page that was taken in hand serves a walk that had come to the number before
abbrev pub serves_from : (store : Store) (v : View) (h e : Sitting) (s rec n : ℕ) (patch : List (Option Cell)) (walk : RowWalk store v h s rec n patch) (column : ℕ) (entry : Entry) → Takes h.view e.view s rec column entry → 0 < entry.until → Serves v e.view s rec column (walk.passed ++ walk.versions) entry
serves_from store v h e s rec n patch walk column entry t some = record {
  between = t.reads.taken;
  before = watched_on v h.view t.reads.taken s walk.watched t.first;
  after = t.last;
  words = t.words;
  page = t.page;
  head = walk.passes.head;
  copied = copy_later h.view h.view t.reads.taken s rec [] t.first walk.passes.head (walk.passed ++ walk.versions) walk.passes.copy;
  is = let u = t.usable some in record { until = u.until; timely = subst (λ (n : ℕ). time_of (stamp_in t.words (rec % 256)) ≤ n) (ap (λ (k : Known). k.begin) walk.watched.watches.is) u.timely; present = u.present };
  low = t.low;
  in_hand = t.in_hand;
}

-- ---- the walk begins

pub rows_start : (store : Store) (v d : View) (h e : Sitting) (s rec head : ℕ) (entries : List Entry) (patch : List (Option Cell)) → hosts v s ≡ true → (knows v s).is_open ≡ true → RowWalk store v h s rec head patch → (word : ℕ) → Looked v d s (HeadWord rec) word → head ≡ word / 2 → 0 < head → Skims d h.view s
    → TakesAll store h.view e s rec store.layout.limits.columns entries → RowPages store v e s rec head entries patch
unfolding takes_earlier
rows_start store v d h e s rec head entries patch host opened walk word looked head_is some later all = let still : RowWalk store v e s rec head patch = row_stays store v h e s rec head patch walk all.skims.watched all.reader in
    let columns_is : v.limits.columns ≡ store.layout.limits.columns = ap (λ (l : Limits). l.columns) (sym walk.watched.learns.limits ∙ walk.reader.seat_of.limits) in
    let pin = (same_pins (knows v s) (knows h.view s) walk.watched.watches).pin in record {
      host = host;
      opened = opened;
      walk = still;
      wide = all.wide;
      serves = λ column low some. subst (λ (cs : List Version). Serves v e.view s rec column cs (entry_at entries column)) (row_stays_same store v h e s rec head patch walk all.skims.watched all.reader) (dite (ℕ_discrete (knows h.view s).pages.session.pin 0)
          (λ free. absurd (let z = all.none free column low in omega arith))
          (λ pinned. serves_from store v h e s rec head patch walk column (entry_at entries column) (all.takes (omega arith) column low) some));
      saves = λ pinned. record {
        headed = d;
        word = word;
        head = looked;
        some = let e = head_is in omega arith;
        page = λ column low. (takes_earlier d h.view e.view s rec column (entry_at entries column) later.watched (all.takes (omega arith) column (omega arith))).reads;
        until = λ column low early. (all.takes (omega arith) column (omega arith)).timely (subst (λ (n : ℕ). time_of (all.takes (omega arith) column (omega arith)).reads.stamp ≤ n) (sym same_begin) early);
        past = loads_none (IsPast v rec entries) v e.view s (all.skims.finds ∙ (later.finds ∙ ap (λ (k : Known). k.finds) looked.view.now));
        quiet = inl (head_is, all.skims.finds ∙ (later.finds ∙ ap (λ (k : Known). k.finds) looked.view.now));
      };
    }
  where
    same_begin : (knows h.view s).begin ≡ (knows v s).begin
    same_begin = ap (λ (k : Known). k.begin) walk.watched.watches.is

-- ---- it goes on

saving_later : (v w x : View) (s rec n : ℕ) (entries : List Entry) → Watched w x s → (knows x s).finds ≡ (knows w s).finds → SavingRow v w s rec n entries → SavingRow v x s rec n entries
saving_later v w x s rec n entries more same q = record {
  headed = q.headed;
  word = q.word;
  head = q.head;
  some = q.some;
  page = λ column low. reads_later q.headed w x s rec column more (q.page column low);
  until = q.until;
  past = loads_join (IsPast v rec entries) v w x s q.past (loads_none (IsPast v rec entries) w x s same);
  quiet = ⊎_elim (λ (h : (n ≡ q.word / 2) × ((knows w s).finds ≡ (knows v s).finds)). inl (h.0, same ∙ h.1)) (λ (h : (column : ℕ) × (column < v.limits.columns) × ((entry_at entries column).until < q.word / 2)). inr h) q.quiet;
}

-- by looks at pages alone
pub pages_stay : (store : Store) (v : View) (a b : Sitting) (s rec n : ℕ) (entries : List Entry) (patch : List (Option Cell)) → RowPages store v a s rec n entries patch → Skims a.view b.view s → IsReader store b s → RowPages store v b s rec n entries patch
pages_stay store v a b s rec n entries patch p skims reader = record {
  host = p.host;
  opened = p.opened;
  walk = row_stays store v a b s rec n patch p.walk skims.watched reader;
  wide = p.wide;
  serves = λ column low some. subst (λ (cs : List Version). Serves v b.view s rec column cs (entry_at entries column)) (row_stays_same store v a b s rec n patch p.walk skims.watched reader) (serves_later v a.view b.view s rec column (p.walk.passed ++ p.walk.versions) (entry_at entries column) skims.watched (p.serves column low some));
  saves = λ pinned. saving_later v a.view b.view s rec n entries skims.watched skims.finds (p.saves pinned);
}

-- the tail record at a number that some entry doesn't reach
pub past_here : (store : Store) (v : View) (a : Sitting) (s rec n range t : ℕ) → range ≡ rec / 256 → t ≡ range * store.layout.limits.tails + n → (entries : List Entry) (patch : List (Option Cell)) → RowPages store v a s rec n entries patch → ((column : ℕ) × (column < v.limits.columns) × ((entry_at entries column).until < n)) → IsPast v rec entries t
past_here store v a s rec n range t range_is tail_is entries patch p high = (
  high.0,
  high.1,
  subst (λ (l : Limits). range_of rec * l.tails + (entry_at entries high.0).until < t) (sym p.walk.reader.seat_of.limits ∙ p.walk.watched.learns.limits)
      (subst (λ (r : ℕ). r * store.layout.limits.tails + (entry_at entries high.0).until < t) range_is (let g = high.2 in omega arith)),
)

-- past a version
pub rows_next : (store : Store) (v : View) (a b d : Sitting) (s rec n range t m : ℕ) → 0 < n → range ≡ rec / 256 → t ≡ range * store.layout.limits.tails + n → (entries : List Entry) (patch more : List (Option Cell)) → (p : RowPages store v a s rec n entries patch)
    → ((column : ℕ) × (column < v.limits.columns) × ((entry_at entries column).until < n))
    → Watched a.view b.view s → length more ≡ store.layout.limits.columns → ((c : Version) → IsAt a.view s t c → Visited (knows a.view s) s c store.layout.limits.columns patch more Older) → Resolves a.view b.view s range n → IsReader store d s → Watched b.view d.view s
    → ((c : Version) → IsAt a.view s t c → m ≡ c.back) → ((c : Version) → IsAt a.view s t c → Leaves (λ column. is_told (knows a.view s) s column c) patch more Older) → LoadsTail a.view b.view s t → (u : ℕ) → u ≡ t → LoadsTail b.view d.view s u → RowPages store v d s rec m entries more
rows_next store v a b d s rec n range t m some range_is tail_is entries patch more p high seen wide visited resolves reader bd back leaves looks u same below =
    let ad : Watched a.view d.view s = watched_on a.view b.view d.view s seen bd in record {
      host = p.host;
      opened = p.opened;
      walk = row_next store v a b d s rec n range t m p.host p.opened some range_is tail_is patch more p.walk seen wide visited resolves reader bd back leaves;
      wide = p.wide;
      serves = λ column low usable. subst (λ (cs : List Version). Serves v d.view s rec column cs (entry_at entries column)) (row_copy_same store v a b d s rec n range t m p.host p.opened some range_is tail_is patch more p.walk seen wide visited resolves reader bd back leaves)
          (serves_later v a.view d.view s rec column (p.walk.passed ++ p.walk.versions) (entry_at entries column) ad (p.serves column low usable));
      saves = λ pinned. let q = p.saves pinned in record {
        headed = q.headed;
        word = q.word;
        head = q.head;
        some = q.some;
        page = λ column low. reads_later q.headed a.view d.view s rec column ad (q.page column low);
        until = q.until;
        past = loads_join (IsPast v rec entries) v a.view d.view s q.past (loads_past a.view d.view s t (IsPast v rec entries) (past_here store v a s rec n range t range_is tail_is entries patch p high) (loads_tail a.view b.view d.view s u t same looks below));
        quiet = inr (⊎_elim (λ (h : (n ≡ q.word / 2) × ((knows a.view s).finds ≡ (knows v s).finds)). (high.0, high.1, (let e = h.0 in let g = high.2 in omega arith))) (λ (h : (column : ℕ) × (column < v.limits.columns) × ((entry_at entries column).until < q.word / 2)). h) q.quiet);
      };
    }

-- ---- what is saved

module _ (store : Store) (v : View) (a : Sitting) (b : View) (s rec n : ℕ) (entries : List Entry) (patch : List (Option Cell)) (p : RowPages store v a s rec n entries patch) (ab : Watched a.view b s) where
  refused : (q : SavingRow v a.view s rec n entries) → (column : ℕ) (low : column < v.limits.columns) → (entry_at entries column).until < q.word / 2 → q.word / 2 ≤ (q.page column low).tps → time_of (q.page column low).stamp ≤ (knows v s).begin → (knows b s).finds ≡ (knows v s).finds
  refused q column low high few early = absurd (let e = q.until column low early in omega arith)

  -- by the pages' TPS
  soon_by : (q : SavingRow v a.view s rec n entries) → LoadsOf v b s (IsPast v rec entries) → LoadsOf v b s (λ t. (column : ℕ) × (low : column < v.limits.columns) × (time_of (q.page column low).stamp ≤ (knows v s).begin → IsAbove v rec (q.page column low).tps t))
  soon_by q past = loads_weaker (IsPast v rec entries) (λ t. (column : ℕ) × (low : column < v.limits.columns) × (time_of (q.page column low).stamp ≤ (knows v s).begin → IsAbove v rec (q.page column low).tps t))
      (λ t is. (is.0, is.1, λ early. subst (λ (m : ℕ). IsAbove v rec m t) (q.until is.0 is.1 early) is.2)) v b s past

  pub rows_saved : (knows b s).finds ≡ (knows a.view s).finds → 0 < (knows v s).pages.session.pin → SavesByPages v b s rec
  rows_saved same pinned = let q = p.saves pinned in record {
    headed = q.headed;
    word = q.word;
    head = q.head;
    some = q.some;
    page = λ column low. reads_later q.headed a.view b s rec column ab (q.page column low);
    soon = soon_by q (loads_join (IsPast v rec entries) v a.view b s q.past (loads_none (IsPast v rec entries) a.view b s same));
    quiet = λ all. ⊎_elim (λ (h : (n ≡ q.word / 2) × ((knows a.view s).finds ≡ (knows v s).finds)). same ∙ h.1)
        (λ (h : (column : ℕ) × (column < v.limits.columns) × ((entry_at entries column).until < q.word / 2)). refused q h.0 h.1 h.2 (all h.0 h.1).0 (all h.0 h.1).1) q.quiet;
  }

  pub rows_held : ((column : ℕ) × (column < v.limits.columns) × ((entry_at entries column).until < n)) → (range t : ℕ) → range ≡ rec / 256 → t ≡ range * store.layout.limits.tails + n → LoadsTail a.view b s t → 0 < (knows v s).pages.session.pin → SavesByPages v b s rec
  rows_held high range t range_is tail_is looks pinned = let q = p.saves pinned in record {
    headed = q.headed;
    word = q.word;
    head = q.head;
    some = q.some;
    page = λ column low. reads_later q.headed a.view b s rec column ab (q.page column low);
    soon = soon_by q (loads_join (IsPast v rec entries) v a.view b s q.past (loads_past a.view b s t (IsPast v rec entries) (past_here store v a s rec n range t range_is tail_is entries patch p high) looks));
    quiet = λ all. ⊎_elim (λ (h : (n ≡ q.word / 2) × ((knows a.view s).finds ≡ (knows v s).finds)). refused q high.0 high.1 (let e = h.0 in let g = high.2 in omega arith) (all high.0 high.1).0 (all high.0 high.1).1)
        (λ (h : (column : ℕ) × (column < v.limits.columns) × ((entry_at entries column).until < q.word / 2)). refused q h.0 h.1 h.2 (all h.0 h.1).0 (all h.0 h.1).1) q.quiet;
  }

-- ---- one column

-- its page serves a walk that has come to the number n
module _ (store : Store) (v : View) (a : Sitting) (s rec n column : ℕ) (entry : Entry) (patch : List (Option Cell)) (walk : RowWalk store v a s rec n patch) (host : hosts v s ≡ true) (opened : (knows v s).is_open ≡ true) (short : column < store.layout.limits.columns) (serves : Serves v a.view s rec column (walk.passed ++ walk.versions) entry) (usable : n ≤ entry.until) where
  abbrev copy : List Version
  copy = walk.passed ++ walk.versions

  abbrev values : List ℕ
  values = serves.page.right.entries.values

  pub column_packs : Packs (packed_words a.view s entry.frame) serves.page.right.entries.values
  column_packs = subst (λ (ws : List ℕ). Packs ws values) (sym (packed_same (knows a.view s).pages.session entry.frame serves.words serves.in_hand)) serves.page.right.entries.packed

  pub column_limits : serves.between.limits ≡ store.layout.limits
  column_limits = sym serves.after.learns.limits ∙ walk.reader.seat_of.limits

  columns_is : v.limits.columns ≡ store.layout.limits.columns
  columns_is = ap (λ (l : Limits). l.columns) (sym walk.watched.learns.limits ∙ walk.reader.seat_of.limits)

  short_there : column < serves.between.limits.columns
  short_there = subst (λ (l : Limits). column < l.columns) (sym column_limits) short

  sight : IsSightOf (knows v s) rec (seen_acts (knows v s) s copy)
  sight = subst (λ acts. IsSightOf (knows v s) rec acts) walk.whole walk.sees

  module _ (unset : slice_get patch column ≡ Some None) where
    abbrev may : MayUse (knows v s) serves.between s rec column n walk.passed walk.versions serves.words
    may = record {
      page = serves.page;
      head = serves.head;
      copy = serves.copied;
      leads = subst (λ (l : Limits). Leads l (range_of rec) n walk.versions) (sym column_limits) walk.chain.leads;
      above_leaves = walk.left column unset;
      low = let e = serves.is.until in omega arith;
      timely = serves.is.timely;
    }

    abbrev uses : (b : View) → Watched a.view b s → UsesPage v b s rec column walk.passed walk.versions
    uses b ab = record { between = serves.between; before = serves.before; after = watched_on serves.between a.view b s serves.after ab; number = n; words = serves.words; frame = entry.frame; in_hand = hand_stays a.view b s entry.frame serves.words ab serves.in_hand; may = may }

    abbrev on_page : (b : View) → Watched a.view b s → UsedPage v b s rec column walk.passed walk.versions
    on_page b ab = record { above = walk.passed; below = []; parts = sym (append-nil walk.passed); uses = uses b ab }

    -- an absent entry
    pub column_none : is_present (stamp_in serves.words (rec % 256)) ≡ false → (b : Sitting) → Watched a.view b.view s → HasNoRow v b s rec
    column_none none b ab = (
      (walk.acts, walk.sees, sym (ap (row_from None) walk.whole ∙ entry_absent v serves.between s rec column n walk.passed walk.versions serves.words walk.possible host opened serves.before short_there may sight none)),
      (walk.passed, walk.versions, passes_later v a.view b.view s rec walk.passed ab walk.versions walk.passes, inr (inr (refl, record { column = column; low = (let e = columns_is in omega arith); uses = uses b.view ab; absent = none }))),
    )

    -- a present one tells the cell of the row
    pub column_told : is_present (stamp_in serves.words (rec % 256)) ≡ true → column_of column (row_from None walk.acts) ≡ Some (frames.cell_in serves.words (slice_index serves.page.right.entries.values (rec % 256)) (rec % 256))
    column_told there = ap (λ acts. column_of column (row_from None acts)) walk.whole ∙ entry_present v serves.between s rec column n walk.passed walk.versions serves.words walk.possible host opened serves.before short_there may sight there

    -- which is put into the patch
    abbrev pub column_set : (b : Sitting) → Watched a.view b.view s → IsReader store b s → (cell : Cell) → column_of column (row_from None walk.acts) ≡ Some cell → RowWalk store v b s rec n (slice_set patch column (Some cell))
    column_set b ab reader cell told = let low : column < length patch = (let w = walk.wide in omega arith) in record {
      reader = reader;
      possible = walk.possible;
      watched = watched_on v a.view b.view s walk.watched ab;
      wide = length-set patch column (Some cell) ∙ walk.wide;
      passed = walk.passed;
      versions = walk.versions;
      passes = passes_later v a.view b.view s rec walk.passed ab walk.versions walk.passes;
      chain = chain_stays store.layout.limits (knows a.view s).facts (knows b.view s).facts rec n walk.versions (facts_on a.view b.view s ab) walk.chain;
      fits = walk.fits;
      acts = walk.acts;
      sees = walk.sees;
      answers = walk.answers ∙ sym (set_known (row_from None (seen_acts (knows v s) s walk.versions)) patch column cell low (ap (column_of column) (sym walk.answers) ∙ told));
      made = λ other few. dite (ℕ_discrete other column)
          (λ e. inr (subst (λ (c : ℕ). UsedPage v b.view s rec c walk.passed walk.versions) (sym e) (on_page b.view ab)))
          (λ ne. ⊎_elim
          (λ (made : MakeColumn (knows v s) s other walk.passed patch). inl (λ older. made older ∙ sym (column_other older patch column other cell ne)))
          (λ (page : UsedPage v a.view s rec other walk.passed walk.versions). inr (used_on v a.view b.view s rec other walk.passed walk.versions ab page))
          (walk.made other few));
      whole = walk.whole;
      left = λ other none. walk.left other (still_unset patch column other cell low none).0;
    }

-- with the entries of all columns
module _ (store : Store) (v : View) (a : Sitting) (s rec n column : ℕ) (entries : List Entry) (patch : List (Option Cell)) (p : RowPages store v a s rec n entries patch) (short : column < store.layout.limits.columns) (some : 0 < n) (usable : n ≤ (entry_at entries column).until) where
  abbrev serves_it : Serves v a.view s rec column (p.walk.passed ++ p.walk.versions) (entry_at entries column)
  serves_it = p.serves column short (omega arith)

  its_packs : Packs (packed_words a.view s (entry_at entries column).frame) serves_it.page.right.entries.values
  its_packs = column_packs store v a s rec n column (entry_at entries column) patch p.walk p.host p.opened short serves_it usable

  pub fill_packed : IsPacked (packed_words a.view s (entry_at entries column).frame)
  fill_packed = (serves_it.page.right.entries.values, its_packs)

  pub fill_low : (entry_at entries column).frame < frame_count a.view.limits
  fill_low = serves_it.low

  module _ (unset : slice_get patch column ≡ Some None) where
    abbrev there_is : Bool
    there_is = (entry_at entries column).is_present

    abbrev its_cell : Cell
    its_cell = frames.cell_in serves_it.words (slice_index serves_it.page.right.entries.values (rec % 256)) (rec % 256)

    -- an absent entry
    pub fill_none : (b : Sitting) → Watched a.view b.view s → ((vs : List ℕ) → Packs (packed_words a.view s (entry_at entries column).frame) vs → None ≡ cond (entry_at entries column).is_present (Some (frames.cell_in serves_it.words (slice_index vs (rec % 256)) (rec % 256))) None) → HasNoRow v b s rec
    fill_none b ab is = column_none store v a s rec n column (entry_at entries column) patch p.walk p.host p.opened short serves_it usable unset (sym serves_it.is.present ∙ absent there_is its_cell (is serves_it.page.right.entries.values its_packs)) b ab
      where
        absent : (e : Bool) (cell : Cell) → None ≡ cond e (Some cell) None → e ≡ false
        absent true cell is = absurd (true≢false (sym (ap is_some is)))
        absent false cell is = refl

    -- a present one
    pub fill_some : (b : Sitting) → Skims a.view b.view s → IsReader store b s → (cell : Cell) → ((vs : List ℕ) → Packs (packed_words a.view s (entry_at entries column).frame) vs → Some cell ≡ cond (entry_at entries column).is_present (Some (frames.cell_in serves_it.words (slice_index vs (rec % 256)) (rec % 256))) None)
        → (used : Bool) → used ≡ true → GoesOn store v b s rec n entries (slice_set patch column (Some cell)) used
    fill_some b skims reader cell is used always =
        let still : RowPages store v b s rec n entries patch = pages_stay store v a b s rec n entries patch p skims reader in
        let told : column_of column (row_from None p.walk.acts) ≡ Some cell = column_told store v a s rec n column (entry_at entries column) patch p.walk p.host p.opened short serves_it usable unset (sym serves_it.is.present ∙ present there_is cell its_cell (is serves_it.page.right.entries.values its_packs))
        ∙ cell_is there_is cell its_cell (is serves_it.page.right.entries.values its_packs) in record {
          pages = record {
            host = p.host;
            opened = p.opened;
            walk = column_set store v a s rec n column (entry_at entries column) patch p.walk p.host p.opened short serves_it usable unset b skims.watched reader cell told;
            wide = p.wide;
            serves = λ other few usable. serves_later v a.view b.view s rec other (p.walk.passed ++ p.walk.versions) (entry_at entries other) skims.watched (p.serves other few usable);
            saves = still.saves;
          };
          row = λ yes. column_some column (row_from None p.walk.acts) cell told;
        }
      where
        present : (e : Bool) (cell other : Cell) → Some cell ≡ cond e (Some other) None → e ≡ true
        present true cell other is = refl
        present false cell other is = absurd (true≢false (ap is_some is))

        cell_is : (e : Bool) (cell other : Cell) → Some cell ≡ cond e (Some other) None → Some other ≡ Some cell
        cell_is true cell other is = sym is
        cell_is false cell other is = absurd (true≢false (ap is_some is))

-- ---- the row of the patch

pub walk_whole : (store : Store) (v : View) (b : Sitting) (s rec n : ℕ) (patch : List (Option Cell)) (row : List Cell) (w : RowWalk store v b s rec n patch) → is_some (row_from None w.acts) ≡ true → list_all is_some patch ≡ true → row ≡ map (λ cell. unwrap_or cell None) patch → IsRowOf v s rec (Some row)
walk_whole store v b s rec n patch row w some all is = let older : Option (List Cell) = row_from None (seen_acts (knows v s) s w.versions) in (
  w.acts,
  w.sees,
  ap (λ (r : List Cell). Some r) is ∙ sym (w.answers ∙ row_all store.layout.limits.columns older patch (wide_row store.layout.limits rec (knows v s) s w.versions w.chain.whole) w.wide (ap is_some (sym w.answers) ∙ some) all),
)

pub walk_walked : (store : Store) (v : View) (b : Sitting) (s rec n : ℕ) (patch : List (Option Cell)) (row : List Cell) → RowWalk store v b s rec n patch → list_all is_some patch ≡ true → row ≡ map (λ cell. unwrap_or cell None) patch → WalksRow v b.view s rec (Some row)
walk_walked store v b s rec n patch row w all is = let few : length patch ≡ v.limits.columns = w.wide ∙ ap (λ (l : Limits). l.columns) (sym w.reader.seat_of.limits ∙ w.watched.learns.limits) in (
  w.passed,
  w.versions,
  w.passes,
  inr (inl (λ column low. ⊎_elim
      (λ (made : MakeColumn (knows v s) s column w.passed patch). inl (λ older wide turn. whole_decided v.limits.columns column (seen_acts (knows v s) s w.passed) patch low few all made older wide turn ∙ ap (λ (r : List Cell). column_of column (Some r)) (sym is)))
      (λ (page : UsedPage v b.view s rec column w.passed w.versions). inr page)
      (w.made column low))),
)

pub rows_whole : (store : Store) (v : View) (b : Sitting) (s rec n : ℕ) (entries : List Entry) (patch : List (Option Cell)) (row : List Cell) → GoesOn store v b s rec n entries patch true → list_all is_some patch ≡ true → row ≡ map (λ cell. unwrap_or cell None) patch → IsRowOf v s rec (Some row)
rows_whole store v b s rec n entries patch row goes all is = walk_whole store v b s rec n patch row goes.pages.walk (goes.row refl) all is

pub rows_walked : (store : Store) (v : View) (b : Sitting) (s rec n : ℕ) (entries : List Entry) (patch : List (Option Cell)) (row : List Cell) → GoesOn store v b s rec n entries patch true → list_all is_some patch ≡ true → row ≡ map (λ cell. unwrap_or cell None) patch → WalksRow v b.view s rec (Some row)
rows_walked store v b s rec n entries patch row goes all is = walk_walked store v b s rec n patch row goes.pages.walk all is

-- ---- the columns one after the other

or_true : (b : Bool) → (b || true) ≡ true
or_true true = refl
or_true false = refl

or_false : (b : Bool) → (b || false) ≡ b
or_false true = refl
or_false false = refl

or_none : (b d : Bool) → (b || d) ≡ false → (b ≡ false) × (d ≡ false)
or_none true d e = absurd (true≢false e)
or_none false d e = (refl, e)

pub goes_used : (store : Store) (v : View) (b : Sitting) (s rec n : ℕ) (entries : List Entry) (patch : List (Option Cell)) (was : Bool) → ((used : Bool) → used ≡ true → GoesOn store v b s rec n entries patch used) → GoesOn store v b s rec n entries patch (was || true)
goes_used store v b s rec n entries patch was goes = goes (was || true) (or_true was)

pub goes_same : (store : Store) (v : View) (b : Sitting) (s rec n : ℕ) (entries : List Entry) (patch : List (Option Cell)) (was : Bool) → GoesOn store v b s rec n entries patch was → GoesOn store v b s rec n entries patch (was || false)
goes_same store v b s rec n entries patch was goes = subst (λ (u : Bool). GoesOn store v b s rec n entries patch u) (sym (or_false was)) goes

pub unset_at : (patch : List (Option Cell)) (k : ℕ) → k < length patch → is_some (slice_index_or patch k None) ≡ false → slice_get patch k ≡ Some None
unset_at patch k low none = slice_get-get_or patch k None low ∙ ap (λ o. Some o) (of_none (slice_index_or patch k None) none)
  where
    of_none : (o : Option Cell) → is_some o ≡ false → o ≡ None
    of_none None e = refl
    of_none (Some x) e = absurd (true≢false e)

pub set_at : (patch : List (Option Cell)) (k : ℕ) → k < length patch → slice_get patch k ≡ Some None → is_some (slice_index_or patch k None) ≡ false
set_at patch k low at = ap is_some (ap (λ (o : Option (Option Cell)). unwrap_or o None) (sym (slice_get-get_or patch k None low) ∙ at))

pub sets_used : (n : ℕ) (entries : List Entry) (column : ℕ) (patch : List (Option Cell)) (cell : Cell) → column < length patch → SetsColumn n entries column patch (slice_set patch column (Some cell)) (Some true)
sets_used n entries column patch cell low = (
  λ e. absurd (true≢false e),
  length-set patch column (Some cell),
  λ none. absurd ((still_unset patch column column cell low none).1 refl),
  λ other none. (still_unset patch column other cell low none).0,
)

pub fill_start : (store : Store) (a : Sitting) (s rec n : ℕ) (entries : List Entry) (patch : List (Option Cell)) → IsReader store a s → length patch ≡ store.layout.limits.columns → FillWalk store a a s rec n 0 entries patch patch false
fill_start store a s rec n entries patch reader wide = record {
  reader = reader;
  skims = skims_same a.view s;
  wide = wide;
  goes = λ v p. record { pages = p; row = λ e. absurd (true≢false (sym e)) };
  same = λ e. refl;
  done = λ column low none. absurd (omega arith);
}

pub fill_next : (store : Store) (a b d : Sitting) (s rec n k : ℕ) (entries : List Entry) (old now next : List (Option Cell)) (was used : Bool) → FillWalk store a b s rec n k entries old now was → IsReader store d s → Skims b.view d.view s
    → ((v : View) (u : Bool) → GoesOn store v b s rec n entries now u → GoesOn store v d s rec n entries next (u || used)) → SetsColumn n entries k now next (Some used) → FillWalk store a d s rec n (k + 1) entries old next (was || used)
fill_next store a b d s rec n k entries old now next was used walk reader skims goes sets = record {
  reader = reader;
  skims = skims_on a.view b.view d.view s walk.skims skims;
  wide = sets.1 ∙ walk.wide;
  goes = λ v p. goes v was (walk.goes v p);
  same = λ none. let e = or_none was used none in sets.0 e.1 ∙ walk.same e.0;
  done = λ column low none. dite (ℕ_discrete column k)
      (λ e. subst (λ (c : ℕ). (entry_at entries c).until < n) (sym e) (sets.2 (subst (λ (c : ℕ). slice_get next c ≡ Some None) e none)))
      (λ ne. walk.done column (omega arith) (sets.3 column none));
}

-- ---- some column isn't set

pub unset_still : (old now : List (Option Cell)) → list_all is_some old ≡ false → (now ≡ old) ⊎ (list_all is_some now ≡ false) → list_all is_some now ≡ false
unset_still old now none same = ⊎_elim (λ (e : now ≡ old). ap (list_all is_some) e ∙ none) (λ (e : list_all is_some now ≡ false). e) same

pub high_column : (store : Store) (v : View) (a : Sitting) (s rec n : ℕ) (entries : List Entry) (patch : List (Option Cell)) → RowPages store v a s rec n entries patch → list_all is_some patch ≡ false → ((column : ℕ) → column < store.layout.limits.columns → slice_get patch column ≡ Some None → (entry_at entries column).until < n)
    → (column : ℕ) × (column < v.limits.columns) × ((entry_at entries column).until < n)
high_column store v a s rec n entries patch p none all = let q = some_unset patch none in let low : q.0 < store.layout.limits.columns = (let w = p.walk.wide in let h = q.1 in omega arith) in
    let columns_is : v.limits.columns ≡ store.layout.limits.columns = ap (λ (l : Limits). l.columns) (sym p.walk.watched.learns.limits ∙ p.walk.reader.seat_of.limits) in (q.0, (omega arith), all q.0 low q.2)
