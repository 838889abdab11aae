-- A row of which the pages tell every column at the record's newest version: one column after the other.
use Rattle.std.proofs.Common.{◌≡◌, ℕ, zero, suc, ◌+◌, ◌/◌, ◌%◌, ◌<◌, ◌≤◌, List, [], ◌∷◌, ◌++◌, true, refl, sym, subst, ap, ◌∙◌, arith, length, length-append, map, replicate, slice_index, slice_set}
use Rattle.std.specs.Prelude.{Bool, cond, Option, Some, None, is_some, slice_get, unwrap_or}
use Rattle.std.specs.List.{list_all}
use Rattle.lst_layout.specs.declared.place.Place.TheVariants.{HeadWord}
use Rattle.lst_layout.specs.declared.limits.Limits.{Limits}
use Rattle.lst_model.specs.Cells.{Cell, number_of}
use Rattle.lst_pages.specs.declared.entries.Entry as page_entries
use Rattle.lst_model.specs.Histories.{row_from}
use Rattle.lst_core_state.specs.declared.known.Known.{Known}
use Rattle.lst_pack.specs.Forms.{Packs}
use Rattle.lst_pages.specs.Frames as frames
use Rattle.lst_pages.specs.Rows.{column_of}
use Rattle.lst_rule.specs.declared.view.View.{View}
use Rattle.lst_rule.specs.declared.store.Store.{Store}
use Rattle.lst_rule.specs.Rule.{knows, hosts}
use Rattle.lst_rule.specs.Seats.{Sitting}
use Rattle.lst_rule.specs.Stores.{Looked}
use Rattle.lst_rule.specs.Watching.{HasInHand, Watched}
use Rattle.lst_rule.proofs.Watching.{watched_same}
use Rattle.lst_walk.specs.Readers.{IsReader}
use Rattle.lst_walk.specs.Packed.{packed_words, Skims, skims_same, skims_on}
use Rattle.lst_walk.specs.Pages.{ReadsPage, Takes}
use Rattle.lst_walk.specs.declared.pages.Entry.{Entry}
use Rattle.lst_walk.specs.Taking.{TakesAll}
use Rattle.lst_walk.specs.Filling.{RowPages}
use Rattle.lst_walk.specs.Walks.{RowWalk, Serves}
use Rattle.lst_walk.specs.Whole.{TellsCell, PagedRow, PagedBy, PagedWalk}
use Rattle.lst_walk.proofs.Reading.{watched_on}
use Rattle.lst_rule.proofs.Finds.{loads_none}
use Rattle.lst_walk.proofs.Lists.{column_some}
use Rattle.lst_walk.proofs.Walking.{row_stays}
use Rattle.lst_walk.proofs.Paging.{reads_later}
use Rattle.lst_walk.proofs.Loading.{packed_same}
use Rattle.lst_walk.proofs.Rowing.{rows_start, takes_later, serves_from, takes_earlier, column_told, column_set, walk_whole, walk_walked}
use mathlib.Core.Logic.{dite}
use native.Mathlib.Decide.{ℕ_discrete}

-- ---- the patch of the cells so far

set_next : (cells : List Cell) (rest : ℕ) (cell : Cell) → slice_set (map (λ cell. Some cell) cells ++ replicate (suc rest) None) (length cells) (Some cell) ≡ map (λ cell. Some cell) (cells ++ cell ∷ []) ++ replicate rest None
set_next [] rest cell = refl
set_next (x ∷ cells) rest cell = ap (λ (xs : List (Option Cell)). Some x ∷ xs) (set_next cells rest cell)

unset_next : (cells : List Cell) (rest : ℕ) → slice_get (map (λ cell. Some cell) cells ++ replicate {A = Option Cell} (suc rest) None) (length cells) ≡ Some None
unset_next [] rest = refl
unset_next (x ∷ cells) rest = unset_next cells rest

all_set : (cells : List Cell) → list_all is_some (map (λ cell. Some cell) cells ++ []) ≡ true
all_set [] = refl
all_set (x ∷ cells) = all_set cells

row_set : (cells : List Cell) → cells ≡ map (λ (cell : Option Cell). unwrap_or cell None) (map (λ cell. Some cell) cells ++ [])
row_set [] = refl
row_set (x ∷ cells) = ap (λ (xs : List Cell). x ∷ xs) (row_set cells)

-- ---- a page that was taken in hand is packed

pub taken_packs : (v w : View) (s rec column : ℕ) (entry : Entry) (t : Takes v w s rec column entry) → Packs (packed_words w s entry.frame) t.page.right.entries.values
taken_packs v w s rec column entry t = subst (λ (ws : List ℕ). Packs ws t.page.right.entries.values) (sym (packed_same (knows w s).pages.session entry.frame t.words t.in_hand)) t.page.right.entries.packed

-- ---- one column after the other

pub paged_start : (store : Store) (v : View) (h : Sitting) (s rec n word : ℕ) → hosts v s ≡ true → (knows v s).is_open ≡ true → RowWalk store v h s rec n (replicate store.layout.limits.columns None) → Looked v h.view s (HeadWord rec) word → n ≡ word / 2 → 0 < n → PagedRow store v h s rec n 0 []
paged_start store v h s rec n word host opened walk looked is some = record {
  host = host;
  opened = opened;
  rest = store.layout.limits.columns;
  count = refl;
  columns = omega arith;
  patch = replicate store.layout.limits.columns None;
  is = refl;
  walk = walk;
  row = λ some. absurd (omega arith);
  headed = h.view;
  word = word;
  head = looked;
  is_head = is;
  some = some;
  later = watched_same h.view s;
  quiet = ap (λ (k : Known). k.finds) looked.view.now;
  reads = λ column low. absurd (omega arith);
}

-- with a column to come
paged_more : (store : Store) (v : View) (a b : Sitting) (s rec n k rest : ℕ) (cells : List Cell) (cell : Cell) → 0 < n → k < store.layout.limits.columns → (p : PagedRow store v a s rec n k cells) → suc rest ≡ p.rest → TellsCell a.view b.view s rec n k cell → IsReader store b s → Skims a.view b.view s → PagedRow store v b s rec n (k + 1) (cells ++ cell ∷ [])
unfolding row_stays
paged_more store v a b s rec n k rest cells cell some few p e t reader skims =
    let is : p.patch ≡ map (λ cell. Some cell) cells ++ replicate (suc rest) None = p.is ∙ ap (λ (m : ℕ). map (λ cell. Some cell) cells ++ replicate m None) (sym e) in
    let still : RowWalk store v b s rec n p.patch = row_stays store v a b s rec n p.patch p.walk skims.watched reader in
    let serves : Serves v b.view s rec k (still.passed ++ still.versions) t.entry = serves_from store v a b s rec n p.patch p.walk k t.entry t.takes (let u = t.usable in omega arith) in
    let unset : slice_get p.patch k ≡ Some None = ap (λ (q : List (Option Cell)). slice_get q k) is ∙ (ap (slice_get (map (λ cell. Some cell) cells ++ replicate (suc rest) None)) (sym p.count) ∙ unset_next cells rest) in
    let told : column_of k (row_from None still.acts) ≡ Some cell = column_told store v b s rec n k t.entry p.patch still p.host p.opened few serves t.usable unset (sym serves.is.present ∙ t.present) ∙ ap (λ (x : Cell). Some x) (sym t.is) in record {
      host = p.host;
      opened = p.opened;
      rest = rest;
      count = length-append cells (cell ∷ []) ∙ (let c = p.count in omega arith);
      columns = let c = p.columns in omega arith;
      patch = slice_set p.patch k (Some cell);
      is = ap (λ (q : List (Option Cell)). slice_set q k (Some cell)) is ∙ (ap (λ (i : ℕ). slice_set (map (λ cell. Some cell) cells ++ replicate (suc rest) None) i (Some cell)) (sym p.count) ∙ set_next cells rest cell);
      walk = column_set store v b s rec n k t.entry p.patch still p.host p.opened few serves t.usable unset b (watched_same b.view s) reader cell told;
      row = λ many. column_some k (row_from None still.acts) cell told;
      headed = p.headed;
      word = p.word;
      head = p.head;
      is_head = p.is_head;
      some = some;
      later = watched_on p.headed a.view b.view s p.later skims.watched;
      quiet = skims.finds ∙ p.quiet;
      reads = λ column low. dite (ℕ_discrete column k)
          (λ same. subst (λ (c : ℕ). ReadsPage p.headed b.view s rec c) (sym same) (takes_earlier p.headed a.view b.view s rec k t.entry p.later t.takes).reads)
          (λ other. reads_later p.headed a.view b.view s rec column skims.watched (p.reads column (omega arith)));
    }

pub paged_next : (store : Store) (v : View) (a b : Sitting) (s rec n k : ℕ) (cells : List Cell) (cell : Cell) → 0 < n → k < store.layout.limits.columns → PagedRow store v a s rec n k cells → TellsCell a.view b.view s rec n k cell → IsReader store b s → Skims a.view b.view s → PagedRow store v b s rec n (k + 1) (cells ++ cell ∷ [])
paged_next store v a b s rec n k cells cell some few p t reader skims = by_rest p.rest refl
  where
    by_rest : (m : ℕ) → m ≡ p.rest → PagedRow store v b s rec n (k + 1) (cells ++ cell ∷ [])
    by_rest zero e = absurd (let c = p.columns in omega arith)
    by_rest (suc rest) e = paged_more store v a b s rec n k rest cells cell some few p e t reader skims

-- ---- all columns

pub paged_whole : (store : Store) (v : View) (b : Sitting) (s rec n k : ℕ) (cells : List Cell) → 0 < k → store.layout.limits.columns ≤ k → PagedRow store v b s rec n k cells → PagedBy v b.view s rec cells
paged_whole store v b s rec n k cells some high p =
    let none : p.rest ≡ 0 = (let c = p.columns in omega arith) in
    let is : p.patch ≡ map (λ cell. Some cell) cells ++ [] = p.is ∙ ap (λ (m : ℕ). map (λ cell. Some cell) cells ++ replicate m None) none in
    let all : list_all is_some p.patch ≡ true = ap (list_all is_some) is ∙ all_set cells in
    let row : cells ≡ map (λ (cell : Option Cell). unwrap_or cell None) p.patch = row_set cells ∙ ap (map (λ (cell : Option Cell). unwrap_or cell None)) (sym is) in
    let columns_is : v.limits.columns ≡ store.layout.limits.columns = ap (λ (l : Limits). l.columns) (sym p.walk.watched.learns.limits ∙ p.walk.reader.seat_of.limits) in record {
      row = walk_whole store v b s rec n p.patch cells p.walk (p.row some) all row;
      walk = walk_walked store v b s rec n p.patch cells p.walk all row;
      saves = record {
        headed = p.headed;
        word = p.word;
        head = p.head;
        some = let e = p.is_head in let n = p.some in omega arith;
        page = λ column low. p.reads column (omega arith);
        soon = loads_none _ v b.view s p.quiet;
        quiet = λ early. p.quiet;
      };
    }

-- ---- the loop

pub paged_walk_start : (store : Store) (a : Sitting) (s rec n : ℕ) (cells : List Cell) → cells ≡ [] → IsReader store a s → PagedWalk store a a s rec n 0 cells
paged_walk_start store a s rec n cells none reader = record { reader = reader; skims = skims_same a.view s; count = ap length none; goes = λ v p. subst (λ (xs : List Cell). PagedRow store v a s rec n 0 xs) (sym none) p }

pub paged_walk_next : (store : Store) (a b d : Sitting) (s rec n k : ℕ) (cells more : List Cell) (cell : Cell) → 0 < n → k < store.layout.limits.columns → PagedWalk store a b s rec n k cells → IsReader store d s → Skims b.view d.view s → TellsCell b.view d.view s rec n k cell → more ≡ cells ++ cell ∷ [] → PagedWalk store a d s rec n (k + 1) more
paged_walk_next store a b d s rec n k cells more cell some few walk reader skims tells is = record {
  reader = reader;
  skims = skims_on a.view b.view d.view s walk.skims skims;
  count = ap length is ∙ (length-append cells (cell ∷ []) ∙ (let c = walk.count in omega arith));
  goes = λ v p. subst (λ (xs : List Cell). PagedRow store v d s rec n (k + 1) xs) (sym is) (paged_next store v b d s rec n k cells cell some few (walk.goes v p) tells reader skims);
}

-- ---- the walk, where the pages don't tell the row

-- looks at pages leave the walk at its start
pub paged_stays : (store : Store) (v : View) (a b : Sitting) (s rec n : ℕ) → PagedRow store v a s rec n 0 [] → Skims a.view b.view s → IsReader store b s → PagedRow store v b s rec n 0 []
paged_stays store v a b s rec n p skims reader = record {
  host = p.host;
  opened = p.opened;
  rest = p.rest;
  count = p.count;
  columns = p.columns;
  patch = p.patch;
  is = p.is;
  walk = row_stays store v a b s rec n p.patch p.walk skims.watched reader;
  row = λ some. absurd (omega arith);
  headed = p.headed;
  word = p.word;
  head = p.head;
  is_head = p.is_head;
  some = p.some;
  later = watched_on p.headed a.view b.view s p.later skims.watched;
  quiet = skims.finds ∙ p.quiet;
  reads = λ column low. absurd (omega arith);
}

pub walked_start : (store : Store) (v : View) (a b : Sitting) (s rec n : ℕ) (entries : List Entry) (patch : List (Option Cell)) → patch ≡ replicate store.layout.limits.columns None → PagedRow store v a s rec n 0 [] → TakesAll store a.view b s rec store.layout.limits.columns entries → RowPages store v b s rec n entries patch
walked_start store v a b s rec n entries patch is p all =
    let all_none : p.rest ≡ store.layout.limits.columns = (let c = p.columns in omega arith) in
    let same : p.patch ≡ patch = p.is ∙ (ap (λ (m : ℕ). replicate m None) all_none ∙ sym is) in
    rows_start store v p.headed a b s rec n entries patch p.host p.opened (subst (λ (q : List (Option Cell)). RowWalk store v a s rec n q) same p.walk) p.word p.head p.is_head p.some
    (record { watched = p.later; finds = p.quiet ∙ sym (ap (λ (k : Known). k.finds) p.head.view.now) }) all

-- ---- a cell that a page tells

-- the page's value of a present entry is the number of its cell
told_number : (v w : View) (s rec column : ℕ) (entry : Entry) (t : Takes v w s rec column entry) → 0 < entry.until → entry.is_present ≡ true → slice_index t.page.right.entries.values (rec % 256) ≡ number_of (frames.cell_in t.words (slice_index t.page.right.entries.values (rec % 256)) (rec % 256))
told_number v w s rec column entry t some there =
    let cell : Cell = frames.cell_in t.words (slice_index t.page.right.entries.values (rec % 256)) (rec % 256) in
    let e = t.page.right.entries.each (rec % 256) (omega arith) in
    e.number cell (ap (λ (x : page_entries.Entry). x.cell) (sym e.told) ∙ ap (λ (b : Bool). cond b (Some cell) None) (sym (t.usable some).present ∙ there))

pub tells_cell : (v w x : View) (s rec n column : ℕ) (entry : Entry) (cell : Cell) (t : Takes v w s rec column entry) → 0 < n → n ≤ entry.until → entry.is_present ≡ true → Watched w x s
    → ((words : ℕ → ℕ) → HasInHand (knows w s).pages.session entry.frame words → (values : List ℕ) → Packs (packed_words w s entry.frame) values → slice_index values (rec % 256) ≡ number_of (frames.cell_in words (slice_index values (rec % 256)) (rec % 256)) → cell ≡ frames.cell_in words (slice_index values (rec % 256)) (rec % 256)) → TellsCell v x s rec n column cell
unfolding takes_later
tells_cell v w x s rec n column entry cell t some usable there more is = record {
  entry = entry;
  takes = takes_later v w x s rec column entry more t;
  usable = usable;
  present = there;
  is = is t.words t.in_hand t.page.right.entries.values (taken_packs v w s rec column entry t) (told_number v w s rec column entry t (omega arith) there);
}
