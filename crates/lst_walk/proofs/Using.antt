-- What the entry of a page says of the row that a transaction sees.
use Rattle.std.proofs.Common.{◌≡◌, ◌≢◌, ℕ, zero, suc, ◌+◌, ◌%◌, ◌<◌, ◌≤◌, List, [], ◌∷◌, ◌++◌, Bool, true, false, cond, slice_index_or, refl, sym, subst, ap, ◌∙◌, arith, inl, inr, ◌⊎◌, ⊎_elim, Contains}
use Rattle.std.specs.Prelude.{Option, None, Some, unwrap_or, slice_index}
use Rattle.lst_layout.specs.Words.{shown}
use Rattle.lst_bits.specs.Times.{is_present}
use Rattle.lst_model.specs.declared.acts.Act.{Act}
use Rattle.lst_model.specs.declared.commits.Commit.{Commit}
use Rattle.lst_model.specs.Cells.{Cell, number_of, number_at}
use Rattle.lst_model.specs.Histories.{row_from}
use Rattle.lst_model.specs.Soundness.{FitInTurn}
use Rattle.lst_core_state.specs.Lists.{is_until}
use Rattle.lst_core_state.specs.declared.known.Known.{Known}
use Rattle.lst_core_state.specs.declared.facts.Fact.TheVariants.{IndexAt, ChainEnds}
use Rattle.lst_core_state.specs.Cells.{range_of}
use Rattle.lst_core_state.specs.Facts.{IsFact}
use Rattle.lst_core_state.specs.State.{Words, Core, entry, name_of, line, sight, state_over}
use Rattle.lst_core_state.specs.Sound.{FactsOf, IsRecorded}
use Rattle.lst_pages.specs.declared.entries.Entry.{Entry}
use Rattle.lst_pages.specs.Frames as frames
use Rattle.lst_pages.specs.Frames.{tps_in, stamp_in, entry_in, IsEntry, HasEntries}
use Rattle.lst_pages.specs.Rows.{cell_at, column_of}
use Rattle.lst_pages.specs.Chains.{entry_at}
use Rattle.lst_pages.specs.Settled.{settled_tails}
use Rattle.lst_rule.specs.declared.view.View.{View}
use Rattle.lst_rule.specs.Rule.{knows, hosts}
use Rattle.lst_rule.specs.Learned.{Possible}
use Rattle.lst_rule.proofs.Knowing.{is_fact}
use Rattle.lst_rule.specs.Copies.{Version, tails_of}
use Rattle.lst_rule.specs.Seen.{names, is_early, seen_acts, HasKey}
use Rattle.lst_rule.specs.Watching.{Watched}
use Rattle.lst_rule.specs.Laws.{KeptBy}
use Rattle.lst_rule.proofs.Copying.{versions_at}
use Rattle.lst_rule.proofs.Seeing.{same_acts, same_sight, line_sight, line_keyed, index_holds}
use Rattle.lst_rule.proofs.Keying.{one_key, one_record, recorded}
use Rattle.lst_rule.proofs.Turns.{sights_fit}
use Rattle.lst_rule.proofs.StatusTelling as telling
use Rattle.lst_rule.proofs.Watching.{watchers_keep}
use Rattle.lst_walk.specs.Patches.{cell_in}
use Rattle.lst_walk.specs.Pages.{MayUse}
use Rattle.lst_walk.specs.Walks.{IsSightOf}
use Rattle.lst_walk.proofs.Lists.{none_some}
use Rattle.lst_walk.proofs.Tails.{AreFacts, known_facts, versions_split, seen_acts-append, none_left}
use Rattle.lst_walk.proofs.Entries.{entry_cell}

-- ---- a cell and its number

number_is : (c : ℕ) (row : List Cell) → number_at c row ≡ number_of (cell_at c row)
number_is c [] = refl
number_is zero (x ∷ row) = refl
number_is (suc c) (x ∷ row) = number_is c row

-- where the row has this cell, its number is the answer of the column
pub number_of_column : (column : ℕ) (row : Option (List Cell)) (cell : Cell) → column_of column row ≡ Some cell → cell_in column row ≡ Some (number_of cell)
number_of_column column None cell e = none_some cell e
number_of_column column (Some row) cell e = ap (λ (n : ℕ). Some n) (number_is column row ∙ ap number_of (ap (λ (o : Option Cell). unwrap_or o None) e))

pub column_of_none : (column : ℕ) (row : Option (List Cell)) → column_of column row ≡ None → row ≡ None
column_of_none column None e = refl
column_of_none column (Some row) e = none_some (cell_at column row) (sym e)

-- the acts of a sight fit in turn
pub sight_fits : (v : View) (s rec : ℕ) (acts : List Act) → Possible v → hosts v s ≡ true → (knows v s).is_open ≡ true → IsSightOf (knows v s) rec acts → FitInTurn None acts
sight_fits v s rec acts p host on is = ⊎_elim
    (λ (none : acts ≡ []). subst (λ (xs : List Act). FitInTurn None xs) (sym none) tt)
    (λ (known : (key : ℕ) × HasKey (knows v s).facts rec key). subst (λ (xs : List Act). FitInTurn None xs) (sym (is.of_key known.0 known.1)) (sights_fit v s rec known.0 p host on known.1))
    is.keyed

-- ---- the entry, in a view that has the chain's copy and the page

module _ (v w : View) (s rec column n : ℕ) (above rest : List Version) (frame : ℕ → ℕ) (possible : Possible v) (host : hosts v s ≡ true) (opened : (knows v s).is_open ≡ true) (watched : Watched v w s) (short : column < w.limits.columns) (m : MayUse (knows v s) w s rec column n above rest frame)
    (sees : IsSightOf (knows v s) rec (seen_acts (knows v s) s (above ++ rest))) where
  abbrev k : Known
  k = knows v s

  abbrev u : Known
  u = knows w s

  abbrev now : Possible w
  now = m.page.now

  abbrev words : Words
  words = shown w.limits m.page.now.words

  abbrev c : Core
  c = state_over w.limits m.page.now.words m.page.now.known m.page.now.merger

  abbrev copy : List Version
  copy = above ++ rest

  abbrev whole : List Version
  whole = versions_at w.limits words (line w.limits words rec)

  -- ---- the session now

  kept : KeptBy (knows v s) (knows w s)
  kept = watchers_keep v w s possible host opened watched

  host_now : hosts w s ≡ true
  host_now = ap (λ (hs : List Bool). slice_index_or hs s false) watched.learns.hosted ∙ host

  open_now : (knows w s).is_open ≡ true
  open_now = kept.is_open ∙ opened

  low : s < w.limits.sessions
  low = telling.low w now.words now.known now.merger now.allowed s host_now open_now

  is_known : knows w s ≡ m.page.now.known s
  is_known = telling.is_known w now.words now.known now.merger now.allowed s host_now open_now

  on_known : (m.page.now.known s).is_open ≡ true
  on_known = telling.is_on_known w now.words now.known now.merger now.allowed s host_now open_now

  early : (x : ℕ) → x % 16 < w.limits.sessions → is_early k x ≡ is_until k.begin (entry words.states x)
  early x in_range = ap (λ (cs : List Commit). names cs x) (sym kept.alike.front)
      ∙ (telling.state_tells w now.words now.known now.merger now.allowed s host_now open_now x in_range ∙ ap (λ (b : ℕ). is_until b (entry words.states x)) kept.alike.begin)

  other : (x : ℕ) → 0 < entry words.states x → entry words.states x ≤ words.clock + 1 → x ≢ name_of s k.number
  other x some most = subst (λ (number : ℕ). x ≢ name_of s number) kept.alike.number (telling.other w now.words now.known now.merger now.allowed s host_now open_now x some most)

  facts_now : FactsOf w.limits words u.facts
  facts_now f has = is_fact w now.words now.known now.merger now.allowed s host_now f has

  ends : IsFact w.limits words (ChainEnds rec (tails_of copy))
  ends = facts_now (ChainEnds rec (tails_of copy)) m.copy.ends

  are : AreFacts w.limits words copy
  are = known_facts w.limits words u.facts copy facts_now m.copy.chain.known

  -- ---- what is seen of the copy is what is seen of the whole chain now

  still : (cs : List Version) → seen_acts (m.page.now.known s) s cs ≡ seen_acts k s cs
  still cs = ap (λ (z : Known). seen_acts z s cs) (sym is_known) ∙ same_acts k u s cs kept.alike

  has_now : (r key : ℕ) → HasKey k.facts r key → HasKey u.facts r key
  has_now r key has = (has.0, kept.facts (IndexAt has.0 r key) has.1)

  -- a key that is known now, and of which anything is seen, was known
  key_known : (key : ℕ) → HasKey u.facts rec key → (sight k key ≡ []) ⊎ HasKey k.facts rec key
  key_known key has = ⊎_elim
      (λ (unseen : sight k key ≡ []). inl unseen)
      (λ (r : IsRecorded k.facts key). let same : r.1 ≡ rec = one_record w s now host_now r.1 rec key (has_now r.1 key (r.0, r.2)) has in
      inr (r.0, subst (λ (x : ℕ). Contains k.facts (IndexAt r.0 x key)) same r.2))
      (recorded v s possible host opened key)

  -- where the record's key is known now, what is seen of the copy is the sight of it
  copy_sight : (key : ℕ) → HasKey u.facts rec key → seen_acts k s copy ≡ sight k key
  copy_sight key has = ⊎_elim
      (λ (none : seen_acts k s copy ≡ []). ⊎_elim
      (λ (unseen : sight k key ≡ []). none ∙ sym unseen)
      (λ (known : HasKey k.facts rec key). sees.of_key key known)
      (key_known key has))
      (λ (first : (key : ℕ) × HasKey k.facts rec key). sees.of_key first.0 first.1
      ∙ ap (sight k) (one_key w s now host_now rec first.0 key (has_now rec first.0 first.1) has))
      sees.keyed

  same : seen_acts k s whole ≡ seen_acts k s copy
  same = ⊎_elim
      (λ (none : seen_acts (m.page.now.known s) s whole ≡ []). let unseen : seen_acts k s whole ≡ [] = sym (still whole) ∙ none in
      unseen ∙ sym (none_left (seen_acts k s copy) (seen_acts k s (versions_at w.limits words ends.1.0))
      (sym (seen_acts-append k s (versions_at w.limits words ends.1.0) copy) ∙ (ap (seen_acts k s) (sym (versions_split w.limits words (line w.limits words rec) ends.1.0 copy ends.1.1 are)) ∙ unseen))))
      (λ (known : (key : ℕ) × HasKey (m.page.now.known s).facts rec key). let key : ℕ = known.0 in
      let has : HasKey u.facts rec key = subst (λ (z : Known). HasKey z.facts rec key) (sym is_known) known.1 in
      let fact : IsFact w.limits words (IndexAt has.0 rec key) = facts_now (IndexAt has.0 rec key) has.1 in
      let placed = (index_holds c now.allowed.sound has.0 rec key fact).1 in
      sym (still whole) ∙ (line_sight c now.allowed.sound s low on_known rec m.copy.low placed ∙ (ap (sight (m.page.now.known s)) fact.1 ∙ (ap (λ (z : Known). sight z key) (sym is_known) ∙ (same_sight k u key kept.alike ∙ sym (copy_sight key has))))))
      (line_keyed c now.allowed.sound s low on_known rec m.copy.low)

  -- ---- the entry

  abbrev slot : ℕ
  slot = rec % 256

  abbrev pub answer : Option (List Cell)
  answer = row_from None (seen_acts (knows v s) s (above ++ rest))

  abbrev pub value : ℕ
  value = slice_index m.page.right.entries.values (rec % 256)

  said : IsEntry frame (slice_index m.page.right.entries.values (rec % 256)) (rec % 256) (entry_at column (rec % 256) (tps_in frame) (settled_tails w.limits words (range_of rec)))
  said = m.page.right.entries.each (rec % 256) (omega arith)

  is_cell : (entry_at column (rec % 256) (tps_in frame) (settled_tails w.limits words (range_of rec))).cell ≡ column_of column (row_from None (seen_acts (knows v s) s (above ++ rest)))
  is_cell = entry_cell c now.allowed.sound k s early other rec column n (tps_in frame) m.copy.low above rest ends are m.leads same m.above_leaves m.page.right.settled m.low short
      (sight_fits v s rec (seen_acts k s copy) possible host opened sees) (subst (λ (e : Entry). e.time ≤ k.begin) said.told m.timely)

  -- an absent entry: there is no row
  pub entry_absent : is_present (stamp_in frame (rec % 256)) ≡ false → row_from None (seen_acts (knows v s) s (above ++ rest)) ≡ None
  entry_absent none = column_of_none column answer (sym is_cell ∙ (sym (ap (λ (e : Entry). e.cell) said.told) ∙ ap (λ (b : Bool). cond b (Some (frames.cell_in frame value slot)) None) none))

  -- a present one has the cell of the row, by its value and its null bit
  pub entry_present : is_present (stamp_in frame (rec % 256)) ≡ true → column_of column (row_from None (seen_acts (knows v s) s (above ++ rest))) ≡ Some (frames.cell_in frame (slice_index m.page.right.entries.values (rec % 256)) (rec % 256))
  entry_present some = sym is_cell ∙ (sym (ap (λ (e : Entry). e.cell) said.told) ∙ ap (λ (b : Bool). cond b (Some (frames.cell_in frame value slot)) None) some)

  -- and its value is the number of it
  pub entry_number : is_present (stamp_in frame (rec % 256)) ≡ true → cell_in column (row_from None (seen_acts (knows v s) s (above ++ rest))) ≡ Some (slice_index m.page.right.entries.values (rec % 256))
  entry_number some = let cell : Cell = frames.cell_in frame value slot in number_of_column column answer cell (entry_present some)
      ∙ ap (λ (x : ℕ). Some x) (sym (said.number cell (is_cell ∙ entry_present some)))
