-- The entry of a right page, and what is seen of the record's chain, in one state.
use Rattle.std.proofs.Common.{◌≡◌, ◌≢◌, ℕ, ◌+◌, ◌*◌, ◌%◌, ◌<◌, ◌≤◌, List, [], ◌++◌, Bool, true, false, eqb, refl, sym, subst, ap, ◌∙◌, arith, ⊎_elim, true≢false, append_assoc, length, nat_lt, ◌&&◌, ltb-true, eqb-true}
use Rattle.std.specs.Prelude.{Some, None, cond}
use Rattle.lst_layout.specs.declared.limits.Limits.{Limits}
use Rattle.lst_model.specs.declared.acts.Act.{Act}
use Rattle.lst_model.specs.Cells.{number_of}
use Rattle.lst_model.specs.CellLaws.{length-cells_of}
use Rattle.lst_model.specs.Histories.{row_from}
use Rattle.lst_model.specs.Soundness.{FitInTurn}
use Rattle.lst_core_state.specs.Lists.{Has, acts, is_until}
use Rattle.lst_core_state.specs.declared.known.Known.{Known}
use Rattle.lst_core_state.specs.declared.facts.Fact.TheVariants.{ChainEnds}
use Rattle.lst_core_state.specs.Cells.{record_count, range_of, tail_range, record_of, slot_of, nulls_of, listed}
use Rattle.lst_core_state.specs.Facts.{IsFact}
use Rattle.lst_core_state.specs.State.{Words, Core, entry, writer_at, state_at, name_of, line, record_in}
use Rattle.lst_core_state.specs.Sound.{Sound, StoredOf, InHand}
use Rattle.lst_core_state.proofs.Lists.{links_low, links_positive}
use Rattle.lst_core_state.proofs.Sights.{or_says, or_left, until_says, until_holds}
use Rattle.lst_core_state.proofs.Decoded.{both_say}
use Rattle.lst_core_state.proofs.CellsKept.{tail_range-is}
use Rattle.lst_core_state.proofs.VersionsKept.{hand_open}
use Rattle.lst_pages.specs.declared.tails.PageTail.{PageTail}
use Rattle.lst_pages.specs.Tails.{is_on}
use Rattle.lst_pages.specs.Rows.{act_of, column_of}
use Rattle.lst_pages.specs.Chains.{IsWalked, entry_at}
use Rattle.lst_pages.proofs.Chains.{told_front, entry_is_answer}
use Rattle.lst_pages.specs.Settled.{tail_in, is_settled, settled_tails}
use Rattle.lst_pages.specs.StateLaws.{AreNumbered}
use Rattle.lst_pages.proofs.Growing.{settled_says}
use Rattle.lst_pages.proofs.Numbering.{settled_are_numbered}
use Rattle.lst_rule.specs.Copies.{Version, tails_of, Leads}
use Rattle.lst_rule.specs.Seen.{is_early, sees, seen_acts}
use Rattle.lst_rule.proofs.Copying.{versions_at, length-listed}
use Rattle.lst_walk.specs.Pages.{touches_by, NoneTold}
use Rattle.lst_walk.proofs.Tails.{numbers, numbers-append, has_tail, has_number, has_part, has_left, tails_of-append, AreFacts, facts_left, facts_right, versions_split, numbers_link, seen_acts-append, none_more, none_seen, none_told_at, numbered_acts}

middle : (x y z : Bool) → (x && z) ≡ false → (x && (y && z)) ≡ false
middle false y z e = refl
middle true false z e = refl
middle true true z e = e

-- nothing is both
apart : {A : Type 0} (x z : Bool) → x ≡ true → z ≡ true → (x && z) ≡ false → A
apart x z e f none = absurd (true≢false (sym (λ i. e i && f i) ∙ none))

pub record_says : (tails t e : ℕ) → record_of tails t e ≡ 256 * tail_range tails t + slot_of e
unfolding record_of
record_says tails t e = refl

-- ---- the record's tails

module _ (c : Core) (sound : Sound c) (rec : ℕ) (below : rec < record_count c.limits) where
  -- a tail of the chain is one of the range, and has the record's slot
  pub inside : (t : ℕ) → Has t (line c.limits c.words rec) → range_of rec * c.limits.tails < t
  inside t i = let L = sound.versions.lines rec below in let k : StoredOf c.limits c.words c.known t = sound.versions.stored t (L.stored t i) in
      subst (λ (r : ℕ). range_of r * c.limits.tails < t) (L.here t i) k.drawn.0

  pub slot_here : (t : ℕ) → Has t (line c.limits c.words rec) → (tail_in c.limits c.words t).slot ≡ rec % 256
  slot_here t i = let L = sound.versions.lines rec below in
      let is : 256 * tail_range c.limits.tails t + slot_of (c.words.cells t 1) ≡ rec = sym (record_says c.limits.tails t (c.words.cells t 1)) ∙ L.here t i in omega arith

  -- a tail in hand isn't settled, so a settled one of the record's slot is on its chain
  open_hand : (t : ℕ) → 0 < c.words.cells t 0 → InHand c.limits c.known t → state_at c.words t ≡ 0
  open_hand t stored hand = let j : ℕ = hand.0 in let at = hand.2 in let some = (sound.versions.hands j hand.1).some hand.3 in
      subst (λ (u : ℕ). state_at c.words u ≡ 0) at (hand_open c.limits c.words c.known sound.sized sound.times sound.each sound.versions j hand.1 some (subst (λ (u : ℕ). 0 < c.words.cells u 0) (sym at) stored))

  pub placed_on : (m : ℕ) → 0 < m → m ≤ length (settled_tails c.limits c.words (range_of rec)) → (tail_in c.limits c.words (range_of rec * c.limits.tails + m)).slot ≡ rec % 256 → Has (range_of rec * c.limits.tails + m) (line c.limits c.words rec)
  placed_on m some low same = let l : Limits = c.limits in let w : Words = c.words in let t : ℕ = range_of rec * l.tails + m in let n : AreNumbered l w (range_of rec) = settled_are_numbered l w (range_of rec) in
      let q = settled_says w t (n.each m some low) in let k : StoredOf l w c.known t = sound.versions.stored t q.0 in
      let most = n.few in let range : tail_range l.tails t ≡ range_of rec = tail_range-is l.tails (range_of rec) t (omega arith) (omega arith) in
      let here : record_in l w.cells t ≡ rec = record_says l.tails t (w.cells t 1) ∙ (omega arith) in
      ⊎_elim
      (λ (on : Has t (line l w (record_in l w.cells t))). subst (λ (r : ℕ). Has t (line l w r)) here on)
      (λ (hand : InHand l c.known t). let idle = open_hand t q.0 hand in let some = q.1 in absurd (omega arith))
      k.place

-- ---- the entry

module _ (c : Core) (sound : Sound c) (k : Known) (s : ℕ)
    (early : (x : ℕ) → x % 16 < c.limits.sessions → is_early k x ≡ is_until k.begin (entry c.words.states x))
    (other : (x : ℕ) → 0 < entry c.words.states x → entry c.words.states x ≤ c.words.clock + 1 → x ≢ name_of s k.number)
    (rec column n p : ℕ) (below : rec < record_count c.limits) (above rest : List Version)
    (ends : IsFact c.limits c.words (ChainEnds rec (tails_of (above ++ rest)))) (are : AreFacts c.limits c.words (above ++ rest)) (leads : Leads c.limits (range_of rec) n rest)
    (same : seen_acts k s (versions_at c.limits c.words (line c.limits c.words rec)) ≡ seen_acts k s (above ++ rest)) (passed : NoneTold k s column above)
    (enough : p ≤ length (settled_tails c.limits c.words (range_of rec))) (low : n ≤ p) where
  abbrev l : Limits
  l = c.limits

  abbrev w : Words
  w = c.words

  abbrev base : ℕ
  base = range_of rec * c.limits.tails

  abbrev newer : List ℕ
  newer = ends.1.0

  abbrev high : List ℕ
  high = numbers base (newer ++ tails_of above)

  abbrev lower : List ℕ
  lower = numbers base (tails_of rest)

  abbrev tail_of : ℕ → PageTail
  tail_of m = tail_in l w (base + m)

  abbrev seen_at : ℕ → Bool
  seen_at m = sees k s (writer_at w (base + m))

  all_numbered : AreNumbered c.limits c.words (range_of rec)
  all_numbered = settled_are_numbered c.limits c.words (range_of rec)

  -- ---- the chain in three parts

  parts : line l w rec ≡ (newer ++ tails_of above) ++ tails_of rest
  parts = ends.1.1 ∙ (ap (λ (ts : List ℕ). newer ++ ts) (tails_of-append above rest) ∙ sym (append_assoc newer (tails_of above) (tails_of rest)))

  versions : versions_at l w (line l w rec) ≡ versions_at l w newer ++ (above ++ rest)
  versions = versions_split l w (line l w rec) newer (above ++ rest) ends.1.1 are

  -- nothing newer than the copy is seen
  newer_unseen : seen_acts k s (versions_at l w newer) ≡ []
  newer_unseen = none_more (seen_acts k s (above ++ rest)) (seen_acts k s (versions_at l w newer)) (sym (seen_acts-append k s (versions_at l w newer) (above ++ rest)) ∙ (sym (ap (seen_acts k s) versions) ∙ same))

  joined : numbers base (line l w rec) ≡ high ++ lower
  joined = ap (numbers base) parts ∙ numbers-append base (newer ++ tails_of above) (tails_of rest)

  on_line : (t : ℕ) → Has t ((newer ++ tails_of above) ++ tails_of rest) → Has t (line l w rec)
  on_line t i = subst (λ (ts : List ℕ). Has t ts) (sym parts) i

  above_base : (t : ℕ) → Has t ((newer ++ tails_of above) ++ tails_of rest) → base < t
  above_base t i = inside c sound rec below t (on_line t i)

  -- ---- what is seen of settled tails

  timely_seen : (t : ℕ) → is_settled w t ≡ true → 0 < (tail_in l w t).time → (tail_in l w t).time ≤ k.begin → sees k s (writer_at w t) ≡ true
  timely_seen t is some most = let q = settled_says w t is in let x : ℕ = writer_at w t in
      or_left (is_early k x) (eqb x (name_of s k.number)) (early x (sound.versions.stored t q.0).begun.0 ∙ until_holds k.begin (state_at w t) (omega arith) (omega arith))

  seen_timed : (t : ℕ) → is_settled w t ≡ true → sees k s (writer_at w t) ≡ true → 0 < (tail_in l w t).time
  seen_timed t is seen = let q = settled_says w t is in let x : ℕ = writer_at w t in ⊎_elim
      (λ (e : is_early k x ≡ true). let u = until_says k.begin (state_at w t) (sym (early x (sound.versions.stored t q.0).begun.0) ∙ e) in let more = u.0 in omega arith)
      (λ (e : eqb x (name_of s k.number) ≡ true). absurd (other x q.1 q.2 (eqb-true x (name_of s k.number) e)))
      (or_says (is_early k x) (eqb x (name_of s k.number)) seen)

  passed_at : (t : ℕ) → Has t (newer ++ tails_of above) → (sees k s (writer_at w t) && touches_by column (w.cells t 1)) ≡ false
  passed_at t i = ⊎_elim
      (λ (j : Has t newer). ap (λ (b : Bool). b && touches_by column (w.cells t 1)) (none_seen l w k s t newer newer_unseen j))
      (λ (j : Has t (tails_of above)). none_told_at l w k s column t above (facts_left l w above rest are) passed j)
      (has_part t newer (tails_of above) i)

  low_on : (m : ℕ) → Has m lower → (0 < m) × (m ≤ n)
  low_on m i = let links = numbers_link l w (range_of rec) n rest (facts_right l w above rest are) leads in
      (links_positive (λ m. w.cells (base + m) 2) n lower links m i, links_low (λ m. w.cells (base + m) 2) n lower links m i)

  settled_on : (m : ℕ) → Has m lower → is_settled w (base + m) ≡ true
  settled_on m i = let q = low_on m i in let least = q.0 in let most = q.1 in all_numbered.each m least (omega arith)

  walked : IsWalked column (rec % 256) k.begin p n (λ m. w.cells (base + m) 2) tail_of seen_at (settled_tails l w (range_of rec)) high lower
  walked = record {
    told = told_front tail_of 0 p (settled_tails l w (range_of rec)) all_numbered.told;
    settled = enough;
    links = numbers_link l w (range_of rec) n rest (facts_right l w above rest are) leads;
    low = low;
    has = λ m some few touch timely none. let a = both_say (nat_lt 0 (tail_of m).time) (is_on column (rec % 256) (tail_of m)) touch in
        let b = both_say (eqb (tail_of m).slot (rec % 256)) (touches_by column (w.cells (base + m) 1)) a.1 in
        let on = placed_on c sound rec below m some (omega arith) (eqb-true (tail_of m).slot (rec % 256) b.0) in
        let seen = timely_seen (base + m) (all_numbered.each m some (omega arith)) (ltb-true 0 (tail_of m).time a.0) timely in ⊎_elim
        (λ (i : Has (base + m) (newer ++ tails_of above)). apart (seen_at m) (touches_by column (w.cells (base + m) 1)) seen b.1 (passed_at (base + m) i))
        (λ (i : Has (base + m) (tails_of rest)). has_number base (base + m) m (tails_of rest) refl i)
        (has_part (base + m) (newer ++ tails_of above) (tails_of rest) (subst (λ (ts : List ℕ). Has (base + m) ts) parts on));
    until = λ m i some timely. timely_seen (base + m) (settled_on m i) some timely;
    only = λ m i seen. seen_timed (base + m) (settled_on m i) seen;
    passed = λ m i. middle (seen_at m) (eqb (tail_of m).slot (rec % 256)) (touches_by column (w.cells (base + m) 1))
        (passed_at (base + m) (has_tail base m (newer ++ tails_of above) (λ t j. above_base t (has_left t (newer ++ tails_of above) (tails_of rest) j)) i));
  }

  -- ---- the answer

  made : acts seen_at (λ m. act_of (tail_of m)) (high ++ lower) ≡ seen_acts k s (above ++ rest)
  made = ap (λ (ms : List ℕ). acts seen_at (λ m. act_of (tail_of m)) ms) (sym joined) ∙ (numbered_acts l w k s base (line l w rec) (λ t i. inside c sound rec below t i) ∙ same)

  here : (m : ℕ) → Has m (high ++ lower) → ((tail_of m).slot ≡ rec % 256) × (length (tail_of m).values ≡ l.columns)
  here m i = (
    slot_here c sound rec below (base + m) (has_tail base m (line l w rec) (λ t j. inside c sound rec below t j) (subst (λ (ms : List ℕ). Has m ms) (sym joined) i)),
    length-cells_of (nulls_of (w.cells (base + m) 1)) 0 (listed (w.cells (base + m)) 3 l.columns) ∙ length-listed (w.cells (base + m)) 3 l.columns,
  )

  pub entry_cell : column < c.limits.columns → FitInTurn None (seen_acts k s (above ++ rest)) → (entry_at column (rec % 256) p (settled_tails c.limits c.words (range_of rec))).time ≤ k.begin
      → (entry_at column (rec % 256) p (settled_tails c.limits c.words (range_of rec))).cell ≡ column_of column (row_from None (seen_acts k s (above ++ rest)))
  entry_cell short fits timely = entry_is_answer column (rec % 256) k.begin p n (λ m. w.cells (base + m) 2) tail_of seen_at (settled_tails l w (range_of rec)) high lower walked timely l.columns short here
      (subst (λ (xs : List Act). FitInTurn None xs) (sym made) fits)
      ∙ ap (λ (xs : List Act). column_of column (row_from None xs)) made

-- ---- a number and its null bit

-- the number of a cell that isn't 0 isn't that of a null
pub cell_some : (null : Bool) (number : ℕ) → 0 < number → number ≡ number_of (cond null None (Some number)) → Some number ≡ cond null None (Some number)
cell_some true number some is = absurd (omega arith)
cell_some false number some is = refl
