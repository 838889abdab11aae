-- The entry of a right page, and what is seen of the versions up to its TPS, whatever is seen of newer ones.
use Rattle.std.proofs.Common.{◌≡◌, ◌≢◌, ℕ, ◌+◌, ◌*◌, ◌%◌, ◌<◌, ◌≤◌, List, [], ◌∷◌, ◌++◌, Bool, true, false, cond, eqb, inl, inr, refl, sym, subst, ap, ◌∙◌, arith, ⊎_elim, true≢false, append_assoc, append-nil, length, nat_lt, nat_le, le-leb, leb-true, ◌&&◌, ltb-true, eqb-true}
use Rattle.std.specs.Prelude.{Option, Some, None, unwrap_or, slice_index}
use Rattle.lst_layout.specs.declared.limits.Limits.{Limits}
use Rattle.lst_layout.specs.Words.{shown}
use Rattle.lst_bits.specs.Times.{time_of, is_present}
use Rattle.lst_model.specs.declared.acts.Act.{Act}
use Rattle.lst_model.specs.Cells.{Cell}
use Rattle.lst_model.specs.CellLaws.{length-cells_of}
use Rattle.lst_model.specs.Histories.{row_after, row_from}
use Rattle.lst_model.specs.Soundness.{FitInTurn}
use Rattle.lst_core_state.specs.Lists.{Has, acts, is_until}
use Rattle.lst_core_state.specs.declared.known.Known.{Known}
use Rattle.lst_core_state.specs.declared.facts.Fact.TheVariants.{ChainEnds}
use Rattle.lst_core_state.specs.Cells.{record_count, range_of, nulls_of, listed}
use Rattle.lst_core_state.specs.Facts.{IsFact}
use Rattle.lst_core_state.specs.State.{Words, Core, entry, writer_at, state_at, name_of, line, state_over}
use Rattle.lst_core_state.specs.Sound.{Sound}
use Rattle.lst_core_state.proofs.Lists.{links_low, links_positive, acts_none, acts_same}
use Rattle.lst_core_state.proofs.Sights.{or_says, or_left, until_says, until_holds}
use Rattle.lst_core_state.proofs.Decoded.{both_say}
use Rattle.lst_core_state.proofs.Reading.{acts-append}
use Rattle.lst_pages.specs.declared.tails.PageTail.{PageTail}
use Rattle.lst_pages.specs.declared.entries.Entry.{Entry}
use Rattle.lst_pages.specs.Tails.{is_on}
use Rattle.lst_pages.specs.Frames as frames
use Rattle.lst_pages.specs.Frames.{tps_in, stamp_in, entry_in, IsEntry}
use Rattle.lst_pages.specs.Rows.{act_of, column_of}
use Rattle.lst_pages.specs.Chains.{IsWalked, entry_at}
use Rattle.lst_pages.proofs.Chains.{told_front, entry_is_answer}
use Rattle.lst_pages.specs.Settled.{tail_in, is_settled, settled_tails}
use Rattle.lst_pages.specs.StateLaws.{AreNumbered}
use Rattle.lst_pages.proofs.Growing.{settled_says}
use Rattle.lst_pages.proofs.Numbering.{settled_are_numbered}
use Rattle.lst_rule.specs.declared.view.View.{View}
use Rattle.lst_rule.specs.Rule.{knows}
use Rattle.lst_rule.specs.Learned.{Possible}
use Rattle.lst_rule.specs.Copies.{Version, tails_of, Leads}
use Rattle.lst_rule.specs.Seen.{is_early, sees, seen_acts}
use Rattle.lst_rule.proofs.Copying.{versions_at, length-listed}
use Rattle.lst_rule.proofs.StatusTelling as telling
use Rattle.lst_walk.specs.Pages.{touches_by, IsPageOf}
use Rattle.lst_walk.specs.Numbered.{HasNoTail, KnowsChain, AreOver, AreUpTo, TellsTails, number_in, number_from, number_at_slot, EntriesAreOlder, FoldsOnPages}
use Rattle.lst_walk.specs.Walks.{IsCellOf}
use Rattle.lst_walk.proofs.Tails.{numbers, numbers-append, has_tail, has_number, has_part, has_left, tails_of-append, AreFacts, known_facts, facts_right, versions_are, numbers_link, seen_acts-append, none_seen, numbered_acts}
use Rattle.lst_walk.proofs.Entries.{inside, slot_here, placed_on}
use Rattle.lst_walk.proofs.Using.{number_of_column, column_of_none, sight_fits}
use Rattle.lst_walk.proofs.Sighted as sighted
use Rattle.lst_walk.proofs.Sighted.{facts_now, newer_unseen}
use Rattle.lst_walk.proofs.Arrays.{cut}
use Rattle.lst_walk.proofs.Numbered.{folds_are_cells}

has_right : (t : ℕ) (xs ys : List ℕ) → Has t ys → Has t (xs ++ ys)
has_right t [] ys i = i
has_right t (x ∷ xs) ys i = inr (has_right t xs ys i)

turn_front : (row : Option (List Cell)) (xs ys : List Act) → FitInTurn row (xs ++ ys) → FitInTurn row xs
turn_front row [] ys turn = tt
turn_front row (x ∷ xs) ys turn = (turn.0, turn_front (row_after row x) xs ys turn.1)

-- the older versions of a copy begin at a number of their own, which is at most the TPS
leads_right : (l : Limits) (range h p : ℕ) (xs ys : List Version) → Leads l range h (xs ++ ys) → AreUpTo (range * l.tails + p) ys → (n : ℕ) × (n ≤ p) × Leads l range n ys
leads_right l range h p [] [] leads upto = (h, (let e : h ≡ 0 = leads in omega arith), leads)
leads_right l range h p [] (d ∷ ys) leads upto = (h, (let is = leads.2 in let most = upto d.tail (inl refl) in omega arith), leads)
leads_right l range h p (x ∷ xs) ys leads upto = leads_right l range x.back p xs ys leads.4 upto

module _ (v : View) (s rec column : ℕ) (newer older : List Version) (frame : ℕ → ℕ) (page : IsPageOf v rec column frame) (has : HasNoTail v s) (short : column < v.limits.columns) (known : KnowsChain v s rec (newer ++ older))
    (over : AreOver (range_of rec * v.limits.tails + tps_in frame) newer) (upto : AreUpTo (range_of rec * v.limits.tails + tps_in frame) older) (timely : time_of (stamp_in frame (rec % 256)) ≤ (knows v s).begin) where
  abbrev k : Known
  k = knows v s

  abbrev p : Possible v
  p = page.now

  abbrev w : Words
  w = shown v.limits page.now.words

  abbrev c : Core
  c = state_over v.limits page.now.words page.now.known page.now.merger

  abbrev l : Limits
  l = v.limits

  sound : Sound c
  sound = page.now.allowed.sound

  abbrev base : ℕ
  base = range_of rec * v.limits.tails

  abbrev tps : ℕ
  tps = tps_in frame

  abbrev slot : ℕ
  slot = rec % 256

  abbrev settled : List PageTail
  settled = settled_tails v.limits w (range_of rec)

  below : rec < record_count v.limits
  below = known.is.low

  early : (x : ℕ) → x % 16 < v.limits.sessions → is_early (knows v s) x ≡ is_until (knows v s).begin (entry w.states x)
  early = telling.state_tells v p.words p.known p.merger p.allowed s has.host has.opened

  other : (x : ℕ) → 0 < entry w.states x → entry w.states x ≤ w.clock + 1 → x ≢ name_of s (knows v s).number
  other = telling.other v p.words p.known p.merger p.allowed s has.host has.opened

  -- ---- the chain in three parts

  abbrev ends : IsFact v.limits w (ChainEnds rec (tails_of (newer ++ older)))
  ends = sighted.ends v s rec (newer ++ older) page.now has known

  abbrev front : List ℕ
  front = ends.1.0

  unseen : seen_acts (knows v s) s (versions_at v.limits w front) ≡ []
  unseen = newer_unseen v s rec (newer ++ older) p has known

  are : AreFacts v.limits w (newer ++ older)
  are = known_facts v.limits w k.facts (newer ++ older) (facts_now v s rec (newer ++ older) p has known) known.is.chain.known

  abbrev high : List ℕ
  high = numbers base (front ++ tails_of newer)

  abbrev lower : List ℕ
  lower = numbers base (tails_of older)

  parts : line v.limits w rec ≡ (front ++ tails_of newer) ++ tails_of older
  parts = ends.1.1 ∙ (ap (λ (ts : List ℕ). front ++ ts) (tails_of-append newer older) ∙ sym (append_assoc front (tails_of newer) (tails_of older)))

  joined : numbers base (line v.limits w rec) ≡ high ++ lower
  joined = ap (numbers base) parts ∙ numbers-append base (front ++ tails_of newer) (tails_of older)

  above_base : (t : ℕ) → Has t ((front ++ tails_of newer) ++ tails_of older) → base < t
  above_base t i = inside c sound rec below t (subst (Has t) (sym parts) i)

  numbered : AreNumbered v.limits w (range_of rec)
  numbered = settled_are_numbered v.limits w (range_of rec)

  first : (n : ℕ) × (n ≤ tps) × Leads v.limits (range_of rec) n older
  first = leads_right v.limits (range_of rec) known.head tps newer older known.is.chain.leads upto

  -- ---- what is seen of settled tails

  abbrev tail_of : ℕ → PageTail
  tail_of m = tail_in v.limits w (base + m)

  abbrev seen_at : ℕ → Bool
  seen_at m = sees (knows v s) s (writer_at w (base + m))

  -- seen, and not newer than the page
  abbrev seen_below : ℕ → Bool
  seen_below m = seen_at m && nat_le m tps

  timely_seen : (t : ℕ) → is_settled w t ≡ true → 0 < (tail_in v.limits w t).time → (tail_in v.limits w t).time ≤ (knows v s).begin → sees (knows v s) s (writer_at w t) ≡ true
  timely_seen t is some most = let q = settled_says w t is in let x : ℕ = writer_at w t in
      or_left (is_early k x) (eqb x (name_of s k.number)) (early x (sound.versions.stored t q.0).begun.0 ∙ until_holds k.begin (state_at w t) (omega arith) (omega arith))

  seen_timed : (t : ℕ) → is_settled w t ≡ true → sees (knows v s) s (writer_at w t) ≡ true → 0 < (tail_in v.limits w t).time
  seen_timed t is seen = let q = settled_says w t is in let x : ℕ = writer_at w t in ⊎_elim
      (λ (e : is_early k x ≡ true). let u = until_says k.begin (state_at w t) (sym (early x (sound.versions.stored t q.0).begun.0) ∙ e) in let more = u.0 in omega arith)
      (λ (e : eqb x (name_of s k.number) ≡ true). absurd (other x q.1 q.2 (eqb-true x (name_of s k.number) e)))
      (or_says (is_early k x) (eqb x (name_of s k.number)) seen)

  low_on : (m : ℕ) → Has m lower → (0 < m) × (m ≤ first.0)
  low_on m i = let links = numbers_link v.limits w (range_of rec) first.0 older (facts_right v.limits w newer older are) first.2 in
      (links_positive (λ m. w.cells (base + m) 2) first.0 lower links m i, links_low (λ m. w.cells (base + m) 2) first.0 lower links m i)

  settled_on : (m : ℕ) → Has m lower → is_settled w (base + m) ≡ true
  settled_on m i = let q = low_on m i in let least = q.0 in let most = q.1 in let few = first.1 in let enough = page.right.settled in numbered.each m least (omega arith)

  below_says : (m : ℕ) → Has m lower → seen_below m ≡ seen_at m
  below_says m i = let q = low_on m i in let most = q.1 in let few = first.1 in ap (λ (b : Bool). seen_at m && b) (le-leb m tps (omega arith)) ∙ and_true (seen_at m)
    where
      and_true : (b : Bool) → (b && true) ≡ b
      and_true true = refl
      and_true false = refl

  -- what is newer than the page, or than the copy, isn't taken
  high_not : (m : ℕ) → Has m high → seen_below m ≡ false
  high_not m i = ⊎_elim
      (λ (j : Has (base + m) front). ap (λ (b : Bool). b && nat_le m tps) (none_seen v.limits w k s (base + m) front unseen j))
      (λ (j : Has (base + m) (tails_of newer)). let more = over (base + m) j in not_le (seen_at m) (nat_le m tps) (λ e. let most = leb-true m tps e in omega arith))
      (has_part (base + m) front (tails_of newer) (has_tail base m (front ++ tails_of newer) (λ t j. above_base t (has_left t (front ++ tails_of newer) (tails_of older) j)) i))
    where
      not_le : (a b : Bool) → ¬ (b ≡ true) → (a && b) ≡ false
      not_le true true h = absurd (h refl)
      not_le true false h = refl
      not_le false b h = refl

  walked : IsWalked column slot (knows v s).begin tps first.0 (λ m. w.cells (base + m) 2) tail_of seen_below settled high lower
  walked = record {
    told = told_front tail_of 0 tps settled numbered.told;
    settled = page.right.settled;
    links = numbers_link v.limits w (range_of rec) first.0 older (facts_right v.limits w newer older are) first.2;
    low = first.1;
    has = λ m some few touch soon none. let enough = page.right.settled in let a = both_say (nat_lt 0 (tail_of m).time) (is_on column slot (tail_of m)) touch in
        let b = both_say (eqb (tail_of m).slot slot) (touches_by column (w.cells (base + m) 1)) a.1 in
        let on = placed_on c sound rec below m some (omega arith) (eqb-true (tail_of m).slot slot b.0) in
        let seen = timely_seen (base + m) (numbered.each m some (omega arith)) (ltb-true 0 (tail_of m).time a.0) soon in ⊎_elim
        (λ (i : Has (base + m) (front ++ tails_of newer)). absurd (not_high m few seen i))
        (λ (i : Has (base + m) (tails_of older)). has_number base (base + m) m (tails_of older) refl i)
        (has_part (base + m) (front ++ tails_of newer) (tails_of older) (subst (Has (base + m)) parts on));
    until = λ m i some soon. below_says m i ∙ timely_seen (base + m) (settled_on m i) some soon;
    only = λ m i seen. seen_timed (base + m) (settled_on m i) (sym (below_says m i) ∙ seen);
    passed = λ m i. ap (λ (b : Bool). b && is_on column slot (tail_of m)) (high_not m i);
  }
    where
      not_high : (m : ℕ) → m ≤ tps → sees (knows v s) s (writer_at w (base + m)) ≡ true → Has (base + m) (front ++ tails_of newer) → ⊥
      not_high m few seen i = ⊎_elim
          (λ (j : Has (base + m) front). true≢false (sym seen ∙ none_seen v.limits w k s (base + m) front unseen j))
          (λ (j : Has (base + m) (tails_of newer)). let more = over (base + m) j in omega arith)
          (has_part (base + m) front (tails_of newer) i)

  -- ---- the answer

  made : acts seen_below (λ m. act_of (tail_of m)) (high ++ lower) ≡ seen_acts (knows v s) s older
  made = acts-append seen_below (λ m. act_of (tail_of m)) high lower
      ∙ (ap (λ (xs : List Act). acts seen_below (λ m. act_of (tail_of m)) lower ++ xs) (acts_none seen_below (λ m. act_of (tail_of m)) high high_not)
      ∙ (append-nil (acts seen_below (λ m. act_of (tail_of m)) lower)
      ∙ (acts_same seen_at seen_below (λ m. act_of (tail_of m)) (λ m. act_of (tail_of m)) lower below_says (λ _ _ _. refl)
      ∙ (numbered_acts v.limits w k s base (tails_of older) (λ t i. above_base t (has_right t (front ++ tails_of newer) (tails_of older) i))
      ∙ ap (seen_acts k s) (versions_are v.limits w older (facts_right v.limits w newer older are))))))

  here : (m : ℕ) → Has m (high ++ lower) → ((tail_of m).slot ≡ slot) × (length (tail_of m).values ≡ v.limits.columns)
  here m i = (
    slot_here c sound rec below (base + m) (has_tail base m (line v.limits w rec) (λ t j. inside c sound rec below t j) (subst (Has m) (sym joined) i)),
    length-cells_of (nulls_of (w.cells (base + m) 1)) 0 (listed (w.cells (base + m)) 3 v.limits.columns) ∙ length-listed (w.cells (base + m)) 3 v.limits.columns,
  )

  fits : FitInTurn None (seen_acts (knows v s) s older)
  fits = turn_front None (seen_acts k s older) (seen_acts k s newer) (subst (FitInTurn None) (seen_acts-append k s newer older) (sight_fits v s rec (seen_acts k s (newer ++ older)) p has.host has.opened known.sees))

  abbrev value : ℕ
  value = slice_index page.right.entries.values slot

  said : IsEntry frame value slot (entry_at column slot tps settled)
  said = page.right.entries.each slot (omega arith)

  is_cell : (entry_at column slot tps settled).cell ≡ column_of column (row_from None (seen_acts (knows v s) s older))
  is_cell = entry_is_answer column slot k.begin tps first.0 (λ m. w.cells (base + m) 2) tail_of seen_below settled high lower walked (subst (λ (e : Entry). e.time ≤ k.begin) said.told timely) v.limits.columns short here (subst (FitInTurn None) (sym made) fits)
      ∙ ap (λ (xs : List Act). column_of column (row_from None xs)) made

  entry_number : number_in column (row_from None (seen_acts (knows v s) s older)) ≡ number_at_slot frame page.right.entries.values slot
  entry_number = choose (is_present (stamp_in frame slot)) refl
    where
      row : Option (List Cell)
      row = row_from None (seen_acts (knows v s) s older)

      cell : Cell
      cell = frames.cell_in frame value slot

      said_cell : (b : Bool) → is_present (stamp_in frame slot) ≡ b → column_of column (row_from None (seen_acts (knows v s) s older)) ≡ cond b (Some (frames.cell_in frame value slot)) None
      said_cell b there = sym is_cell ∙ (sym (ap (λ (e : Entry). e.cell) said.told) ∙ ap (λ (b : Bool). cond b (Some (frames.cell_in frame value slot)) None) there)

      choose : (b : Bool) → is_present (stamp_in frame slot) ≡ b → number_in column (row_from None (seen_acts (knows v s) s older)) ≡ cond b value 0
      choose true there = let x : Cell = frames.cell_in frame value slot in ap (λ (o : Option ℕ). unwrap_or o 0) (number_of_column column (row_from None (seen_acts k s older)) x (said_cell true there)) ∙ sym (said.number x (is_cell ∙ said_cell true there))
      choose false there = ap (number_in column) (column_of_none column (row_from None (seen_acts k s older)) (said_cell false there))

pub entries_are_older : EntriesAreOlder
entries_are_older v s rec column newer older frame page has short known over upto timely = entry_number v s rec column newer older frame page has short known over upto timely

pub folds_on_pages : FoldsOnPages
folds_on_pages v s rec column m copy frame told version page has short known timely tells = go (cut v.limits (range_of rec) known.head low copy known.is.chain.leads)
  where
    low : ℕ
    low = range_of rec * v.limits.tails + tps_in frame

    go : (newer : List Version) × (older : List Version) × (copy ≡ newer ++ older) × AreOver (range_of rec * v.limits.tails + tps_in frame) newer × AreUpTo (range_of rec * v.limits.tails + tps_in frame) older
        → (cell : Option ℕ) × IsCellOf v s rec column cell × (number_from told version column (range_of rec * v.limits.tails + tps_in frame) (number_at_slot frame page.right.entries.values (rec % 256)) m ≡ unwrap_or cell 0)
    go q = let chain : KnowsChain v s rec (q.0 ++ q.1) = subst (KnowsChain v s rec) q.2 known in
        folds_are_cells v s rec column (range_of rec * v.limits.tails + tps_in frame) m (number_at_slot frame page.right.entries.values (rec % 256)) q.0 q.1 told version page.now has short chain q.3 q.4
        (subst (λ (cs : List Version). TellsTails v s rec (range_of rec * v.limits.tails + tps_in frame) m cs told version) q.2 tells)
        (sym (entry_number v s rec column q.0 q.1 frame page has short chain q.3 q.4 timely))
