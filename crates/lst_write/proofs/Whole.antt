-- The last word of a tail in hand: its start word makes it whole.
use Rattle.std.proofs.Common.{◌≡◌, ◌≢◌, ℕ, zero, suc, ◌+◌, ◌-◌, ◌*◌, ◌%◌, ◌^◌, ◌<◌, ◌≤◌, List, [], ◌∷◌, ◌++◌, Bool, true, false, cond, eqb, set, slice_index, slice_index_or, refl, sym, subst, ap, ◌∙◌, arith, ne_eqb, append_assoc, Contains}
use Rattle.std.proofs.lemmas.List.{length-replicate}
use Rattle.std.proofs.lemmas.List.Elements.{Contains-append_left, Contains-append_right}
use Rattle.lst_layout.specs.declared.limits.Limits.{Limits}
use Rattle.lst_layout.specs.declared.place.Place.{Place}
use Rattle.lst_layout.specs.Words.{Words, shown}
use Rattle.lst_layout.specs.Functions.{put_in}
use Rattle.lst_layout.proofs.Functions.{put_in_row, put_here, put_in_else}
use Rattle.lst_model.specs.declared.acts.Act.{Act}
use Rattle.lst_core_state.specs.declared.known.Known.{Known}
use Rattle.lst_core_state.specs.declared.known.Counter.{Counter}
use Rattle.lst_core_state.specs.declared.known.Hold.{Hold}
use Rattle.lst_core_state.specs.declared.facts.Fact.{Fact}
use Rattle.lst_core_state.specs.declared.facts.Fact.TheVariants.{CellIs, IndexAt}
use Rattle.lst_core_state.specs.declared.facts.Find.TheVariants.{CountedTails}
use Rattle.lst_core_state.specs.declared.events.Event.TheVariants.{StoreCell}
use Rattle.lst_core_state.specs.Cells.{range_of, tail_range, record_of, slot_of, listed, act_of, IsCell}
use Rattle.lst_core_state.specs.Facts.{cell_fact}
use Rattle.lst_core_state.specs.State.{writer, name_of, sight, FitsAfter, record_in, act_in}
use Rattle.lst_core_state.specs.Step.{Enabled, IsDrafted, cell_started}
use Rattle.lst_core_state.proofs.CellsKept.{tail_range-is}
use Rattle.lst_core_state.proofs.Steps.{writer_odd}
use Rattle.lst_rule.specs.declared.view.View.{View}
use Rattle.lst_rule.specs.Rule.{knows, hosts, Allowed}
use Rattle.lst_rule.specs.Learned.{Learns, CanStand, Made}
use Rattle.lst_rule.proofs.Knowing.{is_fact, knows_own}
use Rattle.lst_rule.proofs.Learning.{learns_on}
use Rattle.lst_write.specs.Cells.{IsActFor, encoding_of, value_of, cell_word}
use Rattle.lst_write.specs.Appending.{FitsSight, HasWhole, ChangesTail, with_count, known_words, Draws, IsDraft, Appends, tail_of}
use Rattle.lst_write.proofs.Storing.{changes_next}
use Rattle.lst_write.proofs.Encodings.{slot_is, act_says, is_cell}

-- ---- words by place

-- lists of words that are the same
pub listed_same : (f g : ℕ → ℕ) (p q n : ℕ) → ((i : ℕ) → i < n → f (p + i) ≡ g (q + i)) → listed f p n ≡ listed g q n
listed_same f g p q zero same = refl
listed_same f g p q (suc n) same = λ i. (ap f (let e : p ≡ p + 0 = omega arith in e) ∙ (same 0 (omega arith) ∙ ap g (let e : q + 0 ≡ q = omega arith in e))) i
    ∷ listed_same f g (suc p) (suc q) n (λ k low. ap f (let e : suc p + k ≡ p + suc k = omega arith in e) ∙ (same (suc k) (omega arith) ∙ ap g (let e : q + suc k ≡ suc q + k = omega arith in e))) i

word_1 : (e h : ℕ) (act : Act) → cell_word e h act 1 ≡ e
word_1 e h act = refl

word_2 : (e h : ℕ) (act : Act) → cell_word e h act 2 ≡ h
word_2 e h act = refl

word_value : (e h : ℕ) (act : Act) (c : ℕ) → cell_word e h act (3 + c) ≡ value_of act c
word_value e h act c = ap (λ (b : Bool). cond b e (cond (eqb (3 + c) 2) h (value_of act (3 + c - 3)))) (ne_eqb (3 + c) 1 (λ z. omega arith))
    ∙ (ap (λ (b : Bool). cond b h (value_of act (3 + c - 3))) (ne_eqb (3 + c) 2 (λ z. omega arith)) ∙ ap (value_of act) (let z : 3 + c - 3 ≡ c = omega arith in z))

-- a record by its range and slot
record_parts : (tails t e range slot rec : ℕ) → tail_range tails t ≡ range → slot_of e ≡ slot → 256 * range + slot ≡ rec → record_of tails t e ≡ rec
unfolding record_of
record_parts tails t e range slot rec a b is = (λ i. 256 * a i + b i) ∙ is

-- ---- the tail in hand, with all its words but the start word

-- f are its words by place
pub record Drafted (l : Limits) (rec head n : ℕ) (act : Act) (f : ℕ → ℕ) : Type 0 where
  pub encoding : f 1 ≡ encoding_of l.columns rec act
  pub back : f 2 ≡ head
  pub values : (c : ℕ) → c < l.columns → f (3 + c) ≡ value_of act c

module _ (l : Limits) (few : l.columns ≤ 8) (rec head n : ℕ) (some : 0 < n) (low : n ≤ l.tails) (act : Act) (is : IsActFor l.columns act) (cells : ℕ → ℕ → ℕ) where
  abbrev tail : ℕ
  tail = range_of rec * l.tails + n

  module _ (d : Drafted l rec head n act (cells (range_of rec * l.tails + n))) where
    abbrev f : ℕ → ℕ
    f = cells (range_of rec * l.tails + n)

    drafted_cell : IsCell l.columns (f 1) (λ c. f (3 + c))
    drafted_cell = let k : IsCell l.columns (encoding_of l.columns rec act) (value_of act) = is_cell l.columns rec few act is in subst (λ (e : ℕ). IsCell l.columns e (λ c. f (3 + c))) (sym d.encoding)
        record {
          nulls = k.nulls;
          kind = k.kind;
          each = λ c below. let each = k.each c below in let same = d.values c below in record {
            within = each.within;
            null = λ bit. same ∙ each.null bit;
            else = λ none. same ∙ each.else none;
          };
        }

    drafted_record : record_in l cells (range_of rec * l.tails + n) ≡ rec
    drafted_record = record_parts l.tails (range_of rec * l.tails + n) (f 1) (range_of rec) (rec % 256) rec (tail_range-is l.tails (range_of rec) (range_of rec * l.tails + n) (omega arith) (omega arith))
        (ap slot_of d.encoding ∙ slot_is l.columns rec few act is) (omega arith)

    pub drafted_values : listed f 3 l.columns ≡ listed (value_of act) 0 l.columns
    drafted_values = listed_same f (value_of act) 3 0 l.columns (λ i below. d.values i below ∙ ap (value_of act) (let z : i ≡ 0 + i = omega arith in z))

    drafted_act : act_in l cells (range_of rec * l.tails + n) ≡ act
    drafted_act = (λ i. act_of (d.encoding i) (drafted_values i)) ∙ act_says l.columns rec few act is

-- ---- a tail in hand whose words are stored, but the start word

-- the draw, and then the stores
pub record Filled (v z : View) (s rec head n : ℕ) (act : Act) : Type 0 where
  pub some : 0 < n
  pub few : n ≤ v.limits.tails
  pub count : ℕ
  pub counters : List Counter
  pub facts : List Fact
  pub view : Learns v z s (record (knows v s) {
    hold = tail_of v.limits rec head n false;
    draft = (knows z s).draft;
    counters = counters;
    facts = (knows v s).facts ++ facts;
    finds = (knows v s).finds ++ CountedTails (range_of rec) count ∷ [];
  })
  pub draft : IsDraft v.limits.columns (knows z s).draft (cell_word (encoding_of v.limits.columns rec act) head act) (3 + v.limits.columns)
  pub words : v.whole ≡ true → (n ≡ (known_words v).counts (range_of rec) + 1) × ChangesTail (with_count (known_words v) (range_of rec) n) (known_words z) (range_of rec * v.limits.tails + n)

pub filled : (v u z : View) (s rec head n columns encoding : ℕ) (act : Act) → columns ≡ v.limits.columns → encoding ≡ encoding_of columns rec act → Draws v u s rec head n → Learns u z s (record (knows u s) { draft = (knows z s).draft })
    → IsDraft columns (knows z s).draft (cell_word encoding head act) (3 + columns) → (u.whole ≡ true → ChangesTail (known_words u) (known_words z) (knows u s).hold.tail) → Filled v z s rec head n act
filled v u z s rec head n columns encoding act same is d learns draft words = record {
  some = d.some;
  few = d.few;
  count = d.count;
  counters = d.counters;
  facts = d.facts;
  view = subst (λ (k : Known). Learns v z s k) (λ i. record (d.view.now i) { draft = (knows z s).draft }) (learns_on v u z s _ _ d.view learns);
  draft = subst (λ (m : ℕ). IsDraft m (knows z s).draft (cell_word (encoding_of m rec act) head act) (3 + m)) same (subst (λ (e : ℕ). IsDraft columns (knows z s).draft (cell_word e head act) (3 + columns)) is draft);
  words = λ whole. let q = d.words whole in (
    q.0,
    subst (λ (t : ℕ). ChangesTail (with_count (known_words v) (range_of rec) n) (known_words z) t) (ap (λ (k : Known). k.hold.tail) d.view.now)
        (subst (λ (a : Words). ChangesTail a (known_words z) (knows u s).hold.tail) q.1 (words (d.view.whole ∙ whole))),
  );
}

-- the tail that was drawn has no words yet
pub blank_draft : (v u : View) (s rec head n : ℕ) (word : ℕ → ℕ) → Draws v u s rec head n → IsDraft v.limits.columns (knows u s).draft word 1
blank_draft v u s rec head n word d = subst (λ (k : Known). IsDraft v.limits.columns k.draft word 1) (sym d.view.now) record {
  wide = length-replicate (3 + v.limits.columns) 0;
  stored = refl;
  same = λ q some low. absurd (omega arith);
}

module _ (v z : View) (s rec head n : ℕ) (act : Act) (F : Filled v z s rec head n act) (own : s < v.limits.sessions) (hosts_own : hosts v s ≡ true) (is : IsActFor v.limits.columns act) (fits : FitsSight (knows v s) rec act) where
  abbrev l : Limits
  l = v.limits

  abbrev k : Known
  k = knows z s

  abbrev T : ℕ
  T = range_of rec * v.limits.tails + n

  hosted : hosts z s ≡ true
  hosted = ap (λ (bs : List Bool). slice_index_or bs s false) F.view.hosted ∙ hosts_own

  hold_is : (knows z s).hold ≡ tail_of v.limits rec head n false
  hold_is = ap (λ (u : Known). u.hold) F.view.now

  -- the start word may be stored
  pub start_enabled : (x : ℕ) → x ≡ 1 + 2 * name_of s (knows z s).number → Enabled z.limits (knows z s) (StoreCell s 0 x)
  start_enabled x name = (
    subst (λ (h : Hold). 0 < h.tail) (sym hold_is) (let some = F.some in omega arith),
    ap (λ (h : Hold). h.is_whole) hold_is,
    λ e. (F.draft.stored ∙ ap (λ (m : Limits). 2 ^ (3 + m.columns) - 2) (sym F.view.limits), name),
  )

  module _ (words : List ℕ) (known : ℕ → Known) (merger : Known) (a : Allowed z words known merger) where
    abbrev W : Words
    W = shown z.limits words

    same : knows z s ≡ known s
    same = knows_own z words known merger a s hosted (λ e. let f = ap (λ (m : Limits). m.sessions) F.view.limits in omega arith)

    columns_few : v.limits.columns ≤ 8
    columns_few = let h = a.sound.sized.columns.1 in let e = ap (λ (m : Limits). m.columns) F.view.limits in omega arith

    -- the words are those that were stored
    word_at_place : (p : ℕ) → p < 3 + v.limits.columns → (shown z.limits words).cells (range_of rec * v.limits.tails + n) p ≡ slice_index (knows z s).draft.words p
    word_at_place p low = let some = F.some in let e = ap (λ (m : Limits). m.columns) F.view.limits in let at : (known s).hold.tail ≡ T = ap (λ (u : Known). u.hold.tail) (sym same) ∙ ap (λ (h : Hold). h.tail) hold_is in
        let drafts = a.sound.tail_words.drafts s (let f = ap (λ (m : Limits). m.sessions) F.view.limits in omega arith) (omega arith) in
        ap (λ (t : ℕ). W.cells t p) (sym at) ∙ (drafts.is p (omega arith) ∙ ap (λ (u : Known). slice_index u.draft.words p) (sym same))

    pub drafted : Drafted v.limits rec head n act ((shown z.limits words).cells (range_of rec * v.limits.tails + n))
    drafted = let e : ℕ = encoding_of l.columns rec act in record {
      encoding = word_at_place 1 (omega arith) ∙ F.draft.same 1 (omega arith) (omega arith);
      back = word_at_place 2 (omega arith) ∙ F.draft.same 2 (omega arith) (omega arith);
      values = λ c low. word_at_place (3 + c) (omega arith) ∙ (F.draft.same (3 + c) (omega arith) (omega arith) ∙ word_value e head act c);
    }

    key_is : W.keys rec ≡ fits.0
    key_is = let has = fits.1 in (is_fact z words known merger a s hosted (IndexAt has.0 rec fits.0)
        (subst (λ (u : Known). Contains u.facts (IndexAt has.0 rec fits.0)) (sym F.view.now) (Contains-append_left (knows v s).facts F.facts (IndexAt has.0 rec fits.0) has.1))).1

    pub start_drafted : IsDrafted v.limits (shown z.limits words) (record (knows v s) { hold = tail_of v.limits rec head n false; draft = (knows z s).draft; counters = F.counters; facts = (knows v s).facts ++ F.facts; finds = (knows v s).finds ++ CountedTails (range_of rec) F.count ∷ [] }) 0
    start_drafted e = let q : rec + 1 - 1 ≡ rec = omega arith in (
      drafted_cell l columns_few rec head n F.some F.few act is W.cells drafted,
      drafted_record l columns_few rec head n F.some F.few act is W.cells drafted ∙ sym q,
      subst (λ (b : Act). FitsAfter (sight (knows v s) (W.keys (rec + 1 - 1))) b) (sym (drafted_act l columns_few rec head n F.some F.few act is W.cells drafted))
          (subst (λ (x : ℕ). FitsAfter (sight (knows v s) x) act) (sym (ap W.keys q ∙ key_is)) fits.2),
    )

  pub start_stands : (x : ℕ) → CanStand z (StoreCell s 0 x)
  start_stands x words known merger a = subst (λ (m : Limits). IsDrafted m (shown z.limits words) (knows z s) 0) (sym F.view.limits)
      (subst (λ (u : Known). IsDrafted v.limits (shown z.limits words) u 0) (sym F.view.now) (start_drafted words known merger a))

  -- ---- the start word is stored

  module _ (w : View) (x : ℕ) (at : Place) (name : x ≡ 1 + 2 * name_of s (knows z s).number) (made : Made z w (StoreCell s 0 x) at x) where
    abbrev V : Words
    V = shown z.limits made.told.words

    abbrev e : ℕ
    e = encoding_of v.limits.columns rec act

    abbrev values : List ℕ
    values = listed (value_of act) 0 v.limits.columns

    abbrev after : ℕ → ℕ → ℕ
    after = put_in V.cells T 0 x

    d : Drafted v.limits rec head n act (V.cells T)
    d = drafted made.told.words made.told.known made.told.merger made.told.allowed

    few : v.limits.columns ≤ 8
    few = columns_few made.told.words made.told.known made.told.merger made.told.allowed

    start_is : after T 0 ≡ x
    start_is = ap (λ (g : ℕ → ℕ). g 0) (put_in_row V.cells T 0 x) ∙ put_here (V.cells T) 0 x

    still : (p : ℕ) → p ≢ 0 → after T p ≡ V.cells T p
    still p other = put_in_else V.cells T 0 x T p (λ _. other)

    writer_is : writer V.log (after T 0) ≡ name_of s (knows z s).number
    writer_is = ap (writer V.log) start_is ∙ (writer_odd V.log x (omega arith) ∙ (omega arith))

    values_are : listed (after T) 3 v.limits.columns ≡ values
    values_are = listed_same (after T) (V.cells T) 3 3 v.limits.columns (λ i low. still (3 + i) (λ z. omega arith)) ∙ drafted_values v.limits few rec head n F.some F.few act is V.cells d

    -- the fact of the tail
    fact_is : cell_fact v.limits (record V { cells = put_in V.cells T 0 x }) T ≡ CellIs T (name_of s (knows z s).number) e head values
    fact_is = λ i. CellIs T (writer_is i) ((still 1 (λ z. omega arith) ∙ d.encoding) i) ((still 2 (λ z. omega arith) ∙ d.back) i) (values_are i)

    abbrev fact : Fact
    fact = CellIs T (name_of s (knows z s).number) e head values

    abbrev known_then : Known
    known_then = record (knows v s) {
      hold = tail_of v.limits rec head n true;
      draft = record (knows z s).draft { words = set (knows z s).draft.words 0 x };
      counters = F.counters;
      facts = (knows v s).facts ++ (F.facts ++ fact ∷ []);
      finds = (knows v s).finds ++ CountedTails (range_of rec) F.count ∷ [];
    }

    learns : Learns v w s known_then
    learns = subst (λ (u : Known). Learns v w s u)
        ((λ i. cell_started (F.view.limits i) V (F.view.now i) 0 x)
        ∙ (λ i. record known_then { facts = (ap (λ (f : Fact). ((knows v s).facts ++ F.facts) ++ f ∷ []) fact_is ∙ append_assoc (knows v s).facts F.facts (fact ∷ [])) i }))
        (learns_on v z w s _ _ F.view made.view)

    number_is : (knows w s).number ≡ (knows z s).number
    number_is = ap (λ (u : Known). u.number) learns.now ∙ sym (ap (λ (u : Known). u.number) F.view.now)

    whole : HasWhole v.limits (knows w s) s rec head n act
    whole = record {
      hold = ap (λ (u : Known). u.hold) learns.now;
      encoding = e;
      values = values;
      stored = subst (λ (m : ℕ). Contains (knows w s).facts (CellIs T (name_of s m) e head values)) (sym number_is)
          (subst (λ (u : Known). Contains u.facts fact) (sym learns.now) (Contains-append_right (knows v s).facts (F.facts ++ fact ∷ []) fact (Contains-append_right F.facts (fact ∷ []) fact (0, omega arith, refl))));
      says = act_says v.limits.columns rec few act is;
    }

    pub appended : Appends v w s rec head n act
    appended = record {
      some = F.some;
      few = F.few;
      count = F.count;
      draft = record (knows z s).draft { words = set (knows z s).draft.words 0 x };
      counters = F.counters;
      facts = F.facts ++ fact ∷ [];
      view = learns;
      whole = subst (λ (m : Limits). HasWhole m (knows w s) s rec head n act) (sym learns.limits) whole;
      words = λ knows_words. let q = F.words knows_words in (q.0, changes_next (with_count (known_words v) (range_of rec) n) z w s 0 x T at (F.view.whole ∙ knows_words) (ap (λ (h : Hold). h.tail) hold_is) q.1 made);
    }
