-- What loads of words of a tail, and of a position, find.
use Rattle.std.proofs.Common.{◌≡◌, ◌≢◌, ℕ, ◌+◌, ◌-◌, ◌^◌, ◌<◌, ◌≤◌, List, [], ◌∷◌, ◌++◌, Bool, true, false, cond, eqb, ◌&&◌, refl, sym, subst, ap, ◌∙◌, arith, append-nil, ne_eqb, inr, slice_index}
use Rattle.std.specs.Prelude.{bit_or, slice_set}
use Rattle.std.specs.List.{Contains}
use Rattle.std.proofs.lemmas.List.Elements.{All-nil, All-cons, Contains-append_left, Contains-append_right}
use Rattle.lst_layout.specs.declared.limits.Limits.{Limits}
use Rattle.lst_layout.specs.declared.place.Place.TheVariants.{CellWord, PostingWord}
use Rattle.lst_layout.specs.Addresses.{address}
use Rattle.lst_layout.specs.Words.{Words, shown}
use Rattle.lst_layout.proofs.Functions.{get-listed}
use Rattle.lst_core_state.specs.declared.known.Known.{Known}
use Rattle.lst_core_state.specs.declared.known.Hold.{Hold}
use Rattle.lst_core_state.specs.declared.events.Event.TheVariants.{Look}
use Rattle.lst_core_state.specs.declared.facts.Fact.{Fact}
use Rattle.lst_core_state.specs.declared.facts.Fact.TheVariants.{PostAt}
use Rattle.lst_core_state.specs.declared.facts.Find.TheVariants.{TailLoad, EmptyStart}
use Rattle.lst_core_state.specs.Cells.{has_bit, has_number, listed, tail_count}
use Rattle.lst_core_state.specs.Facts.{cell_fact, stored_fact, commit_fact}
use Rattle.lst_core_state.specs.State.{writer_at, record_in, state_over}
use Rattle.lst_core_state.specs.Postings.{postings_size, value_position, IsAlike, IsPosted, is_alike, ends_at, is_unposted}
use Rattle.lst_core_state.specs.Step.{after}
use Rattle.lst_core_state.specs.Sound.{Sound}
use Rattle.lst_core_state.proofs.PostingsKept.{has_bit-same, unposted_says}
use Rattle.lst_core_state.proofs.PostingsLaws.{ends_are_marked, marked_are_posted}
use Rattle.lst_rule.specs.declared.view.View.{View}
use Rattle.lst_rule.specs.Rule.{knows, hosts}
use Rattle.lst_rule.specs.Learned.{Learns}
use Rattle.lst_rule.specs.Stores.{Looked}
use Rattle.lst_rule.proofs.Knowing.{knows_own}
use Rattle.lst_rule.specs.Shown.{HasWords, KnownOther, StandsAt, Passed}
use Rattle.lst_rule.specs.Posting.{IsTailLoad, Posts}
use Rattle.lst_second.specs.Visits.{IsEntry, MayPost}
use Rattle.lst_second.specs.Candidates.{Probes}
use Rattle.lst_second.specs.Gathers.{EndsAt}
use Rattle.lst_second.specs.declared.visits.Entry.{Entry}
use Rattle.lst_rule.proofs.PostingViews.{kept_words, learnt}
use Rattle.lst_rule.proofs.PostingFacts.{encoding_is, value_is, stands_is, stored_is, passes, held_some}

-- ---- a word of a tail, not its start word

module _ (v w : View) (s tail p x : ℕ) (h : Looked v w s (CellWord tail p) x) (later : 0 < p) (hosted : hosts v s ≡ true) where
  abbrev W : Words
  W = shown v.limits h.met.made.told.words

  abbrev k : Known
  k = knows v s

  abbrev found : List Fact
  found = stored_fact v.limits W tail ++ commit_fact W.log (W.cells tail 0)

  cell_learns : Learns v w s (learnt k k.draft.posted k.draft.unposted found (TailLoad tail ∷ []))
  cell_learns = subst (λ (b : Bool). Learns v w s (record k {
    facts = k.facts ++ found;
    finds = k.finds ++ TailLoad tail ∷ cond (b && eqb (W.cells tail 0) 0) (EmptyStart tail ∷ []) [];
    looks = cond b (record k.looks { start = W.cells tail 0; about = record_in v.limits W.cells tail + 1; tail = tail }) k.looks;
  })) (ne_eqb p 0 (λ e. omega arith)) h.view

  pub cell_posts : Posts v w s
  cell_posts = record {
    facts = found;
    finds = TailLoad tail ∷ [];
    posted = k.draft.posted;
    unposted = k.draft.unposted;
    view = cell_learns;
    loads = All-cons IsTailLoad (TailLoad tail) [] tt (All-nil IsTailLoad);
    words = kept_words v w h.view.limits h.kept;
  }

  pub cell_probes : Probes v w s
  cell_probes = record {
    facts = found;
    finds = TailLoad tail ∷ [];
    unposted = k.draft.unposted;
    view = cell_learns;
    loads = All-cons IsTailLoad (TailLoad tail) [] tt (All-nil IsTailLoad);
    still = λ _. refl;
    kept = h.kept;
  }

  -- the word is as an earlier fact has it
  pub encoding_found : (encoding : ℕ) (values : List ℕ) → HasWords k.facts tail encoding values → p ≡ 1 → x ≡ encoding
  encoding_found encoding values words e = let t = h.met.made.told in let at : W.cells tail p ≡ x = h.met.found in sym at ∙ (ap (W.cells tail) e ∙ encoding_is v t.words t.known t.merger t.allowed s hosted tail encoding values words)

  pub value_found : (encoding column : ℕ) (values : List ℕ) → HasWords k.facts tail encoding values → column < v.limits.columns → p ≡ 3 + column → x ≡ slice_index values column
  value_found encoding column values words low e = let t = h.met.made.told in let at : W.cells tail p ≡ x = h.met.found in sym at ∙ (ap (W.cells tail) e ∙ value_is v t.words t.known t.merger t.allowed s hosted tail encoding column values words low)

  -- a tail that is stored is a fact then, with its words
  abbrev pub stored_encoding : ℕ
  stored_encoding = W.cells tail 1

  abbrev pub stored_values : List ℕ
  stored_values = listed (W.cells tail) 3 v.limits.columns

  now_words : 0 < W.cells tail 0 → HasWords (knows w s).facts tail (W.cells tail 1) stored_values
  now_words some = (
    writer_at W tail,
    W.cells tail 2,
    subst (λ (u : Known). Contains u.facts (cell_fact v.limits W tail)) (sym cell_learns.now)
        (Contains-append_right k.facts found (cell_fact v.limits W tail)
        (Contains-append_left (stored_fact v.limits W tail) (commit_fact W.log (W.cells tail 0)) (cell_fact v.limits W tail)
        (subst (λ (b : Bool). Contains (cond b [] (cell_fact v.limits W tail ∷ [])) (cell_fact v.limits W tail)) (sym (ne_eqb (W.cells tail 0) 0 (λ e. omega arith))) (0, omega arith, refl)))),
  )

  pub now_value : (column : ℕ) → column < v.limits.columns → p ≡ 3 + column → slice_index stored_values column ≡ x
  now_value column low e = let at : W.cells tail p ≡ x = h.met.found in get-listed (W.cells tail) 3 v.limits.columns column 0 low ∙ (ap (W.cells tail) (sym e) ∙ at)

  -- what a load of a value finds of a tail that stands at a position
  module _ (column value n : ℕ) (low : column < v.limits.columns) (at : p ≡ 3 + column) (stands : StandsAt v.limits k.facts column value n tail) where
    stored : 0 < W.cells tail 0
    stored = let t = h.met.made.told in stored_is v t.words t.known t.merger t.allowed s hosted column value n tail stands

    -- it holds the column with a number
    pub value_number : has_number (W.cells tail 1) column ≡ true
    value_number = let t = h.met.made.told in let f = stands_is v t.words t.known t.merger t.allowed s hosted column value n tail stands in
        subst (λ (y : ℕ). has_number (W.cells y 1) column ≡ true) f.1 (t.allowed.sound.postings.filled column (value_position v.limits value n) (subst (λ (y : ℕ). 0 < y) (sym f.1) f.0)).number

    -- it has the value
    pub value_words : HasWords (knows w s).facts tail (W.cells tail 1) stored_values
    value_words = now_words stored

    pub value_same : x ≡ value → slice_index stored_values column ≡ value
    value_same e = now_value column low at ∙ e

    pub value_other : (r : ℕ) → x ≢ value → KnownOther v.limits (knows w s).facts column r value tail
    value_other r ne = record { encoding = W.cells tail 1; values = stored_values; words = value_words; other = inr (λ e. ne (sym (now_value column low at) ∙ e)) }

-- ---- a position

-- a tail in hand that isn't whole is never found unposted
partial_unmarked : (l : Limits) (w : Words) (h : Hold) (column q : ℕ) → h.is_whole ≡ false → is_unposted l w h column q ≡ false
partial_unmarked l w h column q none = ap (λ (b : Bool). b && (has_number (w.cells h.tail 1) column
    && ends_at (w.postings column) (is_alike l w.cells column (h.latch - 1) (w.cells h.tail (3 + column))) (value_position l (w.cells h.tail (3 + column))) q (postings_size l) 0)) none

module _ (v w : View) (s : ℕ) (e : Entry) (q x : ℕ) (h : Looked v w s (PostingWord e.column q) x) (hosted : hosts v s ≡ true) where
  abbrev W' : Words
  W' = shown v.limits h.met.made.told.words

  abbrev u : Known
  u = knows v s

  abbrev at_position : ℕ → List Fact
  at_position y = cond (eqb y 0) [] (PostAt e.column q y ∷ [])

  abbrev marks : ℕ
  marks = cond (is_unposted v.limits W' u.hold e.column q) (bit_or u.draft.unposted (2 ^ e.column)) u.draft.unposted

  at : W'.postings e.column q ≡ x
  at = h.met.found

  posting_learns : Learns v w s (learnt u u.draft.posted marks (at_position x) [])
  posting_learns = subst (Learns v w s) (λ i. record u {
    draft = record u.draft { unposted = marks };
    facts = u.facts ++ at_position (at i);
    finds = sym (append-nil u.finds) i;
  }) h.view

  pub posting_posts : Posts v w s
  posting_posts = record {
    facts = at_position x;
    finds = [];
    posted = u.draft.posted;
    unposted = marks;
    view = posting_learns;
    loads = All-nil IsTailLoad;
    words = kept_words v w h.view.limits h.kept;
  }

  pub posting_probes : Probes v w s
  posting_probes = record {
    facts = at_position x;
    finds = [];
    unposted = marks;
    view = posting_learns;
    loads = All-nil IsTailLoad;
    still = λ none. ap (λ (b : Bool). cond b (bit_or u.draft.unposted (2 ^ e.column)) u.draft.unposted) (partial_unmarked v.limits W' u.hold e.column q none);
    kept = h.kept;
  }

  -- where the run ends
  pub posting_ends : (n : ℕ) → q ≡ value_position v.limits e.value n → x ≡ 0 → EndsAt w e.column e.value n
  posting_ends n is free = let t = h.met.made.told in record {
    met = record {
      words = slice_set t.words (address v.limits (PostingWord e.column q)) x;
      known = (after (state_over v.limits t.words t.known t.merger) (Look s (address v.limits (PostingWord e.column q)))).known;
      merger = (after (state_over v.limits t.words t.known t.merger) (Look s (address v.limits (PostingWord e.column q)))).merger;
      allowed = t.after;
    };
    empty = subst (λ (l : Limits). (shown l (slice_set t.words (address v.limits (PostingWord e.column q)) x)).postings e.column (value_position l e.value n) ≡ 0) (sym h.view.limits)
        (ap (λ (z : Words). z.postings e.column (value_position v.limits e.value n)) t.shows ∙ (ap (W'.postings e.column) (sym is) ∙ (at ∙ free)));
  }

  -- a tail
  pub posting_stands : (n : ℕ) → q ≡ value_position v.limits e.value n → x ≢ 0 → StandsAt v.limits (knows w s).facts e.column e.value n x
  posting_stands n is some = subst (λ (z : ℕ). Contains (knows w s).facts (PostAt e.column z x)) is
      (subst (λ (z : Known). Contains z.facts (PostAt e.column q x)) (sym posting_learns.now)
      (Contains-append_right u.facts (at_position x) (PostAt e.column q x)
      (subst (λ (b : Bool). Contains (cond b [] (PostAt e.column q x ∷ [])) (PostAt e.column q x)) (sym (ne_eqb x 0 some)) (0, omega arith, refl))))

  pub posting_few : x ≢ 0 → x ≤ tail_count v.limits
  posting_few some = let sound : Sound (state_over v.limits h.met.made.told.words h.met.made.told.known h.met.made.told.merger) = h.met.made.told.allowed.sound in
      let stored = (sound.postings.filled e.column q (let f = at in omega arith)).stored in let few = (sound.versions.stored (W'.postings e.column q) stored).few in let f = at in omega arith

  -- or the run's end, after positions that other tails have
  module _ (is_entry : IsEntry v.limits u e) (own : s < v.limits.sessions) (n : ℕ) (short : n < postings_size v.limits) (is : q ≡ value_position v.limits e.value n) (passed : Passed v.limits u.facts e.column e.rec e.value n) (free : x ≡ 0) where
    abbrev held : ℕ
    held = W'.cells u.hold.tail (3 + e.column)

    value_held : held ≡ e.value
    value_held = let t = h.met.made.told in value_is v t.words t.known t.merger t.allowed s hosted u.hold.tail is_entry.encoding e.column is_entry.values is_entry.words is_entry.low ∙ is_entry.same

    number_held : has_number (W'.cells u.hold.tail 1) e.column ≡ true
    number_held = let t = h.met.made.told in ap (λ (y : ℕ). has_number y e.column) (encoding_is v t.words t.known t.merger t.allowed s hosted u.hold.tail is_entry.encoding is_entry.values is_entry.words) ∙ is_entry.number

    abbrev IsOther : ℕ → ℕ → ℕ → Type 0
    IsOther r y i = let t : ℕ = W'.postings e.column (value_position v.limits y i) in (0 < t) × ¬ IsAlike v.limits W'.cells e.column r y t

    passes_held : (i : ℕ) → i < n → IsOther (u.hold.latch - 1) held i
    passes_held i low = let t = h.met.made.told in subst (λ (y : ℕ). IsOther (u.hold.latch - 1) y i) (sym value_held) (subst (λ (r : ℕ). IsOther r e.value i) (let f = is_entry.latch in omega arith) (passes v t.words t.known t.merger t.allowed s hosted e.column e.rec e.value n is_entry.low passed i low))

    place_is : value_position v.limits held n ≡ q
    place_is = ap (λ (y : ℕ). value_position v.limits y n) value_held ∙ sym is

    end_is : W'.postings e.column (value_position v.limits held n) ≡ 0
    end_is = ap (W'.postings e.column) place_is ∙ (at ∙ free)

    ends : is_unposted v.limits W' u.hold e.column q ≡ true
    ends = subst (λ (y : ℕ). is_unposted v.limits W' u.hold e.column y ≡ true) place_is (ends_are_marked v.limits W' u.hold e.column n is_entry.whole number_held short passes_held end_is)

    marked : (knows w s).draft.unposted ≡ bit_or u.draft.unposted (2 ^ e.column)
    marked = ap (λ (z : Known). z.draft.unposted) posting_learns.now ∙ ap (λ (b : Bool). cond b (bit_or u.draft.unposted (2 ^ e.column)) u.draft.unposted) ends

    unmarked : has_bit u.draft.posted e.column ≡ false
    unmarked = choose (has_bit u.draft.posted e.column) refl
      where
        choose : (b : Bool) → has_bit u.draft.posted e.column ≡ b → b ≡ false
        choose false f = refl
        choose true f = let t = h.met.made.told in let same : u ≡ t.known s = knows_own v t.words t.known t.merger t.allowed s hosted (λ g. omega arith) in
            absurd ((unposted_says v.limits W' u.hold e.column q ends).2
            (subst (λ (z : Known). 0 < z.hold.tail → has_bit z.draft.posted e.column ≡ true → IsPosted v.limits W'.cells (W'.postings e.column) e.column (z.hold.latch - 1) (W'.cells z.hold.tail (3 + e.column))) (sym same)
            (λ some bit. marked_are_posted (state_over v.limits t.words t.known t.merger) t.allowed.sound s own some e.column bit)
            (held_some v t.words t.known t.merger t.allowed s hosted own is_entry.whole) f))

    pub posting_free : MayPost (knows w s) e.column
    posting_free = record {
      unposted = subst (λ (m : ℕ). has_bit m e.column ≡ true) (sym marked) (has_bit-same u.draft.unposted e.column);
      still = subst (λ (m : ℕ). has_bit m e.column ≡ false) (sym (ap (λ (z : Known). z.draft.posted) posting_learns.now)) unmarked;
    }
