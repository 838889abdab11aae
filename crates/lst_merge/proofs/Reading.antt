-- What loads of the words of a settled tail find.
use Rattle.std.proofs.Common.{◌≡◌, ◌⊎◌, inl, inr, ℕ, zero, suc, slice_set, ◌+◌, ◌-◌, ◌/◌, ◌%◌, ◌^◌, ◌<◌, ◌≤◌, List, [], ◌∷◌, Bool, true, false, cond, Some, None, length, Contains, sym, subst, ap, ◌∙◌, arith, slice_index, slice_index_or, get_or, eq-eqb, ne_eqb, true≢false}
use Rattle.std.specs.Prelude.{IsTrue, ◌↔◌}
use Rattle.std.specs.Int.{bit_at}
use Rattle.lst_layout.specs.Addresses.{address}
use Rattle.lst_layout.specs.Words.{Words, shown}
use Rattle.lst_layout.specs.declared.limits.Limits.{Limits}
use Rattle.lst_layout.specs.declared.place.Place.TheVariants.{CellWord}
use Rattle.lst_bits.specs.declared.encodings.Encoding.{Encoding}
use Rattle.lst_bits.specs.Encodings as bits
use Rattle.lst_bits.specs.Encodings.{encoding_of, IsEncodingWord, IsMaskOf}
use Rattle.lst_model.specs.Cells.{cell_of, cells_of, has_bit}
use Rattle.lst_core_state.specs.declared.facts.Fact.{Fact}
use Rattle.lst_core_state.specs.declared.facts.Fact.TheVariants.{CellIs}
use Rattle.lst_core_state.specs.declared.known.Known.{Known}
use Rattle.lst_core_state.specs.Cells.{kind_of, mask_of, IsCell}
use Rattle.lst_core_state.specs.Facts.{IsFact}
use Rattle.lst_pages.specs.declared.tails.PageTail.{PageTail}
use Rattle.lst_pages.specs.Rows.{cell_at}
use Rattle.lst_rule.specs.declared.view.View.{View}
use Rattle.lst_rule.specs.Rule.{knows, hosts, Allowed}
use Rattle.lst_rule.specs.Stores.{Looked}
use Rattle.lst_rule.proofs.Knowing.{is_fact}
use Rattle.lst_rule.specs.Learned.{Possible}
use Rattle.lst_rule.proofs.Copying.{listed_at, length-listed}
use Rattle.lst_rule.proofs.Encoded.{cell_encoded}
use Rattle.lst_merge.specs.Inspections.{merger_of, Inspects}
use Rattle.lst_merge.specs.Runs.{KnowsSettled, HasSettled, IsEncodedAs}
use Rattle.lst_merge.proofs.Inspecting.{inspects_cell, facts_stay}

-- the mask of a stored encoding word fits its kind
mask_fits : (columns k mask : ℕ) → ((k ≡ 1) × (mask ≡ 2 ^ columns - 1)) ⊎ (((k ≡ 2) × (0 < mask) × (mask < 2 ^ columns)) ⊎ ((k ≡ 3) × (mask ≡ 0))) → IsMaskOf columns (bits.kind_of k) mask
mask_fits columns k mask (inl h) = subst (λ (n : ℕ). IsMaskOf columns (bits.kind_of n) mask) (sym h.0) h.1
mask_fits columns k mask (inr (inl h)) = subst (λ (n : ℕ). IsMaskOf columns (bits.kind_of n) mask) (sym h.0) (h.1, h.2)
mask_fits columns k mask (inr (inr h)) = subst (λ (n : ℕ). IsMaskOf columns (bits.kind_of n) mask) (sym h.0) h.1

cell_masked : (columns e : ℕ) (values : ℕ → ℕ) → IsCell columns e values → IsMaskOf columns (encoding_of e).kind (encoding_of e).mask
cell_masked columns e values cell = mask_fits columns (kind_of e) (mask_of e) cell.kind

module _ (v w : View) (s t p x : ℕ) (hosted : hosts v s ≡ true) (looked : Looked v w s (CellWord t p) x) where
  abbrev W : Words
  W = shown v.limits looked.met.made.told.words

  -- what is known then is so in the state that was met
  pub fact_then : (f : Fact) → Contains (knows w s).facts f → IsFact v.limits (shown v.limits looked.met.made.told.words) f
  fact_then f h = let m = looked.met.made.told in subst (λ (q : Words). IsFact v.limits q f) m.shows (subst (λ (l : Limits). IsFact l (shown l (slice_set m.words (address v.limits (CellWord t p)) x)) f) looked.view.limits
      (is_fact w (slice_set m.words (address v.limits (CellWord t p)) x) _ _ m.after s (ap (λ (hs : List Bool). slice_index_or hs s false) looked.view.hosted ∙ hosted) f h))

  module _ (writer word back : ℕ) (values : List ℕ) (h : Contains (knows w s).facts (CellIs t writer word back values)) where
    cell : IsFact v.limits (shown v.limits looked.met.made.told.words) (CellIs t writer word back values)
    cell = fact_then (CellIs t writer word back values) h

    pub word_found : p ≡ 1 → x ≡ word
    word_found e = sym looked.met.found ∙ (ap ((shown v.limits looked.met.made.told.words).cells t) e ∙ cell.2)

    pub value_found : (c : ℕ) → c < v.limits.columns → p ≡ 3 + c → x ≡ slice_index values c
    value_found c low e = sym looked.met.found ∙ (ap ((shown v.limits looked.met.made.told.words).cells t) e
        ∙ (sym (listed_at ((shown v.limits looked.met.made.told.words).cells t) 3 v.limits.columns c low) ∙ ap (λ (xs : List ℕ). get_or xs c 0) cell.4))

    pub wide_found : length values ≡ v.limits.columns
    wide_found = ap length (sym cell.4) ∙ length-listed ((shown v.limits looked.met.made.told.words).cells t) 3 v.limits.columns

    -- its encoding word is one
    pub word_encoded : v.limits.columns ≤ 8 → p ≡ 1 → IsEncodingWord x
    word_encoded few e = subst IsEncodingWord (sym (ap ((shown v.limits looked.met.made.told.words).cells t) e) ∙ looked.met.found)
        (cell_encoded v.limits.columns (W.cells t 1) (λ k. W.cells t (3 + k)) few (looked.met.made.told.allowed.sound.tail_words.images t cell.0))

    -- and its mask fits its kind
    pub word_masked : p ≡ 1 → IsMaskOf v.limits.columns (encoding_of x).kind (encoding_of x).mask
    word_masked e = subst (λ (y : ℕ). IsMaskOf v.limits.columns (encoding_of y).kind (encoding_of y).mask) (sym (ap (W.cells t) e) ∙ looked.met.found)
        (cell_masked v.limits.columns (W.cells t 1) (λ k. W.cells t (3 + k)) (looked.met.made.told.allowed.sound.tail_words.images t cell.0))

-- ---- of the merger

cell_here : (nulls c : ℕ) (values : List ℕ) (k : ℕ) → k < length values → cell_at k (cells_of nulls c values) ≡ cell_of nulls (c + k) (slice_index values k)
cell_here nulls c [] k low = absurd (omega arith)
cell_here nulls c (x ∷ values) zero low = ap (λ (n : ℕ). cell_of nulls n x) (let e : c ≡ c + zero = omega arith in e)
cell_here nulls c (x ∷ values) (suc k) low = cell_here nulls (suc c) values k (omega arith) ∙ ap (λ (n : ℕ). cell_of nulls n (slice_index values k)) (let e : suc c + k ≡ c + suc k = omega arith in e)

-- the kind of a tail, and its cells, by the encoding that the facts have
module _ (k : Known) (t : ℕ) (e : Encoding) (tail : PageTail) (encoded : IsEncodedAs k.facts t e) (knows_it : KnowsSettled k t tail) where
  code : encoding_of knows_it.encoding ≡ e
  code = sym (encoded knows_it.writer knows_it.encoding knows_it.back knows_it.values knows_it.cell)

  cells_are : tail.values ≡ cells_of e.nulls 0 knows_it.values
  cells_are = ap (λ (u : PageTail). u.values) knows_it.is ∙ ap (λ (f : Encoding). cells_of f.nulls 0 knows_it.values) code

  pub held_at : (c : ℕ) → c < length knows_it.values → cell_at c tail.values ≡ cond (has_bit e.nulls c) None (Some (slice_index knows_it.values c))
  held_at c low = ap (cell_at c) cells_are ∙ (cell_here e.nulls 0 knows_it.values c low ∙ (let f : 0 + c ≡ c = omega arith in ap (λ (n : ℕ). cell_of e.nulls n (slice_index knows_it.values c)) f))

-- as many values as columns, in each state
pub wide_known : (v : View) (words : List ℕ) (known : ℕ → Known) (merger : Known) → Allowed v words known merger → hosts v v.limits.sessions ≡ true → (t : ℕ) (tail : PageTail) → (k : KnowsSettled (merger_of v) t tail) → length k.values ≡ v.limits.columns
wide_known v words known merger may hosted t tail k = let f = is_fact v words known merger may v.limits.sessions hosted (CellIs t k.writer k.encoding k.back k.values) k.cell in ap length (sym f.4) ∙ length-listed ((shown v.limits words).cells t) 3 v.limits.columns

module _ (v w : View) (s t p x : ℕ) (e : s ≡ v.limits.sessions) (hosted : hosts v v.limits.sessions ≡ true) (looked : Looked v w s (CellWord t p) x) where
  host_s : hosts v s ≡ true
  host_s = ap (hosts v) e ∙ hosted

  pub inspects_word : Inspects v w v.limits.sessions
  inspects_word = subst (Inspects v w) e (inspects_cell v w s t p x looked)

  merger_now : knows w s ≡ merger_of w
  merger_now = ap (knows w) (e ∙ ap (λ (l : Limits). l.sessions) (sym looked.view.limits))

  pub has_encoded : p ≡ 1 → (f : Encoding) → f ≡ encoding_of x → IsEncodedAs (merger_of w).facts t f
  has_encoded at f is writer word back values h = is ∙ ap encoding_of (word_found v w s t p x host_s looked writer word back values (subst (λ (k : Known). Contains k.facts (CellIs t writer word back values)) (sym merger_now) h) at)

  module _ (settled : HasSettled (merger_of v) t) where
    here : Contains (knows w s).facts (CellIs t settled.1.writer settled.1.encoding settled.1.back settled.1.values)
    here = facts_stay v w s (inspects_cell v w s t p x looked) (CellIs t settled.1.writer settled.1.encoding settled.1.back settled.1.values) (subst (λ (k : Known). Contains k.facts (CellIs t settled.1.writer settled.1.encoding settled.1.back settled.1.values)) (sym (ap (knows v) e)) settled.1.cell)

    pub has_word : v.limits.columns ≤ 8 → p ≡ 1 → IsEncodingWord x
    has_word few at = word_encoded v w s t p x host_s looked settled.1.writer settled.1.encoding settled.1.back settled.1.values here few at

    pub has_mask : p ≡ 1 → IsMaskOf v.limits.columns (encoding_of x).kind (encoding_of x).mask
    has_mask at = word_masked v w s t p x host_s looked settled.1.writer settled.1.encoding settled.1.back settled.1.values here at

  pub held_value : (code : Encoding) (c : ℕ) → c < v.limits.columns → p ≡ 3 + c → IsEncodedAs (merger_of v).facts t code → has_bit code.nulls c ≡ false → (tail : PageTail) → KnowsSettled (merger_of v) t tail → Some x ≡ cell_at c tail.values
  held_value code c low at encoded bit tail k = let m = looked.met.made.told in
      let same : x ≡ slice_index k.values c = value_found v w s t p x host_s looked k.writer k.encoding k.back k.values (here (tail, k)) c low at in
      let wide : length k.values ≡ v.limits.columns = wide_known v m.words m.known m.merger m.allowed hosted t tail k in
      sym (held_at (merger_of v) t code tail encoded k c (omega arith) ∙ ((λ i. cond (bit i) None (Some (slice_index k.values c))) ∙ ap Some (sym same)))

pub held_null : (v : View) (p : Possible v) (t : ℕ) (code : Encoding) (c : ℕ) → hosts v v.limits.sessions ≡ true → c < v.limits.columns → IsEncodedAs (merger_of v).facts t code → has_bit code.nulls c ≡ true → (tail : PageTail) → KnowsSettled (merger_of v) t tail → None ≡ cell_at c tail.values
held_null v p t code c hosted low encoded bit tail k = let wide : length k.values ≡ v.limits.columns = wide_known v p.words p.known p.merger p.allowed hosted t tail k in
    sym (held_at (merger_of v) t code tail encoded k c (omega arith) ∙ (λ i. cond (bit i) None (Some (slice_index k.values c))))

-- a bit, as the code reads it
pub bit_set : (bits c : ℕ) → bit_at bits c ≡ 1 → has_bit bits c ≡ true
bit_set bits c is = eq-eqb (bits / 2 ^ c % 2) 1 is

pub bit_unset : (bits c : ℕ) (b : Bool) → (IsTrue b ↔ (bit_at bits c ≡ 1)) → b ≡ false → has_bit bits c ≡ false
bit_unset bits c b says none = ne_eqb (bits / 2 ^ c % 2) 1 (λ e. true≢false (sym (says.1 e) ∙ none))
