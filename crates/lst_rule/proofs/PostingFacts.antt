-- What facts say of the postings in each state in which the view is possible.
use Rattle.std.proofs.Common.{◌≡◌, ◌≢◌, ℕ, ◌+◌, ◌-◌, ◌<◌, ◌≤◌, List, true, false, sym, subst, ap, ◌∙◌, refl, arith, true≢false, ⊎_elim, slice_index}
use Rattle.lst_layout.specs.declared.limits.Limits.{Limits}
use Rattle.lst_layout.specs.Words.{Words, shown}
use Rattle.lst_layout.proofs.Functions.{get-listed}
use Rattle.lst_probe.specs.Run.{Passes}
use Rattle.lst_core_state.specs.declared.known.Known.{Known}
use Rattle.lst_core_state.specs.declared.facts.Fact.TheVariants.{CellIs, PostAt}
use Rattle.lst_core_state.specs.Cells.{record_of, has_number, tail_count}
use Rattle.lst_core_state.specs.State.{state_over}
use Rattle.lst_core_state.specs.Postings.{postings_size, value_first, value_position, IsAlike, IsPosted, ArePosted}
use Rattle.lst_core_state.proofs.PostingsLaws.{postings_have_room}
use Rattle.lst_rule.specs.declared.view.View.{View}
use Rattle.lst_rule.specs.Rule.{knows, hosts, Allowed}
use Rattle.lst_rule.specs.Learned.{Possible}
use Rattle.lst_rule.proofs.Knowing.{is_fact, knows_own}
use Rattle.lst_rule.specs.Shown.{HasWords, KnownAlike, KnownOther, StandsAt, Taken, Passed, IsShown}
use Rattle.lst_rule.specs.Posting.{AllPosted}

module _ (v : View) (words : List ℕ) (known : ℕ → Known) (merger : Known) (a : Allowed v words known merger) (s : ℕ) (hosted : hosts v s ≡ true) where
  abbrev pub w : Words
  w = shown v.limits words

  abbrev pub l : Limits
  l = v.limits

  abbrev pub k : Known
  k = knows v s

  -- the words of a tail
  pub encoding_is : (tail encoding : ℕ) (values : List ℕ) → HasWords k.facts tail encoding values → w.cells tail 1 ≡ encoding
  encoding_is tail encoding values h = (is_fact v words known merger a s hosted (CellIs tail h.0 encoding h.1 values) h.2).2

  pub value_is : (tail encoding column : ℕ) (values : List ℕ) → HasWords k.facts tail encoding values → column < l.columns → w.cells tail (3 + column) ≡ slice_index values column
  value_is tail encoding column values h low = let f = is_fact v words known merger a s hosted (CellIs tail h.0 encoding h.1 values) h.2 in
      sym (get-listed (w.cells tail) 3 l.columns column 0 low) ∙ ap (λ (vs : List ℕ). slice_index vs column) f.4

  -- and what they make of it
  pub alike_is : (column r value tail : ℕ) → column < l.columns → KnownAlike l k.facts column r value tail → IsAlike l w.cells column r value tail
  alike_is column r value tail low h = (
    ap (record_of l.tails tail) (encoding_is tail h.encoding h.values h.words) ∙ h.rec,
    value_is tail h.encoding column h.values h.words low ∙ h.same,
  )

  pub other_is : (column r value tail : ℕ) → column < l.columns → KnownOther l k.facts column r value tail → ¬ IsAlike l w.cells column r value tail
  other_is column r value tail low h alike = ⊎_elim
      (λ (ne : record_of l.tails tail h.encoding ≢ r). ne (ap (record_of l.tails tail) (sym (encoding_is tail h.encoding h.values h.words)) ∙ alike.0))
      (λ (ne : slice_index h.values column ≢ value). ne (sym (value_is tail h.encoding column h.values h.words low) ∙ alike.1)) h.other

  -- a position that holds a tail
  pub stands_is : (column value n tail : ℕ) → StandsAt l k.facts column value n tail → (0 < tail) × (w.postings column (value_position l value n) ≡ tail)
  stands_is column value n tail h = is_fact v words known merger a s hosted (PostAt column (value_position l value n) tail) h

  -- which is stored
  pub stored_is : (column value n tail : ℕ) → StandsAt l k.facts column value n tail → 0 < w.cells tail 0
  stored_is column value n tail h = let f = stands_is column value n tail h in subst (λ (t : ℕ). 0 < w.cells t 0) f.1 (a.sound.postings.filled column (value_position l value n) (subst (λ (t : ℕ). 0 < t) (sym f.1) f.0)).stored

  -- what has been passed is passed
  pub passes : (column r value n : ℕ) → column < l.columns → Passed l k.facts column r value n → Passes (w.postings column) (λ t. ¬ IsAlike l w.cells column r value t) (postings_size l) (value_first l value) n
  passes column r value n low p i h = let t = p i h in let f = stands_is column value i t.0 t.1 in
      (subst (λ (x : ℕ). 0 < x) (sym f.1) f.0, subst (λ (x : ℕ). ¬ IsAlike l w.cells column r value x) (sym f.1) (other_is column r value t.0 low t.2))

  pub shown_is : (column r value : ℕ) → column < l.columns → IsShown l k.facts column r value → IsPosted l w.cells (w.postings column) column r value
  shown_is column r value low h = let f = stands_is column value h.offset h.tail h.stands in let at : ℕ = value_position l value h.offset in record {
    position = at;
    reached = record { offset = h.offset; short = h.short; is = refl; filled = λ i g. let t = h.taken i g in let e = stands_is column value i t.0 t.1 in subst (λ (x : ℕ). 0 < x) (sym e.1) e.0 };
    some = subst (λ (x : ℕ). 0 < x) (sym f.1) f.0;
    alike = subst (λ (x : ℕ). IsAlike l w.cells column r value x) (sym f.1) (alike_is column r value h.tail low h.alike);
  }

  -- every indexed column that the tail in hand holds with a number is posted
  pub all_posted : AllPosted l k → ArePosted l w.cells w.postings (k.hold.latch - 1) k.hold.tail
  all_posted all column low indexed number = let h = all column low indexed in ⊎_elim
      (λ (none : has_number h.encoding column ≡ false). absurd (true≢false (sym number ∙ (ap (λ (e : ℕ). has_number e column) (encoding_is k.hold.tail h.encoding h.values h.words) ∙ none))))
      (λ (is : IsShown l k.facts column (k.hold.latch - 1) (slice_index h.values column)).
      subst (λ (x : ℕ). IsPosted l w.cells (w.postings column) column (k.hold.latch - 1) x) (sym (value_is k.hold.tail h.encoding column h.values h.words low)) (shown_is column (k.hold.latch - 1) (slice_index h.values column) low is))
      h.posted

  -- the tail in hand, which is whole
  module _ (own : s < l.sessions) (whole : k.hold.is_whole ≡ true) where
    same : k ≡ known s
    same = knows_own v words known merger a s hosted (λ e. omega arith)

    pub held_some : 0 < k.hold.tail
    held_some = subst (λ (u : Known). u.hold.is_whole ≡ true → 0 < u.hold.tail) (sym same) (a.sound.versions.hands s own).some whole

    pub held_few : k.hold.tail ≤ tail_count l
    held_few = subst (λ (u : Known). u.hold.tail ≤ tail_count l) (sym same) (a.sound.versions.hands s own).few

    pub held_latch : 0 < k.hold.latch
    held_latch = subst (λ (u : Known). 0 < u.hold.tail → 0 < u.hold.latch) (sym same) (a.sound.versions.hands s own).holds held_some

    -- it is of the latched record
    pub held_here : (encoding : ℕ) (values : List ℕ) → HasWords k.facts k.hold.tail encoding values → record_of l.tails k.hold.tail encoding ≡ k.hold.latch - 1
    held_here encoding values h = ap (record_of l.tails k.hold.tail) (sym (encoding_is k.hold.tail encoding values h))
        ∙ subst (λ (u : Known). u.hold.is_whole ≡ true → record_of l.tails u.hold.tail (w.cells u.hold.tail 1) ≡ u.hold.latch - 1) (sym same) (a.sound.versions.hands s own).here whole

-- a run is never passed to its end
pub endless : (l : Limits) (v : View) (s column value n : ℕ) → v.limits ≡ l → hosts v s ≡ true → Possible v → Taken l (knows v s).facts column value n → postings_size l ≤ n → ⊥
endless l v s column value n same hosted p taken all = let w : Words = shown v.limits p.words in
    let taken' : Taken v.limits (knows v s).facts column value n = subst (λ (z : Limits). Taken z (knows v s).facts column value n) (sym same) taken in let e : postings_size v.limits ≡ postings_size l = ap postings_size same in
    let room = postings_have_room (state_over v.limits p.words p.known p.merger) p.allowed.sound column value in
    let t = taken' room.0 (let f = room.1 in omega arith) in let f = stands_is v p.words p.known p.merger p.allowed s hosted column value room.0 t.0 t.1 in
    let some = f.0 in let at = f.1 in let none = room.2 in omega arith
