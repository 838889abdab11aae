-- What facts say of postings, with more facts.
use Rattle.std.proofs.Common.{◌≡◌, ℕ, ◌+◌, ◌-◌, ◌<◌, List, arith, subst, sym, inl, inr, ⊎_elim, slice_index, true, false}
use Rattle.std.specs.List.{Contains}
use mathlib.Core.Logic.{dite}
use native.Mathlib.Decide.{dec_lt}
use Rattle.lst_layout.specs.declared.limits.Limits.{Limits}
use Rattle.lst_core_state.specs.declared.known.Known.{Known}
use Rattle.lst_core_state.specs.declared.known.Hold.{Hold}
use Rattle.lst_core_state.specs.declared.facts.Fact.{Fact}
use Rattle.lst_core_state.specs.declared.facts.Fact.TheVariants.{CellIs, PostAt}
use Rattle.lst_core_state.specs.Cells.{has_number}
use Rattle.lst_core_state.specs.Postings.{postings_size, value_position}
use Rattle.lst_rule.specs.declared.view.View.{View}
use Rattle.lst_rule.specs.Rule.{knows}
use Rattle.lst_rule.specs.Shown.{HasWords, KnownAlike, KnownOther, StandsAt, Taken, Passed, IsShown}
use Rattle.lst_rule.specs.Posting.{HasTail, ColumnIsPosted, AllPosted, Posts}
use Rattle.lst_second.specs.Visits.{IsEntry}
use Rattle.lst_second.specs.declared.visits.Entry.{Entry}
use Rattle.lst_rule.proofs.PostingViews.{posts_facts, posts_hold}

module _ (l : Limits) (fs gs : List Fact) (more : (f : Fact) → Contains fs f → Contains gs f) where
  pub words_more : (tail encoding : ℕ) (values : List ℕ) → HasWords fs tail encoding values → HasWords gs tail encoding values
  words_more tail encoding values h = (h.0, h.1, more (CellIs tail h.0 encoding h.1 values) h.2)

  pub alike_more : (column r value tail : ℕ) → KnownAlike l fs column r value tail → KnownAlike l gs column r value tail
  alike_more column r value tail a = record { encoding = a.encoding; values = a.values; words = words_more tail a.encoding a.values a.words; rec = a.rec; same = a.same }

  pub other_more : (column r value tail : ℕ) → KnownOther l fs column r value tail → KnownOther l gs column r value tail
  other_more column r value tail a = record { encoding = a.encoding; values = a.values; words = words_more tail a.encoding a.values a.words; other = a.other }

  pub stands_more : (column value n tail : ℕ) → StandsAt l fs column value n tail → StandsAt l gs column value n tail
  stands_more column value n tail h = more (PostAt column (value_position l value n) tail) h

  pub taken_more : (column value n : ℕ) → Taken l fs column value n → Taken l gs column value n
  taken_more column value n p i h = let t = p i h in (t.0, stands_more column value i t.0 t.1)

  pub passed_more : (column r value n : ℕ) → Passed l fs column r value n → Passed l gs column r value n
  passed_more column r value n p i h = let t = p i h in (t.0, stands_more column value i t.0 t.1, other_more column r value t.0 t.2)

  pub shown_more : (column r value : ℕ) → IsShown l fs column r value → IsShown l gs column r value
  shown_more column r value a = record {
    offset = a.offset;
    short = a.short;
    taken = taken_more column value a.offset a.taken;
    tail = a.tail;
    stands = stands_more column value a.offset a.tail a.stands;
    alike = alike_more column r value a.tail a.alike;
  }

pub taken_of : (l : Limits) (fs : List Fact) (column r value n : ℕ) → Passed l fs column r value n → Taken l fs column value n
taken_of l fs column r value n p i h = let t = p i h in (t.0, t.1)

pub passed_none : (l : Limits) (fs : List Fact) (column r value : ℕ) → Passed l fs column r value 0
passed_none l fs column r value i h = absurd (omega arith)

-- one more position, which another tail has
pub passed_next : (l : Limits) (fs : List Fact) (column r value n tail : ℕ) → Passed l fs column r value n → StandsAt l fs column value n tail → KnownOther l fs column r value tail → Passed l fs column r value (n + 1)
passed_next l fs column r value n tail p stands other i h = dite (dec_lt i n) (λ g. p i g)
    (λ g. let e : n ≡ i = grind (arith, g, h) in subst (λ (j : ℕ). (t : ℕ) × StandsAt l fs column value j t × KnownOther l fs column r value t) e (tail, stands, other))

-- or one of the record with the value
pub shown_at : (l : Limits) (fs : List Fact) (column r value n tail : ℕ) → n < postings_size l → Passed l fs column r value n → StandsAt l fs column value n tail → KnownAlike l fs column r value tail → IsShown l fs column r value
shown_at l fs column r value n tail short p stands alike = record { offset = n; short = short; taken = taken_of l fs column r value n p; tail = tail; stands = stands; alike = alike }

-- ---- of the tail in hand

module _ (l : Limits) (k m : Known) (same : m.hold ≡ k.hold) (more : (f : Fact) → Contains k.facts f → Contains m.facts f) where
  pub held_words : (encoding : ℕ) (values : List ℕ) → HasWords k.facts k.hold.tail encoding values → HasWords m.facts m.hold.tail encoding values
  held_words encoding values h = subst (λ (z : Hold). HasWords m.facts z.tail encoding values) (sym same) (words_more l k.facts m.facts more k.hold.tail encoding values h)

  pub tail_more : HasTail k → HasTail m
  tail_more h = record { whole = subst (λ (z : Hold). z.is_whole ≡ true) (sym same) h.whole; encoding = h.encoding; values = h.values; words = held_words h.encoding h.values h.words }

  pub column_more : (column : ℕ) → ColumnIsPosted l k column → ColumnIsPosted l m column
  column_more column h = record {
    encoding = h.encoding;
    values = h.values;
    words = held_words h.encoding h.values h.words;
    posted = ⊎_elim (λ (e : has_number h.encoding column ≡ false). inl e)
        (λ (a : IsShown l k.facts column (k.hold.latch - 1) (slice_index h.values column)). inr (subst (λ (z : Hold). IsShown l m.facts column (z.latch - 1) (slice_index h.values column)) (sym same) (shown_more l k.facts m.facts more column (k.hold.latch - 1) (slice_index h.values column) a)))
        h.posted;
  }

  pub all_more : AllPosted l k → AllPosted l m
  all_more h column low indexed = column_more column (h column low indexed)

  pub entry_more : (e : Entry) → IsEntry l k e → IsEntry l m e
  entry_more e h = record {
    whole = subst (λ (z : Hold). z.is_whole ≡ true) (sym same) h.whole;
    latch = subst (λ (z : Hold). z.latch ≡ e.rec + 1) (sym same) h.latch;
    low = h.low;
    indexed = h.indexed;
    encoding = h.encoding;
    values = h.values;
    words = held_words h.encoding h.values h.words;
    number = h.number;
    same = h.same;
  }

-- what is posted stays so after the steps of a posting
pub column_on : (l : Limits) (v w : View) (s column : ℕ) → Posts v w s → ColumnIsPosted l (knows v s) column → ColumnIsPosted l (knows w s) column
column_on l v w s column a h = column_more l (knows v s) (knows w s) (posts_hold v w s a) (posts_facts v w s a) column h

pub tail_on : (v w : View) (s : ℕ) → Posts v w s → HasTail (knows v s) → HasTail (knows w s)
tail_on v w s a h = tail_more v.limits (knows v s) (knows w s) (posts_hold v w s a) (posts_facts v w s a) h

pub entry_on : (l : Limits) (v w : View) (s : ℕ) (e : Entry) → Posts v w s → IsEntry l (knows v s) e → IsEntry l (knows w s) e
entry_on l v w s e a h = entry_more l (knows v s) (knows w s) (posts_hold v w s a) (posts_facts v w s a) e h

-- an entry that is shown is posted
pub entry_posted : (l : Limits) (k : Known) (e : Entry) → IsEntry l k e → IsShown l k.facts e.column e.rec e.value → ColumnIsPosted l k e.column
entry_posted l k e h a = record {
  encoding = h.encoding;
  values = h.values;
  words = h.words;
  posted = inr (subst (λ (x : ℕ). IsShown l k.facts e.column (k.hold.latch - 1) x) (sym h.same) (subst (λ (r : ℕ). IsShown l k.facts e.column r e.value) (let g = h.latch in omega arith) a));
}
