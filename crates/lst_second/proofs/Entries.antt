-- The visits of an entry: which positions its run has passed, and what a visit leaves.
use Rattle.std.proofs.Common.{◌≡◌, ◌≢◌, ℕ, ◌+◌, ◌<◌, ◌≤◌, List, true, refl, sym, subst, ap, ◌∙◌, arith, inl, false, slice_index}
use Rattle.lst_layout.specs.declared.limits.Limits.{Limits}
use mathlib.Core.Logic.{dite}
use native.Mathlib.Decide.{dec_lt}
use Rattle.std.specs.Int.{bit_at}
use Rattle.std.proofs.lemmas.Nat.Bits.{bit_at-zero}
use Rattle.lst_layout.specs.Areas.{IsIndexed}
use Rattle.lst_layout.specs.declared.place.Place.TheVariants.{CellWord, PostingWord}
use Rattle.lst_core_state.specs.declared.known.Known.{Known}
use Rattle.lst_core_state.specs.declared.events.Event.TheVariants.{Post}
use Rattle.lst_core_state.specs.Cells.{has_number, record_of, tail_count}
use Rattle.lst_core_state.specs.Postings.{postings_size, value_position}
use Rattle.lst_rule.specs.declared.view.View.{View}
use Rattle.lst_rule.specs.Rule.{knows, hosts}
use Rattle.lst_rule.specs.Learned.{Met, CanStand, Possible}
use Rattle.lst_rule.specs.declared.store.Store.{Store}
use Rattle.lst_rule.specs.Seats.{Sitting}
use Rattle.lst_rule.specs.Stores.{IsSeatOf, Looked}
use Rattle.lst_rule.specs.Shown.{HasWords, KnownOther, StandsAt, Passed, IsShown}
use Rattle.lst_rule.specs.Posting.{HasTail, ColumnIsPosted, AllPosted, Posts}
use Rattle.lst_second.specs.Visits.{IsEntry, MayPost, Visits, Columns}
use Rattle.lst_second.specs.declared.visits.Entry.{Entry}
use Rattle.lst_rule.proofs.PostingViews.{posts_on, posts_facts, posts_hold, posts_host, posts_own}
use Rattle.lst_second.proofs.Passing.{words_more, stands_more, passed_more, passed_next, passed_none, shown_at, entry_on, held_words, tail_on, column_on, entry_posted}
use Rattle.lst_rule.proofs.PostingFacts.{held_some, held_few, held_latch}
use Rattle.lst_second.proofs.Looks as looks
use Rattle.lst_second.proofs.Exchanges as exchanges

-- the visits go on after steps that pass no position
pub visits_on : (store : Store) (seat on : Sitting) (s : ℕ) (e : Entry) (n : ℕ) → Visits store seat s e n → Posts seat.view on.view s → IsSeatOf store on → Visits store on s e n
visits_on store seat on s e n h a seat_of = record {
  seat_of = seat_of;
  host = posts_host seat.view on.view s a h.host;
  own = posts_own seat.view on.view s a h.own;
  entry = entry_on store.layout.limits seat.view on.view s e a h.entry;
  passed = passed_more store.layout.limits (knows seat.view s).facts (knows on.view s).facts (posts_facts seat.view on.view s a) e.column e.rec e.value n h.passed;
}

-- ---- a look at a position, and an exchange there; l are the store's limits

module _ (l : Limits) (v w : View) (s : ℕ) (e : Entry) (q x n : ℕ) (same : v.limits ≡ l) (hosted : hosts v s ≡ true) (own : s < v.limits.sessions) (is : IsEntry l (knows v s) e) (passed : Passed l (knows v s).facts e.column e.rec e.value n) (short : n < postings_size l) (at : q ≡ value_position l e.value n) where
  -- what is said of the view's own limits is so of the store's
  by : (P : Limits → Type 0) → (IsEntry v.limits (knows v s) e → Passed v.limits (knows v s).facts e.column e.rec e.value n → n < postings_size v.limits → q ≡ value_position v.limits e.value n → P v.limits) → P l
  by P f = subst (λ (z : Limits). IsEntry z (knows v s) e → Passed z (knows v s).facts e.column e.rec e.value n → n < postings_size z → q ≡ value_position z e.value n → P z) same f is passed short at

  module _ (h : Looked v w s (PostingWord e.column q) x) where
    pub look_free : x ≡ 0 → MayPost (knows w s) e.column
    look_free free = by (λ z. MayPost (knows w s) e.column) (λ is' passed' short' at'. looks.posting_free v w s e q x h hosted is' own n short' at' passed' free)

    pub look_stands : x ≢ 0 → StandsAt l (knows w s).facts e.column e.value n x
    look_stands some = by (λ z. StandsAt z (knows w s).facts e.column e.value n x) (λ is' passed' short' at'. looks.posting_stands v w s e q x h hosted n at' some)

    pub look_few : x ≢ 0 → x ≤ tail_count l
    look_few some = by (λ z. x ≤ tail_count z) (λ is' passed' short' at'. looks.posting_few v w s e q x h hosted some)

  pub may_stand : MayPost (knows v s) e.column → CanStand v (Post s e.column q)
  may_stand may = by (λ z. CanStand v (Post s e.column q)) (λ is' passed' short' at'. exchanges.can_post v s n e q hosted own is' may short' at' passed')

  module _ (y : ℕ) (h : Met v w (Post s e.column q) (PostingWord e.column q) y x) where
    pub post_shown : x ≡ 0 → IsShown l (knows w s).facts e.column e.rec e.value
    post_shown won = by (λ z. IsShown z (knows w s).facts e.column e.rec e.value) (λ is' passed' short' at'. exchanges.won_shown v w s e q x y h hosted won n is' own short' at' passed')

    pub post_stands : x ≢ 0 → StandsAt l (knows w s).facts e.column e.value n x
    post_stands lost = by (λ z. StandsAt z (knows w s).facts e.column e.value n x) (λ is' passed' short' at'. exchanges.lost_stands v w s e q x y h hosted lost n at')

    pub post_few : x ≢ 0 → x ≤ tail_count l
    post_few lost = by (λ z. x ≤ tail_count z) (λ is' passed' short' at'. exchanges.lost_few v w s e q x y h hosted lost)

-- ---- the comparison of a tail that stands at the position
-- a position that another tail has is passed
visits_next : (store : Store) (seat on : Sitting) (s : ℕ) (e : Entry) (n tail : ℕ) → Visits store seat s e n → Posts seat.view on.view s → IsSeatOf store on → StandsAt store.layout.limits (knows seat.view s).facts e.column e.value n tail → KnownOther store.layout.limits (knows on.view s).facts e.column e.rec e.value tail → Visits store on s e (n + 1)
visits_next store seat on s e n tail h a seat_of stands other = let l : Limits = store.layout.limits in let w = visits_on store seat on s e n h a seat_of in record {
  seat_of = w.seat_of;
  host = w.host;
  own = w.own;
  entry = w.entry;
  passed = passed_next l (knows on.view s).facts e.column e.rec e.value n tail w.passed (stands_more l (knows seat.view s).facts (knows on.view s).facts (posts_facts seat.view on.view s a) e.column e.value n tail stands) other;
}

module _ (store : Store) (seat mid : Sitting) (s : ℕ) (e : Entry) (n tail x : ℕ) (h : Visits store seat s e n) (stands : StandsAt store.layout.limits (knows seat.view s).facts e.column e.value n tail) (a : Looked seat.view mid.view s (CellWord tail (3 + e.column)) x) where
  abbrev l : Limits
  l = store.layout.limits

  abbrev v : View
  v = seat.view

  low : e.column < v.limits.columns
  low = subst (λ (z : Limits). e.column < z.columns) (sym h.seat_of.limits) h.entry.low

  stands_here : StandsAt v.limits (knows v s).facts e.column e.value n tail
  stands_here = subst (λ (z : Limits). StandsAt z (knows v s).facts e.column e.value n tail) (sym h.seat_of.limits) stands

  pub value_posts : Posts v mid.view s
  value_posts = looks.cell_posts v mid.view s tail (3 + e.column) x a (omega arith) h.host

  -- it has another value
  pub value_next : x ≢ e.value → IsSeatOf store mid → Visits store mid s e (n + 1)
  value_next ne seat_of = visits_next store seat mid s e n tail h value_posts seat_of stands
      (subst (λ (z : Limits). KnownOther z (knows mid.view s).facts e.column e.rec e.value tail) h.seat_of.limits (looks.value_other v mid.view s tail (3 + e.column) x a (omega arith) h.host e.column e.value n low refl stands_here e.rec ne))

  -- or the value, and its encoding word tells its record r
  module _ (same : x ≡ e.value) (on : Sitting) (y r : ℕ) (b : Looked mid.view on.view s (CellWord tail 1) y) (told : r ≡ record_of l.tails tail y) where
    encoding_posts : Posts mid.view on.view s
    encoding_posts = looks.cell_posts mid.view on.view s tail 1 y b (omega arith) (posts_host v mid.view s value_posts h.host)

    pub both_posts : Posts v on.view s
    both_posts = posts_on v mid.view on.view s value_posts encoding_posts

    abbrev encoding : ℕ
    encoding = looks.stored_encoding v mid.view s tail (3 + e.column) x a (omega arith) h.host

    abbrev values : List ℕ
    values = looks.stored_values v mid.view s tail (3 + e.column) x a (omega arith) h.host

    words_then : HasWords (knows mid.view s).facts tail encoding values
    words_then = looks.value_words v mid.view s tail (3 + e.column) x a (omega arith) h.host e.column e.value n low refl stands_here

    words_now : HasWords (knows on.view s).facts tail encoding values
    words_now = words_more l (knows mid.view s).facts (knows on.view s).facts (posts_facts mid.view on.view s encoding_posts) tail encoding values words_then

    value_there : slice_index values e.column ≡ e.value
    value_there = looks.value_same v mid.view s tail (3 + e.column) x a (omega arith) h.host e.column e.value n low refl stands_here same

    record_there : record_of l.tails tail encoding ≡ r
    record_there = ap (record_of l.tails tail) (sym (looks.encoding_found mid.view on.view s tail 1 y b (omega arith) (posts_host v mid.view s value_posts h.host) encoding values words_then refl)) ∙ sym told

    pub both_shown : n < postings_size l → r ≡ e.rec → IsShown l (knows on.view s).facts e.column e.rec e.value
    both_shown short is = let more = posts_facts v on.view s both_posts in
        shown_at l (knows on.view s).facts e.column e.rec e.value n tail short (passed_more l (knows v s).facts (knows on.view s).facts more e.column e.rec e.value n h.passed) (stands_more l (knows v s).facts (knows on.view s).facts more e.column e.value n tail stands)
        record { encoding = encoding; values = values; words = words_now; rec = record_there ∙ is; same = value_there }

    pub both_next : r ≢ e.rec → IsSeatOf store on → Visits store on s e (n + 1)
    both_next ne seat_of = visits_next store seat on s e n tail h both_posts seat_of stands record { encoding = encoding; values = values; words = words_now; other = inl (λ f. ne (sym record_there ∙ f)) }

-- ---- what the tail in hand holds

-- it is one of the store's tails, of the latched record
pub hand_is : (l : Limits) (v : View) (s : ℕ) → v.limits ≡ l → hosts v s ≡ true → s < v.limits.sessions → HasTail (knows v s) → Possible v → (0 < (knows v s).hold.tail) × ((knows v s).hold.tail ≤ tail_count l) × (0 < (knows v s).hold.latch)
hand_is l v s same hosted own h p = (
  held_some v p.words p.known p.merger p.allowed s hosted own h.whole,
  subst (λ (z : Limits). (knows v s).hold.tail ≤ tail_count z) same (held_few v p.words p.known p.merger p.allowed s hosted own h.whole),
  held_latch v p.words p.known p.merger p.allowed s hosted own h.whole,
)

module _ (v w : View) (s tail p x : ℕ) (a : Looked v w s (CellWord tail p) x) (later : 0 < p) (hosted : hosts v s ≡ true) (h : HasTail (knows v s)) (is : (knows v s).hold.tail ≡ tail) where
  hand_words : HasWords (knows v s).facts tail h.encoding h.values
  hand_words = subst (λ (t : ℕ). HasWords (knows v s).facts t h.encoding h.values) is h.words

  hand_encoding : p ≡ 1 → x ≡ h.encoding
  hand_encoding e = looks.encoding_found v w s tail p x a later hosted h.encoding h.values hand_words e

  hand_posts : Posts v w s
  hand_posts = looks.cell_posts v w s tail p x a later hosted

  -- it doesn't hold the column with a number
  pub hand_none : (l : Limits) (column : ℕ) → p ≡ 1 → has_number x column ≡ false → ColumnIsPosted l (knows w s) column
  hand_none l column e none = record {
    encoding = h.encoding;
    values = h.values;
    words = held_words l (knows v s) (knows w s) (posts_hold v w s hand_posts) (posts_facts v w s hand_posts) h.encoding h.values h.words;
    posted = inl (subst (λ (y : ℕ). has_number y column ≡ false) (hand_encoding e) none);
  }

-- or it does: then that is an entry
module _ (store : Store) (seat mid on : Sitting) (s column tail r x y : ℕ) (seat_of : IsSeatOf store seat) (hosted : hosts seat.view s ≡ true) (own : s < seat.view.limits.sessions) (h : HasTail (knows seat.view s)) (low : column < seat.view.limits.columns) (indexed : IsIndexed seat.view.limits column)
    (is : (knows seat.view s).hold.tail ≡ tail) (latch : (knows seat.view s).hold.latch ≡ r + 1) (a : Looked seat.view mid.view s (CellWord tail 1) x) (some : has_number x column ≡ true) (b : Looked mid.view on.view s (CellWord tail (3 + column)) y) where
  first : Posts seat.view mid.view s
  first = looks.cell_posts seat.view mid.view s tail 1 x a (omega arith) hosted

  hosted_then : hosts mid.view s ≡ true
  hosted_then = posts_host seat.view mid.view s first hosted

  second : Posts mid.view on.view s
  second = looks.cell_posts mid.view on.view s tail (3 + column) y b (omega arith) hosted_then

  pub hand_loads : Posts seat.view on.view s
  hand_loads = posts_on seat.view mid.view on.view s first second

  here : IsEntry store.layout.limits (knows seat.view s) record { column = column; rec = r; value = y }
  here = record {
    whole = h.whole;
    latch = latch;
    low = subst (λ (z : Limits). column < z.columns) seat_of.limits low;
    indexed = subst (λ (z : Limits). IsIndexed z column) seat_of.limits indexed;
    encoding = h.encoding;
    values = h.values;
    words = h.words;
    number = subst (λ (z : ℕ). has_number z column ≡ true) (hand_encoding seat.view mid.view s tail 1 x a (omega arith) hosted h is refl) some;
    same = sym (looks.value_found mid.view on.view s tail (3 + column) y b (omega arith) hosted_then h.encoding column h.values
        (words_more store.layout.limits (knows seat.view s).facts (knows mid.view s).facts (posts_facts seat.view mid.view s first) tail h.encoding h.values (hand_words seat.view mid.view s tail 1 x a (omega arith) hosted h is))
        (subst (λ (z : Limits). column < z.columns) (sym first.view.limits) low) refl);
  }

  pub hand_visits : IsSeatOf store on → Visits store on s record { column = column; rec = r; value = y } 0
  hand_visits seat_on = record {
    seat_of = seat_on;
    host = posts_host seat.view on.view s hand_loads hosted;
    own = posts_own seat.view on.view s hand_loads own;
    entry = entry_on store.layout.limits seat.view on.view s record { column = column; rec = r; value = y } hand_loads here;
    passed = passed_none store.layout.limits (knows on.view s).facts column r y;
  }

-- ---- the end of the visits

-- the column is posted once a visit shows the entry
pub visits_posted : (store : Store) (seat on : Sitting) (s : ℕ) (e : Entry) (n : ℕ) → Visits store seat s e n → Posts seat.view on.view s → IsSeatOf store on → IsShown store.layout.limits (knows on.view s).facts e.column e.rec e.value → ColumnIsPosted on.view.limits (knows on.view s) e.column
visits_posted store seat on s e n h a seat_of shown = let l : Limits = store.layout.limits in
    subst (λ (z : Limits). ColumnIsPosted z (knows on.view s) e.column) (sym seat_of.limits) (entry_posted l (knows on.view s) e (visits_on store seat on s e n h a seat_of).entry shown)

-- and the columns go on
pub columns_on : (store : Store) (seat on : Sitting) (s column : ℕ) → Columns store seat s column → Posts seat.view on.view s → IsSeatOf store on → (IsIndexed store.layout.limits column → ColumnIsPosted on.view.limits (knows on.view s) column) → Columns store on s (column + 1)
columns_on store seat on s column h a seat_of posted = let l : Limits = store.layout.limits in record {
  seat_of = seat_of;
  host = posts_host seat.view on.view s a h.host;
  own = posts_own seat.view on.view s a h.own;
  tail = tail_on seat.view on.view s a h.tail;
  below = λ c under low indexed. dite (dec_lt c column)
      (λ f. column_on l seat.view on.view s c a (h.below c f low indexed))
      (λ f. let e : column ≡ c = grind (arith, f, under) in subst (λ (z : ℕ). IsIndexed l z → ColumnIsPosted l (knows on.view s) z) e (λ g. subst (λ (z : Limits). ColumnIsPosted z (knows on.view s) column) seat_of.limits (posted g)) indexed);
}

pub columns_none : (store : Store) (seat : Sitting) (s : ℕ) → IsSeatOf store seat → hosts seat.view s ≡ true → s < seat.view.limits.sessions → HasTail (knows seat.view s) → Columns store seat s 0
columns_none store seat s seat_of hosted own h = record { seat_of = seat_of; host = hosted; own = own; tail = h; below = λ c under low indexed. absurd (omega arith) }
