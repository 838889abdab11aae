-- The walk along a value's run that gathers candidates.
use Rattle.std.proofs.Common.{◌≡◌, ◌≢◌, ◌⊎◌, ⊎_elim, inl, inr, ℕ, ◌+◌, ◌<◌, ◌≤◌, List, [], ◌∷◌, ◌++◌, All, Contains, refl, sym, subst, ap, ◌∙◌, arith, slice_index}
use Rattle.std.proofs.lemmas.List.Elements.{All-nil, All-append, All-weaker, All-contains, All-contains_itself, Contains-append_left, Contains-append_right}
use mathlib.Core.Logic.{dite}
use native.Mathlib.Decide.{dec_lt}
use Rattle.lst_layout.specs.declared.limits.Limits.{Limits}
use Rattle.lst_layout.specs.declared.place.Place.TheVariants.{CellWord, PostingWord}
use Rattle.lst_layout.specs.Areas.{IsIndexed}
use Rattle.lst_layout.specs.Words.{shown}
use Rattle.lst_core_state.specs.declared.facts.Fact.{Fact}
use Rattle.lst_core_state.specs.Cells.{record_count, record_of, tail_count}
use Rattle.lst_core_state.specs.Postings.{postings_size, value_position}
use Rattle.lst_rule.specs.declared.records.RecordId.{RecordId}
use Rattle.lst_rule.specs.declared.store.Store.{Store}
use Rattle.lst_rule.specs.declared.view.View.{View}
use Rattle.lst_rule.specs.Rule.{knows}
use Rattle.lst_rule.specs.Learned.{Possible}
use Rattle.lst_rule.specs.Seats.{Sitting}
use Rattle.lst_rule.specs.Stores.{IsSeatOf, Looked}
use Rattle.lst_rule.proofs.Knowing.{whole_words}
use Rattle.lst_rule.specs.Shown.{HasWords, StandsAt, Taken}
use Rattle.lst_second.specs.Candidates.{Holds, KnownToHold, AreHolders, Probes}
use Rattle.lst_second.specs.Gathers.{IsCounted, AreCounted, Seeks, Gathers, EndsAt}
use Rattle.lst_second.specs.declared.gathering.Sought.{Sought}
use Rattle.lst_second.specs.declared.visits.Entry.{Entry}
use Rattle.lst_second.proofs.Passing.{words_more, stands_more}
use Rattle.lst_second.proofs.Probing.{probes_on, probes_facts, probes_host, probes_own}
use Rattle.lst_second.proofs.Completing.{holds_is, holds_low, put_counted}
use Rattle.lst_second.proofs.Looks as looks

-- ---- with more facts, and more records

module _ (l : Limits) (fs gs : List Fact) (more : (f : Fact) → Contains fs f → Contains gs f) where
  pub held_more : (column value rec : ℕ) → KnownToHold l fs column value rec → KnownToHold l gs column value rec
  held_more column value rec h = record { tail = h.tail; encoding = h.encoding; values = h.values; words = words_more l fs gs more h.tail h.encoding h.values h.words; here = h.here; number = h.number; same = h.same }

  counted_more : (column value : ℕ) (records all : List RecordId) (tail : ℕ) → ((rec : RecordId) → Contains records rec → Contains all rec) → IsCounted l fs column value records tail → IsCounted l gs column value all tail
  counted_more column value records all tail among h = record {
    encoding = h.encoding;
    values = h.values;
    words = words_more l fs gs more tail h.encoding h.values h.words;
    counted = ⊎_elim (λ (other : slice_index h.values column ≢ value). inl other)
        (λ (is : Contains records record { number = record_of l.tails tail h.encoding }). inr (among record { number = record_of l.tails tail h.encoding } is)) h.counted;
  }

pub taken_counted : (l : Limits) (fs : List Fact) (column value : ℕ) (records : List RecordId) (n : ℕ) → AreCounted l fs column value records n → Taken l fs column value n
taken_counted l fs column value records n p i h = let t = p i h in (t.0, t.1)

pub seeks_on : (store : Store) (seat on : Sitting) (s : ℕ) (e : Sought) → Seeks store seat s e → Probes seat.view on.view s → IsSeatOf store on → Seeks store on s e
seeks_on store seat on s e h a seat_of = record { seat_of = seat_of; host = probes_host seat.view on.view s a h.host; own = probes_own seat.view on.view s a h.own; low = h.low; indexed = h.indexed }

pub gathers_none : (store : Store) (seat : Sitting) (s : ℕ) (e : Sought) → Seeks store seat s e → Gathers store seat s e [] 0
gathers_none store seat s e h = record {
  seeks = h;
  passed = λ i low. absurd (omega arith);
  known = All-nil (λ (rec : RecordId). KnownToHold store.layout.limits (knows seat.view s).facts e.column e.value rec.number);
}

-- looks that pass no position
pub gathers_on : (store : Store) (seat on : Sitting) (s : ℕ) (e : Sought) (records : List RecordId) (n : ℕ) → Gathers store seat s e records n → Probes seat.view on.view s → IsSeatOf store on → Gathers store on s e records n
gathers_on store seat on s e records n h a seat_of = let l : Limits = store.layout.limits in let fs : List Fact = (knows seat.view s).facts in let gs : List Fact = (knows on.view s).facts in let more = probes_facts seat.view on.view s a in record {
  seeks = seeks_on store seat on s e h.seeks a seat_of;
  passed = λ i low. let t = h.passed i low in (t.0, stands_more l fs gs more e.column e.value i t.0 t.1, counted_more l fs gs more e.column e.value records records t.0 (λ rec is. is) t.2);
  known = All-weaker (λ (rec : RecordId). KnownToHold l fs e.column e.value rec.number) (λ (rec : RecordId). KnownToHold l gs e.column e.value rec.number) (λ rec is. held_more l fs gs more e.column e.value rec.number is) records h.known;
}

-- one position more, whose tail adds these records
pub gathers_next : (store : Store) (seat : Sitting) (s : ℕ) (e : Sought) (records added all : List RecordId) (n tail : ℕ) → Gathers store seat s e records n → StandsAt store.layout.limits (knows seat.view s).facts e.column e.value n tail
    → IsCounted store.layout.limits (knows seat.view s).facts e.column e.value added tail → All (λ (rec : RecordId). KnownToHold store.layout.limits (knows seat.view s).facts e.column e.value rec.number) added → all ≡ records ++ added → Gathers store seat s e all (n + 1)
gathers_next store seat s e records added all n tail h stands counted known is = let l : Limits = store.layout.limits in let fs : List Fact = (knows seat.view s).facts in subst (λ (rs : List RecordId). Gathers store seat s e rs (n + 1)) (sym is) record {
  seeks = h.seeks;
  passed = λ i under. dite (dec_lt i n)
      (λ low. let t = h.passed i low in (t.0, t.1, counted_more l fs fs (λ f x. x) e.column e.value records (records ++ added) t.0 (Contains-append_left records added) t.2))
      (λ high. let same : n ≡ i = grind (arith, high, under) in subst (λ (j : ℕ). (t : ℕ) × StandsAt l fs e.column e.value j t × IsCounted l fs e.column e.value (records ++ added) t) same
      (tail, stands, counted_more l fs fs (λ f x. x) e.column e.value added (records ++ added) tail (Contains-append_right records added) counted));
  known = All-append (λ (rec : RecordId). KnownToHold l fs e.column e.value rec.number) records added h.known known;
}

-- ---- a look at a position

module _ (store : Store) (seat on : Sitting) (s : ℕ) (e : Sought) (q x n : ℕ) (h : Seeks store seat s e) (at : q ≡ value_position store.layout.limits e.value n) (a : Looked seat.view on.view s (PostingWord e.column q) x) where
  abbrev entry : Entry
  entry = record { column = e.column; rec = 0; value = e.value }

  abbrev v : View
  v = seat.view

  here : q ≡ value_position v.limits e.value n
  here = subst (λ (z : Limits). q ≡ value_position z e.value n) (sym h.seat_of.limits) at

  pub look_probes : Probes v on.view s
  look_probes = looks.posting_probes v on.view s entry q x a h.host

  pub look_ends : x ≡ 0 → EndsAt on.view e.column e.value n
  look_ends free = looks.posting_ends v on.view s entry q x a h.host n here free

  pub look_stands : x ≢ 0 → StandsAt store.layout.limits (knows on.view s).facts e.column e.value n x
  look_stands some = subst (λ (z : Limits). StandsAt z (knows on.view s).facts e.column e.value n x) h.seat_of.limits (looks.posting_stands v on.view s entry q x a h.host n here some)

  pub look_few : x ≢ 0 → x ≤ tail_count store.layout.limits
  look_few some = subst (λ (z : Limits). x ≤ tail_count z) h.seat_of.limits (looks.posting_few v on.view s entry q x a h.host some)

-- ---- the words of a tail that stands there

module _ (store : Store) (seat mid : Sitting) (s : ℕ) (e : Sought) (n tail x : ℕ) (h : Seeks store seat s e) (stands : StandsAt store.layout.limits (knows seat.view s).facts e.column e.value n tail) (a : Looked seat.view mid.view s (CellWord tail (3 + e.column)) x) where
  abbrev u : View
  u = seat.view

  abbrev l : Limits
  l = store.layout.limits

  low : e.column < u.limits.columns
  low = subst (λ (z : Limits). e.column < z.columns) (sym h.seat_of.limits) h.low

  stands_here : StandsAt u.limits (knows u s).facts e.column e.value n tail
  stands_here = subst (λ (z : Limits). StandsAt z (knows u s).facts e.column e.value n tail) (sym h.seat_of.limits) stands

  pub value_probes : Probes u mid.view s
  value_probes = looks.cell_probes u mid.view s tail (3 + e.column) x a (omega arith) h.host

  abbrev encoding : ℕ
  encoding = looks.stored_encoding u mid.view s tail (3 + e.column) x a (omega arith) h.host

  abbrev values : List ℕ
  values = looks.stored_values u mid.view s tail (3 + e.column) x a (omega arith) h.host

  words_then : HasWords (knows mid.view s).facts tail encoding values
  words_then = looks.value_words u mid.view s tail (3 + e.column) x a (omega arith) h.host e.column e.value n low refl stands_here

  word_is : slice_index values e.column ≡ x
  word_is = looks.now_value u mid.view s tail (3 + e.column) x a (omega arith) h.host e.column low refl

  -- another value
  pub other_counted : x ≢ e.value → IsCounted l (knows mid.view s).facts e.column e.value [] tail
  other_counted ne = record { encoding = encoding; values = values; words = words_then; counted = inl (λ f. ne (sym word_is ∙ f)) }

  -- or the value, and the encoding word tells its record
  module _ (same : x ≡ e.value) (on : Sitting) (y r : ℕ) (b : Looked mid.view on.view s (CellWord tail 1) y) (told : r ≡ record_of l.tails tail y) where
    encoding_probes : Probes mid.view on.view s
    encoding_probes = looks.cell_probes mid.view on.view s tail 1 y b (omega arith) (probes_host u mid.view s value_probes h.host)

    pub both_probes : Probes u on.view s
    both_probes = probes_on u mid.view on.view s value_probes encoding_probes

    words_now : HasWords (knows on.view s).facts tail encoding values
    words_now = words_more l (knows mid.view s).facts (knows on.view s).facts (probes_facts mid.view on.view s encoding_probes) tail encoding values words_then

    record_there : record_of l.tails tail encoding ≡ r
    record_there = ap (record_of l.tails tail) (sym (looks.encoding_found mid.view on.view s tail 1 y b (omega arith) (probes_host u mid.view s value_probes h.host) encoding values words_then refl)) ∙ sym told

    pub both_hold : KnownToHold l (knows on.view s).facts e.column e.value r
    both_hold = record {
      tail = tail;
      encoding = encoding;
      values = values;
      words = words_now;
      here = record_there;
      number = looks.value_number u mid.view s tail (3 + e.column) x a (omega arith) h.host e.column e.value n low refl stands_here;
      same = word_is ∙ same;
    }

    pub both_counted : IsCounted l (knows on.view s).facts e.column e.value (record { number = r } ∷ []) tail
    both_counted = record {
      encoding = encoding;
      values = values;
      words = words_now;
      counted = inr (subst (λ (z : ℕ). Contains {X = RecordId} (record { number = r } ∷ []) record { number = z }) (sym record_there) (0, omega arith, refl));
    }

-- ---- the end of the run

module _ (store : Store) (seat : Sitting) (s : ℕ) (e : Sought) (records : List RecordId) (n : ℕ) (g : Gathers store seat s e records n) where
  abbrev z : View
  z = seat.view

  low_there : e.column < z.limits.columns
  low_there = subst (λ (m : Limits). e.column < m.columns) (sym g.seeks.seat_of.limits) g.seeks.low

  known_there : All (λ (rec : RecordId). KnownToHold z.limits (knows z s).facts e.column e.value rec.number) records
  known_there = subst (λ (m : Limits). All (λ (rec : RecordId). KnownToHold m (knows z s).facts e.column e.value rec.number) records) (sym g.seeks.seat_of.limits) g.known

  pub gathered_low : Possible z → All (λ (rec : RecordId). rec.number < record_count store.layout.limits) records
  gathered_low p = subst (λ (m : Limits). All (λ (rec : RecordId). rec.number < record_count m) records) g.seeks.seat_of.limits
      (All-weaker (λ (rec : RecordId). KnownToHold z.limits (knows z s).facts e.column e.value rec.number) (λ (rec : RecordId). rec.number < record_count z.limits)
      (λ rec is. holds_low z p.words p.known p.merger p.allowed s g.seeks.host e.column e.value rec.number low_there is) records known_there)

  pub gathered : n < postings_size store.layout.limits → EndsAt z e.column e.value n → AreHolders z s e.column e.value records
  gathered short ends = let p = ends.met in record {
    complete = λ rec put. put_counted z p.words p.known p.merger p.allowed s g.seeks.host g.seeks.own e.column e.value rec put records n low_there
        (subst (λ (m : Limits). IsIndexed m e.column) (sym g.seeks.seat_of.limits) g.seeks.indexed) (subst (λ (m : Limits). n < postings_size m) (sym g.seeks.seat_of.limits) short) ends.empty
        (subst (λ (m : Limits). AreCounted m (knows z s).facts e.column e.value records n) (sym g.seeks.seat_of.limits) g.passed);
    known = known_there;
    shown = λ whole. let all = whole_words z p.words p.known p.merger p.allowed whole in
        All-weaker (λ (rec : RecordId). KnownToHold z.limits (knows z s).facts e.column e.value rec.number) (λ (rec : RecordId). Holds z.limits (shown z.limits z.words) e.column e.value rec.number)
        (λ rec is. holds_is z z.words p.known p.merger all s g.seeks.host e.column e.value rec.number low_there is) records known_there;
  }

-- ---- the same records in another order

pub all_of : (P : RecordId → Type 0) (xs ys : List RecordId) → ((rec : RecordId) → Contains ys rec → Contains xs rec) → All P xs → All P ys
all_of P xs ys from all = All-weaker (Contains ys) P (λ rec is. All-contains P xs rec all (from rec is)) ys (All-contains_itself ys)

pub holders_of : (v : View) (s column value : ℕ) (xs ys : List RecordId) → ((rec : RecordId) → Contains xs rec → Contains ys rec) → ((rec : RecordId) → Contains ys rec → Contains xs rec) → AreHolders v s column value xs → AreHolders v s column value ys
holders_of v s column value xs ys to from h = record {
  complete = λ rec put. to record { number = rec } (h.complete rec put);
  known = all_of (λ (rec : RecordId). KnownToHold v.limits (knows v s).facts column value rec.number) xs ys from h.known;
  shown = λ whole. all_of (λ (rec : RecordId). Holds v.limits (shown v.limits v.words) column value rec.number) xs ys from (h.shown whole);
}
