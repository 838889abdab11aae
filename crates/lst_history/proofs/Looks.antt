-- What a session knows after looks, and that they find the words that the view knows.
use Rattle.std.proofs.Common.{◌≡◌, ℕ, ◌+◌, ◌<◌, List, [], ◌∷◌, ◌++◌, Bool, true, false, cond, eqb, nat_lt, ◌&&◌, length, refl, sym, subst, ap, ◌∙◌, arith, append_assoc, append-nil, length-append, slice_index_or}
use Rattle.std.specs.Prelude.{slice_set}
use Rattle.std.specs.List.{All}
use Rattle.std.proofs.lemmas.List.Elements.{All-nil, All-cons, All-append}
use Rattle.lst_layout.specs.declared.limits.Limits.{Limits}
use Rattle.lst_layout.specs.declared.layout.Layout.{Layout}
use Rattle.lst_layout.specs.declared.place.Place.{Place}
use Rattle.lst_layout.specs.declared.place.Place.TheVariants.{ClockWord, CommitWord, EpochWord, RecordCounter, LogWord, BeginWord, StateWord, KeyWord, IndexWord, HeadWord, TailCounter, CellWord, DirectoryWord, FrameWord, PinWord, PostingWord}
use Rattle.lst_layout.specs.Addresses as layout
use Rattle.lst_layout.specs.Addresses.{address, place_of}
use Rattle.lst_layout.specs.Areas.{words_of}
use Rattle.lst_layout.specs.Limits.{IsValid}
use Rattle.lst_layout.specs.Words.{Words, shown, word_at}
use Rattle.lst_layout.proofs.Places.{addresses_are_read}
use Rattle.lst_layout.proofs.Shown as shows
use Rattle.lst_model.specs.declared.commits.Commit.{Commit}
use Rattle.lst_model.specs.Histories.{Extends}
use Rattle.lst_core_state.specs.declared.known.Known.{Known}
use Rattle.lst_core_state.specs.declared.known.Stage.{Stage}
use Rattle.lst_core_state.specs.declared.known.Stage.TheVariants.{Away, Taken, Fresh, Logged, Stated, Done}
use Rattle.lst_core_state.specs.declared.facts.Fact.TheVariants.{TailsAtLeast}
use Rattle.lst_core_state.specs.declared.facts.Find.{Find}
use Rattle.lst_core_state.specs.declared.facts.Find.TheVariants.{FreshClock, CountedTails, FullTails, TailLoad, EmptyStart}
use Rattle.lst_core_state.specs.Facts.{index_facts, range_facts, stored_fact, commit_fact, early_find, unfinished}
use Rattle.lst_core_state.specs.State.{record_in, history_of, commits_of, mine, rank, counter_of}
use Rattle.lst_core_state.specs.Step.{look_at, refreshed, served, if_full, is_reading, gives_up, given_up}
use Rattle.lst_rule.specs.declared.view.View.{View}
use Rattle.lst_rule.specs.Rule.{knows, Allowed}
use Rattle.lst_rule.specs.Learned.{Possible}
use Rattle.lst_rule.proofs.Knowing.{is_seen, knows_own}
use Rattle.lst_rule.proofs.Learning.{learns_on, learns_same, kept_same, kept_on}
use Rattle.lst_rule.specs.declared.store.Store.{Store}
use Rattle.lst_rule.specs.Seats.{Sitting}
use Rattle.lst_rule.specs.Stores.{IsSeatOf, Looked}
use Rattle.lst_history.specs.Peeks.{IsNotFullTable, Peeked, Peeks, words_in, IsReader, Reads}

-- ---- several looks

pub peeked_same : (u : Known) → Peeked u u
peeked_same u = record {
  facts = [];
  finds = [];
  later = [];
  looks = u.looks;
  counters = u.counters;
  frames = u.pages.session;
  is = λ i. record u { seen = sym (append-nil u.seen) i; facts = sym (append-nil u.facts) i; finds = sym (append-nil u.finds) i; looks = u.looks };
  room = All-nil IsNotFullTable;
  pin = refl;
}

pub peeked_on : (u v w : Known) → Peeked u v → Peeked v w → Peeked u w
peeked_on u v w a b = record {
  facts = a.facts ++ b.facts;
  finds = a.finds ++ b.finds;
  later = a.later ++ b.later;
  looks = b.looks;
  counters = b.counters;
  frames = b.frames;
  is = b.is ∙ (ap (λ (k : Known). record k { seen = k.seen ++ b.later; counters = b.counters; facts = k.facts ++ b.facts; finds = k.finds ++ b.finds; looks = b.looks; pages = record k.pages { session = b.frames } }) a.is
      ∙ (λ i. record u {
        seen = append_assoc u.seen a.later b.later i;
        counters = b.counters;
        facts = append_assoc u.facts a.facts b.facts i;
        finds = append_assoc u.finds a.finds b.finds i;
        looks = b.looks;
        pages = record u.pages { session = b.frames };
      }));
  room = All-append IsNotFullTable a.finds b.finds a.room b.room;
  pin = b.pin ∙ (ap (λ (k : Known). k.pages.session.pin) a.is ∙ a.pin);
}

pub peeks_same : (v : View) (s : ℕ) → Peeks v v s
peeks_same v s = record { learns = learns_same v s; kept = kept_same v; peeked = peeked_same (knows v s); own = refl }

pub peeks_on : (u v w : View) (s : ℕ) → Peeks u v s → Peeks v w s → Peeks u w s
peeks_on u v w s a b = record {
  learns = learns_on u v w s (knows v s) (knows w s) a.learns b.learns;
  kept = kept_on u v w a.learns.whole a.kept b.kept;
  peeked = peeked_on (knows u s) (knows v s) (knows w s) a.peeked b.peeked;
  own = b.own ∙ a.own;
}

pub reads_same : (store : Store) (a : Sitting) (s : ℕ) → IsReader store a s → Reads store a a s
reads_same store a s reader = record { reader = reader; peeks = peeks_same a.view s; limits = refl; words = refl }

pub reads_on : (store : Store) (a b c : Sitting) (s : ℕ) → Reads store a b s → Reads store b c s → Reads store a c s
reads_on store a b c s x y = record { reader = y.reader; peeks = peeks_on a.view b.view c.view s x.peeks y.peeks; limits = y.limits ∙ x.limits; words = y.words ∙ x.words }

-- the words by area
pub same_words : (store : Store) (a b : Sitting) (s : ℕ) → Reads store a b s → words_in b.view ≡ words_in a.view
same_words store a b s x = λ i. shown (x.limits i) (x.words i)

-- ---- one look

-- a word that says something of the history, or of which tail records it may have
abbrev pub IsTelling : Place → Type 0
IsTelling ClockWord = Unit {0}
IsTelling (LogWord t) = Unit {0}
IsTelling (BeginWord s n) = Unit {0}
IsTelling (KeyWord r) = Unit {0}
IsTelling (TailCounter r) = Unit {0}
IsTelling (CellWord t p) = Unit {0}
IsTelling p = ⊥

pub still : (k : Stage) → rank k ≡ 0 → refreshed k ≡ k
still Away e = refl
still Taken e = absurd (omega arith)
still Fresh e = refl
still Logged e = refl
still Stated e = refl
still Done e = refl

no_give : (b h c d : Bool) → h ≡ false → cond b false (h && c && d) ≡ false
no_give true h c d e = refl
no_give false true c d e = absurd (cc)
no_give false false c d e = refl

keeps_hand : (u : Known) (r key : ℕ) → u.placing.has_key ≡ false → cond (gives_up u r key) (given_up u) u ≡ u
keeps_hand u r key none = ap (λ (b : Bool). cond b (given_up u) u) (no_give (eqb u.placing.hand (r + 1)) u.placing.has_key (eqb key u.placing.key) (eqb u.looks.index (r + 1)) none)

maybe_not_full : (b : Bool) (f : Find) → IsNotFullTable f → All IsNotFullTable (cond b (f ∷ []) [])
maybe_not_full true f is = All-cons IsNotFullTable f [] is (All-nil IsNotFullTable)
maybe_not_full false f is = All-nil IsNotFullTable

-- a range may be found full
range_not_full : (reading low : Bool) (r : ℕ) → All IsNotFullTable (cond reading [] (cond low [] (FullTails r ∷ [])))
range_not_full true low r = All-nil IsNotFullTable
range_not_full false true r = All-nil IsNotFullTable
range_not_full false false r = All-cons IsNotFullTable (FullTails r) [] tt (All-nil IsNotFullTable)

module _ (l : Limits) (w : Words) (u : Known) (away : rank u.turn ≡ 0) (none : u.placing.has_key ≡ false) where
  look_peeked : (p : Place) → Extends (history_of l w) u.seen → IsTelling p → Peeked u (look_at l w u p)
  look_peeked ClockWord all is = record {
    facts = index_facts l w;
    finds = FreshClock w.clock ∷ early_find u w.clock;
    later = all.0;
    looks = u.looks;
    counters = u.counters;
    frames = u.pages.session;
    is = λ i. record u { seen = all.1 i; turn = still u.turn away i; facts = u.facts ++ index_facts l w; finds = u.finds ++ FreshClock w.clock ∷ early_find u w.clock; looks = u.looks };
    room = All-cons IsNotFullTable (FreshClock w.clock) (early_find u w.clock) tt (maybe_not_full (nat_lt (w.clock + 1) u.looks.state) (unfinished u u.looks.session u.looks.number) tt);
    pin = refl;
  }
  look_peeked (LogWord t) all is = peeked_same u
  look_peeked (BeginWord s n) all is = peeked_same u
  look_peeked (KeyWord r) all is = subst (Peeked u) (sym (keeps_hand u r (w.keys r) none)) (peeked_same u)
  look_peeked (CellWord t p) all is = record {
    facts = stored_fact l w t ++ commit_fact w.log (w.cells t 0);
    finds = TailLoad t ∷ cond (eqb p 0 && eqb (w.cells t 0) 0) (EmptyStart t ∷ []) [];
    later = [];
    looks = cond (eqb p 0) (record u.looks { start = w.cells t 0; about = record_in l w.cells t + 1; tail = t }) u.looks;
    counters = u.counters;
    frames = u.pages.session;
    is = λ i. record u {
      seen = sym (append-nil u.seen) i;
      facts = u.facts ++ (stored_fact l w t ++ commit_fact w.log (w.cells t 0));
      finds = u.finds ++ TailLoad t ∷ cond (eqb p 0 && eqb (w.cells t 0) 0) (EmptyStart t ∷ []) [];
      looks = cond (eqb p 0) (record u.looks { start = w.cells t 0; about = record_in l w.cells t + 1; tail = t }) u.looks;
    };
    room = All-cons IsNotFullTable (TailLoad t) (cond (eqb p 0 && eqb (w.cells t 0) 0) (EmptyStart t ∷ []) []) tt (maybe_not_full (eqb p 0 && eqb (w.cells t 0) 0) (EmptyStart t) tt);
    pin = refl;
  }
  look_peeked (TailCounter r) all is = record {
    facts = TailsAtLeast r (w.counts r) ∷ cond (is_reading u) (range_facts l w r) [];
    finds = CountedTails r (w.counts r) ∷ cond (is_reading u) [] (if_full l.tails (w.counts r) (FullTails r));
    later = [];
    looks = u.looks;
    counters = slice_set u.counters r (served l.tails (w.counts r) (counter_of u r));
    frames = u.pages.session;
    is = λ i. record u {
      seen = sym (append-nil u.seen) i;
      counters = slice_set u.counters r (served l.tails (w.counts r) (counter_of u r));
      facts = u.facts ++ TailsAtLeast r (w.counts r) ∷ cond (is_reading u) (range_facts l w r) [];
      finds = u.finds ++ CountedTails r (w.counts r) ∷ cond (is_reading u) [] (if_full l.tails (w.counts r) (FullTails r));
    };
    room = All-cons IsNotFullTable (CountedTails r (w.counts r)) (cond (is_reading u) [] (if_full l.tails (w.counts r) (FullTails r))) tt (range_not_full (is_reading u) (nat_lt (w.counts r) l.tails) r);
    pin = refl;
  }
  look_peeked CommitWord all is = absurd is
  look_peeked (StateWord s n) all is = absurd is
  look_peeked EpochWord all is = absurd is
  look_peeked RecordCounter all is = absurd is
  look_peeked (IndexWord q) all is = absurd is
  look_peeked (HeadWord r) all is = absurd is
  look_peeked (DirectoryWord r c) all is = absurd is
  look_peeked (FrameWord f c) all is = absurd is
  look_peeked (PinWord s) all is = absurd is
  look_peeked (PostingWord c q) all is = absurd is

  look_owns : (s : ℕ) (p : Place) → commits_of s (history_of l w) ≡ mine s u → IsTelling p → mine s (look_at l w u p) ≡ mine s u
  look_owns s ClockWord own is = own
  look_owns s (LogWord t) own is = refl
  look_owns s (BeginWord j n) own is = refl
  look_owns s (KeyWord r) own is = ap (mine s) (keeps_hand u r (w.keys r) none)
  look_owns s (CellWord t p) own is = refl
  look_owns s CommitWord own is = absurd is
  look_owns s (StateWord j n) own is = absurd is
  look_owns s EpochWord own is = absurd is
  look_owns s RecordCounter own is = absurd is
  look_owns s (IndexWord q) own is = absurd is
  look_owns s (HeadWord r) own is = absurd is
  look_owns s (TailCounter r) own is = refl
  look_owns s (DirectoryWord r c) own is = absurd is
  look_owns s (FrameWord f c) own is = absurd is
  look_owns s (PinWord j) own is = absurd is
  look_owns s (PostingWord c q) own is = absurd is

-- ---- by a seat

false_of : (b : Bool) → (b ≡ true → ⊥) → b ≡ false
false_of true h = absurd (h refl)
false_of false h = refl

module _ (store : Store) (a b : Sitting) (s x : ℕ) (p : Place) (reader : IsReader store a s) (seat : IsSeatOf store b) (within : layout.IsWithin a.view.limits p) (is : IsTelling p) (looked : Looked a.view b.view s p x) where
  abbrev v : View
  v = a.view

  abbrev k : Known
  k = knows v s

  abbrev W : Words
  W = shown v.limits looked.met.made.told.words

  allowed : Allowed v looked.met.made.told.words looked.met.made.told.known looked.met.made.told.merger
  allowed = looked.met.made.told.allowed

  mine_is : k ≡ looked.met.made.told.known s
  mine_is = let low = reader.own in knows_own v looked.met.made.told.words looked.met.made.told.known looked.met.made.told.merger allowed s reader.host (λ e. omega arith)

  no_key : k.placing.has_key ≡ false
  no_key = false_of k.placing.has_key (λ e. let h = reader.hand in let same = ap (λ (u : Known). u.placing.hand) mine_is in let key = (allowed.sound.index.hands s reader.own).keyed (ap (λ (u : Known). u.placing.has_key) (sym mine_is) ∙ e) in let some = key.0 in omega arith)

  now_is : knows b.view s ≡ look_at v.limits W k p
  now_is = looked.view.now

  peeks : Peeks v b.view s
  peeks = record {
    learns = record { now = refl; others = looked.view.others; hosted = looked.view.hosted; limits = looked.view.limits; note = looked.view.note; note_facts = looked.view.note_facts; whole = looked.view.whole };
    kept = looked.kept;
    peeked = subst (Peeked k) (sym now_is) (look_peeked v.limits W k reader.turn no_key p (is_seen v looked.met.made.told.words looked.met.made.told.known looked.met.made.told.merger allowed s reader.host) is);
    own = ap (mine s) now_is ∙ look_owns v.limits W k reader.turn no_key s p (sym (allowed.sound.views s reader.own).own ∙ ap (mine s) (sym mine_is)) is;
  }

  pub look_reads : Reads store a b s
  look_reads = let same : knows b.view s ≡ record k { seen = k.seen ++ peeks.peeked.later; counters = peeks.peeked.counters; facts = k.facts ++ peeks.peeked.facts; finds = k.finds ++ peeks.peeked.finds; looks = peeks.peeked.looks; pages = record k.pages { session = peeks.peeked.frames } } = peeks.peeked.is in record {
    reader = record {
      seat_of = seat;
      host = ap (λ (hs : List Bool). slice_index_or hs s false) looked.view.hosted ∙ reader.host;
      own = subst (λ (l : Limits). s < l.sessions) (sym looked.view.limits) reader.own;
      whole = looked.view.whole ∙ reader.whole;
      hand = ap (λ (u : Known). u.placing.hand) same ∙ reader.hand;
      turn = ap (λ (u : Known). rank u.turn) same ∙ reader.turn;
    };
    peeks = peeks;
    limits = looked.view.limits;
    words = looked.kept.words reader.whole;
  }

  pub look_finds : x ≡ word_at (words_in v) p
  look_finds = looked.met.own reader.whole ∙ sym (shows.found v.limits v.words (subst (λ (ws : List ℕ). length ws ≡ words_of v.limits) (sym (allowed.whole reader.whole)) allowed.wide) p within)

-- ---- the whole history

both_start : (a b : List Commit) → Extends a b → Extends b a → a ≡ b
both_start a b ([], e) h = e ∙ append-nil b
both_start a b (x ∷ r, e) (q, f) = absurd (let m = ap length e in let n = ap length f in omega (arith, length-append b (x ∷ r), length-append a q))

-- a session that has seen at least the history has seen no more
pub seen_all : (store : Store) (a b : Sitting) (s : ℕ) → Reads store a b s → Possible b.view → Extends (knows b.view s).seen (history_of a.view.limits (words_in a.view)) → (knows b.view s).seen ≡ history_of a.view.limits (words_in a.view)
seen_all store a b s reads p least = both_start (knows b.view s).seen (history_of a.view.limits (words_in a.view)) least
    (subst (λ (all : List Commit). Extends all (knows b.view s).seen) (λ i. history_of (reads.limits i) (shown (reads.limits i) ((sym (p.allowed.whole reads.reader.whole) ∙ reads.words) i)))
    (is_seen b.view p.words p.known p.merger p.allowed s reads.reader.host))

-- what was seen grows
pub seen_grows : (store : Store) (a b : Sitting) (s : ℕ) → Reads store a b s → Extends (knows b.view s).seen (knows a.view s).seen
seen_grows store a b s reads = (reads.peeks.peeked.later, ap (λ (k : Known). k.seen) reads.peeks.peeked.is)

-- ---- by the address

module _ (y : Layout) (v : View) (limits : v.limits ≡ y.limits) (p : Place) (within : layout.IsWithin v.limits p) where
  pub within_layout : layout.IsWithin y.limits p
  within_layout = subst (λ (l : Limits). layout.IsWithin l p) limits within

  pub at_place : (x : ℕ) → x ≡ address y.limits p → place_of v.limits x ≡ p
  at_place x is = ap (place_of v.limits) (is ∙ ap (λ (l : Limits). address l p) (sym limits)) ∙ (addresses_are_read v.limits (subst IsValid (sym limits) y.valid)).back p within

  pub looked_there : (w : View) (s x found : ℕ) → x ≡ address y.limits p → Looked v w s (place_of v.limits x) found → Looked v w s p found
  looked_there w s x found is = subst (λ (q : Place). Looked v w s q found) (at_place x is)

pub layout_limits : (store : Store) (v : View) (y : Layout) → v.limits ≡ store.layout.limits → y ≡ store.layout → v.limits ≡ y.limits
layout_limits store v y is same = is ∙ ap (λ (z : Layout). z.limits) (sym same)
