-- What a session knows after looks.
use Rattle.std.proofs.Common.{◌≡◌, ◌⊎◌, ℕ, ◌+◌, ◌<◌, ◌≤◌, Some, None, slice_index, slice_set, get_or-set_other, Bool, true, false, nat_lt, arith, [], ◌∷◌, ◌++◌, cond, eqb, ◌&&◌, length, refl, sym, subst, ap, ◌∙◌, inl, inr, append_assoc, append-nil, eq-eqb}
use mathlib.Core.Logic.{dite}
use native.Mathlib.Decide.{ℕ_discrete}
use Rattle.std.proofs.lemmas.List.{take-append-le}
use Rattle.std.proofs.lemmas.List.Elements.{All-nil, All-cons, All-append, Contains-append_left}
use Rattle.std.specs.List.{All}
use Rattle.lst_layout.specs.declared.limits.Limits.{Limits}
use Rattle.lst_layout.specs.declared.place.Place.{Place}
use Rattle.lst_layout.specs.declared.place.Place.TheVariants.{ClockWord, CommitWord, EpochWord, RecordCounter, LogWord, BeginWord, StateWord, KeyWord, IndexWord, HeadWord, TailCounter, CellWord, DirectoryWord, FrameWord, PinWord, PostingWord}
use Rattle.lst_layout.specs.Addresses.{address}
use Rattle.lst_layout.specs.Words.{shown}
use Rattle.lst_layout.proofs.Places.{addresses_are_read}
use Rattle.lst_model.specs.Histories.{Extends}
use Rattle.lst_core_state.specs.declared.known.Known.{Known}
use Rattle.lst_core_state.specs.declared.known.Stage.{Stage}
use Rattle.lst_core_state.specs.declared.known.Stage.TheVariants.{Away, Taken, Fresh, Logged, Stated, Done}
use Rattle.lst_core_state.specs.declared.pages.PageInHand.{PageInHand}
use Rattle.lst_core_state.specs.declared.pages.SessionFrames.{SessionFrames}
use Rattle.lst_core_state.specs.declared.facts.Find.{Find}
use Rattle.lst_core_state.specs.declared.facts.Find.TheVariants.{FreshClock, TailLoad, EmptyStart, CountedTails, FullTails}
use Rattle.lst_core_state.specs.declared.facts.Fact.TheVariants.{TailsAtLeast}
use Rattle.lst_core_state.specs.Facts.{index_facts, chain_facts, range_facts, state_fact, stored_fact, commit_fact, unfinished, active_find, early_find}
use Rattle.lst_core_state.specs.declared.events.Event.TheVariants.{Look}
use Rattle.lst_core_state.specs.State.{Words, counter_of, record_in, history_of, commits_of, mine, state_over}
use Rattle.lst_core_state.specs.Step.{look_at, is_reading, if_full, served, refreshed}
use Rattle.lst_pages.specs.State.{hand_of}
use Rattle.lst_pages.specs.Runs.{IsReadable}
use Rattle.lst_pages.specs.Known.{pages_in}
use Rattle.lst_rule.specs.declared.view.View.{View}
use Rattle.lst_rule.specs.Rule.{knows, hosts}
use Rattle.lst_rule.specs.Learned.{Learns}
use Rattle.lst_rule.specs.PageSteps.{with_frames, PageLooked}
use Rattle.lst_rule.proofs.Knowing.{is_seen, knows_own}
use Rattle.lst_rule.proofs.Learning.{learns_on, learns_same, kept_by}
use Rattle.lst_rule.proofs.Paging.{hand_is_readable}
use Rattle.lst_rule.specs.Watching.{IsNotFull, HasInHand, Watches, SamePins, Watched, IsWatched, IsStamped, KeepsStamps}
use Rattle.lst_rule.specs.Laws.{CountersWatch, LooksWatch, PagesWatch, StampsWatch, WatchesJoin, WatchersKeepPins, WatchersKeep, KeptBy}
use Rattle.lst_rule.proofs.Stamps.{stamped_same, stamped_on, kept_stamped, made_stamped, kept_keeps, made_keeps}
use Rattle.lst_rule.proofs.StatusTelling.{low, is_known, is_on_known}

-- ---- no counter was found full

pub one_not_full : (f : Find) → IsNotFull f → All IsNotFull (f ∷ [])
one_not_full f is = All-cons IsNotFull f [] is (All-nil IsNotFull)

maybe_not_full : (b : Bool) (f : Find) → IsNotFull f → All IsNotFull (cond b (f ∷ []) [])
maybe_not_full true f is = one_not_full f is
maybe_not_full false f is = All-nil IsNotFull

early_not_full : (u : Known) (clock : ℕ) → All IsNotFull (early_find u clock)
early_not_full u clock = maybe_not_full (nat_lt (clock + 1) u.looks.state) (unfinished u u.looks.session u.looks.number) tt

-- a load of the clock finds none
pub clock_not_full : (u : Known) (clock : ℕ) → All IsNotFull (FreshClock clock ∷ early_find u clock)
clock_not_full u clock = All-cons IsNotFull (FreshClock clock) (early_find u clock) tt (early_not_full u clock)

-- ---- looks

-- each frame in hand stays
hand_same : (frames : SessionFrames) (f : ℕ) (page : PageInHand) → hand_of frames f ≡ Some page → HasInHand frames f (slice_index page.words)
hand_same frames f page is = record { page = page; in_hand = is; same = λ n short. refl }

-- nothing new
pub watches_same : (u : Known) → Watches u u
watches_same u = record {
  facts = [];
  finds = [];
  later = [];
  turn = u.turn;
  looks = u.looks;
  counters = u.counters;
  frames = u.pages.session;
  is = λ i. record u { seen = sym (append-nil u.seen) i; turn = u.turn; facts = sym (append-nil u.facts) i; finds = sym (append-nil u.finds) i; looks = u.looks };
  stage = inl refl;
  room = All-nil IsNotFull;
  pin = refl;
  hand = hand_same u.pages.session;
}

refreshed_again : (k : Stage) → refreshed (refreshed k) ≡ refreshed k
refreshed_again Away = refl
refreshed_again Taken = refl
refreshed_again Fresh = refl
refreshed_again Logged = refl
refreshed_again Stated = refl
refreshed_again Done = refl

joined_stage : (a b c : Stage) → (b ≡ a) ⊎ (b ≡ refreshed a) → (c ≡ b) ⊎ (c ≡ refreshed b) → (c ≡ a) ⊎ (c ≡ refreshed a)
joined_stage a b c (inl e) (inl f) = inl (f ∙ e)
joined_stage a b c (inl e) (inr f) = inr (f ∙ ap refreshed e)
joined_stage a b c (inr e) (inl f) = inr (f ∙ e)
joined_stage a b c (inr e) (inr f) = inr (f ∙ (ap refreshed e ∙ refreshed_again a))

pub watches_on : (u v w : Known) → Watches u v → Watches v w → Watches u w
watches_on u v w a b = record {
  facts = a.facts ++ b.facts;
  finds = a.finds ++ b.finds;
  later = a.later ++ b.later;
  turn = b.turn;
  looks = b.looks;
  counters = b.counters;
  frames = b.frames;
  is = b.is ∙ (ap (λ (k : Known). record k { seen = k.seen ++ b.later; turn = b.turn; counters = b.counters; facts = k.facts ++ b.facts; finds = k.finds ++ b.finds; looks = b.looks; pages = record k.pages { session = b.frames } }) a.is
      ∙ (λ i. record u {
        seen = append_assoc u.seen a.later b.later i;
        turn = b.turn;
        counters = b.counters;
        facts = append_assoc u.facts a.facts b.facts i;
        finds = append_assoc u.finds a.finds b.finds i;
        looks = b.looks;
        pages = record u.pages { session = b.frames };
      }));
  stage = joined_stage u.turn a.turn b.turn a.stage (subst (λ (k : Stage). (b.turn ≡ k) ⊎ (b.turn ≡ refreshed k)) (ap (λ (k : Known). k.turn) a.is) b.stage);
  room = All-append IsNotFull a.finds b.finds a.room b.room;
  pin = b.pin ∙ (ap (λ (k : Known). k.pages.session.pin) a.is ∙ a.pin);
  hand = λ f page is. let p : HasInHand a.frames f (slice_index page.words) = a.hand f page is in
      let q : HasInHand b.frames f (slice_index p.page.words) = b.hand f p.page (ap (λ (k : Known). hand_of k.pages.session f) a.is ∙ p.in_hand) in
      record { page = q.page; in_hand = q.in_hand; same = λ n short. q.same n short ∙ p.same n short };
}

-- nothing was looked at
pub watched_same : (v : View) (s : ℕ) → Watched v v s
watched_same v s = record {
  learns = learns_same v s;
  watches = watches_same (knows v s);
  own = λ low. refl;
  words = λ whole. stamped_same (shown v.limits v.words);
  stamps = λ whole t even. even;
}

pub watches_join : WatchesJoin
watches_join u v w s a b = record {
  learns = learns_on u v w s (knows v s) (knows w s) a.learns b.learns;
  watches = watches_on (knows u s) (knows v s) (knows w s) a.watches b.watches;
  own = λ low. b.own (subst (λ (l : Limits). s < l.sessions) (sym a.learns.limits) low) ∙ a.own low;
  words = λ whole. stamped_on (shown u.limits u.words) (shown v.limits v.words) (shown w.limits w.words) (a.words whole) (b.words (a.learns.whole ∙ whole));
  stamps = λ whole t even. b.stamps (a.learns.whole ∙ whole) t (a.stamps whole t even);
}

watched : (v w : View) (s : ℕ) (k : Known) → Learns v w s k → Watches (knows v s) k → (s < v.limits.sessions → mine s k ≡ mine s (knows v s)) → (v.whole ≡ true → IsStamped (shown v.limits v.words) (shown w.limits w.words))
    → (v.whole ≡ true → KeepsStamps (shown v.limits v.words) (shown w.limits w.words)) → Watched v w s
watched v w s k learns watches own words stamps = record {
  learns = record { now = refl; others = learns.others; hosted = learns.hosted; limits = learns.limits; note = learns.note; note_facts = learns.note_facts; whole = learns.whole };
  watches = subst (λ (u : Known). Watches (knows v s) u) (sym learns.now) watches;
  own = λ low. ap (mine s) learns.now ∙ own low;
  words = words;
  stamps = stamps;
}

pub stamps_watch : StampsWatch
stamps_watch v w s range n x p made = watched v w s (knows v s) made.view (watches_same (knows v s)) (λ low. refl) (made_stamped v w s range n x p made) (made_keeps v w s range n x p made)

-- a look leaves what a session s has committed, which it has seen
look_owns : (l : Limits) (w : Words) (u : Known) (s : ℕ) (p : Place) → commits_of s (history_of l w) ≡ mine s u → IsWatched p → mine s (look_at l w u p) ≡ mine s u
look_owns l w u s ClockWord own is = own
look_owns l w u s (StateWord j n) own is = refl
look_owns l w u s (HeadWord r) own is = refl
look_owns l w u s (CellWord t p) own is = refl
look_owns l w u s CommitWord own is = absurd is
look_owns l w u s EpochWord own is = absurd is
look_owns l w u s RecordCounter own is = absurd is
look_owns l w u s (LogWord t) own is = absurd is
look_owns l w u s (BeginWord j n) own is = absurd is
look_owns l w u s (KeyWord r) own is = absurd is
look_owns l w u s (IndexWord q) own is = absurd is
look_owns l w u s (TailCounter r) own is = absurd is
look_owns l w u s (DirectoryWord r c) own is = refl
look_owns l w u s (FrameWord f c) own is = refl
look_owns l w u s (PinWord j) own is = absurd is
look_owns l w u s (PostingWord c q) own is = absurd is

look_watches : (l : Limits) (w : Words) (u : Known) (p : Place) → Extends (history_of l w) u.seen → IsWatched p → Watches u (look_at l w u p)
look_watches l w u ClockWord all is = record {
  facts = index_facts l w;
  finds = FreshClock w.clock ∷ early_find u w.clock;
  later = all.0;
  turn = refreshed u.turn;
  looks = u.looks;
  counters = u.counters;
  frames = u.pages.session;
  is = λ i. record u { seen = all.1 i; turn = refreshed u.turn; facts = u.facts ++ index_facts l w; finds = u.finds ++ FreshClock w.clock ∷ early_find u w.clock; looks = u.looks };
  stage = inr refl;
  room = clock_not_full u w.clock;
  pin = refl;
  hand = hand_same u.pages.session;
}
look_watches l w u (StateWord s n) all is = record {
  facts = state_fact w s n;
  finds = active_find u s n (w.states s n);
  later = [];
  turn = u.turn;
  looks = record u.looks { state = w.states s n; session = s; number = n };
  counters = u.counters;
  frames = u.pages.session;
  is = λ i. record u { seen = sym (append-nil u.seen) i; turn = u.turn; facts = u.facts ++ state_fact w s n; finds = u.finds ++ active_find u s n (w.states s n); looks = record u.looks { state = w.states s n; session = s; number = n } };
  stage = inl refl;
  room = maybe_not_full (eqb (w.states s n) 0) (unfinished u s n) tt;
  pin = refl;
  hand = hand_same u.pages.session;
}
look_watches l w u (HeadWord r) all is = record {
  facts = chain_facts l w r;
  finds = [];
  later = [];
  turn = u.turn;
  looks = u.looks;
  counters = u.counters;
  frames = u.pages.session;
  is = λ i. record u { seen = sym (append-nil u.seen) i; turn = u.turn; facts = u.facts ++ chain_facts l w r; finds = sym (append-nil u.finds) i; looks = u.looks };
  stage = inl refl;
  room = All-nil IsNotFull;
  pin = refl;
  hand = hand_same u.pages.session;
}
look_watches l w u (CellWord t p) all is = record {
  facts = stored_fact l w t ++ commit_fact w.log (w.cells t 0);
  finds = TailLoad t ∷ cond (eqb p 0 && eqb (w.cells t 0) 0) (EmptyStart t ∷ []) [];
  later = [];
  turn = u.turn;
  looks = cond (eqb p 0) (record u.looks { start = w.cells t 0; about = record_in l w.cells t + 1; tail = t }) u.looks;
  counters = u.counters;
  frames = u.pages.session;
  is = λ i. record u {
    seen = sym (append-nil u.seen) i;
    turn = u.turn;
    facts = u.facts ++ (stored_fact l w t ++ commit_fact w.log (w.cells t 0));
    finds = u.finds ++ TailLoad t ∷ cond (eqb p 0 && eqb (w.cells t 0) 0) (EmptyStart t ∷ []) [];
    looks = cond (eqb p 0) (record u.looks { start = w.cells t 0; about = record_in l w.cells t + 1; tail = t }) u.looks;
  };
  stage = inl refl;
  room = All-cons IsNotFull (TailLoad t) (cond (eqb p 0 && eqb (w.cells t 0) 0) (EmptyStart t ∷ []) []) tt (maybe_not_full (eqb p 0 && eqb (w.cells t 0) 0) (EmptyStart t) tt);
  pin = refl;
  hand = hand_same u.pages.session;
}
look_watches l w u CommitWord all is = absurd is
look_watches l w u EpochWord all is = absurd is
look_watches l w u RecordCounter all is = absurd is
look_watches l w u (LogWord t) all is = absurd is
look_watches l w u (BeginWord s n) all is = absurd is
look_watches l w u (KeyWord r) all is = absurd is
look_watches l w u (IndexWord q) all is = absurd is
look_watches l w u (TailCounter r) all is = absurd is
look_watches l w u (DirectoryWord r c) all is = watches_same u
look_watches l w u (FrameWord f c) all is = watches_same u
look_watches l w u (PinWord s) all is = absurd is
look_watches l w u (PostingWord c q) all is = absurd is

-- a load of a tail counter, while the session reads
counter_watches : (l : Limits) (w : Words) (u : Known) (range : ℕ) → is_reading u ≡ true → Watches u (look_at l w u (TailCounter range))
counter_watches l w u range reading = record {
  facts = TailsAtLeast range (w.counts range) ∷ cond (is_reading u) (range_facts l w range) [];
  finds = CountedTails range (w.counts range) ∷ cond (is_reading u) [] (if_full l.tails (w.counts range) (FullTails range));
  later = [];
  turn = u.turn;
  looks = u.looks;
  counters = slice_set u.counters range (served l.tails (w.counts range) (counter_of u range));
  frames = u.pages.session;
  is = λ i. record u {
    seen = sym (append-nil u.seen) i;
    counters = slice_set u.counters range (served l.tails (w.counts range) (counter_of u range));
    facts = u.facts ++ TailsAtLeast range (w.counts range) ∷ cond (is_reading u) (range_facts l w range) [];
    finds = u.finds ++ CountedTails range (w.counts range) ∷ cond (is_reading u) [] (if_full l.tails (w.counts range) (FullTails range));
  };
  stage = inl refl;
  room = All-cons IsNotFull (CountedTails range (w.counts range)) (cond (is_reading u) [] (if_full l.tails (w.counts range) (FullTails range))) tt
      (subst (λ (b : Bool). All IsNotFull (cond b [] (if_full l.tails (w.counts range) (FullTails range)))) (sym reading) (All-nil IsNotFull));
  pin = refl;
  hand = hand_same u.pages.session;
}

reading_says : (u : Known) → u.is_open ≡ true → u.hold.latch ≡ 0 → is_reading u ≡ true
reading_says u is_on free = λ i. is_on i && eq-eqb u.hold.latch 0 free i

pub counters_watch : CountersWatch
counters_watch v w s range x hosted is_on free inside m = let t = m.made.told in let W : Words = shown v.limits t.words in let k : Known = knows v s in
    watched v w s (look_at v.limits W k (TailCounter range)) (subst (λ (q : Place). Learns v w s (look_at v.limits W k q)) ((addresses_are_read v.limits t.allowed.sound.sized).back (TailCounter range) inside) m.made.view)
    (counter_watches v.limits W k range (reading_says k is_on free)) (λ low. refl)
    (kept_stamped v w m.made.view.limits (kept_by v w (Look s (address v.limits (TailCounter range))) (TailCounter range) x m))
    (kept_keeps v w m.made.view.limits (kept_by v w (Look s (address v.limits (TailCounter range))) (TailCounter range) x m))

pub looks_watch : LooksWatch
looks_watch v w s x p hosted inside is m = let t = m.made.told in let W : Words = shown v.limits t.words in let k : Known = knows v s in
    watched v w s (look_at v.limits W k p) (subst (λ (q : Place). Learns v w s (look_at v.limits W k q)) ((addresses_are_read v.limits t.allowed.sound.sized).back p inside) m.made.view)
    (look_watches v.limits W k p (is_seen v t.words t.known t.merger t.allowed s hosted) is)
    (λ low. look_owns v.limits W k s p (sym (t.allowed.sound.views s low).own ∙ ap (mine s) (sym (knows_own v t.words t.known t.merger t.allowed s hosted (λ e. omega arith)))) is)
    (kept_stamped v w m.made.view.limits (kept_by v w (Look s (address v.limits p)) p x m))
    (kept_keeps v w m.made.view.limits (kept_by v w (Look s (address v.limits p)) p x m))

-- ---- a page taken in hand

module _ (v w : View) (s r c f : ℕ) (hosted : hosts v s ≡ true) (low : s < v.limits.sessions) (looked : PageLooked v w s r c f) where
  abbrev frames : SessionFrames
  frames = record (knows v s).pages.session { hand = slice_set (knows v s).pages.session.hand f (Some looked.page) }

  taken_hand : (g : ℕ) (page : PageInHand) → hand_of (knows v s).pages.session g ≡ Some page → HasInHand frames g (slice_index page.words)
  taken_hand g page is = dite (ℕ_discrete g f)
      (λ here. let t = looked.met.made.told in let was : IsReadable (pages_in (state_over v.limits t.words t.known t.merger)) f page = hand_is_readable v t.words t.known t.merger t.allowed s hosted low f page (subst (λ (k : ℕ). hand_of (knows v s).pages.session k ≡ Some page) here is) in
      subst (λ (k : ℕ). HasInHand frames k (slice_index page.words)) (sym here) record {
        page = looked.page;
        in_hand = ap (λ (k : Known). hand_of k.pages.session f) (sym looked.view.now) ∙ looked.in_hand;
        same = λ n short. sym (looked.readable.same n short) ∙ was.same n short;
      })
      (λ other. record { page = page; in_hand = get_or-set_other (knows v s).pages.session.hand f g (Some looked.page) None other ∙ is; same = λ n short. refl })

  page_taken : Watched v w s
  page_taken = watched v w s (with_frames (knows v s) frames) looked.view record {
    facts = [];
    finds = [];
    later = [];
    turn = (knows v s).turn;
    looks = (knows v s).looks;
    counters = (knows v s).counters;
    frames = frames;
    is = λ i. record (knows v s) { seen = sym (append-nil (knows v s).seen) i; facts = sym (append-nil (knows v s).facts) i; finds = sym (append-nil (knows v s).finds) i; pages = record (knows v s).pages { session = frames } };
    stage = inl refl;
    room = All-nil IsNotFull;
    pin = refl;
    hand = taken_hand;
  } (λ low. refl) (kept_stamped v w looked.view.limits looked.kept) (kept_keeps v w looked.view.limits looked.kept)

pub pages_watch : PagesWatch
pages_watch v w s r c f hosted low looked = page_taken v w s r c f hosted low looked

-- ---- what it keeps

pub same_pins : (u k : Known) → Watches u k → SamePins u k
same_pins u k watches = subst (SamePins u) (sym watches.is) record { pins = refl; pin = watches.pin }

pub watchers_keep_pins : WatchersKeepPins
watchers_keep_pins v w s watched = same_pins (knows v s) (knows w s) watched.watches

keeps : (u v : Known) → u.begin ≤ length u.seen → Watches u v → KeptBy u v
keeps u v high watches = subst (λ (k : Known). KeptBy u k) (sym watches.is) record {
  alike = record { number = refl; begin = refl; own = refl; front = take-append-le u.begin u.seen watches.later high };
  facts = λ f h. Contains-append_left u.facts watches.facts f h;
  finds = λ f h. Contains-append_left u.finds watches.finds f h;
  seen = (watches.later, refl);
  is_open = refl;
  hold = refl;
}

pub watchers_keep : WatchersKeep
watchers_keep v w s p hosted is_on is = let a = p.allowed in
    keeps (knows v s) (knows w s) (subst (λ (u : Known). u.begin ≤ length u.seen) (sym (is_known v p.words p.known p.merger a s hosted is_on))
    ((a.sound.views s (low v p.words p.known p.merger a s hosted is_on)).begun (is_on_known v p.words p.known p.merger a s hosted is_on))) is.watches
