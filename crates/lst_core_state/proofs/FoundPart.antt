-- Each step keeps that what finds say is so.
use Rattle.std.proofs.Common.{◌≡◌, ◌≢◌, ℕ, ◌+◌, ◌-◌, ◌*◌, ◌/◌, ◌%◌, ◌<◌, ◌≤◌, List, [], ◌∷◌, ◌++◌, Bool, true, false, cond, eqb, nat_lt, ◌&&◌, Contains, refl, sym, subst, ap, ◌∙◌, arith, true≢false, eqb-true, eq-eqb, ltb-true, ltb-false, ◌⊎◌, ⊎_elim, inl, inr}
use Rattle.std.proofs.lemmas.List.Elements.{Contains-append_cases, Contains-append_left}
use Rattle.lst_layout.specs.declared.limits.Limits.{Limits}
use Rattle.lst_layout.specs.Functions.{put}
use Rattle.lst_layout.specs.Addresses as layout
use Rattle.lst_layout.specs.Addresses.{place_of}
use Rattle.lst_layout.specs.Areas.{words_of}
use Rattle.lst_layout.proofs.Places.{at}
use Rattle.lst_core_state.specs.Lists.{Has}
use Rattle.lst_core_state.specs.declared.known.Known.{Known}
use Rattle.lst_core_state.specs.declared.known.Hold.{Hold}
use Rattle.lst_core_state.specs.declared.known.Done.{Done}
use Rattle.lst_core_state.specs.declared.known.Looks.{Looks}
use Rattle.lst_core_state.specs.declared.facts.Find.{Find}
use Rattle.lst_core_state.specs.declared.facts.Find.TheVariants.{LatchedRecord, FreshClock, FreshEpoch, UnfinishedVersion, HeldTurn, FullRecords, FullTails, CountedTails, EmptyStart, TailLoad}
use Rattle.lst_core_state.specs.declared.events.Event.{Event}
use Rattle.lst_core_state.specs.declared.events.Event.TheVariants.{Look, Begin, Take, Log, State, Clock, Give, Close, DrawRecord, StoreKey, Claim, Latch, DrawTail, StoreCell, Install, Release, Stamp, Post}
use Rattle.lst_layout.specs.declared.place.Place.{Place}
use Rattle.lst_layout.specs.declared.place.Place.TheVariants.{ClockWord, CommitWord, EpochWord, RecordCounter, LogWord, BeginWord, StateWord, KeyWord, IndexWord, HeadWord, TailCounter, CellWord, DirectoryWord, FrameWord, PinWord, PostingWord}
use Rattle.lst_core_state.specs.Cells.{record_count}
use Rattle.lst_core_state.specs.State.{Words, Core, entry, name_of, writer_at, line, record_in}
use Rattle.lst_core_state.specs.Facts.{Wrote, WroteOf, UnloggedUntil, IsFind, unfinished, active_find, early_find}
use Rattle.lst_core_state.specs.Step.{session_of, IsWithin, Enabled, words_after, known_after, look_at, is_reading, gives_up, given_up, if_full, took, held_off, record_drawn, records_full, claimed, claim_lost, latched, latch_lost, tail_drawn, tails_full, cell_started, word_stored, posted, post_lost}
use Rattle.lst_core_state.specs.Sound.{InHand, Looked, Found, FoundOf, Sound}
use Rattle.lst_core_state.proofs.Functions.{either, each_put}
use Rattle.lst_core_state.proofs.Steps.{writer_odd, name_session, name_number, name_entry}
use Rattle.lst_core_state.proofs.Sightings.{begin_low}
use Rattle.lst_core_state.proofs.FitPart.{whole_stored}
use Rattle.lst_core_state.proofs.ListedPart.{contains_one, contains_last, done_by}
use Rattle.lst_core_state.proofs.FactsPart.{later}

-- ---- what stays of a session's writes and latches

pub record Keeps (done done' : List Done) (h h' : Hold) (number number' : ℕ) (latched latched' : List ℕ) : Type 0 where
  pub wrote : (n r t : ℕ) → Wrote done h number n r t → Wrote done' h' number' n r t
  pub latches : (r : ℕ) → Contains latched r → Contains latched' r

abbrev pub KeepsOf : Known → Known → Type 0
KeepsOf v v' = Keeps v.done v'.done v.hold v'.hold v.number v'.number v.latched v'.latched

pub still : (v : Known) → KeepsOf v v
still v = record { wrote = λ n r t i. i; latches = λ r i. i }

-- without a whole tail in hand there are the writes done alone
unwhole : (done done' : List Done) (h h' : Hold) (number number' : ℕ) → ((d : Done) → Contains done d → Contains done' d) → ¬ (h.is_whole ≡ true) → (n r t : ℕ) → Wrote done h number n r t → Wrote done' h' number' n r t
unwhole done done' h h' number number' more none n r t q = ⊎_elim (λ (i : Contains done (done_by n r t)). inl (more (done_by n r t) i)) (λ (i : (h.tail ≡ t) × (h.is_whole ≡ true) × (h.latch ≡ r + 1) × (number ≡ n)). absurd (none i.1)) q

-- ---- what stays of finds

module _ (l : Limits) (counter counter' : ℕ) (counts counts' : ℕ → ℕ) (clock clock' : ℕ) (log log' : ℕ → ℕ) (known known' : ℕ → Known) (counted : counter ≤ counter') (tails : (q : ℕ) → counts q ≤ counts' q) (onward : clock ≤ clock') (logs : (t : ℕ) → 0 < t → t ≤ clock → log' t ≡ log t) (keeps : (j : ℕ) → KeepsOf (known j) (known' j)) where
  unlogged_on : (b x : ℕ) → UnloggedUntil clock log b x → UnloggedUntil clock' log' b x
  unlogged_on b x h = let low = h.0 in (omega arith, λ t p q e. h.1 t p q (sym (logs t p (omega arith)) ∙ e))

  pub find_on : (s : ℕ) (f : Find) → IsFind l counter counts clock log known s f → IsFind l counter' counts' clock' log' known' s f
  find_on s (LatchedRecord r) h = (h.0, h.1, h.2, (keeps h.0).latches r h.3)
  find_on s (UnfinishedVersion a t j n b) h = (h.0, λ p. (keeps j).wrote n (a - 1) t (h.1 p), λ p. unlogged_on (b - 1) (name_of j n) (h.2 p))
  find_on s (FreshClock x) h = tt
  find_on s (FreshEpoch x) h = tt
  find_on s HeldTurn h = tt
  find_on s FullRecords h = let low : 256 * l.ranges ≤ counter = h in omega arith
  find_on s (FullTails range) h = let low : l.tails ≤ counts range = h in let more = tails range in omega arith
  find_on s (CountedTails range x) h = tt
  find_on s (EmptyStart t) h = tt
  find_on s (TailLoad t) h = tt

  pub found_on : (states states' : ℕ → ℕ → ℕ) → ((s n : ℕ) → (states' s n ≡ states s n) ⊎ (states s n ≡ 0)) → (s : ℕ) (finds : List Find) (k : Looks) → Found l counter counts clock log states known s finds k → Found l counter' counts' clock' log' states' known' s finds k
  found_on states states' ended s finds k h = let last = h.last in record {
    each = λ f i. find_on s f (h.each f i);
    last = record {
      session = last.session;
      state = λ p. let is = last.state p in ⊎_elim (λ (same : states' k.session k.number ≡ states k.session k.number). same ∙ is) (λ (none : states k.session k.number ≡ 0). absurd (omega arith)) (ended k.session k.number);
      start = λ j n low e. (keeps j).wrote n (k.about - 1) k.tail (last.start j n low e);
    };
  }

-- ---- more finds

not_below : (limit x : ℕ) → nat_lt x limit ≡ false → limit ≤ x
not_below limit x e = ltb-false x limit e

module _ (l : Limits) (counter : ℕ) (counts : ℕ → ℕ) (clock : ℕ) (log : ℕ → ℕ) (known : ℕ → Known) (s : ℕ) where
  abbrev pub Finds : List Find → Type 0
  Finds fs = (f : Find) → Contains fs f → IsFind l counter counts clock log known s f

  no_finds : Finds []
  no_finds f h = let low = h.1 in absurd (omega arith)

  one_find : (g : Find) → IsFind l counter counts clock log known s g → Finds (g ∷ [])
  one_find g is f h = subst (IsFind l counter counts clock log known s) (contains_one g f h) is

  more_finds : (fs gs : List Find) → Finds fs → Finds gs → Finds (fs ++ gs)
  more_finds fs gs a b f h = ⊎_elim (λ (i : Contains fs f). a f i) (λ (i : Contains gs f). b f i) (Contains-append_cases fs gs f h)

  if_find : (limit x : ℕ) (g : Find) → (limit ≤ x → IsFind l counter counts clock log known s g) → Finds (if_full limit x g)
  if_find limit x g is = either Finds (nat_lt x limit) [] (g ∷ []) (λ _. no_finds) (λ e. one_find g (is (not_below limit x e)))

  -- finds that say nothing for good, or are so, with the looks as they were
  add : (states : ℕ → ℕ → ℕ) (finds gs : List Find) (k : Looks) → Found l counter counts clock log states known s finds k → Finds gs → Found l counter counts clock log states known s (finds ++ gs) k
  add states finds gs k h new = record { each = more_finds finds gs h.each new; last = h.last }

-- the index word that was loaded last says nothing for good
index_looked : (l : Limits) (states : ℕ → ℕ → ℕ) (known : ℕ → Known) (k : Looks) (x : ℕ) → Looked l states known k → Looked l states known (record k { index = x })
index_looked l states known k x h = record { session = h.session; state = h.state; start = h.start }

module _ (c : Core) (sound : Sound c) where
  abbrev L : Limits
  L = c.limits

  abbrev w : Words
  w = c.words

  abbrev K : ℕ → Known
  K = c.known

  abbrev Is : ℕ → Find → Type 0
  Is s f = IsFind L w.counter w.counts w.clock w.log K s f

  abbrev All : ℕ → List Find → Type 0
  All s fs = Finds L w.counter w.counts w.clock w.log K s fs

  -- ---- a start word that names its writer

  name_apart : (i a j n : ℕ) → i < 16 → j < 16 → name_of i a ≡ name_of j n → (i ≡ j) × (a ≡ n)
  name_apart i a j n p q e = (omega arith, omega arith)

  start_wrote : (t j n : ℕ) → j < L.sessions → w.cells t 0 ≡ 1 + 2 * name_of j n → WroteOf (K j) n (record_in L w.cells t + 1 - 1) t
  start_wrote t j n low e = let few = sound.sized.sessions.1 in let r : ℕ = record_in L w.cells t in let stored = sound.versions.stored t (omega arith) in
      let by : writer_at w t ≡ name_of j n = writer_odd w.log (w.cells t 0) (omega arith) ∙ (omega arith) in
      subst (λ (q : ℕ). WroteOf (K j) n q t) (let f : r ≡ r + 1 - 1 = omega arith in f)
      (⊎_elim
      (λ (i : Has t (line L w r)). inl (subst (λ (x : ℕ). Contains (K x).done (done_by n r t)) (ap (λ (x : ℕ). x % 16) by ∙ name_session j n (omega arith))
      (subst (λ (m : ℕ). Contains (K (writer_at w t % 16)).done (done_by m r t)) (ap (λ (x : ℕ). x / 16) by ∙ name_number j n (omega arith)) (sound.listed.every r stored.low t i))))
      (λ (q : InHand L K t). let k = sound.versions.hands q.0 q.1 in let named : w.cells t 0 ≡ 1 + 2 * name_of q.0 (K q.0).number = ap (λ (x : ℕ). w.cells x 0) (sym q.2) ∙ k.start q.3 in
      let same = name_apart q.0 (K q.0).number j n (let h = q.1 in omega arith) (omega arith) (omega arith) in
      let rec : r ≡ (K q.0).hold.latch - 1 = ap (record_in L w.cells) (sym q.2) ∙ k.here q.3 in let held = k.holds (k.some q.3) in
      inr (subst (λ (x : ℕ). ((K x).hold.tail ≡ t) × ((K x).hold.is_whole ≡ true) × ((K x).hold.latch ≡ r + 1) × ((K x).number ≡ n)) same.0 (q.2, q.3, omega arith, same.1)))
      stored.place)

  -- ---- unfinished versions

  module _ (s : ℕ) (v : Known) (opened : v.is_open ≡ true → v.begin ≤ w.clock) (found : FoundOf L w K s v) where
    unfinished_is : (j n : ℕ) → j < L.sessions → ((t : ℕ) → 0 < t → t ≤ w.clock → w.log t ≢ name_of j n) → Is s (unfinished v j n)
    unfinished_is j n low unlogged = (low, wrote (eqb v.looks.start (1 + 2 * name_of j n)) refl, before v.is_open refl)
      where
        wrote : (b : Bool) → eqb v.looks.start (1 + 2 * name_of j n) ≡ b → 0 < cond b v.looks.about 0 → WroteOf (K j) n (cond b v.looks.about 0 - 1) (cond b v.looks.tail 0)
        wrote true e some = found.last.start j n low (eqb-true v.looks.start (1 + 2 * name_of j n) e)
        wrote false e some = absurd (omega arith)

        before : (b : Bool) → v.is_open ≡ b → 0 < cond b (v.begin + 1) 0 → UnloggedUntil w.clock w.log (cond b (v.begin + 1) 0 - 1) (name_of j n)
        before true e some = let h = opened e in (omega arith, λ t p q. unlogged t p (omega arith))
        before false e some = absurd (omega arith)

    -- a transaction that the log names by the clock has a state word of that time
    logged_state : (j n t : ℕ) → j < L.sessions → 0 < t → t ≤ w.clock → w.log t ≡ name_of j n → w.states j n ≡ t + 1
    logged_state j n t low p q e = let few = sound.sized.sessions.1 in sym (name_entry w.states j n (omega arith)) ∙ (ap (entry w.states) (sym e) ∙ (sound.times.named t p q).state)

    active_is : (j n : ℕ) → j < L.sessions → All s (active_find v j n (w.states j n))
    active_is j n low = either (All s) (eqb (w.states j n) 0) (unfinished v j n ∷ []) []
        (λ e. one_find L w.counter w.counts w.clock w.log K s (unfinished v j n) (unfinished_is j n low (λ t p q f. let a = eqb-true (w.states j n) 0 e in let b = logged_state j n t low p q f in omega arith)))
        (λ _. no_finds L w.counter w.counts w.clock w.log K s)

    early_is : All s (early_find v w.clock)
    early_is = let j : ℕ = v.looks.session in let n : ℕ = v.looks.number in either (All s) (nat_lt (w.clock + 1) v.looks.state) (unfinished v j n ∷ []) []
        (λ e. let late = ltb-true (w.clock + 1) v.looks.state e in one_find L w.counter w.counts w.clock w.log K s (unfinished v j n) (unfinished_is j n found.last.session (λ t p q f. let a = found.last.state (omega arith) in let b = logged_state j n t found.last.session p q f in omega arith)))
        (λ _. no_finds L w.counter w.counts w.clock w.log K s)

    -- ---- loads

    started : (t : ℕ) → Looked L w.states K (record v.looks { start = w.cells t 0; about = record_in L w.cells t + 1; tail = t })
    started t = let k = found.last in record { session = k.session; state = k.state; start = λ j n low e. start_wrote t j n low e }

    more : (gs : List Find) → All s gs → Found L w.counter w.counts w.clock w.log w.states K s (v.finds ++ gs) v.looks
    more gs new = add L w.counter w.counts w.clock w.log K s w.states v.finds gs v.looks found new

    one : (g : Find) → Is s g → Found L w.counter w.counts w.clock w.log w.states K s (v.finds ++ g ∷ []) v.looks
    one g is = more (g ∷ []) (one_find L w.counter w.counts w.clock w.log K s g is)

    two : (g : Find) (gs : List Find) → Is s g → All s gs → Found L w.counter w.counts w.clock w.log w.states K s (v.finds ++ g ∷ gs) v.looks
    two g gs is new = more (g ∷ gs) (more_finds L w.counter w.counts w.clock w.log K s (g ∷ []) gs (one_find L w.counter w.counts w.clock w.log K s g is) new)

    cell_found : (t p : ℕ) → FoundOf L w K s (look_at L w v (CellWord t p))
    cell_found t p = record {
      each = (two (TailLoad t) (cond (eqb p 0 && eqb (w.cells t 0) 0) (EmptyStart t ∷ []) []) tt
          (either (All s) (eqb p 0 && eqb (w.cells t 0) 0) (EmptyStart t ∷ []) [] (λ _. one_find L w.counter w.counts w.clock w.log K s (EmptyStart t) tt) (λ _. no_finds L w.counter w.counts w.clock w.log K s))).each;
      last = either (λ (k : Looks). Looked L w.states K k) (eqb p 0) (record v.looks { start = w.cells t 0; about = record_in L w.cells t + 1; tail = t }) v.looks (λ _. started t) (λ _. found.last);
    }

    look_found : (p : Place) → layout.IsWithin L p → FoundOf L w K s (look_at L w v p)
    look_found ClockWord within = two (FreshClock w.clock) (early_find v w.clock) tt early_is
    look_found EpochWord within = one (FreshEpoch w.epoch) tt
    look_found RecordCounter within = more (if_full (record_count L) w.counter FullRecords) (if_find L w.counter w.counts w.clock w.log K s (record_count L) w.counter FullRecords (λ full. full))
    look_found (StateWord j n) within = let k = found.last in record { each = (more (active_find v j n (w.states j n)) (active_is j n within.0)).each; last = record { session = within.0; state = λ _. refl; start = k.start } }
    look_found (KeyWord r) within = either (FoundOf L w K s) (gives_up v r (w.keys r)) (given_up v) v (λ _. found) (λ _. found)
    look_found (IndexWord q) within = record { each = found.each; last = index_looked L w.states K v.looks (w.index q) found.last }
    look_found (HeadWord r) within = found
    look_found (TailCounter range) within = two (CountedTails range (w.counts range)) (cond (is_reading v) [] (if_full L.tails (w.counts range) (FullTails range))) tt
        (either (All s) (is_reading v) [] (if_full L.tails (w.counts range) (FullTails range)) (λ _. no_finds L w.counter w.counts w.clock w.log K s) (λ _. if_find L w.counter w.counts w.clock w.log K s L.tails (w.counts range) (FullTails range) (λ full. full)))
    look_found (CellWord t p) within = cell_found t p
    look_found CommitWord within = found
    look_found (LogWord i) within = found
    look_found (BeginWord i n) within = found
    look_found (DirectoryWord i n) within = found
    look_found (FrameWord i n) within = found
    look_found (PinWord i) within = found
    look_found (PostingWord i n) within = found

    pub looks_found : (a : ℕ) → a < words_of L → FoundOf L w K s (look_at L w v (place_of L a))
    looks_found a inside = look_found (place_of L a) (at L a sound.sized inside).within

  -- ---- what a step leaves of its session's writes and latches

  whole_none : (s : ℕ) → s < L.sessions → (K s).hold.tail ≡ 0 → ¬ ((K s).hold.is_whole ≡ true)
  whole_none s low none whole = let k = (sound.versions.hands s low).some whole in omega arith

  look_keeps : (s : ℕ) (p : Place) → KeepsOf (K s) (look_at L w (K s) p)
  look_keeps s ClockWord = still (K s)
  look_keeps s EpochWord = still (K s)
  look_keeps s RecordCounter = still (K s)
  look_keeps s (StateWord j n) = still (K s)
  look_keeps s (KeyWord r) = either (KeepsOf (K s)) (gives_up (K s) r (w.keys r)) (given_up (K s)) (K s) (λ _. still (K s)) (λ _. still (K s))
  look_keeps s (IndexWord q) = still (K s)
  look_keeps s (HeadWord r) = still (K s)
  look_keeps s (TailCounter range) = still (K s)
  look_keeps s (CellWord t p) = still (K s)
  look_keeps s CommitWord = still (K s)
  look_keeps s (LogWord i) = still (K s)
  look_keeps s (BeginWord i n) = still (K s)
  look_keeps s (DirectoryWord i n) = still (K s)
  look_keeps s (FrameWord i n) = still (K s)
  look_keeps s (PinWord i) = still (K s)
  look_keeps s (PostingWord i n) = still (K s)

  -- the tail in hand is on the chain
  install_keeps : (s : ℕ) → KeepsOf (K s) (known_after L w (K s) (Install s))
  install_keeps s = let v : Known = K s in let x : Done = done_by v.number (v.hold.latch - 1) v.hold.tail in record {
    wrote = λ n r t q. ⊎_elim
        (λ (i : Contains v.done (done_by n r t)). inl (Contains-append_left v.done (x ∷ []) (done_by n r t) i))
        (λ (i : (v.hold.tail ≡ t) × (v.hold.is_whole ≡ true) × (v.hold.latch ≡ r + 1) × (v.number ≡ n)). let rec : v.hold.latch - 1 ≡ r = (let h = i.2 in omega arith) in
        let same : x ≡ done_by n r t = λ k. done_by (i.3 k) (rec k) (i.0 k) in inl (subst (Contains (v.done ++ x ∷ [])) same (contains_last v.done x))) q;
    latches = λ r i. i;
  }

  step_keeps : (e : Event) → session_of e < L.sessions → Enabled L (K (session_of e)) e → KeepsOf (K (session_of e)) (known_after L w (K (session_of e)) e)
  step_keeps (Look s a) low ok = look_keeps s (place_of L a)
  step_keeps (Begin s b r) low ok = let v : Known = K s in record { wrote = unwhole v.done v.done v.hold v.hold v.number (v.number + 1) (λ d i. i) (λ whole. true≢false (sym (whole_stored c sound s low whole).3 ∙ ok.0)); latches = λ r i. i }
  step_keeps (Take s) low ok = either (KeepsOf (K s)) (eqb w.turn 0) (took (K s)) (held_off (K s)) (λ _. still (K s)) (λ _. still (K s))
  step_keeps (Log s) low ok = still (K s)
  step_keeps (State s) low ok = still (K s)
  step_keeps (Clock s) low ok = still (K s)
  step_keeps (Give s) low ok = still (K s)
  step_keeps (Close s) low ok = still (K s)
  step_keeps (DrawRecord s) low ok = either (KeepsOf (K s)) (nat_lt w.counter (record_count L)) (record_drawn w (K s)) (records_full w (K s)) (λ _. still (K s)) (λ _. still (K s))
  step_keeps (StoreKey s k) low ok = still (K s)
  step_keeps (Claim s q) low ok = either (KeepsOf (K s)) (eqb (w.index q) 0) (claimed (K s) q) (claim_lost w (K s) q) (λ _. still (K s)) (λ _. still (K s))
  step_keeps (Latch s r) low ok = let v : Known = K s in let v' : Known = latched L w v r in either (KeepsOf v) (eqb (w.heads r % 2) 0) v' (latch_lost L w v r)
      (λ _. record { wrote = unwhole v.done v.done v.hold v'.hold v.number v.number (λ d i. i) (λ whole. let q = (whole_stored c sound s low whole).4 in let z = ok.3 in omega arith); latches = λ q i. Contains-append_left v.latched (r ∷ []) q i })
      (λ _. still v)
  step_keeps (DrawTail s range) low ok = let v : Known = K s in let v' : Known = tail_drawn L w v range in either (KeepsOf v) (nat_lt (w.counts range) L.tails) v' (tails_full w v range)
      (λ _. record { wrote = unwhole v.done v.done v.hold v'.hold v.number v.number (λ d i. i) (whole_none s low ok.2); latches = λ q i. i }) (λ _. still v)
  step_keeps (StoreCell s p x) low ok = let v : Known = K s in let v' : Known = cell_started L w v p x in either (KeepsOf v) (eqb p 0) v' (word_stored v p x)
      (λ _. record { wrote = unwhole v.done v.done v.hold v'.hold v.number v.number (λ d i. i) (λ whole. true≢false (sym whole ∙ ok.1)); latches = λ q i. i }) (λ _. still v)
  step_keeps (Install s) low ok = install_keeps s
  step_keeps (Release s) low ok = let v : Known = K s in let v' : Known = known_after L w v (Release s) in record { wrote = unwhole v.done v.done v.hold v'.hold v.number v.number (λ d i. i) (whole_none s low ok.1); latches = λ q i. i }
  step_keeps (Stamp s range n) low ok = still (K s)
  step_keeps (Post s column q) low ok = either (KeepsOf (K s)) (eqb (w.postings column q) 0) (posted (K s) column q) (post_lost w (K s) column q) (λ _. still (K s)) (λ _. still (K s))

  -- ---- what a step finds

  latched_apart : (s r : ℕ) → s < L.sessions → r < record_count L → (K s).hold.latch ≡ 0 → eqb (w.heads r % 2) 0 ≡ false → Is s (LatchedRecord r)
  latched_apart s r low in_records none odd = let even : w.heads r % 2 ≢ 0 = (λ z. true≢false (sym (eq-eqb (w.heads r % 2) 0 z) ∙ odd)) in let held = sound.versions.held r in_records (omega arith) in let h = held.2 in (
    held.0,
    held.1,
    λ e. let f : (K held.0).hold.latch ≡ (K s).hold.latch = ap (λ (j : ℕ). (K j).hold.latch) e in omega arith,
    subst (λ (x : ℕ). Contains (K held.0).latched x) (let f : (K held.0).hold.latch - 1 ≡ r = omega arith in f) (sound.listed.latched held.0 held.1 (omega arith)),
  )

  new_found : (e : Event) → session_of e < L.sessions → IsWithin L e → Enabled L (K (session_of e)) e → FoundOf L w K (session_of e) (known_after L w (K (session_of e)) e)
  new_found (Look s a) low within ok = looks_found s (K s) (λ is_on. begin_low c sound s low is_on) (sound.found s low) a within.1
  new_found (Begin s b r) low within ok = sound.found s low
  new_found (Take s) low within ok = either (FoundOf L w K s) (eqb w.turn 0) (took (K s)) (held_off (K s)) (λ _. sound.found s low) (λ _. add L w.counter w.counts w.clock w.log K s w.states (K s).finds (HeldTurn ∷ []) (K s).looks (sound.found s low) (one_find L w.counter w.counts w.clock w.log K s HeldTurn tt))
  new_found (Log s) low within ok = sound.found s low
  new_found (State s) low within ok = sound.found s low
  new_found (Clock s) low within ok = sound.found s low
  new_found (Give s) low within ok = sound.found s low
  new_found (Close s) low within ok = sound.found s low
  new_found (DrawRecord s) low within ok = either (FoundOf L w K s) (nat_lt w.counter (record_count L)) (record_drawn w (K s)) (records_full w (K s)) (λ _. sound.found s low)
      (λ e. add L w.counter w.counts w.clock w.log K s w.states (K s).finds (FullRecords ∷ []) (K s).looks (sound.found s low) (one_find L w.counter w.counts w.clock w.log K s FullRecords (not_below (record_count L) w.counter e)))
  new_found (StoreKey s k) low within ok = sound.found s low
  new_found (Claim s q) low within ok = let h = sound.found s low in either (FoundOf L w K s) (eqb (w.index q) 0) (claimed (K s) q) (claim_lost w (K s) q) (λ _. h) (λ _. record { each = h.each; last = index_looked L w.states K (K s).looks (w.index q) h.last })
  new_found (Latch s r) low within ok = either (FoundOf L w K s) (eqb (w.heads r % 2) 0) (latched L w (K s) r) (latch_lost L w (K s) r) (λ _. sound.found s low)
      (λ odd. add L w.counter w.counts w.clock w.log K s w.states (K s).finds (LatchedRecord r ∷ []) (K s).looks (sound.found s low) (one_find L w.counter w.counts w.clock w.log K s (LatchedRecord r) (latched_apart s r low within.1 ok.3 odd)))
  new_found (DrawTail s range) low within ok = either (FoundOf L w K s) (nat_lt (w.counts range) L.tails) (tail_drawn L w (K s) range) (tails_full w (K s) range) (λ _. sound.found s low)
      (λ e. add L w.counter w.counts w.clock w.log K s w.states (K s).finds (FullTails range ∷ []) (K s).looks (sound.found s low) (one_find L w.counter w.counts w.clock w.log K s (FullTails range) (not_below L.tails (w.counts range) e)))
  new_found (StoreCell s p x) low within ok = either (FoundOf L w K s) (eqb p 0) (cell_started L w (K s) p x) (word_stored (K s) p x) (λ _. sound.found s low) (λ _. sound.found s low)
  new_found (Install s) low within ok = sound.found s low
  new_found (Release s) low within ok = sound.found s low
  new_found (Stamp s range n) low within ok = sound.found s low
  new_found (Post s column q) low within ok = either (FoundOf L w K s) (eqb (w.postings column q) 0) (posted (K s) column q) (post_lost w (K s) column q) (λ _. sound.found s low) (λ _. sound.found s low)

  module _ (e : Event) (low : session_of e < L.sessions) (ok : Enabled L (K (session_of e)) e) where
    abbrev w' : Words
    w' = words_after L w (K (session_of e)) e

    abbrev K' : ℕ → Known
    K' = put K (session_of e) (known_after L w (K (session_of e)) e)

    known_keeps : (j : ℕ) → KeepsOf (K j) (K' j)
    known_keeps = each_put (λ (j : ℕ) (u : Known). KeepsOf (K j) u) K (session_of e) (known_after L w (K (session_of e)) e) (step_keeps e low ok) (λ j other. still (K j))

    -- after the step
    pub found_after : (s : ℕ) (v : Known) → FoundOf L w K s v → FoundOf L w' K' s v
    found_after s v = let a = later c sound e low ok in found_on L w.counter w'.counter w.counts w'.counts w.clock w'.clock w.log w'.log K K' a.counter a.counts a.clock a.log known_keeps w.states w'.states a.states s v.finds v.looks

  pub found_keeps : (e : Event) → session_of e < L.sessions → IsWithin L e → Enabled L (K (session_of e)) e → (j : ℕ) → j < L.sessions → FoundOf L (words_after L w (K (session_of e)) e) (put K (session_of e) (known_after L w (K (session_of e)) e)) j (put K (session_of e) (known_after L w (K (session_of e)) e) j)
  found_keeps e low within ok = let s : ℕ = session_of e in let v' : Known = known_after L w (K s) e in each_put (λ (j : ℕ) (u : Known). j < L.sessions → FoundOf L (words_after L w (K s) e) (put K s v') j u) K s v'
      (λ h. found_after e low ok s v' (new_found e low within ok)) (λ j other h. found_after e low ok j (K j) (sound.found j h))

  -- a session that has written and latched what it had
  pub found_same : (s : ℕ) (v' : Known) → KeepsOf (K s) v' → (j : ℕ) (u : Known) → FoundOf L w K j u → FoundOf L w (put K s v') j u
  found_same s v' keeps j u = found_on L w.counter w.counter w.counts w.counts w.clock w.clock w.log w.log K (put K s v') (omega arith) (λ q. omega arith) (omega arith) (λ _ _ _. refl) (each_put (λ (i : ℕ) (x : Known). KeepsOf (K i) x) K s v' keeps (λ i other. still (K i))) w.states w.states (λ _ _. inl refl) j u.finds u.looks
