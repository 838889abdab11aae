-- Seen means known.
use Rattle.std.proofs.Common.{◌≡◌, ◌⊎◌, ℕ, zero, suc, ◌+◌, ◌*◌, ◌/◌, ◌%◌, ◌<◌, ◌≤◌, List, [], ◌∷◌, ◌++◌, Bool, true, false, cond, eqb, ◌||◌, nat_lt, ◌&&◌, length, take, refl, sym, subst, ap, ◌∙◌, arith, inl, inr, ⊎_elim, true≢false, append_assoc, append-nil, length-append, eqb-true, lt-ltb, le-ltb, ltb-true}
use Rattle.std.proofs.lemmas.List.{take-append-le}
use mathlib.Core.Logic.{dite}
use native.Mathlib.Decide.{ℕ_discrete}
use Rattle.lst_model.specs.declared.commits.Commit.{Commit}
use Rattle.lst_model.specs.Histories.{acts_on, all_acts_on}
use Rattle.lst_core_state.specs.Lists.{Has, Links, acts, above, down, chain_of, is_until}
use Rattle.lst_core_state.specs.declared.known.Known.{Known}
use Rattle.lst_core_state.specs.declared.events.Event.{Event}
use Rattle.lst_core_state.specs.declared.events.Event.TheVariants.{Look, Begin, Take, Log, State, Clock, Give, Close, DrawRecord, StoreKey, Claim, Latch, DrawTail, StoreCell, Install, Release, Stamp, Post}
use Rattle.lst_core_state.specs.declared.facts.Fact.TheVariants.{IndexAt, CellIs, ChainEnds}
use Rattle.lst_layout.specs.declared.limits.Limits.{Limits}
use Rattle.lst_layout.specs.declared.place.Place.{Place}
use Rattle.lst_layout.specs.declared.place.Place.TheVariants.{ClockWord, CommitWord, EpochWord, RecordCounter, LogWord, BeginWord, StateWord, KeyWord, IndexWord, HeadWord, TailCounter, CellWord, DirectoryWord, FrameWord, PinWord, PostingWord}
use Rattle.lst_layout.specs.Addresses.{place_of}
use Rattle.lst_core_state.specs.Cells.{record_count, range_of, tail_at, record_of, act_of, listed}
use Rattle.lst_core_state.specs.Index.{is_placed, size}
use Rattle.lst_core_state.specs.State.{Words, Core, entry, writer_at, state_at, name_of, line, record_in, act_in, back_in, head_of, sight, is_visible}
use Rattle.lst_core_state.specs.Step.{session_of, IsWithin, IsEnabled, known_after, look_at, gives_up, given_up, after, after_own, after_merger}
use Rattle.lst_core_state.specs.Facts.{IsFact, Ends}
use Rattle.lst_core_state.specs.Sound.{InHand, Drawn, Sound}
use Rattle.lst_core_state.specs.Laws.{Names}
use Rattle.lst_core_state.specs.Reading.{Reader, Alike, Later, IsReading, RunsGoOn, IsSeen, IsOnChain, SeenIsOnChain, WasKnown, SeenMeansKnown, Stays, KnownStays, LooksAtTails, act_then, TailsTellChains, IsChained, DrawnAreChained}
use Rattle.lst_core_state.proofs.Functions.{either, put_here, put_else}
use Rattle.lst_core_state.proofs.Lists.{links_low, acts_same, acts_all, acts_none}
use Rattle.lst_core_state.proofs.Sights.{same_truth, or_says}
use Rattle.lst_core_state.proofs.Decoded.{both_say}
use Rattle.lst_core_state.proofs.Steps.{name_session, writer_odd}
use Rattle.lst_core_state.proofs.CellsKept.{tail_at-some, tail_at-none}
use Rattle.lst_core_state.proofs.VersionsKept.{hand_open, one_range}
use Rattle.lst_core_state.proofs.Positions.{placed_says, placed_holds}
use Rattle.lst_core_state.proofs.Sightings.{snapshot_chain, absent_sight}
use Rattle.lst_core_state.proofs.Pure.{visible_seen, seen_visible}
use Rattle.lst_core_state.proofs.Keeps.{keeps}
use Rattle.lst_core_state.proofs.Statements.{steps_are_sound}

-- ---- lists

pub acts-append : {A : Type 0} (p : ℕ → Bool) (a : ℕ → A) (xs ys : List ℕ) → acts p a (xs ++ ys) ≡ acts p a ys ++ acts p a xs
acts-append p a [] ys = sym (append-nil (acts p a ys))
acts-append {A} p a (x ∷ xs) ys = step (p x) (acts-append p a xs ys)
  where
    step : (b : Bool) → acts p a (xs ++ ys) ≡ acts p a ys ++ acts p a xs
        → cond b (acts p a (xs ++ ys) ++ a x ∷ []) (acts p a (xs ++ ys)) ≡ acts p a ys ++ cond b (acts p a xs ++ a x ∷ []) (acts p a xs)
    step true e = ap (λ (l : List A). l ++ a x ∷ []) e ∙ append_assoc (acts p a ys) (acts p a xs) (a x ∷ [])
    step false e = e

-- nothing was added to a list that is the same
nothing_more : {A : Type 0} (xs ys : List A) → xs ++ ys ≡ xs → ys ≡ []
nothing_more {A} xs [] e = refl
nothing_more {A} xs (y ∷ ys) e = absurd (let more = length-append xs (y ∷ ys) in let same : length (xs ++ y ∷ ys) ≡ length xs = ap length e in omega arith)

-- of no acts no tail was taken
pub none_taken : {A : Type 0} (p : ℕ → Bool) (a : ℕ → A) (ys : List ℕ) → acts p a ys ≡ [] → (t : ℕ) → Has t ys → ¬ (p t ≡ true)
none_taken p a [] none t i e = absurd i
none_taken {A} p a (y ∷ ys) none t i e = go (p y) refl none i (λ empty j. none_taken p a ys empty t j e)
  where
    go : (b : Bool) → p y ≡ b → cond b (acts p a ys ++ a y ∷ []) (acts p a ys) ≡ [] → Has t (y ∷ ys) → (acts p a ys ≡ [] → Has t ys → ⊥) → ⊥
    go true f none i again = let some = length-append (acts p a ys) (a y ∷ []) in let same : length (acts p a ys ++ a y ∷ []) ≡ 0 = ap length none in omega arith
    go false f none (inl same) again = true≢false (sym e ∙ (ap p same ∙ f))
    go false f none (inr j) again = again none j

pub has_either : (t : ℕ) (xs ys : List ℕ) → Has t (xs ++ ys) → Has t xs ⊎ Has t ys
has_either t [] ys i = inr i
has_either t (x ∷ xs) ys (inl e) = inl (inl e)
has_either t (x ∷ xs) ys (inr i) = ⊎_elim (λ (j : Has t xs). inl (inr j)) (λ (j : Has t ys). inr j) (has_either t xs ys i)

pub has_right : (t : ℕ) (xs ys : List ℕ) → Has t ys → Has t (xs ++ ys)
has_right t [] ys i = i
has_right t (x ∷ xs) ys i = inr (has_right t xs ys i)

-- ---- one state

module _ (c : Core) (sound : Sound c) (s : ℕ) (reader : Reader c s) where
  abbrev sees_at : ℕ → Bool
  sees_at = is_visible c.words (name_of s (c.known s).number) (c.known s).begin

  -- the tail in hand of another session isn't seen, and the reader has none
  pub hand_unseen : (t : ℕ) → 0 < c.words.cells t 0 → InHand c.limits c.known t → ¬ (is_visible c.words (name_of s (c.known s).number) (c.known s).begin t ≡ true)
  hand_unseen t some h e = ⊎_elim
      (λ (early : is_until (c.known s).begin (state_at c.words t) ≡ true). true≢false (sym early ∙ ap (is_until (c.known s).begin) state))
      (λ (mine : eqb (writer_at c.words t) (name_of s (c.known s).number) ≡ true). true≢false (sym h.3 ∙ (ap (λ (j : ℕ). (c.known j).hold.is_whole) (same (eqb-true (writer_at c.words t) (name_of s (c.known s).number) mine)) ∙ reader.hand)))
      (or_says (is_until (c.known s).begin (state_at c.words t)) (eqb (writer_at c.words t) (name_of s (c.known s).number)) e)
    where
      few : c.limits.sessions ≤ 16
      few = sound.sized.sessions.1

      state : state_at c.words t ≡ 0
      state = subst (λ (x : ℕ). state_at c.words x ≡ 0) h.2 (hand_open c.limits c.words c.known sound.sized sound.times sound.each sound.versions h.0 h.1 ((sound.versions.hands h.0 h.1).some h.3) (subst (λ (x : ℕ). 0 < c.words.cells x 0) (sym h.2) some))

      start : c.words.cells t 0 ≡ 1 + 2 * name_of h.0 (c.known h.0).number
      start = ap (λ (x : ℕ). c.words.cells x 0) (sym h.2) ∙ (sound.versions.hands h.0 h.1).start h.3

      by : writer_at c.words t ≡ name_of h.0 (c.known h.0).number
      by = writer_odd c.words.log (c.words.cells t 0) (omega (arith, start)) ∙ omega (arith, start)

      same : writer_at c.words t ≡ name_of s (c.known s).number → h.0 ≡ s
      same e = sym (name_session h.0 (c.known h.0).number (let a = h.1 in omega (arith, few))) ∙ (ap (λ (x : ℕ). x % 16) (sym by ∙ e) ∙ name_session s (c.known s).number (let a = reader.low in omega (arith, few)))

  pub seen_on : (t : ℕ) → IsSeen c s t → IsOnChain c (record_in c.limits c.words.cells t) t
  seen_on t seen = let k = sound.versions.stored t seen.stored in record {
    low = k.low;
    placed = k.index;
    on = ⊎_elim (λ (i : Has t (line c.limits c.words (record_in c.limits c.words.cells t))). i) (λ (h : InHand c.limits c.known t). absurd (hand_unseen t seen.stored h seen.visible)) k.place;
  }

pub seen_is_on_chain : SeenIsOnChain
seen_is_on_chain c sound s reader t seen = seen_on c sound s reader t seen

-- ---- two moments

module _ (c d : Core) (sound : Sound c) (now : Sound d) (s : ℕ) (reader : Reader c s) (later : Later c d s) where
  abbrev w : Words
  w = c.words

  abbrev w' : Words
  w' = d.words

  abbrev v : Known
  v = c.known s

  abbrev v' : Known
  v' = d.known s

  abbrev own : ℕ
  own = name_of s v.number

  abbrev seen_c : ℕ → Bool
  seen_c = is_visible c.words (name_of s (c.known s).number) (c.known s).begin

  abbrev seen_d : ℕ → Bool
  seen_d = is_visible d.words (name_of s (d.known s).number) (d.known s).begin

  low' : s < d.limits.sessions
  low' = subst (λ (l : Limits). s < l.sessions) (sym later.limits) reader.low

  is_on' : (d.known s).is_open ≡ true
  is_on' = later.alike.is_on ∙ reader.is_on

  now_reader : Reader d s
  now_reader = record { low = low'; is_on = is_on'; hand = later.alike.whole ∙ reader.hand }

  records : record_count d.limits ≡ record_count c.limits
  records = ap record_count later.limits

  -- ---- a stored tail

  module _ (t : ℕ) (some : 0 < c.words.cells t 0) where
    cell : IsFact d.limits d.words (CellIs t (writer_at c.words t) (c.words.cells t 1) (c.words.cells t 2) (listed (c.words.cells t) 3 c.limits.columns))
    cell = later.facts (CellIs t (writer_at w t) (w.cells t 1) (w.cells t 2) (listed (w.cells t) 3 c.limits.columns)) (some, refl, refl, refl, refl)

    by_same : writer_at d.words t ≡ writer_at c.words t
    by_same = cell.1

    record_same : record_in d.limits d.words.cells t ≡ record_in c.limits c.words.cells t
    record_same = λ i. record_of (later.limits i).tails t (cell.2 i)

    act_same : act_in d.limits d.words.cells t ≡ act_in c.limits c.words.cells t
    act_same = λ i. act_of (cell.2 i) (cell.4 i)

    in_range : writer_at c.words t % 16 < c.limits.sessions
    in_range = (sound.versions.stored t some).begun.0

    early_same : is_until (d.known s).begin (state_at d.words t) ≡ is_until (c.known s).begin (state_at c.words t)
    early_same = let x : ℕ = writer_at w t in ap (λ (y : ℕ). is_until v'.begin (entry w'.states y)) by_same
        ∙ same_truth (is_until v'.begin (entry w'.states x)) (is_until v.begin (entry w.states x))
        (λ e. visible_seen c sound s reader.low reader.is_on x (subst (λ (l : List Commit). Names l (x % 16) (x / 16)) later.alike.front (seen_visible d now s low' is_on' x (subst (λ (l : Limits). x % 16 < l.sessions) (sym later.limits) in_range) e)))
        (λ e. visible_seen d now s low' is_on' x (subst (λ (l : List Commit). Names l (x % 16) (x / 16)) (sym later.alike.front) (seen_visible c sound s reader.low reader.is_on x in_range e)))

    visible_same : seen_d t ≡ seen_c t
    visible_same = λ i. early_same i || eqb (by_same i) (name_of s (later.alike.number i))

  -- ---- chains

  same_sight : (k : ℕ) → sight (d.known s) k ≡ sight (c.known s) k
  same_sight k = λ i. all_acts_on k (later.alike.front i) ++ acts_on k (later.alike.own i)

  -- a record in the index stays in it, with its key
  placed_stays : (r : ℕ) → is_placed c.limits c.words.index r ≡ true → (is_placed d.limits d.words.index r ≡ true) × (d.words.keys r ≡ c.words.keys r)
  placed_stays r is = let q = placed_says c.limits w.index r is in let f : IsFact d.limits d.words (IndexAt q.0 r (w.keys r)) = later.facts (IndexAt q.0 r (w.keys r)) (q.2, refl) in
      (placed_holds d.limits w'.index r q.0 (subst (λ (l : Limits). q.0 < size l) (sym later.limits) q.1) f.0, f.1)

  module _ (r : ℕ) (below : r < record_count c.limits) where
    below' : r < record_count d.limits
    below' = omega (arith, records)

    -- a chain has only become longer, before what it was
    ends : Ends (line c.limits c.words r) (line d.limits d.words r)
    ends = (later.facts (ChainEnds r (line c.limits w r)) (below, ([], refl))).1

    stored_on : (t : ℕ) → Has t (line c.limits c.words r) → 0 < c.words.cells t 0
    stored_on t i = (sound.versions.lines r below).stored t i

    -- what is seen of the old chain is the same now
    acts_then : acts seen_d (act_in d.limits d.words.cells) (line c.limits c.words r) ≡ acts seen_c (act_in c.limits c.words.cells) (line c.limits c.words r)
    acts_then = acts_same seen_c seen_d (act_in c.limits w.cells) (act_in d.limits w'.cells) (line c.limits w r) (λ t i. visible_same t (stored_on t i)) (λ t i _. act_same t (stored_on t i))

    -- a record that had no place in the index had no versions, and its key was in no sight
    unplaced_sight : is_placed c.limits c.words.index r ≡ false → is_placed d.limits d.words.index r ≡ true → sight (c.known s) (d.words.keys r) ≡ []
    unplaced_sight none is = absent_sight c sound s reader.low reader.is_on (w'.keys r) (λ q q_low q_is e. let there = placed_stays q q_is in
        let same : q ≡ r = now.versions.keys_apart q r (omega (arith, records)) below' there.0 is (there.1 ∙ e) in
        true≢false (sym q_is ∙ (ap (is_placed c.limits w.index) same ∙ none)))

    -- what is seen of the chain now is what was seen of it then
    acts_now : is_placed d.limits d.words.index r ≡ true → acts seen_d (act_in d.limits d.words.cells) (line d.limits d.words r) ≡ acts seen_d (act_in d.limits d.words.cells) (line c.limits c.words r)
    acts_now is = choose (is_placed c.limits w.index r) refl
      where
        snapshot : acts seen_d (act_in d.limits d.words.cells) (line d.limits d.words r) ≡ sight (c.known s) (d.words.keys r)
        snapshot = snapshot_chain d now s low' is_on' r below' is ∙ same_sight (d.words.keys r)

        no_line : is_placed c.limits c.words.index r ≡ false → line c.limits c.words r ≡ []
        no_line none = ap (λ (x : ℕ). chain_of (back_in c.limits c.words.cells) (head_of c.limits r x)) (sound.versions.unplaced r below none) ∙ ap (chain_of (back_in c.limits c.words.cells)) (tail_at-none c.limits.tails (range_of r))

        choose : (b : Bool) → is_placed c.limits c.words.index r ≡ b → acts seen_d (act_in d.limits d.words.cells) (line d.limits d.words r) ≡ acts seen_d (act_in d.limits d.words.cells) (line c.limits c.words r)
        choose true placed = snapshot ∙ (ap (sight (c.known s)) (placed_stays r placed).1 ∙ (sym (snapshot_chain c sound s reader.low reader.is_on r below placed) ∙ sym acts_then))
        choose false none = snapshot ∙ (unplaced_sight none is ∙ sym (ap (acts seen_d (act_in d.limits d.words.cells)) (no_line none)))

    -- so what stands before the old chain isn't seen
    front_unseen : is_placed d.limits d.words.index r ≡ true → (t : ℕ) → Has t ends.0 → ¬ (seen_d t ≡ true)
    front_unseen is = none_taken seen_d (act_in d.limits w'.cells) ends.0 (nothing_more (acts seen_d (act_in d.limits w'.cells) (line c.limits w r)) (acts seen_d (act_in d.limits w'.cells) ends.0)
        (sym (acts-append seen_d (act_in d.limits w'.cells) ends.0 (line c.limits w r)) ∙ (ap (acts seen_d (act_in d.limits w'.cells)) (sym ends.1) ∙ acts_now is)))

    on_chain : is_placed d.limits d.words.index r ≡ true → (t : ℕ) → Has t (line d.limits d.words r) → seen_d t ≡ true → Has t (line c.limits c.words r)
    on_chain is t i e = ⊎_elim (λ (j : Has t ends.0). absurd (front_unseen is t j e)) (λ (j : Has t (line c.limits w r)). j) (has_either t ends.0 (line c.limits w r) (subst (Has t) ends.1 i))

  -- ---- the two laws

  pub known_stays : (rec t : ℕ) → rec < record_count c.limits → Has t (line c.limits c.words rec) → Stays c d s rec t
  known_stays rec t below i = let some : 0 < w.cells t 0 = stored_on rec below t i in let here = (sound.versions.lines rec below).here t i in record {
    drawn = subst (λ (r : ℕ). Drawn c.limits w.counts (range_of r) t) here (sound.versions.stored t some).drawn;
    stored = (cell t some).0;
    on = subst (Has t) (sym (ends rec below).1) (has_right t (ends rec below).0 (line c.limits w rec) i);
    here = record_same t some ∙ here;
    by = by_same t some;
    act = act_same t some;
    visible = visible_same t some;
  }

  pub seen_known : (t : ℕ) → IsSeen d s t → WasKnown c s (record_in d.limits d.words.cells t) t
  seen_known t seen = let now_on = seen_on d now s now_reader t seen in let r : ℕ = record_in d.limits w'.cells t in let below : r < record_count c.limits = (let h = now_on.low in omega (arith, records)) in
      let on : Has t (line c.limits w r) = on_chain r below now_on.placed t now_on.on seen.visible in record {
        low = below;
        on = on;
        drawn = (known_stays r t below on).drawn;
        seen = record { stored = stored_on r below t on; visible = sym (visible_same t (stored_on r below t on)) ∙ seen.visible };
      }

pub seen_means_known : SeenMeansKnown
seen_means_known c d sound now s reader later t seen = seen_known c d sound now s reader later t seen

pub known_stays_on : KnownStays
known_stays_on c d sound now s reader later rec t below i = known_stays c d sound now s reader later rec t below i

-- ---- steps lead to later moments

alike_of : (u v : Known) → v.number ≡ u.number → v.begin ≡ u.begin → v.is_open ≡ u.is_open → v.own ≡ u.own → v.hold.is_whole ≡ u.hold.is_whole → take v.begin v.seen ≡ take u.begin u.seen → Alike u v
alike_of u v e1 e2 e3 e4 e5 e6 = record { number = e1; begin = e2; is_on = e3; own = e4; whole = e5; front = e6 }

alike_trans : (u v x : Known) → Alike u v → Alike v x → Alike u x
alike_trans u v x a b = alike_of u x (b.number ∙ a.number) (b.begin ∙ a.begin) (b.is_on ∙ a.is_on) (b.own ∙ a.own) (b.whole ∙ a.whole) (b.front ∙ a.front)

later_refl : (c : Core) (s : ℕ) → Later c c s
later_refl c s = record { limits = refl; facts = λ f h. h; alike = alike_of (c.known s) (c.known s) refl refl refl refl refl refl }

pub later_trans : (c d e : Core) (s : ℕ) → Later c d s → Later d e s → Later c e s
later_trans c d e s a b = record { limits = b.limits ∙ a.limits; facts = λ f h. b.facts f (a.facts f h); alike = alike_trans (c.known s) (d.known s) (e.known s) a.alike b.alike }

pub reads_on : (c d : Core) (s : ℕ) → Reader c s → Later c d s → Reader d s
reads_on c d s r later = record { low = subst (λ (l : Limits). s < l.sessions) (sym later.limits) r.low; is_on = later.alike.is_on ∙ r.is_on; hand = later.alike.whole ∙ r.hand }

module _ (c : Core) (sound : Sound c) (s : ℕ) (reader : Reader c s) where
  -- a load changes neither the transaction nor what it sees
  look_alike : (p : Place) → Alike (c.known s) (look_at c.limits c.words (c.known s) p)
  look_alike ClockWord = alike_of (c.known s) (look_at c.limits c.words (c.known s) ClockWord) refl refl refl refl refl
      (let y = sound.views s reader.low in ap (take (c.known s).begin) y.prefix.1 ∙ take-append-le (c.known s).begin (c.known s).seen y.prefix.0 (y.begun reader.is_on))
  look_alike EpochWord = alike_of (c.known s) (look_at c.limits c.words (c.known s) EpochWord) refl refl refl refl refl refl
  look_alike RecordCounter = alike_of (c.known s) (look_at c.limits c.words (c.known s) RecordCounter) refl refl refl refl refl refl
  look_alike (StateWord j n) = alike_of (c.known s) (look_at c.limits c.words (c.known s) (StateWord j n)) refl refl refl refl refl refl
  look_alike (KeyWord r) = either (Alike (c.known s)) (gives_up (c.known s) r (c.words.keys r)) (given_up (c.known s)) (c.known s)
      (λ _. alike_of (c.known s) (given_up (c.known s)) refl refl refl refl refl refl) (λ _. alike_of (c.known s) (c.known s) refl refl refl refl refl refl)
  look_alike (IndexWord q) = alike_of (c.known s) (look_at c.limits c.words (c.known s) (IndexWord q)) refl refl refl refl refl refl
  look_alike (HeadWord r) = alike_of (c.known s) (look_at c.limits c.words (c.known s) (HeadWord r)) refl refl refl refl refl refl
  look_alike (TailCounter range) = alike_of (c.known s) (look_at c.limits c.words (c.known s) (TailCounter range)) refl refl refl refl refl refl
  look_alike (CellWord t p) = alike_of (c.known s) (look_at c.limits c.words (c.known s) (CellWord t p)) refl refl refl refl refl refl
  look_alike (PostingWord column q) = alike_of (c.known s) (look_at c.limits c.words (c.known s) (PostingWord column q)) refl refl refl refl refl refl
  look_alike CommitWord = alike_of (c.known s) (c.known s) refl refl refl refl refl refl
  look_alike (LogWord t) = alike_of (c.known s) (c.known s) refl refl refl refl refl refl
  look_alike (BeginWord j n) = alike_of (c.known s) (c.known s) refl refl refl refl refl refl
  look_alike (DirectoryWord column range) = alike_of (c.known s) (c.known s) refl refl refl refl refl refl
  look_alike (FrameWord f p) = alike_of (c.known s) (c.known s) refl refl refl refl refl refl
  look_alike (PinWord j) = alike_of (c.known s) (c.known s) refl refl refl refl refl refl

  reading_alike : (e : Event) → IsReading e → Alike (c.known s) (known_after c.limits c.words (c.known s) e)
  reading_alike (Look j a) is = look_alike (place_of c.limits a)
  reading_alike (Begin j b r) is = absurd is
  reading_alike (Take j) is = absurd is
  reading_alike (Log j) is = absurd is
  reading_alike (State j) is = absurd is
  reading_alike (Clock j) is = absurd is
  reading_alike (Give j) is = absurd is
  reading_alike (Close j) is = absurd is
  reading_alike (DrawRecord j) is = absurd is
  reading_alike (StoreKey j k) is = absurd is
  reading_alike (Claim j q) is = absurd is
  reading_alike (Latch j r) is = absurd is
  reading_alike (DrawTail j range) is = absurd is
  reading_alike (StoreCell j p x) is = absurd is
  reading_alike (Install j) is = absurd is
  reading_alike (Release j) is = absurd is
  reading_alike (Stamp j range n) is = alike_of (c.known s) (c.known s) refl refl refl refl refl refl
  reading_alike (Post j column q) is = absurd is

  own_alike : (e : Event) → (session_of e ≡ s → IsReading e) → Alike (c.known s) ((after_own c e).known s)
  own_alike e only = dite (ℕ_discrete s (session_of e))
      (λ same. subst (λ (u : Known). Alike (c.known s) u) (sym (ap ((after_own c e).known) same ∙ put_here c.known (session_of e) (known_after c.limits c.words (c.known (session_of e)) e)))
      (subst (λ (u : Known). Alike (c.known s) (known_after c.limits c.words u e)) (ap c.known same) (reading_alike e (only (sym same)))))
      (λ other. subst (λ (u : Known). Alike (c.known s) u) (sym (put_else c.known (session_of e) (known_after c.limits c.words (c.known (session_of e)) e) s other)) (alike_of (c.known s) (c.known s) refl refl refl refl refl refl))

  step_later : (e : Event) → IsWithin c.limits e → IsEnabled c e → (session_of e ≡ s → IsReading e) → Later c (after c e) s
  step_later e within ok only = let b : Bool = eqb (session_of e) c.limits.sessions in
      let limits : (after c e).limits ≡ c.limits = either (λ (d : Core). d.limits ≡ c.limits) b (after_merger c e) (after_own c e) (λ _. refl) (λ _. refl) in record {
        limits = limits;
        facts = λ f h. subst (λ (l : Limits). IsFact l (after c e).words f) (sym limits) ((steps_are_sound c sound e within ok).facts f h);
        alike = either (λ (d : Core). Alike (c.known s) (d.known s)) b (after_merger c e) (after_own c e) (λ _. alike_of (c.known s) (c.known s) refl refl refl refl refl refl) (λ _. own_alike e only);
      }

pub runs_go_on : RunsGoOn
runs_go_on c sound s reader [] d is only = (subst Sound is sound, subst (λ (x : Core). Later c x s) is (later_refl c s))
runs_go_on c sound s reader (e ∷ es) d run only = let next = step_later c sound s reader e run.0 run.1 only.0 in
    let rest = runs_go_on (after c e) (keeps c sound e run.0 run.1) s (reads_on c (after c e) s reader next) es d run.2 only.1 in (rest.0, later_trans c (after c e) d s next rest.1)

-- ---- all tails of a range, by number

-- the numbers above n are those from the top down that are greater
pub acts_above : {A : Type 0} (p : ℕ → Bool) (a : ℕ → A) (n m : ℕ) → acts p a (above n m) ≡ acts (λ t. nat_lt n t && p t) a (down (n + m))
acts_above p a n zero = sym (acts_none (λ t. nat_lt n t && p t) a (down (n + 0)) (λ t i. ap (λ (b : Bool). b && p t) (le-ltb n t (let h = low (n + 0) t i in omega arith))))
  where
    low : (k t : ℕ) → Has t (down k) → t ≤ k
    low zero t i = absurd i
    low (suc k) t (inl e) = omega arith
    low (suc k) t (inr i) = let h = low k t i in omega arith
acts_above {A} p a n (suc m) = let y : ℕ = suc (n + m) in subst (λ (x : ℕ). cond (p x) (acts p a (above n m) ++ a x ∷ []) (acts p a (above n m)) ≡ acts (λ t. nat_lt n t && p t) a (down x)) (let e : suc (n + m) ≡ n + suc m = omega arith in e)
    (ap (λ (l : List A). cond (p y) (l ++ a y ∷ []) l) (acts_above p a n m)
    ∙ ap (λ (b : Bool). cond (b && p y) (acts (λ t. nat_lt n t && p t) a (down (n + m)) ++ a y ∷ []) (acts (λ t. nat_lt n t && p t) a (down (n + m)))) (sym (lt-ltb n y (omega arith))))

pub links_head : (back : ℕ → ℕ) (h : ℕ) (ys : List ℕ) → Links back h ys → (h ≡ 0) ⊎ Has h ys
links_head back h [] l = inl l
links_head back h (x ∷ xs) l = inr (inl l.0)

module _ (c : Core) (sound : Sound c) (s : ℕ) (reader : Reader c s) (rec low m : ℕ) (moment : ℕ → Core) (told : ℕ → Bool) (below : rec < record_count c.limits) (looks : LooksAtTails c s rec low m moment told) where
  abbrev chain : List ℕ
  chain = line c.limits c.words rec

  abbrev seen_at : ℕ → Bool
  seen_at t = is_visible c.words (name_of s (c.known s).number) (c.known s).begin t

  abbrev taken : ℕ → Bool
  taken t = nat_lt low t && told t

  abbrev taken_at : ℕ → Bool
  taken_at t = nat_lt low t && seen_at t

  stays : (t : ℕ) → Has t chain → Stays c (moment t) s rec t
  stays t i = known_stays c (moment t) sound (looks.sound t) s reader (looks.later t) rec t below i

  most : (t : ℕ) → Has t chain → t ≤ low + m
  most t i = looks.all t (stays t i).drawn

  head_low : head_of c.limits rec (c.words.heads rec) ≤ low + m
  head_low = let h : ℕ = head_of c.limits rec (c.words.heads rec) in ⊎_elim (λ (none : h ≡ 0). omega (arith, none)) (λ (i : Has h chain). most h i) (links_head (back_in c.limits c.words.cells) h chain (sound.versions.lines rec below).links)

  -- what was told is on the chain
  told_on : (t : ℕ) → t ≤ low + m → taken t ≡ true → Has t chain
  told_on t high e = let both = both_say (nat_lt low t) (told t) e in let seen = (looks.is t (ltb-true low t both.0) high).0 both.1 in
      subst (λ (r : ℕ). Has t (line c.limits c.words r)) seen.1 (seen_known c (moment t) sound (looks.sound t) s reader (looks.later t) t seen.0).on

  -- and on the chain it is what is seen
  same_taken : (t : ℕ) → Has t chain → taken_at t ≡ taken t
  same_taken t i = here (nat_lt low t) refl
    where
      here : (b : Bool) → nat_lt low t ≡ b → taken_at t ≡ taken t
      here true e = ap (λ (x : Bool). nat_lt low t && x) (same_truth (seen_at t) (told t)
          (λ seen. (looks.is t (ltb-true low t e) (most t i)).1 (record { stored = (stays t i).stored; visible = (stays t i).visible ∙ seen }, (stays t i).here))
          (λ is. sym (stays t i).visible ∙ ((looks.is t (ltb-true low t e) (most t i)).0 is).0.visible))
      here false e = ap (λ (b : Bool). b && seen_at t) e ∙ sym (ap (λ (b : Bool). b && told t) e)

  tails_tell : acts told (act_then moment) (above low m) ≡ acts taken_at (act_in c.limits c.words.cells) chain
  tails_tell = acts_above told (act_then moment) low m
      ∙ (acts_all taken (act_then moment) (back_in c.limits c.words.cells) (low + m) (head_of c.limits rec (c.words.heads rec)) chain (sound.versions.lines rec below).links head_low told_on
      ∙ sym (acts_same taken taken_at (act_then moment) (act_in c.limits c.words.cells) chain same_taken (λ t i _. sym (stays t i).act)))

pub tails_tell_chains : TailsTellChains
tails_tell_chains c sound s reader rec low m moment told below looks = tails_tell c sound s reader rec low m moment told below looks

-- ---- where nobody has a tail in hand

drawn_on : (c : Core) (sound : Sound c) (range t rec : ℕ) → rec < record_count c.limits → Drawn c.limits c.words.counts range t → Has t (line c.limits c.words rec) → IsChained c range t
drawn_on c sound range t rec low drawn on = record {
  rec = rec;
  low = low;
  here = same;
  on = on;
  stored = stored;
  head = subst (λ (r : ℕ). t ≤ r * c.limits.tails + c.words.heads rec / 2) same below;
}
  where
    stored : 0 < c.words.cells t 0
    stored = (sound.versions.lines rec low).stored t on

    mine : Drawn c.limits c.words.counts (range_of rec) t
    mine = subst (λ (r : ℕ). Drawn c.limits c.words.counts (range_of r) t) ((sound.versions.lines rec low).here t on) (sound.versions.stored t stored).drawn

    same : range_of rec ≡ range
    same = one_range c.limits c.words c.known sound.sized sound.times sound.each sound.versions (range_of rec) range t mine.0 mine.1 drawn.0 drawn.1

    below : t ≤ range_of rec * c.limits.tails + c.words.heads rec / 2
    below = let most = links_low (back_in c.limits c.words.cells) (head_of c.limits rec (c.words.heads rec)) (line c.limits c.words rec) (sound.versions.lines rec low).links t on in
        dite (ℕ_discrete (c.words.heads rec / 2) 0)
        (λ none. let z : head_of c.limits rec (c.words.heads rec) ≡ 0 = ap (tail_at c.limits.tails (range_of rec)) none ∙ tail_at-none c.limits.tails (range_of rec) in let some = mine.0 in absurd (omega (arith, most, z, some)))
        (λ ne. let at = tail_at-some c.limits.tails (range_of rec) (c.words.heads rec / 2) (omega (arith, ne)) in omega (arith, most, at))

pub drawn_are_chained : DrawnAreChained
drawn_are_chained c sound none range t inside drawn = ⊎_elim
    (λ (q : (r : ℕ) × (r < record_count c.limits) × Has t (line c.limits c.words r)). drawn_on c sound range t q.0 q.1 drawn q.2)
    (λ (q : (s : ℕ) × (s < c.limits.sessions) × ((c.known s).hold.tail ≡ t)). absurd (let z = none q.0 q.1 in let e = q.2 in let some = drawn.0 in omega (arith, z, e, some)))
    (sound.listed.tails range t inside drawn)
