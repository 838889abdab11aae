-- What is so of the machine's store after every script, and that each commit follows those before it.
use Rattle.std.proofs.Common.{◌≡◌, ◌≢◌, ◌⊎◌, ⊎_elim, ℕ, suc, ◌+◌, ◌<◌, ◌≤◌, Bool, true, false, cond, List, [], ◌∷◌, ◌++◌, length, take, refl, sym, ap, ◌∙◌, subst, arith, inl, inr, eq-eqb}
use Rattle.std.proofs.lemmas.Bool.{eqb-true, ltb-true, ltb-false}
use Rattle.std.proofs.lemmas.List.{length-append, take-append-le}
use Rattle.std.specs.Prelude.{Option, Some, None, is_some, unwrap_or, nat_lt, ◌==◌, ◌&&◌, ◌/◌}
use Rattle.std.specs.List.{AllByRecursion}
use mathlib.Core.Logic.{dite}
use native.Mathlib.Decide.{ℕ_discrete}
use Rattle.lst_model.specs.declared.acts.Act.{Act}
use Rattle.lst_model.specs.declared.acts.Write.{Write}
use Rattle.lst_model.specs.declared.commits.Commit.{Commit}
use Rattle.lst_model.specs.declared.replies.Cause.TheVariants.{Newer, Unfinished}
use Rattle.lst_model.specs.Cells.{Cell}
use Rattle.lst_model.specs.Histories.{row_after, row_from, acts_on, all_acts_on}
use Rattle.lst_model.specs.Soundness.{Fits, FitInTurn, Follows, IsSound}
use Rattle.lst_model.proofs.Folds.{row_from-append}
use Rattle.lst_model.proofs.Fitting.{in_order}
use Rattle.lst_model.proofs.Sounding.{tails_alike, sound_snoc, none_sound}
use Rattle.lst_machine.specs.State.{Accepted, Opened, Store, opening_store}
use Rattle.lst_machine.specs.Writes.{put, put_in, is_placed, with_key, range_of, time_of, rival_of, conflict_at, conflict_with, conflict_of, accepted_below, last_where}
use Rattle.lst_machine.specs.Calls.{with_opened, with_placed, with_accepted, with_closed}
use Rattle.lst_machine.proofs.Appending.{or_last, time-append, time-front}
use Rattle.lst_machine.proofs.Places.{place_stays}
use Rattle.lst_machine.proofs.Acting.{acts_by, all_map, all_push, acts_found, acts_none, flat_none, part_none, put_here, put_else, longer, flat_same, flat_other, flat_more}
use Rattle.lst_machine.proofs.Ordering.{is_unclosed_on, AreSame, IsEarlier, StandsBefore, AreOrdered, HasRival, ordered_map, ordered_push, unclosed_parts, last_passes, rivals_all, rival_acts}

-- ---- what is so

-- a transaction that has ended, by its number: it is below the session's last, or it is the last and none is open
abbrev pub IsPast : (ℕ → ℕ) → (ℕ → Option Opened) → ℕ → ℕ → Type 0
IsPast begins opened s n = (n < begins s) ⊎ ((n ≡ begins s) × (opened s ≡ None))

-- a write's transaction was closed, or committed, or is open
abbrev pub HasState : List Commit → (ℕ → ℕ) → (ℕ → Option Opened) → (ℕ → ℕ → Bool) → Accepted → Type 0
HasState history begins opened closed a = (closed a.session a.number ≡ true) ⊎ (((time : ℕ) × (time_of history a.session a.number ≡ Some time)) ⊎ ((a.number ≡ begins a.session) × (is_some (opened a.session) ≡ true)))

pub record IsLive (history : List Commit) (begins : ℕ → ℕ) (opened : ℕ → Option Opened) (closed : ℕ → ℕ → Bool) (a : Accepted) : Type 0 where
  begun : a.number ≤ begins a.session
  state : HasState history begins opened closed a

-- a write stands in the range of its key
pub record IsHome (keys : List ℕ) (place : ℕ) (a : Accepted) : Type 0 where
  placed : is_placed keys a.write.key ≡ true
  range : range_of keys a.write.key ≡ place

-- the commit at a time has the writes that its transaction made
pub record IsKept (history : List Commit) (begins : ℕ → ℕ) (opened : ℕ → Option Opened) (closed : ℕ → ℕ → Bool) (writes : List Accepted) (place : ℕ) (commit : Commit) : Type 0 where
  acts : (key : ℕ) → acts_on key commit.writes ≡ acts_by commit.session commit.number key writes
  time : time_of history commit.session commit.number ≡ Some place
  shut : closed commit.session commit.number ≡ false
  past : IsPast begins opened commit.session commit.number

-- a transaction may commit: no commit after its begin wrote its keys, and its acts fit what it saw
pub record MayCommit (history : List Commit) (writes : List Accepted) (s n begin : ℕ) : Type 0 where
  known : begin ≤ length history
  apart : (before : List Commit) (commit : Commit) (after : List Commit) → history ≡ before ++ commit ∷ after → begin < length before + 1 → (key : ℕ) → (acts_on key commit.writes ≡ []) ⊎ (acts_by s n key writes ≡ [])
  fits : (key : ℕ) → FitInTurn (row_from None (all_acts_on key (take begin history))) (acts_by s n key writes)

pub record IsSoundStore (ranges : ℕ) (store : Store) : Type 0 where
  pub sound : IsSound store.history
  home : (range : ℕ) → AllByRecursion (IsHome store.placed range) (store.accepted range)
  ordered : (range : ℕ) → AreOrdered store.history store.closed (store.accepted range)
  live : (range : ℕ) → AllByRecursion (IsLive store.history store.begins store.opened store.closed) (store.accepted range)
  shut : (s n : ℕ) → store.closed s n ≡ true → IsPast store.begins store.opened s n
  commits : (before : List Commit) (commit : Commit) (after : List Commit) → store.history ≡ before ++ commit ∷ after
      → IsKept store.history store.begins store.opened store.closed (accepted_below store.accepted ranges) (length before + 1) commit
  running : (s : ℕ) (transaction : Opened) → store.opened s ≡ Some transaction → MayCommit store.history (accepted_below store.accepted ranges) s (store.begins s) transaction.begin

not_split : (front : List Commit) (commit : Commit) (rest : List Commit) → [] ≡ front ++ commit ∷ rest → ⊥
not_split [] commit rest same = cc
not_split (first ∷ front) commit rest same = cc

below_none : (ranges : ℕ) (s n key : ℕ) → acts_by s n key (accepted_below (λ range. []) ranges) ≡ []
below_none ranges s n key = flat_none s n key (λ range. []) ranges (λ range. refl)

pub opening_sound : (ranges : ℕ) → IsSoundStore ranges opening_store
opening_sound ranges = record {
  sound = none_sound;
  home = λ range. tt;
  ordered = λ range. tt;
  live = λ range. tt;
  shut = λ s n e. cc;
  commits = λ before commit after e. absurd (not_split before commit after e);
  running = λ s transaction e. cc;
}

none_some : (o : Option Opened) → o ≡ None → is_some o ≡ true → ⊥
none_some None e f = cc
none_some (Some t) e f = cc

-- ---- a key gets its record

home_stays : (placed : List ℕ) (key range : ℕ) (a : Accepted) → IsHome placed range a → IsHome (with_key placed key) range a
home_stays placed key range a is = record {
  placed = ap is_some (place_stays placed key a.write.key is.placed) ∙ is.placed;
  range = (let same = place_stays placed key a.write.key is.placed in λ i. range_at (same i)) ∙ is.range;
}
  where
    range_at : Option ℕ → ℕ
    range_at p = unwrap_or p 0 / 256

pub placed_sound : (ranges : ℕ) (store : Store) (key : ℕ) → IsSoundStore ranges store → IsSoundStore ranges (with_placed store key)
placed_sound ranges store key is = record {
  sound = is.sound;
  home = λ range. all_map (home_stays store.placed key range) (store.accepted range) (is.home range);
  ordered = is.ordered;
  live = is.live;
  shut = is.shut;
  commits = is.commits;
  running = is.running;
}

-- ---- a begin

module _ (ranges : ℕ) (store : Store) (is : IsSoundStore ranges store) (s begin : ℕ) (read_only : Bool) (none : store.opened s ≡ None) (known : begin ≤ length store.history) where
  abbrev now : Opened
  now = record { begin = begin; read_only = read_only }

  abbrev begins' : ℕ → ℕ
  begins' = put store.begins s (store.begins s + 1)

  abbrev opened' : ℕ → Option Opened
  opened' = put store.opened s (Some now)

  past_begun : (t n : ℕ) → IsPast store.begins store.opened t n → IsPast begins' opened' t n
  past_begun t n past = dite (ℕ_discrete t s)
      (λ e. subst (λ (y : ℕ). IsPast begins' opened' y n) (sym e) (inl (subst (λ (m : ℕ). n < m) (sym (put_here store.begins s (store.begins s + 1))) (below (subst (λ (y : ℕ). IsPast store.begins store.opened y n) e past)))))
      (λ other. subst (λ (m : ℕ). (n < m) ⊎ ((n ≡ m) × (opened' t ≡ None))) (sym (put_else store.begins s (store.begins s + 1) t other))
      (subst (λ (o : Option Opened). (n < store.begins t) ⊎ ((n ≡ store.begins t) × (o ≡ None))) (sym (put_else store.opened s (Some now) t other)) past))
    where
      below : IsPast store.begins store.opened s n → n < store.begins s + 1
      below (inl f) = omega arith
      below (inr f) = let g = f.0 in omega arith

  live_begun : (a : Accepted) → IsLive store.history store.begins store.opened store.closed a → IsLive store.history begins' opened' store.closed a
  live_begun a live = dite (ℕ_discrete a.session s)
      (λ e. record {
        begun = subst (λ (m : ℕ). a.number ≤ m) (sym (ap begins' e ∙ put_here store.begins s (store.begins s + 1))) (let b = subst (λ (y : ℕ). a.number ≤ store.begins y) e live.begun in omega arith);
        state = ended live.state e;
      })
      (λ other. record {
        begun = subst (λ (m : ℕ). a.number ≤ m) (sym (put_else store.begins s (store.begins s + 1) a.session other)) live.begun;
        state = subst (λ (m : ℕ). (store.closed a.session a.number ≡ true) ⊎ (((time : ℕ) × (time_of store.history a.session a.number ≡ Some time)) ⊎ ((a.number ≡ m) × (is_some (opened' a.session) ≡ true)))) (sym (put_else store.begins s (store.begins s + 1) a.session other))
            (subst (λ (o : Option Opened). (store.closed a.session a.number ≡ true) ⊎ (((time : ℕ) × (time_of store.history a.session a.number ≡ Some time)) ⊎ ((a.number ≡ store.begins a.session) × (is_some o ≡ true)))) (sym (put_else store.opened s (Some now) a.session other)) live.state);
      })
    where
      ended : HasState store.history store.begins store.opened store.closed a → a.session ≡ s → HasState store.history begins' opened' store.closed a
      ended (inl f) e = inl f
      ended (inr (inl f)) e = inr (inl f)
      ended (inr (inr f)) e = absurd (none_some (store.opened a.session) (ap store.opened e ∙ none) f.1)

  fresh : (key : ℕ) → acts_by s (store.begins s + 1) key (accepted_below store.accepted ranges) ≡ []
  fresh key = flat_none s (store.begins s + 1) key store.accepted ranges (λ range. acts_none s (store.begins s + 1) key (store.accepted range)
      (all_map (λ a live e f g. let b = subst (λ (y : ℕ). a.number ≤ store.begins y) e live.begun in omega (arith, b, f)) (store.accepted range) (is.live range)))

  open_begun : (t : ℕ) (transaction : Opened) → opened' t ≡ Some transaction → MayCommit store.history (accepted_below store.accepted ranges) t (begins' t) transaction.begin
  open_begun t transaction e = dite (ℕ_discrete t s)
      (λ same. let now_is : now ≡ transaction = some_same (sym (ap opened' same ∙ put_here store.opened s (Some now)) ∙ e) in
      subst (λ (x : Opened). MayCommit store.history (accepted_below store.accepted ranges) t (begins' t) x.begin) now_is
      (subst (λ (n : ℕ). MayCommit store.history (accepted_below store.accepted ranges) t n begin) (sym (ap begins' same ∙ put_here store.begins s (store.begins s + 1)))
      (subst (λ (y : ℕ). MayCommit store.history (accepted_below store.accepted ranges) y (store.begins s + 1) begin) (sym same) record {
        known = known;
        apart = λ before commit after is late key. inr (fresh key);
        fits = λ key. subst (FitInTurn (row_from None (all_acts_on key (take begin store.history)))) (sym (fresh key)) tt;
      })))
      (λ other. subst (λ (n : ℕ). MayCommit store.history (accepted_below store.accepted ranges) t n transaction.begin) (sym (put_else store.begins s (store.begins s + 1) t other))
      (is.running t transaction (sym (put_else store.opened s (Some now) t other) ∙ e)))
    where
      some_same : Some now ≡ Some transaction → now ≡ transaction
      some_same f = cc

  pub begun_sound : IsSoundStore ranges (with_opened store s begin read_only)
  begun_sound = record {
    sound = is.sound;
    home = is.home;
    ordered = is.ordered;
    live = λ range. all_map live_begun (store.accepted range) (is.live range);
    shut = λ t n e. past_begun t n (is.shut t n e);
    commits = λ before commit after e. let k = is.commits before commit after e in record { acts = k.acts; time = k.time; shut = k.shut; past = past_begun commit.session commit.number k.past };
    running = open_begun;
  }

-- ---- homes

home_none : (ranges : ℕ) (store : Store) → IsSoundStore ranges store → (s n key other : ℕ) → other ≢ range_of store.placed key → acts_by s n key (store.accepted other) ≡ []
home_none ranges store is s n key other apart = acts_none s n key (store.accepted other)
    (all_map (λ a home e f g. apart (sym home.range ∙ ap (range_of store.placed) g)) (store.accepted other) (is.home other))

-- ---- an open transaction

time_none : (history : List Commit) (s n : ℕ) → ((before : List Commit) (commit : Commit) (after : List Commit) → history ≡ before ++ commit ∷ after → commit.session ≡ s → commit.number ≢ n) → time_of history s n ≡ None
time_none [] s n apart = refl
time_none (first ∷ history) s n apart = at (first.session == s) refl (first.number == n) refl (time_none history s n (λ before commit after e. apart (first ∷ before) commit after (ap (λ h. first ∷ h) e)))
  where
    at : (b : Bool) → (first.session == s) ≡ b → (c : Bool) → (first.number == n) ≡ c → time_of history s n ≡ None → time_of (first ∷ history) s n ≡ None
    at true e true f rest = absurd (apart [] first history refl (eqb-true _ _ e) (eqb-true _ _ f))
    at true e false f rest = rw (e, f, rest) refl
    at false e c f rest = rw (e, rest) refl

time_low : (history : List Commit) (s n time : ℕ) → time_of history s n ≡ Some time → time ≤ length history
time_low [] s n time e = cc
time_low (first ∷ history) s n time e = at (first.session == s && first.number == n) refl (time_of history s n) refl (time_low history s n)
  where
    at : (b : Bool) → (first.session == s && first.number == n) ≡ b → (o : Option ℕ) → time_of history s n ≡ o → ((t : ℕ) → time_of history s n ≡ Some t → t ≤ length history) → time ≤ suc (length history)
    at true is o f low = let here : time_of (first ∷ history) s n ≡ Some 1 = rw is refl in let g : 1 ≡ time = cc (here, e) in omega arith
    at false is (Some t) f low = let here : time_of (first ∷ history) s n ≡ Some (t + 1) = rw (is, f) refl in let g : t + 1 ≡ time = cc (here, e) in let l = low t f in omega arith
    at false is None f low = let here : time_of (first ∷ history) s n ≡ None = rw (is, f) refl in absurd (cc (here, e))

fit_push : (row : Option (List Cell)) (acts : List Act) (act : Act) → FitInTurn row acts → Fits (row_from row acts) act → FitInTurn row (acts ++ act ∷ [])
fit_push row [] act turns fits = (fits, tt)
fit_push row (x ∷ acts) act turns fits = (turns.0, fit_push (row_after row x) acts act turns.1 fits)

take_front : {A : Type 0} (n : ℕ) (xs ys : List A) → n ≤ length xs → take n (xs ++ ys) ≡ take n xs
take_front n xs ys low = take-append-le n xs ys low

decide_acts : (acts : List Act) → (acts ≡ []) ⊎ (acts ≢ [])
decide_acts [] = inl refl
decide_acts (act ∷ acts) = inr (λ e. cc)

is_some_of : (o : Option Opened) (t : Opened) → o ≡ Some t → is_some o ≡ true
is_some_of (Some u) t e = refl
is_some_of None t e = cc

module _ (ranges : ℕ) (store : Store) (is : IsSoundStore ranges store) (s : ℕ) (transaction : Opened) (some : store.opened s ≡ Some transaction) where
  never_past : IsPast store.begins store.opened s (store.begins s) → ⊥
  never_past (inl f) = omega arith
  never_past (inr f) = none_some (store.opened s) f.1 (is_some_of (store.opened s) transaction some)

  is_unclosed : store.closed s (store.begins s) ≡ false
  is_unclosed = at (store.closed s (store.begins s)) refl
    where
      at : (b : Bool) → store.closed s (store.begins s) ≡ b → b ≡ false
      at true e = absurd (never_past (is.shut s (store.begins s) e))
      at false e = refl

  is_below : (m : ℕ) → IsPast store.begins store.opened s m → m < (store.begins s)
  is_below m (inl f) = f
  is_below m (inr f) = absurd (none_some (store.opened s) f.1 (is_some_of (store.opened s) transaction some))

  is_other : (t m : ℕ) → IsPast store.begins store.opened t m → t ≡ s → m ≢ (store.begins s)
  is_other t m past e f = let low = is_below m (subst (λ (y : ℕ). IsPast store.begins store.opened y m) e past) in omega (arith, f, low)

  is_uncommitted : time_of store.history s (store.begins s) ≡ None
  is_uncommitted = time_none store.history s (store.begins s) (λ before commit after e same. is_other commit.session commit.number (is.commits before commit after e).past same)

module _ (ranges : ℕ) (store : Store) (is : IsSoundStore ranges store) (s : ℕ) (transaction : Opened) (some : store.opened s ≡ Some transaction) where
  abbrev n : ℕ
  n = store.begins s

  abbrev flat : List Accepted
  flat = accepted_below store.accepted ranges

  here : MayCommit store.history flat s n transaction.begin
  here = is.running s transaction some

  unclosed : store.closed s n ≡ false
  unclosed = is_unclosed ranges store is s transaction some

  uncommitted : time_of store.history s n ≡ None
  uncommitted = is_uncommitted ranges store is s transaction some

  past_below : (m : ℕ) → IsPast store.begins store.opened s m → m < n
  past_below = is_below ranges store is s transaction some

  past_other : (t m : ℕ) → IsPast store.begins store.opened t m → t ≡ s → m ≢ n
  past_other = is_other ranges store is s transaction some

  -- ---- a write is accepted

  module _ (key : ℕ) (act : Act) (placed : is_placed store.placed key ≡ true) (free : conflict_of store s transaction.begin key ≡ None) (fits : Fits (row_from None (all_acts_on key (take transaction.begin store.history) ++ acts_by s n key flat)) act) where
    abbrev range : ℕ
    range = range_of store.placed key

    abbrev w : Accepted
    w = record { session = s; number = n; write = record { key = key; act = act } }

    abbrev accepted' : ℕ → List Accepted
    accepted' = longer store.accepted range w

    abbrev flat' : List Accepted
    flat' = accepted_below accepted' ranges

    at_range : (P : ℕ → List Accepted → Type 0) → ((r : ℕ) → P r (store.accepted r)) → P range (store.accepted range ++ w ∷ []) → (r : ℕ) → P r (accepted' r)
    at_range P all more r = dite (ℕ_discrete r range)
        (λ e. subst (λ (y : ℕ). P y (accepted' y)) (sym e) (subst (P range) (sym (put_here store.accepted range (store.accepted range ++ w ∷ []))) more))
        (λ other. subst (P r) (sym (put_else store.accepted range (store.accepted range ++ w ∷ []) r other)) (all r))

    -- what the rival says of a write on the key
    abbrev IsClear : Accepted → Type 0
    IsClear a = a.write.key ≡ key → store.closed a.session a.number ≡ false → ((a.session ≡ s) × (a.number ≡ n)) ⊎ ((time : ℕ) × (time_of store.history a.session a.number ≡ Some time) × ((time ≤ transaction.begin) ⊎ (acts_by s n key (store.accepted range) ≢ [])))

    rival_clear : (r : Accepted) → rival_of store key ≡ Some r → IsLive store.history store.begins store.opened store.closed r → store.closed r.session r.number ≡ false
        → ((r.session ≡ s) × (r.number ≡ n) × (time_of store.history r.session r.number ≡ None)) ⊎ ((time : ℕ) × (time_of store.history r.session r.number ≡ Some time) × (time ≤ transaction.begin))
    rival_clear r e live shut = at (time_of store.history r.session r.number) refl
      where
        none : conflict_at s transaction.begin r (time_of store.history r.session r.number) ≡ None
        none = sym (ap (conflict_with store.history s transaction.begin) e) ∙ free

        low : (time : ℕ) (b : Bool) → nat_lt transaction.begin time ≡ b → cond b (Some (Newer time)) None ≡ None → time ≤ transaction.begin
        low time true is e = cc
        low time false is e = ltb-false _ _ is

        own : (b : Bool) → (r.session == s) ≡ b → cond b None (Some (Unfinished r.session r.number)) ≡ None → r.session ≡ s
        own true is e = eqb-true _ _ is
        own false is e = cc

        at : (o : Option ℕ) → time_of store.history r.session r.number ≡ o
            → ((r.session ≡ s) × (r.number ≡ n) × (time_of store.history r.session r.number ≡ None)) ⊎ ((time : ℕ) × (time_of store.history r.session r.number ≡ Some time) × (time ≤ transaction.begin))
        at (Some time) is = inr (time, is, low time (nat_lt transaction.begin time) refl (sym (ap (conflict_at s transaction.begin r) is) ∙ none))
        at None is =
            let mine : r.session ≡ s = own (r.session == s) refl (sym (ap (conflict_at s transaction.begin r) is) ∙ none) in
            inl (mine, number live.state ∙ ap store.begins mine, is)
          where
            number : HasState store.history store.begins store.opened store.closed r → r.number ≡ store.begins r.session
            number (inl f) = let g : true ≡ false = sym f ∙ shut in cc
            number (inr (inl f)) = let g : None ≡ Some f.0 = sym is ∙ f.1 in cc
            number (inr (inr f)) = f.0

    clear_of : (a : Accepted) → HasRival store.history store.closed key (store.accepted range) a → IsClear a
    clear_of a has e shut = by_rival (has e shut)
      where
        later : (r : Accepted) → rival_of store key ≡ Some r → AreSame a r ⊎ IsEarlier store.history a r
            → ((r.session ≡ s) × (r.number ≡ n) × (time_of store.history r.session r.number ≡ None)) ⊎ ((time : ℕ) × (time_of store.history r.session r.number ≡ Some time) × (time ≤ transaction.begin))
            → ((a.session ≡ s) × (a.number ≡ n)) ⊎ ((time : ℕ) × (time_of store.history a.session a.number ≡ Some time) × ((time ≤ transaction.begin) ⊎ (acts_by s n key (store.accepted range) ≢ [])))
        later r is (inl same) (inl own) = inl (same.0 ∙ own.0, same.1 ∙ own.1)
        later r is (inl same) (inr done) = inr (done.0, (λ i. time_of store.history (same.0 i) (same.1 i)) ∙ done.1, inl done.2)
        later r is (inr first) (inl own) = inr (first.0, first.1, inr (λ none. rival_acts store.history store.closed key (store.accepted range) r is ((λ i. acts_by (own.0 i) (own.1 i) key (store.accepted range)) ∙ none)))
        later r is (inr first) (inr done) = inr (first.0, first.1, inl (let below = first.2 done.0 done.1 in let low = done.2 in omega arith))

        by_rival : (r : Accepted) × (last_where (is_unclosed_on store.closed key) (store.accepted range) ≡ Some r) × (AreSame a r ⊎ IsEarlier store.history a r)
            → ((a.session ≡ s) × (a.number ≡ n)) ⊎ ((time : ℕ) × (time_of store.history a.session a.number ≡ Some time) × ((time ≤ transaction.begin) ⊎ (acts_by s n key (store.accepted range) ≢ [])))
        by_rival found =
            let last = last_passes (IsLive store.history store.begins store.opened store.closed) (is_unclosed_on store.closed key) (store.accepted range) (is.live range) found.0 found.1 in
            later found.0 found.1 found.2 (rival_clear found.0 found.1 last.0 (unclosed_parts (store.closed found.0.session found.0.number) found.0.write.key key last.1).1)

    all_clear : AllByRecursion IsClear (store.accepted range)
    all_clear = all_map clear_of (store.accepted range) (rivals_all store.history store.closed key (store.accepted range) (is.ordered range))

    behind : AllByRecursion (λ (a : Accepted). StandsBefore store.history store.closed a w) (store.accepted range)
    behind = all_map (λ a clear same shut fresh_now. ⊎_elim (λ (own : (a.session ≡ s) × (a.number ≡ n)). inl own)
        (λ (done : (time : ℕ) × (time_of store.history a.session a.number ≡ Some time) × ((time ≤ transaction.begin) ⊎ (acts_by s n key (store.accepted range) ≢ []))). inr (done.0, done.1, λ later is. let no : None ≡ Some later = sym uncommitted ∙ is in absurd (cc))) (clear same shut)) (store.accepted range) all_clear

    grown : (q : ℕ) → (acts_by s n q flat' ≡ acts_by s n q flat) ⊎ ((q ≡ key) × (acts_by s n q flat' ≡ acts_by s n q flat ++ act ∷ []) × (range < ranges))
    grown q = dite (ℕ_discrete q key)
        (λ e. at e (nat_lt range ranges) refl)
        (λ other. inl (flat_other store.accepted range w s n q (λ e f g. other (sym g)) ranges))
      where
        at : q ≡ key → (b : Bool) → nat_lt range ranges ≡ b → (acts_by s n q flat' ≡ acts_by s n q flat) ⊎ ((q ≡ key) × (acts_by s n q flat' ≡ acts_by s n q flat ++ act ∷ []) × (range < ranges))
        at e true low = inr (e, flat_more store.accepted range w s n q act refl refl (sym e) refl (λ other apart. home_none ranges store is s n q other (λ f. apart (f ∙ ap (range_of store.placed) e))) ranges (ltb-true _ _ low), ltb-true _ _ low)
        at e false high = inl (ap (acts_by s n q) (flat_same store.accepted range w ranges (ltb-false _ _ high)))

    own_fits : (q : ℕ) → FitInTurn (row_from None (all_acts_on q (take transaction.begin store.history))) (acts_by s n q flat')
    own_fits q = ⊎_elim
        (λ (same : acts_by s n q flat' ≡ acts_by s n q flat). subst (FitInTurn (row_from None (all_acts_on q (take transaction.begin store.history)))) (sym same) (here.fits q))
        (λ (more : (q ≡ key) × (acts_by s n q flat' ≡ acts_by s n q flat ++ act ∷ []) × (range < ranges)).
        subst (FitInTurn (row_from None (all_acts_on q (take transaction.begin store.history)))) (sym more.1)
        (fit_push (row_from None (all_acts_on q (take transaction.begin store.history))) (acts_by s n q flat) act (here.fits q)
        (subst (λ (row : Option (List Cell)). Fits row act) (row_from-append None (all_acts_on q (take transaction.begin store.history)) (acts_by s n q flat))
        (subst (λ (k : ℕ). Fits (row_from None (all_acts_on k (take transaction.begin store.history) ++ acts_by s n k flat)) act) (sym more.0) fits))))
        (grown q)

    -- a commit after the begin has no write on the key
    untouched : (before : List Commit) (commit : Commit) (after : List Commit) → store.history ≡ before ++ commit ∷ after → transaction.begin < length before + 1 → range < ranges → acts_by s n key flat ≡ [] → acts_on key commit.writes ≡ []
    untouched before commit after e late low none = kept.acts key ∙ ⊎_elim
        (λ (empty : acts_by commit.session commit.number key (store.accepted range) ≡ []). flat_none commit.session commit.number key store.accepted ranges
        (λ r. dite (ℕ_discrete r range) (λ same. ap (λ y. acts_by commit.session commit.number key (store.accepted y)) same ∙ empty) (λ other. home_none ranges store is commit.session commit.number key r other)))
        (λ (found : (a : Accepted) × IsClear a × (a.session ≡ commit.session) × (a.number ≡ commit.number) × (a.write.key ≡ key)). absurd (wrong found.0 found.2 found.3 (found.1 found.4 ((λ i. store.closed (found.2 i) (found.3 i)) ∙ kept.shut))))
        (acts_found commit.session commit.number key (store.accepted range) all_clear)
      where
        kept : IsKept store.history store.begins store.opened store.closed flat (length before + 1) commit
        kept = is.commits before commit after e

        wrong : (a : Accepted) → a.session ≡ commit.session → a.number ≡ commit.number
            → ((a.session ≡ s) × (a.number ≡ n)) ⊎ ((time : ℕ) × (time_of store.history a.session a.number ≡ Some time) × ((time ≤ transaction.begin) ⊎ (acts_by s n key (store.accepted range) ≢ []))) → ⊥
        wrong a f g (inl own) = past_other commit.session commit.number kept.past (sym f ∙ own.0) (sym g ∙ own.1)
        wrong a f g (inr done) = by_time done.2
          where
            times : Some done.0 ≡ Some (length before + 1)
            times = sym done.1 ∙ (λ i. time_of store.history (f i) (g i)) ∙ kept.time

            by_time : (done.0 ≤ transaction.begin) ⊎ (acts_by s n key (store.accepted range) ≢ []) → ⊥
            by_time (inl few) = let same : done.0 ≡ length before + 1 = cc times in omega arith
            by_time (inr own) = own (part_none s n key store.accepted ranges range low none)

    own_apart : (before : List Commit) (commit : Commit) (after : List Commit) → store.history ≡ before ++ commit ∷ after → transaction.begin < length before + 1 → (q : ℕ) → (acts_on q commit.writes ≡ []) ⊎ (acts_by s n q flat' ≡ [])
    own_apart before commit after e late q = at (here.apart before commit after e late q) (grown q)
      where
        at : (acts_on q commit.writes ≡ []) ⊎ (acts_by s n q flat ≡ []) → (acts_by s n q flat' ≡ acts_by s n q flat) ⊎ ((q ≡ key) × (acts_by s n q flat' ≡ acts_by s n q flat ++ act ∷ []) × (range < ranges))
            → (acts_on q commit.writes ≡ []) ⊎ (acts_by s n q flat' ≡ [])
        at (inl none) g = inl none
        at (inr none) (inl same) = inr (same ∙ none)
        at (inr none) (inr more) = inl (ap (λ k. acts_on k commit.writes) more.0 ∙ untouched before commit after e late more.2 (ap (λ k. acts_by s n k flat) (sym more.0) ∙ none))

    open_accepted : (t : ℕ) (other : Opened) → store.opened t ≡ Some other → MayCommit store.history flat' t (store.begins t) other.begin
    open_accepted t other e = dite (ℕ_discrete t s)
        (λ same. subst (λ (y : ℕ). MayCommit store.history flat' y (store.begins y) other.begin) (sym same)
        (subst (λ (x : Opened). MayCommit store.history flat' s n x.begin) (alike same) record { known = here.known; apart = own_apart; fits = own_fits }))
        (λ apart. let old = is.running t other e in let as_before : (q : ℕ) → acts_by t (store.begins t) q flat' ≡ acts_by t (store.begins t) q flat = λ q. flat_other store.accepted range w t (store.begins t) q (λ f g h. apart (sym f)) ranges in record {
          known = old.known;
          apart = λ before commit after f late q. ⊎_elim (λ (none : acts_on q commit.writes ≡ []). inl none) (λ (none : acts_by t (store.begins t) q flat ≡ []). inr (as_before q ∙ none)) (old.apart before commit after f late q);
          fits = λ q. subst (FitInTurn (row_from None (all_acts_on q (take other.begin store.history)))) (sym (as_before q)) (old.fits q);
        })
      where
        alike : t ≡ s → transaction ≡ other
        alike same = let both : Some transaction ≡ Some other = sym some ∙ ap store.opened (sym same) ∙ e in cc

    pub accepted_sound : IsSoundStore ranges (with_accepted store s key act)
    accepted_sound = record {
      sound = is.sound;
      home = at_range (λ r xs. AllByRecursion (IsHome store.placed r) xs) is.home (all_push (IsHome store.placed range) (store.accepted range) w (is.home range) record { placed = placed; range = refl });
      ordered = at_range (λ r xs. AreOrdered store.history store.closed xs) is.ordered (ordered_push store.history store.closed (store.accepted range) w (is.ordered range) behind);
      live = at_range (λ r xs. AllByRecursion (IsLive store.history store.begins store.opened store.closed) xs) is.live
          (all_push (IsLive store.history store.begins store.opened store.closed) (store.accepted range) w (is.live range) record { begun = omega arith; state = inr (inr (refl, is_some_of (store.opened s) transaction some)) });
      shut = is.shut;
      commits = λ before commit after e. let kept = is.commits before commit after e in record {
        acts = λ q. kept.acts q ∙ sym (flat_other store.accepted range w commit.session commit.number q (λ f g h. past_other commit.session commit.number kept.past (sym f) (sym g)) ranges);
        time = kept.time;
        shut = kept.shut;
        past = kept.past;
      };
      running = open_accepted;
    }

  -- ---- the transaction ends

  abbrev ended : ℕ → Option Opened
  ended = put store.opened s None

  past_ended : (t m : ℕ) → IsPast store.begins store.opened t m → IsPast store.begins ended t m
  past_ended t m (inl f) = inl f
  past_ended t m (inr f) = inr (f.0, dite (ℕ_discrete t s) (λ e. ap ended e ∙ put_here store.opened s None) (λ other. put_else store.opened s None t other ∙ f.1))

  still_open : (t : ℕ) (other : Opened) → ended t ≡ Some other → (t ≢ s) × (store.opened t ≡ Some other)
  still_open t other e = dite (ℕ_discrete t s)
      (λ same. let no : None ≡ Some other = sym (ap ended same ∙ put_here store.opened s None) ∙ e in absurd (cc))
      (λ apart. (apart, sym (put_else store.opened s None t apart) ∙ e))

  -- ---- without a commit

  abbrev closed' : ℕ → ℕ → Bool
  closed' = put_in store.closed s n true

  closed_now : closed' s n ≡ true
  closed_now = ap (λ (f : ℕ → Bool). f n) (put_here store.closed s (put (store.closed s) n true)) ∙ put_here (store.closed s) n true

  closed_else : (t m : ℕ) → (t ≡ s → m ≢ n) → closed' t m ≡ store.closed t m
  closed_else t m apart = dite (ℕ_discrete t s)
      (λ e. subst (λ (y : ℕ). closed' y m ≡ store.closed y m) (sym e) (ap (λ (f : ℕ → Bool). f m) (put_here store.closed s (put (store.closed s) n true)) ∙ put_else (store.closed s) n true m (apart e)))
      (λ other. ap (λ (f : ℕ → Bool). f m) (put_else store.closed s (put (store.closed s) n true) t other))

  closed_more : (t m : ℕ) → store.closed t m ≡ true → closed' t m ≡ true
  closed_more t m e = dite (ℕ_discrete t s)
      (λ same. dite (ℕ_discrete m n) (λ last. (λ i. closed' (same i) (last i)) ∙ closed_now) (λ apart. closed_else t m (λ f. apart) ∙ e))
      (λ other. closed_else t m (λ f. absurd (other f)) ∙ e)

  closed_before : (t m : ℕ) → closed' t m ≡ false → store.closed t m ≡ false
  closed_before t m e = at (store.closed t m) refl
    where
      at : (b : Bool) → store.closed t m ≡ b → b ≡ false
      at true f = let no : true ≡ false = sym (closed_more t m f) ∙ e in cc
      at false f = refl

  live_closed : (a : Accepted) → IsLive store.history store.begins store.opened store.closed a → IsLive store.history store.begins ended closed' a
  live_closed a live = record { begun = live.begun; state = at live.state }
    where
      at : HasState store.history store.begins store.opened store.closed a → HasState store.history store.begins ended closed' a
      at (inl f) = inl (closed_more a.session a.number f)
      at (inr (inl f)) = inr (inl f)
      at (inr (inr f)) = dite (ℕ_discrete a.session s)
          (λ e. inl ((λ i. closed' (e i) ((f.0 ∙ ap store.begins e) i)) ∙ closed_now))
          (λ other. inr (inr (f.0, ap is_some (put_else store.opened s None a.session other) ∙ f.1)))

  shut_closed : (t m : ℕ) → closed' t m ≡ true → IsPast store.begins ended t m
  shut_closed t m e = dite (ℕ_discrete t s)
      (λ same. dite (ℕ_discrete m n)
      (λ last. inr (last ∙ ap store.begins (sym same), ap ended same ∙ put_here store.opened s None))
      (λ apart. past_ended t m (is.shut t m (sym (closed_else t m (λ f. apart)) ∙ e))))
      (λ other. past_ended t m (is.shut t m (sym (closed_else t m (λ f. absurd (other f))) ∙ e)))

  pub closed_sound : IsSoundStore ranges (with_closed store s)
  closed_sound = record {
    sound = is.sound;
    home = is.home;
    ordered = λ range. ordered_map store.history store.history store.closed closed' (λ a b stands e f g. stands e (closed_before a.session a.number f) (closed_before b.session b.number g)) (store.accepted range) (is.ordered range);
    live = λ range. all_map live_closed (store.accepted range) (is.live range);
    shut = shut_closed;
    commits = λ before commit after e. let kept = is.commits before commit after e in record {
      acts = kept.acts;
      time = kept.time;
      shut = closed_else commit.session commit.number (past_other commit.session commit.number kept.past) ∙ kept.shut;
      past = past_ended commit.session commit.number kept.past;
    };
    running = λ t other e. is.running t other (still_open t other e).1;
  }

  -- ---- with a commit

  -- of two open transactions one has no act on a key
  exclusive : (t : ℕ) (other : Opened) → store.opened t ≡ Some other → t ≢ s → (q : ℕ) → (acts_by s n q flat ≡ []) ⊎ (acts_by t (store.begins t) q flat ≡ [])
  exclusive t other e apart q = both
      (acts_found s n q (store.accepted range) rivals) (acts_found t (store.begins t) q (store.accepted range) rivals)
    where
      range : ℕ
      range = range_of store.placed q

      rivals : AllByRecursion (HasRival store.history store.closed q (store.accepted range)) (store.accepted range)
      rivals = rivals_all store.history store.closed q (store.accepted range) (is.ordered range)

      empty : (u m : ℕ) → acts_by u m q (store.accepted range) ≡ [] → acts_by u m q flat ≡ []
      empty u m none = flat_none u m q store.accepted ranges (λ r. dite (ℕ_discrete r range) (λ same. ap (λ y. acts_by u m q (store.accepted y)) same ∙ none) (λ far. home_none ranges store is u m q r far))

      Found : ℕ → ℕ → Type 0
      Found u m = (a : Accepted) × HasRival store.history store.closed q (store.accepted range) a × (a.session ≡ u) × (a.number ≡ m) × (a.write.key ≡ q)

      rival : (u m : ℕ) → store.closed u m ≡ false → time_of store.history u m ≡ None → Found u m → (r : Accepted) × (last_where (is_unclosed_on store.closed q) (store.accepted range) ≡ Some r) × (r.session ≡ u)
      rival u m shut none found = at (found.1 found.4 ((λ i. store.closed (found.2 i) (found.3 i)) ∙ shut))
        where
          at : (r : Accepted) × (last_where (is_unclosed_on store.closed q) (store.accepted range) ≡ Some r) × (AreSame found.0 r ⊎ IsEarlier store.history found.0 r)
              → (r : Accepted) × (last_where (is_unclosed_on store.closed q) (store.accepted range) ≡ Some r) × (r.session ≡ u)
          at x = ⊎_elim (λ (same : AreSame found.0 x.0). (x.0, x.1, sym same.0 ∙ found.2))
              (λ (first : IsEarlier store.history found.0 x.0). let no : None ≡ Some first.0 = sym none ∙ sym (λ i. time_of store.history (found.2 i) (found.3 i)) ∙ first.1 in absurd (cc)) x.2

      both : (acts_by s n q (store.accepted range) ≡ []) ⊎ Found s n → (acts_by t (store.begins t) q (store.accepted range) ≡ []) ⊎ Found t (store.begins t) → (acts_by s n q flat ≡ []) ⊎ (acts_by t (store.begins t) q flat ≡ [])
      both (inl none) y = inl (empty s n none)
      both (inr x) (inl none) = inr (empty t (store.begins t) none)
      both (inr x) (inr y) =
          let one = rival s n unclosed uncommitted x in
          let two = rival t (store.begins t) (is_unclosed ranges store is t other e) (is_uncommitted ranges store is t other e) y in
          let same : Some one.0 ≡ Some two.0 = sym one.1 ∙ two.1 in
          let alike : one.0 ≡ two.0 = cc same in
          absurd (apart (sym two.2 ∙ ap (λ r. r.session) (sym alike) ∙ one.2))

  module _ (writes : List Write) (made : (q : ℕ) → acts_on q writes ≡ acts_by s n q flat) where
    abbrev commit : Commit
    commit = record { session = s; number = n; begin = transaction.begin; writes = writes }

    abbrev history' : List Commit
    history' = store.history ++ commit ∷ []

    follows : Follows store.history commit
    follows = record {
      begin = here.known;
      apart = λ before earlier between e late q. ⊎_elim (λ (none : acts_on q earlier.writes ≡ []). inl none) (λ (none : acts_by s n q flat ≡ []). inr (made q ∙ none)) (here.apart before earlier between e late q);
      numbers = λ before earlier between e same. past_below earlier.number (subst (λ (y : ℕ). IsPast store.begins store.opened y earlier.number) same (is.commits before earlier between e).past);
      fits = in_order store.history transaction.begin writes (λ q. subst (FitInTurn (row_from None (all_acts_on q (take transaction.begin store.history)))) (sym (made q)) (here.fits q));
    }

    time_now : time_of history' s n ≡ Some (length store.history + 1)
    time_now = time-append store.history commit s n ∙ (λ i. or_last (uncommitted i) (eq-eqb s s refl i && eq-eqb n n refl i) (length store.history + 1))

    -- a time that is found anew is that of the commit
    later_time : (t m time : ℕ) → time_of history' t m ≡ Some time → (time_of store.history t m ≡ Some time) ⊎ (time ≡ length store.history + 1)
    later_time t m time e = at (time_of store.history t m) refl (s == t && n == m) (sym (time-append store.history commit t m) ∙ e)
      where
        at : (o : Option ℕ) → time_of store.history t m ≡ o → (b : Bool) → or_last (time_of store.history t m) b (length store.history + 1) ≡ Some time → (time_of store.history t m ≡ Some time) ⊎ (time ≡ length store.history + 1)
        at (Some old) f b g = let h : Some old ≡ Some time = sym (ap (λ o. or_last o b (length store.history + 1)) f) ∙ g in inl (f ∙ h)
        at None f true g = let h : Some (length store.history + 1) ≡ Some time = sym (ap (λ o. or_last o true (length store.history + 1)) f) ∙ g in inr (cc h)
        at None f false g = let h : None ≡ Some time = sym (ap (λ o. or_last o false (length store.history + 1)) f) ∙ g in absurd (cc)

    stands_on : (a b : Accepted) → StandsBefore store.history store.closed a b → StandsBefore history' store.closed a b
    stands_on a b stands e f g = ⊎_elim (λ (same : AreSame a b). inl same)
        (λ (first : IsEarlier store.history a b). inr (
          first.0,
          time-front store.history (commit ∷ []) a.session a.number first.0 first.1,
          λ later h. ⊎_elim (λ (old : time_of store.history b.session b.number ≡ Some later). first.2 later old)
              (λ (new : later ≡ length store.history + 1). let low = time_low store.history a.session a.number first.0 first.1 in omega arith) (later_time b.session b.number later h),
        )) (stands e f g)

    live_committed : (a : Accepted) → IsLive store.history store.begins store.opened store.closed a → IsLive history' store.begins ended store.closed a
    live_committed a live = record { begun = live.begun; state = at live.state }
      where
        at : HasState store.history store.begins store.opened store.closed a → HasState history' store.begins ended store.closed a
        at (inl f) = inl f
        at (inr (inl f)) = inr (inl (f.0, time-front store.history (commit ∷ []) a.session a.number f.0 f.1))
        at (inr (inr f)) = dite (ℕ_discrete a.session s)
            (λ e. inr (inl (length store.history + 1, (λ i. time_of history' (e i) ((f.0 ∙ ap store.begins e) i)) ∙ time_now)))
            (λ other. inr (inr (f.0, ap is_some (put_else store.opened s None a.session other) ∙ f.1)))

    kept_on : (before : List Commit) (one : Commit) (after : List Commit) → history' ≡ before ++ one ∷ after → IsKept history' store.begins ended store.closed flat (length before + 1) one
    kept_on before one after e = ⊎_elim
        (λ (old : (more : List Commit) × (store.history ≡ before ++ one ∷ more)). let kept = is.commits before one old.0 old.1 in record {
          acts = kept.acts;
          time = time-front store.history (commit ∷ []) one.session one.number (length before + 1) kept.time;
          shut = kept.shut;
          past = past_ended one.session one.number kept.past;
        })
        (λ (last : (store.history ≡ before) × (commit ≡ one)). subst (λ (x : Commit). IsKept history' store.begins ended store.closed flat (length before + 1) x) last.1 record {
          acts = made;
          time = time_now ∙ ap (λ h. Some (length h + 1)) last.0;
          shut = unclosed;
          past = inr (refl, put_here store.opened s None);
        })
        (tails_alike store.history commit before one after e)

    open_on : (t : ℕ) (other : Opened) → ended t ≡ Some other → MayCommit history' flat t (store.begins t) other.begin
    open_on t other e = let open_still = still_open t other e in let old = is.running t other open_still.1 in record {
      known = let all = length-append store.history (commit ∷ []) in let low = old.known in omega arith;
      apart = λ before one after f late q. ⊎_elim
          (λ (earlier : (more : List Commit) × (store.history ≡ before ++ one ∷ more)). old.apart before one earlier.0 earlier.1 late q)
          (λ (last : (store.history ≡ before) × (commit ≡ one)). ⊎_elim (λ (none : acts_by s n q flat ≡ []). inl (ap (λ (x : Commit). acts_on q x.writes) (sym last.1) ∙ made q ∙ none)) (λ (none : acts_by t (store.begins t) q flat ≡ []). inr none) (exclusive t other open_still.1 open_still.0 q))
          (tails_alike store.history commit before one after f);
      fits = λ q. subst (λ (h : List Commit). FitInTurn (row_from None (all_acts_on q h)) (acts_by t (store.begins t) q flat)) (sym (take_front other.begin store.history (commit ∷ []) old.known)) (old.fits q);
    }

    pub committed_sound : IsSoundStore ranges (record store { history = history'; opened = ended })
    committed_sound = record {
      sound = sound_snoc store.history commit is.sound follows;
      home = is.home;
      ordered = λ range. ordered_map store.history history' store.closed store.closed stands_on (store.accepted range) (is.ordered range);
      live = λ range. all_map live_committed (store.accepted range) (is.live range);
      shut = λ t m e. past_ended t m (is.shut t m e);
      commits = kept_on;
      running = open_on;
    }
