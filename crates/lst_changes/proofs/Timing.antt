-- What loads tell of the commit times of versions.
use Rattle.std.proofs.Common.{◌≡◌, ◌≢◌, ◌⊎◌, ℕ, ◌+◌, ◌-◌, ◌*◌, ◌/◌, ◌%◌, ◌^◌, ◌<◌, ◌≤◌, List, ◌++◌, Bool, eqb, eqb-true, true, false, length, take, Contains, refl, sym, subst, ap, ◌∙◌, arith, inl, inr}
use Rattle.std.specs.Prelude.{Option, Some, None}
use Rattle.lst_layout.specs.declared.limits.Limits.{Limits}
use Rattle.lst_layout.specs.declared.place.Place.{Place}
use Rattle.lst_layout.specs.declared.place.Place.TheVariants.{StateWord, HeadWord, CellWord}
use Rattle.lst_layout.specs.Addresses.{IsWithin}
use Rattle.lst_layout.specs.Words.{Words, shown}
use Rattle.lst_bits.specs.Starts.{start_word, IsStartWord}
use Rattle.lst_bits.specs.declared.starts.Start.TheVariants.{Empty, By, At}
use Rattle.lst_model.specs.declared.commits.Commit.{Commit}
use Rattle.lst_core_state.specs.Lists.{is_until}
use Rattle.lst_core_state.specs.declared.known.Known.{Known}
use Rattle.lst_core_state.specs.declared.facts.Fact.TheVariants.{StateAt, CommitAt}
use Rattle.lst_core_state.specs.Facts.{IsFact}
use Rattle.lst_core_state.specs.State.{entry, name_of, rank}
use Rattle.lst_core_state.proofs.Sights.{until_not, until_holds}
use Rattle.lst_core_state.proofs.Steps.{name_entry}
use Rattle.lst_rule.specs.declared.view.View.{View}
use Rattle.lst_rule.specs.Rule.{knows, hosts}
use Rattle.lst_rule.specs.Learned.{Possible}
use Rattle.lst_rule.specs.Stores.{Looked}
use Rattle.lst_rule.proofs.Knowing.{is_fact, clock_is as clock_few}
use Rattle.lst_layout.specs.Limits.{IsValid}
use Rattle.std.proofs.lemmas.Bool.{eqb-false}
use Rattle.lst_rule.specs.Copies.{Version, fact_of, IsVersionOf}
use Rattle.lst_rule.specs.Seen.{names}
use Rattle.lst_rule.specs.Judging.{IsCommittedAt}
use Rattle.lst_rule.specs.Loads.{StartFound}
use Rattle.lst_rule.proofs.Finding.{starts_are_found, states_are_found}
use Rattle.lst_rule.proofs.Watching.{looks_watch}
use Rattle.lst_changes.specs.Changes.{IsFresh, Steady, IsOf, TimeOf, NameTime, TailTime, IsVersion}
use Rattle.lst_changes.proofs.Holding.{seen_is, clock_is, name_until, name_now, none_stated, own_unnamed, still_hosts}

-- ---- looks that change neither what was seen nor the turn

pub steady_state : (v w : View) (s x j n : ℕ) → hosts v s ≡ true → IsWithin v.limits (StateWord j n) → Looked v w s (StateWord j n) x → Steady v w s
steady_state v w s x j n hosted within h = record { watched = looks_watch v w s x (StateWord j n) hosted within tt h.met; seen = ap (λ (k : Known). k.seen) h.view.now; turn = ap (λ (k : Known). k.turn) h.view.now }

pub steady_cell : (v w : View) (s x tail p : ℕ) → hosts v s ≡ true → IsWithin v.limits (CellWord tail p) → Looked v w s (CellWord tail p) x → Steady v w s
steady_cell v w s x tail p hosted within h = record { watched = looks_watch v w s x (CellWord tail p) hosted within tt h.met; seen = ap (λ (k : Known). k.seen) h.view.now; turn = ap (λ (k : Known). k.turn) h.view.now }

pub steady_head : (v w : View) (s x rec : ℕ) → hosts v s ≡ true → IsWithin v.limits (HeadWord rec) → Looked v w s (HeadWord rec) x → Steady v w s
steady_head v w s x rec hosted within h = record { watched = looks_watch v w s x (HeadWord rec) hosted within tt h.met; seen = ap (λ (k : Known). k.seen) h.view.now; turn = ap (λ (k : Known). k.turn) h.view.now }

-- ---- by the state word

module _ (v w : View) (s j n x : ℕ) (hosted : hosts v s ≡ true) (low : s < v.limits.sessions) (turn : IsFresh (knows v s)) (within : IsWithin v.limits (StateWord j n)) (h : Looked v w s (StateWord j n) x) where
  abbrev W : Words
  W = shown v.limits h.met.made.told.words

  few : v.limits.sessions ≤ 16
  few = h.met.made.told.allowed.sound.sized.sessions.1

  found : W.states j n ≡ x
  found = h.met.found

  session : name_of j n % 16 ≡ j
  session = let a = within.0 in let b = few in omega arith

  number : name_of j n / 16 ≡ n
  number = let a = within.0 in let b = few in omega arith

  entry_is : entry W.states (name_of j n) ≡ x
  entry_is = name_entry W.states j n (let a = within.0 in let b = few in omega arith) ∙ found

  few_state : x ≤ W.clock + 1
  few_state = let t = h.met.made.told in let q = none_stated v t.words t.known t.merger t.allowed s hosted low turn j n within.0 in let e = found in omega arith

  clock : length (knows v s).seen ≡ W.clock
  clock = let t = h.met.made.told in clock_is v t.words t.known t.merger t.allowed s hosted low turn

  same_seen : (knows w s).seen ≡ (knows v s).seen
  same_seen = ap (λ (k : Known). k.seen) h.view.now

  in_range : name_of j n % 16 < v.limits.sessions
  in_range = let e = session in let a = within.0 in omega arith

  -- not committed
  pub state_none : x ≤ 1 → NameTime (knows w s) (name_of j n) None
  state_none most c is = let t = h.met.made.told in ap (λ (y : ℕ). names (knows w s).seen y) is ∙ (ap (λ (l : List Commit). names l (name_of j n)) same_seen
      ∙ (name_now v t.words t.known t.merger t.allowed s hosted low turn (name_of j n) in_range ∙ (ap (is_until W.clock) entry_is ∙ until_not W.clock x (λ z. omega arith))))

  -- committed
  pub state_some : 1 < x → NameTime (knows w s) (name_of j n) (Some (x - 1))
  state_some some c is = let t = h.met.made.told in let e = clock in let most = few_state in
      let looked : Looked v w s (StateWord (name_of j n % 16) (name_of j n / 16)) x = subst (λ (q : ℕ). Looked v w s (StateWord (name_of j n % 16) q) x) (sym number) (subst (λ (q : ℕ). Looked v w s (StateWord q n) x) (sym session) h) in
      let back : x ≡ x - 1 + 1 = omega arith in
      let begun : 0 < name_of j n / 16 = (let a = number in let b = within.1 in omega arith) in
      let low_number : name_of j n / 16 ≤ v.limits.txns = (let a = number in let b = within.2 in omega arith) in
      let fact : Contains (knows w s).facts (StateAt (name_of j n % 16) (name_of j n / 16) x) = (states_are_found v w s (name_of j n) x hosted in_range begun low_number looked.met).fact (omega arith) in record {
        some = omega arith;
        seen = (let f = ap (λ (l : List Commit). length l) same_seen in omega arith);
        committed = inr (subst (λ (y : ℕ). Contains (knows w s).facts (StateAt (y % 16) (y / 16) (x - 1 + 1))) (sym is)
            (subst (λ (z : ℕ). Contains (knows w s).facts (StateAt (name_of j n % 16) (name_of j n / 16) z)) back fact));
        named = ap (λ (y : ℕ). names (take (x - 1) (knows w s).seen) y) is ∙ (ap (λ (l : List Commit). names (take (x - 1) l) (name_of j n)) same_seen
            ∙ (name_until v t.words t.known t.merger t.allowed s hosted low turn (x - 1) (name_of j n) (omega arith) in_range ∙ (ap (is_until (x - 1)) entry_is ∙ until_holds (x - 1) x some (omega arith))));
      }

-- ---- by the start word

-- a start word of a version is one that is packed
start_word_few : (l : Limits) (k : Known) (rec x : ℕ) (c : Version) → IsValid l → IsVersionOf l rec c → (x % 2 ≡ 0 → x / 2 < 2 ^ 32) → StartFound k rec c x → IsStartWord x
start_word_few l k rec x c valid is even found = (choose (eqb (x % 2) 0) refl, λ odd. few odd)
  where
    few : x % 2 ≡ 1 → x < 2 ^ 37
    few odd = let e = found.named odd in let a = valid.txns.1 in let n = is.number in omega arith

    choose : (b : Bool) → eqb (x % 2) 0 ≡ b → x < 2 ^ 64
    choose true e = let h = even (eqb-true (x % 2) 0 e) in omega arith
    choose false e = let h = few (let ne = eqb-false (x % 2) 0 e in omega arith) in omega arith

-- a word of a version
pub version_word : (l : Limits) (k : Known) (tail p : ℕ) → p < 3 + l.columns → IsVersion l k tail → IsWithin l (CellWord tail p)
version_word l k tail p inside (rec, c, is, known, at) = let a = is.some in let b = is.few in (omega arith, omega arith, inside)

module _ (v w : View) (s tail x : ℕ) (hosted : hosts v s ≡ true) (low : s < v.limits.sessions) (on : (knows v s).is_open ≡ true) (turn : IsFresh (knows v s)) (version : IsVersion v.limits (knows v s) tail) (h : Looked v w s (CellWord tail 0) x) where
  pub start_steady : Steady v w s
  start_steady = steady_cell v w s x tail 0 hosted (version_word v.limits (knows v s) tail 0 (omega arith) version) h

  start_found : (rec : ℕ) (c : Version) → IsVersionOf v.limits rec c → Contains (knows v s).facts (fact_of c) → c.tail ≡ tail → StartFound (knows w s) rec c x
  start_found rec c is known at = starts_are_found v w s rec x c hosted is known (subst (λ (t : ℕ). Looked v w s (CellWord t 0) x) (sym at) h).met

  abbrev at_is : IsVersionOf v.limits version.0 version.1
  at_is = version.2

  abbrev start_at : StartFound (knows w s) version.0 version.1 x
  start_at = start_found version.0 version.1 version.2 version.3 version.4

  pub start_some : x ≢ start_word Empty
  start_some e = let some = start_at.some in omega arith

  module _ (p : Possible w) where
    hosts_now : hosts w s ≡ true
    hosts_now = still_hosts v w s start_steady.watched hosted

    low_now : s < w.limits.sessions
    low_now = subst (λ (l : Limits). s < l.sessions) (sym start_steady.watched.learns.limits) low

    turn_now : IsFresh (knows w s)
    turn_now = ap rank start_steady.turn ∙ turn

    pub start_is_word : IsStartWord x
    start_is_word = start_word_few v.limits (knows w s) version.0 x version.1 h.met.made.told.allowed.sound.sized at_is (λ even. let a = p.allowed in
        let f = is_fact w p.words p.known p.merger a s hosts_now (CommitAt (x / 2) (version.1.writer % 16) (version.1.writer / 16)) (start_at.stamped even).1 in
        let small = (clock_few w p.words p.known p.merger a).1 in let by = f.1 in omega arith) start_at

    -- a stamp
    stamp_of : (time rec : ℕ) (c : Version) → start_word (At time) ≡ x → StartFound (knows w s) rec c x → (0 < time) × Contains (knows w s).facts (CommitAt time (c.writer % 16) (c.writer / 16))
    stamp_of time rec c e f = let half : x / 2 ≡ time = omega arith in subst (λ (t : ℕ). (0 < t) × Contains (knows w s).facts (CommitAt t (c.writer % 16) (c.writer / 16))) half (f.stamped (omega arith))

    stamp_time : (time rec : ℕ) (c : Version) → start_word (At time) ≡ x → IsVersionOf v.limits rec c → StartFound (knows w s) rec c x → IsOf (knows w s) c time
    stamp_time time rec c e is f = let a = p.allowed in let q = stamp_of time rec c e f in
        let g = is_fact w p.words p.known p.merger a s hosts_now (CommitAt time (c.writer % 16) (c.writer / 16)) q.1 in
        let W : Words = shown w.limits p.words in
        let clock = clock_is w p.words p.known p.merger a s hosts_now low_now turn_now in
        let below = g.1 in let some = q.0 in
        let logged : W.log time ≡ c.writer = g.3 ∙ (omega arith) in
        let state : entry W.states c.writer ≡ time + 1 = ap (entry W.states) (sym logged) ∙ (a.sound.times.named time g.0 g.1).state in
        let session : c.writer % 16 < w.limits.sessions = subst (λ (l : Limits). c.writer % 16 < l.sessions) (sym start_steady.watched.learns.limits) is.session in record {
          some = some;
          seen = omega arith;
          committed = inl q.1;
          named = name_until w p.words p.known p.merger a s hosts_now low_now turn_now time c.writer (omega arith) session ∙ until_holds time (entry W.states c.writer) (omega arith) (omega arith);
        }

    pub start_stamped : (time : ℕ) → start_word (At time) ≡ x → TailTime v.limits (knows v s) (knows w s) tail (Some time)
    start_stamped time e rec c is known at = stamp_time time rec c e is (start_found rec c is known at)

    -- a name
    name_in : (j n rec : ℕ) (c : Version) → start_word (By j n) ≡ x → StartFound (knows w s) rec c x → c.writer ≡ name_of j n
    name_in j n rec c e f = let g = f.named (omega arith) in omega arith

    pub start_own : (j n : ℕ) → start_word (By j n) ≡ x → j ≡ s → n ≡ (knows w s).number → TailTime v.limits (knows v s) (knows w s) tail None
    start_own j n e a b rec c is known at = ap (λ (y : ℕ). names (knows w s).seen y) (name_in j n rec c e (start_found rec c is known at) ∙ (λ i. name_of (a i) (b i)))
        ∙ own_unnamed w p.words p.known p.merger p.allowed s hosts_now low_now turn_now (ap (λ (k : Known). k.is_open) h.view.now ∙ on)

    pub name_place : (j n : ℕ) → start_word (By j n) ≡ x → j < 16 → IsWithin w.limits (StateWord j n)
    name_place j n e few = subst (λ (l : Limits). IsWithin l (StateWord j n)) (sym h.view.limits)
        (let name = name_in j n version.0 version.1 e start_at in let a = at_is.session in let b = at_is.begun in let d = at_is.number in (omega arith, omega arith, omega arith))

    pub start_named : (u : View) (j n : ℕ) (time : Option ℕ) → start_word (By j n) ≡ x → NameTime (knows u s) (name_of j n) time → TailTime v.limits (knows v s) (knows u s) tail time
    start_named u j n time e told rec c is known at = told c (name_in j n rec c e (start_found rec c is known at))
