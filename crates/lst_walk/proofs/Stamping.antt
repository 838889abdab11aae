-- Stamps, and what is seen of a version by its start word.
use Rattle.std.proofs.Common.{◌≡◌, ◌≢◌, ℕ, ◌+◌, ◌*◌, ◌/◌, ◌%◌, ◌^◌, ◌<◌, ◌≤◌, List, Bool, true, false, eqb, nat_le, ◌||◌, Contains, refl, sym, subst, ap, ◌∙◌, arith, inl, inr, ne_eqb, eq-eqb, true≢false}
use Rattle.std.proofs.lemmas.List.Elements.{Contains-append_right}
use Rattle.std.specs.Prelude.{cond, Option, None, Some, is_some, IfSome, IfNone}
use Rattle.lst_layout.specs.declared.limits.Limits.{Limits}
use Rattle.lst_layout.specs.declared.place.Place.TheVariants.{CellWord, StateWord}
use Rattle.lst_layout.specs.Addresses as layout
use Rattle.lst_layout.specs.Addresses.{address, IsTailWord}
use Rattle.lst_layout.specs.Limits.{IsValid}
use Rattle.lst_layout.proofs.Lows.{tail_within}
use Rattle.lst_bits.specs.Starts.{IsStartWord}
use Rattle.lst_core_state.proofs.Sights.{or_right}
use Rattle.lst_core_state.specs.declared.known.Known.{Known}
use Rattle.lst_core_state.specs.declared.events.Event.TheVariants.{Stamp}
use Rattle.lst_core_state.specs.declared.facts.Fact.TheVariants.{StateAt}
use Rattle.lst_core_state.specs.declared.facts.Find.{Find}
use Rattle.lst_core_state.specs.declared.facts.Find.TheVariants.{UnfinishedVersion}
use Rattle.lst_core_state.specs.Facts.{unfinished as unfinished_find, about, about_tail}
use Rattle.lst_core_state.specs.State.{name_of}
use Rattle.lst_rule.specs.declared.view.View.{View}
use Rattle.lst_rule.specs.Rule.{knows, hosts}
use Rattle.lst_rule.specs.Learned.{Possible, CanStand, Times, Made}
use Rattle.lst_rule.specs.declared.store.Store.{Store}
use Rattle.lst_rule.specs.Seats.{Sitting}
use Rattle.lst_rule.specs.Stores.{Looked}
use Rattle.lst_rule.specs.declared.status.Status.TheVariants.{Unfinished}
use Rattle.lst_rule.specs.Statuses.{Answers, FoundSince, KnownCommitted}
use Rattle.lst_rule.specs.Copies.{Version}
use Rattle.lst_rule.specs.Seen.{is_early, sees}
use Rattle.lst_rule.specs.Watching.{Watched}
use Rattle.lst_rule.specs.Laws.{TailFound, Statuses}
use Rattle.lst_rule.proofs.Finding.{tails_are_found}
use Rattle.lst_rule.proofs.StatusTelling.{statuses_tell}
use Rattle.lst_rule.proofs.Committed.{committed_may_be_stamped}
use Rattle.lst_rule.proofs.Watching.{stamps_watch, watched_same}
use Rattle.lst_walk.specs.Readers.{IsReader, IsAt, HasVersion, IsNotCommitted, Timed, Untimed, Stamped, OwnFound, Resolves, Concludes}
use Rattle.lst_walk.proofs.Reading.{watched_on, at_on, facts_on, sees_on, start_found, looked_possible}

-- ---- tails by range and number

pub tail_place : (l : Limits) (v : View) (range n t place : ℕ) → v.limits ≡ l → t ≡ range * l.tails + n → range < l.ranges → (0 < n) × (n ≤ l.tails) → place < 3 + l.columns → layout.IsWithin v.limits (CellWord t place)
tail_place l v range n t place is e low few below = subst (λ (k : Limits). layout.IsWithin k (CellWord t place)) (sym is) (subst (λ (x : ℕ). layout.IsWithin l (CellWord x place)) (sym e)
    (tail_within l range n place record { in_range = low; some = few.0; few = few.1; in_cell = below }))

-- ---- start words

module _ (l : Limits) (v w : View) (s t x : ℕ) (valid : IsValid l) (is : v.limits ≡ l) (hosted : hosts v s ≡ true) (inside : layout.IsWithin v.limits (CellWord t 0)) (looked : Looked v w s (CellWord t 0) x) where
  found : 0 < x → TailFound w s t x
  found some = tails_are_found v w s t x hosted inside.0 inside.1 looked.met some

  limits : w.limits ≡ l
  limits = looked.view.limits ∙ is

  pub start_is : x < 2 ^ 64 → IsStartWord x
  start_is few = (few, odd)
    where
      odd : x % 2 ≡ 1 → x < 2 ^ 37
      odd o = let f = found (omega arith) in let named = f.start.named o in let number = f.is.number in let txns : w.limits.txns ≤ 65535 = subst (λ (k : Limits). k.txns ≤ 65535) (sym limits) valid.txns.1 in omega arith

  -- the version that a start word names
  pub named : (session number : ℕ) → 1 + 2 * (16 * number + session) ≡ x → session < 16 → (c : Version) × IsAt w s t c × (c.writer ≡ name_of session number)
  named session number word low = let f = found (omega arith) in let odd : x % 2 ≡ 1 = omega arith in let named = f.start.named odd in
      (f.version, record { rec = f.rec; is = f.is; known = f.known; at = f.at }, omega arith)

  pub named_session : (session number : ℕ) → 1 + 2 * (16 * number + session) ≡ x → session < 16 → session < l.sessions
  named_session session number word low = let q = named session number word low in let e = q.2 in subst (λ (k : Limits). session < k.sessions) limits (let h = q.1.is.session in omega arith)

  pub named_number : (session number : ℕ) → 1 + 2 * (16 * number + session) ≡ x → session < 16 → (0 < number) × (number ≤ l.txns)
  named_number session number word low = let q = named session number word low in let e = q.2 in subst (λ (k : Limits). (0 < number) × (number ≤ k.txns)) limits (let h = q.1.is.begun in let g = q.1.is.number in (omega arith, omega arith))

pub version_at : (v : View) (s t u name : ℕ) → t ≡ u → (c : Version) × IsAt v s t c × (c.writer ≡ name) → (c : Version) × IsAt v s u c × (c.writer ≡ name)
version_at v s t u name e q = (q.0, record { rec = q.1.rec; is = q.1.is; known = q.1.known; at = q.1.at ∙ e }, q.2)

pub at_same : (v : View) (s t u : ℕ) (c : Version) → t ≡ u → IsAt v s t c → IsAt v s u c
at_same v s t u c e at = record { rec = at.rec; is = at.is; known = at.known; at = at.at ∙ e }

-- ---- a stamp

module _ (l : Limits) (v w : View) (s range n session number time : ℕ) (is : v.limits ≡ l) (watched : Watched v w s) (hosted : hosts w s ≡ true)
    (version : (c : Version) × IsAt v s (range * l.tails + n) c × (c.writer ≡ name_of session number)) (low : session < 16) (status : KnownCommitted (knows w s) session number time) where
  pub may_stamp : CanStand w (Stamp s range n) × Times w (Stamp s range n) time
  may_stamp = let c : Version = version.0 in let at = at_on v w s (range * l.tails + n) c watched version.1 in let same : w.limits ≡ l = watched.learns.limits ∙ is in let e = version.2 in
      let session_is : c.writer % 16 ≡ session = omega arith in let number_is : c.writer / 16 ≡ number = omega arith in
      committed_may_be_stamped w s range n time c hosted at.is.session at.known (at.at ∙ ap (λ (k : Limits). range * k.tails + n) (sym same)) status.some status.seen
      (inr (subst (λ (j : ℕ). Contains (knows w s).facts (StateAt j (c.writer / 16) (time + 1))) (sym session_is) (subst (λ (k : ℕ). Contains (knows w s).facts (StateAt session k (time + 1))) (sym number_is) status.fact)))

pub state_within : (l : Limits) (v : View) (session number : ℕ) → v.limits ≡ l → session < l.sessions → (0 < number) × (number ≤ l.txns) → layout.IsWithin v.limits (StateWord session number)
state_within l v session number is low some = subst (λ (k : Limits). layout.IsWithin k (StateWord session number)) (sym is) (low, some.0, some.1)

pub not_committed : (v w : View) (s session number a b : ℕ) → Answers v w s session number (Unfinished a b) → IsNotCommitted v w s session number
not_committed v w s session number a b h = inr (subst (λ (x : ℕ). Answers v w s session number (Unfinished x number)) h.known.0 (subst (λ (y : ℕ). Answers v w s session number (Unfinished a y)) h.known.1 h))

pub stamped_at : (v b w : View) (s range n time : ℕ) → Watched v b s → Made b w (Stamp s range n) (CellWord (range * b.limits.tails + n) 0) (2 * time) → Stamped v w s range n time
stamped_at v b w s range n time watched made = record {
  before = b;
  first = watched;
  made = subst (λ (k : Limits). Made b w (Stamp s range n) (CellWord (range * k.tails + n) 0) (2 * time)) watched.learns.limits made;
}

pub stamped_facts : (l : Limits) (b w : View) (s range n x session number time : ℕ) → Made b w (Stamp s range n) (CellWord (range * l.tails + n) 0) x → Contains (knows b s).facts (StateAt session number (time + 1)) → Contains (knows w s).facts (StateAt session number (time + 1))
stamped_facts l b w s range n x session number time made h = facts_on b w s (stamps_watch b w s range n x (CellWord (range * l.tails + n) 0) made) (StateAt session number (time + 1)) h

-- ---- what a call on a tail found

module _ (l : Limits) (v b w : View) (s range n t x : ℕ) (is : v.limits ≡ l) (e : t ≡ range * l.tails + n) (looked : Looked v b s (CellWord t 0) x) where
  tail_is : t ≡ range * v.limits.tails + n
  tail_is = e ∙ ap (λ (k : Limits). range * k.tails + n) (sym is)

  here : Looked v b s (CellWord (range * v.limits.tails + n) 0) x
  here = subst (λ (y : ℕ). Looked v b s (CellWord y 0) x) tail_is looked

  pub untimed_empty : 0 ≡ x → Untimed v b s range n
  untimed_empty z = record { before = v; after = b; asked = b; first = watched_same v s; word = x; looked = here; why = inl (sym z, refl); last = watched_same b s }

  pub timed_found : (time : ℕ) → 0 < time → 2 * time ≡ x → Timed v b s range n
  timed_found time some word = record { before = v; after = b; first = watched_same v s; time = time; some = some; told = inl (subst (λ (y : ℕ). Looked v b s (CellWord (range * v.limits.tails + n) 0) y) (sym word) here); last = watched_same b s }

  pub untimed_named : (session number : ℕ) → 1 + 2 * (16 * number + session) ≡ x → session < 16 → IsNotCommitted b w s session number → Untimed v w s range n
  untimed_named session number word low why = record {
    before = v;
    after = b;
    asked = w;
    first = watched_same v s;
    word = x;
    looked = here;
    why = inr (
      omega arith,
      (let a : session ≡ x / 2 % 16 = omega arith in let d : number ≡ x / 2 / 16 = omega arith in
          subst (λ (j : ℕ). IsNotCommitted b w s j (x / 2 / 16)) a (subst (λ (k : ℕ). IsNotCommitted b w s session k) d why)),
    );
    last = watched_same w s;
  }

  pub timed_stored : (time : ℕ) → 0 < time → Watched v b s → Stamped b w s range n time → Timed v w s range n
  timed_stored time some first q = record {
    before = q.before;
    after = w;
    first = watched_on v b q.before s first q.first;
    time = time;
    some = some;
    told = inr (subst (λ (k : Limits). Made q.before w (Stamp s range n) (CellWord (range * k.tails + n) 0) (2 * time)) first.learns.limits q.made);
    last = watched_same w s;
  }

  -- its start word names the session's own transaction
  pub own_found : (session number : ℕ) → 1 + 2 * (16 * number + session) ≡ x → (session ≡ s) × (number ≡ (knows b s).number) → Watched v b s → OwnFound v b s range n
  own_found session number word own watched = record {
    before = v;
    after = b;
    first = watched_same v s;
    looked = subst (λ (y : ℕ). Looked v b s (CellWord (range * v.limits.tails + n) 0) y)
        (sym word ∙ ((λ i. 1 + 2 * name_of (own.0 i) (own.1 i)) ∙ ap (λ (k : Known). 1 + 2 * name_of s k.number) watched.watches.is)) here;
    last = watched_same b s;
  }

  -- or another one, of which it is then known how far it is
  pub concluded : (session number : ℕ) → 1 + 2 * (16 * number + session) ≡ x → session < 16 → Watched v b s → Concludes b w s range n session number → Resolves v w s range n
  concluded session number word low first (inl q) = inl (timed_stored q.0 q.1 first q.2)
  concluded session number word low first (inr why) = inr (inl (untimed_named session number word low why))

-- ---- what is seen

early_or : (v : Known) (s x : ℕ) → x ≢ name_of s v.number → sees v s x ≡ is_early v x
early_or v s x other = ap (λ (b : Bool). is_early v x || b) (ne_eqb x (name_of s v.number) other) ∙ or_false (is_early v x)
  where
    or_false : (b : Bool) → (b || false) ≡ b
    or_false true = refl
    or_false false = refl

-- by a stamp that was loaded
pub stamp_seen : (v w : View) (s t x time : ℕ) → hosts v s ≡ true → hosts w s ≡ true → (knows v s).is_open ≡ true → (knows w s).is_open ≡ true → Watched v w s → Looked v w s (CellWord t 0) x → 2 * time ≡ x → (c : Version) → IsAt v s t c
    → nat_le time (knows w s).begin ≡ sees (knows v s) s c.writer
stamp_seen v w s t x time hosted hosted' opened opened' watched looked word c at = let found = start_found v w s t x hosted looked c at in let even : x % 2 ≡ 0 = omega arith in let half : x / 2 ≡ time = omega arith in let stamp = found.stamped even in
    let p : Possible v = record { words = looked.met.made.told.words; known = looked.met.made.told.known; merger = looked.met.made.told.merger; allowed = looked.met.made.told.allowed } in
    let tell = (statuses_tell w s c.writer (looked_possible v w s x (CellWord t 0) looked) hosted' opened' (subst (λ (l : Limits). c.writer % 16 < l.sessions) (sym watched.learns.limits) at.is.session)).stamped (x / 2) stamp.1 in
    ap (λ (n : ℕ). nat_le n (knows w s).begin) (sym half) ∙ (sym tell.0 ∙ (sym (early_or (knows w s) s c.writer tell.1) ∙ sees_on v w s c.writer p hosted opened watched))

-- by its own name
pub own_seen : (v : Known) (s x name : ℕ) → x ≡ name → eqb name (name_of s v.number) ≡ true → true ≡ sees v s x
own_seen v s x name is own = sym (or_right (is_early v x) (eqb x (name_of s v.number)) (ap (λ (n : ℕ). eqb n (name_of s v.number)) is ∙ own))

module _ (v w : View) (s session number : ℕ) (p : Possible v) (q : Possible w) (hosted : hosts v s ≡ true) (hosted' : hosts w s ≡ true) (opened : (knows v s).is_open ≡ true) (opened' : (knows w s).is_open ≡ true) (watched : Watched v w s)
    (low : session < w.limits.sessions) (few : w.limits.sessions ≤ 16) (other : name_of session number ≢ name_of s (knows v s).number) where
  abbrev x : ℕ
  x = name_of session number

  session_is : name_of session number % 16 ≡ session
  session_is = omega arith

  number_is : name_of session number / 16 ≡ number
  number_is = omega arith

  same_number : (knows w s).number ≡ (knows v s).number
  same_number = ap (λ (k : Known). k.number) watched.watches.is

  same_begin : (knows w s).begin ≡ (knows v s).begin
  same_begin = ap (λ (k : Known). k.begin) watched.watches.is

  not_own : name_of session number ≢ name_of s (knows w s).number
  not_own e = other (e ∙ ap (name_of s) same_number)

  tell : Statuses w s (name_of session number)
  tell = statuses_tell w s x q hosted' opened' (subst (λ (j : ℕ). j < w.limits.sessions) (sym session_is) low)

  seen_is : (b : Bool) → is_early (knows w s) (name_of session number) ≡ b → b ≡ sees (knows v s) s (name_of session number)
  seen_is b e = sym e ∙ (sym (early_or (knows w s) s x not_own) ∙ sees_on v w s x p hosted opened watched)

  at_name : (y : ℕ) → Contains (knows w s).facts (StateAt session number y) → Contains (knows w s).facts (StateAt (name_of session number % 16) (name_of session number / 16) y)
  at_name y h = subst (λ (j : ℕ). Contains (knows w s).facts (StateAt j (x / 16) y)) (sym session_is) (subst (λ (k : ℕ). Contains (knows w s).facts (StateAt session k y)) (sym number_is) h)

  pub committed_seen : (time : ℕ) → 0 < time → Contains (knows w s).facts (StateAt session number (time + 1)) → nat_le time (knows w s).begin ≡ sees (knows v s) s (name_of session number)
  committed_seen time some h = seen_is (nat_le time (knows w s).begin) (tell.committed time some (at_name (time + 1) h))

  pub never_seen : IsNotCommitted v w s session number → false ≡ sees (knows v s) s (name_of session number)
  never_seen (inl closed) = seen_is false (tell.closed (at_name 1 closed.known)).0
  never_seen (inr unfinished) = seen_is false (tell.unfinished (about (knows v s) session number) (about_tail (knows v s) session number) (subst (λ (f : Find). Contains (knows w s).finds f) find_is since))
    where
      late : FoundSince (knows v s) (knows w s) (unfinished_find (knows v s) session number)
      late = unfinished.known.2.found

      since : Contains (knows w s).finds (unfinished_find (knows v s) session number)
      since = subst (λ (fs : List Find). Contains fs (unfinished_find (knows v s) session number)) (sym late.1) (Contains-append_right (knows v s).finds late.0 (unfinished_find (knows v s) session number) late.2)

      find_is : unfinished_find (knows v s) session number ≡ UnfinishedVersion (about (knows v s) session number) (about_tail (knows v s) session number) (name_of session number % 16) (name_of session number / 16) ((knows w s).begin + 1)
      find_is = λ i. UnfinishedVersion (about (knows v s) session number) (about_tail (knows v s) session number) (sym session_is i) (sym number_is i) ((ap (λ (b : Bool). cond b ((knows v s).begin + 1) 0) opened ∙ ap (λ (n : ℕ). n + 1) (sym same_begin)) i)

pub few_sessions : (l : Limits) (session : ℕ) → IsValid l → session < l.sessions → session < 16
few_sessions l session valid low = let few = valid.sessions.1 in omega arith

-- the name that a start word says
pub writer_named : (v w : View) (s t x session number : ℕ) → hosts v s ≡ true → Looked v w s (CellWord t 0) x → 1 + 2 * (16 * number + session) ≡ x → (c : Version) → IsAt v s t c → c.writer ≡ name_of session number
writer_named v w s t x session number hosted looked word c at = let found = start_found v w s t x hosted looked c at in let odd : x % 2 ≡ 1 = omega arith in let named = found.named odd in omega arith

pub named_own_seen : (v w : View) (s t x session number : ℕ) → hosts v s ≡ true → Watched v w s → Looked v w s (CellWord t 0) x → 1 + 2 * (16 * number + session) ≡ x → (session ≡ s) × (number ≡ (knows w s).number) → (c : Version) → IsAt v s t c → true ≡ sees (knows v s) s c.writer
named_own_seen v w s t x session number hosted watched looked word own c at = own_seen (knows v s) s c.writer (name_of session number) (writer_named v w s t x session number hosted looked word c at)
    (eq-eqb (name_of session number) (name_of s (knows v s).number) ((λ i. name_of (own.0 i) (own.1 i)) ∙ ap (λ (k : Known). name_of s k.number) watched.watches.is))

pub named_other_seen : (v w : View) (s t x session number : ℕ) (r : Bool) → hosts v s ≡ true → (knows v s).is_open ≡ true → Watched v w s → Looked v w s (CellWord t 0) x → 1 + 2 * (16 * number + session) ≡ x → r ≡ sees (knows w s) s (name_of session number) → (c : Version) → IsAt v s t c → r ≡ sees (knows v s) s c.writer
named_other_seen v w s t x session number r hosted opened watched looked word is c at = let p : Possible v = record { words = looked.met.made.told.words; known = looked.met.made.told.known; merger = looked.met.made.told.merger; allowed = looked.met.made.told.allowed } in
    is ∙ (sees_on v w s (name_of session number) p hosted opened watched ∙ ap (sees (knows v s) s) (sym (writer_named v w s t x session number hosted looked word c at)))

pub other_name : (s session number own : ℕ) → s < 16 → session < 16 → ¬ ((session ≡ s) × (number ≡ own)) → name_of session number ≢ name_of s own
other_name s session number own low few other e = other (omega arith, omega arith)

pub has_same : (v : View) (s t u : ℕ) → t ≡ u → HasVersion v s t → HasVersion v s u
has_same v s t u e has = (has.0, at_same v s t u has.0 e has.1)

pub own_few : (store : Store) (seat : Sitting) (s : ℕ) → IsReader store seat s → s < 16
own_few store seat s reader = let few = store.layout.valid.sessions.1 in let low = subst (λ (l : Limits). s < l.sessions) reader.seat_of.limits reader.own in omega arith

-- what a clause on an option says, once it is known which it is
pub some_both : {P Q : ℕ → Type 0} (o : Option ℕ) → is_some o ≡ true → IfSome o P → IfSome o Q → (x : ℕ) × P x × Q x
some_both None e p q = absurd (true≢false (sym e))
some_both (Some x) e p q = (x, p, q)

pub none_then : {P : Type 0} (o : Option ℕ) → is_some o ≡ false → IfNone o P → P
none_then None e p = p
none_then (Some x) e p = absurd (true≢false e)
