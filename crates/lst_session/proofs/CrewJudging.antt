-- What stands in the way of a write, by what its session found under the latch.
use Rattle.std.proofs.Common.{◌≡◌, ℕ, ◌+◌, ◌-◌, ◌*◌, ◌/◌, ◌%◌, ◌<◌, ◌≤◌, List, [], ◌∷◌, ◌++◌, true, eqb, Option, Some, None, Contains, refl, sym, subst, ap, ◌∙◌, arith, inl, inr, ⊎_elim, eqb-true}
use Rattle.std.proofs.lemmas.List.Elements.{Contains-append_right}
use mathlib.Core.Logic.{dite}
use native.Mathlib.Decide.{ℕ_discrete}
use Rattle.lst_layout.specs.declared.limits.Limits.{Limits}
use Rattle.lst_layout.specs.Functions.{put}
use Rattle.lst_layout.proofs.Functions.{put_here}
use Rattle.lst_model.specs.declared.replies.Cause.{Cause}
use Rattle.lst_model.specs.declared.replies.Cause.TheVariants.{Newer, Unfinished}
use Rattle.lst_model.specs.Tables.{row_of}
use Rattle.lst_model.specs.Histories.{row_from, acts_on, all_acts_on}
use Rattle.lst_core_state.proofs.Sights.{or_says, until_says}
use Rattle.lst_machine.specs.Writes.{conflict_of, sight_of}
use Rattle.lst_core_state.specs.declared.known.Known.{Known}
use Rattle.lst_core_state.specs.declared.facts.Fact.{Fact}
use Rattle.lst_core_state.specs.declared.facts.Fact.TheVariants.{StateAt, CommitAt}
use Rattle.lst_core_state.specs.declared.facts.Find.{Find}
use Rattle.lst_core_state.specs.declared.facts.Find.TheVariants.{UnfinishedVersion}
use Rattle.lst_core_state.specs.Cells.{record_count, range_of, tail_at, tail_range}
use Rattle.lst_core_state.specs.Index.{is_placed}
use Rattle.lst_core_state.specs.State.{Words, Core, entry, writer_at, state_at, name_of, line, sight}
use Rattle.lst_core_state.specs.Lists.{chain_of}
use Rattle.lst_rule.specs.declared.view.View.{View}
use Rattle.lst_rule.specs.Rule.{knows, hosts, Allowed}
use Rattle.lst_rule.specs.Learned.{Possible}
use Rattle.lst_rule.proofs.Knowing.{is_fact, knows_own, whole_words}
use Rattle.lst_rule.specs.Copies.{Version, fact_of, tails_of, AreKnown, IsChainFrom, IsCopy}
use Rattle.lst_rule.specs.Seen.{is_early, sees, SeesAlike}
use Rattle.lst_rule.specs.Judging.{AreClosed, IsJudged}
use Rattle.lst_rule.specs.Watching.{IsStamped}
use Rattle.lst_rule.proofs.StatusTelling.{state_tells, stamped_at}
use Rattle.lst_rule.proofs.Writing.{line_is}
use Rattle.lst_write.specs.Judgements.{HasJudged, FoundNewer, FoundUnfinished}
use Rattle.lst_refinement.specs.Telling.{told}
use Rattle.lst_refinement.specs.Laws.{AllClosed, Conflicts}
use Rattle.lst_refinement.proofs.Rivals.{conflicts_are_told}
use Rattle.lst_refinement.proofs.Owns.{sights_are_told}
use Rattle.lst_session.specs.Crews.{words_of}
use Rattle.lst_session.proofs.Crewed.{IsCrewView, core_of, allowed_whole, known_is, is_crew}

-- the words with another indirection word of the record
abbrev pub with_head : Words → ℕ → ℕ → Words
with_head w rec x = record w { heads = put w.heads rec x }

-- and with its latch bit set
abbrev pub with_latch : Words → ℕ → Words
with_latch w rec = with_head w rec (2 * (w.heads rec / 2) + 1)

-- the session has latched the record since the view was u, and then only looked
pub record IsHeld (u m : View) (s rec head : ℕ) : Type 0 where
  pub possible : Possible m
  pub limits : m.limits ≡ u.limits
  pub whole : m.whole ≡ true
  pub is_open : (knows m s).is_open ≡ true
  pub latch : (knows m s).hold.latch ≡ rec + 1
  pub head_is : (knows m s).hold.head ≡ head
  pub alike : SeesAlike (knows u s) (knows m s)
  pub stamped : IsStamped (with_latch (words_of u) rec) (words_of m)

-- ---- lists of versions

tails_append : (xs ys : List Version) → tails_of (xs ++ ys) ≡ tails_of xs ++ tails_of ys
tails_append [] ys = refl
tails_append (x ∷ xs) ys = ap (λ (ts : List ℕ). x.tail ∷ ts) (tails_append xs ys)

known_first : (facts : List Fact) (xs ys : List Version) → AreKnown facts (xs ++ ys) → AreKnown facts xs
known_first facts [] ys known = tt
known_first facts (x ∷ xs) ys known = (known.0, known_first facts xs ys known.1)

known_rest : (facts : List Fact) (xs ys : List Version) → AreKnown facts (xs ++ ys) → AreKnown facts ys
known_rest facts [] ys known = known
known_rest facts (x ∷ xs) ys known = known_rest facts xs ys known.1

-- a judged list: versions that are closed, and then one that is seen, or none
abbrev IsStop : Known → ℕ → List Version → Type 0
IsStop k s [] = Unit {0}
IsStop k s (c ∷ older) = sees k s c.writer ≡ true

record Split (k : Known) (s : ℕ) (copy : List Version) : Type 0 where
  passed : List Version
  rest : List Version
  is : copy ≡ passed ++ rest
  closed : AreClosed k.facts passed
  stop : IsStop k s rest

split : (k : Known) (s : ℕ) (copy : List Version) → IsJudged k s copy → Split k s copy
split k s [] judged = record { passed = []; rest = []; is = refl; closed = tt; stop = tt }
split k s (c ∷ cs) (inl seen) = record { passed = []; rest = c ∷ cs; is = refl; closed = tt; stop = seen }
split k s (c ∷ cs) (inr judged) = let q = split k s cs judged.1 in record { passed = c ∷ q.passed; rest = q.rest; is = ap (λ (ds : List Version). c ∷ ds) q.is; closed = (judged.0, q.closed); stop = q.stop }

-- ---- what stays of the words

module _ (l : Limits) (a b : Words) (rec : ℕ) (stamped : IsStamped (with_latch a rec) b) where
  half : b.heads rec / 2 ≡ a.heads rec / 2
  half = let e : b.heads rec ≡ 2 * (a.heads rec / 2) + 1 = ap (λ (w : Words). w.heads rec) stamped.rest ∙ put_here a.heads rec (2 * (a.heads rec / 2) + 1) in omega arith

  pub line_same : line l b rec ≡ line l a rec
  line_same = λ i. chain_of (λ t. tail_at l.tails (tail_range l.tails t) (stamped.others t 2 (omega arith) i)) (tail_at l.tails (range_of rec) (half i))

  pub state_same : (t : ℕ) → state_at b t ≡ state_at a t
  state_same t = (λ i. entry (stamped.rest i).states (writer_at b t)) ∙ ap (entry a.states) (stamped.writers t)

module _ (u : View) (p : Possible u) (crew : IsCrewView u) (m : View) (s rec head : ℕ) (held : IsHeld u m s rec head) (low : s < u.limits.sessions) (is_on : (knows u s).is_open ≡ true) (inside : rec < record_count u.limits) (placed : is_placed u.limits (words_of u).index rec ≡ true) where
  abbrev c : Core
  c = core_of u crew p

  abbrev a : Words
  a = words_of u

  abbrev b : Words
  b = words_of m

  abbrev k : Known
  k = knows m s

  abbrev q : Possible m
  q = held.possible

  sure : Allowed m m.words q.known q.merger
  sure = whole_words m q.words q.known q.merger q.allowed held.whole

  low_here : s < m.limits.sessions
  low_here = subst (λ (l : Limits). s < l.sessions) (sym held.limits) low

  hosted_here : hosts m s ≡ true
  hosted_here = sure.all held.whole s (let h = low_here in omega arith)

  is_on_known : (p.known s).is_open ≡ true
  is_on_known = ap (λ (x : Known). x.is_open) (sym (known_is u crew p s low)) ∙ is_on

  begin_is : k.begin ≡ (p.known s).begin
  begin_is = held.alike.begin ∙ ap (λ (x : Known). x.begin) (known_is u crew p s low)

  -- the chain
  chain_here : (copy : List Version) → IsChainFrom m.limits k.facts rec head copy → line u.limits a rec ≡ tails_of copy
  chain_here copy is = sym (line_same u.limits a b rec held.stamped) ∙ (ap (λ (l : Limits). line l b rec) (sym held.limits) ∙ line_is m m.words q.known q.merger sure s hosted_here low_here rec copy held.latch
      (subst (λ (h : ℕ). IsChainFrom m.limits k.facts rec h copy) (sym held.head_is) is))

  -- a version and its transaction
  writer_here : (d : Version) → Contains k.facts (fact_of d) → writer_at a d.tail ≡ d.writer
  writer_here d known = sym (held.stamped.writers d.tail) ∙ (is_fact m m.words q.known q.merger sure s hosted_here (fact_of d) known).1

  state_here : (d : Version) → Contains k.facts (fact_of d) → state_at a d.tail ≡ entry b.states d.writer
  state_here d known = sym (state_same u.limits a b rec held.stamped d.tail) ∙ ap (entry b.states) (is_fact m m.words q.known q.merger sure s hosted_here (fact_of d) known).1

  -- it is one of a session of the store
  begun_here : (d : Version) → Contains k.facts (fact_of d) → d.writer % 16 < m.limits.sessions
  begun_here d known = let f = is_fact m m.words q.known q.merger sure s hosted_here (fact_of d) known in subst (λ (x : ℕ). x % 16 < m.limits.sessions) f.1 (sure.sound.versions.stored d.tail f.0).begun.0

  closed_here : (ds : List Version) → AreKnown k.facts ds → AreClosed k.facts ds → AllClosed a (tails_of ds)
  closed_here [] known closed t has = absurd has
  closed_here (d ∷ ds) known closed t (inl e) = subst (λ (x : ℕ). state_at a x ≡ 1) (sym e) (state_here d known.0 ∙ (is_fact m m.words q.known q.merger sure s hosted_here (StateAt (d.writer % 16) (d.writer / 16) 1) closed.0).1)
  closed_here (d ∷ ds) known closed t (inr has) = closed_here ds known.1 closed.1 t has

  -- what the machine says of the key
  abbrev conflict : Option Cause
  conflict = conflict_of (told c) s (p.known s).begin (a.keys rec)

  conflicts_at : (passed rest : List Version) → IsCopy m.limits k.facts rec head (passed ++ rest) → AreClosed k.facts passed → Conflicts c s rec (tails_of passed) (tails_of rest) conflict
  conflicts_at passed rest copy closed = conflicts_are_told c (is_crew u crew p) s rec (tails_of passed) (tails_of rest) low is_on_known inside placed
      (chain_here (passed ++ rest) copy.chain ∙ tails_append passed rest)
      (closed_here passed (known_first k.facts passed rest copy.chain.known) closed)

  -- none, where the chain is judged
  stop_none : (rest : List Version) → AreKnown k.facts rest → IsStop k s rest → (passed : List Version) → Conflicts c s rec (tails_of passed) (tails_of rest) conflict → conflict ≡ None
  stop_none [] known stop passed says = says.none refl
  stop_none (d ∷ older) known stop passed says = ⊎_elim
      (λ (early : is_early k d.writer ≡ true). let r = until_says k.begin (entry b.states d.writer) (sym (state_tells m m.words q.known q.merger sure s hosted_here held.is_open d.writer (begun_here d known.0)) ∙ early) in
      let some = r.0 in let most = r.1 in let e = begin_is in let state = state_here d known.0 in
      says.seen d.tail (entry b.states d.writer - 1) (tails_of older) refl (omega arith) (omega arith) (omega arith))
      (λ (mine : eqb d.writer (name_of s k.number) ≡ true). says.own d.tail (tails_of older) refl
      (writer_here d known.0 ∙ (eqb-true d.writer (name_of s k.number) mine ∙ ap (name_of s) (held.alike.number ∙ ap (λ (x : Known). x.number) (known_is u crew p s low)))))
      (or_says (is_early k d.writer) (eqb d.writer (name_of s k.number)) stop)

  pub judged_none : HasJudged m.limits (knows m s) s rec head → conflict_of (told (core_of u crew p)) s (p.known s).begin ((words_of u).keys rec) ≡ None
  judged_none (copy, is, judged) = let r = split k s copy judged in
      let whole : IsCopy m.limits k.facts rec head (r.passed ++ r.rest) = subst (λ (ds : List Version). IsCopy m.limits k.facts rec head ds) r.is is in
      stop_none r.rest (known_rest k.facts r.passed r.rest whole.chain.known) r.stop r.passed (conflicts_at r.passed r.rest whole r.closed)

  -- a newer commit
  pub newer_is : (time : ℕ) → FoundNewer m.limits (knows m s) rec head time → conflict_of (told (core_of u crew p)) s (p.known s).begin ((words_of u).keys rec) ≡ Some (Newer time)
  newer_is time f = let d : Version = f.version in let known = (known_rest k.facts f.passed (f.version ∷ f.older) f.stops.copy.chain.known).0 in
      (conflicts_at f.passed (f.version ∷ f.older) f.stops.copy f.stops.closed).newer d.tail time (tails_of f.older) refl
      (state_here d known ∙ ⊎_elim
      (λ (h : Contains k.facts (CommitAt time (d.writer % 16) (d.writer / 16))). (stamped_at m m.words q.known q.merger sure s hosted_here held.is_open time d.writer (is_fact m m.words q.known q.merger sure s hosted_here (CommitAt time (d.writer % 16) (d.writer / 16)) h)).0)
      (λ (h : Contains k.facts (StateAt (d.writer % 16) (d.writer / 16) (time + 1))). (is_fact m m.words q.known q.merger sure s hosted_here (StateAt (d.writer % 16) (d.writer / 16) (time + 1)) h).1)
      f.committed)
      (let high = f.above in let e = begin_is in omega arith)

  -- between two calls each state word is by the clock
  by_clock : (j n : ℕ) → j < u.limits.sessions → a.states j n ≤ a.clock + 1
  by_clock j n few = let runs = (allowed_whole u crew p).sound.each j few in let idle = ((is_crew u crew p).idle j few).turn in dite (ℕ_discrete n (p.known j).number)
      (λ e. subst (λ (x : ℕ). a.states j x ≤ a.clock + 1) (sym e) (runs.settled_last (λ f. omega arith)))
      (λ ne. runs.settled n ne)

  -- an unfinished transaction
  pub unfinished_is : (v : View) (j n : ℕ) → FoundUnfinished v m s rec head j n → conflict_of (told (core_of u crew p)) s (p.known s).begin ((words_of u).keys rec) ≡ Some (Unfinished j n)
  unfinished_is v j n f = let d : Version = f.version in let known = (known_rest k.facts f.passed (f.version ∷ f.older) f.stops.copy.chain.known).0 in
      let by = writer_here d known in let name : d.writer ≡ 16 * n + j = f.writer in let other = f.other in let most = sure.sound.sized.sessions.1 in let few = session_low in
      (conflicts_at f.passed (f.version ∷ f.older) f.stops.copy f.stops.closed).unfinished d.tail (tails_of f.older) refl (state_here d known ∙ (in_place ∙ not_done)) (λ e. other (omega arith))
      ∙ (λ i. Some (Unfinished (let e : writer_at a d.tail % 16 ≡ j = omega arith in e i) (let e : writer_at a d.tail / 16 ≡ n = omega arith in e i)))
    where
      session_low : j < m.limits.sessions
      session_low = let find : Find = UnfinishedVersion (rec + 1) f.version.tail j n (k.begin + 1) in
          let has : Contains k.finds find = subst (λ (fs : List Find). Contains fs find) (sym f.found.grows) (Contains-append_right (knows v s).finds f.found.more find f.found.here) in
          ((sure.sound.found s low_here).each find (subst (λ (x : Known). Contains x.finds find) (knows_own m m.words q.known q.merger sure s hosted_here (λ e. let h = low_here in omega arith)) has)).0

      in_place : entry b.states f.version.writer ≡ b.states j n
      in_place = let name : f.version.writer ≡ 16 * n + j = f.writer in let most = sure.sound.sized.sessions.1 in let few = session_low in
          λ i. b.states (let e : f.version.writer % 16 ≡ j = omega arith in e i) (let e : f.version.writer / 16 ≡ n = omega arith in e i)

      not_done : b.states j n ≡ 0
      not_done = ⊎_elim (λ (e : b.states j n ≡ 0). e)
          (λ (high : b.clock + 1 < b.states j n). let e : b.states j n ≡ a.states j n = ap (λ (w : Words). w.states j n) held.stamped.rest in let g : b.clock ≡ a.clock = ap (λ (w : Words). w.clock) held.stamped.rest in
          let least = by_clock j n (subst (λ (l : Limits). j < l.sessions) held.limits session_low) in absurd (omega arith))
          (f.live held.whole)

  -- ---- the row

  pub row_is : row_of (sight_of u.limits (told (core_of u crew p)) s (p.known s).begin) ((words_of u).keys rec) ≡ row_from None (sight (knows m s) ((words_of u).keys rec))
  row_is = row_told ((words_of u).keys rec)
    where
      row_told : (key : ℕ) → row_of (sight_of u.limits (told c) s (p.known s).begin) key ≡ row_from None (sight k key)
      row_told key = sights_are_told c (is_crew u crew p) s key low is_on_known ∙ (ap (λ (x : Known). row_from None (sight x key)) (sym (known_is u crew p s low)) ∙ ap (row_from None) (sym (λ i. all_acts_on key (held.alike.front i) ++ acts_on key (held.alike.own i))))
