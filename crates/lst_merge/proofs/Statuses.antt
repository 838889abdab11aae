-- The status of a tail, by the start word that was loaded and the status that was asked for.
use Rattle.std.proofs.Common.{◌≡◌, ◌≢◌, ◌⊎◌, ⊎_elim, ℕ, zero, suc, ◌+◌, ◌*◌, ◌/◌, ◌%◌, ◌^◌, ◌<◌, ◌≤◌, List, [], ◌∷◌, ◌++◌, Bool, true, false, cond, eqb, ◌&&◌, length, Contains, refl, sym, subst, ap, ◌∙◌, arith, inl, inr, eq-eqb, ne_eqb, slice_index_or}
use Rattle.std.proofs.lemmas.List.Elements.{Contains-append_right}
use mathlib.Core.Logic.{dite}
use native.Mathlib.Decide.{ℕ_discrete}
use Rattle.lst_bits.specs.declared.starts.Start.{Start}
use Rattle.lst_bits.specs.declared.starts.Start.TheVariants as start
use Rattle.lst_bits.specs.Starts.{start_of, IsStartWord}
use Rattle.lst_layout.specs.Addresses.{IsWithin}
use Rattle.lst_layout.specs.Limits.{IsValid}
use Rattle.lst_layout.specs.Words.{Words, shown}
use Rattle.lst_layout.specs.declared.limits.Limits.{Limits}
use Rattle.lst_layout.specs.declared.place.Place.TheVariants.{CellWord, StateWord}
use Rattle.lst_core_state.specs.declared.facts.Fact.{Fact}
use Rattle.lst_core_state.specs.declared.facts.Fact.TheVariants.{StateAt, CellIs, CommitAt}
use Rattle.lst_core_state.specs.declared.facts.Find.TheVariants.{EmptyStart, TailLoad, UnfinishedVersion}
use Rattle.lst_core_state.specs.declared.known.Known.{Known}
use Rattle.lst_core_state.specs.Cells.{tail_count}
use Rattle.lst_core_state.specs.Facts.{IsFact, unfinished}
use Rattle.lst_core_state.specs.State.{state_at, name_of}
use Rattle.lst_core_state.proofs.Sights.{is_false}
use Rattle.lst_pages.specs.Settled.{tail_by, is_settled}
use Rattle.lst_pages.proofs.Growing.{settled_says}
use Rattle.lst_rule.specs.declared.view.View.{View}
use Rattle.lst_rule.specs.Rule.{knows, hosts}
use Rattle.lst_rule.specs.Learned.{Possible}
use Rattle.lst_rule.specs.declared.status.Status.TheVariants.{Empty, Unfinished, Closed, Committed}
use Rattle.lst_rule.specs.Statuses.{IsNamed, SaysAt, Says, Answers, StatusOf, Asked, FoundSince, KnownCommitted}
use Rattle.lst_layout.specs.declared.layout.Layout.{Layout}
use Rattle.lst_rule.specs.declared.store.Store.{Store}
use Rattle.lst_rule.specs.Seats.{Sitting}
use Rattle.lst_rule.specs.Stores.{IsSeatOf, Looked}
use Rattle.lst_rule.proofs.Asking.{looked_words, found_later}
use Rattle.lst_rule.proofs.Knowing.{is_fact, knows_merger, whole_words}
use Rattle.lst_rule.proofs.Stating.{asked_state}
use Rattle.lst_rule.specs.Copies.{Version, fact_of}
use Rattle.lst_rule.specs.Laws.{TailFound}
use Rattle.lst_rule.proofs.Finding.{tails_are_found}
use Rattle.lst_merge.specs.Inspections.{merger_of, Inspects}
use Rattle.lst_merge.specs.declared.tails.Tail.{Tail}
use Rattle.lst_merge.specs.Tails.{IsTail}
use Rattle.lst_merge.specs.Runs.{IsEnded, HasSettled, SettledAt, FoundUnsettled, IsUnsettledIn, Unsettled}
use Rattle.lst_merge.proofs.Inspecting.{inspects_on, inspects_asked, inspects_cell, facts_stay}
use Rattle.lst_merge.proofs.Settling.{settles_as, settled_stays}

-- ---- a start word

start_odd : (x : ℕ) → x % 2 ≡ 1 → start_of x ≡ start.By (x / 2 % 16) (x / 2 / 16)
start_odd x odd = ap (λ (b : Bool). cond b (start.By (x / 2 % 16) (x / 2 / 16)) (cond (eqb x 0) start.Empty (start.At (x / 2)))) (eq-eqb (x % 2) 1 odd)

start_even : (x : ℕ) → x % 2 ≢ 1 → start_of x ≡ cond (eqb x 0) start.Empty (start.At (x / 2))
start_even x even = ap (λ (b : Bool). cond b (start.By (x / 2 % 16) (x / 2 / 16)) (cond (eqb x 0) start.Empty (start.At (x / 2)))) (ne_eqb (x % 2) 1 even)

-- it names a transaction, is empty, or holds a time
start_cases : (P : Start → Type 0) (x : ℕ) → P (start_of x) → ((x % 2 ≡ 1) × P (start.By (x / 2 % 16) (x / 2 / 16))) ⊎ (((x ≡ 0) × P start.Empty) ⊎ ((x % 2 ≢ 1) × (0 < x) × P (start.At (x / 2))))
start_cases P x p = dite (ℕ_discrete (x % 2) 1)
    (λ odd. inl (odd, subst P (start_odd x odd) p))
    (λ even. inr (dite (ℕ_discrete x 0)
    (λ none. inl (none, subst P (start_even x even ∙ ap (λ (b : Bool). cond b start.Empty (start.At (x / 2))) (eq-eqb x 0 none)) p))
    (λ some. inr (even, omega arith, subst P (start_even x even ∙ ap (λ (b : Bool). cond b start.Empty (start.At (x / 2))) (ne_eqb x 0 some)) p))))

-- ---- the load of the start word

module _ (v u : View) (s t x : ℕ) (hosted : hosts v s ≡ true) (some : 0 < t) (few : t ≤ tail_count v.limits) (looked : Looked v u s (CellWord t 0) x) where
  pub found : 0 < x → TailFound u s t x
  found positive = tails_are_found v u s t x hosted some few looked.met positive

  -- an odd start word names the version's transaction
  pub named : (positive : 0 < x) → x % 2 ≡ 1 → (found positive).version.writer ≡ x / 2
  named positive odd = let is = (found positive).start.named odd in omega arith

  pub start_named : IsNamed u.limits x
  start_named odd = let positive : 0 < x = omega arith in let f = found positive in let is = named positive odd in let session = f.is.session in let begun = f.is.begun in let number = f.is.number in
      subst (λ (y : ℕ). IsWithin u.limits (StateWord (y % 16) (y / 16))) is (session, begun, number)

  pub start_word : IsValid v.limits → x < 2 ^ 64 → IsStartWord x
  start_word valid low = (low, λ odd. let positive : 0 < x = omega arith in let f = found positive in let is = named positive odd in let number = f.is.number in let txns : u.limits.txns ≤ 65535 = subst (λ (l : Limits). l.txns ≤ 65535) (sym looked.view.limits) valid.txns.1 in omega arith)

  -- a tail whose start word is 0 isn't settled
  pub empty_found : x ≡ 0 → FoundSince (knows v s) (knows u s) (EmptyStart t)
  empty_found none = (
    TailLoad t ∷ cond (eqb 0 0 && eqb ((shown v.limits looked.met.made.told.words).cells t 0) 0) (EmptyStart t ∷ []) [],
    ap (λ (k : Known). k.finds) looked.view.now,
    subst (λ (b : Bool). Contains (TailLoad t ∷ cond b (EmptyStart t ∷ []) []) (EmptyStart t)) (sym (eq-eqb ((shown v.limits looked.met.made.told.words).cells t 0) 0 (looked.met.found ∙ none))) (1, omega arith, refl),
  )

  pub empty_unknown : x ≡ 0 → HasSettled (knows v s) t → ⊥
  empty_unknown none h = let m = looked.met.made.told in let q = settled_says (shown v.limits m.words) t (settles_as v m.words m.known m.merger m.allowed s hosted t h.0 h.1).settled in
      let some = q.0 in let is : (shown v.limits m.words).cells t 0 ≡ 0 = looked.met.found ∙ none in absurd (omega arith)

  -- ---- the status

  module _ (w : View) (asked : Asked u w s) where
    later : (f : Fact) → Contains (knows u s).facts f → Contains (knows w s).facts f
    later = facts_stay u w s (inspects_asked u w s asked)

    settled_by : (positive : 0 < x) (time : ℕ) → IsEnded (knows w s) (found positive).version.writer time → SettledAt (knows w s) t time
    settled_by positive time ended = let f = found positive in let c : Version = f.version in (
      tail_by c.encoding c.values time,
      refl,
      record {
        writer = c.writer;
        encoding = c.encoding;
        back = c.back;
        values = c.values;
        cell = subst (λ (y : ℕ). Contains (knows w s).facts (CellIs y c.writer c.encoding c.back c.values)) f.at (later (fact_of c) f.known);
        ended = ended;
        is = refl;
      },
    )

    pub closed_settled : StatusOf (start_of x) u w s Closed → SettledAt (knows w s) t 0
    closed_settled is = ⊎_elim
        (λ (h : (x % 2 ≡ 1) × Answers u w s (x / 2 % 16) (x / 2 / 16) Closed). let odd = h.0 in let positive : 0 < x = omega arith in settled_by positive 0 (subst (λ (y : ℕ). Contains (knows w s).facts (StateAt (y % 16) (y / 16) 1)) (sym (named positive h.0)) h.1.known))
        (λ rest. ⊎_elim
        (λ (h : (x ≡ 0) × ((Closed ≡ Empty) × (w ≡ u))). absurd (let e : Closed ≡ Empty = h.1.0 in cc))
        (λ (h : (x % 2 ≢ 1) × (0 < x) × ((Closed ≡ Committed (x / 2)) × (w ≡ u))). absurd (let e : Closed ≡ Committed (x / 2) = h.2.0 in cc)) rest)
        (start_cases (λ (a : Start). StatusOf a u w s Closed) x is)

    ended_at : (name time : ℕ) → 0 < time → time ≤ length (knows w s).seen → Contains (knows w s).facts (StateAt (name % 16) (name / 16) (time + 1)) → IsEnded (knows w s) name time
    ended_at name zero some seen fact = absurd (omega arith)
    ended_at name (suc n) some seen fact = inl (seen, fact)

    logged_at : (name time : ℕ) → 0 < time → Contains (knows w s).facts (CommitAt time (name % 16) (name / 16)) → IsEnded (knows w s) name time
    logged_at name zero some fact = absurd (omega arith)
    logged_at name (suc n) some fact = inr fact

    pub committed_settled : (time : ℕ) → x < 2 ^ 64 → StatusOf (start_of x) u w s (Committed time) → (time < 2 ^ 63) × SettledAt (knows w s) t time
    committed_settled time wide is = ⊎_elim
        (λ (h : (x % 2 ≡ 1) × Answers u w s (x / 2 % 16) (x / 2 / 16) (Committed time)). let k : KnownCommitted (knows w s) (x / 2 % 16) (x / 2 / 16) time = h.1.known in let low = k.few in let odd = h.0 in let positive : 0 < x = omega arith in (
          (omega arith),
          settled_by positive time (subst (λ (y : ℕ). IsEnded (knows w s) y time) (sym (named positive h.0)) (ended_at (x / 2) time k.some k.seen k.fact)),
        ))
        (λ rest. ⊎_elim
        (λ (h : (x ≡ 0) × ((Committed time ≡ Empty) × (w ≡ u))). absurd (let e : Committed time ≡ Empty = h.1.0 in cc))
        (λ (h : (x % 2 ≢ 1) × (0 < x) × ((Committed time ≡ Committed (x / 2)) × (w ≡ u))). let same : time ≡ x / 2 = (let e : Committed time ≡ Committed (x / 2) = h.2.0 in cc) in
        let f = found h.1 in let odd = h.0 in let stamp = f.start.stamped (omega arith) in (
          (omega arith),
          settled_by h.1 time (subst (IsEnded (knows w s) f.version.writer) (sym same) (logged_at f.version.writer (x / 2) stamp.0 (later (CommitAt (x / 2) (f.version.writer % 16) (f.version.writer / 16)) stamp.1))),
        )) rest)
        (start_cases (λ (a : Start). StatusOf a u w s (Committed time)) x is)

    -- the start word names the transaction that was found unfinished
    answered : (session number : ℕ) → StatusOf (start_of x) u w s (Unfinished session number) → (x % 2 ≡ 1) × Answers u w s (x / 2 % 16) (x / 2 / 16) (Unfinished session number)
    answered session number is = ⊎_elim
        (λ (h : (x % 2 ≡ 1) × Answers u w s (x / 2 % 16) (x / 2 / 16) (Unfinished session number)). h)
        (λ rest. ⊎_elim
        (λ (h : (x ≡ 0) × ((Unfinished session number ≡ Empty) × (w ≡ u))). absurd (let e : Unfinished session number ≡ Empty = h.1.0 in cc))
        (λ (h : (x % 2 ≢ 1) × (0 < x) × ((Unfinished session number ≡ Committed (x / 2)) × (w ≡ u))). absurd (let e : Unfinished session number ≡ Committed (x / 2) = h.2.0 in cc)) rest)
        (start_cases (λ (a : Start). StatusOf a u w s (Unfinished session number)) x is)

    module _ (odd : x % 2 ≡ 1) where
      abbrev j : ℕ
      j = x / 2 % 16

      abbrev n : ℕ
      n = x / 2 / 16

      positive : 0 < x
      positive = omega arith

      abbrev version : TailFound u s t x
      version = found positive

      inspects : Inspects v u s
      inspects = inspects_cell v u s t 0 x looked

      host : hosts u s ≡ true
      host = ap (λ (hs : List Bool). slice_index_or hs s false) looked.view.hosted ∙ hosted

      -- the state word of the tail, where the facts are so
      state_is : (W : Words) → IsFact u.limits W (fact_of version.version) → state_at W t ≡ W.states j n
      state_is W f = let q = version in ap (state_at W) (sym q.at) ∙ ap (λ (y : ℕ). W.states (y % 16) (y / 16)) (f.1 ∙ named positive odd)

      pub unfinished_found : s ≡ u.limits.sessions → FoundSince (knows u s) (knows w s) (unfinished (knows u s) j n) → FoundUnsettled (knows v s) (knows w s) t
      unfinished_found merger since = let q = version in let k : Known = knows u s in
          let told = looked.met.made.told in
          let idle : k.is_open ≡ false = ap (λ (m : Known). m.is_open) (knows_merger u _ _ _ told.after s host merger) ∙ told.after.sound.merger_idle in
          let same : 1 + 2 * name_of j n ≡ x = omega arith in
          let here : eqb k.looks.start (1 + 2 * name_of j n) ≡ true = eq-eqb k.looks.start (1 + 2 * name_of j n) (q.start.start ∙ sym same) in
          let find : unfinished k j n ≡ UnfinishedVersion k.looks.about t j n 0 = (λ i. UnfinishedVersion (cond (here i) k.looks.about 0) (cond (here i) ((q.start.tail ∙ q.at) i) 0) j n (cond (idle i) (k.begin + 1) 0)) in
          inr (k.looks.about, j, n, found_later (knows v s) k (knows w s) inspects.finds (UnfinishedVersion k.looks.about t j n 0) (ap (λ (m : Known). m.finds) inspects.view.now) (subst (FoundSince k (knows w s)) find since))

      -- it wasn't known to be settled
      state_fact : (between : View) (y : ℕ) → 0 < y → SaysAt u between s j n y → Contains (knows between s).facts (StateAt j n y)
      state_fact between y positive k = subst (λ (m : Known). Contains m.facts (StateAt j n y)) (sym k.view.now)
          (subst (λ (b : Bool). Contains ((knows u s).facts ++ cond b [] (StateAt j n y ∷ [])) (StateAt j n y)) (sym (ne_eqb y 0 (λ e. omega arith))) (Contains-append_right (knows u s).facts (StateAt j n y ∷ []) (StateAt j n y) (0, omega arith, refl)))

      pub unfinished_unknown : (a b : ℕ) → Says u w s j n (Unfinished a b) → HasSettled (knows v s) t → ⊥
      unfinished_unknown a b (e, f, inl k) h = let m = k.load.met.made.told in let W : Words = shown u.limits m.words in
          let settled = settled_says W t (settles_as u m.words m.known m.merger m.allowed s host t h.0 (settled_stays v u s inspects t h.0 h.1)).settled in
          let same = state_is W (is_fact u m.words m.known m.merger m.allowed s host (fact_of version.version) version.known) in
          let none : W.states j n ≡ 0 = k.load.met.found in let some = settled.1 in absurd (omega arith)
      unfinished_unknown a b (e, f, inr (y, k)) h = let z : View = k.between in let between : Inspects u z s = inspects_asked u z s (asked_state u z s j n y k.state.load) in
          let r = k.says.3 in let m = r.load.looked.met.made.told in let W : Words = shown z.limits m.words in
          let there : hosts z s ≡ true = ap (λ (hs : List Bool). slice_index_or hs s false) between.view.hosted ∙ host in
          let above : 1 < y = k.above in
          let settled = settled_says W t (settles_as z m.words m.known m.merger m.allowed s there t h.0 (settled_stays u z s between t h.0 (settled_stays v u s inspects t h.0 h.1))).settled in
          let cell : IsFact u.limits W (fact_of version.version) = subst (λ (l : Limits). IsFact l W (fact_of version.version)) between.view.limits (is_fact z m.words m.known m.merger m.allowed s there (fact_of version.version) (facts_stay u z s between (fact_of version.version) version.known)) in
          let same = state_is W cell in
          let state : W.states j n ≡ y = (is_fact z m.words m.known m.merger m.allowed s there (StateAt j n y) (state_fact z y (omega arith) k.state)).1 in
          let clock : W.clock ≡ r.clock = r.load.looked.met.found in
          let seen : length (knows w s).seen ≡ r.clock = ap (λ (q : Known). length q.seen) r.load.view.now ∙ r.load.clock in
          let low = k.says.2 in let most = settled.2 in absurd (omega arith)

      pub unfinished_words : (a b : ℕ) → Possible w → Answers u w s j n (Unfinished a b) → IsUnsettledIn w t
      unfinished_words a b p answers whole = is_false (is_settled (shown w.limits w.words) t) (λ yes. let W : Words = shown w.limits w.words in
          let step : Inspects u w s = inspects_asked u w s asked in
          let there : hosts w s ≡ true = ap (λ (hs : List Bool). slice_index_or hs s false) step.view.hosted ∙ host in
          let cell : IsFact u.limits W (fact_of version.version) = subst (λ (l : Limits). IsFact l W (fact_of version.version)) step.view.limits
          (is_fact w w.words p.known p.merger (whole_words w p.words p.known p.merger p.allowed whole) s there (fact_of version.version) (later (fact_of version.version) version.known)) in
          let same = state_is W cell in let settled = settled_says W t yes in let some = settled.1 in let most = settled.2 in
          ⊎_elim (λ (none : W.states j n ≡ 0). absurd (omega arith)) (λ (high : W.clock + 1 < W.states j n). absurd (omega arith)) (answers.stored whole))

  -- where the view knows each word
  pub empty_words : x ≡ 0 → IsUnsettledIn u t
  empty_words none whole = is_false (is_settled (shown u.limits u.words) t) (λ yes. let settled = settled_says (shown u.limits u.words) t yes in let some = settled.0 in
      let same : (shown u.limits u.words).cells t 0 ≡ x = ap (λ (W : Words). W.cells t 0) (looked_words v u s x (CellWord t 0) looked whole) ∙ looked.met.found in absurd (omega arith))

-- ---- what was found of the tail

pub merger_is : (store : Store) (seat : Sitting) (layout : Layout) → IsSeatOf store seat → layout ≡ store.layout → layout.limits.sessions ≡ seat.view.limits.sessions
merger_is store seat layout is same = ap (λ (y : Layout). y.limits.sessions) same ∙ ap (λ (l : Limits). l.sessions) (sym is.limits)

pub tail_merger : (store : Store) (seat : Sitting) (t : Tail) → IsSeatOf store seat → IsTail store.layout.limits t → t.merger ≡ seat.view.limits.sessions
tail_merger store seat t is tail = tail.merger ∙ ap (λ (l : Limits). l.sessions) (sym is.limits)

module _ (v u w : View) (s t x : ℕ) (e : s ≡ v.limits.sessions) (hosted : hosts v v.limits.sessions ≡ true) (some : 0 < t) (few : t ≤ tail_count v.limits) (looked : Looked v u s (CellWord t 0) x) (asked : Asked u w s) where
  host_s : hosts v s ≡ true
  host_s = ap (hosts v) e ∙ hosted

  inspects_s : Inspects v w s
  inspects_s = inspects_on v u w s (inspects_cell v u s t 0 x looked) (inspects_asked u w s asked)

  pub inspects_status : Inspects v w v.limits.sessions
  inspects_status = subst (Inspects v w) e inspects_s

  merger_was : knows v s ≡ merger_of v
  merger_was = ap (knows v) e

  merger_now : knows w s ≡ merger_of w
  merger_now = ap (knows w) (e ∙ ap (λ (l : Limits). l.sessions) (sym inspects_s.view.limits))

  pub found_closed : StatusOf (start_of x) u w s Closed → (0 < 2 ^ 63) × SettledAt (merger_of w) t 0
  found_closed is = (omega arith, subst (λ (k : Known). SettledAt k t 0) merger_now (closed_settled v u s t x host_s some few looked w asked is))

  pub found_committed : (time : ℕ) → x < 2 ^ 64 → StatusOf (start_of x) u w s (Committed time) → (time < 2 ^ 63) × SettledAt (merger_of w) t time
  found_committed time wide is = let q = committed_settled v u s t x host_s some few looked w asked time wide is in (q.0, subst (λ (k : Known). SettledAt k t time) merger_now q.1)

  pub found_empty : StatusOf (start_of x) u w s Empty → Unsettled v w t
  found_empty is = ⊎_elim
      (λ (h : (x % 2 ≡ 1) × Answers u w s (x / 2 % 16) (x / 2 / 16) Empty). absurd h.1.known)
      (λ rest. ⊎_elim
      (λ (h : (x ≡ 0) × ((Empty ≡ Empty) × (w ≡ u))). record {
        found = subst (λ (z : Known × Known). FoundUnsettled z.0 z.1 t) (λ i. (merger_was i, (ap (λ (z : View). knows z s) (sym h.1.1) ∙ merger_now) i)) (inl (empty_found v u s t x host_s some few looked h.0));
        unknown = subst (λ (k : Known). HasSettled k t → ⊥) merger_was (empty_unknown v u s t x host_s some few looked h.0);
        words = subst (λ (z : View). IsUnsettledIn z t) (sym h.1.1) (empty_words v u s t x host_s some few looked h.0);
      })
      (λ (h : (x % 2 ≢ 1) × (0 < x) × ((Empty ≡ Committed (x / 2)) × (w ≡ u))). absurd (let f : Empty ≡ Committed (x / 2) = h.2.0 in cc)) rest)
      (start_cases (λ (a : Start). StatusOf a u w s Empty) x is)

  pub found_unfinished : (a b : ℕ) → Possible w → StatusOf (start_of x) u w s (Unfinished a b) → Unsettled v w t
  found_unfinished a b p is = let h = answered v u s t x host_s some few looked w asked a b is in record {
    found = subst (λ (z : Known × Known). FoundUnsettled z.0 z.1 t) (λ i. (merger_was i, merger_now i)) (unfinished_found v u s t x host_s some few looked w asked h.0 (e ∙ ap (λ (l : Limits). l.sessions) (sym looked.view.limits)) h.1.known.2.found);
    unknown = subst (λ (k : Known). HasSettled k t → ⊥) merger_was (unfinished_unknown v u s t x host_s some few looked w asked h.0 a b h.1.says);
    words = unfinished_words v u s t x host_s some few looked w asked h.0 a b p h.1;
  }
