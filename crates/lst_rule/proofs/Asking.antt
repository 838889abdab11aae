-- What the session that asked for a status knows of the transaction since, and what the words say.
use Rattle.std.proofs.Common.{◌≡◌, ⊎_elim, ℕ, ◌+◌, ◌-◌, ◌<◌, ◌≤◌, List, [], ◌∷◌, ◌++◌, Bool, true, length, cond, nat_lt, Contains, refl, sym, subst, ap, ◌∙◌, arith, inl, inr, append_assoc, slice_index_or, false, ne_eqb, lt-ltb}
use Rattle.std.proofs.lemmas.List.Elements.{Contains-append_left, Contains-append_right}
use mathlib.Core.Logic.{dite}
use native.Mathlib.Decide.{dec_lt}
use Rattle.lst_layout.specs.declared.limits.Limits.{Limits}
use Rattle.lst_layout.specs.declared.place.Place.{Place}
use Rattle.lst_layout.specs.declared.place.Place.TheVariants.{StateWord, ClockWord}
use Rattle.lst_layout.specs.Addresses.{IsWithin}
use Rattle.lst_layout.specs.Words.{Words, shown}
use Rattle.lst_core_state.specs.declared.known.Known.{Known}
use Rattle.lst_core_state.specs.declared.facts.Fact.TheVariants.{StateAt}
use Rattle.lst_core_state.specs.declared.facts.Find.{Find}
use Rattle.lst_core_state.specs.declared.facts.Find.TheVariants.{FreshClock}
use Rattle.lst_core_state.specs.Facts.{unfinished, active_find, early_find}
use Rattle.lst_core_state.specs.State.{history_of}
use Rattle.lst_core_state.proofs.Histories.{starts_length}
use Rattle.lst_rule.specs.declared.view.View.{View}
use Rattle.lst_rule.specs.Rule.{knows, hosts, Allowed}
use Rattle.lst_rule.proofs.Knowing.{is_fact, is_seen, clock_is, knows_own}
use Rattle.lst_rule.specs.declared.status.Status.{Status}
use Rattle.lst_rule.specs.declared.status.Status.TheVariants.{Empty, Unfinished, Closed, Committed}
use Rattle.lst_rule.specs.Stores.{Looked}
use Rattle.lst_rule.specs.Statuses.{Reads, SaysAt, SaysAfter, Says, FoundSince, KnownUnfinished, IsStoredAs, Answers}

-- the words that a view knows after a load are those that were met
pub looked_words : (v w : View) (s x : ℕ) (p : Place) (h : Looked v w s p x) → w.whole ≡ true → shown w.limits w.words ≡ shown v.limits h.met.made.told.words
looked_words v w s x p h whole = let known = sym h.view.whole ∙ whole in λ i. shown (h.view.limits i) ((h.kept.words known ∙ h.met.made.told.allowed.whole known) i)

-- a transaction of the session itself before its last one is closed, or committed by the clock
pub own_ended : (v : View) (words : List ℕ) (known : ℕ → Known) (merger : Known) → Allowed v words known merger → (s : ℕ) → hosts v s ≡ true → s < v.limits.sessions → (n : ℕ) → 0 < n → n < (knows v s).number
    → (0 < (shown v.limits words).states s n) × ((shown v.limits words).states s n ≤ (shown v.limits words).clock + 1)
own_ended v words known merger a s hosted low n some below = let r = a.sound.each s low in let same : (knows v s).number ≡ (known s).number = ap (λ (k : Known). k.number) (knows_own v words known merger a s hosted (λ e. omega arith)) in
    (r.ended n some (omega arith), r.settled n (λ e. omega arith))

-- a find that was made in a later part of a call
pub found_later : (u v w : Known) (more : List Find) (f : Find) → v.finds ≡ u.finds ++ more → FoundSince v w f → FoundSince u w f
found_later u v w more f is later = (more ++ later.0, later.1 ∙ (ap (λ (fs : List Find). fs ++ later.0) is ∙ append_assoc u.finds more later.0), Contains-append_right more later.0 f later.2)

-- ---- the load of the state word

module _ (v w : View) (s j n x : ℕ) (hosted : hosts v s ≡ true) (place : IsWithin v.limits (StateWord j n)) (k : SaysAt v w s j n x) where
  abbrev W : Words
  W = shown v.limits k.load.met.made.told.words

  found : W.states j n ≡ x
  found = k.load.met.found

  state_fact_is : 0 < x → Contains (knows w s).facts (StateAt j n x)
  state_fact_is some = subst (λ (u : Known). Contains u.facts (StateAt j n x)) (sym k.view.now)
      (subst (λ (b : Bool). Contains ((knows v s).facts ++ cond b [] (StateAt j n x ∷ [])) (StateAt j n x)) (sym (ne_eqb x 0 (λ e. omega arith))) (Contains-append_right (knows v s).facts (StateAt j n x ∷ []) (StateAt j n x) (0, omega arith, refl)))

  state_stored : w.whole ≡ true → (shown w.limits w.words).states j n ≡ x
  state_stored whole = ap (λ (u : Words). u.states j n) (looked_words v w s x (StateWord j n) k.load whole) ∙ found

  -- what was seen before has happened
  seen_past : (time : ℕ) → time ≤ length (knows w s).seen → time ≤ W.clock
  seen_past time low = let t = k.load.met.made.told in let most = starts_length (history_of v.limits W) (knows v s).seen (is_seen v t.words t.known t.merger t.allowed s hosted) in
      let all = (clock_is v t.words t.known t.merger t.allowed).0 in let same : length (knows w s).seen ≡ length (knows v s).seen = ap (λ (u : Known). length u.seen) k.view.now in omega arith

  -- active
  active_last : x ≡ 0 → j ≡ s → (knows v s).number ≤ n
  active_last none own = dite (dec_lt n (knows v s).number)
      (λ below. let t = k.load.met.made.told in let ended = own_ended v t.words t.known t.merger t.allowed s hosted (subst (λ (i : ℕ). i < v.limits.sessions) own place.0) n place.1 below in
      let here : W.states s n ≡ 0 = ap (λ (i : ℕ). W.states i n) (sym own) ∙ (found ∙ none) in let some = ended.0 in absurd (omega arith))
      (λ not. omega arith)

module _ (v w : View) (s j n : ℕ) (hosted : hosts v s ≡ true) (place : IsWithin v.limits (StateWord j n)) where
  closed_answers : SaysAt v w s j n 1 → Answers v w s j n Closed
  closed_answers k = record { says = k; known = state_fact_is v w s j n 1 hosted place k (omega arith); stored = state_stored v w s j n 1 hosted place k }

  active_answers : SaysAt v w s j n 0 → Answers v w s j n (Unfinished j n)
  active_answers k = record {
    says = (refl, refl, inl k);
    known = (
      refl,
      refl,
      record {
        found = (unfinished (knows v s) j n ∷ [], ap (λ (u : Known). u.finds) k.view.now, (0, omega arith, refl));
        last = active_last v w s j n 0 hosted place k refl;
      },
    );
    stored = λ whole. inl (state_stored v w s j n 0 hosted place k whole);
  }

-- ---- and one of the clock after it

module _ (v u w : View) (s j n x : ℕ) (hosted : hosts v s ≡ true) (place : IsWithin v.limits (StateWord j n)) (k : SaysAt v u s j n x) (committed : 1 < x) (r : Reads u w s) where
  abbrev V : Words
  V = shown u.limits r.load.looked.met.made.told.words

  hosted_then : hosts u s ≡ true
  hosted_then = ap (λ (bs : List Bool). slice_index_or bs s false) k.view.hosted ∙ hosted

  state_then : V.states j n ≡ x
  state_then = let t = r.load.looked.met.made.told in (is_fact u t.words t.known t.merger t.allowed s hosted_then (StateAt j n x) (state_fact_is v u s j n x hosted place k (omega arith))).1

  clock_then : V.clock ≡ length (knows w s).seen
  clock_then = r.load.looked.met.found ∙ (sym r.load.clock ∙ sym (ap (λ (q : Known). length q.seen) r.load.view.now))

  fact_then : Contains (knows w s).facts (StateAt j n x)
  fact_then = subst (λ (q : Known). Contains q.facts (StateAt j n x)) (sym r.load.view.now) (Contains-append_left (knows u s).facts r.load.index (StateAt j n x) (state_fact_is v u s j n x hosted place k (omega arith)))

  stored_then : (status : Status) → IsStoredAs V j n status → w.whole ≡ true → IsStoredAs (shown w.limits w.words) j n status
  stored_then status is whole = subst (λ (z : Words). IsStoredAs z j n status) (sym (looked_words u w s r.clock ClockWord r.load.looked whole)) is

  module _ (early : length (knows w s).seen < x - 1) where
    early_last : j ≡ s → (knows v s).number ≤ n
    early_last own = dite (dec_lt n (knows v s).number)
        (λ below. let t = r.load.looked.met.made.told in let same : (knows u s).number ≡ (knows v s).number = ap (λ (q : Known). q.number) k.view.now in
        let low : s < u.limits.sessions = subst (λ (i : ℕ). i < u.limits.sessions) own (subst (λ (i : ℕ). j < i) (ap (λ (l : Limits). l.sessions) (sym k.view.limits)) place.0) in
        let ended = own_ended u t.words t.known t.merger t.allowed s hosted_then low n place.1 (omega arith) in
        let here : V.states s n ≡ x = ap (λ (i : ℕ). V.states i n) (sym own) ∙ state_then in let e = clock_then in let most = ended.1 in absurd (omega arith))
        (λ not. omega arith)

    early_found : FoundSince (knows v s) (knows w s) (unfinished (knows v s) j n)
    early_found = found_later (knows v s) (knows u s) (knows w s) (active_find (knows v s) j n x) (unfinished (knows v s) j n) (ap (λ (q : Known). q.finds) k.view.now) (
      FreshClock (length r.load.all) ∷ early_find (knows u s) (length r.load.all),
      ap (λ (q : Known). q.finds) r.load.view.now,
      subst (λ (fs : List Find). Contains (FreshClock (length r.load.all) ∷ fs) (unfinished (knows v s) j n)) (sym finds) (1, omega arith, refl),
    )
      where
        state : (knows u s).looks.state ≡ x
        state = ap (λ (q : Known). q.looks.state) k.view.now

        yes : nat_lt (length r.load.all + 1) (knows u s).looks.state ≡ true
        yes = lt-ltb (length r.load.all + 1) (knows u s).looks.state (let e = state in let f : length (knows w s).seen ≡ length r.load.all = ap (λ (q : Known). length q.seen) r.load.view.now in omega arith)

        finds : early_find (knows u s) (length r.load.all) ≡ unfinished (knows v s) j n ∷ []
        finds = (λ i. cond (yes i) (unfinished (knows u s) (knows u s).looks.session (knows u s).looks.number ∷ []) []) ∙ ap (λ (q : Known). unfinished q q.looks.session q.looks.number ∷ []) k.view.now

    early_unfinished : KnownUnfinished (knows v s) (knows w s) s j n
    early_unfinished = record { found = early_found; last = early_last }

    early_stored : (a b : ℕ) → w.whole ≡ true → IsStoredAs (shown w.limits w.words) j n (Unfinished a b)
    early_stored a b = stored_then (Unfinished a b) (inr (let e = state_then in let f = clock_then in omega arith))

  late_stored : (time : ℕ) → 0 < time → x ≡ time + 1 → time ≤ length (knows w s).seen → w.whole ≡ true → IsStoredAs (shown w.limits w.words) j n (Committed time)
  late_stored time some is low = stored_then (Committed time) (some, (let f = clock_then in omega arith), state_then ∙ is)

-- ---- the answers

module _ (v w : View) (s j n : ℕ) (hosted : hosts v s ≡ true) (place : IsWithin v.limits (StateWord j n)) where
  committed_answers : (time : ℕ) → SaysAfter v w s j n (time + 1) (Committed time) → Answers v w s j n (Committed time)
  committed_answers time h = record {
    says = h;
    known = record {
      some = some;
      few = (let e = h.says.0 in let low = h.says.2 in omega arith);
      seen = seen;
      fact = ⊎_elim
          (λ (same : w ≡ h.between). subst (λ (z : View). Contains (knows z s).facts (StateAt j n (time + 1))) (sym same) (state_fact_is v h.between s j n (time + 1) hosted place h.state (omega arith)))
          (λ (r : Reads h.between w s). fact_then v h.between w s j n (time + 1) hosted place h.state h.above r)
          h.says.3;
    };
    stored = ⊎_elim
        (λ (same : w ≡ h.between). λ whole. subst (λ (z : Words). IsStoredAs z j n (Committed time)) (sym (subst (λ (z : View). shown z.limits z.words ≡ shown v.limits h.state.load.met.made.told.words) (sym same)
        (looked_words v h.between s (time + 1) (StateWord j n) h.state.load (subst (λ (z : View). z.whole ≡ true) same whole))))
        (some, seen_past v h.between s j n (time + 1) hosted place h.state time (subst (λ (z : View). time ≤ length (knows z s).seen) same seen), h.state.load.met.found))
        (λ (r : Reads h.between w s). late_stored v h.between w s j n (time + 1) hosted place h.state h.above r time some refl seen)
        h.says.3;
  }
    where
      some : 0 < time
      some = let a = h.above in omega arith

      seen : time ≤ length (knows w s).seen
      seen = let e = h.says.0 in let low = h.says.1 in omega arith

  pub answers : (status : Status) → Says v w s j n status → Answers v w s j n status
  answers Empty h = absurd h
  answers Closed h = closed_answers v w s j n hosted place h
  answers (Committed time) h = committed_answers time h
  answers (Unfinished a b) (e, f, inl k) = let q = active_answers v w s j n hosted place k in record { says = (e, f, inl k); known = (e, f, q.known.2); stored = q.stored }
  answers (Unfinished a b) (e, f, inr (x, h)) = record {
    says = (e, f, inr (x, h));
    known = (e, f, early_unfinished v h.between w s j n x hosted place h.state h.above h.says.3 h.says.2);
    stored = early_stored v h.between w s j n x hosted place h.state h.above h.says.3 h.says.2 a b;
  }
