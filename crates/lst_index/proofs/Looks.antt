-- What the loads of a search find.
use Rattle.std.proofs.Common.{◌≡◌, ◌≢◌, ℕ, ◌+◌, ◌-◌, ◌<◌, ◌≤◌, List, [], ◌∷◌, ◌++◌, Bool, true, false, cond, eqb, ◌&&◌, refl, sym, subst, ap, ◌∙◌, arith, append-nil, eq-eqb, ne_eqb, true≢false, inl, inr, ⊎_elim, slice_set}
use Rattle.std.specs.List.{Contains}
use Rattle.lst_layout.specs.declared.limits.Limits.{Limits}
use Rattle.lst_layout.specs.declared.place.Place.TheVariants.{IndexWord, KeyWord}
use Rattle.lst_layout.specs.Addresses.{address}
use Rattle.lst_layout.specs.Words.{Words, shown}
use Rattle.lst_core_state.specs.declared.known.Known.{Known}
use Rattle.lst_core_state.specs.declared.known.Placing.{Placing}
use Rattle.lst_core_state.specs.declared.events.Event.TheVariants.{Look}
use Rattle.lst_core_state.specs.declared.facts.Fact.{Fact}
use Rattle.lst_core_state.specs.declared.facts.Fact.TheVariants.{IndexAt}
use Rattle.lst_core_state.specs.Cells.{record_count}
use Rattle.lst_core_state.specs.Index.{size, position_of}
use Rattle.lst_core_state.specs.Step.{gives_up, given_up, after}
use Rattle.lst_core_state.specs.State.{state_over}
use Rattle.lst_rule.specs.declared.view.View.{View}
use Rattle.lst_rule.specs.Rule.{knows, hosts}
use Rattle.lst_rule.specs.Learned.{Learns, Possible}
use Rattle.lst_rule.proofs.Knowing.{is_fact, knows_own}
use Rattle.lst_rule.specs.Stores.{Looked}
use Rattle.lst_index.specs.Searches.{IsPlaced, Passed, EndedSince, Works, Keeps}
use Rattle.lst_index.specs.Placings.{HasRecord}
use Rattle.lst_index.specs.Visits.{Shows, Holds, HasOne}
use Rattle.lst_index.proofs.Lists.{contains_last}
use Rattle.lst_index.proofs.Views.{reworked, works_of, works_none, works_stay}
use Rattle.lst_index.proofs.Wholes.{met_word}
use Rattle.lst_index.proofs.Ending.{passed_more}

-- an index word that isn't 0
abbrev pub noted : ℕ → ℕ → ℕ → List Fact
noted q x key = cond (eqb x 0) [] (IndexAt q (x - 1) key ∷ [])

-- ---- an index word

module _ (v w : View) (s q x : ℕ) (h : Looked v w s (IndexWord q) x) (hosted : hosts v s ≡ true) where
  abbrev W : Words
  W = shown v.limits h.met.made.told.words

  abbrev k : Known
  k = knows v s

  at : W.index q ≡ x
  at = h.met.found

  abbrev pub key_found : ℕ
  key_found = W.keys (x - 1)

  index_learns : Learns v w s (reworked k k.placing (noted q x key_found) [] x)
  index_learns = subst (Learns v w s) (λ i. record k {
    facts = k.facts ++ cond (eqb (at i) 0) [] (IndexAt q (at i - 1) (W.keys (at i - 1)) ∷ []);
    finds = sym (append-nil k.finds) i;
    looks = record k.looks { index = at i };
  }) h.view

  pub index_works : Works v w s []
  index_works = works_of v w s k.placing (noted q x key_found) [] x index_learns

  pub index_placing : (knows w s).placing ≡ k.placing
  index_placing = ap (λ (u : Known). u.placing) index_learns.now

  -- a position that isn't empty
  pub index_shows : x ≢ 0 → Shows (knows w s) q (x - 1)
  index_shows some = record {
    key = key_found;
    fact = subst (λ (fs : List Fact). Contains fs (IndexAt q (x - 1) key_found)) (sym (ap (λ (u : Known). u.facts) index_learns.now ∙ ap (λ (b : Bool). k.facts ++ cond b [] (IndexAt q (x - 1) key_found ∷ [])) (ne_eqb x 0 some))) (contains_last k.facts (IndexAt q (x - 1) key_found));
    last = ap (λ (u : Known). u.looks.index) index_learns.now ∙ (omega arith);
  }

  pub index_few : x ≢ 0 → x ≤ record_count v.limits
  index_few some = let f = h.met.made.told.allowed.sound.index.filled q (let e = at in omega arith) in let few = f.few in let e = at in omega arith

  -- in the words of a view that knows each word
  pub index_free : x ≡ 0 → v.whole ≡ true → (shown v.limits v.words).index q ≡ 0
  index_free free whole = met_word v w (Look s (address v.limits (IndexWord q))) (IndexWord q) x x h.met whole ∙ free

  -- an empty one, after positions that hold other keys
  pub index_ends : (key n : ℕ) → x ≡ 0 → n < size v.limits → q ≡ position_of v.limits key n → Passed v.limits k.facts key n → EndedSince v w s key
  index_ends key n free short is p = let t = h.met.made.told in let same : w.limits ≡ v.limits = h.view.limits in record {
    ended = record {
      offset = n;
      short = subst (λ (l : Limits). n < size l) (sym same) short;
      passed = subst (λ (l : Limits). Passed l (knows w s).facts key n) (sym same) (passed_more v.limits k.facts (knows w s).facts key n (works_stay v w s [] index_works) p);
      before = v;
      look = subst (λ (z : ℕ). Looked v w s (IndexWord z) 0) (is ∙ ap (λ (l : Limits). position_of l key n) (sym same)) (subst (λ (y : ℕ). Looked v w s (IndexWord q) y) free h);
      words = slice_set t.words (address v.limits (IndexWord q)) x;
      known = (after (state_over v.limits t.words t.known t.merger) (Look s (address v.limits (IndexWord q)))).known;
      merger = (after (state_over v.limits t.words t.known t.merger) (Look s (address v.limits (IndexWord q)))).merger;
      allowed = t.after;
      empty = subst (λ (l : Limits). (shown l (slice_set t.words (address v.limits (IndexWord q)) x)).index (position_of l key n) ≡ 0) (sym same)
          (ap (λ (z : Words). z.index (position_of v.limits key n)) t.shows ∙ (ap W.index (sym is) ∙ (at ∙ free)));
    };
    since = works_none v s;
  }

-- ---- a key word

-- the record in hand, which another session can't have placed
pub hand_is : (v : View) (s : ℕ) → hosts v s ≡ true → s < v.limits.sessions → Possible v → (knows v s).placing.has_key ≡ true → 0 < (knows v s).placing.hand
hand_is v s hosted low p e = let same : knows v s ≡ p.known s = knows_own v p.words p.known p.merger p.allowed s hosted (λ f. omega arith) in
    subst (λ (u : Known). u.placing.has_key ≡ true → 0 < u.placing.hand) (sym same) (λ f. ((p.allowed.sound.index.hands s low).keyed f).0) e

-- without a record in hand no key is stored for one
pub idle : (v : View) (s : ℕ) → hosts v s ≡ true → s < v.limits.sessions → Possible v → (knows v s).placing.hand ≡ 0 → (knows v s).placing.has_key ≡ false
idle v s hosted low p free = choose (knows v s).placing.has_key refl
  where
    choose : (b : Bool) → (knows v s).placing.has_key ≡ b → b ≡ false
    choose true e = absurd (let h = hand_is v s hosted low p e in omega arith)
    choose false e = refl

module _ (v w : View) (s r x : ℕ) (h : Looked v w s (KeyWord r) x) (hosted : hosts v s ≡ true) (own : s < v.limits.sessions) where
  abbrev W' : Words
  W' = shown v.limits h.met.made.told.words

  abbrev u : Known
  u = knows v s

  found : W'.keys r ≡ x
  found = h.met.found

  -- what was known of the record's key is found again
  pub key_same : (q key : ℕ) → Contains u.facts (IndexAt q r key) → key ≡ x
  key_same q key c = let t = h.met.made.told in let f = is_fact v t.words t.known t.merger t.allowed s hosted (IndexAt q r key) c in sym f.1 ∙ found

  -- and the record in hand is another one
  pub hand_other : (q key : ℕ) → Contains u.facts (IndexAt q r key) → u.placing.hand ≢ r + 1
  hand_other q key c e = let t = h.met.made.told in let f = is_fact v t.words t.known t.merger t.allowed s hosted (IndexAt q r key) c in
      let same : u ≡ t.known s = knows_own v t.words t.known t.merger t.allowed s hosted (λ g. omega arith) in
      let same_hand : u.placing.hand ≡ (t.known s).placing.hand = ap (λ (z : Known). z.placing.hand) same in
      (t.allowed.sound.index.hands s own).out (omega arith) q (f.0 ∙ (sym e ∙ same_hand))

  -- in the words of a view that knows each word
  pub key_had : (key q : ℕ) → Shows u q r → x ≡ key → v.whole ≡ true → HasRecord v.limits v.words key r
  key_had key q shows e whole = let t = h.met.made.told in let f = is_fact v t.words t.known t.merger t.allowed s hosted (IndexAt q r shows.key) shows.fact in
      subst (λ (ws : List ℕ). HasRecord v.limits ws key r) (sym (t.allowed.whole whole)) (q, f.0, found ∙ e)

  key_learns : Learns v w s (cond (gives_up u r x) (given_up u) u)
  key_learns = subst (λ (y : ℕ). Learns v w s (cond (gives_up u r y) (given_up u) u)) found h.view

  -- the record in hand stays
  pub key_stays : gives_up u r x ≡ false → Learns v w s u
  key_stays e = subst (λ (b : Bool). Learns v w s (cond b (given_up u) u)) e key_learns

  pub key_gives : gives_up u r x ≡ true → Learns v w s (given_up u)
  key_gives e = subst (λ (b : Bool). Learns v w s (cond b (given_up u) u)) e key_learns

  again : (p : Placing) → Learns v w s (record u { placing = p }) → Works v w s []
  again p g = works_of v w s p [] [] u.looks.index (subst (Learns v w s) (λ i. record u { placing = p; facts = sym (append-nil u.facts) i; finds = sym (append-nil u.finds) i }) g)

  pub stays_works : gives_up u r x ≡ false → Works v w s []
  stays_works e = again u.placing (key_stays e)

  pub gives_works : gives_up u r x ≡ true → Works v w s []
  gives_works e = again (record u.placing { hand = 0; has_key = false }) (key_gives e)

  pub key_works : Works v w s []
  key_works = choose (gives_up u r x) refl
    where
      choose : (b : Bool) → gives_up u r x ≡ b → Works v w s []
      choose true e = gives_works e
      choose false e = stays_works e

  -- a record is given up for which a key is stored
  gives_key : gives_up u r x ≡ true → u.placing.has_key ≡ true
  gives_key e = choose (eqb u.placing.hand (r + 1)) u.placing.has_key refl e
    where
      choose : (b d : Bool) → u.placing.has_key ≡ d → cond b false (d && eqb x u.placing.key && eqb u.looks.index (r + 1)) ≡ true → u.placing.has_key ≡ true
      choose true d f g = absurd (true≢false (sym g))
      choose false true f g = f
      choose false false f g = absurd (true≢false (sym g))

  pub key_keeps : Keeps u.placing (knows w s).placing
  key_keeps = choose (gives_up u r x) refl
    where
      choose : (b : Bool) → gives_up u r x ≡ b → Keeps u.placing (knows w s).placing
      choose true e = let t = h.met.made.told in let p : Possible v = record { words = t.words; known = t.known; merger = t.merger; allowed = t.allowed } in inr (hand_is v s hosted own p (gives_key e), ap (λ (z : Known). z.placing) (key_gives e).now)
      choose false e = inl (ap (λ (z : Known). z.placing) (key_stays e).now)

  -- a look at a record that is known to have this key
  pub key_placed : (q key k₀ : ℕ) → Contains u.facts (IndexAt q r k₀) → x ≡ key → IsPlaced (knows w s) r key
  key_placed q key k₀ c e = (q, works_stay v w s [] key_works (IndexAt q r key) (subst (λ (z : ℕ). Contains u.facts (IndexAt q r z)) (key_same q k₀ c ∙ e) c))

  -- with no record in hand, or one for the key, that a look at another record of the key gives up
  gives : (key q k₀ : ℕ) → HasOne u.placing key → Contains u.facts (IndexAt q r k₀) → u.looks.index ≡ r + 1 → x ≡ key → gives_up u r x ≡ true
  gives key q k₀ has c last e = λ i. cond (ne_eqb u.placing.hand (r + 1) (hand_other q k₀ c) i) false (has.keyed i && eq-eqb x u.placing.key (e ∙ sym has.same) i && eq-eqb u.looks.index (r + 1) last i)

  keyless : u.placing.has_key ≡ false → gives_up u r x ≡ false
  keyless e = subst (λ (b : Bool). cond (eqb u.placing.hand (r + 1)) false (b && eqb x u.placing.key && eqb u.looks.index (r + 1)) ≡ false) (sym e) (choose (eqb u.placing.hand (r + 1)))
    where
      choose : (b : Bool) → cond b false false ≡ false
      choose true = refl
      choose false = refl

  otherwise : x ≢ u.placing.key → gives_up u r x ≡ false
  otherwise e = subst (λ (b : Bool). cond (eqb u.placing.hand (r + 1)) false (u.placing.has_key && b && eqb u.looks.index (r + 1)) ≡ false) (sym (ne_eqb x u.placing.key e)) (choose (eqb u.placing.hand (r + 1)) u.placing.has_key)
    where
      choose : (b d : Bool) → cond b false (d && false && eqb u.looks.index (r + 1)) ≡ false
      choose true d = refl
      choose false true = refl
      choose false false = refl

  pub key_drops : (key q : ℕ) → Shows u q r → x ≡ key → Holds u.placing key → (knows w s).placing.hand ≡ 0
  key_drops key q shows e holds = ⊎_elim
      (λ (t : (u.placing.hand ≡ 0) × (u.placing.has_key ≡ false)). ap (λ (z : Known). z.placing.hand) (key_stays (keyless t.1)).now ∙ t.0)
      (λ (has : HasOne u.placing key). ap (λ (z : Known). z.placing.hand) (key_gives (gives key q shows.key has shows.fact shows.last e)).now) holds

  pub key_still : (key : ℕ) → x ≢ key → Holds u.placing key → (knows w s).placing ≡ u.placing
  key_still key other holds = ⊎_elim
      (λ (t : (u.placing.hand ≡ 0) × (u.placing.has_key ≡ false)). ap (λ (z : Known). z.placing) (key_stays (keyless t.1)).now)
      (λ (has : HasOne u.placing key). ap (λ (z : Known). z.placing) (key_stays (otherwise (λ e. other (e ∙ has.same)))).now) holds

  -- a look at a record that is known to have another key
  pub key_apart : (key q : ℕ) → Shows u q r → x ≢ key → (k : ℕ) × Contains (knows w s).facts (IndexAt q r k) × (k ≢ key)
  key_apart key q shows other = (shows.key, works_stay v w s [] key_works (IndexAt q r shows.key) shows.fact, λ e. other (sym (key_same q shows.key shows.fact) ∙ e))
