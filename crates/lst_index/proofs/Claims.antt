-- The claim of a position for the record in hand.
use Rattle.std.proofs.Common.{◌≡◌, ◌≢◌, ℕ, ◌+◌, ◌-◌, ◌<◌, ◌≤◌, List, [], ◌∷◌, ◌++◌, Bool, true, false, cond, eqb, sym, subst, ap, ◌∙◌, arith, eq-eqb, ne_eqb, slice_set}
use Rattle.std.specs.List.{Contains}
use Rattle.lst_layout.specs.declared.limits.Limits.{Limits}
use Rattle.lst_layout.specs.declared.place.Place.TheVariants.{IndexWord}
use Rattle.lst_layout.specs.Addresses.{address}
use Rattle.lst_layout.specs.Words.{Words, shown}
use Rattle.lst_core_state.specs.declared.known.Known.{Known}
use Rattle.lst_core_state.specs.declared.events.Event.TheVariants.{Claim}
use Rattle.lst_core_state.specs.declared.facts.Fact.{Fact}
use Rattle.lst_core_state.specs.declared.facts.Fact.TheVariants.{IndexAt}
use Rattle.lst_core_state.specs.Cells.{record_count}
use Rattle.lst_core_state.specs.Index.{size, position_of}
use Rattle.lst_core_state.specs.Step.{claimed}
use Rattle.lst_rule.specs.declared.view.View.{View}
use Rattle.lst_rule.specs.Rule.{knows, hosts}
use Rattle.lst_rule.specs.Learned.{Learns, Met, CanStand, Possible}
use Rattle.lst_rule.proofs.Knowing.{knows_own}
use Rattle.lst_index.specs.Searches.{IsPlaced, Passed, Works}
use Rattle.lst_index.specs.Visits.{Shows, Claims}
use Rattle.lst_index.proofs.Lists.{contains_last}
use Rattle.lst_index.proofs.Wholes.{met_word}
use Rattle.lst_index.proofs.Views.{works_plain}
use Rattle.lst_index.proofs.Ending.{reaches}
use Rattle.lst_index.proofs.Looks.{noted}

-- the words allow the claim after positions that are known to hold other keys
pub can_claim : (l : Limits) (v : View) (s q n key : ℕ) → v.limits ≡ l → hosts v s ≡ true → (knows v s).placing.key ≡ key → n < size l → q ≡ position_of l key n → Passed l (knows v s).facts key n → CanStand v (Claim s q)
can_claim l v s q n key same hosted is short at p words known merger a = let P : Limits → ℕ → Type 0 = λ z y. (n < size z) × (q ≡ position_of z y n) × Passed z (knows v s).facts y n in
    let t : P v.limits (knows v s).placing.key = subst (λ (z : Limits). P z (knows v s).placing.key) (sym same) (subst (P l) (sym is) (short, at, p)) in
    reaches v words known merger a s hosted (knows v s).placing.key n q t.0 t.1 t.2

-- the record in hand is one of the store
pub hand_few : (l : Limits) (v : View) (s : ℕ) → v.limits ≡ l → hosts v s ≡ true → s < v.limits.sessions → Possible v → (knows v s).placing.hand ≤ record_count l
hand_few l v s same hosted low p = let own : knows v s ≡ p.known s = knows_own v p.words p.known p.merger p.allowed s hosted (λ f. omega arith) in
    subst (λ (z : Limits). (knows v s).placing.hand ≤ record_count z) same (subst (λ (u : Known). u.placing.hand ≤ record_count v.limits) (sym own) (p.allowed.sound.index.hands s low).few)

module _ (v w : View) (s q x y : ℕ) (h : Met v w (Claim s q) (IndexWord q) y x) where
  abbrev k : Known
  k = knows v s

  abbrev W : Words
  W = shown v.limits h.made.told.words

  abbrev key_there : ℕ
  key_there = W.keys (x - 1)

  abbrev lost_as : ℕ → Known
  lost_as n = record k { facts = k.facts ++ cond (eqb n 0) [] (IndexAt q (n - 1) (W.keys (n - 1)) ∷ []); looks = record k.looks { index = n } }

  learns : Learns v w s (cond (eqb x 0) (claimed k q) (lost_as x))
  learns = subst (λ (n : ℕ). Learns v w s (cond (eqb n 0) (claimed k q) (lost_as n))) h.found h.made.view

  -- the position was empty
  module _ (won : x ≡ 0) where
    wins : Learns v w s (claimed k q)
    wins = subst (λ (b : Bool). Learns v w s (cond b (claimed k q) (lost_as x))) (eq-eqb x 0 won) learns

    pub won_works : Works v w s []
    won_works = works_plain v w s (record k.placing { hand = 0; has_key = false }) (IndexAt q (k.placing.hand - 1) k.placing.key ∷ []) k.looks.index wins

    pub won_placing : (knows w s).placing ≡ record k.placing { hand = 0; has_key = false }
    won_placing = ap (λ (z : Known). z.placing) wins.now

    pub won_placed : (r key : ℕ) → k.placing.hand ≡ r + 1 → k.placing.key ≡ key → IsPlaced (knows w s) r key
    won_placed r key hand is = (
      q,
      subst (λ (z : Known). Contains z.facts (IndexAt q r key)) (sym wins.now)
          (subst (λ (n : ℕ). Contains (k.facts ++ IndexAt q (k.placing.hand - 1) k.placing.key ∷ []) (IndexAt q n key)) (ap (λ (n : ℕ). n - 1) hand ∙ (omega arith))
          (subst (λ (n : ℕ). Contains (k.facts ++ IndexAt q (k.placing.hand - 1) k.placing.key ∷ []) (IndexAt q (k.placing.hand - 1) n)) is (contains_last k.facts (IndexAt q (k.placing.hand - 1) k.placing.key)))),
    )

    pub won_stores : (r : ℕ) → k.placing.hand ≡ r + 1 → y ≡ cond (eqb x 0) k.placing.hand x → Claims v w s q r
    won_stores r hand stored = record {
      hand = hand;
      words = h.made.words ∙ ap (slice_set v.words (address v.limits (IndexWord q))) (stored ∙ (ap (λ (b : Bool). cond b k.placing.hand x) (eq-eqb x 0 won) ∙ hand));
    }

  -- another session was first
  module _ (lost : x ≢ 0) where
    loses : Learns v w s (lost_as x)
    loses = subst (λ (b : Bool). Learns v w s (cond b (claimed k q) (lost_as x))) (ne_eqb x 0 lost) learns

    pub lost_works : Works v w s []
    lost_works = works_plain v w s k.placing (noted q x key_there) x loses

    pub lost_placing : (knows w s).placing ≡ k.placing
    lost_placing = ap (λ (z : Known). z.placing) loses.now

    pub lost_shows : Shows (knows w s) q (x - 1)
    lost_shows = record {
      key = key_there;
      fact = subst (λ (fs : List Fact). Contains fs (IndexAt q (x - 1) key_there)) (sym (ap (λ (u : Known). u.facts) loses.now ∙ ap (λ (b : Bool). k.facts ++ cond b [] (IndexAt q (x - 1) key_there ∷ [])) (ne_eqb x 0 lost))) (contains_last k.facts (IndexAt q (x - 1) key_there));
      last = ap (λ (u : Known). u.looks.index) loses.now ∙ (omega arith);
    }

    -- in the words of a view that knows each word
    pub lost_taken : v.whole ≡ true → (shown v.limits v.words).index q ≢ 0
    lost_taken whole e = lost (sym (met_word v w (Claim s q) (IndexWord q) y x h whole) ∙ e)

    pub lost_few : x ≤ record_count v.limits
    lost_few = let f = h.made.told.allowed.sound.index.filled q (let e : W.index q ≡ x = h.found in omega arith) in let few = f.few in let e : W.index q ≡ x = h.found in omega arith
