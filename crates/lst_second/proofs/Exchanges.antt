-- The exchange of an empty position for the tail in hand.
use Rattle.std.proofs.Common.{◌≡◌, ◌≢◌, ℕ, ◌+◌, ◌^◌, ◌<◌, ◌≤◌, List, [], ◌∷◌, ◌++◌, Bool, true, false, cond, eqb, refl, sym, subst, ap, ◌∙◌, arith, append-nil, eq-eqb, ne_eqb, slice_set}
use Rattle.std.specs.Prelude.{bit_or}
use Rattle.std.specs.List.{Contains}
use Rattle.std.proofs.lemmas.List.Elements.{All-nil, Contains-append_right}
use Rattle.lst_layout.specs.declared.limits.Limits.{Limits}
use Rattle.lst_layout.specs.declared.place.Place.TheVariants.{PostingWord}
use Rattle.lst_layout.specs.Addresses.{address}
use Rattle.lst_layout.specs.Words.{Words, shown}
use Rattle.lst_core_state.specs.declared.known.Known.{Known}
use Rattle.lst_core_state.specs.declared.facts.Fact.TheVariants.{PostAt}
use Rattle.lst_core_state.specs.declared.events.Event.TheVariants.{Post}
use Rattle.lst_core_state.specs.Cells.{has_bit, tail_count}
use Rattle.lst_core_state.specs.Facts.{IsFact}
use Rattle.lst_core_state.specs.State.{state_over}
use Rattle.lst_core_state.specs.Step.{Stands, posted, words_after}
use Rattle.lst_core_state.specs.Postings.{postings_size, value_position}
use Rattle.lst_core_state.specs.Sound.{Sound}
use Rattle.lst_core_state.proofs.PostingsLaws.{unposted_may_be_posted}
use Rattle.lst_rule.specs.declared.view.View.{View}
use Rattle.lst_rule.specs.Rule.{knows, hosts}
use Rattle.lst_rule.specs.Learned.{Learns, Met, CanStand}
use Rattle.lst_rule.proofs.Knowing.{is_fact, knows_own}
use Rattle.lst_rule.specs.Shown.{StandsAt, Passed, IsShown}
use Rattle.lst_rule.specs.Posting.{IsTailLoad, ChangesPostings, Posts}
use Rattle.lst_second.specs.Visits.{IsEntry, MayPost}
use Rattle.lst_second.specs.declared.visits.Entry.{Entry}
use Rattle.lst_rule.proofs.PostingViews.{changes_to, learnt, posts_facts}
use Rattle.lst_second.proofs.Passing.{passed_more, words_more, shown_at}
use Rattle.lst_rule.proofs.PostingFacts.{value_is, held_some, held_here}

-- the words allow the posting after positions that are known to be taken
pub can_post : (v : View) (s n : ℕ) (e : Entry) (q : ℕ) → hosts v s ≡ true → s < v.limits.sessions → IsEntry v.limits (knows v s) e → MayPost (knows v s) e.column → n < postings_size v.limits → q ≡ value_position v.limits e.value n → Passed v.limits (knows v s).facts e.column e.rec e.value n → CanStand v (Post s e.column q)
can_post v s n e q hosted own h may short is passed words known merger a = let w : Words = shown v.limits words in let k : Known = knows v s in
    let same : k ≡ known s = knows_own v words known merger a s hosted (λ g. omega arith) in
    let some : 0 < k.hold.tail = held_some v words known merger a s hosted own h.whole in
    let value : w.cells k.hold.tail (3 + e.column) ≡ e.value = value_is v words known merger a s hosted k.hold.tail h.encoding e.column h.values h.words h.low ∙ h.same in
    let facts : (i : ℕ) → i < n → (t : ℕ) × IsFact v.limits w (PostAt e.column (value_position v.limits (w.cells k.hold.tail (3 + e.column)) i) t) = (λ i low. let t = passed i low in
    (t.0, subst (λ (y : ℕ). IsFact v.limits w (PostAt e.column (value_position v.limits y i) t.0)) (sym value) (is_fact v words known merger a s hosted (PostAt e.column (value_position v.limits e.value i) t.0) t.1))) in
    let law = subst (λ (u : Known). 0 < u.hold.tail → has_bit u.draft.unposted e.column ≡ true → has_bit u.draft.posted e.column ≡ false → ((i : ℕ) → i < n → (t : ℕ) × IsFact v.limits w (PostAt e.column (value_position v.limits (w.cells u.hold.tail (3 + e.column)) i) t))
    → Stands v.limits w u (Post s e.column (value_position v.limits (w.cells u.hold.tail (3 + e.column)) n))) (sym same)
    (λ held bit clear f. (unposted_may_be_posted (state_over v.limits words known merger) a.sound s own held e.column n h.indexed short bit clear f).1) in
    subst (λ (p : ℕ). Stands v.limits w k (Post s e.column p)) (ap (λ (y : ℕ). value_position v.limits y n) value ∙ sym is) (law some may.unposted may.still facts)

module _ (v w : View) (s : ℕ) (e : Entry) (q x y : ℕ) (h : Met v w (Post s e.column q) (PostingWord e.column q) y x) (hosted : hosts v s ≡ true) where
  abbrev k : Known
  k = knows v s

  abbrev W : Words
  W = shown v.limits h.made.told.words

  abbrev lost_as : ℕ → Known
  lost_as n = record k { facts = k.facts ++ cond (eqb n 0) [] (PostAt e.column q n ∷ []) }

  learns : Learns v w s (cond (eqb x 0) (posted k e.column q) (lost_as x))
  learns = subst (λ (n : ℕ). Learns v w s (cond (eqb n 0) (posted k e.column q) (lost_as n))) h.found h.made.view

  -- to a view that knows each word
  only_postings : v.whole ≡ true → ChangesPostings (shown v.limits v.words) (shown w.limits w.words)
  only_postings whole = let same : v.words ≡ h.made.told.words = h.made.told.allowed.whole whole in let old : Words = shown v.limits v.words in
      let after : ℕ → ℕ → ℕ = (words_after v.limits old k (Post s e.column q)).postings in
      changes_to old (shown w.limits w.words) after (ap (λ (l : Limits). shown l w.words) h.made.view.limits
      ∙ subst (λ (ws : List ℕ). shown v.limits w.words ≡ words_after v.limits (shown v.limits ws) k (Post s e.column q)) (sym same)
      (ap (shown v.limits) (h.made.words ∙ ap (λ (ws : List ℕ). slice_set ws (address v.limits (PostingWord e.column q)) y) same) ∙ h.made.told.shows))

  -- the position was empty
  module _ (won : x ≡ 0) where
    wins : Learns v w s (learnt k (bit_or k.draft.posted (2 ^ e.column)) k.draft.unposted (PostAt e.column q k.hold.tail ∷ []) [])
    wins = subst (Learns v w s) (λ i. record k { draft = record k.draft { posted = bit_or k.draft.posted (2 ^ e.column) }; facts = k.facts ++ PostAt e.column q k.hold.tail ∷ []; finds = sym (append-nil k.finds) i })
        (subst (λ (b : Bool). Learns v w s (cond b (posted k e.column q) (lost_as x))) (eq-eqb x 0 won) learns)

    pub won_posts : Posts v w s
    won_posts = record { facts = PostAt e.column q k.hold.tail ∷ []; finds = []; posted = bit_or k.draft.posted (2 ^ e.column); unposted = k.draft.unposted; view = wins; loads = All-nil IsTailLoad; words = only_postings }

    pub won_shown : (n : ℕ) → IsEntry v.limits k e → s < v.limits.sessions → n < postings_size v.limits → q ≡ value_position v.limits e.value n → Passed v.limits k.facts e.column e.rec e.value n → IsShown v.limits (knows w s).facts e.column e.rec e.value
    won_shown n is own short at passed = let t = h.made.told in let more = posts_facts v w s won_posts in
        shown_at v.limits (knows w s).facts e.column e.rec e.value n k.hold.tail short (passed_more v.limits k.facts (knows w s).facts more e.column e.rec e.value n passed)
        (subst (λ (z : Known). Contains z.facts (PostAt e.column (value_position v.limits e.value n) k.hold.tail)) (sym wins.now)
        (Contains-append_right k.facts (PostAt e.column q k.hold.tail ∷ []) (PostAt e.column (value_position v.limits e.value n) k.hold.tail) (0, omega arith, ap (λ (p : ℕ). PostAt e.column p k.hold.tail) at)))
        record {
          encoding = is.encoding;
          values = is.values;
          words = words_more v.limits k.facts (knows w s).facts more k.hold.tail is.encoding is.values is.words;
          rec = held_here v t.words t.known t.merger t.allowed s hosted own is.whole is.encoding is.values is.words ∙ (let f = is.latch in omega arith);
          same = is.same;
        }

  -- another session was first
  module _ (lost : x ≢ 0) where
    loses : Learns v w s (learnt k k.draft.posted k.draft.unposted (PostAt e.column q x ∷ []) [])
    loses = subst (Learns v w s) (λ i. record k { facts = k.facts ++ cond (ne_eqb x 0 lost i) [] (PostAt e.column q x ∷ []); finds = sym (append-nil k.finds) i })
        (subst (λ (b : Bool). Learns v w s (cond b (posted k e.column q) (lost_as x))) (ne_eqb x 0 lost) learns)

    pub lost_posts : Posts v w s
    lost_posts = record { facts = PostAt e.column q x ∷ []; finds = []; posted = k.draft.posted; unposted = k.draft.unposted; view = loses; loads = All-nil IsTailLoad; words = only_postings }

    pub lost_stands : (n : ℕ) → q ≡ value_position v.limits e.value n → StandsAt v.limits (knows w s).facts e.column e.value n x
    lost_stands n at = subst (λ (z : ℕ). Contains (knows w s).facts (PostAt e.column z x)) at
        (subst (λ (z : Known). Contains z.facts (PostAt e.column q x)) (sym loses.now) (Contains-append_right k.facts (PostAt e.column q x ∷ []) (PostAt e.column q x) (0, omega arith, refl)))

    pub lost_few : x ≤ tail_count v.limits
    lost_few = let sound : Sound (state_over v.limits h.made.told.words h.made.told.known h.made.told.merger) = h.made.told.allowed.sound in let f : W.postings e.column q ≡ x = h.found in
        let stored = (sound.postings.filled e.column q (omega arith)).stored in let few = (sound.versions.stored (W.postings e.column q) stored).few in omega arith
