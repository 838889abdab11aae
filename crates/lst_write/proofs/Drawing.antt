-- The draw of a tail.
use Rattle.std.proofs.Common.{◌&&◌, ne_eqb, ◌≡◌, ℕ, ◌+◌, ◌-◌, ◌*◌, ◌/◌, ◌%◌, ◌<◌, ◌≤◌, List, [], ◌∷◌, ◌++◌, Bool, true, false, cond, nat_lt, set, slice_index_or, length, replicate, refl, sym, subst, ap, ◌∙◌, arith, inl, inr, ⊎_elim, append_assoc, lt-ltb, get_or-set_same}
use Rattle.std.proofs.lemmas.Bool.Decides.{Decides-ltb}
use Rattle.std.proofs.lemmas.List.Elements.{Contains-append_left}
use Rattle.lst_layout.specs.declared.limits.Limits.{Limits}
use Rattle.lst_layout.specs.declared.place.Place.TheVariants.{TailCounter}
use Rattle.lst_layout.specs.Words.{Words, shown}
use Rattle.lst_core_state.proofs.Sights.{or_right}
use Rattle.lst_core_state.specs.declared.known.Known.{Known}
use Rattle.lst_core_state.specs.declared.known.Counter.{Counter}
use Rattle.lst_core_state.specs.declared.known.Hold.{Hold}
use Rattle.lst_core_state.specs.declared.facts.Fact.TheVariants.{TailsAtLeast, StateAt}
use Rattle.lst_core_state.specs.declared.facts.Find.TheVariants.{CountedTails, FullTails}
use Rattle.lst_core_state.specs.declared.events.Event.TheVariants.{DrawTail}
use Rattle.lst_core_state.specs.Cells.{range_of}
use Rattle.lst_core_state.specs.State.{counter_of, no_counter}
use Rattle.lst_core_state.specs.Facts.{range_facts}
use Rattle.lst_core_state.specs.Step.{Enabled, is_reading, served, spent, drawn_full, tail_drawn, tails_full}
use Rattle.lst_rule.specs.declared.view.View.{View}
use Rattle.lst_rule.specs.Rule.{knows, hosts}
use Rattle.lst_rule.specs.Learned.{Learns, Kept, CanStand, Met}
use Rattle.lst_rule.proofs.Knowing.{knows_own}
use Rattle.lst_rule.proofs.Learning.{learns_on}
use Rattle.lst_rule.specs.Stores.{Looked}
use Rattle.lst_rule.specs.Copies.{Version, IsChainFrom, Includes}
use Rattle.lst_rule.specs.Seen.{sees, SeesAlike}
use Rattle.lst_rule.specs.Judging.{IsClosed, IsJudged}
use Rattle.lst_rule.proofs.Copying.{copies_stay}
use Rattle.lst_rule.proofs.Seeing.{same_sees}
use Rattle.lst_rule.proofs.Stamps.{made_words}
use Rattle.lst_rule.proofs.Writing.{judged_may_draw}
use Rattle.lst_write.specs.Holding.{HasLatch, latch_of}
use Rattle.lst_write.specs.Judgements.{HasJudged}
use Rattle.lst_write.specs.Appending.{with_count, known_words, Counts, FindsFull, Draws}

-- what is judged stays so with more facts
pub judged_more : (k m : Known) (s : ℕ) (cs : List Version) → SeesAlike k m → Includes m.facts k.facts → IsJudged k s cs → IsJudged m s cs
judged_more k m s [] same facts judged = tt
judged_more k m s (c ∷ cs) same facts judged = ⊎_elim
    (λ (seen : sees k s c.writer ≡ true). inl (same_sees k m s c.writer same ∙ seen))
    (λ (q : IsClosed k.facts c × IsJudged k s cs). inr (facts (StateAt (c.writer % 16) (c.writer / 16) 1) q.0, judged_more k m s cs same facts q.1))
    judged

pub has_judged_more : (l : Limits) (k m : Known) (s rec head : ℕ) → SeesAlike k m → Includes m.facts k.facts → HasJudged l k s rec head → HasJudged l m s rec head
has_judged_more l k m s rec head same facts (copy, is, judged) = (copy, copies_stay l k.facts m.facts rec head copy facts is, judged_more k m s copy same facts judged)

not_below : (a b : ℕ) → b ≤ a → nat_lt a b ≡ false
not_below a b high = choose (nat_lt a b) refl
  where
    choose : (t : Bool) → nat_lt a b ≡ t → t ≡ false
    choose true e = absurd (let f = (Decides-ltb a b).0 e in omega arith)
    choose false e = refl

-- ---- a load of the counter

module _ (v w : View) (s range x : ℕ) (h : Looked v w s (TailCounter range) x) where
  abbrev k : Known
  k = knows v s

  abbrev W : Words
  W = shown v.limits h.met.made.told.words

  learns : (b r : Bool) → nat_lt x v.limits.tails ≡ b → is_reading (knows v s) ≡ r
      → Learns v w s (record k { counters = set k.counters range (served v.limits.tails x (counter_of k range)); facts = k.facts ++ TailsAtLeast range x ∷ cond r (range_facts v.limits W range) []; finds = k.finds ++ CountedTails range x ∷ cond r [] (cond b [] (FullTails range ∷ [])) })
  learns b r e f = subst (λ (u : Known). Learns v w s u)
      ((λ i. let y = h.met.found i in record k { counters = set k.counters range (served v.limits.tails y (counter_of k range)); facts = k.facts ++ TailsAtLeast range y ∷ cond (is_reading k) (range_facts v.limits W range) []; finds = k.finds ++ CountedTails range y ∷ cond (is_reading k) [] (cond (nat_lt y v.limits.tails) [] (FullTails range ∷ [])) })
      ∙ (λ i. record k { counters = set k.counters range (served v.limits.tails x (counter_of k range)); facts = k.facts ++ TailsAtLeast range x ∷ cond (f i) (range_facts v.limits W range) []; finds = k.finds ++ CountedTails range x ∷ cond (f i) [] (cond (e i) [] (FullTails range ∷ [])) }))
      h.view

  left : (r : Bool) → is_reading (knows v s) ≡ r → x < v.limits.tails → Counts v w s range x []
  left true f low = record { counters = set k.counters range (served v.limits.tails x (counter_of k range)); facts = TailsAtLeast range x ∷ range_facts v.limits W range; view = learns true true (lt-ltb x v.limits.tails low) f }
  left false f low = record { counters = set k.counters range (served v.limits.tails x (counter_of k range)); facts = TailsAtLeast range x ∷ []; view = learns true false (lt-ltb x v.limits.tails low) f }

  pub counter_left : x < v.limits.tails → Counts v w s range x []
  counter_left low = left (is_reading k) refl low

  -- a session with a latch doesn't read
  latched_not : 0 < (knows v s).hold.latch → is_reading (knows v s) ≡ false
  latched_not held = ap (λ (b : Bool). k.is_open && b) (ne_eqb k.hold.latch 0 (λ e. omega arith)) ∙ none k.is_open
    where
      none : (b : Bool) → (b && false) ≡ false
      none true = refl
      none false = refl

  pub counter_full : 0 < (knows v s).hold.latch → v.limits.tails ≤ x → FindsFull v w s range
  counter_full held high = record { count = x; counts = record { counters = set k.counters range (served v.limits.tails x (counter_of k range)); facts = TailsAtLeast range x ∷ []; view = learns false false (not_below x v.limits.tails high) (latched_not held) }; kept = h.kept }

  -- to a view that knows each word
  pub counter_below : x < v.limits.tails → v.whole ≡ true → (known_words v).counts range < v.limits.tails
  counter_below low whole = let t = h.met.made.told in let e : (known_words v).counts range ≡ x = ap (λ (ws : List ℕ). (shown v.limits ws).counts range) (t.allowed.whole whole) ∙ h.met.found in omega arith

  -- below the limit it serves a draw
  pub counter_serves : hosts v s ≡ true → s < v.limits.sessions → range < v.limits.ranges → x < v.limits.tails → (counter_of (knows w s) range).is_serving ≡ true
  counter_serves hosted own low below = let t = h.met.made.told in let a = t.allowed in
      let same : length k.counters ≡ v.limits.ranges = ap (λ (u : Known). length u.counters) (knows_own v t.words t.known t.merger a s hosted (λ e. omega arith)) ∙ a.sound.counters s own in
      ap (λ (u : Known). (counter_of u range).is_serving) (learns true (is_reading k) (lt-ltb x v.limits.tails below) refl).now
      ∙ (ap (λ (c : Counter). c.is_serving) (get_or-set_same k.counters range (served v.limits.tails x (counter_of k range)) no_counter (omega arith))
      ∙ or_right (counter_of k range).is_serving (nat_lt x v.limits.tails) (lt-ltb x v.limits.tails below))

-- ---- the draw

pub range_low : (l : Limits) (k : Known) (s rec head : ℕ) → HasJudged l k s rec head → rec / 256 < l.ranges
range_low l k s rec head (copy, is, judged) = let low = is.low in omega arith

module _ (v u : View) (s rec head count : ℕ) (latch : HasLatch (knows v s) rec head) (c : Counts v u s (range_of rec) count []) where
  abbrev m : Known
  m = knows u s

  hold_is : (knows u s).hold ≡ latch_of rec head
  hold_is = ap (λ (z : Known). z.hold) c.view.now ∙ latch

  pub draw_enabled : (counter_of (knows u s) (rec / 256)).is_serving ≡ true → Enabled u.limits (knows u s) (DrawTail s (rec / 256))
  draw_enabled serves = (
    subst (λ (h : Hold). 0 < h.latch) (sym hold_is) (omega arith),
    ap (λ (h : Hold). range_of (h.latch - 1)) hold_is ∙ ap range_of (let e : rec + 1 - 1 ≡ rec = omega arith in e),
    ap (λ (h : Hold). h.tail) hold_is,
    serves,
  )

  still_hosts : hosts v s ≡ true → hosts u s ≡ true
  still_hosts hosted = ap (λ (bs : List Bool). slice_index_or bs s false) c.view.hosted ∙ hosted

  pub draw_stands : hosts v s ≡ true → s < v.limits.sessions → HasJudged v.limits (knows v s) s rec head → CanStand u (DrawTail s (rec / 256))
  draw_stands hosted own judged = let k : Known = knows v s in
      let j : HasJudged u.limits (knows u s) s rec head = subst (λ (l : Limits). HasJudged l (knows u s) s rec head) (sym c.view.limits)
      (subst (λ (z : Known). HasJudged v.limits z s rec head) (sym c.view.now)
      (has_judged_more v.limits k (record k { counters = c.counters; facts = k.facts ++ c.facts; finds = k.finds ++ CountedTails (range_of rec) count ∷ [] }) s rec head
      record { number = refl; begin = refl; own = refl; front = refl } (λ f h. Contains-append_left k.facts c.facts f h) judged)) in
      judged_may_draw u s rec j.0 (still_hosts hosted) (let e = ap (λ (l : Limits). l.sessions) c.view.limits in omega arith) (ap (λ (h : Hold). h.latch) hold_is)
      (subst (λ (n : ℕ). IsChainFrom u.limits (knows u s).facts rec n j.0) (sym (ap (λ (h : Hold). h.head) hold_is)) j.1.chain) j.2

  module _ (w : View) (x y : ℕ) (h : Met u w (DrawTail s (rec / 256)) (TailCounter (rec / 256)) y x) where
    abbrev W' : Words
    W' = shown u.limits h.made.told.words

    abbrev k' : Known
    k' = record (knows v s) { counters = c.counters; facts = (knows v s).facts ++ c.facts; finds = (knows v s).finds ++ CountedTails (range_of rec) count ∷ [] }

    outcome : (b : Bool) → nat_lt x u.limits.tails ≡ b → Learns v w s (cond b (tail_drawn u.limits W' (knows u s) (rec / 256)) (tails_full W' (knows u s) (rec / 256)))
    outcome b e = learns_on v u w s _ _ c.view (subst (λ (z : Bool). Learns u w s (cond z (tail_drawn u.limits W' (knows u s) (rec / 256)) (tails_full W' (knows u s) (rec / 256)))) (ap (λ (z : ℕ). nat_lt z u.limits.tails) h.found ∙ e) h.made.view)

    -- to a view that knows each word, it is the counter's
    counts_found : v.whole ≡ true → Kept v u → (known_words v).counts (rec / 256) ≡ x
    counts_found whole kept = (λ i. (shown (sym c.view.limits i) ((sym (kept.words whole) ∙ h.made.told.allowed.whole (c.view.whole ∙ whole)) i)).counts (rec / 256)) ∙ h.found

    drawn_words : v.whole ≡ true → Kept v u → known_words w ≡ with_count (known_words v) (rec / 256) (x + 1)
    drawn_words whole kept = let r : ℕ = rec / 256 in made_words u w (DrawTail s r) (TailCounter r) y h.made (c.view.whole ∙ whole)
        ∙ ((λ i. let a : Words = shown (c.view.limits i) (kept.words whole i) in with_count a r (a.counts r + 1)) ∙ ap (λ (n : ℕ). with_count (known_words v) r (n + 1)) (counts_found whole kept))

    pub draw_won : Kept v u → x < v.limits.tails → Draws v w s rec head (x + 1)
    draw_won kept low = let k : Known = knows v s in let l : Limits = v.limits in let same : u.limits ≡ v.limits = c.view.limits in record {
      some = omega arith;
      few = omega arith;
      count = count;
      counters = set c.counters (rec / 256) (spent (counter_of k' (rec / 256)));
      facts = c.facts ++ TailsAtLeast (rec / 256) (x + 1) ∷ [];
      view = subst (λ (z : Known). Learns v w s z)
          ((λ i. tail_drawn (same i) W' (c.view.now i) (rec / 256))
          ∙ (λ i. record k {
            hold = record { latch = (ap (λ (z : Hold). z.latch) latch) i; head = (ap (λ (z : Hold). z.head) latch) i; tail = (ap (λ (z : ℕ). rec / 256 * l.tails + z + 1) h.found ∙ (let e : rec / 256 * l.tails + x + 1 ≡ rec / 256 * l.tails + (x + 1) = omega arith in e)) i; is_whole = (ap (λ (z : Hold). z.is_whole) latch) i };
            draft = record { words = replicate (3 + l.columns) 0; stored = 0; posted = 0; unposted = 0 };
            counters = set c.counters (rec / 256) (spent (counter_of k' (rec / 256)));
            facts = (ap (λ (z : ℕ). (k.facts ++ c.facts) ++ TailsAtLeast (rec / 256) (z + 1) ∷ []) h.found ∙ append_assoc k.facts c.facts (TailsAtLeast (rec / 256) (x + 1) ∷ [])) i;
            finds = k.finds ++ CountedTails (rec / 256) count ∷ [];
          }))
          (outcome true (lt-ltb x u.limits.tails (let e = ap (λ (z : Limits). z.tails) same in omega arith)));
      words = λ whole. (let e = counts_found whole kept in omega arith, drawn_words whole kept);
    }

    pub draw_full : Kept v u → (v.whole ≡ true → (known_words v).counts (rec / 256) < v.limits.tails) → v.limits.tails ≤ x → FindsFull v w s (range_of rec)
    draw_full kept left high = let k : Known = knows v s in let same : u.limits ≡ v.limits = c.view.limits in record {
      count = count;
      counts = record {
        counters = set c.counters (rec / 256) (drawn_full x);
        facts = c.facts ++ TailsAtLeast (rec / 256) (x + 1) ∷ [];
        view = subst (λ (z : Known). Learns v w s z)
            ((λ i. tails_full W' (c.view.now i) (rec / 256))
            ∙ (λ i. record k {
              counters = set c.counters (rec / 256) (drawn_full (h.found i));
              facts = (ap (λ (z : ℕ). (k.facts ++ c.facts) ++ TailsAtLeast (rec / 256) (z + 1) ∷ []) h.found ∙ append_assoc k.facts c.facts (TailsAtLeast (rec / 256) (x + 1) ∷ [])) i;
              finds = append_assoc k.finds (CountedTails (rec / 256) count ∷ []) (FullTails (rec / 256) ∷ []) i;
            }))
            (outcome false (not_below x u.limits.tails (let e = ap (λ (z : Limits). z.tails) same in omega arith)));
      };
      kept = record { words = λ whole. absurd (let e = counts_found whole kept in let below = left whole in omega arith) };
    }
