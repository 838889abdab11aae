-- Each kind of step keeps what holds of the index.
use Rattle.std.proofs.Common.{◌≡◌, ◌≢◌, ℕ, ◌+◌, ◌-◌, ◌<◌, ◌≤◌, [], ◌∷◌, ◌++◌, true, false, refl, sym, subst, ap, ◌∙◌, arith, true≢false, Contains}
use Rattle.std.proofs.lemmas.List.Elements.{Contains-append_left, Contains-append_right}
use mathlib.Core.Logic.{dite}
use native.Mathlib.Decide.{ℕ_discrete, dec_lt}
use Rattle.lst_layout.specs.declared.limits.Limits.{Limits}
use Rattle.lst_layout.specs.Limits.{IsValid}
use Rattle.lst_layout.specs.Functions.{put}
use Rattle.lst_probe.proofs.Counting.{pigeonhole}
use Rattle.lst_core_state.specs.declared.known.Placing.{Placing}
use Rattle.lst_core_state.specs.Cells.{record_count}
use Rattle.lst_core_state.specs.Index.{size, position_of, Passes}
use Rattle.lst_core_state.specs.Step.{served, drawn_full, spent}
use Rattle.lst_core_state.specs.Sound.{Counted, Filled, Placed, Indexed}
use Rattle.lst_core_state.proofs.Functions.{put_here, put_else, each_put}
use Rattle.lst_core_state.proofs.Positions.{positions_apart, records_low}
use Rattle.lst_core_state.proofs.Counters.{along, counted_look, counted_put, counted_draw, counted_full, counter_low}

module _ (l : Limits) (counter : ℕ) (keys index : ℕ → ℕ) (placing : ℕ → Placing) (p : Indexed l counter keys index placing) where
  -- where the run of a key ends without it, the key stands in no position
  pub absent : (key n : ℕ) → Passes l keys index key n → index (position_of l key n) ≡ 0 → (q : ℕ) → 0 < index q → keys (index q - 1) ≢ key
  absent key n passes free q some e = let f : Filled l counter index key q (index q) = subst (λ (k : ℕ). Filled l counter index k q (index q)) e (p.filled q some) in
      dite (dec_lt f.at n)
      (λ h. (passes f.at h).1 (subst (λ (z : ℕ). keys (index z - 1) ≡ key) f.is e))
      (λ h. dite (ℕ_discrete f.at n)
      (λ g. let same : index q ≡ index (position_of l key n) = ap index (f.is ∙ ap (position_of l key) g) in omega arith)
      (λ g. let some' = f.run n (grind (arith, h, g)) in omega arith))

  -- a run is never full
  pub not_full : IsValid l → (key : ℕ) → ((i : ℕ) → i < size l → 0 < index (position_of l key i)) → ⊥
  not_full z key full = let few = records_low l z in let h = pigeonhole (size l) (record_count l) record_at low apart in omega arith
    where
      record_at : ℕ → ℕ
      record_at i = index (position_of l key i) - 1

      low : (i : ℕ) → i < size l → record_at i < record_count l
      low i h = let some = full i h in let f = (p.filled (position_of l key i) some).few in omega arith

      apart : (i j : ℕ) → i < size l → j < size l → record_at i ≡ record_at j → i ≡ j
      apart i j h k e = positions_apart l z key i j h k (p.one (position_of l key i) (position_of l key j) (full i h) (full j k) (ap keys e))

  -- the counter passes its limit by no more than there are sessions
  pub records_few : counter ≤ record_count l + l.sessions
  records_few = counter_low (record_count l) l.sessions counter (λ s. (placing s).counter) p.counted

  module _ (s : ℕ) (low : s < l.sessions) where
    -- s has another record in hand
    apart_put : (h' : Placing) → (0 < h'.hand → (b : ℕ) → b ≢ s → b < l.sessions → h'.hand ≢ (placing b).hand)
        → (a b : ℕ) → a < l.sessions → b < l.sessions → 0 < (put placing s h' a).hand → (put placing s h' a).hand ≡ (put placing s h' b).hand → a ≡ b
    apart_put h' new = each_put (λ (a : ℕ) (h : Placing). (b : ℕ) → a < l.sessions → b < l.sessions → 0 < h.hand → h.hand ≡ (put placing s h' b).hand → a ≡ b) placing s h'
        (each_put (λ (b : ℕ) (g : Placing). s < l.sessions → b < l.sessions → 0 < h'.hand → h'.hand ≡ g.hand → s ≡ b) placing s h' (λ _ _ _ _. refl) (λ b other ls lb pos e. absurd (new pos b other lb e)))
        (λ a other. each_put (λ (b : ℕ) (g : Placing). a < l.sessions → b < l.sessions → 0 < (placing a).hand → (placing a).hand ≡ g.hand → a ≡ b) placing s h'
        (λ la ls pos e. absurd (new (omega arith) a other la (sym e))) (λ b other' la lb pos e. p.apart a b la lb pos e))

    same_apart : (h' : Placing) → (0 < h'.hand → h'.hand ≡ (placing s).hand) → 0 < h'.hand → (b : ℕ) → b ≢ s → b < l.sessions → h'.hand ≢ (placing b).hand
    same_apart h' same pos b other lb e = other (sym (p.apart s b low lb (let f = same pos in omega arith) (sym (same pos) ∙ e)))

    drawns_put : (h' : Placing) → ((r : ℕ) → Contains (placing s).drawn r → Contains h'.drawn r) → (r : ℕ) → r < counter → r < record_count l → (p.drawer r < l.sessions) × Contains (put placing s h' (p.drawer r)).drawn r
    drawns_put h' more r below few = let d = p.drawns r below few in (
      d.0,
      dite (ℕ_discrete (p.drawer r) s)
          (λ e. subst (λ (h : Placing). Contains h.drawn r) (sym (ap (put placing s h') e ∙ put_here placing s h')) (more r (subst (λ (j : ℕ). Contains (placing j).drawn r) e d.1)))
          (λ ne. subst (λ (h : Placing). Contains h.drawn r) (sym (put_else placing s h' (p.drawer r) ne)) d.1),
    )

    -- what the sessions know of the counter
    counters : (h' : Placing) (limit count : ℕ) → Counted limit l.sessions count (put (λ (j : ℕ). (placing j).counter) s h'.counter) → Counted limit l.sessions count (λ j. (put placing s h' j).counter)
    counters h' limit count k = subst (Counted limit l.sessions count) (sym (along (λ (h : Placing). h.counter) placing s h')) k

    -- the index stays, and s knows something else of its record
    hold : (h' : Placing) → Placed l counter keys index h' → (0 < h'.hand → h'.hand ≡ (placing s).hand) → Counted (record_count l) l.sessions counter (put (λ (j : ℕ). (placing j).counter) s h'.counter) → ((r : ℕ) → Contains (placing s).drawn r → Contains h'.drawn r) → Indexed l counter keys index (put placing s h')
    hold h' mine hand counted drawn = record {
      filled = p.filled;
      one = p.one;
      hands = each_put (λ (j : ℕ) (h : Placing). j < l.sessions → Placed l counter keys index h) placing s h' (λ _. mine) (λ j other. p.hands j);
      apart = apart_put h' (same_apart h' hand);
      counted = counters h' (record_count l) counter counted;
      drawer = p.drawer;
      drawns = drawns_put h' drawn;
    }

    -- nothing is known but what was
    pub still : (h' : Placing) → h' ≡ placing s → Indexed l counter keys index (put placing s h')
    still h' e = subst (λ (h : Placing). Indexed l counter keys index (put placing s h)) (sym e) (hold (placing s) (p.hands s low) (λ _. refl) (counted_put (record_count l) l.sessions counter (λ j. (placing j).counter) p.counted s low (placing s).counter refl (p.counted.serves s low)) (λ _ i. i))

    -- a record in hand, where the counter is more
    more : (h : Placing) → Placed l counter keys index h → Placed l (counter + 1) keys index h
    more h o = record { low = let a = o.low in omega arith; few = o.few; out = o.out; keyed = o.keyed }

    more_filled : (q : ℕ) → 0 < index q → Filled l (counter + 1) index (keys (index q - 1)) q (index q)
    more_filled q some = let f = p.filled q some in record {
      position = f.position;
      low = let a = f.low in omega arith;
      few = f.few;
      at = f.at;
      short = f.short;
      is = f.is;
      run = f.run;
    }

    module _ (none : (placing s).hand ≡ 0) (serving : (placing s).counter.is_serving ≡ true) where
      pub draw : counter < record_count l → Indexed l (counter + 1) keys index (put placing s (record (placing s) { hand = counter + 1; has_key = false; counter = spent (placing s).counter; drawn = (placing s).drawn ++ counter ∷ [] }))
      draw short = let h' : Placing = record (placing s) { hand = counter + 1; has_key = false; counter = spent (placing s).counter; drawn = (placing s).drawn ++ counter ∷ [] } in record {
        filled = more_filled;
        one = p.one;
        hands = each_put (λ (j : ℕ) (h : Placing). j < l.sessions → Placed l (counter + 1) keys index h) placing s h'
            (λ _. record {
              low = omega arith;
              few = omega arith;
              out = λ pos q e. let f = (p.filled q (omega arith)).low in omega arith;
              keyed = λ e. absurd (true≢false (sym e));
            })
            (λ j other lj. more (placing j) (p.hands j lj));
        apart = apart_put h' (λ pos b other lb e. let g = (p.hands b lb).low in omega arith);
        counted = counters h' (record_count l) (counter + 1) (counted_draw (record_count l) l.sessions counter (λ j. (placing j).counter) p.counted s low serving short);
        drawer = put p.drawer counter s;
        drawns = each_put (λ (r j : ℕ). r < counter + 1 → r < record_count l → (j < l.sessions) × Contains (put placing s h' j).drawn r) p.drawer counter s
            (λ _ _. (low, subst (λ (h : Placing). Contains h.drawn counter) (sym (put_here placing s h')) (Contains-append_right (placing s).drawn (counter ∷ []) counter (0, omega arith, refl))))
            (λ r other below few. drawns_put h' (λ n c. Contains-append_left (placing s).drawn (counter ∷ []) n c) r (omega arith) few);
      }

      pub draw_full : record_count l ≤ counter → Indexed l (counter + 1) keys index (put placing s (record (placing s) { counter = drawn_full counter }))
      draw_full full = let own = p.hands s low in let h' : Placing = record (placing s) { counter = drawn_full counter } in record {
        filled = more_filled;
        one = p.one;
        hands = each_put (λ (j : ℕ) (h : Placing). j < l.sessions → Placed l (counter + 1) keys index h) placing s h'
            (λ _. record { low = omega arith; few = own.few; out = own.out; keyed = own.keyed })
            (λ j other lj. more (placing j) (p.hands j lj));
        apart = apart_put h' (same_apart h' (λ _. refl));
        counted = counters h' (record_count l) (counter + 1) (counted_full (record_count l) l.sessions counter (λ j. (placing j).counter) p.counted s low serving full);
        drawer = p.drawer;
        drawns = λ r below few. drawns_put h' (λ n c. c) r (omega arith) few;
      }

    module _ (x : ℕ) (hand : 0 < (placing s).hand) where
      abbrev pub keys' : ℕ → ℕ
      keys' = put keys ((placing s).hand - 1) x

      -- the key of a record in the index stays
      pub indexed_key : (q : ℕ) → 0 < index q → keys' (index q - 1) ≡ keys (index q - 1)
      indexed_key q some = put_else keys ((placing s).hand - 1) x (index q - 1) (λ e. (p.hands s low).out hand q (omega arith))

      pub store_key : Indexed l counter keys' index (put placing s (record (placing s) { key = x; has_key = true }))
      store_key = let own = p.hands s low in let h' : Placing = record (placing s) { key = x; has_key = true } in record {
        filled = λ q some. subst (λ (k : ℕ). Filled l counter index k q (index q)) (sym (indexed_key q some)) (p.filled q some);
        one = λ q r a b e. p.one q r a b (sym (indexed_key q a) ∙ (e ∙ indexed_key r b));
        hands = each_put (λ (j : ℕ) (h : Placing). j < l.sessions → Placed l counter keys' index h) placing s h'
            (λ _. record {
              low = own.low;
              few = own.few;
              out = own.out;
              keyed = λ _. (hand, put_here keys ((placing s).hand - 1) x);
            })
            (λ j other lj. let o = p.hands j lj in record {
              low = o.low;
              few = o.few;
              out = o.out;
              keyed = λ e. let a = o.keyed e in (a.0, put_else keys ((placing s).hand - 1) x ((placing j).hand - 1) (λ f. other (p.apart j s lj low a.0 (let b = a.0 in omega arith))) ∙ a.1);
            });
        apart = apart_put h' (same_apart h' (λ _. refl));
        counted = counters h' (record_count l) counter (counted_put (record_count l) l.sessions counter (λ j. (placing j).counter) p.counted s low (placing s).counter refl (p.counted.serves s low));
        drawer = p.drawer;
        drawns = drawns_put h' (λ r c. c);
      }

    module _ (q n : ℕ) (has : (placing s).has_key ≡ true) (short : n < size l) (position : q < size l) (at : q ≡ position_of l (placing s).key n) (passes : Passes l keys index (placing s).key n) (free : index q ≡ 0) where
      abbrev key : ℕ
      key = (placing s).key

      abbrev hand : ℕ
      hand = (placing s).hand

      abbrev index' : ℕ → ℕ
      index' = put index q hand

      pub claim_keyed : (0 < hand) × (keys (hand - 1) ≡ key)
      claim_keyed = (p.hands s low).keyed has

      pub claim_none : (r : ℕ) → 0 < index r → keys (index r - 1) ≢ key
      claim_none = absent key n passes (ap index (sym at) ∙ free)

      stays : (r : ℕ) → 0 < index r → index' r ≡ index r
      stays r some = put_else index q hand r (λ e. let f = ap index e in omega arith)

      filled_still : (r : ℕ) → 0 < index r → 0 < index' r
      filled_still r some = let e = stays r some in omega arith

      abbrev claimed : Placing
      claimed = record (placing s) { hand = 0; has_key = false }

      pub claim : Indexed l counter keys index' (put placing s claimed)
      claim = let own = p.hands s low in let keyed = claim_keyed in let none = claim_none in record {
        filled = each_put (λ (r x : ℕ). 0 < x → Filled l counter index' (keys (x - 1)) r x) index q hand
            (λ some. record {
              position = position;
              low = own.low;
              few = own.few;
              at = n;
              short = short;
              is = at ∙ ap (λ (k : ℕ). position_of l k n) (sym keyed.1);
              run = λ i h. subst (λ (k : ℕ). 0 < index' (position_of l k i)) (sym keyed.1) (filled_still (position_of l key i) (passes i h).0);
            })
            (λ r other some. let f = p.filled r some in record {
              position = f.position;
              low = f.low;
              few = f.few;
              at = f.at;
              short = f.short;
              is = f.is;
              run = λ i h. filled_still (position_of l (keys (index r - 1)) i) (f.run i h);
            });
        one = each_put (λ (r x : ℕ). (t : ℕ) → 0 < x → 0 < index' t → keys (x - 1) ≡ keys (index' t - 1) → r ≡ t) index q hand
            (each_put (λ (t y : ℕ). 0 < hand → 0 < y → keys (hand - 1) ≡ keys (y - 1) → q ≡ t) index q hand (λ _ _ _. refl) (λ t other _ some e. absurd (none t some (sym e ∙ keyed.1))))
            (λ r other. each_put (λ (t y : ℕ). 0 < index r → 0 < y → keys (index r - 1) ≡ keys (y - 1) → r ≡ t) index q hand (λ some _ e. absurd (none r some (e ∙ keyed.1))) (λ t other' a b e. p.one r t a b e));
        hands = each_put (λ (j : ℕ) (h : Placing). j < l.sessions → Placed l counter keys index' h) placing s claimed
            (λ _. record {
              low = omega arith;
              few = omega arith;
              out = λ pos. absurd (omega arith);
              keyed = λ e. absurd (true≢false (sym e));
            })
            (λ j other lj. let o = p.hands j lj in record {
              low = o.low;
              few = o.few;
              out = λ pos. each_put (λ (r x : ℕ). x ≢ (placing j).hand) index q hand (λ e. other (sym (p.apart s j low lj keyed.0 e))) (λ r other'. o.out pos r);
              keyed = o.keyed;
            });
        apart = apart_put claimed (λ pos. absurd (omega arith));
        counted = counters claimed (record_count l) counter (counted_put (record_count l) l.sessions counter (λ j. (placing j).counter) p.counted s low (placing s).counter refl (p.counted.serves s low));
        drawer = p.drawer;
        drawns = drawns_put claimed (λ r c. c);
      }

    -- the record in hand is given up
    pub drop_hand : Indexed l counter keys index (put placing s (record (placing s) { hand = 0; has_key = false }))
    drop_hand = hold (record (placing s) { hand = 0; has_key = false }) record {
      low = omega arith;
      few = omega arith;
      out = λ pos. absurd (omega arith);
      keyed = λ e. absurd (true≢false (sym e));
    } (λ pos. absurd (omega arith)) (counted_put (record_count l) l.sessions counter (λ j. (placing j).counter) p.counted s low (placing s).counter refl (p.counted.serves s low)) (λ _ i. i)

    -- the counter was loaded
    pub serve : Indexed l counter keys index (put placing s (record (placing s) { counter = served (record_count l) counter (placing s).counter }))
    serve = let own = p.hands s low in hold (record (placing s) { counter = served (record_count l) counter (placing s).counter }) record {
      low = own.low;
      few = own.few;
      out = own.out;
      keyed = own.keyed;
    } (λ _. refl) (counted_look (record_count l) l.sessions counter (λ j. (placing j).counter) p.counted s low) (λ _ i. i)
