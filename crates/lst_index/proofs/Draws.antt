-- The draw of a record.
use Rattle.std.proofs.Common.{◌≡◌, ℕ, ◌+◌, ◌-◌, ◌%◌, ◌^◌, ◌<◌, ◌≤◌, List, [], ◌∷◌, ◌++◌, Bool, true, false, cond, nat_lt, ◌||◌, slice_set, refl, sym, subst, ap, ◌∙◌, arith, lt-ltb, le-ltb}
use Rattle.std.specs.List.{Contains}
use Rattle.lst_layout.specs.declared.limits.Limits.{Limits}
use Rattle.lst_layout.specs.declared.place.Place.{Place}
use Rattle.lst_layout.specs.declared.place.Place.TheVariants.{RecordCounter, KeyWord}
use Rattle.lst_layout.specs.Limits.{IsValid}
use Rattle.lst_layout.specs.Addresses.{address}
use Rattle.lst_layout.specs.Words.{Words, shown}
use Rattle.lst_layout.specs.Areas as areas
use Rattle.lst_core_state.specs.declared.known.Known.{Known}
use Rattle.lst_core_state.specs.declared.known.Placing.{Placing}
use Rattle.lst_core_state.specs.declared.events.Event.TheVariants.{Look, DrawRecord, StoreKey}
use Rattle.lst_core_state.specs.declared.facts.Fact.TheVariants.{RecordsAtLeast}
use Rattle.lst_core_state.specs.declared.facts.Find.{Find}
use Rattle.lst_core_state.specs.declared.facts.Find.TheVariants.{FullRecords}
use Rattle.lst_core_state.specs.Cells.{record_count}
use Rattle.lst_core_state.specs.Step.{served, spent, drawn_full, if_full}
use Rattle.lst_rule.specs.declared.view.View.{View}
use Rattle.lst_rule.specs.Rule.{knows}
use Rattle.lst_rule.specs.Learned.{Learns, Made, Met}
use Rattle.lst_rule.specs.Stores.{Looked}
use Rattle.lst_index.specs.Searches.{Works}
use Rattle.lst_index.specs.Placings.{IsFull, drawn_words}
use Rattle.lst_index.specs.Visits.{one, Uses, HasOne, Draws}
use Rattle.lst_index.proofs.Lists.{contains_last}
use Rattle.lst_index.proofs.Wholes.{met_word, made_shows}
use Rattle.lst_index.proofs.Views.{works_of, works_on, works_plain, works_placing}

or_true : (b : Bool) → (b || true) ≡ true
or_true true = refl
or_true false = refl

-- that every record is drawn is a fact
is_full : (v w : View) (s n : ℕ) → w.limits ≡ v.limits → record_count v.limits ≤ n → Contains (knows w s).facts (RecordsAtLeast n) → IsFull w s
is_full v w s n same full fact = (n, subst (λ (l : Limits). record_count l ≤ n) (sym same) full, fact)

-- ---- a load of the record counter

module _ (v w : View) (s x : ℕ) (h : Looked v w s RecordCounter x) where
  abbrev k : Known
  k = knows v s

  abbrev after_load : ℕ → List Find → Known
  after_load y finds = record k {
    placing = record k.placing { counter = served (record_count v.limits) y k.placing.counter };
    facts = k.facts ++ RecordsAtLeast y ∷ [];
    finds = k.finds ++ finds;
  }

  learns : Learns v w s (after_load x (if_full (record_count v.limits) x FullRecords))
  learns = subst (λ (y : ℕ). Learns v w s (after_load y (if_full (record_count v.limits) y FullRecords))) h.met.found h.view

  works : (finds : List Find) → if_full (record_count v.limits) x FullRecords ≡ finds → Works v w s finds
  works finds is = works_of v w s (record k.placing { counter = served (record_count v.limits) x k.placing.counter }) (RecordsAtLeast x ∷ []) finds k.looks.index (subst (λ (fs : List Find). Learns v w s (after_load x fs)) is learns)

  pub load_works : x < record_count v.limits → Works v w s []
  load_works low = works [] (ap (λ (b : Bool). cond b [] (FullRecords ∷ [])) (lt-ltb x (record_count v.limits) low))

  pub load_works_full : record_count v.limits ≤ x → Works v w s (FullRecords ∷ [])
  load_works_full full = works (FullRecords ∷ []) (ap (λ (b : Bool). cond b [] (FullRecords ∷ [])) (le-ltb x (record_count v.limits) full))

  pub load_placing : (knows w s).placing ≡ record k.placing { counter = (knows w s).placing.counter }
  load_placing = let e : (knows w s).placing ≡ record k.placing { counter = served (record_count v.limits) x k.placing.counter } = ap (λ (z : Known). z.placing) learns.now in
      e ∙ (λ i. record k.placing { counter = (sym e i).counter })

  pub load_serves : x < record_count v.limits → (knows w s).placing.counter.is_serving ≡ true
  load_serves low = ap (λ (z : Known). z.placing.counter.is_serving) learns.now ∙ (ap (λ (b : Bool). k.placing.counter.is_serving || b) (lt-ltb x (record_count v.limits) low) ∙ or_true k.placing.counter.is_serving)

  pub load_full : record_count v.limits ≤ x → IsFull w s
  load_full full = is_full v w s x learns.limits full (subst (λ (z : Known). Contains z.facts (RecordsAtLeast x)) (sym learns.now) (contains_last k.facts (RecordsAtLeast x)))

  -- in the words of a view that knows each word
  counted : v.whole ≡ true → (shown v.limits v.words).counter ≡ x
  counted whole = met_word v w (Look s (address v.limits RecordCounter)) RecordCounter x x h.met whole

  pub load_below : x < record_count v.limits → v.whole ≡ true → (shown v.limits v.words).counter < record_count v.limits
  load_below low whole = let e = counted whole in omega arith

  pub load_reached : record_count v.limits ≤ x → v.whole ≡ true → record_count v.limits ≤ (shown v.limits v.words).counter
  load_reached full whole = let e = counted whole in omega arith

-- ---- a draw

module _ (v w : View) (s x y : ℕ) (h : Met v w (DrawRecord s) RecordCounter y x) where
  abbrev u : Known
  u = knows v s

  abbrev drawn_as : ℕ → Known
  drawn_as n = record u {
    placing = record u.placing { hand = n + 1; has_key = false; counter = spent u.placing.counter; drawn = u.placing.drawn ++ n ∷ [] };
    facts = u.facts ++ RecordsAtLeast (n + 1) ∷ [];
  }

  abbrev full_as : ℕ → Known
  full_as n = record u {
    placing = record u.placing { counter = drawn_full n };
    facts = u.facts ++ RecordsAtLeast (n + 1) ∷ [];
    finds = u.finds ++ FullRecords ∷ [];
  }

  draws : Learns v w s (cond (nat_lt x (record_count v.limits)) (drawn_as x) (full_as x))
  draws = subst (λ (n : ℕ). Learns v w s (cond (nat_lt n (record_count v.limits)) (drawn_as n) (full_as n))) h.found h.made.view

  draws_low : x < record_count v.limits → Learns v w s (drawn_as x)
  draws_low low = subst (λ (b : Bool). Learns v w s (cond b (drawn_as x) (full_as x))) (lt-ltb x (record_count v.limits) low) draws

  draws_full : record_count v.limits ≤ x → Learns v w s (full_as x)
  draws_full full = subst (λ (b : Bool). Learns v w s (cond b (drawn_as x) (full_as x))) (le-ltb x (record_count v.limits) full) draws

  pub draw_full_works : record_count v.limits ≤ x → Works v w s (FullRecords ∷ [])
  draw_full_works full = works_of v w s (record u.placing { counter = drawn_full x }) (RecordsAtLeast (x + 1) ∷ []) (FullRecords ∷ []) u.looks.index (draws_full full)

  pub draw_full_is : record_count v.limits ≤ x → IsFull w s
  draw_full_is full = is_full v w s (x + 1) (draws_full full).limits (omega arith) (subst (λ (z : Known). Contains z.facts (RecordsAtLeast (x + 1))) (sym (draws_full full).now) (contains_last u.facts (RecordsAtLeast (x + 1))))

  pub draw_full_placing : record_count v.limits ≤ x → (knows w s).placing ≡ record u.placing { counter = (knows w s).placing.counter }
  draw_full_placing full = let e : (knows w s).placing ≡ record u.placing { counter = drawn_full x } = ap (λ (z : Known). z.placing) (draws_full full).now in e ∙ (λ i. record u.placing { counter = (sym e i).counter })

  -- in the words of a view that knows each word
  pub draw_found : v.whole ≡ true → (shown v.limits v.words).counter ≡ x
  draw_found whole = met_word v w (DrawRecord s) RecordCounter y x h whole

  pub draw_reached : record_count v.limits ≤ x → v.whole ≡ true → record_count v.limits ≤ (shown v.limits v.words).counter
  draw_reached full whole = let e = draw_found whole in omega arith

  -- and the store of the key
  module _ (o : View) (key : ℕ) (p : Place) (j : Made w o (StoreKey s key) p key) (low : x < record_count v.limits) where
    keyed : Learns w o s (record (knows w s) { placing = record (knows w s).placing { key = key; has_key = true } })
    keyed = j.view

    pub drawn_works : Works v o s []
    drawn_works = works_on v w o s [] (works_plain v w s (drawn_as x).placing (RecordsAtLeast (x + 1) ∷ []) u.looks.index (draws_low low)) (works_placing w o s (record (knows w s).placing { key = key; has_key = true }) keyed)

    placing_is : (knows o s).placing ≡ record (drawn_as x).placing { key = key; has_key = true }
    placing_is = ap (λ (z : Known). z.placing) keyed.now ∙ ap (λ (z : Known). record z.placing { key = key; has_key = true }) (draws_low low).now

    pub drawn_has : HasOne (knows o s).placing key
    drawn_has = subst (λ (q : Placing). HasOne q key) (sym placing_is) record { some = omega arith; keyed = refl; same = refl }

    pub drawn_uses : u.placing.has_key ≡ false → Uses u.placing (knows o s).placing 1
    drawn_uses none = subst (λ (q : Placing). Uses u.placing q 1) (sym placing_is) record { drew = x ∷ []; drawn = refl; few = let e = ap one none in omega arith }

  module _ (o : View) (key : ℕ) (j : Made w o (StoreKey s key) (KeyWord ((knows w s).placing.hand - 1)) key) (low : x < record_count v.limits) (next : y ≡ (x + 1) % 2 ^ 64) where
    limits : w.limits ≡ v.limits
    limits = (draws_low low).limits

    sum_fits : y ≡ x + 1
    sum_fits = let sized : IsValid v.limits = h.made.told.allowed.sound.sized in let few = sized.ranges.1 in omega arith

    record_is : (knows w s).placing.hand - 1 ≡ x
    record_is = let e : (knows w s).placing.hand ≡ x + 1 = ap (λ (z : Known). z.placing.hand) (draws_low low).now in omega arith

    counter_stored : w.words ≡ slice_set v.words (address v.limits RecordCounter) (x + 1)
    counter_stored = h.made.words ∙ ap (slice_set v.words (address v.limits RecordCounter)) sum_fits

    key_stored : o.words ≡ drawn_words v.limits v.words x key
    key_stored = j.words ∙ (λ i. slice_set (counter_stored i) (address (limits i) (KeyWord (record_is i))) key)

    index_stays : v.whole ≡ true → (shown v.limits o.words).index ≡ (shown v.limits v.words).index
    index_stays whole = let drawn = made_shows v w (DrawRecord s) RecordCounter y h.made whole in
        let keyed = made_shows w o (StoreKey s key) (KeyWord ((knows w s).placing.hand - 1)) key j ((draws_low low).whole ∙ whole) in
        subst (λ (l : Limits). (shown l o.words).index ≡ (shown l w.words).index) limits (ap (λ (z : Words). z.index) keyed) ∙ ap (λ (z : Words). z.index) drawn

    pub draw_stores : v.whole ≡ true → Draws v o s key
    draw_stores whole = record {
      number = x;
      low = low;
      next = draw_found whole;
      hand = ap (λ (z : Known). z.placing.hand) j.view.now ∙ ap (λ (z : Known). z.placing.hand) (draws_low low).now;
      words = key_stored;
      index = index_stays whole;
    }

-- the limit that the program compares with is that of the view
pub limit_is : (v : View) (l m : Limits) (n : ℕ) → n ≡ areas.record_count l → l ≡ m → v.limits ≡ m → n ≡ record_count v.limits
limit_is v l m n is same of = is ∙ (ap record_count same ∙ ap record_count (sym of))
