-- Each kind of step keeps the versions.
use Rattle.std.proofs.Common.{◌≡◌, ◌≢◌, ℕ, ◌+◌, ◌-◌, ◌*◌, ◌/◌, ◌%◌, ◌<◌, ◌≤◌, List, [], ◌∷◌, Bool, true, false, refl, sym, subst, ap, ◌∙◌, arith, true≢false, ◌⊎◌, ⊎_elim, inl, inr, lt_of_not-le, suc, mul-le-mul_right, suc-mul}
use mathlib.Core.Logic.{dite}
use native.Mathlib.Decide.{ℕ_discrete, dec_le, dec_lt}
use Rattle.lst_layout.specs.declared.limits.Limits.{Limits}
use Rattle.lst_core_state.specs.declared.known.Known.{Known}
use Rattle.lst_layout.specs.Functions.{put, put_in}
use Rattle.lst_core_state.specs.Lists.{Has, Links, Judged}
use Rattle.lst_core_state.specs.declared.known.Hold.{Hold}
use Rattle.lst_core_state.specs.Cells.{record_count, range_of, tail_at}
use Rattle.lst_core_state.specs.Index.{is_placed}
use Rattle.lst_core_state.specs.State.{Words, entry, writer_at, name_of, line, rank, record_in, back_in, head_of, no_hold, starts}
use Rattle.lst_layout.specs.Limits.{IsValid}
use Rattle.lst_core_state.specs.Sound.{LineOf, Begun, InHand, StoredOf, Hand, HandOf, Versions, TimesOf, Each, Latched, Drawn}
use Rattle.lst_core_state.proofs.Functions.{put_here, put_else, each_put, put_in_else}
use Rattle.lst_core_state.proofs.Lists.{judged_below}
use Rattle.lst_core_state.proofs.Steps.{writer_odd, writer_log, name_session, name_entry, Same, line_step, stored_step, hand_none, hand_idle, hand_step, Distinct, distinct_put, distinct_same}

-- what a kind has to show of another session's hand
pub record Held (l : Limits) (w w' : Words) (j : ℕ) (u : Known) : Type 0 where
  pub head : 0 < u.hold.latch → w'.heads (u.hold.latch - 1) ≡ w.heads (u.hold.latch - 1)
  pub tail : 0 < u.hold.tail → (w'.cells u.hold.tail 0 ≡ w.cells u.hold.tail 0) × (record_in l w'.cells u.hold.tail ≡ record_in l w.cells u.hold.tail) × (entry w'.begins (name_of j u.number) ≡ entry w.begins (name_of j u.number))

abbrev pub latch_of : Hold → ℕ
latch_of h = h.latch

abbrev pub tail_of : Hold → ℕ
tail_of h = h.tail

abbrev pub whole_of : Hold → Bool
whole_of h = h.is_whole

module _ (l : Limits) (w : Words) (known : ℕ → Known) (sized : IsValid l) (times : TimesOf l w) (each : Each l w known) (V : Versions l w known) where
  -- who had a latch that s does not change has it still
  pub latched_put : (s : ℕ) (v' : Known) (r : ℕ) → ((known s).hold.latch ≡ r + 1 → v'.hold.latch ≡ r + 1) → Latched l known r → Latched l (put known s v') r
  latched_put s v' r still q = (
    q.0,
    q.1,
    dite (ℕ_discrete q.0 s)
        (λ e. ap (λ (u : Known). u.hold.latch) (ap (put known s v') e ∙ put_here known s v') ∙ still (ap (λ (x : ℕ). (known x).hold.latch) (sym e) ∙ q.2))
        (λ ne. ap (λ (u : Known). u.hold.latch) (put_else known s v' q.0 ne) ∙ q.2),
  )

  pub held_same : (s : ℕ) (v' : Known) → v'.hold.latch ≡ (known s).hold.latch → (r : ℕ) → r < record_count l → w.heads r % 2 ≡ 1 → Latched l (put known s v') r
  held_same s v' e r h odd = latched_put s v' r (λ f. e ∙ f) (V.held r h odd)

  module _ (w' : Words) (heads : (r : ℕ) → r < record_count l → w'.heads r / 2 ≡ w.heads r / 2) (same : (t : ℕ) → 0 < w.cells t 0 → Same l w w' t) where
    pub lines_step : (r : ℕ) → r < record_count l → (line l w' r ≡ line l w r) × LineOf l w' r
    lines_step r low = line_step l w w' r (heads r low) (λ t i. same t ((V.lines r low).stored t i)) (V.lines r low)

    held_line : (j : ℕ) → j < l.sessions → 0 < (known j).hold.latch → (known j).hold.latch - 1 < record_count l
    held_line j low held = let h = (V.hands j low).low in omega arith

    -- another session's hand, or s's own where it knows the same of it
    pub kept_hand : (j : ℕ) (v' : Known) → j < l.sessions → ((r : ℕ) → is_placed l w.index r ≡ true → is_placed l w'.index r ≡ true) → ((q : ℕ) → w.counts q ≤ w'.counts q) → v'.hold ≡ (known j).hold → v'.number ≡ (known j).number → v'.is_open ≡ (known j).is_open → v'.read_only ≡ (known j).read_only → (rank (known j).turn ≡ 0 → rank v'.turn ≡ 0) → Held l w w' j (known j) → HandOf l w' j v'
    kept_hand j v' low placed more a number is_open ro stage held = hand_step l w w' j (known j) v' a number is_open ro stage placed more held.head
        (λ p. (lines_step ((known j).hold.latch - 1) (held_line j low p)).0) (λ t p i. same t ((V.lines ((known j).hold.latch - 1) (held_line j low p)).stored t i)) held.tail (V.hands j low)

    -- every kind but an install
    pub versions_step : (s : ℕ) (v' : Known) → s < l.sessions → ((r : ℕ) → is_placed l w.index r ≡ true → is_placed l w'.index r ≡ true) → ((r q : ℕ) → r < record_count l → q < record_count l → is_placed l w'.index r ≡ true → is_placed l w'.index q ≡ true → w'.keys r ≡ w'.keys q → r ≡ q)
        → ((r : ℕ) → r < record_count l → is_placed l w'.index r ≡ false → w'.heads r ≡ 0) → ((r : ℕ) → r < record_count l → w'.heads r % 2 ≡ 1 → Latched l (put known s v') r) → w'.cells 0 0 ≡ 0 → w.clock ≤ w'.clock → ((q : ℕ) → w.counts q ≤ w'.counts q) → (known s).number ≤ v'.number
        → ((t : ℕ) → 0 < w.cells t 0 → w'.cells t 0 % 2 ≡ 0 → (0 < w'.cells t 0 / 2) × (w'.cells t 0 / 2 ≤ w'.clock))
        → ((known s).hold.is_whole ≡ true → (v'.hold.tail ≡ (known s).hold.tail) × (v'.hold.is_whole ≡ true))
        → ((t : ℕ) → 0 < w'.cells t 0 → (0 < w.cells t 0) ⊎ StoredOf l w' (put known s v') t)
        → HandOf l w' s v' → ((j : ℕ) → j ≢ s → j < l.sessions → Held l w w' j (known j))
        → Distinct l.sessions (λ j. (put known s v' j).hold.tail) → Distinct l.sessions (λ j. (put known s v' j).hold.latch) → Versions l w' (put known s v')
    versions_step s v' low placed keys unplaced held blank later more number stamped hand fresh mine others tails latches = let known' : ℕ → Known = put known s v' in record {
      zero_blank = blank;
      lines = λ r h. (lines_step r h).1;
      stored = λ t some. ⊎_elim
          (λ (old : 0 < w.cells t 0). stored_step l w w' known known' t (same t old) later more (λ j h. each_put (λ (j : ℕ) (u : Known). (known j).number ≤ u.number) known s v' number (λ j other. omega arith) j) (stamped t old)
          (λ h place. ⊎_elim (λ (i : Has t (line l w (record_in l w.cells t))). inl (subst (λ (zs : List ℕ). Has t zs) (sym (lines_step (record_in l w.cells t) h).0) i)) (λ (i : InHand l known t). inr (still i)) place) (placed (record_in l w.cells t)) (V.stored t old))
          (λ (new : StoredOf l w' known' t). new) (fresh t some);
      hands = each_put (λ (j : ℕ) (u : Known). j < l.sessions → HandOf l w' j u) known s v' (λ _. mine) (λ j other h. kept_hand j (known j) h placed more refl refl refl refl (λ e. e) (others j other h));
      tails_apart = tails;
      latches_apart = latches;
      held = held;
      keys_apart = keys;
      unplaced = unplaced;
    }
      where
        both : (t : ℕ) (i : InHand l known t) → ((put known s v' i.0).hold.tail ≡ t) × ((put known s v' i.0).hold.is_whole ≡ true)
        both t i = dite (ℕ_discrete i.0 s)
            (λ e. let whole : (known s).hold.is_whole ≡ true = ap (λ (x : ℕ). (known x).hold.is_whole) (sym e) ∙ i.3 in let g : put known s v' i.0 ≡ v' = ap (put known s v') e ∙ put_here known s v' in
            (ap (λ (u : Known). u.hold.tail) g ∙ (hand whole).0 ∙ ap (λ (x : ℕ). (known x).hold.tail) (sym e) ∙ i.2, ap (λ (u : Known). u.hold.is_whole) g ∙ (hand whole).1))
            (λ ne. let g : put known s v' i.0 ≡ known i.0 = put_else known s v' i.0 ne in (ap (λ (u : Known). u.hold.tail) g ∙ i.2, ap (λ (u : Known). u.hold.is_whole) g ∙ i.3))

        still : {t : ℕ} → InHand l known t → InHand l (put known s v') t
        still {t} i = (i.0, i.1, (both t i).0, (both t i).1)

  -- kinds that change nothing of cells, heads and hands
  module _ (s : ℕ) (v' : Known) (clock' turn' : ℕ) (log' : ℕ → ℕ) (begins' states' : ℕ → ℕ → ℕ) where
    abbrev pub timed : Words
    timed = record w { clock = clock'; turn = turn'; log = log'; begins = begins'; states = states' }

    pub time_same : ((t : ℕ) → 0 < t → t ≤ w.clock → log' t ≡ w.log t) → ((x : ℕ) → Begun l known x → entry begins' x ≡ entry w.begins x) → ((x : ℕ) → Begun l known x → (entry states' x ≡ entry w.states x) ⊎ (entry w.states x ≡ 0))
        → (t : ℕ) → 0 < w.cells t 0 → Same l w timed t
    time_same logs begs sts t some = let k = V.stored t some in record {
      stays = some;
      words = λ _ _. refl;
      key = refl;
      by = writer_log w.log log' (w.cells t 0) (λ even. let q = k.stamped even in logs (w.cells t 0 / 2) q.0 q.1);
      begin = begs (writer_at w t) k.begun;
      state = sts (writer_at w t) k.begun;
    }

    pub time_versions : s < l.sessions → w.clock ≤ clock' → ((t : ℕ) → 0 < t → t ≤ w.clock → log' t ≡ w.log t) → ((x : ℕ) → Begun l known x → entry begins' x ≡ entry w.begins x) → ((x : ℕ) → Begun l known x → (entry states' x ≡ entry w.states x) ⊎ (entry w.states x ≡ 0))
        → ((j : ℕ) → j ≢ s → j < l.sessions → entry begins' (name_of j (known j).number) ≡ entry w.begins (name_of j (known j).number))
        → (known s).number ≤ v'.number → v'.hold ≡ (known s).hold → HandOf l timed s v' → Versions l timed (put known s v')
    time_versions low later logs begs sts begs_own number a mine = versions_step timed (λ r h. refl) (time_same logs begs sts) s v' low (λ _ e. e) V.keys_apart V.unplaced (held_same s v' (ap latch_of a)) V.zero_blank later (λ _. omega arith) number
        (λ t some even. let q = (V.stored t some).stamped even in (q.0, let h = q.1 in omega arith)) (λ e. ((ap tail_of a), (ap whole_of a) ∙ e)) (λ t some. inl some) mine
        (λ j other h. record { head = λ _. refl; tail = λ _. (refl, refl, begs_own j other h) })
        (distinct_same l.sessions known s v' (λ u. u.hold.tail) low (ap tail_of a) V.tails_apart) (distinct_same l.sessions known s v' (λ u. u.hold.latch) low (ap latch_of a) V.latches_apart)

    -- a session without a latch has none after
    pub no_hand : s < l.sessions → (known s).hold.latch ≡ 0 → v'.hold ≡ (known s).hold → HandOf l timed s v'
    no_hand low e a = let q = hand_idle l w timed s (known s) (V.hands s low) e in hand_none l w timed s v' ((ap latch_of a) ∙ e) ((ap tail_of a) ∙ q.0) ((ap whole_of a) ∙ q.1)

  -- a session in its turn, or without a transaction, has no latch
  pub no_latch : (s : ℕ) → s < l.sessions → (rank (known s).turn ≢ 0) ⊎ ((known s).is_open ≡ false) → (known s).hold.latch ≡ 0
  no_latch s low why = dite (ℕ_discrete (known s).hold.latch 0) (λ e. e) (λ ne. let k = V.hands s low in absurd (⊎_elim (λ (q : rank (known s).turn ≢ 0). q (k.away (omega arith))) (λ (q : (known s).is_open ≡ false). true≢false (sym (k.opened (omega arith)) ∙ q)) why))

  -- kinds 1, 3 and 7, and those that only count
  pub look_versions : (s : ℕ) (v' : Known) (turn' : ℕ) → s < l.sessions → v'.hold ≡ (known s).hold → v'.number ≡ (known s).number → v'.is_open ≡ (known s).is_open → v'.read_only ≡ (known s).read_only → (0 < (known s).hold.latch → rank (known s).turn ≡ 0 → rank v'.turn ≡ 0) → Versions l (record w { turn = turn' }) (put known s v')
  look_versions s v' turn' low a e f ro stage = time_versions s v' w.clock turn' w.log w.begins w.states low (omega arith) (λ _ _ _. refl) (λ _ _. refl) (λ _ _. inl refl) (λ _ _ _. refl) (omega arith) a
      (dite (ℕ_discrete (known s).hold.latch 0) (λ none. no_hand s v' w.clock turn' w.log w.begins w.states low none a)
      (λ some. kept_hand (record w { turn = turn' }) (λ r h. refl) (time_same s v' w.clock turn' w.log w.begins w.states (λ _ _ _. refl) (λ _ _. refl) (λ _ _. inl refl)) s v' low (λ _ z. z) (λ _. omega arith) a e f ro (stage (omega arith)) record { head = λ _. refl; tail = λ _. (refl, refl, refl) }))

  -- a step that changes postings alone
  post_same : (postings' : ℕ → ℕ → ℕ) (t : ℕ) → 0 < w.cells t 0 → Same l w (record w { postings = postings' }) t
  post_same postings' t some = record { stays = some; words = λ _ _. refl; by = refl; key = refl; begin = refl; state = inl refl }

  pub post_versions : (s : ℕ) (postings' : ℕ → ℕ → ℕ) (v' : Known) → s < l.sessions → v'.hold ≡ (known s).hold → v'.number ≡ (known s).number → v'.is_open ≡ (known s).is_open → v'.read_only ≡ (known s).read_only → (rank (known s).turn ≡ 0 → rank v'.turn ≡ 0) → Versions l (record w { postings = postings' }) (put known s v')
  post_versions s postings' v' low a number is_open ro stage = let w' : Words = record w { postings = postings' } in let same = post_same postings' in
      versions_step w' (λ _ _. refl) same s v' low (λ _ e. e) V.keys_apart V.unplaced (held_same s v' (ap latch_of a)) V.zero_blank (omega arith) (λ _. omega arith) (omega arith)
      (λ t some even. (V.stored t some).stamped even) (λ e. (ap tail_of a, ap whole_of a ∙ e)) (λ t some. inl some)
      (kept_hand w' (λ _ _. refl) same s v' low (λ _ z. z) (λ _. omega arith) a number is_open ro stage record { head = λ _. refl; tail = λ _. (refl, refl, refl) })
      (λ j other h. record { head = λ _. refl; tail = λ _. (refl, refl, refl) })
      (distinct_same l.sessions known s v' (λ u. u.hold.tail) low (ap tail_of a) V.tails_apart) (distinct_same l.sessions known s v' (λ u. u.hold.latch) low (ap latch_of a) V.latches_apart)

  begins_new : (s b x : ℕ) → (x % 16 ≡ s → x / 16 ≢ (known s).number + 1) → entry (put_in w.begins s ((known s).number + 1) (b + 1)) x ≡ entry w.begins x
  begins_new s b x other = put_in_else w.begins s ((known s).number + 1) (b + 1) (x % 16) (x / 16) other

  begun_old : (s x : ℕ) → Begun l known x → x % 16 ≡ s → x / 16 ≢ (known s).number + 1
  begun_old s x begun e f = let h = begun.2 in let same : (known (x % 16)).number ≡ (known s).number = ap (λ (j : ℕ). (known j).number) e in omega arith

  pub begin_versions : (s b : ℕ) (v' : Known) → s < l.sessions → (known s).is_open ≡ false → v'.number ≡ (known s).number + 1 → v'.hold ≡ (known s).hold → Versions l (record w { begins = put_in w.begins s ((known s).number + 1) (b + 1) }) (put known s v')
  begin_versions s b v' low shut e a = let few = sized.sessions.1 in let begins' : ℕ → ℕ → ℕ = put_in w.begins s ((known s).number + 1) (b + 1) in
      time_versions s v' w.clock w.turn w.log begins' w.states low (omega arith) (λ _ _ _. refl) (λ x h. begins_new s b x (begun_old s x h)) (λ _ _. inl refl)
      (λ j other h. begins_new s b (name_of j (known j).number) (λ p. absurd (other (sym (name_session j (known j).number (omega arith)) ∙ p)))) (omega arith) a
      (no_hand s v' w.clock w.turn w.log begins' w.states low (no_latch s low (inr shut)) a)

  pub log_versions : (s x : ℕ) (v' : Known) → s < l.sessions → rank (known s).turn ≢ 0 → v'.number ≡ (known s).number → v'.hold ≡ (known s).hold → Versions l (record w { log = put w.log (w.clock + 1) x }) (put known s v')
  log_versions s x v' low turn e a = let log' : ℕ → ℕ = put w.log (w.clock + 1) x in time_versions s v' w.clock w.turn log' w.begins w.states low (omega arith) (λ t p q. put_else w.log (w.clock + 1) x t (λ f. omega arith)) (λ _ _. refl) (λ _ _. inl refl) (λ _ _ _. refl) (omega arith) a
      (no_hand s v' w.clock w.turn log' w.begins w.states low (no_latch s low (inl turn)) a)

  pub clock_versions : (s : ℕ) (v' : Known) → s < l.sessions → rank (known s).turn ≢ 0 → v'.number ≡ (known s).number → v'.hold ≡ (known s).hold → Versions l (record w { clock = w.clock + 1 }) (put known s v')
  clock_versions s v' low turn e a = time_versions s v' (w.clock + 1) w.turn w.log w.begins w.states low (omega arith) (λ _ _ _. refl) (λ _ _. refl) (λ _ _. inl refl) (λ _ _ _. refl) (omega arith) a
      (no_hand s v' (w.clock + 1) w.turn w.log w.begins w.states low (no_latch s low (inl turn)) a)

  -- an open transaction's state word was 0
  pub states_end : (s x y : ℕ) → w.states s (known s).number ≡ 0 → (entry (put_in w.states s (known s).number x) y ≡ entry w.states y) ⊎ (entry w.states y ≡ 0)
  states_end s x y zero = dite (ℕ_discrete (y % 16) s)
      (λ e. dite (ℕ_discrete (y / 16) (known s).number) (λ f. inr ((λ i. w.states (e i) (f i)) ∙ zero)) (λ f. inl (put_in_else w.states s (known s).number x (y % 16) (y / 16) (λ _. f))))
      (λ e. inl (put_in_else w.states s (known s).number x (y % 16) (y / 16) (λ q. absurd (e q))))

  -- kinds 5 and 8
  pub end_versions : (s x : ℕ) (v' : Known) → s < l.sessions → (known s).is_open ≡ true → rank (known s).turn ≢ 4 → (known s).hold.latch ≡ 0 → v'.number ≡ (known s).number → v'.hold ≡ (known s).hold → Versions l (record w { states = put_in w.states s (known s).number x }) (put known s v')
  end_versions s x v' low is_on not_stated none e a = let states' : ℕ → ℕ → ℕ = put_in w.states s (known s).number x in
      time_versions s v' w.clock w.turn w.log w.begins states' low (omega arith) (λ _ _ _. refl) (λ _ _. refl) (λ y _. states_end s x y ((each s low).open_state is_on not_stated)) (λ _ _ _. refl) (omega arith) a
      (no_hand s v' w.clock w.turn w.log w.begins states' low none a)

  -- a committed transaction began before its time
  pub early_of : (x : ℕ) → Begun l known x → 1 < entry w.states x → entry w.begins x < entry w.states x
  early_of x begun some = let few = sized.sessions.1 in let r = each (x % 16) begun.0 in let now = r.by_now (x / 16) in dite (dec_le (entry w.states x) (w.clock + 1))
      (λ low. let t : ℕ = entry w.states x - 1 in let e : w.log t ≡ 16 * (x / 16) + x % 16 = times.found (x % 16) (x / 16) t begun.0 (omega arith) (omega arith) (omega arith) in
      let k = (times.named t (omega arith) (omega arith)).early in let a : w.log t % 16 ≡ x % 16 = omega arith in let b : w.log t / 16 ≡ x / 16 = omega arith in
      let same : entry w.begins (w.log t) ≡ entry w.begins x = (λ i. w.begins (a i) (b i)) in omega arith)
      (λ high. let h : w.clock + 1 < entry w.states x = lt_of_not-le high in omega arith)

  head_counted : (r : ℕ) → r < record_count l → head_of l r (w.heads r) ≤ range_of r * l.tails + w.counts (range_of r)
  head_counted r low = first (line l w r) (V.lines r low).links (λ t i. let q = (V.stored t ((V.lines r low).stored t i)).drawn in subst (λ (x : ℕ). t ≤ range_of x * l.tails + w.counts (range_of x)) ((V.lines r low).here t i) q.2)
    where
      first : (ys : List ℕ) → Links (back_in l w.cells) (head_of l r (w.heads r)) ys → ((t : ℕ) → Has t ys → t ≤ range_of r * l.tails + w.counts (range_of r)) → head_of l r (w.heads r) ≤ range_of r * l.tails + w.counts (range_of r)
      first [] links drawn = let e : head_of l r (w.heads r) ≡ 0 = links in omega arith
      first (x ∷ xs) links drawn = let e : head_of l r (w.heads r) ≡ x = links.0 in let h = drawn x (inl refl) in omega arith

  -- a tail is in one range
  rows_le : (a b : ℕ) → a < b → a * l.tails + l.tails ≤ b * l.tails
  rows_le a b h = let q : (suc a) * l.tails ≤ b * l.tails = mul-le-mul_right l.tails (omega arith) in let e : (suc a) * l.tails ≡ a * l.tails + l.tails = suc-mul a l.tails in omega arith

  pub one_range : (a b g : ℕ) → a * l.tails < g → g ≤ a * l.tails + l.tails → b * l.tails < g → g ≤ b * l.tails + l.tails → a ≡ b
  one_range a b g p q r s = dite (ℕ_discrete a b) (λ e. e) (λ ne. absurd (dite (dec_lt a b) (λ h. let k = rows_le a b h in omega arith) (λ h. let less : b < a = grind (arith, h, ne) in let k = rows_le b a less in omega arith)))

  undrawn : (range g : ℕ) → w.counts range < l.tails → g ≡ range * l.tails + w.counts range + 1 → w.cells g 0 ≡ 0
  undrawn range g room is = none (w.cells g 0) (λ some. let d = (V.stored g some).drawn in let low = d.0 in let high = d.1 in let most = d.2 in let other : ℕ = range_of (record_in l w.cells g) in
      let same : other ≡ range = one_range other range g low high (omega arith) (omega arith) in let e : other * l.tails + w.counts other ≡ range * l.tails + w.counts range = ap (λ (x : ℕ). x * l.tails + w.counts x) same in omega arith)
    where
      none : (n : ℕ) → ¬ (0 < n) → n ≡ 0
      none n h = grind (arith, h)

  not_true : (b : Bool) → ¬ (b ≡ true) → b ≡ false
  not_true true h = absurd (h refl)
  not_true false h = refl

  -- only heads change
  pub heads_same : (heads' : ℕ → ℕ) (t : ℕ) → 0 < w.cells t 0 → Same l w (record w { heads = heads' }) t
  heads_same heads' t some = record { stays = some; words = λ _ _. refl; key = refl; by = refl; begin = refl; state = inl refl }

  heads_versions : (heads' : ℕ → ℕ) (s : ℕ) (v' : Known) → s < l.sessions → ((r : ℕ) → r < record_count l → heads' r / 2 ≡ w.heads r / 2) → ((r : ℕ) → r < record_count l → is_placed l w.index r ≡ false → heads' r ≡ 0) → ((r : ℕ) → r < record_count l → heads' r % 2 ≡ 1 → Latched l (put known s v') r) → v'.number ≡ (known s).number → ((known s).hold.is_whole ≡ true → (v'.hold.tail ≡ (known s).hold.tail) × (v'.hold.is_whole ≡ true))
      → HandOf l (record w { heads = heads' }) s v' → ((j : ℕ) → j ≢ s → j < l.sessions → 0 < (known j).hold.latch → heads' ((known j).hold.latch - 1) ≡ w.heads ((known j).hold.latch - 1))
      → Distinct l.sessions (λ j. (put known s v' j).hold.tail) → Distinct l.sessions (λ j. (put known s v' j).hold.latch) → Versions l (record w { heads = heads' }) (put known s v')
  heads_versions heads' s v' low halves unplaced held number hand mine others tails latches = versions_step (record w { heads = heads' }) halves (heads_same heads') s v' low (λ _ e. e) V.keys_apart unplaced held V.zero_blank (omega arith) (λ _. omega arith) (omega arith)
      (λ t some. (V.stored t some).stamped) hand (λ t some. inl some) mine (λ j other h. record { head = others j other h; tail = λ _. (refl, refl, refl) }) tails latches

  -- setting a latch bit
  module _ (r : ℕ) (indexed : is_placed l w.index r ≡ true) where
    abbrev pub bit_set : ℕ → ℕ
    bit_set = put w.heads r (2 * (w.heads r / 2) + 1)

    bit_here : bit_set r ≡ 2 * (w.heads r / 2) + 1
    bit_here = put_here w.heads r (2 * (w.heads r / 2) + 1)

    pub bit_halves : (q : ℕ) → bit_set q / 2 ≡ w.heads q / 2
    bit_halves q = dite (ℕ_discrete q r) (λ e. let h = bit_here in let same : bit_set q / 2 ≡ bit_set r / 2 = ap (λ (x : ℕ). bit_set x / 2) e in let other : w.heads q / 2 ≡ w.heads r / 2 = ap (λ (x : ℕ). w.heads x / 2) e in omega arith)
        (λ ne. ap (λ (x : ℕ). x / 2) (put_else w.heads r (2 * (w.heads r / 2) + 1) q ne))

    bit_odd : (q f : ℕ) → w.heads q ≡ 2 * f + 1 → bit_set q ≡ w.heads q
    bit_odd q f odd = dite (ℕ_discrete q r) (λ e. let h = bit_here in let same : bit_set q ≡ bit_set r = ap bit_set e in let other : w.heads q ≡ w.heads r = ap w.heads e in omega arith)
        (λ ne. put_else w.heads r (2 * (w.heads r / 2) + 1) q ne)

    bit_others : (j : ℕ) → j < l.sessions → 0 < (known j).hold.latch → bit_set ((known j).hold.latch - 1) ≡ w.heads ((known j).hold.latch - 1)
    bit_others j h held = bit_odd ((known j).hold.latch - 1) (known j).hold.head ((V.hands j h).latched held)

    bit_unplaced : (q : ℕ) → q < record_count l → is_placed l w.index q ≡ false → bit_set q ≡ 0
    bit_unplaced q h none = put_else w.heads r (2 * (w.heads r / 2) + 1) q (λ e. true≢false (sym indexed ∙ ap (is_placed l w.index) (sym e) ∙ none)) ∙ V.unplaced q h none

    pub latch_lost : (s : ℕ) (v' : Known) → w.heads r % 2 ≡ 1 → s < l.sessions → v'.hold ≡ (known s).hold → v'.number ≡ (known s).number → v'.is_open ≡ (known s).is_open → v'.read_only ≡ (known s).read_only → v'.turn ≡ (known s).turn → Versions l (record w { heads = bit_set }) (put known s v')
    latch_lost s v' odd low a e f ro g = heads_versions bit_set s v' low (λ q _. bit_halves q) bit_unplaced (λ q h is. held_same s v' (ap latch_of a) q h (dite (ℕ_discrete q r) (λ d. ap (λ (x : ℕ). w.heads x % 2) d ∙ odd) (λ ne. ap (λ (x : ℕ). x % 2) (sym (put_else w.heads r (2 * (w.heads r / 2) + 1) q ne)) ∙ is))) e (λ whole. ((ap tail_of a), (ap whole_of a) ∙ whole))
        (kept_hand (record w { heads = bit_set }) (λ q _. bit_halves q) (heads_same bit_set) s v' low (λ _ z. z) (λ _. omega arith) a e f ro (λ z. ap rank g ∙ z) record { head = bit_others s low; tail = λ _. (refl, refl, refl) })
        (λ j other h. bit_others j h) (distinct_same l.sessions known s v' (λ u. u.hold.tail) low (ap tail_of a) V.tails_apart) (distinct_same l.sessions known s v' (λ u. u.hold.latch) low (ap latch_of a) V.latches_apart)

    pub latch_won : (s : ℕ) (v' : Known) → s < l.sessions → v'.hold ≡ record no_hold { latch = r + 1; head = w.heads r / 2 } → v'.number ≡ (known s).number → v'.is_open ≡ true → v'.read_only ≡ false → rank v'.turn ≡ 0 → (known s).hold.latch ≡ 0 → r < record_count l → w.heads r % 2 ≡ 0 → Versions l (record w { heads = bit_set }) (put known s v')
    latch_won s v' low is number is_on writes none free in_records even = let v : Known = known s in let idle = hand_idle l w w s v (V.hands s low) free in let w' : Words = record w { heads = bit_set } in
        let no_whole : ¬ (v.hold.is_whole ≡ true) = λ p. true≢false (sym p ∙ idle.1) in
        heads_versions bit_set s v' low (λ q _. bit_halves q) bit_unplaced (λ q h is_odd. dite (ℕ_discrete q r)
        (λ d. (s, low, ap (λ (u : Known). u.hold.latch) (put_here known s v') ∙ (ap latch_of is ∙ ap (λ (x : ℕ). x + 1) (sym d))))
        (λ ne. latched_put s v' q (λ e. absurd (omega arith)) (V.held q h (ap (λ (x : ℕ). x % 2) (sym (put_else w.heads r (2 * (w.heads r / 2) + 1) q ne)) ∙ is_odd)))) number (λ whole. absurd (no_whole whole))
        (subst (λ (h : Hold). Hand l (is_placed l w'.index (h.latch - 1)) w'.counts (w'.heads (h.latch - 1)) w'.log w'.begins w'.states (starts w') (record_in l w'.cells) (line l w' (h.latch - 1)) (name_of s v'.number) h v'.is_open v'.read_only (rank v'.turn)) (sym is) record {
          opened = λ _. is_on;
          writes = λ _. writes;
          away = λ _. none;
          low = omega arith;
          index = λ _. ap (is_placed l w.index) (let e : r + 1 - 1 ≡ r = omega arith in e) ∙ indexed;
          latched = λ _. let e : r + 1 - 1 ≡ r = omega arith in ap bit_set e ∙ bit_here;
          holds = λ p. absurd (omega arith);
          above = λ p. absurd (omega arith);
          counted = λ p. absurd (omega arith);
          few = omega arith;
          blank = λ _ p. absurd (omega arith);
          some = λ p. absurd (true≢false (sym p));
          start = λ p. absurd (true≢false (sym p));
          here = λ p. absurd (true≢false (sym p));
          judged = λ p. absurd (omega arith);
        })
        (λ j other h. bit_others j h) (distinct_same l.sessions known s v' (λ u. u.hold.tail) low (ap tail_of is ∙ sym idle.0) V.tails_apart)
        (distinct_put l.sessions known s v' (λ u. u.hold.latch) V.latches_apart (λ j other h _ e. let q = (V.hands j h).latched (let z = ap latch_of is in omega arith) in let z = ap latch_of is in let d : (known j).hold.latch - 1 ≡ r = omega arith in let same : w.heads ((known j).hold.latch - 1) ≡ w.heads r = ap w.heads d in omega arith))

  pub release_versions : (s : ℕ) (v' : Known) → s < l.sessions → 0 < (known s).hold.latch → (known s).hold.tail ≡ 0 → v'.hold ≡ no_hold → v'.number ≡ (known s).number → Versions l (record w { heads = put w.heads ((known s).hold.latch - 1) (2 * (known s).hold.head) }) (put known s v')
  release_versions s v' low held none is number = let v : Known = known s in let k = V.hands s low in let r : ℕ = v.hold.latch - 1 in let x : ℕ = 2 * v.hold.head in let heads' : ℕ → ℕ = put w.heads r x in
      let no_whole : ¬ (v.hold.is_whole ≡ true) = λ p. let q = k.some p in omega arith in
      heads_versions heads' s v' low (λ q _. dite (ℕ_discrete q r) (λ e. let a : heads' r ≡ x = put_here w.heads r x in let b : heads' q ≡ heads' r = ap heads' e in let d : w.heads q ≡ w.heads r = ap w.heads e in let h = k.latched held in omega arith) (λ ne. ap (λ (y : ℕ). y / 2) (put_else w.heads r x q ne)))
      (λ q h none. put_else w.heads r x q (λ e. true≢false (sym (k.index held) ∙ ap (is_placed l w.index) (sym e) ∙ none)) ∙ V.unplaced q h none)
      (λ q h is_odd. dite (ℕ_discrete q r) (λ e. let a : heads' q ≡ x = ap heads' e ∙ put_here w.heads r x in absurd (omega arith))
      (λ ne. latched_put s v' q (λ e. absurd (ne (omega arith))) (V.held q h (ap (λ (y : ℕ). y % 2) (sym (put_else w.heads r x q ne)) ∙ is_odd)))) number
      (λ whole. absurd (no_whole whole)) (hand_none l w (record w { heads = heads' }) s v' (ap latch_of is) (ap tail_of is) (ap whole_of is))
      (λ j other h some. put_else w.heads r x ((known j).hold.latch - 1) (λ e. other (sym (V.latches_apart s j low h held (omega arith)))))
      (distinct_same l.sessions known s v' (λ u. u.hold.tail) low (ap tail_of is ∙ sym none) V.tails_apart) (distinct_put l.sessions known s v' (λ u. u.hold.latch) V.latches_apart (λ j other h p. absurd (let z = ap latch_of is in omega arith)))

  -- drawing a tail
  module _ (range : ℕ) where
    abbrev pub more_counts : ℕ → ℕ
    more_counts = put w.counts range (w.counts range + 1)

    pub counts_rise : (q : ℕ) → w.counts q ≤ more_counts q
    counts_rise q = each_put (λ (j x : ℕ). w.counts j ≤ x) w.counts range (w.counts range + 1) (omega arith) (λ j other. omega arith) q

    pub count_same : (t : ℕ) → 0 < w.cells t 0 → Same l w (record w { counts = more_counts }) t
    count_same t some = record { stays = some; words = λ _ _. refl; key = refl; by = refl; begin = refl; state = inl refl }

    draw_versions : (s : ℕ) (v' : Known) → s < l.sessions → v'.number ≡ (known s).number → v'.hold.latch ≡ (known s).hold.latch → ((known s).hold.is_whole ≡ true → (v'.hold.tail ≡ (known s).hold.tail) × (v'.hold.is_whole ≡ true)) → HandOf l (record w { counts = more_counts }) s v'
        → Distinct l.sessions (λ j. (put known s v' j).hold.tail) → Versions l (record w { counts = more_counts }) (put known s v')
    draw_versions s v' low number latch hand mine tails = versions_step (record w { counts = more_counts }) (λ _ _. refl) count_same s v' low (λ _ e. e) V.keys_apart V.unplaced (held_same s v' latch) V.zero_blank (omega arith) counts_rise (omega arith) (λ t some. (V.stored t some).stamped) hand (λ t some. inl some) mine
        (λ j other h. record { head = λ _. refl; tail = λ _. (refl, refl, refl) }) tails (distinct_same l.sessions known s v' (λ u. u.hold.latch) low latch V.latches_apart)

    pub draw_lost : (s : ℕ) (v' : Known) → s < l.sessions → v'.hold ≡ (known s).hold → v'.number ≡ (known s).number → v'.is_open ≡ (known s).is_open → v'.read_only ≡ (known s).read_only → v'.turn ≡ (known s).turn → Versions l (record w { counts = more_counts }) (put known s v')
    draw_lost s v' low a e f ro g = draw_versions s v' low e (ap latch_of a) (λ whole. ((ap tail_of a), (ap whole_of a) ∙ whole)) (kept_hand (record w { counts = more_counts }) (λ _ _. refl) count_same s v' low (λ _ z. z) counts_rise a e f ro (λ z. ap rank g ∙ z) record { head = λ _. refl; tail = λ _. (refl, refl, refl) })
        (distinct_same l.sessions known s v' (λ u. u.hold.tail) low (ap tail_of a) V.tails_apart)

  pub draw_won : (s range : ℕ) (v' : Known) → s < l.sessions → 0 < (known s).hold.latch → (known s).hold.tail ≡ 0 → range_of ((known s).hold.latch - 1) ≡ range → w.counts range < l.tails → Judged (entry w.states) (entry w.begins) (writer_at w) (name_of s (known s).number) (line l w ((known s).hold.latch - 1))
      → v'.hold ≡ record (known s).hold { tail = range * l.tails + w.counts range + 1 } → v'.number ≡ (known s).number → v'.is_open ≡ (known s).is_open → v'.read_only ≡ (known s).read_only → v'.turn ≡ (known s).turn
      → Versions l (record w { counts = put w.counts range (w.counts range + 1) }) (put known s v')
  draw_won s range v' low held none in_range room judged is number is_open ro turn = let v : Known = known s in let k = V.hands s low in let r : ℕ = v.hold.latch - 1 in let in_records : r < record_count l = let h = k.low in omega arith in
      let g : ℕ = range * l.tails + w.counts range + 1 in let top = rows_le range l.ranges (omega arith) in let w' : Words = record w { counts = more_counts range } in
      let no_whole : ¬ (v.hold.is_whole ≡ true) = λ p. let q = k.some p in omega arith in
      let found : tail_at l.tails (range_of r) v.hold.head ≤ range * l.tails + w.counts range = let q = k.latched held in let half : w.heads r / 2 ≡ v.hold.head = omega arith in let h = head_counted r in_records in
      subst (λ (x : ℕ). tail_at l.tails (range_of r) x ≤ range * l.tails + w.counts range) half (subst (λ (x : ℕ). head_of l r (w.heads r) ≤ x * l.tails + w.counts x) in_range h) in let L = V.lines r in_records in
      draw_versions range s v' low number (ap latch_of is) (λ whole. absurd (no_whole whole))
      (subst (λ (h : Hold). Hand l (is_placed l w'.index (h.latch - 1)) w'.counts (w'.heads (h.latch - 1)) w'.log w'.begins w'.states (starts w') (record_in l w'.cells) (line l w' (h.latch - 1)) (name_of s v'.number) h v'.is_open v'.read_only (rank v'.turn)) (sym is)
      (subst (λ (n : ℕ). Hand l (is_placed l w'.index r) w'.counts (w'.heads r) w'.log w'.begins w'.states (starts w') (record_in l w'.cells) (line l w' r) (name_of s n) (record v.hold { tail = g }) v'.is_open v'.read_only (rank v'.turn)) (sym number) record {
        opened = λ p. is_open ∙ k.opened p;
        writes = λ p. ro ∙ k.writes p;
        away = λ p. ap rank turn ∙ k.away p;
        low = k.low;
        index = k.index;
        latched = k.latched;
        holds = λ _. held;
        above = λ _. omega arith;
        counted = λ _. subst (λ (x : ℕ). Drawn l (more_counts range) x g) (sym in_range) (omega arith, omega arith, let h : more_counts range range ≡ w.counts range + 1 = put_here w.counts range (w.counts range + 1) in omega arith);
        few = omega arith;
        blank = λ _ _. undrawn range g room refl;
        some = λ p. absurd (no_whole p);
        start = λ p. absurd (no_whole p);
        here = λ p. absurd (no_whole p);
        judged = λ _. judged_below (entry w.states) (entry w.begins) (writer_at w) (name_of s v.number) (line l w r) (λ y i. early_of (writer_at w y) (V.stored y (L.stored y i)).begun) L.ordered judged;
      }))
      (distinct_put l.sessions known s v' (λ u. u.hold.tail) V.tails_apart (λ j other h _ e. let u : Known = known j in let here : v'.hold.tail ≡ g = ap tail_of is in let d = (V.hands j h).counted (omega arith) in let a = d.0 in let b = d.1 in let most = d.2 in let other_range : ℕ = range_of (u.hold.latch - 1) in
      let same : other_range ≡ range = one_range other_range range u.hold.tail a b (omega arith) (omega arith) in let f : other_range * l.tails + w.counts other_range ≡ range * l.tails + w.counts range = ap (λ (x : ℕ). x * l.tails + w.counts x) same in omega arith))

  -- a tail in hand has no settled version
  pub hand_open : (j : ℕ) → j < l.sessions → 0 < (known j).hold.tail → 0 < w.cells (known j).hold.tail 0 → entry w.states (writer_at w (known j).hold.tail) ≡ 0
  hand_open j h held some = let u : Known = known j in let k = V.hands j h in let few = sized.sessions.1 in whole u.hold.is_whole refl
    where
      whole : (b : Bool) → (known j).hold.is_whole ≡ b → entry w.states (writer_at w (known j).hold.tail) ≡ 0
      whole false e = let z = (V.hands j h).blank e held in absurd (omega arith)
      whole true e = let u : Known = known j in let k = V.hands j h in let few = sized.sessions.1 in let start = k.start e in let latched = k.holds held in
          let by : writer_at w u.hold.tail ≡ name_of j u.number = writer_odd w.log (w.cells u.hold.tail 0) (omega arith) ∙ (omega arith) in let none = k.away latched in
          ap (entry w.states) by ∙ name_entry w.states j u.number (omega arith) ∙ (each j h).open_state (k.opened latched) (λ q. omega arith)

  -- kinds that change the index, keys of records outside it, the record counter, or nothing
  module _ (counter' : ℕ) (keys' index' : ℕ → ℕ) (more : (r : ℕ) → is_placed l w.index r ≡ true → is_placed l index' r ≡ true) (kept : (r : ℕ) → is_placed l w.index r ≡ true → keys' r ≡ w.keys r) where
    abbrev pub index_words : Words
    index_words = record w { counter = counter'; keys = keys'; index = index' }

    pub index_same : (t : ℕ) → 0 < w.cells t 0 → Same l w index_words t
    index_same t some = record { stays = some; words = λ _ _. refl; key = kept (record_in l w.cells t) (V.stored t some).index; by = refl; begin = refl; state = inl refl }

    pub index_versions : (s : ℕ) (v' : Known) → s < l.sessions → v'.hold ≡ (known s).hold → v'.number ≡ (known s).number → v'.is_open ≡ (known s).is_open → v'.read_only ≡ (known s).read_only → v'.turn ≡ (known s).turn
        → ((r q : ℕ) → r < record_count l → q < record_count l → is_placed l index' r ≡ true → is_placed l index' q ≡ true → keys' r ≡ keys' q → r ≡ q) → ((r : ℕ) → r < record_count l → is_placed l index' r ≡ false → w.heads r ≡ 0) → Versions l index_words (put known s v')
    index_versions s v' low a e f ro g apart unplaced = versions_step index_words (λ _ _. refl) index_same s v' low more apart unplaced (held_same s v' ((ap latch_of a))) V.zero_blank (omega arith) (λ _. omega arith) (omega arith)
        (λ t some. (V.stored t some).stamped) (λ whole. ((ap tail_of a), (ap whole_of a) ∙ whole)) (λ t some. inl some)
        (kept_hand index_words (λ _ _. refl) index_same s v' low more (λ _. omega arith) a e f ro (λ z. ap rank g ∙ z) record { head = λ _. refl; tail = λ _. (refl, refl, refl) })
        (λ j other h. record { head = λ _. refl; tail = λ _. (refl, refl, refl) })
        (distinct_same l.sessions known s v' (λ u. u.hold.tail) low ((ap tail_of a)) V.tails_apart) (distinct_same l.sessions known s v' (λ u. u.hold.latch) low ((ap latch_of a)) V.latches_apart)

  -- a record outside the index takes another key
  pub key_versions : (s r k : ℕ) (v' : Known) → s < l.sessions → is_placed l w.index r ≡ false → v'.hold ≡ (known s).hold → v'.number ≡ (known s).number → v'.is_open ≡ (known s).is_open → v'.read_only ≡ (known s).read_only → v'.turn ≡ (known s).turn → Versions l (record w { keys = put w.keys r k }) (put known s v')
  key_versions s r k v' low none a e f ro g = let keys' : ℕ → ℕ = put w.keys r k in
      let kept : (q : ℕ) → is_placed l w.index q ≡ true → keys' q ≡ w.keys q = λ q is. put_else w.keys r k q (λ e. true≢false (sym is ∙ ap (is_placed l w.index) e ∙ none)) in
      index_versions w.counter keys' w.index (λ _ is. is) kept s v' low a e f ro g (λ p q a b is_p is_q e. V.keys_apart p q a b is_p is_q (sym (kept p is_p) ∙ e ∙ kept q is_q)) V.unplaced

  -- a record of a new key enters the index
  pub claim_versions : (s r : ℕ) (index' : ℕ → ℕ) (v' : Known) → s < l.sessions → ((q : ℕ) → is_placed l w.index q ≡ true → is_placed l index' q ≡ true) → ((q : ℕ) → is_placed l index' q ≡ true → (q ≡ r) ⊎ (is_placed l w.index q ≡ true)) → is_placed l index' r ≡ true
      → ((q : ℕ) → q < record_count l → is_placed l w.index q ≡ true → w.keys q ≢ w.keys r)
      → v'.hold ≡ (known s).hold → v'.number ≡ (known s).number → v'.is_open ≡ (known s).is_open → v'.read_only ≡ (known s).read_only → v'.turn ≡ (known s).turn → Versions l (record w { index = index' }) (put known s v')
  claim_versions s r index' v' low more new here apart a e f ro g = index_versions w.counter w.keys index' more (λ _ _. refl) s v' low a e f ro g
      (λ p q lp lq is_p is_q same. ⊎_elim
      (λ (x : p ≡ r). ⊎_elim (λ (y : q ≡ r). x ∙ sym y) (λ (old : is_placed l w.index q ≡ true). absurd (apart q lq old (sym same ∙ ap w.keys x))) (new q is_q))
      (λ (old : is_placed l w.index p ≡ true). ⊎_elim (λ (y : q ≡ r). absurd (apart p lp old (same ∙ ap w.keys y))) (λ (old' : is_placed l w.index q ≡ true). V.keys_apart p q lp lq old old' same) (new q is_q))
      (new p is_p))
      (λ q h none. V.unplaced q h (not_true (is_placed l w.index q) (λ is. true≢false (sym (more q is) ∙ none))))
