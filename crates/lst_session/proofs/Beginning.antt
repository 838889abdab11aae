-- A transaction begins, now or as of a time.
use Rattle.std.proofs.Common.{◌≡◌, ◌≢◌, ◌⊎◌, ℕ, ◌+◌, ◌<◌, ◌≤◌, [], ◌∷◌, Bool, true, false, nat_le, nat_lt, is_some, length, refl, sym, subst, ap, ◌∙◌, arith, inl, inr, leb-true, le-leb, ltb-true, lt-ltb}
use Rattle.std.specs.Prelude.{Some, None, Result, Ok, Err, IfOk, OnErr, ◌↔◌}
use Rattle.lst_layout.specs.declared.limits.Limits.{Limits}
use Rattle.lst_layout.specs.declared.place.Place.TheVariants.{BeginWord}
use Rattle.lst_layout.specs.Words.{shown}
use Rattle.lst_model.specs.declared.replies.Reply.TheVariants.{Begun, Refused}
use Rattle.lst_model.specs.declared.replies.Cause.{Cause}
use Rattle.lst_model.specs.declared.replies.Cause.TheVariants as cause
use Rattle.lst_model.specs.declared.lines.Call.TheVariants.{Begin, AsOf}
use Rattle.lst_machine.specs.State.{Opened, Store}
use Rattle.lst_machine.specs.Calls.{first_of, where_true, refused_or, begin_refusal, as_of_refusal, with_opened, opened_unless}
use Rattle.lst_core_state.specs.declared.known.Known.{Known}
use Rattle.lst_core_state.specs.State.{history_of}
use Rattle.lst_rule.specs.declared.view.View.{View}
use Rattle.lst_rule.specs.Rule.{knows}
use Rattle.lst_rule.specs.Learned.{Possible}
use Rattle.lst_rule.specs.Seats.{Sitting}
use Rattle.lst_rule.specs.Stores.{clocked, Clocked}
use Rattle.lst_txn.specs.declared.begins.BeginFault.{BeginFault}
use Rattle.lst_txn.specs.declared.begins.BeginFault.TheVariants as begins
use Rattle.lst_txn.specs.Transactions.{Sees, Opens}
use Rattle.lst_refinement.specs.Crews.{IsIdle}
use Rattle.lst_refinement.specs.Effects.{HasBegun, begun_words}
use Rattle.lst_refinement.proofs.Began.{begins_are_told}
use Rattle.lst_session.specs.Crews.{words_of, store_told}
use Rattle.lst_session.specs.Replies.{begin_reply}
use Rattle.lst_session.proofs.Crewed.{IsCrewView, StoreAnswers, allowed_whole, core_of, known_is, is_crew, told_is, others_on, begins_is, opened_by, opened_some, opened_none, kept_words, set_words, stamped_is, same_draws, crew_after, told_on, told_stays, away_still}
use Rattle.lst_session.specs.Traces as traces
use Rattle.lst_session.proofs.Ending.{not_true}
use Rattle.lst_session.proofs.Pinning.{learnt_low, learnt_closed, learnt_more, pinned_crew, pinned_told, pinned_possible, answers_from}

-- ---- the clock

-- a clock that was loaded is the number of commits
pub clock_is : (v u : View) (s x : ℕ) → v.whole ≡ true → Clocked v u s x → x ≡ length (store_told v).history
clock_is v u s x whole c = sym c.clock ∙ ap length (c.history ∙ λ i. history_of v.limits (shown v.limits (sym (c.looked.met.made.told.allowed.whole whole) i)))

clocked_idle : (u : Known) (v w : View) (s x : ℕ) (c : Clocked v w s x) → u ≡ knows v s → IsIdle u → IsIdle (clocked u c.all c.index)
clocked_idle u v w s x c e idle = record { rec = idle.rec; hold = idle.hold; turn = away_still u.turn idle.turn }

-- ---- the refusals

le_false : (a b : ℕ) → b < a → nat_le a b ≡ false
le_false a b low = not_true (nat_le a b) (λ e. let h = leb-true a b e in absurd (omega arith))

lt_false : (a b : ℕ) → b ≤ a → nat_lt a b ≡ false
lt_false a b low = not_true (nat_lt a b) (λ e. let h = ltb-true a b e in absurd (omega arith))

module _ (l : Limits) (store : Store) (s : ℕ) where
  refused_active : (o : Opened) → store.opened s ≡ Some o → begin_refusal l store s ≡ Some cause.Active
  refused_active o is = λ i. first_of (where_true (is_some (is i)) cause.Active ∷ where_true (nat_le l.txns (store.begins s)) cause.Spent ∷ [])

  refused_spent : store.opened s ≡ None → l.txns ≤ store.begins s → begin_refusal l store s ≡ Some cause.Spent
  refused_spent is many = λ i. first_of (where_true (is_some (is i)) cause.Active ∷ where_true (le-leb l.txns (store.begins s) many i) cause.Spent ∷ [])

  refused_not : store.opened s ≡ None → store.begins s < l.txns → begin_refusal l store s ≡ None
  refused_not is few = λ i. first_of (where_true (is_some (is i)) cause.Active ∷ where_true (le_false l.txns (store.begins s) few i) cause.Spent ∷ [])

  as_of_refused : (time : ℕ) (c : Cause) → begin_refusal l store s ≡ Some c → as_of_refusal l store s time ≡ Some c
  as_of_refused time c is = λ i. first_of (is i ∷ where_true (nat_lt (length store.history) time) (cause.Future (length store.history)) ∷ [])

  as_of_future : (time : ℕ) → begin_refusal l store s ≡ None → length store.history < time → as_of_refusal l store s time ≡ Some (cause.Future (length store.history))
  as_of_future time is early = λ i. first_of (is i ∷ where_true (lt-ltb (length store.history) time early i) (cause.Future (length store.history)) ∷ [])

  as_of_not : (time : ℕ) → begin_refusal l store s ≡ None → time ≤ length store.history → as_of_refusal l store s time ≡ None
  as_of_not time is late = λ i. first_of (is i ∷ where_true (lt_false (length store.history) time late i) (cause.Future (length store.history)) ∷ [])

-- ---- a transaction that opens

module _ (v w : View) (s : ℕ) (crew : IsCrewView v) (p : Possible v) (low : s < v.limits.sessions) (closed : (knows v s).is_open ≡ false) (more : (knows v s).number ≢ v.limits.txns) where
  known : knows v s ≡ p.known s
  known = known_is v crew p s low

  few : (knows v s).number < v.limits.txns
  few = let h = ((allowed_whole v crew p).sound.each s low).few in let number : (knows v s).number ≡ (p.known s).number = ap (λ (k : Known). k.number) known in omega (arith, more)

  pub none_refused : begin_refusal v.limits (store_told v) s ≡ None
  none_refused = let e = begins_is v s low in let h = few in refused_not v.limits (store_told v) s (opened_none v s low closed) (omega arith)

  module _ (x b : ℕ) (r : Bool) (opens : Opens v w s x b r) where
    words : words_of w ≡ begun_words (words_of v) s ((knows v s).number + 1) b
    words = set_words v w (BeginWord s ((knows v s).number + 1)) (b + 1) (allowed_whole v crew p).wide (let h = few in (low, omega arith, omega arith)) opens.view.limits (opens.words crew.whole)

    pub opens_crew : IsCrewView w
    opens_crew = let i = clocked_idle (knows v s) v opens.between s x opens.load refl (crew.idle s low) in crew_after v w s _ opens.view crew (record { rec = i.rec; hold = i.hold; turn = i.turn })
        (let e = same_draws (begun_words (words_of v) s ((knows v s).number + 1) b) (words_of w) words in record { counter = e.counter; index = e.index; counts = e.counts })

    begun : HasBegun (p.known s) (knows w s) b r
    begun = record {
      number = ap (λ (k : Known). k.number) opens.view.now ∙ ap (λ (k : Known). k.number + 1) known;
      begin_is = ap (λ (k : Known). k.begin) opens.view.now;
      kind = ap (λ (k : Known). k.read_only) opens.view.now;
      is_open = ap (λ (k : Known). k.is_open) opens.view.now;
    }

    pub opens_told : store_told w ≡ with_opened (store_told v) s b r
    opens_told = told_on v w s _ opens.view (begun_words (words_of v) s ((p.known s).number + 1) b) (words ∙ ap (λ (k : Known). begun_words (words_of v) s (k.number + 1) b) known)
        ∙ (begins_are_told (core_of v crew p) (is_crew v crew p) s b r (knows w) low (ap (λ (k : Known). k.is_open) (sym known) ∙ closed) (others_on v crew p w s _ opens.view) begun
        ∙ ap (λ (store : Store). with_opened store s b r) (sym (told_is v crew p)))

    pub begins_at : b ≡ x → r ≡ false → StoreAnswers v w s Begin (Begun b)
    begins_at e f = let clock = e ∙ clock_is v opens.between s x crew.whole opens.load in record {
      reply = λ i. refused_or (sym none_refused i) (Begun (clock i));
      next = opens_told ∙ (λ i. opened_unless (sym none_refused i) (store_told v) s (clock i) (f i));
      limits = opens.view.limits;
    }

    pub opens_as_of : r ≡ true → StoreAnswers v w s (AsOf b) (Begun b)
    opens_as_of f = let clock = clock_is v opens.between s x crew.whole opens.load in let none = as_of_not v.limits (store_told v) s b none_refused (let h = opens.early in omega arith) in record {
      reply = λ i. refused_or (sym none i) (Begun b);
      next = opens_told ∙ (λ i. opened_unless (sym none i) (store_told v) s b (f i));
      limits = opens.view.limits;
    }

  -- the clock was loaded, and found below the time
  module _ (x : ℕ) (sees : Sees v w s x) where
    sees_words : words_of w ≡ words_of v
    sees_words = kept_words v w sees.load.view.limits sees.load.looked.kept crew.whole

    pub sees_crew : IsCrewView w
    sees_crew = crew_after v w s _ sees.load.view crew (clocked_idle (knows v s) v w s x sees.load refl (crew.idle s low)) (same_draws (words_of v) (words_of w) sees_words)

    pub sees_told : store_told w ≡ store_told v
    sees_told = told_stays v w s _ sees.load.view (record { number = refl; begin = refl; read_only = refl; is_open = refl }) (stamped_is (words_of v) (words_of w) sees_words)

    pub to_come : (time : ℕ) → x < time → StoreAnswers v w s (AsOf time) (Refused (cause.Future x))
    to_come time early = let clock = clock_is v w s x crew.whole sees.load in let future = as_of_future v.limits (store_told v) s time none_refused (omega arith) in record {
      reply = (λ i. Refused (cause.Future (clock i))) ∙ (λ i. refused_or (sym future i) (Begun time));
      next = sees_told ∙ (λ i. opened_unless (sym future i) (store_told v) s time true);
      limits = sees.load.view.limits;
    }

-- ---- with the session pinned

module _ (v w : View) (s : ℕ) (crew : IsCrewView v) (low : s < v.limits.sessions) (closed : (knows v s).is_open ≡ false) (more : (knows v s).number ≢ v.limits.txns) (x b : ℕ) (r : Bool) (t : traces.Begins v w s x b r) where
  crew_at : IsCrewView t.between
  crew_at = pinned_crew v t.between s crew low t.pins

  possible_at : Possible t.between
  possible_at = pinned_possible v t.between s t.pins

  low_at : s < t.between.limits.sessions
  low_at = learnt_low v t.between s _ t.pins.view low

  closed_at : (knows t.between s).is_open ≡ false
  closed_at = learnt_closed v t.between s _ t.pins.view refl closed

  more_at : (knows t.between s).number ≢ t.between.limits.txns
  more_at = learnt_more v t.between s _ t.pins.view refl more

  pub begins_crew : IsCrewView w
  begins_crew = opens_crew t.between w s crew_at possible_at low_at closed_at more_at x b r t.opens

  pub begins_now : b ≡ x → r ≡ false → StoreAnswers v w s Begin (Begun b)
  begins_now e f = answers_from v t.between w s Begin (Begun b) t.pins.view.limits (pinned_told v t.between s crew low t.pins) (begins_at t.between w s crew_at possible_at low_at closed_at more_at x b r t.opens e f)

  pub begins_then : r ≡ true → StoreAnswers v w s (AsOf b) (Begun b)
  begins_then f = answers_from v t.between w s (AsOf b) (Begun b) t.pins.view.limits (pinned_told v t.between s crew low t.pins) (opens_as_of t.between w s crew_at possible_at low_at closed_at more_at x b r t.opens f)

-- and the clock loaded before that
module _ (v w : View) (s : ℕ) (crew : IsCrewView v) (p : Possible v) (low : s < v.limits.sessions) (closed : (knows v s).is_open ≡ false) (more : (knows v s).number ≢ v.limits.txns) (x time : ℕ) (t : traces.BeginsAsOf v w s x time) where
  seen_crew : IsCrewView t.between
  seen_crew = sees_crew v t.between s crew p low closed more t.before t.sees

  at_low : s < t.between.limits.sessions
  at_low = learnt_low v t.between s _ t.sees.load.view low

  at_closed : (knows t.between s).is_open ≡ false
  at_closed = learnt_closed v t.between s _ t.sees.load.view refl closed

  at_more : (knows t.between s).number ≢ t.between.limits.txns
  at_more = learnt_more v t.between s _ t.sees.load.view refl more

  pub as_of_crew : IsCrewView w
  as_of_crew = begins_crew t.between w s seen_crew at_low at_closed at_more x time true t.begins

  pub as_of_at : StoreAnswers v w s (AsOf time) (Begun time)
  as_of_at = answers_from v t.between w s (AsOf time) (Begun time) t.sees.load.view.limits (sees_told v t.between s crew p low closed more t.before t.sees) (begins_then t.between w s seen_crew at_low at_closed at_more x time true t.begins refl)

-- ---- refusals at once

module _ (v : View) (s : ℕ) (low : s < v.limits.sessions) where
  active : (knows v s).is_open ≡ true → begin_refusal v.limits (store_told v) s ≡ Some cause.Active
  active opened = refused_active v.limits (store_told v) s (opened_by v s low) (opened_some v s low opened)

  spent : (knows v s).is_open ≡ false → (knows v s).number ≡ v.limits.txns → begin_refusal v.limits (store_told v) s ≡ Some cause.Spent
  spent closed all = let e = begins_is v s low in refused_spent v.limits (store_told v) s (opened_none v s low closed) (omega arith)

  begin_refused : (w : View) (c : Cause) → begin_refusal v.limits (store_told v) s ≡ Some c → w ≡ v → StoreAnswers v w s Begin (Refused c)
  begin_refused w c is same = record {
    reply = λ i. refused_or (sym is i) (Begun (length (store_told v).history));
    next = ap store_told same ∙ (λ i. opened_unless (sym is i) (store_told v) s (length (store_told v).history) false);
    limits = ap (λ (u : View). u.limits) same;
  }

  as_of_at_once : (w : View) (time : ℕ) (c : Cause) → begin_refusal v.limits (store_told v) s ≡ Some c → w ≡ v → StoreAnswers v w s (AsOf time) (Refused c)
  as_of_at_once w time c is₀ same = let is = as_of_refused v.limits (store_told v) s time c is₀ in record {
    reply = λ i. refused_or (sym is i) (Begun time);
    next = ap store_told same ∙ (λ i. opened_unless (sym is i) (store_told v) s time true);
    limits = ap (λ (u : View). u.limits) same;
  }

-- ---- the calls

module _ (m n : Sitting) (s : ℕ) (crew : IsCrewView m.view) (p : Possible m.view) (low : s < m.view.limits.sessions) where
  pub begin_answers : (result : Result ℕ BeginFault) → IfOk result (λ b. traces.Begins m.view n.view s b b false) → ((result ≡ Err begins.Active) ↔ ((knows m.view s).is_open ≡ true))
      → ((result ≡ Err begins.Spent) ↔ (((knows m.view s).is_open ≡ false) × ((knows m.view s).number ≡ m.view.limits.txns))) → ((clock : ℕ) → ¬ (result ≡ Err (begins.Future clock))) → OnErr result (n ≡ m)
      → IsCrewView n.view × StoreAnswers m.view n.view s Begin (begin_reply result)
  begin_answers (Ok b) opens is_active is_spent never same = (begins_crew m.view n.view s crew low closed more b b false opens, begins_now m.view n.view s crew low closed more b b false opens refl refl)
    where
      closed : (knows m.view s).is_open ≡ false
      closed = not_true (knows m.view s).is_open (λ e. let f = is_active.1 e in absurd (cc))

      more : (knows m.view s).number ≢ m.view.limits.txns
      more e = let f = is_spent.1 (closed, e) in absurd (cc)
  begin_answers (Err begins.Active) opens is_active is_spent never same = (subst (λ (x : Sitting). IsCrewView x.view) (sym same) crew, begin_refused m.view s low n.view cause.Active (active m.view s low (is_active.0 refl)) (ap (λ (x : Sitting). x.view) same))
  begin_answers (Err begins.Spent) opens is_active is_spent never same = let h = is_spent.0 refl in (subst (λ (x : Sitting). IsCrewView x.view) (sym same) crew, begin_refused m.view s low n.view cause.Spent (spent m.view s low h.0 h.1) (ap (λ (x : Sitting). x.view) same))
  begin_answers (Err (begins.Future clock)) opens is_active is_spent never same = absurd (never clock refl)

  pub as_of_answers : (time : ℕ) (result : Result ℕ BeginFault) → IfOk result (λ b. (b ≡ time) × ((clock : ℕ) × traces.BeginsAsOf m.view n.view s clock time)) → ((result ≡ Err begins.Active) ↔ ((knows m.view s).is_open ≡ true))
      → ((result ≡ Err begins.Spent) ↔ (((knows m.view s).is_open ≡ false) × ((knows m.view s).number ≡ m.view.limits.txns))) → ((clock : ℕ) → result ≡ Err (begins.Future clock) → (clock < time) × Sees m.view n.view s clock)
      → ((result ≡ Err begins.Active) ⊎ (result ≡ Err begins.Spent) → n ≡ m) → IsCrewView n.view × StoreAnswers m.view n.view s (AsOf time) (begin_reply result)
  as_of_answers time (Ok b) ok is_active is_spent future same = (as_of_crew m.view n.view s crew p low closed more ok.1.0 time ok.1.1, subst (λ (x : ℕ). StoreAnswers m.view n.view s (AsOf time) (Begun x)) (sym ok.0) (as_of_at m.view n.view s crew p low closed more ok.1.0 time ok.1.1))
    where
      closed : (knows m.view s).is_open ≡ false
      closed = not_true (knows m.view s).is_open (λ e. let f = is_active.1 e in absurd (cc))

      more : (knows m.view s).number ≢ m.view.limits.txns
      more e = let f = is_spent.1 (closed, e) in absurd (cc)
  as_of_answers time (Err begins.Active) ok is_active is_spent future same = let e = same (inl refl) in (subst (λ (x : Sitting). IsCrewView x.view) (sym e) crew, as_of_at_once m.view s low n.view time cause.Active (active m.view s low (is_active.0 refl)) (ap (λ (x : Sitting). x.view) e))
  as_of_answers time (Err begins.Spent) ok is_active is_spent future same = let e = same (inr refl) in let h = is_spent.0 refl in (subst (λ (x : Sitting). IsCrewView x.view) (sym e) crew, as_of_at_once m.view s low n.view time cause.Spent (spent m.view s low h.0 h.1) (ap (λ (x : Sitting). x.view) e))
  as_of_answers time (Err (begins.Future clock)) ok is_active is_spent future same = let h = future clock refl in (sees_crew m.view n.view s crew p low closed more clock h.1, to_come m.view n.view s crew p low closed more clock h.1 time h.0)
    where
      closed : (knows m.view s).is_open ≡ false
      closed = not_true (knows m.view s).is_open (λ e. let f = is_active.1 e in absurd (cc))

      more : (knows m.view s).number ≢ m.view.limits.txns
      more e = let f = is_spent.1 (closed, e) in absurd (cc)
