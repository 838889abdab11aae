-- Kinds 1 to 8 keep what holds of the clock, the turn, the log and the transactions.
use Rattle.std.proofs.Common.{◌≡◌, ◌≢◌, ℕ, ◌+◌, ◌*◌, ◌/◌, ◌%◌, ◌<◌, ◌≤◌, [], Bool, true, false, refl, sym, subst, ap, ◌∙◌, arith, true≢false, ◌⊎◌, ⊎_elim, inl, inr, lt_of_not-le}
use mathlib.Core.Logic.{dite}
use native.Mathlib.Decide.{ℕ_discrete, dec_le}
use Rattle.lst_layout.specs.declared.limits.Limits.{Limits}
use Rattle.lst_core_state.specs.declared.known.Stage.{Stage}
use Rattle.lst_core_state.specs.declared.known.Stage.TheVariants.{Away, Taken, Fresh, Logged, Stated, Done}
use Rattle.lst_layout.specs.Functions.{put, put_in}
use Rattle.lst_core_state.specs.declared.known.Known.{Known}
use Rattle.lst_core_state.specs.State.{Words, rank, name_of}
use Rattle.lst_core_state.specs.Step.{refreshed}
use Rattle.lst_core_state.specs.Sound.{Runs, RunsOf, Names, TimesOf, Each}
use Rattle.lst_core_state.proofs.Functions.{put_here, put_else, each_put, put_in_row, put_in_other, put_in_else}

pub above_none : (a b x : ℕ) → (a < b → x ≡ 0) → 0 < x → b ≤ a
above_none a b x none some = grind arith

-- another session's words are as they were, and so are the clock, the turn and the log
still : (l : Limits) (w : Words) (begins' states' : ℕ → ℕ → ℕ) (s : ℕ) (v : Known) → begins' s ≡ w.begins s → states' s ≡ w.states s → RunsOf l w s v → RunsOf l (record w { begins = begins'; states = states' }) s v
still l w begins' states' s v b e r = let T : (ℕ → ℕ) → (ℕ → ℕ) → Type 0 = λ bs ss. Runs l w.clock w.turn (w.log (w.clock + 1)) bs ss s v.number v.begin v.is_open (rank v.turn) in
    subst (λ (x : ℕ → ℕ). T x (states' s)) (sym b) (subst (λ (x : ℕ → ℕ). T (w.begins s) x) (sym e) r)

pub rank_low : (k : Stage) → rank k ≤ 5
rank_low Away = omega arith
rank_low Taken = omega arith
rank_low Fresh = omega arith
rank_low Logged = omega arith
rank_low Stated = omega arith
rank_low Done = omega arith

module _ (l : Limits) (bs ss : ℕ → ℕ) (s number begin : ℕ) where
  -- a session that has no turn before and after a step of another
  away : (clock clock' turn turn' next next' : ℕ) (is_open : Bool) (k : ℕ) → clock ≤ clock' → turn ≢ s + 1 → turn' ≢ s + 1 → Runs l clock turn next bs ss s number begin is_open k → Runs l clock' turn' next' bs ss s number begin is_open k
  away clock clock' turn turn' next next' is_open k later was now r = let idle : ¬ (0 < k) = λ h. was (r.in_turn h) in record {
    few = r.few;
    begun = r.begun;
    by_now = λ n. let h = r.by_now n in omega arith;
    unbegun = r.unbegun;
    unused = r.unused;
    ended = r.ended;
    ended_last = r.ended_last;
    settled = λ n e. let h = r.settled n e in omega arith;
    settled_last = λ e. let h = r.settled_last e in omega arith;
    open_number = r.open_number;
    open_begin = r.open_begin;
    open_state = r.open_state;
    stated = λ e. absurd (idle (omega arith));
    in_turn = λ h. absurd (idle h);
    turn_in = λ h. absurd (now h);
    turn_open = r.turn_open;
    logged = λ h _. absurd (idle (omega arith));
    unlogged = λ h _. absurd (idle h);
    unlogged_after = λ e. absurd (idle (omega arith));
    rises = r.rises;
  }

  -- a session goes from one stage to another, and stores no word of its own
  restage : (clock turn turn' next next' : ℕ) (is_open : Bool) (k k' : ℕ) → k ≢ 4 → k' ≢ 4 → (0 < k' → turn' ≡ s + 1) → (turn' ≡ s + 1 → 0 < k') → (0 < k' → k' < 5 → is_open ≡ true) → (2 < k' → k' < 5 → next' ≡ 16 * number + s)
      → (0 < k' → k' < 3 → next' ≡ 0) → (k' ≡ 5 → next' ≡ 0) → Runs l clock turn next bs ss s number begin is_open k → Runs l clock turn' next' bs ss s number begin is_open k'
  restage clock turn turn' next next' is_open k k' was now in_turn turn_in turn_open logged unlogged unlogged_after r = record {
    few = r.few;
    begun = r.begun;
    by_now = r.by_now;
    unbegun = r.unbegun;
    unused = r.unused;
    ended = r.ended;
    ended_last = r.ended_last;
    settled = r.settled;
    settled_last = λ _. r.settled_last was;
    open_number = r.open_number;
    open_begin = r.open_begin;
    open_state = λ e _. r.open_state e was;
    stated = λ e. absurd (now e);
    in_turn = in_turn;
    turn_in = turn_in;
    turn_open = turn_open;
    logged = logged;
    unlogged = unlogged;
    unlogged_after = unlogged_after;
    rises = r.rises;
  }

  -- the session stores its open transaction's state: committed above the clock, or closed
  ends : (clock turn next x : ℕ) (is_open : Bool) (k k' : ℕ) → Runs l clock turn next bs ss s number begin true k → k ≢ 4 → 0 < x → (1 < x → x ≡ clock + 2) → (is_open ≡ true → k' ≡ 4) → (k' ≢ 4 → x ≤ clock + 1) → (k' ≡ 4 → x ≡ clock + 2)
      → (0 < k' → turn ≡ s + 1) → (turn ≡ s + 1 → 0 < k') → (0 < k' → k' < 5 → is_open ≡ true) → (2 < k' → k' < 5 → next ≡ 16 * number + s) → (0 < k' → k' < 3 → next ≡ 0) → (k' ≡ 5 → next ≡ 0)
      → Runs l clock turn next bs (put ss number x) s number begin is_open k'
  ends clock turn next x is_open k k' r was some late open_is low high in_turn turn_in turn_open logged unlogged unlogged_after = let here : put ss number x number ≡ x = put_here ss number x in let numbered : 0 < number = r.open_number refl in record {
    few = r.few;
    begun = r.begun;
    by_now = r.by_now;
    unbegun = r.unbegun;
    unused = λ n h. put_else ss number x n (λ e. omega arith) ∙ r.unused n h;
    ended = λ n pos h. let e = put_else ss number x n (λ e. omega arith) in let d = r.ended n pos h in omega arith;
    ended_last = λ _ _. omega arith;
    settled = λ n other. let e = put_else ss number x n other in let d = r.settled n other in omega arith;
    settled_last = λ e. let h = low e in omega arith;
    open_number = λ _. numbered;
    open_begin = λ _. r.open_begin refl;
    open_state = λ e f. absurd (f (open_is e));
    stated = λ e. here ∙ high e;
    in_turn = in_turn;
    turn_in = turn_in;
    turn_open = turn_open;
    logged = logged;
    unlogged = unlogged;
    unlogged_after = unlogged_after;
    rises = λ n m low some more. dite (ℕ_discrete m number)
        (λ e. let a : put ss number x m ≡ x = ap (put ss number x) e ∙ here in let b : put ss number x n ≡ ss n = put_else ss number x n (λ f. omega arith) in let d = r.settled n (λ f. omega arith) in let h = late (omega arith) in omega arith)
        (λ ne. let a : put ss number x m ≡ ss m = put_else ss number x m ne in dite (ℕ_discrete n number)
        (λ e. let z = r.unused m (omega arith) in absurd (omega arith))
        (λ other. let b : put ss number x n ≡ ss n = put_else ss number x n other in let h = r.rises n m low (omega arith) (omega arith) in omega arith));
  }

module _ (L : Limits) (w : Words) (known : ℕ → Known) (times : TimesOf L w) (each : Each L w known) where
  -- the log names only numbers that were begun
  pub named_low : (t : ℕ) → 0 < t → t ≤ w.clock → w.log t / 16 ≤ (known (w.log t % 16)).number
  named_low t low high = let n = times.named t low high in let r = each (w.log t % 16) n.session in
      above_none (known (w.log t % 16)).number (w.log t / 16) (w.states (w.log t % 16) (w.log t / 16)) (r.unused (w.log t / 16)) (let e = n.state in omega arith)

  -- a new number is named nowhere
  pub begin_apart : (s b t : ℕ) → 0 < t → t ≤ w.clock → put_in w.begins s ((known s).number + 1) (b + 1) (w.log t % 16) (w.log t / 16) ≡ w.begins (w.log t % 16) (w.log t / 16)
  begin_apart s b t low high = put_in_else w.begins s ((known s).number + 1) (b + 1) (w.log t % 16) (w.log t / 16)
      (λ e. λ f. let g = named_low t low high in let h : (known (w.log t % 16)).number ≡ (known s).number = ap (λ (x : ℕ). (known x).number) e in omega arith)

  -- the words stay
  pub each_same : (s : ℕ) (v' : Known) → (s < L.sessions → RunsOf L w s v') → Each L w (put known s v')
  each_same s v' runs = each_put (λ (j : ℕ) (u : Known). j < L.sessions → RunsOf L w j u) known s v' runs (λ j other. each j)

  pub begin_times : (s b : ℕ) → TimesOf L (record w { begins = put_in w.begins s ((known s).number + 1) (b + 1) })
  begin_times s b = record {
    low = times.low;
    idle = times.idle;
    above = times.above;
    named = λ t low high. let n = times.named t low high in let e = begin_apart s b t low high in record {
      session = n.session;
      number = n.number;
      state = n.state;
      begun = let h = n.begun in omega arith;
      early = let h = n.early in omega arith;
    };
    found = times.found;
  }

  pub begin_each : (s b : ℕ) (v' : Known) → s < L.sessions → (known s).is_open ≡ false → (known s).number < L.txns → b ≤ w.clock → v'.number ≡ (known s).number + 1 → v'.begin ≡ b → v'.is_open ≡ true → v'.turn ≡ (known s).turn
      → Each L (record w { begins = put_in w.begins s ((known s).number + 1) (b + 1) }) (put known s v')
  begin_each s b v' in_range shut few short e1 e2 e3 e4 = let v : Known = known s in let w' : Words = record w { begins = put_in w.begins s (v.number + 1) (b + 1) } in
      let own = each s in_range in let n' : ℕ = v.number + 1 in
      let resting : 0 < rank v.turn → rank v.turn < 5 → ⊥ = λ from to. true≢false (sym (own.turn_open from to) ∙ shut) in
      let not_stated : rank v.turn ≢ 4 = λ e. resting (omega arith) (omega arith) in
      each_put (λ (j : ℕ) (u : Known). j < L.sessions → RunsOf L w' j u) known s v'
      (λ _. subst (λ (k : Stage). Runs L w.clock w.turn (w.log (w.clock + 1)) (w'.begins s) (w.states s) s v'.number v'.begin v'.is_open (rank k)) (sym e4) (subst (λ (o : Bool). Runs L w.clock w.turn (w.log (w.clock + 1)) (w'.begins s) (w.states s) s v'.number v'.begin o (rank v.turn)) (sym e3)
      (subst (λ (x : ℕ). Runs L w.clock w.turn (w.log (w.clock + 1)) (w'.begins s) (w.states s) s v'.number x true (rank v.turn)) (sym e2) (subst (λ (x : ℕ). Runs L w.clock w.turn (w.log (w.clock + 1)) (w'.begins s) (w.states s) s x b true (rank v.turn)) (sym e1)
      (subst (λ (row : ℕ → ℕ). Runs L w.clock w.turn (w.log (w.clock + 1)) row (w.states s) s n' b true (rank v.turn)) (sym (put_in_row w.begins s n' (b + 1))) record {
        few = omega arith;
        begun = each_put (λ (n x : ℕ). 0 < n → n ≤ n' → 0 < x) (w.begins s) n' (b + 1) (λ _ _. omega arith) (λ n other pos le. own.begun n pos (omega arith));
        by_now = each_put (λ (n x : ℕ). x ≤ w.clock + 1) (w.begins s) n' (b + 1) (omega arith) (λ n other. own.by_now n);
        unbegun = each_put (λ (n x : ℕ). n' < n → x ≡ 0) (w.begins s) n' (b + 1) (λ h. absurd (omega arith)) (λ n other h. own.unbegun n (omega arith));
        unused = λ n h. own.unused n (omega arith);
        ended = λ n pos h. dite (ℕ_discrete n v.number) (λ e. subst (λ (x : ℕ). 0 < w.states s x) (sym e) (own.ended_last shut (omega arith))) (λ other. own.ended n pos (omega arith));
        ended_last = λ e. absurd (true≢false e);
        settled = λ n h. dite (ℕ_discrete n v.number) (λ e. subst (λ (x : ℕ). w.states s x ≤ w.clock + 1) (sym e) (own.settled_last not_stated)) (λ other. own.settled n other);
        settled_last = λ _. let e = own.unused n' (omega arith) in omega arith;
        open_number = λ _. omega arith;
        open_begin = λ _. put_here (w.begins s) n' (b + 1);
        open_state = λ _ _. own.unused n' (omega arith);
        stated = λ e. absurd (not_stated e);
        in_turn = own.in_turn;
        turn_in = own.turn_in;
        turn_open = λ _ _. refl;
        logged = λ from to. absurd (resting (omega arith) to);
        unlogged = own.unlogged;
        unlogged_after = own.unlogged_after;
        rises = own.rises;
      })))))
      (λ j other in_range'. still L w w'.begins w'.states j (known j) (put_in_other w.begins s n' (b + 1) j other) refl (each j in_range'))

  -- the turn was taken and the clock is loaded
  pub refresh : (s number begin : ℕ) (is_open : Bool) (k : Stage) → Runs L w.clock w.turn (w.log (w.clock + 1)) (w.begins s) (w.states s) s number begin is_open (rank k)
      → Runs L w.clock w.turn (w.log (w.clock + 1)) (w.begins s) (w.states s) s number begin is_open (rank (refreshed k))
  refresh s number begin is_open Away r = r
  refresh s number begin is_open Taken r = record {
    few = r.few;
    begun = r.begun;
    by_now = r.by_now;
    unbegun = r.unbegun;
    unused = r.unused;
    ended = r.ended;
    ended_last = r.ended_last;
    settled = r.settled;
    settled_last = λ _. r.settled_last (λ e. omega arith);
    open_number = r.open_number;
    open_begin = r.open_begin;
    open_state = λ e _. r.open_state e (λ f. omega arith);
    stated = λ e. absurd (omega arith);
    in_turn = λ _. r.in_turn (omega arith);
    turn_in = λ _. omega arith;
    turn_open = λ _ _. r.turn_open (omega arith) (omega arith);
    logged = λ h _. absurd (omega arith);
    unlogged = λ _ _. r.unlogged (omega arith) (omega arith);
    unlogged_after = λ e. absurd (omega arith);
    rises = r.rises;
  }
  refresh s number begin is_open Fresh r = r
  refresh s number begin is_open Logged r = r
  refresh s number begin is_open Stated r = r
  refresh s number begin is_open Done r = r

  -- another session has no turn while s has it
  others_away : (s : ℕ) (w' : Words) → (w.turn ≡ 0) ⊎ (w.turn ≡ s + 1) → (w'.turn ≡ 0) ⊎ (w'.turn ≡ s + 1) → w.clock ≤ w'.clock → ((j : ℕ) → j ≢ s → (w'.begins j ≡ w.begins j) × (w'.states j ≡ w.states j)) → (j : ℕ) → j ≢ s → j < L.sessions → RunsOf L w' j (known j)
  others_away s w' was now later rows j other in_range = let u : Known = known j in let r = each j in_range in let not_before : w.turn ≢ j + 1 = ⊎_elim (λ (e : w.turn ≡ 0). λ f. omega arith) (λ (e : w.turn ≡ s + 1). λ f. other (omega arith)) was in
      let not_after : w'.turn ≢ j + 1 = ⊎_elim (λ (e : w'.turn ≡ 0). λ f. omega arith) (λ (e : w'.turn ≡ s + 1). λ f. other (omega arith)) now in
      let T : (ℕ → ℕ) → (ℕ → ℕ) → Type 0 = λ bs ss. Runs L w'.clock w'.turn (w'.log (w'.clock + 1)) bs ss j u.number u.begin u.is_open (rank u.turn) in
      let q = rows j other in subst (λ (x : ℕ → ℕ). T x (w'.states j)) (sym q.0) (subst (λ (x : ℕ → ℕ). T (w.begins j) x) (sym q.1)
      (away L (w.begins j) (w.states j) j u.number u.begin w.clock w'.clock w.turn w'.turn (w.log (w.clock + 1)) (w'.log (w'.clock + 1)) u.is_open (rank u.turn) later not_before not_after r))

  pub turn_of : (s : ℕ) → s < L.sessions → 0 < rank (known s).turn → w.turn ≡ s + 1
  turn_of s in_range holds = (each s in_range).in_turn holds

  pub take_times : (s : ℕ) → s < L.sessions → w.turn ≡ 0 → TimesOf L (record w { turn = s + 1 })
  take_times s in_range free = record { low = omega arith; idle = λ e. absurd (omega arith); above = times.above; named = times.named; found = times.found }

  pub take_each : (s : ℕ) → s < L.sessions → w.turn ≡ 0 → (known s).is_open ≡ true → rank (known s).turn ≡ 0 → Each L (record w { turn = s + 1 }) (put known s (record (known s) { turn = Taken }))
  take_each s in_range free is_on none = let v : Known = known s in each_put (λ (j : ℕ) (u : Known). j < L.sessions → RunsOf L (record w { turn = s + 1 }) j u) known s (record v { turn = Taken })
      (λ h. restage L (w.begins s) (w.states s) s v.number v.begin w.clock w.turn (s + 1) (w.log (w.clock + 1)) (w.log (w.clock + 1)) v.is_open (rank v.turn) 1 (λ e. omega arith) (λ e. omega arith) (λ _. refl) (λ _. omega arith) (λ _ _. is_on)
      (λ p _. absurd (omega arith)) (λ _ _. times.idle free) (λ e. absurd (omega arith)) (each s h))
      (others_away s (record w { turn = s + 1 }) (inl free) (inr refl) (omega arith) (λ j other. (refl, refl)))

  pub log_times : (s x : ℕ) → w.turn ≡ s + 1 → TimesOf L (record w { log = put w.log (w.clock + 1) x })
  log_times s x turn = let at : ℕ = w.clock + 1 in let else : (t : ℕ) → t ≢ at → put w.log at x t ≡ w.log t = λ t other. put_else w.log at x t other in record {
    low = times.low;
    idle = λ e. absurd (omega arith);
    above = λ t h. else t (λ e. omega arith) ∙ times.above t h;
    named = λ t low high. subst (λ (y : ℕ). Names L y w.begins w.states t) (sym (else t (λ e. omega arith))) (times.named t low high);
    found = λ j n t h low high e. else t (λ e. omega arith) ∙ times.found j n t h low high e;
  }

  pub log_each : (s : ℕ) → s < L.sessions → rank (known s).turn ≡ 2 → Each L (record w { log = put w.log (w.clock + 1) (name_of s (known s).number) }) (put known s (record (known s) { turn = Logged }))
  log_each s in_range ok = let v : Known = known s in let x : ℕ = 16 * v.number + s in let at : ℕ = w.clock + 1 in let w' : Words = record w { log = put w.log at x } in
      let own = each s in_range in let turn : w.turn ≡ s + 1 = own.in_turn (omega arith) in each_put (λ (j : ℕ) (u : Known). j < L.sessions → RunsOf L w' j u) known s (record v { turn = Logged })
      (λ h. restage L (w.begins s) (w.states s) s v.number v.begin w.clock w.turn w.turn (w.log at) (w'.log at) v.is_open (rank v.turn) 3 (λ e. omega arith) (λ e. omega arith) (λ _. turn) (λ _. omega arith)
      (λ _ _. own.turn_open (omega arith) (omega arith)) (λ _ _. put_here w.log at x) (λ _ p. absurd (omega arith)) (λ e. absurd (omega arith)) own)
      (others_away s w' (inr turn) (inr turn) (omega arith) (λ j other. (refl, refl)))

  -- the state of an open transaction stands at no time
  pub open_apart : (s x t : ℕ) → s < L.sessions → (known s).is_open ≡ true → rank (known s).turn ≢ 4 → 0 < t → t ≤ w.clock → put_in w.states s (known s).number x (w.log t % 16) (w.log t / 16) ≡ w.states (w.log t % 16) (w.log t / 16)
  open_apart s x t in_range is_on not_stated low high = put_in_else w.states s (known s).number x (w.log t % 16) (w.log t / 16) (λ e. λ f. let n = (times.named t low high).state in let z = (each s in_range).open_state is_on not_stated in
      let same : w.states (w.log t % 16) (w.log t / 16) ≡ w.states s (known s).number = (λ i. w.states (e i) (f i)) in omega arith)

  -- s stores x as the state of its open transaction
  pub end_times : (s x : ℕ) → s < L.sessions → (known s).is_open ≡ true → rank (known s).turn ≢ 4 → ((t : ℕ) → 0 < t → t ≤ w.clock → x ≢ t + 1) → TimesOf L (record w { states = put_in w.states s (known s).number x })
  end_times s x in_range is_on not_stated apart = let v : Known = known s in let w' : Words = record w { states = put_in w.states s v.number x } in record {
    low = times.low;
    idle = times.idle;
    above = times.above;
    named = λ t low high. let n = times.named t low high in record { session = n.session; number = n.number; state = open_apart s x t in_range is_on not_stated low high ∙ n.state; begun = n.begun; early = n.early };
    found = λ j n t h low high e. dite (ℕ_discrete j s)
        (λ f. dite (ℕ_discrete n v.number)
        (λ g. absurd (apart t low high (sym (put_here (w.states s) v.number x) ∙ (ap (λ (q : ℕ → ℕ). q v.number) (sym (put_in_row w.states s v.number x)) ∙ ((λ i. w'.states (sym f i) (sym g i)) ∙ e)))))
        (λ g. times.found j n t h low high (sym (put_in_else w.states s v.number x j n (λ _. g)) ∙ e)))
        (λ f. times.found j n t h low high (sym (put_in_else w.states s v.number x j n (λ q. absurd (f q))) ∙ e));
  }

  end_each : (s x : ℕ) (v' : Known) → Runs L w.clock w.turn (w.log (w.clock + 1)) (w.begins s) (put (w.states s) (known s).number x) s v'.number v'.begin v'.is_open (rank v'.turn) → Each L (record w { states = put_in w.states s (known s).number x }) (put known s v')
  end_each s x v' runs = let v : Known = known s in let w' : Words = record w { states = put_in w.states s v.number x } in each_put (λ (j : ℕ) (u : Known). j < L.sessions → RunsOf L w' j u) known s v'
      (λ _. subst (λ (row : ℕ → ℕ). Runs L w.clock w.turn (w.log (w.clock + 1)) (w.begins s) row s v'.number v'.begin v'.is_open (rank v'.turn)) (sym (put_in_row w.states s v.number x)) runs)
      (λ j other h. still L w w.begins w'.states j (known j) refl (put_in_other w.states s v.number x j other) (each j h))

  pub state_each : (s : ℕ) → s < L.sessions → rank (known s).turn ≡ 3 → Each L (record w { states = put_in w.states s (known s).number (w.clock + 2) }) (put known s (record (known s) { turn = Stated }))
  state_each s in_range ok = let v : Known = known s in let own = each s in_range in let turn : w.turn ≡ s + 1 = own.in_turn (omega arith) in let is_on : v.is_open ≡ true = own.turn_open (omega arith) (omega arith) in
      let not_stated : rank v.turn ≢ 4 = λ e. omega arith in end_each s (w.clock + 2) (record v { turn = Stated })
      (ends L (w.begins s) (w.states s) s v.number v.begin w.clock w.turn (w.log (w.clock + 1)) (w.clock + 2) v.is_open (rank v.turn) 4
      (subst (λ (b : Bool). Runs L w.clock w.turn (w.log (w.clock + 1)) (w.begins s) (w.states s) s v.number v.begin b (rank v.turn)) is_on own) not_stated (omega arith) (λ _. refl) (λ _. refl) (λ e. absurd (e refl)) (λ _. refl)
      (λ _. turn) (λ _. omega arith) (λ _ _. is_on) (λ _ _. own.logged (omega arith) (omega arith)) (λ _ p. absurd (omega arith)) (λ e. absurd (omega arith)))

  pub close_each : (s : ℕ) → s < L.sessions → (known s).is_open ≡ true → rank (known s).turn ≡ 0 → Each L (record w { states = put_in w.states s (known s).number 1 }) (put known s (record (known s) { is_open = false; own = [] }))
  close_each s in_range is_on none = let v : Known = known s in let own = each s in_range in let not_stated : rank v.turn ≢ 4 = λ e. omega arith in
      let no_turn : w.turn ≢ s + 1 = λ e. let h = own.turn_in e in omega arith in end_each s 1 (record v { is_open = false; own = [] })
      (ends L (w.begins s) (w.states s) s v.number v.begin w.clock w.turn (w.log (w.clock + 1)) 1 false (rank v.turn) (rank v.turn)
      (subst (λ (b : Bool). Runs L w.clock w.turn (w.log (w.clock + 1)) (w.begins s) (w.states s) s v.number v.begin b (rank v.turn)) is_on own) not_stated (omega arith) (λ h. absurd (omega arith)) (λ e. absurd (true≢false (sym e))) (λ _. omega arith) (λ e. absurd (omega arith))
      own.in_turn own.turn_in (λ p _. absurd (omega arith)) (λ p _. absurd (omega arith)) (λ p _. absurd (omega arith)) (λ e. absurd (omega arith)))

  pub give_times : (s : ℕ) → s < L.sessions → 0 < rank (known s).turn → rank (known s).turn ≢ 3 → rank (known s).turn ≢ 4 → TimesOf L (record w { turn = 0 })
  give_times s in_range held a b = let v : Known = known s in let own = each s in_range in let high = rank_low v.turn in record {
    low = omega arith;
    idle = λ _. dite (dec_le (rank v.turn) 2) (λ h. own.unlogged held (omega arith)) (λ h. own.unlogged_after (let d : 2 < rank v.turn = lt_of_not-le h in omega arith));
    above = times.above;
    named = times.named;
    found = times.found;
  }

  pub give_each : (s : ℕ) → s < L.sessions → 0 < rank (known s).turn → rank (known s).turn ≢ 4 → Each L (record w { turn = 0 }) (put known s (record (known s) { turn = Away }))
  give_each s in_range held b = let v : Known = known s in let own = each s in_range in let turn : w.turn ≡ s + 1 = own.in_turn held in let w' : Words = record w { turn = 0 } in
      each_put (λ (j : ℕ) (u : Known). j < L.sessions → RunsOf L w' j u) known s (record v { turn = Away })
      (λ h. restage L (w.begins s) (w.states s) s v.number v.begin w.clock w.turn 0 (w.log (w.clock + 1)) (w.log (w.clock + 1)) v.is_open (rank v.turn) 0 b (λ e. omega arith) (λ p. absurd (omega arith)) (λ e. absurd (omega arith)) (λ p _. absurd (omega arith))
      (λ p _. absurd (omega arith)) (λ p _. absurd (omega arith)) (λ e. absurd (omega arith)) own)
      (others_away s w' (inr turn) (inl refl) (omega arith) (λ j other. (refl, refl)))

  module _ (s : ℕ) (in_range : s < L.sessions) (few : L.sessions ≤ 16) (ok : rank (known s).turn ≡ 4) (early : (known s).begin ≤ w.clock) where
    pub clock_times : TimesOf L (record w { clock = w.clock + 1 })
    clock_times = let v : Known = known s in let own = each s in_range in
        let at : ℕ = w.clock + 1 in let turn : w.turn ≡ s + 1 = own.in_turn (omega arith) in let is_on : v.is_open ≡ true = own.turn_open (omega arith) (omega arith) in let entry = own.logged (omega arith) (omega arith) in
        let session : w.log at % 16 ≡ s = omega arith in let number : w.log at / 16 ≡ v.number = omega arith in let stated = own.stated ok in let begun = own.open_begin is_on in record {
          low = times.low;
          idle = λ e. absurd (omega arith);
          above = λ t h. times.above t (omega arith);
          named = λ t low high. dite (ℕ_discrete t at)
              (λ e. let state : w.states (w.log at % 16) (w.log at / 16) ≡ w.states s v.number = (λ i. w.states (session i) (number i)) in let begin : w.begins (w.log at % 16) (w.log at / 16) ≡ w.begins s v.number = (λ i. w.begins (session i) (number i)) in
              let numbered = own.open_number is_on in subst (λ (z : ℕ). Names L (w.log z) w.begins w.states z) (sym e) record { session = omega arith; number = omega arith; state = omega arith; begun = omega arith; early = omega arith })
              (λ other. times.named t low (omega arith));
          found = λ j n t h low high e. dite (ℕ_discrete t at)
              (λ f. dite (ℕ_discrete j s)
              (λ g. dite (ℕ_discrete n v.number) (λ d. let same : w.log t ≡ w.log at = ap w.log f in omega arith) (λ d. let r = own.settled n d in let same : w.states j n ≡ w.states s n = ap (λ (x : ℕ). w.states x n) g in absurd (omega arith)))
              (λ g. let r = each j h in let idle : rank (known j).turn ≢ 4 = λ d. g (let q = r.in_turn (omega arith) in omega arith) in
              absurd (dite (ℕ_discrete n (known j).number) (λ d. let q = r.settled_last idle in let same : w.states j n ≡ w.states j (known j).number = ap (w.states j) d in omega arith) (λ d. let q = r.settled n d in omega arith))))
              (λ other. times.found j n t h low (omega arith) e);
        }

    pub clock_each : (v' : Known) → v'.number ≡ (known s).number → v'.begin ≡ (known s).begin → v'.is_open ≡ false → v'.turn ≡ Done → Each L (record w { clock = w.clock + 1 }) (put known s v')
    clock_each v' e1 e2 e3 e4 = let v : Known = known s in let own = each s in_range in let w' : Words = record w { clock = w.clock + 1 } in
        let at : ℕ = w.clock + 1 in let turn : w.turn ≡ s + 1 = own.in_turn (omega arith) in let stated = own.stated ok in let none_next : w.log (at + 1) ≡ 0 = times.above (at + 1) (omega arith) in
        let T : ℕ → ℕ → Bool → Stage → Type 0 = λ n b o k. Runs L w'.clock w'.turn (w'.log (w'.clock + 1)) (w.begins s) (w.states s) s n b o (rank k) in
        each_put (λ (j : ℕ) (u : Known). j < L.sessions → RunsOf L w' j u) known s v'
        (λ h. subst (λ (k : Stage). T v'.number v'.begin v'.is_open k) (sym e4) (subst (λ (o : Bool). T v'.number v'.begin o Done) (sym e3) (subst (λ (b : ℕ). T v'.number b false Done) (sym e2) (subst (λ (n : ℕ). T n v.begin false Done) (sym e1) record {
          few = own.few;
          begun = own.begun;
          by_now = λ n. let q = own.by_now n in omega arith;
          unbegun = own.unbegun;
          unused = own.unused;
          ended = own.ended;
          ended_last = λ _ _. omega arith;
          settled = λ n d. let q = own.settled n d in omega arith;
          settled_last = λ _. omega arith;
          open_number = λ e. absurd (true≢false (sym e));
          open_begin = λ e. absurd (true≢false (sym e));
          open_state = λ e _. absurd (true≢false (sym e));
          stated = λ e. absurd (omega arith);
          in_turn = λ _. turn;
          turn_in = λ _. omega arith;
          turn_open = λ _ q. absurd (omega arith);
          logged = λ _ q. absurd (omega arith);
          unlogged = λ _ q. absurd (omega arith);
          unlogged_after = λ _. none_next;
          rises = own.rises;
        }))))
        (others_away s w' (inr turn) (inr turn) (omega arith) (λ j other. (refl, refl)))
