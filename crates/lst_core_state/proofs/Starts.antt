-- The opening state is sound.
use Rattle.std.proofs.Common.{◌≡◌, ℕ, ◌<◌, [], refl, sym, subst, ap, arith, true≢false, get_or, inl}
use Rattle.std.proofs.lemmas.List.{length-replicate, get_or-replicate}
use Rattle.lst_layout.specs.declared.limits.Limits.{Limits}
use Rattle.lst_layout.specs.Limits.{IsValid}
use Rattle.lst_layout.specs.Words as layout
use Rattle.lst_core_state.specs.Lists.{Has, chain_of}
use Rattle.lst_core_state.specs.Cells.{range_of, tail_at}
use Rattle.lst_core_state.specs.State.{history, line, back_in, no_counter, newcomer}
use Rattle.lst_core_state.specs.Runs.{opening}
use Rattle.lst_core_state.specs.Sound.{FoundOf, Sound}
use Rattle.lst_core_state.proofs.CellsKept.{tail_at-none}
use Rattle.lst_core_state.proofs.Positions.{placed_says}

module _ (l : Limits) (sized : IsValid l) where
  no_line : (r : ℕ) → line l (layout.opening l) r ≡ []
  no_line r = ap (chain_of (back_in l (layout.opening l).cells)) (tail_at-none l.tails (range_of r))

  pub opening_sound : Sound (opening l)
  unfolding history tail_at
  opening_sound = record {
    sized = sized;
    times = record {
      low = omega arith;
      idle = λ _. refl;
      above = λ _ _. refl;
      named = λ t low high. absurd (omega arith);
      found = λ s n t h low high e. absurd (omega arith);
    };
    each = λ s h. record {
      few = omega arith;
      begun = λ n low high. absurd (omega arith);
      by_now = λ n. omega arith;
      unbegun = λ _ _. refl;
      unused = λ _ _. refl;
      ended = λ n low high. absurd (omega arith);
      ended_last = λ _ p. absurd (omega arith);
      settled = λ _ _. omega arith;
      settled_last = λ _. omega arith;
      open_number = λ e. absurd (true≢false (sym e));
      open_begin = λ e. absurd (true≢false (sym e));
      open_state = λ e _. absurd (true≢false (sym e));
      stated = λ e. absurd (omega arith);
      in_turn = λ p. absurd (omega arith);
      turn_in = λ e. absurd (omega arith);
      turn_open = λ p _. absurd (omega arith);
      logged = λ p _. absurd (omega arith);
      unlogged = λ p _. absurd (omega arith);
      unlogged_after = λ e. absurd (omega arith);
      rises = λ n m low p _. absurd (omega arith);
    };
    views = λ s h. record { prefix = ([], refl); whole = λ p. absurd (omega arith); begun = λ e. absurd (true≢false (sym e)); own = refl };
    index = record {
      filled = λ q p. absurd (omega arith);
      one = λ q p a b e. absurd (omega arith);
      hands = λ s h. record { low = omega arith; few = omega arith; out = λ p. absurd (omega arith); keyed = λ e. absurd (true≢false (sym e)) };
      apart = λ s t a b p e. absurd (omega arith);
      counted = record { full = λ s h p. absurd (omega arith); serves = λ s h e. refl; full_by = λ _. 0; fulls = λ v a b. absurd (omega arith) };
      drawer = λ _. 0;
      drawns = λ r a b. absurd (omega arith);
    };
    versions = record {
      zero_blank = refl;
      lines = λ r h. record { links = tail_at-none l.tails (range_of r); stored = λ t i. absurd i; here = λ t i. absurd i; ordered = tt; fits = tt };
      stored = λ t p. absurd (omega arith);
      hands = λ s h. record {
        opened = λ p. absurd (omega arith);
        writes = λ p. absurd (omega arith);
        away = λ p. absurd (omega arith);
        low = omega arith;
        index = λ p. absurd (omega arith);
        latched = λ p. absurd (omega arith);
        holds = λ p. absurd (omega arith);
        above = λ p. absurd (omega arith);
        counted = λ p. absurd (omega arith);
        few = omega arith;
        blank = λ _ p. absurd (omega arith);
        some = λ p. absurd (true≢false (sym p));
        start = λ p. absurd (true≢false (sym p));
        here = λ p. absurd (true≢false (sym p));
        judged = λ p. absurd (omega arith);
      };
      tails_apart = λ s j a b p e. absurd (omega arith);
      latches_apart = λ s j a b p e. absurd (omega arith);
      held = λ r h e. absurd (omega arith);
      keys_apart = λ r q a b is_r is_q e. let f = placed_says l (λ _. 0) r is_r in let g = f.2 in absurd (omega arith);
      unplaced = λ r h e. refl;
    };
    owned = λ s h. record { none = λ _. refl; rising = tt; else = λ _ _. refl; each = λ e. absurd (true≢false (sym e)) };
    fit = λ s h e. absurd (true≢false (sym e));
    tail_words = record { drafts = λ s h p. absurd (omega arith); images = λ t p. absurd (omega arith); undrawn = λ t p none. refl };
    counted = λ range h. record {
      full = λ s low p. absurd (let e = fresh range h in let f = ap (λ x. x.full) e in omega arith);
      serves = λ s low e. ap (λ x. x.full) (fresh range h);
      full_by = λ _. 0;
      fulls = λ v a b. absurd (omega arith);
    };
    counters = λ s h. length-replicate l.ranges no_counter;
    postings = record {
      chained = λ r h t i. absurd (none r t i);
      filled = λ column q p. absurd (omega arith);
      once = λ column p q a e. absurd (omega arith);
      marks = λ s h. record { posted = λ column p. absurd (omega arith); found = λ column p. absurd (omega arith); unposted = λ column p. absurd (omega arith) };
    };
    listed = record {
      every = λ r h t i. absurd (none r t i);
      only = λ s h d a. absurd (let low = a.1 in omega arith);
      once = λ s h i j d a b. absurd (omega arith);
      latched = λ s h p. absurd (omega arith);
      tails = λ range g h d. absurd (let a = d.0 in let b = d.2 in omega arith);
    };
    facts = λ s h f a. absurd (let low = a.1 in omega arith);
    recorded = λ s h. record { seen_keys = λ k. inl refl; own_keys = λ k. inl refl; latched = λ p. absurd (omega arith) };
    found = λ s h. blank s;
    merger_facts = λ f a. absurd (let low = a.1 in omega arith);
    merger_seen = ([], refl);
    merger_counters = length-replicate l.ranges no_counter;
    merger_recorded = λ k. inl refl;
    merger_found = blank l.sessions;
    merger_idle = refl;
  }
    where
      fresh : (range : ℕ) → range < l.ranges → get_or (opening l).merger.counters range no_counter ≡ no_counter
      fresh range h = get_or-replicate l.ranges range no_counter no_counter h

      blank : (s : ℕ) → FoundOf l (opening l).words (opening l).known s (newcomer l)
      blank s = record { each = λ f a. absurd (let low = a.1 in omega arith); last = record { session = sized.sessions.0; state = λ p. absurd (omega arith); start = λ j n low e. absurd (omega arith) } }

      none : (r t : ℕ) → ¬ Has t (line l (layout.opening l) r)
      none r t i = subst (Has t) (no_line r) i
