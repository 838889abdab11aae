-- Versions that a walk resolves, and what it has made of those that it passed.
use Rattle.std.proofs.Common.{◌≡◌, ◌⊎◌, ℕ, ◌+◌, ◌-◌, ◌*◌, ◌/◌, ◌%◌, ◌<◌, ◌≤◌, List, [], ◌∷◌, ◌++◌, Bool, true, false, cond, refl, sym, subst, ap, ◌∙◌, inl, inr, ⊎_elim, arith, slice_index_or, append_assoc, append-nil, true≢false}
use Rattle.std.proofs.lemmas.List.Elements.{All-push, All-weaker}
use Rattle.std.specs.Prelude.{Option}
use Rattle.std.specs.List.{All}
use Rattle.lst_layout.specs.declared.limits.Limits.{Limits}
use Rattle.lst_layout.specs.Words.{Words, shown}
use Rattle.lst_layout.specs.declared.place.Place.TheVariants.{CellWord}
use Rattle.lst_model.specs.declared.acts.Act.{Act}
use Rattle.lst_model.specs.Cells.{Cell}
use Rattle.lst_model.specs.Histories.{row_after, row_from}
use Rattle.lst_model.specs.Soundness.{Fits, FitInTurn}
use Rattle.lst_model.proofs.Folds.{row_from-append}
use Rattle.lst_core_state.specs.declared.known.Known.{Known}
use Rattle.lst_core_state.specs.declared.events.Event.TheVariants.{Stamp}
use Rattle.lst_core_state.specs.Cells.{range_of}
use Rattle.lst_core_state.specs.State.{name_of, state_at}
use Rattle.lst_rule.specs.declared.view.View.{View}
use Rattle.lst_rule.specs.Rule.{knows, hosts}
use Rattle.lst_rule.specs.Learned.{Made}
use Rattle.lst_rule.specs.Stores.{Looked}
use Rattle.lst_rule.proofs.Asking.{looked_words}
use Rattle.lst_core_state.proofs.CellsKept.{put_in_here}
use Rattle.lst_rule.proofs.Stamps.{made_words}
use Rattle.lst_rule.specs.Copies.{Version, IsCopy}
use Rattle.lst_rule.specs.Seen.{sees, act_by, seen_acts}
use Rattle.lst_rule.specs.Watching.{Watched}
use Rattle.lst_rule.proofs.Copying.{copies_stay}
use Rattle.lst_walk.specs.Readers.{IsAt, IsNotCommitted, Resolves, IsResolved}
use Rattle.lst_walk.specs.Patches.{seen_after}
use Rattle.lst_walk.specs.Walks.{IsStampedIn, Passes}
use Rattle.lst_walk.proofs.Reading.{watched_on, facts_on, at_on, start_found}

-- ---- with further looks, it stays resolved

module _ (v w x : View) (s range n : ℕ) (more : Watched w x s) where
  pub resolves_later : Resolves v w s range n → Resolves v x s range n
  resolves_later (inl t) = inl record { before = t.before; after = t.after; first = t.first; time = t.time; some = t.some; told = t.told; last = watched_on t.after w x s t.last more }
  resolves_later (inr (inl t)) = inr (inl record { before = t.before; after = t.after; asked = t.asked; first = t.first; word = t.word; looked = t.looked; why = t.why; last = watched_on t.asked w x s t.last more })
  resolves_later (inr (inr t)) = inr (inr record { before = t.before; after = t.after; first = t.first; looked = t.looked; last = watched_on t.after w x s t.last more })

module _ (u v w : View) (s range n : ℕ) (first : Watched u v s) where
  pub resolves_earlier : Resolves v w s range n → Resolves u w s range n
  resolves_earlier (inl t) = inl record {
    before = t.before;
    after = t.after;
    first = watched_on u v t.before s first t.first;
    time = t.time;
    some = t.some;
    told = subst (λ (l : Limits). Looked t.before t.after s (CellWord (range * l.tails + n) 0) (2 * t.time) ⊎ Made t.before t.after (Stamp s range n) (CellWord (range * l.tails + n) 0) (2 * t.time)) first.learns.limits t.told;
    last = t.last;
  }
  resolves_earlier (inr (inl t)) = inr (inl record {
    before = t.before;
    after = t.after;
    asked = t.asked;
    first = watched_on u v t.before s first t.first;
    word = t.word;
    looked = subst (λ (l : Limits). Looked t.before t.after s (CellWord (range * l.tails + n) 0) t.word) first.learns.limits t.looked;
    why = t.why;
    last = t.last;
  })
  resolves_earlier (inr (inr t)) = inr (inr record {
    before = t.before;
    after = t.after;
    first = watched_on u v t.before s first t.first;
    looked = subst (λ (l : Limits). Looked t.before t.after s (CellWord (range * l.tails + n) 0) (1 + 2 * name_of s (knows t.before s).number)) first.learns.limits t.looked;
    last = t.last;
  })

-- ---- where the view knows each word, it is stamped

abbrev words_of : View → Words
words_of v = shown v.limits v.words

module _ (v w : View) (s : ℕ) (more : Watched v w s) (whole : v.whole ≡ true) where
  states_stay : (j n : ℕ) → (words_of w).states j n ≡ (words_of v).states j n
  states_stay j n = ap (λ (u : Words). u.states j n) (more.words whole).rest

  clock_stays : (words_of w).clock ≡ (words_of v).clock
  clock_stays = ap (λ (u : Words). u.clock) (more.words whole).rest

  -- a transaction that isn't committed stays so
  live_stays : (j n : ℕ) → ((words_of v).states j n ≡ 1) ⊎ (((words_of v).states j n ≡ 0) ⊎ ((words_of v).clock + 1 < (words_of v).states j n)) → 1 < (words_of w).states j n → (words_of w).states j n ≤ (words_of w).clock + 1 → ⊥
  live_stays j n (inl closed) some low = let e = states_stay j n in omega arith
  live_stays j n (inr (inl active)) some low = let e = states_stay j n in omega arith
  live_stays j n (inr (inr above)) some low = let e = states_stay j n in let f = clock_stays in omega arith

  pub stamped_later : (own : ℕ) (c : Version) → IsStampedIn (words_of v) own c → IsStampedIn (words_of w) own c
  stamped_later own c is other some low = let e = states_stay (c.writer % 16) (c.writer / 16) in let f = clock_stays in more.stamps whole c.tail (is other (omega arith) (omega arith))

not_committed_words : (v w : View) (s j n : ℕ) → w.whole ≡ true → IsNotCommitted v w s j n → ((words_of w).states j n ≡ 1) ⊎ (((words_of w).states j n ≡ 0) ⊎ ((words_of w).clock + 1 < (words_of w).states j n))
not_committed_words v w s j n whole (inl closed) = inl (closed.stored whole)
not_committed_words v w s j n whole (inr unfinished) = inr (unfinished.stored whole)

module _ (v w : View) (s range n : ℕ) (hosted : hosts v s ≡ true) (whole : w.whole ≡ true) (c : Version) (at : IsAt v s (range * v.limits.tails + n) c) where
  abbrev t : ℕ
  t = range * v.limits.tails + n

  -- a start word that was found
  found_at : (before after : View) (x : ℕ) → Watched v before s → Looked before after s (CellWord (range * v.limits.tails + n) 0) x → (0 < x) × (x % 2 ≡ 1 → x ≡ 1 + 2 * c.writer)
  found_at before after x first looked = let f = start_found before after s t x (ap (λ (bs : List Bool). slice_index_or bs s false) first.learns.hosted ∙ hosted) looked c (at_on v before s t c first at) in (f.some, f.named)

  even_later : (after : View) → Watched after w s → (words_of after).cells t 0 % 2 ≡ 0 → (words_of w).cells c.tail 0 % 2 ≡ 0
  even_later after last even = subst (λ (y : ℕ). (words_of w).cells y 0 % 2 ≡ 0) (sym at.at) (last.stamps (sym last.learns.whole ∙ whole) t even)

  looked_even : (before after : View) (time : ℕ) → after.whole ≡ true → Looked before after s (CellWord (range * v.limits.tails + n) 0) (2 * time) → (words_of after).cells (range * v.limits.tails + n) 0 % 2 ≡ 0
  looked_even before after time known looked = let e : (words_of after).cells t 0 ≡ 2 * time = ap (λ (u : Words). u.cells t 0) (looked_words before after s (2 * time) (CellWord t 0) looked known) ∙ looked.met.found in omega arith

  made_even : (before after : View) (x : ℕ) → before.limits ≡ v.limits → before.whole ≡ true → Made before after (Stamp s range n) (CellWord (range * v.limits.tails + n) 0) x → (words_of after).cells (range * v.limits.tails + n) 0 % 2 ≡ 0
  made_even before after x same known made = subst (λ (l : Limits). (words_of after).cells (range * l.tails + n) 0 % 2 ≡ 0) same (let y : ℕ = range * before.limits.tails + n in
      let e : (words_of after).cells y 0 ≡ 2 * (state_at (words_of before) y - 1) = ap (λ (u : Words). u.cells y 0) (made_words before after (Stamp s range n) (CellWord t 0) x made known) ∙ put_in_here (words_of before).cells y 0 (2 * (state_at (words_of before) y - 1)) in omega arith)

  pub resolved_stamped : Resolves v w s range n → IsStampedIn (shown w.limits w.words) (name_of s (knows v s).number) c
  resolved_stamped (inl q) other some low = let known : q.after.whole ≡ true = sym q.last.learns.whole ∙ whole in even_later q.after q.last (⊎_elim
      (λ (h : Looked q.before q.after s (CellWord (range * v.limits.tails + n) 0) (2 * q.time)). looked_even q.before q.after q.time known h)
      (λ (h : Made q.before q.after (Stamp s range n) (CellWord (range * v.limits.tails + n) 0) (2 * q.time)). made_even q.before q.after (2 * q.time) q.first.learns.limits (sym h.view.whole ∙ known) h)
      q.told)
  resolved_stamped (inr (inl q)) other some low = let f = found_at q.before q.after q.word q.first q.looked in absurd (⊎_elim
      (λ (h : (q.word ≡ 0) × (q.asked ≡ q.after)). let a = f.0 in let b = h.0 in omega arith)
      (λ (h : (q.word % 2 ≡ 1) × IsNotCommitted q.after q.asked s (q.word / 2 % 16) (q.word / 2 / 16)). let e = f.1 h.0 in let half : q.word / 2 ≡ c.writer = omega arith in
      live_stays q.asked w s q.last (sym q.last.learns.whole ∙ whole) (c.writer % 16) (c.writer / 16)
      (subst (λ (y : ℕ). ((words_of q.asked).states (y % 16) (y / 16) ≡ 1) ⊎ (((words_of q.asked).states (y % 16) (y / 16) ≡ 0) ⊎ ((words_of q.asked).clock + 1 < (words_of q.asked).states (y % 16) (y / 16)))) half
      (not_committed_words q.after q.asked s (q.word / 2 % 16) (q.word / 2 / 16) (sym q.last.learns.whole ∙ whole) h.1)) some low)
      q.why)
  resolved_stamped (inr (inr q)) other some low = let f = found_at q.before q.after (1 + 2 * name_of s (knows q.before s).number) q.first q.looked in
      absurd (other (let e = f.1 (omega arith) in let g = ap (λ (k : Known). k.number) q.first.watches.is in omega arith))

-- ---- the versions that were passed

module _ (v w x : View) (s rec : ℕ) (passed : List Version) (more : Watched w x s) where
  all_later : All (IsResolved v w s (range_of rec)) passed → All (IsResolved v x s (range_of rec)) passed
  all_later = All-weaker (IsResolved v w s (range_of rec)) (IsResolved v x s (range_of rec)) (λ c r. (r.0, r.1, resolves_later v w x s (range_of rec) r.0 more r.2)) passed

  pub copy_later : (head : ℕ) (copy : List Version) → IsCopy w.limits (knows w s).facts rec head copy → IsCopy x.limits (knows x s).facts rec head copy
  copy_later head copy is = subst (λ (l : Limits). IsCopy l (knows x s).facts rec head copy) (sym more.learns.limits) (copies_stay w.limits (knows w s).facts (knows x s).facts rec head copy (facts_on w x s more) is)

  all_stamped : (own : ℕ) → (w.whole ≡ true → All (IsStampedIn (words_of w) own) passed) → x.whole ≡ true → All (IsStampedIn (words_of x) own) passed
  all_stamped own stamped whole = let known : w.whole ≡ true = sym more.learns.whole ∙ whole in All-weaker (IsStampedIn (words_of w) own) (IsStampedIn (words_of x) own) (λ c is. stamped_later w x s more known own c is) passed (stamped known)

  pub passes_next : (c : Version) (rest : List Version) → Passes v w s rec passed (c ∷ rest) → IsResolved v x s (range_of rec) c → (x.whole ≡ true → IsStampedIn (shown x.limits x.words) (name_of s (knows v s).number) c) → Passes v x s rec (passed ++ c ∷ []) rest
  passes_next c rest p is last = record {
    head = p.head;
    copy = subst (λ (cs : List Version). IsCopy x.limits (knows x s).facts rec p.head cs) (sym (append_assoc passed (c ∷ []) rest)) (copy_later p.head (passed ++ c ∷ rest) p.copy);
    resolved = All-push (IsResolved v x s (range_of rec)) passed c (all_later p.resolved) is;
    stamped = λ whole. All-push (IsStampedIn (words_of x) (name_of s (knows v s).number)) passed c (all_stamped (name_of s (knows v s).number) p.stamped whole) (last whole);
  }

  pub passes_later : (rest : List Version) → Passes v w s rec passed rest → Passes v x s rec passed rest
  passes_later rest p = record { head = p.head; copy = copy_later p.head (passed ++ rest) p.copy; resolved = all_later p.resolved; stamped = all_stamped (name_of s (knows v s).number) p.stamped }

-- ---- what they make of a row

acts_over : (k : Known) (s : ℕ) (passed : List Version) (c : Version) → seen_acts k s (passed ++ c ∷ []) ≡ seen_acts k s (c ∷ []) ++ seen_acts k s passed
acts_over k s [] c = sym (append-nil (seen_acts k s (c ∷ [])))
acts_over k s (d ∷ ds) c = choose (sees k s d.writer) (acts_over k s ds c)
  where
    choose : (b : Bool) → seen_acts k s (ds ++ c ∷ []) ≡ seen_acts k s (c ∷ []) ++ seen_acts k s ds → cond b (seen_acts k s (ds ++ c ∷ []) ++ act_by d ∷ []) (seen_acts k s (ds ++ c ∷ [])) ≡ seen_acts k s (c ∷ []) ++ cond b (seen_acts k s ds ++ act_by d ∷ []) (seen_acts k s ds)
    choose true e = ap (λ (xs : List Act). xs ++ act_by d ∷ []) e ∙ append_assoc (seen_acts k s (c ∷ [])) (seen_acts k s ds) (act_by d ∷ [])
    choose false e = e

module _ (k : Known) (s : ℕ) (passed : List Version) (c : Version) (older : Option (List Cell)) where
  one_seen : row_from older (seen_acts k s (c ∷ [])) ≡ seen_after k s c older
  one_seen = choose (sees k s c.writer)
    where
      choose : (b : Bool) → row_from older (cond b ([] ++ act_by c ∷ []) []) ≡ cond b (row_after older (act_by c)) older
      choose true = refl
      choose false = refl

  -- the oldest of them acts first
  pub row_passed : row_from older (seen_acts k s (passed ++ c ∷ [])) ≡ row_from (seen_after k s c older) (seen_acts k s passed)
  row_passed = ap (row_from older) (acts_over k s passed c) ∙ (row_from-append older (seen_acts k s (c ∷ [])) (seen_acts k s passed) ∙ ap (λ (r : Option (List Cell)). row_from r (seen_acts k s passed)) one_seen)

  pub fit_passed : FitInTurn older (seen_acts k s (passed ++ c ∷ [])) → sees k s c.writer ≡ true → Fits older (act_by c)
  fit_passed turn = choose (sees k s c.writer) (subst (FitInTurn older) (acts_over k s passed c) turn)
    where
      choose : (b : Bool) → FitInTurn older (cond b ([] ++ act_by c ∷ []) [] ++ seen_acts k s passed) → b ≡ true → Fits older (act_by c)
      choose true fits e = fits.0
      choose false fits e = absurd (true≢false (sym e))
