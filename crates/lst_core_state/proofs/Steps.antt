-- What a step leaves of chains, stored tails and hands.
use Rattle.std.proofs.Common.{◌≡◌, ◌≢◌, ℕ, zero, suc, ◌-◌, ◌/◌, ◌%◌, ◌<◌, ◌≤◌, List, ◌∷◌, Bool, true, false, cond, refl, sym, subst, ap, ◌∙◌, arith, true≢false, eq-eqb, ne_eqb, ◌⊎◌}
use mathlib.Core.Logic.{dite}
use native.Mathlib.Decide.{ℕ_discrete}
use Rattle.lst_layout.specs.declared.limits.Limits.{Limits}
use Rattle.lst_layout.specs.Functions.{put}
use Rattle.lst_core_state.specs.Lists.{Has, Links, Below}
use Rattle.lst_core_state.proofs.Functions.{put_here, put_else}
use Rattle.lst_core_state.proofs.Lists.{links_chain, links_same, ordered_step, below_step, fitting_step}
use Rattle.lst_core_state.specs.declared.known.Known.{Known}
use Rattle.lst_core_state.specs.declared.known.Hold.{Hold}
use Rattle.lst_core_state.specs.Cells.{range_of, tail_at, tail_range, record_of, act_of, listed, record_count}
use Rattle.lst_core_state.specs.Index.{is_placed}
use Rattle.lst_core_state.specs.State.{Words, entry, writer, writer_at, name_of, line, rank, FitsAfter, record_in, act_in, back_in, head_of, starts}
use Rattle.lst_core_state.specs.Sound.{Line, LineOf, InHand, Stored, StoredOf, Hand, HandOf}

-- ---- words that stay

pub same_listed : (f g : ℕ → ℕ) (p n : ℕ) → ((q : ℕ) → p ≤ q → g q ≡ f q) → listed g p n ≡ listed f p n
same_listed f g p zero same = refl
same_listed f g p (suc n) same = λ i. same p (omega arith) i ∷ same_listed f g (suc p) n (λ q h. same q (omega arith)) i

module _ (l : Limits) (cells cells' : ℕ → ℕ → ℕ) (t : ℕ) (same : (p : ℕ) → 0 < p → cells' t p ≡ cells t p) where
  pub back_same : back_in l cells' t ≡ back_in l cells t
  back_same = ap (tail_at l.tails (tail_range l.tails t)) (same 2 (omega arith))

  pub record_same : record_in l cells' t ≡ record_in l cells t
  record_same = ap (record_of l.tails t) (same 1 (omega arith))

  pub values_same : listed (cells' t) 3 l.columns ≡ listed (cells t) 3 l.columns
  values_same = same_listed (cells t) (cells' t) 3 l.columns (λ q h. same q (omega arith))

  pub act_same : act_in l cells' t ≡ act_in l cells t
  act_same = λ i. act_of (same 1 (omega arith) i) (values_same i)

-- ---- writers and names

pub writer_odd : (log : ℕ → ℕ) (start : ℕ) → start % 2 ≡ 1 → writer log start ≡ start / 2
unfolding writer
writer_odd log start odd = ap (λ (b : Bool). cond b (start / 2) (log (start / 2))) (eq-eqb (start % 2) 1 odd)

pub writer_even : (log : ℕ → ℕ) (start : ℕ) → start % 2 ≡ 0 → writer log start ≡ log (start / 2)
unfolding writer
writer_even log start even = ap (λ (b : Bool). cond b (start / 2) (log (start / 2))) (ne_eqb (start % 2) 1 (λ e. omega arith))

pub writer_log : (log log' : ℕ → ℕ) (start : ℕ) → (start % 2 ≡ 0 → log' (start / 2) ≡ log (start / 2)) → writer log' start ≡ writer log start
writer_log log log' start same = dite (ℕ_discrete (start % 2) 1)
    (λ odd. writer_odd log' start odd ∙ sym (writer_odd log start odd))
    (λ other. let even : start % 2 ≡ 0 = omega arith in writer_even log' start even ∙ same even ∙ sym (writer_even log start even))

-- names are different for different transactions
pub name_session : (s n : ℕ) → s < 16 → name_of s n % 16 ≡ s
name_session s n low = omega arith

pub name_number : (s n : ℕ) → s < 16 → name_of s n / 16 ≡ n
name_number s n low = omega arith

pub name_entry : (f : ℕ → ℕ → ℕ) (s n : ℕ) → s < 16 → entry f (name_of s n) ≡ f s n
name_entry f s n low = λ i. f (name_session s n low i) (name_number s n low i)

-- ---- stored tails

-- t's version is as it was; its writer's state may have changed from 0
pub record Same (l : Limits) (w w' : Words) (t : ℕ) : Type 0 where
  pub stays : 0 < w'.cells t 0
  pub words : (p : ℕ) → 0 < p → w'.cells t p ≡ w.cells t p
  pub by : writer_at w' t ≡ writer_at w t
  pub key : w'.keys (record_in l w.cells t) ≡ w.keys (record_in l w.cells t)
  pub begin : entry w'.begins (writer_at w t) ≡ entry w.begins (writer_at w t)
  pub state : (entry w'.states (writer_at w t) ≡ entry w.states (writer_at w t)) ⊎ (entry w.states (writer_at w t) ≡ 0)

module _ (l : Limits) (w w' : Words) where
  -- every kind but an install leaves a chain
  pub line_step : (r : ℕ) → w'.heads r / 2 ≡ w.heads r / 2 → ((t : ℕ) → Has t (line l w r) → Same l w w' t) → LineOf l w r → (line l w' r ≡ line l w r) × LineOf l w' r
  line_step r head same k = let ys : List ℕ = line l w r in let head' : head_of l r (w'.heads r) ≡ head_of l r (w.heads r) = ap (tail_at l.tails (range_of r)) head in
      let links : Links (back_in l w'.cells) (head_of l r (w'.heads r)) ys = subst (λ (h : ℕ). Links (back_in l w'.cells) h ys) (sym head') (links_same (back_in l w.cells) (back_in l w'.cells) (head_of l r (w.heads r)) ys (λ t i. back_same l w.cells w'.cells t (same t i).words) k.links) in
      let is : line l w' r ≡ ys = links_chain (back_in l w'.cells) (head_of l r (w'.heads r)) (head_of l r (w'.heads r)) ys (omega arith) links in (
        is,
        subst (λ (zs : List ℕ). Line r (head_of l r (w'.heads r)) w'.log w'.begins w'.states (starts w') (back_in l w'.cells) (record_in l w'.cells) (act_in l w'.cells) zs) (sym is) record {
          links = links;
          stored = λ t i. (same t i).stays;
          here = λ t i. record_same l w.cells w'.cells t (same t i).words ∙ k.here t i;
          ordered = ordered_step (entry w.states) (entry w.begins) (writer_at w) (entry w'.states) (entry w'.begins) (writer_at w') ys (λ t i. let q = same t i in (q.by, q.begin, q.state)) k.ordered;
          fits = fitting_step FitsAfter (entry w.states) (entry w.begins) (writer_at w) (entry w'.states) (writer_at w') (act_in l w.cells) (act_in l w'.cells) ys (λ t i. let q = same t i in (q.by, act_same l w.cells w'.cells t q.words, q.state)) k.ordered k.fits;
        },
      )

  pub stored_step : (known known' : ℕ → Known) (t : ℕ) → Same l w w' t → w.clock ≤ w'.clock → ((q : ℕ) → w.counts q ≤ w'.counts q) → ((s : ℕ) → s < l.sessions → (known s).number ≤ (known' s).number)
      → (w'.cells t 0 % 2 ≡ 0 → (0 < w'.cells t 0 / 2) × (w'.cells t 0 / 2 ≤ w'.clock)) → (record_in l w.cells t < record_count l → Has t (line l w (record_in l w.cells t)) ⊎ InHand l known t → Has t (line l w' (record_in l w.cells t)) ⊎ InHand l known' t)
      → (is_placed l w.index (record_in l w.cells t) ≡ true → is_placed l w'.index (record_in l w.cells t) ≡ true)
      → StoredOf l w known t → StoredOf l w' known' t
  stored_step known known' t same later more numbers stamped place index k = let own : ℕ = writer_at w t in let r : ℕ = record_in l w.cells t in
      subst (λ (x : ℕ). Stored l w'.clock w'.counts known' t (w'.cells t 0) x (record_in l w'.cells t) (is_placed l w'.index (record_in l w'.cells t)) (line l w' (record_in l w'.cells t))) (sym same.by)
      (subst (λ (q : ℕ). Stored l w'.clock w'.counts known' t (w'.cells t 0) own q (is_placed l w'.index q) (line l w' q)) (sym (record_same l w.cells w'.cells t same.words)) record {
        begun = (k.begun.0, k.begun.1, let h = k.begun.2 in let q = numbers (own % 16) k.begun.0 in omega arith);
        stamped = stamped;
        few = k.few;
        drawn = let h = k.drawn.2 in let m = more (range_of r) in (k.drawn.0, k.drawn.1, omega arith);
        low = k.low;
        index = index k.index;
        place = place k.low k.place;
      })

  -- a session without a latch
  pub hand_none : (s : ℕ) (v : Known) → v.hold.latch ≡ 0 → v.hold.tail ≡ 0 → v.hold.is_whole ≡ false → HandOf l w' s v
  hand_none s v e f g = record {
    opened = λ p. absurd (omega arith);
    writes = λ p. absurd (omega arith);
    away = λ p. absurd (omega arith);
    low = omega arith;
    index = λ p. absurd (omega arith);
    latched = λ p. absurd (omega arith);
    holds = λ p. absurd (omega arith);
    above = λ p. absurd (omega arith);
    counted = λ p. absurd (omega arith);
    few = omega arith;
    blank = λ _ p. absurd (omega arith);
    some = λ p. absurd (true≢false (sym p ∙ g));
    start = λ p. absurd (true≢false (sym p ∙ g));
    here = λ p. absurd (true≢false (sym p ∙ g));
    judged = λ p. absurd (omega arith);
  }

  pub hand_idle : (s : ℕ) (v : Known) → HandOf l w s v → v.hold.latch ≡ 0 → (v.hold.tail ≡ 0) × (v.hold.is_whole ≡ false)
  hand_idle s v k e = let none : v.hold.tail ≡ 0 = zero_of v.hold.latch v.hold.tail k.holds e in (none, not_true v.hold.is_whole (λ p. let q = k.some p in omega arith))
    where
      zero_of : (a b : ℕ) → (0 < b → 0 < a) → a ≡ 0 → b ≡ 0
      zero_of a b h e = grind arith

      not_true : (b : Bool) → ¬ (b ≡ true) → b ≡ false
      not_true true h = absurd (h refl)
      not_true false h = refl

  -- what is in hand stays so while s knows the same of it
  pub hand_step : (s : ℕ) (v v' : Known) → v'.hold ≡ v.hold → v'.number ≡ v.number → v'.is_open ≡ v.is_open → v'.read_only ≡ v.read_only → (rank v.turn ≡ 0 → rank v'.turn ≡ 0)
      → ((r : ℕ) → is_placed l w.index r ≡ true → is_placed l w'.index r ≡ true) → ((q : ℕ) → w.counts q ≤ w'.counts q) → (0 < v.hold.latch → w'.heads (v.hold.latch - 1) ≡ w.heads (v.hold.latch - 1)) → (0 < v.hold.latch → line l w' (v.hold.latch - 1) ≡ line l w (v.hold.latch - 1))
      → ((t : ℕ) → 0 < v.hold.latch → Has t (line l w (v.hold.latch - 1)) → Same l w w' t)
      → (0 < v.hold.tail → (w'.cells v.hold.tail 0 ≡ w.cells v.hold.tail 0) × (record_in l w'.cells v.hold.tail ≡ record_in l w.cells v.hold.tail) × (entry w'.begins (name_of s v.number) ≡ entry w.begins (name_of s v.number))) → HandOf l w s v → HandOf l w' s v'
  hand_step s v v' e1 e2 e3 e4 stage placed more head chain same tail k = dite (ℕ_discrete v.hold.latch 0)
      (λ e. let q = hand_idle s v k e in hand_none s v' (ap (λ (h : Hold). h.latch) e1 ∙ e) (ap (λ (h : Hold). h.tail) e1 ∙ q.0) (ap (λ (h : Hold). h.is_whole) e1 ∙ q.1))
      (λ ne. let held : 0 < v.hold.latch = omega arith in
      let T : Hold → ℕ → Bool → Bool → Type 0 = λ h number is_open read_only. Hand l (is_placed l w'.index (h.latch - 1)) w'.counts (w'.heads (h.latch - 1)) w'.log w'.begins w'.states (starts w') (record_in l w'.cells) (line l w' (h.latch - 1)) (name_of s number) h is_open read_only (rank v'.turn) in
      let base : T v.hold v.number v.is_open v.read_only = record {
        opened = k.opened;
        writes = k.writes;
        away = λ p. stage (k.away p);
        low = k.low;
        index = λ p. placed (v.hold.latch - 1) (k.index p);
        latched = λ p. head p ∙ k.latched p;
        holds = k.holds;
        above = k.above;
        counted = λ p. let h = (k.counted p).2 in let m = more (range_of (v.hold.latch - 1)) in ((k.counted p).0, (k.counted p).1, omega arith);
        few = k.few;
        blank = λ p q. (tail q).0 ∙ k.blank p q;
        some = k.some;
        start = λ p. (tail (k.some p)).0 ∙ k.start p;
        here = λ p. (tail (k.some p)).1 ∙ k.here p;
        judged = λ p. subst (λ (zs : List ℕ). Below (entry w'.states) (entry w'.begins) (writer_at w') (name_of s v.number) zs) (sym (chain held))
            (below_step (entry w.states) (entry w.begins) (writer_at w) (entry w'.states) (entry w'.begins) (writer_at w') (name_of s v.number) (line l w (v.hold.latch - 1)) (tail p).2 (λ t i. let q = same t held i in (q.by, q.state)) (k.judged p));
      } in
      subst (λ (x : Hold). T x v'.number v'.is_open v'.read_only) (sym e1) (subst (λ (x : ℕ). T v.hold x v'.is_open v'.read_only) (sym e2) (subst (λ (x : Bool). T v.hold v.number x v'.read_only) (sym e3) (subst (λ (x : Bool). T v.hold v.number v.is_open x) (sym e4) base))))

-- no two sessions have one of these in hand
abbrev pub Distinct : ℕ → (ℕ → ℕ) → Type 0
Distinct n g = (s j : ℕ) → s < n → j < n → 0 < g s → g s ≡ g j → s ≡ j

pub distinct_put : (n : ℕ) (known : ℕ → Known) (s : ℕ) (v' : Known) (f : Known → ℕ) → Distinct n (λ j. f (known j)) → ((j : ℕ) → j ≢ s → j < n → 0 < f v' → f v' ≢ f (known j)) → Distinct n (λ j. f (put known s v' j))
distinct_put n known s v' f distinct away a b ha hb pos e = dite (ℕ_discrete a s)
    (λ p. dite (ℕ_discrete b s) (λ q. p ∙ sym q) (λ q. absurd (away b q hb (subst (λ (x : ℕ). 0 < x) (here a p) pos) (sym (here a p) ∙ e ∙ there b q))))
    (λ p. dite (ℕ_discrete b s) (λ q. absurd (away a p ha (subst (λ (x : ℕ). 0 < x) (e ∙ here b q) pos) (sym (here b q) ∙ sym e ∙ there a p)))
    (λ q. distinct a b ha hb (subst (λ (x : ℕ). 0 < x) (there a p) pos) (sym (there a p) ∙ e ∙ there b q)))
  where
    here : (i : ℕ) → i ≡ s → f (put known s v' i) ≡ f v'
    here i p = ap f (ap (put known s v') p ∙ put_here known s v')

    there : (i : ℕ) → i ≢ s → f (put known s v' i) ≡ f (known i)
    there i p = ap f (put_else known s v' i p)

pub distinct_same : (n : ℕ) (known : ℕ → Known) (s : ℕ) (v' : Known) (f : Known → ℕ) → s < n → f v' ≡ f (known s) → Distinct n (λ j. f (known j)) → Distinct n (λ j. f (put known s v' j))
distinct_same n known s v' f low e distinct = distinct_put n known s v' f distinct (λ j other h pos same. other (sym (distinct s j low h (subst (λ (x : ℕ). 0 < x) e pos) (sym e ∙ same))))
