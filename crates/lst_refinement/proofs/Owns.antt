-- The accepted writes of a transaction are those that its session knows, and what it sees is what its session sees.
use Rattle.std.proofs.Common.{◌≡◌, ℕ, zero, suc, ◌+◌, ◌-◌, ◌*◌, ◌/◌, ◌%◌, ◌<◌, ◌≤◌, Bool, true, false, cond, List, [], ◌∷◌, ◌++◌, take, refl, sym, subst, ap, ◌∙◌, arith, ⊎_elim, eqb, eq-eqb, eqb-true, lt-ltb, suc-mul}
use Rattle.std.specs.Prelude.{None, ◌==◌, ◌&&◌}
use Rattle.std.proofs.lemmas.List.{take-append-le}
use Rattle.lst_layout.specs.declared.limits.Limits.{Limits}
use Rattle.lst_model.specs.declared.acts.Act.{Act}
use Rattle.lst_model.specs.declared.acts.Write.{Write}
use Rattle.lst_model.specs.Tables.{row_of}
use Rattle.lst_model.specs.Histories.{row_from, joined, acts_on, all_acts_on, snapshot}
use Rattle.lst_model.proofs.Folds.{get_snapshot}
use Rattle.lst_core_state.specs.Lists.{Has}
use Rattle.lst_core_state.specs.Writes.{write, writes_by}
use Rattle.lst_core_state.proofs.Sights.{same_truth}
use Rattle.lst_machine.specs.Writes.{gathered, accepted_below, own_writes}
use Rattle.lst_machine.proofs.Appending.{gathered-append}
use Rattle.lst_core_state.specs.declared.known.Known.{Known}
use Rattle.lst_core_state.specs.declared.known.Hold.{Hold}
use Rattle.lst_core_state.specs.Cells.{record_count}
use Rattle.lst_core_state.specs.State.{Words, Core, writer_at, record_in, act_in, name_of, line, is_by, history_of, sight}
use Rattle.lst_core_state.specs.Sound.{Drawn, InHand}
use Rattle.lst_core_state.proofs.VersionsKept.{one_range}
use Rattle.lst_core_state.proofs.Decoded.{both_say, by_yes, by_blank}
use Rattle.lst_core_state.proofs.Decoded as decoded
use Rattle.lst_refinement.specs.Crews.{IsCrew}
use Rattle.lst_refinement.specs.Telling.{accepted_at, accepted_first, told}
use Rattle.lst_refinement.specs.Laws.{OwnWritesAreTold, SightsAreTold}

-- numbers that aren't taken add nothing
writes_skip : (p : ℕ → Bool) (key : ℕ → ℕ) (act : ℕ → Act) (n d : ℕ) → ((t : ℕ) → n < t → t ≤ n + d → p t ≡ false) → writes_by p key act (n + d) ≡ writes_by p key act n
writes_skip p key act n zero none = ap (writes_by p key act) (let e : n + 0 ≡ n = omega arith in e)
writes_skip p key act n (suc d) none = ap (writes_by p key act) (let e : n + suc d ≡ suc (n + d) = omega arith in e)
    ∙ (ap (λ b. cond b (joined (writes_by p key act (n + d)) (write (key (suc (n + d))) (act (suc (n + d))))) (writes_by p key act (n + d))) (none (suc (n + d)) (omega arith) (omega arith))
    ∙ writes_skip p key act n d (λ t above below. none t above (omega arith)))

module _ (c : Core) (crew : IsCrew c) where
  abbrev l : Limits
  l = c.limits

  abbrev w : Words
  w = c.words

  -- nobody has a tail in hand
  pub no_hand : (t : ℕ) → InHand l c.known t → 0 < t → ⊥
  no_hand t i some = let e : (c.known i.0).hold.tail ≡ 0 = ap (λ (h : Hold). h.tail) (crew.idle i.0 i.1).hold in let f = i.2 in omega arith

  -- a tail that was drawn is stored
  pub drawn_stored : (range t : ℕ) → range < l.ranges → Drawn l w.counts range t → 0 < w.cells t 0
  drawn_stored range t low drawn = ⊎_elim
      (λ (q : (r : ℕ) × (r < record_count l) × Has t (line l w r)). (crew.sound.versions.lines q.0 q.1).stored t q.2)
      (λ (q : (s : ℕ) × (s < l.sessions) × ((c.known s).hold.tail ≡ t)). let e : (c.known q.0).hold.tail ≡ 0 = ap (λ (h : Hold). h.tail) (crew.idle q.0 q.1).hold in let f = q.2 in let some = drawn.0 in absurd (omega arith))
      (crew.sound.listed.tails range t low drawn)

  -- any other of a range is blank
  pub undrawn_blank : (range t : ℕ) → range * l.tails + w.counts range < t → t ≤ range * l.tails + l.tails → w.cells t 0 ≡ 0
  undrawn_blank range t above below = crew.sound.tail_words.undrawn t 0 (λ other low drawn.
      let a = drawn.0 in let b = drawn.1 in let d = drawn.2 in
      let same : other ≡ range = one_range l w c.known crew.sound.sized crew.sound.times crew.sound.each crew.sound.versions other range t a b (omega arith) below in
      let e : other * l.tails + w.counts other ≡ range * l.tails + w.counts range = ap (λ (x : ℕ). x * l.tails + w.counts x) same in absurd (omega arith))

  module _ (s n : ℕ) (few : s < 16) where
    abbrev x : ℕ
    x = name_of s n

    abbrev taken : ℕ → Bool
    taken = is_by w.log w.cells x

    abbrev key : ℕ → ℕ
    key t = w.keys (record_in l w.cells t)

    abbrev upto : ℕ → List Write
    upto = writes_by taken key (act_in l w.cells)

    -- the machine's name of a stored tail's transaction
    same_name : (t : ℕ) → 0 < w.cells t 0 → (writer_at w t % 16 == s && writer_at w t / 16 == n) ≡ taken t
    same_name t some = same_truth (writer_at w t % 16 == s && writer_at w t / 16 == n) (eqb (writer_at w t) x)
        (λ e. let q = both_say (writer_at w t % 16 == s) (writer_at w t / 16 == n) e in let a : writer_at w t % 16 ≡ s = eqb-true (writer_at w t % 16) s q.0 in let b : writer_at w t / 16 ≡ n = eqb-true (writer_at w t / 16) n q.1 in eq-eqb (writer_at w t) x (omega arith))
        (λ e. let f : writer_at w t ≡ 16 * n + s = eqb-true (writer_at w t) x e in (λ i. eq-eqb (writer_at w t % 16) s (let g : writer_at w t % 16 ≡ s = omega arith in g) i && eq-eqb (writer_at w t / 16) n (let g : writer_at w t / 16 ≡ n = omega arith in g) i))
        ∙ sym (by_yes w.log w.cells x t some)

    one_more : (t m : ℕ) → t ≡ suc m → 0 < w.cells t 0 → gathered s n (upto m) (accepted_at l w t ∷ []) ≡ upto t
    one_more t m e some = ap (λ b. cond b (joined (upto m) (write (key t) (act_in l w.cells t))) (upto m)) (same_name t some)
        ∙ subst (λ (u : ℕ). cond (taken u) (joined (upto m) (write (key u) (act_in l w.cells u))) (upto m) ≡ upto u) (sym e) refl

    -- of the first k of a range
    first_gathered : (range k : ℕ) → range < l.ranges → k ≤ w.counts range → gathered s n (upto (range * l.tails)) (accepted_first l w range k) ≡ upto (range * l.tails + k)
    first_gathered range zero low most = ap upto (let e : range * l.tails ≡ range * l.tails + 0 = omega arith in e)
    first_gathered range (suc k) low most = let room = crew.tails range low in
        gathered-append s n (upto (range * l.tails)) (accepted_first l w range k) (accepted_at l w (range * l.tails + suc k) ∷ [])
        ∙ (ap (λ ws. gathered s n ws (accepted_at l w (range * l.tails + suc k) ∷ [])) (first_gathered range k low (omega arith))
        ∙ one_more (range * l.tails + suc k) (range * l.tails + k) (omega arith) (drawn_stored range (range * l.tails + suc k) low (omega arith, omega arith, omega arith)))

    -- of a whole range
    range_gathered : (range : ℕ) → range < l.ranges → gathered s n (upto (range * l.tails)) (accepted_first l w range (w.counts range)) ≡ upto (suc range * l.tails)
    range_gathered range low = let room = crew.tails range low in first_gathered range (w.counts range) low (omega arith)
        ∙ (sym (writes_skip taken key (act_in l w.cells) (range * l.tails + w.counts range) (l.tails - w.counts range) (λ t above below. by_blank w.log w.cells x t (undrawn_blank range t above (omega arith))))
        ∙ ap upto (let e : suc range * l.tails ≡ range * l.tails + l.tails = suc-mul range l.tails in let f : range * l.tails + w.counts range + (l.tails - w.counts range) ≡ suc range * l.tails = omega arith in f))

    -- of the ranges below a number
    below_gathered : (range : ℕ) → range ≤ l.ranges → gathered s n [] (accepted_below (λ r. accepted_first l w r (w.counts r)) range) ≡ upto (range * l.tails)
    below_gathered zero low = ap upto (let e : 0 ≡ 0 * l.tails = omega arith in e)
    below_gathered (suc range) low = gathered-append s n [] (accepted_below (λ r. accepted_first l w r (w.counts r)) range) (accepted_first l w range (w.counts range))
        ∙ (ap (λ ws. gathered s n ws (accepted_first l w range (w.counts range))) (below_gathered range (omega arith))
        ∙ range_gathered range (omega arith))

  pub own_is_told : (s : ℕ) → s < l.sessions → (c.known s).is_open ≡ true → own_writes l (told c) s ≡ (c.known s).own
  own_is_told s low is_on = let few = crew.sound.sized.sessions.1 in
      ap (λ b. gathered s (cond b (c.known s).number 0) [] (accepted_below (λ r. accepted_first l w r (w.counts r)) l.ranges)) (lt-ltb s l.sessions low)
      ∙ (below_gathered s (c.known s).number (omega arith) l.ranges (omega arith)
      ∙ sym (decoded.own_writes l w c.known crew.sound.sized crew.sound.times crew.sound.each crew.sound.versions s low is_on (ap (λ (h : Hold). h.latch) (crew.idle s low).hold) (crew.sound.owned s low)))

  pub sight_is_told : (s key : ℕ) → s < l.sessions → (c.known s).is_open ≡ true → row_of (snapshot (history_of l w) (c.known s).begin (own_writes l (told c) s)) key ≡ row_from None (sight (c.known s) key)
  sight_is_told s key low is_on = let v : Known = c.known s in let view = crew.sound.views s low in
      get_snapshot (history_of l w) v.begin (own_writes l (told c) s) key
      ∙ (λ i. row_from None (all_acts_on key ((ap (take v.begin) view.prefix.1 ∙ take-append-le v.begin v.seen view.prefix.0 (view.begun is_on)) i) ++ acts_on key (own_is_told s low is_on i)))

pub own_writes_are_told : OwnWritesAreTold
own_writes_are_told c crew = own_is_told c crew

pub sights_are_told : SightsAreTold
sights_are_told c crew = sight_is_told c crew
