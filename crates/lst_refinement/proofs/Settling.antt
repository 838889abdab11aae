-- The settled writes of a range are its settled tails.
use Rattle.std.proofs.Common.{◌≡◌, ℕ, zero, suc, ◌+◌, ◌*◌, ◌/◌, ◌%◌, ◌<◌, ◌≤◌, Bool, true, false, cond, nat_lt, nat_le, eqb, ◌&&◌, ◌||◌, List, [], ◌∷◌, ◌++◌, length, refl, ap, ◌∙◌, sym, arith, true≢false, ne_eqb, lt-ltb, ltb-true, le-leb}
use mathlib.Core.Logic.{dite}
use native.Mathlib.Decide.{ℕ_discrete, dec_lt}
use Rattle.std.specs.Prelude.{Option, is_some}
use Rattle.std.specs.List.{prefix_len}
use Rattle.std.proofs.lemmas.List.Folds.{length-prefix_len}
use Rattle.lst_layout.specs.declared.limits.Limits.{Limits}
use Rattle.lst_core_state.proofs.Decoded.{both_say}
use Rattle.lst_machine.specs.State.{Accepted}
use Rattle.lst_machine.specs.Writes.{time_of}
use Rattle.lst_machine.specs.Merges as machine
use Rattle.lst_machine.specs.Merges.{settled_count}
use Rattle.lst_core_state.specs.State.{Words, Core, writer_at, state_at}
use Rattle.lst_pages.specs.Settled.{is_settled, settled_tails}
use Rattle.lst_pages.specs.StateLaws.{AreNumbered}
use Rattle.lst_pages.proofs.Numbering.{settled_are_numbered}
use Rattle.lst_refinement.specs.Crews.{IsCrew}
use Rattle.lst_refinement.specs.Telling.{accepted_at, accepted_first, told}
use Rattle.lst_refinement.specs.Laws.{SettledAreTold}
use Rattle.lst_refinement.proofs.Counts.{length-accepted}
use Rattle.lst_refinement.proofs.Owns.{drawn_stored, undrawn_blank}
use Rattle.lst_refinement.proofs.Timed.{state_low, untimed, timed}

-- ---- how many items of a list pass a test from the front on

module _ {A : Type 0} (test : A → Bool) where
  prefix_stops : (xs ys : List A) → prefix_len test xs < length xs → prefix_len test (xs ++ ys) ≡ prefix_len test xs
  prefix_stops [] ys h = absurd (omega arith)
  prefix_stops (x ∷ xs) ys h = at_test (prefix_stops xs ys) (test x) h
    where
      at_test : (prefix_len test xs < length xs → prefix_len test (xs ++ ys) ≡ prefix_len test xs) → (b : Bool) → cond b (1 + prefix_len test xs) 0 < suc (length xs) → cond b (1 + prefix_len test (xs ++ ys)) 0 ≡ cond b (1 + prefix_len test xs) 0
      at_test rest true g = ap (λ (n : ℕ). 1 + n) (rest (omega arith))
      at_test rest false g = refl

  prefix_all : (xs ys : List A) → prefix_len test xs ≡ length xs → prefix_len test (xs ++ ys) ≡ length xs + prefix_len test ys
  prefix_all [] ys h = omega arith
  prefix_all (x ∷ xs) ys h = at_test (prefix_all xs ys) (test x) h
    where
      at_test : (prefix_len test xs ≡ length xs → prefix_len test (xs ++ ys) ≡ length xs + prefix_len test ys) → (b : Bool) → cond b (1 + prefix_len test xs) 0 ≡ suc (length xs) → cond b (1 + prefix_len test (xs ++ ys)) 0 ≡ suc (length xs) + prefix_len test ys
      at_test rest true g = let e = rest (omega arith) in omega arith
      at_test rest false g = absurd (omega arith)

-- of the first n writes of a range, k pass the test from the front on
record Passing (l : Limits) (w : Words) (range : ℕ) (test : Accepted → Bool) (n k : ℕ) : Type 0 where
  few : k ≤ n
  pass : (i : ℕ) → 0 < i → i ≤ k → test (accepted_at l w (range * l.tails + i)) ≡ true
  next : k < n → test (accepted_at l w (range * l.tails + suc k)) ≡ false

module _ (l : Limits) (w : Words) (range : ℕ) (test : Accepted → Bool) where
  abbrev at : ℕ → Accepted
  at i = accepted_at l w (range * l.tails + i)

  abbrev passed : ℕ → ℕ
  passed n = prefix_len test (accepted_first l w range n)

  goes_on : (n : ℕ) → passed n ≡ n → (b : Bool) → test (at (suc n)) ≡ b → passed (suc n) ≡ n + cond b 1 0
  goes_on n all b is = prefix_all test (accepted_first l w range n) (at (suc n) ∷ []) (all ∙ sym (length-accepted l w range n))
      ∙ (λ i. length-accepted l w range n i + cond (is i) 1 0)

  -- one more write
  module _ (n : ℕ) (before : Passing l w range test n (passed n)) where
    few_before : passed n ≤ n
    few_before = before.few

    stays : passed (suc n) ≡ passed n → passed n < n → Passing l w range test (suc n) (passed (suc n))
    stays same low = record {
      few = omega arith;
      pass = λ i some h. before.pass i some (omega arith);
      next = λ h. ap (λ (k : ℕ). test (at (suc k))) same ∙ before.next low;
    }

    at_test : passed n ≡ n → (b : Bool) → test (at (suc n)) ≡ b → Passing l w range test (suc n) (passed (suc n))
    at_test all true is = let e : passed (suc n) ≡ n + 1 = goes_on n all true is in record {
      few = omega arith;
      pass = λ i some h. dite (ℕ_discrete i (suc n)) (λ f. ap (λ (k : ℕ). test (at k)) f ∙ is) (λ ne. before.pass i some (omega arith));
      next = λ h. absurd (omega arith);
    }
    at_test all false is = let e : passed (suc n) ≡ n + 0 = goes_on n all false is in record {
      few = omega arith;
      pass = λ i some h. before.pass i some (omega arith);
      next = λ h. ap (λ (k : ℕ). test (at (suc k))) (let f : passed (suc n) ≡ n = omega arith in f) ∙ is;
    }

    passing_next : Passing l w range test (suc n) (passed (suc n))
    passing_next = let few = few_before in dite (ℕ_discrete (passed n) n)
        (λ all. at_test all (test (at (suc n))) refl)
        (λ ne. stays (prefix_stops test (accepted_first l w range n) (at (suc n) ∷ []) (let e = length-accepted l w range n in omega arith)) (omega arith))

  passing : (n : ℕ) → Passing l w range test n (passed n)
  passing zero = record { few = omega arith; pass = λ i some low. absurd (omega arith); next = λ h. absurd (omega arith) }
  passing (suc n) = passing_next n (passing n)

module _ (c : Core) (crew : IsCrew c) (range : ℕ) (low : range < c.limits.ranges) where
  abbrev l : Limits
  l = c.limits

  abbrev w : Words
  w = c.words

  -- the machine's word for a tail, and the words'
  module _ (t : ℕ) (some : 0 < w.cells t 0) where
    abbrev at_state : ℕ → Option ℕ → Bool
    at_state state time = eqb state 1 || is_some time

    abbrev in_words : ℕ → Bool
    in_words state = nat_lt 0 (w.cells t 0) && (nat_lt 0 state && nat_le state (w.clock + 1))

    abbrev time : Option ℕ
    time = time_of (told c).history (writer_at w t % 16) (writer_at w t / 16)

    same_here : (state : ℕ) → state_at w t ≡ state → machine.is_settled (told c) (accepted_at l w t) ≡ is_settled w t
    same_here zero is = (λ i. at_state (is i) (untimed c crew t some is i)) ∙ sym ((λ i. in_words (is i)) ∙ (λ i. lt-ltb 0 (w.cells t 0) some i && false))
    same_here (suc zero) is = (λ i. at_state (is i) time) ∙ sym ((λ i. in_words (is i)) ∙ (λ i. lt-ltb 0 (w.cells t 0) some i && (true && le-leb 1 (w.clock + 1) (omega arith) i)))
    same_here (suc (suc k)) is = (λ i. at_state (is i) time)
        ∙ (λ i. ne_eqb (suc (suc k)) 1 (λ e. omega arith) i || is_some (timed c crew t some (suc k) (omega arith) (let e : state_at w t ≡ suc k + 1 = omega arith in e) i))
        ∙ sym ((λ i. in_words (is i)) ∙ (λ i. lt-ltb 0 (w.cells t 0) some i && (lt-ltb 0 (suc (suc k)) (omega arith) i && le-leb (suc (suc k)) (w.clock + 1) (let high = state_low c crew t some in omega arith) i)))

    pub same_settled : machine.is_settled (told c) (accepted_at l w t) ≡ is_settled w t
    same_settled = same_here (state_at w t) refl

  abbrev count : ℕ
  count = prefix_len (machine.is_settled (told c)) ((told c).accepted range)

  abbrev settled : ℕ
  settled = length (settled_tails l w range)

  numbered : AreNumbered l w range
  numbered = settled_are_numbered l w range

  passes : Passing l w range (machine.is_settled (told c)) (w.counts range) count
  passes = passing l w range (machine.is_settled (told c)) (w.counts range)

  stored_at : (i : ℕ) → 0 < i → i ≤ w.counts range → 0 < w.cells (range * l.tails + i) 0
  stored_at i some few = let room = crew.tails range low in drawn_stored c crew range (range * l.tails + i) low (omega arith, omega arith, omega arith)

  -- each settled write is a settled tail
  count_low : count ≤ settled
  count_low = let few = passes.few in let room = crew.tails range low in numbered.more 0 count (omega arith) (omega arith)
      (λ i some h. sym (same_settled (range * l.tails + i) (stored_at i some (omega arith))) ∙ passes.pass i some h)

  -- and the write of the tail after them, if there is one, isn't settled
  settled_low : settled ≤ count
  settled_low = dite (dec_lt count settled)
      (λ more. let few = numbered.few in let is = numbered.each (suc count) (omega arith) (omega arith) in dite (dec_lt count (w.counts range))
      (λ drawn. absurd (true≢false (sym (same_settled (range * l.tails + suc count) (stored_at (suc count) (omega arith) (omega arith)) ∙ is) ∙ passes.next drawn)))
      (λ last. let full = passes.few in let stored = ltb-true 0 (w.cells (range * l.tails + suc count) 0) (both_say (nat_lt 0 (w.cells (range * l.tails + suc count) 0)) (nat_lt 0 (state_at w (range * l.tails + suc count)) && nat_le (state_at w (range * l.tails + suc count)) (w.clock + 1)) is).0 in
      let blank = undrawn_blank c crew range (range * l.tails + suc count) (grind (arith, last, full)) (omega arith) in absurd (omega arith)))
      (λ no. grind (arith, no))

  pub settled_told : settled_count (told c) range ≡ settled
  settled_told = length-prefix_len (machine.is_settled (told c)) ((told c).accepted range) ∙ (let a = count_low in let b = settled_low in omega arith)

pub settled_are_told : SettledAreTold
settled_are_told c crew range low = settled_told c crew range low
