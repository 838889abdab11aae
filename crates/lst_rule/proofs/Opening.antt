-- The rule holds of a store as it is opened.
use Rattle.std.proofs.Common.{◌≡◌, ℕ, zero, suc, ◌+◌, ◌<◌, ◌≤◌, List, [], ◌∷◌, true, false, length, get_or, replicate, refl, sym, subst, ap, ◌∙◌, arith, true≢false, inl}
use mathlib.Core.Logic.{dite}
use mathlib.Core.Option.{some, some-injective, some-ne-none}
use native.Mathlib.Decide.{ℕ_discrete, dec_lt}
use lib.ListN.{get_elem?, get_or-replicate, length-replicate}
use Rattle.std.proofs.lemmas.List.{get_or_past}
use Rattle.atomic_table.specs.Table.{opening}
use Rattle.lst_layout.specs.declared.limits.Limits.{Limits}
use Rattle.lst_layout.specs.Limits.{IsValid}
use Rattle.lst_layout.specs.Words.{shown, opening_at, IsOpening}
use Rattle.lst_layout.proofs.Openings.{opening_is_shown}
use Rattle.lst_core_state.specs.Cells.{listed}
use Rattle.lst_core_state.specs.State.{Core, newcomer, history_of}
use Rattle.lst_core_state.specs.Runs as runs
use Rattle.lst_core_state.specs.Step.{known_of}
use Rattle.lst_core_state.specs.Sound.{Sound}
use Rattle.lst_core_state.proofs.Starts.{opening_sound}
use Rattle.lst_core_state.specs.State.{state_over}
use Rattle.lst_pages.specs.Known.{PagesSound}
use Rattle.lst_pages.proofs.Beginning.{opening_is_sound}
use Rattle.lst_rule.specs.declared.view.View.{View}
use Rattle.lst_rule.specs.Rule.{crew, first_words, hosts, Fits, Ruled}
use Rattle.lst_rule.specs.Learned.{Possible}
use Rattle.lst_rule.proofs.Afters.{known_own, known_merger}
use Rattle.lst_rule.proofs.Allowing.{allowed}

-- a list is told by its words
pub listed_is : (f : ℕ → ℕ) (k : ℕ) (ws : List ℕ) → ((a : ℕ) → a < length ws → get_or ws a 0 ≡ f (k + a)) → ws ≡ listed f k (length ws)
listed_is f k [] h = refl
listed_is f k (w ∷ ws) h = let first : w ≡ f k = h 0 (omega arith) ∙ ap f (omega arith) in let rest = listed_is f (suc k) ws (λ a low. h (suc a) (omega arith) ∙ ap f (omega arith)) in λ i. first i ∷ rest i

pub first_words_are : (l : Limits) (ws : List ℕ) → IsOpening l ws → ws ≡ first_words l
first_words_are l ws is = listed_is (opening_at l) 0 ws (λ a low. is.each a (let e = is.sized in omega arith) ∙ ap (opening_at l) (omega arith)) ∙ ap (listed (opening_at l) 0) is.sized

pub same_at : {A : Type 0} (n i : ℕ) (d : A) → get_or (replicate n d) i d ≡ d
same_at n i d = dite (dec_lt i n) (λ h. get_or-replicate n i d d h) (λ h. get_or_past (replicate n d) i d (let e = length-replicate n d in grind (arith, e, h)))

module _ (l : Limits) (sized : IsValid l) (ws : List ℕ) (is : IsOpening l ws) where
  abbrev c : Core
  c = state_over l ws (λ _. newcomer l) (newcomer l)

  same : c ≡ runs.opening l
  same = λ i. record { limits = l; words = opening_is_shown l ws is i; known = λ _. newcomer l; merger = newcomer l }

  pub opening_state : Sound c
  opening_state = subst Sound (sym same) (opening_sound l sized)

  pub opening_pages : PagesSound c
  opening_pages = subst PagesSound (sym same) (opening_is_sound l sized)

  hosts_low : (s : ℕ) → hosts (crew l) s ≡ true → s ≤ l.sessions
  hosts_low s e = dite (dec_lt s (l.sessions + 1)) (λ h. omega arith) (λ h. absurd (true≢false (sym e ∙ get_or_past (replicate (l.sessions + 1) true) s false (let e = length-replicate (l.sessions + 1) true in grind (arith, e, h)))))

  nobody : (s : ℕ) → known_of c s ≡ newcomer l
  nobody s = dite (ℕ_discrete s l.sessions) (λ is. known_merger c s is) (λ ne. known_own c s ne)

  crew_fits : Fits ws c (λ _. 0) 0 (crew l)
  crew_fits = record {
    limits = refl;
    sized = length-replicate (l.sessions + 1) (newcomer l);
    low = hosts_low;
    owns = λ s h. refl;
    knew = λ s h. same_at (l.sessions + 1) s (newcomer l) ∙ sym (nobody s);
    told = (history_of l (shown l ws), refl);
    told_facts = λ f h. absurd (let low : h.0 < 0 = h.1 in omega arith);
    told_keys = λ k. inl refl;
    whole = λ _. sym (first_words_are l ws is);
    all = λ _ s h. get_or-replicate (l.sessions + 1) s true false (omega arith);
  }

  pub opens : Ruled l (opening {S = Unit {0}} ws [] (crew l))
  opens = record {
    known = λ _. newcomer l;
    merger = newcomer l;
    owner = λ _. 0;
    wide = is.sized;
    sound = opening_state;
    pages = opening_pages;
    each = one;
  }
    where
      one : (j : ℕ) (v : View) → get_elem? (crew l ∷ []) j ≡ some v → Fits ws c (λ _. 0) j v
      one zero v e = subst (Fits ws c (λ _. 0) 0) (some-injective (crew l) v e) crew_fits
      one (suc j) v e = absurd (some-ne-none v (sym e))

  pub crew_possible : Possible (crew l)
  crew_possible = record { words = ws; known = λ _. newcomer l; merger = newcomer l; allowed = allowed ws (λ _. newcomer l) (newcomer l) (λ _. 0) 0 (crew l) is.sized opening_state opening_pages crew_fits }
