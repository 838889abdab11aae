-- The fold of tails.
use Rattle.std.proofs.Common.{◌≡◌, ℕ, ◌+◌, ◌<◌, List, [], ◌∷◌, ◌++◌, Bool, true, false, cond, refl, sym, ap, ◌∙◌, arith, length, take, drop, eqb, eq-eqb, ne_eqb, nat_lt, ◌&&◌, get_or, slice_index_or, slice_set}
use Rattle.std.proofs.Math.Seq.{take-add}
use Rattle.std.proofs.lemmas.List.{take_more, get_or-set_same, get_or-set_other}
use mathlib.Core.Logic.{dite}
use native.Mathlib.Decide.{ℕ_discrete}
use Rattle.lst_pages.specs.Lists.{Every}
use Rattle.lst_pages.specs.declared.tails.PageTail.{PageTail}
use Rattle.lst_pages.specs.declared.entries.Entry.{Entry}
use Rattle.lst_pages.specs.Tails.{touches_column, touches}
use Rattle.lst_pages.specs.Entries.{blank, entry_by, folded}

-- the fold of a list and then another
pub folded-append : (p : PageTail → Bool) (c : ℕ) (e : Entry) (ts us : List PageTail) → folded p c e (ts ++ us) ≡ folded p c (folded p c e ts) us
folded-append p c e [] us = refl
folded-append p c e (t ∷ ts) us = folded-append p c (cond (p t) (entry_by c t) e) ts us

-- one tail more
pub folded-more : (p : PageTail → Bool) (c k : ℕ) (e : Entry) (ts : List PageTail) (t : PageTail) → k < length ts → t ≡ get_or ts k t
    → folded p c e (take (k + 1) ts) ≡ cond (p t) (entry_by c t) (folded p c e (take k ts))
folded-more p c k e ts t low is = ap (folded p c e) (take_more ts k t low ∙ ap (λ (u : PageTail). take k ts ++ u ∷ []) (sym is)) ∙ folded-append p c e (take k ts) (t ∷ [])

swap_and : (a b c : Bool) → (a && (b && c)) ≡ (b && (a && c))
swap_and true b c = refl
swap_and false true c = refl
swap_and false false c = refl

module _ (c k n : ℕ) (e : ℕ → Entry) (es : List Entry) (ts : List PageTail) (t : PageTail) (low : k < length ts) (is : t ≡ get_or ts k t) where
  abbrev pub taken : Bool
  taken = nat_lt 0 t.time && touches_column c t.kind t.mask

  abbrev pub So : List Entry → ℕ → Type 0
  So xs j = (i : ℕ) → i < n → slice_index_or xs i blank ≡ folded (touches c i) c (e i) (take j ts)

  touches_is : (i : ℕ) → touches c i t ≡ (eqb t.slot i && taken)
  touches_is i = swap_and (nat_lt 0 t.time) (eqb t.slot i) (touches_column c t.kind t.mask)

  -- a loop over the tails writes each one that it takes into its record's entry
  pub fold_put : length es ≡ n → t.slot < n → taken ≡ true → So es k → So (slice_set es t.slot (entry_by c t)) (k + 1)
  fold_put long slot takes so i short = dite (ℕ_discrete t.slot i)
      (λ same. ap (λ (j : ℕ). slice_index_or (slice_set es t.slot (entry_by c t)) j blank) (sym same) ∙ get_or-set_same es t.slot (entry_by c t) blank (omega arith)
      ∙ sym (folded-more (touches c i) c k (e i) ts t low is ∙ ap (λ (b : Bool). cond b (entry_by c t) (folded (touches c i) c (e i) (take k ts))) (touches_is i ∙ (λ j. eq-eqb t.slot i same j && takes j))))
      (λ other. get_or-set_other es t.slot i (entry_by c t) blank (λ f. other (sym f)) ∙ so i short
      ∙ sym (folded-more (touches c i) c k (e i) ts t low is ∙ ap (λ (b : Bool). cond b (entry_by c t) (folded (touches c i) c (e i) (take k ts))) (touches_is i ∙ ap (λ (b : Bool). b && taken) (ne_eqb t.slot i other))))

  pub fold_skip : taken ≡ false → So es k → So es (k + 1)
  fold_skip skips so i short = so i short
      ∙ sym (folded-more (touches c i) c k (e i) ts t low is ∙ ap (λ (b : Bool). cond b (entry_by c t) (folded (touches c i) c (e i) (take k ts))) (touches_is i ∙ ap (λ (b : Bool). eqb t.slot i && b) skips ∙ and_false (eqb t.slot i)))
    where
      and_false : (b : Bool) → (b && false) ≡ false
      and_false true = refl
      and_false false = refl

-- the entries that a page without tails has
pub folded-nothing : (p : PageTail → Bool) (c : ℕ) (e : Entry) (n : ℕ) → n ≡ 0 → (ts : List PageTail) → folded p c e (take n ts) ≡ e
folded-nothing p c e n none ts = ap (λ (k : ℕ). folded p c e (take k ts)) none

-- the choice matters only on the list
pub folded-none : (p : PageTail → Bool) (c : ℕ) (e : Entry) (ts : List PageTail) → Every (λ t. p t ≡ false) ts → folded p c e ts ≡ e
folded-none p c e [] none = refl
folded-none p c e (t ∷ ts) none = (λ i. folded p c (cond (none.0 i) (entry_by c t) e) ts) ∙ folded-none p c e ts none.1

-- the fold up to n + k is the fold of the next k from the fold up to n on
pub folded-take : (p : PageTail → Bool) (c n k : ℕ) (e : Entry) (ts : List PageTail) → folded p c e (take (n + k) ts) ≡ folded p c (folded p c e (take n ts)) (take k (drop n ts))
folded-take p c n k e ts = ap (folded p c e) (take-add n k ts) ∙ folded-append p c e (take n ts) (take k (drop n ts))
