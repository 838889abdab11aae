-- The copy of a chain, and how it is walked.
use Rattle.std.proofs.Common.{◌≡◌, ℕ, zero, suc, ◌+◌, ◌*◌, ◌/◌, ◌%◌, ◌<◌, ◌≤◌, List, [], ◌∷◌, length, Contains, refl, sym, subst, ap, ◌∙◌, arith, inl, inr}
use Rattle.std.specs.Prelude.{slice_index}
use Rattle.std.proofs.lemmas.List.Elements.{Contains-append_right}
use mathlib.Core.Logic.{dite}
use native.Mathlib.Decide.{ℕ_discrete}
use Rattle.lst_layout.specs.declared.limits.Limits.{Limits}
use Rattle.lst_core_state.specs.Lists.{Has, Links}
use Rattle.lst_core_state.proofs.Lists.{links_positive}
use Rattle.lst_core_state.specs.declared.facts.Fact.{Fact}
use Rattle.lst_core_state.specs.declared.facts.Fact.TheVariants.{ChainEnds}
use Rattle.lst_core_state.specs.Cells.{record_count, range_of, tail_at, listed, IsColumn}
use Rattle.lst_core_state.specs.Facts.{cell_fact, cell_facts, chain_facts}
use Rattle.lst_core_state.specs.State.{Words, Core, writer_at, line, back_in, head_of, record_in}
use Rattle.lst_core_state.specs.Sound.{Sound, StoredOf}
use Rattle.lst_core_state.proofs.CellsKept.{tail_at-some, tail_at-none, tail_range-is}
use Rattle.lst_rule.specs.Copies.{Version, fact_of, tails_of, AreKnown, IsVersionOf, AreVersionsOf, Leads, IsChainFrom, IsCopy, Includes}
use Rattle.lst_rule.specs.Laws.{ChainsAreWalked, CopiesStay}

-- ---- lists of words

pub length-listed : (f : ℕ → ℕ) (p n : ℕ) → length (listed f p n) ≡ n
length-listed f p zero = refl
length-listed f p (suc n) = let e = length-listed f (suc p) n in omega arith

pub listed_at : (f : ℕ → ℕ) (p n i : ℕ) → i < n → slice_index (listed f p n) i ≡ f (p + i)
listed_at f p zero i low = absurd (omega arith)
listed_at f p (suc n) zero low = ap f (omega arith)
listed_at f p (suc n) (suc i) low = listed_at f (suc p) n i (omega arith) ∙ ap f (omega arith)

-- ---- a walk along a copy

pub chains_are_walked : ChainsAreWalked
chains_are_walked l facts rec n [] chain = record { none = λ e. refl; some = λ p. absurd (let e : n ≡ 0 = chain.leads in omega arith) }
chains_are_walked l facts rec n (c ∷ cs) chain = let q = chain.leads in record {
  none = λ e. absurd (let p = q.0 in omega arith);
  some = λ p. (c, cs, refl, chain.whole.0, chain.known.0, q.2, q.1, q.3, record { known = chain.known.1; whole = chain.whole.1; leads = q.4 });
}

-- ---- more facts

known_more : (facts more : List Fact) (cs : List Version) → Includes more facts → AreKnown facts cs → AreKnown more cs
known_more facts more [] all known = tt
known_more facts more (c ∷ cs) all known = (all (fact_of c) known.0, known_more facts more cs all known.1)

pub chain_stays : (l : Limits) (facts more : List Fact) (rec n : ℕ) (cs : List Version) → Includes more facts → IsChainFrom l facts rec n cs → IsChainFrom l more rec n cs
chain_stays l facts more rec n cs all chain = record { known = known_more facts more cs all chain.known; whole = chain.whole; leads = chain.leads }

pub copies_stay : CopiesStay
copies_stay l facts more rec head copy all is = record {
  low = is.low;
  ends = all (ChainEnds rec (tails_of copy)) is.ends;
  chain = chain_stays l facts more rec head copy all is.chain;
}

-- ---- the copy of a chain as it is

module _ (l : Limits) (w : Words) where
  abbrev pub version_at : ℕ → Version
  version_at t = record { tail = t; writer = writer_at w t; encoding = w.cells t 1; back = w.cells t 2; values = listed (w.cells t) 3 l.columns }

  abbrev pub versions_at : List ℕ → List Version
  versions_at [] = []
  versions_at (t ∷ ts) = version_at t ∷ versions_at ts

  tails_at : (ts : List ℕ) → tails_of (versions_at ts) ≡ ts
  tails_at [] = refl
  tails_at (t ∷ ts) = ap (λ (us : List ℕ). t ∷ us) (tails_at ts)

  known_at : (facts : List Fact) (ts : List ℕ) → Includes facts (cell_facts l w ts) → AreKnown facts (versions_at ts)
  known_at facts [] all = tt
  known_at facts (t ∷ ts) all = (
    all (cell_fact l w t) (0, omega arith, refl),
    known_at facts ts (λ f h. all f (Contains-append_right (cell_fact l w t ∷ []) (cell_facts l w ts) f h)),
  )

  -- a tail with the number n of its range
  leads_at : (range n : ℕ) (ts : List ℕ) → ((t : ℕ) → Has t ts → (range * l.tails < t) × (t ≤ range * l.tails + l.tails)) → Links (back_in l w.cells) (tail_at l.tails range n) ts → Leads l range n (versions_at ts)
  leads_at range n [] inside links = dite (ℕ_discrete n 0) (λ e. e) (λ ne. absurd (let e : tail_at l.tails range n ≡ 0 = links in let f = tail_at-some l.tails range n (omega arith) in omega arith))
  leads_at range n (t ∷ ts) inside links = dite (ℕ_discrete n 0)
      (λ e. absurd (let f : tail_at l.tails range n ≡ 0 = ap (tail_at l.tails range) e ∙ tail_at-none l.tails range in let g = links.0 in let p = links.1 in omega arith))
      (λ ne. let here : tail_at l.tails range n ≡ range * l.tails + n = tail_at-some l.tails range n (omega arith) in let is : tail_at l.tails range n ≡ t = links.0 in let falls : back_in l w.cells t < t = links.2 in
      let q = inside t (inl refl) in let low = q.0 in let high = q.1 in
      let back : back_in l w.cells t ≡ tail_at l.tails range (w.cells t 2) = ap (λ (r : ℕ). tail_at l.tails r (w.cells t 2)) (tail_range-is l.tails range t low high) in
      (omega arith, omega arith, sym is ∙ here, lower (w.cells t 2) t (omega arith) here is back falls, leads_at range (w.cells t 2) ts (λ u i. inside u (inr i)) (subst (λ (h : ℕ). Links (back_in l w.cells) h ts) back links.3)))
    where
      lower : (b t : ℕ) → 0 < n → tail_at l.tails range n ≡ range * l.tails + n → tail_at l.tails range n ≡ t → back_in l w.cells t ≡ tail_at l.tails range b → back_in l w.cells t < t → b < n
      lower b t some here is back falls = dite (ℕ_discrete b 0)
          (λ e. omega arith)
          (λ ne. let f = tail_at-some l.tails range b (omega arith) in omega arith)

-- a tail whose start word is stored is a version
pub stored_is : (c : Core) → Sound c → (t : ℕ) → 0 < t → 0 < c.words.cells t 0 → IsVersionOf c.limits (record_in c.limits c.words.cells t) (version_at c.limits c.words t)
stored_is c sound t some stored = let l : Limits = c.limits in let w : Words = c.words in let k : StoredOf l w c.known t = sound.versions.stored t stored in let image = sound.tail_words.images t stored in record {
  some = some;
  few = k.few;
  session = k.begun.0;
  begun = k.begun.1;
  number = let a = k.begun.2 in let b = (sound.each (writer_at w t % 16) k.begun.0).few in omega arith;
  here = refl;
  wide = length-listed (w.cells t) 3 l.columns;
  cell = record { nulls = image.nulls; kind = image.kind; each = λ column below. subst (IsColumn (w.cells t 1) column) (sym (listed_at (w.cells t) 3 l.columns column below)) (image.each column below) };
}

module _ (c : Core) (sound : Sound c) (rec : ℕ) (low : rec < record_count c.limits) where
  abbrev l : Limits
  l = c.limits

  abbrev w : Words
  w = c.words

  abbrev pub copy : List Version
  copy = versions_at c.limits c.words (line c.limits c.words rec)

  version_is : (t : ℕ) → Has t (line c.limits c.words rec) → IsVersionOf c.limits rec (version_at c.limits c.words t)
  version_is t i = let L = sound.versions.lines rec low in subst (λ (r : ℕ). IsVersionOf l r (version_at l w t)) (L.here t i)
      (stored_is c sound t (links_positive (back_in l w.cells) (head_of l rec (w.heads rec)) (line l w rec) L.links t i) (L.stored t i))

  versions_are : (ts : List ℕ) → ((t : ℕ) → Has t ts → Has t (line c.limits c.words rec)) → AreVersionsOf c.limits rec (versions_at c.limits c.words ts)
  versions_are [] all = tt
  versions_are (t ∷ ts) all = (version_is t (all t (inl refl)), versions_are ts (λ u i. all u (inr i)))

  inside : (t : ℕ) → Has t (line c.limits c.words rec) → (range_of rec * c.limits.tails < t) × (t ≤ range_of rec * c.limits.tails + c.limits.tails)
  inside t i = let L = sound.versions.lines rec low in let k : StoredOf c.limits c.words c.known t = sound.versions.stored t (L.stored t i) in
      subst (λ (r : ℕ). (range_of r * c.limits.tails < t) × (t ≤ range_of r * c.limits.tails + c.limits.tails)) (L.here t i) (k.drawn.0, k.drawn.1)

  pub copied : (facts : List Fact) → Includes facts (chain_facts c.limits c.words rec) → IsCopy c.limits facts rec (c.words.heads rec / 2) copy
  copied facts all = record {
    low = low;
    ends = all (ChainEnds rec (tails_of copy)) (subst (λ (ts : List ℕ). Contains (chain_facts l w rec) (ChainEnds rec ts)) (sym (tails_at l w (line l w rec))) (0, omega arith, refl));
    chain = record {
      known = known_at l w facts (line l w rec) (λ f h. all f (Contains-append_right (ChainEnds rec (line l w rec) ∷ []) (cell_facts l w (line l w rec)) f h));
      whole = versions_are (line l w rec) (λ t i. i);
      leads = leads_at l w (range_of rec) (w.heads rec / 2) (line l w rec) inside (sound.versions.lines rec low).links;
    };
  }
