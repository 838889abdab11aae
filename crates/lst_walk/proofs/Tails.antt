-- A copy of a chain as a list of tails, by their numbers in the range; and what is seen of them.
use Rattle.std.proofs.Common.{◌≡◌, ◌⊎◌, ℕ, ◌+◌, ◌-◌, ◌*◌, ◌<◌, List, [], ◌∷◌, ◌++◌, Bool, true, false, cond, eqb, refl, sym, subst, ap, ◌∙◌, arith, inl, inr, length, length-append, append_assoc, append-nil, ◌&&◌}
use Rattle.lst_layout.specs.declared.limits.Limits.{Limits}
use Rattle.lst_bits.specs.declared.encodings.Kind.TheVariants as kinds
use Rattle.lst_bits.specs.Encodings.{kind_code}
use Rattle.lst_model.specs.declared.acts.Act.{Act}
use Rattle.lst_model.specs.declared.acts.Act.TheVariants.{Put, Set, Del}
use Rattle.lst_model.specs.Cells.{Cell, cells_of, patched}
use Rattle.lst_core_state.specs.Lists.{Has, Links, acts}
use Rattle.lst_core_state.specs.declared.known.Known.{Known}
use Rattle.lst_core_state.specs.declared.facts.Fact.{Fact}
use Rattle.lst_core_state.specs.Cells as cell
use Rattle.lst_core_state.specs.Cells.{act_with, kind_of, mask_of, nulls_of, listed}
use Rattle.lst_core_state.specs.Facts.{IsFact}
use Rattle.lst_core_state.specs.State.{Words, writer_at}
use Rattle.lst_core_state.specs.Sound.{FactsOf}
use Rattle.lst_pages.specs.Rows.{act_of}
use Rattle.lst_pages.specs.Settled.{tail_in}
use Rattle.lst_rule.specs.Copies.{Version, fact_of, tails_of, AreKnown, Leads}
use Rattle.lst_rule.specs.Seen.{sees, act_by, seen_acts}
use Rattle.lst_rule.proofs.Copying.{version_at, versions_at}
use Rattle.lst_walk.specs.Pages.{touches_by, NoneTold}

-- ---- numbers

-- the numbers of tails in the range that has this many tails before it
abbrev pub numbers : ℕ → List ℕ → List ℕ
numbers base [] = []
numbers base (t ∷ ts) = (t - base) ∷ numbers base ts

pub numbers-append : (base : ℕ) (xs ys : List ℕ) → numbers base (xs ++ ys) ≡ numbers base xs ++ numbers base ys
numbers-append base [] ys = refl
numbers-append base (x ∷ xs) ys = ap (λ (zs : List ℕ). (x - base) ∷ zs) (numbers-append base xs ys)

pub has_tail : (base m : ℕ) (ts : List ℕ) → ((t : ℕ) → Has t ts → base < t) → Has m (numbers base ts) → Has (base + m) ts
has_tail base m [] inside none = none
has_tail base m (t ∷ ts) inside (inl e) = inl (let above = inside t (inl refl) in omega arith)
has_tail base m (t ∷ ts) inside (inr i) = inr (has_tail base m ts (λ u j. inside u (inr j)) i)

pub has_number : (base t m : ℕ) (ts : List ℕ) → t ≡ base + m → Has t ts → Has m (numbers base ts)
has_number base t m [] is none = none
has_number base t m (x ∷ xs) is (inl e) = inl (omega arith)
has_number base t m (x ∷ xs) is (inr i) = inr (has_number base t m xs is i)

pub has_part : (t : ℕ) (xs ys : List ℕ) → Has t (xs ++ ys) → Has t xs ⊎ Has t ys
has_part t [] ys i = inr i
has_part t (x ∷ xs) ys (inl e) = inl (inl e)
has_part t (x ∷ xs) ys (inr i) = go (has_part t xs ys i)
  where
    go : Has t xs ⊎ Has t ys → Has t (x ∷ xs) ⊎ Has t ys
    go (inl j) = inl (inr j)
    go (inr j) = inr j

pub has_left : (t : ℕ) (xs ys : List ℕ) → Has t xs → Has t (xs ++ ys)
has_left t [] ys none = absurd none
has_left t (x ∷ xs) ys (inl e) = inl e
has_left t (x ∷ xs) ys (inr i) = inr (has_left t xs ys i)

-- ---- versions

pub tails_of-append : (xs ys : List Version) → tails_of (xs ++ ys) ≡ tails_of xs ++ tails_of ys
tails_of-append [] ys = refl
tails_of-append (c ∷ xs) ys = ap (λ (ts : List ℕ). c.tail ∷ ts) (tails_of-append xs ys)

pub versions_at-append : (l : Limits) (w : Words) (xs ys : List ℕ) → versions_at l w (xs ++ ys) ≡ versions_at l w xs ++ versions_at l w ys
versions_at-append l w [] ys = refl
versions_at-append l w (t ∷ xs) ys = ap (λ (cs : List Version). version_at l w t ∷ cs) (versions_at-append l w xs ys)

-- each version is as the words have it
abbrev pub AreFacts : Limits → Words → List Version → Type 0
AreFacts l w [] = Unit {0}
AreFacts l w (c ∷ cs) = IsFact l w (fact_of c) × AreFacts l w cs

pub known_facts : (l : Limits) (w : Words) (facts : List Fact) (cs : List Version) → FactsOf l w facts → AreKnown facts cs → AreFacts l w cs
known_facts l w facts [] all known = tt
known_facts l w facts (c ∷ cs) all known = (all (fact_of c) known.0, known_facts l w facts cs all known.1)

pub facts_left : (l : Limits) (w : Words) (xs ys : List Version) → AreFacts l w (xs ++ ys) → AreFacts l w xs
facts_left l w [] ys are = tt
facts_left l w (c ∷ xs) ys are = (are.0, facts_left l w xs ys are.1)

pub facts_right : (l : Limits) (w : Words) (xs ys : List Version) → AreFacts l w (xs ++ ys) → AreFacts l w ys
facts_right l w [] ys are = are
facts_right l w (c ∷ xs) ys are = facts_right l w xs ys are.1

pub versions_are : (l : Limits) (w : Words) (cs : List Version) → AreFacts l w cs → versions_at l w (tails_of cs) ≡ cs
versions_are l w [] are = refl
versions_are l w (c ∷ cs) are = let f = are.0 in let rest = versions_are l w cs are.1 in
    λ i. (let d : Version = record { tail = c.tail; writer = f.1 i; encoding = f.2 i; back = f.3 i; values = f.4 i } in d) ∷ rest i

-- a chain that ends in these versions
pub versions_split : (l : Limits) (w : Words) (ts newer : List ℕ) (cs : List Version) → ts ≡ newer ++ tails_of cs → AreFacts l w cs → versions_at l w ts ≡ versions_at l w newer ++ cs
versions_split l w ts newer cs is are = ap (versions_at l w) is ∙ (versions_at-append l w newer (tails_of cs) ∙ ap (λ (ds : List Version). versions_at l w newer ++ ds) (versions_are l w cs are))

-- the back words lead along their numbers
pub numbers_link : (l : Limits) (w : Words) (range n : ℕ) (cs : List Version) → AreFacts l w cs → Leads l range n cs → Links (λ m. w.cells (range * l.tails + m) 2) n (numbers (range * l.tails) (tails_of cs))
numbers_link l w range n [] are leads = leads
numbers_link l w range n (c ∷ cs) are leads = let some = leads.0 in let tail = leads.2 in let low = leads.3 in
    let back : w.cells (range * l.tails + (c.tail - range * l.tails)) 2 ≡ c.back = ap (λ (t : ℕ). w.cells t 2) (let e : range * l.tails + (c.tail - range * l.tails) ≡ c.tail = omega arith in e) ∙ are.0.3 in
    (omega arith, omega arith, omega arith, subst (λ (h : ℕ). Links (λ m. w.cells (range * l.tails + m) 2) h (numbers (range * l.tails) (tails_of cs))) (sym back) (numbers_link l w range c.back cs are.1 leads.4))

-- ---- what is seen

pub seen_acts-append : (k : Known) (s : ℕ) (xs ys : List Version) → seen_acts k s (xs ++ ys) ≡ seen_acts k s ys ++ seen_acts k s xs
seen_acts-append k s [] ys = sym (append-nil (seen_acts k s ys))
seen_acts-append k s (c ∷ xs) ys = step (sees k s c.writer) (seen_acts-append k s xs ys)
  where
    step : (b : Bool) → seen_acts k s (xs ++ ys) ≡ seen_acts k s ys ++ seen_acts k s xs
        → cond b (seen_acts k s (xs ++ ys) ++ act_by c ∷ []) (seen_acts k s (xs ++ ys)) ≡ seen_acts k s ys ++ cond b (seen_acts k s xs ++ act_by c ∷ []) (seen_acts k s xs)
    step true e = ap (λ (zs : List Act). zs ++ act_by c ∷ []) e ∙ append_assoc (seen_acts k s ys) (seen_acts k s xs) (act_by c ∷ [])
    step false e = e

-- by lengths
pub none_more : (xs ys : List Act) → xs ++ ys ≡ xs → ys ≡ []
none_more xs [] e = refl
none_more xs (y ∷ ys) e = let more = length-append xs (y ∷ ys) in let same : length (xs ++ y ∷ ys) ≡ length xs = ap length e in absurd (omega arith)

pub none_left : (xs ys : List Act) → xs ++ ys ≡ [] → xs ≡ []
none_left [] ys e = refl
none_left (x ∷ xs) ys e = let same : length (x ∷ xs ++ ys) ≡ 0 = ap length e in absurd (omega arith)

-- of no acts at all each version is unseen
pub none_seen : (l : Limits) (w : Words) (k : Known) (s t : ℕ) (ts : List ℕ) → seen_acts k s (versions_at l w ts) ≡ [] → Has t ts → sees k s (writer_at w t) ≡ false
none_seen l w k s t [] none has = absurd has
none_seen l w k s t (u ∷ ts) none has = go (sees k s (writer_at w u)) refl none has (λ empty i. none_seen l w k s t ts empty i)
  where
    go : (b : Bool) → sees k s (writer_at w u) ≡ b → cond b (seen_acts k s (versions_at l w ts) ++ act_by (version_at l w u) ∷ []) (seen_acts k s (versions_at l w ts)) ≡ [] → Has t (u ∷ ts)
        → (seen_acts k s (versions_at l w ts) ≡ [] → Has t ts → sees k s (writer_at w t) ≡ false) → sees k s (writer_at w t) ≡ false
    go true e none has again = let some = length-append (seen_acts k s (versions_at l w ts)) (act_by (version_at l w u) ∷ []) in
        let same : length (seen_acts k s (versions_at l w ts) ++ act_by (version_at l w u) ∷ []) ≡ 0 = ap length none in absurd (omega arith)
    go false e none (inl same) again = ap (λ (x : ℕ). sees k s (writer_at w x)) same ∙ e
    go false e none (inr i) again = again none i

pub none_told_at : (l : Limits) (w : Words) (k : Known) (s column t : ℕ) (cs : List Version) → AreFacts l w cs → NoneTold k s column cs → Has t (tails_of cs) → (sees k s (writer_at w t) && touches_by column (w.cells t 1)) ≡ false
none_told_at l w k s column t [] are none has = absurd has
none_told_at l w k s column t (c ∷ cs) are none (inl e) = ap (λ (x : ℕ). sees k s (writer_at w x) && touches_by column (w.cells x 1)) e
    ∙ ((λ i. sees k s (are.0.1 i) && touches_by column (are.0.2 i)) ∙ none.0)
none_told_at l w k s column t (c ∷ cs) are none (inr i) = none_told_at l w k s column t cs are.1 none.1 i

-- ---- acts

-- a page's tail does what the encoding word and the values say
same_act : (l : Limits) (w : Words) (t : ℕ) → act_of (tail_in l w t) ≡ act_by (version_at l w t)
unfolding cell.act_of
same_act l w t = both (mask_of (w.cells t 1)) (cells_of (nulls_of (w.cells t 1)) 0 (listed (w.cells t) 3 l.columns)) (eqb (kind_of (w.cells t 1)) 1) (eqb (kind_of (w.cells t 1)) 2)
  where
    both : (mask : ℕ) (cells : List Cell) (a b : Bool) → act_with (kind_code (cond a kinds.Put (cond b kinds.Set kinds.Del))) mask cells ≡ cond a (Put cells) (cond b (Set (patched mask 0 cells)) Del)
    both mask cells true b = refl
    both mask cells false true = refl
    both mask cells false false = refl

-- what is seen of tails with their numbers
pub numbered_acts : (l : Limits) (w : Words) (k : Known) (s base : ℕ) (ts : List ℕ) → ((t : ℕ) → Has t ts → base < t)
    → acts (λ m. sees k s (writer_at w (base + m))) (λ m. act_of (tail_in l w (base + m))) (numbers base ts) ≡ seen_acts k s (versions_at l w ts)
numbered_acts l w k s base [] inside = refl
numbered_acts l w k s base (t ∷ ts) inside = let rest = numbered_acts l w k s base ts (λ u i. inside u (inr i)) in let above = inside t (inl refl) in
    let at : base + (t - base) ≡ t = omega arith in let act : act_of (tail_in l w (base + (t - base))) ≡ act_by (version_at l w t) = ap (λ (u : ℕ). act_of (tail_in l w u)) at ∙ same_act l w t in
    λ i. cond (sees k s (writer_at w (at i))) (rest i ++ act i ∷ []) (rest i)
