-- The tails of a range, by number, tell the copies of its chains.
use Rattle.std.proofs.Common.{◌≡◌, ℕ, ◌+◌, ◌<◌, ◌≤◌, List, [], ◌∷◌, ◌++◌, Bool, true, false, cond, nat_lt, ◌&&◌, Contains, refl, sym, subst, ap, ◌∙◌, arith, inl, inr, ⊎_elim, lt-ltb, le-ltb, ltb-true}
use Rattle.lst_layout.specs.declared.limits.Limits.{Limits}
use Rattle.lst_layout.specs.Words.{shown}
use Rattle.lst_core_state.specs.Lists.{Has, Links, acts, above}
use Rattle.lst_core_state.specs.declared.known.Known.{Known}
use Rattle.lst_core_state.specs.declared.facts.Fact.{Fact}
use Rattle.lst_core_state.specs.declared.facts.Fact.TheVariants.{ChainEnds}
use Rattle.lst_core_state.specs.Facts.{IsFact}
use Rattle.lst_core_state.specs.State.{Words, Core, back_in, head_of, state_over}
use Rattle.lst_core_state.specs.Sound.{FactsOf}
use Rattle.lst_core_state.proofs.Lists.{acts_all, acts_none}
use Rattle.lst_core_state.proofs.Decoded.{both_say}
use Rattle.lst_core_state.proofs.Reading.{acts-append, acts_above, links_head}
use Rattle.lst_pages.proofs.Chains.{links_split}
use Rattle.lst_rule.specs.declared.view.View.{View}
use Rattle.lst_rule.specs.Rule.{knows}
use Rattle.lst_rule.specs.Learned.{Possible}
use Rattle.lst_rule.specs.Copies.{Version, fact_of, tails_of, AreKnown}
use Rattle.lst_rule.specs.Seen.{sees}
use Rattle.lst_rule.proofs.Copying.{version_at}
use Rattle.lst_walk.specs.Numbered.{HasNoTail, KnowsChain, seen_versions, TellsTails, AreOver, AreUpTo, TailsTellCopies}
use Rattle.lst_walk.proofs.Tails.{tails_of-append, has_left}
use Rattle.lst_walk.proofs.Sighted.{facts_now, seen_known}

-- ---- all tails of a range by number

known_left : (facts : List Fact) (xs ys : List Version) → AreKnown facts (xs ++ ys) → AreKnown facts xs
known_left facts [] ys known = tt
known_left facts (c ∷ xs) ys known = (known.0, known_left facts xs ys known.1)

-- a version is what the words say at its tail
version_is : (l : Limits) (w : Words) (c : Version) → IsFact l w (fact_of c) → version_at l w c.tail ≡ c
version_is l w c f = λ i. record { tail = c.tail; writer = f.1 i; encoding = f.2 i; back = f.3 i; values = f.4 i }

pub one_version : (l : Limits) (w : Words) (a b : Version) → IsFact l w (fact_of a) → IsFact l w (fact_of b) → a.tail ≡ b.tail → a ≡ b
one_version l w a b f g e = sym (version_is l w a f) ∙ (ap (version_at l w) e ∙ version_is l w b g)

module _ (v : View) (s rec low m : ℕ) (newer older : List Version) (told : ℕ → Bool) (version : ℕ → Version) (p : Possible v) (has : HasNoTail v s) (known : KnowsChain v s rec (newer ++ older))
    (over : AreOver low newer) (upto : AreUpTo low older) (tells : TellsTails v s rec low m (newer ++ older) told version) where
  abbrev k : Known
  k = knows v s

  abbrev words : Words
  words = shown v.limits p.words

  abbrev c : Core
  c = state_over v.limits p.words p.known p.merger

  abbrev back : ℕ → ℕ
  back = back_in v.limits words.cells

  abbrev taken : ℕ → Bool
  taken t = nat_lt low t && told t

  abbrev copy : List Version
  copy = newer ++ older

  facts_here : FactsOf v.limits words (knows v s).facts
  facts_here = facts_now v s rec copy p has known

  ends : IsFact v.limits words (ChainEnds rec (tails_of (newer ++ older)))
  ends = facts_here (ChainEnds rec (tails_of copy)) known.is.ends

  links : (n : ℕ) × Links back n (tails_of (newer ++ older))
  links = links_split back (head_of v.limits rec (words.heads rec)) ends.1.0 (tails_of copy) (subst (Links back (head_of v.limits rec (words.heads rec))) ends.1.1 (p.allowed.sound.versions.lines rec known.is.low).links)

  head_low : links.0 ≤ low + m
  head_low = ⊎_elim (λ (none : links.0 ≡ 0). omega (arith, none)) (λ (i : Has links.0 (tails_of copy)). tells.all links.0 i) (links_head back links.0 (tails_of copy) links.1)

  told_on : (t : ℕ) → t ≤ low + m → taken t ≡ true → Has t (tails_of (newer ++ older))
  told_on t most e = let both = both_say (nat_lt low t) (told t) e in let some = ltb-true low t both.0 in
      subst (λ (u : ℕ). Has u (tails_of copy)) (tells.at t some most both.1) (seen_known v s rec copy p has known (version t) (tells.is t some most both.1) (tells.known t some most both.1) (tells.seen t some most both.1))

  -- of a version of the copy above `low` it is told whether it is seen
  told_seen : (d : Version) → Contains (knows v s).facts (fact_of d) → Has d.tail (tails_of (newer ++ older)) → low < d.tail → (taken d.tail ≡ sees (knows v s) s d.writer) × (told d.tail ≡ true → version d.tail ≡ d)
  told_seen d fact i some = (ap (λ (b : Bool). b && told d.tail) (lt-ltb low d.tail some) ∙ choose (told d.tail) refl, is)
    where
      is : told d.tail ≡ true → version d.tail ≡ d
      is e = one_version v.limits words (version d.tail) d (facts_here (fact_of (version d.tail)) (tells.known d.tail some (tells.all d.tail i) e)) (facts_here (fact_of d) fact) (tells.at d.tail some (tells.all d.tail i) e)

      choose : (b : Bool) → told d.tail ≡ b → told d.tail ≡ sees (knows v s) s d.writer
      choose true e = e ∙ (sym (tells.seen d.tail some (tells.all d.tail i) e) ∙ ap (λ (x : Version). sees (knows v s) s x.writer) (is e))
      choose false e = e ∙ sym (tells.else d some (tells.all d.tail i) e i fact)

  told_versions : (cs : List Version) → AreKnown (knows v s).facts cs → ((t : ℕ) → Has t (tails_of cs) → Has t (tails_of (newer ++ older))) → AreOver low cs → acts taken version (tails_of cs) ≡ seen_versions (knows v s) s cs
  told_versions [] are within above = refl
  told_versions (d ∷ cs) are within above = ap (λ (b : Bool). cond b (acts taken version (tails_of cs) ++ version d.tail ∷ []) (acts taken version (tails_of cs))) q.0 ∙ step (sees k s d.writer) refl (told_versions cs are.1 (λ t i. within t (inr i)) (λ t i. above t (inr i)))
    where
      q : (taken d.tail ≡ sees (knows v s) s d.writer) × (told d.tail ≡ true → version d.tail ≡ d)
      q = told_seen d are.0 (within d.tail (inl refl)) (above d.tail (inl refl))

      step : (b : Bool) → sees (knows v s) s d.writer ≡ b → acts taken version (tails_of cs) ≡ seen_versions (knows v s) s cs
          → cond b (acts taken version (tails_of cs) ++ version d.tail ∷ []) (acts taken version (tails_of cs)) ≡ cond b (seen_versions (knows v s) s cs ++ d ∷ []) (seen_versions (knows v s) s cs)
      step true e rest = λ i. rest i ++ q.1 (both_say (nat_lt low d.tail) (told d.tail) (q.0 ∙ e)).1 i ∷ []
      step false e rest = rest

  pub tails_tell : acts told version (above low m) ≡ seen_versions (knows v s) s newer
  tails_tell = acts_above told version low m
      ∙ (acts_all taken version back (low + m) links.0 (tails_of copy) links.1 head_low told_on
      ∙ (ap (acts taken version) (tails_of-append newer older)
      ∙ (acts-append taken version (tails_of newer) (tails_of older)
      ∙ (ap (λ (l : List Version). l ++ acts taken version (tails_of newer)) (acts_none taken version (tails_of older) (λ t i. ap (λ (b : Bool). b && told t) (le-ltb low t (upto t i))))
      ∙ told_versions newer (known_left k.facts newer older known.is.chain.known) (λ t i. subst (Has t) (sym (tails_of-append newer older)) (has_left t (tails_of newer) (tails_of older) i)) over))))

pub tails_tell_copies : TailsTellCopies
tails_tell_copies v s rec low m newer older told version p has known over upto tells = tails_tell v s rec low m newer older told version p has known over upto tells
