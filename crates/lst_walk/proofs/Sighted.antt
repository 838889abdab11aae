-- Seen means known, in a view.
use Rattle.std.proofs.Common.{◌≡◌, ℕ, ◌<◌, List, [], ◌++◌, Bool, true, eqb, ◌||◌, Contains, sym, subst, ap, ◌∙◌, ⊎_elim, true≢false}
use Rattle.lst_layout.specs.Words.{shown}
use Rattle.lst_core_state.specs.Lists.{Has}
use Rattle.lst_core_state.specs.declared.known.Known.{Known}
use Rattle.lst_core_state.specs.declared.facts.Fact.TheVariants.{IndexAt, CellIs, ChainEnds}
use Rattle.lst_core_state.specs.Cells.{record_of}
use Rattle.lst_core_state.specs.Facts.{IsFact}
use Rattle.lst_core_state.specs.State.{Words, Core, writer_at, name_of, line, record_in, is_visible, sight, state_over}
use Rattle.lst_core_state.specs.Sound.{FactsOf}
use Rattle.lst_core_state.specs.Reading.{Reader, IsOnChain}
use Rattle.lst_core_state.proofs.Reading.{seen_on}
use Rattle.lst_rule.specs.declared.view.View.{View}
use Rattle.lst_rule.specs.Rule.{knows}
use Rattle.lst_rule.specs.Learned.{Possible}
use Rattle.lst_rule.specs.Copies.{Version, fact_of, tails_of, IsVersionOf}
use Rattle.lst_rule.specs.Seen.{sees, seen_acts, HasKey}
use Rattle.lst_rule.proofs.Knowing.{is_fact}
use Rattle.lst_rule.proofs.Copying.{versions_at}
use Rattle.lst_rule.proofs.Seeing.{early_is, line_sight, line_keyed, index_holds}
use Rattle.lst_rule.proofs.StatusTelling as telling
use Rattle.lst_walk.specs.Numbered.{HasNoTail, KnowsChain, SeenAreKnown}
use Rattle.lst_walk.proofs.Tails.{AreFacts, known_facts, versions_split, seen_acts-append, none_more, none_left, none_seen, has_part}

-- ---- seen means known

module _ (v : View) (s rec : ℕ) (copy : List Version) (p : Possible v) (has : HasNoTail v s) (known : KnowsChain v s rec copy) where
  abbrev k : Known
  k = knows v s

  abbrev words : Words
  words = shown v.limits p.words

  abbrev c : Core
  c = state_over v.limits p.words p.known p.merger

  low : s < v.limits.sessions
  low = telling.low v p.words p.known p.merger p.allowed s has.host has.opened

  is_known : knows v s ≡ p.known s
  is_known = telling.is_known v p.words p.known p.merger p.allowed s has.host has.opened

  on_known : (p.known s).is_open ≡ true
  on_known = telling.is_on_known v p.words p.known p.merger p.allowed s has.host has.opened

  reader : Reader c s
  reader = record { low = low; is_on = on_known; hand = ap (λ (z : Known). z.hold.is_whole) (sym is_known) ∙ has.hand }

  pub facts_now : FactsOf v.limits words (knows v s).facts
  facts_now f h = is_fact v p.words p.known p.merger p.allowed s has.host f h

  pub ends : IsFact v.limits words (ChainEnds rec (tails_of copy))
  ends = facts_now (ChainEnds rec (tails_of copy)) known.is.ends

  are : AreFacts v.limits words copy
  are = known_facts v.limits words k.facts copy facts_now known.is.chain.known

  abbrev whole : List Version
  whole = versions_at v.limits words (line v.limits words rec)

  -- ---- what is seen of the copy is what is seen of the whole chain

  still : (cs : List Version) → seen_acts (p.known s) s cs ≡ seen_acts (knows v s) s cs
  still cs = ap (λ (z : Known). seen_acts z s cs) (sym is_known)

  split : versions_at v.limits words (line v.limits words rec) ≡ versions_at v.limits words ends.1.0 ++ copy
  split = versions_split v.limits words (line v.limits words rec) ends.1.0 copy ends.1.1 are

  parts : seen_acts (knows v s) s (versions_at v.limits words (line v.limits words rec)) ≡ seen_acts (knows v s) s copy ++ seen_acts (knows v s) s (versions_at v.limits words ends.1.0)
  parts = ap (seen_acts k s) split ∙ seen_acts-append k s (versions_at v.limits words ends.1.0) copy

  same : seen_acts (knows v s) s (versions_at v.limits words (line v.limits words rec)) ≡ seen_acts (knows v s) s copy
  same = ⊎_elim
      (λ (none : seen_acts (p.known s) s whole ≡ []). let unseen : seen_acts k s whole ≡ [] = sym (still whole) ∙ none in unseen ∙ sym (none_left (seen_acts k s copy) (seen_acts k s (versions_at v.limits words ends.1.0)) (sym parts ∙ unseen)))
      (λ (first : (key : ℕ) × HasKey (p.known s).facts rec key). let key : ℕ = first.0 in
      let has : HasKey k.facts rec key = subst (λ (z : Known). HasKey z.facts rec key) (sym is_known) first.1 in
      let fact : IsFact v.limits words (IndexAt has.0 rec key) = facts_now (IndexAt has.0 rec key) has.1 in
      let placed = (index_holds c p.allowed.sound has.0 rec key fact).1 in
      sym (still whole) ∙ (line_sight c p.allowed.sound s low on_known rec known.is.low placed ∙ (ap (sight (p.known s)) fact.1 ∙ (ap (λ (z : Known). sight z key) (sym is_known) ∙ sym (known.sees.of_key key has)))))
      (line_keyed c p.allowed.sound s low on_known rec known.is.low)

  pub newer_unseen : seen_acts (knows v s) s (versions_at v.limits words ends.1.0) ≡ []
  newer_unseen = none_more (seen_acts k s copy) (seen_acts k s (versions_at v.limits words ends.1.0)) (sym parts ∙ same)

  -- ---- a version that is seen

  pub seen_known : (d : Version) → IsVersionOf v.limits rec d → Contains (knows v s).facts (fact_of d) → sees (knows v s) s d.writer ≡ true → Has d.tail (tails_of copy)
  seen_known d is fact seen = ⊎_elim
      (λ (i : Has d.tail ends.1.0). absurd (true≢false (sym seen ∙ (ap (sees k s) (sym f.1) ∙ none_seen v.limits words k s d.tail ends.1.0 newer_unseen i))))
      (λ (i : Has d.tail (tails_of copy)). i)
      (has_part d.tail ends.1.0 (tails_of copy) (subst (Has d.tail) ends.1.1 (subst (λ (r : ℕ). Has d.tail (line v.limits words r)) here on.on)))
    where
      f : IsFact v.limits words (CellIs d.tail d.writer d.encoding d.back d.values)
      f = facts_now (fact_of d) fact

      here : record_in v.limits words.cells d.tail ≡ rec
      here = ap (record_of v.limits.tails d.tail) f.2 ∙ is.here

      visible : is_visible words (name_of s (p.known s).number) (p.known s).begin d.tail ≡ true
      visible = ap (λ (b : Bool). b || eqb (writer_at words d.tail) (name_of s (p.known s).number)) (sym (early_is c p.allowed.sound s low on_known (writer_at words d.tail) (p.allowed.sound.versions.stored d.tail f.0).begun.0))
          ∙ (ap (λ (z : Known). sees z s (writer_at words d.tail)) (sym is_known) ∙ (ap (sees (knows v s) s) f.1 ∙ seen))

      on : IsOnChain c (record_in v.limits words.cells d.tail) d.tail
      on = seen_on c p.allowed.sound s reader d.tail record { stored = f.0; visible = visible }

pub seen_are_known : SeenAreKnown
seen_are_known v s rec copy c p has known is fact seen = seen_known v s rec copy p has known c is fact seen
