-- Which keys a session's facts have on which records.
use Rattle.std.proofs.Common.{◌≡◌, ◌⊎◌, ℕ, ◌<◌, [], true, sym, subst, ◌∙◌}
use Rattle.lst_layout.specs.Words.{shown}
use Rattle.lst_core_state.specs.declared.known.Known.{Known}
use Rattle.lst_core_state.specs.declared.facts.Fact.TheVariants.{IndexAt}
use Rattle.lst_core_state.specs.Cells.{record_count}
use Rattle.lst_core_state.specs.Facts.{IsFact}
use Rattle.lst_core_state.specs.State.{sight}
use Rattle.lst_core_state.specs.Sound.{IsRecorded}
use Rattle.lst_core_state.specs.State.{state_over}
use Rattle.lst_rule.specs.declared.view.View.{View}
use Rattle.lst_rule.specs.Rule.{knows, hosts}
use Rattle.lst_rule.specs.Learned.{Possible}
use Rattle.lst_rule.proofs.Knowing.{is_fact}
use Rattle.lst_rule.specs.Seen.{HasKey}
use Rattle.lst_rule.proofs.Seeing.{sight_recorded, index_holds}
use Rattle.lst_rule.proofs.StatusTelling.{low, is_known}

module _ (v : View) (s : ℕ) (p : Possible v) (host : hosts v s ≡ true) where
  fact_at : (rec key : ℕ) (has : HasKey (knows v s).facts rec key) → IsFact v.limits (shown v.limits p.words) (IndexAt has.0 rec key)
  fact_at rec key has = is_fact v p.words p.known p.merger p.allowed s host (IndexAt has.0 rec key) has.1

  -- a record has one key
  pub one_key : (rec key other : ℕ) → HasKey (knows v s).facts rec key → HasKey (knows v s).facts rec other → key ≡ other
  one_key rec key other a b = sym (fact_at rec key a).1 ∙ (fact_at rec other b).1

  -- and a key one record, whichever session knows it
  pub same_record : (t : ℕ) → hosts v t ≡ true → (rec other key : ℕ) → HasKey (knows v s).facts rec key → HasKey (knows v t).facts other key → rec ≡ other
  same_record t hosted rec other key a b = let sound = p.allowed.sound in let f = fact_at rec key a in let g : IsFact v.limits (shown v.limits p.words) (IndexAt b.0 other key) = is_fact v p.words p.known p.merger p.allowed t hosted (IndexAt b.0 other key) b.1 in
      let h = index_holds (state_over v.limits p.words p.known p.merger) sound a.0 rec key f in let i = index_holds (state_over v.limits p.words p.known p.merger) sound b.0 other key g in
      sound.versions.keys_apart rec other h.0 i.0 h.1 i.1 (f.1 ∙ sym g.1)

  pub one_record : (rec other key : ℕ) → HasKey (knows v s).facts rec key → HasKey (knows v s).facts other key → rec ≡ other
  one_record = same_record s host

  -- which is one of the store's
  pub record_low : (rec key : ℕ) → HasKey (knows v s).facts rec key → rec < record_count v.limits
  record_low rec key a = (index_holds (state_over v.limits p.words p.known p.merger) p.allowed.sound a.0 rec key (fact_at rec key a)).0

  -- the open transaction sees nothing of a key, or the facts have its record
  pub recorded : (knows v s).is_open ≡ true → (key : ℕ) → (sight (knows v s) key ≡ []) ⊎ IsRecorded (knows v s).facts key
  recorded is_on key = subst (λ (k : Known). (sight k key ≡ []) ⊎ IsRecorded k.facts key) (sym (is_known v p.words p.known p.merger p.allowed s host is_on))
      (sight_recorded (shown v.limits p.words).keys (p.known s) key (p.allowed.sound.recorded s (low v p.words p.known p.merger p.allowed s host is_on)))
