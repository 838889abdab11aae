-- Loads of key words by a session that has no record in hand.
use Rattle.std.proofs.Common.{◌≡◌, ℕ, ◌+◌, Bool, true, false, cond, eqb, ◌&&◌, refl, sym, subst, ap, ◌∙◌, arith}
use Rattle.lst_layout.specs.declared.place.Place.TheVariants.{KeyWord}
use Rattle.lst_layout.specs.Words.{shown}
use Rattle.lst_core_state.specs.declared.known.Known.{Known}
use Rattle.lst_core_state.specs.declared.facts.Fact.TheVariants.{IndexAt}
use Rattle.lst_core_state.specs.State.{mine}
use Rattle.lst_core_state.specs.Step.{gives_up, given_up}
use Rattle.lst_rule.specs.declared.view.View.{View}
use Rattle.lst_rule.specs.Rule.{knows, hosts}
use Rattle.lst_rule.proofs.Knowing.{is_fact}
use Rattle.lst_rule.specs.Stores.{Looked}
use Rattle.lst_rule.specs.Seen.{HasKey}
use Rattle.lst_rule.specs.Watching.{Watches, Watched}
use Rattle.lst_rule.proofs.Stamps.{kept_stamped, kept_keeps}
use Rattle.lst_rule.proofs.StatusTelling.{low, is_known}
use Rattle.lst_rule.proofs.Watching.{watches_same}

by_test : (b : Bool) → (b ≡ true → ⊥) → b ≡ false
by_test true h = absurd (h refl)
by_test false h = refl

module _ (v w : View) (s rec x : ℕ) (host : hosts v s ≡ true) (opened : (knows v s).is_open ≡ true) (free : (knows v s).placing.hand ≡ 0) (looked : Looked v w s (KeyWord rec) x) where
  keyless : (knows v s).placing.has_key ≡ false
  keyless = let t = looked.met.made.told in let a = t.allowed in let is = is_known v t.words t.known t.merger a s host opened in
      by_test (knows v s).placing.has_key (λ has. let h = ((a.sound.index.hands s (low v t.words t.known t.merger a s host opened)).keyed (ap (λ (k : Known). k.placing.has_key) (sym is) ∙ has)).0 in
      let same = ap (λ (k : Known). k.placing.hand) is in omega arith)

  keeps_record : (key : ℕ) → gives_up (knows v s) rec key ≡ false
  keeps_record key = (λ i. cond (eqb (knows v s).placing.hand (rec + 1)) false (keyless i && eqb key (knows v s).placing.key && eqb (knows v s).looks.index (rec + 1))) ∙ both (eqb (knows v s).placing.hand (rec + 1))
    where
      both : (b : Bool) → cond b false false ≡ false
      both true = refl
      both false = refl

  -- it knows what it knew
  nothing_new : knows w s ≡ knows v s
  nothing_new = let t = looked.met.made.told in looked.view.now ∙ ap (λ (b : Bool). cond b (given_up (knows v s)) (knows v s)) (keeps_record ((shown v.limits t.words).keys rec))

  pub key_watched : Watched v w s
  key_watched = record {
    learns = record { now = refl; others = looked.view.others; hosted = looked.view.hosted; limits = looked.view.limits; note = looked.view.note; note_facts = looked.view.note_facts; whole = looked.view.whole };
    watches = subst (λ (k : Known). Watches (knows v s) k) (sym nothing_new) (watches_same (knows v s));
    own = λ own. ap (mine s) nothing_new;
    words = kept_stamped v w looked.view.limits looked.kept;
    stamps = kept_keeps v w looked.view.limits looked.kept;
  }

  -- and has found the key
  pub key_found : (key : ℕ) → HasKey (knows v s).facts rec key → x ≡ key
  key_found key has = let t = looked.met.made.told in sym looked.met.found ∙ (is_fact v t.words t.known t.merger t.allowed s host (IndexAt has.0 rec key) has.1).1
