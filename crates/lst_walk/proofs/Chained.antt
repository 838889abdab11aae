-- What is known of a chain stays known.
use Rattle.std.proofs.Common.{◌≡◌, ◌⊎◌, ℕ, List, [], true, Contains, sym, subst, ap, ◌∙◌, inl, inr, ⊎_elim}
use Rattle.lst_layout.specs.declared.limits.Limits.{Limits}
use Rattle.lst_core_state.specs.declared.known.Known.{Known}
use Rattle.lst_core_state.specs.declared.known.Hold.{Hold}
use Rattle.lst_core_state.specs.declared.facts.Fact.TheVariants.{IndexAt}
use Rattle.lst_core_state.specs.State.{sight}
use Rattle.lst_core_state.specs.Sound.{IsRecorded}
use Rattle.lst_rule.specs.declared.view.View.{View}
use Rattle.lst_rule.specs.Rule.{knows, hosts}
use Rattle.lst_rule.specs.Learned.{Possible}
use Rattle.lst_rule.specs.Copies.{Version, IsCopy}
use Rattle.lst_rule.specs.Seen.{seen_acts, HasKey}
use Rattle.lst_rule.specs.Laws.{KeptBy}
use Rattle.lst_rule.proofs.Copying.{copies_stay}
use Rattle.lst_rule.proofs.Seeing.{same_acts, same_sight}
use Rattle.lst_rule.proofs.Keying.{one_key, one_record, recorded}
use Rattle.lst_walk.specs.Numbered.{HasNoTail, KnowsChain, ChainsAreKnown, ChainsStayKnown}

-- ---- chains that are known

pub chains_are_known : ChainsAreKnown
chains_are_known v s rec head opened found = record { head = head; is = found.is; sees = record { of_key = λ key has. found.sight key opened has; keyed = found.keyed opened } }

module _ (v w : View) (s rec : ℕ) (copy : List Version) (p : Possible v) (q : Possible w) (has : HasNoTail v s) (hosted : hosts w s ≡ true) (limits : w.limits ≡ v.limits) (kept : KeptBy (knows v s) (knows w s)) (known : KnowsChain v s rec copy) where
  abbrev k : Known
  k = knows v s

  abbrev u : Known
  u = knows w s

  has_now : (r key : ℕ) → HasKey (knows v s).facts r key → HasKey (knows w s).facts r key
  has_now r key h = (h.0, kept.facts (IndexAt h.0 r key) h.1)

  -- a key that is known now, and of which anything is seen, was known
  key_known : (key : ℕ) → HasKey (knows w s).facts rec key → (sight (knows v s) key ≡ []) ⊎ HasKey (knows v s).facts rec key
  key_known key h = ⊎_elim
      (λ (unseen : sight k key ≡ []). inl unseen)
      (λ (r : IsRecorded k.facts key). let same : r.1 ≡ rec = one_record w s q hosted r.1 rec key (has_now r.1 key (r.0, r.2)) h in inr (r.0, subst (λ (x : ℕ). Contains k.facts (IndexAt r.0 x key)) same r.2))
      (recorded v s p has.host has.opened key)

  of_key : (key : ℕ) → HasKey (knows w s).facts rec key → seen_acts (knows v s) s copy ≡ sight (knows v s) key
  of_key key h = ⊎_elim
      (λ (none : seen_acts k s copy ≡ []). ⊎_elim (λ (unseen : sight k key ≡ []). none ∙ sym unseen) (λ (b : HasKey k.facts rec key). known.sees.of_key key b) (key_known key h))
      (λ (first : (key : ℕ) × HasKey k.facts rec key). known.sees.of_key first.0 first.1 ∙ ap (sight k) (one_key w s q hosted rec first.0 key (has_now rec first.0 first.1) h))
      known.sees.keyed

  stays_known : HasNoTail w s × KnowsChain w s rec copy
  stays_known = (
    record { host = hosted; opened = kept.is_open ∙ has.opened; hand = ap (λ (h : Hold). h.is_whole) kept.hold ∙ has.hand },
    record {
      head = known.head;
      is = subst (λ (l : Limits). IsCopy l u.facts rec known.head copy) (sym limits) (copies_stay v.limits k.facts u.facts rec known.head copy kept.facts known.is);
      sees = record {
        of_key = λ key h. same_acts k u s copy kept.alike ∙ (of_key key h ∙ sym (same_sight k u key kept.alike));
        keyed = ⊎_elim (λ (none : seen_acts k s copy ≡ []). inl (same_acts k u s copy kept.alike ∙ none)) (λ (first : (key : ℕ) × HasKey k.facts rec key). inr (first.0, has_now rec first.0 first.1)) known.sees.keyed;
      };
    },
  )

pub chains_stay_known : ChainsStayKnown
chains_stay_known v w s rec copy p q has hosted limits kept known = stays_known v w s rec copy p q has hosted limits kept known
