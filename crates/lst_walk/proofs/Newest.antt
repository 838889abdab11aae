-- The newest version that is seen tells whether there is a row.
use Rattle.std.proofs.Common.{◌≡◌, ℕ, ◌+◌, ◌<◌, List, [], ◌∷◌, ◌++◌, Bool, true, false, cond, refl, sym, subst, ap, ◌∙◌, arith, Contains}
use Rattle.std.specs.Prelude.{Option, None, Some, is_some}
use Rattle.lst_layout.specs.declared.limits.Limits.{Limits}
use Rattle.lst_layout.specs.declared.place.Place.TheVariants.{CellWord}
use Rattle.lst_layout.specs.Addresses.{IsWithin}
use Rattle.lst_model.specs.declared.acts.Act.{Act}
use Rattle.lst_model.specs.declared.acts.Act.TheVariants.{Put, Set, Del}
use Rattle.lst_model.specs.Cells.{Cell}
use Rattle.lst_model.specs.Histories.{row_after, row_from}
use Rattle.lst_model.specs.Soundness.{Fits, FitInTurn}
use Rattle.lst_core_state.specs.declared.known.Known.{Known}
use Rattle.lst_core_state.specs.declared.facts.Fact.{Fact}
use Rattle.lst_rule.specs.declared.view.View.{View}
use Rattle.lst_rule.specs.Rule.{knows, hosts}
use Rattle.lst_rule.specs.Learned.{Possible}
use Rattle.lst_rule.specs.Copies.{Version, fact_of, AreKnown, AreVersionsOf, IsVersionOf}
use Rattle.lst_rule.specs.Seen.{sees, act_by, seen_acts}
use Rattle.lst_walk.specs.Readers.{IsAt, HasVersion}
use Rattle.lst_walk.specs.Newest.{leaves_row, IsNewest, HasRow, NoneSeen}
use Rattle.lst_walk.proofs.Chains.{row_step, fit_step}
use Rattle.lst_walk.proofs.Using.{sight_fits}

-- ---- an act

act_leaves : (act : Act) (older : Option (List Cell)) → Fits older act → is_some (row_after older act) ≡ leaves_row act
act_leaves (Put row) older fit = refl
act_leaves (Set patch) (Some row) fit = refl
act_leaves (Set patch) None fit = absurd fit
act_leaves Del older fit = refl

-- ---- versions that aren't seen

none_acts : (k : Known) (s : ℕ) (above rest : List Version) → NoneSeen k s above → seen_acts k s (above ++ rest) ≡ seen_acts k s rest
none_acts k s [] rest none = refl
none_acts k s (c ∷ above) rest none = ap (λ (b : Bool). cond b (seen_acts k s (above ++ rest) ++ act_by c ∷ []) (seen_acts k s (above ++ rest))) none.0 ∙ none_acts k s above rest none.1

no_acts : (k : Known) (s : ℕ) (cs : List Version) → NoneSeen k s cs → seen_acts k s cs ≡ []
no_acts k s [] none = refl
no_acts k s (c ∷ cs) none = ap (λ (b : Bool). cond b (seen_acts k s cs ++ act_by c ∷ []) (seen_acts k s cs)) none.0 ∙ no_acts k s cs none.1

-- ---- one of the versions of a chain

known_here : (facts : List Fact) (above : List Version) (c : Version) (older : List Version) → AreKnown facts (above ++ c ∷ older) → Contains facts (fact_of c)
known_here facts [] c older known = known.0
known_here facts (d ∷ above) c older known = known_here facts above c older known.1

whole_here : (l : Limits) (rec : ℕ) (above : List Version) (c : Version) (older : List Version) → AreVersionsOf l rec (above ++ c ∷ older) → IsVersionOf l rec c
whole_here l rec [] c older whole = whole.0
whole_here l rec (d ∷ above) c older whole = whole_here l rec above c older whole.1

-- ---- the newest one that is seen

module _ (v : View) (s rec tail : ℕ) (is : IsNewest v s rec (Some tail)) where
  abbrev c : Version
  c = is.1

  newest_at : IsAt v s tail is.1
  newest_at = record { rec = rec; is = whole_here v.limits rec is.0 c is.2 is.3.is.chain.whole; known = known_here (knows v s).facts is.0 c is.2 is.3.is.chain.known; at = is.5 }

  pub newest_version : HasVersion v s tail
  newest_version = (c, newest_at)

  pub newest_row : Possible v → hosts v s ≡ true → (knows v s).is_open ≡ true → (there : Bool) → ((d : Version) → IsAt v s tail d → there ≡ leaves_row (act_by d)) → HasRow v s rec there
  newest_row p host opened there leaves = let k : Known = knows v s in
      let acts : List Act = seen_acts k s (is.0 ++ c ∷ is.2) in
      let older : Option (List Cell) = row_from None (seen_acts k s is.2) in
      let rest : seen_acts k s (is.0 ++ c ∷ is.2) ≡ seen_acts k s (c ∷ is.2) = none_acts k s is.0 (c ∷ is.2) is.4 in
      let fits : Fits older (act_by c) = (fit_step k s c is.2 (subst (λ (xs : List Act). FitInTurn None xs) rest (sight_fits v s rec acts p host opened is.3.sees))).1 is.6 in
      let made : row_from None (seen_acts k s (is.0 ++ c ∷ is.2)) ≡ row_after older (act_by c) = ap (row_from None) rest ∙ (row_step k s c is.2 ∙ ap (λ (b : Bool). cond b (row_after older (act_by c)) older) is.6) in
      (row_from None acts, (acts, is.3.sees, refl), leaves c newest_at ∙ sym (ap is_some made ∙ act_leaves (act_by c) older fits))

pub no_row : (v : View) (s rec : ℕ) → IsNewest v s rec None → HasRow v s rec false
no_row v s rec is = let acts : List Act = seen_acts (knows v s) s is.0 in (row_from None acts, (acts, is.1.sees, refl), sym (ap (λ (xs : List Act). is_some (row_from None xs)) (no_acts (knows v s) s is.0 is.2)))

-- the words of a version are words of the store
pub version_within : (v : View) (l : Limits) (s tail p : ℕ) → v.limits ≡ l → p < 3 + l.columns → HasVersion v s tail → IsWithin l (CellWord tail p)
version_within v l s tail p same below has = let at = has.1 in let some = at.is.some in let few = at.is.few in let e = at.at in subst (λ (m : Limits). IsWithin m (CellWord tail p)) same
    (omega arith, omega arith, subst (λ (m : Limits). p < 3 + m.columns) (sym same) below)
