-- A seat that hosts everybody takes stock of all words: the rule is kept, and what the seat says stays so.
use Rattle.std.proofs.Common.{◌≡◌, ◌≢◌, ℕ, ◌≤◌, List, true, set, sym, refl, subst, ap, ◌∙◌, ⊎_elim, length}
use mathlib.Core.Option.{some}
use lib.ListN.{get_elem?}
use Rattle.std.proofs.lemmas.List.{set-get_or}
use Rattle.atomic_table.specs.Table.{keeps}
use Rattle.atomic_table.proofs.Lists.{at_set}
use Rattle.lst_layout.specs.declared.limits.Limits.{Limits}
use Rattle.lst_layout.specs.Areas.{words_of}
use Rattle.lst_core_state.specs.declared.numbers.Numbers.{Numbers}
use Rattle.lst_core_state.specs.State.{state_over}
use Rattle.lst_core_state.specs.Sound.{Sound}
use Rattle.lst_rule.specs.declared.store.Store.{Store}
use Rattle.lst_pages.specs.Known.{PagesSound}
use Rattle.lst_rule.specs.declared.view.View.{View}
use Rattle.lst_rule.specs.Rule.{hosts, Fits, Ruled, Allowed}
use Rattle.lst_rule.specs.Learned.{Possible, Kept}
use Rattle.lst_rule.specs.Seats.{Sitting, Tells}
use Rattle.lst_rule.specs.Stores.{IsSeatOf}
use Rattle.lst_rule.specs.Surveys.{HostsAll, surveyed, Surveyed, SeatsMaySurvey}
use Rattle.lst_rule.proofs.Allowing.{allowed}

pub seats_survey : SeatsMaySurvey
seats_survey l slots id m i all s r deep at small = (
  w,
  keeps,
  tt,
  subst (λ (ws : List ℕ). Ruled l record { words = ws; homes = s.homes; views = set s.views id w }) (sym (set-get_or s.words i 0)) ruled,
  (record { words = s.words; known = r.known; merger = r.merger; allowed = allowed s.words r.known r.merger r.owner id v (subst (λ (z : Limits). length s.words ≡ words_of z) (sym is) r.wide) (subst (λ (z : Limits). Sound (state_over z s.words r.known r.merger)) (sym is) r.sound) (subst (λ (z : Limits). PagesSound (state_over z s.words r.known r.merger)) (sym is) r.pages) (subst fits_in (sym is) fit); now = refl }, refl),
)
  where
    v : View
    v = m.0

    w : View
    w = surveyed v s.words

    fit : Fits s.words (state_over l s.words r.known r.merger) r.owner id v
    fit = r.each id v at

    is : v.limits ≡ l
    is = fit.limits

    fits_in : Limits → Type 0
    fits_in z = Fits s.words (state_over z s.words r.known r.merger) r.owner id v

    mine : Fits s.words (state_over l s.words r.known r.merger) r.owner id w
    mine = record {
      limits = fit.limits;
      sized = fit.sized;
      low = fit.low;
      owns = fit.owns;
      knew = fit.knew;
      told = fit.told;
      told_facts = fit.told_facts;
      told_keys = fit.told_keys;
      whole = λ _. refl;
      all = λ _ k low. all k (subst (λ (z : Limits). k ≤ z.sessions) (sym is) low);
    }

    ruled : Ruled l record { words = s.words; homes = s.homes; views = set s.views id w }
    ruled = record {
      known = r.known;
      merger = r.merger;
      owner = r.owner;
      wide = r.wide;
      sound = r.sound;
      pages = r.pages;
      each = λ j u e. ⊎_elim (λ (t : (j ≡ id) × (w ≡ u)). subst (λ (z : ℕ × View). Fits s.words (state_over l s.words r.known r.merger) r.owner z.0 z.1) (λ k. (sym t.0 k, t.1 k)) mine)
          (λ (t : (j ≢ id) × (get_elem? s.views j ≡ some u)). r.each j u t.1) (at_set s.views id j w u e);
    }

-- ---- what stays

module _ (v w : View) (t : Surveyed v w) where
  -- the view is possible where it was, in the state that was met
  pub survey_allowed : HostsAll v → Allowed w t.words t.known t.merger
  survey_allowed all = let a = t.allowed in subst (λ (u : View). Allowed u t.words t.known t.merger) (sym t.now)
      record { wide = a.wide; sound = a.sound; pages = a.pages; sized = a.sized; low = a.low; knew = a.knew; told = a.told; told_facts = a.told_facts; told_keys = a.told_keys; whole = λ _. refl; all = λ _. all }

  pub survey_possible : HostsAll v → Possible w
  survey_possible all = record { words = t.words; known = t.known; merger = t.merger; allowed = survey_allowed all }

  -- the words that it knew are those that were met
  pub survey_kept : Kept v w
  survey_kept = record { words = λ whole. ap (λ (u : View). u.words) t.now ∙ sym (t.allowed.whole whole) }

  -- so a view that knew each is the same
  pub survey_same : v.whole ≡ true → w ≡ v
  survey_same whole = t.now ∙ (λ i. record v { whole = sym whole i; words = sym (t.allowed.whole whole) i })

  pub survey_tells : (numbers : List Numbers) → HostsAll v → Tells v numbers → Tells w numbers
  survey_tells numbers all tells = subst (λ (u : View). Tells u numbers) (sym t.now)
      record { possible = subst Possible t.now (survey_possible all); all = tells.all; is = tells.is }

pub survey_seat : (store : Store) (a b : Sitting) → IsSeatOf store a → b.table ≡ a.table → Surveyed a.view b.view → IsSeatOf store b
survey_seat store a b is table t = record {
  table = table ∙ is.table;
  limits = ap (λ (u : View). u.limits) t.now ∙ is.limits;
  sized = ap (λ (u : View). length u.known) t.now ∙ is.sized;
  low = λ r h. is.low r (sym (ap (λ (u : View). hosts u r) t.now) ∙ h);
}
