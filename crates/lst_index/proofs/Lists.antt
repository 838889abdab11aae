-- Lists of facts and of acts.
use Rattle.std.proofs.Common.{◌≡◌, ℕ, List, [], ◌∷◌, ◌++◌, length, refl, sym, ap, ◌∙◌, arith, append_assoc}
use Rattle.std.specs.List.{Contains}
use Rattle.std.proofs.lemmas.List.Elements.{Contains-append_right}
use Rattle.lst_model.specs.declared.acts.Act.{Act}
use Rattle.lst_model.specs.declared.commits.Commit.{Commit}
use Rattle.lst_model.specs.Histories.{acts_on, all_acts_on}
use Rattle.lst_core_state.specs.declared.facts.Fact.{Fact}

pub contains_last : (fs : List Fact) (f : Fact) → Contains (fs ++ f ∷ []) f
contains_last fs f = Contains-append_right fs (f ∷ []) f (0, omega arith, refl)

pub acts_append : (key : ℕ) (xs ys : List Commit) → all_acts_on key (xs ++ ys) ≡ all_acts_on key xs ++ all_acts_on key ys
acts_append key [] ys = refl
acts_append key (x ∷ xs) ys = ap (λ (rest : List Act). acts_on key x.writes ++ rest) (acts_append key xs ys) ∙ sym (append_assoc (acts_on key x.writes) (all_acts_on key xs) (all_acts_on key ys))

pub front_none : (xs ys : List Act) → xs ++ ys ≡ [] → xs ≡ []
front_none [] ys e = refl
front_none (x ∷ xs) ys e = absurd (let h = ap length e in omega arith)
