-- The merger's stock after looks at pins.
use Rattle.std.proofs.Common.{◌≡◌, ℕ, zero, suc, ◌<◌, ◌≤◌, List, [], ◌∷◌, ◌++◌, Bool, true, false, cond, refl, sym, ap, ◌∙◌, arith, length, append-nil, get_or, set, get_or-set_same, get_or-set_other, length-set}
use Rattle.std.proofs.lemmas.List.{append_assoc}
use mathlib.Core.Logic.{dite}
use native.Mathlib.Decide.{ℕ_discrete}
use Rattle.lst_core_state.specs.declared.pages.MergerFrames.{MergerFrames}
use Rattle.lst_pages.specs.State.{oldest_epoch}
use Rattle.lst_pages.specs.Step.{lets_go}
use Rattle.lst_rule.specs.PageSteps.{pin_found}
use Rattle.lst_retire.specs.Frames.{pins_found, AllLetGo, with_clear, sessions_below, let_go_by}

-- a look changes neither the retired frames, nor which one waits
pub record Rests (m n : MergerFrames) : Type 0 where
  pub retired : n.retired ≡ m.retired
  pub waiting : n.waiting ≡ m.waiting

look_rests : (m : MergerFrames) (s x : ℕ) → Rests m (pin_found m s x)
look_rests m s x = choose (lets_go x (oldest_epoch m.retired))
  where
    choose : (b : Bool) → Rests m (cond b (record m { clear = set m.clear s true; let_go = m.let_go ++ s ∷ [] }) (record m { held = m.held ++ s ∷ [] }))
    choose true = record { retired = refl; waiting = refl }
    choose false = record { retired = refl; waiting = refl }

pub looks_rest : (m : MergerFrames) (found : ℕ → ℕ) (n : ℕ) → Rests m (pins_found m found n)
looks_rest m found zero = record { retired = refl; waiting = refl }
looks_rest m found (suc n) = let a = looks_rest m found n in let b = look_rests (pins_found m found n) n (found n) in record { retired = b.retired ∙ a.retired; waiting = b.waiting ∙ a.waiting }

-- the same pins leave the same stock
pub pins_same : (m : MergerFrames) (f g : ℕ → ℕ) (n : ℕ) → ((i : ℕ) → i < n → g i ≡ f i) → pins_found m g n ≡ pins_found m f n
pins_same m f g zero same = refl
pins_same m f g (suc n) same = let before = pins_same m f g n (λ i low. same i (omega arith)) in let last = same n (omega arith) in λ i. pin_found (before i) n (last i)

-- where each lets go of the oldest retired frame
pub pins_let_go : (m : MergerFrames) (found : ℕ → ℕ) (n : ℕ) → AllLetGo found (oldest_epoch m.retired) n → pins_found m found n ≡ let_go_by m n
pins_let_go m found zero free = λ i. record m { let_go = sym (append-nil m.let_go) i }
pins_let_go m found (suc n) free = let k : MergerFrames = let_go_by m n in
    ap (λ (q : MergerFrames). pin_found q n (found n)) (pins_let_go m found n (λ s low. free s (omega arith)))
    ∙ (ap (λ (b : Bool). cond b (record k { clear = set k.clear n true; let_go = k.let_go ++ n ∷ [] }) (record k { held = k.held ++ n ∷ [] })) (free n (omega arith))
    ∙ (λ i. record k { clear = set k.clear n true; let_go = append_assoc m.let_go (sessions_below n) (n ∷ []) i }))

-- and the next one holds it
pub pins_held : (m : MergerFrames) (found : ℕ → ℕ) (n : ℕ) → AllLetGo found (oldest_epoch m.retired) n → lets_go (found n) (oldest_epoch m.retired) ≡ false → let k : MergerFrames = let_go_by m n in pins_found m found (suc n) ≡ record k { held = m.held ++ n ∷ [] }
pins_held m found n free held = let k : MergerFrames = let_go_by m n in
    ap (λ (q : MergerFrames). pin_found q n (found n)) (pins_let_go m found n free)
    ∙ ap (λ (b : Bool). cond b (record k { clear = set k.clear n true; let_go = k.let_go ++ n ∷ [] }) (record k { held = k.held ++ n ∷ [] })) held

-- all of them are clear
length-clear : (clear : List Bool) (n : ℕ) → length (with_clear clear n) ≡ length clear
length-clear clear zero = refl
length-clear clear (suc n) = length-set (with_clear clear n) n true ∙ length-clear clear n

pub all_clear : (clear : List Bool) (n : ℕ) → n ≤ length clear → (s : ℕ) → s < n → get_or (with_clear clear n) s false ≡ true
all_clear clear zero few s low = absurd (omega arith)
all_clear clear (suc n) few s low = dite (ℕ_discrete s n)
    (λ e. let long = length-clear clear n in ap (λ (j : ℕ). get_or (with_clear clear (suc n)) j false) e ∙ get_or-set_same (with_clear clear n) n true false (omega arith))
    (λ ne. get_or-set_other (with_clear clear n) n s true false ne ∙ all_clear clear n (omega arith) s (omega arith))
