-- A history with one commit more is sound where that commit follows the others.
use Rattle.std.proofs.Common.{◌≡◌, List, [], ◌∷◌, ◌++◌, refl, ap, subst, ◌⊎◌, inl, inr}
use Rattle.lst_model.specs.declared.commits.Commit.{Commit}
use Rattle.lst_model.specs.Soundness.{Follows, IsSound}

-- a commit of the longer history is one of the shorter, or the last
pub tails_alike : (xs : List Commit) (x : Commit) (front : List Commit) (commit : Commit) (rest : List Commit) → xs ++ x ∷ [] ≡ front ++ commit ∷ rest
    → ((more : List Commit) × (xs ≡ front ++ commit ∷ more)) ⊎ ((xs ≡ front) × (x ≡ commit))
tails_alike [] x [] commit rest same = inr (refl, cc)
tails_alike [] x (y ∷ front) commit rest same = absurd (short front (tail_of same))
  where
    tail_of : x ∷ [] ≡ y ∷ (front ++ commit ∷ rest) → [] ≡ front ++ commit ∷ rest
    tail_of same = cc

    short : (front : List Commit) → ¬ ([] ≡ front ++ commit ∷ rest)
    short [] same = cc
    short (z ∷ front) same = cc
tails_alike (y ∷ xs) x [] commit rest same = inl (xs, let head : y ≡ commit = cc in ap (λ first. first ∷ xs) head)
tails_alike (y ∷ xs) x (z ∷ front) commit rest same = step (tails_alike xs x front commit rest cc) cc
  where
    step : ((more : List Commit) × (xs ≡ front ++ commit ∷ more)) ⊎ ((xs ≡ front) × (x ≡ commit)) → y ≡ z
        → ((more : List Commit) × (y ∷ xs ≡ (z ∷ front) ++ commit ∷ more)) ⊎ ((y ∷ xs ≡ z ∷ front) × (x ≡ commit))
    step (inl found) head = inl (found.0, cc (found.1, head))
    step (inr found) head = inr (cc (found.0, head), found.1)

pub sound_snoc : (history : List Commit) (commit : Commit) → IsSound history → Follows history commit → IsSound (history ++ commit ∷ [])
sound_snoc history commit sound follows front other rest same = step (tails_alike history commit front other rest same)
  where
    step : ((more : List Commit) × (history ≡ front ++ other ∷ more)) ⊎ ((history ≡ front) × (commit ≡ other)) → Follows front other
    step (inl found) = sound front other found.0 found.1
    step (inr found) = subst (λ h. Follows h other) found.0 (subst (Follows history) found.1 follows)

not_split : (front : List Commit) (commit : Commit) (rest : List Commit) → ¬ ([] ≡ front ++ commit ∷ rest)
not_split [] commit rest same = cc
not_split (first ∷ front) commit rest same = cc

pub none_sound : IsSound []
none_sound front commit rest same = absurd (not_split front commit rest same)
