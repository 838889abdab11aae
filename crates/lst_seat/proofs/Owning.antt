-- A session's own commits in a history that goes on.
use Rattle.std.proofs.Common.{◌≡◌, ℕ, List, [], ◌∷◌, ◌++◌, Bool, true, false, cond, eqb, length, refl, ap, ◌∙◌, arith, length-append, append-nil}
use Rattle.lst_model.specs.declared.commits.Commit.{Commit}
use Rattle.lst_model.specs.Histories.{Extends}
use Rattle.lst_core_state.specs.State.{commits_of}

of_both : (s : ℕ) (xs ys : List Commit) → commits_of s (xs ++ ys) ≡ commits_of s xs ++ commits_of s ys
of_both s [] ys = refl
of_both s (x ∷ xs) ys = with_first (eqb x.session s) (of_both s xs ys)
  where
    with_first : (b : Bool) → commits_of s (xs ++ ys) ≡ commits_of s xs ++ commits_of s ys → cond b (x ∷ commits_of s (xs ++ ys)) (commits_of s (xs ++ ys)) ≡ cond b (x ∷ commits_of s xs) (commits_of s xs) ++ commits_of s ys
    with_first true e = ap (λ (cs : List Commit). x ∷ cs) e
    with_first false e = e

none_left : (cs : List Commit) → length cs ≡ 0 → cs ≡ []
none_left [] e = refl
none_left (c ∷ cs) e = absurd (omega arith)

-- what lies between two fronts with the same commits of a session has none of its commits
pub same_own : (s : ℕ) (all a c : List Commit) → Extends all c → Extends c a → commits_of s a ≡ commits_of s all → commits_of s c ≡ commits_of s a
same_own s all a c front first own =
    let more = commits_of s first.0 in
    let one : commits_of s c ≡ commits_of s a ++ more = ap (commits_of s) first.1 ∙ of_both s a first.0 in
    let two : commits_of s all ≡ commits_of s c ++ commits_of s front.0 = ap (commits_of s) front.1 ∙ of_both s c front.0 in
    let lengths_one : length (commits_of s c) ≡ length (commits_of s a ++ more) = ap (λ (cs : List Commit). length cs) one in
    let lengths_two : length (commits_of s all) ≡ length (commits_of s c ++ commits_of s front.0) = ap (λ (cs : List Commit). length cs) two in
    let lengths : length (commits_of s a) ≡ length (commits_of s all) = ap (λ (cs : List Commit). length cs) own in
    let none : length more ≡ 0 = omega (arith, length-append (commits_of s a) more, length-append (commits_of s c) (commits_of s front.0)) in
    one ∙ (ap (λ (cs : List Commit). commits_of s a ++ cs) (none_left more none) ∙ append-nil (commits_of s a))
