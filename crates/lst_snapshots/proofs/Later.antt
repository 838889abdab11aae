-- A commit that may stand behind a history may also have begun at its last commit.
use Rattle.std.proofs.Common.{◌≡◌, ℕ, zero, suc, ◌≤◌, List, [], ◌∷◌, ◌++◌, length, take, refl, sym, ◌∙◌, ap, subst, arith, ⊎_elim, length-append}
use Rattle.std.proofs.lemmas.List.{take_all}
use Rattle.std.specs.Prelude.{None}
use Rattle.lst_model.specs.declared.acts.Act.{Act}
use Rattle.lst_model.specs.declared.commits.Commit.{Commit}
use Rattle.lst_model.specs.Histories.{acts_on, all_acts_on, row_from}
use Rattle.lst_model.specs.Soundness.{FitInTurn}
use Rattle.lst_model.proofs.Fitting.{by_key, in_order}
use Rattle.lst_snapshots.specs.Replays.{FollowsLater}

-- where no later commit has a write on a key, the acts on it are those up to the time
quiet : (key n : ℕ) (H : List Commit) → ((before : List Commit) (earlier : Commit) (between : List Commit) → H ≡ before ++ earlier ∷ between → n ≤ length before → acts_on key earlier.writes ≡ [])
    → all_acts_on key (take n H) ≡ all_acts_on key H
quiet key zero [] none = refl
quiet key zero (c ∷ H) none =
    let rest : all_acts_on key (take zero H) ≡ all_acts_on key H = quiet key zero H (λ before earlier between e le. none (c ∷ before) earlier between (ap (λ (cs : List Commit). c ∷ cs) e) (omega arith)) in
    let here : [] ≡ acts_on key c.writes = sym (none [] c H refl (omega arith)) in
    λ i. here i ++ rest i
quiet key (suc n) [] none = refl
quiet key (suc n) (c ∷ H) none =
    ap (λ (acts : List Act). acts_on key c.writes ++ acts) (quiet key n H (λ before earlier between e le. none (c ∷ before) earlier between (ap (λ (cs : List Commit). c ∷ cs) e) (omega (arith, le))))

not_none : (a : Act) (acts : List Act) → ◌≡◌ {A = List Act} [] (a ∷ acts) → ⊥
not_none a acts e = omega (arith, ap length e)

pub follows_later : FollowsLater
follows_later H c follows = record {
  begin = omega arith;
  apart = λ before earlier between split overlaps. absurd (omega (arith, ap length split, length-append before (earlier ∷ between), overlaps));
  numbers = follows.numbers;
  fits = in_order H (length H) c.writes (λ key. turn key (acts_on key c.writes) refl);
}
  where
    turn : (key : ℕ) (acts : List Act) → acts_on key c.writes ≡ acts → FitInTurn (row_from None (all_acts_on key (take (length H) H))) acts
    turn key [] is = tt
    turn key (a ∷ acts) is =
        let none = λ (before : List Commit) (earlier : Commit) (between : List Commit) (split : H ≡ before ++ earlier ∷ between) (le : c.begin ≤ length before).
        ⊎_elim (λ (x : acts_on key earlier.writes ≡ []). x) (λ (x : acts_on key c.writes ≡ []). absurd (not_none a acts (sym x ∙ is))) (follows.apart before earlier between split (omega (arith, le)) key) in
        let same : all_acts_on key (take c.begin H) ≡ all_acts_on key (take (length H) H) = quiet key c.begin H none ∙ ap (all_acts_on key) (sym (take_all (length H) H (omega arith))) in
        subst (λ (xs : List Act). FitInTurn (row_from None xs) (a ∷ acts)) same
        (subst (FitInTurn (row_from None (all_acts_on key (take c.begin H)))) is (by_key H c.begin c.writes follows.fits key))
