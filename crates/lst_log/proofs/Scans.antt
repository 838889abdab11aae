-- Reading a journal record by record.
use Rattle.std.proofs.Common.{◌≡◌, ℕ, suc, ◌+◌, ◌≤◌, ◌<◌, Bool, true, false, List, [], ◌∷◌, ◌++◌, length, get_or, drop, Some, refl, sym, ◌∙◌, ap, subst, arith, length-append, length-drop, true≢false}
use Rattle.std.specs.Prelude.{◌↔◌, IsTrue}
use Rattle.std.specs.List.{AllByRecursion}
use Rattle.std.proofs.lemmas.List.{drop_more, drop-drop}
use Rattle.lst_model.specs.declared.commits.Commit.{Commit}
use Rattle.lst_model.specs.Soundness.{Follows}
use Rattle.lst_log.specs.Format.{body, journal, HasRecord}
use Rattle.lst_log.specs.Reading.{body_at}
use Rattle.lst_snapshots.specs.Replays.{numbered_at, numbered_from, IsRecovered, MayFollow}
use Rattle.lst_log.specs.Journals.{IsDamagedAt}
use Rattle.lst_log.proofs.Again.{body_again}
use Rattle.lst_log.proofs.Crashes.{each_more, numbered_more, recovered_more, journal_more, journal_length}

gate_there : (image : List ℕ) (at : ℕ) → at < length image → get_or image at 0 ≡ 1 → drop at image ≡ 1 ∷ drop (at + 1) image
gate_there image at within is = drop_more image at 0 within ∙ ap (λ (x : ℕ). x ∷ drop (at + 1) image) is

length-numbered : (time : ℕ) (commits : List Commit) → length (numbered_from time commits) ≡ length commits
length-numbered time [] = refl
length-numbered time (c ∷ commits) = ap suc (length-numbered (suc time) commits)

abbrev Read : Type 0
Read = Commit × List ℕ

some_is : (x y : Read) → Some x ≡ Some y → x ≡ y
some_is x y e = cc

same_there : (columns : ℕ) (behind : List ℕ) (c k : Commit) (x y : List ℕ) → HasRecord columns c → HasRecord columns k → behind ≡ body columns c ++ x → behind ≡ body columns k ++ y → c ≡ k
same_there columns behind c k x y has hask e f =
    ap (λ (r : Read). r.0) (some_is (c, x) (k, y) (sym (body_again columns c x has) ∙ ap (body_at columns) (sym e ∙ f) ∙ body_again columns k y hask))

-- what is known where a record is looked for
pub record Scanned (columns : ℕ) (image : List ℕ) (at : ℕ) (commits snapshots : List Commit) : Type 0 where
  pub whole : image ≡ journal columns commits ++ drop at image
  pub place : at ≡ length (journal columns commits)
  pub each : AllByRecursion (HasRecord columns) commits
  pub recovered : IsRecovered commits
  pub same : snapshots ≡ numbered_from 1 commits

module _ (columns : ℕ) (image : List ℕ) (at : ℕ) (commits snapshots : List Commit) (so_far : Scanned columns image at commits snapshots) (within : at < length image) (gate : get_or image at 0 ≡ 1) where
  goes_on : image ≡ journal columns commits ++ 1 ∷ drop (at + 1) image
  goes_on = so_far.whole ∙ ap (λ (bytes : List ℕ). journal columns commits ++ bytes) (gate_there image at within gate)

  pub damaged : ((k : Commit) (after : List ℕ) → HasRecord columns k → MayFollow commits k → ¬ (drop (at + 1) image ≡ body columns k ++ after)) → IsDamagedAt columns image at
  damaged none = record { commits = commits; rest = drop (at + 1) image; whole = goes_on; place = so_far.place; each = so_far.each; recovered = so_far.recovered; none = none }

  module _ (c : Commit) (size : ℕ) (has : HasRecord columns c) (sized : size ≡ length (body columns c)) (there : drop (at + 1) image ≡ body columns c ++ drop size (drop (at + 1) image))
      (number : ℕ) (numbered : number ≡ length snapshots + 1) (test : Bool) (decides : IsTrue test ↔ Follows snapshots (numbered_at number c)) where
    number_is : number ≡ length commits + 1
    number_is = numbered ∙ ap (λ (n : ℕ). n + 1) (ap length so_far.same ∙ length-numbered 1 commits)

    follows_as : MayFollow commits c → Follows snapshots (numbered_at number c)
    follows_as f = subst (λ (s : List Commit). Follows s (numbered_at number c)) (sym so_far.same) (subst (λ (t : ℕ). Follows (numbered_from 1 commits) (numbered_at t c)) (sym number_is) f)

    as_follows : Follows snapshots (numbered_at number c) → MayFollow commits c
    as_follows f = subst (λ (t : ℕ). Follows (numbered_from 1 commits) (numbered_at t c)) number_is (subst (λ (s : List Commit). Follows s (numbered_at number c)) so_far.same f)

    pub may_not_follow : test ≡ false → IsDamagedAt columns image at
    may_not_follow failed = damaged (λ k after hask follows e.
        let same : c ≡ k = same_there columns (drop (at + 1) image) c k (drop size (drop (at + 1) image)) after has hask there e in
        true≢false (sym (decides.1 (follows_as (subst (MayFollow commits) (sym same) follows))) ∙ failed))

    pub scanned_more : (pushed : List Commit) → pushed ≡ snapshots ++ numbered_at number c ∷ [] → test ≡ true → Scanned columns image (at + (1 + size)) (commits ++ c ∷ []) pushed
    scanned_more pushed is passed = record {
      whole = goes_on ∙ ap (λ (bytes : List ℕ). journal columns commits ++ 1 ∷ bytes) (there ∙ ap (λ (bytes : List ℕ). body columns c ++ bytes) (drop-drop size (at + 1) image ∙ ap (λ (n : ℕ). drop n image) (let e : at + 1 + size ≡ at + (1 + size) = omega arith in e)))
          ∙ sym (journal_more columns commits c (drop (at + (1 + size)) image));
      place = omega (arith, journal_length columns commits c, so_far.place, sized);
      each = each_more (HasRecord columns) commits c so_far.each has;
      recovered = recovered_more commits c so_far.recovered (as_follows (decides.0 passed));
      same = is ∙ (λ i. so_far.same i ++ numbered_at (number_is i) c ∷ []) ∙ sym (numbered_more 1 commits c);
    }

    pub within_more : at + (1 + size) ≤ length image
    within_more = omega (arith, within, sized, ap length there, length-drop (at + 1) image, length-append (body columns c) (drop size (drop (at + 1) image)))
