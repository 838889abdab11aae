-- A record that is read, written again and compared: it is the one that stands there, and where none is found none does.
use Rattle.std.proofs.Common.{◌≡◌, ℕ, Bool, false, List, ◌++◌, length, take, drop, Option, Some, None, refl, sym, ◌∙◌, ap, subst, take-append-drop, true≢false}
use Rattle.std.specs.Prelude.{◌↔◌, IsTrue}
use Rattle.std.proofs.lemmas.List.{take_at}
use Rattle.lst_model.specs.declared.acts.Write.{Write}
use Rattle.lst_model.specs.declared.commits.Commit.{Commit}
use Rattle.lst_log.specs.Format.{body, HasRecord}
use Rattle.lst_log.specs.Reading.{body_at}
use Rattle.lst_log.proofs.Again.{body_again}

abbrev Read : Type 0
Read = Commit × List ℕ

some_is : (x y : Read) → Some x ≡ Some y → x ≡ y
some_is x y e = cc

not_both : (x : Read) → ◌≡◌ {A = Option Read} None (Some x) → ⊥
not_both x e = absurd cc

module _ (columns : ℕ) (behind : List ℕ) where
  pub none_of : body_at columns behind ≡ None → (k : Commit) (rest : List ℕ) → HasRecord columns k → ¬ (behind ≡ body columns k ++ rest)
  none_of none k rest has e = not_both (k, rest) (sym none ∙ ap (body_at columns) e ∙ body_again columns k rest has)

  module _ (commit : Commit) (after : List ℕ) (read : body_at columns behind ≡ Some (commit, after)) where
    pub same_commit : (k : Commit) (rest : List ℕ) → HasRecord columns k → behind ≡ body columns k ++ rest → commit ≡ k
    same_commit k rest has e = ap (λ (r : Read). r.0) (some_is (commit, after) (k, rest) (sym read ∙ ap (body_at columns) e ∙ body_again columns k rest has))

    -- it has no record
    pub no_record : (test : Bool) (writes : List Write) → test ≡ false → writes ≡ commit.writes
        → (IsTrue test ↔ HasRecord columns (record { session = commit.session; number = commit.number; begin = commit.begin; writes = writes }))
        → (k : Commit) (rest : List ℕ) → HasRecord columns k → ¬ (behind ≡ body columns k ++ rest)
    no_record test writes failed is decides k rest has e =
        let own : HasRecord columns commit = subst (HasRecord columns) (sym (same_commit k rest has e)) has in
        let there = subst (λ (ws : List Write). HasRecord columns (record { session = commit.session; number = commit.number; begin = commit.begin; writes = ws })) (sym is) own in
        true≢false (sym (decides.1 there) ∙ failed)

    -- its record doesn't stand there
    pub other_bytes : (test : Bool) (own : List ℕ) → test ≡ false → own ≡ body columns commit → (IsTrue test ↔ (take (length own) behind ≡ own))
        → (k : Commit) (rest : List ℕ) → HasRecord columns k → ¬ (behind ≡ body columns k ++ rest)
    other_bytes test own failed is decides k rest has e =
        let whole : behind ≡ own ++ rest = e ∙ ap (λ (c : Commit). body columns c ++ rest) (sym (same_commit k rest has e)) ∙ ap (λ (bytes : List ℕ). bytes ++ rest) (sym is) in
        true≢false (sym (decides.1 (ap (take (length own)) whole ∙ take_at own rest (length own) refl)) ∙ failed)

-- where it does, the bytes go on behind it
pub stands_there : (columns : ℕ) (behind own : List ℕ) (commit : Commit) → own ≡ body columns commit → take (length own) behind ≡ own → behind ≡ body columns commit ++ drop (length own) behind
stands_there columns behind own commit is there =
    sym (take-append-drop (length own) behind) ∙ ap (λ (bytes : List ℕ). bytes ++ drop (length own) behind) (there ∙ is)

pub found_there : (columns : ℕ) (behind own : List ℕ) (commit : Commit) (size : ℕ) → own ≡ body columns commit → take (length own) behind ≡ own → size ≡ length own
    → (size ≡ length (body columns commit)) × (behind ≡ body columns commit ++ drop size behind)
found_there columns behind own commit size is there sized =
    (sized ∙ ap length is, stands_there columns behind own commit is there ∙ ap (λ (n : ℕ). body columns commit ++ drop n behind) (sym sized))
