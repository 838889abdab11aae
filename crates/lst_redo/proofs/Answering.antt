-- What a journal promises of a line that commits writes.
use Rattle.std.proofs.Common.{◌≡◌, ◌⊎◌, ◌↔◌, ℕ, ◌+◌, ◌-◌, ◌<◌, ◌≤◌, Bool, true, false, List, [], ◌∷◌, ◌++◌, length, get_or, set, Option, Some, None, Result, Ok, Err, refl, sym, ap, ◌∙◌, subst, arith, length-append, inl, inr, ⊎_elim, true≢false}
use Rattle.std.specs.Prelude.{nat_lt}
use Rattle.std.proofs.lemmas.Bool.{ltb-true, ltb-false}
use Rattle.std.proofs.lemmas.List.{set-get_or}
use Rattle.lst_disk.specs.Disk.{LeavesOnly}
use Rattle.lst_disk.specs.ImageLaws.{torn_by_write}
use Rattle.lst_model.specs.declared.acts.Write.{Write}
use Rattle.lst_model.specs.declared.commits.Commit.{Commit}
use Rattle.lst_model.specs.declared.lines.Line.{Line}
use Rattle.lst_model.specs.declared.lines.Line.TheVariants.{Call}
use Rattle.lst_model.specs.declared.lines.Call.TheVariants.{Commit as CommitCall}
use Rattle.lst_redo.proofs.Places.{set_set}
use Rattle.lst_log.specs.Journals.{StandsFor, StandsForOrOneMore}
use Rattle.lst_log.specs.Stores.{staged, opened}
use Rattle.lst_log.proofs.Moments.{weakened}
use Rattle.lst_rule.specs.declared.view.View.{View}
use Rattle.lst_rule.specs.Rule.{knows}
use Rattle.lst_redo.specs.Owns.{commit_of}
use Rattle.lst_redo.specs.Answers.{CommitsWrites, MayLeave, StandsForOneMore}

-- a list that was taken and put back
pub own_put : (own left new : List (List Write)) (s : ℕ) (ws : List Write) → left ≡ set own s [] → ws ≡ get_or own s [] → new ≡ set left s ws → new ≡ own
own_put own left new s ws one taken is =
    is ∙ ap (λ (ls : List (List Write)). set ls s ws) one ∙ set_set own s [] ws ∙ ap (λ (l : List Write). set own s l) taken ∙ set-get_or own s []

-- a record that has room leaves the disk's size
opened_size : (content : List ℕ) (end : ℕ) (piece : List ℕ) → end + 1 + length piece ≤ length content → length (opened content end piece) ≡ length content
opened_size content end piece room =
    let first : length (staged content end piece) ≡ length content = (torn_by_write content (end + 1) piece (omega (arith, room))).size in
    (torn_by_write (staged content end piece) end (1 ∷ []) (omega (arith, room, first))).size ∙ first

pub size_stays : (content now body : List ℕ) (end : ℕ) (full : Type 0) → ((length content < end + length (1 ∷ body) + 1) → full) → ¬ full → now ≡ opened content end (body ++ 0 ∷ []) → length now ≡ length content
size_stays content now body end full tells not_full is = ap length is ∙ opened_size content end (body ++ 0 ∷ []) (at (nat_lt (length content) (end + length (1 ∷ body) + 1)) refl)
  where
    at : (b : Bool) → nat_lt (length content) (end + length (1 ∷ body) + 1) ≡ b → end + 1 + length (body ++ 0 ∷ []) ≤ length content
    at true e = absurd (not_full (tells (ltb-true _ _ e)))
    at false e = let low = ltb-false (length content) (end + length (1 ∷ body) + 1) e in omega (arith, low, length-append body (0 ∷ []))

module _ (v : View) (s : ℕ) (line : Line) (is : line ≡ Call s CommitCall) (is_open : (knows v s).is_open ≡ true) (some : 0 < length (knows v s).own) where
  pub commits_writes : CommitsWrites v line
  commits_writes = subst (CommitsWrites v) (sym is) (is_open, some)

  -- what a crash may leave
  pub leaves : {D : Type 0} (clock : D → ℕ) (images_since : D → ℕ → List ℕ → Type 0) (old new : D) (columns : ℕ) (commits : List Commit) (c : Commit) → c ≡ commit_of v s
      → LeavesOnly clock images_since old new (StandsForOrOneMore columns commits c) → LeavesOnly clock images_since old new (MayLeave columns v commits line)
  leaves {D} clock images_since old new columns commits c same run =
      weakened clock images_since old new (StandsForOrOneMore columns commits c) (MayLeave columns v commits line)
      (λ image. ⊎_elim (λ was. inl was) (λ more. inr (commits_writes, one_more image more))) run
    where
      one_more : (image : List ℕ) → StandsFor columns image (commits ++ c ∷ []) → StandsForOneMore columns v commits line image
      one_more image more = subst (λ (l : Line). StandsForOneMore columns v commits l image) (sym is) (subst (λ (d : Commit). StandsFor columns image (commits ++ d ∷ [])) same more)
