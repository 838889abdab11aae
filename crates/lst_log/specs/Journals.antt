-- What an image stands for.
use Rattle.std.specs.Prelude.{◌≡◌, ◌≢◌, ◌⊎◌, ℕ, List, [], ◌∷◌, ◌++◌, length}
use Rattle.std.specs.List.{AllByRecursion}
use Rattle.lst_model.specs.declared.commits.Commit.{Commit}
use Rattle.lst_snapshots.specs.Replays.{IsRecovered, MayFollow}
use Rattle.lst_log.specs.Format.{body, journal, HasRecord}

-- records end at a gate that isn't open, or with the image
abbrev pub Ends : List ℕ → Type 0
Ends [] = Unit {0}
Ends (gate ∷ rest) = gate ≢ 1

-- an image is the records of these commits, and then no open gate
pub record Lists (columns : ℕ) (image : List ℕ) (commits : List Commit) : Type 0 where
  pub rest : List ℕ
  pub whole : image ≡ journal columns commits ++ rest
  pub ended : Ends rest
  pub each : AllByRecursion (HasRecord columns) commits

-- what it stands for is a recovered history
pub record StandsFor (columns : ℕ) (image : List ℕ) (commits : List Commit) : Type 0 where
  pub lists : Lists columns image commits
  pub recovered : IsRecovered commits

-- with one commit more, or without it
abbrev pub StandsForOrOneMore : ℕ → List Commit → Commit → List ℕ → Type 0
StandsForOrOneMore columns commits commit image = StandsFor columns image commits ⊎ StandsFor columns image (commits ++ commit ∷ [])

-- commits may stand behind these, one after another, their numbers aside
abbrev pub AllMayFollow : List Commit → List Commit → Type 0
AllMayFollow commits [] = Unit {0}
AllMayFollow commits (c ∷ more) = MayFollow commits c × AllMayFollow (commits ++ c ∷ []) more

-- with all of these more, or with none of them
abbrev pub StandsForOrAll : ℕ → List Commit → List Commit → List ℕ → Type 0
StandsForOrAll columns commits more image = StandsFor columns image commits ⊎ StandsFor columns image (commits ++ more)

-- an image isn't in the format: behind the records of these commits stands an open gate, and no record of one more that may follow. The place is
-- that of its gate
pub record IsDamagedAt (columns : ℕ) (image : List ℕ) (at : ℕ) : Type 0 where
  pub commits : List Commit
  pub rest : List ℕ
  pub whole : image ≡ journal columns commits ++ 1 ∷ rest
  pub place : at ≡ length (journal columns commits)
  pub each : AllByRecursion (HasRecord columns) commits
  pub recovered : IsRecovered commits
  pub none : (c : Commit) (after : List ℕ) → HasRecord columns c → MayFollow commits c → ¬ (rest ≡ body columns c ++ after)

-- an image stands for one list at most
abbrev pub HasOneList : Type 0
HasOneList = (columns : ℕ) (image : List ℕ) (commits others : List Commit) → StandsFor columns image commits → StandsFor columns image others → commits ≡ others

-- and a damaged one for none
abbrev pub DamageIsNone : Type 0
DamageIsNone = (columns : ℕ) (image : List ℕ) (at : ℕ) (commits : List Commit) → IsDamagedAt columns image at → ¬ StandsFor columns image commits
