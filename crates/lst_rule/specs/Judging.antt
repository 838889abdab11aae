-- What a transaction must have found of a chain before it writes.
use Rattle.std.specs.Prelude.{◌≡◌, ◌≢◌, ◌⊎◌, ℕ, ◌+◌, ◌/◌, ◌%◌, List, [], ◌∷◌, ◌++◌, true, length}
use Rattle.std.specs.List.{Contains}
use Rattle.lst_model.specs.declared.commits.Commit.{Commit}
use Rattle.lst_model.specs.Histories.{acts_on}
use Rattle.lst_core_state.specs.declared.known.Known.{Known}
use Rattle.lst_core_state.specs.declared.facts.Fact.{Fact}
use Rattle.lst_core_state.specs.declared.facts.Fact.TheVariants.{StateAt, CommitAt}
use Rattle.lst_rule.specs.Copies.{Version}
use Rattle.lst_rule.specs.Seen.{sees}

-- the facts have the transaction of the version as closed
abbrev pub IsClosed : List Fact → Version → Type 0
IsClosed facts c = Contains facts (StateAt (c.writer % 16) (c.writer / 16) 1)

abbrev pub AreClosed : List Fact → List Version → Type 0
AreClosed facts [] = Unit {0}
AreClosed facts (c ∷ cs) = IsClosed facts c × AreClosed facts cs

-- the newest version that isn't closed is one that the session s sees; each newer one is closed
abbrev pub IsJudged : Known → ℕ → List Version → Type 0
IsJudged v s [] = Unit {0}
IsJudged v s (c ∷ cs) = (sees v s c.writer ≡ true) ⊎ (IsClosed v.facts c × IsJudged v s cs)

-- the facts have the commit time of the version's transaction
abbrev pub IsCommittedAt : List Fact → Version → ℕ → Type 0
IsCommittedAt facts c time = Contains facts (CommitAt time (c.writer % 16) (c.writer / 16)) ⊎ Contains facts (StateAt (c.writer % 16) (c.writer / 16) (time + 1))

-- the history has at this time a commit of the transaction of that name, which wrote the key
pub record WroteAt (history : List Commit) (time name key : ℕ) : Type 0 where
  pub before : List Commit
  pub commit : Commit
  pub rest : List Commit
  pub is : history ≡ before ++ commit ∷ rest
  pub place : length before + 1 ≡ time
  pub session : commit.session ≡ name % 16
  pub number : commit.number ≡ name / 16
  pub wrote : acts_on key commit.writes ≢ []
