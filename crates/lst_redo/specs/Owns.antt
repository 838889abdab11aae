-- The writes that are kept for each session, as its record will hold them.
use Rattle.std.specs.Prelude.{◌≡◌, ℕ, ◌<◌, ◌^◌, List, [], length, get_or, set, true, Option, Some, None}
use Rattle.std.specs.List.{AllByRecursion}
use Rattle.lst_model.specs.declared.acts.Write.{Write}
use Rattle.lst_model.specs.declared.commits.Commit.{Commit}
use Rattle.lst_model.specs.declared.lines.Line.{Line}
use Rattle.lst_model.specs.declared.lines.Line.TheVariants.{Phase, Merge, Call}
use Rattle.lst_model.specs.declared.replies.Reply.{Reply}
use Rattle.lst_model.specs.declared.replies.Reply.TheVariants.{Begun, Done}
use Rattle.lst_model.specs.Histories.{StandByKey, joined}
use Rattle.lst_core_state.specs.Writes.{commit}
use Rattle.lst_log.specs.Format.{IsWrite}
use Rattle.lst_replies.specs.Runs.{write_of}
use Rattle.lst_rule.specs.declared.view.View.{View}
use Rattle.lst_rule.specs.Rule.{knows}

-- writes that a record may hold: by key, each of the table's columns, and fewer than a record counts
pub record FitRecord (columns : ℕ) (writes : List Write) : Type 0 where
  pub order : StandByKey writes
  pub each : AllByRecursion (IsWrite columns) writes
  pub few : length writes < 2 ^ 32

-- each session has a list that a record may hold, and where a transaction is open it is that of its own writes
pub record AreOwn (v : View) (own : List (List Write)) : Type 0 where
  pub sized : length own ≡ v.limits.sessions
  pub fit : (s : ℕ) → s < v.limits.sessions → FitRecord v.limits.columns (get_or own s [])
  pub are : (s : ℕ) → s < v.limits.sessions → (knows v s).is_open ≡ true → get_or own s [] ≡ (knows v s).own

-- a session's list once a call was answered, which makes this write or none: a transaction that begins has none, and a write that is done joins
-- the others
abbrev pub done_after : Option Write → List Write → List Write
done_after None own = own
done_after (Some write) own = joined own write

abbrev pub own_after : Option Write → Reply → List Write → List Write
own_after made (Begun time) own = []
own_after made Done own = done_after made own
own_after made answer own = own

-- the lists once a line was answered that makes no write
abbrev pub lists_after : Line → Reply → List (List Write) → List (List Write)
lists_after (Call s call) (Begun time) own = set own s []
lists_after line answer own = own

-- a line makes no write
abbrev pub MakesNone : Line → Type 0
MakesNone Phase = Unit {0}
MakesNone (Merge range column) = Unit {0}
MakesNone (Call s call) = write_of call ≡ None

-- what is committed where a session's open transaction commits
abbrev pub commit_of : View → ℕ → Commit
commit_of v s = commit s (knows v s).number (knows v s).begin (knows v s).own
