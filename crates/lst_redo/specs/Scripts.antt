-- The script that runs commits again: the lines of each, by its own session.
use Rattle.std.specs.Prelude.{ℕ, List, [], ◌∷◌, ◌++◌}
use Rattle.lst_model.specs.declared.acts.Write.{Write}
use Rattle.lst_model.specs.declared.commits.Commit.{Commit}
use Rattle.lst_model.specs.declared.lines.Call.TheVariants.{Begin, Commit as CommitCall}
use Rattle.lst_model.specs.declared.lines.Line.{Line}
use Rattle.lst_model.specs.declared.lines.Line.TheVariants.{Call as CallLine}
use Rattle.lst_replay_laws.specs.Again.{call_of}

-- a session makes writes
abbrev pub lines_of_writes : ℕ → List Write → List Line
lines_of_writes session [] = []
lines_of_writes session (write ∷ writes) = CallLine session (call_of write) ∷ lines_of_writes session writes

-- a commit's own session begins, makes its writes and commits them
abbrev pub lines_of : Commit → List Line
lines_of c = CallLine c.session Begin ∷ (lines_of_writes c.session c.writes ++ CallLine c.session CommitCall ∷ [])

-- all commits are run again, in order
abbrev pub lines_again : List Commit → List Line
lines_again [] = []
lines_again (c ∷ commits) = lines_of c ++ lines_again commits
