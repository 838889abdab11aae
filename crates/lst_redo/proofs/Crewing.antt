-- A journal is its log and its crew.
use Rattle.std.proofs.Common.{◌≡◌, ℕ, List, sym, subst}
use Rattle.lst_model.specs.declared.commits.Commit.{Commit}
use Rattle.lst_log.specs.Logs.{Keeps}
use Rattle.lst_log.specs.declared.log.Log.{Log}
use Rattle.lst_redo.specs.declared.journal.Redo.{Redo}
use Rattle.lst_redo.specs.Journals.{IsJournalOf, IsOpenJournal, IsCrewFor, HasCrew}

module _ {D : Type 0} (content : D → List ℕ) (images : D → List ℕ → Type 0) where
  pub crew_for : (redo : Redo D) (commits : List Commit) → IsJournalOf content images commits redo → IsCrewFor commits redo
  crew_for redo commits journal = record {
    columns = journal.columns;
    few = journal.few;
    crew_of = journal.crew_of;
    tells = journal.tells;
    same = journal.same;
    counted = journal.counted;
    own = journal.own;
  }

  pub has_crew : (redo : Redo D) → IsOpenJournal content images redo → HasCrew redo
  has_crew redo opened = (opened.0, crew_for redo opened.0 opened.1)

  pub journal_of : (redo : Redo D) (commits : List Commit) → Keeps content images commits redo.log → IsCrewFor commits redo → IsJournalOf content images commits redo
  journal_of redo commits keeps crew = record {
    keeps = keeps;
    columns = crew.columns;
    few = crew.few;
    crew_of = crew.crew_of;
    tells = crew.tells;
    same = crew.same;
    counted = crew.counted;
    own = crew.own;
  }

  -- the log is as it was
  pub journal_on : (before after : Redo D) (commits : List Commit) → after.log ≡ before.log → IsJournalOf content images commits before → IsCrewFor commits after → IsJournalOf content images commits after
  journal_on before after commits same journal crew = journal_of after commits (subst (Keeps content images commits) (sym same) journal.keeps) crew
