-- The second opening: what it makes of the image, and the text that tells it.
use Rattle.std.proofs.Common.{◌≡◌, ℕ, Bool, true, false, List, [], ◌∷◌, ◌++◌, length, refl, sym, ap, ◌∙◌, subst, arith}
use Rattle.lst_layout.specs.declared.limits.Limits.{Limits}
use Rattle.lst_model.specs.declared.commits.Commit.{Commit}
use Rattle.lst_model.specs.declared.lines.Line.{Line}
use Rattle.lst_model.specs.Soundness.{IsSound}
use Rattle.lst_model.specs.Tables.{Rows, scan_of}
use Rattle.lst_model.specs.Histories.{table_at}
use Rattle.lst_machine.specs.State.{State}
use Rattle.lst_disk.specs.declared.memory.MemDisk.{MemDisk}
use Rattle.lst_disk.specs.Disk.{left_by}
use Rattle.lst_disk.specs.Memory.{disk_content, disk_images, disk_synced, disk_torn, disk_outcome}
use Rattle.lst_historic.specs.Blocks.{AreWide}
use Rattle.lst_past.specs.Past.{number_line, rows_line}
use Rattle.std.specs.Prelude.{codes}
use Rattle.lst_log.specs.Journals.{StandsFor, IsDamagedAt, HasOneList, DamageIsNone}
use Rattle.lst_replay_laws.specs.Counts.{SameCommits}
use Rattle.lst_replay_laws.specs.Rests.{HasRoomFor}
use Rattle.lst_replay_laws.proofs.Runs.{same_tables, same_have_writes}
use Rattle.lst_rule.specs.declared.store.Store.{Store}
use Rattle.lst_scan.specs.Lines.{KeepsState}
use Rattle.lst_session.specs.declared.crew.Crew.{Crew}
use Rattle.lst_rule.specs.declared.view.View.{View}
use Rattle.lst_rule.specs.Learned.{Possible}
use Rattle.lst_session.specs.Crews.{IsCrewOf, TellsState, state_told, store_told}
use Rattle.lst_redo.specs.declared.journal.Redo.{Redo}
use Rattle.lst_redo.specs.Journals.{view_of}
use Rattle.lst_redo.specs.Openings.{HasOpened}
use Rattle.lst_crash.specs.Crashes.{Ending, ending_of, recovered as commits_of, recovered_text, limits_again}
use Rattle.lst_crash.specs.Recovering.{IsCrashed, IsRecoverable, HasEnded, HasRecovered}
use Rattle.lst_crash.proofs.Histories.{sound_told, wide_told}

-- ---- the text

same_count : (history commits : List Commit) → SameCommits history commits → length history ≡ length commits
same_count [] [] same = refl
same_count [] (d ∷ commits) same = absurd same
same_count (c ∷ history) [] same = absurd same
same_count (c ∷ history) (d ∷ commits) same = let rest = same_count history commits same.2 in omega (arith, rest)

-- commits of the same writes make the same text
same_text : (history commits : List Commit) → SameCommits history commits → recovered_text history ≡ recovered_text commits
same_text history commits same =
    ap (λ (n : ℕ). number_line (codes "recovered ") n ++ rows_line (scan_of (table_at history n))) (same_count history commits same)
    ∙ ap (λ (rows : Rows). number_line (codes "recovered ") (length commits) ++ rows_line (scan_of rows)) (same_tables history commits (length commits) (same_have_writes history commits same))

-- ---- the store

module _ (limits : Limits) (disk before : MemDisk) (is : disk_content disk ≡ left_by (disk_outcome before) (disk_content before)) (redo : Redo MemDisk) (again : Limits) (same_limits : again ≡ limits_again limits)
    (found : (commits : List Commit) × HasOpened disk_content disk_images again disk commits redo) (one : HasOneList) where
  -- the commits that it stands for are those that were found
  these : (commits : List Commit) → IsRecoverable limits commits (left_by (disk_outcome before) (disk_content before)) → found.0 ≡ commits
  these commits can =
      one limits.columns (disk_content disk) found.0 commits (subst (λ (l : Limits). StandsFor l.columns (disk_content disk) found.0) same_limits found.1.stood)
      (subst (λ (content : List ℕ). StandsFor limits.columns content commits) (sym is) can.stands)

  opened : (commits : List Commit) → IsRecoverable limits commits (left_by (disk_outcome before) (disk_content before)) → HasOpened disk_content disk_images (limits_again limits) disk commits redo
  opened commits can =
      subst (λ (cs : List Commit). HasOpened disk_content disk_images (limits_again limits) disk cs redo) (these commits can)
      (subst (λ (l : Limits). HasOpened disk_content disk_images l disk found.0 redo) same_limits found.1)

  pub recovered : (text now : List ℕ) (history : List Commit) (store : Store) (crew : Crew) → history ≡ (store_told (view_of redo)).history → now ≡ text ++ recovered_text history
      → store ≡ redo.store → redo.store.layout.limits ≡ again → IsCrewOf store crew → KeepsState (view_of redo) crew.seat.view → HasRecovered limits before text now (store, crew)
  recovered text now history store crew told said same layout of keeps = record {
    is_text = λ commits can.
        said ∙ ap (λ (t : List ℕ). text ++ t) (ap recovered_text told ∙ same_text (store_told (view_of redo)).history commits (opened commits can).journal.same);
    holds = λ commits can. let kept = keeps (opened commits can).ran.tells in record {
      opened = of.seat_of.limits ∙ ap (λ (s : Store). s.layout.limits) same ∙ layout ∙ same_limits;
      crew_of = of;
      tells = kept.0;
      told = kept.1 ∙ (opened commits can).state;
    };
  }

-- ---- why it doesn't fail

module _ (limits again : Limits) (content : List ℕ) (same : again ≡ limits_again limits) (commits : List Commit) (is : IsRecoverable limits commits content) where
  pub stands_again : StandsFor again.columns content commits
  stands_again = subst (λ (l : Limits). StandsFor l.columns content commits) (sym same) is.stands

  pub has_room_for : HasRoomFor again commits
  has_room_for = subst (λ (l : Limits). HasRoomFor l commits) (sym same) is.room

  pub never_damaged : DamageIsNone → (at : ℕ) → IsDamagedAt again.columns content at → ⊥
  never_damaged law at damaged = law again.columns content at commits damaged stands_again

-- a new disk has calls left
pub calls_left : (left : ℕ) → left ≡ 18446744073709551615 → left ≡ 0 → ⊥
calls_left left many none = omega (arith, many, none)

-- ---- the history that it tells

module _ (v w : View) (keeps : TellsState w × (state_told w ≡ state_told v)) (history : List Commit) (told : history ≡ (store_told v).history) where
  same_history : (store_told w).history ≡ history
  same_history = ap (λ (s : State). s.store.history) keeps.1 ∙ sym told

  pub is_sound : Possible w → IsSound history
  is_sound p = subst IsSound (same_history) (sound_told w p keeps.0.whole)

  pub is_wide : (columns : ℕ) → w.limits.columns ≡ columns → AreWide columns history
  is_wide columns same = subst (λ (n : ℕ). AreWide n history) same (subst (AreWide w.limits.columns) (same_history) (wide_told w))

-- ---- a whole script

-- what a crash leaves
pub left_is : (limits : Limits) (ending : Ending) (content synced : List ℕ) (torn : Bool) → IsRecoverable limits (commits_of true ending) content → IsRecoverable limits (commits_of false ending) synced
    → IsRecoverable limits (commits_of torn ending) (left_by (record { synced = synced; torn = torn }) content)
left_is limits ending content synced true written lasting = written
left_is limits ending content synced false written lasting = lasting

pub can_recover : (limits : Limits) (disk : MemDisk) (text : List ℕ) (ending : Ending) → HasEnded limits disk text ending → IsRecoverable limits (commits_of (disk_torn disk) ending) (left_by (disk_outcome disk) (disk_content disk))
can_recover limits disk text ending has_ended = left_is limits ending (disk_content disk) (disk_synced disk) (disk_torn disk) has_ended.written has_ended.synced

-- it is recovered behind a run
pub is_crashed : (limits : Limits) (bytes stop : ℕ) (torn : Bool) (script : List Line) (disk : MemDisk) (before text : List ℕ) (left : Store × Crew) → disk_torn disk ≡ torn → HasEnded limits disk before (ending_of limits bytes stop script)
    → HasRecovered limits disk before text left → IsCrashed limits bytes stop torn script text left
is_crashed limits bytes stop torn script disk before text left same has_ended found =
    let ending = ending_of limits bytes stop script in
    let commits = commits_of (disk_torn disk) ending in
    let can = can_recover limits disk before ending has_ended in
    subst (λ (b : Bool). IsCrashed limits bytes stop b script text left) same record {
      is_text = found.is_text commits can ∙ ap (λ (t : List ℕ). t ++ recovered_text commits) has_ended.is_text;
      holds = found.holds commits can;
    }
