-- The first opening, over a disk of zeros: where it fails, and where a run starts.
use Rattle.std.proofs.Common.{◌≡◌, ℕ, zero, suc, ◌-◌, ◌≤◌, false, List, [], length, replicate, codes, Some, refl, sym, ap, ◌∙◌, subst, arith}
use Rattle.std.proofs.lemmas.List.{length-replicate}
use Rattle.lst_layout.specs.declared.limits.Limits.{Limits}
use Rattle.lst_model.specs.declared.commits.Commit.{Commit}
use Rattle.lst_model.specs.declared.lines.Line.{Line}
use Rattle.lst_disk.specs.declared.memory.MemDisk.{MemDisk}
use Rattle.lst_disk.specs.Disk.{Only, LeavesOnly}
use Rattle.lst_disk.specs.Memory.{disk_content, disk_clock, disk_images, disk_images_since, disk_synced, disk_outcome, disk_left}
use Rattle.lst_disk.specs.MemoryLaws.{content_stays, synced_stays}
use Rattle.lst_log.specs.Journals.{StandsFor, HasOneList}
use Rattle.lst_log.specs.Stores.{LastsSince}
use Rattle.lst_redo.specs.declared.journal.Redo.{Redo}
use Rattle.lst_redo.specs.Openings.{HasOpened}
use Rattle.lst_crash.specs.Crashes.{most_bytes, start_of, Ending, ending_from, ending_of, limits_again}
use Rattle.lst_crash.specs.Recovering.{IsAt, IsRunning, IsRecoverable, HasEnded}
use Rattle.lst_crash.proofs.Images.{left_now, content_kept, zeros_stand, none_need_room}

module _ (limits : Limits) (disk : MemDisk) (zeros : disk_content disk ≡ replicate (length (disk_content disk)) 0) where
  -- the disk stands for no commits
  pub none_stand : StandsFor limits.columns (disk_content disk) []
  none_stand = subst (λ (content : List ℕ). StandsFor limits.columns content []) (sym zeros) (zeros_stand limits.columns (length (disk_content disk)))

  -- an opened journal is where a run starts
  pub started : HasOneList → (redo : Redo MemDisk) → (commits : List Commit) × HasOpened disk_content disk_images limits disk commits redo → LastsSince disk_content disk_clock disk_images_since disk redo.log.disk
      → (left : ℕ) → disk_left redo.log.disk ≡ left → redo.failed ≡ false → IsAt limits (length (disk_content disk)) (start_of left) redo
  started one redo found lasts left left_is sound =
      let none : found.0 ≡ [] = one limits.columns (disk_content disk) found.0 [] found.1.stood none_stand in
      let has : HasOpened disk_content disk_images limits disk [] redo = subst (λ (commits : List Commit). HasOpened disk_content disk_images limits disk commits redo) none found.1 in record {
        journal = has.journal;
        opened = has.ran.limits_are;
        told = has.state;
        end = has.journal.keeps.end;
        left = left_is;
        size = ap length (content_kept disk redo.log.disk lasts);
        sound = sound;
      }

  -- a disk that failed at once leaves no commits
  pub stopped_at_once : (e : MemDisk) (script : List Line) (bytes stop : ℕ) (text : List ℕ) → Only (disk_content disk) (disk_images disk) → LeavesOnly disk_clock disk_images_since disk e (disk_images disk)
      → stop ≡ 0 → text ≡ codes "stopped\n" → HasEnded limits e text (ending_of limits bytes stop script)
  stopped_at_once e script bytes stop text only run never said =
      let none : (image : List ℕ) → disk_images e image → IsRecoverable limits [] image =
      λ image now. record {
        stands = subst (λ (content : List ℕ). StandsFor limits.columns content []) (sym (only image (left_now disk e (disk_images disk) run image now))) none_stand;
        room = none_need_room (limits_again limits);
      } in
      subst (λ (n : ℕ). HasEnded limits e text (ending_of limits bytes n script)) (sym never) record {
        is_text = said;
        written = none (disk_content e) (content_stays e);
        synced = none (disk_synced e) (synced_stays e (disk_outcome e) refl);
      }

-- a run whose opening was made
pub ending_is : (limits : Limits) (bytes stop : ℕ) (script : List Line) → (stop ≡ 0 → ⊥) → ending_from limits bytes (start_of (stop - 1)) [] script ≡ ending_of limits bytes stop script
ending_is limits bytes zero script never = absurd (never refl)
ending_is limits bytes (suc left) script never = ap (λ (n : ℕ). ending_from limits bytes (start_of n) [] script) (one_less left)
  where
    one_less : (n : ℕ) → suc n - 1 ≡ n
    one_less n = omega arith

pub runs_from_start : (limits : Limits) (bytes left : ℕ) (redo : Redo MemDisk) (text : List ℕ) (script : List Line) → IsAt limits bytes (start_of left) redo → bytes ≤ most_bytes → text ≡ []
    → IsRunning limits bytes redo text script (ending_from limits bytes (start_of left) [] script)
runs_from_start limits bytes left redo text script here few empty = record {
  run = start_of left;
  at = here;
  few = few;
  ends = ap (λ (t : List ℕ). ending_from limits bytes (start_of left) t script) empty;
}

some_left : (a b : ℕ) → Some a ≡ Some b → a ≡ b
some_left a b e = cc

-- an opened journal runs from the start
pub begins_running : (limits : Limits) (disk : MemDisk) → disk_content disk ≡ replicate (length (disk_content disk)) 0 → HasOneList → (redo : Redo MemDisk) → (commits : List Commit) × HasOpened disk_content disk_images limits disk commits redo
    → LastsSince disk_content disk_clock disk_images_since disk redo.log.disk → Some (disk_left redo.log.disk) ≡ Some (disk_left disk - 1) → redo.failed ≡ false → length (disk_content disk) ≤ most_bytes → (text : List ℕ) (script : List Line) → text ≡ []
    → IsRunning limits (length (disk_content disk)) redo text script (ending_from limits (length (disk_content disk)) (start_of (disk_left disk - 1)) [] script)
begins_running limits disk zeros one redo found lasts left sound few text script empty =
    runs_from_start limits (length (disk_content disk)) (disk_left disk - 1) redo text script
    (started limits disk zeros one redo found lasts (disk_left disk - 1) (some_left (disk_left redo.log.disk) (disk_left disk - 1) left) sound) few empty

-- the disk that is handed on is the run's
pub ends_so : (limits : Limits) (bytes stop : ℕ) (script : List Line) (disk other : MemDisk) (text : List ℕ) → (stop ≡ 0 → ⊥) → other ≡ disk → HasEnded limits disk text (ending_from limits bytes (start_of (stop - 1)) [] script)
    → HasEnded limits other text (ending_of limits bytes stop script)
ends_so limits bytes stop script disk other text never same has_ended =
    subst (λ (d : MemDisk). HasEnded limits d text (ending_of limits bytes stop script)) (sym same) (subst (λ (e : Ending). HasEnded limits disk text e) (ending_is limits bytes stop script never) has_ended)

-- ---- a new disk

-- it has as many bytes as it was made with
pub new_size : (disk : MemDisk) (bytes : ℕ) → disk_content disk ≡ replicate bytes 0 → length (disk_content disk) ≡ bytes
new_size disk bytes new = ap length new ∙ length-replicate bytes 0
