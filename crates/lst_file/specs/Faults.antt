-- What a write or a sync of a disk over a file does to it.
use Rattle.std.specs.Prelude.{◌≡◌, true, false, ◌∷◌, Result, IsErr, OnOk, OnErr, MatchResult}
use Rattle.lst_model.specs.Faults.{faults_after}
use Rattle.lst_file.specs.Events.{Event}
use Rattle.lst_file.specs.declared.calls.Calls as calls
use Rattle.lst_file.specs.declared.file_disk.FileDisk.{FileDisk}
use Rattle.lst_file.specs.Files.{file_events, file_offset, file_faults, file_is_dead, file_has_copy}

module _ {F : Type 0} {g : calls.Ghosts F} where
  -- One call of the file is made, and noted by its outcome. One that fails leaves the disk dead. A dead disk fails, and no call is made.
  pub record Makes {T E : Type 0} (made missed : Event) (old new : FileDisk F g) (result : Result T E) : Type 0 where
    pub alive : file_is_dead old ≡ false → MatchResult result (λ _. file_events new ≡ made ∷ file_events old) (λ _. file_events new ≡ missed ∷ file_events old)
    pub dead : file_is_dead old ≡ true → IsErr result × (file_events new ≡ file_events old)
    pub kills : OnErr result (file_is_dead new ≡ true)
    pub lives : OnOk result (file_is_dead new ≡ file_is_dead old)
    pub faults : file_faults new ≡ faults_after (file_faults old) result
    pub offset : file_offset new ≡ file_offset old
    pub copy : file_has_copy new ≡ file_has_copy old
