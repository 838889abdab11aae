-- What making a disk over a file longer does to it.
use Rattle.std.specs.Prelude.{◌≡◌, ℕ, ◌+◌, ◌^◌, ◌≤◌, ◌↔◌, true, false, Result, Err, OnOk, IsOk}
use Rattle.lst_file.specs.declared.calls.Calls as calls
use Rattle.lst_file.specs.declared.file_disk.FileDisk.{FileDisk}
use Rattle.lst_file.specs.declared.faults.GrowFault.{GrowFault}
use Rattle.lst_file.specs.declared.faults.GrowFault.TheVariants.{Disk, TooLong}
use Rattle.lst_model.specs.Faults.{Rose}
use Rattle.lst_file.specs.Files.{file_events, file_offset, file_content, file_faults, file_is_dead, file_has_copy}
use Rattle.std.specs.Prelude.{length}

module _ {F : Type 0} {g : calls.Ghosts F} where
  -- It is refused as too long exactly where the file's places would be more than a `u64` has. A disk that fails is dead, and a dead one fails; in both cases no call is made.
  pub record Grows {T : Type 0} (more : ℕ) (old new : FileDisk F g) (result : Result T GrowFault) : Type 0 where
    pub long : (result ≡ Err TooLong) ↔ (2 ^ 64 ≤ file_offset old + length (file_content old) + more)
    pub refused : result ≡ Err TooLong → (file_events new ≡ file_events old) × (file_faults new ≡ file_faults old) × (file_is_dead new ≡ file_is_dead old)
    pub dead : file_is_dead old ≡ true → (file_events new ≡ file_events old) × (IsOk result → ⊥)
    pub kills : result ≡ Err Disk → (file_is_dead new ≡ true) × Rose (file_faults old) (file_faults new)
    pub lives : OnOk result ((file_is_dead new ≡ false) × (file_faults new ≡ file_faults old))
    pub offset : file_offset new ≡ file_offset old
    pub copy : file_has_copy new ≡ false
