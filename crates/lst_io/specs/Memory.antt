-- What a source and a sink over memory show of themselves, and what a call does.
use Rattle.std.specs.Prelude.{◌≡◌, ◌↔◌, ◌⊎◌, ℕ, ◌+◌, ◌-◌, ◌^◌, ◌<◌, min, List, [], length, drop, Result, Contains, IsErr, IfOk}
use Rattle.lst_io.specs.declared.ends.Failed.{Failed}
use Rattle.lst_model.specs.Faults.{faults_after}
use Rattle.lst_io.specs.declared.memory.MemSource.{MemSource}
use Rattle.lst_io.specs.declared.memory.MemSink.{MemSink}

-- the number of a call, counted from 1; it stands still at the last value that a `u64` has
abbrev pub next_call : ℕ → ℕ
next_call calls = min (calls + 1) (2 ^ 64 - 1)

-- the bytes that a source has left
abbrev pub source_left : MemSource → List ℕ
source_left s = drop s.given s.bytes

-- how often a source has failed
abbrev pub source_faults : MemSource → ℕ
source_faults s = s.faults

-- a source of these bytes that was not read yet
pub record IsNewSource (given named : List ℕ) (most : ℕ) (s : MemSource) : Type 0 where
  pub left : source_left s ≡ given
  pub fails : s.fails ≡ named
  pub step : s.step ≡ most
  pub calls : s.calls ≡ 0
  pub faults : source_faults s ≡ 0

-- a read into a piece with this much room fails exactly at a call that is named, and else gives what step, bytes and room allow
pub record GivesAsTold (old new : MemSource) (room : ℕ) (result : Result ℕ Failed) : Type 0 where
  pub fails : new.fails ≡ old.fails
  pub step : new.step ≡ old.step
  pub calls : new.calls ≡ next_call old.calls
  pub named : IsErr result ↔ Contains old.fails new.calls
  pub given : IfOk result (λ count. count ≡ min (min (length (source_left old)) old.step) room)
  pub faults : new.faults ≡ faults_after old.faults result

-- the bytes that a sink has taken
abbrev pub sink_taken : MemSink → List ℕ
sink_taken s = s.bytes.items

-- how often a sink has failed
abbrev pub sink_faults : MemSink → ℕ
sink_faults s = s.faults

-- a sink that has taken nothing yet
pub record IsNewSink (named : List ℕ) (most : ℕ) (s : MemSink) : Type 0 where
  pub taken : sink_taken s ≡ []
  pub fails : s.fails ≡ named
  pub step : s.step ≡ most
  pub calls : s.calls ≡ 0
  pub faults : sink_faults s ≡ 0

-- how many bytes of a piece a sink with room for so many bytes in all takes at a call
abbrev pub accepted_by : ℕ → MemSink → ℕ → ℕ
accepted_by room s length_of_piece = min length_of_piece (min (room - length (sink_taken s)) s.step)

-- a write of a piece of this length fails exactly at a call that is named or where no byte of it can be taken
pub record TakesAsTold (room : ℕ) (old new : MemSink) (length_of_piece : ℕ) (result : Result ℕ Failed) : Type 0 where
  pub fails : new.fails ≡ old.fails
  pub step : new.step ≡ old.step
  pub calls : new.calls ≡ next_call old.calls
  pub named : IsErr result ↔ (Contains old.fails new.calls ⊎ ((accepted_by room old length_of_piece ≡ 0) × (0 < length_of_piece)))
  pub taken : IfOk result (λ count. count ≡ accepted_by room old length_of_piece)
  pub faults : new.faults ≡ faults_after old.faults result
