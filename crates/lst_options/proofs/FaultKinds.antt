-- Kinds of faults.
use Rattle.std.proofs.Common.{◌≡◌, [], ◌∷◌, inl, inr}
use Rattle.clap.specs.Words.{HasKind, IsAmong, Kinds, kind_of}
use Rattle.clap.specs.declared.error.Error.{Error}
use Rattle.clap.specs.declared.error.kind.ErrorKind.{ErrorKind}
use Rattle.clap.specs.declared.error.kind.ErrorKind.TheVariants.{OutOfMemory}

among_none : (kind : ErrorKind) (kinds : Kinds) → IsAmong kind kinds → ¬ (kinds ≡ [])
among_none kind [] among none = among
among_none kind (k ∷ kinds) among none = absurd (cc)

-- an error for another cause than want of memory has a kind
pub has_a_kind : (kinds : Kinds) (e : Error) → HasKind kinds e → ¬ (kind_of e ≡ OutOfMemory) → ¬ (kinds ≡ [])
has_a_kind kinds e has other none = elim has [
  | inl memory ↦ other memory
  | inr among ↦ among_none (kind_of e) kinds among none
]
