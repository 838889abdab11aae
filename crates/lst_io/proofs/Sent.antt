-- What two writes take, one after the other.
use Rattle.std.proofs.Common.{ℕ, ◌+◌, ◌-◌, List, length, take, drop, subst, sym, Option}
use Rattle.std.proofs.Math.Seq.{take-add}
use Rattle.std.proofs.lemmas.List.{take_rest}
use Rattle.std.specs.Io.KnownBytes.{Appends}
use Rattle.std.proofs.KnownBytes.{Appends-trans}

-- a sink that took the first bytes, and then some of the rest, took that many more of them
pub sent_more : (a b c : Option (List ℕ)) (at count : ℕ) (bytes : List ℕ) → Appends a b (take at bytes)
    → Appends b c (take count (take (length bytes - at) (drop at bytes))) → Appends a c (take (at + count) bytes)
sent_more a b c at count bytes before more =
    let rest : Appends b c (take count (drop at bytes)) = subst (λ (tail : List ℕ). Appends b c (take count tail)) (take_rest bytes at) more in
    subst (Appends a c) (sym (take-add at count bytes)) (Appends-trans a b c (take at bytes) (take count (drop at bytes)) before rest)
