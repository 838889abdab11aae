-- The seat of a store that opens.
use Rattle.std.proofs.Common.{◌≡◌, ℕ, ◌+◌, List, replicate, length, get_or, sym, ap, ◌∙◌, arith}
use lib.ListN.{get_or-replicate, length-replicate}
use Rattle.lst_layout.specs.declared.limits.Limits.{Limits}
use Rattle.lst_layout.specs.Limits.{IsValid}
use Rattle.lst_layout.specs.Words.{IsOpening}
use Rattle.lst_core_state.specs.State.{newcomer}
use Rattle.lst_core_state.specs.declared.numbers.Numbers.{Numbers}
use Rattle.lst_core_state.specs.Numbers.{numbers_of}
use Rattle.lst_core_state.specs.Numbers.{newcomer_numbers}
use Rattle.lst_core_state.proofs.Numbered.{newcomer_is}
use Rattle.lst_rule.specs.Rule.{crew}
use Rattle.lst_rule.proofs.Opening.{same_at, crew_possible}
use Rattle.lst_rule.specs.Learned.{Possible}
use Rattle.lst_rule.specs.Seats.{Tells, told}

pub crew_tells : (l : Limits) → IsValid l → (ws : List ℕ) → IsOpening l ws → (numbers : List Numbers) → numbers ≡ replicate (l.sessions + 1) newcomer_numbers → Tells (crew l) numbers
crew_tells l sized ws opens numbers is = record {
  possible = possible;
  all = λ s h. let low = possible.allowed.low s h in let e = ap length is ∙ length-replicate (l.sessions + 1) newcomer_numbers in omega arith;
  is = λ s h. let low = possible.allowed.low s h in
      ap (λ (ns : List Numbers). get_or ns s (told (crew l) s)) is ∙ (get_or-replicate (l.sessions + 1) s newcomer_numbers (told (crew l) s) (omega arith) ∙ sym (ap numbers_of (same_at (l.sessions + 1) s (newcomer l)) ∙ newcomer_is l));
}
  where
    possible : Possible (crew l)
    possible = crew_possible l sized ws opens
