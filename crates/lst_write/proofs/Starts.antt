-- What a start word and a state word say.
use Rattle.std.proofs.Common.{◌≡◌, ℕ, ◌/◌, ◌%◌, ◌^◌, ◌<◌, Bool, true, false, eqb, refl, arith, eqb-true}
use Rattle.std.proofs.lemmas.Bool.{eqb-false}
use Rattle.lst_bits.specs.Starts.{IsStartWord}
use Rattle.lst_core_state.specs.declared.known.Known.{Known}
use Rattle.lst_layout.specs.declared.limits.Limits.{Limits}
use Rattle.lst_layout.specs.Limits.{IsValid}
use Rattle.lst_rule.specs.Copies.{Version, IsVersionOf}
use Rattle.lst_rule.specs.Loads.{StartFound}

pub start_word_few : (l : Limits) (k : Known) (rec x : ℕ) (c : Version) → IsValid l → IsVersionOf l rec c → (x % 2 ≡ 0 → x / 2 < 2 ^ 32) → StartFound k rec c x → IsStartWord x
start_word_few l k rec x c valid is even found = (choose (eqb (x % 2) 0) refl, λ odd. few odd)
  where
    few : x % 2 ≡ 1 → x < 2 ^ 37
    few odd = let e = found.named odd in let a = valid.txns.1 in let n = is.number in omega arith

    choose : (b : Bool) → eqb (x % 2) 0 ≡ b → x < 2 ^ 64
    choose true e = let h = even (eqb-true (x % 2) 0 e) in omega arith
    choose false e = let h = few (let ne = eqb-false (x % 2) 0 e in omega arith) in omega arith
