-- Whether a column has an index, by its bit.
use Rattle.std.proofs.Common.{◌≡◌, ◌≢◌, ◌↔◌, ℕ, ◌*◌, ◌^◌, Bool, true, false, not, IsTrue, bit_and, sym, ap, refl, arith, eq-eqb, ne_eqb, true≢false}
use Rattle.std.specs.Int.{bit_at}
use Rattle.std.proofs.lemmas.Nat.{pow_pos}
use Rattle.std.proofs.lemmas.Nat.Bits.{and_pow}
use Rattle.lst_layout.specs.declared.limits.Limits.{Limits}
use Rattle.lst_layout.specs.Areas.{IsIndexed}
use Rattle.lst_machine.specs.Calls.{is_indexed}

pub indexed : (l : Limits) (c : ℕ) → IsIndexed l c → is_indexed l c ≡ true
indexed l c is = ap not (ne_eqb (bit_and l.indexed (2 ^ c)) 0 (λ z. let e = and_pow l.indexed c in let f : bit_at l.indexed c * 2 ^ c ≡ 1 * 2 ^ c = ap (λ (b : ℕ). b * 2 ^ c) is in let p = pow_pos c in omega arith))

unset : (l : Limits) (c : ℕ) → bit_at l.indexed c ≡ 0 → is_indexed l c ≡ false
unset l c is = ap not (eq-eqb (bit_and l.indexed (2 ^ c)) 0 (let e = and_pow l.indexed c in let f : bit_at l.indexed c * 2 ^ c ≡ 0 * 2 ^ c = ap (λ (b : ℕ). b * 2 ^ c) is in omega arith))

pub not_indexed : (l : Limits) (c : ℕ) → ¬ IsIndexed l c → is_indexed l c ≡ false
not_indexed l c none = unset l c (let n : bit_at l.indexed c ≢ 1 = none in omega arith)

pub index_is : (l : Limits) (c : ℕ) (b : Bool) → (IsTrue b ↔ IsIndexed l c) → b ≡ is_indexed l c
index_is l c true is = sym (indexed l c (is.0 refl))
index_is l c false is = sym (not_indexed l c (λ e. true≢false (sym (is.1 e))))
