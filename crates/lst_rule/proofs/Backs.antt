-- The back word of a version.
use Rattle.std.proofs.Common.{◌≡◌, ℕ, ◌+◌, ◌*◌, ◌^◌, ◌<◌, ◌≤◌, true, List, refl, sym, subst, arith}
use Rattle.std.proofs.lemmas.Nat.{mul-le}
use Rattle.lst_layout.specs.declared.limits.Limits.{Limits}
use Rattle.lst_layout.specs.declared.place.Place.TheVariants.{CellWord}
use Rattle.lst_layout.specs.Addresses.{IsWithin}
use Rattle.lst_core_state.specs.declared.facts.Fact.{Fact}
use Rattle.lst_rule.specs.declared.view.View.{View}
use Rattle.lst_rule.specs.Rule.{knows, hosts}
use Rattle.lst_rule.specs.Stores.{Looked}
use Rattle.lst_rule.specs.Copies.{IsLinked}
use Rattle.lst_rule.specs.Loads.{IsBack}
use Rattle.lst_rule.specs.Watching.{Watched}
use Rattle.lst_rule.proofs.Finding.{words_are_found}
use Rattle.lst_rule.proofs.Watching.{looks_watch}

pub linked_word : (l : Limits) (facts : List Fact) (tail p : ℕ) → p < 3 + l.columns → IsLinked l facts tail → IsWithin l (CellWord tail p)
linked_word l facts tail p inside (rec, c, is, known, at, few) = let a = is.some in let b = is.few in (omega arith, omega arith, inside)

module _ (v w : View) (s tail x : ℕ) (hosted : hosts v s ≡ true) (h : Looked v w s (CellWord tail 2) x) where
  pub back_is : IsBack v.limits (knows v s).facts tail x
  back_is rec c is known at = (words_are_found v w s rec 2 x c hosted is known (omega arith) (subst (λ (t : ℕ). Looked v w s (CellWord t 2) x) (sym at) h).met).back refl

  pub back_watched : IsLinked v.limits (knows v s).facts tail → Watched v w s
  back_watched linked = looks_watch v w s x (CellWord tail 2) hosted (linked_word v.limits (knows v s).facts tail 2 (omega arith) linked) tt h.met

  pub back_few : IsLinked v.limits (knows v s).facts tail → x < 2 ^ 32
  back_few (rec, c, is, known, at, few) = let e = back_is rec c is known at in let a = h.met.made.told.allowed.sound.sized.tails.1 in omega arith

-- ---- tails by range and number

pub product_few : (range ranges tails count : ℕ) → range < ranges → ranges ≤ 64 → tails ≤ 16384 → count ≡ tails → range * count ≤ 64 * 16384
product_few range ranges tails count low few some same = mul-le range count 64 16384 (omega arith) (omega arith)
