-- A settled tail on the page core's cells.
use Rattle.std.proofs.Common.{◌≡◌, ℕ, ◌<◌, List, [], ◌∷◌, ◌++◌, Result, Ok, Err, OnOk, OnErr, sym, subst, ap, ◌∙◌, arith, slice_index_or, slice_set}
use Rattle.std.proofs.lemmas.List.{get_or_default, set-get_or}
use Rattle.lst_model.specs.declared.memory.OutOfMemory.{OutOfMemory}
use Rattle.lst_pages.specs.declared.tails.PageTail.{PageTail}
use Rattle.lst_pages.specs.Step.{settled}
use Rattle.lst_core_pages.specs.Cells.{Cells, IsCore, pages_of, settled_in}
use Rattle.lst_core_pages.proofs.Steppings.{settle_state, settle_core}

module _ (c v : Cells) (same : c ≡ v) (is : IsCore c) (r : ℕ) (t : PageTail) (low : r < v.limits.ranges) (old new : List PageTail) (read : old ≡ slice_index_or c.tails r old) where
  abbrev pub with_tails : Cells
  with_tails = record c { tails = slice_set c.tails r new }

  here : r < c.limits.ranges
  here = subst (λ (u : Cells). r < u.limits.ranges) (sym same) low

  old_is : old ≡ slice_index_or c.tails r []
  old_is = read ∙ get_or_default c.tails r old [] (let long = is.each_range in let h = here in omega arith)

  more : new ≡ old ++ t ∷ [] → with_tails ≡ settled_in c r t
  more e = λ i. record c { tails = slice_set c.tails r ((e ∙ ap (λ (ts : List PageTail). ts ++ t ∷ []) old_is) i) }

  none : new ≡ old → with_tails ≡ c
  none e = λ i. record c { tails = (ap (slice_set c.tails r) (e ∙ old_is) ∙ set-get_or c.tails r []) i }

  pub pushed_core : (res : Result (Unit {0}) OutOfMemory) → OnOk res (new ≡ old ++ t ∷ []) → OnErr res (new ≡ old) → IsCore with_tails
  pushed_core (Ok x) ok err = subst IsCore (sym (more ok)) (settle_core c is r t here)
  pushed_core (Err x) ok err = subst IsCore (sym (none err)) is

  pub pushed_state : (res : Result (Unit {0}) OutOfMemory) → OnOk res (new ≡ old ++ t ∷ []) → OnErr res (new ≡ old) → OnOk res (pages_of with_tails ≡ settled (pages_of v) r t)
  pushed_state (Ok x) ok err = ap pages_of (more ok) ∙ settle_state c is r t here ∙ ap (λ (u : Cells). settled (pages_of u) r t) same
  pushed_state (Err x) ok err = tt
