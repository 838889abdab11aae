use Rattle.std.proofs.Common.{◌≡◌, sym, subst, refl, arith, List, ℕ}
use Rattle.lst_historic.specs.Places.{IsBuiltAt}
use Rattle.lst_historic.proofs.Placed.{built_once}
use Rattle.lst_historic.proofs.historic.Historic.row.Goals as goal

pub returns-then-time-self-clause-late : goal.returns-then-time-self-clause-late
returns-then-time-self-clause-late c = λ until is.
    let h = c.self.inside in
    let same : until ≡ h.until = built_once h.bytes h.columns h.until h.places.items c.self.invariant until (subst (λ (b : List ℕ). IsBuiltAt b until) (sym c.self.view_is) is) in
    (λ e. omega (arith, same, c.if-time-self.true), λ low. refl)

pub returns-clause-late : goal.returns-clause-late
returns-clause-late c = λ until is.
    let h = c.self.inside in
    let same : until ≡ h.until = built_once h.bytes h.columns h.until h.places.items c.self.invariant until (subst (λ (b : List ℕ). IsBuiltAt b until) (sym c.self.view_is) is) in
    (λ e. absurd (cc), λ low. absurd (omega (arith, same, low, c.if-time-self.false)))
