use Rattle.std.proofs.Common.{◌≡◌, sym, ap, subst, arith, List, ℕ, Err, length}
use Rattle.lst_historic.specs.Places.{IsBuiltAt, HasBlock}
use Rattle.lst_historic.specs.declared.historic.TableRefused.TheVariants.{Late}
use Rattle.lst_historic.proofs.Made.{of_history}
use Rattle.lst_historic.proofs.Placed.{built_once}
use Rattle.lst_historic.proofs.historic.Historic.table.Goals as goal

pub returns-then-time-self-clause-late : goal.returns-then-time-self-clause-late
returns-then-time-self-clause-late c = λ until is.
    let h = c.self.inside in
    let same : until ≡ h.until = built_once h.bytes h.columns h.until h.places.items c.self.invariant until (subst (λ (b : List ℕ). IsBuiltAt b until) (sym c.self.view_is) is) in
    (λ e. omega (arith, same, c.if-time-self.true), λ low. ap (λ t. Err (Late t)) (sym same))

pub returns-in-Ok-clause-late : goal.returns-in-Ok-clause-late
returns-in-Ok-clause-late c = λ until is.
    let h = c.self.inside in
    let same : until ≡ h.until = built_once h.bytes h.columns h.until h.places.items c.self.invariant until (subst (λ (b : List ℕ). IsBuiltAt b until) (sym c.self.view_is) is) in
    (λ e. absurd (cc), λ low. absurd (omega (arith, same, low, c.if-time-self.false)))

pub returns-in-Err-clause-late : goal.returns-in-Err-clause-late
returns-in-Err-clause-late c = λ until is.
    let h = c.self.inside in
    let same : until ≡ h.until = built_once h.bytes h.columns h.until h.places.items c.self.invariant until (subst (λ (b : List ℕ). IsBuiltAt b until) (sym c.self.view_is) is) in
    (λ e. absurd (cc), λ low. absurd (omega (arith, same, low, c.if-time-self.false)))

pub returns-in-Ok-clause-early : goal.returns-in-Ok-clause-early
returns-in-Ok-clause-early c = λ columns history has ok.
    let h = c.self.inside in
    let held = c.self.invariant in
    let is = of_history h.bytes h.columns h.until held.chains columns history held.block (subst (HasBlock columns history) (sym c.self.view_is) has) in
    let same : length history ≡ h.until = is.1 in
    omega (arith, same, c.if-time-self.false)
