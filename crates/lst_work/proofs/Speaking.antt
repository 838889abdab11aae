-- Calls of one session, one after the other, in a script.
use Rattle.std.proofs.Common.{◌≡◌, ◌≢◌, ℕ, Bool, cond, List, [], ◌∷◌, refl, sym, ap, subst, ◌∙◌}
use Rattle.std.proofs.lemmas.Bool.{eq-eqb, ne_eqb}
use Rattle.lst_model.specs.declared.lines.Line.{Line}
use Rattle.lst_model.specs.declared.lines.Line.TheVariants.{Call}
use Rattle.lst_model.specs.declared.lines.Call.{Call as CallKind}
use Rattle.lst_work.specs.Scripted.{Doing, doing_after_call, doing_after, doing_behind}
use Rattle.lst_work.proofs.Going.{Can, Goes}

abbrev pub spoken : ℕ → List CallKind → List Line
spoken t [] = []
spoken t (call ∷ calls) = Call t call ∷ spoken t calls

abbrev pub all_done : List CallKind → Doing → Doing
all_done [] d = d
all_done (call ∷ calls) d = all_done calls (doing_after_call call d)

abbrev pub CanAll : ℕ → ℕ → ℕ → List CallKind → Doing → Type 0
CanAll txns n j [] d = Unit {0}
CanAll txns n j (call ∷ calls) d = Can txns n j call d × CanAll txns n j calls (doing_after_call call d)

module _ (txns n j t : ℕ) where
  own_after : t ≡ j → (call : CallKind) (d : Doing) → doing_after j (Call t call) d ≡ doing_after_call call d
  own_after is call d = ap (λ (b : Bool). cond b (doing_after_call call d) d) (eq-eqb t j is)

  other_after : t ≢ j → (call : CallKind) (d : Doing) → doing_after j (Call t call) d ≡ d
  other_after other call d = ap (λ (b : Bool). cond b (doing_after_call call d) d) (ne_eqb t j other)

  pub own_goes : t ≡ j → (calls : List CallKind) (d : Doing) → CanAll txns n j calls d → Goes txns n j d (spoken t calls)
  own_goes is [] d can = tt
  own_goes is (call ∷ calls) d can = (λ same. can.0, subst (λ (x : Doing). Goes txns n j x (spoken t calls)) (sym (own_after is call d)) (own_goes is calls (doing_after_call call d) can.1))

  pub own_behind : t ≡ j → (calls : List CallKind) (d : Doing) → doing_behind j (spoken t calls) d ≡ all_done calls d
  own_behind is [] d = refl
  own_behind is (call ∷ calls) d = ap (λ (x : Doing). doing_behind j (spoken t calls) x) (own_after is call d) ∙ own_behind is calls (doing_after_call call d)

  pub other_goes : t ≢ j → (calls : List CallKind) (d : Doing) → Goes txns n j d (spoken t calls)
  other_goes other [] d = tt
  other_goes other (call ∷ calls) d = (λ same. absurd (other same), subst (λ (x : Doing). Goes txns n j x (spoken t calls)) (sym (other_after other call d)) (other_goes other calls d))

  pub other_behind : t ≢ j → (calls : List CallKind) (d : Doing) → doing_behind j (spoken t calls) d ≡ d
  other_behind other [] d = refl
  other_behind other (call ∷ calls) d = ap (λ (x : Doing). doing_behind j (spoken t calls) x) (other_after other call d) ∙ other_behind other calls d
