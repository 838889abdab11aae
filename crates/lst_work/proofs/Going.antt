-- What a session needs at each of its lines so that none is refused.
use Rattle.std.proofs.Common.{◌≡◌, ℕ, ◌<◌, List, [], ◌∷◌, ◌++◌, Some, None, refl}
use Rattle.lst_model.specs.declared.acts.Act.{Act}
use Rattle.lst_model.specs.declared.acts.Act.TheVariants.{Put, Set}
use Rattle.lst_model.specs.declared.acts.Write.{Write}
use Rattle.lst_model.specs.declared.lines.Line.{Line}
use Rattle.lst_model.specs.declared.lines.Line.TheVariants.{Phase, Merge, Call}
use Rattle.lst_model.specs.declared.lines.Call.{Call as CallKind}
use Rattle.lst_model.specs.declared.lines.Call.TheVariants.{Begin, Insert, Update, Sum, Count, Commit}
use Rattle.lst_model.specs.Histories.{acts_on, row_from}
use Rattle.lst_model.specs.Soundness.{Fits}
use Rattle.lst_work.specs.Scripted.{Doing, doing_after, doing_behind}
use Rattle.lst_work.proofs.Lists.{acts_in, Has}

-- the row of the key that the open transaction sees fits the act, and the key is the session's
pub record CanWrite (n s key : ℕ) (act : Act) (d : Doing) : Type 0 where
  pub own : List Write
  pub is : d.current ≡ Some own
  pub has : Has n s key
  pub fits : Fits (row_from None (acts_in key d.done ++ acts_on key own)) act

abbrev pub Can : ℕ → ℕ → ℕ → CallKind → Doing → Type 0
Can txns n s Begin d = (d.current ≡ None) × (d.begun < txns)
Can txns n s (Insert key row) d = CanWrite n s key (Put row) d
Can txns n s (Update key patch) d = CanWrite n s key (Set patch) d
Can txns n s (Sum column) d = (own : List Write) × (d.current ≡ Some own)
Can txns n s Count d = (own : List Write) × (d.current ≡ Some own)
Can txns n s Commit d = (own : List Write) × (d.current ≡ Some own)
Can txns n s call d = ⊥

-- from here on it can do all its lines
abbrev pub Goes : ℕ → ℕ → ℕ → Doing → List Line → Type 0
Goes txns n s d [] = Unit {0}
Goes txns n s d (Phase ∷ lines) = Goes txns n s d lines
Goes txns n s d (Merge range column ∷ lines) = Goes txns n s d lines
Goes txns n s d (Call t call ∷ lines) = (t ≡ s → Can txns n s call d) × Goes txns n s (doing_after s (Call t call) d) lines

module _ (txns n s : ℕ) where
  pub goes_on : (xs ys : List Line) (d : Doing) → Goes txns n s d xs → Goes txns n s (doing_behind s xs d) ys → Goes txns n s d (xs ++ ys)
  goes_on [] ys d one two = two
  goes_on (Phase ∷ xs) ys d one two = goes_on xs ys d one two
  goes_on (Merge range column ∷ xs) ys d one two = goes_on xs ys d one two
  goes_on (Call t call ∷ xs) ys d one two = (one.0, goes_on xs ys (doing_after s (Call t call) d) one.1 two)

  pub behind_on : (xs ys : List Line) (d : Doing) → doing_behind s (xs ++ ys) d ≡ doing_behind s ys (doing_behind s xs d)
  behind_on [] ys d = refl
  behind_on (x ∷ xs) ys d = behind_on xs ys (doing_after s x d)
