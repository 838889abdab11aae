-- Of which tail records a call loads words.
use Rattle.std.specs.Prelude.{◌≡◌, ℕ, List, ◌++◌}
use Rattle.std.specs.List.{Contains}
use Rattle.lst_core_state.specs.declared.facts.Find.{Find}
use Rattle.lst_core_state.specs.declared.facts.Find.TheVariants.{TailLoad}
use Rattle.lst_rule.specs.declared.view.View.{View}
use Rattle.lst_rule.specs.Rule.{knows}

-- between v and w the session s loaded words of no other tail records than such
pub record LoadsOf (v w : View) (s : ℕ) (P : ℕ → Type 0) : Type 0 where
  pub more : List Find
  pub finds : (knows w s).finds ≡ (knows v s).finds ++ more
  pub each : (t : ℕ) → Contains more (TailLoad t) → P t

-- of this tail record alone
abbrev pub LoadsTail : View → View → ℕ → ℕ → Type 0
LoadsTail v w s tail = LoadsOf v w s (λ t. t ≡ tail)
