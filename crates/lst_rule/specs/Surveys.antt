-- A seat that hosts every session and the merger takes stock of all words.
use Rattle.std.specs.Prelude.{◌≡◌, ℕ, ◌≤◌, List, true}
use Rattle.atomic_table.specs.Table.{Allows, Step}
use Rattle.lst_layout.specs.declared.limits.Limits.{Limits}
use Rattle.lst_core_state.specs.declared.known.Known.{Known}
use Rattle.lst_rule.specs.declared.view.View.{View}
use Rattle.lst_rule.specs.Rule.{hosts, Ruled, Allowed, Sat}

-- every session and the merger, which has the number of the sessions
abbrev pub HostsAll : View → Type 0
HostsAll v = (s : ℕ) → s ≤ v.limits.sessions → hosts v s ≡ true

-- the view, but with these words, and each known
abbrev pub surveyed : View → List ℕ → View
surveyed v words = record v { whole = true; words = words }

-- w is v, but knows each word, as the store had it in a state that was met
pub record Surveyed (v w : View) : Type 0 where
  pub words : List ℕ
  pub known : ℕ → Known
  pub merger : Known
  pub allowed : Allowed v words known merger
  pub now : w ≡ surveyed v words

-- what the load tells that takes stock
abbrev pub surveys : Step (Unit {0}) → Sat → ℕ → Sat → Type 0
surveys st m r n = Surveyed m.0 n.0 × (n.1 ≡ m.1)

-- by a load of whichever word, a seat that hosts everybody may come to know each word
abbrev pub SeatsMaySurvey : Type 0
SeatsMaySurvey = (l : Limits) (slots id : ℕ) (m : Sat) (i : ℕ) → HostsAll m.0 → Allows (Ruled l) slots id m i (λ x. x) (λ x n. Surveyed m.0 n.0 × (n.1 ≡ m.1))
