-- Spare frames: that they are the merger's, and that one is in nobody's hand.
use Rattle.std.specs.Prelude.{◌≡◌, ℕ, ◌<◌, List, None}
use Rattle.lst_layout.specs.Words.{shown}
use Rattle.lst_core_state.specs.declared.known.Known.{Known}
use Rattle.lst_core_state.specs.declared.pages.Retired.{Retired}
use Rattle.lst_pages.specs.Sound.{Outside}
use Rattle.lst_pages.specs.State.{hand_of}
use Rattle.lst_rule.specs.declared.view.View.{View}
use Rattle.lst_rule.specs.Rule.{Allowed}
use Rattle.lst_rule.specs.PageSteps.{stock_of}

-- these are the retired frames that the merger knows, and no frame waits to be retired. A program that merges keeps it so between its merges
pub record AreSpares (v : View) (spares : List Retired) : Type 0 where
  pub retired : spares ≡ (stock_of v).retired
  pub idle : (stock_of v).waiting ≡ None

-- in each state that the view allows, no session has the frame in hand, and no page has it
pub record IsUnused (v : View) (frame : ℕ) : Type 0 where
  pub unread : (words : List ℕ) (known : ℕ → Known) (merger : Known) → Allowed v words known merger → (s : ℕ) → s < v.limits.sessions → hand_of (known s).pages.session frame ≡ None
  pub unlisted : (words : List ℕ) (known : ℕ → Known) (merger : Known) → Allowed v words known merger → Outside v.limits (shown v.limits words).directory frame
