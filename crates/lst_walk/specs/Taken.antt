-- A page that a session has taken in hand.
use Rattle.std.specs.Prelude.{◌≡◌, ℕ, Some, slice_index}
use Rattle.lst_core_state.specs.declared.pages.PageInHand.{PageInHand}
use Rattle.lst_pages.specs.Frames.{tps_in}
use Rattle.lst_pages.specs.State.{hand_of}
use Rattle.lst_rule.specs.declared.view.View.{View}
use Rattle.lst_rule.specs.Rule.{knows}

-- the session s has the page of the range and the column in hand, in this frame, and this is its TPS
pub record Keeps (v : View) (s range column frame lineage : ℕ) : Type 0 where
  pub page : PageInHand
  pub in_hand : hand_of (knows v s).pages.session frame ≡ Some page
  pub names : (page.range ≡ range) × (page.column ≡ column)
  pub tps : lineage ≡ tps_in (slice_index page.words)
