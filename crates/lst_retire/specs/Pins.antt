-- A session's pin: set at an epoch that was loaded, and taken away.
use Rattle.std.specs.Prelude.{◌≡◌, ℕ, ◌+◌, [], ◌∷◌, ◌++◌, true, slice_set}
use Rattle.lst_layout.specs.Addresses.{address}
use Rattle.lst_layout.specs.declared.place.Place.TheVariants.{EpochWord, PinWord}
use Rattle.lst_core_state.specs.declared.known.Known.{Known}
use Rattle.lst_core_state.specs.declared.facts.Fact.TheVariants.{EpochAtLeast}
use Rattle.lst_core_state.specs.declared.facts.Find.TheVariants.{FreshEpoch}
use Rattle.lst_pages.specs.declared.events.PageEvent.TheVariants as steps
use Rattle.lst_rule.specs.declared.view.View.{View}
use Rattle.lst_rule.specs.Rule.{knows, hosts}
use Rattle.lst_rule.specs.Learned.{Learns, PageMade}
use Rattle.lst_rule.specs.PageSteps.{pinned_at, unpinned, stock_of}
use Rattle.lst_rule.specs.Stores.{Looked}

-- what is known once the epoch was loaded, and found to be this
abbrev pub epoch_loaded : Known → ℕ → Known
epoch_loaded k epoch = record k { facts = k.facts ++ EpochAtLeast epoch ∷ []; finds = k.finds ++ FreshEpoch epoch ∷ [] }

-- the session s has loaded the epoch, between is the view then, and has set its pin at the epoch that it found. It has set one pin more,
-- and has no frame in hand
pub record Pins (v w : View) (s : ℕ) : Type 0 where
  pub epoch : ℕ
  pub between : View
  pub load : Looked v between s EpochWord epoch
  pub made : PageMade between w (steps.Pin s epoch) (PinWord s) (epoch + 1)
  pub view : Learns v w s (pinned_at v.limits (epoch_loaded (knows v s) epoch) epoch)
  -- where the view hosts the merger, it is the merger's epoch
  pub own : hosts v v.limits.sessions ≡ true → epoch ≡ (stock_of v).epoch
  -- of the words its pin word is stored
  pub words : v.whole ≡ true → w.words ≡ slice_set v.words (address v.limits (PinWord s)) (epoch + 1)

-- the session s has taken its pin away. It has no frame in hand
pub record Unpins (v w : View) (s : ℕ) : Type 0 where
  pub made : PageMade v w (steps.Unpin s) (PinWord s) 0
  pub view : Learns v w s (unpinned v.limits (knows v s))
  -- of the words its pin word is stored
  pub words : w.words ≡ slice_set v.words (address v.limits (PinWord s)) 0
