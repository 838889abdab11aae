-- The packed words of a frame in hand.
use Rattle.std.specs.Prelude.{◌≡◌, ℕ, ◌<◌, List, [], Option, Some, None, slice_index, refl}
use Rattle.std.proofs.Common.{◌∙◌}
use Rattle.lst_layout.specs.declared.place.Place.TheVariants.{FrameWord}
use Rattle.lst_layout.specs.Addresses.{address}
use Rattle.lst_layout.specs.Areas.{frame_count}
use Rattle.lst_core_state.specs.declared.pages.PageInHand.{PageInHand}
use Rattle.lst_pages.specs.State.{hand_of}
use Rattle.lst_pages.specs.Frames.{packed_in}
use Rattle.lst_rule.specs.declared.view.View.{View}
use Rattle.lst_rule.specs.declared.store.Store.{Store}
use Rattle.lst_rule.specs.Rule.{knows}
use Rattle.lst_rule.specs.Seats.{Sitting}
use Rattle.lst_rule.specs.Watching.{Watched}
use Rattle.lst_rule.proofs.Watching.{watched_same, watches_join}
use Rattle.lst_walk.specs.Readers.{IsReader}

-- of a page in hand, by the words that are kept with it
abbrev pub packed_of : Option PageInHand → List ℕ
packed_of None = []
packed_of (Some page) = packed_in (slice_index page.words)

abbrev pub packed_words : View → ℕ → ℕ → List ℕ
packed_words v s frame = packed_of (hand_of (knows v s).pages.session frame)

-- the session reads, and the frame is one of the store's, whose first word has this address
pub record MayLoad (store : Store) (seat : Sitting) (s frame first : ℕ) : Type 0 where
  pub reader : IsReader store seat s
  pub low : frame < frame_count seat.view.limits
  pub is : first ≡ address store.layout.limits (FrameWord frame 0)

-- the session s has only looked at pages: it found nothing
pub record Skims (v w : View) (s : ℕ) : Type 0 where
  pub watched : Watched v w s
  pub finds : (knows w s).finds ≡ (knows v s).finds

-- of no load, and of loads one after another
pub skims_same : (v : View) (s : ℕ) → Skims v v s
skims_same v s = record { watched = watched_same v s; finds = refl }

pub skims_on : (u v w : View) (s : ℕ) → Skims u v s → Skims v w s → Skims u w s
skims_on u v w s a b = record { watched = watches_join u v w s a.watched b.watched; finds = b.finds ∙ a.finds }
