-- Words read off the row of all words.
use Rattle.std.proofs.Common.{◌≡◌, ℕ, ◌/◌, ◌%◌, ◌<◌, List, length, get_or, sym, ap, ◌∙◌, arith}
use Rattle.lst_layout.specs.declared.limits.Limits.{Limits}
use Rattle.lst_layout.specs.declared.place.Place.{Place}
use Rattle.lst_layout.specs.declared.place.Place.TheVariants.{LogWord, StateWord}
use Rattle.lst_layout.specs.Areas.{words_of}
use Rattle.lst_layout.specs.Addresses as layout
use Rattle.lst_layout.specs.Addresses.{address}
use Rattle.lst_layout.specs.Words.{Words, shown, word_at}
use Rattle.lst_layout.proofs.Shown.{areas_are_shown}
use Rattle.lst_core_state.specs.State.{writer_at}
use Rattle.lst_core_state.proofs.Room.{clock_low}
use Rattle.lst_core.specs.Reading.{IsRead}

pub read_at : (l : Limits) (ws : List ℕ) → length ws ≡ words_of l → (p : Place) → layout.IsWithin l p → (a x : ℕ) → a ≡ address l p → x ≡ get_or ws a 0 → x ≡ word_at (shown l ws) p
read_at l ws wide p within a x at is = is ∙ (ap (λ (i : ℕ). get_or ws i 0) at ∙ sym ((areas_are_shown l ws wide).found p within))

module _ (l : Limits) (ws : List ℕ) (r : IsRead l ws) where
  abbrev w : Words
  w = shown l ws

  -- a stored tail's start word, where it is stamped, names a time of the log
  pub stamp_within : (t : ℕ) → 0 < w.cells t 0 → w.cells t 0 % 2 ≡ 0 → layout.IsWithin l (LogWord (w.cells t 0 / 2))
  stamp_within t some even = let k = (r.sound.versions.stored t some).stamped even in let h = clock_low record { limits = l; words = w; known = r.known; merger = r.merger } r.sound in let a = k.1 in (k.0, omega arith)

  -- the writer of a stored tail is a transaction of the store
  pub writer_within : (t : ℕ) → 0 < w.cells t 0 → layout.IsWithin l (StateWord (writer_at w t % 16) (writer_at w t / 16))
  writer_within t some = let b = (r.sound.versions.stored t some).begun in (b.0, b.1, let n = b.2 in let few = (r.sound.each (writer_at w t % 16) b.0).few in omega arith)
