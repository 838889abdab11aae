-- Loads of the words of a page in hand.
use Rattle.std.specs.Prelude.{MatchOption, is_some}
use Rattle.std.proofs.Common.{◌≡◌, ℕ, ◌+◌, ◌<◌, true, false, true≢false, Some, None, Option, length, slice_index, refl, sym, subst, ap, ◌∙◌, arith}
use Rattle.lst_layout.specs.declared.TheConstants.{FRAME_WORDS, FRAME_VALUES, RANGE_RECORDS}
use Rattle.lst_layout.specs.declared.place.Place.TheVariants.{FrameWord}
use Rattle.lst_layout.specs.Areas.{frame_count}
use Rattle.lst_layout.proofs.Functions.{listed_same, length-listed, get-listed}
use Rattle.lst_core_state.specs.declared.known.Known.{Known}
use Rattle.lst_core_state.specs.declared.pages.PageInHand.{PageInHand}
use Rattle.lst_core_state.specs.declared.pages.SessionFrames.{SessionFrames}
use Rattle.lst_pages.specs.State.{hand_of}
use Rattle.lst_pages.specs.Frames.{packed_in}
use Rattle.lst_rule.specs.declared.view.View.{View}
use Rattle.lst_rule.specs.Rule.{knows, hosts}
use Rattle.lst_rule.specs.PageSteps.{PageLooked, FrameLoaded}
use Rattle.lst_rule.specs.Watching.{HasInHand, Watched}
use Rattle.lst_rule.proofs.Watching.{pages_watch}
use Rattle.lst_walk.specs.Packed.{packed_of, Skims}
use Rattle.lst_walk.proofs.Reading.{looked_watched}

-- ---- nothing is found

pub page_skims : (v w : View) (s r c f : ℕ) → hosts v s ≡ true → s < v.limits.sessions → PageLooked v w s r c f → Skims v w s
page_skims v w s r c f hosted low looked = record { watched = pages_watch v w s r c f hosted low looked; finds = ap (λ (k : Known). k.finds) looked.view.now }

module _ (v w : View) (s f n x : ℕ) (loaded : FrameLoaded v w s f n x) where
  -- it knows what it knew
  pub frame_knows : knows w s ≡ knows v s
  frame_knows = loaded.looked.view.now

  pub frame_skims : hosts v s ≡ true → f < frame_count v.limits → n < FRAME_WORDS → Skims v w s
  frame_skims hosted low short = record { watched = looked_watched v w s x (FrameWord f n) hosted (low, short) tt loaded.looked; finds = ap (λ (k : Known). k.finds) frame_knows }

  -- a frame in hand has the word that is loaded
  pub frame_word : (words : ℕ → ℕ) → s < v.limits.sessions → HasInHand (knows v s).pages.session f words → n < FRAME_WORDS → x ≡ words n
  frame_word words low has short = loaded.in_hand low has.page has.in_hand ∙ has.same n short

-- a frame in hand stays in hand
pub hand_stays : (v w : View) (s f : ℕ) (words : ℕ → ℕ) → Watched v w s → HasInHand (knows v s).pages.session f words → HasInHand (knows w s).pages.session f words
hand_stays v w s f words watched has = let q : HasInHand watched.watches.frames f (slice_index has.page.words) = watched.watches.hand f has.page has.in_hand in
    subst (λ (k : Known). HasInHand k.pages.session f words) (sym watched.watches.is) record { page = q.page; in_hand = q.in_hand; same = λ n short. q.same n short ∙ has.same n short }

-- ---- packed words

pub packed_same : (frames : SessionFrames) (f : ℕ) (words : ℕ → ℕ) → HasInHand frames f words → packed_of (hand_of frames f) ≡ packed_in words
packed_same frames f words has = ap packed_of has.in_hand ∙ listed_same (slice_index has.page.words) words FRAME_VALUES FRAME_VALUES (RANGE_RECORDS + 1) (λ i low. has.same (FRAME_VALUES + i) (omega arith))

-- a place among them is one of a page in hand
pub packed_low : (page : Option PageInHand) (place : ℕ) → place < length (packed_of page) → place < 257
packed_low None place low = absurd (omega arith)
packed_low (Some page) place low = let n = length-listed (slice_index page.words) FRAME_VALUES (RANGE_RECORDS + 1) in omega arith

pub packed_word : (page : Option PageInHand) (place x : ℕ) → place < length (packed_of page) → ((p : PageInHand) → page ≡ Some p → x ≡ slice_index p.words (FRAME_VALUES + place)) → x ≡ slice_index (packed_of page) place
packed_word None place x low is = absurd (omega arith)
packed_word (Some page) place x low is = is page refl ∙ sym (get-listed (slice_index page.words) FRAME_VALUES (RANGE_RECORDS + 1) place 0 (let n = packed_low (Some page) place low in omega arith))

-- ---- pins

pub pin_some : (o : Option ℕ) (pin : ℕ) → MatchOption o (pin ≡ 0) (λ epoch. pin ≡ epoch + 1) → is_some o ≡ true → 0 < pin
pin_some None pin is some = absurd (true≢false (sym some))
pin_some (Some epoch) pin is some = let e : pin ≡ epoch + 1 = is in omega arith

pub pin_none : (o : Option ℕ) (pin : ℕ) → MatchOption o (pin ≡ 0) (λ epoch. pin ≡ epoch + 1) → is_some o ≡ false → pin ≡ 0
pin_none None pin is none = is
pin_none (Some epoch) pin is none = absurd (true≢false none)
