-- What the words show once pages have changed, where a view knows each of them.
use Rattle.std.proofs.Common.{◌≡◌, ◌≢◌, ℕ, zero, suc, ◌<◌, ◌≤◌, List, length, refl, sym, ap, ◌∙◌, arith, slice_set, length-set}
use Rattle.lst_layout.specs.declared.TheConstants.{FRAME_WORDS}
use Rattle.lst_layout.specs.declared.limits.Limits.{Limits}
use Rattle.lst_layout.specs.declared.place.Place.TheVariants.{EpochWord, DirectoryWord, FrameWord}
use Rattle.lst_layout.specs.Addresses.{IsWithin, address}
use Rattle.lst_layout.specs.Areas.{words_of}
use Rattle.lst_layout.specs.Functions.{put_in}
use Rattle.lst_layout.specs.Words.{Words, shown}
use Rattle.lst_layout.proofs.Functions.{put_in_else}
use Rattle.lst_layout.proofs.Shown.{changed}
use Rattle.lst_merge.specs.Builds.{words_stored}
use Rattle.lst_session.specs.Merges.{OnlyPages}

-- the same words, and words of which only the pages are told
pub pages_same : (v w : Words) → w ≡ v → OnlyPages v w
pages_same v w e = e ∙ (λ i. record v { epoch = (sym e i).epoch; directory = (sym e i).directory; frames = (sym e i).frames })

-- words that differ in the frames alone
only_frames : (v w : Words) (frames : ℕ → ℕ → ℕ) → w ≡ record v { frames = frames } → w ≡ record v { frames = w.frames }
only_frames v w frames e = e ∙ (λ i. record v { frames = (sym e i).frames })

module _ (l : Limits) (ws : List ℕ) (wide : length ws ≡ words_of l) (f : ℕ) (page : ℕ → ℕ) where
  stored_wide : (n : ℕ) → length (words_stored l ws f page n) ≡ words_of l
  stored_wide zero = wide
  stored_wide (suc n) = length-set (words_stored l ws f page n) (address l (FrameWord f n)) (page n) ∙ stored_wide n

  module _ (within : (n : ℕ) → n < FRAME_WORDS → IsWithin l (FrameWord f n)) where
    stored_shows : (n : ℕ) → n ≤ FRAME_WORDS → shown l (words_stored l ws f page n) ≡ record (shown l ws) { frames = (shown l (words_stored l ws f page n)).frames }
    stored_shows zero low = refl
    stored_shows (suc n) low = let before : Words = shown l (words_stored l ws f page n) in let rest = stored_shows n (omega arith) in
        only_frames (shown l ws) (shown l (words_stored l ws f page (suc n))) (put_in before.frames f n (page n))
        (changed l (words_stored l ws f page n) (stored_wide n) (FrameWord f n) (page n) (within n (omega arith)) ∙ (λ i. record (rest i) { frames = put_in before.frames f n (page n) }))

    -- other frames stay
    stored_frames : (n : ℕ) → n ≤ FRAME_WORDS → (g i : ℕ) → g ≢ f → (shown l (words_stored l ws f page n)).frames g i ≡ (shown l ws).frames g i
    stored_frames zero low g i ne = refl
    stored_frames (suc n) low g i ne = ap (λ (v : Words). v.frames g i) (changed l (words_stored l ws f page n) (stored_wide n) (FrameWord f n) (page n) (within n (omega arith)))
        ∙ (put_in_else (shown l (words_stored l ws f page n)).frames f n (page n) g i (λ e. absurd (ne e)) ∙ stored_frames n (omega arith) g i ne)

    module _ (r c e : ℕ) (is : IsWithin l (DirectoryWord r c)) where
      abbrev built : List ℕ
      built = words_stored l ws f page FRAME_WORDS

      abbrev swapped : List ℕ
      swapped = slice_set built (address l (DirectoryWord r c)) f

      abbrev raised : List ℕ
      raised = slice_set swapped (address l EpochWord) e

      swapped_wide : length swapped ≡ words_of l
      swapped_wide = length-set built (address l (DirectoryWord r c)) f ∙ stored_wide FRAME_WORDS

      merged : shown l raised ≡ record (shown l ws) { epoch = e; directory = put_in (shown l ws).directory r c f; frames = (shown l built).frames }
      merged = changed l swapped swapped_wide EpochWord e tt
          ∙ ((λ i. record (changed l built (stored_wide FRAME_WORDS) (DirectoryWord r c) f is i) { epoch = e })
          ∙ (λ i. record (stored_shows FRAME_WORDS (omega arith) i) { epoch = e; directory = put_in (stored_shows FRAME_WORDS (omega arith) i).directory r c f }))

      -- a build and a swap
      pub merge_shows : (w : Words) → w ≡ shown l raised → w ≡ record (shown l ws) { epoch = e; directory = put_in (shown l ws).directory r c f; frames = w.frames }
      merge_shows w same = let all = same ∙ merged in all ∙ (λ i. record (shown l ws) { epoch = e; directory = put_in (shown l ws).directory r c f; frames = (sym all i).frames })

      pub merge_frames : (w : Words) → w ≡ shown l raised → (g i : ℕ) → g ≢ f → w.frames g i ≡ (shown l ws).frames g i
      merge_frames w same g i ne = ap (λ (v : Words). v.frames g i) (same ∙ merged) ∙ stored_frames FRAME_WORDS (omega arith) g i ne

-- so pages alone changed
pub pages_only : (v w : Words) (e : ℕ) (d f : ℕ → ℕ → ℕ) → w ≡ record v { epoch = e; directory = d; frames = f } → OnlyPages v w
pages_only v w e d f is = is ∙ (λ i. record v { epoch = (sym is i).epoch; directory = (sym is i).directory; frames = (sym is i).frames })
