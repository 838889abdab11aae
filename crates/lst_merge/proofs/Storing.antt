-- The words of a frame, stored one after another.
use Rattle.std.proofs.Common.{◌≡◌, ℕ, zero, suc, ◌+◌, ◌<◌, ◌≤◌, true, Some, length, refl, sym, subst, ap, ◌∙◌, arith, slice_set, slice_index_or, length-set, ◌≢◌, []}
use mathlib.Core.Logic.{dite}
use native.Mathlib.Decide.{ℕ_discrete}
use Rattle.lst_layout.specs.declared.TheConstants.{FRAME_WORDS}
use Rattle.lst_layout.specs.declared.place.Place.TheVariants.{FrameWord}
use Rattle.lst_layout.specs.Addresses.{address}
use Rattle.lst_layout.specs.Functions.{put_in}
use Rattle.lst_layout.proofs.Functions.{put_in_else}
use Rattle.lst_core_state.specs.declared.pages.MergerFrames.{MergerFrames}
use Rattle.lst_pages.specs.declared.events.PageEvent.TheVariants.{StoreFrame}
use Rattle.lst_pages.specs.Lists.{word_in}
use Rattle.lst_pages.specs.Runs.{frame_known}
use Rattle.lst_pages.proofs.Functions.{word_in-with, put_in_here, length-with}
use Rattle.lst_rule.specs.declared.view.View.{View}
use Rattle.lst_rule.specs.Frames.{StoresWords}
use Rattle.lst_rule.specs.Learned.{PageMade}
use Rattle.lst_rule.specs.PageSteps.{StockIs, stock_of, frame_stored}
use Rattle.lst_rule.proofs.Stocks.{stock_same, stock_then}
use Rattle.lst_merge.specs.Builds.{frames_stored, words_stored, StoresFrame}

-- ---- stores

-- the stock after stores keeps what a further store asks for
module _ (m : MergerFrames) (f : ℕ) (page : ℕ → ℕ) where
  pub stored_retired : (n : ℕ) → (frames_stored m f page n).retired ≡ m.retired
  stored_retired zero = refl
  stored_retired (suc n) = stored_retired n

  pub stored_waiting : (n : ℕ) → (frames_stored m f page n).waiting ≡ m.waiting
  stored_waiting zero = refl
  stored_waiting (suc n) = stored_waiting n

  pub stored_held : (n : ℕ) → (frames_stored m f page n).held ≡ m.held
  stored_held zero = refl
  stored_held (suc n) = stored_held n

  pub stored_epoch : (n : ℕ) → (frames_stored m f page n).epoch ≡ m.epoch
  stored_epoch zero = refl
  stored_epoch (suc n) = stored_epoch n

  pub stored_directory : (n : ℕ) → (frames_stored m f page n).directory ≡ m.directory
  stored_directory zero = refl
  stored_directory (suc n) = stored_directory n

  pub stored_built : (n : ℕ) → 0 < n → (frames_stored m f page n).built ≡ Some f
  stored_built zero some = absurd (omega arith)
  stored_built (suc n) some = refl

  module _ (there : f < length m.frames) (long : length (slice_index_or m.frames f []) ≡ FRAME_WORDS) where
    stored_long : (n : ℕ) → length (frames_stored m f page n).frames ≡ length m.frames
    stored_long zero = refl
    stored_long (suc n) = length-set (frames_stored m f page n).frames f (slice_set (slice_index_or (frames_stored m f page n).frames f []) n (page n)) ∙ stored_long n

    stored_wide : (n : ℕ) → n ≤ FRAME_WORDS → length (slice_index_or (frames_stored m f page n).frames f []) ≡ FRAME_WORDS
    stored_wide zero low = long
    stored_wide (suc n) low = let e = stored_long n in let wide = stored_wide n (omega arith) in length-with (frames_stored m f page n).frames f n (page n) (omega arith) (omega arith) f ∙ wide

    -- the frame has the words
    pub stored_words : (n : ℕ) → n ≤ FRAME_WORDS → (i : ℕ) → i < n → frame_known (frames_stored m f page n) f i ≡ page i
    stored_words zero low i less = absurd (omega arith)
    stored_words (suc n) low i less = let e = stored_long n in let wide = stored_wide n (omega arith) in let rows = (frames_stored m f page n).frames in
        word_in-with rows f n (page n) (omega arith) (omega arith) f i ∙ dite (ℕ_discrete i n)
        (λ same. ap (λ (j : ℕ). put_in (word_in rows) f n (page n) f j) same ∙ (put_in_here (word_in rows) f n (page n) ∙ ap page (sym same)))
        (λ ne. put_in_else (word_in rows) f n (page n) f i (λ _ same. ne same) ∙ stored_words n (omega arith) i (omega arith))

    -- others stay
    pub stored_others : (n : ℕ) → n ≤ FRAME_WORDS → (g i : ℕ) → g ≢ f → frame_known (frames_stored m f page n) g i ≡ frame_known m g i
    stored_others zero low g i ne = refl
    stored_others (suc n) low g i ne = let e = stored_long n in let wide = stored_wide n (omega arith) in let rows = (frames_stored m f page n).frames in
        word_in-with rows f n (page n) (omega arith) (omega arith) g i ∙ (put_in_else (word_in rows) f n (page n) g i (λ same. absurd (ne same)) ∙ stored_others n (omega arith) g i ne)

-- the calls that store all words of a frame do so one after another
module _ (v w : View) (f : ℕ) (page : ℕ → ℕ) (r : StoresWords v w f FRAME_WORDS page) where
  stored_until : (n : ℕ) → n ≤ FRAME_WORDS → StockIs v (r.between n) (frames_stored (stock_of v) f page n) × (v.whole ≡ true → (r.between n).words ≡ words_stored v.limits v.words f page n)
  stored_until zero low = subst (λ (u : View). StockIs v u (stock_of v) × (v.whole ≡ true → u.words ≡ v.words)) (sym r.first) (stock_same v, λ whole. refl)
  stored_until (suc n) low = let before = stored_until n (omega arith) in let k = r.each n (omega arith) in let e : n + 1 ≡ suc n = omega arith in
      subst (λ (m : ℕ). StockIs v (r.between m) (frames_stored (stock_of v) f page (suc n)) × (v.whole ≡ true → (r.between m).words ≡ words_stored v.limits v.words f page (suc n))) e (
        stock_then v (r.between n) (r.between (n + 1)) (frames_stored (stock_of v) f page n) (λ m. frame_stored m f n (page n)) before.0 k.view,
        λ whole. k.made.words ∙ (λ j. slice_set (before.1 whole j) (address (before.0.limits j) (FrameWord f n)) (page n)),
      )

  pub stores_frame : StoresFrame v w f FRAME_WORDS page
  stores_frame = record {
    between = r.between;
    first = r.first;
    last = r.last;
    each = λ i low. let e : i + 1 ≡ suc i = omega arith in subst (λ (m : ℕ). PageMade (r.between i) (r.between m) (StoreFrame f i (page i)) (FrameWord f i) (page i)) e (r.each i low).made;
    view = subst (λ (u : View). StockIs v u (frames_stored (stock_of v) f page FRAME_WORDS)) r.last (stored_until FRAME_WORDS (omega arith)).0;
    words = λ whole. ap (λ (u : View). u.words) (sym r.last) ∙ (stored_until FRAME_WORDS (omega arith)).1 whole;
  }
