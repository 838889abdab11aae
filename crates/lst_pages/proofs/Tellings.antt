-- A step is told by the numbers of whoever makes it and the word that it finds.
use Rattle.std.proofs.Common.{◌≡◌, ◌≢◌, ℕ, ◌+◌, [], ◌∷◌, ◌++◌, Bool, true, false, cond, Some, refl, sym, ap, ◌∙◌, arith, slice_set}
use mathlib.Core.Logic.{dite}
use native.Mathlib.Decide.{ℕ_discrete}
use Rattle.lst_layout.specs.declared.limits.Limits.{Limits}
use Rattle.lst_layout.specs.Functions.{put, put_in}
use Rattle.lst_layout.specs.Words.{Words, word_at, with_word}
use Rattle.lst_layout.proofs.Functions.{put_here, put_else}
use Rattle.lst_pages.specs.declared.events.PageEvent.{PageEvent}
use Rattle.lst_pages.specs.declared.events.PageEvent.TheVariants.{Pin, Unpin, LookPage, LookPin, StoreFrame, Swap, Raise}
use Rattle.lst_core_state.specs.declared.pages.MergerFrames.{MergerFrames}
use Rattle.lst_core_state.specs.declared.pages.SessionFrames.{SessionFrames}
use Rattle.lst_pages.specs.State.{Pages, oldest_epoch, frame_in, empty_hand}
use Rattle.lst_pages.specs.Step.{IsWithin, Enabled, lets_go, place_of, with_page, reader_after, merger_after, after, words_after}
use Rattle.lst_pages.specs.Sound.{Sound}
use Rattle.lst_pages.specs.Numbers.{numbers_of, written_of, numbers_after, pin_after_of, IsWritable, session_of, IsByNumbers}
use Rattle.lst_pages.proofs.Safety.{epoch_low}
use Rattle.lst_pages.proofs.Functions.{each_put_in}

-- what is written again is there already
put-again : (f : ℕ → ℕ) (k : ℕ) → put f k (f k) ≡ f
put-again f k = λ i j. same j i
  where
    same : (j : ℕ) → put f k (f k) j ≡ f j
    same j = dite (ℕ_discrete j k) (λ e. ap (put f k (f k)) e ∙ put_here f k (f k) ∙ ap f (sym e)) (λ other. put_else f k (f k) j other)

put_in-again : (f : ℕ → ℕ → ℕ) (k m : ℕ) → put_in f k m (f k m) ≡ f
put_in-again f k m = λ i a b. each_put_in (λ (a b v : ℕ). v ≡ f a b) f k m (f k m) refl (λ a b other. refl) a b i

-- a step is a change of one word
pub words_law : (w : Words) (m : MergerFrames) (e : PageEvent) → with_word w (place_of e) (written_of (numbers_of m) e (word_at w (place_of e))) ≡ words_after w m e
words_law w m (Pin s e) = refl
words_law w m (Unpin s) = refl
words_law w m (LookPage s r c) = λ i. record w { directory = put_in-again w.directory r c i }
words_law w m (LookPin s) = λ i. record w { pins = put-again w.pins s i }
words_law w m (StoreFrame f n x) = refl
words_law w m (Swap r c) = refl
words_law w m Raise = refl

pub fits_law : (p : Pages) → Sound p → (e : PageEvent) → Enabled p e → IsWritable (numbers_of p.merger) e
fits_law p sound (Pin s e) ok = let low = epoch_low p sound in let h = ok.1 in omega arith
fits_law p sound (Unpin s) ok = tt
fits_law p sound (LookPage s r c) ok = tt
fits_law p sound (LookPin s) ok = tt
fits_law p sound (StoreFrame f n x) ok = tt
fits_law p sound (Swap r c) ok = tt
fits_law p sound Raise ok = let low = epoch_low p sound in let same = sound.copied.epoch_known in omega arith

-- the numbers of whoever steps
pub stock_law : (l : Limits) (w : Words) (m : MergerFrames) (e : PageEvent) → numbers_of (merger_after l w m e) ≡ numbers_after (numbers_of m) e
stock_law l w m (Pin s e) = refl
stock_law l w m (Unpin s) = refl
stock_law l w m (LookPage s r c) = refl
stock_law l w m (LookPin s) = choose (lets_go (w.pins s) (oldest_epoch m.retired))
  where
    choose : (b : Bool) → numbers_of (cond b (record m { clear = slice_set m.clear s true; let_go = m.let_go ++ s ∷ [] }) (record m { held = m.held ++ s ∷ [] })) ≡ numbers_of m
    choose true = refl
    choose false = refl
stock_law l w m (StoreFrame f n x) = refl
stock_law l w m (Swap r c) = refl
stock_law l w m Raise = refl

pub pin_law : (l : Limits) (w : Words) (v : SessionFrames) (e : PageEvent) → (reader_after l w v e).pin ≡ pin_after_of v.pin e
pin_law l w v (Pin s e) = refl
pin_law l w v (Unpin s) = refl
pin_law l w v (LookPage s r c) = refl
pin_law l w v (LookPin s) = refl
pin_law l w v (StoreFrame f n x) = refl
pin_law l w v (Swap r c) = refl
pin_law l w v Raise = refl

module _ (p : Pages) where
  is_session : (s j : ℕ) → Some s ≡ Some j → s ≡ j
  is_session s j e = ap frame_in e

  own : (s j : ℕ) (v : SessionFrames) → Some s ≡ Some j → put p.readers s v j ≡ v
  own s j v e = ap (put p.readers s v) (sym (is_session s j e)) ∙ put_here p.readers s v

  reader_law : (e : PageEvent) (j : ℕ) → session_of e ≡ Some j → ((after p e).readers j).pin ≡ pin_after_of (p.readers j).pin e
  reader_law (Pin s e) j is = ap (λ (v : SessionFrames). v.pin) (own s j (record { pin = e + 1; hand = empty_hand p.limits }) is)
  reader_law (Unpin s) j is = ap (λ (v : SessionFrames). v.pin) (own s j (record { pin = 0; hand = empty_hand p.limits }) is)
  reader_law (LookPage s r c) j is = ap (λ (v : SessionFrames). v.pin) (own s j (with_page p.words (p.readers s) r c) is) ∙ ap (λ (k : ℕ). (p.readers k).pin) (is_session s j is)
  reader_law (LookPin s) j is = refl
  reader_law (StoreFrame f n x) j is = refl
  reader_law (Swap r c) j is = refl
  reader_law Raise j is = refl

  others_law : (e : PageEvent) (j : ℕ) → session_of e ≢ Some j → (after p e).readers j ≡ p.readers j
  others_law (Pin s e) j other = put_else p.readers s (record { pin = e + 1; hand = empty_hand p.limits }) j (λ same. other (ap Some (sym same)))
  others_law (Unpin s) j other = put_else p.readers s (record { pin = 0; hand = empty_hand p.limits }) j (λ same. other (ap Some (sym same)))
  others_law (LookPage s r c) j other = put_else p.readers s (with_page p.words (p.readers s) r c) j (λ same. other (ap Some (sym same)))
  others_law (LookPin s) j other = refl
  others_law (StoreFrame f n x) j other = refl
  others_law (Swap r c) j other = refl
  others_law Raise j other = refl

pub by_numbers : (p : Pages) → Sound p → (e : PageEvent) → IsWithin p.limits e → Enabled p e → IsByNumbers p e
by_numbers p sound e within ok = record { fits = fits_law p sound e ok; words = words_law p.words p.merger e; merger = stock_law p.limits p.words p.merger e; reader = reader_law p e; others = others_law p e }
