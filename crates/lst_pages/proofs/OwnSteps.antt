-- The steps on pages that sessions make.
use Rattle.std.proofs.Common.{◌≡◌, ◌⊎◌, ℕ, ◌+◌, ◌<◌, Bool, cond, eqb, refl, sym, subst, ap, ◌∙◌, arith, inl, inr, ne_eqb}
use Rattle.lst_layout.specs.declared.limits.Limits.{Limits}
use Rattle.lst_layout.specs.Functions.{put}
use Rattle.lst_layout.specs.Words.{Words}
use Rattle.lst_layout.proofs.Functions.{put_here, put_else, each_put}
use Rattle.lst_core_state.specs.declared.known.Known.{Known}
use Rattle.lst_core_state.specs.State.{Core}
use Rattle.lst_core_state.proofs.Counters.{along}
use Rattle.lst_pages.specs.declared.events.PageEvent.{PageEvent}
use Rattle.lst_pages.specs.declared.events.PageEvent.TheVariants.{Pin, Unpin, LookPage, LookPin, StoreFrame, Swap, Raise}
use Rattle.lst_pages.specs.Step.{IsWithin, reader_after, words_after, after}
use Rattle.lst_pages.specs.Sound.{Sound}
use Rattle.lst_pages.specs.Settled.{settled_tails}
use Rattle.lst_pages.specs.Known.{pages_in, PagesSound, stepper, IsPageEnabled, pins_after, known_after_page, words_after_page, after_own_page, after_merger_page, after_page}
use Rattle.lst_pages.specs.StateLaws.{DiffersInPages, PageStepOf}
use Rattle.lst_pages.proofs.Safety.{keeps}
use Rattle.lst_pages.proofs.Splitting.{pages_with, session_known, enabled_is_split, IsOwn, own_low, words_differ, tails_stay, own_epoch, pins_rise, pins_count}

module _ (c : Core) (sound : PagesSound c) (e : PageEvent) (own : IsOwn e) (within : IsWithin c.limits e) (ok : IsPageEnabled c e) where
  abbrev s : ℕ
  s = stepper c.limits e

  abbrev l : Limits
  l = c.limits

  abbrev w : Words
  w = c.words

  abbrev K : ℕ → Known
  K = c.known

  abbrev k : Known
  k = known_after_page l w (K s) e

  abbrev d : Core
  d = after_own_page c e

  low : s < l.sessions
  low = own_low l e own within

  is : pages_in d ≡ after (pages_in c) e
  is = (λ i. pages_with l d.words (tails_stay l w (K s).pages.stock e i) (along (λ (u : Known). u.pages.session) K s k i) c.merger.pages.stock) ∙ alike e own
    where
      alike : (a : PageEvent) → IsOwn a → pages_with l (words_after w (K (stepper l a)).pages.stock a) (settled_tails l w) (put (λ (j : ℕ). (K j).pages.session) (stepper l a) (reader_after l w (K (stepper l a)).pages.session a)) c.merger.pages.stock ≡ after (pages_in c) a
      alike (Pin q x) own = refl
      alike (Unpin q) own = refl
      alike (LookPage q r x) own = refl
      alike (LookPin q) own = absurd own
      alike (StoreFrame f n x) own = absurd own
      alike (Swap r x) own = absurd own
      alike Raise own = absurd own

  own_differs : DiffersInPages c d
  own_differs = record {
    limits = refl;
    words = words_differ w (K s).pages.stock e;
    known = each_put (λ (j : ℕ) (u : Known). u ≡ record (K j) { pages = u.pages }) K s k refl (λ j other. refl);
    merger = refl;
    epoch = let same = own_epoch w (K s).pages.stock e own in omega arith;
  }

  own_sound : PagesSound d
  own_sound = record {
    pages = subst Sound (sym is) (keeps (pages_in c) sound.pages e within ((enabled_is_split c e within).0 ok));
    pins = each_put (λ (j : ℕ) (u : Known). j < l.sessions → 0 < u.pages.session.pin → 0 < u.pages.pins) K s k (λ low. pins_count l w (K s).pages e own (sound.pins s low)) (λ j other. sound.pins j);
    held = λ j has. let h = sound.held j has in record {
      session = h.session;
      pinned = each_put (λ (m : ℕ) (u : Known). 0 < (K m).pages.pins → 0 < u.pages.pins) K s k (λ some. let up = pins_rise (K s).pages.pins e in omega arith) (λ m other h. h) j h.pinned;
      swaps = let same = own_epoch w (K s).pages.stock e own in let few = h.swaps in omega arith;
    };
  }

  abbrev Counts : ℕ → Known → Type 0
  Counts t u = (u.pages.pins ≡ (K t).pages.pins) ⊎ ((epoch : ℕ) × (e ≡ Pin t epoch) × (u.pages.pins ≡ (K t).pages.pins + 1))

  counts_own : Counts s k
  counts_own = go e own refl
    where
      go : (a : PageEvent) → IsOwn a → e ≡ a → (pins_after (K s).pages.pins e ≡ (K s).pages.pins) ⊎ ((epoch : ℕ) × (e ≡ Pin s epoch) × (pins_after (K s).pages.pins e ≡ (K s).pages.pins + 1))
      go (Pin q x) own at = inr (x, at ∙ ap (λ (j : ℕ). Pin j x) (sym (ap (stepper l) at)), ap (pins_after (K s).pages.pins) at)
      go (Unpin q) own at = inl (ap (pins_after (K s).pages.pins) at)
      go (LookPage q r x) own at = inl (ap (pins_after (K s).pages.pins) at)
      go (LookPin q) own at = absurd own
      go (StoreFrame f n x) own at = absurd own
      go (Swap r x) own at = absurd own
      go Raise own at = absurd own

  own_step : PageStepOf c e s d
  own_step = record {
    sound = own_sound;
    is = is;
    words = ap (λ (u : Known). words_after_page w u e) (sym (session_known c s low));
    known = session_known d s low ∙ (put_here K s k ∙ ap (λ (u : Known). known_after_page l w u e) (sym (session_known c s low)));
    others = λ t other. ap (λ (u : Known). cond (eqb t l.sessions) c.merger u) (put_else K s k t other);
    differs = own_differs;
    pins = each_put Counts K s k counts_own (λ t other. inl refl);
  }

  pub own_made : PageStepOf c e (stepper c.limits e) (after_page c e)
  own_made = subst (PageStepOf c e s) (sym (ap (λ (b : Bool). cond b (after_merger_page c e) (after_own_page c e)) (ne_eqb s l.sessions (λ at. let some = low in absurd (omega arith))))) own_step
