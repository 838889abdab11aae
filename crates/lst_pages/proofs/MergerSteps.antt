-- The steps on pages that the merger makes, and with them every step.
use Rattle.std.proofs.Common.{◌≡◌, ◌⊎◌, ℕ, ◌<◌, ◌≤◌, [], ◌∷◌, ◌++◌, Bool, true, false, cond, eqb, refl, sym, subst, ap, ◌∙◌, arith, inl, ⊎_elim, slice_set, eq-eqb, ne_eqb}
use Rattle.std.specs.List.{Contains}
use Rattle.std.proofs.lemmas.List.Elements.{Contains-push_cases}
use Rattle.lst_layout.specs.declared.limits.Limits.{Limits}
use Rattle.lst_layout.specs.Words.{Words}
use Rattle.lst_core_state.specs.declared.known.Known.{Known}
use Rattle.lst_core_state.specs.declared.pages.MergerFrames.{MergerFrames}
use Rattle.lst_core_state.specs.State.{Core}
use Rattle.lst_pages.specs.declared.events.PageEvent.{PageEvent}
use Rattle.lst_pages.specs.declared.events.PageEvent.TheVariants.{Pin, Unpin, LookPage, LookPin, StoreFrame, Swap, Raise}
use Rattle.lst_pages.specs.State.{oldest_epoch}
use Rattle.lst_pages.specs.Step.{IsWithin, Enabled, lets_go, merger_after, words_after, after}
use Rattle.lst_pages.specs.Sound.{Sound}
use Rattle.lst_pages.specs.Settled.{settled_tails}
use Rattle.lst_pages.specs.Known.{pages_in, IsHeld, HeldAreSo, PagesSound, stepper, IsPageEnabled, known_after_page, words_after_page, after_own_page, after_merger_page, after_page}
use Rattle.lst_pages.specs.StateLaws.{DiffersInPages, PageStepOf, PageStepsAreSound}
use Rattle.lst_pages.proofs.Safety.{keeps, sound_safe, lets_not}
use Rattle.lst_pages.proofs.Splitting.{pages_with, merger_known, enabled_is_split, IsOwn, merger_steps, words_differ, tails_stay, epoch_rises}
use Rattle.lst_pages.proofs.OwnSteps.{own_made}

module _ (c : Core) (sound : PagesSound c) (e : PageEvent) (other : IsOwn e → ⊥) (within : IsWithin c.limits e) (ok : IsPageEnabled c e) where
  abbrev l : Limits
  l = c.limits

  abbrev w : Words
  w = c.words

  abbrev m : MergerFrames
  m = c.merger.pages.stock

  abbrev d : Core
  d = after_merger_page c e

  is : pages_in d ≡ after (pages_in c) e
  is = (λ i. pages_with l d.words (tails_stay l w m e i) (λ j. (c.known j).pages.session) (merger_after l w m e)) ∙ alike e other
    where
      alike : (a : PageEvent) → (IsOwn a → ⊥) → pages_with l (words_after w m a) (settled_tails l w) (λ j. (c.known j).pages.session) (merger_after l w m a) ≡ after (pages_in c) a
      alike (Pin q x) other = absurd (other tt)
      alike (Unpin q) other = absurd (other tt)
      alike (LookPage q r x) other = absurd (other tt)
      alike (LookPin q) other = refl
      alike (StoreFrame f n x) other = refl
      alike (Swap r x) other = refl
      alike Raise other = refl

  able : Enabled (pages_in c) e
  able = (enabled_is_split c e within).0 ok

  up : w.epoch ≤ (words_after w m e).epoch
  up = epoch_rises w m e sound.pages.copied.epoch_known

  merger_differs : DiffersInPages c d
  merger_differs = record { limits = refl; words = words_differ w m e; known = λ j. refl; merger = refl; epoch = up }

  abbrev IsHeldThen : ℕ → Type 0
  IsHeldThen j = IsHeld l (words_after w m e).epoch c.known j

  later : (j : ℕ) → IsHeld l w.epoch c.known j → IsHeldThen j
  later j h = record { session = h.session; pinned = h.pinned; swaps = let few = h.swaps in let more = up in omega arith }

  -- a pin that is found held now
  found : (j : ℕ) → j < l.sessions → Enabled (pages_in c) (LookPin j) → lets_go (w.pins j) (oldest_epoch m.retired) ≡ false → IsHeld l w.epoch c.known j
  found j low may holds = record {
    session = low;
    pinned = sound.pins j low (let some = (lets_not (w.pins j) (oldest_epoch m.retired) holds).0 in let known = (sound.pages.pinned j low).known in omega arith);
    swaps = (sound_safe (pages_in c) sound.pages).swaps j low may holds;
  }

  held : HeldAreSo l (words_after w m e).epoch c.known (merger_after l w m e).held
  held = go e other within able
    where
      go : (a : PageEvent) → (IsOwn a → ⊥) → IsWithin l a → Enabled (pages_in c) a → HeldAreSo l (words_after w m e).epoch c.known (merger_after l w m a).held
      go (Pin q x) other within may = absurd (other tt)
      go (Unpin q) other within may = absurd (other tt)
      go (LookPage q r x) other within may = absurd (other tt)
      go (LookPin q) other within may = choose (lets_go (w.pins q) (oldest_epoch m.retired)) refl
        where
          choose : (b : Bool) → lets_go (w.pins q) (oldest_epoch m.retired) ≡ b → HeldAreSo l (words_after w m e).epoch c.known (cond b (record m { clear = slice_set m.clear q true; let_go = m.let_go ++ q ∷ [] }) (record m { held = m.held ++ q ∷ [] })).held
          choose true lets = λ j has. later j (sound.held j has)
          choose false holds = λ j has. ⊎_elim (λ (old : Contains m.held j). later j (sound.held j old)) (λ (same : q ≡ j). subst IsHeldThen same (later q (found q within may holds))) (Contains-push_cases m.held q j has)
      go (StoreFrame f n x) other within may = λ j has. later j (sound.held j has)
      go (Swap r x) other within may = λ j has. later j (sound.held j has)
      go Raise other within may = λ j has. later j (sound.held j has)

  merger_step : PageStepOf c e l.sessions d
  merger_step = record {
    sound = record { pages = subst Sound (sym is) (keeps (pages_in c) sound.pages e within able); pins = sound.pins; held = held };
    is = is;
    words = ap (λ (u : Known). words_after_page w u e) (sym (merger_known c));
    known = merger_known d ∙ ap (λ (u : Known). known_after_page l w u e) (sym (merger_known c));
    others = λ t ne. let b = ne_eqb t l.sessions ne in ap (λ (b : Bool). cond b d.merger (c.known t)) b ∙ sym (ap (λ (b : Bool). cond b c.merger (c.known t)) b);
    differs = merger_differs;
    pins = λ t. inl refl;
  }

  pub merger_made : PageStepOf c e (stepper c.limits e) (after_page c e)
  merger_made = let at = merger_steps l e other in subst (λ (s : ℕ). PageStepOf c e s (cond (eqb s l.sessions) (after_merger_page c e) (after_own_page c e))) (sym at)
      (subst (PageStepOf c e l.sessions) (sym (ap (λ (b : Bool). cond b (after_merger_page c e) (after_own_page c e)) (eq-eqb l.sessions l.sessions refl))) merger_step)

pub page_steps_are_sound : PageStepsAreSound
page_steps_are_sound c sound (Pin s x) within ok = own_made c sound (Pin s x) tt within ok
page_steps_are_sound c sound (Unpin s) within ok = own_made c sound (Unpin s) tt within ok
page_steps_are_sound c sound (LookPage s r d) within ok = own_made c sound (LookPage s r d) tt within ok
page_steps_are_sound c sound (LookPin s) within ok = merger_made c sound (LookPin s) (λ no. no) within ok
page_steps_are_sound c sound (StoreFrame f n x) within ok = merger_made c sound (StoreFrame f n x) (λ no. no) within ok
page_steps_are_sound c sound (Swap r d) within ok = merger_made c sound (Swap r d) (λ no. no) within ok
page_steps_are_sound c sound Raise within ok = merger_made c sound Raise (λ no. no) within ok
