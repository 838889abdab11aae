-- Whose step on pages it is, where it may be made by words and knowledge, and what it leaves.
use Rattle.std.proofs.Common.{◌≡◌, ◌↔◌, ℕ, ◌<◌, ◌≤◌, List, Bool, cond, Option, Some, refl, sym, subst, ap, ◌∙◌, arith, eq-eqb, ne_eqb}
use Rattle.lst_layout.specs.declared.limits.Limits.{Limits}
use Rattle.lst_layout.specs.Words.{Words}
use Rattle.lst_pages.specs.declared.tails.PageTail.{PageTail}
use Rattle.lst_core_state.specs.declared.known.Known.{Known}
use Rattle.lst_core_state.specs.declared.pages.PageKnown.{PageKnown}
use Rattle.lst_core_state.specs.declared.pages.SessionFrames.{SessionFrames}
use Rattle.lst_core_state.specs.declared.pages.MergerFrames.{MergerFrames}
use Rattle.lst_core_state.specs.State.{Core}
use Rattle.lst_core_state.specs.Step.{known_of}
use Rattle.lst_pages.specs.declared.events.PageEvent.{PageEvent}
use Rattle.lst_pages.specs.declared.events.PageEvent.TheVariants.{Pin, Unpin, LookPage, LookPin, StoreFrame, Swap, Raise}
use Rattle.lst_pages.specs.State.{Pages, frame_in}
use Rattle.lst_pages.specs.Step.{IsWithin, MaySwap, Enabled, words_after}
use Rattle.lst_pages.specs.Settled.{settled_tails}
use Rattle.lst_pages.specs.Known.{pages_in, stepper, PageEnabled, PageStands, pins_after, page_known_after}
use Rattle.lst_pages.specs.StateLaws.{EnabledIsSplit}
use Rattle.lst_pages.proofs.Freeing.{tails_alike}

-- ---- whose step it is

-- what the merger, and what a session, knows
pub merger_known : (c : Core) → known_of c c.limits.sessions ≡ c.merger
merger_known c = ap (λ (b : Bool). cond b c.merger (c.known c.limits.sessions)) (eq-eqb c.limits.sessions c.limits.sessions refl)

pub session_known : (c : Core) (s : ℕ) → s < c.limits.sessions → known_of c s ≡ c.known s
session_known c s low = ap (λ (b : Bool). cond b c.merger (c.known s)) (ne_eqb s c.limits.sessions (λ e. absurd (omega arith)))

abbrev Split : Core → PageEvent → Known → Type 0
Split c e v = (PageEnabled c.limits v.pages e × PageStands c.limits c.words v.pages e) ↔ Enabled (pages_in c) e

swap_split : (l : Limits) (w : Words) (r d : ℕ) (built : Option ℕ)
    → (((f : ℕ) × (built ≡ Some f)) × MaySwap l w (settled_tails l w r) r d (frame_in built)) ↔ ((f : ℕ) × (built ≡ Some f) × MaySwap l w (settled_tails l w r) r d f)
swap_split l w r d built = (
  (λ (is, may). (is.0, is.1, subst (MaySwap l w (settled_tails l w r) r d) (ap frame_in is.1) may)),
  (λ (f, is, may). ((f, is), subst (MaySwap l w (settled_tails l w r) r d) (sym (ap frame_in is)) may)),
)

pub enabled_is_split : EnabledIsSplit
enabled_is_split c (Pin s e) within = subst (Split c (Pin s e)) (sym (session_known c s within)) ((λ h. h), (λ h. h))
enabled_is_split c (Unpin s) within = subst (Split c (Unpin s)) (sym (session_known c s within)) ((λ h. h.0), (λ h. (h, tt)))
enabled_is_split c (LookPage s r d) within = subst (Split c (LookPage s r d)) (sym (session_known c s within.0)) ((λ h. h.0), (λ h. (h, tt)))
enabled_is_split c (LookPin s) within = subst (Split c (LookPin s)) (sym (merger_known c)) ((λ h. h.0), (λ h. (h, tt)))
enabled_is_split c (StoreFrame f n x) within = subst (Split c (StoreFrame f n x)) (sym (merger_known c)) ((λ h. h.0), (λ h. (h, tt)))
enabled_is_split c (Swap r d) within = subst (Split c (Swap r d)) (sym (merger_known c)) (swap_split c.limits c.words r d c.merger.pages.stock.built)
enabled_is_split c Raise within = subst (Split c Raise) (sym (merger_known c)) ((λ h. h.0), (λ h. (h, tt)))

-- ---- the step of a session

-- which kinds a session makes, and which the merger
abbrev pub IsOwn : PageEvent → Type 0
IsOwn (Pin s e) = Unit {0}
IsOwn (Unpin s) = Unit {0}
IsOwn (LookPage s r d) = Unit {0}
IsOwn e = ⊥

pub own_low : (l : Limits) (e : PageEvent) → IsOwn e → IsWithin l e → stepper l e < l.sessions
own_low l (Pin s e) own within = within
own_low l (Unpin s) own within = within
own_low l (LookPage s r d) own within = within.0
own_low l (LookPin s) own within = absurd own
own_low l (StoreFrame f n x) own within = absurd own
own_low l (Swap r d) own within = absurd own
own_low l Raise own within = absurd own

pub merger_steps : (l : Limits) (e : PageEvent) → (IsOwn e → ⊥) → stepper l e ≡ l.sessions
merger_steps l (Pin s e) other = absurd (other tt)
merger_steps l (Unpin s) other = absurd (other tt)
merger_steps l (LookPage s r d) other = absurd (other tt)
merger_steps l (LookPin s) other = refl
merger_steps l (StoreFrame f n x) other = refl
merger_steps l (Swap r d) other = refl
merger_steps l Raise other = refl

-- ---- what steps leave of the core, and of pins

pub words_differ : (w : Words) (m : MergerFrames) (e : PageEvent) → words_after w m e ≡ record w { epoch = (words_after w m e).epoch; directory = (words_after w m e).directory; frames = (words_after w m e).frames; pins = (words_after w m e).pins }
words_differ w m (Pin s e) = refl
words_differ w m (Unpin s) = refl
words_differ w m (LookPage s r d) = refl
words_differ w m (LookPin s) = refl
words_differ w m (StoreFrame f n x) = refl
words_differ w m (Swap r d) = refl
words_differ w m Raise = refl

-- the tails that are settled after a step are those before it
pub tails_stay : (l : Limits) (w : Words) (m : MergerFrames) (e : PageEvent) → settled_tails l (words_after w m e) ≡ settled_tails l w
tails_stay l w m e = let v = words_after w m e in ap (settled_tails l) (words_differ w m e) ∙ (λ i range. tails_alike l w v.epoch v.directory v.frames v.pins range i)

pub epoch_rises : (w : Words) (m : MergerFrames) (e : PageEvent) → m.epoch ≡ w.epoch → w.epoch ≤ (words_after w m e).epoch
epoch_rises w m (Pin s e) same = omega arith
epoch_rises w m (Unpin s) same = omega arith
epoch_rises w m (LookPage s r d) same = omega arith
epoch_rises w m (LookPin s) same = omega arith
epoch_rises w m (StoreFrame f n x) same = omega arith
epoch_rises w m (Swap r d) same = omega arith
epoch_rises w m Raise same = omega arith

pub own_epoch : (w : Words) (m : MergerFrames) (e : PageEvent) → IsOwn e → (words_after w m e).epoch ≡ w.epoch
own_epoch w m (Pin s e) own = refl
own_epoch w m (Unpin s) own = refl
own_epoch w m (LookPage s r d) own = refl
own_epoch w m (LookPin s) own = absurd own
own_epoch w m (StoreFrame f n x) own = absurd own
own_epoch w m (Swap r d) own = absurd own
own_epoch w m Raise own = absurd own

pub pins_rise : (n : ℕ) (e : PageEvent) → n ≤ pins_after n e
pins_rise n (Pin s e) = omega arith
pins_rise n (Unpin s) = omega arith
pins_rise n (LookPage s r d) = omega arith
pins_rise n (LookPin s) = omega arith
pins_rise n (StoreFrame f i x) = omega arith
pins_rise n (Swap r d) = omega arith
pins_rise n Raise = omega arith

-- whoever has a pin then has set one
pub pins_count : (l : Limits) (w : Words) (k : PageKnown) (e : PageEvent) → IsOwn e → (0 < k.session.pin → 0 < k.pins) → 0 < (page_known_after l w k e).session.pin → 0 < (page_known_after l w k e).pins
pins_count l w k (Pin s e) own was some = omega arith
pins_count l w k (Unpin s) own was some = absurd (omega arith)
pins_count l w k (LookPage s r d) own was some = was some
pins_count l w k (LookPin s) own was some = absurd own
pins_count l w k (StoreFrame f n x) own was some = absurd own
pins_count l w k (Swap r d) own was some = absurd own
pins_count l w k Raise own was some = absurd own

-- a state of pages
abbrev pub pages_with : Limits → Words → (ℕ → List PageTail) → (ℕ → SessionFrames) → MergerFrames → Pages
pages_with l w tails readers merger = record { limits = l; words = w; tails = tails; readers = readers; merger = merger }
