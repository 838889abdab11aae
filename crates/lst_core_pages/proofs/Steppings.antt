-- A step on cells is a step of the state that they tell.
use Rattle.std.proofs.Common.{◌≡◌, ◌≢◌, ℕ, zero, suc, ◌+◌, ◌<◌, List, [], ◌∷◌, ◌++◌, Bool, true, false, cond, Option, Some, None, refl, sym, subst, ap, ◌∙◌, arith, length, replicate, slice_index_or, slice_set}
use Rattle.std.proofs.lemmas.List.{get_or-set_same, get_or-set_other, length-set, get_or_past, get_or_default}
use mathlib.Core.Logic.{dite}
use native.Mathlib.Decide.{ℕ_discrete, dec_lt}
use Rattle.lst_layout.specs.declared.TheConstants.{FRAME_WORDS}
use Rattle.lst_layout.specs.declared.limits.Limits.{Limits}
use Rattle.lst_layout.specs.Addresses as addresses
use Rattle.lst_layout.specs.Addresses.{address}
use Rattle.lst_layout.specs.Areas.{frame_count}
use Rattle.lst_layout.specs.Functions.{put, put_in}
use Rattle.lst_layout.specs.Words.{Words, word_at, shown, IsShown}
use Rattle.lst_layout.proofs.Functions.{put_here, put_else, put_in_other}
use Rattle.lst_layout.proofs.Shown.{areas_are_shown}
use Rattle.lst_pages.specs.declared.tails.PageTail.{PageTail}
use Rattle.lst_pages.specs.declared.events.PageEvent.{PageEvent}
use Rattle.lst_pages.specs.declared.events.PageEvent.TheVariants.{Pin, Unpin, LookPage, LookPin, StoreFrame, Swap, Raise}
use Rattle.lst_core_pages.specs.declared.hands.PageId.{PageId}
use Rattle.lst_core_state.specs.declared.pages.PageInHand.{PageInHand}
use Rattle.lst_core_state.specs.declared.pages.SessionFrames.{SessionFrames}
use Rattle.lst_pages.specs.Lists.{rest, listed}
use Rattle.lst_pages.specs.State.{Pages, empty_hand, oldest_epoch, frame_in}
use Rattle.lst_pages.specs.Step.{IsWithin, Enabled, lets_go, place_of, with_page, page_at, words_after, after, settled}
use Rattle.lst_pages.specs.Numbers.{written_of}
use Rattle.lst_pages.specs.Sound.{Sound}
use Rattle.lst_core_pages.specs.Cells.{Cells, page_of, filled, hand_at, reader_of, state_of, pages_of, unheld, IsCore, page_id, hand_in, found_in, numbers_in, hands_after, queue_after, stepped, settled_in}
use Rattle.lst_pages.proofs.Functions.{rows-put}
use Rattle.lst_pages.proofs.Safety.{keeps, sound_safe}
use Rattle.lst_pages.proofs.Keeps.{settle_keeps}
use Rattle.lst_pages.proofs.Tellings.{words_law}

-- ---- hands

module _ (frames : ℕ → ℕ → ℕ) where
  pub length-filled : (f : ℕ) (xs : List (Option PageId)) → length (filled frames f xs) ≡ length xs
  length-filled f [] = refl
  length-filled f (x ∷ xs) = ap suc (length-filled (suc f) xs)

  pub get-filled : (f k : ℕ) (xs : List (Option PageId)) (i : ℕ) → k ≡ f + i → slice_index_or (filled frames f xs) i None ≡ page_of frames k (slice_index_or xs i None)
  get-filled f k [] i e = refl
  get-filled f k (x ∷ xs) zero e = let same : f ≡ k = omega arith in ap (λ (g : ℕ). page_of frames g x) same
  get-filled f k (x ∷ xs) (suc i) e = get-filled (suc f) k xs i (omega arith)

  -- a hand without frames
  pub filled-empty : (f n : ℕ) → filled frames f (replicate n None) ≡ replicate n None
  filled-empty f zero = refl
  filled-empty f (suc n) = ap (λ (xs : List (Option PageInHand)). None ∷ xs) (filled-empty (suc f) n)

  filled-set : (f k : ℕ) (xs : List (Option PageId)) (i : ℕ) (x : Option PageId) → k ≡ f + i → filled frames f (slice_set xs i x) ≡ slice_set (filled frames f xs) i (page_of frames k x)
  filled-set f k [] i x e = refl
  filled-set f k (y ∷ ys) zero x e = let same : f ≡ k = omega arith in ap (λ (g : ℕ). page_of frames g x ∷ filled frames (suc f) ys) same
  filled-set f k (y ∷ ys) (suc i) x e = ap (λ (xs : List (Option PageInHand)). page_of frames f y ∷ xs) (filled-set (suc f) k ys i x (omega arith))

-- a frame that is not in hand does not matter
filled-same : (frames others : ℕ → ℕ → ℕ) (g f : ℕ) (xs : List (Option PageId)) → ((h : ℕ) → h ≢ g → others h ≡ frames h) → ((i : ℕ) → f + i ≡ g → slice_index_or xs i None ≡ None) → filled others f xs ≡ filled frames f xs
filled-same frames others g f [] same out = refl
filled-same frames others g f (x ∷ xs) same out = (λ i. one x (λ e. out 0 (let z : f + 0 ≡ g = omega (arith, e) in z)) i ∷ filled-same frames others g (suc f) xs same (λ j e. out (suc j) (omega arith)) i)
  where
    one : (x : Option PageId) → (f ≡ g → x ≡ None) → page_of others f x ≡ page_of frames f x
    one None none = refl
    one (Some page) none = dite (ℕ_discrete f g)
        (λ e. absurd (let z : Some page ≡ None = none e in cc))
        (λ other. ap (λ (words : ℕ → ℕ). Some (let held : PageInHand = record { range = page.range; column = page.column; words = listed words 0 FRAME_WORDS } in held)) (same f other))

-- a list of which each item is None
nothing_in : {A : Type 0} (n : ℕ) (xs : List (Option A)) → length xs ≡ n → ((i : ℕ) → slice_index_or xs i None ≡ None) → xs ≡ replicate n None
nothing_in zero [] long none = refl
nothing_in (suc n) [] long none = absurd (omega arith)
nothing_in zero (x ∷ xs) long none = absurd (omega arith)
nothing_in (suc n) (x ∷ xs) long none = (λ i. none 0 i ∷ nothing_in n xs (omega arith) (λ j. none (suc j)) i)

page_none : (frames : ℕ → ℕ → ℕ) (f : ℕ) (x : Option PageId) → page_of frames f x ≡ None → x ≡ None
page_none frames f None e = refl
page_none frames f (Some page) e = absurd (cc)

-- ---- states

-- no part speaks of the finds
pub sound_unheld : (p : Pages) → Sound p → Sound (unheld p)
sound_unheld p s = record {
  valid = s.valid;
  places = s.places;
  hand_sized = s.hand_sized;
  pinned = s.pinned;
  hand_kept = s.hand_kept;
  hand_same = s.hand_same;
  hand_right = s.hand_right;
  cleared = s.cleared;
  unlooked = s.unlooked;
  built = s.built;
  retirement = s.retirement;
  right = s.right;
  copied = s.copied;
  sized = s.sized;
}

pub word_within : (l : Limits) (e : PageEvent) → IsWithin l e → addresses.IsWithin l (place_of e)
word_within l (Pin s e) within = within
word_within l (Unpin s) within = within
word_within l (LookPage s r c) within = within.1
word_within l (LookPin s) within = within
word_within l (StoreFrame f n x) within = within
word_within l (Swap r c) within = within
word_within l Raise within = within

module _ (c : Cells) (is : IsCore c) where
  abbrev pub L : Limits
  L = c.limits

  abbrev pub w : Words
  w = shown c.limits c.row

  abbrev pub P : Pages
  P = pages_of c

  pub shows : IsShown L c.row
  shows = areas_are_shown L c.row is.wide

  pub found_is : (e : PageEvent) → IsWithin L e → found_in c e ≡ word_at w (place_of e)
  found_is e within = sym (shows.found (place_of e) (word_within L e within))

  abbrev x : PageEvent → ℕ
  x e = word_at w (place_of e)

  pub hand_long : (s : ℕ) → s < L.sessions → length (hand_at L c.hands s) ≡ frame_count L
  hand_long s low = sym (length-filled w.frames 0 (hand_at L c.hands s)) ∙ is.sound.hand_sized s low

  pub in_hands : (s : ℕ) → s < L.sessions → s < length c.hands
  in_hands s low = let e = is.each_session in omega arith

  pub hand_in_is : (s : ℕ) → s < L.sessions → hand_in c.hands s ≡ hand_at L c.hands s
  hand_in_is s low = get_or_default c.hands s [] (empty_hand L) (in_hands s low)

  -- another pin of one session
  other_pin : (s q : ℕ) (hands : List (List (Option PageId))) (v : SessionFrames) → ((j : ℕ) → j ≢ s → hand_at L hands j ≡ hand_at L c.hands j) → v ≡ record { pin = q; hand = filled w.frames 0 (hand_at L hands s) }
      → (j : ℕ) → reader_of L (record w { pins = put w.pins s q }) hands j ≡ put (reader_of L w c.hands) s v j
  other_pin s q hands v others here j = dite (ℕ_discrete j s)
      (λ e. subst (λ (k : ℕ). reader_of L (record w { pins = put w.pins s q }) hands k ≡ put (reader_of L w c.hands) s v k) (sym e)
      ((λ i. record { pin = put_here w.pins s q i; hand = filled w.frames 0 (hand_at L hands s) }) ∙ sym (put_here (reader_of L w c.hands) s v ∙ here)))
      (λ other. (λ i. record { pin = put_else w.pins s q j other i; hand = filled w.frames 0 (others j other i) }) ∙ sym (put_else (reader_of L w c.hands) s v j other))

  -- the state after the step, by the word found
  told : (e : PageEvent) → IsWithin L e → Enabled P e → state_of L (words_after w P.merger e) (hands_after c.hands e (x e)) c.tails (queue_after c.queue e (x e)) ≡ unheld (after P e)
  told (Pin s e) within ok = λ i. record { limits = L; words = record w { pins = put w.pins s (e + 1) }; tails = P.tails; readers = λ j. same j i; merger = P.merger }
    where
      empty : filled w.frames 0 (hand_at L c.hands s) ≡ empty_hand L
      empty = nothing_in (frame_count L) (filled w.frames 0 (hand_at L c.hands s)) (is.sound.hand_sized s within) ((is.sound.pinned s within).none ok.0)

      same : (j : ℕ) → reader_of L (record w { pins = put w.pins s (e + 1) }) c.hands j ≡ put P.readers s (record { pin = e + 1; hand = empty_hand L }) j
      same = other_pin s (e + 1) c.hands (record { pin = e + 1; hand = empty_hand L }) (λ j other. refl) (λ i. record { pin = e + 1; hand = sym empty i })
  told (Unpin s) within ok = λ i. record { limits = L; words = record w { pins = put w.pins s 0 }; tails = P.tails; readers = λ j. same j i; merger = P.merger }
    where
      none : List (Option PageId)
      none = replicate (length (hand_in c.hands s)) None

      hands' : List (List (Option PageId))
      hands' = slice_set c.hands s none

      empty : filled w.frames 0 (hand_at L hands' s) ≡ empty_hand L
      empty = ap (filled w.frames 0) (get_or-set_same c.hands s none (empty_hand L) (in_hands s within)) ∙ filled-empty w.frames 0 (length (hand_in c.hands s)) ∙ ap (λ (n : ℕ). replicate n None) (ap length (hand_in_is s within) ∙ hand_long s within)

      same : (j : ℕ) → reader_of L (record w { pins = put w.pins s 0 }) hands' j ≡ put P.readers s (record { pin = 0; hand = empty_hand L }) j
      same = other_pin s 0 hands' (record { pin = 0; hand = empty_hand L }) (λ j other. get_or-set_other c.hands s j none (empty_hand L) other) (λ i. record { pin = 0; hand = sym empty i })
  told (LookPage s r d) within ok = λ i. record { limits = L; words = w; tails = P.tails; readers = λ j. same j i; merger = P.merger }
    where
      g : ℕ
      g = w.directory r d

      new : List (Option PageId)
      new = slice_set (hand_in c.hands s) g (Some (page_id r d))

      same : (j : ℕ) → reader_of L w (slice_set c.hands s new) j ≡ put P.readers s (with_page w (P.readers s) r d) j
      same j = dite (ℕ_discrete j s)
          (λ e. subst (λ (k : ℕ). reader_of L w (slice_set c.hands s new) k ≡ put P.readers s (with_page w (P.readers s) r d) k) (sym e)
          ((let at = get_or-set_same c.hands s new (empty_hand L) (in_hands s within.0) in let put_is = filled-set w.frames 0 g (hand_in c.hands s) g (Some (page_id r d)) (omega arith) ∙ ap (λ (xs : List (Option PageId)). slice_set (filled w.frames 0 xs) g (Some (page_at w r d))) (hand_in_is s within.0) in
          λ i. record { pin = w.pins s; hand = (ap (filled w.frames 0) at ∙ put_is) i }) ∙ sym (put_here P.readers s (with_page w (P.readers s) r d))))
          (λ other. (let at = get_or-set_other c.hands s j new (empty_hand L) other in λ i. record { pin = w.pins j; hand = filled w.frames 0 (at i) }) ∙ sym (put_else P.readers s (with_page w (P.readers s) r d) j other))
  told (LookPin s) within ok = choose (lets_go (w.pins s) (oldest_epoch c.queue.retired))
    where
      choose : (b : Bool) → state_of L w c.hands c.tails (cond b (record c.queue { clear = slice_set c.queue.clear s true }) c.queue)
          ≡ unheld (record P { merger = cond b (record P.merger { clear = slice_set P.merger.clear s true; let_go = P.merger.let_go ++ s ∷ [] }) (record P.merger { held = P.merger.held ++ s ∷ [] }) })
      choose true = refl
      choose false = refl
  told (StoreFrame f n y) within ok = λ i. record {
    limits = L;
    words = record w { frames = frames' };
    tails = P.tails;
    readers = λ j. same j i;
    merger = record P.merger { frames = rows-put w.frames (frame_count L) FRAME_WORDS f n y within.0 within.1 i; built = Some f };
  }
    where
      frames' : ℕ → ℕ → ℕ
      frames' = put_in w.frames f n y

      out : (j : ℕ) → j < L.sessions → slice_index_or (hand_at L c.hands j) f None ≡ None
      out j low = page_none w.frames f (slice_index_or (hand_at L c.hands j) f None) (sym (get-filled w.frames 0 f (hand_at L c.hands j) f (omega arith)) ∙ (sound_safe P is.sound).unread f n y ok j low)

      hand_same : (j : ℕ) → filled frames' 0 (hand_at L c.hands j) ≡ filled w.frames 0 (hand_at L c.hands j)
      hand_same j = dite (dec_lt j L.sessions)
          (λ low. filled-same w.frames frames' f 0 (hand_at L c.hands j) (λ h other. put_in_other w.frames f n y h other) (λ i e. let z : i ≡ f = omega arith in ap (λ (k : ℕ). slice_index_or (hand_at L c.hands j) k None) z ∙ out j low))
          (λ high. let beyond : hand_at L c.hands j ≡ empty_hand L = get_or_past c.hands j (empty_hand L) (let e = is.each_session in omega arith) in
          (λ i. filled frames' 0 (beyond i)) ∙ filled-empty frames' 0 (frame_count L) ∙ sym ((λ i. filled w.frames 0 (beyond i)) ∙ filled-empty w.frames 0 (frame_count L)))

      same : (j : ℕ) → reader_of L (record w { frames = frames' }) c.hands j ≡ P.readers j
      same j = λ i. record { pin = w.pins j; hand = hand_same j i }
  told (Swap r d) within ok = let long = is.sound.sized.sessions in λ i. record {
    limits = L;
    words = record w { directory = put_in w.directory r d (frame_in c.queue.built) };
    tails = P.tails;
    readers = P.readers;
    merger = record P.merger { directory = rows-put w.directory L.ranges L.columns r d (frame_in c.queue.built) within.0 within.1 i; retired = rest c.queue.retired; clear = replicate (long i) false; waiting = Some (w.directory r d); built = None };
  }
  told Raise within ok = refl

  pub step_state : (e : PageEvent) → IsWithin L e → Enabled P e → pages_of (stepped c e) ≡ unheld (after P e)
  step_state e within ok = (λ i. state_of L (words i) (hands_after c.hands e (found_is e within i)) c.tails (queue_after c.queue e (found_is e within i))) ∙ told e within ok
    where
      words : shown L (slice_set c.row (address L (place_of e)) (written_of (numbers_in c) e (found_in c e))) ≡ words_after w P.merger e
      words = ap (λ (y : ℕ). shown L (slice_set c.row (address L (place_of e)) (written_of (numbers_in c) e y))) (found_is e within)
          ∙ shows.changed (place_of e) (written_of (numbers_in c) e (x e)) (word_within L e within) ∙ words_law w P.merger e

  hands_long : (e : PageEvent) → length (hands_after c.hands e (found_in c e)) ≡ length c.hands
  hands_long (Pin s e) = refl
  hands_long (Unpin s) = length-set c.hands s (replicate (length (hand_in c.hands s)) None)
  hands_long (LookPage s r d) = length-set c.hands s (slice_set (hand_in c.hands s) (found_in c (LookPage s r d)) (Some (page_id r d)))
  hands_long (LookPin s) = refl
  hands_long (StoreFrame f n y) = refl
  hands_long (Swap r d) = refl
  hands_long Raise = refl

  pub step_core : (e : PageEvent) → IsWithin L e → Enabled P e → IsCore (stepped c e)
  step_core e within ok = record {
    wide = length-set c.row (address L (place_of e)) (written_of (numbers_in c) e (found_in c e)) ∙ is.wide;
    each_session = hands_long e ∙ is.each_session;
    each_range = is.each_range;
    sound = subst Sound (sym (step_state e within ok)) (sound_unheld (after P e) (keeps P is.sound e within ok));
  }

  -- ---- a settled tail

  pub settle_state : (r : ℕ) (t : PageTail) → r < L.ranges → pages_of (settled_in c r t) ≡ settled P r t
  settle_state r t low = λ i. record { limits = L; words = w; tails = λ q. same q i; readers = P.readers; merger = P.merger }
    where
      more : List PageTail
      more = slice_index_or c.tails r [] ++ t ∷ []

      same : (q : ℕ) → slice_index_or (slice_set c.tails r more) q [] ≡ put P.tails r more q
      same q = dite (ℕ_discrete q r)
          (λ e. subst (λ (k : ℕ). slice_index_or (slice_set c.tails r more) k [] ≡ put P.tails r more k) (sym e) (get_or-set_same c.tails r more [] (let long = is.each_range in omega arith) ∙ sym (put_here P.tails r more)))
          (λ other. get_or-set_other c.tails r q more [] other ∙ sym (put_else P.tails r more q other))

  pub settle_core : (r : ℕ) (t : PageTail) → r < L.ranges → IsCore (settled_in c r t)
  settle_core r t low = record {
    wide = is.wide;
    each_session = is.each_session;
    each_range = length-set c.tails r (slice_index_or c.tails r [] ++ t ∷ []) ∙ is.each_range;
    sound = subst Sound (sym (settle_state r t low)) (settle_keeps P is.sound r t);
  }
