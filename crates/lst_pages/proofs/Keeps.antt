-- The kinds of step that move no frame keep what holds.
use Rattle.std.proofs.Common.{◌≡◌, ◌≢◌, ◌⊎◌, ℕ, ◌+◌, ◌<◌, ◌≤◌, List, [], ◌∷◌, ◌++◌, true, Option, Some, None, IfSome, refl, sym, subst, ap, ◌∙◌, arith, inl, inr, ⊎_elim, append-nil, length, slice_index, slice_index_or, slice_set}
use mathlib.Core.Logic.{dite}
use native.Mathlib.Decide.{ℕ_discrete}
use Rattle.std.proofs.lemmas.List.{length-set, length-replicate}
use Rattle.lst_layout.specs.declared.TheConstants.{FRAME_WORDS}
use Rattle.lst_layout.specs.declared.limits.Limits.{Limits}
use Rattle.lst_layout.specs.Areas.{frame_count}
use Rattle.lst_layout.specs.Functions.{put, put_in}
use Rattle.lst_layout.specs.Words.{Words}
use Rattle.lst_layout.proofs.Functions.{put_here, put_else, each_put, put_in_other, put_in_else}
use Rattle.lst_pages.specs.declared.tails.PageTail.{PageTail}
use Rattle.lst_pages.specs.Pages.{IsRightPage}
use Rattle.lst_pages.proofs.Pages.{right_same, right_more}
use Rattle.lst_pages.specs.declared.events.PageEvent.TheVariants.{Pin, Unpin, LookPage, StoreFrame}
use Rattle.lst_core_state.specs.declared.pages.Retired.{Retired}
use Rattle.lst_core_state.specs.declared.pages.PageInHand.{PageInHand}
use Rattle.lst_core_state.specs.declared.pages.SessionFrames.{SessionFrames}
use Rattle.lst_core_state.specs.declared.pages.MergerFrames.{MergerFrames}
use Rattle.lst_pages.specs.Lists.{Every, Any, First, HasFirst, GoesOn, total, listed, word_in}
use Rattle.lst_pages.specs.State.{Pages, hand_of, empty_hand, is_clear, oldest_epoch}
use Rattle.lst_pages.specs.Step.{IsWithin, Enabled, page_at, with_page, after, settled}
use Rattle.lst_pages.specs.Sound.{IsPage, Outside, Distinct, Pinned, Kept, EachInHand, HandKept, HandRight, HandSame, Cleared, Sound}
use Rattle.lst_pages.proofs.Functions.{put_in_here, each_put_in, each_set, get-replicate, get-listed, if_map, if_none, word_in-with, length-with, total-same}
use Rattle.lst_pages.proofs.Items.{any_every, first_both}

some_none : {A : Type 0} {a : A} → Some a ≡ None → ⊥
some_none e = cc

-- no frame is in an empty hand
pub none_in : (l : Limits) (f : ℕ) → slice_index_or (empty_hand {A = PageInHand} l) f None ≡ None
none_in l f = get-replicate (frame_count l) f None

each_empty : (l : Limits) (P : ℕ → PageInHand → Type 0) → EachInHand P (λ f. slice_index_or (empty_hand {A = PageInHand} l) f None)
each_empty l P f = if_none (P f) (slice_index_or (empty_hand l) f None) (none_in l f)

module _ (p : Pages) (sound : Sound p) where
  abbrev pub L : Limits
  L = p.limits

  abbrev pub w : Words
  w = p.words

  abbrev pub K : ℕ → SessionFrames
  K = p.readers

  abbrev pub m : MergerFrames
  m = p.merger

  -- nobody takes in hand a frame that is in no directory word
  cleared_put : (s : ℕ) (v : SessionFrames) → ((f : ℕ) → Outside L w.directory f → hand_of (K s) f ≡ None → hand_of v f ≡ None) → Cleared L (put K s v) m.retired (is_clear m)
  cleared_put s v still = first_both (λ (r : Retired). (j : ℕ) → j < L.sessions → is_clear m j ≡ true → hand_of (K j) r.frame ≡ None) (λ (r : Retired). (r.frame < frame_count L) × Outside L w.directory r.frame)
      (λ (r : Retired). (j : ℕ) → j < L.sessions → is_clear m j ≡ true → hand_of (put K s v j) r.frame ≡ None) m.retired
      (λ r old out. each_put (λ (j : ℕ) (u : SessionFrames). j < L.sessions → is_clear m j ≡ true → hand_of u r.frame ≡ None) K s v (λ low e. still r.frame out.1 (old s low e)) (λ j other. old j)) sound.cleared sound.places.outside

  -- a session has another pin, and no frame in hand
  emptied : (s q : ℕ) → q ≤ w.epoch + 1 → Sound record { limits = L; words = record w { pins = put w.pins s q }; tails = p.tails; readers = put K s (record { pin = q; hand = empty_hand L }); merger = m }
  emptied s q low = let v : SessionFrames = record { pin = q; hand = empty_hand L } in record {
    valid = sound.valid;
    places = sound.places;
    hand_sized = each_put (λ (j : ℕ) (u : SessionFrames). j < L.sessions → length u.hand ≡ frame_count L) K s v (λ _. length-replicate (frame_count L) None) (λ j other. sound.hand_sized j);
    pinned = each_put (λ (j : ℕ) (u : SessionFrames). j < L.sessions → Pinned w.epoch (put w.pins s q j) u.pin (hand_of u)) K s v (λ _. record { known = put_here w.pins s q; low = low; none = λ _ f. none_in L f })
        (λ j other h. let k = sound.pinned j h in record { known = put_else w.pins s q j other ∙ k.known; low = k.low; none = k.none });
    hand_kept = each_put (λ (j : ℕ) (u : SessionFrames). j < L.sessions → HandKept L w.directory m.retired m.waiting u.pin (hand_of u)) K s v (λ _. each_empty L (λ f page. Kept L w.directory m.retired m.waiting q f)) (λ j other. sound.hand_kept j);
    hand_same = each_put (λ (j : ℕ) (u : SessionFrames). j < L.sessions → HandSame w.frames (hand_of u)) K s v (λ _. each_empty L (λ f page. (n : ℕ) → n < FRAME_WORDS → w.frames f n ≡ slice_index page.words n)) (λ j other. sound.hand_same j);
    hand_right = each_put (λ (j : ℕ) (u : SessionFrames). j < L.sessions → HandRight L p.tails (hand_of u)) K s v (λ _. each_empty L (λ f page. IsPage L page.range page.column × IsRightPage page.column (p.tails page.range) (slice_index page.words))) (λ j other. sound.hand_right j);
    cleared = cleared_put s v (λ f _ _. none_in L f);
    unlooked = sound.unlooked;
    built = sound.built;
    retirement = sound.retirement;
    right = sound.right;
    copied = sound.copied;
    sized = sound.sized;
  }

  pub pin_keeps : (s e : ℕ) → Enabled p (Pin s e) → Sound (after p (Pin s e))
  pin_keeps s e ok = let low = ok.1 in emptied s (e + 1) (omega arith)

  pub unpin_keeps : (s : ℕ) → Sound (after p (Unpin s))
  unpin_keeps s = emptied s 0 (omega arith)

  pub page_keeps : (s r c : ℕ) → IsWithin L (LookPage s r c) → Enabled p (LookPage s r c) → Sound (after p (LookPage s r c))
  page_keeps s r c within ok = let v : SessionFrames = with_page w (K s) r c in record {
    valid = sound.valid;
    places = sound.places;
    hand_sized = each_put (λ (j : ℕ) (u : SessionFrames). j < L.sessions → length u.hand ≡ frame_count L) K s v (λ low. length-set (K s).hand g (Some (page_at w r c)) ∙ sound.hand_sized s low) (λ j other. sound.hand_sized j);
    pinned = each_put (λ (j : ℕ) (u : SessionFrames). j < L.sessions → Pinned w.epoch (w.pins j) u.pin (hand_of u)) K s v
        (λ low. let k = sound.pinned s low in record { known = k.known; low = k.low; none = λ e. absurd (omega arith) }) (λ j other. sound.pinned j);
    hand_kept = each_put (λ (j : ℕ) (u : SessionFrames). j < L.sessions → HandKept L w.directory m.retired m.waiting u.pin (hand_of u)) K s v
        (λ low. in_hand (λ f page. Kept L w.directory m.retired m.waiting (K s).pin f) low (inl (r, c, within.1, refl)) (sound.hand_kept s low)) (λ j other. sound.hand_kept j);
    hand_same = each_put (λ (j : ℕ) (u : SessionFrames). j < L.sessions → HandSame w.frames (hand_of u)) K s v
        (λ low. in_hand (λ f page. (n : ℕ) → n < FRAME_WORDS → w.frames f n ≡ slice_index page.words n) low (λ n short. sym (at n short)) (sound.hand_same s low)) (λ j other. sound.hand_same j);
    hand_right = each_put (λ (j : ℕ) (u : SessionFrames). j < L.sessions → HandRight L p.tails (hand_of u)) K s v
        (λ low. in_hand (λ f page. IsPage L page.range page.column × IsRightPage page.column (p.tails page.range) (slice_index page.words)) low
        (within.1, right_same c (p.tails r) (w.frames g) (slice_index (listed (w.frames g) 0 FRAME_WORDS)) at (sound.right r c within.1)) (sound.hand_right s low)) (λ j other. sound.hand_right j);
    cleared = cleared_put s v (λ f out none. each_set (λ (i : ℕ) (x : Option PageInHand). i ≡ f → x ≡ None) (K s).hand g (Some (page_at w r c)) None (g_low within.0) (λ e. absurd (out r c within.1 e)) (λ j other e. ap (hand_of (K s)) e ∙ none) f refl);
    unlooked = sound.unlooked;
    built = sound.built;
    retirement = sound.retirement;
    right = sound.right;
    copied = sound.copied;
    sized = sound.sized;
  }
    where
      g : ℕ
      g = w.directory r c

      g_low : s < L.sessions → g < length (K s).hand
      g_low low = let k = sound.hand_sized s low in let h = sound.places.low r c within.1 in omega arith

      in_hand : (P : ℕ → PageInHand → Type 0) → s < L.sessions → P g (page_at w r c) → EachInHand P (hand_of (K s)) → EachInHand P (hand_of (with_page w (K s) r c))
      in_hand P low here others = each_set (λ (f : ℕ) (x : Option PageInHand). IfSome x (P f)) (K s).hand g (Some (page_at w r c)) None (g_low low) here (λ j other. others j)

      at : (n : ℕ) → n < FRAME_WORDS → slice_index (listed (w.frames g) 0 FRAME_WORDS) n ≡ w.frames g n
      at n short = get-listed (w.frames g) 0 FRAME_WORDS n 0 short ∙ (let e : 0 + n ≡ n = omega arith in ap (w.frames g) e)

  -- a frame in hand of j is not the oldest retired one, where j's pin lets go of that
  pub let_go : (j : ℕ) → j < L.sessions → m.waiting ≡ None → (rs : List Retired) → m.retired ≡ rs → ((K j).pin ≡ 0) ⊎ (oldest_epoch rs < (K j).pin) → First (λ r. hand_of (K j) r.frame ≡ None) rs
  let_go j low idle [] e why = tt
  let_go j low idle (r ∷ rs) e (inl none) = (sound.pinned j low).none none r.frame
  let_go j low idle (r ∷ rs) e (inr above) = choose (hand_of (K j) r.frame) refl (sound.hand_kept j low r.frame)
    where
      held : Kept L w.directory m.retired m.waiting (K j).pin r.frame → ⊥
      held (inl (a, b, is, at)) = (subst (Every (λ (q : Retired). (q.frame < frame_count L) × Outside L w.directory q.frame)) e sound.places.outside).0.1 a b is at
      held (inr (inl waits)) = some_none (sym waits ∙ idle)
      held (inr (inr any)) = ⊎_elim
          (λ (first : (r.frame ≡ r.frame) × ((K j).pin ≤ r.epoch)). let old = first.1 in omega arith)
          (λ (later : Any (λ q. (q.frame ≡ r.frame) × ((K j).pin ≤ q.epoch)) rs). any_every (λ (q : Retired). (q.frame ≡ r.frame) × ((K j).pin ≤ q.epoch)) (λ (q : Retired). q.frame ≢ r.frame) ⊥ rs (λ q is other. other is.0) later (subst Distinct e sound.places.distinct).0)
          (subst (Any (λ (q : Retired). (q.frame ≡ r.frame) × ((K j).pin ≤ q.epoch))) e any)

      choose : (x : Option PageInHand) → hand_of (K j) r.frame ≡ x → IfSome (hand_of (K j) r.frame) (λ page. Kept L w.directory m.retired m.waiting (K j).pin r.frame) → hand_of (K j) r.frame ≡ None
      choose None is kept = is
      choose (Some page) is kept = absurd (held (subst (λ (x : Option PageInHand). IfSome x (λ page. Kept L w.directory m.retired m.waiting (K j).pin r.frame)) is kept))

  -- the frame that is stored into is in no directory word and in nobody's hand
  pub store_keeps : (f n x : ℕ) → IsWithin L (StoreFrame f n x) → Enabled p (StoreFrame f n x) → Sound (after p (StoreFrame f n x))
  store_keeps f n x within ok = go m.retired refl ok.0
    where
      go : (rs : List Retired) → m.retired ≡ rs → HasFirst (λ r. r.frame ≡ f) rs → Sound (after p (StoreFrame f n x))
      go [] e none = absurd none
      go (r ∷ rs) e is = record {
        valid = sound.valid;
        places = sound.places;
        hand_sized = sound.hand_sized;
        pinned = sound.pinned;
        hand_kept = sound.hand_kept;
        hand_same = λ j low g. dite (ℕ_discrete g f)
            (λ same. if_none (λ page. (n : ℕ) → n < FRAME_WORDS → frames' g n ≡ slice_index page.words n) (hand_of (K j) g) (ap (hand_of (K j)) (same ∙ sym is) ∙ free j low))
            (λ other. subst (λ (words : ℕ → ℕ). IfSome (hand_of (K j) g) (λ page. (n : ℕ) → n < FRAME_WORDS → words n ≡ slice_index page.words n)) (sym (put_in_other w.frames f n x g other)) (sound.hand_same j low g));
        hand_right = sound.hand_right;
        cleared = sound.cleared;
        unlooked = sound.unlooked;
        built = record { first = ok.0; all = ok.1 };
        retirement = let k = sound.retirement in record {
          rise = k.rise;
          count = k.count;
          bound = let same = total-same (λ a. total (λ b. w.frames (w.directory a b) 0) L.columns) (λ a. total (λ b. frames' (w.directory a b) 0) L.columns) L.ranges
              (λ a low. total-same (λ b. w.frames (w.directory a b) 0) (λ b. frames' (w.directory a b) 0) L.columns (λ b short. ap (λ (words : ℕ → ℕ). words 0) (elsewhere a b (low, short)))) in let old = k.bound in omega arith;
          few = λ a b page. subst (λ (words : ℕ → ℕ). words 0 ≤ L.tails) (sym (elsewhere a b page)) (k.few a b page);
        };
        right = λ a b page. subst (IsRightPage b (p.tails a)) (sym (elsewhere a b page)) (sound.right a b page);
        copied = let k = sound.copied in record {
          epoch_known = k.epoch_known;
          directory_known = k.directory_known;
          frames_known = λ g i low short. word_in-with m.frames f n x in_rows in_row g i ∙ known g i low short;
        };
        sized = let k = sound.sized in record {
          sessions = k.sessions;
          ranges = k.ranges;
          columns = k.columns;
          each_frame = length-set m.frames f (slice_set (slice_index_or m.frames f []) n x) ∙ k.each_frame;
          each_word = λ g low. length-with m.frames f n x in_rows in_row g ∙ k.each_word g low;
        };
      }
        where
          frames' : ℕ → ℕ → ℕ
          frames' = put_in w.frames f n x

          out : Outside L w.directory r.frame
          out = (subst (Every (λ (q : Retired). (q.frame < frame_count L) × Outside L w.directory q.frame)) e sound.places.outside).0.1

          elsewhere : (a b : ℕ) → IsPage L a b → frames' (w.directory a b) ≡ w.frames (w.directory a b)
          elsewhere a b page = put_in_other w.frames f n x (w.directory a b) (λ same. out a b page (same ∙ sym is))

          free : (j : ℕ) → j < L.sessions → hand_of (K j) r.frame ≡ None
          free j low = subst (First (λ (q : Retired). (j : ℕ) → j < L.sessions → is_clear m j ≡ true → hand_of (K j) q.frame ≡ None)) e sound.cleared j low (ok.1 j low)

          in_rows : f < length m.frames
          in_rows = let k = sound.sized.each_frame in let low = within.0 in omega arith

          in_row : n < length (slice_index_or m.frames f [])
          in_row = let k = sound.sized.each_word f within.0 in let low = within.1 in omega arith

          known : (g i : ℕ) → g < frame_count L → i < FRAME_WORDS → put_in (word_in m.frames) f n x g i ≡ frames' g i
          known = each_put_in (λ (g i v : ℕ). g < frame_count L → i < FRAME_WORDS → v ≡ frames' g i) (word_in m.frames) f n x (λ _ _. sym (put_in_here w.frames f n x))
              (λ g i apart low short. sound.copied.frames_known g i low short ∙ sym (put_in_else w.frames f n x g i apart))

  -- tails of ranges settle
  pub tails_keep : (tails : ℕ → List PageTail) → ((r : ℕ) → GoesOn (tails r) (p.tails r)) → Sound (record p { tails = tails })
  tails_keep tails on = record {
    valid = sound.valid;
    places = sound.places;
    hand_sized = sound.hand_sized;
    pinned = sound.pinned;
    hand_kept = sound.hand_kept;
    hand_same = sound.hand_same;
    hand_right = λ j low f. if_map (λ page. IsPage L page.range page.column × IsRightPage page.column (p.tails page.range) (slice_index page.words)) (λ page. IsPage L page.range page.column × IsRightPage page.column (tails page.range) (slice_index page.words)) (hand_of (K j) f)
        (λ page h. (h.0, more page.range page.column (slice_index page.words) h.1)) (sound.hand_right j low f);
    cleared = sound.cleared;
    unlooked = sound.unlooked;
    built = sound.built;
    retirement = sound.retirement;
    right = λ a b page. more a b (w.frames (w.directory a b)) (sound.right a b page);
    copied = sound.copied;
    sized = sound.sized;
  }
    where
      more : (a b : ℕ) (words : ℕ → ℕ) → IsRightPage b (p.tails a) words → IsRightPage b (tails a) words
      more a b words right = subst (λ (ts : List PageTail). IsRightPage b ts words) (sym (on a).1) (right_more b (p.tails a) (on a).0 words right)

  pub settle_keeps : (r : ℕ) (t : PageTail) → Sound (settled p r t)
  settle_keeps r t = tails_keep (put p.tails r (p.tails r ++ t ∷ []))
      (each_put (λ (q : ℕ) (us : List PageTail). GoesOn us (p.tails q)) p.tails r (p.tails r ++ t ∷ []) (t ∷ [], refl) (λ q other. ([], sym (append-nil (p.tails q)))))
