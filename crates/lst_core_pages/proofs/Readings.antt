-- What the page core reads of its row of words, and what a step on it needs.
use Rattle.std.proofs.Common.{◌≡◌, ℕ, ◌+◌, ◌-◌, ◌*◌, ◌<◌, ◌≤◌, ◌^◌, List, [], ◌∷◌, ◌++◌, Option, refl, sym, subst, ap, ◌∙◌, arith, length, take, drop, slice_index, slice_index_or, slice_range, slice_set, mul-le-mul}
use Rattle.std.proofs.Math.Seq.{take-append_seam}
use Rattle.std.proofs.lemmas.List.{get_or_default, get_or-take, get_or-drop}
use Rattle.lst_layout.specs.declared.TheConstants.{FRAME_WORDS}
use Rattle.lst_layout.specs.declared.limits.Limits.{Limits}
use Rattle.lst_layout.specs.declared.place.Place.{Place}
use Rattle.lst_layout.specs.declared.place.Place.TheVariants.{FrameWord, EpochWord}
use Rattle.lst_layout.specs.Addresses as addresses
use Rattle.lst_layout.specs.Addresses.{address}
use Rattle.lst_layout.specs.Areas.{frame_count}
use Rattle.lst_layout.specs.Limits.{IsValid}
use Rattle.lst_layout.specs.Words.{word_at, shown}
use Rattle.lst_layout.proofs.Apart.{below}
use Rattle.lst_layout.proofs.Shown.{areas_are_shown}
use Rattle.lst_pages.specs.declared.tails.PageTail.{PageTail}
use Rattle.lst_pages.specs.declared.events.PageEvent.{PageEvent}
use Rattle.lst_pages.specs.declared.events.PageEvent.TheVariants.{Pin, Unpin, LookPage, LookPin, StoreFrame, Swap, Raise}
use Rattle.lst_core_pages.specs.declared.hands.PageId.{PageId}
use Rattle.lst_core_state.specs.declared.pages.Retired.{Retired}
use Rattle.lst_pages.specs.declared.numbers.MergerNumbers.{MergerNumbers}
use Rattle.lst_pages.specs.Lists.{HasFirst}
use Rattle.lst_pages.specs.Step.{IsWithin, Enabled, place_of}
use Rattle.lst_pages.specs.Numbers.{IsWritable, written_of}
use Rattle.lst_pages.specs.Sound.{IsPage, late, Sound}
use Rattle.lst_core_pages.specs.Cells.{Queue, Cells, pages_of, IsCore, found_in, numbers_in, hands_after, HandsFit, queue_after, QueueFits, stepped}
use Rattle.lst_pages.proofs.Safety.{epoch_low}
use Rattle.lst_pages.proofs.Tellings.{fits_law}
use Rattle.lst_pages.proofs.Moves.{built_is}
use Rattle.lst_core_pages.proofs.Steppings.{hand_in_is, hand_long, in_hands, word_within, found_is, step_core}

-- few frames
pub frames_few : (l : Limits) → IsValid l → frame_count l ≤ 576
frames_few l valid = let m : l.ranges * l.columns ≤ 64 * 8 = mul-le-mul valid.ranges.1 valid.columns.1 in let s = valid.spare.1 in omega arith

module _ (c v : Cells) (same : c ≡ v) (is : IsCore c) where
  -- a word that the program reads is the word of its area
  pub word_read : (p : Place) → addresses.IsWithin v.limits p → (i x : ℕ) → i ≡ address c.limits p → x ≡ slice_index_or c.row i x → x ≡ word_at (shown v.limits v.row) p
  word_read p within i x at read = subst (λ (u : Cells). x ≡ word_at (shown u.limits u.row) p) same
      (read ∙ get_or_default c.row i x 0 (let e = is.wide in let low = below c.limits p here in omega arith) ∙ ap (slice_index c.row) at ∙ sym ((areas_are_shown c.limits c.row is.wide).found p here))
    where
      here : addresses.IsWithin c.limits p
      here = subst (λ (u : Cells). addresses.IsWithin u.limits p) (sym same) within

  frame_address : (f n : ℕ) → address c.limits (FrameWord f n) ≡ address c.limits (FrameWord f 0) + n
  unfolding address
  frame_address f n = omega arith

  pub frame_fits : (f start : ℕ) → f < frame_count v.limits → start ≡ address c.limits (FrameWord f 0) → start + FRAME_WORDS ≤ length c.row
  frame_fits f start low at = let here : f < frame_count c.limits = subst (λ (u : Cells). f < frame_count u.limits) (sym same) low in
      let end = below c.limits (FrameWord f (FRAME_WORDS - 1)) (here, omega arith) in let e = frame_address f (FRAME_WORDS - 1) in let wide = is.wide in omega arith

  pub frame_words : (f start : ℕ) → f < frame_count v.limits → start ≡ address c.limits (FrameWord f 0) → (part : List ℕ) → part ≡ slice_range c.row start (start + FRAME_WORDS)
      → (n : ℕ) → n < FRAME_WORDS → slice_index part n ≡ (shown v.limits v.row).frames f n
  frame_words f start low at part is_part n short = let len : start + FRAME_WORDS - start ≡ FRAME_WORDS = omega arith in
      let long : start + n < length c.row = let h = frame_fits f start low at in omega arith in
      let read : slice_index part n ≡ slice_index c.row (start + n) = ap (λ (ws : List ℕ). slice_index ws n) is_part ∙ ap (λ (k : ℕ). slice_index (take k (drop start c.row)) n) len ∙ get_or-take FRAME_WORDS (drop start c.row) n 0 short ∙ get_or-drop start c.row n 0 in
      word_read (FrameWord f n) (low, short) (start + n) (slice_index part n) (ap (λ (k : ℕ). k + n) at ∙ sym (frame_address f n)) (read ∙ get_or_default c.row (start + n) 0 (slice_index part n) long)

  -- the settled tails of a range, as the program reads them
  pub tails_read : (r d : ℕ) → IsPage v.limits r d → (x : List PageTail) → x ≡ slice_index_or c.tails r x → x ≡ (pages_of v).tails r
  tails_read r d page x read = read ∙ get_or_default c.tails r x [] (let wide = is.each_range in let low : r < c.limits.ranges = subst (λ (u : Cells). r < u.limits.ranges) (sym same) page.0 in omega arith)
      ∙ ap (λ (u : Cells). slice_index_or u.tails r []) same

  pub directory_low : (r d x : ℕ) → IsPage v.limits r d → x ≡ (shown v.limits v.row).directory r d → (x < frame_count v.limits) × (x < 2 ^ 32)
  directory_low r d x page at = let sound : Sound (pages_of v) = subst (λ (u : Cells). Sound (pages_of u)) same is.sound in let low = sound.places.low r d page in let few = frames_few v.limits sound.valid in (omega arith, omega arith)

  -- ---- a step

  module _ (e : PageEvent) (within : IsWithin v.limits e) (ok : Enabled (pages_of v) e) where
    here : IsWithin c.limits e
    here = subst (λ (u : Cells). IsWithin u.limits e) (sym same) within

    able : Enabled (pages_of c) e
    able = subst (λ (u : Cells). Enabled (pages_of u) e) (sym same) ok

    pub found_at : (i x : ℕ) → i ≡ address c.limits (place_of e) → x ≡ slice_index_or c.row i x → x ≡ found_in c e
    found_at i x at read = read ∙ get_or_default c.row i x 0 (let g = is.wide in let low = below c.limits (place_of e) (word_within c.limits e here) in omega arith) ∙ ap (slice_index c.row) at

    pub numbers_at : (i x : ℕ) (b : Option ℕ) → i ≡ address c.limits EpochWord → x ≡ slice_index_or c.row i x → b ≡ c.queue.built → (let n : MergerNumbers = record { epoch = x; built = b } in n) ≡ numbers_in c
    numbers_at i x b at read built = let epoch : x ≡ (shown c.limits c.row).epoch = read ∙ get_or_default c.row i x 0 (let g = is.wide in let low = below c.limits EpochWord tt in omega arith) ∙ ap (slice_index c.row) at ∙ sym ((areas_are_shown c.limits c.row is.wide).found EpochWord tt) in
        (λ i. record { epoch = epoch i; built = built i })

    pub writes : (n : MergerNumbers) → n ≡ numbers_in c → IsWritable n e
    writes n numbers = subst (λ (n : MergerNumbers). IsWritable n e) (sym numbers) (fits_law (pages_of c) is.sound e able)

    pub hands_fit : (x : ℕ) → x ≡ found_in c e → HandsFit c.hands e x
    hands_fit x found = subst (HandsFit c.hands e) (sym found) (fit e here refl)
      where
        fit : (a : PageEvent) → IsWithin c.limits a → a ≡ e → HandsFit c.hands a (found_in c a)
        fit (Pin s q) w i = tt
        fit (Unpin s) w i = in_hands c is s w
        fit (LookPage s r d) w i = (in_hands c is s w.0, (let low = is.sound.places.low r d w.1 in let at = found_is c is (LookPage s r d) w in let long = hand_long c is s w.0 in let h = ap length (hand_in_is c is s w.0) in omega arith))
        fit (LookPin s) w i = tt
        fit (StoreFrame f n y) w i = tt
        fit (Swap r d) w i = tt
        fit Raise w i = tt

    pub queue_fits : (x : ℕ) → x ≡ found_in c e → QueueFits c.queue e x
    queue_fits x found = subst (QueueFits c.queue e) (sym found) (fit e here able)
      where
        some : (rs : List Retired) (f : ℕ) → HasFirst (λ r. r.frame ≡ f) rs → 0 < length rs
        some [] f none = absurd none
        some (r ∷ rs) f first = omega arith

        fit : (a : PageEvent) → IsWithin c.limits a → Enabled (pages_of c) a → QueueFits c.queue a (found_in c a)
        fit (Pin s q) w h = tt
        fit (Unpin s) w h = tt
        fit (LookPage s r d) w h = tt
        fit (LookPin s) w h = let long = is.sound.sized.sessions in omega (arith, w)
        fit (StoreFrame f n y) w h = tt
        fit (Swap r d) w h = (some c.queue.retired h.0 (built_is (pages_of c) is.sound h.0 h.1).first, (let low = is.sound.places.low r d w in let few = frames_few c.limits is.sound.valid in let at = found_is c is (Swap r d) w in omega arith))
        fit Raise w h = let k = is.sound.retirement in let count = k.count in let one : late c.queue.waiting ≡ 1 = ap late h.1 in let few = is.sound.valid.spare.1 in
            (omega arith, (let low = epoch_low (pages_of c) is.sound in let at = found_is c is Raise w in omega arith))

    -- what the program makes of its cells is the step
    pub makes : (i x y : ℕ) (hands : List (List (Option PageId))) (q : Queue) → i ≡ address c.limits (place_of e) → x ≡ found_in c e → (n : MergerNumbers) → n ≡ numbers_in c → y ≡ written_of n e x → hands ≡ hands_after c.hands e x → q ≡ queue_after c.queue e x
        → (let d : Cells = record { limits = c.limits; row = slice_set c.row i y; hands = hands; tails = c.tails; queue = q } in d) ≡ stepped c e
    makes i x y hands q at found n numbers wrote h k = let w : y ≡ written_of (numbers_in c) e (found_in c e) = wrote ∙ (λ j. written_of (numbers j) e (found j)) in λ j. record {
      limits = c.limits;
      row = slice_set c.row (at j) (w j);
      hands = (h ∙ ap (hands_after c.hands e) found) j;
      tails = c.tails;
      queue = (k ∙ ap (queue_after c.queue e) found) j;
    }

    pub made_core : IsCore (stepped c e)
    made_core = step_core c is e here able

    pub same_step : stepped c e ≡ stepped v e
    same_step = ap (λ (u : Cells). stepped u e) same

-- a slice that was lent whole and written
pub written_back : {A : Type 0} (n : ℕ) (xs ys : List A) → length xs ≡ n → length ys ≡ n → take n (ys ++ drop (length ys) xs) ≡ ys
written_back n xs ys long same = ap (λ (k : ℕ). take k (ys ++ drop (length ys) xs)) (sym same) ∙ take-append_seam ys (drop (length ys) xs)
