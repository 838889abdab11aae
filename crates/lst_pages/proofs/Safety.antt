-- Every run is sound, and a sound state is safe.
use Rattle.std.proofs.Common.{◌≡◌, ℕ, zero, suc, ◌+◌, ◌*◌, ◌<◌, ◌≤◌, List, [], ◌∷◌, Bool, true, false, Option, Some, None, IfSome, refl, sym, subst, ap, ◌∙◌, arith, true≢false, length, nat_lt, ◌||◌, eq-eqb, ne_eqb, lt-ltb, suc-mul, mul-le-mul, ◌^◌}
use Rattle.std.proofs.lemmas.List.{get_or_past}
use Rattle.std.proofs.lemmas.Bool.{le-ltb}
use mathlib.Core.Logic.{dite}
use native.Mathlib.Decide.{ℕ_discrete, dec_lt}
use Rattle.lst_layout.specs.declared.TheConstants.{FRAME_WORDS}
use Rattle.lst_layout.specs.Areas.{frame_count}
use Rattle.lst_pages.proofs.Pages.{right_same}
use Rattle.lst_pages.specs.declared.events.PageEvent.{PageEvent}
use Rattle.lst_pages.specs.declared.events.PageEvent.TheVariants.{Pin, Unpin, LookPage, LookPin, StoreFrame, Swap, Raise}
use Rattle.lst_core_state.specs.declared.pages.PageInHand.{PageInHand}
use Rattle.lst_core_state.specs.declared.pages.Retired.{Retired}
use Rattle.lst_pages.specs.Lists.{Every, First, HasFirst, total}
use Rattle.lst_pages.specs.State.{Pages, hand_of, is_clear, oldest_epoch, opening}
use Rattle.lst_pages.specs.Step.{IsWithin, Enabled, lets_go, after}
use Rattle.lst_pages.specs.Sound.{IsPage, Outside, EachInHand, Rise, tps_at, late, Copied, Sound}
use Rattle.lst_pages.specs.Runs.{Move, steps, settles, MayMoveAll, all_moved, EveryRunIsSound, OtherWordsAreFree, IsSafe, frame_known, page_known, IsKnown}
use Rattle.lst_pages.proofs.Functions.{total-bound}
use Rattle.lst_pages.proofs.Items.{rise_long, rise_short}
use Rattle.lst_pages.proofs.Keeps as kept
use Rattle.lst_pages.proofs.Moves as moves
use Rattle.lst_pages.proofs.Starts.{start_sound}

pub keeps : (p : Pages) → Sound p → (e : PageEvent) → IsWithin p.limits e → Enabled p e → Sound (after p e)
keeps p sound (Pin s e) within ok = kept.pin_keeps p sound s e ok
keeps p sound (Unpin s) within ok = kept.unpin_keeps p sound s
keeps p sound (LookPage s r c) within ok = kept.page_keeps p sound s r c within ok
keeps p sound (LookPin s) within ok = moves.look_keeps p sound s within ok
keeps p sound (StoreFrame f n x) within ok = kept.store_keeps p sound f n x within ok
keeps p sound (Swap r c) within ok = moves.swap_keeps p sound r c within ok
keeps p sound Raise within ok = moves.raise_keeps p sound ok

run_sound : (p : Pages) → Sound p → (ms : List Move) → MayMoveAll p ms → Sound (all_moved p ms)
run_sound p sound [] ok = sound
run_sound p sound (steps e ∷ ms) ok = run_sound (after p e) (keeps p sound e ok.0.0 ok.0.1) ms ok.1
run_sound p sound (settles r t ∷ ms) ok = run_sound _ (kept.settle_keeps p sound r t) ms ok.1

pub every_run_sound : EveryRunIsSound
every_run_sound l valid ms ok = run_sound (opening l) (start_sound l valid) ms ok

-- a pin word that holds a frame retired at e
pub lets_not : (pin e : ℕ) → lets_go pin e ≡ false → (0 < pin) × (pin ≤ e)
lets_not pin e is = dite (ℕ_discrete pin 0)
    (λ z. absurd (true≢false (sym (ap (λ (b : Bool). b || nat_lt e pin) (eq-eqb pin 0 z)) ∙ is)))
    (λ nz. dite (dec_lt e pin) (λ low. absurd (true≢false (sym (ap (λ (b : Bool). b || nat_lt e pin) (ne_eqb pin 0 nz) ∙ lt-ltb e pin low) ∙ is))) (λ high. (omega arith, omega arith)))

-- and one that does
pub does_not : (pin e : ℕ) → 0 < pin → pin ≤ e → lets_go pin e ≡ false
does_not pin e some low = ap (λ (b : Bool). b || nat_lt e pin) (ne_eqb pin 0 (λ none. omega arith)) ∙ le-ltb e pin low

total-constant : (b n : ℕ) → total (λ _. b) n ≡ n * b
total-constant b zero = omega arith
total-constant b (suc n) = let a = total-constant b n in omega (arith, suc-mul n b)

-- swaps are few
few : (p : Pages) → Sound p → p.words.epoch ≤ p.limits.ranges * (p.limits.columns * p.limits.tails)
few p sound = let k = sound.retirement in let a = k.bound in
    let row : (r : ℕ) → r < p.limits.ranges → total (tps_at p.words.directory p.words.frames r) p.limits.columns ≤ p.limits.columns * p.limits.tails =
    λ r low. total-bound (tps_at p.words.directory p.words.frames r) p.limits.tails p.limits.columns (p.limits.columns * p.limits.tails) (λ c short. k.few r c (low, short)) (sym (total-constant p.limits.tails p.limits.columns)) in
    let b = total-bound (λ r. total (tps_at p.words.directory p.words.frames r) p.limits.columns) (p.limits.columns * p.limits.tails) p.limits.ranges (p.limits.ranges * (p.limits.columns * p.limits.tails)) row (sym (total-constant (p.limits.columns * p.limits.tails) p.limits.ranges)) in omega arith

-- the epoch fits a word, with two more
pub epoch_low : (p : Pages) → Sound p → p.words.epoch + 2 < 2 ^ 64
epoch_low p sound = let low = few p sound in let v = sound.valid in
    let a : p.limits.columns * p.limits.tails ≤ 8 * 16384 = mul-le-mul v.columns.1 v.tails.1 in
    let b : p.limits.ranges * (p.limits.columns * p.limits.tails) ≤ 64 * (8 * 16384) = mul-le-mul v.ranges.1 a in omega arith

-- the oldest retired frame is one of the store's, and no directory word names it
oldest_out : (p : Pages) → Sound p → (f : ℕ) → HasFirst (λ r. r.frame ≡ f) p.merger.retired → (f < frame_count p.limits) × Outside p.limits p.words.directory f
oldest_out p sound f = go p.merger.retired sound.places.outside
  where
    go : (rs : List Retired) → Every (λ (r : Retired). (r.frame < frame_count p.limits) × Outside p.limits p.words.directory r.frame) rs → HasFirst (λ r. r.frame ≡ f) rs → (f < frame_count p.limits) × Outside p.limits p.words.directory f
    go [] out none = absurd none
    go (r ∷ rs) out is = subst (λ (g : ℕ). (g < frame_count p.limits) × Outside p.limits p.words.directory g) is out.0

pub sound_safe : (p : Pages) → Sound p → IsSafe p
sound_safe p sound = record {
  in_hand = λ s f page low is. record {
    within = (at s f page is (λ f page. _) (sound.hand_right s low)).0;
    frame = short s low f page is;
    right = (at s f page is (λ f page. _) (sound.hand_right s low)).1;
    same = at s f page is (λ f page. _) (sound.hand_same s low);
  };
  pinned = λ s f page low is. let k = sound.pinned s low in let e = k.known in holds s f page is (p.readers s).pin refl k.none e;
  pins = λ s low. let k = sound.pinned s low in record { known = k.known; low = let e = k.known in let b = k.low in omega arith };
  unread = λ f n x ok s low. unread f ok.1 s low p.merger.retired refl ok.0;
  unlisted = λ f n x ok. oldest_out p sound f ok.0;
  built = λ f n x is. let b = moves.built_is p sound f is in ((b.first, b.all), moves.idle p sound f is);
  listed = λ r c page. record { frame = sound.places.low r c page; right = sound.right r c page; few = let k = sound.retirement in k.few r c page };
  apart = sound.places.once;
  spare = let k = sound.retirement in k.count;
  few_swaps = few p sound;
  fits = let low = epoch_low p sound in omega arith;
  swaps = λ s low ok held. swaps s (lets_not (p.words.pins s) (oldest_epoch p.merger.retired) held) ok p.merger.retired refl;
  last = λ idle some. (order idle).0 some;
  holds = λ pin idle some. let o = order idle in let e : ℕ = oldest_epoch p.merger.retired in let spare = sound.valid.spare.0 in dite (ℕ_discrete e 0)
      (λ none. let few = o.1 none in (
        (λ held. let low = (lets_not pin e held).1 in absurd (omega arith)),
        (λ many. absurd (omega arith)),
      ))
      (λ above. let long = o.0 (omega arith) in (
        (λ held. let low = (lets_not pin e held).1 in omega arith),
        (λ many. does_not pin e some (omega arith)),
      ));
}
  where
    at : (s f : ℕ) (page : PageInHand) → hand_of (p.readers s) f ≡ Some page → (P : ℕ → PageInHand → Type 0) → EachInHand P (hand_of (p.readers s)) → P f page
    at s f page is P each = subst (λ (x : Option PageInHand). IfSome x (P f)) is (each f)

    -- at 0 no frame is in hand
    holds : (s f : ℕ) (page : PageInHand) → hand_of (p.readers s) f ≡ Some page → (pin : ℕ) → (p.readers s).pin ≡ pin → ((p.readers s).pin ≡ 0 → (g : ℕ) → hand_of (p.readers s) g ≡ None) → p.words.pins s ≡ (p.readers s).pin → 0 < p.words.pins s
    holds s f page is zero none empty known = absurd (moves.none_some (sym (empty none f) ∙ is))
    holds s f page is (suc pin) some empty known = omega arith

    short : (s : ℕ) → s < p.limits.sessions → (f : ℕ) (page : PageInHand) → hand_of (p.readers s) f ≡ Some page → f < frame_count p.limits
    short s low f page is = dite (dec_lt f (frame_count p.limits)) (λ yes. yes)
        (λ no. let long = sound.hand_sized s low in absurd (moves.none_some (sym (get_or_past (p.readers s).hand f None (omega arith)) ∙ is)))

    -- the oldest retired frame and the epoch, while none waits
    order : p.merger.waiting ≡ None → (0 < oldest_epoch p.merger.retired → oldest_epoch p.merger.retired + p.limits.spare ≡ p.words.epoch + 1) × (oldest_epoch p.merger.retired ≡ 0 → p.words.epoch < p.limits.spare)
    order idle = go p.merger.retired refl
      where
        none : late p.merger.waiting ≡ 0
        none = ap late idle

        go : (rs : List Retired) → p.merger.retired ≡ rs → (0 < oldest_epoch p.merger.retired → oldest_epoch p.merger.retired + p.limits.spare ≡ p.words.epoch + 1) × (oldest_epoch p.merger.retired ≡ 0 → p.words.epoch < p.limits.spare)
        go [] e = let k = sound.retirement in let count = k.count in let long : length p.merger.retired ≡ 0 = ap length e in let z = none in let some = sound.valid.spare.0 in absurd (omega arith)
        go (r ∷ rs) e = let k = sound.retirement in let count = k.count in let long : length p.merger.retired ≡ suc (length rs) = ap length e in let z = none in let first : oldest_epoch p.merger.retired ≡ r.epoch = ap oldest_epoch e in
            let rise : Rise (r ∷ rs) p.words.epoch = subst (λ (xs : List Retired). Rise xs p.words.epoch) e k.rise in (
              (λ some. let all = rise_long (r ∷ rs) p.words.epoch r.epoch refl rise (omega arith) (omega arith) in omega arith),
              (λ zero. let short = rise_short r rs p.words.epoch rise in omega arith),
            )

    unread : (f : ℕ) → ((s : ℕ) → s < p.limits.sessions → is_clear p.merger s ≡ true) → (s : ℕ) → s < p.limits.sessions → (rs : List Retired) → p.merger.retired ≡ rs → HasFirst (λ r. r.frame ≡ f) rs → hand_of (p.readers s) f ≡ None
    unread f all s low [] e none = absurd none
    unread f all s low (r ∷ rs) e is = subst (λ (g : ℕ). hand_of (p.readers s) g ≡ None) is (subst (First (λ (q : Retired). (j : ℕ) → j < p.limits.sessions → is_clear p.merger j ≡ true → hand_of (p.readers j) q.frame ≡ None)) e sound.cleared s low (all s low))

    swaps : (s : ℕ) → (0 < p.words.pins s) × (p.words.pins s ≤ oldest_epoch p.merger.retired) → p.merger.waiting ≡ None → (rs : List Retired) → p.merger.retired ≡ rs → p.limits.spare ≤ p.words.epoch
    swaps s held idle [] e = let none : oldest_epoch p.merger.retired ≡ 0 = ap oldest_epoch e in let a = held.0 in let b = held.1 in absurd (omega arith)
    swaps s held idle (r ∷ rs) e = let k = sound.retirement in let first : oldest_epoch p.merger.retired ≡ r.epoch = ap oldest_epoch e in let a = held.0 in let b = held.1 in
        let long = rise_long (r ∷ rs) p.words.epoch r.epoch refl (subst (λ (xs : List Retired). Rise xs p.words.epoch) e k.rise) (omega arith) (omega arith) in
        let zero_late : late p.merger.waiting ≡ 0 = ap late idle in let count : length (r ∷ rs) + late p.merger.waiting ≡ p.limits.spare = subst (λ (xs : List Retired). length xs + late p.merger.waiting ≡ p.limits.spare) e k.count in omega arith

-- no part speaks of other words
pub others_free : OtherWordsAreFree
others_free p s w same = subst Sound (λ i. record p { words = record w { epoch = sym same.epoch i; directory = sym same.directory i; frames = sym same.frames i; pins = sym same.pins i } }) base
  where
    base : Sound (record p { words = record w { epoch = p.words.epoch; directory = p.words.directory; frames = p.words.frames; pins = p.words.pins } })
    base = record {
      valid = s.valid;
      places = s.places;
      hand_sized = s.hand_sized;
      pinned = s.pinned;
      hand_kept = s.hand_kept;
      hand_same = s.hand_same;
      hand_right = s.hand_right;
      cleared = s.cleared;
      unlooked = s.unlooked;
      built = s.built;
      retirement = s.retirement;
      right = s.right;
      copied = s.copied;
      sized = s.sized;
    }

-- what the merger knows are the words
pub sound_known : (p : Pages) → Sound p → IsKnown p
sound_known p sound = record {
  epoch = k.epoch_known;
  directory = k.directory_known;
  frames = k.frames_known;
  old = λ r c page. (right_same c (p.tails r) (p.words.frames (p.words.directory r c)) (frame_known p.merger (page_known p.merger r c)) (old r c page) (sound.right r c page), old r c page);
  swap = λ r c page. (
    (λ (f, is). (
      f,
      is.built,
      record {
        right = right_same c (p.tails r) (frame_known p.merger f) (p.words.frames f) (λ n low. sym (new f is.built n low)) is.right;
        more = let a = old r c page 0 (omega arith) in let b = new f is.built 0 (omega arith) in let more = is.more in omega arith;
        few = let b = new f is.built 0 (omega arith) in let few = is.few in omega arith;
      },
    )),
    (λ (f, built, may). (
      f,
      record {
        built = built;
        right = right_same c (p.tails r) (p.words.frames f) (frame_known p.merger f) (new f built) may.right;
        more = let a = old r c page 0 (omega arith) in let b = new f built 0 (omega arith) in let more = may.more in omega arith;
        few = let b = new f built 0 (omega arith) in let few = may.few in omega arith;
      },
    )),
  );
}
  where
    k : Copied p.limits p.words.epoch p.words.directory p.words.frames p.merger.epoch p.merger.directory p.merger.frames
    k = sound.copied

    old : (r c : ℕ) → IsPage p.limits r c → (n : ℕ) → n < FRAME_WORDS → frame_known p.merger (page_known p.merger r c) n ≡ p.words.frames (p.words.directory r c) n
    old r c page n low = ap (λ (f : ℕ). frame_known p.merger f n) (k.directory_known r c page) ∙ k.frames_known (p.words.directory r c) n (sound.places.low r c page) low

    new : (f : ℕ) → p.merger.built ≡ Some f → (n : ℕ) → n < FRAME_WORDS → frame_known p.merger f n ≡ p.words.frames f n
    new f is n low = k.frames_known f n (oldest_out p sound f (moves.built_is p sound f is).first).0 low
