-- Steps on pages: what a store leaves, what a load tells, and what fits a word.
use Rattle.std.proofs.Common.{◌≡◌, ℕ, ◌+◌, ◌<◌, ◌≤◌, List, [], ◌∷◌, ◌++◌, Some, None, Bool, true, false, get_or, set, length, refl, sym, subst, ap, ◌∙◌, arith, get_or-set_same}
use Rattle.std.specs.List.{Contains}
use Rattle.std.proofs.lemmas.List.{set-get_or}
use Rattle.lst_layout.specs.declared.TheConstants.{FRAME_WORDS}
use Rattle.lst_layout.specs.declared.limits.Limits.{Limits}
use Rattle.lst_layout.specs.declared.place.Place.TheVariants.{EpochWord, DirectoryWord, FrameWord, PinWord}
use Rattle.lst_layout.specs.Addresses.{address}
use Rattle.lst_layout.specs.Areas.{frame_count, words_of}
use Rattle.lst_layout.specs.Addresses as layout
use Rattle.lst_layout.specs.Words.{Words, shown}
use Rattle.lst_layout.proofs.Apart.{below}
use Rattle.lst_layout.proofs.Shown as shows
use Rattle.lst_core_state.specs.declared.events.Event.TheVariants.{Look}
use Rattle.lst_core_state.specs.declared.known.Known.{Known}
use Rattle.lst_core_state.specs.declared.numbers.Numbers.{Numbers}
use Rattle.lst_core_state.specs.declared.pages.PageInHand.{PageInHand}
use Rattle.lst_core_state.specs.declared.pages.MergerFrames.{MergerFrames}
use Rattle.lst_core_state.specs.declared.facts.Fact.TheVariants.{EpochAtLeast}
use Rattle.lst_core_state.specs.State as state
use Rattle.lst_core_state.specs.State.{state_over}
use Rattle.lst_core_state.specs.Step.{known_of}
use Rattle.lst_core_state.specs.Numbers.{numbers_of}
use Rattle.lst_core_state.proofs.ListedPart.{contains_last}
use Rattle.lst_pages.specs.declared.events.PageEvent.{PageEvent}
use Rattle.lst_pages.specs.declared.events.PageEvent.TheVariants.{Pin, Unpin, LookPage, LookPin, StoreFrame, Swap, Raise}
use Rattle.lst_pages.specs.declared.numbers.MergerNumbers.{MergerNumbers}
use Rattle.lst_pages.specs.Lists.{rest, with_word_in}
use Rattle.lst_pages.specs.State.{hand_of, nobody_clear, frame_in}
use Rattle.lst_pages.specs.Step as pages
use Rattle.lst_pages.specs.Step.{page_at}
use Rattle.lst_pages.specs.Sound as page_parts
use Rattle.lst_pages.specs.Runs.{IsReadable, IsSafe, IsKnown, IsSwapKnown, page_known, frame_known}
use Rattle.lst_pages.specs.Numbers as page_numbers
use Rattle.lst_pages.specs.Settled.{settled_tails}
use Rattle.lst_pages.specs.Known.{pages_in, stepper, PageEnabled, PageStands}
use Rattle.lst_pages.proofs.ByWords.{page_steps_are_by_words}
use Rattle.lst_pages.proofs.Safety.{sound_safe, sound_known}
use Rattle.lst_rule.specs.declared.actions.Action.TheVariants.{Core, Page}
use Rattle.lst_rule.specs.declared.view.View.{View}
use Rattle.lst_rule.specs.Actions.{after_action, stock_numbers, numbers_after_page}
use Rattle.lst_rule.specs.Rule.{knows, hosts, Allowed, Told}
use Rattle.lst_rule.specs.Learned.{Possible, Learns, PageCanStand, PageMade, PageMet}
use Rattle.lst_rule.specs.Operations.{IsPageStore, IsPageLoad}
use Rattle.lst_rule.specs.Seats.{told, Tells}
use Rattle.lst_rule.specs.Stores.{Looked}
use Rattle.lst_rule.specs.PageSteps.{with_frames, PageLooked, pin_found, StockIs, stock_of, PinLooked, Swapped, FrameLoaded}
use Rattle.lst_rule.proofs.Knowing.{knows_own, knows_merger, is_fact}
use Rattle.lst_rule.proofs.Learning.{page_kept_by}
use Rattle.lst_rule.proofs.Telling.{reads}

-- ---- by kinds of step

-- what a store leaves doesn't depend on what it found
pub page_stored : (n : MergerNumbers) (e : PageEvent) → IsPageStore e → (x y : ℕ) → page_numbers.written_of n e x ≡ page_numbers.written_of n e y
page_stored n (Pin s epoch) is x y = refl
page_stored n (Unpin s) is x y = refl
page_stored n (LookPage s r c) is x y = absurd is
page_stored n (LookPin s) is x y = absurd is
page_stored n (StoreFrame f i z) is x y = refl
page_stored n (Swap r c) is x y = refl
page_stored n Raise is x y = refl

-- a load leaves the word, and the numbers
pub page_loaded : (n : MergerNumbers) (e : PageEvent) → IsPageLoad e → (x : ℕ) → x ≡ page_numbers.written_of n e x
page_loaded n (Pin s epoch) is x = absurd is
page_loaded n (Unpin s) is x = absurd is
page_loaded n (LookPage s r c) is x = refl
page_loaded n (LookPin s) is x = refl
page_loaded n (StoreFrame f i z) is x = absurd is
page_loaded n (Swap r c) is x = absurd is
page_loaded n Raise is x = absurd is

pub page_still : (e : PageEvent) → IsPageLoad e → (n : Numbers) → numbers_after_page e n ≡ n
page_still (Pin s epoch) is n = absurd is
page_still (Unpin s) is n = absurd is
page_still (LookPage s r c) is n = refl
page_still (LookPin s) is n = refl
page_still (StoreFrame f i z) is n = absurd is
page_still (Swap r c) is n = absurd is
page_still Raise is n = absurd is

-- no word stands in the way of a load
pub load_stands : (v : View) (e : PageEvent) → IsPageLoad e → PageCanStand v e
load_stands v (Pin s epoch) is = absurd is
load_stands v (Unpin s) is = absurd is
load_stands v (LookPage s r c) is = λ words known merger may. tt
load_stands v (LookPin s) is = λ words known merger may. tt
load_stands v (StoreFrame f i z) is = absurd is
load_stands v (Swap r c) is = absurd is
load_stands v Raise is = absurd is

pub pinnable : (n : MergerNumbers) (e : PageEvent) → page_numbers.IsWritable n e → page_numbers.IsPinnable e
pinnable n (Pin s epoch) fits = fits
pinnable n (Unpin s) fits = tt
pinnable n (LookPage s r c) fits = tt
pinnable n (LookPin s) fits = tt
pinnable n (StoreFrame f i z) fits = tt
pinnable n (Swap r c) fits = tt
pinnable n Raise fits = tt

-- ---- what a view says of pages, in each state that it allows

module _ (v : View) (words : List ℕ) (known : ℕ → Known) (merger : Known) (may : Allowed v words known merger) where
  abbrev c : state.Core
  c = state_over v.limits words known merger

  pub pages_safe : IsSafe (pages_in c)
  pages_safe = sound_safe (pages_in c) may.pages.pages

  pub pages_known : IsKnown (pages_in c)
  pages_known = sound_known (pages_in c) may.pages.pages

  -- a page in hand of a session is readable
  pub hand_is_readable : (s : ℕ) → hosts v s ≡ true → s < v.limits.sessions → (f : ℕ) (page : PageInHand) → hand_of (knows v s).pages.session f ≡ Some page → IsReadable (pages_in c) f page
  hand_is_readable s hosted low f page is = pages_safe.in_hand s f page low (ap (λ (k : Known). hand_of k.pages.session f) (sym (knows_own v words known merger may s hosted (λ e. omega arith))) ∙ is)

  -- the epoch, and each word of the directory and of a frame, is what the merger knows
  pub stock_is : hosts v v.limits.sessions ≡ true → stock_of v ≡ merger.pages.stock
  stock_is hosted = ap (λ (k : Known). k.pages.stock) (knows_merger v words known merger may v.limits.sessions hosted refl)

  pub epoch_is : hosts v v.limits.sessions ≡ true → (stock_of v).epoch ≡ (shown v.limits words).epoch
  epoch_is hosted = ap (λ (m : MergerFrames). m.epoch) (stock_is hosted) ∙ pages_known.epoch

  pub directory_is : hosts v v.limits.sessions ≡ true → (r d : ℕ) → page_parts.IsPage v.limits r d → page_known (stock_of v) r d ≡ (shown v.limits words).directory r d
  directory_is hosted r d is = ap (λ (m : MergerFrames). page_known m r d) (stock_is hosted) ∙ pages_known.directory r d is

  pub frame_is : hosts v v.limits.sessions ≡ true → (f n : ℕ) → f < frame_count v.limits → n < FRAME_WORDS → frame_known (stock_of v) f n ≡ (shown v.limits words).frames f n
  frame_is hosted f n low short = ap (λ (m : MergerFrames). frame_known m f n) (stock_is hosted) ∙ pages_known.frames f n low short

-- a session's pin word is what it knows
pub pin_is : (v : View) (words : List ℕ) (known : ℕ → Known) (merger : Known) → Allowed v words known merger → (s : ℕ) → hosts v s ≡ true → s < v.limits.sessions → (shown v.limits words).pins s ≡ (knows v s).pages.session.pin
pin_is v words known merger may s hosted low = ((pages_safe v words known merger may).pins s low).known ∙ ap (λ (k : Known). k.pages.session.pin) (sym (knows_own v words known merger may s hosted (λ e. omega arith)))

-- a pin may be set at an epoch that a load has found, or at one before it
pub pin_stands : (v : View) (s epoch least : ℕ) → hosts v s ≡ true → Contains (knows v s).facts (EpochAtLeast least) → epoch ≤ least → PageCanStand v (Pin s epoch)
pin_stands v s epoch least hosted has low = λ words known merger may. let reached : least ≤ (shown v.limits words).epoch = is_fact v words known merger may s hosted (EpochAtLeast least) has in omega arith

-- a swap may be made where the words that the merger knows say so, over the settled tails of each state that the view allows
pub swap_stands : (v : View) (r d f : ℕ) → hosts v v.limits.sessions ≡ true → page_parts.IsPage v.limits r d
    → ((words : List ℕ) (known : ℕ → Known) (merger : Known) → Allowed v words known merger → IsSwapKnown v.limits (stock_of v) (settled_tails v.limits (shown v.limits words) r) r d f) → PageCanStand v (Swap r d)
swap_stands v r d f hosted is may_swap = λ words known merger may. let same : stock_of v ≡ merger.pages.stock = stock_is v words known merger may hosted in
    let q = ((pages_known v words known merger may).swap r d is).0 (f, subst (λ (m : MergerFrames). IsSwapKnown v.limits m (settled_tails v.limits (shown v.limits words) r) r d f) same (may_swap words known merger may)) in
    subst (pages.MaySwap v.limits (shown v.limits words) (settled_tails v.limits (shown v.limits words) r) r d) (sym (ap (λ (m : MergerFrames). frame_in m.built) same ∙ ap frame_in q.1)) q.2

-- what a step on pages stores fits a word
pub page_writable : (v : View) (e : PageEvent) → Possible v → hosts v (stepper v.limits e) ≡ true → pages.IsWithin v.limits e → PageEnabled v.limits (knows v (stepper v.limits e)).pages e → PageCanStand v e → page_numbers.IsWritable (stock_numbers (told v (stepper v.limits e))) e
page_writable v e p hosted within ok stands = let same : knows v (stepper v.limits e) ≡ known_of (state_over v.limits p.words p.known p.merger) (stepper v.limits e) = p.allowed.knew (stepper v.limits e) hosted in
    subst (λ (u : Known). page_numbers.IsWritable (stock_numbers (numbers_of u)) e) (sym same) (page_steps_are_by_words (state_over v.limits p.words p.known p.merger) p.allowed.pages e within
    (subst (λ (u : Known). PageEnabled v.limits u.pages e) same ok, subst (λ (u : Known). PageStands v.limits (shown v.limits p.words) u.pages e) same (stands p.words p.known p.merger p.allowed))).fits

-- there are numbers of whoever makes the step
pub stepper_low : (v u : View) (numbers : List Numbers) (s : ℕ) (e : PageEvent) → v ≡ u → Tells v numbers → stepper u.limits e ≡ s → hosts u (stepper u.limits e) ≡ true → s < length numbers
stepper_low v u numbers s e same tells is hosted = (subst (λ (z : View). Tells z numbers) same tells).all s (subst (λ (k : ℕ). hosts u k ≡ true) is hosted)

-- the numbers of the stock that the program reads are those of whoever makes the step
pub stock_reads : (v u : View) (numbers : List Numbers) (s : ℕ) (n : Numbers) (e : PageEvent) → v ≡ u → Tells v numbers → n ≡ get_or numbers s n → stepper u.limits e ≡ s → hosts u (stepper u.limits e) ≡ true → stock_numbers n ≡ stock_numbers (told u (stepper u.limits e))
stock_reads v u numbers s n e same tells read is hosted = ap stock_numbers (reads v u numbers s n same tells read (subst (λ (k : ℕ). hosts u k ≡ true) is hosted) ∙ ap (told u) (sym is))

pub stock_fits : (v u : View) (numbers : List Numbers) (s : ℕ) (n : Numbers) (e : PageEvent) → v ≡ u → Tells v numbers → n ≡ get_or numbers s n → stepper u.limits e ≡ s → hosts u (stepper u.limits e) ≡ true → pages.IsWithin u.limits e → PageEnabled u.limits (knows u (stepper u.limits e)).pages e → PageCanStand u e → page_numbers.IsWritable (stock_numbers n) e
stock_fits v u numbers s n e same tells read is hosted within ok stands = subst (λ (m : MergerNumbers). page_numbers.IsWritable m e) (sym (stock_reads v u numbers s n e same tells read is hosted)) (page_writable u e (subst Possible same tells.possible) hosted within ok stands)

-- ---- a page is taken in hand

module _ (v w : View) (s r d f : ℕ) (hosted : hosts v s ≡ true) (low : s < v.limits.sessions) (m : PageMet v w (LookPage s r d) (DirectoryWord r d) f f) where
  abbrev W : Words
  W = shown v.limits m.made.told.words

  abbrev page : PageInHand
  page = page_at W r d

  frame_found : W.directory r d ≡ f
  frame_found = m.found

  view : Learns v w s (with_frames (knows v s) (record (knows v s).pages.session { hand = set (knows v s).pages.session.hand f (Some page) }))
  view = subst (λ (g : ℕ). Learns v w s (with_frames (knows v s) (record (knows v s).pages.session { hand = set (knows v s).pages.session.hand g (Some page) }))) frame_found m.made.view

  is_page : page_parts.IsPage v.limits r d
  is_page = m.made.told.within.1

  frame_low : f < length (knows v s).pages.session.hand
  frame_low = let sound = m.made.told.allowed.pages.pages in let a = sound.places.low r d is_page in let b = sound.hand_sized s low in let e = frame_found in
      let g = ap (λ (k : Known). length k.pages.session.hand) (knows_own v m.made.told.words m.made.told.known m.made.told.merger m.made.told.allowed s hosted (λ e. omega arith)) in omega arith

  in_hand : hand_of (knows w s).pages.session f ≡ Some page
  in_hand = ap (λ (k : Known). hand_of k.pages.session f) view.now ∙ get_or-set_same (knows v s).pages.session.hand f (Some page) None frame_low

  -- the words stay
  same_words : set m.made.told.words (address v.limits (DirectoryWord r d)) f ≡ m.made.told.words
  same_words = ap (set m.made.told.words (address v.limits (DirectoryWord r d))) (sym frame_found ∙ shows.found v.limits m.made.told.words m.made.told.allowed.wide (DirectoryWord r d) is_page) ∙ set-get_or m.made.told.words (address v.limits (DirectoryWord r d)) 0

  abbrev later : state.Core
  later = after_action (state_over v.limits m.made.told.words m.made.told.known m.made.told.merger) (Page (LookPage s r d))

  readable_then : IsReadable (pages_in (state_over v.limits m.made.told.words later.known later.merger)) f page
  readable_then = subst (λ (z : Limits × List ℕ). IsReadable (pages_in (state_over z.0 z.1 later.known later.merger)) f page) (λ i. (view.limits i, same_words i))
      (hand_is_readable w (set m.made.told.words (address v.limits (DirectoryWord r d)) f) later.known later.merger m.made.told.after s (ap (λ (hs : List Bool). get_or hs s false) view.hosted ∙ hosted) (subst (λ (l : Limits). s < l.sessions) (sym view.limits) low) f page in_hand)

  pub page_looked : PageLooked v w s r d f
  page_looked = record {
    met = m;
    page = page;
    names = (refl, refl);
    view = view;
    in_hand = in_hand;
    readable = record { within = readable_then.within; frame = readable_then.frame; right = readable_then.right; same = readable_then.same };
    kept = page_kept_by v w (LookPage s r d) (DirectoryWord r d) f m;
  }

-- ---- steps of the merger

pub pin_looked : (v w : View) (s x : ℕ) → PageMet v w (LookPin s) (PinWord s) x x → PinLooked v w s x
pin_looked v w s x m = record {
  met = m;
  view = subst (λ (y : ℕ). StockIs v w (pin_found (stock_of v) s y)) m.found m.made.view;
  kept = page_kept_by v w (LookPin s) (PinWord s) x m;
}

pub swap_made : (v w : View) (r d : ℕ) → hosts v v.limits.sessions ≡ true → PageMade v w (Swap r d) (DirectoryWord r d) (frame_in (stock_of v).built) → Swapped v w r d
swap_made v w r d hosted made = record {
  made = made;
  view = let m : MergerFrames = stock_of v in subst (λ (f : ℕ). StockIs v w (record m { directory = with_word_in m.directory r d (frame_in m.built); retired = rest m.retired; clear = nobody_clear v.limits; waiting = Some f; built = None }))
      (sym (directory_is v made.told.words made.told.known made.told.merger made.told.allowed hosted r d made.told.within)) made.view;
}

-- ---- the directory words of a range stand side by side

pub next_page : (l : Limits) (r c first : ℕ) → first ≡ address l (DirectoryWord r 0) → first + c ≡ address l (DirectoryWord r c)
unfolding address
next_page l r c first e = omega arith

pub next_page_low : (l : Limits) (r c first : ℕ) → first ≡ address l (DirectoryWord r 0) → layout.IsWithin l (DirectoryWord r c) → first + c < words_of l
next_page_low l r c first e within = subst (λ (n : ℕ). n < words_of l) (sym (next_page l r c first e)) (below l (DirectoryWord r c) within)

-- ---- a word of a frame is loaded

pub frame_loaded : (v w : View) (s f n x : ℕ) → hosts v s ≡ true → layout.IsWithin v.limits (FrameWord f n) → Looked v w s (FrameWord f n) x → FrameLoaded v w s f n x
frame_loaded v w s f n x hosted within k = record {
  looked = k;
  in_hand = λ low page is. sym found ∙ (hand_is_readable v t.words t.known t.merger t.allowed s hosted low f page is).same n within.1;
  own = λ is. sym found ∙ sym (subst (λ (j : ℕ). frame_known (knows v j).pages.stock f n ≡ (shown v.limits t.words).frames f n) (sym is) (frame_is v t.words t.known t.merger t.allowed (subst (λ (j : ℕ). hosts v j ≡ true) is hosted) f n within.0 within.1));
}
  where
    t : Told (Core (Look s (address v.limits (FrameWord f n)))) (address v.limits (FrameWord f n)) x v w
    t = k.met.made.told

    found : (shown v.limits k.met.made.told.words).frames f n ≡ x
    found = k.met.found

-- the epoch is loaded: from then on it is known to be at least this
pub epoch_found : (v w : View) (s x : ℕ) → Looked v w s EpochWord x → Contains (knows w s).facts (EpochAtLeast x)
epoch_found v w s x k = subst (λ (u : Known). Contains u.facts (EpochAtLeast x)) (sym k.view.now)
    (subst (λ (y : ℕ). Contains ((knows v s).facts ++ EpochAtLeast (shown v.limits k.met.made.told.words).epoch ∷ []) (EpochAtLeast y)) k.met.found (contains_last (knows v s).facts (EpochAtLeast (shown v.limits k.met.made.told.words).epoch)))
