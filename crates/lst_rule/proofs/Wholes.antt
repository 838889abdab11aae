-- All words of a frame, loaded or stored one after another.
use Rattle.std.proofs.Common.{◌≡◌, ℕ, ◌+◌, ◌-◌, ◌*◌, ◌<◌, ◌≤◌, List, Bool, true, false, Some, length, slice_index, get_or, set, refl, sym, subst, ap, ◌∙◌, arith, get_or-set_same, get_or-set_other}
use mathlib.Core.Logic.{dite}
use native.Mathlib.Decide.{ℕ_discrete}
use Rattle.lst_layout.specs.declared.TheConstants.{FRAME_WORDS}
use Rattle.lst_layout.specs.declared.limits.Limits.{Limits}
use Rattle.lst_layout.specs.declared.place.Place.TheVariants.{FrameWord, CellWord}
use Rattle.lst_layout.specs.Addresses.{address, IsWithin}
use Rattle.lst_layout.specs.Areas.{frame_count, cell_words, words_of, tail_cells_start}
use Rattle.lst_layout.specs.Functions.{put}
use Rattle.lst_layout.proofs.Apart.{below}
use Rattle.lst_layout.proofs.Functions.{put_here, put_else}
use Rattle.lst_core_state.specs.declared.known.Known.{Known}
use Rattle.lst_core_state.specs.declared.numbers.Numbers.{Numbers}
use Rattle.lst_core_state.specs.declared.pages.MergerFrames.{MergerFrames}
use Rattle.lst_pages.specs.declared.events.PageEvent.TheVariants.{StoreFrame}
use Rattle.lst_pages.specs.Known.{PageEnabled}
use Rattle.lst_pages.specs.State.{hand_of}
use Rattle.lst_pages.specs.Runs.{frame_known}
use Rattle.lst_rule.specs.declared.store.Store.{Store}
use Rattle.lst_rule.specs.declared.view.View.{View}
use Rattle.lst_rule.specs.Actions.{numbers_after_page}
use Rattle.lst_rule.specs.Frames.{LoadsFrame, FrameFound, FrameStored, StoresWords}
use Rattle.lst_rule.specs.Rule.{knows, hosts}
use Rattle.lst_rule.specs.Learned.{Learns}
use Rattle.lst_rule.specs.PageSteps.{FrameLoaded, StockIs, stock_of, frame_stored}
use Rattle.lst_rule.specs.Seats.{Sitting}
use Rattle.lst_rule.specs.Stores.{IsSeatOf}
use Rattle.lst_rule.proofs.Learning.{learns_same, learns_on, kept_same, kept_on}

-- ---- the address of a word of a frame

pub word_address : (l : Limits) (f n : ℕ) → address l (FrameWord f n) ≡ address l (FrameWord f 0) + n
unfolding address
word_address l f n = omega arith

module _ (store : Store) (seat : Sitting) (is : IsSeatOf store seat) (f n : ℕ) (there : f < frame_count seat.view.limits) (short : n < FRAME_WORDS) (first : ℕ) (at : first ≡ address store.layout.limits (FrameWord f 0)) where
  frame_there : f < frame_count store.layout.limits
  frame_there = subst (λ (l : Limits). f < frame_count l) is.limits there

  pub word_here : first + n ≡ address store.layout.limits (FrameWord f n)
  word_here = ap (λ (k : ℕ). k + n) at ∙ sym (word_address store.layout.limits f n)

  pub word_seen : (a : ℕ) → a ≡ first + n → a ≡ address seat.view.limits (FrameWord f n)
  word_seen a e = e ∙ (word_here ∙ ap (λ (l : Limits). address l (FrameWord f n)) (sym is.limits))

  pub word_low : first + n < words_of store.layout.limits
  word_low = subst (λ (k : ℕ). k < words_of store.layout.limits) (sym word_here) (below store.layout.limits (FrameWord f n) (frame_there, short))

-- ---- the address of a word of a tail

from_first : (a n : ℕ) → a + n ≡ a + 0 + n
from_first a n = omega arith

pub cell_address : (l : Limits) (t n : ℕ) → address l (CellWord t n) ≡ address l (CellWord t 0) + n
unfolding address
cell_address l t n = from_first (tail_cells_start l + (t - 1) * cell_words l) n

module _ (store : Store) (seat : Sitting) (is : IsSeatOf store seat) (t n : ℕ) (within : IsWithin seat.view.limits (CellWord t n)) (first : ℕ) (at : first ≡ address store.layout.limits (CellWord t 0)) where
  cell_here : first + n ≡ address store.layout.limits (CellWord t n)
  cell_here = ap (λ (k : ℕ). k + n) at ∙ sym (cell_address store.layout.limits t n)

  pub cell_seen : (a : ℕ) → a ≡ first + n → a ≡ address seat.view.limits (CellWord t n)
  cell_seen a e = e ∙ (cell_here ∙ ap (λ (l : Limits). address l (CellWord t n)) (sym is.limits))

  pub cell_low : first + n < words_of store.layout.limits
  cell_low = subst (λ (k : ℕ). k < words_of store.layout.limits) (sym cell_here) (below store.layout.limits (CellWord t n) (subst (λ (l : Limits). IsWithin l (CellWord t n)) is.limits within))

-- ---- one load after another

pub record LoadsOn (store : Store) (v : View) (seat : Sitting) (s f n : ℕ) (out : List ℕ) : Type 0 where
  pub is : IsSeatOf store seat
  pub host : hosts seat.view s ≡ true
  pub there : f < frame_count seat.view.limits
  pub few : n ≤ FRAME_WORDS
  pub loads : LoadsFrame v seat.view s f n (slice_index out)
  pub found : FrameFound v seat.view s f n (slice_index out)

pub loads_first : (store : Store) (seat : Sitting) (s f : ℕ) (out : List ℕ) → IsSeatOf store seat → hosts seat.view s ≡ true → f < frame_count seat.view.limits → LoadsOn store seat.view seat s f 0 out
loads_first store seat s f out is host there = record {
  is = is;
  host = host;
  there = there;
  few = omega arith;
  loads = record { between = λ _. seat.view; first = refl; last = refl; each = λ i low. absurd (omega arith) };
  found = record { view = learns_same seat.view s; kept = kept_same seat.view; in_hand = λ low page has i less. absurd (omega arith); own = λ e i less. absurd (omega arith) };
}

loads_more : (v u w : View) (s f n : ℕ) (found more : ℕ → ℕ) → LoadsFrame v u s f n found → ((i : ℕ) → i < n → more i ≡ found i) → FrameLoaded u w s f n (more n) → LoadsFrame v w s f (n + 1) more
loads_more v u w s f n found more r same loaded = record {
  between = between;
  first = put_else r.between (n + 1) w 0 (λ e. omega arith) ∙ r.first;
  last = there;
  each = λ i low. dite (ℕ_discrete i n)
      (λ e. subst (λ (j : ℕ). FrameLoaded (between j) (between (j + 1)) s f j (more j)) (sym e) (subst (λ (z : View × View). FrameLoaded z.0 z.1 s f n (more n)) (λ k. (sym before k, sym there k)) loaded))
      (λ ne. let short : i < n = omega arith in subst (λ (z : View × View × ℕ). FrameLoaded z.0 z.1 s f i z.2) (λ k. (sym (here i (omega arith)) k, sym (here (i + 1) (omega arith)) k, sym (same i short) k)) (r.each i short));
}
  where
    between : ℕ → View
    between = put r.between (n + 1) w

    here : (i : ℕ) → i ≤ n → between i ≡ r.between i
    here i low = put_else r.between (n + 1) w i (λ e. omega arith)

    before : between n ≡ u
    before = here n (omega arith) ∙ r.last

    there : between (n + 1) ≡ w
    there = put_here r.between (n + 1) w

found_more : (v u w : View) (s f n : ℕ) (found more : ℕ → ℕ) → FrameFound v u s f n found → ((i : ℕ) → i < n → more i ≡ found i) → FrameLoaded u w s f n (more n) → FrameFound v w s f (n + 1) more
found_more v u w s f n found more r same loaded = record {
  view = learns_on v u w s (knows v s) (knows v s) r.view (subst (Learns u w s) r.view.now loaded.looked.view);
  kept = kept_on v u w r.view.whole r.kept loaded.looked.kept;
  in_hand = λ low page has i less. dite (ℕ_discrete i n)
      (λ e. ap more e ∙ (loaded.in_hand (subst (λ (l : Limits). s < l.sessions) (sym r.view.limits) low) page (ap (λ (k : Known). hand_of k.pages.session f) r.view.now ∙ has) ∙ ap (slice_index page.words) (sym e)))
      (λ ne. let short : i < n = omega arith in same i short ∙ r.in_hand low page has i short);
  own = λ last i less. dite (ℕ_discrete i n)
      (λ e. ap more e ∙ (loaded.own (last ∙ ap (λ (l : Limits). l.sessions) (sym r.view.limits)) ∙ (λ j. frame_known (r.view.now j).pages.stock f (sym e j))))
      (λ ne. let short : i < n = omega arith in same i short ∙ r.own last i short);
}

pub loads_next : (store : Store) (v : View) (a b : Sitting) (s f n x : ℕ) (out : List ℕ) → LoadsOn store v a s f n out → n < FRAME_WORDS → n < length out → IsSeatOf store b → FrameLoaded a.view b.view s f n x → LoadsOn store v b s f (n + 1) (set out n x)
loads_next store v a b s f n x out on low short is loaded = record {
  is = is;
  host = ap (λ (hs : List Bool). get_or hs s false) loaded.looked.view.hosted ∙ on.host;
  there = subst (λ (l : Limits). f < frame_count l) (sym loaded.looked.view.limits) on.there;
  few = omega arith;
  loads = loads_more v a.view b.view s f n (slice_index out) (slice_index (set out n x)) on.loads same here;
  found = found_more v a.view b.view s f n (slice_index out) (slice_index (set out n x)) on.found same here;
}
  where
    same : (i : ℕ) → i < n → slice_index (set out n x) i ≡ slice_index out i
    same i less = get_or-set_other out n i x 0 (λ e. omega arith)

    here : FrameLoaded a.view b.view s f n (slice_index (set out n x) n)
    here = subst (FrameLoaded a.view b.view s f n) (sym (get_or-set_same out n x 0 short)) loaded

pub loads_last : (store : Store) (v : View) (seat : Sitting) (s f n : ℕ) (out : List ℕ) → LoadsOn store v seat s f n out → FRAME_WORDS ≤ n → LoadsFrame v seat.view s f FRAME_WORDS (slice_index out) × FrameFound v seat.view s f FRAME_WORDS (slice_index out)
loads_last store v seat s f n out on past = let few = on.few in let e : n ≡ FRAME_WORDS = omega arith in subst (λ (k : ℕ). LoadsFrame v seat.view s f k (slice_index out) × FrameFound v seat.view s f k (slice_index out)) e (on.loads, on.found)

-- ---- one store after another

-- a further store into the frame that is being built leaves the merger's numbers
pub numbers_stay : (n : Numbers) (f i x : ℕ) → n.built ≡ Some f → numbers_after_page (StoreFrame f i x) n ≡ n
numbers_stay n f i x is = λ j. record n { built = sym is j }

abbrev pub MayStoreAll : View → ℕ → Type 0
MayStoreAll v f = (i x : ℕ) → PageEnabled v.limits (knows v v.limits.sessions).pages (StoreFrame f i x)

pub record StoresOn (store : Store) (v : View) (seat : Sitting) (f n : ℕ) (page : ℕ → ℕ) : Type 0 where
  pub is : IsSeatOf store seat
  pub host : hosts seat.view seat.view.limits.sessions ≡ true
  pub there : f < frame_count seat.view.limits
  pub few : n ≤ FRAME_WORDS
  pub enabled : MayStoreAll seat.view f
  pub built : 0 < n → (stock_of seat.view).built ≡ Some f
  pub stores : StoresWords v seat.view f n page

pub stores_first : (store : Store) (seat : Sitting) (f : ℕ) (page : ℕ → ℕ) → IsSeatOf store seat → hosts seat.view seat.view.limits.sessions ≡ true → f < frame_count seat.view.limits → MayStoreAll seat.view f → StoresOn store seat.view seat f 0 page
stores_first store seat f page is host there enabled = record {
  is = is;
  host = host;
  there = there;
  few = omega arith;
  enabled = enabled;
  built = λ some. absurd (omega arith);
  stores = record { between = λ _. seat.view; first = refl; last = refl; each = λ i low. absurd (omega arith) };
}

stores_more : (v u w : View) (f n : ℕ) (page : ℕ → ℕ) → StoresWords v u f n page → FrameStored u w f n (page n) → StoresWords v w f (n + 1) page
stores_more v u w f n page r stored = record {
  between = between;
  first = put_else r.between (n + 1) w 0 (λ e. omega arith) ∙ r.first;
  last = there;
  each = λ i low. dite (ℕ_discrete i n)
      (λ e. subst (λ (j : ℕ). FrameStored (between j) (between (j + 1)) f j (page j)) (sym e) (subst (λ (z : View × View). FrameStored z.0 z.1 f n (page n)) (λ k. (sym before k, sym there k)) stored))
      (λ ne. subst (λ (z : View × View). FrameStored z.0 z.1 f i (page i)) (λ k. (sym (here i (omega arith)) k, sym (here (i + 1) (omega arith)) k)) (r.each i (omega arith)));
}
  where
    between : ℕ → View
    between = put r.between (n + 1) w

    here : (i : ℕ) → i ≤ n → between i ≡ r.between i
    here i low = put_else r.between (n + 1) w i (λ e. omega arith)

    before : between n ≡ u
    before = here n (omega arith) ∙ r.last

    there : between (n + 1) ≡ w
    there = put_here r.between (n + 1) w

-- the merger's stock after a store
stock_after : (u w : View) (m : MergerFrames) → StockIs u w m → stock_of w ≡ m
stock_after u w m is = ap (λ (l : Limits). (knows w l.sessions).pages.stock) is.limits ∙ ap (λ (k : Known). k.pages.stock) is.now

pub stores_next : (store : Store) (v : View) (a b : Sitting) (f n : ℕ) (page : ℕ → ℕ) → StoresOn store v a f n page → n < FRAME_WORDS → IsSeatOf store b → FrameStored a.view b.view f n (page n) → StoresOn store v b f (n + 1) page
stores_next store v a b f n page on low is stored = record {
  is = is;
  host = ap (λ (l : Limits). hosts b.view l.sessions) stored.view.limits ∙ (ap (λ (hs : List Bool). get_or hs a.view.limits.sessions false) stored.view.hosted ∙ on.host);
  there = subst (λ (l : Limits). f < frame_count l) (sym stored.view.limits) on.there;
  few = omega arith;
  enabled = λ i x. subst (λ (z : Limits × MergerFrames). PageEnabled z.0 (record (knows b.view b.view.limits.sessions).pages { stock = z.1 }) (StoreFrame f i x)) (λ j. (sym stored.view.limits j, sym (stock_after a.view b.view (frame_stored (stock_of a.view) f n (page n)) stored.view) j)) (on.enabled i x);
  built = λ some. ap (λ (m : MergerFrames). m.built) (stock_after a.view b.view (frame_stored (stock_of a.view) f n (page n)) stored.view);
  stores = stores_more v a.view b.view f n page on.stores stored;
}

pub stores_last : (store : Store) (v : View) (seat : Sitting) (f n : ℕ) (page : ℕ → ℕ) → StoresOn store v seat f n page → FRAME_WORDS ≤ n → StoresWords v seat.view f FRAME_WORDS page
stores_last store v seat f n page on past = let few = on.few in let e : n ≡ FRAME_WORDS = omega arith in subst (λ (k : ℕ). StoresWords v seat.view f k page) e on.stores
