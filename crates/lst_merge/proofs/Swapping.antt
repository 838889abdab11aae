-- A page takes the place of another one: what the steps come to.
use Rattle.std.proofs.Common.{◌≡◌, ℕ, suc, ◌+◌, ◌-◌, ◌<◌, ◌≤◌, List, [], ◌∷◌, ◌++◌, Bool, true, false, ◌^◌, Some, None, refl, sym, subst, ap, ◌∙◌, arith, length, slice_get, slice_set, slice_index_or, get_or}
use Rattle.std.specs.List.{remove}
use mathlib.Core.Logic.{dite}
use native.Mathlib.Decide.{ℕ_discrete}
use Rattle.lst_layout.specs.Addresses.{address}
use Rattle.lst_layout.specs.declared.limits.Limits.{Limits}
use Rattle.lst_layout.specs.declared.place.Place.TheVariants.{EpochWord, DirectoryWord}
use Rattle.lst_layout.specs.Words.{shown}
use Rattle.lst_core_state.specs.declared.known.Known.{Known}
use Rattle.lst_core_state.specs.declared.pages.MergerFrames.{MergerFrames}
use Rattle.lst_core_state.specs.declared.pages.Retired.{Retired}
use Rattle.lst_core_state.specs.declared.facts.Fact.{Fact}
use Rattle.lst_core_state.specs.State.{state_over, history_of}
use Rattle.lst_core_state.specs.Sound.{Sound, FactsOf, SeenIsRecorded}
use Rattle.lst_model.specs.declared.commits.Commit.{Commit}
use Rattle.lst_model.specs.Histories.{Extends}
use Rattle.lst_layout.specs.Areas.{words_of, frame_count}
use Rattle.lst_core_state.specs.Step.{known_of}
use Rattle.lst_pages.specs.declared.events.PageEvent.TheVariants.{Swap, Raise}
use Rattle.lst_pages.specs.Known.{PagesSound}
use Rattle.lst_pages.specs.Lists.{rest, word_in}
use Rattle.lst_pages.specs.Runs.{frame_known, page_known, IsSwapKnown, tps_known}
use Rattle.lst_pages.specs.Settled.{settled_tails}
use Rattle.lst_pages.specs.Sound.{IsPage, Rise}
use Rattle.lst_pages.specs.State.{retired_at, frame_in}
use Rattle.lst_pages.proofs.Functions.{word_in-with, put_in_here}
use Rattle.lst_layout.proofs.Functions.{put_in_else}
use Rattle.lst_pages.proofs.Moves.{none_some}
use Rattle.lst_pages.specs.Frames.{tps_in}
use Rattle.lst_pages.specs.Pages.{IsRightPage}
use Rattle.lst_rule.specs.declared.view.View.{View}
use Rattle.lst_rule.specs.Rule.{knows, hosts, Allowed}
use Rattle.lst_rule.specs.Learned.{Possible, Learns, Kept, PageCanStand, PageMade}
use Rattle.lst_rule.specs.PageSteps.{swapped, raised, StockIs, stock_of, Swapped}
use Rattle.lst_rule.specs.Stores.{Looked}
use Rattle.lst_rule.proofs.Paging.{stock_is, epoch_is, directory_is, frame_is, pages_safe, swap_stands}
use Rattle.lst_rule.specs.Spares.{AreSpares}
use Rattle.lst_rule.proofs.Stocks.{stock_now, stock_then, still_hosts, spares_some}
use Rattle.lst_merge.specs.Builds.{MayReplace}
use Rattle.lst_merge.specs.Swaps.{latest_epoch, IsListedAs, Swaps}

-- ---- the spares

-- the last frame was retired at the epoch
latest_is : (rs : List Retired) (e : ℕ) → 0 < length rs → Rise rs e → latest_epoch rs ≡ e
latest_is [] e some rise = absurd (omega arith)
latest_is (r ∷ []) e some rise = rise
latest_is (r ∷ q ∷ rs) e some rise = latest_is (q ∷ rs) e (omega arith) rise.2

latest_last : (rs : List Retired) (r : Retired) → latest_epoch (rs ++ r ∷ []) ≡ r.epoch
latest_last [] r = refl
latest_last (q ∷ []) r = refl
latest_last (q ∷ p ∷ rs) r = latest_last (p ∷ rs) r

module _ (v : View) (spares : List Retired) (hosted : hosts v v.limits.sessions ≡ true) (are : AreSpares v spares) (p : Possible v) where
  stock : stock_of v ≡ p.merger.pages.stock
  stock = stock_is v p.words p.known p.merger p.allowed hosted

  pub spares_long : 0 < length spares
  spares_long = spares_some v spares hosted are p

  pub spares_latest : latest_epoch spares ≡ (stock_of v).epoch
  spares_latest = latest_is spares (stock_of v).epoch spares_long
      (subst (λ (z : List Retired × ℕ). Rise z.0 z.1) (λ i. (sym (are.retired ∙ ap (λ (m : MergerFrames). m.retired) stock) i, sym (epoch_is v p.words p.known p.merger p.allowed hosted) i)) p.allowed.pages.pages.retirement.rise)

  -- one more fits a word
  pub epoch_fits : latest_epoch spares + 1 < 2 ^ 64
  epoch_fits = let fits = (pages_safe v p.words p.known p.merger p.allowed).fits in let same = spares_latest ∙ epoch_is v p.words p.known p.merger p.allowed hosted in omega arith

  -- there is room for one in the place of the first
  pub spares_few : length spares ≤ 64
  spares_few = let count = (pages_safe v p.words p.known p.merger p.allowed).spare in let most = p.allowed.sound.sized.spare.1 in
      let long : length spares ≡ length p.merger.pages.stock.retired = ap length (are.retired ∙ ap (λ (m : MergerFrames). m.retired) stock) in omega arith

remove_first : (rs : List Retired) → remove rs 0 ≡ rest rs
remove_first [] = refl
remove_first (r ∷ rs) = refl

-- ---- nothing was learnt: the same states are allowed

pub allowed_still : (v u : View) (s : ℕ) → length v.known ≡ v.limits.sessions + 1 → Learns v u s (knows v s) → Kept v u → (words : List ℕ) (known : ℕ → Known) (merger : Known) → Allowed u words known merger → Allowed v words known merger
allowed_still v u s sized k kept words known merger may = record {
  wide = subst (λ (l : Limits). length words ≡ words_of l) k.limits may.wide;
  sound = subst (λ (l : Limits). Sound (state_over l words known merger)) k.limits may.sound;
  pages = subst (λ (l : Limits). PagesSound (state_over l words known merger)) k.limits may.pages;
  sized = sized;
  low = λ t hosted. subst (λ (l : Limits). t ≤ l.sessions) k.limits (may.low t (ap (λ (hs : List Bool). get_or hs t false) k.hosted ∙ hosted));
  knew = λ t hosted. sym (same t) ∙ subst (λ (l : Limits). knows u t ≡ known_of (state_over l words known merger) t) k.limits (may.knew t (ap (λ (hs : List Bool). get_or hs t false) k.hosted ∙ hosted));
  told = subst (λ (z : Limits × List Commit). Extends (history_of z.0 (shown z.0 words)) z.1) (λ i. (k.limits i, k.note i)) may.told;
  told_facts = subst (λ (z : Limits × List Fact). FactsOf z.0 (shown z.0 words) z.1) (λ i. (k.limits i, k.note_facts i)) may.told_facts;
  told_keys = subst (λ (z : List Fact × List Commit). SeenIsRecorded z.0 z.1) (λ i. (k.note_facts i, k.note i)) may.told_keys;
  whole = λ whole. sym (kept.words whole) ∙ may.whole (k.whole ∙ whole);
  all = λ whole t low. ap (λ (hs : List Bool). get_or hs t false) (sym k.hosted) ∙ may.all (k.whole ∙ whole) t (subst (λ (l : Limits). t ≤ l.sessions) (sym k.limits) low);
}
  where
    same : (t : ℕ) → knows u t ≡ knows v t
    same t = dite (ℕ_discrete t s) (λ e. ap (knows u) e ∙ (k.now ∙ ap (knows v) (sym e))) (λ ne. k.others t ne)

-- ---- the steps

module _ (v u : View) (r c f : ℕ) (hosted : hosts v v.limits.sessions ≡ true) (page : IsPage v.limits r c) (may : MayReplace v r c f) (p : Possible v)
    (looked : Looked v u v.limits.sessions (DirectoryWord r c) (page_known (stock_of v) r c)) where
  abbrev m : MergerFrames
  m = stock_of v

  known : IsSwapKnown v.limits (stock_of v) (settled_tails v.limits (shown v.limits p.words) r) r c f
  known = may p.words p.known p.merger p.allowed

  still : StockIs v u (stock_of v)
  still = looked.view

  pub swap_host : hosts u u.limits.sessions ≡ true
  swap_host = ap (λ (l : Limits). hosts u l.sessions) still.limits ∙ still_hosts v u (stock_of v) still v.limits.sessions hosted

  stock_still : stock_of u ≡ stock_of v
  stock_still = stock_now v u (stock_of v) still

  pub swap_built : (stock_of u).built ≡ Some f
  swap_built = ap (λ (q : MergerFrames). q.built) stock_still ∙ known.built

  pub swap_ready : length v.known ≡ v.limits.sessions + 1 → PageCanStand u (Swap r c)
  swap_ready sized = swap_stands u r c f swap_host (subst (λ (l : Limits). IsPage l r c) (sym still.limits) page)
      (λ words known merger ok. subst (λ (y : Limits × MergerFrames). IsSwapKnown y.0 y.1 (settled_tails y.0 (shown y.0 words) r) r c f) (λ i. (sym still.limits i, sym stock_still i))
      (may words known merger (allowed_still v u v.limits.sessions sized still looked.kept words known merger ok)))

  module _ (z : View) (swap : Swapped u z r c) where
    after_swap : StockIs v z (swapped v.limits (stock_of v) r c)
    after_swap = subst (λ (l : Limits). StockIs v z (swapped l (stock_of v) r c)) still.limits (stock_then v u z (stock_of v) (λ k. swapped u.limits k r c) still swap.view)

    stock_swapped : stock_of z ≡ swapped v.limits (stock_of v) r c
    stock_swapped = stock_now v z (swapped v.limits (stock_of v) r c) after_swap

    pub raise_host : hosts z z.limits.sessions ≡ true
    raise_host = ap (λ (l : Limits). hosts z l.sessions) after_swap.limits ∙ still_hosts v z (swapped v.limits (stock_of v) r c) after_swap v.limits.sessions hosted

    pub raise_ready : (stock_of z).waiting ≡ Some (page_known (stock_of v) r c)
    raise_ready = ap (λ (q : MergerFrames). q.waiting) stock_swapped

    module _ (w : View) (view : StockIs z w (raised (stock_of z))) (made : PageMade z w Raise EpochWord ((stock_of z).epoch + 1)) where
      abbrev last : MergerFrames
      last = raised (swapped v.limits (stock_of v) r c)

      after_raise : StockIs v w (raised (swapped v.limits (stock_of v) r c))
      after_raise = stock_then v z w (swapped v.limits (stock_of v) r c) raised after_swap view

      stock_last : stock_of w ≡ raised (swapped v.limits (stock_of v) r c)
      stock_last = stock_now v w last after_raise

      same_stock : stock_of v ≡ p.merger.pages.stock
      same_stock = stock_is v p.words p.known p.merger p.allowed hosted

      rows : r < length m.directory
      rows = let e = ap (λ (q : MergerFrames). length q.directory) same_stock ∙ p.allowed.pages.pages.sized.ranges in let low = page.0 in omega arith

      cells : c < length (slice_index_or m.directory r [])
      cells = let e = ap (λ (q : MergerFrames). length (slice_index_or q.directory r [])) same_stock ∙ p.allowed.pages.pages.sized.columns r page.0 in let low = page.1 in omega arith

      named : page_known last r c ≡ f
      named = word_in-with m.directory r c (frame_in m.built) rows cells r c ∙ (put_in_here (word_in m.directory) r c (frame_in m.built) ∙ ap frame_in known.built)

      -- the frames of other pages
      named_still : (q d : ℕ) → ((q ≡ r) × (d ≡ c) → ⊥) → page_known last q d ≡ page_known m q d
      named_still q d other = word_in-with m.directory r c (frame_in m.built) rows cells q d ∙ put_in_else (word_in m.directory) r c (frame_in m.built) q d (λ e g. other (e, g))

      last_host : hosts w w.limits.sessions ≡ true
      last_host = ap (λ (l : Limits). hosts w l.sessions) after_raise.limits ∙ still_hosts v w last after_raise v.limits.sessions hosted

      last_page : IsPage w.limits r c
      last_page = subst (λ (l : Limits). IsPage l r c) (sym after_raise.limits) page

      named_last : page_known (stock_of w) r c ≡ f
      named_last = ap (λ (q : MergerFrames). page_known q r c) stock_last ∙ named

      listed : IsListedAs w r c f
      listed = record {
        named = there;
        right = λ words known merger ok. subst (λ (g : ℕ). IsRightPage c (settled_tails w.limits (shown w.limits words) r) ((shown w.limits words).frames g)) (there words known merger ok) ((pages_safe w words known merger ok).listed r c last_page).right;
        tps = λ words known merger ok. sym (ap (λ (g : ℕ). frame_known (stock_of w) g 0) named_last ∙ frame_is w words known merger ok last_host f 0 (subst (λ (g : ℕ). g < frame_count w.limits) (there words known merger ok) ((pages_safe w words known merger ok).listed r c last_page).frame) (omega arith));
      }
        where
          there : (words : List ℕ) (known : ℕ → Known) (merger : Known) → Allowed w words known merger → (shown w.limits words).directory r c ≡ f
          there words known merger ok = sym (directory_is w words known merger ok last_host r c last_page) ∙ named_last

      latest_now : latest_epoch (stock_of w).retired ≡ (stock_of v).epoch + 1
      latest_now = ap (λ (q : MergerFrames). latest_epoch q.retired) stock_last ∙ latest_last (rest m.retired) (retired_at (page_known m r c) (m.epoch + 1))

      epoch_now : (stock_of w).epoch ≡ (stock_of v).epoch + 1
      epoch_now = ap (λ (q : MergerFrames). q.epoch) stock_last

      pub swaps : (spares : List Retired) → AreSpares v spares → Swaps v w r c f
      swaps spares are = record {
        found = u;
        stored = z;
        look = looked;
        swap = swap;
        raise = subst (λ (e : ℕ). PageMade z w Raise EpochWord (e + 1)) (ap (λ (q : MergerFrames). q.epoch) stock_swapped) made;
        view = after_raise;
        tps = ap (λ (q : MergerFrames). tps_known q r c) stock_last ∙ ap (λ (g : ℕ). tps_in (frame_known m g)) named;
        listed = listed;
        others = λ q d its other. ap (λ (k : MergerFrames). tps_known k q d) stock_last ∙ ap (λ (g : ℕ). tps_in (frame_known m g)) (named_still q d other);
        once = record {
          epoch = epoch_now;
          rises = latest_now ∙ ap (λ (e : ℕ). e + 1) (sym (ap latest_epoch (sym are.retired) ∙ spares_latest v spares hosted are p));
          latest = latest_now ∙ sym epoch_now;
        };
        words = λ whole. made.words ∙ (λ i. slice_set ((swap.made.words ∙ (λ j. slice_set (looked.kept.words whole j) (address (still.limits j) (DirectoryWord r c)) ((ap frame_in swap_built) j))) i) (address (after_swap.limits i) EpochWord) ((ap (λ (q : MergerFrames). q.epoch) stock_swapped) i + 1));
      }

      pub spares_after : (spares left now : List Retired) (old epoch : ℕ) → AreSpares v spares → left ≡ remove spares 0 → old ≡ page_known (stock_of v) r c → epoch ≡ (stock_of v).epoch + 1 → now ≡ left ++ record { frame = old; epoch = epoch } ∷ [] → AreSpares w now
      spares_after spares left now old epoch are removed is at pushed = record {
        retired = pushed ∙ ((λ i. (removed ∙ (remove_first spares ∙ ap rest are.retired)) i ++ record { frame = is i; epoch = at i } ∷ []) ∙ sym (ap (λ (q : MergerFrames). q.retired) stock_last));
        idle = ap (λ (q : MergerFrames). q.waiting) stock_last;
      }

-- what the load found is what the merger knows
pub look_known : (v u : View) (r c x : ℕ) → Looked v u v.limits.sessions (DirectoryWord r c) x → x ≡ page_known (stock_of v) r c → Looked v u v.limits.sessions (DirectoryWord r c) (page_known (stock_of v) r c)
look_known v u r c x looked is = subst (Looked v u v.limits.sessions (DirectoryWord r c)) is looked

-- the epoch of the last of the spares
pub latest_of : (rs spares : List Retired) (last : Retired) → rs ≡ spares → slice_get rs (length rs - 1) ≡ Some last → last.epoch ≡ latest_epoch spares
latest_of rs spares last same got = go rs got ∙ ap latest_epoch same
  where
    go : (rs : List Retired) → slice_get rs (length rs - 1) ≡ Some last → last.epoch ≡ latest_epoch rs
    go [] got = absurd (none_some got)
    go (r ∷ []) got = cc
    go (r ∷ q ∷ rs) got = go (q ∷ rs) (ap (slice_get (q ∷ rs)) (let e : length (q ∷ rs) - 1 ≡ length rs = omega arith in e) ∙ (sym (ap (slice_get (r ∷ q ∷ rs)) (let e : length (r ∷ q ∷ rs) - 1 ≡ suc (length rs) = omega arith in e)) ∙ got))

pub latest_none : (rs spares : List Retired) → rs ≡ spares → slice_get rs (length rs - 1) ≡ None → 0 ≡ latest_epoch spares
latest_none rs spares same got = go rs got ∙ ap latest_epoch same
  where
    go : (rs : List Retired) → slice_get rs (length rs - 1) ≡ None → 0 ≡ latest_epoch rs
    go [] got = refl
    go (r ∷ []) got = absurd (none_some (sym got))
    go (r ∷ q ∷ rs) got = go (q ∷ rs) (ap (slice_get (q ∷ rs)) (let e : length (q ∷ rs) - 1 ≡ length rs = omega arith in e) ∙ (sym (ap (slice_get (r ∷ q ∷ rs)) (let e : length (r ∷ q ∷ rs) - 1 ≡ suc (length rs) = omega arith in e)) ∙ got))
