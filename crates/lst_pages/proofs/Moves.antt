-- The kinds of step that look at pins and move frames keep what holds.
use Rattle.std.proofs.Common.{◌≡◌, ◌≢◌, ◌⊎◌, ℕ, ◌+◌, ◌<◌, ◌≤◌, List, [], ◌∷◌, ◌++◌, Bool, true, false, cond, Option, Some, None, IfSome, refl, sym, subst, ap, ◌∙◌, arith, inl, inr, ⊎_elim, true≢false, length, eqb, nat_lt, ◌||◌, eqb-true, ltb-true, slice_index_or, slice_set}
use mathlib.Core.Logic.{dite}
use native.Mathlib.Decide.{ℕ_discrete}
use Rattle.std.proofs.lemmas.List.{length-append, length-set, length-replicate}
use Rattle.lst_layout.specs.declared.limits.Limits.{Limits}
use Rattle.lst_layout.specs.Areas.{frame_count}
use Rattle.lst_layout.specs.Functions.{put_in}
use Rattle.lst_layout.specs.Words.{Words}
use Rattle.lst_layout.proofs.Functions.{put_in_else}
use Rattle.lst_pages.specs.Pages.{IsRightPage}
use Rattle.lst_pages.specs.declared.events.PageEvent.TheVariants.{LookPin, Swap, Raise}
use Rattle.lst_core_state.specs.declared.pages.Retired.{Retired}
use Rattle.lst_core_state.specs.declared.pages.SessionFrames.{SessionFrames}
use Rattle.lst_core_state.specs.declared.pages.MergerFrames.{MergerFrames}
use Rattle.lst_pages.specs.Lists.{Every, Any, First, HasFirst, rest, total, word_in, with_word_in}
use Rattle.lst_pages.specs.State.{Pages, hand_of, is_clear, nobody_clear, oldest_epoch, retired_at, frame_in}
use Rattle.lst_pages.specs.Step.{MaySwap, Enabled, lets_go, after}
use Rattle.lst_pages.specs.Sound.{IsPage, Inside, Outside, Distinct, Kept, Built, Rise, late, tps_at, Sound}
use Rattle.lst_pages.proofs.Functions.{same_place, put_in_here, each_put_in, each_set, get-replicate, if_map, if_none, word_in-with, length-with, total-same, total-more}
use Rattle.lst_pages.proofs.Items.{every_map, every_both, every_snoc, any_front, any_last, first_each, has_first_snoc, distinct_snoc, rise_next, rise_rest}
use Rattle.lst_pages.proofs.Keeps as kept

or_says : (a b : Bool) → (a || b) ≡ true → (a ≡ true) ⊎ (b ≡ true)
or_says true b e = inl refl
or_says false b e = inr e

pub lets_say : (pin e : ℕ) → lets_go pin e ≡ true → (pin ≡ 0) ⊎ (e < pin)
lets_say pin e is = ⊎_elim (λ (a : eqb pin 0 ≡ true). inl (eqb-true pin 0 a)) (λ (b : nat_lt e pin ≡ true). inr (ltb-true e pin b)) (or_says (eqb pin 0) (nat_lt e pin) is)

pub none_some : {A : Type 0} {a : A} → None ≡ Some a → ⊥
none_some e = cc

module _ (p : Pages) (sound : Sound p) where
  abbrev L : Limits
  L = p.limits

  abbrev w : Words
  w = p.words

  abbrev K : ℕ → SessionFrames
  K = p.readers

  abbrev m : MergerFrames
  m = p.merger

  abbrev OutOf : Retired → Type 0
  OutOf r = (r.frame < frame_count L) × Outside L w.directory r.frame

  -- the merger alone learns something
  pub look_keeps : (s : ℕ) → s < L.sessions → Enabled p (LookPin s) → Sound (after p (LookPin s))
  look_keeps s low ok = choose (lets_go (w.pins s) (oldest_epoch m.retired)) refl
    where
      clear' : List Bool
      clear' = slice_set m.clear s true

      in_list : s < length m.clear
      in_list = let k = sound.sized.sessions in omega arith

      lets : lets_go (w.pins s) (oldest_epoch m.retired) ≡ true → First (λ r. hand_of (K s) r.frame ≡ None) m.retired
      lets is = let e = (sound.pinned s low).known in kept.let_go p sound s low ok m.retired refl (lets_say (K s).pin (oldest_epoch m.retired) (ap (λ (q : ℕ). lets_go q (oldest_epoch m.retired)) (sym e) ∙ is))

      first_set : (rs : List Retired) → First (λ r. hand_of (K s) r.frame ≡ None) rs → First (λ r. (j : ℕ) → j < L.sessions → is_clear m j ≡ true → hand_of (K j) r.frame ≡ None) rs
          → First (λ r. (j : ℕ) → j < L.sessions → slice_index_or clear' j false ≡ true → hand_of (K j) r.frame ≡ None) rs
      first_set [] new old = tt
      first_set (r ∷ rs) new old = each_set (λ (j : ℕ) (b : Bool). j < L.sessions → b ≡ true → hand_of (K j) r.frame ≡ None) m.clear s true false in_list (λ _ _. new) (λ j other. old j)

      choose : (b : Bool) → lets_go (w.pins s) (oldest_epoch m.retired) ≡ b → Sound record { limits = L; words = w; tails = p.tails; readers = K; merger = cond b (record m { clear = clear'; let_go = m.let_go ++ s ∷ [] }) (record m { held = m.held ++ s ∷ [] }) }
      choose true e = record {
        valid = sound.valid;
        places = sound.places;
        hand_sized = sound.hand_sized;
        pinned = sound.pinned;
        hand_kept = sound.hand_kept;
        hand_same = sound.hand_same;
        hand_right = sound.hand_right;
        cleared = first_set m.retired (lets e) sound.cleared;
        unlooked = λ f waits. absurd (none_some (sym ok ∙ waits));
        built = if_map (Built L m.retired (is_clear m)) (Built L m.retired (λ j. slice_index_or clear' j false)) m.built
            (λ f b. record { first = b.first; all = each_set (λ (j : ℕ) (b : Bool). j < L.sessions → b ≡ true) m.clear s true false in_list (λ _. refl) (λ j other. b.all j) }) sound.built;
        retirement = sound.retirement;
        right = sound.right;
        copied = sound.copied;
        sized = let k = sound.sized in record { sessions = length-set m.clear s true ∙ k.sessions; ranges = k.ranges; columns = k.columns; each_frame = k.each_frame; each_word = k.each_word };
      }
      choose false e = record {
        valid = sound.valid;
        places = sound.places;
        hand_sized = sound.hand_sized;
        pinned = sound.pinned;
        hand_kept = sound.hand_kept;
        hand_same = sound.hand_same;
        hand_right = sound.hand_right;
        cleared = sound.cleared;
        unlooked = sound.unlooked;
        built = sound.built;
        retirement = sound.retirement;
        right = sound.right;
        copied = sound.copied;
        sized = sound.sized;
      }

  -- the frame being built, with what holds of it
  pub built_is : (f : ℕ) → m.built ≡ Some f → Built L m.retired (is_clear m) f
  built_is f e = subst (λ (x : Option ℕ). IfSome x (Built L m.retired (is_clear m))) e sound.built

  -- while a frame is being built, none waits
  pub idle : (f : ℕ) → m.built ≡ Some f → m.waiting ≡ None
  idle f e = go m.waiting refl
    where
      go : (x : Option ℕ) → m.waiting ≡ x → m.waiting ≡ None
      go None waits = waits
      go (Some g) waits = absurd (true≢false (sym ((built_is f e).all 0 (let some = sound.valid.sessions in some.0)) ∙ sound.unlooked g waits 0))

  pub swap_keeps : (r c : ℕ) → IsPage L r c → Enabled p (Swap r c) → Sound (after p (Swap r c))
  swap_keeps r c page ok = go m.retired refl (subst (λ (x : ℕ). HasFirst (λ q. q.frame ≡ x) m.retired) (sym is_f) built.first)
    where
      g : ℕ
      g = frame_in m.built

      is_f : g ≡ ok.0
      is_f = ap frame_in ok.1

      built : Built L m.retired (is_clear m) ok.0
      built = built_is ok.0 ok.1

      may : MaySwap L w (p.tails r) r c g
      may = subst (λ (x : ℕ). MaySwap L w (p.tails r) r c x) (sym is_f) ok.2

      none : m.waiting ≡ None
      none = idle ok.0 ok.1

      directory' : ℕ → ℕ → ℕ
      directory' = put_in w.directory r c g

      go : (rs : List Retired) → m.retired ≡ rs → HasFirst (λ q. q.frame ≡ g) rs
          → Sound record { limits = L; words = record w { directory = directory' }; tails = p.tails; readers = K; merger = record m { directory = with_word_in m.directory r c g; retired = rest rs; clear = nobody_clear L; waiting = Some (w.directory r c); built = None } }
      go [] e is = absurd is
      go (q ∷ rs) e is = record {
        valid = sound.valid;
        places = record {
          low = each_put_in (λ (a b v : ℕ). IsPage L a b → v < frame_count L) w.directory r c g (λ _. subst (λ (x : ℕ). x < frame_count L) is outs.0.0) (λ a b other h. sound.places.low a b h);
          once = λ a b a' b' h h'. once a b a' b' h h' (same_place r c a b) (same_place r c a' b');
          outside = every_both OutOf (λ (x : Retired). x.frame ≢ q.frame) (λ (x : Retired). (x.frame < frame_count L) × Outside L directory' x.frame) rs
              (λ x old other. (old.0, each_put_in (λ (a b v : ℕ). IsPage L a b → v ≢ x.frame) w.directory r c g (λ _ same. other (sym same ∙ sym is)) (λ a b ne h. old.1 a b h))) outs.1 distinct.0;
          distinct = distinct.1;
          waits = λ f waits. let was : w.directory r c ≡ f = ap frame_in waits in (
            subst (λ (x : ℕ). x < frame_count L) was (sound.places.low r c page),
            each_put_in (λ (a b v : ℕ). IsPage L a b → v ≢ f) w.directory r c g (λ _ same. outs.0.1 r c page (was ∙ sym same ∙ sym is))
                (λ a b other h same. let at = sound.places.once a b r c h page (same ∙ sym was) in other at.0 at.1),
            every_map OutOf (λ (x : Retired). x.frame ≢ f) rs (λ x old same. old.1 r c page (was ∙ sym same)) outs.1,
          );
          placed = λ f low. moved f (λ x. x.frame ≡ f) (λ at. at) (subst (λ (xs : List Retired). Inside L w.directory f ⊎ ((m.waiting ≡ Some f) ⊎ Any (λ x. x.frame ≡ f) xs)) e (sound.places.placed f low));
        };
        hand_sized = sound.hand_sized;
        pinned = sound.pinned;
        hand_kept = λ j low f. dite (ℕ_discrete f q.frame)
            (λ same. if_none (λ page. Kept L directory' rs (Some (w.directory r c)) (K j).pin f) (hand_of (K j) f) (ap (hand_of (K j)) same ∙ free j low))
            (λ other. if_map (λ page. Kept L w.directory m.retired m.waiting (K j).pin f) (λ page. Kept L directory' rs (Some (w.directory r c)) (K j).pin f) (hand_of (K j) f)
            (λ page k. moved f (λ x. (x.frame ≡ f) × ((K j).pin ≤ x.epoch)) (λ at. absurd (other (sym at.0))) (subst (λ (xs : List Retired). Kept L w.directory xs m.waiting (K j).pin f) e k)) (sound.hand_kept j low f));
        hand_same = sound.hand_same;
        hand_right = sound.hand_right;
        cleared = first_each (λ (x : Retired). (j : ℕ) → j < L.sessions → slice_index_or (nobody_clear L) j false ≡ true → hand_of (K j) x.frame ≡ None) rs (λ x j low at. absurd (true≢false (sym at ∙ get-replicate L.sessions j false)));
        unlooked = λ f waits j. get-replicate L.sessions j false;
        built = tt;
        retirement = let k = sound.retirement in let idle : late m.waiting ≡ 0 = ap late none in record {
          rise = rise_rest (q ∷ rs) w.epoch (subst (λ (xs : List Retired). Rise xs w.epoch) e k.rise);
          count = let was : length (q ∷ rs) + late m.waiting ≡ L.spare = subst (λ (xs : List Retired). length xs + late m.waiting ≡ L.spare) e k.count in omega arith;
          bound = let was = k.bound in let more = sum_more in omega arith;
          few = each_put_in (λ (a b v : ℕ). IsPage L a b → w.frames v 0 ≤ L.tails) w.directory r c g (λ _. may.few) (λ a b other h. k.few a b h);
        };
        right = each_put_in (λ (a b v : ℕ). IsPage L a b → IsRightPage b (p.tails a) (w.frames v)) w.directory r c g (λ _. may.right) (λ a b other h. sound.right a b h);
        copied = let k = sound.copied in record {
          epoch_known = k.epoch_known;
          directory_known = λ a b h. word_in-with m.directory r c g in_rows in_row a b ∙ known a b h;
          frames_known = k.frames_known;
        };
        sized = let k = sound.sized in record {
          sessions = length-replicate L.sessions false;
          ranges = length-set m.directory r (slice_set (slice_index_or m.directory r []) c g) ∙ k.ranges;
          columns = λ a low. length-with m.directory r c g in_rows in_row a ∙ k.columns a low;
          each_frame = k.each_frame;
          each_word = k.each_word;
        };
      }
        where
          outs : Every OutOf (q ∷ rs)
          outs = subst (Every OutOf) e sound.places.outside

          distinct : Distinct (q ∷ rs)
          distinct = subst Distinct e sound.places.distinct

          free : (j : ℕ) → j < L.sessions → hand_of (K j) q.frame ≡ None
          free j low = subst (First (λ (x : Retired). (j : ℕ) → j < L.sessions → is_clear m j ≡ true → hand_of (K j) x.frame ≡ None)) e sound.cleared j low (built.all j low)

          here : directory' r c ≡ q.frame
          here = put_in_here w.directory r c g ∙ sym is

          else : (a b : ℕ) → (a ≡ r → b ≢ c) → directory' a b ≡ w.directory a b
          else a b other = put_in_else w.directory r c g a b other

          moved : (f : ℕ) (P : Retired → Type 0) → (P q → q.frame ≡ f) → Inside L w.directory f ⊎ ((m.waiting ≡ Some f) ⊎ Any P (q ∷ rs)) → Inside L directory' f ⊎ ((Some (w.directory r c) ≡ Some f) ⊎ Any P rs)
          moved f P first (inl (a, b, h, at)) = ⊎_elim
              (λ (same : (a ≡ r) × (b ≡ c)). inr (inl (ap Some ((λ i. w.directory (sym same.0 i) (sym same.1 i)) ∙ at))))
              (λ (other : a ≡ r → b ≢ c). inl (a, b, h, else a b other ∙ at)) (same_place r c a b)
          moved f P first (inr (inl waits)) = absurd (none_some (sym none ∙ waits))
          moved f P first (inr (inr (inl at))) = inl (r, c, page, here ∙ first at)
          moved f P first (inr (inr (inr later))) = inr (inr later)

          once : (a b a' b' : ℕ) → IsPage L a b → IsPage L a' b' → ((a ≡ r) × (b ≡ c)) ⊎ (a ≡ r → b ≢ c) → ((a' ≡ r) × (b' ≡ c)) ⊎ (a' ≡ r → b' ≢ c) → directory' a b ≡ directory' a' b' → (a ≡ a') × (b ≡ b')
          once a b a' b' h h' (inl (x, y)) (inl (x', y')) same = (x ∙ sym x', y ∙ sym y')
          once a b a' b' h h' (inl (x, y)) (inr other) same = absurd (outs.0.1 a' b' h' (sym (else a' b' other) ∙ sym same ∙ (λ i. directory' (x i) (y i)) ∙ here))
          once a b a' b' h h' (inr other) (inl (x, y)) same = absurd (outs.0.1 a b h (sym (else a b other) ∙ same ∙ (λ i. directory' (x i) (y i)) ∙ here))
          once a b a' b' h h' (inr other) (inr other') same = sound.places.once a b a' b' h h' (sym (else a b other) ∙ same ∙ else a' b' other')

          sum_more : total (λ a. total (tps_at w.directory w.frames a) L.columns) L.ranges + 1 ≤ total (λ a. total (tps_at directory' w.frames a) L.columns) L.ranges
          sum_more = total-more (λ a. total (tps_at w.directory w.frames a) L.columns) (λ a. total (tps_at directory' w.frames a) L.columns) r L.ranges page.0
              (total-more (tps_at w.directory w.frames r) (tps_at directory' w.frames r) c L.columns page.1
              (let more = may.more in let at : w.frames (directory' r c) 0 ≡ w.frames g 0 = ap (λ (f : ℕ). w.frames f 0) (put_in_here w.directory r c g) in omega arith)
              (λ b low other. ap (λ (f : ℕ). w.frames f 0) (else r b (λ _. other))))
              (λ a low other. total-same (tps_at w.directory w.frames a) (tps_at directory' w.frames a) L.columns (λ b short. ap (λ (f : ℕ). w.frames f 0) (else a b (λ same. absurd (other same)))))

          in_rows : r < length m.directory
          in_rows = let k = sound.sized.ranges in let low = page.0 in omega arith

          in_row : c < length (slice_index_or m.directory r [])
          in_row = let k = sound.sized.columns r page.0 in let low = page.1 in omega arith

          known : (a b : ℕ) → IsPage L a b → put_in (word_in m.directory) r c g a b ≡ directory' a b
          known = each_put_in (λ (a b v : ℕ). IsPage L a b → v ≡ directory' a b) (word_in m.directory) r c g (λ _. sym (put_in_here w.directory r c g))
              (λ a b other h. sound.copied.directory_known a b h ∙ sym (else a b other))

  pub raise_keeps : Enabled p Raise → Sound (after p Raise)
  raise_keeps ok = record {
    valid = sound.valid;
    places = let k = sound.places in let old = k.waits g waits in record {
      low = k.low;
      once = k.once;
      outside = every_snoc OutOf m.retired r k.outside (old.0, old.1);
      distinct = distinct_snoc m.retired r k.distinct old.2;
      waits = λ f is. absurd (none_some is);
      placed = λ f low. moved f (λ x. x.frame ≡ f) (λ is. is) (k.placed f low);
    };
    hand_sized = sound.hand_sized;
    pinned = λ j low. let k = sound.pinned j low in let few = k.low in record { known = k.known; low = omega arith; none = k.none };
    hand_kept = λ j low f. let few = (sound.pinned j low).low in if_map (λ page. Kept L w.directory m.retired m.waiting (K j).pin f) (λ page. Kept L w.directory (m.retired ++ r ∷ []) None (K j).pin f) (hand_of (K j) f)
        (λ page. moved f (λ x. (x.frame ≡ f) × ((K j).pin ≤ x.epoch)) (λ is. (is, omega arith))) (sound.hand_kept j low f);
    hand_same = sound.hand_same;
    hand_right = sound.hand_right;
    cleared = first_each (λ (x : Retired). (j : ℕ) → j < L.sessions → is_clear m j ≡ true → hand_of (K j) x.frame ≡ None) (m.retired ++ r ∷ []) (λ x j low is. absurd (true≢false (sym is ∙ sound.unlooked g waits j)));
    unlooked = λ f is. absurd (none_some is);
    built = if_map (Built L m.retired (is_clear m)) (Built L (m.retired ++ r ∷ []) (is_clear m)) m.built (λ f b. record { first = has_first_snoc (λ (x : Retired). x.frame ≡ f) m.retired r b.first; all = b.all }) sound.built;
    retirement = let k = sound.retirement in let one : late m.waiting ≡ 1 = ap late waits in record {
      rise = subst (Rise (m.retired ++ r ∷ [])) (ap (λ (n : ℕ). n + 1) (sym epoch)) (rise_next m.retired w.epoch r (ap (λ (n : ℕ). n + 1) epoch) k.rise);
      count = let long = length-append m.retired (r ∷ []) in let was = k.count in omega arith;
      bound = let was = k.bound in omega arith;
      few = k.few;
    };
    right = sound.right;
    copied = let k = sound.copied in record { epoch_known = refl; directory_known = k.directory_known; frames_known = k.frames_known };
    sized = sound.sized;
  }
    where
      g : ℕ
      g = frame_in m.waiting

      waits : m.waiting ≡ Some g
      waits = ok.1 ∙ ap Some (sym (ap frame_in ok.1))

      epoch : m.epoch ≡ w.epoch
      epoch = sound.copied.epoch_known

      r : Retired
      r = retired_at g (m.epoch + 1)

      moved : (f : ℕ) (P : Retired → Type 0) → (g ≡ f → P r) → Inside L w.directory f ⊎ ((m.waiting ≡ Some f) ⊎ Any P m.retired) → Inside L w.directory f ⊎ ((None ≡ Some f) ⊎ Any P (m.retired ++ r ∷ []))
      moved f P new (inl i) = inl i
      moved f P new (inr (inl is)) = inr (inr (any_last P m.retired r (new (ap frame_in is))))
      moved f P new (inr (inr any)) = inr (inr (any_front P m.retired r any))
