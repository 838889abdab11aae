-- Storing words of tails, stamps, and installs keep the versions.
use Rattle.std.proofs.Common.{◌≡◌, ◌≢◌, ℕ, ◌+◌, ◌-◌, ◌*◌, ◌/◌, ◌%◌, ◌<◌, ◌≤◌, List, ◌∷◌, Bool, true, false, cond, ne_eqb, refl, sym, subst, ap, ◌∙◌, arith, true≢false, ⊎_elim, inl, inr}
use Rattle.std.proofs.Math.Arith.{digits_div}
use mathlib.Core.Logic.{dite}
use native.Mathlib.Decide.{ℕ_discrete}
use Rattle.lst_layout.specs.declared.limits.Limits.{Limits}
use Rattle.lst_layout.specs.Limits.{IsValid}
use Rattle.lst_layout.specs.Functions.{put, put_in}
use Rattle.lst_core_state.specs.Lists.{Has, Links, Below, acts, is_live}
use Rattle.lst_core_state.proofs.Functions.{put_here, put_else, each_put, put_in_row, put_in_else}
use Rattle.lst_core_state.proofs.Lists.{links_chain, below_step}
use Rattle.lst_core_state.specs.declared.known.Known.{Known}
use Rattle.lst_core_state.specs.declared.known.Hold.{Hold}
use Rattle.lst_core_state.specs.Cells.{record_count, range_of, tail_at, tail_range}
use Rattle.lst_core_state.specs.Index.{is_placed}
use Rattle.lst_core_state.specs.State.{Words, entry, writer, writer_at, state_at, name_of, line, rank, record_in, act_in, back_in, head_of, no_hold, starts, FitsAfter}
use Rattle.lst_core_state.specs.Step.{number_in}
use Rattle.lst_core_state.specs.Sound.{Line, LineOf, InHand, Stored, StoredOf, Hand, HandOf, Versions, TimesOf, Each}
use Rattle.lst_core_state.proofs.Steps.{writer_odd, writer_even, name_session, name_number, Same, record_same, line_step, stored_step, hand_none, hand_step, distinct_put, distinct_same}
use Rattle.lst_core_state.proofs.VersionsKept.{Held, latch_of, tail_of, whole_of, held_same, latched_put, lines_step, kept_hand, versions_step, heads_same, hand_open}

pub put_in_here : (f : ℕ → ℕ → ℕ) (k m a : ℕ) → put_in f k m a k m ≡ a
put_in_here f k m a = ap (λ (g : ℕ → ℕ). g m) (put_in_row f k m a) ∙ put_here (f k) m a

pub put_in_off : (f : ℕ → ℕ → ℕ) (k m a j i : ℕ) → j ≢ k → put_in f k m a j i ≡ f j i
put_in_off f k m a j i other = put_in_else f k m a j i (λ e. absurd (other e))

pub put_in_place : (f : ℕ → ℕ → ℕ) (k m a j i : ℕ) → i ≢ m → put_in f k m a j i ≡ f j i
put_in_place f k m a j i other = put_in_else f k m a j i (λ _. other)

-- ---- tails by range

-- the tail with the number n of a range, n above 0
pub tail_at-some : (tails range n : ℕ) → 0 < n → tail_at tails range n ≡ range * tails + n
unfolding tail_at
tail_at-some tails range n some = ap (λ (b : Bool). cond b 0 (range * tails + n)) (ne_eqb n 0 (λ e. omega arith))

pub tail_at-none : (tails range : ℕ) → tail_at tails range 0 ≡ 0
unfolding tail_at
tail_at-none tails range = refl

pub tail_range-is : (tails range t : ℕ) → range * tails < t → t ≤ range * tails + tails → tail_range tails t ≡ range
unfolding tail_range
tail_range-is tails range t low high = let e : t - 1 ≡ range * tails + (t - 1 - range * tails) = omega arith in ap (λ (x : ℕ). x / tails) e ∙ digits_div range {m = tails} {r = t - 1 - range * tails} (omega arith)

module _ (l : Limits) (w : Words) (known : ℕ → Known) (sized : IsValid l) (times : TimesOf l w) (each : Each l w known) (V : Versions l w known) where
  -- storing a word of the tail in hand
  module _ (s p x : ℕ) (low : s < l.sessions) (held : 0 < (known s).hold.tail) (empty : (known s).hold.is_whole ≡ false) where
    abbrev pub stored_words : Words
    stored_words = record w { cells = put_in w.cells (known s).hold.tail p x }

    stored_apart : (t : ℕ) → 0 < w.cells t 0 → t ≢ (known s).hold.tail
    stored_apart t some e = let z = (V.hands s low).blank empty held in let same : w.cells t 0 ≡ w.cells (known s).hold.tail 0 = ap (λ (y : ℕ). w.cells y 0) e in omega arith

    stored_off : (t q : ℕ) → t ≢ (known s).hold.tail → stored_words.cells t q ≡ w.cells t q
    stored_off t q ne = put_in_off w.cells (known s).hold.tail p x t q ne

    pub stored_same : (t : ℕ) → 0 < w.cells t 0 → Same l w stored_words t
    stored_same t some = let ne = stored_apart t some in let e = stored_off t 0 ne in record {
      stays = omega arith;
      words = λ q _. stored_off t q ne;
      key = refl;
      by = ap (writer w.log) e;
      begin = refl;
      state = inl refl;
    }

    stored_stamped : (t : ℕ) → 0 < w.cells t 0 → stored_words.cells t 0 % 2 ≡ 0 → (0 < stored_words.cells t 0 / 2) × (stored_words.cells t 0 / 2 ≤ w.clock)
    stored_stamped t some even = let e : stored_words.cells t 0 ≡ w.cells t 0 = stored_off t 0 (stored_apart t some) in subst (λ (x : ℕ). (0 < x / 2) × (x / 2 ≤ w.clock)) (sym e) ((V.stored t some).stamped (ap (λ (x : ℕ). x % 2) (sym e) ∙ even))

    stored_others : (j : ℕ) → j ≢ s → j < l.sessions → Held l w stored_words j (known j)
    stored_others j other h = let apart : 0 < (known j).hold.tail → (known j).hold.tail ≢ (known s).hold.tail = λ q e. other (V.tails_apart j s h low q e) in record {
      head = λ _. refl;
      tail = λ q. (stored_off (known j).hold.tail 0 (apart q), record_same l w.cells stored_words.cells (known j).hold.tail (λ i _. stored_off (known j).hold.tail i (apart q)), refl);
    }

    zero_off : stored_words.cells 0 0 ≡ 0
    zero_off = stored_off 0 0 (λ e. omega arith) ∙ V.zero_blank

    in_records : (known s).hold.latch - 1 < record_count l
    in_records = let k = V.hands s low in let h = k.low in let q = k.holds held in omega arith

    own_line : line l stored_words ((known s).hold.latch - 1) ≡ line l w ((known s).hold.latch - 1)
    own_line = (lines_step l w known sized times each V stored_words (λ _ _. refl) stored_same ((known s).hold.latch - 1) in_records).0

    -- a word before the start word
    pub word_versions : (v' : Known) → 0 < p → v'.hold ≡ (known s).hold → v'.number ≡ (known s).number → v'.is_open ≡ (known s).is_open → v'.read_only ≡ (known s).read_only → v'.turn ≡ (known s).turn → Versions l stored_words (put known s v')
    word_versions v' off a number is_open ro turn = let v : Known = known s in let k = V.hands s low in let w' : Words = stored_words in let no_whole : ¬ (v.hold.is_whole ≡ true) = λ q. true≢false (sym q ∙ empty) in
        let start : w'.cells v.hold.tail 0 ≡ w.cells v.hold.tail 0 = put_in_place w.cells v.hold.tail p x v.hold.tail 0 (λ e. omega arith) in
        versions_step l w known sized times each V stored_words (λ _ _. refl) stored_same s v' low (λ _ e. e) V.keys_apart V.unplaced (held_same l w known sized times each V s v' (ap latch_of a)) zero_off (omega arith) (λ _. omega arith) (omega arith)
        stored_stamped (λ whole. absurd (no_whole whole))
        (λ t some. dite (ℕ_discrete t v.hold.tail)
        (λ e. absurd (let z = k.blank empty held in let f : w'.cells t 0 ≡ w'.cells v.hold.tail 0 = ap (λ (y : ℕ). w'.cells y 0) e in omega arith))
        (λ ne. inl (let e = stored_off t 0 ne in omega arith)))
        (subst (λ (h : Hold). Hand l (is_placed l w'.index (h.latch - 1)) w'.counts (w'.heads (h.latch - 1)) w'.log w'.begins w'.states (starts w') (record_in l w'.cells) (line l w' (h.latch - 1)) (name_of s v'.number) h v'.is_open v'.read_only (rank v'.turn)) (sym a)
        (subst (λ (n : ℕ). Hand l (is_placed l w'.index (v.hold.latch - 1)) w'.counts (w'.heads (v.hold.latch - 1)) w'.log w'.begins w'.states (starts w') (record_in l w'.cells) (line l w' (v.hold.latch - 1)) (name_of s n) v.hold v'.is_open v'.read_only (rank v'.turn)) (sym number) record {
          opened = λ q. is_open ∙ k.opened q;
          writes = λ q. ro ∙ k.writes q;
          away = λ q. ap rank turn ∙ k.away q;
          low = k.low;
          index = k.index;
          latched = k.latched;
          holds = k.holds;
          above = k.above;
          counted = k.counted;
          few = k.few;
          blank = λ e q. start ∙ k.blank e q;
          some = k.some;
          start = λ q. absurd (no_whole q);
          here = λ q. absurd (no_whole q);
          judged = λ q. subst (λ (zs : List ℕ). Below (entry w.states) (entry w.begins) (writer_at w') (name_of s v.number) zs) (sym own_line)
              (below_step (entry w.states) (entry w.begins) (writer_at w) (entry w.states) (entry w.begins) (writer_at w') (name_of s v.number) (line l w (v.hold.latch - 1)) refl (λ t i. let z = stored_same t ((V.lines (v.hold.latch - 1) in_records).stored t i) in (z.by, z.state)) (k.judged q));
        }))
        stored_others (distinct_same l.sessions known s v' (λ u. u.hold.tail) low (ap tail_of a) V.tails_apart) (distinct_same l.sessions known s v' (λ u. u.hold.latch) low (ap latch_of a) V.latches_apart)

    -- the start word
    module _ (first : p ≡ 0) (named : x ≡ 1 + 2 * name_of s (known s).number) where
      start_word : stored_words.cells (known s).hold.tail 0 ≡ 1 + 2 * name_of s (known s).number
      start_word = ap (λ (q : ℕ). put_in w.cells (known s).hold.tail q x (known s).hold.tail 0) first ∙ (put_in_here w.cells (known s).hold.tail 0 x ∙ named)

      pub start_writer : writer_at stored_words (known s).hold.tail ≡ name_of s (known s).number
      start_writer = let e = start_word in writer_odd w.log (stored_words.cells (known s).hold.tail 0) (omega arith) ∙ (omega arith)

      pub start_record : record_in l stored_words.cells (known s).hold.tail ≡ record_in l w.cells (known s).hold.tail
      start_record = record_same l w.cells stored_words.cells (known s).hold.tail (λ q some. put_in_place w.cells (known s).hold.tail p x (known s).hold.tail q (λ e. omega arith))

      pub start_versions : (v' : Known) → record_in l w.cells (known s).hold.tail ≡ (known s).hold.latch - 1 → v'.hold ≡ record (known s).hold { is_whole = true } → v'.number ≡ (known s).number → v'.is_open ≡ (known s).is_open → v'.read_only ≡ (known s).read_only → v'.turn ≡ (known s).turn → Versions l stored_words (put known s v')
      start_versions v' slot is number is_open ro turn = let v : Known = known s in let k = V.hands s low in let few = sized.sessions.1 in let w' : Words = stored_words in let r : ℕ = v.hold.latch - 1 in let latched = k.holds held in
          let known' : ℕ → Known = put known s v' in let own : ℕ = name_of s v.number in let session = name_session s v.number (omega arith) in let numbered = name_number s v.number (omega arith) in
          let here : known' s ≡ v' = put_here known s v' in let start = start_word in let slot' : record_in l w'.cells v.hold.tail ≡ r = start_record ∙ slot in
          versions_step l w known sized times each V stored_words (λ _ _. refl) stored_same s v' low (λ _ e. e) V.keys_apart V.unplaced (held_same l w known sized times each V s v' (ap latch_of is)) zero_off (omega arith) (λ _. omega arith) (omega arith)
          stored_stamped (λ whole. absurd (true≢false (sym whole ∙ empty)))
          (λ t some. dite (ℕ_discrete t v.hold.tail)
          (λ e. inr (subst (λ (y : ℕ). StoredOf l w' known' y) (sym e)
          (subst (λ (y : ℕ). Stored l w.clock w.counts known' v.hold.tail (w'.cells v.hold.tail 0) y (record_in l w'.cells v.hold.tail) (is_placed l w.index (record_in l w'.cells v.hold.tail)) (line l w' (record_in l w'.cells v.hold.tail))) (sym start_writer)
          (subst (λ (q : ℕ). Stored l w.clock w.counts known' v.hold.tail (w'.cells v.hold.tail 0) own q (is_placed l w.index q) (line l w' q)) (sym slot') record {
            begun = (
              subst (λ (y : ℕ). y < l.sessions) (sym session) low,
              subst (λ (y : ℕ). 0 < y) (sym numbered) ((each s low).open_number (k.opened latched)),
              subst (λ (y : ℕ). y ≤ (known' (own % 16)).number) (sym numbered) (subst (λ (y : ℕ). v.number ≤ (known' y).number) (sym session) (subst (λ (u : Known). v.number ≤ u.number) (sym here) (omega arith))),
            );
            stamped = λ even. absurd (omega arith);
            few = k.few;
            drawn = k.counted held;
            low = in_records;
            index = k.index latched;
            place = inr (s, low, ap (λ (u : Known). u.hold.tail) here ∙ ap tail_of is, ap (λ (u : Known). u.hold.is_whole) here ∙ ap whole_of is);
          }))))
          (λ ne. inl (let e = stored_off t 0 ne in omega arith)))
          (subst (λ (h : Hold). Hand l (is_placed l w'.index (h.latch - 1)) w'.counts (w'.heads (h.latch - 1)) w'.log w'.begins w'.states (starts w') (record_in l w'.cells) (line l w' (h.latch - 1)) (name_of s v'.number) h v'.is_open v'.read_only (rank v'.turn)) (sym is)
          (subst (λ (n : ℕ). Hand l (is_placed l w'.index r) w'.counts (w'.heads r) w'.log w'.begins w'.states (starts w') (record_in l w'.cells) (line l w' r) (name_of s n) (record v.hold { is_whole = true }) v'.is_open v'.read_only (rank v'.turn)) (sym number) record {
            opened = λ q. is_open ∙ k.opened q;
            writes = λ q. ro ∙ k.writes q;
            away = λ q. ap rank turn ∙ k.away q;
            low = k.low;
            index = k.index;
            latched = k.latched;
            holds = k.holds;
            above = k.above;
            counted = k.counted;
            few = k.few;
            blank = λ q. absurd (true≢false q);
            some = λ _. held;
            start = λ _. start_word;
            here = λ _. slot';
            judged = λ _. subst (λ (zs : List ℕ). Below (entry w.states) (entry w.begins) (writer_at w') own zs) (sym own_line)
                (below_step (entry w.states) (entry w.begins) (writer_at w) (entry w.states) (entry w.begins) (writer_at w') own (line l w r) refl (λ t i. let q = stored_same t ((V.lines r in_records).stored t i) in (q.by, q.state)) (k.judged held));
          }))
          stored_others (distinct_same l.sessions known s v' (λ u. u.hold.tail) low (ap tail_of is) V.tails_apart) (distinct_same l.sessions known s v' (λ u. u.hold.latch) low (ap latch_of is) V.latches_apart)

  -- a stamp
  module _ (s x : ℕ) (low : s < l.sessions) (whole : 0 < w.cells x 0) (some : 1 < state_at w x) (settled : state_at w x ≤ w.clock + 1) where
    abbrev pub stamp_words : Words
    stamp_words = record w { cells = put_in w.cells x 0 (2 * (state_at w x - 1)) }

    stamp_here : stamp_words.cells x 0 ≡ 2 * (state_at w x - 1)
    stamp_here = put_in_here w.cells x 0 (2 * (state_at w x - 1))

    stamp_else : (t : ℕ) → t ≢ x → stamp_words.cells t 0 ≡ w.cells t 0
    stamp_else t ne = put_in_off w.cells x 0 (2 * (state_at w x - 1)) t 0 ne

    stamp_words_same : (t p : ℕ) → 0 < p → stamp_words.cells t p ≡ w.cells t p
    stamp_words_same t p off = put_in_place w.cells x 0 (2 * (state_at w x - 1)) t p (λ e. omega arith)

    -- the log at that time names the writer
    stamp_by : writer_at stamp_words x ≡ writer_at w x
    stamp_by = let own : ℕ = writer_at w x in let t : ℕ = entry w.states own - 1 in let begun = (V.stored x whole).begun in let h = stamp_here in
        writer_even w.log (stamp_words.cells x 0) (omega arith) ∙ (ap w.log (let e : stamp_words.cells x 0 / 2 ≡ t = omega arith in e) ∙ (times.found (own % 16) (own / 16) t begun.0 (omega arith) (omega arith) (omega arith) ∙ (omega arith)))

    pub stamp_same : (t : ℕ) → 0 < w.cells t 0 → Same l w stamp_words t
    stamp_same t stored = record {
      stays = dite (ℕ_discrete t x) (λ e. subst (λ (y : ℕ). 0 < stamp_words.cells y 0) (sym e) (let h = stamp_here in omega arith)) (λ ne. let h = stamp_else t ne in omega arith);
      words = stamp_words_same t;
      key = refl;
      by = dite (ℕ_discrete t x) (λ e. subst (λ (y : ℕ). writer_at stamp_words y ≡ writer_at w y) (sym e) stamp_by) (λ ne. ap (writer w.log) (stamp_else t ne));
      begin = refl;
      state = inl refl;
    }

    pub stamp_held : (j : ℕ) → j < l.sessions → Held l w stamp_words j (known j)
    stamp_held j h = record {
      head = λ _. refl;
      tail = λ p. (
        stamp_else (known j).hold.tail (λ e. let same : w.cells (known j).hold.tail 0 ≡ w.cells x 0 = ap (λ (y : ℕ). w.cells y 0) e in let z = hand_open l w known sized times each V j h p (omega arith) in let q : entry w.states (writer_at w (known j).hold.tail) ≡ entry w.states (writer_at w x) = ap (λ (y : ℕ). entry w.states (writer_at w y)) e in omega arith),
        record_same l w.cells stamp_words.cells (known j).hold.tail (stamp_words_same (known j).hold.tail),
        refl,
      );
    }

    pub stamp_versions : Versions l stamp_words (put known s (known s))
    stamp_versions = versions_step l w known sized times each V stamp_words (λ _ _. refl) stamp_same s (known s) low (λ _ e. e) V.keys_apart V.unplaced (held_same l w known sized times each V s (known s) refl)
        (stamp_else 0 (λ e. let z = V.zero_blank in let same : w.cells 0 0 ≡ w.cells x 0 = ap (λ (y : ℕ). w.cells y 0) e in omega arith) ∙ V.zero_blank) (omega arith) (λ _. omega arith) (omega arith)
        (λ t stored even. dite (ℕ_discrete t x) (λ e. let same : stamp_words.cells t 0 ≡ stamp_words.cells x 0 = ap (λ (y : ℕ). stamp_words.cells y 0) e in let h = stamp_here in (omega arith, omega arith))
        (λ ne. let e = stamp_else t ne in let q = (V.stored t stored).stamped (omega arith) in (let h = q.0 in omega arith, let h = q.1 in omega arith)))
        (λ whole. (refl, whole)) (λ t stored. inl (dite (ℕ_discrete t x) (λ e. let same : w.cells t 0 ≡ w.cells x 0 = ap (λ (y : ℕ). w.cells y 0) e in omega arith) (λ ne. let h = stamp_else t ne in omega arith)))
        (kept_hand l w known sized times each V stamp_words (λ _ _. refl) stamp_same s (known s) low (λ _ z. z) (λ _. omega arith) refl refl refl refl (λ e. e) (stamp_held s low)) (λ j other h. stamp_held j h)
        (distinct_same l.sessions known s (known s) (λ u. u.hold.tail) low refl V.tails_apart) (distinct_same l.sessions known s (known s) (λ u. u.hold.latch) low refl V.latches_apart)

  -- an install puts the tail in hand before its record's chain
  module _ (s : ℕ) (low : s < l.sessions) (whole : (known s).hold.is_whole ≡ true) (linked : w.cells (known s).hold.tail 2 ≡ (known s).hold.head) where
    abbrev pub R : ℕ
    R = (known s).hold.latch - 1

    abbrev pub T : ℕ
    T = (known s).hold.tail

    abbrev pub word : ℕ
    word = 2 * number_in l R T

    abbrev pub install_words : Words
    install_words = record w { heads = put w.heads R word }

    pub install_low : R < record_count l
    install_low = let k = V.hands s low in let p = k.holds (k.some whole) in let h = k.low in omega arith

    pub install_writer : writer_at w T ≡ name_of s (known s).number
    install_writer = let start = (V.hands s low).start whole in writer_odd w.log (w.cells T 0) (omega arith) ∙ (omega arith)

    install_head : head_of l R (install_words.heads R) ≡ T
    install_head = let k = V.hands s low in let d = k.counted (k.some whole) in let a = d.0 in let half : install_words.heads R / 2 ≡ number_in l R T = (let h : install_words.heads R ≡ word = put_here w.heads R word in omega arith) in
        ap (tail_at l.tails (range_of R)) half ∙ (tail_at-some l.tails (range_of R) (number_in l R T) (omega arith) ∙ (omega arith))

    install_back : back_in l w.cells T ≡ head_of l R (w.heads R)
    install_back = let k = V.hands s low in let d = k.counted (k.some whole) in let head = k.latched (k.holds (k.some whole)) in let half : w.heads R / 2 ≡ (known s).hold.head = omega arith in
        (λ i. tail_at l.tails (tail_range-is l.tails (range_of R) T d.0 d.1 i) (linked i)) ∙ ap (tail_at l.tails (range_of R)) (sym half)

    install_links : Links (back_in l w.cells) (head_of l R (install_words.heads R)) (T ∷ line l w R)
    install_links = let k = V.hands s low in let some = k.some whole in let head = k.latched (k.holds some) in let half : w.heads R / 2 ≡ (known s).hold.head = omega arith in
        let above : head_of l R (w.heads R) < T = subst (λ (y : ℕ). tail_at l.tails (range_of R) y < T) (sym half) (k.above some) in
        (install_head, some, subst (λ (y : ℕ). y < T) (sym install_back) above, subst (λ (y : ℕ). Links (back_in l w.cells) y (line l w R)) (sym install_back) (V.lines R install_low).links)

    pub install_chain : line l install_words R ≡ T ∷ line l w R
    install_chain = links_chain (back_in l w.cells) (head_of l R (install_words.heads R)) (head_of l R (install_words.heads R)) (T ∷ line l w R) (omega arith) install_links

    -- the act fits the versions that are not closed
    abbrev pub Fit : Type 0
    Fit = FitsAfter (acts (is_live (entry w.states) (writer_at w)) (act_in l w.cells) (line l w R)) (act_in l w.cells T)

    pub install_line : Fit → LineOf l install_words R
    install_line fit = let k = V.hands s low in let L = V.lines R install_low in let start = k.start whole in
        subst (λ (zs : List ℕ). Line R (head_of l R (install_words.heads R)) w.log w.begins w.states (starts w) (back_in l w.cells) (record_in l w.cells) (act_in l w.cells) zs) (sym install_chain) record {
          links = install_links;
          stored = λ t i. ⊎_elim (λ (e : t ≡ T). subst (λ (x : ℕ). 0 < w.cells x 0) (sym e) (omega arith)) (λ (j : Has t (line l w R)). L.stored t j) i;
          here = λ t i. ⊎_elim (λ (e : t ≡ T). ap (record_in l w.cells) e ∙ k.here whole) (λ (j : Has t (line l w R)). L.here t j) i;
          ordered = (λ _. subst (λ (x : ℕ). Below (entry w.states) (entry w.begins) (writer_at w) x (line l w R)) (sym install_writer) (k.judged (k.some whole)), L.ordered);
          fits = (λ _. fit, L.fits);
        }

    pub install_same : (t : ℕ) → 0 < w.cells t 0 → Same l w install_words t
    install_same = heads_same l w known sized times each V (put w.heads R word)

    pub install_other : (q : ℕ) → q < record_count l → q ≢ R → (line l install_words q ≡ line l w q) × LineOf l install_words q
    install_other q h ne = line_step l w install_words q (ap (λ (x : ℕ). x / 2) (put_else w.heads R word q ne)) (λ t i. install_same t ((V.lines q h).stored t i)) (V.lines q h)

    pub install_versions : (v' : Known) → Fit → v'.hold ≡ no_hold → v'.number ≡ (known s).number → Versions l install_words (put known s v')
    install_versions v' fit is number = let known' : ℕ → Known = put known s v' in record {
      zero_blank = V.zero_blank;
      lines = λ q h. dite (ℕ_discrete q R) (λ e. subst (LineOf l install_words) (sym e) (install_line fit)) (λ ne. (install_other q h ne).1);
      stored = λ t some. stored_step l w install_words known known' t (install_same t some) (omega arith) (λ _. omega arith)
          (λ j h. each_put (λ (i : ℕ) (u : Known). (known i).number ≤ u.number) known s v' (omega arith) (λ i other. omega arith) j) ((V.stored t some).stamped)
          (λ h place. ⊎_elim
          (λ (i : Has t (line l w (record_in l w.cells t))). inl (dite (ℕ_discrete (record_in l w.cells t) R)
          (λ e. subst (λ (q : ℕ). Has t (line l install_words q)) (sym e) (subst (λ (zs : List ℕ). Has t zs) (sym install_chain) (inr (subst (λ (q : ℕ). Has t (line l w q)) e i))))
          (λ ne. subst (λ (zs : List ℕ). Has t zs) (sym (install_other (record_in l w.cells t) h ne).0) i)))
          (λ (i : InHand l known t). dite (ℕ_discrete i.0 s)
          (λ e. let at : t ≡ T = sym i.2 ∙ ap (λ (x : ℕ). (known x).hold.tail) e in let key : record_in l w.cells t ≡ R = ap (record_in l w.cells) at ∙ (V.hands s low).here whole in
          inl (subst (λ (q : ℕ). Has t (line l install_words q)) (sym key) (subst (λ (zs : List ℕ). Has t zs) (sym install_chain) (inl at))))
          (λ ne. let same : known' i.0 ≡ known i.0 = put_else known s v' i.0 ne in inr (i.0, i.1, ap (λ (u : Known). u.hold.tail) same ∙ i.2, ap (λ (u : Known). u.hold.is_whole) same ∙ i.3)))
          place) (λ e. e)
          (V.stored t some);
      hands = each_put (λ (j : ℕ) (u : Known). j < l.sessions → HandOf l install_words j u) known s v' (λ _. hand_none l w install_words s v' (ap latch_of is) (ap tail_of is) (ap whole_of is))
          (λ j other h. let u : Known = known j in let held = V.hands j h in let apart : 0 < u.hold.latch → u.hold.latch - 1 ≢ R = λ p d. let mine = (V.hands s low).holds ((V.hands s low).some whole) in other (V.latches_apart j s h low p (omega arith)) in
          hand_step l w install_words j u u refl refl refl refl (λ z. z) (λ _ z. z) (λ _. omega arith) (λ p. put_else w.heads R word (u.hold.latch - 1) (apart p)) (λ p. (install_other (u.hold.latch - 1) (let z = held.low in omega arith) (apart p)).0)
          (λ t p i. install_same t ((V.lines (u.hold.latch - 1) (let z = held.low in omega arith)).stored t i)) (λ _. (refl, refl, refl)) held);
      tails_apart = distinct_put l.sessions known s v' (λ u. u.hold.tail) V.tails_apart (λ j other h p. absurd (let z = ap tail_of is in omega arith));
      latches_apart = distinct_put l.sessions known s v' (λ u. u.hold.latch) V.latches_apart (λ j other h p. absurd (let z = ap latch_of is in omega arith));
      held = λ q h odd. dite (ℕ_discrete q R) (λ d. let a : install_words.heads q ≡ word = ap install_words.heads d ∙ put_here w.heads R word in absurd (omega arith))
          (λ ne. latched_put l w known sized times each V s v' q (λ d. absurd (ne (omega arith))) (V.held q h (ap (λ (y : ℕ). y % 2) (sym (put_else w.heads R word q ne)) ∙ odd)));
      keys_apart = V.keys_apart;
      unplaced = λ q h none. let k = V.hands s low in put_else w.heads R word q (λ e. true≢false (sym (k.index (k.holds (k.some whole))) ∙ ap (is_placed l w.index) (sym e) ∙ none)) ∙ V.unplaced q h none;
    }
