-- Each step keeps the part on the words of tails.
use Rattle.std.proofs.Common.{◌≡◌, ◌≢◌, ℕ, ◌+◌, ◌-◌, ◌*◌, ◌%◌, ◌<◌, ◌≤◌, List, cond, eqb, nat_lt, length, get_or, set, refl, sym, subst, ap, ◌∙◌, arith, ltb-true, length-set, get_or-set_same, get_or-set_other}
use Rattle.std.proofs.lemmas.List.{length-replicate, get_or-replicate}
use mathlib.Core.Logic.{dite}
use native.Mathlib.Decide.{ℕ_discrete}
use Rattle.lst_layout.specs.declared.limits.Limits.{Limits}
use Rattle.lst_layout.specs.Functions.{put, put_in}
use Rattle.lst_core_state.specs.declared.known.Known.{Known}
use Rattle.lst_core_state.specs.declared.events.Event.{Event}
use Rattle.lst_core_state.specs.declared.events.Event.TheVariants.{Look, Begin, Take, Log, State, Clock, Give, Close, DrawRecord, StoreKey, Claim, Latch, DrawTail, StoreCell, Install, Release, Stamp, Post}
use Rattle.lst_layout.specs.declared.place.Place.{Place}
use Rattle.lst_layout.specs.declared.place.Place.TheVariants.{ClockWord, CommitWord, EpochWord, RecordCounter, LogWord, BeginWord, StateWord, KeyWord, IndexWord, HeadWord, TailCounter, CellWord, DirectoryWord, FrameWord, PinWord, PostingWord}
use Rattle.lst_core_state.specs.Cells.{record_count, range_of, IsColumn, IsCell}
use Rattle.lst_core_state.specs.State.{Words, Core, state_at, record_in}
use Rattle.lst_layout.specs.Addresses.{place_of}
use Rattle.lst_core_state.specs.Step.{session_of, IsWithin, Enabled, Stands, words_after, known_after, look_at, gives_up, given_up, took, held_off, record_drawn, records_full, claimed, claim_lost, latched, latch_lost, tail_drawn, tails_full, cell_started, word_stored, posted, post_lost}
use Rattle.lst_core_state.specs.Sound.{Drawn, Drafted, TailWords, Sound}
use Rattle.lst_core_state.proofs.Functions.{either, each_put}
use Rattle.lst_core_state.proofs.VersionsKept.{one_range, counts_rise}
use Rattle.lst_core_state.proofs.CellsKept.{put_in_here, put_in_off, put_in_place, stamp_held}

-- with more drawn, what was drawn is drawn
pub drawn_more : (l : Limits) (counts counts' : ℕ → ℕ) (range g : ℕ) → ((q : ℕ) → counts q ≤ counts' q) → Drawn l counts range g → Drawn l counts' range g
drawn_more l counts counts' range g more d = (d.0, d.1, let a = d.2 in let b = more range in omega arith)

-- the same words at other places
image_same : (columns : ℕ) (f g : ℕ → ℕ) → ((p : ℕ) → 0 < p → g p ≡ f p) → IsCell columns (f 1) (λ c. f (3 + c)) → IsCell columns (g 1) (λ c. g (3 + c))
image_same columns f g same k = let e : g 1 ≡ f 1 = same 1 (omega arith) in subst (λ (x : ℕ). IsCell columns x (λ c. g (3 + c))) (sym e) record {
  nulls = k.nulls;
  kind = k.kind;
  each = λ c low. subst (IsColumn (f 1) c) (sym (same (3 + c) (omega arith))) (k.each c low);
}

module _ (c : Core) (sound : Sound c) where
  abbrev L : Limits
  L = c.limits

  abbrev w : Words
  w = c.words

  abbrev K : ℕ → Known
  K = c.known

  -- a range of records
  range_low : (r : ℕ) → r < record_count L → range_of r < L.ranges
  range_low r low = omega arith

  -- a tail that is drawn in no range is no stored one, and in no hand
  stored_drawn : (t : ℕ) → 0 < w.cells t 0 → ¬ ((range : ℕ) → range < L.ranges → ¬ Drawn L w.counts range t)
  stored_drawn t some none = let k = sound.versions.stored t some in none (range_of (record_in L w.cells t)) (range_low (record_in L w.cells t) k.low) k.drawn

  hand_drawn : (s : ℕ) → s < L.sessions → 0 < (K s).hold.tail → ¬ ((range : ℕ) → range < L.ranges → ¬ Drawn L w.counts range (K s).hold.tail)
  hand_drawn s low some none = let k = sound.versions.hands s low in none (range_of ((K s).hold.latch - 1)) (range_low ((K s).hold.latch - 1) (let h = k.low in let p = k.holds some in omega arith)) (k.counted some)

  tail_words_step : (counts' : ℕ → ℕ) (cells' : ℕ → ℕ → ℕ) (s : ℕ) (v' : Known) → ((q : ℕ) → w.counts q ≤ counts' q)
      → (0 < v'.hold.tail → Drafted L.columns v'.hold.tail v'.draft (cells' v'.hold.tail)) → ((j : ℕ) → j ≢ s → j < L.sessions → 0 < (K j).hold.tail → (p : ℕ) → cells' (K j).hold.tail p ≡ w.cells (K j).hold.tail p)
      → ((t : ℕ) → 0 < cells' t 0 → IsCell L.columns (cells' t 1) (λ c. cells' t (3 + c))) → ((t p : ℕ) → ((range : ℕ) → range < L.ranges → ¬ Drawn L w.counts range t) → cells' t p ≡ 0)
      → TailWords L counts' cells' (put K s v')
  tail_words_step counts' cells' s v' more mine others images undrawn = record {
    drafts = each_put (λ (j : ℕ) (u : Known). j < L.sessions → 0 < u.hold.tail → Drafted L.columns u.hold.tail u.draft (cells' u.hold.tail)) K s v' (λ _. mine)
        (λ j other h some. let d = sound.tail_words.drafts j h some in record { wide = d.wide; is = λ p low. others j other h some p ∙ d.is p low });
    images = images;
    undrawn = λ t p none. undrawn t p (λ range low d. none range low (drawn_more L w.counts counts' range t more d));
  }

  -- the words of tails are as they were
  words_same : (counts' : ℕ → ℕ) (s : ℕ) (v' : Known) → ((q : ℕ) → w.counts q ≤ counts' q) → (0 < v'.hold.tail → Drafted L.columns v'.hold.tail v'.draft (w.cells v'.hold.tail)) → TailWords L counts' w.cells (put K s v')
  words_same counts' s v' more mine = tail_words_step counts' w.cells s v' more mine (λ _ _ _ _ _. refl) sound.tail_words.images sound.tail_words.undrawn

  -- and so is what is in hand
  pub same : (s : ℕ) (v' : Known) → s < L.sessions → (0 < v'.hold.tail → Drafted L.columns v'.hold.tail v'.draft (w.cells v'.hold.tail)) → TailWords L w.counts w.cells (put K s v')
  same s v' low mine = words_same w.counts s v' (λ _. omega arith) mine

  abbrev Part : ℕ → Known → Type 0
  Part s u = TailWords L w.counts w.cells (put K s u)

  looks : (s : ℕ) → s < L.sessions → (p : Place) → Part s (look_at L w (K s) p)
  looks s low ClockWord = same s (look_at L w (K s) ClockWord) low (sound.tail_words.drafts s low)
  looks s low EpochWord = same s (look_at L w (K s) EpochWord) low (sound.tail_words.drafts s low)
  looks s low RecordCounter = same s (look_at L w (K s) RecordCounter) low (sound.tail_words.drafts s low)
  looks s low (StateWord j n) = same s (look_at L w (K s) (StateWord j n)) low (sound.tail_words.drafts s low)
  looks s low (KeyWord r) = either (Part s) (gives_up (K s) r (w.keys r)) (given_up (K s)) (K s) (λ _. same s (given_up (K s)) low (sound.tail_words.drafts s low)) (λ _. same s (K s) low (sound.tail_words.drafts s low))
  looks s low (IndexWord q) = same s (look_at L w (K s) (IndexWord q)) low (sound.tail_words.drafts s low)
  looks s low (HeadWord r) = same s (look_at L w (K s) (HeadWord r)) low (sound.tail_words.drafts s low)
  looks s low (TailCounter range) = same s (look_at L w (K s) (TailCounter range)) low (sound.tail_words.drafts s low)
  looks s low (CellWord t p) = same s (look_at L w (K s) (CellWord t p)) low (sound.tail_words.drafts s low)
  looks s low CommitWord = same s (K s) low (sound.tail_words.drafts s low)
  looks s low (LogWord i) = same s (K s) low (sound.tail_words.drafts s low)
  looks s low (BeginWord i n) = same s (K s) low (sound.tail_words.drafts s low)
  looks s low (DirectoryWord i n) = same s (K s) low (sound.tail_words.drafts s low)
  looks s low (FrameWord i n) = same s (K s) low (sound.tail_words.drafts s low)
  looks s low (PinWord i) = same s (K s) low (sound.tail_words.drafts s low)
  looks s low (PostingWord i n) = same s (look_at L w (K s) (PostingWord i n)) low (λ held. let d = sound.tail_words.drafts s low held in record { wide = d.wide; is = d.is })

  -- a tail that is drawn now has no words yet
  fresh : (range p : ℕ) → range < L.ranges → w.counts range < L.tails → w.cells (range * L.tails + w.counts range + 1) p ≡ 0
  fresh range p low room = let g : ℕ = range * L.tails + w.counts range + 1 in sound.tail_words.undrawn g p (λ other h d. let a = d.0 in let b = d.1 in let most = d.2 in
      let one : other ≡ range = one_range L w K sound.sized sound.times sound.each sound.versions other range g a b (omega arith) (omega arith) in
      let same : other * L.tails + w.counts other ≡ range * L.tails + w.counts range = ap (λ (x : ℕ). x * L.tails + w.counts x) one in omega arith)

  tails : (s range : ℕ) → s < L.sessions → range < L.ranges → TailWords L (put w.counts range (w.counts range + 1)) w.cells (put K s (cond (nat_lt (w.counts range) L.tails) (tail_drawn L w (K s) range) (tails_full w (K s) range)))
  tails s range low in_range = either (λ (u : Known). TailWords L (put w.counts range (w.counts range + 1)) w.cells (put K s u)) (nat_lt (w.counts range) L.tails) (tail_drawn L w (K s) range) (tails_full w (K s) range)
      (λ e. words_same (put w.counts range (w.counts range + 1)) s (tail_drawn L w (K s) range) (counts_rise L w K sound.sized sound.times sound.each sound.versions range)
      (λ _. record { wide = length-replicate (3 + L.columns) 0; is = λ p h. fresh range p in_range (ltb-true (w.counts range) L.tails e) ∙ sym (get_or-replicate (3 + L.columns) p 0 0 h) }))
      (λ _. words_same (put w.counts range (w.counts range + 1)) s (tails_full w (K s) range) (counts_rise L w K sound.sized sound.times sound.each sound.versions range) (sound.tail_words.drafts s low))

  stores : (s p x : ℕ) → s < L.sessions → p < 3 + L.columns → Enabled L (K s) (StoreCell s p x) → Stands L w (K s) (StoreCell s p x) → (v' : Known) → v'.hold.tail ≡ (K s).hold.tail → v'.draft.words ≡ set (K s).draft.words p x → TailWords L w.counts (put_in w.cells (K s).hold.tail p x) (put K s v')
  stores s p x low inside ok stands v' tail words = let T : ℕ = (K s).hold.tail in let cells' : ℕ → ℕ → ℕ = put_in w.cells T p x in let d = sound.tail_words.drafts s low ok.0 in
      let wide : p < length (K s).draft.words = (let e = d.wide in omega arith) in
      tail_words_step w.counts cells' s v' (λ _. omega arith)
      (λ _. subst (λ (t : ℕ). Drafted L.columns t v'.draft (cells' t)) (sym tail) record {
        wide = ap length words ∙ (length-set (K s).draft.words p x ∙ d.wide);
        is = λ q h. dite (ℕ_discrete q p)
            (λ e. subst (λ (y : ℕ). cells' T y ≡ get_or v'.draft.words y 0) (sym e) (put_in_here w.cells T p x ∙ sym (ap (λ (l : List ℕ). get_or l p 0) words ∙ get_or-set_same (K s).draft.words p x 0 wide)))
            (λ ne. put_in_place w.cells T p x T q ne ∙ (d.is q h ∙ sym (ap (λ (l : List ℕ). get_or l q 0) words ∙ get_or-set_other (K s).draft.words p q x 0 ne)));
      })
      (λ j other h some q. put_in_off w.cells T p x (K j).hold.tail q (λ e. other (sound.versions.tails_apart j s h low some e)))
      (λ t some. dite (ℕ_discrete t T)
      (λ e. subst (λ (y : ℕ). IsCell L.columns (cells' y 1) (λ c. cells' y (3 + c))) (sym e) (dite (ℕ_discrete p 0)
      (λ first. image_same L.columns (w.cells T) (cells' T) (λ q off. put_in_place w.cells T p x T q (λ f. omega arith)) (stands first).0)
      (λ later. absurd (let z = (sound.versions.hands s low).blank ok.1 ok.0 in let a : cells' t 0 ≡ cells' T 0 = ap (λ (y : ℕ). cells' y 0) e in let b : cells' T 0 ≡ w.cells T 0 = put_in_place w.cells T p x T 0 (λ f. later (sym f)) in omega arith))))
      (λ ne. image_same L.columns (w.cells t) (cells' t) (λ q _. put_in_off w.cells T p x t q ne) (sound.tail_words.images t (let e = put_in_off w.cells T p x t 0 ne in omega arith))))
      (λ t q none. put_in_off w.cells T p x t q (λ e. hand_drawn s low ok.0 (subst (λ (y : ℕ). (range : ℕ) → range < L.ranges → ¬ Drawn L w.counts range y) e none)) ∙ sound.tail_words.undrawn t q none)

  stamped : (s x : ℕ) → s < L.sessions → (whole : 0 < w.cells x 0) (some : 1 < state_at w x) (settled : state_at w x ≤ w.clock + 1) → TailWords L w.counts (put_in w.cells x 0 (2 * (state_at w x - 1))) (put K s (K s))
  stamped s x low whole some settled = let y : ℕ = 2 * (state_at w x - 1) in let cells' : ℕ → ℕ → ℕ = put_in w.cells x 0 y in
      let hand : (j : ℕ) → j < L.sessions → 0 < (K j).hold.tail → (p : ℕ) → cells' (K j).hold.tail p ≡ w.cells (K j).hold.tail p = λ j h held p. dite (ℕ_discrete p 0)
      (λ e. subst (λ (q : ℕ). cells' (K j).hold.tail q ≡ w.cells (K j).hold.tail q) (sym e) (((stamp_held L w K sound.sized sound.times sound.each sound.versions s x low whole some settled j h).tail held).0)) (λ ne. put_in_place w.cells x 0 y (K j).hold.tail p ne) in
      let was : (t : ℕ) → 0 < cells' t 0 → 0 < w.cells t 0 = λ t new. dite (ℕ_discrete t x) (λ e. let f : w.cells t 0 ≡ w.cells x 0 = ap (λ (z : ℕ). w.cells z 0) e in omega arith) (λ ne. let f = put_in_off w.cells x 0 y t 0 ne in omega arith) in
      tail_words_step w.counts cells' s (K s) (λ _. omega arith)
      (λ held. let d = sound.tail_words.drafts s low held in record { wide = d.wide; is = λ p h. hand s low held p ∙ d.is p h })
      (λ j other h held p. hand j h held p)
      (λ t new. image_same L.columns (w.cells t) (cells' t) (λ q off. put_in_place w.cells x 0 y t q (λ e. omega arith)) (sound.tail_words.images t (was t new)))
      (λ t q none. put_in_off w.cells x 0 y t q (λ e. stored_drawn x whole (subst (λ (z : ℕ). (range : ℕ) → range < L.ranges → ¬ Drawn L w.counts range z) e none)) ∙ sound.tail_words.undrawn t q none)

  pub tail_words_keeps : (e : Event) → session_of e < L.sessions → IsWithin L e → Enabled L (K (session_of e)) e → Stands L w (K (session_of e)) e → let w' : Words = words_after L w (K (session_of e)) e in TailWords L w'.counts w'.cells (put K (session_of e) (known_after L w (K (session_of e)) e))
  tail_words_keeps (Look s a) low within ok stands = looks s low (place_of L a)
  tail_words_keeps (Begin s b r) low within ok stands = same s (known_after L w (K s) (Begin s b r)) low (sound.tail_words.drafts s low)
  tail_words_keeps (Take s) low within ok stands = either (Part s) (eqb w.turn 0) (took (K s)) (held_off (K s)) (λ _. same s (took (K s)) low (sound.tail_words.drafts s low)) (λ _. same s (held_off (K s)) low (sound.tail_words.drafts s low))
  tail_words_keeps (Log s) low within ok stands = same s (known_after L w (K s) (Log s)) low (sound.tail_words.drafts s low)
  tail_words_keeps (State s) low within ok stands = same s (known_after L w (K s) (State s)) low (sound.tail_words.drafts s low)
  tail_words_keeps (Clock s) low within ok stands = same s (known_after L w (K s) (Clock s)) low (sound.tail_words.drafts s low)
  tail_words_keeps (Give s) low within ok stands = same s (known_after L w (K s) (Give s)) low (sound.tail_words.drafts s low)
  tail_words_keeps (Close s) low within ok stands = same s (known_after L w (K s) (Close s)) low (sound.tail_words.drafts s low)
  tail_words_keeps (DrawRecord s) low within ok stands = either (Part s) (nat_lt w.counter (record_count L)) (record_drawn w (K s)) (records_full w (K s)) (λ _. same s (record_drawn w (K s)) low (sound.tail_words.drafts s low)) (λ _. same s (records_full w (K s)) low (sound.tail_words.drafts s low))
  tail_words_keeps (StoreKey s k) low within ok stands = same s (known_after L w (K s) (StoreKey s k)) low (sound.tail_words.drafts s low)
  tail_words_keeps (Claim s q) low within ok stands = either (Part s) (eqb (w.index q) 0) (claimed (K s) q) (claim_lost w (K s) q) (λ _. same s (claimed (K s) q) low (sound.tail_words.drafts s low)) (λ _. same s (claim_lost w (K s) q) low (sound.tail_words.drafts s low))
  tail_words_keeps (Latch s r) low within ok stands = either (Part s) (eqb (w.heads r % 2) 0) (latched L w (K s) r) (latch_lost L w (K s) r) (λ _. same s (latched L w (K s) r) low (λ p. absurd (omega arith))) (λ _. same s (latch_lost L w (K s) r) low (sound.tail_words.drafts s low))
  tail_words_keeps (DrawTail s range) low within ok stands = tails s range low within.1
  tail_words_keeps (StoreCell s p x) low within ok stands = either (λ (u : Known). TailWords L w.counts (put_in w.cells (K s).hold.tail p x) (put K s u)) (eqb p 0) (cell_started L w (K s) p x) (word_stored (K s) p x)
      (λ _. stores s p x low within.1 ok stands (cell_started L w (K s) p x) refl refl) (λ _. stores s p x low within.1 ok stands (word_stored (K s) p x) refl refl)
  tail_words_keeps (Install s) low within ok stands = same s (known_after L w (K s) (Install s)) low (λ p. absurd (omega arith))
  tail_words_keeps (Release s) low within ok stands = same s (known_after L w (K s) (Release s)) low (λ p. absurd (omega arith))
  tail_words_keeps (Stamp s range n) low within ok stands = stamped s (range * L.tails + n) low stands.0 stands.1 stands.2
  tail_words_keeps (Post s column q) low within ok stands = either (Part s) (eqb (w.postings column q) 0) (posted (K s) column q) (post_lost w (K s) column q)
      (λ _. same s (posted (K s) column q) low (λ held. let d = sound.tail_words.drafts s low held in record { wide = d.wide; is = d.is })) (λ _. same s (post_lost w (K s) column q) low (sound.tail_words.drafts s low))
