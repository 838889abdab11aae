-- A stored version stays what it is, and chains only grow at their head.
use Rattle.std.proofs.Common.{◌≡◌, ◌⊎◌, ℕ, ◌+◌, ◌-◌, ◌*◌, ◌/◌, ◌%◌, ◌<◌, ◌≤◌, ◌∷◌, Bool, true, false, cond, eqb, refl, sym, subst, ap, ◌∙◌, arith, inl, inr, ⊎_elim, true≢false, eq-eqb, ne_eqb}
use mathlib.Core.Logic.{dite}
use native.Mathlib.Decide.{ℕ_discrete}
use Rattle.lst_layout.specs.declared.limits.Limits.{Limits}
use Rattle.lst_layout.specs.Functions.{put, put_in}
use Rattle.lst_core_state.specs.declared.known.Known.{Known}
use Rattle.lst_core_state.specs.declared.events.Event.{Event}
use Rattle.lst_core_state.specs.declared.events.Event.TheVariants.{Look, Begin, Take, Log, State, Clock, Give, Close, DrawRecord, StoreKey, Claim, Latch, DrawTail, StoreCell, Install, Release, Stamp, Post}
use Rattle.lst_core_state.specs.Cells.{record_count}
use Rattle.lst_core_state.specs.Index.{is_placed, size}
use Rattle.lst_core_state.specs.State.{Words, Core, entry, writer_at, name_of, line, act_in, record_in}
use Rattle.lst_core_state.specs.Step.{session_of, Enabled, Stands, words_after, number_in}
use Rattle.lst_core_state.specs.Sound.{Begun, Sound}
use Rattle.lst_core_state.proofs.Functions.{put_here, put_else, put_in_else, each_put}
use Rattle.lst_core_state.proofs.Positions.{position_low, placed_says, placed_more}
use Rattle.lst_core_state.proofs.Steps.{Same, act_same, record_same}
use Rattle.lst_core_state.proofs.VersionsKept.{time_same, states_end, heads_same, count_same, lines_step, bit_halves, index_same}
use Rattle.lst_core_state.proofs.CellsKept.{stored_same, stamp_same, install_chain, install_other}
use Rattle.lst_core_state.proofs.Decoded.{not_true}

pub put_same : {A : Type 0} (f : ℕ → A) (k : ℕ) → put f k (f k) ≡ f
put_same {A} f k = λ i j. each_put (λ (m : ℕ) (x : A). x ≡ f m) f k (f k) refl (λ m other. refl) j i

module _ (c : Core) (sound : Sound c) where
  abbrev L : Limits
  L = c.limits

  abbrev w : Words
  w = c.words

  abbrev K : ℕ → Known
  K = c.known

  timed : (clock' turn' : ℕ) (log' : ℕ → ℕ) (begins' states' : ℕ → ℕ → ℕ) → ((t : ℕ) → 0 < t → t ≤ w.clock → log' t ≡ w.log t) → ((x : ℕ) → Begun L K x → entry begins' x ≡ entry w.begins x) → ((x : ℕ) → Begun L K x → (entry states' x ≡ entry w.states x) ⊎ (entry w.states x ≡ 0))
      → (t : ℕ) → 0 < w.cells t 0 → Same L w (record w { clock = clock'; turn = turn'; log = log'; begins = begins'; states = states' }) t
  timed clock' turn' log' begins' states' = time_same L w K sound.sized sound.times sound.each sound.versions 0 (K 0) clock' turn' log' begins' states'

  -- a record in hand is not in the index
  pub hand_out : (s : ℕ) → s < L.sessions → 0 < (K s).placing.hand → is_placed L w.index ((K s).placing.hand - 1) ≡ false
  hand_out s low some = not_true (is_placed L w.index ((K s).placing.hand - 1)) (λ is. let q = placed_says L w.index ((K s).placing.hand - 1) is in (sound.index.hands s low).out some q.0 (let h = q.2 in omega arith))

  pub kept_key : (s k : ℕ) → s < L.sessions → 0 < (K s).placing.hand → (r : ℕ) → is_placed L w.index r ≡ true → put w.keys ((K s).placing.hand - 1) k r ≡ w.keys r
  kept_key s k low some r is = put_else w.keys ((K s).placing.hand - 1) k r (λ e. true≢false (sym is ∙ (ap (is_placed L w.index) e ∙ hand_out s low some)))

  -- what a claim stores
  abbrev pub claim_word : ℕ → ℕ → ℕ
  claim_word s q = cond (eqb (w.index q) 0) (K s).placing.hand (w.index q)

  pub claim_more : (s q : ℕ) → s < L.sessions → (K s).placing.has_key ≡ true → q < size L → (r : ℕ) → is_placed L w.index r ≡ true → is_placed L (put w.index q (claim_word s q)) r ≡ true
  claim_more s q low has inside r is = dite (ℕ_discrete (w.index q) 0)
      (λ free. let some = ((sound.index.hands s low).keyed has).0 in subst (λ (x : ℕ). is_placed L (put w.index q x) r ≡ true) (let e : (K s).placing.hand - 1 + 1 ≡ (K s).placing.hand = omega arith in e ∙ sym (ap (λ (b : Bool). cond b (K s).placing.hand (w.index q)) (eq-eqb (w.index q) 0 free)))
      (placed_more L w.index q ((K s).placing.hand - 1) inside free r is))
      (λ ne. subst (λ (x : ℕ). is_placed L (put w.index q x) r ≡ true) (sym (ap (λ (b : Bool). cond b (K s).placing.hand (w.index q)) (ne_eqb (w.index q) 0 ne))) (subst (λ (f : ℕ → ℕ). is_placed L f r ≡ true) (sym (put_same w.index q)) is))

  -- the position of a claim is one of the index
  pub claim_inside : (s q : ℕ) → Stands L w (K s) (Claim s q) → q < size L
  claim_inside s q stands = subst (λ (x : ℕ). x < size L) (sym stands.2) (position_low L sound.sized (K s).placing.key stands.0)

  pub steady : (e : Event) → session_of e < L.sessions → Enabled L (K (session_of e)) e → Stands L w (K (session_of e)) e → (t : ℕ) → 0 < w.cells t 0 → Same L w (words_after L w (K (session_of e)) e) t
  steady (Look s a) low ok stands = timed w.clock w.turn w.log w.begins w.states (λ _ _ _. refl) (λ _ _. refl) (λ _ _. inl refl)
  steady (Begin s b r) low ok stands = timed w.clock w.turn w.log (put_in w.begins s ((K s).number + 1) (b + 1)) w.states (λ _ _ _. refl)
      (λ x h. put_in_else w.begins s ((K s).number + 1) (b + 1) (x % 16) (x / 16) (λ e f. let q = h.2 in let d : (K (x % 16)).number ≡ (K s).number = ap (λ (j : ℕ). (K j).number) e in omega arith)) (λ _ _. inl refl)
  steady (Take s) low ok stands = timed w.clock (cond (eqb w.turn 0) (s + 1) w.turn) w.log w.begins w.states (λ _ _ _. refl) (λ _ _. refl) (λ _ _. inl refl)
  steady (Log s) low ok stands = timed w.clock w.turn (put w.log (w.clock + 1) (name_of s (K s).number)) w.begins w.states (λ t p q. put_else w.log (w.clock + 1) (name_of s (K s).number) t (λ e. omega arith)) (λ _ _. refl) (λ _ _. inl refl)
  steady (State s) low ok stands = timed w.clock w.turn w.log w.begins (put_in w.states s (K s).number (w.clock + 2)) (λ _ _ _. refl) (λ _ _. refl)
      (λ y _. states_end L w K sound.sized sound.times sound.each sound.versions s (w.clock + 2) y ((sound.each s low).open_state ((sound.each s low).turn_open (omega arith) (omega arith)) (λ e. omega arith)))
  steady (Clock s) low ok stands = timed (w.clock + 1) w.turn w.log w.begins w.states (λ _ _ _. refl) (λ _ _. refl) (λ _ _. inl refl)
  steady (Give s) low ok stands = timed w.clock 0 w.log w.begins w.states (λ _ _ _. refl) (λ _ _. refl) (λ _ _. inl refl)
  steady (Close s) low ok stands = timed w.clock w.turn w.log w.begins (put_in w.states s (K s).number 1) (λ _ _ _. refl) (λ _ _. refl)
      (λ y _. states_end L w K sound.sized sound.times sound.each sound.versions s 1 y ((sound.each s low).open_state ok.0 (λ e. let z = ok.1 in omega arith)))
  steady (DrawRecord s) low ok stands = index_same L w K sound.sized sound.times sound.each sound.versions (w.counter + 1) w.keys w.index (λ _ is. is) (λ _ _. refl)
  steady (StoreKey s k) low ok stands = index_same L w K sound.sized sound.times sound.each sound.versions w.counter (put w.keys ((K s).placing.hand - 1) k) w.index (λ _ is. is) (kept_key s k low ok)
  steady (Claim s q) low ok stands = index_same L w K sound.sized sound.times sound.each sound.versions w.counter w.keys (put w.index q (claim_word s q)) (claim_more s q low ok (claim_inside s q stands)) (λ _ _. refl)
  steady (Latch s r) low ok stands = heads_same L w K sound.sized sound.times sound.each sound.versions (put w.heads r (2 * (w.heads r / 2) + 1))
  steady (DrawTail s range) low ok stands = count_same L w K sound.sized sound.times sound.each sound.versions range
  steady (StoreCell s p x) low ok stands = stored_same L w K sound.sized sound.times sound.each sound.versions s p x low ok.0 ok.1
  steady (Install s) low ok stands = heads_same L w K sound.sized sound.times sound.each sound.versions (put w.heads ((K s).hold.latch - 1) (2 * number_in L ((K s).hold.latch - 1) (K s).hold.tail))
  steady (Release s) low ok stands = heads_same L w K sound.sized sound.times sound.each sound.versions (put w.heads ((K s).hold.latch - 1) (2 * (K s).hold.head))
  steady (Stamp s range n) low ok stands = stamp_same L w K sound.sized sound.times sound.each sound.versions s (range * L.tails + n) low stands.0 stands.1 stands.2
  steady (Post s column q) low ok stands = λ t some. record { stays = some; words = λ _ _. refl; by = refl; key = refl; begin = refl; state = inl refl }

  -- an install is the only step that changes a chain
  abbrev pub IsInstall : Event → Type 0
  IsInstall (Install s) = Unit {0}
  IsInstall e = ⊥

  heads_kept : (e : Event) → session_of e < L.sessions → Enabled L (K (session_of e)) e → Stands L w (K (session_of e)) e → ¬ IsInstall e → (r : ℕ) → r < record_count L → (words_after L w (K (session_of e)) e).heads r / 2 ≡ w.heads r / 2
  heads_kept (Look s a) low ok stands other r h = refl
  heads_kept (Begin s b ro) low ok stands other r h = refl
  heads_kept (Take s) low ok stands other r h = refl
  heads_kept (Log s) low ok stands other r h = refl
  heads_kept (State s) low ok stands other r h = refl
  heads_kept (Clock s) low ok stands other r h = refl
  heads_kept (Give s) low ok stands other r h = refl
  heads_kept (Close s) low ok stands other r h = refl
  heads_kept (DrawRecord s) low ok stands other r h = refl
  heads_kept (StoreKey s k) low ok stands other r h = refl
  heads_kept (Claim s q) low ok stands other r h = refl
  heads_kept (Latch s q) low ok stands other r h = bit_halves L w K sound.sized sound.times sound.each sound.versions q stands r
  heads_kept (DrawTail s range) low ok stands other r h = refl
  heads_kept (StoreCell s p x) low ok stands other r h = refl
  heads_kept (Install s) low ok stands other r h = absurd (other tt)
  heads_kept (Release s) low ok stands other r h = let v : Known = K s in let head = (sound.versions.hands s low).latched ok.0 in let heads' : ℕ → ℕ = put w.heads (v.hold.latch - 1) (2 * v.hold.head) in dite (ℕ_discrete r (v.hold.latch - 1))
      (λ e. let a : heads' r ≡ heads' (v.hold.latch - 1) = ap heads' e in let b : heads' (v.hold.latch - 1) ≡ 2 * v.hold.head = put_here w.heads (v.hold.latch - 1) (2 * v.hold.head) in let d : w.heads r ≡ w.heads (v.hold.latch - 1) = ap w.heads e in omega arith)
      (λ ne. ap (λ (x : ℕ). x / 2) (put_else w.heads (v.hold.latch - 1) (2 * v.hold.head) r ne))
  heads_kept (Stamp s range n) low ok stands other r h = refl
  heads_kept (Post s column q) low ok stands other r h = refl

  module _ (e : Event) (low : session_of e < L.sessions) (ok : Enabled L (K (session_of e)) e) (stands : Stands L w (K (session_of e)) e) where
    abbrev w' : Words
    w' = words_after L w (K (session_of e)) e

    pub lines_stay : ¬ IsInstall e → (r : ℕ) → r < record_count L → line L w' r ≡ line L w r
    lines_stay other r h = (lines_step L w K sound.sized sound.times sound.each sound.versions w' (heads_kept e low ok stands other) (steady e low ok stands) r h).0

    -- a settled version keeps its writer, its content and its status
    pub settled_stays : (t : ℕ) → 0 < w.cells t 0 → 0 < entry w.states (writer_at w t) → (writer_at w' t ≡ writer_at w t) × (record_in L w'.cells t ≡ record_in L w.cells t) × (act_in L w'.cells t ≡ act_in L w.cells t) × (entry w'.states (writer_at w' t) ≡ entry w.states (writer_at w t))
    settled_stays t stored settled = let q = steady e low ok stands t stored in
        (q.by, record_same L w.cells w'.cells t q.words, act_same L w.cells w'.cells t q.words, ap (entry w'.states) q.by ∙ ⊎_elim (λ (f : entry w'.states (writer_at w t) ≡ entry w.states (writer_at w t)). f) (λ (f : entry w.states (writer_at w t) ≡ 0). absurd (omega arith)) q.state)

  -- a chain stays, or has one more tail before it
  pub chains_grow : (e : Event) → session_of e < L.sessions → Enabled L (K (session_of e)) e → Stands L w (K (session_of e)) e → (r : ℕ) → r < record_count L → (line L (words_after L w (K (session_of e)) e) r ≡ line L w r) ⊎ ((t : ℕ) × (line L (words_after L w (K (session_of e)) e) r ≡ t ∷ line L w r))
  chains_grow (Look s a) low ok stands r h = inl refl
  chains_grow (Begin s b ro) low ok stands r h = inl refl
  chains_grow (Take s) low ok stands r h = inl refl
  chains_grow (Log s) low ok stands r h = inl refl
  chains_grow (State s) low ok stands r h = inl refl
  chains_grow (Clock s) low ok stands r h = inl refl
  chains_grow (Give s) low ok stands r h = inl refl
  chains_grow (Close s) low ok stands r h = inl refl
  chains_grow (DrawRecord s) low ok stands r h = inl refl
  chains_grow (StoreKey s k) low ok stands r h = inl refl
  chains_grow (Claim s q) low ok stands r h = inl refl
  chains_grow (Latch s q) low ok stands r h = inl (lines_stay (Latch s q) low ok stands (λ i. i) r h)
  chains_grow (DrawTail s range) low ok stands r h = inl refl
  chains_grow (StoreCell s p x) low ok stands r h = inl (lines_stay (StoreCell s p x) low ok stands (λ i. i) r h)
  chains_grow (Install s) low ok stands r h = dite (ℕ_discrete r ((K s).hold.latch - 1))
      (λ e. inr ((K s).hold.tail, subst (λ (q : ℕ). line L (words_after L w (K s) (Install s)) q ≡ (K s).hold.tail ∷ line L w q) (sym e) (install_chain L w K sound.sized sound.times sound.each sound.versions s low ok stands.0)))
      (λ ne. inl (install_other L w K sound.sized sound.times sound.each sound.versions s low ok stands.0 r h ne).0)
  chains_grow (Release s) low ok stands r h = inl (lines_stay (Release s) low ok stands (λ i. i) r h)
  chains_grow (Stamp s range n) low ok stands r h = inl (lines_stay (Stamp s range n) low ok stands (λ i. i) r h)
  chains_grow (Post s column q) low ok stands r h = inl refl
