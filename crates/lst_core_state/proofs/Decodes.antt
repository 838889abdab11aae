-- Publishing the clock appends one commit to the history, and every other step leaves it.
use Rattle.std.proofs.Common.{◌≡◌, ◌≢◌, ℕ, ◌+◌, ◌-◌, ◌*◌, ◌/◌, ◌%◌, ◌<◌, ◌≤◌, List, [], ◌∷◌, ◌++◌, true, refl, sym, ap, ◌∙◌, arith, inl, inr, append-nil, ◌⊎◌}
use mathlib.Core.Logic.{dite}
use native.Mathlib.Decide.{ℕ_discrete}
use Rattle.lst_layout.specs.declared.limits.Limits.{Limits}
use Rattle.lst_model.specs.declared.commits.Commit.{Commit}
use Rattle.lst_core_state.specs.Writes.{commit}
use Rattle.lst_core_state.specs.declared.known.Known.{Known}
use Rattle.lst_core_state.specs.declared.events.Event.{Event}
use Rattle.lst_core_state.specs.declared.events.Event.TheVariants.{Look, Begin, Take, Log, State, Clock, Give, Close, DrawRecord, StoreKey, Claim, Latch, DrawTail, StoreCell, Install, Release, Stamp, Post}
use Rattle.lst_core_state.specs.State.{Words, Core, entry, writer_at, state_at, name_of, history_of, writes_of}
use Rattle.lst_core_state.specs.Step.{session_of, Enabled, Stands, words_after}
use Rattle.lst_core_state.specs.Sound.{Sound}
use Rattle.lst_core_state.proofs.Functions.{put_else}
use Rattle.lst_core_state.proofs.Histories.{history-next}
use Rattle.lst_core_state.proofs.TimesKept as times
use Rattle.lst_core_state.proofs.Steps.{name_entry}
use Rattle.lst_core_state.proofs.VersionsKept.{no_latch}
use Rattle.lst_core_state.proofs.CellsKept.{put_in_off, put_in_place, start_writer}
use Rattle.lst_core_state.proofs.Decoded.{decoded_same, own_writes}
use Rattle.lst_core_state.proofs.Steady.{steady}

module _ (c : Core) (sound : Sound c) where
  abbrev L : Limits
  L = c.limits

  abbrev w : Words
  w = c.words

  abbrev K : ℕ → Known
  K = c.known

  abbrev H : List Commit
  H = history_of L w

  -- publishing the clock appends exactly the own writes
  pub clock_next : (s : ℕ) → s < L.sessions → Enabled L (K s) (Clock s) → history_of L (words_after L w (K s) (Clock s)) ≡ H ++ commit s (K s).number (K s).begin (K s).own ∷ []
  clock_next s low ok = let v : Known = K s in let own = sound.each s low in let logged = own.logged (omega arith) (omega arith) in let few = sound.sized.sessions.1 in let is_on : v.is_open ≡ true = own.turn_open (omega arith) (omega arith) in
      let session : w.log (w.clock + 1) % 16 ≡ s = omega arith in let number : w.log (w.clock + 1) / 16 ≡ v.number = omega arith in
      let begin : w.begins s v.number - 1 ≡ v.begin = let e = own.open_begin is_on in omega arith in
      let writes = ap (writes_of L w) logged ∙ sym (own_writes L w K sound.sized sound.times sound.each sound.versions s low is_on (no_latch L w K sound.sized sound.times sound.each sound.versions s low (inl (λ e. omega arith))) (sound.owned s low)) in
      history-next w.clock w.log w.begins (writes_of L w) ∙ (λ i. H ++ commit (session i) (number i) (((λ j. w.begins (session j) (number j) - 1) ∙ begin) i) (writes i) ∷ [])

  -- a store of the start word names an open transaction, which no log word up to the clock names
  start_apart : (s p x : ℕ) (low : s < L.sessions) (ok : Enabled L (K s) (StoreCell s p x)) (u t : ℕ) → 0 < u → u ≤ w.clock → w.cells t 0 ≡ 0 → ((words_after L w (K s) (StoreCell s p x)).cells t 0 ≡ 0) ⊎ (writer_at (words_after L w (K s) (StoreCell s p x)) t ≢ w.log u)
  start_apart s p x low ok u t pos high z = let v : Known = K s in let w' : Words = words_after L w v (StoreCell s p x) in let k = sound.versions.hands s low in let few = sound.sized.sessions.1 in dite (ℕ_discrete t v.hold.tail)
      (λ e. dite (ℕ_discrete p 0)
      (λ first. inr (λ f. let latched = k.holds ok.0 in let away = k.away latched in
      let name : name_of s v.number ≡ w.log u = sym (start_writer L w K sound.sized sound.times sound.each sound.versions s p x low ok.0 ok.1 first (ok.2 first).1) ∙ (ap (writer_at w') (sym e) ∙ f) in
      let open_state : entry w.states (name_of s v.number) ≡ 0 = name_entry w.states s v.number (omega arith) ∙ (sound.each s low).open_state (k.opened latched) (λ d. omega arith) in
      let n = (sound.times.named u pos high).state in let same : entry w.states (name_of s v.number) ≡ entry w.states (w.log u) = ap (entry w.states) name in omega arith))
      (λ later. inl (put_in_place w.cells v.hold.tail p x t 0 (λ d. later (sym d)) ∙ z)))
      (λ ne. inl (put_in_off w.cells v.hold.tail p x t 0 ne ∙ z))

  -- what an event appends to the history
  abbrev pub appended : Event → List Commit
  appended (Clock s) = commit s (K s).number (K s).begin (K s).own ∷ []
  appended e = []

  nothing_more : (all : List Commit) → all ≡ all ++ []
  nothing_more all = sym (append-nil all)

  -- a step that changes neither log nor clock, and stores no start word
  same_log : (e : Event) (low : session_of e < L.sessions) (ok : Enabled L (K (session_of e)) e) (stands : Stands L w (K (session_of e)) e) → let w' : Words = words_after L w (K (session_of e)) e in
      w'.clock ≡ w.clock → ((t : ℕ) → 0 < t → t ≤ w.clock → w'.log t ≡ w.log t) → ((t : ℕ) → 0 < t → t ≤ w.clock → entry w'.begins (w.log t) ≡ entry w.begins (w.log t))
      → ((u t : ℕ) → 0 < u → u ≤ w.clock → w.cells t 0 ≡ 0 → (w'.cells t 0 ≡ 0) ⊎ (writer_at w' t ≢ w.log u)) → history_of L w' ≡ H ++ []
  same_log e low ok stands clock logs begs new = decoded_same L w K sound.sized sound.times sound.each sound.versions (words_after L w (K (session_of e)) e) clock logs begs (steady c sound e low ok stands) new ∙ nothing_more H

  pub decodes : (e : Event) → session_of e < L.sessions → Enabled L (K (session_of e)) e → Stands L w (K (session_of e)) e → history_of L (words_after L w (K (session_of e)) e) ≡ H ++ appended e
  decodes (Look s a) low ok stands = nothing_more H
  decodes (Begin s b r) low ok stands = same_log (Begin s b r) low ok stands refl (λ _ _ _. refl) (λ t p q. times.begin_apart L w K sound.times sound.each s b t p q) (λ u t _ _ z. inl z)
  decodes (Take s) low ok stands = nothing_more H
  decodes (Log s) low ok stands = same_log (Log s) low ok stands refl (λ t p q. put_else w.log (w.clock + 1) (name_of s (K s).number) t (λ e. omega arith)) (λ _ _ _. refl) (λ u t _ _ z. inl z)
  decodes (State s) low ok stands = nothing_more H
  decodes (Clock s) low ok stands = clock_next s low ok
  decodes (Give s) low ok stands = nothing_more H
  decodes (Close s) low ok stands = nothing_more H
  decodes (DrawRecord s) low ok stands = nothing_more H
  decodes (StoreKey s k) low ok stands = same_log (StoreKey s k) low ok stands refl (λ _ _ _. refl) (λ _ _ _. refl) (λ u t _ _ z. inl z)
  decodes (Claim s q) low ok stands = nothing_more H
  decodes (Latch s r) low ok stands = nothing_more H
  decodes (DrawTail s range) low ok stands = nothing_more H
  decodes (StoreCell s p x) low ok stands = same_log (StoreCell s p x) low ok stands refl (λ _ _ _. refl) (λ _ _ _. refl) (start_apart s p x low ok)
  decodes (Install s) low ok stands = nothing_more H
  decodes (Release s) low ok stands = nothing_more H
  decodes (Stamp s range n) low ok stands = let x : ℕ = range * L.tails + n in same_log (Stamp s range n) low ok stands refl (λ _ _ _. refl) (λ _ _ _. refl)
      (λ u t p q z. inl (put_in_off w.cells x 0 (2 * (state_at w x - 1)) t 0 (λ e. let some = stands.0 in let same : w.cells t 0 ≡ w.cells x 0 = ap (λ (y : ℕ). w.cells y 0) e in omega arith) ∙ z))
  decodes (Post s column q) low ok stands = nothing_more H
