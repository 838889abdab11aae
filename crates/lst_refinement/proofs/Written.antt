-- A write is accepted.
use Rattle.std.proofs.Common.{◌≡◌, ◌≢◌, ℕ, suc, ◌+◌, ◌*◌, ◌/◌, ◌%◌, ◌<◌, ◌≤◌, true, unwrap_or, [], ◌∷◌, ◌++◌, refl, ap, ◌∙◌, sym, arith, inl, inr, lt-ltb, ltb-true, eq-eqb, eqb-true}
use mathlib.Core.Logic.{dite}
use native.Mathlib.Decide.{ℕ_discrete}
use Rattle.std.specs.Prelude.{Option}
use Rattle.lst_layout.specs.declared.limits.Limits.{Limits}
use Rattle.lst_layout.specs.Functions.{put}
use Rattle.lst_layout.proofs.Functions.{put_here, put_else}
use Rattle.lst_model.specs.declared.acts.Act.{Act}
use Rattle.lst_core_state.specs.Writes.{write}
use Rattle.lst_machine.specs.State.{Accepted}
use Rattle.lst_machine.specs.Writes as machine
use Rattle.lst_machine.specs.Calls.{with_accepted}
use Rattle.lst_core_state.specs.Cells.{record_count, range_of}
use Rattle.lst_core_state.specs.Index.{is_placed}
use Rattle.lst_core_state.specs.State.{Words, Core, entry, name_of, writer, writer_at, history_of}
use Rattle.lst_core_state.proofs.Steps.{Same, record_same, act_same, name_session, name_number, name_entry}
use Rattle.lst_core_state.proofs.Decoded.{decoded_same}
use Rattle.lst_refinement.specs.Crews.{IsCrew}
use Rattle.lst_refinement.specs.Telling.{accepted_at, accepted_first, told_store, told}
use Rattle.lst_refinement.specs.Effects.{IsWritten}
use Rattle.lst_refinement.specs.Laws.{WritesAreTold}
use Rattle.lst_refinement.proofs.Openings.{store_same, below_is, put_is}
use Rattle.lst_refinement.proofs.Stamped.{some_same, accepted_first_same}
use Rattle.lst_refinement.proofs.Others.{other_areas_tell_nothing}
use Rattle.lst_refinement.proofs.DrawnTails.{others_apart, next_blank}
use Rattle.lst_refinement.proofs.PlacedKeys.{key_place}

module _ (c : Core) (crew : IsCrew c) (s rec n : ℕ) (act : Act) (b : Words) (low : s < c.limits.sessions) (is_on : (c.known s).is_open ≡ true) (inside : rec < record_count c.limits) (is : is_placed c.limits c.words.index rec ≡ true) (few : n ≤ c.limits.tails)
    (written : IsWritten c.limits c.words b rec n (name_of s (c.known s).number) act) where
  abbrev L : Limits
  L = c.limits

  abbrev w : Words
  w = c.words

  abbrev after : Words
  after = record w { counts = put w.counts (range_of rec) n; cells = b.cells }

  abbrev number : ℕ
  number = (c.known s).number

  abbrev range : ℕ
  range = range_of rec

  -- the tail that is new
  abbrev tail : ℕ
  tail = range * L.tails + n

  range_low : range < L.ranges
  range_low = omega arith

  session_low : s < 16
  session_low = let h = crew.sound.sized.sessions.1 in omega arith

  writer_is : (t : ℕ) → writer_at after t ≡ writer_at b t
  writer_is t = ap (λ (log : ℕ → ℕ). writer log (b.cells t 0)) (sym written.rest.log)

  -- ---- the other tails

  blank : w.cells tail 0 ≡ 0
  blank = next_blank c crew range n range_low written.next few

  stored_other : (t : ℕ) → 0 < w.cells t 0 → t ≢ tail
  stored_other t some e = let same : w.cells t 0 ≡ w.cells tail 0 = ap (λ (x : ℕ). w.cells x 0) e in let none = blank in omega arith

  still_stored : (t : ℕ) → t ≢ tail → 0 < w.cells t 0 → 0 < b.cells t 0
  still_stored t other some = ltb-true 0 (b.cells t 0) (some_same (w.cells t 0) (b.cells t 0) (written.stored t other) ∙ lt-ltb 0 (w.cells t 0) some)

  still_blank : (t : ℕ) → t ≢ tail → w.cells t 0 ≡ 0 → b.cells t 0 ≡ 0
  still_blank t other none = eqb-true (b.cells t 0) 0 (written.stored t other ∙ eq-eqb (w.cells t 0) 0 none)

  stays : (t : ℕ) → 0 < w.cells t 0 → Same L w after t
  stays t some = let other = stored_other t some in record { stays = still_stored t other some; words = λ p above. written.others t p other above; by = writer_is t ∙ written.writers t other; key = refl; begin = refl; state = inl refl }

  -- ---- the commits

  -- the transaction that writes is in none of them
  unlogged : (u : ℕ) → 0 < u → u ≤ w.clock → name_of s number ≢ w.log u
  unlogged u above high e = let state = (crew.sound.times.named u above high).state in let none = (crew.sound.each s low).open_state is_on (λ four. let idle = (crew.idle s low).turn in omega arith) in
      let same : entry w.states (w.log u) ≡ w.states s number = ap (entry w.states) (sym e) ∙ name_entry w.states s number session_low in omega arith

  history_stays : history_of L after ≡ history_of L w
  history_stays = decoded_same L w c.known crew.sound.sized crew.sound.times crew.sound.each crew.sound.versions after refl (λ _ _ _. refl) (λ _ _ _. refl) stays
      (λ u t above high none. dite (ℕ_discrete t tail)
      (λ e. inr (λ f. unlogged u above high (sym (ap (writer_at after) e ∙ (writer_is tail ∙ written.by)) ∙ f)))
      (λ other. inl (still_blank t other none)))

  -- ---- the accepted writes

  accepted_other : (t : ℕ) → t ≢ tail → accepted_at L after t ≡ accepted_at L w t
  accepted_other t other = let same : (p : ℕ) → 0 < p → b.cells t p ≡ w.cells t p = λ p above. written.others t p other above in λ i. record {
    session = (writer_is t ∙ written.writers t other) i % 16;
    number = (writer_is t ∙ written.writers t other) i / 16;
    write = write (w.keys (record_same L w.cells b.cells t same i)) (act_same L w.cells b.cells t same i);
  }

  -- the write that is new
  abbrev made : Accepted
  made = record { session = s; number = (told c).begins s; write = write (w.keys rec) act }

  number_is : (told c).begins s ≡ number
  number_is = below_is L.sessions s number 0 low

  accepted_new : accepted_at L after tail ≡ made
  accepted_new = λ i. record {
    session = (ap (λ (x : ℕ). x % 16) (writer_is tail ∙ written.by) ∙ name_session s number session_low) i;
    number = (ap (λ (x : ℕ). x / 16) (writer_is tail ∙ written.by) ∙ (name_number s number session_low ∙ sym number_is)) i;
    write = write (w.keys (written.on i)) (written.made i);
  }

  before_stay : accepted_first L after range (w.counts range) ≡ (told c).accepted range
  before_stay = accepted_first_same L w after range (w.counts range) (λ k h. let next = written.next in accepted_other (range * L.tails + suc k) (λ e. omega arith))

  next_is : n ≡ suc (w.counts range)
  next_is = let next = written.next in omega arith

  accepted_here : (told_store L after c.known).accepted range ≡ (told c).accepted range ++ made ∷ []
  accepted_here = ap (accepted_first L after range) (put_here w.counts range n ∙ next_is)
      ∙ (λ i. before_stay i ++ (ap (λ (x : ℕ). accepted_at L after (range * L.tails + x)) (sym next_is) ∙ accepted_new) i ∷ [])

  accepted_else : (other : ℕ) → other ≢ range → (told_store L after c.known).accepted other ≡ (told c).accepted other
  accepted_else other ne = ap (accepted_first L after other) (put_else w.counts range n other ne)
      ∙ accepted_first_same L w after other (w.counts other) (λ k h. accepted_other (other * L.tails + suc k) (others_apart c crew range other n k range_low ne (let next = written.next in omega arith) few h))

  range_is : machine.range_of (told c).placed (w.keys rec) ≡ range
  range_is = ap (λ (place : Option ℕ). unwrap_or place 0 / 256) (key_place c crew rec inside is)

  accepted_next : (r : ℕ) → (told_store L after c.known).accepted r ≡ (with_accepted (told c) s (w.keys rec) act).accepted r
  accepted_next r = put_is (told c).accepted (told_store L after c.known).accepted range ((told c).accepted range ++ made ∷ []) accepted_here accepted_else r
      ∙ ap (λ (x : ℕ). machine.put (told c).accepted x ((told c).accepted x ++ made ∷ []) r) (sym range_is)

  written_store : told_store L after c.known ≡ with_accepted (told c) s (w.keys rec) act
  written_store = store_same (told_store L after c.known) (with_accepted (told c) s (w.keys rec) act) history_stays refl accepted_next (λ _. refl) (λ _. refl) (λ _ _. refl)

pub writes_are_told : WritesAreTold
writes_are_told c crew s rec n act b low is_on inside is few written = other_areas_tell_nothing c.limits (record c.words { counts = put c.words.counts (range_of rec) n; cells = b.cells }) b c.known written.rest
    ∙ written_store c crew s rec n act b low is_on inside is few written
