-- A transaction is closed, or committed.
use Rattle.std.proofs.Common.{◌≡◌, ℕ, ◌+◌, ◌-◌, ◌/◌, ◌%◌, ◌<◌, Bool, true, cond, eqb, List, [], ◌∷◌, ◌++◌, length, refl, ap, ◌∙◌, sym, arith, eq-eqb, ne_eqb}
use mathlib.Core.Logic.{dite}
use native.Mathlib.Decide.{ℕ_discrete}
use Rattle.std.specs.Prelude.{Some, None}
use Rattle.lst_layout.specs.Functions.{put_in}
use Rattle.lst_layout.proofs.Functions.{put_here, put_else, put_in_row, put_in_else}
use Rattle.lst_model.specs.declared.acts.Write.{Write}
use Rattle.lst_model.specs.declared.commits.Commit.{Commit}
use Rattle.lst_machine.specs.Writes as machine
use Rattle.lst_machine.specs.Calls.{with_closed, with_commit}
use Rattle.lst_core_state.specs.declared.known.Known.{Known}
use Rattle.lst_core_state.specs.declared.known.Hold.{Hold}
use Rattle.lst_core_state.specs.State.{Words, Core, name_of, writer_at, writes_of, commit_at, history, history_of}
use Rattle.lst_core_state.proofs.Histories.{history_same, history-next}
use Rattle.lst_core_state.proofs.Steps.{writer_log, name_session, name_number}
use Rattle.lst_core_state.proofs.Decoded.{own_writes}
use Rattle.lst_refinement.specs.Crews.{IsCrew}
use Rattle.lst_refinement.specs.Telling.{opened_of, told_store, told}
use Rattle.lst_refinement.specs.Effects.{SameBut, HasEnded, closed_words, committed_words}
use Rattle.lst_refinement.specs.Laws.{ClosesAreTold, CommitsAreTold}
use Rattle.lst_refinement.proofs.Openings.{store_same, below_same, below_is, put_is, put_in_is, opened_same}
use Rattle.lst_refinement.proofs.Stamped.{writes_of_writers, accepted_writers}

module _ (c : Core) (crew : IsCrew c) (s : ℕ) (k : ℕ → Known) (low : s < c.limits.sessions) (is_on : (c.known s).is_open ≡ true) (others : SameBut c.limits.sessions s c.known k) (ended : HasEnded (c.known s) (k s)) where
  abbrev w : Words
  w = c.words

  abbrev v : Known
  v = c.known s

  few : s < 16
  few = let h = crew.sound.sized.sessions.1 in omega arith

  -- the number of the transaction that ends
  number_is : (told c).begins s ≡ v.number
  number_is = below_is c.limits.sessions s v.number 0 low

  begins_stay : (b : Words) (t : ℕ) → (told_store c.limits b k).begins t ≡ (told c).begins t
  begins_stay b t = below_same c.limits.sessions t (k t).number (c.known t).number 0 (λ h. dite (ℕ_discrete t s)
      (λ e. ap (λ (j : ℕ). (k j).number) e ∙ (ended.number ∙ ap (λ (j : ℕ). (c.known j).number) (sym e)))
      (λ ne. (others t h ne).number))

  opened_next : (b : Words) (t : ℕ) → (told_store c.limits b k).opened t ≡ (with_closed (told c) s).opened t
  opened_next b = put_is (told c).opened (told_store c.limits b k).opened s None
      (below_is c.limits.sessions s (opened_of (k s)) None low ∙ ap (λ (is : Bool). cond is (Some (record { begin = (k s).begin; read_only = (k s).read_only })) None) ended.is_open)
      (λ t ne. below_same c.limits.sessions t (opened_of (k t)) (opened_of (c.known t)) None (λ h. opened_same (c.known t) (k t) (others t h ne)))

  -- ---- closed

  closed_next : (j n : ℕ) → (told_store c.limits (closed_words w s v.number) k).closed j n ≡ (with_closed (told c) s).closed j n
  closed_next j n = put_in_is (told c).closed (told_store c.limits (closed_words w s v.number) k).closed s v.number true
      (eq-eqb (put_in w.states s v.number 1 s v.number) 1 (ap (λ (f : ℕ → ℕ). f v.number) (put_in_row w.states s v.number 1) ∙ put_here (w.states s) v.number 1))
      (λ a b apart. ap (λ (x : ℕ). eqb x 1) (put_in_else w.states s v.number 1 a b apart)) j n
      ∙ ap (λ (number : ℕ). machine.put_in (told c).closed s number true j n) (sym number_is)

  closed_store : told_store c.limits (closed_words w s v.number) k ≡ with_closed (told c) s
  closed_store = store_same (told_store c.limits (closed_words w s v.number) k) (with_closed (told c) s) refl refl (λ _. refl) (begins_stay (closed_words w s v.number)) (opened_next (closed_words w s v.number)) closed_next

  -- ---- committed

  abbrev after : Words
  after = committed_words w s v.number

  -- the time above the clock is that of no stamp
  writers_stay : (t : ℕ) → writer_at after t ≡ writer_at w t
  writers_stay t = writer_log w.log after.log (w.cells t 0) (λ even. put_else w.log (w.clock + 1) (name_of s v.number) (w.cells t 0 / 2) (λ e. dite (ℕ_discrete (w.cells t 0) 0)
      (λ z. omega arith)
      (λ nz. let h = ((crew.sound.versions.stored t (omega arith)).stamped even).1 in omega arith)))

  writes_stay : (x : ℕ) → writes_of c.limits after x ≡ writes_of c.limits w x
  writes_stay = writes_of_writers c.limits w after (λ _. refl) (λ _ _ _. refl) (λ _. refl) writers_stay

  logged : after.log (w.clock + 1) ≡ name_of s v.number
  logged = put_here w.log (w.clock + 1) (name_of s v.number)

  own_is : v.own ≡ writes_of c.limits w (name_of s v.number)
  own_is = own_writes c.limits w c.known crew.sound.sized crew.sound.times crew.sound.each crew.sound.versions s low is_on (ap (λ (h : Hold). h.latch) (crew.idle s low).hold) (crew.sound.owned s low)

  begin_is : w.begins s v.number - 1 ≡ v.begin
  begin_is = let e = (crew.sound.each s low).open_begin is_on in omega arith

  -- the commit that is new
  abbrev made : List Write → Commit
  made writes = record { session = s; number = (told c).begins s; begin = v.begin; writes = writes }

  commit_is : commit_at after.log after.begins (writes_of c.limits after) (w.clock + 1) ≡ made v.own
  commit_is = ap (λ (x : ℕ). record { session = x % 16; number = x / 16; begin = w.begins (x % 16) (x / 16) - 1; writes = writes_of c.limits after x }) logged
      ∙ (λ i. record {
        session = name_session s v.number few i;
        number = (name_number s v.number few ∙ sym number_is) i;
        begin = ((λ j. w.begins (name_session s v.number few j) (name_number s v.number few j) - 1) ∙ begin_is) i;
        writes = (writes_stay (name_of s v.number) ∙ sym own_is) i;
      })

  earlier_stay : history w.clock after.log after.begins (writes_of c.limits after) ≡ history_of c.limits w
  earlier_stay = history_same w.clock w.log after.log w.begins w.begins (writes_of c.limits w) (writes_of c.limits after)
      (λ t above high. ap (λ (x : ℕ). record { session = x % 16; number = x / 16; begin = w.begins (x % 16) (x / 16) - 1; writes = writes_of c.limits after x }) (put_else w.log (w.clock + 1) (name_of s v.number) t (λ e. omega arith))
      ∙ (λ i. record { session = w.log t % 16; number = w.log t / 16; begin = w.begins (w.log t % 16) (w.log t / 16) - 1; writes = writes_stay (w.log t) i }))

  history_next : history_of c.limits after ≡ history_of c.limits w ++ made v.own ∷ []
  history_next = history-next w.clock after.log after.begins (writes_of c.limits after) ∙ (λ i. earlier_stay i ++ commit_is i ∷ [])

  -- a commit time is no sign of a closed transaction
  closed_stay : (j n : ℕ) → (told_store c.limits after k).closed j n ≡ (told c).closed j n
  closed_stay j n = dite (ℕ_discrete j s)
      (λ e. dite (ℕ_discrete n v.number)
      (λ f. ap (λ (x : ℕ). eqb (after.states x n) 1) e ∙ (ap (λ (x : ℕ). eqb (after.states s x) 1) f
      ∙ (ne_eqb (after.states s v.number) 1 (λ one. let two : after.states s v.number ≡ w.clock + 2 = ap (λ (g : ℕ → ℕ). g v.number) (put_in_row w.states s v.number (w.clock + 2)) ∙ put_here (w.states s) v.number (w.clock + 2) in omega arith)
      ∙ sym (ap (λ (x : ℕ). eqb (w.states x n) 1) e ∙ (ap (λ (x : ℕ). eqb (w.states s x) 1) f ∙ ne_eqb (w.states s v.number) 1 (λ one. let none = (crew.sound.each s low).open_state is_on (λ four. let idle = (crew.idle s low).turn in omega arith) in omega arith))))))
      (λ ne. ap (λ (x : ℕ). eqb x 1) (put_in_else w.states s v.number (w.clock + 2) j n (λ _. ne))))
      (λ ne. ap (λ (x : ℕ). eqb x 1) (put_in_else w.states s v.number (w.clock + 2) j n (λ e. absurd (ne e))))

  committed_store : (writes : List Write) → v.own ≡ writes → 0 < length writes → told_store c.limits after k ≡ with_commit (told c) s record { begin = v.begin; read_only = v.read_only } writes
  committed_store [] own some = absurd (omega arith)
  committed_store (write ∷ writes) own some = store_same (told_store c.limits after k) (with_commit (told c) s record { begin = v.begin; read_only = v.read_only } (write ∷ writes))
      (history_next ∙ ap (λ (all : List Write). history_of c.limits w ++ made all ∷ []) own) refl
      (λ r. accepted_writers c.limits w after (λ _. refl) (λ _ _ _. refl) (λ _. refl) writers_stay r (w.counts r))
      (begins_stay after) (opened_next after) closed_stay

pub closes_are_told : ClosesAreTold
closes_are_told c crew s k low is_on others ended = closed_store c crew s k low is_on others ended

pub commits_are_told : CommitsAreTold
commits_are_told c crew s k low is_on some others ended = committed_store c crew s k low is_on others ended (c.known s).own refl some
