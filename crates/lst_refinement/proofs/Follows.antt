-- An open transaction with writes may be committed now: the steps of its commit, each of which keeps a sound state, lead to a history that ends in it.
use Rattle.std.proofs.Common.{◌≡◌, ℕ, ◌-◌, ◌<◌, List, [], ◌++◌, true, cond, length, refl, subst, ap, ◌∙◌, arith, eq-eqb, append-nil}
use mathlib.Core.Logic.{dite}
use native.Mathlib.Decide.{ℕ_discrete}
use Rattle.lst_layout.specs.Addresses.{address}
use Rattle.lst_layout.specs.declared.place.Place.TheVariants.{ClockWord}
use Rattle.lst_layout.proofs.Apart.{below}
use Rattle.lst_layout.proofs.Places.{addresses_are_read}
use Rattle.lst_layout.proofs.Functions.{put_here}
use Rattle.lst_model.specs.declared.commits.Commit.{Commit}
use Rattle.lst_model.specs.Soundness.{Follows}
use Rattle.lst_core_state.specs.Writes.{commit}
use Rattle.lst_core_state.specs.declared.known.Known.{Known}
use Rattle.lst_core_state.specs.declared.known.Hold.{Hold}
use Rattle.lst_core_state.specs.declared.known.Stage.{Stage}
use Rattle.lst_core_state.specs.declared.known.Stage.TheVariants.{Away, Taken, Fresh, Logged, Stated, Done}
use Rattle.lst_core_state.specs.declared.events.Event.{Event}
use Rattle.lst_core_state.specs.declared.events.Event.TheVariants.{Look, Take, Log, State, Clock}
use Rattle.lst_core_state.specs.State.{Core, rank, history_of}
use Rattle.lst_core_state.specs.Step.{session_of, IsWithin, Enabled, Stands, known_after, after_own, look_at, refreshed, took, held_off}
use Rattle.lst_core_state.specs.Sound.{Sound}
use Rattle.lst_core_state.proofs.Decodes.{appended, decodes}
use Rattle.lst_core_state.proofs.Keeps.{keeps_own}
use Rattle.lst_core_state.proofs.Sounds.{history_sound}
use Rattle.lst_refinement.specs.Crews.{IsCrew}
use Rattle.lst_refinement.specs.Laws.{OpenMayFollow}

-- on the way to its commit the session s, which knew v at first, has this stage of its turn; its transaction and the history are as they were
record OnTheWay (H : List Commit) (s : ℕ) (v : Known) (k : ℕ) (d : Core) : Type 0 where
  sound : Sound d
  low : s < d.limits.sessions
  stage : rank (d.known s).turn ≡ k
  number : (d.known s).number ≡ v.number
  begin : (d.known s).begin ≡ v.begin
  own : (d.known s).own ≡ v.own
  history : history_of d.limits d.words ≡ H

-- after a step that leaves the transaction and the history, the session knows u
record Moves (v u : Known) (k : ℕ) : Type 0 where
  stage : rank u.turn ≡ k
  number : u.number ≡ v.number
  begin : u.begin ≡ v.begin
  own : u.own ≡ v.own

goes_on : (H : List Commit) (v : Known) (j k : ℕ) (d : Core) (e : Event) (at : OnTheWay H (session_of e) v j d) → IsWithin d.limits e → (Enabled d.limits (d.known (session_of e)) e) → Stands d.limits d.words (d.known (session_of e)) e → (u : Known)
    → known_after d.limits d.words (d.known (session_of e)) e ≡ u → Moves (d.known (session_of e)) u k → appended d at.sound e ≡ [] → OnTheWay H (session_of e) v k (after_own d e)
goes_on H v j k d e at within ok stands u is moves none = let known : (after_own d e).known (session_of e) ≡ u = put_here d.known (session_of e) (known_after d.limits d.words (d.known (session_of e)) e) ∙ is in record {
  sound = keeps_own d at.sound e at.low within ok stands;
  low = at.low;
  stage = ap (λ (x : Known). rank x.turn) known ∙ moves.stage;
  number = ap (λ (x : Known). x.number) known ∙ (moves.number ∙ at.number);
  begin = ap (λ (x : Known). x.begin) known ∙ (moves.begin ∙ at.begin);
  own = ap (λ (x : Known). x.own) known ∙ (moves.own ∙ at.own);
  history = decodes d at.sound e at.low ok stands ∙ (ap (λ (more : List Commit). history_of d.limits d.words ++ more) none ∙ (append-nil (history_of d.limits d.words) ∙ at.history));
}

fresh : (k : Stage) → rank k ≡ 1 → rank (refreshed k) ≡ 2
fresh Away e = absurd (omega arith)
fresh Taken e = refl
fresh Fresh e = absurd (omega arith)
fresh Logged e = absurd (omega arith)
fresh Stated e = absurd (omega arith)
fresh Done e = absurd (omega arith)

module _ (H : List Commit) (s : ℕ) (v : Known) (d : Core) where
  looked : OnTheWay H s v 1 d → OnTheWay H s v 2 (after_own d (Look s (address d.limits ClockWord)))
  looked at = let low = at.low in let valid = at.sound.sized in
      goes_on H v 1 2 d (Look s (address d.limits ClockWord)) at (omega arith, below d.limits ClockWord tt) tt tt (look_at d.limits d.words (d.known s) ClockWord)
      (ap (look_at d.limits d.words (d.known s)) ((addresses_are_read d.limits valid).back ClockWord tt))
      record { stage = fresh (d.known s).turn at.stage; number = refl; begin = refl; own = refl } refl

  logged : OnTheWay H s v 2 d → OnTheWay H s v 3 (after_own d (Log s))
  logged at = goes_on H v 2 3 d (Log s) at at.low at.stage tt (known_after d.limits d.words (d.known s) (Log s)) refl record { stage = refl; number = refl; begin = refl; own = refl } refl

  stated : OnTheWay H s v 3 d → OnTheWay H s v 4 (after_own d (State s))
  stated at = goes_on H v 3 4 d (State s) at at.low at.stage tt (known_after d.limits d.words (d.known s) (State s)) refl record { stage = refl; number = refl; begin = refl; own = refl } refl

  -- the clock appends the commit to a history that stays sound
  published : OnTheWay H s v 4 d → Follows H (commit s v.number v.begin v.own)
  published at = let front : List Commit = history_of d.limits d.words in let k : Known = d.known s in
      subst (λ (all : List Commit). Follows all (commit s v.number v.begin v.own)) at.history
      (subst (Follows front) (λ i. commit s (at.number i) (at.begin i) (at.own i))
      (history_sound (after_own d (Clock s)) (keeps_own d at.sound (Clock s) at.low at.low at.stage tt) front (commit s k.number k.begin k.own) [] (decodes d at.sound (Clock s) at.low at.stage tt)))

module _ (c : Core) (crew : IsCrew c) where
  -- nobody has the turn to commit
  turn_free : c.words.turn ≡ 0
  turn_free = dite (ℕ_discrete c.words.turn 0) (λ e. e)
      (λ ne. let most = crew.sound.times.low in let t : ℕ = c.words.turn - 1 in let low : t < c.limits.sessions = omega arith in let taken = (crew.sound.each t low).turn_in (omega arith) in let idle = (crew.idle t low).turn in absurd (omega arith))

  open_follows : (s : ℕ) → s < c.limits.sessions → (c.known s).is_open ≡ true → 0 < length (c.known s).own → Follows (history_of c.limits c.words) (commit s (c.known s).number (c.known s).begin (c.known s).own)
  open_follows s low is_on some = let v : Known = c.known s in let H : List Commit = history_of c.limits c.words in let idle = crew.idle s low in
      let at : OnTheWay H s v 0 c = record { sound = crew.sound; low = low; stage = idle.turn; number = refl; begin = refl; own = refl; history = refl } in
      let d1 : Core = after_own c (Take s) in
      let d2 : Core = after_own d1 (Look s (address d1.limits ClockWord)) in
      let d3 : Core = after_own d2 (Log s) in
      let d4 : Core = after_own d3 (State s) in
      published H s v d4 (stated H s v d3 (logged H s v d2 (looked H s v d1
      (goes_on H v 0 1 c (Take s) at low (is_on, idle.turn, ap (λ (h : Hold). h.latch) idle.hold, some) tt (took v) (ap (λ b. cond b (took v) (held_off v)) (eq-eqb c.words.turn 0 turn_free)) record { stage = refl; number = refl; begin = refl; own = refl } refl))))

pub open_may_follow : OpenMayFollow
open_may_follow c crew = open_follows c crew
