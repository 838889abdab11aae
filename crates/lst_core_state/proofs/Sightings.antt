-- The laws for the crates above: chains are the history's writes.
use Rattle.std.proofs.Common.{◌≡◌, ◌≢◌, ℕ, zero, suc, ◌+◌, ◌-◌, ◌*◌, ◌/◌, ◌%◌, ◌<◌, ◌≤◌, List, [], ◌∷◌, ◌++◌, true, not, length, take, refl, sym, subst, ap, ◌∙◌, arith, ⊎_elim, append-nil, eqb, eq-eqb, eqb-true}
use mathlib.Core.Logic.{dite}
use native.Mathlib.Decide.{ℕ_discrete}
use Rattle.std.proofs.lemmas.List.{take-append-le}
use Rattle.std.proofs.Math.Seq.{take-append_seam}
use Rattle.lst_model.specs.Histories.{acts_on, all_acts_on}
use Rattle.lst_core_state.specs.Lists.{is_until}
use Rattle.lst_core_state.specs.Cells.{record_count}
use Rattle.lst_core_state.specs.Index.{is_placed}
use Rattle.lst_core_state.specs.State.{Words, Core, rank, entry, writer_at, name_of, line, is_visible, writes_of, history, history_of, commit_at, FitsAfter, sight, act_in}
use Rattle.lst_core_state.proofs.Writes.{all_acts_on-append}
use Rattle.lst_core_state.proofs.Decoded.{by_line, by_none, find_key, logged_apart, writes_on}
use Rattle.lst_layout.specs.declared.limits.Limits.{Limits}
use Rattle.lst_model.specs.declared.acts.Act.{Act}
use Rattle.lst_model.specs.declared.acts.Write.{Write}
use Rattle.lst_model.specs.declared.commits.Commit.{Commit}
use Rattle.lst_core_state.specs.declared.known.Known.{Known}
use Rattle.lst_core_state.specs.Lists.{Has, acts, Under, Below, Fitted}
use Rattle.lst_core_state.specs.Sound.{Versions, Sound}
use Rattle.lst_core_state.proofs.Histories.{length-history, starts_length}
use Rattle.lst_core_state.proofs.Lists.{acts_none, acts_same, ordered_pairs}
use Rattle.lst_core_state.proofs.Steps.{name_entry}
use Rattle.lst_core_state.proofs.VersionsKept.{early_of}
use Rattle.lst_core_state.proofs.Sights.{same_truth, until_says, until_not, acts_until, acts_sight, acts_live, acts_some, two_of, fitted_line}

-- an earlier history is the front of a later one
pub history_front : (c b : ℕ) (log : ℕ → ℕ) (begins : ℕ → ℕ → ℕ) (ws : ℕ → List Write) → b ≤ c → take b (history c log begins ws) ≡ history b log begins ws
unfolding history
history_front zero b log begins ws low = let e : b ≡ 0 = omega arith in (λ i. take (e i) []) ∙ ap (λ (n : ℕ). history n log begins ws) (sym e)
history_front (suc c) b log begins ws low = dite (ℕ_discrete b (suc c))
    (λ e. (λ i. take (e i) (history (suc c) log begins ws)) ∙ (all (history (suc c) log begins ws) (suc c) (length-history (suc c) log begins ws) ∙ ap (λ (n : ℕ). history n log begins ws) (sym e)))
    (λ ne. take-append-le b (history c log begins ws) (commit_at log begins ws (suc c) ∷ []) (let h = length-history c log begins ws in omega arith) ∙ history_front c b log begins ws (omega arith))
  where
    all : (l : List Commit) (n : ℕ) → length l ≡ n → take n l ≡ l
    all l n e = ap (λ (m : ℕ). take m l) (sym e) ∙ (ap (take (length l)) (sym (append-nil l)) ∙ take-append_seam l [])

module _ (c : Core) (sound : Sound c) where
  abbrev L : Limits
  L = c.limits

  abbrev w : Words
  w = c.words

  abbrev V : Versions L w c.known
  V = sound.versions

  -- a state word of a tail's writer, and what the tail does
  abbrev pub state_at : ℕ → ℕ
  state_at t = entry w.states (writer_at w t)

  abbrev pub act_at : ℕ → Act
  act_at t = act_in L w.cells t

  early : (r : ℕ) → r < record_count L → (y : ℕ) → Has y (line L w r) → 1 < state_at y → entry w.begins (writer_at w y) < state_at y
  early r low y i = early_of L w c.known sound.sized sound.times sound.each V (writer_at w y) (V.stored y ((V.lines r low).stored y i)).begun

  -- among the versions of a chain, those of the transaction that the log names are those of its time
  logged : (u r : ℕ) → r < record_count L → 0 < u → u ≤ w.clock → (t : ℕ) → Has t (line L w r) → eqb (writer_at w t) (w.log u) ≡ eqb (state_at t) (u + 1)
  logged u r low pos high t i = let n = sound.times.named u pos high in let few = sound.sized.sessions.1 in let x : ℕ = writer_at w t in let begun = (V.stored t ((V.lines r low).stored t i)).begun in same_truth (eqb x (w.log u)) (eqb (state_at t) (u + 1))
      (λ e. eq-eqb (state_at t) (u + 1) (ap (entry w.states) (eqb-true x (w.log u) e) ∙ n.state))
      (λ e. eq-eqb x (w.log u) (let f : w.log u ≡ 16 * (x / 16) + x % 16 = sound.times.found (x % 16) (x / 16) u begun.0 pos high (eqb-true (state_at t) (u + 1) e) in omega arith))

  -- one commit's writes of a record
  pub commit_line : (u r : ℕ) → r < record_count L → is_placed L w.index r ≡ true → 0 < u → u ≤ w.clock → acts_on (w.keys r) (writes_of L w (w.log u)) ≡ acts (λ t. eqb (state_at t) (u + 1)) act_at (line L w r)
  commit_line u r low indexed pos high = writes_on L w c.known sound.sized sound.times sound.each sound.versions (w.log u) (w.keys r)
      ∙ (by_line L w c.known sound.sized sound.times sound.each V (w.log u) r low indexed (λ t i. logged_apart L w c.known sound.sized sound.times sound.each V u t pos high i)
      ∙ sym (acts_same (λ t. eqb (writer_at w t) (w.log u)) (λ t. eqb (state_at t) (u + 1)) act_at act_at (line L w r) (λ t i. sym (logged u r low pos high t i)) (λ _ _ _. refl)))

  -- CHAIN = HISTORY: the versions committed by b, old to new, are the history's writes of the record up to b
  pub chain_history : (b r : ℕ) → r < record_count L → is_placed L w.index r ≡ true → b ≤ w.clock → all_acts_on (w.keys r) (history b w.log w.begins (writes_of L w)) ≡ acts (λ t. is_until b (state_at t)) act_at (line L w r)
  unfolding history
  chain_history zero r low indexed high = sym (acts_none (λ t. is_until 0 (state_at t)) act_at (line L w r) (λ t _. until_not 0 (state_at t) (λ h. omega arith)))
  chain_history (suc b) r low indexed high = all_acts_on-append (w.keys r) (history b w.log w.begins (writes_of L w)) (commit_at w.log w.begins (writes_of L w) (suc b) ∷ [])
      ∙ ((λ i. chain_history b r low indexed (omega arith) i ++ append-nil (acts_on (w.keys r) (writes_of L w (w.log (suc b)))) i)
      ∙ ((λ i. acts (λ t. is_until b (state_at t)) act_at (line L w r) ++ commit_line (suc b) r low indexed (omega arith) high i)
      ∙ sym (acts_until (entry w.states) (entry w.begins) (writer_at w) act_at (line L w r) (early r low) (V.lines r low).ordered b)))

  -- all committed versions are the whole history's writes
  pub committed_line : (r : ℕ) → r < record_count L → is_placed L w.index r ≡ true → all_acts_on (w.keys r) (history_of L w) ≡ acts (λ t. is_until w.clock (state_at t)) act_at (line L w r)
  committed_line r low indexed = chain_history w.clock r low indexed (omega arith)

  -- what a key of no record in the index has: no commit wrote it
  pub absent_line : (b k : ℕ) → ((r : ℕ) → r < record_count L → is_placed L w.index r ≡ true → w.keys r ≢ k) → all_acts_on k (history b w.log w.begins (writes_of L w)) ≡ []
  unfolding history
  absent_line zero k none = refl
  absent_line (suc b) k none = all_acts_on-append k (history b w.log w.begins (writes_of L w)) (commit_at w.log w.begins (writes_of L w) (suc b) ∷ []) ∙ (λ i. absent_line b k none i ++ ((writes_on L w c.known sound.sized sound.times sound.each sound.versions (w.log (suc b)) k ∙ by_none L w c.known sound.sized sound.times sound.each V (w.log (suc b)) k none) i ++ []))

  -- an open transaction has no commit time up to the clock
  own_unseen : (s b : ℕ) → s < L.sessions → (c.known s).is_open ≡ true → b ≤ w.clock → (¬ (is_until b (entry w.states (name_of s (c.known s).number)) ≡ true)) × (entry w.states (name_of s (c.known s).number) ≢ 1)
  own_unseen s b low is_on high = let v : Known = c.known s in let few = sound.sized.sessions.1 in let r = sound.each s low in let e : entry w.states (name_of s v.number) ≡ w.states s v.number = name_entry w.states s v.number (omega arith) in dite (ℕ_discrete (rank v.turn) 4)
      (λ f. let q = r.stated f in (λ g. let h = until_says b (entry w.states (name_of s v.number)) g in let k = h.1 in omega arith, λ g. omega arith))
      (λ f. let q = r.open_state is_on f in (λ g. let h = until_says b (entry w.states (name_of s v.number)) g in let k = h.0 in omega arith, λ g. omega arith))

  module _ (s : ℕ) (in_range : s < L.sessions) (is_on : (c.known s).is_open ≡ true) where
    abbrev v : Known
    v = c.known s

    abbrev own : ℕ
    own = name_of s v.number

    pub begin_low : v.begin ≤ w.clock
    begin_low = let y = sound.views s in_range in let a = y.begun is_on in let b = starts_length (history_of L w) v.seen y.prefix in let d = length-history w.clock w.log w.begins (writes_of L w) in omega arith

    -- what the session has seen up to its begin is the history up to then
    pub seen_front : take v.begin v.seen ≡ history v.begin w.log w.begins (writes_of L w)
    seen_front = let y = sound.views s in_range in sym (take-append-le v.begin v.seen y.prefix.0 (y.begun is_on)) ∙ (ap (take v.begin) (sym y.prefix.1) ∙ history_front w.clock v.begin w.log w.begins (writes_of L w) begin_low)

    -- SNAPSHOT CHAIN: the visible versions, old to new, are the writes of what was seen up to the begin, and then the own ones
    pub snapshot_chain : (r : ℕ) → r < record_count L → is_placed L w.index r ≡ true → acts (is_visible w own v.begin) act_at (line L w r) ≡ sight v (w.keys r)
    snapshot_chain r low indexed = let unseen = own_unseen s v.begin in_range is_on begin_low in acts_sight (entry w.states) (entry w.begins) (writer_at w) act_at (line L w r) (early r low) (V.lines r low).ordered v.begin own unseen.0 unseen.1
        ∙ (λ i. sym (ap (all_acts_on (w.keys r)) seen_front ∙ chain_history v.begin r low indexed begin_low) i ++ sym ((sound.owned s in_range).each is_on r low indexed) i)

    -- a key of no record in the index is in no sight
    pub absent_sight : (k : ℕ) → ((r : ℕ) → r < record_count L → is_placed L w.index r ≡ true → w.keys r ≢ k) → sight v k ≡ []
    absent_sight k none = (λ i. (ap (all_acts_on k) seen_front ∙ absent_line v.begin k none) i ++ (sound.owned s in_range).else k none i)

    -- LIVE IS SIGHT: under what was judged, the versions that are not closed are the visible ones
    pub live_is_sight : (r : ℕ) → r < record_count L → is_placed L w.index r ≡ true → Below (entry w.states) (entry w.begins) (writer_at w) own (line L w r) → acts (λ t. not (eqb (state_at t) 1)) act_at (line L w r) ≡ sight v (w.keys r)
    live_is_sight r low indexed judged = let few = sound.sized.sessions.1 in let begin : entry w.begins own ≡ v.begin + 1 = name_entry w.begins s v.number (omega arith) ∙ (sound.each s in_range).open_begin is_on in
        acts_live (entry w.states) (entry w.begins) (writer_at w) act_at (line L w r) v.begin own begin (own_unseen s v.begin in_range is_on begin_low).1 judged ∙ snapshot_chain r low indexed

    -- with a tail in hand the versions were judged
    pub judged_sight : 0 < v.hold.tail → acts (λ t. not (eqb (state_at t) 1)) act_at (line L w (v.hold.latch - 1)) ≡ sight v (w.keys (v.hold.latch - 1))
    judged_sight held = let k = V.hands s in_range in live_is_sight (v.hold.latch - 1) (let h = k.low in let p = k.holds held in omega arith) (k.index (k.holds held)) (k.judged held)

  disjoint_at : (t u r : ℕ) → r < record_count L → is_placed L w.index r ≡ true → 0 < t → t < u → u ≤ w.clock → acts_on (w.keys r) (writes_of L w (w.log t)) ≢ [] → acts_on (w.keys r) (writes_of L w (w.log u)) ≢ [] → t ≤ entry w.begins (w.log u) - 1
  disjoint_at t u r low indexed pos before high some_t some_u = let nt = sound.times.named t pos (omega arith) in let nu = sound.times.named u (omega arith) high in
      let x = acts_some (λ q. eqb (state_at q) (t + 1)) act_at (line L w r) (λ e. some_t (commit_line t r low indexed pos (omega arith) ∙ e)) in
      let y = acts_some (λ q. eqb (state_at q) (u + 1)) act_at (line L w r) (λ e. some_u (commit_line u r low indexed (omega arith) high ∙ e)) in
      let at_t : state_at x.0 ≡ t + 1 = eqb-true (state_at x.0) (t + 1) x.2 in let at_u : state_at y.0 ≡ u + 1 = eqb-true (state_at y.0) (u + 1) y.2 in
      let by_u : writer_at w y.0 ≡ w.log u = eqb-true (writer_at w y.0) (w.log u) (logged u r low (omega arith) high y.0 y.1 ∙ y.2) in
      let by_t : writer_at w x.0 ≡ w.log t = eqb-true (writer_at w x.0) (w.log t) (logged t r low pos (omega arith) x.0 x.1 ∙ x.2) in
      let begin_u : entry w.begins (writer_at w y.0) ≡ entry w.begins (w.log u) = ap (entry w.begins) by_u in let begin_t : entry w.begins (writer_at w x.0) ≡ entry w.begins (w.log t) = ap (entry w.begins) by_t in
      ⊎_elim
      (λ (e : x.0 ≡ y.0). let same : state_at x.0 ≡ state_at y.0 = ap state_at e in absurd (omega arith))
      (λ q. ⊎_elim
      (λ (above : state_at y.0 ≢ 1 → Under (entry w.states) (entry w.begins) (writer_at w) (writer_at w y.0) x.0). ⊎_elim
      (λ (e : writer_at w x.0 ≡ writer_at w y.0). let same : state_at x.0 ≡ state_at y.0 = ap (entry w.states) e in absurd (omega arith))
      (λ (e : (1 < state_at x.0) × (state_at x.0 ≤ entry w.begins (writer_at w y.0))). let h = e.1 in omega arith)
      (above (λ z. omega arith) (λ z. omega arith)))
      (λ (above : state_at x.0 ≢ 1 → Under (entry w.states) (entry w.begins) (writer_at w) (writer_at w x.0) y.0). ⊎_elim
      (λ (e : writer_at w y.0 ≡ writer_at w x.0). let same : state_at y.0 ≡ state_at x.0 = ap (entry w.states) e in absurd (omega arith))
      (λ (e : (1 < state_at y.0) × (state_at y.0 ≤ entry w.begins (writer_at w x.0))). let h = e.1 in let k = nt.early in absurd (omega arith))
      (above (λ z. omega arith) (λ z. omega arith)))
      q)
      (two_of (λ a b. state_at b ≢ 1 → Under (entry w.states) (entry w.begins) (writer_at w) (writer_at w b) a) (line L w r) (ordered_pairs (entry w.states) (entry w.begins) (writer_at w) (line L w r) (V.lines r low).ordered) x.0 y.0 x.1 y.1)

  -- FIRST COMMITTER WINS: of two commits that wrote one record, the later one began when the first was committed
  pub disjoint : (t u k : ℕ) → 0 < t → t < u → u ≤ w.clock → acts_on k (writes_of L w (w.log t)) ≢ [] → acts_on k (writes_of L w (w.log u)) ≢ [] → t ≤ entry w.begins (w.log u) - 1
  disjoint t u k pos before high some_t some_u = ⊎_elim
      (λ (q : (r : ℕ) × (r < record_count L) × (is_placed L w.index r ≡ true) × (w.keys r ≡ k)). disjoint_at t u q.0 q.1 q.2 pos before high (λ e. some_t (ap (λ (z : ℕ). acts_on z (writes_of L w (w.log t))) (sym q.3) ∙ e)) (λ e. some_u (ap (λ (z : ℕ). acts_on z (writes_of L w (w.log u))) (sym q.3) ∙ e)))
      (λ (none : (r : ℕ) → r < record_count L → is_placed L w.index r ≡ true → w.keys r ≢ k). absurd (some_t (writes_on L w c.known sound.sized sound.times sound.each sound.versions (w.log t) k ∙ by_none L w c.known sound.sized sound.times sound.each V (w.log t) k none)))
      (find_key L w c.known sound.sized sound.times sound.each V k (record_count L))

  -- the writes of a commit fit what its transaction saw and its own writes before
  pub commit_fits : (u r : ℕ) → r < record_count L → is_placed L w.index r ≡ true → 0 < u → u ≤ w.clock → Fitted FitsAfter (all_acts_on (w.keys r) (history (entry w.begins (w.log u) - 1) w.log w.begins (writes_of L w))) (acts_on (w.keys r) (writes_of L w (w.log u)))
  commit_fits u r low indexed pos high = let n = sound.times.named u pos high in let b : ℕ = entry w.begins (w.log u) - 1 in let begun = n.begun in let before = n.early in let state = n.state in
      subst (λ (l : List Act). Fitted FitsAfter l (acts_on (w.keys r) (writes_of L w (w.log u)))) (sym (chain_history b r low indexed (omega arith)))
      (subst (λ (l : List Act). Fitted FitsAfter (acts (λ t. is_until b (state_at t)) act_at (line L w r)) l) (sym (writes_on L w c.known sound.sized sound.times sound.each sound.versions (w.log u) (w.keys r) ∙ by_line L w c.known sound.sized sound.times sound.each V (w.log u) r low indexed (λ t i. logged_apart L w c.known sound.sized sound.times sound.each V u t pos high i)))
      (fitted_line FitsAfter (entry w.states) (entry w.begins) (writer_at w) act_at b (w.log u) (omega arith) (λ e. let s = until_says b (entry w.states (w.log u)) e in let h = s.1 in omega arith) (λ e. omega arith) (line L w r) (early r low) (V.lines r low).ordered (V.lines r low).fits))
