-- What the sound state in the end says of what was found on the way.
use Rattle.std.proofs.Common.{◌≡◌, ◌≢◌, ⊎_elim, ℕ, zero, suc, ◌+◌, ◌*◌, ◌/◌, ◌%◌, ◌<◌, ◌≤◌, List, [], ◌∷◌, ◌++◌, Bool, true, false, not, ◌&&◌, ◌||◌, ◌==◌, cond, eqb, length, map, take, Option, Some, None, Contains, refl, sym, subst, ap, ◌∙◌, arith}
use Rattle.std.specs.Prelude.{IsTrue}
use Rattle.std.specs.List.{count_by, list_any}
use Rattle.std.proofs.lemmas.List.{length-append, length-map, take-append-le, take_all}
use Rattle.std.proofs.lemmas.List.Folds.{list_any-append}
use Rattle.std.proofs.lemmas.Bool.{ne_eqb, eqb-true, and_parts, and_from, or_from, not_from_false, false_from_ne_true, cases_eq}
use Rattle.lst_layout.specs.declared.limits.Limits.{Limits}
use Rattle.lst_model.specs.declared.acts.Act.{Act}
use Rattle.lst_model.specs.declared.acts.Write.{Write}
use Rattle.lst_model.specs.declared.commits.Commit.{Commit}
use Rattle.lst_model.specs.Histories.{acts_on, all_acts_on}
use Rattle.lst_core_state.specs.Lists.{Has}
use Rattle.lst_core_state.specs.declared.known.Known.{Known}
use Rattle.lst_core_state.specs.declared.known.Done.{Done as DoneWrite}
use Rattle.lst_core_state.specs.declared.facts.Fact.TheVariants.{IndexAt}
use Rattle.lst_core_state.specs.declared.facts.Find.TheVariants.{UnfinishedVersion, LatchedRecord, FullRecords, FullTails}
use Rattle.lst_core_state.specs.Cells.{record_count, range_of}
use Rattle.lst_core_state.specs.State.{Words, Core, name_of, line, writer_at, commit_at, history, history_of}
use Rattle.lst_core_state.specs.Facts.{WroteOf, UnloggedUntil}
use Rattle.lst_core_state.specs.Sound.{Drawn}
use Rattle.lst_core_state.proofs.Histories.{length-history}
use Rattle.lst_index.proofs.Lists.{front_none}
use Rattle.lst_rule.specs.Seen.{HasKey}
use Rattle.lst_replies.specs.declared.states.SessionState.{SessionState}
use Rattle.lst_replies.specs.Runs.{Answered, names, speaker_of, write_of, key_of, is_by, is_accepted, is_accepted_on, may_take_record, may_take_latch}
use Rattle.lst_replies.specs.States.{unbegun}
use Rattle.lst_replies.specs.Explained.{has_write_on, is_numbered, IsInTheWay, IsNewKey}
use Rattle.lst_work_laws.specs.Lines.{session_told}
use Rattle.lst_work_laws.specs.Lives.{FindsHeld, FindsOpen, FindsNoRecord, FindsNoTail, Lives}
use Rattle.lst_work_laws.specs.Explained.{HaveEnded}
use Rattle.lst_work_laws.proofs.Counting.{total_le, many, gathered, gathered_has, gathered_length, Contains-map, by_sessions, any_more}
use Rattle.lst_work_laws.proofs.Living.{Grows, lives_drawn, Took, lives_latched}
use Rattle.lst_work_laws.proofs.Deeds.{lives_done, Wrote, lives_wrote, lives_placed}

-- ---- histories

-- a front of the history is the history at that time
front_is : (b c : ℕ) (log : ℕ → ℕ) (begins : ℕ → ℕ → ℕ) (ws : ℕ → List Write) → b ≤ c → take b (history c log begins ws) ≡ history b log begins ws
unfolding history
front_is b zero log begins ws low = let e : b ≡ 0 = omega arith in subst (λ (n : ℕ). take n (history zero log begins ws) ≡ history n log begins ws) (sym e) refl
front_is b (suc c) log begins ws low = ⊎_elim
    (λ (e : b ≡ suc c). subst (λ (n : ℕ). take n (history (suc c) log begins ws) ≡ history n log begins ws) (sym e)
    (take_all (suc c) (history (suc c) log begins ws) (let h = length-history (suc c) log begins ws in omega arith)))
    (λ (ne : ¬ (b ≡ suc c)). let less : b ≤ c = grind (arith, ne, low) in
    take-append-le b (history c log begins ws) (commit_at log begins ws (suc c) ∷ []) (let h = length-history c log begins ws in omega arith) ∙ front_is b c log begins ws less) (cases_eq b (suc c))

not_numbered : (log : ℕ → ℕ) (begins : ℕ → ℕ → ℕ) (ws : ℕ → List Write) (t j n : ℕ) → log t ≢ name_of j n → is_numbered j n (commit_at log begins ws t) ≡ false
not_numbered log begins ws t j n other = false_from_ne_true (is_numbered j n (commit_at log begins ws t)) (λ e.
    let p = and_parts (eqb (log t % 16) j) (eqb (log t / 16) n) e in let a = eqb-true (log t % 16) j p.0 in let b = eqb-true (log t / 16) n p.1 in other (omega arith))

none_numbered : (c : ℕ) (log : ℕ → ℕ) (begins : ℕ → ℕ → ℕ) (ws : ℕ → List Write) (j n : ℕ) → ((t : ℕ) → 0 < t → t ≤ c → log t ≢ name_of j n)
    → list_any (is_numbered j n) (history c log begins ws) ≡ false
unfolding history
none_numbered zero log begins ws j n out = refl
none_numbered (suc c) log begins ws j n out = list_any-append (is_numbered j n) (history c log begins ws) (commit_at log begins ws (suc c) ∷ [])
    ∙ or_from _ _ (none_numbered c log begins ws j n (λ t some low. out t some (omega arith)))
    (or_from _ false (not_numbered log begins ws (suc c) j n (out (suc c) (omega arith) (omega arith))) refl)

-- ---- keys that no commit wrote

no_write : (key : ℕ) (writes : List Write) → acts_on key writes ≡ [] → list_any (λ (write : Write). write.key == key) writes ≡ false
no_write key [] e = refl
no_write key (write ∷ writes) e = by_test (write.key == key) e (no_write key writes)
  where
    by_test : (b : Bool) → cond b (write.act ∷ acts_on key writes) (acts_on key writes) ≡ [] → (acts_on key writes ≡ [] → list_any (λ (write : Write). write.key == key) writes ≡ false)
        → (b || list_any (λ (write : Write). write.key == key) writes) ≡ false
    by_test true e rest = absurd (let h = ap length e in omega arith)
    by_test false e rest = rest e

back_none : (xs ys : List Act) → xs ++ ys ≡ [] → ys ≡ []
back_none [] ys e = e
back_none (x ∷ xs) ys e = absurd (let h = ap length e in omega arith)

pub no_commit : (key n : ℕ) (commits : List Commit) → all_acts_on key commits ≡ [] → list_any (has_write_on key) (take n commits) ≡ false
no_commit key zero commits e = refl
no_commit key (suc n) [] e = refl
no_commit key (suc n) (one ∷ commits) e = or_from (has_write_on key one) (list_any (has_write_on key) (take n commits))
    (no_write key one.writes (front_none (acts_on key one.writes) (all_acts_on key commits) e)) (no_commit key n commits (back_none (acts_on key one.writes) (all_acts_on key commits) e))

-- ---- lines of another session

another_says : (s j : ℕ) (speaker : Option ℕ) → j ≢ s → names j speaker ≡ true → not (names s speaker) ≡ true
another_says s j None other e = cc
another_says s j (Some t) other e = not_from_false (eqb t s) (ne_eqb t s (λ is. other (sym (eqb-true t j e) ∙ is)))

-- ---- the state in the end

module _ (c : Core) (run : List Answered) (h : HaveEnded c run) where
  abbrev l : Limits
  l = c.limits

  abbrev w : Words
  w = c.words

  -- the key of a record is the same to all
  key_is : (s rec key : ℕ) → s < l.sessions → HasKey (c.known s).facts rec key → w.keys rec ≡ key
  key_is s rec key low has = (h.sound.facts s low (IndexAt has.0 rec key) has.1).1

  keys_agree : (s j rec key other : ℕ) → s < l.sessions → j < l.sessions → HasKey (c.known s).facts rec key → HasKey (c.known j).facts rec other → other ≡ key
  keys_agree s j rec key other low jow a b = sym (key_is j rec other jow b) ∙ key_is s rec key low a

  record_low : (s rec key : ℕ) → s < l.sessions → HasKey (c.known s).facts rec key → rec < 256 * l.ranges
  record_low s rec key low has = let at = (h.sound.facts s low (IndexAt has.0 rec key) has.1).0 in
      let few = (h.sound.index.filled has.0 (omega arith)).few in omega arith

  not_on : {X : Type 0} (xs : List X) (x : X) → xs ≡ [] → ¬ Contains xs x
  not_on {X} xs x e has = let low = has.1 in let none = ap length e in absurd (omega arith)

  -- ---- latches

  took : (j rec : ℕ) → j < l.sessions → Contains (c.known j).latched rec → Took j (c.known j).facts run rec
  took j rec low has = ⊎_elim (λ (old : Contains (h.first j).latched rec). absurd (not_on (h.first j).latched rec (h.fresh j low).latched old))
      (λ (t : Took j (c.known j).facts run rec). t) (lives_latched l j run (h.first j) (c.known j) rec (h.lives j low) has)

  pub held_latch : (s key : ℕ) → s < l.sessions → FindsHeld (c.known s) key → IsTrue (list_any (λ one. not (is_by s one) && may_take_latch key one) run)
  held_latch s key low f =
      let apart = (h.sound.found s low).each (LatchedRecord f.rec) f.found in let j = apart.0 in
      let t = took j f.rec apart.1 apart.3 in
      let same = keys_agree s j f.rec key t.key low apart.1 f.placed t.placed in
      any_more (λ one. is_by j one && may_take_latch key one) (λ one. not (is_by s one) && may_take_latch key one) run
      (λ one e. let p = and_parts (is_by j one) (may_take_latch key one) e in and_from (not (is_by s one)) (may_take_latch key one) (another_says s j (speaker_of one.line) apart.2 p.0) p.1)
      (subst (λ (k : ℕ). list_any (λ one. is_by j one && may_take_latch k one) run ≡ true) same t.took)

  -- ---- open transactions

  wrote : (j : ℕ) (d : DoneWrite) → j < l.sessions → Contains (c.known j).done d → Wrote j (c.known j).facts unbegun run d
  wrote j d low has = ⊎_elim (λ (old : Contains (h.first j).done d). absurd (not_on (h.first j).done d (h.fresh j low).done old))
      (λ (x : Wrote j (c.known j).facts (session_told (h.first j)) run d). subst (λ (st : SessionState). Wrote j (c.known j).facts st run d) (h.fresh j low).state x)
      (lives_wrote l j run (h.first j) (c.known j) d (h.lives j low) has)

  -- no tail is in hand
  installed : (j n rec tail : ℕ) → j < l.sessions → WroteOf (c.known j) n rec tail → Contains (c.known j).done record { number = n; rec = rec; tail = tail }
  installed j n rec tail low x = ⊎_elim (λ (d : Contains (c.known j).done record { number = n; rec = rec; tail = tail }). d)
      (λ (y : ((c.known j).hold.tail ≡ tail) × ((c.known j).hold.is_whole ≡ true) × ((c.known j).hold.latch ≡ rec + 1) × ((c.known j).number ≡ n)).
      let some = (h.sound.versions.hands j low).some y.1 in let none = h.empty j low in absurd (omega arith)) x

  pub open_write : (s : ℕ) (u : Known) (key j n : ℕ) → s < l.sessions → FindsOpen s u (c.known s) key j n → IsInTheWay (history_of l w) run s key u.begin j n
  open_write s u key j n low f =
      let is = (h.sound.found s low).each (UnfinishedVersion (f.rec + 1) f.tail j n (u.begin + 1)) f.found in
      let by : WroteOf (c.known j) n f.rec f.tail = subst (λ (r : ℕ). WroteOf (c.known j) n r f.tail) (omega arith) (is.1 (omega arith)) in
      let x = wrote j (record { number = n; rec = f.rec; tail = f.tail }) is.0 (installed j n f.rec f.tail is.0 by) in
      let same = keys_agree s j f.rec key x.key low is.0 f.placed x.placed in
      let out : UnloggedUntil w.clock w.log u.begin (name_of j n) = subst (λ (b : ℕ). UnloggedUntil w.clock w.log b (name_of j n)) (omega arith) (is.2 (omega arith)) in
      record {
        another = f.other;
        accepted = record {
          before = x.before;
          call = x.call;
          after = x.after;
          place = x.place;
          on_key = subst (λ (k : ℕ). names k (key_of (write_of x.call)) ≡ true) same x.on_key;
          transaction = x.transaction;
        };
        uncommitted = ap (list_any (is_numbered j n)) (front_is u.begin w.clock w.log w.begins _ out.0) ∙ none_numbered u.begin w.log w.begins _ j n out.1;
      }

  -- ---- the full table

  drawn_by : (s : ℕ) → s < l.sessions → length (c.known s).placing.drawn ≤ count_by (λ one. is_by s one && may_take_record one) run
  drawn_by s low = let a = lives_drawn l s run (h.first s) (c.known s) (h.lives s low) in let none = ap length (h.fresh s low).drawn in omega arith

  pub all_drawn : (s : ℕ) → s < l.sessions → Contains (c.known s).finds FullRecords → 256 * l.ranges ≤ count_by may_take_record run
  all_drawn s low f =
      let full : 256 * l.ranges ≤ w.counter = (h.sound.found s low).each FullRecords f in
      let lists : ℕ → List ℕ = λ t. (c.known t).placing.drawn in
      let has = many 0 (256 * l.ranges) (gathered lists l.sessions) (λ i less. let d = h.sound.index.drawns i (omega arith) less in
      subst (λ (r : ℕ). Contains (gathered lists l.sessions) r) (omega arith) (gathered_has lists l.sessions (h.sound.index.drawer i) i d.0 d.1)) in
      let sum = gathered_length lists l.sessions in
      let each = total_le (λ t. length (lists t)) (λ t. count_by (λ one. is_by t one && may_take_record one) run) l.sessions drawn_by in
      let all = by_sessions may_take_record l.sessions run in omega arith

  pub new_key : (s : ℕ) (before : List Answered) (u k : Known) (key : ℕ) → s < l.sessions → Lives l s before (h.first s) u → Grows k (c.known s) → FindsNoRecord u k key → u.is_open ≡ true
      → IsNewKey (history_of l w) before s u.begin key
  new_key s before u k key low x g f is_on = record {
    uncommitted =
        let prefix = (h.sound.views s low).prefix in let e = g.seen in let early = f.begun is_on in
        let first : take u.begin (history_of l w) ≡ take u.begin (c.known s).seen = ap (take u.begin) prefix.1 ∙ take-append-le u.begin (c.known s).seen prefix.0 (let m = ap length e.1 in omega (arith, length-append k.seen e.0)) in
        let second : take u.begin (c.known s).seen ≡ take u.begin k.seen = ap (take u.begin) e.1 ∙ take-append-le u.begin k.seen e.0 early in
        ap (list_any (has_write_on key)) (first ∙ second) ∙ no_commit key u.begin k.seen f.unseen;
    unwritten = false_from_ne_true (list_any (λ one. is_by s one && is_accepted_on key one) before) (λ e. let p = lives_placed l s key before (h.first s) u x e in f.unplaced p.0 p.1);
  }

  -- ---- a full range

  done_by : (s : ℕ) → s < l.sessions → length (c.known s).done ≤ count_by (λ one. is_by s one && is_accepted one) run
  done_by s low = let a = lives_done l s run (h.first s) (c.known s) (h.lives s low) in let none = ap length (h.fresh s low).done in omega arith

  -- a tail that was drawn is that of a write that a session has made
  tail_done : (range g : ℕ) → range < l.ranges → Drawn l w.counts range g → Contains (map (λ (d : DoneWrite). d.tail) (gathered (λ t. (c.known t).done) l.sessions)) g
  tail_done range g low drawn = ⊎_elim
      (λ (x : (r : ℕ) × (r < record_count l) × Has g (line l w r)).
      let stored = h.sound.versions.stored g ((h.sound.versions.lines x.0 x.1).stored g x.2) in
      let d : DoneWrite = record { number = writer_at w g / 16; rec = x.0; tail = g } in
      Contains-map (λ (d : DoneWrite). d.tail) (gathered (λ t. (c.known t).done) l.sessions) d (gathered_has (λ t. (c.known t).done) l.sessions (writer_at w g % 16) d stored.begun.0 (h.sound.listed.every x.0 x.1 g x.2)))
      (λ (x : (s : ℕ) × (s < l.sessions) × ((c.known s).hold.tail ≡ g)). let none = h.empty x.0 x.1 in let is = x.2 in let some = drawn.0 in absurd (omega arith))
      (h.sound.listed.tails range g low drawn)

  -- so as many writes were accepted
  pub tails_written : (range n : ℕ) → range < l.ranges → n ≤ l.tails → n ≤ w.counts range → n ≤ count_by is_accepted run
  tails_written range n in_range few full =
      let lists : ℕ → List DoneWrite = λ t. (c.known t).done in
      let has = many (range * l.tails + 1) n (map (λ (d : DoneWrite). d.tail) (gathered lists l.sessions))
      (λ i less. tail_done range (range * l.tails + 1 + i) in_range (omega arith, omega arith, omega arith)) in
      let same = length-map (gathered lists l.sessions) (λ (d : DoneWrite). d.tail) in
      let sum = gathered_length lists l.sessions in
      let each = total_le (λ t. length (lists t)) (λ t. count_by (λ one. is_by t one && is_accepted one) run) l.sessions done_by in
      let all = by_sessions is_accepted l.sessions run in omega arith

  pub full_range : (s key : ℕ) → s < l.sessions → FindsNoTail (c.known s) key → l.tails ≤ count_by is_accepted run
  full_range s key low f = let few = record_low s f.rec key low f.placed in
      let full : l.tails ≤ w.counts (range_of f.rec) = (h.sound.found s low).each (FullTails (range_of f.rec)) f.found in
      tails_written (range_of f.rec) l.tails (omega arith) (omega arith) full
