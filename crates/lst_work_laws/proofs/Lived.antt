-- From what a line leaves of its session's view to its way through a run.
use Rattle.std.proofs.Common.{◌≡◌, ⊎_elim, inl, inr, ℕ, ◌<◌, List, [], ◌∷◌, ◌++◌, Bool, true, false, cond, length, Option, Some, None, IfSome, Contains, refl, sym, subst, ap, ◌∙◌, arith}
use Rattle.std.specs.Prelude.{IsSomeAnd, slice_index_or}
use Rattle.std.specs.List.{filter}
use Rattle.std.proofs.lemmas.List.{length-append}
use Rattle.std.proofs.lemmas.List.Elements.{Contains-append_left, Contains-append_right, Contains-push}
use Rattle.std.proofs.lemmas.Bool.{cases_Bool, eq-eqb, true≢false}
use Rattle.lst_layout.specs.declared.limits.Limits.{Limits}
use Rattle.lst_layout.specs.Words.{shown}
use Rattle.lst_model.specs.declared.acts.Write.{Write}
use Rattle.lst_model.specs.declared.lines.Line.{Line}
use Rattle.lst_model.specs.declared.lines.Line.TheVariants.{Phase, Merge, Call}
use Rattle.lst_model.specs.declared.lines.Call.{Call as CallKind}
use Rattle.lst_model.specs.declared.lines.Call.TheVariants.{Begin, AsOf, Get, Insert, Update, Delete, Sum, Count, Scan, Find, Commit as CommitCall, Abort}
use Rattle.lst_model.specs.declared.replies.Reply.{Reply}
use Rattle.lst_model.specs.declared.replies.Reply.TheVariants.{Begun, Done, Row, Absent, Committed, Ended, Aborted, Sum as SumReply, Count as CountReply, Rows, Keys, Refused, Merged, NothingNew, NoFrame, Silent}
use Rattle.lst_model.specs.declared.replies.Cause.TheVariants.{Idle, Active, ReadOnly, Spent, Future, Missing, Exists, TableFull, Latched, Newer, Unfinished, TailFull, NotIndexed, Stale}
use Rattle.lst_model.specs.Histories.{Extends}
use Rattle.lst_core_state.specs.declared.known.Known.{Known}
use Rattle.lst_core_state.specs.State.{mine}
use Rattle.lst_core_state.specs.declared.facts.Fact.{Fact}
use Rattle.lst_core_state.specs.declared.facts.Fact.TheVariants.{IndexAt}
use Rattle.lst_core_state.specs.declared.facts.Find.{Find as FindOf}
use Rattle.lst_core_state.specs.declared.facts.Find.TheVariants.{FullRecords}
use Rattle.lst_rule.specs.declared.view.View.{View}
use Rattle.lst_rule.specs.Rule.{knows, hosts}
use Rattle.lst_rule.proofs.Knowing.{is_fact, knows_own}
use Rattle.lst_index.specs.Placings.{FoundFull}
use Rattle.lst_index.proofs.Ending.{ended_absent}
use Rattle.lst_write.specs.Standings.{FoundSince}
use Rattle.lst_session.proofs.Growing.{same_extends}
use Rattle.lst_replies.specs.declared.states.SessionState.{SessionState}
use Rattle.lst_replies.specs.Runs.{Answered, answered, names, speaker_of, write_of, key_of, is_by, takes_no_latch}
use Rattle.lst_replies.specs.Explained.{state_cause, cause_by_state}
use Rattle.lst_session.specs.declared.session.Session.{Session}
use Rattle.lst_session.specs.Parting.{known_by}
use Rattle.lst_work_laws.specs.Phases.{Hears}
use Rattle.lst_work_laws.specs.Lines.{session_told, AfterLine, IsLastLatch, LeavesWrites, LeavesLatched, IsFound}
use Rattle.lst_work_laws.specs.Runs.{Runs}
use Rattle.lst_work_laws.specs.Laws.{answered_all}
use Rattle.lst_work_laws.proofs.Telling.{closed_told, extends_on, same_told}
use Rattle.lst_work_laws.specs.Lives.{Stays, Latches, MayLatch, MayWrite, FindsNoRecord, Finds, Answers, Passes, Lives}
use Rattle.lst_work_laws.proofs.Living.{stays_still}
use Rattle.lst_work_laws.proofs.Leaving.{commits_more}

-- ---- one line

-- a write that was accepted had an open transaction
opened : (limits : Limits) (k : Known) (call : CallKind) (write : Write) → write_of call ≡ Some write → state_cause Done ≡ cause_by_state limits (session_told k) call → k.is_open ≡ true
opened limits k call write e h = ⊎_elim (λ (is_on : k.is_open ≡ true). is_on)
    (λ (off : k.is_open ≡ false). absurd (idle call e (subst (λ (st : SessionState). state_cause Done ≡ cause_by_state limits st call) (closed_told k off) h))) (cases_Bool k.is_open)
  where
    idle : (call : CallKind) → write_of call ≡ Some write → state_cause Done ≡ cause_by_state limits (record { begun = k.number; current = None }) call → ⊥
    idle Begin e h = cc
    idle (AsOf time) e h = cc
    idle (Get key) e h = cc
    idle (Insert key row) e h = cc
    idle (Update key patch) e h = cc
    idle (Delete key) e h = cc
    idle (Sum column) e h = cc
    idle Count e h = cc
    idle Scan e h = cc
    idle (Find column value) e h = cc
    idle CommitCall e h = cc
    idle Abort e h = cc

found_kept : (v w : View) (s : ℕ) (f : FindOf) → FoundSince v w s f → Contains (knows w s).finds f
found_kept v w s f x = subst (λ (fs : List FindOf). Contains fs f) (sym x.grows) (Contains-append_right (knows v s).finds x.more f x.here)

module _ (s : ℕ) (v w : View) (hosted : hosts v s ≡ true) (low : s < v.limits.sessions) where
  full : (key : ℕ) → Extends (knows w s).seen (knows v s).seen → FoundFull v w s key → FindsNoRecord (knows v s) (knows w s) key
  full key grows f =
      let t = f.then in
      let there : hosts t s ≡ true = ap (λ (hs : List Bool). slice_index_or hs s false) f.before.view.hosted ∙ hosted in
      let few : s < t.limits.sessions = subst (λ (l : Limits). s < l.sessions) (sym f.before.view.limits) low in
      let e = f.ended.ended in
      let own : knows t s ≡ e.known s = knows_own t e.words e.known e.merger e.allowed s there (λ is. absurd (omega arith)) in
      let now = f.before.view.now in
      record {
        found = subst (λ (fs : List FindOf). Contains fs FullRecords) (sym (ap (λ (k : Known). k.finds) f.after.view.now)) (Contains-push (knows t s).finds FullRecords);
        unplaced = λ rec has.
            let then_has : Contains (knows t s).facts (IndexAt has.0 rec key) = subst (λ (fs : List Fact). Contains fs (IndexAt has.0 rec key)) (sym (ap (λ (k : Known). k.facts) now)) (Contains-append_left (knows v s).facts f.before.more (IndexAt has.0 rec key) has.1) in
            let is = is_fact t e.words e.known e.merger e.allowed s there (IndexAt has.0 rec key) then_has in let at = is.0 in
            ended_absent t s key there e has.0 (omega arith) (ap (shown t.limits e.words).keys (omega arith) ∙ is.1);
        unseen = f.unseen.commits;
        begun = λ is_on.
            let view = e.allowed.sound.views s few in
            let on_then : (e.known s).is_open ≡ true = ap (λ (k : Known). k.is_open) (sym own ∙ now) ∙ is_on in
            let early = view.begun on_then in
            let same_begin : (e.known s).begin ≡ (knows v s).begin = ap (λ (k : Known). k.begin) (sym own ∙ now) in
            let same_seen : length (e.known s).seen ≡ length (knows v s).seen = ap (λ (k : Known). length k.seen) (sym own ∙ now) in
            let more = ap length grows.1 in omega (arith, length-append (knows v s).seen grows.0);
      }

  finds_of : (key : ℕ) → Extends (knows w s).seen (knows v s).seen → (reply : Reply) → IsFound v w s key reply → Finds s (knows v s) (knows w s) key reply
  finds_of key grows (Begun time) f = tt
  finds_of key grows (Row row) f = tt
  finds_of key grows Absent f = tt
  finds_of key grows (Committed time) f = tt
  finds_of key grows (Ended time) f = tt
  finds_of key grows Aborted f = tt
  finds_of key grows (SumReply total) f = tt
  finds_of key grows (CountReply rows) f = tt
  finds_of key grows (Rows list) f = tt
  finds_of key grows (Keys list) f = tt
  finds_of key grows (Merged tps) f = tt
  finds_of key grows (NothingNew tps) f = tt
  finds_of key grows (NoFrame session) f = tt
  finds_of key grows Silent f = tt
  finds_of key grows Done f = tt
  finds_of key grows (Refused Idle) f = tt
  finds_of key grows (Refused Active) f = tt
  finds_of key grows (Refused ReadOnly) f = tt
  finds_of key grows (Refused Spent) f = tt
  finds_of key grows (Refused (Future clock)) f = tt
  finds_of key grows (Refused Missing) f = tt
  finds_of key grows (Refused Exists) f = tt
  finds_of key grows (Refused TableFull) f = full key grows f
  finds_of key grows (Refused Latched) f = record { rec = f.rec; placed = f.placed; found = found_kept v w s _ f.found }
  finds_of key grows (Refused (Newer time)) f = tt
  finds_of key grows (Refused (Unfinished j n)) f = record { other = f.other; rec = f.latch.rec; tail = f.version.tail; placed = f.latch.placed; found = found_kept v w s _ f.found }
  finds_of key grows (Refused TailFull) f = record { rec = f.judged.latch.rec; placed = f.judged.latch.placed; found = found_kept v w s _ f.found }
  finds_of key grows (Refused NotIndexed) f = tt
  finds_of key grows (Refused (Stale time)) f = tt

  latched_of : (key : Option ℕ) (reply : Reply) → LeavesLatched v w s key reply → MayLatch (knows v s) (knows w s) key reply
  latched_of key reply x = ⊎_elim (λ (e : (knows w s).latched ≡ (knows v s).latched). inl e)
      (λ (y : (takes_no_latch reply ≡ false) × IsSomeAnd key (IsLastLatch v w s)). inr (y.0, last key y.1)) x
    where
      last : (key : Option ℕ) → IsSomeAnd key (IsLastLatch v w s) → IsSomeAnd key (Latches (knows v s) (knows w s))
      last None y = absurd y
      last (Some k) y = record { rec = y.rec; placed = y.placed; latched = y.latched }

  writes_of : (o : Option Write) (reply : Reply) → (reply ≡ Done → (write : Write) → o ≡ Some write → (knows v s).is_open ≡ true) → LeavesWrites v w s o reply → MayWrite (knows v s) (knows w s) o reply
  writes_of None reply on x = x
  writes_of (Some write) Done on x = record { opened = on refl write refl; rec = x.rec; tail = x.tail; placed = x.placed; done = x.done }
  writes_of (Some write) (Begun time) on x = x
  writes_of (Some write) (Row row) on x = x
  writes_of (Some write) Absent on x = x
  writes_of (Some write) (Committed time) on x = x
  writes_of (Some write) (Ended time) on x = x
  writes_of (Some write) Aborted on x = x
  writes_of (Some write) (SumReply total) on x = x
  writes_of (Some write) (CountReply rows) on x = x
  writes_of (Some write) (Rows list) on x = x
  writes_of (Some write) (Keys list) on x = x
  writes_of (Some write) (Merged tps) on x = x
  writes_of (Some write) (NothingNew tps) on x = x
  writes_of (Some write) (NoFrame session) on x = x
  writes_of (Some write) Silent on x = x
  writes_of (Some write) (Refused cause) on x = x

  found_of : (o : Option ℕ) (reply : Reply) → Extends (knows w s).seen (knows v s).seen → IfSome o (λ key. IsFound v w s key reply) → IfSome o (λ key. Finds s (knows v s) (knows w s) key reply)
  found_of None reply grows f = tt
  found_of (Some key) reply grows f = finds_of key grows reply f

  -- what a line leaves of the session's view says what it leaves of its lists and finds
  pub line_answers : (call : CallKind) (reply : Reply) → AfterLine s call reply v w → Answers v.limits s call reply (knows v s) (knows w s)
  line_answers call reply a = record {
    facts = a.called.facts;
    finds = λ f h. subst (λ (fs : List FindOf). Contains fs f) (sym a.called.finds.1) (Contains-append_left (knows v s).finds a.called.finds.0 f h);
    seen = a.called.seen;
    tells = λ floor early. a.tells floor (knows w s).seen early (same_extends (knows w s).seen);
    told = a.told;
    state = a.state;
    mine = commits_more v w s reply a.commits;
    drawn = let d = a.drawn.drew in let e = ap length d.drawn in let few = d.few in omega (arith, length-append (knows v s).placing.drawn d.drew);
    latched = latched_of (key_of (write_of call)) reply a.latched;
    writes = writes_of (write_of call) reply (λ is write e. opened v.limits (knows v s) call write e
        (subst (λ (r : Reply). state_cause r ≡ cause_by_state v.limits (session_told (knows v s)) call) is (a.tells 0 (knows w s).seen (omega arith) (same_extends (knows w s).seen)).refusals.refusal)) a.writes;
    found = found_of (key_of (write_of call)) reply a.called.seen a.found;
  }

-- ---- all of a session's lines

pub runs_live : (limits : Limits) (s : ℕ) (lines : List Line) (replies : List Reply) (v w : View) → v.limits ≡ limits → hosts v s ≡ true → s < limits.sessions → Runs s lines replies v w
    → Lives limits s (answered_all lines replies) (knows v s) (knows w s)
runs_live limits s [] [] v w same hosted low x = subst (λ (u : View). Stays s (knows v s) (knows u s)) (sym x) (stays_still s (knows v s))
runs_live limits s [] (reply ∷ replies) v w same hosted low x = absurd x
runs_live limits s (Phase ∷ lines) replies v w same hosted low x = absurd x
runs_live limits s (Merge range column ∷ lines) replies v w same hosted low x = absurd x
runs_live limits s (Call t call ∷ lines) [] v w same hosted low x = absurd x
runs_live limits s (Call t call ∷ lines) (reply ∷ replies) v w same hosted low x = let u = x.1.0 in let a = x.1.1 in let learns = a.called.learns in (
  knows u s,
  inr (x.0, subst (λ (l : Limits). Answers l s call reply (knows v s) (knows u s)) same (line_answers s v u hosted (subst (λ (l : Limits). s < l.sessions) (sym same) low) call reply a)),
  runs_live limits s lines replies u w (learns.limits ∙ same) (ap (λ (hs : List Bool). slice_index_or hs s false) learns.hosted ∙ hosted) low x.1.2,
)

-- ---- the lines of others between

other_passes : (limits : Limits) (s : ℕ) (line : Line) (reply : Reply) (u : Known) → names s (speaker_of line) ≡ false → Passes limits s line reply u u
other_passes limits s Phase reply u e = stays_still s u
other_passes limits s (Merge range column) reply u e = stays_still s u
other_passes limits s (Call t call) reply u e = inl (λ is. true≢false (sym (eq-eqb t s is) ∙ e), stays_still s u)

pub among_others : (limits : Limits) (s : ℕ) (run : List Answered) (u k : Known) → Lives limits s (filter (is_by s) run) u k → Lives limits s run u k
among_others limits s [] u k x = x
among_others limits s (one ∷ run) u k x = by_test (is_by s one) refl (λ a y. among_others limits s run a k y) x
  where
    by_test : (b : Bool) → is_by s one ≡ b → ((a : Known) → Lives limits s (filter (is_by s) run) a k → Lives limits s run a k) → Lives limits s (cond b (one ∷ filter (is_by s) run) (filter (is_by s) run)) u k → Lives limits s (one ∷ run) u k
    by_test true e rest x = (x.0, x.1, rest x.0 x.2)
    by_test false e rest x = (u, other_passes limits s one.line one.reply u e, rest u x)

-- ---- phases

pub stays_on : (s : ℕ) (u a k : Known) → Stays s u a → Stays s a k → Stays s u k
stays_on s u a k x y = record {
  facts = λ f h. y.facts f (x.facts f h);
  finds = λ f h. y.finds f (x.finds f h);
  seen = extends_on u.seen a.seen k.seen x.seen y.seen;
  state = y.state ∙ x.state;
  mine = y.mine ∙ x.mine;
  drawn = y.drawn ∙ x.drawn;
  latched = y.latched ∙ x.latched;
  done = y.done ∙ x.done;
}

-- what is learnt behind a run
pub lives_stay : (limits : Limits) (s : ℕ) (run : List Answered) (u a k : Known) → Lives limits s run u a → Stays s a k → Lives limits s run u k
lives_stay limits s [] u a k x y = stays_on s u a k x y
lives_stay limits s (one ∷ run) u a k x y = (x.0, x.1, lives_stay limits s run x.0 a k x.2 y)

-- the end of a phase, at which the session hears of the others
pub lives_phase : (limits : Limits) (s : ℕ) (xs ys : List Answered) (reply : Reply) (u a b k : Known) → Lives limits s xs u a → Stays s a b → Lives limits s ys b k → Lives limits s (xs ++ answered Phase reply ∷ ys) u k
lives_phase limits s [] ys reply u a b k x y z = (b, stays_on s u a b x y, z)
lives_phase limits s (one ∷ xs) ys reply u a b k x y z = (x.0, x.1, lives_phase limits s xs ys reply x.0 a b k x.2 y z)

-- to hear of others leaves all but what is seen
pub heard_stays : (s : ℕ) (old new : Session) → old.number ≡ s → Hears old new → Stays s (known_by old) (known_by new)
heard_stays s old new is x = record {
  facts = x.facts;
  finds = λ f h. subst (λ (fs : List FindOf). Contains fs f) (sym x.finds.1) (Contains-append_left (known_by old).finds x.finds.0 f h);
  seen = x.seen;
  state = same_told old.number (known_by old) (known_by new) x.same;
  mine = subst (λ (n : ℕ). mine n (known_by new) ≡ mine n (known_by old)) is x.same.mine;
  drawn = x.lists.drawn;
  latched = x.lists.latched;
  done = x.lists.done;
}
