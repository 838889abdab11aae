-- A line that the crew answers alone: the journal stands for the same commits.
use Rattle.std.proofs.Common.{◌≡◌, ℕ, ◌+◌, ◌<◌, ◌≤◌, ◌^◌, List, [], length, get_or, set, Option, Some, None, Result, Ok, Err, ◌⊎◌, inl, inr, ⊎_elim, refl, sym, ap, ◌∙◌, subst, arith}
use Rattle.std.specs.List.{remove}
use Rattle.std.specs.Prelude.{IfSome}
use Rattle.std.proofs.lemmas.List.{get_or-set_same, length-set, set-get_or}
use Rattle.lst_layout.specs.declared.limits.Limits.{Limits}
use Rattle.lst_model.specs.declared.acts.Act.{Act}
use Rattle.lst_model.specs.declared.acts.Write.{Write}
use Rattle.lst_model.specs.declared.commits.Commit.{Commit}
use Rattle.lst_model.specs.declared.memory.OutOfMemory.{OutOfMemory}
use Rattle.lst_model.specs.declared.lines.Call.{Call as CallValue}
use Rattle.lst_model.specs.declared.lines.Call.TheVariants as call
use Rattle.lst_model.specs.declared.lines.Line.{Line}
use Rattle.lst_model.specs.declared.lines.Line.TheVariants.{Phase, Merge, Call}
use Rattle.lst_model.specs.declared.replies.Reply.{Reply}
use Rattle.lst_model.specs.declared.replies.Reply.TheVariants as reply
use Rattle.lst_model.specs.Histories.{joined}
use Rattle.lst_model.specs.Lines.{LineFits, CallFits}
use Rattle.lst_machine.specs.State.{State}
use Rattle.lst_redo.proofs.Places.{set_set}
use Rattle.lst_log.specs.Format.{IsWrite, IsOfTable}
use Rattle.lst_replay_laws.specs.Counts.{IsCounted, SameCommits}
use Rattle.lst_replies.specs.Runs.{write_of}
use Rattle.lst_rule.specs.declared.view.View.{View}
use Rattle.lst_scan.specs.Lines.{EachCallLeaves, EachLineLeaves, CallLooks, LineLooks, KeepsState}
use Rattle.lst_session.specs.declared.crew.Crew.{Crew}
use Rattle.lst_session.specs.Crews.{IsCrewOf, TellsState, AnswersLine, store_told, state_told}
use Rattle.lst_session.specs.Lines.{WriteLeaves}
use Rattle.lst_redo.specs.declared.journal.Kept.TheVariants.{Reply as Replied}
use Rattle.lst_redo.specs.declared.journal.Redo.{Redo}
use Rattle.lst_redo.specs.Journals.{view_of, HasCrew}
use Rattle.lst_redo.specs.Owns.{AreOwn, own_after, done_after, lists_after, MakesNone}
use Rattle.lst_redo.specs.Answers.{CommitsWrites, CrewAnswers}
use Rattle.lst_redo.proofs.Lists.{own_kept, own_on, line_looked}
use Rattle.lst_redo.proofs.Owning.{Leaves, call_leaves}
use Rattle.lst_redo.proofs.Telling.{line_history, line_counted, none_committed, not_committed}

pub call_low : (sessions ranges columns : ℕ) (line : Line) → LineFits sessions ranges columns line → (s : ℕ) (c : CallValue) → line ≡ Call s c → s < sessions
call_low sessions ranges columns line fits s c is = (subst (LineFits sessions ranges columns) is fits).0

module _ {D : Type 0} (before : Redo D) (crew : Crew) (line : Line) (of : IsCrewOf before.store crew) (opened : HasCrew before) where
  pub limits_stay : crew.seat.view.limits ≡ (view_of before).limits
  limits_stay = of.seat_of.limits ∙ sym opened.1.crew_of.seat_of.limits

  -- it is answered
  pub crew_answers : (r : Reply) (own : List (List Write)) → LineFits (view_of before).limits.sessions (view_of before).limits.ranges (view_of before).limits.columns line → ¬ CommitsWrites (view_of before) line
      → (TellsState (view_of before) → TellsState crew.seat.view × AnswersLine (view_of before) crew.seat.view line r) → EachLineLeaves (view_of before) crew.seat.view line r
      → (AreOwn (view_of before) before.own → AreOwn crew.seat.view own) → CrewAnswers before (record before { crew = crew; own = own }) line (Ok (Replied r))
  crew_answers r own fits none machine leaves keeps_own = record {
    log = refl;
    failed = refl;
    store = refl;
    crew_of = of;
    reply = (r, refl, (machine opened.1.tells).1);
    none = λ commits. none_committed (view_of before) crew.seat.view line r commits none leaves;
    crew = λ commits journal.
        let told = machine journal.tells in
        let same_history : (store_told crew.seat.view).history ≡ (store_told (view_of before)).history = ap (λ (st : State). st.store.history) told.1.then
        ∙ line_history (view_of before).limits (state_told (view_of before)) line (λ time e. not_committed (view_of before) crew.seat.view line time none (subst (EachLineLeaves (view_of before) crew.seat.view line) (told.1.is ∙ e) leaves)) in record {
          columns = journal.columns;
          few = journal.few;
          crew_of = of;
          tells = told.0;
          same = subst (λ (h : List Commit). SameCommits h commits) (sym same_history) journal.same;
          counted = subst (λ (l : Limits). IsCounted l (store_told crew.seat.view)) (sym told.1.limits)
              (subst (λ (st : State). IsCounted (view_of before).limits st.store) (sym told.1.then) (line_counted (view_of before).limits (state_told (view_of before)) line fits journal.counted));
          own = keeps_own journal.own;
        };
    memory = tt;
    looks = tt;
  }

  -- memory is wanting
  pub crew_wants : (e : OutOfMemory) (own : List (List Write)) → own ≡ before.own → KeepsState (view_of before) crew.seat.view → LineLooks (view_of before) crew.seat.view line
      → CrewAnswers before (record before { crew = crew; own = own }) line (Err e)
  crew_wants e own same keeps looks = record {
    log = refl;
    failed = refl;
    store = refl;
    crew_of = of;
    reply = tt;
    none = tt;
    crew = λ commits journal.
        let told = keeps journal.tells in record {
          columns = journal.columns;
          few = journal.few;
          crew_of = of;
          tells = told.0;
          same = subst (λ (st : State). SameCommits st.store.history commits) (sym told.1) journal.same;
          counted = subst (λ (l : Limits). IsCounted l (store_told crew.seat.view)) (sym limits_stay) (subst (λ (st : State). IsCounted (view_of before).limits st.store) (sym told.1) journal.counted);
          own = subst (AreOwn crew.seat.view) (sym same) (line_looked (view_of before) crew.seat.view before.own limits_stay journal.own line looks);
        };
    memory = keeps;
    looks = looks;
  }

  -- one that makes no write
  pub passes : (r : Reply) (own : List (List Write)) → LineFits (view_of before).limits.sessions (view_of before).limits.ranges (view_of before).limits.columns line → MakesNone line → EachLineLeaves (view_of before) crew.seat.view line r
      → own ≡ lists_after line r before.own → AreOwn (view_of before) before.own → AreOwn crew.seat.view own
  passes r own fits makes leaves is are = subst (AreOwn crew.seat.view) (sym is)
      (own_on (view_of before) crew.seat.view before.own limits_stay are line r (call_low (view_of before).limits.sessions (view_of before).limits.ranges (view_of before).limits.columns line fits) makes leaves)

  -- a write that is done
  pub writes : (s : ℕ) (c : CallValue) (write : Write) (r : Reply) (own : List (List Write)) → s < (view_of before).limits.sessions → write_of c ≡ Some write → EachCallLeaves (view_of before) crew.seat.view s c r
      → IsWrite (view_of before).limits.columns write → length (get_or before.own s []) + 1 < 2 ^ 32 → own ≡ set before.own s (own_after (Some write) r (get_or before.own s [])) → AreOwn (view_of before) before.own → AreOwn crew.seat.view own
  writes s c write r own low made leaves fit few is are =
      own_kept (view_of before) crew.seat.view s (Some write) r before.own own low limits_stay are
      (subst (λ (m : Option Write). Leaves (view_of before) crew.seat.view s m r) made (call_leaves (view_of before) crew.seat.view s c r leaves)) (fit, few) is

-- one that is refused
write_stays : (v w : View) (s key most : ℕ) (act : Act) (made : Option Write) (r : Reply) (ws : List Write) → WriteLeaves v w s key most act r → ¬ (r ≡ reply.Done) → own_after made r ws ≡ ws
write_stays v w s key most act made reply.Done ws x never = absurd (never refl)
write_stays v w s key most act made (reply.Refused why) ws x never = refl
write_stays v w s key most act made r ws x never = absurd x

none_not : (write : Write) → ◌≡◌ {A = Option Write} None (Some write) → ⊥
none_not write e = cc

-- one that isn't made leaves all as it was
pub unmade_looks : (v : View) (line : Line) (s : ℕ) (c : CallValue) (write : Write) → line ≡ Call s c → write_of c ≡ Some write → LineLooks v v line
unmade_looks v line s c write is made = subst (λ (l : Line). LineLooks v v l) (sym is) (at c made)
  where
    at : (c : CallValue) → write_of c ≡ Some write → CallLooks v v s c
    at (call.Insert key row) e = refl
    at (call.Update key patch) e = refl
    at (call.Delete key) e = refl
    at c e = absurd (none_not write e)

pub refused_stays : (v w : View) (s : ℕ) (c : CallValue) (write : Write) (r : Reply) (ws : List Write) → write_of c ≡ Some write → EachCallLeaves v w s c r → ¬ (r ≡ reply.Done) → own_after (Some write) r ws ≡ ws
refused_stays v w s (call.Insert key row) write r ws made x never = write_stays v w s key 1 _ (Some write) r ws x never
refused_stays v w s (call.Update key patch) write r ws made x never = write_stays v w s key 0 _ (Some write) r ws x never
refused_stays v w s (call.Delete key) write r ws made x never = write_stays v w s key 0 _ (Some write) r ws x never
refused_stays v w s c write r ws made x never = absurd (none_not write made)

-- a list that was given one write more, and from which it was taken away again
pub own_back : (own left new : List (List Write)) (s place : ℕ) (all : List Write) → s < length own → left ≡ set own s all → remove all place ≡ get_or own s [] → new ≡ set left s (remove (get_or left s []) place) → new ≡ own
own_back own left new s place all low one back is =
    is ∙ ap (λ (ls : List (List Write)). set ls s (remove (get_or ls s []) place)) one
    ∙ ap (λ (ws : List Write). set (set own s all) s (remove ws place)) (get_or-set_same own s all [] low)
    ∙ set_set own s all (remove all place) ∙ ap (λ (ws : List Write). set own s ws) back ∙ set-get_or own s []

-- ---- calls and their writes

pub of_table : (columns : ℕ) (c : CallValue) (w : Write) → write_of c ≡ Some w → CallFits columns c → IsOfTable columns w.act
of_table columns (call.Insert key row) w e fits = subst (λ (o : Option Write). IfSome o (λ (x : Write). IsOfTable columns x.act)) e fits
of_table columns (call.Update key patch) w e fits = subst (λ (o : Option Write). IfSome o (λ (x : Write). IsOfTable columns x.act)) e fits
of_table columns (call.Delete key) w e fits = subst (λ (o : Option Write). IfSome o (λ (x : Write). IsOfTable columns x.act)) e tt
of_table columns c w e fits = subst (λ (o : Option Write). IfSome o (λ (x : Write). IsOfTable columns x.act)) e tt

pub lists_stay : (s : ℕ) (c : CallValue) (r : Reply) (own : List (List Write)) → ((time : ℕ) → ¬ (r ≡ reply.Begun time)) → lists_after (Call s c) r own ≡ own
lists_stay s c (reply.Begun time) own never = absurd (never time refl)
lists_stay s c r own never = refl

done_or : (r : Reply) → (r ≡ reply.Done) ⊎ (¬ (r ≡ reply.Done))
done_or reply.Done = inl refl
done_or r = inr (λ e. cc)

-- a write that joined the others is one of them once it is done, and was taken away again where it is refused
pub own_settled : (v w : View) (s : ℕ) (c : CallValue) (write : Write) (r : Reply) (own one new : List (List Write)) (place : ℕ) → write_of c ≡ Some write → EachCallLeaves v w s c r → s < length own
    → one ≡ set own s (joined (get_or own s []) write) → remove (joined (get_or own s []) write) place ≡ get_or own s [] → (r ≡ reply.Done → new ≡ one) → (¬ (r ≡ reply.Done) → new ≡ set one s (remove (get_or one s []) place))
    → new ≡ set own s (own_after (Some write) r (get_or own s []))
own_settled v w s c write r own one new place made leaves low is back done refused = ⊎_elim
    (λ e. done e ∙ is ∙ ap (λ (answer : Reply). set own s (own_after (Some write) answer (get_or own s []))) (sym e))
    (λ other. own_back own one new s place (joined (get_or own s []) write) low is back (refused other) ∙ sym (ap (λ (ws : List Write). set own s ws) (refused_stays v w s c write r (get_or own s []) made leaves other) ∙ set-get_or own s []))
    (done_or r)
