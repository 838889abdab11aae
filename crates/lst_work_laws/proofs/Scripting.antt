-- A whole script: from the front of one phase to the front of the next.
use Rattle.std.proofs.Common.{◌≡◌, ⊎_elim, ℕ, ◌<◌, ◌≤◌, max, List, [], ◌∷◌, ◌++◌, length, get_or, true, Option, refl, sym, subst, ap, ◌∙◌, arith, append_assoc}
use Rattle.std.specs.List.{filter, AllByRecursion}
use Rattle.std.proofs.lemmas.List.Elements.{filter-append}
use Rattle.lst_layout.specs.declared.limits.Limits.{Limits}
use Rattle.lst_model.specs.declared.commits.Commit.{Commit}
use Rattle.lst_model.specs.declared.lines.Line.{Line}
use Rattle.lst_model.specs.declared.lines.Line.TheVariants.{Phase, Merge, Call}
use Rattle.lst_model.specs.declared.lines.Call.{Call as CallKind}
use Rattle.lst_model.specs.declared.replies.Reply.{Reply}
use Rattle.lst_model.specs.declared.replies.Reply.TheVariants.{Merged, NothingNew, NoFrame, Silent}
use Rattle.lst_model.specs.Histories.{Extends}
use Rattle.lst_core_state.specs.declared.known.Known.{Known}
use Rattle.lst_rule.specs.declared.store.Store.{Store}
use Rattle.lst_rule.specs.declared.view.View.{View}
use Rattle.lst_rule.specs.Rule.{knows, hosts}
use Rattle.lst_replies.specs.declared.states.SessionState.{SessionState}
use Rattle.lst_replies.specs.Runs.{Answered, answered, run_of, is_by, commit_times}
use Rattle.lst_replies.specs.States.{state_from, greatest, times_told, ended_phases, floor_of}
use Rattle.lst_replies.specs.ReplyKinds.{HaveReplyShape}
use Rattle.lst_session.specs.declared.session.Session.{Session}
use Rattle.lst_session.specs.Parting.{known_by}
use Rattle.lst_work_laws.specs.Lines.{session_told}
use Rattle.lst_work_laws.specs.Runs.{lines_of}
use Rattle.lst_work_laws.specs.Runs.{CanRun}
use Rattle.lst_work_laws.specs.Merges.{merges_of, Merging}
use Rattle.lst_work_laws.specs.Orders.{replies_from}
use Rattle.lst_work_laws.specs.Whole.{AreAll, IsPhase}
use Rattle.lst_work_laws.specs.Phases.{HaveHeard, RunThrough, script_of}
use Rattle.lst_work_laws.specs.Laws.{answered_all, TellsLine, phase_run, own_run, Leaves}
use Rattle.lst_work_laws.specs.Lives.{Lives}
use Rattle.lst_work_laws.specs.Works.{MergesIn}
use Rattle.lst_work_laws.proofs.Telling.{extends_on, later_length, same_told}
use Rattle.lst_work_laws.proofs.Closing.{runs_seen, tells_as}
use Rattle.lst_work_laws.proofs.Leaving.{runs_leave, hears_leave, leaves_on}
use Rattle.lst_work_laws.proofs.Lived.{runs_live, among_others, lives_phase, heard_stays}
use Rattle.lst_work_laws.proofs.Floors.{floors_are_heard}
use Rattle.lst_work_laws.proofs.Merges.{merging_answers}
use Rattle.lst_work_laws.proofs.Mergers.{merges_among, merges_phase}
use Rattle.lst_work_laws.proofs.Weaving.{own_times, own_state, own_part, woven_is_told}
use Rattle.lst_work_laws.proofs.Lists.{element}
use Rattle.lst_serial_laws.proofs.Numbers.{split_middle, state_on}
use Rattle.lst_work_laws.proofs.Fronts.{times_on, commits_on, ended_on, ended_low, CommitsLow, low_each, low_all, unended_before, run_last, run_then}
use Rattle.lst_work_laws.proofs.Mixing.{Answers, AnswersMerge, mixed, runs_kinds, shape_last, shape_then}

-- At the front of a phase a session's state is the one that the run so far leaves of the state that it came in; it has seen every time that was
-- told to it, and the time of every commit that was told to anybody.
pub record IsFront (state : SessionState) (s : ℕ) (front : List Answered) (session : Session) : Type 0 where
  pub state_is : session_told (known_by session) ≡ state_from state s front
  pub told : greatest (times_told s front) ≤ length (known_by session).seen
  pub committed : greatest (commit_times front) ≤ length (known_by session).seen

pub front_first : (s : ℕ) (session : Session) → IsFront (session_told (known_by session)) s [] session
front_first s session = record { state_is = refl; told = omega arith; committed = omega arith }

-- the rules hold at each line of the session in a run that comes behind this front
abbrev pub ToldBehind : Limits → List Commit → SessionState → ℕ → List Answered → List Answered → Type 0
ToldBehind l history state s front run = (before : List Answered) (call : CallKind) (reply : Reply) (after : List Answered) → run ≡ before ++ answered (Call s call) reply ∷ after
    → TellsLine l history (floor_of s (front ++ before)) s (state_from state s (front ++ before)) call reply

merge_low : (b range column : ℕ) (reply : Reply) → AnswersMerge reply → CommitsLow b (answered (Merge range column) reply)
merge_low b range column (Merged tps) e = tt
merge_low b range column (NothingNew tps) e = tt
merge_low b range column (NoFrame session) e = tt
merge_low b range column reply e = absurd (cc)

-- ---- one phase

module _ (store : Store) (lines : List Line) (old ran : List Session) (m n : View) (replies : List (Option ℕ × Reply)) (before : AreAll store old) (after : AreAll store ran)
    (can : AllByRecursion (CanRun store.layout.limits) lines) (phase : IsPhase lines old ran m n replies) where
  count_ran : length ran ≡ length old
  count_ran = after.count ∙ sym before.count

  known_old : (s : ℕ) (d : Session) → s < length old → known_by (get_or old s d) ≡ knows (get_or old s d).seat.view s
  known_old s d low = ap (knows (get_or old s d).seat.view) (before.number s d low)

  known_ran : (s : ℕ) (d : Session) → s < length old → known_by (get_or ran s d) ≡ knows (get_or ran s d).seat.view s
  known_ran s d low = ap (knows (get_or ran s d).seat.view) (after.number s d (subst (λ (k : ℕ). s < k) (sym count_ran) low))

  pub phase_seen : (s : ℕ) (d : Session) → s < length old → Extends (known_by (get_or ran s d)).seen (known_by (get_or old s d)).seen
  phase_seen s d low =
      subst (λ (k : Known). Extends k.seen (known_by (get_or old s d)).seen) (sym (known_ran s d low)) (subst (λ (k : Known). Extends (knows (get_or ran s d).seat.view s).seen k.seen) (sym (known_old s d low))
      (runs_seen s (lines_of s lines) (replies_from (length old) s replies) (get_or old s d).seat.view (get_or ran s d).seat.view (phase.runs s d low)))

  -- the replies to merges answer merges
  of_merges : AllByRecursion AnswersMerge (replies_from store.layout.limits.sessions store.layout.limits.sessions replies)
  of_merges = subst (λ (k : ℕ). AllByRecursion AnswersMerge (replies_from k k replies)) before.count (merging_answers (merges_of lines) (replies_from (length old) (length old) replies) m n phase.merging)

  pub phase_merges : MergesIn (phase_run lines replies) m n
  phase_merges = merges_among store.layout.limits lines replies m n can phase.speakers (subst (λ (k : ℕ). Merging (merges_of lines) (replies_from k k replies) m n) before.count phase.merging)

  pub phase_kinds : AllByRecursion Answers (phase_run lines replies)
  phase_kinds = mixed store.layout.limits Answers (λ range column reply e. e) lines replies can phase.speakers of_merges
      (λ s low. let inside : s < length old = subst (λ (k : ℕ). s < k) (sym before.count) low in let d = element old s inside in
      subst (AllByRecursion Answers) (sym (own_part (length old) s lines replies inside phase.speakers)) (runs_kinds s (lines_of s lines) (replies_from (length old) s replies) (get_or old s d).seat.view (get_or ran s d).seat.view (phase.runs s d inside)))

  pub phase_leaves : (s : ℕ) (d : Session) → s < length old → Leaves s (filter (is_by s) (phase_run lines replies)) (known_by (get_or old s d)) (known_by (get_or ran s d))
  phase_leaves s d low =
      subst (λ (k : Known). Leaves s (filter (is_by s) (phase_run lines replies)) k (known_by (get_or ran s d))) (sym (known_old s d low))
      (subst (λ (k : Known). Leaves s (filter (is_by s) (phase_run lines replies)) (knows (get_or old s d).seat.view s) k) (sym (known_ran s d low))
      (subst (λ (ones : List Answered). Leaves s ones (knows (get_or old s d).seat.view s) (knows (get_or ran s d).seat.view s)) (sym (own_part (length old) s lines replies low phase.speakers))
      (runs_leave s (lines_of s lines) (replies_from (length old) s replies) (get_or old s d).seat.view (get_or ran s d).seat.view (phase.runs s d low))))

  pub phase_lives : (s : ℕ) (d : Session) → s < length old → Lives store.layout.limits s (phase_run lines replies) (known_by (get_or old s d)) (known_by (get_or ran s d))
  phase_lives s d low =
      let session = get_or old s d in let v = session.seat.view in let w = (get_or ran s d).seat.view in let ready = before.ready s d low in let is : session.number ≡ s = before.number s d low in
      subst (λ (k : Known). Lives store.layout.limits s (phase_run lines replies) k (known_by (get_or ran s d))) (sym (known_old s d low))
      (subst (λ (k : Known). Lives store.layout.limits s (phase_run lines replies) (knows v s) k) (sym (known_ran s d low))
      (among_others store.layout.limits s (phase_run lines replies) (knows v s) (knows w s)
      (subst (λ (run : List Answered). Lives store.layout.limits s run (knows v s) (knows w s)) (sym (own_part (length old) s lines replies low phase.speakers))
      (runs_live store.layout.limits s (lines_of s lines) (replies_from (length old) s replies) v w ready.seat_of.limits (subst (λ (k : ℕ). hosts v k ≡ true) is ready.host) (subst (λ (k : ℕ). s < k) before.count low) (phase.runs s d low)))))

  module _ (state : SessionState) (s : ℕ) (d : Session) (inside : s < length old) (front : List Answered) (at : IsFront state s front (get_or old s d)) where
    pub told_behind : (history : List Commit) → Extends history (known_by (get_or ran s d)).seen → ToldBehind store.layout.limits history state s front (phase_run lines replies)
    told_behind history later first call reply rest place =
        let v = (get_or old s d).seat.view in let w = (get_or ran s d).seat.view in
        let own : greatest (times_told s front) ≤ length (known_by (get_or old s d)).seen = at.told in
        let all : greatest (commit_times (ended_phases front)) ≤ length (known_by (get_or old s d)).seen = ended_low front (length (known_by (get_or old s d)).seen) at.committed in
        let low : max (greatest (times_told s front)) (greatest (commit_times (ended_phases front))) ≤ length (known_by (get_or old s d)).seen = omega arith in
        let none = unended_before store.layout.limits lines replies first (answered (Call s call) reply ∷ rest) can place in
        let times = times_on s front first in let ended : greatest (commit_times (ended_phases (front ++ first))) ≡ greatest (commit_times (ended_phases front)) = ap (λ (ones : List Answered). greatest (commit_times ones)) (ended_on front first none) in
        let floor : max (max (greatest (times_told s front)) (greatest (commit_times (ended_phases front)))) (greatest (times_told s first)) ≡ max (greatest (times_told s (front ++ first))) (greatest (commit_times (ended_phases (front ++ first)))) = omega arith in
        let now : state_from (session_told (knows v s)) s first ≡ state_from state s (front ++ first) =
        ap (λ (st : SessionState). state_from st s first) (sym (ap session_told (known_old s d inside)) ∙ at.state_is) ∙ sym (state_on state s front first) in
        tells_as v.limits store.layout.limits history _ _ s _ _ call reply (before.ready s d inside).seat_of.limits floor now
        (woven_is_told (length old) s (floor_of s front) lines v w replies history inside phase.speakers (phase.runs s d inside)
        (subst (λ (k : Known). floor_of s front ≤ length k.seen) (known_old s d inside) low)
        (subst (λ (k : Known). Extends history k.seen) (known_ran s d inside) later)
        first call reply rest place)

    module _ (heard : List Session) (last : AreAll store heard) (hears : HaveHeard ran heard) where
      within : s < length ran
      within = subst (λ (k : ℕ). s < k) (sym count_ran) inside

      abbrev more : List Answered
      more = phase_run lines replies ++ answered Phase Silent ∷ []

      state_heard : session_told (known_by (get_or heard s d)) ≡ state_from state s (front ++ more)
      state_heard =
          let same = same_told (get_or ran s d).number (known_by (get_or ran s d)) (known_by (get_or heard s d)) (hears.hears s d within).same in
          let leaves = (runs_leave s (lines_of s lines) (replies_from (length old) s replies) (get_or old s d).seat.view (get_or ran s d).seat.view (phase.runs s d inside)).state in
          let start : session_told (knows (get_or old s d).seat.view s) ≡ state_from state s front = sym (ap session_told (known_old s d inside)) ∙ at.state_is in
          same ∙ (ap session_told (known_ran s d inside) ∙ (leaves
          ∙ (ap (λ (st : SessionState). state_from st s (answered_all (lines_of s lines) (replies_from (length old) s replies))) start
          ∙ (ap (state_from (state_from state s front) s) (sym (own_part (length old) s lines replies inside phase.speakers))
          ∙ (own_state s (phase_run lines replies) (state_from state s front)
          ∙ (sym (state_on (state_from state s front) s (phase_run lines replies) (answered Phase Silent ∷ [])) ∙ sym (state_on state s front more)))))))

      seen_heard : length (known_by (get_or old s d)).seen ≤ length (known_by (get_or heard s d)).seen
      seen_heard = let a = later_length _ _ (phase_seen s d inside) in let b = later_length _ _ (hears.hears s d within).seen in omega arith

      told_heard : greatest (times_told s (front ++ more)) ≤ length (known_by (get_or heard s d)).seen
      told_heard =
          let up = seen_heard in let early = at.told in
          let own = (floors_are_heard store lines old ran heard m n replies s s d d before after phase hears inside inside).0 in
          let is : greatest (times_told s (own_run (length old) s lines replies)) ≡ greatest (times_told s (phase_run lines replies)) =
          ap greatest (ap (times_told s) (sym (own_part (length old) s lines replies inside phase.speakers)) ∙ own_times s (phase_run lines replies)) in
          let a = times_on s front more in let b : greatest (times_told s more) ≡ max (greatest (times_told s (phase_run lines replies))) 0 = times_on s (phase_run lines replies) (answered Phase Silent ∷ []) in
          omega arith

      committed_heard : greatest (commit_times (front ++ more)) ≤ length (known_by (get_or heard s d)).seen
      committed_heard =
          let up = seen_heard in let early = at.committed in
          let new : greatest (commit_times (phase_run lines replies)) ≤ length (known_by (get_or heard s d)).seen =
          low_all (length (known_by (get_or heard s d)).seen) (phase_run lines replies) (mixed store.layout.limits (CommitsLow (length (known_by (get_or heard s d)).seen)) (merge_low (length (known_by (get_or heard s d)).seen)) lines replies can phase.speakers
          of_merges
          (λ j low. let lower : j < length old = subst (λ (k : ℕ). j < k) (sym before.count) low in
          subst (AllByRecursion (CommitsLow (length (known_by (get_or heard s d)).seen))) (sym (own_part (length old) j lines replies lower phase.speakers))
          (low_each (length (known_by (get_or heard s d)).seen) (own_run (length old) j lines replies) (floors_are_heard store lines old ran heard m n replies s j d d before after phase hears inside lower).1))) in
          let a = commits_on front more in let b : greatest (commit_times more) ≡ max (greatest (commit_times (phase_run lines replies))) 0 = commits_on (phase_run lines replies) (answered Phase Silent ∷ []) in
          omega arith

      pub front_heard : IsFront state s (front ++ (phase_run lines replies ++ answered Phase Silent ∷ [])) (get_or heard s d)
      front_heard = record { state_is = state_heard; told = told_heard; committed = committed_heard }

-- ---- all phases

module _ (store : Store) where
  pub seen_through : (phase : List Line) (later : List (List Line)) (old new : List Session) (m n : View) (replies : List (Option ℕ × Reply)) → AreAll store old → AreAll store new → AllByRecursion (CanRun store.layout.limits) phase
      → AllByRecursion (λ lines. AllByRecursion (CanRun store.layout.limits) lines) later → RunThrough store phase later old new m n replies
      → (s : ℕ) (d : Session) → s < length old → Extends (known_by (get_or new s d)).seen (known_by (get_or old s d)).seen
  seen_through phase [] old new m n replies before after can cans x s d low = phase_seen store phase old new m n replies before after can x s d low
  seen_through phase (next ∷ later) old new m n replies before after can cans x s d low =
      let ran = x.0 in let heard = x.1 in
      let inside : s < length ran = subst (λ (k : ℕ). s < k) (before.count ∙ sym x.3.4.count) low in let within : s < length heard = subst (λ (k : ℕ). s < k) (before.count ∙ sym x.3.6.count) low in
      extends_on (known_by (get_or old s d)).seen (known_by (get_or heard s d)).seen (known_by (get_or new s d)).seen
      (extends_on (known_by (get_or old s d)).seen (known_by (get_or ran s d)).seen (known_by (get_or heard s d)).seen
      (phase_seen store phase old ran m x.2 x.3.0 before x.3.4 can x.3.3 s d low)
      (x.3.5.hears s d inside).seen)
      (seen_through next later heard new x.2 n x.3.1 x.3.6 after cans.0 cans.1 x.3.7 s d within)

  pub told_through : (phase : List Line) (later : List (List Line)) (old new : List Session) (m n : View) (replies : List (Option ℕ × Reply)) → AreAll store old → AreAll store new → AllByRecursion (CanRun store.layout.limits) phase
      → AllByRecursion (λ lines. AllByRecursion (CanRun store.layout.limits) lines) later → RunThrough store phase later old new m n replies
      → (state : SessionState) (s : ℕ) (d : Session) → s < length old → (front : List Answered) → IsFront state s front (get_or old s d) → (history : List Commit) → Extends history (known_by (get_or new s d)).seen
      → ToldBehind store.layout.limits history state s front (run_of (script_of phase later) replies)
  told_through phase [] old new m n replies before after can cans x state s d low front at history goes first call reply rest place =
      told_behind store phase old new m n replies before after can x state s d low front at history goes first call reply rest (sym (run_last store.layout.limits phase replies can) ∙ place)
  told_through phase (next ∷ later) old new m n replies before after can cans x state s d low front at history goes first call reply rest place =
      let ran = x.0 in let heard = x.1 in let now = x.3.0 in let others = x.3.1 in
      let inside : s < length ran = subst (λ (k : ℕ). s < k) (before.count ∙ sym x.3.4.count) low in let within : s < length heard = subst (λ (k : ℕ). s < k) (before.count ∙ sym x.3.6.count) low in
      let through : Extends history (known_by (get_or ran s d)).seen =
      extends_on (known_by (get_or ran s d)).seen (known_by (get_or heard s d)).seen history (x.3.5.hears s d inside).seen
      (extends_on (known_by (get_or heard s d)).seen (known_by (get_or new s d)).seen history (seen_through next later heard new x.2 n others x.3.6 after cans.0 cans.1 x.3.7 s d within) goes) in
      let parts : phase_run phase now ++ answered Phase Silent ∷ run_of (script_of next later) others ≡ first ++ answered (Call s call) reply ∷ rest =
      sym (run_then store.layout.limits phase (script_of next later) now others can x.3.3.speakers) ∙ (ap (run_of (script_of phase (next ∷ later))) (sym x.3.2) ∙ place) in
      ⊎_elim (λ h. told_behind store phase old ran m x.2 now before x.3.4 can x.3.3 state s d low front at history through first call reply h.0 h.1)
      (λ h. ⊎_elim (λ g. absurd (no_call call reply g))
      (λ g. subst (λ (ones : List Answered). TellsLine store.layout.limits history (floor_of s ones) s (state_from state s ones) call reply)
      (append_assoc front (phase_run phase now ++ answered Phase Silent ∷ []) g.0 ∙ ap (λ (ones : List Answered). front ++ ones) (append_assoc (phase_run phase now) (answered Phase Silent ∷ []) g.0 ∙ sym g.1))
      (told_through next later heard new x.2 n others x.3.6 after cans.0 cans.1 x.3.7 state s d within (front ++ (phase_run phase now ++ answered Phase Silent ∷ []))
      (front_heard store phase old ran m x.2 now before x.3.4 can x.3.3 state s d low front at heard x.3.6 x.3.5) history goes g.0 call reply rest g.2)) h)
      (split_middle (phase_run phase now) (answered Phase Silent) (run_of (script_of next later) others) first (answered (Call s call) reply) rest parts)
    where
      no_call : (call : CallKind) (reply : Reply) → answered Phase Silent ≡ answered (Call s call) reply → ⊥
      no_call call reply e = let lines : Phase ≡ Call s call = ap (λ (one : Answered). one.line) e in cc

  pub shape_through : (phase : List Line) (later : List (List Line)) (old new : List Session) (m n : View) (replies : List (Option ℕ × Reply)) → AreAll store old → AreAll store new → AllByRecursion (CanRun store.layout.limits) phase
      → AllByRecursion (λ lines. AllByRecursion (CanRun store.layout.limits) lines) later → RunThrough store phase later old new m n replies → HaveReplyShape (script_of phase later) replies
  shape_through phase [] old new m n replies before after can cans x = shape_last store.layout.limits phase replies can x.speakers (phase_kinds store phase old new m n replies before after can x)
  shape_through phase (next ∷ later) old new m n replies before after can cans x =
      subst (HaveReplyShape (script_of phase (next ∷ later))) (sym x.3.2) (shape_then store.layout.limits phase (script_of next later) x.3.0 x.3.1
      (shape_last store.layout.limits phase x.3.0 can x.3.3.speakers (phase_kinds store phase old x.0 m x.2 x.3.0 before x.3.4 can x.3.3))
      (shape_through next later x.1 new x.2 n x.3.1 x.3.6 after cans.0 cans.1 x.3.7))

  -- the run of the script: that of its first phase, the end of it, and the rest
  run_parts : (phase next : List Line) (later : List (List Line)) (old new : List Session) (m n : View) (replies : List (Option ℕ × Reply)) → AllByRecursion (CanRun store.layout.limits) phase → (x : RunThrough store phase (next ∷ later) old new m n replies)
      → run_of (script_of phase (next ∷ later)) replies ≡ phase_run phase x.3.0 ++ answered Phase Silent ∷ run_of (script_of next later) x.3.1
  run_parts phase next later old new m n replies can x = ap (run_of (script_of phase (next ∷ later))) x.3.2 ∙ run_then store.layout.limits phase (script_of next later) x.3.0 x.3.1 can x.3.3.speakers

  pub leaves_through : (phase : List Line) (later : List (List Line)) (old new : List Session) (m n : View) (replies : List (Option ℕ × Reply)) → AreAll store old → AreAll store new → AllByRecursion (CanRun store.layout.limits) phase
      → AllByRecursion (λ lines. AllByRecursion (CanRun store.layout.limits) lines) later → RunThrough store phase later old new m n replies
      → (s : ℕ) (d : Session) → s < length old → Leaves s (filter (is_by s) (run_of (script_of phase later) replies)) (known_by (get_or old s d)) (known_by (get_or new s d))
  leaves_through phase [] old new m n replies before after can cans x s d low =
      subst (λ (run : List Answered). Leaves s (filter (is_by s) run) (known_by (get_or old s d)) (known_by (get_or new s d))) (sym (run_last store.layout.limits phase replies can)) (phase_leaves store phase old new m n replies before after can x s d low)
  leaves_through phase (next ∷ later) old new m n replies before after can cans x s d low =
      let ran = x.0 in let heard = x.1 in let now = x.3.0 in let others = x.3.1 in
      let inside : s < length ran = subst (λ (k : ℕ). s < k) (before.count ∙ sym x.3.4.count) low in let within : s < length heard = subst (λ (k : ℕ). s < k) (before.count ∙ sym x.3.6.count) low in
      let parts : filter (is_by s) (run_of (script_of phase (next ∷ later)) replies) ≡ filter (is_by s) (phase_run phase now) ++ filter (is_by s) (run_of (script_of next later) others) =
      ap (filter (is_by s)) (run_parts phase next later old new m n replies can x) ∙ filter-append (is_by s) (phase_run phase now) (answered Phase Silent ∷ run_of (script_of next later) others) in
      subst (λ (own : List Answered). Leaves s own (known_by (get_or old s d)) (known_by (get_or new s d))) (sym parts)
      (leaves_on s (filter (is_by s) (phase_run phase now)) (filter (is_by s) (run_of (script_of next later) others)) (known_by (get_or old s d)) (known_by (get_or ran s d)) (known_by (get_or new s d))
      (phase_leaves store phase old ran m x.2 now before x.3.4 can x.3.3 s d low)
      (leaves_on s [] (filter (is_by s) (run_of (script_of next later) others)) (known_by (get_or ran s d)) (known_by (get_or heard s d)) (known_by (get_or new s d))
      (hears_leave s (get_or ran s d) (get_or heard s d) (x.3.4.number s d inside) (x.3.5.hears s d inside))
      (leaves_through next later heard new x.2 n others x.3.6 after cans.0 cans.1 x.3.7 s d within)))

  pub lives_through : (phase : List Line) (later : List (List Line)) (old new : List Session) (m n : View) (replies : List (Option ℕ × Reply)) → AreAll store old → AreAll store new → AllByRecursion (CanRun store.layout.limits) phase
      → AllByRecursion (λ lines. AllByRecursion (CanRun store.layout.limits) lines) later → RunThrough store phase later old new m n replies
      → (s : ℕ) (d : Session) → s < length old → Lives store.layout.limits s (run_of (script_of phase later) replies) (known_by (get_or old s d)) (known_by (get_or new s d))
  lives_through phase [] old new m n replies before after can cans x s d low =
      subst (λ (run : List Answered). Lives store.layout.limits s run (known_by (get_or old s d)) (known_by (get_or new s d))) (sym (run_last store.layout.limits phase replies can)) (phase_lives store phase old new m n replies before after can x s d low)
  lives_through phase (next ∷ later) old new m n replies before after can cans x s d low =
      let ran = x.0 in let heard = x.1 in let now = x.3.0 in let others = x.3.1 in
      let inside : s < length ran = subst (λ (k : ℕ). s < k) (before.count ∙ sym x.3.4.count) low in let within : s < length heard = subst (λ (k : ℕ). s < k) (before.count ∙ sym x.3.6.count) low in
      subst (λ (run : List Answered). Lives store.layout.limits s run (known_by (get_or old s d)) (known_by (get_or new s d))) (sym (run_parts phase next later old new m n replies can x))
      (lives_phase store.layout.limits s (phase_run phase now) (run_of (script_of next later) others) Silent (known_by (get_or old s d)) (known_by (get_or ran s d)) (known_by (get_or heard s d)) (known_by (get_or new s d))
      (phase_lives store phase old ran m x.2 now before x.3.4 can x.3.3 s d low)
      (heard_stays s (get_or ran s d) (get_or heard s d) (x.3.4.number s d inside) (x.3.5.hears s d inside))
      (lives_through next later heard new x.2 n others x.3.6 after cans.0 cans.1 x.3.7 s d within))

  pub merges_through : (phase : List Line) (later : List (List Line)) (old new : List Session) (m n : View) (replies : List (Option ℕ × Reply)) → AreAll store old → AreAll store new → AllByRecursion (CanRun store.layout.limits) phase
      → AllByRecursion (λ lines. AllByRecursion (CanRun store.layout.limits) lines) later → RunThrough store phase later old new m n replies → MergesIn (run_of (script_of phase later) replies) m n
  merges_through phase [] old new m n replies before after can cans x =
      subst (λ (run : List Answered). MergesIn run m n) (sym (run_last store.layout.limits phase replies can)) (phase_merges store phase old new m n replies before after can x)
  merges_through phase (next ∷ later) old new m n replies before after can cans x =
      subst (λ (run : List Answered). MergesIn run m n) (sym (run_parts phase next later old new m n replies can x))
      (merges_phase (phase_run phase x.3.0) (run_of (script_of next later) x.3.1) Silent m x.2 n (phase_merges store phase old x.0 m x.2 x.3.0 before x.3.4 can x.3.3)
      (merges_through next later x.1 new x.2 n x.3.1 x.3.6 after cans.0 cans.1 x.3.7))
