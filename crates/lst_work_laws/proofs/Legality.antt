-- The report of a whole script on which all sessions of a store have worked is legal.
use Rattle.std.proofs.Common.{◌≡◌, ℕ, ◌<◌, ◌≤◌, List, [], ◌∷◌, ◌++◌, Bool, true, ◌&&◌, cond, map, IfSome, Option, length, refl, sym, subst, ap, ◌∙◌, arith}
use Rattle.std.specs.Prelude.{slice_index_or}
use Rattle.std.specs.List.{All, AllByRecursion, count_by, filter, list_any, sum_by, Contains}
use Rattle.std.proofs.lemmas.List.Elements.{recursion_from_All, filter-append}
use Rattle.std.proofs.lemmas.Bool.{eq-eqb}
use Rattle.lst_layout.specs.declared.limits.Limits.{Limits}
use Rattle.lst_layout.specs.Words.{shown}
use Rattle.lst_model.specs.declared.commits.Commit.{Commit}
use Rattle.lst_model.specs.declared.lines.Line.{Line}
use Rattle.lst_model.specs.declared.lines.Line.TheVariants.{Merge, Call}
use Rattle.lst_model.specs.declared.replies.Reply.{Reply}
use Rattle.lst_model.specs.declared.replies.Reply.TheVariants.{Merged, NothingNew, NoFrame}
use Rattle.lst_model.specs.Lines.{LineFits}
use Rattle.lst_model.specs.Soundness.{IsSound}
use Rattle.lst_core_state.specs.declared.known.Known.{Known}
use Rattle.lst_core_state.specs.declared.known.Hold.{Hold}
use Rattle.lst_core_state.specs.declared.pages.MergerFrames.{MergerFrames}
use Rattle.lst_core_state.specs.State.{Core, state_over, history_of, mine}
use Rattle.lst_core_state.proofs.Statements.{histories_are_sound}
use Rattle.lst_pages.specs.Sound.{IsPage}
use Rattle.lst_pages.specs.Settled.{settled_tails}
use Rattle.lst_pages.proofs.Numbering.{settled_are_numbered}
use Rattle.lst_rule.specs.declared.store.Store.{Store}
use Rattle.lst_rule.specs.declared.view.View.{View}
use Rattle.lst_rule.specs.Rule.{knows, hosts, Allowed}
use Rattle.lst_rule.specs.Learned.{Possible}
use Rattle.lst_rule.specs.PageSteps.{stock_of}
use Rattle.lst_rule.proofs.Knowing.{knows_own}
use Rattle.lst_rule.proofs.Paging.{pages_known, stock_is}
use Rattle.lst_pages.specs.Runs.{tps_known}
use Rattle.lst_replies.specs.declared.reports.Report.{Report}
use Rattle.lst_replies.specs.declared.states.Transaction.{Transaction}
use Rattle.lst_replies.specs.declared.states.SessionState.{SessionState}
use Rattle.lst_replies.specs.Runs.{Answered, answered, AtEachCall, run_of, speaker_of, is_by, is_begun, is_merged, is_accepted, commit_time}
use Rattle.lst_replies.specs.States.{unbegun, state_from, state_of}
use Rattle.lst_replies.specs.Levels.{stale_time, StateIsToldAtAnyLevel}
use Rattle.lst_replies.proofs.Levels.{legal_is_no_stale}
use Rattle.lst_replies.specs.Explained.{ConflictIsExplained, FullnessIsExplained, MergeIsAnswered}
use Rattle.lst_replies.specs.Legal.{AtEachWrite, FollowsRules, stamp_of}
use Rattle.lst_legal_runs.specs.declared.levels.Level.{Level}
use Rattle.lst_legal_runs.specs.declared.levels.Level.TheVariants.{Snapshot, Serializable}
use Rattle.lst_serial_laws.specs.Places.{IsInPlace}
use Rattle.lst_serial_laws.specs.Legal.{MayBeStale}
use Rattle.lst_serial_laws.specs.Ends.{is_key_named, is_table_read}
use Rattle.lst_serial_laws.proofs.Numbers.{own_since}
use Rattle.lst_serial_laws.proofs.Ending.{ends_are_legal}
use Rattle.lst_session.specs.declared.session.Session.{Session}
use Rattle.lst_session.specs.Crews.{store_told}
use Rattle.lst_session.specs.Parting.{known_by}
use Rattle.lst_work_laws.specs.Lives.{Lives}
use Rattle.lst_work_laws.specs.Explained.{HaveEnded, HasGathered, TailsAreWritten, ScriptIsExplained}
use Rattle.lst_work_laws.specs.Legal.{HaveDoneNothing, AreTogether, WorkedScriptIsLegal}
use Rattle.lst_work_laws.specs.Lines.{session_told}
use Rattle.lst_work_laws.specs.Keeping.{EndsAt, EachEnds, IsLegalUnder}
use Rattle.lst_work_laws.specs.Scripts.{AreFresh, GoesOn, ScriptTold, RunIsTold, ScriptIsTold}
use Rattle.lst_work_laws.specs.Whole.{AreAll}
use Rattle.lst_work_laws.specs.Works.{tells_merged, merged_by, Works}
use Rattle.lst_work_laws.proofs.Lists.{element}
use Rattle.lst_work_laws.proofs.Lived.{lives_stay}
use Rattle.lst_work_laws.proofs.Mergers.{PagesWithin, all_at}
use Rattle.lst_work_laws.proofs.Owners.{AreOwned, commits_owned, all_are_own}
use Rattle.lst_work_laws.proofs.Summed.{pages_within, AreAbove, told_low, settled_drawn, count_less, merged_told, any_counted}
use Rattle.lst_work_laws.proofs.Together.{looked_stays}
use Rattle.lst_work_laws.proofs.Totals.{all_within, run_within}
use Rattle.lst_work_laws.proofs.Weaving.{own_state}

module _ (store : Store) (lines : List Line) (old new : List Session) (m n w : View) (replies : List (Option ℕ × Reply))
    (nothing : HaveDoneNothing store old m) (all : AreAll store new) (fits : All (LineFits store.layout.limits.sessions store.layout.limits.ranges store.layout.limits.columns) lines)
    (works : Works store lines old new m n replies) (t : AreTogether store new n w) (words : List ℕ) (known : ℕ → Known) (merger : Known) (a : Allowed w words known merger) where
  abbrev l : Limits
  l = store.layout.limits

  abbrev run : List Answered
  run = run_of lines replies

  abbrev c : Core
  c = state_over w.limits words known merger

  recursive : AllByRecursion (λ line. LineFits l.sessions l.ranges l.columns line) lines
  recursive = recursion_from_All (λ (line : Line). LineFits l.sessions l.ranges l.columns line) lines fits

  w_sessions : w.limits.sessions ≡ l.sessions
  w_sessions = ap (λ (k : Limits). k.sessions) t.limits

  in_old : (s : ℕ) → s < w.limits.sessions → s < length old
  in_old s low = let e = nothing.all.count in let f = w_sessions in omega arith

  in_new : (s : ℕ) → s < w.limits.sessions → s < length new
  in_new s low = let e = all.count in let f = w_sessions in omega arith

  -- what is known of each session in the state that was met
  known_is : (s : ℕ) → s < w.limits.sessions → knows w s ≡ known s
  known_is s low = knows_own w words known merger a s (t.hosted s (omega arith)) (λ is. absurd (omega arith))

  -- ---- the history is that of the state

  words_are : w.words ≡ words
  words_are = a.whole t.whole

  history_is : (store_told w).history ≡ history_of c.limits c.words
  history_is = ap (λ (ws : List ℕ). history_of w.limits (shown w.limits ws)) words_are

  goes_on : GoesOn (store_told w).history new
  goes_on s d low = t.seen s d low

  all_own : length (store_told w).history ≡ sum_by (λ session. length (mine session.number (known_by session))) new
  all_own = all_are_own (λ session. mine session.number (known_by session)) (store_told w).history new
      (subst (λ (k : ℕ). AreOwned k (store_told w).history) (w_sessions ∙ sym all.count) (subst (λ (h : List Commit). AreOwned w.limits.sessions h) (sym history_is) (commits_owned c a.sound)))
      (λ s d low. t.own s d low ∙ ap (λ (i : ℕ). mine i (known_by (slice_index_or new s d))) (sym (all.number s d low)))

  -- ---- all sessions have come through the run

  gathered : HasGathered store new w
  gathered = record {
    limits = t.limits;
    hosted = λ s low. t.hosted s (omega arith);
    keeps = λ s d low. looked_stays s (known_by (slice_index_or new s d)) (knows w s) (t.looked s d low);
    hold = λ s d low. (t.looked s d low).hold;
  }

  have_ended : (d : Session) → HaveEnded c run
  have_ended d = record {
    sound = a.sound;
    first = λ s. known_by (slice_index_or old s d);
    fresh = λ s low. let f = nothing.fresh s d (in_old s low) in record { state = f.state; drawn = f.drawn; latched = f.latched; done = f.done };
    lives = λ s low. subst (λ (k : Known). Lives w.limits s run (known_by (slice_index_or old s d)) k) (known_is s low)
        (lives_stay w.limits s run (known_by (slice_index_or old s d)) (known_by (slice_index_or new s d)) (knows w s)
        (subst (λ (one : Limits). Lives one s run (known_by (slice_index_or old s d)) (known_by (slice_index_or new s d))) (sym gathered.limits) (works.sessions s d (in_old s low)).lives)
        (gathered.keeps s d (in_new s low)));
    empty = λ s low. subst (λ (k : Known). k.hold.tail ≡ 0) (known_is s low) (ap (λ (h : Hold). h.tail) (gathered.hold s d (in_new s low) ∙ (all.ready s d (in_new s low)).idle.hold));
    callers = λ front session call reply rest place.
        all_at (λ (one : Answered). IfSome (speaker_of one.line) (λ k. k < w.limits.sessions)) front (answered (Call session call) reply) rest
        (subst (AllByRecursion (λ (one : Answered). IfSome (speaker_of one.line) (λ k. k < w.limits.sessions))) place (run_within w.limits.sessions lines replies (all_within w.limits.sessions l lines (sym w_sessions) recursive)));
  }

  -- ---- merges

  module _ (some : 0 < w.limits.sessions) (written : TailsAreWritten) where
    module _ (range column : ℕ) (page : IsPage l range column) where
      page_w : IsPage w.limits range column
      page_w = subst (λ (k : Limits). IsPage k range column) (sym t.limits) page

      there : hosts w w.limits.sessions ≡ true
      there = t.hosted w.limits.sessions (omega arith)

      stock_same : merger.pages.stock ≡ stock_of n
      stock_same = sym (stock_is w words known merger a there) ∙ ap (λ (k : Known). k.pages.stock) t.merger

      abbrev tps : ℕ
      tps = tps_known merger.pages.stock range column

      -- the TPS of the page is what was merged last
      tps_is : tps ≡ merged_by 0 range column run
      tps_is = ap (λ (f : MergerFrames). tps_known f range column) stock_same
          ∙ (works.merger.tps range column page ∙ ap (λ (first : ℕ). merged_by first range column run) (nothing.tps range column page))

      tps_settled : tps ≤ length (settled_tails c.limits c.words range)
      tps_settled = ((pages_known w words known merger a).old range column page_w).0.settled

      tps_few : tps ≤ c.limits.tails
      tps_few = let e = (settled_are_numbered c.limits c.words range).few in let low = tps_settled in omega arith

      -- as many writes were accepted
      tps_written : merged_by 0 range column run ≤ count_by is_accepted run
      tps_written = subst (λ (k : ℕ). k ≤ count_by is_accepted run) tps_is
          (written c run (have_ended (element new 0 (in_new 0 some))) range tps page_w.0 tps_few (settled_drawn c a.sound range tps tps_settled))

      -- by the numbers that stand before it
      above : AreAbove range column 0 [] run
      above before last after place = subst (λ (first : ℕ). merged_by first range column before < last) (nothing.tps range column page) (works.merger.told before range column (Merged last) after place)

    page_at : (range column : ℕ) (before : List Answered) (reply : Reply) (after : List Answered) → run ≡ before ++ answered (Merge range column) reply ∷ after → IsPage l range column
    page_at range column before reply after place = all_at (PagesWithin l) before (answered (Merge range column) reply) after (subst (AllByRecursion (PagesWithin l)) place (pages_within l lines replies recursive))

    -- a pin that was found to hold a frame is of a session that was told of a begin
    held_begun : (s : ℕ) → Contains (stock_of n).held s → list_any (λ one. is_by s one && is_begun one.reply) run ≡ true
    held_begun s has =
        let stock : merger.pages.stock ≡ stock_of n = sym (stock_is w words known merger a (t.hosted w.limits.sessions (omega arith))) ∙ ap (λ (k : Known). k.pages.stock) t.merger in
        let held = a.pages.held s (subst (λ (f : MergerFrames). Contains f.held s) (sym stock) has) in
        let low : s < w.limits.sessions = held.session in
        let d : Session = element new s (in_new s low) in
        let pins = ap (λ (k : Known). k.pages.pins) (known_is s low) in let same = (t.looked s d (in_new s low)).pins in
        let left = (works.sessions s d (in_old s low)).leaves.pins in let none = nothing.unpinned s d (in_old s low) in
        let some : 0 < (known s).pages.pins = held.pinned in
        any_counted s run (omega arith)

    merges : (before : List Answered) (range column : ℕ) (reply : Reply) (after : List Answered) → run ≡ before ++ answered (Merge range column) reply ∷ after → MergeIsAnswered l run before range column reply
    merges before range column (Merged tps) after place =
        let page = page_at range column before (Merged tps) after place in
        let low : tps ≤ merged_by 0 range column run = told_low range column 0 run before tps after (above range column page) place in let written = tps_written range column page in
        (above range column page before tps after place, omega arith)
    merges before range column (NothingNew tps) after place =
        let page = page_at range column before (NothingNew tps) after place in
        works.merger.told before range column (NothingNew tps) after place ∙ ap (λ (first : ℕ). merged_by first range column before) (nothing.tps range column page)
    merges before range column (NoFrame session) after place =
        let told = works.merger.told before range column (NoFrame session) after place in let spare = told.1 in let none = nothing.swaps in
        let less = count_less tells_merged (λ one. is_merged one.reply) merged_told before in
        (omega arith, held_begun session told.0)
    merges before range column reply after place = tt

-- ---- the report

-- from the laws of one line, of conflicts and full counters, and of tails that were written
-- at any level of isolation, whose rule on ends is the wider one
follows_rules : ScriptIsTold → ScriptIsExplained → TailsAreWritten → (store : Store) (lines : List Line) (old new : List Session) (m n w : View) (report : Report)
    → HaveDoneNothing store old m → AreAll store new → All (LineFits store.layout.limits.sessions store.layout.limits.ranges store.layout.limits.columns) lines
    → Works store lines old new m n report.replies → AreTogether store new n w → Possible w → report.history ≡ map stamp_of (store_told w).history
    → FollowsRules StateIsToldAtAnyLevel store.layout.limits lines report (store_told w).history
follows_rules telling explaining written store lines old new m n w report nothing all fits works t possible named =
    let l : Limits = store.layout.limits in let words = possible.words in let known = possible.known in let merger = possible.merger in let a = possible.allowed in
    let c : Core = state_over w.limits words known merger in let run : List Answered = run_of lines report.replies in
    let history : List Commit = (store_told w).history in
    let some : 0 < w.limits.sessions = a.sound.sized.sessions.0 in
    let is : history ≡ history_of c.limits c.words = history_is store lines old new m n w report.replies nothing all fits works t words known merger a in
    let script : ScriptTold l lines report.replies new = telling store lines old new m n report.replies nothing.all all fits works nothing.fresh in
    let goes : GoesOn history new = λ s d low. t.seen s d low in
    let told : RunIsTold l run history = script.told history goes in
    let d : Session = element new 0 (in_new store lines old new m n w report.replies nothing all fits works t words known merger a 0 some) in
    let explained = explaining store lines old new m n report.replies d w words known merger nothing.all all fits works nothing.fresh (gathered store lines old new m n w report.replies nothing all fits works t words known merger a) a in
    record {
      shape = script.shape;
      matches = record {
        named = sym named;
        entered = told.entered;
        told = script.complete history goes (all_own store lines old new m n w report.replies nothing all fits works t words known merger a);
        once = told.once;
        sound = subst IsSound (sym is) (histories_are_sound c a.sound).sound;
      };
      times = told.times;
      reads = told.reads;
      refusals = told.refusals;
      writes = told.writes;
      conflicts = subst (λ (h : List Commit). AtEachWrite (λ before session transaction write reply. ConflictIsExplained h run session transaction write reply) run) (sym is) explained.0;
      fullness = subst (λ (x : Limits × List Commit). AtEachWrite (λ before session transaction write reply. FullnessIsExplained x.0 x.1 run before session transaction write reply) run) (λ i. (t.limits i, sym is i)) explained.1;
      merges = merges store lines old new m n w report.replies nothing all fits works t words known merger a some written;
    }

-- ---- at a level

-- the lines of other sessions say nothing of how a session's line ends
among_all : (level : Level) (history : List Commit) (s : ℕ) (front : List Answered) (current : Option Transaction) (reply : Reply) → EndsAt level history (filter (is_by s) front) s current reply → EndsAt level history front s current reply
among_all Snapshot history s front current reply x = x
among_all Serializable history s front current reply x = record {
  placed = subst (λ (lines : List Answered). IfSome current (λ transaction. IfSome (commit_time reply) (λ time. IsInPlace (is_key_named lines) (is_table_read lines) history transaction.begin time))) (own_since s front) x.placed;
  stale = subst (λ (lines : List Answered). IfSome current (λ transaction. IfSome (stale_time reply) (λ time. MayBeStale history transaction.begin time lines))) (own_since s front) x.stale;
}

module _ (level : Level) (store : Store) (run : List Answered) (old new : List Session) (history : List Commit) (before : AreAll store old) (after : AreAll store new) (fresh : AreFresh old) (ends : EachEnds level run old new) (goes : GoesOn history new)
    (within : AllByRecursion (λ (one : Answered). IfSome (speaker_of one.line) (λ t. t < length new)) run) where
  run_ends : AtEachCall (λ front session call reply. EndsAt level history front session (state_of session front).current reply) run
  run_ends front session call reply rest place =
      let low : session < length new = all_at (λ (one : Answered). IfSome (speaker_of one.line) (λ t. t < length new)) front (answered (Call session call) reply) rest (subst (AllByRecursion (λ (one : Answered). IfSome (speaker_of one.line) (λ t. t < length new))) place within) in
      let few : session < length old = subst (λ (k : ℕ). session < k) (after.count ∙ sym before.count) low in
      let d : Session = element new session low in
      let own : filter (is_by session) run ≡ filter (is_by session) front ++ answered (Call session call) reply ∷ filter (is_by session) rest =
      ap (filter (is_by session)) place ∙ (filter-append (is_by session) front (answered (Call session call) reply ∷ rest)
      ∙ ap (λ (b : Bool). filter (is_by session) front ++ cond b (answered (Call session call) reply ∷ filter (is_by session) rest) (filter (is_by session) rest)) (eq-eqb session session refl)) in
      let state : state_from (session_told (known_by (slice_index_or old session d))) session (filter (is_by session) front) ≡ state_of session front =
      ap (λ (st : SessionState). state_from st session (filter (is_by session) front)) (fresh session d few).state ∙ own_state session front unbegun in
      among_all level history session front (state_of session front).current reply
      (subst (λ (st : SessionState). EndsAt level history (filter (is_by session) front) session st.current reply) state
      (ends session d few history (goes session d low) (filter (is_by session) front) call reply (filter (is_by session) rest) own))

pub worked_is_legal : ScriptIsTold → ScriptIsExplained → TailsAreWritten → WorkedScriptIsLegal
worked_is_legal telling explaining written level store lines old new m n w report nothing all fits works each t possible named = by_level level each
  where
    rules : FollowsRules StateIsToldAtAnyLevel store.layout.limits lines report (store_told w).history
    rules = follows_rules telling explaining written store lines old new m n w report nothing all fits works t possible named

    within : AllByRecursion (λ (one : Answered). IfSome (speaker_of one.line) (λ t. t < length new)) (run_of lines report.replies)
    within = run_within (length new) lines report.replies (all_within (length new) store.layout.limits lines (sym all.count) (recursion_from_All (λ (line : Line). LineFits store.layout.limits.sessions store.layout.limits.ranges store.layout.limits.columns line) lines fits))

    at_each : (level : Level) → EachEnds level (run_of lines report.replies) old new → AtEachCall (λ front session call reply. EndsAt level (store_told w).history front session (state_of session front).current reply) (run_of lines report.replies)
    at_each level each = run_ends level store (run_of lines report.replies) old new (store_told w).history nothing.all all nothing.fresh each (λ s d low. t.seen s d low) within

    by_level : (level : Level) → EachEnds level (run_of lines report.replies) old new → IsLegalUnder level store.layout.limits lines report (store_told w).history
    by_level Snapshot each = (legal_is_no_stale store.layout.limits lines report (store_told w).history).1 (rules, at_each Snapshot each)
    by_level Serializable each = ends_are_legal store.layout.limits lines report (store_told w).history rules (at_each Serializable each)
