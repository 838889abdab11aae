-- What the replies to a script tell of each session and of the merger, and what its lines leave of what they know.
use Rattle.std.specs.Prelude.{◌≡◌, ◌≢◌, ℕ, ◌+◌, ◌<◌, ◌≤◌, List, [], ◌∷◌, ◌++◌, Bool, true, false, ◌&&◌, Option, IfSome, length, slice_index_or}
use Rattle.std.specs.List.{Contains, filter, count_by, fold}
use Rattle.lst_layout.specs.declared.limits.Limits.{Limits}
use Rattle.lst_model.specs.declared.commits.Commit.{Commit}
use Rattle.lst_model.specs.declared.lines.Line.{Line}
use Rattle.lst_model.specs.declared.lines.Line.TheVariants.{Merge, Call}
use Rattle.lst_model.specs.declared.lines.Call.{Call as CallKind}
use Rattle.lst_model.specs.declared.replies.Reply.{Reply}
use Rattle.lst_model.specs.declared.replies.Reply.TheVariants.{Refused, Merged, NothingNew, NoFrame}
use Rattle.lst_model.specs.declared.replies.Cause.TheVariants.{TableFull, Latched, Unfinished, TailFull}
use Rattle.lst_model.specs.Histories.{Extends}
use Rattle.lst_core_state.specs.declared.facts.Find.{Find}
use Rattle.lst_core_state.specs.declared.facts.Find.TheVariants.{UnfinishedVersion, FullRecords, CountedTails, EmptyStart}
use Rattle.lst_core_state.specs.declared.known.Known.{Known}
use Rattle.lst_pages.specs.Sound.{IsPage}
use Rattle.lst_rule.specs.declared.store.Store.{Store}
use Rattle.lst_rule.specs.declared.view.View.{View}
use Rattle.lst_rule.specs.PageSteps.{stock_of}
use Rattle.lst_merge.specs.Inspections.{merger_of}
use Rattle.lst_pages.specs.Runs.{tps_known}
use Rattle.lst_rule.specs.Seen.{HasKey}
use Rattle.lst_replies.specs.declared.states.Transaction.{Transaction}
use Rattle.lst_replies.specs.declared.states.SessionState.{SessionState}
use Rattle.lst_replies.specs.Runs.{Answered, answered, run_of, write_of, key_of, is_by, is_merged, AtEachMerge}
use Rattle.lst_replies.specs.States.{state_from, floor_of}
use Rattle.lst_replies.specs.Explained.{IsNewKey, merged_after}
use Rattle.lst_replies.specs.ReplyKinds.{HaveReplyShape}
use Rattle.lst_session.specs.declared.session.Session.{Session}
use Rattle.lst_session.specs.Lines.{MergeLeaves}
use Rattle.lst_session.specs.Parting.{known_by}
use Rattle.lst_work_laws.specs.Lines.{session_told}
use Rattle.lst_work_laws.specs.Laws.{TellsLine, Leaves}
use Rattle.lst_work_laws.specs.Lives.{FindsHeld, FindsNoTail, Lives}
use Rattle.lst_work_laws.specs.Merges.{is_merge}

-- ---- a session

-- The replies to the calls of the session s in a run tell what is so, by the rules of a legal report, under this history. The session came to
-- the run in this state.
abbrev pub TellsRun : Limits → List Commit → SessionState → ℕ → List Answered → Type 0
TellsRun limits history state s run = (before : List Answered) (call : CallKind) (reply : Reply) (after : List Answered) → run ≡ before ++ answered (Call s call) reply ∷ after
    → TellsLine limits history (floor_of s before) s (state_from state s before) call reply

-- an unfinished version of the key's record that was found, by the transaction n of another session j, while a transaction with this begin was open
pub record KeepsOpen (s begin : ℕ) (now : Known) (key j n : ℕ) : Type 0 where
  pub other : j ≢ s
  pub rec : ℕ
  pub tail : ℕ
  pub placed : HasKey now.facts rec key
  pub found : Contains now.finds (UnfinishedVersion (rec + 1) tail j n (begin + 1))

-- what the session s keeps of the cause for which it refused a write on the key: a find of it, on the key's record; and a full table was told of a key
-- that neither a commit by the begin had written, nor an accepted write of the session before
abbrev pub KeepsCause : List Commit → List Answered → ℕ → Transaction → ℕ → Known → Reply → Type 0
KeepsCause history before s transaction key now (Refused Latched) = FindsHeld now key
KeepsCause history before s transaction key now (Refused (Unfinished j n)) = KeepsOpen s transaction.begin now key j n
KeepsCause history before s transaction key now (Refused TableFull) = Contains now.finds FullRecords × IsNewKey history before s transaction.begin key
KeepsCause history before s transaction key now (Refused TailFull) = FindsNoTail now key
KeepsCause history before s transaction key now reply = Unit {0}

-- so it does at each write of a run
abbrev pub KeepsCauses : List Commit → SessionState → ℕ → List Answered → Known → Type 0
KeepsCauses history state s run now = (before : List Answered) (call : CallKind) (reply : Reply) (after : List Answered) → run ≡ before ++ answered (Call s call) reply ∷ after
    → IfSome (state_from state s before).current (λ transaction. IfSome (key_of (write_of call)) (λ key. KeepsCause history before s transaction key now reply))

-- The session s, which knew `before`, has come through a run, and knows `now`. Its replies tell what is so under what it has seen now, and under
-- each longer history, and what it refused for it keeps. Its lines leave of it what they tell, together and line by line.
pub record SessionWorks (limits : Limits) (run : List Answered) (s : ℕ) (before now : Known) : Type 0 where
  pub told : (history : List Commit) → Extends history now.seen → TellsRun limits history (session_told before) s run
  pub causes : (history : List Commit) → Extends history now.seen → KeepsCauses history (session_told before) s run now
  pub leaves : Leaves s (filter (is_by s) run) before now
  pub lives : Lives limits s run before now

-- ---- the merger

-- what a line of a run leaves of the merger: a merge what it made of it, any other line nothing
abbrev pub MergePasses : Line → Reply → View → View → Type 0
MergePasses (Merge range column) reply m u = MergeLeaves m u range column reply
MergePasses line reply m u = u ≡ m

-- the merger, with the view m before and n after, has come through a run
abbrev pub MergesIn : List Answered → View → View → Type 0
MergesIn [] m n = n ≡ m
MergesIn (one ∷ run) m n = (u : View) × MergePasses one.line one.reply m u × MergesIn run u n

-- merges that are answered so
abbrev pub tells_merged : Answered → Bool
tells_merged one = is_merge one.line && is_merged one.reply

abbrev pub is_nothing_new : Reply → Bool
is_nothing_new (NothingNew tps) = true
is_nothing_new reply = false

abbrev pub tells_nothing_new : Answered → Bool
tells_nothing_new one = is_merge one.line && is_nothing_new one.reply

abbrev pub is_no_frame : Reply → Bool
is_no_frame (NoFrame session) = true
is_no_frame reply = false

abbrev pub tells_no_frame : Answered → Bool
tells_no_frame one = is_merge one.line && is_no_frame one.reply

-- a find that a tail isn't settled: its range's counter, its start word, or its transaction
abbrev pub is_stop_find : Find → Bool
is_stop_find (CountedTails range count) = true
is_stop_find (EmptyStart tail) = true
is_stop_find (UnfinishedVersion about tail session number begin) = true
is_stop_find find = false

-- the number that is merged of a page, where the merger knew it to be `tps` before these lines
abbrev pub merged_by : ℕ → ℕ → ℕ → List Answered → ℕ
merged_by tps range column before = fold (merged_after range column) tps before

-- what a reply to a merge tells. Merged numbers rise, and where nothing is new the number is the one that was merged last. A frame is wanting only
-- where a pin of the session was found that holds one, and as many frames were swapped in as there are spare ones
abbrev pub MergeIsTold : Limits → View → View → List Answered → ℕ → ℕ → Reply → Type 0
MergeIsTold limits m n before range column (Merged tps) = merged_by (tps_known (stock_of m) range column) range column before < tps
MergeIsTold limits m n before range column (NothingNew tps) = tps ≡ merged_by (tps_known (stock_of m) range column) range column before
MergeIsTold limits m n before range column (NoFrame session) = Contains (stock_of n).held session × (limits.spare ≤ (stock_of m).epoch + count_by tells_merged before)
MergeIsTold limits m n before range column reply = Unit {0}

-- The merger, with the view m before and n after, has come through a run. It has made as many swaps as merges were told; it has found at least as
-- many tails that aren't settled as it told to be nothing new, and as many pins that hold a frame as it told that a frame was wanting. What it
-- knows of each page's TPS at the end is the number that was merged last.
pub record MergerWorks (limits : Limits) (run : List Answered) (m n : View) : Type 0 where
  pub limits_stay : n.limits ≡ m.limits
  pub swaps : (stock_of n).epoch ≡ (stock_of m).epoch + count_by tells_merged run
  pub stops : count_by is_stop_find (merger_of m).finds + count_by tells_nothing_new run ≤ count_by is_stop_find (merger_of n).finds
  pub held : length (stock_of m).held + count_by tells_no_frame run ≤ length (stock_of n).held
  pub told : AtEachMerge (λ before range column reply. MergeIsTold limits m n before range column reply) run
  pub tps : (range column : ℕ) → IsPage limits range column → tps_known (stock_of n) range column ≡ merged_by (tps_known (stock_of m) range column) range column run

-- ---- all of them

-- Sessions and the merger, which had the view m and has n, have run a script, and these are the replies: one of its kind for each line.
pub record Works (store : Store) (lines : List Line) (old new : List Session) (m n : View) (replies : List (Option ℕ × Reply)) : Type 0 where
  pub shape : HaveReplyShape lines replies
  pub sessions : (s : ℕ) (d : Session) → s < length old → SessionWorks store.layout.limits (run_of lines replies) s (known_by (slice_index_or old s d)) (known_by (slice_index_or new s d))
  pub merger : MergerWorks store.layout.limits (run_of lines replies) m n
