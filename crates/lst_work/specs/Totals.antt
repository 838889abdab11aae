-- The sum of a column, once a script was run: when it is there, and what adding it up leaves.
use Rattle.std.specs.Prelude.{◌≡◌, ◌≢◌, ◌⊎◌, ℕ, ◌<◌, List, Option, Some, None, MatchOption, true, length}
use Rattle.std.specs.List.{filter}
use Rattle.lst_layout.specs.declared.layout.Layout.{Layout}
use Rattle.lst_layout.specs.declared.limits.Limits.{Limits}
use Rattle.lst_model.specs.declared.lines.Line.{Line}
use Rattle.lst_model.specs.Histories.{table_at}
use Rattle.lst_model.specs.Tables.{Rows, sum_of}
use Rattle.lst_core_state.specs.State.{mine}
use Rattle.lst_rule.specs.declared.store.Store.{Store}
use Rattle.lst_rule.specs.declared.view.View.{View}
use Rattle.lst_rule.specs.Learned.{Possible}
use Rattle.lst_rule.specs.Rule.{knows, crew as opening_view}
use Rattle.lst_replies.specs.declared.reports.Report.{Report}
use Rattle.lst_replies.specs.declared.states.SessionState.{SessionState}
use Rattle.lst_replies.specs.declared.states.Transaction.{Transaction}
use Rattle.lst_replies.specs.Legal.{IsLegal}
use Rattle.lst_replies.specs.Runs.{is_by, run_of}
use Rattle.lst_replies.specs.States.{state_of, unbegun}
use Rattle.lst_session.specs.declared.crew.Crew.{Crew}
use Rattle.lst_session.specs.Crews.{IsCrewOf, store_told}
use Rattle.lst_session.specs.Lines.{IsOpen, IsSpent, CanBegin}
use Rattle.lst_work_laws.specs.Laws.{commits_told}
use Rattle.lst_work_laws.specs.Worked.{HaveSeenTheHistory, IsWorked}
use Rattle.lst_work_laws.specs.Works.{MergerWorks}
use Rattle.lst_work.specs.ParSums.{HasReadOnce}

-- ---- the states behind a script

-- the state of a session behind the lines, by the report's replies
abbrev pub state_behind : List Line → Report → ℕ → SessionState
state_behind lines report s = state_of s (run_of lines report.replies)

-- no transaction is open, and fewer were begun than the session may begin
pub record MayBeginAgain (limits : Limits) (state : SessionState) : Type 0 where
  pub closed : state.current ≡ None
  pub unspent : state.begun ≢ limits.txns

-- one is open, or as many were begun as the session may begin
abbrev pub MayNotBegin : Limits → SessionState → Type 0
MayNotBegin limits state = ((transaction : Transaction) × (state.current ≡ Some transaction)) ⊎ (state.begun ≡ limits.txns)

-- ---- adding up

-- the table that the commits of the store make
abbrev pub table_told : View → Rows
table_told v = table_at (store_told v).history (length (store_told v).history)

-- each session of the view may begin one more transaction
abbrev pub MayAllBegin : View → Type 0
MayAllBegin v = (s : ℕ) → s < v.limits.sessions → CanBegin v s

-- the session is one of the view, and may not
abbrev pub IsHeldUp : View → ℕ → Type 0
IsHeldUp v s = (s < v.limits.sessions) × (IsOpen v s ⊎ IsSpent v s)

-- The crew of a store has the view v, and had u. Each session has read once since, and has seen the same history, which is still that of the store. The
-- merger knows what it knew
pub record HaveReadOnce (u v : View) : Type 0 where
  pub limits : v.limits ≡ u.limits
  pub sessions : (s : ℕ) → s < u.limits.sessions → HasReadOnce s (knows u s) (knows v s)
  pub seen : (s : ℕ) → s < u.limits.sessions → (knows v s).seen ≡ (knows u s).seen
  pub history : (store_told v).history ≡ (store_told u).history
  pub whole : v.whole ≡ true
  pub merger : knows v v.limits.sessions ≡ knows u u.limits.sessions

-- so they have, and this is the sum of the column in the table that the store's commits make
pub record IsSummed (store : Store) (column : ℕ) (before : Crew) (sum : ℕ) (after : Crew) : Type 0 where
  pub sum_is : sum ≡ sum_of (table_told after.seat.view) column
  pub crew_of : IsCrewOf store after
  pub read : HaveReadOnce before.seat.view after.seat.view

-- no session may be held up for a sum; where one is, the crew stays as it was
abbrev pub HasTotal : Store → ℕ → Crew → Option ℕ → Crew → Type 0
HasTotal store column before total after = MatchOption total ((after ≡ before) × ((s : ℕ) × IsHeldUp before.seat.view s)) (λ sum. MayAllBegin before.seat.view × IsSummed store column before sum after)

-- ---- the whole

-- The store has the layout, the crew is one of it and knows each word, and the report is legal for the script under the history that the store has.
-- The commits of each session are those that its replies tell, in order. The merger has come through the script, from the opening on, to what it knows in this crew
pub record IsLeftBehind (layout : Layout) (lines : List Line) (report : Report) (store : Store) (crew : Crew) : Type 0 where
  pub opened : store.layout ≡ layout
  pub crew_of : IsCrewOf store crew
  pub whole : crew.seat.view.whole ≡ true
  pub legal : IsLegal layout.limits lines report (store_told crew.seat.view).history
  pub commits : (s : ℕ) → s < layout.limits.sessions → mine s (knows crew.seat.view s) ≡ commits_told s unbegun (filter (is_by s) (run_of lines report.replies))
  pub merger : MergerWorks layout.limits (run_of lines report.replies) (opening_view layout.limits) crew.seat.view

-- behind the script a session has a transaction open, or has begun as many as it may. The crew is the one that worked
pub record HasNoTotal (layout : Layout) (lines : List Line) (report : Report) (before after : Crew) : Type 0 where
  pub session : ℕ
  pub low : session < layout.limits.sessions
  pub may_not : MayNotBegin layout.limits (state_behind lines report session)
  pub same : after ≡ before

-- behind the script no session has, and this is the sum of the column
pub record IsTotal (layout : Layout) (lines : List Line) (report : Report) (store : Store) (column : ℕ) (before : Crew) (sum : ℕ) (after : Crew) : Type 0 where
  pub may : (s : ℕ) → s < layout.limits.sessions → MayBeginAgain layout.limits (state_behind lines report s)
  pub summed : IsSummed store column before sum after

-- The sessions and the merger of this store have worked on the script, and were gathered in a crew, which knew each word; each session had seen the whole
-- history there. Where each may begin once more, by the states that the report's replies tell, the sum of the column was added up, and the crew gathered again;
-- and there is no sum only where one may not. Of the crew that is left, too, the report tells the history, the commits of each session, and the merges.
pub record IsWorkedTotal (layout : Layout) (lines : List Line) (column : ℕ) (report : Report) (total : Option ℕ) (store : Store) (after : Crew) : Type 0 where
  pub before : Crew
  pub worked : IsWorked layout lines report store before
  pub possible : Possible before.seat.view
  pub seen : HaveSeenTheHistory before.seat.view
  pub total_is : MatchOption total (HasNoTotal layout lines report before after) (λ sum. IsTotal layout lines report store column before sum after)
  pub left : IsLeftBehind layout lines report store after
