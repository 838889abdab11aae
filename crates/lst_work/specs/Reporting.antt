-- The report of a script on which the sessions of a store have worked.
use Rattle.std.specs.Prelude.{◌≡◌, ℕ, ◌<◌, List, Option, map, true, length, slice_index_or}
use Rattle.lst_layout.specs.declared.limits.Limits.{Limits}
use Rattle.lst_model.specs.declared.replies.Reply.{Reply}
use Rattle.lst_rule.specs.declared.store.Store.{Store}
use Rattle.lst_rule.specs.declared.view.View.{View}
use Rattle.lst_rule.specs.Learned.{Possible}
use Rattle.lst_rule.specs.Rule.{knows, crew as opening_view}
use Rattle.lst_merge.specs.Inspections.{merger_of}
use Rattle.lst_replies.specs.declared.reports.Report.{Report}
use Rattle.lst_replies.specs.Legal.{stamp_of}
use Rattle.lst_session.specs.declared.crew.Crew.{Crew}
use Rattle.lst_session.specs.declared.session.Session.{Session}
use Rattle.lst_session.specs.Crews.{IsCrewOf, TakesStock, IsHistoryOfAll, store_told}
use Rattle.lst_session.specs.Parting.{known_by}

-- each session, and the merger, whose seat has the view m, knows what it knows when a store with these limits opens
pub record KnowTheOpening (limits : Limits) (sessions : List Session) (m : View) : Type 0 where
  pub each : (s : ℕ) (d : Session) → s < length sessions → known_by (slice_index_or sessions s d) ≡ knows (opening_view limits) s
  pub merger : merger_of m ≡ merger_of (opening_view limits)
  pub merger_limits : m.limits ≡ limits

-- The report has these replies, and a stamp for each commit of the store. For that the crew took stock of all words.
pub record IsReported (store : Store) (replies : List (Option ℕ × Reply)) (old : Crew) (report : Report) (new : Crew) : Type 0 where
  pub crew_of : IsCrewOf store new
  pub whole : new.seat.view.whole ≡ true
  pub possible : Possible new.seat.view
  pub stock : TakesStock old.seat.view new.seat.view 0
  pub history : IsHistoryOfAll old.seat.view (store_told new.seat.view).history
  pub tells : report.replies ≡ replies
  pub stamps : report.history ≡ map stamp_of (store_told new.seat.view).history
