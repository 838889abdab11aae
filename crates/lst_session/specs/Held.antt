-- A session that holds the turn: what it knows of the history, what it may ask, and how it spends the turn.
use Rattle.std.specs.Prelude.{◌≡◌, ℕ, ◌+◌, ◌<◌, List, [], ◌∷◌, ◌++◌, length}
use Rattle.lst_layout.specs.Words.{shown}
use Rattle.lst_layout.specs.declared.place.Place.TheVariants.{CommitWord}
use Rattle.lst_core_state.specs.Writes.{commit}
use Rattle.lst_core_state.specs.declared.events.Event.TheVariants.{Take}
use Rattle.lst_core_state.specs.declared.facts.Find.TheVariants.{FreshClock}
use Rattle.lst_core_state.specs.declared.known.Known.{Known}
use Rattle.lst_core_state.specs.State.{history_of, no_hold}
use Rattle.lst_rule.specs.declared.store.Store.{Store}
use Rattle.lst_rule.specs.declared.view.View.{View}
use Rattle.lst_rule.specs.Rule.{knows, Allowed}
use Rattle.lst_rule.specs.Learned.{Possible, Made}
use Rattle.lst_write.specs.Standings.{FoundSince}
use Rattle.lst_refinement.specs.Crews.{IsPinnedWhereOpen}
use Rattle.lst_changes.specs.Changes.{IsHolder}
use Rattle.lst_session.specs.declared.session.Session.{Session}
use Rattle.lst_session.specs.Calls.{OnlyLooks, FindsNoneFull, Commits}

-- the session holds the turn for its open transaction, which has writes, with the clock loaded since it took it. It has neither a record nor a latch
-- in hand, and is pinned
pub record IsHeld (store : Store) (session : Session) : Type 0 where
  pub holder : IsHolder store session.seat session.number
  pub rec : (knows session.seat.view session.number).placing.hand ≡ 0
  pub hold : (knows session.seat.view session.number).hold ≡ no_hold
  pub pinned : IsPinnedWhereOpen (knows session.seat.view session.number)
  pub wrote : 0 < length (knows session.seat.view session.number).own

-- in each state that the view allows, the history is what the session has seen. So nobody else commits while the view stays
abbrev pub HasSeenHistory : View → ℕ → Type 0
HasSeenHistory v s = (words : List ℕ) (known : ℕ → Known) (merger : Known) → Allowed v words known merger → (knows v s).seen ≡ history_of v.limits (shown v.limits words)

-- nothing but looks was made, and no more commits seen
pub record LooksStill (v w : View) (s : ℕ) : Type 0 where
  pub looks : OnlyLooks v w s
  pub seen : (knows w s).seen ≡ (knows v s).seen
  pub room : FindsNoneFull v w s

-- the turn was taken, by a step that found the commit word free, and then the clock was loaded, which found as many commits as are seen then. Nothing
-- else was done, but for looks, and the view is possible
pub record TakesTurn (v w : View) (s : ℕ) : Type 0 where
  pub looks : OnlyLooks v w s
  pub before : View
  pub first : OnlyLooks v before s
  pub after : View
  pub taken : Made before after (Take s) CommitWord (s + 1)
  pub last : OnlyLooks after w s
  pub loaded : FoundSince after w s (FreshClock (length (knows w s).seen))
  pub possible : Possible w
  pub fresh : FoundSince v w s (FreshClock (length (knows w s).seen))
  pub room : FindsNoneFull v w s

-- the transaction is the next commit after all that was seen, which was the whole history
pub record CommitsNext (v w : View) (s time : ℕ) : Type 0 where
  pub commits : Commits v w s time
  pub next : time ≡ length (knows v s).seen + 1
  pub seen : let k = knows v s in (knows w s).seen ≡ k.seen ++ commit s k.number k.begin k.own ∷ []
