-- Without a commit that is told stale, the wider rule on ends is the exact one.
use Rattle.std.proofs.Common.{◌≡◌, ⊎_elim, ℕ, List, [], ◌∷◌, true, false, true≢false, refl, subst, inl}
use Rattle.std.specs.Prelude.{Option, Some, None, IsNone}
use Rattle.lst_layout.specs.declared.limits.Limits.{Limits}
use Rattle.lst_model.specs.declared.acts.Write.{Write}
use Rattle.lst_model.specs.declared.commits.Commit.{Commit}
use Rattle.lst_model.specs.declared.lines.Line.{Line}
use Rattle.lst_model.specs.declared.lines.Call.{Call as CallKind}
use Rattle.lst_model.specs.declared.lines.Call.TheVariants.{Begin, AsOf, Get, Insert, Update, Delete, Sum, Count, Scan, Find, Commit as CommitCall, Abort}
use Rattle.lst_model.specs.declared.replies.Reply.{Reply}
use Rattle.lst_model.specs.declared.replies.Reply.TheVariants.{Committed, Refused}
use Rattle.lst_model.specs.declared.replies.Cause.TheVariants.{Stale}
use Rattle.lst_replies.specs.declared.reports.Report.{Report}
use Rattle.lst_replies.specs.declared.states.Transaction.{Transaction}
use Rattle.lst_replies.specs.declared.states.SessionState.{SessionState}
use Rattle.lst_replies.specs.Runs.{AtEachCall, run_of}
use Rattle.lst_replies.specs.ReplyKinds.{can_answer}
use Rattle.lst_replies.specs.States.{state_of}
use Rattle.lst_replies.specs.Explained.{open_cause, EndsBy, EndIsExact, StateIsTold}
use Rattle.lst_replies.specs.Legal.{FollowsRules}
use Rattle.lst_replies.specs.Levels.{stale_time, EndsOrStaysBy, EndIsAllowed, StateIsToldAtAnyLevel, LevelOneIsNoStale, LegalIsNoStale}
use Rattle.lst_replies.proofs.Shapes.{kind_at}

-- ---- one call

wider : (begin : ℕ) (writes : List Write) (reply : Reply) → EndsBy begin writes reply → EndsOrStaysBy begin writes reply
wider begin [] reply e = e
wider begin (write ∷ writes) reply e = inl e

end_wider : (current : Option Transaction) (call : CallKind) (reply : Reply) → EndIsExact current call reply → EndIsAllowed current call reply
end_wider (Some transaction) CommitCall reply e = wider transaction.begin transaction.writes reply e
end_wider None call reply e = tt
end_wider (Some transaction) Begin reply e = tt
end_wider (Some transaction) (AsOf time) reply e = tt
end_wider (Some transaction) (Get key) reply e = tt
end_wider (Some transaction) (Insert key row) reply e = tt
end_wider (Some transaction) (Update key patch) reply e = tt
end_wider (Some transaction) (Delete key) reply e = tt
end_wider (Some transaction) (Sum column) reply e = tt
end_wider (Some transaction) Count reply e = tt
end_wider (Some transaction) Scan reply e = tt
end_wider (Some transaction) (Find column value) reply e = tt
end_wider (Some transaction) Abort reply e = tt

is_stale_no_none : (reply : Reply) (time : ℕ) → reply ≡ Refused (Stale time) → IsNone (stale_time reply) → ⊥
is_stale_no_none reply time is none = true≢false (subst (λ (r : Reply). IsNone (stale_time r)) is none)

exact : (begin : ℕ) (writes : List Write) (reply : Reply) → IsNone (stale_time reply) → EndsOrStaysBy begin writes reply → EndsBy begin writes reply
exact begin [] reply none e = e
exact begin (write ∷ writes) reply none e = ⊎_elim (λ (c : (time : ℕ) × (reply ≡ Committed time)). c) (λ (c : (time : ℕ) × (reply ≡ Refused (Stale time))). absurd (is_stale_no_none reply c.0 c.1 none)) e

end_exact : (current : Option Transaction) (call : CallKind) (reply : Reply) → IsNone (stale_time reply) → EndIsAllowed current call reply → EndIsExact current call reply
end_exact (Some transaction) CommitCall reply none e = exact transaction.begin transaction.writes reply none e
end_exact None call reply none e = tt
end_exact (Some transaction) Begin reply none e = tt
end_exact (Some transaction) (AsOf time) reply none e = tt
end_exact (Some transaction) (Get key) reply none e = tt
end_exact (Some transaction) (Insert key row) reply none e = tt
end_exact (Some transaction) (Update key patch) reply none e = tt
end_exact (Some transaction) (Delete key) reply none e = tt
end_exact (Some transaction) (Sum column) reply none e = tt
end_exact (Some transaction) Count reply none e = tt
end_exact (Some transaction) Scan reply none e = tt
end_exact (Some transaction) (Find column value) reply none e = tt
end_exact (Some transaction) Abort reply none e = tt

-- only a commit can be told stale
only_commits : (call : CallKind) (time : ℕ) → can_answer call (Refused (Stale time)) ≡ true → call ≡ CommitCall
only_commits CommitCall time kind = refl
only_commits Begin time kind = cc
only_commits (AsOf at) time kind = cc
only_commits (Get key) time kind = cc
only_commits (Insert key row) time kind = cc
only_commits (Update key patch) time kind = cc
only_commits (Delete key) time kind = cc
only_commits (Sum column) time kind = cc
only_commits Count time kind = cc
only_commits Scan time kind = cc
only_commits (Find column value) time kind = cc
only_commits Abort time kind = cc

told_wrong : (current : Option Transaction) (time : ℕ) → EndIsExact current CommitCall (Refused (Stale time)) → None ≡ open_cause false current → ⊥
told_wrong None time e cause = cc
told_wrong (Some transaction) time e cause = by_writes transaction.writes e
  where
    by_writes : (writes : List Write) → EndsBy transaction.begin writes (Refused (Stale time)) → ⊥
    by_writes [] e = cc
    by_writes (write ∷ writes) (at, e) = cc

never : (limits : Limits) (state : SessionState) (call : CallKind) (reply : Reply) → can_answer call reply ≡ true → StateIsTold limits state call reply → (o : Option ℕ) → stale_time reply ≡ o → IsNone o
never limits state call reply kind told None e = refl
never limits state call (Refused (Stale at)) kind told (Some time) e =
    let is : call ≡ CommitCall = only_commits call at kind in
    let here : StateIsTold limits state CommitCall (Refused (Stale at)) = subst (λ (k : CallKind). StateIsTold limits state k (Refused (Stale at))) is told in
    absurd (told_wrong state.current at here.end here.refusal)
never limits state call reply kind told (Some time) e = cc

pub level_one : LevelOneIsNoStale
level_one limits state call reply kind = (
  λ told. (record { refusal = told.refusal; end = end_wider state.current call reply told.end }, never limits state call reply kind told (stale_time reply) refl),
  λ both. record { refusal = both.0.refusal; end = end_exact state.current call reply both.1 both.0.end },
)

-- ---- whole reports

told_wider : (limits : Limits) (state : SessionState) (call : CallKind) (reply : Reply) → can_answer call reply ≡ true → StateIsTold limits state call reply → StateIsToldAtAnyLevel limits state call reply
told_wider limits state call reply kind told = ((level_one limits state call reply kind).0 told).0

told_none : (limits : Limits) (state : SessionState) (call : CallKind) (reply : Reply) → can_answer call reply ≡ true → StateIsTold limits state call reply → IsNone (stale_time reply)
told_none limits state call reply kind told = ((level_one limits state call reply kind).0 told).1

told_exact : (limits : Limits) (state : SessionState) (call : CallKind) (reply : Reply) → can_answer call reply ≡ true → StateIsToldAtAnyLevel limits state call reply → IsNone (stale_time reply) → StateIsTold limits state call reply
told_exact limits state call reply kind told none = (level_one limits state call reply kind).1 (told, none)

-- the rules with another relation of what a session's state tells
with_told : (P Q : Limits → SessionState → CallKind → Reply → Type 0) (limits : Limits) (lines : List Line) (report : Report) (history : List Commit) → FollowsRules P limits lines report history
    → AtEachCall (λ before session call reply. Q limits (state_of session before) call reply) (run_of lines report.replies) → FollowsRules Q limits lines report history
with_told P Q limits lines report history rules told = record {
  shape = rules.shape;
  matches = rules.matches;
  times = rules.times;
  reads = rules.reads;
  refusals = told;
  writes = rules.writes;
  conflicts = rules.conflicts;
  fullness = rules.fullness;
  merges = rules.merges;
}

pub legal_is_no_stale : LegalIsNoStale
legal_is_no_stale limits lines report history = (
  λ legal. (
    with_told StateIsTold StateIsToldAtAnyLevel limits lines report history legal (λ before session call reply after e. told_wider limits (state_of session before) call reply (kind_at lines report.replies legal.shape before session call reply after e) (legal.refusals before session call reply after e)),
    λ before session call reply after e. told_none limits (state_of session before) call reply (kind_at lines report.replies legal.shape before session call reply after e) (legal.refusals before session call reply after e),
  ),
  λ both. with_told StateIsToldAtAnyLevel StateIsTold limits lines report history both.0 (λ before session call reply after e.
      told_exact limits (state_of session before) call reply (kind_at lines report.replies both.0.shape before session call reply after e) (both.0.refusals before session call reply after e) (both.1 before session call reply after e)),
)
