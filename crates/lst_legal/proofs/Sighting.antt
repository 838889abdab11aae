-- What open transactions see, one more line at a time.
use Rattle.std.proofs.Common.{◌≡◌, ◌↔◌, ℕ, ◌+◌, ◌<◌, Bool, true, false, cond, eqb, IsTrue, List, [], ◌∷◌, ◌++◌, length, get_or, set, Option, Some, None, IfSome, option_map, refl, sym, ap, ◌∙◌, subst}
use Rattle.std.proofs.lemmas.Bool.{eqb-true, eqb-false}
use Rattle.std.proofs.lemmas.List.{get_or-set_same, get_or-set_other, length-set}
use Rattle.std.proofs.lemmas.Option.{same_Some, none-some}
use Rattle.lst_layout.specs.declared.limits.Limits.{Limits}
use Rattle.lst_model.specs.declared.acts.Write.{Write}
use Rattle.lst_model.specs.declared.commits.Commit.{Commit}
use Rattle.lst_model.specs.declared.lines.Line.{Line}
use Rattle.lst_model.specs.declared.lines.Line.TheVariants.{Phase, Merge, Call}
use Rattle.lst_model.specs.declared.lines.Call.{Call as CallKind}
use Rattle.lst_model.specs.declared.replies.Reply.{Reply}
use Rattle.lst_model.specs.Tables.{Rows, applied}
use Rattle.lst_model.specs.Histories.{joined, snapshot}
use Rattle.lst_model.proofs.Joining.{joins}
use Rattle.lst_replies.specs.declared.states.Transaction.{Transaction}
use Rattle.lst_replies.specs.declared.states.SessionState.{SessionState}
use Rattle.lst_replies.specs.Runs.{Answered, answered, AtEachCall, write_of}
use Rattle.lst_replies.specs.States.{after_call, state_of, with_write, sight_of}
use Rattle.lst_replies.specs.Explained.{ReadIsAnswered, WriteIsAnswered}
use Rattle.lst_replies.specs.Legal.{AtEachWrite}
use Rattle.lst_legal_runs.specs.declared.outlines.OpenOutline.{OpenOutline}
use Rattle.lst_legal_runs.specs.Outlines.{outline_of_open}
use Rattle.lst_legal_runs.specs.Places.{AtEach, IfCall}
use Rattle.lst_legal_runs.proofs.Behind.{state_of-push}
use Rattle.lst_legal_runs.proofs.Splits.{of_calls, calls_of}
use Rattle.lst_snapshots.specs.declared.sight.Sight.{Sight}
use Rattle.lst_snapshots.specs.Sights.{seen}
use Rattle.lst_legal.specs.Sights.{ShowsAt, from_begin, IsSightOf, AreSights, begun_time, Opens, TellsSeen}

-- ---- one session's

module _ (history : List Commit) where
  -- where a transaction is open, there is a sight
  pub shown : (sight : Option Sight) (state : SessionState) (outline : OpenOutline) → IsSightOf history from_begin sight state → Some outline ≡ option_map outline_of_open state.current → sight ≡ None → ⊥
  shown sight state outline is opened none = by_current state.current refl
    where
      by_current : (current : Option Transaction) → state.current ≡ current → ⊥
      by_current None e = absurd (none-some outline (sym (opened ∙ ap (option_map outline_of_open) e)))
      by_current (Some transaction) e = let shows = is transaction e in none-some shows.now (sym none ∙ shows.is)

  -- what decides for the open transaction decides for the state
  pub tells_open : (limits : Limits) (sight : Option Sight) (now : Sight) (state : SessionState) (outline : OpenOutline) (call : CallKind) (reply : Reply) (b : Bool)
      → IsSightOf history from_begin sight state → Some outline ≡ option_map outline_of_open state.current → sight ≡ Some now
      → ((transaction : Transaction) → seen history now ≡ sight_of history transaction → outline.begin ≡ transaction.begin → IsTrue b ↔ (ReadIsAnswered limits history (Some transaction) call reply × IfSome (write_of call) (λ write. WriteIsAnswered history transaction write reply)))
      → IsTrue b ↔ (ReadIsAnswered limits history state.current call reply × IfSome state.current (λ transaction. IfSome (write_of call) (λ write. WriteIsAnswered history transaction write reply)))
  tells_open limits sight now state outline call reply b is opened here decides = by_current state.current refl
    where
      by_current : (current : Option Transaction) → state.current ≡ current → IsTrue b ↔ (ReadIsAnswered limits history state.current call reply × IfSome state.current (λ transaction. IfSome (write_of call) (λ write. WriteIsAnswered history transaction write reply)))
      by_current None e = absurd (none-some outline (sym (opened ∙ ap (option_map outline_of_open) e)))
      by_current (Some transaction) e =
          let shows = is transaction e in
          let same : shows.now ≡ now = same_Some shows.now now (sym shows.is ∙ here) in
          let begin : outline ≡ outline_of_open transaction = same_Some outline (outline_of_open transaction) (opened ∙ ap (option_map outline_of_open) e) in
          subst (λ (current : Option Transaction). IsTrue b ↔ (ReadIsAnswered limits history current call reply × IfSome current (λ transaction. IfSome (write_of call) (λ write. WriteIsAnswered history transaction write reply)))) (sym e)
          (decides transaction (ap (λ (s : Sight). seen history s) (sym same) ∙ shows.shows) (ap (λ (o : OpenOutline). o.begin) begin))

  -- a transaction that begins
  pub sight_begun : (at : ℕ → ℕ → Option ℕ) (begun begin : ℕ) (read_only : Bool) (sight : Option Sight) (opening : Option ℕ) → opening ≡ at (begun + 1) begin → ShowsAt history sight [] opening
      → (transaction : Transaction) → Some (record { number = begun + 1; begin = begin; read_only = read_only; writes = [] }) ≡ Some transaction → ShowsAt history sight transaction.writes (at transaction.number transaction.begin)
  sight_begun at begun begin read_only sight opening is shows transaction e =
      subst (λ (t : Transaction). ShowsAt history sight t.writes (at t.number t.begin)) (same_Some (record { number = begun + 1; begin = begin; read_only = read_only; writes = [] }) transaction e)
      (subst (ShowsAt history sight []) is shows)

  pub write_unseen : (at : ℕ → ℕ → Option ℕ) (sight : Option Sight) (write : Write) (current : Option Transaction) → ((transaction : Transaction) → current ≡ Some transaction → ShowsAt history sight transaction.writes (at transaction.number transaction.begin)) → sight ≡ None
      → (transaction : Transaction) → with_write (Some write) current ≡ Some transaction → ShowsAt history sight transaction.writes (at transaction.number transaction.begin)
  write_unseen at sight write None is none transaction e = absurd (none-some transaction e)
  write_unseen at sight write (Some old) is none transaction e =
      subst (λ (t : Transaction). ShowsAt history sight t.writes (at t.number t.begin)) (same_Some (record old { writes = joined old.writes write }) transaction e)
      (unseen (at old.number old.begin) (is old refl))
    where
      unseen : (time : Option ℕ) → ShowsAt history sight old.writes time → ShowsAt history sight (joined old.writes write) time
      unseen None shows = none
      unseen (Some time) shows = absurd (none-some shows.now (sym none ∙ shows.is))

  pub write_seen : (at : ℕ → ℕ → Option ℕ) (sight : Option Sight) (old new : Sight) (write : Write) (current : Option Transaction) → ((transaction : Transaction) → current ≡ Some transaction → ShowsAt history sight transaction.writes (at transaction.number transaction.begin)) → sight ≡ Some old
      → seen history new ≡ applied (seen history old) write
      → (transaction : Transaction) → with_write (Some write) current ≡ Some transaction → ShowsAt history (Some new) transaction.writes (at transaction.number transaction.begin)
  write_seen at sight old new write None is here step transaction e = absurd (none-some transaction e)
  write_seen at sight old new write (Some before) is here step transaction e =
      subst (λ (t : Transaction). ShowsAt history (Some new) t.writes (at t.number t.begin)) (same_Some (record before { writes = joined before.writes write }) transaction e)
      (stepped (at before.number before.begin) (is before refl))
    where
      stepped : (time : Option ℕ) → ShowsAt history sight before.writes time → ShowsAt history (Some new) (joined before.writes write) time
      stepped None shows = absurd (none-some old (sym shows ∙ here))
      stepped (Some time) shows =
          let same : shows.now ≡ old = same_Some shows.now old (sym shows.is ∙ here) in
          let join = joins before.writes write in
          let table : seen history new ≡ snapshot history time (joined before.writes write) =
          step ∙ ap (λ (s : Sight). applied (seen history s) write) (sym same) ∙ ap (λ (t : Rows). applied t write) shows.shows ∙ sym (join.table (snapshot history time []) shows.ordered) in
          record { now = new; is = refl; shows = table; ordered = join.order shows.ordered }

  -- ---- all of them

  module _ (at : ℕ → ℕ → ℕ → Option ℕ) (sights : List (Option Sight)) (front : List Answered) (reply : Reply) where
    pub sights_phase : AreSights history at sights front → AreSights history at sights (front ++ answered Phase reply ∷ [])
    sights_phase are session below transaction e = are session below transaction (ap (λ (s : SessionState). s.current) (sym (state_of-push session front (answered Phase reply))) ∙ e)

    pub sights_merge : (range column : ℕ) → AreSights history at sights front → AreSights history at sights (front ++ answered (Merge range column) reply ∷ [])
    sights_merge range column are session below transaction e = are session below transaction (ap (λ (s : SessionState). s.current) (sym (state_of-push session front (answered (Merge range column) reply))) ∙ e)

    pub sights_call : (speaker : ℕ) (call : CallKind) (next : Option Sight) → speaker < length sights
        → (IsSightOf history (at speaker) (get_or sights speaker None) (state_of speaker front) → IsSightOf history (at speaker) next (after_call call reply (state_of speaker front)))
        → AreSights history at sights front → AreSights history at (set sights speaker next) (front ++ answered (Call speaker call) reply ∷ [])
    sights_call speaker call next within step are session below transaction e =
        by_test (eqb speaker session) refl (ap (λ (s : SessionState). s.current) (sym (state_of-push session front (answered (Call speaker call) reply))) ∙ e)
      where
        by_test : (b : Bool) → eqb speaker session ≡ b → (cond b (after_call call reply (state_of session front)) (state_of session front)).current ≡ Some transaction → ShowsAt history (get_or (set sights speaker next) session None) transaction.writes (at session transaction.number transaction.begin)
        by_test true same now =
            let is : speaker ≡ session = eqb-true speaker session same in
            subst (λ (s : ℕ). (after_call call reply (state_of s front)).current ≡ Some transaction → ShowsAt history (get_or (set sights speaker next) s None) transaction.writes (at s transaction.number transaction.begin)) is
            (λ h. subst (λ (o : Option Sight). ShowsAt history o transaction.writes (at speaker transaction.number transaction.begin)) (sym (get_or-set_same sights speaker next None within)) (step (are speaker within) transaction h))
            now
        by_test false other now =
            subst (λ (o : Option Sight). ShowsAt history o transaction.writes (at session transaction.number transaction.begin)) (sym (get_or-set_other sights speaker session next None (λ h. eqb-false speaker session other (sym h))))
            (are session (subst (λ (n : ℕ). session < n) (length-set sights speaker next) below) transaction now)

-- a sight is looked at from the begin that is told
pub from_begin_opens : (state : SessionState) (reply : Reply) (opening : Option ℕ) → opening ≡ begun_time reply → Opens from_begin state reply opening
from_begin_opens state reply opening is = by_time (begun_time reply) is
  where
    by_time : (time : Option ℕ) → opening ≡ time → IfSome time (λ begin. opening ≡ Some begin)
    by_time None e = tt
    by_time (Some time) e = e

pub from_begin_passes : (front : List Answered) (one : Answered) (opening : Option ℕ) → IfCall (λ session call reply. opening ≡ begun_time reply) one.line one.reply
    → IfCall (λ session call reply. Opens from_begin (state_of session front) reply opening) one.line one.reply
from_begin_passes front one opening is = by_line one.line is
  where
    by_line : (line : Line) → IfCall (λ session call reply. opening ≡ begun_time reply) line one.reply → IfCall (λ session call reply. Opens from_begin (state_of session front) reply opening) line one.reply
    by_line Phase h = tt
    by_line (Merge range column) h = tt
    by_line (Call session call) h = from_begin_opens (state_of session front) one.reply opening h

-- ---- reads and writes together

module _ (limits : Limits) (history : List Commit) (run : List Answered) where
  abbrev pub Both : Type 0
  Both = AtEachCall (λ before session call reply. ReadIsAnswered limits history (state_of session before).current call reply) run × AtEachWrite (λ before session transaction write reply. WriteIsAnswered history transaction write reply) run

  pub both_of : AtEach (TellsSeen limits history) run → Both
  both_of each = (
    calls_of (λ before session call reply. ReadIsAnswered limits history (state_of session before).current call reply) run (λ before one after e. (each before one after e).read),
    calls_of (λ before session call reply. IfSome (state_of session before).current (λ transaction. IfSome (write_of call) (λ write. WriteIsAnswered history transaction write reply))) run (λ before one after e. (each before one after e).write),
  )

  pub of_both : Both → AtEach (TellsSeen limits history) run
  of_both both before one after e = record {
    read = of_calls (λ before session call reply. ReadIsAnswered limits history (state_of session before).current call reply) run both.0 before one after e;
    write = of_calls (λ before session call reply. IfSome (state_of session before).current (λ transaction. IfSome (write_of call) (λ write. WriteIsAnswered history transaction write reply))) run both.1 before one after e;
  }

-- what is kept behind the front of a run
pub record Watched (sessions : ℕ) (history : List Commit) (at : ℕ → ℕ → ℕ → Option ℕ) (sights : List (Option Sight)) (front : List Answered) : Type 0 where
  pub all : length sights ≡ sessions
  pub are : AreSights history at sights front
