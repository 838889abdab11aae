-- A commit of an open transaction's writes: it may follow what the journal stands for, it has a record, and the machine's history is longer by it.
use Rattle.std.proofs.Common.{◌≡◌, ℕ, ◌+◌, ◌<◌, ◌≤◌, ◌^◌, List, [], ◌∷◌, ◌++◌, length, get_or, set, true, None, refl, sym, ap, ◌∙◌, subst, arith}
use Rattle.std.proofs.lemmas.List.{set-get_or}
use Rattle.lst_layout.specs.declared.layout.Layout.{Layout}
use Rattle.lst_layout.specs.declared.limits.Limits.{Limits}
use Rattle.lst_core_state.specs.declared.known.Known.{Known}
use Rattle.lst_core_state.specs.Writes.{commit}
use Rattle.lst_model.specs.declared.acts.Write.{Write}
use Rattle.lst_model.specs.declared.commits.Commit.{Commit}
use Rattle.lst_model.specs.declared.lines.Call.TheVariants.{Commit as CommitCall}
use Rattle.lst_model.specs.declared.lines.Line.{Line}
use Rattle.lst_model.specs.declared.lines.Line.TheVariants.{Call}
use Rattle.lst_model.specs.declared.replies.Reply.TheVariants as reply
use Rattle.lst_model.specs.Soundness.{Follows}
use Rattle.lst_machine.specs.State.{Store, State}
use Rattle.lst_machine.specs.Writes.{own_writes}
use Rattle.lst_machine.specs.Calls.{store_after}
use Rattle.lst_snapshots.specs.Replays.{FollowsOver, MayFollow}
use Rattle.lst_refinement.proofs.Follows.{open_may_follow}
use Rattle.lst_refinement.proofs.Owns.{own_writes_are_told}
use Rattle.lst_replay_laws.specs.Again.{writes_in}
use Rattle.lst_replay_laws.specs.Counts.{IsCounted, SameCommits}
use Rattle.lst_replay_laws.specs.Rests.{HasRoomFor, with_tails}
use Rattle.lst_replay_laws.proofs.Counted.{calls_are_counted, counted_has_room}
use Rattle.lst_replay_laws.proofs.Runs.{same_have_writes, same_grows}
use Rattle.lst_disk.specs.Disk.{LeavesOnly}
use Rattle.lst_log.specs.Format.{HasRecord}
use Rattle.lst_log.specs.Journals.{StandsForOrOneMore}
use Rattle.lst_log.specs.Logs.{Keeps}
use Rattle.lst_log.specs.declared.log.Log.{Log}
use Rattle.lst_rule.specs.declared.view.View.{View}
use Rattle.lst_rule.specs.Rule.{knows}
use Rattle.lst_rule.specs.Learned.{Possible}
use Rattle.lst_session.specs.declared.crew.Crew.{Crew}
use Rattle.lst_session.specs.Calls.{Commits}
use Rattle.lst_session.specs.Crews.{IsCrewOf, TellsState, Answers, store_told}
use Rattle.lst_session.proofs.Crewed.{IsCrewView, crew_view, core_of, known_is, is_crew, told_is, begins_is, opened_by, opened_some}
use Rattle.lst_redo.specs.declared.journal.Redo.{Redo}
use Rattle.lst_redo.specs.Journals.{view_of, IsJournalOf, IsCrewFor}
use Rattle.lst_redo.specs.Owns.{FitRecord, AreOwn, commit_of}
use Rattle.lst_redo.specs.Answers.{MayLeave, HasRoomAfter}
use Rattle.lst_redo.proofs.Answering.{leaves}
use Rattle.lst_redo.proofs.Crewing.{crew_for, journal_of}
use Rattle.lst_redo.proofs.Lists.{own_kept}
use Rattle.lst_redo.proofs.Owning.{over}
use Rattle.lst_redo.proofs.Telling.{committed_history}

module _ {D : Type 0} (before : Redo D) (p : Possible (view_of before)) (s : ℕ) (low : s < (view_of before).limits.sessions)
    (is_open : (knows (view_of before) s).is_open ≡ true) (some : 0 < length (knows (view_of before) s).own) (commits : List Commit) (journal : IsCrewFor commits before) where
  crew : IsCrewView (view_of before)
  crew = crew_view before.store before.crew journal.crew_of journal.tells

  known : knows (view_of before) s ≡ p.known s
  known = known_is (view_of before) crew p s low

  own_told : own_writes (view_of before).limits (store_told (view_of before)) s ≡ (knows (view_of before) s).own
  own_told = ap (λ (st : Store). own_writes (view_of before).limits st s) (told_is (view_of before) crew p)
      ∙ own_writes_are_told (core_of (view_of before) crew p) (is_crew (view_of before) crew p) s low (ap (λ (k : Known). k.is_open) (sym known) ∙ is_open) ∙ ap (λ (k : Known). k.own) (sym known)

  follows : Follows (store_told (view_of before)).history (commit_of (view_of before) s)
  follows = subst (λ (k : Known). Follows (store_told (view_of before)).history (commit s k.number k.begin k.own)) (sym known)
      (open_may_follow (core_of (view_of before) crew p) (is_crew (view_of before) crew p) s low (ap (λ (k : Known). k.is_open) (sym known) ∙ is_open) (subst (λ (k : Known). 0 < length k.own) known some))

  -- it may follow
  pub may : FollowsOver → MayFollow commits (commit_of (view_of before) s)
  may law = law (store_told (view_of before)).history commits (commit_of (view_of before) s) (same_have_writes (store_told (view_of before)).history commits journal.same) follows

  abbrev after : Store
  after = store_after (view_of before).limits (store_told (view_of before)) s CommitCall

  grown : (after).history ≡ (store_told (view_of before)).history ++ commit_of (view_of before) s ∷ []
  grown = committed_history (view_of before).limits (store_told (view_of before)) s (opened_by (view_of before) s low) (knows (view_of before) s).own (opened_some (view_of before) s low is_open) own_told some
      ∙ ap (λ (n : ℕ). (store_told (view_of before)).history ++ commit s n (knows (view_of before) s).begin (knows (view_of before) s).own ∷ []) (begins_is (view_of before) s low)

  same_after : SameCommits (after).history (commits ++ commit_of (view_of before) s ∷ [])
  same_after = subst (λ (h : List Commit). SameCommits h (commits ++ commit_of (view_of before) s ∷ [])) (sym grown)
      (same_grows (store_told (view_of before)).history commits (commit_of (view_of before) s) (commit_of (view_of before) s) journal.same refl refl)

  counted_after : IsCounted (view_of before).limits (after)
  counted_after = calls_are_counted (view_of before).limits (store_told (view_of before)) s CommitCall low journal.counted

  -- the limits have room for it
  room_for_more : HasRoomFor (with_tails (view_of before).limits (writes_in (commits ++ commit_of (view_of before) s ∷ []))) (commits ++ commit_of (view_of before) s ∷ [])
  room_for_more = counted_has_room (view_of before).limits (after) (commits ++ commit_of (view_of before) s ∷ []) counted_after same_after

  pub line_has_room : (line : Line) → line ≡ Call s CommitCall → HasRoomAfter (view_of before) commits line
  line_has_room line is = subst (λ (l : Line). HasRoomAfter (view_of before) commits l) (sym is) room_for_more

  kept_is : get_or before.own s [] ≡ (knows (view_of before) s).own
  kept_is = journal.own.are s low is_open

  -- it is made of what the crew and the kept writes tell
  pub commit_is : (n b : ℕ) (ws : List Write) → n ≡ (knows (view_of before) s).number → b ≡ (knows (view_of before) s).begin → ws ≡ get_or before.own s [] → commit s n b ws ≡ commit_of (view_of before) s
  commit_is n b ws number begin writes = λ i. commit s (number i) (begin i) ((writes ∙ kept_is) i)

  -- what a crash may leave while it is appended
  pub append_leaves : FollowsOver → (line : Line) → line ≡ Call s CommitCall → (n b : ℕ) (ws : List Write) → n ≡ (knows (view_of before) s).number → b ≡ (knows (view_of before) s).begin → ws ≡ get_or before.own s []
      → (clock : D → ℕ) (images_since : D → ℕ → List ℕ → Type 0) (old new : D) → (MayFollow commits (commit s n b ws) → LeavesOnly clock images_since old new (StandsForOrOneMore before.log.columns commits (commit s n b ws)))
      → LeavesOnly clock images_since old new (MayLeave before.log.columns (view_of before) commits line)
  append_leaves law line is n b ws number begin writes clock images_since old new run =
      let same = commit_is n b ws number begin writes in
      leaves (view_of before) s line is is_open some clock images_since old new before.log.columns commits (commit s n b ws) same (run (subst (MayFollow commits) (sym same) (may law)))

  columns_are : (view_of before).limits.columns ≡ before.log.columns
  columns_are = ap (λ (l : Limits). l.columns) journal.crew_of.seat_of.limits ∙ sym journal.columns

  pub has_record : (n b : ℕ) (ws : List Write) → s < 2 ^ 32 → n < 2 ^ 32 → b < 2 ^ 64 → ws ≡ get_or before.own s [] → HasRecord before.log.columns (commit s n b ws)
  has_record n b ws few_s few_n few_b is =
      let fit : FitRecord before.log.columns ws = subst (λ (l : List Write). FitRecord before.log.columns l) (sym is) (subst (λ (n : ℕ). FitRecord n (get_or before.own s [])) columns_are (journal.own.fit s low)) in record {
        session = few_s;
        number = few_n;
        begin = few_b;
        some = subst (λ (l : List Write). 0 < length l) (sym (is ∙ kept_is)) some;
        few = fit.few;
        order = fit.order;
        writes = fit.each;
      }

  -- the journal once the crew made it too
  module _ (log : Log D) (crew_now : Crew) (own : List (List Write)) (columns_stay : log.columns ≡ before.log.columns) where
    pub committed : (time : ℕ) → IsCrewOf before.store crew_now → TellsState crew_now.seat.view → Answers (view_of before) crew_now.seat.view s CommitCall (reply.Committed time)
        → Commits (view_of before) crew_now.seat.view s time → own ≡ before.own → IsCrewFor (commits ++ commit_of (view_of before) s ∷ []) (record before { log = log; crew = crew_now; own = own })
    committed time of tells answers commits_so is =
        let told : store_told crew_now.seat.view ≡ after = ap (λ (st : State). st.store) answers.next in record {
          columns = columns_stay ∙ journal.columns;
          few = subst (λ (n : ℕ). n ≤ 8) (sym columns_stay) journal.few;
          crew_of = of;
          tells = tells;
          same = subst (λ (st : Store). SameCommits st.history (commits ++ commit_of (view_of before) s ∷ [])) (sym told) same_after;
          counted = subst (λ (l : Limits). IsCounted l (store_told crew_now.seat.view)) (sym answers.limits) (subst (IsCounted (view_of before).limits) (sym told) counted_after);
          own = own_kept (view_of before) crew_now.seat.view s None (reply.Committed time) before.own own low answers.limits journal.own
              (over (view_of before) crew_now.seat.view s None (reply.Committed time) commits_so.called commits_so.ended.is_open) tt (is ∙ sym (set-get_or before.own s []));
        }

-- ---- the log is another, or the lists were put back

pub crew_with_log : {D : Type 0} (before : Redo D) (log : Log D) (own : List (List Write)) (commits : List Commit) → log.columns ≡ before.log.columns → own ≡ before.own → IsCrewFor commits before → IsCrewFor commits (record before { log = log; own = own })
crew_with_log before log own commits columns_stay is crew = record {
  columns = columns_stay ∙ crew.columns;
  few = subst (λ (n : ℕ). n ≤ 8) (sym columns_stay) crew.few;
  crew_of = crew.crew_of;
  tells = crew.tells;
  same = crew.same;
  counted = crew.counted;
  own = subst (AreOwn (view_of before)) (sym is) crew.own;
}

pub with_log : {D : Type 0} (content : D → List ℕ) (images : D → List ℕ → Type 0) (before : Redo D) (log : Log D) (own : List (List Write)) (commits : List Commit)
    → log.columns ≡ before.log.columns → Keeps content images commits log → own ≡ before.own → IsJournalOf content images commits before → IsJournalOf content images commits (record before { log = log; own = own })
with_log content images before log own commits columns_stay keeps is journal =
    journal_of content images (record before { log = log; own = own }) commits keeps (crew_with_log before log own commits columns_stay is (crew_for content images before commits journal))
