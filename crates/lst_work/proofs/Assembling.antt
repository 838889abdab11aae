-- All sessions of a new store have worked on a generated script.
use Rattle.std.proofs.Common.{◌≡◌, ℕ, ◌+◌, ◌-◌, ◌*◌, ◌%◌, ◌<◌, ◌≤◌, true, List, [], ◌∷◌, ◌++◌, length, map, Option, Some, None, IfSome, refl, sym, ap, subst, ◌∙◌, arith, append_assoc}
use Rattle.std.specs.Prelude.{MatchOption}
use Rattle.std.specs.List.{AllByRecursion, count_by}
use Rattle.std.proofs.lemmas.List.{take_all, get_or-replicate}
use Rattle.std.proofs.lemmas.List.Elements.{recursion_from_All}
use Rattle.std.proofs.lemmas.Nat.{mod_below}
use Rattle.lst_layout.specs.declared.limits.Limits.{Limits}
use Rattle.lst_layout.specs.declared.layout.Layout.{Layout}
use Rattle.lst_layout.specs.Words.{shown}
use Rattle.lst_model.specs.declared.acts.Write.{Write}
use Rattle.lst_model.specs.declared.commits.Commit.{Commit}
use Rattle.lst_model.specs.declared.lines.Line.{Line}
use Rattle.lst_model.specs.declared.lines.Line.TheVariants.{Phase, Merge, Call}
use Rattle.lst_model.specs.declared.lines.Call.{Call as CallKind}
use Rattle.lst_model.specs.declared.lines.Call.TheVariants.{Begin, Count, Sum, Commit as CommitCall}
use Rattle.lst_model.specs.declared.replies.Reply.{Reply}
use Rattle.lst_model.specs.declared.replies.Reply.TheVariants.{Begun, Committed, Ended, Sum as SumReply, Count as CountReply, Silent}
use Rattle.lst_model.specs.Histories.{Extends, all_acts_on, row_from, table_at}
use Rattle.lst_model.specs.Tables.{row_of, count_of, sum_of}
use Rattle.lst_model.proofs.Folds.{get_table_at}
use Rattle.lst_core_state.specs.declared.known.Known.{Known}
use Rattle.lst_core_state.specs.State.{commits_of, history_of, newcomer}
use Rattle.lst_rule.specs.declared.store.Store.{Store}
use Rattle.lst_rule.specs.declared.view.View.{View}
use Rattle.lst_rule.specs.Learned.{Possible}
use Rattle.lst_rule.specs.Rule.{knows, crew as opening_view}
use Rattle.lst_rule.proofs.Knowing.{knows_own}
use Rattle.lst_replies.specs.declared.reports.Report.{Report}
use Rattle.lst_replies.specs.declared.states.SessionState.{SessionState}
use Rattle.lst_replies.specs.declared.states.Transaction.{Transaction}
use Rattle.lst_replies.specs.Runs.{Answered, answered, AtEachCall, is_insert, run_of, write_of}
use Rattle.lst_replies.specs.Explained.{EndIsExact}
use Rattle.lst_replies.specs.States.{unbegun, state_of}
use Rattle.lst_replies.specs.ReplyKinds.{HaveReplyShape, can_answer}
use Rattle.lst_session.specs.declared.crew.Crew.{Crew}
use Rattle.lst_session.specs.Crews.{store_told}
use Rattle.lst_work_laws.specs.Lines.{session_told}
use Rattle.lst_work_laws.specs.Worked.{IsWorked}
use Rattle.lst_work_laws.proofs.Mergers.{all_at}
use Rattle.lst_work.specs.Totals.{state_behind, MayBeginAgain, HasNoTotal, IsTotal}
use Rattle.lst_work.proofs.Totalling.{told_behind, never_both}
use Rattle.lst_script.specs.Counted.{LineWritesOwn, is_write, IsCounted}
use Rattle.lst_script.specs.Generated.{range_count, course_at, final_lines, inserts, transfers, generated}
use Rattle.lst_script.proofs.Counting.{balanced_at, counted}
use Rattle.lst_work.specs.declared.loading.Loaded.{Loaded}
use Rattle.lst_work.specs.Scripted.{Doing, nothing_done, doing_behind, transactions_of}
use Rattle.lst_work.specs.Loaded.{load_limits, TellsTotals, HoldsLoad, GeneratedIsLoaded, GeneratedHasTotal}
use Rattle.lst_work.proofs.Lists.{acts_in, writes_in, acts_in-map, CommitsOwn, acts_of_own}
use Rattle.lst_work.proofs.Going.{Goes}
use Rattle.lst_work.proofs.Lining.{Follows, IsFree, closed_of}
use Rattle.lst_work.proofs.LoadWalking.{lines_in, AllSucceed, succeed_behind, Walked, walk}
use Rattle.lst_work.proofs.Balancing.{row_at}
use Rattle.lst_work.proofs.Generating.{Through, generated_through}
use Rattle.lst_work.proofs.Owning.{lines_of_run, LinesOwn, own_lines, history_own}
use Rattle.lst_work.proofs.Freeing.{count_lines, all_free, inserts_counted}
use Rattle.lst_work.proofs.Summing.{rows_counted, rows_summed}
use Rattle.lst_work.proofs.LoadReading.{same_totals}
use Rattle.lst_replies.proofs.Shapes.{KindOf, kinds_of}
use Rattle.lst_work.proofs.LastPhase.{Parts, parted, Four, four_of, final_run, Totals, totals}

module _ (seed keys n : ℕ) (layout : Layout) (report : Report) (store : Store) (crew : Crew) (some : 0 < keys) (few : keys ≤ 4096) (hosts_some : 0 < n) (limits : layout.limits ≡ load_limits keys n)
    (worked : IsWorked layout (generated keys n seed) report store crew) (possible : Possible crew.seat.view) where
  abbrev l : Limits
  l = layout.limits

  abbrev v : View
  v = crew.seat.view

  abbrev lines : List Line
  lines = generated keys n seed

  abbrev run : List Answered
  run = run_of lines report.replies

  abbrev history : List Commit
  history = (store_told v).history

  sessions_are : l.sessions ≡ n
  sessions_are = ap (λ (x : Limits). x.sessions) limits

  -- ---- the lines

  script : IsCounted keys n seed
  script = counted keys n hosts_some seed some

  lines_are : lines_in run ≡ lines
  lines_are = lines_of_run lines report.replies worked.legal.shape

  own : LinesOwn n run
  own = own_lines n run (subst (AllByRecursion (LineWritesOwn n)) (sym lines_are) (recursion_from_All (LineWritesOwn n) lines script.apart))

  all_kinds : AllByRecursion (λ (one : Answered). KindOf one.line one.reply) run
  all_kinds = kinds_of lines report.replies worked.legal.shape

  kind_at : (before : List Answered) (one : Answered) (after : List Answered) → run ≡ before ++ one ∷ after → KindOf one.line one.reply
  kind_at before one after place = all_at (λ (x : Answered). KindOf x.line x.reply) before one after (subst (AllByRecursion (λ (x : Answered). KindOf x.line x.reply)) place all_kinds)

  kinds : AtEachCall (λ before s call reply. can_answer call reply ≡ true) run
  kinds before s call reply after place = kind_at before (answered (Call s call) reply) after place

  calls : (before : List Answered) (line : Line) (time : ℕ) (after : List Answered) → run ≡ before ++ answered line (Committed time) ∷ after → (s : ℕ) × (call : CallKind) × (line ≡ Call s call)
  calls before line time after place = by_line line (kind_at before (answered line (Committed time)) after place)
    where
      by_line : (line : Line) → KindOf line (Committed time) → (s : ℕ) × (call : CallKind) × (line ≡ Call s call)
      by_line Phase kind = cc
      by_line (Merge range column) kind = cc
      by_line (Call s call) kind = (s, call, refl)

  owns : CommitsOwn n history
  owns = history_own n run history own calls worked.legal.matches.entered worked.legal.matches.told

  free : AtEachCall (λ before s call reply. IfSome (state_of s before).current (λ (t : Transaction). IfSome (write_of call) (λ (w : Write). IsFree reply))) run
  free = all_free l n run history own kinds worked.legal.conflicts worked.legal.fullness
      (let a = count_lines is_insert run in let b = ap (count_by is_insert) lines_are in let c = inserts_counted keys n seed in let r : l.ranges ≡ range_count keys = ap (λ (x : Limits). x.ranges) limits in omega arith)
      (let a = count_lines is_write run in let b = ap (count_by is_write) lines_are in let c = script.writes in let f = script.few in let t : l.tails ≡ 16384 = ap (λ (x : Limits). x.tails) limits in omega arith)

  ends : AtEachCall (λ before s call reply. EndIsExact (state_of s before).current call reply) run
  ends before s call reply after place = (worked.legal.refusals before s call reply after place).end

  -- ---- each session

  module _ (j : ℕ) (low : j < n) where
    abbrev now : Known
    now = knows v j

    in_view : j < v.limits.sessions
    in_view = subst (λ (k : ℕ). j < k) (sym (ap (λ (x : Limits). x.sessions) worked.crew_of.seat_of.limits ∙ (ap (λ (x : Layout). x.limits.sessions) worked.opened ∙ sessions_are))) low

    same : now ≡ possible.known j
    same = knows_own v possible.words possible.known possible.merger possible.allowed j (worked.crew_of.hosted j in_view) (λ (is : j ≡ v.limits.sessions). absurd (let k = in_view in omega arith))

    history_is : history ≡ history_of v.limits (shown v.limits possible.words)
    history_is = ap (λ (ws : List ℕ). history_of v.limits (shown v.limits ws)) (possible.allowed.whole worked.whole)

    sees : Extends history now.seen
    sees = subst (λ (h : List Commit). Extends h now.seen) (sym history_is) (subst (λ (k : Known). Extends (history_of v.limits (shown v.limits possible.words)) k.seen) (sym same) (possible.allowed.sound.views j in_view).prefix)

    pub own_commits : commits_of j now.seen ≡ commits_of j history
    own_commits = ap (λ (k : Known). commits_of j k.seen) same ∙ ((possible.allowed.sound.views j in_view).own ∙ ap (commits_of j) (sym history_is))

    fresh : knows (opening_view l) j ≡ newcomer l
    fresh = get_or-replicate (l.sessions + 1) j (newcomer l) (newcomer l) (let k = subst (λ (m : ℕ). j < m) (sym sessions_are) low in omega arith)

    through : Through l.txns n j (keys + keys + 1) (course_at keys n seed keys).balances lines nothing_done
    through = generated_through l.txns n j keys hosts_some seed (let t : l.txns ≡ 16384 = ap (λ (x : Limits). x.txns) limits in omega arith)

    first_follows : Follows j nothing_done (session_told (newcomer l)) (newcomer l).seen
    first_follows = record { begun = refl; done = refl; opens = tt }

    walked : Walked j nothing_done run now
    walked = walk l n j history owns run kinds free ends run [] refl nothing_done (knows (opening_view l) j) now
        (worked.sessions j (subst (λ (k : ℕ). j < k) (sym sessions_are) low)).lives sees
        (subst (λ (ls : List Line). Goes l.txns n j nothing_done ls) (sym lines_are) through.goes)
        (subst (λ (k : Known). session_told k ≡ unbegun) (sym fresh) refl)
        (subst (λ (k : Known). Follows j nothing_done (session_told k) k.seen) (sym fresh) first_follows)

    pub commits : map writes_in (commits_of j now.seen) ≡ transactions_of j lines
    commits = walked.follows.done ∙ ap (λ (ls : List Line). (doing_behind j ls nothing_done).done) lines_are

    -- it has none open, and may begin once more
    pub may_begin_again : MayBeginAgain l (state_behind lines report j)
    may_begin_again =
        let told = told_behind layout lines report store crew worked j (subst (λ (k : ℕ). j < k) (sym sessions_are) low) in
        let behind = ap (λ (ls : List Line). doing_behind j ls nothing_done) lines_are in
        record {
          closed = ap (λ (st : SessionState). st.current) (sym told)
              ∙ closed_of j now.seen (session_told now).current (doing_behind j (lines_in run) nothing_done).current (ap (λ (d : Doing). d.current) behind ∙ through.holds.closed) walked.follows.opens;
          unspent = λ e.
              let a = ap (λ (st : SessionState). st.begun) told in let b = walked.follows.begun in let c = ap (λ (d : Doing). d.begun) behind in let h = through.holds.begun in
              let t : l.txns ≡ 16384 = ap (λ (x : Limits). x.txns) limits in absurd (omega arith);
        }

    row_told : (q : ℕ) → j ≡ (q - 1) % n → row_of (table_at history (length history)) q ≡ row_at (course_at keys n seed keys).balances q
    row_told q has =
        get_table_at history (length history) q
        ∙ (ap (λ (cs : List Commit). row_from None (all_acts_on q cs)) (take_all (length history) history (omega arith))
        ∙ (ap (row_from None) (acts_of_own n j q history owns has ∙ (ap (all_acts_on q) (sym own_commits) ∙ (acts_in-map q (commits_of j now.seen) ∙ ap (acts_in q) commits)))
        ∙ through.holds.rows q has))

  -- ---- the table

  rows : (q : ℕ) → row_of (table_at history (length history)) q ≡ row_at (course_at keys n seed keys).balances q
  rows q = row_told ((q - 1) % n) (mod_below (q - 1) n hosts_some) q refl

  row_count : count_of (table_at history (length history)) ≡ keys
  row_count = rows_counted (table_at history (length history)) (course_at keys n seed keys).balances rows ∙ (balanced_at keys n hosts_some seed keys).each

  row_sum : sum_of (table_at history (length history)) 0 ≡ 1000 * keys
  row_sum = rows_summed (table_at history (length history)) (course_at keys n seed keys).balances rows ∙ ((balanced_at keys n hosts_some seed keys).total ∙ omega arith)

  -- ---- the last phase

  abbrev front_lines : List Line
  front_lines = inserts keys n keys ++ Phase ∷ transfers keys n seed keys

  lines_parted : lines ≡ front_lines ++ Phase ∷ final_lines
  lines_parted = sym (append_assoc (inserts keys n keys) (Phase ∷ transfers keys n seed keys) (Phase ∷ final_lines))

  parts : Parts front_lines (Phase ∷ final_lines) report.replies
  parts = parted front_lines (Phase ∷ final_lines) report.replies (subst (λ (ls : List Line). HaveReplyShape ls report.replies) lines_parted worked.legal.shape)

  four : Four parts.back
  four = four_of parts.back parts.shape

  front_run : List Answered
  front_run = run_of front_lines parts.front

  -- the run with its last phase
  run_parted : run ≡ front_run ++ answered Phase Silent ∷ answered (Call 0 Begin) four.one ∷ answered (Call 0 Count) four.two ∷ answered (Call 0 (Sum 0)) four.three ∷ answered (Call 0 CommitCall) four.four ∷ []
  unfolding front_run
  run_parted = ap (λ (ls : List Line). run_of ls report.replies) lines_parted ∙ (parts.run ∙ ap (λ (rs : List (Option ℕ × Reply)). front_run ++ run_of (Phase ∷ final_lines) rs) four.is)

  record Answers : Type 0 where
    pub begin : ℕ
    pub rows : ℕ
    pub total : ℕ
    pub time : ℕ
    pub one : four.one ≡ Begun begin
    pub two : four.two ≡ CountReply rows
    pub three : four.three ≡ SumReply total
    pub last : four.four ≡ Ended time

  answers : Answers
  answers =
      let all = succeed_behind 0 nothing_done front_run
      (answered Phase Silent ∷ answered (Call 0 Begin) four.one ∷ answered (Call 0 Count) four.two ∷ answered (Call 0 (Sum 0)) four.three ∷ answered (Call 0 CommitCall) four.four ∷ [])
      (subst (AllSucceed 0 nothing_done) run_parted (walked 0 hosts_some).succeed) in
      let a = all.1.0 refl in let b = all.1.1.0 refl in let c = all.1.1.1.0 refl in let d = all.1.1.1.1.0 refl in
      record { begin = a.0; rows = b.0; total = c.0; time = d.0; one = a.1; two = b.1; three = c.1; last = d.1 }

  run_told : run ≡ (front_run ++ answered Phase Silent ∷ []) ++ final_run answers.begin answers.rows answers.total answers.time
  run_told =
      run_parted
      ∙ (ap (λ (r : Reply). front_run ++ answered Phase Silent ∷ answered (Call 0 Begin) r ∷ answered (Call 0 Count) four.two ∷ answered (Call 0 (Sum 0)) four.three ∷ answered (Call 0 CommitCall) four.four ∷ []) answers.one
      ∙ (ap (λ (r : Reply). front_run ++ answered Phase Silent ∷ answered (Call 0 Begin) (Begun answers.begin) ∷ answered (Call 0 Count) r ∷ answered (Call 0 (Sum 0)) four.three ∷ answered (Call 0 CommitCall) four.four ∷ []) answers.two
      ∙ (ap (λ (r : Reply). front_run ++ answered Phase Silent ∷ answered (Call 0 Begin) (Begun answers.begin) ∷ answered (Call 0 Count) (CountReply answers.rows) ∷ answered (Call 0 (Sum 0)) r ∷ answered (Call 0 CommitCall) four.four ∷ []) answers.three
      ∙ (ap (λ (r : Reply). front_run ++ answered Phase Silent ∷ answered (Call 0 Begin) (Begun answers.begin) ∷ answered (Call 0 Count) (CountReply answers.rows) ∷ answered (Call 0 (Sum 0)) (SumReply answers.total) ∷ answered (Call 0 CommitCall) r ∷ []) answers.last
      ∙ sym (append_assoc front_run (answered Phase Silent ∷ []) (final_run answers.begin answers.rows answers.total answers.time))))))

  told_totals : Totals history answers.begin answers.rows answers.total answers.time
  told_totals = totals l run history front_run answers.begin answers.rows answers.total answers.time run_told worked.legal.matches.told worked.legal.times worked.legal.reads worked.legal.refusals

  replies_told : report.replies ≡ parts.front ++ (Some 0, Begun answers.begin) ∷ (Some 0, CountReply answers.rows) ∷ (Some 0, SumReply answers.total) ∷ (Some 0, Ended answers.begin) ∷ []
  replies_told =
      parts.is ∙ (ap (λ (rs : List (Option ℕ × Reply)). parts.front ++ rs) four.is
      ∙ (ap (λ (r : Reply). parts.front ++ (Some 0, r) ∷ (Some 0, four.two) ∷ (Some 0, four.three) ∷ (Some 0, four.four) ∷ []) answers.one
      ∙ (ap (λ (r : Reply). parts.front ++ (Some 0, Begun answers.begin) ∷ (Some 0, r) ∷ (Some 0, four.three) ∷ (Some 0, four.four) ∷ []) answers.two
      ∙ (ap (λ (r : Reply). parts.front ++ (Some 0, Begun answers.begin) ∷ (Some 0, CountReply answers.rows) ∷ (Some 0, r) ∷ (Some 0, four.four) ∷ []) answers.three
      ∙ ap (λ (r : Reply). parts.front ++ (Some 0, Begun answers.begin) ∷ (Some 0, CountReply answers.rows) ∷ (Some 0, SumReply answers.total) ∷ (Some 0, r) ∷ []) (answers.last ∙ ap Ended told_totals.same)))))

  told_here : TellsTotals report.replies answers.rows answers.total
  told_here = record { front = parts.front; begin = answers.begin; is = replies_told }

  -- it is the numbers that the replies tell
  pub held_as : (x : Loaded) → TellsTotals report.replies x.rows x.total → HoldsLoad seed keys n report x crew
  held_as x h = let u = same_totals report.replies x.rows x.total answers.rows answers.total h told_here in record {
    told = h;
    rows = u.0 ∙ (told_totals.counted ∙ row_count);
    total = u.1 ∙ (told_totals.added ∙ row_sum);
    counted = u.0 ∙ told_totals.counted;
    added = u.1 ∙ told_totals.added;
    commits = commits;
  }

  pub some_totals : (rows : ℕ) × (total : ℕ) × TellsTotals report.replies rows total
  some_totals = (answers.rows, answers.total, told_here)

  held : (loaded : Loaded) × HoldsLoad seed keys n report loaded crew
  held = (record { rows = answers.rows; total = answers.total }, held_as (record { rows = answers.rows; total = answers.total }) told_here)

pub generated_script_is_loaded : GeneratedIsLoaded
generated_script_is_loaded seed keys n layout report store crew some few hosts_some limits worked possible = held seed keys n layout report store crew some few hosts_some limits worked possible

pub generated_script_has_total : GeneratedHasTotal
generated_script_has_total seed keys n layout column report total store crew some few hosts_some limits x = by_total total x.total_is
  where
    by_total : (o : Option ℕ) → MatchOption o (HasNoTotal layout (generated keys n seed) report x.before crew) (λ sum. IsTotal layout (generated keys n seed) report store column x.before sum crew) → (sum : ℕ) × (o ≡ Some sum)
    by_total (Some sum) h = (sum, refl)
    by_total None h = let low : h.session < n = subst (λ (k : ℕ). h.session < k) (ap (λ (m : Limits). m.sessions) limits) h.low in
        absurd (never_both layout.limits (state_behind (generated keys n seed) report h.session)
        (may_begin_again seed keys n layout report store x.before some few hosts_some limits x.worked x.possible h.session low) h.may_not)
