-- A crew that is ahead of its disk: it has made commits that wait to be written together.
use Rattle.std.proofs.Common.{◌≡◌, ◌↔◌, ℕ, suc, ◌+◌, ◌<◌, ◌≤◌, true, List, [], ◌∷◌, ◌++◌, length, drop, Option, Result, Ok, Err, IfOk, refl, sym, ap, ◌∙◌, subst, arith, append_assoc, append-nil}
use Rattle.std.specs.Prelude.{OnOk}
use Rattle.std.proofs.lemmas.List.{drop_all, drop_more}
use Rattle.lst_disk.specs.Disk.{overwritten, LeavesOnly}
use Rattle.lst_model.specs.declared.acts.Write.{Write}
use Rattle.lst_model.specs.declared.commits.Commit.{Commit}
use Rattle.lst_model.specs.declared.memory.OutOfMemory.{OutOfMemory}
use Rattle.lst_model.specs.declared.lines.Call.TheVariants as call
use Rattle.lst_model.specs.declared.lines.Line.{Line}
use Rattle.lst_model.specs.declared.lines.Line.TheVariants.{Phase, Merge, Call}
use Rattle.lst_model.specs.declared.replies.Reply.{Reply}
use Rattle.lst_model.specs.declared.replies.Reply.TheVariants.{Committed}
use Rattle.lst_log.specs.Format.{journal, record_of}
use Rattle.lst_log.specs.Journals.{AllMayFollow, StandsForOrAll}
use Rattle.lst_log.specs.Logs.{Keeps, AreStaged, MakesRoom}
use Rattle.lst_log.specs.declared.log.Log.{Log}
use Rattle.lst_log.specs.declared.log.StageFault.{StageFault}
use Rattle.lst_log.specs.declared.log.StageFault.TheVariants as stage
use Rattle.lst_log.proofs.Moments.{started, weakened, one_after}
use Rattle.lst_rule.specs.declared.store.Store.{Store as Table}
use Rattle.lst_rule.specs.declared.view.View.{View}
use Rattle.lst_rule.specs.Rule.{knows}
use Rattle.lst_rule.specs.Learned.{Possible}
use Rattle.lst_session.specs.declared.crew.Crew.{Crew}
use Rattle.lst_session.specs.Calls.{Commits}
use Rattle.lst_session.specs.Crews.{IsCrewOf, TellsState, Answers, AnswersLine}
use Rattle.lst_scan.specs.Lines.{KeepsState, LineLooks}
use Rattle.lst_snapshots.specs.Replays.{FollowsOver, MayFollow}
use Rattle.lst_redo.specs.declared.journal.Kept.{Kept}
use Rattle.lst_redo.specs.declared.journal.Kept.TheVariants.{Reply as Replied, JournalFull, DiskFault}
use Rattle.lst_redo.specs.declared.journal.Redo.{Redo}
use Rattle.lst_redo.specs.Journals.{view_of, IsCrewFor, HasCrew}
use Rattle.lst_redo.specs.Owns.{commit_of}
use Rattle.lst_redo.specs.Answers.{CommitsWrites, IsAnswered, LacksRoom, commits_after, CrewAnswers}
use Rattle.lst_redo.specs.Ahead.{IsRun, AreRun, MayBeMade, made_after, IsAhead, GoesAhead}
use Rattle.lst_redo.proofs.ByCrew.{lacks_commits, replied_not_full, replied_not_fault}
use Rattle.lst_redo.proofs.Committing.{may, committed, crew_with_log}

pub ok_not_full : (r : Result Unit StageFault) (u : Unit) → r ≡ Ok u → ¬ (r ≡ Err stage.JournalFull)
ok_not_full r u is same = cc

full_not_fault : JournalFull ≡ DiskFault → ⊥
full_not_fault e = cc

-- ---- a disk that only makes room

module _ {D : Type 0} (content : D → List ℕ) (images : D → List ℕ → Type 0) (clock : D → ℕ) (images_since : D → ℕ → List ℕ → Type 0) (calls_left : D → Option ℕ) (faults : D → ℕ) where
  pub rooms_none : (disk : D) → ((c : List ℕ) → images_since disk (clock disk) c → images disk c) → MakesRoom content images clock images_since calls_left faults disk disk
  rooms_none disk only_now = record { same = refl; fewer = λ c left. left; run = started clock images_since disk (images disk) only_now; left = refl; unfailed = refl }

  pub rooms_on : (old mid new : D) → MakesRoom content images clock images_since calls_left faults old mid → MakesRoom content images clock images_since calls_left faults mid new → MakesRoom content images clock images_since calls_left faults old new
  rooms_on old mid new first second = record {
    same = second.same ∙ first.same;
    fewer = λ c left. first.fewer c (second.fewer c left);
    run = one_after clock images_since old mid new (images old) first.run (weakened clock images_since mid new (images mid) (images old) first.fewer second.run);
    left = second.left ∙ first.left;
    unfailed = second.unfailed ∙ first.unfailed;
  }

-- ---- the commits that were made

pub after_append : (v : View) (commits made : List Commit) (line : Line) (kept : Kept) → commits_after v (commits ++ made) line kept ≡ commits ++ commits_after v made line kept
after_append v commits made (Call s call.Commit) (Replied (Committed time)) = append_assoc commits made (commit_of v s ∷ [])
after_append v commits made (Call s call.Commit) (Replied r) = refl
after_append v commits made (Call s call.Commit) kept = refl
after_append v commits made (Call s c) kept = refl
after_append v commits made line kept = refl

follow_more : (commits made : List Commit) (c : Commit) → AllMayFollow commits made → MayFollow (commits ++ made) c → AllMayFollow commits (made ++ c ∷ [])
follow_more commits [] c all one = (subst (λ (cs : List Commit). MayFollow cs c) (append-nil commits) one, tt)
follow_more commits (d ∷ made) c all one = (all.0, follow_more (commits ++ d ∷ []) made c all.1 (subst (λ (cs : List Commit). MayFollow cs c) (sym (append_assoc commits (d ∷ []) made)) one))

pub follow_after : (v : View) (commits made : List Commit) (line : Line) (kept : Kept) → AllMayFollow commits made → MayBeMade v (commits ++ made) line kept → AllMayFollow commits (commits_after v made line kept)
follow_after v commits made (Call s call.Commit) (Replied (Committed time)) all one = follow_more commits made (commit_of v s) all one
follow_after v commits made (Call s call.Commit) (Replied r) all one = all
follow_after v commits made (Call s call.Commit) kept all one = all
follow_after v commits made (Call s c) kept all one = all
follow_after v commits made line kept all one = all

none_may : (v : View) (commits : List Commit) (line : Line) (kept : Kept) → commits_after v [] line kept ≡ [] → MayBeMade v commits line kept
none_may v commits (Call s call.Commit) (Replied (Committed time)) none = absurd (omega (arith, ap length none))
none_may v commits (Call s call.Commit) (Replied r) none = tt
none_may v commits (Call s call.Commit) kept none = tt
none_may v commits (Call s c) kept none = tt
none_may v commits line kept none = tt

module _ {D : Type 0} (content : D → List ℕ) (images : D → List ℕ → Type 0) (clock : D → ℕ) (images_since : D → ℕ → List ℕ → Type 0) (room_calls room_bytes : D → ℕ) (calls_left : D → Option ℕ) (faults : D → ℕ) where
  abbrev Ahead : Redo D → Redo D → List Commit → List ℕ → Type 0
  Ahead old new made batch = IsAhead content images clock images_since room_calls room_bytes calls_left faults old new made batch

  abbrev Goes : Redo D → Redo D → List Commit → List ℕ → Line → Result Kept OutOfMemory → Type 0
  Goes old new made batch line r = GoesAhead content images clock images_since room_calls room_bytes calls_left faults old new made batch line r

  abbrev Staged : List Commit → List ℕ → Log D → Type 0
  Staged made batch log = AreStaged content room_calls room_bytes made batch log

  -- a line that the crew answers alone
  pub by_crew_ahead : (before after : Redo D) (line : Line) → ¬ CommitsWrites (view_of before) line → (made : List Commit) (batch : List ℕ) → Staged made batch before.log
      → ((c : List ℕ) → images_since before.log.disk (clock before.log.disk) c → images before.log.disk c) → (r : Result Kept OutOfMemory) → CrewAnswers before after line r → Goes before after made batch line r
  by_crew_ahead before after line none made batch staged only_now (Ok kept) x = record {
    run = record {
      answered = subst (λ (k : Kept). IsAnswered (view_of before) (view_of after) line k) (sym x.reply.1) x.reply.2;
      full = (λ e. absurd (replied_not_full x.reply.0 (sym e ∙ x.reply.1)), λ lacks. absurd (none (lacks_commits (view_of before) line _ _ _ lacks)));
      sound = λ e. replied_not_fault x.reply.0 (sym e ∙ x.reply.1);
    };
    staged = subst (λ (cs : List Commit). Staged cs batch after.log) (sym (x.none made)) (subst (Staged made batch) (sym x.log) staged);
    follow = λ commits crew. none_may (view_of before) commits line kept (x.none []);
    crew = λ commits crew. subst (λ (cs : List Commit). IsCrewFor cs after) (sym (x.none commits)) (x.crew commits crew);
    keeps = λ commits keeps. subst (Keeps content images commits) (sym x.log) keeps;
    memory = tt;
    looks = tt;
    room = subst (λ (l : Log D). MakesRoom content images clock images_since calls_left faults before.log.disk l.disk) (sym x.log) (rooms_none content images clock images_since calls_left faults before.log.disk only_now);
    columns = ap (λ (l : Log D). l.columns) x.log;
    end = ap (λ (l : Log D). l.end) x.log;
    failed = x.failed;
    store = x.store;
    crew_of = x.crew_of;
  }
  by_crew_ahead before after line none made batch staged only_now (Err e) x = record {
    run = tt;
    staged = subst (Staged made batch) (sym x.log) staged;
    follow = λ commits crew. tt;
    crew = x.crew;
    keeps = λ commits keeps. subst (Keeps content images commits) (sym x.log) keeps;
    memory = x.memory;
    looks = x.looks;
    room = subst (λ (l : Log D). MakesRoom content images clock images_since calls_left faults before.log.disk l.disk) (sym x.log) (rooms_none content images clock images_since calls_left faults before.log.disk only_now);
    columns = ap (λ (l : Log D). l.columns) x.log;
    end = ap (λ (l : Log D). l.end) x.log;
    failed = x.failed;
    store = x.store;
    crew_of = x.crew_of;
  }

  -- a commit of writes
  module _ (before : Redo D) (p : Possible (view_of before)) (s : ℕ) (low : s < (view_of before).limits.sessions) (is_open : (knows (view_of before) s).is_open ≡ true) (some : 0 < length (knows (view_of before) s).own)
      (opened : HasCrew before) (made : List Commit) (log : Log D) (own : List (List Write)) (batch : List ℕ)
      (keeps : (commits : List Commit) → Keeps content images commits before.log → Keeps content images commits log) (room : MakesRoom content images clock images_since calls_left faults before.log.disk log.disk)
      (columns : log.columns ≡ before.log.columns) (end : log.end ≡ before.log.end) (own_is : own ≡ before.own) where
    abbrev lacks : Type 0
    lacks = length (content before.log.disk) < before.log.end + length (journal before.log.columns made) + length (record_of before.log.columns (commit_of (view_of before) s)) + 1

    -- it is staged, and the crew made it
    pub made_ahead : FollowsOver → (crew_now : Crew) (time : ℕ) → Staged (made ++ commit_of (view_of before) s ∷ []) batch log → ¬ lacks → IsCrewOf before.store crew_now → TellsState crew_now.seat.view
        → Answers (view_of before) crew_now.seat.view s call.Commit (Committed time) → Commits (view_of before) crew_now.seat.view s time
        → Goes before (record before { log = log; crew = crew_now; own = own }) made batch (Call s call.Commit) (Ok (Replied (Committed time)))
    made_ahead law crew_now time staged fits of tells answers commits_so = record {
      run = record {
        answered = record { is = answers.reply; then = answers.next; limits = answers.limits };
        full = (λ e. absurd (replied_not_full (Committed time) (sym e)), λ lack. absurd (fits lack.2));
        sound = λ e. replied_not_fault (Committed time) (sym e);
      };
      staged = staged;
      follow = λ commits crew. may before p s low is_open some commits crew law;
      crew = λ commits crew. committed before p s low is_open some commits crew log crew_now own columns time of tells answers commits_so own_is;
      keeps = keeps;
      memory = tt;
      looks = tt;
      room = room;
      columns = columns;
      end = end;
      failed = refl;
      store = refl;
      crew_of = of;
    }

    -- it has no room
    pub full_ahead : Staged made batch log → lacks → Goes before (record before { log = log; own = own }) made batch (Call s call.Commit) (Ok JournalFull)
    full_ahead staged lack = record {
      run = record {
        answered = ((is_open, some), refl);
        full = (λ e. (is_open, some, lack), λ x. refl);
        sound = λ e. full_not_fault e;
      };
      staged = staged;
      follow = λ commits crew. tt;
      crew = λ commits crew. crew_with_log before log own commits columns own_is crew;
      keeps = keeps;
      memory = tt;
      looks = tt;
      room = room;
      columns = columns;
      end = end;
      failed = refl;
      store = refl;
      crew_of = opened.1.crew_of;
    }

    -- memory is wanting
    pub wants_ahead : (e : OutOfMemory) → Staged made batch log → Goes before (record before { log = log; own = own }) made batch (Call s call.Commit) (Err e)
    wants_ahead e staged = record {
      run = tt;
      staged = staged;
      follow = λ commits crew. tt;
      crew = λ commits crew. crew_with_log before log own commits columns own_is crew;
      keeps = keeps;
      memory = λ tells. (tells, refl);
      looks = refl;
      room = room;
      columns = columns;
      end = end;
      failed = refl;
      store = refl;
      crew_of = opened.1.crew_of;
    }

  -- ---- one line after another

  pub none_ahead : (before : Redo D) (batch : List ℕ) → batch ≡ [] → ((c : List ℕ) → images_since before.log.disk (clock before.log.disk) c → images before.log.disk c) → HasCrew before → Ahead before before [] batch
  none_ahead before batch is only_now opened = record {
    staged = record { is_batch = is; ready = λ some. absurd (omega (arith, some, ap length is)) };
    follow = λ commits crew. tt;
    crew = λ commits crew. subst (λ (cs : List Commit). IsCrewFor cs before) (sym (append-nil commits)) crew;
    keeps = λ commits keeps. keeps;
    room = rooms_none content images clock images_since calls_left faults before.log.disk only_now;
    columns = refl;
    end = refl;
    failed = refl;
    store = refl;
    crew_of = opened.1.crew_of;
  }

  pub next_ahead : (before mid after : Redo D) (made : List Commit) (was batch : List ℕ) (line : Line) (kept : Kept) → Ahead before mid made was → Goes mid after made batch line (Ok kept) → Ahead before after (commits_after (view_of mid) made line kept) batch
  next_ahead before mid after made was batch line kept so_far goes = record {
    staged = goes.staged;
    follow = λ commits crew. follow_after (view_of mid) commits made line kept (so_far.follow commits crew) (goes.follow (commits ++ made) (so_far.crew commits crew));
    crew = λ commits crew. subst (λ (cs : List Commit). IsCrewFor cs after) (after_append (view_of mid) commits made line kept) (goes.crew (commits ++ made) (so_far.crew commits crew));
    keeps = λ commits keeps. goes.keeps commits (so_far.keeps commits keeps);
    room = rooms_on content images clock images_since calls_left faults before.log.disk mid.log.disk after.log.disk so_far.room goes.room;
    columns = goes.columns ∙ so_far.columns;
    end = goes.end ∙ so_far.end;
    failed = goes.failed ∙ so_far.failed;
    store = goes.store ∙ so_far.store;
    crew_of = goes.crew_of;
  }

  pub last_ahead : (before mid after : Redo D) (made : List Commit) (was batch : List ℕ) (line : Line) (e : OutOfMemory) → Ahead before mid made was → Goes mid after made batch line (Err e) → Ahead before after made batch
  last_ahead before mid after made was batch line e so_far goes = record {
    staged = goes.staged;
    follow = so_far.follow;
    crew = λ commits crew. goes.crew (commits ++ made) (so_far.crew commits crew);
    keeps = λ commits keeps. goes.keeps commits (so_far.keeps commits keeps);
    room = rooms_on content images clock images_since calls_left faults before.log.disk mid.log.disk after.log.disk so_far.room goes.room;
    columns = goes.columns ∙ so_far.columns;
    end = goes.end ∙ so_far.end;
    failed = goes.failed ∙ so_far.failed;
    store = goes.store ∙ so_far.store;
    crew_of = goes.crew_of;
  }

  pub limits_same : (before mid : Redo D) (made : List Commit) (batch : List ℕ) → Ahead before mid made batch → IsCrewOf before.store before.crew → (view_of mid).limits ≡ (view_of before).limits
  limits_same before mid made batch ahead of = ahead.crew_of.seat_of.limits ∙ ap (λ (store : Table). store.layout.limits) ahead.store ∙ sym of.seat_of.limits

  -- what is run of the lines so far, said by what is still to be run
  abbrev pub RunSoFar : Redo D → Redo D → List Commit → List Line → List Line → List Kept → Type 0
  RunSoFar before mid made lines left answers = (rest : List Kept) (w : View) (all : List Commit)
      → AreRun before.log.columns before.log.end (length (content before.log.disk)) (view_of mid) made left rest w all → AreRun before.log.columns before.log.end (length (content before.log.disk)) (view_of before) [] lines (answers ++ rest) w all

  pub run_here : (before mid : Redo D) (made : List Commit) (was : List ℕ) → Ahead before mid made was → (w : View) (line : Line) (kept : Kept) → IsRun mid.log.columns mid.log.end (length (content mid.log.disk)) (view_of mid) w made line kept
      → IsRun before.log.columns before.log.end (length (content before.log.disk)) (view_of mid) w made line kept
  run_here before mid made was so_far w line kept run =
      subst (λ (n : ℕ). IsRun n before.log.end (length (content before.log.disk)) (view_of mid) w made line kept) so_far.columns
      (subst (λ (n : ℕ). IsRun mid.log.columns n (length (content before.log.disk)) (view_of mid) w made line kept) so_far.end
      (subst (λ (n : ℕ). IsRun mid.log.columns mid.log.end n (view_of mid) w made line kept) (ap length so_far.room.same) run))

  pub run_next : (before mid after : Redo D) (made : List Commit) (was batch : List ℕ) (lines left behind : List Line) (line : Line) (answers : List Kept) (kept : Kept) → left ≡ line ∷ behind → Ahead before mid made was
      → Goes mid after made batch line (Ok kept) → RunSoFar before mid made lines left answers → RunSoFar before after (commits_after (view_of mid) made line kept) lines behind (answers ++ kept ∷ [])
  run_next before mid after made was batch lines left behind line answers kept is so_far goes runs = λ rest w all more.
      let columns : ℕ = before.log.columns in
      let end : ℕ = before.log.end in
      let size : ℕ = length (content before.log.disk) in
      subst (λ (ks : List Kept). AreRun columns end size (view_of before) [] lines ks w all) (sym (append_assoc answers (kept ∷ []) rest))
      (runs (kept ∷ rest) w all (subst (λ (ls : List Line). AreRun columns end size (view_of mid) made ls (kept ∷ rest) w all) (sym is) (view_of after, run_here before mid made was so_far (view_of after) line kept goes.run, more)))

  pub run_wants : (before mid after : Redo D) (made : List Commit) (batch : List ℕ) (lines left behind : List Line) (line : Line) (answers : List Kept) (e : OutOfMemory) → left ≡ line ∷ behind
      → Goes mid after made batch line (Err e) → RunSoFar before mid made lines left answers → AreRun before.log.columns before.log.end (length (content before.log.disk)) (view_of before) [] lines answers (view_of after) made
  run_wants before mid after made batch lines left behind line answers e is goes runs =
      let columns : ℕ = before.log.columns in
      let end : ℕ = before.log.end in
      let size : ℕ = length (content before.log.disk) in
      subst (λ (ks : List Kept). AreRun columns end size (view_of before) [] lines ks (view_of after) made) (append-nil answers)
      (runs [] (view_of after) made (subst (λ (ls : List Line). AreRun columns end size (view_of mid) made ls [] (view_of after) made) (sym is) (goes.memory, goes.looks, refl)))

  pub run_done : (before mid : Redo D) (made : List Commit) (lines left : List Line) (answers : List Kept) → left ≡ [] → RunSoFar before mid made lines left answers
      → AreRun before.log.columns before.log.end (length (content before.log.disk)) (view_of before) [] lines answers (view_of mid) made
  run_done before mid made lines left answers is runs =
      let columns : ℕ = before.log.columns in
      let end : ℕ = before.log.end in
      let size : ℕ = length (content before.log.disk) in
      subst (λ (ks : List Kept). AreRun columns end size (view_of before) [] lines ks (view_of mid) made) (append-nil answers)
      (runs [] (view_of mid) made (subst (λ (ls : List Line). AreRun columns end size (view_of mid) made ls [] (view_of mid) made) (sym is) (refl, refl)))
