-- A line of a run: it is answered as the definition says, and the run stands where that says, or has ended there.
use Rattle.std.proofs.Math.Seq.{drop-cons}
use Rattle.std.proofs.lemmas.List.{drop_all}
use Rattle.std.proofs.Common.{add-one, suc, drop, slice_index_or, ◌≡◌, ◌↔◌, inl, inr, ⊎_elim, ℕ, ◌+◌, ◌-◌, ◌<◌, ◌≤◌, Bool, true, false, cond, List, [], ◌∷◌, ◌++◌, length, Option, Some, None, Result, Ok, refl, sym, ap, ◌∙◌, subst, arith, length-append}
use Rattle.std.specs.Prelude.{nat_lt, not}
use Rattle.std.specs.List.{AllByRecursion}
use Rattle.std.proofs.lemmas.Bool.{lt-ltb, le-ltb, ltb-true, ltb-false}
use Rattle.std.proofs.lemmas.Grind.{flat_map-append}
use Rattle.lst_layout.specs.declared.limits.Limits.{Limits}
use Rattle.lst_layout.specs.Limits.{IsValid}
use Rattle.lst_model.specs.declared.commits.Commit.{Commit}
use Rattle.lst_model.specs.declared.lines.Line.{Line}
use Rattle.lst_model.specs.declared.memory.OutOfMemory.{OutOfMemory}
use Rattle.lst_model.specs.declared.replies.Reply.{Reply}
use Rattle.lst_model.specs.declared.replies.Reply.TheVariants as reply
use Rattle.lst_model.specs.Lines.{LineFits}
use Rattle.lst_machine.specs.State.{State}
use Rattle.lst_machine.specs.Machine as machine
use Rattle.lst_disk.specs.declared.memory.MemDisk.{MemDisk}
use Rattle.lst_disk.specs.Disk.{LeavesOnly}
use Rattle.lst_disk.specs.Memory.{disk_content, disk_clock, disk_images, disk_images_since, disk_synced, disk_outcome, disk_left}
use Rattle.lst_disk.specs.MemoryLaws.{synced_stays}
use Rattle.lst_log.specs.Format.{record_of, journal, HasRecord}
use Rattle.lst_log.specs.Journals.{StandsFor}
use Rattle.lst_log.specs.Logs.{StopsShort}
use Rattle.lst_log.specs.declared.log.Log.{Log}
use Rattle.lst_replay_laws.specs.Again.{writes_in}
use Rattle.lst_replay_laws.specs.Rests.{HasRoomFor, with_tails}
use Rattle.lst_replay_laws.proofs.Counted.{counted_has_room}
use Rattle.lst_rule.specs.declared.view.View.{View}
use Rattle.lst_rule.specs.Learned.{Possible}
use Rattle.lst_session.specs.Crews.{store_told, state_told}
use Rattle.lst_session.proofs.Crewed.{IsCrewView, crew_view}
use Rattle.lst_redo.specs.declared.journal.Kept.{Kept}
use Rattle.lst_redo.specs.declared.journal.Kept.TheVariants.{Reply as Replied, JournalFull, DiskFault}
use Rattle.lst_redo.specs.declared.journal.Redo.{Redo}
use Rattle.lst_redo.specs.Journals.{view_of, IsJournalOf}
use Rattle.lst_redo.specs.Owns.{commit_of}
use Rattle.lst_redo.specs.Answers.{CommitsWrites, MayLeave, StopsAt, IsAnswered, commits_after, HasRoomAfter, LacksRoom, CountsLine}
use Rattle.lst_crash.specs.Crashes.{most_bytes, commit_by, Run, record_size, answer_of, run_after, answer, later, kept_text, is_fault, Ending, ended, ending_from, with_one, recovered}
use Rattle.lst_crash.specs.Recovering.{IsAt, IsRunning, IsRecoverable, HasEnded, GoesOn}
use Rattle.lst_crash.proofs.Made.{history_stays, commits_stay, reply_committed, history_grows, MakesCommit, MakesNothing, by_line}
use Rattle.lst_crash.proofs.Rooms.{few_writes, has_room_again}

-- what a journal promises of a line over a disk in memory
pub record IsKept (old new : Redo MemDisk) (line : Line) (kept : Kept) : Type 0 where
  pub answered : IsAnswered (view_of old) (view_of new) line kept
  pub journal : (commits : List Commit) → IsJournalOf disk_content disk_images commits old → (kept ≡ DiskFault → ⊥) → IsJournalOf disk_content disk_images (commits_after (view_of old) commits line kept) new
  pub any_moment : (commits : List Commit) → IsJournalOf disk_content disk_images commits old → LeavesOnly disk_clock disk_images_since old.log.disk new.log.disk (MayLeave old.log.columns (view_of old) commits line)
  pub full : (kept ≡ JournalFull) ↔ LacksRoom (view_of old) line old.log.columns old.log.end (length (disk_content old.log.disk))
  pub room : (commits : List Commit) → IsJournalOf disk_content disk_images commits old → CommitsWrites (view_of old) line → HasRoomAfter (view_of old) commits line
  pub size : (kept ≡ DiskFault → ⊥) → length (disk_content new.log.disk) ≡ length (disk_content old.log.disk)
  pub failed : (new.failed ≡ true) ↔ (kept ≡ DiskFault)
  pub calls : CountsLine (view_of old) line (Some (disk_left old.log.disk)) (Some (disk_left new.log.disk)) kept
  pub still : (CommitsWrites (view_of old) line → ⊥) → new.log ≡ old.log
  pub refused : kept ≡ JournalFull → new.log ≡ old.log
  pub stopped : kept ≡ DiskFault → (commits : List Commit) → IsJournalOf disk_content disk_images commits old
      → StopsAt old.log.columns (view_of old) commits line (Some (disk_left old.log.disk)) (disk_content new.log.disk) (Some (disk_outcome new.log.disk))

ok_same : (a b : Kept) → ◌≡◌ {A = Result Kept OutOfMemory} (Ok a) (Ok b) → a ≡ b
ok_same a b e = cc

-- what is said of an answer is said of what is kept
pub of_kept : (result : Result Kept OutOfMemory) (kept one : Kept) (P : Type 0) → result ≡ Ok kept → (result ≡ Ok one) ↔ P → (kept ≡ one) ↔ P
of_kept result kept one P is both = (λ e. both.0 (is ∙ ap Ok e), λ x. ok_same kept one (sym is ∙ both.1 x))

not_less : (a b : ℕ) → (a < b → ⊥) → b ≤ a
not_less a b never = by (nat_lt a b) refl
  where
    by : (t : Bool) → nat_lt a b ≡ t → b ≤ a
    by true e = absurd (never (ltb-true a b e))
    by false e = ltb-false a b e

reply_is_no_fault : (a : Reply) → Replied a ≡ DiskFault → ⊥
reply_is_no_fault a e = cc

full_is_no_fault : JournalFull ≡ DiskFault → ⊥
full_is_no_fault e = cc

fault_is_not_full : DiskFault ≡ JournalFull → ⊥
fault_is_not_full e = cc

reply_is_not_full : (a : Reply) → Replied a ≡ JournalFull → ⊥
reply_is_not_full a e = cc

not_true : (b : Bool) → (b ≡ true → ⊥) → b ≡ false
not_true true never = absurd (never refl)
not_true false never = refl

some_left : (a b : ℕ) → Some a ≡ Some b → a ≡ b
some_left a b e = cc

-- one record more
journal_more : (columns : ℕ) (commits : List Commit) (c : Commit) → length (journal columns (commits ++ c ∷ [])) ≡ length (journal columns commits) + length (record_of columns c)
journal_more columns commits c =
    let both = ap length (flat_map-append (record_of columns) commits (c ∷ [])) in
    let lengths = length-append (journal columns commits) (journal columns (c ∷ [])) in
    let last = length-append (record_of columns c) [] in omega (arith, both, lengths, last)

-- the disk failed at this commit: what it has written stands for the commits so far, and for this one too where its gate was opened; what it has synced for
-- those so far
pub record HasStopped (limits : Limits) (run : Run) (disk : MemDisk) (made : Option Commit) : Type 0 where
  pub written : IsRecoverable limits (with_one (not (nat_lt run.left 3)) run.state.store.history made) (disk_content disk)
  pub synced : IsRecoverable limits run.state.store.history (disk_synced disk)

-- the line is answered as the definition says; where the disk didn't fail the journal is where the run stands then
pub record HasPassed (limits : Limits) (bytes : ℕ) (run : Run) (new : Redo MemDisk) (line : Line) (kept : Kept) : Type 0 where
  pub is : answer limits bytes run line ≡ kept
  pub goes : (kept ≡ DiskFault → ⊥) → IsAt limits bytes (later limits bytes run line) new
  pub ends : kept ≡ DiskFault → HasStopped limits run new.log.disk (commit_by limits run.state.store line)

module _ (limits : Limits) (bytes : ℕ) (run : Run) (old : Redo MemDisk) (some : 1 ≤ limits.columns) (few : bytes ≤ most_bytes) (here : IsAt limits bytes run old) where
  abbrev v : View
  v = view_of old

  abbrev history : List Commit
  history = run.state.store.history

  columns_are : old.log.columns ≡ limits.columns
  columns_are = here.journal.columns ∙ ap (λ (l : Limits). l.columns) (sym here.journal.crew_of.seat_of.limits ∙ here.opened)

  -- ---- the commits so far

  each_before : AllByRecursion (HasRecord limits.columns) (history)
  each_before = subst (λ (n : ℕ). AllByRecursion (HasRecord n) (history)) columns_are here.journal.keeps.stands.lists.each

  end_is : run.end ≡ length (journal limits.columns (history))
  end_is = sym here.end ∙ here.journal.keeps.end ∙ ap (λ (n : ℕ). length (journal n (history))) columns_are

  within : length (journal limits.columns (history)) ≤ bytes
  within =
      let lists = here.journal.keeps.stands.lists in
      let whole = ap length lists.whole in
      let both = length-append (journal old.log.columns (history)) lists.rest in
      let same = ap (λ (n : ℕ). length (journal n (history))) columns_are in
      let size = here.size in omega (arith, whole, both, same, size)

  -- they can be recovered from an image that stands for them
  pub so_far : (image : List ℕ) → StandsFor old.log.columns image (history) → IsRecoverable limits (history) image
  so_far image stands = record {
    stands = subst (λ (n : ℕ). StandsFor n image (history)) columns_are stands;
    room = has_room_again limits (history)
        (subst (λ (l : Limits). HasRoomFor (with_tails l (writes_in (history))) (history)) here.opened
        (counted_has_room (v).limits (store_told (v)) (history) here.journal.counted here.journal.same))
        (few_writes limits.columns some (history) bytes each_before within few);
  }

  module _ (new : Redo MemDisk) (line : Line) where
    made_is : commit_by limits run.state.store line ≡ commit_by (v).limits (store_told (v)) line
    made_is = λ i. commit_by (sym here.opened i) (sym here.told i).store line

    reply_is : machine.reply (v).limits (state_told (v)) line ≡ machine.reply limits run.state line
    reply_is = λ i. machine.reply (here.opened i) (here.told i) line

    next_is : machine.next (v).limits (state_told (v)) line ≡ machine.next limits run.state line
    next_is = λ i. machine.next (here.opened i) (here.told i) line

    -- ---- a line that commits no writes

    pub passed_by_crew : (p : Possible (v)) (m : MakesNothing (v) line) (kept : Kept) → IsKept old new line kept → HasPassed limits bytes run new line kept
    passed_by_crew p m JournalFull told = absurd (m.none told.answered.0)
    passed_by_crew p m DiskFault told = absurd (m.none told.answered.0)
    passed_by_crew p m (Replied a) told = record {
      is = is;
      goes = λ sound. subst (λ (r : Run). IsAt limits bytes r new) (sym then_is) record {
        journal = subst (λ (h : List Commit). IsJournalOf disk_content disk_images h new) same (told.journal (history) here.journal (reply_is_no_fault a));
        opened = told.answered.limits ∙ here.opened;
        told = told.answered.then ∙ next_is;
        end = ap (λ (log : Log MemDisk). log.end) log_is ∙ here.end;
        left = ap (λ (log : Log MemDisk). disk_left log.disk) log_is ∙ here.left;
        size = ap (λ (log : Log MemDisk). length (disk_content log.disk)) log_is ∙ here.size;
        sound = no_fault;
      };
      ends = λ e. absurd (reply_is_no_fault a e);
    }
      where
        none : commit_by limits run.state.store line ≡ None
        none = made_is ∙ m.made

        answer_is : a ≡ machine.reply limits run.state line
        answer_is = told.answered.is ∙ reply_is

        is : answer limits bytes run line ≡ Replied a
        is = ap (answer_of limits bytes run line) none ∙ ap Replied (sym answer_is)

        then_is : later limits bytes run line ≡ record run { state = machine.next limits run.state line }
        then_is = λ i. run_after limits run line (none i) (is i)

        log_is : new.log ≡ old.log
        log_is = told.still m.none

        same : commits_after (v) (history) line (Replied a) ≡ (machine.next limits run.state line).store.history
        same = ap (λ (r : Reply). commits_after (v) (history) line (Replied r)) answer_is ∙ commits_stay limits run.state (v) (history) line none ∙ sym (history_stays limits run.state line none)

        no_fault : new.failed ≡ false
        no_fault = not_true new.failed (λ e. reply_is_no_fault a (told.failed.0 e))

    -- ---- one that commits writes

    module _ (p : Possible (v)) (m : MakesCommit (v) line) where
      crew : IsCrewView (v)
      crew = crew_view old.store old.crew here.journal.crew_of here.journal.tells

      abbrev c : Commit
      c = commit_of (v) m.session

      committing : CommitsWrites (v) line
      committing = subst (CommitsWrites (v)) (sym m.is) (m.is_open, m.some)

      made : commit_by limits run.state.store line ≡ Some (c)
      made = made_is ∙ m.made

      history_is : (store_told (v)).history ≡ history
      history_is = ap (λ (st : State). st.store.history) here.told

      -- where the record with the byte behind it ends
      abbrev place : ℕ
      place = run.end + record_size limits (c) + 1

      record_same : length (record_of old.log.columns (c)) ≡ length (record_of limits.columns (c))
      record_same = ap (λ (n : ℕ). length (record_of n (c))) columns_are

      lacks : LacksRoom (v) line old.log.columns old.log.end (length (disk_content old.log.disk)) → bytes < (place)
      lacks x =
          let here_lacks = subst (λ (l : Line). LacksRoom (v) l old.log.columns old.log.end (length (disk_content old.log.disk))) m.is x in
          let low = here_lacks.2 in let e = here.end in let z = here.size in let r = record_same in omega (arith, low, e, z, r)

      has_place : (LacksRoom (v) line old.log.columns old.log.end (length (disk_content old.log.disk)) → ⊥) → (place) ≤ bytes
      has_place never = not_less bytes (place) (λ low. never (subst (λ (l : Line). LacksRoom (v) l old.log.columns old.log.end (length (disk_content old.log.disk))) (sym m.is)
          (m.is_open, m.some, (let e = here.end in let z = here.size in let r = record_same in omega (arith, low, e, z, r)))))

      abbrev spoken_of : Kept
      spoken_of = Replied (machine.reply limits run.state line)

      full_is : bytes < (place) → answer limits bytes run line ≡ JournalFull
      full_is low = ap (answer_of limits bytes run line) made ∙ ap (λ (b : Bool). cond b JournalFull (cond (nat_lt run.left 4) DiskFault (spoken_of))) (lt-ltb bytes (place) low)

      otherwise : (place) ≤ bytes → answer limits bytes run line ≡ cond (nat_lt run.left 4) DiskFault (spoken_of)
      otherwise high = ap (answer_of limits bytes run line) made ∙ ap (λ (b : Bool). cond b JournalFull (cond (nat_lt run.left 4) DiskFault (spoken_of))) (le-ltb bytes (place) high)

      -- ---- what a crash may leave where the disk failed

      one_more : IsKept old new line DiskFault → (place) ≤ bytes → (image : List ℕ) → StandsFor old.log.columns image ((history) ++ (c) ∷ []) → IsRecoverable limits ((history) ++ (c) ∷ []) image
      one_more told high image more =
          let stands : StandsFor limits.columns image ((history) ++ (c) ∷ []) = subst (λ (n : ℕ). StandsFor n image ((history) ++ (c) ∷ [])) columns_are more in
          let room : HasRoomFor (with_tails (v).limits (writes_in ((history) ++ (c) ∷ []))) ((history) ++ (c) ∷ []) = subst (λ (l : Line). HasRoomAfter (v) (history) l) m.is (told.room (history) here.journal committing) in
          record {
            stands = stands;
            room = has_room_again limits ((history) ++ (c) ∷ []) (subst (λ (l : Limits). HasRoomFor (with_tails l (writes_in ((history) ++ (c) ∷ []))) ((history) ++ (c) ∷ [])) here.opened room)
                (few_writes limits.columns some ((history) ++ (c) ∷ []) bytes stands.lists.each (let e = end_is in let w = journal_more limits.columns (history) (c) in omega (arith, e, w, high)) few);
          }

      stopped : IsKept old new line DiskFault → StopsShort old.log.columns (history) ((c) ∷ []) (disk_left old.log.disk) (disk_content new.log.disk) (disk_outcome new.log.disk)
      stopped told =
          subst (λ (l : Line). StopsAt old.log.columns (v) (history) l (Some (disk_left old.log.disk)) (disk_content new.log.disk) (Some (disk_outcome new.log.disk))) m.is (told.stopped refl (history) here.journal)

      has_stopped : IsKept old new line DiskFault → (place) ≤ bytes → HasStopped limits run new.log.disk (commit_by limits run.state.store line)
      has_stopped told high = subst (HasStopped limits run new.log.disk) (sym made) record {
        written = by (nat_lt run.left 3) (subst (λ (n : ℕ). StandsFor old.log.columns (disk_content new.log.disk) (cond (nat_lt n 3) (history) ((history) ++ (c) ∷ []))) here.left (stopped told).written);
        synced = so_far (disk_synced new.log.disk) (stopped told).synced;
      }
        where
          by : (b : Bool) → StandsFor old.log.columns (disk_content new.log.disk) (cond b (history) ((history) ++ (c) ∷ [])) → IsRecoverable limits (with_one (not b) (history) (Some (c))) (disk_content new.log.disk)
          by true stands = so_far (disk_content new.log.disk) stands
          by false stands = one_more told high (disk_content new.log.disk) stands

      -- ---- the answers

      pub passed_to_disk : (kept : Kept) → IsKept old new line kept → HasPassed limits bytes run new line kept
      passed_to_disk JournalFull told = record {
        is = is;
        goes = λ sound. subst (λ (r : Run). IsAt limits bytes r new) (sym then_is) record {
          journal = subst (λ (l : Line). IsJournalOf disk_content disk_images (commits_after (v) (history) l JournalFull) new) m.is (told.journal (history) here.journal full_is_no_fault);
          opened = ap (λ (w : View). w.limits) told.answered.1 ∙ here.opened;
          told = ap (λ (w : View). state_told w) told.answered.1 ∙ here.told;
          end = ap (λ (log : Log MemDisk). log.end) log_is ∙ here.end;
          left = ap (λ (log : Log MemDisk). disk_left log.disk) log_is ∙ here.left;
          size = ap (λ (log : Log MemDisk). length (disk_content log.disk)) log_is ∙ here.size;
          sound = not_true new.failed (λ e. full_is_no_fault (told.failed.0 e));
        };
        ends = λ e. absurd (full_is_no_fault e);
      }
        where
          is : answer limits bytes run line ≡ JournalFull
          is = full_is (lacks (told.full.0 refl))

          then_is : later limits bytes run line ≡ run
          then_is = λ i. run_after limits run line (made i) (is i)

          log_is : new.log ≡ old.log
          log_is = told.refused refl
      passed_to_disk DiskFault told = record {
        is = otherwise high ∙ ap (λ (b : Bool). cond b DiskFault (spoken_of)) (lt-ltb run.left 4 (subst (λ (n : ℕ). n < 4) here.left ((told.calls.0 committing).0.0 refl)));
        goes = λ sound. absurd (sound refl);
        ends = λ e. has_stopped told high;
      }
        where
          high : (place) ≤ bytes
          high = has_place (λ x. fault_is_not_full (told.full.1 x))
      passed_to_disk (Replied a) told = record {
        is = is;
        goes = λ sound. subst (λ (r : Run). IsAt limits bytes r new) (sym then_is) record {
          journal = journal_now;
          opened = opened;
          told = told.answered.then ∙ next_is;
          end = end_now;
          left = some_left _ _ ((told.calls.0 committing).1 ∙ ap (λ (n : ℕ). Some (n - 4)) here.left);
          size = told.size (reply_is_no_fault a) ∙ here.size;
          sound = not_true new.failed (λ e. reply_is_no_fault a (told.failed.0 e));
        };
        ends = λ e. absurd (reply_is_no_fault a e);
      }
        where
          high : (place) ≤ bytes
          high = has_place (λ x. reply_is_not_full a (told.full.1 x))

          four : 4 ≤ run.left
          four = not_less run.left 4 (λ low. reply_is_no_fault a ((told.calls.0 committing).0.1 (subst (λ (n : ℕ). n < 4) (sym here.left) low)))

          answer_is : a ≡ machine.reply limits run.state line
          answer_is = told.answered.is ∙ reply_is

          is : answer limits bytes run line ≡ Replied a
          is = otherwise high ∙ ap (λ (b : Bool). cond b DiskFault (spoken_of)) (le-ltb run.left 4 four) ∙ ap Replied (sym answer_is)

          then_is : later limits bytes run line ≡ record { state = machine.next limits run.state line; end = run.end + record_size limits (c); left = run.left - 4 }
          then_is = λ i. run_after limits run line (made i) (is i)

          opened : (view_of new).limits ≡ limits
          opened = told.answered.limits ∙ here.opened

          committed : a ≡ reply.Committed (length (store_told (v)).history + 1)
          committed = told.answered.is ∙ ap (machine.reply (v).limits (state_told (v))) m.is ∙ reply_committed (v) crew p m.session m.low m.is_open m.some

          grown : (machine.next limits run.state line).store.history ≡ (history) ++ (c) ∷ []
          grown = ap (λ (st : State). st.store.history) (sym next_is) ∙ ap (λ (l : Line). (machine.next (v).limits (state_told (v)) l).store.history) m.is
              ∙ history_grows (v) crew p m.session m.low m.is_open m.some ∙ ap (λ (h : List Commit). h ++ c ∷ []) history_is

          after_is : commits_after (v) (history) line (Replied a) ≡ (history) ++ (c) ∷ []
          after_is = λ i. commits_after (v) (history) (m.is i) (Replied (committed i))

          journal_grown : IsJournalOf disk_content disk_images ((history) ++ (c) ∷ []) new
          journal_grown = subst (λ (h : List Commit). IsJournalOf disk_content disk_images h new) after_is (told.journal (history) here.journal (reply_is_no_fault a))

          journal_now : IsJournalOf disk_content disk_images (machine.next limits run.state line).store.history new
          journal_now = subst (λ (h : List Commit). IsJournalOf disk_content disk_images h new) (sym grown) journal_grown

          columns_now : new.log.columns ≡ limits.columns
          columns_now = journal_grown.columns ∙ ap (λ (l : Limits). l.columns) (sym journal_grown.crew_of.seat_of.limits ∙ opened)

          end_now : new.log.end ≡ run.end + record_size limits (c)
          end_now = journal_grown.keeps.end ∙ ap (λ (n : ℕ). length (journal n ((history) ++ (c) ∷ []))) columns_now ∙ journal_more limits.columns (history) (c) ∙ ap (λ (n : ℕ). n + length (record_of limits.columns (c))) (sym end_is)

    -- ---- both

    pub passed : (p : Possible (v)) → LineFits (v).limits.sessions (v).limits.ranges (v).limits.columns line → (kept : Kept) → IsKept old new line kept → HasPassed limits bytes run new line kept
    passed p fits kept told =
        ⊎_elim (λ m. passed_to_disk p m kept told) (λ m. passed_by_crew p m kept told) (by_line (v) (crew_view old.store old.crew here.journal.crew_of here.journal.tells) p line fits)

    -- ---- with the text

    goes_so : (text : List ℕ) (rest : List Line) (kept : Kept) → answer limits bytes run line ≡ kept
        → ending_from limits bytes run text (line ∷ rest) ≡ cond (is_fault kept) (ended run (text ++ kept_text line kept) (commit_by limits run.state.store line)) (ending_from limits bytes (later limits bytes run line) (text ++ kept_text line kept) rest)
    goes_so text rest kept e =
        ap (λ (k : Kept). cond (is_fault k) (ended run (text ++ kept_text line k) (commit_by limits run.state.store line)) (ending_from limits bytes (later limits bytes run line) (text ++ kept_text line k) rest)) e

    -- where the disk failed the run has ended, and else it goes on
    pub goes_on : (text : List ℕ) (rest : List Line) (ending : Ending) (kept : Kept) (failed : Bool) → (failed ≡ true) ↔ (kept ≡ DiskFault) → ending_from limits bytes run text (line ∷ rest) ≡ ending
        → HasPassed limits bytes run new line kept → GoesOn failed limits bytes new (text ++ kept_text line kept) rest ending
    goes_on text rest ending DiskFault failed both ends passed_so = subst (λ (b : Bool). GoesOn b limits bytes new (text ++ kept_text line DiskFault) rest ending) (sym (both.1 refl)) record {
      is_text = ap (λ (e : Ending). e.text) ending_is;
      written = subst (λ (e : Ending). IsRecoverable limits (recovered true e) (disk_content new.log.disk)) ending_is (passed_so.ends refl).written;
      synced = subst (λ (e : Ending). IsRecoverable limits (recovered false e) (disk_synced new.log.disk)) ending_is (passed_so.ends refl).synced;
    }
      where
        ending_is : ended run (text ++ kept_text line DiskFault) (commit_by limits run.state.store line) ≡ ending
        ending_is = sym (goes_so text rest DiskFault passed_so.is) ∙ ends
    goes_on text rest ending JournalFull failed both ends passed_so = subst (λ (b : Bool). GoesOn b limits bytes new (text ++ kept_text line JournalFull) rest ending) (sym (not_true failed (λ e. full_is_no_fault (both.0 e)))) record {
      run = later limits bytes run line;
      at = passed_so.goes full_is_no_fault;
      few = few;
      ends = sym (goes_so text rest JournalFull passed_so.is) ∙ ends;
    }
    goes_on text rest ending (Replied a) failed both ends passed_so = subst (λ (b : Bool). GoesOn b limits bytes new (text ++ kept_text line (Replied a)) rest ending) (sym (not_true failed (λ e. reply_is_no_fault a (both.0 e)))) record {
      run = later limits bytes run line;
      at = passed_so.goes (reply_is_no_fault a);
      few = few;
      ends = sym (goes_so text rest (Replied a) passed_so.is) ∙ ends;
    }

-- ---- behind the last line

none_more : (b : Bool) (commits : List Commit) → with_one b commits None ≡ commits
none_more true commits = refl
none_more false commits = refl

-- the run has ended: all that was written is synced, and stands for the commits that were acknowledged
pub at_the_end : (limits : Limits) (bytes : ℕ) (redo : Redo MemDisk) (text : List ℕ) (ending : Ending) → 1 ≤ limits.columns → IsRunning limits bytes redo text [] ending → HasEnded limits redo.log.disk text ending
at_the_end limits bytes redo text ending some running =
    let keeps = running.at.journal.keeps in
    let disk = redo.log.disk in
    let history = running.run.state.store.history in
    let here : IsRecoverable limits history (disk_content disk) = so_far limits bytes running.run redo some running.few running.at (disk_content disk) keeps.stands in
    let same : disk_synced disk ≡ disk_content disk = keeps.lasts (disk_synced disk) (synced_stays disk (disk_outcome disk) refl) in
    record {
      is_text = ap (λ (e : Ending). e.text) running.ends;
      written = subst (λ (e : Ending). IsRecoverable limits (recovered true e) (disk_content disk)) running.ends
          (subst (λ (commits : List Commit). IsRecoverable limits commits (disk_content disk)) (sym (none_more (not (nat_lt running.run.left 3)) history)) here);
      synced = subst (λ (e : Ending). IsRecoverable limits (recovered false e) (disk_synced disk)) running.ends (subst (IsRecoverable limits history) (sym same) here);
    }

-- ---- a script's lines

-- the rest of a script begins with the line at hand
drop_one : (script : List Line) (place : ℕ) (line : Line) → place < length script → line ≡ slice_index_or script place line → drop place script ≡ line ∷ drop (place + 1) script
drop_one script place line within same = rw add-one (drop-cons script place line within ∙ ap (λ (first : Line). first ∷ drop (suc place) script) (sym same))

pub at_line : (limits : Limits) (bytes : ℕ) (redo : Redo MemDisk) (text : List ℕ) (script : List Line) (place : ℕ) (line : Line) (ending : Ending) → place < length script → line ≡ slice_index_or script place line
    → IsRunning limits bytes redo text (drop place script) ending → IsRunning limits bytes redo text (line ∷ drop (place + 1) script) ending
at_line limits bytes redo text script place line ending within same running = subst (λ (lines : List Line). IsRunning limits bytes redo text lines ending) (drop_one script place line within same) running

pub behind_all : (limits : Limits) (bytes : ℕ) (redo : Redo MemDisk) (text : List ℕ) (script : List Line) (place : ℕ) (ending : Ending) → length script ≤ place → 1 ≤ limits.columns
    → IsRunning limits bytes redo text (drop place script) ending → HasEnded limits redo.log.disk text ending
behind_all limits bytes redo text script place ending all some running =
    at_the_end limits bytes redo text ending some (subst (λ (lines : List Line). IsRunning limits bytes redo text lines ending) (drop_all place script all) running)

-- what is said of a line that was run
pub stepped : (limits : Limits) (bytes : ℕ) (old new : Redo MemDisk) (line : Line) (kept : Kept) (p : Possible (view_of old)) → IsValid (view_of old).limits → LineFits (view_of old).limits.sessions (view_of old).limits.ranges (view_of old).limits.columns line
    → IsKept old new line kept → (failed : Bool) → failed ≡ new.failed → (text now : List ℕ) → now ≡ text ++ kept_text line kept → (rest : List Line) (ending : Ending) → IsRunning limits bytes old text (line ∷ rest) ending
    → GoesOn failed limits bytes new now rest ending
stepped limits bytes old new line kept p valid fits told failed is text now said rest ending running =
    let some : 1 ≤ limits.columns = let columns = (subst IsValid running.at.opened valid).columns.0 in omega (arith, columns) in
    subst (λ (t : List ℕ). GoesOn failed limits bytes new t rest ending) (sym said)
    (goes_on limits bytes running.run old some running.few running.at new line text rest ending kept failed
    (λ e. told.failed.0 (sym is ∙ e), λ e. is ∙ told.failed.1 e) running.ends
    (passed limits bytes running.run old some running.few running.at new line p fits kept told))
