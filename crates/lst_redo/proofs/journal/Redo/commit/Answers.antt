use Rattle.std.proofs.Common.{◌≡◌, ℕ, ◌+◌, ◌<◌, List, [], ◌∷◌, ◌++◌, length, Ok, Err, refl, sym, ap, ◌∙◌, subst}
use Rattle.lst_core_state.specs.Writes.{commit}
use Rattle.lst_model.specs.declared.commits.Commit.{Commit}
use Rattle.lst_model.specs.declared.lines.Line.{Line}
use Rattle.lst_model.specs.declared.lines.Call.TheVariants.{Commit as CommitCall}
use Rattle.lst_model.specs.declared.replies.Reply.TheVariants.{Committed}
use Rattle.lst_log.specs.Format.{body}
use Rattle.lst_log.specs.Logs.{Keeps, StopsSo}
use Rattle.lst_log.specs.Stores.{opened}
use Rattle.lst_log.specs.declared.log.Log.{Log}
use Rattle.lst_log.specs.declared.log.AppendFault.TheVariants as fault
use Rattle.lst_scan.specs.Lines.{LineLooks}
use Rattle.lst_session.specs.declared.kinds.Outcome.{Outcome}
use Rattle.lst_session.specs.Crews.{Answers}
use Rattle.lst_session.specs.Replies.{commit_reply}
use Rattle.lst_snapshots.specs.Replays.{MayFollow}
use Rattle.lst_redo.specs.declared.journal.Kept.TheVariants.{Reply as Replied, JournalFull, DiskFault}
use Rattle.lst_redo.specs.Journals.{view_of, IsJournalOf}
use Rattle.lst_redo.specs.Owns.{commit_of}
use Rattle.lst_redo.specs.Answers.{StopsAt, commits_after, IsWritten}
use Rattle.lst_redo.proofs.Answering.{own_put, size_stays, commits_writes}
use Rattle.lst_redo.proofs.Committing.{may, commit_is, append_leaves, line_has_room, committed, with_log}
use Rattle.lst_redo.proofs.Crewing.{crew_for, journal_of}
use Rattle.lst_redo.proofs.journal.Redo.commit.Goals as goal

pub returns-in-Ok-Committed-clause-journal : goal.returns-in-Ok-Committed-clause-journal
returns-in-Ok-Committed-clause-journal g c = λ commits journal sound.
    let content = g.D.Disk.content in
    let images = g.D.Disk.images in
    let before = c.args.self.now in
    let s : ℕ = c.args.session in
    let same = commit_is before c.consider.ensures s c.requires.session c.requires.is_open c.requires.writes commits (crew_for content images before commits journal) c.number.result c.begin.result c.take.result c.number.ensures.is c.begin.ensures c.take.ensures.taken in
    let follows = subst (MayFollow commits) (sym same) (may before c.consider.ensures s c.requires.session c.requires.is_open c.requires.writes commits (crew_for content images before commits journal) c.same_writes_may_be_followed.ensures) in
    let v = view_of before in
    let w = c.commit.new.self.seat.view in
    let keeps = subst (λ (d : Commit). Keeps content images (commits ++ d ∷ []) c.append-appended.new.self) same (c.in-Ok.ensures.kept commits journal.keeps follows) in
    let told = c.in-Ok-Committed.ensures.machine journal.tells in
    let answers = subst (λ (o : Outcome). Answers v w s CommitCall (commit_reply (Ok o))) c.in-Ok-Committed.field-0-is told.1 in
    let own_is = own_put before.own c.take.new.self c.put.new.self s c.take.result c.take.ensures.left c.take.ensures.taken c.put.ensures in
    let commits_so = c.commit.ensures.committed c.in-Ok-Committed.time (c.in-Ok-Committed.is ∙ ap Ok c.in-Ok-Committed.field-0-is) in
    subst (λ (l : Line). IsJournalOf content images (commits_after v commits l (Replied (Committed c.in-Ok-Committed.time))) (record before { log = c.append-appended.new.self; crew = c.commit.new.self; own = c.put.new.self })) (sym c.requires.line)
    (journal_of content images (record before { log = c.append-appended.new.self; crew = c.commit.new.self; own = c.put.new.self }) (commits ++ commit_of v s ∷ []) keeps
    (committed before c.consider.ensures s c.requires.session c.requires.is_open c.requires.writes commits (crew_for content images before commits journal) c.append-appended.new.self c.commit.new.self c.put.new.self c.append-appended.ensures.columns
    c.in-Ok-Committed.time c.commit.ensures.crew told.0 answers commits_so own_is))

pub returns-in-Ok-Committed-clause-size : goal.returns-in-Ok-Committed-clause-size
returns-in-Ok-Committed-clause-size g c = λ sound.
    let before = c.args.self.now in
    size_stays (g.D.Disk.content before.log.disk) (g.D.Disk.content c.append-appended.new.self.disk) (body before.log.columns (commit c.args.session c.number.result c.begin.result c.take.result)) before.log.end
    (c.append-appended.result ≡ Err fault.JournalFull) c.append-appended.ensures.full.1 (λ e. let no_full = sym c.in-Ok.is ∙ e in cc) c.in-Ok.ensures.written

pub returns-in-JournalFull-clause-journal : goal.returns-in-JournalFull-clause-journal
returns-in-JournalFull-clause-journal g c = λ commits journal sound.
    let content = g.D.Disk.content in
    let images = g.D.Disk.images in
    let before = c.args.self.now in
    let s : ℕ = c.args.session in
    let v = view_of before in
    let log_is = c.append-appended.ensures.refused (c.in-Err.is ∙ ap Err c.in-JournalFull.is) in
    let own_is = own_put before.own c.take.new.self c.put.new.self s c.take.result c.take.ensures.left c.take.ensures.taken c.put.ensures in
    subst (λ (l : Line). IsJournalOf content images (commits_after v commits l JournalFull) (record before { log = c.append-appended.new.self; own = c.put.new.self })) (sym c.requires.line)
    (with_log content images before c.append-appended.new.self c.put.new.self commits c.append-appended.ensures.columns (subst (Keeps content images commits) (sym log_is) journal.keeps) own_is journal)

pub returns-in-OutOfMemory-clause-memory_journal : goal.returns-in-OutOfMemory-clause-memory_journal
returns-in-OutOfMemory-clause-memory_journal g c = λ commits journal.
    let content = g.D.Disk.content in
    let images = g.D.Disk.images in
    let before = c.args.self.now in
    let s : ℕ = c.args.session in
    let keeps = c.append-appended.ensures.memory (c.in-Err.is ∙ ap Err c.in-OutOfMemory.is) commits journal.keeps in
    let own_is = own_put before.own c.take.new.self c.put.new.self s c.take.result c.take.ensures.left c.take.ensures.taken c.put.ensures in
    with_log content images before c.append-appended.new.self c.put.new.self commits c.append-appended.ensures.columns keeps own_is journal

pub returns-in-Ok-Committed-clause-any_moment : goal.returns-in-Ok-Committed-clause-any_moment
returns-in-Ok-Committed-clause-any_moment g c = λ commits journal.
    append_leaves c.args.self.now c.consider.ensures c.args.session c.requires.session c.requires.is_open c.requires.writes commits (crew_for g.D.Disk.content g.D.Disk.images c.args.self.now commits journal) c.same_writes_may_be_followed.ensures
    c.args.line.now c.requires.line c.number.result c.begin.result c.take.result c.number.ensures.is c.begin.ensures c.take.ensures.taken g.D.Disk.clock g.D.Disk.images_since c.args.self.now.log.disk c.append-appended.new.self.disk
    (c.append-appended.ensures.any_moment commits journal.keeps)

pub returns-in-Ok-Committed-clause-room : goal.returns-in-Ok-Committed-clause-room
returns-in-Ok-Committed-clause-room g c = λ commits journal commits_writes.
    line_has_room c.args.self.now c.consider.ensures c.args.session c.requires.session c.requires.is_open c.requires.writes commits (crew_for g.D.Disk.content g.D.Disk.images c.args.self.now commits journal) c.args.line.now c.requires.line

pub returns-in-JournalFull-clause-any_moment : goal.returns-in-JournalFull-clause-any_moment
returns-in-JournalFull-clause-any_moment g c = λ commits journal.
    append_leaves c.args.self.now c.consider.ensures c.args.session c.requires.session c.requires.is_open c.requires.writes commits (crew_for g.D.Disk.content g.D.Disk.images c.args.self.now commits journal) c.same_writes_may_be_followed.ensures
    c.args.line.now c.requires.line c.number.result c.begin.result c.take.result c.number.ensures.is c.begin.ensures c.take.ensures.taken g.D.Disk.clock g.D.Disk.images_since c.args.self.now.log.disk c.append-appended.new.self.disk
    (c.append-appended.ensures.any_moment commits journal.keeps)

pub returns-in-JournalFull-clause-room : goal.returns-in-JournalFull-clause-room
returns-in-JournalFull-clause-room g c = λ commits journal commits_writes.
    line_has_room c.args.self.now c.consider.ensures c.args.session c.requires.session c.requires.is_open c.requires.writes commits (crew_for g.D.Disk.content g.D.Disk.images c.args.self.now commits journal) c.args.line.now c.requires.line

pub returns-in-Disk-clause-any_moment : goal.returns-in-Disk-clause-any_moment
returns-in-Disk-clause-any_moment g c = λ commits journal.
    append_leaves c.args.self.now c.consider.ensures c.args.session c.requires.session c.requires.is_open c.requires.writes commits (crew_for g.D.Disk.content g.D.Disk.images c.args.self.now commits journal) c.same_writes_may_be_followed.ensures
    c.args.line.now c.requires.line c.number.result c.begin.result c.take.result c.number.ensures.is c.begin.ensures c.take.ensures.taken g.D.Disk.clock g.D.Disk.images_since c.args.self.now.log.disk c.append-appended.new.self.disk
    (c.append-appended.ensures.any_moment commits journal.keeps)

pub returns-in-Disk-clause-room : goal.returns-in-Disk-clause-room
returns-in-Disk-clause-room g c = λ commits journal commits_writes.
    line_has_room c.args.self.now c.consider.ensures c.args.session c.requires.session c.requires.is_open c.requires.writes commits (crew_for g.D.Disk.content g.D.Disk.images c.args.self.now commits journal) c.args.line.now c.requires.line

pub returns-in-OutOfMemory-clause-any_moment : goal.returns-in-OutOfMemory-clause-any_moment
returns-in-OutOfMemory-clause-any_moment g c = λ commits journal.
    append_leaves c.args.self.now c.consider.ensures c.args.session c.requires.session c.requires.is_open c.requires.writes commits (crew_for g.D.Disk.content g.D.Disk.images c.args.self.now commits journal) c.same_writes_may_be_followed.ensures
    c.args.line.now c.requires.line c.number.result c.begin.result c.take.result c.number.ensures.is c.begin.ensures c.take.ensures.taken g.D.Disk.clock g.D.Disk.images_since c.args.self.now.log.disk c.append-appended.new.self.disk
    (c.append-appended.ensures.any_moment commits journal.keeps)

pub returns-in-OutOfMemory-clause-room : goal.returns-in-OutOfMemory-clause-room
returns-in-OutOfMemory-clause-room g c = λ commits journal commits_writes.
    line_has_room c.args.self.now c.consider.ensures c.args.session c.requires.session c.requires.is_open c.requires.writes commits (crew_for g.D.Disk.content g.D.Disk.images c.args.self.now commits journal) c.args.line.now c.requires.line

pub returns-in-Ok-Committed-clause-written : goal.returns-in-Ok-Committed-clause-written
returns-in-Ok-Committed-clause-written g c =
    let content = g.D.Disk.content in
    let images = g.D.Disk.images in
    let before = c.args.self.now in
    let s : ℕ = c.args.session in
    let same = commit_is before c.consider.ensures s c.requires.session c.requires.is_open c.requires.writes c.requires.journal.0 (crew_for content images before c.requires.journal.0 c.requires.journal.1) c.number.result c.begin.result c.take.result c.number.ensures.is c.begin.ensures c.take.ensures.taken in
    subst (λ (l : Line). IsWritten (view_of before) l before.log.columns before.log.end (content before.log.disk) (content c.append-appended.new.self.disk) (Replied (Committed c.in-Ok-Committed.time))) (sym c.requires.line)
    (c.in-Ok.ensures.written ∙ ap (λ (d : Commit). opened (content before.log.disk) before.log.end (body before.log.columns d ++ 0 ∷ [])) same)

pub returns-in-JournalFull-clause-written : goal.returns-in-JournalFull-clause-written
returns-in-JournalFull-clause-written g c =
    let content = g.D.Disk.content in
    let before = c.args.self.now in
    subst (λ (l : Line). IsWritten (view_of before) l before.log.columns before.log.end (content before.log.disk) (content c.append-appended.new.self.disk) JournalFull) (sym c.requires.line) tt

pub returns-in-Disk-clause-written : goal.returns-in-Disk-clause-written
returns-in-Disk-clause-written g c =
    let content = g.D.Disk.content in
    let before = c.args.self.now in
    subst (λ (l : Line). IsWritten (view_of before) l before.log.columns before.log.end (content before.log.disk) (content c.append-appended.new.self.disk) DiskFault) (sym c.requires.line) tt

pub returns-in-Ok-Committed-clause-still : goal.returns-in-Ok-Committed-clause-still
returns-in-Ok-Committed-clause-still g c = λ none. absurd (none (commits_writes (view_of c.args.self.now) c.args.session c.args.line.now c.requires.line c.requires.is_open c.requires.writes))

pub returns-in-JournalFull-clause-still : goal.returns-in-JournalFull-clause-still
returns-in-JournalFull-clause-still g c = λ none. absurd (none (commits_writes (view_of c.args.self.now) c.args.session c.args.line.now c.requires.line c.requires.is_open c.requires.writes))

pub returns-in-Disk-clause-still : goal.returns-in-Disk-clause-still
returns-in-Disk-clause-still g c = λ none. absurd (none (commits_writes (view_of c.args.self.now) c.args.session c.args.line.now c.requires.line c.requires.is_open c.requires.writes))

pub returns-in-OutOfMemory-clause-still : goal.returns-in-OutOfMemory-clause-still
returns-in-OutOfMemory-clause-still g c = λ none. absurd (none (commits_writes (view_of c.args.self.now) c.args.session c.args.line.now c.requires.line c.requires.is_open c.requires.writes))

pub returns-in-OutOfMemory-clause-looks : goal.returns-in-OutOfMemory-clause-looks
returns-in-OutOfMemory-clause-looks g c = subst (λ (l : Line). LineLooks (view_of c.args.self.now) (view_of c.args.self.now) l) (sym c.requires.line) refl

pub returns-in-Disk-clause-stopped : goal.returns-in-Disk-clause-stopped
returns-in-Disk-clause-stopped g c = λ failed commits journal.
    let content = g.D.Disk.content in
    let images = g.D.Disk.images in
    let before = c.args.self.now in
    let disk = c.append-appended.new.self.disk in
    let s : ℕ = c.args.session in
    let of = crew_for content images before commits journal in
    let same = commit_is before c.consider.ensures s c.requires.session c.requires.is_open c.requires.writes commits of c.number.result c.begin.result c.take.result c.number.ensures.is c.begin.ensures c.take.ensures.taken in
    let follows = subst (MayFollow commits) (sym same) (may before c.consider.ensures s c.requires.session c.requires.is_open c.requires.writes commits of c.same_writes_may_be_followed.ensures) in
    let calls = g.D.Disk.calls_left before.log.disk in
    subst (λ (l : Line). StopsAt before.log.columns (view_of before) commits l calls (content disk) (g.D.Disk.outcome disk)) (sym c.requires.line)
    (subst (λ (d : Commit). StopsSo before.log.columns commits (d ∷ []) calls (content disk) (g.D.Disk.outcome disk)) same
    (c.append-appended.ensures.stopped (c.in-Err.is ∙ ap Err c.in-Disk.is) commits journal.keeps follows))

pub returns-in-Ok-Committed-clause-torn : goal.returns-in-Ok-Committed-clause-torn
returns-in-Ok-Committed-clause-torn g c = c.append-appended.ensures.torn

pub returns-in-JournalFull-clause-torn : goal.returns-in-JournalFull-clause-torn
returns-in-JournalFull-clause-torn g c = c.append-appended.ensures.torn

pub returns-in-Disk-clause-torn : goal.returns-in-Disk-clause-torn
returns-in-Disk-clause-torn g c = c.append-appended.ensures.torn

pub returns-in-OutOfMemory-clause-torn : goal.returns-in-OutOfMemory-clause-torn
returns-in-OutOfMemory-clause-torn g c = c.append-appended.ensures.torn
