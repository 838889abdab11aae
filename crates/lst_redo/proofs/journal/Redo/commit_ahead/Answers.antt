use Rattle.std.proofs.Common.{◌≡◌, ℕ, ◌+◌, ◌<◌, List, [], ◌∷◌, ◌++◌, length, Ok, Err, refl, sym, ap, ◌∙◌, subst}
use Rattle.lst_core_state.specs.Writes.{commit}
use Rattle.lst_model.specs.declared.commits.Commit.{Commit}
use Rattle.lst_model.specs.declared.lines.Line.{Line}
use Rattle.lst_model.specs.declared.lines.Call.TheVariants.{Commit as CommitCall}
use Rattle.lst_model.specs.declared.memory.OutOfMemory.{OutOfMemory}
use Rattle.lst_model.specs.declared.replies.Reply.TheVariants.{Committed}
use Rattle.lst_log.specs.Format.{journal, record_of}
use Rattle.lst_log.specs.Logs.{AreStaged}
use Rattle.lst_session.specs.declared.kinds.Outcome.{Outcome}
use Rattle.lst_session.specs.Crews.{Answers}
use Rattle.lst_session.specs.Replies.{commit_reply}
use Rattle.lst_redo.specs.declared.journal.Kept.TheVariants.{Reply as Replied, JournalFull}
use Rattle.lst_redo.specs.Journals.{view_of}
use Rattle.lst_redo.specs.Owns.{commit_of}
use Rattle.lst_redo.specs.Ahead.{GoesAhead}
use Rattle.lst_redo.proofs.Answering.{own_put}
use Rattle.lst_redo.proofs.Committing.{commit_is, has_record}
use Rattle.lst_redo.proofs.Ahead.{ok_not_full, made_ahead, full_ahead, wants_ahead}
use Rattle.lst_redo.proofs.journal.Redo.commit_ahead.Goals as goal

pub returns-in-Ok-Committed : goal.returns-in-Ok-Committed
returns-in-Ok-Committed g c = λ made staged.
    let content = g.D.Disk.content in
    let images = g.D.Disk.images in
    let before = c.args.self.now in
    let log = c.stage-staged.new.self in
    let batch = c.stage-staged.new.batch.items in
    let s : ℕ = c.args.session in
    let crew = c.requires.crew in
    let v = view_of before in
    let w = c.commit.new.self.seat.view in
    let same = commit_is before c.consider.ensures s c.requires.session c.requires.is_open c.requires.writes crew.0 crew.1 c.number.result c.begin.result c.take.result c.number.ensures.is c.begin.ensures c.take.ensures.taken in
    let told = c.in-Ok-Committed.ensures.machine crew.1.tells in
    let answers = subst (λ (o : Outcome). Answers v w s CommitCall (commit_reply (Ok o))) c.in-Ok-Committed.field-0-is told.1 in
    let own_is = own_put before.own c.take.new.self c.put.new.self s c.take.result c.take.ensures.left c.take.ensures.taken c.put.ensures in
    let commits_so = c.commit.ensures.committed c.in-Ok-Committed.time (c.in-Ok-Committed.is ∙ ap Ok c.in-Ok-Committed.field-0-is) in
    let now_staged = subst (λ (d : Commit). AreStaged content g.D.Disk.room_calls g.D.Disk.room_bytes (made ++ d ∷ []) batch log) same (c.in-Ok.ensures.staged made staged) in
    let fits = λ (lack : length (content before.log.disk) < before.log.end + length (journal before.log.columns made) + length (record_of before.log.columns (commit_of v s)) + 1).
    let e = (c.stage-staged.ensures.full made staged).1 (subst (λ (d : Commit). length (content before.log.disk) < before.log.end + length (journal before.log.columns made) + length (record_of before.log.columns d) + 1) (sym same) lack) in
    ok_not_full c.stage-staged.result _ c.in-Ok.is e in
    subst (λ (l : Line). GoesAhead content images g.D.Disk.clock g.D.Disk.images_since g.D.Disk.room_calls g.D.Disk.room_bytes g.D.Disk.calls_left g.D.Disk.faults before (record before { log = log; crew = c.commit.new.self; own = c.put.new.self }) made batch l
    (Ok (Replied (Committed c.in-Ok-Committed.time)))) (sym c.requires.line)
    (made_ahead content images g.D.Disk.clock g.D.Disk.images_since g.D.Disk.room_calls g.D.Disk.room_bytes g.D.Disk.calls_left g.D.Disk.faults before c.consider.ensures s c.requires.session c.requires.is_open c.requires.writes crew made log
    c.put.new.self batch c.stage-staged.ensures.kept c.stage-staged.ensures.room c.stage-staged.ensures.columns c.stage-staged.ensures.end own_is c.same_writes_may_be_followed.ensures c.commit.new.self c.in-Ok-Committed.time now_staged fits
    c.commit.ensures.crew told.0 answers commits_so)

pub returns-in-JournalFull : goal.returns-in-JournalFull
returns-in-JournalFull g c = λ made staged.
    let content = g.D.Disk.content in
    let images = g.D.Disk.images in
    let before = c.args.self.now in
    let log = c.stage-staged.new.self in
    let batch = c.stage-staged.new.batch.items in
    let s : ℕ = c.args.session in
    let crew = c.requires.crew in
    let v = view_of before in
    let same = commit_is before c.consider.ensures s c.requires.session c.requires.is_open c.requires.writes crew.0 crew.1 c.number.result c.begin.result c.take.result c.number.ensures.is c.begin.ensures c.take.ensures.taken in
    let own_is = own_put before.own c.take.new.self c.put.new.self s c.take.result c.take.ensures.left c.take.ensures.taken c.put.ensures in
    let lack = subst (λ (d : Commit). length (content before.log.disk) < before.log.end + length (journal before.log.columns made) + length (record_of before.log.columns d) + 1) same
    ((c.stage-staged.ensures.full made staged).0 (c.in-Err.is ∙ ap Err c.in-JournalFull.is)) in
    subst (λ (l : Line). GoesAhead content images g.D.Disk.clock g.D.Disk.images_since g.D.Disk.room_calls g.D.Disk.room_bytes g.D.Disk.calls_left g.D.Disk.faults before (record before { log = log; own = c.put.new.self }) made batch l (Ok JournalFull))
    (sym c.requires.line)
    (full_ahead content images g.D.Disk.clock g.D.Disk.images_since g.D.Disk.room_calls g.D.Disk.room_bytes g.D.Disk.calls_left g.D.Disk.faults before c.consider.ensures s c.requires.session c.requires.is_open c.requires.writes crew made log
    c.put.new.self batch c.stage-staged.ensures.kept c.stage-staged.ensures.room c.stage-staged.ensures.columns c.stage-staged.ensures.end own_is (c.in-Err.ensures.unstaged made staged) lack)

pub returns-in-OutOfMemory : goal.returns-in-OutOfMemory
returns-in-OutOfMemory g c = λ made staged.
    let content = g.D.Disk.content in
    let images = g.D.Disk.images in
    let before = c.args.self.now in
    let log = c.stage-staged.new.self in
    let batch = c.stage-staged.new.batch.items in
    let s : ℕ = c.args.session in
    let own_is = own_put before.own c.take.new.self c.put.new.self s c.take.result c.take.ensures.left c.take.ensures.taken c.put.ensures in
    subst (λ (l : Line). GoesAhead content images g.D.Disk.clock g.D.Disk.images_since g.D.Disk.room_calls g.D.Disk.room_bytes g.D.Disk.calls_left g.D.Disk.faults before (record before { log = log; own = c.put.new.self }) made batch l (Err _))
    (sym c.requires.line)
    (wants_ahead content images g.D.Disk.clock g.D.Disk.images_since g.D.Disk.room_calls g.D.Disk.room_bytes g.D.Disk.calls_left g.D.Disk.faults before c.consider.ensures s c.requires.session c.requires.is_open c.requires.writes c.requires.crew made log
    c.put.new.self batch c.stage-staged.ensures.kept c.stage-staged.ensures.room c.stage-staged.ensures.columns c.stage-staged.ensures.end own_is _ (c.in-Err.ensures.unstaged made staged))
