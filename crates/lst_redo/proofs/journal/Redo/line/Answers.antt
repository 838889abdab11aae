use Rattle.lst_redo.proofs.ByCrew.{rests, answered, stands, stands_still, never_faults, full_is, failed_is, counts_none, unspent, faults_stay, torn_stays, size_stays, written}
use Rattle.lst_redo.proofs.Crewing.{has_crew}
use Rattle.lst_redo.proofs.journal.Redo.line.Goals as goal

pub returns-in-None : goal.returns-in-None
returns-in-None g c =
    let content = g.D.Disk.content in
    let images = g.D.Disk.images in
    let before = c.args.self.now in
    let after = c.by_crew.new.self in
    let line = c.args.line.now in
    let none = c.in-None.ensures.none in
    let r = c.by_crew.result in
    let x = c.by_crew.ensures in record {
      answered = answered content images before after line none r x;
      journal = stands content images before after line none r x;
      any_moment = λ commits journal. rests content images g.D.Disk.clock g.D.Disk.images_since before after.log line commits g.met.D.Disk.only_now x.log journal;
      full = full_is content images before after line none r _ _ _ x;
      room = λ commits journal commits_writes. absurd (none commits_writes);
      size = size_stays content images before after line none content r x;
      memory = x.memory;
      looks = x.looks;
      memory_journal = stands_still content images before after line none r x;
      failed = failed_is content images before after line none r x c.requires.sound;
      fault = λ e. absurd (never_faults content images before after line none r x e);
      faults = faults_stay content images before after line none g.D.Disk.faults r x;
      calls = counts_none content images before after line none g.D.Disk.calls_left r x;
      unspent = unspent content images before after line none content g.D.Disk.calls_left g.D.Disk.faults r x;
      still = λ no_commit. x.log;
      refused = λ e. x.log;
      written = written content images before after line none _ _ _ _ r x;
      stopped = λ e. absurd (never_faults content images before after line none r x e);
      torn = torn_stays content images before after line none g.D.Disk.outcome r x;
      store = x.store;
      crew = x.crew_of;
    }

pub commits_writes-requires-clause-crew : goal.commits_writes-requires-clause-crew
commits_writes-requires-clause-crew g c = has_crew g.D.Disk.content g.D.Disk.images c.args.self.now c.requires.journal

pub by_crew-requires-clause-crew : goal.by_crew-requires-clause-crew
by_crew-requires-clause-crew g c = has_crew g.D.Disk.content g.D.Disk.images c.args.self.now c.requires.journal
