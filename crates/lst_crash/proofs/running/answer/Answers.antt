use Rattle.std.proofs.Common.{refl, ap, Ok}
use Rattle.lst_redo.specs.declared.journal.Kept.TheVariants.{JournalFull, DiskFault}
use Rattle.lst_crash.proofs.Images.{torn_stays}
use Rattle.lst_crash.proofs.Steps.{IsKept, of_kept, stepped}
use Rattle.lst_crash.proofs.running.answer.Goals as goal

pub returns-clause-goes : goal.returns-clause-goes
returns-clause-goes c = λ limits bytes rest ending running.
    let e = c.in_ok-kept.ensures in
    let kept = c.in_ok-kept.kept in
    let fault = of_kept (Ok kept) kept DiskFault _ refl (e.failed.1, e.failed.0) in
    let told : IsKept c.args.redo.now c.line.new.self c.args.line.now kept = record {
      answered = e.answered;
      journal = e.journal;
      any_moment = e.any_moment;
      full = of_kept (Ok kept) kept JournalFull _ refl e.full;
      room = e.room;
      size = e.size;
      failed = (fault.1, fault.0);
      calls = e.calls;
      still = e.still;
      refused = λ x. e.refused (ap Ok x);
      stopped = λ x. e.stopped (ap Ok x);
    } in
    stepped limits bytes c.args.redo.now c.line.new.self c.args.line.now kept c.consider.ensures c.requires.valid c.requires.taken told c.failed.result c.failed.ensures c.args.text.now c.push_kept.new.text c.in_ok-push_kept.ensures rest ending running

pub returns-in_err-kept-clause-torn : goal.returns-in_err-kept-clause-torn
returns-in_err-kept-clause-torn c = torn_stays c.args.redo.now.log.disk c.line.new.self.log.disk c.line.ensures.torn

pub returns-in_err-push_kept-clause-torn : goal.returns-in_err-push_kept-clause-torn
returns-in_err-push_kept-clause-torn c = torn_stays c.args.redo.now.log.disk c.line.new.self.log.disk c.line.ensures.torn

pub returns-clause-torn : goal.returns-clause-torn
returns-clause-torn c = torn_stays c.args.redo.now.log.disk c.line.new.self.log.disk c.line.ensures.torn
