use Rattle.lst_redo.proofs.Passing.{crew_answers, passes}
use Rattle.lst_redo.proofs.journal.Redo.pass.Goals as goal

pub returns : goal.returns
returns g c =
    let before = c.args.self.now in
    let crew = c.crew_line.new.crew in
    let line = c.args.line.now in
    let r = c.in_ok-reply.reply in
    crew_answers before crew line c.crew_line.ensures.crew c.requires.crew r c.follow.new.own c.requires.fits c.requires.none c.in_ok-reply.ensures.machine c.in_ok-reply.ensures.session
    (passes before crew line c.crew_line.ensures.crew c.requires.crew r c.follow.new.own c.requires.fits c.requires.makes c.in_ok-reply.ensures.session c.follow.ensures)
