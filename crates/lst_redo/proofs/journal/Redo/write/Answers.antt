use Rattle.std.proofs.Common.{ℕ, ◌<◌, length, sym, ap, ◌∙◌, subst, arith}
use Rattle.lst_layout.specs.declared.limits.Limits.{Limits}
use Rattle.lst_model.specs.declared.lines.Line.{Line}
use Rattle.lst_log.specs.Format.{IsWrite}
use Rattle.lst_scan.specs.Lines.{EachLineLeaves}
use Rattle.lst_redo.specs.Journals.{view_of}
use Rattle.lst_redo.proofs.Passing.{call_low, crew_answers, writes, own_settled}
use Rattle.lst_redo.proofs.journal.Redo.write.Goals as goal

pub returns-in-Ok : goal.returns-in-Ok
returns-in-Ok g c =
    let before = c.args.self.now in
    let v = view_of before in
    let crew = c.crew_line.new.crew in
    let line = c.args.line.now in
    let r = c.in-Ok.reply in
    let s : ℕ = c.args.session in
    let call = c.requires.call.0 in
    let of = c.crew_line.ensures.crew in
    let journal = c.requires.crew.1 in
    let low : s < v.limits.sessions = call_low v.limits.sessions v.limits.ranges v.limits.columns line c.requires.fits s call c.requires.call.1 in
    let leaves = subst (λ (l : Line). EachLineLeaves v crew.seat.view l r) c.requires.call.1 c.in-Ok.ensures.session in
    let fit : IsWrite v.limits.columns c.args.write = subst (λ (n : ℕ). IsWrite n c.args.write) (journal.columns ∙ ap (λ (l : Limits). l.columns) (sym journal.crew_of.seat_of.limits)) c.requires.write in
    let is = own_settled v crew.seat.view s call c.args.write r before.own c.join.new.self c.settle.new.own c.in_ok-place.place c.requires.call.2 leaves (subst (λ (n : ℕ). s < n) (sym journal.own.sized) low)
    c.in_ok-place.ensures.joined c.in_ok-place.ensures.back c.settle.ensures.done c.settle.ensures.refused in
    crew_answers before crew line of c.requires.crew r c.settle.new.own c.requires.fits c.requires.none c.in-Ok.ensures.machine c.in-Ok.ensures.session
    (writes before crew line of c.requires.crew s call c.args.write r c.settle.new.own low c.requires.call.2 leaves fit (omega (arith, c.if-count.false, c.count.ensures)) is)
