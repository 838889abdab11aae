use Rattle.std.proofs.Common.{sym, ◌∙◌}
use Rattle.lst_historic.proofs.Placed.{held_rise, found, versions_at, row_found, row_absent}
use Rattle.lst_historic.proofs.Made.{versions_in}
use Rattle.lst_historic.proofs.historic.row_at.Goals as goal

pub find-requires : goal.find-requires
find-requires c = held_rise c.args.bytes.now c.args.columns c.args.until c.args.places.now c.requires

pub row_in-requires-clause-few : goal.row_in-requires-clause-few
row_in-requires-clause-few c = c.requires.block.few

pub row_in-requires-clause-some : goal.row_in-requires-clause-some
row_in-requires-clause-some c =
    let here = found c.args.bytes.now c.args.columns c.args.until c.args.places.now c.requires c.args.key c.in-Some.at (sym c.in-Some.ensures) in
    versions_at c.args.columns c.args.until c.args.bytes.now c.in-Some.at (versions_in c.requires.chains c.args.key) c.requires.block.built here

pub returns-in-Some : goal.returns-in-Some
returns-in-Some c = λ width history has.
    row_found c.args.bytes.now c.args.columns c.args.until c.args.places.now c.requires width history c.args.key c.args.time c.in-Some.at c.row_in.result has (sym c.in-Some.ensures)
    (λ versions rest low few fits text. c.row_in.ensures versions rest low few fits text)

pub returns-in-None : goal.returns-in-None
returns-in-None c = λ width history has.
    row_absent c.args.bytes.now c.args.columns c.args.until c.args.places.now c.requires width history c.args.key c.args.time has (sym c.in-None.ensures)
