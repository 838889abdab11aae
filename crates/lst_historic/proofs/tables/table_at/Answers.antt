use Rattle.std.proofs.Common.{◌≡◌, ◌∙◌}
use Rattle.lst_snapshots.specs.Versions.{row_at}
use Rattle.lst_historic.specs.declared.places.Place.{Place}
use Rattle.lst_historic.specs.Tabled.{rows_at}
use Rattle.lst_historic.proofs.Placed.{versions_at}
use Rattle.lst_historic.proofs.Summing.{this, rows_more, rows_all}
use Rattle.lst_historic.proofs.tables.table_at.Goals as goal

pub row_in-row-requires-clause-few : goal.row_in-row-requires-clause-few
row_in-row-requires-clause-few c = c.requires.block.few

pub row_in-row-requires-clause-some : goal.row_in-row-requires-clause-some
row_in-row-requires-clause-some c =
    let none : Place = record { key = 0; at = 0 } in
    let t = this c.args.bytes.now c.args.columns c.args.until c.args.places.now c.requires c.loop-index.index none c.loop-index-test.true in
    versions_at c.args.columns c.args.until c.args.bytes.now _ t.chain.versions c.requires.block.built t.place

pub loop-index-preserved : goal.loop-index-preserved
loop-index-preserved c = λ held.
    let none : Place = record { key = 0; at = 0 } in
    let t = this c.args.bytes.now c.args.columns c.args.until c.args.places.now held c.loop-index.index none c.loop-index-test.true in
    let row : c.row_in-row.result ≡ row_at t.chain.versions c.args.time = c.row_in-row.ensures t.chain.versions t.place.rest held.block.built t.place.few t.place.fits t.place.text in
    rows_more c.args.time c.loop-index.index _ held.chains c.loop-index.rows c.push_row.new.rows (rows_at held.chains c.args.time) c.row_in-row.result t.chain t.here t.key_is row c.in_ok-push_row.ensures (c.loop-index.invariant held)

pub returns : goal.returns
returns c = λ width history has.
    rows_all c.args.bytes.now c.args.columns c.args.until c.args.places.now c.requires c.args.time c.loop-index.index width c.loop-index.rows history c.loop-index-test.false (c.loop-index.invariant c.requires) has
