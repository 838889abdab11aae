use Rattle.std.proofs.Common.{◌≡◌, ◌∙◌, ℕ, ◌+◌, drop, ap, sym, arith}
use Rattle.std.specs.Prelude.{sum_by}
use Rattle.lst_snapshots.specs.Versions.{row_at}
use Rattle.lst_historic.specs.declared.places.Place.{Place}
use Rattle.lst_historic.specs.Blocks.{Chain}
use Rattle.lst_historic.specs.Tabled.{number_in}
use Rattle.lst_historic.proofs.Placed.{versions_at}
use Rattle.lst_historic.proofs.Summing.{this, sum_more, sum_all}
use Rattle.lst_historic.proofs.sums.sum_at.Goals as goal

pub row_in-row-requires-clause-few : goal.row_in-row-requires-clause-few
row_in-row-requires-clause-few c = c.requires.block.few

pub row_in-row-requires-clause-some : goal.row_in-row-requires-clause-some
row_in-row-requires-clause-some c =
    let none : Place = record { key = 0; at = 0 } in
    let t = this c.args.bytes.now c.args.columns c.args.until c.args.places.now c.requires c.loop-index.index none c.loop-index-test.true in
    versions_at c.args.columns c.args.until c.args.bytes.now _ t.chain.versions c.requires.block.built t.place

pub loop-index-preserved : goal.loop-index-preserved
loop-index-preserved c =
    let none : Place = record { key = 0; at = 0 } in
    let f : Chain → ℕ = λ (chain : Chain). number_in c.args.column (row_at chain.versions c.args.time) in
    let low = c.number_in.type_inv in
    let wide = c.from-total.ensures in
    record {
      few = omega (arith, wide, low, c.loop-index.invariant.few);
      sum = λ held.
          let t = this c.args.bytes.now c.args.columns c.args.until c.args.places.now held c.loop-index.index none c.loop-index-test.true in
          let row : c.row_in-row.result ≡ row_at t.chain.versions c.args.time =
          c.row_in-row.ensures t.chain.versions t.place.rest held.block.built t.place.few t.place.fits t.place.text in
          let is : c.from-total.result ≡ f t.chain = wide ∙ c.number_in.ensures ∙ ap (number_in c.args.column) row in
          sum_more f held.chains c.loop-index.index c.loop-index.total c.from-total.result (sum_by f held.chains) t.chain t.here is (c.loop-index.invariant.sum held);
    }

pub returns : goal.returns
returns c = λ width history has.
    sum_all c.args.bytes.now c.args.columns c.args.until c.args.places.now c.requires c.args.column c.args.time c.loop-index.index c.loop-index.total width history c.loop-index-test.false (c.loop-index.invariant.sum c.requires) has
