use Rattle.std.proofs.Common.{◌*◌, ◌<◌, List, length, sym, subst, arith}
use Rattle.std.specs.Prelude.{Result, Ok, Err, OnOk, OnErr}
use Rattle.lst_plain.specs.Rows.{Kept}
use Rattle.lst_plain.specs.Engines.{IsWhole}
use Rattle.lst_plain.specs.EngineOf.{engine_of}
use Rattle.lst_plain.proofs.Keeping.{whole_placed}
use Rattle.lst_plain.proofs.engine.Engine.write_first.Goals as goal

by_result : {T E P : Type 0} (r : Result T E) (One Other : Type 0) → OnOk r One → OnErr r Other → (One → P) → (Other → P) → P
by_result (Ok x) One Other one other here there = here one
by_result (Err e) One Other one other here there = there other

pub invariant_of-self : goal.invariant_of-self
invariant_of-self c =
    let free : length c.args.self.now.records < 256 * c.args.self.now.limits.ranges = omega (arith, c.len-place.ensures, c.if-place-self.false) in
    record {
      whole = by_result c.add.result _ _ c.add.ensures.ok c.add.ensures.err
          (λ added. subst (λ (records : List Kept). IsWhole (record (engine_of c.args.self.now) { records = records })) (sym added) (whole_placed (engine_of c.args.self.now) c.args.key c.args.self.now.whole free))
          (λ same. subst (λ (records : List Kept). IsWhole (record (engine_of c.args.self.now) { records = records })) (sym same) c.args.self.now.whole);
    }
