use Rattle.std.proofs.Common.{sym, subst}
use Rattle.std.specs.Prelude.{Result, Ok, Err, OnOk, OnErr}
use Rattle.lst_machine.proofs.Covering.{Covers, covers_same, covers_more, covers_applied}
use Rattle.lst_machine.proofs.sight.Sight.apply_one.Goals as goal

by_result : {T E P : Type 0} (r : Result T E) (One Other : Type 0) → OnOk r One → OnErr r Other → (One → P) → (Other → P) → P
by_result (Ok x) One Other one other here there = here one
by_result (Err e) One Other one other here there = there other

pub invariant_of-self : goal.invariant_of-self
invariant_of-self c = record {
  covers = by_result c.insert.result _ _ c.insert.ensures.updates c.insert.ensures.err
      (λ updated. covers_more c.args.self.now.keys c.insert.new.self c.args.self.now.table c.args.write.now.key updated.0 c.args.self.now.covers)
      (λ same. covers_same c.args.self.now.keys c.insert.new.self c.args.self.now.table same c.args.self.now.covers);
}

pub invariant_of-self-2 : goal.invariant_of-self-2
invariant_of-self-2 c =
    let more = covers_more c.args.self.now.keys c.insert.new.self c.args.self.now.table c.args.write.now.key c.in_ok-insert.ensures.updates.0 c.args.self.now.covers in
    record {
      covers = by_result c.apply.result _ _ c.apply.ensures.ok c.apply.ensures.err
          (λ done. subst (Covers c.insert.new.self) (sym done) (covers_applied c.insert.new.self c.args.self.now.table c.args.write.now c.in_ok-insert.ensures.updates.1 more))
          (λ same. subst (Covers c.insert.new.self) (sym same) more);
    }
