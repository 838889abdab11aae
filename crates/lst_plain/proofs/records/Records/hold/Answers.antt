use Rattle.std.proofs.Common.{ap, ◌∙◌, sym}
use Rattle.lst_machine.specs.Writes.{place_of}
use Rattle.lst_plain.specs.Rows.{Kept}
use Rattle.lst_plain.proofs.Placing.{keys-set}
use Rattle.lst_plain.proofs.records.Records.hold.Goals as goal

pub invariant_of-self : goal.invariant_of-self
invariant_of-self c = λ q. c.self.invariant q ∙ ap (λ keys. place_of keys q) (sym (keys-set c.self.inside.items.items c.args.place c.hold.new.self c.index_mut.result.now (c.hold.ensures.key ∙ ap (λ (kept : Kept). kept.key) c.index_mut.ensures.value)))
