use Rattle.std.proofs.Common.{◌≡◌, ◌≤◌, [], ◌∷◌, ◌++◌, rules}
use Rattle.lst_model.specs.declared.acts.Act.TheVariants.{Put}
use Rattle.lst_csv.proofs.Listed.{no_write, one_more_write, all_writes}
use Rattle.lst_csv.proofs.folding.list_writes.Goals as goal

pub loop-write-init : goal.loop-write-init
loop-write-init c = no_write c.args.writes.now c.args.rows.now c.args.floor

pub loop-write-preserved : goal.loop-write-preserved
loop-write-preserved c =
    let write = c.write-item.result in let row = c.in-Put.row in
    let high : c.loop-write.next ≤ write.key = search rules in
    let act : write.act ≡ Put row = search rules in
    let more : c.push.new.self ≡ c.loop-write.rows ++ (write.key, row) ∷ [] = search rules in
    one_more_write c.args.writes.now c.args.rows.now c.loop-write.rows c.push.new.self c.args.floor c.loop-write.next c.loop-write.write-index write row c.loop-write-test.true c.write-item.is high act more c.loop-write.invariant

pub returns : goal.returns
returns c = all_writes c.args.writes.now c.args.rows.now c.loop-write.rows c.args.floor c.loop-write.next c.loop-write.write-index c.loop-write-test.false c.loop-write.invariant
