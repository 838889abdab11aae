use Rattle.std.proofs.Common.{◌++◌, ◌∙◌, ℕ, List, ap, length}
use Rattle.std.specs.List.{flat_map}
use Rattle.std.specs.Int.{w32, to_be_bytes}
use Rattle.lst_model.specs.declared.acts.Write.{Write}
use Rattle.lst_log.specs.Format.{word, write_bytes}
use Rattle.lst_log.proofs.Pushes.{four_pushed}
use Rattle.lst_log.proofs.write.push_body.Goals as goal

pub returns : goal.returns
returns c =
    let k = c.args.commit.now in
    let t0 = c.args.text.now.items in
    let t1 = c.extend_from_slice.new.self.items in
    let session = to_be_bytes w32 k.session in
    let number = to_be_bytes w32 k.number in
    let counted = ap (λ (ws : List Write). session ++ (number ++ (word k.begin ++ to_be_bytes w32 (length ws)))) c.items.ensures in
    four_pushed t0 t1 c.push_writes.new.text.items session number (word k.begin) (to_be_bytes w32 (length k.writes)) (flat_map (write_bytes c.args.columns) k.writes)
    (c.in_ok-extend_from_slice.ensures.items ∙ ap (λ (bytes : List ℕ). t0 ++ bytes) (c.head_bytes.ensures ∙ counted))
    (c.in_ok-push_writes.ensures ∙ ap (λ (ws : List Write). t1 ++ flat_map (write_bytes c.args.columns) ws) c.items-2.ensures)
