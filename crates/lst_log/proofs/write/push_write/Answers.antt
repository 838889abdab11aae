use Rattle.std.proofs.Common.{◌≡◌, ◌++◌, ◌∙◌, [], ◌∷◌, ℕ, List, ap}
use Rattle.std.specs.List.{flat_map}
use Rattle.lst_log.specs.Format.{word, head_of, numbers_of}
use Rattle.lst_log.proofs.Pushes.{two_pushed}
use Rattle.lst_log.proofs.write.push_write.Goals as goal

pub returns : goal.returns
returns c =
    let w = c.args.write.now in
    let parts = c.kind_mask_nulls-kind.result in
    let is = c.kind_mask_nulls-kind.ensures in
    let head : parts.0 ∷ parts.1 ∷ parts.2 ∷ [] ≡ head_of c.args.columns w.act = λ i. (is i).0 ∷ (is i).1 ∷ (is i).2 ∷ [] in
    two_pushed c.args.text.now.items c.extend_from_slice.new.self.items c.push_numbers.new.text.items (word w.key) (head_of c.args.columns w.act) (flat_map word (numbers_of c.args.columns w.act))
    (c.in_ok-extend_from_slice.ensures.items ∙ ap (λ (bytes : List ℕ). c.args.text.now.items ++ bytes) (c.write_head.ensures ∙ ap (λ (bytes : List ℕ). word w.key ++ bytes) head)) c.in_ok-push_numbers.ensures
