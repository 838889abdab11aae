use Rattle.std.proofs.Common.{◌≡◌, length, sym, ◌∙◌}
use Rattle.std.proofs.lemmas.List.{length-map}
use Rattle.lst_script.specs.Texts.{texts}
use Rattle.lst_script.proofs.Places.{update_unread, update_sets_nothing}
use Rattle.lst_script.proofs.lines.read_numbered_update.Goals as goal

pub returns-in_default-read_patch : goal.returns-in_default-read_patch
returns-in_default-read_patch c =
    let changes = texts c.args.changes.now in
    let as_many : length changes ≡ c.args.count = length-map c.args.changes.now (λ slice. slice.now) ∙ c.if-changes-count.false in
    λ limits. update_unread limits c.args.count c.args.key.now changes as_many c.in_default-read_patch.ensures

pub returns-then-not-sets_some : goal.returns-then-not-sets_some
returns-then-not-sets_some c =
    let changes = texts c.args.changes.now in
    let as_many : length changes ≡ c.args.count = length-map c.args.changes.now (λ slice. slice.now) ∙ c.if-changes-count.false in
    λ limits. update_sets_nothing limits c.args.count c.args.key.now c.in-Some.key changes c.in-Some-read_patch.patch as_many (sym c.in-Some.ensures) c.in-Some-read_patch.ensures (sym c.if-not-sets_some.ensures.is)
