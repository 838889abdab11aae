use Rattle.std.proofs.Common.{List, ℕ, take, drop, refl, ap, ◌∙◌}
use Rattle.lst_log.proofs.Loads.{found_so, none_so}
use Rattle.lst_log.proofs.load.load_record.Goals as goal

pub returns-in-Ok-read_record-clause-found : goal.returns-in-Ok-read_record-clause-found
returns-in-Ok-read_record-clause-found g c =
    let content = g.D.Disk.content in
    found_so c.args.columns (drop c.args.at (content c.args.disk.now)) c.as_slice.result.now c.in-Some.len c.in-Some.len refl
    (c.as_slice.ensures.value ∙ c.in-Ok-fill.ensures.bytes ∙ ap (λ (bytes : List ℕ). take c.in-Some.len (drop c.args.at bytes)) c.body_len.ensures.reads.same) c.in-Ok-read_record.read c.in-Ok-read_record.ensures.found

pub returns-in-Ok-read_record-clause-none : goal.returns-in-Ok-read_record-clause-none
returns-in-Ok-read_record-clause-none g c =
    let content = g.D.Disk.content in
    let some = rw c.in-Some.is at c.in-Ok.ensures.some in
    none_so c.args.columns (drop c.args.at (content c.args.disk.now)) c.as_slice.result.now c.in-Some.len c.in-Some.len refl
    (c.as_slice.ensures.value ∙ c.in-Ok-fill.ensures.bytes ∙ ap (λ (bytes : List ℕ). take c.in-Some.len (drop c.args.at bytes)) c.body_len.ensures.reads.same) c.in-Ok-read_record.read some.1 c.in-Ok-read_record.ensures.none
