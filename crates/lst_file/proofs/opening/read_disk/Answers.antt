use Rattle.std.proofs.Common.{refl, inr, ◌∙◌, ◌≡◌, ◌≤◌, ◌<◌, ◌-◌, length, arith}
use Rattle.lst_file.proofs.Found.{place_is, after_reading, opened_exact, refused_write, refused_sync}
use Rattle.lst_file.proofs.opening.read_disk.Goals as goal

pub returns-then-held-size : goal.returns-then-held-size
returns-then-held-size g c =
    let count = c.in-Ok.count in
    let bytes = c.read_over.new.bytes.items in
    let low : c.args.offset ≤ count = let t = c.if-count-offset.false in omega (arith, t) in
    let wide : length bytes ≡ count - c.args.offset = c.in_default-read_over.ensures.length ∙ c.in-Ok-zeros.ensures.length in
    let place = place_is c.args.offset count (count - c.args.offset) bytes low refl wide in
    let enough : c.args.size ≤ length bytes = let t = c.if-held-size.true in omega (arith, t, wide) in
    opened_exact c.args.offset c.args.size bytes _ _ enough (after_reading c.args.offset count bytes _ _ _ _ place c.in-Ok.ensures c.in_default-flush.ensures c.in_default-read_over.ensures.read)

pub returns-in-Err-write : goal.returns-in-Err-write
returns-in-Err-write g c =
    let count = c.in-Ok.count in
    let bytes = c.read_over.new.bytes.items in
    let low : c.args.offset ≤ count = let t = c.if-count-offset.false in omega (arith, t) in
    let wide : length bytes ≡ count - c.args.offset = c.in_default-read_over.ensures.length ∙ c.in-Ok-zeros.ensures.length in
    let place = place_is c.args.offset count (count - c.args.offset) bytes low refl wide in
    let short : count - c.args.offset < c.args.size = let t = c.if-held-size.false in omega (arith, t) in
    let read = after_reading c.args.offset count bytes _ _ _ _ place c.in-Ok.ensures c.in_default-flush.ensures c.in_default-read_over.ensures.read in
    refused_write c.args.offset c.args.size count (count - c.args.offset) bytes c.deref.result.now _ _ place wide short (c.deref.ensures.value ∙ c.lengthen.ensures) read _ c.in-Err-write.ensures

pub returns-in-Err-sync : goal.returns-in-Err-sync
returns-in-Err-sync g c =
    let count = c.in-Ok.count in
    let bytes = c.read_over.new.bytes.items in
    let low : c.args.offset ≤ count = let t = c.if-count-offset.false in omega (arith, t) in
    let wide : length bytes ≡ count - c.args.offset = c.in_default-read_over.ensures.length ∙ c.in-Ok-zeros.ensures.length in
    let place = place_is c.args.offset count (count - c.args.offset) bytes low refl wide in
    let short : count - c.args.offset < c.args.size = let t = c.if-held-size.false in omega (arith, t) in
    let read = after_reading c.args.offset count bytes _ _ _ _ place c.in-Ok.ensures c.in_default-flush.ensures c.in_default-read_over.ensures.read in
    inr (refused_sync c.args.offset c.args.size count (count - c.args.offset) bytes c.deref.result.now _ _ place wide short (c.deref.ensures.value ∙ c.lengthen.ensures) read _ _ c.in_default-write.ensures c.in-Err-sync.ensures)
