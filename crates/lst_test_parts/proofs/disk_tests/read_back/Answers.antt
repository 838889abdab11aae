use Rattle.std.proofs.Common.{◌≡◌, ◌+◌, ◌≤◌, ◌∙◌, ℕ, List, ◌++◌, length, take, drop, ap, arith, append_assoc}
use Rattle.std.proofs.lemmas.List.{take_at, drop_at, length-take-le}
use Rattle.lst_disk.specs.Disk.{overwritten}
use Rattle.lst_test_parts.proofs.disk_tests.read_back.Goals as goal

-- the bytes of a piece that was written over others
written_back : (content : List ℕ) (at n : ℕ) (bytes : List ℕ) → length bytes ≡ n → at + n ≤ length content → take n (drop at (overwritten content at bytes)) ≡ bytes
written_back content at n bytes is within =
    let behind = drop (at + length bytes) content in
    let front : length (take at content) ≡ at = length-take-le at content (omega arith) in
    ap (λ (l : List ℕ). take n (drop at l)) (append_assoc (take at content) bytes behind) ∙ ap (take n) (drop_at (take at content) (bytes ++ behind) at front) ∙ take_at bytes behind n is

pub returns-clause-same : goal.returns-clause-same
returns-clause-same g c =
    let content = g.D.Disk.content in
    let wide : c.args.at + 4 ≤ length (content c.room.new.self) = omega (arith, c.requires.within, ap length c.room.ensures.content) in
    c.in-Ok-read.ensures.bytes ∙ ap (λ (l : List ℕ). take 4 (drop c.args.at l)) (c.in-Ok-sync.ensures.content ∙ c.in-Ok-write_at.ensures.written)
    ∙ written_back (content c.room.new.self) c.args.at 4 c.args.piece.now c.requires.piece wide
