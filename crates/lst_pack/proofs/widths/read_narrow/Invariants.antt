use Rattle.std.proofs.Common.{◌≡◌, ℕ, ◌+◌, ◌*◌, ◌/◌, ◌<◌, slice_index}
use Rattle.lst_pack.specs.Forms.{number_at}
use Rattle.lst_pack.proofs.widths.read_narrow.Given as goal

abbrev pub invariant-loop-place : goal.invariant-loop-place
invariant-loop-place g l = (p : ℕ) → p < l.place * (8 / g.row.WIDTH) → slice_index l.numbers p ≡ number_at l.words l.from g.row.WIDTH p

abbrev pub invariant-loop-k : goal.invariant-loop-k
invariant-loop-k g l = (p : ℕ) → p < l.place * (8 / g.row.WIDTH) + l.k → slice_index l.numbers p ≡ number_at l.words l.from g.row.WIDTH p
