use Rattle.std.proofs.Common.{◌/◌, ◌^◌, ℕ, eqb, ap}
use Rattle.std.proofs.lemmas.Nat.{and_mask}
use Rattle.lst_model.proofs.bits.has_column.Goals as goal

pub returns : goal.returns
returns c = ap (λ (m : ℕ). eqb m 1) (and_mask (c.args.bits / 2 ^ c.args.column) 1)
