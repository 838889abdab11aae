use Rattle.std.proofs.Common.{ℕ, ◌<◌, subst, sym, refl}
use Rattle.std.proofs.lemmas.List.{get_or-replicate}
use Rattle.lst_pack.proofs.packing.spots_of.Goals as goal

pub loop-code-init : goal.loop-code-init
loop-code-init c = record { long = refl; low = λ spot low. subst (λ (n : ℕ). n < c.args.size) (sym (get_or-replicate 128 spot 0 0 low)) c.requires.some }
