use Rattle.std.proofs.Common.{◌≡◌, ℕ, arith, subst}
use Rattle.lst_pack.specs.declared.forms.Form.TheVariants.{Reference}
use Rattle.lst_pack.specs.Forms.{PacksAs}
use Rattle.lst_pack.proofs.packing.write_reference.Goals as goal

pub returns-in_default-clause-packs : goal.returns-in_default-clause-packs
returns-in_default-clause-packs c = let e : 32 ≡ c.args.width = omega arith in
    subst (λ (width : ℕ). PacksAs (Reference width) c.write_differences-in_default.new.out c.args.values.now) e c.write_differences-in_default.ensures.packs
