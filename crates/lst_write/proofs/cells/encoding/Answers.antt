use Rattle.std.proofs.Common.{ℕ, ◌-◌, ◌^◌, sym, subst}
use Rattle.lst_model.specs.declared.acts.Act.{Act}
use Rattle.lst_model.specs.Cells.{bits_set}
use Rattle.lst_bits.specs.Encodings.{AreWithin}
use Rattle.lst_write.specs.Cells.{IsActFor}
use Rattle.lst_write.proofs.Encodings.{row_within, patch_within}
use Rattle.lst_write.proofs.cells.encoding.Goals as goal

pub pack_encoding-requires : goal.pack_encoding-requires
pack_encoding-requires c = subst (λ (m : ℕ). AreWithin c.nulls.result m) (sym c.full_mask.ensures)
    (subst (λ (n : ℕ). AreWithin n (2 ^ c.args.columns - 1)) (sym c.nulls.ensures.nulls)
    (row_within c.args.columns c.in-Put.row (subst (λ (act : Act). IsActFor c.args.columns act) c.in-Put.is c.requires.act)))

pub pack_encoding-requires-in-Set : goal.pack_encoding-requires-in-Set
pack_encoding-requires-in-Set c = subst (λ (m : ℕ). AreWithin c.nulls-in-Set.result m) (sym c.set_bits.ensures)
    (subst (λ (n : ℕ). AreWithin n (bits_set c.in-Set.patch)) (sym c.nulls-in-Set.ensures.nulls) (patch_within c.in-Set.patch))
