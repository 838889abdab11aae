use Rattle.std.proofs.Common.{ℕ, List, slice_index, sym, subst, ap, ◌∙◌}
use Rattle.lst_pack.specs.Forms.{Packs}
use Rattle.lst_pages.specs.Frames as frame
use Rattle.lst_pages.proofs.frames.entry_in.Goals as goal

pub returns : goal.returns
returns c = λ values packed. c.entry_with.ensures ∙ ap (λ (value : ℕ). frame.entry_in (slice_index c.args.words.now) value c.args.slot)
    (c.get.ensures values (subst (λ (words : List ℕ). Packs words values) (sym c.packed_words.ensures) packed))
