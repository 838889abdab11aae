use Rattle.std.proofs.Common.{◌≡◌, ◌<◌, ℕ, slice_index, slice_index_or, ◌∙◌, sym, ap, arith, take, replicate, List}
use Rattle.std.proofs.lemmas.List.{get_or-replicate}
use Rattle.lst_layout.specs.declared.TheConstants.{RANGE_RECORDS}
use Rattle.lst_pages.specs.declared.entries.Entry.{Entry}
use Rattle.lst_pages.specs.declared.tails.PageTail.{PageTail}
use Rattle.lst_pages.specs.Tails.{touches}
use Rattle.lst_pages.specs.Entries.{blank, folded}
use Rattle.lst_pages.specs.Frames as frame
use Rattle.lst_pages.proofs.Pages.{entries-told}
use Rattle.lst_pages.proofs.frames.is_right.Goals as goal

-- src/frames.rt:36:1
pub returns : goal.returns
returns c = let column : ℕ = c.args.column in let words : ℕ → ℕ = slice_index c.args.words.now in let tails : List PageTail = c.args.tails.now in let tps = frame.tps_in words in
    let start : (i : ℕ) → i < RANGE_RECORDS → slice_index_or (replicate RANGE_RECORDS c.blank-entries.result) i blank ≡ blank = λ i low. get_or-replicate RANGE_RECORDS i c.blank-entries.result blank low ∙ c.blank-entries.ensures in
    let made : (i : ℕ) → i < RANGE_RECORDS → slice_index_or c.fold_tails.new.entries i blank ≡ folded (touches column i) column blank (take tps tails) =
    λ i low. c.fold_tails.ensures i low ∙ ap (λ (e : Entry). folded (touches column i) column e (take tps tails)) (start i low) in (
      (λ is. record { settled = omega arith; entries = entries-told words _ _ made (c.has_entries.ensures.0 is) }),
      (λ right. c.has_entries.ensures.1 (entries-told words _ _ (λ i low. sym (made i low)) right.entries)),
    )
