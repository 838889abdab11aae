use Rattle.std.proofs.Common.{◌≡◌, ◌+◌, drop, Some, sym, ap, ◌∙◌}
use Rattle.std.specs.List.{slice_split}
use Rattle.std.proofs.lemmas.List.{take_rest}
use Rattle.lst_replies.specs.Reading.{is_comma, texts, cells_of, entry_at, entry_of}
use Rattle.lst_replies.proofs.Sequences.{both_read}
use Rattle.lst_replies.proofs.long.read_entry.Goals as goal

pub returns : goal.returns
returns c =
    let columns = c.args.columns in
    let word = c.args.word.now in
    let colon = c.in-Some.colon in
    let at : entry_of columns word ≡ entry_at columns word (Some colon) = ap (entry_at columns word) (sym c.in-Some.ensures) in
    let parts : texts c.deref.result.now ≡ slice_split is_comma (drop (colon + 1) word) =
    ap (λ slices. texts slices) c.deref.ensures.value ∙ c.in_ok-split_cells.ensures ∙ ap (slice_split is_comma) (take_rest word (colon + 1)) in
    let row : cells_of columns (slice_split is_comma (drop (colon + 1) word)) ≡ Some c.in-Some-read_cells.row =
    sym (c.in-Some-read_cells.ensures ∙ ap (cells_of columns) parts) in
    sym (at ∙ both_read (λ key cells. (key, cells)) _ _ c.in-Some-read_u64.key c.in-Some-read_cells.row (sym c.in-Some-read_u64.ensures) row)
