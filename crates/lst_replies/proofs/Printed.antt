-- The text of a report has the report's lines, with or without its last newline.
use Rattle.std.proofs.Common.{◌≡◌, ℕ, suc, ◌+◌, ◌<◌, ◌≤◌, ◌^◌, false, List, [], ◌∷◌, ◌++◌, length, map, flat_map, decimal, Option, Some, None, refl, sym, ap, ◌∙◌, append_assoc, arith}
use Rattle.std.specs.List.{All, list_any, slice_split}
use Rattle.std.proofs.lemmas.List.Splits.{slice_split_at}
use Rattle.lst_model.specs.Cells.{Cell}
use Rattle.lst_model.specs.declared.replies.Reply.{Reply}
use Rattle.lst_model.specs.declared.replies.Reply.TheVariants.{Begun, Done, Row, Absent, Committed, Ended, Aborted, Sum, Count, Rows, Keys, Refused, Merged, NothingNew, NoFrame, Silent}
use Rattle.lst_model.specs.declared.replies.Cause.{Cause}
use Rattle.lst_model.specs.declared.replies.Cause.TheVariants.{Idle, Active, ReadOnly, Spent, Future, Missing, Exists, TableFull, Latched, Newer, Unfinished, TailFull, NotIndexed, Stale}
use Rattle.lst_replies.specs.declared.reports.Stamp.{Stamp}
use Rattle.lst_replies.specs.declared.reports.Report.{Report}
use Rattle.lst_replies.specs.Texts.{cells_text, reply_word, reply_rest, cause_words, cause_numbers, entry_text, key_text}
use Rattle.lst_replies.specs.ReportTexts.{is_newline, reply_line, told_text, history_line, stamp_line, stamp_lines, stamps_text, report_lines, report_text, CauseFits, EntryFits, CallReplyFits, MergeReplyFits, ReplyFits, StampFits, ReportFits, without_empty_end, text_lines, IsReportText}
use Rattle.lst_replies.proofs.Joined.{AreFree, free_all, any-append, any-decimal}
use Rattle.lst_replies.proofs.Spelling.{cells_free}

ends : {A : Type 0} (xs : List A) → xs ++ [] ≡ xs
ends [] = refl
ends (x ∷ xs) = ap (λ rest. x ∷ rest) (ends xs)

-- ---- no line has a newline

abbrev IsFree : List ℕ → Type 0
IsFree text = list_any is_newline text ≡ false

number_free : (n : ℕ) → n < 10 ^ 64 → IsFree (decimal n)
number_free n small = any-decimal 10 n (λ low. omega arith) small

with_both_free : (xs ys : List ℕ) → IsFree xs → IsFree ys → IsFree (xs ++ ys)
with_both_free xs ys e f = any-append is_newline xs ys e f

cause_free : (cause : Cause) → CauseFits cause → IsFree (cause_words cause ++ cause_numbers cause)
cause_free Idle fits = refl
cause_free Active fits = refl
cause_free ReadOnly fits = refl
cause_free Spent fits = refl
cause_free (Future clock) fits = number_free clock (omega arith)
cause_free Missing fits = refl
cause_free Exists fits = refl
cause_free TableFull fits = refl
cause_free Latched fits = refl
cause_free (Newer time) fits = number_free time (omega arith)
cause_free (Unfinished session number) fits = with_both_free (decimal session) (32 ∷ decimal number) (number_free session (omega (arith, fits.0))) (number_free number (omega (arith, fits.1)))
cause_free TailFull fits = refl
cause_free NotIndexed fits = refl
cause_free (Stale time) fits = number_free time (omega arith)

entries_free : (columns : ℕ) (list : List (ℕ × List Cell)) → All (EntryFits columns) list → IsFree (flat_map entry_text list)
entries_free columns [] fits = refl
entries_free columns (entry ∷ list) fits =
    let first : EntryFits columns entry = fits 0 entry (omega arith) in
    with_both_free (entry_text entry) (flat_map entry_text list)
    (with_both_free (decimal entry.0) (58 ∷ cells_text 44 entry.1) (number_free entry.0 (omega (arith, first.key))) (cells_free 10 44 (λ low. omega arith) (λ e. omega arith) entry.1 first.row.cells))
    (entries_free columns list (λ k d h. fits (suc k) d (omega arith)))

keys_free : (list : List ℕ) → All (λ key. key < 2 ^ 64) list → IsFree (flat_map key_text list)
keys_free [] fits = refl
keys_free (key ∷ list) fits =
    with_both_free (key_text key) (flat_map key_text list) (number_free key (omega (arith, fits 0 0 (omega arith)))) (keys_free list (λ k d h. fits (suc k) d (omega arith)))

reply_free : (columns : ℕ) (reply : Reply) → CallReplyFits columns reply → IsFree (reply_word reply ++ reply_rest reply)
reply_free columns (Begun time) fits = number_free time (omega arith)
reply_free columns Done fits = refl
reply_free columns (Row row) fits = cells_free 10 32 (λ low. omega arith) (λ e. omega arith) row fits.cells
reply_free columns Absent fits = refl
reply_free columns (Committed time) fits = number_free time (omega arith)
reply_free columns (Ended time) fits = number_free time (omega arith)
reply_free columns Aborted fits = refl
reply_free columns (Sum total) fits = number_free total (omega arith)
reply_free columns (Count rows) fits = number_free rows (omega arith)
reply_free columns (Rows list) fits = entries_free columns list fits
reply_free columns (Keys list) fits = keys_free list fits
reply_free columns (Refused cause) fits = cause_free cause fits
reply_free columns (Merged tps) fits = absurd fits
reply_free columns (NothingNew tps) fits = absurd fits
reply_free columns (NoFrame session) fits = absurd fits
reply_free columns Silent fits = absurd fits

merge_free : (reply : Reply) → MergeReplyFits reply → IsFree (reply_word reply ++ reply_rest reply)
merge_free (Merged tps) fits = number_free tps (omega arith)
merge_free (NothingNew tps) fits = number_free tps (omega arith)
merge_free (NoFrame session) fits = number_free session (omega arith)
merge_free (Begun time) fits = absurd fits
merge_free Done fits = absurd fits
merge_free (Row row) fits = absurd fits
merge_free Absent fits = absurd fits
merge_free (Committed time) fits = absurd fits
merge_free (Ended time) fits = absurd fits
merge_free Aborted fits = absurd fits
merge_free (Sum total) fits = absurd fits
merge_free (Count rows) fits = absurd fits
merge_free (Rows list) fits = absurd fits
merge_free (Keys list) fits = absurd fits
merge_free (Refused cause) fits = absurd fits
merge_free Silent fits = absurd fits

told_free : (columns : ℕ) (told : Option ℕ × Reply) → ReplyFits columns told → IsFree (reply_line told)
told_free columns (None, reply) fits = merge_free reply fits
told_free columns (Some session, reply) fits =
    with_both_free (decimal session ++ 32 ∷ []) (reply_word reply ++ reply_rest reply)
    (with_both_free (decimal session) (32 ∷ []) (number_free session (omega (arith, fits.0))) refl) (reply_free columns reply fits.1)

stamp_free : (time : ℕ) (stamp : Stamp) → time < 10 ^ 64 → StampFits stamp → IsFree (stamp_line time stamp)
stamp_free time stamp small fits =
    with_both_free (decimal time) (32 ∷ (decimal stamp.session ++ 32 ∷ (decimal stamp.number ++ 32 ∷ decimal stamp.begin))) (number_free time small)
    (with_both_free (decimal stamp.session) (32 ∷ (decimal stamp.number ++ 32 ∷ decimal stamp.begin)) (number_free stamp.session (omega (arith, fits.session)))
    (with_both_free (decimal stamp.number) (32 ∷ decimal stamp.begin) (number_free stamp.number (omega (arith, fits.number))) (number_free stamp.begin (omega (arith, fits.begin)))))

stamps_free : (time : ℕ) (stamps : List Stamp) → time + length stamps ≤ 10 ^ 64 → All StampFits stamps → AreFree 10 (stamp_lines time stamps)
stamps_free time [] few fits = tt
stamps_free time (stamp ∷ stamps) few fits =
    (stamp_free time stamp (omega arith) (fits 0 stamp (omega arith)), stamps_free (time + 1) stamps (omega arith) (λ k d h. fits (suc k) d (omega arith)))

replies_free : (columns : ℕ) (replies : List (Option ℕ × Reply)) (more : List (List ℕ)) → All (ReplyFits columns) replies → AreFree 10 more → AreFree 10 (map reply_line replies ++ more)
replies_free columns [] more fits free = free
replies_free columns (told ∷ replies) more fits free = (told_free columns told (fits 0 told (omega arith)), replies_free columns replies more (λ k d h. fits (suc k) d (omega arith)) free)

lines_free : (columns : ℕ) (report : Report) → ReportFits columns report → AreFree 10 (report_lines report)
lines_free columns report fits =
    replies_free columns report.replies (history_line (length report.history) ∷ stamp_lines 1 report.history) fits.replies
    (number_free (length report.history) (omega (arith, fits.few)), stamps_free 1 report.history (omega (arith, fits.few)) fits.history)

-- ---- the text is the lines, each with its newline

abbrev whole_text : List (List ℕ) → List ℕ
whole_text lines = flat_map (λ line. line ++ 10 ∷ []) lines

stamps-text : (time : ℕ) (stamps : List Stamp) → whole_text (stamp_lines time stamps) ≡ stamps_text time stamps
stamps-text time [] = refl
stamps-text time (stamp ∷ stamps) = ap (λ rest. (stamp_line time stamp ++ 10 ∷ []) ++ rest) (stamps-text (time + 1) stamps)

replies-text : (replies : List (Option ℕ × Reply)) (more : List (List ℕ)) → whole_text (map reply_line replies ++ more) ≡ flat_map told_text replies ++ whole_text more
replies-text [] more = refl
replies-text (told ∷ replies) more =
    ap (λ rest. (reply_line told ++ 10 ∷ []) ++ rest) (replies-text replies more)
    ∙ sym (append_assoc (reply_line told ++ 10 ∷ []) (flat_map told_text replies) (whole_text more))

report-text : (report : Report) → whole_text (report_lines report) ≡ report_text report
report-text report =
    replies-text report.replies (history_line (length report.history) ∷ stamp_lines 1 report.history)
    ∙ ap (λ rest. flat_map told_text report.replies ++ ((history_line (length report.history) ++ 10 ∷ []) ++ rest)) (stamps-text 1 report.history)

-- ---- the lines of the text

split-whole : (lines : List (List ℕ)) → AreFree 10 lines → slice_split is_newline (whole_text lines) ≡ lines ++ [] ∷ []
split-whole [] free = refl
split-whole (line ∷ lines) free =
    ap (slice_split is_newline) (append_assoc line (10 ∷ []) (whole_text lines))
    ∙ slice_split_at is_newline line 10 (whole_text lines) (free_all is_newline line free.0) refl
    ∙ ap (λ rest. line ∷ rest) (split-whole lines free.1)

without_end : (lines : List (List ℕ)) → without_empty_end (lines ++ [] ∷ []) ≡ lines
without_end [] = refl
without_end (line ∷ []) = refl
without_end (line ∷ next ∷ lines) = ap (λ rest. line ∷ rest) (without_end (next ∷ lines))

-- the text with its last newline
pub printed : (columns : ℕ) (report : Report) → ReportFits columns report → IsReportText columns (report_text report) report
printed columns report fits = record {
  fits = fits;
  lines = ap text_lines (sym (report-text report)) ∙ ap without_empty_end (split-whole (report_lines report) (lines_free columns report fits)) ∙ without_end (report_lines report);
}
