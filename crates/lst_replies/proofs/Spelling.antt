-- The words of a reply, which its line is made of.
use Rattle.std.proofs.Common.{◌≡◌, ℕ, suc, ◌<◌, ◌≤◌, ◌^◌, false, ◌||◌, List, [], ◌∷◌, ◌++◌, length, map, flat_map, decimal, codes, Option, Some, None, refl, sym, ap, ◌∙◌, append_assoc, arith, eqb}
use Rattle.std.specs.List.{All, list_any, join_with_byte}
use Rattle.std.proofs.lemmas.Bool.{ne_eqb}
use Rattle.std.proofs.lemmas.List.Splits.{join_with_byte-slice_split}
use Rattle.lst_model.specs.Cells.{Cell}
use Rattle.lst_model.specs.declared.replies.Reply.{Reply}
use Rattle.lst_model.specs.declared.replies.Reply.TheVariants.{Begun, Done, Row, Absent, Committed, Ended, Aborted, Sum, Count, Rows, Keys, Refused, Merged, NothingNew, NoFrame, Silent}
use Rattle.lst_model.specs.declared.replies.Cause.{Cause}
use Rattle.lst_model.specs.declared.replies.Cause.TheVariants.{Idle, Active, ReadOnly, Spent, Future, Missing, Exists, TableFull, Latched, Newer, Unfinished, TailFull, NotIndexed, Stale}
use Rattle.lst_replies.specs.Texts.{cell_text, cells_text, reply_word, reply_rest, entry_text, key_text}
use Rattle.lst_replies.specs.ReportTexts.{reply_line, CauseFits, CellFits, EntryFits, CallReplyFits, MergeReplyFits, ReplyFits}
use Rattle.lst_replies.specs.Reading.{words_of}
use Rattle.lst_replies.proofs.Joined.{AreFree, join-flat, split-join, any-append, any-decimal}

abbrev pub entry_word : ℕ × List Cell → List ℕ
entry_word entry = decimal entry.0 ++ 58 ∷ cells_text 44 entry.1

abbrev pub cause_words_of : Cause → List (List ℕ)
cause_words_of Idle = codes "refused" ∷ codes "idle" ∷ []
cause_words_of Active = codes "refused" ∷ codes "active" ∷ []
cause_words_of ReadOnly = codes "refused" ∷ codes "readonly" ∷ []
cause_words_of Spent = codes "refused" ∷ codes "spent" ∷ []
cause_words_of (Future clock) = codes "refused" ∷ codes "future" ∷ decimal clock ∷ []
cause_words_of Missing = codes "refused" ∷ codes "missing" ∷ []
cause_words_of Exists = codes "refused" ∷ codes "exists" ∷ []
cause_words_of TableFull = codes "full" ∷ codes "table" ∷ []
cause_words_of Latched = codes "conflict" ∷ codes "latched" ∷ []
cause_words_of (Newer time) = codes "conflict" ∷ codes "newer" ∷ decimal time ∷ []
cause_words_of (Unfinished session number) = codes "conflict" ∷ codes "open" ∷ decimal session ∷ decimal number ∷ []
cause_words_of TailFull = codes "full" ∷ codes "tail" ∷ []
cause_words_of NotIndexed = codes "refused" ∷ codes "noindex" ∷ []
cause_words_of (Stale time) = codes "conflict" ∷ codes "stale" ∷ decimal time ∷ []

abbrev pub words_in : Reply → List (List ℕ)
words_in (Begun time) = codes "begun" ∷ decimal time ∷ []
words_in Done = codes "ok" ∷ []
words_in (Row row) = codes "row" ∷ map cell_text row
words_in Absent = codes "none" ∷ []
words_in (Committed time) = codes "committed" ∷ decimal time ∷ []
words_in (Ended time) = codes "ended" ∷ decimal time ∷ []
words_in Aborted = codes "aborted" ∷ []
words_in (Sum total) = codes "sum" ∷ decimal total ∷ []
words_in (Count rows) = codes "count" ∷ decimal rows ∷ []
words_in (Rows list) = codes "rows" ∷ map entry_word list
words_in (Keys list) = codes "keys" ∷ map (λ key. decimal key) list
words_in (Refused cause) = cause_words_of cause
words_in (Merged tps) = codes "merged" ∷ decimal tps ∷ []
words_in (NothingNew tps) = codes "idle" ∷ decimal tps ∷ []
words_in (NoFrame session) = codes "noframe" ∷ decimal session ∷ []
words_in Silent = []

abbrev pub session_words : Option ℕ → List (List ℕ)
session_words None = []
session_words (Some session) = decimal session ∷ []

abbrev pub words_told : Option ℕ × Reply → List (List ℕ)
words_told told = session_words told.0 ++ words_in told.1

-- ---- the line is its words, with a space between two of them

cells-join : (between : ℕ) (cell : Cell) (cells : List Cell) → cells_text between (cell ∷ cells) ≡ join_with_byte between (map cell_text (cell ∷ cells))
cells-join between cell cells = ap (λ rest. cell_text cell ++ rest) (each cells) ∙ sym (join-flat between (cell_text cell) (map cell_text cells))
  where
    each : (xs : List Cell) → flat_map (λ next. between ∷ cell_text next) xs ≡ flat_map (λ word. between ∷ word) (map cell_text xs)
    each [] = refl
    each (x ∷ xs) = ap (λ rest. (between ∷ cell_text x) ++ rest) (each xs)

pub cells-joined : (between columns : ℕ) (row : List Cell) → 0 < columns → length row ≡ columns → cells_text between row ≡ join_with_byte between (map cell_text row)
cells-joined between columns [] some width = absurd (omega arith)
cells-joined between columns (cell ∷ row) some width = cells-join between cell row

row-line : (columns : ℕ) (row : List Cell) → 0 < columns → length row ≡ columns → codes "row " ++ cells_text 32 row ≡ join_with_byte 32 (codes "row" ∷ map cell_text row)
row-line columns [] some width = absurd (omega arith)
row-line columns (cell ∷ row) some width = ap (λ rest. codes "row " ++ rest) (cells-join 32 cell row)

entries-line : (list : List (ℕ × List Cell)) → flat_map entry_text list ≡ flat_map (λ word. 32 ∷ word) (map entry_word list)
entries-line [] = refl
entries-line (entry ∷ list) = ap (λ rest. entry_text entry ++ rest) (entries-line list)

keys-line : (list : List ℕ) → flat_map key_text list ≡ flat_map (λ word. 32 ∷ word) (map (λ key. decimal key) list)
keys-line [] = refl
keys-line (key ∷ list) = ap (λ rest. key_text key ++ rest) (keys-line list)

cause-line : (cause : Cause) → reply_rest (Refused cause) ≡ join_with_byte 32 (cause_words_of cause)
cause-line Idle = refl
cause-line Active = refl
cause-line ReadOnly = refl
cause-line Spent = refl
cause-line (Future clock) = refl
cause-line Missing = refl
cause-line Exists = refl
cause-line TableFull = refl
cause-line Latched = refl
cause-line (Newer time) = refl
cause-line (Unfinished session number) = refl
cause-line TailFull = refl
cause-line NotIndexed = refl
cause-line (Stale time) = refl

ends : (xs : List ℕ) → xs ++ [] ≡ xs
ends [] = refl
ends (x ∷ xs) = ap (λ rest. x ∷ rest) (ends xs)

reply-line : (columns : ℕ) (reply : Reply) → 0 < columns → CallReplyFits columns reply → reply_word reply ++ reply_rest reply ≡ join_with_byte 32 (words_in reply)
reply-line columns (Begun time) some fits = refl
reply-line columns Done some fits = refl
reply-line columns (Row row) some fits = row-line columns row some fits.width
reply-line columns Absent some fits = refl
reply-line columns (Committed time) some fits = refl
reply-line columns (Ended time) some fits = refl
reply-line columns Aborted some fits = refl
reply-line columns (Sum total) some fits = refl
reply-line columns (Count rows) some fits = refl
reply-line columns (Rows list) some fits = ap (λ rest. codes "rows" ++ rest) (entries-line list) ∙ sym (join-flat 32 (codes "rows") (map entry_word list))
reply-line columns (Keys list) some fits = ap (λ rest. codes "keys" ++ rest) (keys-line list) ∙ sym (join-flat 32 (codes "keys") (map (λ key. decimal key) list))
reply-line columns (Refused cause) some fits = cause-line cause
reply-line columns (Merged tps) some fits = absurd fits
reply-line columns (NothingNew tps) some fits = absurd fits
reply-line columns (NoFrame session) some fits = absurd fits
reply-line columns Silent some fits = absurd fits

joined-cons : (word : List ℕ) (words : List (List ℕ)) → 0 < length words → join_with_byte 32 (word ∷ words) ≡ (word ++ 32 ∷ []) ++ join_with_byte 32 words
joined-cons word [] some = absurd (omega arith)
joined-cons word (next ∷ words) some = sym (append_assoc word (32 ∷ []) (join_with_byte 32 (next ∷ words)))

some_word : (columns : ℕ) (reply : Reply) → CallReplyFits columns reply → 0 < length (words_in reply)
some_word columns (Begun time) fits = omega arith
some_word columns Done fits = omega arith
some_word columns (Row row) fits = omega arith
some_word columns Absent fits = omega arith
some_word columns (Committed time) fits = omega arith
some_word columns (Ended time) fits = omega arith
some_word columns Aborted fits = omega arith
some_word columns (Sum total) fits = omega arith
some_word columns (Count rows) fits = omega arith
some_word columns (Rows list) fits = omega arith
some_word columns (Keys list) fits = omega arith
some_word columns (Refused cause) fits = cause_word cause
  where
    cause_word : (cause : Cause) → 0 < length (cause_words_of cause)
    cause_word Idle = omega arith
    cause_word Active = omega arith
    cause_word ReadOnly = omega arith
    cause_word Spent = omega arith
    cause_word (Future clock) = omega arith
    cause_word Missing = omega arith
    cause_word Exists = omega arith
    cause_word TableFull = omega arith
    cause_word Latched = omega arith
    cause_word (Newer time) = omega arith
    cause_word (Unfinished session number) = omega arith
    cause_word TailFull = omega arith
    cause_word NotIndexed = omega arith
    cause_word (Stale time) = omega arith
some_word columns (Merged tps) fits = absurd fits
some_word columns (NothingNew tps) fits = absurd fits
some_word columns (NoFrame session) fits = absurd fits
some_word columns Silent fits = absurd fits

merge-line : (reply : Reply) → MergeReplyFits reply → reply_word reply ++ reply_rest reply ≡ join_with_byte 32 (words_in reply)
merge-line (Merged tps) fits = refl
merge-line (NothingNew tps) fits = refl
merge-line (NoFrame session) fits = refl
merge-line (Begun time) fits = absurd fits
merge-line Done fits = absurd fits
merge-line (Row row) fits = absurd fits
merge-line Absent fits = absurd fits
merge-line (Committed time) fits = absurd fits
merge-line (Ended time) fits = absurd fits
merge-line Aborted fits = absurd fits
merge-line (Sum total) fits = absurd fits
merge-line (Count rows) fits = absurd fits
merge-line (Rows list) fits = absurd fits
merge-line (Keys list) fits = absurd fits
merge-line (Refused cause) fits = absurd fits
merge-line Silent fits = absurd fits

pub told-line : (columns : ℕ) (told : Option ℕ × Reply) → 0 < columns → ReplyFits columns told → reply_line told ≡ join_with_byte 32 (words_told told)
told-line columns (None, reply) some fits = merge-line reply fits
told-line columns (Some session, reply) some fits =
    ap (λ rest. (decimal session ++ 32 ∷ []) ++ rest) (reply-line columns reply some fits.1)
    ∙ sym (joined-cons (decimal session) (words_in reply) (some_word columns reply fits.1))

-- ---- no word has a space

numbers-free : (byte : ℕ) → ¬ (48 ≤ byte) → (numbers : List ℕ) → All (λ n. n < 2 ^ 64) numbers → AreFree byte (map (λ n. decimal n) numbers)
numbers-free byte low [] fits = tt
numbers-free byte low (n ∷ numbers) fits = (any-decimal byte n low (omega (arith, fits 0 0 (omega arith))), numbers-free byte low numbers (λ k d h. fits (suc k) d (omega arith)))

-- a cell has no byte below the digits: the letters of the word for null lie above them
pub cell_free : (byte : ℕ) → ¬ (48 ≤ byte) → (cell : Cell) → CellFits cell → list_any (λ c. eqb c byte) (cell_text cell) ≡ false
cell_free byte low None fits = rw (ne_eqb 110 byte (λ e. low (omega arith)), ne_eqb 117 byte (λ e. low (omega arith)), ne_eqb 108 byte (λ e. low (omega arith))) refl
cell_free byte low (Some number) fits = any-decimal byte number low (omega arith)

pub row_free : (byte : ℕ) → ¬ (48 ≤ byte) → (row : List Cell) → All CellFits row → AreFree byte (map cell_text row)
row_free byte low [] fits = tt
row_free byte low (cell ∷ row) fits = (cell_free byte low cell (fits 0 None (omega arith)), row_free byte low row (λ k d h. fits (suc k) d (omega arith)))

pub cells_free : (byte between : ℕ) → ¬ (48 ≤ byte) → ¬ (byte ≡ between) → (row : List Cell) → All CellFits row → list_any (λ c. eqb c byte) (cells_text between row) ≡ false
cells_free byte between low apart [] fits = refl
cells_free byte between low apart (cell ∷ row) fits =
    any-append (λ c. eqb c byte) (cell_text cell) (flat_map (λ next. between ∷ cell_text next) row) (cell_free byte low cell (fits 0 None (omega arith))) (each row (λ k d h. fits (suc k) d (omega arith)))
  where
    each : (xs : List Cell) → All CellFits xs → list_any (λ c. eqb c byte) (flat_map (λ next. between ∷ cell_text next) xs) ≡ false
    each [] small = refl
    each (x ∷ xs) small =
        ap (λ b. b || list_any (λ c. eqb c byte) (cell_text x ++ flat_map (λ next. between ∷ cell_text next) xs)) (ne_eqb between byte (λ e. apart (sym e)))
        ∙ any-append (λ c. eqb c byte) (cell_text x) (flat_map (λ next. between ∷ cell_text next) xs) (cell_free byte low x (small 0 None (omega arith))) (each xs (λ k d h. small (suc k) d (omega arith)))

entries-free : (columns : ℕ) (list : List (ℕ × List Cell)) → All (EntryFits columns) list → AreFree 32 (map entry_word list)
entries-free columns [] fits = tt
entries-free columns (entry ∷ list) fits =
    let first : EntryFits columns entry = fits 0 entry (omega arith) in (
      any-append (λ c. eqb c 32) (decimal entry.0) (58 ∷ cells_text 44 entry.1) (any-decimal 32 entry.0 (λ low. omega arith) (omega (arith, first.key)))
          (cells_free 32 44 (λ low. omega arith) (λ e. omega arith) entry.1 first.row.cells),
      entries-free columns list (λ k d h. fits (suc k) d (omega arith)),
    )

one_number : (n : ℕ) → n < 10 ^ 64 → AreFree 32 (decimal n ∷ [])
one_number n small = (any-decimal 32 n (λ low. omega arith) small, tt)

causes-free : (cause : Cause) → CauseFits cause → AreFree 32 (cause_words_of cause)
causes-free Idle fits = (refl, (refl, tt))
causes-free Active fits = (refl, (refl, tt))
causes-free ReadOnly fits = (refl, (refl, tt))
causes-free Spent fits = (refl, (refl, tt))
causes-free (Future clock) fits = (refl, (refl, one_number clock (omega arith)))
causes-free Missing fits = (refl, (refl, tt))
causes-free Exists fits = (refl, (refl, tt))
causes-free TableFull fits = (refl, (refl, tt))
causes-free Latched fits = (refl, (refl, tt))
causes-free (Newer time) fits = (refl, (refl, one_number time (omega arith)))
causes-free (Unfinished session number) fits = (refl, (refl, ((one_number session (omega arith)).0, one_number number (omega arith))))
causes-free TailFull fits = (refl, (refl, tt))
causes-free NotIndexed fits = (refl, (refl, tt))
causes-free (Stale time) fits = (refl, (refl, one_number time (omega arith)))

words-free : (columns : ℕ) (reply : Reply) → CallReplyFits columns reply → AreFree 32 (words_in reply)
words-free columns (Begun time) fits = (refl, one_number time (omega arith))
words-free columns Done fits = (refl, tt)
words-free columns (Row row) fits = (refl, row_free 32 (λ low. omega arith) row fits.cells)
words-free columns Absent fits = (refl, tt)
words-free columns (Committed time) fits = (refl, one_number time (omega arith))
words-free columns (Ended time) fits = (refl, one_number time (omega arith))
words-free columns Aborted fits = (refl, tt)
words-free columns (Sum total) fits = (refl, one_number total (omega arith))
words-free columns (Count rows) fits = (refl, one_number rows (omega arith))
words-free columns (Rows list) fits = (refl, entries-free columns list fits)
words-free columns (Keys list) fits = (refl, numbers-free 32 (λ low. omega arith) list fits)
words-free columns (Refused cause) fits = causes-free cause fits
words-free columns (Merged tps) fits = absurd fits
words-free columns (NothingNew tps) fits = absurd fits
words-free columns (NoFrame session) fits = absurd fits
words-free columns Silent fits = absurd fits

merge-free : (reply : Reply) → MergeReplyFits reply → AreFree 32 (words_in reply)
merge-free (Merged tps) fits = (refl, one_number tps (omega arith))
merge-free (NothingNew tps) fits = (refl, one_number tps (omega arith))
merge-free (NoFrame session) fits = (refl, one_number session (omega arith))
merge-free (Begun time) fits = absurd fits
merge-free Done fits = absurd fits
merge-free (Row row) fits = absurd fits
merge-free Absent fits = absurd fits
merge-free (Committed time) fits = absurd fits
merge-free (Ended time) fits = absurd fits
merge-free Aborted fits = absurd fits
merge-free (Sum total) fits = absurd fits
merge-free (Count rows) fits = absurd fits
merge-free (Rows list) fits = absurd fits
merge-free (Keys list) fits = absurd fits
merge-free (Refused cause) fits = absurd fits
merge-free Silent fits = absurd fits

told-free : (columns : ℕ) (told : Option ℕ × Reply) → ReplyFits columns told → AreFree 32 (words_told told)
told-free columns (None, reply) fits = merge-free reply fits
told-free columns (Some session, reply) fits = ((one_number session (omega (arith, fits.0))).0, words-free columns reply fits.1)

pub split-words : (words : List (List ℕ)) → 0 < length words → AreFree 32 words → words_of (join_with_byte 32 words) ≡ words
split-words [] some free = absurd (omega arith)
split-words (word ∷ words) some free = split-join 32 word words free

some_told : (columns : ℕ) (told : Option ℕ × Reply) → ReplyFits columns told → 0 < length (words_told told)
some_told columns (None, reply) fits = by_reply reply fits
  where
    by_reply : (reply : Reply) → MergeReplyFits reply → 0 < length (words_in reply)
    by_reply (Merged tps) fits = omega arith
    by_reply (NothingNew tps) fits = omega arith
    by_reply (NoFrame session) fits = omega arith
    by_reply (Begun time) fits = absurd fits
    by_reply Done fits = absurd fits
    by_reply (Row row) fits = absurd fits
    by_reply Absent fits = absurd fits
    by_reply (Committed time) fits = absurd fits
    by_reply (Ended time) fits = absurd fits
    by_reply Aborted fits = absurd fits
    by_reply (Sum total) fits = absurd fits
    by_reply (Count rows) fits = absurd fits
    by_reply (Rows list) fits = absurd fits
    by_reply (Keys list) fits = absurd fits
    by_reply (Refused cause) fits = absurd fits
    by_reply Silent fits = absurd fits
some_told columns (Some session, reply) fits = omega arith

-- the line of a reply has the reply's words
pub words-line : (columns : ℕ) (told : Option ℕ × Reply) → 0 < columns → ReplyFits columns told → words_of (reply_line told) ≡ words_told told
words-line columns told some fits = ap words_of (told-line columns told some fits) ∙ split-words (words_told told) (some_told columns told fits) (told-free columns told fits)

-- a line that has a reply's words is the reply's
pub line-words : (columns : ℕ) (told : Option ℕ × Reply) (line : List ℕ) → 0 < columns → ReplyFits columns told → words_of line ≡ words_told told → line ≡ reply_line told
line-words columns told line some fits same = sym (join_with_byte-slice_split 32 line) ∙ ap (join_with_byte 32) same ∙ sym (told-line columns told some fits)
