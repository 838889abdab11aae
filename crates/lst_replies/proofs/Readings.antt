-- What is read of the words of a line is what they spell, and what is spelled is read.
use Rattle.std.proofs.Common.{◌≡◌, ℕ, suc, ◌+◌, ◌<◌, ◌^◌, Bool, true, false, ◌&&◌, List, [], ◌∷◌, ◌++◌, length, map, take, drop, decimal, codes, bytes_eq, eqb, Option, Some, None, option_map, refl, sym, ap, ◌∙◌, arith}
use Rattle.std.specs.List.{All, list_any, slice_split, join_with_byte, position}
use Rattle.std.proofs.lemmas.Bool.{and_parts, cond-true, cond-false, false≢true, eq-eqb, eqb-true}
use Rattle.std.proofs.lemmas.List.Elements.{All-cons, All-nil}
use Rattle.std.proofs.lemmas.List.Splits.{join_with_byte-slice_split}
use Rattle.std.proofs.Math.Seq.{take-append_seam, drop-append-add}
use Rattle.lst_model.specs.Cells.{Cell}
use Rattle.lst_model.specs.declared.replies.Reply.{Reply}
use Rattle.lst_model.specs.declared.replies.Reply.TheVariants.{Begun, Done, Row, Absent, Committed, Ended, Aborted, Sum, Count, Rows, Keys, Refused, Merged, NothingNew, NoFrame}
use Rattle.lst_model.specs.declared.replies.Cause.{Cause}
use Rattle.lst_model.specs.declared.replies.Cause.TheVariants.{Idle, Active, ReadOnly, Spent, Future, Missing, Exists, TableFull, Latched, Newer, Unfinished, TailFull, NotIndexed, Stale}
use Rattle.lst_replies.specs.Texts.{cell_text, cells_text}
use Rattle.lst_replies.specs.ReportTexts.{reply_line, CauseFits, CellFits, RowFits, EntryFits, CallReplyFits, MergeReplyFits, ReplyFits}
use Rattle.lst_replies.specs.Reading.{is_comma, is_colon, words_of, read_all, with_both, number_of, number64, number32, cell_of, cells_of, entry_at, entry_of, word_reply, refusal_named, fullness_named, cause_named, numbered_reply, timed_cause, open_cause, short_reply, list_reply, call_reply, merge_reply, told_by, reply_of}
use Rattle.lst_replies.proofs.Decimals.{number_of-takes, number_of-decimal}
use Rattle.lst_replies.proofs.Joined.{any-decimal-above, split-join, position-append, position-splits}
use Rattle.lst_replies.proofs.Chains.{Reads, named, reads_none, reads_some, reads_if, reads_or, reads_map, reads_both}
use Rattle.lst_replies.proofs.Spelling.{entry_word, cause_words_of, words_in, words_told, row_free, cells-joined, line-words}

-- ---- lists of words

pub record AreSpelled {X : Type 0} (text : X → List ℕ) (P : X → Type 0) (words : List (List ℕ)) (xs : List X) : Type 0 where
  pub words_are : words ≡ map text xs
  pub each : All P xs

pub all_take : {X : Type 0} (read : List ℕ → Option X) (text : X → List ℕ) (P : X → Type 0) → ((word : List ℕ) → Reads (λ x. (word ≡ text x) × P x) (read word))
    → (words : List (List ℕ)) → Reads (AreSpelled text P words) (read_all read words)
all_take read text P one [] = reads_some (AreSpelled text P []) [] (record { words_are = refl; each = All-nil P })
all_take read text P one (word ∷ words) = reads_both (AreSpelled text P (word ∷ words)) (λ x xs. x ∷ xs) (read word) (read_all read words) (λ x xs e f.
    let first = one word x e in
    let rest = all_take read text P one words xs f in
    record { words_are = ap (λ w. w ∷ words) first.0 ∙ ap (λ ws. text x ∷ ws) rest.words_are; each = All-cons P x xs first.1 rest.each })

pub all_again : {X : Type 0} (read : List ℕ → Option X) (text : X → List ℕ) (P : X → Type 0) → ((x : X) → P x → read (text x) ≡ Some x)
    → (xs : List X) → All P xs → read_all read (map text xs) ≡ Some xs
all_again read text P one [] fits = refl
all_again read text P one (x ∷ xs) fits =
    ap (λ o. with_both (λ y ys. y ∷ ys) o (read_all read (map text xs))) (one x (fits 0 x (omega arith)))
    ∙ ap (λ o. with_both (λ y ys. y ∷ ys) (Some x) o) (all_again read text P one xs (λ k d h. fits (suc k) d (omega arith)))

-- ---- numbers and rows

pub takes64 : (word : List ℕ) → Reads (λ n. (word ≡ decimal n) × (n < 2 ^ 64)) (number64 word)
takes64 word n e = number_of-takes (2 ^ 64) word n e

pub again64 : (n : ℕ) → n < 2 ^ 64 → number64 (decimal n) ≡ Some n
again64 n small = number_of-decimal (2 ^ 64) n small (omega arith)

pub takes32 : (word : List ℕ) → Reads (λ n. (word ≡ decimal n) × (n < 2 ^ 32)) (number32 word)
takes32 word n e = number_of-takes (2 ^ 32) word n e

pub again32 : (n : ℕ) → n < 2 ^ 32 → number32 (decimal n) ≡ Some n
again32 n small = number_of-decimal (2 ^ 32) n small (omega arith)

-- the word for null is no number
null_unread : (n : ℕ) → decimal n ≡ codes "null" → n < 2 ^ 64 → ⊥
null_unread n e small = false≢true (sym (any-decimal-above 110 n (omega arith) (omega arith)) ∙ ap (list_any (λ c. eqb c 110)) e)

not_so : (b : Bool) → (b ≡ true → ⊥) → b ≡ false
not_so true other = absurd (other refl)
not_so false _ = refl

ne_bytes : (word text : List ℕ) → (word ≡ text → ⊥) → bytes_eq word text ≡ false
ne_bytes word text other = not_so (bytes_eq word text) (λ e. other (named word text e))

takes_cell : (word : List ℕ) → Reads (λ cell. (word ≡ cell_text cell) × CellFits cell) (cell_of word)
takes_cell word = reads_if (λ cell. (word ≡ cell_text cell) × CellFits cell) (bytes_eq word (codes "null")) (Some None) (option_map (λ n. Some n) (number64 word))
    (λ is. reads_some (λ cell. (word ≡ cell_text cell) × CellFits cell) None (named word (codes "null") is, tt))
    (reads_map (λ cell. (word ≡ cell_text cell) × CellFits cell) (λ n. Some n) (number64 word) (λ n e. takes64 word n e))

again_cell : (cell : Cell) → CellFits cell → cell_of (cell_text cell) ≡ Some cell
again_cell None fits = refl
again_cell (Some n) fits =
    cond-false _ _ _ (ne_bytes (decimal n) (codes "null") (λ e. null_unread n e fits)) ∙ ap (option_map (λ m. Some m)) (again64 n fits)

length-map_cells : (row : List Cell) → length (map cell_text row) ≡ length row
length-map_cells [] = refl
length-map_cells (cell ∷ row) = ap suc (length-map_cells row)

cells_take : (columns : ℕ) (words : List (List ℕ)) → Reads (λ row. (words ≡ map cell_text row) × RowFits columns row) (cells_of columns words)
cells_take columns words = reads_if (λ row. (words ≡ map cell_text row) × RowFits columns row) (eqb (length words) columns) (read_all cell_of words) None
    (λ width row e.
    let spelled = all_take cell_of cell_text CellFits takes_cell words row e in
    (spelled.words_are, record { width = sym (length-map_cells row) ∙ sym (ap length spelled.words_are) ∙ eqb-true _ _ width; cells = spelled.each }))
    (reads_none (λ row. (words ≡ map cell_text row) × RowFits columns row))

pub cells_again : (columns : ℕ) (row : List Cell) → RowFits columns row → cells_of columns (map cell_text row) ≡ Some row
cells_again columns row fits =
    cond-true _ _ _ (eq-eqb _ _ (length-map_cells row ∙ fits.width)) ∙ all_again cell_of cell_text CellFits again_cell row fits.cells

split_cells : (columns : ℕ) (row : List Cell) → 0 < columns → RowFits columns row → slice_split is_comma (cells_text 44 row) ≡ map cell_text row
split_cells columns [] some fits = absurd (omega (arith, fits.width))
split_cells columns (cell ∷ row) some fits =
    ap (slice_split is_comma) (cells-joined 44 columns (cell ∷ row) some fits.width)
    ∙ split-join 44 (cell_text cell) (map cell_text row) (row_free 44 (λ low. omega arith) (cell ∷ row) fits.cells)

pub entry_again : (columns : ℕ) (entry : ℕ × List Cell) → 0 < columns → EntryFits columns entry → entry_of columns (entry_word entry) ≡ Some entry
entry_again columns entry some fits =
    let key = decimal entry.0 in
    let cells = cells_text 44 entry.1 in
    let at : position is_colon (key ++ 58 ∷ cells) ≡ Some (length key) = position-append is_colon key 58 cells (any-decimal-above 58 entry.0 (omega arith) (omega (arith, fits.key))) refl in
    let front : take (length key) (key ++ 58 ∷ cells) ≡ key = take-append_seam key (58 ∷ cells) in
    let back : drop (length key + 1) (key ++ 58 ∷ cells) ≡ cells = drop-append-add key (58 ∷ cells) 1 in
    ap (entry_at columns (key ++ 58 ∷ cells)) at
    ∙ ap (λ word. with_both (λ k row. (k, row)) (number64 word) (cells_of columns (slice_split is_comma (drop (length key + 1) (key ++ 58 ∷ cells))))) front
    ∙ ap (λ word. with_both (λ k row. (k, row)) (number64 key) (cells_of columns (slice_split is_comma word))) back
    ∙ ap (λ words. with_both (λ k row. (k, row)) (number64 key) (cells_of columns words)) (split_cells columns entry.1 some fits.row)
    ∙ ap (λ o. with_both (λ k row. (k, row)) o (cells_of columns (map cell_text entry.1))) (again64 entry.0 fits.key)
    ∙ ap (λ o. with_both (λ k row. (k, row)) (Some entry.0) o) (cells_again columns entry.1 fits.row)

entry_take : (columns : ℕ) (word : List ℕ) → 0 < columns → Reads (λ entry. (word ≡ entry_word entry) × EntryFits columns entry) (entry_of columns word)
entry_take columns word some = by_place (position is_colon word) refl
  where
    by_place : (place : Option ℕ) → position is_colon word ≡ place → Reads (λ entry. (word ≡ entry_word entry) × EntryFits columns entry) (entry_at columns word place)
    by_place None is = reads_none (λ entry. (word ≡ entry_word entry) × EntryFits columns entry)
    by_place (Some colon) is = reads_both (λ entry. (word ≡ entry_word entry) × EntryFits columns entry) (λ k row. (k, row)) (number64 (take colon word)) (cells_of columns (slice_split is_comma (drop (colon + 1) word))) (λ key row e f.
        let first = takes64 (take colon word) key e in
        let cells = cells_take columns (slice_split is_comma (drop (colon + 1) word)) row f in
        let behind : drop (colon + 1) word ≡ cells_text 44 row = sym (join_with_byte-slice_split 44 (drop (colon + 1) word)) ∙ ap (join_with_byte 44) cells.0 ∙ sym (cells-joined 44 columns row some cells.1.width) in
        (position-splits 58 word colon is ∙ ap (λ w. w ++ 58 ∷ drop (colon + 1) word) first.0 ∙ ap (λ w. decimal key ++ 58 ∷ w) behind, record { key = first.1; row = cells.1 }))

-- ---- replies to calls

pub record IsSpelled (columns : ℕ) (words : List (List ℕ)) (reply : Reply) : Type 0 where
  pub words_are : words ≡ words_in reply
  pub fits : CallReplyFits columns reply

pub record IsCauseSpelled (words : List (List ℕ)) (cause : Cause) : Type 0 where
  pub words_are : words ≡ cause_words_of cause
  pub fits : CauseFits cause

one_word : (word text : List ℕ) → bytes_eq word text ≡ true → word ∷ [] ≡ text ∷ []
one_word word text e = ap (λ w. w ∷ []) (named word text e)

word_takes : (columns : ℕ) (word : List ℕ) → Reads (IsSpelled columns (word ∷ [])) (word_reply word)
word_takes columns word =
    let P : Reply → Type 0 = IsSpelled columns (word ∷ []) in
    reads_if P (bytes_eq word (codes "ok")) (Some Done) _ (λ e. reads_some P Done (record { words_are = one_word word (codes "ok") e; fits = tt }))
    (reads_if P (bytes_eq word (codes "none")) (Some Absent) _ (λ e. reads_some P Absent (record { words_are = one_word word (codes "none") e; fits = tt }))
    (reads_if P (bytes_eq word (codes "aborted")) (Some Aborted) None (λ e. reads_some P Aborted (record { words_are = one_word word (codes "aborted") e; fits = tt }))
    (reads_none P)))

two_words : (first second one two : List ℕ) → bytes_eq first one ≡ true → bytes_eq second two ≡ true → first ∷ second ∷ [] ≡ one ∷ two ∷ []
two_words first second one two e f = ap (λ w. w ∷ second ∷ []) (named first one e) ∙ ap (λ w. one ∷ w ∷ []) (named second two f)

cause_takes : (first second : List ℕ) → Reads (IsCauseSpelled (first ∷ second ∷ [])) (cause_named first second)
cause_takes first second =
    let P : Cause → Type 0 = IsCauseSpelled (first ∷ second ∷ []) in
    let told : (one two : List ℕ) (cause : Cause) → CauseFits cause → cause_words_of cause ≡ one ∷ two ∷ [] → bytes_eq first one ≡ true → bytes_eq second two ≡ true → Reads P (Some cause)
    = λ one two cause fits spelled e f. reads_some P cause (record { words_are = two_words first second one two e f ∙ sym spelled; fits = fits }) in
    reads_if P (bytes_eq first (codes "refused")) (refusal_named second) _ (λ e.
    reads_if P (bytes_eq second (codes "idle")) (Some Idle) _ (λ f. told (codes "refused") (codes "idle") Idle tt refl e f)
    (reads_if P (bytes_eq second (codes "active")) (Some Active) _ (λ f. told (codes "refused") (codes "active") Active tt refl e f)
    (reads_if P (bytes_eq second (codes "readonly")) (Some ReadOnly) _ (λ f. told (codes "refused") (codes "readonly") ReadOnly tt refl e f)
    (reads_if P (bytes_eq second (codes "spent")) (Some Spent) _ (λ f. told (codes "refused") (codes "spent") Spent tt refl e f)
    (reads_if P (bytes_eq second (codes "missing")) (Some Missing) _ (λ f. told (codes "refused") (codes "missing") Missing tt refl e f)
    (reads_if P (bytes_eq second (codes "exists")) (Some Exists) _ (λ f. told (codes "refused") (codes "exists") Exists tt refl e f)
    (reads_if P (bytes_eq second (codes "noindex")) (Some NotIndexed) None (λ f. told (codes "refused") (codes "noindex") NotIndexed tt refl e f)
    (reads_none P))))))))
    (reads_if P (bytes_eq first (codes "full")) (fullness_named second) _ (λ e.
    reads_if P (bytes_eq second (codes "table")) (Some TableFull) _ (λ f. told (codes "full") (codes "table") TableFull tt refl e f)
    (reads_if P (bytes_eq second (codes "tail")) (Some TailFull) None (λ f. told (codes "full") (codes "tail") TailFull tt refl e f)
    (reads_none P)))
    (reads_if P (bytes_eq first (codes "conflict") && bytes_eq second (codes "latched")) (Some Latched) None (λ e.
    let both = and_parts _ _ e in told (codes "conflict") (codes "latched") Latched tt refl both.0 both.1)
    (reads_none P)))

numbered_takes : (columns : ℕ) (name word : List ℕ) → Reads (IsSpelled columns (name ∷ word ∷ [])) (numbered_reply name word)
numbered_takes columns name word =
    let P : Reply → Type 0 = IsSpelled columns (name ∷ word ∷ []) in
    let spelled : (text : List ℕ) (n : ℕ) → bytes_eq name text ≡ true → word ≡ decimal n → name ∷ word ∷ [] ≡ text ∷ decimal n ∷ []
    = λ text n e f. ap (λ w. w ∷ word ∷ []) (named name text e) ∙ ap (λ w. text ∷ w ∷ []) f in
    reads_if P (bytes_eq name (codes "begun")) _ _ (λ e. reads_map P (λ n. Begun n) (number64 word) (λ n f. let takes = takes64 word n f in record { words_are = spelled (codes "begun") n e takes.0; fits = takes.1 }))
    (reads_if P (bytes_eq name (codes "committed")) _ _ (λ e. reads_map P (λ n. Committed n) (number64 word) (λ n f. let takes = takes64 word n f in record { words_are = spelled (codes "committed") n e takes.0; fits = takes.1 }))
    (reads_if P (bytes_eq name (codes "ended")) _ _ (λ e. reads_map P (λ n. Ended n) (number64 word) (λ n f. let takes = takes64 word n f in record { words_are = spelled (codes "ended") n e takes.0; fits = takes.1 }))
    (reads_if P (bytes_eq name (codes "count")) _ _ (λ e. reads_map P (λ n. Count n) (number64 word) (λ n f. let takes = takes64 word n f in record { words_are = spelled (codes "count") n e takes.0; fits = takes.1 }))
    (reads_if P (bytes_eq name (codes "sum")) _ None (λ e. reads_map P (λ n. Sum n) (number_of (2 ^ 128) word) (λ n f. let takes = number_of-takes (2 ^ 128) word n f in record { words_are = spelled (codes "sum") n e takes.0; fits = takes.1 }))
    (reads_none P)))))

timed_takes : (first second word : List ℕ) → Reads (IsCauseSpelled (first ∷ second ∷ word ∷ [])) (timed_cause first second word)
timed_takes first second word =
    let P : Cause → Type 0 = IsCauseSpelled (first ∷ second ∷ word ∷ []) in
    let spelled : (one two : List ℕ) (n : ℕ) → (bytes_eq first one && bytes_eq second two) ≡ true → word ≡ decimal n → first ∷ second ∷ word ∷ [] ≡ one ∷ two ∷ decimal n ∷ []
    = λ one two n e f. let both = and_parts _ _ e in ap (λ w. w ∷ second ∷ word ∷ []) (named first one both.0) ∙ ap (λ w. one ∷ w ∷ word ∷ []) (named second two both.1) ∙ ap (λ w. one ∷ two ∷ w ∷ []) f in
    reads_if P (bytes_eq first (codes "refused") && bytes_eq second (codes "future")) _ _ (λ e. reads_map P (λ n. Future n) (number64 word) (λ n f. let takes = takes64 word n f in record { words_are = spelled (codes "refused") (codes "future") n e takes.0; fits = takes.1 }))
    (reads_if P (bytes_eq first (codes "conflict") && bytes_eq second (codes "newer")) _ _ (λ e. reads_map P (λ n. Newer n) (number64 word) (λ n f. let takes = takes64 word n f in record { words_are = spelled (codes "conflict") (codes "newer") n e takes.0; fits = takes.1 }))
    (reads_if P (bytes_eq first (codes "conflict") && bytes_eq second (codes "stale")) _ None (λ e. reads_map P (λ n. Stale n) (number64 word) (λ n f. let takes = takes64 word n f in record { words_are = spelled (codes "conflict") (codes "stale") n e takes.0; fits = takes.1 }))
    (reads_none P)))

open_takes : (first second third fourth : List ℕ) → Reads (IsCauseSpelled (first ∷ second ∷ third ∷ fourth ∷ [])) (open_cause first second third fourth)
open_takes first second third fourth =
    let P : Cause → Type 0 = IsCauseSpelled (first ∷ second ∷ third ∷ fourth ∷ []) in
    reads_if P (bytes_eq first (codes "conflict") && bytes_eq second (codes "open")) _ None (λ e. let both = and_parts _ _ e in
    reads_both P (λ j n. Unfinished j n) (number32 third) (number32 fourth) (λ j n f g.
    let session = takes32 third j f in
    let number = takes32 fourth n g in
    record {
      words_are = ap (λ w. w ∷ second ∷ third ∷ fourth ∷ []) (named first (codes "conflict") both.0) ∙ ap (λ w. codes "conflict" ∷ w ∷ third ∷ fourth ∷ []) (named second (codes "open") both.1)
          ∙ ap (λ w. codes "conflict" ∷ codes "open" ∷ w ∷ fourth ∷ []) session.0 ∙ ap (λ w. codes "conflict" ∷ codes "open" ∷ decimal j ∷ w ∷ []) number.0;
      fits = (session.1, number.1);
    }))
    (reads_none P)

refused_takes : (columns : ℕ) (words : List (List ℕ)) (found : Option Cause) → Reads (IsCauseSpelled words) found → Reads (IsSpelled columns words) (option_map (λ cause. Refused cause) found)
refused_takes columns words found takes = reads_map (IsSpelled columns words) (λ cause. Refused cause) found (λ cause e. let spelled = takes cause e in record { words_are = spelled.words_are; fits = spelled.fits })

short_takes : (columns : ℕ) (words : List (List ℕ)) → Reads (IsSpelled columns words) (short_reply words)
short_takes columns [] = reads_none (IsSpelled columns [])
short_takes columns (first ∷ []) = word_takes columns first
short_takes columns (first ∷ second ∷ []) = reads_or (IsSpelled columns (first ∷ second ∷ [])) _ _ (refused_takes columns (first ∷ second ∷ []) (cause_named first second) (cause_takes first second)) (numbered_takes columns first second)
short_takes columns (first ∷ second ∷ third ∷ []) = refused_takes columns (first ∷ second ∷ third ∷ []) (timed_cause first second third) (timed_takes first second third)
short_takes columns (first ∷ second ∷ third ∷ fourth ∷ []) = refused_takes columns (first ∷ second ∷ third ∷ fourth ∷ []) (open_cause first second third fourth) (open_takes first second third fourth)
short_takes columns (first ∷ second ∷ third ∷ fourth ∷ fifth ∷ words) = reads_none (IsSpelled columns (first ∷ second ∷ third ∷ fourth ∷ fifth ∷ words))

list_takes : (columns : ℕ) (words : List (List ℕ)) → 0 < columns → Reads (IsSpelled columns words) (list_reply columns words)
list_takes columns [] some = reads_none (IsSpelled columns [])
list_takes columns (name ∷ words) some =
    let P : Reply → Type 0 = IsSpelled columns (name ∷ words) in
    let spelled : (text : List ℕ) (rest : List (List ℕ)) → bytes_eq name text ≡ true → words ≡ rest → name ∷ words ≡ text ∷ rest
    = λ text rest e f. ap (λ w. w ∷ words) (named name text e) ∙ ap (λ ws. text ∷ ws) f in
    reads_if P (bytes_eq name (codes "row")) _ _ (λ e. reads_map P (λ row. Row row) (cells_of columns words) (λ row f. let takes = cells_take columns words row f in record { words_are = spelled (codes "row") (map cell_text row) e takes.0; fits = takes.1 }))
    (reads_if P (bytes_eq name (codes "rows")) _ _ (λ e. reads_map P (λ list. Rows list) (read_all (entry_of columns) words) (λ list f.
    let takes = all_take (entry_of columns) entry_word (EntryFits columns) (λ word. entry_take columns word some) words list f in record { words_are = spelled (codes "rows") (map entry_word list) e takes.words_are; fits = takes.each }))
    (reads_if P (bytes_eq name (codes "keys")) _ None (λ e. reads_map P (λ list. Keys list) (read_all number64 words) (λ list f.
    let takes = all_take number64 (λ n. decimal n) (λ n. n < 2 ^ 64) takes64 words list f in record { words_are = spelled (codes "keys") (map (λ n. decimal n) list) e takes.words_are; fits = takes.each }))
    (reads_none P)))

call_takes : (columns : ℕ) (words : List (List ℕ)) → 0 < columns → Reads (IsSpelled columns words) (call_reply columns words)
call_takes columns words some = reads_or (IsSpelled columns words) _ _ (short_takes columns words) (list_takes columns words some)

-- ---- whole lines

pub record IsToldBy (columns : ℕ) (words : List (List ℕ)) (told : Option ℕ × Reply) : Type 0 where
  pub words_are : words ≡ words_told told
  pub fits : ReplyFits columns told

merge_takes : (columns : ℕ) (words : List (List ℕ)) → Reads (IsToldBy columns words) (option_map (λ reply. (None, reply)) (merge_reply words))
merge_takes columns [] = reads_none (IsToldBy columns [])
merge_takes columns (name ∷ []) = reads_none (IsToldBy columns (name ∷ []))
merge_takes columns (name ∷ word ∷ []) =
    let Q : Reply → Type 0 = λ reply. (name ∷ word ∷ [] ≡ words_in reply) × MergeReplyFits reply in
    let spelled : (text : List ℕ) (n : ℕ) → bytes_eq name text ≡ true → word ≡ decimal n → name ∷ word ∷ [] ≡ text ∷ decimal n ∷ []
    = λ text n e f. ap (λ w. w ∷ word ∷ []) (named name text e) ∙ ap (λ w. text ∷ w ∷ []) f in
    let each : Reads Q (merge_reply (name ∷ word ∷ [])) =
    reads_if Q (bytes_eq name (codes "merged")) _ _ (λ e. reads_map Q (λ n. Merged n) (number32 word) (λ n f. let takes = takes32 word n f in (spelled (codes "merged") n e takes.0, takes.1)))
    (reads_if Q (bytes_eq name (codes "idle")) _ _ (λ e. reads_map Q (λ n. NothingNew n) (number32 word) (λ n f. let takes = takes32 word n f in (spelled (codes "idle") n e takes.0, takes.1)))
    (reads_if Q (bytes_eq name (codes "noframe")) _ None (λ e. reads_map Q (λ n. NoFrame n) (number32 word) (λ n f. let takes = takes32 word n f in (spelled (codes "noframe") n e takes.0, takes.1)))
    (reads_none Q))) in
    reads_map (IsToldBy columns (name ∷ word ∷ [])) (λ reply. (None, reply)) (merge_reply (name ∷ word ∷ [])) (λ reply e. let found = each reply e in record { words_are = found.0; fits = found.1 })
merge_takes columns (name ∷ word ∷ third ∷ words) = reads_none (IsToldBy columns (name ∷ word ∷ third ∷ words))

told_takes : (columns : ℕ) (words : List (List ℕ)) → 0 < columns → Reads (IsToldBy columns words) (told_by columns words)
told_takes columns [] some = reads_none (IsToldBy columns [])
told_takes columns (first ∷ words) some =
    let P : Option ℕ × Reply → Type 0 = IsToldBy columns (first ∷ words) in
    reads_or P _ _ (merge_takes columns (first ∷ words)) (reads_both P (λ session reply. (Some session, reply)) (number32 first) (call_reply columns words) (λ session reply e f.
    let number = takes32 first session e in
    let spelled = call_takes columns words some reply f in
    record { words_are = ap (λ w. w ∷ words) number.0 ∙ ap (λ ws. decimal session ∷ ws) spelled.words_are; fits = (number.1, spelled.fits) }))

-- a line that is read is the reply's
pub record IsLineOf (columns : ℕ) (line : List ℕ) (told : Option ℕ × Reply) : Type 0 where
  pub line_is : line ≡ reply_line told
  pub fits : ReplyFits columns told

pub reply_takes : (columns : ℕ) (line : List ℕ) → 0 < columns → Reads (IsLineOf columns line) (reply_of columns line)
reply_takes columns line some told e =
    let found = told_takes columns (words_of line) some told e in
    record { line_is = line-words columns told line some found.fits found.words_are; fits = found.fits }
