-- The text that tells a past table.
use Rattle.std.specs.Prelude.{ℕ, List, ◌∷◌, [], ◌++◌, cond, length, nat_lt, codes, decimal}
use Rattle.lst_model.specs.declared.commits.Commit.{Commit}
use Rattle.lst_model.specs.declared.replies.Reply.TheVariants.{Rows}
use Rattle.lst_model.specs.Cells.{Cell}
use Rattle.lst_model.specs.Tables.{scan_of}
use Rattle.lst_model.specs.Histories.{table_at}
use Rattle.lst_replies.specs.Texts.{reply_word, reply_rest}
use Rattle.lst_historic.specs.Blocks.{block}

-- a word and a number behind it, on a line
abbrev pub number_line : List ℕ → ℕ → List ℕ
number_line word number = word ++ decimal number ++ codes "\n"

-- the keys with their rows, as a scan is answered
abbrev pub rows_line : List (ℕ × List Cell) → List ℕ
rows_line rows = reply_word (Rows rows) ++ (reply_rest (Rows rows) ++ codes "\n")

-- the table as of a time, or where the time is above the length of the history, that length
abbrev pub table_line : List Commit → ℕ → List ℕ
table_line history time = cond (nat_lt (length history) time) (number_line (codes "future ") (length history)) (rows_line (scan_of (table_at history time)))

-- how many bytes the block of the history has, and behind it that line
abbrev pub past_text : ℕ → List Commit → ℕ → List ℕ
past_text columns history time = number_line (codes "bytes ") (length (block columns history)) ++ table_line history time
