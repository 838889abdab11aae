-- The texts of replies.
use Rattle.std.specs.Prelude.{ℕ, List, [], ◌∷◌, ◌++◌, Bool, true, false, cond, flat_map, codes, decimal, Some, None}
use Rattle.lst_model.specs.declared.lines.Line.{Line}
use Rattle.lst_model.specs.declared.lines.Line.TheVariants.{Phase, Merge, Call}
use Rattle.lst_model.specs.declared.replies.Reply.{Reply}
use Rattle.lst_model.specs.declared.replies.Reply.TheVariants.{Begun, Done, Row, Absent, Committed, Ended, Aborted, Sum, Count, Rows, Keys, Refused, Merged, NothingNew, NoFrame, Silent}
use Rattle.lst_model.specs.declared.replies.Cause.{Cause}
use Rattle.lst_model.specs.declared.replies.Cause.TheVariants.{Idle, Active, ReadOnly, Spent, Future, Missing, Exists, TableFull, Latched, Newer, Unfinished, TailFull, NotIndexed, Stale}
use Rattle.lst_model.specs.Cells.{Cell}

-- a cell as it is written: its number, or the word for null
abbrev pub cell_text : Cell → List ℕ
cell_text None = codes "null"
cell_text (Some number) = decimal number

-- the cells of a row, with one byte between two of them
abbrev pub cells_text : ℕ → List Cell → List ℕ
cells_text between [] = []
cells_text between (cell ∷ cells) = cell_text cell ++ flat_map (λ next. between ∷ cell_text next) cells

-- a key with its row, behind a space: the colon is 58, the comma 44
abbrev pub entry_text : ℕ × List Cell → List ℕ
entry_text entry = 32 ∷ decimal entry.0 ++ 58 ∷ cells_text 44 entry.1

-- a key, behind a space
abbrev pub key_text : ℕ → List ℕ
key_text key = 32 ∷ decimal key

-- the words of a cause
abbrev pub cause_words : Cause → List ℕ
cause_words Idle = codes "refused idle"
cause_words Active = codes "refused active"
cause_words ReadOnly = codes "refused readonly"
cause_words Spent = codes "refused spent"
cause_words (Future clock) = codes "refused future "
cause_words Missing = codes "refused missing"
cause_words Exists = codes "refused exists"
cause_words TableFull = codes "full table"
cause_words Latched = codes "conflict latched"
cause_words (Newer time) = codes "conflict newer "
cause_words (Unfinished session number) = codes "conflict open "
cause_words TailFull = codes "full tail"
cause_words NotIndexed = codes "refused noindex"
cause_words (Stale time) = codes "conflict stale "

-- the numbers behind them
abbrev pub cause_numbers : Cause → List ℕ
cause_numbers (Future clock) = decimal clock
cause_numbers (Newer time) = decimal time
cause_numbers (Stale time) = decimal time
cause_numbers (Unfinished session number) = decimal session ++ 32 ∷ decimal number
cause_numbers cause = []

-- the word of a reply
abbrev pub reply_word : Reply → List ℕ
reply_word (Begun time) = codes "begun "
reply_word Done = codes "ok"
reply_word (Row row) = codes "row "
reply_word Absent = codes "none"
reply_word (Committed time) = codes "committed "
reply_word (Ended time) = codes "ended "
reply_word Aborted = codes "aborted"
reply_word (Sum total) = codes "sum "
reply_word (Count rows) = codes "count "
reply_word (Rows list) = codes "rows"
reply_word (Keys list) = codes "keys"
reply_word (Refused cause) = []
reply_word (Merged tps) = codes "merged "
reply_word (NothingNew tps) = codes "idle "
reply_word (NoFrame session) = codes "noframe "
reply_word Silent = []

-- what stands behind it
abbrev pub reply_rest : Reply → List ℕ
reply_rest (Begun time) = decimal time
reply_rest Done = []
reply_rest (Row row) = cells_text 32 row
reply_rest Absent = []
reply_rest (Committed time) = decimal time
reply_rest (Ended time) = decimal time
reply_rest Aborted = []
reply_rest (Sum total) = decimal total
reply_rest (Count rows) = decimal rows
reply_rest (Rows list) = flat_map entry_text list
reply_rest (Keys list) = flat_map key_text list
reply_rest (Refused cause) = cause_words cause ++ cause_numbers cause
reply_rest (Merged tps) = decimal tps
reply_rest (NothingNew tps) = decimal tps
reply_rest (NoFrame session) = decimal session
reply_rest Silent = []

-- a reply with a few words and at most two numbers: neither a row nor a list
abbrev pub IsShort : Reply → Type 0
IsShort (Row row) = ⊥
IsShort (Rows list) = ⊥
IsShort (Keys list) = ⊥
IsShort reply = Unit {0}

abbrev pub is_silent : Reply → Bool
is_silent Silent = true
is_silent reply = false

-- the session's number and a space stand before the reply to a call
abbrev pub speaker_text : Line → List ℕ
speaker_text Phase = []
speaker_text (Merge range column) = []
speaker_text (Call session call) = decimal session ++ 32 ∷ []

-- the text of a reply to a line, with its newline, which is 10; a silent reply has none
abbrev pub line_text : Line → Reply → List ℕ
line_text line reply = cond (is_silent reply) [] (speaker_text line ++ (reply_word reply ++ (reply_rest reply ++ 10 ∷ [])))

-- the texts of the replies to a script's lines, in order
abbrev pub script_text : List Line → List Reply → List ℕ
script_text [] replies = []
script_text (line ∷ lines) [] = []
script_text (line ∷ lines) (reply ∷ replies) = line_text line reply ++ script_text lines replies
