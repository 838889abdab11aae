-- How the words of a line of a report are read.
use Rattle.std.specs.Prelude.{◌≡◌, ℕ, ◌+◌, ◌^◌, List, [], ◌∷◌, Bool, false, ◌&&◌, ◌==◌, nat_lt, Option, Some, None, option_map, Result, Ok, Err, length, map, take, drop, position, if◌then◌else◌, codes, decimal, bytes_eq}
use Rattle.std.specs.List.{slice_split}
use Rattle.std.specs.Str.Parse.{digits_value}
use denote.Ref.{Bor}
use Rattle.lst_model.specs.Cells.{Cell}
use Rattle.lst_model.specs.declared.replies.Reply.{Reply}
use Rattle.lst_model.specs.declared.replies.Reply.TheVariants.{Begun, Done, Row, Absent, Committed, Ended, Aborted, Sum, Count, Rows, Keys, Refused, Merged, NothingNew, NoFrame}
use Rattle.lst_model.specs.declared.replies.Cause.{Cause}
use Rattle.lst_model.specs.declared.replies.Cause.TheVariants.{Idle, Active, ReadOnly, Spent, Future, Missing, Exists, TableFull, Latched, Newer, Unfinished, TailFull, NotIndexed, Stale}
use Rattle.lst_replies.specs.declared.reports.Stamp.{Stamp}
use Rattle.lst_replies.specs.declared.reports.Report.{Report}
use Rattle.lst_replies.specs.declared.parse.ReportFault.{ReportFault}
use Rattle.lst_replies.specs.declared.parse.ReportFault.TheVariants.{Bad, OutOfMemory}

abbrev pub is_space : ℕ → Bool
is_space byte = byte == 32

abbrev pub is_comma : ℕ → Bool
is_comma byte = byte == 44

abbrev pub is_colon : ℕ → Bool
is_colon byte = byte == 58

-- the words of a line; two spaces have an empty word between them
abbrev pub words_of : List ℕ → List (List ℕ)
words_of line = slice_split is_space line

-- slices of a text as their bytes
abbrev pub texts : List (Bor (List ℕ)) → List (List ℕ)
texts slices = map (λ slice. slice.now) slices

-- ---- tools

-- the first of two readings that reads something
abbrev pub or_else : {X : Type 0} → Option X → Option X → Option X
or_else None second = second
or_else (Some x) second = Some x

abbrev pub with_both : {X Y Z : Type 0} → (X → Y → Z) → Option X → Option Y → Option Z
with_both make None second = None
with_both make (Some x) None = None
with_both make (Some x) (Some y) = Some (make x y)

-- all of them, or none where one isn't read
abbrev pub read_all : {X : Type 0} → (List ℕ → Option X) → List (List ℕ) → Option (List X)
read_all read [] = Some []
read_all read (word ∷ words) = with_both (λ x xs. x ∷ xs) (read word) (read_all read words)

-- ---- numbers and rows

-- the number below a limit that a word is, as it is written
abbrev pub number_of : ℕ → List ℕ → Option ℕ
number_of limit word = if nat_lt (digits_value 10 word) limit && bytes_eq (decimal (digits_value 10 word)) word then Some (digits_value 10 word) else None

abbrev pub number64 : List ℕ → Option ℕ
number64 word = number_of (2 ^ 64) word

abbrev pub number32 : List ℕ → Option ℕ
number32 word = number_of (2 ^ 32) word

-- a number, or the word for null
abbrev pub cell_of : List ℕ → Option Cell
cell_of word = if bytes_eq word (codes "null") then Some None else option_map Some (number64 word)

-- a cell for each column
abbrev pub cells_of : ℕ → List (List ℕ) → Option (List Cell)
cells_of columns words = if length words == columns then read_all cell_of words else None

abbrev pub entry_at : ℕ → List ℕ → Option ℕ → Option (ℕ × List Cell)
entry_at columns word None = None
entry_at columns word (Some colon) = with_both (λ key row. (key, row)) (number64 (take colon word)) (cells_of columns (slice_split is_comma (drop (colon + 1) word)))

-- a key, a colon, and the cells of its row
abbrev pub entry_of : ℕ → List ℕ → Option (ℕ × List Cell)
entry_of columns word = entry_at columns word (position is_colon word)

-- ---- replies to calls

abbrev pub word_reply : List ℕ → Option Reply
word_reply word =
    if bytes_eq word (codes "ok") then Some Done
    else if bytes_eq word (codes "none") then Some Absent
    else if bytes_eq word (codes "aborted") then Some Aborted
    else None

abbrev pub refusal_named : List ℕ → Option Cause
refusal_named word =
    if bytes_eq word (codes "idle") then Some Idle
    else if bytes_eq word (codes "active") then Some Active
    else if bytes_eq word (codes "readonly") then Some ReadOnly
    else if bytes_eq word (codes "spent") then Some Spent
    else if bytes_eq word (codes "missing") then Some Missing
    else if bytes_eq word (codes "exists") then Some Exists
    else if bytes_eq word (codes "noindex") then Some NotIndexed
    else None

abbrev pub fullness_named : List ℕ → Option Cause
fullness_named word =
    if bytes_eq word (codes "table") then Some TableFull
    else if bytes_eq word (codes "tail") then Some TailFull
    else None

abbrev pub cause_named : List ℕ → List ℕ → Option Cause
cause_named first second =
    if bytes_eq first (codes "refused") then refusal_named second
    else if bytes_eq first (codes "full") then fullness_named second
    else if bytes_eq first (codes "conflict") && bytes_eq second (codes "latched") then Some Latched
    else None

abbrev pub numbered_reply : List ℕ → List ℕ → Option Reply
numbered_reply name word =
    if bytes_eq name (codes "begun") then option_map (λ n. Begun n) (number64 word)
    else if bytes_eq name (codes "committed") then option_map (λ n. Committed n) (number64 word)
    else if bytes_eq name (codes "ended") then option_map (λ n. Ended n) (number64 word)
    else if bytes_eq name (codes "count") then option_map (λ n. Count n) (number64 word)
    else if bytes_eq name (codes "sum") then option_map (λ n. Sum n) (number_of (2 ^ 128) word)
    else None

abbrev pub timed_cause : List ℕ → List ℕ → List ℕ → Option Cause
timed_cause first second word =
    if bytes_eq first (codes "refused") && bytes_eq second (codes "future") then option_map (λ n. Future n) (number64 word)
    else if bytes_eq first (codes "conflict") && bytes_eq second (codes "newer") then option_map (λ n. Newer n) (number64 word)
    else if bytes_eq first (codes "conflict") && bytes_eq second (codes "stale") then option_map (λ n. Stale n) (number64 word)
    else None

abbrev pub open_cause : List ℕ → List ℕ → List ℕ → List ℕ → Option Cause
open_cause first second session number =
    if bytes_eq first (codes "conflict") && bytes_eq second (codes "open")
    then with_both (λ j n. Unfinished j n) (number32 session) (number32 number)
    else None

-- replies of one to four words
abbrev pub short_reply : List (List ℕ) → Option Reply
short_reply (first ∷ []) = word_reply first
short_reply (first ∷ second ∷ []) = or_else (option_map (λ cause. Refused cause) (cause_named first second)) (numbered_reply first second)
short_reply (first ∷ second ∷ third ∷ []) = option_map (λ cause. Refused cause) (timed_cause first second third)
short_reply (first ∷ second ∷ third ∷ fourth ∷ []) = option_map (λ cause. Refused cause) (open_cause first second third fourth)
short_reply words = None

-- replies of a word, and a list
abbrev pub list_reply : ℕ → List (List ℕ) → Option Reply
list_reply columns [] = None
list_reply columns (name ∷ words) =
    if bytes_eq name (codes "row") then option_map (λ row. Row row) (cells_of columns words)
    else if bytes_eq name (codes "rows") then option_map (λ list. Rows list) (read_all (entry_of columns) words)
    else if bytes_eq name (codes "keys") then option_map (λ list. Keys list) (read_all number64 words)
    else None

abbrev pub call_reply : ℕ → List (List ℕ) → Option Reply
call_reply columns words = or_else (short_reply words) (list_reply columns words)

-- ---- whole lines

abbrev pub merge_reply : List (List ℕ) → Option Reply
merge_reply (name ∷ word ∷ []) =
    if bytes_eq name (codes "merged") then option_map (λ n. Merged n) (number32 word)
    else if bytes_eq name (codes "idle") then option_map (λ n. NothingNew n) (number32 word)
    else if bytes_eq name (codes "noframe") then option_map (λ n. NoFrame n) (number32 word)
    else None
merge_reply words = None

-- a reply with its session, or with none where it answers a merge
abbrev pub told_by : ℕ → List (List ℕ) → Option (Option ℕ × Reply)
told_by columns [] = None
told_by columns (first ∷ words) =
    or_else (option_map (λ reply. (None, reply)) (merge_reply (first ∷ words)))
    (with_both (λ session reply. (Some session, reply)) (number32 first) (call_reply columns words))

abbrev pub reply_of : ℕ → List ℕ → Option (Option ℕ × Reply)
reply_of columns line = told_by columns (words_of line)

abbrev pub count_in : List (List ℕ) → Option ℕ
count_in (name ∷ word ∷ []) = if bytes_eq name (codes "history") then number64 word else None
count_in words = None

-- the number of commits
abbrev pub count_of : List ℕ → Option ℕ
count_of line = count_in (words_of line)

abbrev pub begins_history : List (List ℕ) → Bool
begins_history [] = false
begins_history (name ∷ words) = bytes_eq name (codes "history")

-- the line that ends the replies
abbrev pub is_history_line : List ℕ → Bool
is_history_line line = begins_history (words_of line)

abbrev pub stamp_in : ℕ → List (List ℕ) → Option Stamp
stamp_in time (first ∷ second ∷ third ∷ fourth ∷ []) =
    if bytes_eq first (decimal time)
    then with_both (λ (session : ℕ) (rest : ℕ × ℕ). record { session = session; number = rest.0; begin = rest.1 }) (number32 second) (with_both (λ (number begin : ℕ). (number, begin)) (number32 third) (number64 fourth))
    else None
stamp_in time words = None

-- the commit of this time
abbrev pub stamp_of : ℕ → List ℕ → Option Stamp
stamp_of time line = stamp_in time (words_of line)

-- ---- whole reports

abbrev pub front_with : {X : Type 0} → Option X → List X → List X
front_with None rest = []
front_with (Some x) rest = x ∷ rest

-- what the lines are read as, from the first on, up to the first one that isn't read; a line is read by its place
abbrev pub read_front : {X : Type 0} → (ℕ → List ℕ → Option X) → ℕ → List (List ℕ) → List X
read_front read place [] = []
read_front read place (line ∷ lines) = front_with (read place line) (read_front read (place + 1) lines)

abbrev pub replies_front : ℕ → List (List ℕ) → List (Option ℕ × Reply)
replies_front columns lines = read_front (λ place line. reply_of columns line) 0 lines

abbrev pub stamps_front : List (List ℕ) → List Stamp
stamps_front lines = read_front stamp_of 1 lines

-- the report, or the number of the first line that is in the wrong place
abbrev pub after_stamps : List (Option ℕ × Reply) → ℕ → List Stamp → ℕ → Result Report ℕ
after_stamps replies count stamps left =
    if length stamps == count && left == count
    then Ok (record { replies = replies; history = stamps })
    else Err (length replies + 2 + length stamps)

abbrev pub after_count : List (Option ℕ × Reply) → List (List ℕ) → Option ℕ → Result Report ℕ
after_count replies lines None = Err (length replies + 1)
after_count replies lines (Some count) = after_stamps replies count (stamps_front (take count lines)) (length lines)

abbrev pub after_replies : List (Option ℕ × Reply) → List (List ℕ) → Result Report ℕ
after_replies replies [] = Err (length replies + 1)
after_replies replies (line ∷ lines) = after_count replies lines (count_of line)

abbrev pub report_in : ℕ → List (List ℕ) → Result Report ℕ
report_in columns lines = after_replies (replies_front columns lines) (drop (length (replies_front columns lines)) lines)

-- an answer tells the report, or the faulty line; it may be want of memory
abbrev pub FaultIs : ReportFault → Result Report ℕ → Type 0
FaultIs (Bad line) read = read ≡ Err line
FaultIs OutOfMemory read = Unit {0}

abbrev pub Tells : Result Report ReportFault → Result Report ℕ → Type 0
Tells (Ok report) read = read ≡ Ok report
Tells (Err fault) read = FaultIs fault read
