-- What is kept of replies: a kind of each, and their numbers in one list, and some replies whole.
use Rattle.std.specs.Prelude.{◌≡◌, ℕ, ◌<◌, ◌≤◌, List, [], ◌∷◌, ◌++◌, Option, None, Some, length, take, drop, slice_index_or}
use Rattle.lst_model.specs.Cells.{cells_of, AreNull}
use Rattle.lst_model.specs.declared.replies.Reply.{Reply}
use Rattle.lst_model.specs.declared.replies.Reply.TheVariants as reply
use Rattle.lst_reply_queue.specs.declared.kinds.Kind.{Kind}
use Rattle.lst_reply_queue.specs.declared.kinds.Kind.TheVariants.{Begun, Done, Row, Absent, Committed, Ended, Aborted, Other}

-- how many numbers a reply of a kind has
abbrev pub width : Kind → ℕ
width Begun = 1
width Done = 0
width (Row cells nulls) = cells
width Absent = 0
width Committed = 1
width Ended = 1
width Aborted = 0
width Other = 0

abbrev first_number : List ℕ → ℕ
first_number numbers = slice_index_or numbers 0 0

-- the reply of a kind with these numbers, or None where it stands among the others
abbrev pub told : Kind → List ℕ → Option Reply
told Begun numbers = Some (reply.Begun (first_number numbers))
told Done numbers = Some reply.Done
told (Row cells nulls) numbers = Some (reply.Row (cells_of nulls 0 numbers))
told Absent numbers = Some reply.Absent
told Committed numbers = Some (reply.Committed (first_number numbers))
told Ended numbers = Some (reply.Ended (first_number numbers))
told Aborted numbers = Some reply.Aborted
told Other numbers = None

-- numbers of a row are those of at most eight cells, and 0 where the cell is null
abbrev pub IsWhole : Kind → List ℕ → Type 0
IsWhole Begun numbers = Unit
IsWhole Done numbers = Unit
IsWhole (Row cells nulls) numbers = (length numbers ≤ 8) × AreNull 0 nulls numbers
IsWhole Absent numbers = Unit
IsWhole Committed numbers = Unit
IsWhole Ended numbers = Unit
IsWhole Aborted numbers = Unit
IsWhole Other numbers = Unit

-- the reply that was told, or the first of the others
abbrev pub reply_of : Option Reply → List Reply → Reply
reply_of (Some reply) others = reply
reply_of None others = slice_index_or others 0 reply.Silent

-- the others without that one
abbrev pub others_after : Option Reply → List Reply → List Reply
others_after (Some reply) others = others
others_after None others = drop 1 others

-- the reply was told, or there is one among the others
abbrev pub HasReply : Option Reply → List Reply → Type 0
HasReply (Some reply) others = Unit
HasReply None others = 0 < length others

-- the replies of these kinds, each with its numbers, one behind the other's, or the next of the others
abbrev pub all_told : List Kind → List ℕ → List Reply → List Reply
all_told [] numbers others = []
all_told (kind ∷ kinds) numbers others = reply_of (told kind (take (width kind) numbers)) others
    ∷ all_told kinds (drop (width kind) numbers) (others_after (told kind (take (width kind) numbers)) others)

-- there are all their numbers and the others of them, and no more
abbrev pub AreKept : List Kind → List ℕ → List Reply → Type 0
AreKept [] numbers others = (numbers ≡ []) × (others ≡ [])
AreKept (kind ∷ kinds) numbers others = (width kind ≤ length numbers) × (IsWhole kind (take (width kind) numbers) × (HasReply (told kind (take (width kind) numbers)) others
    × AreKept kinds (drop (width kind) numbers) (others_after (told kind (take (width kind) numbers)) others)))

-- a reply is the one that was told, or stands behind the others
abbrev pub Stands : Option Reply → Reply → List Reply → List Reply → Type 0
Stands (Some told) reply old new = (told ≡ reply) × (new ≡ old)
Stands None reply old new = new ≡ old ++ reply ∷ []

-- a reply was kept by a kind: its numbers behind those before, or the whole of it behind the others
pub record Keeps (kind : Kind) (reply : Reply) (numbers longer : List ℕ) (others more : List Reply) : Type 0 where
  pub added : List ℕ
  pub adds : longer ≡ numbers ++ added
  pub wide : length added ≡ width kind
  pub whole : IsWhole kind added
  pub stands : Stands (told kind added) reply others more
