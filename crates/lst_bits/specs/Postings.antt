-- A posting: the identifier of a tail record, which counts those of all ranges from 1 on, or none.
use Rattle.std.specs.Prelude.{ℕ, ◌^◌, ◌<◌, ◌==◌, Option, Some, None, if◌then◌else◌}
use Rattle.lst_bits.specs.Packing.{IsPacking}

-- 0 where there is none
abbrev pub posting_word : Option ℕ → ℕ
posting_word None = 0
posting_word (Some tail) = tail

abbrev pub posting_of : ℕ → Option ℕ
posting_of word = if word == 0 then None else Some word

abbrev pub IsPosting : Option ℕ → Type 0
IsPosting None = Unit {0}
IsPosting (Some tail) = (0 < tail) × (tail < 2 ^ 32)

-- the word of some posting
abbrev pub IsPostingWord : ℕ → Type 0
IsPostingWord word = word < 2 ^ 32

abbrev pub PostingsArePacked : Type 0
PostingsArePacked = IsPacking IsPosting IsPostingWord posting_word posting_of
