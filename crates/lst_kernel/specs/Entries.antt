-- What the entries of a page come to for a reader. An entry is a value word and a time word: twice the time at which it was last
-- written, and one more where it is present.
use Rattle.std.specs.Prelude.{ℕ, ◌/◌, ◌%◌, List, map, filter, zip, Bool, ◌==◌, ◌&&◌, nat_le, if◌then◌else◌}

-- the time word is of an entry that is present, with a time of at most the begin
abbrev pub is_seen : ℕ → ℕ → Bool
is_seen begin word = word % 2 == 1 && nat_le (word / 2) begin

-- the values of these entries, in their order
abbrev pub seen_values : ℕ → List ℕ → List ℕ → List ℕ
seen_values begin values times = map (λ e. e.0) (filter (λ e. is_seen begin e.1) (zip values times))

-- what a lane holds of an entry: its value, or 0 where it isn't seen
abbrev pub lane_of : ℕ → ℕ → ℕ → ℕ
lane_of begin value word = if is_seen begin word then value else 0
