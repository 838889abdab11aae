-- Which keys are noted.
use Rattle.std.specs.Prelude.{ℕ, Bool, false, cond, get_or, length, nat_lt}
use Rattle.std.specs.Ordering.{nat_cmp}
use Rattle.std.specs.BTreeSet.{contains}
use Rattle.lst_csv.specs.declared.keys.Keys.{Keys}

-- the lowest have a flag, and the others are in the set
abbrev pub has_key : Keys → ℕ → Bool
has_key keys key = cond (nat_lt key (length keys.flags.items)) (get_or keys.flags.items key false) (contains nat_cmp keys.others key)
