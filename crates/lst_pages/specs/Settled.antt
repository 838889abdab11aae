-- The settled tails of a range, as a function of the words.
use Rattle.std.specs.Prelude.{ℕ, zero, suc, ◌+◌, ◌-◌, ◌*◌, List, [], ◌∷◌, Bool, cond, nat_lt, nat_le, ◌&&◌}
use Rattle.lst_layout.specs.declared.limits.Limits.{Limits}
use Rattle.lst_model.specs.Cells.{cells_of}
use Rattle.lst_bits.specs.declared.encodings.Encoding.{Encoding}
use Rattle.lst_bits.specs.Encodings.{encoding_of}
use Rattle.lst_core_state.specs.Cells.{listed}
use Rattle.lst_core_state.specs.State.{Words, state_at}
use Rattle.lst_pages.specs.declared.tails.PageTail.{PageTail}

-- what a page folds of a tail with this encoding word and these values, committed at this time, or closed, which is time 0
abbrev pub tail_by : ℕ → List ℕ → ℕ → PageTail
tail_by word values time = let e : Encoding = encoding_of word in record { slot = e.slot; kind = e.kind; mask = e.mask; values = cells_of e.nulls 0 values; time = time }

-- of the tail t
abbrev pub tail_in : Limits → Words → ℕ → PageTail
tail_in l w t = tail_by (w.cells t 1) (listed (w.cells t) 3 l.columns) (state_at w t - 1)

-- the tail is stored, and its transaction is closed, or committed by the clock
abbrev pub is_settled : Words → ℕ → Bool
is_settled w t = nat_lt 0 (w.cells t 0) && (nat_lt 0 (state_at w t) && nat_le (state_at w t) (w.clock + 1))

-- the items from t on that are so without a gap, at most n
abbrev pub front : {A : Type 0} → (ℕ → Bool) → (ℕ → A) → ℕ → ℕ → List A
front so item t zero = []
front so item t (suc n) = cond (so t) (item t ∷ front so item (suc t) n) []

-- the settled tails of a range, from its first one on without a gap
unfoldable pub settled_tails : Limits → Words → ℕ → List PageTail
settled_tails l w range = front (is_settled w) (tail_in l w) (range * l.tails + 1) l.tails
