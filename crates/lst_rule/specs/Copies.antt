-- What the facts of a session hold of a record's chain.
use Rattle.std.specs.Prelude.{◌≡◌, ℕ, ◌+◌, ◌*◌, ◌/◌, ◌%◌, ◌<◌, ◌≤◌, List, [], ◌∷◌, length, slice_index}
use Rattle.std.specs.List.{Contains}
use Rattle.lst_layout.specs.declared.limits.Limits.{Limits}
use Rattle.lst_core_state.specs.declared.facts.Fact.{Fact}
use Rattle.lst_core_state.specs.declared.facts.Fact.TheVariants.{CellIs, ChainEnds}
use Rattle.lst_core_state.specs.Cells.{record_count, tail_count, range_of, record_of, IsCell}

-- a version: its tail, by its identifier, the name of its transaction, and its words. The back word is the number in its
-- range of the version below, or 0
pub record Version : Type 0 where
  pub tail : ℕ
  pub writer : ℕ
  pub encoding : ℕ
  pub back : ℕ
  pub values : List ℕ

abbrev pub fact_of : Version → Fact
fact_of c = CellIs c.tail c.writer c.encoding c.back c.values

abbrev pub tails_of : List Version → List ℕ
tails_of [] = []
tails_of (c ∷ cs) = c.tail ∷ tails_of cs

-- the facts have each of these versions
abbrev pub AreKnown : List Fact → List Version → Type 0
AreKnown facts [] = Unit {0}
AreKnown facts (c ∷ cs) = Contains facts (fact_of c) × AreKnown facts cs

-- the version is one of the record, whole, and by a transaction that was begun
pub record IsVersionOf (l : Limits) (rec : ℕ) (c : Version) : Type 0 where
  pub some : 0 < c.tail
  pub few : c.tail ≤ tail_count l
  pub session : c.writer % 16 < l.sessions
  pub begun : 0 < c.writer / 16
  pub number : c.writer / 16 ≤ l.txns
  pub here : record_of l.tails c.tail c.encoding ≡ rec
  pub wide : length c.values ≡ l.columns
  pub cell : IsCell l.columns c.encoding (λ i. slice_index c.values i)

abbrev pub AreVersionsOf : Limits → ℕ → List Version → Type 0
AreVersionsOf l rec [] = Unit {0}
AreVersionsOf l rec (c ∷ cs) = IsVersionOf l rec c × AreVersionsOf l rec cs

-- in the range, n is the number of the first version, and each version's back word is the number of the next; the last one's is 0
abbrev pub Leads : Limits → ℕ → ℕ → List Version → Type 0
Leads l range n [] = n ≡ 0
Leads l range n (c ∷ cs) = (0 < n) × (n ≤ l.tails) × (c.tail ≡ range * l.tails + n) × (c.back < n) × Leads l range c.back cs

-- these are the versions of the record's chain from the number n of its range down, newest first, and the facts have each
pub record IsChainFrom (l : Limits) (facts : List Fact) (rec n : ℕ) (versions : List Version) : Type 0 where
  pub known : AreKnown facts versions
  pub whole : AreVersionsOf l rec versions
  pub leads : Leads l (range_of rec) n versions

-- these are all versions of the record's chain, whose newest has the number `head` in its range
pub record IsCopy (l : Limits) (facts : List Fact) (rec head : ℕ) (copy : List Version) : Type 0 where
  pub low : rec < record_count l
  pub ends : Contains facts (ChainEnds rec (tails_of copy))
  pub chain : IsChainFrom l facts rec head copy

-- the facts have a version with this tail, whose back word is a number of its range
abbrev pub IsLinked : Limits → List Fact → ℕ → Type 0
IsLinked l facts tail = (rec : ℕ) × (c : Version) × IsVersionOf l rec c × Contains facts (fact_of c) × (c.tail ≡ tail) × (c.back ≤ l.tails)

-- every fact of the old list is in the new one
abbrev pub Includes : List Fact → List Fact → Type 0
Includes new old = (f : Fact) → Contains old f → Contains new f
