-- What steps find, and what a fact and a find say.
use Rattle.std.specs.Prelude.{◌≡◌, ◌≢◌, ◌⊎◌, ℕ, zero, suc, ◌+◌, ◌-◌, ◌*◌, ◌/◌, ◌%◌, ◌<◌, ◌≤◌, List, [], ◌∷◌, ◌++◌, true, cond, eqb, nat_lt}
use Rattle.std.specs.List.{Contains}
use Rattle.lst_layout.specs.declared.limits.Limits.{Limits}
use Rattle.lst_core_state.specs.declared.known.Known.{Known}
use Rattle.lst_core_state.specs.declared.known.Hold.{Hold}
use Rattle.lst_core_state.specs.declared.known.Done.{Done}
use Rattle.lst_core_state.specs.declared.facts.Fact.{Fact}
use Rattle.lst_core_state.specs.declared.facts.Fact.TheVariants.{IndexAt, StateAt, CellIs, ChainEnds, CommitAt, RecordsAtLeast, TailsAtLeast, EpochAtLeast, PostAt}
use Rattle.lst_core_state.specs.declared.facts.Find.{Find}
use Rattle.lst_core_state.specs.declared.facts.Find.TheVariants.{UnfinishedVersion, LatchedRecord, FullRecords, FullTails}
use Rattle.lst_core_state.specs.State.{Words, writer_at, line, name_of}
use Rattle.lst_core_state.specs.Cells.{listed}
use Rattle.lst_core_state.specs.Index.{size}

-- the list ends in ts
abbrev pub Ends : List ℕ → List ℕ → Type 0
Ends ts ys = (front : List ℕ) × (ys ≡ front ++ ts)

-- a fact is so
abbrev pub IsFact : Limits → Words → Fact → Type 0
IsFact l w (IndexAt q r k) = (w.index q ≡ r + 1) × (w.keys r ≡ k)
IsFact l w (StateAt s n x) = (0 < x) × (w.states s n ≡ x)
IsFact l w (CellIs t x e b vs) = (0 < w.cells t 0) × (writer_at w t ≡ x) × (w.cells t 1 ≡ e) × (w.cells t 2 ≡ b) × (listed (w.cells t) 3 l.columns ≡ vs)
IsFact l w (ChainEnds r ts) = (r < 256 * l.ranges) × Ends ts (line l w r)
IsFact l w (CommitAt t s n) = (0 < t) × (t ≤ w.clock) × (s < l.sessions) × (w.log t ≡ name_of s n)
IsFact l w (RecordsAtLeast n) = n ≤ w.counter
IsFact l w (TailsAtLeast range n) = n ≤ w.counts range
IsFact l w (EpochAtLeast e) = e ≤ w.epoch
IsFact l w (PostAt c q t) = (0 < t) × (w.postings c q ≡ t)

-- ---- what loads append

-- an index word that isn't 0
abbrev pub index_fact : Words → ℕ → List Fact
index_fact w q = cond (eqb (w.index q) 0) [] (IndexAt q (w.index q - 1) (w.keys (w.index q - 1)) ∷ [])

-- those of the positions below n, in order
abbrev pub index_below : ℕ → Words → List Fact
index_below zero w = []
index_below (suc n) w = index_below n w ++ index_fact w n

-- the whole index
abbrev pub index_facts : Limits → Words → List Fact
index_facts l w = index_below (size l) w

abbrev pub state_fact : Words → ℕ → ℕ → List Fact
state_fact w s n = cond (eqb (w.states s n) 0) [] (StateAt s n (w.states s n) ∷ [])

abbrev pub cell_fact : Limits → Words → ℕ → Fact
cell_fact l w t = CellIs t (writer_at w t) (w.cells t 1) (w.cells t 2) (listed (w.cells t) 3 l.columns)

-- a tail whose start word isn't 0
abbrev pub stored_fact : Limits → Words → ℕ → List Fact
stored_fact l w t = cond (eqb (w.cells t 0) 0) [] (cell_fact l w t ∷ [])

-- the commit at the time that a start word holds, where it holds one
abbrev pub commit_fact : (ℕ → ℕ) → ℕ → List Fact
commit_fact log start = cond (eqb start 0) [] (cond (eqb (start % 2) 0) (CommitAt (start / 2) (log (start / 2) % 16) (log (start / 2) / 16) ∷ []) [])

-- each of these tails
abbrev pub cell_facts : Limits → Words → List ℕ → List Fact
cell_facts l w [] = []
cell_facts l w (t ∷ ts) = cell_fact l w t ∷ cell_facts l w ts

-- a record's whole chain, and each tail of it
abbrev pub chain_facts : Limits → Words → ℕ → List Fact
chain_facts l w r = ChainEnds r (line l w r) ∷ cell_facts l w (line l w r)

-- those of the first n records of a range
abbrev pub chains_below : ℕ → Limits → Words → ℕ → List Fact
chains_below zero l w range = []
chains_below (suc n) l w range = chains_below n l w range ++ chain_facts l w (256 * range + n)

-- of each record of a range
unfoldable pub range_facts : Limits → Words → ℕ → List Fact
range_facts l w range = chains_below 256 l w range

-- a posting that isn't 0
abbrev pub post_fact : Words → ℕ → ℕ → List Fact
post_fact w c q = cond (eqb (w.postings c q) 0) [] (PostAt c q (w.postings c q) ∷ [])

-- ---- unfinished versions

-- one more than the begin of the open transaction, or 0
abbrev pub begun : Known → ℕ
begun v = cond v.is_open (v.begin + 1) 0

-- one more than the record of the version at hand, where the start word loaded last is that transaction's, or 0
abbrev pub about : Known → ℕ → ℕ → ℕ
about v s n = cond (eqb v.looks.start (1 + 2 * name_of s n)) v.looks.about 0

-- and its tail, or 0
abbrev pub about_tail : Known → ℕ → ℕ → ℕ
about_tail v s n = cond (eqb v.looks.start (1 + 2 * name_of s n)) v.looks.tail 0

abbrev pub unfinished : Known → ℕ → ℕ → Find
unfinished v s n = UnfinishedVersion (about v s n) (about_tail v s n) s n (begun v)

-- a state word that is 0
abbrev pub active_find : Known → ℕ → ℕ → ℕ → List Find
active_find v s n state = cond (eqb state 0) (unfinished v s n ∷ []) []

-- a clock below the time of the committed state that was loaded last
abbrev pub early_find : Known → ℕ → List Find
early_find v clock = cond (nat_lt (clock + 1) v.looks.state) (unfinished v v.looks.session v.looks.number ∷ []) []

-- ---- what a find says, for good

-- another session than s has latched the record
abbrev pub LatchedApart : ℕ → (ℕ → List ℕ) → ℕ → ℕ → Type 0
LatchedApart sessions latched s r = (j : ℕ) × (j < sessions) × (j ≢ s) × Contains (latched j) r

-- a session that did this, has this in hand and is at its transaction `number`, wrote the tail t of the record r by its
-- transaction n: the tail is on the chain, or still in hand
abbrev pub Wrote : List Done → Hold → ℕ → ℕ → ℕ → ℕ → Type 0
Wrote done h number n r t = Contains done record { number = n; rec = r; tail = t } ⊎ ((h.tail ≡ t) × (h.is_whole ≡ true) × (h.latch ≡ r + 1) × (number ≡ n))

abbrev pub WroteOf : Known → ℕ → ℕ → ℕ → Type 0
WroteOf v n r t = Wrote v.done v.hold v.number n r t

-- b isn't above the clock, and the log has this name at no time up to b
abbrev pub UnloggedUntil : ℕ → (ℕ → ℕ) → ℕ → ℕ → Type 0
UnloggedUntil clock log b name = (b ≤ clock) × ((t : ℕ) → 0 < t → t ≤ b → log t ≢ name)

-- a find of the session s; a counter that was found full stays so
abbrev pub IsFind : Limits → ℕ → (ℕ → ℕ) → ℕ → (ℕ → ℕ) → (ℕ → Known) → ℕ → Find → Type 0
IsFind l counter counts clock log known s FullRecords = 256 * l.ranges ≤ counter
IsFind l counter counts clock log known s (FullTails range) = l.tails ≤ counts range
IsFind l counter counts clock log known s (LatchedRecord r) = LatchedApart l.sessions (λ j. (known j).latched) s r
IsFind l counter counts clock log known s (UnfinishedVersion a t j n b) = (j < l.sessions) × (0 < a → WroteOf (known j) n (a - 1) t) × (0 < b → UnloggedUntil clock log (b - 1) (name_of j n))
IsFind l counter counts clock log known s f = Unit {0}
