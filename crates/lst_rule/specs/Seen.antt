-- What a transaction sees of versions, by the names of their transactions.
use Rattle.std.specs.Prelude.{◌≡◌, ℕ, ◌/◌, ◌%◌, List, [], ◌∷◌, ◌++◌, Bool, false, cond, eqb, ◌&&◌, ◌||◌, take}
use Rattle.std.specs.List.{Contains}
use Rattle.lst_model.specs.declared.acts.Act.{Act}
use Rattle.lst_model.specs.declared.commits.Commit.{Commit}
use Rattle.lst_core_state.specs.declared.known.Known.{Known}
use Rattle.lst_core_state.specs.declared.facts.Fact.{Fact}
use Rattle.lst_core_state.specs.declared.facts.Fact.TheVariants.{IndexAt}
use Rattle.lst_core_state.specs.Cells.{act_of}
use Rattle.lst_core_state.specs.State.{name_of, sight}
use Rattle.lst_rule.specs.Copies.{Version}

-- some commit is of the transaction of that name
abbrev pub names : List Commit → ℕ → Bool
names [] x = false
names (c ∷ cs) x = (eqb c.session (x % 16) && eqb c.number (x / 16)) || names cs x

-- the transaction is one of the commits that were seen up to the begin
abbrev pub is_early : Known → ℕ → Bool
is_early v x = names (take v.begin v.seen) x

-- the session s sees what the transaction wrote: it is early, or its own
abbrev pub sees : Known → ℕ → ℕ → Bool
sees v s x = is_early v x || eqb x (name_of s v.number)

abbrev pub act_by : Version → Act
act_by c = act_of c.encoding c.values

-- the acts of the versions that the session s sees, oldest first. The versions stand newest first
abbrev pub seen_acts : Known → ℕ → List Version → List Act
seen_acts v s [] = []
seen_acts v s (c ∷ cs) = cond (sees v s c.writer) (seen_acts v s cs ++ act_by c ∷ []) (seen_acts v s cs)

-- they are the acts on the key that it sees
abbrev pub IsSight : Known → ℕ → ℕ → List Version → Type 0
IsSight v s key versions = seen_acts v s versions ≡ sight v key

-- what decides what a transaction sees is the same
pub record SeesAlike (u v : Known) : Type 0 where
  pub number : v.number ≡ u.number
  pub begin : v.begin ≡ u.begin
  pub own : v.own ≡ u.own
  pub front : take v.begin v.seen ≡ take u.begin u.seen

-- the facts have the record in the index, with its key
abbrev pub HasKey : List Fact → ℕ → ℕ → Type 0
HasKey facts rec key = (q : ℕ) × Contains facts (IndexAt q rec key)
