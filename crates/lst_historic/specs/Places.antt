-- A block with the places of its keys, and the histories that have the block.
use Rattle.std.specs.Prelude.{◌≡◌, ℕ, ◌≤◌, List, [], ◌∷◌, ◌++◌, length, drop, cond, Option, Some, None, ◌==◌}
use Rattle.lst_model.specs.declared.commits.Commit.{Commit}
use Rattle.lst_model.specs.Soundness.{IsSound}
use Rattle.lst_historic.specs.declared.places.Place.{Place}
use Rattle.lst_historic.specs.Blocks.{Chain, chain_text, IsBlock, AreWide, AllHaveNumbers, chains_of, block}

-- the bytes are a block that was built at this time
abbrev pub IsBuiltAt : List ℕ → ℕ → Type 0
IsBuiltAt bytes until = (columns : ℕ) × (chains : List Chain) × IsBlock bytes columns until chains

-- the bytes are a block
abbrev pub IsSomeBlock : List ℕ → Type 0
IsSomeBlock bytes = (columns until : ℕ) × (chains : List Chain) × IsBlock bytes columns until chains

-- the bytes are the block of a sound history whose rows and patches have so many columns, and whose rows have numbers below 2^64
pub record HasBlock (columns : ℕ) (history : List Commit) (bytes : List ℕ) : Type 0 where
  pub sound : IsSound history
  pub wide : AreWide columns history
  pub numbers : AllHaveNumbers (chains_of history)
  pub text : bytes ≡ block columns history

-- each place is that of its key's versions in the bytes
abbrev pub ArePlaced : ℕ → List ℕ → List Chain → List Place → Type 0
ArePlaced columns bytes [] [] = Unit {0}
ArePlaced columns bytes [] (place ∷ places) = ⊥
ArePlaced columns bytes (chain ∷ chains) [] = ⊥
ArePlaced columns bytes (chain ∷ chains) (place ∷ places) = (place.key ≡ chain.key) × (place.at ≤ length bytes) × ((rest : List ℕ) × (drop place.at bytes ≡ chain_text columns chain.versions ++ rest)) × ArePlaced columns bytes chains places

-- a key and where its versions begin
abbrev pub place_at : ℕ → ℕ → Place
place_at key at = record { key = key; at = at }

pub record IsHeld (bytes : List ℕ) (columns until : ℕ) (places : List Place) : Type 0 where
  pub chains : List Chain
  pub block : IsBlock bytes columns until chains
  pub placed : ArePlaced columns bytes chains places

-- the place of a key
abbrev pub at_in : List Place → ℕ → Option ℕ
at_in [] key = None
at_in (place ∷ places) key = cond (key == place.key) (Some place.at) (at_in places key)
