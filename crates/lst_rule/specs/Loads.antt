-- What loads tell of versions that the facts have.
use Rattle.std.specs.Prelude.{◌≡◌, ◌⊎◌, ℕ, ◌+◌, ◌*◌, ◌/◌, ◌%◌, ◌<◌, List, [], true, slice_index}
use Rattle.std.specs.List.{Contains}
use Rattle.lst_layout.specs.declared.limits.Limits.{Limits}
use Rattle.lst_core_state.specs.Lists.{is_until}
use Rattle.lst_core_state.specs.declared.known.Known.{Known}
use Rattle.lst_core_state.specs.declared.facts.Fact.{Fact}
use Rattle.lst_core_state.specs.declared.facts.Fact.TheVariants.{StateAt, CommitAt}
use Rattle.lst_core_state.specs.Facts.{unfinished}
use Rattle.lst_rule.specs.Copies.{Version, fact_of, IsVersionOf, IsCopy}
use Rattle.lst_rule.specs.Seen.{is_early, seen_acts, IsSight, HasKey}

-- what the session s, which knows v, has of the record's whole chain once it found the indirection word, with the number `head`
pub record ChainFound (l : Limits) (v : Known) (s rec head : ℕ) : Type 0 where
  pub copy : List Version
  pub is : IsCopy l v.facts rec head copy
  -- what the open transaction sees of the copy is its sight of the record's key, where it knows the key
  pub sight : (key : ℕ) → v.is_open ≡ true → HasKey v.facts rec key → IsSight v s key copy
  -- where it sees anything of the copy, it knows the record's key
  pub keyed : v.is_open ≡ true → (seen_acts v s copy ≡ []) ⊎ ((key : ℕ) × HasKey v.facts rec key)

-- a load of the start word of the version c of the record found x, and then the session knows v
pub record StartFound (v : Known) (rec : ℕ) (c : Version) (x : ℕ) : Type 0 where
  pub some : 0 < x
  -- the name of its transaction
  pub named : x % 2 ≡ 1 → x ≡ 1 + 2 * c.writer
  -- or its commit time
  pub stamped : x % 2 ≡ 0 → (0 < x / 2) × Contains v.facts (CommitAt (x / 2) (c.writer % 16) (c.writer / 16))
  -- which is the one loaded last
  pub start : v.looks.start ≡ x
  pub about : v.looks.about ≡ rec + 1
  pub tail : v.looks.tail ≡ c.tail

-- a load of the word at the place p, not the start word, of the version c found x
pub record WordFound (l : Limits) (c : Version) (p x : ℕ) : Type 0 where
  pub encoding : p ≡ 1 → x ≡ c.encoding
  pub back : p ≡ 2 → x ≡ c.back
  pub value : (i : ℕ) → i < l.columns → p ≡ 3 + i → x ≡ slice_index c.values i

-- each version with this tail that the facts have has the back word n
abbrev pub IsBack : Limits → List Fact → ℕ → ℕ → Type 0
IsBack l facts tail n = (rec : ℕ) (c : Version) → IsVersionOf l rec c → Contains facts (fact_of c) → c.tail ≡ tail → n ≡ c.back

-- a load of the state word of the transaction of this name found x; the session knew u before, and knows v then
pub record StateFound (u v : Known) (name x : ℕ) : Type 0 where
  pub early : v.is_open ≡ true → is_early v name ≡ is_until v.begin x
  pub fact : 0 < x → Contains v.facts (StateAt (name % 16) (name / 16) x)
  pub find : x ≡ 0 → Contains v.finds (unfinished u (name % 16) (name / 16))
