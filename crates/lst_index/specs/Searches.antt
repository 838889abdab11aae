-- A search for a key in the index: what its loads have found.
use Rattle.std.specs.Prelude.{◌≡◌, ◌≢◌, ◌⊎◌, ℕ, ◌<◌, List, [], ◌++◌, true, false}
use Rattle.std.specs.List.{Contains}
use Rattle.lst_layout.specs.declared.limits.Limits.{Limits}
use Rattle.lst_layout.specs.Words.{shown}
use Rattle.lst_layout.specs.declared.place.Place.TheVariants.{IndexWord}
use Rattle.lst_model.specs.Histories.{all_acts_on}
use Rattle.lst_core_state.specs.declared.known.Known.{Known}
use Rattle.lst_core_state.specs.declared.known.Placing.{Placing}
use Rattle.lst_core_state.specs.declared.facts.Fact.{Fact}
use Rattle.lst_core_state.specs.declared.facts.Fact.TheVariants.{IndexAt}
use Rattle.lst_core_state.specs.declared.facts.Find.{Find}
use Rattle.lst_core_state.specs.Index.{size, position_of}
use Rattle.lst_core_state.specs.State.{sight}
use Rattle.lst_rule.specs.declared.view.View.{View}
use Rattle.lst_rule.specs.Rule.{knows, Allowed}
use Rattle.lst_rule.specs.Learned.{Learns}
use Rattle.lst_rule.specs.Stores.{Looked}

-- the key has this record: a position of the index holds it, for good
abbrev pub IsPlaced : Known → ℕ → ℕ → Type 0
IsPlaced k r key = (q : ℕ) × Contains k.facts (IndexAt q r key)

-- each of the first n positions of the key's run is known to hold a record of another key
abbrev pub Passed : Limits → List Fact → ℕ → ℕ → Type 0
Passed l facts key n = (i : ℕ) → i < n → (r k : ℕ) × Contains facts (IndexAt (position_of l key i) r k) × (k ≢ key)

-- the key's run ends without it: the positions passed are known to hold other keys, a load of the next one, by session s, leads from some view to this
-- one and finds it empty, and so it is in a state that the view allows
pub record Ended (v : View) (s key : ℕ) : Type 0 where
  pub offset : ℕ
  pub short : offset < size v.limits
  pub passed : Passed v.limits (knows v s).facts key offset
  pub before : View
  pub look : Looked before v s (IndexWord (position_of v.limits key offset)) 0
  pub words : List ℕ
  pub known : ℕ → Known
  pub merger : Known
  pub allowed : Allowed v words known merger
  pub empty : (shown v.limits words).index (position_of v.limits key offset) ≡ 0

-- no commit that was seen wrote the key, and the open transaction sees nothing of it
pub record IsUnseen (k : Known) (key : ℕ) : Type 0 where
  pub commits : all_acts_on key k.seen ≡ []
  pub own : k.is_open ≡ true → sight k key ≡ []

-- of the sessions only s learnt something: facts, these finds, the index word that it loaded last, and of the record that it places
pub record Works (v w : View) (s : ℕ) (finds : List Find) : Type 0 where
  pub more : List Fact
  pub view : Learns v w s (record (knows v s) {
    placing = (knows w s).placing;
    facts = (knows v s).facts ++ more;
    finds = (knows v s).finds ++ finds;
    looks = record (knows v s).looks { index = (knows w s).looks.index };
  })

-- the key's run ends without it, and looks at the index lead from u to the view from which that load leads on. Where the last index word of u was
-- empty already, the load may be the one that led to u
pub record EndedSince (u v : View) (s key : ℕ) : Type 0 where
  pub ended : Ended v s key
  pub since : Works u ended.before s []

-- the record in hand is still in hand, or is given up
abbrev pub Keeps : Placing → Placing → Type 0
Keeps before now = (now ≡ before) ⊎ ((0 < before.hand) × (now ≡ record before { hand = 0; has_key = false }))
