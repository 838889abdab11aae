-- The state of the machine of one thread: lists and maps, with no words, chains or pages.
use Rattle.std.specs.Prelude.{ℕ, List, [], Bool, false, Option, None}
use Rattle.lst_model.specs.declared.acts.Write.{Write}
use Rattle.lst_model.specs.declared.commits.Commit.{Commit}

-- a write that was accepted, with the transaction that made it
pub record Accepted : Type 0 where
  pub session : ℕ
  pub number : ℕ
  pub write : Write

-- an open transaction
pub record Opened : Type 0 where
  pub begin : ℕ
  pub read_only : Bool

-- The store part. The key at place i of `placed`, counted from 0, belongs to range i / 256.
pub record Store : Type 0 where
  -- the commits, by time
  pub history : List Commit
  -- the keys that have a record, in the order in which they got it
  pub placed : List ℕ
  -- by range: the accepted writes, in order
  pub accepted : ℕ → List Accepted
  -- by session: how many transactions it has begun, which is the number of its last one
  pub begins : ℕ → ℕ
  -- by session: its open transaction
  pub opened : ℕ → Option Opened
  -- by session and number: whether the transaction ended without a commit
  pub closed : ℕ → ℕ → Bool

-- The page part.
pub record Pages : Type 0 where
  -- by range and column: how many of the range's accepted writes are folded into the page
  pub tps : ℕ → ℕ → ℕ
  -- how many pages were swapped
  pub swaps : ℕ
  -- by session: the number of swaps when its open transaction began, and 0 where it has none
  pub swaps_at_begin : ℕ → ℕ

pub record State : Type 0 where
  pub store : Store
  pub pages : Pages

abbrev pub opening_store : Store
opening_store = record {
  history = [];
  placed = [];
  accepted = λ range. [];
  begins = λ session. 0;
  opened = λ session. None;
  closed = λ session number. false;
}

abbrev pub opening_pages : Pages
opening_pages = record { tps = λ range column. 0; swaps = 0; swaps_at_begin = λ session. 0 }

-- no commits, keys, writes or open transactions
abbrev pub opening : State
opening = record { store = opening_store; pages = opening_pages }
