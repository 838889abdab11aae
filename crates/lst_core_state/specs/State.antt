-- A state of the core: the words by area, and what each session and the merger know.
use Rattle.std.specs.Prelude.{None, ℕ, zero, suc, ◌+◌, ◌-◌, ◌*◌, ◌/◌, ◌%◌, List, [], ◌∷◌, ◌++◌, Bool, false, cond, eqb, nat_lt, ◌&&◌, ◌||◌, take, replicate, slice_index_or}
use Rattle.lst_layout.specs.declared.limits.Limits.{Limits}
pub use Rattle.lst_layout.specs.Words.{Words}
pub use Rattle.lst_bits.specs.Names.{name_of}
use Rattle.lst_bits.specs.Names as names
use Rattle.lst_bits.specs.Heads as heads
use Rattle.lst_layout.specs.Words.{shown}
use Rattle.lst_model.specs.declared.acts.Act.{Act}
use Rattle.lst_model.specs.declared.acts.Write.{Write}
use Rattle.lst_model.specs.declared.commits.Commit.{Commit}
use Rattle.lst_model.specs.Histories.{acts_on, all_acts_on, row_from}
use Rattle.lst_model.specs.Soundness.{Fits}
use Rattle.lst_core_state.specs.Lists.{chain_of, is_until}
use Rattle.lst_core_state.specs.Writes.{commit, writes_by}
use Rattle.lst_core_state.specs.declared.known.Known.{Known}
use Rattle.lst_core_state.specs.declared.known.Counter.{Counter}
use Rattle.lst_core_state.specs.declared.known.Placing.{Placing}
use Rattle.lst_core_state.specs.declared.known.Hold.{Hold}
use Rattle.lst_core_state.specs.declared.known.Draft.{Draft}
use Rattle.lst_core_state.specs.declared.known.Looks.{Looks}
use Rattle.lst_core_state.specs.declared.known.Stage.{Stage}
use Rattle.lst_core_state.specs.declared.known.Stage.TheVariants.{Away, Taken, Fresh, Logged, Stated, Done}
use Rattle.lst_core_state.specs.Cells.{range_of, tail_range, tail_at, act_of, record_of, listed, tail_count}
use Rattle.lst_core_state.specs.Pages.{no_pages}

pub record Core : Type 0 where
  pub limits : Limits
  pub words : Words
  pub known : ℕ → Known  -- by session
  pub merger : Known

-- a state with these words
abbrev pub state_over : Limits → List ℕ → (ℕ → Known) → Known → Core
state_over l words known merger = record { limits = l; words = shown l words; known = known; merger = merger }

-- ---- what a session knows

abbrev pub no_counter : Counter
no_counter = record { is_serving = false; full = 0 }

abbrev pub no_hold : Hold
no_hold = record { latch = 0; head = 0; tail = 0; is_whole = false }

abbrev pub no_placing : Placing
no_placing = record { hand = 0; key = 0; has_key = false; counter = no_counter; drawn = [] }

abbrev pub no_draft : Draft
no_draft = record { words = []; stored = 0; posted = 0; unposted = 0 }

abbrev pub no_looks : Looks
no_looks = record { index = 0; start = 0; about = 0; tail = 0; state = 0; session = 0; number = 0 }

abbrev pub newcomer : Limits → Known
newcomer l = record {
  number = 0;
  begin = 0;
  read_only = false;
  is_open = false;
  turn = Away;
  seen = [];
  own = [];
  placing = no_placing;
  hold = no_hold;
  draft = no_draft;
  counters = replicate l.ranges no_counter;
  latched = [];
  done = [];
  facts = [];
  finds = [];
  looks = no_looks;
  pages = no_pages l;
}

-- how far a session is with its turn
abbrev pub rank : Stage → ℕ
rank Away = 0
rank Taken = 1
rank Fresh = 2
rank Logged = 3
rank Stated = 4
rank Done = 5

-- what a session knows of the tail counter of a range
abbrev pub counter_of : Known → ℕ → Counter
counter_of v range = slice_index_or v.counters range no_counter

-- ---- transactions

-- a word of the transaction of that name
abbrev pub entry : (ℕ → ℕ → ℕ) → ℕ → ℕ
entry f x = f (names.session_of x) (names.number_of x)

-- the transaction that a start word names, by itself or by the log
unfoldable pub writer : (ℕ → ℕ) → ℕ → ℕ
writer log start = cond (eqb (start % 2) 1) (start / 2) (log (start / 2))

-- ---- tails and chains

abbrev pub starts : Words → ℕ → ℕ
starts w t = w.cells t 0

abbrev pub writer_at : Words → ℕ → ℕ
writer_at w t = writer w.log (w.cells t 0)

abbrev pub state_at : Words → ℕ → ℕ
state_at w t = entry w.states (writer_at w t)

abbrev pub record_in : Limits → (ℕ → ℕ → ℕ) → ℕ → ℕ
record_in l cells t = record_of l.tails t (cells t 1)

abbrev pub act_in : Limits → (ℕ → ℕ → ℕ) → ℕ → Act
act_in l cells t = act_of (cells t 1) (listed (cells t) 3 l.columns)

abbrev pub back_in : Limits → (ℕ → ℕ → ℕ) → ℕ → ℕ
back_in l cells t = tail_at l.tails (tail_range l.tails t) (cells t 2)

abbrev pub head_of : Limits → ℕ → ℕ → ℕ
head_of l r word = tail_at l.tails (range_of r) (heads.head_of word)

-- the tails of a record, newest first
abbrev pub line : Limits → Words → ℕ → List ℕ
line l w r = chain_of (back_in l w.cells) (head_of l r (w.heads r))

-- ---- the decoded history

-- the tail is stored, by x
abbrev pub is_by : (ℕ → ℕ) → (ℕ → ℕ → ℕ) → ℕ → ℕ → Bool
is_by log cells x t = nat_lt 0 (cells t 0) && eqb (writer log (cells t 0)) x

-- the writes of the tails that x stored, by key and then by tail
abbrev pub writes_of : Limits → Words → ℕ → List Write
writes_of l w x = writes_by (is_by w.log w.cells x) (λ t. w.keys (record_in l w.cells t)) (act_in l w.cells) (tail_count l)

-- the commit that the log names at a time
abbrev pub commit_at : (ℕ → ℕ) → (ℕ → ℕ → ℕ) → (ℕ → List Write) → ℕ → Commit
commit_at log begins ws t = commit (log t % 16) (log t / 16) (begins (log t % 16) (log t / 16) - 1) (ws (log t))

-- the commits at the times from 1 to the clock
unfoldable pub history : ℕ → (ℕ → ℕ) → (ℕ → ℕ → ℕ) → (ℕ → List Write) → List Commit
history zero log begins ws = []
history (suc t) log begins ws = history t log begins ws ++ commit_at log begins ws (suc t) ∷ []

abbrev pub history_of : Limits → Words → List Commit
history_of l w = history w.clock w.log w.begins (writes_of l w)

-- the commits of one session
abbrev pub commits_of : ℕ → List Commit → List Commit
commits_of s [] = []
commits_of s (c ∷ cs) = cond (eqb c.session s) (c ∷ commits_of s cs) (commits_of s cs)

-- a session's own commits
abbrev pub mine : ℕ → Known → List Commit
mine s v = commits_of s v.seen

-- ---- what a transaction sees

-- the acts on a key that it sees
abbrev pub sight : Known → ℕ → List Act
sight v k = all_acts_on k (take v.begin v.seen) ++ acts_on k v.own

-- an act fits the row that the acts before it leave
abbrev pub FitsAfter : List Act → Act → Type 0
FitsAfter before a = Fits (row_from None before) a

-- a version is own, or was committed at most at b
abbrev pub is_visible : Words → ℕ → ℕ → ℕ → Bool
is_visible w own b t = is_until b (state_at w t) || eqb (writer_at w t) own
