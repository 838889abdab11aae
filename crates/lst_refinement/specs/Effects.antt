-- What the calls of a crew do to the words, and to what is known of transactions, pins and pages.
use Rattle.std.specs.Prelude.{◌≡◌, ◌≢◌, ℕ, ◌+◌, ◌*◌, ◌<◌, Bool, true, false, eqb}
use Rattle.lst_layout.specs.declared.limits.Limits.{Limits}
use Rattle.lst_layout.specs.Functions.{put, put_in}
use Rattle.lst_model.specs.declared.acts.Act.{Act}
use Rattle.lst_model.specs.declared.lines.Call.{Call}
use Rattle.lst_model.specs.declared.lines.Call.TheVariants.{Begin, AsOf, Commit, Abort}
use Rattle.lst_core_state.specs.declared.known.Known.{Known}
use Rattle.lst_core_state.specs.declared.pages.MergerFrames.{MergerFrames}
use Rattle.lst_core_state.specs.Cells.{range_of}
use Rattle.lst_core_state.specs.State.{Words, writer_at, record_in, act_in, name_of}
use Rattle.lst_pages.specs.Sound.{IsPage}
use Rattle.lst_pages.specs.Runs.{tps_known}

-- the session's transactions are the same
pub record SameTransactions (u k : Known) : Type 0 where
  pub number : k.number ≡ u.number
  pub begin : k.begin ≡ u.begin
  pub read_only : k.read_only ≡ u.read_only
  pub is_open : k.is_open ≡ u.is_open

-- those of every session below n but s, where there is one
abbrev pub SameBut : ℕ → ℕ → (ℕ → Known) → (ℕ → Known) → Type 0
SameBut n s u k = (t : ℕ) → t < n → t ≢ s → SameTransactions (u t) (k t)

-- the session has begun its next transaction
pub record HasBegun (u k : Known) (begin : ℕ) (read_only : Bool) : Type 0 where
  pub number : k.number ≡ u.number + 1
  pub begin_is : k.begin ≡ begin
  pub kind : k.read_only ≡ read_only
  pub is_open : k.is_open ≡ true

-- the session's transaction is over
pub record HasEnded (u k : Known) : Type 0 where
  pub number : k.number ≡ u.number
  pub is_open : k.is_open ≡ false

-- the areas of which the store part of the machine's state is told are the same. The commit word, the epoch, the index, the indirection words, the directory, the
-- frames, the pins and the postings may differ
pub record TellAlike (a b : Words) : Type 0 where
  pub clock : b.clock ≡ a.clock
  pub counter : b.counter ≡ a.counter
  pub log : b.log ≡ a.log
  pub begins : b.begins ≡ a.begins
  pub states : b.states ≡ a.states
  pub keys : b.keys ≡ a.keys
  pub counts : b.counts ≡ a.counts
  pub cells : b.cells ≡ a.cells

-- the words once the transaction n of the session s has begun, with the begin b
abbrev pub begun_words : Words → ℕ → ℕ → ℕ → Words
begun_words w s n b = record w { begins = put_in w.begins s n (b + 1) }

-- once it is closed
abbrev pub closed_words : Words → ℕ → ℕ → Words
closed_words w s n = record w { states = put_in w.states s n 1 }

-- once it is committed, at the time above the clock
abbrev pub committed_words : Words → ℕ → ℕ → Words
committed_words w s n = record w { clock = w.clock + 1; turn = 0; log = put w.log (w.clock + 1) (name_of s n); states = put_in w.states s n (w.clock + 2) }

-- once the next record is drawn for the key, and stands at the position q of the index
abbrev pub placed_words : Words → ℕ → ℕ → Words
placed_words w key q = record w { counter = w.counter + 1; keys = put w.keys w.counter key; index = put w.index q (w.counter + 1) }

-- an act by the transaction x on the record is in the tail with the number n in the record's range; of the other tails stamps alone differ, and
-- of the other areas those alone of which nothing is told
pub record IsWritten (l : Limits) (a b : Words) (rec n x : ℕ) (act : Act) : Type 0 where
  pub rest : TellAlike (record a { counts = put a.counts (range_of rec) n; cells = b.cells }) b
  pub next : n ≡ a.counts (range_of rec) + 1
  pub others : (t p : ℕ) → t ≢ range_of rec * l.tails + n → 0 < p → b.cells t p ≡ a.cells t p
  pub stored : (t : ℕ) → t ≢ range_of rec * l.tails + n → eqb (b.cells t 0) 0 ≡ eqb (a.cells t 0) 0
  pub writers : (t : ℕ) → t ≢ range_of rec * l.tails + n → writer_at b t ≡ writer_at a t
  pub here : 0 < b.cells (range_of rec * l.tails + n) 0
  pub by : writer_at b (range_of rec * l.tails + n) ≡ x
  pub on : record_in l b.cells (range_of rec * l.tails + n) ≡ rec
  pub made : act_in l b.cells (range_of rec * l.tails + n) ≡ act

-- ---- pins and pages

-- the session has the same epoch pinned, or none
abbrev pub SamePin : Known → Known → Type 0
SamePin u k = k.pages.session.pin ≡ u.pages.session.pin

-- each session below n
abbrev pub SamePinEach : ℕ → (ℕ → Known) → (ℕ → Known) → Type 0
SamePinEach n u k = (t : ℕ) → t < n → SamePin (u t) (k t)

-- but s, where there is one
abbrev pub SamePinBut : ℕ → ℕ → (ℕ → Known) → (ℕ → Known) → Type 0
SamePinBut n s u k = (t : ℕ) → t < n → t ≢ s → SamePin (u t) (k t)

-- the merger knows the same TPS of each page, and the same epoch
pub record SameStock (l : Limits) (m o : MergerFrames) : Type 0 where
  pub tps : (r c : ℕ) → IsPage l r c → tps_known o r c ≡ tps_known m r c
  pub epoch : o.epoch ≡ m.epoch

-- a page was swapped: it has this TPS now, the other pages have theirs, and the epoch is one higher
pub record HasSwapped (l : Limits) (m o : MergerFrames) (range column tps : ℕ) : Type 0 where
  pub here : tps_known o range column ≡ tps
  pub others : (r c : ℕ) → IsPage l r c → (r ≡ range → c ≢ column) → tps_known o r c ≡ tps_known m r c
  pub epoch : o.epoch ≡ m.epoch + 1

-- the call is one that begins or ends a transaction
abbrev pub begins_or_ends : Call → Bool
begins_or_ends Begin = true
begins_or_ends (AsOf time) = true
begins_or_ends Commit = true
begins_or_ends Abort = true
begins_or_ends call = false
