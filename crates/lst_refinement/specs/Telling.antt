-- The state of the machine of one thread that a store tells: its lists, read off the words, and what the merger and the pins say of its pages.
use Rattle.std.specs.Prelude.{ℕ, zero, suc, ◌+◌, ◌-◌, ◌*◌, ◌/◌, ◌%◌, List, [], ◌∷◌, ◌++◌, cond, eqb, nat_lt, ◌&&◌, Option, Some, None}
use Rattle.lst_layout.specs.declared.limits.Limits.{Limits}
use Rattle.lst_core_state.specs.Writes.{write}
use Rattle.lst_machine.specs.State.{Accepted, Opened, Store, Pages, State}
use Rattle.lst_core_state.specs.declared.known.Known.{Known}
use Rattle.lst_core_state.specs.declared.pages.MergerFrames.{MergerFrames}
use Rattle.lst_core_state.specs.Cells.{listed}
use Rattle.lst_core_state.specs.State.{Words, Core, writer_at, record_in, act_in, history_of}
use Rattle.lst_pages.specs.Runs.{tps_known}

-- the write of a tail, and its transaction
abbrev pub accepted_at : Limits → Words → ℕ → Accepted
accepted_at l w t = record { session = writer_at w t % 16; number = writer_at w t / 16; write = write (w.keys (record_in l w.cells t)) (act_in l w.cells t) }

-- those of the first n tails of a range
abbrev pub accepted_first : Limits → Words → ℕ → ℕ → List Accepted
accepted_first l w range zero = []
accepted_first l w range (suc n) = accepted_first l w range n ++ accepted_at l w (range * l.tails + suc n) ∷ []

-- the open transaction of a session
abbrev pub opened_of : Known → Option Opened
opened_of k = cond k.is_open (Some (record { begin = k.begin; read_only = k.read_only })) None

-- the commits; the keys of the records in the order of the draws; by range the writes in the order of the tails; by session how many
-- transactions it has begun and which is open; and the transactions whose state word says closed
abbrev pub told_store : Limits → Words → (ℕ → Known) → Store
told_store l w known = record {
  history = history_of l w;
  placed = listed w.keys 0 w.counter;
  accepted = λ range. accepted_first l w range (w.counts range);
  begins = λ s. cond (nat_lt s l.sessions) (known s).number 0;
  opened = λ s. cond (nat_lt s l.sessions) (opened_of (known s)) None;
  closed = λ s n. eqb (w.states s n) 1;
}

abbrev pub told : Core → Store
told c = told_store c.limits c.words c.known

-- the TPS of each page; the epoch, which is the number of swaps; and by session the epoch that it has pinned, which is the number of swaps when
-- its open transaction began. A pin is that epoch plus one, and 0 where there is none
abbrev pub told_pages : Limits → (ℕ → Known) → MergerFrames → Pages
told_pages l known m = record {
  tps = λ r c. cond (nat_lt r l.ranges && nat_lt c l.columns) (tps_known m r c) 0;
  swaps = m.epoch;
  swaps_at_begin = λ s. cond (nat_lt s l.sessions) ((known s).pages.session.pin - 1) 0;
}

abbrev pub pages_told : Core → Pages
pages_told c = told_pages c.limits c.known c.merger.pages.stock

-- both parts
abbrev pub told_state : Core → State
told_state c = record { store = told c; pages = pages_told c }
