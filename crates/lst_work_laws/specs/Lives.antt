-- What the lines of a run leave of what one session knows: its lists, and what it finds.
use Rattle.std.specs.Prelude.{◌≡◌, ◌≢◌, ◌⊎◌, ℕ, ◌+◌, ◌≤◌, List, [], ◌∷◌, ◌++◌, true, false, not, ◌&&◌, cond, Option, Some, IfSome, IsSomeAnd, length}
use Rattle.std.specs.List.{Contains}
use Rattle.lst_layout.specs.declared.limits.Limits.{Limits}
use Rattle.lst_model.specs.declared.acts.Write.{Write}
use Rattle.lst_model.specs.declared.lines.Line.{Line}
use Rattle.lst_model.specs.declared.lines.Line.TheVariants.{Phase, Merge, Call}
use Rattle.lst_model.specs.declared.lines.Call.{Call as CallKind}
use Rattle.lst_model.specs.declared.replies.Reply.{Reply}
use Rattle.lst_model.specs.declared.replies.Reply.TheVariants.{Done, Refused}
use Rattle.lst_model.specs.declared.replies.Cause.TheVariants.{TableFull, Latched, Unfinished, TailFull}
use Rattle.lst_model.specs.Histories.{Extends, all_acts_on}
use Rattle.lst_core_state.specs.declared.known.Known.{Known}
use Rattle.lst_core_state.specs.declared.facts.Find.{Find}
use Rattle.lst_core_state.specs.declared.facts.Find.TheVariants.{UnfinishedVersion, LatchedRecord, FullRecords, FullTails}
use Rattle.lst_core_state.specs.Cells.{range_of}
use Rattle.lst_core_state.specs.State.{mine}
use Rattle.lst_rule.specs.Copies.{Includes}
use Rattle.lst_rule.specs.Seen.{HasKey}
use Rattle.lst_replies.specs.Runs.{Answered, commit_time, write_of, key_of, is_insert_call, takes_no_record, takes_no_latch}
use Rattle.lst_replies.specs.States.{after_call, time_told}
use Rattle.lst_work_laws.specs.Lines.{session_told, Tells}
use Rattle.lst_work_laws.specs.Laws.{commit_told}

-- nothing that was found is forgotten
abbrev pub KeepsFinds : List Find → List Find → Type 0
KeepsFinds new old = (f : Find) → Contains old f → Contains new f

-- ---- what a line leaves that isn't the session's

-- the session s may have learnt facts, and seen more; its state, its commits and its lists are the same
pub record Stays (s : ℕ) (u k : Known) : Type 0 where
  pub facts : Includes k.facts u.facts
  pub finds : KeepsFinds k.finds u.finds
  pub seen : Extends k.seen u.seen
  pub state : session_told k ≡ session_told u
  pub mine : mine s k ≡ mine s u
  pub drawn : k.placing.drawn ≡ u.placing.drawn
  pub latched : k.latched ≡ u.latched
  pub done : k.done ≡ u.done

-- ---- what a line of its own leaves

-- the key's record is the last one latched
pub record Latches (u k : Known) (key : ℕ) : Type 0 where
  pub rec : ℕ
  pub placed : HasKey k.facts rec key
  pub latched : k.latched ≡ u.latched ++ rec ∷ []

-- no record was latched, or the key's was
abbrev pub MayLatch : Known → Known → Option ℕ → Reply → Type 0
MayLatch u k key reply = (k.latched ≡ u.latched) ⊎ ((takes_no_latch reply ≡ false) × IsSomeAnd key (Latches u k))

-- a write on the key's record, by the open transaction
pub record Writes (u k : Known) (key : ℕ) : Type 0 where
  pub opened : u.is_open ≡ true
  pub rec : ℕ
  pub tail : ℕ
  pub placed : HasKey k.facts rec key
  pub done : k.done ≡ u.done ++ record { number = u.number; rec = rec; tail = tail } ∷ []

-- exactly where a write is accepted
abbrev pub MayWrite : Known → Known → Option Write → Reply → Type 0
MayWrite u k (Some write) Done = Writes u k write.key
MayWrite u k write reply = k.done ≡ u.done

-- the key's record was found latched
pub record FindsHeld (k : Known) (key : ℕ) : Type 0 where
  pub rec : ℕ
  pub placed : HasKey k.facts rec key
  pub found : Contains k.finds (LatchedRecord rec)

-- on the key's record an unfinished version was found, by the transaction n of another session j
pub record FindsOpen (s : ℕ) (u k : Known) (key j n : ℕ) : Type 0 where
  pub other : j ≢ s
  pub rec : ℕ
  pub tail : ℕ
  pub placed : HasKey k.facts rec key
  pub found : Contains k.finds (UnfinishedVersion (rec + 1) tail j n (u.begin + 1))

-- every record was found drawn, for a key that had none
pub record FindsNoRecord (u k : Known) (key : ℕ) : Type 0 where
  pub found : Contains k.finds FullRecords
  pub unplaced : (rec : ℕ) → ¬ HasKey u.facts rec key
  pub unseen : all_acts_on key k.seen ≡ []
  pub begun : u.is_open ≡ true → u.begin ≤ length k.seen

-- every tail of the range of the key's record was found drawn
pub record FindsNoTail (k : Known) (key : ℕ) : Type 0 where
  pub rec : ℕ
  pub placed : HasKey k.facts rec key
  pub found : Contains k.finds (FullTails (range_of rec))

-- what stands behind a refusal of a write on the key
abbrev pub Finds : ℕ → Known → Known → ℕ → Reply → Type 0
Finds s u k key (Refused Latched) = FindsHeld k key
Finds s u k key (Refused (Unfinished j n)) = FindsOpen s u k key j n
Finds s u k key (Refused TableFull) = FindsNoRecord u k key
Finds s u k key (Refused TailFull) = FindsNoTail k key
Finds s u k key reply = Unit {0}

-- The session s, which knew u, has answered the call, and knows k. What the reply tells is so under what it has seen at the line, for each floor that
-- it had seen before; and so is each time that is told.
pub record Answers (limits : Limits) (s : ℕ) (call : CallKind) (reply : Reply) (u k : Known) : Type 0 where
  pub facts : Includes k.facts u.facts
  pub finds : KeepsFinds k.finds u.finds
  pub seen : Extends k.seen u.seen
  pub tells : (floor : ℕ) → floor ≤ length u.seen → Tells limits k.seen floor (session_told u) call reply
  pub told : IfSome (time_told reply) (λ time. time ≤ length k.seen)
  pub state : session_told k ≡ after_call call reply (session_told u)
  pub mine : mine s k ≡ mine s u ++ commit_told s (commit_time reply) (session_told u).current
  pub drawn : length k.placing.drawn ≤ length u.placing.drawn + cond (is_insert_call call && not (takes_no_record reply)) 1 0
  pub latched : MayLatch u k (key_of (write_of call)) reply
  pub writes : MayWrite u k (write_of call) reply
  pub found : IfSome (key_of (write_of call)) (λ key. Finds s u k key reply)

-- ---- runs

-- what any line of a run leaves of what the session s knows
abbrev pub Passes : Limits → ℕ → Line → Reply → Known → Known → Type 0
Passes limits s Phase reply u k = Stays s u k
Passes limits s (Merge range column) reply u k = Stays s u k
Passes limits s (Call t call) reply u k = ((t ≢ s) × Stays s u k) ⊎ ((t ≡ s) × Answers limits s call reply u k)

-- the session s, which knew u, has come through the run, and knows k
abbrev pub Lives : Limits → ℕ → List Answered → Known → Known → Type 0
Lives limits s [] u k = Stays s u k
Lives limits s (one ∷ run) u k = (a : Known) × Passes limits s one.line one.reply u a × Lives limits s run a k
