-- The store part of the engine as lists, and when it answers a call as the machine does.
use Rattle.std.specs.Prelude.{◌≡◌, ℕ}
use Rattle.lst_layout.specs.declared.limits.Limits.{Limits}
use Rattle.lst_model.specs.declared.lines.Call.{Call}
use Rattle.lst_model.specs.declared.acts.Act.{Act}
use Rattle.lst_model.specs.declared.replies.Reply.{Reply}
use Rattle.lst_model.specs.declared.replies.Reply.TheVariants.{Done}
use Rattle.lst_machine.specs.State.{Store}
use Rattle.lst_machine.specs.Calls.{call_reply, store_after, in_open, refused_or, change_refusal, after_change}
use Rattle.lst_plain.specs.declared.engine.Engine.{Engine}
use Rattle.lst_plain.specs.Engines.{EngineState}
use Rattle.lst_plain.specs.Telling.{StoreTells}

abbrev pub engine_of : Engine → EngineState
engine_of engine = record { limits = engine.limits; clock = engine.clock; sessions = engine.sessions.items; records = engine.records; accepted = engine.accepted.items }

-- the reply to a session's call is the machine's, and the engine then tells the store part of the machine's next state, whichever
-- state it told
abbrev pub AnswersCall : Engine → Engine → ℕ → Call → Reply → Type 0
AnswersCall before after session call answer = (limits : Limits) (store : Store) → StoreTells (engine_of before) limits store
    → (answer ≡ call_reply limits store session call) × StoreTells (engine_of after) limits (store_after limits store session call)

-- the same of an update or a delete, by its act
abbrev pub AnswersChange : Engine → Engine → ℕ → ℕ → Act → Reply → Type 0
AnswersChange before after session key act answer = (limits : Limits) (store : Store) → StoreTells (engine_of before) limits store
    → (answer ≡ in_open (store.opened session) (λ transaction. refused_or (change_refusal limits store session transaction key) Done)) × StoreTells (engine_of after) limits (after_change limits store session (store.opened session) key act)
