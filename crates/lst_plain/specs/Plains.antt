-- When the whole engine tells a state of the machine, and answers a line.
use Rattle.std.specs.Prelude.{◌≡◌}
use Rattle.lst_layout.specs.declared.limits.Limits.{Limits}
use Rattle.lst_model.specs.declared.lines.Line.{Line}
use Rattle.lst_model.specs.declared.replies.Reply.{Reply}
use Rattle.lst_machine.specs.State.{State}
use Rattle.lst_machine.specs.Machine.{reply, next}
use Rattle.lst_plain.specs.declared.plain.Plain.{Plain}
use Rattle.lst_plain.specs.Engines.{EngineState}
use Rattle.lst_plain.specs.Lineages.{LineageState}
use Rattle.lst_plain.specs.LineageOf.{lineage_of}
use Rattle.lst_plain.specs.Telling.{StoreTells}
use Rattle.lst_plain.specs.Pages.{PagesTell}
use Rattle.lst_plain.specs.EngineOf.{engine_of}

-- the limits of the engine's store
abbrev pub limits_of : Plain → Limits
limits_of plain = plain.engine.limits

-- the store part and the page part tell this state
pub record StateTells (engine : EngineState) (lineage : LineageState) (limits : Limits) (state : State) : Type 0 where
  pub store : StoreTells engine limits state.store
  pub pages : PagesTell lineage limits state

-- the engine tells this state of the machine
abbrev pub Tells : Plain → Limits → State → Type 0
Tells plain limits state = StateTells (engine_of plain.engine) (lineage_of plain.lineage) limits state

-- the reply to a line is the machine's, and the engine then tells the machine's next state, whichever state it told
abbrev pub AnswersLine : Plain → Plain → Line → Reply → Type 0
AnswersLine before after line answer = (limits : Limits) (state : State) → Tells before limits state → (answer ≡ reply limits state line) × Tells after limits (next limits state line)
