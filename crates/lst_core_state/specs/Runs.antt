-- The opening state, and runs of events from it.
use Rattle.std.specs.Prelude.{◌≡◌, List, [], ◌∷◌}
use Rattle.lst_layout.specs.declared.limits.Limits.{Limits}
use Rattle.lst_layout.specs.Limits.{IsValid}
use Rattle.lst_layout.specs.Words as layout
use Rattle.lst_core_state.specs.declared.events.Event.{Event}
use Rattle.lst_core_state.specs.State.{Core, newcomer}
use Rattle.lst_core_state.specs.Step.{IsWithin, IsEnabled, after}
use Rattle.lst_core_state.specs.Sound.{Sound}

-- every word is 0, but that each page has a frame of its own; and nobody knows anything
abbrev pub opening : Limits → Core
opening l = record { limits = l; words = layout.opening l; known = λ _. newcomer l; merger = newcomer l }

-- the events are made one after the other, each where it is enabled
abbrev pub Runs : Core → List Event → Core → Type 0
Runs c [] d = c ≡ d
Runs c (e ∷ es) d = IsWithin c.limits e × IsEnabled c e × Runs (after c e) es d

-- every state that some list of events leads to, from the opening state of some store
abbrev pub EveryRunIsSound : Type 0
EveryRunIsSound = (l : Limits) → IsValid l → (events : List Event) (c : Core) → Runs (opening l) events c → Sound c
