-- The kinds of step by the operation that makes them.
use Rattle.lst_layout.specs.declared.place.Place.{Place}
use Rattle.lst_layout.specs.declared.place.Place.TheVariants.{ClockWord, RecordCounter, KeyWord, IndexWord, TailCounter}
use Rattle.lst_core_state.specs.declared.events.Event.{Event}
use Rattle.lst_core_state.specs.declared.events.Event.TheVariants.{Look, Take, DrawRecord, Claim, Latch, DrawTail, Post}
use Rattle.lst_pages.specs.declared.events.PageEvent.{PageEvent}
use Rattle.lst_pages.specs.declared.events.PageEvent.TheVariants.{LookPage, LookPin}

-- a store
abbrev pub IsStore : Event → Type 0
IsStore (Look s a) = ⊥
IsStore (Take s) = ⊥
IsStore (DrawRecord s) = ⊥
IsStore (Claim s q) = ⊥
IsStore (Latch s r) = ⊥
IsStore (DrawTail s range) = ⊥
IsStore (Post s c q) = ⊥
IsStore e = Unit {0}

-- an exchange of 0 for another number
abbrev pub IsExchange : Event → Type 0
IsExchange (Take s) = Unit {0}
IsExchange (Claim s q) = Unit {0}
IsExchange (Post s c q) = Unit {0}
IsExchange e = ⊥

-- an addition of 1
abbrev pub IsDraw : Event → Type 0
IsDraw (DrawRecord s) = Unit {0}
IsDraw (DrawTail s range) = Unit {0}
IsDraw e = ⊥

-- the lowest bit is set
abbrev pub IsLatch : Event → Type 0
IsLatch (Latch s r) = Unit {0}
IsLatch e = ⊥

-- a step on pages that stores a word
abbrev pub IsPageStore : PageEvent → Type 0
IsPageStore (LookPage s r c) = ⊥
IsPageStore (LookPin s) = ⊥
IsPageStore e = Unit {0}

-- and one that loads it
abbrev pub IsPageLoad : PageEvent → Type 0
IsPageLoad (LookPage s r c) = Unit {0}
IsPageLoad (LookPin s) = Unit {0}
IsPageLoad e = ⊥

-- a load of a word there changes no number of a session
abbrev pub IsQuiet : Place → Type 0
IsQuiet ClockWord = ⊥
IsQuiet RecordCounter = ⊥
IsQuiet (KeyWord r) = ⊥
IsQuiet (IndexWord q) = ⊥
IsQuiet (TailCounter range) = ⊥
IsQuiet p = Unit {0}
