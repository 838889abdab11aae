-- The rule of the table: words and views show a sound state of the core and of pages; and what a step tells of it.
use Rattle.std.specs.Prelude.{◌≡◌, ℕ, ◌+◌, ◌%◌, ◌^◌, ◌≤◌, List, [], Bool, true, false, length, slice_index, slice_index_or, slice_set, replicate, ◌==◌, bit_or}
use mathlib.Core.Option.{some}
use lib.ListN.{get_elem?}
use prog.Atomic.{either}
use Rattle.atomic_table.specs.Table.{State, Me, Step}
use Rattle.lst_layout.specs.declared.limits.Limits.{Limits}
use Rattle.lst_layout.specs.Areas.{words_of}
use Rattle.lst_layout.specs.Words.{shown, opening_at}
use Rattle.lst_model.specs.Histories.{Extends}
use Rattle.lst_core_state.specs.declared.known.Known.{Known}
use Rattle.lst_core_state.specs.Cells.{listed}
use Rattle.lst_core_state.specs.State.{Core, newcomer, history_of}
use Rattle.lst_core_state.specs.Step.{known_of}
use Rattle.lst_core_state.specs.Sound.{FactsOf, SeenIsRecorded, Sound}
use Rattle.lst_core_state.specs.State.{state_over}
use Rattle.lst_pages.specs.Known.{PagesSound}
use Rattle.lst_rule.specs.declared.actions.Action.{Action}
use Rattle.lst_rule.specs.declared.view.View.{View}
use Rattle.lst_rule.specs.Actions.{actor, IsActionWithin, ActionEnabled, ActionStands, IsActionEnabled, words_after_action, known_after_action, after_action}

-- ---- what a seat knows

-- of a session that it hosts; the merger has the number of the sessions
abbrev pub knows : View → ℕ → Known
knows v s = slice_index_or v.known s (newcomer v.limits)

abbrev pub hosts : View → ℕ → Bool
hosts v s = slice_index_or v.hosts s false

-- the words of a store that opens
abbrev pub first_words : Limits → List ℕ
first_words l = listed (opening_at l) 0 (words_of l)

-- the first seat hosts every session and the merger
abbrev pub crew : Limits → View
crew l = record { limits = l; hosts = replicate (l.sessions + 1) true; known = replicate (l.sessions + 1) (newcomer l); note = []; note_facts = []; whole = true; words = first_words l }

-- ---- the rule

-- what the seat j knows is so: owner says which seat hosts each session
pub record Fits (words : List ℕ) (c : Core) (owner : ℕ → ℕ) (j : ℕ) (v : View) : Type 0 where
  pub limits : v.limits ≡ c.limits
  pub sized : length v.known ≡ c.limits.sessions + 1
  pub low : (s : ℕ) → hosts v s ≡ true → s ≤ c.limits.sessions
  pub owns : (s : ℕ) → hosts v s ≡ true → owner s ≡ j
  pub knew : (s : ℕ) → hosts v s ≡ true → knows v s ≡ known_of c s
  pub told : Extends (history_of c.limits c.words) v.note
  pub told_facts : FactsOf c.limits c.words v.note_facts
  pub told_keys : SeenIsRecorded v.note_facts v.note
  pub whole : v.whole ≡ true → v.words ≡ words
  pub all : v.whole ≡ true → (s : ℕ) → s ≤ c.limits.sessions → hosts v s ≡ true

pub record Ruled (l : Limits) (s : State (Unit {0}) View) : Type 0 where
  pub known : ℕ → Known
  pub merger : Known
  pub owner : ℕ → ℕ
  pub wide : length s.words ≡ words_of l
  pub sound : Sound (state_over l s.words known merger)
  pub pages : PagesSound (state_over l s.words known merger)
  pub each : (j : ℕ) (v : View) → get_elem? s.views j ≡ some v → Fits s.words (state_over l s.words known merger) owner j v

-- ---- a step

-- these words, and this knowledge of the sessions and the merger, are possible, as far as the view says
pub record Allowed (v : View) (words : List ℕ) (known : ℕ → Known) (merger : Known) : Type 0 where
  pub wide : length words ≡ words_of v.limits
  pub sound : Sound (state_over v.limits words known merger)
  pub pages : PagesSound (state_over v.limits words known merger)
  pub sized : length v.known ≡ v.limits.sessions + 1
  pub low : (s : ℕ) → hosts v s ≡ true → s ≤ v.limits.sessions
  pub knew : (s : ℕ) → hosts v s ≡ true → knows v s ≡ known_of (state_over v.limits words known merger) s
  pub told : Extends (history_of v.limits (shown v.limits words)) v.note
  pub told_facts : FactsOf v.limits (shown v.limits words) v.note_facts
  pub told_keys : SeenIsRecorded v.note_facts v.note
  pub whole : v.whole ≡ true → v.words ≡ words
  pub all : v.whole ≡ true → (s : ℕ) → s ≤ v.limits.sessions → hosts v s ≡ true

-- the words allow the action, which makes of them what f makes of the word i
abbrev pub Makes : View → Action → ℕ → (ℕ → ℕ) → List ℕ → Type 0
Makes v a i f words = let k : Known = knows v (actor v.limits a) in ActionEnabled v.limits k a × ActionStands v.limits (shown v.limits words) k a
    × (shown v.limits (slice_set words i (f (slice_index words i))) ≡ words_after_action v.limits (shown v.limits words) k a)

-- wherever the store is, the seat may make the step a, which sets the word i to f of what it was
abbrev pub Ready : View → Action → ℕ → (ℕ → ℕ) → Type 0
Ready v a i f = (hosts v (actor v.limits a) ≡ true) × IsActionWithin v.limits a × ((words : List ℕ) (known : ℕ → Known) (merger : Known) → Allowed v words known merger → Makes v a i f words)

-- the view after a step that stored x in the word i
abbrev pub view_after : Action → ℕ → ℕ → List ℕ → View → View
view_after a i x words v = record v { known = slice_set v.known (actor v.limits a) (known_after_action v.limits (shown v.limits words) (knows v (actor v.limits a)) a); words = slice_set v.words i x }

-- the step a was made on some words, which set the word i to x
pub record Told (a : Action) (i x : ℕ) (v w : View) : Type 0 where
  pub words : List ℕ
  pub known : ℕ → Known
  pub merger : Known
  pub allowed : Allowed v words known merger
  pub within : IsActionWithin v.limits a
  pub enabled : IsActionEnabled (state_over v.limits words known merger) a
  pub shows : shown v.limits (slice_set words i x) ≡ words_after_action v.limits (shown v.limits words) (knows v (actor v.limits a)) a
  pub now : w ≡ view_after a i x words v
  pub after : Allowed w (slice_set words i x) (after_action (state_over v.limits words known merger) a).known (after_action (state_over v.limits words known merger) a).merger

-- ---- what each operation tells: of the step's word and operands, the seat before, the number found, and the seat after

abbrev pub Sat : Type 0
Sat = Me (Unit {0}) View

abbrev pub loaded : Action → Step (Unit {0}) → Sat → ℕ → Sat → Type 0
loaded a st m r n = (t : Told a st.word r m.0 n.0) × (slice_index t.words st.word ≡ r) × (n.1 ≡ m.1)

abbrev pub stored : Action → Step (Unit {0}) → Sat → ℕ → Sat → Type 0
stored a st m r n = (t : Told a st.word st.first m.0 n.0) × (n.1 ≡ m.1)

abbrev pub exchanged : Action → Step (Unit {0}) → Sat → ℕ → Sat → Type 0
exchanged a st m r n = (t : Told a st.word (either (r == st.first) st.second r) m.0 n.0) × (slice_index t.words st.word ≡ r) × (n.1 ≡ m.1)

abbrev pub added : Action → Step (Unit {0}) → Sat → ℕ → Sat → Type 0
added a st m r n = (t : Told a st.word ((r + st.first) % 2 ^ 64) m.0 n.0) × (slice_index t.words st.word ≡ r) × (n.1 ≡ m.1)

abbrev pub bits_set : Action → Step (Unit {0}) → Sat → ℕ → Sat → Type 0
bits_set a st m r n = (t : Told a st.word (bit_or r st.first) m.0 n.0) × (slice_index t.words st.word ≡ r) × (n.1 ≡ m.1)
