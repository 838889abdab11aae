-- A pin that is set or taken away leaves the crew, and the state that it tells.
use Rattle.std.proofs.Common.{◌≡◌, ◌≢◌, ℕ, ◌+◌, ◌<◌, false, refl, sym, subst, ap, ◌∙◌, slice_set}
use Rattle.lst_layout.specs.declared.limits.Limits.{Limits}
use Rattle.lst_layout.specs.declared.place.Place.TheVariants.{PinWord}
use Rattle.lst_layout.specs.Addresses.{address}
use Rattle.lst_layout.specs.Words.{Words, with_word}
use Rattle.lst_model.specs.declared.lines.Call.{Call}
use Rattle.lst_model.specs.declared.replies.Reply.{Reply}
use Rattle.lst_machine.specs.Calls.{call_reply, store_after}
use Rattle.lst_core_state.specs.declared.known.Known.{Known}
use Rattle.lst_rule.specs.declared.view.View.{View}
use Rattle.lst_rule.specs.declared.actions.Action.TheVariants.{Page}
use Rattle.lst_rule.specs.Rule.{knows}
use Rattle.lst_rule.specs.Learned.{Possible, Learns}
use Rattle.lst_rule.specs.PageSteps.{pinned_at, unpinned}
use Rattle.lst_rule.proofs.Learning.{possible_after}
use Rattle.lst_pages.specs.declared.events.PageEvent.TheVariants as steps
use Rattle.lst_retire.specs.Pins.{epoch_loaded, Pins, Unpins}
use Rattle.lst_refinement.specs.Crews.{IsIdle}
use Rattle.lst_refinement.specs.Effects.{SameTransactions, TellAlike}
use Rattle.lst_refinement.proofs.Openings.{transactions_are_told}
use Rattle.lst_refinement.proofs.Others.{other_areas_tell_nothing}
use Rattle.lst_session.specs.Crews.{words_of, store_told}
use Rattle.lst_session.proofs.Crewed.{IsCrewView, StoreAnswers, allowed_whole, set_words, crew_after, told_on, transactions_on}

-- ---- a session that may begin, after it learnt something

module _ (v w : View) (s : ℕ) (k : Known) (learns : Learns v w s k) where
  pub learnt_low : s < v.limits.sessions → s < w.limits.sessions
  learnt_low low = subst (λ (l : Limits). s < l.sessions) (sym learns.limits) low

  pub learnt_closed : k.is_open ≡ (knows v s).is_open → (knows v s).is_open ≡ false → (knows w s).is_open ≡ false
  learnt_closed same closed = ap (λ (u : Known). u.is_open) learns.now ∙ (same ∙ closed)

  pub learnt_more : k.number ≡ (knows v s).number → (knows v s).number ≢ v.limits.txns → (knows w s).number ≢ w.limits.txns
  learnt_more same more e = more (sym (ap (λ (u : Known). u.number) learns.now ∙ same) ∙ (e ∙ ap (λ (l : Limits). l.txns) learns.limits))

-- ---- the session's pin word was stored

pin_alike : (a b : Words) (s x : ℕ) → b ≡ with_word a (PinWord s) x → TellAlike a b
pin_alike a b s x e = record {
  clock = ap (λ (w : Words). w.clock) e;
  counter = ap (λ (w : Words). w.counter) e;
  log = ap (λ (w : Words). w.log) e;
  begins = ap (λ (w : Words). w.begins) e;
  states = ap (λ (w : Words). w.states) e;
  keys = ap (λ (w : Words). w.keys) e;
  counts = ap (λ (w : Words). w.counts) e;
  cells = ap (λ (w : Words). w.cells) e;
}

module _ (v w : View) (s x : ℕ) (k : Known) (crew : IsCrewView v) (p : Possible v) (low : s < v.limits.sessions) (learns : Learns v w s k) (is : w.words ≡ slice_set v.words (address v.limits (PinWord s)) x) (same : SameTransactions (knows v s) k) (idle : IsIdle k) where
  words : words_of w ≡ with_word (words_of v) (PinWord s) x
  words = set_words v w (PinWord s) x (allowed_whole v crew p).wide low learns.limits is

  word_crew : IsCrewView w
  word_crew = crew_after v w s k learns crew idle record { counter = ap (λ (w : Words). w.counter) words; index = ap (λ (w : Words). w.index) words; counts = ap (λ (w : Words). w.counts) words }

  word_told : store_told w ≡ store_told v
  word_told = told_on v w s k learns (words_of w) refl ∙ (other_areas_tell_nothing v.limits (words_of v) (words_of w) (knows w) (pin_alike (words_of v) (words_of w) s x words)
      ∙ transactions_are_told v.limits (words_of v) (knows v) (knows w) (λ t few. transactions_on v w s k learns same t))

-- ---- set

module _ (v u : View) (s : ℕ) (crew : IsCrewView v) (low : s < v.limits.sessions) (pins : Pins v u s) where
  before : Possible v
  before = let t = pins.load.met.made.told in record { words = t.words; known = t.known; merger = t.merger; allowed = t.allowed }

  abbrev pinned : Known
  pinned = pinned_at v.limits (epoch_loaded (knows v s) pins.epoch) pins.epoch

  pinned_idle : IsIdle (pinned_at v.limits (epoch_loaded (knows v s) pins.epoch) pins.epoch)
  pinned_idle = let i = crew.idle s low in record { rec = i.rec; hold = i.hold; turn = i.turn }

  pub pinned_crew : IsCrewView u
  pinned_crew = word_crew v u s (pins.epoch + 1) pinned crew before low pins.view (pins.words crew.whole) record { number = refl; begin = refl; read_only = refl; is_open = refl } pinned_idle

  pub pinned_told : store_told u ≡ store_told v
  pinned_told = word_told v u s (pins.epoch + 1) pinned crew before low pins.view (pins.words crew.whole) record { number = refl; begin = refl; read_only = refl; is_open = refl } pinned_idle

pub pinned_possible : (v u : View) (s : ℕ) → Pins v u s → Possible u
pinned_possible v u s pins = possible_after pins.between u (Page (steps.Pin s pins.epoch)) (address pins.between.limits (PinWord s)) (pins.epoch + 1) pins.made.told

-- ---- taken away

module _ (v w : View) (s : ℕ) (crew : IsCrewView v) (low : s < v.limits.sessions) (unpins : Unpins v w s) where
  known_before : Possible v
  known_before = let t = unpins.made.told in record { words = t.words; known = t.known; merger = t.merger; allowed = t.allowed }

  unpinned_idle : IsIdle (unpinned v.limits (knows v s))
  unpinned_idle = let i = crew.idle s low in record { rec = i.rec; hold = i.hold; turn = i.turn }

  pub unpinned_crew : IsCrewView w
  unpinned_crew = word_crew v w s 0 (unpinned v.limits (knows v s)) crew known_before low unpins.view unpins.words record { number = refl; begin = refl; read_only = refl; is_open = refl } unpinned_idle

  pub unpinned_told : store_told w ≡ store_told v
  unpinned_told = word_told v w s 0 (unpinned v.limits (knows v s)) crew known_before low unpins.view unpins.words record { number = refl; begin = refl; read_only = refl; is_open = refl } unpinned_idle

-- ---- answers where the state is told before, or after

module _ (v u w : View) (s : ℕ) (call : Call) (answer : Reply) where
  pub answers_from : u.limits ≡ v.limits → store_told u ≡ store_told v → StoreAnswers u w s call answer → StoreAnswers v w s call answer
  answers_from same told a = record {
    reply = a.reply ∙ (λ i. call_reply (same i) (told i) s call);
    next = a.next ∙ (λ i. store_after (same i) (told i) s call);
    limits = a.limits ∙ same;
  }

  pub answers_to : w.limits ≡ u.limits → store_told w ≡ store_told u → StoreAnswers v u s call answer → StoreAnswers v w s call answer
  answers_to same told a = record { reply = a.reply; next = told ∙ a.next; limits = same ∙ a.limits }
