-- What leaves pages alone: the steps of the core, and hearing of the history.
use Rattle.std.proofs.Common.{◌≡◌, ℕ, ◌%◌, ◌<◌, ◌≤◌, [], Bool, true, false, cond, eqb, nat_lt, refl, sym, subst, arith, append-nil}
use Rattle.std.specs.List.{Contains}
use Rattle.lst_layout.specs.declared.limits.Limits.{Limits}
use Rattle.lst_layout.specs.declared.place.Place.{Place}
use Rattle.lst_layout.specs.declared.place.Place.TheVariants.{ClockWord, CommitWord, EpochWord, RecordCounter, LogWord, BeginWord, StateWord, KeyWord, IndexWord, HeadWord, TailCounter, CellWord, DirectoryWord, FrameWord, PinWord, PostingWord}
use Rattle.lst_layout.specs.Addresses.{place_of}
use Rattle.lst_layout.specs.Functions.{put}
use Rattle.lst_layout.specs.Words.{Words}
use Rattle.lst_layout.proofs.Functions.{each_put}
use Rattle.lst_core_state.specs.declared.events.Event.{Event}
use Rattle.lst_core_state.specs.declared.events.Event.TheVariants.{Look, Begin, Take, Log, State, Clock, Give, Close, DrawRecord, StoreKey, Claim, Latch, DrawTail, StoreCell, Install, Release, Stamp, Post}
use Rattle.lst_core_state.specs.declared.known.Known.{Known}
use Rattle.lst_core_state.specs.declared.pages.PageKnown.{PageKnown}
use Rattle.lst_core_state.specs.Cells.{record_count}
use Rattle.lst_core_state.specs.State.{Core}
use Rattle.lst_core_state.specs.Step.{session_of, words_after, known_after, look_at, gives_up, given_up, took, held_off, record_drawn, records_full, claimed, claim_lost, posted, post_lost, latched, latch_lost, tail_drawn, tails_full, cell_started, word_stored, after_own, after_merger, after}
use Rattle.lst_core_state.specs.Laws.{heard}
use Rattle.lst_pages.specs.Lists.{GoesOn}
use Rattle.lst_pages.specs.Sound.{Sound}
use Rattle.lst_pages.specs.Runs.{SamePages}
use Rattle.lst_pages.specs.Settled.{settled_tails}
use Rattle.lst_pages.specs.Known.{pages_in}
use Rattle.lst_pages.specs.StateLaws.{PagesAreLeft, StepsLeavePages, HearingLeavesPages}
use Rattle.lst_pages.proofs.Growing.{tails_grow}
use Rattle.lst_pages.proofs.Keeps.{tails_keep}
use Rattle.lst_pages.proofs.Safety.{others_free}

-- ---- pages stay sound

pub pages_are_left : PagesAreLeft
pages_are_left c d left sound = record {
  pages = subst Sound (sym same) (others_free (record (pages_in c) { tails = settled_tails c.limits d.words }) (tails_keep (pages_in c) sound.pages (settled_tails c.limits d.words) left.tails) d.words left.words);
  pins = λ s low some. count s (sound.pins s (at low) (subst (λ (k : PageKnown). 0 < k.session.pin) (left.known s) some));
  held = λ s has. let h = sound.held s (subst (λ (k : PageKnown). Contains k.stock.held s) left.merger has) in record {
    session = subst (λ (l : Limits). s < l.sessions) (sym left.limits) h.session;
    pinned = count s h.pinned;
    swaps = let e = left.words.epoch in let low = h.swaps in subst (λ (l : Limits). l.spare ≤ d.words.epoch) (sym left.limits) (omega arith);
  };
}
  where
    same : pages_in d ≡ record (pages_in c) { tails = settled_tails c.limits d.words; words = d.words }
    same = λ i. record { limits = left.limits i; words = d.words; tails = settled_tails (left.limits i) d.words; readers = λ s. (left.known s i).session; merger = (left.merger i).stock }

    at : {s : ℕ} → s < d.limits.sessions → s < c.limits.sessions
    at {s} low = subst (λ (l : Limits). s < l.sessions) left.limits low

    count : (s : ℕ) → 0 < (c.known s).pages.pins → 0 < (d.known s).pages.pins
    count s some = subst (λ (k : PageKnown). 0 < k.pins) (sym (left.known s)) some

-- ---- a step of the core

one_of : (b : Bool) (u v : Known) (k : PageKnown) → u.pages ≡ k → v.pages ≡ k → (cond b u v).pages ≡ k
one_of true u v k e f = e
one_of false u v k e f = f

looks : (l : Limits) (w : Words) (v : Known) (p : Place) → (look_at l w v p).pages ≡ v.pages
looks l w v ClockWord = refl
looks l w v CommitWord = refl
looks l w v EpochWord = refl
looks l w v RecordCounter = refl
looks l w v (LogWord t) = refl
looks l w v (BeginWord s n) = refl
looks l w v (StateWord s n) = refl
looks l w v (KeyWord r) = one_of (gives_up v r (w.keys r)) (given_up v) v v.pages refl refl
looks l w v (IndexWord q) = refl
looks l w v (HeadWord r) = refl
looks l w v (TailCounter range) = refl
looks l w v (CellWord t p) = refl
looks l w v (DirectoryWord r c) = refl
looks l w v (FrameWord f n) = refl
looks l w v (PinWord s) = refl
looks l w v (PostingWord c q) = refl

learns : (l : Limits) (w : Words) (v : Known) (e : Event) → (known_after l w v e).pages ≡ v.pages
learns l w v (Look s a) = looks l w v (place_of l a)
learns l w v (Begin s b r) = refl
learns l w v (Take s) = one_of (eqb w.turn 0) (took v) (held_off v) v.pages refl refl
learns l w v (Log s) = refl
learns l w v (State s) = refl
learns l w v (Clock s) = refl
learns l w v (Give s) = refl
learns l w v (Close s) = refl
learns l w v (DrawRecord s) = one_of (nat_lt w.counter (record_count l)) (record_drawn w v) (records_full w v) v.pages refl refl
learns l w v (StoreKey s k) = refl
learns l w v (Claim s q) = one_of (eqb (w.index q) 0) (claimed v q) (claim_lost w v q) v.pages refl refl
learns l w v (Latch s r) = one_of (eqb (w.heads r % 2) 0) (latched l w v r) (latch_lost l w v r) v.pages refl refl
learns l w v (DrawTail s range) = one_of (nat_lt (w.counts range) l.tails) (tail_drawn l w v range) (tails_full w v range) v.pages refl refl
learns l w v (StoreCell s p x) = one_of (eqb p 0) (cell_started l w v p x) (word_stored v p x) v.pages refl refl
learns l w v (Install s) = refl
learns l w v (Release s) = refl
learns l w v (Stamp s range n) = refl
learns l w v (Post s c q) = one_of (eqb (w.postings c q) 0) (posted v c q) (post_lost w v c q) v.pages refl refl

nothing : (w : Words) → SamePages w w
nothing w = record { epoch = refl; directory = refl; frames = refl; pins = refl }

stores : (l : Limits) (w : Words) (v : Known) (e : Event) → SamePages (words_after l w v e) w
stores l w v (Look s a) = nothing w
stores l w v (Begin s b r) = record { epoch = refl; directory = refl; frames = refl; pins = refl }
stores l w v (Take s) = record { epoch = refl; directory = refl; frames = refl; pins = refl }
stores l w v (Log s) = record { epoch = refl; directory = refl; frames = refl; pins = refl }
stores l w v (State s) = record { epoch = refl; directory = refl; frames = refl; pins = refl }
stores l w v (Clock s) = record { epoch = refl; directory = refl; frames = refl; pins = refl }
stores l w v (Give s) = record { epoch = refl; directory = refl; frames = refl; pins = refl }
stores l w v (Close s) = record { epoch = refl; directory = refl; frames = refl; pins = refl }
stores l w v (DrawRecord s) = record { epoch = refl; directory = refl; frames = refl; pins = refl }
stores l w v (StoreKey s k) = record { epoch = refl; directory = refl; frames = refl; pins = refl }
stores l w v (Claim s q) = record { epoch = refl; directory = refl; frames = refl; pins = refl }
stores l w v (Latch s r) = record { epoch = refl; directory = refl; frames = refl; pins = refl }
stores l w v (DrawTail s range) = record { epoch = refl; directory = refl; frames = refl; pins = refl }
stores l w v (StoreCell s p x) = record { epoch = refl; directory = refl; frames = refl; pins = refl }
stores l w v (Install s) = record { epoch = refl; directory = refl; frames = refl; pins = refl }
stores l w v (Release s) = record { epoch = refl; directory = refl; frames = refl; pins = refl }
stores l w v (Stamp s range n) = record { epoch = refl; directory = refl; frames = refl; pins = refl }
stores l w v (Post s c q) = record { epoch = refl; directory = refl; frames = refl; pins = refl }

-- a session alone learns something that isn't of pages
pub learns_else : (c : Core) (s : ℕ) (u : Known) → u.pages ≡ (c.known s).pages → (j : ℕ) → (put c.known s u j).pages ≡ (c.known j).pages
learns_else c s u same = each_put (λ (j : ℕ) (k : Known). k.pages ≡ (c.known j).pages) c.known s u same (λ j other. refl)

either_step : (P : Core → Type 0) (c : Core) (e : Event) → P (after_merger c e) → P (after_own c e) → P (after c e)
either_step P c e merger own = choose (eqb (session_of e) c.limits.sessions)
  where
    choose : (b : Bool) → P (cond b (after_merger c e) (after_own c e))
    choose true = merger
    choose false = own

pub steps_leave_pages : StepsLeavePages
steps_leave_pages c sound e within able = record {
  limits = either_step (λ (d : Core). d.limits ≡ c.limits) c e refl refl;
  words = either_step (λ (d : Core). SamePages d.words c.words) c e (nothing c.words) (stores c.limits c.words (c.known (session_of e)) e);
  tails = tails_grow c sound e within able;
  known = either_step (λ (d : Core). (s : ℕ) → (d.known s).pages ≡ (c.known s).pages) c e (λ s. refl)
      (learns_else c (session_of e) (known_after c.limits c.words (c.known (session_of e)) e) (learns c.limits c.words (c.known (session_of e)) e));
  merger = either_step (λ (d : Core). d.merger.pages ≡ c.merger.pages) c e (learns c.limits c.words c.merger e) refl;
}

stay : (c : Core) (range : ℕ) → GoesOn (settled_tails c.limits c.words range) (settled_tails c.limits c.words range)
stay c range = ([], sym (append-nil (settled_tails c.limits c.words range)))

pub hearing_leaves_pages : HearingLeavesPages
hearing_leaves_pages c s seen more = (
  record { limits = refl; words = nothing c.words; tails = stay c; known = learns_else c s (heard (c.known s) seen more) refl; merger = refl },
  record { limits = refl; words = nothing c.words; tails = stay c; known = λ j. refl; merger = refl },
)
