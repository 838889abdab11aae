-- The core stays sound whatever happens to words of pages and to what is known of them.
use Rattle.std.proofs.Common.{◌≡◌, ℕ, ◌≤◌, List, refl, sym, subst, arith}
use Rattle.lst_layout.specs.declared.limits.Limits.{Limits}
use Rattle.lst_core_state.specs.declared.facts.Fact.{Fact}
use Rattle.lst_core_state.specs.declared.facts.Fact.TheVariants.{IndexAt, StateAt, CellIs, ChainEnds, CommitAt, RecordsAtLeast, TailsAtLeast, EpochAtLeast, PostAt}
use Rattle.lst_core_state.specs.declared.facts.Find.{Find}
use Rattle.lst_core_state.specs.declared.facts.Find.TheVariants.{LatchedRecord, FreshClock, FreshEpoch, UnfinishedVersion, HeldTurn, FullRecords, FullTails, CountedTails, EmptyStart, TailLoad}
use Rattle.lst_core_state.specs.declared.known.Known.{Known}
use Rattle.lst_core_state.specs.declared.known.Looks.{Looks}
use Rattle.lst_core_state.specs.declared.pages.PageKnown.{PageKnown}
use Rattle.lst_core_state.specs.State.{Words, Core}
use Rattle.lst_core_state.specs.Facts.{IsFact, IsFind}
use Rattle.lst_core_state.specs.Sound.{StoredOf, Found, Sound}
use Rattle.lst_pages.specs.Settled.{settled_tails}
use Rattle.lst_pages.specs.StateLaws.{IsAsSound, WordsAreFree}

-- settled tails read no word of pages
pub tails_alike : (l : Limits) (w : Words) (e : ℕ) (d f : ℕ → ℕ → ℕ) (p : ℕ → ℕ) (range : ℕ) → settled_tails l (record w { epoch = e; directory = d; frames = f; pins = p }) range ≡ settled_tails l w range
unfolding settled_tails
tails_alike l w e d f p range = refl

module _ (c : Core) (K : ℕ → PageKnown) (k : PageKnown) (e : ℕ) (d f : ℕ → ℕ → ℕ) (p : ℕ → ℕ) (more : c.words.epoch ≤ e) where
  -- with other pages
  abbrev c' : Core
  c' = record {
    limits = c.limits;
    words = record c.words { epoch = e; directory = d; frames = f; pins = p };
    known = λ j. let u : Known = record (c.known j) { pages = K j } in u;
    merger = record c.merger { pages = k };
  }

  abbrev L : Limits
  L = c.limits

  fact : (g : Fact) → IsFact L c.words g → IsFact L c'.words g
  fact (IndexAt r q x) h = h
  fact (StateAt s n x) h = h
  fact (CellIs t x y b vs) h = h
  fact (ChainEnds r ts) h = h
  fact (CommitAt t s n) h = h
  fact (RecordsAtLeast n) h = h
  fact (TailsAtLeast range n) h = h
  fact (EpochAtLeast n) h = omega (arith, h, more)
  fact (PostAt a b t) h = h

  find : (s : ℕ) (g : Find) → IsFind L c.words.counter c.words.counts c.words.clock c.words.log c.known s g → IsFind L c.words.counter c.words.counts c.words.clock c.words.log c'.known s g
  find s (LatchedRecord r) h = h
  find s (FreshClock n) h = h
  find s (FreshEpoch n) h = h
  find s (UnfinishedVersion a t j n b) h = h
  find s HeldTurn h = h
  find s FullRecords h = h
  find s (FullTails range) h = h
  find s (CountedTails range n) h = h
  find s (EmptyStart t) h = h
  find s (TailLoad t) h = h

  found : (s : ℕ) (finds : List Find) (x : Looks) → Found L c.words.counter c.words.counts c.words.clock c.words.log c.words.states c.known s finds x → Found L c.words.counter c.words.counts c.words.clock c.words.log c.words.states c'.known s finds x
  found s finds x h = record { each = λ g has. find s g (h.each g has); last = let l = h.last in record { session = l.session; state = l.state; start = l.start } }

  stored : (t : ℕ) → StoredOf L c.words c.known t → StoredOf L c'.words c'.known t
  stored t s = record { begun = s.begun; stamped = s.stamped; few = s.few; drawn = s.drawn; low = s.low; index = s.index; place = s.place }

  as_sound : Sound c → Sound c'
  as_sound sound = record {
    sized = sound.sized;
    times = sound.times;
    each = sound.each;
    views = sound.views;
    index = sound.index;
    versions = let v = sound.versions in record {
      zero_blank = v.zero_blank;
      lines = v.lines;
      stored = λ t h. stored t (v.stored t h);
      hands = v.hands;
      tails_apart = v.tails_apart;
      latches_apart = v.latches_apart;
      held = v.held;
      keys_apart = v.keys_apart;
      unplaced = v.unplaced;
    };
    owned = sound.owned;
    fit = sound.fit;
    tail_words = let v = sound.tail_words in record { drafts = v.drafts; images = v.images; undrawn = v.undrawn };
    counted = sound.counted;
    counters = sound.counters;
    postings = sound.postings;
    listed = let v = sound.listed in record { every = v.every; only = v.only; once = v.once; latched = v.latched; tails = v.tails };
    facts = λ s low g h. fact g (sound.facts s low g h);
    recorded = sound.recorded;
    found = λ s low. found s (c.known s).finds (c.known s).looks (sound.found s low);
    merger_facts = λ g h. fact g (sound.merger_facts g h);
    merger_seen = sound.merger_seen;
    merger_counters = sound.merger_counters;
    merger_recorded = sound.merger_recorded;
    merger_found = found L.sessions c.merger.finds c.merger.looks sound.merger_found;
    merger_idle = sound.merger_idle;
  }

  free : IsAsSound c c'
  free = record { sound = as_sound; history = refl; facts = fact; tails = tails_alike L c.words e d f p }

pub words_are_free : WordsAreFree
words_are_free c d differs = subst (IsAsSound c) (sym same) (free c (λ s. (d.known s).pages) d.merger.pages d.words.epoch d.words.directory d.words.frames d.words.pins differs.epoch)
  where
    same : d ≡ c' c (λ s. (d.known s).pages) d.merger.pages d.words.epoch d.words.directory d.words.frames d.words.pins differs.epoch
    same = λ i. record { limits = differs.limits i; words = differs.words i; known = λ s. differs.known s i; merger = differs.merger i }
