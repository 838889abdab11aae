-- Each enabled step keeps all parts, and so does every list of them.
use Rattle.std.proofs.Common.{length, length-set, ◌∙◌, ◌≡◌, ◌≢◌, ℕ, ◌<◌, List, [], ◌∷◌, Bool, false, cond, refl, sym, subst, ap, arith, eq-eqb, ne_eqb, true≢false}
use mathlib.Core.Logic.{dite}
use native.Mathlib.Decide.{ℕ_discrete}
use Rattle.lst_layout.specs.declared.limits.Limits.{Limits}
use Rattle.lst_layout.specs.Areas.{words_of}
use Rattle.lst_model.specs.Histories.{Extends}
use Rattle.lst_core_state.specs.declared.known.Known.{Known}
use Rattle.lst_core_state.specs.declared.events.Event.{Event}
use Rattle.lst_core_state.specs.declared.events.Event.TheVariants.{Look, Begin, Take, Log, State, Clock, Give, Close, DrawRecord, StoreKey, Claim, Latch, DrawTail, StoreCell, Install, Release, Stamp, Post}
use Rattle.lst_layout.specs.declared.place.Place.{Place}
use Rattle.lst_layout.specs.declared.place.Place.TheVariants.{ClockWord, CommitWord, EpochWord, RecordCounter, LogWord, BeginWord, StateWord, KeyWord, IndexWord, HeadWord, TailCounter, CellWord, DirectoryWord, FrameWord, PinWord, PostingWord}
use Rattle.lst_core_state.specs.State.{Words, Core, history_of, counter_of}
use Rattle.lst_layout.specs.Addresses.{place_of}
use Rattle.lst_core_state.specs.Step.{session_of, IsWithin, Enabled, Stands, IsEnabled, words_after, known_of, after_own, after_merger, after, look_at, gives_up, given_up, served}
use Rattle.lst_core_state.specs.Sound.{Sound}
use Rattle.lst_core_state.specs.Runs.{Runs, EveryRunIsSound, opening}
use Rattle.lst_core_state.proofs.Functions.{either}
use Rattle.lst_core_state.proofs.Histories.{starts_trans, starts_whole}
use Rattle.lst_core_state.proofs.RunsKept.{times_keeps, each_keeps}
use Rattle.lst_core_state.proofs.ViewsKept.{views_keeps, grows}
use Rattle.lst_core_state.proofs.IndexPart.{index_keeps}
use Rattle.lst_core_state.proofs.VersionsPart.{versions_keeps}
use Rattle.lst_core_state.proofs.OwnedPart.{owned_keeps}
use Rattle.lst_core_state.proofs.FitPart.{fit_keeps}
use Rattle.lst_core_state.proofs.TailWordsPart.{tail_words_keeps}
use Rattle.lst_core_state.proofs.CountsPart.{counts_keep}
use Rattle.lst_core_state.proofs.ListedPart.{listed_keeps}
use Rattle.lst_core_state.proofs.PostingsPart.{postings_keeps}
use Rattle.lst_core_state.proofs.FactsPart.{facts_stay, looks_facts, facts_keep}
use Rattle.lst_core_state.proofs.RecordedPart.{look_seen, recorded_keeps}
use Rattle.lst_core_state.proofs.FoundPart.{looks_found, found_after, found_keeps}
use Rattle.lst_core_state.proofs.Starts.{opening_sound}

module _ (c : Core) (sound : Sound c) where
  abbrev L : Limits
  L = c.limits

  abbrev w : Words
  w = c.words

  abbrev K : ℕ → Known
  K = c.known

  -- a step of a session
  pub keeps_own : (e : Event) → session_of e < L.sessions → IsWithin L e → Enabled L (K (session_of e)) e → Stands L w (K (session_of e)) e → Sound (after_own c e)
  keeps_own e low within ok stands = let counts = counts_keep c sound e low ok in record {
    sized = sound.sized;
    times = times_keeps c sound e low ok;
    each = each_keeps c sound e low ok;
    views = views_keeps c sound e low ok stands;
    index = index_keeps c sound e low ok stands;
    versions = versions_keeps c sound e low within ok stands;
    owned = owned_keeps c sound e low ok stands;
    fit = fit_keeps c sound e low ok stands;
    tail_words = tail_words_keeps c sound e low within ok stands;
    counted = counts.0;
    counters = counts.1;
    postings = postings_keeps c sound e low within ok stands;
    listed = listed_keeps c sound e low ok stands;
    facts = facts_keep c sound e low within ok stands;
    recorded = recorded_keeps c sound e low ok stands;
    found = found_keeps c sound e low within ok;
    merger_facts = facts_stay c sound e low ok stands c.merger.facts sound.merger_facts;
    merger_seen = starts_trans (history_of L (words_after L w (K (session_of e)) e)) (history_of L w) c.merger.seen (grows c sound e low ok stands) sound.merger_seen;
    merger_counters = sound.merger_counters;
    merger_recorded = sound.merger_recorded;
    merger_found = found_after c sound e low ok L.sessions c.merger sound.merger_found;
    merger_idle = sound.merger_idle;
  }

  merger_sees : (p : Place) → Extends (history_of L w) (look_at L w c.merger p).seen
  merger_sees ClockWord = starts_whole (history_of L w) (history_of L w) refl
  merger_sees EpochWord = sound.merger_seen
  merger_sees RecordCounter = sound.merger_seen
  merger_sees (StateWord s n) = sound.merger_seen
  merger_sees (KeyWord r) = either (λ (u : Known). Extends (history_of L w) u.seen) (gives_up c.merger r (w.keys r)) (given_up c.merger) c.merger (λ _. sound.merger_seen) (λ _. sound.merger_seen)
  merger_sees (IndexWord q) = sound.merger_seen
  merger_sees (HeadWord r) = sound.merger_seen
  merger_sees (TailCounter range) = sound.merger_seen
  merger_sees (CellWord t p) = sound.merger_seen
  merger_sees CommitWord = sound.merger_seen
  merger_sees (LogWord i) = sound.merger_seen
  merger_sees (BeginWord i n) = sound.merger_seen
  merger_sees (DirectoryWord i n) = sound.merger_seen
  merger_sees (FrameWord i n) = sound.merger_seen
  merger_sees (PinWord i) = sound.merger_seen
  merger_sees (PostingWord i n) = sound.merger_seen

  merger_counts : (p : Place) → length (look_at L w c.merger p).counters ≡ L.ranges
  merger_counts ClockWord = sound.merger_counters
  merger_counts EpochWord = sound.merger_counters
  merger_counts RecordCounter = sound.merger_counters
  merger_counts (StateWord s n) = sound.merger_counters
  merger_counts (KeyWord r) = either (λ (u : Known). length u.counters ≡ L.ranges) (gives_up c.merger r (w.keys r)) (given_up c.merger) c.merger (λ _. sound.merger_counters) (λ _. sound.merger_counters)
  merger_counts (IndexWord q) = sound.merger_counters
  merger_counts (HeadWord r) = sound.merger_counters
  merger_counts (TailCounter range) = length-set c.merger.counters range (served L.tails (w.counts range) (counter_of c.merger range)) ∙ sound.merger_counters
  merger_counts (CellWord t p) = sound.merger_counters
  merger_counts CommitWord = sound.merger_counters
  merger_counts (LogWord i) = sound.merger_counters
  merger_counts (BeginWord i n) = sound.merger_counters
  merger_counts (DirectoryWord i n) = sound.merger_counters
  merger_counts (FrameWord i n) = sound.merger_counters
  merger_counts (PinWord i) = sound.merger_counters
  merger_counts (PostingWord i n) = sound.merger_counters

  merger_opens : (p : Place) → (look_at L w c.merger p).is_open ≡ false
  merger_opens ClockWord = sound.merger_idle
  merger_opens EpochWord = sound.merger_idle
  merger_opens RecordCounter = sound.merger_idle
  merger_opens (StateWord s n) = sound.merger_idle
  merger_opens (KeyWord r) = either (λ (u : Known). u.is_open ≡ false) (gives_up c.merger r (w.keys r)) (given_up c.merger) c.merger (λ _. sound.merger_idle) (λ _. sound.merger_idle)
  merger_opens (IndexWord q) = sound.merger_idle
  merger_opens (HeadWord r) = sound.merger_idle
  merger_opens (TailCounter range) = sound.merger_idle
  merger_opens (CellWord t p) = sound.merger_idle
  merger_opens CommitWord = sound.merger_idle
  merger_opens (LogWord i) = sound.merger_idle
  merger_opens (BeginWord i n) = sound.merger_idle
  merger_opens (DirectoryWord i n) = sound.merger_idle
  merger_opens (FrameWord i n) = sound.merger_idle
  merger_opens (PinWord i) = sound.merger_idle
  merger_opens (PostingWord i n) = sound.merger_idle

  -- a load by the merger
  merger_looks : (s a : ℕ) → a < words_of L → Sound (after_merger c (Look s a))
  merger_looks s a inside = record {
    sized = sound.sized;
    times = sound.times;
    each = sound.each;
    views = sound.views;
    index = sound.index;
    versions = sound.versions;
    owned = sound.owned;
    fit = sound.fit;
    tail_words = sound.tail_words;
    counted = sound.counted;
    counters = sound.counters;
    postings = sound.postings;
    listed = sound.listed;
    facts = sound.facts;
    recorded = sound.recorded;
    found = sound.found;
    merger_facts = looks_facts c sound a inside c.merger sound.merger_facts;
    merger_seen = merger_sees (place_of L a);
    merger_counters = merger_counts (place_of L a);
    merger_recorded = look_seen c sound c.merger sound.merger_recorded (place_of L a);
    merger_found = looks_found c sound L.sessions c.merger (λ e. absurd (true≢false (sym e ∙ sound.merger_idle))) sound.merger_found a inside;
    merger_idle = merger_opens (place_of L a);
  }

  keeps_merger : (e : Event) → IsWithin L e → session_of e ≡ L.sessions → Sound (after_merger c e)
  keeps_merger (Look s a) within is = merger_looks s a within.1
  keeps_merger (Begin s b r) within is = absurd (let h : s < L.sessions = within in omega arith)
  keeps_merger (Take s) within is = absurd (let h : s < L.sessions = within in omega arith)
  keeps_merger (Log s) within is = absurd (let h : s < L.sessions = within in omega arith)
  keeps_merger (State s) within is = absurd (let h : s < L.sessions = within in omega arith)
  keeps_merger (Clock s) within is = absurd (let h : s < L.sessions = within in omega arith)
  keeps_merger (Give s) within is = absurd (let h : s < L.sessions = within in omega arith)
  keeps_merger (Close s) within is = absurd (let h : s < L.sessions = within in omega arith)
  keeps_merger (DrawRecord s) within is = absurd (let h : s < L.sessions = within in omega arith)
  keeps_merger (StoreKey s k) within is = absurd (let h : s < L.sessions = within in omega arith)
  keeps_merger (Claim s q) within is = absurd (let h = within.0 in omega arith)
  keeps_merger (Latch s r) within is = absurd (let h = within.0 in omega arith)
  keeps_merger (DrawTail s range) within is = absurd (let h = within.0 in omega arith)
  keeps_merger (StoreCell s p x) within is = absurd (let h = within.0 in omega arith)
  keeps_merger (Install s) within is = absurd (let h : s < L.sessions = within in omega arith)
  keeps_merger (Release s) within is = absurd (let h : s < L.sessions = within in omega arith)
  keeps_merger (Stamp s range n) within is = absurd (let h = within.0 in omega arith)
  keeps_merger (Post s column q) within is = absurd (let h = within.0 in omega arith)

-- the session of an event that isn't the merger's
pub session_low : (l : Limits) (e : Event) → IsWithin l e → session_of e ≢ l.sessions → session_of e < l.sessions
session_low l (Look s a) within ne = let h = within.0 in omega arith
session_low l (Begin s b r) within ne = within
session_low l (Take s) within ne = within
session_low l (Log s) within ne = within
session_low l (State s) within ne = within
session_low l (Clock s) within ne = within
session_low l (Give s) within ne = within
session_low l (Close s) within ne = within
session_low l (DrawRecord s) within ne = within
session_low l (StoreKey s k) within ne = within
session_low l (Claim s q) within ne = within.0
session_low l (Latch s r) within ne = within.0
session_low l (DrawTail s range) within ne = within.0
session_low l (StoreCell s p x) within ne = within.0
session_low l (Install s) within ne = within
session_low l (Release s) within ne = within
session_low l (Stamp s range n) within ne = within.0
session_low l (Post s column q) within ne = within.0

pub keeps : (c : Core) → Sound c → (e : Event) → IsWithin c.limits e → IsEnabled c e → Sound (after c e)
keeps c sound e within ok = dite (ℕ_discrete (session_of e) c.limits.sessions)
    (λ is. subst (λ (b : Bool). Sound (cond b (after_merger c e) (after_own c e))) (sym (eq-eqb (session_of e) c.limits.sessions is)) (keeps_merger c sound e within is))
    (λ ne. let own : known_of c (session_of e) ≡ c.known (session_of e) = ap (λ (b : Bool). cond b c.merger (c.known (session_of e))) (ne_eqb (session_of e) c.limits.sessions ne) in
    subst (λ (b : Bool). Sound (cond b (after_merger c e) (after_own c e))) (sym (ne_eqb (session_of e) c.limits.sessions ne))
    (keeps_own c sound e (session_low c.limits e within ne) within (subst (λ (v : Known). Enabled c.limits v e) own ok.0) (subst (λ (v : Known). Stands c.limits c.words v e) own ok.1)))

pub runs_keep : (c : Core) → Sound c → (events : List Event) (d : Core) → Runs c events d → Sound d
runs_keep c sound [] d is = subst Sound is sound
runs_keep c sound (e ∷ es) d run = runs_keep (after c e) (keeps c sound e run.0 run.1) es d run.2

pub every_run_is_sound : EveryRunIsSound
every_run_is_sound l sized events c run = runs_keep (opening l) (opening_sound l sized) events c run
