-- The laws that the crates above rest on.
use Rattle.std.proofs.Common.{◌≡◌, ◌≢◌, ℕ, ◌-◌, ◌<◌, ◌≤◌, List, [], ◌∷◌, ◌++◌, Bool, true, false, cond, eqb, length, take, refl, sym, subst, ap, ◌∙◌, arith, inl, inr, ⊎_elim, append_assoc, append-nil, eq-eqb, ne_eqb, length-append}
use Rattle.std.proofs.lemmas.List.{take-append-le}
use mathlib.Core.Logic.{dite}
use native.Mathlib.Decide.{ℕ_discrete}
use Rattle.lst_model.specs.declared.acts.Act.{Act}
use Rattle.lst_model.specs.declared.commits.Commit.{Commit}
use Rattle.lst_model.specs.Histories.{all_acts_on, acts_on, Extends}
use Rattle.lst_model.specs.Soundness.{IsSound, IsConflictFree}
use Rattle.lst_core_state.proofs.Lists.{judged_below}
use Rattle.lst_core_state.specs.declared.known.Known.{Known}
use Rattle.lst_core_state.specs.declared.facts.Fact.{Fact}
use Rattle.lst_layout.specs.Functions.{put}
use Rattle.lst_core_state.specs.declared.events.Event.{Event}
use Rattle.lst_core_state.specs.declared.events.Event.TheVariants.{Look, Begin, Take, Log, State, Clock, Give, Close, DrawRecord, StoreKey, Claim, Latch, DrawTail, StoreCell, Install, Release, Stamp, Post}
use Rattle.lst_core_state.specs.Cells.{record_count}
use Rattle.lst_core_state.specs.Index.{is_placed}
use Rattle.lst_core_state.specs.State.{Words, Core, entry, writer_at, name_of, history_of, commits_of, act_in, FitsAfter}
use Rattle.lst_core_state.specs.Step.{session_of, IsWithin, Enabled, Stands, known_of, after_own, after_merger}
use Rattle.lst_core_state.specs.Sound.{Sound, ViewOf, FitsOf, FactsOf, RecordedOf, FoundOf}
use Rattle.lst_core_state.specs.Laws.{HistoriesAreSound, ChainsAreSights, AbsentIsUnseen, VisibleIsSeen, SeenMayGrow, MergerMayGrow, MayHear, heard, with_heard, published, StepOf, StepsAreSound}
use Rattle.lst_core_state.proofs.Functions.{each_put}
use Rattle.lst_core_state.proofs.Histories.{starts_length}
use Rattle.lst_core_state.proofs.VersionsKept.{early_of}
use Rattle.lst_core_state.proofs.Decoded.{find_key}
use Rattle.lst_core_state.proofs.Sightings.{snapshot_chain, absent_sight, live_is_sight, absent_line}
use Rattle.lst_core_state.proofs.Pure.{visible_seen, seen_visible}
use Rattle.lst_core_state.proofs.Sounds.{history_sound, seen_sound}
use Rattle.lst_core_state.proofs.RunsKept as runs
use Rattle.lst_core_state.proofs.IndexPart as index
use Rattle.lst_core_state.proofs.VersionsPart as versions
use Rattle.lst_core_state.proofs.OwnedPart as owned
use Rattle.lst_core_state.proofs.OwnsKept.{index_same}
use Rattle.lst_core_state.proofs.FitPart as fit
use Rattle.lst_core_state.proofs.TailWordsPart as words
use Rattle.lst_core_state.proofs.CountsPart as counts
use Rattle.lst_core_state.proofs.ListedPart as listed
use Rattle.lst_core_state.proofs.PostingsPart as postings
use Rattle.lst_core_state.proofs.FactsPart.{fact_stays, more_facts}
use Rattle.lst_core_state.proofs.RecordedPart.{grows_by, recorded_more}
use Rattle.lst_core_state.proofs.FoundPart.{still, found_same}
use Rattle.lst_core_state.proofs.Steady.{settled_stays, chains_grow}
use Rattle.lst_core_state.proofs.Decodes.{decodes, appended}
use Rattle.lst_core_state.proofs.Keeps.{keeps, session_low}

pub conflict_free : (history : List Commit) → IsSound history → IsConflictFree history
conflict_free history sound before earlier between later rest is overlap = (sound (before ++ earlier ∷ between) later rest is).apart before earlier between refl overlap

pub histories_are_sound : HistoriesAreSound
histories_are_sound c sound = record {
  sound = history_sound c sound;
  apart = conflict_free (history_of c.limits c.words) (history_sound c sound);
  seen = seen_sound c sound;
  placed = λ k. ⊎_elim
      (λ (q : (r : ℕ) × (r < record_count c.limits) × (is_placed c.limits c.words.index r ≡ true) × (c.words.keys r ≡ k)). inl q)
      (λ (none : (r : ℕ) → r < record_count c.limits → is_placed c.limits c.words.index r ≡ true → c.words.keys r ≢ k). inr (absent_line c sound c.words.clock k none))
      (find_key c.limits c.words c.known sound.sized sound.times sound.each sound.versions k (record_count c.limits));
}

pub chains_are_sights : ChainsAreSights
chains_are_sights c sound s low is_on r in_records placed = let w : Words = c.words in let L = sound.versions.lines r in_records in record {
  visible = snapshot_chain c sound s low is_on r in_records placed;
  judged = λ judged. live_is_sight c sound s low is_on r in_records placed (judged_below (entry w.states) (entry w.begins) (writer_at w) (name_of s (c.known s).number) _
      (λ y i. early_of c.limits w c.known sound.sized sound.times sound.each sound.versions (writer_at w y) (sound.versions.stored y (L.stored y i)).begun) L.ordered judged);
}

pub absent_is_unseen : AbsentIsUnseen
absent_is_unseen c sound s low is_on k none = absent_sight c sound s low is_on k none

pub visible_is_seen : VisibleIsSeen
visible_is_seen c sound s low is_on x in_range = (seen_visible c sound s low is_on x in_range, visible_seen c sound s low is_on x)

-- ---- seeing more

front_of : (a b c : List Commit) → Extends a b → Extends b c → (n : ℕ) → n ≤ length c → take n b ≡ take n c
front_of a b c h k n low = ap (take n) k.1 ∙ take-append-le n c k.0 low

commits_append : (s : ℕ) (xs ys : List Commit) → commits_of s (xs ++ ys) ≡ commits_of s xs ++ commits_of s ys
commits_append s [] ys = refl
commits_append s (x ∷ xs) ys = step (eqb x.session s) (commits_append s xs ys)
  where
    step : (b : Bool) → commits_of s (xs ++ ys) ≡ commits_of s xs ++ commits_of s ys → cond b (x ∷ commits_of s (xs ++ ys)) (commits_of s (xs ++ ys)) ≡ cond b (x ∷ commits_of s xs) (commits_of s xs) ++ commits_of s ys
    step true e = ap (λ l. x ∷ l) e
    step false e = e

-- nothing can be added to a list that stays the same
nothing_added : {A : Type 0} (xs ys : List A) → xs ≡ xs ++ ys → ys ≡ []
nothing_added {A} xs [] e = refl
nothing_added {A} xs (y ∷ ys) e = absurd (let h : length xs ≡ length (xs ++ y ∷ ys) = ap length e in let g = length-append xs (y ∷ ys) in omega arith)

module _ (c : Core) (sound : Sound c) (s : ℕ) (low : s < c.limits.sessions) (seen : List Commit) (gs : List Fact) (may : MayHear c (c.known s) seen gs) where
  abbrev w : Words
  w = c.words

  abbrev H : List Commit
  H = history_of c.limits w

  abbrev v : Known
  v = c.known s

  abbrev v' : Known
  v' = heard v seen gs

  all : Extends (history_of c.limits c.words) seen
  all = may.prefix

  more : Extends seen (c.known s).seen
  more = may.longer

  view_more : ViewOf H s v'
  view_more = let y = sound.views s low in record {
    prefix = all;
    whole = λ k. let was : v.seen ≡ H = y.whole k in let both : H ≡ H ++ (more.0 ++ all.0) = all.1 ∙ (ap (λ l. l ++ all.0) more.1 ∙ (append_assoc v.seen more.0 all.0 ∙ ap (λ l. l ++ (more.0 ++ all.0)) was)) in
        let rest : more.0 ++ all.0 ≡ [] = nothing_added H (more.0 ++ all.0) both in let gone : more.0 ≡ [] = front_nil more.0 all.0 rest in more.1 ∙ (ap (λ l. v.seen ++ l) gone ∙ (append-nil v.seen ∙ was));
    begun = λ e. let a = y.begun e in let b = starts_length seen v.seen more in omega arith;
    own = let whole : commits_of s H ≡ commits_of s v.seen ++ (commits_of s more.0 ++ commits_of s all.0) = ap (commits_of s) (all.1 ∙ (ap (λ l. l ++ all.0) more.1 ∙ append_assoc v.seen more.0 all.0)) ∙ (commits_append s v.seen (more.0 ++ all.0) ∙ ap (λ l. commits_of s v.seen ++ l) (commits_append s more.0 all.0)) in
        let rest : commits_of s more.0 ++ commits_of s all.0 ≡ [] = nothing_added (commits_of s v.seen) (commits_of s more.0 ++ commits_of s all.0) (y.own ∙ whole) in
        ap (commits_of s) more.1 ∙ (commits_append s v.seen more.0 ∙ (ap (λ l. commits_of s v.seen ++ l) (front_nil (commits_of s more.0) (commits_of s all.0) rest) ∙ (append-nil (commits_of s v.seen) ∙ y.own)));
  }
    where
      front_nil : (xs ys : List Commit) → xs ++ ys ≡ [] → xs ≡ []
      front_nil [] ys e = refl
      front_nil (x ∷ xs) ys e = absurd (let h : length (x ∷ xs ++ ys) ≡ 0 = ap length e in omega arith)

  fit_more : FitsOf c.limits w v'
  fit_more whole = let k : ℕ = w.keys (v.hold.latch - 1) in let is_on = (fit.whole_stored c sound s low whole).3 in
      subst (λ (acts : List Act). FitsAfter acts (act_in c.limits w.cells v.hold.tail)) (sym (ap (λ (l : List Commit). all_acts_on k l ++ acts_on k v.own) (front_of H seen v.seen all more v.begin ((sound.views s low).begun is_on)))) (sound.fit s low whole)

  pub sees_more : Sound (with_heard c s seen gs)
  sees_more = let both = counts.same c sound s v' refl in record {
    sized = sound.sized;
    times = sound.times;
    each = runs.same c sound s v' (sound.each s);
    views = each_put (λ (j : ℕ) (u : Known). j < c.limits.sessions → ViewOf H j u) c.known s v' (λ _. view_more) (λ j other. sound.views j);
    index = index.still c sound s v' low refl;
    versions = versions.quiet c sound s v' low refl refl refl refl (λ z. z);
    owned = owned.owned_same c sound (Look s 0) low tt tt (λ i. i) v' (index_same c.limits w w refl refl) refl refl refl;
    fit = fit.fit_put c sound (Look s 0) low tt tt v' fit_more;
    tail_words = words.same c sound s v' low (sound.tail_words.drafts s low);
    counted = both.0;
    counters = both.1;
    postings = postings.postings_same c sound (Look s 0) low tt tt (λ _ _. refl) (λ i. i) v' refl refl refl;
    listed = listed.same c sound (Look s 0) low tt tt (λ i. i) refl v' refl refl refl;
    facts = each_put (λ (j : ℕ) (u : Known). j < c.limits.sessions → FactsOf c.limits w u.facts) c.known s v' (λ h. more_facts c.limits w v.facts gs (sound.facts s h) may.facts) (λ j other. sound.facts j);
    recorded = each_put (λ (j : ℕ) (u : Known). j < c.limits.sessions → RecordedOf w.keys u) c.known s v' (λ h. let r = recorded_more c sound (Look s 0) low tt s h (v.facts ++ gs) (grows_by v.facts gs) in record { seen_keys = may.keys; own_keys = r.own_keys; latched = r.latched })
        (λ j other. sound.recorded j);
    found = each_put (λ (j : ℕ) (u : Known). j < c.limits.sessions → FoundOf c.limits w (put c.known s v') j u) c.known s v' (λ h. found_same c sound s v' (still v) s v' (sound.found s h)) (λ j other h. found_same c sound s v' (still v) j (c.known j) (sound.found j h));
    merger_facts = sound.merger_facts;
    merger_seen = sound.merger_seen;
    merger_counters = sound.merger_counters;
    merger_recorded = sound.merger_recorded;
    merger_found = found_same c sound s v' (still v) c.limits.sessions c.merger sound.merger_found;
    merger_idle = sound.merger_idle;
  }

pub seen_may_grow : SeenMayGrow
seen_may_grow c sound s low seen more may = sees_more c sound s low seen more may

pub merger_may_grow : MergerMayGrow
merger_may_grow c sound seen more may = record {
  sized = sound.sized;
  times = sound.times;
  each = sound.each;
  views = sound.views;
  index = sound.index;
  versions = sound.versions;
  owned = sound.owned;
  fit = sound.fit;
  tail_words = sound.tail_words;
  counted = sound.counted;
  counters = sound.counters;
  postings = sound.postings;
  listed = sound.listed;
  facts = sound.facts;
  recorded = sound.recorded;
  found = sound.found;
  merger_facts = more_facts c.limits c.words c.merger.facts more sound.merger_facts may.facts;
  merger_seen = may.prefix;
  merger_counters = sound.merger_counters;
  merger_recorded = may.keys;
  merger_found = sound.merger_found;
  merger_idle = sound.merger_idle;
}

-- ---- steps

module _ (c : Core) (sound : Sound c) (e : Event) (within : IsWithin c.limits e) where
  own_step : session_of e < c.limits.sessions → Enabled c.limits (c.known (session_of e)) e → Stands c.limits c.words (c.known (session_of e)) e → Sound (after_own c e) → StepOf c e (after_own c e)
  own_step low ok stands next = record {
    sound = next;
    history = decodes c sound e low ok stands ∙ same e;
    settled = settled_stays c sound e low ok stands;
    chains = chains_grow c sound e low ok stands;
    facts = fact_stays c sound e low ok stands;
  }
    where
      same : (e : Event) → history_of c.limits c.words ++ appended c sound e ≡ history_of c.limits c.words ++ published c e
      same (Look s a) = refl
      same (Begin s b r) = refl
      same (Take s) = refl
      same (Log s) = refl
      same (State s) = refl
      same (Clock s) = refl
      same (Give s) = refl
      same (Close s) = refl
      same (DrawRecord s) = refl
      same (StoreKey s k) = refl
      same (Claim s q) = refl
      same (Latch s r) = refl
      same (DrawTail s range) = refl
      same (StoreCell s p x) = refl
      same (Install s) = refl
      same (Release s) = refl
      same (Stamp s range n) = refl
      same (Post s column q) = refl

  -- a load publishes nothing
  merger_publishes : (e : Event) → IsWithin c.limits e → session_of e ≡ c.limits.sessions → published c e ≡ []
  merger_publishes (Look s a) inside is = refl
  merger_publishes (Begin s b r) inside is = refl
  merger_publishes (Take s) inside is = refl
  merger_publishes (Log s) inside is = refl
  merger_publishes (State s) inside is = refl
  merger_publishes (Clock s) inside is = absurd (let h : s < c.limits.sessions = inside in omega arith)
  merger_publishes (Give s) inside is = refl
  merger_publishes (Close s) inside is = refl
  merger_publishes (DrawRecord s) inside is = refl
  merger_publishes (StoreKey s k) inside is = refl
  merger_publishes (Claim s q) inside is = refl
  merger_publishes (Latch s r) inside is = refl
  merger_publishes (DrawTail s range) inside is = refl
  merger_publishes (StoreCell s p x) inside is = refl
  merger_publishes (Install s) inside is = refl
  merger_publishes (Release s) inside is = refl
  merger_publishes (Stamp s range n) inside is = refl
  merger_publishes (Post s column q) inside is = refl

  merger_step : session_of e ≡ c.limits.sessions → Sound (after_merger c e) → StepOf c e (after_merger c e)
  merger_step is next = record {
    sound = next;
    history = sym (append-nil (history_of c.limits c.words)) ∙ ap (λ (cs : List Commit). history_of c.limits c.words ++ cs) (sym (merger_publishes e within is));
    settled = λ t _ _. (refl, refl, refl, refl);
    chains = λ r _. inl refl;
    facts = λ f h. h;
  }

pub steps_are_sound : StepsAreSound
steps_are_sound c sound e within ok = let next = keeps c sound e within ok in dite (ℕ_discrete (session_of e) c.limits.sessions)
    (λ is. let b = eq-eqb (session_of e) c.limits.sessions is in subst (λ (t : Bool). StepOf c e (cond t (after_merger c e) (after_own c e))) (sym b) (merger_step c sound e within is (subst (λ (t : Bool). Sound (cond t (after_merger c e) (after_own c e))) b next)))
    (λ ne. let b = ne_eqb (session_of e) c.limits.sessions ne in let own : known_of c (session_of e) ≡ c.known (session_of e) = ap (λ (t : Bool). cond t c.merger (c.known (session_of e))) b in
    subst (λ (t : Bool). StepOf c e (cond t (after_merger c e) (after_own c e))) (sym b)
    (own_step c sound e within (session_low c.limits e within ne) (subst (λ (v : Known). Enabled c.limits v e) own ok.0) (subst (λ (v : Known). Stands c.limits c.words v e) own ok.1) (subst (λ (t : Bool). Sound (cond t (after_merger c e) (after_own c e))) b next)))
