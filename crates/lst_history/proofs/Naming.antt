-- Which commit a transaction is, and the words of one.
use Rattle.std.proofs.Common.{◌≡◌, ◌≢◌, ⊎_elim, inl, inr, ℕ, ◌+◌, ◌-◌, ◌*◌, ◌/◌, ◌%◌, ◌^◌, ◌<◌, ◌≤◌, true, eqb, sym, subst, ap, ◌∙◌, arith, eq-eqb, ne_eqb}
use mathlib.Core.Logic.{dite}
use native.Mathlib.Decide.{ℕ_discrete}
use Rattle.lst_layout.specs.declared.limits.Limits.{Limits}
use Rattle.lst_layout.specs.declared.place.Place.TheVariants.{LogWord, BeginWord, StateWord}
use Rattle.lst_layout.specs.Addresses as layout
use Rattle.lst_layout.specs.Words.{Words}
use Rattle.lst_bits.specs.Logs.{IsLogWord}
use Rattle.lst_core_state.specs.declared.known.Known.{Known}
use Rattle.lst_core_state.specs.Cells.{IsCell}
use Rattle.lst_core_state.specs.State.{entry, writer_at, name_of}
use Rattle.lst_core_state.proofs.Decoded.{by_yes, by_blank}
use Rattle.lst_core_state.proofs.Room.{clock_low}
use Rattle.lst_core_state.proofs.Steps.{writer_odd, writer_even}
use Rattle.lst_core_state.specs.State.{state_over}
use Rattle.lst_rule.specs.declared.view.View.{View}
use Rattle.lst_rule.specs.Rule.{Allowed}
use Rattle.lst_rule.specs.Learned.{Possible}
use Rattle.lst_rule.proofs.Knowing.{whole_words}
use Rattle.lst_bits.specs.declared.starts.Start.{Start}
use Rattle.lst_bits.specs.Starts.{start_of}
use Rattle.lst_rule.specs.declared.status.Status.{Status}
use Rattle.lst_rule.specs.declared.status.Status.TheVariants.{Empty, Unfinished, Closed, Committed}
use Rattle.lst_rule.specs.Statuses.{IsNamed, IsStoredAs, Answers, StatusOf, Asked}
use Rattle.lst_rule.specs.declared.store.Store.{Store}
use Rattle.lst_rule.specs.Seats.{Sitting}
use Rattle.lst_rule.specs.Stores.{IsSeatOf}
use Rattle.lst_history.proofs.Looks.{same_words}
use Rattle.lst_history.proofs.Asking.{start_cases, status_reads}
use Rattle.lst_history.specs.Peeks.{words_in, IsReader, Reads}
use Rattle.lst_history.specs.Commits.{IsCommit, IsNoCommit, IsOfCommit, IsOfNone}

-- the view knows each word, so they are of a sound state
module _ (v : View) (possible : Possible v) (whole : v.whole ≡ true) where
  abbrev l : Limits
  l = v.limits

  abbrev w : Words
  w = words_in v

  abbrev K : ℕ → Known
  K = possible.known

  allowed : Allowed v v.words possible.known possible.merger
  allowed = whole_words v possible.words possible.known possible.merger possible.allowed whole

  -- ---- the log

  pub log_within : (time : ℕ) → 0 < time → time ≤ w.clock → layout.IsWithin l (LogWord time)
  log_within time some past = let few = clock_low (state_over l v.words possible.known possible.merger) allowed.sound in (some, omega arith)

  pub log_named : (time : ℕ) → 0 < time → time ≤ w.clock → layout.IsWithin l (BeginWord (w.log time % 16) (w.log time / 16))
  log_named time some past = let names = allowed.sound.times.named time some past in let number = names.number in let session = names.session in let begun = names.begun in let runs = allowed.sound.each (w.log time % 16) session in let few = runs.few in
      let high : w.log time / 16 ≤ l.txns = dite (ℕ_discrete (w.log time / 16 - l.txns) 0) (λ e. omega arith) (λ ne. let none = runs.unbegun (w.log time / 16) (omega arith) in absurd (omega arith)) in (session, number, high)

  pub log_by : (time s n : ℕ) → 0 < time → time ≤ w.clock → s < 16 → w.log time ≡ name_of s n → layout.IsWithin l (BeginWord s n)
  log_by time s n some past low is = let named = log_named time some past in let session : w.log time % 16 ≡ s = omega arith in let number : w.log time / 16 ≡ n = omega arith in let a = named.0 in let b = named.1 in let c = named.2 in (omega arith, omega arith, omega arith)

  pub log_image : (time : ℕ) → 0 < time → time ≤ w.clock → IsLogWord (w.log time)
  log_image time some past = let named = log_named time some past in let few = allowed.sound.sized.txns.1 in let number = named.1 in let high = named.2 in (omega arith, λ _. omega arith)

  -- ---- transactions

  pub is_commit : (s n time : ℕ) → s < l.sessions → 0 < time → time ≤ w.clock → w.states s n ≡ time + 1 → IsCommit w.clock w.log (name_of s n) time
  is_commit s n time low some past state = let times = allowed.sound.times in let named = times.found s n time low some past state in let few = allowed.sound.sized.sessions.1 in record {
    some = some;
    past = past;
    is = λ u some_u past_u. dite (ℕ_discrete u time)
        (λ e. eq-eqb (name_of s n) (w.log u) (sym named ∙ ap w.log (sym e)) ∙ sym (eq-eqb u time e))
        (λ ne. ne_eqb (name_of s n) (w.log u) (λ e. ne (let other = (times.named u some_u past_u).state in let same : entry w.states (w.log u) ≡ entry w.states (w.log time) = ap (entry w.states) (sym e ∙ sym named) in let here = (times.named time some past).state in omega arith)) ∙ sym (ne_eqb u time ne));
  }

  no_commit : (s n : ℕ) → s < 16 → ((u : ℕ) → 0 < u → u ≤ w.clock → w.states s n ≢ u + 1) → IsNoCommit w.clock w.log (name_of s n)
  no_commit s n low none u some past = ne_eqb (name_of s n) (w.log u) (λ e. none u some past (let session : s ≡ w.log u % 16 = omega arith in let number : n ≡ w.log u / 16 = omega arith in (λ i. w.states (session i) (number i)) ∙ (allowed.sound.times.named u some past).state))

  -- ---- tails

  module _ (t : ℕ) where
    start_few : 0 < w.cells t 0 → writer_at w t / 16 ≤ l.txns
    start_few some = let stored = allowed.sound.versions.stored t some in let begun = stored.begun in let few = (allowed.sound.each (writer_at w t % 16) begun.0).few in let high = begun.2 in omega arith

    pub start_low : w.cells t 0 % 2 ≡ 1 → w.cells t 0 < 2 ^ 37
    start_low odd = let few = start_few (omega arith) in let by = writer_odd w.log (w.cells t 0) odd in let txns = allowed.sound.sized.txns.1 in omega arith

    pub writer_within : (s n : ℕ) → s < 16 → w.cells t 0 ≡ 1 + 2 * name_of s n → layout.IsWithin l (StateWord s n)
    writer_within s n low is = let some : 0 < w.cells t 0 = omega arith in let stored = allowed.sound.versions.stored t some in let by = writer_odd w.log (w.cells t 0) (omega arith) in let begun = stored.begun in let few = start_few some in
        let session : writer_at w t % 16 ≡ s = omega arith in let number : writer_at w t / 16 ≡ n = omega arith in let a = begun.0 in let b = begun.1 in (omega arith, omega arith, omega arith)

    pub named_of_commit : (s n time : ℕ) → s < 16 → w.cells t 0 ≡ 1 + 2 * name_of s n → IsCommit w.clock w.log (name_of s n) time → IsOfCommit w t time
    named_of_commit s n time low is commit = record {
      stored = omega arith;
      some = commit.some;
      past = commit.past;
      is = λ u some past. by_yes w.log w.cells (w.log u) t (omega arith) ∙ (ap (λ (x : ℕ). eqb x (w.log u)) (writer_odd w.log (w.cells t 0) (omega arith) ∙ (let e : w.cells t 0 / 2 ≡ name_of s n = omega arith in e)) ∙ commit.is u some past);
    }

    pub named_of_none : (s n : ℕ) → s < 16 → w.cells t 0 ≡ 1 + 2 * name_of s n → IsNoCommit w.clock w.log (name_of s n) → IsOfNone w t
    named_of_none s n low is none u some past = by_yes w.log w.cells (w.log u) t (omega arith) ∙ (ap (λ (x : ℕ). eqb x (w.log u)) (writer_odd w.log (w.cells t 0) (omega arith) ∙ (let e : w.cells t 0 / 2 ≡ name_of s n = omega arith in e)) ∙ none u some past)

    pub stamped_of_commit : (time : ℕ) → 0 < time → w.cells t 0 ≡ 2 * time → IsOfCommit w t time
    stamped_of_commit time low is = let some : 0 < w.cells t 0 = omega arith in let stamped = (allowed.sound.versions.stored t some).stamped (omega arith) in let high = stamped.1 in let past : time ≤ w.clock = omega arith in
        let names = allowed.sound.times.named time low past in let session : w.log time % 16 < l.sessions = names.session in
        let name : name_of (w.log time % 16) (w.log time / 16) ≡ w.log time = omega arith in
        let commit : IsCommit w.clock w.log (w.log time) time = subst (λ (x : ℕ). IsCommit w.clock w.log x time) name (is_commit (w.log time % 16) (w.log time / 16) time session low past names.state) in record {
          stored = some;
          some = low;
          past = past;
          is = λ u some_u past_u. by_yes w.log w.cells (w.log u) t some ∙ (ap (λ (x : ℕ). eqb x (w.log u)) (writer_even w.log (w.cells t 0) (omega arith) ∙ ap w.log (let e : w.cells t 0 / 2 ≡ time = omega arith in e)) ∙ commit.is u some_u past_u);
        }

    pub cell_is : 0 < w.cells t 0 → IsCell l.columns (w.cells t 1) (λ c. w.cells t (3 + c))
    cell_is some = allowed.sound.tail_words.images t some

    -- ---- by its status

    -- the tail has a write of the commit at this time, or of none
    abbrev pub TellsOf : Status → Type 0
    TellsOf (Committed time) = IsOfCommit w t time
    TellsOf status = IsOfNone w t

    stored_tells : (s n : ℕ) → s < l.sessions → w.cells t 0 ≡ 1 + 2 * name_of s n → (status : Status) → IsStoredAs w s n status → TellsOf status
    stored_tells s n low is Empty h = absurd h
    stored_tells s n low is Closed h = let few = allowed.sound.sized.sessions.1 in named_of_none s n (omega arith) is (no_commit s n (omega arith) (λ u some past e. omega arith))
    stored_tells s n low is (Committed time) h = let few = allowed.sound.sized.sessions.1 in named_of_commit s n time (omega arith) is (is_commit s n time low h.0 h.1 h.2)
    stored_tells s n low is (Unfinished a b) (inl h) = let few = allowed.sound.sized.sessions.1 in named_of_none s n (omega arith) is (no_commit s n (omega arith) (λ u some past e. omega arith))
    stored_tells s n low is (Unfinished a b) (inr h) = let few = allowed.sound.sized.sessions.1 in named_of_none s n (omega arith) is (no_commit s n (omega arith) (λ u some past e. omega arith))

    pub status_named : (x : ℕ) → x ≡ w.cells t 0 → IsNamed l x
    status_named x is odd = writer_within (x / 2 % 16) (x / 2 / 16) (omega arith) (omega arith)

    pub status_tells : (u z : View) (s x : ℕ) (status : Status) → x ≡ w.cells t 0 → StatusOf (start_of x) u z s status → z.whole ≡ true → words_in z ≡ w → TellsOf status
    status_tells u z s x status is told known same = ⊎_elim
        (λ (h : (x % 2 ≡ 1) × Answers u z s (x / 2 % 16) (x / 2 / 16) status). stored_tells (x / 2 % 16) (x / 2 / 16) (status_named x is h.0).0 (let odd = h.0 in omega arith) status (subst (λ (q : Words). IsStoredAs q (x / 2 % 16) (x / 2 / 16) status) same (h.1.stored known)))
        (λ rest. ⊎_elim
        (λ (h : (x ≡ 0) × ((status ≡ Empty) × (z ≡ u))). subst TellsOf (sym h.1.0) (let none = h.0 in λ y some past. by_blank w.log w.cells (w.log y) t (omega arith)))
        (λ (h : (x % 2 ≢ 1) × (0 < x) × ((status ≡ Committed (x / 2)) × (z ≡ u))). subst TellsOf (sym h.2.0) (let even = h.0 in let some = h.1 in stamped_of_commit (x / 2) (omega arith) (omega arith)))
        rest)
        (start_cases (λ (a : Start). StatusOf a u z s status) x told)

-- ---- a status that was asked for once the tail's start word was loaded

module _ (store : Store) (a b c : Sitting) (s t x : ℕ) (status : Status) (possible : Possible a.view) (reader : IsReader store a s) (looked : Reads store a b s) (is : x ≡ (words_in a.view).cells t 0) (seat : IsSeatOf store c) (told : StatusOf (start_of x) b.view c.view s status) (asked : Asked b.view c.view s) where
  pub asked_reads : Reads store b c s
  asked_reads = status_reads store b c s x status looked.reader seat (subst (λ (l : Limits). IsNamed l x) (sym looked.limits) (status_named a.view possible reader.whole t x is)) told asked.kept

  pub asked_tells : TellsOf a.view possible reader.whole t status
  asked_tells = status_tells a.view possible reader.whole t b.view c.view s x status is told asked_reads.reader.whole (same_words store b c s asked_reads ∙ same_words store a b s looked)
