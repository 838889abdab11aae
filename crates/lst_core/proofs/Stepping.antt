-- A step of the executable core, from any sound state that it holds.
use Rattle.std.proofs.Common.{◌≡◌, ℕ, ◌+◌, ◌-◌, ◌*◌, ◌/◌, ◌<◌, ◌≤◌, ◌^◌, List, Bool, true, false, cond, length, get_or, set, refl, sym, subst, ap, ◌∙◌, arith, length-set, get_or-set_same, get_or-set_other, eq-eqb, ne_eqb, inl, true≢false}
use Rattle.std.specs.Prelude.{◌↔◌, IsTrue}
use mathlib.Core.Logic.{dite}
use native.Mathlib.Decide.{ℕ_discrete}
use Rattle.lst_layout.specs.declared.limits.Limits.{Limits}
use Rattle.lst_layout.specs.declared.place.Place.{Place}
use Rattle.lst_layout.specs.declared.place.Place.TheVariants.{ClockWord, CommitWord, EpochWord, RecordCounter, LogWord, BeginWord, StateWord, KeyWord, IndexWord, HeadWord, TailCounter, CellWord, DirectoryWord, FrameWord, PinWord, PostingWord}
use Rattle.lst_layout.specs.Areas.{words_of}
use Rattle.lst_layout.specs.Addresses as layout
use Rattle.lst_layout.specs.Addresses.{address, place_of}
use Rattle.lst_layout.specs.Words.{Words, shown, word_at}
use Rattle.lst_core_state.specs.declared.events.Event.{Event}
use Rattle.lst_core_state.specs.declared.events.Event.TheVariants.{Look, Begin, Take, Log, State, Clock, Give, Close, DrawRecord, StoreKey, Claim, Latch, DrawTail, StoreCell, Install, Release, Stamp, Post}
use Rattle.lst_core_state.specs.declared.known.Known.{Known}
use Rattle.lst_core_state.specs.Cells.{range_of, tail_at}
use Rattle.lst_core_state.specs.State.{Core, newcomer, history_of, writes_of, line, back_in, head_of}
use Rattle.lst_core_state.specs.Step as step
use Rattle.lst_core_state.specs.Step.{session_of, known_of, Enabled, Stands, IsEnabled, after}
use Rattle.lst_core_state.specs.Sound.{Sound}
use Rattle.lst_core_state.proofs.Histories.{length-history, starts_length}
use Rattle.lst_core_state.proofs.CellsKept.{tail_at-some}
use Rattle.lst_core_state.proofs.Keeps.{keeps, session_low}
use Rattle.lst_core_state.proofs.Room.{clock_low, seen_few}
use Rattle.lst_core_state.specs.Lists.{Has}
use Rattle.lst_core_state.specs.declared.numbers.Numbers.{Numbers}
use Rattle.lst_core_state.specs.Numbers.{numbers_of, place_for, written_of, numbers_after, numbers_look, gives_up, Allows}
use Rattle.lst_core_state.specs.Targets.{time_for}
use Rattle.lst_core_state.specs.Bounds.{TailFits, HeadFits, IsWritable}
use Rattle.lst_core.specs.Machine.{Cells, number_at, Holds, IsIdle, IsCore, state_of, word_found, stepped}
use Rattle.lst_core.specs.Reading.{IsRead, IsTold, StandsIn, IsStampable}
use Rattle.lst_core_state.proofs.Bounds.{begin_fits, tail_fits, head_fits, rows_few, tails_few}
use Rattle.lst_core_state.proofs.Numbered.{allows_enabled, enabled_allows}
use Rattle.lst_core.proofs.Machines.{any_default, held_is, session_few, step_holds, step_within}
use Rattle.lst_core.proofs.Found.{read_at}
use Rattle.lst_core_state.proofs.Lists.{first_link}

-- the merger's one kind of step allows nothing else
module _ (l : Limits) (n : Numbers) where
  abbrev Plain : Event → Type 0
  Plain e = TailFits l n e × HeadFits n e

  merger_plain : (e : Event) → step.IsWithin l e → session_of e ≡ l.sessions → Plain e
  merger_plain (Look s a) inside is = (tt, tt)
  merger_plain (Begin s b r) inside is = (tt, tt)
  merger_plain (Take s) inside is = (tt, tt)
  merger_plain (Log s) inside is = (tt, tt)
  merger_plain (State s) inside is = (tt, tt)
  merger_plain (Clock s) inside is = (tt, tt)
  merger_plain (Give s) inside is = (tt, tt)
  merger_plain (Close s) inside is = (tt, tt)
  merger_plain (DrawRecord s) inside is = (tt, tt)
  merger_plain (StoreKey s k) inside is = (tt, tt)
  merger_plain (Claim s q) inside is = (tt, tt)
  merger_plain (Latch s r) inside is = (tt, tt)
  merger_plain (DrawTail s range) inside is = (tt, tt)
  merger_plain (StoreCell s p x) inside is = (tt, tt)
  merger_plain (Install s) inside is = absurd (let h : s < l.sessions = inside in omega arith)
  merger_plain (Release s) inside is = absurd (let h : s < l.sessions = inside in omega arith)
  merger_plain (Stamp s range t) inside is = (tt, tt)
  merger_plain (Post s column q) inside is = (tt, tt)

  idle_look : (x : ℕ) (p : Place) → IsIdle n → IsIdle (numbers_look l x n p)
  idle_look x ClockWord i = record { number = i.number; latch = i.latch }
  idle_look x CommitWord i = i
  idle_look x EpochWord i = i
  idle_look x RecordCounter i = record { number = i.number; latch = i.latch }
  idle_look x (LogWord t) i = i
  idle_look x (BeginWord s k) i = i
  idle_look x (StateWord s k) i = i
  idle_look x (KeyWord r) i = pick (gives_up n r x)
    where
      pick : (b : Bool) → IsIdle (cond b (record n { hand = 0; has_key = false }) n)
      pick true = record { number = i.number; latch = i.latch }
      pick false = i
  idle_look x (IndexWord q) i = record { number = i.number; latch = i.latch }
  idle_look x (HeadWord r) i = i
  idle_look x (TailCounter range) i = record { number = i.number; latch = i.latch }
  idle_look x (CellWord t c) i = i
  idle_look x (DirectoryWord r c) i = i
  idle_look x (FrameWord f c) i = i
  idle_look x (PinWord s) i = i
  idle_look x (PostingWord c q) i = i

  merger_idle : (e : Event) (x : ℕ) → step.IsWithin l e → session_of e ≡ l.sessions → IsIdle n → IsIdle (numbers_after l e x n)
  merger_idle (Look s a) x inside is i = idle_look x (place_of l a) i
  merger_idle (Begin s b r) x inside is i = absurd (let h : s < l.sessions = inside in omega arith)
  merger_idle (Take s) x inside is i = absurd (let h : s < l.sessions = inside in omega arith)
  merger_idle (Log s) x inside is i = absurd (let h : s < l.sessions = inside in omega arith)
  merger_idle (State s) x inside is i = absurd (let h : s < l.sessions = inside in omega arith)
  merger_idle (Clock s) x inside is i = absurd (let h : s < l.sessions = inside in omega arith)
  merger_idle (Give s) x inside is i = absurd (let h : s < l.sessions = inside in omega arith)
  merger_idle (Close s) x inside is i = absurd (let h : s < l.sessions = inside in omega arith)
  merger_idle (DrawRecord s) x inside is i = absurd (let h : s < l.sessions = inside in omega arith)
  merger_idle (StoreKey s k) x inside is i = absurd (let h : s < l.sessions = inside in omega arith)
  merger_idle (Claim s q) x inside is i = absurd (let h = inside.0 in omega arith)
  merger_idle (Latch s r) x inside is i = absurd (let h = inside.0 in omega arith)
  merger_idle (DrawTail s range) x inside is i = absurd (let h = inside.0 in omega arith)
  merger_idle (StoreCell s p y) x inside is i = absurd (let h = inside.0 in omega arith)
  merger_idle (Install s) x inside is i = absurd (let h : s < l.sessions = inside in omega arith)
  merger_idle (Release s) x inside is i = absurd (let h : s < l.sessions = inside in omega arith)
  merger_idle (Stamp s range t) x inside is i = absurd (let h = inside.0 in omega arith)
  merger_idle (Post s column q) x inside is i = absurd (let h = inside.0 in omega arith)

stampable : (l : Limits) (w : Words) (v : Known) (e : Event) → Stands l w v e → IsStampable w l e
stampable l w v (Look s a) h = tt
stampable l w v (Begin s b r) h = tt
stampable l w v (Take s) h = tt
stampable l w v (Log s) h = tt
stampable l w v (State s) h = tt
stampable l w v (Clock s) h = tt
stampable l w v (Give s) h = tt
stampable l w v (Close s) h = tt
stampable l w v (DrawRecord s) h = tt
stampable l w v (StoreKey s k) h = tt
stampable l w v (Claim s q) h = tt
stampable l w v (Latch s r) h = tt
stampable l w v (DrawTail s range) h = tt
stampable l w v (StoreCell s p x) h = tt
stampable l w v (Install s) h = tt
stampable l w v (Release s) h = tt
stampable l w v (Stamp s range n) h = h
stampable l w v (Post s column q) h = tt

time_low : (w : Words) (l : Limits) (e : Event) → IsStampable w l e → time_for l w e ≤ w.clock
time_low w l (Look s a) h = omega arith
time_low w l (Begin s b r) h = omega arith
time_low w l (Take s) h = omega arith
time_low w l (Log s) h = omega arith
time_low w l (State s) h = omega arith
time_low w l (Clock s) h = omega arith
time_low w l (Give s) h = omega arith
time_low w l (Close s) h = omega arith
time_low w l (DrawRecord s) h = omega arith
time_low w l (StoreKey s k) h = omega arith
time_low w l (Claim s q) h = omega arith
time_low w l (Latch s r) h = omega arith
time_low w l (DrawTail s range) h = omega arith
time_low w l (StoreCell s p x) h = omega arith
time_low w l (Install s) h = omega arith
time_low w l (Release s) h = omega arith
time_low w l (Stamp s range n) h = let a = h.1 in let b = h.2 in omega arith
time_low w l (Post s column q) h = omega arith

-- ---- the step

module _ (m : Cells) (core : IsCore m) (e : Event) (within : step.IsWithin m.limits e) (n : Numbers) (is : n ≡ number_at m (session_of e)) where
  abbrev L : Limits
  L = m.limits

  abbrev s : ℕ
  s = session_of e

  abbrev W : Words
  W = shown L m.words

  -- any state that is held, made of what is held
  module _ (c : Core) (holds : Holds m c) (sound : Sound c) where
    abbrev made : Core
    made = state_of m c.known c.merger

    made_is : made ≡ c
    made_is = held_is m c holds

    pub made_sound : Sound made
    made_sound = subst Sound (sym made_is) sound

    made_numbers : (j : ℕ) → j ≤ L.sessions → numbers_of (known_of made j) ≡ number_at m j
    made_numbers = (subst (Holds m) (sym made_is) holds).numbers

    few : s ≤ L.sessions
    few = session_few m core.wide core.all c.known c.merger made_sound made_numbers e within

    pub told : numbers_of (known_of made s) ≡ n
    told = made_numbers s few ∙ sym is

    pub allowed : IsEnabled c e → Allows L n e
    allowed ok = subst (λ (k : Numbers). Allows L k e) told (enabled_allows L made_sound.sized (known_of made s) e within (subst (λ (x : Core). IsEnabled x e) (sym made_is) ok).0)

    pub stood : (b : Bool) → StandsIn L m.words n e b → (IsTrue b ↔ Stands c.limits c.words (known_of c s) e)
    stood b says = subst (λ (x : Core). IsTrue b ↔ Stands x.limits x.words (known_of x s) e) made_is (says c.known c.merger made_sound told)

    pub enabled : Allows L n e → Stands c.limits c.words (known_of c s) e → IsEnabled c e
    enabled ok stands = (subst (λ (x : Core). Enabled x.limits (known_of x s) e) made_is (allows_enabled L made_sound.sized (known_of made s) e within (subst (λ (k : Numbers). Allows L k e) (sym told) ok)), stands)

    pub word_is : IsEnabled c e → (a x : ℕ) → a ≡ address L (place_for L n e) → x ≡ get_or m.words a 0 → x ≡ word_found c e
    word_is ok a x at found = subst (λ (y : Core). x ≡ word_found y e) made_is
        (read_at L m.words core.wide (place_for L n e) (subst (λ (k : Numbers). layout.IsWithin L (place_for L k e)) (sym is) (step_within m core c holds sound e within ok.0)) a x at found
        ∙ ap (λ (k : Numbers). word_at W (place_for L k e)) (sym told))

  -- one state that it holds
  abbrev c0 : Core
  c0 = core.state

  abbrev M : Core
  M = state_of m c0.known c0.merger

  sound0 : Sound M
  sound0 = made_sound c0 core.holds core.sound

  pub is_told : (ws : List ℕ) → ws ≡ m.words → IsTold L ws n e
  is_told ws same = subst (λ (x : List ℕ). IsTold L x n e) (sym same) record { wide = core.wide; known = c0.known; merger = c0.merger; sound = sound0; numbers = told c0 core.holds core.sound }

  pub is_read : (ws : List ℕ) → ws ≡ m.words → IsRead L ws
  is_read ws same = subst (IsRead L) (sym same) record { wide = core.wide; known = c0.known; merger = c0.merger; sound = sound0 }

  module _ (ok : Allows L n e) (b : Bool) (yes : b ≡ true) (says : StandsIn L m.words n e b) where
    pub all_enabled : (c : Core) → Holds m c → Sound c → IsEnabled c e
    all_enabled c holds sound = enabled c holds sound ok ((stood c holds sound b says).0 yes)

    pub is_stampable : (ws : List ℕ) → ws ≡ m.words → IsStampable (shown L ws) L e
    is_stampable ws same = subst (λ (x : List ℕ). IsStampable (shown L x) L e) (sym same) (stampable L W (known_of M s) e ((says c0.known c0.merger sound0 (told c0 core.holds core.sound)).0 yes))

    pub place_within : layout.IsWithin L (place_for L n e)
    place_within = subst (λ (k : Numbers). layout.IsWithin L (place_for L k e)) (sym is) (step_within m core c0 core.holds core.sound e within (all_enabled c0 core.holds core.sound).0)

    pub time_few : (ws : List ℕ) → ws ≡ m.words → (time : ℕ) → time ≡ time_for L (shown L ws) e → time < 2 ^ 32
    time_few ws same time at = let a = time_low W L e (is_stampable m.words refl) in let b = clock_low M sound0 in let c = rows_few L sound0.sized in let d : time ≡ time_for L W e = at ∙ ap (λ (x : List ℕ). time_for L (shown L x) e) same in omega arith

    -- the numbers fit their words
    module _ (low : s < L.sessions) where
      abbrev v : Known
      v = c0.known s

      own : numbers_of v ≡ n
      own = subst (λ (k : Known). numbers_of k ≡ n) (ap (λ (x : Bool). cond x c0.merger v) (ne_eqb s L.sessions (λ f. omega arith))) (told c0 core.holds core.sound)

      head_low : 0 < v.hold.latch → v.hold.head < 2 ^ 32
      head_low held = let k = sound0.versions.hands s low in let r : ℕ = v.hold.latch - 1 in let first = k.low in let L' = sound0.versions.lines r (omega arith) in let half : W.heads r / 2 ≡ v.hold.head = (let h = k.latched held in omega arith) in let top = tails_few L sound0.sized in
          dite (ℕ_discrete v.hold.head 0) (λ f. omega arith) (λ f.
          let at : head_of L r (W.heads r) ≡ range_of r * L.tails + v.hold.head = ap (tail_at L.tails (range_of r)) half ∙ tail_at-some L.tails (range_of r) v.hold.head (omega arith) in
          let q = first_link (back_in L W.cells) (head_of L r (W.heads r)) (line L W r) L'.links (omega arith) in
          let has : Has (head_of L r (W.heads r)) (line L W r) = subst (Has (head_of L r (W.heads r))) (sym q.1) (inl refl) in
          let bound = (sound0.versions.stored (head_of L r (W.heads r)) (L'.stored (head_of L r (W.heads r)) has)).few in omega arith)

      whole_low : v.hold.is_whole ≡ true → (range_of (v.hold.latch - 1) * L.tails < v.hold.tail) × (v.hold.tail ≤ range_of (v.hold.latch - 1) * L.tails + L.tails) × (0 < v.hold.latch)
      whole_low whole = let k = sound0.versions.hands s low in let some = k.some whole in let d = k.counted some in (d.0, d.1, k.holds some)

      pub own_writable : IsWritable L n e
      own_writable = subst (λ (k : Numbers). IsWritable L k e) own (let fits : Allows L (numbers_of v) e = subst (λ (k : Numbers). Allows L k e) (sym own) ok in let q = seen_few M sound0 s low in let rows = rows_few L sound0.sized in let txns = sound0.sized.txns.1 in record {
        seen = (let a = q.0 in omega arith);
        number = (let a = q.1 in omega arith);
        begin = begin_fits L (numbers_of v) e fits;
        hold = (sound0.versions.hands s low).low;
        head = head_fits L (numbers_of v) e fits head_low;
        tail = tail_fits L (numbers_of v) e fits whole_low;
      })

    merger_writable : s ≡ L.sessions → IsWritable L n e
    merger_writable all = let i : IsIdle n = subst IsIdle (ap (number_at m) (sym all) ∙ sym is) core.idle in let plain = merger_plain L n e within all in
        let same : n.seen ≡ length c0.merger.seen = ap (λ (k : Numbers). k.seen) (sym (told c0 core.holds core.sound)) ∙ ap (λ (x : Bool). length (cond x c0.merger (c0.known s)).seen) (eq-eqb s L.sessions all) in
        let low = starts_length (history_of L W) c0.merger.seen sound0.merger_seen in let long = length-history W.clock W.log W.begins (writes_of L W) in let top = clock_low M sound0 in let rows = rows_few L sound0.sized in let none = i.number in let free = i.latch in record {
          seen = omega arith;
          number = omega arith;
          begin = begin_fits L n e ok;
          hold = omega arith;
          head = plain.1;
          tail = plain.0;
        }

    pub is_writable : IsWritable L n e
    is_writable = dite (ℕ_discrete s L.sessions) merger_writable (λ ne. own_writable (session_low L e within ne))

    -- what the step leaves
    module _ (ws : List ℕ) (same : ws ≡ m.words) (time : ℕ) (time_is : time ≡ time_for L (shown L ws) e) (a x y : ℕ) (k : Numbers) (at : a ≡ address L (place_for L n e))
        (found : x ≡ get_or m.words a 0) (y_is : y ≡ written_of L n time e x) (k_is : k ≡ numbers_after L e x n) where
      abbrev Next : Cells
      Next = record { limits = L; words = set m.words a y; numbers = set m.numbers s k }

      next_is : stepped m (time_for L W e) e ≡ Next
      next_is = let x' : x ≡ get_or m.words (address L (place_for L n e)) 0 = found ∙ ap (λ (i : ℕ). get_or m.words i 0) at in
          let whole : Numbers → Cells = λ p. record { limits = L; words = set m.words (address L (place_for L p e)) (written_of L p (time_for L W e) e (get_or m.words (address L (place_for L p e)) 0)); numbers = set m.numbers s (numbers_after L e (get_or m.words (address L (place_for L p e)) 0) p) } in
          let t : time ≡ time_for L W e = time_is ∙ ap (λ (z : List ℕ). time_for L (shown L z) e) same in
          let y' : y ≡ written_of L n (time_for L W e) e (get_or m.words (address L (place_for L n e)) 0) = y_is ∙ (λ i. written_of L n (t i) e (x' i)) in
          let k' : k ≡ numbers_after L e (get_or m.words (address L (place_for L n e)) 0) n = k_is ∙ ap (λ (z : ℕ). numbers_after L e z n) x' in
          ap whole (sym is) ∙ (λ i. record { limits = L; words = set m.words (sym at i) (sym y' i); numbers = set m.numbers s (sym k' i) })

      pub next_holds : (c : Core) → Holds m c → Sound c → Holds Next (after c e)
      next_holds c holds sound = subst (λ (z : Cells). Holds z (after c e)) next_is (step_holds m core c holds sound e within (all_enabled c holds sound))

      pub next_sound : (c : Core) → Holds m c → Sound c → Sound (after c e)
      next_sound c holds sound = keeps c sound e (subst (λ (l : Limits). step.IsWithin l e) (sym holds.limits) within) (all_enabled c holds sound)

      abbrev default : Numbers
      default = numbers_of (newcomer L)

      next_idle : IsIdle (number_at Next L.sessions)
      next_idle = dite (ℕ_discrete s L.sessions)
          (λ all. subst IsIdle (sym (ap (λ (j : ℕ). get_or (set m.numbers s k) j default) (sym all) ∙ (get_or-set_same m.numbers s k default (let h = core.all in omega arith) ∙ k_is))) (merger_idle L n e x within all (subst IsIdle (ap (number_at m) (sym all) ∙ sym is) core.idle)))
          (λ ne. subst IsIdle (sym (get_or-set_other m.numbers s L.sessions k default (λ f. ne (sym f)))) core.idle)

      pub next_core : IsCore Next
      next_core = record {
        wide = length-set m.words a y ∙ core.wide;
        all = length-set m.numbers s k ∙ core.all;
        state = after c0 e;
        holds = next_holds c0 core.holds core.sound;
        sound = next_sound c0 core.holds core.sound;
        idle = next_idle;
      }

-- ---- as the call has it

module _ (held m : Cells) (view : held ≡ m) (core : IsCore m) (e : Event) (within : step.IsWithin held.limits e) (j : ℕ) (j_is : j ≡ session_of e) (n : Numbers) (n_is : n ≡ get_or m.numbers j n) where
  abbrev inside : step.IsWithin m.limits e
  inside = subst (λ (x : Cells). step.IsWithin x.limits e) view within

  session_low_here : session_of e < length m.numbers
  session_low_here = let all = core.all in dite (ℕ_discrete (session_of e) m.limits.sessions) (λ f. omega arith) (λ ne. let h = session_low m.limits e inside ne in omega arith)

  pub number_is : n ≡ number_at m (session_of e)
  number_is = n_is ∙ (ap (λ (i : ℕ). get_or m.numbers i n) j_is ∙ any_default m.numbers (session_of e) n (numbers_of (newcomer m.limits)) session_low_here)

  pub call_refused : (b : Bool) → b ≡ false → (IsTrue b ↔ Allows m.limits n e) → (c : Core) → Holds held c → Sound c → ((false ≡ true → IsEnabled c e) × (IsEnabled c e → false ≡ true)) × Unit {0}
  call_refused b refused says c holds sound = ((λ f. absurd (true≢false (sym f)), λ ok. sym refused ∙ says.1 (allowed m core e inside n number_is c (subst (λ (x : Cells). Holds x c) view holds) sound ok)), tt)

  pub call_told : (ws : List ℕ) → ws ≡ m.words → IsTold m.limits ws n e
  call_told = is_told m core e inside n number_is

  pub call_read : (ws : List ℕ) → ws ≡ m.words → IsRead m.limits ws
  call_read = is_read m core e inside n number_is

  says_here : (ws : List ℕ) → ws ≡ m.words → (b : Bool) → StandsIn m.limits ws n e b → StandsIn m.limits m.words n e b
  says_here ws same b says = subst (λ (x : List ℕ). StandsIn m.limits x n e b) same says

  pub call_stopped : (ws : List ℕ) → ws ≡ m.words → (b : Bool) → b ≡ false → StandsIn m.limits ws n e b → (c : Core) → Holds held c → Sound c → ((false ≡ true → IsEnabled c e) × (IsEnabled c e → false ≡ true)) × Unit {0}
  call_stopped ws same b refused says c holds sound = ((λ f. absurd (true≢false (sym f)), λ ok. sym refused ∙ (stood m core e inside n number_is c (subst (λ (x : Cells). Holds x c) view holds) sound b (says_here ws same b says)).1 ok.1), tt)

  module _ (ok : Allows m.limits n e) (ws : List ℕ) (same : ws ≡ m.words) (b : Bool) (yes : b ≡ true) (says : StandsIn m.limits ws n e b) where
    abbrev answer : StandsIn m.limits m.words n e b
    answer = says_here ws same b says

    pub call_stampable : (us : List ℕ) → us ≡ m.words → IsStampable (shown m.limits us) m.limits e
    call_stampable = is_stampable m core e inside n number_is ok b yes answer

    pub call_place : layout.IsWithin m.limits (place_for m.limits n e)
    call_place = place_within m core e inside n number_is ok b yes answer

    pub call_writable : IsWritable m.limits n e
    call_writable = is_writable m core e inside n number_is ok b yes answer

    pub call_time : (us : List ℕ) → us ≡ m.words → (time : ℕ) → time ≡ time_for m.limits (shown m.limits us) e → time < 2 ^ 32
    call_time = time_few m core e inside n number_is ok b yes answer

    module _ (us : List ℕ) (same' : us ≡ m.words) (time : ℕ) (time_is : time ≡ time_for m.limits (shown m.limits us) e) (a x y : ℕ) (k : Numbers) (at : a ≡ address m.limits (place_for m.limits n e)) (below : a < words_of m.limits)
        (found : x ≡ get_or m.words a x) (y_is : y ≡ written_of m.limits n time e x) (k_is : k ≡ numbers_after m.limits e x n) where
      abbrev Left : Cells
      Left = record { limits = m.limits; words = set m.words a y; numbers = set m.numbers j k }

      found_here : x ≡ get_or m.words a 0
      found_here = found ∙ any_default m.words a x 0 (let h = core.wide in omega arith)

      left_is : Next m core e inside n number_is ok b yes answer us same' time time_is a x y k at found_here y_is k_is ≡ Left
      left_is = λ i. record { limits = m.limits; words = set m.words a y; numbers = set m.numbers (sym j_is i) k }

      pub call_core : IsCore Left
      call_core = subst IsCore left_is (next_core m core e inside n number_is ok b yes answer us same' time time_is a x y k at found_here y_is k_is)

      pub call_done : (c : Core) → Holds held c → Sound c → ((true ≡ true → IsEnabled c e) × (IsEnabled c e → true ≡ true)) × ((x ≡ word_found c e) × Holds Left (after c e) × Sound (after c e))
      call_done c holds sound = let h : Holds m c = subst (λ (z : Cells). Holds z c) view holds in let able : IsEnabled c e = all_enabled m core e inside n number_is ok b yes answer c h sound in (
        (λ _. able, λ _. refl),
        (
          word_is m core e inside n number_is c h sound able a x at found_here,
          subst (λ (z : Cells). Holds z (after c e)) left_is (next_holds m core e inside n number_is ok b yes answer us same' time time_is a x y k at found_here y_is k_is c h sound),
          next_sound m core e inside n number_is ok b yes answer us same' time time_is a x y k at found_here y_is k_is c h sound,
        ),
      )
