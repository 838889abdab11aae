-- The one commit of a name in a sound history, and what is asked at its time.
use Rattle.std.proofs.Common.{◌≡◌, ◌↔◌, ℕ, ◌+◌, ◌-◌, ◌<◌, ◌≤◌, ◌⊎◌, inl, inr, Bool, true, false, cond, ◌||◌, ◌&&◌, eqb, IsTrue, List, [], ◌∷◌, ◌++◌, length, get_or, take, drop, Option, Some, None, IfSome, option_map, refl, sym, ap, ◌∙◌, subst, arith, ⊎_elim, true≢false}
use Rattle.std.specs.Prelude.{IsSomeAnd, is_some, slice_get}
use Rattle.std.specs.List.{list_any}
use Rattle.std.proofs.lemmas.Bool.{eqb-true, eqb-false, ne_eqb}
use Rattle.std.proofs.lemmas.List.{take_more, length-map, length-take-le}
use Rattle.std.proofs.lemmas.List.Folds.{list_any-append}
use Rattle.std.proofs.lemmas.Option.{slice_get-get_or, slice_get_cases, none-some, same_Some}
use Rattle.lst_model.specs.declared.commits.Commit.{Commit}
use Rattle.lst_model.specs.declared.lines.Line.{Line}
use Rattle.lst_model.specs.declared.lines.Line.TheVariants.{Phase, Merge, Call}
use Rattle.lst_model.specs.declared.lines.Call.{Call as CallKind}
use Rattle.lst_model.specs.declared.replies.Reply.{Reply}
use Rattle.lst_model.specs.Tables.{Rows}
use Rattle.lst_model.specs.Histories.{snapshot}
use Rattle.lst_model.specs.Soundness.{IsSound}
use Rattle.lst_replies.specs.declared.states.Transaction.{Transaction}
use Rattle.lst_replies.specs.declared.states.SessionState.{SessionState}
use Rattle.lst_replies.specs.Runs.{Answered, AtEachCall, speaker_of}
use Rattle.lst_replies.specs.States.{state_of}
use Rattle.lst_replies.specs.Explained.{commit_at, is_numbered}
use Rattle.lst_legal_runs.specs.declared.marks.Marks.{Marks}
use Rattle.lst_legal_runs.specs.Firsts.{IsFirst, AreFirstNumbers}
use Rattle.lst_legal_runs.specs.Marks.{number_at}
use Rattle.lst_legal_runs.specs.declared.outlines.StateOutline.{StateOutline}
use Rattle.lst_legal_runs.specs.declared.places.Place.{Place}
use Rattle.lst_legal_runs.specs.Outlines.{outline_of, outline_of_open}
use Rattle.lst_legal_runs.specs.Places.{AreTraced, AtEach, IfCall, outline_at, run_at, seen_at}
use Rattle.lst_legal_runs.proofs.Behind.{begun-le}
use Rattle.lst_legal_runs.proofs.Placing.{traced_read}
use Rattle.lst_legal_runs.proofs.Splits.{split_at, of_calls, calls_of}
use Rattle.lst_snapshots.specs.declared.sight.Sight.{Sight}
use Rattle.lst_snapshots.specs.Sights.{seen}
use Rattle.lst_legal.specs.Sights.{ShowsAt, IsSightOf, begun_time, Opens}
use Rattle.lst_serial_laws.specs.Answers.{IsAnsweredBy}
use Rattle.lst_serial_laws.specs.Legal.{IsCommitOf, IsAtSerialPlace}
use Rattle.lst_legal.specs.Serials.{time_before, from_place, IsSeenAt, TellsPlace}

-- ---- a commit that passes a test

pub record Passing (test : Commit → Bool) (commits : List Commit) : Type 0 where
  pub before : List Commit
  pub one : Commit
  pub after : List Commit
  pub split : commits ≡ before ++ one ∷ after
  pub passes : test one ≡ true

passing : (test : Commit → Bool) (commits : List Commit) → list_any test commits ≡ true → Passing test commits
passing test [] any = absurd (cc)
passing test (commit ∷ commits) any = by_test (test commit) refl (λ more. passing test commits more)
  where
    by_test : (b : Bool) → test commit ≡ b → (list_any test commits ≡ true → Passing test commits) → Passing test (commit ∷ commits)
    by_test true is behind = record { before = []; one = commit; after = commits; split = refl; passes = is }
    by_test false is behind =
        let rest = behind (ap (λ (b : Bool). b || list_any test commits) (sym is) ∙ any) in
        record { before = commit ∷ rest.before; one = rest.one; after = rest.after; split = ap (λ cs. commit ∷ cs) rest.split; passes = rest.passes }

-- the commit at a time, with its place
record Here (history : List Commit) (test : Commit → Bool) (time : ℕ) : Type 0 where
  pub commit : Commit
  pub low : 0 < time
  pub high : time ≤ length history
  pub read : get_or history (time - 1) commit ≡ commit
  pub passes : test commit ≡ true

here : (history : List Commit) (test : Commit → Bool) (time : ℕ) → IsSomeAnd (commit_at history time) (λ commit. IsTrue (test commit)) → Here history test time
here history test time is = by_zero (eqb time 0) refl is
  where
    by_read : (slice_get history (time - 1) ≡ slice_get history (time - 1)) × (((x : Commit) × (time - 1 < length history) × (slice_get history (time - 1) ≡ Some x) × (get_or history (time - 1) x ≡ x)) ⊎ ((length history ≤ time - 1) × (slice_get history (time - 1) ≡ None)))
        → 0 < time → IsSomeAnd (slice_get history (time - 1)) (λ commit. IsTrue (test commit)) → Here history test time
    by_read cases low h = ⊎_elim
        (λ found. record {
          commit = found.0;
          low = low;
          high = let inside = found.1 in omega (arith, inside, low);
          read = found.3;
          passes = subst (λ (o : Option Commit). IsSomeAnd o (λ commit. IsTrue (test commit))) found.2 h;
        })
        (λ none. absurd (subst (λ (o : Option Commit). IsSomeAnd o (λ commit. IsTrue (test commit))) none.1 h))
        cases.1

    by_zero : (b : Bool) → eqb time 0 ≡ b → IsSomeAnd (cond b None (slice_get history (time - 1))) (λ commit. IsTrue (test commit)) → Here history test time
    by_zero true e h = absurd h
    by_zero false e h = let some = eqb-false time 0 e in by_read (slice_get_cases history (time - 1)) (omega (arith, some)) h

pub read_at : (history : List Commit) (time : ℕ) (d : Commit) → 0 < time → time ≤ length history → commit_at history time ≡ Some (get_or history (time - 1) d)
read_at history time d low high =
    ap (λ b. cond b None (slice_get history (time - 1))) (ne_eqb time 0 (λ same. absurd (omega (arith, same, low))))
    ∙ slice_get-get_or history (time - 1) d (omega arith)

-- ---- the first commit of a name is the only one

module _ (history : List Commit) (sound : IsSound history) (session number first : ℕ) (is : IsFirst (is_numbered session number) history first) where
  any_taken : (time : ℕ) → Here history (is_numbered session number) time → list_any (is_numbered session number) (take time history) ≡ true
  any_taken time h =
      let back : (time - 1) + 1 ≡ time = let low = h.low in omega arith in
      let more : take time history ≡ take (time - 1) history ++ h.commit ∷ [] =
      ap (λ n. take n history) (sym back) ∙ take_more history (time - 1) h.commit (let low = h.low in let high = h.high in omega arith) ∙ ap (λ x. take (time - 1) history ++ x ∷ []) h.read in
      ap (list_any (is_numbered session number)) more ∙ list_any-append (is_numbered session number) (take (time - 1) history) (h.commit ∷ [])
      ∙ ap (λ b. list_any (is_numbered session number) (take (time - 1) history) || (b || false)) h.passes ∙ or_true (list_any (is_numbered session number) (take (time - 1) history))
    where
      or_true : (b : Bool) → (b || (true || false)) ≡ true
      or_true true = refl
      or_true false = refl

  both_same : (commit : Commit) → is_numbered session number commit ≡ true → (commit.session ≡ session) × (commit.number ≡ number)
  both_same commit passes = by_test (eqb commit.session session) (eqb commit.number number) refl refl passes
    where
      by_test : (b c : Bool) → eqb commit.session session ≡ b → eqb commit.number number ≡ c → (b && c) ≡ true → (commit.session ≡ session) × (commit.number ≡ number)
      by_test true true e f both = (eqb-true commit.session session e, eqb-true commit.number number f)
      by_test true false e f both = absurd (cc)
      by_test false c e f both = absurd (cc)

  -- no later one
  not_later : (time : ℕ) → Here history (is_numbered session number) time → first < time → 0 < first → ⊥
  not_later time h later some =
      let front = take (time - 1) history in
      let split : history ≡ front ++ h.commit ∷ drop ((time - 1) + 1) history =
      split_at history (time - 1) h.commit (let low = h.low in let high = h.high in omega arith) ∙ ap (λ x. take (time - 1) history ++ x ∷ drop ((time - 1) + 1) history) h.read in
      let follows = sound front h.commit (drop ((time - 1) + 1) history) split in
      let earlier = passing (is_numbered session number) front ((is.by (time - 1)).1 (some, omega arith)) in
      let names = both_same h.commit h.passes in
      let others = both_same earlier.one earlier.passes in
      let below : earlier.one.number < h.commit.number = follows.numbers earlier.before earlier.one earlier.after earlier.split (others.0 ∙ sym names.0) in
      let n = names.1 in
      let m = others.1 in
      omega (arith, below, n, m)

  pub only_at : (time : ℕ) → IsCommitOf history session number time → (0 < first) × (time ≡ first)
  only_at time at =
      let h = here history (is_numbered session number) time at in
      let within = (is.by time).0 (any_taken time h) in
      (within.0, by_order (cases time within.1) h within.0)
    where
      cases : (time : ℕ) → first ≤ time → (first < time) ⊎ (time ≡ first)
      cases time le = by_test (eqb time first) refl
        where
          by_test : (b : Bool) → eqb time first ≡ b → (first < time) ⊎ (time ≡ first)
          by_test true e = inr (eqb-true time first e)
          by_test false e = let ne = eqb-false time first e in inl (omega (arith, ne, le))

      by_order : (first < time) ⊎ (time ≡ first) → Here history (is_numbered session number) time → 0 < first → time ≡ first
      by_order order h some = ⊎_elim (λ later. absurd (not_later time h later some)) (λ same. same) order

  pub first_at : (d : Commit) → 0 < first → IsCommitOf history session number first
  first_at d some =
      let most = is.most in
      let back : (first - 1) + 1 ≡ first = omega arith in
      let x = get_or history (first - 1) d in
      let taken : take first history ≡ take (first - 1) history ++ x ∷ [] = ap (λ n. take n history) (sym back) ∙ take_more history (first - 1) d (omega (arith, most, some)) in
      let all : list_any (is_numbered session number) (take first history) ≡ true = (is.by first).1 (some, omega arith) in
      subst (λ (o : Option Commit). IsSomeAnd o (λ commit. IsTrue (is_numbered session number commit))) (sym (read_at history first d some most))
      (by_last (list_any (is_numbered session number) (take (first - 1) history)) (is_numbered session number x) refl
      (sym (list_any-append (is_numbered session number) (take (first - 1) history) (x ∷ [])) ∙ ap (list_any (is_numbered session number)) (sym taken) ∙ all))
    where
      by_last : (b c : Bool) → list_any (is_numbered session number) (take (first - 1) history) ≡ b → (b || (c || false)) ≡ true → c ≡ true
      by_last b true e any = refl
      by_last true false e any = absurd (let h = ((is.by (first - 1)).0 e).1 in omega (arith, h, some))
      by_last false false e any = absurd (cc)

-- ---- what is asked at that time

-- a history with a commit has some commit
some_commit : (history : List Commit) → 0 < length history → Commit
some_commit [] less = absurd (omega (arith, less))
some_commit (commit ∷ commits) less = commit

module _ (history : List Commit) (sound : IsSound history) (firsts : Marks) (named : AreFirstNumbers firsts history) where
  placed : (session : ℕ) (transaction : Transaction) (call : CallKind) (reply : Reply)
      → IfSome (time_before (number_at firsts session transaction.number 0)) (λ time. IsAnsweredBy (snapshot history time transaction.writes) call reply)
      ↔ ((time : ℕ) → IsCommitOf history session transaction.number time → IsAnsweredBy (snapshot history (time - 1) transaction.writes) call reply)
  placed session transaction call reply = by_zero (eqb first 0) refl
    where
      first : ℕ
      first = number_at firsts session transaction.number 0

      is : IsFirst (is_numbered session transaction.number) history first
      is = named session transaction.number

      Told : ℕ → Type 0
      Told time = IsAnsweredBy (snapshot history time transaction.writes) call reply

      by_zero : (b : Bool) → eqb first 0 ≡ b → IfSome (cond b None (Some (first - 1))) Told ↔ ((time : ℕ) → IsCommitOf history session transaction.number time → Told (time - 1))
      by_zero true e = (
        (λ h time at. absurd (let zero = eqb-true first 0 e in let some = (only_at history sound session transaction.number first is time at).0 in omega (arith, zero, some))),
        (λ h. tt),
      )
      by_zero false e =
          let ne = eqb-false first 0 e in
          let some : 0 < first = omega (arith, ne) in
          let most = is.most in (
            (λ h time at. subst (λ t. Told (t - 1)) (sym (only_at history sound session transaction.number first is time at).1) h),
            (λ h. h first (first_at history sound session transaction.number first is (some_commit history (omega (arith, some, most))) some)),
          )

  at_state : (session : ℕ) (current : Option Transaction) (call : CallKind) (reply : Reply) → IsSeenAt history (from_place firsts session) current call reply ↔ IsAtSerialPlace history session current call reply
  at_state session None call reply = ((λ h. h), (λ h. h))
  at_state session (Some transaction) call reply = placed session transaction call reply

  abbrev pub InPlace : List Answered → Type 0
  InPlace run = AtEachCall (λ before session call reply. IsAtSerialPlace history session (state_of session before).current call reply) run

  pub in_place_of : (run : List Answered) → AtEach (TellsPlace history (from_place firsts)) run → InPlace run
  in_place_of run each before session call reply after e =
      (at_state session (state_of session before).current call reply).0 (calls_of (λ before session call reply. IsSeenAt history (from_place firsts session) (state_of session before).current call reply) run each before session call reply after e)

  pub of_in_place : (run : List Answered) → InPlace run → AtEach (TellsPlace history (from_place firsts)) run
  of_in_place run in_place = of_calls (λ before session call reply. IsSeenAt history (from_place firsts session) (state_of session before).current call reply) run
      (λ before session call reply after e. (at_state session (state_of session before).current call reply).1 (in_place before session call reply after e))

-- ---- a sight that opens

pub begun_few : (places : List Place) (i : ℕ) (place : Place) → i < length places → place ≡ get_or places i place → AreTraced places → place.outline.begun ≤ i
begun_few places i place below is traced = by_speaker (speaker_of (seen_at place).line) (traced_read places i place below is traced)
  where
    short : length (run_at (take i places)) ≡ i
    short = length-map (take i places) seen_at ∙ length-take-le i places (omega arith)

    by_speaker : (speaker : Option ℕ) → place.outline ≡ outline_at (run_at (take i places)) speaker → place.outline.begun ≤ i
    by_speaker None at = let none : place.outline.begun ≡ 0 = ap (λ (o : StateOutline). o.begun) at in omega (arith, none)
    by_speaker (Some session) at =
        let same : place.outline.begun ≡ (state_of session (run_at (take i places))).begun = ap (λ (o : StateOutline). o.begun) at in
        let few = begun-le session (run_at (take i places)) in
        let all = short in
        omega (arith, same, few, all)

pub place_opens : (firsts : Marks) (front : List Answered) (place : Place) (opening : Option ℕ) → place.outline ≡ outline_at front (speaker_of (seen_at place).line)
    → IfCall (λ session call reply. opening ≡ from_place firsts session (place.outline.begun + 1) 0) (seen_at place).line (seen_at place).reply
    → IfCall (λ session call reply. Opens (from_place firsts session) (state_of session front) reply opening) (seen_at place).line (seen_at place).reply
place_opens firsts front place opening is opens = by_line (seen_at place).line is opens
  where
    if_any : {A : Type 0} (time : Option ℕ) → A → IfSome time (λ begin. A)
    if_any None a = tt
    if_any (Some time) a = a

    by_line : (line : Line) → place.outline ≡ outline_at front (speaker_of line)
        → IfCall (λ session call reply. opening ≡ from_place firsts session (place.outline.begun + 1) 0) line (seen_at place).reply
        → IfCall (λ session call reply. Opens (from_place firsts session) (state_of session front) reply opening) line (seen_at place).reply
    by_line Phase at h = tt
    by_line (Merge range column) at h = tt
    by_line (Call session call) at h = if_any (begun_time (seen_at place).reply) (h ∙ ap (λ (o : StateOutline). from_place firsts session (o.begun + 1) 0) at)

-- ---- what a sight shows

-- an outline tells whether a transaction is open
pub opened_same : (outline : StateOutline) (state : SessionState) → outline ≡ outline_of state → is_some outline.current ≡ is_some state.current
opened_same outline state same = ap (λ (o : StateOutline). is_some o.current) same ∙ by_current state.current
  where
    by_current : (current : Option Transaction) → is_some (option_map outline_of_open current) ≡ is_some current
    by_current None = refl
    by_current (Some transaction) = refl

-- where no transaction is open, nothing is asked
pub unopened_told : (history : List Commit) (at : ℕ → ℕ → Option ℕ) (state : SessionState) (call : CallKind) (reply : Reply) → is_some state.current ≡ false → IsSeenAt history at state.current call reply
unopened_told history at state call reply none = by_current state.current none
  where
    by_current : (current : Option Transaction) → is_some current ≡ false → IsSeenAt history at current call reply
    by_current None none = tt
    by_current (Some transaction) none = absurd (cc)

module _ (history : List Commit) (at : ℕ → ℕ → Option ℕ) (sight : Option Sight) (state : SessionState) (call : CallKind) (reply : Reply) where
  -- where a transaction is not looked at, nothing is asked
  pub unseen_told : IsSightOf history at sight state → sight ≡ None → IsSeenAt history at state.current call reply
  unseen_told is none = by_current state.current refl
    where
      by_time : (transaction : Transaction) (time : Option ℕ) → ShowsAt history sight transaction.writes time → IfSome time (λ t. IsAnsweredBy (snapshot history t transaction.writes) call reply)
      by_time transaction None shows = tt
      by_time transaction (Some time) shows = absurd (none-some shows.now (sym none ∙ shows.is))

      by_current : (current : Option Transaction) → state.current ≡ current → IsSeenAt history at current call reply
      by_current None e = tt
      by_current (Some transaction) e = by_time transaction (at transaction.number transaction.begin) (is transaction e)

  -- and else what decides for the sight decides for the transaction
  pub seen_told : (now : Sight) (b : Bool) → IsSightOf history at sight state → is_some state.current ≡ true → sight ≡ Some now
      → IsTrue b ↔ IsAnsweredBy (seen history now) call reply → IsTrue b ↔ IsSeenAt history at state.current call reply
  seen_told now b is opened here decides = by_current state.current refl
    where
      by_time : (transaction : Transaction) (time : Option ℕ) → ShowsAt history sight transaction.writes time → IsTrue b ↔ IfSome time (λ t. IsAnsweredBy (snapshot history t transaction.writes) call reply)
      by_time transaction None shows = absurd (none-some now (sym shows ∙ here))
      by_time transaction (Some time) shows =
          let same : shows.now ≡ now = same_Some shows.now now (sym shows.is ∙ here) in
          subst (λ (table : Rows). IsTrue b ↔ IsAnsweredBy table call reply) (ap (λ (s : Sight). seen history s) (sym same) ∙ shows.shows) decides

      by_current : (current : Option Transaction) → state.current ≡ current → IsTrue b ↔ IsSeenAt history at current call reply
      by_current None e = absurd (true≢false (sym opened ∙ ap (λ (o : Option Transaction). is_some o) e))
      by_current (Some transaction) e = by_time transaction (at transaction.number transaction.begin) (is transaction e)
