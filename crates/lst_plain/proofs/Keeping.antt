-- What is always so of an engine stays so.
use Rattle.std.proofs.Common.{◌≡◌, ℕ, zero, suc, ◌+◌, ◌*◌, ◌/◌, ◌^◌, ◌<◌, ◌≤◌, Bool, true, false, cond, not, List, [], ◌∷◌, ◌++◌, length, get_or, set, map, refl, sym, ap, ◌∙◌, subst, arith, ⊎_elim, inl, ◌⊎◌, get_or-set_same, get_or-set_other, length-append, length-set}
use Rattle.std.proofs.lemmas.Bool.{eqb-true, eq-eqb, leb-false, cases_lt}
use Rattle.std.proofs.lemmas.List.{length-map, get_or-map, get_or_append_left, get_or_default, set-get_or, set-set}
use Rattle.std.proofs.lemmas.List.Elements.{Contains-append_left, Contains-push, Contains-push_cases}
use Rattle.std.proofs.lemmas.List.Sums.{sum_by-set, sum_by-le}
use Rattle.std.proofs.Math.Nat.{mul-le-mul_right}
use Rattle.std.proofs.Math.Seq.{get_or-append_seam}
use Rattle.std.specs.Prelude.{Option, Some, None, is_some, unwrap_or, nat_le, ◌==◌, ◌&&◌, ◌||◌}
use Rattle.std.specs.List.{Contains}
use Rattle.lst_model.specs.declared.replies.Cause.TheVariants.{Active, Spent}
use Rattle.lst_model.specs.Cells.{Cell}
use Rattle.lst_machine.specs.Calls.{first_of, where_true}
use Rattle.lst_machine.specs.declared.answers.Transaction.{Transaction}
use Rattle.lst_plain.specs.declared.versions.Pending.{Pending}
use Rattle.lst_plain.specs.Rows.{Kept, fresh, newest, settled, settled_row, settled_beside, with_pending, conflict_in, is_held}
use Rattle.lst_plain.specs.Sessions.{SessionState, new_session, noted_places}
use Rattle.lst_plain.specs.Engines.{EngineState, session_of, is_open, open_count, is_among, IsWhole}
use Rattle.lst_plain.specs.Steps.{refusal_of_begin, with_transaction, with_record, with_write, with_end, kept_at}
use Rattle.lst_plain.proofs.Timed.{newest-append}
use Rattle.lst_plain.proofs.Opening.{at_each, apart}
use Rattle.lst_plain.proofs.Accepting.{swapped, free_own, free_not_held}
use Rattle.lst_plain.proofs.Ending.{held_settled}

pub contained : (places : List ℕ) (place : ℕ) → is_among places place ≡ true → Contains places place
contained [] place is = absurd (cc)
contained (first ∷ rest) place is = at_test (contained rest place) (first == place) refl is
  where
    at_test : (is_among rest place ≡ true → Contains rest place) → (b : Bool) → (first == place) ≡ b → (b || is_among rest place) ≡ true → Contains (first ∷ rest) place
    at_test further true same is = (0, omega arith, eqb-true _ _ same)
    at_test further false other is = let at = further is in (suc at.0, let low = at.1 in omega arith, at.2)

pub among : (places : List ℕ) (place index : ℕ) → index < length places → get_or places index place ≡ place → is_among places place ≡ true
among [] place index low is = absurd (omega arith)
among (first ∷ rest) place zero low is = ap (λ b. b || is_among rest place) (eq-eqb first place is)
among (first ∷ rest) place (suc index) low is = ap (λ b. first == place || b) (among rest place index (omega arith) is) ∙ either (first == place)
  where
    either : (b : Bool) → (b || true) ≡ true
    either true = refl
    either false = refl

pub is_contained : (places : List ℕ) (place : ℕ) → Contains places place → is_among places place ≡ true
is_contained places place at = among places place at.0 at.1 at.2

noted_last : (b : Bool) (places : List ℕ) (place : ℕ) → (b ≡ true → Contains places place) → Contains (noted_places b places place) place
noted_last true places place old = old refl
noted_last false places place old = Contains-push places place

noted_more : (b : Bool) (places : List ℕ) (place other : ℕ) → Contains places other → Contains (noted_places b places place) other
noted_more true places place other old = old
noted_more false places place other old = Contains-append_left places (place ∷ []) other old

noted_cases : (b : Bool) (places : List ℕ) (place other : ℕ) → Contains (noted_places b places place) other → Contains places other ⊎ (place ≡ other)
noted_cases true places place other is = inl is
noted_cases false places place other is = Contains-push_cases places place other is

-- what holds of the changed session and of all old ones
session_each : (engine : EngineState) (s : ℕ) (state : SessionState) → s < length engine.sessions → (P : SessionState → Type 0) → P state → ((j : ℕ) → P (session_of engine j)) → (j : ℕ) → P (get_or (set engine.sessions s state) j new_session)
session_each engine s state within P here old = at_each (λ j. P (get_or (set engine.sessions s state) j new_session)) s
    (subst P (sym (get_or-set_same engine.sessions s state new_session within)) here)
    (λ j other. subst P (sym (get_or-set_other engine.sessions s j state new_session (apart j s other))) (old j))

pub whole_opened : (engine : EngineState) (s : ℕ) (transaction : Transaction) → IsWhole engine → s < length engine.sessions → (session_of engine s).transaction ≡ None → (session_of engine s).begins < engine.limits.txns → IsWhole (with_transaction engine s transaction)
whole_opened engine s transaction whole within closed few = record {
  valid = whole.valid;
  sessions = length-set engine.sessions s (record (session_of engine s) { begins = (session_of engine s).begins + 1; transaction = Some transaction }) ∙ whole.sessions;
  ranges = whole.ranges;
  records = whole.records;
  accepted = whole.accepted;
  begins = session_each engine s (record (session_of engine s) { begins = (session_of engine s).begins + 1; transaction = Some transaction }) within
      (λ state. state.begins ≤ engine.limits.txns) (omega arith) whole.begins;
  written = session_each engine s (record (session_of engine s) { begins = (session_of engine s).begins + 1; transaction = Some transaction }) within
      (λ state. (place : ℕ) → Contains state.written place → place < length engine.records) (whole.written s) whole.written;
  noted = λ j place kept low inside is. ap (λ places. is_among places place) (same_written j) ∙ whole.noted j place kept low inside is;
  held = λ j place kept contains. whole.held j place kept (subst (λ places. Contains places place) (same_written j) contains);
  early = whole.early;
  clock =
      let counts = sum_by-set open_count engine.sessions s (record (session_of engine s) { begins = (session_of engine s).begins + 1; transaction = Some transaction }) new_session within in
      let numbers = sum_by-set (λ (state : SessionState). state.begins) engine.sessions s (record (session_of engine s) { begins = (session_of engine s).begins + 1; transaction = Some transaction }) new_session within in
      let none : open_count (session_of engine s) ≡ 0 = ap (λ t. cond (is_some t) 1 0) closed in
      let before = whole.clock in
      omega (arith, counts, numbers, none, before);
}
  where
    same_written : (j : ℕ) → (session_of (with_transaction engine s transaction) j).written ≡ (session_of engine j).written
    same_written = at_each (λ j. (session_of (with_transaction engine s transaction) j).written ≡ (session_of engine j).written) s
        (ap (λ (state : SessionState). state.written) (get_or-set_same engine.sessions s (record (session_of engine s) { begins = (session_of engine s).begins + 1; transaction = Some transaction }) new_session within))
        (λ j other. ap (λ (state : SessionState). state.written) (get_or-set_other engine.sessions s j (record (session_of engine s) { begins = (session_of engine s).begins + 1; transaction = Some transaction }) new_session (apart j s other)))

pub whole_placed : (engine : EngineState) (key : ℕ) → IsWhole engine → length engine.records < 256 * engine.limits.ranges → IsWhole (with_record engine key)
whole_placed engine key whole few =
    let more = length-append engine.records (fresh key ∷ []) in
    record {
      valid = whole.valid;
      sessions = whole.sessions;
      ranges = whole.ranges;
      records = omega (arith, more);
      accepted = whole.accepted;
      begins = whole.begins;
      written = λ session place contains. let low = whole.written session place contains in omega (arith, more);
      noted = λ session place kept low inside is. ⊎_elim
          (λ (before : place < length engine.records). whole.noted session place kept low before (sym (ap (λ (k : Kept). is_held k.pending session) (get_or_append_left engine.records (fresh key ∷ []) kept place before)) ∙ is))
          (λ (after : length engine.records ≤ place).
          let at : length engine.records ≡ place = omega (arith, more) in
          let none : false ≡ true = sym (ap (λ (k : Kept). is_held k.pending session) (ap (λ p. get_or (engine.records ++ fresh key ∷ []) p kept) (sym at) ∙ get_or-append_seam engine.records (fresh key) [] kept)) ∙ is in
          absurd (cc))
          (cases_lt place (length engine.records));
      held = λ session place kept contains. ap (λ (k : Kept). is_held k.pending session) (get_or_append_left engine.records (fresh key ∷ []) kept place (whole.written session place contains)) ∙ whole.held session place kept contains;
      early = λ place kept low. ⊎_elim
          (λ (before : place < length engine.records). subst (λ (k : Kept). newest k.versions ≤ engine.clock) (sym (get_or_append_left engine.records (fresh key ∷ []) kept place before)) (whole.early place kept before))
          (λ (after : length engine.records ≤ place). let at : length engine.records ≡ place = omega (arith, more) in
          subst (λ (p : ℕ). newest (get_or (engine.records ++ fresh key ∷ []) p kept).versions ≤ engine.clock) at
          (subst (λ (k : Kept). newest k.versions ≤ engine.clock) (sym (get_or-append_seam engine.records (fresh key) [] kept)) (omega arith)))
          (cases_lt place (length engine.records));
      clock = whole.clock;
    }

-- with the last record taken back
pub whole_taken : (engine : EngineState) (key : ℕ) → IsWhole (with_record engine key) → ((session place : ℕ) → Contains (session_of engine session).written place → place < length engine.records) → IsWhole engine
whole_taken engine key whole written =
    let more = length-append engine.records (fresh key ∷ []) in
    let few = whole.records in
    record {
      valid = whole.valid;
      sessions = whole.sessions;
      ranges = whole.ranges;
      records = omega (arith, more, few);
      accepted = whole.accepted;
      begins = whole.begins;
      noted = λ session place kept low inside is. whole.noted session place kept low (omega (arith, more)) (ap (λ (k : Kept). is_held k.pending session) (get_or_append_left engine.records (fresh key ∷ []) kept place inside) ∙ is);
      held = λ session place kept contains. sym (ap (λ (k : Kept). is_held k.pending session) (get_or_append_left engine.records (fresh key ∷ []) kept place (written session place contains))) ∙ whole.held session place kept contains;
      written = written;
      early = λ place kept low. subst (λ (k : Kept). newest k.versions ≤ engine.clock) (get_or_append_left engine.records (fresh key ∷ []) kept place low) (whole.early place kept (omega (arith, more)));
      clock = whole.clock;
    }

module _ (engine : EngineState) (s place begin : ℕ) (row : Option (List Cell)) (whole : IsWhole engine) (within : s < length engine.sessions) (low : place < length engine.records)
    (few : get_or engine.accepted (place / 256) 0 < engine.limits.tails) (free : conflict_in (kept_at engine place) s begin ≡ None) where
  abbrev made : Kept
  made = with_pending (kept_at engine place) (record { session = s; number = (session_of engine s).begins; row = row })

  abbrev state : SessionState
  state = record (session_of engine s) { written = noted_places (is_held (kept_at engine place).pending s) (session_of engine s).written place }

  same : length (set engine.records place made) ≡ length engine.records
  same = length-set engine.records place made

  held_made : (k0 : Kept) (j : ℕ) → is_held (get_or (set engine.records place made) place k0).pending j ≡ (s == j)
  held_made k0 j = ap (λ (k : Kept). is_held k.pending j) (get_or-set_same engine.records place made k0 low)

  held_else : (k0 : Kept) (i j : ℕ) → (i == place) ≡ false → is_held (get_or (set engine.records place made) i k0).pending j ≡ is_held (get_or engine.records i k0).pending j
  held_else k0 i j else = ap (λ (k : Kept). is_held k.pending j) (get_or-set_other engine.records place i made k0 (apart i place else))

  noted_here : s < engine.limits.sessions → (i : ℕ) (k0 : Kept) → i < length engine.records → is_held (get_or (set engine.records place made) i k0).pending s ≡ true → Contains state.written i
  noted_here under i k0 = at_each (λ i. i < length engine.records → is_held (get_or (set engine.records place made) i k0).pending s ≡ true → Contains state.written i) place
      (λ _ is. noted_last (is_held (kept_at engine place).pending s) (session_of engine s).written place (λ own. contained _ _ (whole.noted s place (fresh 0) under low own)))
      (λ i else below is. noted_more (is_held (kept_at engine place).pending s) (session_of engine s).written place i (contained _ _ (whole.noted s i k0 under below (sym (held_else k0 i s else) ∙ is))))
      i

  noted_there : (j : ℕ) → (j == s) ≡ false → j < engine.limits.sessions → (i : ℕ) (k0 : Kept) → i < length engine.records → is_held (get_or (set engine.records place made) i k0).pending j ≡ true → Contains (session_of engine j).written i
  noted_there j other under i k0 = at_each (λ i. i < length engine.records → is_held (get_or (set engine.records place made) i k0).pending j ≡ true → Contains (session_of engine j).written i) place
      (λ _ is. let none : false ≡ true = sym (held_made k0 j ∙ swapped j s other) ∙ is in absurd (cc))
      (λ i else below is. contained _ _ (whole.noted j i k0 under below (sym (held_else k0 i j else) ∙ is)))
      i

  held_here : (i : ℕ) (k0 : Kept) → Contains state.written i → is_held (get_or (set engine.records place made) i k0).pending s ≡ true
  held_here i k0 = at_each (λ i. Contains state.written i → is_held (get_or (set engine.records place made) i k0).pending s ≡ true) place
      (λ _. held_made k0 s ∙ eq-eqb s s refl)
      (λ i else contains. held_else k0 i s else ∙ ⊎_elim (λ (old : Contains (session_of engine s).written i). whole.held s i k0 old) (λ (is : place ≡ i). absurd (apart i place else (sym is)))
      (noted_cases (is_held (kept_at engine place).pending s) (session_of engine s).written place i contains))
      i

  held_there : (j : ℕ) → (j == s) ≡ false → (i : ℕ) (k0 : Kept) → Contains (session_of engine j).written i → is_held (get_or (set engine.records place made) i k0).pending j ≡ true
  held_there j other i k0 = at_each (λ i. Contains (session_of engine j).written i → is_held (get_or (set engine.records place made) i k0).pending j ≡ true) place
      (λ contains. let none : false ≡ true = sym (free_not_held (kept_at engine place) s begin free j (swapped j s other)) ∙ whole.held j place (fresh 0) contains in absurd (cc))
      (λ i else contains. held_else k0 i j else ∙ whole.held j i k0 contains)
      i

  places_here : (session_of (with_write engine s place row) s).written ≡ state.written
  places_here = ap (λ (state : SessionState). state.written) (get_or-set_same engine.sessions s state new_session within)

  places_there : (j : ℕ) → (j == s) ≡ false → (session_of (with_write engine s place row) j).written ≡ (session_of engine j).written
  places_there j other = ap (λ (state : SessionState). state.written) (get_or-set_other engine.sessions s j state new_session (apart j s other))

  pub whole_written : IsWhole (with_write engine s place row)
  whole_written = record {
    valid = whole.valid;
    sessions = length-set engine.sessions s state ∙ whole.sessions;
    ranges = length-set engine.accepted (place / 256) (get_or engine.accepted (place / 256) 0 + 1) ∙ whole.ranges;
    records = let fits = whole.records in omega (arith, same, fits);
    accepted = λ range. ⊎_elim
        (λ (inside : place / 256 < length engine.accepted). at_each (λ range. get_or (set engine.accepted (place / 256) (get_or engine.accepted (place / 256) 0 + 1)) range 0 ≤ engine.limits.tails) (place / 256)
        (let here = get_or-set_same engine.accepted (place / 256) (get_or engine.accepted (place / 256) 0 + 1) 0 inside in omega (arith, here))
        (λ range other. let there = get_or-set_other engine.accepted (place / 256) range (get_or engine.accepted (place / 256) 0 + 1) 0 (apart range (place / 256) other) in let fits = whole.accepted range in omega (arith, there, fits))
        range)
        (λ (outside : length engine.accepted ≤ place / 256). let fits = whole.records in let all = whole.ranges in absurd (omega arith))
        (cases_lt (place / 256) (length engine.accepted));
    begins = session_each engine s state within (λ state. state.begins ≤ engine.limits.txns) (whole.begins s) whole.begins;
    noted = at_each (λ j. (i : ℕ) (k0 : Kept) → j < engine.limits.sessions → i < length (set engine.records place made) → is_held (get_or (set engine.records place made) i k0).pending j ≡ true → is_among (session_of (with_write engine s place row) j).written i ≡ true) s
        (λ i k0 under inside is. ap (λ places. is_among places i) places_here ∙ is_contained _ _ (noted_here under i k0 (omega (arith, same)) is))
        (λ j other i k0 under inside is. ap (λ places. is_among places i) (places_there j other) ∙ is_contained _ _ (noted_there j other under i k0 (omega (arith, same)) is));
    held = at_each (λ j. (i : ℕ) (k0 : Kept) → Contains (session_of (with_write engine s place row) j).written i → is_held (get_or (set engine.records place made) i k0).pending j ≡ true) s
        (λ i k0 contains. held_here i k0 (subst (λ places. Contains places i) places_here contains))
        (λ j other i k0 contains. held_there j other i k0 (subst (λ places. Contains places i) (places_there j other) contains));
    written = session_each engine s state within
        (λ state. (other : ℕ) → Contains state.written other → other < length (set engine.records place made))
        (λ other contains. ⊎_elim
        (λ (old : Contains (session_of engine s).written other). let inside = whole.written s other old in omega (arith, same))
        (λ (is : place ≡ other). omega (arith, same))
        (noted_cases (is_held (kept_at engine place).pending s) (session_of engine s).written place other contains))
        (λ j other contains. let inside = whole.written j other contains in omega (arith, same));
    early = λ other kept. at_each (λ other. other < length (set engine.records place made) → newest (get_or (set engine.records place made) other kept).versions ≤ engine.clock) place
        (λ _. subst (λ (k : Kept). newest k.versions ≤ engine.clock) (sym (get_or-set_same engine.records place made kept low)) (whole.early place (fresh 0) low))
        (λ other else under. subst (λ (k : Kept). newest k.versions ≤ engine.clock) (sym (get_or-set_other engine.records place other made kept (apart other place else))) (whole.early other kept (omega (arith, same))))
        other;
    clock =
        let counts = sum_by-set open_count engine.sessions s state new_session within in
        let numbers = sum_by-set (λ (state : SessionState). state.begins) engine.sessions s state new_session within in
        let before = whole.clock in
        omega (arith, counts, numbers, before);
  }

-- the end of a transaction leaves the versions early
pub early_settled : (time : Option ℕ) (s clock : ℕ) (kept : Kept) → newest kept.versions ≤ clock → ((t : ℕ) → time ≡ Some t → t ≤ clock) → newest (settled time s kept).versions ≤ clock
early_settled time s clock kept early late = at kept.pending time late
  where
    at_time : (pending : Pending) (time : Option ℕ) → ((t : ℕ) → time ≡ Some t → t ≤ clock) → newest (settled_row time kept pending).versions ≤ clock
    at_time pending None late = early
    at_time pending (Some t) late = let last = newest-append kept.versions (record { time = t; row = pending.row }) in let low = late t refl in omega (arith, last, low)

    at_test : (pending : Pending) (time : Option ℕ) → ((t : ℕ) → time ≡ Some t → t ≤ clock) → (b : Bool) → newest (cond b (settled_row time kept pending) kept).versions ≤ clock
    at_test pending time late true = at_time pending time late
    at_test pending time late false = early

    at : (pending : Option Pending) (time : Option ℕ) → ((t : ℕ) → time ≡ Some t → t ≤ clock) → newest (settled_beside pending time s kept).versions ≤ clock
    at None time late = early
    at (Some pending) time late = at_test pending time late (pending.session == s)

kept_true : (a b : Bool) → b ≡ false → a ≡ true → (a && not b) ≡ true
kept_true true false other is = refl
kept_true true true other is = absurd (cc)
kept_true false b other is = absurd (cc)

was_true : (a b : Bool) → (a && not b) ≡ true → a ≡ true
was_true true b is = refl
was_true false b is = absurd (cc)

no_longer : (a b : Bool) → b ≡ true → (a && not b) ≡ true → ⊥
no_longer true true same is = cc
no_longer true false same is = cc
no_longer false b same is = cc

module _ (engine : EngineState) (s : ℕ) (time : Option ℕ) (whole : IsWhole engine) (within : s < length engine.sessions) (live : is_open (session_of engine s) ≡ true)
    (late : (t : ℕ) → time ≡ Some t → t ≡ engine.clock + 1) where
  abbrev ended : SessionState
  ended = record (session_of engine s) { transaction = None; written = [] }

  kept_length : length (map (settled time s) engine.records) ≡ length engine.records
  kept_length = length-map engine.records (settled time s)

  clock_low : (engine.clock ≤ unwrap_or time engine.clock) × (unwrap_or time engine.clock ≤ engine.clock + 1)
  clock_low = at time late
    where
      at : (time : Option ℕ) → ((t : ℕ) → time ≡ Some t → t ≡ engine.clock + 1) → (engine.clock ≤ unwrap_or time engine.clock) × (unwrap_or time engine.clock ≤ engine.clock + 1)
      at None late = (omega arith, omega arith)
      at (Some t) late = let next = late t refl in (omega (arith, next), omega (arith, next))

  time_low : (t : ℕ) → time ≡ Some t → t ≤ unwrap_or time engine.clock
  time_low t is = let same : unwrap_or time engine.clock ≡ t = ap (λ o. unwrap_or o engine.clock) is in omega (arith, same)

  held_of : (i j : ℕ) (k0 : Kept) → i < length engine.records → is_held (get_or (map (settled time s) engine.records) i k0).pending j ≡ (is_held (get_or engine.records i k0).pending j && not (j == s))
  held_of i j k0 under = ap (λ (k : Kept). is_held k.pending j) (get_or-map (settled time s) engine.records i k0 k0 under) ∙ held_settled time s j (get_or engine.records i k0)

  places_ended : (session_of (with_end engine s time) s).written ≡ []
  places_ended = ap (λ (state : SessionState). state.written) (get_or-set_same engine.sessions s ended new_session within)

  places_kept : (j : ℕ) → (j == s) ≡ false → (session_of (with_end engine s time) j).written ≡ (session_of engine j).written
  places_kept j other = ap (λ (state : SessionState). state.written) (get_or-set_other engine.sessions s j ended new_session (apart j s other))

  pub whole_ended : IsWhole (with_end engine s time)
  whole_ended = record {
    valid = whole.valid;
    sessions = length-set engine.sessions s ended ∙ whole.sessions;
    ranges = whole.ranges;
    records = let fits = whole.records in omega (arith, kept_length, fits);
    accepted = whole.accepted;
    begins = session_each engine s ended within (λ state. state.begins ≤ engine.limits.txns) (whole.begins s) whole.begins;
    noted = at_each (λ j. (i : ℕ) (k0 : Kept) → j < engine.limits.sessions → i < length (map (settled time s) engine.records) → is_held (get_or (map (settled time s) engine.records) i k0).pending j ≡ true → is_among (session_of (with_end engine s time) j).written i ≡ true) s
        (λ i k0 under inside is. absurd (no_longer (is_held (get_or engine.records i k0).pending s) (s == s) (eq-eqb s s refl) (sym (held_of i s k0 (omega (arith, kept_length))) ∙ is)))
        (λ j other i k0 under inside is. ap (λ places. is_among places i) (places_kept j other) ∙
        (let below : i < length engine.records = omega (arith, kept_length) in whole.noted j i k0 under below (was_true (is_held (get_or engine.records i k0).pending j) (j == s) (sym (held_of i j k0 below) ∙ is))));
    held = at_each (λ j. (i : ℕ) (k0 : Kept) → Contains (session_of (with_end engine s time) j).written i → is_held (get_or (map (settled time s) engine.records) i k0).pending j ≡ true) s
        (λ i k0 contains. let none = subst (λ places. Contains places i) places_ended contains in absurd (omega (arith, none.1)))
        (λ j other i k0 contains. let old = subst (λ places. Contains places i) (places_kept j other) contains in
        held_of i j k0 (whole.written j i old) ∙ kept_true (is_held (get_or engine.records i k0).pending j) (j == s) other (whole.held j i k0 old));
    written = session_each engine s ended within
        (λ state. (place : ℕ) → Contains state.written place → place < length (map (settled time s) engine.records))
        (λ place contains. absurd (omega (arith, contains.1)))
        (λ j place contains. let inside = whole.written j place contains in omega (arith, kept_length));
    early = λ place kept inside. subst (λ (k : Kept). newest k.versions ≤ unwrap_or time engine.clock) (sym (get_or-map (settled time s) engine.records place (fresh 0) kept (omega (arith, kept_length))))
        (early_settled time s (unwrap_or time engine.clock) (get_or engine.records place (fresh 0)) (let before = whole.early place (fresh 0) (omega (arith, kept_length)) in let low = clock_low.0 in omega (arith, before, low)) time_low);
    clock =
        let counts = sum_by-set open_count engine.sessions s ended new_session within in
        let numbers = sum_by-set (λ (state : SessionState). state.begins) engine.sessions s ended new_session within in
        let one : open_count (session_of engine s) ≡ 1 = ap (λ b. cond b 1 0) live in
        let before = whole.clock in
        let high = clock_low.1 in
        omega (arith, counts, numbers, one, before, high);
  }

-- a session that may begin has no open transaction, and has some left
pub free_to_begin : (engine : EngineState) (s : ℕ) → refusal_of_begin engine s ≡ None → ((session_of engine s).transaction ≡ None) × ((session_of engine s).begins < engine.limits.txns)
free_to_begin engine s free = at (session_of engine s).transaction refl (nat_le engine.limits.txns (session_of engine s).begins) refl
  where
    closed : (transaction : Option Transaction) → (session_of engine s).transaction ≡ transaction → first_of (where_true (is_some transaction) Active ∷ where_true (nat_le engine.limits.txns (session_of engine s).begins) Spent ∷ []) ≡ None
    closed transaction is = ap (λ t. first_of (where_true (is_some t) Active ∷ where_true (nat_le engine.limits.txns (session_of engine s).begins) Spent ∷ [])) (sym is) ∙ free

    at : (transaction : Option Transaction) → (session_of engine s).transaction ≡ transaction → (b : Bool) → nat_le engine.limits.txns (session_of engine s).begins ≡ b → ((session_of engine s).transaction ≡ None) × ((session_of engine s).begins < engine.limits.txns)
    at None is false few = (is, leb-false _ _ few)
    at None is true few = absurd (let spent : Some Spent ≡ None = ap (λ b. first_of (where_true b Spent ∷ [])) (sym few) ∙ closed None is in cc)
    at (Some transaction) is b few = absurd (let active : Some Active ≡ None = closed (Some transaction) is in cc)

pub whole_begun : (engine : EngineState) (s : ℕ) (transaction : Transaction) → IsWhole engine → s < length engine.sessions → refusal_of_begin engine s ≡ None → IsWhole (with_transaction engine s transaction)
whole_begun engine s transaction whole within free = let ready = free_to_begin engine s free in whole_opened engine s transaction whole within ready.0 ready.1

-- there are far fewer commits than a number has room for
pub few_commits : (engine : EngineState) → IsWhole engine → engine.clock + 1 < 2 ^ 64
few_commits engine whole =
    let all = sum_by-le (λ (state : SessionState). state.begins) engine.limits.txns engine.sessions
    (λ k d low. subst (λ (state : SessionState). state.begins ≤ engine.limits.txns) (get_or_default engine.sessions k new_session d low) (whole.begins k)) in
    let sessions : length engine.sessions ≤ 16 = (let same = whole.sessions in let few = whole.valid.sessions.1 in omega (arith, same, few)) in
    let many = mul-le-mul_right {m = length engine.sessions} {n = 16} engine.limits.txns sessions in
    let numbers = whole.valid.txns.1 in
    let before = whole.clock in
    omega (arith, all, many, numbers, before)

-- a pending row that was made and dropped leaves the records
pub dropped : (records : List Kept) (place s : ℕ) (pending : Pending) → pending.session ≡ s → (get_or records place (fresh 0)).pending ≡ None → place < length records
    → set (set records place (with_pending (get_or records place (fresh 0)) pending)) place (settled None s (get_or (set records place (with_pending (get_or records place (fresh 0)) pending)) place (fresh 0))) ≡ records
dropped records place s pending by none low =
    ap (λ (k : Kept). set (set records place (with_pending (get_or records place (fresh 0)) pending)) place (settled None s k)) (get_or-set_same records place (with_pending (get_or records place (fresh 0)) pending) (fresh 0) low)
    ∙ ap (λ b. set (set records place (with_pending (get_or records place (fresh 0)) pending)) place (cond b (record (get_or records place (fresh 0)) { pending = None }) (with_pending (get_or records place (fresh 0)) pending))) (eq-eqb pending.session s by)
    ∙ ap (λ (p : Option Pending). set (set records place (with_pending (get_or records place (fresh 0)) pending)) place (record (get_or records place (fresh 0)) { pending = p })) (sym none)
    ∙ set-set records place (with_pending (get_or records place (fresh 0)) pending) (get_or records place (fresh 0))
    ∙ set-get_or records place (fresh 0)

-- where nothing is in the way and the row is not the session's, there is no pending row
pub free_none : (kept : Kept) (s begin : ℕ) → conflict_in kept s begin ≡ None → is_held kept.pending s ≡ false → kept.pending ≡ None
free_none kept s begin free else = at kept.pending refl
  where
    at : (pending : Option Pending) → kept.pending ≡ pending → pending ≡ None
    at None is = refl
    at (Some pending) is = absurd (let held : true ≡ false = sym (ap (λ p. is_held p s) is ∙ eq-eqb pending.session s (free_own kept s begin free pending is)) ∙ else in cc)
