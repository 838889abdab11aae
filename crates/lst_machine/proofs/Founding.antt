-- The opening state, and what is always so of a machine.
use Rattle.std.proofs.Common.{◌≡◌, ℕ, zero, suc, ◌+◌, ◌*◌, ◌<◌, ◌≤◌, Bool, true, false, cond, List, [], ◌∷◌, ◌++◌, length, get_or, set, take, replicate, refl, sym, ap, ◌∙◌, subst, arith, length-set}
use Rattle.std.proofs.lemmas.List.{length-replicate, length-append, take_at}
use Rattle.std.proofs.lemmas.Bool.{leb-false}
use Rattle.std.specs.Prelude.{Option, Some, None, is_some, nat_le, ◌==◌, MatchOption}
use Rattle.std.specs.Option.{option_to_list}
use Rattle.lst_layout.specs.declared.limits.Limits.{Limits}
use Rattle.lst_layout.specs.Limits.{IsValid}
use Rattle.lst_model.specs.declared.commits.Commit.{Commit}
use Rattle.lst_model.specs.declared.replies.Cause.TheVariants.{Active, Spent}
use Rattle.lst_machine.specs.declared.parts.Swap.{Swap}
use Rattle.lst_machine.specs.State.{Accepted, Store, opening}
use Rattle.lst_machine.specs.Calls.{first_of, where_true, begin_refusal}
use Rattle.lst_machine.specs.Parts.{SessionState, new_session, Parts, range_in, has_number, state_in, IsWhole}
use Rattle.lst_machine.proofs.Showing.{set_changes}

nth_same : {A : Type 0} (n i : ℕ) (x : A) → get_or (replicate n x) i x ≡ x
nth_same zero i x = refl
nth_same (suc n) zero x = refl
nth_same (suc n) (suc i) x = nth_same n i x

abbrev pub new_parts : ℕ → ℕ → Parts
new_parts ranges sessions = record { history = []; placed = []; ranges = replicate ranges []; sessions = replicate sessions new_session; swaps = [] }

pub opening_shows : (ranges sessions : ℕ) → state_in (new_parts ranges sessions) ≡ opening
opening_shows ranges sessions = λ i. record {
  store = record {
    history = [];
    placed = [];
    accepted = λ range. nth_same {A = List Accepted} ranges range [] i;
    begins = λ s. (nth_same sessions s new_session i).begins;
    opened = λ s. (nth_same sessions s new_session i).opened;
    closed = λ s n. has_number n (nth_same sessions s new_session i).closed;
  };
  pages = record {
    tps = λ range column. 0;
    swaps = 0;
    swaps_at_begin = λ s. (nth_same sessions s new_session i).swaps_at_begin;
  };
}

pub whole_new : (limits : Limits) → IsValid limits → IsWhole limits (new_parts limits.ranges limits.sessions)
whole_new limits valid = record {
  valid = valid;
  sessions = length-replicate limits.sessions new_session;
  ranges = length-replicate limits.ranges [];
  placed = omega arith;
  few = λ range. subst (λ (xs : List Accepted). length xs ≤ limits.tails) (sym (nth_same {A = List Accepted} limits.ranges range [])) (omega arith);
}

-- a session is changed
pub whole_session : (limits : Limits) (parts : Parts) (s : ℕ) (new : SessionState) → IsWhole limits parts → IsWhole limits (record parts { sessions = set parts.sessions s new })
whole_session limits parts s new whole = record {
  valid = whole.valid;
  sessions = length-set parts.sessions s new ∙ whole.sessions;
  ranges = whole.ranges;
  placed = whole.placed;
  few = whole.few;
}

-- a key is placed
pub whole_placed : (limits : Limits) (parts : Parts) (key : ℕ) → IsWhole limits parts → length parts.placed < 256 * limits.ranges → IsWhole limits (record parts { placed = parts.placed ++ key ∷ [] })
whole_placed limits parts key whole room = record {
  valid = whole.valid;
  sessions = whole.sessions;
  ranges = whole.ranges;
  placed = let more = length-append parts.placed (key ∷ []) in omega (arith, more, room);
  few = whole.few;
}

-- a write is accepted
pub whole_accepted : (limits : Limits) (parts : Parts) (range : ℕ) (write : Accepted) → IsWhole limits parts → range < length parts.ranges → length (range_in parts.ranges range) < limits.tails
    → IsWhole limits (record parts { ranges = set parts.ranges range (range_in parts.ranges range ++ write ∷ []) })
whole_accepted limits parts range write whole low room = record {
  valid = whole.valid;
  sessions = whole.sessions;
  ranges = length-set parts.ranges range (range_in parts.ranges range ++ write ∷ []) ∙ whole.ranges;
  placed = whole.placed;
  few = λ r. subst (λ (n : ℕ). n ≤ limits.tails) (sym (set_changes parts.ranges range low (range_in parts.ranges range ++ write ∷ []) [] (λ (xs : List Accepted). length xs) r)) (step r (r == range));
}
  where
    step : (r : ℕ) (b : Bool) → cond b (length (range_in parts.ranges range ++ write ∷ [])) (length (range_in parts.ranges r)) ≤ limits.tails
    step r true = let more = length-append (range_in parts.ranges range) (write ∷ []) in omega (arith, more, room)
    step r false = whole.few r

-- a commit ends a session's transaction
pub whole_committed : (limits : Limits) (parts : Parts) (s : ℕ) (new : SessionState) (history : List Commit) → IsWhole limits parts → IsWhole limits (record parts { history = history; sessions = set parts.sessions s new })
whole_committed limits parts s new history whole = record {
  valid = whole.valid;
  sessions = length-set parts.sessions s new ∙ whole.sessions;
  ranges = whole.ranges;
  placed = whole.placed;
  few = whole.few;
}

-- a page is swapped
pub whole_swapped : (limits : Limits) (parts : Parts) (swaps : List Swap) → IsWhole limits parts → IsWhole limits (record parts { swaps = swaps })
whole_swapped limits parts swaps whole = record {
  valid = whole.valid;
  sessions = whole.sessions;
  ranges = whole.ranges;
  placed = whole.placed;
  few = whole.few;
}

-- a session that may begin has begun fewer transactions than it may
pub few_begins : (limits : Limits) (store : Store) (s : ℕ) → begin_refusal limits store s ≡ None → store.begins s < limits.txns
few_begins limits store s free = at_test (is_some (store.opened s)) (nat_le limits.txns (store.begins s)) refl free
  where
    at_test : (active spent : Bool) → nat_le limits.txns (store.begins s) ≡ spent → first_of (where_true active Active ∷ where_true spent Spent ∷ []) ≡ None → store.begins s < limits.txns
    at_test true spent is none = absurd (cc)
    at_test false true is none = absurd (cc)
    at_test false false is none = leb-false limits.txns (store.begins s) is

-- fewer keys are placed
pub whole_unplaced : (limits : Limits) (parts : Parts) (placed : List ℕ) → IsWhole limits parts → length placed ≤ length parts.placed → IsWhole limits (record parts { placed = placed })
whole_unplaced limits parts placed whole fewer = record {
  valid = whole.valid;
  sessions = whole.sessions;
  ranges = whole.ranges;
  placed = let few = whole.placed in omega (arith, few, fewer);
  few = whole.few;
}

-- a key that was added last, and is taken away again
pub popped : (xs ys all : List ℕ) (key many fewer : ℕ) → many ≡ length all → fewer ≡ length ys → (taken : Option ℕ) → MatchOption taken ((many ≡ 0) × (fewer ≡ 0)) (λ last. fewer + 1 ≡ many) → all ≡ xs ++ key ∷ [] → all ≡ ys ++ option_to_list taken → ys ≡ xs
popped xs ys all key many fewer all_long rest_long None none is parts = absurd (let zero_long = none.0 in let long = ap length is in let more = length-append xs (key ∷ []) in omega (arith, all_long, zero_long, long, more))
popped xs ys all key many fewer all_long rest_long (Some last) more is parts =
    let long = ap length is in
    let one = length-append xs (key ∷ []) in
    let count : length ys ≡ length xs = omega (arith, all_long, rest_long, more, long, one) in
    sym (take_at ys (last ∷ []) (length xs) count) ∙ ap (take (length xs)) (sym parts ∙ is) ∙ take_at xs (key ∷ []) (length xs) refl

-- a commit is added
pub whole_history : (limits : Limits) (parts : Parts) (history : List Commit) → IsWhole limits parts → IsWhole limits (record parts { history = history })
whole_history limits parts history whole = record {
  valid = whole.valid;
  sessions = whole.sessions;
  ranges = whole.ranges;
  placed = whole.placed;
  few = whole.few;
}

-- a key is placed, or none for want of memory
pub whole_pushed : (limits : Limits) (parts : Parts) (key : ℕ) (placed : List ℕ) (added : Bool) → IsWhole limits parts → length parts.placed < 256 * limits.ranges → placed ≡ cond added (parts.placed ++ key ∷ []) parts.placed
    → IsWhole limits (record parts { placed = placed })
whole_pushed limits parts key placed true whole room is = subst (λ (keys : List ℕ). IsWhole limits (record parts { placed = keys })) (sym is) (whole_placed limits parts key whole room)
whole_pushed limits parts key placed false whole room is = subst (λ (keys : List ℕ). IsWhole limits (record parts { placed = keys })) (sym is) whole
