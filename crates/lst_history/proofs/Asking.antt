-- What a start word says, and that a session which asks for its status only looks.
use Rattle.std.proofs.Common.{◌≡◌, ◌≢◌, ◌⊎◌, ⊎_elim, inl, inr, ℕ, ◌/◌, ◌%◌, ◌<◌, ◌++◌, List, Bool, true, false, cond, eqb, sym, subst, ap, ◌∙◌, arith, eq-eqb, ne_eqb, slice_index_or}
use Rattle.std.proofs.lemmas.List.Elements.{All-weaker}
use mathlib.Core.Logic.{dite}
use native.Mathlib.Decide.{ℕ_discrete}
use Rattle.lst_bits.specs.declared.starts.Start.{Start}
use Rattle.lst_bits.specs.declared.starts.Start.TheVariants.{Empty, At, By}
use Rattle.lst_bits.specs.Starts.{start_of}
use Rattle.lst_layout.specs.declared.limits.Limits.{Limits}
use Rattle.lst_core_state.specs.declared.known.Known.{Known}
use Rattle.lst_core_state.specs.declared.facts.Find.{Find}
use Rattle.lst_core_state.specs.declared.facts.Find.TheVariants.{LatchedRecord, FreshClock, FreshEpoch, UnfinishedVersion, HeldTurn, FullRecords, FullTails, CountedTails, EmptyStart, TailLoad}
use Rattle.lst_core_state.specs.Step.{refreshed}
use Rattle.lst_core_state.specs.State.{rank}
use Rattle.lst_rule.specs.declared.store.Store.{Store}
use Rattle.lst_rule.specs.declared.view.View.{View}
use Rattle.lst_rule.specs.declared.status.Status.{Status}
use Rattle.lst_rule.specs.declared.status.Status.TheVariants as status
use Rattle.lst_rule.specs.Seats.{Sitting}
use Rattle.lst_rule.specs.Rule.{knows, hosts}
use Rattle.lst_rule.specs.Learned.{Kept}
use Rattle.lst_rule.specs.Stores.{IsSeatOf}
use Rattle.lst_rule.specs.Statuses.{IsNamed, Answers, StatusOf}
use Rattle.lst_rule.specs.Watching.{IsNotFull, Watches, Watched}
use Rattle.lst_rule.proofs.Watching.{watched_same}
use Rattle.lst_rule.proofs.AskingWatched.{status_watched}
use Rattle.lst_history.specs.Peeks.{IsNotFullTable, Peeked, IsReader, Reads}
use Rattle.lst_history.proofs.Looks.{still}

-- ---- a start word

start_odd : (x : ℕ) → x % 2 ≡ 1 → start_of x ≡ By (x / 2 % 16) (x / 2 / 16)
start_odd x odd = ap (λ (b : Bool). cond b (By (x / 2 % 16) (x / 2 / 16)) (cond (eqb x 0) Empty (At (x / 2)))) (eq-eqb (x % 2) 1 odd)

start_even : (x : ℕ) → x % 2 ≢ 1 → start_of x ≡ cond (eqb x 0) Empty (At (x / 2))
start_even x even = ap (λ (b : Bool). cond b (By (x / 2 % 16) (x / 2 / 16)) (cond (eqb x 0) Empty (At (x / 2)))) (ne_eqb (x % 2) 1 even)

-- it names a transaction, is empty, or holds a time
pub start_cases : (P : Start → Type 0) (x : ℕ) → P (start_of x) → ((x % 2 ≡ 1) × P (By (x / 2 % 16) (x / 2 / 16))) ⊎ (((x ≡ 0) × P Empty) ⊎ ((x % 2 ≢ 1) × (0 < x) × P (At (x / 2))))
start_cases P x p = dite (ℕ_discrete (x % 2) 1)
    (λ odd. inl (odd, subst P (start_odd x odd) p))
    (λ even. inr (dite (ℕ_discrete x 0)
    (λ none. inl (none, subst P (start_even x even ∙ ap (λ (b : Bool). cond b Empty (At (x / 2))) (eq-eqb x 0 none)) p))
    (λ some. inr (even, omega arith, subst P (start_even x even ∙ ap (λ (b : Bool). cond b Empty (At (x / 2))) (ne_eqb x 0 some)) p))))

-- ---- its status

start_watched : (v w : View) (s x : ℕ) (answer : Status) → hosts v s ≡ true → IsNamed v.limits x → StatusOf (start_of x) v w s answer → Watched v w s
start_watched v w s x answer hosted named told = ⊎_elim
    (λ (h : (x % 2 ≡ 1) × Answers v w s (x / 2 % 16) (x / 2 / 16) answer). status_watched v w s (x / 2 % 16) (x / 2 / 16) hosted (named h.0) answer h.1.says)
    (λ rest. subst (λ (z : View). Watched v z s) (sym (⊎_elim
    (λ (h : (x ≡ 0) × ((answer ≡ status.Empty) × (w ≡ v))). h.1.1)
    (λ (h : (x % 2 ≢ 1) × (0 < x) × ((answer ≡ status.Committed (x / 2)) × (w ≡ v))). h.2.1)
    rest)) (watched_same v s))
    (start_cases (λ (a : Start). StatusOf a v w s answer) x told)

not_full : (f : Find) → IsNotFull f → IsNotFullTable f
not_full FullRecords is = is
not_full (FullTails range) is = tt
not_full (LatchedRecord rec) is = tt
not_full (FreshClock clock) is = tt
not_full (FreshEpoch epoch) is = tt
not_full (UnfinishedVersion about tail session number begin) is = tt
not_full HeldTurn is = tt
not_full (CountedTails range count) is = tt
not_full (EmptyStart tail) is = tt
not_full (TailLoad tail) is = tt

watched_peeked : (u k : Known) → rank u.turn ≡ 0 → Watches u k → Peeked u k
watched_peeked u k away w = record {
  facts = w.facts;
  finds = w.finds;
  later = w.later;
  looks = w.looks;
  counters = w.counters;
  frames = w.frames;
  is = w.is ∙ (λ i. record u { seen = u.seen ++ w.later; turn = same i; counters = w.counters; facts = u.facts ++ w.facts; finds = u.finds ++ w.finds; looks = w.looks; pages = record u.pages { session = w.frames } });
  room = All-weaker IsNotFull IsNotFullTable not_full w.finds w.room;
  pin = w.pin;
}
  where
    same : w.turn ≡ u.turn
    same = ⊎_elim (λ (e : w.turn ≡ u.turn). e) (λ (e : w.turn ≡ refreshed u.turn). e ∙ still u.turn away) w.stage

pub status_reads : (store : Store) (a b : Sitting) (s x : ℕ) (answer : Status) → IsReader store a s → IsSeatOf store b → IsNamed a.view.limits x → StatusOf (start_of x) a.view b.view s answer → Kept a.view b.view → Reads store a b s
status_reads store a b s x answer reader seat named told kept = let watched = start_watched a.view b.view s x answer reader.host named told in let peeked = watched_peeked (knows a.view s) (knows b.view s) reader.turn watched.watches in record {
  reader = record {
    seat_of = seat;
    host = ap (λ (hs : List Bool). slice_index_or hs s false) watched.learns.hosted ∙ reader.host;
    own = subst (λ (l : Limits). s < l.sessions) (sym watched.learns.limits) reader.own;
    whole = watched.learns.whole ∙ reader.whole;
    hand = ap (λ (k : Known). k.placing.hand) peeked.is ∙ reader.hand;
    turn = ap (λ (k : Known). rank k.turn) peeked.is ∙ reader.turn;
  };
  peeks = record { learns = watched.learns; kept = kept; peeked = peeked; own = watched.own reader.own };
  limits = watched.learns.limits;
  words = kept.words reader.whole;
}
