-- The seats of two sessions, as a store that opens is parted, and once a note was heard.
use Rattle.std.proofs.Common.{◌≡◌, ℕ, ◌+◌, List, [], ◌∷◌, ◌++◌, Bool, false, length, get_or, refl, sym, subst, ap, ◌∙◌, arith, eq-eqb, length-append}
use Rattle.std.proofs.lemmas.List.{get_or_append_left, get_or_at}
use Rattle.lst_layout.specs.declared.limits.Limits.{Limits}
use Rattle.lst_core_state.specs.declared.known.Known.{Known}
use Rattle.lst_core_state.specs.State.{newcomer}
use Rattle.lst_rule.specs.declared.store.Store.{Store}
use Rattle.lst_rule.specs.declared.view.View.{View}
use Rattle.lst_rule.specs.Rule.{crew, knows}
use Rattle.lst_rule.specs.Seats.{Sitting}
use Rattle.lst_rule.specs.Stores.{IsSeatOf}
use Rattle.lst_rule.proofs.Opening.{same_at}
use Rattle.lst_seat.specs.Seats.{IsPartOf, Parts, Hears}
use Rattle.lst_txn.specs.Transactions.{IsFree}
use Rattle.lst_test_steps.specs.Parted.{HasOwn}

part_own : (store : Store) (v : View) (l : Limits) (s : ℕ) (seat : Sitting) → v ≡ crew l → IsPartOf store v s seat → HasOwn store s seat
part_own store v l s seat opens part = record {
  seat_of = part.seat_of;
  hosted = part.hosted s ∙ eq-eqb s s refl;
  free = subst IsFree (sym same) (refl, refl);
  hand = ap (λ (k : Known). k.placing.hand) same;
}
  where
    same : knows seat.view s ≡ newcomer l
    same = part.knows_same ∙ (ap (λ (u : View). knows u s) opens ∙ same_at (l.sessions + 1) s (newcomer l))

-- the seats of both, taken off the end of the list
module _ (store : Store) (v : View) (l : Limits) (seats : List Sitting) (merger : Sitting) (opens : v ≡ crew l) (two : v.limits.sessions ≡ 2) (parts : Parts store v seats merger) (items rest none : List Sitting) (first second : Sitting) (same : items ≡ seats) (last : items ≡ rest ++ second ∷ []) (next : rest ≡ none ++ first ∷ []) where
  count : length rest ≡ 1
  count = let all = ap length same ∙ (parts.count ∙ two) in let less = ap length last ∙ length-append rest (second ∷ []) in omega arith

  no_more : length none ≡ 0
  no_more = let one = count in let less = ap length next ∙ length-append none (first ∷ []) in omega arith

  at_last : seats ≡ rest ++ second ∷ []
  at_last = sym same ∙ last

  pub second_own : HasOwn store 1 second
  second_own = part_own store v l 1 second opens (subst (IsPartOf store v 1) (ap (λ (xs : List Sitting). get_or xs 1 second) at_last ∙ get_or_at rest second [] second 1 count) (parts.each 1 second (omega arith)))

  pub first_own : HasOwn store 0 first
  first_own = part_own store v l 0 first opens (subst (IsPartOf store v 0) (ap (λ (xs : List Sitting). get_or xs 0 first) at_last ∙ (get_or_append_left rest (second ∷ []) first 0 (let one = count in omega arith) ∙ (ap (λ (xs : List Sitting). get_or xs 0 first) next ∙ get_or_at none first [] first 0 no_more))) (parts.each 0 first (omega arith)))

-- a note leaves what a session has in hand
pub heard_own : (store : Store) (s : ℕ) (a b : Sitting) (note : View) → HasOwn store s a → IsSeatOf store b → Hears a.view b.view note → HasOwn store s b
heard_own store s a b note own is hears = record {
  seat_of = is;
  hosted = ap (λ (bs : List Bool). get_or bs s false) hears.hosted ∙ own.hosted;
  free = subst IsFree (sym (hears.now s own.hosted)) own.free;
  hand = ap (λ (k : Known). k.placing.hand) (hears.now s own.hosted) ∙ own.hand;
}
