-- A seat is parted, one session after the other.
use Rattle.std.proofs.Common.{◌≡◌, ◌≢◌, ℕ, ◌+◌, ◌-◌, ◌<◌, ◌≤◌, List, [], ◌∷◌, ◌++◌, Bool, true, false, cond, nat_lt, eqb, length, get_or, get_or-set_same, refl, sym, subst, ap, ◌∙◌, arith, ⊎_elim, lt-ltb, le-ltb, eq-eqb, ne_eqb, length-append}
use mathlib.Core.Logic.{dite}
use native.Mathlib.Decide.{ℕ_discrete, dec_lt}
use Rattle.std.proofs.lemmas.Bool.{cases_Bool}
use Rattle.std.proofs.lemmas.List.{get_or_append_left, get_or_at}
use Rattle.std.specs.List.{All}
use Rattle.lst_core_state.specs.declared.known.Known.{Known}
use Rattle.lst_core_state.specs.Numbers.{numbers_of}
use Rattle.lst_core_state.specs.State.{newcomer}
use Rattle.lst_rule.specs.declared.splits.Room.{Room}
use Rattle.lst_rule.specs.declared.store.Store.{Store}
use Rattle.lst_rule.specs.declared.view.View.{View}
use Rattle.lst_rule.specs.Joins.{without, alone, only, Serves}
use Rattle.lst_rule.specs.Rule.{knows, hosts}
use Rattle.lst_rule.specs.Seats.{Sitting}
use Rattle.lst_rule.specs.Stores.{IsSeatOf}
use Rattle.lst_rule.specs.Surveys.{HostsAll}
use Rattle.lst_rule.proofs.Parting.{hosted_low, without_else, only_here, alone_here}
use Rattle.lst_seat.specs.Rooms.{AreRooms}
use Rattle.lst_seat.specs.Seats.{IsPartOf, Parts}

-- the session that is split off is hosted no more
without_here : (v : View) (s : ℕ) → hosts v s ≡ true → hosts (without s v) s ≡ false
without_here v s on = get_or-set_same v.hosts s false false (hosted_low v s on)

-- the last room is for the next session, and the others for those after it
module _ (v : View) (left rest : List Room) (room : Room) (is : left ≡ rest ++ room ∷ []) (rooms : AreRooms v left) where
  pub one_less : length left ≡ length rest + 1
  one_less = ap length is ∙ length-append rest (room ∷ [])

  pub rooms_left : AreRooms v rest
  rooms_left = record {
    few = let e = one_less in let low = rooms.few in omega arith;
    each = λ k none low. subst (λ (r : Room). Serves r v (v.limits.sessions - 1 - k)) (ap (λ (l : List Room). get_or l k none) is ∙ get_or_append_left rest (room ∷ []) none k low) (rooms.each k none (let e = one_less in omega arith));
  }

  pub serves_next : (s : ℕ) → length left + s ≡ v.limits.sessions → Serves room v s
  serves_next s count = let n = length rest in subst (λ (q : Room × ℕ). Serves q.0 v q.1)
      (λ i. ((ap (λ (l : List Room). get_or l n room) is ∙ get_or_at rest room [] room n refl) i, number i)) (rooms.each n room (let e = one_less in omega arith))
    where
      number : v.limits.sessions - 1 - length rest ≡ s
      number = let e = one_less in omega arith

-- no room serves no session, and the next one that is taken serves the session before
pub rooms_none : (v : View) → AreRooms v []
rooms_none v = record { few = omega arith; each = λ k none low. absurd (omega arith) }

pub rooms_next : (v : View) (rooms : List Room) (room : Room) (s : ℕ) → length rooms + (s + 1) ≡ v.limits.sessions → AreRooms v rooms → Serves room v s → AreRooms v (rooms ++ room ∷ [])
rooms_next v rooms room s count so serves = record {
  few = let e = length-append rooms (room ∷ []) in omega arith;
  each = λ k none low. dite (ℕ_discrete k (length rooms))
      (λ e. subst (λ (q : Room × ℕ). Serves q.0 v q.1) (λ i. (sym (get_or_at rooms room [] none k (sym e)) i, number k e i)) serves)
      (λ ne. subst (λ (r : Room). Serves r v (v.limits.sessions - 1 - k)) (sym (get_or_append_left rooms (room ∷ []) none k (below k low ne))) (so.each k none (below k low ne)));
}
  where
    number : (k : ℕ) → k ≡ length rooms → s ≡ v.limits.sessions - 1 - k
    number k e = omega arith

    below : (k : ℕ) → k < length (rooms ++ room ∷ []) → k ≢ length rooms → k < length rooms
    below k low ne = let e = length-append rooms (room ∷ []) in grind (arith, low, ne, e)

-- the sessions below s have seats of their own, and the seat that is parted has the rest
pub record PartsSo (store : Store) (v : View) (seats : List Sitting) (rest : Sitting) (s : ℕ) : Type 0 where
  pub count : length seats ≡ s
  pub seat_of : IsSeatOf store rest
  pub each : (t : ℕ) (none : Sitting) → t < s → IsPartOf store v t (get_or seats t none)
  pub hosted : (t : ℕ) → hosts rest.view t ≡ cond (nat_lt t s) false (hosts v t)
  pub known : rest.view.known ≡ v.known
  pub limits : rest.view.limits ≡ v.limits

pub parts_none : (store : Store) (seat : Sitting) → IsSeatOf store seat → PartsSo store seat.view [] seat 0
parts_none store seat is = record {
  count = refl;
  seat_of = is;
  each = λ t none low. absurd (omega arith);
  hosted = λ t. sym (ap (λ (b : Bool). cond b false (hosts seat.view t)) (le-ltb t 0 (omega arith)));
  known = refl;
  limits = refl;
}

module _ (store : Store) (v : View) (seats : List Sitting) (rest : Sitting) (s : ℕ) (so : PartsSo store v seats rest s) where
  -- what the rest knows
  pub rest_knows : (t : ℕ) → knows rest.view t ≡ knows v t
  rest_knows t i = get_or (so.known i) t (newcomer (so.limits i))

  pub rest_hosts : (t : ℕ) → s ≤ t → hosts rest.view t ≡ hosts v t
  rest_hosts t low = so.hosted t ∙ ap (λ (b : Bool). cond b false (hosts v t)) (le-ltb t s low)

  -- memory for a session serves the rest too
  pub serves_rest : (room : Room) (t : ℕ) → Serves room v t → Serves room rest.view t
  serves_rest room t serves = record {
    hosted = serves.hosted ∙ ap (λ l. only l t) (sym so.limits);
    wide = serves.wide;
    is = subst (λ (k : Known). get_or room.numbers.items t (numbers_of k) ≡ numbers_of k) (sym (rest_knows t)) serves.is;
  }

  module _ (low : s < v.limits.sessions) (on : hosts v s ≡ true) (own new : Sitting) (own_of : IsSeatOf store own) (new_of : IsSeatOf store new) (own_is : own.view ≡ alone s rest.view) (new_is : new.view ≡ without s rest.view) where
    mine : IsPartOf store v s own
    mine = record {
      seat_of = own_of;
      hosted = λ t. ap (λ (u : View). hosts u t) own_is ∙ dite (ℕ_discrete t s)
          (λ e. subst (λ (z : ℕ). hosts (alone s rest.view) z ≡ eqb z s) (sym e) (alone_here rest.view s (let l = ap (λ l. l.sessions) so.limits in omega arith) ∙ sym (eq-eqb s s refl)))
          (λ ne. only_here rest.view s t ne ∙ sym (ne_eqb t s ne));
      knows_same = ap (λ (u : View). knows u s) own_is ∙ rest_knows s;
    }

    pub parts_next : PartsSo store v (seats ++ own ∷ []) new (s + 1)
    parts_next = record {
      count = length-append seats (own ∷ []) ∙ (let e = so.count in omega arith);
      seat_of = new_of;
      each = λ t none below. dite (ℕ_discrete t s)
          (λ e. subst (λ (z : ℕ). IsPartOf store v z (get_or (seats ++ own ∷ []) z none)) (sym e) (subst (IsPartOf store v s) (sym (get_or_at seats own [] none s so.count)) mine))
          (λ ne. subst (IsPartOf store v t) (sym (get_or_append_left seats (own ∷ []) none t (let e = so.count in omega arith))) (so.each t none (omega arith)));
      hosted = λ t. ap (λ (u : View). hosts u t) new_is ∙ dite (ℕ_discrete t s)
          (λ e. subst (λ (z : ℕ). hosts (without s rest.view) z ≡ cond (nat_lt z (s + 1)) false (hosts v z)) (sym e) (without_here rest.view s (rest_hosts s (omega arith) ∙ on) ∙ sym (ap (λ (b : Bool). cond b false (hosts v s)) (lt-ltb s (s + 1) (omega arith)))))
          (λ ne. without_else rest.view s t ne ∙ (so.hosted t ∙ ap (λ (b : Bool). cond b false (hosts v t)) (same t ne)));
      known = ap (λ (u : View). u.known) new_is ∙ so.known;
      limits = ap (λ (u : View). u.limits) new_is ∙ so.limits;
    }
      where
        same : (t : ℕ) → t ≢ s → nat_lt t s ≡ nat_lt t (s + 1)
        same t ne = dite (dec_lt t s) (λ d. lt-ltb t s d ∙ sym (lt-ltb t (s + 1) (omega arith))) (λ d. le-ltb t s (grind (arith, d)) ∙ sym (le-ltb t (s + 1) (grind (arith, d, ne))))

-- once each session has its seat, the rest is the merger's
pub parts_all : (store : Store) (v : View) (seats : List Sitting) (rest : Sitting) (s : ℕ) → PartsSo store v seats rest s → s ≡ v.limits.sessions → HostsAll v → ((t : ℕ) → hosts v t ≡ true → t ≤ v.limits.sessions) → Parts store v seats rest
parts_all store v seats rest s so is all low = record {
  count = so.count ∙ is;
  each = λ t none below. so.each t none (omega arith);
  last = record {
    seat_of = so.seat_of;
    hosted = λ t. so.hosted t ∙ dite (dec_lt t s)
        (λ d. ap (λ (b : Bool). cond b false (hosts v t)) (lt-ltb t s d) ∙ sym (ne_eqb t v.limits.sessions (λ e. omega arith)))
        (λ d. ap (λ (b : Bool). cond b false (hosts v t)) (le-ltb t s (grind (arith, d))) ∙ dite (ℕ_discrete t v.limits.sessions)
        (λ e. all t (omega arith) ∙ sym (eq-eqb t v.limits.sessions e))
        (λ ne. ⊎_elim (λ (h : hosts v t ≡ true). absurd (let l = low t h in grind (arith, d, ne, l, is))) (λ (h : hosts v t ≡ false). h ∙ sym (ne_eqb t v.limits.sessions ne)) (cases_Bool (hosts v t))));
    knows_same = rest_knows store v seats rest s so v.limits.sessions;
  };
}

-- the parts are seats of the store
pub parts_of : (store : Store) (v : View) (seats : List Sitting) (merger : Sitting) → Parts store v seats merger → All (IsSeatOf store) seats
parts_of store v seats merger parts k d low = (parts.each k d (let e = parts.count in omega arith)).seat_of
