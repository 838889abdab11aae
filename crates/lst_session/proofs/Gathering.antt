-- Sessions are gathered: a session of each number is there, and has seen the whole history at the seat of all.
use Rattle.std.proofs.Common.{◌≡◌, ℕ, ◌+◌, ◌<◌, ◌≤◌, List, [], ◌∷◌, ◌++◌, Bool, true, false, ◌||◌, eqb, length, map, get_or, refl, sym, subst, ap, ◌∙◌, arith, true≢false, append_assoc, length-append}
use Rattle.std.specs.List.{All, list_any}
use Rattle.std.proofs.lemmas.Bool.{eqb-true}
use Rattle.std.proofs.lemmas.List.{get_or-map, length-map, map-append}
use Rattle.std.proofs.lemmas.List.Folds.{Any-from_list_any, list_any_at}
use Rattle.lst_layout.specs.declared.limits.Limits.{Limits}
use Rattle.lst_core_state.specs.declared.known.Known.{Known}
use Rattle.lst_rule.specs.declared.store.Store.{Store}
use Rattle.lst_rule.specs.Rule.{knows, hosts}
use Rattle.lst_rule.specs.Seats.{Sitting}
use Rattle.lst_rule.specs.Stores.{IsSeatOf}
use Rattle.lst_seat.specs.Seats.{AreAllHosted, IsGap, Gathers, HasSeenAll, IsGatheredFrom}
use Rattle.lst_rule.specs.PageSteps.{stock_of}
use Rattle.lst_rule.specs.Spares.{AreSpares}
use Rattle.lst_refinement.specs.Crews.{IsIdle, IsPinnedWhereOpen}
use Rattle.lst_session.specs.declared.crew.Crew.{Crew}
use Rattle.lst_session.specs.declared.session.Session.{Session}
use Rattle.lst_session.specs.Crews.{IsCrewOf}
use Rattle.lst_session.specs.Parting.{IsPass, has_number, known_by, AreAllThere, IsGathered}
use Rattle.lst_session.specs.Passes.{IsReady}
use Rattle.lst_session.proofs.Growing.{away_stays}
use Rattle.lst_session.proofs.Keeping.{spares_still}

abbrev pub seats_in : List Session → List Sitting
seats_in sessions = map (λ (x : Session). x.seat) sessions

-- the seats of the sessions that were passed, and there is room for the rest
pub record SeatsSo (sessions done rest : List Session) (seats : List Sitting) (placed wide : ℕ) : Type 0 where
  pub splits : sessions ≡ done ++ rest
  pub is : seats ≡ seats_in done
  pub full : placed ≡ length done
  pub room : length sessions ≤ wide

pub seats_next : (sessions done before rest : List Session) (x : Session) (seats new : List Sitting) (placed after wide room : ℕ) → SeatsSo sessions done before seats placed wide → before ≡ x ∷ rest
    → new ≡ seats ++ x.seat ∷ [] → after ≡ placed + 1 → room ≡ wide → SeatsSo sessions (done ++ x ∷ []) rest new after room
seats_next sessions done before rest x seats new placed after wide room so next pushed more same = let one = length-append done (x ∷ []) in record {
  splits = so.splits ∙ (ap (λ (l : List Session). done ++ l) next ∙ sym (append_assoc done (x ∷ []) rest));
  is = pushed ∙ (ap (λ (l : List Sitting). l ++ x.seat ∷ []) so.is ∙ sym (map-append (λ (y : Session). y.seat) done (x ∷ [])));
  full = let e = so.full in omega arith;
  room = subst (λ (n : ℕ). length sessions ≤ n) (sym same) so.room;
}

-- ---- a session of each number

-- the sessions and their count under other names
pub there_of : (same sessions : List Session) (l m : Limits) → same ≡ sessions → l ≡ m → AreAllThere same l.sessions → AreAllThere sessions m.sessions
there_of same sessions l m is limits there = subst (λ (z : Limits). AreAllThere sessions z.sessions) limits (subst (λ (xs : List Session). AreAllThere xs l.sessions) is there)

-- where one of the sessions has the number, and which
pub record Found (sessions : List Session) (s : ℕ) : Type 0 where
  pub place : ℕ
  pub session : Session
  pub low : place < length sessions
  pub is : get_or sessions place session ≡ session
  pub number : session.number ≡ s

pub found : (sessions : List Session) (s : ℕ) → has_number sessions s ≡ true → Found sessions s
found sessions s has = let any = Any-from_list_any (λ (x : Session). eqb x.number s) sessions has in record {
  place = any.0;
  session = any.1;
  low = any.2;
  is = any.3;
  number = eqb-true any.1.number s any.4;
}

pub pass_of : (P : Session → Type 0) (sessions : List Session) (s : ℕ) (f : Found sessions s) → All P sessions → P f.session
pass_of P sessions s f all = subst P f.is (all f.place f.session f.low)

module _ (store : Store) (sessions : List Session) (m : Sitting) (passes : All (IsPass store) sessions) (m_of : IsSeatOf store m) (there : AreAllThere sessions m.view.limits.sessions) where
  unseated : Sitting → Session
  unseated none = record { seat = none; number = 0 }

  seats_length : length (seats_in sessions) ≡ length sessions
  seats_length = length-map sessions (λ (x : Session). x.seat)

  seat_at : (k : ℕ) (none : Sitting) → k < length sessions → get_or (seats_in sessions) k none ≡ (get_or sessions k (unseated none)).seat
  seat_at k none low = get_or-map (λ (x : Session). x.seat) sessions k (unseated none) none low

  -- what holds of each session's seat holds of each seat
  each_seat : (P : Sitting → Type 0) → ((k : ℕ) (none : Session) → k < length sessions → P (get_or sessions k none).seat) → All P (seats_in sessions)
  each_seat P all k none low = let few : k < length sessions = (let e = seats_length in omega arith) in subst P (sym (seat_at k none few)) (all k (unseated none) few)

  -- and the other way round
  seat_of_each : (P : Sitting → Type 0) → All P (seats_in sessions) → (k : ℕ) (none : Session) → k < length sessions → P (get_or sessions k none).seat
  seat_of_each P all k none low = subst P (get_or-map (λ (x : Session). x.seat) sessions k none none.seat low) (all k none.seat (let e = seats_length in omega arith))

  pub seats_of_store : All (IsSeatOf store) (seats_in sessions)
  seats_of_store = each_seat (IsSeatOf store) (λ k none low. (passes k none low).seat_of)

  -- ---- no session is missing

  found_at : (s : ℕ) → s < m.view.limits.sessions → Found sessions s
  found_at s low = found sessions s (there s low)

  hosted_at : (s : ℕ) (f : Found sessions s) → hosts f.session.seat.view s ≡ true
  hosted_at s f = subst (λ (t : ℕ). hosts f.session.seat.view t ≡ true) f.number (pass_of (IsPass store) sessions s f passes).host

  any_hosts : (s : ℕ) (f : Found sessions s) → list_any (λ (seat : Sitting). hosts seat.view s) (seats_in sessions) ≡ true
  any_hosts s f = list_any_at (λ (seat : Sitting). hosts seat.view s) (seats_in sessions) f.place f.session.seat (let e = seats_length in let low = f.low in omega arith)
      (ap (λ (seat : Sitting). hosts seat.view s) (get_or-map (λ (x : Session). x.seat) sessions f.place f.session f.session.seat f.low ∙ ap (λ (x : Session). x.seat) f.is) ∙ hosted_at s f)

  or_true : (b c : Bool) → c ≡ true → (b || c) ≡ true
  or_true true c is = refl
  or_true false c is = is

  pub all_hosted : AreAllHosted (seats_in sessions) m.view
  all_hosted s low = or_true (hosts m.view s) (list_any (λ (seat : Sitting). hosts seat.view s) (seats_in sessions)) (any_hosts s (found_at s low))

  pub no_gap : (missing : ℕ) → IsGap (seats_in sessions) m.view missing → ⊥
  no_gap missing gap = true≢false (sym (all_hosted missing gap.session) ∙ gap.none)

  -- ---- the seat of all

  module _ (new : Crew) (w_of : IsSeatOf store new.seat) (g : Gathers (seats_in sessions) m.view new.seat.view) where
    own_low : (x : Session) → IsPass store x → x.number < new.seat.view.limits.sessions
    own_low x pass = subst (λ (l : Limits). x.number < l.sessions) (pass.seat_of.limits ∙ sym w_of.limits) pass.own

    each : All (λ (x : Session). HasSeenAll new.seat.view x.number (known_by x)) sessions
    each k none low = let x = get_or sessions k none in let pass = passes k none low in
        (seat_of_each (λ (seat : Sitting). IsGatheredFrom new.seat.view seat.view) g.each k none low).0 x.number (own_low x pass) pass.host

    w_sessions : new.seat.view.limits.sessions ≡ m.view.limits.sessions
    w_sessions = ap (λ (l : Limits). l.sessions) g.limits

    seen_all : (s : ℕ) → s < new.seat.view.limits.sessions → (f : Found sessions s) × HasSeenAll new.seat.view s (known_by f.session)
    seen_all s low = let f = found_at s (let e = w_sessions in omega arith) in
        (f, subst (λ (t : ℕ). HasSeenAll new.seat.view t (known_by f.session)) f.number (pass_of (λ (x : Session). HasSeenAll new.seat.view x.number (known_by x)) sessions s f each))

    pub gathered : hosts m.view m.view.limits.sessions ≡ true → IsGathered sessions m.view new.seat.view
    gathered on = record {
      limits = g.limits;
      all = g.hosted;
      whole = g.whole;
      each = each;
      seen = λ s low. ap (λ (k : Known). k.seen) (seen_all s low).1.now;
      merger = g.own.1 (subst (λ (t : ℕ). hosts m.view t ≡ true) (sym w_sessions) on);
    }

    idle_at : All (IsReady store) sessions → (s : ℕ) → s < new.seat.view.limits.sessions → IsIdle (knows new.seat.view s)
    idle_at ready s low = let both = seen_all s low in let f : Found sessions s = both.0 in let idle = (pass_of (IsReady store) sessions s f ready).idle in
        subst IsIdle (sym both.1.now) record { rec = idle.rec; hold = idle.hold; turn = away_stays (known_by f.session).turn idle.turn }

    pinned_at : All (IsReady store) sessions → (s : ℕ) → s < new.seat.view.limits.sessions → IsPinnedWhereOpen (knows new.seat.view s)
    pinned_at ready s low = let both = seen_all s low in let f : Found sessions s = both.0 in subst IsPinnedWhereOpen (sym both.1.now) (pass_of (IsReady store) sessions s f ready).pinned

    stock_same : hosts m.view m.view.limits.sessions ≡ true → stock_of new.seat.view ≡ stock_of m.view
    stock_same on = ap (λ (k : Known). k.pages.stock) (gathered on).merger ∙ ap (λ (n : ℕ). (knows m.view n).pages.stock) w_sessions

    pub spares_gathered : hosts m.view m.view.limits.sessions ≡ true → AreSpares m.view new.spares.items → AreSpares new.seat.view new.spares.items
    spares_gathered on spares = spares_still m.view new.seat.view new.spares.items (stock_same on) spares

    pub crew_gathered : AreSpares new.seat.view new.spares.items → All (IsReady store) sessions → IsCrewOf store new
    crew_gathered spares ready = record {
      seat_of = w_of;
      hosted = λ s low. g.hosted s (omega arith);
      merger = g.hosted new.seat.view.limits.sessions (omega arith);
      idle = idle_at ready;
      pinned = pinned_at ready;
      spares = spares;
    }
