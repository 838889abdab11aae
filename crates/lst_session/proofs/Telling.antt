-- A session hears a note, and all sessions hear of each other.
use Rattle.std.proofs.Common.{◌≡◌, ℕ, ◌+◌, ◌<◌, List, [], ◌++◌, Bool, true, false, eqb, eqb-true, length, get_or, slice_set, refl, sym, subst, ap, ◌∙◌, arith, append-nil, append_assoc}
use mathlib.Core.Logic.{dite}
use native.Mathlib.Decide.{ℕ_discrete}
use Rattle.std.specs.List.{All, Contains}
use Rattle.std.proofs.lemmas.List.Elements.{Contains-append_left, Contains-append_right}
use Rattle.std.proofs.lemmas.List.{get_or-set_same, get_or-set_other, length-set, set-get_or, get_or_default}
use Rattle.lst_layout.specs.declared.limits.Limits.{Limits}
use Rattle.lst_model.specs.declared.commits.Commit.{Commit}
use Rattle.lst_model.specs.Histories.{Extends}
use Rattle.lst_core_state.specs.declared.facts.Fact.{Fact}
use Rattle.lst_core_state.specs.declared.known.Known.{Known}
use Rattle.lst_core_state.specs.Laws.{heard}
use Rattle.lst_core_state.specs.State.{mine}
use Rattle.lst_core_state.proofs.Histories.{starts_trans}
use Rattle.lst_rule.specs.declared.store.Store.{Store}
use Rattle.lst_rule.specs.declared.view.View.{View}
use Rattle.lst_rule.specs.Copies.{Includes}
use Rattle.lst_rule.specs.Joins.{noted}
use Rattle.lst_rule.specs.Rule.{knows, hosts}
use Rattle.lst_rule.specs.Seats.{Sitting}
use Rattle.lst_rule.specs.Stores.{IsSeatOf}
use Rattle.lst_seat.specs.Seats.{Tells, Hears}
use Rattle.lst_refinement.specs.Crews.{IsIdle, IsPinnedWhereOpen}
use Rattle.lst_session.specs.declared.session.Session.{Session}
use Rattle.lst_session.specs.Parting.{IsPass, known_by, OnlyHears, seen_at, IsAlone, HearsMore, HearMore, HasHeardOf, HasHeard, HaveHeard}
use Rattle.lst_session.specs.Passes.{IsReady}
use Rattle.lst_session.proofs.Growing.{same_extends}

-- ---- what is known

pub hears_none : (k : Known) → OnlyHears k k
hears_none k = record {
  facts = [];
  is = ap (λ (fs : List Fact). record k { facts = fs }) (sym (append-nil k.facts));
  grows = same_extends k.seen;
  keeps = λ f h. h;
}

pub hears_on : (a b c : Known) → OnlyHears a b → OnlyHears b c → OnlyHears a c
hears_on a b c x y = record {
  facts = x.facts ++ y.facts;
  is = y.is ∙ (ap (λ (k : Known). heard k c.seen y.facts) x.is ∙ ap (λ (fs : List Fact). record a { seen = c.seen; facts = fs }) (append_assoc a.facts x.facts y.facts));
  grows = starts_trans c.seen b.seen a.seen y.grows x.grows;
  keeps = λ f h. y.keeps f (x.keeps f h);
}

pub idle_hears : (a b : Known) → OnlyHears a b → IsIdle a → IsIdle b
idle_hears a b x idle = subst IsIdle (sym x.is) record { rec = idle.rec; hold = idle.hold; turn = idle.turn }

-- ---- one session

pinned_hears : (a b : Known) → OnlyHears a b → IsPinnedWhereOpen a → IsPinnedWhereOpen b
pinned_hears a b x pinned = subst IsPinnedWhereOpen (sym x.is) pinned

pub ready_hears : (store : Store) (old new : Session) → HearsMore store old new → IsReady store old → IsReady store new
ready_hears store old new h ready = record { seat_of = h.pass.seat_of; host = h.pass.host; own = h.pass.own; idle = idle_hears (known_by old) (known_by new) h.knows ready.idle; pinned = pinned_hears (known_by old) (known_by new) h.knows ready.pinned }

pub hears_more : (store : Store) (old : Session) (seat note : Sitting) → IsPass store old → IsSeatOf store seat → Hears old.seat.view seat.view note.view → HearsMore store old (record { seat = seat; number = old.number })
hears_more store old seat note pass of h = record {
  pass = record {
    seat_of = of;
    host = ap (λ (hs : List Bool). get_or hs old.number false) h.hosted ∙ pass.host;
    own = subst (λ (l : Limits). old.number < l.sessions) (sym h.limits) pass.own;
  };
  number = refl;
  hosted = h.hosted;
  mine = h.own old.number pass.host pass.own;
  knows = let now = h.now old.number pass.host in record {
    facts = note.view.note_facts;
    is = now ∙ ap (λ (seen : List Commit). heard (known_by old) seen note.view.note_facts) (sym (ap (λ (k : Known). k.seen) now));
    grows = h.kept old.number pass.host;
    keeps = λ f has. subst (λ (fs : List Fact). Contains fs f) (sym (ap (λ (k : Known). k.facts) now)) (Contains-append_left (known_by old).facts note.view.note_facts f has);
  };
}

pub more_none : (store : Store) (x : Session) → IsPass store x → HearsMore store x x
more_none store x pass = record { pass = pass; number = refl; hosted = refl; mine = refl; knows = hears_none (known_by x) }

pub more_on : (store : Store) (a b c : Session) → HearsMore store a b → HearsMore store b c → HearsMore store a c
more_on store a b c x y = record { pass = y.pass; number = y.number ∙ x.number; hosted = y.hosted ∙ x.hosted; mine = subst (λ (n : ℕ). mine n (known_by c) ≡ mine n (known_by b)) x.number y.mine ∙ x.mine; knows = hears_on (known_by a) (known_by b) (known_by c) x.knows y.knows }

-- ---- all sessions

pub hear_none : (store : Store) (xs : List Session) → All (IsPass store) xs → HearMore store xs xs
hear_none store xs all = record { count = refl; each = λ i none low. more_none store (get_or xs i none) (all i none low) }

pub hear_on : (store : Store) (a b c : List Session) → HearMore store a b → HearMore store b c → HearMore store a c
hear_on store a b c x y = record {
  count = y.count ∙ x.count;
  each = λ i none low. more_on store (get_or a i none) (get_or b i none) (get_or c i none) (x.each i none low) (y.each i none (let e = x.count in omega arith));
}

pub passes_still : (store : Store) (a b : List Session) → HearMore store a b → All (IsPass store) b
passes_still store a b h i none low = (h.each i none (let e = h.count in omega arith)).pass

pub ready_still : (store : Store) (a b : List Session) → HearMore store a b → All (IsReady store) a → All (IsReady store) b
ready_still store a b h all i none low = let few : i < length a = (let e = h.count in omega arith) in ready_hears store (get_or a i none) (get_or b i none) (h.each i none few) (all i none few)

-- the session at a place heard something
pub hear_at : (store : Store) (xs : List Session) (i : ℕ) (x : Session) → All (IsPass store) xs → i < length xs → ((none : Session) → HearsMore store (get_or xs i none) x) → HearMore store xs (slice_set xs i x)
hear_at store xs i x all low more = record {
  count = length-set xs i x;
  each = λ j none few. dite (ℕ_discrete j i)
      (λ e. subst (λ (k : ℕ). HearsMore store (get_or xs k none) (get_or (slice_set xs i x) k none)) (sym e) (subst (HearsMore store (get_or xs i none)) (sym (get_or-set_same xs i x none low)) (more none)))
      (λ ne. subst (HearsMore store (get_or xs j none)) (sym (get_or-set_other xs i j x none ne)) (more_none store (get_or xs j none) (all j none few)));
}

-- a seat that hosts one session alone hosts no other
alone_is : (session : Session) → IsAlone session → (s : ℕ) → hosts session.seat.view s ≡ true → s ≡ session.number
alone_is session alone s hosted = eqb-true s session.number (sym (alone s) ∙ hosted)

-- and hosts it alone after it heard something
alone_still : (store : Store) (old new : Session) → HearsMore store old new → IsAlone old → IsAlone new
alone_still store old new h alone s = ap (λ (hs : List Bool). get_or hs s false) h.hosted ∙ (alone s ∙ ap (λ (n : ℕ). eqb s n) (sym h.number))

-- what was seen before more was heard is seen after
still_of : (store : Store) (old a b : List Session) (i j : ℕ) → i < length a → HearMore store a b → HasHeardOf old a i j → HasHeardOf old b i j
still_of store old a b i j low h has = record {
  seen = λ none. starts_trans (seen_at b i none) (seen_at a i none) (seen_at old j none) (h.each i none low).knows.grows (has.seen none);
  facts = λ none alone f here. (h.each i none low).knows.keeps f (has.facts none alone f here);
}

-- and what others had seen before is no less after
more_of : (store : Store) (old a b : List Session) (i j : ℕ) → j < length old → HearMore store old a → HasHeardOf a b i j → HasHeardOf old b i j
more_of store old a b i j low h has = record {
  seen = λ none. starts_trans (seen_at b i none) (seen_at a j none) (seen_at old j none) (has.seen none) (h.each j none low).knows.grows;
  facts = λ none alone f here. has.facts none (alone_still store (get_or old j none) (get_or a j none) (h.each j none low) alone) f ((h.each j none low).knows.keeps f here);
}

-- a note of the session at the place j was heard by the one at the place i
module _ (store : Store) (xs : List Session) (i j : ℕ) (passes : All (IsPass store) xs) (i_low : i < length xs) (j_low : j < length xs) where
  pub heard_self : i ≡ j → HasHeardOf xs xs i j
  heard_self is = record {
    seen = λ none. subst (λ (k : ℕ). Extends (seen_at xs i none) (seen_at xs k none)) is (same_extends (seen_at xs i none));
    facts = λ none alone f here. subst (λ (k : ℕ). Contains (known_by (get_or xs k none)).facts f) (sym is) here;
  }

  -- the teller stays as it was, and the hearer is x
  module _ (note : Sitting) (teller hearer t x : Session) (same : t ≡ get_or xs j teller) (told : Tells store (get_or xs j teller).seat.view note) (more : HearsMore store (get_or (slice_set xs j t) i hearer) x) (hears : Hears (get_or (slice_set xs j t) i hearer).seat.view x.seat.view note.view) where
    unchanged : slice_set xs j t ≡ xs
    unchanged = ap (slice_set xs j) same ∙ set-get_or xs j teller

    hearer_is : (none : Session) → get_or (slice_set xs j t) i hearer ≡ get_or xs i none
    hearer_is none = ap (λ (l : List Session). get_or l i hearer) unchanged ∙ get_or_default xs i hearer none i_low

    teller_is : (none : Session) → get_or xs j teller ≡ get_or xs j none
    teller_is none = get_or_default xs j teller none j_low

    pub hear_more : HearMore store xs (slice_set (slice_set xs j t) i x)
    hear_more = subst (λ (l : List Session). HearMore store xs (slice_set l i x)) (sym unchanged) (hear_at store xs i x passes i_low (λ none. subst (λ (y : Session). HearsMore store y x) (hearer_is none) more))

    seen_in : (none : Session) → Extends (seen_at (slice_set xs i x) i none) (seen_at xs j none)
    seen_in none = let h = get_or xs i none in let from = get_or xs j none in
        subst (λ (y : Session). Extends (known_by y).seen (known_by from).seen) (sym (get_or-set_same xs i x none i_low))
        (starts_trans (known_by x).seen note.view.note (known_by from).seen
        (subst (λ (n : ℕ). Extends (knows x.seat.view n).seen note.view.note) (sym (more.number ∙ ap (λ (y : Session). y.number) (hearer_is none)))
        ((subst (λ (y : Session). Hears y.seat.view x.seat.view note.view) (hearer_is none) hears).told h.number (passes i none i_low).host))
        ((subst (λ (y : Session). Tells store y.seat.view note) (teller_is none) told).all from.number (passes j none j_low).host))

    -- the note of a seat that hosts one session alone has its facts
    facts_in : (none : Session) → IsAlone (get_or xs j none) → Includes (known_by (get_or (slice_set xs i x) i none)).facts (known_by (get_or xs j none)).facts
    facts_in none alone f has = let h = get_or xs i none in let from = get_or xs j none in
        let tells : Tells store from.seat.view note = subst (λ (y : Session). Tells store y.seat.view note) (teller_is none) told in
        let copy : note.view ≡ noted from.number from.seat.view = tells.copy ∙ ap (λ (s : ℕ). noted s from.seat.view) (alone_is from alone tells.teller tells.hosted) in
        let there : Contains note.view.note_facts f = subst (λ (n : View). Contains n.note_facts f) (sym copy) has in
        let now = (subst (λ (y : Session). Hears y.seat.view x.seat.view note.view) (hearer_is none) hears).now h.number (passes i none i_low).host in
        let same : known_by x ≡ knows x.seat.view h.number = ap (λ (n : ℕ). knows x.seat.view n) (more.number ∙ ap (λ (y : Session). y.number) (hearer_is none)) in
        subst (λ (y : Session). Contains (known_by y).facts f) (sym (get_or-set_same xs i x none i_low))
        (subst (λ (k : Known). Contains k.facts f) (sym (same ∙ now)) (Contains-append_right (known_by h).facts note.view.note_facts f there))

    heard_in : HasHeardOf xs (slice_set xs i x) i j
    heard_in = record { seen = seen_in; facts = facts_in }

    pub heard_of : HasHeardOf xs (slice_set (slice_set xs j t) i x) i j
    heard_of = subst (λ (l : List Session). HasHeardOf xs (slice_set l i x) i j) (sym unchanged) heard_in

-- ---- each of them

-- one more is heard
pub heard_next : (store : Store) (old a b : List Session) (i n : ℕ) → All (IsPass store) old → i < length a → n < length old → HearMore store old a → HasHeard old a i n → HearMore store a b → HasHeardOf a b i n → HasHeard old b i (n + 1)
heard_next store old a b i n passes low few before has more one j under = dite (ℕ_discrete j n)
    (λ e. subst (λ (k : ℕ). HasHeardOf old b i k) (sym e) (more_of store old a b i n few before one))
    (λ ne. still_of store old a b i j low more (has j (omega arith)))

-- one more has heard all
pub have_next : (store : Store) (old a b : List Session) (m : ℕ) → m < length old → HearMore store old a → HaveHeard old a m → HearMore store a b → HasHeard a b m (length a) → HaveHeard old b (m + 1)
have_next store old a b m few before have more one i under j low = let same = before.count in dite (ℕ_discrete i m)
    (λ e. subst (λ (k : ℕ). HasHeardOf old b k j) (sym e) (more_of store old a b m j low before (one j (omega arith))))
    (λ ne. still_of store old a b i j (omega arith) more (have i (omega arith) j low))
