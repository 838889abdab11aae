-- A crew is parted: what stands at each place of the list of its sessions.
use Rattle.std.proofs.Common.{◌≡◌, ℕ, suc, zero, ◌+◌, ◌<◌, ◌≤◌, List, [], ◌∷◌, ◌++◌, length, get_or, refl, sym, subst, ap, ◌∙◌, arith, eq-eqb, append_assoc, length-append}
use Rattle.std.specs.List.{All}
use Rattle.lst_layout.specs.declared.limits.Limits.{Limits}
use Rattle.lst_core_state.specs.declared.known.Known.{Known}
use Rattle.lst_rule.specs.declared.store.Store.{Store}
use Rattle.lst_rule.specs.declared.view.View.{View}
use Rattle.lst_rule.specs.Rule.{knows}
use Rattle.lst_rule.specs.Seats.{Sitting}
use Rattle.lst_seat.specs.Seats.{Parts}
use Rattle.lst_seat.proofs.Gathering.{all_first, all_last}
use Rattle.lst_rule.specs.PageSteps.{stock_of}
use Rattle.lst_rule.specs.Spares.{AreSpares}
use Rattle.lst_refinement.specs.Crews.{IsIdle, IsPinnedWhereOpen}
use Rattle.lst_session.specs.declared.passes.Merger.{Merger}
use Rattle.lst_session.specs.declared.session.Session.{Session}
use Rattle.lst_session.specs.Parting.{IsPass, numbered_from, are_numbered, IsPassFrom, IsParted, IsMergerOf}
use Rattle.lst_session.specs.Passes.{IsReady}
use Rattle.lst_session.proofs.Keeping.{spares_still}

-- ---- numbers

abbrev pub with_number : Sitting → ℕ → Session
with_number seat n = record { seat = seat; number = n }

pub numbered_more : (n : ℕ) (xs : List Sitting) (x : Sitting) → numbered_from n (xs ++ x ∷ []) ≡ numbered_from n xs ++ with_number x (n + length xs) ∷ []
numbered_more n [] x = ap (λ (m : ℕ). with_number x m ∷ []) (omega arith)
numbered_more n (y ∷ ys) x = ap (λ (l : List Session). with_number y n ∷ l) (numbered_more (suc n) ys x ∙ ap (λ (m : ℕ). numbered_from (suc n) ys ++ with_number x m ∷ []) (omega arith))

pub numbered_length : (n : ℕ) (xs : List Sitting) → length (numbered_from n xs) ≡ length xs
numbered_length n [] = refl
numbered_length n (x ∷ xs) = ap suc (numbered_length (suc n) xs)

pub numbered_at : (n : ℕ) (xs : List Sitting) (i : ℕ) (none : Session) (other : Sitting) → i < length xs → get_or (numbered_from n xs) i none ≡ with_number (get_or xs i other) (n + i)
numbered_at n [] i none other low = absurd (omega arith)
numbered_at n (x ∷ xs) zero none other low = ap (with_number x) (omega arith)
numbered_at n (x ∷ xs) (suc i) none other low = numbered_at (suc n) xs i none other (omega arith) ∙ ap (with_number (get_or xs i other)) (omega arith)

-- the seats that were passed have their numbers, and there is room for the rest
pub record NumbersSo (seats done rest : List Sitting) (passes : List Session) (number placed wide : ℕ) : Type 0 where
  pub splits : seats ≡ done ++ rest
  pub is : passes ≡ numbered_from 0 done
  pub count : number ≡ length done
  pub full : placed ≡ length done
  pub room : length seats ≤ wide

pub numbers_next : (seats done before rest : List Sitting) (x : Sitting) (passes new : List Session) (number placed after wide room : ℕ) → NumbersSo seats done before passes number placed wide → before ≡ x ∷ rest
    → new ≡ passes ++ with_number x number ∷ [] → after ≡ placed + 1 → room ≡ wide → NumbersSo seats (done ++ x ∷ []) rest new (number + 1) after room
numbers_next seats done before rest x passes new number placed after wide room so next pushed more same = let one = length-append done (x ∷ []) in record {
  splits = so.splits ∙ (ap (λ (l : List Sitting). done ++ l) next ∙ sym (append_assoc done (x ∷ []) rest));
  is = pushed ∙ ((λ i. so.is i ++ with_number x (so.count i) ∷ []) ∙ sym (numbered_more 0 done x ∙ ap (λ (m : ℕ). numbered_from 0 done ++ with_number x m ∷ []) (omega arith)));
  count = let e = so.count in omega arith;
  full = let e = so.full in omega arith;
  room = subst (λ (n : ℕ). length seats ≤ n) (sym same) so.room;
}

-- ---- the crew is parted

module _ (store : Store) (v : View) (v_limits : v.limits ≡ store.layout.limits) (seats : List Sitting) (merger : Merger) (p : Parts store v seats merger.seat) where
  abbrev passes : List Session
  passes = are_numbered seats

  plain : (s : ℕ) → 0 + s ≡ s
  plain s = omega arith

  pass_at : (s : ℕ) (none : Session) → s < v.limits.sessions → IsPassFrom store v s (get_or passes s none)
  pass_at s none low = subst (IsPassFrom store v s) (sym (numbered_at 0 seats s none none.seat (let e = p.count in omega arith))) record { number = plain s; part = p.each s none.seat low }

  last_limits : merger.seat.view.limits ≡ v.limits
  last_limits = p.last.seat_of.limits ∙ sym v_limits

  pub parted : IsParted store v passes merger
  parted = record {
    count = numbered_length 0 seats ∙ p.count;
    each = pass_at;
    last = p.last;
    limits = last_limits;
  }

  stock_same : stock_of merger.seat.view ≡ stock_of v
  stock_same = ap (λ (l : Limits). (knows merger.seat.view l.sessions).pages.stock) last_limits ∙ ap (λ (k : Known). k.pages.stock) p.last.knows_same

  pub merger_parted : AreSpares v merger.spares.items → IsMergerOf store merger
  merger_parted spares = record {
    seat_of = p.last.seat_of;
    host = p.last.hosted merger.seat.view.limits.sessions ∙ eq-eqb merger.seat.view.limits.sessions v.limits.sessions (ap (λ (l : Limits). l.sessions) last_limits);
    spares = spares_still v merger.seat.view merger.spares.items stock_same spares;
  }

  -- where nobody had anything in hand, and each was pinned while it had a transaction open, each session is ready
  ready_at : ((s : ℕ) → s < v.limits.sessions → IsIdle (knows v s) × IsPinnedWhereOpen (knows v s)) → (s : ℕ) → s < v.limits.sessions → (x : Session) → IsPassFrom store v s x → IsReady store x
  ready_at idle s low x of = record {
    seat_of = of.part.seat_of;
    host = of.part.hosted x.number ∙ eq-eqb x.number s of.number;
    own = subst (λ (l : Limits). x.number < l.sessions) (v_limits ∙ sym of.part.seat_of.limits) (subst (λ (t : ℕ). t < v.limits.sessions) (sym of.number) low);
    idle = subst (λ (t : ℕ). IsIdle (knows x.seat.view t)) (sym of.number) (subst IsIdle (sym of.part.knows_same) (idle s low).0);
    pinned = subst (λ (t : ℕ). IsPinnedWhereOpen (knows x.seat.view t)) (sym of.number) (subst IsPinnedWhereOpen (sym of.part.knows_same) (idle s low).1);
  }

  pub all_ready : ((s : ℕ) → s < v.limits.sessions → IsIdle (knows v s) × IsPinnedWhereOpen (knows v s)) → All (IsReady store) passes
  all_ready idle k none low = let few : k < v.limits.sessions = (let e = numbered_length 0 seats ∙ p.count in omega arith) in ready_at idle k few (get_or passes k none) (pass_at k none few)

-- ---- a session that is ready is a pass

pub pass_ready : (store : Store) (x : Session) → IsReady store x → IsPass store x
pass_ready store x ready = record { seat_of = ready.seat_of; host = ready.host; own = ready.own }

pub passes_ready : (store : Store) (xs : List Session) → All (IsReady store) xs → All (IsPass store) xs
passes_ready store xs all k none low = pass_ready store (get_or xs k none) (all k none low)

-- ---- the last three of a list

module _ {A : Type 0} (P : A → Type 0) (xs front middle rest : List A) (x y z : A) (all : All P xs) (first : xs ≡ front ++ x ∷ []) (second : front ≡ middle ++ y ∷ []) (third : middle ≡ rest ++ z ∷ []) where
  but_one : All P front
  but_one = all_first P front x (subst (All P) first all)

  but_two : All P middle
  but_two = all_first P middle y (subst (All P) second but_one)

  pub last_of : P x
  last_of = all_last P front x (subst (All P) first all)

  pub second_last_of : P y
  second_last_of = all_last P middle y (subst (All P) second but_one)

  pub third_last_of : P z
  third_last_of = all_last P rest z (subst (All P) third but_two)
