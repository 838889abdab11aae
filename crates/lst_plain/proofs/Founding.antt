-- A new engine.
use Rattle.std.proofs.Common.{◌≡◌, ℕ, zero, suc, ◌≤◌, [], get_or, replicate, refl, sym, ap, subst, arith}
use Rattle.std.proofs.lemmas.List.{length-replicate}
use Rattle.std.proofs.lemmas.List.Folds.{sum_by-replicate}
use Rattle.std.specs.Prelude.{Some, None}
use Rattle.std.specs.List.{Contains}
use Rattle.lst_layout.specs.declared.limits.Limits.{Limits}
use Rattle.lst_layout.specs.Limits.{IsValid}
use Rattle.lst_model.specs.Tables.{row_of}
use Rattle.lst_model.specs.Histories.{table_at}
use Rattle.lst_model.proofs.Folds.{get_table_at}
use Rattle.lst_machine.specs.State.{opening_store}
use Rattle.lst_plain.specs.Sessions.{SessionState, new_session}
use Rattle.lst_plain.specs.Engines.{EngineState, open_count, IsWhole}
use Rattle.lst_plain.specs.Telling.{SessionTells, StoreTells}

-- without commits, keys or open transactions
abbrev pub new_engine : Limits → EngineState
new_engine limits = record { limits = limits; clock = 0; sessions = replicate limits.sessions new_session; records = []; accepted = replicate limits.ranges 0 }

get-replicate : {A : Type 0} (n i : ℕ) (x : A) → get_or (replicate n x) i x ≡ x
get-replicate zero i x = refl
get-replicate (suc n) zero x = refl
get-replicate (suc n) (suc i) x = get-replicate n i x

pub whole_new : (limits : Limits) → IsValid limits → IsWhole (new_engine limits)
whole_new limits valid = record {
  valid = valid;
  sessions = length-replicate limits.sessions new_session;
  ranges = length-replicate limits.ranges 0;
  records = omega arith;
  accepted = λ range. let none = get-replicate {A = ℕ} limits.ranges range 0 in omega (arith, none);
  begins = λ session. let none = ap (λ (state : SessionState). state.begins) (get-replicate limits.sessions session new_session) in omega (arith, none);
  noted = λ session place kept low inside is. absurd (omega arith);
  held = λ session place kept contains. let none = subst (λ (state : SessionState). Contains state.written place) (get-replicate limits.sessions session new_session) contains in absurd (omega (arith, none.1));
  written = λ session place contains. let none = subst (λ (state : SessionState). Contains state.written place) (get-replicate limits.sessions session new_session) contains in absurd (omega (arith, none.1));
  early = λ place kept inside. absurd (omega arith);
  clock = let counts = sum_by-replicate open_count limits.sessions new_session in let numbers = sum_by-replicate (λ (state : SessionState). state.begins) limits.sessions new_session in omega (arith, counts, numbers);
}

pub tells_opening : (limits : Limits) → StoreTells (new_engine limits) limits opening_store
tells_opening limits = record {
  same_limits = refl;
  clock = refl;
  placed = refl;
  counts = λ range low. sym (get-replicate limits.ranges range 0);
  sessions = λ session low. subst (λ (state : SessionState). SessionTells state opening_store session) (sym (get-replicate limits.sessions session new_session)) (record { begins = refl; opened = refl });
  keys = λ key. record {
    rows = rows_new key;
    rising = λ i j d low inside. absurd (omega arith);
    early = omega arith;
    others = λ session is free. absurd (cc);
    pending = λ pending is. absurd (let both : None ≡ Some pending = is in cc);
    last = refl;
  };
  reached = record {
    home = λ range key is. absurd (cc);
    distinct = λ place low. absurd (omega arith);
    unused = λ session number range key low. refl;
    not_closed = λ session number low. refl;
    not_committed = λ session number low. refl;
    open_not_closed = λ session is. absurd (cc);
    open_not_committed = λ session is. absurd (cc);
    open_begun = λ session opened is. absurd (let both : None ≡ Some opened = is in cc);
  };
}
  where
    rows_new : (key time : ℕ) → time ≤ 0 → row_of (table_at [] time) key ≡ None
    rows_new key zero low = get_table_at [] 0 key
    rows_new key (suc time) low = absurd (omega arith)
