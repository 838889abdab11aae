-- Two sessions that one seat hosts.
use Rattle.std.proofs.Common.{◌≡◌, ℕ, ◌+◌, ◌<◌, List, Bool, true, false, slice_index_or, sym, subst, ap, ◌∙◌, arith}
use lib.ListN.{get_or-replicate}
use mathlib.Core.Logic.{dite}
use native.Mathlib.Decide.{ℕ_discrete}
use Rattle.lst_layout.specs.declared.limits.Limits.{Limits}
use Rattle.lst_layout.specs.declared.layout.Layout.{Layout}
use Rattle.lst_layout.specs.Limits.{IsValid}
use Rattle.lst_core_state.specs.declared.known.Known.{Known}
use Rattle.lst_core_state.specs.declared.known.Placing.{Placing}
use Rattle.lst_core_state.specs.declared.facts.Fact.{Fact}
use Rattle.lst_core_state.specs.declared.facts.Find.{Find}
use Rattle.lst_core_state.specs.Index.{size}
use Rattle.lst_core_state.specs.State.{newcomer}
use Rattle.lst_core_state.proofs.Positions.{records_low}
use Rattle.lst_rule.specs.declared.view.View.{View}
use Rattle.lst_rule.specs.Rule.{knows, hosts, crew}
use Rattle.lst_rule.proofs.Opening.{same_at}
use Rattle.lst_rule.specs.Learned.{Possible}
use Rattle.lst_rule.specs.declared.store.Store.{Store}
use Rattle.lst_rule.specs.Seats.{Sitting}
use Rattle.lst_rule.specs.Stores.{IsSeatOf}
use Rattle.lst_index.specs.Searches.{Passed, Works, Keeps}
use Rattle.lst_index.specs.Visits.{HasOne}
use Rattle.lst_index.specs.Pairs.{IsPair, IsIdle}
use Rattle.lst_index.proofs.Views.{keeps_free}
use Rattle.lst_index.proofs.Looks.{idle}

pub idle_open : (seat : Sitting) (l : Limits) (s : ℕ) → seat.view ≡ crew l → IsIdle seat s
idle_open seat l s is = ap (λ (v : View). (knows v s).placing.hand) is ∙ ap (λ (k : Known). k.placing.hand) (same_at (l.sessions + 1) s (newcomer l))

pub pair_open : (store : Store) (seat : Sitting) (layout : Layout) → IsSeatOf store seat → store.layout ≡ layout → seat.view ≡ crew layout.limits → layout.limits.sessions ≡ 2 → IsPair store seat
pair_open store seat layout seat_of same is two = record {
  seat_of = seat_of;
  two = ap (λ (y : Layout). y.limits.sessions) same ∙ two;
  hosted = λ s low. ap (λ (v : View). hosts v s) is ∙ get_or-replicate (layout.limits.sessions + 1) s true false (omega arith);
  second = idle_open seat layout.limits 1 is;
}

pub pair_own : (store : Store) (seat : Sitting) (s : ℕ) → IsPair store seat → s < 2 → s < seat.view.limits.sessions
pair_own store seat s p low = subst (λ (n : ℕ). s < n) (sym (ap (λ (l : Limits). l.sessions) p.seat_of.limits ∙ p.two)) low

-- ---- after steps of the session s

module _ (store : Store) (seat on : Sitting) (s : ℕ) (finds : List Find) (p : IsPair store seat) (seat_of : IsSeatOf store on) (a : Works seat.view on.view s finds) where
  pub pair_on : IsIdle on 1 → IsPair store on
  pair_on second = record {
    seat_of = seat_of;
    two = p.two;
    hosted = λ t low. ap (λ (bs : List Bool). slice_index_or bs t false) a.view.hosted ∙ p.hosted t low;
    second = second;
  }

  idle_at : (t : ℕ) → IsIdle seat t → IsIdle on s → IsIdle on t
  idle_at t before now = dite (ℕ_discrete t s) (λ e. subst (IsIdle on) (sym e) now) (λ ne. ap (λ (k : Known). k.placing.hand) (a.view.others t ne) ∙ before)

  -- which has no record in hand then
  pub pair_idle : IsIdle on s → IsPair store on
  pair_idle now = pair_on (idle_at 1 p.second now)

  pub first_idle : IsIdle seat 0 → IsIdle on s → IsIdle on 0
  first_idle before now = idle_at 0 before now

  pub still_idle : IsIdle seat s → Keeps (knows seat.view s).placing (knows on.view s).placing → IsIdle on s
  still_idle before keeps = ap (λ (q : Placing). q.hand) (keeps_free (knows seat.view s).placing (knows on.view s).placing before keeps) ∙ before

  -- steps of the first
  pub pair_first : s ≡ 0 → IsPair store on
  pair_first e = pair_on (ap (λ (k : Known). k.placing.hand) (a.view.others 1 (λ f. omega arith)) ∙ p.second)

-- ---- what is asked at the first position

pub some_size : (l : Limits) → IsValid l → 0 < size l
some_size l sized = let h = records_low l sized in omega arith

pub passed_none : (l : Limits) (facts : List Fact) (key : ℕ) → Passed l facts key 0
passed_none l facts key i h = absurd (omega arith)

pub keyless : (store : Store) (seat : Sitting) (s : ℕ) → IsPair store seat → s < 2 → Possible seat.view → IsIdle seat s → (knows seat.view s).placing.has_key ≡ false
keyless store seat s p low z free = idle seat.view s (p.hosted s low) (pair_own store seat s p low) z free

pub has_still : (seat on : Sitting) (key : ℕ) → knows on.view 0 ≡ knows seat.view 0 → HasOne (knows seat.view 0).placing key → HasOne (knows on.view 0).placing key
has_still seat on key e has = subst (λ (k : Known). HasOne k.placing key) (sym e) has

pub idle_still : (seat on : Sitting) → knows on.view 0 ≡ knows seat.view 0 → IsIdle seat 0 → IsIdle on 0
idle_still seat on e free = ap (λ (k : Known). k.placing.hand) e ∙ free

pub serving_still : (seat on : Sitting) → knows on.view 0 ≡ knows seat.view 0 → (knows seat.view 0).placing.counter.is_serving ≡ true → (knows on.view 0).placing.counter.is_serving ≡ true
serving_still seat on e serving = ap (λ (k : Known). k.placing.counter.is_serving) e ∙ serving

pub two_positions : (l : Limits) → IsValid l → 1 < size l
two_positions l sized = let h = records_low l sized in let some = sized.ranges.0 in omega arith
