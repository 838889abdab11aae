-- The crew of a store that opens.
use Rattle.std.proofs.Common.{◌≡◌, ℕ, ◌+◌, ◌<◌, true, false, refl, sym, subst, ap, ◌∙◌, arith}
use Rattle.std.proofs.lemmas.List.{get_or-replicate}
use Rattle.lst_layout.specs.declared.limits.Limits.{Limits}
use Rattle.lst_layout.specs.Limits.{IsValid}
use Rattle.lst_layout.specs.Areas as areas
use Rattle.lst_layout.specs.Words.{Words, opening_at, opening as opening_words}
use Rattle.lst_layout.proofs.Openings.{opening_is_shown}
use Rattle.lst_machine.specs.State.{opening}
use Rattle.lst_core_state.specs.State.{newcomer}
use Rattle.lst_rule.specs.declared.view.View.{View}
use Rattle.lst_rule.specs.Rule.{crew, knows, hosts}
use Rattle.lst_rule.specs.declared.store.Store.{Store}
use Rattle.lst_rule.specs.Stores.{IsSeatOf}
use Rattle.lst_rule.proofs.Opening.{same_at}
use Rattle.lst_rule.proofs.Copying.{length-listed, listed_at}
use Rattle.lst_refinement.specs.Crews.{IsIdle, IsPinnedWhereOpen}
use Rattle.lst_core_state.specs.Pages.{no_pages, opening_merger}
use Rattle.lst_rule.specs.Spares.{AreSpares}
use Rattle.lst_refinement.specs.Telling.{told_store, told_pages}
use Rattle.lst_refinement.proofs.PageParts.{opening_pages_are_told}
use Rattle.lst_refinement.proofs.Openings.{opening_is_told}
use Rattle.lst_session.proofs.Readying.{newcomer_pinned}
use Rattle.lst_session.specs.declared.crew.Crew.{Crew}
use Rattle.lst_session.specs.Crews.{words_of, IsCrewOf, TellsState, pages_known, state_told}

module _ (l : Limits) where
  newcomers : (s : ℕ) → knows (crew l) s ≡ newcomer l
  newcomers s = same_at (l.sessions + 1) s (newcomer l)

  first_is : words_of (crew l) ≡ opening_words l
  first_is = opening_is_shown l (crew l).words record { sized = length-listed (opening_at l) 0 (areas.words_of l); each = λ a low. listed_at (opening_at l) 0 (areas.words_of l) a low ∙ ap (opening_at l) (omega arith) }

  opening_tells : TellsState (crew l)
  opening_tells = record {
    whole = refl;
    records = let none = ap (λ (w : Words). w.counter) first_is in omega arith;
    placed = λ r low. let none = ap (λ (w : Words). w.counter) first_is in absurd (omega arith);
    tails = λ range low. let none = ap (λ (w : Words). w.counts range) first_is in omega arith;
  }

  pages_first : pages_known (crew l) ≡ told_pages l (λ s. newcomer l) (opening_merger l)
  unfolding no_pages
  pages_first = λ i. told_pages l (λ s. newcomers s i) (newcomers l.sessions i).pages.stock

  opening_told : IsValid l → state_told (crew l) ≡ opening
  opening_told valid = (λ i. record { store = told_store l (first_is i) (λ s. newcomers s i); pages = pages_first i }) ∙ (λ i. record { store = opening_is_told l valid i; pages = opening_pages_are_told l valid i })

-- the first seat of a store
pub opened_crew : (store : Store) (new : Crew) (l : Limits) → IsSeatOf store new.seat → new.seat.view ≡ crew l → AreSpares (crew l) new.spares.items → IsCrewOf store new
opened_crew store new l of is spares = record {
  seat_of = of;
  hosted = λ s low. let few : s < l.sessions = subst (λ (v : View). s < v.limits.sessions) is low in
      subst (λ (v : View). hosts v s ≡ true) (sym is) (get_or-replicate (l.sessions + 1) s true false (omega arith));
  merger = subst (λ (v : View). hosts v v.limits.sessions ≡ true) (sym is) (get_or-replicate (l.sessions + 1) l.sessions true false (omega arith));
  idle = λ s low. subst (λ (v : View). IsIdle (knows v s)) (sym is) (subst IsIdle (sym (newcomers l s)) record { rec = refl; hold = refl; turn = refl });
  pinned = λ s low. subst (λ (v : View). IsPinnedWhereOpen (knows v s)) (sym is) (subst IsPinnedWhereOpen (sym (newcomers l s)) (newcomer_pinned l));
  spares = subst (λ (v : View). AreSpares v new.spares.items) (sym is) spares;
}

pub opened_tells : (l : Limits) (v : View) → v ≡ crew l → TellsState v
opened_tells l v is = subst TellsState (sym is) (opening_tells l)

pub opened_told : (l : Limits) (v : View) → IsValid l → v ≡ crew l → state_told v ≡ opening
opened_told l v valid is = ap state_told is ∙ opening_told l valid
