-- A session of a store that opens is ready.
use Rattle.std.proofs.Common.{◌≡◌, ℕ, ◌+◌, ◌<◌, true, false, refl, sym, subst, ap, ◌∙◌, arith}
use Rattle.std.proofs.lemmas.List.{get_or-replicate}
use Rattle.lst_layout.specs.declared.limits.Limits.{Limits}
use Rattle.lst_core_state.specs.State.{newcomer}
use Rattle.lst_rule.specs.declared.view.View.{View}
use Rattle.lst_rule.specs.Rule.{crew, knows, hosts}
use Rattle.lst_rule.proofs.Opening.{same_at}
use Rattle.lst_rule.specs.declared.store.Store.{Store}
use Rattle.lst_rule.specs.Stores.{IsSeatOf}
use Rattle.lst_core_state.specs.Pages.{no_pages}
use Rattle.lst_refinement.specs.Crews.{IsIdle, IsPinnedWhereOpen}
use Rattle.lst_session.proofs.Pinned.{pinned_none}
use Rattle.lst_session.specs.declared.session.Session.{Session}
use Rattle.lst_session.specs.Passes.{IsReady}

hosted : (l : Limits) (s : ℕ) → s < l.sessions → hosts (crew l) s ≡ true
hosted l s low = get_or-replicate (l.sessions + 1) s true false (omega arith)

idle : (l : Limits) (s : ℕ) → IsIdle (knows (crew l) s)
idle l s = subst IsIdle (sym (same_at (l.sessions + 1) s (newcomer l))) record { rec = refl; hold = refl; turn = refl }

-- a newcomer has no transaction open, and no pin
pub newcomer_pinned : (l : Limits) → IsPinnedWhereOpen (newcomer l)
unfolding no_pages
newcomer_pinned l = pinned_none (newcomer l) refl refl

pub ready_at_opening : (store : Store) (session : Session) (l : Limits) → IsSeatOf store session.seat → session.seat.view ≡ crew l → session.number < l.sessions → IsReady store session
ready_at_opening store session l of opens low = record {
  seat_of = of;
  host = ap (λ (v : View). hosts v session.number) opens ∙ hosted l session.number low;
  own = subst (λ (v : View). session.number < v.limits.sessions) (sym opens) low;
  idle = subst (λ (v : View). IsIdle (knows v session.number)) (sym opens) (idle l session.number);
  pinned = subst (λ (v : View). IsPinnedWhereOpen (knows v session.number)) (sym opens) (subst IsPinnedWhereOpen (sym (same_at (l.sessions + 1) session.number (newcomer l))) (newcomer_pinned l));
}
