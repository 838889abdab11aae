-- A new store that is parted: nobody has done anything.
use Rattle.std.proofs.Common.{◌≡◌, ℕ, ◌+◌, ◌<◌, List, [], length, refl, sym, subst, ap, ◌∙◌, arith}
use Rattle.std.specs.Prelude.{slice_index_or}
use Rattle.std.specs.List.{All}
use Rattle.lst_layout.specs.declared.limits.Limits.{Limits}
use Rattle.lst_machine.specs.State.{State, opening}
use Rattle.lst_core_state.specs.declared.known.Known.{Known}
use Rattle.lst_core_state.specs.Pages.{no_pages}
use Rattle.lst_core_state.specs.State.{newcomer, mine}
use Rattle.lst_pages.specs.Sound.{IsPage}
use Rattle.lst_rule.specs.declared.store.Store.{Store}
use Rattle.lst_rule.specs.declared.view.View.{View}
use Rattle.lst_rule.specs.Rule.{knows, crew as opening_view}
use Rattle.lst_rule.specs.PageSteps.{stock_of}
use Rattle.lst_rule.proofs.Opening.{same_at}
use Rattle.lst_merge.specs.Inspections.{merger_of}
use Rattle.lst_pages.specs.Runs.{tps_known}
use Rattle.lst_replies.specs.States.{unbegun}
use Rattle.lst_refinement.proofs.PageParts.{within_is}
use Rattle.lst_session.specs.declared.session.Session.{Session}
use Rattle.lst_session.specs.declared.passes.Merger.{Merger}
use Rattle.lst_session.specs.Crews.{state_told}
use Rattle.lst_session.specs.Parting.{known_by, IsParted}
use Rattle.lst_session.specs.Passes.{IsReady}
use Rattle.lst_work_laws.specs.Lines.{session_told}
use Rattle.lst_work_laws.specs.Legal.{HaveDoneNothing}
use Rattle.lst_work_laws.specs.Scripts.{IsFresh}

no_pins : (l : Limits) → (no_pages l).pins ≡ 0
unfolding no_pages
no_pins l = refl

module _ (store : Store) (l : Limits) (v : View) (sessions : List Session) (merger : Merger) (is_layout : store.layout.limits ≡ l) (is_opening : v ≡ opening_view l) (told : state_told v ≡ opening)
    (parted : IsParted store v sessions merger) (ready : All (IsReady store) sessions) where
  v_limits : v.limits ≡ l
  v_limits = ap (λ (u : View). u.limits) is_opening

  in_view : (s : ℕ) → s < length sessions → s < v.limits.sessions
  in_view s low = let e = parted.count in omega arith

  -- each session knows what one knows at the opening
  pub known_first : (s : ℕ) (d : Session) → s < length sessions → known_by (slice_index_or sessions s d) ≡ knows (opening_view l) s
  known_first s d low = let x = parted.each s d (in_view s low) in
      ap (knows (slice_index_or sessions s d).seat.view) x.number ∙ (x.part.knows_same ∙ ap (λ (u : View). knows u s) is_opening)

  -- and the merger what it knows there
  pub merger_first : merger_of merger.seat.view ≡ merger_of (opening_view l)
  merger_first = ap (λ (m : Limits). knows merger.seat.view m.sessions) parted.limits ∙ (parted.last.knows_same ∙ ap (λ (u : View). knows u u.limits.sessions) is_opening)

  pub merger_limits : merger.seat.view.limits ≡ l
  merger_limits = parted.limits ∙ v_limits

  newcomers : (s : ℕ) (d : Session) → s < length sessions → newcomer l ≡ known_by (slice_index_or sessions s d)
  newcomers s d low = sym (known_first s d low ∙ same_at (l.sessions + 1) s (newcomer l))

  fresh : (session : Session) → newcomer l ≡ known_by session → IsFresh session
  fresh session is = record {
    state = subst (λ (k : Known). session_told k ≡ unbegun) is refl;
    done = subst (λ (k : Known). k.done ≡ []) is refl;
    latched = subst (λ (k : Known). k.latched ≡ []) is refl;
    drawn = subst (λ (k : Known). k.placing.drawn ≡ []) is refl;
    mine = subst (λ (k : Known). mine session.number k ≡ []) is refl;
  }

  stock_first : stock_of merger.seat.view ≡ stock_of v
  stock_first = ap (λ (m : Limits). (knows merger.seat.view m.sessions).pages.stock) parted.limits ∙ ap (λ (k : Known). k.pages.stock) parted.last.knows_same

  tps_none : (range column : ℕ) → IsPage v.limits range column → tps_known (stock_of v) range column ≡ 0
  tps_none range column page = sym (within_is v.limits range column (tps_known (stock_of v) range column) 0 page) ∙ ap (λ (state : State). state.pages.tps range column) told

  pub have_done_nothing : HaveDoneNothing store sessions merger.seat.view
  have_done_nothing = record {
    all = record {
      count = parted.count ∙ ap (λ (m : Limits). m.sessions) (v_limits ∙ sym is_layout);
      number = λ s d low. (parted.each s d (in_view s low)).number;
      ready = λ s d low. ready s d low;
    };
    fresh = λ s d low. fresh (slice_index_or sessions s d) (newcomers s d low);
    unpinned = λ s d low. ap (λ (k : Known). k.pages.pins) (sym (newcomers s d low)) ∙ no_pins l;
    swaps = ap (λ f. f.epoch) stock_first ∙ ap (λ (state : State). state.pages.swaps) told;
    tps = λ range column page. ap (λ f. tps_known f range column) stock_first ∙ tps_none range column (subst (λ (m : Limits). IsPage m range column) (is_layout ∙ sym v_limits) page);
  }
