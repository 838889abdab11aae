-- A journal whose history was read.
use Rattle.std.proofs.Common.{◌≡◌, ℕ, true, List, Result, Ok, Err, IfOk, sym, ap, subst}
use Rattle.lst_model.specs.declared.commits.Commit.{Commit}
use Rattle.lst_machine.specs.State.{State}
use Rattle.lst_layout.specs.declared.limits.Limits.{Limits}
use Rattle.lst_replay_laws.specs.Counts.{IsCounted, SameCommits}
use Rattle.lst_rule.specs.declared.view.View.{View}
use Rattle.lst_rule.proofs.Surveying.{survey_same}
use Rattle.lst_session.specs.declared.crew.Crew.{Crew}
use Rattle.lst_session.specs.Calls.{OnlyLooks}
use Rattle.lst_session.specs.Crews.{IsCrewOf, TellsState, TakesStock, store_told, state_told}
use Rattle.lst_redo.specs.declared.journal.Redo.{Redo}
use Rattle.lst_redo.specs.Journals.{view_of, IsJournalOf}
use Rattle.lst_redo.proofs.Lists.{own_looked}

module _ {D : Type 0} (content : D → List ℕ) (images : D → List ℕ → Type 0) (before : Redo D) (crew : Crew)
    (told : (view_of before).whole ≡ true → state_told crew.seat.view ≡ state_told (view_of before)) where
  pub history_stays : (view_of before).whole ≡ true → (store_told crew.seat.view).history ≡ (store_told (view_of before)).history
  history_stays whole = ap (λ (s : State). s.store.history) (told whole)

  pub journal_stays : IsCrewOf before.store crew → (TellsState (view_of before) → TellsState crew.seat.view) → TakesStock (view_of before) crew.seat.view 0
      → (commits : List Commit) → IsJournalOf content images commits before → IsJournalOf content images commits (record before { crew = crew })
  journal_stays of tells stock commits journal =
      let between : stock.between ≡ view_of before = survey_same (view_of before) stock.between stock.surveyed journal.tells.whole in
      let looks : OnlyLooks (view_of before) crew.seat.view 0 = subst (λ (v : View). OnlyLooks v crew.seat.view 0) between stock.looks in
      let same_store = ap (λ (s : State). s.store) (told journal.tells.whole) in record {
        keeps = journal.keeps;
        columns = journal.columns;
        few = journal.few;
        crew_of = of;
        tells = tells journal.tells;
        same = subst (λ (h : List Commit). SameCommits h commits) (sym (history_stays journal.tells.whole)) journal.same;
        counted = subst (λ (l : Limits). IsCounted l (store_told crew.seat.view)) (sym looks.called.learns.limits) (subst (IsCounted (view_of before).limits) (sym same_store) journal.counted);
        own = own_looked (view_of before) crew.seat.view 0 before.own looks journal.own;
      }

-- what was read
pub on_ok : {T E : Type 0} {P Q : T → Type 0} (r : Result T E) → IfOk r P → ((x : T) → P x → Q x) → IfOk r Q
on_ok (Ok x) p goes = goes x p
on_ok (Err e) p goes = tt
