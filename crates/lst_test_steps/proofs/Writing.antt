-- What a write leaves of what a transaction sees of a key.
use Rattle.std.proofs.Common.{◌≡◌, ℕ, List, [], ◌∷◌, ◌++◌, false, sym, subst, ap, ◌∙◌, arith, inl, inr}
use Rattle.std.proofs.lemmas.List.Elements.{Contains-append_left}
use Rattle.lst_model.specs.declared.acts.Act.{Act}
use Rattle.lst_model.specs.Histories.{all_acts_on, acts_on}
use Rattle.lst_core_state.specs.declared.known.Known.{Known}
use Rattle.lst_core_state.specs.declared.known.Placing.{Placing}
use Rattle.lst_core_state.specs.declared.known.Stage.{Stage as Turn}
use Rattle.lst_core_state.specs.declared.known.Stage.TheVariants.{Away, Taken, Fresh, Logged, Stated, Done}
use Rattle.lst_core_state.specs.declared.facts.Fact.{Fact}
use Rattle.lst_core_state.specs.declared.facts.Fact.TheVariants.{IndexAt}
use Rattle.lst_core_state.specs.declared.facts.Find.{Find}
use Rattle.lst_core_state.specs.State.{sight, rank, FitsAfter}
use Rattle.lst_core_state.specs.Step.{refreshed}
use Rattle.lst_rule.specs.declared.view.View.{View}
use Rattle.lst_rule.specs.Rule.{knows}
use Rattle.lst_rule.specs.Seen.{HasKey}
use Rattle.lst_rule.specs.Laws.{KeptBy}
use Rattle.lst_rule.specs.Watching.{Watched}
use Rattle.lst_txn.specs.Transactions.{IsFree, Opens}
use Rattle.lst_index.specs.Searches.{IsUnseen, Works, Keeps}
use Rattle.lst_index.specs.Searches as index
use Rattle.lst_rule.specs.Posting.{Posts}
use Rattle.lst_write.proofs.Posting.{posts_whole}
use Rattle.lst_write.specs.Holding.{MayLatch, IsPlaced, Latches}
use Rattle.lst_write.specs.Appending.{FitsSight, Appends, InstallsHeld}
use Rattle.lst_test_steps.specs.Driving.{SeesActs}

sees_more : (k : Known) (more : List Fact) (rec key : ℕ) → HasKey k.facts rec key → HasKey (k.facts ++ more) rec key
sees_more k more rec key has = (has.0, Contains-append_left k.facts more (IndexAt has.0 rec key) has.1)

-- ---- one write

module _ (v a b d e w : View) (s rec head n : ℕ) (act : Act) (latches : Latches v a s rec head) (watched : Watched a b s) (keeps : KeptBy (knows a s) (knows b s)) (appends : Appends b d s rec head n act) (posts : Posts d e s) (installs : InstallsHeld e w s rec n) where
  sees_latched : (key : ℕ) (acts : List Act) → SeesActs (knows v s) rec key acts → SeesActs (knows a s) rec key acts
  sees_latched key acts x = subst (λ (k : Known). SeesActs k rec key acts) (sym latches.view.now) record { has = sees_more (knows v s) latches.facts rec key x.has; sees = x.sees }

  sees_judged : (key : ℕ) (acts : List Act) → SeesActs (knows a s) rec key acts → SeesActs (knows b s) rec key acts
  sees_judged key acts x = record {
    has = (x.has.0, keeps.facts (IndexAt x.has.0 rec key) x.has.1);
    sees = (λ i. all_acts_on key (keeps.alike.front i) ++ acts_on key (keeps.alike.own i)) ∙ x.sees;
  }

  sees_appended : (key : ℕ) (acts : List Act) → SeesActs (knows b s) rec key acts → SeesActs (knows d s) rec key acts
  sees_appended key acts x = subst (λ (k : Known). SeesActs k rec key acts) (sym appends.view.now) record { has = sees_more (knows b s) appends.facts rec key x.has; sees = x.sees }

  sees_posted : (key : ℕ) (acts : List Act) → SeesActs (knows d s) rec key acts → SeesActs (knows e s) rec key acts
  sees_posted key acts x = subst (λ (k : Known). SeesActs k rec key acts) (sym posts.view.now) record { has = sees_more (knows d s) posts.facts rec key x.has; sees = x.sees }

  sees_installed : (key : ℕ) (acts : List Act) → SeesActs (knows e s) rec key acts → SeesActs (knows w s) rec key (acts ++ act ∷ [])
  sees_installed key acts x = let i = installs key head act x.has (posts_whole d e s rec head n act posts appends.whole) in record {
    has = subst (λ (k : Known). HasKey k.facts rec key) (sym i.view.now) x.has;
    sees = i.sight ∙ ap (λ (before : List Act). before ++ act ∷ []) x.sees;
  }

  pub sees_written : (key : ℕ) (acts : List Act) → SeesActs (knows v s) rec key acts → SeesActs (knows w s) rec key (acts ++ act ∷ [])
  sees_written key acts x = sees_installed key acts (sees_posted key acts (sees_appended key acts (sees_judged key acts (sees_latched key acts x))))

-- ---- before the first

-- a look leaves no record in hand where none was
emptied : (p n : Placing) → p.hand ≡ 0 → Keeps p n → n.hand ≡ 0
emptied p n none (inl same) = ap (λ (q : Placing). q.hand) same ∙ none
emptied p n none (inr (some, given)) = ap (λ (q : Placing). q.hand) given

-- nor does a begin
pub no_hand : (u v w : View) (s clock b : ℕ) → Opens u v s clock b false → Keeps (knows v s).placing (knows w s).placing → (knows u s).placing.hand ≡ 0 → (knows w s).placing.hand ≡ 0
no_hand u v w s clock b opens keeps none = emptied (knows v s).placing (knows w s).placing (ap (λ (k : Known). k.placing.hand) opens.view.now ∙ none) keeps

rank_refreshed : (k : Turn) → rank k ≡ 0 → rank (refreshed k) ≡ 0
rank_refreshed Away e = e
rank_refreshed Taken e = absurd (omega arith)
rank_refreshed Fresh e = e
rank_refreshed Logged e = e
rank_refreshed Stated e = e
rank_refreshed Done e = e

may_work : (v w : View) (s : ℕ) (finds : List Find) → Works v w s finds → MayLatch (knows v s) → MayLatch (knows w s)
may_work v w s finds works may = record {
  on = ap (λ (k : Known). k.is_open) works.view.now ∙ may.on;
  writes = ap (λ (k : Known). k.read_only) works.view.now ∙ may.writes;
  away = ap (λ (k : Known). rank k.turn) works.view.now ∙ may.away;
  free = ap (λ (k : Known). k.hold.latch) works.view.now ∙ may.free;
}

pub may_write : (v u f w : View) (s x b : ℕ) (finds more : List Find) → IsFree (knows v s) → Opens v u s x b false → Works u f s finds → Works f w s more → MayLatch (knows w s)
may_write v u f w s x b finds more free o finds_works places = may_work f w s more places (may_work u f s finds finds_works record {
  on = ap (λ (k : Known). k.is_open) o.view.now;
  writes = ap (λ (k : Known). k.read_only) o.view.now;
  away = ap (λ (k : Known). rank k.turn) o.view.now ∙ rank_refreshed (knows v s).turn free.0;
  free = ap (λ (k : Known). k.hold.latch) o.view.now ∙ free.1;
})

-- a key that was found without a record, and then placed
pub sees_none : (v u f w : View) (s x b rec key : ℕ) (finds more : List Find) → Opens v u s x b false → Works u f s finds → IsUnseen (knows f s) key → Works f w s more → index.IsPlaced (knows w s) rec key → SeesActs (knows w s) rec key []
sees_none v u f w s x b rec key finds more o works unseen places placed = record {
  has = placed;
  sees = ap (λ (k : Known). sight k key) places.view.now ∙ unseen.own (ap (λ (k : Known). k.is_open) works.view.now ∙ ap (λ (k : Known). k.is_open) o.view.now);
}

-- ---- the next one

pub may_place : (k : Known) (rec key : ℕ) (acts : List Act) → SeesActs k rec key acts → IsPlaced k rec
may_place k rec key acts x = (key, x.has)

pub fits_sight : (k : Known) (rec key : ℕ) (acts : List Act) (act : Act) → SeesActs k rec key acts → FitsAfter acts act → FitsSight k rec act
fits_sight k rec key acts act x fits = (key, x.has, subst (λ (before : List Act). FitsAfter before act) (sym x.sees) fits)
