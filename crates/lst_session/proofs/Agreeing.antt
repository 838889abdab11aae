-- Whether an act fits the row that a transaction sees, and what stays of a judged chain while the row is read.
use Rattle.std.proofs.Common.{slice_index_or, ◌≡◌, ◌≢◌, ℕ, List, [], ◌∷◌, ◌++◌, Bool, true, false, ◌||◌, Option, Some, None, is_some, Result, Ok, Err, Contains, refl, sym, subst, ap, ◌∙◌, inl, inr, arith, ne_eqb, true≢false}
use mathlib.Core.Bool.{beq}
use Rattle.lst_layout.specs.declared.limits.Limits.{Limits}
use Rattle.lst_model.specs.declared.acts.Act.{Act}
use Rattle.lst_model.specs.declared.acts.Act.TheVariants.{Put, Set, Del}
use Rattle.lst_model.specs.Cells.{Cell}
use Rattle.lst_model.specs.Histories.{acts_on, all_acts_on, row_from}
use Rattle.lst_model.specs.Soundness.{Fits}
use Rattle.lst_core_state.specs.declared.known.Known.{Known}
use Rattle.lst_core_state.specs.declared.known.Hold.{Hold}
use Rattle.lst_core_state.specs.declared.facts.Fact.{Fact}
use Rattle.lst_core_state.specs.Cells.{range_of}
use Rattle.lst_core_state.specs.Facts.{IsFact}
use Rattle.lst_core_state.specs.State.{name_of, sight}
use Rattle.lst_layout.specs.Words.{Words, shown}
use Rattle.lst_rule.specs.declared.view.View.{View}
use Rattle.lst_rule.specs.Rule.{knows, hosts}
use Rattle.lst_rule.specs.Learned.{Possible}
use Rattle.lst_rule.specs.Copies.{Version, fact_of, AreKnown, AreVersionsOf, Leads, IsCopy, Includes}
use Rattle.lst_rule.specs.Seen.{is_early, sees, SeesAlike, HasKey}
use Rattle.lst_rule.specs.Loads.{ChainFound}
use Rattle.lst_rule.specs.Judging.{AreClosed, IsJudged}
use Rattle.lst_rule.specs.Watching.{Watched}
use Rattle.lst_rule.specs.Laws.{KeptBy}
use Rattle.lst_rule.proofs.Copying.{copies_stay}
use Rattle.lst_rule.proofs.Knowing.{is_fact}
use Rattle.lst_rule.proofs.StatusTelling.{statuses_tell}
use Rattle.lst_rule.proofs.Seeing.{same_sees}
use Rattle.lst_rule.proofs.Watching.{watches_join, watchers_keep}
use Rattle.lst_write.specs.Holding.{HasLatch}
use Rattle.lst_write.specs.Judgements.{HasJudged, StopsAt}
use Rattle.lst_write.specs.Appending.{FitsSight}
use Rattle.lst_walk.specs.Newest.{NoneSeen, IsNewest}
use Rattle.lst_walk.specs.Numbered.{KnowsChain}
use Rattle.lst_walk.specs.Walks.{IsRowOf}
use Rattle.lst_walk.proofs.Chained.{chains_are_known, chains_stay_known}
use Rattle.lst_walk.proofs.Ranged.{one_version}
use Rattle.lst_walk.proofs.Walking.{row_of_key}
use Rattle.lst_session.specs.declared.kinds.WriteRefusal.{WriteRefusal}
use Rattle.lst_session.specs.Traces.{is_put, misfit_of, AgreesWith, Agrees, Judges}

both_misfit : (act : Act) (row : Option (List Cell)) → is_some row ≡ is_put act → ¬ Fits row act
both_misfit (Put r) (Some x) e f = f
both_misfit (Put r) None e f = true≢false (sym e)
both_misfit (Set p) (Some x) e f = true≢false e
both_misfit (Set p) None e f = f
both_misfit Del (Some x) e f = true≢false e
both_misfit Del None e f = f

other_fits : (act : Act) (row : Option (List Cell)) → ¬ (is_some row ≡ is_put act) → Fits row act
other_fits (Put r) (Some x) ne = ne refl
other_fits (Put r) None ne = tt
other_fits (Set p) (Some x) ne = tt
other_fits (Set p) None ne = ne refl
other_fits Del (Some x) ne = tt
other_fits Del None ne = ne refl

module _ (v w : View) (s rec key : ℕ) (act : Act) (row : Option (List Cell)) (watched : Watched v w s) (is : IsRowOf v s rec row) (has : HasKey (knows v s).facts rec key) where
  the_row : Option (List Cell)
  the_row = row_from None (sight (knows v s) key)

  pub misfits : (refusal : WriteRefusal) → refusal ≡ misfit_of act → is_some row ≡ is_put act → Agrees v w s key act (Err refusal)
  misfits refusal same e = record { watched = watched; agrees = (both_misfit act (row_from None (sight (knows v s) key)) (ap is_some (sym (row_of_key v s rec row is key has)) ∙ e), same) }

  pub fits : ¬ (is_some row ≡ is_put act) → Agrees v w s key act (Ok tt)
  fits ne = record { watched = watched; agrees = other_fits act (row_from None (sight (knows v s) key)) (λ e. ne (ap is_some (row_of_key v s rec row is key has) ∙ e)) }

-- ---- a judged chain

judged_stays : (u k : Known) (s : ℕ) (copy : List Version) → SeesAlike u k → Includes k.facts u.facts → IsJudged u s copy → IsJudged k s copy
judged_stays u k s [] alike more is = tt
judged_stays u k s (c ∷ cs) alike more (inl seen) = inl (same_sees u k s c.writer alike ∙ seen)
judged_stays u k s (c ∷ cs) alike more (inr rest) = inr (more _ rest.0, judged_stays u k s cs alike more rest.1)

pub judged_on : (v w : View) (s rec head : ℕ) → w.limits ≡ v.limits → KeptBy (knows v s) (knows w s) → HasJudged v.limits (knows v s) s rec head → HasJudged w.limits (knows w s) s rec head
judged_on v w s rec head same kept has = (has.0, subst (λ (l : Limits). IsCopy l (knows w s).facts rec head has.0) (sym same) (copies_stay v.limits (knows v s).facts (knows w s).facts rec head has.0 kept.facts has.1), judged_stays (knows v s) (knows w s) s has.0 kept.alike kept.facts has.2)

sights_same : (u k : Known) (key : ℕ) → SeesAlike u k → sight k key ≡ sight u key
sights_same u k key alike = λ i. all_acts_on key (alike.front i) ++ acts_on key (alike.own i)

-- the row was read after the chain was judged
pub judges : (u v w : View) (s rec head key : ℕ) (act : Act) (result : Result (Unit {0}) WriteRefusal) → Possible v → hosts v s ≡ true → (knows v s).is_open ≡ true → Watched u v s → HasJudged v.limits (knows v s) s rec head → Agrees v w s key act result
    → Judges u w s rec head key act result
judges u v w s rec head key act result p hosted opened first judged agrees = let kept = watchers_keep v w s p hosted opened agrees.watched in record {
  watched = watches_join u v w s first agrees.watched;
  judged = judged_on v w s rec head agrees.watched.learns.limits kept judged;
  agrees = subst (λ (acts : List Act). AgreesWith act (row_from None acts) result) (sym (sights_same (knows v s) (knows w s) key kept.alike)) agrees.agrees;
}

pub hosted_on : (v w : View) (s : ℕ) → Watched v w s → hosts v s ≡ true → hosts w s ≡ true
hosted_on v w s watched host = ap (λ (hs : List Bool). slice_index_or hs s false) watched.learns.hosted ∙ host

pub key_on : (v w : View) (s rec key : ℕ) → Possible v → hosts v s ≡ true → (knows v s).is_open ≡ true → Watched v w s → HasKey (knows v s).facts rec key → HasKey (knows w s).facts rec key
key_on v w s rec key p hosted opened watched has = (has.0, (watchers_keep v w s p hosted opened watched).facts _ has.1)

pub same_bool : (a b : Bool) → beq a b ≡ true → a ≡ b
same_bool true true e = refl
same_bool true false e = absurd (true≢false (sym e))
same_bool false true e = absurd (true≢false (sym e))
same_bool false false e = refl

pub other_bool : (a b : Bool) → beq a b ≡ false → ¬ (a ≡ b)
other_bool true true e f = true≢false e
other_bool true false e f = true≢false f
other_bool false true e f = true≢false (sym f)
other_bool false false e f = true≢false e

-- what the judge and the row leave, after a load of neither, with the key's record still known
pub fits_sight : (v w : View) (s rec head key : ℕ) (act : Act) → HasKey (knows w s).facts rec key → Judges v w s rec head key act (Ok tt) → FitsSight (knows w s) rec act
fits_sight v w s rec head key act has j = (key, has, j.agrees)

-- ---- where the judge stopped

unseen : (k : Known) (s x : ℕ) → is_early k x ≡ false → x ≢ name_of s k.number → sees k s x ≡ false
unseen k s x early other = λ i. early i || ne_eqb x (name_of s k.number) other i

whole_left : (l : Limits) (rec : ℕ) (cs rest : List Version) → AreVersionsOf l rec (cs ++ rest) → AreVersionsOf l rec cs
whole_left l rec [] rest whole = tt
whole_left l rec (c ∷ cs) rest whole = (whole.0, whole_left l rec cs rest whole.1)

-- versions of closed transactions aren't seen
closed_unseen : (w : View) (s rec : ℕ) (cs : List Version) → Possible w → hosts w s ≡ true → (knows w s).is_open ≡ true → AreVersionsOf w.limits rec cs → AreClosed (knows w s).facts cs → NoneSeen (knows w s) s cs
closed_unseen w s rec [] p host opened whole closed = tt
closed_unseen w s rec (c ∷ cs) p host opened whole closed = (
  (let q = (statuses_tell w s c.writer p host opened whole.0.session).closed closed.0 in unseen (knows w s) s c.writer q.0 q.1),
  closed_unseen w s rec cs p host opened whole.1 closed.1,
)

-- a chain has one list of versions
one_chain : (l : Limits) (w : Words) (facts : List Fact) → ((f : Fact) → Contains facts f → IsFact l w f) → (range n : ℕ) (a b : List Version) → AreKnown facts a → AreKnown facts b → Leads l range n a → Leads l range n b → a ≡ b
one_chain l w facts so range n [] [] known other leads also = refl
one_chain l w facts so range n [] (d ∷ ds) known other leads also = absurd (let some = also.0 in omega arith)
one_chain l w facts so range n (c ∷ cs) [] known other leads also = absurd (let some = leads.0 in omega arith)
one_chain l w facts so range n (c ∷ cs) (d ∷ ds) known other leads also = let same : c ≡ d = one_version l w c d (so (fact_of c) known.0) (so (fact_of d) other.0) (leads.2 ∙ sym also.2) in
    let rest : cs ≡ ds = one_chain l w facts so range c.back cs ds known.1 other.1 leads.4 (subst (λ (x : Version). Leads l range x.back ds) (sym same) also.4) in λ i. same i ∷ rest i

-- under the latch, the judge stopped at the newest version that is seen
module _ (v w : View) (s rec head : ℕ) (p : Possible v) (q : Possible w) (host : hosts v s ≡ true) (opened : (knows v s).is_open ≡ true) (latch : HasLatch (knows v s) rec head) (found : ChainFound v.limits (knows v s) s rec head) (watched : Watched v w s) where
  kept : KeptBy (knows v s) (knows w s)
  kept = watchers_keep v w s p host opened watched

  host_then : hosts w s ≡ true
  host_then = hosted_on v w s watched host

  opened_then : (knows w s).is_open ≡ true
  opened_then = kept.is_open ∙ opened

  known_then : KnowsChain w s rec found.copy
  known_then = (chains_stay_known v w s rec found.copy p q (record { host = host; opened = opened; hand = ap (λ (h : Hold). h.is_whole) latch }) host_then watched.learns.limits kept (chains_are_known v s rec head opened found)).1

  copy_then : IsCopy w.limits (knows w s).facts rec head found.copy
  copy_then = subst (λ (l : Limits). IsCopy l (knows w s).facts rec head found.copy) (sym watched.learns.limits) (copies_stay v.limits (knows v s).facts (knows w s).facts rec head found.copy kept.facts found.is)

  known_as : (copy : List Version) → IsCopy w.limits (knows w s).facts rec head copy → KnowsChain w s rec copy
  known_as copy is = subst (λ (cs : List Version). KnowsChain w s rec cs)
      (one_chain w.limits (shown w.limits q.words) (knows w s).facts (is_fact w q.words q.known q.merger q.allowed s host_then) (range_of rec) head found.copy copy copy_then.chain.known is.chain.known copy_then.chain.leads is.chain.leads)
      known_then

  pub newest_is : (newest : Option ℕ) → StopsAt w.limits (knows w s) s rec head newest → IsNewest w s rec newest
  newest_is None at = (at.0, known_as at.0 at.1, closed_unseen w s rec at.0 q host_then opened_then at.1.chain.whole at.2)
  newest_is (Some tail) at = (
    at.0,
    at.1,
    at.2,
    known_as (at.0 ++ at.1 ∷ at.2) at.3.copy,
    closed_unseen w s rec at.0 q host_then opened_then (whole_left w.limits rec at.0 (at.1 ∷ at.2) at.3.copy.chain.whole) at.3.closed,
    at.4,
    at.5,
  )
