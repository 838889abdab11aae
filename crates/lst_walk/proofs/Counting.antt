-- The chains of a range, from the load of its tail counter on.
use Rattle.std.proofs.Common.{◌≡◌, ◌⊎◌, ⊎_elim, ℕ, ◌+◌, ◌*◌, ◌<◌, ◌≤◌, List, [], ◌∷◌, true, subst, ap, ◌∙◌, arith}
use Rattle.lst_layout.specs.declared.TheConstants.{RANGE_RECORDS}
use Rattle.lst_layout.specs.declared.limits.Limits.{Limits}
use Rattle.lst_core_state.specs.Lists.{Has}
use Rattle.lst_core_state.specs.Cells.{record_count, range_of}
use Rattle.lst_rule.specs.Rule.{knows}
use Rattle.lst_rule.specs.Copies.{Version, tails_of, Leads}
use Rattle.lst_rule.proofs.Finding.{ranges_are_found}
use Rattle.lst_walk.specs.Numbered.{KnowsChain}
use Rattle.lst_walk.specs.Folding.{CountersTellRanges, RangesAreFolded}
use Rattle.lst_walk.proofs.Chained.{chains_are_known}
use Rattle.lst_walk.proofs.Arrays.{leads_low}
use Rattle.lst_walk.proofs.Folding.{folds_are_numbers}

leads_few : (l : Limits) (range n : ℕ) (cs : List Version) → Leads l range n cs → (t : ℕ) → Has t (tails_of cs) → n ≤ l.tails
leads_few l range n [] leads t none = absurd none
leads_few l range n (c ∷ cs) leads t i = leads.1

pub counters_tell_ranges : CountersTellRanges
counters_tell_ranges v w s range x n has free inside looked which rec below is = let limits = looked.view.limits in
    let found = ranges_are_found v w s range x rec has.host has.opened free inside looked.met (subst (λ (l : Limits). rec < record_count l) limits below) is in
    let opened : (knows w s).is_open ≡ true = ap (λ k. k.is_open) looked.view.now ∙ has.opened in
    let chain : KnowsChain w s rec found.2.copy = chains_are_known w s rec found.0 opened found.2 in (
      found.2.copy,
      chain,
      λ t i. let low = leads_low w.limits (range_of rec) found.0 found.2.copy found.2.is.chain.leads t i in let few = leads_few w.limits (range_of rec) found.0 found.2.copy found.2.is.chain.leads t i in
          at t n found.0 found.1 low few which (ap (λ (l : Limits). l.tails) limits),
    )
  where
    at : (t n head : ℕ) → head ≤ x → t ≤ range_of rec * w.limits.tails + head → head ≤ w.limits.tails → (n ≡ x) ⊎ (n ≡ v.limits.tails) → w.limits.tails ≡ v.limits.tails → t ≤ range * w.limits.tails + n
    at t n head most low few which same = subst (λ (r : ℕ). t ≤ r * w.limits.tails + n) is (⊎_elim (λ (e : n ≡ x). omega (arith, e, most, low)) (λ (e : n ≡ v.limits.tails). omega (arith, e, same, few, low)) which)

pub ranges_are_folded : RangesAreFolded
ranges_are_folded u w s range column n m i words first numbers page p has hosted limits kept short few within inside knows_all enough f at timely =
    let q = knows_all (RANGE_RECORDS * range + i) (omega (arith, few, inside)) (omega (arith, few)) in
    folds_are_numbers u w s range column m i q.0 words first numbers page p has hosted limits kept short few within q.1
    (λ t h. let low = q.2 t h in let same = ap (λ (l : Limits). range * l.tails) limits in omega (arith, low, same, enough)) f at timely
