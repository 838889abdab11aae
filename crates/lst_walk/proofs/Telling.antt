-- What a look at a tail tells a loop over the tails of a range.
use Rattle.std.proofs.Common.{◌≡◌, ℕ, ◌+◌, ◌*◌, ◌<◌, sym, subst, ap, ◌∙◌, arith}
use Rattle.lst_layout.specs.Words.{Words, shown}
use Rattle.lst_core_state.specs.declared.facts.Fact.TheVariants.{CellIs}
use Rattle.lst_core_state.specs.Cells.{tail_range, slot_of}
use Rattle.lst_core_state.specs.Facts.{IsFact}
use Rattle.lst_core_state.proofs.CellsKept.{tail_range-is}
use Rattle.lst_rule.specs.Rule.{knows}
use Rattle.lst_rule.specs.Copies.{Version, fact_of, IsVersionOf}
use Rattle.lst_rule.specs.Seen.{sees}
use Rattle.lst_rule.proofs.Knowing.{is_fact}
use Rattle.lst_walk.specs.Folding.{EmptyIsUntold, UnseenIsUntold, SeenIsTold}
use Rattle.lst_walk.proofs.Entries.{record_says}
use Rattle.lst_walk.proofs.Ranged.{one_version}

pub empty_is_untold : EmptyIsUntold
empty_is_untold u v w s t hosted kept looked c known at = let m = looked.met.made.told in let W : Words = shown v.limits m.words in
    let f : IsFact v.limits W (CellIs c.tail c.writer c.encoding c.back c.values) = is_fact v m.words m.known m.merger m.allowed s hosted (fact_of c) (kept.facts (fact_of c) known) in
    let found : W.cells t 0 ≡ 0 = looked.met.found in let here : 0 < W.cells t 0 = subst (λ (x : ℕ). 0 < W.cells x 0) at f.0 in absurd (omega (arith, found, here))

pub unseen_is_untold : UnseenIsUntold
unseen_is_untold u w s t c p hosted kept fact at unseen d known there = let W : Words = shown w.limits p.words in
    let same : d ≡ c = one_version w.limits W d c (is_fact w p.words p.known p.merger p.allowed s hosted (fact_of d) (kept.facts (fact_of d) known)) (is_fact w p.words p.known p.merger p.allowed s hosted (fact_of c) fact) (there ∙ sym at) in
    ap (λ (x : Version). sees (knows w s) s x.writer) same ∙ unseen

pub seen_is_told : SeenIsTold
seen_is_told w s range rec t c low high at is fact seen = record {
  at = at;
  is = subst (λ (r : ℕ). IsVersionOf w.limits r c) (sym (is.here) ∙ (record_says w.limits.tails c.tail c.encoding ∙ ap (λ (r : ℕ). 256 * r + slot_of c.encoding) (ap (tail_range w.limits.tails) at ∙ tail_range-is w.limits.tails range t low high))) is;
  known = fact;
  seen = seen;
}
