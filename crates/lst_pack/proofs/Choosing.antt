-- No page in any form takes fewer words than what was found of its values leaves.
use Rattle.std.proofs.Common.{◌≡◌, ℕ, zero, suc, ◌+◌, ◌-◌, ◌*◌, ◌^◌, ◌<◌, ◌≤◌, List, slice_index, refl, ap, arith, subst, sym, ◌∙◌}
use mathlib.Core.Logic.{dite}
use native.Mathlib.Decide.{dec_lt}
use Rattle.lst_probe.proofs.Counting.{pigeonhole_by}
use Rattle.lst_pack.specs.declared.forms.Form.{Form}
use Rattle.lst_pack.specs.declared.survey.Survey.{Survey}
use Rattle.lst_pack.specs.declared.forms.Form.TheVariants.{Constant, Dictionary, Runs, Reference, Plain}
use Rattle.lst_pack.specs.Forms.{code_at, difference_at, run_value, run_end, AreRuns, IsInRun, PacksAs}
use Rattle.lst_pack.specs.Counts.{runs_below, AreKnown, IsLeast, IsGreatest}
use Rattle.lst_pack.specs.Choices.{IsLeastWidth, MayStand}
use Rattle.lst_pack.specs.Chosen.{IsAtMost}
use Rattle.lst_pack.proofs.Counting.{runs_first, runs_upto, runs_at_once}
use Rattle.lst_pack.proofs.Numbers.{number_low}
use Rattle.lst_pack.proofs.Runs.{ends_within}

pub some_run : (values : List ℕ) → 1 ≤ runs_below values 256
some_run values = let f = runs_first values in let u = runs_upto values 1 256 (omega arith) in omega arith

no_run : (values : List ℕ) → runs_below values 0 ≡ 0
unfolding runs_below
no_run values = refl

equal_is_one : (values : List ℕ) (value : ℕ) → ((place : ℕ) → place < 256 → slice_index values place ≡ value) → runs_below values 256 ≡ 1
equal_is_one values value each =
    let h = runs_at_once values 0 256 (omega arith) (λ place a b. each place b ∙ sym (each (place - 1) (omega arith))) in
    let z = no_run values in let s = some_run values in omega arith

-- up to the end of a run at most that many begin
begun : (others values : List ℕ) (runs : ℕ) → AreRuns others runs → ((place run : ℕ) → place < 256 → IsInRun others runs place run → slice_index values place ≡ run_value others run)
    → ((run : ℕ) → run < runs → run_end others run ≤ 256) → (run : ℕ) → run < runs → runs_below values (run_end others run) ≤ run + 1
begun others values runs are stands within zero low =
    let w = within 0 low in
    let h = runs_at_once values 0 (run_end others 0) are.begins (λ place a b.
    stands place 0 (omega arith) (record { one = low; from = λ h. absurd (omega arith); below = b })
    ∙ sym (stands (place - 1) 0 (omega arith) (record { one = low; from = λ h. absurd (omega arith); below = omega arith }))) in
    let z = no_run values in omega arith
begun others values runs are stands within (suc run) low =
    let w = within (suc run) low in
    let before = begun others values runs are stands within run (omega arith) in
    let s : run + 1 ≡ suc run = omega arith in
    let e = ap (λ n. run_end others n) s in
    let r = are.rising run (omega arith) in
    let start : slice_index others (2 * suc run) ≡ run_end others run = ap (λ n. slice_index others n) (omega arith) in
    let h = runs_at_once values (run_end others run) (run_end others (suc run)) (omega arith) (λ place a b.
    stands place (suc run) (omega arith) (record { one = low; from = λ h. omega arith; below = b })
    ∙ sym (stands (place - 1) (suc run) (omega arith) (record { one = low; from = λ h. omega arith; below = omega arith }))) in
    omega arith

runs_at_most : (others values : List ℕ) (runs : ℕ) → AreRuns others runs → ((place run : ℕ) → place < 256 → IsInRun others runs place run → slice_index values place ≡ run_value others run)
    → ((run : ℕ) → run < runs → run_end others run ≤ 256) → runs_below values 256 ≤ runs
runs_at_most others values runs are stands within =
    let h = begun others values runs are stands within (runs - 1) (let s = are.some in omega arith) in
    let e : run_end others (runs - 1) ≡ slice_index others (2 * runs) = ap (λ n. slice_index others n) (let s = are.some in omega arith) in
    let f = ap (λ n. runs_below values n) (e ∙ are.last) in
    let s = are.some in omega arith

distinct_at_most : (others values known : List ℕ) (size distinct : ℕ) → AreKnown values 256 known distinct → ((place : ℕ) → place < 256 → code_at others size place < size)
    → ((place : ℕ) → place < 256 → slice_index values place ≡ slice_index others (1 + code_at others size place)) → distinct ≤ size
distinct_at_most others values known size distinct are named stands =
    pigeonhole_by distinct size (λ i j. slice_index known i ≡ slice_index others (1 + j))
    (λ i low. let s = are.standing i low in (code_at others size s.0, named s.0 s.1, sym s.2 ∙ stands s.0 s.1))
    (λ i k j low other a b. dite (dec_lt i k) (λ (h : i < k). let r = are.rising i k h other in absurd (omega arith))
    (λ no. dite (dec_lt k i) (λ (h : k < i). let r = are.rising k i h low in absurd (omega arith)) (λ neither. omega (arith, no, neither))))

difference_within : (others values : List ℕ) (least greatest width : ℕ) → IsLeast values 256 least → IsGreatest values 256 greatest
    → ((place : ℕ) → place < 256 → slice_index values place ≡ slice_index others 1 + difference_at others width place) → greatest - least < 2 ^ width
difference_within others values least greatest width is_least is_greatest stands =
    let a = is_least.stands in let b = is_greatest.stands in
    let low = stands a.0 a.1 in let high = stands b.0 b.1 in
    let n = number_low others 2 width b.0 in
    omega (arith, a.2, b.2)

module _ (values : List ℕ) (found : Survey) (runs : ℕ) (counted : runs ≡ runs_below values 256) (are : AreKnown values 256 found.known found.distinct)
    (is_least : IsLeast values 256 found.least) (is_greatest : IsGreatest values 256 found.greatest) (width : ℕ) (is_width : IsLeastWidth (found.greatest - found.least) width) where
  -- whatever list of words stands for the values, its form is one that may stand
  may_stand : (other : Form) (others : List ℕ) → PacksAs other others values → MayStand runs found.distinct width other
  may_stand Constant others p = counted ∙ equal_is_one values (slice_index others 1) p.stands
  may_stand (Dictionary size) others p = (distinct_at_most others values found.known size found.distinct are p.has.named p.stands, p.has.few)
  may_stand (Runs more) others p = (subst (λ (n : ℕ). n ≤ more) (sym counted) (runs_at_most others values more p.has (λ place run low is. p.stands place low run is) (ends_within others more p.has)), p.has.few)
  may_stand (Reference other) others p = (is_width.least other p.has.whole (difference_within others values found.least found.greatest other is_least is_greatest p.stands), p.has.whole)
  may_stand Plain others p = tt

  -- so one that is at most each that may stand takes the fewest words
  pub fewest : (form : Form) → ((other : Form) → MayStand runs found.distinct width other → IsAtMost form other)
      → (other : Form) (others : List ℕ) → PacksAs other others values → IsAtMost form other
  fewest form each other others p = each other (may_stand other others p)
