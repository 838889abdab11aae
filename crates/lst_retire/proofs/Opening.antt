-- The spares of a store that opens.
use Rattle.std.proofs.Common.{◌≡◌, ℕ, suc, ◌+◌, ◌-◌, ◌<◌, ◌≤◌, List, [], ◌∷◌, ◌++◌, sym, ap, ◌∙◌, arith, length, append-nil, length-append}
use Rattle.std.proofs.lemmas.List.{append_assoc}
use Rattle.lst_core_state.specs.declared.pages.Retired.{Retired}
use Rattle.lst_layout.specs.declared.limits.Limits.{Limits}
use Rattle.lst_layout.specs.Areas.{page_count}
use Rattle.lst_core_state.specs.declared.known.Known.{Known}
use Rattle.lst_core_state.specs.declared.pages.MergerFrames.{MergerFrames}
use Rattle.lst_core_state.specs.Pages.{retired_at, spares, opening_merger, no_pages}
use Rattle.lst_core_state.specs.State.{newcomer}
use Rattle.lst_rule.specs.Rule.{crew}
use Rattle.lst_rule.proofs.Opening.{same_at}
use Rattle.lst_rule.specs.Spares.{AreSpares}
use Rattle.lst_pages.proofs.Starts.{length-spares}

-- these are the first k of the n spares from the frame f on
pub record FirstSpares (f n k : ℕ) (taken : List Retired) : Type 0 where
  pub all : taken ++ spares (f + k) (n - k) ≡ spares f n

pub first_none : (f n : ℕ) → FirstSpares f n 0 []
first_none f n = record { all = (let e : f + 0 ≡ f = omega arith in let d : n - 0 ≡ n = omega arith in λ i. spares (e i) (d i)) }

pub first_next : (f n k : ℕ) (taken : List Retired) → k < n → FirstSpares f n k taken → FirstSpares f n (k + 1) (taken ++ retired_at (f + k) 0 ∷ [])
first_next f n k taken low r = record {
  all = append_assoc taken (retired_at (f + k) 0 ∷ []) (spares (f + (k + 1)) (n - (k + 1)))
      ∙ (ap (λ (rs : List Retired). taken ++ rs) (let e : f + (k + 1) ≡ suc (f + k) = omega arith in let d : suc (n - (k + 1)) ≡ n - k = omega arith in ap (λ (g : ℕ). retired_at (f + k) 0 ∷ spares g (n - (k + 1))) e ∙ ap (spares (f + k)) d)
      ∙ r.all);
}

pub first_few : (f n k : ℕ) (taken : List Retired) → FirstSpares f n k taken → length taken + (n - k) ≡ n
first_few f n k taken r = let rest = length-spares (f + k) (n - k) in let all : length taken + length (spares (f + k) (n - k)) ≡ n = sym (length-append taken (spares (f + k) (n - k))) ∙ (ap length r.all ∙ length-spares f n) in omega arith

pub first_all : (l : Limits) (f k : ℕ) (taken : List Retired) → f ≡ page_count l → l.spare ≤ k → FirstSpares f l.spare k taken → taken ≡ (opening_merger l).retired
first_all l f k taken is past r = sym (append-nil taken) ∙ ((let e : 0 ≡ l.spare - k = omega arith in ap (λ (d : ℕ). taken ++ spares (f + k) d) e) ∙ (r.all ∙ ap (λ (g : ℕ). spares g l.spare) is))

-- they are the merger's
opening_stock : (l : Limits) → (no_pages l).stock ≡ opening_merger l
unfolding no_pages
opening_stock l = λ i. opening_merger l

pub opening_are : (l : Limits) (taken : List Retired) → taken ≡ (opening_merger l).retired → AreSpares (crew l) taken
opening_are l taken is = let same = ap (λ (k : Known). k.pages.stock) (same_at (l.sessions + 1) l.sessions (newcomer l)) ∙ opening_stock l in record {
  retired = is ∙ sym (ap (λ (m : MergerFrames). m.retired) same);
  idle = ap (λ (m : MergerFrames). m.waiting) same;
}
