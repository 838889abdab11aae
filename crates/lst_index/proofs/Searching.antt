-- A search for a key, position by position.
use Rattle.std.proofs.Common.{◌≡◌, ◌≢◌, ℕ, ◌+◌, ◌<◌, ◌≤◌, [], sym, subst, ◌∙◌}
use Rattle.std.specs.List.{Contains}
use Rattle.lst_layout.specs.declared.limits.Limits.{Limits}
use Rattle.lst_layout.specs.Areas.{index_positions}
use Rattle.lst_core_state.specs.declared.known.Placing.{Placing}
use Rattle.lst_core_state.specs.declared.facts.Fact.TheVariants.{IndexAt}
use Rattle.lst_core_state.specs.Index.{size, position_of}
use Rattle.lst_rule.specs.declared.view.View.{View}
use Rattle.lst_rule.specs.Rule.{knows}
use Rattle.lst_rule.specs.Learned.{Kept}
use Rattle.lst_rule.proofs.Learning.{kept_on}
use Rattle.lst_rule.specs.declared.store.Store.{Store}
use Rattle.lst_rule.specs.Seats.{Sitting}
use Rattle.lst_rule.specs.Stores.{IsSeatOf}
use Rattle.lst_index.specs.Searches.{Passed, Works, Keeps}
use Rattle.lst_index.specs.Visits.{Searches}
use Rattle.lst_index.proofs.Hashing.{size_is}
use Rattle.lst_index.proofs.Views.{works_on, works_stay, works_host, keeps_on}
use Rattle.lst_index.proofs.Ending.{passed_more, passed_next}

-- an offset of the loop is below the size
pub offset_short : (l m : Limits) (all offset : ℕ) → offset < all → all ≡ index_positions l → l ≡ m → offset < size m
offset_short l m all offset low is same = subst (λ (z : Limits). offset < size z) same (subst (λ (n : ℕ). offset < n) (is ∙ sym (size_is l)) low)

pub offsets_over : (l m : Limits) (all offset : ℕ) → all ≤ offset → all ≡ index_positions l → l ≡ m → size m ≤ offset
offsets_over l m all offset low is same = subst (λ (z : Limits). size z ≤ offset) same (subst (λ (n : ℕ). n ≤ offset) (is ∙ sym (size_is l)) low)

-- the positions passed, after more steps
pub passed_on : (l : Limits) (v w : View) (s key n : ℕ) → Works v w s [] → Passed l (knows v s).facts key n → Passed l (knows w s).facts key n
passed_on l v w s key n a p = passed_more l (knows v s).facts (knows w s).facts key n (works_stay v w s [] a) p

-- one more, which holds another key
pub passed_one : (l : Limits) (u v w : View) (s key n q r : ℕ) → Works u v s [] → Works v w s [] → q ≡ position_of l key n → (k : ℕ) × Contains (knows w s).facts (IndexAt q r k) × (k ≢ key) → Passed l (knows u s).facts key n → Passed l (knows w s).facts key (n + 1)
passed_one l u v w s key n q r a b at other p = passed_next l (knows w s).facts key n r other.0 (passed_on l v w s key n b (passed_on l u v s key n a p)) (subst (λ (z : ℕ). Contains (knows w s).facts (IndexAt z r other.0)) at other.1) other.2

pub search_on : (store : Store) (v : View) (seat at on : Sitting) (s key n q r : ℕ) → Searches store v seat s key n → q ≡ position_of store.layout.limits key n → Works seat.view at.view s [] → Kept seat.view at.view → (knows at.view s).placing ≡ (knows seat.view s).placing → Works at.view on.view s [] → Kept at.view on.view
    → Keeps (knows at.view s).placing (knows on.view s).placing → (k : ℕ) × Contains (knows on.view s).facts (IndexAt q r k) × (k ≢ key) → IsSeatOf store on → Searches store v on s key (n + 1)
search_on store v seat at on s key n q r search is a kept_a same b kept_b keeps other seat_of = record {
  seat_of = seat_of;
  host = works_host at.view on.view s [] b (works_host seat.view at.view s [] a search.host);
  works = works_on v at.view on.view s [] (works_on v seat.view at.view s [] search.works a) b;
  kept = kept_on v at.view on.view (a.view.whole ∙ search.works.view.whole) (kept_on v seat.view at.view search.works.view.whole search.kept kept_a) kept_b;
  keeps = keeps_on (knows v s).placing (knows seat.view s).placing (knows on.view s).placing search.keeps (subst (λ (p : Placing). Keeps p (knows on.view s).placing) same keeps);
  passed = passed_one store.layout.limits seat.view at.view on.view s key n q r a b is other search.passed;
}

-- which leaves it is a step that keeps the record in hand, or gives it up
pub search_keeps : (v u w z : View) (s : ℕ) → Keeps (knows v s).placing (knows u s).placing → (knows w s).placing ≡ (knows u s).placing → Keeps (knows w s).placing (knows z s).placing → Keeps (knows v s).placing (knows z s).placing
search_keeps v u w z s a same b = keeps_on (knows v s).placing (knows u s).placing (knows z s).placing a (subst (λ (p : Placing). Keeps p (knows z s).placing) same b)
