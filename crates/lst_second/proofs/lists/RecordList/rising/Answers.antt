use Rattle.std.proofs.Common.{◌≡◌, rules, refl}
use Rattle.std.proofs.lemmas.Fn.{always_returns_same}
use Rattle.std.proofs.lemmas.List.Filters.{dedup_is}
use Rattle.std.proofs.lemmas.List.Kept.{Contains-from_dedup}
use Rattle.std.proofs.lemmas.List.Sorted.{Contains-permutation, IsPermutation-sym}
use Rattle.lst_second.proofs.Rising.{number_of, dedup_rises, dedup_keeps}
use Rattle.lst_second.proofs.lists.RecordList.rising.Goals as goal

pub returns-clause-rises : goal.returns-clause-rises
returns-clause-rises c = let is = dedup_is _ _ _ c.dedup.ensures.filtered in rw is (dedup_rises _ (λ x y. refl) _ (c.sort_unstable_by_key.ensures.sorted number_of (always_returns_same _ (λ a r. r ≡ number_of a.0.now) _ (λ a r q k. search rules))))

pub returns-clause-keeps : goal.returns-clause-keeps
returns-clause-keeps c = let is = dedup_is _ _ _ c.dedup.ensures.filtered in λ rec h. rw is (dedup_keeps _ (λ x y. refl) _ rec (Contains-permutation _ _ rec c.sort_unstable_by_key.ensures.permutation h))

pub returns-clause-adds_none : goal.returns-clause-adds_none
returns-clause-adds_none c = let is = dedup_is _ _ _ c.dedup.ensures.filtered in λ rec h. Contains-permutation _ _ rec (IsPermutation-sym _ _ c.sort_unstable_by_key.ensures.permutation) (Contains-from_dedup _ _ rec (rw is at h))
