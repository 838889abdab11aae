use Rattle.std.proofs.Common.{◌≡◌, ◌∙◌, rules, subst, List}
use Rattle.std.proofs.lemmas.List.Sorted.{IsNonDecreasingBy-from_sort_by_key}
use Rattle.std.proofs.lemmas.Fn.{always_returns_same}
use Rattle.std.specs.List.Sorted.{IsStableByKey}
use Rattle.std.specs.Ordering.{nat_cmp}
use Rattle.lst_model.specs.declared.acts.Write.{Write}
use Rattle.lst_model.proofs.InOrder.{sorted_is}
use Rattle.lst_model.proofs.acts.Writes.by_key.Goals as goal

pub returns : goal.returns
returns c =
    let e = c.in_ok-sort_by_key.ensures in
    let sorted = IsNonDecreasingBy-from_sort_by_key (λ (w : Write). w.key) _ e.sorted (λ a r q k. search rules) in
    let stable = e.stable (λ (w : Write). w.key) (always_returns_same _ (λ a r. r ≡ a.0.now.key) _ (λ a r q k. search rules)) in
    c.from_items.ensures ∙ sorted_is c.args.self c.sort_by_key.new.self.items sorted (subst (λ (ws : List Write). IsStableByKey (λ w. w.key) nat_cmp ws c.sort_by_key.new.self.items) c.into_items-items.ensures stable)
