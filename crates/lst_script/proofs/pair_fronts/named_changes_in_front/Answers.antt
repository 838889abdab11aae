use Rattle.std.proofs.Common.{refl, sym, ◌∙◌}
use Rattle.lst_script.proofs.PairFronts.{changes_of_pairs}
use Rattle.lst_script.proofs.pair_fronts.named_changes_in_front.Goals as goal

pub returns-then-sets_some : goal.returns-then-sets_some
returns-then-sets_some c = changes_of_pairs c.args.names.now c.args.text.now c.in_ok-rest.rest.now c.pairs_in_front.new.changes c.pairs_in_front.new.changes c.in_ok-rest.ensures refl (sym c.sets_some.ensures ∙ c.if-sets_some.true)
