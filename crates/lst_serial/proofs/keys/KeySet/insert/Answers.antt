use Rattle.std.proofs.Common.{◌≡◌, ℕ, List, true, refl, sym, subst, ◌∙◌}
use Rattle.std.specs.List.{list_any}
use Rattle.std.specs.BTreeMap.{is_at}
use Rattle.std.specs.Ordering.{nat_cmp}
use Rattle.lst_serial.proofs.Sets.{has_already, joined_few, joined, same_has}
use Rattle.lst_serial.proofs.keys.KeySet.insert.Goals as goal

pub returns-then-is_among-clause-ok : goal.returns-then-is_among-clause-ok
returns-then-is_among-clause-ok c = has_already c.args.self.now c.args.key (subst (λ (xs : List ℕ). list_any (is_at (nat_cmp c.args.key)) xs ≡ true) c.as_slice.ensures.value (sym c.is_among.ensures ∙ c.if-is_among.true))

pub returns-then-not-is_full-clause-ok : goal.returns-then-not-is_full-clause-ok
returns-then-not-is_full-clause-ok c = joined_few c.args.self.now record { few = c.push.new.self; keys = c.args.self.now.keys } c.args.key c.push.ensures.items refl

pub returns-in-Ok-clause-ok : goal.returns-in-Ok-clause-ok
returns-in-Ok-clause-ok c = joined c.args.self.now record { few = c.args.self.now.few; keys = c.insert.new.self } c.args.key refl c.in-Ok.ensures.updates

pub returns-in-Err-clause-err : goal.returns-in-Err-clause-err
returns-in-Err-clause-err c = same_has c.args.self.now record { few = c.args.self.now.few; keys = c.insert.new.self } refl c.in-Err.ensures.err
