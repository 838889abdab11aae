use Rattle.std.proofs.Common.{refl, sym, ◌∙◌}
use Rattle.lst_legal.proofs.Rereading.{told_joins}
use Rattle.lst_legal.proofs.stales.Reads.is_told.Goals as goal

pub returns-then-contains-clause-wrote : goal.returns-then-contains-clause-wrote
returns-then-contains-clause-wrote c = λ front are. sym (are.told c.args.time (sym c.contains.ensures ∙ c.if-contains.true))

pub returns-then-not-is_written-clause-wrote : goal.returns-then-not-is_written-clause-wrote
returns-then-not-is_written-clause-wrote c = λ front are. sym c.if-not-is_written.true ∙ c.is_written.ensures are.named

pub returns-clause-wrote : goal.returns-clause-wrote
returns-clause-wrote c = λ front are. sym c.if-not-is_written.false ∙ c.is_written.ensures are.named

pub returns-clause-stay : goal.returns-clause-stay
returns-clause-stay c =
    told_joins c.args.snapshots.now c.args.self.now record { keys = c.args.self.now.keys; named = c.args.self.now.named; told = c.insert.new.self; whole = c.args.self.now.whole } c.args.time
    refl refl c.in_ok-insert.ensures.updates refl
    (λ named. sym (c.is_written.ensures named) ∙ c.if-not-is_written.false)
