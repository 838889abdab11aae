use Rattle.std.proofs.Common.{◌∙◌, ℕ, ◌+◌, nat_lt, sym, ap}
use Rattle.lst_legal_runs.specs.Marks.{number_at}
use Rattle.lst_legal_runs.proofs.Accepting.{took_none, took_same}
use Rattle.lst_legal_runs.proofs.conflicts.Conflicts.may_have_taken.Goals as goal

pub returns-then-first-eq0 : goal.returns-then-first-eq0
returns-then-first-eq0 c = λ history run conflicts.
    let marks = c.args.self.now.takers in
    sym (conflicts.takers.others c.args.key c.args.session ∙ took_none (number_at marks c.args.key 0 0) (number_at marks c.args.key 1 0) c.args.session (sym c.number-first.ensures ∙ c.if-first-eq0.true))

pub returns-else-first-from : goal.returns-else-first-from
returns-else-first-from c = λ history run conflicts.
    let marks = c.args.self.now.takers in
    ap (λ (n : ℕ). nat_lt 0 n) c.number.ensures
    ∙ sym (conflicts.takers.others c.args.key c.args.session ∙ took_same (number_at marks c.args.key 0 0) (number_at marks c.args.key 1 0) c.args.session (sym c.number-first.ensures ∙ c.if-first-from.false ∙ ap (λ (n : ℕ). n + 1) c.from.ensures))
