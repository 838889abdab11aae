use Rattle.std.proofs.Common.{ap, ◌∙◌}
use Rattle.lst_model.specs.Histories.{by_key}
use Rattle.lst_history.proofs.sorting.sort.Goals as goal

pub returns : goal.returns
returns c = record {
  ok = λ i. record {
    session = c.args.commit.now.session;
    number = c.args.commit.now.number;
    begin = c.args.commit.now.begin;
    writes = (c.in_ok-commit.ensures ∙ ap by_key c.replace.ensures.value) i;
  };
}
