use Rattle.std.proofs.Common.{rules}
use Rattle.std.proofs.Common.{◌<◌}
use Rattle.lst_core_state.specs.Cells.{record_count}
use Rattle.lst_rule.specs.declared.records.RecordId.{RecordId}
use Rattle.lst_second.proofs.Probing.{probes_none}
use Rattle.lst_second.proofs.Gathered.{all_of, holders_of}
use Rattle.lst_second.proofs.listing.candidates.Goals as goal

pub returns-then-not-is_indexed-clause-probes : goal.returns-then-not-is_indexed-clause-probes
returns-then-not-is_indexed-clause-probes c = probes_none c.args.seat.now.view c.args.s

pub returns-in-Ok-clause-rising : goal.returns-in-Ok-clause-rising
returns-in-Ok-clause-rising c = record {
  rises = c.rising.ensures.rises;
  low = all_of (λ (rec : RecordId). rec.number < record_count c.args.store.now.layout.limits) c.in-Ok.records.items c.rising.result c.rising.ensures.adds_none c.in-Ok.ensures.low;
}

pub returns-in-Ok-clause-holders : goal.returns-in-Ok-clause-holders
returns-in-Ok-clause-holders c = holders_of c.gather.new.seat.view c.args.s c.args.column c.args.value c.in-Ok.records.items c.rising.result c.rising.ensures.keeps c.rising.ensures.adds_none c.in-Ok.ensures.holders

pub returns-then-not-is_indexed-clause-indexed : goal.returns-then-not-is_indexed-clause-indexed
returns-then-not-is_indexed-clause-indexed c = search rules
