use Rattle.std.proofs.Common.{List, All, sym, subst, ap, ◌<◌, ◌∙◌}
use Rattle.lst_model.specs.Tables.{Rows, find_of}
use Rattle.lst_core_state.specs.Cells.{record_count}
use Rattle.lst_rule.specs.declared.records.RecordId.{RecordId}
use Rattle.lst_rule.specs.Rule.{knows}
use Rattle.lst_rule.proofs.Watching.{watches_join}
use Rattle.lst_scan.specs.Scans.{AreCandidates}
use Rattle.lst_scan.proofs.Loops.{still_free}
use Rattle.lst_scan.proofs.finds.find.Goals as goal

pub find_among-requires-clause-free : goal.find_among-requires-clause-free
find_among-requires-clause-free c = still_free c.args.seat.now.view c.records_for.new.seat.view c.args.s c.records_for.ensures.watched c.requires.free

pub find_among-requires-clause-low : goal.find_among-requires-clause-low
find_among-requires-clause-low c = subst (λ (list : List RecordId). All (λ (rec : RecordId). rec.number < record_count c.args.store.now.layout.limits) list) (sym c.deref.ensures.value) c.in_ok-records.ensures.low

pub find_among-requires-clause-candidates : goal.find_among-requires-clause-candidates
find_among-requires-clause-candidates c = subst (AreCandidates (knows c.records_for.new.seat.view c.args.s) c.args.column c.args.number) (sym c.deref.ensures.value) c.in_ok-records.ensures.candidates

pub returns-in-Ok-clause-watched : goal.returns-in-Ok-clause-watched
returns-in-Ok-clause-watched c = watches_join c.args.seat.now.view c.records_for.new.seat.view c.find_among.new.seat.view c.args.s c.records_for.ensures.watched c.find_among.ensures.watched

pub returns-in-Ok-clause-keys : goal.returns-in-Ok-clause-keys
returns-in-Ok-clause-keys c = (c.in_ok-records.ensures.indexed, c.in-Ok.ensures.keys ∙ ap (λ (table : Rows). find_of table c.args.column c.args.number) c.records_for.ensures.same)

pub returns-clause-watched : goal.returns-clause-watched
returns-clause-watched c = watches_join c.args.seat.now.view c.records_for.new.seat.view c.find_among.new.seat.view c.args.s c.records_for.ensures.watched c.find_among.ensures.watched
