use Rattle.std.proofs.Common.{◌≡◌, sym, subst}
use Rattle.lst_layout.specs.Areas.{IsIndexed}
use Rattle.lst_second.specs.Candidates.{IsRefused}
use Rattle.lst_rule.specs.Rule.{knows}
use Rattle.lst_scan.specs.Scans.{AreCandidates}
use Rattle.lst_scan.proofs.Indexes.{indexed, not_indexed}
use Rattle.lst_scan.proofs.Naming.{probes_watch, holders_are_candidates}
use Rattle.lst_scan.proofs.finds.by_index.Goals as goal

pub returns-in-Ok-clause-watched : goal.returns-in-Ok-clause-watched
returns-in-Ok-clause-watched c = probes_watch c.args.seat.now.view c.candidates.new.seat.view c.args.s c.candidates.ensures.probes c.requires.no_tail

pub returns-in-Ok-clause-indexed : goal.returns-in-Ok-clause-indexed
returns-in-Ok-clause-indexed c = indexed c.args.store.now.layout.limits c.args.column c.in-Ok.ensures.indexed

pub returns-in-Ok-clause-candidates : goal.returns-in-Ok-clause-candidates
returns-in-Ok-clause-candidates c = subst (AreCandidates (knows c.candidates.new.seat.view c.args.s) c.args.column c.args.number) (sym c.into_vec.ensures) (holders_are_candidates c.candidates.new.seat.view c.args.s c.args.column c.args.number c.in-Ok.records c.in-Ok.ensures.holders)

pub returns-in-Err-NotIndexed-clause-watched : goal.returns-in-Err-NotIndexed-clause-watched
returns-in-Err-NotIndexed-clause-watched c = probes_watch c.args.seat.now.view c.candidates.new.seat.view c.args.s c.candidates.ensures.probes c.requires.no_tail

pub returns-in-Err-NotIndexed-clause-refusal : goal.returns-in-Err-NotIndexed-clause-refusal
returns-in-Err-NotIndexed-clause-refusal c = let refused : (¬ IsIndexed c.args.store.now.layout.limits c.args.column) × (c.candidates.new.seat ≡ c.args.seat.now) = subst (IsRefused c.args.store.now.layout.limits c.args.seat.now c.candidates.new.seat c.args.column) c.in-Err-NotIndexed.field-0-is c.in-Err-NotIndexed.ensures.fault in
    (not_indexed c.args.store.now.layout.limits c.args.column refused.0, refused.1)

pub returns-in-Err-OutOfMemory-clause-watched : goal.returns-in-Err-OutOfMemory-clause-watched
returns-in-Err-OutOfMemory-clause-watched c = probes_watch c.args.seat.now.view c.candidates.new.seat.view c.args.s c.candidates.ensures.probes c.requires.no_tail

pub returns-in-Err-OutOfMemory-clause-refusal : goal.returns-in-Err-OutOfMemory-clause-refusal
returns-in-Err-OutOfMemory-clause-refusal c = indexed c.args.store.now.layout.limits c.args.column (subst (IsRefused c.args.store.now.layout.limits c.args.seat.now c.candidates.new.seat c.args.column) c.in-Err-OutOfMemory.field-0-is c.in-Err-OutOfMemory.ensures.fault)
