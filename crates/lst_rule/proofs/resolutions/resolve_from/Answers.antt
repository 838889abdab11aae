use Rattle.std.proofs.Common.{true≢false, refl, sym}
use Rattle.lst_rule.proofs.Resolving.{start_is, named_by, other_resolved}
use Rattle.lst_rule.proofs.resolutions.resolve_from.Goals as goal

pub unpack_start-requires : goal.unpack_start-requires
unpack_start-requires c = start_is c.args.store.now.layout.limits c.args.seat.now.view c.load_cell_from-start.new.seat.view c.args.s c.args.tail c.load_cell_from-start.result c.args.store.now.layout.valid c.requires.seat.limits c.requires.host c.requires.place c.load_cell_from-start.ensures.looked c.load_cell_from-start.type_inv

pub returns-then-is_own-clause-resolved : goal.returns-then-is_own-clause-resolved
returns-then-is_own-clause-resolved c = (c.in-By.session, c.in-By.number, named_by c.args.store.now.layout.limits c.args.seat.now.view c.load_cell_from-start.new.seat.view c.args.s c.args.tail c.load_cell_from-start.result c.args.store.now.layout.valid c.requires.seat.limits c.requires.host c.requires.place c.load_cell_from-start.ensures.looked c.in-By.session c.in-By.number c.in-By.ensures.word c.in-By.ensures.range.0, c.if-is_own.ensures.0 refl)

pub resolve_other-requires-clause-place : goal.resolve_other-requires-clause-place
resolve_other-requires-clause-place c = (named_by c.args.store.now.layout.limits c.args.seat.now.view c.load_cell_from-start.new.seat.view c.args.s c.args.tail c.load_cell_from-start.result c.args.store.now.layout.valid c.requires.seat.limits c.requires.host c.requires.place c.load_cell_from-start.ensures.looked c.in-By.session c.in-By.number c.in-By.ensures.word c.in-By.ensures.range.0).place

pub returns-else-is_own-clause-resolved : goal.returns-else-is_own-clause-resolved
returns-else-is_own-clause-resolved c = other_resolved c.args.seat.now.view c.load_cell_from-start.new.seat.view c.resolve_other.new.seat.view c.args.s c.args.tail c.in-By.session c.in-By.number c.resolve_other.result (named_by c.args.store.now.layout.limits c.args.seat.now.view c.load_cell_from-start.new.seat.view c.args.s c.args.tail c.load_cell_from-start.result c.args.store.now.layout.valid c.requires.seat.limits c.requires.host c.requires.place c.load_cell_from-start.ensures.looked c.in-By.session c.in-By.number c.in-By.ensures.word c.in-By.ensures.range.0) (λ q. true≢false (sym (c.if-is_own.ensures.1 q))) c.resolve_other.ensures.asked c.resolve_other.ensures.answers
