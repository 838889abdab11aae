use Rattle.std.proofs.Common.{[], ◌∷◌, sym, append-nil}
use Rattle.std.proofs.lemmas.List.Elements.{All-nil, All-cons}
use Rattle.lst_rule.specs.declared.records.RecordId.{RecordId}
use Rattle.lst_rule.specs.Rule.{knows}
use Rattle.lst_second.specs.Candidates.{KnownToHold}
use Rattle.lst_second.proofs.Passing.{stands_more}
use Rattle.lst_second.proofs.Probing.{probes_facts}
use Rattle.lst_second.proofs.Gathered.{gathers_on, gathers_next}
use Rattle.lst_second.proofs.gathering.pass.Goals as goal

pub returns-in_ok-push-clause-ok : goal.returns-in_ok-push-clause-ok
returns-in_ok-push-clause-ok c = let more = probes_facts c.args.seat.now.view c.holder.new.seat.view c.args.s c.holder.ensures.probes in
    let on = gathers_on c.args.store.now c.args.seat.now c.holder.new.seat c.args.s c.args.sought c.args.records.now.items c.args.offset c.requires.gathers c.holder.ensures.probes c.holder.ensures.seeks.seat_of in
    gathers_next c.args.store.now c.holder.new.seat c.args.s c.args.sought c.args.records.now.items (c.in-Some.rec ∷ []) c.push.new.self.items c.args.offset c.args.tail on
    (stands_more c.args.store.now.layout.limits (knows c.args.seat.now.view c.args.s).facts (knows c.holder.new.seat.view c.args.s).facts more c.args.sought.column c.args.sought.value c.args.offset c.args.tail c.requires.stands)
    c.in-Some.ensures.some.1
    (All-cons (λ (rec : RecordId). KnownToHold c.args.store.now.layout.limits (knows c.holder.new.seat.view c.args.s).facts c.args.sought.column c.args.sought.value rec.number) c.in-Some.rec [] c.in-Some.ensures.some.0
    (All-nil (λ (rec : RecordId). KnownToHold c.args.store.now.layout.limits (knows c.holder.new.seat.view c.args.s).facts c.args.sought.column c.args.sought.value rec.number)))
    c.in_ok-push.ensures.items

pub returns-in_default-clause-ok : goal.returns-in_default-clause-ok
returns-in_default-clause-ok c = let more = probes_facts c.args.seat.now.view c.holder.new.seat.view c.args.s c.holder.ensures.probes in
    let on = gathers_on c.args.store.now c.args.seat.now c.holder.new.seat c.args.s c.args.sought c.args.records.now.items c.args.offset c.requires.gathers c.holder.ensures.probes c.holder.ensures.seeks.seat_of in
    gathers_next c.args.store.now c.holder.new.seat c.args.s c.args.sought c.args.records.now.items [] c.args.records.now.items c.args.offset c.args.tail on
    (stands_more c.args.store.now.layout.limits (knows c.args.seat.now.view c.args.s).facts (knows c.holder.new.seat.view c.args.s).facts more c.args.sought.column c.args.sought.value c.args.offset c.args.tail c.requires.stands)
    c.in_default.ensures.none
    (All-nil (λ (rec : RecordId). KnownToHold c.args.store.now.layout.limits (knows c.holder.new.seat.view c.args.s).facts c.args.sought.column c.args.sought.value rec.number))
    (sym (append-nil c.args.records.now.items))
