use Rattle.std.proofs.Common.{ap, ◌∙◌}
use Rattle.std.specs.Prelude.{None}
use Rattle.lst_machine.specs.Writes.{time_of, rival_of}
use Rattle.lst_machine.specs.Machines.{store_of}
use Rattle.lst_machine.proofs.Viewing.{conflict_none, conflict_some, conflict_newer, conflict_older}
use Rattle.lst_machine.proofs.machine.Machine.conflict.Goals as goal

pub returns-in_default : goal.returns-in_default
returns-in_default c = conflict_none c.args.self.now.history c.args.session c.args.begin (rival_of (store_of c.args.self.now) c.args.key) c.in_default.ensures

pub returns-in_default-time_of : goal.returns-in_default-time_of
returns-in_default-time_of c =
    c.unfinished.ensures
    ∙ conflict_some c.args.self.now.history c.args.session c.args.begin (rival_of (store_of c.args.self.now) c.args.key) c.in-Some.rival c.in-Some.ensures None (c.in_default-time_of.ensures ∙ ap (λ h. time_of h c.in-Some.rival.session c.in-Some.rival.number) c.items.ensures)

pub returns-then-begin-time : goal.returns-then-begin-time
returns-then-begin-time c = conflict_newer c.args.self.now.history c.args.session c.args.begin (rival_of (store_of c.args.self.now) c.args.key) c.in-Some.rival c.in-Some.ensures c.in-Some-time_of.time (c.in-Some-time_of.ensures ∙ ap (λ h. time_of h c.in-Some.rival.session c.in-Some.rival.number) c.items.ensures) c.if-begin-time.true

pub returns : goal.returns
returns c = conflict_older c.args.self.now.history c.args.session c.args.begin (rival_of (store_of c.args.self.now) c.args.key) c.in-Some.rival c.in-Some.ensures c.in-Some-time_of.time (c.in-Some-time_of.ensures ∙ ap (λ h. time_of h c.in-Some.rival.session c.in-Some.rival.number) c.items.ensures) c.if-begin-time.false
