use Rattle.std.proofs.Common.{◌≡◌, sym, subst}
use Rattle.lst_layout.specs.Addresses.{address}
use Rattle.lst_layout.proofs.Places.{at}
use Rattle.lst_core_state.specs.declared.events.Event.{Event}
use Rattle.lst_core_state.specs.Step.{IsWithin}
use Rattle.lst_core_state.specs.Numbers.{place_for}
use Rattle.lst_core_state.proofs.targets.target.Goals as goal

pub returns-in-Look-clause-address : goal.returns-in-Look-clause-address
returns-in-Look-clause-address c = let within = subst (λ (e : Event). IsWithin c.args.layout.now.limits e) c.in-Look.is c.requires.within in
    subst (λ (e : Event). c.in-Look.address ≡ address c.args.layout.now.limits (place_for c.args.layout.now.limits c.args.now.now e)) (sym c.in-Look.is) (sym (at c.args.layout.now.limits c.in-Look.address c.args.layout.now.valid within.1).is)
