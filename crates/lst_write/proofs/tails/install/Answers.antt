use Rattle.lst_write.proofs.Installing.{install_enabled, install_stands, install_word, installed}
use Rattle.std.proofs.Common.{◌<◌, sym, subst, arith}
use Rattle.lst_core_state.specs.declared.known.Hold.{Hold}
use Rattle.lst_write.proofs.Freeing.{install_frees, install_writes}
use Rattle.lst_write.proofs.tails.install.Goals as goal

pub step_install-requires-clause-enabled : goal.step_install-requires-clause-enabled
step_install-requires-clause-enabled c = let q = c.requires.whole in install_enabled c.args.seat.now.view c.args.s c.args.rec.number q.0 c.args.tail q.1 c.requires.host c.requires.own q.2

pub step_install-requires-clause-stands : goal.step_install-requires-clause-stands
step_install-requires-clause-stands c = let q = c.requires.whole in install_stands c.args.seat.now.view c.args.s c.args.rec.number q.0 c.args.tail q.1 c.requires.host c.requires.own q.2 c.requires.posted

pub returns-clause-installs : goal.returns-clause-installs
returns-clause-installs c key head act has whole = installed _ _ _ _ _ _ c.requires.host c.requires.own whole _ c.step_install.ensures.made key has

pub returns-clause-word : goal.returns-clause-word
returns-clause-word c = let q = c.requires.whole in install_word c.args.seat.now.view c.args.s c.args.rec.number q.0 c.args.tail q.1 c.requires.host c.requires.own q.2 _ c.step_install.ensures.made

pub returns-clause-free : goal.returns-clause-free
returns-clause-free c = install_frees _ _ _ _ _ c.requires.host c.requires.own (let q = c.requires.whole in subst (λ (h : Hold). 0 < h.latch) (sym q.2.hold) (omega arith)) c.step_install.ensures.made

pub returns-clause-writes : goal.returns-clause-writes
returns-clause-writes c = install_writes _ _ _ _ _ c.step_install.ensures.made
