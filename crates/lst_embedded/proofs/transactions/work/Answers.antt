use Rattle.lst_embedded.specs.Deeds.{IsMove}
use Rattle.lst_embedded.proofs.Adding.{moves_last}
use Rattle.lst_embedded.proofs.Going.{done_none, done_on}
use Rattle.lst_embedded.proofs.transactions.work.Goals as goal

pub loop-made-init : goal.loop-made-init
loop-made-init c = done_none c.args.store.now IsMove c.args.teller.now c.requires.ready

pub loop-made-preserved : goal.loop-made-preserved
loop-made-preserved c = let x = c.loop-made in
    done_on c.args.store.now IsMove moves_last c.args.teller.now x.teller c.transfer.new.session x.made x.invariant c.transfer.ensures.ready c.in_ok-transfer.ensures.ok
