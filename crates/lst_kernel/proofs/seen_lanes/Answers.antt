use Rattle.lst_kernel.proofs.Lanes.{seen_lanes_are}
use Rattle.lst_kernel.proofs.seen_lanes.Goals as goal

pub returns : goal.returns
returns c = seen_lanes_are c.args.begin c.min.result 8 c.args.values c.args.times c.min.ensures c.fits-values.0 c.fits-times.0 c.fits-times.1
