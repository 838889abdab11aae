use Rattle.std.proofs.Common.{rules}
use Rattle.lst_rule.specs.Actions.{stock_numbers}
use Rattle.lst_rule.proofs.Paging.{pinnable}
use Rattle.lst_rule.proofs.page_acts.advance_pages.Goals as goal

pub pin_after-now-requires : goal.pin_after-now-requires
pin_after-now-requires c = pinnable (stock_numbers c.args.now.now) c.args.event c.requires

pub returns : goal.returns
returns c = search rules
