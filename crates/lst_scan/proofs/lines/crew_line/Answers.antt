use Rattle.std.proofs.Common.{rules}
use Rattle.lst_scan.proofs.lines.crew_line.Goals as goal

pub sum_call-requires-clause-crew : goal.sum_call-requires-clause-crew
sum_call-requires-clause-crew c = c.requires.crew

pub returns-in-Sum-clause-crew : goal.returns-in-Sum-clause-crew
returns-in-Sum-clause-crew c = c.sum_call.ensures.crew

pub count_call-requires-clause-crew : goal.count_call-requires-clause-crew
count_call-requires-clause-crew c = c.requires.crew

pub returns-in-Count-clause-crew : goal.returns-in-Count-clause-crew
returns-in-Count-clause-crew c = c.count_call.ensures.crew

pub scan_call-requires-clause-crew : goal.scan_call-requires-clause-crew
scan_call-requires-clause-crew c = c.requires.crew

pub returns-in-Scan-clause-crew : goal.returns-in-Scan-clause-crew
returns-in-Scan-clause-crew c = c.scan_call.ensures.crew

pub find_call-requires-clause-crew : goal.find_call-requires-clause-crew
find_call-requires-clause-crew c = c.requires.crew

pub returns-in-Find-clause-crew : goal.returns-in-Find-clause-crew
returns-in-Find-clause-crew c = c.find_call.ensures.crew

pub returns-in-Sum-clause-machine : goal.returns-in-Sum-clause-machine
returns-in-Sum-clause-machine c = search rules
