use Rattle.lst_scan.proofs.sessions.answered.Goals as goal

pub sum_line-requires-clause-ready : goal.sum_line-requires-clause-ready
sum_line-requires-clause-ready g c = c.requires.ready

pub returns-in-Sum-clause-ready : goal.returns-in-Sum-clause-ready
returns-in-Sum-clause-ready g c = c.sum_line.ensures.ready

pub returns-in-Sum-clause-number : goal.returns-in-Sum-clause-number
returns-in-Sum-clause-number g c = c.sum_line.ensures.number

pub returns-in-Sum-clause-called : goal.returns-in-Sum-clause-called
returns-in-Sum-clause-called g c = c.sum_line.ensures.called

pub count_line-requires : goal.count_line-requires
count_line-requires g c = record { ready = c.requires.ready }

pub returns-in-Count-clause-ready : goal.returns-in-Count-clause-ready
returns-in-Count-clause-ready g c = c.count_line.ensures.ready

pub returns-in-Count-clause-number : goal.returns-in-Count-clause-number
returns-in-Count-clause-number g c = c.count_line.ensures.number

pub returns-in-Count-clause-called : goal.returns-in-Count-clause-called
returns-in-Count-clause-called g c = c.count_line.ensures.called

pub scan_line-requires : goal.scan_line-requires
scan_line-requires g c = record { ready = c.requires.ready }

pub returns-in-Scan-clause-ready : goal.returns-in-Scan-clause-ready
returns-in-Scan-clause-ready g c = c.scan_line.ensures.ready

pub returns-in-Scan-clause-number : goal.returns-in-Scan-clause-number
returns-in-Scan-clause-number g c = c.scan_line.ensures.number

pub returns-in-Scan-clause-called : goal.returns-in-Scan-clause-called
returns-in-Scan-clause-called g c = c.scan_line.ensures.called

pub find_line-requires-clause-ready : goal.find_line-requires-clause-ready
find_line-requires-clause-ready g c = c.requires.ready

pub returns-in-Find-clause-ready : goal.returns-in-Find-clause-ready
returns-in-Find-clause-ready g c = c.find_line.ensures.ready

pub returns-in-Find-clause-number : goal.returns-in-Find-clause-number
returns-in-Find-clause-number g c = c.find_line.ensures.number

pub returns-in-Find-clause-called : goal.returns-in-Find-clause-called
returns-in-Find-clause-called g c = c.find_line.ensures.called

pub commit_line-requires : goal.commit_line-requires
commit_line-requires g c = record { ready = c.requires.ready }

pub returns-in-Commit-clause-ready : goal.returns-in-Commit-clause-ready
returns-in-Commit-clause-ready g c = c.commit_line.ensures.ready

pub returns-in-Commit-clause-number : goal.returns-in-Commit-clause-number
returns-in-Commit-clause-number g c = c.commit_line.ensures.number

pub returns-in-Commit-clause-called : goal.returns-in-Commit-clause-called
returns-in-Commit-clause-called g c = c.commit_line.ensures.called
