use Rattle.lst_script.specs.Heads.{columns_of}
use Rattle.lst_script.proofs.fronts.push_call.Goals as goal

pub returns-in-103 : goal.returns-in-103
returns-in-103 c =
    let columns = columns_of c.args.heads in
    c.push_found.ensures columns c.args.text.now (c.get_in_front.ensures columns)

pub returns-in-98 : goal.returns-in-98
returns-in-98 c =
    let columns = columns_of c.args.heads in
    c.push_found-in-98.ensures columns c.args.text.now (c.plain_in_front.ensures columns)

pub returns-in-99 : goal.returns-in-99
returns-in-99 c =
    let columns = columns_of c.args.heads in
    c.push_found-in-99.ensures columns c.args.text.now (c.commit_or_count_in_front.ensures columns)

pub returns-in-115 : goal.returns-in-115
returns-in-115 c =
    let columns = columns_of c.args.heads in
    c.push_found-in-115.ensures columns c.args.text.now c.sum_or_scan_in_front.ensures

pub returns-in-102 : goal.returns-in-102
returns-in-102 c =
    let columns = columns_of c.args.heads in
    c.push_found-in-102.ensures columns c.args.text.now c.find_in_front.ensures

pub returns-in-97 : goal.returns-in-97
returns-in-97 c =
    let columns = columns_of c.args.heads in
    c.push_found-in-97.ensures columns c.args.text.now (c.abort_or_as_of_in_front.ensures columns)

pub returns-in-100 : goal.returns-in-100
returns-in-100 c =
    let columns = columns_of c.args.heads in
    c.push_found-in-100.ensures columns c.args.text.now (c.delete_in_front.ensures columns)
