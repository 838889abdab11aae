use Rattle.lst_walk.proofs.rows.row.Goals as goal

pub put_row-requires-clause-seat : goal.put_row-requires-clause-seat
put_row-requires-clause-seat c = c.requires.seat

pub put_row-requires-clause-host : goal.put_row-requires-clause-host
put_row-requires-clause-host c = c.requires.host

pub put_row-requires-clause-own : goal.put_row-requires-clause-own
put_row-requires-clause-own c = c.requires.own

pub put_row-requires-clause-opened : goal.put_row-requires-clause-opened
put_row-requires-clause-opened c = c.requires.opened

pub put_row-requires-clause-rec : goal.put_row-requires-clause-rec
put_row-requires-clause-rec c = c.requires.rec

pub returns-then-put_row-clause-seat : goal.returns-then-put_row-clause-seat
returns-then-put_row-clause-seat c = c.put_row.ensures.seat

pub returns-then-put_row-clause-watched : goal.returns-then-put_row-clause-watched
returns-then-put_row-clause-watched c = c.put_row.ensures.watched

pub returns-then-put_row-clause-saves : goal.returns-then-put_row-clause-saves
returns-then-put_row-clause-saves c = c.put_row.ensures.saves

pub returns-else-put_row-clause-seat : goal.returns-else-put_row-clause-seat
returns-else-put_row-clause-seat c = c.put_row.ensures.seat

pub returns-else-put_row-clause-watched : goal.returns-else-put_row-clause-watched
returns-else-put_row-clause-watched c = c.put_row.ensures.watched

pub returns-else-put_row-clause-saves : goal.returns-else-put_row-clause-saves
returns-else-put_row-clause-saves c = c.put_row.ensures.saves
