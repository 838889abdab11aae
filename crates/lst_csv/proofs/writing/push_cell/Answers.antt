use Rattle.std.proofs.lemmas.Result.{on_ok_weaker}
use Rattle.lst_csv.proofs.Written.{comma_number, comma_null}
use Rattle.lst_csv.proofs.writing.push_cell.Goals as goal

pub returns-in-Some : goal.returns-in-Some
returns-in-Some c = on_ok_weaker c.push_number.result (λ more. comma_number c.args.cell c.in-Some.number c.args.bytes.now.items c.push.new.self.items c.push_number.new.bytes.items c.in-Some.is c.in_ok-push.ensures.items more) c.push_number.ensures

pub returns-in-None : goal.returns-in-None
returns-in-None c = comma_null c.args.cell c.args.bytes.now.items c.push.new.self.items c.in-None.is c.in_ok-push.ensures.items
