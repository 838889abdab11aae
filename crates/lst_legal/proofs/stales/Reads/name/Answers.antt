use Rattle.lst_legal.proofs.Rereading.{same_more}
use Rattle.lst_legal.proofs.stales.Reads.name.Goals as goal

pub returns-clause-named : goal.returns-clause-named
returns-clause-named c = λ named.
    same_more c.args.self.now.named c.insert.new.self c.args.self.now.keys.items c.push.new.self.items c.args.key c.in_ok-insert.ensures.updates c.in_ok-push.ensures.items named
