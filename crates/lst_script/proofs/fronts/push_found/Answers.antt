use Rattle.lst_script.proofs.fronts.push_found.Goals as goal

pub returns : goal.returns
returns c = λ columns text begins. (c.in-Some.call, rw c.in-Some.is at begins, c.in_ok-push.ensures.ok)
