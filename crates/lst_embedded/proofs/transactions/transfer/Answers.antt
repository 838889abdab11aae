use Rattle.std.proofs.Common.{◌≡◌, [], rules}
use Rattle.std.specs.Prelude.{Ok, Err}
use Rattle.std.specs.Result.{result_or}
use Rattle.lst_embedded.specs.declared.transactions.Stop.TheVariants.{Close}
use Rattle.lst_embedded.specs.Deeds.{IsMove}
use Rattle.lst_embedded.specs.Doing.{HasMade}
use Rattle.lst_embedded.proofs.Adding.{moves_last}
use Rattle.lst_embedded.proofs.Going.{begun_or, added_on, aborted_after, made_after, when_ok}
use Rattle.lst_embedded.proofs.transactions.transfer.Goals as goal

pub returns-in_default-2-clause-ok : goal.returns-in_default-2-clause-ok
returns-in_default-2-clause-ok c =
    let x = c.loop-attempt in let a = x.session in let b = c.begin.new.self in let d = c.make.new.session in
    let begun : Ok c.in_ok-or.field-0 ≡ result_or c.begin.result (Err Close) = search rules in
    let started = begun_or a b c.begin.ensures.number c.begin.result Close c.in_ok-or.field-0 begun c.begin.ensures.ok in
    when_ok (HasMade IsMove b d 1) (HasMade IsMove c.args.session.now d 1)
    (λ made. made_after IsMove moves_last c.args.session.now a d 1 x.invariant.1 (made_after IsMove moves_last a b d 1 started.added made)) c.make.result c.make.ensures.ok

pub loop-init : goal.loop-init
loop-init c =
    let x = c.loop-attempt in let a = x.session in let b = c.begin.new.self in let d = c.make.new.session in let e = c.abort.new.self in
    let begun : Ok c.in_ok-or.field-0 ≡ result_or c.begin.result (Err Close) = search rules in
    let started = begun_or a b c.begin.ensures.number c.begin.result Close c.in_ok-or.field-0 begun c.begin.ensures.ok in
    (c.abort.ensures.ready, added_on c.args.session.now a e [] [] x.invariant.1 (aborted_after a b d e started c.in-Err-Anew.ensures.err c.abort.result c.abort.ensures.number c.abort.ensures.ok c.abort.ensures.err))
