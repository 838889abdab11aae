use Rattle.std.proofs.Common.{◌≡◌, List, [], ◌∷◌, subst, rules}
use Rattle.std.specs.Prelude.{Ok, Err}
use Rattle.std.specs.Result.{result_or}
use Rattle.lst_model.specs.declared.acts.Act.TheVariants.{Put}
use Rattle.lst_model.specs.Cells.{Cell}
use Rattle.lst_session.specs.Calls.{Accepts}
use Rattle.lst_embedded.specs.declared.transactions.Stop.TheVariants.{Close}
use Rattle.lst_embedded.specs.Deeds.{IsOpening}
use Rattle.lst_embedded.specs.Doing.{HasAdded, commit_of}
use Rattle.lst_embedded.proofs.Adding.{openings_last}
use Rattle.lst_embedded.proofs.Going.{done_none, done_on, begun_or, on_or, committed_if, wrote_by, opened_by}
use Rattle.lst_embedded.proofs.transactions.open_accounts.Goals as goal

pub loop-key-init : goal.loop-key-init
loop-key-init c = done_none c.args.store.now IsOpening c.args.banker.now c.requires.ready

pub loop-key-preserved : goal.loop-key-preserved
loop-key-preserved c =
    let x = c.loop-key in let a = x.banker in let b = c.begin.new.self in let w = c.insert.new.self in let d = c.try_commit.new.self in
    let begun : Ok c.in_ok-or.field-0 ≡ result_or c.begin.result (Err Close) = search rules in
    let started = begun_or a b c.begin.ensures.number c.begin.result Close c.in_ok-or.field-0 begun c.begin.ensures.ok in
    let e = c.in_ok-insert.ensures in let accepted = subst (λ (row : List Cell). Accepts b.seat.view w.seat.view b.number x.key 1 (Put row)) c.account.ensures e.ok in
    let f = c.try_commit.ensures in let committed : Ok c.in_ok-or-2.field-0 ≡ result_or c.try_commit.result (Err Close) = search rules in
    let added = on_or (HasAdded w d (commit_of w ∷ [])) c.try_commit.result Close c.in_ok-or-2.field-0 committed (committed_if w d f.number c.try_commit.result (wrote_by a b w x.key started e.number accepted) f.committed f.ended) in
    done_on c.args.store.now IsOpening openings_last c.args.banker.now a d x.key x.invariant f.ready (opened_by a b w d x.key started e.number accepted added)
