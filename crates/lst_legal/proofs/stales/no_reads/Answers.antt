use Rattle.std.proofs.Common.{List, [], ◌∷◌, length, sym, ap, subst, arith}
use Rattle.std.specs.List.{All}
use Rattle.std.proofs.lemmas.List.{length-append}
use Rattle.std.proofs.lemmas.List.Elements.{All-nil, All-cons, All-append, All-get_or}
use Rattle.lst_model.specs.declared.commits.Commit.{Commit}
use Rattle.lst_legal.specs.declared.stales.Reads.{Reads}
use Rattle.lst_legal.specs.Serials.{AreReadsOf}
use Rattle.lst_legal.proofs.stales.no_reads.Goals as goal

pub loop-preserved : goal.loop-preserved
loop-preserved c =
    let P : Reads → Type 0 = λ r. (history : List Commit) → AreReadsOf history r [] in
    let items = c.in_ok-push.ensures.items in (
      omega (arith, ap length items, length-append c.loop.reads.items (c.new.result ∷ []), c.loop.invariant.0),
      subst (All P) (sym items) (All-append P c.loop.reads.items (c.new.result ∷ []) c.loop.invariant.1 (All-cons P c.new.result [] c.new.ensures (All-nil P))),
    )

pub returns-clause-none : goal.returns-clause-none
returns-clause-none c = λ history session none below. All-get_or (λ r. (history : List Commit) → AreReadsOf history r []) c.loop.reads.items session none below c.loop.invariant.1 history
