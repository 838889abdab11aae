use Rattle.std.proofs.Common.{[], ◌∷◌, length, sym, ap, subst, arith}
use Rattle.std.specs.List.{All}
use Rattle.std.proofs.lemmas.List.{length-append}
use Rattle.std.proofs.lemmas.List.Elements.{All-push}
use Rattle.lst_work.specs.Parts.{IsUnread}
use Rattle.lst_work.proofs.scripts.nothing_read.Goals as goal

pub loop-preserved : goal.loop-preserved
loop-preserved c =
    let items = c.in_ok-push.ensures.items in (
      omega (arith, ap length items, length-append c.loop.reads.items (c.new.result ∷ []), c.loop.invariant.0),
      subst (All IsUnread) (sym items) (All-push IsUnread c.loop.reads.items c.new.result c.loop.invariant.1 record { keys = c.new.ensures.keys; all = c.new.ensures.all }),
    )
