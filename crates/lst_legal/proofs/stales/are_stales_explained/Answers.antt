use Rattle.std.proofs.Common.{List, [], sym, subst}
use Rattle.lst_legal.specs.declared.stales.Reads.{Reads}
use Rattle.lst_legal.specs.Serials.{AreReads}
use Rattle.lst_legal.proofs.stales.are_stales_explained.Goals as goal

pub are_explained_with-requires-clause-opening : goal.are_explained_with-requires-clause-opening
are_explained_with-requires-clause-opening c = subst (λ (items : List Reads). AreReads c.args.snapshots.now items []) (sym c.deref_mut.ensures.value) (c.in_ok-reads.ensures.none c.args.snapshots.now)
