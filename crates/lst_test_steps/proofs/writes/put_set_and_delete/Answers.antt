use Rattle.std.proofs.Common.{[], ◌∷◌, ◌++◌}
use Rattle.lst_model.specs.declared.acts.Act.TheVariants.{Put}
use Rattle.lst_test_steps.proofs.Writing.{no_hand, may_write, sees_none, may_place, fits_sight}
use Rattle.lst_test_steps.proofs.writes.put_set_and_delete.Goals as goal

pub place-requires-clause-free : goal.place-requires-clause-free
place-requires-clause-free c = no_hand c.args.seat.now.view c.begin.new.seat.view c.find.new.seat.view c.args.s _ _ c.in-Ok.ensures.ok c.find.ensures.keeps c.requires.hand

pub write-requires-clause-free : goal.write-requires-clause-free
write-requires-clause-free c = may_write _ _ _ _ _ _ _ _ _ c.requires.free c.in-Ok.ensures.ok c.find.ensures.works c.place.ensures.works

pub write-requires-2-clause-placed : goal.write-requires-2-clause-placed
write-requires-2-clause-placed c = may_place _ _ c.args.key _ (c.in-Some.ensures.writes.sees c.args.key [] (sees_none _ _ _ _ _ _ _ _ c.args.key _ _ c.in-Ok.ensures.ok c.find.ensures.works c.in-None.ensures.unseen c.place.ensures.works c.in-Ok-place.ensures.ok.1))

pub write-requires-2-clause-fits : goal.write-requires-2-clause-fits
write-requires-2-clause-fits c = fits_sight _ _ c.args.key _ _ (c.in-Some.ensures.writes.sees c.args.key [] (sees_none _ _ _ _ _ _ _ _ c.args.key _ _ c.in-Ok.ensures.ok c.find.ensures.works c.in-None.ensures.unseen c.place.ensures.works c.in-Ok-place.ensures.ok.1)) tt

pub write-requires-3-clause-placed : goal.write-requires-3-clause-placed
write-requires-3-clause-placed c = may_place _ _ c.args.key _ (c.in-Some-write.ensures.writes.sees c.args.key ([] ++ Put c.args.row ∷ []) (c.in-Some.ensures.writes.sees c.args.key [] (sees_none _ _ _ _ _ _ _ _ c.args.key _ _ c.in-Ok.ensures.ok c.find.ensures.works c.in-None.ensures.unseen c.place.ensures.works c.in-Ok-place.ensures.ok.1)))

pub write-requires-3-clause-fits : goal.write-requires-3-clause-fits
write-requires-3-clause-fits c = fits_sight _ _ c.args.key _ _ (c.in-Some-write.ensures.writes.sees c.args.key ([] ++ Put c.args.row ∷ []) (c.in-Some.ensures.writes.sees c.args.key [] (sees_none _ _ _ _ _ _ _ _ c.args.key _ _ c.in-Ok.ensures.ok c.find.ensures.works c.in-None.ensures.unseen c.place.ensures.works c.in-Ok-place.ensures.ok.1))) tt
