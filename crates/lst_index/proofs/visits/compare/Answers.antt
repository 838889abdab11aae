use Rattle.std.proofs.Common.{refl}
use Rattle.lst_index.proofs.Looks.{key_works, key_keeps, key_placed, key_drops, key_still, key_apart, key_had}
use Rattle.lst_index.proofs.visits.compare.Goals as goal

pub returns-then-load_key-key-clause-works : goal.returns-then-load_key-key-clause-works
returns-then-load_key-key-clause-works c = key_works _ _ _ _ _ c.load_key.ensures.looked c.requires.host c.requires.own

pub returns-then-load_key-key-clause-keeps : goal.returns-then-load_key-key-clause-keeps
returns-then-load_key-key-clause-keeps c = key_keeps _ _ _ _ _ c.load_key.ensures.looked c.requires.host c.requires.own

pub returns-then-load_key-key-clause-same : goal.returns-then-load_key-key-clause-same
returns-then-load_key-key-clause-same c = (
  refl,
  key_placed _ _ _ _ _ c.load_key.ensures.looked c.requires.host c.requires.own c.args.position c.args.key c.requires.shows.key c.requires.shows.fact c.if-load_key-key.true,
  key_drops _ _ _ _ _ c.load_key.ensures.looked c.requires.host c.requires.own c.args.key c.args.position c.requires.shows c.if-load_key-key.true,
)

pub returns-then-load_key-key-clause-had : goal.returns-then-load_key-key-clause-had
returns-then-load_key-key-clause-had c = key_had _ _ _ _ _ c.load_key.ensures.looked c.requires.host c.requires.own c.args.key c.args.position c.requires.shows c.if-load_key-key.true

pub returns-clause-works : goal.returns-clause-works
returns-clause-works c = key_works _ _ _ _ _ c.load_key.ensures.looked c.requires.host c.requires.own

pub returns-clause-keeps : goal.returns-clause-keeps
returns-clause-keeps c = key_keeps _ _ _ _ _ c.load_key.ensures.looked c.requires.host c.requires.own

pub returns-clause-other : goal.returns-clause-other
returns-clause-other c = (
  key_apart _ _ _ _ _ c.load_key.ensures.looked c.requires.host c.requires.own c.args.key c.args.position c.requires.shows c.if-load_key-key.false,
  key_still _ _ _ _ _ c.load_key.ensures.looked c.requires.host c.requires.own c.args.key c.if-load_key-key.false,
)
