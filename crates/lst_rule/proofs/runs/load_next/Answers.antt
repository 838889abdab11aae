use Rattle.std.proofs.Common.{ℕ, ◌+◌, ◌<◌, sym, subst}
use Rattle.lst_rule.specs.Operations.{IsQuiet}
use Rattle.lst_rule.proofs.Running.{run_quiet, run_place, run_within, run_word, run_low}
use Rattle.lst_rule.proofs.runs.load_next.Goals as goal

pub place_in_run-place-requires : goal.place_in_run-place-requires
place_in_run-place-requires c = run_place c.args.store.now c.args.seat.now c.args.i c.args.run c.requires.seat c.requires.run c.requires.low

pub later-address-requires : goal.later-address-requires
later-address-requires c = subst (λ (k : ℕ). c.args.first + c.args.i < k) (sym c.args.store.now.layout.counted) (run_low c.args.store.now c.args.seat.now c.args.i c.args.run c.requires.seat c.requires.run c.requires.low c.args.first c.requires.first)

pub load_quietly-requires-clause-place : goal.load_quietly-requires-clause-place
load_quietly-requires-clause-place c = run_within c.args.store.now c.args.seat.now c.args.i c.args.run c.requires.seat c.requires.run c.requires.low _ c.place_in_run-place.ensures

pub load_quietly-requires-clause-address : goal.load_quietly-requires-clause-address
load_quietly-requires-clause-address c = run_word c.args.store.now c.args.seat.now c.args.i c.args.run c.requires.seat c.requires.run _ c.args.first _ c.requires.first c.later-address.ensures c.place_in_run-place.ensures

pub load_quietly-requires-clause-quiet : goal.load_quietly-requires-clause-quiet
load_quietly-requires-clause-quiet c = subst IsQuiet (sym c.place_in_run-place.ensures) (run_quiet c.args.run c.args.i)
