use Rattle.std.proofs.Common.{◌≡◌, ◌<◌, ℕ, subst, sym, ap, arith}
use mathlib.Core.Logic.{dite}
use native.Mathlib.Decide.{ℕ_discrete}
use Rattle.lst_bits.proofs.Cases.{some_number, no_number}
use Rattle.lst_layout.specs.declared.limits.Limits.{Limits}
use Rattle.lst_layout.specs.Areas.{index_positions}
use Rattle.lst_core_state.specs.Cells.{record_count}
use Rattle.lst_rule.specs.Rule.{knows}
use Rattle.lst_index.specs.Visits.{Ends, Shows}
use Rattle.lst_index.proofs.Hashing.{size_is}
use Rattle.lst_index.proofs.Looks.{index_few, index_shows, index_free, index_ends}
use Rattle.lst_index.proofs.visits.look.Goals as goal

pub load_index-word-requires-clause-place : goal.load_index-word-requires-clause-place
load_index-word-requires-clause-place c = let l : Limits = c.args.store.now.layout.limits in subst (λ (z : Limits). c.args.position < index_positions z) (sym c.requires.seat.limits) (subst (λ (n : ℕ). c.args.position < n) (size_is l) c.requires.position)

-- what the load finds is an index word
pub unpack_index-requires : goal.unpack_index-requires
unpack_index-requires c = dite (ℕ_discrete c.load_index-word.result 0) (λ e. omega arith)
    (λ ne. let few = index_few _ _ _ _ _ c.load_index-word.ensures.looked c.requires.host ne in let e : record_count c.args.seat.now.view.limits ≡ record_count c.args.store.now.layout.limits = ap record_count c.requires.seat.limits in let ranges = c.args.store.now.layout.valid.ranges.1 in omega arith)

pub returns-clause-some : goal.returns-clause-some
returns-clause-some c = some_number (λ r. (r < record_count c.args.store.now.layout.limits) × Shows (knows c.load_index-word.new.seat.view c.args.s) c.args.position r) c.unpack_index.result c.load_index-word.result c.unpack_index.ensures.word
    (λ some. let few = index_few _ _ _ _ _ c.load_index-word.ensures.looked c.requires.host some in let e : record_count c.args.seat.now.view.limits ≡ record_count c.args.store.now.layout.limits = ap record_count c.requires.seat.limits in
    (omega arith, index_shows _ _ _ _ _ c.load_index-word.ensures.looked c.requires.host some))

pub returns-clause-free : goal.returns-clause-free
returns-clause-free c = no_number _ c.unpack_index.result c.load_index-word.result c.unpack_index.ensures.word (λ free. index_free _ _ _ _ _ c.load_index-word.ensures.looked c.requires.host free)

pub returns-clause-none : goal.returns-clause-none
returns-clause-none c = no_number _ c.unpack_index.result c.load_index-word.result c.unpack_index.ensures.word (λ free. subst (λ (z : Limits). Ends z c.args.seat.now.view c.load_index-word.new.seat.view c.args.s c.args.position) c.requires.seat.limits
    (λ key n. index_ends _ _ _ _ _ c.load_index-word.ensures.looked c.requires.host key n free))
