use Rattle.std.proofs.Common.{◌≡◌, ℕ, List, [], length, drop, Bor, sym, ap, subst, ◌∙◌, Result, Ok, Err, Option, Some}
use Rattle.std.specs.Prelude.{IsErrAnd}
use Rattle.std.proofs.lemmas.List.{drop_all}
use Rattle.arrayvec.specs.declared.array_vec.ArrayVec.{ArrayVec}
use Rattle.lst_model.specs.Cells.{Cell}
use Rattle.lst_script.specs.declared.faults.FaultKind.{FaultKind}
use Rattle.lst_script.specs.Texts.{texts}
use Rattle.lst_script.specs.Pairs.{nothing_set}
use Rattle.lst_script.specs.Faults.{first_fault, pair_checks}
use Rattle.lst_script.specs.Reading.{ReadsPairs}
use Rattle.lst_script.proofs.Pairing.{IsUnderWay, start, step_at, faulty_at, ended}
use Rattle.lst_script.proofs.pairs.read_pairs.Goals as goal

pub loop-word-init : goal.loop-word-init
loop-word-init c = subst (λ (changes : List (Option Cell)). IsUnderWay c.args.names.now (texts c.args.words.now) (texts c.args.words.now) changes) (sym c.unset-changes.ensures) (start c.args.names.now (texts c.args.words.now))

pub set_pair-requires : goal.set_pair-requires
set_pair-requires c = c.loop-word.invariant.wide

handed_on : (names words : List (List ℕ)) (kind : FaultKind) (r : Result (ArrayVec (Option Cell) 8 (Unit {0})) FaultKind) → IsErrAnd r (λ y. y ≡ kind) → first_fault (pair_checks names (nothing_set (length names)) words) ≡ Some kind → ReadsPairs names words r
handed_on names words kind (Ok changes) is fault = absurd is
handed_on names words kind (Err y) is fault = fault ∙ ap (λ k. Some k) (sym is)

pub returns-in_err-set_pair : goal.returns-in_err-set_pair
returns-in_err-set_pair c = handed_on c.args.names.now (texts c.args.words.now) c.in_err-set_pair.field-0.0 c.from_residual.result c.from_residual.ensures.1 (faulty_at c.args.names.now c.args.words.now c.loop-word.word-index _ c.loop-word.changes.items c.loop-word-test.true c.loop-word.invariant c.in_err-set_pair.field-0.0 c.in_err-set_pair.ensures)

pub loop-word-preserved : goal.loop-word-preserved
loop-word-preserved c =
    let set = c.in_ok-set_pair.ensures in
    step_at c.args.names.now c.args.words.now c.loop-word.word-index _ c.loop-word.changes.items c.loop-word-test.true c.loop-word.invariant set.0 c.set_pair.new.changes.items set.1 set.2 set.3

pub returns : goal.returns
returns c =
    let none : drop c.loop-word.word-index c.args.words.now ≡ [] = drop_all c.loop-word.word-index c.args.words.now c.loop-word-test.false in
    ended c.args.names.now (texts c.args.words.now) c.loop-word.changes.items (subst (λ (slices : List (Bor (List ℕ))). IsUnderWay c.args.names.now (texts c.args.words.now) (texts slices) c.loop-word.changes.items) none c.loop-word.invariant)
