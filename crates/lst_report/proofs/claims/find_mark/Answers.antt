use Rattle.std.proofs.Common.{◌≡◌, ◌+◌, ◌≤◌, false, cond, eqb, length, None, refl, sym, ap, subst, ◌∙◌, arith}
use Rattle.std.specs.Prelude.{Bool, ℕ, List, position}
use Rattle.std.specs.Str.Lines.{strip_carriage_return}
use Rattle.lst_report.specs.Claims.{is_mark, IsUnmarked}
use Rattle.lst_script.specs.Texts.{is_newline}
use Rattle.lst_report.proofs.Marking.{IsPassed, passed_few, passed_more, mark_found, mark_last, unmarked_last}
use Rattle.lst_report.proofs.claims.find_mark.Goals as goal

pub returns-then-is_mark-clause-found : goal.returns-then-is_mark-clause-found
returns-then-is_mark-clause-found c = mark_found c.args.bytes.now c.loop-end.rest.now c.in-Some.end c.loop-end.lines c.loop-end.invariant (sym c.in-Some.ensures) (sym c.is_mark.ensures ∙ c.if-is_mark.true)

pub overflow_add-lines : goal.overflow_add-lines
overflow_add-lines c =
    let few = passed_few c.args.bytes.now c.loop-end.rest.now c.loop-end.lines c.loop-end.invariant in
    record { fits = omega (arith, few) }

pub loop-end-preserved : goal.loop-end-preserved
loop-end-preserved c =
    subst (λ rest. IsPassed c.args.bytes.now rest (c.loop-end.lines + 1)) (sym c.behind-rest.ensures.rest)
    (passed_more c.args.bytes.now c.loop-end.rest.now c.in-Some.end c.loop-end.lines c.loop-end.invariant (sym c.in-Some.ensures) (sym c.is_mark.ensures ∙ c.if-is_mark.false))

pub returns-then-is_mark-2-clause-found : goal.returns-then-is_mark-2-clause-found
returns-then-is_mark-2-clause-found c = mark_last c.args.bytes.now c.loop-end.rest.now c.loop-end.lines c.loop-end.invariant (sym c.newline_in.ensures ∙ c.in_default.is) (sym c.is_mark-2.ensures ∙ c.if-is_mark-2.true)

unmarked_by : (text rest : List ℕ) (count last total : ℕ) → IsPassed text rest count → position is_newline rest ≡ None → is_mark (strip_carriage_return rest) ≡ false → last ≡ cond (eqb (length rest) 0) 0 1 → count + last ≡ total → IsUnmarked text total
unmarked_by text rest count last total passed none other is sum = subst (IsUnmarked text) sum (unmarked_last text rest count last passed none other is)

one_of : (b : Bool) (size : ℕ) → b ≡ eqb size 0 → b ≡ false → (1 ≤ size) × ◌≡◌ {A = ℕ} 1 (cond (eqb size 0) 0 1)
one_of b size is same = (grind (arith, is, same), ap (λ t. cond t 0 1) (sym same ∙ is))

pub overflow_add-result-2 : goal.overflow_add-result-2
overflow_add-result-2 c =
    let few = passed_few c.args.bytes.now c.loop-end.rest.now c.loop-end.lines c.loop-end.invariant in
    let some = (one_of c.is_empty.result (length c.loop-end.rest.now) c.is_empty.ensures c.if-is_empty.false).0 in
    record { fits = omega (arith, few, some) }

pub returns-then-is_empty-clause-few : goal.returns-then-is_empty-clause-few
returns-then-is_empty-clause-few c =
    let few = passed_few c.args.bytes.now c.loop-end.rest.now c.loop-end.lines c.loop-end.invariant in
    omega (arith, few)

pub returns-then-is_empty-clause-found : goal.returns-then-is_empty-clause-found
returns-then-is_empty-clause-found c =
    unmarked_by c.args.bytes.now c.loop-end.rest.now c.loop-end.lines 0 c.loop-end.lines c.loop-end.invariant (sym c.newline_in.ensures ∙ c.in_default.is) (sym c.is_mark-2.ensures ∙ c.if-is_mark-2.false)
    (ap (λ t. cond t 0 1) (sym c.if-is_empty.true ∙ c.is_empty.ensures)) (omega arith)

pub returns-clause-few : goal.returns-clause-few
returns-clause-few c =
    let few = passed_few c.args.bytes.now c.loop-end.rest.now c.loop-end.lines c.loop-end.invariant in
    let some = (one_of c.is_empty.result (length c.loop-end.rest.now) c.is_empty.ensures c.if-is_empty.false).0 in
    omega (arith, few, some)

pub returns-clause-found : goal.returns-clause-found
returns-clause-found c =
    unmarked_by c.args.bytes.now c.loop-end.rest.now c.loop-end.lines 1 (c.loop-end.lines + 1) c.loop-end.invariant (sym c.newline_in.ensures ∙ c.in_default.is) (sym c.is_mark-2.ensures ∙ c.if-is_mark-2.false)
    (one_of c.is_empty.result (length c.loop-end.rest.now) c.is_empty.ensures c.if-is_empty.false).1 refl
