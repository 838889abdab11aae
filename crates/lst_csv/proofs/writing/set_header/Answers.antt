use Rattle.std.proofs.Common.{◌≡◌, ℕ, List, [], ◌∷◌, ◌++◌, codes, get_or, ap, sym, ◌∙◌, rules}
use Rattle.std.proofs.lemmas.List.{take_all, take_more}
use Rattle.lst_csv.proofs.writing.set_header.Goals as goal

pub loop-name-preserved : goal.loop-name-preserved
loop-name-preserved c =
    let names : List (List ℕ) = c.args.names.now in
    let i : ℕ = c.loop-name.name-index in
    let name : List ℕ = c.as_bytes.result.now in
    let is : name ≡ get_or names i name = search rules in
    let more = take_more names i name c.loop-name-test.true in (
      c.in_ok-push_field-2.ensures.fields ∙ (λ j. c.loop-name.invariant.0 j ++ ((c.loop-name.invariant.1 j ++ is j) ∷ [])) ∙ ap (λ (xs : List (List ℕ)). codes "key" ∷ xs) (sym more),
      c.in_ok-push_field-2.ensures.partial,
    )

pub returns : goal.returns
returns c = c.loop-name.invariant.0 ∙ ap (λ (names : List (List ℕ)). codes "key" ∷ names) (take_all c.loop-name.name-index c.args.names.now c.loop-name-test.false)
