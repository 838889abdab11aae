use Rattle.std.proofs.Common.{◌++◌, ◌∷◌, [], ◌∙◌, ◌-◌, List, ℕ, set, ap, sym, subst, arith}
use Rattle.lst_log.specs.Format.{IsBatchOf}
use Rattle.lst_log.proofs.Crashes.{batch_of_one, batch_more}
use Rattle.lst_log.proofs.write.push_next.Goals as goal

pub returns-then-before-eq0-clause-batch : goal.returns-then-before-eq0-clause-batch
returns-then-before-eq0-clause-batch c = λ commits is.
    let old = c.args.batch.now.items in
    let all = c.in_ok-extend_from_slice.ensures.items ∙ ap (λ (bytes : List ℕ). old ++ bytes) (c.as_slice.ensures.value ∙ c.in_ok-piece.ensures) in
    subst (IsBatchOf c.args.columns (commits ++ c.args.commit.now ∷ [])) (sym all) (batch_of_one c.args.columns commits c.args.commit.now old c.requires.record is (omega arith))

pub returns-clause-batch : goal.returns-clause-batch
returns-clause-batch c = λ commits is.
    let old = c.args.batch.now.items in
    let n : ℕ = c.len-before.result - 1 in
    let all = c.in_ok-extend_from_slice.ensures.items ∙ ap (λ (bytes : List ℕ). old ++ bytes) (c.as_slice.ensures.value ∙ c.in_ok-piece.ensures) in
    subst (λ (bytes : List ℕ). IsBatchOf c.args.columns (commits ++ c.args.commit.now ∷ []) (set bytes n 1)) (sym all) (batch_more c.args.columns commits c.args.commit.now old n c.requires.record is (omega arith))
