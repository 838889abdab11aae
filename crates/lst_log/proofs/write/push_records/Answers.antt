use Rattle.std.proofs.Common.{◌≡◌, ◌++◌, ◌∷◌, ◌∙◌, ◌+◌, ℕ, List, ap, refl, sym, drop, append_assoc}
use Rattle.std.proofs.lemmas.List.{append-nil, drop_all, drop_more}
use Rattle.lst_model.specs.declared.commits.Commit.{Commit}
use Rattle.lst_log.specs.Format.{journal, record_of}
use Rattle.lst_log.proofs.write.push_records.Goals as goal

pub loop-commit-preserved : goal.loop-commit-preserved
loop-commit-preserved c =
    let i : ℕ = c.loop-commit.commit-index in
    let cs : List Commit = c.args.commits.now in
    let one : Commit = c.commit-item.result in
    let columns : ℕ = c.args.columns in
    let more : drop i cs ≡ one ∷ drop (i + 1) cs = drop_more cs i one c.loop-commit-test.true ∙ ap (λ (x : Commit). x ∷ drop (i + 1) cs) (sym c.commit-item.is) in
    ap (λ (t : List ℕ). t ++ journal columns (drop (i + 1) cs)) c.in_ok-push_record.ensures ∙ append_assoc c.loop-commit.text.items (record_of columns one) (journal columns (drop (i + 1) cs))
    ∙ ap (λ (xs : List Commit). c.loop-commit.text.items ++ journal columns xs) (sym more) ∙ c.loop-commit.invariant

pub loop-commit-init : goal.loop-commit-init
loop-commit-init c = refl

pub push_record-requires-clause-columns : goal.push_record-requires-clause-columns
push_record-requires-clause-columns c = c.requires.columns

pub returns : goal.returns
returns c =
    let text : List ℕ = c.loop-commit.text.items in
    let columns : ℕ = c.args.columns in
    sym (append-nil text) ∙ ap (λ (xs : List Commit). text ++ journal columns xs) (sym (drop_all c.loop-commit.commit-index c.args.commits.now c.loop-commit-test.false)) ∙ c.loop-commit.invariant
