use Rattle.std.proofs.Common.{◌≡◌, ℕ, List, ◌∷◌, Bor, codes, ap, subst, ◌∙◌}
use Rattle.lst_script.specs.Texts.{texts, line_words}
use Rattle.lst_script.specs.Headers.{IsHeader}
use Rattle.lst_script.specs.declared.faults.ScriptFault.TheVariants as faults
use Rattle.lst_script.specs.Scripts.{IsNamed, Explains}
use Rattle.std.proofs.lemmas.Result.{IfOk-from_err}
use Rattle.lst_script.proofs.PairFronts.{header_proper}
use Rattle.lst_script.proofs.Versions.{err_is, start_numbered, start_numbered_faulty, start_header, start_header_faulty, start_header_answer, start_words}
use Rattle.lst_script.proofs.parsing.read_text.Goals as goal

pub returns-in_err-start-clause-fault : goal.returns-in_err-start-clause-fault
returns-in_err-start-clause-fault c = err_is (Explains c.args.limits.now c.args.bytes.now) c.from_residual.result c.in_err-start.field-0.0 c.from_residual.ensures.1 (c.in_err-start.ensures.fault c.args.limits.now)

pub returns-in_err-script-clause-fault : goal.returns-in_err-script-clause-fault
returns-in_err-script-clause-fault c =
    let start = c.in_ok-start.start in
    err_is (Explains c.args.limits.now c.args.bytes.now) c.from_residual-in_err-script.result c.in_err-script.field-0.0 c.from_residual-in_err-script.ensures.1
    (start_numbered_faulty c.args.limits.now c.args.bytes.now start.rest.now start.before start.is_header c.in_ok-start.ensures.ok c.if-not-start.true c.in_err-script.field-0.0 c.in_err-script.ensures.fault)

pub returns-then-not-start-clause-ok : goal.returns-then-not-start-clause-ok
returns-then-not-start-clause-ok c =
    let start = c.in_ok-start.start in
    rw c.in_ok-names.ensures (start_numbered c.args.limits.now c.args.bytes.now start.rest.now start.before start.is_header c.in_ok-start.ensures.ok c.if-not-start.true c.in_ok-script.script c.in_ok-script.ensures.ok)

pub returns-in_err-names-2-clause-fault : goal.returns-in_err-names-2-clause-fault
returns-in_err-names-2-clause-fault c =
    let start = c.in_ok-start.start in
    let line = c.split_line.result.0.now in
    let after = c.split_line.result.1.now in
    let words : texts c.deref.result.now ≡ line_words line = ap (λ (slices : List (Bor (List ℕ))). texts slices) c.deref.ensures.value ∙ c.in_ok-split_words.ensures in
    let heads : codes "version" ∷ texts c.behind_first.result.now ≡ line_words line = ap (λ (ws : List (List ℕ)). codes "version" ∷ ws) c.behind_first.ensures ∙ start_words c.args.limits.now c.args.bytes.now start.rest.now start.before start.is_header c.in_ok-start.ensures.ok c.if-not-start.false line after c.split_line.ensures.lines (texts c.deref.result.now) words in
    err_is (Explains c.args.limits.now c.args.bytes.now) c.from_residual-in_err-names-2.result c.in_err-names-2.field-0.0 c.from_residual-in_err-names-2.ensures.1
    (start_header_answer c.args.limits.now c.args.bytes.now start.rest.now start.before start.is_header c.in_ok-start.ensures.ok c.if-not-start.false line after c.split_line.ensures.lines (codes "version" ∷ texts c.behind_first.result.now) heads c.in_err-names-2.field-0.0 c.in_err-names-2.ensures)

pub returns-in_err-script-2-clause-fault : goal.returns-in_err-script-2-clause-fault
returns-in_err-script-2-clause-fault c =
    let start = c.in_ok-start.start in
    let line = c.split_line.result.0.now in
    let after = c.split_line.result.1.now in
    let words : texts c.deref.result.now ≡ line_words line = ap (λ (slices : List (Bor (List ℕ))). texts slices) c.deref.ensures.value ∙ c.in_ok-split_words.ensures in
    let heads : codes "version" ∷ texts c.behind_first.result.now ≡ line_words line = ap (λ (ws : List (List ℕ)). codes "version" ∷ ws) c.behind_first.ensures ∙ start_words c.args.limits.now c.args.bytes.now start.rest.now start.before start.is_header c.in_ok-start.ensures.ok c.if-not-start.false line after c.split_line.ensures.lines (texts c.deref.result.now) words in
    let is : IsHeader c.args.limits.now.columns (line_words line) c.in_ok-names-2.names = subst (λ (ws : List (List ℕ)). IsHeader c.args.limits.now.columns ws c.in_ok-names-2.names) heads c.in_ok-names-2.ensures in
    err_is (Explains c.args.limits.now c.args.bytes.now) c.from_residual-in_err-script-2.result c.in_err-script-2.field-0.0 c.from_residual-in_err-script-2.ensures.1
    (start_header_faulty c.args.limits.now c.args.bytes.now start.rest.now start.before start.is_header c.in_ok-start.ensures.ok c.if-not-start.false line after c.split_line.ensures.lines c.in_ok-names-2.names is c.in_err-script-2.field-0.0 (rw (← c.items.ensures) c.in_err-script-2.ensures.fault))

pub returns-clause-ok : goal.returns-clause-ok
returns-clause-ok c =
    let start = c.in_ok-start.start in
    let line = c.split_line.result.0.now in
    let after = c.split_line.result.1.now in
    let words : texts c.deref.result.now ≡ line_words line = ap (λ (slices : List (Bor (List ℕ))). texts slices) c.deref.ensures.value ∙ c.in_ok-split_words.ensures in
    let heads : codes "version" ∷ texts c.behind_first.result.now ≡ line_words line = ap (λ (ws : List (List ℕ)). codes "version" ∷ ws) c.behind_first.ensures ∙ start_words c.args.limits.now c.args.bytes.now start.rest.now start.before start.is_header c.in_ok-start.ensures.ok c.if-not-start.false line after c.split_line.ensures.lines (texts c.deref.result.now) words in
    let is : IsHeader c.args.limits.now.columns (line_words line) c.in_ok-names-2.names = subst (λ (ws : List (List ℕ)). IsHeader c.args.limits.now.columns ws c.in_ok-names-2.names) heads c.in_ok-names-2.ensures in
    start_header c.args.limits.now c.args.bytes.now start.rest.now start.before start.is_header c.in_ok-start.ensures.ok c.if-not-start.false line after c.split_line.ensures.lines c.in_ok-names-2.names c.in_ok-script-2.script is (rw (← c.items.ensures) c.in_ok-script-2.ensures.ok)

pub read_lines-requires-2-clause-proper : goal.read_lines-requires-2-clause-proper
read_lines-requires-2-clause-proper c = rw c.items.ensures (header_proper _ _ c.in_ok-names-2.names c.in_ok-names-2.ensures)

pub returns-in_err-start-clause-ok : goal.returns-in_err-start-clause-ok
returns-in_err-start-clause-ok c = IfOk-from_err c.from_residual.result (IsNamed c.args.limits.now c.args.bytes.now) c.from_residual.ensures.0

pub returns-in_err-script-clause-ok : goal.returns-in_err-script-clause-ok
returns-in_err-script-clause-ok c = IfOk-from_err c.from_residual-in_err-script.result (IsNamed c.args.limits.now c.args.bytes.now) c.from_residual-in_err-script.ensures.0

pub returns-in_err-names-clause-ok : goal.returns-in_err-names-clause-ok
returns-in_err-names-clause-ok c = IfOk-from_err c.from_residual-in_err-names.result (IsNamed c.args.limits.now c.args.bytes.now) c.from_residual-in_err-names.ensures.0

pub returns-in_err-split_words-clause-ok : goal.returns-in_err-split_words-clause-ok
returns-in_err-split_words-clause-ok c = IfOk-from_err c.from_residual-in_err-split_words.result (IsNamed c.args.limits.now c.args.bytes.now) c.from_residual-in_err-split_words.ensures.0

pub returns-in_err-names-2-clause-ok : goal.returns-in_err-names-2-clause-ok
returns-in_err-names-2-clause-ok c = IfOk-from_err c.from_residual-in_err-names-2.result (IsNamed c.args.limits.now c.args.bytes.now) c.from_residual-in_err-names-2.ensures.0

pub returns-in_err-script-2-clause-ok : goal.returns-in_err-script-2-clause-ok
returns-in_err-script-2-clause-ok c = IfOk-from_err c.from_residual-in_err-script-2.result (IsNamed c.args.limits.now c.args.bytes.now) c.from_residual-in_err-script-2.ensures.0

pub returns-in_err-names-clause-fault : goal.returns-in_err-names-clause-fault
returns-in_err-names-clause-fault c = err_is (Explains c.args.limits.now c.args.bytes.now) c.from_residual-in_err-names.result faults.OutOfMemory c.from_residual-in_err-names.ensures.1 tt

pub returns-in_err-split_words-clause-fault : goal.returns-in_err-split_words-clause-fault
returns-in_err-split_words-clause-fault c = err_is (Explains c.args.limits.now c.args.bytes.now) c.from_residual-in_err-split_words.result faults.OutOfMemory c.from_residual-in_err-split_words.ensures.1 tt

pub returns-then-not-start-clause-fault : goal.returns-then-not-start-clause-fault
returns-then-not-start-clause-fault c = tt

pub returns-clause-fault : goal.returns-clause-fault
returns-clause-fault c = tt
