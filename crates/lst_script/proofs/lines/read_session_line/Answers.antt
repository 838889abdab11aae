use Rattle.std.proofs.Common.{◌≡◌, ℕ, List, ◌∷◌, Some, option_map, Bor, sym, ap, ◌∙◌}
use Rattle.lst_script.specs.Texts.{texts}
use Rattle.lst_script.specs.Table.{session_forms, form_named}
use Rattle.lst_script.specs.Heads.{columns_of}
use Rattle.lst_script.specs.Verbs.{form_of_verb}
use Rattle.std.proofs.lemmas.List.{length-map}
use Rattle.lst_script.proofs.Exits.{call_fault, call_line}
use Rattle.lst_script.proofs.TwoWords.{session_fault, no_name, unknown_name}
use Rattle.lst_script.proofs.lines.read_session_line.Goals as goal

pub returns-in_err-call : goal.returns-in_err-call
returns-in_err-call c =
    let limits = c.args.limits.now in
    let columns = columns_of c.args.heads in
    let whole : texts c.args.rest.now ≡ c.in-Some.name.now.now ∷ texts c.in-Some.arguments.now = ap (λ (slices : List (Bor (List ℕ))). texts slices) c.in-Some.ensures.cases.0 in
    let named : form_named session_forms c.in-Some.name.now.now ≡ Some (form_of_verb c.in-Some-verb_of.verb) = sym c.verb_of.ensures ∙ ap (option_map form_of_verb) c.in-Some-verb_of.is in
    let number = c.in_ok-session.ensures in
    rw whole (call_fault limits columns c.args.first.now c.in_ok-session.session c.in-Some.name.now.now (texts c.in-Some.arguments.now) (form_of_verb c.in-Some-verb_of.verb) c.in_err-call.field-0.0 c.from_residual-in_err-call.result c.requires.digit number.0 number.1 named c.from_residual-in_err-call.ensures.1 (c.in_err-call.ensures limits))

pub returns : goal.returns
returns c =
    let limits = c.args.limits.now in
    let columns = columns_of c.args.heads in
    let whole : texts c.args.rest.now ≡ c.in-Some.name.now.now ∷ texts c.in-Some.arguments.now = ap (λ (slices : List (Bor (List ℕ))). texts slices) c.in-Some.ensures.cases.0 in
    let named : form_named session_forms c.in-Some.name.now.now ≡ Some (form_of_verb c.in-Some-verb_of.verb) = sym c.verb_of.ensures ∙ ap (option_map form_of_verb) c.in-Some-verb_of.is in
    let number = c.in_ok-session.ensures in
    rw whole (call_line limits columns c.args.first.now c.in_ok-session.session c.in-Some.name.now.now (texts c.in-Some.arguments.now) (form_of_verb c.in-Some-verb_of.verb) c.in_ok-call.call number.0 number.1 named (c.in_ok-call.ensures limits))

pub returns-in_err-session : goal.returns-in_err-session
returns-in_err-session c = session_fault c.args.limits.now (columns_of c.args.heads) c.args.first.now c.requires.digit (texts c.args.rest.now) c.in_err-session.field-0.0 c.from_residual.result c.from_residual.ensures.1 c.in_err-session.ensures

pub returns-in_default : goal.returns-in_default
returns-in_default c =
    let number = c.in_ok-session.ensures in
    no_name c.args.limits.now (columns_of c.args.heads) c.args.first.now c.requires.digit c.in_ok-session.session number.0 number.1 (texts c.args.rest.now) (length-map c.args.rest.now (λ (slice : Bor (List ℕ)). slice.now) ∙ c.in_default.ensures.cases)

pub returns-in_default-verb_of : goal.returns-in_default-verb_of
returns-in_default-verb_of c =
    let whole : texts c.args.rest.now ≡ c.in-Some.name.now.now ∷ texts c.in-Some.arguments.now = ap (λ (slices : List (Bor (List ℕ))). texts slices) c.in-Some.ensures.cases.0 in
    let number = c.in_ok-session.ensures in
    rw whole (unknown_name c.args.limits.now (columns_of c.args.heads) c.args.first.now c.requires.digit c.in_ok-session.session number.0 number.1 c.in-Some.name.now.now (texts c.in-Some.arguments.now) (sym c.verb_of.ensures ∙ ap (option_map form_of_verb) c.in_default-verb_of.is))
