use Rattle.std.proofs.Common.{◌≡◌, ℕ, List, ◌∷◌, Bor, codes, sym, ap, ◌∙◌}
use Rattle.std.proofs.lemmas.Slice.Eq.{bytes_eq-Decides}
use Rattle.lst_names.specs.Names.{are_names}
use Rattle.lst_script.specs.Texts.{texts}
use Rattle.lst_script.proofs.headers.read_header.Goals as goal

pub returns : goal.returns
returns c =
    let whole : texts c.args.words.now ≡ c.in-Some.version.now.now ∷ texts c.in-Some.names.now = ap (λ (slices : List (Bor (List ℕ))). texts slices) c.in-Some.ensures.cases.0 in
    let two : c.in-Some.version.now.now ≡ codes "2" = (bytes_eq-Decides c.in-Some.version.now.now (codes "2")).0 (sym c.if-not-is_version.ensures) in
    let names : texts c.in-Some.names.now ≡ c.in_ok-found.found = sym c.in_ok-found.ensures in
    record {
      words_are = ap (λ (words : List (List ℕ)). codes "version" ∷ words) (whole ∙ (ap (λ (word : List ℕ). word ∷ texts c.in-Some.names.now) two ∙ ap (λ (words : List (List ℕ)). codes "2" ∷ words) names));
      names_are = ap (are_names c.args.columns) (sym c.items.ensures) ∙ sym c.if-not-are_names.ensures;
    }
