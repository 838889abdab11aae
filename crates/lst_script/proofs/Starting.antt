-- The lines of a text that are skipped before its first other line.
use Rattle.std.proofs.Common.{◌≡◌, ℕ, ◌+◌, ◌<◌, ◌≤◌, Bool, true, false, List, [], ◌∷◌, ◌++◌, length, Some, refl, sym, ap, subst, ◌∙◌, append_assoc, arith}
use Rattle.std.specs.List.{AllByRecursion}
use Rattle.std.proofs.lemmas.List.{length_push}
use Rattle.lst_layout.specs.declared.limits.Limits.{Limits}
use Rattle.lst_script.specs.declared.faults.FaultKind.TheVariants.{LineTooLong}
use Rattle.lst_script.specs.Texts.{text_lines, line_words}
use Rattle.lst_script.specs.Faults.{is_skipped}
use Rattle.lst_script.specs.Headers.{opens_version}
use Rattle.lst_script.specs.Scripts.{first_faulty, text_fault}
use Rattle.lst_script.specs.Reading.{IsPassed, IsStart}
use Rattle.lst_script.proofs.Versions.{faulty_behind, long_first}

pub record IsPassing (text rest : List ℕ) (number : ℕ) : Type 0 where
  pub before : List (List ℕ)
  pub parts : text_lines text ≡ before ++ text_lines rest
  pub counted : length before ≡ number
  pub passed : AllByRecursion IsPassed before
  pub few : number + length rest ≤ length text

pub begin : (text : List ℕ) → IsPassing text text 0
begin text = record { before = []; parts = refl; counted = refl; passed = tt; few = omega arith }

one_more_passed : (before : List (List ℕ)) (line : List ℕ) → AllByRecursion IsPassed before → IsPassed line → AllByRecursion IsPassed (before ++ line ∷ [])
one_more_passed [] line all one = (one, tt)
one_more_passed (first ∷ before) line all one = (all.0, one_more_passed before line all.1 one)

module _ (text rest : List ℕ) (number : ℕ) (at : IsPassing text rest number) where
  module _ (line after : List ℕ) (first : text_lines rest ≡ line ∷ text_lines after) where
    pub pass : length after < length rest → length line ≤ 1024 → is_skipped (line_words line) ≡ true → IsPassing text after (number + 1)
    pass shorter short skipped = record {
      before = at.before ++ line ∷ [];
      parts = at.parts ∙ (ap (λ (xs : List (List ℕ)). at.before ++ xs) first ∙ sym (append_assoc at.before (line ∷ []) (text_lines after)));
      counted = length_push at.before line ∙ ap (λ n. n + 1) at.counted;
      passed = one_more_passed at.before line at.passed (record { short = short; skipped = skipped });
      few = omega (arith, at.few, shorter);
    }

    pub too_long : (limits : Limits) → 1024 < length line → text_fault limits text ≡ Some (number + 1, LineTooLong)
    too_long limits long =
        ap (first_faulty limits 1) (at.parts ∙ ap (λ (xs : List (List ℕ)). at.before ++ xs) first)
        ∙ (faulty_behind limits 1 at.before (line ∷ text_lines after) at.passed
        ∙ (ap (λ n. first_faulty limits n (line ∷ text_lines after)) (omega (arith, at.counted)) ∙ long_first limits (number + 1) line (text_lines after) long))

    pub stop : (is_header : Bool) → length after < length rest → length line ≤ 1024 → is_skipped (line_words line) ≡ false → opens_version (line_words line) ≡ is_header → IsStart text rest number is_header
    stop is_header shorter short read opens = record {
      before = at.before;
      parts = at.parts;
      counted = at.counted;
      passed = at.passed;
      few = at.few;
      opens = λ heads. omega (arith, shorter);
      first = λ other lines e.
          let whole : line ∷ text_lines after ≡ other ∷ lines = sym first ∙ e in
          let same : line ≡ other = cc in
          subst (λ (l : List ℕ). (length l ≤ 1024) × (is_skipped (line_words l) ≡ false) × (opens_version (line_words l) ≡ is_header)) same (short, read, opens);
    }

  pub nothing_left : rest ≡ [] → IsStart text rest number false
  nothing_left none = record {
    before = at.before;
    parts = at.parts;
    counted = at.counted;
    passed = at.passed;
    few = at.few;
    opens = λ heads. absurd cc;
    first = λ other lines e.
        let no : [] ≡ other ∷ lines = ap text_lines (sym none) ∙ e in
        absurd cc;
  }
