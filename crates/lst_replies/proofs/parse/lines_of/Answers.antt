use Rattle.std.proofs.Common.{◌≡◌, ℕ, ◌-◌, List, true, false, take, length, sym, ap, ◌∙◌, Bor}
use Rattle.lst_replies.specs.ReportTexts.{ends_empty}
use Rattle.std.specs.List.{slice_split}
use Rattle.lst_replies.specs.ReportTexts.{is_newline}
use Rattle.lst_replies.specs.Reading.{texts}
use Rattle.lst_replies.proofs.Fronts.{lines-stay, lines-go}
use Rattle.lst_replies.proofs.parse.lines_of.Goals as goal
use Rattle.lst_replies.proofs.parse.lines_of.Goals.{then-ends_empty, else-ends_empty}

pub returns : goal.returns
returns c = elim c.if-ends_empty.branch [
  | then-ends_empty w ↦
      let some : ends_empty (texts c.in_ok-lines.lines.items) ≡ true = ap (λ (xs : List (Bor (List ℕ))). ends_empty (texts xs)) (sym c.deref.ensures.value) ∙ sym c.ends_empty.ensures ∙ w.if-ends_empty.true in
      let same : c.if-ends_empty.lines.items ≡ take (length c.in_ok-lines.lines.items - 1) c.in_ok-lines.lines.items = ap (λ v. v.items) w.lines-is ∙ w.pop.ensures.rest ∙ ap (λ n. take (n - 1) c.in_ok-lines.lines.items) (c.in_ok-lines.lines.ok.0) in
      ap (λ (xs : List (Bor (List ℕ))). texts xs) same ∙ lines-go (slice_split is_newline c.args.text.now) c.in_ok-lines.lines.items c.in_ok-lines.ensures some
  | else-ends_empty w ↦
      let none : ends_empty (texts c.in_ok-lines.lines.items) ≡ false = ap (λ (xs : List (Bor (List ℕ))). ends_empty (texts xs)) (sym c.deref.ensures.value) ∙ sym c.ends_empty.ensures ∙ w.if-ends_empty.false in
      ap (λ v. texts v.items) w.lines-is ∙ lines-stay (slice_split is_newline c.args.text.now) c.in_ok-lines.lines.items c.in_ok-lines.ensures none
]
