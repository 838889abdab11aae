-- The lines that insert the rows of records, and the script that they are a part of.
use Rattle.std.proofs.Common.{◌≡◌, ℕ, List, [], ◌∷◌, ◌++◌, Some, None, drop, map, codes, decimal, refl, sym, ap, ◌∙◌, append_assoc, arith}
use Rattle.std.proofs.lemmas.Fmt.{decimal_digit}
use Rattle.std.proofs.lemmas.Grind.{flat_map-append}
use Rattle.std.proofs.lemmas.List.{append-nil}
use Rattle.lst_model.specs.Cells.{Cell}
use Rattle.lst_model.specs.declared.lines.Line.{Line}
use Rattle.lst_model.specs.declared.lines.Line.TheVariants as lines
use Rattle.lst_model.specs.declared.lines.Call.TheVariants.{Begin, Commit}
use Rattle.lst_script.specs.Canonical.{behind_spaces, canonical_line, cell_pairs, header_line, lines_text, named_text}
use Rattle.lst_script.specs.Columns.{named}
use Rattle.lst_csv.specs.Importing.{cells_text, head_of, insert_of, record_line, records_lines, transaction_of}
use Rattle.lst_csv.specs.Tables.{cell_at, key_of, row_of_record}

zero_is : decimal 0 ≡ 48 ∷ []
zero_is = decimal_digit 0 (omega arith)

-- cells behind their heads are pairs behind spaces
cells_are : (names : List (List ℕ)) (row : List Cell) → cells_text (map head_of names) row ≡ behind_spaces (cell_pairs names row)
cells_are [] row = refl
cells_are (name ∷ names) [] = refl
cells_are (name ∷ names) (None ∷ row) = cells_are names row
cells_are (name ∷ names) (Some number ∷ row) = λ j. (32 ∷ append_assoc name (61 ∷ []) (decimal number) j) ++ cells_are names row j

module _ (names : List (List ℕ)) where
  -- the line is the call, the key and the pairs
  line_is : (fields : List (List ℕ)) → record_line (map head_of names) fields ≡ canonical_line (named names) (insert_of (row_of_record fields)) ++ (10 ∷ [])
  line_is fields =
      let key = decimal (key_of fields) in
      let row = map cell_at (drop 1 fields) in
      let pairs = behind_spaces (cell_pairs names row) in
      ap (λ (cells : List ℕ). codes "0 insert " ++ (key ++ (cells ++ (10 ∷ [])))) (cells_are names row)
      ∙ ap (λ (text : List ℕ). codes "0 insert " ++ text) (sym (append_assoc key pairs (10 ∷ [])))
      ∙ ap (λ (zero : List ℕ). (zero ++ (codes " insert " ++ (key ++ pairs))) ++ (10 ∷ [])) (sym zero_is)

  lines_are : (records : List (List (List ℕ))) → records_lines (map head_of names) records ≡ lines_text (named names) (map insert_of (map row_of_record records))
  lines_are [] = refl
  lines_are (fields ∷ records) = λ j. line_is fields j ++ lines_are records j

  -- the line that begins, those of the records, and the one that commits
  pub whole_script : (heads : List (List ℕ)) (records : List (List (List ℕ))) (front behind after text : List ℕ) → heads ≡ map head_of names → front ≡ named_text names (lines.Call 0 Begin ∷ [])
      → behind ≡ front ++ records_lines heads records → after ≡ behind ++ codes "0 commit\n" → text ≡ after → text ≡ named_text names (transaction_of (map row_of_record records))
  whole_script heads records front behind after text same begins inserts commits told =
      let rows = map row_of_record records in
      let first = canonical_line (named names) (lines.Call 0 Begin) ++ (10 ∷ []) in
      let middle = lines_text (named names) (map insert_of rows) in
      let last = codes "0 commit\n" in
      let head = header_line names in
      let ends : middle ++ last ≡ lines_text (named names) (map insert_of rows ++ (lines.Call 0 Commit ∷ [])) =
      ap (λ (zero : List ℕ). middle ++ (((zero ++ codes " commit") ++ (10 ∷ [])) ++ [])) (sym zero_is)
      ∙ sym (flat_map-append (λ (line : Line). canonical_line (named names) line ++ 10 ∷ []) (map insert_of rows) (lines.Call 0 Commit ∷ [])) in
      told
      ∙ commits
      ∙ ap (λ (t : List ℕ). t ++ last) (inserts ∙ ap (λ (t : List ℕ). front ++ t) (ap (λ (hs : List (List ℕ)). records_lines hs records) same ∙ lines_are records))
      ∙ append_assoc front middle last
      ∙ ap (λ (t : List ℕ). t ++ (middle ++ last)) begins
      ∙ append_assoc head (10 ∷ (first ++ [])) (middle ++ last)
      ∙ ap (λ (t : List ℕ). head ++ (10 ∷ (t ++ (middle ++ last)))) (append-nil first)
      ∙ ap (λ (t : List ℕ). head ++ (10 ∷ (first ++ t))) ends
