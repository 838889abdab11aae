-- Lines cut off one by one until one is the word `report`.
use Rattle.std.proofs.Common.{◌≡◌, ℕ, suc, ◌+◌, ◌-◌, ◌<◌, ◌≤◌, Bool, true, false, not, ◌||◌, cond, eqb, List, [], ◌∷◌, ◌++◌, length, map, take, drop, Some, None, refl, sym, ap, ◌∙◌, append_assoc, arith}
use Rattle.std.specs.Prelude.{All, position, take_while}
use Rattle.std.specs.List.{AllByRecursion, list_any, slice_split, position_or_len}
use Rattle.std.specs.Str.Lines.{strip_carriage_return}
use Rattle.std.proofs.lemmas.Bool.{or_left, or_right, or_parts, ltb-true, ltb-false, ne_eqb}
use Rattle.std.proofs.lemmas.List.{append-nil, length-append, length_push, length-map, map-append, length-take, length-take-le, drop_all, get_or-take}
use Rattle.std.proofs.lemmas.List.Elements.{All-head, All-tail}
use Rattle.std.proofs.lemmas.List.Folds.{list_any-append}
use Rattle.std.proofs.lemmas.List.Splits.{slice_split_at, length-slice_split}
use Rattle.std.proofs.lemmas.List.Sums.{fails_before_first, take_while-cons}
use Rattle.std.proofs.lemmas.Option.{cond_some}
use Rattle.std.proofs.Math.Seq.{take-append_seam, drop-append_seam}
use Rattle.lst_script.specs.Texts.{is_newline, without_empty_end, text_lines}
use Rattle.lst_script.specs.Laws.{text_of}
use Rattle.lst_script.proofs.Parts.{front_stays, text_lines-last}
use Rattle.lst_replies.proofs.Joined.{position-splits}
use Rattle.lst_report.specs.declared.claims.Mark.{Mark}
use Rattle.lst_report.specs.Claims.{is_mark, has_mark, script_lines, behind_line, behind_lines, IsMarkAt, IsUnmarked}

-- ---- lines without newlines

abbrev pub IsFree : List ℕ → Type 0
IsFree line = All (λ byte. is_newline byte ≡ false) line

abbrev pub AreFree : List (List ℕ) → Type 0
AreFree lines = AllByRecursion IsFree lines

abbrev pub stripped : List (List ℕ) → List (List ℕ)
stripped lines = map strip_carriage_return lines

free_more : (lines : List (List ℕ)) (line : List ℕ) → AreFree lines → IsFree line → AreFree (lines ++ line ∷ [])
free_more [] line free one = (one, tt)
free_more (first ∷ lines) line free one = (free.0, free_more lines line free.1 one)

text_more : (lines : List (List ℕ)) (line : List ℕ) → text_of (lines ++ line ∷ []) ≡ text_of lines ++ (line ++ 10 ∷ [])
text_more [] line = append-nil (line ++ 10 ∷ [])
text_more (first ∷ lines) line = ap (λ text. (first ++ 10 ∷ []) ++ text) (text_more lines line) ∙ sym (append_assoc (first ++ 10 ∷ []) (text_of lines) (line ++ 10 ∷ []))

first_line : (line : List ℕ) (lines : List (List ℕ)) (rest : List ℕ) → text_of (line ∷ lines) ++ rest ≡ line ++ 10 ∷ (text_of lines ++ rest)
first_line line lines rest = append_assoc (line ++ 10 ∷ []) (text_of lines) rest ∙ append_assoc line (10 ∷ []) (text_of lines ++ rest)

-- a text's lines are those in front, and those of the rest
lines_joined : (lines : List (List ℕ)) (rest : List ℕ) → AreFree lines → text_lines (text_of lines ++ rest) ≡ stripped lines ++ text_lines rest
lines_joined [] rest free = refl
lines_joined (line ∷ lines) rest free =
    let behind = text_of lines ++ rest in
    let parts : slice_split is_newline (text_of (line ∷ lines) ++ rest) ≡ line ∷ slice_split is_newline behind = ap (slice_split is_newline) (first_line line lines rest) ∙ slice_split_at is_newline line 10 behind free.0 refl in
    ap (λ (ps : List (List ℕ)). map strip_carriage_return (without_empty_end ps)) parts
    ∙ ap (λ (ps : List (List ℕ)). map strip_carriage_return ps) (front_stays line (slice_split is_newline behind) (omega (arith, length-slice_split is_newline behind)))
    ∙ ap (λ (ls : List (List ℕ)). strip_carriage_return line ∷ ls) (lines_joined lines rest free.1)

pub lines_whole : (lines : List (List ℕ)) → AreFree lines → text_lines (text_of lines) ≡ stripped lines
lines_whole lines free = ap (λ text. text_lines text) (sym (append-nil (text_of lines))) ∙ lines_joined lines [] free ∙ append-nil (stripped lines)

-- ---- what stands behind lines

behind_first : (line text : List ℕ) → IsFree line → behind_line (line ++ 10 ∷ text) ≡ text
behind_first [] text free = refl
behind_first (byte ∷ line) text free =
    ap (λ b. cond b (line ++ 10 ∷ text) (behind_line (line ++ 10 ∷ text))) (All-head (λ c. is_newline c ≡ false) byte line free)
    ∙ behind_first line text (All-tail (λ c. is_newline c ≡ false) byte line free)

behind_none : (line : List ℕ) → IsFree line → behind_line line ≡ []
behind_none [] free = refl
behind_none (byte ∷ line) free =
    ap (λ b. cond b line (behind_line line)) (All-head (λ c. is_newline c ≡ false) byte line free)
    ∙ behind_none line (All-tail (λ c. is_newline c ≡ false) byte line free)

behind_joined : (lines : List (List ℕ)) (rest : List ℕ) (count : ℕ) → AreFree lines → behind_lines (length lines + count) (text_of lines ++ rest) ≡ behind_lines count rest
behind_joined [] rest count free = let none : length {A = List ℕ} [] + count ≡ count = omega arith in ap (λ n. behind_lines n rest) none
behind_joined (line ∷ lines) rest count free =
    let one : length (line ∷ lines) + count ≡ suc (length lines + count) = omega arith in
    ap (λ n. behind_lines n (text_of (line ∷ lines) ++ rest)) one
    ∙ ap (λ text. behind_lines (length lines + count) (behind_line text)) (first_line line lines rest)
    ∙ ap (λ text. behind_lines (length lines + count) text) (behind_first line (text_of lines ++ rest) free.0)
    ∙ behind_joined lines rest count free.1

-- ---- the first line that is the word

front_unmarked : (lines : List (List ℕ)) (mark : List ℕ) (rest : List (List ℕ)) → list_any is_mark lines ≡ false → is_mark mark ≡ true → take_while (λ line. not (is_mark line)) (lines ++ mark ∷ rest) ≡ lines
front_unmarked [] mark rest none here = take_while-cons (λ line. not (is_mark line)) mark rest ∙ ap (λ b. cond (not b) (mark ∷ take_while (λ line. not (is_mark line)) rest) []) here
front_unmarked (line ∷ lines) mark rest none here =
    let parts = or_parts (is_mark line) (list_any is_mark lines) none in
    take_while-cons (λ line. not (is_mark line)) line (lines ++ mark ∷ rest)
    ∙ ap (λ b. cond (not b) (line ∷ take_while (λ line. not (is_mark line)) (lines ++ mark ∷ rest)) []) parts.0
    ∙ ap (λ ls. line ∷ ls) (front_unmarked lines mark rest parts.1 here)

pub all_unmarked : (lines : List (List ℕ)) → list_any is_mark lines ≡ false → take_while (λ line. not (is_mark line)) lines ≡ lines
all_unmarked [] none = refl
all_unmarked (line ∷ lines) none =
    let parts = or_parts (is_mark line) (list_any is_mark lines) none in
    take_while-cons (λ line. not (is_mark line)) line lines
    ∙ ap (λ b. cond (not b) (line ∷ take_while (λ line. not (is_mark line)) lines) []) parts.0
    ∙ ap (λ ls. line ∷ ls) (all_unmarked lines parts.1)

marked_there : (lines : List (List ℕ)) (mark : List ℕ) (rest : List (List ℕ)) → is_mark mark ≡ true → list_any is_mark (lines ++ mark ∷ rest) ≡ true
marked_there lines mark rest here =
    list_any-append is_mark lines (mark ∷ rest) ∙ or_right (list_any is_mark lines) (list_any is_mark (mark ∷ rest)) (or_left (is_mark mark) (list_any is_mark rest) here)

-- a text is lines without the word, the word, and a rest
record IsCut (text : List ℕ) (lines : List (List ℕ)) (mark : List ℕ) (rest : List (List ℕ)) : Type 0 where
  lines_are : text_lines text ≡ stripped lines ++ mark ∷ rest
  unmarked : list_any is_mark (stripped lines) ≡ false
  here : is_mark mark ≡ true

cut_marked : (text : List ℕ) (lines : List (List ℕ)) (mark : List ℕ) (rest : List (List ℕ)) → IsCut text lines mark rest → has_mark text ≡ true
cut_marked text lines mark rest cut = ap (λ ls. list_any is_mark ls) cut.lines_are ∙ marked_there (stripped lines) mark rest cut.here

cut_script : (text : List ℕ) (lines : List (List ℕ)) (mark : List ℕ) (rest : List (List ℕ)) → IsCut text lines mark rest → script_lines text ≡ stripped lines
cut_script text lines mark rest cut = ap (λ ls. take_while (λ line. not (is_mark line)) ls) cut.lines_are ∙ front_unmarked (stripped lines) mark rest cut.unmarked cut.here

-- each line has a newline at least
text_long : (lines : List (List ℕ)) → length lines ≤ length (text_of lines)
text_long [] = omega arith
text_long (line ∷ lines) = omega (arith, text_long lines, length-append (line ++ 10 ∷ []) (text_of lines), length-append line (10 ∷ []))

-- ---- the loop

-- what was cut off, and what is left
pub record IsPassed (text rest : List ℕ) (count : ℕ) : Type 0 where
  pub lines : List (List ℕ)
  pub parts : text ≡ text_of lines ++ rest
  pub free : AreFree lines
  pub unmarked : list_any is_mark (stripped lines) ≡ false
  pub counted : length lines ≡ count

pub passed_none : (text : List ℕ) → IsPassed text text 0
passed_none text = record { lines = []; parts = refl; free = tt; unmarked = refl; counted = refl }

-- the next line, which ends at a newline
record HasLine (rest line after : List ℕ) : Type 0 where
  parts : rest ≡ line ++ 10 ∷ after
  free : IsFree line

has_line : (rest : List ℕ) (end : ℕ) → position is_newline rest ≡ Some end → HasLine rest (take end rest) (drop (end + 1) rest)
has_line rest end found =
    let at = cond_some _ _ _ found in record {
      parts = position-splits 10 rest end found;
      free = λ k d within. ap (λ byte. is_newline byte) (get_or-take end rest k d (inside k within)) ∙ fails_before_first is_newline rest k d (omega (arith, at.1, inside k within));
    }
  where
    inside : (k : ℕ) → k < length (take end rest) → k < end
    inside k within = omega (arith, within, length-take end rest)

passed_lines : (text rest line after : List ℕ) (count : ℕ) (passed : IsPassed text rest count) → HasLine rest line after → text ≡ text_of (passed.lines ++ line ∷ []) ++ after
passed_lines text rest line after count passed next =
    passed.parts ∙ ap (λ r. text_of passed.lines ++ r) next.parts
    ∙ ap (λ r. text_of passed.lines ++ r) (sym (append_assoc line (10 ∷ []) after))
    ∙ sym (append_assoc (text_of passed.lines) (line ++ 10 ∷ []) after)
    ∙ ap (λ t. t ++ after) (sym (text_more passed.lines line))

none_more : (lines : List (List ℕ)) (line : List ℕ) → list_any is_mark (stripped lines) ≡ false → is_mark (strip_carriage_return line) ≡ false → list_any is_mark (stripped (lines ++ line ∷ [])) ≡ false
none_more lines line none other =
    ap (λ ls. list_any is_mark ls) (map-append strip_carriage_return lines (line ∷ []))
    ∙ list_any-append is_mark (stripped lines) (strip_carriage_return line ∷ [])
    ∙ ap (λ b. b || (is_mark (strip_carriage_return line) || false)) none ∙ ap (λ b. b || false) other

pub passed_more : (text rest : List ℕ) (end count : ℕ) → IsPassed text rest count → position is_newline rest ≡ Some end → is_mark (strip_carriage_return (take end rest)) ≡ false → IsPassed text (drop (end + 1) rest) (count + 1)
passed_more text rest end count passed found other =
    let next = has_line rest end found in
    record {
      lines = passed.lines ++ take end rest ∷ [];
      parts = passed_lines text rest (take end rest) (drop (end + 1) rest) count passed next;
      free = free_more passed.lines (take end rest) passed.free next.free;
      unmarked = none_more passed.lines (take end rest) passed.unmarked other;
      counted = length_push passed.lines (take end rest) ∙ omega (arith, passed.counted);
    }

-- no more lines than bytes
pub passed_few : (text rest : List ℕ) (count : ℕ) → IsPassed text rest count → count + length rest ≤ length text
passed_few text rest count passed = omega (arith, ap length passed.parts, length-append (text_of passed.lines) rest, text_long passed.lines, passed.counted)

abbrev pub mark_of : ℕ → ℕ → ℕ → Mark
mark_of lines front behind = record { lines = lines; front = front; behind = behind }

front_size : (text rest : List ℕ) (count : ℕ) (passed : IsPassed text rest count) → length text - length rest ≡ length (text_of passed.lines)
front_size text rest count passed = omega (arith, ap length passed.parts, length-append (text_of passed.lines) rest)

front_is : (text rest : List ℕ) (count : ℕ) (passed : IsPassed text rest count) → take (length text - length rest) text ≡ text_of passed.lines
front_is text rest count passed =
    ap (λ n. take n text) (front_size text rest count passed) ∙ ap (λ t. take (length (text_of passed.lines)) t) passed.parts ∙ take-append_seam (text_of passed.lines) rest

-- the next line is the word
pub mark_found : (text rest : List ℕ) (end count : ℕ) → IsPassed text rest count → position is_newline rest ≡ Some end → is_mark (strip_carriage_return (take end rest)) ≡ true
    → IsMarkAt text (mark_of count (length text - length rest) (length text - length rest + end + 1))
mark_found text rest end count passed found here =
    let line = take end rest in
    let after = drop (end + 1) rest in
    let next = has_line rest end found in
    let all = passed.lines ++ line ∷ [] in
    let whole = passed_lines text rest line after count passed next in
    let free = free_more passed.lines line passed.free next.free in
    let lines : text_lines text ≡ stripped passed.lines ++ strip_carriage_return line ∷ text_lines after =
    ap (λ t. text_lines t) whole ∙ lines_joined all after free ∙ ap (λ ls. ls ++ text_lines after) (map-append strip_carriage_return passed.lines (line ∷ []))
    ∙ append_assoc (stripped passed.lines) (strip_carriage_return line ∷ []) (text_lines after) in
    let cut : IsCut text passed.lines (strip_carriage_return line) (text_lines after) = record { lines_are = lines; unmarked = passed.unmarked; here = here } in
    let script = cut_script text passed.lines (strip_carriage_return line) (text_lines after) cut in
    let size : length (script_lines text) ≡ length passed.lines = ap length script ∙ length-map passed.lines strip_carriage_return in
    let front = front_size text rest count passed in
    let long = text_long passed.lines in
    let at = cond_some _ _ _ found in
    let within : end < length rest = omega (arith, ltb-true _ _ at.0, at.1) in
    let past : length (script_lines text) + 1 ≡ length all + 0 = omega (arith, size, length_push passed.lines line) in
    let behind : length text - length rest + end + 1 ≡ length (text_of all) =
    omega (arith, front, ap length (text_more passed.lines line), length-append (text_of passed.lines) (line ++ 10 ∷ []), length-append line (10 ∷ []), length-take-le end rest (omega arith)) in
    record {
      marked = cut_marked text passed.lines (strip_carriage_return line) (text_lines after) cut;
      script = ap (λ t. text_lines t) (front_is text rest count passed) ∙ lines_whole passed.lines passed.free ∙ sym script;
      report = ap (λ n. drop n text) behind ∙ ap (λ t. drop (length (text_of all)) t) whole ∙ drop-append_seam (text_of all) after
          ∙ sym (ap (λ n. behind_lines n text) past ∙ ap (λ t. behind_lines (length all + 0) t) whole ∙ behind_joined all after 0 free);
      counted = omega (arith, size, passed.counted);
      within = omega (arith, behind, ap length whole, length-append (text_of all) after);
      order = omega arith;
      few = omega (arith, front, long, passed.counted);
    }

-- ---- the last line, which no newline ends

rest_free : (rest : List ℕ) → position is_newline rest ≡ None → IsFree rest
rest_free rest none = λ k d within. fails_before_first is_newline rest k d (omega (arith, within, past))
  where
    not_some : (b : Bool) (n : ℕ) → cond b (Some n) None ≡ None → b ≡ false
    not_some true n e = absurd cc
    not_some false n e = refl

    past : length rest ≤ position_or_len is_newline rest
    past = ltb-false _ _ (not_some _ _ none)

some_byte : (rest : List ℕ) → is_mark (strip_carriage_return rest) ≡ true → 0 < length rest
some_byte [] here = absurd cc
some_byte (byte ∷ rest) here = omega arith

pub mark_last : (text rest : List ℕ) (count : ℕ) → IsPassed text rest count → position is_newline rest ≡ None → is_mark (strip_carriage_return rest) ≡ true
    → IsMarkAt text (mark_of count (length text - length rest) (length text))
mark_last text rest count passed none here =
    let lines : text_lines text ≡ stripped passed.lines ++ strip_carriage_return rest ∷ [] =
    ap (λ t. text_lines t) passed.parts ∙ lines_joined passed.lines rest passed.free ∙ ap (λ ls. stripped passed.lines ++ ls) (text_lines-last rest (some_byte rest here) none) in
    let cut : IsCut text passed.lines (strip_carriage_return rest) [] = record { lines_are = lines; unmarked = passed.unmarked; here = here } in
    let script = cut_script text passed.lines (strip_carriage_return rest) [] cut in
    let size : length (script_lines text) ≡ length passed.lines = ap length script ∙ length-map passed.lines strip_carriage_return in
    let front = front_size text rest count passed in
    let long = text_long passed.lines in
    record {
      marked = cut_marked text passed.lines (strip_carriage_return rest) [] cut;
      script = ap (λ t. text_lines t) (front_is text rest count passed) ∙ lines_whole passed.lines passed.free ∙ sym script;
      report = drop_all (length text) text (omega arith)
          ∙ sym (ap (λ n. behind_lines n text) (ap (λ n. n + 1) size) ∙ ap (λ t. behind_lines (length passed.lines + 1) t) passed.parts ∙ behind_joined passed.lines rest 1 passed.free ∙ behind_none rest (rest_free rest none));
      counted = omega (arith, size, passed.counted);
      within = omega arith;
      order = omega arith;
      few = omega (arith, front, long, passed.counted);
    }

last_lines : (rest : List ℕ) → position is_newline rest ≡ None → is_mark (strip_carriage_return rest) ≡ false → (list_any is_mark (text_lines rest) ≡ false) × (length (text_lines rest) ≡ cond (eqb (length rest) 0) 0 1)
last_lines [] none other = (refl, refl)
last_lines (byte ∷ rest) none other =
    let one = text_lines-last (byte ∷ rest) (omega arith) none in (
      ap (λ ls. list_any is_mark ls) one ∙ ap (λ b. b || false) other,
      ap length one ∙ sym (ap (λ b. cond b 0 1) (ne_eqb (length (byte ∷ rest)) 0 (λ none. absurd (omega (arith, none))))),
    )

pub unmarked_last : (text rest : List ℕ) (count last : ℕ) → IsPassed text rest count → position is_newline rest ≡ None → is_mark (strip_carriage_return rest) ≡ false → last ≡ cond (eqb (length rest) 0) 0 1 → IsUnmarked text (count + last)
unmarked_last text rest count last passed none other is =
    let lines : text_lines text ≡ stripped passed.lines ++ text_lines rest = ap (λ t. text_lines t) passed.parts ∙ lines_joined passed.lines rest passed.free in
    let end = last_lines rest none other in
    record {
      unmarked = ap (λ ls. list_any is_mark ls) lines ∙ list_any-append is_mark (stripped passed.lines) (text_lines rest) ∙ ap (λ b. b || list_any is_mark (text_lines rest)) passed.unmarked ∙ end.0;
      counted = omega (arith, ap length lines, length-append (stripped passed.lines) (text_lines rest), length-map passed.lines strip_carriage_return, passed.counted, end.1, is);
    }
