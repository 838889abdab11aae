-- Words that a text begins with, one after the other.
use Rattle.std.proofs.Common.{◌≡◌, ℕ, ◌+◌, ◌-◌, ◌*◌, ◌^◌, ◌<◌, ◌≤◌, Bool, true, false, ◌&&◌, leb, List, [], ◌∷◌, ◌++◌, length, take, drop, map, Option, Some, None, option_map, is_some, Bor, Result, Ok, Err, bytes_eq, refl, sym, subst, ap, ◌∙◌, append_assoc, arith}
use Rattle.std.specs.Prelude.{unwrap_or, IfOk}
use Rattle.std.specs.List.{list_all, list_any}
use Rattle.std.specs.Char.{is_ascii_digit}
use Rattle.std.specs.Str.Parse.{digits_value}
use Rattle.std.proofs.lemmas.Bool.{and_from, and_parts, le-leb, leb-true, lt-ltb, ne_eqb}
use Rattle.std.proofs.lemmas.List.{append-nil, length-take-le, take-append-drop, take_rest, length_push, map-append, take_all}
use Rattle.std.proofs.lemmas.Str.Parse.{IsDigitsTest, numerals_by_value, digits_value_short}
use Rattle.lst_layout.specs.declared.limits.Limits.{Limits}
use Rattle.lst_model.specs.Cells.{Cell}
use Rattle.lst_model.specs.declared.lines.Line.TheVariants as lines
use Rattle.lst_script.specs.Numbers.{number_of, keeps_column, cell_of, change_of}
use Rattle.lst_script.specs.Columns.{Columns, numbered}
use Rattle.lst_script.specs.Pairs.{filled}
use Rattle.lst_script.specs.Table.{session_forms, form_named}
use Rattle.lst_model.specs.declared.lines.Call.{Call}
use Rattle.lst_model.specs.declared.lines.Call.TheVariants.{Insert, Update, Sum, Find}
use Rattle.lst_model.specs.declared.lines.Line.{Line}
use Rattle.lst_script.specs.Grammar.{form_of_call, AreArguments, IsCall, IsLine}
use Rattle.lst_script.specs.Canonical.{behind_spaces, spaced}
use Rattle.lst_script.specs.Fronts.{BeginsWithNumber, GoesOnWithNumber, changed, GoesOnWithChange, BeginsWithColumn, GoesOnWith, GoesOnWithOne, BeginsWith, GoesOnWithCells, GoesOnWithChanges, GoesOnWithArguments, AddsCall, AddsLine}
use Rattle.lst_script.proofs.Digits.{AreDigits, AreDigits-more, number_of-whole}
use Rattle.lst_script.proofs.Faultless.{first_digit}

-- ---- numbers

tells_digits : IsDigitsTest (λ ds. list_all is_ascii_digit ds ≡ true)
tells_digits = record {
  empty = refl;
  parts = λ c cs all.
      let both = and_parts (is_ascii_digit c) (list_all is_ascii_digit cs) all in
      let range = and_parts (leb 48 c) (leb c 57) both.0 in
      ((leb-true 48 c range.0, leb-true c 57 range.1), both.1);
  more = λ c cs range all. and_from (is_ascii_digit c) (list_all is_ascii_digit cs) (and_from (leb 48 c) (leb c 57) (le-leb 48 c range.0) (le-leb c 57 range.1)) all;
}

-- digits so far, fewer than 19, leave room for one more
pub few_small : (text : List ℕ) (count value : ℕ) → count ≤ length text → count ≤ 18 → AreDigits (take count text) value → value < 10 ^ 18
few_small text count value within few digits =
    let short : digits_value 10 (take count text) < 10 ^ 18 = digits_value_short (numerals_by_value (λ ds. list_all is_ascii_digit ds ≡ true) tells_digits) (take count text) 18 digits.digits (omega (arith, length-take-le count text within, few)) in
    omega (arith, short, digits.value_is)

pub digit_small : (byte : ℕ) → is_ascii_digit byte ≡ true → byte - 48 ≤ 9
digit_small byte e =
    let range = and_parts (leb 48 byte) (leb byte 57) e in
    omega (arith, leb-true byte 57 range.1)

pub begins_with_digits : (text : List ℕ) (count value : ℕ) → count ≤ length text → 0 < count → count ≤ 19 → AreDigits (take count text) value → BeginsWithNumber text value (take (length text - count) (drop count text))
begins_with_digits text count value within some few digits =
    let size = length-take-le count text within in
    record {
      word = take count text;
      is_number = number_of-whole (take count text) value (omega (arith, size, some)) (omega (arith, size, few)) digits;
      parts = sym (take-append-drop count text) ∙ ap (λ (rest : List ℕ). take count text ++ rest) (sym (take_rest text count));
    }

-- one digit alone
pub one_digit : (digit : ℕ) (rest : List ℕ) → is_ascii_digit digit ≡ true → BeginsWithNumber (digit ∷ rest) (digit - 48) rest
one_digit digit rest e =
    let small = digit_small digit e in
    let none : AreDigits [] 0 = record { digits = refl; value_is = refl; fits = omega arith } in
    let one : AreDigits (digit ∷ []) (0 * 10 + (digit - 48)) = AreDigits-more (digit ∷ []) 0 0 (omega arith) e none (omega (arith, small)) in
    record {
      word = digit ∷ [];
      is_number = number_of-whole (digit ∷ []) (0 * 10 + (digit - 48)) (omega arith) (omega arith) one ∙ ap (λ (n : ℕ). Some n) (let v : 0 * 10 + (digit - 48) ≡ digit - 48 = omega arith in v);
      parts = refl;
    }

pub behind_one_space : (text rest : List ℕ) (number : ℕ) → BeginsWithNumber text number rest → GoesOnWithNumber (32 ∷ text) number rest
behind_one_space text rest number found = record { word = found.word; is_number = found.is_number; parts = ap (λ (bytes : List ℕ). 32 ∷ bytes) found.parts }

-- ---- words

-- a word that was compared byte by byte
pub word_here : (text word : List ℕ) (n : ℕ) → n ≡ length word → take n text ≡ take n word → text ≡ word ++ take (length text - n) (drop n text)
word_here text word n all same =
    sym (take-append-drop n text)
    ∙ (ap (λ (front : List ℕ). front ++ drop n text) (same ∙ take_all n word (omega arith))
    ∙ ap (λ (rest : List ℕ). word ++ rest) (sym (take_rest text n)))

-- ---- arguments

pub behind_name : (columns : Columns) (text name arguments rest : List ℕ) (call : Call) → form_named session_forms name ≡ Some (form_of_call call) → text ≡ name ++ arguments → GoesOnWithArguments columns arguments call rest → BeginsWith (λ words. IsCall columns words call) text rest
behind_name columns text name arguments rest call named parts behind = record {
  words = name ∷ behind.words;
  are = record { name = name; arguments = behind.words; words_are = refl; is_named = named; are_arguments = behind.are };
  parts = parts ∙ (ap (λ (bytes : List ℕ). name ++ bytes) behind.parts ∙ sym (append_assoc name (behind_spaces behind.words) (10 ∷ rest)));
}

-- nothing stands behind the name
pub plain_call : (columns : Columns) (text name arguments rest : List ℕ) (call : Call) → form_named session_forms name ≡ Some (form_of_call call) → AreArguments columns call [] → text ≡ name ++ arguments → arguments ≡ 10 ∷ rest → BeginsWith (λ words. IsCall columns words call) text rest
plain_call columns text name arguments rest call named none parts ended = behind_name columns text name arguments rest call named parts (record { words = []; are = none; parts = ended })

-- one number does
alone_parts : (text after rest : List ℕ) (number : ℕ) (first : GoesOnWithNumber text number after) → after ≡ 10 ∷ rest → text ≡ behind_spaces (first.word ∷ []) ++ 10 ∷ rest
alone_parts text after rest number first ended = first.parts ∙ (ap (λ (bytes : List ℕ). 32 ∷ (first.word ++ bytes)) ended ∙ ap (λ (word : List ℕ). 32 ∷ (word ++ 10 ∷ rest)) (sym (append-nil first.word)))

pub number_alone : (text after rest : List ℕ) (number : ℕ) → GoesOnWithNumber text number after → after ≡ 10 ∷ rest → GoesOnWith (λ words. (word : List ℕ) × (words ≡ word ∷ []) × (number_of word ≡ Some number)) text rest
number_alone text after rest number first ended = record { words = first.word ∷ []; are = (first.word, refl, first.is_number); parts = alone_parts text after rest number first ended }

-- ---- the words behind a key

-- one more word behind those that each stand behind a space
spaces_more : (words : List (List ℕ)) (word rest : List ℕ) → behind_spaces words ++ 32 ∷ (word ++ rest) ≡ behind_spaces (words ++ word ∷ []) ++ rest
spaces_more [] word rest = ap (λ (bytes : List ℕ). 32 ∷ (bytes ++ rest)) (sym (append-nil word))
spaces_more (first ∷ words) word rest =
    append_assoc (32 ∷ first) (behind_spaces words) (32 ∷ (word ++ rest))
    ∙ (ap (λ (bytes : List ℕ). (32 ∷ first) ++ bytes) (spaces_more words word rest) ∙ sym (append_assoc (32 ∷ first) (behind_spaces (words ++ word ∷ [])) rest))

-- so many words were read, each as a value
pub record HasRead {X : Type 0} (read : List ℕ → Option X) (count : ℕ) (text rest : List ℕ) (values : List X) : Type 0 where
  pub words : List (List ℕ)
  pub are : map read words ≡ map (λ value. Some value) values
  pub as_many : length values ≡ count
  pub parts : text ≡ behind_spaces words ++ rest

pub read_none : {X : Type 0} (read : List ℕ → Option X) (text : List ℕ) → HasRead read 0 text text []
read_none read text = record { words = []; are = refl; as_many = refl; parts = refl }

pub read_more : {X : Type 0} (read : List ℕ → Option X) (count : ℕ) (text rest after word : List ℕ) (values : List X) (value : X) → HasRead read count text rest values → read word ≡ Some value → rest ≡ 32 ∷ (word ++ after) → HasRead read (count + 1) text after (values ++ value ∷ [])
read_more read count text rest after word values value so_far is parts = record {
  words = so_far.words ++ word ∷ [];
  are = map-append read so_far.words (word ∷ []) ∙ (ap (λ (xs : List (Option _)). xs ++ read word ∷ []) so_far.are ∙ (ap (λ (x : Option _). map (λ v. Some v) values ++ x ∷ []) is ∙ sym (map-append (λ v. Some v) values (value ∷ []))));
  as_many = length_push values value ∙ ap (λ n. n + 1) so_far.as_many;
  parts = so_far.parts ∙ (ap (λ (bytes : List ℕ). behind_spaces so_far.words ++ bytes) parts ∙ spaces_more so_far.words word after);
}

abbrev pub HasCells : ℕ → List ℕ → List ℕ → List Cell → Type 0
HasCells count text rest row = HasRead cell_of count text rest row

abbrev pub HasChanges : ℕ → List ℕ → List ℕ → List (Option Cell) → Type 0
HasChanges count text rest patch = HasRead change_of count text rest patch

pub cell_more : (count : ℕ) (text rest after : List ℕ) (row : List Cell) (number : ℕ) → HasCells count text rest row → GoesOnWithNumber rest number after → HasCells (count + 1) text after (row ++ Some number ∷ [])
cell_more count text rest after row number so_far next = read_more cell_of count text rest after next.word row (Some number) so_far (ap (option_map (λ n. Some n)) next.is_number) next.parts

pub cells_ended : (count : ℕ) (text rest after : List ℕ) (row : List Cell) → HasCells count text rest row → rest ≡ 10 ∷ after → GoesOnWithCells (numbered count) text row after
cells_ended count text rest after row so_far ended = record {
  words = so_far.words;
  are = record { cells = so_far.are; as_many = so_far.as_many };
  parts = so_far.parts ∙ ap (λ (bytes : List ℕ). behind_spaces so_far.words ++ bytes) ended;
}

-- a number keeps no column
pub change_is : (word : List ℕ) (number : ℕ) → number_of word ≡ Some number → change_of word ≡ Some (Some (Some number))
change_is word number is =
    let none : keeps_column word ≡ false = no_keeping word number is in
    rw none (ap (option_map (λ cell. Some cell)) (ap (option_map (λ n. Some n)) is))
  where
    no_keeping : (w : List ℕ) (n : ℕ) → number_of w ≡ Some n → keeps_column w ≡ false
    no_keeping [] n e = absurd cc
    no_keeping (byte ∷ bytes) n e =
        let digit : is_ascii_digit byte ≡ true = first_digit (byte ∷ bytes) n e in
        let range = and_parts (leb 48 byte) (leb byte 57) digit in
        ap (λ (b : Bool). b && bytes_eq bytes []) (ne_eqb byte 95 (λ same. absurd (omega (arith, leb-true byte 57 range.1))))

pub kept_here : (text change rest : List ℕ) → text ≡ 32 ∷ change → change ≡ 95 ∷ rest → GoesOnWithChange text None rest
kept_here text change rest parts kept = record { word = 95 ∷ []; is_change = refl; parts = parts ∙ ap (λ (bytes : List ℕ). 32 ∷ bytes) kept }

pub changed_here : (text change rest : List ℕ) (number : ℕ) → text ≡ 32 ∷ change → BeginsWithNumber change number rest → GoesOnWithChange text (Some number) rest
changed_here text change rest number parts found = record { word = found.word; is_change = change_is found.word number found.is_number; parts = parts ∙ ap (λ (bytes : List ℕ). 32 ∷ bytes) found.parts }

pub number_here : (text number rest : List ℕ) (value : ℕ) → text ≡ 32 ∷ number → BeginsWithNumber number value rest → GoesOnWithNumber text value rest
number_here text number rest value parts found = record { word = found.word; is_number = found.is_number; parts = parts ∙ ap (λ (bytes : List ℕ). 32 ∷ bytes) found.parts }

pub change_more : (count : ℕ) (text rest after : List ℕ) (patch : List (Option Cell)) (change : Option ℕ) (set : Option Cell) → HasChanges count text rest patch → GoesOnWithChange rest change after → set ≡ changed change → HasChanges (count + 1) text after (patch ++ set ∷ [])
change_more count text rest after patch change set so_far next is = rw is (read_more change_of count text rest after next.word patch (changed change) so_far next.is_change next.parts)

pub changes_ended : (count : ℕ) (text rest after : List ℕ) (patch : List (Option Cell)) → HasChanges count text rest patch → rest ≡ 10 ∷ after → list_any is_some patch ≡ true → GoesOnWithChanges (numbered count) text patch after
changes_ended count text rest after patch so_far ended sets = record {
  words = so_far.words;
  are = record { changes = so_far.are; as_many = so_far.as_many; sets = sets };
  parts = so_far.parts ∙ ap (λ (bytes : List ℕ). behind_spaces so_far.words ++ bytes) ended;
}

-- ---- the same of cells and changes that are collected as a patch

pub no_cells : (text : List ℕ) (row : List (Option Cell)) → row ≡ [] → HasCells 0 text text (filled row) × (length row ≡ 0)
no_cells text row none = (subst (λ (r : List (Option Cell)). HasCells 0 text text (filled r)) (sym none) (read_none cell_of text), ap length none)

pub cell_set : (count : ℕ) (text rest after : List ℕ) (row more : List (Option Cell)) (number : ℕ) → HasCells count text rest (filled row) × (length row ≡ count) → GoesOnWithNumber rest number after → more ≡ row ++ Some (Some number) ∷ []
    → HasCells (count + 1) text after (filled more) × (length more ≡ count + 1)
cell_set count text rest after row more number so_far next is =
    let cells : filled more ≡ filled row ++ Some number ∷ [] = ap filled is ∙ map-append (λ change. unwrap_or change None) row (Some (Some number) ∷ []) in (
      subst (λ (cs : List Cell). HasCells (count + 1) text after cs) (sym cells) (cell_more count text rest after (filled row) number so_far.0 next),
      ap length is ∙ (length_push row (Some (Some number)) ∙ ap (λ n. n + 1) so_far.1),
    )

pub all_cells : (count read : ℕ) (text rest after : List ℕ) (row : List (Option Cell)) → HasCells read text rest (filled row) → read ≡ count → rest ≡ 10 ∷ after → GoesOnWithCells (numbered count) text (filled row) after
all_cells count read text rest after row so_far all ended = cells_ended count text rest after (filled row) (subst (λ n. HasCells n text rest (filled row)) all so_far) ended

pub no_changes : (text : List ℕ) (patch : List (Option Cell)) → patch ≡ [] → HasChanges 0 text text patch
no_changes text patch none = subst (λ (p : List (Option Cell)). HasChanges 0 text text p) (sym none) (read_none change_of text)

pub all_changes : (count read : ℕ) (text rest after : List ℕ) (patch : List (Option Cell)) → HasChanges read text rest patch → read ≡ count → rest ≡ 10 ∷ after → list_any is_some patch ≡ true → GoesOnWithChanges (numbered count) text patch after
all_changes count read text rest after patch so_far all ended sets = changes_ended count text rest after patch (subst (λ n. HasChanges n text rest patch) all so_far) ended sets

-- ---- the line

pub line_begins : (limits : Limits) (columns : Columns) (text word call_text rest : List ℕ) (session : ℕ) (call : Call) → number_of word ≡ Some session → session < limits.sessions → text ≡ word ++ 32 ∷ call_text → BeginsWith (λ words. IsCall columns words call) call_text rest
    → BeginsWith (λ words. IsLine limits columns words (lines.Call session call)) text rest
line_begins limits columns text word call_text rest session call is within parts behind = record {
  words = word ∷ behind.words;
  are = (word, behind.words, refl, is, within, behind.are);
  parts = parts ∙ (ap (λ (bytes : List ℕ). word ++ 32 ∷ bytes) behind.parts ∙ joined behind.words behind.are);
}
  where
    joined : (words : List (List ℕ)) → IsCall columns words call → word ++ 32 ∷ (spaced words ++ 10 ∷ rest) ≡ spaced (word ∷ words) ++ 10 ∷ rest
    joined [] are = absurd (no_words [] are.words_are)
      where
        no_words : (ws : List (List ℕ)) → [] ≡ are.name ∷ are.arguments → ⊥
        no_words ws e = absurd cc
    joined (name ∷ words) are = sym (append_assoc word (behind_spaces (name ∷ words)) (10 ∷ rest))

-- ---- words and arguments put together

pub one_behind_name : (text name after rest arguments : List ℕ) (number : ℕ) → text ≡ name ++ arguments → GoesOnWithNumber arguments number after → after ≡ 10 ∷ rest → (behind : List ℕ) × (text ≡ name ++ behind) × GoesOnWithOne behind number rest
one_behind_name text name after rest arguments number parts first ended = (arguments, parts, number_alone arguments after rest number first ended)

pub numbered_column_here : (count : ℕ) (text after rest : List ℕ) (number column end : ℕ) → BeginsWithNumber text number after → column ≡ number → column < count → after ≡ end ∷ rest → BeginsWithColumn (numbered count) text column end rest
numbered_column_here count text after rest number column end found is within ended = record {
  word = found.word;
  is_column = rw (found.is_number, ← is, lt-ltb column count within) refl;
  within = within;
  parts = found.parts ∙ ap (λ (bytes : List ℕ). found.word ++ bytes) ended;
}

pub sum_behind : (columns : Columns) (arguments word rest : List ℕ) (column : ℕ) → arguments ≡ 32 ∷ word → BeginsWithColumn columns word column 10 rest → GoesOnWithArguments columns arguments (Sum column) rest
sum_behind columns arguments word rest column space found = record {
  words = found.word ∷ [];
  are = (found.word, refl, found.is_column);
  parts = space ∙ (ap (λ (bytes : List ℕ). 32 ∷ bytes) found.parts ∙ ap (λ (w : List ℕ). 32 ∷ (w ++ 10 ∷ rest)) (sym (append-nil found.word)));
}

pub find_behind : (columns : Columns) (arguments word number after rest : List ℕ) (column value : ℕ) → arguments ≡ 32 ∷ word → BeginsWithColumn columns word column 32 number → BeginsWithNumber number value after → after ≡ 10 ∷ rest → GoesOnWithArguments columns arguments (Find column value) rest
find_behind columns arguments word number after rest column value space found second ended =
    let behind : GoesOnWithNumber (32 ∷ number) value after = record { word = second.word; is_number = second.is_number; parts = ap (λ (bytes : List ℕ). 32 ∷ bytes) second.parts } in
    record {
      words = found.word ∷ second.word ∷ [];
      are = (found.word, second.word, refl, found.is_column, second.is_number);
      parts = space ∙ (ap (λ (bytes : List ℕ). 32 ∷ bytes) found.parts ∙ (ap (λ (bytes : List ℕ). 32 ∷ (found.word ++ bytes)) (alone_parts (32 ∷ number) after rest value behind ended) ∙ sym (append_assoc (32 ∷ found.word) (behind_spaces (second.word ∷ [])) (10 ∷ rest))));
    }

pub insert_behind : (columns : Columns) (arguments middle rest : List ℕ) (key : ℕ) (row : List Cell) → GoesOnWithNumber arguments key middle → GoesOnWithCells columns middle row rest → GoesOnWithArguments columns arguments (Insert key row) rest
insert_behind columns arguments middle rest key row first cells = record {
  words = first.word ∷ cells.words;
  are = (first.word, cells.words, refl, first.is_number, cells.are);
  parts = first.parts ∙ (ap (λ (bytes : List ℕ). 32 ∷ (first.word ++ bytes)) cells.parts ∙ sym (append_assoc (32 ∷ first.word) (behind_spaces cells.words) (10 ∷ rest)));
}

pub update_behind : (columns : Columns) (arguments middle rest : List ℕ) (key : ℕ) (patch : List (Option Cell)) → GoesOnWithNumber arguments key middle → GoesOnWithChanges columns middle patch rest → GoesOnWithArguments columns arguments (Update key patch) rest
update_behind columns arguments middle rest key patch first changes = record {
  words = first.word ∷ changes.words;
  are = (first.word, changes.words, refl, first.is_number, changes.are);
  parts = first.parts ∙ (ap (λ (bytes : List ℕ). 32 ∷ (first.word ++ bytes)) changes.parts ∙ sym (append_assoc (32 ∷ first.word) (behind_spaces changes.words) (10 ∷ rest)));
}

pub session_here : (text rest call : List ℕ) (number session sessions : ℕ) → BeginsWithNumber text number rest → session ≡ number → session < sessions → rest ≡ 32 ∷ call → (word : List ℕ) × (number_of word ≡ Some session) × (session < sessions) × (text ≡ word ++ 32 ∷ call)
session_here text rest call number session sessions found is within space = (found.word, found.is_number ∙ ap (λ n. Some n) (sym is), within, found.parts ∙ ap (λ (bytes : List ℕ). found.word ++ bytes) space)

-- ---- a line that is added

pub line_added : {E : Type 0} (limits : Limits) (columns : Columns) (text word call_text : List ℕ) (session : ℕ) (before after : List Line) → number_of word ≡ Some session → session < limits.sessions → text ≡ word ++ 32 ∷ call_text → (r : Result (Option (Bor (List ℕ))) E) → IfOk r (AddsCall columns session call_text before after) → IfOk r (AddsLine limits columns text before after)
line_added limits columns text word call_text session before after is within parts (Err e) added = tt
line_added limits columns text word call_text session before after is within parts (Ok None) added = added
line_added limits columns text word call_text session before after is within parts (Ok (Some rest)) added = (lines.Call session added.0, line_begins limits columns text word call_text rest.now session added.0 is within parts added.1, added.2)
