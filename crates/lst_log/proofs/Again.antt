-- What a record spells is read again, whatever follows.
use Rattle.std.proofs.Common.{◌≡◌, ℕ, zero, suc, ◌^◌, ◌<◌, false, ltb, List, [], ◌∷◌, ◌++◌, length, map, replicate, Option, Some, None, refl, sym, ap, ◌∙◌, append_assoc, arith, length-append}
use Rattle.std.specs.List.{flat_map, AllByRecursion}
use Rattle.std.specs.Int.{Width, w32, w64, byte_len, from_be_bytes, to_be_bytes}
use Rattle.std.proofs.lemmas.Bool.{le-ltb}
use Rattle.std.proofs.lemmas.List.{take_at, drop_at}
use Rattle.std.proofs.lemmas.Nat.{from_be_bytes-to_be_bytes_4, from_be_bytes-to_be_bytes_8}
use Rattle.lst_model.specs.declared.acts.Act.{Act}
use Rattle.lst_model.specs.declared.acts.Act.TheVariants.{Put, Set, Del}
use Rattle.lst_model.specs.declared.acts.Write.{Write}
use Rattle.lst_model.specs.declared.commits.Commit.{Commit}
use Rattle.lst_model.specs.Cells.{Cell, number_of, changed_number}
use Rattle.lst_model.specs.CellLaws.{row_is_own}
use Rattle.lst_model.proofs.Cells.{patch_is_patched}
use Rattle.lst_log.specs.Format.{word, kind_of, mask_of, nulls_of, numbers_of, head_of, write_bytes, body, FitsTable, IsCell, IsChange, IsWrite, HasRecord}
use Rattle.lst_log.specs.Reading.{number_at, many_at, act_with, act_at, write_at, head_at, body_at}
use Rattle.lst_log.proofs.Sizes.{length-numbers}

number_again : (w : Width) (n : ℕ) (rest : List ℕ) → length (to_be_bytes w n) ≡ byte_len w → from_be_bytes w (to_be_bytes w n) ≡ n → number_at w (to_be_bytes w n ++ rest) ≡ Some (n, rest)
number_again w n rest len back =
    let long : ltb (length (to_be_bytes w n ++ rest)) (byte_len w) ≡ false = le-ltb _ _ (omega (arith, length-append (to_be_bytes w n) rest)) in
    rw (long, take_at (to_be_bytes w n) rest (byte_len w) len, drop_at (to_be_bytes w n) rest (byte_len w) len, back) refl

again32 : (n : ℕ) (rest : List ℕ) → n < 2 ^ 32 → number_at w32 (to_be_bytes w32 n ++ rest) ≡ Some (n, rest)
again32 n rest low = number_again w32 n rest refl (from_be_bytes-to_be_bytes_4 n low)

again64 : (n : ℕ) (rest : List ℕ) → n < 2 ^ 64 → number_at w64 (word n ++ rest) ≡ Some (n, rest)
again64 n rest low = number_again w64 n rest refl (from_be_bytes-to_be_bytes_8 n low)

-- what is spelled one after another is read so
many_again : {A : Type 0} (P : A → Type 0) (spell : A → List ℕ) (one : List ℕ → Option (A × List ℕ)) → ((x : A) (rest : List ℕ) → P x → one (spell x ++ rest) ≡ Some (x, rest))
    → (xs : List A) (rest : List ℕ) → AllByRecursion P xs → many_at one (length xs) (flat_map spell xs ++ rest) ≡ Some (xs, rest)
unfolding many_at
many_again P spell one again [] rest each = refl
many_again P spell one again (x ∷ xs) rest each =
    ap (many_at one (suc (length xs))) (append_assoc (spell x) (flat_map spell xs) rest)
    ∙ rw (again x (flat_map spell xs ++ rest) each.0, many_again P spell one again xs rest each.1) refl

numbers_again : (numbers rest : List ℕ) → AllByRecursion (λ n. n < 2 ^ 64) numbers → many_at (number_at w64) (length numbers) (flat_map word numbers ++ rest) ≡ Some (numbers, rest)
numbers_again numbers rest low = many_again (λ n. n < 2 ^ 64) word (number_at w64) again64 numbers rest low

-- the numbers of an act are of 64 bits
cell_low : (cell : Cell) → IsCell cell → number_of cell < 2 ^ 64
cell_low None is = omega arith
cell_low (Some number) is = is

change_low : (change : Option Cell) → IsChange change → changed_number change < 2 ^ 64
change_low None is = omega arith
change_low (Some cell) is = cell_low cell is

row_low : (row : List Cell) → AllByRecursion IsCell row → AllByRecursion (λ n. n < 2 ^ 64) (map number_of row)
row_low [] each = tt
row_low (cell ∷ row) each = (cell_low cell each.0, row_low row each.1)

patch_low : (patch : List (Option Cell)) → AllByRecursion IsChange patch → AllByRecursion (λ n. n < 2 ^ 64) (map changed_number patch)
patch_low [] each = tt
patch_low (change ∷ patch) each = (change_low change each.0, patch_low patch each.1)

zeros_low : (columns : ℕ) → AllByRecursion (λ n. n < 2 ^ 64) (replicate columns 0)
zeros_low zero = tt
zeros_low (suc columns) = (omega arith, zeros_low columns)

numbers_low : (columns : ℕ) (act : Act) → FitsTable columns act → AllByRecursion (λ n. n < 2 ^ 64) (numbers_of columns act)
numbers_low columns (Put row) fits = row_low row fits.1
numbers_low columns (Set patch) fits = patch_low patch fits.1
numbers_low columns Del fits = zeros_low columns

-- an act is made again of its parts
act_again : (columns : ℕ) (act : Act) → act_with (kind_of act) (mask_of columns act) (nulls_of act) (numbers_of columns act) ≡ act
act_again columns (Put row) = ap (λ (cells : List Cell). Put cells) (row_is_own row)
act_again columns (Set patch) = ap (λ (changes : List (Option Cell)). Set changes) (patch_is_patched patch)
act_again columns Del = refl

act_read : (columns : ℕ) (act : Act) (rest : List ℕ) → FitsTable columns act → act_at columns (head_of columns act ++ (flat_map word (numbers_of columns act) ++ rest)) ≡ Some (act, rest)
unfolding act_at
act_read columns act rest fits =
    let numbers : many_at (number_at w64) columns (flat_map word (numbers_of columns act) ++ rest) ≡ Some (numbers_of columns act, rest) =
    ap (λ (n : ℕ). many_at (number_at w64) n (flat_map word (numbers_of columns act) ++ rest)) (sym (length-numbers columns act fits)) ∙ numbers_again (numbers_of columns act) rest (numbers_low columns act fits) in
    rw (numbers) (ap (λ (a : Act). Some (a, rest)) (act_again columns act))

write_again : (columns : ℕ) (w : Write) (rest : List ℕ) → IsWrite columns w → write_at columns (write_bytes columns w ++ rest) ≡ Some (w, rest)
unfolding write_at
write_again columns w rest is =
    let behind = head_of columns w.act ++ flat_map word (numbers_of columns w.act) in
    let regrouped : write_bytes columns w ++ rest ≡ word w.key ++ (head_of columns w.act ++ (flat_map word (numbers_of columns w.act) ++ rest)) =
    append_assoc (word w.key) behind rest ∙ ap (λ (bytes : List ℕ). word w.key ++ bytes) (append_assoc (head_of columns w.act) (flat_map word (numbers_of columns w.act)) rest) in
    ap (write_at columns) regrouped ∙ rw (again64 w.key (head_of columns w.act ++ (flat_map word (numbers_of columns w.act) ++ rest)) is.key, act_read columns w.act rest is.act) refl

-- the commit of a record's body
pub body_again : (columns : ℕ) (c : Commit) (rest : List ℕ) → HasRecord columns c → body_at columns (body columns c ++ rest) ≡ Some (c, rest)
unfolding body_at head_at
body_again columns c rest has =
    let writes = flat_map (write_bytes columns) c.writes in
    let four = to_be_bytes w32 (length c.writes) ++ (writes ++ rest) in
    let three = word c.begin ++ four in
    let two = to_be_bytes w32 c.number ++ three in
    let regrouped : body columns c ++ rest ≡ to_be_bytes w32 c.session ++ two =
    append_assoc (to_be_bytes w32 c.session) (to_be_bytes w32 c.number ++ (word c.begin ++ (to_be_bytes w32 (length c.writes) ++ writes))) rest
    ∙ ap (λ (bytes : List ℕ). to_be_bytes w32 c.session ++ bytes) (append_assoc (to_be_bytes w32 c.number) (word c.begin ++ (to_be_bytes w32 (length c.writes) ++ writes)) rest
    ∙ ap (λ (bytes : List ℕ). to_be_bytes w32 c.number ++ bytes) (append_assoc (word c.begin) (to_be_bytes w32 (length c.writes) ++ writes) rest
    ∙ ap (λ (bytes : List ℕ). word c.begin ++ bytes) (append_assoc (to_be_bytes w32 (length c.writes)) writes rest))) in
    let all : many_at (write_at columns) (length c.writes) (writes ++ rest) ≡ Some (c.writes, rest) = many_again (IsWrite columns) (write_bytes columns) (write_at columns) (λ w. write_again columns w) c.writes rest has.writes in
    ap (body_at columns) regrouped
    ∙ rw (again32 c.session two has.session, again32 c.number three has.number, again64 c.begin four has.begin, again32 (length c.writes) (writes ++ rest) has.few, all) refl
