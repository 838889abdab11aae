-- Numbers, rows and versions decoded in place.
use Rattle.std.proofs.Common.{◌≡◌, ℕ, zero, suc, ◌+◌, ◌-◌, ◌*◌, ◌/◌, ◌%◌, ◌^◌, ◌<◌, ◌≤◌, Bool, true, false, cond, List, [], ◌∷◌, ◌++◌, length, get_or, drop, refl, sym, ap, ◌∙◌, subst, append_assoc, append-nil, add-one, drop-cons, true≢false, slice_set, arith, inl, inr}
use Rattle.std.proofs.Math.Nat.{mul-add, mul_assoc, mul_comm}
use Rattle.std.proofs.lemmas.Bool.{cases_lt, eqb-true, eq-eqb, ne_eqb}
use Rattle.std.proofs.lemmas.List.{length-append, length-drop}
use Rattle.std.specs.Prelude.{Option, Some, None, IsSome, nat_lt, nat_le, ◌==◌, ◌&&◌, slice_get}
use Rattle.lst_model.specs.Cells.{Cell, number_of}
use Rattle.lst_snapshots.specs.declared.versions.Version.{Version}
use Rattle.lst_snapshots.specs.Versions.{version_at}
use Rattle.lst_historic.specs.Numbers.{above, number_at, of_64_bits, word_at}
use Rattle.lst_historic.specs.Blocks.{are_same, base_of, chain_text}
use Rattle.lst_historic.specs.Reading.{◌>>=◌, when, only_when, present, number_after, differing, number_behind, cell_behind, cells_behind, row_behind, version_behind}
use Rattle.lst_historic.specs.Decoding.{HasVersions, IsStep, shown}
use Rattle.lst_historic.proofs.Spelled.{number_at-low, number_at-high, above_ok}
use Rattle.lst_historic.proofs.Fields.{some_is, of_64_ok, bind_some, only_ok, first, second, leb-is}
use Rattle.lst_historic.proofs.Loops.{with_front, cells_more, cells_end, cells_last, at_column, none_behind, IsLeft, stuck}

-- ---- what there is

pub got : {A : Type 0} (read : Option A) → IsSome read → (x : A) × (read ≡ Some x)
got None is = absurd (true≢false (sym is))
got (Some x) is = (x, refl)

pub is_got : {A : Type 0} (read : Option A) (x : A) → read ≡ Some x → IsSome read
is_got None x e = absurd (cc)
is_got (Some y) x e = refl

pub some_unless : {A : Type 0} (read : Option A) → (None ≡ read → ⊥) → IsSome read
some_unless None never = absurd (never refl)
some_unless (Some x) never = refl

none_some : {A : Type 0} (x : A) → None ≡ Some x → ⊥
none_some x e = cc

-- ---- a number

-- the bytes from here on are what is left of the number at a place
pub record IsOn (bytes : List ℕ) (place at number scale : ℕ) : Type 0 where
  pub high : ℕ
  pub rest : List ℕ
  pub here : number_at (drop at bytes) ≡ Some (high, rest)
  pub all : word_at (drop place bytes) ≡ Some (number + scale * high, rest)
  pub low : number + scale * high < 2 ^ 64
  pub some : 1 ≤ scale

word_number : (bytes : List ℕ) (x : ℕ × List ℕ) → word_at bytes ≡ Some x → (number_at bytes ≡ Some x) × (x.0 < 2 ^ 64)
unfolding word_at
word_number bytes x read = of_64_ok (number_at bytes) x read

once : (n : ℕ) → 0 + 1 * n ≡ n
once n = omega arith

pub on_first : (bytes : List ℕ) (place : ℕ) → IsSome (word_at (drop place bytes)) → IsOn bytes place place 0 1
on_first bytes place is =
    let x = got (word_at (drop place bytes)) is in
    let both = word_number (drop place bytes) x.0 x.1 in
    record {
      high = x.0.0;
      rest = x.0.1;
      here = both.0;
      all = x.1 ∙ ap (λ n. Some (n, x.0.1)) (sym (once x.0.0));
      low = (let low : x.0.0 < 2 ^ 64 = both.1 in omega (arith, low));
      some = omega arith;
    }

none_at_end : number_at [] ≡ None
unfolding number_at
none_at_end = refl

pub on_within : (bytes : List ℕ) (place at number scale : ℕ) → IsOn bytes place at number scale → at < length bytes
on_within bytes place at number scale on = elim (cases_lt at (length bytes)) [
  | inl within ↦ within
  | inr out ↦ absurd (none_some (on.high, on.rest) (sym none_at_end ∙ ap number_at (sym (none_behind bytes at out)) ∙ on.here))
]

pub word_within : (bytes : List ℕ) (place : ℕ) → IsSome (word_at (drop place bytes)) → place < length bytes
word_within bytes place is = on_within bytes place place 0 1 (on_first bytes place is)

spread : (n s d h : ℕ) → n + s * (d + 128 * h) ≡ (n + d * s) + (s * 128) * h
spread n s d h =
    let one = mul-add s d (128 * h) in
    let two = mul_assoc s 128 h in
    let three = mul_comm s d in
    omega (arith, one, two, three)

at_least : (x h : ℕ) → 0 < h → x ≤ x * h
at_least x zero some = absurd (omega arith)
at_least x (suc h) some = let one : x * suc h ≡ x * h + x = mul_suc x h in omega (arith, one)
  where
    mul_suc : (x h : ℕ) → x * suc h ≡ x * h + x
    mul_suc x h = ap (λ k. x * k) (sym (add-one h)) ∙ mul-add x h 1 ∙ (let e : x * h + x * 1 ≡ x * h + x = omega arith in e)

pub record IsMore (bytes : List ℕ) (place at number scale byte : ℕ) : Type 0 where
  pub sum : number + (byte - 128) * scale < 2 ^ 64
  pub part : (byte - 128) * scale < 2 ^ 64
  pub wide : scale * 128 < 2 ^ 64
  pub next : IsOn bytes place (at + 1) (number + (byte - 128) * scale) (scale * 128)

pub on_more : (bytes : List ℕ) (place at number scale byte : ℕ) → IsOn bytes place at number scale → byte ≡ get_or bytes at 0 → 128 ≤ byte → IsMore bytes place at number scale byte
on_more bytes place at number scale byte on byte-is high =
    let behind = drop (at + 1) bytes in
    let text : drop at bytes ≡ byte ∷ behind = drop-cons bytes at 0 (on_within bytes place at number scale on) ∙ ap (λ k. get_or bytes at 0 ∷ drop k bytes) (sym (add-one at)) ∙ ap (λ b. b ∷ behind) (sym byte-is) in
    let got = above_ok (byte - 128) (number_at behind) on.high on.rest (sym (number_at-high byte behind high) ∙ ap number_at (sym text) ∙ on.here) in
    let h : ℕ = got.0 in
    let some : 0 < h = got.2 in
    let is : number + scale * on.high ≡ (number + (byte - 128) * scale) + (scale * 128) * h = ap (λ k. number + scale * k) got.3 ∙ spread number scale (byte - 128) h in
    let least = at_least (scale * 128) h some in
    let low = on.low in
    record {
      sum = omega (arith, is, low);
      part = omega (arith, is, low);
      wide = omega (arith, is, low, least);
      next = record {
        high = h;
        rest = on.rest;
        here = got.1;
        all = on.all ∙ ap (λ n. Some (n, on.rest)) is;
        low = omega (arith, is, low);
        some = (let one = on.some in omega (arith, one));
      };
    }

pub record IsLast (bytes : List ℕ) (place at number scale byte : ℕ) : Type 0 where
  pub sum : number + byte * scale < 2 ^ 64
  pub part : byte * scale < 2 ^ 64
  pub read : Some (number + byte * scale, drop (at + 1) bytes) ≡ word_at (drop place bytes)

pub on_last : (bytes : List ℕ) (place at number scale byte : ℕ) → IsOn bytes place at number scale → byte ≡ get_or bytes at 0 → byte < 128 → IsLast bytes place at number scale byte
on_last bytes place at number scale byte on byte-is low =
    let behind = drop (at + 1) bytes in
    let text : drop at bytes ≡ byte ∷ behind = drop-cons bytes at 0 (on_within bytes place at number scale on) ∙ ap (λ k. get_or bytes at 0 ∷ drop k bytes) (sym (add-one at)) ∙ ap (λ b. b ∷ behind) (sym byte-is) in
    let same = some_is (byte, behind) (on.high, on.rest) (sym (number_at-low byte behind low) ∙ ap number_at (sym text) ∙ on.here) in
    let high : byte ≡ on.high = ap (λ (p : ℕ × List ℕ). p.0) same in
    let rest : behind ≡ on.rest = ap (λ (p : ℕ × List ℕ). p.1) same in
    let total : number + byte * scale ≡ number + scale * on.high = ap (λ k. number + k) (mul_comm byte scale) ∙ ap (λ k. number + scale * k) high in
    let below = on.low in
    record {
      sum = omega (arith, total, below);
      part = omega (arith, total, below);
      read = ap (λ n. Some (n, behind)) total ∙ ap (λ r. Some (number + scale * on.high, r)) rest ∙ sym on.all;
    }

-- the first three bytes
module _ (bytes : List ℕ) (place first : ℕ) (is : IsSome (word_at (drop place bytes))) (first-is : first ≡ get_or bytes place 0) where
  pub read_one : first < 128 → Some (first, drop (place + 1) bytes) ≡ word_at (drop place bytes)
  read_one low =
      let last = on_last bytes place place 0 1 first (on_first bytes place is) first-is low in
      ap (λ n. Some (n, drop (place + 1) bytes)) (let e : first ≡ 0 + first * 1 = omega arith in e) ∙ last.read

  second_on : 128 ≤ first → IsOn bytes place (place + 1) (0 + (first - 128) * 1) (1 * 128)
  second_on high = (on_more bytes place place 0 1 first (on_first bytes place is) first-is high).next

  pub second_within : 128 ≤ first → place + 1 < length bytes
  second_within high = on_within bytes place (place + 1) (0 + (first - 128) * 1) (1 * 128) (second_on high)

  pub read_two : (second : ℕ) → 128 ≤ first → second ≡ get_or bytes (place + 1) 0 → second < 128 → Some (first - 128 + second * 128, drop (place + 2) bytes) ≡ word_at (drop place bytes)
  read_two second high second-is low =
      let last = on_last bytes place (place + 1) (0 + (first - 128) * 1) (1 * 128) second (second_on high) second-is low in
      ap (λ n. Some (n, drop (place + 2) bytes)) (let e : first - 128 + second * 128 ≡ (0 + (first - 128) * 1) + second * (1 * 128) = omega arith in e)
      ∙ ap (λ k. Some ((0 + (first - 128) * 1) + second * (1 * 128), drop k bytes)) (let e : place + 2 ≡ (place + 1) + 1 = omega arith in e)
      ∙ last.read

  third_on : (second : ℕ) → 128 ≤ first → second ≡ get_or bytes (place + 1) 0 → 128 ≤ second → IsOn bytes place ((place + 1) + 1) ((0 + (first - 128) * 1) + (second - 128) * (1 * 128)) ((1 * 128) * 128)
  third_on second high second-is more = (on_more bytes place (place + 1) (0 + (first - 128) * 1) (1 * 128) second (second_on high) second-is more).next

  pub third_within : (second : ℕ) → 128 ≤ first → second ≡ get_or bytes (place + 1) 0 → 128 ≤ second → place + 2 < length bytes
  third_within second high second-is more =
      let within = on_within bytes place ((place + 1) + 1) ((0 + (first - 128) * 1) + (second - 128) * (1 * 128)) ((1 * 128) * 128) (third_on second high second-is more) in
      omega (arith, within)

  pub read_three : (second third : ℕ) → 128 ≤ first → second ≡ get_or bytes (place + 1) 0 → 128 ≤ second → third ≡ get_or bytes (place + 2) 0 → third < 128
      → Some (first - 128 + (second - 128) * 128 + third * 16384, drop (place + 3) bytes) ≡ word_at (drop place bytes)
  read_three second third high second-is more third-is low =
      let number = (0 + (first - 128) * 1) + (second - 128) * (1 * 128) in
      let place-is : place + 2 ≡ (place + 1) + 1 = omega arith in
      let last = on_last bytes place ((place + 1) + 1) number ((1 * 128) * 128) third (third_on second high second-is more) (third-is ∙ ap (λ k. get_or bytes k 0) place-is) low in
      ap (λ n. Some (n, drop (place + 3) bytes)) (let e : first - 128 + (second - 128) * 128 + third * 16384 ≡ number + third * ((1 * 128) * 128) = omega arith in e)
      ∙ ap (λ k. Some (number + third * ((1 * 128) * 128), drop k bytes)) (let e : place + 3 ≡ ((place + 1) + 1) + 1 = omega arith in e)
      ∙ last.read

-- ---- a cell

differing_is : (old new : Cell) (rest : List ℕ) → IsSome (differing old new rest) → Some (new, rest) ≡ differing old new rest
differing_is old new rest is = by (are_same old new) is
  where
    by : (b : Bool) → IsSome (cond {A = Option (Cell × List ℕ)} b None (Some (new, rest))) → Some (new, rest) ≡ cond {A = Option (Cell × List ℕ)} b None (Some (new, rest))
    by true is = absurd (true≢false (sym is))
    by false is = refl

pub read_emptied : (old : Cell) (bytes : List ℕ) → IsSome (cell_behind true true old bytes) → Some (None, bytes) ≡ cell_behind true true old bytes
read_emptied old bytes is = differing_is old None bytes is

bind_got : {A B : Type 0} (read : Option A) (f : A → Option B) → IsSome (read >>= f) → IsSome read
bind_got None f is = is
bind_got (Some x) f is = refl

pub number_some : (old : Cell) (bytes : List ℕ) → IsSome (cell_behind true false old bytes) → IsSome (word_at bytes)
unfolding number_behind
number_some old bytes is = bind_got (word_at bytes) (λ (code : ℕ × List ℕ). differing old (Some (number_after (number_of old) code.0)) code.1) is

pub read_number : (old : Cell) (bytes : List ℕ) (code : ℕ) (behind : List ℕ) → IsSome (cell_behind true false old bytes) → Some (code, behind) ≡ word_at bytes
    → Some (Some (number_after (number_of old) code), behind) ≡ cell_behind true false old bytes
unfolding number_behind
read_number old bytes code behind is read =
    let f : ℕ × List ℕ → Option (Cell × List ℕ) = λ (code : ℕ × List ℕ). differing old (Some (number_after (number_of old) code.0)) code.1 in
    differing_is old (Some (number_after (number_of old) code)) behind (subst (λ r. IsSome (r >>= f)) (sym read) is) ∙ ap (λ r. r >>= f) read

-- ---- a column

set_same : (cells : List Cell) (column : ℕ) (cell : Cell) → slice_get cells column ≡ Some cell → cells ≡ slice_set cells column cell
set_same [] column cell is = refl
set_same (first ∷ cells) zero cell is = ap (λ (c : Cell). c ∷ cells) (some_is first cell is)
set_same (first ∷ cells) (suc column) cell is = ap (λ (cs : List Cell). first ∷ cs) (set_same cells column cell is)

pub slice_here : (cells : List Cell) (column : ℕ) → column < length cells → (cell : Cell) × (slice_get cells column ≡ Some cell)
slice_here [] column low = absurd (omega arith)
slice_here (cell ∷ cells) zero low = (cell, refl)
slice_here (cell ∷ cells) (suc column) low = slice_here cells column (omega arith)

unchanged : (emptied : Bool) (old : Cell) (bytes : List ℕ) → IsSome (cell_behind false emptied old bytes) → Some (old, bytes) ≡ cell_behind false emptied old bytes
unchanged true old bytes is = absurd (true≢false (sym is))
unchanged false old bytes is = refl

pub step_unchanged : (cells : List Cell) (column : ℕ) (emptied : Bool) (bytes : List ℕ) → column < length cells → ((old : Cell) → slice_get cells column ≡ Some old → IsSome (cell_behind false emptied old bytes))
    → IsStep cells cells column false emptied bytes bytes
step_unchanged cells column emptied bytes low some =
    let here = slice_here cells column low in
    record { old = here.0; cell = here.0; here = here.1; read = unchanged emptied here.0 bytes (some here.0 here.1); set = set_same cells column here.0 here.1 }

slice_at : (cells : List Cell) (column : ℕ) (d : Cell) → column < length cells → slice_get cells column ≡ Some (get_or cells column d)
slice_at [] column d low = absurd (omega arith)
slice_at (cell ∷ cells) zero d low = refl
slice_at (cell ∷ cells) (suc column) d low = slice_at cells column d (omega arith)

pub slice_of : (cells all : List Cell) (column : ℕ) (d : Cell) → cells ≡ all → column < length all → slice_get all column ≡ Some (get_or cells column d)
slice_of cells all column d is low = slice_at all column d low ∙ ap (λ (cs : List Cell). Some (get_or cs column d)) (sym is)

-- ---- all columns

-- the columns in front have their cells, and those behind are what they were
pub record CellsOn (olds cells : List Cell) (mask nulls changed emptied column : ℕ) (bytes behind : List ℕ) : Type 0 where
  pub front : List Cell
  pub size : length front ≡ column
  pub items : cells ≡ front ++ drop column olds
  pub read : with_front front (cells_behind changed emptied (drop column olds) behind) ≡ cells_behind mask nulls olds bytes

with_none : (read : Option (List Cell × List ℕ)) → with_front [] read ≡ read
with_none None = refl
with_none (Some x) = refl

pub cells_first : (olds : List Cell) (mask nulls : ℕ) (bytes : List ℕ) → CellsOn olds olds mask nulls mask nulls 0 bytes bytes
cells_first olds mask nulls bytes = record { front = []; size = refl; items = refl; read = with_none (cells_behind mask nulls olds bytes) }

front_some : (front : List Cell) (read : Option (List Cell × List ℕ)) → IsSome (with_front front read) → IsSome read
front_some front None is = is
front_some front (Some x) is = refl

when_some : {A : Type 0} (b : Bool) (x : A) → IsSome (when b x) → b ≡ true
when_some true x is = refl
when_some false x is = is

no_column : (changed emptied : ℕ) (bytes : List ℕ) → 0 < changed → IsSome (cells_behind changed emptied [] bytes) → ⊥
unfolding cells_behind
no_column changed emptied bytes some is =
    let e : changed ≡ 0 = eqb-true changed 0 (first (changed == 0) (emptied == 0) (when_some (changed == 0 && emptied == 0) ([], bytes) is)) in
    omega (arith, e, some)

pub column_within : (olds cells : List Cell) (mask nulls changed emptied column : ℕ) (bytes behind : List ℕ) → IsSome (cells_behind mask nulls olds bytes) → CellsOn olds cells mask nulls changed emptied column bytes behind → 0 < changed
    → column < length olds
column_within olds cells mask nulls changed emptied column bytes behind some on more = elim (cases_lt column (length olds)) [
  | inl within ↦ within
  | inr out ↦
      let is = front_some on.front (cells_behind changed emptied (drop column olds) behind) (subst (λ r. IsSome r) (sym on.read) some) in
      absurd (no_column changed emptied behind more (subst (λ (cs : List Cell). IsSome (cells_behind changed emptied cs behind)) (none_behind olds column out) is))
]

length_front : (front olds : List Cell) (column : ℕ) → length front ≡ column → column < length olds → column < length (front ++ drop column olds)
length_front front olds column size low = let whole = length-append front (drop column olds) in let rest = length-drop column olds in omega (arith, whole, rest, size)

pub cells_within : (olds cells : List Cell) (mask nulls changed emptied column : ℕ) (bytes behind : List ℕ) → IsSome (cells_behind mask nulls olds bytes) → CellsOn olds cells mask nulls changed emptied column bytes behind → 0 < changed
    → column < length cells
cells_within olds cells mask nulls changed emptied column bytes behind some on more =
    subst (λ (cs : List Cell). column < length cs) (sym on.items) (length_front on.front olds column on.size (column_within olds cells mask nulls changed emptied column bytes behind some on more))

get_behind : (front rest : List Cell) (column : ℕ) (cell : Cell) → length front ≡ column → slice_get (front ++ cell ∷ rest) column ≡ Some cell
get_behind [] rest column cell size = ap (λ k. slice_get (cell ∷ rest) k) (sym size)
get_behind (first ∷ front) rest zero cell size = absurd (omega (arith, size))
get_behind (first ∷ front) rest (suc column) cell size = get_behind front rest column cell (omega (arith, size))

set_behind : (front rest : List Cell) (column : ℕ) (old cell : Cell) → length front ≡ column → slice_set (front ++ old ∷ rest) column cell ≡ (front ++ cell ∷ []) ++ rest
set_behind [] rest column old cell size = ap (λ k. slice_set (old ∷ rest) k cell) (sym size)
set_behind (first ∷ front) rest zero old cell size = absurd (omega (arith, size))
set_behind (first ∷ front) rest (suc column) old cell size = ap (λ (cs : List Cell). first ∷ cs) (set_behind front rest column old cell (omega (arith, size)))

-- the cell of the column is what it was
olds_here : (olds cells front : List Cell) (column : ℕ) (old : Cell) → length front ≡ column → cells ≡ front ++ drop column olds → column < length olds → slice_get cells column ≡ Some old → slice_get olds column ≡ Some old
olds_here olds cells front column old size items low is =
    let here = slice_here olds column low in
    let text : drop column olds ≡ here.0 ∷ drop (column + 1) olds = at_column olds column here.0 here.1 in
    let same : Some here.0 ≡ Some old = sym (get_behind front (drop (column + 1) olds) column here.0 size) ∙ ap (λ (cs : List Cell). slice_get (front ++ cs) column) (sym text) ∙ ap (λ (cs : List Cell). slice_get cs column) (sym items) ∙ is in
    here.1 ∙ same

pub cell_some : (olds cells : List Cell) (mask nulls changed emptied column : ℕ) (bytes behind : List ℕ) (old : Cell) → IsSome (cells_behind mask nulls olds bytes) → CellsOn olds cells mask nulls changed emptied column bytes behind → 0 < changed
    → slice_get cells column ≡ Some old → IsSome (cell_behind (changed % 2 == 1) (emptied % 2 == 1) old behind)
cell_some olds cells mask nulls changed emptied column bytes behind old some on more is =
    let low = column_within olds cells mask nulls changed emptied column bytes behind some on more in
    let there = olds_here olds cells on.front column old on.size on.items low is in
    some_unless (cell_behind (changed % 2 == 1) (emptied % 2 == 1) old behind) (λ none.
    true≢false (sym (subst (λ r. IsSome r) (sym (cells_end on.front changed emptied olds column old behind (cells_behind mask nulls olds bytes) there none on.read)) some)))

pub cells_next : (olds cells news : List Cell) (mask nulls changed emptied column : ℕ) (bytes behind end : List ℕ) → IsSome (cells_behind mask nulls olds bytes) → CellsOn olds cells mask nulls changed emptied column bytes behind → 0 < changed
    → IsStep cells news column (changed % 2 == 1) (emptied % 2 == 1) behind end → CellsOn olds news mask nulls (changed / 2) (emptied / 2) (column + 1) bytes end
cells_next olds cells news mask nulls changed emptied column bytes behind end some on more step =
    let low = column_within olds cells mask nulls changed emptied column bytes behind some on more in
    let there = olds_here olds cells on.front column step.old on.size on.items low step.here in
    let text : drop column olds ≡ step.old ∷ drop (column + 1) olds = at_column olds column step.old there in
    record {
      front = on.front ++ step.cell ∷ [];
      size = length-append on.front (step.cell ∷ []) ∙ (let s = on.size in omega (arith, s));
      items =
          step.set ∙ ap (λ (cs : List Cell). slice_set cs column step.cell) (on.items ∙ ap (λ (cs : List Cell). on.front ++ cs) text)
          ∙ set_behind on.front (drop (column + 1) olds) column step.old step.cell on.size;
      read = cells_more on.front changed emptied olds column step.old step.cell behind end (cells_behind mask nulls olds bytes) there step.read on.read;
    }

no_change : (nulls : ℕ) (olds : List Cell) (bytes : List ℕ) → IsSome (cells_behind 0 nulls olds bytes) → cells_behind 0 nulls olds bytes ≡ Some (olds, bytes)
unfolding cells_behind
no_change nulls [] bytes is = ap (λ b. when b ([], bytes)) (when_some (0 == 0 && nulls == 0) ([], bytes) is)
no_change nulls (old ∷ olds) bytes is = by (nulls % 2 == 1) is (λ more. no_change (nulls / 2) olds bytes more)
  where
    g : Cell × List ℕ → Option (List Cell × List ℕ)
    g cell = cells_behind 0 (nulls / 2) olds cell.1 >>= λ (rest : List Cell × List ℕ). Some (cell.0 ∷ rest.0, rest.1)

    by : (b : Bool) → IsSome (cell_behind false b old bytes >>= g) → (IsSome (cells_behind 0 (nulls / 2) olds bytes) → cells_behind 0 (nulls / 2) olds bytes ≡ Some (olds, bytes)) → (cell_behind false b old bytes >>= g) ≡ Some (old ∷ olds, bytes)
    by true is next = absurd (true≢false (sym is))
    by false is next = ap (λ r. r >>= λ (rest : List Cell × List ℕ). Some (old ∷ rest.0, rest.1)) (next (bind_got (cells_behind 0 (nulls / 2) olds bytes) (λ (rest : List Cell × List ℕ). Some (old ∷ rest.0, rest.1)) is))

pub cells_done : (olds cells : List Cell) (mask nulls changed emptied column : ℕ) (bytes behind : List ℕ) → IsSome (cells_behind mask nulls olds bytes) → CellsOn olds cells mask nulls changed emptied column bytes behind → changed ≡ 0
    → Some (cells, behind) ≡ cells_behind mask nulls olds bytes
cells_done olds cells mask nulls changed emptied column bytes behind some on none =
    let read : with_front on.front (cells_behind 0 emptied (drop column olds) behind) ≡ cells_behind mask nulls olds bytes = ap (λ m. with_front on.front (cells_behind m emptied (drop column olds) behind)) (sym none) ∙ on.read in
    let is = front_some on.front (cells_behind 0 emptied (drop column olds) behind) (subst (λ r. IsSome r) (sym read) some) in
    ap (λ (cs : List Cell). Some (cs, behind)) on.items ∙ ap (with_front on.front) (sym (no_change emptied (drop column olds) behind is)) ∙ read

-- where the second column alone differs, it is next
pub second_next : (olds : List Cell) (bytes : List ℕ) → IsSome (cells_behind 2 0 olds bytes) → CellsOn olds olds 2 0 1 0 1 bytes bytes
second_next olds bytes some =
    let on = cells_first olds 2 0 bytes in
    let low : 0 < length olds = cells_within olds olds 2 0 2 0 0 bytes bytes some on (omega arith) in
    cells_next olds olds olds 2 0 2 0 0 bytes bytes bytes some on (omega arith)
    (step_unchanged olds 0 false bytes low (λ old here. cell_some olds olds 2 0 2 0 0 bytes bytes old some on (omega arith) here))

-- ---- a row

pub tag_some : (base : List Cell) (bytes : List ℕ) → IsSome (row_behind base bytes) → IsSome (word_at bytes)
unfolding row_behind
tag_some base bytes is = bind_got (word_at bytes) (λ (tag : ℕ × List ℕ). cond (tag.0 == 0) (Some (None, tag.1)) (present (cells_behind ((tag.0 - 1) % 256) ((tag.0 - 1) / 256) base tag.1))) is

row_step : (base : List Cell) (bytes : List ℕ) → row_behind base bytes ≡ (word_at bytes >>= λ (tag : ℕ × List ℕ). cond (tag.0 == 0) (Some (None, tag.1)) (present (cells_behind ((tag.0 - 1) % 256) ((tag.0 - 1) / 256) base tag.1)))
unfolding row_behind
row_step base bytes = refl

at_tag : (base : List Cell) (bytes : List ℕ) (tag : ℕ) (behind : List ℕ) (b : Bool) → Some (tag, behind) ≡ word_at bytes → (tag == 0) ≡ b
    → row_behind base bytes ≡ cond b (Some (None, behind)) (present (cells_behind ((tag - 1) % 256) ((tag - 1) / 256) base behind))
at_tag base bytes tag behind b read is =
    row_step base bytes
    ∙ ap (λ r. r >>= λ (tag : ℕ × List ℕ). cond (tag.0 == 0) (Some (None, tag.1)) (present (cells_behind ((tag.0 - 1) % 256) ((tag.0 - 1) / 256) base tag.1))) (sym read)
    ∙ ap (λ b. cond b (Some (None, behind)) (present (cells_behind ((tag - 1) % 256) ((tag - 1) / 256) base behind))) is

pub row_absent : (base : List Cell) (bytes : List ℕ) (tag : ℕ) (behind : List ℕ) → Some (tag, behind) ≡ word_at bytes → tag ≡ 0 → Some (None, behind) ≡ row_behind base bytes
row_absent base bytes tag behind read is = sym (at_tag base bytes tag behind true read (eq-eqb tag 0 is))

present_got : (read : Option (List Cell × List ℕ)) → IsSome (present read) → IsSome read
present_got None is = is
present_got (Some x) is = refl

pub row_cells : (base : List Cell) (bytes : List ℕ) (tag : ℕ) (behind : List ℕ) → Some (tag, behind) ≡ word_at bytes → 0 < tag → IsSome (row_behind base bytes) → IsSome (cells_behind ((tag - 1) % 256) ((tag - 1) / 256) base behind)
row_cells base bytes tag behind read some is =
    present_got (cells_behind ((tag - 1) % 256) ((tag - 1) / 256) base behind) (subst (λ r. IsSome r) (at_tag base bytes tag behind false read (ne_eqb tag 0 (λ e. absurd (omega (arith, e, some))))) is)

pub row_present : (base : List Cell) (bytes : List ℕ) (tag : ℕ) (behind : List ℕ) (cells : List Cell) (end : List ℕ) → Some (tag, behind) ≡ word_at bytes → 0 < tag
    → Some (cells, end) ≡ cells_behind ((tag - 1) % 256) ((tag - 1) / 256) base behind → Some (Some cells, end) ≡ row_behind base bytes
row_present base bytes tag behind cells end read some is = ap present is ∙ sym (at_tag base bytes tag behind false read (ne_eqb tag 0 (λ e. absurd (omega (arith, e, some)))))

-- ---- a version

pub record IsVersion (columns until time : ℕ) (row : Option (List Cell)) (bytes : List ℕ) : Type 0 where
  pub gap : ℕ
  pub behind : List ℕ
  pub new : Option (List Cell)
  pub end : List ℕ
  pub gap-read : word_at bytes ≡ Some (gap, behind)
  pub within : time + gap ≤ until
  pub row-read : row_behind (base_of columns row) behind ≡ Some (new, end)
  pub read : version_behind columns until time row bytes ≡ Some (version_at (time + gap) new, end)

pub version_of : (columns until time : ℕ) (row : Option (List Cell)) (bytes : List ℕ) → IsSome (version_behind columns until time row bytes) → IsVersion columns until time row bytes
unfolding version_behind
version_of columns until time row bytes is =
    let x = got (version_behind columns until time row bytes) is in
    let one = bind_some (word_at bytes) (λ (gap : ℕ × List ℕ). only_when (nat_lt 0 gap.0 && nat_le (time + gap.0) until) (row_behind (base_of columns row) gap.1) >>= λ (new : Option (List Cell) × List ℕ). Some (version_at (time + gap.0) new.0, new.1)) x.0 x.1 in
    let gap : ℕ × List ℕ = one.0 in
    let two = bind_some (only_when (nat_lt 0 gap.0 && nat_le (time + gap.0) until) (row_behind (base_of columns row) gap.1)) (λ (new : Option (List Cell) × List ℕ). Some (version_at (time + gap.0) new.0, new.1)) x.0 one.2 in
    let new : Option (List Cell) × List ℕ = two.0 in
    let three = only_ok (nat_lt 0 gap.0 && nat_le (time + gap.0) until) (row_behind (base_of columns row) gap.1) new two.1 in
    record {
      gap = gap.0;
      behind = gap.1;
      new = new.0;
      end = new.1;
      gap-read = one.1;
      within = leb-is (time + gap.0) until (second (nat_lt 0 gap.0) (nat_le (time + gap.0) until) three.0);
      row-read = three.1;
      read = x.1 ∙ sym two.2;
    }

-- the numbers that were read are those of the version
pub record IsFound (columns until time gap : ℕ) (row : Option (List Cell)) (bytes behind : List ℕ) : Type 0 where
  pub within : time + gap ≤ until
  pub some : IsSome (row_behind (base_of columns row) behind)
  pub found : (new : Option (List Cell)) (end : List ℕ) → Some (new, end) ≡ row_behind (base_of columns row) behind → Some (version_at (time + gap) new, end) ≡ version_behind columns until time row bytes
  pub new : Option (List Cell)
  pub end : List ℕ
  pub read : Some (version_at (time + gap) new, end) ≡ version_behind columns until time row bytes

pub found_of : (columns until time gap : ℕ) (row : Option (List Cell)) (bytes behind : List ℕ) → IsSome (version_behind columns until time row bytes) → Some (gap, behind) ≡ word_at bytes → IsFound columns until time gap row bytes behind
found_of columns until time gap row bytes behind is read =
    let v = version_of columns until time row bytes is in
    let same = some_is (v.gap, v.behind) (gap, behind) (sym v.gap-read ∙ sym read) in
    let gaps : v.gap ≡ gap = ap (λ (p : ℕ × List ℕ). p.0) same in
    let rests : v.behind ≡ behind = ap (λ (p : ℕ × List ℕ). p.1) same in
    let row-read : row_behind (base_of columns row) behind ≡ Some (v.new, v.end) = ap (row_behind (base_of columns row)) (sym rests) ∙ v.row-read in
    let whole : Some (version_at (time + gap) v.new, v.end) ≡ version_behind columns until time row bytes = ap (λ g. Some (version_at (time + g) v.new, v.end)) (sym gaps) ∙ sym v.read in
    record {
      within = (let w = v.within in omega (arith, w, gaps));
      some = is_got (row_behind (base_of columns row) behind) (v.new, v.end) row-read;
      found = λ new end is.
          let both = some_is (new, end) (v.new, v.end) (is ∙ row-read) in
          ap (λ (p : Option (List Cell) × List ℕ). Some (version_at (time + gap) p.0, p.1)) both ∙ whole;
      new = v.new;
      end = v.end;
      read = whole;
    }

pub version_some : (columns until time : ℕ) (versions : List Version) (tail : List ℕ) (counter count at : ℕ) (row : Option (List Cell)) (bytes : List ℕ) → columns ≤ 8 → until < 2 ^ 64 → counter < count
    → IsLeft columns until time versions tail counter count at row bytes → IsSome (version_behind columns until at row bytes)
version_some columns until time versions tail counter count at row bytes few low more is =
    some_unless (version_behind columns until at row bytes) (λ none. stuck columns until time versions tail counter count at row bytes few low more is none)
