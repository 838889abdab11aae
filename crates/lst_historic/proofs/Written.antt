-- Rows and versions written one after the other, as loops do.
use Rattle.std.proofs.Common.{◌≡◌, ℕ, zero, suc, ◌+◌, ◌-◌, ◌*◌, ◌<◌, ◌≤◌, ◌^◌, Bool, true, false, cond, not, List, [], ◌∷◌, ◌++◌, length, map, get_or, take, drop, refl, sym, ap, ◌∙◌, subst, append_assoc, append-nil, add-one, drop-cons, arith, inl, inr}
use Rattle.std.proofs.lemmas.Bool.{cases_lt}
use Rattle.std.proofs.lemmas.List.{length-map, length-drop, length-replicate}
use Rattle.std.specs.List.{AllByRecursion}
use Rattle.std.specs.Prelude.{Option, Some, None, slice_get, is_none, min, ◌&&◌, ◌==◌}
use Rattle.lst_model.specs.Cells.{Cell}
use Rattle.lst_model.specs.Histories.{row_after}
use Rattle.lst_snapshots.specs.declared.versions.Version.{Version}
use Rattle.lst_snapshots.specs.Versions.{version_at}
use Rattle.lst_historic.specs.declared.steps.Step.{Step}
use Rattle.lst_historic.specs.Numbers.{spelled}
use Rattle.lst_historic.specs.Blocks.{base_of, are_same, changed_bits, emptied_bits, cell_text, differences, row_text, versions_text, CellFits, RowIsWide, VersionsAreWide, HasNumbers, HaveNumbers}
use Rattle.lst_historic.specs.Moves.{Move, move_of, moves, goes_on, stays_at, made_of, times_in, keys_in_turn}
use Rattle.lst_historic.proofs.Rows.{changed-below, emptied-below}
use Rattle.lst_historic.proofs.Loops.{at_column, none_behind}

-- ---- rows

nil_right : (olds : List Cell) → changed_bits olds [] ≡ 0
nil_right [] = refl
nil_right (old ∷ olds) = refl

nil_right_emptied : (olds : List Cell) → emptied_bits olds [] ≡ 0
nil_right_emptied [] = refl
nil_right_emptied (old ∷ olds) = refl

nil_right_text : (olds : List Cell) → differences olds [] ≡ []
nil_right_text [] = refl
nil_right_text (old ∷ olds) = refl

-- from the end of the shorter row on
pub record IsOver (olds news : List Cell) (n : ℕ) : Type 0 where
  pub changed : changed_bits (drop n olds) (drop n news) ≡ 0
  pub emptied : emptied_bits (drop n olds) (drop n news) ≡ 0
  pub text : differences (drop n olds) (drop n news) ≡ []

pub over : (olds news : List Cell) (n : ℕ) → min (length olds) (length news) ≤ n → IsOver olds news n
over olds news n low = elim (cases_lt n (length olds)) [
  | inr out ↦ let none = none_behind olds n out in record {
    changed = ap (λ (cells : List Cell). changed_bits cells (drop n news)) none;
    emptied = ap (λ (cells : List Cell). emptied_bits cells (drop n news)) none;
    text = ap (λ (cells : List Cell). differences cells (drop n news)) none;
  }
  | inl within ↦ let none = none_behind news n (omega arith) in record {
    changed = ap (λ (cells : List Cell). changed_bits (drop n olds) cells) none ∙ nil_right (drop n olds);
    emptied = ap (λ (cells : List Cell). emptied_bits (drop n olds) cells) none ∙ nil_right_emptied (drop n olds);
    text = ap (λ (cells : List Cell). differences (drop n olds) cells) none ∙ nil_right_text (drop n olds);
  }
]

module _ (olds news : List Cell) (n : ℕ) (old new : Cell) (here : slice_get olds n ≡ Some old) (there : slice_get news n ≡ Some new) where
  pub changed_more : changed_bits (drop n olds) (drop n news) ≡ cond (are_same old new) 0 1 + 2 * changed_bits (drop (n + 1) olds) (drop (n + 1) news)
  changed_more = ap (λ (cells : List Cell). changed_bits cells (drop n news)) (at_column olds n old here) ∙ ap (λ (cells : List Cell). changed_bits (old ∷ drop (n + 1) olds) cells) (at_column news n new there)

  pub emptied_more : emptied_bits (drop n olds) (drop n news) ≡ cond (are_same old new) 0 (cond (is_none new) 1 0) + 2 * emptied_bits (drop (n + 1) olds) (drop (n + 1) news)
  emptied_more = ap (λ (cells : List Cell). emptied_bits cells (drop n news)) (at_column olds n old here) ∙ ap (λ (cells : List Cell). emptied_bits (old ∷ drop (n + 1) olds) cells) (at_column news n new there)

  pub text_more : differences (drop n olds) (drop n news) ≡ cond (are_same old new) [] (cell_text old new) ++ differences (drop (n + 1) olds) (drop (n + 1) news)
  text_more = ap (λ (cells : List Cell). differences cells (drop n news)) (at_column olds n old here) ∙ ap (λ (cells : List Cell). differences (old ∷ drop (n + 1) olds) cells) (at_column news n new there)

pub changed_few : (olds news : List Cell) (n : ℕ) → length olds ≤ 8 → changed_bits (drop n olds) (drop n news) < 256
changed_few olds news n few = changed-below 8 (drop n olds) (drop n news) (omega (arith, length-drop n olds))

pub emptied_few : (olds news : List Cell) (n : ℕ) → length olds ≤ 8 → emptied_bits (drop n olds) (drop n news) < 256
emptied_few olds news n few = emptied-below 8 (drop n olds) (drop n news) (omega (arith, length-drop n olds))

pub numbers_more : (news : List Cell) (n : ℕ) (new : Cell) → slice_get news n ≡ Some new → CellFits new → AllByRecursion CellFits (drop (n + 1) news) → AllByRecursion CellFits (drop n news)
numbers_more news n new there fits rest = subst (λ (cells : List Cell). AllByRecursion CellFits cells) (sym (at_column news n new there)) (fits, rest)

pub numbers_end : (news : List Cell) (n : ℕ) → length news ≤ n → AllByRecursion CellFits (drop n news)
numbers_end news n out = subst (λ (cells : List Cell). AllByRecursion CellFits cells) (sym (none_behind news n out)) tt

pub base-wide : (columns : ℕ) (row : Option (List Cell)) → RowIsWide columns row → length (base_of columns row) ≡ columns
base-wide columns None wide = length-replicate columns (Some 0)
base-wide columns (Some row) wide = wide

-- the versions that are left, of versions as wide as a row
pub record AreRest (columns : ℕ) (last : Option (List Cell)) (left all : List Version) : Type 0 where
  pub last_wide : VersionsAreWide columns all → RowIsWide columns last
  pub wide : VersionsAreWide columns all → VersionsAreWide columns left
  pub numbers : VersionsAreWide columns all → HaveNumbers left → HaveNumbers all

pub rest_first : (columns : ℕ) (all : List Version) → AreRest columns None all all
rest_first columns all = record { last_wide = λ wide. tt; wide = λ wide. wide; numbers = λ wide numbers. numbers }

pub rest_next : (columns : ℕ) (last : Option (List Cell)) (left all : List Version) (time : ℕ) (row : Option (List Cell)) (behind : List Version) → left ≡ version_at time row ∷ behind
    → (RowIsWide columns last → RowIsWide columns row → HasNumbers row) → AreRest columns last left all → AreRest columns row behind all
rest_next columns last left all time row behind is own rest =
    let wide_left = λ (wide : VersionsAreWide columns all). subst (λ (vs : List Version). VersionsAreWide columns vs) is (rest.wide wide) in
    record {
      last_wide = λ wide. (wide_left wide).0;
      wide = λ wide. (wide_left wide).1;
      numbers = λ wide numbers. rest.numbers wide (subst (λ (vs : List Version). HaveNumbers vs) (sym is) (own (rest.last_wide wide) (wide_left wide).0, numbers));
    }

-- ---- steps

at_next : (steps : List Step) (place : ℕ) (step : Step) → place < length steps → get_or steps place step ≡ step → drop place (moves steps) ≡ move_of step ∷ drop (suc place) (moves steps)
at_next [] place step within is = absurd (omega arith)
at_next (first ∷ steps) zero step within is = ap (λ (s : Step). move_of s ∷ moves steps) is
at_next (first ∷ steps) (suc place) step within is = at_next steps place step (omega arith) is

pub at_step : (steps : List Step) (place : ℕ) (step : Step) → place < length steps → get_or steps place step ≡ step → drop place (moves steps) ≡ move_of step ∷ drop (place + 1) (moves steps)
at_step steps place step within is = at_next steps place step within is ∙ ap (λ k. move_of step ∷ drop k (moves steps)) (sym (add-one place))

pub moves-length : (steps : List Step) → length (moves steps) ≡ length steps
moves-length [] = refl
moves-length (step ∷ steps) = ap suc (moves-length steps)

pub no_step : (steps : List Step) (place : ℕ) → length steps ≤ place → drop place (moves steps) ≡ []
no_step steps place out = none_behind (moves steps) place (let size = moves-length steps in omega (arith, size))

keys_cons : (b : Bool) (key : ℕ) (keys : List ℕ) → length (cond b keys (key ∷ keys)) ≡ cond b 0 1 + length keys
keys_cons true key keys = omega arith
keys_cons false key keys = omega arith

pub keys_more : (place : ℕ) (ms : List Move) (move : Move) → drop place ms ≡ move ∷ drop (place + 1) ms → length (keys_in_turn (drop place ms)) ≡ cond (stays_at move.key (drop (place + 1) ms)) 0 1 + length (keys_in_turn (drop (place + 1) ms))
keys_more place ms move is = ap (λ (m : List Move). length (keys_in_turn m)) is ∙ keys_cons (stays_at move.key (drop (place + 1) ms)) move.key (keys_in_turn (drop (place + 1) ms))

pub step_followed : (place : ℕ) (ms : List Move) (move : Move) (row : Option (List Cell)) → drop place ms ≡ move ∷ drop (place + 1) ms → true ≡ goes_on move.time (drop (place + 1) ms)
    → made_of row (drop place ms) ≡ made_of (row_after row move.act) (drop (place + 1) ms)
step_followed place ms move row is on =
    ap (made_of row) is
    ∙ ap (λ b. cond b (made_of (row_after row move.act) (drop (place + 1) ms)) (version_at move.time (row_after row move.act) ∷ made_of (row_after row move.act) (drop (place + 1) ms))) (sym on)

pub step_ended : (place : ℕ) (ms : List Move) (move : Move) (row : Option (List Cell)) → drop place ms ≡ move ∷ drop (place + 1) ms → false ≡ goes_on move.time (drop (place + 1) ms)
    → made_of row (drop place ms) ≡ version_at move.time (row_after row move.act) ∷ made_of (row_after row move.act) (drop (place + 1) ms)
step_ended place ms move row is over =
    ap (made_of row) is
    ∙ ap (λ b. cond b (made_of (row_after row move.act) (drop (place + 1) ms)) (version_at move.time (row_after row move.act) ∷ made_of (row_after row move.act) (drop (place + 1) ms))) (sym over)

pub times_more : (place : ℕ) (ms : List Move) (move : Move) → drop place ms ≡ move ∷ drop (place + 1) ms → times_in (drop place ms) ≡ cond (goes_on move.time (drop (place + 1) ms)) 0 1 + times_in (drop (place + 1) ms)
times_more place ms move is = ap times_in is

-- the versions that are left, behind a time and a row
pub record IsOnVersion (columns : ℕ) (base : List Cell) (at : ℕ) (left all : List Version) (out total : List ℕ) : Type 0 where
  pub last : Option (List Cell)
  pub is : base ≡ base_of columns last
  pub text : out ++ versions_text columns at last left ≡ total
  pub rest : AreRest columns last left all

pub version_first : (columns : ℕ) (base : List Cell) (all : List Version) (out : List ℕ) → base ≡ base_of columns None → IsOnVersion columns base 0 all all out (out ++ versions_text columns 0 None all)
version_first columns base all out is = record { last = None; is = is; text = refl; rest = rest_first columns all }

-- one version more
pub version_next : (columns : ℕ) (base base-2 : List Cell) (at : ℕ) (left all : List Version) (out out-2 total : List ℕ) (time : ℕ) (row : Option (List Cell)) (behind : List Version)
    → left ≡ version_at time row ∷ behind → out-2 ≡ out ++ (spelled (time - at) ++ row_text base row) → (RowIsWide (length base) row → HasNumbers row) → base-2 ≡ base_of columns row
    → IsOnVersion columns base at left all out total → IsOnVersion columns base-2 time behind all out-2 total
version_next columns base base-2 at left all out out-2 total time row behind is one numbers next on =
    let rest = versions_text columns time row behind in
    let own = row_text base row in
    record {
      last = row;
      is = next;
      text =
          ap (λ o. o ++ rest) one
          ∙ append_assoc out (spelled (time - at) ++ own) rest
          ∙ ap (λ t. out ++ t) (append_assoc (spelled (time - at)) own rest)
          ∙ ap (λ b. out ++ (spelled (time - at) ++ (row_text b row ++ rest))) on.is
          ∙ ap (λ vs. out ++ versions_text columns at on.last vs) (sym is)
          ∙ on.text;
      rest = rest_next columns on.last left all time row behind is
          (λ last_wide row_wide. numbers (subst (λ n. RowIsWide n row) (sym (ap (λ (cells : List Cell). length cells) on.is ∙ base-wide columns on.last last_wide)) row_wide)) on.rest;
    }

pub version_end : (columns : ℕ) (base : List Cell) (at : ℕ) (left all : List Version) (out total : List ℕ) → left ≡ [] → IsOnVersion columns base at left all out total → (out ≡ total) × (VersionsAreWide columns all → HaveNumbers all)
version_end columns base at left all out total none on = (
  sym (append-nil out) ∙ ap (λ vs. out ++ versions_text columns at on.last vs) (sym none) ∙ on.text,
  λ wide. on.rest.numbers wide (subst (λ (vs : List Version). HaveNumbers vs) (sym none) tt),
)
