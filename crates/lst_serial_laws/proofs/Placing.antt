-- Why the check at a commit gives its serial place.
use Rattle.std.proofs.Common.{◌≡◌, ℕ, ◌+◌, ◌-◌, ◌≤◌, List, ◌∷◌, ◌++◌, Bool, true, false, length, take, drop, refl, sym, ap, ◌∙◌, arith, append-nil}
use Rattle.std.specs.Prelude.{Option, None}
use Rattle.std.proofs.lemmas.List.{take-append-drop}
use Rattle.lst_model.specs.declared.commits.Commit.{Commit}
use Rattle.lst_model.specs.Cells.{Cell}
use Rattle.lst_model.specs.Tables.{Rows, row_of, all_applied, sum_of, count_of, scan_of, find_of}
use Rattle.lst_model.specs.Histories.{table_at, snapshot, row_from, acts_on, all_acts_on}
use Rattle.lst_model.proofs.Folds.{get_all_applied, get_table_at, all_acts_on-append}
use Rattle.lst_serial_laws.specs.Places.{IsUnwritten, AgreesOn, PlacesAnswerKeys, PlacesAnswerAll, ChecksPlace, UnchangedIsPlaced}
use Rattle.std.proofs.lemmas.List.{take-take, take_at}
use Rattle.std.proofs.Common.{length-append}

-- up to the later time there are the acts up to the earlier one, and no more
same_acts : (history : List Commit) (b t key : ℕ) → b ≤ t → IsUnwritten history b t key → all_acts_on key (take t history) ≡ all_acts_on key (take b history)
same_acts history b t key early none = ap (all_acts_on key) (sym (take-append-drop b (take t history)))
    ∙ (all_acts_on-append key (take b (take t history)) (drop b (take t history))
    ∙ ((λ i. all_acts_on key (take-take b t history early i) ++ none i) ∙ append-nil (all_acts_on key (take b history))))

agrees : (history : List Commit) (b t key : ℕ) → b ≤ t → IsUnwritten history b t key → AgreesOn history b t key
agrees history b t key early none = get_table_at history t key ∙ (ap (row_from None) (same_acts history b t key early none) ∙ sym (get_table_at history b key))

pub checks_place : ChecksPlace
checks_place reads all history begin time checked = record {
  rows = λ key was. choose all refl key was;
  whole = λ e. ap (table_at history) (checked.none e);
}
  where
    choose : (b : Bool) → all ≡ b → (key : ℕ) → reads key ≡ true → AgreesOn history begin (time - 1) key
    choose true e key was = ap (λ (t : ℕ). row_of (table_at history t) key) (checked.none e)
    choose false e key was = agrees history begin (time - 1) key checked.early (checked.keys e key was)

-- own writes make the same of the same row
pub places_answer_keys : PlacesAnswerKeys
places_answer_keys reads all history begin time placed own key was = record {
  row = get_all_applied (table_at history (time - 1)) own key ∙ (ap (λ (row : Option (List Cell)). row_from row (acts_on key own)) (placed.rows key was) ∙ sym (get_all_applied (table_at history begin) own key));
}

pub places_answer_all : PlacesAnswerAll
places_answer_all reads history begin time placed own = let same : snapshot history (time - 1) own ≡ snapshot history begin own = ap (λ (table : Rows). all_applied table own) (placed.whole refl) in record {
  table = same;
  sum = λ column. ap (λ (table : Rows). sum_of table column) same;
  count = ap count_of same;
  scan = ap scan_of same;
  find = λ column value. ap (λ (table : Rows). find_of table column value) same;
}

pub unchanged_is_placed : UnchangedIsPlaced
unchanged_is_placed reads all history commit rest begin checked = checks_place reads all whole begin (length history + 1) record {
  early = (let e = checked.begun in omega arith);
  few = (let e = length-append history (commit ∷ rest) in omega arith);
  keys = λ some key was. ap (λ (h : List Commit). all_acts_on key (drop begin h)) front ∙ checked.keys some key was;
  none = λ e. let f = checked.none e in omega arith;
}
  where
    whole : List Commit
    whole = history ++ commit ∷ rest

    front : take (length history + 1 - 1) (history ++ commit ∷ rest) ≡ history
    front = take_at history (commit ∷ rest) (length history + 1 - 1) (omega arith)
