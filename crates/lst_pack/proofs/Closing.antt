-- Runs that are written one after another.
use Rattle.std.proofs.Common.{◌≡◌, ◌≢◌, ℕ, ◌+◌, ◌-◌, ◌*◌, ◌<◌, ◌≤◌, List, length, slice_index, ap, arith, sym, ◌∙◌}
use mathlib.Core.Logic.{dite}
use native.Mathlib.Decide.{dec_lt}
use Rattle.lst_pack.specs.declared.forms.Form.TheVariants.{Runs}
use Rattle.lst_pack.specs.Forms.{run_value, run_end, IsInRun, PacksAs}
use Rattle.lst_pack.specs.Chosen.{AreMaximal}
use Rattle.lst_pack.specs.Counts.{AddsRun}

-- these many runs are written, of the values below the place where the last of them ends
pub record AreClosed (values out : List ℕ) (runs : ℕ) : Type 0 where
  pub begins : 0 < runs → 0 < run_end out 0
  pub rising : (run : ℕ) → run + 1 < runs → run_end out run < run_end out (run + 1)
  pub stands : (place run : ℕ) → IsInRun out runs place run → slice_index values place ≡ run_value out run
  pub maximal : (run : ℕ) → run + 1 < runs → run_value out run ≢ run_value out (run + 1)

-- besides, one is open that goes on up to this place: it begins where the last one ends, and its value is another
pub record IsOpen (values out : List ℕ) (runs place : ℕ) : Type 0 where
  pub closed : AreClosed values out runs
  pub past : 0 < runs → slice_index out (2 * runs) < place
  pub goes_on : (before : ℕ) → (0 < runs → slice_index out (2 * runs) ≤ before) → before < place → slice_index values before ≡ slice_index values (place - 1)
  pub other : 0 < runs → run_value out (runs - 1) ≢ slice_index values (place - 1)

pub none_open : (values out : List ℕ) → IsOpen values out 0 1
none_open values out = record {
  closed = record { begins = λ h. absurd (omega arith); rising = λ run h. absurd (omega arith); stands = λ place run is. absurd (omega (arith, is.one)); maximal = λ run h. absurd (omega arith) };
  past = λ h. absurd (omega arith);
  goes_on = λ before _ low. ap (λ n. slice_index values n) (let e : before ≡ 0 = omega arith in e);
  other = λ h. absurd (omega arith);
}

pub run_closed : (values out later : List ℕ) (runs place : ℕ) → 0 < place → IsOpen values out runs place → AddsRun values out later runs place → AreClosed values later (runs + 1)
run_closed values out later runs place some is adds = record {
  begins = λ _. dite (dec_lt 0 runs) (λ (h : 0 < runs). let b = is.closed.begins h in let e = same_end 0 h in omega arith)
      (λ no. let e : run_end later runs ≡ run_end later 0 = ap (λ n. run_end later n) (let z : runs ≡ 0 = omega (arith, no) in z) in omega (arith, adds.end));
  rising = λ run h. dite (dec_lt (run + 1) runs) (λ (low : run + 1 < runs). let r = is.closed.rising run low in let a = same_end run (omega arith) in let b = same_end (run + 1) low in omega arith)
      (λ no. let z : run + 1 ≡ runs = omega (arith, no) in let a = same_end run (omega arith) in let p = is.past (omega arith) in
      let f : run_end out run ≡ slice_index out (2 * runs) = ap (λ n. slice_index out n) (omega arith) in
      let g = ap (λ n. run_end later n) z in omega (arith, adds.end));
  stands = λ p run in_run. dite (dec_lt run runs)
      (λ (low : run < runs). is.closed.stands p run (record {
        one = low;
        from = λ h. let f = in_run.from h in let e = adds.same (2 * run) (omega arith) in omega arith;
        below = let b = in_run.below in let e = same_end run low in omega arith;
      })
      ∙ sym (same_value run low))
      (λ no. let z : run ≡ runs = omega (arith, no, in_run.one) in
      let e = ap (λ n. run_end later n) z in
      let b = in_run.below in
      is.goes_on p (λ h. let f = in_run.from (omega arith) in let g = ap (λ n. slice_index later (2 * n)) z in let s = adds.same (2 * runs) (omega arith) in omega arith) (omega (arith, adds.end))
      ∙ sym adds.value ∙ ap (λ n. run_value later n) (sym z));
  maximal = λ run h equal. dite (dec_lt (run + 1) runs)
      (λ (low : run + 1 < runs). is.closed.maximal run low (sym (same_value run (omega arith)) ∙ equal ∙ same_value (run + 1) low))
      (λ no. let z : run + 1 ≡ runs = omega (arith, no) in
      let y : runs - 1 ≡ run = omega arith in
      is.other (omega arith) (ap (λ n. run_value out n) y ∙ sym (same_value run (omega arith)) ∙ equal ∙ ap (λ n. run_value later n) z ∙ adds.value));
}
  where
    same_end : (run : ℕ) → run < runs → run_end later run ≡ run_end out run
    same_end run low = adds.same (2 + 2 * run) (omega arith)

    same_value : (run : ℕ) → run < runs → run_value later run ≡ run_value out run
    same_value run low = adds.same (1 + 2 * run) (omega arith)

-- where another value stands, the run is closed and the next one open
pub next_open : (values out later : List ℕ) (runs place : ℕ) → 0 < place → IsOpen values out runs place → AddsRun values out later runs place
    → slice_index values place ≢ slice_index values (place - 1) → IsOpen values later (runs + 1) (place + 1)
next_open values out later runs place some is adds new = record {
  closed = run_closed values out later runs place some is adds;
  past = λ _. omega (arith, at_end);
  goes_on = λ before from low. ap (λ n. slice_index values n) (let f = from (omega arith) in let e : before ≡ place + 1 - 1 = omega (arith, at_end) in e);
  other = λ _ equal. let y : runs + 1 - 1 ≡ runs = omega arith in let z : place + 1 - 1 ≡ place = omega arith in
      new (sym (ap (λ n. slice_index values n) z) ∙ sym equal ∙ ap (λ n. run_value later n) y ∙ adds.value);
}
  where
    at_end : slice_index later (2 * (runs + 1)) ≡ place
    at_end = ap (λ n. slice_index later n) (let e : 2 * (runs + 1) ≡ 2 + 2 * runs = omega arith in e) ∙ adds.end

-- where the same value stands, the run goes on
pub still_open : (values out : List ℕ) (runs place : ℕ) → 0 < place → IsOpen values out runs place → slice_index values place ≡ slice_index values (place - 1) → IsOpen values out runs (place + 1)
still_open values out runs place some is same = record {
  closed = is.closed;
  past = λ h. let p = is.past h in omega arith;
  goes_on = λ before from low. let z : place ≡ place + 1 - 1 = omega arith in
      dite (dec_lt before place) (λ (h : before < place). is.goes_on before from h ∙ sym same ∙ ap (λ n. slice_index values n) z)
      (λ past. ap (λ n. slice_index values n) (let e : before ≡ place + 1 - 1 = omega (arith, past) in e));
  other = λ h equal. let z : place + 1 - 1 ≡ place = omega arith in is.other h (equal ∙ ap (λ n. slice_index values n) z ∙ same);
}

-- once the run that goes on to the end is closed, the page is written
pub runs_written : (values out later : List ℕ) (runs : ℕ) → runs + 1 ≤ 128 → slice_index out 0 ≡ 3 + 8 * (runs + 1) → length later ≡ 257 → length values ≡ 256
    → IsOpen values out runs 256 → AddsRun values out later runs 256 → PacksAs (Runs (runs + 1)) later values × AreMaximal later (runs + 1)
runs_written values out later runs few first long full is adds =
    let closed = run_closed values out later runs 256 (omega arith) is adds in (
      record {
        first = adds.same 0 (omega arith) ∙ first;
        long = omega arith;
        has = record {
          some = omega arith;
          few = few;
          begins = closed.begins (omega arith);
          rising = closed.rising;
          last = ap (λ n. slice_index later n) (let e : 2 * (runs + 1) ≡ 2 + 2 * runs = omega arith in e) ∙ adds.end;
        };
        full = full;
        stands = λ place low run in_run. closed.stands place run in_run;
      },
      closed.maximal,
    )
