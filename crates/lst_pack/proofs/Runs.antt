-- Runs in words: their ends rise, and a place is in one of them.
use Rattle.std.proofs.Common.{◌≡◌, ℕ, zero, suc, ◌+◌, ◌-◌, ◌*◌, ◌<◌, ◌≤◌, List, slice_index, ap, arith}
use mathlib.Core.Logic.{dite}
use native.Mathlib.Decide.{dec_lt}
use Rattle.lst_pack.specs.Forms.{run_end, AreRuns, IsInRun}

pub ends_rise : (words : List ℕ) (runs : ℕ) → AreRuns words runs → (run more : ℕ) → run + more < runs → run_end words run + more ≤ run_end words (run + more)
ends_rise words runs are run zero low = let e : run_end words (run + 0) ≡ run_end words run = ap (λ n. run_end words n) (omega arith) in omega arith
ends_rise words runs are run (suc more) low =
    let before = ends_rise words runs are run more (omega arith) in
    let step = are.rising (run + more) (omega arith) in
    let e : run_end words (run + more + 1) ≡ run_end words (run + suc more) = ap (λ n. run_end words n) (omega arith) in
    omega arith

-- a run begins where the one before it ends
pub run_before : (words : List ℕ) (run : ℕ) → 0 < run → run_end words (run - 1) ≡ slice_index words (2 * run)
run_before words run some = ap (λ n. slice_index words n) (omega arith)

-- an earlier run ends no later than a later one begins
pub ends_before : (words : List ℕ) (runs : ℕ) → AreRuns words runs → (run next : ℕ) → run < next → next ≤ runs → run_end words run ≤ slice_index words (2 * next)
ends_before words runs are run next low within =
    let rise = ends_rise words runs are run (next - 1 - run) (omega arith) in
    let e : run_end words (run + (next - 1 - run)) ≡ run_end words (next - 1) = ap (λ n. run_end words n) (omega arith) in
    let b = run_before words next (omega arith) in
    omega arith

pub ends_within : (words : List ℕ) (runs : ℕ) → AreRuns words runs → (run : ℕ) → run < runs → run_end words run ≤ 256
ends_within words runs are run low = let h = ends_before words runs are run runs low (omega arith) in omega (arith, are.last)

-- the end of a run with twice so many words as runs before it
pub end_here : (words : List ℕ) (run at : ℕ) → at ≡ 2 * run → slice_index words (2 + at) ≡ run_end words run
end_here words run at is = ap (λ n. slice_index words (2 + n)) is

-- it is past where the run before it ends, or past 0
pub end_past : (words : List ℕ) (runs run at start : ℕ) → AreRuns words runs → at ≡ 2 * run → run < runs → (0 < at → start ≡ slice_index words at) → (at ≡ 0 → start ≡ 0) → start < run_end words run
end_past words runs zero at start are is low some none = let z = none (omega arith) in let b = are.begins in omega arith
end_past words runs (suc run) at start are is low some none =
    let s = some (omega arith) in
    let r = are.rising run (omega arith) in
    let e : slice_index words at ≡ run_end words run = ap (λ n. slice_index words n) (omega arith) in
    let f : run_end words (run + 1) ≡ run_end words (suc run) = ap (λ n. run_end words n) (omega arith) in
    omega arith

not_below : (words : List ℕ) (runs place run next : ℕ) → AreRuns words runs → IsInRun words runs place run → IsInRun words runs place next → next ≤ run
not_below words runs place run next are one other = dite (dec_lt run next)
    (λ (h : run < next). let e = ends_before words runs are run next h (omega (arith, other.one)) in let f = other.from (omega arith) in absurd (omega (arith, one.below)))
    (λ h. omega (arith, h))

-- a place is in one run
pub one_run : (words : List ℕ) (runs place run next : ℕ) → AreRuns words runs → IsInRun words runs place run → IsInRun words runs place next → run ≡ next
one_run words runs place run next are one other =
    let a = not_below words runs place run next are one other in
    let b = not_below words runs place next run are other one in
    omega arith

-- each place below where a run begins is in one before it
in_some : (words : List ℕ) (runs place next : ℕ) → next ≤ runs → 0 < next → place < slice_index words (2 * next) → (run : ℕ) × IsInRun words runs place run
in_some words runs place zero within some low = absurd (omega arith)
in_some words runs place (suc run) within some low =
    let e : slice_index words (2 * suc run) ≡ run_end words run = ap (λ n. slice_index words n) (omega arith) in
    dite (dec_lt 0 run)
    (λ (later : 0 < run). dite (dec_lt place (slice_index words (2 * run)))
    (λ (before : place < slice_index words (2 * run)). in_some words runs place run (omega arith) later before)
    (λ past. (run, record { one = omega arith; from = λ _. omega (arith, past); below = omega arith })))
    (λ first. (run, record { one = omega arith; from = λ h. absurd (first h); below = omega arith }))

pub in_one : (words : List ℕ) (runs place : ℕ) → AreRuns words runs → place < 256 → (run : ℕ) × IsInRun words runs place run
in_one words runs place are low = in_some words runs place runs (omega arith) are.some (omega (arith, are.last))
