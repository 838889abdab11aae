-- Pages of which a reader sees each entry.
use Rattle.std.proofs.Common.{◌≡◌, ℕ, zero, suc, ◌+◌, ◌/◌, ◌%◌, ◌<◌, ◌≤◌, List, Bool, true, cond, ◌==◌, ◌&&◌, le-leb, slice_index, ap, ◌∙◌, arith}
use Rattle.lst_kernel.specs.Entries.{is_seen, lane_of}
use Rattle.lst_scan.specs.Paged.{entries_add}
use Rattle.lst_scan.proofs.Sheets.{add_none, add_more}

pub entry_seen : (begin word : ℕ) → word % 2 ≡ 1 → word / 2 ≤ begin → is_seen begin word ≡ true
entry_seen begin word odd early = λ i. odd i == 1 && le-leb (word / 2) begin early i

-- where each is seen, there are as many as the page has
pub ones_seen : (begin : ℕ) (times : List ℕ) → ((i : ℕ) → i < 256 → is_seen begin (slice_index times i) ≡ true) → (n : ℕ) → n ≤ 256 → entries_add begin (λ (slot : ℕ). 1) times n ≡ n
ones_seen begin times each zero few = add_none begin (λ (slot : ℕ). 1) times
ones_seen begin times each (suc n) few = let next : suc n ≡ n + 1 = omega arith in
    let one : lane_of begin 1 (slice_index times n) ≡ 1 = ap (λ (b : Bool). cond b 1 0) (each n (omega arith)) in
    let before : entries_add begin (λ (slot : ℕ). 1) times n ≡ n = ones_seen begin times each n (omega arith) in
    ap (λ (m : ℕ). entries_add begin (λ (slot : ℕ). 1) times m) next ∙ (add_more begin (λ (slot : ℕ). 1) times n ∙ omega arith)
