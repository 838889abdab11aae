-- Lines that are cut into blocks.
use Rattle.std.proofs.Common.{◌≡◌, ℕ, zero, suc, ◌+◌, ◌<◌, ◌≤◌, List, [], ◌∷◌, ◌++◌, length, take, drop, refl, sym, ap, ◌∙◌, arith, append_assoc}
use Rattle.std.proofs.lemmas.List.{length-drop, length-take, take-append-drop}
use Rattle.lst_model.specs.declared.lines.Line.{Line}
use Rattle.lst_work.specs.Blocks.{block_length, first_blocks, blocks_of, joined}

shorter : (line : Line) (lines : List Line) (n : ℕ) → length lines ≤ n → length (drop block_length (line ∷ lines)) ≤ n
shorter line lines n low = let e = length-drop block_length (line ∷ lines) in omega arith

-- where as many blocks are allowed as there are lines, one more makes no difference
enough : (n m : ℕ) (lines : List Line) → length lines ≤ n → length lines ≤ m → first_blocks n lines ≡ first_blocks m lines
enough n m [] a b = refl
enough zero m (line ∷ lines) a b = absurd (omega arith)
enough (suc n) zero (line ∷ lines) a b = absurd (omega arith)
enough (suc n) (suc m) (line ∷ lines) a b = ap (λ (bs : List (List Line)). take block_length (line ∷ lines) ∷ bs)
    (enough n m (drop block_length (line ∷ lines)) (shorter line lines n (omega arith)) (shorter line lines m (omega arith)))

-- the first block, and those of the lines after it
pub blocks_step : (lines : List Line) → 0 < length lines → blocks_of lines ≡ take block_length lines ∷ blocks_of (drop block_length lines)
blocks_step [] some = absurd (omega arith)
blocks_step (line ∷ lines) some = ap (λ (bs : List (List Line)). take block_length (line ∷ lines) ∷ bs)
    (enough (length lines) (length (drop block_length (line ∷ lines))) (drop block_length (line ∷ lines)) (shorter line lines (length lines) (omega arith)) (omega arith))

joined_first : (n : ℕ) (lines : List Line) → length lines ≤ n → joined (first_blocks n lines) ≡ lines
joined_first n [] low = refl
joined_first zero (line ∷ lines) low = absurd (omega arith)
joined_first (suc n) (line ∷ lines) low = ap (λ (ls : List Line). take block_length (line ∷ lines) ++ ls) (joined_first n (drop block_length (line ∷ lines)) (shorter line lines n (omega arith)))
    ∙ take-append-drop block_length (line ∷ lines)

-- blocks are the lines
pub joined_blocks : (lines : List Line) → joined (blocks_of lines) ≡ lines
joined_blocks lines = joined_first (length lines) lines (omega arith)

-- one block more, of those that a list of lines has
pub cut_on : (lines rest after block : List Line) (blocks : List (List Line)) → blocks ++ blocks_of rest ≡ blocks_of lines → 0 < length rest → block ≡ take block_length rest → after ≡ drop block_length rest
    → (blocks ++ block ∷ []) ++ blocks_of after ≡ blocks_of lines
cut_on lines rest after block blocks are some first left = append_assoc blocks (block ∷ []) (blocks_of after)
    ∙ (ap (λ (b : List Line). blocks ++ b ∷ blocks_of after) first ∙ (ap (λ (ls : List Line). blocks ++ take block_length rest ∷ blocks_of ls) left
    ∙ (ap (λ (bs : List (List Line)). blocks ++ bs) (sym (blocks_step rest some)) ∙ are)))

-- the lengths of the first block and of the rest
pub cut_sizes : (rest after block : List Line) → 0 < length rest → block ≡ take block_length rest → after ≡ drop block_length rest → (0 < length block) × (length block + length after ≡ length rest)
cut_sizes rest after block some first left =
    let b = ap length first ∙ length-take block_length rest in let a = ap length left ∙ length-drop block_length rest in (omega arith, omega arith)
