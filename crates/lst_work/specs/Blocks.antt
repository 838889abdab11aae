-- The lines of a phase, in blocks: the replies to each block are put in order by themselves.
use Rattle.std.specs.Prelude.{◌≡◌, ℕ, zero, suc, List, [], ◌∷◌, Option, map, length, take, drop, flat_map}
use Rattle.lst_model.specs.declared.lines.Line.{Line}
use Rattle.lst_model.specs.declared.replies.Reply.{Reply}
use Rattle.lst_replies.specs.Runs.{speaker_of}
use Rattle.lst_work_laws.specs.Orders.{replies_from}
use Rattle.lst_work.specs.Orders.{queue_at, lines_from}
use Rattle.lst_work.specs.declared.blocks.Block.{Block}

-- how many lines a block has, but for the last one
abbrev pub block_length : ℕ
block_length = 32768

-- the first blocks of these lines, at most so many
abbrev pub first_blocks : ℕ → List Line → List (List Line)
first_blocks n [] = []
first_blocks zero (line ∷ lines) = []
first_blocks (suc n) (line ∷ lines) = take block_length (line ∷ lines) ∷ first_blocks n (drop block_length (line ∷ lines))

-- these lines in blocks, in order
abbrev pub blocks_of : List Line → List (List Line)
blocks_of lines = first_blocks (length lines) lines

-- lists one after another, as one
abbrev pub joined : {X : Type 0} → List (List X) → List X
joined parts = flat_map (λ part. part) parts

-- what stands in the queues of a block
abbrev pub queues_of : Block → List (List Reply)
queues_of block = block.queues.items

-- what stands in a queue, block by block
abbrev pub parts_at : List Block → ℕ → List (List Reply)
parts_at blocks queue = map (λ block. queue_at (queues_of block) queue) blocks

-- each queue has, in each block, as many replies as there are lines of the block that have theirs there
abbrev pub AreAsLong : ℕ → List Line → List Block → Type 0
AreAsLong sessions lines blocks = (queue : ℕ) → map length (parts_at blocks queue) ≡ map (lines_from sessions queue) (blocks_of lines)

-- one reply for each line, in the order of the lines, each with its line's session; and those from each queue are that queue of the blocks
pub record AreInBlockOrder (sessions : ℕ) (lines : List Line) (blocks : List Block) (replies : List (Option ℕ × Reply)) : Type 0 where
  pub speakers : map (λ reply. reply.0) replies ≡ map speaker_of lines
  pub own : (queue : ℕ) → replies_from sessions queue replies ≡ joined (parts_at blocks queue)
