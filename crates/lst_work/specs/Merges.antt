-- The merge worker of a phase.
use Rattle.std.specs.Prelude.{◌≡◌, ℕ, List, ◌++◌, false, take, map, length}
use Rattle.lst_model.specs.declared.lines.Line.{Line}
use Rattle.lst_model.specs.declared.replies.Reply.{Reply}
use Rattle.lst_rule.specs.declared.store.Store.{Store}
use Rattle.lst_session.specs.declared.passes.Merger.{Merger}
use Rattle.lst_session.specs.Parting.{IsMergerOf}
use Rattle.lst_work_laws.specs.Merges.{merges_of, Merging}
use Rattle.lst_work.specs.Blocks.{blocks_of, joined}
use Rattle.lst_work.specs.declared.merging.MergeQueue.{MergeQueue}

-- It has made the merges among these lines, and the replies were put behind those that were there.
pub record Merged (lines : List Line) (before after : Merger) (old new : MergeQueue) : Type 0 where
  pub replies : List Reply
  pub grows : new.replies ≡ old.replies ++ replies
  pub merging : Merging (merges_of lines) replies before.seat.view after.seat.view
  pub parts : new.parts ≡ old.parts

-- the replies to merges, block by block
abbrev pub merge_parts : MergeQueue → List (List Reply)
merge_parts queue = queue.parts.items

-- It has made the merges among these blocks, and the replies to each block's were put behind those that were there.
pub record MergedBlocks (blocks : List (List Line)) (before after : Merger) (old new : MergeQueue) : Type 0 where
  pub parts : List (List Reply)
  pub grows : merge_parts new ≡ merge_parts old ++ parts
  pub long : map length parts ≡ map (λ block. length (merges_of block)) blocks
  pub merging : Merging (merges_of (joined blocks)) (joined parts) before.seat.view after.seat.view

-- so it has, unless memory ran out, and is ready for the next phase
pub record HasMerged (store : Store) (lines : List Line) (before after : Merger) (old new : MergeQueue) : Type 0 where
  pub ready : IsMergerOf store after
  pub merged : new.has_failed ≡ false → MergedBlocks (blocks_of lines) before after old new

-- among some lines: it has made the merges of the first n of them
pub record IsMerging (store : Store) (lines : List Line) (before now : Merger) (old queue : MergeQueue) (n : ℕ) : Type 0 where
  pub ready : IsMergerOf store now
  pub merged : Merged (take n lines) before now old queue

-- it has made the merges of all blocks but those of the rest of the lines
pub record IsMergingBlocks (store : Store) (lines rest : List Line) (before now : Merger) (old queue : MergeQueue) : Type 0 where
  pub ready : IsMergerOf store now
  pub blocks : List (List Line)
  pub are : blocks ++ blocks_of rest ≡ blocks_of lines
  pub merged : MergedBlocks blocks before now old queue
