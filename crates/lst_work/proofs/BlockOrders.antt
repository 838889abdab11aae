-- The order of the replies to a phase, from that of each block.
use Rattle.std.proofs.Common.{◌≡◌, ℕ, ◌<◌, List, [], ◌∷◌, ◌++◌, map, length, take, drop, get_or, cond, eqb, Option, Some, None, refl, sym, ap, ◌∙◌, arith}
use Rattle.std.proofs.lemmas.List.{map-append, take-append-drop}
use Rattle.std.proofs.lemmas.List.Elements.{filter_map-append}
use Rattle.lst_model.specs.declared.lines.Line.{Line}
use Rattle.lst_model.specs.declared.replies.Reply.{Reply}
use Rattle.lst_replies.specs.Runs.{speaker_of}
use Rattle.lst_work_laws.specs.Orders.{replies_from, queue_of}
use Rattle.lst_work.specs.declared.blocks.Block.{Block}
use Rattle.lst_work.specs.Orders.{queue_at, lines_from, AreInOrder}
use Rattle.lst_work.specs.Blocks.{block_length, blocks_of, queues_of, parts_at, AreAsLong, AreInBlockOrder}
use Rattle.lst_work.proofs.InBlocks.{blocks_step}

-- where there is no block, there is no line
pub no_blocks : (sessions : ℕ) (lines : List Line) (blocks : List Block) (places : List (Option ℕ × Reply)) → AreAsLong sessions lines blocks → length blocks ≡ 0 → length places ≡ length lines → AreInBlockOrder sessions lines blocks places
no_blocks sessions [] [] [] long none room = record { speakers = refl; own = λ queue. refl }
no_blocks sessions [] [] (place ∷ places) long none room = absurd (omega arith)
no_blocks sessions (line ∷ lines) [] places long none room = let e = ap length (long 0) in absurd (omega arith)
no_blocks sessions lines (block ∷ blocks) places long none room = absurd (omega arith)

-- where there is one, there is a line
pub some_lines : (sessions : ℕ) (lines : List Line) (block : Block) (blocks : List Block) → AreAsLong sessions lines (block ∷ blocks) → 0 < length lines
some_lines sessions [] block blocks long = let e = ap length (long 0) in absurd (omega arith)
some_lines sessions (line ∷ lines) block blocks long = omega arith

module _ (sessions : ℕ) (lines here after : List Line) (block : Block) (blocks : List Block) (first : here ≡ take block_length lines) (left : after ≡ drop block_length lines) where
  pub in_order_on : (front back : List (Option ℕ × Reply)) → AreInOrder sessions here (queues_of block) front → AreInBlockOrder sessions after blocks back → AreInBlockOrder sessions lines (block ∷ blocks) (front ++ back)
  in_order_on front back x y = record {
    speakers = map-append (λ (r : Option ℕ × Reply). r.0) front back
        ∙ (ap (λ (ss : List (Option ℕ)). ss ++ map (λ (r : Option ℕ × Reply). r.0) back) x.speakers
        ∙ (ap (λ (ss : List (Option ℕ)). map speaker_of here ++ ss) y.speakers
        ∙ (sym (map-append speaker_of here after)
        ∙ ap (map speaker_of) (ap (λ (ls : List Line). ls ++ after) first ∙ (ap (λ (ls : List Line). take block_length lines ++ ls) left ∙ take-append-drop block_length lines)))));
    own = λ queue. filter_map-append (λ (r : Option ℕ × Reply). cond (eqb (queue_of sessions r.0) queue) (Some r.1) None) front back
        ∙ (ap (λ (rs : List Reply). rs ++ replies_from sessions queue back) (x.own queue)
        ∙ ap (λ (rs : List Reply). queue_at (queues_of block) queue ++ rs) (y.own queue));
  }

  module _ (long : AreAsLong sessions lines (block ∷ blocks)) where
    both : (queue : ℕ) → map length (parts_at (block ∷ blocks) queue) ≡ lines_from sessions queue here ∷ map (lines_from sessions queue) (blocks_of after)
    both queue = long queue ∙ (ap (map (lines_from sessions queue)) (blocks_step lines (some_lines sessions lines block blocks long))
        ∙ (ap (λ (ls : List Line). lines_from sessions queue ls ∷ map (lines_from sessions queue) (blocks_of (drop block_length lines))) (sym first)
        ∙ ap (λ (ls : List Line). lines_from sessions queue here ∷ map (lines_from sessions queue) (blocks_of ls)) (sym left)))

    pub long_first : (queue : ℕ) → length (queue_at (queues_of block) queue) ≡ lines_from sessions queue here
    long_first queue = ap (λ (ns : List ℕ). get_or ns 0 0) (both queue)

    pub long_others : AreAsLong sessions after blocks
    long_others queue = ap (drop 1) (both queue)
