-- A merge worker that makes one merge after another.
use Rattle.std.proofs.Common.{◌≡◌, ℕ, ◌+◌, ◌<◌, ◌≤◌, List, [], ◌∷◌, ◌++◌, length, map, take, drop, get_or, refl, sym, subst, ap, ◌∙◌, arith, append_assoc, append-nil}
use Rattle.std.proofs.lemmas.List.{take_more, map-append}
use Rattle.std.proofs.lemmas.Grind.{flat_map-append}
use Rattle.std.proofs.lemmas.List.Elements.{filter-append}
use Rattle.lst_walk.proofs.Lists.{take_whole}
use Rattle.lst_model.specs.declared.lines.Line.{Line}
use Rattle.lst_model.specs.declared.lines.Line.TheVariants.{Phase, Merge, Call}
use Rattle.lst_model.specs.declared.replies.Reply.{Reply}
use Rattle.lst_rule.specs.declared.store.Store.{Store}
use Rattle.lst_rule.specs.declared.view.View.{View}
use Rattle.lst_session.specs.declared.kinds.Merge.{Merge as Answer}
use Rattle.lst_session.specs.declared.kinds.Merge.TheVariants as merges
use Rattle.lst_session.specs.Merges.{Merges}
use Rattle.lst_session.specs.declared.passes.Merger.{Merger}
use Rattle.lst_session.specs.Lines.{MergeLeaves}
use Rattle.lst_session.specs.Parting.{IsMergerOf}
use Rattle.lst_session.specs.Replies.{merge_reply}
use Rattle.lst_work.specs.declared.merging.MergeQueue.{MergeQueue}
use Rattle.lst_work_laws.specs.Merges.{is_merge, merges_of, Merging}
use Rattle.lst_work.specs.Blocks.{block_length, blocks_of, joined}
use Rattle.lst_work.specs.Merges.{Merged, MergedBlocks, IsMerging, IsMergingBlocks, merge_parts}
use Rattle.lst_work.proofs.InBlocks.{cut_on, joined_blocks}

-- ---- one merge

leaves_by : (v w : View) (range column : ℕ) (answer : Answer) → Merges v w range column answer → MergeLeaves v w range column (merge_reply answer)
leaves_by v w range column (merges.Merged tps) x = x
leaves_by v w range column (merges.Idle tps) x = x
leaves_by v w range column (merges.NoFrame session) x = x

pub merged_page : (range column : ℕ) (answer : Answer) (reply : Reply) (before after : Merger) (old new : MergeQueue) → Merges before.seat.view after.seat.view range column answer
    → reply ≡ merge_reply answer → new.replies ≡ old.replies ++ reply ∷ [] → new.parts ≡ old.parts → Merged (Merge range column ∷ []) before after old new
merged_page range column answer reply before after old new x is grows same = record {
  replies = merge_reply answer ∷ [];
  grows = grows ∙ ap (λ (r : Reply). old.replies ++ r ∷ []) is;
  merging = (after.seat.view, leaves_by before.seat.view after.seat.view range column answer x, refl);
  parts = same;
}

-- a line that is none
pub merged_nothing : (lines : List Line) (merger : Merger) (queue : MergeQueue) → merges_of lines ≡ [] → Merged lines merger merger queue queue
merged_nothing lines merger queue none = record {
  replies = [];
  grows = sym (append-nil queue.replies);
  merging = subst (λ (ls : List Line). Merging ls [] merger.seat.view merger.seat.view) (sym none) refl;
  parts = refl;
}

-- ---- one after another

pub merging_on : (xs ys : List Line) (rs qs : List Reply) (v u w : View) → Merging xs rs v u → Merging ys qs u w → Merging (xs ++ ys) (rs ++ qs) v w
merging_on [] ys [] qs v u w a b = subst (λ (t : View). Merging ys qs t w) a b
merging_on [] ys (reply ∷ rs) qs v u w a b = absurd a
merging_on (Phase ∷ xs) ys rs qs v u w a b = absurd a
merging_on (Call session call ∷ xs) ys rs qs v u w a b = absurd a
merging_on (Merge range column ∷ xs) ys [] qs v u w a b = absurd a
merging_on (Merge range column ∷ xs) ys (reply ∷ rs) qs v u w a b = (a.0, a.1, merging_on xs ys rs qs a.0 u w a.2 b)

pub merged_on : (xs ys : List Line) (a b c : Merger) (p q r : MergeQueue) → Merged xs a b p q → Merged ys b c q r → Merged (xs ++ ys) a c p r
merged_on xs ys a b c p q r x y = record {
  replies = x.replies ++ y.replies;
  grows = y.grows ∙ (ap (λ (rs : List Reply). rs ++ y.replies) x.grows ∙ append_assoc p.replies x.replies y.replies);
  merging = subst (λ (ls : List Line). Merging ls (x.replies ++ y.replies) a.seat.view c.seat.view) (sym (filter-append is_merge xs ys))
      (merging_on (merges_of xs) (merges_of ys) x.replies y.replies a.seat.view b.seat.view c.seat.view x.merging y.merging);
  parts = y.parts ∙ x.parts;
}

pub merged_whole : (lines all : List Line) (a b : Merger) (p q : MergeQueue) → lines ≡ all → Merged lines a b p q → Merged all a b p q
merged_whole lines all a b p q e x = subst (λ (ls : List Line). Merged ls a b p q) e x

pub merging_first : (store : Store) (lines : List Line) (merger : Merger) (queue : MergeQueue) → IsMergerOf store merger → IsMerging store lines merger merger queue queue 0
merging_first store lines merger queue ready = record { ready = ready; merged = merged_nothing [] merger queue refl }

pub merging_then : (store : Store) (lines : List Line) (before now next : Merger) (old queue longer : MergeQueue) (n : ℕ) (line : Line) → IsMerging store lines before now old queue n → n < length lines → line ≡ get_or lines n line
    → IsMergerOf store next → Merged (line ∷ []) now next queue longer → IsMerging store lines before next old longer (n + 1)
merging_then store lines before now next old queue longer n line x inside is ready merged = record {
  ready = ready;
  merged = merged_whole (take n lines ++ line ∷ []) (take (n + 1) lines) before next old longer (sym (take_more lines n line inside ∙ ap (λ (l : Line). take n lines ++ l ∷ []) (sym is)))
      (merged_on (take n lines) (line ∷ []) before now next old queue longer x.merged merged);
}

pub merging_all : (store : Store) (lines : List Line) (before now : Merger) (old queue : MergeQueue) (n : ℕ) → IsMerging store lines before now old queue n → length lines ≤ n → Merged lines before now old queue
merging_all store lines before now old queue n x past = merged_whole (take n lines) lines before now old queue (take_whole lines n past) x.merged

-- ---- the replies

pub merging_long : (lines : List Line) (replies : List Reply) (v w : View) → Merging lines replies v w → length replies ≡ length lines
merging_long [] [] v w x = refl
merging_long [] (reply ∷ replies) v w x = absurd x
merging_long (Phase ∷ lines) replies v w x = absurd x
merging_long (Call session call ∷ lines) replies v w x = absurd x
merging_long (Merge range column ∷ lines) [] v w x = absurd x
merging_long (Merge range column ∷ lines) (reply ∷ replies) v w x = let h = merging_long lines replies x.0 w x.2 in omega arith

-- ---- by blocks

merges_joined : (xs ys : List (List Line)) → merges_of (joined (xs ++ ys)) ≡ merges_of (joined xs) ++ merges_of (joined ys)
merges_joined xs ys = ap merges_of (flat_map-append (λ (ls : List Line). ls) xs ys) ∙ filter-append is_merge (joined xs) (joined ys)

-- one block, from what its lines did to the queue that begins it
pub merged_block : (block : List Line) (before after : Merger) (old begun done new : MergeQueue) (replies : List Reply) → Merged block before after begun done → begun.parts ≡ old.parts → begun.replies ≡ []
    → replies ≡ done.replies → merge_parts new ≡ merge_parts done ++ replies ∷ [] → MergedBlocks (block ∷ []) before after old new
merged_block block before after old begun done new replies x none_more fresh are more =
    let said : replies ≡ x.replies = are ∙ (x.grows ∙ ap (λ (rs : List Reply). rs ++ x.replies) fresh) in
    let merging : Merging (merges_of block) replies before.seat.view after.seat.view = subst (λ (rs : List Reply). Merging (merges_of block) rs before.seat.view after.seat.view) (sym said) x.merging in
    record {
      parts = replies ∷ [];
      grows = more ∙ ap (λ (ps : List (List Reply)). ps ++ replies ∷ []) (ap (λ v. v.items) (x.parts ∙ none_more));
      long = ap (λ (n : ℕ). n ∷ []) (merging_long (merges_of block) replies before.seat.view after.seat.view merging);
      merging = subst (λ (ls : List Line). Merging (merges_of ls) (replies ++ []) before.seat.view after.seat.view) (sym (append-nil block))
          (subst (λ (rs : List Reply). Merging (merges_of block) rs before.seat.view after.seat.view) (sym (append-nil replies)) merging);
    }

merged_blocks_on : (xs ys : List (List Line)) (a b c : Merger) (p q r : MergeQueue) → MergedBlocks xs a b p q → MergedBlocks ys b c q r → MergedBlocks (xs ++ ys) a c p r
merged_blocks_on xs ys a b c p q r x y = record {
  parts = x.parts ++ y.parts;
  grows = y.grows ∙ (ap (λ (ps : List (List Reply)). ps ++ y.parts) x.grows ∙ append_assoc (merge_parts p) x.parts y.parts);
  long = map-append length x.parts y.parts
      ∙ (ap (λ (ns : List ℕ). ns ++ map length y.parts) x.long
      ∙ (ap (λ (ns : List ℕ). map (λ (block : List Line). length (merges_of block)) xs ++ ns) y.long
      ∙ sym (map-append (λ (block : List Line). length (merges_of block)) xs ys)));
  merging = subst (λ (ls : List Line). Merging ls (joined (x.parts ++ y.parts)) a.seat.view c.seat.view) (sym (merges_joined xs ys))
      (subst (λ (rs : List Reply). Merging (merges_of (joined xs) ++ merges_of (joined ys)) rs a.seat.view c.seat.view) (sym (flat_map-append (λ (rs : List Reply). rs) x.parts y.parts))
      (merging_on (merges_of (joined xs)) (merges_of (joined ys)) (joined x.parts) (joined y.parts) a.seat.view b.seat.view c.seat.view x.merging y.merging));
}

pub merging_blocks_first : (store : Store) (lines : List Line) (merger : Merger) (queue : MergeQueue) → IsMergerOf store merger → IsMergingBlocks store lines lines merger merger queue queue
merging_blocks_first store lines merger queue ready = record {
  ready = ready;
  blocks = [];
  are = refl;
  merged = record { parts = []; grows = sym (append-nil (merge_parts queue)); long = refl; merging = refl };
}

pub merging_blocks_on : (store : Store) (lines rest after block : List Line) (before now next : Merger) (old queue longer : MergeQueue) → IsMergingBlocks store lines rest before now old queue → 0 < length rest
    → block ≡ take block_length rest → after ≡ drop block_length rest → IsMergerOf store next → MergedBlocks (block ∷ []) now next queue longer → IsMergingBlocks store lines after before next old longer
merging_blocks_on store lines rest after block before now next old queue longer x some first left ready merged = record {
  ready = ready;
  blocks = x.blocks ++ block ∷ [];
  are = cut_on lines rest after block x.blocks x.are some first left;
  merged = merged_blocks_on x.blocks (block ∷ []) before now next old queue longer x.merged merged;
}

pub merging_blocks_all : (store : Store) (lines rest : List Line) (before now : Merger) (old queue : MergeQueue) → IsMergingBlocks store lines rest before now old queue → length rest ≡ 0 → MergedBlocks (blocks_of lines) before now old queue
merging_blocks_all store lines [] before now old queue x none = subst (λ (bs : List (List Line)). MergedBlocks bs before now old queue) (sym (append-nil x.blocks) ∙ x.are) x.merged
merging_blocks_all store lines (line ∷ rest) before now old queue x none = absurd (omega arith)

-- ---- the replies of a queue that had none

fresh_parts : (blocks : List (List Line)) (before after : Merger) (old new : MergeQueue) (x : MergedBlocks blocks before after old new) → old.parts.items ≡ [] → merge_parts new ≡ x.parts
fresh_parts blocks before after old new x none = x.grows ∙ ap (λ (ps : List (List Reply)). ps ++ x.parts) none

pub fresh_merging : (lines : List Line) (before after : Merger) (old new : MergeQueue) → MergedBlocks (blocks_of lines) before after old new → old.parts.items ≡ [] → Merging (merges_of lines) (joined (merge_parts new)) before.seat.view after.seat.view
fresh_merging lines before after old new x none =
    subst (λ (ls : List Line). Merging (merges_of ls) (joined (merge_parts new)) before.seat.view after.seat.view) (joined_blocks lines)
    (subst (λ (ps : List (List Reply)). Merging (merges_of (joined (blocks_of lines))) (joined ps) before.seat.view after.seat.view) (sym (fresh_parts (blocks_of lines) before after old new x none)) x.merging)

pub fresh_long : (lines : List Line) (before after : Merger) (old new : MergeQueue) → MergedBlocks (blocks_of lines) before after old new → old.parts.items ≡ [] → map length (merge_parts new) ≡ map (λ (block : List Line). length (merges_of block)) (blocks_of lines)
fresh_long lines before after old new x none = ap (map length) (fresh_parts (blocks_of lines) before after old new x none) ∙ x.long
