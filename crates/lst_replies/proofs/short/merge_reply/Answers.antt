use Rattle.std.proofs.Common.{◌≡◌, rules, sym, ap, ◌∙◌, option_map, arith}
use Rattle.lst_model.specs.declared.replies.Reply.TheVariants.{Merged, NothingNew, NoFrame}
use Rattle.lst_replies.proofs.Placed.{tested, merge_first, merge_second, merge_third, merge_none}
use Rattle.lst_replies.proofs.short.merge_reply.Goals as goal

pub returns-then-eq : goal.returns-then-eq
returns-then-eq c =
    let made : c.map.result ≡ option_map (λ n. Merged n) c.read_u32.result = search rules in
    made ∙ ap (option_map (λ n. Merged n)) c.read_u32.ensures
    ∙ sym (merge_first c.args.words.now _ (omega arith) (tested _ _ _ _ _ c.eq.ensures c.as_slice.ensures c.if-eq.true))

pub returns-then-eq-2 : goal.returns-then-eq-2
returns-then-eq-2 c =
    let made : c.map-then-eq-2.result ≡ option_map (λ n. NothingNew n) c.read_u32-then-eq-2.result = search rules in
    made ∙ ap (option_map (λ n. NothingNew n)) c.read_u32-then-eq-2.ensures
    ∙ sym (merge_second c.args.words.now _ (omega arith) (tested _ _ _ _ _ c.eq.ensures c.as_slice.ensures c.if-eq.false) (tested _ _ _ _ _ c.eq-else-eq.ensures c.as_slice-else-eq.ensures c.if-eq-2.true))

pub returns-then-eq-3 : goal.returns-then-eq-3
returns-then-eq-3 c =
    let made : c.map-then-eq-3.result ≡ option_map (λ n. NoFrame n) c.read_u32-then-eq-3.result = search rules in
    made ∙ ap (option_map (λ n. NoFrame n)) c.read_u32-then-eq-3.ensures
    ∙ sym (merge_third c.args.words.now _ (omega arith) (tested _ _ _ _ _ c.eq.ensures c.as_slice.ensures c.if-eq.false) (tested _ _ _ _ _ c.eq-else-eq.ensures c.as_slice-else-eq.ensures c.if-eq-2.false) (tested _ _ _ _ _ c.eq-else-eq-2.ensures c.as_slice-else-eq-2.ensures c.if-eq-3.true))

pub returns-else-eq-3 : goal.returns-else-eq-3
returns-else-eq-3 c = sym (merge_none c.args.words.now _ (omega arith) (tested _ _ _ _ _ c.eq.ensures c.as_slice.ensures c.if-eq.false) (tested _ _ _ _ _ c.eq-else-eq.ensures c.as_slice-else-eq.ensures c.if-eq-2.false) (tested _ _ _ _ _ c.eq-else-eq-2.ensures c.as_slice-else-eq-2.ensures c.if-eq-3.false))
