use Rattle.std.proofs.Common.{◌≡◌, rules, sym, ap, ◌∙◌, option_map}
use Rattle.std.proofs.lemmas.Bool.{cond-true, cond-false}
use Rattle.lst_model.specs.declared.replies.Reply.TheVariants.{Begun, Committed, Ended, Count, Sum}
use Rattle.lst_replies.proofs.Placed.{tested}
use Rattle.lst_replies.proofs.short.numbered_reply.Goals as goal

pub returns-then-eq : goal.returns-then-eq
returns-then-eq c =
    let made : c.map.result ≡ option_map (λ n. Begun n) c.read_u64.result = search rules in
    made ∙ ap (option_map (λ n. Begun n)) c.read_u64.ensures
    ∙ sym (cond-true _ _ _ (tested _ _ _ _ _ c.eq.ensures c.as_slice.ensures c.if-eq.true))

pub returns-then-eq-2 : goal.returns-then-eq-2
returns-then-eq-2 c =
    let made : c.map-then-eq-2.result ≡ option_map (λ n. Committed n) c.read_u64-then-eq-2.result = search rules in
    made ∙ ap (option_map (λ n. Committed n)) c.read_u64-then-eq-2.ensures
    ∙ sym (cond-false _ _ _ (tested _ _ _ _ _ c.eq.ensures c.as_slice.ensures c.if-eq.false) ∙ cond-true _ _ _ (tested _ _ _ _ _ c.eq-else-eq.ensures c.as_slice-else-eq.ensures c.if-eq-2.true))

pub returns-then-eq-3 : goal.returns-then-eq-3
returns-then-eq-3 c =
    let made : c.map-then-eq-3.result ≡ option_map (λ n. Ended n) c.read_u64-then-eq-3.result = search rules in
    made ∙ ap (option_map (λ n. Ended n)) c.read_u64-then-eq-3.ensures
    ∙ sym (cond-false _ _ _ (tested _ _ _ _ _ c.eq.ensures c.as_slice.ensures c.if-eq.false) ∙ cond-false _ _ _ (tested _ _ _ _ _ c.eq-else-eq.ensures c.as_slice-else-eq.ensures c.if-eq-2.false) ∙ cond-true _ _ _ (tested _ _ _ _ _ c.eq-else-eq-2.ensures c.as_slice-else-eq-2.ensures c.if-eq-3.true))

pub returns-then-eq-4 : goal.returns-then-eq-4
returns-then-eq-4 c =
    let made : c.map-then-eq-4.result ≡ option_map (λ n. Count n) c.read_u64-then-eq-4.result = search rules in
    made ∙ ap (option_map (λ n. Count n)) c.read_u64-then-eq-4.ensures
    ∙ sym (cond-false _ _ _ (tested _ _ _ _ _ c.eq.ensures c.as_slice.ensures c.if-eq.false) ∙ cond-false _ _ _ (tested _ _ _ _ _ c.eq-else-eq.ensures c.as_slice-else-eq.ensures c.if-eq-2.false) ∙ cond-false _ _ _ (tested _ _ _ _ _ c.eq-else-eq-2.ensures c.as_slice-else-eq-2.ensures c.if-eq-3.false) ∙ cond-true _ _ _ (tested _ _ _ _ _ c.eq-else-eq-3.ensures c.as_slice-else-eq-3.ensures c.if-eq-4.true))

pub returns-then-eq-5 : goal.returns-then-eq-5
returns-then-eq-5 c =
    let made : c.map-then-eq-5.result ≡ option_map (λ n. Sum n) c.read_number.result = search rules in
    made ∙ ap (option_map (λ n. Sum n)) c.read_number.ensures
    ∙ sym (cond-false _ _ _ (tested _ _ _ _ _ c.eq.ensures c.as_slice.ensures c.if-eq.false) ∙ cond-false _ _ _ (tested _ _ _ _ _ c.eq-else-eq.ensures c.as_slice-else-eq.ensures c.if-eq-2.false) ∙ cond-false _ _ _ (tested _ _ _ _ _ c.eq-else-eq-2.ensures c.as_slice-else-eq-2.ensures c.if-eq-3.false) ∙ cond-false _ _ _ (tested _ _ _ _ _ c.eq-else-eq-3.ensures c.as_slice-else-eq-3.ensures c.if-eq-4.false) ∙ cond-true _ _ _ (tested _ _ _ _ _ c.eq-else-eq-4.ensures c.as_slice-else-eq-4.ensures c.if-eq-5.true))
