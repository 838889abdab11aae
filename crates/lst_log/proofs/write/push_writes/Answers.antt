use Rattle.std.proofs.Common.{◌≡◌, ◌++◌, ◌∷◌, ◌∙◌, ◌+◌, ℕ, List, ap, refl, sym, drop, append_assoc}
use Rattle.std.specs.List.{flat_map}
use Rattle.std.proofs.lemmas.List.{append-nil, drop_all, drop_more}
use Rattle.lst_model.specs.declared.acts.Write.{Write}
use Rattle.lst_log.specs.Format.{write_bytes}
use Rattle.lst_log.proofs.write.push_writes.Goals as goal

pub loop-write-preserved : goal.loop-write-preserved
loop-write-preserved c =
    let i : ℕ = c.loop-write.write-index in
    let ws : List Write = c.args.writes.now in
    let w : Write = c.write-item.result in
    let f : Write → List ℕ = write_bytes c.args.columns in
    let more : drop i ws ≡ w ∷ drop (i + 1) ws = drop_more ws i w c.loop-write-test.true ∙ ap (λ (x : Write). x ∷ drop (i + 1) ws) (sym c.write-item.is) in
    ap (λ (t : List ℕ). t ++ flat_map f (drop (i + 1) ws)) c.in_ok-push_write.ensures ∙ append_assoc c.loop-write.text.items (f w) (flat_map f (drop (i + 1) ws))
    ∙ ap (λ (xs : List Write). c.loop-write.text.items ++ flat_map f xs) (sym more) ∙ c.loop-write.invariant

pub loop-write-init : goal.loop-write-init
loop-write-init c = refl

pub push_write-requires-clause-columns : goal.push_write-requires-clause-columns
push_write-requires-clause-columns c = c.requires.columns

pub returns : goal.returns
returns c =
    let text : List ℕ = c.loop-write.text.items in
    let f : Write → List ℕ = write_bytes c.args.columns in
    sym (append-nil text) ∙ ap (λ (xs : List Write). text ++ flat_map f xs) (sym (drop_all c.loop-write.write-index c.args.writes.now c.loop-write-test.false)) ∙ c.loop-write.invariant
