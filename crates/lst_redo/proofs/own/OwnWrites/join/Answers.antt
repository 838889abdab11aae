use Rattle.std.proofs.Common.{◌≡◌, ◌∙◌, ◌++◌, ◌∷◌, ℕ, List, [], length, get_or, set, refl, sym, ap, subst, arith}
use Rattle.std.specs.List.{insert, remove}
use Rattle.std.proofs.lemmas.List.{set-get_or}
use Rattle.lst_model.specs.declared.acts.Write.{Write}
use Rattle.lst_model.specs.Histories.{joined}
use Rattle.lst_redo.proofs.Places.{set_set, remove_insert}
use Rattle.lst_redo.proofs.own.OwnWrites.join.Goals as goal

-- the list of a session is put back with one write more, or as it was
put_back : (own left new : List (List Write)) (s : ℕ) (items all : List Write) → left ≡ set own s [] → new ≡ set left s items → items ≡ all → new ≡ set own s all
put_back own left new s items all took put is = put ∙ ap (λ (o : List (List Write)). set o s items) took ∙ set_set own s [] items ∙ ap (λ (ws : List Write). set own s ws) is

pub returns-in-Ok-clause-joined : goal.returns-in-Ok-clause-joined
returns-in-Ok-clause-joined c =
    let own : List (List Write) = c.args.self.now in
    let s : ℕ = c.args.session in
    let ws : List Write = get_or own s [] in
    let place : ℕ = c.place_behind-place.result in
    let was : c.into_items-items.result.items ≡ ws = c.into_items-items.ensures ∙ c.take.ensures.taken in
    let joins : joined ws c.args.write ≡ insert ws place c.args.write =
    subst (λ (l : List Write). joined l c.args.write ≡ insert l place c.args.write) (c.as_slice.ensures.value ∙ was) (c.place_behind-place.ensures.joins c.args.write refl) in
    put_back own c.take.new.self c.put.new.self s c.from_items.result (joined ws c.args.write) c.take.ensures.left c.put.ensures
    (c.from_items.ensures ∙ c.in-Ok.ensures.items ∙ ap (λ (l : List Write). insert l place c.args.write) was ∙ sym joins)

pub returns-in-Ok-clause-back : goal.returns-in-Ok-clause-back
returns-in-Ok-clause-back c =
    let ws : List Write = get_or c.args.self.now c.args.session [] in
    let place : ℕ = c.place_behind-place.result in
    let was : c.as_slice.result.now ≡ ws = c.as_slice.ensures.value ∙ (c.into_items-items.ensures ∙ c.take.ensures.taken) in
    let joins : joined ws c.args.write ≡ insert ws place c.args.write =
    subst (λ (l : List Write). joined l c.args.write ≡ insert l place c.args.write) was (c.place_behind-place.ensures.joins c.args.write refl) in
    ap (λ (l : List Write). remove l place) joins ∙ remove_insert ws place c.args.write (let low = c.place_behind-place.ensures.within in let long = ap length was in omega (arith, low, long))

pub returns-in-Err-clause-err : goal.returns-in-Err-clause-err
returns-in-Err-clause-err c =
    let own : List (List Write) = c.args.self.now in
    let s : ℕ = c.args.session in
    put_back own c.take.new.self c.put.new.self s c.from_items.result (get_or own s []) c.take.ensures.left c.put.ensures
    (c.from_items.ensures ∙ c.in-Err.ensures.items ∙ c.into_items-items.ensures ∙ c.take.ensures.taken) ∙ set-get_or own s []
