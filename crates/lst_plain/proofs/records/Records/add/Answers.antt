use Rattle.std.proofs.Common.{◌≡◌, ap, ◌∙◌, sym, cond, false, length, ◌++◌, [], ◌∷◌, rules}
use Rattle.std.specs.Prelude.{Some, Result, Ok, Err, OnOk, is_err}
use Rattle.std.specs.Ordering.{nat_cmp}
use Rattle.std.specs.BTreeMap.{is_at}
use Rattle.lst_machine.specs.Writes.{place_of}
use Rattle.lst_plain.specs.Rows.{keys_of}
use Rattle.lst_plain.proofs.Placing.{indexed}
use Rattle.lst_plain.proofs.records.Records.add.Goals as goal

at_ok : {T E P : Type 0} (r : Result T E) → false ≡ is_err r → OnOk r P → P
at_ok (Ok x) is p = p
at_ok (Err e) is p = absurd (cc)

pub invariant_of-self-else-is_err : goal.invariant_of-self-else-is_err
invariant_of-self-else-is_err c = λ q.
    (at_ok _ c.if-is_err.ensures.value c.insert.ensures.updates).0 q
    ∙ ap (cond (is_at (nat_cmp c.args.key) q) (Some c.len-place.result)) (c.self.invariant q)
    ∙ ap (λ n. cond (is_at (nat_cmp c.args.key) q) (Some n) (place_of (keys_of c.self.inside.items.items) q)) (let e : c.len-place.result ≡ length c.self.inside.items.items = search rules in e)
    ∙ indexed c.self.inside.items.items c.args.key q (ap (λ records. place_of (keys_of records) c.args.key) c.self.view_is ∙ c.requires)
    ∙ ap (λ records. place_of (keys_of records) q) (ap (λ kept. c.self.inside.items.items ++ kept ∷ []) (sym c.new.ensures) ∙ sym c.in_ok-push.ensures.items)
