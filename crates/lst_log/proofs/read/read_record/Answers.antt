use Rattle.std.proofs.Common.{◌≡◌, ◌++◌, ℕ, List, length, take, sym, ◌∙◌, ap, subst}
use Rattle.lst_model.specs.declared.acts.Write.{Write}
use Rattle.lst_log.specs.Format.{body, HasRecord}
use Rattle.lst_log.proofs.Found.{none_of, no_record, other_bytes, found_there}
use Rattle.lst_log.proofs.read.read_record.Goals as goal

pub returns-in_default-clause-none : goal.returns-in_default-clause-none
returns-in_default-clause-none c = let none = rw c.in_default.is at c.in_ok-commit.ensures in none_of c.args.columns c.args.behind.now none

pub returns-then-not-has_record-clause-none : goal.returns-then-not-has_record-clause-none
returns-then-not-has_record-clause-none c =
    let some = rw c.in-Some.is at c.in_ok-commit.ensures in
    no_record c.args.columns c.args.behind.now c.in-Some.commit c.in-Some.field-0-1.now some c.has_record.result c.items.result.now c.if-not-has_record.true c.items.ensures c.has_record.ensures

pub returns-then-not-starts_with-clause-none : goal.returns-then-not-starts_with-clause-none
returns-then-not-starts_with-clause-none c =
    let some = rw c.in-Some.is at c.in_ok-commit.ensures in
    let own_is : c.as_slice.result.now ≡ body c.args.columns c.in-Some.commit = c.as_slice.ensures.value ∙ c.in_ok-push_body.ensures ∙ ap (λ (t : List ℕ). t ++ body c.args.columns c.in-Some.commit) c.clear.ensures.items in
    other_bytes c.args.columns c.args.behind.now c.in-Some.commit c.in-Some.field-0-1.now some c.starts_with.result c.as_slice.result.now c.if-not-starts_with.true own_is c.starts_with.ensures

pub returns-clause-found : goal.returns-clause-found
returns-clause-found c =
    let commit = c.in-Some.commit in
    let own_is : c.as_slice.result.now ≡ body c.args.columns commit = c.as_slice.ensures.value ∙ c.in_ok-push_body.ensures ∙ ap (λ (t : List ℕ). t ++ body c.args.columns commit) c.clear.ensures.items in
    let there : take (length c.as_slice.result.now) c.args.behind.now ≡ c.as_slice.result.now = c.starts_with.ensures.0 c.if-not-starts_with.false in
    let has = subst (λ (ws : List Write). HasRecord c.args.columns (record { session = commit.session; number = commit.number; begin = commit.begin; writes = ws })) c.items.ensures (c.has_record.ensures.0 c.if-not-has_record.false) in
    let rest = found_there c.args.columns c.args.behind.now c.as_slice.result.now commit c.len.result own_is there (c.len.ensures ∙ sym c.as_slice.ensures.len) in
    (has, rest.0, rest.1)
