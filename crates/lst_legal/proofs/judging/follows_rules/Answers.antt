use Rattle.std.proofs.Common.{◌↔◌, IsTrue, List, subst}
use Rattle.lst_model.specs.declared.commits.Commit.{Commit}
use Rattle.lst_replies.specs.Runs.{AtEachCall}
use Rattle.lst_replies.specs.States.{floor_of}
use Rattle.lst_replies.specs.Explained.{TimeIsBounded, ConflictIsExplained, FullnessIsExplained}
use Rattle.lst_replies.specs.Legal.{AtEachWrite}
use Rattle.lst_legal_runs.specs.Places.{run_at}
use Rattle.lst_legal_runs.proofs.Deciding.{is_false, passes, refuses}
use Rattle.lst_legal.proofs.judging.follows_rules.Goals as goal

pub returns-then-not-branch-3 : goal.returns-then-not-branch-3
returns-then-not-branch-3 c =
    let run = run_at c.args.places.now in
    let decides = subst (λ (history : List Commit). IsTrue c.in_ok-is_fullness_explained.field-0 ↔ AtEachWrite (λ before session transaction write reply. FullnessIsExplained c.args.limits.now history run before session transaction write reply) run) c.commits-2.ensures c.in_ok-is_fullness_explained.ensures in
    is_false (λ rules. refuses c.in_ok-is_fullness_explained.field-0 c.if-not-branch-3.true decides rules.fullness)

pub returns-then-not-branch-4 : goal.returns-then-not-branch-4
returns-then-not-branch-4 c =
    let run = run_at c.args.places.now in
    let decides = subst (λ (history : List Commit). IsTrue c.in_ok-are_conflicts_explained.field-0 ↔ AtEachWrite (λ before session transaction write reply. ConflictIsExplained history run session transaction write reply) run) c.commits-3.ensures c.in_ok-are_conflicts_explained.ensures in
    is_false (λ rules. refuses c.in_ok-are_conflicts_explained.field-0 c.if-not-branch-4.true decides rules.conflicts)

pub returns : goal.returns
returns c =
    let run = run_at c.args.places.now in
    let times = subst (λ (history : List Commit). IsTrue c.in_ok-are_times_bounded.field-0 ↔ AtEachCall (λ before session call reply. TimeIsBounded history (floor_of session before) call reply) run) c.commits.ensures c.in_ok-are_times_bounded.ensures in
    let fullness = subst (λ (history : List Commit). IsTrue c.in_ok-is_fullness_explained.field-0 ↔ AtEachWrite (λ before session transaction write reply. FullnessIsExplained c.args.limits.now history run before session transaction write reply) run) c.commits-2.ensures c.in_ok-is_fullness_explained.ensures in
    let conflicts = subst (λ (history : List Commit). IsTrue c.in_ok-are_conflicts_explained.field-0 ↔ AtEachWrite (λ before session transaction write reply. ConflictIsExplained history run session transaction write reply) run) c.commits-3.ensures c.in_ok-are_conflicts_explained.ensures in (
      (λ sure. let sights = c.in_ok-told.ensures.0 sure in record {
        times = passes c.in_ok-are_times_bounded.field-0 c.if-not-branch-2.false times;
        reads = sights.0;
        refusals = passes c.are_refusals_exact.result c.if-not-are_refusals_exact.false c.are_refusals_exact.ensures;
        writes = sights.1;
        conflicts = passes c.in_ok-are_conflicts_explained.field-0 c.if-not-branch-4.false conflicts;
        fullness = passes c.in_ok-is_fullness_explained.field-0 c.if-not-branch-3.false fullness;
        merges = passes c.in_ok-are_merges_consistent.field-0 c.if-not-branch.false c.in_ok-are_merges_consistent.ensures;
      }),
      (λ rules. c.in_ok-told.ensures.1 (rules.reads, rules.writes)),
    )
