use Rattle.std.proofs.Common.{◌-◌, leb, sym, ◌∙◌, arith, rules}
use Rattle.std.proofs.lemmas.List.Sorted.{IsPartitionPoint-from_clause, IsPartitionedBy-leb}
use Rattle.std.specs.Prelude.{None}
use Rattle.lst_plain.specs.declared.versions.Version.{Version}
use Rattle.lst_plain.proofs.Timed.{none_early, last_early}
use Rattle.lst_plain.proofs.versions.row_as_of.Goals as goal

pub returns-then-count-eq0 : goal.returns-then-count-eq0
returns-then-count-eq0 c =
    let parted = IsPartitionedBy-leb (λ (v : Version). v.time) _ c.args.time c.requires in
    let point = IsPartitionPoint-from_clause (λ (v : Version). leb v.time c.args.time) _ _ c.partition_point-count.ensures.partitioned parted (λ a r q k. search rules) in
    sym (none_early None c.args.versions.now c.args.time (λ k d h. point.1 k d (omega arith) h))

pub returns : goal.returns
returns c =
    let parted = IsPartitionedBy-leb (λ (v : Version). v.time) _ c.args.time c.requires in
    let point = IsPartitionPoint-from_clause (λ (v : Version). leb v.time c.args.time) _ _ c.partition_point-count.ensures.partitioned parted (λ a r q k. search rules) in
    c.copied.ensures
    ∙ sym (last_early None c.args.versions.now c.args.time (c.partition_point-count.result - 1) c.index-versions-count.result (omega arith)
    (λ k e h. point.0 k e (omega arith) (omega arith)) (λ k e low high. point.1 k e (omega arith) high))
