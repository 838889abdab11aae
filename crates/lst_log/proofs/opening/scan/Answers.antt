use Rattle.std.proofs.Common.{◌≡◌, ◌++◌, ◌+◌, ◌<◌, [], ◌∷◌, ℕ, List, length, get_or, drop, sym, ◌∙◌, ap, subst, arith}
use Rattle.lst_log.specs.Format.{body}
use Rattle.lst_log.specs.Journals.{IsDamagedAt}
use Rattle.lst_log.proofs.Looking.{reads_on, reads_so}
use Rattle.lst_log.proofs.Scans.{Scanned, damaged, may_not_follow, scanned_more, within_more}
use Rattle.lst_log.proofs.opening.scan.Goals as goal

pub returns-in_default-read-clause-damaged : goal.returns-in_default-read-clause-damaged
returns-in_default-read-clause-damaged g c = λ at is.
    let content = g.D.Disk.content in
    let image = content c.args.disk.now in
    let p = c.loop-at.invariant in
    let so_far : Scanned c.args.columns image c.loop-at.at p.commits c.loop-at.snapshots = record { whole = p.whole; place = p.place; each = p.each; recovered = p.recovered; same = p.same } in
    let same : content c.byte_at.new.disk ≡ image = c.byte_at.ensures.reads.same ∙ p.reads.same in
    let within : c.loop-at.at < length image = omega (arith, c.loop-at-test.true, c.size-size.ensures) in
    let gate : get_or image c.loop-at.at 0 ≡ 1 = ap (λ (bytes : List ℕ). get_or bytes c.loop-at.at 0) (sym p.reads.same) ∙ sym c.in-Ok.ensures.byte ∙ c.if-gate-ne1.false in
    let none = rw c.in_default-read.is at c.in-Ok-load_record.ensures.none in
    let there : c.loop-at.at ≡ at = cc in
    subst (λ (n : ℕ). IsDamagedAt c.args.columns image n) there
    (damaged c.args.columns image c.loop-at.at p.commits c.loop-at.snapshots so_far within gate (λ k after has follows e. none k after has (ap (drop (c.loop-at.at + 1)) same ∙ e)))

pub returns-then-not-follows-clause-damaged : goal.returns-then-not-follows-clause-damaged
returns-then-not-follows-clause-damaged g c = λ at is.
    let content = g.D.Disk.content in
    let image = content c.args.disk.now in
    let p = c.loop-at.invariant in
    let so_far : Scanned c.args.columns image c.loop-at.at p.commits c.loop-at.snapshots = record { whole = p.whole; place = p.place; each = p.each; recovered = p.recovered; same = p.same } in
    let same : content c.byte_at.new.disk ≡ image = c.byte_at.ensures.reads.same ∙ p.reads.same in
    let within : c.loop-at.at < length image = omega (arith, c.loop-at-test.true, c.size-size.ensures) in
    let gate : get_or image c.loop-at.at 0 ≡ 1 = ap (λ (bytes : List ℕ). get_or bytes c.loop-at.at 0) (sym p.reads.same) ∙ sym c.in-Ok.ensures.byte ∙ c.if-gate-ne1.false in
    let found = rw c.in-Some.is at c.in-Ok-load_record.ensures.found in
    let there = subst (λ (bytes : List ℕ). drop (c.loop-at.at + 1) bytes ≡ body c.args.columns c.in-Some.commit ++ drop c.in-Some.len (drop (c.loop-at.at + 1) bytes)) same found.2 in
    let place : c.loop-at.at ≡ at = cc in
    subst (λ (n : ℕ). IsDamagedAt c.args.columns image n) place
    (may_not_follow c.args.columns image c.loop-at.at p.commits c.loop-at.snapshots so_far within gate c.in-Some.commit c.in-Some.len found.0 found.1 there
    (c.len-in-loop-at.result + 1) (ap (λ (n : ℕ). n + 1) c.len-in-loop-at.ensures) c.follows.result c.follows.ensures c.if-not-follows.true)

pub loop-at-preserved : goal.loop-at-preserved
loop-at-preserved g c =
    let content = g.D.Disk.content in
    let image = content c.args.disk.now in
    let p = c.loop-at.invariant in
    let so_far : Scanned c.args.columns image c.loop-at.at p.commits c.loop-at.snapshots = record { whole = p.whole; place = p.place; each = p.each; recovered = p.recovered; same = p.same } in
    let same : content c.byte_at.new.disk ≡ image = c.byte_at.ensures.reads.same ∙ p.reads.same in
    let within : c.loop-at.at < length image = omega (arith, c.loop-at-test.true, c.size-size.ensures) in
    let gate : get_or image c.loop-at.at 0 ≡ 1 = ap (λ (bytes : List ℕ). get_or bytes c.loop-at.at 0) (sym p.reads.same) ∙ sym c.in-Ok.ensures.byte ∙ c.if-gate-ne1.false in
    let found = rw c.in-Some.is at c.in-Ok-load_record.ensures.found in
    let there = subst (λ (bytes : List ℕ). drop (c.loop-at.at + 1) bytes ≡ body c.args.columns c.in-Some.commit ++ drop c.in-Some.len (drop (c.loop-at.at + 1) bytes)) same found.2 in
    let more = scanned_more c.args.columns image c.loop-at.at p.commits c.loop-at.snapshots so_far within gate c.in-Some.commit c.in-Some.len found.0 found.1 there
    (c.len-in-loop-at.result + 1) (ap (λ (n : ℕ). n + 1) c.len-in-loop-at.ensures) c.follows.result c.follows.ensures c.push.new.self c.in-Ok-push.ensures.ok c.if-not-follows.false in
    record {
      commits = p.commits ++ c.in-Some.commit ∷ [];
      whole = more.whole;
      place = more.place;
      each = more.each;
      recovered = more.recovered;
      same = more.same;
      within = within_more c.args.columns image c.loop-at.at p.commits c.loop-at.snapshots so_far within gate c.in-Some.commit c.in-Some.len found.0 found.1 there
          (c.len-in-loop-at.result + 1) (ap (λ (n : ℕ). n + 1) c.len-in-loop-at.ensures) c.follows.result c.follows.ensures;
      reads = reads_on content g.D.Disk.images g.D.Disk.clock g.D.Disk.images_since g.D.Disk.calls_left g.D.Disk.outcome g.D.Disk.faults c.args.disk.now c.loop-at.disk c.load_record.new.disk ⊥ ⊥ p.reads
          (reads_on content g.D.Disk.images g.D.Disk.clock g.D.Disk.images_since g.D.Disk.calls_left g.D.Disk.outcome g.D.Disk.faults c.loop-at.disk c.byte_at.new.disk c.load_record.new.disk _ ⊥ c.byte_at.ensures.reads
          (reads_so content g.D.Disk.images g.D.Disk.clock g.D.Disk.images_since g.D.Disk.calls_left g.D.Disk.outcome g.D.Disk.faults c.byte_at.new.disk c.load_record.new.disk _ ⊥ (λ x. absurd x) c.load_record.ensures.reads));
    }
