use Rattle.std.proofs.Common.{refl, ap, subst, ◌<◌, ◌-◌, length, replicate, ℕ, arith}
use Rattle.std.proofs.lemmas.List.{length-replicate}
use Rattle.lst_file.proofs.Growing.{Grown, leaves_start, leaves_same, grown_start, grown_on, crash_add, crash_synced, crash_unsynced}
use Rattle.lst_file.proofs.file_disk.FileDisk.grow.Goals as goal

pub returns-then-more-self-clause-crash : goal.returns-then-more-self-clause-crash
returns-then-more-self-clause-crash g c = leaves_same c.args.self.now c.args.self.now c.forget.new.self (leaves_start c.args.self.now) c.forget.ensures.offset c.forget.ensures.events

pub loop-left-init : goal.loop-left-init
loop-left-init g c =
    let f = c.forget.ensures in
    let start = grown_start c.args.self.now c.forget.new.self f.events f.offset f.content f.copy f.dead f.faults in
    let test = c.if-more-self.false in
    let sized = c.forget.new.self.sized in
    let fits = c.forget.new.self.fits in
    let same = f.offset in
    let wide = ap length f.content in
    (subst (λ (n : ℕ). Grown c.args.self.now c.forget.new.self n) (omega arith) start, omega arith, omega (arith, test, sized, fits, same, wide))

pub returns-in-Err-clause-crash : goal.returns-in-Err-clause-crash
returns-in-Err-clause-crash g c =
    let few = c.min-count.ensures in
    let some = c.loop-left-test.true in
    let n = c.min-count.result in
    let positive : 0 < n = omega (arith, few, some) in
    crash_add _ c.args.self.now c.loop-left.self c.add.new.self _ (replicate n 0) c.loop-left.invariant.0 (omega (arith, positive, length-replicate {A = ℕ} n 0)) c.in-Err.ensures.makes

pub loop-left-preserved : goal.loop-left-preserved
loop-left-preserved g c =
    let few = c.min-count.ensures in
    let some = c.loop-left-test.true in
    let n = c.min-count.result in
    let inv = c.loop-left.invariant in
    let le = inv.1 in
    let positive : 0 < n = omega (arith, few, some) in
    let on = grown_on _ c.args.self.now c.loop-left.self c.add.new.self (c.args.more - c.loop-left.left) n (replicate n 0) inv.0 refl positive c.in_default.ensures.makes c.in_default.ensures.content in
    (subst (λ (k : ℕ). Grown c.args.self.now c.add.new.self k) (omega (arith, few, le)) on, omega (arith, le), inv.2)

pub returns-in-Ok-clause-crash : goal.returns-in-Ok-clause-crash
returns-in-Ok-clause-crash g c = crash_synced _ c.args.self.now c.loop-left.self c.sync.new.self _ c.loop-left.invariant.0 c.in-Ok.ensures.makes

pub returns-in-Err-sync-clause-crash : goal.returns-in-Err-sync-clause-crash
returns-in-Err-sync-clause-crash g c = crash_unsynced _ c.args.self.now c.loop-left.self c.sync.new.self _ c.loop-left.invariant.0 c.in-Err-sync.ensures.makes
