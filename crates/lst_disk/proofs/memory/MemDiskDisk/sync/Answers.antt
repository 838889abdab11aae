use Rattle.std.proofs.Common.{◌∙◌, ap, sym, refl, subst, length, []}
use Rattle.std.proofs.lemmas.List.{append-nil}
use Rattle.lst_disk.specs.declared.parts.Entry.TheVariants.{Synced}
use Rattle.lst_disk.specs.Images.{Stored}
use Rattle.lst_disk.proofs.Noted.{elapses_after, whole_after, within_after, sync_stores, sync_only}
use Rattle.lst_disk.specs.MemoryLaws.{content_stays}
use Rattle.lst_disk.specs.Memory.{disk_images}
use Rattle.lst_disk.proofs.memory.MemDiskDisk.sync.Goals as goal

pub invariant_of-self-2-clause-whole : goal.invariant_of-self-2-clause-whole
invariant_of-self-2-clause-whole c =
    let m = c.args.self.now in
    whole_after m.start.items m.entries.items m.pieces.items m.whole Synced [] c.note.new.entries.items m.pieces.items c.note.ensures.items (sym (append-nil m.pieces.items)) refl

pub invariant_of-self-2-clause-within : goal.invariant_of-self-2-clause-within
invariant_of-self-2-clause-within c =
    let m = c.args.self.now in
    within_after m.start.items m.entries.items m.pieces.items m.whole Synced [] c.note.new.entries.items m.pieces.items c.note.ensures.items (sym (append-nil m.pieces.items)) (length m.start.items) m.within refl

pub invariant_of-self-2-clause-kept : goal.invariant_of-self-2-clause-kept
invariant_of-self-2-clause-kept c =
    let m = c.args.self.now in
    ap (λ (s : Stored). s.content) (sync_stores m.start.items m.entries.items m.pieces.items m.whole c.note.new.entries.items c.note.ensures.items) ∙ m.kept

pub invariant_of-self-2-clause-lasting : goal.invariant_of-self-2-clause-lasting
invariant_of-self-2-clause-lasting c =
    let m = c.args.self.now in
    ap (λ (s : Stored). s.synced) (sync_stores m.start.items m.entries.items m.pieces.items m.whole c.note.new.entries.items c.note.ensures.items) ∙ m.kept ∙ sym (c.copy.ensures ∙ c.as_slice.ensures.value)

pub returns-clause-durable : goal.returns-clause-durable
returns-clause-durable c =
    let m = c.args.self.now in
    λ image left. sync_only m.start.items m.entries.items m.pieces.items m.whole c.note.new.entries.items c.note.ensures.items image left ∙ m.kept

pub returns-clause-crash : goal.returns-clause-crash
returns-clause-crash c =
    let m = c.args.self.now in
    λ image left. subst (disk_images m) (sym (sync_only m.start.items m.entries.items m.pieces.items m.whole c.note.new.entries.items c.note.ensures.items image left ∙ m.kept)) (content_stays m)

pub returns-clause-time : goal.returns-clause-time
returns-clause-time c =
    let m = c.args.self.now in
    elapses_after m.start.items m.entries.items m.pieces.items m.whole Synced [] c.note.new.entries.items m.pieces.items c.note.ensures.items (sym (append-nil m.pieces.items))

pub returns-clause-pending : goal.returns-clause-pending
returns-clause-pending c =
    let m = c.args.self.now in
    ap (λ (s : Stored). s.pending) (sync_stores m.start.items m.entries.items m.pieces.items m.whole c.note.new.entries.items c.note.ensures.items)
