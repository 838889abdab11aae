use Rattle.std.proofs.Common.{◌≤◌, ◌+◌, ◌∙◌, List, ℕ, [], ◌∷◌, ap, sym, refl, length, arith}
use Rattle.std.specs.Prelude.{IsTrue}
use Rattle.std.proofs.lemmas.Bool.Decides.{nat_tests}
use Rattle.lst_disk.specs.declared.parts.Entry.TheVariants.{Wrote}
use Rattle.lst_disk.specs.Disk.{overwritten}
use Rattle.lst_disk.specs.Images.{Stored, are_within}
use Rattle.lst_disk.specs.ImageLaws.{torn_by_write}
use Rattle.lst_disk.proofs.Noted.{elapses_after, whole_after, within_after, write_follows, write_stores}
use Rattle.lst_disk.proofs.memory.MemDiskDisk.write_at.Goals as goal

pub invariant_of-self-2-clause-started : goal.invariant_of-self-2-clause-started
invariant_of-self-2-clause-started c =
    let m = c.args.self.now in
    let torn = torn_by_write m.content.items c.args.at c.args.from.now c.requires.within in
    omega (arith, m.started, torn.size, ap length c.overwrite.ensures)

pub invariant_of-self-2-clause-sized : goal.invariant_of-self-2-clause-sized
invariant_of-self-2-clause-sized c =
    let m = c.args.self.now in
    let torn = torn_by_write m.content.items c.args.at c.args.from.now c.requires.within in
    omega (arith, m.sized, torn.size, ap length c.overwrite.ensures)

pub invariant_of-self-2-clause-whole : goal.invariant_of-self-2-clause-whole
invariant_of-self-2-clause-whole c =
    let m = c.args.self.now in
    whole_after m.start.items m.entries.items m.pieces.items m.whole (Wrote c.args.at (length c.args.from.now)) c.args.from.now c.note.new.entries.items c.note_bytes.new.pieces.items c.note.ensures.items c.note_bytes.ensures.items (omega arith)

pub invariant_of-self-2-clause-within : goal.invariant_of-self-2-clause-within
invariant_of-self-2-clause-within c =
    let m = c.args.self.now in
    let here : c.args.at + length c.args.from.now ≤ length m.start.items = omega (arith, m.started, c.requires.within) in
    let one : IsTrue (are_within (length m.start.items) (Wrote c.args.at (length c.args.from.now) ∷ [])) = grind (arith, nat_tests, here) in
    within_after m.start.items m.entries.items m.pieces.items m.whole (Wrote c.args.at (length c.args.from.now)) c.args.from.now c.note.new.entries.items c.note_bytes.new.pieces.items c.note.ensures.items c.note_bytes.ensures.items (length m.start.items) m.within one

pub invariant_of-self-2-clause-kept : goal.invariant_of-self-2-clause-kept
invariant_of-self-2-clause-kept c =
    let m = c.args.self.now in
    ap (λ (s : Stored). s.content) (write_stores m.start.items m.entries.items m.pieces.items m.whole c.args.at (length c.args.from.now) c.args.from.now refl c.note.new.entries.items c.note_bytes.new.pieces.items c.note.ensures.items c.note_bytes.ensures.items)
    ∙ ap (λ (content : List ℕ). overwritten content c.args.at c.args.from.now) m.kept ∙ sym c.overwrite.ensures

pub invariant_of-self-2-clause-lasting : goal.invariant_of-self-2-clause-lasting
invariant_of-self-2-clause-lasting c =
    let m = c.args.self.now in
    ap (λ (s : Stored). s.synced) (write_stores m.start.items m.entries.items m.pieces.items m.whole c.args.at (length c.args.from.now) c.args.from.now refl c.note.new.entries.items c.note_bytes.new.pieces.items c.note.ensures.items c.note_bytes.ensures.items)
    ∙ m.lasting

pub returns-clause-crash : goal.returns-clause-crash
returns-clause-crash c =
    let m = c.args.self.now in
    write_follows m.start.items m.entries.items m.pieces.items m.whole c.args.at (length c.args.from.now) c.args.from.now refl c.note.new.entries.items c.note_bytes.new.pieces.items c.note.ensures.items c.note_bytes.ensures.items

pub returns-clause-time : goal.returns-clause-time
returns-clause-time c =
    let m = c.args.self.now in
    elapses_after m.start.items m.entries.items m.pieces.items m.whole (Wrote c.args.at (length c.args.from.now)) c.args.from.now c.note.new.entries.items c.note_bytes.new.pieces.items c.note.ensures.items c.note_bytes.ensures.items

pub returns-clause-pending : goal.returns-clause-pending
returns-clause-pending c =
    let m = c.args.self.now in
    ap (λ (s : Stored). s.pending) (write_stores m.start.items m.entries.items m.pieces.items m.whole c.args.at (length c.args.from.now) c.args.from.now refl c.note.new.entries.items c.note_bytes.new.pieces.items c.note.ensures.items c.note_bytes.ensures.items)
