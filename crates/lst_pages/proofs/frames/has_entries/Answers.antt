use Rattle.std.proofs.Common.{◌≡◌, ℕ, List, slice_index, slice_index_or, refl, sym, subst, ◌∙◌, arith, true≢false}
use borrow.Author.Count.{below_more}
use Rattle.lst_pack.specs.Forms.{Packs}
use Rattle.lst_pages.specs.Entries.{blank}
use Rattle.lst_pages.specs.Frames as frame
use Rattle.lst_pages.proofs.frames.has_entries.Goals as goal

pub returns-then-not-is_entry : goal.returns-then-not-is_entry
returns-then-not-is_entry c = let words : ℕ → ℕ = slice_index c.args.words.now in let slot : ℕ = c.loop-slot.slot in let entries = c.args.entries.now in (
  (λ no. absurd (true≢false (sym no))),
  (λ has. let out : c.unpack.new.out ≡ has.values = c.unpack.ensures has.values (subst (λ (ws : List ℕ). Packs ws has.values) (sym c.packed_words-2.ensures) has.packed) in
      let is : frame.IsEntry words (slice_index c.unpack.new.out slot) slot (slice_index_or entries slot blank) = subst (λ (vs : List ℕ). frame.IsEntry words (slice_index vs slot) slot (slice_index_or entries slot blank)) (sym out) (has.each slot (omega arith)) in
      absurd (true≢false (sym (c.is_entry.ensures.1 is) ∙ c.if-not-is_entry.true))),
)

pub returns : goal.returns
returns c = let words : ℕ → ℕ = slice_index c.args.words.now in
    let packed = c.is_packed.ensures.0 c.if-not-is_packed.false in
    let out : c.unpack.new.out ≡ packed.0 = c.unpack.ensures packed.0 (subst (λ (ws : List ℕ). Packs ws packed.0) (c.packed_words.ensures ∙ sym c.packed_words-2.ensures) packed.1) in
    let stands : Packs (frame.packed_in words) packed.0 = subst (λ (ws : List ℕ). Packs ws packed.0) c.packed_words.ensures packed.1 in (
      (λ is. record {
        values = c.unpack.new.out;
        packed = subst (λ (vs : List ℕ). Packs (frame.packed_in words) vs) (sym out) stands;
        each = λ i low. c.loop-slot.invariant i (omega arith);
      }),
      (λ has. refl),
    )

pub returns-then-not-is_packed : goal.returns-then-not-is_packed
returns-then-not-is_packed c = (
  (λ no. absurd (true≢false (sym no))),
  (λ has. absurd (true≢false (sym (c.is_packed.ensures.1 (has.values, subst (λ (ws : List ℕ). Packs ws has.values) (sym c.packed_words.ensures) has.packed)) ∙ c.if-not-is_packed.true))),
)

pub unpack-requires : goal.unpack-requires
unpack-requires c = let packed = c.is_packed.ensures.0 c.if-not-is_packed.false in (packed.0, subst (λ (ws : List ℕ). Packs ws packed.0) (c.packed_words.ensures ∙ sym c.packed_words-2.ensures) packed.1)

pub loop-slot-preserved : goal.loop-slot-preserved
loop-slot-preserved c = below_more (λ (i : ℕ). frame.IsEntry (slice_index c.args.words.now) (slice_index c.unpack.new.out i) i (slice_index_or c.args.entries.now i blank)) c.loop-slot.slot c.loop-slot.invariant (c.is_entry.ensures.0 c.if-not-is_entry.false)
