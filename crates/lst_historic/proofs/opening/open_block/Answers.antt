use Rattle.std.proofs.Common.{◌≡◌, ◌∙◌, ℕ, List, refl, sym, subst}
use Rattle.lst_historic.specs.Blocks.{IsBlock}
use Rattle.lst_historic.specs.Places.{IsSomeBlock, ArePlaced}
use Rattle.lst_historic.proofs.opening.open_block.Goals as goal

pub returns-in_default-clause-bad : goal.returns-in_default-clause-bad
returns-in_default-clause-bad c =
    let whole : c.as_bytes.result.now ≡ c.args.bytes = c.as_bytes.ensures in
    (λ e is. c.in_default.ensures.none (subst IsSomeBlock (sym whole) is), λ not. refl)

pub places_of-requires : goal.places_of-requires
places_of-requires c = c.in-Some.ensures.some.block.few

pub from_parts-requires : goal.from_parts-requires
from_parts-requires c =
    let head = c.in-Some.ensures.some in
    let one : c.as_bytes.result.now ≡ c.args.bytes = c.as_bytes.ensures in
    let two : c.as_bytes-2.result.now ≡ c.args.bytes = c.as_bytes-2.ensures in
    let block = subst (λ (b : List ℕ). IsBlock b c.in-Some.head.columns c.in-Some.head.until head.chains) one head.block in
    record {
      chains = head.chains;
      block = block;
      placed = subst (λ (b : List ℕ). ArePlaced c.in-Some.head.columns b head.chains c.in-Ok.places.items) two
          (c.in-Ok.ensures head.chains (subst (λ (b : List ℕ). IsBlock b c.in-Some.head.columns c.in-Some.head.until head.chains) (sym two) block) head.size);
    }

pub returns-in-Err-clause-bad : goal.returns-in-Err-clause-bad
returns-in-Err-clause-bad c =
    let head = c.in-Some.ensures.some in
    let whole : c.as_bytes.result.now ≡ c.args.bytes = c.as_bytes.ensures in
    (λ e. absurd (cc), λ not. absurd (not (subst IsSomeBlock whole (c.in-Some.head.columns, c.in-Some.head.until, head.chains, head.block))))

pub returns-in-Ok-clause-bytes : goal.returns-in-Ok-clause-bytes
returns-in-Ok-clause-bytes c = c.from_parts.ensures

pub returns-in-Ok-clause-block : goal.returns-in-Ok-clause-block
returns-in-Ok-clause-block c =
    let head = c.in-Some.ensures.some in
    let whole : c.as_bytes.result.now ≡ c.args.bytes = c.as_bytes.ensures in
    λ ok. subst IsSomeBlock whole (c.in-Some.head.columns, c.in-Some.head.until, head.chains, head.block)

pub returns-in-Ok-clause-bad : goal.returns-in-Ok-clause-bad
returns-in-Ok-clause-bad c =
    let head = c.in-Some.ensures.some in
    let whole : c.as_bytes.result.now ≡ c.args.bytes = c.as_bytes.ensures in
    (λ e. absurd (cc), λ not. absurd (not (subst IsSomeBlock whole (c.in-Some.head.columns, c.in-Some.head.until, head.chains, head.block))))

pub returns-in_default-clause-bytes : goal.returns-in_default-clause-bytes
returns-in_default-clause-bytes c = tt

pub returns-in-Err-clause-bytes : goal.returns-in-Err-clause-bytes
returns-in-Err-clause-bytes c = tt
