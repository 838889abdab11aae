-- Laws of right pages.
use Rattle.std.specs.Prelude.{◌≡◌, ℕ, ◌+◌, ◌<◌, ◌≤◌, List, ◌++◌, Bool, length, take, drop, slice_index}
use Rattle.lst_layout.specs.declared.TheConstants.{FRAME_WORDS}
use Rattle.lst_pages.specs.declared.tails.PageTail.{PageTail}
use Rattle.lst_pages.specs.declared.entries.Entry.{Entry}
use Rattle.lst_pages.specs.Tails.{touches}
use Rattle.lst_pages.specs.Entries.{folded}
use Rattle.lst_pack.specs.Forms.{Packs}
use Rattle.lst_pages.specs.Frames.{tps_in, packed_in, entry_in, HasEntries}
use Rattle.lst_pages.specs.Pages.{IsRightPage}

-- a page of zeros is right: it has no tails
abbrev pub ZerosAreRight : Type 0
ZerosAreRight = (c : ℕ) (ts : List PageTail) (words : ℕ → ℕ) → ((n : ℕ) → n < FRAME_WORDS → words n ≡ 0) → IsRightPage c ts words

-- a page stays right while tails settle
abbrev pub PageStaysRight : Type 0
PageStaysRight = (c : ℕ) (ts more : List PageTail) (words : ℕ → ℕ) → IsRightPage c ts words → IsRightPage c (ts ++ more) words

-- the words of its frame alone matter
abbrev pub PageIsItsWords : Type 0
PageIsItsWords = (c : ℕ) (ts : List PageTail) (words others : ℕ → ℕ) → ((n : ℕ) → n < FRAME_WORDS → others n ≡ words n) → IsRightPage c ts words → IsRightPage c ts others

-- a fold over more tails than a page has is the page and then the rest
abbrev pub FoldGoesOn : Type 0
FoldGoesOn = (p : PageTail → Bool) (c n k : ℕ) (e : Entry) (ts : List PageTail) → folded p c e (take (n + k) ts) ≡ folded p c (folded p c e (take n ts)) (take k (drop n ts))

-- a page that is made of a right one by the k tails after its TPS is right: its entries are those that the old words say, with the
-- values for which the old packed words stand, folded on
abbrev pub BuiltPageIsRight : Type 0
BuiltPageIsRight = (c k : ℕ) (ts : List PageTail) (old new : ℕ → ℕ) (values : List ℕ) → IsRightPage c ts old → Packs (packed_in old) values → tps_in old + k ≤ length ts → tps_in new ≡ tps_in old + k
    → HasEntries new (λ i. folded (touches c i) c (entry_in old (slice_index values i) i) (take k (drop (tps_in old) ts))) → IsRightPage c ts new
