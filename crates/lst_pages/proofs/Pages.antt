-- Right pages.
use Rattle.std.proofs.Common.{◌≡◌, ℕ, ◌+◌, ◌<◌, ◌≤◌, List, ◌++◌, Some, None, cond, refl, sym, subst, ap, ◌∙◌, arith, length, take, drop, replicate, slice_index}
use Rattle.std.proofs.lemmas.List.{take-append-le, length-append, length-replicate, get_or-replicate}
use Rattle.lst_layout.specs.declared.TheConstants.{FRAME_VALUES, FRAME_WORDS, RANGE_RECORDS}
use Rattle.lst_layout.specs.Frames.{time_place, null_place, null_bit}
use Rattle.lst_bits.specs.Times.{time_of, is_present}
use Rattle.lst_model.specs.Cells.{cell_of}
use Rattle.lst_pack.specs.declared.forms.Form.TheVariants.{Plain}
use Rattle.lst_pack.specs.Forms.{Packs}
use Rattle.lst_pack.proofs.Reading.{stands_for_one}
use Rattle.lst_pages.specs.declared.tails.PageTail.{PageTail}
use Rattle.lst_pages.specs.declared.entries.Entry.{Entry}
use Rattle.lst_pages.specs.Tails.{touches}
use Rattle.lst_pages.specs.Entries.{blank, folded}
use Rattle.lst_pages.specs.Frames.{tps_in, packed_in, entry_in, IsEntry, HasEntries}
use Rattle.lst_pages.specs.Pages.{IsRightPage}
use Rattle.lst_pages.proofs.Folds.{folded-take}
use Rattle.lst_pages.proofs.Lists.{get-listed, length-listed, listed-same}

-- an entry is told by its value and two words
entry-same : (words others : ℕ → ℕ) (value i : ℕ) → ((n : ℕ) → n < FRAME_WORDS → others n ≡ words n) → i < RANGE_RECORDS → entry_in others value i ≡ entry_in words value i
entry-same words others value i same low = let stamp = same (time_place i) (omega arith) in let nulls = same (null_place i) (omega arith) in
    (λ k. record { cell = cond (is_present (stamp k)) (Some (cell_of (nulls k) (null_bit i) value)) None; time = time_of (stamp k) })

packed-same : (words others : ℕ → ℕ) → ((n : ℕ) → n < FRAME_WORDS → others n ≡ words n) → packed_in others ≡ packed_in words
packed-same words others same = listed-same words others FRAME_VALUES (RANGE_RECORDS + 1) (λ i low high. same i (omega arith))

-- entries are said by the words of the frame alone
entries-same : (words others : ℕ → ℕ) (entries : ℕ → Entry) → ((n : ℕ) → n < FRAME_WORDS → others n ≡ words n) → HasEntries words entries → HasEntries others entries
entries-same words others entries same has = record {
  values = has.values;
  packed = subst (λ (ws : List ℕ). Packs ws has.values) (sym (packed-same words others same)) has.packed;
  each = λ i low. record { told = entry-same words others (slice_index has.values i) i same low ∙ (has.each i low).told; number = (has.each i low).number };
}

-- and entries may be told in another way
pub entries-told : (words : ℕ → ℕ) (entries others : ℕ → Entry) → ((i : ℕ) → i < RANGE_RECORDS → entries i ≡ others i) → HasEntries words entries → HasEntries words others
entries-told words entries others same has = record {
  values = has.values;
  packed = has.packed;
  each = λ i low. subst (IsEntry words (slice_index has.values i) i) (same i low) (has.each i low);
}

-- the words of a frame alone matter
pub right_same : (c : ℕ) (ts : List PageTail) (words others : ℕ → ℕ) → ((n : ℕ) → n < FRAME_WORDS → others n ≡ words n) → IsRightPage c ts words → IsRightPage c ts others
right_same c ts words others same right = let tps = same 0 (omega arith) in record {
  settled = let low = right.settled in omega arith;
  entries = subst (λ (n : ℕ). HasEntries others (λ i. folded (touches c i) c blank (take n ts))) (sym tps) (entries-same words others _ same right.entries);
}

-- a page stays right where settled tails are appended
pub right_more : (c : ℕ) (ts more : List PageTail) (words : ℕ → ℕ) → IsRightPage c ts words → IsRightPage c (ts ++ more) words
right_more c ts more words r = record {
  settled = let long = length-append ts more in let low = r.settled in omega arith;
  entries = subst (λ (us : List PageTail). HasEntries words (λ i. folded (touches c i) c blank us)) (sym (take-append-le (tps_in words) ts more r.settled)) r.entries;
}

-- words of 0 stand for 256 values of 0
zeros_packed : Packs (packed_in (λ n. 0)) (replicate RANGE_RECORDS 0)
zeros_packed = record {
  form = Plain;
  is = record {
    first = get-listed {A = ℕ} (λ n. 0) FRAME_VALUES (RANGE_RECORDS + 1) 0 0 (omega arith);
    long = let n = length-listed {A = ℕ} (λ n. 0) FRAME_VALUES (RANGE_RECORDS + 1) in omega arith;
    has = tt;
    full = length-replicate {A = ℕ} RANGE_RECORDS 0;
    stands = λ place low. get_or-replicate {A = ℕ} RANGE_RECORDS place 0 0 low ∙ sym (get-listed {A = ℕ} (λ n. 0) FRAME_VALUES (RANGE_RECORDS + 1) (1 + place) 0 (omega arith));
  };
}

no_entries : HasEntries (λ n. 0) (λ i. blank)
no_entries = record {
  values = replicate RANGE_RECORDS 0;
  packed = zeros_packed;
  each = λ i low. record { told = refl; number = λ cell none. absurd (let e : None ≡ Some cell = none in cc) };
}

-- a page of a frame whose words are 0 has no tails
pub right_blank : (c : ℕ) (ts : List PageTail) (words : ℕ → ℕ) → ((n : ℕ) → n < FRAME_WORDS → words n ≡ 0) → IsRightPage c ts words
right_blank c ts words zero = let tps = zero 0 (omega arith) in record {
  settled = omega arith;
  entries = subst (λ (n : ℕ). HasEntries words (λ i. folded (touches c i) c blank (take n ts))) (sym tps) (entries-same (λ n. 0) words (λ i. blank) zero no_entries);
}

-- a page that is built from a right one
pub build_right : (c k : ℕ) (ts : List PageTail) (old new : ℕ → ℕ) (values : List ℕ) → IsRightPage c ts old → Packs (packed_in old) values → tps_in old + k ≤ length ts → tps_in new ≡ tps_in old + k
    → HasEntries new (λ i. folded (touches c i) c (entry_in old (slice_index values i) i) (take k (drop (tps_in old) ts))) → IsRightPage c ts new
build_right c k ts old new values right packed long tps built = record {
  settled = omega arith;
  entries = entries-told new _ _ (λ i low. ap (λ (e : Entry). folded (touches c i) c e (take k (drop (tps_in old) ts))) (read i low)
      ∙ sym (folded-take (touches c i) c (tps_in old) k blank ts) ∙ ap (λ (n : ℕ). folded (touches c i) c blank (take n ts)) (sym tps)) built;
}
  where
    read : (i : ℕ) → i < RANGE_RECORDS → entry_in old (slice_index values i) i ≡ folded (touches c i) c blank (take (tps_in old) ts)
    read i low = ap (λ (vs : List ℕ). entry_in old (slice_index vs i) i) (stands_for_one (packed_in old) values right.entries.values packed right.entries.packed) ∙ (right.entries.each i low).told
