-- A page in hand, and the words that are made of it.
use Rattle.std.proofs.Common.{◌≡◌, ◌≢◌, ℕ, zero, suc, [], ◌∷◌, ◌++◌, ◌-◌, drop, ◌^◌, ◌+◌, ◌*◌, ◌/◌, ◌%◌, ◌<◌, ◌≤◌, List, Bool, true, false, cond, eqb, Option, Some, None, refl, sym, subst, ap, ◌∙◌, arith, rules, length, slice_index, eq-eqb, ne_eqb, slice_set, get_or-set_same, get_or-set_other, length-set, true≢false, ◌==◌}
use Rattle.std.specs.Prelude.{is_some, bit_or, bit_xor}
use Rattle.std.specs.Int.{bit_at}
use Rattle.std.proofs.Math.Nat.{pow-le-pow_right}
use Rattle.std.proofs.lemmas.Nat.Bits.{bit_at_xor, bit_at-pow_same, bit_at-pow_other, bit_at-lt}
use Rattle.std.proofs.lemmas.Grind.{same_number_lists}
use Rattle.std.proofs.lemmas.List.{places, length-append, length-drop}
use borrow.Rule.Slice.PartMut.{put_mid}
use mathlib.Core.Logic.{dite}
use native.Mathlib.Decide.{ℕ_discrete}
use Rattle.lst_layout.specs.declared.TheConstants.{RANGE_RECORDS, FRAME_VALUES, FRAME_TIMES, FRAME_NULLS, FRAME_WORDS}
use Rattle.lst_layout.specs.Frames.{time_place, null_place, null_bit}
use Rattle.lst_bits.specs.Times.{time_word, time_of, is_present}
use Rattle.lst_model.specs.Cells.{Cell, has_bit, cell_of, is_to_null, changed_number}
use Rattle.lst_core_state.proofs.PostingsKept.{has_bit-same, has_bit-other}
use Rattle.lst_pack.specs.Forms.{Packs}
use Rattle.lst_pack.proofs.Reading.{stands_for_one}
use Rattle.lst_pages.specs.declared.entries.Entry.{Entry}
use Rattle.lst_pages.specs.Frames.{packed_in, stamp_in, IsEntry, HasEntries}
use Rattle.lst_pages.proofs.Lists.{get-listed, length-listed}
use Rattle.lst_merge.specs.Pages.{entry_of, AreValuesIn, AreNumbers, AreEntriesIn, AreAbsentZero, IsWith}

-- ---- an entry by its time word, null bit and value

abbrev entry_with : Option Cell → ℕ → Entry
entry_with cell time = record { cell = cell; time = time }

-- a time word, a null bit and a value say an entry
said : (word nulls bit value time : ℕ) (cell : Option Cell) → word ≡ time_word time (is_some cell) → has_bit nulls bit ≡ is_to_null cell → value ≡ changed_number cell
    → entry_with (cond (is_present word) (Some (cell_of nulls bit value)) None) (time_of word) ≡ entry_with cell time
said word nulls bit value time None is null number = let absent : is_present word ≡ false = ne_eqb (word % 2) 1 (λ e. omega arith) in let at : time_of word ≡ time = omega arith in
    λ i. record { cell = cond (absent i) (Some (cell_of nulls bit value)) None; time = at i }
said word nulls bit value time (Some None) is null number = let present : is_present word ≡ true = eq-eqb (word % 2) 1 (omega arith) in let at : time_of word ≡ time = omega arith in
    λ i. record { cell = cond (present i) (Some (cond (null i) None (Some value))) None; time = at i }
said word nulls bit value time (Some (Some n)) is null number = let present : is_present word ≡ true = eq-eqb (word % 2) 1 (omega arith) in let at : time_of word ≡ time = omega arith in
    λ i. record { cell = cond (present i) (Some (cond (null i) None (Some (number i)))) None; time = at i }

-- ---- values that were read

-- the value of an entry is the number of its cell, once it is 0 where the entry is absent, and where it is null
number_read : (present null : Bool) (value packed : ℕ) → value ≡ cond present packed 0 → (present ≡ true → null ≡ true → packed ≡ 0) → value ≡ changed_number (cond present (Some (cond null None (Some value))) None)
number_read false null value packed is nought = is
number_read true true value packed is nought = is ∙ nought refl refl
number_read true false value packed is nought = refl

entry_read : (present null : Bool) (value packed time : ℕ) → value ≡ cond present packed 0 → entry_with (cond present (Some (cond null None (Some value))) None) time ≡ entry_with (cond present (Some (cond null None (Some packed))) None) time
entry_read false null value packed time is = refl
entry_read true null value packed time is = ap (λ (n : ℕ). entry_with (Some (cond null None (Some n))) time) is

-- the number of a cell that is null
null_number : (present null : Bool) (packed : ℕ) → ((cell : Cell) → cond present (Some (cond null None (Some packed))) None ≡ Some cell → packed ≡ changed_number (Some cell)) → present ≡ true → null ≡ true → packed ≡ 0
null_number false null packed number p n = absurd (true≢false (sym p))
null_number true false packed number p n = absurd (true≢false (sym n))
null_number true true packed number p n = number None refl

module _ (words : ℕ → ℕ) (values : List ℕ) (read : AreValuesIn words values) where
  pub entries_read : AreEntriesIn words (entry_of words values)
  entries_read packed packs i low = entry_read (is_present (stamp_in words i)) (has_bit (words (null_place i)) (null_bit i)) (slice_index values i) (slice_index packed i) (time_of (stamp_in words i)) (read packed packs i low)

  pub numbers_read : (entries : ℕ → Entry) → HasEntries words entries → AreNumbers words values
  numbers_read entries has i low = number_read (is_present (stamp_in words i)) (has_bit (words (null_place i)) (null_bit i)) (slice_index values i) (slice_index has.values i) (read has.values has.packed i low)
      (null_number (is_present (stamp_in words i)) (has_bit (words (null_place i)) (null_bit i)) (slice_index has.values i)
      (λ cell e. (has.each i low).number cell (sym (ap (λ (f : Entry). f.cell) (has.each i low).told) ∙ e)))

-- zeros say that each entry is absent
pub zeros_are_numbers : (words values : List ℕ) → ((i : ℕ) → slice_index words i ≡ 0) → ((i : ℕ) → slice_index values i ≡ 0) → AreNumbers (slice_index words) values
zeros_are_numbers words values none nought i low = nought i ∙ (λ k. changed_number (cond (sym (none (time_place i)) k % 2 == 1) (Some (cell_of (slice_index words (null_place i)) (null_bit i) (slice_index values i))) None))

-- one value more
pub values_next : (words : ℕ → ℕ) (values : List ℕ) (slot value : ℕ) → slot < length values
    → ((packed : List ℕ) → Packs (packed_in words) packed → (i : ℕ) → i < slot → slice_index values i ≡ cond (is_present (stamp_in words i)) (slice_index packed i) 0)
    → ((packed : List ℕ) → Packs (packed_in words) packed → (i : ℕ) → slot ≤ i → slice_index values i ≡ slice_index packed i)
    → value ≡ cond (is_present (stamp_in words slot)) (slice_index values slot) 0
    → (packed : List ℕ) → Packs (packed_in words) packed → (i : ℕ) → i < slot + 1 → slice_index (slice_set values slot value) i ≡ cond (is_present (stamp_in words i)) (slice_index packed i) 0
values_next words values slot value low before rest is packed packs i short = dite (ℕ_discrete i slot)
    (λ e. ap (slice_index (slice_set values slot value)) e ∙ (get_or-set_same values slot value 0 low ∙ (is ∙ (ap (λ (n : ℕ). cond (is_present (stamp_in words slot)) n 0) (rest packed packs slot (omega arith)) ∙ ap (λ (j : ℕ). cond (is_present (stamp_in words j)) (slice_index packed j) 0) (sym e)))))
    (λ ne. get_or-set_other values slot i value 0 ne ∙ before packed packs i (omega arith))

pub rest_next : (words : ℕ → ℕ) (values : List ℕ) (slot value : ℕ)
    → ((packed : List ℕ) → Packs (packed_in words) packed → (i : ℕ) → slot ≤ i → slice_index values i ≡ slice_index packed i)
    → (packed : List ℕ) → Packs (packed_in words) packed → (i : ℕ) → slot + 1 ≤ i → slice_index (slice_set values slot value) i ≡ slice_index packed i
rest_next words values slot value rest packed packs i low = let ne : i ≢ slot = (λ e. omega arith) in get_or-set_other values slot i value 0 ne ∙ rest packed packs i (omega arith)

-- ---- a bit of a word

pub bit_shifted : (bit : ℕ) → bit < 64 → 1 * 2 ^ bit % 18446744073709551616 ≡ 2 ^ bit
bit_shifted bit low = let up : 2 ^ bit ≤ 2 ^ 63 = pow-le-pow_right {n = 2} (omega arith) {i = bit} {j = 63} (omega arith) in omega arith

has_one : (word bit : ℕ) → has_bit word bit ≡ true → bit_at word bit ≡ 1
has_one word bit is = dite (ℕ_discrete (bit_at word bit) 1) (λ e. e) (λ ne. absurd (true≢false (sym is ∙ ne_eqb (bit_at word bit) 1 ne)))

pub bit_set_there : (word bit other : ℕ) → has_bit (bit_or word (2 ^ bit)) other ≡ cond (eqb bit other) true (has_bit word other)
bit_set_there word bit other = dite (ℕ_discrete bit other)
    (λ e. ap (has_bit (bit_or word (2 ^ bit))) (sym e) ∙ (has_bit-same word bit ∙ (λ i. cond (sym (eq-eqb bit other e) i) true (has_bit word other))))
    (λ ne. has_bit-other word bit other (λ e. ne (sym e)) ∙ (λ i. cond (sym (ne_eqb bit other ne) i) true (has_bit word other)))

pub bit_cleared_there : (word bit other : ℕ) → has_bit (bit_xor (bit_or word (2 ^ bit)) (2 ^ bit)) other ≡ cond (eqb bit other) false (has_bit word other)
bit_cleared_there word bit other = let both : ℕ = bit_or word (2 ^ bit) in let x : bit_at (bit_xor both (2 ^ bit)) other ≡ (bit_at both other + bit_at (2 ^ bit) other) % 2 = bit_at_xor both (2 ^ bit) other in dite (ℕ_discrete bit other)
    (λ e. ne_eqb (bit_at (bit_xor both (2 ^ bit)) other) 1 (λ f. let o : bit_at both other ≡ 1 = has_one both other (ap (has_bit both) (sym e) ∙ has_bit-same word bit) in let p : bit_at (2 ^ bit) other ≡ 1 = ap (bit_at (2 ^ bit)) (sym e) ∙ bit_at-pow_same bit in omega arith)
    ∙ (λ i. cond (sym (eq-eqb bit other e) i) false (has_bit word other)))
    (λ ne. let p : bit_at (2 ^ bit) other ≡ 0 = bit_at-pow_other bit other (λ e. ne (sym e)) in let small : bit_at both other < 2 = bit_at-lt both other in let same : bit_at (bit_xor both (2 ^ bit)) other ≡ bit_at both other = omega arith in
    ap (λ (n : ℕ). eqb n 1) same ∙ (has_bit-other word bit other (λ e. ne (sym e)) ∙ (λ i. cond (sym (ne_eqb bit other ne) i) false (has_bit word other))))

-- ---- an entry that is put

module _ (words values : List ℕ) (slot stamp nulls value : ℕ) (entry : Entry) (low : slot < RANGE_RECORDS) (long : length words ≡ FRAME_WORDS) (all : length values ≡ RANGE_RECORDS) where
  abbrev with_stamp : List ℕ
  with_stamp = slice_set words (FRAME_TIMES + slot) stamp

  abbrev later : List ℕ
  later = slice_set (slice_set words (FRAME_TIMES + slot) stamp) (FRAME_NULLS + slot / 64) nulls

  abbrev numbers : List ℕ
  numbers = slice_set values slot value

  stamp_here : slice_index later (time_place slot) ≡ stamp
  stamp_here = get_or-set_other with_stamp (FRAME_NULLS + slot / 64) (time_place slot) nulls 0 (λ e. omega arith) ∙ get_or-set_same words (FRAME_TIMES + slot) stamp 0 (omega arith)

  stamp_else : (i : ℕ) → i < RANGE_RECORDS → i ≢ slot → slice_index later (time_place i) ≡ slice_index words (time_place i)
  stamp_else i short ne = get_or-set_other with_stamp (FRAME_NULLS + slot / 64) (time_place i) nulls 0 (λ e. omega arith) ∙ get_or-set_other words (FRAME_TIMES + slot) (time_place i) stamp 0 (λ e. ne (omega arith))

  stamped_long : length with_stamp ≡ FRAME_WORDS
  stamped_long = length-set words (FRAME_TIMES + slot) stamp ∙ long

  nulls_here : slice_index later (null_place slot) ≡ nulls
  nulls_here = let l = stamped_long in get_or-set_same with_stamp (FRAME_NULLS + slot / 64) nulls 0 (omega arith)

  module _ (is : stamp ≡ time_word entry.time (is_some entry.cell)) (number : value ≡ changed_number entry.cell)
      (bits : (other : ℕ) → other < 64 → has_bit nulls other ≡ cond (eqb (slot % 64) other) (is_to_null entry.cell) (has_bit (slice_index with_stamp (FRAME_NULLS + slot / 64)) other)) where
    null_here : has_bit (slice_index later (null_place slot)) (null_bit slot) ≡ is_to_null entry.cell
    null_here = ap (λ (w : ℕ). has_bit w (null_bit slot)) nulls_here ∙ (bits (slot % 64) (omega arith) ∙ (λ i. cond (eq-eqb (slot % 64) (slot % 64) refl i) (is_to_null entry.cell) (has_bit (slice_index with_stamp (FRAME_NULLS + slot / 64)) (slot % 64))))

    nulls_before : slice_index with_stamp (FRAME_NULLS + slot / 64) ≡ slice_index words (FRAME_NULLS + slot / 64)
    nulls_before = get_or-set_other words (FRAME_TIMES + slot) (FRAME_NULLS + slot / 64) stamp 0 (λ e. omega arith)

    null_else : (i : ℕ) → i < RANGE_RECORDS → i ≢ slot → has_bit (slice_index later (null_place i)) (null_bit i) ≡ has_bit (slice_index words (null_place i)) (null_bit i)
    null_else i short ne = dite (ℕ_discrete (i / 64) (slot / 64))
        (λ e. let other : slot % 64 ≢ i % 64 = (λ f. ne (omega arith)) in
        ap (λ (q : ℕ). has_bit (slice_index later (FRAME_NULLS + q)) (i % 64)) e ∙ (ap (λ (w : ℕ). has_bit w (i % 64)) nulls_here ∙ (bits (i % 64) (omega arith)
        ∙ ((λ k. cond (ne_eqb (slot % 64) (i % 64) other k) (is_to_null entry.cell) (has_bit (slice_index with_stamp (FRAME_NULLS + slot / 64)) (i % 64)))
        ∙ (ap (λ (w : ℕ). has_bit w (i % 64)) nulls_before ∙ ap (λ (q : ℕ). has_bit (slice_index words (FRAME_NULLS + q)) (i % 64)) (sym e))))))
        (λ f. ap (λ (w : ℕ). has_bit w (null_bit i)) (get_or-set_other with_stamp (FRAME_NULLS + slot / 64) (null_place i) nulls 0 (λ e. f (omega arith)) ∙ get_or-set_other words (FRAME_TIMES + slot) (null_place i) stamp 0 (λ e. omega arith)))

    value_here : slice_index numbers slot ≡ value
    value_here = get_or-set_same values slot value 0 (omega arith)

    entry_here : entry_of (slice_index later) numbers slot ≡ entry
    entry_here = said (slice_index later (time_place slot)) (slice_index later (null_place slot)) (null_bit slot) (slice_index numbers slot) entry.time entry.cell (stamp_here ∙ is) null_here (value_here ∙ number)

    entry_else : (i : ℕ) → i < RANGE_RECORDS → i ≢ slot → entry_of (slice_index later) numbers i ≡ entry_of (slice_index words) values i
    entry_else i short ne = λ k. record { cell = cond (is_present (stamp_else i short ne k)) (Some (cond (null_else i short ne k) None (Some (get_or-set_other values slot i value 0 ne k)))) None; time = time_of (stamp_else i short ne k) }

    pub put_is : IsWith slot entry (entry_of (slice_index words) values) (entry_of (slice_index later) numbers)
    put_is i short = dite (ℕ_discrete i slot)
        (λ e. ap (entry_of (slice_index later) numbers) e ∙ (entry_here ∙ (λ k. cond (sym (eq-eqb slot i (sym e)) k) entry (entry_of (slice_index words) values i))))
        (λ ne. entry_else i short ne ∙ (λ k. cond (sym (ne_eqb slot i (λ e. ne (sym e))) k) entry (entry_of (slice_index words) values i)))

    pub put_numbers : AreNumbers (slice_index words) values → AreNumbers (slice_index later) numbers
    put_numbers before i short = dite (ℕ_discrete i slot)
        (λ e. ap (slice_index numbers) e ∙ (value_here ∙ (number ∙ (ap (λ (f : Entry). changed_number f.cell) (sym entry_here) ∙ ap (λ (j : ℕ). changed_number (entry_of (slice_index later) numbers j).cell) (sym e)))))
        (λ ne. get_or-set_other values slot i value 0 ne ∙ (before i short ∙ ap (λ (f : Entry). changed_number f.cell) (sym (entry_else i short ne))))

-- ---- the words of a page

-- the first words are written
pub record IsWritten (tps : ℕ) (packed before now : List ℕ) (n : ℕ) : Type 0 where
  pub long : length now ≡ FRAME_WORDS
  pub lineage : slice_index now 0 ≡ tps
  pub values : (i : ℕ) → i < n → slice_index now (FRAME_VALUES + i) ≡ slice_index packed i
  pub others : (place : ℕ) → FRAME_TIMES ≤ place → slice_index now place ≡ slice_index before place

-- ---- a part put in behind the first of 518 words

part_long : (words part : List ℕ) → length words ≡ 518 → length part ≡ 257 → length (put_mid 1 257 words part) ≡ 518
part_long [] part long all = absurd (omega (arith, long))
part_long (x ∷ rest) part long all =
    let l : length (part ++ drop 257 rest) ≡ length part + length (drop 257 rest) = length-append part (drop 257 rest) in
    let d = length-drop 257 rest in
    let r : suc (length rest) ≡ 518 = long in
    omega (arith, l, d, r, all)

part_first : (words part : List ℕ) → length words ≡ 518 → slice_index (put_mid 1 257 words part) 0 ≡ slice_index words 0
part_first [] part long = absurd (omega (arith, long))
part_first (x ∷ rest) part long = refl

part_past : (words part : List ℕ) → length words ≡ 518 → length part ≡ 257 → (place : ℕ) → 258 ≤ place → slice_index (put_mid 1 257 words part) place ≡ slice_index words place
part_past [] part long all place high = absurd (omega (arith, long))
part_past (x ∷ rest) part long all zero high = absurd (omega (arith, high))
part_past (x ∷ rest) part long all (suc p) high =
    let past : length part ≤ p = omega (arith, high, all) in
    let back : 1 + 257 + (p - 257) ≡ suc p = omega (arith, high) in
    search (rules, places, past, all, back)

-- the packed words stand behind the first word
pub written_whole : (tps : ℕ) (packed words : List ℕ) → length words ≡ FRAME_WORDS → length packed ≡ RANGE_RECORDS + 1
    → IsWritten tps packed words (put_mid 1 257 (slice_set words 0 tps) packed) 257
written_whole tps packed words long all =
    let whole : length (slice_set words 0 tps) ≡ 518 = length-set words 0 tps ∙ long in
    let full : length packed ≡ 257 = all in
    record {
      long = part_long (slice_set words 0 tps) packed whole full;
      lineage = part_first (slice_set words 0 tps) packed whole ∙ get_or-set_same words 0 tps 0 (omega (arith, long));
      values = λ i low. search (rules, places, whole, full);
      others = λ place high. part_past (slice_set words 0 tps) packed whole full place high ∙ get_or-set_other words 0 place tps 0 (λ e. omega (arith, high, e));
    }

module _ (tps : ℕ) (packed before now values : List ℕ) (n : ℕ) (all : n ≡ RANGE_RECORDS + 1) (is : IsWritten tps packed before now n) (long : length packed ≡ RANGE_RECORDS + 1) (packs : Packs packed values) (numbers : AreNumbers (slice_index before) values) where
  packed_is : packed_in (slice_index now) ≡ packed
  packed_is = same_number_lists (packed_in (slice_index now)) packed (length-listed (slice_index now) FRAME_VALUES (RANGE_RECORDS + 1) ∙ sym long)
      (λ i low. let m = length-listed (slice_index now) FRAME_VALUES (RANGE_RECORDS + 1) in let short : i < RANGE_RECORDS + 1 = omega arith in get-listed (slice_index now) FRAME_VALUES (RANGE_RECORDS + 1) i 0 short ∙ is.values i (omega arith))

  same_entry : (i : ℕ) → i < RANGE_RECORDS → entry_of (slice_index now) values i ≡ entry_of (slice_index before) values i
  same_entry i low = let stamp = is.others (time_place i) (omega arith) in let null = is.others (null_place i) (omega arith) in
      λ k. record { cell = cond (is_present (stamp k)) (Some (cell_of (null k) (null_bit i) (slice_index values i))) None; time = time_of (stamp k) }

  says : (i : ℕ) → i < RANGE_RECORDS → IsEntry (slice_index now) (slice_index values i) i (entry_of (slice_index before) values i)
  says i low = record { told = same_entry i low; number = λ cell e. numbers i low ∙ ap changed_number e }

  packs_now : Packs (packed_in (slice_index now)) values
  packs_now = subst (λ (ws : List ℕ). Packs ws values) (sym packed_is) packs

  pub page_entries : HasEntries (slice_index now) (entry_of (slice_index before) values)
  page_entries = record { values = values; packed = packs_now; each = says }

  pub page_absent : AreAbsentZero (slice_index now)
  page_absent others other_packs i low absent = ap (λ (xs : List ℕ). slice_index xs i) (stands_for_one (packed_in (slice_index now)) others values other_packs packs_now)
      ∙ (numbers i low ∙ (ap (λ (f : Entry). changed_number f.cell) (sym (same_entry i low)) ∙ (λ k. changed_number (cond (absent k) (Some (cell_of (slice_index now (null_place i)) (null_bit i) (slice_index values i))) None))))
