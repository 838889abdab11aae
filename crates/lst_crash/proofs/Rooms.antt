-- A second opening has room for all that a disk holds: a write takes 19 bytes at least.
use Rattle.std.proofs.Common.{◌≡◌, ℕ, zero, suc, ◌*◌, ◌≤◌, List, [], ◌∷◌, ◌++◌, length, map, replicate, arith, length-append}
use Rattle.std.specs.Int.{w32, to_be_bytes}
use Rattle.std.specs.List.{flat_map, AllByRecursion}
use Rattle.lst_layout.specs.declared.limits.Limits.{Limits}
use Rattle.lst_model.specs.declared.acts.Act.{Act}
use Rattle.lst_model.specs.declared.acts.Act.TheVariants.{Put, Set, Del}
use Rattle.lst_model.specs.declared.acts.Write.{Write}
use Rattle.lst_model.specs.declared.commits.Commit.{Commit}
use Rattle.lst_model.specs.Cells.{number_of, changed_number}
use Rattle.lst_log.specs.Format.{word, head_of, numbers_of, write_bytes, body, record_of, journal, FitsTable, IsWrite, HasRecord}
use Rattle.lst_replay_laws.specs.Again.{writes_in}
use Rattle.lst_replay_laws.specs.Rests.{HasRoomFor, with_tails}
use Rattle.lst_replay_laws.proofs.Runs.{room_grows}
use Rattle.lst_crash.specs.Crashes.{most_bytes, limits_again}

-- ---- a write

-- a word and what is behind it
one_word : (n : ℕ) (rest : List ℕ) → 8 ≤ length (word n ++ rest)
one_word n rest = omega (arith, length-append (word n) rest)

-- the numbers of a write, one at least
some_numbers : (columns : ℕ) (act : Act) → 1 ≤ columns → FitsTable columns act → 8 ≤ length (flat_map word (numbers_of columns act))
some_numbers columns (Put []) some fits = let none : 0 ≡ columns = fits.0 in absurd (omega (arith, none, some))
some_numbers columns (Put (cell ∷ row)) some fits = one_word (number_of cell) (flat_map word (map number_of row))
some_numbers columns (Set []) some fits = let none : 0 ≡ columns = fits.0.width in absurd (omega (arith, none, some))
some_numbers columns (Set (change ∷ patch)) some fits = one_word (changed_number change) (flat_map word (map changed_number patch))
some_numbers zero Del some fits = absurd (omega (arith, some))
some_numbers (suc columns) Del some fits = one_word 0 (flat_map word (replicate columns 0))

module _ (columns : ℕ) (some : 1 ≤ columns) where
  write_holds : (w : Write) → FitsTable columns w.act → 19 ≤ length (write_bytes columns w)
  write_holds w fits =
      let numbers = some_numbers columns w.act some fits in
      let key = length-append (word w.key) (head_of columns w.act ++ flat_map word (numbers_of columns w.act)) in
      let behind = length-append (head_of columns w.act) (flat_map word (numbers_of columns w.act)) in omega (arith, numbers, key, behind)

  writes_hold : (writes : List Write) → AllByRecursion (IsWrite columns) writes → 19 * length writes ≤ length (flat_map (write_bytes columns) writes)
  writes_hold [] fit = omega arith
  writes_hold (w ∷ writes) fit =
      let here = write_holds w fit.0.act in let rest = writes_hold writes fit.1 in let both = length-append (write_bytes columns w) (flat_map (write_bytes columns) writes) in omega (arith, here, rest, both)

  -- what stands before the writes of a record
  behind_head : (n : ℕ) (head rest : List ℕ) → n ≤ length rest → n ≤ length (head ++ rest)
  behind_head n head rest low = let both = length-append head rest in omega (arith, both, low)

  record_holds : (c : Commit) → HasRecord columns c → 19 * length c.writes ≤ length (record_of columns c)
  record_holds c has =
      let writes = flat_map (write_bytes columns) c.writes in
      let n : ℕ = 19 * length c.writes in
      let count = behind_head n (to_be_bytes w32 (length c.writes)) writes (writes_hold c.writes has.writes) in
      let begin = behind_head n (word c.begin) (to_be_bytes w32 (length c.writes) ++ writes) count in
      let number = behind_head n (to_be_bytes w32 c.number) (word c.begin ++ (to_be_bytes w32 (length c.writes) ++ writes)) begin in
      behind_head n (1 ∷ []) (body columns c) (behind_head n (to_be_bytes w32 c.session) (to_be_bytes w32 c.number ++ (word c.begin ++ (to_be_bytes w32 (length c.writes) ++ writes))) number)

  journal_holds : (commits : List Commit) → AllByRecursion (HasRecord columns) commits → 19 * writes_in commits ≤ length (journal columns commits)
  journal_holds [] all = omega arith
  journal_holds (c ∷ commits) all =
      let here = record_holds c all.0 in let rest = journal_holds commits all.1 in let both = length-append (record_of columns c) (journal columns commits) in omega (arith, here, rest, both)

  -- records in so many bytes hold no more writes than a range may have tails
  pub few_writes : (commits : List Commit) (size : ℕ) → AllByRecursion (HasRecord columns) commits → length (journal columns commits) ≤ size → size ≤ most_bytes → writes_in commits ≤ 16384
  few_writes commits size all within few = let held = journal_holds commits all in omega (arith, held, within, few)

-- limits that have room given a tail for each write have it at the second opening
pub has_room_again : (limits : Limits) (commits : List Commit) → HasRoomFor (with_tails limits (writes_in commits)) commits → writes_in commits ≤ 16384 → HasRoomFor (limits_again limits) commits
has_room_again limits commits room few =
    room_grows (limits_again limits) (with_tails limits (writes_in commits)) commits (record { sessions = omega arith; ranges = omega arith; tails = few; txns = omega arith }) room
