-- What a history makes of each key, and the one list of keys with versions that its block has.
use Rattle.std.proofs.Common.{◌≡◌, ℕ, zero, suc, ◌+◌, ◌-◌, ◌^◌, ◌<◌, ◌≤◌, Bool, true, false, cond, List, [], ◌∷◌, ◌++◌, length, map, refl, sym, ap, ◌∙◌, subst, append_assoc, append-nil, arith, inl, inr}
use Rattle.std.proofs.lemmas.Bool.{lt-ltb, ltb-true, ltb-false, eq-eqb, eqb-true, ne_eqb, true≢false}
use Rattle.std.proofs.lemmas.List.{length-map}
use Rattle.std.specs.Prelude.{Option, Some, None, nat_lt, ◌==◌, ◌||◌, unwrap_or}
use Rattle.std.specs.List.{AllByRecursion, list_any}
use Rattle.lst_model.specs.declared.acts.Act.{Act}
use Rattle.lst_model.specs.declared.acts.Act.TheVariants.{Put, Set, Del}
use Rattle.lst_model.specs.declared.acts.Write.{Write}
use Rattle.lst_model.specs.declared.commits.Commit.{Commit}
use Rattle.lst_model.specs.Cells.{Cell, number_of, overlaid}
use Rattle.lst_model.specs.Tables.{row_of}
use Rattle.lst_model.specs.Histories.{row_after, row_from, acts_on, table_at}
use Rattle.lst_model.proofs.Folds.{get_table_at}
use Rattle.lst_snapshots.specs.declared.versions.Version.{Version}
use Rattle.lst_snapshots.specs.Versions.{version_at, row_at, versions_of_acts, versions_from, versions_on}
use Rattle.lst_snapshots.proofs.Keeping.{row_at-history}
use Rattle.lst_historic.specs.Numbers.{spelled, number_at}
use Rattle.lst_historic.specs.Blocks.{Chain, CellFits, ChangeFits, ActFits, AreActs, ActIsWide, AreWide, HasNumbers, HaveNumbers, AllHaveNumbers, RowIsWide, VersionsAreWide, ChainsAreWide, ChainsFit, RowFits, AreVersions, AreChains, IsBlock, versions_text, chain_text, chains_text, block_text, with_key, with_keys, keys_of, chain_of, chains_of, block}
use Rattle.lst_historic.specs.Places.{HasBlock}
use Rattle.lst_historic.specs.Reading.{versions_behind}
use Rattle.lst_historic.proofs.Spelled.{again}
use Rattle.lst_historic.proofs.Fields.{some_is}
use Rattle.lst_historic.proofs.Whole.{versions_again}

-- ---- rows and versions

overlaid-width : (row : List Cell) (patch : List (Option Cell)) → length (overlaid row patch) ≡ length row
overlaid-width [] patch = refl
overlaid-width (cell ∷ row) [] = refl
overlaid-width (cell ∷ row) (change ∷ patch) = ap suc (overlaid-width row patch)

change_fits : (cell : Cell) (change : Option Cell) → CellFits cell → ChangeFits change → CellFits (unwrap_or change cell)
change_fits cell None one two = one
change_fits cell (Some new) one two = two

overlaid-fits : (row : List Cell) (patch : List (Option Cell)) → AllByRecursion CellFits row → AllByRecursion ChangeFits patch → AllByRecursion CellFits (overlaid row patch)
overlaid-fits [] patch one two = tt
overlaid-fits (cell ∷ row) [] one two = one
overlaid-fits (cell ∷ row) (change ∷ patch) one two = (change_fits cell change one.0 two.0, overlaid-fits row patch one.1 two.1)

row_after-fits : (columns : ℕ) (row : Option (List Cell)) (act : Act) → RowFits columns row → ActFits columns act → RowFits columns (row_after row act)
row_after-fits columns row (Put new) one two = two
row_after-fits columns None (Set patch) one two = tt
row_after-fits columns (Some row) (Set patch) one two = (overlaid-width row patch ∙ one.0, overlaid-fits row patch one.1 two.1)
row_after-fits columns row Del one two = tt

row_from-fits : (columns : ℕ) (row : Option (List Cell)) (acts : List Act) → RowFits columns row → AllByRecursion (ActFits columns) acts → RowFits columns (row_from row acts)
row_from-fits columns row [] one two = one
row_from-fits columns row (act ∷ acts) one two = row_from-fits columns (row_after row act) acts (row_after-fits columns row act one two.0) two.1

acts_on-fit : (columns key : ℕ) (writes : List Write) → AllByRecursion (λ (write : Write). ActFits columns write.act) writes → AllByRecursion (ActFits columns) (acts_on key writes)
acts_on-fit columns key [] fits = tt
acts_on-fit columns key (write ∷ writes) fits = by (write.key == key) (acts_on-fit columns key writes fits.1)
  where
    by : (b : Bool) → AllByRecursion (ActFits columns) (acts_on key writes) → AllByRecursion (ActFits columns) (cond b (write.act ∷ acts_on key writes) (acts_on key writes))
    by true rest = (fits.0, rest)
    by false rest = rest

sooner : (columns until t u : ℕ) (versions : List Version) → t ≤ u → AreVersions columns until u versions → AreVersions columns until t versions
sooner columns until t u [] order fits = tt
sooner columns until t u (version ∷ versions) order fits = (let late : u < version.time = fits.0 in omega arith, fits.1, fits.2, fits.3)

made_fit : (columns until time : ℕ) (row : Option (List Cell)) (acts : List Act) (versions : List Version) → time + 1 ≤ until → RowFits columns row → AllByRecursion (ActFits columns) acts
    → AreVersions columns until (time + 1) versions → AreVersions columns until time (versions_of_acts (time + 1) row acts ++ versions)
made_fit columns until time row [] versions within one two rest = sooner columns until time (time + 1) versions (omega arith) rest
made_fit columns until time row (act ∷ acts) versions within one two rest = (omega arith, within, row_from-fits columns row (act ∷ acts) one two, rest)

pub versions_fit : (columns until key : ℕ) (row : Option (List Cell)) (time : ℕ) (history : List Commit) → time + length history ≤ until → RowFits columns row → AreActs columns history → AreVersions columns until time (versions_from key row time history)
versions_fit columns until key row time [] within one two = tt
versions_fit columns until key row time (commit ∷ history) within one two =
    let acts = acts_on key commit.writes in
    let fit = acts_on-fit columns key commit.writes two.0 in
    made_fit columns until time row acts (versions_from key (row_from row acts) (time + 1) history) (omega arith) one fit
    (versions_fit columns until key (row_from row acts) (time + 1) history (omega arith) (row_from-fits columns row acts one fit) two.1)

-- ---- the same of the number of columns alone

-- times rise up to the built time, and rows have so many columns
abbrev Stand : ℕ → ℕ → ℕ → List Version → Type 0
Stand columns until time [] = Unit {0}
Stand columns until time (version ∷ versions) = (time < version.time) × (version.time ≤ until) × RowIsWide columns version.row × Stand columns until version.time versions

row_after-wide : (columns : ℕ) (row : Option (List Cell)) (act : Act) → RowIsWide columns row → ActIsWide columns act → RowIsWide columns (row_after row act)
row_after-wide columns row (Put new) one two = two
row_after-wide columns None (Set patch) one two = tt
row_after-wide columns (Some row) (Set patch) one two = overlaid-width row patch ∙ one
row_after-wide columns row Del one two = tt

row_from-wide : (columns : ℕ) (row : Option (List Cell)) (acts : List Act) → RowIsWide columns row → AllByRecursion (ActIsWide columns) acts → RowIsWide columns (row_from row acts)
row_from-wide columns row [] one two = one
row_from-wide columns row (act ∷ acts) one two = row_from-wide columns (row_after row act) acts (row_after-wide columns row act one two.0) two.1

acts_on-wide : (columns key : ℕ) (writes : List Write) → AllByRecursion (λ (write : Write). ActIsWide columns write.act) writes → AllByRecursion (ActIsWide columns) (acts_on key writes)
acts_on-wide columns key [] wide = tt
acts_on-wide columns key (write ∷ writes) wide = by (write.key == key) (acts_on-wide columns key writes wide.1)
  where
    by : (b : Bool) → AllByRecursion (ActIsWide columns) (acts_on key writes) → AllByRecursion (ActIsWide columns) (cond b (write.act ∷ acts_on key writes) (acts_on key writes))
    by true rest = (wide.0, rest)
    by false rest = rest

stand_sooner : (columns until t u : ℕ) (versions : List Version) → t ≤ u → Stand columns until u versions → Stand columns until t versions
stand_sooner columns until t u [] order stand = tt
stand_sooner columns until t u (version ∷ versions) order stand = (let late : u < version.time = stand.0 in omega arith, stand.1, stand.2, stand.3)

made_stand : (columns until time : ℕ) (row : Option (List Cell)) (acts : List Act) (versions : List Version) → time + 1 ≤ until → RowIsWide columns row → AllByRecursion (ActIsWide columns) acts
    → Stand columns until (time + 1) versions → Stand columns until time (versions_of_acts (time + 1) row acts ++ versions)
made_stand columns until time row [] versions within one two rest = stand_sooner columns until time (time + 1) versions (omega arith) rest
made_stand columns until time row (act ∷ acts) versions within one two rest = (omega arith, within, row_from-wide columns row (act ∷ acts) one two, rest)

versions_stand : (columns until key : ℕ) (row : Option (List Cell)) (time : ℕ) (history : List Commit) → time + length history ≤ until → RowIsWide columns row → AreWide columns history → Stand columns until time (versions_from key row time history)
versions_stand columns until key row time [] within one two = tt
versions_stand columns until key row time (commit ∷ history) within one two =
    let acts = acts_on key commit.writes in
    let wide = acts_on-wide columns key commit.writes two.0 in
    made_stand columns until time row acts (versions_from key (row_from row acts) (time + 1) history) (omega arith) one wide
    (versions_stand columns until key (row_from row acts) (time + 1) history (omega arith) (row_from-wide columns row acts one wide) two.1)

-- with numbers below 2^64 they fit
with_numbers : (columns until time : ℕ) (versions : List Version) → Stand columns until time versions → HaveNumbers versions → AreVersions columns until time versions
with_numbers columns until time [] stand numbers = tt
with_numbers columns until time (version ∷ versions) stand numbers = (stand.0, stand.1, row_fits version.row stand.2 numbers.0, with_numbers columns until version.time versions stand.3 numbers.1)
  where
    row_fits : (row : Option (List Cell)) → RowIsWide columns row → HasNumbers row → RowFits columns row
    row_fits None wide numbers = tt
    row_fits (Some row) wide numbers = (wide, numbers)

numbers_of : (columns until time : ℕ) (versions : List Version) → AreVersions columns until time versions → HaveNumbers versions
numbers_of columns until time [] fits = tt
numbers_of columns until time (version ∷ versions) fits = (row_numbers version.row fits.2, numbers_of columns until version.time versions fits.3)
  where
    row_numbers : (row : Option (List Cell)) → RowFits columns row → HasNumbers row
    row_numbers None fits = tt
    row_numbers (Some row) fits = fits.1

-- the rows of a history have as many columns
widths : (columns until time : ℕ) (versions : List Version) → Stand columns until time versions → VersionsAreWide columns versions
widths columns until time [] stand = tt
widths columns until time (version ∷ versions) stand = (stand.2, widths columns until version.time versions stand.3)

keys_wide : (columns : ℕ) (history : List Commit) (keys : List ℕ) → AreWide columns history → ChainsAreWide columns (map (chain_of history) keys)
keys_wide columns history [] wide = tt
keys_wide columns history (key ∷ keys) wide =
    (widths columns (length history) 0 (versions_on key history) (versions_stand columns (length history) key None 0 history (omega arith) tt wide), keys_wide columns history keys wide)

pub chains_wide : (columns : ℕ) (history : List Commit) → AreWide columns history → ChainsAreWide columns (chains_of history)
chains_wide columns history wide = keys_wide columns history (keys_of history) wide

pub fit_numbers : (chains : List Chain) → ChainsFit chains → AllHaveNumbers chains
fit_numbers [] fit = tt
fit_numbers (chain ∷ chains) fit = (fit.0.1, fit_numbers chains fit.1)

pub fit_keys : (chains : List Chain) → ChainsFit chains → AllByRecursion (λ (chain : Chain). chain.key < 2 ^ 64) chains
fit_keys [] fit = tt
fit_keys (chain ∷ chains) fit = (fit.0.0, fit_keys chains fit.1)

-- a history with numbers below 2^64 has rows of such numbers
keys_numbers : (columns : ℕ) (history : List Commit) (keys : List ℕ) → AreActs columns history → AllHaveNumbers (map (chain_of history) keys)
keys_numbers columns history [] fits = tt
keys_numbers columns history (key ∷ keys) fits =
    (numbers_of columns (length history) 0 (versions_on key history) (versions_fit columns (length history) key None 0 history (omega arith) tt fits), keys_numbers columns history keys fits)

pub all_numbers : (columns : ℕ) (history : List Commit) → AreActs columns history → AllHaveNumbers (chains_of history)
all_numbers columns history fits = keys_numbers columns history (keys_of history) fits

act_wide : (columns : ℕ) (act : Act) → ActFits columns act → ActIsWide columns act
act_wide columns (Put row) fits = fits.0
act_wide columns (Set patch) fits = fits.0
act_wide columns Del fits = tt

writes_wide : (columns : ℕ) (writes : List Write) → AllByRecursion (λ (write : Write). ActFits columns write.act) writes → AllByRecursion (λ (write : Write). ActIsWide columns write.act) writes
writes_wide columns [] fits = tt
writes_wide columns (write ∷ writes) fits = (act_wide columns write.act fits.0, writes_wide columns writes fits.1)

pub all_wide : (columns : ℕ) (history : List Commit) → AreActs columns history → AreWide columns history
all_wide columns [] fits = tt
all_wide columns (commit ∷ history) fits = (writes_wide columns commit.writes fits.0, all_wide columns history fits.1)

-- ---- keys

abbrev pub has : ℕ → List ℕ → Bool
has key keys = list_any (λ other. key == other) keys

abbrev pub KeysRise : ℕ → List ℕ → Type 0
KeysRise least [] = Unit {0}
KeysRise least (key ∷ keys) = (least ≤ key) × KeysRise (key + 1) keys

abbrev pub is_written : ℕ → List Write → Bool
is_written key writes = list_any (λ (write : Write). key == write.key) writes

or_swap : (a b c : Bool) → (b || (a || c)) ≡ (a || (b || c))
or_swap true true c = refl
or_swap true false c = refl
or_swap false b c = refl

or_again : (a c : Bool) → (a || c) ≡ (a || (a || c))
or_again true c = refl
or_again false c = refl

pub has-with_key : (q key : ℕ) (keys : List ℕ) → has q (with_key key keys) ≡ (q == key || has q keys)
has-with_key q key [] = refl
has-with_key q key (other ∷ keys) = by (nat_lt key other) (key == other) refl (has-with_key q key keys)
  where
    by : (b c : Bool) → (key == other) ≡ c → has q (with_key key keys) ≡ (q == key || has q keys)
        → has q (cond b (key ∷ other ∷ keys) (cond c (other ∷ keys) (other ∷ with_key key keys))) ≡ (q == key || has q (other ∷ keys))
    by true c is rest = refl
    by false true is rest = or_again (q == other) (has q keys) ∙ ap (λ k. (q == k) || (q == other || has q keys)) (sym (eqb-true key other is))
    by false false is rest = ap (λ b. (q == other) || b) rest ∙ or_swap (q == key) (q == other) (has q keys)

or_assoc : (a b c : Bool) → (a || (b || c)) ≡ ((a || b) || c)
or_assoc true b c = refl
or_assoc false b c = refl

pub has-with_keys : (q : ℕ) (writes : List Write) (keys : List ℕ) → has q (with_keys writes keys) ≡ (is_written q writes || has q keys)
has-with_keys q [] keys = refl
has-with_keys q (write ∷ writes) keys =
    has-with_key q write.key (with_keys writes keys) ∙ ap (λ b. (q == write.key) || b) (has-with_keys q writes keys) ∙ or_assoc (q == write.key) (is_written q writes) (has q keys)

sooner_keys : (least more : ℕ) (keys : List ℕ) → least ≤ more → KeysRise more keys → KeysRise least keys
sooner_keys least more [] order rise = tt
sooner_keys least more (key ∷ keys) order rise = (let low : more ≤ key = rise.0 in omega arith, rise.1)

pub rise-with_key : (least key : ℕ) (keys : List ℕ) → least ≤ key → KeysRise least keys → KeysRise least (with_key key keys)
rise-with_key least key [] low rise = (low, tt)
rise-with_key least key (other ∷ keys) low rise = by (nat_lt key other) refl (key == other) refl (λ above. rise-with_key (other + 1) key keys above rise.1)
  where
    by : (b : Bool) → nat_lt key other ≡ b → (c : Bool) → (key == other) ≡ c → (other + 1 ≤ key → KeysRise (other + 1) (with_key key keys))
        → KeysRise least (cond b (key ∷ other ∷ keys) (cond c (other ∷ keys) (other ∷ with_key key keys)))
    by true is c same rest = (low, (let less : key < other = ltb-true key other is in omega arith, rise.1))
    by false is true same rest = rise
    by false is false same rest =
        let more : other ≤ key = ltb-false key other is in
        (rise.0, rest (above more (λ e. true≢false (sym (eq-eqb key other e) ∙ same))))
      where
        above : other ≤ key → (key ≡ other → ⊥) → other + 1 ≤ key
        above more apart = omega arith

pub rise-with_keys : (writes : List Write) (keys : List ℕ) → KeysRise 0 keys → KeysRise 0 (with_keys writes keys)
rise-with_keys [] keys rise = rise
rise-with_keys (write ∷ writes) keys rise = rise-with_key 0 write.key (with_keys writes keys) (omega arith) (rise-with_keys writes keys rise)

pub rise-keys_of : (history : List Commit) → KeysRise 0 (keys_of history)
rise-keys_of [] = tt
rise-keys_of (commit ∷ history) = rise-with_keys commit.writes (keys_of history) (rise-keys_of history)

-- a key that is written has acts, and another has none
some_acts : (q : ℕ) (writes : List Write) → is_written q writes ≡ true → 0 < length (acts_on q writes)
some_acts q [] is = absurd (true≢false (sym is))
some_acts q (write ∷ writes) is = by (write.key == q) refl (λ rest. some_acts q writes rest)
  where
    behind : (write.key == q) ≡ false → (b : Bool) → (q == write.key) ≡ b → (b || is_written q writes) ≡ true → is_written q writes ≡ true
    behind other true same found = absurd (true≢false (sym (eq-eqb write.key q (sym (eqb-true q write.key same))) ∙ other))
    behind other false same found = found

    by : (b : Bool) → (write.key == q) ≡ b → (is_written q writes ≡ true → 0 < length (acts_on q writes)) → 0 < length (cond b (write.act ∷ acts_on q writes) (acts_on q writes))
    by true same rest = omega arith
    by false same rest = rest (behind same (q == write.key) refl is)

no_acts : (q : ℕ) (writes : List Write) → is_written q writes ≡ false → acts_on q writes ≡ []
no_acts q [] is = refl
no_acts q (write ∷ writes) is = by (write.key == q) refl (λ rest. no_acts q writes rest)
  where
    or_first : (a b : Bool) → (a || b) ≡ false → a ≡ false
    or_first true b is = absurd (true≢false is)
    or_first false b is = refl

    or_second : (a b : Bool) → (a || b) ≡ false → b ≡ false
    or_second true b is = absurd (true≢false is)
    or_second false b is = is

    by : (b : Bool) → (write.key == q) ≡ b → (is_written q writes ≡ false → acts_on q writes ≡ []) → cond b (write.act ∷ acts_on q writes) (acts_on q writes) ≡ []
    by true same rest = absurd (true≢false (sym (eq-eqb q write.key (sym (eqb-true write.key q same))) ∙ or_first (q == write.key) (is_written q writes) is))
    by false same rest = rest (or_second (q == write.key) (is_written q writes) is)

some_made : (t : ℕ) (row : Option (List Cell)) (acts : List Act) (versions : List Version) → 0 < length acts → 0 < length (versions_of_acts t row acts ++ versions)
some_made t row [] versions some = absurd (omega arith)
some_made t row (act ∷ acts) versions some = omega arith

more_made : (t : ℕ) (row : Option (List Cell)) (acts : List Act) (versions : List Version) → 0 < length versions → 0 < length (versions_of_acts t row acts ++ versions)
more_made t row [] versions some = some
more_made t row (act ∷ acts) versions some = omega arith

pub some_versions : (q : ℕ) (row : Option (List Cell)) (time : ℕ) (history : List Commit) → has q (keys_of history) ≡ true → 0 < length (versions_from q row time history)
some_versions q row time [] is = absurd (true≢false (sym is))
some_versions q row time (commit ∷ history) is =
    by (is_written q commit.writes) refl (sym (has-with_keys q commit.writes (keys_of history)) ∙ is) (λ rest. some_versions q (row_from row (acts_on q commit.writes)) (time + 1) history rest)
  where
    by : (b : Bool) → is_written q commit.writes ≡ b → (is_written q commit.writes || has q (keys_of history)) ≡ true
        → (has q (keys_of history) ≡ true → 0 < length (versions_from q (row_from row (acts_on q commit.writes)) (time + 1) history)) → 0 < length (versions_from q row time (commit ∷ history))
    by true is found rest = some_made (time + 1) row (acts_on q commit.writes) (versions_from q (row_from row (acts_on q commit.writes)) (time + 1) history) (some_acts q commit.writes is)
    by false is found rest =
        more_made (time + 1) row (acts_on q commit.writes) (versions_from q (row_from row (acts_on q commit.writes)) (time + 1) history) (rest (sym (ap (λ b. b || has q (keys_of history)) is) ∙ found))

pub no_versions : (q : ℕ) (row : Option (List Cell)) (time : ℕ) (history : List Commit) → has q (keys_of history) ≡ false → versions_from q row time history ≡ []
no_versions q row time [] is = refl
no_versions q row time (commit ∷ history) is =
    by (is_written q commit.writes) refl (sym (has-with_keys q commit.writes (keys_of history)) ∙ is) (λ rest. no_versions q (row_from row (acts_on q commit.writes)) (time + 1) history rest)
  where
    by : (b : Bool) → is_written q commit.writes ≡ b → (is_written q commit.writes || has q (keys_of history)) ≡ false
        → (has q (keys_of history) ≡ false → versions_from q (row_from row (acts_on q commit.writes)) (time + 1) history ≡ []) → versions_from q row time (commit ∷ history) ≡ []
    by true is found rest = absurd (true≢false (sym (ap (λ b. b || has q (keys_of history)) is) ∙ found))
    by false is found rest =
        ap (λ acts. versions_of_acts (time + 1) row acts ++ versions_from q (row_from row (acts_on q commit.writes)) (time + 1) history) (no_acts q commit.writes is)
        ∙ rest (sym (ap (λ b. b || has q (keys_of history)) is) ∙ found)

-- ---- the versions of a key among keys with versions

abbrev pub versions_in : List Chain → ℕ → List Version
versions_in [] key = []
versions_in (chain ∷ chains) key = cond (key == chain.key) chain.versions (versions_in chains key)

in_keys : (history : List Commit) (key : ℕ) (keys : List ℕ) → versions_in (map (chain_of history) keys) key ≡ cond (has key keys) (versions_on key history) []
in_keys history key [] = refl
in_keys history key (other ∷ keys) = by (key == other) refl (in_keys history key keys)
  where
    by : (b : Bool) → (key == other) ≡ b → versions_in (map (chain_of history) keys) key ≡ cond (has key keys) (versions_on key history) []
        → cond b (versions_on other history) (versions_in (map (chain_of history) keys) key) ≡ cond (b || has key keys) (versions_on key history) []
    by true is rest = ap (λ k. versions_on k history) (sym (eqb-true key other is))
    by false is rest = rest

pub in_history : (history : List Commit) (key : ℕ) → versions_in (chains_of history) key ≡ versions_on key history
in_history history key = in_keys history key (keys_of history) ∙ by (has key (keys_of history)) refl
  where
    by : (b : Bool) → has key (keys_of history) ≡ b → cond b (versions_on key history) [] ≡ versions_on key history
    by true is = refl
    by false is = sym (no_versions key None 0 history is)

-- the row of a key as of a time
pub row_is : (history : List Commit) (key time : ℕ) → row_at (versions_in (chains_of history) key) time ≡ row_of (table_at history time) key
row_is history key time = ap (λ versions. row_at versions time) (in_history history key) ∙ row_at-history key time history ∙ sym (get_table_at history time key)

-- ---- the block of a history has no other keys with versions

abbrev pub Loose : ℕ → ℕ → ℕ → List Chain → Type 0
Loose columns until least [] = Unit {0}
Loose columns until least (chain ∷ chains) = (least ≤ chain.key) × (0 < length chain.versions) × AreVersions columns until 0 chain.versions × Loose columns until (chain.key + 1) chains

one_number : (m n : ℕ) (xs ys : List ℕ) → spelled m ++ xs ≡ spelled n ++ ys → (m ≡ n) × (xs ≡ ys)
one_number m n xs ys e =
    let same = some_is (m, xs) (n, ys) (sym (again m xs) ∙ ap number_at e ∙ again n ys) in
    (ap (λ (p : ℕ × List ℕ). p.0) same, ap (λ (p : ℕ × List ℕ). p.1) same)

one_versions : (columns until : ℕ) (versions others : List Version) (xs ys : List ℕ) → columns ≤ 8 → until < 2 ^ 64 → AreVersions columns until 0 versions → AreVersions columns until 0 others
    → chain_text columns versions ++ xs ≡ chain_text columns others ++ ys → (versions ≡ others) × (xs ≡ ys)
one_versions columns until versions others xs ys few low one two e =
    let split = sym (append_assoc (spelled (length versions)) (versions_text columns 0 None versions) xs) ∙ e ∙ append_assoc (spelled (length others)) (versions_text columns 0 None others) ys in
    let counts = one_number (length versions) (length others) (versions_text columns 0 None versions ++ xs) (versions_text columns 0 None others ++ ys) split in
    let same = some_is (versions, xs) (others, ys)
    (sym (versions_again columns until 0 None versions xs few low tt one)
    ∙ ap (λ n. versions_behind n columns until 0 None (versions_text columns 0 None versions ++ xs)) counts.0
    ∙ ap (versions_behind (length others) columns until 0 None) counts.1
    ∙ versions_again columns until 0 None others ys few low tt two) in
    (ap (λ (p : List Version × List ℕ). p.0) same, ap (λ (p : List Version × List ℕ). p.1) same)

same_gap : (key one other : ℕ) → key ≤ one → key ≤ other → one - key ≡ other - key → one ≡ other
same_gap key one other low low-2 e = omega arith

same_chain : (chain other : Chain) → chain.key ≡ other.key → chain.versions ≡ other.versions → chain ≡ other
same_chain chain other one two = λ i. record { key = one i; versions = two i }

pub same_chains : (columns until key least : ℕ) (chains others : List Chain) (xs ys : List ℕ) → columns ≤ 8 → until < 2 ^ 64 → key ≤ least → Loose columns until least chains → AreChains columns until least others
    → length chains ≡ length others → chains_text columns key chains ++ xs ≡ chains_text columns key others ++ ys → chains ≡ others
same_chains columns until key least [] [] xs ys few low order one two size e = refl
same_chains columns until key least [] (other ∷ others) xs ys few low order one two size e = absurd (omega (arith, size))
same_chains columns until key least (chain ∷ chains) [] xs ys few low order one two size e = absurd (omega (arith, size))
same_chains columns until key least (chain ∷ chains) (other ∷ others) xs ys few low order one two size e =
    let behind = chains_text columns chain.key chains ++ xs in
    let behind-2 = chains_text columns other.key others ++ ys in
    let split = λ (c : Chain) (cs : List Chain) (zs : List ℕ). append_assoc (spelled (c.key - key)) (chain_text columns c.versions ++ chains_text columns c.key cs) zs ∙ ap (λ t. spelled (c.key - key) ++ t) (append_assoc (chain_text columns c.versions) (chains_text columns c.key cs) zs) in
    let gaps = one_number (chain.key - key) (other.key - key) (chain_text columns chain.versions ++ behind) (chain_text columns other.versions ++ behind-2) (sym (split chain chains xs) ∙ e ∙ split other others ys) in
    let low-1 : least ≤ chain.key = one.0 in
    let low-2 : least ≤ other.key = two.0 in
    let key-is : chain.key ≡ other.key = same_gap key chain.key other.key (omega arith) (omega arith) gaps.0 in
    let versions = one_versions columns until chain.versions other.versions behind behind-2 few low one.2 two.4 gaps.1 in
    let head : chain ≡ other = same_chain chain other key-is versions.0 in
    let rest : chains ≡ others =
    same_chains columns until chain.key (chain.key + 1) chains others xs ys few low (omega arith) one.3 (subst (λ k. AreChains columns until (k + 1) others) (sym key-is) two.5) (omega (arith, size))
    (versions.1 ∙ ap (λ k. chains_text columns k others ++ ys) (sym key-is)) in
    ap (λ (c : Chain). c ∷ chains) head ∙ ap (λ (cs : List Chain). other ∷ cs) rest

loose_keys : (columns : ℕ) (history : List Commit) (least : ℕ) (keys : List ℕ) → AreWide columns history → AllHaveNumbers (map (chain_of history) keys) → KeysRise least keys → ((q : ℕ) → has q keys ≡ true → has q (keys_of history) ≡ true)
    → Loose columns (length history) least (map (chain_of history) keys)
loose_keys columns history least [] wide numbers rise among = tt
loose_keys columns history least (key ∷ keys) wide numbers rise among = (
  rise.0,
  some_versions key None 0 history (among key (ap (λ b. b || has key keys) (eq-eqb key key refl))),
  with_numbers columns (length history) 0 (versions_on key history) (versions_stand columns (length history) key None 0 history (omega arith) tt wide) numbers.0,
  loose_keys columns history (key + 1) keys wide numbers.1 rise.1 (λ q found. among q (either (q == key) (has q keys) found)),
)
  where
    either : (a b : Bool) → b ≡ true → (a || b) ≡ true
    either true b is = refl
    either false b is = is

pub loose : (columns : ℕ) (history : List Commit) → AreWide columns history → AllHaveNumbers (chains_of history) → Loose columns (length history) 0 (chains_of history)
loose columns history wide numbers = loose_keys columns history 0 (keys_of history) wide numbers (rise-keys_of history) (λ q found. found)

-- the keys of a history rise
abbrev pub ChainsRise : ℕ → List Chain → Type 0
ChainsRise least [] = Unit {0}
ChainsRise least (chain ∷ chains) = (least ≤ chain.key) × ChainsRise (chain.key + 1) chains

rising_keys : (history : List Commit) (least : ℕ) (keys : List ℕ) → KeysRise least keys → ChainsRise least (map (chain_of history) keys)
rising_keys history least [] rise = tt
rising_keys history least (key ∷ keys) rise = (rise.0, rising_keys history (key + 1) keys rise.1)

pub chains_rise : (history : List Commit) → ChainsRise 0 (chains_of history)
chains_rise history = rising_keys history 0 (keys_of history) (rise-keys_of history)

pub of_history : (bytes : List ℕ) (columns until : ℕ) (chains : List Chain) (width : ℕ) (history : List Commit) → IsBlock bytes columns until chains → HasBlock width history bytes
    → (width ≡ columns) × (length history ≡ until) × (chains_of history ≡ chains)
of_history bytes columns until chains width history is has =
    let own = chains_of history in
    let whole = sym has.text ∙ is.text in
    let one = one_number width columns (spelled (length history) ++ (spelled (length own) ++ chains_text width 0 own)) (spelled until ++ (spelled (length chains) ++ chains_text columns 0 chains)) whole in
    let two = one_number (length history) until (spelled (length own) ++ chains_text width 0 own) (spelled (length chains) ++ chains_text columns 0 chains) one.1 in
    let three = one_number (length own) (length chains) (chains_text width 0 own) (chains_text columns 0 chains) two.1 in
    let loose-1 : Loose columns until 0 own = subst (λ n. Loose n until 0 own) one.0 (subst (λ n. Loose width n 0 own) two.0 (loose width history has.wide has.numbers)) in
    let texts : chains_text columns 0 own ++ [] ≡ chains_text columns 0 chains ++ [] = ap (λ n. chains_text n 0 own ++ []) (sym one.0) ∙ ap (λ t. t ++ []) three.1 in
    (one.0, two.0, same_chains columns until 0 0 own chains [] [] is.few is.built (omega arith) loose-1 is.keys three.0 texts)

-- and a history with as many columns as fit has a block
fits_keys : (columns until least : ℕ) (chains : List Chain) → until < 2 ^ 64 → Loose columns until least chains → AllByRecursion (λ (chain : Chain). chain.key < 2 ^ 64) chains → AreChains columns until least chains
fits_keys columns until least [] low one two = tt
fits_keys columns until least (chain ∷ chains) low one two =
    (one.0, two.0, one.1, short, one.2, fits_keys columns until (chain.key + 1) chains low one.3 two.1)
  where
    count : (time : ℕ) (versions : List Version) → time ≤ until → AreVersions columns until time versions → time + length versions ≤ until
    count time [] within fits = omega arith
    count time (version ∷ versions) within fits = let later : time < version.time = fits.0 in let rest = count version.time versions fits.1 fits.3 in omega (arith, rest)

    short : length chain.versions < 2 ^ 64
    short = let few = count 0 chain.versions (omega arith) one.2 in omega (arith, few)

pub is_block : (columns : ℕ) (history : List Commit) → 1 ≤ columns → columns ≤ 8 → length history < 2 ^ 64 → AreWide columns history → AllHaveNumbers (chains_of history) → AllByRecursion (λ (chain : Chain). chain.key < 2 ^ 64) (chains_of history)
    → length (chains_of history) < 2 ^ 64 → IsBlock (block columns history) columns (length history) (chains_of history)
is_block columns history some few low wide numbers keys count = record {
  some = some;
  few = few;
  built = low;
  count = count;
  keys = fits_keys columns (length history) 0 (chains_of history) low (loose columns history wide numbers) keys;
  text = refl;
}
