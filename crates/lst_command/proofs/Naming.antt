-- Which words are no command line.
use Rattle.std.proofs.Common.{◌≡◌, ℕ, List, [], ◌∷◌, Some, slice_get, slice_index_or, codes, drop, refl, sym, ap, ◌∙◌, arith, subst, inl, inr}
use Rattle.std.specs.Prelude.{◌⊎◌}
use Rattle.lst_layout.specs.declared.limits.Limits.{Limits}
use Rattle.lst_options.specs.declared.as_of.AsOfOptions.{AsOfOptions}
use Rattle.lst_options.specs.declared.crash.CrashOptions.{CrashOptions}
use Rattle.lst_options.specs.declared.level.LevelOptions.{LevelOptions}
use Rattle.lst_options.specs.declared.load.LoadNumbers.{LoadNumbers}
use Rattle.lst_options.specs.Options.{NamesAsOf, NamesCrash, NamesLevel, NamesLimits, NamesLoad, NamesTable}
use Rattle.lst_command.specs.declared.command.Command.TheVariants.{Input, Load}
use Rattle.lst_command.specs.declared.command.Task.{Task}
use Rattle.lst_command.specs.declared.command.Task.TheVariants.{Run, Work, Check, Migrate, AsOf, Import, Dump, Crash}
use Rattle.lst_command.specs.Commands.{NamesNone, NamesOptions, NamesTask, TakesLimits, task_word}

first_letter : (a b : List ℕ) → a ≡ b → slice_index_or a 0 0 ≡ slice_index_or b 0 0
first_letter a b same = ap (λ (word : List ℕ). slice_index_or word 0 0) same

second_letter : (a b : List ℕ) → a ≡ b → slice_index_or a 1 0 ≡ slice_index_or b 1 0
second_letter a b same = ap (λ (word : List ℕ). slice_index_or word 1 0) same

-- the word of a task is no load's
pub no_load_word : (task : Task) → task_word task ≡ codes "load" → ⊥
no_load_word Run same = let first : 114 ≡ 108 = first_letter (codes "run") (codes "load") same in omega (arith, first)
no_load_word (Work level) same = let first : 119 ≡ 108 = first_letter (codes "work") (codes "load") same in omega (arith, first)
no_load_word (Check level) same = let first : 99 ≡ 108 = first_letter (codes "check") (codes "load") same in omega (arith, first)
no_load_word Migrate same = let first : 109 ≡ 108 = first_letter (codes "migrate") (codes "load") same in omega (arith, first)
no_load_word (AsOf time) same = let first : 97 ≡ 108 = first_letter (codes "asof") (codes "load") same in omega (arith, first)
no_load_word Import same = let first : 105 ≡ 108 = first_letter (codes "import") (codes "load") same in omega (arith, first)
no_load_word Dump same = let first : 100 ≡ 108 = first_letter (codes "dump") (codes "load") same in omega (arith, first)
no_load_word (Crash disk) same = let first : 99 ≡ 108 = first_letter (codes "crash") (codes "load") same in omega (arith, first)

-- nor is that of a task with the options of a store alone `asof`
no_as_of_word : (task : Task) → TakesLimits task → task_word task ≡ codes "asof" → ⊥
no_as_of_word Run plain same = let first : 114 ≡ 97 = first_letter (codes "run") (codes "asof") same in omega (arith, first)
no_as_of_word (Work level) plain same = plain
no_as_of_word (Check level) plain same = plain
no_as_of_word Migrate plain same = let first : 109 ≡ 97 = first_letter (codes "migrate") (codes "asof") same in omega (arith, first)
no_as_of_word (AsOf time) plain same = plain
no_as_of_word Import plain same = plain
no_as_of_word Dump plain same = let first : 100 ≡ 97 = first_letter (codes "dump") (codes "asof") same in omega (arith, first)
no_as_of_word (Crash disk) plain same = plain

-- nor `import`
no_import_word : (task : Task) → TakesLimits task → task_word task ≡ codes "import" → ⊥
no_import_word Run plain same = let first : 114 ≡ 105 = first_letter (codes "run") (codes "import") same in omega (arith, first)
no_import_word (Work level) plain same = plain
no_import_word (Check level) plain same = plain
no_import_word Migrate plain same = let first : 109 ≡ 105 = first_letter (codes "migrate") (codes "import") same in omega (arith, first)
no_import_word (AsOf time) plain same = plain
no_import_word Import plain same = plain
no_import_word Dump plain same = let first : 100 ≡ 105 = first_letter (codes "dump") (codes "import") same in omega (arith, first)
no_import_word (Crash disk) plain same = plain

-- nor `check`
no_check_word : (task : Task) → TakesLimits task → task_word task ≡ codes "check" → ⊥
no_check_word Run plain same = let first : 114 ≡ 99 = first_letter (codes "run") (codes "check") same in omega (arith, first)
no_check_word (Work level) plain same = plain
no_check_word (Check level) plain same = plain
no_check_word Migrate plain same = let first : 109 ≡ 99 = first_letter (codes "migrate") (codes "check") same in omega (arith, first)
no_check_word (AsOf time) plain same = plain
no_check_word Import plain same = plain
no_check_word Dump plain same = let first : 100 ≡ 99 = first_letter (codes "dump") (codes "check") same in omega (arith, first)
no_check_word (Crash disk) plain same = plain

-- nor `crash`
no_crash_word : (task : Task) → TakesLimits task → task_word task ≡ codes "crash" → ⊥
no_crash_word Run plain same = let first : 114 ≡ 99 = first_letter (codes "run") (codes "crash") same in omega (arith, first)
no_crash_word (Work level) plain same = plain
no_crash_word (Check level) plain same = plain
no_crash_word Migrate plain same = let first : 109 ≡ 99 = first_letter (codes "migrate") (codes "crash") same in omega (arith, first)
no_crash_word (AsOf time) plain same = plain
no_crash_word Import plain same = plain
no_crash_word Dump plain same = let first : 100 ≡ 99 = first_letter (codes "dump") (codes "crash") same in omega (arith, first)
no_crash_word (Crash disk) plain same = plain

-- nor `work`
no_work_word : (task : Task) → TakesLimits task → task_word task ≡ codes "work" → ⊥
no_work_word Run plain same = let first : 114 ≡ 119 = first_letter (codes "run") (codes "work") same in omega (arith, first)
no_work_word (Work level) plain same = plain
no_work_word (Check level) plain same = plain
no_work_word Migrate plain same = let first : 109 ≡ 119 = first_letter (codes "migrate") (codes "work") same in omega (arith, first)
no_work_word (AsOf time) plain same = plain
no_work_word Import plain same = plain
no_work_word Dump plain same = let first : 100 ≡ 119 = first_letter (codes "dump") (codes "work") same in omega (arith, first)
no_work_word (Crash disk) plain same = plain

-- behind its word stand the options of a store
plain_options : (options : List (List ℕ)) (task : Task) (limits : Limits) → TakesLimits task → NamesLimits options limits → NamesOptions options task limits
plain_options options Run limits plain names = names
plain_options options (Work level) limits plain names = absurd plain
plain_options options (Check level) limits plain names = absurd plain
plain_options options Migrate limits plain names = names
plain_options options (AsOf time) limits plain names = absurd plain
plain_options options Import limits plain names = absurd plain
plain_options options Dump limits plain names = names
plain_options options (Crash disk) limits plain names = absurd plain

words_are : (words : List (List ℕ)) (word : List ℕ) → slice_get words 0 ≡ Some word → words ≡ word ∷ drop 1 words
words_are [] word first = absurd (cc)
words_are (other ∷ words) word first = let same : other ≡ word = cc in ap (λ (w : List ℕ). w ∷ words) same

-- words that begin with the word of a task with the options of a store alone, and name these limits behind it
pub task_is : (words : List (List ℕ)) (task : Task) (limits : Limits) → TakesLimits task → slice_get words 0 ≡ Some (task_word task) → NamesLimits (drop 1 words) limits → NamesTask words task limits
task_is words task limits plain first names = record { options = drop 1 words; word = words_are words (task_word task) first; gives = plain_options (drop 1 words) task limits plain names }

options_or_other : (options : List (List ℕ)) (task : Task) (limits : Limits) → NamesOptions options task limits
    → (NamesLimits options limits) ⊎ ((task_word task ≡ codes "check") ⊎ ((task_word task ≡ codes "asof") ⊎ ((task_word task ≡ codes "import") ⊎ ((task_word task ≡ codes "work") ⊎ (task_word task ≡ codes "crash")))))
options_or_other options Run limits names = inl names
options_or_other options (Work level) limits names = inr (inr (inr (inr (inl refl))))
options_or_other options (Check level) limits names = inr (inl refl)
options_or_other options Migrate limits names = inl names
options_or_other options (AsOf time) limits names = inr (inr (inl refl))
options_or_other options Import limits names = inr (inr (inr (inl refl)))
options_or_other options Dump limits names = inl names
options_or_other options (Crash disk) limits names = inr (inr (inr (inr (inr refl))))

first_word : (words options : List (List ℕ)) (word : List ℕ) → words ≡ word ∷ options → slice_get words 0 ≡ Some word
first_word words options word same = ap (λ (all : List (List ℕ)). slice_get all 0) same

same_word : (words options : List (List ℕ)) (word other : List ℕ) → slice_get words 0 ≡ Some word → words ≡ other ∷ options → other ≡ word
same_word words options word other first is =
    let both : Some other ≡ Some word = sym (first_word words options other is) ∙ first in
    cc

behind : (words options : List (List ℕ)) (word : List ℕ) → words ≡ word ∷ options → options ≡ drop 1 words
behind words options word same = sym (ap (λ (all : List (List ℕ)). drop 1 all) same)

-- words that begin with the word of a task, and name no limits behind it
pub no_task : (words : List (List ℕ)) (task : Task) → TakesLimits task → slice_get words 0 ≡ Some (task_word task) → ((limits : Limits) → ¬ NamesLimits (drop 1 words) limits) → NamesNone words
no_task words task plain first none (Input other limits) names = elim (options_or_other names.options other limits names.gives) [
  | inl given ↦ none limits (subst (λ (options : List (List ℕ)). NamesLimits options limits) (behind words names.options (task_word other) names.word) given)
  | inr is ↦ elim is [
    | inl check ↦ no_check_word task plain (sym (same_word words names.options (task_word task) (task_word other) first names.word) ∙ check)
    | inr is ↦ elim is [
      | inl past ↦ no_as_of_word task plain (sym (same_word words names.options (task_word task) (task_word other) first names.word) ∙ past)
      | inr is ↦ elim is [
        | inl table ↦ no_import_word task plain (sym (same_word words names.options (task_word task) (task_word other) first names.word) ∙ table)
        | inr is ↦ elim is [
          | inl work ↦ no_work_word task plain (sym (same_word words names.options (task_word task) (task_word other) first names.word) ∙ work)
          | inr crash ↦ no_crash_word task plain (sym (same_word words names.options (task_word task) (task_word other) first names.word) ∙ crash)
        ]
      ]
    ]
  ]
]
no_task words task plain first none (Load numbers) names = no_load_word task (sym (same_word words names.options (task_word task) (codes "load") first names.word))

-- words that begin with `asof`, and name no limits and time behind it
pub no_as_of : (words : List (List ℕ)) → slice_get words 0 ≡ Some (codes "asof") → ((options : AsOfOptions) → ¬ NamesAsOf (drop 1 words) options) → NamesNone words
no_as_of words first none (Input Run limits) names = no_as_of_word Run tt (same_word words names.options (codes "asof") (codes "run") first names.word)
no_as_of words first none (Input (Work level) limits) names = let first_is : 119 ≡ 97 = first_letter (codes "work") (codes "asof") (same_word words names.options (codes "asof") (codes "work") first names.word) in omega (arith, first_is)
no_as_of words first none (Input (Check level) limits) names = let first_is : 99 ≡ 97 = first_letter (codes "check") (codes "asof") (same_word words names.options (codes "asof") (codes "check") first names.word) in omega (arith, first_is)
no_as_of words first none (Input Migrate limits) names = no_as_of_word Migrate tt (same_word words names.options (codes "asof") (codes "migrate") first names.word)
no_as_of words first none (Input (AsOf time) limits) names =
    let given : AsOfOptions = record { limits = limits; time = time } in
    none given (subst (λ (options : List (List ℕ)). NamesAsOf options given) (behind words names.options (codes "asof") names.word) names.gives)
no_as_of words first none (Input Import limits) names = let first_is : 105 ≡ 97 = first_letter (codes "import") (codes "asof") (same_word words names.options (codes "asof") (codes "import") first names.word) in omega (arith, first_is)
no_as_of words first none (Input Dump limits) names = no_as_of_word Dump tt (same_word words names.options (codes "asof") (codes "dump") first names.word)
no_as_of words first none (Input (Crash disk) limits) names = let first_is : 99 ≡ 97 = first_letter (codes "crash") (codes "asof") (same_word words names.options (codes "asof") (codes "crash") first names.word) in omega (arith, first_is)
no_as_of words first none (Load numbers) names = let first_is : 108 ≡ 97 = first_letter (codes "load") (codes "asof") (same_word words names.options (codes "asof") (codes "load") first names.word) in omega (arith, first_is)

-- words that begin with `check`, and name no limits and level behind it
pub no_check : (words : List (List ℕ)) → slice_get words 0 ≡ Some (codes "check") → ((options : LevelOptions) → ¬ NamesLevel (drop 1 words) options) → NamesNone words
no_check words first none (Input Run limits) names = no_check_word Run tt (same_word words names.options (codes "check") (codes "run") first names.word)
no_check words first none (Input (Work level) limits) names = let first_is : 119 ≡ 99 = first_letter (codes "work") (codes "check") (same_word words names.options (codes "check") (codes "work") first names.word) in omega (arith, first_is)
no_check words first none (Input (Check level) limits) names =
    let given : LevelOptions = record { limits = limits; level = level } in
    none given (subst (λ (options : List (List ℕ)). NamesLevel options given) (behind words names.options (codes "check") names.word) names.gives)
no_check words first none (Input Migrate limits) names = no_check_word Migrate tt (same_word words names.options (codes "check") (codes "migrate") first names.word)
no_check words first none (Input (AsOf time) limits) names = let first_is : 97 ≡ 99 = first_letter (codes "asof") (codes "check") (same_word words names.options (codes "check") (codes "asof") first names.word) in omega (arith, first_is)
no_check words first none (Input Import limits) names = let first_is : 105 ≡ 99 = first_letter (codes "import") (codes "check") (same_word words names.options (codes "check") (codes "import") first names.word) in omega (arith, first_is)
no_check words first none (Input Dump limits) names = no_check_word Dump tt (same_word words names.options (codes "check") (codes "dump") first names.word)
no_check words first none (Input (Crash disk) limits) names = let second_is : 114 ≡ 104 = second_letter (codes "crash") (codes "check") (same_word words names.options (codes "check") (codes "crash") first names.word) in omega (arith, second_is)
no_check words first none (Load numbers) names = let first_is : 108 ≡ 99 = first_letter (codes "load") (codes "check") (same_word words names.options (codes "check") (codes "load") first names.word) in omega (arith, first_is)

-- words that begin with `work`, and name no limits and level behind it
pub no_work : (words : List (List ℕ)) → slice_get words 0 ≡ Some (codes "work") → ((options : LevelOptions) → ¬ NamesLevel (drop 1 words) options) → NamesNone words
no_work words first none (Input Run limits) names = no_work_word Run tt (same_word words names.options (codes "work") (codes "run") first names.word)
no_work words first none (Input (Work level) limits) names =
    let given : LevelOptions = record { limits = limits; level = level } in
    none given (subst (λ (options : List (List ℕ)). NamesLevel options given) (behind words names.options (codes "work") names.word) names.gives)
no_work words first none (Input (Check level) limits) names = let first_is : 99 ≡ 119 = first_letter (codes "check") (codes "work") (same_word words names.options (codes "work") (codes "check") first names.word) in omega (arith, first_is)
no_work words first none (Input Migrate limits) names = no_work_word Migrate tt (same_word words names.options (codes "work") (codes "migrate") first names.word)
no_work words first none (Input (AsOf time) limits) names = let first_is : 97 ≡ 119 = first_letter (codes "asof") (codes "work") (same_word words names.options (codes "work") (codes "asof") first names.word) in omega (arith, first_is)
no_work words first none (Input Import limits) names = let first_is : 105 ≡ 119 = first_letter (codes "import") (codes "work") (same_word words names.options (codes "work") (codes "import") first names.word) in omega (arith, first_is)
no_work words first none (Input Dump limits) names = no_work_word Dump tt (same_word words names.options (codes "work") (codes "dump") first names.word)
no_work words first none (Input (Crash disk) limits) names = let first_is : 99 ≡ 119 = first_letter (codes "crash") (codes "work") (same_word words names.options (codes "work") (codes "crash") first names.word) in omega (arith, first_is)
no_work words first none (Load numbers) names = let first_is : 108 ≡ 119 = first_letter (codes "load") (codes "work") (same_word words names.options (codes "work") (codes "load") first names.word) in omega (arith, first_is)

-- words that begin with `import`, and name no columns behind it
pub no_import : (words : List (List ℕ)) → slice_get words 0 ≡ Some (codes "import") → ((limits : Limits) → ¬ NamesTable (drop 1 words) limits) → NamesNone words
no_import words first none (Input Run limits) names = no_import_word Run tt (same_word words names.options (codes "import") (codes "run") first names.word)
no_import words first none (Input (Work level) limits) names = let first_is : 119 ≡ 105 = first_letter (codes "work") (codes "import") (same_word words names.options (codes "import") (codes "work") first names.word) in omega (arith, first_is)
no_import words first none (Input (Check level) limits) names = let first_is : 99 ≡ 105 = first_letter (codes "check") (codes "import") (same_word words names.options (codes "import") (codes "check") first names.word) in omega (arith, first_is)
no_import words first none (Input Migrate limits) names = no_import_word Migrate tt (same_word words names.options (codes "import") (codes "migrate") first names.word)
no_import words first none (Input (AsOf time) limits) names = let first_is : 97 ≡ 105 = first_letter (codes "asof") (codes "import") (same_word words names.options (codes "import") (codes "asof") first names.word) in omega (arith, first_is)
no_import words first none (Input Import limits) names = none limits (subst (λ (options : List (List ℕ)). NamesTable options limits) (behind words names.options (codes "import") names.word) names.gives)
no_import words first none (Input Dump limits) names = no_import_word Dump tt (same_word words names.options (codes "import") (codes "dump") first names.word)
no_import words first none (Input (Crash disk) limits) names = let first_is : 99 ≡ 105 = first_letter (codes "crash") (codes "import") (same_word words names.options (codes "import") (codes "crash") first names.word) in omega (arith, first_is)
no_import words first none (Load numbers) names = let first_is : 108 ≡ 105 = first_letter (codes "load") (codes "import") (same_word words names.options (codes "import") (codes "load") first names.word) in omega (arith, first_is)

-- words that begin with `crash`, and name no limits and disk behind it
pub no_crash : (words : List (List ℕ)) → slice_get words 0 ≡ Some (codes "crash") → ((options : CrashOptions) → ¬ NamesCrash (drop 1 words) options) → NamesNone words
no_crash words first none (Input Run limits) names = no_crash_word Run tt (same_word words names.options (codes "crash") (codes "run") first names.word)
no_crash words first none (Input (Work level) limits) names = let first_is : 119 ≡ 99 = first_letter (codes "work") (codes "crash") (same_word words names.options (codes "crash") (codes "work") first names.word) in omega (arith, first_is)
no_crash words first none (Input (Check level) limits) names = let second_is : 104 ≡ 114 = second_letter (codes "check") (codes "crash") (same_word words names.options (codes "crash") (codes "check") first names.word) in omega (arith, second_is)
no_crash words first none (Input Migrate limits) names = no_crash_word Migrate tt (same_word words names.options (codes "crash") (codes "migrate") first names.word)
no_crash words first none (Input (AsOf time) limits) names = let first_is : 97 ≡ 99 = first_letter (codes "asof") (codes "crash") (same_word words names.options (codes "crash") (codes "asof") first names.word) in omega (arith, first_is)
no_crash words first none (Input Import limits) names = let first_is : 105 ≡ 99 = first_letter (codes "import") (codes "crash") (same_word words names.options (codes "crash") (codes "import") first names.word) in omega (arith, first_is)
no_crash words first none (Input Dump limits) names = no_crash_word Dump tt (same_word words names.options (codes "crash") (codes "dump") first names.word)
no_crash words first none (Input (Crash disk) limits) names =
    let given : CrashOptions = record { limits = limits; disk = disk } in
    none given (subst (λ (options : List (List ℕ)). NamesCrash options given) (behind words names.options (codes "crash") names.word) names.gives)
no_crash words first none (Load numbers) names = let first_is : 108 ≡ 99 = first_letter (codes "load") (codes "crash") (same_word words names.options (codes "crash") (codes "load") first names.word) in omega (arith, first_is)

-- words that begin with no word of a task, and name no load
pub no_load : (words : List (List ℕ)) → ((task : Task) → ¬ (slice_get words 0 ≡ Some (task_word task))) → ((numbers : LoadNumbers) → ¬ NamesLoad (drop 1 words) numbers) → NamesNone words
no_load words tasks none (Input task limits) names = tasks task (first_word words names.options (task_word task) names.word)
no_load words tasks none (Load numbers) names = none numbers (subst (λ (options : List (List ℕ)). NamesLoad options numbers) (behind words names.options (codes "load") names.word) names.gives)

-- words that begin with no word of a command
pub no_word : (words : List (List ℕ)) → ((task : Task) → ¬ (slice_get words 0 ≡ Some (task_word task))) → ¬ (slice_get words 0 ≡ Some (codes "load")) → NamesNone words
no_word words tasks load (Input task limits) names = tasks task (first_word words names.options (task_word task) names.word)
no_word words tasks load (Load numbers) names = load (first_word words names.options (codes "load") names.word)
