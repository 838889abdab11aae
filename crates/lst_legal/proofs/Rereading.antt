-- What the lines since a begin have read, one more line at a time.
use Rattle.std.proofs.Common.{◌≡◌, ◌↔◌, ℕ, ◌<◌, ◌≤◌, ◌⊎◌, inl, inr, ⊎_elim, Bool, true, false, cond, ◌||◌, eqb, IsTrue, List, [], ◌∷◌, ◌++◌, length, get_or, set, Option, Some, None, IfSome, option_map, refl, sym, ap, ◌∙◌, subst, true≢false, ◌-◌}
use Rattle.std.specs.Prelude.{IsSomeAnd}
use Rattle.std.specs.BTreeMap.{is_at}
use Rattle.std.specs.BTreeSet.{BTreeSet, Updates}
use Rattle.std.specs.Cmp.{unsigned_tied}
use Rattle.std.specs.Ordering.{nat_cmp}
use Rattle.std.proofs.Math.Bool.{or-true}
use Rattle.std.specs.List.{list_any, filter_map, cons_option}
use Rattle.std.proofs.lemmas.Bool.{eqb-true, eqb-false, eq-eqb}
use Rattle.std.proofs.lemmas.List.{get_or-set_same, get_or-set_other, length-set}
use Rattle.std.proofs.lemmas.List.Sums.{fold-append}
use Rattle.std.proofs.lemmas.List.Elements.{filter_map-append}
use Rattle.std.proofs.lemmas.List.Folds.{list_any-append}
use Rattle.std.proofs.lemmas.Option.{same_Some, none-some}
use Rattle.lst_model.specs.declared.acts.Write.{Write}
use Rattle.lst_model.specs.declared.commits.Commit.{Commit}
use Rattle.lst_model.specs.declared.lines.Line.TheVariants.{Phase, Merge, Call}
use Rattle.lst_model.specs.declared.lines.Call.{Call as CallKind}
use Rattle.lst_model.specs.declared.replies.Reply.{Reply}
use Rattle.lst_replies.specs.declared.states.Transaction.{Transaction}
use Rattle.lst_replies.specs.Runs.{Answered, answered, names, is_by, is_begun}
use Rattle.lst_replies.specs.Explained.{commit_at, has_write_on}
use Rattle.lst_replies.specs.Levels.{stale_time}
use Rattle.lst_legal_runs.specs.declared.outlines.OpenOutline.{OpenOutline}
use Rattle.lst_legal_runs.specs.Outlines.{outline_of_open}
use Rattle.lst_legal.specs.declared.stales.Reads.{Reads}
use Rattle.lst_serial_laws.specs.Legal.{lines_since_begin, key_of_call, key_named, reads_table, HasWrittenNamed, MayBeStale, StaleIsExplained}
use Rattle.lst_serial_laws.proofs.Numbers.{since_push}
use Rattle.lst_legal.specs.Serials.{has_number, has_written, AreNamed, AreReadsOf, AreReads, NamesAsMuch, StayReads}
use Rattle.lst_legal.proofs.Serials.{read_at}

-- ---- one line more

module _ (history : List Commit) (reads : List Reads) (front : List Answered) (reply : Reply) where
  pub reads_phase : AreReads history reads front → AreReads history reads (front ++ answered Phase reply ∷ [])
  reads_phase are session none below = subst (AreReadsOf history (get_or reads session none)) (sym (since_push session front (answered Phase reply))) (are session none below)

  pub reads_merge : (range column : ℕ) → AreReads history reads front → AreReads history reads (front ++ answered (Merge range column) reply ∷ [])
  reads_merge range column are session none below = subst (AreReadsOf history (get_or reads session none)) (sym (since_push session front (answered (Merge range column) reply))) (are session none below)

  pub reads_call : (speaker : ℕ) (call : CallKind) (next : Reads) → speaker < length reads
      → (AreReadsOf history (get_or reads speaker next) (lines_since_begin speaker front) → AreReadsOf history next (cond (is_begun reply) [] (lines_since_begin speaker front ++ answered (Call speaker call) reply ∷ [])))
      → AreReads history reads front → AreReads history (set reads speaker next) (front ++ answered (Call speaker call) reply ∷ [])
  reads_call speaker call next within step are session none below =
      subst (AreReadsOf history (get_or (set reads speaker next) session none)) (sym (since_push session front (answered (Call speaker call) reply))) (by_test (eqb speaker session) refl)
    where
      by_test : (b : Bool) → eqb speaker session ≡ b → AreReadsOf history (get_or (set reads speaker next) session none) (cond b (cond (is_begun reply) [] (lines_since_begin session front ++ answered (Call speaker call) reply ∷ [])) (lines_since_begin session front))
      by_test true same =
          let is : speaker ≡ session = eqb-true speaker session same in
          subst (λ (s : ℕ). AreReadsOf history (get_or (set reads speaker next) s none) (cond (is_begun reply) [] (lines_since_begin s front ++ answered (Call speaker call) reply ∷ []))) is
          (subst (λ (r : Reads). AreReadsOf history r (cond (is_begun reply) [] (lines_since_begin speaker front ++ answered (Call speaker call) reply ∷ []))) (sym (get_or-set_same reads speaker next none within)) (step (are speaker next within)))
      by_test false other =
          subst (λ (r : Reads). AreReadsOf history r (lines_since_begin session front)) (sym (get_or-set_other reads speaker session next none (λ h. eqb-false speaker session other (sym h))))
          (are session none (subst (λ (n : ℕ). session < n) (length-set reads speaker next) below))

-- ---- numbers of a list

same_at : (number other : ℕ) → is_at (nat_cmp number) other ≡ true → number ≡ other
same_at number other is = eqb-true number other (sym (unsigned_tied number other) ∙ is)

at_itself : (number : ℕ) → is_at (nat_cmp number) number ≡ true
at_itself number = unsigned_tied number number ∙ eq-eqb number number refl

not_at : (number other : ℕ) → is_at (nat_cmp number) other ≡ false → is_at (nat_cmp other) number ≡ false
not_at number other is = by_test (is_at (nat_cmp other) number) refl
  where
    by_test : (b : Bool) → is_at (nat_cmp other) number ≡ b → is_at (nat_cmp other) number ≡ false
    by_test true same = absurd (true≢false (sym (subst (λ (n : ℕ). is_at (nat_cmp number) n ≡ true) (sym (same_at other number same)) (at_itself number)) ∙ is))
    by_test false same = same

has_last : (number : ℕ) (numbers : List ℕ) → has_number (numbers ++ number ∷ []) number ≡ true
has_last number numbers = list_any-append (is_at (nat_cmp number)) numbers (number ∷ []) ∙ ap (λ b. has_number numbers number || (b || false)) (at_itself number) ∙ or-true (has_number numbers number)

has_before : (number other : ℕ) (numbers : List ℕ) → is_at (nat_cmp other) number ≡ false → has_number (numbers ++ number ∷ []) other ≡ has_number numbers other
has_before number other numbers none = list_any-append (is_at (nat_cmp other)) numbers (number ∷ []) ∙ ap (λ b. has_number numbers other || (b || false)) none ∙ or_none (has_number numbers other)
  where
    or_none : (b : Bool) → (b || (false || false)) ≡ b
    or_none true = refl
    or_none false = refl

-- a set and a list have the same numbers behind one more
pub same_more : (old new : BTreeSet ℕ) (numbers more : List ℕ) (number : ℕ) → Updates nat_cmp old new number true → more ≡ numbers ++ number ∷ []
    → ((other : ℕ) → has_number old.keys other ≡ has_number numbers other) → (other : ℕ) → has_number new.keys other ≡ has_number more other
same_more old new numbers more number added is same other = by_test (is_at (nat_cmp number) other) refl
  where
    by_test : (b : Bool) → is_at (nat_cmp number) other ≡ b → has_number new.keys other ≡ has_number more other
    by_test true at =
        subst (λ (n : ℕ). has_number new.keys n ≡ has_number more n) (same_at number other at)
        (added.1 ∙ sym (ap (λ xs. has_number xs number) is ∙ has_last number numbers))
    by_test false apart = added.2 other apart ∙ same other ∙ sym (ap (λ xs. has_number xs other) is ∙ has_before number other numbers (not_at number other apart))

-- a property of a number that joins a set, and of those that it had, is one of each that it has
pub all_more : (P : ℕ → Type 0) (old new : BTreeSet ℕ) (number : ℕ) → Updates nat_cmp old new number true → P number
    → ((other : ℕ) → has_number old.keys other ≡ true → P other) → (other : ℕ) → has_number new.keys other ≡ true → P other
all_more P old new number added last before other is = by_test (is_at (nat_cmp number) other) refl
  where
    by_test : (b : Bool) → is_at (nat_cmp number) other ≡ b → P other
    by_test true at = subst P (same_at number other at) last
    by_test false apart = before other (sym (added.2 other apart) ∙ is)

-- ---- one session's

pub reads_nothing : (history : List Commit) (reads : Reads) → reads.keys.items ≡ [] → reads.named.keys ≡ [] → reads.told.keys ≡ [] → reads.whole ≡ false → AreReadsOf history reads []
reads_nothing history reads keys named told whole = record {
  keys = keys;
  named = λ key. ap (λ xs. has_number xs key) named ∙ sym (ap (λ xs. has_number xs key) keys);
  told = λ time has. absurd (true≢false (sym has ∙ ap (λ xs. has_number xs time) told));
  whole = whole;
}

-- what was told stays, with more keys named
told_more : (history : List Commit) (old new more : List ℕ) → new ≡ old ++ more → (time : ℕ) → list_any (has_written (commit_at history time)) old ≡ true → list_any (has_written (commit_at history time)) new ≡ true
told_more history old new more is time told = ap (list_any (has_written (commit_at history time))) is ∙ list_any-append (has_written (commit_at history time)) old more
    ∙ ap (λ b. b || list_any (has_written (commit_at history time)) more) told

module _ (history : List Commit) (old new : Reads) (session : ℕ) (call : CallKind) (reply : Reply) (front : List Answered) where
  pub reads_none : is_begun reply ≡ true → AreReadsOf history new [] → AreReadsOf history new (cond (is_begun reply) [] (front ++ answered (Call session call) reply ∷ []))
  reads_none begun none = subst (λ b. AreReadsOf history new (cond b [] (front ++ answered (Call session call) reply ∷ []))) (sym begun) none

  pub reads_more : (key : Option ℕ) → is_begun reply ≡ false → key ≡ key_of_call call → new.keys.items ≡ old.keys.items ++ filter_map (λ (k : Option ℕ). k) (key ∷ []) → NamesAsMuch old new → new.told.keys ≡ old.told.keys → new.whole ≡ (old.whole || reads_table reply)
      → AreReadsOf history old front → AreReadsOf history new (cond (is_begun reply) [] (front ++ answered (Call session call) reply ∷ []))
  reads_more key begun is keys names told whole are =
      subst (λ b. AreReadsOf history new (cond b [] (front ++ answered (Call session call) reply ∷ []))) (sym begun) (record {
        keys = keys ∙ ap (λ (o : Option ℕ). old.keys.items ++ filter_map (λ (k : Option ℕ). k) (o ∷ [])) is ∙ ap (λ xs. xs ++ filter_map (λ (k : Option ℕ). k) (key_of_call call ∷ [])) are.keys
            ∙ sym (filter_map-append (λ (o : Answered). key_named o.line) front (answered (Call session call) reply ∷ []));
        named = names are.named;
        told = λ time has. told_more history old.keys.items new.keys.items (filter_map (λ (k : Option ℕ). k) (key ∷ [])) keys time (are.told time (sym (ap (λ xs. has_number xs time) told) ∙ has));
        whole = whole ∙ ap (λ b. b || reads_table reply) are.whole ∙ ap (λ b. list_any (λ (o : Answered). reads_table o.reply) front || b) (sym (or_false (reads_table reply)))
            ∙ sym (list_any-append (λ (o : Answered). reads_table o.reply) front (answered (Call session call) reply ∷ []));
      })
    where
      or_false : (b : Bool) → (b || false) ≡ b
      or_false true = refl
      or_false false = refl

-- a commit that has a write on a key is told
pub told_joins : (history : List Commit) (old new : Reads) (time : ℕ) → new.keys.items ≡ old.keys.items → new.named.keys ≡ old.named.keys → Updates nat_cmp old.told new.told time true → new.whole ≡ old.whole
    → (AreNamed old → list_any (has_written (commit_at history time)) old.keys.items ≡ true) → StayReads history old new
told_joins history old new time keys named added whole wrote lines are = record {
  keys = keys ∙ are.keys;
  named = λ key. ap (λ xs. has_number xs key) named ∙ are.named key ∙ sym (ap (λ xs. has_number xs key) keys);
  told = λ other has. ap (list_any (has_written (commit_at history other))) keys
      ∙ all_more (λ (t : ℕ). list_any (has_written (commit_at history t)) old.keys.items ≡ true) old.told new.told time added (wrote are.named) are.told other has;
  whole = whole ∙ are.whole;
}

-- ---- a stale commit

pub has_written_is : (b : Bool) (key : ℕ) (commit : Option Commit) → IsTrue b ↔ IsSomeAnd commit (λ c. IsTrue (has_write_on key c)) → b ≡ has_written commit key
has_written_is true key None decides = absurd (decides.0 refl)
has_written_is false key None decides = refl
has_written_is true key (Some commit) decides = sym (decides.0 refl)
has_written_is false key (Some commit) decides = by_test (has_write_on key commit) refl
  where
    by_test : (b : Bool) → has_write_on key commit ≡ b → false ≡ has_write_on key commit
    by_test true is = decides.1 is ∙ sym is
    by_test false is = sym is

wrote : (commit : Option Commit) (key : ℕ) → has_written commit key ≡ true ↔ IsSomeAnd commit (λ c. IsTrue (has_write_on key c))
wrote None key = ((λ e. absurd (cc)), (λ h. absurd h))
wrote (Some commit) key = ((λ e. e), (λ h. h))

-- the writes on named keys, and the named keys that are written
any_or : {X : Type 0} (test other : X → Bool) (xs : List X) → list_any (λ x. test x || other x) xs ≡ (list_any test xs || list_any other xs)
any_or test other [] = refl
any_or test other (x ∷ xs) = ap (λ b. (test x || other x) || b) (any_or test other xs) ∙ shuffled (test x) (other x) (list_any test xs) (list_any other xs)
  where
    shuffled : (a b c d : Bool) → ((a || b) || (c || d)) ≡ ((a || c) || (b || d))
    shuffled true b c d = refl
    shuffled false true true d = refl
    shuffled false true false d = refl
    shuffled false false true d = refl
    shuffled false false false d = refl

any_same : {X : Type 0} (test other : X → Bool) → ((x : X) → test x ≡ other x) → (xs : List X) → list_any test xs ≡ list_any other xs
any_same test other same [] = refl
any_same test other same (x ∷ xs) = ap (λ b. b || list_any test xs) (same x) ∙ ap (λ b. other x || b) (any_same test other same xs)

any_none : {X : Type 0} (xs : List X) → list_any (λ x. false) xs ≡ false
any_none [] = refl
any_none (x ∷ xs) = any_none xs

exchanged : (writes : List Write) (keys : List ℕ) → list_any (λ (write : Write). has_number keys write.key) writes ≡ list_any (λ key. list_any (λ (write : Write). eqb write.key key) writes) keys
exchanged writes [] = any_none writes
exchanged writes (key ∷ keys) =
    any_or (λ (write : Write). is_at (nat_cmp write.key) key) (λ (write : Write). has_number keys write.key) writes
    ∙ ap (λ b. b || list_any (λ (write : Write). has_number keys write.key) writes) (any_same (λ (write : Write). is_at (nat_cmp write.key) key) (λ (write : Write). eqb write.key key) (λ write. unsigned_tied write.key key) writes)
    ∙ ap (λ b. list_any (λ (write : Write). eqb write.key key) writes || b) (exchanged writes keys)

pub written_named : (history : List Commit) (time : ℕ) (commit : Commit) (reads : Reads) (b : Bool) → 0 < time → time ≤ length history → commit ≡ get_or history (time - 1) commit
    → b ≡ list_any (λ (write : Write). has_number reads.named.keys write.key) commit.writes → AreNamed reads → b ≡ list_any (has_written (commit_at history time)) reads.keys.items
written_named history time commit reads b some past here is named =
    is ∙ any_same (λ (write : Write). has_number reads.named.keys write.key) (λ (write : Write). has_number reads.keys.items write.key) (λ write. named write.key) commit.writes
    ∙ exchanged commit.writes reads.keys.items
    ∙ ap (λ (o : Option Commit). list_any (has_written o) reads.keys.items) (sym (read_at history time commit some past ∙ ap (λ (c : Commit). Some c) (sym here)))

-- a key that is named and passes a test
record Named (test : ℕ → Bool) (lines : List Answered) : Type 0 where
  pub key : ℕ
  pub named : list_any (λ (one : Answered). names key (key_named one.line)) lines ≡ true
  pub passes : test key ≡ true

or_left : (b c : Bool) → b ≡ true → (b || c) ≡ true
or_left true c e = refl
or_left false c e = absurd (cc)

or_right : (b c : Bool) → c ≡ true → (b || c) ≡ true
or_right true c e = refl
or_right false c e = e

any_named : (test : ℕ → Bool) (lines : List Answered) → list_any test (filter_map (λ (one : Answered). key_named one.line) lines) ≡ true → Named test lines
any_named test [] any = absurd (cc)
any_named test (line ∷ lines) any = by_key (key_named line.line) refl any (λ later. any_named test lines later)
  where
    more : Named test lines → Named test (line ∷ lines)
    more rest = record { key = rest.key; named = or_right (names rest.key (key_named line.line)) (list_any (λ (one : Answered). names rest.key (key_named one.line)) lines) rest.named; passes = rest.passes }

    by_test : (key : ℕ) (b : Bool) → key_named line.line ≡ Some key → test key ≡ b → (b || list_any test (filter_map (λ (one : Answered). key_named one.line) lines)) ≡ true
        → (list_any test (filter_map (λ (one : Answered). key_named one.line) lines) ≡ true → Named test lines) → Named test (line ∷ lines)
    by_test key true is passes any behind = record {
      key = key;
      named = or_left (names key (key_named line.line)) (list_any (λ (one : Answered). names key (key_named one.line)) lines) (ap (names key) is ∙ eq-eqb key key refl);
      passes = passes;
    }
    by_test key false is passes any behind = more (behind any)

    by_key : (key : Option ℕ) → key_named line.line ≡ key → list_any test (cons_option key (filter_map (λ (one : Answered). key_named one.line) lines)) ≡ true
        → (list_any test (filter_map (λ (one : Answered). key_named one.line) lines) ≡ true → Named test lines) → Named test (line ∷ lines)
    by_key None is any behind = more (behind any)
    by_key (Some key) is any behind = by_test key (test key) is refl any behind

named_any : (test : ℕ → Bool) (key : ℕ) → test key ≡ true → (lines : List Answered) → list_any (λ (one : Answered). names key (key_named one.line)) lines ≡ true → list_any test (filter_map (λ (one : Answered). key_named one.line) lines) ≡ true
named_any test key passes [] named = absurd (cc)
named_any test key passes (line ∷ lines) named = by_key (key_named line.line) named (λ later. named_any test key passes lines later)
  where
    by_test : (other : ℕ) (b : Bool) → eqb other key ≡ b → (b || list_any (λ (one : Answered). names key (key_named one.line)) lines) ≡ true → (list_any (λ (one : Answered). names key (key_named one.line)) lines ≡ true → list_any test (filter_map (λ (one : Answered). key_named one.line) lines) ≡ true) → (test other || list_any test (filter_map (λ (one : Answered). key_named one.line) lines)) ≡ true
    by_test other true same named behind = or_left (test other) (list_any test (filter_map (λ (one : Answered). key_named one.line) lines)) (ap test (eqb-true other key same) ∙ passes)
    by_test other false same named behind = or_right (test other) (list_any test (filter_map (λ (one : Answered). key_named one.line) lines)) (behind named)

    by_key : (o : Option ℕ) → (names key o || list_any (λ (one : Answered). names key (key_named one.line)) lines) ≡ true → (list_any (λ (one : Answered). names key (key_named one.line)) lines ≡ true → list_any test (filter_map (λ (one : Answered). key_named one.line) lines) ≡ true) → list_any test (cons_option o (filter_map (λ (one : Answered). key_named one.line) lines)) ≡ true
    by_key None named behind = behind named
    by_key (Some other) named behind = by_test other (eqb other key) refl named behind

module _ (history : List Commit) (begin time : ℕ) (lines : List Answered) (reads : Reads) (are : AreReadsOf history reads lines) where
  read_is : (reads.whole || list_any (has_written (commit_at history time)) reads.keys.items) ≡ true ↔ (IsTrue (list_any (λ (one : Answered). reads_table one.reply) lines) ⊎ HasWrittenNamed history time lines)
  read_is = (
    (λ e. by_whole reads.whole refl e),
    (λ h. ⊎_elim
        (λ whole. or_left reads.whole (list_any (has_written (commit_at history time)) reads.keys.items) (are.whole ∙ whole))
        (λ named. or_right reads.whole (list_any (has_written (commit_at history time)) reads.keys.items)
        (ap (list_any (has_written (commit_at history time))) are.keys ∙ named_any (has_written (commit_at history time)) named.key ((wrote (commit_at history time) named.key).1 named.wrote) lines named.named))
        h),
  )
    where
      by_whole : (b : Bool) → reads.whole ≡ b → (b || list_any (has_written (commit_at history time)) reads.keys.items) ≡ true → IsTrue (list_any (λ (one : Answered). reads_table one.reply) lines) ⊎ HasWrittenNamed history time lines
      by_whole true is e = inl (sym are.whole ∙ is)
      by_whole false is e =
          let found = any_named (has_written (commit_at history time)) lines (ap (list_any (has_written (commit_at history time))) (sym are.keys) ∙ e) in
          inr (record { key = found.key; named = found.named; wrote = (wrote (commit_at history time) found.key).0 found.passes })

  pub may_be_stale : (b : Bool) → begin < time → time ≤ length history → b ≡ (reads.whole || list_any (has_written (commit_at history time)) reads.keys.items) → IsTrue b ↔ MayBeStale history begin time lines
  may_be_stale b later past is = (
    (λ sure. record { later = later; past = past; read = read_is.0 (sym is ∙ sure) }),
    (λ may. is ∙ read_is.1 may.read),
  )

-- ---- at an open transaction

pub at_stale : (b : Bool) (history : List Commit) (before : List Answered) (session : ℕ) (current : Option Transaction) (outline : OpenOutline) (reply : Reply) (time : ℕ)
    → Some outline ≡ option_map outline_of_open current → stale_time reply ≡ Some time → IsTrue b ↔ MayBeStale history outline.begin time (lines_since_begin session before)
    → IsTrue b ↔ StaleIsExplained history before session current reply
at_stale b history before session None outline reply time opened told decides = absurd (none-some outline (sym opened))
at_stale b history before session (Some transaction) outline reply time opened told decides =
    let same : outline ≡ outline_of_open transaction = same_Some outline (outline_of_open transaction) opened in
    subst (λ (o : Option ℕ). IsTrue b ↔ IfSome o (λ time. MayBeStale history transaction.begin time (lines_since_begin session before))) (sym told)
    (subst (λ (o : OpenOutline). IsTrue b ↔ MayBeStale history o.begin time (lines_since_begin session before)) same decides)

pub not_stale : (history : List Commit) (before : List Answered) (session : ℕ) (current : Option Transaction) (reply : Reply) → stale_time reply ≡ None → StaleIsExplained history before session current reply
not_stale history before session None reply told = tt
not_stale history before session (Some transaction) reply told = subst (λ (o : Option ℕ). IfSome o (λ time. MayBeStale history transaction.begin time (lines_since_begin session before))) (sym told) tt

-- what is kept behind the front of a run
pub record Reading (history : List Commit) (sessions : ℕ) (reads : List Reads) (front : List Answered) : Type 0 where
  pub all : length reads ≡ sessions
  pub are : AreReads history reads front
