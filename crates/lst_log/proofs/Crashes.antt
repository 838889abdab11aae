-- What an image stands for while records are stored behind the closed gate, and while the gate is opened.
use Rattle.std.proofs.Common.{◌≡◌, ◌≢◌, inl, inr, ℕ, zero, suc, ◌+◌, ◌-◌, ◌≤◌, ◌<◌, List, [], ◌∷◌, ◌++◌, length, get_or, set, take, drop, Option, Some, None, sym, ◌∙◌, ap, subst, arith, append_assoc, length-append}
use Rattle.std.specs.Prelude.{Result, IsErr}
use Rattle.std.specs.List.{AllByRecursion}
use Rattle.std.proofs.lemmas.Bool.{cases_eq}
use Rattle.std.proofs.lemmas.List.{append-nil, take_at, drop_at, drop_more, take-append-drop, take_all, length-drop}
use Rattle.std.proofs.Math.Seq.{set-append_seam}
use Rattle.std.proofs.lemmas.Grind.{flat_map-append}
use Rattle.lst_model.specs.declared.commits.Commit.{Commit}
use Rattle.lst_model.specs.Soundness.{IsSound}
use Rattle.lst_model.proofs.Sounding.{sound_snoc}
use Rattle.lst_disk.specs.Disk.{CrashOutcome, overwritten, Torn}
use Rattle.lst_log.specs.Format.{body, record_of, journal, HasRecord, IsPieceOf, IsBatchOf}
use Rattle.lst_snapshots.specs.Replays.{numbered_at, numbered_from, IsRecovered, MayFollow}
use Rattle.lst_log.specs.Journals.{Ends, AllMayFollow, StandsFor, StandsForOrAll}
use Rattle.lst_log.specs.Logs.{StopsShort, StopsSo}
use Rattle.lst_log.specs.Stores.{CountsCalls, staged, opened, HalfStored, written_by, synced_by, IsLeftSo}

-- ---- one commit more

pub each_more : (P : Commit → Type 0) (commits : List Commit) (commit : Commit) → AllByRecursion P commits → P commit → AllByRecursion P (commits ++ commit ∷ [])
each_more P [] commit before one = (one, tt)
each_more P (c ∷ commits) commit before one = (before.0, each_more P commits commit before.1 one)

pub numbered_more : (time : ℕ) (commits : List Commit) (commit : Commit) → numbered_from time (commits ++ commit ∷ []) ≡ numbered_from time commits ++ numbered_at (length commits + time) commit ∷ []
numbered_more time [] commit = ap (λ (t : ℕ). numbered_at t commit ∷ []) (omega arith)
numbered_more time (c ∷ commits) commit =
    ap (λ (cs : List Commit). numbered_at time c ∷ cs) (numbered_more (suc time) commits commit ∙ ap (λ (t : ℕ). numbered_from (suc time) commits ++ numbered_at t commit ∷ []) (omega arith))

pub recovered_more : (commits : List Commit) (commit : Commit) → IsRecovered commits → MayFollow commits commit → IsRecovered (commits ++ commit ∷ [])
recovered_more commits commit recovered follows =
    subst IsSound (sym (numbered_more 1 commits commit)) (sound_snoc (numbered_from 1 commits) (numbered_at (length commits + 1) commit) recovered follows)

pub journal_more : (columns : ℕ) (commits : List Commit) (commit : Commit) (rest : List ℕ) → journal columns (commits ++ commit ∷ []) ++ rest ≡ journal columns commits ++ 1 ∷ (body columns commit ++ rest)
journal_more columns commits commit rest =
    let one : journal columns (commit ∷ []) ≡ record_of columns commit = append-nil (record_of columns commit) in
    ap (λ (bytes : List ℕ). bytes ++ rest) (flat_map-append (record_of columns) commits (commit ∷ []) ∙ ap (λ (bytes : List ℕ). journal columns commits ++ bytes) one)
    ∙ append_assoc (journal columns commits) (record_of columns commit) rest

pub journal_length : (columns : ℕ) (commits : List Commit) (commit : Commit) → length (journal columns (commits ++ commit ∷ [])) ≡ length (journal columns commits) + 1 + length (body columns commit)
journal_length columns commits commit =
    let whole = ap length (sym (append-nil (journal columns (commits ++ commit ∷ []))) ∙ journal_more columns commits commit []) in
    omega (arith, whole, length-append (journal columns commits) (1 ∷ (body columns commit ++ [])), ap length (append-nil (body columns commit)))

-- ---- some commits more

pub each_all : (P : Commit → Type 0) (commits more : List Commit) → AllByRecursion P commits → AllByRecursion P more → AllByRecursion P (commits ++ more)
each_all P [] more before behind = behind
each_all P (c ∷ commits) more before behind = (before.0, each_all P commits more before.1 behind)

pub recovered_all : (commits more : List Commit) → IsRecovered commits → AllMayFollow commits more → IsRecovered (commits ++ more)
recovered_all commits [] recovered follow = subst IsRecovered (sym (append-nil commits)) recovered
recovered_all commits (c ∷ more) recovered follow =
    subst IsRecovered (append_assoc commits (c ∷ []) more) (recovered_all (commits ++ c ∷ []) more (recovered_more commits c recovered follow.0) follow.1)

-- the piece of one commit
pub piece_of_one : (columns : ℕ) (commit : Commit) → HasRecord columns commit → IsPieceOf columns (commit ∷ []) (body columns commit ++ 0 ∷ [])
piece_of_one columns commit has = record { bytes = ap (λ (bytes : List ℕ). 1 ∷ bytes ++ 0 ∷ []) (sym (append-nil (body columns commit))); each = (has, tt) }

-- the piece of some, of which there is one at least
pub piece_of_all : (columns : ℕ) (commits : List Commit) (records : List ℕ) → 0 < length commits → AllByRecursion (HasRecord columns) commits → records ≡ journal columns commits ++ 0 ∷ [] → IsPieceOf columns commits (take (length records - 1) (drop 1 records))
piece_of_all columns [] records some each is = absurd (omega (arith, some))
piece_of_all columns (c ∷ commits) records some each is =
    let all : take (length records - 1) (drop 1 records) ≡ drop 1 records = take_all (length records - 1) (drop 1 records) (omega (arith, length-drop 1 records)) in
    record { bytes = ap (λ (bytes : List ℕ). 1 ∷ bytes) (all ∙ ap (drop 1) is); each = each }

-- ---- the closed gate

pub record Closed (front content : List ℕ) : Type 0 where
  pub gate : ℕ
  pub more : List ℕ
  pub shut : gate ≢ 1
  pub whole : content ≡ front ++ gate ∷ more

closed : (front content rest : List ℕ) → content ≡ front ++ rest → Ends rest → length front + 1 ≤ length content → Closed front content
closed front content [] whole ended long = absurd (omega (arith, ap length whole, length-append front []))
closed front content (gate ∷ more) whole ended long = record { gate = gate; more = more; shut = ended; whole = whole }

-- the front and one place behind it
front_and_one : (front more : List ℕ) (x : ℕ) (n : ℕ) → n ≡ length front → take (n + 1) (front ++ x ∷ more) ≡ front ++ x ∷ []
front_and_one front more x n is =
    ap (take (n + 1)) (sym (append_assoc front (x ∷ []) more)) ∙ take_at (front ++ x ∷ []) more (n + 1) (omega (arith, length-append front (x ∷ [])))

behind_one : (front more : List ℕ) (x : ℕ) (n : ℕ) → n ≡ length front → drop (n + 1) (front ++ x ∷ more) ≡ more
behind_one front more x n is =
    ap (drop (n + 1)) (sym (append_assoc front (x ∷ []) more)) ∙ drop_at (front ++ x ∷ []) more (n + 1) (omega (arith, length-append front (x ∷ [])))

module _ (columns : ℕ) (content : List ℕ) (commits : List Commit) (stands : StandsFor columns content commits) (gate : ℕ) (end : gate ≡ length (journal columns commits)) (long : gate + 1 ≤ length content) where
  abbrev pub front : List ℕ
  front = journal columns commits

  pub shut : Closed front content
  shut = closed front content stands.lists.rest stands.lists.whole stands.lists.ended (omega (arith, long, end))

  -- behind the closed gate anything may stand
  pub torn_behind : (n : ℕ) (image : List ℕ) → Torn (gate + 1) n content image → StandsFor columns image commits
  torn_behind n image torn =
      let kept : take (gate + 1) image ≡ front ++ shut.gate ∷ [] = torn.before ∙ ap (take (gate + 1)) shut.whole ∙ front_and_one front shut.more shut.gate gate end in
      let whole : image ≡ front ++ shut.gate ∷ drop (gate + 1) image =
      sym (take-append-drop (gate + 1) image) ∙ ap (λ (bytes : List ℕ). bytes ++ drop (gate + 1) image) kept ∙ append_assoc front (shut.gate ∷ []) (drop (gate + 1) image) in
      record { lists = record { rest = shut.gate ∷ drop (gate + 1) image; whole = whole; ended = shut.shut; each = stands.lists.each }; recovered = stands.recovered }

  -- with a piece behind the gate
  abbrev pub tail : List ℕ → List ℕ
  tail piece = piece ++ drop (gate + 1 + length piece) content

  pub staged_is : (piece : List ℕ) → staged content gate piece ≡ front ++ shut.gate ∷ tail piece
  staged_is piece =
      let kept : take (gate + 1) content ≡ front ++ shut.gate ∷ [] = ap (take (gate + 1)) shut.whole ∙ front_and_one front shut.more shut.gate gate end in
      ap (λ (bytes : List ℕ). bytes ++ piece ++ drop (gate + 1 + length piece) content) kept
      ∙ append_assoc (front ++ shut.gate ∷ []) piece (drop (gate + 1 + length piece) content) ∙ append_assoc front (shut.gate ∷ []) (tail piece)

  pub opened_is : (piece : List ℕ) → opened content gate piece ≡ front ++ 1 ∷ tail piece
  opened_is piece =
      let s = staged content gate piece in
      let before : take gate s ≡ front = ap (take gate) (staged_is piece) ∙ take_at front (shut.gate ∷ tail piece) gate (sym end) in
      let behind : drop (gate + 1) s ≡ tail piece = ap (drop (gate + 1)) (staged_is piece) ∙ behind_one front (tail piece) shut.gate gate end in
      (λ i. before i ++ (1 ∷ []) ++ behind i) ∙ append_assoc front (1 ∷ []) (tail piece)

  -- the same, as one piece from the gate on
  pub opened_whole : (piece : List ℕ) → opened content gate piece ≡ overwritten content gate (1 ∷ piece)
  opened_whole piece =
      let before : take gate content ≡ front = ap (take gate) shut.whole ∙ take_at front (shut.gate ∷ shut.more) gate (sym end) in
      let behind : gate + 1 + length piece ≡ gate + suc (length piece) = omega arith in
      opened_is piece ∙ (λ i. sym before i ++ 1 ∷ (piece ++ drop (behind i) content)) ∙ sym (append_assoc (take gate content) (1 ∷ piece) (drop (gate + suc (length piece)) content))

  module _ (more : List Commit) (follow : AllMayFollow commits more) (piece : List ℕ) (piece_of : IsPieceOf columns more piece) where
    abbrev pub after : List ℕ
    after = drop (gate + 1 + length piece) content

    opened_tail : front ++ 1 ∷ tail piece ≡ journal columns (commits ++ more) ++ 0 ∷ after
    opened_tail =
        ap (λ (bytes : List ℕ). front ++ (bytes ++ after)) piece_of.bytes ∙ ap (λ (bytes : List ℕ). front ++ bytes) (append_assoc (journal columns more) (0 ∷ []) after)
        ∙ sym (append_assoc front (journal columns more) (0 ∷ after)) ∙ ap (λ (bytes : List ℕ). bytes ++ 0 ∷ after) (sym (flat_map-append (record_of columns) commits more))

    -- an open gate makes it all of them more
    all_more : (image : List ℕ) → image ≡ front ++ 1 ∷ tail piece → StandsFor columns image (commits ++ more)
    all_more image is = record {
      lists = record {
        rest = 0 ∷ after;
        whole = is ∙ opened_tail;
        ended = omega arith;
        each = each_all (HasRecord columns) commits more stands.lists.each piece_of.each;
      };
      recovered = recovered_all commits more stands.recovered follow;
    }

    -- any byte in the gate's place makes it all of them more, or none
    any_gate : (x : ℕ) (image : List ℕ) → image ≡ front ++ x ∷ tail piece → StandsForOrAll columns commits more image
    any_gate x image is = elim (cases_eq x 1) [
      | inl is_open ↦ inr (all_more image (is ∙ ap (λ (y : ℕ). front ++ y ∷ tail piece) is_open))
      | inr is_shut ↦ inl (record { lists = record { rest = x ∷ tail piece; whole = is; ended = is_shut; each = stands.lists.each }; recovered = stands.recovered })
    ]

    torn_gate : (image : List ℕ) → Torn gate 1 (staged content gate piece) image → StandsForOrAll columns commits more image
    torn_gate image torn =
        let s = staged content gate piece in
        let before : take gate image ≡ front = torn.before ∙ ap (take gate) (staged_is piece) ∙ take_at front (shut.gate ∷ tail piece) gate (sym end) in
        let behind : drop (gate + 1) image ≡ tail piece = torn.behind ∙ ap (drop (gate + 1)) (staged_is piece) ∙ behind_one front (tail piece) shut.gate gate end in
        let wide : length image ≡ length front + suc (length (tail piece)) = torn.size ∙ ap length (staged_is piece) ∙ length-append front (shut.gate ∷ tail piece) in
        let x = get_or image gate 0 in
        let rest : drop gate image ≡ x ∷ tail piece = drop_more image gate 0 (omega (arith, wide, end)) ∙ ap (λ (bytes : List ℕ). x ∷ bytes) behind in
        let whole : image ≡ front ++ x ∷ tail piece = sym (take-append-drop gate image) ∙ (λ i. before i ++ rest i) in
        any_gate x image whole

    -- at any moment of the two
    pub half_stored : (image : List ℕ) → HalfStored content gate piece image → StandsForOrAll columns commits more image
    half_stored image (inl first) = inl (torn_behind (length piece) image first)
    half_stored image (inr second) = torn_gate image second

    pub stored : (image : List ℕ) → image ≡ opened content gate piece → StandsFor columns image (commits ++ more)
    stored image is = all_more image (is ∙ opened_is piece)

    -- the piece is behind the gate, which is closed
    staged_stands : StandsFor columns (staged content gate piece) commits
    staged_stands = record { lists = record { rest = shut.gate ∷ tail piece; whole = staged_is piece; ended = shut.shut; each = stands.lists.each }; recovered = stands.recovered }

    -- too few calls were left
    stopped : (left : ℕ) (image : List ℕ) (o : CrashOutcome) → left < 4 → image ≡ written_by left content gate piece → o.synced ≡ synced_by left content gate piece → StopsShort columns commits more left image o
    stopped zero image o few written synced = record { few = few; written = subst (λ (c : List ℕ). StandsFor columns c commits) (sym written) stands; synced = subst (λ (c : List ℕ). StandsFor columns c commits) (sym synced) stands }
    stopped (suc zero) image o few written synced = record { few = few; written = subst (λ (c : List ℕ). StandsFor columns c commits) (sym written) staged_stands; synced = subst (λ (c : List ℕ). StandsFor columns c commits) (sym synced) stands }
    stopped (suc (suc zero)) image o few written synced = record { few = few; written = subst (λ (c : List ℕ). StandsFor columns c commits) (sym written) staged_stands; synced = subst (λ (c : List ℕ). StandsFor columns c commits) (sym synced) staged_stands }
    stopped (suc (suc (suc zero))) image o few written synced = record { few = few; written = stored image written; synced = subst (λ (c : List ℕ). StandsFor columns c commits) (sym synced) staged_stands }
    stopped (suc (suc (suc (suc n)))) image o few written synced = absurd (omega (arith, few))

    pub stops_so : {T E : Type 0} (calls then : Option ℕ) (outcome : Option CrashOutcome) (image : List ℕ) (r : Result T E) → CountsCalls 4 calls then r → IsErr r
        → IsLeftSo calls outcome image (λ left. written_by left content gate piece) (λ left. synced_by left content gate piece) → StopsSo columns commits more calls image outcome
    stops_so None then outcome image r counts failed so = tt
    stops_so (Some n) then None image r counts failed so = tt
    stops_so (Some n) then (Some o) image r counts failed so = stopped n image o (counts.0.0 failed) so.0 so.1

    -- where the records end then
    pub end_after : gate + length piece ≡ length (journal columns (commits ++ more))
    end_after = omega (arith, end, ap length piece_of.bytes, length-append (journal columns more) (0 ∷ []), ap length (flat_map-append (record_of columns) commits more), length-append (journal columns commits) (journal columns more))

-- what is written for one commit, from the gate on, and behind the gate
pub one_written : (columns : ℕ) (commit : Commit) (new content : List ℕ) (commits : List Commit) (stands : StandsFor columns content commits) (gate : ℕ) → gate ≡ length (journal columns commits) → gate + 1 ≤ length content
    → new ≡ overwritten content gate (journal columns (commit ∷ []) ++ 0 ∷ []) → new ≡ opened content gate (body columns commit ++ 0 ∷ [])
one_written columns commit new content commits stands gate end long is =
    is ∙ ap (λ (bytes : List ℕ). overwritten content gate (1 ∷ bytes ++ 0 ∷ [])) (append-nil (body columns commit)) ∙ sym (opened_whole columns content commits stands gate end long (body columns commit ++ 0 ∷ []))

-- ---- a batch

-- one commit more: the last byte of the batch so far becomes its open gate
pub batch_of_one : (columns : ℕ) (commits : List Commit) (commit : Commit) (batch : List ℕ) → HasRecord columns commit → IsBatchOf columns commits batch → length batch ≡ 0
    → IsBatchOf columns (commits ++ commit ∷ []) (batch ++ (body columns commit ++ 0 ∷ []))
batch_of_one columns [] commit batch has is none = subst (λ (bytes : List ℕ). IsPieceOf columns (commit ∷ []) (bytes ++ (body columns commit ++ 0 ∷ []))) (sym is) (piece_of_one columns commit has)
batch_of_one columns (c ∷ commits) commit batch has is none = absurd (omega (arith, none, ap length is.bytes, length-append (body columns c) (journal columns commits), length-append (body columns c ++ journal columns commits) (0 ∷ [])))

pub batch_more : (columns : ℕ) (commits : List Commit) (commit : Commit) (batch : List ℕ) (n : ℕ) → HasRecord columns commit → IsBatchOf columns commits batch → length batch ≡ suc n
    → IsBatchOf columns (commits ++ commit ∷ []) (set (batch ++ (body columns commit ++ 0 ∷ [])) n 1)
batch_more columns [] commit batch n has is some = absurd (omega (arith, some, ap length is))
batch_more columns (c ∷ commits) commit batch n has is some =
    let front = body columns c ++ journal columns commits in
    let piece = body columns commit ++ 0 ∷ [] in
    let batch_is : batch ≡ front ++ 0 ∷ [] = ap (drop 1) is.bytes in
    let place : n ≡ length front = omega (arith, some, ap length batch_is, length-append front (0 ∷ [])) in
    let placed : set (batch ++ piece) n 1 ≡ front ++ 1 ∷ piece =
    ap (λ (bytes : List ℕ). set (bytes ++ piece) n 1) batch_is ∙ ap (λ (bytes : List ℕ). set bytes n 1) (append_assoc front (0 ∷ []) piece)
    ∙ ap (λ (m : ℕ). set (front ++ 0 ∷ piece) m 1) place ∙ set-append_seam front 0 piece 1 in
    record {
      bytes = ap (λ (bytes : List ℕ). 1 ∷ bytes) placed ∙ sym (journal_more columns (c ∷ commits) commit (0 ∷ []));
      each = each_more (HasRecord columns) (c ∷ commits) commit is.each has;
    }

-- a batch is as long as the records
pub batch_length : (columns : ℕ) (commits : List Commit) (batch : List ℕ) → IsBatchOf columns commits batch → length batch ≡ length (journal columns commits)
batch_length columns [] batch is = ap length is
batch_length columns (c ∷ commits) batch is = omega (arith, ap length is.bytes, length-append (journal columns (c ∷ commits)) (0 ∷ []))
