-- A record that is read off a disk by the count of its writes.
use Rattle.std.proofs.Common.{◌≡◌, ℕ, ◌+◌, ◌-◌, ◌*◌, ◌<◌, List, [], ◌++◌, length, get_or, take, drop, Option, Some, None, refl, sym, ◌∙◌, ap, arith, length-append, length-drop, append_assoc, take-append-drop, append-nil}
use Rattle.std.specs.Prelude.{IfSome, IfNone}
use Rattle.std.specs.Int.{w32, to_be_bytes}
use Rattle.std.proofs.lemmas.Nat.{from_be_bytes-to_be_bytes_4, from_be_bytes-to_be_bytes_8}
use Rattle.std.proofs.lemmas.List.{take_at, drop_at, drop_more}
use Rattle.lst_model.specs.declared.commits.Commit.{Commit}
use Rattle.lst_log.specs.Format.{word, body, HasRecord}
use Rattle.lst_log.specs.Reading.{head_at}
use Rattle.lst_log.proofs.Sizes.{record_length}

-- a byte that was read
pub first_byte : (bytes piece : List ℕ) (at n : ℕ) → at < length bytes → n ≡ 1 → piece ≡ take n (drop at bytes) → get_or piece 0 0 ≡ get_or bytes at 0
first_byte bytes piece at n low one is =
    ap (λ (p : List ℕ). get_or p 0 0) (is ∙ ap (λ (m : ℕ). take m (drop at bytes)) one ∙ ap (take 1) (drop_more bytes at 0 low))

module _ (columns : ℕ) (c : Commit) (has : HasRecord columns c) where
  pub body_length : length (body columns c) ≡ 20 + length c.writes * (11 + 8 * columns)
  body_length = omega (arith, record_length columns c has)

  -- what stands before its writes
  abbrev front : List ℕ
  front = to_be_bytes w32 c.session ++ (to_be_bytes w32 c.number ++ (word c.begin ++ to_be_bytes w32 (length c.writes)))

  head_again : head_at (front) ≡ Some ((c.session, c.number, c.begin, length c.writes), [])
  unfolding head_at
  head_again = λ i. Some ((from_be_bytes-to_be_bytes_4 c.session has.session i, from_be_bytes-to_be_bytes_4 c.number has.number i, from_be_bytes-to_be_bytes_8 c.begin has.begin i, from_be_bytes-to_be_bytes_4 (length c.writes) has.few i), [])

  head_taken : (rest : List ℕ) → take 20 (body columns c ++ rest) ≡ front
  head_taken rest = refl

  -- its head is read as it
  pub head_read : (behind rest head : List ℕ) (n : ℕ) → behind ≡ body columns c ++ rest → n ≡ 20 → head ≡ take n behind → head_at head ≡ Some ((c.session, c.number, c.begin, length c.writes), [])
  head_read behind rest head n there twenty is =
      ap head_at (is ∙ (λ i. take (twenty i) (there i)) ∙ head_taken rest) ∙ head_again

-- no head is read where no record stands
pub no_head : (columns : ℕ) (behind head : List ℕ) (n : ℕ) → n ≡ 20 → head ≡ take n behind → head_at head ≡ None → (c : Commit) (rest : List ℕ) → HasRecord columns c → ¬ (behind ≡ body columns c ++ rest)
no_head columns behind head n twenty is none c rest has there = let clash = sym none ∙ head_read columns c has behind rest head n there twenty is in cc

-- nor too few bytes for it
pub too_short : (columns : ℕ) (bytes : List ℕ) (at left : ℕ) → left ≡ length bytes - at → left < 20 → (c : Commit) (rest : List ℕ) → HasRecord columns c → ¬ (drop at bytes ≡ body columns c ++ rest)
too_short columns bytes at left is short c rest has there =
    omega (arith, is, short, ap length there, length-drop at bytes, length-append (body columns c) rest, body_length columns c has)

abbrev Head : Type 0
Head = (ℕ × ℕ × ℕ × ℕ) × List ℕ

some_head : (x y : Head) → Some x ≡ Some y → x ≡ y
some_head x y e = cc

-- its length follows from its count
pub length_is : (columns : ℕ) (behind head : List ℕ) (n : ℕ) → n ≡ 20 → head ≡ take n behind → (x : Head) → head_at head ≡ Some x → (len : ℕ) → len ≡ 20 + x.0.3 * (11 + 8 * columns)
    → (c : Commit) (rest : List ℕ) → HasRecord columns c → behind ≡ body columns c ++ rest → len ≡ length (body columns c)
length_is columns behind head n twenty is x found len sized c rest has there =
    let same = some_head x ((c.session, c.number, c.begin, length c.writes), []) (sym found ∙ head_read columns c has behind rest head n there twenty is) in
    sized ∙ ap (λ (h : Head). 20 + h.0.3 * (11 + 8 * columns)) same ∙ sym (body_length columns c has)

pub too_long : (columns : ℕ) (bytes : List ℕ) (at left len : ℕ) → left ≡ length bytes - at → left < len → ((c : Commit) (rest : List ℕ) → HasRecord columns c → drop at bytes ≡ body columns c ++ rest → len ≡ length (body columns c))
    → (c : Commit) (rest : List ℕ) → HasRecord columns c → ¬ (drop at bytes ≡ body columns c ++ rest)
too_long columns bytes at left len is low sized c rest has there =
    omega (arith, is, low, sized c rest has there, ap length there, length-drop at bytes, length-append (body columns c) rest)

-- ---- the bytes of a record, by its length

module _ (columns : ℕ) (behind piece : List ℕ) (len n : ℕ) (long : n ≡ len) (is : piece ≡ take n behind) where
  -- a record in them stands there
  pub found_behind : (c : Commit) (size : ℕ) → size ≡ length (body columns c) → piece ≡ body columns c ++ drop size piece → behind ≡ body columns c ++ drop size behind
  found_behind c size sized there =
      let whole : behind ≡ body columns c ++ (drop size piece ++ drop n behind) =
      sym (take-append-drop n behind) ∙ ap (λ (p : List ℕ). p ++ drop n behind) (sym is ∙ there) ∙ append_assoc (body columns c) (drop size piece) (drop n behind) in
      whole ∙ ap (λ (rest : List ℕ). body columns c ++ rest) (sym (ap (drop size) whole ∙ drop_at (body columns c) (drop size piece ++ drop n behind) size (sym sized)))

  -- where none is in them none does
  pub none_behind : ((c : Commit) (rest : List ℕ) → HasRecord columns c → behind ≡ body columns c ++ rest → len ≡ length (body columns c)) → ((c : Commit) (rest : List ℕ) → HasRecord columns c → ¬ (piece ≡ body columns c ++ rest))
      → (c : Commit) (rest : List ℕ) → HasRecord columns c → ¬ (behind ≡ body columns c ++ rest)
  none_behind sized none c rest has there =
      none c [] has (is ∙ ap (take n) there ∙ take_at (body columns c) rest n (sym (long ∙ sized c rest has there)) ∙ sym (append-nil (body columns c)))

  pub found_so : (read : Option (Commit × ℕ)) → IfSome read (λ x. HasRecord columns x.0 × (x.1 ≡ length (body columns x.0)) × (piece ≡ body columns x.0 ++ drop x.1 piece))
      → IfSome read (λ x. HasRecord columns x.0 × (x.1 ≡ length (body columns x.0)) × (behind ≡ body columns x.0 ++ drop x.1 behind))
  found_so None found = tt
  found_so (Some x) found = (found.0, found.1, found_behind x.0 x.1 found.1 found.2)

  pub none_so : (read : Option (Commit × ℕ)) → ((c : Commit) (rest : List ℕ) → HasRecord columns c → behind ≡ body columns c ++ rest → len ≡ length (body columns c))
      → IfNone read ((c : Commit) (rest : List ℕ) → HasRecord columns c → ¬ (piece ≡ body columns c ++ rest)) → IfNone read ((c : Commit) (rest : List ℕ) → HasRecord columns c → ¬ (behind ≡ body columns c ++ rest))
  none_so None sized none = none_behind sized none
  none_so (Some x) sized none = tt
