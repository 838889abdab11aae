-- What was found in a file, and the zeros behind it.
use Rattle.std.specs.Prelude.{◌≡◌, ℕ, ◌+◌, ◌-◌, ◌<◌, ◌≤◌, nat_lt, Bool, true, false, List, ◌∷◌, ◌++◌, length, take, drop, replicate, if◌then◌else◌}
use Rattle.std.proofs.Common.{sym, ap, ◌∙◌, arith}
use Rattle.std.proofs.Math.Seq.{drop-append_seam}
use Rattle.std.proofs.lemmas.Bool.Decides.{nat_tests}
use Rattle.std.proofs.lemmas.List.{append-nil, take_rest}
use Rattle.lst_file.specs.Events.{Event, measured, flushed, found, wrote, failed, synced, unsynced}
use Rattle.lst_file.specs.Openings.{zeros_behind, read_calls, WasOpened}

pub place_is : (offset count held : ℕ) (bytes : List ℕ) → offset ≤ count → held ≡ count - offset → length bytes ≡ held → count ≡ offset + length bytes
place_is offset count held bytes low is wide = omega (arith, low, is, wide)

-- the calls so far, where these bytes were found
pub after_reading : (offset count : ℕ) (bytes : List ℕ) (e0 e1 e2 e3 : List Event) → count ≡ offset + length bytes → e1 ≡ measured count ∷ e0 → e2 ≡ flushed ∷ e1 → e3 ≡ found offset bytes ∷ e2
    → e3 ≡ read_calls offset bytes e0
after_reading offset count bytes e0 e1 e2 e3 place is1 is2 is3 =
    is3 ∙ ap (λ (es : List Event). found offset bytes ∷ es) (is2 ∙ ap (λ (es : List Event). flushed ∷ es) is1) ∙ ap (λ (n : ℕ). found offset bytes ∷ flushed ∷ measured n ∷ e0) place

if_calls : (b : Bool) (x y : List Event) → b ≡ true → (if b then x else y) ≡ x
if_calls b x y is = ap (λ (it : Bool). if it then x else y) is

else_calls : (b : Bool) (x y : List Event) → b ≡ false → (if b then x else y) ≡ y
else_calls b x y is = ap (λ (it : Bool). if it then x else y) is

-- the file was long enough
pub opened_exact : (offset size : ℕ) (bytes : List ℕ) (e0 e3 : List Event) → size ≤ length bytes → e3 ≡ read_calls offset bytes e0 → WasOpened offset size e0 e3 bytes
opened_exact offset size bytes e0 e3 enough is =
    let none : size - length bytes ≡ 0 = omega (arith, enough) in
    let long : nat_lt (length bytes) size ≡ false = grind (arith, nat_tests, enough) in (
      bytes,
      sym (ap (λ (n : ℕ). bytes ++ replicate n 0) none ∙ append-nil bytes),
      is ∙ sym (else_calls (nat_lt (length bytes) size) (synced ∷ wrote (offset + length bytes) (zeros_behind size bytes) ∷ read_calls offset bytes e0) (read_calls offset bytes e0) long),
    )

-- the zeros behind what was found
zeros_are : (size : ℕ) (bytes whole : List ℕ) → whole ≡ bytes ++ zeros_behind size bytes → drop (length bytes) whole ≡ zeros_behind size bytes
zeros_are size bytes whole is = ap (drop (length bytes)) is ∙ drop-append_seam bytes (zeros_behind size bytes)

module _ (offset size count held : ℕ) (bytes whole : List ℕ) (e0 e3 : List Event) (place : count ≡ offset + length bytes) (wide : length bytes ≡ held) (short : held < size) (is : whole ≡ bytes ++ zeros_behind size bytes) (read : e3 ≡ read_calls offset bytes e0) where
  abbrev piece : List ℕ
  piece = take (length whole - held) (drop held whole)

  behind : piece ≡ zeros_behind size bytes
  behind = take_rest whole held ∙ ap (λ (n : ℕ). drop n whole) (sym wide) ∙ zeros_are size bytes whole is

  after_writing : (e4 : List Event) → e4 ≡ wrote count piece ∷ e3 → e4 ≡ wrote (offset + length bytes) (zeros_behind size bytes) ∷ read_calls offset bytes e0
  after_writing e4 is4 = is4 ∙ ap (λ (n : ℕ). wrote n piece ∷ e3) place ∙ ap (λ (zs : List ℕ). wrote (offset + length bytes) zs ∷ e3) behind ∙ ap (λ (es : List Event). wrote (offset + length bytes) (zeros_behind size bytes) ∷ es) read

  -- zeros were written behind it, and synced
  pub opened_longer : (e4 e5 : List Event) → e4 ≡ wrote count piece ∷ e3 → e5 ≡ synced ∷ e4 → WasOpened offset size e0 e5 whole
  opened_longer e4 e5 is4 is5 =
      let long : nat_lt (length bytes) size ≡ true = grind (arith, nat_tests, wide, short) in (
        bytes,
        is,
        is5 ∙ ap (λ (es : List Event). synced ∷ es) (after_writing e4 is4)
            ∙ sym (if_calls (nat_lt (length bytes) size) (synced ∷ wrote (offset + length bytes) (zeros_behind size bytes) ∷ read_calls offset bytes e0) (read_calls offset bytes e0) long),
      )

  -- they couldn't be written
  pub refused_write : (e4 : List Event) → e4 ≡ failed count piece ∷ e3 → (x : List ℕ) × (length x < size) × (e4 ≡ failed (offset + length x) (zeros_behind size x) ∷ read_calls offset x e0)
  refused_write e4 is4 = (
    bytes,
    omega (arith, wide, short),
    is4 ∙ ap (λ (n : ℕ). failed n piece ∷ e3) place ∙ ap (λ (zs : List ℕ). failed (offset + length bytes) zs ∷ e3) behind ∙ ap (λ (es : List Event). failed (offset + length bytes) (zeros_behind size bytes) ∷ es) read,
  )

  -- they couldn't be synced
  pub refused_sync : (e4 e5 : List Event) → e4 ≡ wrote count piece ∷ e3 → e5 ≡ unsynced ∷ e4 → (x : List ℕ) × (length x < size) × (e5 ≡ unsynced ∷ wrote (offset + length x) (zeros_behind size x) ∷ read_calls offset x e0)
  refused_sync e4 e5 is4 is5 = (bytes, omega (arith, wide, short), is5 ∙ ap (λ (es : List Event). unsynced ∷ es) (after_writing e4 is4))
