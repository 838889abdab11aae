-- The laws of a disk over a file.
use Rattle.std.specs.Prelude.{◌≡◌, ℕ, zero, suc, ◌+◌, ◌-◌, ◌≤◌, List, [], None, Some, ◌∷◌, ◌++◌, length, take, drop, Bool, true, false, nat_le, ◌==◌, IsTrue, if◌then◌else◌}
use Rattle.std.proofs.Common.{refl, sym, ap, ◌∙◌, inl, inr, arith, length-append}
use Rattle.std.proofs.lemmas.Bool.{and_parts}
use Rattle.std.proofs.lemmas.Bool.Decides.{nat_tests}
use Rattle.lst_disk.specs.Disk.{Torn, CrashOutcome}
use Rattle.lst_disk.specs.Images.{Stored, after_write, IsImage}
use Rattle.lst_disk.specs.ImageLaws.{torn_by_write}
use Rattle.lst_file.specs.Events.{Event, is_within, lengthened, after_end, after_call, stored, ImageNow, ImageSince}
use Rattle.lst_file.specs.declared.calls.Calls as calls
use Rattle.lst_file.specs.declared.file_disk.FileDisk.{FileDisk}
use Rattle.lst_file.specs.Files.{file_content, file_clock, file_images, file_images_since}

pub torn_nowhere : (at n : ℕ) (content : List ℕ) → Torn at n content content
torn_nowhere at n content = record { size = refl; before = refl; behind = refl }

-- the content of a write stands within the disk
pub within : (base place : ℕ) (bytes : List ℕ) (s : Stored) → IsTrue (is_within base place bytes s) → (place - base) + length bytes ≤ length s.content
within base place bytes s is =
    let both = and_parts (nat_le base place) (nat_le (place + length bytes) (base + length s.content)) is in
    let low : base ≤ place = grind (arith, nat_tests, both.0) in
    let high : place + length bytes ≤ base + length s.content = grind (arith, nat_tests, both.1) in
    omega (arith, low, high)

-- what is taken and dropped of a list with more behind it
take_longer : (n : ℕ) (xs ys zs : List ℕ) → length xs ≡ length ys → take n xs ≡ take n ys → take n (xs ++ zs) ≡ take n (ys ++ zs)
take_longer zero xs ys zs wide same = refl
take_longer (suc n) [] [] zs wide same = refl
take_longer (suc n) [] (y ∷ ys) zs wide same = absurd (omega (arith, wide))
take_longer (suc n) (x ∷ xs) [] zs wide same = absurd (omega (arith, wide))
take_longer (suc n) (x ∷ xs) (y ∷ ys) zs wide same = grind (arith, same, wide, take_longer n xs ys zs)

drop_longer : (n : ℕ) (xs ys zs : List ℕ) → length xs ≡ length ys → drop n xs ≡ drop n ys → drop n (xs ++ zs) ≡ drop n (ys ++ zs)
drop_longer zero xs ys zs wide same = ap (λ (l : List ℕ). l ++ zs) same
drop_longer (suc n) [] [] zs wide same = refl
drop_longer (suc n) [] (y ∷ ys) zs wide same = absurd (omega (arith, wide))
drop_longer (suc n) (x ∷ xs) [] zs wide same = absurd (omega (arith, wide))
drop_longer (suc n) (x ∷ xs) (y ∷ ys) zs wide same = drop_longer n xs ys zs (omega (arith, wide)) same

torn_longer : (at n : ℕ) (d c more : List ℕ) → Torn at n d c → Torn at n (d ++ more) (c ++ more)
torn_longer at n d c more torn = record {
  size = length-append c more ∙ ap (λ (k : ℕ). k + length more) torn.size ∙ sym (length-append d more);
  before = take_longer at c d more torn.size torn.before;
  behind = drop_longer (at + n) c d more torn.size torn.behind;
}

-- an image with bytes behind it is an image of what was synced with these bytes behind it
pub image_longer : (synced : List ℕ) (pending : List (ℕ × ℕ)) (more c : List ℕ) → IsImage synced pending c → IsImage (synced ++ more) pending (c ++ more)
image_longer synced [] more c image = ap (λ (l : List ℕ). l ++ more) image
image_longer synced (range ∷ earlier) more c image = (image.0 ++ more, image_longer synced earlier more image.0 image.1, torn_longer range.0 range.1 image.0 c more image.2)

-- the content is an image after each call
abbrev Counts : Stored → Type 0
Counts s = IsImage s.synced s.pending s.content

counts_end : (b : Bool) (bytes : List ℕ) (s : Stored) → Counts s → Counts (if b then lengthened bytes s else s)
counts_end true bytes s image = (s.content ++ bytes, image_longer s.synced s.pending bytes s.content image, torn_nowhere (length s.content) (length bytes) (s.content ++ bytes))
counts_end false bytes s image = image

counts_write : (b : Bool) (at : ℕ) (bytes : List ℕ) (s other : Stored) → (IsTrue b → at + length bytes ≤ length s.content) → Counts s → Counts other → Counts (if b then after_write at bytes s else other)
counts_write true at bytes s other fits image others = (s.content, image, torn_by_write s.content at bytes (fits refl))
counts_write false at bytes s other fits image others = others

counts_failed : (b : Bool) (at n : ℕ) (s other : Stored) → Counts s → Counts other → Counts (if b then record s { pending = (at, n) ∷ s.pending } else other)
counts_failed true at n s other image others = (s.content, image, torn_nowhere at n s.content)
counts_failed false at n s other image others = others

counts_after : (base kind place : ℕ) (bytes : List ℕ) (s : Stored) → Counts s → Counts (after_call base kind place bytes s)
counts_after base zero place bytes s image = image
counts_after base (suc zero) place bytes s image = refl
counts_after base (suc (suc zero)) place bytes s image = refl
counts_after base (suc (suc (suc zero))) place bytes s image =
    counts_write (is_within base place bytes s) (place - base) bytes s (after_end base place bytes s) (within base place bytes s) image (counts_end (place == base + length s.content) bytes s image)
counts_after base (suc (suc (suc (suc zero)))) place bytes s image =
    counts_failed (is_within base place bytes s) (place - base) (length bytes) s (after_end base place bytes s) image (counts_end (place == base + length s.content) bytes s image)
counts_after base (suc (suc (suc (suc (suc zero))))) place bytes s image = refl
counts_after base (suc (suc (suc (suc (suc (suc more)))))) place bytes s image = image

pub content_image : (base : ℕ) (events : List Event) → ImageNow base events (stored base events).content
content_image base [] = refl
content_image base (e ∷ earlier) = counts_after base e.0 e.1 e.2 (stored base earlier) (content_image base earlier)

now : (base : ℕ) (events : List Event) (t : ℕ) (c : List ℕ) → ImageNow base events c → ImageSince base events t c
now base [] t c image = image
now base (e ∷ earlier) t c image = inl image

earlier : (base : ℕ) (events : List Event) (t u : ℕ) (c : List ℕ) → t ≤ u → ImageSince base events u c → ImageSince base events t c
earlier base [] t u c le since = since
earlier base (e ∷ before) t u c le (inl image) = inl image
earlier base (e ∷ before) t u c le (inr since) = inr (omega (arith, le, since.0), earlier base before t u c le since.1)

only : (base : ℕ) (events : List Event) (c : List ℕ) → ImageSince base events (length events) c → ImageNow base events c
only base [] c since = since
only base (e ∷ before) c (inl image) = image
only base (e ∷ before) c (inr since) = absurd (omega (arith, since.0))

none_told : (o : CrashOutcome) → None ≡ Some o → ⊥
none_told o e = cc

module _ {F : Type 0} {g : calls.Ghosts F} where
  -- how a crash turns out isn't told
  pub untold : (d : FileDisk F g) (o : CrashOutcome) → None ≡ Some o → file_images d o.synced
  untold d o told = absurd (none_told o told)

  pub content_stays : (d : FileDisk F g) → file_images d (file_content d)
  content_stays d = content_image d.offset (g.events d.calls)

  pub is_now : (d : FileDisk F g) (t : ℕ) (c : List ℕ) → t ≤ file_clock d → file_images d c → file_images_since d t c
  is_now d t c le image = now d.offset (g.events d.calls) t c image

  pub is_earlier : (d : FileDisk F g) (t u : ℕ) (c : List ℕ) → t ≤ u → u ≤ file_clock d → file_images_since d u c → file_images_since d t c
  is_earlier d t u c le past since = earlier d.offset (g.events d.calls) t u c le since

  pub is_only_now : (d : FileDisk F g) (c : List ℕ) → file_images_since d (file_clock d) c → file_images d c
  is_only_now d c since = only d.offset (g.events d.calls) c since
