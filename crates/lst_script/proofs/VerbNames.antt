-- The form that a word names, by the tests of it.
use Rattle.std.proofs.Common.{◌≡◌, ℕ, List, Bool, true, false, None, codes, refl, sym, ap, ◌∙◌}
use Rattle.std.specs.Prelude.{bytes_eq}
use Rattle.std.proofs.lemmas.Slice.Eq.{bytes_eq-Decides}
use Rattle.lst_script.specs.Table.{session_forms, form_named}

-- a word that equals a name names what that name does
pub names_it : (word slice name : List ℕ) (r : Bool) → slice ≡ name → r ≡ bytes_eq word slice → r ≡ true → form_named session_forms name ≡ form_named session_forms word
names_it word slice name r is told equal = ap (form_named session_forms) (sym is ∙ sym ((bytes_eq-Decides word slice).0 (sym told ∙ equal)))

pub other : (word slice name : List ℕ) (r : Bool) → slice ≡ name → r ≡ bytes_eq word slice → r ≡ false → bytes_eq word name ≡ false
other word slice name r is told unequal = ap (bytes_eq word) (sym is) ∙ (sym told ∙ unequal)

pub names_none : (word : List ℕ) → bytes_eq word (codes "begin") ≡ false → bytes_eq word (codes "asof") ≡ false → bytes_eq word (codes "get") ≡ false → bytes_eq word (codes "insert") ≡ false → bytes_eq word (codes "update") ≡ false → bytes_eq word (codes "delete") ≡ false → bytes_eq word (codes "sum") ≡ false → bytes_eq word (codes "count") ≡ false → bytes_eq word (codes "scan") ≡ false → bytes_eq word (codes "find") ≡ false → bytes_eq word (codes "commit") ≡ false → bytes_eq word (codes "abort") ≡ false → None ≡ form_named session_forms word
names_none word e1 e2 e3 e4 e5 e6 e7 e8 e9 e10 e11 e12 = rw (e1, e2, e3, e4, e5, e6, e7, e8, e9, e10, e11, e12) refl
