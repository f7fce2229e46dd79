-- How much of a name is that of a database: a file's NAME.db is none of a folder NAME.d.
use Rattle.std.proofs.Common.{ℕ, ◌+◌, ◌-◌, ◌<◌, ◌≡◌, ◌≢◌, ◌&&◌, Bool, true, false, if◌then◌else◌, List, [], ◌∷◌, ◌++◌, length, refl, ◌∙◌, ap, arith, nat_eq}
use Rattle.std.specs.Prelude.{codes, nat_lt}
use Rattle.std.specs.Cmp.Lexicographic.{pointwise}
use Rattle.std.specs.List.{ends_with}
use Rattle.std.proofs.Math.ListN.{drop}
use Rattle.std.proofs.Math.Seq.{drop-append-add}
use Rattle.std.proofs.lemmas.Bool.{lt-ltb}
use Rattle.std.proofs.lemmas.List.{length-append}
use Rattle.dconf_roles.specs.Sites.{stem_len}

-- what ends in so many bytes, as its end says
ends : (name end needle : List ℕ) (from : ℕ) → length (name ++ end) - length needle ≡ length name + from
    → ends_with nat_eq (name ++ end) needle ≡ pointwise nat_eq needle (drop from end)
ends name end needle from is =
    ap (λ (n : ℕ). pointwise nat_eq needle (drop n (name ++ end))) is ∙ ap (λ (xs : List ℕ). pointwise nat_eq needle xs) (drop-append-add name end from)

database_by : (long sources database : Bool) (p q r : ℕ) → sources ≡ false → database ≡ true → (if long && sources then p else if database then q else r) ≡ q
database_by true false true p q r a b = refl
database_by false false true p q r a b = refl
database_by long true database p q r a b = absurd (let bad : true ≡ false = a in cc)
database_by long false false p q r a b = absurd (let bad : false ≡ true = b in cc)

sources_by : (long sources : Bool) (p q : ℕ) → long ≡ true → sources ≡ true → (if long && sources then p else q) ≡ p
sources_by true true p q a b = refl
sources_by true false p q a b = absurd (let bad : false ≡ true = b in cc)
sources_by false sources p q a b = absurd (let bad : false ≡ true = a in cc)

pub of_database : (name : List ℕ) → stem_len (name ++ codes ".db") ≡ length name
of_database name =
    let long : length (name ++ codes ".db") ≡ length name + 3 = length-append name (codes ".db") in
    let two : length (name ++ codes ".db") - 2 ≡ length name + 1 = omega (arith, long) in
    let three : length (name ++ codes ".db") - 3 ≡ length name + 0 = omega (arith, long) in
    database_by (nat_lt 2 (length (name ++ codes ".db"))) (ends_with nat_eq (name ++ codes ".db") (codes ".d")) (ends_with nat_eq (name ++ codes ".db") (codes ".db"))
    _ _ _ (ends name (codes ".db") (codes ".d") 1 two) (ends name (codes ".db") (codes ".db") 0 three) ∙ omega (arith, long)

some : (name : List ℕ) → name ≢ [] → 0 < length name
some [] h = absurd (h refl)
some (z ∷ more) h = omega arith

pub of_sources : (name : List ℕ) → name ≢ [] → stem_len (name ++ codes ".d") ≡ length name
of_sources name h =
    let long : length (name ++ codes ".d") ≡ length name + 2 = length-append name (codes ".d") in
    let two : length (name ++ codes ".d") - 2 ≡ length name + 0 = omega (arith, long) in
    let one : 0 < length name = some name h in
    let more : 2 < length (name ++ codes ".d") = omega (arith, long, one) in
    sources_by (nat_lt 2 (length (name ++ codes ".d"))) (ends_with nat_eq (name ++ codes ".d") (codes ".d"))
    _ _ (lt-ltb 2 (length (name ++ codes ".d")) more) (ends name (codes ".d") (codes ".d") 0 two) ∙ omega (arith, long)
