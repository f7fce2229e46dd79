-- The directory that a path lies in, of a directory and those above it: what a step up keeps.
use Rattle.std.proofs.Common.{rules, arith, ◌≡◌, ◌<◌, ◌≤◌, ◌+◌, ◌-◌, ℕ, Bool, true, false, List, ◌++◌, length, get_or, take, drop, Option, Some, refl, sym, ap, ◌∙◌, subst, inl, inr, ⊎_elim, length-append}
use Rattle.std.specs.List.{starts_with}
use Rattle.std.specs.Prelude.{nat_eq}
use Rattle.std.proofs.lemmas.List.{take-take, take_at, take-append-drop, get_or-take}
use Rattle.std.proofs.lemmas.Bool.{cases_lt, both_ways}
use Rattle.std.proofs.lemmas.Bool.Decides.{Decides-eqb}
use Rattle.std.proofs.lemmas.Slice.Eq.{starts_is}
use Rattle.dconf_model.specs.Table.{list_kind}
use Rattle.gvdb_maps.specs.declared.names.Named.{Named}
use Rattle.gvdb_maps.specs.PlanWords.{kind_of, named, name_at, kind_at, IsSlash, HasNoSlash, EndsAs, LiesIn, NameHasParent, ArePlaced, IsDirectoryAt}

-- a list whose name begins another; where that has a slash up to which it is as the text, this has it too
pub record IsUpFrom (names : List Named) (name text : List ℕ) (at : ℕ) : Type 0 where
  pub within : at < length names
  pub list : kind_at names at ≡ list_kind
  pub prefix : take (length (name_at names at)) name ≡ name_at names at
  pub most : (i : ℕ) → IsSlash name i → take (i + 1) name ≡ take (i + 1) text → i < length (name_at names at)

-- whether a text begins with another
module _ (text prefix : List ℕ) (r : Bool) (m : r ≡ starts_with nat_eq text prefix) where
  begins : r ≡ true → text ≡ prefix ++ drop (length prefix) text
  begins t = (starts_is Decides-eqb text prefix r m).0 t

  begins_not : r ≡ false → take (length prefix) text ≡ prefix → ⊥
  begins_not f e = search (rules, arith, take-append-drop, both_ways, Decides-eqb, starts_is, prefix)

-- the last part of a list's name
list_end : (n : Named) → kind_of n.content ≡ list_kind → EndsAs n → HasNoSlash n.name.now n.from (length n.name.now - 1)
list_end n list (inl value) = let bad : list_kind ≡ 118 = sym list ∙ value.0 in absurd (omega (arith, bad))
list_end n list (inr ends) = ends.3

module _ (names : List Named) (name text : List ℕ) (at : ℕ) (placed : ArePlaced names) (u : IsUpFrom names name text at) (r : Bool) (m : r ≡ starts_with nat_eq text (name_at names at)) where
  -- a step up, from a list whose name the text does not begin with
  up : (p : ℕ) → r ≡ false → (p < at) × LiesIn (named names p) (named names at) → IsUpFrom names name text p
  up p other lies =
      let l = lies.1 in
      let here = u.within in
      let before = lies.0 in
      let from = l.from in
      let some = (placed at here).fit.some in
      let shorter : length (name_at names p) ≤ length (name_at names at) = omega (arith, from, some) in
      record {
        within = omega (arith, here, before);
        list = l.directory;
        prefix =
            sym (take-take (length (name_at names p)) (length (name_at names at)) name shorter)
            ∙ (ap (λ (x : List ℕ). take (length (name_at names p)) x) u.prefix
            ∙ (ap (λ (k : ℕ). take k (name_at names at)) (sym from) ∙ l.prefix));
        most = λ i slash same.
            let there = u.most i slash same in
            let here_too : get_or (name_at names at) i 0 ≡ 47 =
            sym (ap (λ (x : List ℕ). get_or x i 0) u.prefix) ∙ (get_or-take (length (name_at names at)) name i 0 there ∙ slash.slash) in
            ⊎_elim (λ (yes : i < length (name_at names p)). yes)
            (λ (no : length (name_at names p) ≤ i).
            ⊎_elim (λ (l' : i < length (name_at names at) - 1). absurd (list_end (named names at) u.list l.ends i (omega (arith, from, no)) l' here_too))
            (λ (ge : length (name_at names at) - 1 ≤ i).
            let e : length (name_at names at) ≡ i + 1 = omega (arith, ge, there) in
            absurd (begins_not text (name_at names at) r m other
            (ap (λ (k : ℕ). take k text) e ∙ (sym same ∙ (ap (λ (k : ℕ). take k name) (sym e) ∙ u.prefix)))))
            (cases_lt i (length (name_at names at) - 1)))
            (cases_lt i (length (name_at names p)));
      }

  pub up_one : (p : ℕ) → r ≡ false → (named names at).parent ≡ Some p → (p < at) × IsUpFrom names name text p
  up_one p other is =
      let lies = subst (λ (o : Option ℕ). NameHasParent names at o) is (placed at u.within).has_parent in
      (lies.0, up p other lies)

  pub lies_there : r ≡ true → IsDirectoryAt names text at
  lies_there is =
      let whole : text ≡ name_at names at ++ drop (length (name_at names at)) text = begins text (name_at names at) r m is in
      let len = ap (λ (x : List ℕ). length x) whole ∙ length-append (name_at names at) (drop (length (name_at names at)) text) in
      record {
        within = u.within;
        list = u.list;
        prefix = ap (λ (x : List ℕ). take (length (name_at names at)) x) whole ∙ take_at (name_at names at) (drop (length (name_at names at)) text) (length (name_at names at)) refl;
        inside = omega (arith, len);
      }
