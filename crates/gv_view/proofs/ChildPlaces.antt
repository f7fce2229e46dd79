-- Children and their places in the bytes of their container.
use Rattle.std.proofs.Common.{◌≡◌, ◌≢◌, ◌<◌, ℕ, zero, suc, List, [], ◌∷◌, length, get_or, Option, Some, None, refl, sym, ap, ap₂, ◌∙◌, subst, arith}
use Rattle.std.specs.Prelude.{◌↔◌, slice_get, option_map, map, All, IsSome}
use Rattle.std.proofs.lemmas.Option.{slice_get_within, slice_get-get_or}
use Rattle.gv_model.specs.Ty.{Ty}
use Rattle.gv_model.specs.Ty.Ty.{variant}
use Rattle.gv_model.specs.Tree.{children, trees_len, tree_at}
use Rattle.gv_model.specs.Children.{Child, child_at, child_bytes}
use Rattle.gv_model.specs.Variants.{at_last_zero, variant_span}
use Rattle.gv_model.specs.Decode.{decode, cut}
use Rattle.gv_model.specs.Parts.{Part, part_of, parts}
use Rattle.gv_model.proofs.ChildLaws.{child_of_value, children_count, variant_cut}
use Rattle.gv_view.specs.declared.view.View.{View}
use Rattle.gv_view.specs.Views.{Lends, ShowsChild, value, shown}
use Rattle.gv_model.specs.Laws.{LiesWithin}
use Rattle.gv_model.proofs.PartLaws.{child_within}

-- every child lies within the bytes
pub cut_within : (t : Ty) (b : List ℕ) → All (LiesWithin (length b)) (cut t b)
cut_within t b k d lt = child_within t b k (get_or (cut t b) k d) (slice_get-get_or (cut t b) k d lt)

-- ---- the child at an index

not_inside : {X : Type 0} (xs : List X) (i : ℕ) → slice_get xs i ≡ None → i < length xs → ⊥
not_inside [] i e lt = absurd (omega arith)
not_inside (x ∷ xs) zero e lt = cc
not_inside (x ∷ xs) (suc i) e lt = not_inside xs i e (omega arith)

-- a view of the child is some exactly where there is a child, and its value is the child's
pub record IsChild (t : Ty) (b : List ℕ) (i : ℕ) (o : Option View) : Type 0 where
  pub some : IsSome o ↔ (i < trees_len (children (decode t b)))
  pub value : option_map value o ≡ tree_at (children (decode t b)) i

pub lent_child : (t : Ty) (b : List ℕ) (i : ℕ) (o : Option View) → Lends b (slice_get (cut t b) i) o → IsChild t b i o
lent_child t b i o h = go (slice_get (cut t b) i) refl o h
  where
    go : (c : Option Child) → slice_get (cut t b) i ≡ c → (o : Option View) → Lends b c o → IsChild t b i o
    go None at None h = record {
      some = ((λ e. absurd cc), (λ lt. absurd (not_inside (cut t b) i at (omega (arith, lt, children_count t b)))));
      value = sym (child_of_value t b i ∙ ap (option_map (λ c. decode c.type (child_bytes b c))) at);
    }
    go (Some c) at (Some v) h = record {
      some = ((λ e. omega (arith, slice_get_within (cut t b) i c at, children_count t b)), (λ lt. refl));
      value = ap₂ (λ u d. Some (decode u d)) h.type h.bytes ∙ sym (child_of_value t b i ∙ ap (option_map (λ c. decode c.type (child_bytes b c))) at);
    }
    go None at (Some v) h = absurd h
    go (Some c) at None h = absurd h

past_first : (b : List ℕ) (i : ℕ) → i ≢ 0 → slice_get (cut variant b) i ≡ None
past_first b zero ne = absurd (ne refl)
past_first b (suc i) ne = ap (λ (cs : List Child). slice_get cs (suc i)) (variant_cut b)

-- a variant has no other child than its first
pub variant_alone : (t : Ty) (b : List ℕ) (i : ℕ) → t ≡ variant → i ≢ 0 → slice_get (cut t b) i ≡ None
variant_alone t b i e ne = ap (λ u. slice_get (cut u b) i) e ∙ past_first b i ne

-- ---- a child from its place

shown_part : (b : List ℕ) (c : Child) (v : View) → shown v ≡ part_of b c → ShowsChild b c v
shown_part b c v e = record { type = ap (λ (p : Part). p.0) e; bytes = ap (λ (p : Part). p.1) e }

pub lent_place : (t : Ty) (b : List ℕ) (i : ℕ) (c : Child) (v : View) → Some c ≡ slice_get (cut t b) i → shown v ≡ part_of b c → Lends b (slice_get (cut t b) i) (Some v)
lent_place t b i c v e h = subst (λ o. Lends b o (Some v)) e (shown_part b c v h)

variant_part : (b : List ℕ) (v : View) → Lends b (slice_get (cut variant b) 0) (Some v) → shown v ∷ [] ≡ parts variant b
unfolding parts
variant_part b v h =
    let shows : ShowsChild b (child_at (length b) (variant_span (at_last_zero b))) v = subst (λ (cs : List Child). Lends b (slice_get cs 0) (Some v)) (variant_cut b) h in
    ap₂ (λ u d. (u, d) ∷ []) shows.type shows.bytes ∙ sym (ap (map (part_of b)) (variant_cut b))

-- the one part of a variant
pub variant_parts : (t : Ty) (b : List ℕ) (v : View) → t ≡ variant → Lends b (slice_get (cut variant b) 0) (Some v) → shown v ∷ [] ≡ parts t b
variant_parts t b v e h = variant_part b v h ∙ ap (λ u. parts u b) (sym e)

pub placed_parts : (t : Ty) (b : List ℕ) (cs : List Child) → cs ≡ cut t b → map (part_of b) cs ≡ parts t b
unfolding parts
placed_parts t b cs e = ap (map (part_of b)) e
