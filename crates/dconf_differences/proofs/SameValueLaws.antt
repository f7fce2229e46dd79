-- Values that are told apart, and views that are compared child by child.
use Rattle.std.proofs.Common.{◌≡◌, ◌≢◌, ◌<◌, ◌+◌, ◌++◌, ◌∷◌, [], ◌∙◌, ℕ, suc, Bool, true, not, List, Option, Some, None, ap, ap₂, sym, subst, refl, arith, eqb-true, eq-eqb}
use Rattle.std.specs.Prelude.{◌↔◌, ◌&&◌, IsTrue}
use Rattle.std.proofs.lemmas.Bool.{and_parts, false_from_ne_true, not-true}
use Rattle.std.proofs.lemmas.Option.{same_Some}
use base.Stored.{Gv, gnil, gnum, gcons}
use Rattle.gv_model.specs.Decode.{decode}
use Rattle.gv_model.specs.Parts.{Part, parts, part_trees}
use Rattle.gv_model.specs.Printed.{is_too_large}
use Rattle.gv_model.specs.Tree.{Tree, Trees, children, depth, greatest_depth, nodes, nodes_of, type_of}
use Rattle.gv_model.specs.Tree.Tree.{number, text, node}
use Rattle.gv_model.specs.Tree.Trees.{none, first}
use Rattle.gv_model.specs.Ty.{Ty}
use Rattle.gv_model.specs.Ty.Basic.{boolean}
use Rattle.gv_model.specs.Ty.Ty.{basic, variant, array, maybe, tuple, entry}
use Rattle.gv_model.proofs.ChildLaws.{children_are_parts}
use Rattle.gv_model.proofs.DecodeLaws.{decode_children}
use Rattle.gv_tree.specs.Codes.{coded_tree}
use Rattle.gv_view.specs.Views.{shown, value, view_bytes, view_ty}
use Rattle.gv_view.proofs.Depths.{depth_children}
use Rattle.gv_view.proofs.PartValues.{basic_is_leaf}
use Rattle.dconf_model.proofs.PathMaps.{no_truth}
use Rattle.dconf_differences.specs.Differing.{same_code, same_tree, same_value, AreSame, IsSame, work}
use Rattle.dconf_differences.specs.declared.same_values.Compared.{Compared}

-- ---- values, by what they are coded as

same_codes : (a b : Gv) → same_code a b ≡ true → a ≡ b
same_codes gnil gnil e = refl
same_codes (gnum m) (gnum n) e = ap gnum (eqb-true m n e)
same_codes (gcons a b) (gcons c d) e =
    let both = and_parts (same_code a c) (same_code b d) e in ap₂ gcons (same_codes a c both.0) (same_codes b d both.1)
same_codes _ _ e = absurd (no_truth e)

code_itself : (a : Gv) → same_code a a ≡ true
code_itself gnil = refl
code_itself (gnum m) = eq-eqb m m refl
code_itself (gcons a b) = ap₂ ◌&&◌ (code_itself a) (code_itself b)

pub told_apart : (v w : Tree) → IsTrue (same_tree v w) ↔ (v ≡ w)
unfolding same_tree
told_apart v w = (
  λ e. coded_tree.inj v w (same_codes (coded_tree.code v) (coded_tree.code w) e),
  λ e. subst (λ (u : Tree). same_code (coded_tree.code v) (coded_tree.code u) ≡ true) e (code_itself (coded_tree.code v)),
)

-- values that may be missing
pub values_told : (v w : Option Tree) → IsTrue (not (same_value v w)) ↔ (v ≢ w)
values_told None None = (λ e. absurd (no_truth e), λ other. absurd (other refl))
values_told None (Some w) = (λ e same. cc, λ other. refl)
values_told (Some v) None = (λ e same. cc, λ other. refl)
values_told (Some v) (Some w) = (
  λ e same. no_truth (sym (not-true (same_tree v w) e) ∙ (told_apart v w).1 (same_Some v w same)),
  λ other. ap not (false_from_ne_true (same_tree v w) (λ e. other (ap Some ((told_apart v w).0 e)))),
)

-- ---- a value that is too deep to be copied is told by its type and its children

shallow : (v : Tree) → none ≡ children v → ¬ (is_too_large v ≡ true)
unfolding greatest_depth
shallow v leaf deep =
    let d : depth v ≡ 1 = depth_children v ∙ ap (λ vs. suc (greatest_depth vs)) (sym leaf) in
    grind (arith, d, deep)

deep_value : (t : Ty) (b : List ℕ) → is_too_large (decode t b) ≡ true → decode t b ≡ node t (children (decode t b))
deep_value (basic k) b deep = absurd (shallow (decode (basic k) b) (basic_is_leaf (basic k) b (k, refl)) deep)
deep_value variant b deep = let e = decode_children variant b in e ∙ sym (ap (λ v. node variant (children v)) e)
deep_value (array t) b deep = let e = decode_children (array t) b in e ∙ sym (ap (λ v. node (array t) (children v)) e)
deep_value (maybe t) b deep = let e = decode_children (maybe t) b in e ∙ sym (ap (λ v. node (maybe t) (children v)) e)
deep_value (tuple ts) b deep = let e = decode_children (tuple ts) b in e ∙ sym (ap (λ v. node (tuple ts) (children v)) e)
deep_value (entry k t) b deep = let e = decode_children (entry k t) b in e ∙ sym (ap (λ v. node (entry k t) (children v)) e)

pub deep_node : (t : Ty) (b : List ℕ) → is_too_large (decode t b) ≡ true → decode t b ≡ node t (part_trees (parts t b))
deep_node t b deep = deep_value t b deep ∙ ap (node t) (children_are_parts t b)

first_parts : (v w : Tree) (vs ws : Trees) → first v vs ≡ first w ws → (v ≡ w) × (vs ≡ ws)
first_parts v w vs ws e = (ap first_of_trees e, ap trees_after e)
  where
    first_of_trees : Trees → Tree
    first_of_trees none = number boolean 0
    first_of_trees (first v vs) = v

    trees_after : Trees → Trees
    trees_after none = none
    trees_after (first v vs) = vs

not_none : (v : Tree) (vs : Trees) → first v vs ≡ none → ⊥
not_none v vs e = cc

pub other_types : (p : Compared) → is_too_large (value p.first) ≡ true → is_too_large (value p.second) ≡ true → ¬ (view_ty p.first ≡ view_ty p.second) → ¬ IsSame p
other_types p deep second_deep other same =
    other (ap type_of (sym (deep_node (view_ty p.first) (view_bytes p.first) deep) ∙ (same ∙ deep_node (view_ty p.second) (view_bytes p.second) second_deep)))

-- ---- what is left to compare: parts, and views

abbrev pub AreLeft : List Part → List Part → List Compared → Type 0
AreLeft ps qs left = (part_trees ps ≡ part_trees qs) × AreSame left

-- of one type, they are the same where their parts are
pub parts_left : (p : Compared) (ps qs : List Part) (left : List Compared) → is_too_large (value p.first) ≡ true → is_too_large (value p.second) ≡ true → view_ty p.first ≡ view_ty p.second →
    ps ≡ parts (view_ty p.first) (view_bytes p.first) → qs ≡ parts (view_ty p.second) (view_bytes p.second) → AreLeft ps qs left ↔ (IsSame p × AreSame left)
parts_left p ps qs left deep second_deep types e f =
    let one : value p.first ≡ node (view_ty p.first) (part_trees ps) = deep_node (view_ty p.first) (view_bytes p.first) deep ∙ ap (λ rs. node (view_ty p.first) (part_trees rs)) (sym e) in
    let two : value p.second ≡ node (view_ty p.second) (part_trees qs) = deep_node (view_ty p.second) (view_bytes p.second) second_deep ∙ ap (λ rs. node (view_ty p.second) (part_trees rs)) (sym f) in
    (λ h. (one ∙ (ap₂ node types h.0 ∙ sym two), h.1), λ h. (ap children (sym one ∙ (h.0 ∙ two)), h.1))

pub none_fewer : (p : Compared) (ps : List Part) → is_too_large (value p.first) ≡ true → ps ≡ parts (view_ty p.first) (view_bytes p.first) → nodes_of (part_trees ps) < nodes (value p.first)
unfolding nodes
none_fewer p ps deep e =
    let n : nodes (value p.first) ≡ suc (nodes_of (part_trees ps)) =
    ap nodes (deep_node (view_ty p.first) (view_bytes p.first) deep ∙ ap (λ rs. node (view_ty p.first) (part_trees rs)) (sym e)) in
    omega (arith, n)

pub some_nodes : (v : Tree) → 0 < nodes v
unfolding nodes
some_nodes (number k n) = omega arith
some_nodes (text k s) = omega arith
some_nodes (node t vs) = omega arith

-- ---- one more

pub same_more : (ps : List Compared) (p : Compared) → AreSame (ps ++ p ∷ []) ↔ (AreSame ps × IsSame p)
same_more [] p = (λ h. (tt, h.0), λ h. (h.1, tt))
same_more (q ∷ ps) p = (
  λ h. let later = (same_more ps p).0 h.1 in ((h.0, later.0), later.1),
  λ h. (h.0.0, (same_more ps p).1 (h.0.1, h.1)),
)

pub work_more : (ps : List Compared) (p : Compared) → work (ps ++ p ∷ []) ≡ work ps + nodes (value p.first)
work_more [] p = omega arith
work_more (q ∷ ps) p = let later = work_more ps p in omega (arith, later)

module _ (left new : List Compared) (p : Compared) (ps qs pss qss : List Part) (grown : new ≡ left ++ p ∷ []) (e : pss ≡ shown p.first ∷ ps) (f : qss ≡ shown p.second ∷ qs) where
  -- the first parts are compared after the others
  pub one_left : AreLeft ps qs new ↔ AreLeft pss qss left
  one_left = (
    λ h. let more = (same_more left p).0 (subst AreSame grown h.1) in
        (ap part_trees e ∙ (ap₂ first more.1 h.0 ∙ sym (ap part_trees f)), more.0),
    λ h. let both = first_parts (value p.first) (value p.second) (part_trees ps) (part_trees qs) (sym (ap part_trees e) ∙ (h.0 ∙ ap part_trees f)) in
        (both.1, subst AreSame (sym grown) ((same_more left p).1 (h.1, both.0))),
  )

  pub work_left : work new + nodes_of (part_trees ps) ≡ work left + nodes_of (part_trees pss)
  unfolding nodes_of
  work_left =
      let parts : nodes_of (part_trees pss) ≡ nodes (value p.first) + nodes_of (part_trees ps) = ap (λ rs. nodes_of (part_trees rs)) e in
      let more : work new ≡ work left + nodes (value p.first) = ap work grown ∙ work_more left p in
      omega (arith, parts, more)

-- ---- at the end of parts

pub both_then : {A B C : Type 0} → A ↔ B → B ↔ C → A ↔ C
both_then f g = (λ a. g.0 (f.0 a), λ c. f.1 (g.1 c))

-- the first has no more
pub at_the_end : (left : List Compared) (pss qss : List Part) (ended : Bool) (X : Type 0) → pss ≡ [] → (IsTrue ended ↔ (qss ≡ [])) → AreLeft pss qss left ↔ X → (IsTrue ended × AreSame left) ↔ X
at_the_end left pss qss ended X e ends h = (
  λ is. h.0 (ap part_trees (e ∙ sym (ends.0 is.0)), is.1),
  λ x. let both = h.1 x in (ends.1 (no_parts qss (sym both.0 ∙ ap part_trees e)), both.1),
)
  where
    no_parts : (qs : List Part) → part_trees qs ≡ none → qs ≡ []
    no_parts [] none_left = refl
    no_parts (q ∷ qs) some = absurd (not_none (decode q.0 q.1) (part_trees qs) some)

-- ---- views one after another

-- the last is compared, and with it what was left is told
pub compared_one : (old rest new : List Compared) (p : Compared) (may : Bool) (X : Type 0) → old ≡ rest ++ p ∷ [] → (IsTrue may × AreSame new) ↔ (IsSame p × AreSame rest) → AreSame old ↔ X →
    (IsTrue may × AreSame new) ↔ X
compared_one old rest new p may X e one h = (
  λ is. let both = one.0 is in h.0 (subst AreSame (sym e) ((same_more rest p).1 (both.1, both.0))),
  λ x. let both = (same_more rest p).0 (subst AreSame e (h.1 x)) in one.1 (both.1, both.0),
)

pub less_work : (old rest new : List Compared) (p : Compared) → old ≡ rest ++ p ∷ [] → work new < work rest + nodes (value p.first) → work new < work old
less_work old rest new p e less =
    let whole : work old ≡ work rest + nodes (value p.first) = ap work e ∙ work_more rest p in
    omega (arith, whole, less)
