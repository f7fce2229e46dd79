-- Trees made of the children of a value.
use Rattle.std.proofs.Common.{◌≡◌, ◌≤◌, ◌<◌, ◌-◌, ℕ, true, List, [], ◌∷◌, length, Option, Some, None, Result, Ok, Err, OnOk, refl, sym, ap, ap₂, ◌∙◌, subst, arith, inl, inr}
use Rattle.std.specs.Prelude.{IsSome, slice_index_or, unwrap_or, option_map, take}
use Rattle.std.proofs.lemmas.Option.{same_Some}
use Rattle.gv_model.specs.Ty.{Ty, Basic, Types, spelling, nesting}
use Rattle.gv_model.specs.Ty.Ty.{basic, variant, array, maybe, tuple, entry}
use Rattle.gv_model.specs.Ty.Types.{end, member}
use Rattle.gv_model.specs.TypeText.{type_of_text, type_at, is_within_limits}
use Rattle.gv_model.specs.Tree.{Tree, Trees, type_of, children, depth}
use Rattle.gv_model.specs.Tree.Tree.{node}
use Rattle.gv_model.specs.Tree.Trees.{none, first}
use Rattle.gv_model.specs.Typed.{MayHold, AllOf, types_of}
use Rattle.gv_model.specs.Decode.{decode}
use Rattle.gv_model.proofs.TypeTextSound.{spelling_of_read}
use Rattle.gv_model.specs.Normal.{IsContainer}
use Rattle.gv_model.proofs.WellTyped.{children_held, unit_limits, same_member, same_members}
use Rattle.gv_model.proofs.NormalLaws.{decode_node}
use Rattle.gv_types.specs.declared.type_str.TypeStr.{TypeStr}
use Rattle.gv_types.specs.TypeStr.{element_of, ty}
use Rattle.gv_types.specs.Classes.{class_of}
use Rattle.gv_types.specs.declared.class.Class.{Class}
use Rattle.gv_types.specs.declared.class.Class.TheVariants as classes
use Rattle.gv_types.proofs.ClassLaws.{variant_class}
use Rattle.refused.specs.declared.Refused.{Refused}
use Rattle.refused.specs.declared.Refused.TheVariants.{Memory}
use Rattle.refused.specs.Faults.{OfFault}
use Rattle.refused.proofs.Faults.{only_memory}
use Rattle.gv_tree.specs.declared.fault.TreeFlaw.{TreeFlaw}
use Rattle.gv_tree.specs.declared.fault.TreeFlaw.TheVariants.{HasNul, BadObjectPath, BadSignature, WrongType, KeyNotBasic, TooDeep, TooLarge}
use Rattle.gv_tree.specs.Faults.{IsSizeFault, IsContentFault, IsEntryFault}
use Rattle.gv_tree.specs.Nodes.{trees_of, trees_of_option}
use Rattle.gv_tree.specs.Wholes.{entry_tree, entry_at_key}
use Rattle.gv_tree.proofs.MadeLaws.{size_at_fault}
use Rattle.gv_view.specs.declared.view.View.{View}
use Rattle.gv_view.specs.Views.{type_str_of, view_ty, view_bytes, value}
use Rattle.gv_view.specs.Copying.{AreChildTrees}

-- what holds of no answer holds of one
pub always_ok : {T E Q : Type 0} (r : Result T E) → Q → OnOk r Q
always_ok (Ok x) q = q
always_ok (Err e) q = tt

-- ---- classes of containers

array_class : (t : Ty) → class_of t ≡ classes.Array → (u : Ty) × (t ≡ array u)
array_class (array u) e = (u, refl)
array_class (basic k) e = absurd cc
array_class variant e = absurd cc
array_class (maybe u) e = absurd cc
array_class (tuple ts) e = absurd cc
array_class (entry k u) e = absurd cc

maybe_class : (t : Ty) → class_of t ≡ classes.Maybe → (u : Ty) × (t ≡ maybe u)
maybe_class (maybe u) e = (u, refl)
maybe_class (basic k) e = absurd cc
maybe_class variant e = absurd cc
maybe_class (array u) e = absurd cc
maybe_class (tuple ts) e = absurd cc
maybe_class (entry k u) e = absurd cc

tuple_class : (t : Ty) → class_of t ≡ classes.Tuple → (ts : Types) × (t ≡ tuple ts)
tuple_class (tuple ts) e = (ts, refl)
tuple_class (basic k) e = absurd cc
tuple_class variant e = absurd cc
tuple_class (array u) e = absurd cc
tuple_class (maybe u) e = absurd cc
tuple_class (entry k u) e = absurd cc

entry_class : (t : Ty) → class_of t ≡ classes.Entry → (k : Basic) × ((u : Ty) × (t ≡ entry k u))
entry_class (entry k u) e = (k, (u, refl))
entry_class (basic k) e = absurd cc
entry_class variant e = absurd cc
entry_class (array u) e = absurd cc
entry_class (maybe u) e = absurd cc
entry_class (tuple ts) e = absurd cc

-- ---- what refuses a tree of 128 levels whose type is within the limits

limits : (text : List ℕ) → is_within_limits (type_at text) (spelling (type_at text)) ≡ true
limits text = go (type_of_text text) refl
  where
    go : (o : Option Ty) → type_of_text text ≡ o → is_within_limits (unwrap_or o (tuple end)) (spelling (unwrap_or o (tuple end))) ≡ true
    go None e = unit_limits
    go (Some t) e = let read = spelling_of_read text t e in ap (is_within_limits t) read.0 ∙ read.1

within_limits : (v : Tree) → depth v ≤ 128 → is_within_limits (type_of v) (spelling (type_of v)) ≡ true → (f : TreeFlaw) → IsSizeFault v f → ⊥
within_limits v d l TooDeep (inl h) = omega arith
within_limits v d l TooDeep (inr h) = let small : nesting (type_of v) ≤ 128 = grind arith in omega arith
within_limits v d l TooLarge h = let long = h.long in let short : length (spelling (type_of v)) ≤ 67108864 = grind arith in omega arith
within_limits v d l HasNul h = h
within_limits v d l BadObjectPath h = h
within_limits v d l BadSignature h = h
within_limits v d l (WrongType i) h = h
within_limits v d l KeyNotBasic h = h

content_memory : (t : Ty) (v : Tree) → AllOf t (children v) → ((f : TreeFlaw) → IsSizeFault v f → ⊥) → (f : Refused TreeFlaw) → IsContentFault t v f → f ≡ Memory
content_memory t v a m f h = only_memory _ m f (size_at_fault t v f a h)

-- ---- a value is the container of its children

pub record IsWhole (t : Ty) (v : Tree) (vs : Trees) : Type 0 where
  pub is : v ≡ node t vs
  pub held : MayHold t vs
  pub within : (f : TreeFlaw) → IsSizeFault (node t vs) f → ⊥

whole : (t : Ty) (b : List ℕ) (vs : Trees) → IsContainer t → is_within_limits t (spelling t) ≡ true → depth (decode t b) ≤ 128 → vs ≡ children (decode t b) → IsWhole t (decode t b) vs
whole t b vs c l d e =
    let shape = decode_node t b c in
    let same = e ∙ ap children shape in
    let is : decode t b ≡ node t vs = shape ∙ ap (node t) (sym same) in
    record {
      is = is;
      held = subst (MayHold t) (sym same) (children_held t b c);
      within = within_limits (node t vs) (subst (λ v. depth v ≤ 128) is d) l;
    }

whole_at : (v : View) (class : Class) (xs : List Tree) (t : Ty) → AreChildTrees v class xs → view_ty v ≡ t → IsContainer t → IsWhole t (value v) (trees_of xs)
whole_at v class xs t h e c =
    subst (λ u. IsWhole u (value v) (trees_of xs)) e (whole (view_ty v) (view_bytes v) (trees_of xs) (subst IsContainer (sym e) c) (limits v.type_str.text.now) h.levels h.all)

-- ---- what each kind of container is made as

-- the type of the elements, as it is asked of a view's type
pub element_type : (v : View) (s u : TypeStr) (o : Option TypeStr) → s ≡ type_str_of v → option_map ty o ≡ element_of (ty s) → o ≡ Some u → Some (ty u) ≡ element_of (view_ty v)
element_type v s u o h e g = sym (ap (option_map ty) g) ∙ (e ∙ ap (λ r. element_of (ty r)) h)

-- the tree that is made is the value, and it isn't made only where memory runs out
pub record IsMade (v made : Tree) (Why : Refused TreeFlaw → Type 0) : Type 0 where
  pub is : made ≡ v
  pub memory : (f : Refused TreeFlaw) → Why f → f ≡ Memory

pub array_made : (v : View) (xs : List Tree) (u : Ty) → AreChildTrees v classes.Array xs → Some u ≡ element_of (view_ty v) → IsMade (value v) (node (array u) (trees_of xs)) (IsContentFault u (node (array u) (trees_of xs)))
array_made v xs u h e =
    let t = array_class (view_ty v) h.kind in
    let same : t.0 ≡ u = sym (same_Some u t.0 (e ∙ ap element_of t.1)) in
    let w = whole_at v classes.Array xs (array u) h (t.1 ∙ ap array same) tt in
    record { is = sym w.is; memory = content_memory u (node (array u) (trees_of xs)) w.held w.within }

pub tuple_made : (v : View) (xs : List Tree) → AreChildTrees v classes.Tuple xs → IsMade (value v) (node (tuple (types_of (trees_of xs))) (trees_of xs)) (OfFault (IsSizeFault (node (tuple (types_of (trees_of xs))) (trees_of xs))))
tuple_made v xs h =
    let t = tuple_class (view_ty v) h.kind in
    let w = whole_at v classes.Tuple xs (tuple t.0) h t.1 tt in
    subst (λ (ts : Types). IsMade (value v) (node (tuple ts) (trees_of xs)) (OfFault (IsSizeFault (node (tuple ts) (trees_of xs))))) (sym w.held) (record { is = sym w.is; memory = only_memory _ w.within })

-- ---- children that are popped off a list

-- what is popped off a list, if it is not empty
abbrev pub IsPopped : List Tree → Option Tree → Type 0
IsPopped xs o = (d : Tree) → 0 < length xs → o ≡ Some (slice_index_or xs (length xs - 1) d)

pub popped : (n : ℕ) (xs : List Tree) (o : Option Tree) → n ≡ length xs → ((d : Tree) → 0 < n → o ≡ Some (slice_index_or xs (n - 1) d)) → IsPopped xs o
popped n xs o e h = subst (λ (m : ℕ). (d : Tree) → 0 < m → o ≡ Some (slice_index_or xs (m - 1) d)) e h

popped_or_none : (u : Ty) (xs : List Tree) (o : Option Tree) → MayHold (maybe u) (trees_of xs) → IsPopped xs o → (IsSome o → 0 < length xs) → trees_of_option o ≡ trees_of xs
popped_or_none u [] None h p s = refl
popped_or_none u [] (Some x) h p s = let long : 0 < 0 = s refl in absurd (omega arith)
popped_or_none u (x ∷ []) o h p s = ap trees_of_option (p x (omega arith))
popped_or_none u (x ∷ y ∷ xs) o h p s = absurd h

just_all : (u : Ty) (vs : Trees) → MayHold (maybe u) vs → AllOf u vs
just_all u none h = tt
just_all u (first v none) h = (h, tt)
just_all u (first v (first w vs)) h = absurd h

pub maybe_made : (v : View) (xs : List Tree) (u : Ty) (o : Option Tree) → AreChildTrees v classes.Maybe xs → Some u ≡ element_of (view_ty v) → IsPopped xs o → (IsSome o → 0 < length xs)
    → IsMade (value v) (node (maybe u) (trees_of_option o)) (IsContentFault u (node (maybe u) (trees_of_option o)))
maybe_made v xs u o h e p s =
    let t = maybe_class (view_ty v) h.kind in
    let same : t.0 ≡ u = sym (same_Some u t.0 (e ∙ ap element_of t.1)) in
    let w = whole_at v classes.Maybe xs (maybe u) h (t.1 ∙ ap maybe same) tt in
    let all : trees_of_option o ≡ trees_of xs = popped_or_none u xs o w.held p s in
    subst (λ (vs : Trees). IsMade (value v) (node (maybe u) vs) (IsContentFault u (node (maybe u) vs))) (sym all)
    (record { is = sym w.is; memory = content_memory u (node (maybe u) (trees_of xs)) (just_all u (trees_of xs) w.held) w.within })

pub record IsOnly (xs : List Tree) : Type 0 where
  pub child : Tree
  pub are : xs ≡ child ∷ []

one_held : (xs : List Tree) → MayHold variant (trees_of xs) → IsOnly xs
one_held [] h = absurd h
one_held (x ∷ []) h = record { child = x; are = refl }
one_held (x ∷ y ∷ xs) h = absurd h

-- a variant has one child
pub variant_child : (v : View) (xs : List Tree) → AreChildTrees v classes.Variant xs → IsOnly xs
variant_child v xs h = one_held xs (whole_at v classes.Variant xs variant h (variant_class (view_ty v) (sym h.kind)) tt).held

pub variant_made : (v : View) (xs : List Tree) (x : Tree) → AreChildTrees v classes.Variant xs → IsPopped xs (Some x) → IsMade (value v) (node variant (first x none)) (OfFault (IsSizeFault (node variant (first x none))))
variant_made v xs x h p =
    let w = whole_at v classes.Variant xs variant h (variant_class (view_ty v) (sym h.kind)) tt in
    let only = one_held xs w.held in
    let same : only.child ≡ x = sym (same_Some x only.child (subst (λ (ys : List Tree). IsPopped ys (Some x)) only.are p x (omega arith))) in
    let all : trees_of xs ≡ first x none = ap trees_of only.are ∙ ap (λ c. first c none) same in
    subst (λ (vs : Trees). IsMade (value v) (node variant vs) (OfFault (IsSizeFault (node variant vs)))) all (record { is = sym w.is; memory = only_memory _ w.within })

pub record IsPair (k : Basic) (u : Ty) (xs : List Tree) : Type 0 where
  pub key : Tree
  pub value : Tree
  pub are : xs ≡ key ∷ value ∷ []
  pub key_type : type_of key ≡ basic k
  pub value_type : type_of value ≡ u

two_held : (k : Basic) (u : Ty) (xs : List Tree) → types_of (trees_of xs) ≡ member (basic k) (member u end) → IsPair k u xs
two_held k u [] e = absurd cc
two_held k u (x ∷ []) e = let f = same_members _ _ _ _ e in absurd cc
two_held k u (x ∷ y ∷ []) e = record { key = x; value = y; are = refl; key_type = same_member _ _ _ _ e; value_type = same_member _ _ _ _ (same_members _ _ _ _ e) }
two_held k u (x ∷ y ∷ z ∷ xs) e = let f = same_members _ _ _ _ (same_members _ _ _ _ e) in absurd cc

-- an entry has a key and a value
pub record IsEntry (v : View) (xs : List Tree) : Type 0 where
  pub key_is : Basic
  pub value_is : Ty
  pub pair : IsPair key_is value_is xs
  pub whole : IsWhole (entry key_is value_is) (value v) (trees_of xs)

pub entry_children : (v : View) (xs : List Tree) → AreChildTrees v classes.Entry xs → IsEntry v xs
entry_children v xs h =
    let t = entry_class (view_ty v) h.kind in
    let w = whole_at v classes.Entry xs (entry t.0 t.1.0) h t.1.1 tt in
    record { key_is = t.0; value_is = t.1.0; pair = two_held t.0 t.1.0 xs w.held; whole = w }

-- the key and the value, popped off the end
pub entry_made : (v : View) (xs ys : List Tree) (key val : Tree) → AreChildTrees v classes.Entry xs → IsPopped xs (Some val) → ys ≡ take (length xs - 1) xs → IsPopped ys (Some key)
    → (entry_tree key val ≡ Some (value v)) × ((f : Refused TreeFlaw) → IsEntryFault (entry_tree key val) f → f ≡ Memory)
entry_made v xs ys key val h p e q =
    let en = entry_children v xs h in
    let pair = en.pair in
    let w = en.whole in
    let second : val ≡ pair.value = same_Some val pair.value (subst (λ (zs : List Tree). IsPopped zs (Some val)) pair.are p val (omega arith)) in
    let left : ys ≡ pair.key ∷ [] = e ∙ ap (λ (zs : List Tree). take (length zs - 1) zs) pair.are in
    let prefix : key ≡ pair.key = same_Some key pair.key (subst (λ (zs : List Tree). IsPopped zs (Some key)) left q key (omega arith)) in
    let types : entry_tree key val ≡ Some (node (entry en.key_is en.value_is) (first key (first val none))) =
    ap (λ t. entry_at_key t key val) (ap type_of prefix ∙ pair.key_type) ∙ ap (λ t. Some (node (entry en.key_is t) (first key (first val none)))) (ap type_of second ∙ pair.value_type) in
    let all : first key (first val none) ≡ trees_of xs = ap₂ (λ a b. first a (first b none)) prefix second ∙ sym (ap trees_of pair.are) in
    let is : entry_tree key val ≡ Some (node (entry en.key_is en.value_is) (trees_of xs)) = types ∙ ap (λ vs. Some (node (entry en.key_is en.value_is) vs)) all in
    (is ∙ ap Some (sym w.is), (λ f r. only_memory _ w.within f (subst (λ (o : Option Tree). IsEntryFault o f) is r)))
