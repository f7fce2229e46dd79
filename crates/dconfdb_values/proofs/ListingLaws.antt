-- Children that are put into a room one by one.
use Rattle.std.proofs.Common.{◌≡◌, ℕ, zero, suc, ◌+◌, ◌<◌, ◌≤◌, min, List, [], ◌∷◌, ◌++◌, length, map, take, drop, slice_set, refl, sym, ap, ap₂, subst, ◌∙◌, arith}
use Rattle.std.proofs.lemmas.List.{drop-drop, drop-set-lt, drop_all, length-drop, length-map, length-take, map-append, take_all, take_more_set}
use Rattle.std.proofs.Math.Seq.{drop-nil, take-nil}
use Rattle.gv_model.specs.Ty.{Ty}
use Rattle.gv_model.specs.Ty.Ty.{tuple}
use Rattle.gv_model.specs.Ty.Types.{end}
use Rattle.gv_model.specs.Tree.{children}
use Rattle.gv_model.specs.Tree.Tree.{node}
use Rattle.gv_model.specs.Tree.Trees.{none}
use Rattle.gv_model.specs.Decode.{decode}
use Rattle.gv_model.specs.Parts.{Part, part_trees, parts}
use Rattle.gv_model.proofs.ChildLaws.{children_are_parts}
use Rattle.gv_model.proofs.ListLaws.{nil_no_cons}
use Rattle.dconfdb_values.specs.Listing.{ArePut, told_child}
use Rattle.dconfdb_values.specs.declared.listing.DconfdbChild.{DconfdbChild}

-- a part, with the index of its whole
abbrev told : ℕ → Part → ℕ × (ℕ × Part)
told o p = (o, (0, p))

-- the first i are put
pub record IsFilled (o : ℕ) (all : List Part) (old new : List DconfdbChild) (i : ℕ) (left : List Part) : Type 0 where
  pub put : map told_child (take i new) ≡ take i (map (λ p. (o, (0, p))) all)
  pub rest : drop i new ≡ drop i old
  pub left_is : left ≡ drop i all

drop_next : {X : Type 0} (xs ys : List X) (x : X) (i : ℕ) → drop i xs ≡ x ∷ ys → ys ≡ drop (i + 1) xs
drop_next xs ys x i e = ap (drop 1) (sym e) ∙ drop-drop 1 i xs

told_next : (o : ℕ) (xs ys : List Part) (x : Part) (i : ℕ) → drop i xs ≡ x ∷ ys → take (suc i) (map (told o) xs) ≡ take i (map (told o) xs) ++ (o, (0, x)) ∷ []
told_next o [] ys x i e = absurd (nil_no_cons (sym (drop-nil i) ∙ e))
told_next o (z ∷ xs) ys x zero e = cc
told_next o (z ∷ xs) ys x (suc i) e = ap (λ zs. (o, (0, z)) ∷ zs) (told_next o xs ys x i e)

pub filled_next : (o : ℕ) (all : List Part) (old new : List DconfdbChild) (i : ℕ) (left more : List Part) (x : Part) (c : DconfdbChild)
    → IsFilled o all old new i left → left ≡ x ∷ more → told_child c ≡ (o, (0, x)) → i < length new
    → IsFilled o all old (slice_set new i c) (i + 1) more
filled_next o all old new i left more x c h e is room =
    let at : drop i all ≡ x ∷ more = sym h.left_is ∙ e in
    let on : drop (i + 1) new ≡ drop (i + 1) old = sym (drop-drop 1 i new) ∙ (ap (drop 1) h.rest ∙ drop-drop 1 i old) in
    let one : suc i ≡ i + 1 = omega arith in
    record {
      put = ap (map told_child) (take_more_set new i c room)
          ∙ (map-append told_child (take i new) (c ∷ [])
          ∙ (ap₂ (λ xs y. xs ++ y ∷ []) h.put is
          ∙ (sym (told_next o all more x i at) ∙ ap (λ n. take n (map (told o) all)) one)));
      rest = drop-set-lt (i + 1) new i c (omega arith) ∙ on;
      left_is = drop_next all more x i at;
    }

as_long : (o : ℕ) (all : List Part) (new : List DconfdbChild) (i : ℕ) → map told_child (take i new) ≡ take i (map (told o) all) → min i (length new) ≡ min i (length all)
as_long o all new i h =
    sym (length-take i new) ∙ (sym (length-map (take i new) told_child)
    ∙ (ap length h ∙ (length-take i (map (told o) all) ∙ ap (min i) (length-map all (told o)))))

-- no child is left
pub filled_all : (o : ℕ) (all : List Part) (old new : List DconfdbChild) (i : ℕ) (left : List Part) → IsFilled o all old new i left → left ≡ [] → i ≤ length new
    → length new ≡ length old → ArePut o all old new
filled_all o all old new i left h e room same =
    let short : length all ≤ i = omega (arith, length-drop i all, ap length (sym h.left_is ∙ e)) in
    let here : length all ≡ i = omega (arith, short, room, as_long o all new i h.put) in
    let whole : (k : ℕ) → i ≤ k → take k (map (told o) all) ≡ map (told o) all = λ k le. take_all k (map (told o) all) (omega (arith, le, short, length-map all (told o))) in
    record {
      put = ap (λ n. map told_child (take n new)) here ∙ (h.put ∙ (whole i (omega arith) ∙ sym (whole (length old) (omega (arith, room, same)))));
      rest = ap (λ n. drop n new) here ∙ (h.rest ∙ ap (λ n. drop n old) (sym here));
    }

-- no room is left
pub filled_up : (o : ℕ) (all : List Part) (old new : List DconfdbChild) (i : ℕ) (left : List Part) → IsFilled o all old new i left → i ≡ length old
    → length new ≡ length old → ArePut o all old new
filled_up o all old new i left h e same =
    let long : length new ≤ length all = omega (arith, as_long o all new i h.put, e, same) in
    record {
      put = ap (map told_child) (take_all (length all) new long ∙ sym (take_all i new (omega (arith, e, same)))) ∙ (h.put ∙ ap (λ n. take n (map (told o) all)) e);
      rest = drop_all (length all) new long ∙ sym (drop_all (length all) old (omega (arith, long, same)));
    }

-- ---- of a whole value

pub put_alike : (o : ℕ) (ps : List Part) (t u : Ty) (b c : List ℕ) (old new : List DconfdbChild) → ps ≡ parts t b → t ≡ u → b ≡ c → ArePut o ps old new → ArePut o (parts u c) old new
put_alike o ps t u b c old new e typed same h = subst (λ qs. ArePut o qs old new) (e ∙ ap₂ parts typed same) h

no_parts : (ps : List Part) → part_trees ps ≡ none → ps ≡ []
no_parts [] e = refl
no_parts (p ∷ ps) e = absurd cc

pub put_nothing : (o : ℕ) (t : Ty) (b : List ℕ) (old : List DconfdbChild) → decode t b ≡ node (tuple end) none → ArePut o (parts t b) old old
put_nothing o t b old e =
    let nothing : parts t b ≡ [] = no_parts (parts t b) (sym (children_are_parts t b) ∙ ap children e) in
    subst (λ qs. ArePut o qs old old) (sym nothing) (record { put = sym (take-nil (length old)); rest = refl })
