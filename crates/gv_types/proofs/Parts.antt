-- The parts of a type's text are texts of its parts.
use Rattle.std.proofs.Common.{ℕ, ◌≡◌, ◌<◌, ◌≤◌, ◌+◌, ◌-◌, List, Option, None, [], ◌∷◌, ◌++◌, length, take, drop, Some, true, refl, sym, ap, ◌∙◌, subst, arith, length-append, append-nil, length-drop, ◌⊎◌, inl, inr}
use Rattle.std.specs.Prelude.{slice_range, option_and_then}
use Rattle.std.proofs.Math.Seq.{take-append_seam}
use Rattle.std.proofs.lemmas.List.{length-take}
use Rattle.std.proofs.lemmas.Option.{same_Some, none-some}
use Rattle.gv_model.specs.Ty.{Ty, Types, Basic, letter, spelling, spellings, nesting, greatest_nesting, members, type_list}
use Rattle.gv_model.specs.Ty.Ty.{basic, variant, array, maybe, tuple, entry}
use Rattle.gv_model.specs.Ty.Types.{end, member}
use Rattle.gv_model.specs.Layout.{alignment, greatest_alignment, fixed_size, fixed_end, padded, round_up}
use Rattle.gv_types.specs.SingleTuples.{single_tuples, IsSingleMember}
use Rattle.gv_model.specs.TypeText.{seen, is_type, type_at, is_within_limits}
use Rattle.gv_model.specs.Texts.{are_types}
use Rattle.gv_model.proofs.TypeTextParts.{spelling-type_at, limits_down, text_of_type, IsTextOfType}
use Rattle.gv_model.proofs.TypeTextLaws.{limits_of}
use Rattle.gv_types.specs.declared.class.Class.{Class}
use Rattle.gv_types.specs.declared.class.Class.TheVariants as classes
use Rattle.gv_types.specs.Classes.{class_of, AreBracketed}
use Rattle.gv_types.specs.TypeStr.{element_of, key_of}
use Rattle.gv_types.specs.Members.{types_in}
use Rattle.gv_types.proofs.TypeLists.{types_in_spellings, members_are_types}

-- ---- the element of an array or a maybe

-- after the first letter comes the element's text
element_text : (t u : Ty) → element_of t ≡ Some u → (spelling u ≡ drop 1 (spelling t)) × (nesting u ≤ nesting t)
unfolding spelling nesting
element_text (array v) u e = let same : v ≡ u = same_Some v u e in (ap spelling (sym same), omega (arith, ap nesting same))
element_text (maybe v) u e = let same : v ≡ u = same_Some v u e in (ap spelling (sym same), omega (arith, ap nesting same))
element_text _ u e = absurd (none-some u e)

pub text_of_element : (w : List ℕ) (u : Ty) → is_type w ≡ true → element_of (type_at w) ≡ Some u → IsTextOfType u (drop 1 w)
text_of_element w u h e =
    let whole = spelling-type_at w h in
    let part = element_text (type_at w) u e in
    text_of_type u (drop 1 w) (part.0 ∙ ap (drop 1) whole.0) (limits_down (type_at w) u w (drop 1 w) part.1 (omega (arith, length-drop 1 w)) whole.1)

-- a type of a class that has elements has one
pub record HasElement (t : Ty) : Type 0 where
  pub element : Ty
  pub is : element_of t ≡ Some element

holds_element : (t : Ty) → (class_of t ≡ classes.Array) ⊎ (class_of t ≡ classes.Maybe) → HasElement t
holds_element (array t) h = record { element = t; is = refl }
holds_element (maybe t) h = record { element = t; is = refl }
holds_element (basic k) (inr e) = absurd cc
holds_element variant (inr e) = absurd cc
holds_element (tuple ts) (inr e) = absurd cc
holds_element (entry k t) (inr e) = absurd cc
holds_element _ (inl e) = absurd cc

class_same : (c d : Class) → c ≡ d → (c ≡ classes.Array) ⊎ (c ≡ classes.Maybe) → (d ≡ classes.Array) ⊎ (d ≡ classes.Maybe)
class_same c d e h = subst (λ (x : Class). (x ≡ classes.Array) ⊎ (x ≡ classes.Maybe)) e h

pub has_element : (c : Class) (t : Ty) → c ≡ class_of t → (c ≡ classes.Array) ⊎ (c ≡ classes.Maybe) → HasElement t
has_element c t e h = holds_element t (class_same c (class_of t) e h)

-- ---- the key of an entry

-- its text has at least four bytes, and the second is the key's
pub record HasKey (w : List ℕ) (t : Ty) : Type 0 where
  pub key : Ty
  pub is : key_of t ≡ Some key
  pub some : 2 ≤ length w
  pub spelled : spelling key ≡ slice_range w 1 2
  pub nested : nesting key ≤ nesting t

spelled_key : (k : Basic) (t : Ty) → HasKey (spelling (entry k t)) (entry k t)
unfolding spelling nesting
spelled_key k t = record { key = basic k; is = refl; some = omega arith; spelled = refl; nested = omega arith }

key_of_entry : (t : Ty) → class_of t ≡ classes.Entry → HasKey (spelling t) t
key_of_entry (entry k t) e = spelled_key k t
key_of_entry _ e = absurd cc

pub has_key : (w : List ℕ) → is_type w ≡ true → class_of (type_at w) ≡ classes.Entry → HasKey w (type_at w)
has_key w h e = subst (λ (v : List ℕ). HasKey v (type_at w)) (spelling-type_at w h).0 (key_of_entry (type_at w) e)

pub text_of_key : (w : List ℕ) → is_type w ≡ true → (k : HasKey w (type_at w)) → IsTextOfType k.key (slice_range w 1 2)
text_of_key w h k =
    text_of_type k.key (slice_range w 1 2) k.spelled (limits_down (type_at w) k.key w (slice_range w 1 2) k.nested (omega (arith, length-take 1 (drop 1 w), length-drop 1 w)) (spelling-type_at w h).1)

-- ---- the members of a tuple or an entry

-- between the brackets are the members' texts
pub record HasMembers (w : List ℕ) (t : Ty) : Type 0 where
  pub some : 2 ≤ length w
  pub spelled : slice_range w 1 (length w - 1) ≡ spellings (members t)
  pub nested : greatest_nesting (members t) ≤ nesting t
  pub shorter : length (spellings (members t)) ≤ length w

between : (b c : ℕ) (x : List ℕ) → slice_range (b ∷ (x ++ c ∷ [])) 1 (length (b ∷ (x ++ c ∷ [])) - 1) ≡ x
between b c x =
    let n : length (b ∷ (x ++ c ∷ [])) - 1 - 1 ≡ length x = omega (arith, length-append x (c ∷ [])) in
    ap (λ i. take i (x ++ c ∷ [])) n ∙ take-append_seam x (c ∷ [])

tuple_members : (ts : Types) → HasMembers (spelling (tuple ts)) (tuple ts)
unfolding spelling nesting
tuple_members ts = record {
  some = omega (arith, length-append (spellings ts) (41 ∷ []));
  spelled = between 40 41 (spellings ts);
  nested = omega arith;
  shorter = omega (arith, length-append (spellings ts) (41 ∷ []));
}

entry_text : (k : Basic) (t : Ty) → spellings (members (entry k t)) ≡ letter k ∷ spelling t
unfolding spelling
entry_text k t = ap (λ x. letter k ∷ x) (append-nil (spelling t))

entry_members : (k : Basic) (t : Ty) → HasMembers (spelling (entry k t)) (entry k t)
unfolding spelling nesting
entry_members k t = record {
  some = omega (arith, length-append (letter k ∷ spelling t) (125 ∷ []));
  spelled = between 123 125 (letter k ∷ spelling t) ∙ sym (entry_text k t);
  nested = omega arith;
  shorter = omega (arith, ap length (entry_text k t), length-append (letter k ∷ spelling t) (125 ∷ []));
}

members_of : (t : Ty) → AreBracketed (class_of t) → HasMembers (spelling t) t
members_of (tuple ts) h = tuple_members ts
members_of (entry k t) h = entry_members k t
members_of (basic k) (inr e) = absurd cc
members_of variant (inr e) = absurd cc
members_of (array t) (inr e) = absurd cc
members_of (maybe t) (inr e) = absurd cc
members_of _ (inl e) = absurd cc

pub has_members : (w : List ℕ) → is_type w ≡ true → AreBracketed (class_of (type_at w)) → HasMembers w (type_at w)
has_members w h b = subst (λ (v : List ℕ). HasMembers v (type_at w)) (spelling-type_at w h).0 (members_of (type_at w) b)

-- the text between the brackets is read as the members
pub record IsTextOfMembers (t : Ty) (w : List ℕ) : Type 0 where
  pub are : are_types (seen w) ≡ true
  pub listed : types_in (seen w) ≡ type_list (members t)

spelled_members : (ts : Types) (w : List ℕ) → spellings ts ≡ w → greatest_nesting ts ≤ 128 → length (spellings ts) ≤ 67108864 → (are_types (seen w) ≡ true) × (types_in (seen w) ≡ type_list ts)
spelled_members ts w e h g =
    (subst (λ (v : List ℕ). are_types (seen v) ≡ true) e (members_are_types ts h g), subst (λ (v : List ℕ). types_in (seen v) ≡ type_list ts) e (types_in_spellings ts))

pub text_of_members : (w : List ℕ) → is_type w ≡ true → HasMembers w (type_at w) → IsTextOfMembers (type_at w) (slice_range w 1 (length w - 1))
text_of_members w h m =
    let within = limits_of (type_at w) w (spelling-type_at w h).1 in
    let is = spelled_members (members (type_at w)) (slice_range w 1 (length w - 1)) (sym m.spelled) (omega (arith, m.nested, within.0)) (omega (arith, m.shorter, within.1)) in
    record { are = is.0; listed = is.1 }

-- where the tuple is known to be some of one member, one in another, the text is that of its member
pub record IsTextOfMember (n : ℕ) (t : Ty) (w : List ℕ) : Type 0 where
  pub alone : IsSingleMember n w
  pub inherits : fixed_size t ≡ None → fixed_size (type_at w) ≡ None

no_padded : (a : ℕ) (o : Option ℕ) → padded a o ≡ None → o ≡ None
no_padded a None h = refl
no_padded a (Some p) h = absurd (none-some _ (sym h))

no_end : (t : Ty) → fixed_end (member t end) 0 ≡ None → fixed_size t ≡ None
unfolding fixed_end
no_end t h = go (fixed_size t) h
  where
    go : (o : Option ℕ) → option_and_then (λ s. fixed_end end (round_up (alignment t) 0 + s)) o ≡ None → o ≡ None
    go None e = refl
    go (Some s) e = absurd (none-some _ (sym e))

member_inherits : (t : Ty) → fixed_size (tuple (member t end)) ≡ None → fixed_size t ≡ None
unfolding fixed_size
member_inherits t h = no_end t (no_padded (greatest_alignment (member t end)) (fixed_end (member t end) 0) h)

member_text : (n : ℕ) (u : Ty) (v w : List ℕ) → 0 < n → n ≤ single_tuples u → HasMembers v u → is_within_limits u v ≡ true → slice_range v 1 (length v - 1) ≡ w → IsTextOfMember n u w
unfolding single_tuples spelling greatest_nesting
member_text n (tuple (member t end)) v w h few m within e =
    let spelled : spelling t ≡ w = sym (append-nil (spelling t)) ∙ (sym m.spelled ∙ e) in
    let is = text_of_type t w spelled (limits_down (tuple (member t end)) t v w (omega (arith, m.nested)) (omega (arith, ap length spelled, m.shorter, length-append (spelling t) [])) within) in
    record {
      alone = record { spells = is.checked; few = omega (arith, few, ap single_tuples is.type) };
      inherits = λ none. ap fixed_size is.type ∙ member_inherits t none;
    }
member_text n _ v w h few m within e = absurd (omega arith)

pub text_of_member : (n : ℕ) (w : List ℕ) → is_type w ≡ true → n ≤ single_tuples (type_at w) → HasMembers w (type_at w) → 0 < n → IsTextOfMember n (type_at w) (slice_range w 1 (length w - 1))
text_of_member n w h few m some = member_text n (type_at w) w (slice_range w 1 (length w - 1)) some few m (spelling-type_at w h).1 refl

-- a type of another class has no members
no_members : (t : Ty) → (class_of t ≡ classes.Tuple → ⊥) → (class_of t ≡ classes.Entry → ⊥) → type_list (members t) ≡ []
unfolding type_list
no_members (tuple ts) h g = absurd (h refl)
no_members (entry k t) h g = absurd (g refl)
no_members _ h g = refl

pub has_no_members : (c : Class) (t : Ty) → c ≡ class_of t → (c ≡ classes.Tuple → ⊥) → (c ≡ classes.Entry → ⊥) → type_list (members t) ≡ []
has_no_members c t e h g = no_members t (λ b. h (e ∙ b)) (λ b. g (e ∙ b))

-- no types occur in no text
pub no_types : (are_types (seen []) ≡ true) × (types_in (seen []) ≡ [])
unfolding seen
no_types = (refl, refl)
