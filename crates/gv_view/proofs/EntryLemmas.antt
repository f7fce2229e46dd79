-- Looking up a key among the entries of a dictionary.
use Rattle.std.proofs.Common.{◌≡◌, ℕ, Bool, true, false, cond, ◌==◌, List, [], ◌∷◌, length, Option, Some, None, refl, ap, ap₂, sym, subst, ◌∙◌, inr, arith}
use Rattle.std.specs.Prelude.{All, MatchOption, slice_get}
use Rattle.gv_model.specs.Ty.{Ty, Basic}
use Rattle.gv_model.specs.Ty.Ty.{basic, variant, array, maybe, tuple, entry}
use Rattle.gv_model.specs.Ty.Basic.{string, path, signature}
use Rattle.gv_model.specs.Tree.{Tree, Trees, children, tree_at, basic_default}
use Rattle.gv_model.specs.Tree.Tree.{number, text, node}
use Rattle.gv_model.specs.Layout.{basic_size}
use Rattle.gv_model.specs.BasicValue.{basic_value, basic_of_size, text_or_default, text_in, bits_of, number_in}
use Rattle.gv_model.specs.Texts.{is_text}
use Rattle.gv_model.specs.Children.{child_bytes}
use Rattle.gv_model.specs.Decode.{decode, cut, each, tree_with}
use Rattle.gv_model.specs.Parts.{Part, parts, part_trees}
use Rattle.gv_model.specs.Entries.{HasKey, IsFirst, IsLookedUp}
use Rattle.gv_model.proofs.DecodeLaws.{decode_children}
use Rattle.gv_model.proofs.Prefixes.{basic_parts}
use Rattle.gv_model.proofs.ListLaws.{same_head, same_tail, nil_no_cons}
use Rattle.gv_view.specs.declared.view.View.{View}
use Rattle.gv_view.specs.Views.{shown, value, view_ty, view_bytes}
use Rattle.gv_view.specs.Dictionaries.{IsDictionary, IsValueUnder, IsFirstPart}
use Rattle.gv_view.proofs.Lists.{All-rest}
use Rattle.gv_view.proofs.TreeParts.{array_value, array_parts, entry_value, entry_parts}

-- ---- no entries at other types

no_default : (k : Basic) (key : List ℕ) → IsLookedUp (basic_default k) key None
no_default string key = refl
no_default path key = refl
no_default signature key = refl
no_default _ key = refl

none_in_text : (k : Basic) (o : Option (List ℕ)) (key : List ℕ) → IsLookedUp (text_or_default k o) key None
none_in_text k None key = no_default k key
none_in_text k (Some s) key = go (is_text k s)
  where
    go : (c : Bool) → IsLookedUp (cond c (text k s) (basic_default k)) key None
    go true = refl
    go false = no_default k key

none_in_basic : (k : Basic) (b : List ℕ) (o : Option ℕ) (key : List ℕ) → IsLookedUp (basic_of_size k b o) key None
none_in_basic k b None key = none_in_text k (text_in b) key
none_in_basic k b (Some n) key = go (length b == n) (bits_of k (number_in b))
  where
    go : (c : Bool) (m : ℕ) → IsLookedUp (cond c (number k m) (basic_default k)) key None
    go true m = refl
    go false m = no_default k key

none_in_array : (t : Ty) (vs : Trees) (key : List ℕ) → (IsDictionary (array t) → ⊥) → IsLookedUp (node (array t) vs) key None
none_in_array (entry string t) vs key h = absurd (h (t, refl))
none_in_array (entry _ t) vs key h = refl
none_in_array (basic k) vs key h = refl
none_in_array variant vs key h = refl
none_in_array (array t) vs key h = refl
none_in_array (maybe t) vs key h = refl
none_in_array (tuple ts) vs key h = refl

none_in_tree : (d : Ty) (b : List ℕ) (key : List ℕ) → (IsDictionary d → ⊥) → IsLookedUp (tree_with (λ c. decode c.type (child_bytes b c)) d b) key None
unfolding basic_value
none_in_tree (array t) b key h = none_in_array t (each (λ c. decode c.type (child_bytes b c)) (cut (array t) b)) key h
none_in_tree (basic k) b key h = none_in_basic k b (basic_size k) key
none_in_tree variant b key h = refl
none_in_tree (maybe t) b key h = refl
none_in_tree (tuple ts) b key h = refl
none_in_tree (entry k t) b key h = refl

pub none_elsewhere : (d : Ty) (b : List ℕ) (key : List ℕ) → (IsDictionary d → ⊥) → IsLookedUp (decode d b) key None
none_elsewhere d b key h = subst (λ v. IsLookedUp v key None) (sym (decode_children d b)) (none_in_tree d b key h)

-- ---- an entry

-- the members of an entry whose keys are of this type
pub record IsEntryOf (q : Basic) (d : Ty) (b : List ℕ) : Type 0 where
  pub type : Ty
  pub is : d ≡ entry q type
  pub key : List ℕ
  pub value : List ℕ
  pub members : parts d b ≡ (basic q, key) ∷ (type, value) ∷ []
  pub key_at : tree_at (children (decode d b)) 0 ≡ Some (decode (basic q) key)
  pub value_at : tree_at (children (decode d b)) 1 ≡ Some (decode type value)

own_entry : (q : Basic) (t : Ty) (b : List ℕ) → IsEntryOf q (entry q t) b
unfolding tree_at
own_entry q t b =
    let pair = entry_parts q t b in
    let tree = entry_value q t b in
    record {
      type = t;
      is = refl;
      key = pair.key;
      value = pair.value;
      members = pair.are;
      key_at = ap (λ v. tree_at (children v) 0) tree ∙ ap (λ ps. tree_at (part_trees ps) 0) pair.are;
      value_at = ap (λ v. tree_at (children v) 1) tree ∙ ap (λ ps. tree_at (part_trees ps) 1) pair.are;
    }

entry_of : (q : Basic) (d : Ty) (b : List ℕ) → ((t : Ty) × (d ≡ entry q t)) → IsEntryOf q d b
entry_of q d b h = subst (λ e. IsEntryOf q e b) (sym h.1) (own_entry q h.0 b)

-- an entry has a first member
pub has_first : (q : Basic) (d : Ty) (b : List ℕ) (ps : List Part) → ((t : Ty) × (d ≡ entry q t)) → ps ≡ parts d b → ps ≡ [] → ⊥
has_first q d b ps h e is = let m = entry_of q d b h in nil_no_cons (sym is ∙ (e ∙ m.members))

-- the view of an entry's first member, and what is left after it
pub record IsKeyOf (q : Basic) (d : Ty) (b : List ℕ) (v : View) (rest : List Part) : Type 0 where
  pub entry_is : IsEntryOf q d b
  pub type : view_ty v ≡ basic q
  pub at : tree_at (children (decode d b)) 0 ≡ Some (value v)
  pub left : rest ≡ (entry_is.type, entry_is.value) ∷ []

pub key_first : (q : Basic) (d : Ty) (b : List ℕ) (ps rest : List Part) (v : View) → ((t : Ty) × (d ≡ entry q t)) → ps ≡ parts d b → ps ≡ shown v ∷ rest → IsKeyOf q d b v rest
key_first q d b ps rest v h e is =
    let m = entry_of q d b h in
    let all : shown v ∷ rest ≡ (basic q, m.key) ∷ (m.type, m.value) ∷ [] = sym is ∙ (e ∙ m.members) in
    let same = same_head all in
    record {
      entry_is = m;
      type = ap (λ (p : Part). p.0) same;
      at = m.key_at ∙ ap (λ (p : Part). Some (decode p.0 p.1)) (sym same);
      left = same_tail all;
    }

same_text : (k l : Basic) (s r : List ℕ) → Some (text k s) ≡ Some (text l r) → s ≡ r
same_text k l s r e = cc

-- the key is the text of the first member's view
module _ (q : Basic) (d : Ty) (b : List ℕ) (v : View) (rest : List Part) (s key : List ℕ) (m : IsKeyOf q d b v rest) (h : (k : Basic) × (view_ty v ≡ basic k) × (value v ≡ text k s)) where
  pub has_key : s ≡ key → tree_at (children (decode d b)) 0 ≡ Some (text q key)
  has_key e =
      let k = basic_parts _ _ (sym h.1 ∙ m.type) in
      m.at ∙ (ap Some h.2 ∙ ap₂ (λ l r. Some (text l r)) k e)

  pub key_is : tree_at (children (decode d b)) 0 ≡ Some (text q key) → s ≡ key
  key_is has = same_text _ _ s key (ap Some (sym h.2) ∙ (sym m.at ∙ has))

-- the second member is the value
pub found_value : (e v : View) (rest : List Part) (key : List ℕ) (o : Option View) (after : List Part) → IsKeyOf string (view_ty e) (view_bytes e) v rest → HasKey (value e) key
    → MatchOption o ((rest ≡ []) × (after ≡ [])) (λ u. rest ≡ shown u ∷ after) → MatchOption o (¬ HasKey (value e) key) (IsValueUnder e key)
found_value e v rest key None after m has h = absurd (nil_no_cons (sym h.0 ∙ m.left))
found_value e v rest key (Some u) after m has h =
    let same = same_head (sym h ∙ m.left) in
    record {
      has_key = has;
      value = m.entry_is.value_at ∙ ap (λ (p : Part). Some (decode p.0 p.1)) (sym same);
      type = m.entry_is.is ∙ ap (λ (p : Part). entry string p.0) (sym same);
      lent = ap (λ (ps : List Part). slice_get ps 1) m.entry_is.members ∙ ap Some (sym same);
    }

-- ---- the entries one after the other

-- the value at these parts of a dictionary is that of all of it, whose entries all are of one type
pub record IsRest (d : Ty) (b : List ℕ) (key : List ℕ) (ps : List Part) : Type 0 where
  pub typed : All (λ (p : Part). d ≡ array p.0) ps
  pub found : (f : Option Tree) → IsFirst (part_trees ps) key f → IsLookedUp (decode d b) key f
  pub lent : (f : Option Part) → IsFirstPart ps key f → IsFirstPart (parts d b) key f

dictionary_rest : (t : Ty) (b : List ℕ) (key : List ℕ) → IsRest (array (entry string t)) b key (parts (array (entry string t)) b)
dictionary_rest t b key =
    let d = array (entry string t) in
    record {
      typed = λ k p lt. ap array (sym (array_parts (entry string t) b k p lt));
      found = λ f h. subst (λ v. IsLookedUp v key f) (sym (array_value (entry string t) b)) h;
      lent = λ f h. h;
    }

pub all_of : (d : Ty) (b : List ℕ) (key : List ℕ) (ps : List Part) → IsDictionary d → ps ≡ parts d b → IsRest d b key ps
all_of d b key ps h e = subst (IsRest d b key) (sym e) (subst (λ c. IsRest c b key (parts c b)) (sym h.1) (dictionary_rest h.0 b key))

-- the first entry's type is what the dictionary is of
pub first_typed : (d : Ty) (e : Part) (ps rest : List Part) → All (λ (p : Part). d ≡ array p.0) ps → ps ≡ e ∷ rest → d ≡ array e.0
first_typed d e ps rest h is = subst (λ qs. All (λ (p : Part). d ≡ array p.0) qs) is h 0 e (omega arith)

-- after an entry with another key
pub rest_of : (d : Ty) (b : List ℕ) (key : List ℕ) (ps rest : List Part) (e : View) → IsRest d b key ps → ps ≡ shown e ∷ rest → (HasKey (value e) key → ⊥) → IsRest d b key rest
rest_of d b key ps rest e h is other =
    record {
      typed = All-rest (λ (p : Part). d ≡ array p.0) ps rest (shown e) is h.typed;
      found = λ f first. h.found f (subst (λ qs. IsFirst (part_trees qs) key f) (sym is) (inr (other, first)));
      lent = λ f first. h.lent f (subst (λ qs. IsFirstPart qs key f) (sym is) (inr (other, first)));
    }
