-- Looking up a key among the entries of a dictionary of object paths.
use Rattle.std.proofs.Common.{◌≡◌, ℕ, List, [], ◌∷◌, Option, Some, None, ap, sym, subst, ◌∙◌, inr, arith}
use Rattle.std.specs.Prelude.{All, MatchOption}
use Rattle.gv_model.specs.Ty.{Ty}
use Rattle.gv_model.specs.Ty.Ty.{array, entry}
use Rattle.gv_model.specs.Ty.Basic.{path}
use Rattle.gv_model.specs.Tree.{Tree, type_of}
use Rattle.gv_model.specs.Tree.Tree.{node}
use Rattle.gv_model.specs.Decode.{decode}
use Rattle.gv_model.specs.Parts.{Part, parts, part_trees}
use Rattle.gv_model.specs.Entries.{IsLookedUp}
use Rattle.gv_model.proofs.ListLaws.{same_head, nil_no_cons}
use Rattle.gv_model.proofs.WellTyped.{type_of-decode}
use Rattle.gv_view.specs.declared.view.View.{View}
use Rattle.gv_view.specs.Views.{shown, value, view_ty, view_bytes}
use Rattle.gv_view.proofs.EntryLemmas.{IsKeyOf}
use Rattle.gv_view.proofs.Lists.{All-rest}
use Rattle.gv_view.proofs.TreeParts.{array_value, array_parts}
use Rattle.dconfdb_values.specs.Parts.{HasPath, IsFirstPath, IsFound, IsPathDictionary, IsPathEntry, IsUnderPath}

-- ---- at other types it is as of strings

found_in_node : (t : Ty) (v : Tree) (key : List ℕ) (f : Option Tree) → type_of v ≡ t → (IsPathDictionary t → ⊥) → IsLookedUp v key f → IsFound v key f
found_in_node t (node (array (entry path u)) vs) key f e h l = absurd (h (u, sym e))
found_in_node t _ key f e h l = l

pub found_elsewhere : (d : Ty) (b : List ℕ) (key : List ℕ) (f : Option Tree) → (IsPathDictionary d → ⊥) → IsLookedUp (decode d b) key f → IsFound (decode d b) key f
found_elsewhere d b key f h l = found_in_node d (decode d b) key f (type_of-decode d b) h l

-- ---- an entry

-- the second member is the value
pub found_value : (e v : View) (rest : List Part) (key : List ℕ) (o : Option View) (after : List Part) → IsKeyOf path (view_ty e) (view_bytes e) v rest → HasPath (value e) key
    → MatchOption o ((rest ≡ []) × (after ≡ [])) (λ u. rest ≡ shown u ∷ after) → MatchOption o (¬ HasPath (value e) key) (IsUnderPath e key)
found_value e v rest key None after m has h = absurd (nil_no_cons (sym h.0 ∙ m.left))
found_value e v rest key (Some u) after m has h =
    let same = same_head (sym h ∙ m.left) in
    (has, m.entry_is.value_at ∙ ap (λ (p : Part). Some (decode p.0 p.1)) (sym same))

-- ---- the entries one after the other

-- the value at these parts of a dictionary is that of all of it, whose entries all are of one type
pub record IsRest (d : Ty) (b : List ℕ) (key : List ℕ) (ps : List Part) : Type 0 where
  pub typed : All (λ (p : Part). IsPathEntry p.0) ps
  pub found : (f : Option Tree) → IsFirstPath (part_trees ps) key f → IsFound (decode d b) key f

dictionary_rest : (t : Ty) (b : List ℕ) (key : List ℕ) → IsRest (array (entry path t)) b key (parts (array (entry path t)) b)
dictionary_rest t b key =
    record {
      typed = λ k p lt. (t, array_parts (entry path t) b k p lt);
      found = λ f h. subst (λ v. IsFound v key f) (sym (array_value (entry path t) b)) h;
    }

pub all_of : (d : Ty) (b : List ℕ) (key : List ℕ) (ps : List Part) → IsPathDictionary d → ps ≡ parts d b → IsRest d b key ps
all_of d b key ps h e = subst (IsRest d b key) (sym e) (subst (λ c. IsRest c b key (parts c b)) (sym h.1) (dictionary_rest h.0 b key))

-- the first is an entry
pub first_typed : (e : Part) (ps rest : List Part) → All (λ (p : Part). IsPathEntry p.0) ps → ps ≡ e ∷ rest → IsPathEntry e.0
first_typed e ps rest h is = subst (λ qs. All (λ (p : Part). IsPathEntry p.0) qs) is h 0 e (omega arith)

-- after an entry with another key
pub rest_of : (d : Ty) (b : List ℕ) (key : List ℕ) (ps rest : List Part) (e : View) → IsRest d b key ps → ps ≡ shown e ∷ rest → (HasPath (value e) key → ⊥) → IsRest d b key rest
rest_of d b key ps rest e h is other =
    record {
      typed = All-rest (λ (p : Part). IsPathEntry p.0) ps rest (shown e) is h.typed;
      found = λ f first. h.found f (subst (λ qs. IsFirstPath (part_trees qs) key f) (sym is) (inr (other, first)));
    }
