-- The texts of trees' types, one after the other.
use Rattle.std.proofs.Common.{◌≡◌, ℕ, List, [], ◌∷◌, ◌++◌, sym, ap, ◌∙◌, append_assoc}
use Rattle.std.proofs.lemmas.List.{append-nil}
use Rattle.gv_model.specs.Ty.{spelling, spellings}
use Rattle.gv_model.specs.Tree.{Tree as Value, type_of}
use Rattle.gv_model.specs.Typed.{types_of}
use Rattle.gv_tree.specs.Nodes.{trees_of}

-- the texts of the types of some trees
abbrev pub texts : List Value → List ℕ
texts vs = spellings (types_of (trees_of vs))

-- one more text is written
pub text_step : (had now whole : List ℕ) (left next : List Value) (v : Value) → left ≡ v ∷ next → now ≡ had ++ spelling (type_of v) → had ++ texts left ≡ whole → now ++ texts next ≡ whole
unfolding spelling
text_step had now whole left next v e f h =
    ap (λ (s : List ℕ). s ++ texts next) f ∙ append_assoc had (spelling (type_of v)) (texts next) ∙ ap (λ (l : List Value). had ++ texts l) (sym e) ∙ h

-- all are written, and then the closing bracket
pub text_end : (had now opening all closing : List ℕ) (left : List Value) → left ≡ [] → now ≡ had ++ closing → had ++ texts left ≡ opening ++ all → now ≡ opening ++ (all ++ closing)
unfolding spelling
text_end had now opening all closing left e f h =
    f ∙ ap (λ (s : List ℕ). s ++ closing) (sym (append-nil had) ∙ ap (λ (l : List Value). had ++ texts l) (sym e) ∙ h) ∙ append_assoc opening all closing
