-- A container is written so exactly where its parts are, and it is packed of them.
use Rattle.std.proofs.Common.{ℕ, ◌≡◌, ◌↔◌, map, List, [], ◌∷◌}
use Rattle.std.specs.List.{AllByRecursion}
use Rattle.gv_model.specs.Ty.{Ty}
use Rattle.gv_model.specs.Children.{Child}
use Rattle.gv_model.specs.Decode.{cut}
use Rattle.gv_model.specs.Parts.{part_of, parts}
use Rattle.gv_model.specs.Encode.{packed}
use Rattle.gv_model.specs.Normal.{IsEncoded, IsContainer, IsPartEncoded}
use Rattle.gv_model.proofs.DecodeLaws.{Each}
use Rattle.gv_model.proofs.WellTyped.{IsBytes}
use Rattle.gv_model.proofs.NormalLaws.{ChildWritten, written_from_children, children_written}

all_parts : (b : List ℕ) (cs : List Child) → Each (ChildWritten b) cs → AllByRecursion IsPartEncoded (map (part_of b) cs)
all_parts b [] h = tt
all_parts b (c ∷ cs) h = (h.0, all_parts b cs h.1)

all_children : (b : List ℕ) (cs : List Child) → AllByRecursion IsPartEncoded (map (part_of b) cs) → Each (ChildWritten b) cs
all_children b [] h = tt
all_children b (c ∷ cs) h = (h.0, all_children b cs h.1)

pub container_written : (t : Ty) (b : List ℕ) → IsBytes b → IsContainer t → IsEncoded t b ↔ (AllByRecursion IsPartEncoded (parts t b) × (b ≡ packed t (parts t b)))
unfolding parts
container_written t b bytes k =
    (λ w. let c = children_written t b bytes k w in (all_parts b (cut t b) c.0, c.1), λ h. written_from_children t b k (all_children b (cut t b) h.0) h.1)
